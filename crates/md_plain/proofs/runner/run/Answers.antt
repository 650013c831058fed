use Rattle.std.proofs.Common.{ap, ◌∙◌, sym}
use Rattle.md_hlds.specs.Hlds.{hlds_of, procedures_of, find_procedure}
use Rattle.md_hlds.specs.Run.{main_name}
use Rattle.md_plain.specs.Names.{option_procedure}
use Rattle.md_plain.proofs.RunLemmas.{no_main}
use Rattle.md_plain.proofs.runner.run.Goals as goal

pub returns-in-None : goal.returns-in-None
returns-in-None c =
    no_main (hlds_of c.args.program.now) c.args.budget
    (sym (ap option_procedure c.in-None.is) ∙ (c.in_ok-found.ensures ∙ ap (λ ps. find_procedure main_name 0 (procedures_of ps)) c.as_slice.ensures.value))

pub run_main-requires : goal.run_main-requires
run_main-requires c =
    sym (ap option_procedure c.in-Some.is) ∙ (c.in_ok-found.ensures ∙ ap (λ ps. find_procedure main_name 0 (procedures_of ps)) c.as_slice.ensures.value)
