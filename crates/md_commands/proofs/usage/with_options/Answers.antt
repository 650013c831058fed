use Rattle.std.proofs.Common.{IfOk, subst}
use Rattle.clap.specs.Simple.{App}
use Rattle.md_commands.specs.Lines.{IsApp}
use Rattle.md_commands.proofs.LineLemmas.{options_more}
use Rattle.md_commands.proofs.usage.with_options.Goals as goal

pub returns : goal.returns
returns c app is =
    subst (λ (a : App). IfOk c.with_flag.result (IsApp a)) (options_more c.args.tool app _ _ _ c.first_value.ensures c.second_value.ensures c.flag.ensures)
    (c.with_flag.ensures _ (c.in_ok-second.ensures _ (c.in_ok-first.ensures app is)))
