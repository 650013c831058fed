use Rattle.std.proofs.Common.{◌≡◌, ◌∙◌, ap, sym, Some}
use Rattle.std.proofs.lemmas.Result.{IfOk-weaker}
use Rattle.md_hlds.specs.Hlds.{hlds_of}
use Rattle.md_static.specs.Tables.{Static}
use Rattle.md_commands.specs.Told.{meant}
use Rattle.md_tool.specs.Turns.{number_in}
use Rattle.md_tool.proofs.CoverLemmas.{meant_turns}
use Rattle.md_tool.proofs.turns.loaded_turns.Goals as goal

pub returns-in-Some : goal.returns-in-Some
returns-in-Some c =
    let m = meant c.args.proc in
    let found : number_in c.args.loaded.now.profile.statics m ≡ Some c.in-Some.id = sym (rw (c.statics.ensures, c.profile.ensures.profile) at c.in_ok-id.ensures) ∙ c.in-Some.is in
    IfOk-weaker c.turns_of.result _ _
    (λ text turns budget bounds p.
    meant_turns (hlds_of c.args.checked.now) m c.in-Some.id budget text (ap (λ (s : Static). number_in s m) (sym p.tables) ∙ found) (turns budget bounds p))
    c.turns_of.ensures
