use Rattle.std.proofs.Common.{◌≡◌, ◌≢◌, length, sym, ap, ◌∙◌}
use Rattle.md_hlds.specs.HldsGoal.{At, goals_of}
use Rattle.md_hlds.proofs.Bridge.{expr_of-Conj}
use Rattle.md_reader.specs.Rules.{first_line}
use Rattle.md_reader.proofs.Goals.{joined_many}
use Rattle.md_reader.proofs.goal.joined.Goals as goal

pub returns : goal.returns
returns c =
    let gs = c.args.units.items in
    let several : length gs ≢ 1 = λ h. c.if-len-eq1.false (c.len.ensures ∙ sym c.deref.ensures.len ∙ ap length c.deref.ensures.value ∙ h) in
    let line : c.first_line-line.result ≡ first_line (goals_of gs) = c.first_line-line.ensures ∙ ap (λ gs. first_line (goals_of gs)) c.deref.ensures.value in
    rw (joined_many gs several, line) (ap (At (first_line (goals_of gs))) (expr_of-Conj c.args.units))
