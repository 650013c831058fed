use Rattle.std.proofs.Common.{◌∙◌, ◌<◌, sym, ap, subst, arith}
use Rattle.md_cover.specs.Known.{Rounds, last, more, Table, table_of, back_of}
use Rattle.md_cover.proofs.Blanks.{blanks, round_less, back_fewer}
use Rattle.md_cover.proofs.solving.Known.solve.Goals as goal

pub loop-self-smaller : goal.loop-self-smaller
loop-self-smaller c =
    let less : blanks (table_of c.round.new.self) < blanks (table_of c.loop-self.self) = subst (λ (t : Table). blanks t < blanks (table_of c.loop-self.self)) (sym c.round.ensures.known)
    (round_less (table_of c.loop-self.self) c.args.equations.now (sym c.round.ensures.changed ∙ c.loop-self-test.true)) in
    let fewer = back_fewer (table_of c.round.new.self) c.args.equations.now in
    subst (λ (t : Table). blanks t < blanks (table_of c.loop-self.self)) (sym c.round_back.ensures) (omega (arith, less, fewer))

pub loop-self-preserved : goal.loop-self-preserved
loop-self-preserved c = λ u r.
    c.loop-self.invariant u (more (table_of c.loop-self.self) u (subst (λ (t : Table). Rounds c.args.equations.now t u)
    (c.round_back.ensures ∙ ap (λ (t : Table). back_of t c.args.equations.now) c.round.ensures.known) r))

pub returns : goal.returns
returns c =
    c.loop-self.invariant (table_of c.round.new.self) (subst (λ (t : Table). Rounds c.args.equations.now (table_of c.loop-self.self) t) (sym c.round.ensures.known)
    (last (table_of c.loop-self.self) (sym c.round.ensures.changed ∙ c.loop-self-test.false)))
