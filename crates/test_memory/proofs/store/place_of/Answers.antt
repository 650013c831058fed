use Rattle.std.proofs.Common.{List, ℕ, sym, ◌∙◌, ap, arith}
use Rattle.std.specs.Str.{bytes_eq}
use Rattle.test_memory.proofs.Stored.{place_here, place_passed, ended}
use Rattle.test_memory.proofs.store.place_of.Goals as goal

pub returns-then-eq-clause-there : goal.returns-then-eq-clause-there
returns-then-eq-clause-there c =
    c.loop-place.invariant ∙ place_here c.args.name.now c.args.files.now c.loop-place.place c.index-files-place.result c.loop-place-test.true c.index-files-place.is (sym c.if-eq.true ∙ c.eq.ensures ∙ ap (λ (other : List ℕ). bytes_eq c.args.name.now other) c.as_str.ensures.value)

pub loop-place-preserved : goal.loop-place-preserved
loop-place-preserved c =
    c.loop-place.invariant ∙ place_passed c.args.name.now c.args.files.now c.loop-place.place c.index-files-place.result c.loop-place-test.true c.index-files-place.is (sym c.if-eq.false ∙ c.eq.ensures ∙ ap (λ (other : List ℕ). bytes_eq c.args.name.now other) c.as_str.ensures.value)

pub returns-clause-absent : goal.returns-clause-absent
returns-clause-absent c = ended c.args.name.now c.args.files.now c.loop-place.place c.loop-place.invariant (omega (arith, c.loop-place-test.false))
