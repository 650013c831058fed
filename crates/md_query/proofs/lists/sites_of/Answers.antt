use Rattle.std.proofs.Common.{ℕ, eqb, List, [], ◌∷◌, ◌++◌, sym, ap, ◌∙◌, arith}
use Rattle.std.proofs.lemmas.Bool.{eq-eqb, ne_eqb}
use Rattle.md_static.specs.declared.entry.Site.{Site}
use Rattle.md_query.proofs.ListSteps.{places_in, places_out}
use Rattle.md_query.proofs.lists.sites_of.Goals as goal
use Rattle.md_query.proofs.lists.sites_of.Goals.{then-number+in_ok-push, else-number}

pub loop-number-preserved : goal.loop-number-preserved
loop-number-preserved c =
    let a = c.number.ensures in
    let b = c.number-in-loop-number.ensures in
    elim c.if-number.branch [
      | then-number+in_ok-push w ↦ (
          let t = w.if-number.true in
          rw w.found-is (w.in_ok-push.ensures.items ∙ ap (λ (xs : List ℕ). xs ++ c.loop-number.number ∷ []) c.loop-number.invariant
          ∙ sym (places_in (λ (s : Site). eqb s.owner c.args.id) c.args.sites.now c.loop-number.number c.index-sites-number.result c.loop-number-test.true c.index-sites-number.is (eq-eqb c.index-sites-number.result.owner c.args.id (omega arith)))))
      | else-number w ↦ (
          let t = w.if-number.false in
          rw w.found-is (c.loop-number.invariant
          ∙ sym (places_out (λ (s : Site). eqb s.owner c.args.id) c.args.sites.now c.loop-number.number c.index-sites-number.result c.loop-number-test.true c.index-sites-number.is (ne_eqb c.index-sites-number.result.owner c.args.id (λ e. absurd (omega arith))))))
    ]
