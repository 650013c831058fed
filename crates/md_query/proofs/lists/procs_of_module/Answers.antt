use Rattle.std.proofs.Common.{ℕ, eqb, List, [], ◌∷◌, ◌++◌, sym, ap, ◌∙◌, arith}
use Rattle.std.proofs.lemmas.Bool.{eq-eqb, ne_eqb}
use Rattle.md_static.specs.declared.entry.Proc.{Proc}
use Rattle.md_query.proofs.ListSteps.{places_in, places_out}
use Rattle.md_query.proofs.lists.procs_of_module.Goals as goal
use Rattle.md_query.proofs.lists.procs_of_module.Goals.{then-proc-id+in_ok-push, else-proc-id}

pub loop-number-preserved : goal.loop-number-preserved
loop-number-preserved c = elim c.if-proc-id.branch [
  | then-proc-id+in_ok-push w ↦ (
      let t = w.if-proc-id.true in
      rw w.found-is (w.in_ok-push.ensures.items ∙ ap (λ (xs : List ℕ). xs ++ c.loop-number.number ∷ []) c.loop-number.invariant
      ∙ sym (places_in (λ (p : Proc). eqb p.module c.args.id) c.args.procs.now c.loop-number.number c.index-procs-number.result c.loop-number-test.true c.index-procs-number.is (eq-eqb c.index-procs-number.result.module c.args.id (omega arith)))))
  | else-proc-id w ↦ (
      let t = w.if-proc-id.false in
      rw w.found-is (c.loop-number.invariant
      ∙ sym (places_out (λ (p : Proc). eqb p.module c.args.id) c.args.procs.now c.loop-number.number c.index-procs-number.result c.loop-number-test.true c.index-procs-number.is (ne_eqb c.index-procs-number.result.module c.args.id (λ e. absurd (omega arith))))))
]
