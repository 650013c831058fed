use Rattle.std.proofs.Common.{◌≡◌, ◌∙◌, sym, ap, subst, Some, ℕ}
use Rattle.std.specs.Option.{option_copied}
use Rattle.md_hlds.specs.declared.program.Program.{Program}
use Rattle.md_hlds.specs.Hlds.{procedure_of, hlds_of, procedure_called}
use Rattle.md_names.specs.Maps.{predicate_told, predicate_in, is_predicate_key}
use Rattle.md_names.proofs.Lookups.{lookup-same}
use Rattle.md_names.proofs.Steps.{same_predicate, key_test}
use Rattle.md_names.proofs.names.Names.predicate.Goals as goal

pub returns : goal.returns
returns c =
    let same : predicate_in c.self.inside.predicates c.args.name.now ≡ predicate_told (option_copied c.get.result)
    = ap predicate_told (lookup-same (is_predicate_key c.args.name.now) (same_predicate c.key_of-key.result) c.self.inside.predicates.entries
    (λ e. sym (key_test c.args.name.now c.key_of-key.result e c.key_of-key.ensures.qualifier c.key_of-key.ensures.name))
    ∙ sym c.get.ensures.value) in
    subst (λ (p : Program). procedure_called (hlds_of p) c.args.name.now ≡ Some (c.new.result, procedure_of c.in_ok-number.field-0.now.1.now))
    c.self.view_is
    (sym (c.self.invariant.0 c.args.name.now)
    ∙ (same ∙ (ap (λ r. predicate_told (option_copied r)) c.in_ok-number.was
    ∙ ap (λ (n : ℕ). Some (n, procedure_of c.in_ok-number.field-0.now.1.now)) (sym c.new.ensures))))
