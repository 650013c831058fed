use Rattle.std.proofs.Common.{◌≡◌, ℕ, List, ◌++◌, Option, codes, sym, ap, ◌∙◌}
use Rattle.std.specs.Prelude.{unwrap_or}
use Rattle.std.specs.Fmt.{decimal}
use Rattle.std.proofs.lemmas.Bool.{ne_eqb}
use Rattle.std.proofs.lemmas.List.{append_assoc}
use Rattle.md_cost.specs.View.{OfContext}
use Rattle.md_people.specs.Counts.{own_counts}
use Rattle.md_people.specs.Flame.{joined, shortened, station_names}
use Rattle.md_people.proofs.flame.add_flame.Goals as goal

pub returns : goal.returns
returns c = λ v is.
    let old = c.args.out.now.items in
    let names = joined (shortened (station_names v c.args.node)) in
    let own : own_counts v (OfContext c.args.node) c.args.by ≡ c.of-own.result = ap (λ (o : Option ℕ). unwrap_or o 0) (c.node_own.ensures v c.args.by is) ∙ sym c.of-own.ensures in
    let some : own_counts v (OfContext c.args.node) c.args.by ≡ 0 → ⊥ = λ e. c.if-own-eq0.false (sym own ∙ e) in
    rw (ne_eqb (own_counts v (OfContext c.args.node) c.args.by) 0 some) (
    c.in_ok-add_own.ensures ∙ ap (λ (w : List ℕ). w ++ (codes " " ++ (decimal c.of-own.result ++ codes "\n"))) (c.in_ok-add_stations.ensures v is)
    ∙ append_assoc old names (codes " " ++ (decimal c.of-own.result ++ codes "\n"))
    ∙ ap (λ (n : ℕ). old ++ (names ++ (codes " " ++ (decimal n ++ codes "\n")))) (sym own))
