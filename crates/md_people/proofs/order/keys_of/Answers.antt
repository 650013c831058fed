use Rattle.std.proofs.Common.{◌≡◌, ℕ, List, [], ◌∷◌, ◌++◌, get_or, map, sym, ap, ◌∙◌, arith}
use Rattle.std.proofs.lemmas.List.{get_or_default, map_push}
use Rattle.std.proofs.lemmas.List.Elements.{All-push}
use Rattle.md_people.specs.Order.{IsKeyOf, Key}
use Rattle.md_people.specs.Ports.{PortsRow}
use Rattle.md_people.proofs.Ranges.{range_more}
use Rattle.md_people.proofs.order.keys_of.Goals as goal

pub loop-place-preserved : goal.loop-place-preserved
loop-place-preserved c =
    let rows = c.args.rows.now in
    let i = c.loop-place.place in
    let row = c.index-rows-place.result in
    let key : Key = (record { 0 = c.total.result }, record { 0 = c.own.result }, i) in
    let at : (d : PortsRow) → get_or rows i d ≡ row = λ d. get_or_default rows i d row c.loop-place-test.true ∙ sym c.index-rows-place.is in
    let fits = c.own.type_inv in
    record {
      places =
          ap (λ (xs : List Key). map (λ (x : Key). x.2) xs) c.in_ok-push.ensures.items ∙ map_push (λ (x : Key). x.2) c.loop-place.keys.items key
          ∙ ap (λ (xs : List ℕ). xs ++ i ∷ []) c.loop-place.invariant.places ∙ sym (range_more i);
      keys = rw c.in_ok-push.ensures.items (All-push (IsKeyOf rows) c.loop-place.keys.items key c.loop-place.invariant.keys (record {
        there = c.loop-place-test.true;
        small = omega arith;
        total = λ d. ap (λ (r : PortsRow). r.total) (at d) ∙ sym c.total.ensures.total;
        calls = λ d. ap (λ (r : PortsRow). r.own.calls) (at d) ∙ sym c.own.ensures;
      }));
    }
