use Rattle.std.proofs.Common.{◌≡◌, ℕ, ◌<◌, List, [], ◌∷◌, ◌++◌, length, get_or, map, take, Some, sym, ap, ◌∙◌}
use Rattle.std.specs.Prelude.{All}
use Rattle.std.proofs.lemmas.List.{map_more, take_all}
use Rattle.md_trace.specs.Context.{same_option}
use Rattle.md_dynamic.specs.declared.link.LinkRow.{LinkRow}
use Rattle.md_people.specs.Context.{callee_row}
use Rattle.md_people.specs.Ports.{PortsRow}
use Rattle.md_people.proofs.Links.{places_there}
use Rattle.md_people.proofs.callee.callee_rows.Goals as goal

pub callee_row-requires : goal.callee_row-requires
callee_row-requires c =
    let links = c.args.loaded.now.profile.links in
    let from = c.links_from-links.result.now in
    let all : All (λ q. q < length links) from = rw c.links_from-links.ensures.links (places_there (λ (r : LinkRow). same_option r.caller (Some c.args.node)) links) in
    let there : c.new.result < length links = rw c.new.ensures (all c.loop-place.place 0 c.loop-place-test.true) in
    record { there = there }

pub loop-place-preserved : goal.loop-place-preserved
loop-place-preserved c = λ v is.
    let f = callee_row v c.args.by in
    let from = c.links_from-links.result.now in
    let i = c.loop-place.place in
    let at : c.new.result ≡ get_or from i 0 = c.new.ensures in
    c.in_ok-push.ensures.items ∙ ap (λ (rs : List PortsRow). rs ++ c.in_ok-row.row ∷ []) (c.loop-place.invariant v is)
    ∙ ap (λ (r : PortsRow). map f (take i from) ++ r ∷ []) (c.in_ok-row.ensures v is ∙ ap (λ (d : ℕ). f d) at)
    ∙ sym (map_more f from i 0 c.loop-place-test.true)

pub returns : goal.returns
returns c = λ v is.
    let f = callee_row v c.args.by in
    let from = c.links_from-links.result.now in
    c.loop-place.invariant v is ∙ ap (λ (ls : List ℕ). map f ls) (take_all c.loop-place.place from c.loop-place-test.false ∙ c.links_from-links.ensures.view v is)
