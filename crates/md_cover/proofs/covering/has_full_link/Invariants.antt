use Rattle.std.proofs.Common.{◌≡◌, ℕ, ◌<◌, ◌^◌, false, get_or, take}
use Rattle.std.specs.List.{list_any}
use Rattle.md_dynamic.specs.declared.link.LinkRow.{LinkRow}
use Rattle.md_cover.specs.Coverage.{has_full_count}
use Rattle.md_cover.proofs.covering.has_full_link.Given as goal

-- none of the links so far is full, nor has too many exits
abbrev pub invariant-loop-link : goal.invariant-loop-link
invariant-loop-link l =
    (list_any (λ r. has_full_count r.own) (take l.link-index l.links) ≡ false) × ((k : ℕ) (d : LinkRow) → k < l.link-index → (get_or l.links k d).own.exits < 2 ^ 32)
