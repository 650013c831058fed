use Rattle.std.proofs.Common.{◌≡◌, nat_eq, drop, false}
use Rattle.std.specs.List.{list_any, range_with_len, starts_with}
use Rattle.md_people.proofs.text.has_text.Given as goal

-- from none of the places so far on the name begins with the text
abbrev pub invariant-loop-place : goal.invariant-loop-place
invariant-loop-place l = list_any (λ place. starts_with nat_eq (drop place l.name) l.text) (range_with_len 0 l.place) ≡ false
