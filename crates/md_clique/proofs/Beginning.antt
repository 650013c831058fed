-- A search that has entered no node stands.
use Rattle.std.proofs.Common.{◌≡◌, ◌<◌, ◌^◌, ℕ, List, [], replicate, None, refl, inl, inr, arith}
use Rattle.std.proofs.lemmas.Bool.{cases_lt}
use Rattle.std.proofs.lemmas.List.{get_or_past, get_or-replicate, length-replicate}
use Rattle.std.proofs.lemmas.List.Sums.{count_by-le-length}
use Rattle.md_clique.specs.declared.search.State.TheVariants.{New, Open, Closed}
use Rattle.md_clique.specs.declared.adjacency.Adjacency.{Adjacency}
use Rattle.md_clique.specs.Search.{Stands, state_of, is_new}

new_states : (n v : ℕ) → state_of (replicate n New) v ≡ New
new_states n v = elim (cases_lt v n) [
  | inl l ↦ get_or-replicate n v New New l
  | inr g ↦ get_or_past (replicate n New) v New (rw length-replicate g)
]

not_open : (n v i : ℕ) → state_of (replicate n New) v ≡ Open i → ⊥
not_open n v i is = (let new = new_states n v in cc (new, is))

not_closed : (n v c : ℕ) → state_of (replicate n New) v ≡ Closed c → ⊥
not_closed n v c is = (let new = new_states n v in cc (new, is))

pub begins : (links : List (ℕ × ℕ)) (lists : Adjacency) (nodes : ℕ) → nodes < 2 ^ 32 →
    Stands links lists None (record { trail = []; first = []; pending = []; states = replicate nodes New; count = 0 })
begins links lists nodes fits = record {
  trail = record { placed = λ i low. absurd (omega (arith, low)); opened = λ v i is. absurd (not_open nodes v i is) };
  parts = record {
    covers = λ e. refl;
    bottom = refl;
    rising = λ a b less low. absurd (omega (arith, low));
    within = λ a low. absurd (omega (arith, low));
  };
  waiting = record {
    rising = λ a b less low. absurd (omega (arith, low));
    within = λ a low. absurd (omega (arith, low));
    begins = λ a low. absurd (omega (arith, low));
    some = λ a low. absurd (omega (arith, low));
    theirs = λ a low. absurd (omega (arith, low));
  };
  walked = record { reaches = λ i j low. absurd (omega (arith, low)) };
  settled = record { settled = λ i p low. absurd (omega (arith, low)) };
  closed = record {
    together = λ u v c is. absurd (not_closed nodes u c is);
    falls = λ t c low is. absurd (not_closed nodes _ c is);
    below = λ v c is. absurd (not_closed nodes v c is);
  };
  room = record {
    on_trail = (let few = count_by-le-length is_new (replicate nodes New) in omega (arith, few));
    in_classes = (let few = count_by-le-length is_new (replicate nodes New) in omega (arith, few));
    fits = rw length-replicate fits;
  };
}
