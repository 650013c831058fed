-- What is known of the link that is looked at: it is the last one that is left of a node of the last part.
use Rattle.std.proofs.Common.{◌≡◌, ◌⊎◌, ℕ, ◌+◌, ◌-◌, ◌<◌, ◌≤◌, List, length, get_or, Option, Some, None, refl, sym, ◌∙◌, inl, inr, arith}
use Rattle.std.proofs.lemmas.Bool.{cases_lt}
use Rattle.std.proofs.lemmas.List.{get_or_read, get_or_past}
use Rattle.std.proofs.lemmas.Option.{slice_get-get_or}
use Rattle.md_trace.specs.Reaches.{Reaches, here, more}
use Rattle.md_clique.specs.declared.search.State.{State}
use Rattle.md_clique.specs.declared.search.State.TheVariants.{New, Open, Closed}
use Rattle.md_clique.specs.declared.adjacency.Adjacency.{Adjacency}
use Rattle.md_clique.specs.declared.search.Pending.{Pending}
use Rattle.md_clique.specs.Links.{AreListed, AreWithin, start_of, end_of}
use Rattle.md_clique.specs.Search.{Kept, Stands, IsSettled, MayEnter, MayJoin, MayPass, last_first, last_pending, state_of}
use Rattle.md_clique.proofs.Parts.{not_later_than_last}
use Rattle.md_clique.proofs.Walks.{walk_on}

-- a node that isn't new is there
pub open_there : (states : List State) (v i : ℕ) → state_of states v ≡ Open i → v < length states
open_there states v i is = elim (cases_lt v (length states)) [
  | inl l ↦ l
  | inr g ↦ (let n : state_of states v ≡ New = get_or_past states v New g in let o : New ≡ Open i = sym n ∙ is in cc)
]

-- a node of the trail is there
pub node_there : (links : List (ℕ × ℕ)) (lists : Adjacency) (but : Option ℕ) (k : Kept) → Stands links lists but k → (i : ℕ) → i < length k.trail → get_or k.trail i 0 < length k.states
node_there links lists but k stands i there = open_there k.states (get_or k.trail i 0) i (stands.trail.placed i there)

-- the last pending node, which is in the last part and has a link left
pub record Looking (k : Kept) (last : Pending) : Type 0 where
  pub some : 0 < length k.pending
  pub is_last : last ≡ last_pending k.pending
  pub in_last : last_first k.first ≤ last.place
  pub left : last.from ≡ last.to → ⊥

module _ (links : List (ℕ × ℕ)) (lists : Adjacency) (k : Kept) (listed : AreListed links (length k.states) lists.starts.items lists.ends.items) (stands : Stands links lists None k) (last : Pending) (look : Looking k last) where
  at : length k.pending - 1 < length k.pending
  at = let some = look.some in omega arith

  above : last.place < length k.trail
  above = rw look.is_last (stands.waiting.within (length k.pending - 1) at)

  v : ℕ
  v = get_or k.trail last.place 0

  there : get_or k.trail last.place 0 < length k.states
  there = node_there links lists None k stands last.place above

  begins : last.from ≡ get_or lists.starts.items (get_or k.trail last.place 0) 0
  begins = rw look.is_last (stands.waiting.begins (length k.pending - 1) at)

  pub some_left : last.from < last.to
  some_left = let le : last.from ≤ last.to = rw look.is_last (stands.waiting.some (length k.pending - 1) at) in let apart = look.left in omega arith

  theirs : last.to ≤ get_or lists.starts.items (get_or k.trail last.place 0 + 1) 0
  theirs = rw look.is_last (stands.waiting.theirs (length k.pending - 1) at)

  pub end_there : last.to - 1 < length lists.ends.items
  end_there = let within = listed.within (get_or k.trail last.place 0) there in let to = theirs in let some = some_left in omega arith

  its_link : (t : ℕ) × (t < length links) × (start_of links t ≡ get_or k.trail last.place 0) × (end_of links t ≡ get_or lists.ends.items (last.to - 1) 0)
  its_link = let some = some_left in let to = theirs in let from = begins in listed.theirs (get_or k.trail last.place 0) (last.to - 1) there (omega arith) (omega arith)

  steps : Reaches links (get_or k.trail last.place 0) (get_or lists.ends.items (last.to - 1) 0)
  steps =
      let t = its_link in
      let walk : Reaches links (start_of links t.0) (end_of links t.0) = more t.0 (start_of links t.0) (end_of links t.0) (end_of links t.0) (slice_get-get_or links t.0 (0, 0) t.1) (here (end_of links t.0)) in
      rw (t.2, t.3) at walk

  reached : (i : ℕ) → i < length k.trail → Reaches links (get_or k.trail i 0) (get_or lists.ends.items (last.to - 1) 0)
  reached i lt = walk_on links _ (get_or k.trail last.place 0) _
      (stands.walked.reaches i last.place lt above (not_later_than_last k.first (length k.trail) i last.place stands.parts look.in_last))
      steps

  pub link_within : AreWithin links (length k.states) → get_or lists.ends.items (last.to - 1) 0 < length k.states
  link_within within = let t = its_link in rw (t.3) at (within.ends t.0 t.1)

  may_pass : (but : Option ℕ) → IsSettled k.first k.states last.place (get_or lists.ends.items (last.to - 1) 0) ⊎ (but ≡ Some (get_or lists.ends.items (last.to - 1) 0)) → MayPass lists but k
  may_pass but done = record {
    some = look.some;
    left = rw (← look.is_last) some_left;
    settled = rw (← look.is_last) done;
  }

  pub may_enter : AreWithin links (length k.states) → state_of k.states (get_or lists.ends.items (last.to - 1) 0) ≡ New → MayEnter links k (get_or lists.ends.items (last.to - 1) 0) × MayPass lists (Some (get_or lists.ends.items (last.to - 1) 0)) k
  may_enter within is = (record { there = link_within within; is_new = is; reached = reached }, may_pass (Some (get_or lists.ends.items (last.to - 1) 0)) (inr refl))

  pub may_join : (j : ℕ) → state_of k.states (get_or lists.ends.items (last.to - 1) 0) ≡ Open j → j < last_first k.first → MayJoin links k
  may_join j is earlier = let o = stands.trail.opened (get_or lists.ends.items (last.to - 1) 0) j is in
      record { i = last.place; j = j; in_last = look.in_last; above = above; earlier = earlier; reached = rw (o.1) (reached last.place above) }

  pub may_pass_open : (j : ℕ) → state_of k.states (get_or lists.ends.items (last.to - 1) 0) ≡ Open j → last_first k.first ≤ j → MayPass lists None k
  may_pass_open j is late = may_pass None (inl (inr (j, is, not_later_than_last k.first (length k.trail) last.place j stands.parts late)))

  pub may_pass_closed : (c : ℕ) → state_of k.states (get_or lists.ends.items (last.to - 1) 0) ≡ Closed c → MayPass lists None k
  may_pass_closed c is = may_pass None (inl (inl (c, is)))

-- the state that is read there
pub state_read : (states : List State) (v : ℕ) → v < length states → (s : State) → s ≡ get_or states v s → (is : State) → s ≡ is → state_of states v ≡ is
state_read states v there s read is e = sym (get_or_read states v s there read New) ∙ e
