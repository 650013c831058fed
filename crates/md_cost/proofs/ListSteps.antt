-- What is laid out by numbers is listed as the profile says.
use Rattle.std.proofs.Common.{◌≡◌, ℕ, zero, suc, ◌+◌, ◌<◌, Bool, eqb, List, [], ◌∷◌, ◌++◌, length, get_or, map, take, Option, Some, None, refl, ap, ◌∙◌, inl, inr, arith}
use Rattle.std.specs.Prelude.{unwrap_or, All, IfOk, IfSome, Result, Ok, Err}
use Rattle.std.proofs.lemmas.List.Elements.{All-head, All-tail}
use Rattle.std.proofs.lemmas.Bool.{cases_Bool, ne_eqb}
use Rattle.std.proofs.lemmas.List.{take_more, map_push, length-map}
use Rattle.md_trace.specs.Context.{same_option}
use Rattle.md_dynamic.specs.declared.link.LinkRow.{LinkRow}
use Rattle.md_clique.specs.Cliques.{members_of}
use Rattle.md_clique.specs.Places.{places, places_from}
use Rattle.md_cost.specs.FileView.{join_of}
use Rattle.md_cost.specs.View.{Join}
use Rattle.md_clique.specs.declared.members.Layout.{Layout}
use Rattle.md_clique.specs.Members.{AreLaidOut}
use Rattle.md_cost.specs.Lists.{AreByStart, starts_of}

-- where two tests agree on what two functions give, they pass the same places
pub places_agree : {X Y Z : Type 0} (p : Y → Bool) (q : Z → Bool) (g : X → Y) (h : X → Z) (k : ℕ) (xs : List X) → ((x : X) → p (g x) ≡ q (h x)) → places_from p k (map g xs) ≡ places_from q k (map h xs)
places_agree p q g h k [] same = refl
places_agree p q g h k (x ∷ xs) same =
    let rest = places_agree p q g h (k + 1) xs same in
    elim (cases_Bool (q (h x))) [
      | inl holds ↦ rw (same x, holds) (ap (λ (ys : List ℕ). k ∷ ys) rest)
      | inr fails ↦ rw (same x, fails) rest
    ]

map_id : {X : Type 0} (xs : List X) → map (λ x. x) xs ≡ xs
map_id [] = refl
map_id {X} (x ∷ xs) = ap (λ (ys : List X). x ∷ ys) (map_id xs)

-- a start is the context c below n, or there is none
start_is : (n c : ℕ) (o : Option ℕ) → c < n → eqb (unwrap_or o n) c ≡ same_option o (Some c)
start_is n c None lt = ne_eqb n c (λ e. absurd (omega arith))
start_is n c (Some a) lt = refl

-- the links that start in a context
pub links_from_is : (n c : ℕ) (links : List LinkRow) → c < n → members_of (starts_of n links) c ≡ places (λ r. same_option r.caller (Some c)) links
links_from_is n c links lt =
    places_agree (λ (s : ℕ). eqb s c) (λ (r : LinkRow). same_option r.caller (Some c)) (λ (r : LinkRow). unwrap_or r.caller n) (λ (r : LinkRow). r) 0 links (λ r. start_is n c r.caller lt)
    ∙ ap (λ (rs : List LinkRow). places_from (λ (r : LinkRow). same_option r.caller (Some c)) 0 rs) (map_id links)

pub joins_from_is : (n c : ℕ) (links : List LinkRow) → c < n → members_of (starts_of n links) c ≡ places (λ x. same_option x.caller (Some c)) (map join_of links)
joins_from_is n c links lt =
    places_agree (λ (s : ℕ). eqb s c) (λ (x : Join). same_option x.caller (Some c)) (λ (r : LinkRow). unwrap_or r.caller n) join_of 0 links (λ r. start_is n c r.caller lt)

pub starts_more : (n i : ℕ) (links : List LinkRow) (row : LinkRow) → i < length links → row ≡ get_or links i row → starts_of n (take (i + 1) links) ≡ starts_of n (take i links) ++ unwrap_or row.caller n ∷ []
starts_more n i links row lt is =
    let next : take (i + 1) links ≡ take i links ++ row ∷ [] = take_more links i row lt ∙ (rw (← is) refl) in
    rw next (map_push (λ (r : LinkRow). unwrap_or r.caller n) (take i links) row)

pub length-starts_of : (n : ℕ) (links : List LinkRow) → length (starts_of n links) ≡ length links
length-starts_of n links = length-map links (λ (r : LinkRow). unwrap_or r.caller n)

start_below : (n : ℕ) (o : Option ℕ) → IfSome o (λ c. c < n) → unwrap_or o n < n + 1
start_below n None there = omega arith
start_below n (Some c) there = omega (arith, there)

pub starts_below : (n : ℕ) (links : List LinkRow) → All (λ r. IfSome r.caller (λ c. c < n)) links → (v : ℕ) → v < length (starts_of n links) → get_or (starts_of n links) v 0 < n + 1
starts_below n [] all v lt = absurd (omega arith)
starts_below n (x ∷ xs) all zero lt = start_below n x.caller (All-head (λ (r : LinkRow). IfSome r.caller (λ c. c < n)) x xs all)
starts_below n (x ∷ xs) all (suc v) lt = starts_below n xs (All-tail (λ (r : LinkRow). IfSome r.caller (λ c. c < n)) x xs all) v (omega arith)

pub if_some : {P : ℕ → Type 0} (o : Option ℕ) → ((c : ℕ) → o ≡ Some c → P c) → IfSome o P
if_some None h = tt
if_some (Some c) h = h c refl

-- what is laid out by where the links start
pub by_start : {E : Type 0} (n : ℕ) (links : List LinkRow) (r : Result Layout E) → IfOk r (λ layout. AreLaidOut (starts_of n links) layout.order.items layout.starts.items (n + 1)) → IfOk r (λ layout. length layout.starts.items ≡ n + 1 + 1)
    → IfOk r (λ layout. (p : ℕ) → p < length layout.order.items → get_or layout.order.items p 0 < length (starts_of n links)) → IfOk r (λ layout. AreByStart n links layout)
by_start n links (Ok layout) laid each places = record { laid = laid; each = each; places = λ p lt. rw length-starts_of at (places p lt) }
by_start n links (Err e) laid each places = tt
