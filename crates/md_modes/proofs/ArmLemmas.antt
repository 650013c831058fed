-- The arms of a branch that were checked so far.
use Rattle.std.proofs.Common.{Bool, Err, IfOk, List, None, Ok, Option, Result, Some, [], ap, append-nil, arith, false, inl, inr, length, not, refl, slice_index, subst, sym, true, ℕ, ◌&&◌, ◌++◌, ◌<◌, ◌||◌, ◌∙◌, ◌∷◌, ◌≡◌, ◌≢◌, ◌⊎◌}
use Rattle.md_base.specs.declared.number.NoMemory.{NoMemory}
use Rattle.md_modes.specs.declared.joined.Joined.{Joined}
use Rattle.md_modes.specs.declared.end.End.{End}
use Rattle.md_modes.specs.declared.joined.Shared.{Shared}
use Rattle.md_modes.specs.declared.nonlocals.View.{View}
use Rattle.md_inst.specs.Common.{is_alike}
use Rattle.md_inst.specs.Instantiation.{InstMap, known_at, put, is_bound, times}
use Rattle.md_inst.specs.Kinds.{inst_map_of}
use Rattle.md_modes.specs.Branches.{After, after, reachable, joined, in_common, all_have, some_unlike, some_of, clash}
use Rattle.md_modes.specs.Shares.{numbers, common_at, commons, kept, begun, lost, gained, some_clash}
use Rattle.md_modes.specs.Views.{seen, put_verdict, seen_ends, Leaves, AllLeave}
use Rattle.md_modes.specs.Joins.{Joins, IsJoin, IsArm, IsEnd, IsSettled, Ends, end_of}
use Rattle.md_modes.proofs.JoinLemmas.{reachable-more, all_have-more, some_unlike-more}
use Rattle.std.proofs.lemmas.Bool.{cases_eq}
use Rattle.md_modes.proofs.InstantiationLemmas.{length-put, length-in_common}
use Rattle.md_modes.proofs.Leaving.{leaves_self}
use Rattle.md_modes.proofs.Views.{restored, length-seen, known_at-seen}
use Rattle.md_modes.proofs.Sharing.{settled_is, kept_shares, shares_along, begun_shares, differ_by, clash_by}

pub first_arm : (p : ℕ → Bool) (s q : InstMap) (j : Joined) (rs : List InstMap) → Joins p s j q [] → IsJoin p s None rs → IsJoin p s (Some j) (rs ++ q ∷ [])
first_arm p s q j [] h n = h
first_arm p s q j (r ∷ rs) h n = absurd n

-- the first arm
pub begun_ok : (p : ℕ → Bool) (e : End) (m : InstMap) (r : Result Joined NoMemory) → m ≡ end_of e
    → IfOk r (λ j. (p : ℕ → Bool) → length m ≡ length (inst_map_of e.view.before.now) → Joins p (inst_map_of e.view.before.now) j m [])
    → IfOk r (λ more. (s : InstMap) → (rs : List InstMap) → IsEnd e s → IsJoin p (inst_map_of e.view.before.now) None rs
    → IsJoin p (inst_map_of e.view.before.now) (Some more) (rs ++ end_of e ∷ []))
begun_ok p e m (Ok j) is h =
    λ s rs arm n.
    let places = e.view.outside.local.now.places.items in
    let size : length m ≡ length (inst_map_of e.view.before.now) =
    ap length is ∙ (length-seen places (inst_map_of e.insts.now) ∙ (sym (length-seen places s) ∙ sym (ap length arm.before))) in
    rw (← is) (first_arm p (inst_map_of e.view.before.now) m j rs (h p size) n)
begun_ok p e m (Err x) is h = tt

-- another arm
pub added_ok : (p : ℕ → Bool) (e : End) (old new : Joined) (s : InstMap) (rs : List InstMap)
    → ((r : InstMap) → (qs : List InstMap) → Joins p (inst_map_of e.view.before.now) old r qs → Joins p (inst_map_of e.view.before.now) new r (qs ++ end_of e ∷ []))
    → IsJoin p (inst_map_of e.view.before.now) (Some old) rs → IsJoin p (inst_map_of e.view.before.now) (Some new) (rs ++ end_of e ∷ [])
added_ok p e old new s [] h j = absurd j
added_ok p e old new s (r ∷ rs) h j = h r rs j

-- an arm whose end isn't reachable
pub ends_skip : (p : ℕ → Bool) (s : InstMap) (j : Option Joined) (ends : List After) (q : InstMap) (reach : Bool) → reach ≡ false → Ends p s j ends → Ends p s j (ends ++ after q reach ∷ [])
ends_skip p s j ends q reach e h = rw e (record { joined = rw (reachable-more, append-nil) h.joined })

-- one whose end is
pub ends_more : (p : ℕ → Bool) (s : InstMap) (j : Joined) (ends : List After) (q : InstMap) (reach : Bool) → reach ≡ true
    → IsJoin p s (Some j) (reachable ends ++ q ∷ []) → Ends p s (Some j) (ends ++ after q reach ∷ [])
ends_more p s j ends q reach e h = rw e (record { joined = rw reachable-more h })

-- no arm so far
pub no_ends : (p : ℕ → Bool) (s : InstMap) → Ends p s None []
no_ends p s = record { joined = tt }

-- the ends of arms as far as some variables go, and one end more
pub seen_ends-more : (xs : List ℕ) (ends : List After) (a : After) → seen_ends xs (ends ++ a ∷ []) ≡ seen_ends xs ends ++ after (seen xs a.known) a.reach ∷ []
seen_ends-more xs [] a = refl
seen_ends-more xs (b ∷ ends) a = ap (λ es. after (seen xs b.known) b.reach ∷ es) (seen_ends-more xs ends a)

pub all_leave-more : (xs : List ℕ) (s : InstMap) (ends : List After) (a : After) → AllLeave xs s ends → Leaves xs s a.known → AllLeave xs s (ends ++ a ∷ [])
all_leave-more xs s [] a all h = (h, tt)
all_leave-more xs s (b ∷ ends) a all h = (all.0, all_leave-more xs s ends a all.1 h)

none_by : (p : ℕ → Bool) (s : InstMap) (rs : List InstMap) → IsJoin p s None rs → rs ≡ []
none_by p s [] n = refl
none_by p s (r ∷ rs) n = absurd n

none_reachable : (p : ℕ → Bool) (s : InstMap) (j : Option Joined) (ends : List After) → j ≡ None → Ends p s j ends → reachable ends ≡ []
none_reachable p s j ends e h = none_by p s (reachable ends) (subst (λ (k : Option Joined). IsJoin p s k (reachable ends)) e h.joined)

-- where the end of no arm is reachable, what is known is what was known before
pub no_end : (l : ℕ) (p : ℕ → Bool) (xs : List ℕ) (s b : InstMap) (j : Option Joined) (ends : List After) → j ≡ None → Ends p b j ends → b ≡ seen xs s
    → put_verdict xs s (joined l p b ends) ≡ Ok (after s false)
no_end l p xs s b j ends e h is = rw (none_reachable p b j ends e h, is, restored xs s s (leaves_self xs s)) refl

-- ---- what the code keeps of the arms

pub joins_begun : (p : ℕ → Bool) (s r : InstMap) (j : Joined) → inst_map_of j.first.items ≡ r → length r ≡ length s → inst_map_of j.common.items ≡ r → j.shared.items ≡ begun 0 s r → j.differ ≡ false
    → Joins p s j r []
joins_begun p s r j first size common shared differ = record {
  first = first;
  size = size;
  common = common;
  shares = rw shared (begun_shares s r);
  differ = differ;
}

pub joins_added : (p : ℕ → Bool) (s r q : InstMap) (qs : List InstMap) (j i : Joined) (a b : Bool) → Joins p s j r qs
    → inst_map_of i.first.items ≡ inst_map_of j.first.items
    → inst_map_of i.common.items ≡ in_common (inst_map_of j.common.items) q
    → i.shared.items ≡ kept (inst_map_of j.first.items) (inst_map_of j.common.items) q j.shared.items
    → i.differ ≡ (j.differ || (b || a))
    → a ≡ some_of (lost p s (inst_map_of j.common.items) q) (numbers j.shared.items)
    → (b ≡ true → (x : ℕ) × (x < length s) × (gained p s (inst_map_of j.first.items) q x ≡ true))
    → ((x : ℕ) → x < length s → gained p s (inst_map_of j.first.items) q x ≡ true → b ≡ true)
    → Joins p s i r (qs ++ q ∷ [])
joins_added p s r q qs j i a b h first common shared differ loses sound complete = record {
  first = first ∙ h.first;
  size = h.size;
  common = common ∙ (ap (λ c. in_common c q) h.common ∙ sym (all_have-more r q qs));
  shares =
      rw (shared, h.first, h.common)
      (shares_along s (in_common (all_have r qs) q) (all_have r (qs ++ q ∷ [])) (λ x. some_unlike (known_at r x) x qs || not (is_alike (known_at r x) (known_at q x)))
      (λ x. some_unlike (known_at r x) x (qs ++ q ∷ [])) (kept r (all_have r qs) q j.shared.items) (sym (all_have-more r q qs)) (λ x. sym (some_unlike-more (known_at r x) x q qs))
      (kept_shares s r (all_have r qs) q j.shared.items (λ x. some_unlike (known_at r x) x qs) h.shares));
  differ =
      differ ∙ differ_by p s r q qs (λ x. some_unlike (known_at r x) x qs) j.shared.items a b j.differ h.size h.shares h.differ
      (loses ∙ ap (λ c. some_of (lost p s c q) (numbers j.shared.items)) h.common)
      (subst (λ (k : InstMap). b ≡ true → (x : ℕ) × (x < length s) × (gained p s k q x ≡ true)) h.first sound)
      (subst (λ (k : InstMap). (x : ℕ) → x < length s → gained p s k q x ≡ true → b ≡ true) h.first complete);
}

length-commons : (c q : InstMap) (es : List Shared) → length (commons c q es) ≡ length c
length-commons c q [] = refl
length-commons c q (e ∷ es) = length-commons (put c e.number (common_at c q e.number)) q es ∙ length-put c e.number (common_at c q e.number)

length-all_have : (r : InstMap) (qs : List InstMap) → length (all_have r qs) ≡ length r
length-all_have r [] = refl
length-all_have r (q ∷ qs) = length-all_have (in_common r q) qs ∙ length-in_common r q

-- what was compared at the shared variables, and then at those of the arm, is what all have in common
settled_by : (e : End) (s c d : InstMap) (x : ℕ) → Leaves e.own.now s (inst_map_of e.insts.now) → x < length e.view.outside.local.now.places.items
    → IsSettled e c d e.own.now x
    → (known_at d x ≡ common_at c (end_of e) x) ⊎ ((known_at d x ≡ known_at c x) × (known_at (end_of e) x ≡ known_at (seen e.view.outside.local.now.places.items s) x))
settled_by e s c d x leaves inside h =
    let xs = e.view.outside.local.now.places.items in
    elim (cases_eq (times (slice_index xs x) e.own.now) 0) [
      | inl none ↦ inr (h.elsewhere none, known_at-seen xs (inst_map_of e.insts.now) x inside ∙ (leaves.same (slice_index xs x) none ∙ sym (known_at-seen xs s x inside)))
      | inr some ↦ inl (h.here some)
    ]

pub joins_common : (p : ℕ → Bool) (e : End) (s r : InstMap) (qs : List InstMap) (j : Joined) (m d : InstMap) → IsEnd e s → Joins p (inst_map_of e.view.before.now) j r qs
    → m ≡ commons (inst_map_of j.common.items) (end_of e) j.shared.items → length d ≡ length m
    → (length m ≡ length e.view.outside.local.now.places.items → (x : ℕ) → x < length e.view.outside.local.now.places.items → IsSettled e m d e.own.now x)
    → d ≡ in_common (inst_map_of j.common.items) (end_of e)
joins_common p e s r qs j m d arm h is size settled =
    let xs = e.view.outside.local.now.places.items in
    let c = inst_map_of j.common.items in
    let kept_size : length m ≡ length c = ap length is ∙ length-commons c (end_of e) j.shared.items in
    let whole : length c ≡ length xs = ap length h.common ∙ (length-all_have r qs ∙ (h.size ∙ (ap length arm.before ∙ length-seen xs s))) in
    settled_is (inst_map_of e.view.before.now) c (end_of e) d j.shared.items (size ∙ kept_size)
    (λ x lt.
    let inside : x < length xs = omega (arith, lt, whole) in
    rw (← is, arm.before) (settled_by e s m d x arm.leaves inside (settled (kept_size ∙ whole) x inside)))
    (rw h.common h.shares.all)

pub clash_told : (p : ℕ → Bool) (s : InstMap) (j : Joined) (r : InstMap) (qs : List InstMap) (c : InstMap) (es : List Shared) → Joins p s j r qs
    → c ≡ inst_map_of j.common.items → es ≡ j.shared.items → clash s (all_have r qs) r qs ≡ some_clash s c es
clash_told p s j r qs c es h is_c is_es = clash_by s r qs j.shared.items h.shares ∙ sym (rw (is_c, is_es, h.common) refl)

-- what an arm binds is a variable of its own
and_two : (a b c : Bool) → (a && (not b && c)) ≡ true → (b ≡ false) × (c ≡ true)
and_two true false true e = (refl, refl)
and_two true false false e = absurd (cc)
and_two true true c e = absurd (cc)
and_two false b c e = absurd (cc)

and_end : (a b : Bool) → (not a && b) ≡ true → b ≡ true
and_end true b e = absurd (cc)
and_end false b e = e

pub touched : (p : ℕ → Bool) (view : View) (own : List ℕ) (s m r : InstMap) (x : ℕ) → IsArm view own s m → x < length view.outside.local.now.places.items
    → gained p (inst_map_of view.before.now) r (seen view.outside.local.now.places.items m) x ≡ true → times (slice_index view.outside.local.now.places.items x) own ≢ 0
touched p view own s m r x arm lt e = λ none.
    let xs = view.outside.local.now.places.items in
    let parts = and_two (p x) (is_bound (known_at (inst_map_of view.before.now) x)) _ e in
    let bound = and_end (is_bound (known_at r x)) (is_bound (known_at (seen xs m) x)) parts.1 in
    let same : known_at (seen xs m) x ≡ known_at (seen xs s) x = known_at-seen xs m x lt ∙ (arm.leaves.same (slice_index xs x) none ∙ sym (known_at-seen xs s x lt)) in
    let before : is_bound (known_at (seen xs s) x) ≡ false = rw (← arm.before) parts.0 in
    let after' : is_bound (known_at (seen xs s) x) ≡ true = rw (← same) bound in
    absurd (cc)
