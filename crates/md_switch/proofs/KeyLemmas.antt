-- Keys of switches: those of the code and those of the definitions, and lists of them that are pairwise different.
use Rattle.std.proofs.Common.{◌≡◌, refl, sym, ap, ◌∙◌, ℕ, suc, ◌+◌, ◌<◌, Bool, true, false, cond, not, ◌&&◌, ◌||◌, List, [], ◌∷◌, ◌++◌, length, drop, get_or, Option, Some, None, nat_eq, append_assoc, drop-cons, add-one}
use Rattle.std.proofs.lemmas.Cmp.{int_eq_equiv, nat_eq_equiv}
use Rattle.std.specs.List.{list_any}
use Rattle.std.specs.Str.{bytes_eq}
use Rattle.md_hlds.specs.declared.goal.Goal.{Goal}
use Rattle.md_hlds.specs.Hlds.{Hlds}
use Rattle.md_hlds.specs.HldsGoal.{gathered, goal_of, goals_of}
use Rattle.md_hlds.specs.Switch.{Key, IntKey, TextKey, FunctorKey, same_key, has_key, all_different, if_different, prepend_key}
use Rattle.md_modes.specs.Classes.{size_at}
use Rattle.md_switch.specs.Reading.{read_arm_key, read_keys}
use Rattle.std.specs.Cmp.Lexicographic.{pointwise}
use Rattle.md_switch.specs.declared.key.Key as code
use Rattle.md_switch.specs.declared.key.Key.TheVariants as variant
use Rattle.md_switch.specs.contracts.key.KeyPartialEq.TheImpl.{ghosts}
use Rattle.md_switch.specs.Keys.{key_of_code, keys_told, keys_onto}

-- ---- one key and another

pointwise-bytes_eq : (xs ys : List ℕ) → pointwise nat_eq xs ys ≡ bytes_eq xs ys
pointwise-bytes_eq [] [] = refl
pointwise-bytes_eq [] (y ∷ ys) = refl
pointwise-bytes_eq (x ∷ xs) [] = refl
pointwise-bytes_eq (x ∷ xs) (y ∷ ys) = ap (λ b. nat_eq x y && b) (pointwise-bytes_eq xs ys)

-- the code's equality of keys
abbrev pub same_in_code : code.Key → code.Key → Bool
same_in_code = ghosts.eq

pub same_told : (j k : code.Key) → same_in_code j k ≡ same_key (key_of_code j) (key_of_code k)
same_told (variant.Int m) (variant.Int n) = refl
same_told (variant.Text a) (variant.Text b) = pointwise-bytes_eq a.now b.now
same_told (variant.Functor f m) (variant.Functor g n) = ap (λ b. b && nat_eq m n) (pointwise-bytes_eq f.now g.now)
same_told (variant.Int m) (variant.Text b) = refl
same_told (variant.Int m) (variant.Functor g n) = refl
same_told (variant.Text a) (variant.Int n) = refl
same_told (variant.Text a) (variant.Functor g n) = refl
same_told (variant.Functor f m) (variant.Int n) = refl
same_told (variant.Functor f m) (variant.Text b) = refl

bytes_symm : (a b : List ℕ) → bytes_eq a b ≡ bytes_eq b a
bytes_symm [] [] = refl
bytes_symm [] (y ∷ ys) = refl
bytes_symm (x ∷ xs) [] = refl
bytes_symm (x ∷ xs) (y ∷ ys) = rw (nat_eq_equiv.symm x y, bytes_symm xs ys) refl

same_symm : (j k : Key) → same_key j k ≡ same_key k j
same_symm (IntKey m) (IntKey n) = int_eq_equiv.symm m n
same_symm (TextKey a) (TextKey b) = bytes_symm a b
same_symm (FunctorKey f m) (FunctorKey g n) = rw (bytes_symm f g, nat_eq_equiv.symm m n) refl
same_symm (IntKey m) (TextKey b) = refl
same_symm (IntKey m) (FunctorKey g n) = refl
same_symm (TextKey a) (IntKey n) = refl
same_symm (TextKey a) (FunctorKey g n) = refl
same_symm (FunctorKey f m) (IntKey n) = refl
same_symm (FunctorKey f m) (TextKey b) = refl

-- ---- lists of keys

pub any_told : (k : code.Key) (ks : List code.Key) → list_any (same_in_code k) ks ≡ has_key (key_of_code k) (keys_told ks)
any_told k [] = refl
any_told k (j ∷ ks) = rw (same_told k j, any_told k ks) refl

keys_told-append : (ks : List code.Key) (k : code.Key) → keys_told (ks ++ k ∷ []) ≡ keys_told ks ++ key_of_code k ∷ []
keys_told-append [] k = refl
keys_told-append (j ∷ ks) k = ap (λ js. key_of_code j ∷ js) (keys_told-append ks k)

-- a key that is put in is last, where it is new
pub told_new : (ks : List code.Key) (k : code.Key) → list_any (same_in_code k) ks ≡ false
    → keys_told (cond (list_any (same_in_code k) ks) ks (ks ++ k ∷ [])) ≡ keys_told ks ++ key_of_code k ∷ []
told_new ks k new = rw new (keys_told-append ks k)

both : (a b : Bool) → (a && b) ≡ true → (a ≡ true) × (b ≡ true)
both true b h = (refl, h)
both false b h = absurd (cc)

neither : (a b : Bool) → (a || b) ≡ false → (a ≡ false) × (b ≡ false)
neither true b h = absurd (cc)
neither false b h = (refl, h)

not_first : (a b c : Bool) → not (a || b) ≡ true → (not b ≡ true → not c ≡ true) → not (a || c) ≡ true
not_first true b c d more = absurd (cc)
not_first false b c d more = more d

not_last : (k : Key) (js : List Key) (j : Key) → not (has_key k js) ≡ true → same_key k j ≡ false → not (has_key k (js ++ j ∷ [])) ≡ true
not_last k [] j d e = rw e refl
not_last k (i ∷ js) j d e = not_first (same_key k i) (has_key k js) (has_key k (js ++ j ∷ [])) d (λ rest. not_last k js j rest e)

-- keys that are pairwise different, and one more
pub different_more : (ks : List Key) (k : Key) → all_different ks ≡ true → has_key k ks ≡ false → all_different (ks ++ k ∷ []) ≡ true
different_more [] k d e = refl
different_more (j ∷ ks) k d e =
    let parts = both (not (has_key j ks)) (all_different ks) d in
    let apart = neither (same_key k j) (has_key k ks) e in
    rw (not_last j ks k parts.0 (same_symm j k ∙ apart.0), different_more ks k parts.1 apart.1) refl

has_later : (j : Key) (ks js : List Key) (k : Key) → same_key j k ≡ true → has_key j (ks ++ k ∷ js) ≡ true
has_later j [] js k e = rw e refl
has_later j (i ∷ ks) js k e = here (same_key j i) (has_later j ks js k e)
  where
    here : (b : Bool) → has_key j (ks ++ k ∷ js) ≡ true → (b || has_key j (ks ++ k ∷ js)) ≡ true
    here true h = refl
    here false h = h

and_false : (b : Bool) → (b && false) ≡ false
and_false true = refl
and_false false = refl

either : (a b c d : Bool) → (a || b) ≡ true → (a ≡ true → c ≡ true) → (b ≡ true → d ≡ false) → (not c && d) ≡ false
either true b c d h first later = rw (first refl) refl
either false b c d h first later = rw (later h) (and_false (not c))

-- a key that comes again
different_not : (ks js : List Key) (k : Key) → has_key k ks ≡ true → all_different (ks ++ k ∷ js) ≡ false
different_not [] js k h = absurd (cc)
different_not (j ∷ ks) js k h =
    either (same_key k j) (has_key k ks) (has_key j (ks ++ k ∷ js)) (all_different (ks ++ k ∷ js)) h
    (λ is. has_later j ks js k (same_symm j k ∙ is)) (different_not ks js k)

-- ---- the arms' keys

pub keys_more : (x tested : ℕ) (k : Key) (js : List Key) (r : Option (List Key)) → tested ≡ x
    → keys_onto js (prepend_key x (Some (tested, k)) r) ≡ keys_onto (js ++ k ∷ []) r
keys_more x tested k js None e = refl
keys_more x tested k js (Some ks) e = rw (e, nat_eq_equiv.refl x) (ap Some (sym (append_assoc js (k ∷ []) ks)))

pub keys_again : (x : ℕ) (k : Key) (js : List Key) (r : Option (List Key)) → has_key k js ≡ true → None ≡ if_different x (keys_onto (js ++ k ∷ []) r)
keys_again x k js None h = refl
keys_again x k js (Some ks) h = rw (append_assoc js (k ∷ []) ks, different_not js ks k h) refl

pub parts-step : (gs : List Goal) (i : ℕ) (g : Goal) → i < length gs → g ≡ get_or gs i g → goals_of (drop i gs) ≡ goal_of g ∷ goals_of (drop (i + 1) gs)
parts-step gs i g lt is = rw add-one (ap goals_of (drop-cons gs i g lt ∙ ap (λ (h : Goal). h ∷ drop (suc i) gs) (sym is)))

-- the keys of the arms that are left, by the first of them
pub read_keys-step : (p : Hlds) (x n : ℕ) (gs : List Goal) (i : ℕ) (g : Goal) → i < length gs → g ≡ get_or gs i g
    → read_keys p x n (gathered (goals_of (drop i gs))) ≡ prepend_key x (read_arm_key p n (goal_of g)) (read_keys p x (n + size_at p n) (gathered (goals_of (drop (i + 1) gs))))
read_keys-step p x n gs i g lt is = ap (λ ps. read_keys p x n (gathered ps)) (parts-step gs i g lt is)

pub not_true : (a b : Bool) → a ≡ not b → a ≡ true → b ≡ false
not_true a true e h = absurd (cc)
not_true a false e h = refl

pub not_false : (a b : Bool) → a ≡ not b → a ≡ false → b ≡ true
not_false a true e h = refl
not_false a false e h = absurd (cc)
