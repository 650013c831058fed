-- The literals of a program: each is found at its number, and those that are equal have equal numbers.
use Rattle.std.proofs.Common.{◌≡◌, refl, sym, ap, ◌∙◌, subst, inl, inr, ◌⊎◌, arith, ℕ, zero, suc, ◌+◌, ◌<◌, ◌≤◌, Bool, true, false, ◌&&◌, cond, nat_eq, List, [], ◌∷◌, ◌++◌, length, length-append, Option, Some, None, slice_get}
use Rattle.std.proofs.lemmas.Bool.{cases_eq, eq-eqb, ne_eqb, cond-true, cond-false}
use Rattle.std.proofs.lemmas.Slice.Eq.{bytes_eq-Decides}
use Rattle.std.specs.Str.{bytes_eq}
use Rattle.md_hlds.specs.declared.goal.Term.{Term}
use Rattle.md_hlds.specs.declared.goal.Term.TheVariants.{Var, Int, Str, Name}
use Rattle.md_hlds.specs.HldsGoal.{Simple, Unifies, HldsGoal, At, GoalExpr, SimpleGoal, CallGoal, HoCallGoal, ConjGoal, DisjGoal, IfGoal, NotGoal, SomeGoal, HldsGoals, nothing, also}
use Rattle.md_hlds.specs.Hlds.{Procedure, Hlds}
use Rattle.md_hlds.specs.Value as value
use Rattle.md_code.specs.Tables.{literal_place, with_literal, with_term, with_simple, with_goal, with_expr, with_goals, with_clauses, functors_of, literals_of}
use Rattle.law_flat.specs.Told.{bytes_among, zeros, bytes_or, literal_bytes, names_among, literal_or, untold, told_numbered}

-- ---- bytes

pub same_bytes : (b : List ℕ) → bytes_eq b b ≡ true
same_bytes b = (bytes_eq-Decides b b).1 refl

-- ---- no literal stands twice

-- each of these is found at its place
abbrev Apart : List (List ℕ) → Type 0
Apart ls = (i : ℕ) (l : List ℕ) → slice_get ls i ≡ Some l → literal_place l 0 ls ≡ i

place_later : (b : List ℕ) (n m : ℕ) (ls : List (List ℕ)) → literal_place b (n + m) ls ≡ n + literal_place b m ls
place_later b n m [] = refl
place_later b n m (l ∷ ls) = by_choice (bytes_eq b l) (literal_place b (suc (n + m)) ls) (literal_place b (suc m) ls) (ap (λ k. literal_place b k ls) (omega arith) ∙ place_later b n (suc m) ls)
  where
    by_choice : (c : Bool) (x y : ℕ) → x ≡ n + y → cond c (n + m) x ≡ n + cond c m y
    by_choice true x y e = refl
    by_choice false x y e = e

-- among more it is found where it was
place_stays : (b : List ℕ) (n i : ℕ) (ls more : List (List ℕ)) → i < n + length ls → literal_place b n ls ≡ i → literal_place b n (ls ++ more) ≡ i
place_stays b n i [] more lt e = absurd (omega (arith, lt, e))
place_stays b n i (l ∷ ls) more lt e = by_choice (bytes_eq b l) e (λ same. place_stays b (suc n) i ls more (omega (arith, lt)) same)
  where
    by_choice : (c : Bool) → cond c n (literal_place b (suc n) ls) ≡ i → (literal_place b (suc n) ls ≡ i → literal_place b (suc n) (ls ++ more) ≡ i) → cond c n (literal_place b (suc n) (ls ++ more)) ≡ i
    by_choice true same later = same
    by_choice false same later = later same

-- one that is not found is found where it is put
place_last : (b : List ℕ) (n : ℕ) (ls : List (List ℕ)) → literal_place b n ls ≡ n + length ls → literal_place b n (ls ++ b ∷ []) ≡ n + length ls
place_last b n [] e = ap (λ c. cond c n (suc n)) (same_bytes b) ∙ omega arith
place_last b n (l ∷ ls) e = by_choice (bytes_eq b l) e (λ same. place_last b (suc n) ls same)
  where
    by_choice : (c : Bool) → cond c n (literal_place b (suc n) ls) ≡ n + length (l ∷ ls) → (literal_place b (suc n) ls ≡ suc n + length ls → literal_place b (suc n) (ls ++ b ∷ []) ≡ suc n + length ls)
        → cond c n (literal_place b (suc n) (ls ++ b ∷ [])) ≡ n + length (l ∷ ls)
    by_choice true same later = absurd (omega (arith, same))
    by_choice false same later = let r = later (omega (arith, same)) in omega (arith, r)

get_left_or_last : (b l : List ℕ) (i : ℕ) (ls : List (List ℕ)) → slice_get (ls ++ b ∷ []) i ≡ Some l → (slice_get ls i ≡ Some l) × (i < length ls) ⊎ (b ≡ l) × (i ≡ length ls)
get_left_or_last b l zero [] h = inr (some_same h, refl)
  where
    some_same : {x y : List ℕ} → Some x ≡ Some y → x ≡ y
    some_same h = cc h
get_left_or_last b l (suc i) [] h = absurd (cc h)
get_left_or_last b l zero (m ∷ ls) h = inl (h, omega arith)
get_left_or_last b l (suc i) (m ∷ ls) h = elim (get_left_or_last b l i ls h) [
  | inl r ↦ inl (r.0, (let lt = r.1 in omega (arith, lt)))
  | inr r ↦ inr (r.0, (let e = r.1 in omega (arith, e)))
]

put_apart : (ls : List (List ℕ)) (b : List ℕ) → Apart ls → literal_place b 0 ls ≡ length ls → Apart (ls ++ b ∷ [])
put_apart ls b h none i l is = elim (get_left_or_last b l i ls is) [
  | inl r ↦ place_stays l 0 i ls (b ∷ []) (let lt = r.1 in omega (arith, lt)) (h i l r.0)
  | inr r ↦ subst (λ (m : List ℕ). literal_place m 0 (ls ++ b ∷ []) ≡ i) r.0 (let e = r.1 in let p = place_last b 0 ls (omega (arith, none)) in omega (arith, p, e))
]

literal_apart : (ls : List (List ℕ)) (b : List ℕ) → Apart ls → Apart (with_literal ls b)
literal_apart ls b h = elim (cases_eq (literal_place b 0 ls) (length ls)) [
  | inl e ↦ subst (λ (ms : List (List ℕ)). Apart ms) (sym (cond-true (nat_eq (literal_place b 0 ls) (length ls)) (ls ++ b ∷ []) ls (eq-eqb (literal_place b 0 ls) (length ls) e))) (put_apart ls b h e)
  | inr ne ↦ subst (λ (ms : List (List ℕ)). Apart ms) (sym (cond-false (nat_eq (literal_place b 0 ls) (length ls)) (ls ++ b ∷ []) ls (ne_eqb (literal_place b 0 ls) (length ls) ne))) h
]

-- what holds of literals, and stays so with one more, holds with those of a goal, and with those of clauses
term_keeps : (P : List (List ℕ) → Type 0) → ((ls : List (List ℕ)) (b : List ℕ) → P ls → P (with_literal ls b)) → (ls : List (List ℕ)) (t : Term) → P ls → P (with_term ls t)
term_keeps P more ls (Var y) h = h
term_keeps P more ls (Int n) h = h
term_keeps P more ls (Str b) h = more ls b h
term_keeps P more ls (Name q ys) h = h

simple_keeps : (P : List (List ℕ) → Type 0) → ((ls : List (List ℕ)) (b : List ℕ) → P ls → P (with_literal ls b)) → (ls : List (List ℕ)) (g : Simple) → P ls → P (with_simple ls g)
simple_keeps P more ls (Unifies x t) h = term_keeps P more ls t h
simple_keeps P more ls g h = h

mutual
  pub goal_keeps : (P : List (List ℕ) → Type 0) → ((ls : List (List ℕ)) (b : List ℕ) → P ls → P (with_literal ls b)) → (ls : List (List ℕ)) (g : HldsGoal) → P ls → P (with_goal ls g)
  goal_keeps P more ls (At l t) h = expr_keeps P more ls t h

  expr_keeps : (P : List (List ℕ) → Type 0) → ((ls : List (List ℕ)) (b : List ℕ) → P ls → P (with_literal ls b)) → (ls : List (List ℕ)) (t : GoalExpr) → P ls → P (with_expr ls t)
  expr_keeps P more ls (SimpleGoal g) h = simple_keeps P more ls g h
  expr_keeps P more ls (CallGoal site q ys) h = h
  expr_keeps P more ls (HoCallGoal site f ys) h = h
  expr_keeps P more ls (ConjGoal ps) h = goals_keep P more ls ps h
  expr_keeps P more ls (DisjGoal ps) h = goals_keep P more ls ps h
  expr_keeps P more ls (IfGoal c t e) h = goal_keeps P more (with_goal (with_goal ls c) t) e (goal_keeps P more (with_goal ls c) t (goal_keeps P more ls c h))
  expr_keeps P more ls (NotGoal c) h = goal_keeps P more ls c h
  expr_keeps P more ls (SomeGoal vs c) h = goal_keeps P more ls c h

  pub goals_keep : (P : List (List ℕ) → Type 0) → ((ls : List (List ℕ)) (b : List ℕ) → P ls → P (with_literal ls b)) → (ls : List (List ℕ)) (ps : HldsGoals) → P ls → P (with_goals ls ps)
  goals_keep P more ls nothing h = h
  goals_keep P more ls (also p ps) h = goals_keep P more (with_goal ls p) ps (goal_keeps P more ls p h)

pub clauses_keep : (P : List (List ℕ) → Type 0) → ((ls : List (List ℕ)) (b : List ℕ) → P ls → P (with_literal ls b)) → (ls : List (List ℕ)) (ps : List Procedure) → P ls → P (with_clauses ls ps)
clauses_keep P more ls [] h = h
clauses_keep P more ls (p ∷ ps) h = clauses_keep P more (with_goal ls p.body) ps (goal_keeps P more ls p.body h)

literals_apart : (s : Hlds) → Apart (literals_of s)
literals_apart s = clauses_keep Apart literal_apart [] s.procedures (λ i l is. absurd (cc is))

-- ---- a literal that is one of these

-- it is found
abbrev pub IsAmong : List ℕ → List (List ℕ) → Type 0
IsAmong b ls = literal_place b 0 ls < length ls

place_within : (b : List ℕ) (n : ℕ) (ls : List (List ℕ)) → literal_place b n ls ≤ n + length ls
place_within b n [] = omega arith
place_within b n (l ∷ ls) = by_choice (bytes_eq b l) (place_within b (suc n) ls)
  where
    by_choice : (c : Bool) → literal_place b (suc n) ls ≤ suc n + length ls → cond c n (literal_place b (suc n) ls) ≤ n + length (l ∷ ls)
    by_choice true later = omega arith
    by_choice false later = omega (arith, later)

-- each is among these and itself
pub among_with : (ls : List (List ℕ)) (b : List ℕ) → IsAmong b (with_literal ls b)
among_with ls b = elim (cases_eq (literal_place b 0 ls) (length ls)) [
  | inl e ↦ subst (λ (ms : List (List ℕ)). IsAmong b ms) (sym (cond-true (nat_eq (literal_place b 0 ls) (length ls)) (ls ++ b ∷ []) ls (eq-eqb (literal_place b 0 ls) (length ls) e)))
      (let p = place_last b 0 ls (omega (arith, e)) in let k = length-append ls (b ∷ []) in omega (arith, p, k))
  | inr ne ↦ subst (λ (ms : List (List ℕ)). IsAmong b ms) (sym (cond-false (nat_eq (literal_place b 0 ls) (length ls)) (ls ++ b ∷ []) ls (ne_eqb (literal_place b 0 ls) (length ls) ne)))
      (let le = place_within b 0 ls in omega (arith, le, ne))
]

-- and stays among more
pub among_more : (a : List ℕ) (ls : List (List ℕ)) (b : List ℕ) → IsAmong a ls → IsAmong a (with_literal ls b)
among_more a ls b h = by_choice (nat_eq (literal_place b 0 ls) (length ls))
  where
    by_choice : (c : Bool) → IsAmong a (cond c (ls ++ b ∷ []) ls)
    by_choice true =
        let p = place_stays a 0 (literal_place a 0 ls) ls (b ∷ []) (omega (arith, h)) refl in
        let k = length-append ls (b ∷ []) in
        omega (arith, h, p, k)
    by_choice false = h

-- ---- the bytes of a number

pub zeros_count : (n : ℕ) → length (zeros n) ≡ n
zeros_count zero = refl
zeros_count (suc n) = ap suc (zeros_count n)

few_bytes : (ls : List (List ℕ)) (i : ℕ) (l : List ℕ) → slice_get ls i ≡ Some l → length l ≤ bytes_among ls
few_bytes [] i l h = absurd (cc h)
few_bytes (m ∷ ls) zero l h = let e : m ≡ l = cc h in let n = ap length e in omega (arith, n)
few_bytes (m ∷ ls) (suc i) l h = let r = few_bytes ls i l h in omega (arith, r)

-- two numbers of the same bytes are one
one_number : (ls : List (List ℕ)) → Apart ls → (a b : ℕ) (o p : Option (List ℕ)) → slice_get ls a ≡ o → slice_get ls b ≡ p
    → bytes_or (zeros (suc (bytes_among ls + a))) o ≡ bytes_or (zeros (suc (bytes_among ls + b))) p → a ≡ b
one_number ls h a b None None x y e =
    let n = ap length e in
    let i = zeros_count (suc (bytes_among ls + a)) in
    let j = zeros_count (suc (bytes_among ls + b)) in
    omega (arith, n, i, j)
one_number ls h a b None (Some l) x y e = absurd (let n = ap length e in let i = zeros_count (suc (bytes_among ls + a)) in let f = few_bytes ls b l y in omega (arith, n, i, f))
one_number ls h a b (Some l) None x y e = absurd (let n = ap length e in let i = zeros_count (suc (bytes_among ls + b)) in let f = few_bytes ls a l x in omega (arith, n, i, f))
one_number ls h a b (Some l) (Some m) x y e = sym (h a l x) ∙ ap (λ (k : List ℕ). literal_place k 0 ls) e ∙ h b m y

pub decided : (x y : List ℕ) (a b : ℕ) → (x ≡ y → a ≡ b) → (a ≡ b → x ≡ y) → bytes_eq x y ≡ nat_eq a b
decided x y a b there back = by_choice (bytes_eq x y) refl
  where
    by_choice : (c : Bool) → bytes_eq x y ≡ c → bytes_eq x y ≡ nat_eq a b
    by_choice true is = is ∙ sym (eq-eqb a b (there ((bytes_eq-Decides x y).0 is)))
    by_choice false is = is ∙ sym (ne_eqb a b (λ e. absurd (let t = (bytes_eq-Decides x y).1 (back e) in cc (is, t))))

pub same_literals : (s : Hlds) (a b : ℕ) → bytes_eq (literal_bytes s a) (literal_bytes s b) ≡ nat_eq a b
same_literals s a b = decided (literal_bytes s a) (literal_bytes s b) a b (one_number (literals_of s) (literals_apart s) a b _ _ refl refl) (λ e. ap (literal_bytes s) e)

-- ---- what a number tells

pub literal_is : (s : Hlds) (n : ℕ) (x : List ℕ) → slice_get (literals_of s) n ≡ Some x → literal_bytes s n ≡ x
literal_is s n x f = ap (λ o. bytes_or (zeros (suc (bytes_among (literals_of s) + n))) o) f

none_paired : (t : Bool) → value.below_pair (t && nat_eq 0 0) (record { pairs = 0; equal = true }) ≡ value.one_pair t
none_paired true = refl
none_paired false = refl

-- what two numbers tell is the same just where they are
pub numbers_compared : (s : Hlds) (a b : ℕ) → value.compared (told_numbered s a) (told_numbered s b) ≡ value.one_pair (nat_eq a b)
numbers_compared s a b = by_found (slice_get (literals_of s) a) (slice_get (literals_of s) b) refl refl
  where
    long : ℕ → List ℕ
    long n = zeros (suc (names_among (functors_of s) + n))

    one : zeros (suc (names_among (functors_of s) + a)) ≡ zeros (suc (names_among (functors_of s) + b)) → a ≡ b
    one e =
        let n = ap length e in
        let i = zeros_count (suc (names_among (functors_of s) + a)) in
        let j = zeros_count (suc (names_among (functors_of s) + b)) in
        omega (arith, n, i, j)

    apart : (x : List ℕ) → (a ≡ b → ◌≡◌ {A = Option (List ℕ)} None (Some x)) → value.one_pair false ≡ value.one_pair (nat_eq a b)
    apart x h = ap value.one_pair (sym (ne_eqb a b (λ e. absurd (let t = h e in cc t))))

    by_found : (o p : Option (List ℕ)) → slice_get (literals_of s) a ≡ o → slice_get (literals_of s) b ≡ p → value.compared (literal_or (untold s a) o) (literal_or (untold s b) p) ≡ value.one_pair (nat_eq a b)
    by_found (Some x) (Some y) f g =
        ap value.one_pair (ap (λ k. bytes_eq k y) (sym (literal_is s a x f)) ∙ (ap (λ k. bytes_eq (literal_bytes s a) k) (sym (literal_is s b y g)) ∙ same_literals s a b))
    by_found (Some x) None f g = apart x (λ e. sym g ∙ (ap (slice_get (literals_of s)) (sym e) ∙ f))
    by_found None (Some y) f g = apart y (λ e. sym f ∙ (ap (slice_get (literals_of s)) e ∙ g))
    by_found None None f g = none_paired (bytes_eq (long a) (long b)) ∙ ap value.one_pair (decided (long a) (long b) a b one (λ e. ap long e))
