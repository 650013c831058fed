-- Writes to cells, and environments that get values.
use Rattle.std.proofs.Common.{◌≡◌, refl, ap, sym, ◌∙◌, ℕ, zero, suc, Bool, true, false, cond, ◌&&◌, nat_eq, [], ◌∷◌, Some, None, is_some, unwrap_or, true≢false}
use Rattle.std.proofs.lemmas.Bool.{eq-eqb, eqb-true, eqb-false}
use Rattle.md_hlds.specs.Value.{Value, Env, value_at, bound}
use Rattle.law_frames.specs.Stores.{Store, Cell, slot, height, Perm, Same, at_place, with_value, with_height}

-- ---- places

place_here : (a b : Bool) → a ≡ true → b ≡ true → (a && b) ≡ true
place_here true b first second = second
place_here false b first second = absurd (true≢false (sym first))

and_first : (a b : Bool) → (a && b) ≡ true → a ≡ true
and_first true b is = refl
and_first false b is = is

and_second : (a b : Bool) → (a && b) ≡ true → b ≡ true
and_second true b is = is
and_second false b is = absurd (true≢false (sym is))

pub at_itself : (i y : ℕ) → at_place i y i y ≡ true
at_itself i y = place_here (nat_eq i i) (nat_eq y y) (eq-eqb i i refl) (eq-eqb y y refl)

pub same_frame : (i y j z : ℕ) → at_place i y j z ≡ true → j ≡ i
same_frame i y j z is = eqb-true j i (and_first (nat_eq j i) (nat_eq z y) is)

pub same_cell : (i y j z : ℕ) → at_place i y j z ≡ true → z ≡ y
same_cell i y j z is = eqb-true z y (and_second (nat_eq j i) (nat_eq z y) is)

by_place : {C : Type 0} (b : Bool) (u v : C) → (b ≡ true → ⊥) → cond b u v ≡ v
by_place true u v other = absurd (other refl)
by_place false u v other = refl

-- ---- a slot is written

pub value_here : (S : Store) (i y : ℕ) (v : Value) → (with_value S i y v).values i y ≡ v
value_here S i y v = ap (λ b. cond b v (S.values i y)) (at_itself i y)

pub value_elsewhere : (S : Store) (i y : ℕ) (v : Value) (j z : ℕ) → (j ≡ i → z ≡ y → ⊥) → (with_value S i y v).values j z ≡ S.values j z
value_elsewhere S i y v j z other = by_place (at_place i y j z) v (S.values j z) (λ is. other (same_frame i y j z is) (same_cell i y j z is))

-- a cell that is open isn't one that is closed
apart : (W : Perm) (i j : ℕ) (k l : Cell) → W i k ≡ true → W j l ≡ false → j ≡ i → l ≡ k → ⊥
apart W i j k l is no' frame cell = true≢false (sym is ∙ (sym (ap (λ n. W n k) frame) ∙ (sym (ap (λ m. W j m) cell) ∙ no')))

pub value_same : (W : Perm) (S : Store) (i y : ℕ) (v : Value) → W i (slot y) ≡ true → Same W S (with_value S i y v)
value_same W S i y v is = record {
  values = λ j z no'. value_elsewhere S i y v j z (λ frame cell. apart W i j (slot y) (slot z) is no' frame (ap slot cell));
  heights = λ j n no'. refl;
  acts = λ j no'. refl;
}

-- ---- a height is written

pub height_here : (S : Store) (i n h : ℕ) → (with_height S i n h).heights i n ≡ h
height_here S i n h = ap (λ b. cond b h (S.heights i n)) (at_itself i n)

pub height_same : (W : Perm) (S : Store) (i n h : ℕ) → W i (height n) ≡ true → Same W S (with_height S i n h)
height_same W S i n h is = record {
  values = λ j z no'. refl;
  heights = λ j m no'. by_place (at_place i n j m) h (S.heights j m) (λ at. apart W i j (height n) (height m) is no' (same_frame i n j m at) (ap height (same_cell i n j m at)));
  acts = λ j no'. refl;
}

-- ---- environments

pub not_none : (v : Value) → Some v ≡ None → ⊥
not_none v is = true≢false (ap is_some is)

the_same : (v u : Value) → Some v ≡ Some u → v ≡ u
the_same v u is = ap (λ o. unwrap_or o v) is

pub bound_none : (e : Env) (x : ℕ) (v : Value) (y : ℕ) → value_at (bound e x v) y ≡ None → value_at e y ≡ None
bound_none [] x v y is = is
bound_none (o ∷ e) zero v zero is = absurd (not_none v is)
bound_none (o ∷ e) zero v (suc y) is = is
bound_none (o ∷ e) (suc x) v zero is = is
bound_none (o ∷ e) (suc x) v (suc y) is = bound_none e x v y is

pub bound_same : (e : Env) (x : ℕ) (v u : Value) → value_at (bound e x v) x ≡ Some u → v ≡ u
bound_same [] x v u is = absurd (not_none u (sym is))
bound_same (o ∷ e) zero v u is = the_same v u is
bound_same (o ∷ e) (suc x) v u is = bound_same e x v u is

pub bound_other : (e : Env) (x : ℕ) (v : Value) (y : ℕ) → (y ≡ x → ⊥) → value_at (bound e x v) y ≡ value_at e y
bound_other [] x v y other = refl
bound_other (o ∷ e) zero v zero other = absurd (other refl)
bound_other (o ∷ e) zero v (suc y) other = refl
bound_other (o ∷ e) (suc x) v zero other = refl
bound_other (o ∷ e) (suc x) v (suc y) other = bound_other e x v y (λ same. other (ap suc same))

-- one that has a value has one afterwards
pub bound_keeps : (e : Env) (x : ℕ) (v : Value) (y : ℕ) (u : Value) → value_at e y ≡ Some u → (w : Value) × (value_at (bound e x v) y ≡ Some w)
bound_keeps [] x v y u is = (u, is)
bound_keeps (o ∷ e) zero v zero u is = (v, refl)
bound_keeps (o ∷ e) zero v (suc y) u is = (u, is)
bound_keeps (o ∷ e) (suc x) v zero u is = (u, is)
bound_keeps (o ∷ e) (suc x) v (suc y) u is = bound_keeps e x v y u is

-- numbers are the same or not
pub same_or_not : {C : Type 0} (m n : ℕ) → (m ≡ n → C) → ((m ≡ n → ⊥) → C) → C
same_or_not {C} m n same other = by_test (nat_eq m n) refl
  where
    by_test : (b : Bool) → nat_eq m n ≡ b → C
    by_test true is = same (eqb-true m n is)
    by_test false is = other (λ eq. eqb-false m n is eq)
