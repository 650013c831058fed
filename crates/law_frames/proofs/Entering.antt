-- The leave in a new frame: the slots of its variables that have values are closed, and so is its head.
use Rattle.std.proofs.Common.{List, ◌≡◌, refl, ap, sym, ◌∙◌, subst, arith, ℕ, zero, suc, ◌<◌, ◌≤◌, Bool, true, false, cond, not, nat_eq, nat_lt, Option, Some, None, is_some, true≢false}
use Rattle.std.proofs.lemmas.Bool.{eq-eqb, eqb-true, le-leb, lt-leb, leb-true, leb-false}
use Rattle.md_hlds.specs.Value.{Value, Env, value_at}
use Rattle.law_steps.specs.State.{State}
use Rattle.law_frames.specs.Ways.{Leaves, Way, Later}
use Rattle.law_frames.specs.Stores.{Act, Choice, Store, Cell, slot, height, header, Perm, Below, AlikeBelow, IsFree, top, Same, Framed, IsKept, Kept, KeepsHeight}
use Rattle.law_frames.specs.Calls.{NewFrame, AgreeBelow}
use Rattle.law_frames.specs.Standing.{Runs, Stands, runs}
use Rattle.law_frames.proofs.FrameRule.{going_kept}
use Rattle.law_frames.proofs.Ends.{placed_of}

-- whether the body cuts decides whether its height is closed
abbrev pub new_cell : Env → Bool → Cell → Bool
new_cell e cut (slot y) = not (is_some (value_at e y))
new_cell e cut (height zero) = not cut
new_cell e cut (height (suc n)) = true
new_cell e cut header = false

abbrev pub entering : ℕ → Env → Bool → Perm → Perm
entering i e cut W = λ j k. cond (nat_lt j i) (W j k) (cond (nat_eq j i) (new_cell e cut k) true)

lt_true : (j i : ℕ) → j < i → nat_lt j i ≡ true
lt_true j i lt = le-leb (suc j) i lt

lt_false : (j i : ℕ) → i ≤ j → nat_lt j i ≡ false
lt_false j i le = lt-leb (suc j) i (omega (arith, le))

pub below_frame : (i : ℕ) (e : Env) (cut : Bool) (W : Perm) (j : ℕ) (k : Cell) → j < i → entering i e cut W j k ≡ W j k
below_frame i e cut W j k lt = ap (λ b. cond b (W j k) (cond (nat_eq j i) (new_cell e cut k) true)) (lt_true j i lt)

at_frame : (i : ℕ) (e : Env) (cut : Bool) (W : Perm) (k : Cell) → entering i e cut W i k ≡ new_cell e cut k
at_frame i e cut W k =
    ap (λ b. cond b (W i k) (cond (nat_eq i i) (new_cell e cut k) true)) (lt_false i i (omega arith)) ∙ ap (λ b. cond b (new_cell e cut k) true) (eq-eqb i i refl)

by_frame : (b c : Bool) → (b ≡ true → ⊥) → cond b c true ≡ true
by_frame true c other = absurd (other refl)
by_frame false c other = refl

above_frame : (i : ℕ) (e : Env) (cut : Bool) (W : Perm) (j : ℕ) (k : Cell) → i < j → entering i e cut W j k ≡ true
above_frame i e cut W j k lt =
    ap (λ b. cond b (W j k) (cond (nat_eq j i) (new_cell e cut k) true)) (lt_false j i (omega (arith, lt)))
    ∙ by_frame (nat_eq j i) (new_cell e cut k) (λ is. let same = eqb-true j i is in omega (arith, lt, same))

-- below the frame or not
pub below_or_not : {C : Type 0} (j i : ℕ) → (j < i → C) → (i ≤ j → C) → C
below_or_not {C} j i if_below if_not = by_test (nat_lt j i) refl
  where
    by_test : (b : Bool) → nat_lt j i ≡ b → C
    by_test true is = if_below (leb-true (suc j) i is)
    by_test false is = if_not (let less = leb-false (suc j) i is in omega (arith, less))

pub entering_below : (i : ℕ) (e : Env) (cut : Bool) (W : Perm) → IsFree W i → Below (entering i e cut W) W
entering_below i e cut W free = record { opens = λ j k is. below_or_not j i (λ lt. sym (below_frame i e cut W j k lt) ∙ is) (λ le. free j k le) }

pub entering_alike : (n i : ℕ) (e : Env) (cut : Bool) (W : Perm) → n ≤ i → AlikeBelow n (entering i e cut W) W
entering_alike n i e cut W le = record { alike = λ j k lt. below_frame i e cut W j k (omega (arith, lt, le)) }

pub entering_free : (i : ℕ) (e : Env) (cut : Bool) (W : Perm) (n : ℕ) → i < n → IsFree (entering i e cut W) n
entering_free i e cut W n lt j k le = above_frame i e cut W j k (omega (arith, lt, le))

closed_is_below : (W : Perm) (i : ℕ) → IsFree W i → (j : ℕ) (k : Cell) → W j k ≡ false → j < i
closed_is_below W i free j k is = below_or_not j i (λ lt. lt) (λ le. absurd (true≢false (sym (free j k le) ∙ is)))

-- nothing that is read is written
pub new_frame_same : {S T : Store} {i : ℕ} {x : Act} {e : Env} {h : ℕ} (W : Perm) → IsFree W i → NewFrame S T i x e h → Same W S T
new_frame_same {i = i} W free new = record {
  values = λ j y is. new.values j y (closed_is_below W i free j (slot y) is);
  heights = λ j n is. new.heights j n (closed_is_below W i free j (height n) is);
  acts = λ j is. new.acts j (closed_is_below W i free j header is);
}

pub new_framed : {S T : Store} {i : ℕ} {x : Act} {e : Env} {h : ℕ} (cut : Bool) (W : Perm) → NewFrame S T i x e h → Framed T (entering i e cut W) x
new_framed {T = T} {i = i} {x = x} {e = e} cut W new = record { act = ap T.acts new.is ∙ new.act; firm = ap (λ j. entering i e cut W j header) new.is ∙ at_frame i e cut W header }

new_slot : (T : Store) (W : Perm) (i y : ℕ) (e : Env) (cut : Bool) (o : Option Value) → value_at e y ≡ o → ((v : Value) → value_at e y ≡ Some v → T.values i y ≡ v) → IsKept T (entering i e cut W) i y o
new_slot T W i y e cut None is entered = at_frame i e cut W (slot y) ∙ ap (λ o. not (is_some o)) is
new_slot T W i y e cut (Some v) is entered = (entered v is, at_frame i e cut W (slot y) ∙ ap (λ o. not (is_some o)) is)

-- what the new frame holds
pub new_frame_kept : {S T : Store} {i : ℕ} {x : Act} {e : Env} {h : ℕ} (cut : Bool) (W : Perm) (w : Way) → Later 0 w → NewFrame S T i x e h → Kept T (entering i e cut W) x w e
new_frame_kept {T = T} {i = i} {x = x} {e = e} cut W w later new = record {
  framed = new_framed cut W new;
  each = λ y reads. subst (λ (j : ℕ). IsKept T (entering i e cut W) j y (value_at e y)) (sym new.is) (new_slot T W i y e cut (value_at e y) refl (λ v is. new.entered y v is));
  from = 0;
  ahead = later;
  spare = λ n le. ap (λ j. entering i e cut W j (height (suc n))) new.is ∙ at_frame i e cut W (height (suc n));
}

pub new_height : (cut : Bool) {S T : Store} {i : ℕ} {x : Act} {e : Env} {h : ℕ} (W : Perm) → NewFrame S T i x e h → KeepsHeight T (entering i e cut W) x cut 0 h
new_height true {T = T} {i = i} {e = e} W new = (ap (λ j. T.heights j 0) new.is ∙ new.height, ap (λ j. entering i e true W j (height 0)) new.is ∙ at_frame i e true W (height 0))
new_height false W new = tt

-- ---- frames above the top

agree_same : {S T : Store} (W : Perm) (n : ℕ) → IsFree W n → AgreeBelow n S T → Same W S T
agree_same W n free agree = record {
  values = λ j y is. agree.values j y (closed_is_below W n free j (slot y) is);
  heights = λ j m is. agree.heights j m (closed_is_below W n free j (height m) is);
  acts = λ j is. agree.acts j (closed_is_below W n free j header is);
}

-- whatever they hold, the machine stands where it stood
pub anything_above : {lv : Leaves} {S T : Store} {w : Way} {x : Act} {c : List Act} {cs : List Choice} {k : ℕ} {st : State} → AgreeBelow (top x cs) S T → Stands lv S (Runs w x c) cs k st → Stands lv T (Runs w x c) cs k st
anything_above {x = x} {cs = cs} agree (runs {W = W} k goes) = runs k (going_kept goes (agree_same W (top x cs) (placed_of goes).free agree))
