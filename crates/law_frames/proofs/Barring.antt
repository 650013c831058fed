-- The leave while a condition runs: the height that its end cuts to is closed, where it cuts.
use Rattle.std.proofs.Common.{◌≡◌, refl, ap, sym, ◌∙◌, subst, arith, ℕ, suc, ◌<◌, ◌≤◌, Bool, true, false, cond, nat_eq, List, Option, Some, None, true≢false}
use Rattle.std.proofs.lemmas.Bool.{eq-eqb, eqb-true}
use Rattle.md_hlds.specs.Value.{Value, Env, value_at}
use Rattle.md_hlds.specs.Trace.{Frame}
use Rattle.law_steps.specs.State.{Wait}
use Rattle.law_frames.specs.Ways.{Leaves, Address, to, Way, after, passes, Reads, Later}
use Rattle.law_frames.specs.Stores.{Act, Choice, choice, choice_if, Store, with_height_if, Cell, slot, height, header, Perm, Below, AlikeBelow, IsFree, top, Same, IsKept, Kept, KeepsHeight, heads}
use Rattle.law_frames.specs.Standing.{Failing, popped, Ending, past_choice}
use Rattle.law_frames.proofs.Leave.{same_refl, below_refl, top_choice}
use Rattle.law_frames.proofs.FrameRule.{failing_kept, alike_refl}
use Rattle.law_frames.proofs.Cells.{height_here, height_same}

abbrev pub barred_cell : Bool → ℕ → Cell → Bool → Bool
barred_cell true m (slot y) b = b
barred_cell true m (height n) b = cond (nat_eq n m) false b
barred_cell true m header b = b
barred_cell false m k b = b

-- the height m of the frame i is closed
abbrev pub barred : ℕ → ℕ → Perm → Perm
barred i m W = λ j k. barred_cell (nat_eq j i) m k (W j k)

abbrev pub barred_if : Bool → ℕ → ℕ → Perm → Perm
barred_if true i m W = barred i m W
barred_if false i m W = W

cond_open : (t b : Bool) → cond t false b ≡ true → b ≡ true
cond_open true b is = absurd (true≢false (sym is))
cond_open false b is = is

cell_open : (here : Bool) (m : ℕ) (k : Cell) (b : Bool) → barred_cell here m k b ≡ true → b ≡ true
cell_open true m (slot y) b is = is
cell_open true m (height n) b is = cond_open (nat_eq n m) b is
cell_open true m header b is = is
cell_open false m k b is = is

cell_elsewhere : (here : Bool) (m : ℕ) (k : Cell) (b : Bool) → (here ≡ true → ⊥) → barred_cell here m k b ≡ b
cell_elsewhere true m k b other = absurd (other refl)
cell_elsewhere false m k b other = refl

elsewhere : (i m : ℕ) (W : Perm) (j : ℕ) (k : Cell) → (j ≡ i → ⊥) → barred i m W j k ≡ W j k
elsewhere i m W j k other = cell_elsewhere (nat_eq j i) m k (W j k) (λ is. other (eqb-true j i is))

pub barred_below : (l : Bool) (i m : ℕ) (W : Perm) → Below (barred_if l i m W) W
barred_below true i m W = record { opens = λ j k is. cell_open (nat_eq j i) m k (W j k) is }
barred_below false i m W = below_refl

pub barred_alike : (l : Bool) (i m : ℕ) (W : Perm) → AlikeBelow i (barred_if l i m W) W
barred_alike true i m W = record { alike = λ j k lt. elsewhere i m W j k (λ same. omega (arith, lt, same)) }
barred_alike false i m W = alike_refl

pub barred_free : (l : Bool) (i m : ℕ) (W : Perm) (n : ℕ) → i < n → IsFree W n → IsFree (barred_if l i m W) n
barred_free true i m W n lt free j k le = elsewhere i m W j k (λ same. omega (arith, lt, same, le)) ∙ free j k le
barred_free false i m W n lt free j k le = free j k le

cell_slot : (here : Bool) (m y : ℕ) (b : Bool) → barred_cell here m (slot y) b ≡ b
cell_slot true m y b = refl
cell_slot false m y b = refl

cell_header : (here : Bool) (m : ℕ) (b : Bool) → barred_cell here m header b ≡ b
cell_header true m b = refl
cell_header false m b = refl

slot_as_was : (l : Bool) (i m : ℕ) (W : Perm) (y : ℕ) → barred_if l i m W i (slot y) ≡ W i (slot y)
slot_as_was true i m W y = cell_slot (nat_eq i i) m y (W i (slot y))
slot_as_was false i m W y = refl

header_as_was : (l : Bool) (i m : ℕ) (W : Perm) → barred_if l i m W i header ≡ W i header
header_as_was true i m W = cell_header (nat_eq i i) m (W i header)
header_as_was false i m W = refl

cond_other : (t b : Bool) → (t ≡ true → ⊥) → cond t false b ≡ b
cond_other true b other = absurd (other refl)
cond_other false b other = refl

cell_other : (here : Bool) (m n : ℕ) (b : Bool) → (n ≡ m → ⊥) → barred_cell here m (height n) b ≡ b
cell_other true m n b other = cond_other (nat_eq n m) b (λ is. other (eqb-true n m is))
cell_other false m n b other = refl

other_height : (l : Bool) (i m : ℕ) (W : Perm) (n : ℕ) → (n ≡ m → ⊥) → barred_if l i m W i (height n) ≡ W i (height n)
other_height true i m W n other = cell_other (nat_eq i i) m n (W i (height n)) other
other_height false i m W n other = refl

cell_shut : (here : Bool) (m : ℕ) (b : Bool) → here ≡ true → barred_cell here m (height m) b ≡ false
cell_shut true m b is = ap (λ t. cond t false b) (eq-eqb m m refl)
cell_shut false m b is = absurd (true≢false (sym is))

kept_slot : (S : Store) (U W : Perm) (i y : ℕ) (o : Option Value) → U i (slot y) ≡ W i (slot y) → IsKept S W i y o → IsKept S U i y o
kept_slot S U W i y None same kept = same ∙ kept
kept_slot S U W i y (Some v) same kept = (kept.0, same ∙ kept.1)

-- what the frame holds while the condition of the goal of number n runs
pub kept_barred : (l : Bool) {S : Store} {W : Perm} {x : Act} {w : Way} {e : Env} (v : Way) (n : ℕ) → (kept : Kept S W x w e) → kept.from ≤ n → ((y : ℕ) → Reads (heads x) v y → Reads (heads x) w y) → Later (suc n) v
    → Kept S (barred_if l x.index (suc n) W) x v e
kept_barred l {S} {W} {x} {w} {e} v n kept le narrow later = record {
  framed = record { act = kept.framed.act; firm = header_as_was l x.index (suc n) W ∙ kept.framed.firm };
  each = λ y reads. kept_slot S (barred_if l x.index (suc n) W) W x.index y (value_at e y) (slot_as_was l x.index (suc n) W y) (kept.each y (narrow y reads));
  from = suc n;
  ahead = later;
  spare = λ m more. other_height l x.index (suc n) W (suc m) (λ same. omega (arith, same, more)) ∙ kept.spare m (omega (arith, le, more));
}

-- ---- the height is kept, and the choice is left, where the condition may leave choices

pub height_same_if : (l : Bool) (W : Perm) (S : Store) (i n h : ℕ) → W i (height n) ≡ true → Same W S (with_height_if l S i n h)
height_same_if true W S i n h is = height_same W S i n h is
height_same_if false W S i n h is = same_refl

pub keeps_height_if : (l : Bool) (W : Perm) (S : Store) (x : Act) (n h : ℕ) → KeepsHeight (with_height_if l S x.index n h) (barred_if l x.index n W) x l n h
keeps_height_if true W S x n h = (height_here S x.index n h, cell_shut (nat_eq x.index x.index) n (W x.index (height n)) (eq-eqb x.index x.index refl))
keeps_height_if false W S x n h = tt

pub fails_if : (l : Bool) (w : Way) {lv : Leaves} {S : Store} {W U : Perm} {x : Act} {c : List Act} {cs : List Choice} {ws : List Wait} → Below U W → Failing lv S W (to w) x c cs ws
    → Failing lv S U (after (to w) l) x c (choice_if l (choice x c (to w)) cs) ws
fails_if true w below fails = popped below fails
fails_if false w {U = U} below fails = failing_kept fails U below same_refl

pub passes_if : (l : Bool) (ch : Choice) {lv : Leaves} {S : Store} {W : Perm} {end : Way} {x : Act} {c : List Act} {cs : List Choice} {pairs : List (ℕ × ℕ)} {js : List Frame} {ws : List Wait}
    → passes end ≡ l → Ending lv S W end x c cs pairs js ws → Ending lv S W end x c (choice_if l ch cs) pairs js ws
passes_if true ch passing ends = past_choice passing ends
passes_if false ch passing ends = ends

pub free_if : (l : Bool) (W : Perm) (x : Act) (c : List Act) (a : Address) (cs : List Choice) → IsFree W (top x cs) → IsFree W (top x (choice_if l (choice x c a) cs))
free_if true W x c a cs free = subst (IsFree W) (sym (top_choice x cs)) free
free_if false W x c a cs free = free
