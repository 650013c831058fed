-- A comparison's frames: what a look at two cells finds, what a frame's next pair leaves, and what the loop keeps.
use Rattle.std.proofs.Common.{ℕ, ℤ, inl, inr, suc, ◌+◌, ◌≡◌, ◌≤◌, ◌<◌, ◌&&◌, Bool, true, false, List, [], ◌∷◌, ◌++◌, length, drop, All, Some, slice_get, eqb, cond, refl, sym, ap, ◌∙◌, arith}
use Rattle.std.proofs.lemmas.Bool.{cases_eq, eq-eqb, ne_eqb, le-leb, lt-leb, cond-true, cond-false}
use Rattle.std.proofs.lemmas.List.{drop_more, drop_all, nil_from_length}
use Rattle.std.proofs.lemmas.Option.{get_or_from_slice_get, slice_get_within}
use Rattle.md_heap.specs.declared.same.Frame.{Frame}
use Rattle.md_heap.specs.declared.same.Same.TheVariants.{Equal, Differ, Over}
use Rattle.md_heap.specs.declared.value.Value.{Value}
use Rattle.md_heap.specs.declared.value.Value.TheVariants.{Int, Lit, Cell}
use Rattle.md_heap.specs.Cells.{Cells, IsThere, AreOlder, cell_at, cell_tree, tree_of, trees_of}
use Rattle.md_heap.specs.Tree.{Compared, Trees, no_trees, Number, Literal, Built, one_pair, below_pair, then_compared, compared, all_compared, same_within, tree_count}
use Rattle.md_heap.specs.Pending.{IsFrame, frame_due, due, more}
use Rattle.md_heap.proofs.Meaning.{unfolds, trees-count, parts-there, there-at}
use Rattle.md_heap.proofs.Sums.{same-compared, then-assoc, then-nothing, more-then, more-more, due-push, some-pairs, then-some}

-- a comparison of two cells, by their heads and parts
cells-compared : (h : Cells) (m n : ℕ) → AreOlder h → m < length h → n < length h →
    compared (cell_tree h m) (cell_tree h n) ≡ below_pair (eqb (cell_at h m).head (cell_at h n).head && eqb (length (cell_at h m).parts) (length (cell_at h n).parts)) (all_compared (trees_of h (cell_at h m).parts) (trees_of h (cell_at h n).parts))
cells-compared h m n older lm ln =
    let x = cell_at h m in
    let y = cell_at h n in
    let xs = trees_of h x.parts in
    let ys = trees_of h y.parts in
    let shown : ℕ → ℕ → Compared = λ i j. below_pair (eqb x.head y.head && eqb i j) (all_compared xs ys) in
    ap (λ t. compared t (cell_tree h n)) (unfolds h m older lm)
    ∙ ap (λ t. compared (Built x.head xs) t) (unfolds h n older ln)
    ∙ ap (λ i. shown i (tree_count ys)) (trees-count (λ k. cell_tree h k) x.parts)
    ∙ ap (λ j. shown (length x.parts) j) (trees-count (λ k. cell_tree h k) y.parts)

-- a cell is no integer and no literal
cell-built : (h : Cells) (n : ℕ) → (f : ℕ) × (ts : Trees) × (cell_tree h n ≡ Built f ts)
cell-built [] n = (0, no_trees, refl)
cell-built (c ∷ h) n =
    let made = trees_of h c.parts in
    let rest = cell-built h n in
    elim (cases_eq n (length h)) [
      | inl e ↦ (c.head, made, cond-true _ (Built c.head made) (cell_tree h n) (eq-eqb n (length h) e))
      | inr ne ↦ (rest.0, rest.1, cond-false _ (Built c.head made) (cell_tree h n) (ne_eqb n (length h) ne) ∙ rest.2)
    ]

integer-apart : (h : Cells) (m : ℤ) (w : Value) → ((n : ℤ) → w ≡ Int n → ⊥) → compared (Number m) (tree_of h w) ≡ one_pair false
integer-apart h m (Int n) other = absurd (other n refl)
integer-apart h m (Lit l) other = refl
integer-apart h m (Cell n) other = ap (λ t. compared (Number m) t) (cell-built h n).2

-- values of two kinds
pub integer-differs : (h : Cells) (v w : Value) (m : ℤ) → v ≡ Int m → ((n : ℤ) → w ≡ Int n → ⊥) → compared (tree_of h v) (tree_of h w) ≡ one_pair false
integer-differs h v w m is other = ap (λ x. compared (tree_of h x) (tree_of h w)) is ∙ integer-apart h m w other

literal-apart : (h : Cells) (a : ℕ) (w : Value) → ((b : ℕ) → w ≡ Lit b → ⊥) → compared (Literal a) (tree_of h w) ≡ one_pair false
literal-apart h a (Int n) other = refl
literal-apart h a (Lit b) other = absurd (other b refl)
literal-apart h a (Cell n) other = ap (λ t. compared (Literal a) t) (cell-built h n).2

pub literal-differs : (h : Cells) (v w : Value) (a : ℕ) → v ≡ Lit a → ((b : ℕ) → w ≡ Lit b → ⊥) → compared (tree_of h v) (tree_of h w) ≡ one_pair false
literal-differs h v w a is other = ap (λ x. compared (tree_of h x) (tree_of h w)) is ∙ literal-apart h a w other

cell-apart : (h : Cells) (m : ℕ) (w : Value) → ((n : ℕ) → w ≡ Cell n → ⊥) → compared (cell_tree h m) (tree_of h w) ≡ one_pair false
cell-apart h m (Int n) other = ap (λ t. compared t (Number n)) (cell-built h m).2
cell-apart h m (Lit b) other = ap (λ t. compared t (Literal b)) (cell-built h m).2
cell-apart h m (Cell n) other = absurd (other n refl)

pub cell-differs : (h : Cells) (v w : Value) (m : ℕ) → v ≡ Cell m → ((n : ℕ) → w ≡ Cell n → ⊥) → compared (tree_of h v) (tree_of h w) ≡ one_pair false
cell-differs h v w m is other = ap (λ x. compared (tree_of h x) (tree_of h w)) is ∙ cell-apart h m w other

both-not : (s t : Bool) (rest : Compared) → t ≡ false → below_pair (s && t) rest ≡ one_pair false
both-not true true rest differ = absurd (cc)
both-not true false rest differ = refl
both-not false t rest differ = refl

pub heads-differ : (h : Cells) (m n f g : ℕ) → AreOlder h → m < length h → n < length h → f ≡ (cell_at h m).head → g ≡ (cell_at h n).head → (f ≡ g → ⊥) → compared (cell_tree h m) (cell_tree h n) ≡ one_pair false
heads-differ h m n f g older lm ln fm gn ne =
    let x = cell_at h m in
    let y = cell_at h n in
    let differ : eqb x.head y.head ≡ false = ne_eqb x.head y.head (λ e. ne (fm ∙ e ∙ sym gn)) in
    cells-compared h m n older lm ln ∙ ap (λ s. below_pair (s && eqb (length x.parts) (length y.parts)) (all_compared (trees_of h x.parts) (trees_of h y.parts))) differ

pub counts-differ : (h : Cells) (m n i j : ℕ) → AreOlder h → m < length h → n < length h → i ≡ length (cell_at h m).parts → j ≡ length (cell_at h n).parts → (i ≡ j → ⊥) → compared (cell_tree h m) (cell_tree h n) ≡ one_pair false
counts-differ h m n i j older lm ln im jn ne =
    let x = cell_at h m in
    let y = cell_at h n in
    let differ : eqb (length x.parts) (length y.parts) ≡ false = ne_eqb (length x.parts) (length y.parts) (λ e. ne (im ∙ e ∙ sym jn)) in
    cells-compared h m n older lm ln ∙ both-not (eqb x.head y.head) (eqb (length x.parts) (length y.parts)) (all_compared (trees_of h x.parts) (trees_of h y.parts)) differ

-- equal heads and as many parts: the parts are what is left
pub nodes-equal : (h : Cells) (m n f g i j : ℕ) → AreOlder h → m < length h → n < length h → f ≡ (cell_at h m).head → g ≡ (cell_at h n).head → i ≡ length (cell_at h m).parts → j ≡ length (cell_at h n).parts → f ≡ g → i ≡ j →
    compared (cell_tree h m) (cell_tree h n) ≡ below_pair true (all_compared (trees_of h (cell_at h m).parts) (trees_of h (cell_at h n).parts))
nodes-equal h m n f g i j older lm ln fm gn im jn ef ei =
    let x = cell_at h m in
    let y = cell_at h n in
    let rest = all_compared (trees_of h x.parts) (trees_of h y.parts) in
    let same_head : eqb x.head y.head ≡ true = eq-eqb x.head y.head (sym fm ∙ ef ∙ gn) in
    let same_count : eqb (length x.parts) (length y.parts) ≡ true = eq-eqb (length x.parts) (length y.parts) (sym im ∙ ei ∙ jn) in
    cells-compared h m n older lm ln ∙ ap (λ s. below_pair (s && eqb (length x.parts) (length y.parts)) rest) same_head ∙ ap (λ t. below_pair (true && t) rest) same_count

pub constants-equal : (h : Cells) (m n f g i j : ℕ) → AreOlder h → m < length h → n < length h → f ≡ (cell_at h m).head → g ≡ (cell_at h n).head → i ≡ length (cell_at h m).parts → j ≡ length (cell_at h n).parts → f ≡ g → i ≡ j → i ≡ 0 →
    compared (cell_tree h m) (cell_tree h n) ≡ one_pair true
constants-equal h m n f g i j older lm ln fm gn im jn ef ei none =
    let no_first : (cell_at h m).parts ≡ [] = nil_from_length (cell_at h m).parts (sym im ∙ none) in
    let no_second : (cell_at h n).parts ≡ [] = nil_from_length (cell_at h n).parts (sym jn ∙ sym ei ∙ none) in
    nodes-equal h m n f g i j older lm ln fm gn im jn ef ei
    ∙ ap (λ vs. below_pair true (all_compared (trees_of h vs) (trees_of h (cell_at h n).parts))) no_first
    ∙ ap (λ ws. below_pair true (all_compared (trees_of h []) (trees_of h ws))) no_second

-- the parts that are left, the next one first
next-part : (vs : List Value) (k : ℕ) (v : Value) → slice_get vs k ≡ Some v → drop k vs ≡ v ∷ drop (k + 1) vs
next-part vs k v is = drop_more vs k v (slice_get_within vs k v is) ∙ ap (λ x. x ∷ drop (k + 1) vs) (get_or_from_slice_get vs k v v is)

frame-next : (h : Cells) (f : Frame) (v w : Value) → slice_get (cell_at h f.first).parts f.place ≡ Some v → slice_get (cell_at h f.second).parts f.place ≡ Some w →
    frame_due h f ≡ then_compared (compared (tree_of h v) (tree_of h w)) (all_compared (trees_of h (drop (f.place + 1) (cell_at h f.first).parts)) (trees_of h (drop (f.place + 1) (cell_at h f.second).parts)))
frame-next h f v w is_v is_w =
    let xs = (cell_at h f.first).parts in
    let ys = (cell_at h f.second).parts in
    ap (λ vs. all_compared (trees_of h vs) (trees_of h (drop f.place ys))) (next-part xs f.place v is_v)
    ∙ ap (λ ws. all_compared (trees_of h (v ∷ drop (f.place + 1) xs)) (trees_of h ws)) (next-part ys f.place w is_w)

-- a frame with more than one pair left
pub next-more : (h : Cells) (old fs new : List Frame) (f : Frame) (v w : Value) → slice_get (cell_at h f.first).parts f.place ≡ Some v → slice_get (cell_at h f.second).parts f.place ≡ Some w →
    old ≡ fs ++ f ∷ [] → new ≡ fs ++ record f { place = f.place + 1 } ∷ [] → due h old ≡ then_compared (compared (tree_of h v) (tree_of h w)) (due h new)
next-more h old fs new f v w is_v is_w was now =
    let g : Frame = record f { place = f.place + 1 } in
    let here = compared (tree_of h v) (tree_of h w) in
    ap (due h) was ∙ due-push h fs f ∙ ap (λ c. then_compared c (due h fs)) (frame-next h f v w is_v is_w) ∙ then-assoc here (frame_due h g) (due h fs)
    ∙ ap (then_compared here) (sym (due-push h fs g) ∙ ap (due h) (sym now))

-- a frame's last pair
pub next-last : (h : Cells) (old fs : List Frame) (f : Frame) (v w : Value) → IsFrame h f → slice_get (cell_at h f.first).parts f.place ≡ Some v → slice_get (cell_at h f.second).parts f.place ≡ Some w →
    old ≡ fs ++ f ∷ [] → f.count ≤ f.place + 1 → due h old ≡ then_compared (compared (tree_of h v) (tree_of h w)) (due h fs)
next-last h old fs f v w is is_v is_w was last =
    let xs = (cell_at h f.first).parts in
    let ys = (cell_at h f.second).parts in
    let here = compared (tree_of h v) (tree_of h w) in
    let no_first : drop (f.place + 1) xs ≡ [] = drop_all (f.place + 1) xs (omega (arith, is.first_count)) in
    let no_second : drop (f.place + 1) ys ≡ [] = drop_all (f.place + 1) ys (omega (arith, is.second_count)) in
    let alone : frame_due h f ≡ here =
    frame-next h f v w is_v is_w
    ∙ ap (λ vs. then_compared here (all_compared (trees_of h vs) (trees_of h (drop (f.place + 1) ys)))) no_first
    ∙ ap (λ ws. then_compared here (all_compared (trees_of h []) (trees_of h ws))) no_second
    ∙ then-nothing here in
    ap (due h) was ∙ due-push h fs f ∙ ap (λ c. then_compared c (due h fs)) alone

-- the parts of a frame's cells are there
pub part-there : (h : Cells) (n k : ℕ) (v : Value) → AreOlder h → n < length h → slice_get (cell_at h n).parts k ≡ Some v → IsThere (length h) v
part-there h n k v older l is = there-at (IsThere (length h)) (cell_at h n).parts k v (parts-there h n older l) is

-- equal nodes with parts, and then the frames
pub below-then : (h : Cells) (old new : List Frame) (f : Frame) (c s : Compared) → c ≡ below_pair true (frame_due h f) → new ≡ old ++ f ∷ [] → due h new ≡ s → then_compared c (due h old) ≡ more 1 s
below-then h old new f c s is now rest =
    let d = frame_due h f in
    ap (λ x. then_compared x (due h old)) (is ∙ same-compared (suc d.pairs) (1 + d.pairs) d.equal (omega arith))
    ∙ more-then 1 d (due h old) ∙ ap (more 1) (sym (due-push h old f) ∙ ap (due h) (sym now) ∙ rest)

-- what the loop keeps: so many pairs were equal, and v with w is next
pub record Stands (h : Cells) (a b v w : Value) (fs : List Frame) (pairs : ℕ) : Type 0 where
  pub v_there : IsThere (length h) v
  pub w_there : IsThere (length h) w
  pub frames : All (IsFrame h) fs
  pub sum : compared (tree_of h a) (tree_of h b) ≡ more pairs (then_compared (compared (tree_of h v) (tree_of h w)) (due h fs))

pub stands-first : (h : Cells) (a b : Value) (fs : List Frame) → fs ≡ [] → IsThere (length h) a → IsThere (length h) b → All (IsFrame h) fs → Stands h a b a b fs 0
stands-first h a b fs none a_there b_there frames =
    let c = compared (tree_of h a) (tree_of h b) in record {
      v_there = a_there;
      w_there = b_there;
      frames = frames;
      sum = sym (same-compared (0 + c.pairs) c.pairs c.equal (omega arith)) ∙ ap (more 0) (sym (then-nothing c) ∙ ap (λ xs. then_compared c (due h xs)) (sym none));
    }

after-step : (h : Cells) (a b v w : Value) (fs : List Frame) (pairs : ℕ) (s : Compared) → Stands h a b v w fs pairs → then_compared (compared (tree_of h v) (tree_of h w)) (due h fs) ≡ more 1 s → compared (tree_of h a) (tree_of h b) ≡ more (pairs + 1) s
after-step h a b v w fs pairs s stands step = stands.sum ∙ ap (more pairs) step ∙ more-more pairs 1 s

pub stands-next : (h : Cells) (a b v w x y : Value) (fs gs : List Frame) (pairs : ℕ) → Stands h a b v w fs pairs → then_compared (compared (tree_of h v) (tree_of h w)) (due h fs) ≡ more 1 (then_compared (compared (tree_of h x) (tree_of h y)) (due h gs)) →
    IsThere (length h) x → IsThere (length h) y → All (IsFrame h) gs → Stands h a b x y gs (pairs + 1)
stands-next h a b v w x y fs gs pairs stands step x_there y_there frames = record {
  v_there = x_there;
  w_there = y_there;
  frames = frames;
  sum = after-step h a b v w fs pairs (then_compared (compared (tree_of h x) (tree_of h y)) (due h gs)) stands step;
}

within-limit : (limit n : ℕ) (s : Bool) → n ≤ limit → same_within limit (record { pairs = n; equal = s }) ≡ cond s (Equal n) (Differ n)
within-limit limit n s le = cond-true _ (cond s (Equal n) (Differ n)) Over (le-leb n limit le)

-- the last step: a pair that differs, or none left
pub ends : (h : Cells) (a b v w : Value) (fs : List Frame) (pairs limit : ℕ) (equal : Bool) → Stands h a b v w fs pairs → then_compared (compared (tree_of h v) (tree_of h w)) (due h fs) ≡ more 1 (record { pairs = 0; equal = equal }) → pairs < limit →
    cond equal (Equal (pairs + 1)) (Differ (pairs + 1)) ≡ same_within limit (compared (tree_of h a) (tree_of h b))
ends h a b v w fs pairs limit equal stands step lt =
    let e = after-step h a b v w fs pairs (record { pairs = 0; equal = equal }) stands step in
    sym (ap (same_within limit) (e ∙ same-compared (pairs + 1 + 0) (pairs + 1) equal (omega arith)) ∙ within-limit limit (pairs + 1) equal (omega arith))

-- the limit is reached, and a pair is left
pub over : (h : Cells) (a b v w : Value) (fs : List Frame) (pairs limit : ℕ) → Stands h a b v w fs pairs → limit ≤ pairs → Over ≡ same_within limit (compared (tree_of h a) (tree_of h b))
over h a b v w fs pairs limit stands le =
    let c = compared (tree_of h a) (tree_of h b) in
    let here = compared (tree_of h v) (tree_of h w) in
    let some : 1 ≤ (then_compared here (due h fs)).pairs = then-some here (due h fs) (some-pairs (tree_of h v) (tree_of h w)) in
    let count : c.pairs ≡ pairs + (then_compared here (due h fs)).pairs = ap (λ (x : Compared). x.pairs) stands.sum in
    let more_needed : limit < c.pairs = omega arith in
    sym (cond-false _ (cond c.equal (Equal c.pairs) (Differ c.pairs)) Over (lt-leb c.pairs limit more_needed))
