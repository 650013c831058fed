-- The cells of rows and parts: which cell a number names, and what a row with parts added at the end makes of them.
use Rattle.std.proofs.Common.{ℕ, zero, suc, ◌+◌, ◌-◌, ◌≡◌, ◌<◌, ◌≤◌, inl, inr, List, [], ◌∷◌, ◌++◌, length, take, drop, All, Some, slice_get, get_or, refl, sym, ap, ◌∙◌, subst, arith}
use Rattle.std.proofs.Math.Numerals.{suc-eq-add-one}
use Rattle.std.proofs.lemmas.Bool.{cases_eq, cases_lt}
use Rattle.std.proofs.lemmas.List.{length-append, length-drop, length-take, drop_at, take_all, take-append-le, drop-append-le, get_or-take, get_or-drop}
use Rattle.std.proofs.lemmas.Option.{slice_get-get_or, slice_get_past, slice_get_read}
use Rattle.md_heap.specs.declared.row.Row.{Row}
use Rattle.md_heap.specs.declared.value.Value.{Value}
use Rattle.md_heap.specs.Cells.{Node, Cells, IsThere, AreOlder, cell_at}
use Rattle.md_heap.specs.Layout.{first_or, head_or, start, node_at, cells_below, cells_of, IsLaidOut}
use Rattle.md_heap.proofs.Lists.{get-push-old, get-push-new}
use Rattle.md_heap.proofs.Meaning.{newest-cell, older-cell}

pub length-below : (rows : List Row) (parts : List Value) (n : ℕ) → length (cells_below rows parts n) ≡ n
length-below rows parts zero = refl
length-below rows parts (suc n) = ap suc (length-below rows parts n)

pub cell-below : (rows : List Row) (parts : List Value) (m n : ℕ) → n < m → cell_at (cells_below rows parts m) n ≡ node_at rows parts n
cell-below rows parts zero n l = absurd (omega arith)
cell-below rows parts (suc m) n l =
    let size = length-below rows parts m in
    elim (cases_eq n m) [
      | inl e ↦ newest-cell (node_at rows parts m) (cells_below rows parts m) n (e ∙ sym size) ∙ ap (node_at rows parts) (sym e)
      | inr ne ↦
          let lt : n < m = omega arith in
          let within : n < length (cells_below rows parts m) = omega arith in
          older-cell (node_at rows parts m) (cells_below rows parts m) n within ∙ cell-below rows parts m n lt
    ]

pub start-past : (rows : List Row) (parts : List Value) (n : ℕ) → length rows ≤ n → start rows parts n ≡ length parts
start-past rows parts n past = ap (first_or (length parts)) (slice_get_past rows n past)

-- a row that is read is where its cell's parts begin
pub start-read : (rows : List Row) (parts : List Value) (n : ℕ) (row : Row) → slice_get rows n ≡ Some row → start rows parts n ≡ row.first
start-read rows parts n row is = ap (first_or (length parts)) is

-- a row and its parts at the end leave where the older parts begin
start-kept : (rows : List Row) (parts ps : List Value) (row : Row) (n : ℕ) → row.first ≡ length parts → n ≤ length rows → start (rows ++ row ∷ []) (parts ++ ps) n ≡ start rows parts n
start-kept rows parts ps row n at le =
    elim (cases_eq n (length rows)) [
      | inl e ↦
          let new : slice_get (rows ++ row ∷ []) n ≡ Some row = ap (slice_get (rows ++ row ∷ [])) e ∙ get-push-new rows row in
          ap (first_or (length (parts ++ ps))) new ∙ at ∙ sym (start-past rows parts n (omega arith))
      | inr ne ↦
          let lt : n < length rows = omega arith in
          let old : slice_get rows n ≡ Some (get_or rows n row) = slice_get-get_or rows n row lt in
          ap (first_or (length (parts ++ ps))) (get-push-old rows row n lt ∙ old) ∙ sym (ap (first_or (length parts)) old)
    ]

start-new : (rows : List Row) (parts ps : List Value) (row : Row) (n : ℕ) → suc (length rows) ≤ n → start (rows ++ row ∷ []) (parts ++ ps) n ≡ length parts + length ps
start-new rows parts ps row n past = start-past (rows ++ row ∷ []) (parts ++ ps) n (omega (arith, length-append rows (row ∷ []))) ∙ length-append parts ps

-- a piece of a list, with more at the end
piece : (parts ps : List Value) (i j : ℕ) → i ≤ length parts → j ≤ length parts → take (j - i) (drop i (parts ++ ps)) ≡ take (j - i) (drop i parts)
piece parts ps i j li lj =
    ap (take (j - i)) (drop-append-le i parts ps li) ∙ take-append-le (j - i) (drop i parts) ps (omega (arith, length-drop i parts))

node-kept : (rows : List Row) (parts ps : List Value) (row : Row) (n : ℕ) → IsLaidOut rows parts → row.first ≡ length parts → n < length rows → node_at (rows ++ row ∷ []) (parts ++ ps) n ≡ node_at rows parts n
node-kept rows parts ps row n laid at lt =
    let made : ℕ → ℕ → ℕ → Node = λ h i j. record { head = h; parts = take (j - i) (drop i (parts ++ ps)) } in
    let i = start rows parts n in
    let j = start rows parts (suc n) in
    let begins = start-kept rows parts ps row n at (omega arith) in
    let ends = start-kept rows parts ps row (suc n) at (omega arith) in
    let heads : head_or (slice_get (rows ++ row ∷ []) n) ≡ head_or (slice_get rows n) = ap head_or (get-push-old rows row n lt) in
    let same : List Value → Node = λ vs. record { head = head_or (slice_get rows n); parts = vs } in
    ap (λ h. made h (start (rows ++ row ∷ []) (parts ++ ps) n) (start (rows ++ row ∷ []) (parts ++ ps) (suc n))) heads
    ∙ ap (λ x. made (head_or (slice_get rows n)) x (start (rows ++ row ∷ []) (parts ++ ps) (suc n))) begins
    ∙ ap (λ y. made (head_or (slice_get rows n)) i y) ends
    ∙ ap same (piece parts ps i j (laid.within n) (laid.within (suc n)))

node-new : (rows : List Row) (parts ps : List Value) (row : Row) → row.first ≡ length parts → ◌≡◌ {A = Node} (node_at (rows ++ row ∷ []) (parts ++ ps) (length rows)) (record { head = row.head; parts = ps })
node-new rows parts ps row at =
    let made : ℕ → ℕ → ℕ → Node = λ h i j. record { head = h; parts = take (j - i) (drop i (parts ++ ps)) } in
    let begins : start (rows ++ row ∷ []) (parts ++ ps) (length rows) ≡ length parts = start-kept rows parts ps row (length rows) at (omega arith) ∙ start-past rows parts (length rows) (omega arith) in
    let ends : start (rows ++ row ∷ []) (parts ++ ps) (suc (length rows)) ≡ length parts + length ps = start-new rows parts ps row (suc (length rows)) (omega arith) in
    let heads : head_or (slice_get (rows ++ row ∷ []) (length rows)) ≡ row.head = ap head_or (get-push-new rows row) in
    let same : List Value → Node = λ vs. record { head = row.head; parts = vs } in
    let rest : drop (length parts) (parts ++ ps) ≡ ps = drop_at parts ps (length parts) refl in
    ap (λ h. made h (start (rows ++ row ∷ []) (parts ++ ps) (length rows)) (start (rows ++ row ∷ []) (parts ++ ps) (suc (length rows)))) heads
    ∙ ap (λ x. made row.head x (start (rows ++ row ∷ []) (parts ++ ps) (suc (length rows)))) begins
    ∙ ap (λ y. made row.head (length parts) y) ends
    ∙ ap same (ap (take (length parts + length ps - length parts)) rest ∙ take_all (length parts + length ps - length parts) ps (omega arith))

below-kept : (rows : List Row) (parts ps : List Value) (row : Row) (n : ℕ) → IsLaidOut rows parts → row.first ≡ length parts → n ≤ length rows → cells_below (rows ++ row ∷ []) (parts ++ ps) n ≡ cells_below rows parts n
below-kept rows parts ps row zero laid at le = refl
below-kept rows parts ps row (suc n) laid at le =
    let here = node-kept rows parts ps row n laid at (omega arith) in
    let rest = below-kept rows parts ps row n laid at (omega arith) in
    ap (λ x. x ∷ cells_below (rows ++ row ∷ []) (parts ++ ps) n) here ∙ ap (λ xs. node_at rows parts n ∷ xs) rest

-- a row and its parts at the end are one cell more
pub cells-push : (rows : List Row) (parts ps : List Value) (row : Row) → IsLaidOut rows parts → row.first ≡ length parts → cells_of (rows ++ row ∷ []) (parts ++ ps) ≡ record { head = row.head; parts = ps } ∷ cells_of rows parts
cells-push rows parts ps row laid at =
    let size : length (rows ++ row ∷ []) ≡ suc (length rows) = omega (arith, length-append rows (row ∷ [])) in
    let rest = below-kept rows parts ps row (length rows) laid at (omega arith) in
    ap (cells_below (rows ++ row ∷ []) (parts ++ ps)) size
    ∙ ap (λ x. x ∷ cells_below (rows ++ row ∷ []) (parts ++ ps) (length rows)) (node-new rows parts ps row at)
    ∙ ap (λ xs. record { head = row.head; parts = ps } ∷ xs) rest

pub laid-push : (rows : List Row) (parts ps : List Value) (row : Row) → IsLaidOut rows parts → row.first ≡ length parts → All (IsThere (length (cells_of rows parts))) ps → IsLaidOut (rows ++ row ∷ []) (parts ++ ps)
laid-push rows parts ps row laid at there = record {
  rising = λ n. elim (cases_lt n (length rows)) [
    | inl lt ↦ omega (arith, start-kept rows parts ps row n at (omega arith), start-kept rows parts ps row (suc n) at (omega arith), laid.rising n)
    | inr ge ↦ elim (cases_eq n (length rows)) [
      | inl e ↦ omega (arith, start-kept rows parts ps row n at (omega arith), start-new rows parts ps row (suc n) (omega arith), laid.within n)
      | inr ne ↦ omega (arith, start-new rows parts ps row n (omega arith), start-new rows parts ps row (suc n) (omega arith))
    ]
  ];
  within = λ n. elim (cases_lt (length rows) n) [
    | inl gt ↦ omega (arith, start-new rows parts ps row n (omega arith), length-append parts ps)
    | inr le ↦ omega (arith, start-kept rows parts ps row n at (omega arith), laid.within n, length-append parts ps)
  ];
  older = let P : Cells → Type 0 = AreOlder in subst P (sym (cells-push rows parts ps row laid at)) (there, laid.older);
}

-- the cell of a number that is there
pub record IsRead (rows : List Row) (parts : List Value) (h : Cells) (n : ℕ) : Type 0 where
  pub there : n < length rows
  pub is : cell_at h n ≡ node_at rows parts n

pub cell-read : (rows : List Row) (parts : List Value) (h : Cells) (n : ℕ) → cells_of rows parts ≡ h → n < length h → IsRead rows parts h n
cell-read rows parts h n view there =
    let size : length h ≡ length rows = ap length (sym view) ∙ length-below rows parts (length rows) in
    let lt : n < length rows = omega arith in
    record { there = lt; is = ap (λ x. cell_at x n) (sym view) ∙ cell-below rows parts (length rows) n lt }

-- where a part of a cell lies
pub record LiesAt (parts : List Value) (h : Cells) (n place at : ℕ) : Type 0 where
  pub within : at < length parts
  pub is : (v : Value) → v ≡ get_or parts at v → slice_get (cell_at h n).parts place ≡ Some v

pub part-read : (rows : List Row) (parts : List Value) (h : Cells) (n place : ℕ) (row : Row) → IsLaidOut rows parts → cells_of rows parts ≡ h → n < length h → place < length (cell_at h n).parts →
    row ≡ get_or rows n row → LiesAt parts h n place (row.first + place)
part-read rows parts h n place row laid view there few read =
    let cell = cell-read rows parts h n view there in
    let i = start rows parts n in
    let j = start rows parts (suc n) in
    let piece = take (j - i) (drop i parts) in
    let same : (cell_at h n).parts ≡ piece = ap (λ (x : Node). x.parts) cell.is in
    let begins : i ≡ row.first = start-read rows parts n row (slice_get_read rows (length rows) n row refl cell.there read) in
    let size : length (cell_at h n).parts ≡ length piece = ap length same in
    let inside : place < length piece = omega arith in
    let shorter : place < j - i = omega (arith, length-take (j - i) (drop i parts)) in
    record {
      within = omega (arith, laid.within (suc n));
      is = λ v is.
          let got : get_or piece place v ≡ get_or parts (i + place) v = get_or-take (j - i) (drop i parts) place v shorter ∙ get_or-drop i parts place v in
          let e : v ≡ get_or piece place v = is ∙ ap (λ k. get_or parts k v) (omega arith) ∙ sym got in
          ap (λ xs. slice_get xs place) same ∙ slice_get_read piece (length piece) place v refl inside e;
    }

-- how many parts a cell has: they end where the next one's begin, or at the end
pub count-read : (rows : List Row) (parts : List Value) (h : Cells) (n last : ℕ) (row : Row) → IsLaidOut rows parts → cells_of rows parts ≡ h → n < length h → row ≡ get_or rows n row →
    start rows parts (suc n) ≡ last → (row.first ≤ last) × (last - row.first ≡ length (cell_at h n).parts)
count-read rows parts h n last row laid view there read ends =
    let cell = cell-read rows parts h n view there in
    let i = start rows parts n in
    let j = start rows parts (suc n) in
    let same : length (cell_at h n).parts ≡ length (take (j - i) (drop i parts)) = ap (λ (x : Node). length x.parts) cell.is in
    let begins : i ≡ row.first = start-read rows parts n row (slice_get_read rows (length rows) n row refl cell.there read) in
    let size : length (cell_at h n).parts ≡ j - i = omega (arith, same, length-take (j - i) (drop i parts), length-drop i parts, laid.within (suc n)) in
    (omega (arith, laid.rising n), omega (arith, laid.rising n))

pub count-next : (rows : List Row) (parts : List Value) (h : Cells) (n : ℕ) (row next : Row) → IsLaidOut rows parts → cells_of rows parts ≡ h → n < length h → row ≡ get_or rows n row →
    n + 1 < length rows → next ≡ get_or rows (n + 1) next → (row.first ≤ next.first) × (next.first - row.first ≡ length (cell_at h n).parts)
count-next rows parts h n row next laid view there read lt read_next =
    let ends : start rows parts (n + 1) ≡ next.first = start-read rows parts (n + 1) next (slice_get_read rows (length rows) (n + 1) next refl lt read_next) in
    count-read rows parts h n next.first row laid view there read (ap (start rows parts) (suc-eq-add-one n) ∙ ends)

pub count-last : (rows : List Row) (parts : List Value) (h : Cells) (n : ℕ) (row : Row) → IsLaidOut rows parts → cells_of rows parts ≡ h → n < length h → row ≡ get_or rows n row →
    length rows ≤ n + 1 → (row.first ≤ length parts) × (length parts - row.first ≡ length (cell_at h n).parts)
count-last rows parts h n row laid view there read last = count-read rows parts h n (length parts) row laid view there read (start-past rows parts (suc n) (omega arith))

pub head-read : (rows : List Row) (parts : List Value) (h : Cells) (n : ℕ) (row : Row) → cells_of rows parts ≡ h → n < length h → row ≡ get_or rows n row → row.head ≡ (cell_at h n).head
head-read rows parts h n row view there read =
    let cell = cell-read rows parts h n view there in
    sym (ap (λ (x : Node). x.head) cell.is ∙ ap head_or (slice_get_read rows (length rows) n row refl cell.there read))
