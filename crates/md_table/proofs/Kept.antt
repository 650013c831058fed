-- What is added behind the bytes of cells, or behind the cells of rows, leaves these as they are.
use Rattle.std.proofs.Common.{◌≡◌, ℕ, ◌+◌, ◌-◌, ◌≤◌, List, [], ◌∷◌, ◌++◌, All, length, map, take, drop, get_or, refl, ap, sym, ◌∙◌, arith}
use Rattle.std.specs.List.{between}
use Rattle.std.proofs.lemmas.List.{drop_all, drop_at, drop-append-le, get_or_append_left, get_or_push, length-append, length-drop, map-append, take-append-le, take_all}
use Rattle.std.proofs.lemmas.List.Elements.{All-head, All-tail}
use Rattle.md_table.specs.Spans.{HasLast, IsWithin, cell_in, line_in}
use Rattle.md_table.specs.Table.{LineCells, RowsCells, with_cells, with_last}
use Rattle.md_table.specs.declared.span.Span.{Span}

-- a part that ends before the end
between_kept : {X : Type 0} (xs ys : List X) (from to : ℕ) → from ≤ to → to ≤ length xs → between from to (xs ++ ys) ≡ between from to xs
between_kept xs ys from to rising inside =
    ap (take (to - from)) (drop-append-le from xs ys (omega arith)) ∙ take-append-le (to - from) (drop from xs) ys (omega (arith, length-drop from xs))

-- what stands at the end
between_end : {X : Type 0} (xs ys : List X) (to : ℕ) → to ≡ length xs + length ys → between (length xs) to (xs ++ ys) ≡ ys
between_end xs ys to is = ap (take (to - length xs)) (drop_at xs ys (length xs) refl) ∙ take_all (to - length xs) ys (omega (arith, is))

cells_kept : (words more : List ℕ) (spans : List Span) → All (IsWithin (length words)) spans → map (cell_in (words ++ more)) spans ≡ map (cell_in words) spans
cells_kept words more [] within = refl
cells_kept words more (span ∷ spans) within =
    let first = All-head (IsWithin (length words)) span spans within in
    ap (λ (cell : List ℕ). cell ∷ map (cell_in (words ++ more)) spans) (between_kept words more span.from span.to first.rising first.inside)
    ∙ ap (λ (cells : List (List ℕ)). cell_in words span ∷ cells) (cells_kept words more spans (All-tail (IsWithin (length words)) span spans within))

-- one more cell, whose bytes were added
pub cell_more : (old new more : List ℕ) (spans : List Span) (from to : ℕ) → All (IsWithin (length old)) spans
    → new ≡ old ++ more → from ≡ length old → to ≡ length new
    → map (cell_in new) (spans ++ record { from = from; to = to } ∷ []) ≡ map (cell_in old) spans ++ more ∷ []
cell_more old new more spans from to within added starts ends =
    let whole : to ≡ length old + length more = ends ∙ ap length added ∙ length-append old more in
    map-append (cell_in new) spans (record { from = from; to = to } ∷ [])
    ∙ ap (λ (words : List ℕ). map (cell_in words) spans ++ between from to words ∷ []) added
    ∙ ap (λ (cells : List (List ℕ)). cells ++ between from to (old ++ more) ∷ []) (cells_kept old more spans within)
    ∙ ap (λ (n : ℕ). map (cell_in old) spans ++ between n to (old ++ more) ∷ []) starts
    ∙ ap (λ (cell : List ℕ). map (cell_in old) spans ++ cell ∷ []) (between_end old more to whole)

-- the rows that these spans are, and the one that is begun from a cell on
abbrev rows_in : (cells : List (List ℕ)) → List Span → (begun : ℕ) → RowsCells
rows_in cells spans begun = record { ended = map (line_in cells) spans; begun = drop begun cells }

last_kept : (cells more : List (List ℕ)) (span : Span) → HasLast (length cells) span → line_in (cells ++ more) span ≡ line_in cells span
last_kept cells more span there =
    ap (λ (cs : List (List ℕ)). record { cells = cs; last = get_or (cells ++ more) span.to [] }) (between_kept cells more span.from span.to there.rising (omega (arith, there.inside)))
    ∙ ap (λ (last : List ℕ). record { cells = between span.from span.to cells; last = last }) (get_or_append_left cells more [] span.to there.inside)

lines_kept : (cells more : List (List ℕ)) (spans : List Span) → All (HasLast (length cells)) spans → map (line_in (cells ++ more)) spans ≡ map (line_in cells) spans
lines_kept cells more [] there = refl
lines_kept cells more (span ∷ spans) there =
    ap (λ (line : LineCells). line ∷ map (line_in (cells ++ more)) spans) (last_kept cells more span (All-head (HasLast (length cells)) span spans there))
    ∙ ap (λ (lines : List LineCells). line_in cells span ∷ lines) (lines_kept cells more spans (All-tail (HasLast (length cells)) span spans there))

-- one more cell in the row that is begun
pub cell_added : (old new : List (List ℕ)) (cell : List ℕ) (spans : List Span) (begun : ℕ) → All (HasLast (length old)) spans → begun ≤ length old
    → new ≡ old ++ cell ∷ []
    → rows_in new spans begun ≡ with_cells (rows_in old spans begun) (cell ∷ [])
cell_added old new cell spans begun there within added =
    ap (λ (cs : List (List ℕ)). rows_in cs spans begun) added
    ∙ ap (λ (lines : List LineCells). record { ended = lines; begun = drop begun (old ++ cell ∷ []) }) (lines_kept old (cell ∷ []) spans there)
    ∙ ap (λ (cs : List (List ℕ)). record { ended = map (line_in old) spans; begun = cs }) (drop-append-le begun old (cell ∷ []) within)

-- the row that is begun, ended by its last cell
pub last_added : (old new : List (List ℕ)) (last : List ℕ) (spans more : List Span) (begun to next : ℕ) → All (HasLast (length old)) spans → begun ≤ length old
    → new ≡ old ++ last ∷ [] → more ≡ spans ++ record { from = begun; to = to } ∷ [] → to ≡ length old → next ≡ length new
    → rows_in new more next ≡ with_last (rows_in old spans begun) last
last_added old new last spans more begun to next there within added pushed ends steps =
    let told : between begun to new ≡ drop begun old =
    ap (λ (cs : List (List ℕ)). between begun to cs) added
    ∙ between_kept old (last ∷ []) begun to (omega (arith, ends)) (omega (arith, ends))
    ∙ take_all (to - begun) (drop begun old) (omega (arith, ends, length-drop begun old)) in
    let behind : get_or new to [] ≡ last = ap (λ (cs : List (List ℕ)). get_or cs to []) added ∙ get_or_push old last [] to (sym ends) in
    let all : map (line_in new) more ≡ map (line_in old) spans ++ record { cells = drop begun old; last = last } ∷ [] =
    ap (λ (ss : List Span). map (line_in new) ss) pushed
    ∙ map-append (line_in new) spans (record { from = begun; to = to } ∷ [])
    ∙ ap (λ (cs : List (List ℕ)). map (line_in cs) spans ++ line_in new (record { from = begun; to = to }) ∷ []) added
    ∙ ap (λ (lines : List LineCells). lines ++ line_in new (record { from = begun; to = to }) ∷ []) (lines_kept old (last ∷ []) spans there)
    ∙ ap (λ (cs : List (List ℕ)). map (line_in old) spans ++ record { cells = cs; last = get_or new to [] } ∷ []) told
    ∙ ap (λ (l : List ℕ). map (line_in old) spans ++ record { cells = drop begun old; last = l } ∷ []) behind in
    ap (λ (lines : List LineCells). record { ended = lines; begun = drop next new }) all
    ∙ ap (λ (cs : List (List ℕ)). record { ended = map (line_in old) spans ++ record { cells = drop begun old; last = last } ∷ []; begun = cs }) (drop_all next new (omega (arith, steps)))
