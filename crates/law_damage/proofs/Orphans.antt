-- The lowest context that isn't reached, and how many bytes before the end its field stands.
use Rattle.std.proofs.Common.{◌≡◌, ℕ, zero, suc, ◌+◌, ◌-◌, ◌*◌, ◌<◌, ◌≤◌, ◌^◌, ◌⊎◌, inl, inr, Bool, true, false, ◌&&◌, ◌||◌, ◌==◌, nat_lt, List, [], ◌∷◌, ◌++◌, length, map, take, Some, refl, sym, ap, subst, ◌∙◌, length-append, length-take-le, arith}
use Rattle.std.specs.List.{AllByRecursion, list_any}
use Rattle.std.proofs.lemmas.Bool.{cases_lt, cond-true, cond-false, and_parts, and_from, and_right, ltb-true, lt-ltb, le-ltb, eqb-true, eq-eqb, both_ways, cases_Bool, false_from_ne_true}
use Rattle.std.proofs.lemmas.Grind.{flat_map-append}
use Rattle.std.proofs.lemmas.List.{length-map}
use Rattle.std.proofs.lemmas.List.Folds.{Any-from_list_any, list_any-from_Any}
use Rattle.md_dynamic.specs.declared.link.LinkRow.{LinkRow}
use Rattle.md_dynamic.specs.Valid.{leads_down}
use Rattle.md_deepfile.specs.Bytes.{u32, none}
use Rattle.md_deepfile.specs.Rules.{orphan_from}
use Rattle.law_damage.specs.Rows.{SiteNumbers, LinkNumbers, FileRows}
use Rattle.law_damage.specs.Fields.{Field, ContextProc, LinkCount, LinkFits, LinkIsNew, laid, written, behind, context_fields, link_fields, context_list, link_list, front, fields, before_context}
use Rattle.law_damage.specs.Damage.{IsReached, IsLowestOrphan}
use Rattle.law_damage.proofs.Tests.{link_row}
use Rattle.law_damage.proofs.Sections.{four, link_rows}

-- ---- which contexts are reached, by a test

abbrev pub reaches : ℕ → LinkNumbers → Bool
reaches v l = (l.callee == v) && nat_lt l.caller v

pub reached : (t : FileRows) (v : ℕ) → list_any (reaches v) t.links ≡ true → IsReached t v
reached t v h =
    let a = Any-from_list_any (reaches v) t.links h in
    let both = and_parts (a.1.callee == v) (nat_lt a.1.caller v) a.4 in
    (a.0, a.1, a.2, a.3, (eqb-true a.1.callee v both.0, ltb-true a.1.caller v both.1))

pub is_reached : (t : FileRows) (v : ℕ) → IsReached t v → list_any (reaches v) t.links ≡ true
is_reached t v a =
    list_any-from_Any (reaches v) t.links (a.0, a.1, a.2, a.3, and_from (a.1.callee == v) (nat_lt a.1.caller v) (eq-eqb a.1.callee v a.4.0) (lt-ltb a.1.caller v a.4.1))

-- the caller of link 0 is none
abbrev pub HasRoot : List LinkNumbers → Type 0
HasRoot [] = Unit {0}
HasRoot (root ∷ others) = root.caller ≡ none

same_others : (v : ℕ) (others : List LinkNumbers) → list_any (leads_down v) (map link_row others) ≡ list_any (reaches v) others
same_others v [] = refl
same_others v (l ∷ others) = ap (λ (b : Bool). ((l.callee == v) && nat_lt l.caller v) || b) (same_others v others)

pub same_reached : (v : ℕ) (links : List LinkNumbers) → HasRoot links → v < 2 ^ 32 → list_any (leads_down v) (link_rows links) ≡ list_any (reaches v) links
same_reached v [] root below = refl
same_reached v (r ∷ others) root below =
    let far : nat_lt r.caller v ≡ false = le-ltb r.caller v (omega (arith, root, below)) in
    ap (λ (b : Bool). b || list_any (leads_down v) (map link_row others)) (and_right (0 == v) false refl)
    ∙ same_others v others ∙ ap (λ (b : Bool). b || list_any (reaches v) others) (sym (and_right (r.callee == v) (nat_lt r.caller v) far))

-- ---- the lowest one

pub orphan_at : (links : List LinkRow) (v n u : ℕ) → v ≤ u → u < v + n → list_any (leads_down u) links ≡ false → ((w : ℕ) → v ≤ w → w < u → list_any (leads_down w) links ≡ true) → orphan_from links v n ≡ Some u
orphan_at links v zero u le lt alone lower = absurd (omega (arith, le, lt))
orphan_at links v (suc n) u le lt alone lower = elim (cases_lt v u) [
  | inl above ↦
      cond-true (list_any (leads_down v) links) (orphan_from links (suc v) n) (Some v) (lower v (omega arith) above)
      ∙ orphan_at links (suc v) n u (omega (arith, above)) (omega (arith, lt)) alone (λ w low. lower w (omega (arith, low)))
  | inr same ↦
      let e : v ≡ u = omega (arith, le, same) in
      cond-false (list_any (leads_down v) links) (orphan_from links (suc v) n) (Some v) (ap (λ (w : ℕ). list_any (leads_down w) links) e ∙ alone) ∙ ap (λ (w : ℕ). Some w) e
]

pub orphan_of : (t : FileRows) (v : ℕ) → IsLowestOrphan t v → length t.contexts < 2 ^ 32 → HasRoot t.links → orphan_from (link_rows t.links) 1 (length t.contexts - 1) ≡ Some v
orphan_of t v lowest few root =
    let above : 0 < v = lowest.above in
    let within : v < length t.contexts = lowest.within in
    orphan_at (link_rows t.links) 1 (length t.contexts - 1) v (omega (arith, above)) (omega (arith, within, above))
    (same_reached v t.links root (omega (arith, within, few)) ∙ false_from_ne_true (list_any (reaches v) t.links) (λ h. lowest.alone (reached t v h)))
    (λ w low below. same_reached w t.links root (omega (arith, below, within, few)) ∙ is_reached t w (lowest.lower w (omega (arith, low)) below))

-- there is a lowest one, or all are reached
pub some_orphan : (t : FileRows) (v n : ℕ) → v + n ≡ length t.contexts → 0 < v → ((u : ℕ) → 0 < u → u < v → IsReached t u)
    → ((u : ℕ) × IsLowestOrphan t u) ⊎ ((u : ℕ) → 0 < u → u < length t.contexts → IsReached t u)
some_orphan t v zero size above lower = inr (λ u some below. lower u some (omega (arith, below, size)))
some_orphan t v (suc n) size above lower = elim (cases_Bool (list_any (reaches v) t.links)) [
  | inl leads ↦ some_orphan t (suc v) n (omega (arith, size)) (omega arith) (λ u some below. elim (cases_lt u v) [
    | inl less ↦ lower u some less
    | inr same ↦ let e : v ≡ u = omega (arith, same, below) in subst (λ (w : ℕ). IsReached t w) e (reached t v leads)
  ])
  | inr lacks ↦ inl (v, record { above = above; within = omega (arith, size); alone = λ h. both_ways (list_any (reaches v) t.links) lacks (is_reached t v h); lower = lower })
]

-- ---- how many bytes there are

laid_size : (xs ys : List Field) → length (laid (xs ++ ys)) ≡ length (laid xs) + length (laid ys)
laid_size xs ys = ap length (flat_map-append written xs ys) ∙ length-append (laid xs) (laid ys)

contexts_size : (procs : ℕ) (before xs : List ℕ) → length (laid (behind (context_fields procs) before xs)) ≡ 4 * length xs
contexts_size procs before [] = refl
contexts_size procs before (x ∷ xs) =
    let more = contexts_size procs (before ++ x ∷ []) xs in
    omega (arith, laid_size (ContextProc procs x ∷ []) (behind (context_fields procs) (before ++ x ∷ []) xs), four x, length-append (u32 x) [], more)

pub counts_size : (ns : List ℕ) → length (laid (map LinkCount ns)) ≡ 4 * length ns
counts_size [] = refl
counts_size (n ∷ ns) = omega (arith, length-append (u32 n) (laid (map LinkCount ns)), four n, counts_size ns)

pub numbers_size : (a b c : ℕ) (xs : List ℕ) → length (u32 a ++ (u32 b ++ (u32 c ++ xs))) ≡ 12 + length xs
numbers_size a b c xs =
    omega (arith, length-append (u32 a) (u32 b ++ (u32 c ++ xs)), length-append (u32 b) (u32 c ++ xs), length-append (u32 c) xs, four a, four b, four c)

link_bytes_size : (sites : List SiteNumbers) (contexts : List ℕ) (before : List LinkNumbers) (l : LinkNumbers) → length (laid (link_fields sites contexts before l)) ≡ 12 + 4 * length l.own
link_bytes_size sites contexts [] l = omega (arith, numbers_size l.caller l.site l.callee (laid (map LinkCount l.own)), counts_size l.own)
link_bytes_size sites contexts (root ∷ before) l =
    let marks : List Field = LinkFits sites contexts l ∷ LinkIsNew contexts before l ∷ [] in
    let none : length (laid marks) ≡ 0 = refl in
    omega (arith, numbers_size l.caller l.site l.callee (laid (map LinkCount l.own ++ marks)), laid_size (map LinkCount l.own) marks, none, counts_size l.own)

wide : (k n : ℕ) → 12 + 4 * k + (12 + 4 * k) * n ≡ (12 + 4 * k) * suc n
wide k n = omega arith

links_size : (k : ℕ) (sites : List SiteNumbers) (contexts : List ℕ) (before xs : List LinkNumbers) → AllByRecursion (λ y. length y.own ≡ k) xs → length (laid (behind (link_fields sites contexts) before xs)) ≡ (12 + 4 * k) * length xs
links_size k sites contexts before [] all = omega arith
links_size k sites contexts before (x ∷ xs) all =
    let more = links_size k sites contexts (before ++ x ∷ []) xs all.1 in
    let one : length (laid (link_fields sites contexts before x)) ≡ 12 + 4 * k = link_bytes_size sites contexts before x ∙ ap (λ (j : ℕ). 12 + 4 * j) all.0 in
    laid_size (link_fields sites contexts before x) (behind (link_fields sites contexts) (before ++ x ∷ []) xs)
    ∙ ap (λ (j : ℕ). j + length (laid (behind (link_fields sites contexts) (before ++ x ∷ []) xs))) one
    ∙ ap (λ (j : ℕ). (12 + 4 * k) + j) more ∙ wide k (length xs)

-- from the front of the whole
place_from : (front contexts v links total : ℕ) → v ≤ contexts → total ≡ front + ((4 + 4 * contexts) + (4 + links)) → total - (4 * (contexts - v) + (4 + links)) ≡ front + (4 + 4 * v)
place_from front contexts v links total le size = omega (arith, le, size)

contexts_part : (t : FileRows) (xs : List ℕ) → length (laid (context_list t xs)) ≡ 4 + 4 * length xs
contexts_part t xs =
    omega (arith, length-append (u32 (length t.contexts)) (laid (behind (context_fields (length t.procs)) [] xs)), four (length t.contexts), contexts_size (length t.procs) [] xs)

links_part : (k : ℕ) (t : FileRows) → AllByRecursion (λ y. length y.own ≡ k) t.links → length (laid (link_list t)) ≡ 4 + (12 + 4 * k) * length t.links
links_part k t all =
    length-append (u32 (length t.links)) (laid (behind (link_fields t.sites t.contexts) [] t.links))
    ∙ ap (λ (j : ℕ). j + length (laid (behind (link_fields t.sites t.contexts) [] t.links))) (four (length t.links))
    ∙ ap (λ (j : ℕ). 4 + j) (links_size k t.sites t.contexts [] t.links all)

rows_size : (links : List LinkNumbers) → length (link_rows links) ≡ length links
rows_size [] = refl
rows_size (root ∷ others) = ap (λ (n : ℕ). suc n) (length-map others link_row)

pub orphan_place : (k : ℕ) (t : FileRows) (v : ℕ) → AllByRecursion (λ y. length y.own ≡ k) t.links → v ≤ length t.contexts
    → length (laid (fields t)) - (4 * (length t.contexts - v) + (4 + (12 + 4 * k) * length (link_rows t.links))) ≡ length (laid (before_context t v))
orphan_place k t v all le =
    let whole : length (laid (fields t)) ≡ length (laid (front t)) + ((4 + 4 * length t.contexts) + (4 + (12 + 4 * k) * length (link_rows t.links)))
    = laid_size (front t) (context_list t t.contexts ++ link_list t)
    ∙ ap (λ (j : ℕ). length (laid (front t)) + j) (laid_size (context_list t t.contexts) (link_list t))
    ∙ ap (λ (j : ℕ). length (laid (front t)) + (j + length (laid (link_list t)))) (contexts_part t t.contexts)
    ∙ ap (λ (j : ℕ). length (laid (front t)) + ((4 + 4 * length t.contexts) + j)) (links_part k t all)
    ∙ ap (λ (j : ℕ). length (laid (front t)) + ((4 + 4 * length t.contexts) + (4 + (12 + 4 * k) * j))) (sym (rows_size t.links)) in
    let taken : length (take v t.contexts) ≡ v = length-take-le v t.contexts le in
    let first : length (laid (before_context t v)) ≡ length (laid (front t)) + (4 + 4 * v)
    = laid_size (front t) (context_list t (take v t.contexts))
    ∙ ap (λ (j : ℕ). length (laid (front t)) + j) (contexts_part t (take v t.contexts) ∙ ap (λ (j : ℕ). 4 + 4 * j) taken) in
    place_from (length (laid (front t))) (length t.contexts) v ((12 + 4 * k) * length (link_rows t.links)) (length (laid (fields t))) le whole ∙ sym first
