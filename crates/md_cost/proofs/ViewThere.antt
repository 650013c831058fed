-- A profile with a tree has a view: the paths in so many steps are paths up.
use Rattle.std.proofs.Common.{◌≡◌, ℕ, zero, suc, ◌<◌, ◌≤◌, List, [], ◌∷◌, ◌++◌, length, get_or, Option, Some, refl, sym, ap, ◌∙◌, inl, inr, subst, arith}
use Rattle.std.specs.List.{slice_get}
use Rattle.std.proofs.lemmas.Bool.{cases_eq, cases_lt}
use Rattle.std.proofs.lemmas.List.{get_or_append_left, get_or_push, length_push}
use Rattle.md_clique.specs.Cliques.{clique_count}
use Rattle.md_clique.specs.OneEntry.{IsPathUp, StartsEntry}
use Rattle.md_clique.proofs.Naming.{lt_clique_count}
use Rattle.md_dynamic.specs.Profile.{ProfileRows}
use Rattle.md_cost.specs.Paths.{ends, path_of, path_to, start_of}
use Rattle.md_cost.specs.Sound.{AreSound}
use Rattle.md_cost.specs.Tree.{IsTree}
use Rattle.md_cost.specs.View.{View}
use Rattle.md_cost.specs.FileView.{ArePaths, IsFileView, file_view}
use Rattle.md_cost.proofs.PathSteps.{path_stops, path_goes}
use Rattle.md_cost.proofs.ClimbSteps.{start_is}
use Rattle.md_cost.proofs.TreeSteps.{rises, ends_at}
use Rattle.md_cost.proofs.ViewSteps.{lower, started}

-- the values of a function below n
abbrev table : (ℕ → List ℕ) → ℕ → List (List ℕ)
table f zero = []
table f (suc n) = table f n ++ f n ∷ []

length-table : (f : ℕ → List ℕ) (n : ℕ) → length (table f n) ≡ n
length-table f zero = refl
length-table f (suc n) = let before = length-table f n in let more = length_push (table f n) (f n) in omega arith

table-at : (f : ℕ → List ℕ) (n c : ℕ) → c < n → get_or (table f n) c [] ≡ f c
table-at f zero c lt = absurd (omega arith)
table-at f (suc n) c lt = let size = length-table f n in elim (cases_eq c n) [
  | inl same ↦ get_or_push (table f n) (f n) [] c (omega arith) ∙ ap f (sym same)
  | inr other ↦ get_or_append_left (table f n) (f n ∷ []) [] c (omega arith) ∙ table-at f n c (omega arith)
]

-- a path begins with its context
path_head : (cliques : List ℕ) (starts : ℕ → ℕ) (i d : ℕ) → (rest : List ℕ) × (path_to cliques starts 0 i d ≡ d ∷ rest)
path_head cliques starts zero d = ([], refl)
path_head cliques starts (suc i) d = elim (cases_lt 0 (get_or cliques d 0)) as (λ _. (rest : List ℕ) × (path_to cliques starts 0 (suc i) d ≡ d ∷ rest)) [
  | inl some ↦ (path_to cliques starts 0 i (starts (get_or cliques d 0)), path_goes cliques starts 0 i d some)
  | inr none ↦ ([], path_stops cliques starts 0 (suc i) d none)
]

one_more : (cliques : List ℕ) (links : List (Option ℕ × ℕ)) (c d : ℕ) (rest xs : List ℕ) → xs ≡ d ∷ rest → StartsEntry cliques links (get_or cliques c 0) d → IsPathUp cliques links xs → IsPathUp cliques links (c ∷ xs)
one_more cliques links c d rest xs is starts up = rw is (starts, rw is at up)

module _ (f : ProfileRows) (sound : AreSound (length f.nodes) f.links) (cliques found : List ℕ) (tree : IsTree (length f.nodes) f.links cliques found) where
  starts_entry : (k : ℕ) → 0 < k → k < clique_count cliques → StartsEntry cliques (ends f.links) k (start_of f.links found k)
  starts_entry k some few =
      let rise = rises (length f.nodes) f.links sound cliques found tree.cliques_are tree.entries_are k some few in
      let start : start_of f.links found k ≡ rise.start = start_is cliques found f.links k rise in
      record {
        place = get_or found k 0;
        to = rise.row.callee;
        only = tree.entries_are.one k few;
        link = ends_at f.links (get_or found k 0) rise.row rise.there ∙ ap (λ (o : Option ℕ). Some (o, rise.row.callee)) (rise.caller ∙ ap (λ (s : ℕ). Some s) (sym start));
      }

  up : (i c : ℕ) → get_or cliques c 0 ≤ i → c < length cliques → IsPathUp cliques (ends f.links) (path_to cliques (start_of f.links found) 0 i c)
  up zero c le lt = omega arith
  up (suc i) c le lt = elim (cases_lt 0 (get_or cliques c 0)) [
    | inl some ↦ (
        let below = lt_clique_count cliques c lt in
        let less = lower f sound cliques found tree (get_or cliques c 0) some below in
        let there = started f sound cliques found tree (get_or cliques c 0) some below in
        let head = path_head cliques (start_of f.links found) i (start_of f.links found (get_or cliques c 0)) in
        subst (λ (xs : List ℕ). IsPathUp cliques (ends f.links) xs) (sym (path_goes cliques (start_of f.links found) 0 i c some))
        (one_more cliques (ends f.links) c (start_of f.links found (get_or cliques c 0)) head.0 (path_to cliques (start_of f.links found) 0 i (start_of f.links found (get_or cliques c 0))) head.1
        (starts_entry (get_or cliques c 0) some below) (up i (start_of f.links found (get_or cliques c 0)) (omega arith) there)))
    | inr none ↦ (
        let is_zero : get_or cliques c 0 ≡ 0 = omega arith in
        subst (λ (xs : List ℕ). IsPathUp cliques (ends f.links) xs) (sym (path_stops cliques (start_of f.links found) 0 (suc i) c none)) is_zero)
  ]

  paths_there : ArePaths cliques (ends f.links) (table (path_of cliques found f.links) (length cliques))
  paths_there = record {
    each = length-table (path_of cliques found f.links) (length cliques);
    begin = λ c lt. (let head = path_head cliques (start_of f.links found) (get_or cliques c 0) c in
        ap (λ (xs : List ℕ). slice_get xs 0) (table-at (path_of cliques found f.links) (length cliques) c lt ∙ head.1));
    up = λ c lt. subst (λ (xs : List ℕ). IsPathUp cliques (ends f.links) xs) (sym (table-at (path_of cliques found f.links) (length cliques) c lt)) (up (get_or cliques c 0) c (omega arith) lt);
  }

  pub view_there : (v : View) × IsFileView f v
  view_there = (
    file_view f cliques found (table (path_of cliques found f.links) (length cliques)),
    record { tree = tree; paths = table (path_of cliques found f.links) (length cliques); paths_are = paths_there; is = refl },
  )
