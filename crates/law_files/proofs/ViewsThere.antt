-- A valid profile has one view, or a clique of it is entered twice.
use Rattle.std.proofs.Common.{◌≡◌, ℕ, zero, suc, ◌<◌, ◌≤◌, ◌⊎◌, inl, inr, List, [], ◌∷◌, ◌++◌, length, get_or, take, Option, refl, sym, ap, subst, ◌∙◌, arith}
use Rattle.std.proofs.lemmas.Bool.{cases_eq}
use Rattle.std.proofs.lemmas.List.{ext_get_or, get_or_append_left, get_or_push, length_push}
use Rattle.md_trace.specs.Cliques.{AreCliques}
use Rattle.md_dynamic.specs.Profile.{ProfileRows}
use Rattle.md_dynamic.specs.Valid.{IsValid}
use Rattle.md_clique.specs.Cliques.{clique_count}
use Rattle.md_clique.specs.Entries.{AreEntries, edges_of, entries}
use Rattle.md_clique.specs.Entries as clique
use Rattle.md_clique.proofs.Entered.{is_entered}
use Rattle.md_clique.proofs.OneNumbering.{one_numbering}
use Rattle.md_cost.specs.FileView.{ArePaths, IsFileView, file_view}
use Rattle.md_cost.specs.Paths.{ends}
use Rattle.md_cost.specs.Sound.{AreSound}
use Rattle.md_cost.specs.Tree.{IsTree}
use Rattle.md_cost.specs.View.{View}
use Rattle.md_cost.proofs.TreeSteps.{reached}
use Rattle.md_cost.proofs.ValidSteps.{valid_sound}
use Rattle.md_cost.proofs.ViewSteps.{path_is, view_cliques, view_entries}
use Rattle.md_cost.proofs.ViewThere.{view_there}
use Rattle.law_files.specs.Views.{HasView, IsEnteredTwice}
use Rattle.law_files.proofs.CliquesThere.{cliques_there}

-- ---- one view

module _ (f : ProfileRows) (sound : AreSound (length f.nodes) f.links) (cliques found : List ℕ) (tree : IsTree (length f.nodes) f.links cliques found) where
  one_path : (paths also : List (List ℕ)) → ArePaths cliques (ends f.links) paths → ArePaths cliques (ends f.links) also → paths ≡ also
  one_path paths also are too = ext_get_or [] paths also (are.each ∙ sym too.each) (λ c lt.
      let below : c < length cliques = (let size = are.each in omega arith) in
      path_is f sound cliques found tree (get_or paths c []) c below (are.begin c below) (are.up c below)
      ∙ sym (path_is f sound cliques found tree (get_or also c []) c below (too.begin c below) (too.up c below)))

pub one_view : (f : ProfileRows) (v w : View) → IsValid f → IsFileView f v → IsFileView f w → v ≡ w
one_view f v w valid is also =
    let sound = (valid_sound f valid).links in
    let cliques = view_cliques f sound w.cliques w.entries also.tree v is in
    let found = view_entries f sound w.cliques w.entries also.tree v is in
    let paths : ArePaths w.cliques (ends f.links) is.paths = subst (λ (ks : List ℕ). ArePaths ks (ends f.links) is.paths) cliques is.paths_are in
    let same = one_path f sound w.cliques w.entries also.tree is.paths also.paths paths also.paths_are in
    is.is
    ∙ ap (λ (ks : List ℕ). file_view f ks v.entries is.paths) cliques
    ∙ ap (λ (es : List ℕ). file_view f w.cliques es is.paths) found
    ∙ ap (λ (ps : List (List ℕ)). file_view f w.cliques w.entries ps) same
    ∙ sym also.is

pub has_view : (f : ProfileRows) (v : View) → IsValid f → IsFileView f v → HasView f v
has_view f v valid is = record { is_view = is; alone = λ w also. one_view f w v valid also is }

-- ---- the links that enter cliques, found from clique 0 on

module _ (cliques : List ℕ) (links : List (Option ℕ × ℕ)) (some : (k : ℕ) → k < clique_count cliques → 0 < length (entries cliques links k)) where
  -- the entries of the cliques below m
  record FoundBelow (m : ℕ) : Type 0 where
    pub found : List ℕ
    pub each : length found ≡ m
    pub one : (k : ℕ) → k < m → entries cliques links k ≡ get_or found k 0 ∷ []

  pub record Twice : Type 0 where
    pub k : ℕ
    pub a : ℕ
    pub b : ℕ
    pub is : clique.IsEnteredTwice cliques links k a b

  -- the next clique's
  next_entries : (m : ℕ) → m < clique_count cliques → FoundBelow m → (xs : List ℕ) → entries cliques links m ≡ xs → 0 < length xs → FoundBelow (suc m) ⊎ Twice
  next_entries m lt below [] is any = absurd (omega arith)
  next_entries m lt below (a ∷ []) is any = inl (record {
    found = below.found ++ a ∷ [];
    each = (let size = below.each in let push = length_push below.found a in omega arith);
    one = λ k less. elim (cases_eq k m) [
      | inl last ↦ (let at = get_or_push below.found a 0 m below.each in rw (last, at) is)
      | inr other ↦ (let size = below.each in let at = get_or_append_left below.found (a ∷ []) 0 k (omega arith) in rw at (below.one k (omega arith)))
    ];
  })
  next_entries m lt below (a ∷ b ∷ xs) is any = inr (record {
    k = m;
    a = a;
    b = b;
    is = record { there = lt; two = ap (take 2) is; lowest = λ j less. ap length (below.one j less) };
  })

  found_below : (m : ℕ) → m ≤ clique_count cliques → FoundBelow m ⊎ Twice
  found_below zero le = inl (record { found = []; each = refl; one = λ k lt. absurd (omega arith) })
  found_below (suc m) le = elim (found_below m (omega arith)) [
    | inl below ↦ next_entries m (omega arith) below (entries cliques links m) refl (some m (omega arith))
    | inr twice ↦ inr twice
  ]

  pub entries_or_twice : ((found : List ℕ) × AreEntries cliques links found) ⊎ Twice
  entries_or_twice = elim (found_below (clique_count cliques) (omega arith)) as (λ _. ((found : List ℕ) × AreEntries cliques links found) ⊎ Twice) [
    | inl all ↦ inl (all.found, record { each = all.each; one = all.one })
    | inr twice ↦ inr twice
  ]

-- ---- a view, or two entries

pub view_or_twice : (f : ProfileRows) → IsValid f → ((v : View) × HasView f v) ⊎ IsEnteredTwice f
view_or_twice f valid =
    let sound = (valid_sound f valid).links in
    let links = ends f.links in
    let there = cliques_there (edges_of links) (length f.nodes) in
    let cliques = there.0 in
    let are : AreCliques (length f.nodes) (edges_of links) cliques = there.1 in
    let size = are.each in
    let all : AreCliques (length cliques) (edges_of links) cliques = rw size are in
    let some : (k : ℕ) → k < clique_count cliques → 0 < length (entries cliques links k) = is_entered cliques links all (rw size (reached (length f.nodes) f.links sound)) in
    elim (entries_or_twice cliques links some) as (λ _. ((v : View) × HasView f v) ⊎ IsEnteredTwice f) [
      | inl once ↦ (
          let tree : IsTree (length f.nodes) f.links cliques once.0 = record { cliques_are = are; entries_are = once.1 } in
          let view = view_there f sound cliques once.0 tree in
          inl (view.0, has_view f view.0 valid view.1))
      | inr twice ↦ inr (record { clique = twice.k; first = twice.a; second = twice.b; twice = record { cliques = cliques; cliques_are = are; twice = twice.is } })
    ]

-- where there is a view each clique is entered by one link
pub never_both : (f : ProfileRows) (v : View) → IsFileView f v → IsEnteredTwice f → ⊥
never_both f v is entered =
    let no = entered.twice in
    let same : no.cliques ≡ v.cliques = one_numbering (length f.nodes) (edges_of (ends f.links)) no.cliques v.cliques no.cliques_are is.tree.cliques_are in
    let twice : clique.IsEnteredTwice v.cliques (ends f.links) entered.clique entered.first entered.second =
    subst (λ (ks : List ℕ). clique.IsEnteredTwice ks (ends f.links) entered.clique entered.first entered.second) same no.twice in
    let one = is.tree.entries_are.one entered.clique twice.there in
    let two : take 2 (get_or v.entries entered.clique 0 ∷ []) ≡ entered.first ∷ entered.second ∷ [] = rw one at twice.two in
    absurd (let sizes : 1 ≡ 2 = ap length two in omega arith)
