-- The lists of a profile's links by where they start are those of its graph.
use Rattle.std.proofs.Common.{◌≡◌, ℕ, zero, suc, ◌+◌, ◌<◌, List, [], ◌∷◌, length, get_or, Option, Some, None, refl, sym, ap, ◌∙◌, arith}
use Rattle.std.specs.List.{slice_get}
use Rattle.std.specs.Prelude.{unwrap_or}
use Rattle.std.proofs.lemmas.List.{get_or-map}
use Rattle.std.proofs.lemmas.Option.{slice_get-get_or, slice_get_within, get_or_from_slice_get}
use Rattle.md_dynamic.specs.declared.link.LinkRow.{LinkRow}
use Rattle.md_clique.specs.declared.members.Layout.{Layout}
use Rattle.md_clique.specs.Entries.{edges_of}
use Rattle.md_clique.specs.Links.{AreListed, AreWithin, end_of, start_of}
use Rattle.md_clique.proofs.Entered.{edge_is_link}
use Rattle.md_clique.proofs.Listed.{AreLinks, listed}
use Rattle.md_clique.proofs.ListedLinks.{within_all}
use Rattle.md_cost.specs.Lists.{AreByStart, end_at, end_of_row, starts_of}
use Rattle.md_cost.specs.Paths.{ends}
use Rattle.md_cost.specs.Sound.{AreSound}
use Rattle.md_cost.proofs.ListSteps.{length-starts_of}
use Rattle.md_cost.proofs.TreeSteps.{edge_there, edges_all, ends_at, row_at}

-- the edges of the links start at the contexts where the links do, and end where they do
edge_starts : (es : List (ℕ × ℕ)) (t a b : ℕ) → slice_get es t ≡ Some (a, b) → (t < length es) × (start_of es t ≡ a) × (end_of es t ≡ b)
edge_starts es t a b at =
    let is : get_or es t (0, 0) ≡ (a, b) = get_or_from_slice_get es t (a, b) (0, 0) at in
    (slice_get_within es t (a, b) at, ap (λ (e : ℕ × ℕ). e.0) is, ap (λ (e : ℕ × ℕ). e.1) is)

row_edge : (n : ℕ) (links : List LinkRow) (r : ℕ) (row : LinkRow) (o : Option ℕ) → slice_get links r ≡ Some row → row.caller ≡ o → unwrap_or o n < n
    → (t : ℕ) × (t < length (edges_of (ends links))) × (start_of (edges_of (ends links)) t ≡ unwrap_or o n) × (end_of (edges_of (ends links)) t ≡ row.callee)
row_edge n links r row None at is low = absurd (omega arith)
row_edge n links r row (Some a) at is low =
    let t = edge_there (ends links) r a row.callee (ends_at links r row at ∙ ap (λ (o : Option ℕ). Some (o, row.callee)) is) in
    let e = edge_starts (edges_of (ends links)) t.0 a row.callee t.1 in
    (t.0, e.0, e.1, e.2)

row_of : (links : List LinkRow) (r : ℕ) → r < length links → (row : LinkRow) × (slice_get links r ≡ Some row)
row_of [] r lt = absurd (omega arith)
row_of (x ∷ xs) zero lt = (x, refl)
row_of (x ∷ xs) (suc r) lt = row_of xs r (omega arith)

module _ (n : ℕ) (links : List LinkRow) (sound : AreSound n links) where
  start_is : (r : ℕ) (row : LinkRow) → slice_get links r ≡ Some row → get_or (starts_of n links) r 0 ≡ unwrap_or row.caller n
  start_is r row at =
      let lt = slice_get_within links r row at in
      get_or-map (λ (x : LinkRow). unwrap_or x.caller n) links r row 0 lt ∙ ap (λ (x : LinkRow). unwrap_or x.caller n) (get_or_from_slice_get links r row row at)

  end_is : (r : ℕ) (row : LinkRow) → slice_get links r ≡ Some row → end_at links r ≡ row.callee
  end_is r row at = ap end_of_row at

  links_are : AreLinks (edges_of (ends links)) n (starts_of n links) (λ r. end_at links r)
  links_are = record {
    theirs = λ r lt low.
        let size = length-starts_of n links in
        let row = row_of links r (omega arith) in
        let start = start_is r row.0 row.1 in
        let t = row_edge n links r row.0 row.0.caller row.1 refl (omega arith) in
        (t.0, t.1, t.2 ∙ sym start, t.3 ∙ sym (end_is r row.0 row.1));
    all = λ t lt.
        let edge = get_or (edges_of (ends links)) t (0, 0) in
        let at = slice_get-get_or (edges_of (ends links)) t (0, 0) lt in
        let l = edge_is_link (ends links) t (start_of (edges_of (ends links)) t) (end_of (edges_of (ends links)) t) at in
        let row = row_at links l.0 (Some (start_of (edges_of (ends links)) t)) (end_of (edges_of (ends links)) t) l.1 in
        let size = length-starts_of n links in
        let there = slice_get_within links l.0 row.0 row.1 in
        (l.0, omega arith, start_is l.0 row.0 row.1 ∙ ap (λ (o : Option ℕ). unwrap_or o n) row.2, end_is l.0 row.0 row.1 ∙ row.3);
  }

  pub edges_within : AreWithin (edges_of (ends links)) n
  edges_within = within_all (edges_of (ends links)) n (edges_all n links sound)

  pub edges_listed : (layout : Layout) → AreByStart n links layout → (found : List ℕ) → length found ≡ length layout.order.items
      → ((p : ℕ) → p < length layout.order.items → get_or found p 0 ≡ end_at links (get_or layout.order.items p 0)) → AreListed (edges_of (ends links)) n layout.starts.items found
  edges_listed layout are found each found_are =
      let size = are.each in
      listed (starts_of n links) layout.order.items layout.starts.items (n + 1) n are.laid are.each (omega arith) (edges_of (ends links)) (λ r. end_at links r) links_are edges_within found each found_are (omega arith)
