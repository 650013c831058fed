-- The numbers of the page that a query asks for are in the profile, and no call on it is the root link.
use Rattle.std.proofs.Common.{◌≡◌, ℕ, ◌<◌, true, eqb, List, [], ◌∷◌, ◌++◌, length, get_or, map, Option, Some, None, refl, sym, ap, ◌∙◌, inl, inr, subst, arith}
use Rattle.std.specs.Prelude.{All, IsSomeAnd, option_and_then}
use Rattle.std.specs.List.{slice_get, flat_map, position, AllByRecursion}
use Rattle.std.specs.Option.{option_map}
use Rattle.std.specs.Str.{bytes_eq}
use Rattle.std.proofs.lemmas.Bool.{cases_Bool, cases_lt, lt-ltb, le-ltb}
use Rattle.std.proofs.lemmas.List.{length-map}
use Rattle.std.proofs.lemmas.List.Elements.{All-nil, All-cons, All-head, All-tail, All-append, All-map, All-weaker, All-take, All-from_recursion}
use Rattle.std.proofs.lemmas.List.Quantifiers.{position-Some}
use Rattle.std.proofs.lemmas.Option.{slice_get-get_or, slice_get_within}
use Rattle.md_trace.specs.Context.{same_option}
use Rattle.md_static.specs.declared.entry.Proc.{Proc}
use Rattle.md_static.specs.declared.entry.Site.{Site}
use Rattle.md_dynamic.specs.Profile.{ProfileRows}
use Rattle.md_dynamic.specs.Valid.{IsValid, IsRoot}
use Rattle.md_dynamic.specs.declared.link.LinkRow.{LinkRow}
use Rattle.md_clique.specs.Cliques.{clique_count, members_of}
use Rattle.md_clique.specs.Entries.{is_outside}
use Rattle.md_clique.proofs.Naming.{lt_clique_count}
use Rattle.md_cost.specs.FileView.{IsFileView, join_of}
use Rattle.md_cost.specs.Paths.{ends}
use Rattle.md_cost.specs.View.{View, Join, OfClique, OfProcedure, OfModule}
use Rattle.md_cost.proofs.EntrySteps.{entry_there, place_passes}
use Rattle.md_cost.proofs.TreeSteps.{row_at}
use Rattle.md_cost.proofs.ValidSteps.{valid_sound}
use Rattle.md_cost.proofs.ViewSteps.{some_cliques}
use Rattle.md_base.specs.declared.measure.Measure.{Measure}
use Rattle.md_table.specs.Table.{TableCells}
use Rattle.md_people.specs.Callers.{called_table, callers_table}
use Rattle.md_people.specs.Context.{callees_table, stations_table}
use Rattle.md_people.specs.Counts.{whole_of}
use Rattle.md_people.specs.Find.{found_modules_table, found_procs_table}
use Rattle.md_people.specs.Hot.{hot_table}
use Rattle.md_people.specs.Ranked.{ranked}
use Rattle.md_people.specs.Tree.{tree_table}
use Rattle.md_people.specs.Words.{full_name, proc_named}
use Rattle.md_people.proofs.Orders.{all_ranked}
use Rattle.md_query.specs.declared.row.Row.{Row}
use Rattle.md_query.specs.declared.row.Row.TheVariants as row
use Rattle.md_query.specs.declared.row.Title.TheVariants as title
use Rattle.md_query.specs.Asked.{Asked, Menu, Root, Clique, Procs, Top, Proc as ProcAsked, Modules, Module, Hot, Tree, Flame, Find, Context, Callers, CallersNamed, ProcNamed, CliqueNamed}
use Rattle.md_query.specs.Page.{PageRows, IsCall, IsRowWithin, IsWithin}
use Rattle.md_query.specs.PageOf.{own_of, total_of, page_of, page_with, entered_row, clique_page, module_page, excps_rows, menu_rows, link_row_at, link_row, context_row, context_rows, links_from, clique_rows, proc_row, of_row, site_row, contexts_of, sites_of, proc_rows, all_procs, count_in_proc, top_procs, procs_of_module, module_row, module_rows, all_modules, module_named, table_rows, context_page, callers_page, proc_page, clique_at, first_clique}
use Rattle.md_people.proofs.Links.{places_there}
use Rattle.md_query.proofs.ListSteps.{found_there, range_there}
use Rattle.md_query.proofs.ViewLists.{statics_are, nodes_are, links_are}

all_flat : {X Y : Type 0} (P : Y → Type 0) (g : X → List Y) (xs : List X) → All (λ x. All P (g x)) xs → All P (flat_map g xs)
all_flat P g [] all = All-nil P
all_flat P g (x ∷ xs) all = All-append P (g x) (flat_map g xs) (All-head (λ x. All P (g x)) x xs all) (all_flat P g xs (All-tail (λ x. All P (g x)) x xs all))

-- the first link has no caller
root_first : (links : List LinkRow) → IsSomeAnd (slice_get links 0) IsRoot → (x : Join) → slice_get (map join_of links) 0 ≡ Some x → x.caller ≡ None
root_first [] root x at = cc
root_first (r ∷ rs) root x at = let same : join_of r ≡ x = cc in ap (λ (j : Join). j.caller) (sym same) ∙ root.caller

not_called : (o : Option ℕ) (c : ℕ) → o ≡ None → same_option o (Some c) ≡ true → ⊥
not_called None c is passes = cc
not_called (Some a) c is passes = cc

module _ (f : ProfileRows) (valid : IsValid f) (v : View) (is : IsFileView f v) where
  abbrev P : Row → Type 0
  P = IsRowWithin f

  opened : (a b : Row) (rows : List Row) → P a → P b → All P rows → All P (a ∷ b ∷ rows)
  opened a b rows ha hb all = All-cons P a (b ∷ rows) ha (All-cons P b rows hb all)

  proc_there : (q : ℕ) → q < length v.statics.procs → q < length f.statics.procs
  proc_there q lt = rw (statics_are f v is) at lt

  module_there : (k : ℕ) → k < length v.statics.modules → k < length f.statics.modules
  module_there k lt = rw (statics_are f v is) at lt

  -- ---- the menu

  excps_within : (n : ℕ) → AllByRecursion P (excps_rows n)
  excps_within n = elim (cases_Bool (eqb n 0)) [ inl none ↦ rw none tt | inr some ↦ rw some (tt, tt) ]

  menu_within : All P (menu_rows v)
  menu_within = All-from_recursion P (menu_rows v) (valid.sound.some_modules, (tt, (tt, (tt, (tt, (tt, (tt, (tt, (tt, (tt, (tt, excps_within _)))))))))))

  -- ---- a clique

  link_within : (p : ℕ) → IsCall f p → (o : Option Join) → P (link_row_at v p o)
  link_within p call None = call
  link_within p call (Some x) = elim (cases_Bool (is_outside v.cliques (get_or v.cliques x.callee 0) x.caller)) [ inl out ↦ rw out call | inr inside ↦ rw inside call ]

  calls_there : (c : ℕ) → All (IsCall f) (links_from v c)
  calls_there c j d lt =
      let p = get_or (links_from v c) j d in
      let r = place_passes (λ (x : Join). same_option x.caller (Some c)) 0 v.links j p (slice_get-get_or (links_from v c) j d lt) in
      let at : slice_get (map join_of f.links) r.i ≡ Some r.x = ap (λ (xs : List Join). slice_get xs r.i) (sym (links_are f v is)) ∙ r.there in
      let size = length-map f.links join_of in
      let within = slice_get_within (map join_of f.links) r.i r.x at in
      let same = r.is in (
        elim (cases_lt 0 p) [
          | inl above ↦ above
          | inr root ↦ (
              let first : r.i ≡ 0 = omega arith in
              let none = root_first f.links valid.rows.root r.x (rw first at at) in
              absurd (not_called r.x.caller c none r.passes))
        ],
        omega arith,
      )

  context_within : (c : ℕ) → c < length f.nodes → All P (context_rows v c)
  context_within c lt =
      All-cons P (context_row v c) (map (link_row v) (links_from v c)) lt
      (All-map P (link_row v) (links_from v c) (All-weaker (IsCall f) (λ p. P (link_row v p)) (λ p call. link_within p call (slice_get v.links p)) (links_from v c) (calls_there c)))

  clique_within : (k : ℕ) → k < clique_count v.cliques → All P (clique_rows v k)
  clique_within k lt =
      let entry = entry_there v.cliques (ends f.links) v.entries is.tree.entries_are k lt in
      let found = row_at f.links (get_or v.entries k 0) entry.link.0 entry.link.1 entry.there in
      let size = is.tree.cliques_are.each in
      let members = All-weaker (λ (c : ℕ). c < length v.cliques) (λ (c : ℕ). All P (context_rows v c)) (λ c there. context_within c (omega arith)) (members_of v.cliques k) (places_there (λ (n : ℕ). eqb n k) v.cliques) in
      let contexts = all_flat P (context_rows v) (members_of v.cliques k) members in
      opened (entered_row v k) (row.Total (total_of v (OfClique k))) (flat_map (context_rows v) (members_of v.cliques k)) (slice_get_within f.links (get_or v.entries k 0) found.0 found.1) tt contexts

  -- ---- procedures

  procs_within : (ids : List ℕ) → All (λ q. q < length v.statics.procs) ids → All P (map (proc_row v) ids)
  procs_within ids all = All-map P (proc_row v) ids (All-weaker (λ q. q < length v.statics.procs) (λ q. P (proc_row v q)) proc_there ids all)

  contexts_within : (q : ℕ) → All P (map (of_row v) (contexts_of v q))
  contexts_within q = All-map P (of_row v) (contexts_of v q) (All-weaker (λ c. c < length v.nodes) (λ c. P (of_row v c)) (λ c lt. rw (nodes_are f v is) at lt) (contexts_of v q) (places_there (λ (p : ℕ). eqb p q) v.nodes))

  sites_within : (q : ℕ) → All P (map (site_row v) (sites_of v q))
  sites_within q = All-map P (site_row v) (sites_of v q) (All-weaker (λ s. s < length v.statics.sites) (λ s. P (site_row v s)) (λ s lt. rw (statics_are f v is) at lt) (sites_of v q) (places_there (λ (s : Site). eqb s.owner q) v.statics.sites))

  proc_within : (q : ℕ) → All P (proc_rows v q)
  proc_within q =
      opened (row.Own (own_of v (OfProcedure q))) (row.Total (total_of v (OfProcedure q))) (map (of_row v) (contexts_of v q) ++ map (site_row v) (sites_of v q)) tt tt
      (All-append P (map (of_row v) (contexts_of v q)) (map (site_row v) (sites_of v q)) (contexts_within q) (sites_within q))

  top_within : (by : _) (n : ℕ) → All P (map (proc_row v) (top_procs v by n))
  top_within by n = procs_within (top_procs v by n) (All-take (λ q. q < length v.statics.procs) n (ranked (count_in_proc v by) (all_procs v)) (all_ranked (count_in_proc v by) (λ q. q < length v.statics.procs) (all_procs v) (range_there (length v.statics.procs))))

  -- ---- modules

  modules_within : All P (map (module_row v) (all_modules v))
  modules_within = All-map P (module_row v) (all_modules v) (All-weaker (λ k. k < length v.statics.modules) (λ k. P (module_row v k)) module_there (all_modules v) (range_there (length v.statics.modules)))

  module_within : (k : ℕ) → All P (module_rows v k)
  module_within k =
      opened (row.Own (own_of v (OfModule k))) (row.Total (total_of v (OfModule k))) (map (proc_row v) (procs_of_module v k)) tt tt (procs_within (procs_of_module v k) (places_there (λ (p : Proc). eqb p.module k) v.statics.procs))

  -- ---- tables

  tables_within : (by : Measure) (tables : List TableCells) → All P (table_rows v by tables)
  tables_within by tables =
      opened (row.Finished v.finished) (row.Whole by (whole_of v by)) (map (λ (t : TableCells). row.Table t) tables) tt tt (All-map P (λ (t : TableCells). row.Table t) tables (λ i d lt. tt))

  -- ---- the page

  told_within : (told page : PageRows) → Some told ≡ Some page → IsWithin f told → IsWithin f page
  told_within told page e within = let same : told ≡ page = cc in subst (λ (p : PageRows). IsWithin f p) same within

  no_page : (p : PageRows) → None ≡ Some p → ⊥
  no_page p e = cc

  named_within : (o : Option ℕ) (name : List ℕ) (page : PageRows) → module_named v name ≡ o → option_map (module_page v) o ≡ Some page → IsWithin f page
  named_within None name page is_named e = absurd (no_page page e)
  named_within (Some k) name page is_named e =
      let there = position-Some (λ (m : List ℕ). bytes_eq m name) v.statics.modules k [] is_named in
      told_within (module_page v k) page e (record { title = module_there k there.0; rows = module_within k })

  proc_named_within : (o : Option ℕ) (name : List ℕ) (page : PageRows) → proc_named v.statics name ≡ o → option_map (proc_page v) o ≡ Some page → IsWithin f page
  proc_named_within None name page is_named e = absurd (no_page page e)
  proc_named_within (Some q) name page is_named e =
      let there = found_there (λ (q : ℕ). bytes_eq (full_name v.statics q) name) (length v.statics.procs) q is_named in
      told_within (proc_page v q) page e (record { title = proc_there q there; rows = proc_within q })

  callers_within : (by : Measure) (q : ℕ) → q < length v.statics.procs → IsWithin f (callers_page v by q)
  callers_within by q lt = record { title = proc_there q lt; rows = tables_within by (callers_table v by q ∷ called_table v by q ∷ []) }

  callers_named_within : (by : Measure) (o : Option ℕ) (name : List ℕ) (page : PageRows) → proc_named v.statics name ≡ o → option_map (callers_page v by) o ≡ Some page → IsWithin f page
  callers_named_within by None name page is_named e = absurd (no_page page e)
  callers_named_within by (Some q) name page is_named e =
      told_within (callers_page v by q) page e (callers_within by q (found_there (λ (q : ℕ). bytes_eq (full_name v.statics q) name) (length v.statics.procs) q is_named))

  first_clique_within : (o : Option ℕ) (q : ℕ) (page : PageRows) → position (λ (p : ℕ). eqb p q) v.nodes ≡ o → option_map (clique_page v) (option_map (clique_at v) o) ≡ Some page → IsWithin f page
  first_clique_within None q page at e = absurd (no_page page e)
  first_clique_within (Some c) q page at e =
      let there = position-Some (λ (p : ℕ). eqb p q) v.nodes c 0 at in
      let size = is.tree.cliques_are.each in
      let same = nodes_are f v is in
      let lt : c < length v.cliques = (let n = rw same at there.0 in omega arith) in
      told_within (clique_page v (clique_at v c)) page e (record { title = tt; rows = clique_within (clique_at v c) (lt_clique_count v.cliques c lt) })

  clique_named_within : (o : Option ℕ) (page : PageRows) → option_map (clique_page v) (option_and_then (first_clique v) o) ≡ Some page → IsWithin f page
  clique_named_within None page e = absurd (no_page page e)
  clique_named_within (Some q) page e = first_clique_within (position (λ (p : ℕ). eqb p q) v.nodes) q page refl e

  pub within_page : (q : Asked) (page : PageRows) → page_of v q ≡ Some page → IsWithin f page
  unfolding page_of
  within_page Menu page e = told_within _ page e (record { title = tt; rows = menu_within })
  within_page Root page e =
      let some = some_cliques f (valid_sound f valid).links v.cliques v.entries is.tree in
      told_within (clique_page v 0) page e (record { title = tt; rows = clique_within 0 some })
  within_page (Clique k) page e = elim (cases_lt k (clique_count v.cliques)) [
    | inl lt ↦ told_within (clique_page v k) page (rw (lt-ltb k (clique_count v.cliques) lt) at e) (record { title = tt; rows = clique_within k lt })
    | inr le ↦ (let none : None ≡ Some page = rw (le-ltb k (clique_count v.cliques) le) at e in cc)
  ]
  within_page Procs page e = told_within _ page e (record { title = tt; rows = procs_within (all_procs v) (range_there (length v.statics.procs)) })
  within_page (Top by n) page e = told_within _ page e (record { title = tt; rows = top_within by n })
  within_page (ProcAsked q) page e = elim (cases_lt q (length v.statics.procs)) [
    | inl lt ↦ told_within (page_with (title.Proc q) (proc_rows v q)) page (rw (lt-ltb q (length v.statics.procs) lt) at e) (record { title = proc_there q lt; rows = proc_within q })
    | inr le ↦ (let none : None ≡ Some page = rw (le-ltb q (length v.statics.procs) le) at e in cc)
  ]
  within_page Modules page e = told_within _ page e (record { title = tt; rows = modules_within })
  within_page (Module name) page e = named_within (module_named v name) name page refl e
  within_page (Hot by n sort) page e = told_within _ page e (record { title = tt; rows = tables_within by (hot_table v by n sort ∷ []) })
  within_page (Tree by least) page e = told_within _ page e (record { title = tt; rows = tables_within by (tree_table v by least ∷ []) })
  within_page (Flame by least) page e = told_within _ page e (record { title = tt; rows = All-nil P })
  within_page (Find by text) page e = told_within _ page e (record { title = tt; rows = tables_within by (found_procs_table v by text ∷ found_modules_table v by text ∷ []) })
  within_page (Context by c) page e = elim (cases_lt c (length v.nodes)) [
    | inl lt ↦ told_within (context_page v by c) page (rw (lt-ltb c (length v.nodes) lt) at e) (record { title = rw (nodes_are f v is) at lt; rows = tables_within by (stations_table v by c ∷ callees_table v by c ∷ []) })
    | inr le ↦ (let none : None ≡ Some page = rw (le-ltb c (length v.nodes) le) at e in cc)
  ]
  within_page (Callers by q) page e = elim (cases_lt q (length v.statics.procs)) [
    | inl lt ↦ told_within (callers_page v by q) page (rw (lt-ltb q (length v.statics.procs) lt) at e) (callers_within by q lt)
    | inr le ↦ (let none : None ≡ Some page = rw (le-ltb q (length v.statics.procs) le) at e in cc)
  ]
  within_page (CallersNamed by name) page e = callers_named_within by (proc_named v.statics name) name page refl e
  within_page (ProcNamed name) page e = proc_named_within (proc_named v.statics name) name page refl e
  within_page (CliqueNamed name) page e = clique_named_within (proc_named v.statics name) page e
