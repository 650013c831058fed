-- The same of links, and of the contexts that they reach.
use Rattle.std.proofs.Common.{◌≡◌, ◌≢◌, ℕ, zero, suc, ◌+◌, ◌-◌, ◌*◌, ◌<◌, ◌≤◌, ◌^◌, inl, inr, Bool, true, false, cond, not, ◌&&◌, ◌==◌, List, [], ◌∷◌, ◌++◌, length, get_or, Option, None, Some, IsSomeAnd, IfSome, refl, sym, ap, subst, ◌∙◌, arith, option_map}
use Rattle.std.specs.Prelude.{slice_get}
use Rattle.std.specs.List.{All, AllPairs, list_any}
use Rattle.std.proofs.lemmas.List.Elements.{All-push, All-nil}
use Rattle.std.proofs.lemmas.List.Quantifiers.{all_pairs_push}
use Rattle.std.proofs.lemmas.List.Folds.{list_any_at, Any-from_list_any, list_any-from_Any}
use Rattle.std.proofs.lemmas.Bool.{both_ways, not-true, ltb-true, lt-ltb, eqb-true, eq-eqb, and_parts, and_from, or_parts, or_from, not_from_false, cases_lt, false≢true}
use Rattle.std.proofs.lemmas.Option.{slice_get_within, slice_get-get_or, same_Some}
use Rattle.md_static.specs.declared.entry.Proc.{Proc}
use Rattle.md_static.specs.declared.entry.Site.{Site}
use Rattle.md_static.specs.Tables.{Static, callee_of}
use Rattle.md_dynamic.specs.declared.link.LinkRow.{LinkRow}
use Rattle.md_dynamic.specs.Profile.{ProfileRows}
use Rattle.md_dynamic.specs.Valid.{MayCall, Joins, Fits, link_key, leads_down, AllReached}
use Rattle.md_deepfile.specs.Rules.{with_link, may_be, fits, is_number, has_key, has_any_key, orphan_from, orphan_back, link_size}
use Rattle.md_deepfile.proofs.Things.{AllFine, CountsFit, IsFineLink}
use Rattle.md_deepfile.proofs.Whole.{rows}
use Rattle.md_deepfile.proofs.Rows.{grow, shrink, all_at, pair_at, no_pairs, none_passes}

-- what is there, and keeps a fact
record There {X : Type 0} (o : Option X) (P : X → Type 0) : Type 0 where
  pub value : X
  pub is : o ≡ Some value
  pub keeps : P value

there : {X : Type 0} (o : Option X) (P : X → Type 0) → IsSomeAnd o P → There o P
there {X} None P h = absurd h
there {X} (Some x) P h = record { value = x; is = refl; keeps = h }

and_there : {X : Type 0} (o : Option X) (P : X → Type 0) (x : X) → o ≡ Some x → P x → IsSomeAnd o P
and_there {X} o P x is h = subst (λ (p : Option X). IsSomeAnd p P) (sym is) h

number_is : (o : Option ℕ) (n : ℕ) → is_number o n ≡ true → o ≡ Some n
number_is None n h = absurd (false≢true h)
number_is (Some m) n h = ap (λ (k : ℕ). Some k) (sym (eqb-true n m h))

is_that_number : (o : Option ℕ) (n : ℕ) → o ≡ Some n → is_number o n ≡ true
is_that_number None n h = absurd (cc h)
is_that_number (Some m) n h = eq-eqb n m (sym (same_Some m n h))

may_call : (o : Option ℕ) (q : ℕ) → may_be o q ≡ true → IfSome o (λ c. c ≡ q)
may_call None q h = tt
may_call (Some c) q h = eqb-true c q h

called : (o : Option ℕ) (q : ℕ) → IfSome o (λ c. c ≡ q) → may_be o q ≡ true
called None q h = refl
called (Some c) q h = eq-eqb c q h

abbrev Joined : Option ℕ → Option Site → Option ℕ → Type 0
Joined p x q = IsSomeAnd p (λ a. IsSomeAnd x (λ y. IsSomeAnd q (λ b. MayCall y a b)))

fits_joined : (p : Option ℕ) (x : Option Site) (q : Option ℕ) → fits p x q ≡ true → Joined p x q
fits_joined (Some p) (Some x) (Some q) h =
    let both = and_parts (x.owner == p) (may_be (callee_of x.kind) q) h in
    (eqb-true x.owner p both.0, may_call (callee_of x.kind) q both.1)
fits_joined (Some p) (Some x) None h = absurd (false≢true h)
fits_joined (Some p) None q h = absurd (false≢true h)
fits_joined None x q h = absurd (false≢true h)

joined_fits : (p : Option ℕ) (x : Option Site) (q : Option ℕ) → Joined p x q → fits p x q ≡ true
joined_fits (Some p) (Some x) (Some q) h = and_from (x.owner == p) (may_be (callee_of x.kind) q) (eq-eqb x.owner p h.0) (called (callee_of x.kind) q h.1)
joined_fits (Some p) (Some x) None h = absurd h
joined_fits (Some p) None q h = absurd h
joined_fits None x q h = absurd h

record Ends (nodes : List ℕ) (sites : List Site) (v s w : ℕ) : Type 0 where
  pub caller : v < length nodes
  pub site : s < length sites
  pub callee : w < length nodes

joined_ends : (nodes : List ℕ) (sites : List Site) (v s w : ℕ) → Joined (slice_get nodes v) (slice_get sites s) (slice_get nodes w) → Ends nodes sites v s w
joined_ends nodes sites v s w h =
    let p = there (slice_get nodes v) (λ a. IsSomeAnd (slice_get sites s) (λ y. IsSomeAnd (slice_get nodes w) (λ b. MayCall y a b))) h in
    let x = there (slice_get sites s) (λ y. IsSomeAnd (slice_get nodes w) (λ b. MayCall y p.value b)) p.keeps in
    let q = there (slice_get nodes w) (λ b. MayCall x.value p.value b) x.keeps in
    record { caller = slice_get_within nodes v p.value p.is; site = slice_get_within sites s x.value x.is; callee = slice_get_within nodes w q.value q.is }

-- links behind the root link
pub record AreLinks (k : ℕ) (statics : Static) (nodes : List ℕ) (ls : List LinkRow) : Type 0 where
  pub fit : All (Fits statics nodes) ls
  pub differ : AllPairs (λ a b. link_key nodes a ≢ link_key nodes b) ls
  pub counts : All (λ l. CountsFit k l.own) ls

-- a link with this key
has_this_key : (nodes : List ℕ) (z : LinkRow) (v s q : ℕ) → z.caller ≡ Some v → z.site ≡ Some s → slice_get nodes z.callee ≡ Some q → has_key nodes v s q z ≡ true
has_this_key nodes z v s q caller site proc =
    and_from (is_number z.caller v && is_number z.site s) (is_number (slice_get nodes z.callee) q)
    (and_from (is_number z.caller v) (is_number z.site s) (is_that_number z.caller v caller) (is_that_number z.site s site)) (is_that_number (slice_get nodes z.callee) q proc)

key_apart : (nodes : List ℕ) (links : List LinkRow) (z x : LinkRow) (v s q : ℕ) → x.caller ≡ Some v → x.site ≡ Some s → slice_get nodes x.callee ≡ Some q → (has_key nodes v s q z ≡ true → ⊥) → link_key nodes z ≢ link_key nodes x
key_apart nodes links z x v s q caller site proc never same =
    never (has_this_key nodes z v s q
    (ap (λ (t : Option ℕ × Option ℕ × Option ℕ). t.0) same ∙ caller)
    (ap (λ (t : Option ℕ × Option ℕ × Option ℕ). t.1) same ∙ site)
    (ap (λ (t : Option ℕ × Option ℕ × Option ℕ). t.2) same ∙ proc))

-- no link has this key, where the test says so
fresh_at : (nodes : List ℕ) (links : List LinkRow) (v s q : ℕ) (o : Option ℕ) → o ≡ Some q → not (has_any_key nodes links v s o) ≡ true → list_any (has_key nodes v s q) links ≡ false
fresh_at nodes links v s q o is test = not-true _ (subst (λ (p : Option ℕ). not (has_any_key nodes links v s p) ≡ true) is test)

fresh_from : (nodes : List ℕ) (links : List LinkRow) (v s q : ℕ) (o : Option ℕ) → o ≡ Some q → list_any (has_key nodes v s q) links ≡ false → not (has_any_key nodes links v s o) ≡ true
fresh_from nodes links v s q o is none = subst (λ (p : Option ℕ). not (has_any_key nodes links v s p) ≡ true) (sym is) (not_from_false _ none)

module _ (k : ℕ) (m : List (List ℕ)) (p : List Proc) (x : List Site) (v : List ℕ) (root : LinkRow) (finished : Bool) where
  abbrev at : List LinkRow → ProfileRows
  at zs = rows m p x v (root ∷ zs) finished

  abbrev statics : Static
  statics = record { modules = m; procs = p; sites = x }

  link_step : (zs : List LinkRow) (l : LinkRow) → AreLinks k statics v zs → IsFineLink k (at zs) l → AreLinks k statics v (zs ++ l ∷ [])
  link_step zs l valid fine =
      let q = get_or v l.callee 0 in
      let proc : slice_get v l.callee ≡ Some q = slice_get-get_or v l.callee 0 (ltb-true l.callee (length v) fine.callee_there) in
      let fresh = fresh_at v (root ∷ zs) fine.v fine.s q (slice_get v l.callee) proc fine.is_new in
      let none = (or_parts (has_key v fine.v fine.s q root) (list_any (has_key v fine.v fine.s q) zs) fresh).1 in
      record {
        fit = All-push (Fits statics v) zs l valid.fit
            (and_there l.caller (λ a. IsSomeAnd l.site (λ s. Joins statics v a s l.callee)) fine.v fine.caller
            (and_there l.site (λ s. Joins statics v fine.v s l.callee) fine.s fine.site (fits_joined (slice_get v fine.v) (slice_get x fine.s) (slice_get v l.callee) fine.joins)));
        differ = all_pairs_push (λ a b. link_key v a ≢ link_key v b) zs l valid.differ
            (λ i d below. key_apart v zs (get_or zs i d) l fine.v fine.s q fine.caller fine.site proc
            (λ has. both_ways (list_any (has_key v fine.v fine.s q) zs) none (list_any_at (has_key v fine.v fine.s q) zs i d below has)));
        counts = All-push (λ (z : LinkRow). CountsFit k z.own) zs l valid.counts fine.counts;
      }

  -- the keys of a link whose test holds are the same
  same_key : (z l : LinkRow) (a s q : ℕ) → l.caller ≡ Some a → l.site ≡ Some s → slice_get v l.callee ≡ Some q → has_key v a s q z ≡ true → link_key v z ≡ link_key v l
  same_key z l a s q caller site proc has =
      let one = and_parts (is_number z.caller a && is_number z.site s) (is_number (slice_get v z.callee) q) has in
      let two = and_parts (is_number z.caller a) (is_number z.site s) one.0 in
      let first = number_is z.caller a two.0 ∙ sym caller in
      let second = number_is z.site s two.1 ∙ sym site in
      let third = number_is (slice_get v z.callee) q one.1 ∙ sym proc in
      λ i. (first i, second i, third i)

  -- the root link has no such key
  root_apart : (a s q : ℕ) → root.caller ≡ None → has_key v a s q root ≡ false
  root_apart a s q none = ap (λ (o : Option ℕ). (is_number o a && is_number root.site s) && is_number (slice_get v root.callee) q) none

  link_part : length v < 2 ^ 32 → length x < 2 ^ 32 → root.caller ≡ None → (zs ys : List LinkRow) (l : LinkRow) → AreLinks k statics v (zs ++ l ∷ ys) → IsFineLink k (at zs) l
  link_part few_nodes few_sites no_caller zs ys l valid =
      let fit = all_at (Fits statics v) zs ys l valid.fit in
      let a = there l.caller (λ b. IsSomeAnd l.site (λ s. Joins statics v b s l.callee)) fit in
      let s = there l.site (λ t. Joins statics v a.value t l.callee) a.keeps in
      let ends = joined_ends v x a.value s.value l.callee s.keeps in
      let callee : l.callee < length v = ends.callee in
      let caller : a.value < length v = ends.caller in
      let site : s.value < length x = ends.site in
      let q = get_or v l.callee 0 in
      let proc : slice_get v l.callee ≡ Some q = slice_get-get_or v l.callee 0 callee in
      let none = none_passes (has_key v a.value s.value q) zs
      (λ i d below has. pair_at (λ b c. link_key v b ≢ link_key v c) zs ys l valid.differ i d below (same_key (get_or zs i d) l a.value s.value q a.is s.is proc has)) in
      let fresh = or_from (has_key v a.value s.value q root) (list_any (has_key v a.value s.value q) zs) (root_apart a.value s.value q no_caller) none in
      record {
        v = a.value;
        s = s.value;
        caller = a.is;
        site = s.is;
        caller_fits = omega (arith, caller, few_nodes);
        caller_there = lt-ltb a.value (length v) caller;
        site_fits = omega (arith, site, few_sites);
        site_there = lt-ltb s.value (length x) site;
        callee_fits = omega (arith, callee, few_nodes);
        callee_there = lt-ltb l.callee (length v) callee;
        counts = all_at (λ (z : LinkRow). CountsFit k z.own) zs ys l valid.counts;
        joins = joined_fits (slice_get v a.value) (slice_get x s.value) (slice_get v l.callee) s.keeps;
        is_new = fresh_from v (root ∷ zs) a.value s.value q (slice_get v l.callee) proc fresh;
      }

  pub links_valid : (ls : List LinkRow) → AllFine with_link (IsFineLink k) (rows m p x v (root ∷ []) finished) ls → AreLinks k (record { modules = m; procs = p; sites = x }) v ls
  links_valid ls fine =
      grow with_link (IsFineLink k) at (λ zs l. refl) (AreLinks k statics v) link_step [] ls
      (record { fit = All-nil (Fits statics v); differ = no_pairs (λ a b. link_key v a ≢ link_key v b); counts = All-nil (λ (z : LinkRow). CountsFit k z.own) }) fine

  pub links_fine : (ls : List LinkRow) → length v < 2 ^ 32 → length x < 2 ^ 32 → root.caller ≡ None → AreLinks k (record { modules = m; procs = p; sites = x }) v ls → AllFine with_link (IsFineLink k) (rows m p x v (root ∷ []) finished) ls
  links_fine ls few_nodes few_sites no_caller valid =
      shrink with_link (IsFineLink k) at (λ zs l. refl) (AreLinks k statics v) (link_part few_nodes few_sites no_caller) [] ls valid

-- no orphan is among so many contexts exactly where each is reached
reached_or : (links : List LinkRow) (v n : ℕ) (b : Bool) → cond b (orphan_from links (suc v) n) (Some v) ≡ None → (b ≡ true) × (orphan_from links (suc v) n ≡ None)
reached_or links v n true h = (refl, h)
reached_or links v n false h = absurd (cc h)

none_orphan : (links : List LinkRow) (v n : ℕ) → orphan_from links v n ≡ None → (u : ℕ) → v ≤ u → u < v + n → list_any (leads_down u) links ≡ true
none_orphan links v zero h u le lt = absurd (omega (arith, le, lt))
none_orphan links v (suc n) h u le lt =
    let told = reached_or links v n (list_any (leads_down v) links) h in
    elim (cases_lt v u) [
      | inl above ↦ none_orphan links (suc v) n told.1 u (omega arith) (omega (arith, lt))
      | inr same ↦ let e : v ≡ u = omega (arith, le, same) in subst (λ (w : ℕ). list_any (leads_down w) links ≡ true) e told.0
    ]

orphan_none : (links : List LinkRow) (v n : ℕ) → ((u : ℕ) → v ≤ u → u < v + n → list_any (leads_down u) links ≡ true) → orphan_from links v n ≡ None
orphan_none links v zero all = refl
orphan_none links v (suc n) all =
    ap (λ (b : Bool). cond b (orphan_from links (suc v) n) (Some v)) (all v (omega arith) (omega arith))
    ∙ orphan_none links (suc v) n (λ u le lt. all u (omega (arith, le)) (omega (arith, lt)))

none_back : (o : Option ℕ) (h : ℕ → ℕ) → option_map h o ≡ None → o ≡ None
none_back None h e = refl
none_back (Some v) h e = absurd (cc e)

pub all_reached : (k : ℕ) (f : ProfileRows) → orphan_back k f ≡ None → AllReached (length f.nodes) f.links
all_reached k f none v above below =
    Any-from_list_any (leads_down v) f.links
    (none_orphan f.links 1 (length f.nodes - 1) (none_back (orphan_from f.links 1 (length f.nodes - 1)) _ none) v above (omega (arith, below, above)))

pub reached_all : (k : ℕ) (f : ProfileRows) → AllReached (length f.nodes) f.links → orphan_back k f ≡ None
reached_all k f all =
    ap (option_map (λ (v : ℕ). 4 * (length f.nodes - v) + (4 + link_size k * length f.links)))
    (orphan_none f.links 1 (length f.nodes - 1) (λ u le lt. list_any-from_Any (leads_down u) f.links (all u le (omega (arith, lt, le)))))
