-- What a reader makes of a line of each kind: one that keeps its rule is taken, and any other is at fault.
use Rattle.std.proofs.Common.{◌≡◌, ◌≢◌, ℕ, suc, ◌-◌, ◌<◌, ◌≤◌, ◌^◌, ◌⊎◌, inl, inr, Bool, true, false, not, ◌&&◌, ◌==◌, nat_lt, nat_le, List, [], ◌∷◌, ◌++◌, get_or, length, drop, map, All, Option, None, Some, IfSome, IsSomeAnd, refl, sym, ap, subst, ◌∙◌, arith}
use Rattle.std.specs.Prelude.{slice_get}
use Rattle.std.specs.Fmt.{decimal}
use Rattle.std.specs.List.{list_any}
use Rattle.std.proofs.lemmas.Bool.{and_parts, and_from, ltb-true, lt-ltb, leb-true, le-leb, eqb-true, eq-eqb, false≢true, not-true, not_from_false, both_ways, false_from_ne_true, or_from, or_parts}
use Rattle.std.proofs.lemmas.List.Folds.{list_any_at, list_any_none}
use Rattle.std.proofs.lemmas.Option.{slice_get_within, same_Some}
use Rattle.md_base.specs.declared.measure.Counts.{Counts}
use Rattle.md_static.specs.declared.entry.Proc.{Proc}
use Rattle.md_static.specs.declared.entry.Site.{Site}
use Rattle.md_static.specs.declared.entry.SiteKind.{SiteKind}
use Rattle.md_static.specs.declared.entry.SiteKind.TheVariants.{Plain, HigherOrder}
use Rattle.md_static.specs.Tables.{Static, callee_of}
use Rattle.md_dynamic.specs.declared.link.LinkRow.{LinkRow}
use Rattle.md_dynamic.specs.Profile.{ProfileRows}
use Rattle.md_dynamic.specs.Valid.{IsRoot, MayCall, Joins, link_key}
use Rattle.md_deepfile.specs.Bytes.{numbers_of}
use Rattle.md_deepfile.specs.Rules.{with_proc, with_site, with_link, is_new_module, is_new_proc, is_owner, last_owner, owner_or_zero, fits, may_be, fits_site, is_new_link, is_number, has_key, has_any_key}
use Rattle.md_deepfile.specs.Spells.{AreSmall}
use Rattle.md_deepfile.proofs.Whole.{rows}
use Rattle.md_dump.specs.Due.{Due, fault, must, given}
use Rattle.md_dump.specs.Forms.{words_of, count_form, proc_form, site_form, context_form, root_form, link_form}
use Rattle.md_dump.specs.Lines.{Next, module_due, is_fine_proc, proc_due, is_there, is_fine_site, kind_called, site_due, site_row, context_due, root_row, root_due, link_row, is_fine_link, other_due, name_of, least_of, count_due, several, all_sections}
use Rattle.md_dump.specs.Text.{dash, or_dash, count_words, proc_words, site_words, context_words, link_words}
use Rattle.md_dump.proofs.Clean.{row, AreClean, words_again, row_again, name_clean, number_clean, maybe_clean, counts_clean}
use Rattle.md_dump.proofs.Decimal.{IsClean}
use Rattle.md_dump.proofs.Formed.{below_word, word_below}
use Rattle.md_dump.proofs.Shapes.{count_told, count_again, proc_told, proc_again, site_line_words, site_told, site_again, context_told, context_again, root_words, root_told, root_again, link_line_words, link_told, link_again}
use Rattle.md_dump.proofs.Members.{callee_comes_back, kind_comes_back}
use Rattle.md_dump.proofs.LinkMembers.{root_clean}
use Rattle.law_damage.specs.Fields.{ModuleName, ProcName, last}
use Rattle.law_damage.proofs.Tests.{fine_keeps, keeps_fine}
use Rattle.law_faults.specs.Lines.{Line, Count, Module, Procedure, CallSite, Context, Root, Link, words, Keeps}

-- what the crate of the reader calls a section, and the lines of a call site and of a link
abbrev pub MemberOf : {X : Type 0} → List X → Type 0
MemberOf {X} xs = X

abbrev GivenBy : {A B : Type 0} → (A → Option B) → Type 0
GivenBy {A} {B} form = B

abbrev pub Section : Type 0
Section = MemberOf all_sections

abbrev IsThere : {X : Type 0} → List X → Type 0
IsThere {X} [] = ⊥
IsThere {X} (x ∷ xs) = Unit {0}

abbrev first : {X : Type 0} → (xs : List X) → IsThere xs → X
first {X} [] there = absurd there
first {X} (x ∷ xs) there = x

abbrev pub of_modules : Section
of_modules = first all_sections tt

abbrev pub of_procs : Section
of_procs = first (drop 1 all_sections) tt

abbrev pub of_sites : Section
of_sites = first (drop 2 all_sections) tt

abbrev pub of_contexts : Section
of_contexts = first (drop 3 all_sections) tt

abbrev pub of_links : Section
of_links = first (drop 4 all_sections) tt

abbrev SiteLine : Type 0
SiteLine = GivenBy site_form

abbrev LinkLine : Type 0
LinkLine = GivenBy link_form

-- the line of each row that fits and keeps its rule is taken, and what is taken is such a line
pub record Takes {X : Type 0} (told : List ℕ → Due) (make : X → Line) (Small : X → Type 0) (next : X → Due) : Type 0 where
  pub again : (x : X) → Small x → Keeps (make x) → told (row (words (make x))) ≡ next x
  pub tells : (l : List ℕ) → (told l ≡ fault) ⊎ ((x : X) × Small x × Keeps (make x) × (l ≡ row (words (make x))))
  pub clean : (x : X) → Small x → Keeps (make x) → AreClean (words (make x))

abbrev pub Any : {X : Type 0} → X → Type 0
Any {X} x = Unit {0}

-- a form and a rule behind it
ruled : {X : Type 0} (form : Option X) (x : X) (test : X → Bool) (next : X → Due) → form ≡ Some x → test x ≡ true → given form (λ y. must (test y) (next y)) ≡ next x
ruled {X} form x test next is holds = ap (λ (o : Option X). given o (λ y. must (test y) (next y))) is ∙ ap (λ (b : Bool). must b (next x)) holds

by_form : {X Y : Type 0} (form : Option X) (test : X → Bool) (next : X → Due) → ((x : X) → form ≡ Some x → test x ≡ true → Y) → (given form (λ y. must (test y) (next y)) ≡ fault) ⊎ Y
by_form {X} {Y} None test next good = inl refl
by_form {X} {Y} (Some x) test next good = by (test x) refl
  where
    by : (b : Bool) → test x ≡ b → (must (test x) (next x) ≡ fault) ⊎ Y
    by true is = inr (good x refl is)
    by false is = inl (ap (λ (c : Bool). must c (next x)) is)

by_form_alone : {X Y : Type 0} (form : Option X) (next : X → Due) → ((x : X) → form ≡ Some x → Y) → (given form next ≡ fault) ⊎ Y
by_form_alone {X} {Y} None next good = inl refl
by_form_alone {X} {Y} (Some x) next good = inr (good x refl)

-- how many there are
count_clean : (section : Section) (n : ℕ) → IsClean (name_of section) → n ≤ 4294967295 → AreClean (count_words (name_of section) n)
count_clean section n clean below = (clean, (number_clean n below, tt))

pub count_takes : (section : Section) → IsClean (name_of section) → (f : ProfileRows) (next : Next) → Takes (count_due section f next) (λ n. Count (name_of section) (least_of section) n) (λ n. n < 2 ^ 32) (λ n. several section n f next)
count_takes section named f next = record {
  again = λ n small least.
      (let below = word_below n small in
      let form = ap (count_form (name_of section)) (words_again (name_of section) (decimal n ∷ []) (count_clean section n named below)) ∙ count_again (name_of section) n below in
      ruled (count_form (name_of section) (words_of (row (count_words (name_of section) n)))) n (λ k. nat_le (least_of section) k) (λ k. several section k f next) form (le-leb (least_of section) n least));
  tells = λ l. by_form (count_form (name_of section) (words_of l)) (λ k. nat_le (least_of section) k) (λ k. several section k f next) (λ n is holds.
      let told = count_told (name_of section) (words_of l) n is in
      (n, below_word n told.1, leb-true (least_of section) n holds, row_again l (count_words (name_of section) n) told.0));
  clean = λ n small least. count_clean section n named (word_below n small);
}

-- modules
pub module_takes : (finished : Bool) (before : List (List ℕ)) (more : Next) → Takes (module_due (rows before [] [] [] [] finished) more) (Module before) Any (λ name. more (rows (before ++ name ∷ []) [] [] [] [] finished))
module_takes finished before more = record {
  again = λ name small keeps. ap (λ (b : Bool). must b (more (rows (before ++ name ∷ []) [] [] [] [] finished))) (keeps_fine (ModuleName before name) keeps);
  tells = λ l. by l (is_new_module (rows before [] [] [] [] finished) l) refl;
  clean = λ name small keeps. (name_clean name keeps.0, tt);
}
  where
    by : (l : List ℕ) (b : Bool) → is_new_module (rows before [] [] [] [] finished) l ≡ b → (module_due (rows before [] [] [] [] finished) more l ≡ fault) ⊎ ((x : List ℕ) × Any x × Keeps (Module before x) × (l ≡ row (words (Module before x))))
    by l true is = inr (l, tt, fine_keeps (ModuleName before l) is, refl)
    by l false is = inl (ap (λ (b : Bool). must b (more (rows (before ++ l ∷ []) [] [] [] [] finished))) is)

-- procedures
proc_clean : (modules : ℕ) (before : List Proc) (p : Proc) → modules < 2 ^ 32 → Keeps (Procedure modules before p) → AreClean (proc_words p)
proc_clean modules before p few keeps =
    let home : p.module < modules = keeps.0 in
    let arity : p.arity < 256 = keeps.3 in
    (number_clean p.module (omega (arith, home, few)), (name_clean p.name keeps.1, (number_clean p.arity (omega (arith, arity)), tt)))

pub proc_takes : (m : List (List ℕ)) (finished : Bool) → length m < 2 ^ 32 → (before : List Proc) (more : Next)
    → Takes (proc_due (rows m before [] [] [] finished) more) (Procedure (length m) before) Any (λ p. more (rows m (before ++ p ∷ []) [] [] [] finished))
proc_takes m finished few before more = record {
  again = λ p small keeps.
      (let f = rows m before [] [] [] finished in
      let home : p.module < length m = keeps.0 in
      let arity : p.arity < 256 = keeps.3 in
      let form = ap proc_form (words_again (decimal p.module) (p.name ∷ decimal p.arity ∷ []) (proc_clean (length m) before p few keeps)) ∙ proc_again p (omega (arith, home, few)) (omega (arith, arity)) in
      ruled (proc_form (words_of (row (proc_words p)))) p (λ q. is_fine_proc f q) (λ q. more (with_proc f q)) form
      (and_from (nat_lt p.module (length m)) (is_new_proc f p.module p.name) (lt-ltb p.module (length m) home) (keeps_fine (ProcName before p.module p.name) (keeps.1, keeps.2))));
  tells = λ l. by_form (proc_form (words_of l)) (λ q. is_fine_proc (rows m before [] [] [] finished) q) (λ q. more (with_proc (rows m before [] [] [] finished) q)) (λ p is holds.
      let told = proc_told (words_of l) p is in
      let arity : p.arity ≤ 255 = told.arity_fits in
      let both = and_parts (nat_lt p.module (length m)) (is_new_proc (rows m before [] [] [] finished) p.module p.name) holds in
      let named = fine_keeps (ProcName before p.module p.name) both.1 in
      (p, tt, (ltb-true p.module (length m) both.0, named.0, named.1, omega (arith, arity)), row_again l (proc_words p) told.are));
  clean = λ p small keeps. proc_clean (length m) before p few keeps;
}

-- call sites
last_site : (xs : List Site) → last_owner xs ≡ owner_or_zero (last xs)
last_site [] = refl
last_site (x ∷ xs) = let less : suc (length xs) - 1 ≡ length xs = omega arith in ap (λ (k : ℕ). owner_or_zero (slice_get (x ∷ xs) k)) less ∙ at_last x xs
  where
    at_last : (x : Site) (xs : List Site) → owner_or_zero (slice_get (x ∷ xs) (length xs)) ≡ owner_or_zero (last (x ∷ xs))
    at_last x [] = refl
    at_last x (y ∷ ys) = at_last y ys

owner_from : (o : Option Site) (p : ℕ) → owner_or_zero o ≤ p → IfSome o (λ other. other.owner ≤ p)
owner_from None p h = tt
owner_from (Some x) p h = h

owner_below : (o : Option Site) (p : ℕ) → IfSome o (λ other. other.owner ≤ p) → owner_or_zero o ≤ p
owner_below None p h = omega arith
owner_below (Some x) p h = h

there_from : (n : ℕ) (o : Option ℕ) → is_there n o ≡ true → IfSome o (λ q. q < n)
there_from n None h = tt
there_from n (Some q) h = ltb-true q n h

is_there_from : (n : ℕ) (o : Option ℕ) → IfSome o (λ q. q < n) → is_there n o ≡ true
is_there_from n None h = refl
is_there_from n (Some q) h = lt-ltb q n h

small_from : (n : ℕ) (o : Option ℕ) → n < 2 ^ 32 → IfSome o (λ q. q < n) → IfSome o (λ q. q ≤ 4294967295)
small_from n None few h = tt
small_from n (Some q) few h = omega (arith, few, h)

abbrev line_of : Site → SiteLine
line_of x = record { owner = x.owner; line = x.line; callee = callee_of x.kind }

site_clean : (procs : ℕ) (before : List Site) (x : Site) → procs < 2 ^ 32 → Keeps (CallSite procs before x) → AreClean (site_words x)
site_clean procs before x few keeps =
    let owner : x.owner < procs = keeps.0 in
    let at : x.line < 2 ^ 32 = keeps.3 in
    (number_clean x.owner (omega (arith, owner, few)), (number_clean x.line (word_below x.line at), (maybe_clean (callee_of x.kind) (small_from procs (callee_of x.kind) few keeps.4), tt)))

pub site_takes : (m : List (List ℕ)) (p : List Proc) (finished : Bool) → length p < 2 ^ 32 → (before : List Site) (more : Next)
    → Takes (site_due (rows m p before [] [] finished) more) (CallSite (length p) before) Any (λ x. more (rows m p (before ++ x ∷ []) [] [] finished))
site_takes m p finished few before more = record {
  again = λ x small keeps.
      (let f = rows m p before [] [] finished in
      let owner : x.owner < length p = keeps.0 in
      let at : x.line < 2 ^ 32 = keeps.3 in
      let form = ap site_form (words_again (decimal x.owner) (decimal x.line ∷ or_dash (callee_of x.kind) ∷ []) (site_clean (length p) before x few keeps))
      ∙ site_again (line_of x) (omega (arith, owner, few)) (word_below x.line at) (small_from (length p) (callee_of x.kind) few keeps.4) in
      let rises : last_owner before ≤ x.owner = subst (λ (k : ℕ). k ≤ x.owner) (sym (last_site before)) (owner_below (last before) x.owner keeps.1) in
      let owned = and_from (nat_lt x.owner (length p)) (nat_le (last_owner before) x.owner) (lt-ltb x.owner (length p) owner) (le-leb (last_owner before) x.owner rises) in
      let test = and_from (is_owner f x.owner && nat_le 1 x.line) (is_there (length p) (callee_of x.kind)) (and_from (is_owner f x.owner) (nat_le 1 x.line) owned (le-leb 1 x.line keeps.2)) (is_there_from (length p) (callee_of x.kind) keeps.4) in
      ruled (site_form (words_of (row (site_words x)))) (line_of x) (λ y. is_fine_site f y) (λ y. more (with_site f (site_row y))) form test
      ∙ ap (λ (k : SiteKind). more (rows m p (before ++ record { owner = x.owner; line = x.line; kind = k } ∷ []) [] [] finished)) (kind_comes_back x.kind));
  tells = λ l. by_form (site_form (words_of l)) (λ y. is_fine_site (rows m p before [] [] finished) y) (λ y. more (with_site (rows m p before [] [] finished) (site_row y))) (λ y is holds.
      let f = rows m p before [] [] finished in
      let told = site_told (words_of l) y is in
      let both = and_parts (is_owner f y.owner && nat_le 1 y.line) (is_there (length p) y.callee) holds in
      let front = and_parts (is_owner f y.owner) (nat_le 1 y.line) both.0 in
      let owned = and_parts (nat_lt y.owner (length p)) (nat_le (last_owner before) y.owner) front.0 in
      let rises : owner_or_zero (last before) ≤ y.owner = subst (λ (k : ℕ). k ≤ y.owner) (last_site before) (leb-true (last_owner before) y.owner owned.1) in
      let callee : IfSome (callee_of (kind_called y.callee)) (λ q. q < length p) = subst (λ (o : Option ℕ). IfSome o (λ q. q < length p)) (sym (callee_comes_back y.callee)) (there_from (length p) y.callee both.1) in (
        site_row y,
        tt,
        (ltb-true y.owner (length p) owned.0, owner_from (last before) y.owner rises, leb-true 1 y.line front.1, below_word y.line told.line, callee),
        row_again l (site_line_words y) told.are ∙ ap (λ (o : Option ℕ). row (decimal y.owner ∷ decimal y.line ∷ or_dash o ∷ [])) (sym (callee_comes_back y.callee)),
      ));
  clean = λ x small keeps. site_clean (length p) before x few keeps;
}

-- contexts
pub context_takes : (m : List (List ℕ)) (p : List Proc) (x : List Site) (finished : Bool) → length p < 2 ^ 32 → (before : List ℕ) (more : Next)
    → Takes (context_due (rows m p x before [] finished) more) (Context (length p)) Any (λ v. more (rows m p x (before ++ v ∷ []) [] finished))
context_takes m p x finished few before more = record {
  again = λ v small keeps.
      (let below : v ≤ 4294967295 = omega (arith, keeps, few) in
      let form = ap context_form (words_again (decimal v) [] (number_clean v below, tt)) ∙ context_again v below in
      ruled (context_form (words_of (row (context_words v)))) v (λ q. nat_lt q (length p)) (λ q. more (rows m p x (before ++ q ∷ []) [] finished)) form (lt-ltb v (length p) keeps));
  tells = λ l. by_form (context_form (words_of l)) (λ q. nat_lt q (length p)) (λ q. more (rows m p x (before ++ q ∷ []) [] finished)) (λ v is holds.
      (v, tt, ltb-true v (length p) holds, row_again l (context_words v) (context_told (words_of l) v is).0));
  clean = λ v small keeps. (let below : v ≤ 4294967295 = omega (arith, keeps, few) in (number_clean v below, tt));
}

same_root : (l : LinkRow) → IsRoot l → root_row l.own ≡ l
same_root l is = λ i. record { caller = sym is.caller i; site = sym is.site i; callee = sym is.callee i; own = l.own }

pub root_takes : (f : ProfileRows) (more : Next) → Takes (root_due f more) Root (λ l. l.caller ≡ None) (λ l. more (with_link f l))
root_takes f more = record {
  again = λ l small keeps.
      (let same = same_root l keeps.0 in
      let form = ap root_form (words_again dash (dash ∷ decimal 0 ∷ map decimal (numbers_of l.own)) (root_clean l.own keeps.1)) ∙ root_again l.own keeps.1 in
      ap (λ (x : LinkRow). root_due f more (row (link_words x))) (sym same)
      ∙ ap (λ (o : Option Counts). given o (λ own. more (with_link f (root_row own)))) form ∙ ap (λ (x : LinkRow). more (with_link f x)) same);
  tells = λ l. by_form_alone (root_form (words_of l)) (λ own. more (with_link f (root_row own))) (λ own is.
      let told = root_told (words_of l) own is in
      (root_row own, refl, (record { caller = refl; site = refl; callee = refl }, told.1), row_again l (root_words own) told.0));
  clean = λ l small keeps. subst (λ (x : LinkRow). AreClean (link_words x)) (same_root l keeps.0) (root_clean l.own keeps.1);
}

-- each other link
may_call : (o : Option ℕ) (q : ℕ) → may_be o q ≡ true → IfSome o (λ c. c ≡ q)
may_call None q h = tt
may_call (Some c) q h = eqb-true c q h

called : (o : Option ℕ) (q : ℕ) → IfSome o (λ c. c ≡ q) → may_be o q ≡ true
called None q h = refl
called (Some c) q h = eq-eqb c q h

abbrev Joined : Option ℕ → Option Site → Option ℕ → Type 0
Joined o s u = IsSomeAnd o (λ p. IsSomeAnd s (λ x. IsSomeAnd u (λ q. MayCall x p q)))

fits_joined : (o : Option ℕ) (s : Option Site) (u : Option ℕ) → fits o s u ≡ true → Joined o s u
fits_joined (Some p) (Some x) (Some q) h =
    let both = and_parts (x.owner == p) (may_be (callee_of x.kind) q) h in
    (eqb-true x.owner p both.0, may_call (callee_of x.kind) q both.1)
fits_joined (Some p) (Some x) None h = absurd (false≢true h)
fits_joined (Some p) None u h = absurd (false≢true h)
fits_joined None s u h = absurd (false≢true h)

joined_fits : (o : Option ℕ) (s : Option Site) (u : Option ℕ) → Joined o s u → fits o s u ≡ true
joined_fits (Some p) (Some x) (Some q) h = and_from (x.owner == p) (may_be (callee_of x.kind) q) (eq-eqb x.owner p h.0) (called (callee_of x.kind) q h.1)
joined_fits (Some p) (Some x) None h = absurd h
joined_fits (Some p) None u h = absurd h
joined_fits None s u h = absurd h

-- what is joined is there
record AreThere (o : Option ℕ) (s : Option Site) (u : Option ℕ) : Type 0 where
  pub caller : ℕ
  pub site : Site
  pub callee : ℕ
  pub caller_is : o ≡ Some caller
  pub site_is : s ≡ Some site
  pub callee_is : u ≡ Some callee

are_there : (o : Option ℕ) (s : Option Site) (u : Option ℕ) → Joined o s u → AreThere o s u
are_there None s u h = absurd h
are_there (Some p) None u h = absurd h
are_there (Some p) (Some x) None h = absurd h
are_there (Some p) (Some x) (Some q) h = record { caller = p; site = x; callee = q; caller_is = refl; site_is = refl; callee_is = refl }

number_is : (o : Option ℕ) (n : ℕ) → is_number o n ≡ true → o ≡ Some n
number_is None n h = absurd (false≢true h)
number_is (Some m) n h = ap (λ (k : ℕ). Some k) (sym (eqb-true n m h))

is_that_number : (o : Option ℕ) (n : ℕ) → o ≡ Some n → is_number o n ≡ true
is_that_number None n h = absurd (cc h)
is_that_number (Some m) n h = eq-eqb n m (sym (same_Some m n h))

module _ (nodes : List ℕ) (v s q : ℕ) (l : LinkRow) (caller : l.caller ≡ Some v) (site : l.site ≡ Some s) (proc : slice_get nodes l.callee ≡ Some q) where
  has_that_key : (z : LinkRow) → link_key nodes z ≡ link_key nodes l → has_key nodes v s q z ≡ true
  has_that_key z same =
      and_from (is_number z.caller v && is_number z.site s) (is_number (slice_get nodes z.callee) q)
      (and_from (is_number z.caller v) (is_number z.site s)
      (is_that_number z.caller v (ap (λ (t : Option ℕ × Option ℕ × Option ℕ). t.0) same ∙ caller))
      (is_that_number z.site s (ap (λ (t : Option ℕ × Option ℕ × Option ℕ). t.1) same ∙ site)))
      (is_that_number (slice_get nodes z.callee) q (ap (λ (t : Option ℕ × Option ℕ × Option ℕ). t.2) same ∙ proc))

  that_key : (z : LinkRow) → has_key nodes v s q z ≡ true → link_key nodes z ≡ link_key nodes l
  that_key z has =
      let one = and_parts (is_number z.caller v && is_number z.site s) (is_number (slice_get nodes z.callee) q) has in
      let two = and_parts (is_number z.caller v) (is_number z.site s) one.0 in
      let first = number_is z.caller v two.0 ∙ sym caller in
      let second = number_is z.site s two.1 ∙ sym site in
      let third = number_is (slice_get nodes z.callee) q one.1 ∙ sym proc in
      λ i. (first i, second i, third i)

  pub none_before : (before : List LinkRow) → list_any (has_key nodes v s q) before ≡ false → All (λ other. link_key nodes other ≢ link_key nodes l) before
  none_before before none k d below same = both_ways (list_any (has_key nodes v s q) before) none (list_any_at (has_key nodes v s q) before k d below (has_that_key (get_or before k d) same))

  pub before_none : (before : List LinkRow) → All (λ other. link_key nodes other ≢ link_key nodes l) before → list_any (has_key nodes v s q) before ≡ false
  before_none before all = list_any_none (has_key nodes v s q) before (λ k d below. false_from_ne_true (has_key nodes v s q (get_or before k d)) (λ has. all k d below (that_key (get_or before k d) has)))

-- the test whether a link is new, where the callee's procedure is known and link 0 comes from nowhere
root_apart : (nodes : List ℕ) (v s q : ℕ) (root : LinkRow) → root.caller ≡ None → has_key nodes v s q root ≡ false
root_apart nodes v s q root none = ap (λ (o : Option ℕ). (is_number o v && is_number root.site s) && is_number (slice_get nodes root.callee) q) none

new_at : (nodes : List ℕ) (root : LinkRow) (before : List LinkRow) (v s q : ℕ) (o : Option ℕ) → root.caller ≡ None → o ≡ Some q → not (has_any_key nodes (root ∷ before) v s o) ≡ true → list_any (has_key nodes v s q) before ≡ false
new_at nodes root before v s q o none is test =
    (or_parts (has_key nodes v s q root) (list_any (has_key nodes v s q) before) (not-true _ (subst (λ (u : Option ℕ). not (has_any_key nodes (root ∷ before) v s u) ≡ true) is test))).1

new_from : (nodes : List ℕ) (root : LinkRow) (before : List LinkRow) (v s q : ℕ) (o : Option ℕ) → root.caller ≡ None → o ≡ Some q → list_any (has_key nodes v s q) before ≡ false → not (has_any_key nodes (root ∷ before) v s o) ≡ true
new_from nodes root before v s q o none is fresh =
    subst (λ (u : Option ℕ). not (has_any_key nodes (root ∷ before) v s u) ≡ true) (sym is)
    (not_from_false (list_any (has_key nodes v s q) (root ∷ before)) (or_from (has_key nodes v s q root) (list_any (has_key nodes v s q) before) (root_apart nodes v s q root none) fresh))

-- the caller and the site of a link that fits
record Ends (l : LinkRow) (statics : Static) (nodes : List ℕ) : Type 0 where
  pub v : ℕ
  pub s : ℕ
  pub caller : l.caller ≡ Some v
  pub site : l.site ≡ Some s
  pub joined : Joined (slice_get nodes v) (slice_get statics.sites s) (slice_get nodes l.callee)

ends_at : (l : LinkRow) (statics : Static) (nodes : List ℕ) (o u : Option ℕ) → l.caller ≡ o → l.site ≡ u → IsSomeAnd o (λ v. IsSomeAnd u (λ site. Joins statics nodes v site l.callee)) → Ends l statics nodes
ends_at l statics nodes (Some v) (Some s) caller site h = record { v = v; s = s; caller = caller; site = site; joined = h }
ends_at l statics nodes (Some v) None caller site h = absurd h
ends_at l statics nodes None u caller site h = absurd h

link_clean : (l : LinkRow) (v s : ℕ) → l.caller ≡ Some v → l.site ≡ Some s → v ≤ 4294967295 → s ≤ 4294967295 → l.callee ≤ 4294967295 → AreSmall l.own → AreClean (link_words l)
link_clean l v s caller site v_small s_small w_small small =
    subst (λ (o : Option ℕ). AreClean (or_dash o ∷ or_dash l.site ∷ decimal l.callee ∷ map decimal (numbers_of l.own))) (sym caller)
    (subst (λ (o : Option ℕ). AreClean (decimal v ∷ or_dash o ∷ decimal l.callee ∷ map decimal (numbers_of l.own))) (sym site)
    (number_clean v v_small, (number_clean s s_small, (number_clean l.callee w_small, counts_clean l.own small))))

-- what a link that keeps its rule has
record IsLink (nodes : List ℕ) (statics : Static) (root : LinkRow) (before : List LinkRow) (l : LinkRow) : Type 0 where
  pub v : ℕ
  pub s : ℕ
  pub caller : l.caller ≡ Some v
  pub site : l.site ≡ Some s
  pub v_small : v ≤ 4294967295
  pub s_small : s ≤ 4294967295
  pub w_small : l.callee ≤ 4294967295
  pub joins : fits (slice_get nodes v) (slice_get statics.sites s) (slice_get nodes l.callee) ≡ true
  pub is_new : not (has_any_key nodes (root ∷ before) v s (slice_get nodes l.callee)) ≡ true

link_is : (nodes : List ℕ) (statics : Static) (root : LinkRow) (before : List LinkRow) (l : LinkRow) → length nodes < 2 ^ 32 → length statics.sites < 2 ^ 32 → root.caller ≡ None → Keeps (Link statics nodes before l) → IsLink nodes statics root before l
link_is nodes statics root before l few_nodes few_sites none keeps =
    let e = ends_at l statics nodes l.caller l.site refl refl keeps.0 in
    let t = are_there (slice_get nodes e.v) (slice_get statics.sites e.s) (slice_get nodes l.callee) e.joined in
    let v_below : e.v < length nodes = slice_get_within nodes e.v t.caller t.caller_is in
    let s_below : e.s < length statics.sites = slice_get_within statics.sites e.s t.site t.site_is in
    let w_below : l.callee < length nodes = slice_get_within nodes l.callee t.callee t.callee_is in
    let fresh = before_none nodes e.v e.s t.callee l e.caller e.site t.callee_is before keeps.1 in
    record {
      v = e.v;
      s = e.s;
      caller = e.caller;
      site = e.site;
      v_small = omega (arith, v_below, few_nodes);
      s_small = omega (arith, s_below, few_sites);
      w_small = omega (arith, w_below, few_nodes);
      joins = joined_fits (slice_get nodes e.v) (slice_get statics.sites e.s) (slice_get nodes l.callee) e.joined;
      is_new = new_from nodes root before e.v e.s t.callee (slice_get nodes l.callee) none t.callee_is fresh;
    }

link_keeps : (nodes : List ℕ) (statics : Static) (root : LinkRow) (before : List LinkRow) (n : LinkLine) → root.caller ≡ None → AreSmall n.own → fits (slice_get nodes n.caller) (slice_get statics.sites n.site) (slice_get nodes n.callee) ≡ true
    → not (has_any_key nodes (root ∷ before) n.caller n.site (slice_get nodes n.callee)) ≡ true → Keeps (Link statics nodes before (link_row n))
link_keeps nodes statics root before n none small joins fresh =
    let joined = fits_joined (slice_get nodes n.caller) (slice_get statics.sites n.site) (slice_get nodes n.callee) joins in
    let t = are_there (slice_get nodes n.caller) (slice_get statics.sites n.site) (slice_get nodes n.callee) joined in
    (joined, none_before nodes n.caller n.site t.callee (link_row n) refl refl t.callee_is before (new_at nodes root before n.caller n.site t.callee (slice_get nodes n.callee) none t.callee_is fresh), small)

pub link_takes : (m : List (List ℕ)) (p : List Proc) (x : List Site) (nodes : List ℕ) (finished : Bool) → length nodes < 2 ^ 32 → length x < 2 ^ 32 → (root : LinkRow) → root.caller ≡ None → (before : List LinkRow) (more : Next)
    → Takes (other_due (rows m p x nodes (root ∷ before) finished) more) (Link (record { modules = m; procs = p; sites = x }) nodes before) Any (λ l. more (rows m p x nodes (root ∷ (before ++ l ∷ [])) finished))
link_takes m p x nodes finished few_nodes few_sites root none before more = record {
  again = λ l small keeps.
      (let f = rows m p x nodes (root ∷ before) finished in
      let statics : Static = record { modules = m; procs = p; sites = x } in
      let k = link_is nodes statics root before l few_nodes few_sites none keeps in
      let n : LinkLine = record { caller = k.v; site = k.s; callee = l.callee; own = l.own } in
      let same : link_row n ≡ l = λ i. record { caller = sym k.caller i; site = sym k.site i; callee = l.callee; own = l.own } in
      let clean : AreClean (link_line_words n) = (number_clean k.v k.v_small, (number_clean k.s k.s_small, (number_clean l.callee k.w_small, counts_clean l.own keeps.2))) in
      let form = ap link_form (words_again (decimal k.v) (decimal k.s ∷ decimal l.callee ∷ map decimal (numbers_of l.own)) clean) ∙ link_again n k.v_small k.s_small k.w_small keeps.2 in
      ap (λ (y : LinkRow). other_due f more (row (link_words y))) (sym same)
      ∙ ruled (link_form (words_of (row (link_line_words n)))) n (λ y. is_fine_link f y) (λ y. more (with_link f (link_row y))) form
      (and_from (fits_site f k.v k.s l.callee) (is_new_link f k.v k.s l.callee) k.joins k.is_new)
      ∙ ap (λ (y : LinkRow). more (with_link f y)) same);
  tells = λ l. by_form (link_form (words_of l)) (λ y. is_fine_link (rows m p x nodes (root ∷ before) finished) y) (λ y. more (with_link (rows m p x nodes (root ∷ before) finished) (link_row y))) (λ n is holds.
      let f = rows m p x nodes (root ∷ before) finished in
      let told = link_told (words_of l) n is in
      let both = and_parts (fits_site f n.caller n.site n.callee) (is_new_link f n.caller n.site n.callee) holds in
      (link_row n, tt, link_keeps nodes (record { modules = m; procs = p; sites = x }) root before n none told.small both.0 both.1, row_again l (link_line_words n) told.are));
  clean = λ l small keeps.
      (let k = link_is nodes (record { modules = m; procs = p; sites = x }) root before l few_nodes few_sites none keeps in
      link_clean l k.v k.s k.caller k.site k.v_small k.s_small k.w_small keeps.2);
}
