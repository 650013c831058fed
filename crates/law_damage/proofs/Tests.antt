-- Whether a field keeps its rule, as a test.
use Rattle.std.proofs.Common.{◌≡◌, ℕ, ◌≤◌, ◌⊎◌, inl, inr, Bool, true, false, cond, not, ◌&&◌, ◌||◌, ◌==◌, nat_lt, nat_le, List, get_or, Option, None, Some, option_map, IfSome, IsSomeAnd, bytes_eq, All, refl, sym, ap, ◌∙◌, arith}
use Rattle.std.specs.Prelude.{slice_get}
use Rattle.std.specs.List.{list_any}
use Rattle.std.proofs.lemmas.List.Folds.{list_any_at, list_any_none}
use Rattle.std.proofs.lemmas.Bool.{both_ways, not-true, ltb-true, leb-true, lt-ltb, le-leb, eqb-true, eq-eqb, and_parts, and_from, or_cases, or_left, or_right, not_from_false, false_from_ne_true, false≢true}
use Rattle.std.proofs.lemmas.Slice.Eq.{bytes_eq-Decides}
use Rattle.md_trace.proofs.Finds.{same-option-true, same-option-refl}
use Rattle.md_trace.specs.Context.{same_option}
use Rattle.md_static.specs.declared.entry.Proc.{Proc}
use Rattle.md_static.specs.declared.entry.Site.{Site}
use Rattle.md_static.specs.declared.entry.SiteKind.TheVariants.{Plain, HigherOrder}
use Rattle.md_static.specs.Names.{is_name}
use Rattle.md_static.specs.Tables.{callee_of}
use Rattle.md_dynamic.specs.declared.link.LinkRow.{LinkRow}
use Rattle.md_deepfile.specs.Bytes.{none}
use Rattle.md_deepfile.specs.Rules.{is_proc, may_be, fits, site_of, link_of}
use Rattle.law_damage.specs.Rows.{SiteNumbers, LinkNumbers}
use Rattle.law_damage.specs.Fields.{Field, MagicByte, Version, Finished, Count, SiteCount, ModuleName, ProcModule, ProcName, ProcArity, SiteOwner, SiteLine, SiteCallee, ContextProc, RootNumber, LinkCaller, LinkSite, LinkCallee, LinkCount, LinkFits, LinkIsNew, last, key, Keeps}

-- rows of numbers as a reader keeps them
abbrev pub site_row : SiteNumbers → Site
site_row x = site_of x.owner x.line x.callee

abbrev pub link_row : LinkNumbers → LinkRow
link_row l = link_of l.caller l.site l.callee l.own

abbrev pub owner_or_zero : Option SiteNumbers → ℕ
owner_or_zero None = 0
owner_or_zero (Some x) = x.owner

abbrev pub same_key : List ℕ → LinkNumbers → LinkNumbers → Bool
same_key contexts l other = ((l.caller == other.caller) && (l.site == other.site)) && same_option (slice_get contexts l.callee) (slice_get contexts other.callee)

abbrev pub fine : Field → Bool
fine (MagicByte due b) = b == due
fine (Version v) = (v == 49) || (v == 50)
fine (Finished b) = nat_le b 1
fine (Count n) = nat_le 1 n
fine (SiteCount n) = true
fine (ModuleName before name) = is_name name && not (list_any (bytes_eq name) before)
fine (ProcModule modules m) = nat_lt m modules
fine (ProcName before m name) = is_name name && not (list_any (is_proc m name) before)
fine (ProcArity n) = true
fine (SiteOwner procs before p) = nat_lt p procs && nat_le (owner_or_zero (last before)) p
fine (SiteLine n) = nat_le 1 n
fine (SiteCallee procs p) = (p == none) || nat_lt p procs
fine (ContextProc procs p) = nat_lt p procs
fine (RootNumber due n) = n == due
fine (LinkCaller contexts v) = nat_lt v contexts
fine (LinkSite sites s) = nat_lt s sites
fine (LinkCallee contexts w) = nat_lt w contexts
fine (LinkCount n) = true
fine (LinkFits sites contexts l) = fits (slice_get contexts l.caller) (option_map site_row (slice_get sites l.site)) (slice_get contexts l.callee)
fine (LinkIsNew contexts before l) = not (list_any (same_key contexts l) before)

-- none of a list has what a test finds, exactly where the test finds none
none_has : {X : Type 0} (test : X → Bool) (P : X → Type 0) → ((x : X) → P x → test x ≡ true) → (xs : List X) → not (list_any test xs) ≡ true → All (λ x. P x → ⊥) xs
none_has {X} test P finds xs h k d below has = both_ways (list_any test xs) (not-true (list_any test xs) h) (list_any_at test xs k d below (finds (get_or xs k d) has))

none_found : {X : Type 0} (test : X → Bool) (P : X → Type 0) → ((x : X) → test x ≡ true → P x) → (xs : List X) → All (λ x. P x → ⊥) xs → not (list_any test xs) ≡ true
none_found {X} test P tells xs all =
    not_from_false (list_any test xs) (list_any_none test xs (λ k d below. false_from_ne_true (test (get_or xs k d)) (λ h. all k d below (tells (get_or xs k d) h))))

-- modules and procedures that were there
same_name : (name other : List ℕ) → other ≡ name → bytes_eq name other ≡ true
same_name name other same = (bytes_eq-Decides name other).1 (sym same)

is_same_name : (name other : List ℕ) → bytes_eq name other ≡ true → other ≡ name
is_same_name name other h = sym ((bytes_eq-Decides name other).0 h)

same_proc : (m : ℕ) (name : List ℕ) (p : Proc) → (p.module ≡ m) × (p.name ≡ name) → is_proc m name p ≡ true
same_proc m name p same = and_from (m == p.module) (bytes_eq name p.name) (eq-eqb m p.module (sym same.0)) (same_name name p.name same.1)

is_same_proc : (m : ℕ) (name : List ℕ) (p : Proc) → is_proc m name p ≡ true → (p.module ≡ m) × (p.name ≡ name)
is_same_proc m name p h = let both = and_parts (m == p.module) (bytes_eq name p.name) h in (sym (eqb-true m p.module both.0), is_same_name name p.name both.1)

-- the owner of the site before
owner_from : (o : Option SiteNumbers) (p : ℕ) → owner_or_zero o ≤ p → IfSome o (λ other. other.owner ≤ p)
owner_from None p h = tt
owner_from (Some x) p h = h

owner_below : (o : Option SiteNumbers) (p : ℕ) → IfSome o (λ other. other.owner ≤ p) → owner_or_zero o ≤ p
owner_below None p h = omega arith
owner_below (Some x) p h = h

-- the callee of a site
may_call : (b : Bool) (c q : ℕ) → (b ≡ true → c ≡ none) → may_be (callee_of (cond b HigherOrder (Plain c))) q ≡ true → (c ≡ none) ⊎ (c ≡ q)
may_call true c q is h = inl (is refl)
may_call false c q is h = inr (eqb-true c q h)

called : (b : Bool) (c q : ℕ) → (c ≡ none → b ≡ true) → (c ≡ none) ⊎ (c ≡ q) → may_be (callee_of (cond b HigherOrder (Plain c))) q ≡ true
called true c q is h = refl
called false c q is (inl same) = absurd (false≢true (is same))
called false c q is (inr same) = eq-eqb c q same

abbrev Joined : Option ℕ → Option SiteNumbers → Option ℕ → Type 0
Joined o s u = IsSomeAnd o (λ p. IsSomeAnd s (λ x. IsSomeAnd u (λ q. (x.owner ≡ p) × ((x.callee ≡ none) ⊎ (x.callee ≡ q)))))

fits_joined : (o : Option ℕ) (s : Option SiteNumbers) (u : Option ℕ) → fits o (option_map site_row s) u ≡ true → Joined o s u
fits_joined (Some p) (Some x) (Some q) h =
    let both = and_parts (x.owner == p) (may_be (callee_of (site_row x).kind) q) h in
    (eqb-true x.owner p both.0, may_call (x.callee == none) x.callee q (eqb-true x.callee none) both.1)
fits_joined (Some p) (Some x) None h = absurd (false≢true h)
fits_joined (Some p) None u h = absurd (false≢true h)
fits_joined None s u h = absurd (false≢true h)

joined_fits : (o : Option ℕ) (s : Option SiteNumbers) (u : Option ℕ) → Joined o s u → fits o (option_map site_row s) u ≡ true
joined_fits (Some p) (Some x) (Some q) h =
    and_from (x.owner == p) (may_be (callee_of (site_row x).kind) q) (eq-eqb x.owner p h.0) (called (x.callee == none) x.callee q (eq-eqb x.callee none) h.1)
joined_fits (Some p) (Some x) None h = absurd h
joined_fits (Some p) None u h = absurd h
joined_fits None s u h = absurd h

-- what tells links apart
has_key : (contexts : List ℕ) (l other : LinkNumbers) → key contexts other ≡ key contexts l → same_key contexts l other ≡ true
has_key contexts l other same =
    let callers : l.caller ≡ other.caller = sym (ap (λ (t : ℕ × ℕ × Option ℕ). t.0) same) in
    let sites : l.site ≡ other.site = sym (ap (λ (t : ℕ × ℕ × Option ℕ). t.1) same) in
    let procs : slice_get contexts other.callee ≡ slice_get contexts l.callee = ap (λ (t : ℕ × ℕ × Option ℕ). t.2) same in
    and_from ((l.caller == other.caller) && (l.site == other.site)) (same_option (slice_get contexts l.callee) (slice_get contexts other.callee))
    (and_from (l.caller == other.caller) (l.site == other.site) (eq-eqb l.caller other.caller callers) (eq-eqb l.site other.site sites))
    (ap (same_option (slice_get contexts l.callee)) procs ∙ same-option-refl (slice_get contexts l.callee))

is_key : (contexts : List ℕ) (l other : LinkNumbers) → same_key contexts l other ≡ true → key contexts other ≡ key contexts l
is_key contexts l other h =
    let outer = and_parts ((l.caller == other.caller) && (l.site == other.site)) (same_option (slice_get contexts l.callee) (slice_get contexts other.callee)) h in
    let inner = and_parts (l.caller == other.caller) (l.site == other.site) outer.0 in
    let first : other.caller ≡ l.caller = sym (eqb-true l.caller other.caller inner.0) in
    let second : other.site ≡ l.site = sym (eqb-true l.site other.site inner.1) in
    let third : slice_get contexts other.callee ≡ slice_get contexts l.callee = sym (same-option-true (slice_get contexts l.callee) (slice_get contexts other.callee) outer.1) in
    λ i. (first i, second i, third i)

pub fine_keeps : (x : Field) → fine x ≡ true → Keeps x
fine_keeps (MagicByte due b) h = eqb-true b due h
fine_keeps (Version v) h = elim (or_cases (v == 49) (v == 50) h) [
  | inl one ↦ inl (eqb-true v 49 one)
  | inr two ↦ inr (eqb-true v 50 two)
]
fine_keeps (Finished b) h = leb-true b 1 h
fine_keeps (Count n) h = leb-true 1 n h
fine_keeps (SiteCount n) h = tt
fine_keeps (ModuleName before name) h =
    let both = and_parts (is_name name) (not (list_any (bytes_eq name) before)) h in
    (both.0, none_has (bytes_eq name) (λ other. other ≡ name) (same_name name) before both.1)
fine_keeps (ProcModule modules m) h = ltb-true m modules h
fine_keeps (ProcName before m name) h =
    let both = and_parts (is_name name) (not (list_any (is_proc m name) before)) h in
    let none = none_has (is_proc m name) (λ other. (other.module ≡ m) × (other.name ≡ name)) (same_proc m name) before both.1 in
    (both.0, λ k d below modules names. none k d below (modules, names))
fine_keeps (ProcArity n) h = tt
fine_keeps (SiteOwner procs before p) h =
    let both = and_parts (nat_lt p procs) (nat_le (owner_or_zero (last before)) p) h in
    (ltb-true p procs both.0, owner_from (last before) p (leb-true (owner_or_zero (last before)) p both.1))
fine_keeps (SiteLine n) h = leb-true 1 n h
fine_keeps (SiteCallee procs p) h = elim (or_cases (p == none) (nat_lt p procs) h) [
  | inl nobody ↦ inl (eqb-true p none nobody)
  | inr there ↦ inr (ltb-true p procs there)
]
fine_keeps (ContextProc procs p) h = ltb-true p procs h
fine_keeps (RootNumber due n) h = eqb-true n due h
fine_keeps (LinkCaller contexts v) h = ltb-true v contexts h
fine_keeps (LinkSite sites s) h = ltb-true s sites h
fine_keeps (LinkCallee contexts w) h = ltb-true w contexts h
fine_keeps (LinkCount n) h = tt
fine_keeps (LinkFits sites contexts l) h = fits_joined (slice_get contexts l.caller) (slice_get sites l.site) (slice_get contexts l.callee) h
fine_keeps (LinkIsNew contexts before l) h = none_has (same_key contexts l) (λ other. key contexts other ≡ key contexts l) (has_key contexts l) before h

pub keeps_fine : (x : Field) → Keeps x → fine x ≡ true
keeps_fine (MagicByte due b) h = eq-eqb b due h
keeps_fine (Version v) (inl one) = or_left (v == 49) (v == 50) (eq-eqb v 49 one)
keeps_fine (Version v) (inr two) = or_right (v == 49) (v == 50) (eq-eqb v 50 two)
keeps_fine (Finished b) h = le-leb b 1 h
keeps_fine (Count n) h = le-leb 1 n h
keeps_fine (SiteCount n) h = refl
keeps_fine (ModuleName before name) h =
    and_from (is_name name) (not (list_any (bytes_eq name) before)) h.0 (none_found (bytes_eq name) (λ other. other ≡ name) (is_same_name name) before h.1)
keeps_fine (ProcModule modules m) h = lt-ltb m modules h
keeps_fine (ProcName before m name) h =
    and_from (is_name name) (not (list_any (is_proc m name) before)) h.0
    (none_found (is_proc m name) (λ other. (other.module ≡ m) × (other.name ≡ name)) (is_same_proc m name) before (λ k d below same. h.1 k d below same.0 same.1))
keeps_fine (ProcArity n) h = refl
keeps_fine (SiteOwner procs before p) h =
    and_from (nat_lt p procs) (nat_le (owner_or_zero (last before)) p) (lt-ltb p procs h.0) (le-leb (owner_or_zero (last before)) p (owner_below (last before) p h.1))
keeps_fine (SiteLine n) h = le-leb 1 n h
keeps_fine (SiteCallee procs p) (inl nobody) = or_left (p == none) (nat_lt p procs) (eq-eqb p none nobody)
keeps_fine (SiteCallee procs p) (inr there) = or_right (p == none) (nat_lt p procs) (lt-ltb p procs there)
keeps_fine (ContextProc procs p) h = lt-ltb p procs h
keeps_fine (RootNumber due n) h = eq-eqb n due h
keeps_fine (LinkCaller contexts v) h = lt-ltb v contexts h
keeps_fine (LinkSite sites s) h = lt-ltb s sites h
keeps_fine (LinkCallee contexts w) h = lt-ltb w contexts h
keeps_fine (LinkCount n) h = refl
keeps_fine (LinkFits sites contexts l) h = joined_fits (slice_get contexts l.caller) (slice_get sites l.site) (slice_get contexts l.callee) h
keeps_fine (LinkIsNew contexts before l) h = none_found (same_key contexts l) (λ other. key contexts other ≡ key contexts l) (is_key contexts l) before h
