-- A valid profile keeps the rules on which totals rest.
use Rattle.std.proofs.Common.{◌≡◌, ℕ, zero, suc, ◌<◌, true, eqb, List, [], ◌∷◌, length, drop, get_or, All, Option, Some, None, IfSome, IsSomeAnd, refl, sym, ap, ◌∙◌}
use Rattle.std.specs.List.{slice_get}
use Rattle.std.specs.Option.{option_map}
use Rattle.std.specs.Prelude.{option_and_then}
use Rattle.std.proofs.lemmas.Bool.{eqb-true, ltb-true, and_parts, false≢true}
use Rattle.std.proofs.lemmas.Option.{slice_get_within, get_or_from_slice_get, slice_get-get_or}
use Rattle.md_static.specs.declared.entry.Proc.{Proc}
use Rattle.md_static.specs.declared.entry.Site.{Site}
use Rattle.md_dynamic.specs.declared.link.LinkRow.{LinkRow}
use Rattle.md_dynamic.specs.Profile.{ProfileRows}
use Rattle.md_dynamic.specs.Valid.{IsRoot, IsValid, Fits, Joins, MayCall, is_below}
use Rattle.md_cost.specs.Loading.{IsSoundProfile}
use Rattle.md_cost.specs.FileView.{module_at}

root_of : (o : Option LinkRow) → IsSomeAnd o IsRoot → (row : LinkRow) × (o ≡ Some row) × IsRoot row
root_of None h = absurd h
root_of (Some row) h = (row, refl, h)

joined : (a : Option ℕ) (b : Option Site) (c : Option ℕ) → IsSomeAnd a (λ p. IsSomeAnd b (λ x. IsSomeAnd c (λ q. MayCall x p q))) → (p : ℕ) × (x : Site) × (q : ℕ) × (a ≡ Some p) × (b ≡ Some x) × (c ≡ Some q)
joined None b c h = absurd h
joined (Some p) None c h = absurd h
joined (Some p) (Some x) None h = absurd h
joined (Some p) (Some x) (Some q) h = (p, x, q, refl, refl, refl)

-- a link that fits has its ends and its site
pub record HasAll (f : ProfileRows) (row : LinkRow) : Type 0 where
  pub start : ℕ
  pub site : ℕ
  pub caller : row.caller ≡ Some start
  pub at : row.site ≡ Some site
  pub start_there : start < length f.nodes
  pub site_there : site < length f.statics.sites
  pub callee_there : row.callee < length f.nodes

fits_all : (f : ProfileRows) (row : LinkRow) (caller site : Option ℕ) → row.caller ≡ caller → row.site ≡ site → IsSomeAnd caller (λ v. IsSomeAnd site (λ s. Joins f.statics f.nodes v s row.callee)) → HasAll f row
fits_all f row None site c s h = absurd h
fits_all f row (Some v) None c s h = absurd h
fits_all f row (Some v) (Some t) c s h =
    let j = joined (slice_get f.nodes v) (slice_get f.statics.sites t) (slice_get f.nodes row.callee) h in
    record {
      start = v;
      site = t;
      caller = c;
      at = s;
      start_there = slice_get_within f.nodes v j.0 j.3;
      site_there = slice_get_within f.statics.sites t j.1 j.4;
      callee_there = slice_get_within f.nodes row.callee j.2 j.5;
    }

behind_first : (P : LinkRow → Type 0) (links : List LinkRow) → All P (drop 1 links) → (p : ℕ) (row : LinkRow) → slice_get links (suc p) ≡ Some row → P row
behind_first P [] all p row at = cc
behind_first P (x ∷ xs) all p row at =
    let within = slice_get_within xs p row at in
    let is : get_or xs p row ≡ row = get_or_from_slice_get xs p row row at in
    rw is at (all p row within)

-- each link but the root link
pub has_all : (f : ProfileRows) → IsValid f → (p : ℕ) (row : LinkRow) → slice_get f.links (suc p) ≡ Some row → HasAll f row
has_all f valid p row at = fits_all f row row.caller row.site refl refl (behind_first (Fits f.statics f.nodes) f.links valid.links_fit p row at)

lower_caller : (o : Option ℕ) (v : ℕ) → is_below o v ≡ true → (u : ℕ) × (o ≡ Some u) × (u < v)
lower_caller None v h = absurd (false≢true h)
lower_caller (Some u) v h = (u, refl, ltb-true u v h)

pub valid_sound : (f : ProfileRows) → IsValid f → IsSoundProfile f
valid_sound f valid =
    let root = root_of (slice_get f.links 0) valid.rows.root in
    record {
      few_nodes = valid.rows.few_nodes;
      links = record {
        some_contexts = valid.rows.some_nodes;
        few_links = valid.rows.few_links;
        root_row = root.0;
        root_there = root.1;
        root = record { caller = root.2.caller; callee = root.2.callee };
        others = λ p row at. (let all = has_all f valid p row at in record { start = all.start; caller = all.caller; start_there = all.start_there; callee_there = all.callee_there });
        called = λ c some lt. (
            let any = valid.all_reached c some lt in
            let parts = and_parts (eqb any.1.callee c) (is_below any.1.caller c) any.4 in
            let from = lower_caller any.1.caller c parts.1 in
            let at : get_or f.links any.0 any.1 ≡ any.1 = any.3 in
            record {
              place = any.0;
              row = any.1;
              start = from.0;
              there = slice_get-get_or f.links any.0 any.1 any.2 ∙ ap (λ (r : LinkRow). Some r) at;
              caller = from.1;
              callee = eqb-true any.1.callee c parts.0;
              lower = from.2;
            });
      };
    }

-- who calls is there
pub caller_there : (f : ProfileRows) → IsValid f → (k from : ℕ) (row : LinkRow) → slice_get f.links k ≡ Some row → row.caller ≡ Some from → from < length f.nodes
caller_there f valid zero from row at called =
    let root = root_of (slice_get f.links 0) valid.rows.root in
    let same : root.0 ≡ row = (let e : Some root.0 ≡ Some row = sym root.1 ∙ at in cc) in
    let none : row.caller ≡ None = rw (← same) root.2.caller in
    let e : None ≡ Some from = sym none ∙ called in
    cc
caller_there f valid (suc p) from row at called =
    let all = has_all f valid p row at in
    let e : Some all.start ≡ Some from = sym all.caller ∙ called in
    let same : all.start ≡ from = cc in
    rw same at all.start_there

-- what no context calls is called at no site
pub no_site : (f : ProfileRows) → IsValid f → (k : ℕ) (row : LinkRow) → slice_get f.links k ≡ Some row → row.caller ≡ None → row.site ≡ None
no_site f valid zero row at none =
    let root = root_of (slice_get f.links 0) valid.rows.root in
    let same : root.0 ≡ row = (let e : Some root.0 ≡ Some row = sym root.1 ∙ at in cc) in
    rw (← same) root.2.site
no_site f valid (suc p) row at none =
    let all = has_all f valid p row at in
    let e : None ≡ Some all.start = sym none ∙ all.caller in
    cc

-- each site of a link is there; the root link has none
sites_there : (f : ProfileRows) → IsValid f → (k : ℕ) (row : LinkRow) → slice_get f.links k ≡ Some row → IfSome row.site (λ s. s < length f.statics.sites)
sites_there f valid zero row at =
    let root = root_of (slice_get f.links 0) valid.rows.root in
    let same : root.0 ≡ row = (let e : Some root.0 ≡ Some row = sym root.1 ∙ at in cc) in
    let none : row.site ≡ None = rw (← same) root.2.site in
    rw none tt
sites_there f valid (suc p) row at = let all = has_all f valid p row at in rw all.at all.site_there

pub all_sites_there : (f : ProfileRows) → IsValid f → All (λ (r : LinkRow). IfSome r.site (λ s. s < length f.statics.sites)) f.links
all_sites_there f valid k d lt = sites_there f valid k (get_or f.links k d) (slice_get-get_or f.links k d lt)

site_is : (o : Option ℕ) (n s : ℕ) → IfSome o (λ t. t < n) → o ≡ Some s → s < n
site_is None n s h e = cc
site_is (Some t) n s h e = let same : t ≡ s = cc in rw same at h

row_site : (f : ProfileRows) → IsValid f → (k s : ℕ) (o : Option LinkRow) → slice_get f.links k ≡ o → option_and_then (λ r. r.site) o ≡ Some s → s < length f.statics.sites
row_site f valid k s None at e = cc
row_site f valid k s (Some row) at e = site_is row.site (length f.statics.sites) s (sites_there f valid k row at) e

-- a site that a link has is there
pub site_below : (f : ProfileRows) → IsValid f → (k s : ℕ) → option_and_then (λ (r : LinkRow). r.site) (slice_get f.links k) ≡ Some s → s < length f.statics.sites
site_below f valid k s e = row_site f valid k s (slice_get f.links k) refl e

-- each context has a procedure that is there, and that a module
pub procedure_there : (f : ProfileRows) → IsValid f → (d q : ℕ) → slice_get f.nodes d ≡ Some q → q < length f.statics.procs
procedure_there f valid d q at =
    let within = slice_get_within f.nodes d q at in
    let is : get_or f.nodes d q ≡ q = get_or_from_slice_get f.nodes d q q at in
    rw is at (valid.rows.nodes_there d q within)

module_below_of : (f : ProfileRows) → IsValid f → (d k : ℕ) (o : Option ℕ) → slice_get f.nodes d ≡ o → option_and_then (λ q. option_map (λ p. p.module) (slice_get f.statics.procs q)) o ≡ Some k → k < length f.statics.modules
module_below_of f valid d k None at e = cc
module_below_of f valid d k (Some q) at e =
    let there = procedure_there f valid d q at in
    one q there (slice_get f.statics.procs q) refl e
  where
    one : (q : ℕ) → q < length f.statics.procs → (o : Option Proc) → slice_get f.statics.procs q ≡ o → option_map (λ p. p.module) o ≡ Some k → k < length f.statics.modules
    one q there None at e = cc
    one q there (Some p) at e =
        let is : get_or f.statics.procs q p ≡ p = get_or_from_slice_get f.statics.procs q p p at in
        let below = rw is at (valid.sound.modules_there q p there) in
        let same : p.module ≡ k = cc in
        rw same at below

pub module_below : (f : ProfileRows) → IsValid f → (d k : ℕ) → module_at f d ≡ Some k → k < length f.statics.modules
module_below f valid d k e = module_below_of f valid d k (slice_get f.nodes d) refl e
