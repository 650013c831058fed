-- What the tables hold, as lists by number: contexts with their procedures, links, and active contexts.
use Rattle.std.specs.Prelude.{ℕ, ◌≡◌, ◌+◌, ◌-◌, ◌%◌, ◌<◌, ◌≤◌, ◌^◌, ◌&&◌, Bool, List, [], ◌∷◌, ◌++◌, length, replicate, Option, Some, None, IfSome, IsSomeAnd, MatchOption, slice_get}
use Rattle.std.specs.Map.{lookup}
use Rattle.md_static.specs.declared.entry.Site.{Site}
use Rattle.md_static.specs.Tables.{Static, callee_of}
use Rattle.md_static.specs.Sites.{first_site, sites_of, place_of}
use Rattle.md_static.specs.Sound.{IsSound}
use Rattle.md_trace.specs.Context.{same_option}
use Rattle.md_dynamic.specs.declared.link.LinkRow.{LinkRow}
use Rattle.md_dynamic.specs.declared.slot.CalleeKey.{CalleeKey}
use Rattle.md_dynamic.specs.declared.slot.Slot.{Slot}
use Rattle.md_dynamic.specs.declared.span.Span.{Span}
use Rattle.md_dynamic.specs.Links.{link_row, root_row, number_of}
use Rattle.md_dynamic.specs.Slots.{slot_of, slot_link, slots_before, is_key}
use Rattle.md_dynamic.specs.Spans.{AreSpans}

-- the program's tables; each context's procedure; the links; and each procedure's active context
pub record Rows : Type 0 where
  pub statics : Static
  pub nodes : List ℕ
  pub links : List LinkRow
  pub active : List (Option ℕ)

-- the context's procedure owns the site
abbrev pub Owns : Rows → ℕ → ℕ → Type 0
Owns r node site = IsSomeAnd (slice_get r.statics.sites site) (λ x. slice_get r.nodes node ≡ Some x.owner)

-- the site is a plain one, or a higher-order one
abbrev pub IsPlainSite : Rows → ℕ → Type 0
IsPlainSite r site = IsSomeAnd (slice_get r.statics.sites site) (λ x. IsSomeAnd (callee_of x.kind) (λ c. Unit {0}))

abbrev pub IsHigherOrderSite : Rows → ℕ → Type 0
IsHigherOrderSite r site = IsSomeAnd (slice_get r.statics.sites site) (λ x. callee_of x.kind ≡ None)

-- the link is one of site s in context v
abbrev pub is_from : ℕ → ℕ → LinkRow → Bool
is_from v s l = same_option (Some v) l.caller && same_option (Some s) l.site

-- and it leads to a context of procedure q
abbrev pub is_call : List ℕ → ℕ → ℕ → ℕ → LinkRow → Bool
is_call nodes v s q l = is_from v s l && same_option (Some q) (slice_get nodes l.callee)

-- the link of a plain site in a context, if there is one
abbrev pub link_in : Rows → ℕ → ℕ → Option ℕ
link_in r node site = number_of (is_from node site) r.links

-- the link of a callee at a higher-order site in a context, if there is one
abbrev pub callee_in : Rows → ℕ → ℕ → ℕ → Option ℕ
callee_in r node site q = number_of (is_call r.nodes node site q) r.links

-- the site may call this procedure
abbrev pub MayLead : Rows → ℕ → ℕ → Type 0
MayLead r site q = IsSomeAnd (slice_get r.statics.sites site) (λ x. MatchOption (callee_of x.kind) (q < length r.statics.procs) (λ c. q ≡ c))

-- a plain site has no link in the context yet, or a higher-order site none of this procedure
abbrev pub IsFresh : Rows → ℕ → ℕ → ℕ → Type 0
IsFresh r node site q = IsSomeAnd (slice_get r.statics.sites site) (λ x. MatchOption (callee_of x.kind) (callee_in r node site q ≡ None) (λ c. link_in r node site ≡ None))

-- one more link, which leads to a context that is there; nothing else
pub record AddsLink (old new : Rows) (node site q to calls k : ℕ) : Type 0 where
  pub number : k ≡ length old.links
  pub statics : new.statics ≡ old.statics
  pub nodes : new.nodes ≡ old.nodes
  pub links : new.links ≡ old.links ++ link_row node site to calls ∷ []
  pub active : new.active ≡ old.active

-- one more context of q, and one more link, which leads to it; nothing else
pub record AddsContext (old new : Rows) (node site q calls k : ℕ) : Type 0 where
  pub number : k ≡ length old.links
  pub statics : new.statics ≡ old.statics
  pub nodes : new.nodes ≡ old.nodes ++ q ∷ []
  pub links : new.links ≡ old.links ++ link_row node site (length old.nodes) calls ∷ []
  pub active : new.active ≡ old.active

-- one more link, to the context that is given or to a new one
abbrev pub Adds : Rows → Rows → ℕ → ℕ → ℕ → Option ℕ → ℕ → ℕ → Type 0
Adds old new node site q None calls k = AddsContext old new node site q calls k
Adds old new node site q (Some to) calls k = AddsLink old new node site q to calls k

-- the table steps that it takes
abbrev pub add_cost : Rows → ℕ → Option ℕ → ℕ
add_cost r q None = 4 + length (sites_of q r.statics.sites)
add_cost r q (Some to) = 3

-- a run that has not begun
abbrev pub first_rows : Static → ℕ → Rows
first_rows s main = record { statics = s; nodes = main ∷ []; links = root_row ∷ []; active = replicate (length s.procs) None }

-- ---- how links are found

-- where the slot of a site in a context stands among all slots, by the context's procedure
abbrev pub place_at : List Site → List ℕ → ℕ → ℕ → ℕ → ℕ
place_at sites nodes v p s = slots_before sites nodes v + place_of sites p s

-- the same by the rows; a context that isn't there has none
abbrev pub place_by : List Site → List ℕ → ℕ → Option ℕ → ℕ → ℕ
place_by sites nodes v None s = 0
place_by sites nodes v (Some p) s = place_at sites nodes v p s

abbrev pub place_in : Rows → ℕ → ℕ → ℕ
place_in r node site = place_by r.statics.sites r.nodes node (slice_get r.nodes node) site

-- By what a context of p finds its slots: the place of the first of them, less the number of the first site of p, by 32 bits. So
-- the slot of a site stands where this and the number of the site lead, by 32 bits.
abbrev pub base_of : List Site → List ℕ → ℕ → ℕ → ℕ
base_of sites nodes v p = (slots_before sites nodes v + (2 ^ 32 - first_site p sites)) % 2 ^ 32

-- each context has that number
pub record AreBases (sites : List Site) (nodes bases : List ℕ) : Type 0 where
  pub each : length bases ≡ length nodes
  pub right : (v p : ℕ) → slice_get nodes v ≡ Some p → slice_get bases v ≡ Some (base_of sites nodes v p)

-- each context has its slots, and that of a plain site has the link of the site there, or none exactly where there is none
pub record AreSlots (sites : List Site) (nodes : List ℕ) (slots : List Slot) (links : List LinkRow) : Type 0 where
  pub each : length slots ≡ slots_before sites nodes (length nodes)
  pub right : (v s c : ℕ) (x : Site) → slice_get sites s ≡ Some x → callee_of x.kind ≡ Some c → slice_get nodes v ≡ Some x.owner
      → slice_get slots (place_at sites nodes v x.owner s) ≡ Some (slot_of (number_of (is_from v s) links))

-- the link is found by the procedure of the context to which it leads, as a callee of the site in context v
abbrev pub IsFound : List ℕ → List LinkRow → ℕ → ℕ → ℕ → Type 0
IsFound nodes links v s k = IsSomeAnd (slice_get links k) (λ l. IsSomeAnd (slice_get nodes l.callee) (λ q. number_of (is_call nodes v s q) links ≡ Some k))

-- the slot of a higher-order site has such a link of the site, or none
abbrev pub AreUsed : List Site → List ℕ → List Slot → List LinkRow → Type 0
AreUsed sites nodes slots links =
    (v s : ℕ) (x : Site) → slice_get sites s ≡ Some x → callee_of x.kind ≡ None → slice_get nodes v ≡ Some x.owner
    → IsSomeAnd (slice_get slots (place_at sites nodes v x.owner s)) (λ slot. IfSome (slot_link slot) (IsFound nodes links v s))

-- site s is a higher-order one, and v is a context of the procedure that has it
abbrev pub HasCallees : List Site → List ℕ → ℕ → ℕ → Type 0
HasCallees sites nodes v s = IsSomeAnd (slice_get sites s) (λ x. (callee_of x.kind ≡ None) × (slice_get nodes v ≡ Some x.owner))

-- The map of callees has the links of higher-order sites, each under its context, site and procedure. It has no key of another
-- site, nor of a context that isn't there.
pub record AreCallees (sites : List Site) (nodes : List ℕ) (callees : List (CalleeKey × ℕ)) (links : List LinkRow) : Type 0 where
  pub right : (v s q : ℕ) (x : Site) → slice_get sites s ≡ Some x → callee_of x.kind ≡ None → lookup (is_key v s q) callees ≡ number_of (is_call nodes v s q) links
  pub alone : (v s q k : ℕ) → lookup (is_key v s q) callees ≡ Some k → HasCallees sites nodes v s

-- the ends of each link are there
abbrev pub HasItsEnds : List ℕ → LinkRow → Type 0
HasItsEnds nodes l = IfSome l.caller (λ v. v < length nodes) × (l.callee < length nodes)

-- what always holds of the tables
pub record AreTables (s : Static) (spans : List Span) (nodes bases : List ℕ) (slots : List Slot) (callees : List (CalleeKey × ℕ)) (links : List LinkRow) (active : List (Option ℕ)) : Type 0 where
  pub sound : IsSound s
  pub spans_right : AreSpans s.sites (length s.procs) spans
  pub nodes_there : (v p : ℕ) → slice_get nodes v ≡ Some p → p < length s.procs
  pub bases_are : AreBases s.sites nodes bases
  pub slots_are : AreSlots s.sites nodes slots links
  pub used_are : AreUsed s.sites nodes slots links
  pub callees_are : AreCallees s.sites nodes callees links
  pub ends : (k : ℕ) (l : LinkRow) → slice_get links k ≡ Some l → HasItsEnds nodes l
  pub pointers : length active ≡ length s.procs
  pub active_there : (q v : ℕ) → slice_get active q ≡ Some (Some v) → slice_get nodes v ≡ Some q
  pub fewer : length nodes ≤ length links
  pub few : length links < 2 ^ 32
  pub few_slots : length slots < 2 ^ 32
