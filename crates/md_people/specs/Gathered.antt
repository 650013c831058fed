-- The sums of some links.
use Rattle.std.specs.Prelude.{ℕ, ◌+◌, ◌*◌, ◌^◌, ◌<◌, ◌≤◌, ◌==◌, List, [], ◌∷◌, length, map, sum_by, Option, Some, None, IfSome, if◌then◌else◌, slice_index, unwrap_or}
use Rattle.md_base.specs.declared.measure.Measure.{Measure}
use Rattle.md_trace.specs.Context.{same_option}
use Rattle.md_clique.specs.Places.{places}
use Rattle.md_dynamic.specs.declared.link.LinkRow.{LinkRow}
use Rattle.md_dynamic.specs.Profile.{ProfileRows}
use Rattle.md_cost.specs.SumOf.{sum_of}
use Rattle.md_cost.specs.View.{View, OfLink}
use Rattle.md_people.specs.declared.gathered.Gathered.{Gathered}
use Rattle.md_people.specs.declared.gathered.Slots.{Slots}
use Rattle.md_people.specs.declared.gathered.Slots.TheVariants as slots
use Rattle.md_people.specs.Callers.{sum_some}
use Rattle.md_people.specs.Counts.{own_counts, sums_by}
use Rattle.md_people.specs.Ports.{PortsRow}

-- of links, where there are any
abbrev pub gathered_of : View → Measure → List ℕ → Option Gathered
gathered_of v by [] = None
gathered_of v by (l ∷ ls) = Some (record {
  total = sum_some (map (λ k. v.total (OfLink k) by) (l ∷ ls));
  own = sums_by (λ m. sum_by (λ k. own_counts v (OfLink k) m) (l ∷ ls));
})

-- of one link more
abbrev pub with_link : View → Measure → Option Gathered → ℕ → Gathered
with_link v by None l = record { total = v.total (OfLink l) by; own = sums_by (own_counts v (OfLink l)) }
with_link v by (Some g) l = record { total = sum_some (g.total ∷ v.total (OfLink l) by ∷ []); own = sums_by (λ m. sum_of g.own m + own_counts v (OfLink l) m) }

-- sums of no more than so many links
pub record IsWithin (n : ℕ) (g : Gathered) : Type 0 where
  pub total : IfSome g.total (λ t. t ≤ n * 2 ^ 64)
  pub own : (m : Measure) → sum_of g.own m ≤ n * 2 ^ 32

-- so small a total that its share can be told
abbrev pub HasSmallTotal : Gathered → Type 0
HasSmallTotal g = IfSome g.total (λ t. t < 2 ^ 118)

-- a row of sums, where there are any
abbrev pub row_of : Option Gathered → (last : List ℕ) → List PortsRow
row_of None last = []
row_of (Some g) last = record { total = g.total; own = g.own; last = last } ∷ []

-- the slot of a link that leads to a context of the procedure: its site, or the number past the last site for the root link
abbrev pub caller_slot : ProfileRows → (procedure : ℕ) → LinkRow → Option ℕ
caller_slot f q r = if slice_index f.nodes r.callee == q then Some (unwrap_or r.site (length f.statics.sites)) else None

-- the slot of a link at the site: the procedure to which it leads
abbrev pub callee_slot : ProfileRows → (site : ℕ) → LinkRow → Option ℕ
callee_slot f s r = if same_option r.site (Some s) then Some (slice_index f.nodes r.callee) else None

-- the slot of a link of those that are added up
abbrev pub slot_by : Slots → ProfileRows → LinkRow → Option ℕ
slot_by (slots.Callers q) f r = caller_slot f q r
slot_by slots.Sites f r = r.site
slot_by (slots.Callees s) f r = callee_slot f s r

-- the links at a site
abbrev pub links_at : View → (site : ℕ) → List ℕ
links_at v s = places (λ x. same_option x.site (Some s)) v.links
