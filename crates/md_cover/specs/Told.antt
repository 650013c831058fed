-- The code's equations as the definition's, and a profile's counts of ports.
use Rattle.std.specs.Prelude.{ℕ, Bool, true, false, List, [], ◌∷◌, Option, Some, None, cond, length, nat_lt}
use Rattle.md_base.specs.declared.measure.Measure.TheVariants as measure
use Rattle.md_cost.specs.View.{View, OfProcedure, OfSite}
use Rattle.md_det.specs.declared.finding.Switch.{Switch}
use Rattle.law_turns.specs.Counts.{PortCounts}
use Rattle.law_turns.specs.Equations as spec
use Rattle.md_cover.specs.declared.equation.Quantity.{Quantity}
use Rattle.md_cover.specs.declared.equation.Quantity.TheVariants.{Entries, Exits}
use Rattle.md_cover.specs.declared.equation.Equation.{Equation}

abbrev pub quantity_of : Quantity → spec.Quantity
quantity_of (Entries n) = spec.Entries n
quantity_of (Exits n) = spec.Exits n

abbrev pub quantities_of : List Quantity → List spec.Quantity
quantities_of [] = []
quantities_of (q ∷ qs) = quantity_of q ∷ quantities_of qs

abbrev pub equation_of : Equation → spec.Equation
equation_of e = record { whole = quantity_of e.whole; parts = quantities_of e.parts.items; number = e.number }

abbrev pub equations_of : List Equation → List spec.Equation
equations_of [] = []
equations_of (e ∷ es) = equation_of e ∷ equations_of es

-- ---- counts

abbrev pub count_of : Option ℕ → ℕ
count_of None = 0
count_of (Some n) = n

-- the own counts of procedures and of call sites; one that the profile doesn't have has none
abbrev pub view_counts : View → PortCounts
view_counts v = record {
  procedure_calls = λ q. cond (nat_lt q (length v.statics.procs)) (count_of (v.own (OfProcedure q) measure.Calls)) 0;
  procedure_exits = λ q. cond (nat_lt q (length v.statics.procs)) (count_of (v.own (OfProcedure q) measure.Exits)) 0;
  site_calls = λ x. cond (nat_lt x (length v.statics.sites)) (count_of (v.own (OfSite x) measure.Calls)) 0;
  site_exits = λ x. cond (nat_lt x (length v.statics.sites)) (count_of (v.own (OfSite x) measure.Exits)) 0;
}

-- a switch with no functor missing
abbrev pub is_whole : Option Switch → Bool
is_whole None = false
is_whole (Some w) = w.whole

-- the equation of a switch with no functor missing, where these are the entries of its arms
abbrev pub chosen_by : spec.Quantity → List spec.Quantity → Bool → List spec.Equation
chosen_by whole parts true = spec.sums whole parts ∷ []
chosen_by whole parts false = []

abbrev pub chosen : spec.Quantity → List spec.Quantity → Option Switch → List spec.Equation
chosen whole parts w = chosen_by whole parts (is_whole w)
