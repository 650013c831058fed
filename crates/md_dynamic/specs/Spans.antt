-- Where the call sites of each procedure stand.
use Rattle.std.specs.Prelude.{ℕ, ◌≡◌, ◌<◌, List, length, Some, slice_get}
use Rattle.md_static.specs.declared.entry.Site.{Site}
use Rattle.md_static.specs.Sites.{first_site, sites_of}
use Rattle.md_dynamic.specs.declared.span.Span.{Span}

-- the first site of p, and how many there are
abbrev pub span_of : List Site → ℕ → Span
span_of sites p = record { first = first_site p sites; count = length (sites_of p sites) }

-- the spans of that many procedures
pub record AreSpans (sites : List Site) (procs : ℕ) (spans : List Span) : Type 0 where
  pub each : length spans ≡ procs
  pub right : (p : ℕ) → p < procs → slice_get spans p ≡ Some (span_of sites p)
