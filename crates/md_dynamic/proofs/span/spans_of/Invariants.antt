use Rattle.std.proofs.Common.{ℕ, ◌≡◌, ◌<◌, length, slice_get, Some}
use Rattle.md_static.specs.Sites.{first_site}
use Rattle.md_dynamic.specs.Spans.{span_of}
use Rattle.md_dynamic.proofs.span.spans_of.Given as goal

abbrev pub invariant-loop-count : goal.invariant-loop-count
invariant-loop-count l = record {
  before : l.first ≡ first_site l.count-index l.sites;
  each : length l.spans.items ≡ l.count-index;
  right : (p : ℕ) → p < l.count-index → slice_get l.spans.items p ≡ Some (span_of l.sites p);
}
