use Rattle.std.proofs.Common.{ℕ, ◌≡◌, ◌<◌, length, take, slice_get, Some}
use Rattle.md_static.specs.Sites.{sites_of}
use Rattle.md_dynamic.proofs.span.counts_of.Given as goal

abbrev pub invariant-loop-site : goal.invariant-loop-site
invariant-loop-site l = record {
  each : length l.counts.items ≡ l.fn.procs;
  right : (p : ℕ) → p < l.fn.procs → slice_get l.counts.items p ≡ Some (length (sites_of p (take l.site-index l.sites)));
}
