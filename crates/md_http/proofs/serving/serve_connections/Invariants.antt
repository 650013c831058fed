use Rattle.std.proofs.Common.{◌≡◌, ◌≤◌, ◌-◌, Some}
use Rattle.md_base.specs.Nets.{Connections}
use Rattle.md_cost.specs.FileView.{IsFileView}
use Rattle.md_cost.specs.View.{View}
use Rattle.md_http.specs.Serving.{HasServed}
use Rattle.md_http.proofs.serving.serve_connections.Given as goal

-- what was served so far
abbrev pub invariant-loop-tally : goal.invariant-loop-tally
invariant-loop-tally g l = record {
  port : g.N.Net.listens_at l.net ≡ g.N.Net.listens_at l.fn.net;
  within : l.tally.connections ≤ l.requests;
  fewer : l.tally.answered ≤ l.tally.connections;
  so_far : (v : View) → (before : Connections) → IsFileView l.loaded.profile v → g.N.Net.connections l.fn.net ≡ Some before → HasServed v before (g.N.Net.connections l.net) l.tally;
  faults : g.N.Net.faults l.net ≡ g.N.Net.faults l.fn.net;
}

abbrev pub decreases-loop-tally : goal.decreases-loop-tally
decreases-loop-tally g l = l.requests - l.tally.connections
