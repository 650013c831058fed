use Rattle.std.proofs.Common.{◌≡◌, ℕ, Option, Some, None, refl, ap}
use Rattle.std.specs.Option.{option_map}
use Rattle.md_trace.specs.Activation.{activations, numbered}
use Rattle.md_trace.specs.Context.{Placed, placed_of}
use Rattle.md_clique.proofs.Growing.{chain_head}
use Rattle.md_clique.proofs.Coming.{called, well}
use Rattle.md_clique.proofs.StationPaths.{path_up}
use Rattle.md_clique.proofs.laws.stations_lead_up_to_the_root.Goals as goal

-- an activation in a context is one of those placed
in_its_context : (o : Option Placed) (c : ℕ) → option_map (λ (w : Placed). w.context) o ≡ Some c → (z : Placed) × (o ≡ Some z) × (z.context ≡ c)
in_its_context None c e = cc
in_its_context (Some z) c e = let q : z.context ≡ c = cc in (z, refl, q)

pub returns-clause-begin : goal.returns-clause-begin
returns-clause-begin g t h cliques a c is are at =
    let z = in_its_context (numbered (placed_of t.main h) a) c at in
    let head = chain_head (placed_of t.main h) a z.0 z.1 in
    rw head.1 (ap Some z.2)

pub returns-clause-path : goal.returns-clause-path
returns-clause-path g t h cliques a c is are at =
    let z = in_its_context (numbered (placed_of t.main h) a) c at in
    let head = chain_head (placed_of t.main h) a z.0 z.1 in
    let w = well t.main (activations h) (called t h is) in
    rw head.1 (path_up t.main (placed_of t.main h) w cliques are z.0 head.0 (rw head.1 at (w.linked a z.0 z.1)))
