use Rattle.std.proofs.Common.{◌≡◌, ◌≤◌, ◌^◌, take}
use Rattle.md_render.specs.Icicle.{levels_of}
use Rattle.md_render.proofs.icicle.levels_of.Given as goal

-- the levels of the boxes so far
abbrev pub invariant-loop-it : goal.invariant-loop-it
invariant-loop-it l = record {
  levels : l.levels ≡ levels_of (take l.it-index l.boxes);
  small : l.levels ≤ 2 ^ 32;
}
