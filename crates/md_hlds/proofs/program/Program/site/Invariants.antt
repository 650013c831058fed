use Rattle.std.proofs.Common.{◌≡◌, ◌+◌, length, take}
use Rattle.md_hlds.specs.Hlds.{procedures_of, sites_from}
use Rattle.md_hlds.proofs.program.Program.site.Given as goal

abbrev pub invariant-loop-owner : goal.invariant-loop-owner
invariant-loop-owner l = length (sites_from 0 (procedures_of (take l.owner l.self.preds.items))) + l.before ≡ l.fn.id
