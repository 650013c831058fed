use Rattle.std.proofs.Common.{◌≡◌, ◌<◌, drop, true}
use Rattle.md_hlds.specs.Hlds.{hlds_of}
use Rattle.md_hlds.specs.HldsGoal.{goals_of, gathered}
use Rattle.md_hlds.specs.Switch.{if_different, all_different}
use Rattle.md_switch.specs.Keys.{keys_told, keys_onto}
use Rattle.md_switch.specs.Reading.{read_keys}
use Rattle.md_switch.proofs.shape.keys_of.Given as goal

abbrev pub invariant-loop-arm : goal.invariant-loop-arm
invariant-loop-arm l = record {
  all : if_different l.var (read_keys (hlds_of l.moded) l.var l.fn.number (gathered (goals_of l.arms)))
      ≡ if_different l.var (keys_onto (keys_told l.keys.keys) (read_keys (hlds_of l.moded) l.var l.number (gathered (goals_of (drop l.arm-index l.arms)))));
  different : all_different (keys_told l.keys.keys) ≡ true;
  small : l.number < 4294967295;
}
