use Rattle.std.proofs.Common.{◌≡◌, map, take}
use Rattle.md_dynamic.specs.Valid.{whole_key, link_key}
use Rattle.md_dynamic.proofs.check.link_keys.Given as goal

abbrev pub invariant-loop-link : goal.invariant-loop-link
invariant-loop-link l = map whole_key l.keys.items ≡ map (link_key l.nodes) (take l.link-index l.links)
