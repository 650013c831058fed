use Rattle.std.proofs.Common.{rules}
use Rattle.md_table.proofs.Chains.{filled}
use Rattle.md_table.proofs.add.add_spaces.Goals as goal

pub returns-in-Some : goal.returns-in-Some
returns-in-Some c = filled c.resize.result c.args.out.now.items c.resize.new.self.items _ c.in-Some.len c.args.count (search rules) (search rules) c.resize.ensures.items
