use Rattle.std.proofs.Common.{arith, length}
use Rattle.md_hlds.specs.Hlds.{hlds_of}
use Rattle.md_modes.proofs.Arguments.{fewer_arguments}
use Rattle.md_modes.proofs.check.check_modes.Goals as goal

pub check_program-requires : goal.check_program-requires
check_program-requires c =
    let t = c.requires in
    fewer_arguments (length t.text) 4294967296 (hlds_of c.args.program).types (let short = t.short in omega (arith, short)) (c.a_text_has_more_bytes_than_arguments.ensures t.text (hlds_of c.args.program) t.spells)

pub new-requires-clause-few : goal.new-requires-clause-few
new-requires-clause-few c =
    let t = c.requires in
    omega (arith, c.a_text_has_more_bytes_than_goals.ensures t.text (hlds_of c.args.program) t.spells, t.short)
