use Rattle.std.proofs.Common.{arith}
use Rattle.md_dump.proofs.Adding.{own_room, total_room}
use Rattle.md_dump.proofs.running.row_more.Goals as goal

pub plus-requires : goal.plus-requires
plus-requires c = λ m. let room = c.requires.room.own m in let more = own_room c.args.file.now c.requires.small c.requires.few_links c.args.row.id c.proc_own.result c.proc_own.ensures m in omega (arith, room, more)

pub plus-requires-2 : goal.plus-requires-2
plus-requires-2 c =
    λ m. let room = c.requires.room.total m in let more = total_room c.args.file.now c.requires.small c.requires.few_links c.args.row.id c.proc_total.result c.proc_total.ensures m in omega (arith, room, more)
