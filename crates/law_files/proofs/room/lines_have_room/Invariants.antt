use Rattle.std.proofs.Common.{◌<◌, ◌^◌, All, take}
use Rattle.law_files.proofs.room.lines_have_room.Given as goal

abbrev pub invariant-loop-site : goal.invariant-loop-site
invariant-loop-site l = All (λ x. x.line < 2 ^ 32) (take l.site-index l.sites)
