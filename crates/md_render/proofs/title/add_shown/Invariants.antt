use Rattle.std.proofs.Common.{◌≡◌, ◌++◌, take}
use Rattle.md_render.specs.Words.{shown}
use Rattle.md_render.proofs.title.add_shown.Given as goal

-- what was added is what is shown of the bytes so far
abbrev pub invariant-loop-byte : goal.invariant-loop-byte
invariant-loop-byte l = l.out.items ≡ l.fn.out.items ++ shown (take l.byte-index l.text)
