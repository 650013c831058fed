use Rattle.std.proofs.Common.{◌≡◌, take}
use Rattle.md_commands.proofs.command.copies.Given as goal

-- the words so far
abbrev pub invariant-loop-word : goal.invariant-loop-word
invariant-loop-word l = l.copies.items ≡ take l.word-index l.words
