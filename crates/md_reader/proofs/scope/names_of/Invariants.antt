use Rattle.std.proofs.Common.{◌≡◌, ◌++◌, drop}
use Rattle.md_reader.proofs.Words.{words}
use Rattle.md_reader.proofs.scope.names_of.Given as goal

-- the names so far and the rest are all
abbrev pub invariant-loop-name : goal.invariant-loop-name
invariant-loop-name l = l.names.items ++ words (drop l.name-index l.kept) ≡ words l.kept
