use Rattle.std.proofs.Common.{◌≡◌, ◌++◌, ◌-◌, suc}
use Rattle.law_generated.specs.Generated.{levels, gen_text}
use Rattle.md_tool.proofs.generate.gen_text.Given as goal

-- what is written, before the procedures that are left, is the whole text
abbrev pub invariant-loop-i : goal.invariant-loop-i
invariant-loop-i l = l.text.items ++ levels l.n (suc l.i) (l.n - l.i) ≡ gen_text l.n
