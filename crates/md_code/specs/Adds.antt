-- What is added to the code that is laid out so far.
use Rattle.std.specs.Prelude.{ℕ, ◌≡◌, List, [], ◌++◌, length, map}
use Rattle.md_hlds.specs.Hlds.{Hlds}
use Rattle.md_flat.specs.declared.instruction.Instruction.{Instruction}
use Rattle.md_code.specs.declared.output.Output.{Output}
use Rattle.md_code.specs.Blocks.{common_code, program_code}
use Rattle.md_code.specs.Details.{Detail, detail_told, clauses_details}

pub record Adds (old new : Output) (is : List Instruction) (ds : List Detail) : Type 0 where
  pub instructions : new.instructions.items ≡ old.instructions.items ++ is
  pub details : map detail_told new.details.items ≡ map detail_told old.details.items ++ ds

-- how many goals are laid out: the number of the next one
abbrev pub laid : Output → ℕ
laid o = length o.details.items

-- what each program has is there, and no goal
pub record IsBegun (o : Output) : Type 0 where
  pub instructions : o.instructions.items ≡ common_code
  pub details : o.details.items ≡ []

-- all goals of a program are laid out
pub record IsWhole (s : Hlds) (o : Output) : Type 0 where
  pub instructions : o.instructions.items ≡ program_code s
  pub details : map detail_told o.details.items ≡ clauses_details s 0 s.procedures
