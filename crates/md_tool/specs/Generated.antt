-- What `gen` owes: a generated text, or the menu of its run.
use Rattle.std.specs.Prelude.{ℕ, ◌≡◌, ◌⊎◌, ◌^◌, Bool, true, false, List, length, Option, Result, Ok, Err}
use Rattle.md_hlds.specs.Run.{run, is_finished}
use Rattle.law_generated.specs.Generated.{gen_text, generated, most_steps}
use Rattle.law_generated.specs.Runs.{generated_contexts}
use Rattle.md_profiled.specs.OfRun.{IsViewOfRun}
use Rattle.md_query.specs.Asked.{Menu}
use Rattle.md_tool.specs.declared.fault.Fault.{Fault}
use Rattle.md_tool.specs.declared.fault.Fault.TheVariants.{Write, NoMemory}
use Rattle.md_tool.specs.Accepted.{Accepted}
use Rattle.md_tool.specs.Due.{WriteEnds}
use Rattle.md_tool.specs.Paged.{IsPaged, IsPagedInPart}

-- the generated text was run to its end, with as many contexts as it is said to have, and the menu of its run was written
pub record HasSummed (n : ℕ) (out out' : Option (List ℕ)) : Type 0 where
  pub accepted : Accepted (gen_text n)
  pub program : accepted.program ≡ generated n
  pub finished : is_finished (run accepted.program most_steps) ≡ true
  pub contexts : length (generated_contexts n most_steps) ≡ 2 ^ n
  pub paged : IsPaged (IsViewOfRun accepted.program most_steps) Menu out out'

pub record HasSummedInPart (n : ℕ) (out out' : Option (List ℕ)) : Type 0 where
  pub accepted : Accepted (gen_text n)
  pub program : accepted.program ≡ generated n
  pub paged : IsPagedInPart (IsViewOfRun accepted.program most_steps) Menu out out'

-- A generated text is accepted and its run finished, so nothing else may come of it than a write that fails, or want of memory.
abbrev pub SummaryEnds : ℕ → (out out' : Option (List ℕ)) → (outs : Type 0) → Result (Unit {0}) Fault → Type 0
SummaryEnds n out out' outs (Ok done) = HasSummed n out out'
SummaryEnds n out out' outs (Err Write) = outs × HasSummedInPart n out out'
SummaryEnds n out out' outs (Err NoMemory) = (out' ≡ out) ⊎ HasSummedInPart n out out'
SummaryEnds n out out' outs (Err fault) = ⊥

-- what `gen` came to: the text was written, or with `--summary` the menu of its run
abbrev pub GenEnds : ℕ → Bool → (out out' : Option (List ℕ)) → (outs : Type 0) → Result (Unit {0}) Fault → Type 0
GenEnds n false out out' outs r = WriteEnds (gen_text n) out out' outs r
GenEnds n true out out' outs r = SummaryEnds n out out' outs r
