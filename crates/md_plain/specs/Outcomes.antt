-- What a simple goal does, as the definition tells it.
use Rattle.std.specs.Prelude.{ℕ, suc, List, Option, Some, None}
use denote.Ref.{Bor}
use Rattle.md_hlds.specs.HldsGoal.{GoalExpr, SimpleGoal}
use Rattle.md_hlds.specs.Hlds.{Hlds}
use Rattle.md_hlds.specs.Value.{Env}
use Rattle.md_hlds.specs.Simple.{Go, No, Throws, Stop, simple}
use Rattle.md_hlds.specs.Simple.{Outcome as Meant}
use Rattle.md_plain.specs.declared.simple.Outcome.{Outcome}
use Rattle.md_plain.specs.declared.simple.Outcome.TheVariants.{Go as Going, No as None', Throws as Throwing, Stop as Stopping}
use Rattle.md_plain.specs.Values.{env_of}

abbrev pub bytes_told : Option (Bor (List ℕ)) → Option (List ℕ)
bytes_told None = None
bytes_told (Some bytes) = Some bytes.now

abbrev pub outcome_of : Outcome → Meant
outcome_of (Going e extra words out) = Go (env_of e.now) extra words (bytes_told out)
outcome_of (None' extra) = No extra
outcome_of (Throwing bytes) = Throws bytes.now
outcome_of Stopping = Stop

-- what a simple goal does; no other goal is one
abbrev pub simply : Hlds → Env → GoalExpr → Meant
simply s e (SimpleGoal g) = simple s e g
simply s e t = Stop

abbrev pub outcome_weight : Meant → ℕ
outcome_weight (Go e extra words out) = suc extra
outcome_weight (No extra) = suc extra
outcome_weight (Throws bytes) = 1
outcome_weight Stop = 1
