-- What a text is read as.
use Rattle.std.specs.Prelude.{⊤, ◌≡◌, ◌≢◌, ℕ, List, Option, Some, None, Result, Ok, Err}
use Rattle.md_hlds.specs.declared.program.Program.{Program}
use Rattle.md_hlds.specs.Hlds.{Hlds, hlds_of}
use Rattle.md_token.specs.Token.{tokens_of}
use Rattle.md_reader.specs.declared.refused.Refusal.{Refusal}
use Rattle.md_reader.specs.declared.refused.Refusal.TheVariants as refusal
use Rattle.md_reader.specs.declared.refused.Refused.{Refused}
use Rattle.md_reader.specs.declared.refused.Refused.TheVariants as refused
use Rattle.md_reader.specs.Input.{Outcome}
use Rattle.md_reader.specs.Rules.{program, start}
use Rattle.md_reader.specs.Duplicates.{duplicate}
use Rattle.md_reader.specs.Faults.{IsSyntaxFault, IsLimitFault}
use Rattle.md_reader.specs.Grammar.{Repeats}

abbrev pub refused_of : Refusal → Refused
refused_of (refusal.Syntax place) = refused.Syntax place.line
refused_of (refusal.Limit place) = refused.Limit place.line
refused_of refusal.NoMemory = refused.NoMemory

-- a program that has a second declaration is refused
abbrev pub without_duplicate : Hlds → Option ℕ → Result Hlds Refused
without_duplicate l None = Ok l
without_duplicate l (Some line) = Err (refused.Duplicate line)

abbrev pub outcome_of : Outcome Hlds → Result Hlds Refused
outcome_of (Ok read) = without_duplicate read.0 (duplicate read.0)
outcome_of (Err e) = Err (refused_of e)

-- the program that a text is read as, or why it is refused
unfoldable pub reading : List ℕ → Result Hlds Refused
reading text = outcome_of (program (start (tokens_of text)))

-- an answer is what the text is read as, unless memory is refused
abbrev pub IsAnswer : Result Program Refused → List ℕ → Type 0
IsAnswer (Ok p) text = reading text ≡ Ok (hlds_of p)
IsAnswer (Err e) text = e ≢ refused.NoMemory → reading text ≡ Err e

-- the answer is this program, unless memory is refused
abbrev pub IsRead : Result Program Refused → Hlds → Type 0
IsRead (Ok p) l = hlds_of p ≡ l
IsRead (Err e) l = e ≡ refused.NoMemory

-- the answer is this refusal, unless memory is refused
abbrev pub IsRefusedAs : Result Program Refused → Refused → Type 0
IsRefusedAs (Ok p) why = ⊥
IsRefusedAs (Err e) why = e ≢ refused.NoMemory → e ≡ why

-- the answer is that a token is at fault, unless memory is refused
abbrev pub IsFault : Result Program Refused → Type 0
IsFault (Ok p) = ⊥
IsFault (Err (refused.Duplicate line)) = ⊥
IsFault (Err e) = ⊤

-- why a refusal is answered
abbrev pub HasCause : Refused → List ℕ → Type 0
HasCause (refused.Duplicate line) text = Repeats text line
HasCause (refused.Syntax line) text = IsSyntaxFault text line
HasCause (refused.Limit line) text = IsLimitFault text line
HasCause refused.NoMemory text = ⊤
