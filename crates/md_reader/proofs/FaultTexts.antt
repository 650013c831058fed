-- The cause of each refusal, and what is answered where there is one.
use Rattle.std.proofs.Common.{◌≡◌, ◌≢◌, ℕ, IfOk, IfErr, MatchResult, List, [], ◌∷◌, Err, sym, ◌∙◌, subst, true, append_assoc, Result, Ok, Option, Some, None, refl, ap}
use Rattle.md_hlds.specs.declared.program.Program.{Program}
use Rattle.md_hlds.specs.Hlds.{Hlds, hlds_of}
use Rattle.md_token.specs.declared.kind.Kind.TheVariants as kind
use Rattle.md_token.specs.Token.{Lexeme, tokens_of}
use Rattle.md_reader.specs.declared.refused.Refusal.{Refusal}
use Rattle.md_reader.specs.declared.refused.Refusal.TheVariants as refusal
use Rattle.md_token.proofs.Ends.{tokens_end}
use Rattle.md_reader.specs.Input.{Input, Outcome, standard, sees}
use Rattle.md_reader.specs.Excess.{beginning, AreWithin}
use Rattle.md_reader.proofs.CompleteTexts.{program_complete}
use Rattle.md_reader.specs.Rules as rule
use Rattle.md_reader.specs.Faults.{IsSyntaxFault, IsLimitFault, IsAtFault}
use Rattle.md_reader.specs.Reading.{HasCause, IsAnswer, IsFault, IsRefusedAs, refused_of, reading, outcome_of, without_duplicate}
use Rattle.md_reader.specs.Duplicates.{duplicate}
use Rattle.md_reader.specs.declared.refused.Refused.{Refused}
use Rattle.md_reader.specs.declared.refused.Refused.TheVariants as refused
use Rattle.md_reader.specs.Grammar as g
use Rattle.md_reader.proofs.SoundPrograms.{reading_sound, reading_repeats}
use Rattle.md_reader.proofs.Steady.{Stands}
use Rattle.md_reader.proofs.SteadyPrograms.{program_steady}
use Rattle.md_reader.proofs.FaultFirst.{syntax_fault, limit_fault, syntax_at_fault, one_syntax_fault, one_limit_fault, one_kind_of_fault, accepted_within, no_limit_fault}

-- the cause of a refusal
abbrev pub FaultIn : List ℕ → Refusal → Type 0
FaultIn text (refusal.Syntax place) = IsSyntaxFault text place.line
FaultIn text (refusal.Limit place) = IsLimitFault text place.line
FaultIn text refusal.NoMemory = ⊥

pub at_fault : (text : List ℕ) (e : Refusal) → rule.program (rule.start (tokens_of text)) ≡ Err e → FaultIn text e
at_fault text (refusal.Syntax place) r = syntax_fault text place r
at_fault text (refusal.Limit place) r = limit_fault text place r
at_fault text refusal.NoMemory r = let w = program_steady 0 [] (rule.start (tokens_of text)) in absurd (subst (Stands w.stop) r w.stands)

-- a refusal by the rules has its cause
pub fault_cause : (e : Refusal) (text : List ℕ) → (e ≢ refusal.NoMemory → rule.program (rule.start (tokens_of text)) ≡ Err e) → HasCause (refused_of e) text
fault_cause (refusal.Syntax place) text r = at_fault text (refusal.Syntax place) (r (λ q. absurd (cc)))
fault_cause (refusal.Limit place) text r = at_fault text (refusal.Limit place) (r (λ q. absurd (cc)))
fault_cause refusal.NoMemory text r = tt

-- the tokens of a text with a token at fault are no program's
at_odds : (text : List ℕ) (line : ℕ) → IsAtFault text line → (l : Hlds) (end : Input) → g.Program l (rule.start (tokens_of text)) end → sees kind.Stop end ≡ true → ⊥
at_odds text line f l end p w = f.none (record { text = text; later = f.later; listing = l; end = end; tokens = f.tokens ∙ sym (append_assoc f.before (f.token ∷ []) f.later); program = p; whole = w })

pub answer_fault : (r : Result Program Refused) (text : List ℕ) (line : ℕ) → IsAnswer r text → IsAtFault text line → IsFault r
answer_fault (Ok p) text line h f = let s = reading_sound text (hlds_of p) h in at_odds text line f (hlds_of p) s.end s.program s.whole
answer_fault (Err (refused.Duplicate second)) text line h f = let s = reading_repeats text second (h (λ q. absurd (cc))) in at_odds text line f s.listing s.end s.program s.whole
answer_fault (Err (refused.Syntax other)) text line h f = tt
answer_fault (Err (refused.Limit other)) text line h f = tt
answer_fault (Err refused.NoMemory) text line h f = tt

said_line : (line other : ℕ) → ◌≡◌ {A = Result Hlds Refused} (Err (refused.Syntax line)) (Err (refused.Syntax other)) → line ≡ other
said_line line other e = cc

said_limit : (line other : ℕ) → ◌≡◌ {A = Result Hlds Refused} (Err (refused.Limit line)) (Err (refused.Limit other)) → line ≡ other
said_limit line other e = cc

never_syntax : (l : Hlds) (d : Option ℕ) (line : ℕ) → without_duplicate l d ≡ Err (refused.Syntax line) → ⊥
never_syntax l None line h = absurd (cc)
never_syntax l (Some second) line h = absurd (cc)

never_limit : (l : Hlds) (d : Option ℕ) (line : ℕ) → without_duplicate l d ≡ Err (refused.Limit line) → ⊥
never_limit l None line h = absurd (cc)
never_limit l (Some second) line h = absurd (cc)

-- where the text is answered to be at fault for syntax or for a limit, it is
syntax_said : (text : List ℕ) (r : Outcome Hlds) (line : ℕ) → rule.program (rule.start (tokens_of text)) ≡ r → outcome_of r ≡ Err (refused.Syntax line) → IsSyntaxFault text line
syntax_said text (Err (refusal.Syntax place)) line e h = subst (IsSyntaxFault text) (said_line place.line line h) (syntax_fault text place e)
syntax_said text (Err (refusal.Limit place)) line e h = absurd (cc)
syntax_said text (Err refusal.NoMemory) line e h = absurd (cc)
syntax_said text (Ok p) line e h = absurd (never_syntax p.0 (duplicate p.0) line h)

limit_said : (text : List ℕ) (r : Outcome Hlds) (line : ℕ) → rule.program (rule.start (tokens_of text)) ≡ r → outcome_of r ≡ Err (refused.Limit line) → IsLimitFault text line
limit_said text (Err (refusal.Limit place)) line e h = subst (IsLimitFault text) (said_limit place.line line h) (limit_fault text place e)
limit_said text (Err (refusal.Syntax place)) line e h = absurd (cc)
limit_said text (Err refusal.NoMemory) line e h = absurd (cc)
limit_said text (Ok p) line e h = absurd (never_limit p.0 (duplicate p.0) line h)

reading_syntax : (text : List ℕ) (line : ℕ) → reading text ≡ Err (refused.Syntax line) → IsSyntaxFault text line
unfolding reading
reading_syntax text line h = syntax_said text (rule.program (rule.start (tokens_of text))) line refl h

pub reading_limit : (text : List ℕ) (line : ℕ) → reading text ≡ Err (refused.Limit line) → IsLimitFault text line
unfolding reading
reading_limit text line h = limit_said text (rule.program (rule.start (tokens_of text))) line refl h

-- ---- the first token at fault is answered

pub answer_syntax : (r : Result Program Refused) (text : List ℕ) (line : ℕ) → IsAnswer r text → IsSyntaxFault text line → IsRefusedAs r (refused.Syntax line)
answer_syntax (Ok p) text line h f = answer_fault (Ok p) text line h (syntax_at_fault text line f)
answer_syntax (Err (refused.Duplicate second)) text line h f = absurd (answer_fault (Err (refused.Duplicate second)) text line h (syntax_at_fault text line f))
answer_syntax (Err (refused.Syntax other)) text line h f = λ n. ap refused.Syntax (one_syntax_fault text other line (reading_syntax text other (h n)) f)
answer_syntax (Err (refused.Limit other)) text line h f = λ n. absurd (one_kind_of_fault text line other f (reading_limit text other (h n)))
answer_syntax (Err refused.NoMemory) text line h f = λ n. absurd (n refl)

-- the tokens of a program are within the limits
pub program_within : (text : List ℕ) (l : Hlds) (end : Input) → g.Program l (rule.start (tokens_of text)) end → sees kind.Stop end ≡ true → AreWithin standard beginning (tokens_of text)
program_within text l end p w = accepted_within text l end (program_complete l (rule.start (tokens_of text)) end p (tokens_end text) w) w

pub answer_limit : (r : Result Program Refused) (text : List ℕ) (line : ℕ) → IsAnswer r text → IsLimitFault text line → IsRefusedAs r (refused.Limit line)
answer_limit (Ok p) text line h f = let s = reading_sound text (hlds_of p) h in no_limit_fault text line (program_within text (hlds_of p) s.end s.program s.whole) f
answer_limit (Err (refused.Duplicate second)) text line h f = λ n. absurd (let s = reading_repeats text second (h n) in no_limit_fault text line (program_within text s.listing s.end s.program s.whole) f)
answer_limit (Err (refused.Syntax other)) text line h f = λ n. absurd (one_kind_of_fault text other line (reading_syntax text other (h n)) f)
answer_limit (Err (refused.Limit other)) text line h f = λ n. ap refused.Limit (one_limit_fault text other line (reading_limit text other (h n)) f)
answer_limit (Err refused.NoMemory) text line h f = λ n. absurd (n refl)

-- ---- what follows from an answer

-- an answer to a text's tokens is one to the text
pub answer_of : (r : Result Program Refused) (text : List ℕ) (ts : List Lexeme) → ts ≡ tokens_of text → MatchResult r (λ p. outcome_of (rule.program (rule.start ts)) ≡ Ok (hlds_of p)) (λ e. e ≢ refused.NoMemory → outcome_of (rule.program (rule.start ts)) ≡ Err e) → IsAnswer r text
unfolding reading
answer_of (Ok p) text ts e h = subst (λ (us : List Lexeme). outcome_of (rule.program (rule.start us)) ≡ Ok (hlds_of p)) e h
answer_of (Err f) text ts e h = λ n. subst (λ (us : List Lexeme). outcome_of (rule.program (rule.start us)) ≡ Err f) e (h n)

pub answer_spelled : (r : Result Program Refused) (text : List ℕ) → IsAnswer r text → IfOk r (λ program. g.Spells text (hlds_of program))
answer_spelled (Ok p) text h = reading_sound text (hlds_of p) h
answer_spelled (Err e) text h = tt

pub answer_cause : (r : Result Program Refused) (text : List ℕ) → IsAnswer r text → IfErr r (λ refused. HasCause refused text)
answer_cause (Ok p) text h = tt
answer_cause (Err (refused.Duplicate line)) text h = reading_repeats text line (h (λ q. absurd (cc)))
answer_cause (Err (refused.Syntax line)) text h = reading_syntax text line (h (λ q. absurd (cc)))
answer_cause (Err (refused.Limit line)) text h = reading_limit text line (h (λ q. absurd (cc)))
answer_cause (Err refused.NoMemory) text h = tt
