-- The text of a feedback: which feedbacks are valid, which text each has, and which line of another text is at fault.
use Rattle.std.specs.Prelude.{ℕ, suc, ◌≡◌, ◌⊎◌, ◌<◌, ◌≤◌, ◌^◌, List, [], ◌∷◌, ◌++◌, length, map, All, IsTrue, codes, decimal}
use Rattle.std.specs.List.{flat_map}
use Rattle.md_static.specs.Names.{is_name}
use Rattle.md_feedback.specs.declared.pairs.Pair.{Pair}
use Rattle.md_feedback.specs.declared.pairs.Feedback.{Feedback}

-- ---- which feedbacks are valid

-- by the first site, and then by the second
abbrev pub IsBefore : Pair → Pair → Type 0
IsBefore p q = (p.first < q.first) ⊎ ((p.first ≡ q.first) × (p.second < q.second))

-- each pair comes before all that follow it
abbrev pub Rise : List Pair → Type 0
Rise [] = Unit {0}
Rise (p ∷ ps) = All (IsBefore p) ps × Rise ps

-- numbers of procedures and sites are below the greatest of 32 bits, counts are of 64 bits, and the second call stands
-- behind the first
pub record IsValidPair (p : Pair) : Type 0 where
  pub proc : p.proc < 4294967295
  pub first : p.first < 4294967295
  pub second : p.second < 4294967295
  pub a : p.a < 2 ^ 64
  pub b : p.b < 2 ^ 64
  pub order : p.first < p.second

abbrev pub IsLeast : ℕ → Type 0
IsLeast k = (1 ≤ k) × (k ≤ 4294967295)

pub record AreValidPairs (ps : List Pair) : Type 0 where
  pub each : All IsValidPair ps
  pub rise : Rise ps

pub record IsValid (f : Feedback) : Type 0 where
  pub least : IsLeast f.least
  pub name : IsTrue (is_name f.module)
  pub pairs : AreValidPairs f.pairs

-- ---- the text of a feedback

-- words, and a number in decimal behind them
abbrev pub numbered : List ℕ → ℕ → List ℕ
numbered words n = words ++ decimal n

abbrev pub title_words : List ℕ
title_words = codes "feedback 1"

abbrev pub least_words : ℕ → List ℕ
least_words k = numbered (codes "least ") k

abbrev pub module_words : List ℕ → List ℕ
module_words name = codes "module " ++ name

-- procedure, first site, second site, and the total calls of each site
abbrev pub pair_words : Pair → List ℕ
pair_words p =
    numbered (codes "pair ") p.proc
    ++ (numbered (codes " ") p.first ++ (numbered (codes " ") p.second ++ (numbered (codes " ") p.a ++ numbered (codes " ") p.b)))

-- the lines of a feedback, without their line feeds
abbrev pub feedback_lines : Feedback → List (List ℕ)
feedback_lines f = title_words ∷ least_words f.least ∷ module_words f.module ∷ map pair_words f.pairs

-- a line with its line feed
abbrev pub line : List ℕ → List ℕ
line words = words ++ 10 ∷ []

-- lines, each with its line feed
abbrev pub lines : List (List ℕ) → List ℕ
lines ls = flat_map line ls

abbrev pub feedback_text : Feedback → List ℕ
feedback_text f = lines (feedback_lines f)

-- a text spells a feedback: it is valid, and this is its text
pub record Spells (text : List ℕ) (f : Feedback) : Type 0 where
  pub valid : IsValid f
  pub is : text ≡ feedback_text f

-- ---- the line at which a text is at fault

-- no line feed
abbrev pub IsOneLine : List ℕ → Type 0
IsOneLine l = All (λ b. b ≡ 10 → ⊥) l

-- the text of some feedback begins with these lines
pub record Begins (ls : List (List ℕ)) : Type 0 where
  pub feedback : Feedback
  pub valid : IsValid feedback
  pub more : List (List ℕ)
  pub is : feedback_lines feedback ≡ ls ++ more

-- The line that follows these is cut off by the end of the text, or it isn't there and had to be: the first three are due.
pub record IsCutOff (before : List (List ℕ)) (rest : List ℕ) : Type 0 where
  pub unended : IsOneLine rest
  pub due : (0 < length rest) ⊎ (length before < 3)

-- The line that follows these isn't of its form, or breaks a rule: no text of a feedback goes on so.
pub record IsWrong (before : List (List ℕ)) (rest : List ℕ) : Type 0 where
  pub words : List ℕ
  pub after : List ℕ
  pub one : IsOneLine words
  pub is : rest ≡ line words ++ after
  pub wrong : Begins (before ++ words ∷ []) → ⊥

-- the first line that is at fault, counted from 1
pub record IsFaultAt (text : List ℕ) (number : ℕ) : Type 0 where
  pub before : List (List ℕ)
  pub rest : List ℕ
  pub is : text ≡ lines before ++ rest
  pub begins : Begins before
  pub count : number ≡ suc (length before)
  pub fault : IsCutOff before rest ⊎ IsWrong before rest
