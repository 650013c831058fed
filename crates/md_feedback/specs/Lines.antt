-- What stands at the front of a text.
use Rattle.std.specs.Prelude.{ℕ, ◌≡◌, ◌⊎◌, ◌+◌, ◌<◌, ◌^◌, false, List, [], ◌∷◌, ◌++◌, length, slice_index, decimal, IsTrue}
use Rattle.std.specs.Char.{is_ascii_digit}
use Rattle.md_static.specs.Names.{is_name}
use Rattle.md_feedback.specs.declared.fault.FeedFault.{FeedFault}
use Rattle.md_feedback.specs.declared.fault.FeedFault.TheVariants.{Line, NoMemory}
use Rattle.md_feedback.specs.declared.pairs.Pair.{Pair}
use Rattle.md_feedback.specs.declared.pairs.Feedback.{Feedback}
use Rattle.md_feedback.specs.Text.{IsLeast, IsValidPair, AreValidPairs, IsOneLine, Rise, title_words, least_words, module_words, pair_words, line, lines}

-- the lines of a feedback before those of its pairs, with their line feeds
abbrev pub head_text : Feedback → List ℕ
head_text f = lines (title_words ∷ least_words f.least ∷ module_words f.module ∷ [])

-- a text begins with words and a number behind them, as it is written in decimal, and no further digit; the rest follows
pub record IsNumberAfter (words text : List ℕ) (n : ℕ) (rest : List ℕ) : Type 0 where
  pub small : n < 2 ^ 64
  pub is : text ≡ words ++ (decimal n ++ rest)
  pub ends : is_ascii_digit (slice_index rest 0) ≡ false

-- what a line may have to be
abbrev pub IsLeastLine : ℕ → List ℕ → Type 0
IsLeastLine k words = IsLeast k × (words ≡ least_words k)

abbrev pub IsModuleLine : List ℕ → List ℕ → Type 0
IsModuleLine name words = IsTrue (is_name name) × (words ≡ module_words name)

abbrev pub IsPairLine : Pair → List ℕ → Type 0
IsPairLine p words = IsValidPair p × (words ≡ pair_words p)

-- the line of a least share, or of a module, at the front of a text, and the rest of it
abbrev pub BeginsWithLeast : ℕ → (text after : List ℕ) → Type 0
BeginsWithLeast k text after = IsLeast k × (text ≡ line (least_words k) ++ after)

abbrev pub BeginsWithModule : List ℕ → (text after : List ℕ) → Type 0
BeginsWithModule name text after = IsTrue (is_name name) × (text ≡ line (module_words name) ++ after)

-- pairs, each in a line
abbrev pub pair_lines : List Pair → List ℕ
pair_lines [] = []
pair_lines (p ∷ ps) = line (pair_words p) ++ pair_lines ps

-- no line with this property stands at the front: the first line has no line feed, or is another
pub record IsOther (P : List ℕ → Type 0) (text : List ℕ) : Type 0 where
  pub words : List ℕ
  pub after : List ℕ
  pub one : IsOneLine words
  pub is : text ≡ line words ++ after
  pub wrong : P words → ⊥

abbrev pub HasNo : (List ℕ → Type 0) → List ℕ → Type 0
HasNo P text = IsOneLine text ⊎ IsOther P text

abbrev pub IsTitle : List ℕ → Type 0
IsTitle words = words ≡ title_words

abbrev pub GivesLeast : List ℕ → Type 0
GivesLeast words = (k : ℕ) × IsLeastLine k words

abbrev pub GivesModule : List ℕ → Type 0
GivesModule words = (name : List ℕ) × IsModuleLine name words

-- the line of a pair that may follow these
abbrev pub GivesPairAfter : List Pair → List ℕ → Type 0
GivesPairAfter ps words = (p : Pair) × IsPairLine p words × Rise (ps ++ p ∷ [])

-- the line of a fault, where it is one
abbrev pub IfLine : FeedFault → (ℕ → Type 0) → Type 0
IfLine (Line k) P = P k
IfLine NoMemory P = Unit {0}

-- behind the first three lines: pairs, and then the line with this number at fault
pub record IsPairFault (text : List ℕ) (number : ℕ) : Type 0 where
  pub before : List Pair
  pub rest : List ℕ
  pub valid : AreValidPairs before
  pub is : text ≡ pair_lines before ++ rest
  pub count : number ≡ 4 + length before
  pub some : 0 < length rest
  pub fault : HasNo (GivesPairAfter before) rest
