-- The form of each line, word by word.
use Rattle.std.specs.Prelude.{ℕ, zero, suc, ◌==◌, List, [], ◌∷◌, ◌++◌, codes, Option, None, Some, option_map, option_and_then, if◌then◌else◌}
use Rattle.std.specs.List.{slice_split}
use Rattle.std.specs.Str.{bytes_eq}
use Rattle.md_base.specs.declared.measure.Counts.{Counts}
use Rattle.md_static.specs.declared.entry.Proc.{Proc}
use Rattle.md_deepfile.specs.Rules.{proc_of, counts_of}
use Rattle.md_dump.specs.Numbers.{number_up_to}
use Rattle.md_dump.specs.Text.{Words, dash}
use Rattle.md_dump.specs.declared.form.LinkLine.{LinkLine}
use Rattle.md_dump.specs.declared.form.SiteLine.{SiteLine}

-- what stands between the spaces of a line
abbrev pub words_of : List ℕ → Words
words_of line = slice_split (λ b. b == 32) line

-- what a word says, and the words behind it
abbrev pub told : {X : Type 0} → Words → Option X → Option (X × Words)
told ws None = None
told ws (Some x) = Some (x, ws)

-- a number up to the greatest
abbrev pub first_number : ℕ → Words → Option (ℕ × Words)
first_number most [] = None
first_number most (w ∷ ws) = told ws (number_up_to most w)

-- a number, or none for `-`
abbrev pub maybe_number : List ℕ → Option (Option ℕ)
maybe_number w = if bytes_eq w dash then Some None else option_map (λ n. Some n) (number_up_to 4294967295 w)

abbrev pub first_maybe : Words → Option (Option ℕ × Words)
first_maybe [] = None
first_maybe (w ∷ ws) = told ws (maybe_number w)

-- the words behind this very one
abbrev pub behind : List ℕ → Words → Option Words
behind name [] = None
behind name (w ∷ ws) = if bytes_eq w name then Some ws else None

module _ {X : Type 0} where
  abbrev pub on : {A : Type 0} → (A → Words → Option X) → Option (A × Words) → Option X
  on next None = None
  on next (Some t) = next t.0 t.1

  -- this very word, and what is told behind it
  abbrev pub exactly : List ℕ → (Words → Option X) → Words → Option X
  exactly name next ws = option_and_then next (behind name ws)

  -- any word
  abbrev pub word : (List ℕ → Words → Option X) → Words → Option X
  word next [] = None
  word next (w ∷ ws) = next w ws

  abbrev pub number : (ℕ → Words → Option X) → Words → Option X
  number next ws = on next (first_number 4294967295 ws)

  abbrev pub arity : (ℕ → Words → Option X) → Words → Option X
  arity next ws = on next (first_number 255 ws)

  abbrev pub maybe : (Option ℕ → Words → Option X) → Words → Option X
  maybe next ws = on next (first_maybe ws)

  -- no more words
  abbrev pub ended : X → Words → Option X
  ended x [] = Some x
  ended x (w ∷ ws) = None

-- so many numbers more behind those that came
abbrev pub numbers : {X : Type 0} → ℕ → List ℕ → (List ℕ → Words → Option X) → Words → Option X
numbers zero front next ws = next front ws
numbers (suc n) front next ws = number (λ m. numbers n (front ++ m ∷ []) next) ws

-- seven counts
abbrev pub first_counts : Words → Option (Counts × Words)
first_counts = numbers 7 [] (λ ns ws. Some (counts_of ns, ws))

abbrev pub counts : {X : Type 0} → (Counts → Words → Option X) → Words → Option X
counts next ws = on next (first_counts ws)

-- the name of a list, and how many of it there are
abbrev pub count_form : List ℕ → Words → Option ℕ
count_form name = exactly name (number ended)

-- module, name, arity
abbrev pub proc_form : Words → Option Proc
proc_form = number (λ home. word (λ name. arity (λ n. ended (proc_of home name n))))

-- owner, line, callee
abbrev pub site_form : Words → Option SiteLine
site_form = number (λ owner. number (λ at. maybe (λ callee. ended (record { owner = owner; line = at; callee = callee }))))

-- the procedure
abbrev pub context_form : Words → Option ℕ
context_form = number ended

-- no caller, no site, context 0, and the counts
abbrev pub root_form : Words → Option Counts
root_form = exactly dash (exactly dash (exactly (codes "0") (counts ended)))

-- caller, site, callee, and the counts
abbrev pub link_form : Words → Option LinkLine
link_form = number (λ caller. number (λ site. number (λ callee. counts (λ own. ended (record { caller = caller; site = site; callee = callee; own = own })))))
