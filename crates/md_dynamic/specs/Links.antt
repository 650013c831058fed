-- Rows of links.
use Rattle.std.specs.Prelude.{ℕ, suc, Bool, List, [], ◌∷◌, Option, Some, None, if◌then◌else◌}
use Rattle.md_base.specs.declared.measure.Counts.{Counts}
use Rattle.md_dynamic.specs.declared.link.LinkRow.{LinkRow}

-- counts of which only the calls are not 0
abbrev pub only_calls : ℕ → Counts
only_calls n = record { calls = n; exits = 0; fails = 0; redos = 0; allocs = 0; words = 0; excps = 0 }

-- a link of a site in a context, with that many calls
abbrev pub link_row : ℕ → ℕ → ℕ → ℕ → LinkRow
link_row node site to calls = record { caller = Some node; site = Some site; callee = to; own = only_calls calls }

-- the root link before the run
abbrev pub root_row : LinkRow
root_row = record { caller = None; site = None; callee = 0; own = only_calls 0 }

-- the number of the first link that passes the test, counted from n
abbrev pub number_from : (LinkRow → Bool) → ℕ → List LinkRow → Option ℕ
number_from test n [] = None
number_from test n (l ∷ ls) = if test l then Some n else number_from test (suc n) ls

abbrev pub number_of : (LinkRow → Bool) → List LinkRow → Option ℕ
number_of test ls = number_from test 0 ls
