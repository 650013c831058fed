-- The first faulty line of small texts.
use Rattle.std.proofs.Common.{◌≡◌, ℕ, suc, [], ◌∷◌, ◌++◌, List, replicate, None, Err, codes, drop, true, refl, arith}
use Rattle.std.specs.Fmt.{digits}
use Rattle.std.proofs.lemmas.List.{length-replicate}
use Rattle.std.proofs.lemmas.List.Elements.{All-from_recursion}
use Rattle.md_dynamic.specs.declared.link.LinkRow.{LinkRow}
use Rattle.md_dynamic.specs.Profile.{ProfileRows}
use Rattle.md_dump.specs.Due.{parts_of, read}
use Rattle.md_dump.specs.Lines.{profile_text}
use Rattle.law_faults.specs.Lines.{Title, Finished, Keeps, laid, lines}
use Rattle.law_faults.specs.Fault.{AreFew, Begins, IsFirstFaulty}
use Rattle.law_faults.proofs.First.{faulty_first}

abbrev root : LinkRow
root = record { caller = None; site = None; callee = 0; own = record { calls = 1; exits = 1; fails = 0; redos = 0; allocs = 0; words = 0; excps = 0 } }

-- a program of one module t, whose main/2 calls nothing
abbrev one : ProfileRows
one = record {
  statics = record { modules = codes "t" ∷ []; procs = record { «module» = 0; name = codes "main"; arity = 2 } ∷ []; sites = [] };
  nodes = 0 ∷ [];
  links = root ∷ [];
  finished = true;
}

abbrev one_text : List ℕ
one_text = codes "mdprof dump 2\nfinished yes\nmodules 1\nt\nprocs 1\n0 main 2\nsites 0\ncontexts 1\n0\nlinks 1\n- - 0 1 1 0 0 0 0 0\n"

one_laid : laid (lines one) ≡ one_text
unfolding digits
one_laid = refl

-- rows that keep no rule of their lists, but whose first two lines are fine
abbrev nothing : ProfileRows
nothing = record { statics = record { modules = []; procs = []; sites = [] }; nodes = []; links = []; finished = true }

two_lines : Begins (codes "mdprof dump 2\nfinished yes\nmodules 0\n") nothing (Title ∷ Finished true ∷ []) (drop 2 (lines nothing)) (codes "modules 0\n")
two_lines = record {
  few = record { modules = omega arith; procs = omega arith; sites = omega arith; contexts = omega arith; links = omega arith };
  are = refl;
  keep = All-from_recursion Keeps (Title ∷ Finished true ∷ []) (tt, (tt, tt));
  text_is = refl;
}

-- what the definition says of texts, by what is read
abbrev at_fault : List ℕ → ℕ → Type 0
at_fault text n = read profile_text 0 (parts_of text) ≡ Err n

says : (text : List ℕ) (n : ℕ) → at_fault text n → IsFirstFaulty text n
says text n is = (faulty_first text n).0 is

-- refuses a rule by which no line is at fault where there is none
no_text : IsFirstFaulty [] 1
no_text = says [] 1 refl

-- refuses a rule by which a list may be empty
no_module : IsFirstFaulty (codes "mdprof dump 2\nfinished yes\nmodules 0\n") 3
no_module = says (codes "mdprof dump 2\nfinished yes\nmodules 0\n") 3 refl

-- refuses a rule by which the last line needs no end
no_end : IsFirstFaulty (codes "mdprof dump 2\nfinished yes\nmodules 1\nt") 4
no_end = says (codes "mdprof dump 2\nfinished yes\nmodules 1\nt") 4 refl

-- refuses a rule that tells the first of two lines that are the same
module_twice : IsFirstFaulty (codes "mdprof dump 2\nfinished no\nmodules 2\nt\nt\n") 5
module_twice = says (codes "mdprof dump 2\nfinished no\nmodules 2\nt\nt\n") 5 refl

-- refuses a rule by which rows may be written in more ways than one
leading_zero : IsFirstFaulty (codes "mdprof dump 2\nfinished yes\nmodules 01\nt\n") 3
leading_zero = says (codes "mdprof dump 2\nfinished yes\nmodules 01\nt\n") 3 refl

-- refuses a rule by which bytes may follow the last line
more_bytes : IsFirstFaulty (one_text ++ codes "x") 12
more_bytes = says (one_text ++ codes "x") 12 refl

-- refuses a rule that tells an orphan at the end of the text, or at the number of contexts
orphan : IsFirstFaulty (codes "mdprof dump 2\nfinished yes\nmodules 1\nt\nprocs 1\n0 main 2\nsites 0\ncontexts 2\n0\n0\nlinks 1\n- - 0 1 1 0 0 0 0 0\n") 10
orphan = says (codes "mdprof dump 2\nfinished yes\nmodules 1\nt\nprocs 1\n0 main 2\nsites 0\ncontexts 2\n0\n0\nlinks 1\n- - 0 1 1 0 0 0 0 0\n") 10 refl

-- refuses a rule that looks for orphans before what stands behind the last line
past_before_orphan : IsFirstFaulty (codes "mdprof dump 2\nfinished yes\nmodules 1\nt\nprocs 1\n0 main 2\nsites 0\ncontexts 2\n0\n0\nlinks 1\n- - 0 1 1 0 0 0 0 0\nx\n") 13
past_before_orphan = says (codes "mdprof dump 2\nfinished yes\nmodules 1\nt\nprocs 1\n0 main 2\nsites 0\ncontexts 2\n0\n0\nlinks 1\n- - 0 1 1 0 0 0 0 0\nx\n") 13 refl

-- ---- how many there are

abbrev with_contexts : ℕ → ProfileRows
with_contexts n = record nothing { nodes = replicate n 0 }

-- refuses rules by which a list has fewer members than its number of 32 bits can say, or more
greatest_few : (n : ℕ) → n ≡ 4294967295 → AreFew (with_contexts n) × (AreFew (with_contexts (suc n)) → ⊥)
greatest_few n is =
    let none : ℕ = 0 in
    let size = length-replicate n none in (
      record { modules = omega arith; procs = omega arith; sites = omega arith; contexts = omega (arith, size, is); links = omega arith },
      λ few. absurd (let contexts = few.contexts in omega (arith, size, is, contexts)),
    )
