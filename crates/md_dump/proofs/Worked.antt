-- Texts of two small programs' profiles, computed, and the first line at fault of some that are changed.
use Rattle.std.proofs.Common.{◌≡◌, ℕ, [], ◌∷◌, ◌++◌, List, None, Some, Ok, Err, codes, true, refl}
use Rattle.std.specs.Fmt.{digits}
use Rattle.md_base.specs.declared.measure.Counts.{Counts}
use Rattle.md_static.specs.declared.entry.SiteKind.TheVariants.{Plain, HigherOrder}
use Rattle.md_dynamic.specs.declared.link.LinkRow.{LinkRow}
use Rattle.md_dynamic.specs.Profile.{ProfileRows}
use Rattle.md_dump.specs.Due.{parts_of, read}
use Rattle.md_dump.specs.Lines.{profile_text}
use Rattle.md_dump.specs.Sums.{sum_all}
use Rattle.md_dump.specs.Text.{dump_text}

-- so many calls, each of which had an exit
abbrev calls : ℕ → Counts
calls n = record { calls = n; exits = n; fails = 0; redos = 0; allocs = 0; words = 0; excps = 0 }

abbrev root : LinkRow
root = record { caller = None; site = None; callee = 0; own = calls 1 }

-- a program of one module t, whose main/2 calls nothing
abbrev one : ProfileRows
one = record {
  statics = record { modules = codes "t" ∷ []; procs = record { «module» = 0; name = codes "main"; arity = 2 } ∷ []; sites = [] };
  nodes = 0 ∷ [];
  links = root ∷ [];
  finished = true;
}

abbrev one_text : List ℕ
one_text = codes "mdprof dump 2\nfinished yes\nmodules 1\nt\nprocs 1\n0 main 2\nsites 0\ncontexts 1\n0\nlinks 1\n- - 0 1 1 0 0 0 0 0\n"

one_told : dump_text one ≡ one_text
unfolding digits
one_told = refl

one_read : read profile_text 0 (parts_of one_text) ≡ Ok one
one_read = refl

-- main calls count on line 3, and count a closure on line 50, which was count each of 30 times
abbrev link : ℕ → ℕ → ℕ → ℕ → LinkRow
link from site to n = record { caller = Some from; site = Some site; callee = to; own = calls n }

abbrev counting : ProfileRows
counting = record {
  statics = record {
    modules = codes "t" ∷ [];
    procs = record { «module» = 0; name = codes "main"; arity = 2 } ∷ record { «module» = 0; name = codes "count"; arity = 1 } ∷ [];
    sites = record { owner = 0; line = 3; kind = Plain 1 } ∷ record { owner = 1; line = 50; kind = HigherOrder } ∷ [];
  };
  nodes = 0 ∷ 1 ∷ [];
  links = root ∷ link 0 0 1 1 ∷ link 1 1 1 30 ∷ [];
  finished = true;
}

-- the text before its contexts, and its links
abbrev front : List ℕ
front = codes "mdprof dump 2\nfinished yes\nmodules 1\nt\nprocs 2\n0 main 2\n0 count 1\nsites 2\n0 3 1\n1 50 -\n"

abbrev links : List ℕ
links = codes "links 3\n- - 0 1 1 0 0 0 0 0\n0 0 1 1 1 0 0 0 0 0\n1 1 1 30 30 0 0 0 0 0\n"

counting_told : dump_text counting ≡ front ++ (codes "contexts 2\n0\n1\n" ++ links)
unfolding digits
counting_told = refl

counting_read : read profile_text 0 (parts_of (front ++ (codes "contexts 2\n0\n1\n" ++ links))) ≡ Ok counting
counting_read = refl

abbrev fault_of : List ℕ → ℕ → Type 0
fault_of text n = read profile_text 0 (parts_of text) ≡ Err n

-- a line more, no end of the last line, no text, and an end behind the title
more_lines : fault_of (one_text ++ codes "x\n") 12
more_lines = refl

more_bytes : fault_of (one_text ++ codes "x") 12
more_bytes = refl

no_end : fault_of (codes "mdprof dump 2\nfinished yes\nmodules 1\nt\nprocs 1\n0 main 2\nsites 0\ncontexts 1\n0\nlinks 1\n- - 0 1 1 0 0 0 0 0") 11
no_end = refl

no_text : fault_of [] 1
no_text = refl

title_alone : fault_of (codes "mdprof dump 2\n") 2
title_alone = refl

title_open : fault_of (codes "mdprof dump 2") 1
title_open = refl

-- forms: another version, a leading zero, a second space, a word more, a sign, an arity of 9 bits, a number of 33 bits
other_version : fault_of (codes "mdprof dump 1\nfinished yes\n") 1
other_version = refl

leading_zero : fault_of (codes "mdprof dump 2\nfinished yes\nmodules 01\nt\n") 3
leading_zero = refl

second_space : fault_of (codes "mdprof dump 2\nfinished yes\nmodules  1\nt\n") 3
second_space = refl

more_words : fault_of (codes "mdprof dump 2\nfinished yes\nmodules 1 \nt\n") 3
more_words = refl

great_arity : fault_of (codes "mdprof dump 2\nfinished no\nmodules 1\nt\nprocs 1\n0 main 256\n") 6
great_arity = refl

great_number : fault_of (codes "mdprof dump 2\nfinished no\nmodules 4294967296\nt\n") 3
great_number = refl

-- rules: no module, a module twice, a procedure twice, a module that isn't there, owners that fall, line 0, a callee that isn't there
no_module : fault_of (codes "mdprof dump 2\nfinished no\nmodules 0\n") 3
no_module = refl

module_twice : fault_of (codes "mdprof dump 2\nfinished no\nmodules 2\nt\nt\n") 5
module_twice = refl

proc_twice : fault_of (codes "mdprof dump 2\nfinished no\nmodules 1\nt\nprocs 2\n0 main 2\n0 main 3\n") 7
proc_twice = refl

far_module : fault_of (codes "mdprof dump 2\nfinished no\nmodules 1\nt\nprocs 2\n1 main 2\n") 6
far_module = refl

owners_fall : fault_of (codes "mdprof dump 2\nfinished no\nmodules 1\nt\nprocs 2\n0 main 2\n0 count 1\nsites 2\n1 5 1\n0 3 1\n") 10
owners_fall = refl

line_zero : fault_of (codes "mdprof dump 2\nfinished no\nmodules 1\nt\nprocs 1\n0 main 2\nsites 1\n0 0 0\n") 8
line_zero = refl

far_callee : fault_of (codes "mdprof dump 2\nfinished no\nmodules 1\nt\nprocs 1\n0 main 2\nsites 1\n0 3 4294967295\n") 8
far_callee = refl

-- links: a site of another procedure, a link twice, and a context that none of a lower number reaches, which is told last
mismatch : fault_of (front ++ codes "contexts 2\n0\n1\nlinks 2\n- - 0 1 1 0 0 0 0 0\n0 1 1 1 1 0 0 0 0 0\n") 16
mismatch = refl

link_twice : fault_of (front ++ codes "contexts 2\n0\n1\nlinks 3\n- - 0 1 1 0 0 0 0 0\n0 0 1 1 1 0 0 0 0 0\n0 0 1 1 1 0 0 0 0 0\n") 17
link_twice = refl

second_root : fault_of (front ++ codes "contexts 2\n0\n1\nlinks 3\n- - 0 1 1 0 0 0 0 0\n- - 0 1 1 0 0 0 0 0\n") 16
second_root = refl

orphan : fault_of (front ++ (codes "contexts 4\n0\n1\n1\n1\n" ++ links)) 14
orphan = refl

orphan_later : fault_of (front ++ (codes "contexts 4\n0\n1\n1\n1\n" ++ (links ++ codes "x\n"))) 20
orphan_later = refl

-- sums of numbers that are all there
three_files : sum_all (Some 2 ∷ Some 3 ∷ Some 4 ∷ []) ≡ Some 9
three_files = refl

none_of_three : sum_all (Some 2 ∷ None ∷ Some 4 ∷ []) ≡ None
none_of_three = refl
