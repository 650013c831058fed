-- The files of two small programs, computed, and the damage of some that are changed.
use Rattle.std.proofs.Common.{ℕ, ◌≡◌, ◌++◌, List, [], ◌∷◌, take, Some, None, Ok, true, refl}
use Rattle.md_base.specs.declared.measure.Counts.{Counts}
use Rattle.md_static.specs.declared.entry.Proc.{Proc}
use Rattle.md_static.specs.declared.entry.Site.{Site}
use Rattle.md_static.specs.declared.entry.SiteKind.TheVariants.{Plain, HigherOrder}
use Rattle.md_dynamic.specs.declared.link.LinkRow.{LinkRow}
use Rattle.md_dynamic.specs.Profile.{ProfileRows}
use Rattle.md_deepfile.specs.Bytes.{u32, magic, file_bytes, file_bytes1}
use Rattle.md_deepfile.specs.Fields.{profile_file}
use Rattle.md_deepfile.specs.Format.{read, damage}
use Rattle.md_deepfile.specs.declared.damage.Kind.TheVariants.{Magic, Short, Trailing, Range, Text, SiteMismatch, DoubleLink, Orphan, Flag}

-- so many calls, each of which had an exit
abbrev calls : ℕ → Counts
calls n = record { calls = n; exits = n; fails = 0; redos = 0; allocs = 0; words = 0; excps = 0 }

-- main/2
abbrev main : Proc
main = record { «module» = 0; name = 109 ∷ 97 ∷ 105 ∷ 110 ∷ []; arity = 2 }

-- count/1
abbrev count : Proc
count = record { «module» = 0; name = 99 ∷ 111 ∷ 117 ∷ 110 ∷ 116 ∷ []; arity = 1 }

abbrev root : LinkRow
root = record { caller = None; site = None; callee = 0; own = calls 1 }

abbrev link : ℕ → ℕ → ℕ → ℕ → LinkRow
link from site to n = record { caller = Some from; site = Some site; callee = to; own = calls n }

-- a program of one module t, whose main calls nothing
abbrev one : ProfileRows
one = record { statics = record { modules = (116 ∷ []) ∷ []; procs = main ∷ []; sites = [] }; nodes = 0 ∷ []; links = root ∷ []; finished = true }

-- main calls count on line 3, and count calls itself on line 5, three times
abbrev at_line : ℕ → ℕ → Site
at_line owner line = record { owner = owner; line = line; kind = Plain 1 }

abbrev counting : ProfileRows
counting = record {
  statics = record { modules = (116 ∷ []) ∷ []; procs = main ∷ count ∷ []; sites = at_line 0 3 ∷ at_line 1 5 ∷ [] };
  nodes = 0 ∷ 1 ∷ [];
  links = root ∷ link 0 0 1 1 ∷ link 1 1 1 3 ∷ [];
  finished = true;
}

abbrev w : ℕ → List ℕ
w n = n ∷ 0 ∷ 0 ∷ 0 ∷ []

abbrev no_number : List ℕ
no_number = 255 ∷ 255 ∷ 255 ∷ 255 ∷ []

-- the file of the first, in version 1: 81 bytes
abbrev one_file : List ℕ
one_file = (77 ∷ 68 ∷ 80 ∷ 82 ∷ 79 ∷ 70 ∷ 48 ∷ 49 ∷ 1 ∷ []) ++ ((w 1 ++ 1 ∷ 116 ∷ []) ++ ((w 1 ++ (w 0 ++ 4 ∷ 109 ∷ 97 ∷ 105 ∷ 110 ∷ 2 ∷ [])) ++ (w 0 ++ ((w 1 ++ w 0)
    ++ (w 1 ++ (no_number ++ (no_number ++ (w 0 ++ (w 1 ++ (w 1 ++ (w 0 ++ (w 0 ++ (w 0 ++ w 0)))))))))))))

one_written : file_bytes1 one ≡ one_file
unfolding u32
one_written = refl

one_read : read profile_file 0 one_file ≡ Ok one
one_read = refl

-- in version 2 each link has one count more, and the file 85 bytes
one_read_in_version_2 : read profile_file 0 (file_bytes one) ≡ Ok one
unfolding u32
one_read_in_version_2 = refl

counting_read : read profile_file 0 (file_bytes1 counting) ≡ Ok counting
unfolding u32
counting_read = refl

counting_read_in_version_2 : read profile_file 0 (file_bytes counting) ≡ Ok counting
unfolding u32
counting_read_in_version_2 = refl

cut : read profile_file 0 (take 80 one_file) ≡ damage 80 Short
cut = refl

another_byte : read profile_file 0 (one_file ++ 0 ∷ []) ≡ damage 81 Trailing
another_byte = refl

no_version : read profile_file 0 (magic ++ 51 ∷ []) ≡ damage 7 Magic
no_version = refl

-- a file of version 1 isn't one of version 2
too_short : read profile_file 0 (magic ++ 50 ∷ (1 ∷ []) ++ (w 1 ++ (1 ∷ 116 ∷ []))) ≡ damage 15 Short
too_short = refl

a_flag_of_two : read profile_file 0 (magic ++ 49 ∷ 2 ∷ []) ≡ damage 8 Flag
a_flag_of_two = refl

no_name : read profile_file 0 (magic ++ 49 ∷ 1 ∷ (w 1 ++ (1 ∷ 84 ∷ []))) ≡ damage 13 Text
no_name = refl

-- a second context that nothing leads to, and a link that is there twice
abbrev with_orphan : ProfileRows
with_orphan = record one { nodes = 0 ∷ 0 ∷ [] }

orphan : read profile_file 0 (file_bytes1 with_orphan) ≡ damage 41 Orphan
unfolding u32
orphan = refl

double : read profile_file 0 (file_bytes1 (record counting { links = root ∷ link 0 0 1 1 ∷ link 0 0 1 3 ∷ [] })) ≡ damage 156 DoubleLink
unfolding u32
double = refl

mismatch : read profile_file 0 (file_bytes1 (record counting { links = root ∷ link 0 0 1 1 ∷ link 1 0 1 3 ∷ [] })) ≡ damage 156 SiteMismatch
unfolding u32
mismatch = refl

-- ---- the magic, byte by byte

-- refuses a rule that tells each wrong magic at byte 0, or at the version
another_fifth_byte : read profile_file 0 (take 4 magic ++ 0 ∷ 70 ∷ 48 ∷ 49 ∷ []) ≡ damage 4 Magic
another_fifth_byte = refl

-- refuses a rule by which one byte is a file that is cut off, whichever it is
another_first_byte : read profile_file 0 (78 ∷ []) ≡ damage 0 Magic
another_first_byte = refl

-- refuses a rule by which the magic has to be whole before a byte of it is looked at: that is `Short` at 2
wrong_before_its_end : read profile_file 0 (77 ∷ 0 ∷ []) ≡ damage 1 Magic
wrong_before_its_end = refl

-- refuses a rule by which a front of the magic is another file
front_of_the_magic : read profile_file 0 (take 3 magic) ≡ damage 3 Short
front_of_the_magic = refl

-- refuses a rule by which no bytes at all are an empty profile, or no file
nothing_at_all : read profile_file 0 [] ≡ damage 0 Short
nothing_at_all = refl

-- ---- numbers out of range, each at its field

-- refuses a rule by which a list may be empty, and goes on behind its count: that is `Short` at 13
no_modules : read profile_file 0 (magic ++ 49 ∷ 1 ∷ w 0) ≡ damage 9 Range
no_modules = refl

-- refuses a rule by which a program may have modules alone
no_procs : read profile_file 0 (magic ++ 49 ∷ 1 ∷ (w 1 ++ (1 ∷ 116 ∷ []) ++ w 0)) ≡ damage 15 Range
no_procs = refl

-- refuses a rule by which a run may have no context, as its main has
no_contexts : read profile_file 0 (file_bytes1 (record one { nodes = [] })) ≡ damage 33 Range
unfolding u32
no_contexts = refl

-- refuses a rule by which no link needs to lead to the first context
no_links : read profile_file 0 (file_bytes1 (record one { links = [] })) ≡ damage 41 Range
unfolding u32
no_links = refl

-- refuses a rule that takes a number as great as the length of the list
module_past_the_last : read profile_file 0 (file_bytes1 (record one { statics = record one.statics { procs = record main { «module» = 1 } ∷ [] } })) ≡ damage 19 Range
unfolding u32
module_past_the_last = refl

abbrev with_sites : List Site → ProfileRows
with_sites sites = record counting { statics = record counting.statics { sites = sites } }

-- refuses a rule by which a site may belong to a procedure that isn't there
owner_past_the_last : read profile_file 0 (file_bytes1 (with_sites (at_line 2 3 ∷ []))) ≡ damage 44 Range
unfolding u32
owner_past_the_last = refl

-- refuses a rule that looks only whether the owner is there
owner_before_the_last_owner : read profile_file 0 (file_bytes1 (with_sites (at_line 1 3 ∷ at_line 0 5 ∷ []))) ≡ damage 56 Range
unfolding u32
owner_before_the_last_owner = refl

-- refuses a rule by which lines are counted from 0
line_zero : read profile_file 0 (file_bytes1 (with_sites (at_line 0 0 ∷ []))) ≡ damage 48 Range
unfolding u32
line_zero = refl

-- refuses a rule by which any number past the last stands for no callee
callee_past_the_last : read profile_file 0 (file_bytes1 (with_sites (record (at_line 0 3) { kind = Plain 2 } ∷ []))) ≡ damage 52 Range
unfolding u32
callee_past_the_last = refl

-- refuses a rule by which a site's callee has to be there even where it has none
abbrev higher_order : ProfileRows
higher_order = with_sites (at_line 0 3 ∷ record (at_line 1 5) { kind = HigherOrder } ∷ [])

no_callee_is_no_number : read profile_file 0 (file_bytes1 higher_order) ≡ Ok higher_order
unfolding u32
no_callee_is_no_number = refl

-- refuses a rule by which a context's procedure is looked at once a link leads there
context_of_no_proc : read profile_file 0 (file_bytes1 (record one { nodes = 1 ∷ [] })) ≡ damage 37 Range
unfolding u32
context_of_no_proc = refl

-- refuses a rule by which the first link may start at a context
root_with_a_caller : read profile_file 0 (file_bytes1 (record counting { links = record root { caller = Some 0 } ∷ [] })) ≡ damage 84 Range
unfolding u32
root_with_a_caller = refl

-- refuses a rule that looks at the caller of the first link alone
root_with_a_site : read profile_file 0 (file_bytes1 (record counting { links = record root { site = Some 0 } ∷ [] })) ≡ damage 88 Range
unfolding u32
root_with_a_site = refl

-- refuses a rule by which it may lead to any context that is there
root_to_another_context : read profile_file 0 (file_bytes1 (record counting { links = record root { callee = 1 } ∷ [] })) ≡ damage 92 Range
unfolding u32
root_to_another_context = refl

-- refuses a rule by which another link may be like the first
second_root : read profile_file 0 (file_bytes1 (record counting { links = root ∷ root ∷ [] })) ≡ damage 120 Range
unfolding u32
second_root = refl

-- refuses a rule by which a caller may be as great as the number of contexts
caller_past_the_last : read profile_file 0 (file_bytes1 (record counting { links = root ∷ link 2 0 1 1 ∷ [] })) ≡ damage 120 Range
unfolding u32
caller_past_the_last = refl

-- refuses a rule by which a site may be as great as the number of sites
site_past_the_last : read profile_file 0 (file_bytes1 (record counting { links = root ∷ link 0 2 1 1 ∷ [] })) ≡ damage 124 Range
unfolding u32
site_past_the_last = refl

-- refuses a rule that tells a callee at its link, and not at its field
link_to_no_context : read profile_file 0 (file_bytes1 (record counting { links = root ∷ link 0 0 2 1 ∷ [] })) ≡ damage 128 Range
unfolding u32
link_to_no_context = refl

-- ---- two rules broken at once: the first in the order of the file is told

-- refuses a rule that looks at the last field of a link first
caller_before_callee : read profile_file 0 (file_bytes1 (record counting { links = root ∷ link 2 2 2 1 ∷ [] })) ≡ damage 120 Range
unfolding u32
caller_before_callee = refl

-- refuses a rule that looks whether a link fits before its callee is known to be there: that is `SiteMismatch` at 120
range_before_mismatch : read profile_file 0 (file_bytes1 (record counting { links = root ∷ link 1 0 2 1 ∷ [] })) ≡ damage 128 Range
unfolding u32
range_before_mismatch = refl

-- refuses a rule that looks at names before numbers: that is `Text` at 23
module_before_name : read profile_file 0 (file_bytes1 (record one { statics = record one.statics { procs = record main { «module» = 1; name = 77 ∷ [] } ∷ [] } })) ≡ damage 19 Range
unfolding u32
module_before_name = refl

-- refuses a rule by which a wrong link is told once its bytes are known to be all: that is `Short` at 136
wrong_caller_of_a_cut_link : read profile_file 0 (take 136 (file_bytes1 (record counting { links = root ∷ link 2 0 1 1 ∷ [] }))) ≡ damage 120 Range
unfolding u32
wrong_caller_of_a_cut_link = refl

-- refuses a rule by which a link is judged before its last count came: that is `SiteMismatch` at 120
cut_before_mismatch : read profile_file 0 (take 152 (file_bytes1 (record counting { links = root ∷ link 1 0 1 1 ∷ [] }))) ≡ damage 152 Short
unfolding u32
cut_before_mismatch = refl

-- refuses a rule that looks for orphans before what stands behind the last link
trailing_before_orphan : read profile_file 0 (file_bytes1 with_orphan ++ 0 ∷ []) ≡ damage 85 Trailing
unfolding u32
trailing_before_orphan = refl

-- refuses a rule that looks for them behind the contexts, or as the links come
cut_before_orphan : read profile_file 0 (take 84 (file_bytes1 with_orphan)) ≡ damage 84 Short
unfolding u32
cut_before_orphan = refl

-- refuses a rule that looks for them before the links are judged
double_before_orphan : read profile_file 0 (file_bytes1 (record counting { nodes = 0 ∷ 1 ∷ 0 ∷ []; links = root ∷ link 0 0 1 1 ∷ link 0 0 1 3 ∷ [] })) ≡ damage 160 DoubleLink
unfolding u32
double_before_orphan = refl

-- refuses a rule that tells the last of two orphans
lowest_of_two_orphans : read profile_file 0 (file_bytes1 (record one { nodes = 0 ∷ 0 ∷ 0 ∷ [] })) ≡ damage 41 Orphan
unfolding u32
lowest_of_two_orphans = refl
