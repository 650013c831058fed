-- The definitions, computed on the histories of thirteen small programs. Each history is written from its first event.
--
--   count   main calls count, which calls itself three times
--   order1  x calls n or r, r calls x, n calls r: r is active when n first calls it
--   order2  the same procedures, and n calls r before r is active
--   ho      drive calls one of two closures, and itself with the closures exchanged
--   loop    loop calls a closure of itself
--   none    a search through a list in a negation, with redos
--   some    the same search, cut at its first solution
--   even    even and odd call each other
--   mods    a chain of calls from module t to a, b and a again
--   err     f calls itself until it throws, and nobody catches
--   boom    main throws while a solution of pick is kept
--   gen     three procedures below main, each of which but the last calls the next one twice
--   inner   order2, where r at last calls itself: two of its callers are of r, in two contexts
use Rattle.std.proofs.Common.{ℕ, ◌≡◌, true, false, List, [], ◌∷◌, Some, None, map, refl, reverse, rules}
use Rattle.md_base.specs.declared.measure.Measure.{Measure}
use Rattle.md_base.specs.declared.measure.Measure.TheVariants.{Calls, Exits, Fails, Redos, Allocs, Words, Excps}
use Rattle.md_trace.specs.declared.event.Event.{Event}
use Rattle.md_trace.specs.declared.event.Event.TheVariants.{Call, Exit, Redo, Fail, Excp, Alloc}
use Rattle.md_trace.specs.Balance.{last_port, IsEven}
use Rattle.md_trace.specs.PortHistory.{SiteTable, MayFollow, IsPortHistory, current}
use Rattle.md_trace.specs.Context.{placed_of, contexts, has_link}
use Rattle.md_trace.specs.Links.{Leading, links, root_link}
use Rattle.md_trace.specs.Count.{set_counts}
use Rattle.md_trace.specs.Totals.{own, in_context, in_procedure, at_site, in_module, link_total, clique_total, context_total, procedure_total, site_total, module_total}

-- a call by an activation at a site
abbrev called : ℕ → ℕ → ℕ → ℕ → Event
called a p s q = Call a (Some p) (Some s) q

-- main's call
abbrev started : Event
started = Call 0 None None 0

-- from its first event
abbrev told : List Event → List Event
told es = reverse es

-- a link, with its end
abbrev from : ℕ → ℕ → ℕ → ℕ → Leading
from c s q to = record { link = record { caller = Some c; site = Some s; procedure = q }; to = to }

abbrev from_nowhere : Leading
from_nowhere = record { link = root_link 0; to = 0 }

abbrev pub all_links : List Event → List Leading
all_links h = links 0 (placed_of 0 h)

abbrev all_contexts : List Event → List ℕ
all_contexts h = contexts 0 (placed_of 0 h)

-- the seven counts, in the order in which they are always written
abbrev seven : (Measure → ℕ) → List ℕ
seven f = f Calls ∷ f Exits ∷ f Fails ∷ f Redos ∷ f Allocs ∷ f Words ∷ f Excps ∷ []

-- the own counts of each link
abbrev own_of_links : List Event → List (List ℕ)
own_of_links h = map (λ (l : Leading). seven (own 0 h (has_link l.link))) (all_links h)

abbrev pub count : List Event
count = told (started ∷ called 1 0 0 1 ∷ called 2 1 1 1 ∷ called 3 2 1 1 ∷ called 4 3 1 1 ∷ Exit 4 ∷ Exit 3 ∷ Exit 2 ∷ Exit 1 ∷ Exit 0 ∷ [])

abbrev pub count_table : SiteTable
count_table = record { main = 0; procedures = 2; sites = record { owner = 0; callee = Some 1 } ∷ record { owner = 1; callee = Some 1 } ∷ [] }

count_is_history : IsPortHistory count_table count
count_is_history = search rules

count_contexts : all_contexts count ≡ 0 ∷ 1 ∷ []
count_contexts = refl

count_links : all_links count ≡ from_nowhere ∷ from 0 0 1 1 ∷ from 1 1 1 1 ∷ []
count_links = refl

count_own : own_of_links count ≡ (1 ∷ 1 ∷ 0 ∷ 0 ∷ 0 ∷ 0 ∷ 0 ∷ []) ∷ (1 ∷ 1 ∷ 0 ∷ 0 ∷ 0 ∷ 0 ∷ 0 ∷ []) ∷ (3 ∷ 3 ∷ 0 ∷ 0 ∷ 0 ∷ 0 ∷ 0 ∷ []) ∷ []
count_own = refl

abbrev pub order1 : List Event
order1 = told (started ∷ called 1 0 0 1 ∷ called 2 1 2 2 ∷ called 3 2 3 1 ∷ called 4 3 1 3 ∷ called 5 4 4 2 ∷ Exit 5 ∷ Exit 4 ∷ Exit 3 ∷ Exit 2 ∷ Exit 1 ∷ Exit 0 ∷ [])

abbrev pub order1_table : SiteTable
order1_table = record { main = 0; procedures = 4; sites = record { owner = 0; callee = Some 1 } ∷ record { owner = 1; callee = Some 3 } ∷ record { owner = 1; callee = Some 2 } ∷ record { owner = 2; callee = Some 1 } ∷ record { owner = 3; callee = Some 2 } ∷ [] }

order1_is_history : IsPortHistory order1_table order1
order1_is_history = search rules

order1_contexts : all_contexts order1 ≡ 0 ∷ 1 ∷ 2 ∷ 3 ∷ []
order1_contexts = refl

order1_links : all_links order1 ≡ from_nowhere ∷ from 0 0 1 1 ∷ from 1 2 2 2 ∷ from 2 3 1 1 ∷ from 1 1 3 3 ∷ from 3 4 2 2 ∷ []
order1_links = refl

order1_own : own_of_links order1 ≡ (1 ∷ 1 ∷ 0 ∷ 0 ∷ 0 ∷ 0 ∷ 0 ∷ []) ∷ (1 ∷ 1 ∷ 0 ∷ 0 ∷ 0 ∷ 0 ∷ 0 ∷ []) ∷ (1 ∷ 1 ∷ 0 ∷ 0 ∷ 0 ∷ 0 ∷ 0 ∷ []) ∷ (1 ∷ 1 ∷ 0 ∷ 0 ∷ 0 ∷ 0 ∷ 0 ∷ []) ∷ (1 ∷ 1 ∷ 0 ∷ 0 ∷ 0 ∷ 0 ∷ 0 ∷ []) ∷ (1 ∷ 1 ∷ 0 ∷ 0 ∷ 0 ∷ 0 ∷ 0 ∷ []) ∷ []
order1_own = refl

abbrev pub order2 : List Event
order2 = told (started ∷ called 1 0 0 1 ∷ called 2 1 1 3 ∷ called 3 2 4 2 ∷ Exit 3 ∷ Exit 2 ∷ called 4 1 2 2 ∷ called 5 4 3 1 ∷ called 6 5 1 3 ∷ called 7 6 4 2 ∷ Exit 7 ∷ Exit 6 ∷ Exit 5 ∷ Exit 4 ∷ Exit 1 ∷ Exit 0 ∷ [])

abbrev pub order2_table : SiteTable
order2_table = record { main = 0; procedures = 4; sites = record { owner = 0; callee = Some 1 } ∷ record { owner = 1; callee = Some 3 } ∷ record { owner = 1; callee = Some 2 } ∷ record { owner = 2; callee = Some 1 } ∷ record { owner = 3; callee = Some 2 } ∷ [] }

order2_is_history : IsPortHistory order2_table order2
order2_is_history = search rules

order2_contexts : all_contexts order2 ≡ 0 ∷ 1 ∷ 3 ∷ 2 ∷ 2 ∷ []
order2_contexts = refl

order2_links : all_links order2 ≡ from_nowhere ∷ from 0 0 1 1 ∷ from 1 1 3 2 ∷ from 2 4 2 3 ∷ from 1 2 2 4 ∷ from 4 3 1 1 ∷ []
order2_links = refl

order2_own : own_of_links order2 ≡ (1 ∷ 1 ∷ 0 ∷ 0 ∷ 0 ∷ 0 ∷ 0 ∷ []) ∷ (1 ∷ 1 ∷ 0 ∷ 0 ∷ 0 ∷ 0 ∷ 0 ∷ []) ∷ (2 ∷ 2 ∷ 0 ∷ 0 ∷ 0 ∷ 0 ∷ 0 ∷ []) ∷ (2 ∷ 2 ∷ 0 ∷ 0 ∷ 0 ∷ 0 ∷ 0 ∷ []) ∷ (1 ∷ 1 ∷ 0 ∷ 0 ∷ 0 ∷ 0 ∷ 0 ∷ []) ∷ (1 ∷ 1 ∷ 0 ∷ 0 ∷ 0 ∷ 0 ∷ 0 ∷ []) ∷ []
order2_own = refl

abbrev pub ho : List Event
ho = told (started ∷ Alloc 0 4 ∷ Alloc 0 3 ∷ called 1 0 0 1 ∷ called 2 1 1 2 ∷ Exit 2 ∷ called 3 1 2 1 ∷ called 4 3 1 3 ∷ Exit 4 ∷ called 5 3 2 1 ∷ called 6 5 1 2 ∷ Exit 6 ∷ called 7 5 2 1 ∷ Exit 7 ∷ Exit 5 ∷ Exit 3 ∷ Exit 1 ∷ Exit 0 ∷ [])

abbrev pub ho_table : SiteTable
ho_table = record { main = 0; procedures = 4; sites = record { owner = 0; callee = Some 1 } ∷ record { owner = 1; callee = None } ∷ record { owner = 1; callee = Some 1 } ∷ [] }

ho_is_history : IsPortHistory ho_table ho
ho_is_history = search rules

ho_contexts : all_contexts ho ≡ 0 ∷ 1 ∷ 2 ∷ 3 ∷ []
ho_contexts = refl

ho_links : all_links ho ≡ from_nowhere ∷ from 0 0 1 1 ∷ from 1 1 2 2 ∷ from 1 2 1 1 ∷ from 1 1 3 3 ∷ []
ho_links = refl

ho_own : own_of_links ho ≡ (1 ∷ 1 ∷ 0 ∷ 0 ∷ 2 ∷ 7 ∷ 0 ∷ []) ∷ (1 ∷ 1 ∷ 0 ∷ 0 ∷ 0 ∷ 0 ∷ 0 ∷ []) ∷ (2 ∷ 2 ∷ 0 ∷ 0 ∷ 0 ∷ 0 ∷ 0 ∷ []) ∷ (3 ∷ 3 ∷ 0 ∷ 0 ∷ 0 ∷ 0 ∷ 0 ∷ []) ∷ (1 ∷ 1 ∷ 0 ∷ 0 ∷ 0 ∷ 0 ∷ 0 ∷ []) ∷ []
ho_own = refl

abbrev pub loop : List Event
loop = told (started ∷ called 1 0 0 1 ∷ Alloc 1 4 ∷ called 2 1 1 1 ∷ Alloc 2 4 ∷ called 3 2 1 1 ∷ Exit 3 ∷ Exit 2 ∷ Exit 1 ∷ Exit 0 ∷ [])

abbrev pub loop_table : SiteTable
loop_table = record { main = 0; procedures = 2; sites = record { owner = 0; callee = Some 1 } ∷ record { owner = 1; callee = None } ∷ [] }

loop_is_history : IsPortHistory loop_table loop
loop_is_history = search rules

loop_contexts : all_contexts loop ≡ 0 ∷ 1 ∷ []
loop_contexts = refl

loop_links : all_links loop ≡ from_nowhere ∷ from 0 0 1 1 ∷ from 1 1 1 1 ∷ []
loop_links = refl

loop_own : own_of_links loop ≡ (1 ∷ 1 ∷ 0 ∷ 0 ∷ 0 ∷ 0 ∷ 0 ∷ []) ∷ (1 ∷ 1 ∷ 0 ∷ 0 ∷ 1 ∷ 4 ∷ 0 ∷ []) ∷ (2 ∷ 2 ∷ 0 ∷ 0 ∷ 1 ∷ 4 ∷ 0 ∷ []) ∷ []
loop_own = refl

abbrev pub none : List Event
none = told (started ∷ Alloc 0 2 ∷ Alloc 0 2 ∷ Alloc 0 2 ∷ called 1 0 0 1 ∷ Exit 1 ∷ Redo 1 ∷ called 2 1 1 1 ∷ Exit 2 ∷ Exit 1 ∷ Redo 1 ∷ Redo 2 ∷ called 3 2 1 1 ∷ Exit 3 ∷ Exit 2 ∷ Exit 1 ∷ Redo 1 ∷ Redo 2 ∷ Redo 3 ∷ called 4 3 1 1 ∷ Fail 4 ∷ Fail 3 ∷ Fail 2 ∷ Fail 1 ∷ Exit 0 ∷ [])

abbrev pub none_table : SiteTable
none_table = record { main = 0; procedures = 2; sites = record { owner = 0; callee = Some 1 } ∷ record { owner = 1; callee = Some 1 } ∷ [] }

none_is_history : IsPortHistory none_table none
none_is_history = search rules

none_contexts : all_contexts none ≡ 0 ∷ 1 ∷ []
none_contexts = refl

none_links : all_links none ≡ from_nowhere ∷ from 0 0 1 1 ∷ from 1 1 1 1 ∷ []
none_links = refl

none_own : own_of_links none ≡ (1 ∷ 1 ∷ 0 ∷ 0 ∷ 3 ∷ 6 ∷ 0 ∷ []) ∷ (1 ∷ 3 ∷ 1 ∷ 3 ∷ 0 ∷ 0 ∷ 0 ∷ []) ∷ (3 ∷ 3 ∷ 3 ∷ 3 ∷ 0 ∷ 0 ∷ 0 ∷ []) ∷ []
none_own = refl

abbrev pub some : List Event
some = told (started ∷ Alloc 0 2 ∷ Alloc 0 2 ∷ Alloc 0 2 ∷ called 1 0 0 1 ∷ Exit 1 ∷ Exit 0 ∷ [])

abbrev pub some_table : SiteTable
some_table = record { main = 0; procedures = 2; sites = record { owner = 0; callee = Some 1 } ∷ record { owner = 1; callee = Some 1 } ∷ [] }

some_is_history : IsPortHistory some_table some
some_is_history = search rules

-- Main has answered, and nothing comes any more. By a rule that asked only that the caller be who runs, and took nobody for
-- the caller of activation 0, an activation without a caller would be entered again.
some_is_over : MayFollow some_table some (Redo 0) → ⊥
some_is_over may = let running : None ≡ Some may.1.0 = may.1.2 in cc

-- the pruned activation isn't entered again either: its caller is left
cut_is_over : MayFollow some_table some (Redo 1) → ⊥
cut_is_over may = let running : None ≡ Some may.1.0 = may.1.2 in cc

some_contexts : all_contexts some ≡ 0 ∷ 1 ∷ []
some_contexts = refl

some_links : all_links some ≡ from_nowhere ∷ from 0 0 1 1 ∷ []
some_links = refl

some_own : own_of_links some ≡ (1 ∷ 1 ∷ 0 ∷ 0 ∷ 3 ∷ 6 ∷ 0 ∷ []) ∷ (1 ∷ 1 ∷ 0 ∷ 0 ∷ 0 ∷ 0 ∷ 0 ∷ []) ∷ []
some_own = refl

abbrev pub even : List Event
even = told (started ∷ called 1 0 0 1 ∷ called 2 1 1 2 ∷ called 3 2 2 1 ∷ called 4 3 1 2 ∷ called 5 4 2 1 ∷ called 6 5 1 2 ∷ Exit 6 ∷ Exit 5 ∷ Exit 4 ∷ Exit 3 ∷ Exit 2 ∷ Exit 1 ∷ Exit 0 ∷ [])

abbrev pub even_table : SiteTable
even_table = record { main = 0; procedures = 3; sites = record { owner = 0; callee = Some 1 } ∷ record { owner = 1; callee = Some 2 } ∷ record { owner = 2; callee = Some 1 } ∷ [] }

even_is_history : IsPortHistory even_table even
even_is_history = search rules

even_contexts : all_contexts even ≡ 0 ∷ 1 ∷ 2 ∷ []
even_contexts = refl

even_links : all_links even ≡ from_nowhere ∷ from 0 0 1 1 ∷ from 1 1 2 2 ∷ from 2 2 1 1 ∷ []
even_links = refl

even_own : own_of_links even ≡ (1 ∷ 1 ∷ 0 ∷ 0 ∷ 0 ∷ 0 ∷ 0 ∷ []) ∷ (1 ∷ 1 ∷ 0 ∷ 0 ∷ 0 ∷ 0 ∷ 0 ∷ []) ∷ (3 ∷ 3 ∷ 0 ∷ 0 ∷ 0 ∷ 0 ∷ 0 ∷ []) ∷ (2 ∷ 2 ∷ 0 ∷ 0 ∷ 0 ∷ 0 ∷ 0 ∷ []) ∷ []
even_own = refl

abbrev pub mods : List Event
mods = told (started ∷ called 1 0 0 1 ∷ called 2 1 1 2 ∷ called 3 2 2 3 ∷ Exit 3 ∷ Exit 2 ∷ Exit 1 ∷ Exit 0 ∷ [])

abbrev pub mods_table : SiteTable
mods_table = record { main = 0; procedures = 4; sites = record { owner = 0; callee = Some 1 } ∷ record { owner = 1; callee = Some 2 } ∷ record { owner = 2; callee = Some 3 } ∷ [] }

mods_is_history : IsPortHistory mods_table mods
mods_is_history = search rules

mods_contexts : all_contexts mods ≡ 0 ∷ 1 ∷ 2 ∷ 3 ∷ []
mods_contexts = refl

mods_links : all_links mods ≡ from_nowhere ∷ from 0 0 1 1 ∷ from 1 1 2 2 ∷ from 2 2 3 3 ∷ []
mods_links = refl

mods_own : own_of_links mods ≡ (1 ∷ 1 ∷ 0 ∷ 0 ∷ 0 ∷ 0 ∷ 0 ∷ []) ∷ (1 ∷ 1 ∷ 0 ∷ 0 ∷ 0 ∷ 0 ∷ 0 ∷ []) ∷ (1 ∷ 1 ∷ 0 ∷ 0 ∷ 0 ∷ 0 ∷ 0 ∷ []) ∷ (1 ∷ 1 ∷ 0 ∷ 0 ∷ 0 ∷ 0 ∷ 0 ∷ []) ∷ []
mods_own = refl

abbrev pub err : List Event
err = told (started ∷ called 1 0 0 1 ∷ called 2 1 1 1 ∷ called 3 2 1 1 ∷ Excp 3 ∷ Excp 2 ∷ Excp 1 ∷ Excp 0 ∷ [])

err_is_history : IsPortHistory count_table err
err_is_history = search rules

err_contexts : all_contexts err ≡ 0 ∷ 1 ∷ []
err_contexts = refl

err_own : own_of_links err ≡ (1 ∷ 0 ∷ 0 ∷ 0 ∷ 0 ∷ 0 ∷ 1 ∷ []) ∷ (1 ∷ 0 ∷ 0 ∷ 0 ∷ 0 ∷ 0 ∷ 1 ∷ []) ∷ (2 ∷ 0 ∷ 0 ∷ 0 ∷ 0 ∷ 0 ∷ 2 ∷ []) ∷ []
err_own = refl

-- pick had exited, and gets no exception
abbrev pub boom : List Event
boom = told (started ∷ called 1 0 0 1 ∷ Exit 1 ∷ Excp 0 ∷ [])

abbrev pub boom_table : SiteTable
boom_table = record { main = 0; procedures = 2; sites = record { owner = 0; callee = Some 1 } ∷ [] }

boom_is_history : IsPortHistory boom_table boom
boom_is_history = search rules

boom_own : own_of_links boom ≡ (1 ∷ 0 ∷ 0 ∷ 0 ∷ 0 ∷ 0 ∷ 1 ∷ []) ∷ (1 ∷ 1 ∷ 0 ∷ 0 ∷ 0 ∷ 0 ∷ 0 ∷ []) ∷ []
boom_own = refl

boom_ends : (current boom ≡ None) × (last_port boom 0 ≡ Some (Excp 0)) × (last_port boom 1 ≡ Some (Exit 1))
boom_ends = (refl, refl, refl)

-- pick was cut, and both links were entered as often as they were left: refuses a rule by which what is cut fails once more
boom_is_even : IsEven (set_counts 0 boom (has_link (root_link 0))) × IsEven (set_counts 0 boom (has_link (from 0 0 1 1).link))
boom_is_even = (refl, refl)

-- an exception leaves the activation that runs, and no other
boom_early : IsPortHistory boom_table (told (started ∷ called 1 0 0 1 ∷ Excp 0 ∷ [])) → ⊥
boom_early is = let e : Some 1 ≡ Some 0 = is.1 in absurd (cc)

abbrev pub gen : List Event
gen = told (started ∷ called 1 0 0 1 ∷ called 2 1 1 2 ∷ called 3 2 3 3 ∷ Exit 3 ∷ called 4 2 4 3 ∷ Exit 4 ∷ Exit 2 ∷ called 5 1 2 2 ∷ called 6 5 3 3 ∷ Exit 6 ∷ called 7 5 4 3 ∷ Exit 7 ∷ Exit 5 ∷ Exit 1 ∷ Exit 0 ∷ [])

abbrev pub gen_table : SiteTable
gen_table = record { main = 0; procedures = 4; sites = record { owner = 0; callee = Some 1 } ∷ record { owner = 1; callee = Some 2 } ∷ record { owner = 1; callee = Some 2 } ∷ record { owner = 2; callee = Some 3 } ∷ record { owner = 2; callee = Some 3 } ∷ [] }

gen_is_history : IsPortHistory gen_table gen
gen_is_history = search rules

-- refuses a rule by which the same site and the same procedure are enough: then the second call of p2 would lead to the
-- contexts of p3 that the first one led to, and there would be 6 contexts
gen_contexts : all_contexts gen ≡ 0 ∷ 1 ∷ 2 ∷ 3 ∷ 3 ∷ 2 ∷ 3 ∷ 3 ∷ []
gen_contexts = refl

gen_links : all_links gen ≡ from_nowhere ∷ from 0 0 1 1 ∷ from 1 1 2 2 ∷ from 2 3 3 3 ∷ from 2 4 3 4 ∷ from 1 2 2 5 ∷ from 5 3 3 6 ∷ from 5 4 3 7 ∷ []
gen_links = refl

-- the eighth activation is of r in context 3, and of its callers the fifth is of r too, in context 4
abbrev pub inner : List Event
inner = told (started ∷ called 1 0 0 1 ∷ called 2 1 1 3 ∷ called 3 2 4 2 ∷ Exit 3 ∷ Exit 2 ∷ called 4 1 2 2 ∷ called 5 4 3 1 ∷ called 6 5 1 3 ∷ called 7 6 4 2 ∷ called 8 7 5 2 ∷ [])

abbrev pub inner_table : SiteTable
inner_table = record { main = 0; procedures = 4; sites = record { owner = 0; callee = Some 1 } ∷ record { owner = 1; callee = Some 3 } ∷ record { owner = 1; callee = Some 2 } ∷ record { owner = 2; callee = Some 1 } ∷ record { owner = 3; callee = Some 2 } ∷ record { owner = 2; callee = Some 2 } ∷ [] }

inner_is_history : IsPortHistory inner_table inner
inner_is_history = search rules

-- refuses a rule by which a call that closes a cycle leads to the outermost ancestor of its procedure, which is in context 4
inner_links : all_links inner ≡ from_nowhere ∷ from 0 0 1 1 ∷ from 1 1 3 2 ∷ from 2 4 2 3 ∷ from 1 2 2 4 ∷ from 4 3 1 1 ∷ from 3 5 2 3 ∷ []
inner_links = refl

-- ---- lists of events that no program makes

-- refuses a rule by which a run may begin in any procedure
begun_elsewhere : IsPortHistory count_table (Call 0 None None 1 ∷ []) → ⊥
begun_elsewhere is = let e : 1 ≡ 0 = is.1.3.1 in absurd (cc)

-- refuses a rule by which a run may begin with another port
begun_by_an_exit : IsPortHistory count_table (Exit 0 ∷ []) → ⊥
begun_by_an_exit is = let e : None ≡ Some 0 = is.1 in absurd (cc)

-- refuses a rule by which any activation that isn't left may call: main waits for its callee
called_by_who_waits : IsPortHistory count_table (told (started ∷ called 1 0 0 1 ∷ called 2 0 0 1 ∷ [])) → ⊥
called_by_who_waits is = let e : Some 0 ≡ Some 1 = is.1.2 in absurd (cc)

-- refuses a rule that looks only whether the site is there: site 1 is one of count
called_at_a_site_of_another : IsPortHistory count_table (told (started ∷ called 1 0 1 1 ∷ [])) → ⊥
called_at_a_site_of_another is = let e : Some 0 ≡ Some 1 = is.1.3.owned in absurd (cc)

-- refuses a rule by which a plain site may call any procedure
called_is_another : IsPortHistory count_table (told (started ∷ called 1 0 0 0 ∷ [])) → ⊥
called_is_another is = let e : 0 ≡ 1 = is.1.3.callee in absurd (cc)

-- refuses a rule by which a caller may exit before its callee
exit_of_who_waits : IsPortHistory count_table (told (started ∷ called 1 0 0 1 ∷ Exit 0 ∷ [])) → ⊥
exit_of_who_waits is = let e : Some 1 ≡ Some 0 = is.1 in absurd (cc)

-- refuses a rule by which any activation of the caller that runs may be entered again: this one has failed
redo_after_a_fail : MayFollow none_table (told (started ∷ called 1 0 0 1 ∷ Fail 1 ∷ [])) (Redo 1) → ⊥
redo_after_a_fail may = let e : false ≡ true = may.0 in absurd (cc)

-- totals, with the number of each context's clique

count_totals :
    (seven (clique_total 0 count (0 ∷ 1 ∷ []) 1) ≡ 4 ∷ 4 ∷ 0 ∷ 0 ∷ 0 ∷ 0 ∷ 0 ∷ []) × (seven (own 0 count (in_context 1)) ≡ 4 ∷ 4 ∷ 0 ∷ 0 ∷ 0 ∷ 0 ∷ 0 ∷ [])
    × (seven (context_total 0 count (0 ∷ 1 ∷ []) 1) ≡ 4 ∷ 4 ∷ 0 ∷ 0 ∷ 0 ∷ 0 ∷ 0 ∷ [])
count_totals = (refl, refl, refl)

-- the first context of x, called by main, and the context of r, called by x, are in one clique
abbrev order2_cliques : List ℕ
order2_cliques = 0 ∷ 1 ∷ 2 ∷ 3 ∷ 1 ∷ []

order2_totals :
    (seven (clique_total 0 order2 order2_cliques 1) ≡ 7 ∷ 7 ∷ 0 ∷ 0 ∷ 0 ∷ 0 ∷ 0 ∷ []) × (seven (own 0 order2 (in_context 1)) ≡ 2 ∷ 2 ∷ 0 ∷ 0 ∷ 0 ∷ 0 ∷ 0 ∷ [])
    × (seven (context_total 0 order2 order2_cliques 1) ≡ 6 ∷ 6 ∷ 0 ∷ 0 ∷ 0 ∷ 0 ∷ 0 ∷ [])
    × (seven (context_total 0 order2 order2_cliques 4) ≡ 1 ∷ 1 ∷ 0 ∷ 0 ∷ 0 ∷ 0 ∷ 0 ∷ [])
    × (seven (link_total 0 order2 (from 1 1 3 2).link) ≡ 4 ∷ 4 ∷ 0 ∷ 0 ∷ 0 ∷ 0 ∷ 0 ∷ [])
order2_totals = (refl, refl, refl, refl, refl)

-- Five contexts, and four procedures, whose numbers differ: r has the contexts 3 and 4, and n the context 2. Refuses a rule that
-- takes the number of a context for that of its procedure, by which r's total would be n's.
order2_procedures :
    (seven (procedure_total 0 order2 order2_cliques 0) ≡ 8 ∷ 8 ∷ 0 ∷ 0 ∷ 0 ∷ 0 ∷ 0 ∷ []) × (seven (procedure_total 0 order2 order2_cliques 1) ≡ 6 ∷ 6 ∷ 0 ∷ 0 ∷ 0 ∷ 0 ∷ 0 ∷ [])
    × (seven (procedure_total 0 order2 order2_cliques 2) ≡ 3 ∷ 3 ∷ 0 ∷ 0 ∷ 0 ∷ 0 ∷ 0 ∷ []) × (seven (procedure_total 0 order2 order2_cliques 3) ≡ 4 ∷ 4 ∷ 0 ∷ 0 ∷ 0 ∷ 0 ∷ 0 ∷ [])
    × (seven (own 0 order2 (in_procedure 2)) ≡ 3 ∷ 3 ∷ 0 ∷ 0 ∷ 0 ∷ 0 ∷ 0 ∷ []) × (seven (own 0 order2 (in_procedure 3)) ≡ 2 ∷ 2 ∷ 0 ∷ 0 ∷ 0 ∷ 0 ∷ 0 ∷ [])
order2_procedures = (refl, refl, refl, refl, refl, refl)

-- with r in a module of its own (number 1) and n in another (number 2), the same of modules
order2_modules :
    (seven (module_total 0 order2 order2_cliques (0 ∷ 0 ∷ 1 ∷ 2 ∷ []) 1) ≡ 3 ∷ 3 ∷ 0 ∷ 0 ∷ 0 ∷ 0 ∷ 0 ∷ []) × (seven (module_total 0 order2 order2_cliques (0 ∷ 0 ∷ 1 ∷ 2 ∷ []) 2) ≡ 4 ∷ 4 ∷ 0 ∷ 0 ∷ 0 ∷ 0 ∷ 0 ∷ [])
    × (seven (own 0 order2 (in_module (0 ∷ 0 ∷ 1 ∷ 2 ∷ []) 1)) ≡ 3 ∷ 3 ∷ 0 ∷ 0 ∷ 0 ∷ 0 ∷ 0 ∷ []) × (seven (own 0 order2 (in_module (0 ∷ 0 ∷ 1 ∷ 2 ∷ []) 2)) ≡ 2 ∷ 2 ∷ 0 ∷ 0 ∷ 0 ∷ 0 ∷ 0 ∷ [])
order2_modules = (refl, refl, refl, refl)

abbrev order1_cliques : List ℕ
order1_cliques = 0 ∷ 1 ∷ 1 ∷ 1 ∷ []

order1_totals :
    (seven (clique_total 0 order1 order1_cliques 1) ≡ 5 ∷ 5 ∷ 0 ∷ 0 ∷ 0 ∷ 0 ∷ 0 ∷ []) × (seven (context_total 0 order1 order1_cliques 1) ≡ 2 ∷ 2 ∷ 0 ∷ 0 ∷ 0 ∷ 0 ∷ 0 ∷ [])
    × (seven (context_total 0 order1 order1_cliques 2) ≡ 2 ∷ 2 ∷ 0 ∷ 0 ∷ 0 ∷ 0 ∷ 0 ∷ [])
    × (seven (context_total 0 order1 order1_cliques 3) ≡ 1 ∷ 1 ∷ 0 ∷ 0 ∷ 0 ∷ 0 ∷ 0 ∷ [])
order1_totals = (refl, refl, refl, refl)

-- the site in even has calls of its own, and no link there leaves the clique of even and odd
even_totals :
    (seven (procedure_total 0 even (0 ∷ 1 ∷ 1 ∷ []) 0) ≡ 7 ∷ 7 ∷ 0 ∷ 0 ∷ 0 ∷ 0 ∷ 0 ∷ []) × (seven (procedure_total 0 even (0 ∷ 1 ∷ 1 ∷ []) 1) ≡ 3 ∷ 3 ∷ 0 ∷ 0 ∷ 0 ∷ 0 ∷ 0 ∷ [])
    × (seven (own 0 even (in_procedure 1)) ≡ 3 ∷ 3 ∷ 0 ∷ 0 ∷ 0 ∷ 0 ∷ 0 ∷ [])
    × (seven (own 0 even (at_site 1)) ≡ 3 ∷ 3 ∷ 0 ∷ 0 ∷ 0 ∷ 0 ∷ 0 ∷ [])
    × (seven (site_total 0 even (0 ∷ 1 ∷ 1 ∷ []) 1) ≡ 0 ∷ 0 ∷ 0 ∷ 0 ∷ 0 ∷ 0 ∷ 0 ∷ [])
    × (seven (site_total 0 even (0 ∷ 1 ∷ 1 ∷ []) 0) ≡ 6 ∷ 6 ∷ 0 ∷ 0 ∷ 0 ∷ 0 ∷ 0 ∷ [])
even_totals = (refl, refl, refl, refl, refl, refl)

-- module a (number 1) is twice among the stations of the last activation, whose events count once
abbrev mods_modules : List ℕ
mods_modules = 0 ∷ 1 ∷ 2 ∷ 1 ∷ []

mods_totals :
    (seven (module_total 0 mods (0 ∷ 1 ∷ 2 ∷ 3 ∷ []) mods_modules 0) ≡ 4 ∷ 4 ∷ 0 ∷ 0 ∷ 0 ∷ 0 ∷ 0 ∷ [])
    × (seven (module_total 0 mods (0 ∷ 1 ∷ 2 ∷ 3 ∷ []) mods_modules 1) ≡ 3 ∷ 3 ∷ 0 ∷ 0 ∷ 0 ∷ 0 ∷ 0 ∷ [])
    × (seven (module_total 0 mods (0 ∷ 1 ∷ 2 ∷ 3 ∷ []) mods_modules 2) ≡ 2 ∷ 2 ∷ 0 ∷ 0 ∷ 0 ∷ 0 ∷ 0 ∷ [])
    × (seven (own 0 mods (in_module mods_modules 1)) ≡ 2 ∷ 2 ∷ 0 ∷ 0 ∷ 0 ∷ 0 ∷ 0 ∷ [])
mods_totals = (refl, refl, refl, refl)

-- calls and redos together are ten, as are exits and fails
none_totals : seven (clique_total 0 none (0 ∷ 1 ∷ []) 1) ≡ 4 ∷ 6 ∷ 4 ∷ 6 ∷ 0 ∷ 0 ∷ 0 ∷ []
none_totals = refl

-- an allocation counts for the activation that makes it, and in the total of what called it
loop_totals : (seven (own 0 loop (in_context 1)) ≡ 3 ∷ 3 ∷ 0 ∷ 0 ∷ 2 ∷ 8 ∷ 0 ∷ []) × (seven (link_total 0 loop (from 0 0 1 1).link) ≡ 3 ∷ 3 ∷ 0 ∷ 0 ∷ 2 ∷ 8 ∷ 0 ∷ [])
loop_totals = (refl, refl)

err_totals : (seven (own 0 err (in_context 1)) ≡ 3 ∷ 0 ∷ 0 ∷ 0 ∷ 0 ∷ 0 ∷ 3 ∷ []) × (seven (clique_total 0 err (0 ∷ 1 ∷ []) 1) ≡ 3 ∷ 0 ∷ 0 ∷ 0 ∷ 0 ∷ 0 ∷ 3 ∷ [])
err_totals = (refl, refl)

boom_totals : (seven (procedure_total 0 boom (0 ∷ 1 ∷ []) 0) ≡ 2 ∷ 1 ∷ 0 ∷ 0 ∷ 0 ∷ 0 ∷ 1 ∷ []) × (seven (procedure_total 0 boom (0 ∷ 1 ∷ []) 1) ≡ 1 ∷ 1 ∷ 0 ∷ 0 ∷ 0 ∷ 0 ∷ 0 ∷ [])
boom_totals = (refl, refl)
