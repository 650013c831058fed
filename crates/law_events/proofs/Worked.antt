-- Site tables and histories computed on small programs: each was worked out by hand, and `refl` says that the
-- definitions give it.
use Rattle.std.proofs.Common.{◌≡◌, refl, arith, ℕ, List, [], ◌∷◌, Some, None}
use Rattle.std.specs.Prelude.{codes}
use Rattle.md_hlds.specs.declared.types.Det.TheVariants.{Multi}
use Rattle.md_hlds.specs.declared.types.Det.TheVariants.{Det as One}
use Rattle.md_hlds.specs.HldsGoal.{HldsGoal, SimpleGoal, SomeGoal, Raises}
use Rattle.md_hlds.specs.Hlds.{Hlds}
use Rattle.md_hlds.specs.Run.{run}
use Rattle.md_hlds.proofs.Worked.{goal, conj, disj, is_int, is_text, same, call, procedure, program, main, at_most, minus, choose, none, higher_order}
use Rattle.md_trace.specs.declared.event.Event.TheVariants.{Call, Exit, Excp}
use Rattle.md_trace.specs.PortHistory.{CallSite, SiteTable}
use Rattle.law_events.specs.History.{history, call_count}
use Rattle.law_events.specs.Table.{site_table, HasSites}
use Rattle.law_events.specs.Laws.{IsWithinBounds}

-- a site at which this procedure calls that one, and one that is higher-order
abbrev plain : ℕ → ℕ → CallSite
plain owner callee = record { owner = owner; callee = Some callee }

abbrev any : ℕ → CallSite
any owner = record { owner = owner; callee = None }

abbrev table : ℕ → ℕ → List CallSite → SiteTable
table m n sites = record { main = m; procedures = n; sites = sites }

-- main calls member, and member calls itself
none_table : site_table none ≡ table 0 2 (plain 0 1 ∷ plain 1 1 ∷ [])
none_table = refl

none_sites : HasSites none
none_sites = (refl, (refl, tt))

-- main calls drive, drive calls a closure and itself, and add and double call nothing
ho_table : site_table higher_order ≡ table 0 4 (plain 0 1 ∷ any 1 ∷ plain 1 1 ∷ [])
ho_table = refl

ho_sites : HasSites higher_order
ho_sites = (refl, (refl, (refl, tt)))

ho_bounds : IsWithinBounds higher_order 4294967295
ho_bounds = record { main = record { number = 0; procedure = _; called = refl; variable = omega arith }; sites = ho_sites; small = omega arith }

ho_calls : call_count (run higher_order 1000) ≡ 8
unfolding run
ho_calls = refl

abbrev raises : ℕ → HldsGoal
raises x = goal (SimpleGoal (Raises x))

-- main(IO0, IO) :- N = 2, f(N), IO = IO0.
-- f(N) :- Z = 0, ( N =< Z -> S = "bad", require.error(S) ; D = 1, M = N - D, f(M) ).
abbrev err : Hlds
err = program [] (main 3 (conj (is_int 2 2 ∷ call 0 (codes "f") (2 ∷ []) ∷ same 1 0 ∷ []))
    ∷ procedure (codes "f") One 1 5 (conj (is_int 1 0
    ∷ choose (at_most 0 1) (conj (is_text 2 (codes "bad") ∷ raises 2 ∷ [])) (conj (is_int 3 1 ∷ minus 4 0 3 ∷ call 1 (codes "f") (4 ∷ []) ∷ []))
    ∷ []))
    ∷ [])

err_table : site_table err ≡ table 0 2 (plain 0 1 ∷ plain 1 1 ∷ [])
err_table = refl

-- the latest event first: the exception leaves each activation
err_history :
    history (run err 49)
    ≡ (Excp 0 ∷ Excp 1 ∷ Excp 2 ∷ Excp 3
    ∷ Call 3 (Some 2) (Some 1) 1 ∷ Call 2 (Some 1) (Some 1) 1 ∷ Call 1 (Some 0) (Some 0) 1 ∷ Call 0 None None 0 ∷ [])
unfolding run
err_history = refl

-- main(IO0, IO) :- ( some [X] ( pick(X), S = "no", require.error(S) ) -> IO = IO0 ; IO = IO0 ).   pick(X) :- ( X = 1 ; X = 2 ).
abbrev boom : Hlds
boom = program [] (main 4 (choose (goal (SomeGoal (2 ∷ []) (conj (call 0 (codes "pick") (2 ∷ []) ∷ is_text 3 (codes "no") ∷ raises 3 ∷ [])))) (same 1 0) (same 1 0))
    ∷ procedure (codes "pick") Multi 1 1 (disj (is_int 0 1 ∷ is_int 0 2 ∷ []))
    ∷ [])

-- the open choice of pick has neither a redo nor a fail
boom_history : history (run boom 100) ≡ (Excp 0 ∷ Exit 1 ∷ Call 1 (Some 0) (Some 0) 1 ∷ Call 0 None None 0 ∷ [])
unfolding run
boom_history = refl

-- goals that name their sites out of order
abbrev swapped : Hlds
swapped = program [] (main 2 (conj (call 1 (codes "main") (0 ∷ 1 ∷ []) ∷ call 0 (codes "main") (0 ∷ 1 ∷ []) ∷ [])) ∷ [])

swapped_sites : HasSites swapped → ⊥
swapped_sites has = omega (arith, has.0)

-- a call of a predicate that isn't declared has no callee in the table
unknown_table : site_table (program [] (main 2 (call 0 (codes "p") []) ∷ [])) ≡ table 0 1 (any 0 ∷ [])
unknown_table = refl
