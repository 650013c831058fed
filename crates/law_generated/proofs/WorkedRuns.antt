-- The runs of small generated programs, computed: their items, their contexts and their sites were worked out by hand, and
-- `refl` says that the definitions give them.
use Rattle.std.proofs.Common.{◌≡◌, refl, ℕ, ◌+◌, ◌^◌, false, pos, [], ◌∷◌, Some, None}
use Rattle.std.specs.Fmt.{digits}
use Rattle.md_hlds.specs.Value.{Number}
use Rattle.md_hlds.specs.Trace.{Turn, Call, Exit, Answer, Stuck}
use Rattle.md_hlds.specs.Run.{run, is_finished}
use Rattle.md_trace.specs.PortHistory.{CallSite}
use Rattle.law_events.specs.Table.{site_table, HasSites}
use Rattle.law_generated.specs.Generated.{level_name, generated}
use Rattle.law_generated.specs.Runs.{generated_contexts}

-- main calls procedure 1, which does nothing: its goal has the number 3, behind the conjunction of main and its two parts
one_items :
    run (generated 1) 8
    ≡ (Turn 0 None 4 ∷ Call 0 None None 0 ∷ Turn 0 (Some 0) 1
    ∷ Turn 0 (Some 1) 1 ∷ Call 1 (Some 0) (Some 0) 1 ∷ Turn 1 (Some 3) 1 ∷ Exit 1
    ∷ Turn 0 (Some 2) 1 ∷ Exit 0 ∷ Answer (Some (Number (pos 0)) ∷ Some (Number (pos 0)) ∷ []) ∷ [])
unfolding run digits
one_items = refl

one_contexts : generated_contexts 1 8 ≡ 0 ∷ 1 ∷ []
unfolding run digits
one_contexts = refl

-- procedure 1 calls procedure 2 twice, at the sites 1 and 2
two_items :
    run (generated 2) 14
    ≡ (Turn 0 None 4 ∷ Call 0 None None 0 ∷ Turn 0 (Some 0) 1
    ∷ Turn 0 (Some 1) 3 ∷ Call 1 (Some 0) (Some 0) 1 ∷ Turn 1 (Some 3) 1
    ∷ Turn 1 (Some 4) 1 ∷ Call 2 (Some 1) (Some 1) 2 ∷ Turn 2 (Some 6) 1 ∷ Exit 2
    ∷ Turn 1 (Some 5) 1 ∷ Call 3 (Some 1) (Some 2) 2 ∷ Turn 3 (Some 6) 1 ∷ Exit 3
    ∷ Exit 1
    ∷ Turn 0 (Some 2) 1 ∷ Exit 0 ∷ Answer (Some (Number (pos 0)) ∷ Some (Number (pos 0)) ∷ []) ∷ [])
unfolding run digits
two_items = refl

two_contexts : generated_contexts 2 14 ≡ 0 ∷ 1 ∷ 2 ∷ 2 ∷ []
unfolding run digits
two_contexts = refl

-- with a step less it lacks main's last goal, but no context; with 3 it lacks its first goal
two_unfinished : is_finished (run (generated 2) 13) ≡ false
unfolding run digits
two_unfinished = refl

two_contexts_yet : generated_contexts 2 13 ≡ 0 ∷ 1 ∷ 2 ∷ 2 ∷ []
unfolding run digits
two_contexts_yet = refl

-- each of the two calls of procedure 2 has two contexts of procedure 3 below it
three_contexts : generated_contexts 3 26 ≡ 0 ∷ 1 ∷ 2 ∷ 3 ∷ 3 ∷ 2 ∷ 3 ∷ 3 ∷ []
unfolding run digits
three_contexts = refl

-- the sites have their numbers in text order
abbrev plain : ℕ → ℕ → CallSite
plain owner callee = record { owner = owner; callee = Some callee }

three_table : site_table (generated 3) ≡ record { main = 0; procedures = 4; sites = plain 0 1 ∷ plain 1 2 ∷ plain 1 2 ∷ plain 2 3 ∷ plain 2 3 ∷ [] }
unfolding digits
three_table = refl

three_sites : HasSites (generated 3)
unfolding digits
three_sites = (refl, (refl, (refl, (refl, (refl, tt)))))

-- with no procedure below main its call finds none
none_stuck : run (generated 0) 100 ≡ (Turn 0 None 4 ∷ Call 0 None None 0 ∷ Turn 0 (Some 0) 1 ∷ Turn 0 (Some 1) 1 ∷ Stuck ∷ [])
unfolding run digits
none_stuck = refl

-- numbers with more than 64 digits aren't told apart
same_names : level_name (10 ^ 64 + 10 ^ 63) ≡ level_name (10 ^ 63)
unfolding digits
same_names = refl
