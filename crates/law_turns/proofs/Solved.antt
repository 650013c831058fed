-- The turns of a finished run, with how often goals ended there, solve the equations.
use Rattle.std.proofs.Common.{◌≡◌, refl, sym, ap, ◌∙◌, subst, arith, ℕ, zero, suc, ◌+◌, Bool, true, false, cond, nat_eq, List, [], ◌∷◌, ◌++◌, map, Option, Some, None, slice_get}
use Rattle.md_hlds.specs.HldsGoal.{Simple, Succeeds, Fails, Unifies, Computes, Compares, WritesInt, WritesText, EndsLine, Raises, HldsGoal, At, GoalExpr, SimpleGoal, CallGoal, HoCallGoal, ConjGoal, DisjGoal, IfGoal, NotGoal, SomeGoal, HldsGoals, nothing, also, goal_size}
use Rattle.md_hlds.specs.Hlds.{Procedure, Hlds, body_number}
use Rattle.md_hlds.specs.Trace.{Items}
use Rattle.md_trace.specs.Activation.{Activation, activations}
use Rattle.law_events.specs.History.{history}
use Rattle.md_det.specs.declared.finding.Switch.{Switch}
use Rattle.md_det.specs.Findings.{program_findings, switch_at, pair_at}
use Rattle.law_turns.specs.Counts.{turns_of, PortCounts, port_counts}
use Rattle.law_turns.specs.Equations.{Quantity, Entries, Exits, Equation, sums, equals, numbers_from, if_one, simple_equations, call_equations, one_arm, entering, choosing, goal_equations, expr_equations, if_equations, each_equations, arm_equations, equations, Solution, value, total, Solves}
use Rattle.law_turns.proofs.Spots.{Cause, ByTurn, ByEnd, ByChoice, ByCall, ByExit, ByNothing, Effect, Begins, Ends, Chooses, Picks, CallsAt, ExitsOf, Nothing, spots, How, AtOnce, Chosen, how_of, how_of_whole, later, arm_begun, part_ended, IsAt, PartsAt, ArmsAt, body_at, condition_at, then_at, else_at, negated_at, quantified_at, parts_at, arms_at, part_at, next_parts, arm_at, next_arms}
use Rattle.law_turns.proofs.Flow.{once_turned, once_made, arms_turned, turned, made, vias, last_from, vias_at, choices_at, is_at_site, goal_of_site, causes, effects, Weight, Mark, marks_use, marks_make, items_use, items_make}
use Rattle.law_turns.proofs.Places.{begun_is, ended_is, turned_is, made_is, chosen_is, picked_is, vias_is, choices_is, same_number, other_number, chooses_is, calls_at_is, exits_of_is, by_call_is, by_exit_is}
use Rattle.law_turns.proofs.Level.{effects_of, causes_of, effects_marked, causes_marked, level, used_alone, used_first, used_second, made_alone, made_first, made_second}
use Rattle.law_turns.proofs.RunFlow.{AllAgree}
use Rattle.law_turns.proofs.Totals.{turns_begun, turns_caused, no_effects, no_causes, unmarked_effects, unmarked_causes, site_calls, procedure_exits, procedure_calls, site_exits, sum_of, ends_by_way, chosen_by_way, picks_chosen}
use Rattle.law_turns.proofs.TraceFlow.{AreSited}

solves_append : (x : Solution) (es fs : List Equation) → Solves x es → Solves x fs → Solves x (es ++ fs)
solves_append x [] fs h g = g
solves_append x (e ∷ es) fs h g = (h.0, solves_append x es fs h.1 g)

by_nothing_is : (s : Hlds) (n : ℕ) → effects s (ByNothing n) ≡ Ends n n ∷ []
unfolding effects
by_nothing_is s n = refl

nothing_is : (s : Hlds) (n : ℕ) → causes s (Nothing n) ≡ ByTurn n ∷ []
unfolding causes
nothing_is s n = refl

module _ (s : Hlds) (sited : AreSited s) (xs : Items) (agree : AllAgree (activations (history xs)) xs) (ms : List (Mark s))
    (even : (v : Weight) → items_use s (activations (history xs)) v xs + marks_use s v ms ≡ items_make s (activations (history xs)) v xs + marks_make s v ms) where
  abbrev acts : List Activation
  acts = activations (history xs)

  abbrev counts : PortCounts
  counts = port_counts (history xs)

  abbrev pub found : Solution
  found = record { entries = turns_of xs; exits = λ n. causes_marked s (ByEnd n) ms }

  abbrev all_effects : Effect → ℕ
  all_effects e = effects_of acts e xs + effects_marked s e ms

  abbrev all_causes : Cause → ℕ
  all_causes c = causes_of acts c xs + causes_marked s c ms

  -- ---- what the totals are

  begins_total : (n : ℕ) → all_effects (Begins n) ≡ turns_of xs n
  begins_total n = let a = turns_begun acts n xs in let b = unmarked_effects s (Begins n) (λ i j. refl) (λ i. refl) (λ i j. refl) ms in omega (arith, a, b)

  turn_total : (n : ℕ) → all_causes (ByTurn n) ≡ turns_of xs n
  turn_total n = let a = turns_caused acts n xs in let b = unmarked_causes s (ByTurn n) (λ i. refl) (λ i j. refl) ms in omega (arith, a, b)

  end_total : (n : ℕ) → all_causes (ByEnd n) ≡ causes_marked s (ByEnd n) ms
  end_total n = let a = no_causes acts (ByEnd n) (λ i. refl) (λ q. refl) (λ x. refl) xs in omega (arith, a)

  choice_total : (i j : ℕ) → all_causes (ByChoice i j) ≡ effects_marked s (Picks i j) ms
  choice_total i j = let a = no_causes acts (ByChoice i j) (λ i. refl) (λ q. refl) (λ x. refl) xs in let b = picks_chosen s i j ms in omega (arith, a, b)

  ends_total : (n j : ℕ) → all_effects (Ends n j) ≡ effects_marked s (Ends n j) ms
  ends_total n j = let a = no_effects acts (Ends n j) (λ i. refl) (λ q. refl) (λ x. refl) xs in omega (arith, a)

  chooses_total : (n : ℕ) → all_effects (Chooses n) ≡ effects_marked s (Chooses n) ms
  chooses_total n = let a = no_effects acts (Chooses n) (λ i. refl) (λ q. refl) (λ x. refl) xs in omega (arith, a)

  picks_total : (i j : ℕ) → all_effects (Picks i j) ≡ effects_marked s (Picks i j) ms
  picks_total i j = let a = no_effects acts (Picks i j) (λ i. refl) (λ q. refl) (λ x. refl) xs in omega (arith, a)

  nothing_total : (n : ℕ) → all_effects (Nothing n) ≡ 0
  nothing_total n =
      let a = no_effects acts (Nothing n) (λ i. refl) (λ q. refl) (λ x. refl) xs in
      let b = unmarked_effects s (Nothing n) (λ i j. refl) (λ i. refl) (λ i j. refl) ms in omega (arith, a, b)

  by_nothing_total : (n : ℕ) → all_causes (ByNothing n) ≡ 0
  by_nothing_total n =
      let a = no_causes acts (ByNothing n) (λ i. refl) (λ q. refl) (λ x. refl) xs in
      let b = unmarked_causes s (ByNothing n) (λ i. refl) (λ i j. refl) ms in omega (arith, a, b)

  calls_at_total : (x : ℕ) → all_effects (CallsAt x) ≡ counts.site_calls x
  calls_at_total x = let a = site_calls acts xs x agree in let b = unmarked_effects s (CallsAt x) (λ i j. refl) (λ i. refl) (λ i j. refl) ms in omega (arith, a, b)

  exits_of_total : (q : ℕ) → all_effects (ExitsOf q) ≡ counts.procedure_exits q
  exits_of_total q = let a = procedure_exits acts xs q in let b = unmarked_effects s (ExitsOf q) (λ i j. refl) (λ i. refl) (λ i j. refl) ms in omega (arith, a, b)

  by_call_total : (q : ℕ) → all_causes (ByCall q) ≡ counts.procedure_calls q
  by_call_total q = let a = procedure_calls acts xs q agree in let b = unmarked_causes s (ByCall q) (λ i. refl) (λ i j. refl) ms in omega (arith, a, b)

  by_exit_total : (x : ℕ) → all_causes (ByExit x) ≡ counts.site_exits x
  by_exit_total x = let a = site_exits acts xs x in let b = unmarked_causes s (ByExit x) (λ i. refl) (λ i j. refl) ms in omega (arith, a, b)

  -- ---- one cause, one effect

  alone : (c : Cause) (e : Effect) → causes s e ≡ c ∷ [] → effects s c ≡ e ∷ [] → all_effects e ≡ all_causes c
  alone c e a b = level s acts c e (used_alone s c e a) (made_alone s c e b) xs ms even

  -- ---- goals

  -- a goal that ends by way of itself, or of one part, alone
  ends_alone : (n j l : ℕ) (b : List Cause) (d : List Effect) (t : GoalExpr) (c : Cause) → IsAt s n b d (At l t) → vias n t ≡ j ∷ [] → made (program_findings s) n j t ≡ c ∷ [] → effects s c ≡ Ends n j ∷ []
      → causes_marked s (ByEnd n) ms ≡ all_causes c
  ends_alone n j l b d t c at via by leads =
      let way = ends_by_way s n ms in
      let one : sum_of (λ i. effects_marked s (Ends n i) ms) (vias_at n (slice_get (spots s) n)) ≡ effects_marked s (Ends n j) ms + 0 =
      ap (sum_of (λ i. effects_marked s (Ends n i) ms)) (vias_is s n l b d t at ∙ via) in
      let here = ends_total n j in
      let flow = alone c (Ends n j) (made_is s n j l b d t at ∙ by) leads in
      omega (arith, way, one, here, flow)

  -- the end of a part by way of which the goal n ends
  part_ends : (n j l : ℕ) (b : List Cause) (d : List Effect) (t : GoalExpr) → IsAt s n b d (At l t) → made (program_findings s) n j t ≡ ByEnd j ∷ [] → (c : List Cause) (p : HldsGoal) → IsAt s j c (Ends n j ∷ []) p
      → effects_marked s (Ends n j) ms ≡ causes_marked s (ByEnd j) ms
  part_ends n j l b d t at by c p part =
      let here = ends_total n j in
      let flow = alone (ByEnd j) (Ends n j) (made_is s n j l b d t at ∙ by) (ended_is s j c (Ends n j ∷ []) p part) in
      let there = end_total j in
      omega (arith, here, flow, there)

  sure_solves : (n l : ℕ) (b : List Cause) (d : List Effect) (g : Simple) → IsAt s n b d (At l (SimpleGoal g)) → (p : Option (Bool × ℕ))
      → turned (program_findings s) n (SimpleGoal g) ≡ once_turned n p → made (program_findings s) n n (SimpleGoal g) ≡ once_made n p → Solves found (if_one n p)
  sure_solves n l b d g at None t m = tt
  sure_solves n l b d g at (Some (true, c)) t m = tt
  sure_solves n l b d g at (Some (false, zero)) t m = tt
  sure_solves n l b d g at (Some (false, suc zero)) t m =
      let ends = ends_alone n n l b d (SimpleGoal g) (ByTurn n) at refl m (turned_is s n l b d (SimpleGoal g) at ∙ t) in
      let turns = turn_total n in
      (omega (arith, ends, turns), tt)
  sure_solves n l b d g at (Some (false, suc (suc c))) t m = tt

  never_ends : (n l : ℕ) (b : List Cause) (d : List Effect) (g : Simple) → IsAt s n b d (At l (SimpleGoal g)) → made (program_findings s) n n (SimpleGoal g) ≡ ByNothing n ∷ [] → causes_marked s (ByEnd n) ms ≡ 0
  never_ends n l b d g at by =
      let ends = ends_alone n n l b d (SimpleGoal g) (ByNothing n) at refl by (by_nothing_is s n) in
      let none = by_nothing_total n in omega (arith, ends, none)

  never_begins : (n l : ℕ) (b : List Cause) (d : List Effect) (x : ℕ) → IsAt s n b d (At l (SimpleGoal (Raises x))) → turns_of xs n ≡ 0
  never_begins n l b d x at =
      let flow = alone (ByTurn n) (Nothing n) (nothing_is s n) (turned_is s n l b d (SimpleGoal (Raises x)) at) in
      let turns = turn_total n in let none = nothing_total n in omega (arith, flow, turns, none)

  simple_solves : (n l : ℕ) (b : List Cause) (d : List Effect) (g : Simple) → IsAt s n b d (At l (SimpleGoal g)) → Solves found (simple_equations (program_findings s) n g)
  simple_solves n l b d Fails at = let none = never_ends n l b d Fails at refl in (omega (arith, none), tt)
  simple_solves n l b d (Raises x) at = let none = never_ends n l b d (Raises x) at refl in let never = never_begins n l b d x at in (omega (arith, never), (omega (arith, none), tt))
  simple_solves n l b d Succeeds at = sure_solves n l b d Succeeds at (pair_at (program_findings s) n) refl refl
  simple_solves n l b d (Unifies x t) at = sure_solves n l b d (Unifies x t) at (pair_at (program_findings s) n) refl refl
  simple_solves n l b d (Computes z x op y) at = sure_solves n l b d (Computes z x op y) at (pair_at (program_findings s) n) refl refl
  simple_solves n l b d (Compares x c y) at = sure_solves n l b d (Compares x c y) at (pair_at (program_findings s) n) refl refl
  simple_solves n l b d (WritesInt x y z) at = sure_solves n l b d (WritesInt x y z) at (pair_at (program_findings s) n) refl refl
  simple_solves n l b d (WritesText x y z) at = sure_solves n l b d (WritesText x y z) at (pair_at (program_findings s) n) refl refl
  simple_solves n l b d (EndsLine y z) at = sure_solves n l b d (EndsLine y z) at (pair_at (program_findings s) n) refl refl

  call_solves : (n l : ℕ) (b : List Cause) (d : List Effect) (t : GoalExpr) (x : ℕ) → IsAt s n b d (At l t) → is_at_site x t ≡ true → turned (program_findings s) n t ≡ CallsAt x ∷ [] → made (program_findings s) n n t ≡ ByExit x ∷ [] → vias n t ≡ n ∷ []
      → Solves found (call_equations counts n x)
  call_solves n l b d t x at is turns makes' via =
      let here : goal_of_site s x ≡ n = sited n l b d t x at is in
      let calls = alone (ByTurn n) (CallsAt x) (calls_at_is s x ∙ ap (λ (y : ℕ). ByTurn y ∷ []) here) (turned_is s n l b d t at ∙ turns) in
      let ends = ends_alone n n l b d t (ByExit x) at via makes' (by_exit_is s x ∙ ap (λ (y : ℕ). Ends y y ∷ []) here) in
      let a = turn_total n in let c = calls_at_total x in let e = by_exit_total x in
      (omega (arith, calls, a, c), (omega (arith, ends, e), tt))

  -- a part that begins by one cause
  begins_by : (c : Cause) (m : ℕ) (d : List Effect) (p : HldsGoal) → IsAt s m (c ∷ []) d p → effects s c ≡ Begins m ∷ [] → turns_of xs m ≡ all_causes c
  begins_by c m d p at leads = let flow = alone c (Begins m) (begun_is s m (c ∷ []) d p at) leads in let a = begins_total m in omega (arith, flow, a)

  -- ---- arms

  arms_end : (n l : ℕ) (b : List Cause) (d : List Effect) (all : HldsGoals) → IsAt s n b d (At l (DisjGoal all)) → (how : How) (m : ℕ) (ps : HldsGoals) → ArmsAt s n how m ps
      → total found (map Exits (numbers_from m ps)) ≡ sum_of (λ j. effects_marked s (Ends n j) ms) (numbers_from m ps)
  arms_end n l b d all at how m nothing arms = refl
  arms_end n l b d all at how m (also p ps) arms =
      let here = part_ends n m l b d (DisjGoal all) at refl (arm_begun n m how) p (arm_at s n how m p ps arms) in
      let more = arms_end n l b d all at (later how) (m + goal_size p) ps (next_arms s n how m p ps arms) in
      omega (arith, here, more)

  arms_begin : (n l : ℕ) (b : List Cause) (d : List Effect) (all : HldsGoals) → IsAt s n b d (At l (DisjGoal all)) → (m : ℕ) (ps : HldsGoals) → ArmsAt s n Chosen m ps
      → total found (map Entries (numbers_from m ps)) ≡ sum_of (λ j. effects_marked s (Picks n j) ms) (numbers_from m ps)
  arms_begin n l b d all at m nothing arms = refl
  arms_begin n l b d all at m (also p ps) arms =
      let here = begins_by (ByChoice n m) m (Ends n m ∷ []) p (arm_at s n Chosen m p ps arms) (chosen_is s n m l b d (DisjGoal all) at) in
      let same = choice_total n m in
      let more = arms_begin n l b d all at (m + goal_size p) ps (next_arms s n Chosen m p ps arms) in
      omega (arith, here, same, more)

  entering_solves : (n l : ℕ) (b : List Cause) (d : List Effect) (all : HldsGoals) → IsAt s n b d (At l (DisjGoal all)) → (o : Option Switch) → switch_at (program_findings s) n ≡ o → Solves found (entering n (numbers_from (suc n) all) o) × Solves found (choosing n (numbers_from (suc n) all) o)
  entering_solves n l b d nothing at None is = (tt, tt)
  entering_solves n l b d (also p ps) at None is =
      let arms : ArmsAt s n AtOnce (suc n) (also p ps) = subst (λ (w : Option Switch). ArmsAt s n (how_of w) (suc n) (also p ps)) is (arms_at s n l b d (also p ps) at) in
      let turns : effects s (ByTurn n) ≡ Begins (suc n) ∷ [] = turned_is s n l b d (DisjGoal (also p ps)) at ∙ ap (λ (w : Option Switch). arms_turned n (also p ps) (how_of w)) is in
      let begins = begins_by (ByTurn n) (suc n) (Ends n (suc n) ∷ []) p (arm_at s n AtOnce (suc n) p ps arms) turns in
      let a = turn_total n in ((omega (arith, begins, a), tt), tt)
  entering_solves n l b d all at (Some w) is = (tt, one_arm_solves w.whole refl all refl)
    where
      one_arm_solves : (x : Bool) → w.whole ≡ x → (ps : HldsGoals) → all ≡ ps → Solves found (one_arm n (numbers_from (suc n) all) x)
      one_arm_solves false whole ps same = tt
      one_arm_solves true whole ps same =
          let how : how_of (switch_at (program_findings s) n) ≡ Chosen = ap how_of is ∙ ap how_of_whole whole in
          let arms : ArmsAt s n Chosen (suc n) all = subst (λ (h : How). ArmsAt s n h (suc n) all) how (arms_at s n l b d all at) in
          let turns : effects s (ByTurn n) ≡ Chooses n ∷ [] = turned_is s n l b d (DisjGoal all) at ∙ (ap (arms_turned n all) how ∙ whole_turned all) in
          let flow = alone (ByTurn n) (Chooses n) (chooses_is s n) turns in
          let a = turn_total n in let c = chooses_total n in
          let way = chosen_by_way s n ms in
          let those : sum_of (λ j. effects_marked s (Picks n j) ms) (choices_at n (slice_get (spots s) n)) ≡ sum_of (λ j. effects_marked s (Picks n j) ms) (numbers_from (suc n) all) =
          ap (sum_of (λ j. effects_marked s (Picks n j) ms)) (choices_is s n l b d (DisjGoal all) at) in
          let begins = arms_begin n l b d all at (suc n) all arms in
          (omega (arith, flow, a, c, way, those, begins), tt)
        where
          whole_turned : (ps : HldsGoals) → arms_turned n ps Chosen ≡ Chooses n ∷ []
          whole_turned nothing = refl
          whole_turned (also p ps) = refl

  -- ---- if-then-else, negation

  -- a turn that leads to the condition, and to a choice
  asks : (n : ℕ) (d : List Effect) (c : HldsGoal) → IsAt s (suc n) (ByTurn n ∷ []) d c → effects s (ByTurn n) ≡ Begins (suc n) ∷ Chooses n ∷ [] → (turns_of xs (suc n) ≡ turns_of xs n) × (effects_marked s (Chooses n) ms ≡ turns_of xs n)
  asks n d c at turns =
      let one = level s acts (ByTurn n) (Begins (suc n)) (used_alone s (ByTurn n) (Begins (suc n)) (begun_is s (suc n) (ByTurn n ∷ []) d c at)) (made_first s (ByTurn n) (Begins (suc n)) (Chooses n) turns refl) xs ms even in
      let other = level s acts (ByTurn n) (Chooses n) (used_alone s (ByTurn n) (Chooses n) (chooses_is s n)) (made_second s (ByTurn n) (Begins (suc n)) (Chooses n) turns refl) xs ms even in
      let a = turn_total n in let b = begins_total (suc n) in let e = chooses_total n in
      (omega (arith, one, a, b), omega (arith, other, a, e))

  if_solves : (n l : ℕ) (b : List Cause) (d : List Effect) (c t e : HldsGoal) → IsAt s n b d (At l (IfGoal c t e)) → Solves found (if_equations n (suc n) (suc n + goal_size c) (suc n + goal_size c + goal_size t) [] [] [])
  if_solves n l b d c t e at =
      let m : ℕ = suc n + goal_size c in let k : ℕ = suc n + goal_size c + goal_size t in
      let cond' = condition_at s n l b d c t e at in let then' = then_at s n l b d c t e at in let else' = else_at s n l b d c t e at in
      let asked = asks n (Begins m ∷ []) c cond' (turned_is s n l b d (IfGoal c t e) at) in
      let begun : causes s (Begins m) ≡ ByEnd (suc n) ∷ ByChoice n m ∷ [] = begun_is s m (ByEnd (suc n) ∷ ByChoice n m ∷ []) (Ends n m ∷ []) t then' in
      let after = level s acts (ByEnd (suc n)) (Begins m) (used_first s (ByEnd (suc n)) (ByChoice n m) (Begins m) begun refl) (made_alone s (ByEnd (suc n)) (Begins m) (ended_is s (suc n) (ByTurn n ∷ []) (Begins m ∷ []) c cond')) xs ms even in
      let won = level s acts (ByChoice n m) (Begins m) (used_second s (ByEnd (suc n)) (ByChoice n m) (Begins m) begun refl) (made_alone s (ByChoice n m) (Begins m) (chosen_is s n m l b d (IfGoal c t e) at)) xs ms even in
      let lost = begins_by (ByChoice n k) k (Ends n k ∷ []) e else' (chosen_is s n k l b d (IfGoal c t e) at) in
      let a = begins_total m in let f = end_total (suc n) in let g = choice_total n m in let h = choice_total n k in
      let way = chosen_by_way s n ms in
      let those : sum_of (λ j. effects_marked s (Picks n j) ms) (choices_at n (slice_get (spots s) n)) ≡ sum_of (λ j. effects_marked s (Picks n j) ms) (m ∷ k ∷ []) =
      ap (sum_of (λ j. effects_marked s (Picks n j) ms)) (choices_is s n l b d (IfGoal c t e) at) in
      let ends = ends_by_way s n ms in
      let both : sum_of (λ j. effects_marked s (Ends n j) ms) (vias_at n (slice_get (spots s) n)) ≡ sum_of (λ j. effects_marked s (Ends n j) ms) (m ∷ k ∷ []) =
      ap (sum_of (λ j. effects_marked s (Ends n j) ms)) (vias_is s n l b d (IfGoal c t e) at) in
      let first = part_ends n m l b d (IfGoal c t e) at refl (ByEnd (suc n) ∷ ByChoice n m ∷ []) t then' in
      let second = part_ends n k l b d (IfGoal c t e) at refl (ByChoice n k ∷ []) e else' in
      let entered = asked.0 in let chose = asked.1 in
      (omega (arith, entered), (omega (arith, after, a, f), (omega (arith, chose, way, those, won, a, g, lost, h), (omega (arith, ends, both, first, second), tt))))

  not_solves : (n l : ℕ) (b : List Cause) (d : List Effect) (c : HldsGoal) → IsAt s n b d (At l (NotGoal c)) → Solves found (equals (Entries (suc n)) (Entries n) ∷ sums (Entries n) (Exits n ∷ Exits (suc n) ∷ []) ∷ [])
  not_solves n l b d c at =
      let inner = negated_at s n l b d c at in
      let asked = asks n (Picks n (suc n) ∷ []) c inner (turned_is s n l b d (NotGoal c) at) in
      let other : nat_eq n (suc n) ≡ false = other_number n (suc n) (omega arith) in
      let same : nat_eq n n ≡ true = same_number n in
      let refused = alone (ByEnd (suc n)) (Picks n (suc n)) (picked_is s n (suc n) l b d (NotGoal c) at ∙ ap (λ (x : Bool). cond x [] (ByEnd (suc n) ∷ [])) other) (ended_is s (suc n) (ByTurn n ∷ []) (Picks n (suc n) ∷ []) c inner) in
      let denied = ends_alone n n l b d (NotGoal c) (ByChoice n n) at refl refl (chosen_is s n n l b d (NotGoal c) at ∙ ap (λ (x : Bool). cond x (Ends n n ∷ []) []) same) in
      let a = picks_total n (suc n) in let f = end_total (suc n) in let g = choice_total n n in
      let way = chosen_by_way s n ms in
      let those : sum_of (λ j. effects_marked s (Picks n j) ms) (choices_at n (slice_get (spots s) n)) ≡ sum_of (λ j. effects_marked s (Picks n j) ms) (n ∷ suc n ∷ []) =
      ap (sum_of (λ j. effects_marked s (Picks n j) ms)) (choices_is s n l b d (NotGoal c) at) in
      let entered = asked.0 in let chose = asked.1 in
      (omega (arith, entered), (omega (arith, chose, way, those, refused, denied, a, f, g), tt))

  some_solves : (n l : ℕ) (b : List Cause) (d : List Effect) (vs : List ℕ) (c : HldsGoal) → IsAt s n b d (At l (SomeGoal vs c)) → Solves found (equals (Entries (suc n)) (Entries n) ∷ equals (Exits n) (Exits (suc n)) ∷ [])
  some_solves n l b d vs c at =
      let inner = quantified_at s n l b d vs c at in
      let begins = begins_by (ByTurn n) (suc n) (Ends n (suc n) ∷ []) c inner (turned_is s n l b d (SomeGoal vs c) at) in
      let ends = ends_alone n (suc n) l b d (SomeGoal vs c) (ByEnd (suc n)) at refl refl (ended_is s (suc n) (ByTurn n ∷ []) (Ends n (suc n) ∷ []) c inner) in
      let a = turn_total n in let f = end_total (suc n) in
      (omega (arith, begins, a), (omega (arith, ends, f), tt))

  -- ---- a goal and its parts

  -- the cause leads to the first of these parts of the conjunction of number n, or to its end where there is none
  abbrev LeadsOn : ℕ → Cause → ℕ → HldsGoals → Type 0
  LeadsOn n by m nothing = causes_marked s (ByEnd n) ms ≡ all_causes by
  LeadsOn n by m (also p ps) = effects s by ≡ Begins m ∷ []

  -- with the last of these parts, after that of number i, the conjunction ends
  abbrev EndsWith : ℕ → ℕ → ℕ → HldsGoals → Type 0
  EndsWith n i m ps = (j : ℕ) → last_from i m ps ≡ j → effects s (ByEnd j) ≡ Ends n j ∷ [] → causes_marked s (ByEnd n) ms ≡ all_causes (ByEnd j)

  leads_on : (n : ℕ) (by : Cause) (m : ℕ) (p : HldsGoal) (ps : HldsGoals) → IsAt s m (by ∷ []) (part_ended n m (m + goal_size p) ps) p → EndsWith n m (m + goal_size p) ps → LeadsOn n (ByEnd m) (m + goal_size p) ps
  leads_on n by m p nothing part last = last m refl (ended_is s m (by ∷ []) (Ends n m ∷ []) p part)
  leads_on n by m p (also q qs) part last = ended_is s m (by ∷ []) (Begins (m + goal_size p) ∷ []) p part

  conjunction_leads : (n l : ℕ) (b : List Cause) (d : List Effect) (ps : HldsGoals) → IsAt s n b d (At l (ConjGoal ps)) → LeadsOn n (ByTurn n) (suc n) ps
  conjunction_leads n l b d nothing at = ends_alone n n l b d (ConjGoal nothing) (ByTurn n) at refl refl (turned_is s n l b d (ConjGoal nothing) at)
  conjunction_leads n l b d (also p ps) at = turned_is s n l b d (ConjGoal (also p ps)) at

  conjunction_ends : (n l : ℕ) (b : List Cause) (d : List Effect) (ps : HldsGoals) → IsAt s n b d (At l (ConjGoal ps)) → EndsWith n n (suc n) ps
  conjunction_ends n l b d nothing at j is leads = subst (λ (x : ℕ). causes_marked s (ByEnd n) ms ≡ all_causes (ByEnd x)) is (sym (end_total n))
  conjunction_ends n l b d (also p ps) at j is leads = ends_alone n j l b d (ConjGoal (also p ps)) (ByEnd j) at (ap (λ (x : ℕ). x ∷ []) is) refl leads

  mutual
    goal_solves : (n : ℕ) (b : List Cause) (d : List Effect) (p : HldsGoal) → IsAt s n b d p → Solves found (goal_equations (program_findings s) counts n p)
    goal_solves n b d (At l t) at = expr_solves n l b d t at

    expr_solves : (n l : ℕ) (b : List Cause) (d : List Effect) (t : GoalExpr) → IsAt s n b d (At l t) → Solves found (expr_equations (program_findings s) counts n t)
    expr_solves n l b d (SimpleGoal g) at = simple_solves n l b d g at
    expr_solves n l b d (CallGoal x q ys) at = call_solves n l b d (CallGoal x q ys) x at (same_number x) refl refl refl
    expr_solves n l b d (HoCallGoal x f ys) at = call_solves n l b d (HoCallGoal x f ys) x at (same_number x) refl refl refl
    expr_solves n l b d (ConjGoal ps) at = parts_solve n (ByTurn n) (Entries n) (sym (turn_total n)) n (suc n) ps (parts_at s n l b d ps at) (conjunction_leads n l b d ps at) (conjunction_ends n l b d ps at)
    expr_solves n l b d (DisjGoal ps) at =
        let how : How = how_of (switch_at (program_findings s) n) in
        let arms = arms_at s n l b d ps at in
        let way = ends_by_way s n ms in
        let those : sum_of (λ j. effects_marked s (Ends n j) ms) (vias_at n (slice_get (spots s) n)) ≡ sum_of (λ j. effects_marked s (Ends n j) ms) (numbers_from (suc n) ps) =
        ap (sum_of (λ j. effects_marked s (Ends n j) ms)) (vias_is s n l b d (DisjGoal ps) at) in
        let ends = arms_end n l b d ps at how (suc n) ps arms in
        let enters = entering_solves n l b d ps at (switch_at (program_findings s) n) refl in
        solves_append found (entering n (numbers_from (suc n) ps) (switch_at (program_findings s) n)) _ enters.0
        (solves_append found (arm_equations (program_findings s) counts (suc n) ps) _ (arms_solve n how (suc n) ps arms) (omega (arith, way, those, ends), enters.1))
    expr_solves n l b d (IfGoal c t e) at =
        let h = if_solves n l b d c t e at in (
          h.0,
          solves_append found (goal_equations (program_findings s) counts (suc n) c) _ (goal_solves (suc n) _ _ c (condition_at s n l b d c t e at)) (
            h.1.0,
            solves_append found (goal_equations (program_findings s) counts (suc n + goal_size c) t) _ (goal_solves (suc n + goal_size c) _ _ t (then_at s n l b d c t e at)) (
              h.1.1.0,
              solves_append found (goal_equations (program_findings s) counts (suc n + goal_size c + goal_size t) e) _ (goal_solves (suc n + goal_size c + goal_size t) _ _ e (else_at s n l b d c t e at))
                  (h.1.1.1.0, tt),
            ),
          ),
        )
    expr_solves n l b d (NotGoal c) at =
        let h = not_solves n l b d c at in (h.0, solves_append found (goal_equations (program_findings s) counts (suc n) c) _ (goal_solves (suc n) _ _ c (negated_at s n l b d c at)) (h.1.0, tt))
    expr_solves n l b d (SomeGoal vs c) at =
        let h = some_solves n l b d vs c at in (h.0, solves_append found (goal_equations (program_findings s) counts (suc n) c) _ (goal_solves (suc n) _ _ c (quantified_at s n l b d vs c at)) (h.1.0, tt))

    -- the parts from here on, where the quantity `before` is as often as the cause that leads to the first of them; the
    -- conjunction ends with the last
    parts_solve : (n : ℕ) (by : Cause) (before : Quantity) → value found before ≡ all_causes by → (i m : ℕ) (ps : HldsGoals) → PartsAt s n by m ps → LeadsOn n by m ps → EndsWith n i m ps
        → Solves found (each_equations (program_findings s) counts n before m ps)
    parts_solve n by before worth i m nothing parts leads last = (omega (arith, leads, worth), tt)
    parts_solve n by before worth i m (also p ps) parts leads last =
        let part = part_at s n by m p ps parts in
        let begins = begins_by by m (part_ended n m (m + goal_size p) ps) p part leads in (
          omega (arith, begins, worth),
          solves_append found (goal_equations (program_findings s) counts m p) _ (goal_solves m _ _ p part)
              (parts_solve n (ByEnd m) (Exits m) (sym (end_total m)) m (m + goal_size p) ps (next_parts s n by m p ps parts) (leads_on n by m p ps part last) last),
        )

    arms_solve : (n : ℕ) (how : How) (m : ℕ) (ps : HldsGoals) → ArmsAt s n how m ps → Solves found (arm_equations (program_findings s) counts m ps)
    arms_solve n how m nothing arms = tt
    arms_solve n how m (also p ps) arms =
        solves_append found (goal_equations (program_findings s) counts m p) _ (goal_solves m _ _ p (arm_at s n how m p ps arms)) (arms_solve n (later how) (m + goal_size p) ps (next_arms s n how m p ps arms))

  -- ---- a procedure

  pub procedure_solves : (q : ℕ × Procedure) → slice_get s.procedures q.0 ≡ Some q.1 → Solves found (equations s counts q)
  procedure_solves q at =
      let body : ℕ = body_number s q.0 in
      let placed = body_at s q at in
      let begins = begins_by (ByCall q.0) body (ExitsOf q.0 ∷ []) q.1.body placed (by_call_is s q.0) in
      let ends = alone (ByEnd body) (ExitsOf q.0) (exits_of_is s q.0) (ended_is s body (ByCall q.0 ∷ []) (ExitsOf q.0 ∷ []) q.1.body placed) in
      let a = by_call_total q.0 in let b = exits_of_total q.0 in let c = end_total body in
      (omega (arith, begins, a), (omega (arith, ends, b, c), goal_solves body _ _ q.1.body placed))
