-- What calls copy, what simple goals lead to, and the turn of a switch, computed.
use Rattle.std.proofs.Common.{◌≡◌, refl, ℕ, false, List, [], ◌∷◌, Some, None}
use Rattle.std.specs.Prelude.{codes}
use Rattle.md_hlds.specs.declared.types.Mode.{Mode}
use Rattle.md_hlds.specs.declared.types.Mode.TheVariants.{In, Out, Di, Uo}
use Rattle.md_hlds.specs.HldsGoal.{HldsGoal, HldsGoals, gathered, numbered_goal}
use Rattle.md_hlds.specs.Hlds.{HldsType, number, world}
use Rattle.md_hlds.specs.Value.{Value, Built, no_values}
use Rattle.md_hlds.specs.Trace.{Alloc, Out as WritesOut, Throw}
use Rattle.law_steps.specs.State.{State}
use Rattle.md_modes.proofs.Worked.{conj, is_int, made, code}
use Rattle.law_frames.specs.Ways.{Address, Way, tries, part_way}
use Rattle.law_frames.specs.Stores.{Act, Choice, Store, with_value}
use Rattle.law_frames.specs.Standing.{Runs, Misses, Raises}
use Rattle.law_fits.specs.Fast.{Puts, Bursts}
use Rattle.law_fits.specs.Fast.{Misses as MissesBy}
use Rattle.md_code.specs.Leaves.{leaves_table}
use Rattle.law_runs.specs.FitRuns.{FitsTurn, AfterEffect, AfterSwitch, outs_of, ins_of}

-- ---- calls

-- p(A::in, B::out, IO0::di, IO::uo)
abbrev args : List (HldsType × Mode)
args = (number, In) ∷ (number, Out) ∷ (world, Di) ∷ (world, Uo) ∷ []

copies_in : ins_of args (0 ∷ 1 ∷ 2 ∷ 3 ∷ []) (7 ∷ 8 ∷ 5 ∷ 6 ∷ []) ≡ (0, 7) ∷ (2, 5) ∷ []
copies_in = refl

copies_out : outs_of args (0 ∷ 1 ∷ 2 ∷ 3 ∷ []) (7 ∷ 8 ∷ 5 ∷ 6 ∷ []) ≡ (1, 8) ∷ (3, 6) ∷ []
copies_out = refl

-- a closure has captured the first argument
copies_out_of_a_closure : outs_of ((number, Out) ∷ (world, Di) ∷ (world, Uo) ∷ []) (1 ∷ 2 ∷ 3 ∷ []) (8 ∷ 5 ∷ 6 ∷ []) ≡ (1, 8) ∷ (3, 6) ∷ []
copies_out_of_a_closure = refl

-- ---- a disjunction

-- ( C = red, N = 1 ; C = green, N = 2 ), the goals 1 to 7 of the program
abbrev red_arm : HldsGoal
red_arm = conj 5 (made 5 0 (codes "red") [] ∷ is_int 5 1 1 ∷ [])

abbrev green_arm : HldsGoal
green_arm = conj 5 (made 5 0 (codes "green") [] ∷ is_int 5 1 2 ∷ [])

abbrev colours : HldsGoals
colours = gathered (red_arm ∷ green_arm ∷ [])

module _ (st : State) (S : Store) (a : Address) (w : Way) (x : Act) (c : List Act) (cs : List Choice) (k : ℕ) where
  -- C has this value
  abbrev coloured : List ℕ → Store
  coloured name = record { values = λ i y. Built name no_values; heights = S.heights; acts = S.acts }

  -- the switch on C takes the arm of the value, and fails where there is none
  green_is_taken : AfterSwitch code st (coloured (codes "green")) 1 a w x c cs k colours (Some (record { var = 0; whole = false }))
      → FitsTurn code st x.number 1 1 [] (coloured (codes "green")) (Runs (part_way (leaves_table code) 1 a (numbered_goal 5 green_arm) w) x c) cs k
  green_is_taken h = h

  blue_fails : AfterSwitch code st (coloured (codes "blue")) 1 a w x c cs k colours (Some (record { var = 0; whole = false })) → FitsTurn code st x.number 1 1 [] (coloured (codes "blue")) (Misses a x c) cs k
  blue_fails h = h

  -- what is no switch tries its arms
  arms_are_tried : AfterSwitch code st S 1 a w x c cs k colours None → FitsTurn code st x.number 1 1 [] S (Misses (tries (numbered_goal 2 red_arm) (numbered_goal 5 green_arm ∷ []) a w) x c) cs k
  arms_are_tried h = h

  -- ---- simple goals

  writes_lead_on : (v : Value) → AfterEffect code st S 3 a w x c cs k (Puts ((0, v) ∷ []) 2 2 (Some (codes "y"))) → FitsTurn code st x.number 3 3 (Alloc x.number 2 ∷ WritesOut (codes "y") ∷ []) (with_value S x.index 0 v) (Runs w x c) cs k
  writes_lead_on v h = h

  misses_fail : AfterEffect code st S 3 a w x c cs k (MissesBy 1) → FitsTurn code st x.number 3 2 [] S (Misses a x c) cs k
  misses_fail h = h

  throws_leave : AfterEffect code st S 3 a w x c cs k (Bursts (codes "oh")) → FitsTurn code st x.number 3 1 (Throw (codes "oh") ∷ []) S (Raises (x ∷ c)) cs k
  throws_leave h = h
