-- What holds at a turn of an accepted program: a goal that succeeds once doesn't fail, a disjunction is the switch that the
-- checks found, and a switch with no functor missing takes an arm.
use Rattle.std.proofs.Common.{◌≡◌, refl, sym, ap, ◌∙◌, subst, arith, ℕ, suc, ◌≤◌, Bool, true, false, List, [], ◌++◌, Option, Some, None, slice_get}
use Rattle.md_hlds.specs.HldsGoal.{Simple, Succeeds, Fails, Unifies, Computes, Compares, WritesInt, WritesText, EndsLine, Raises, At, SimpleGoal, DisjGoal, HldsGoals, Numbered, numbered_goal, numbered_from}
use Rattle.md_hlds.specs.Hlds.{Hlds}
use Rattle.md_hlds.specs.Value.{Value, Number, Literal, Built, Closure, Env, value_at}
use Rattle.md_hlds.specs.Simple.{Outcome, No, simple, raise}
use Rattle.md_hlds.specs.Switch.{Key, switch_shape, arm_for}
use Rattle.md_hlds.specs.Trace.{Frame, alone, trace, after_simple}
use Rattle.md_reader.specs.Grammar.{Spells}
use Rattle.md_inst.specs.Instantiation.{Instantiation, free, has, InstMap, known_at}
use Rattle.md_modes.specs.Goals.{parts_variables}
use Rattle.md_modes.specs.Modes.{mode_fault}
use Rattle.md_det.specs.declared.finding.Finding.{Finding}
use Rattle.md_det.specs.declared.finding.Switch.{Switch}
use Rattle.md_det.specs.declared.pair.Pair.{Pair}
use Rattle.md_det.specs.Switches.{is_whole, switch_on_known, switch_with, switch_of}
use Rattle.md_det.specs.Determinism.{goal_pair}
use Rattle.md_det.specs.Faults.{det_fault}
use Rattle.md_det.specs.Findings.{program_findings, switch_of_finding, pair_of_finding, number_of, switch_at, pair_at}
use Rattle.law_safety.specs.Values.{Agrees, Fits}
use Rattle.law_safety.specs.Known.{place, switches_on, goals_variables, FitsAt}
use Rattle.law_safety.specs.GoalAnswers.{AnswersAsPair, AnswersAt, TakesArm, found_at}
use Rattle.law_safety.specs.Unfolding.{switch_value}
use Rattle.law_safety.proofs.Safe.{fits_left}
use Rattle.law_safety.proofs.SwitchLemmas.{shape_occurs}
use Rattle.law_safety.proofs.GoalLaws.{answers_at_a_turn, whole_switches_take_an_arm}
use Rattle.law_safety.proofs.FoundGoals.{pairs_are_found}
use Rattle.law_turns.proofs.Flow.{simple_turned, once_turned}

-- ---- simple goals

-- a pair that may fail isn't that of one success
may_fail_turned : (n : ℕ) (b : Bool) (c : ℕ) → (b ≡ false → ⊥) → once_turned n (Some (b, c)) ≡ []
may_fail_turned n true c sure = refl
may_fail_turned n false c sure = absurd (sure refl)

found_turned : (n : ℕ) (o : Option Finding) (f : Finding) → o ≡ Some f → (f.pair.may_fail ≡ false → ⊥) → once_turned n (pair_of_finding o) ≡ []
found_turned n o f is sure = rw is (may_fail_turned n f.pair.may_fail (number_of f.pair.bound) sure)

never_fails : (s : Hlds) (f : Frame) (n l : ℕ) (g : Simple) (extra : ℕ) (p : Pair) → simple s f.env g ≡ No extra → AnswersAt s f n (At l (SimpleGoal g)) p 1 0 → p.may_fail ≡ false → ⊥
never_fails s f n l g extra p is answers sure =
    let go : Frame → List Frame → ℕ → _ = λ f js k. trace s 0 f js k in
    let there : AnswersAt s f n (At l (SimpleGoal g)) p 1 0 = answers in
    let none : 1 ≤ 0 = (subst (λ (o : Outcome). (Rattle.md_hlds.specs.Run.HasNoDeep (after_simple go (alone f (numbered_goal n (At l (SimpleGoal g)))) n [] [] 0 o))
    → (Rattle.md_hlds.specs.Run.is_thrown (after_simple go (alone f (numbered_goal n (At l (SimpleGoal g)))) n [] [] 0 o) ≡ false)
    → AnswersAsPair p (after_simple go (alone f (numbered_goal n (At l (SimpleGoal g)))) n [] [] 0 o)) is there tt refl).at_least_one sure in
    absurd (omega (arith, none))

raised_no : (o : Option Value) (extra : ℕ) → raise o ≡ No extra → ⊥
raised_no None extra is = cc
raised_no (Some (Number i)) extra is = cc
raised_no (Some (Literal i)) extra is = cc
raised_no (Some (Built f vs)) extra is = cc
raised_no (Some (Closure q vs)) extra is = cc

-- where a simple goal fails, its turn leads to nothing
pub fails_turned : (bytes : List ℕ) (s : Hlds) → Spells bytes s → mode_fault s ≡ None → det_fault s ≡ None → (f : Frame) (n l : ℕ) (g : Simple) (goals : List Numbered)
    → FitsAt s f.env (numbered_goal n (At l (SimpleGoal g))) goals → (extra : ℕ) → simple s f.env g ≡ No extra → simple_turned n g (pair_at (program_findings s) n) ≡ []
fails_turned bytes s spells modes det f n l g goals turn extra is =
    let found = pairs_are_found s turn.procedure turn.strict n (At l (SimpleGoal g)) turn.known turn.at turn.before in
    let p : Pair = goal_pair (place s turn.procedure.1 turn.strict) (switches_on turn.before) (At l (SimpleGoal g)) turn.known in
    let once : once_turned n (pair_at (program_findings s) n) ≡ [] =
    found_turned n (slice_get (program_findings s) n) (found_at s turn.procedure.1 turn.strict (switches_on turn.before) (At l (SimpleGoal g)) turn.known) found
    (never_fails s f n l g extra p is (answers_at_a_turn bytes s spells modes det f (numbered_goal n (At l (SimpleGoal g))) goals turn 1 0)) in
    by_kind s f.env n g extra (pair_at (program_findings s) n) is once
  where
    by_kind : (s : Hlds) (e : Env) (n : ℕ) (g : Simple) (extra : ℕ) (p : Option (Bool × ℕ)) → simple s e g ≡ No extra → once_turned n p ≡ [] → simple_turned n g p ≡ []
    by_kind s e n Fails extra p is once = refl
    by_kind s e n (Raises x) extra p is once = absurd (raised_no (value_at e x) extra is)
    by_kind s e n Succeeds extra p is once = once
    by_kind s e n (Unifies x t) extra p is once = once
    by_kind s e n (Computes z a op b) extra p is once = once
    by_kind s e n (Compares a cmp b) extra p is once = once
    by_kind s e n (WritesInt x b a) extra p is once = once
    by_kind s e n (WritesText x b a) extra p is once = once
    by_kind s e n (EndsLine b a) extra p is once = once

-- ---- disjunctions

-- the switch that the checks found, by the value that a disjunction switches on
abbrev IsSwitched : Hlds → Option Switch → Option (ℕ × List Key) → Option Value → Type 0
IsSwitched s w shape None = w ≡ None
IsSwitched s w None (Some v) = ⊥
IsSwitched s w (Some k) (Some v) = w ≡ Some (record { var = k.0; whole = is_whole s k.1 })

known_switched : (s : Hlds) (k : ℕ × List Key) (i : Instantiation) (o : Option Value) → Agrees s o i → IsSwitched s (switch_on_known s k.0 k.1 i) (Some k) o
known_switched s k free None h = refl
known_switched s k free (Some v) h = elim h [ ]
known_switched s k (has t used) None h = elim h [ ]
known_switched s k (has t used) (Some v) h = refl

shape_switched : (s : Hlds) (ps : HldsGoals) (kn : InstMap) (e : Env) (o : Option (ℕ × List Key)) → switch_shape s ps ≡ o → Fits s (parts_variables ps) kn e → IsSwitched s (switch_with s o kn) o (switch_value o e)
shape_switched s ps kn e None shape fits = refl
shape_switched s ps kn e (Some k) shape fits = known_switched s k (known_at kn k.0) (value_at e k.0) (fits.each k.0 (shape_occurs s ps k.0 k.1 shape))

here_fits : (s : Hlds) (e : Env) (n l : ℕ) (ps : HldsGoals) (goals : List Numbered) → (turn : FitsAt s e (numbered_goal n (At l (DisjGoal ps))) goals) → Fits s (parts_variables ps) turn.known e
here_fits s e n l ps goals turn = fits_left s (parts_variables ps) (goals_variables goals ++ turn.procedure.1.head) turn.known e turn.fits

switch_is_found : (s : Hlds) (e : Env) (n l : ℕ) (ps : HldsGoals) (goals : List Numbered) → (turn : FitsAt s e (numbered_goal n (At l (DisjGoal ps))) goals) → switch_at (program_findings s) n ≡ switch_of s ps turn.known
switch_is_found s e n l ps goals turn =
    ap switch_of_finding (pairs_are_found s turn.procedure turn.strict n (At l (DisjGoal ps)) turn.known turn.at turn.before)

switched_at : (s : Hlds) (e : Env) (n l : ℕ) (ps : HldsGoals) (goals : List Numbered) → FitsAt s e (numbered_goal n (At l (DisjGoal ps))) goals
    → IsSwitched s (switch_at (program_findings s) n) (switch_shape s ps) (switch_value (switch_shape s ps) e)
switched_at s e n l ps goals turn =
    subst (λ (w : Option Switch). IsSwitched s w (switch_shape s ps) (switch_value (switch_shape s ps) e)) (sym (switch_is_found s e n l ps goals turn))
    (shape_switched s ps turn.known e (switch_shape s ps) refl (here_fits s e n l ps goals turn))

-- without a value it is no switch
pub no_switch : (s : Hlds) (e : Env) (n l : ℕ) (ps : HldsGoals) (goals : List Numbered) → FitsAt s e (numbered_goal n (At l (DisjGoal ps))) goals → switch_value (switch_shape s ps) e ≡ None
    → switch_at (program_findings s) n ≡ None
no_switch s e n l ps goals turn none = subst (λ (o : Option Value). IsSwitched s (switch_at (program_findings s) n) (switch_shape s ps) o) none (switched_at s e n l ps goals turn)

-- with one it is a switch
pub a_switch : (s : Hlds) (e : Env) (n l : ℕ) (ps : HldsGoals) (goals : List Numbered) → FitsAt s e (numbered_goal n (At l (DisjGoal ps))) goals → (k : ℕ × List Key) (v : Value) → switch_shape s ps ≡ Some k → value_at e k.0 ≡ Some v
    → switch_at (program_findings s) n ≡ Some (record { var = k.0; whole = is_whole s k.1 })
a_switch s e n l ps goals turn k v shape value =
    subst (λ (o : Option Value). IsSwitched s (switch_at (program_findings s) n) (Some k) o) value
    (subst (λ (c : Option (ℕ × List Key)). IsSwitched s (switch_at (program_findings s) n) c (switch_value c e)) shape (switched_at s e n l ps goals turn))

no_arm : (k : ℕ × List Key) (x : ℕ) (keys : List Key) (v w : Value) (q : Numbered) (ps : List Numbered) → Some k ≡ Some (x, keys) → Some v ≡ Some w → arm_for v k.1 ps ≡ None → arm_for w keys ps ≡ Some q → ⊥
no_arm k x keys v w q ps same value none takes =
    let vs : v ≡ w = cc value in
    let ks : k ≡ (x, keys) = cc same in
    let there : arm_for v k.1 ps ≡ Some q = rw (vs, ks) takes in
    absurd (cc (there, none))

-- and one with no functor missing takes an arm
pub takes_an_arm : (bytes : List ℕ) (s : Hlds) → Spells bytes s → mode_fault s ≡ None → (e : Env) (n l : ℕ) (ps : HldsGoals) (goals : List Numbered) → FitsAt s e (numbered_goal n (At l (DisjGoal ps))) goals
    → (k : ℕ × List Key) (v : Value) → switch_shape s ps ≡ Some k → value_at e k.0 ≡ Some v → is_whole s k.1 ≡ true → arm_for v k.1 (numbered_from (suc n) ps) ≡ None → ⊥
takes_an_arm bytes s spells modes e n l ps goals turn k v shape value whole none =
    let w : Switch = record { var = k.0; whole = is_whole s k.1 } in
    let arm : TakesArm s e k.0 n ps = whole_switches_take_an_arm bytes s spells modes turn.procedure turn.strict n l ps turn.known turn.at turn.before e (here_fits s e n l ps goals turn) w
    (sym (switch_is_found s e n l ps goals turn) ∙ a_switch s e n l ps goals turn k v shape value) whole in
    let shapes = arm.shape in let values = arm.has_value in let takes = arm.takes in
    no_arm k k.0 arm.keys v arm.value arm.taken (numbered_from (suc n) ps) (sym shape ∙ shapes) (sym value ∙ values) none takes
