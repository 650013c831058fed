-- A goal at its place in a clause has as many answers as its pair says, and a whole switch takes an arm there.
use Rattle.std.proofs.Common.{◌≡◌, refl, ap, ◌∙◌, subst, arith, ℕ, suc, ◌+◌, ◌≤◌, Bool, true, false, ◌||◌, List, [], ◌∷◌, ◌++◌, Option, Some, None, Ok, slice_get}
use Rattle.std.proofs.lemmas.Bool.{false≢true}
use Rattle.std.specs.Prelude.{⊤}
use Rattle.md_hlds.specs.HldsGoal.{HldsGoal, At, ConjGoal, DisjGoal, IfGoal, NotGoal, SomeGoal, HldsGoals, nothing, also, goal_size, Numbered, numbered_goal, numbered_from}
use Rattle.md_hlds.specs.Hlds.{Procedure, Hlds}
use Rattle.md_hlds.specs.Value.{Value, Env, value_at}
use Rattle.md_hlds.specs.Switch.{Key, keys_of, switch_shape, has_the_key, arm_for}
use Rattle.md_hlds.specs.Trace.{Items, Frame}
use Rattle.md_hlds.specs.Run.{HasNoDeep, is_thrown}
use Rattle.md_reader.specs.Grammar.{Spells}
use Rattle.md_inst.specs.Instantiation.{Instantiation, free, has, InstMap, known_at, times}
use Rattle.md_modes.specs.Branches as branch
use Rattle.md_modes.specs.Branches.{After, outside}
use Rattle.md_modes.specs.Goals.{variables, parts_variables, clause_variables, goal, each, arms}
use Rattle.md_modes.specs.Modes.{entry, end, scope_of, mode_fault}
use Rattle.md_modes.proofs.Counts.{times-append}
use Rattle.md_det.specs.declared.finding.Switch.{Switch}
use Rattle.md_det.specs.declared.pair.Bound.{Bound}
use Rattle.md_det.specs.declared.pair.Bound.TheVariants.{One}
use Rattle.md_det.specs.declared.pair.Pair.{Pair}
use Rattle.md_det.specs.Pairs.{pair}
use Rattle.md_det.specs.Switches.{is_whole, switch_on_known, switch_with, switch_of}
use Rattle.md_det.specs.Determinism.{goal_pair}
use Rattle.md_det.specs.Faults.{det_fault}
use Rattle.law_safety.specs.Values.{Agrees, Fits}
use Rattle.law_safety.specs.Turns.{IsTidy, AreTidy}
use Rattle.law_safety.specs.Known as known
use Rattle.law_safety.specs.Known.{place, Begins, BeginsParts, BeginsArms, switches_on, IsChosen, goals_variables, FitsAt}
use Rattle.law_safety.specs.GoalAnswers.{AnswersAsPair, goal_trace, AnswersAt, TakesArm}
use Rattle.law_safety.proofs.Items.{Fine}
use Rattle.law_safety.proofs.Environments.{fits_fewer}
use Rattle.law_safety.proofs.Verdicts.{ok_then}
use Rattle.law_safety.proofs.Accepted.{if_ok, not_ok, some_ok, each_ok, arms_ok}
use Rattle.law_safety.proofs.Safe.{Proper, HasRoom, fits_left, answers, claim}
use Rattle.law_safety.proofs.Whole.{proper}
use Rattle.law_safety.proofs.TypesDiffer.{TypesDiffer, types_differ}
use Rattle.law_safety.proofs.SwitchLemmas.{first_keys, shape_keys, shape_occurs, has_some_key, whole_any}
use Rattle.law_safety.proofs.ChosenArms.{keyed_arm}
use Rattle.law_safety.proofs.Counting.{Meets, meets_last, IsWithin}
use Rattle.law_safety.proofs.Tally.{Judged, answered, tally}
use Rattle.law_safety.proofs.Declared.{judged, none_left, one_left, one_there}

-- ---- each goal that the mode rules come to is accepted, tidy, and one of its clause

record Stands (s : Hlds) (q : ℕ × Procedure) (b : Bool) (p : HldsGoal) (kn : InstMap) : Type 0 where
  after : After
  accepted : goal (place s q.1 b) p kn ≡ Ok after
  tidy : IsTidy p
  room : (x : ℕ) → times x (variables p) ≤ times x (clause_variables q.1)

record StandsParts (s : Hlds) (q : ℕ × Procedure) (b : Bool) (ps : HldsGoals) (kn : InstMap) : Type 0 where
  after : After
  accepted : each (place s q.1 b) ps kn ≡ Ok after
  tidy : AreTidy ps
  room : (x : ℕ) → times x (parts_variables ps) ≤ times x (clause_variables q.1)

record StandsArms (s : Hlds) (q : ℕ × Procedure) (b : Bool) (ps : HldsGoals) (kn : InstMap) : Type 0 where
  ends : List After
  accepted : arms (place s q.1 b) ps kn ≡ Ok ends
  tidy : AreTidy ps
  room : (x : ℕ) → times x (parts_variables ps) ≤ times x (clause_variables q.1)

disjunction_stands : (s : Hlds) (q : ℕ × Procedure) (b : Bool) (l : ℕ) (ps : HldsGoals) (kn : InstMap) → Stands s q b (At l (DisjGoal ps)) kn → StandsArms s q b ps kn
disjunction_stands s q b l ps kn h =
    let o = ok_then (arms (place s q.1 b) ps kn) (λ ends. branch.joined l (outside (clause_variables q.1) (parts_variables ps)) kn ends) h.after h.accepted in
    record { ends = o.0; accepted = o.1; tidy = h.tidy; room = h.room }

mutual
  stands : (s : Hlds) → Proper s → (q : ℕ × Procedure) → slice_get s.procedures q.0 ≡ Some q.1 → (b : Bool) (n : ℕ) (p : HldsGoal) (kn : InstMap) → Begins s q b n p kn → Stands s q b p kn
  stands s proper q at _ _ _ _ known.body =
      let ok = ok_then (goal (scope_of s q.1) q.1.body (entry q.1)) (λ b. end q.1 b) tt (proper.accepted q.0 q.1 at) in
      record { after = ok.0; accepted = ok.1; tidy = proper.tidy q.0 q.1 at; room = λ x. let e = times-append x q.1.head (variables q.1.body) in omega (arith, e) }
  stands s proper q at _ _ _ _ (known.part b n p ps kn h) =
      let all = parts_stand s proper q at b n (also p ps) kn h in
      let o = each_ok (place s q.1 b) p ps kn all.after all.accepted in
      record { after = o.first; accepted = o.begins; tidy = all.tidy.0; room = λ x. let r = all.room x in let e = times-append x (variables p) (parts_variables ps) in omega (arith, r, e) }
  stands s proper q at _ _ _ _ (known.arm b n p ps kn h) =
      let all = arms_stand s proper q at b n (also p ps) kn h in
      let o = arms_ok (place s q.1 b) p ps kn all.ends all.accepted in
      record { after = o.first; accepted = o.begins; tidy = all.tidy.0; room = λ x. let r = all.room x in let e = times-append x (variables p) (parts_variables ps) in omega (arith, r, e) }
  stands s proper q at _ _ _ _ (known.condition b n l c t e kn h) =
      let all = stands s proper q at b n (At l (IfGoal c t e)) kn h in
      let o = if_ok (place s q.1 b) l c t e kn all.after all.accepted in
      record { after = o.condition; accepted = o.begins; tidy = all.tidy.0; room = λ x. let r = all.room x in let f = times-append x (variables c) (variables t ++ variables e) in omega (arith, r, f) }
  stands s proper q at _ _ _ _ (known.then b n l c t e kn a h is) =
      let all = stands s proper q at b n (At l (IfGoal c t e)) kn h in
      let o = if_ok (place s q.1 b) l c t e kn all.after all.accepted in
      let same : o.condition ≡ a = cc (o.begins, is) in
      record {
        after = o.then;
        accepted = subst (λ (d : After). goal (place s q.1 b) t d.known ≡ Ok o.then) same o.wins;
        tidy = all.tidy.1.0;
        room = λ x. let r = all.room x in let f = times-append x (variables c) (variables t ++ variables e) in let g = times-append x (variables t) (variables e) in omega (arith, r, f, g);
      }
  stands s proper q at _ _ _ _ (known.else b n l c t e kn h) =
      let all = stands s proper q at b n (At l (IfGoal c t e)) kn h in
      let o = if_ok (place s q.1 b) l c t e kn all.after all.accepted in
      record {
        after = o.else;
        accepted = o.loses;
        tidy = all.tidy.1.1;
        room = λ x. let r = all.room x in let f = times-append x (variables c) (variables t ++ variables e) in let g = times-append x (variables t) (variables e) in omega (arith, r, f, g);
      }
  stands s proper q at _ _ _ _ (known.negated b n l c kn h) =
      let all = stands s proper q at b n (At l (NotGoal c)) kn h in
      let o = not_ok (place s q.1 b) l c kn all.after all.accepted in
      record { after = o.inner; accepted = o.begins; tidy = all.tidy; room = all.room }
  stands s proper q at _ _ _ _ (known.quantified b n l vs c kn h) =
      let all = stands s proper q at b n (At l (SomeGoal vs c)) kn h in
      let o = some_ok (place s q.1 b) l vs c kn all.after all.accepted in
      record { after = o.inner; accepted = o.begins; tidy = all.tidy; room = λ x. let r = all.room x in let e = times-append x vs (variables c) in omega (arith, r, e) }

  parts_stand : (s : Hlds) → Proper s → (q : ℕ × Procedure) → slice_get s.procedures q.0 ≡ Some q.1 → (b : Bool) (n : ℕ) (ps : HldsGoals) (kn : InstMap) → BeginsParts s q b n ps kn → StandsParts s q b ps kn
  parts_stand s proper q at _ _ _ _ (known.parts b n l ps kn h) =
      let all = stands s proper q at b n (At l (ConjGoal ps)) kn h in
      record { after = all.after; accepted = all.accepted; tidy = all.tidy; room = all.room }
  parts_stand s proper q at _ _ _ _ (known.next_parts b n p ps kn a h is) =
      let all = parts_stand s proper q at b n (also p ps) kn h in
      let o = each_ok (place s q.1 b) p ps kn all.after all.accepted in
      let same : o.first ≡ a = cc (o.begins, is) in
      record {
        after = o.rest;
        accepted = subst (λ (d : After). each (place s q.1 b) ps d.known ≡ Ok o.rest) same o.goes_on;
        tidy = all.tidy.1;
        room = λ x. let r = all.room x in let e = times-append x (variables p) (parts_variables ps) in omega (arith, r, e);
      }

  arms_stand : (s : Hlds) → Proper s → (q : ℕ × Procedure) → slice_get s.procedures q.0 ≡ Some q.1 → (b : Bool) (n : ℕ) (ps : HldsGoals) (kn : InstMap) → BeginsArms s q b n ps kn → StandsArms s q b ps kn
  arms_stand s proper q at _ _ _ _ (known.arms b n l ps kn h) = disjunction_stands s q b l ps kn (stands s proper q at b n (At l (DisjGoal ps)) kn h)
  arms_stand s proper q at _ _ _ _ (known.next_arms b n p ps kn h) =
      let all = arms_stand s proper q at b n (also p ps) kn h in
      let o = arms_ok (place s q.1 b) p ps kn all.ends all.accepted in
      record { ends = o.ends; accepted = o.others; tidy = all.tidy.1; room = λ x. let r = all.room x in let e = times-append x (variables p) (parts_variables ps) in omega (arith, r, e) }

-- ---- answers

counted : (p : Pair) (xs : Items) → Fine (λ e. ⊤) xs → Meets p xs → HasNoDeep xs → is_thrown xs ≡ false → AnswersAsPair p xs
counted p xs fine meets deep thrown = record {
  at_least_one = λ e. one_there (λ e. ⊤) xs (meets.there e) fine deep thrown;
  at_most_one = λ e. one_left xs (subst (λ (b : Bound). IsWithin xs b) e meets.within) thrown;
  none = λ e. none_left xs (subst (λ (b : Bound). IsWithin xs b) e meets.within) thrown;
}

-- of whatever switch the goal begins an arm that is chosen
answers_chosen : (s : Hlds) → Judged s → (q : ℕ × Procedure) (b : Bool) (n : ℕ) (p : HldsGoal) (kn : InstMap) (at : Option ℕ) (f : Frame) (depth next : ℕ)
    → Stands s q b p kn → Fits s (variables p) kn f.env → IsChosen s at p f.env → AnswersAt s f n p (goal_pair (place s q.1 b) at p kn) depth next
answers_chosen s checks q b n p kn at f depth next h fits chosen deep thrown =
    let all = clause_variables q.1 in
    let room : HasRoom all (variables p) [] = λ x. let r = h.room x in omega (arith, r) in
    let fits' : Fits s (variables p ++ []) kn f.env = fits_fewer s (variables p) (variables p ++ []) kn f.env (λ x there. let e = times-append x (variables p) [] in omega (arith, there, e)) fits in
    let xs = goal_trace s f n p depth next in
    counted (goal_pair (place s q.1 b) at p kn) xs
    (claim s checks.proper depth all b p kn [] (λ e. ⊤) h.after n f.act f.env [] [] [] next h.tidy h.accepted room fits' (λ i lt d k reach inner. answers s (λ e. ⊤) i f.act d [] k tt))
    (meets_last (goal_pair (place s q.1 b) at p kn) xs
    (tally s checks depth all b at p kn [] (pair false One) h.after n f.act f.env [] [] [] next h.tidy h.accepted room fits' chosen (λ i lt d k reach inner. answered s i f.act d [] k)))
    deep thrown

pub goals_answer_as_their_pair : (bytes : List ℕ) (s : Hlds) → Spells bytes s → mode_fault s ≡ None → det_fault s ≡ None
    → (q : ℕ × Procedure) (strict : Bool) (n : ℕ) (p : HldsGoal) (kn : InstMap) → slice_get s.procedures q.0 ≡ Some q.1 → (before : Begins s q strict n p kn)
    → (f : Frame) → Fits s (variables p) kn f.env → IsChosen s (switches_on before) p f.env → (depth next : ℕ) → AnswersAt s f n p (goal_pair (place s q.1 strict) (switches_on before) p kn) depth next
goals_answer_as_their_pair bytes s spells modes determinism q strict n p kn at before f fits chosen depth next =
    let all = judged bytes s spells modes determinism in
    answers_chosen s all q strict n p kn (switches_on before) f depth next (stands s all.proper q at strict n p kn before) fits chosen

-- at a turn the environment fits, and an arm is the one that is chosen
pub answers_at_a_turn : (bytes : List ℕ) (s : Hlds) → Spells bytes s → mode_fault s ≡ None → det_fault s ≡ None
    → (f : Frame) (g : Numbered) (goals : List Numbered) → (turn : FitsAt s f.env g goals) → (depth next : ℕ)
    → AnswersAt s f g.number g.goal (goal_pair (place s turn.procedure.1 turn.strict) (switches_on turn.before) g.goal turn.known) depth next
answers_at_a_turn bytes s spells modes determinism f g goals turn depth next =
    goals_answer_as_their_pair bytes s spells modes determinism turn.procedure turn.strict g.number g.goal turn.known turn.at turn.before f
    (fits_left s (variables g.goal) (goals_variables goals ++ turn.procedure.1.head) turn.known f.env turn.fits) turn.chosen depth next

-- ---- the arm of a switch

takes_step : (v : Value) (n : ℕ) (key : Key) (keys : List Key) (p : HldsGoal) (ps : List Numbered) (b : Bool) → has_the_key v key ≡ b → (b || has_some_key v keys) ≡ true
    → (has_some_key v keys ≡ true → (q : Numbered) × (arm_for v keys ps ≡ Some q)) → (q : Numbered) × (arm_for v (key ∷ keys) (numbered_goal n p ∷ ps) ≡ Some q)
takes_step v n key keys p ps true is h later = (numbered_goal n p, rw is refl)
takes_step v n key keys p ps false is h later = let r = later h in (r.0, rw is (r.1))

-- among arms of these keys there is one for the value
takes : (s : Hlds) (x n : ℕ) (v : Value) (keys : List Key) (ps : HldsGoals) → keys_of s x ps ≡ Some keys → has_some_key v keys ≡ true → (q : Numbered) × (arm_for v keys (numbered_from n ps) ≡ Some q)
takes s x n v [] ps is h = absurd (false≢true h)
takes s x n v (key ∷ later) nothing is h = absurd (cc is)
takes s x n v (key ∷ later) (also p ps) is h =
    let keys = first_keys s x p ps (key ∷ later) is in
    let same = keys.is in
    let rest : keys.rest ≡ later = cc same in
    takes_step v n key later p (numbered_from (n + goal_size p) ps) (has_the_key v key) refl h
    (λ more. takes s x (n + goal_size p) v later ps (keys.others ∙ ap Some rest) more)

known_takes : (s : Hlds) → TypesDiffer s → (q : ℕ × Procedure) (b : Bool) (n : ℕ) (ps : HldsGoals) (kn : InstMap) (e : Env) (w : Switch) (x : ℕ) (keys : List Key) (i : Instantiation) (o : Option Value)
    → StandsArms s q b ps kn → switch_shape s ps ≡ Some (x, keys) → known_at kn x ≡ i → value_at e x ≡ o → Agrees s o i → switch_on_known s x keys i ≡ Some w → w.whole ≡ true → TakesArm s e w.var n ps
known_takes s differ q b n ps kn e w x keys free o h shape known at agrees is whole = absurd (cc is)
known_takes s differ q b n ps kn e w x keys (has t used) None h shape known at agrees is whole = elim agrees [ ]
known_takes s differ q b n ps kn e w x keys (has t used) (Some v) h shape known at agrees is whole =
    let same : ◌≡◌ {A = Switch} (record { var = x; whole = is_whole s keys }) w = cc is in
    let full : is_whole s keys ≡ true = ap (λ (u : Switch). u.whole) same ∙ whole in
    let r = takes s x (suc n) v keys ps (shape_keys s ps x keys shape) (whole_any s differ (place s q.1 b) ps x keys v t used kn h.ends refl shape known h.accepted agrees full) in
    subst (λ (y : ℕ). TakesArm s e y n ps) (ap (λ (u : Switch). u.var) same)
    (record { keys = keys; shape = shape; value = v; has_value = at; taken = r.0; takes = r.1; chosen = keyed_arm s x (suc n) e v keys ps r.0 at (shape_keys s ps x keys shape) r.1 })

shape_takes : (s : Hlds) → TypesDiffer s → (q : ℕ × Procedure) (b : Bool) (n : ℕ) (ps : HldsGoals) (kn : InstMap) (e : Env) (w : Switch) (o : Option (ℕ × List Key))
    → StandsArms s q b ps kn → Fits s (parts_variables ps) kn e → switch_shape s ps ≡ o → switch_with s o kn ≡ Some w → w.whole ≡ true → TakesArm s e w.var n ps
shape_takes s differ q b n ps kn e w None h fits shape is whole = absurd (cc is)
shape_takes s differ q b n ps kn e w (Some k) h fits shape is whole =
    known_takes s differ q b n ps kn e w k.0 k.1 (known_at kn k.0) (value_at e k.0) h shape refl refl (fits.each k.0 (shape_occurs s ps k.0 k.1 shape)) is whole

pub whole_switches_take_an_arm : (bytes : List ℕ) (s : Hlds) → Spells bytes s → mode_fault s ≡ None
    → (q : ℕ × Procedure) (strict : Bool) (n l : ℕ) (ps : HldsGoals) (kn : InstMap) → slice_get s.procedures q.0 ≡ Some q.1 → Begins s q strict n (At l (DisjGoal ps)) kn
    → (e : Env) → Fits s (parts_variables ps) kn e → (w : Switch) → switch_of s ps kn ≡ Some w → w.whole ≡ true → TakesArm s e w.var n ps
whole_switches_take_an_arm bytes s spells modes q strict n l ps kn at before e fits w is whole =
    shape_takes s (types_differ s spells.once) q strict n ps kn e w (switch_shape s ps)
    (disjunction_stands s q strict l ps kn (stands s (proper bytes s spells modes) q at strict n (At l (DisjGoal ps)) kn before)) fits refl is whole
