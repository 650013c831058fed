-- At each place that the mode rules come to, what is known has a place for each of the clause's variables, and the goal's
-- variables are among the clause's.
use Rattle.std.proofs.Common.{◌≡◌, refl, ap, ◌∙◌, arith, ℕ, zero, suc, ◌<◌, ◌≤◌, Bool, true, false, List, [], ◌∷◌, ◌++◌, length}
use Rattle.md_hlds.specs.declared.types.Mode.{Mode}
use Rattle.md_hlds.specs.declared.types.Mode.TheVariants.{In, Out, Di, Uo}
use Rattle.md_hlds.specs.HldsGoal.{HldsGoal, At, ConjGoal, DisjGoal, IfGoal, NotGoal, SomeGoal, HldsGoals, also, Numbered}
use Rattle.md_hlds.specs.Hlds.{HldsType, Procedure, Hlds}
use Rattle.md_hlds.specs.Value.{Env}
use Rattle.md_reader.specs.Grammar.{Spells}
use Rattle.md_inst.specs.Instantiation.{has, InstMap, nothing_known, times}
use Rattle.md_modes.specs.Goals.{variables, parts_variables, clause_variables}
use Rattle.md_modes.specs.Modes.{enter, entry_from}
use Rattle.md_modes.proofs.Counts.{times-append}
use Rattle.md_modes.proofs.InstantiationLemmas.{length-put}
use Rattle.law_safety.specs.Known as known
use Rattle.law_safety.specs.Known.{place, Begins, BeginsParts, BeginsArms, FitsAt}
use Rattle.law_safety.proofs.Growing.{goal_later}
use Rattle.law_fits.proofs.RangeLemmas.{in_range}

enter_size : (m : Mode) (t : HldsType) (x : ℕ) (kn : InstMap) → length (enter m t x kn) ≡ length kn
enter_size In t x kn = length-put kn x (has t false)
enter_size Di t x kn = length-put kn x (has t false)
enter_size Out t x kn = refl
enter_size Uo t x kn = refl

entry_size : (args : List (HldsType × Mode)) (xs : List ℕ) (kn : InstMap) → length (entry_from args xs kn) ≡ length kn
entry_size [] xs kn = refl
entry_size (a ∷ args) [] kn = refl
entry_size (a ∷ args) (x ∷ xs) kn = entry_size args xs (enter a.1 a.0 x kn) ∙ enter_size a.1 a.0 x kn

none_size : (n : ℕ) → length (nothing_known n) ≡ n
none_size zero = refl
none_size (suc n) = ap suc (none_size n)

record IsPlace (q : ℕ × Procedure) (vars : List ℕ) (kn : InstMap) : Type 0 where
  size : length kn ≡ length q.1.vars
  among : (x : ℕ) → times x vars ≤ times x (clause_variables q.1)

mutual
  goal_place : (s : Hlds) (q : ℕ × Procedure) (b : Bool) (n : ℕ) (p : HldsGoal) (kn : InstMap) → Begins s q b n p kn → IsPlace q (variables p) kn
  goal_place s q _ _ _ _ known.body = record {
    size = entry_size q.1.args q.1.head (nothing_known (length q.1.vars)) ∙ none_size (length q.1.vars);
    among = λ x. let t = times-append x q.1.head (variables q.1.body) in omega (arith, t);
  }
  goal_place s q _ _ _ _ (known.part b n p ps kn h) =
      let r = parts_place s q b n (also p ps) kn h in
      record { size = r.size; among = λ x. let a = r.among x in let t = times-append x (variables p) (parts_variables ps) in omega (arith, a, t) }
  goal_place s q _ _ _ _ (known.arm b n p ps kn h) =
      let r = arms_place s q b n (also p ps) kn h in
      record { size = r.size; among = λ x. let a = r.among x in let t = times-append x (variables p) (parts_variables ps) in omega (arith, a, t) }
  goal_place s q _ _ _ _ (known.condition b n l c t e kn h) =
      let r = goal_place s q b n (At l (IfGoal c t e)) kn h in
      record { size = r.size; among = λ x. let a = r.among x in let i = times-append x (variables c) (variables t ++ variables e) in omega (arith, a, i) }
  goal_place s q _ _ _ _ (known.then b n l c t e kn a h ok) =
      let r = goal_place s q b n (At l (IfGoal c t e)) kn h in
      record {
        size = (goal_later (place s q.1 true) c kn a ok).size ∙ r.size;
        among = λ x. let a = r.among x in let i = times-append x (variables c) (variables t ++ variables e) in let j = times-append x (variables t) (variables e) in omega (arith, a, i, j);
      }
  goal_place s q _ _ _ _ (known.else b n l c t e kn h) =
      let r = goal_place s q b n (At l (IfGoal c t e)) kn h in
      record { size = r.size; among = λ x. let a = r.among x in let i = times-append x (variables c) (variables t ++ variables e) in let j = times-append x (variables t) (variables e) in omega (arith, a, i, j) }
  goal_place s q _ _ _ _ (known.negated b n l c kn h) =
      let r = goal_place s q b n (At l (NotGoal c)) kn h in record { size = r.size; among = r.among }
  goal_place s q _ _ _ _ (known.quantified b n l vs c kn h) =
      let r = goal_place s q b n (At l (SomeGoal vs c)) kn h in
      record { size = r.size; among = λ x. let a = r.among x in let i = times-append x vs (variables c) in omega (arith, a, i) }

  parts_place : (s : Hlds) (q : ℕ × Procedure) (b : Bool) (n : ℕ) (ps : HldsGoals) (kn : InstMap) → BeginsParts s q b n ps kn → IsPlace q (parts_variables ps) kn
  parts_place s q _ _ _ _ (known.parts b n l ps kn h) = let r = goal_place s q b n (At l (ConjGoal ps)) kn h in record { size = r.size; among = r.among }
  parts_place s q _ _ _ _ (known.next_parts b n p ps kn a h ok) =
      let r = parts_place s q b n (also p ps) kn h in
      record {
        size = (goal_later (place s q.1 b) p kn a ok).size ∙ r.size;
        among = λ x. let a = r.among x in let t = times-append x (variables p) (parts_variables ps) in omega (arith, a, t);
      }

  arms_place : (s : Hlds) (q : ℕ × Procedure) (b : Bool) (n : ℕ) (ps : HldsGoals) (kn : InstMap) → BeginsArms s q b n ps kn → IsPlace q (parts_variables ps) kn
  arms_place s q _ _ _ _ (known.arms b n l ps kn h) = let r = goal_place s q b n (At l (DisjGoal ps)) kn h in record { size = r.size; among = r.among }
  arms_place s q _ _ _ _ (known.next_arms b n p ps kn h) =
      let r = arms_place s q b n (also p ps) kn h in
      record { size = r.size; among = λ x. let a = r.among x in let t = times-append x (variables p) (parts_variables ps) in omega (arith, a, t) }

-- at a turn the environment has a place for each variable of the clause
pub turn_size : (s : Hlds) (e : Env) (g : Numbered) (goals : List Numbered) (h : FitsAt s e g goals) → length e ≡ length h.procedure.1.vars
turn_size s e g goals h = h.fits.size ∙ (goal_place s h.procedure h.strict g.number g.goal h.known h.before).size

-- and so for those of the goal
pub turn_range : (text : List ℕ) (s : Hlds) → Spells text s → (e : Env) (g : Numbered) (goals : List Numbered) (h : FitsAt s e g goals) (y : ℕ) → 0 < times y (variables g.goal) → y < length h.procedure.1.vars
turn_range text s spells e g goals h y there =
    in_range text s spells h.procedure.0 h.procedure.1 h.at y
    (let a = (goal_place s h.procedure h.strict g.number g.goal h.known h.before).among y in omega (arith, there, a))
