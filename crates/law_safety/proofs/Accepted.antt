-- What the parts of an accepted goal are accepted with.
use Rattle.std.proofs.Common.{◌≡◌, refl, ℕ, true, not, ◌&&◌, List, [], ◌∷◌, ◌++◌, Ok}
use Rattle.md_hlds.specs.HldsGoal.{HldsGoal, IfGoal, NotGoal, SomeGoal, HldsGoals, also}
use Rattle.md_inst.specs.declared.fault.ModeFault.TheVariants.{BranchBinds}
use Rattle.md_inst.specs.Verdict.{fault_unless}
use Rattle.md_inst.specs.Instantiation.{InstMap}
use Rattle.md_modes.specs.Branches.{After, after, outside, some_of, joined}
use Rattle.md_modes.specs.Goals.{Scope, within, binds_inside, variables, goal, expr, each, arms}
use Rattle.law_safety.proofs.Verdicts.{ok_then, ok_after, ok_is}

pub record AcceptsIf (c : Scope) (l : ℕ) (p t e : HldsGoal) (kn : InstMap) (a : After) : Type 0 where
  pub condition : After
  pub then : After
  pub else : After
  pub begins : goal (within c) p kn ≡ Ok condition
  pub wins : goal c t condition.known ≡ Ok then
  pub loses : goal c e kn ≡ Ok else
  pub joins : joined l (outside c.all (variables p ++ (variables t ++ variables e))) kn (then ∷ else ∷ []) ≡ Ok a

pub if_ok : (c : Scope) (l : ℕ) (p t e : HldsGoal) (kn : InstMap) (a : After) → expr c l (IfGoal p t e) kn ≡ Ok a → AcceptsIf c l p t e kn a
if_ok c l p t e kn a ok =
    let x = ok_then (goal (within c) p kn) _ a ok in
    let y = ok_after (binds_inside l (outside c.all (variables p ++ (variables t ++ variables e))) kn x.0) _ a x.2 in
    let z = ok_then (goal c t x.0.known) _ a y.2 in
    let w = ok_then (goal c e kn) _ a z.2 in
    record { condition = x.0; then = z.0; else = w.0; begins = x.1; wins = z.1; loses = w.1; joins = w.2 }

pub record AcceptsOnly (c : Scope) (p : HldsGoal) (kn : InstMap) (a : After) : Type 0 where
  pub inner : After
  pub begins : goal (within c) p kn ≡ Ok inner
  pub is : after kn true ≡ a

pub not_ok : (c : Scope) (l : ℕ) (p : HldsGoal) (kn : InstMap) (a : After) → expr c l (NotGoal p) kn ≡ Ok a → AcceptsOnly c p kn a
not_ok c l p kn a ok =
    let x = ok_then (goal (within c) p kn) _ a ok in
    let y = ok_after (binds_inside l (outside c.all (variables p)) kn x.0) (Ok (after kn true)) a x.2 in
    record { inner = x.0; begins = x.1; is = ok_is (Ok (after kn true)) (after kn true) a refl y.2 }

pub some_ok : (c : Scope) (l : ℕ) (vs : List ℕ) (p : HldsGoal) (kn : InstMap) (a : After) → expr c l (SomeGoal vs p) kn ≡ Ok a → AcceptsOnly c p kn a
some_ok c l vs p kn a ok =
    let x = ok_then (goal (within c) p kn) _ a ok in
    let y = ok_after (binds_inside l (outside c.all (vs ++ variables p)) kn x.0) _ a x.2 in
    let z = ok_after (fault_unless (not (some_of (outside c.all (vs ++ variables p)) vs)) (BranchBinds l)) (Ok (after kn true)) a y.2 in
    record { inner = x.0; begins = x.1; is = ok_is (Ok (after kn true)) (after kn true) a refl z.2 }

pub record AcceptsEach (c : Scope) (p : HldsGoal) (ps : HldsGoals) (kn : InstMap) (a : After) : Type 0 where
  pub first : After
  pub rest : After
  pub begins : goal c p kn ≡ Ok first
  pub goes_on : each c ps first.known ≡ Ok rest
  pub is : after rest.known (first.reach && rest.reach) ≡ a

pub each_ok : (c : Scope) (p : HldsGoal) (ps : HldsGoals) (kn : InstMap) (a : After) → each c (also p ps) kn ≡ Ok a → AcceptsEach c p ps kn a
each_ok c p ps kn a ok =
    let x = ok_then (goal c p kn) _ a ok in
    let y = ok_then (each c ps x.0.known) _ a x.2 in
    record { first = x.0; rest = y.0; begins = x.1; goes_on = y.1; is = ok_is (Ok (after y.0.known (x.0.reach && y.0.reach))) (after y.0.known (x.0.reach && y.0.reach)) a refl y.2 }

pub record AcceptsArms (c : Scope) (p : HldsGoal) (ps : HldsGoals) (kn : InstMap) (all : List After) : Type 0 where
  pub first : After
  pub ends : List After
  pub begins : goal c p kn ≡ Ok first
  pub others : arms c ps kn ≡ Ok ends
  pub is : (first ∷ ends) ≡ all

pub arms_ok : (c : Scope) (p : HldsGoal) (ps : HldsGoals) (kn : InstMap) (all : List After) → arms c (also p ps) kn ≡ Ok all → AcceptsArms c p ps kn all
arms_ok c p ps kn all ok =
    let x = ok_then (goal c p kn) _ all ok in
    let y = ok_then (arms c ps kn) (λ ends. Ok (x.0 ∷ ends)) all x.2 in
    record { first = x.0; ends = y.0; begins = x.1; others = y.1; is = ok_is (Ok (x.0 ∷ y.0)) (x.0 ∷ y.0) all refl y.2 }
