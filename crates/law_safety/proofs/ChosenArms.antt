-- The arm of a switch that a run takes begins with a key that the value of the switch's variable has.
use Rattle.std.proofs.Common.{◌≡◌, refl, ap, ◌∙◌, subst, ℕ, ◌+◌, Bool, true, false, cond, List, [], ◌∷◌, Option, Some, None}
use Rattle.md_hlds.specs.HldsGoal.{HldsGoal, HldsGoals, nothing, also, goal_size, Numbered, numbered_goal, numbered_from}
use Rattle.md_hlds.specs.Hlds.{Hlds}
use Rattle.md_hlds.specs.Value.{Value, Env, value_at}
use Rattle.md_hlds.specs.Switch.{Key, keys_of, switch_shape, has_the_key, arm_for}
use Rattle.md_inst.specs.Instantiation.{Instantiation, free, has, InstMap, known_at}
use Rattle.md_modes.specs.Goals.{parts_variables}
use Rattle.md_det.specs.Switches.{switch_on_known, switch_with, switch_of, variable_of}
use Rattle.law_safety.specs.Values.{Agrees, Fits}
use Rattle.law_safety.specs.Known.{IsKeyed, IsChosen}
use Rattle.law_safety.specs.Unfolding.{switch_value}
use Rattle.law_safety.proofs.Handing.{In'}
use Rattle.law_safety.proofs.SwitchLemmas.{first_keys, shape_keys, shape_occurs}

-- ---- no switch: the variable has no value

unknown_chosen : (s : Hlds) (x : ℕ) (keys : List Key) (i : Instantiation) (o : Option Value) (p : HldsGoal) (e : Env) → Agrees s o i → o ≡ None → IsChosen s (variable_of (switch_on_known s x keys i)) p e
unknown_chosen s x keys free o p e agrees is = tt
unknown_chosen s x keys (has t used) None p e agrees is = elim agrees [ ]
unknown_chosen s x keys (has t used) (Some v) p e agrees is = absurd (cc is)

shape_unchosen : (s : Hlds) (ps : HldsGoals) (kn : InstMap) (vars : List ℕ) (e : Env) (p : HldsGoal) (w : Option (ℕ × List Key)) → switch_shape s ps ≡ w → Fits s vars kn e → In' (parts_variables ps) vars
    → switch_value w e ≡ None → IsChosen s (variable_of (switch_with s w kn)) p e
shape_unchosen s ps kn vars e p None shape fits among is = tt
shape_unchosen s ps kn vars e p (Some w) shape fits among is =
    unknown_chosen s w.0 w.1 (known_at kn w.0) (value_at e w.0) p e (fits.each w.0 (among w.0 (shape_occurs s ps w.0 w.1 shape))) is

pub no_switch_chosen : (s : Hlds) (ps : HldsGoals) (kn : InstMap) (vars : List ℕ) (e : Env) (p : HldsGoal) → Fits s vars kn e → In' (parts_variables ps) vars → switch_value (switch_shape s ps) e ≡ None
    → IsChosen s (variable_of (switch_of s ps kn)) p e
no_switch_chosen s ps kn vars e p fits among is = shape_unchosen s ps kn vars e p (switch_shape s ps) refl fits among is

-- ---- a switch

keyed_by : (o : Option Value) (v : Value) (first key : Key) → o ≡ Some v → first ≡ key → has_the_key v key ≡ true → IsKeyed first o
keyed_by o v first key at is h = rw (at, is) h

chosen_step : (s : Hlds) (x n : ℕ) (e : Env) (p : HldsGoal) (q : Numbered) (b : Bool) (o : Option Numbered) → cond b (Some (numbered_goal n p)) o ≡ Some q
    → (b ≡ true → IsChosen s (Some x) p e) → (o ≡ Some q → IsChosen s (Some x) q.goal e) → IsChosen s (Some x) q.goal e
chosen_step s x n e p q true o is here later =
    let same : numbered_goal n p ≡ q = cc is in
    subst (λ (r : Numbered). IsChosen s (Some x) r.goal e) same (here refl)
chosen_step s x n e p q false o is here later = later is

pub keyed_arm : (s : Hlds) (x n : ℕ) (e : Env) (v : Value) (keys : List Key) (ps : HldsGoals) (q : Numbered) → value_at e x ≡ Some v → keys_of s x ps ≡ Some keys → arm_for v keys (numbered_from n ps) ≡ Some q
    → IsChosen s (Some x) q.goal e
keyed_arm s x n e v [] ps q at are is = absurd (cc is)
keyed_arm s x n e v (key ∷ later) nothing q at are is = absurd (cc is)
keyed_arm s x n e v (key ∷ later) (also p ps) q at are is =
    let keys = first_keys s x p ps (key ∷ later) are in
    let same = keys.is in
    let first : keys.first ≡ key = cc same in
    let rest : keys.rest ≡ later = cc same in
    chosen_step s x n e p q (has_the_key v key) (arm_for v later (numbered_from (n + goal_size p) ps)) is
    (λ found. (keys.first, keys.arm, keyed_by (value_at e x) v keys.first key at first found))
    (λ more. keyed_arm s x (n + goal_size p) e v later ps q at (keys.others ∙ ap Some rest) more)

known_chosen : (s : Hlds) (x : ℕ) (keys : List Key) (i : Instantiation) (p : HldsGoal) (e : Env) → IsChosen s (Some x) p e → IsChosen s (variable_of (switch_on_known s x keys i)) p e
known_chosen s x keys free p e h = tt
known_chosen s x keys (has t used) p e h = h

shape_chosen : (s : Hlds) (kn : InstMap) (w : ℕ × List Key) (o : Option (ℕ × List Key)) (p : HldsGoal) (e : Env) → o ≡ Some w → IsChosen s (Some w.0) p e → IsChosen s (variable_of (switch_with s o kn)) p e
shape_chosen s kn w o p e shape h = rw shape (known_chosen s w.0 w.1 (known_at kn w.0) p e h)

pub arm_is_chosen : (s : Hlds) (ps : HldsGoals) (kn : InstMap) (n : ℕ) (w : ℕ × List Key) (v : Value) (q : Numbered) (e : Env) → switch_shape s ps ≡ Some w → value_at e w.0 ≡ Some v
    → arm_for v w.1 (numbered_from n ps) ≡ Some q → IsChosen s (variable_of (switch_of s ps kn)) q.goal e
arm_is_chosen s ps kn n w v q e shape at is =
    shape_chosen s kn w (switch_shape s ps) q.goal e shape (keyed_arm s w.0 n e v w.1 ps q at (shape_keys s ps w.0 w.1 shape) is)
