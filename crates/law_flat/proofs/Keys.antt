-- The keys of a switch: each is of the kind of the value that the switch meets, and its variable has a slot.
use Rattle.std.proofs.Common.{◌≡◌, refl, sym, ap, subst, inl, ℕ, ℤ, suc, ◌<◌, ◌≤◌, Bool, true, false, cond, List, [], ◌∷◌, length, Option, Some, None, Ok}
use Rattle.md_hlds.specs.declared.goal.PredName.{PredName}
use Rattle.md_hlds.specs.declared.goal.Term.{Term}
use Rattle.md_hlds.specs.declared.goal.Term.TheVariants.{Var, Int, Str, Name}
use Rattle.md_hlds.specs.HldsGoal.{Simple, Succeeds, Fails, Unifies, Computes, Compares, WritesInt, WritesText, EndsLine, Raises, HldsGoal, At, SimpleGoal, CallGoal, HoCallGoal, ConjGoal, DisjGoal, IfGoal, NotGoal, SomeGoal, HldsGoals, nothing, also, Numbered}
use Rattle.md_hlds.specs.Hlds.{Hlds, is_functor}
use Rattle.md_hlds.specs.Value.{Value, Number, Literal, Built, Closure, Env, value_at}
use Rattle.md_hlds.specs.Switch.{Key, IntKey, TextKey, FunctorKey, term_key, variable_key, goal_key, arm_key, keys_of, switch_shape}
use Rattle.md_inst.specs.Instantiation.{Instantiation, free, has, InstMap, known_at, times}
use Rattle.md_inst.specs.Named.{Functor, functor_called}
use Rattle.md_inst.specs.Simple as rules
use Rattle.md_modes.specs.Branches.{After, outside, joined}
use Rattle.md_modes.specs.Goals.{Scope, variables, parts_variables, goal, arms, simple_variables}
use Rattle.md_modes.specs.Notes.{role_of_term, role_of_name, role_of_unification}
use Rattle.law_safety.specs.Known.{FitsAt, place}
use Rattle.law_safety.specs.Roles.{IsComparable, IsMet}
use Rattle.law_safety.proofs.Verdicts.{ok_then, ok_reached}
use Rattle.law_safety.proofs.Accepted.{each_ok, arms_ok}
use Rattle.law_safety.proofs.SwitchLemmas.{first_key, shape_keys, first_keys}
use Rattle.law_safety.proofs.RoleLemmas.{unification_met}
use Rattle.law_safety.proofs.Safe.{fits_left, fits_right}
use Rattle.law_safety.specs.Values.{Fits}
use Rattle.law_safety.proofs.Handing.{first_times}
use Rattle.law_frames.specs.Ways.{Mentions, SomeMentions, Address, Way, on, parts_way, joins, holds, denies, finds, exits, yields, halts}
use Rattle.md_code.specs.Leaves.{leaves_table}
use Rattle.md_code.specs.Tables.{functors_of}
use Rattle.law_flat.specs.Flat.{Flat}
use Rattle.law_flat.specs.Shapes.{Shape}
use Rattle.law_flat.specs.Told.{names_among}
use Rattle.law_flat.specs.Leads as leads
use Rattle.law_flat.specs.Leads.{Leads}
use Rattle.law_flat.proofs.Parts.{comparable_short}

-- ---- kinds

-- a value and a key are of one kind; the name of a term is one of a functor, so it is not longer than all theirs
abbrev pub IsOfKind : Hlds → Value → Key → Type 0
IsOfKind s (Number m) (IntKey n) = Unit {0}
IsOfKind s (Literal a) (TextKey b) = Unit {0}
IsOfKind s (Built f vs) (FunctorKey g n) = length f ≤ names_among (functors_of s)
IsOfKind s v k = ⊥

abbrev pub AreOfKind : Hlds → Value → List Key → Type 0
AreOfKind s v [] = Unit {0}
AreOfKind s v (k ∷ ks) = IsOfKind s v k × AreOfKind s v ks

int_kind : (s : Hlds) (n : ℤ) (v : Value) → IsComparable s (Int n) (Some v) → IsOfKind s v (IntKey n)
int_kind s n (Number m) h = tt
int_kind s n (Literal b) h = absurd h
int_kind s n (Built f vs) h = absurd h
int_kind s n (Closure q vs) h = absurd h

text_kind : (s : Hlds) (b : List ℕ) (v : Value) → IsComparable s (Str b) (Some v) → IsOfKind s v (TextKey b)
text_kind s b (Literal a) h = tt
text_kind s b (Number m) h = absurd h
text_kind s b (Built f vs) h = absurd h
text_kind s b (Closure q vs) h = absurd h

name_kind : (s : Hlds) (q : PredName) (ys : List ℕ) (v : Value) → IsComparable s (Name q ys) (Some v) → IsOfKind s v (FunctorKey q.name (length ys))
name_kind s q ys (Built f vs) h = comparable_short s q ys f vs h
name_kind s q ys (Number m) h = absurd h
name_kind s q ys (Literal a) h = absurd h
name_kind s q ys (Closure p vs) h = absurd h

name_key : (s : Hlds) (q : PredName) (ys : List ℕ) (v : Value) (k : Key) (b : Bool) → IsOfKind s v (FunctorKey q.name (length ys)) → cond b (Some (FunctorKey q.name (length ys))) None ≡ Some k → IsOfKind s v k
name_key s q ys v k true h e = let same : FunctorKey q.name (length ys) ≡ k = cc e in subst (λ (j : Key). IsOfKind s v j) same h
name_key s q ys v k false h e = absurd (cc e)

comparable_kind : (s : Hlds) (t : Term) (v : Value) (k : Key) → IsComparable s t (Some v) → term_key s t ≡ Some k → IsOfKind s v k
comparable_kind s (Var y) v k h e = absurd (cc e)
comparable_kind s (Int n) v k h e = let same : IntKey n ≡ k = cc e in subst (λ (j : Key). IsOfKind s v j) same (int_kind s n v h)
comparable_kind s (Str b) v k h e = let same : TextKey b ≡ k = cc e in subst (λ (j : Key). IsOfKind s v j) same (text_kind s b v h)
comparable_kind s (Name q ys) v k h e = name_key s q ys v k (is_functor s q (length ys)) (name_kind s q ys v h) e

-- a term that a value is met with may be compared with it
term_met : (s : Hlds) (e : Env) (x : ℕ) (t : Term) (v : Value) (ys : List ℕ) (i : Instantiation) (kn : InstMap) → value_at e x ≡ Some v → IsMet s e x t (role_of_term ys i kn) → IsComparable s t (Some v)
term_met s e x t v ys free kn is m = absurd (let n = m.0 in cc (n, is))
term_met s e x t v ys (has u used) kn is m = subst (λ (o : Option Value). IsComparable s t o) is m.0

named_met : (s : Hlds) (e : Env) (x : ℕ) (t : Term) (v : Value) (ys : List ℕ) (i : Instantiation) (kn : InstMap) (o : Option Functor) → value_at e x ≡ Some v → IsMet s e x t (role_of_name ys i kn o) → IsComparable s t (Some v)
named_met s e x t v ys i kn (Some f) is m = term_met s e x t v ys i kn is m
named_met s e x t v ys i kn None is m = absurd (let n = m.0 in cc (n, is))

test_kind : (s : Hlds) (c : Scope) (l x : ℕ) (t : Term) (e : Env) (kn : InstMap) (a : After) (v : Value) (k : Key) → c.program ≡ s → goal c (At l (SimpleGoal (Unifies x t))) kn ≡ Ok a → Fits s (simple_variables (Unifies x t)) kn e → value_at e x ≡ Some v → term_key s t ≡ Some k → IsOfKind s v k
test_kind s c l x t e kn a v k program ok fits is key =
    let o = ok_reached true (rules.simple c.program c.strict l (Unifies x t) kn) a ok in
    let here : rules.simple s c.strict l (Unifies x t) kn ≡ Ok a.known = subst (λ (p : Hlds). rules.simple p c.strict l (Unifies x t) kn ≡ Ok a.known) program o.0 in
    by_term t key (unification_met s (simple_variables (Unifies x t)) c.strict l x t e kn a.known fits (λ y there. there) here)
  where
    by_term : (u : Term) → term_key s u ≡ Some k → IsMet s e x u (role_of_unification s x u kn) → IsOfKind s v k
    by_term (Var y) h m = absurd (cc h)
    by_term (Int n) h m = comparable_kind s (Int n) v k (term_met s e x (Int n) v [] (known_at kn x) kn is m) h
    by_term (Str b) h m = comparable_kind s (Str b) v k (term_met s e x (Str b) v [] (known_at kn x) kn is m) h
    by_term (Name q ys) h m = comparable_kind s (Name q ys) v k (named_met s e x (Name q ys) v ys (known_at kn x) kn (functor_called s q (length ys)) is m) h

-- ---- the unification with which an arm begins

pub record IsTest (s : Hlds) (p : HldsGoal) (x : ℕ) (k : Key) : Type 0 where
  pub line : ℕ
  pub term : Term
  pub is : p ≡ At line (SimpleGoal (Unifies x term))
  pub key : term_key s term ≡ Some k

key_pair : (x y : ℕ) (o : Option Key) (k : Key) → variable_key x o ≡ Some (y, k) → (x ≡ y) × (o ≡ Some k)
key_pair x y None k h = absurd (cc h)
key_pair x y (Some j) k h =
    let is : ◌≡◌ {A = ℕ × Key} (x, j) (y, k) = cc h in
    (ap (λ (z : ℕ × Key). z.0) is, ap (λ (z : ℕ × Key). Some z.1) is)

goal_test : (s : Hlds) (p : HldsGoal) (x : ℕ) (k : Key) → goal_key s p ≡ Some (x, k) → IsTest s p x k
goal_test s (At l (SimpleGoal (Unifies y t))) x k h =
    let a = key_pair y x (term_key s t) k h in
    record { line = l; term = t; is = ap (λ (z : ℕ). At l (SimpleGoal (Unifies z t))) a.0; key = a.1 }
goal_test s (At l (SimpleGoal Succeeds)) x k h = absurd (cc h)
goal_test s (At l (SimpleGoal Fails)) x k h = absurd (cc h)
goal_test s (At l (SimpleGoal (Computes z a op b))) x k h = absurd (cc h)
goal_test s (At l (SimpleGoal (Compares a c b))) x k h = absurd (cc h)
goal_test s (At l (SimpleGoal (WritesInt y a b))) x k h = absurd (cc h)
goal_test s (At l (SimpleGoal (WritesText y a b))) x k h = absurd (cc h)
goal_test s (At l (SimpleGoal (EndsLine a b))) x k h = absurd (cc h)
goal_test s (At l (SimpleGoal (Raises y))) x k h = absurd (cc h)
goal_test s (At l (CallGoal site q ys)) x k h = absurd (cc h)
goal_test s (At l (HoCallGoal site f ys)) x k h = absurd (cc h)
goal_test s (At l (ConjGoal ps)) x k h = absurd (cc h)
goal_test s (At l (DisjGoal ps)) x k h = absurd (cc h)
goal_test s (At l (IfGoal c t e)) x k h = absurd (cc h)
goal_test s (At l (NotGoal c)) x k h = absurd (cc h)
goal_test s (At l (SomeGoal vs c)) x k h = absurd (cc h)

-- it is the arm, or the first part of the conjunction that the arm is
pub data BeginsWith (s : Hlds) (p : HldsGoal) (x : ℕ) (k : Key) : Type 0 where
  alone : IsTest s p x k → BeginsWith s p x k
  first : (line : ℕ) (part : HldsGoal) (others : HldsGoals) → p ≡ At line (ConjGoal (also part others)) → IsTest s part x k → BeginsWith s p x k

pub arm_begins : (s : Hlds) (p : HldsGoal) (x : ℕ) (k : Key) → arm_key s p ≡ Some (x, k) → BeginsWith s p x k
arm_begins s (At l (ConjGoal (also p ps))) x k h = first l p ps refl (goal_test s p x k h)
arm_begins s (At l (ConjGoal nothing)) x k h = absurd (cc h)
arm_begins s (At l (SimpleGoal g)) x k h = alone (goal_test s (At l (SimpleGoal g)) x k h)
arm_begins s (At l (CallGoal site q ys)) x k h = absurd (cc h)
arm_begins s (At l (HoCallGoal site f ys)) x k h = absurd (cc h)
arm_begins s (At l (DisjGoal ps)) x k h = absurd (cc h)
arm_begins s (At l (IfGoal p t e)) x k h = absurd (cc h)
arm_begins s (At l (NotGoal p)) x k h = absurd (cc h)
arm_begins s (At l (SomeGoal vs p)) x k h = absurd (cc h)

test_mentions : (s : Hlds) (p : HldsGoal) (x : ℕ) (k : Key) → IsTest s p x k → Mentions p x
test_mentions s p x k t = subst (λ (g : HldsGoal). Mentions g x) (sym t.is) (inl refl)

-- the arm mentions the variable
arm_mentions : (s : Hlds) (p : HldsGoal) (x : ℕ) (k : Key) → BeginsWith s p x k → Mentions p x
arm_mentions s p x k (alone t) = test_mentions s p x k t
arm_mentions s p x k (first line part others is t) = subst (λ (g : HldsGoal). Mentions g x) (sym is) (inl (test_mentions s part x k t))

pub shape_mentions : (s : Hlds) (ps : HldsGoals) (x : ℕ) (keys : List Key) → switch_shape s ps ≡ Some (x, keys) → SomeMentions ps x
shape_mentions s nothing x keys h = absurd (cc h)
shape_mentions s (also p ps) x keys h =
    let r = first_keys s x p ps keys (shape_keys s (also p ps) x keys h) in
    inl (arm_mentions s p x r.first (arm_begins s p x r.first r.arm))

-- ---- the arms' keys are of the kind of the value

first_kind : (s : Hlds) (c : Scope) (p : HldsGoal) (x : ℕ) (k : Key) (e : Env) (kn : InstMap) (a : After) (v : Value) → c.program ≡ s → IsTest s p x k → goal c p kn ≡ Ok a → Fits s (variables p) kn e → value_at e x ≡ Some v → IsOfKind s v k
first_kind s c p x k e kn a v program t ok fits is =
    test_kind s c t.line x t.term e kn a v k program (subst (λ (g : HldsGoal). goal c g kn ≡ Ok a) t.is ok) (subst (λ (g : HldsGoal). Fits s (variables g) kn e) t.is fits) is t.key

arm_kind : (s : Hlds) (c : Scope) (p : HldsGoal) (x : ℕ) (k : Key) (e : Env) (kn : InstMap) (a : After) (v : Value) → c.program ≡ s → BeginsWith s p x k → goal c p kn ≡ Ok a → Fits s (variables p) kn e → value_at e x ≡ Some v → IsOfKind s v k
arm_kind s c p x k e kn a v program (alone t) ok fits is = first_kind s c p x k e kn a v program t ok fits is
arm_kind s c p x k e kn a v program (first line part others same t) ok fits is =
    let o = each_ok c part others kn a (subst (λ (g : HldsGoal). goal c g kn ≡ Ok a) same ok) in
    first_kind s c part x k e kn o.first v program t o.begins (fits_left s (variables part) (parts_variables others) kn e (subst (λ (g : HldsGoal). Fits s (variables g) kn e) same fits)) is

keys_kind : (s : Hlds) (c : Scope) (ps : HldsGoals) (x : ℕ) (keys : List Key) (e : Env) (kn : InstMap) (ends : List After) (v : Value) → c.program ≡ s → keys_of s x ps ≡ Some keys → arms c ps kn ≡ Ok ends → Fits s (parts_variables ps) kn e → value_at e x ≡ Some v
    → AreOfKind s v keys
keys_kind s c nothing x keys e kn ends v program h ok fits is = let none : [] ≡ keys = cc h in subst (λ (ks : List Key). AreOfKind s v ks) none tt
keys_kind s c (also p ps) x keys e kn ends v program h ok fits is =
    let r = first_keys s x p ps keys h in
    let o = arms_ok c p ps kn ends ok in
    subst (λ (ks : List Key). AreOfKind s v ks) (sym r.is) (
      arm_kind s c p x r.first e kn o.first v program (arm_begins s p x r.first r.arm) o.begins (fits_left s (variables p) (parts_variables ps) kn e fits) is,
      keys_kind s c ps x r.rest e kn o.ends v program r.others o.others (fits_right s (variables p) (parts_variables ps) kn e fits) is,
    )

-- where a switch is met
pub switch_kind : (s : Hlds) (e : Env) (g : Numbered) (goals : List Numbered) (l x : ℕ) (ps : HldsGoals) (keys : List Key) (v : Value) → FitsAt s e g goals → g.goal ≡ At l (DisjGoal ps) → switch_shape s ps ≡ Some (x, keys) → value_at e x ≡ Some v → AreOfKind s v keys
switch_kind s e g goals l x ps keys v h same shape is =
    let c : Scope = place s h.procedure.1 h.strict in
    let fits : Fits s (parts_variables ps) h.known e = subst (λ (p : HldsGoal). Fits s (variables p) h.known e) same (fits_left s (variables g.goal) _ h.known e h.fits) in
    let o = ok_then (arms c ps h.known) (λ ends. joined l (outside c.all (parts_variables ps)) h.known ends) h.after (subst (λ (p : HldsGoal). goal c p h.known ≡ Ok h.after) same h.accepted) in
    keys_kind s c ps x keys e h.known o.0 v refl (shape_keys s ps x keys shape) o.1 fits is

-- ---- the variable has a slot

-- where an arm's key is of a variable, that has a slot
abbrev pub IsKeyedIn : Hlds → Shape → HldsGoal → Type 0
IsKeyedIn s f p = (x : ℕ) (k : Key) → arm_key s p ≡ Some (x, k) → x < f.variables

abbrev pub FirstKeyedIn : Hlds → Shape → Way → Type 0
FirstKeyedIn s f (on a p w) = IsKeyedIn s f p.goal
FirstKeyedIn s f (joins a w) = Unit {0}
FirstKeyedIn s f (holds a cut n t) = Unit {0}
FirstKeyedIn s f (denies a cut n b) = Unit {0}
FirstKeyedIn s f (finds a cut n w) = Unit {0}
FirstKeyedIn s f (exits a cut) = Unit {0}
FirstKeyedIn s f (yields a) = Unit {0}
FirstKeyedIn s f (halts a) = Unit {0}

simple_keyed : (s : Hlds) (f : Shape) (l : ℕ) (g : Simple) → ((y : ℕ) → 0 < times y (simple_variables g) → y < f.variables) → IsKeyedIn s f (At l (SimpleGoal g))
simple_keyed s f l g range x k h =
    let t = goal_test s (At l (SimpleGoal g)) x k h in
    range x (subst (λ (p : HldsGoal). 0 < times x (variables p)) (sym t.is) (first_times x _))

parts_keyed : (s : Hlds) (f : Shape) (l n : ℕ) (ps : HldsGoals) (a : Address) (w : Way) → FirstKeyedIn s f (parts_way (leaves_table s) (suc n) ps a w) → IsKeyedIn s f (At l (ConjGoal ps))
parts_keyed s f l n nothing a w h x k is = absurd (cc is)
parts_keyed s f l n (also p ps) a w h x k is = h x k (first_key s p x k is)

pub first_keyed : {s : Hlds} {code : Flat} {f : Shape} {pc p : ℕ} {v : Way} → Leads s code f pc p v → FirstKeyedIn s f v
first_keyed (leads.passes at_pc later) = first_keyed later
first_keyed (leads.charges at_pc later) = first_keyed later
first_keyed {s} {code} {f} (leads.simple {l = l} {g = g} at pc pending stands at_pc range literals later fails) = simple_keyed s f l g range
first_keyed (leads.calls weight after at_pc q range later fails) = λ x k h. absurd (cc h)
first_keyed (leads.applies after at_pc is range later fails) = λ x k h. absurd (cc h)
first_keyed {s} {code} {f} (leads.conjunction {n = n} {l = l} {ps = ps} {a = a} {w = w} at_pc later) = parts_keyed s f l n ps a w (first_keyed later)
first_keyed (leads.disjunction none at_pc fails) = λ x k h. absurd (cc h)
first_keyed (leads.switch by is at_pc detail literals charge others fails) = λ x k h. absurd (cc h)
first_keyed (leads.condition can at_pc later) = λ x k h. absurd (cc h)
first_keyed (leads.condition_above may at_pc keeps tries other later) = λ x k h. absurd (cc h)
first_keyed (leads.negation can at_pc later) = λ x k h. absurd (cc h)
first_keyed (leads.negation_above may at_pc keeps tries other later) = λ x k h. absurd (cc h)
first_keyed (leads.quantified can at_pc later) = λ x k h. absurd (cc h)
first_keyed (leads.quantified_above may at_pc keeps later) = λ x k h. absurd (cc h)
first_keyed (leads.joins_on at_pc fails later) = tt
first_keyed (leads.holding at_pc later) = tt
first_keyed (leads.holding_cut at_pc keeps later) = tt
first_keyed (leads.denying at_pc fails) = tt
first_keyed (leads.denying_cut at_pc keeps fails) = tt
first_keyed (leads.finding at_pc later) = tt
first_keyed (leads.finding_cut at_pc keeps later) = tt
first_keyed (leads.exiting at_pc) = tt
first_keyed (leads.exiting_cut at_pc keeps ends) = tt
first_keyed (leads.yielding at_pc again fails) = tt
