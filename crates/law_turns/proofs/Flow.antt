-- What a run has used and made of what leads on, and what is awaited: as in a net of places and tokens, each event uses what
-- led to it and makes what it leads to.
use Rattle.std.proofs.Common.{◌≡◌, refl, arith, ℕ, zero, suc, ◌+◌, Bool, false, cond, nat_eq, List, [], ◌∷◌, ◌++◌, Option, Some, None, slice_get}
use Rattle.std.specs.Prelude.{⊤}
use Rattle.md_hlds.specs.HldsGoal.{Simple, Fails, Raises, HldsGoal, At, GoalExpr, SimpleGoal, CallGoal, HoCallGoal, ConjGoal, DisjGoal, IfGoal, NotGoal, SomeGoal, HldsGoals, nothing, also, goal_size}
use Rattle.md_hlds.specs.Hlds.{Hlds, body_number, clause_goals}
use Rattle.md_hlds.specs.Value.{Env}
use Rattle.md_hlds.specs.Trace.{Item, Turn, Call, Exit, Redo, Fail, Excp, Alloc, Out, Throw, Answer, Stuck, Deep, Items, joined, first, allocated, written}
use Rattle.md_trace.specs.Activation.{Activation, numbered}
use Rattle.md_det.specs.declared.finding.Finding.{Finding}
use Rattle.md_det.specs.Findings.{program_findings, switch_at, pair_at}
use Rattle.law_safety.specs.Unfolding.{first_answer, failed}
use Rattle.law_turns.specs.Equations.{numbers_from}
use Rattle.law_turns.proofs.Spots.{Cause, ByTurn, ByEnd, ByChoice, ByCall, ByExit, ByNothing, Effect, Begins, Ends, Chooses, Picks, CallsAt, ExitsOf, Nothing, Spot, How, AtOnce, Later, Chosen, how_of, spots}

-- ---- what a goal's turn leads to, and what its end comes of

abbrev pub once_turned : ℕ → Option (Bool × ℕ) → List Effect
once_turned n (Some (false, suc zero)) = Ends n n ∷ []
once_turned n p = []

abbrev pub once_made : ℕ → Option (Bool × ℕ) → List Cause
once_made n (Some (false, suc zero)) = ByTurn n ∷ []
once_made n p = []

abbrev pub simple_turned : ℕ → Simple → Option (Bool × ℕ) → List Effect
simple_turned n Fails p = []
simple_turned n (Raises x) p = Nothing n ∷ []
simple_turned n g p = once_turned n p

abbrev pub simple_made : ℕ → Simple → Option (Bool × ℕ) → List Cause
simple_made n Fails p = ByNothing n ∷ []
simple_made n (Raises x) p = ByNothing n ∷ []
simple_made n g p = once_made n p

abbrev pub arms_turned : ℕ → HldsGoals → How → List Effect
arms_turned n nothing AtOnce = []
arms_turned n (also p ps) AtOnce = Begins (suc n) ∷ []
arms_turned n ps Later = []
arms_turned n ps Chosen = Chooses n ∷ []

abbrev pub turned : List Finding → ℕ → GoalExpr → List Effect
turned fs n (SimpleGoal g) = simple_turned n g (pair_at fs n)
turned fs n (CallGoal site q ys) = CallsAt site ∷ []
turned fs n (HoCallGoal site f ys) = CallsAt site ∷ []
turned fs n (ConjGoal nothing) = Ends n n ∷ []
turned fs n (ConjGoal (also p ps)) = Begins (suc n) ∷ []
turned fs n (DisjGoal ps) = arms_turned n ps (how_of (switch_at fs n))
turned fs n (IfGoal c t e) = Begins (suc n) ∷ Chooses n ∷ []
turned fs n (NotGoal c) = Begins (suc n) ∷ Chooses n ∷ []
turned fs n (SomeGoal vs c) = Begins (suc n) ∷ []

abbrev pub made : List Finding → (n j : ℕ) → GoalExpr → List Cause
made fs n j (SimpleGoal g) = simple_made n g (pair_at fs n)
made fs n j (CallGoal site q ys) = ByExit site ∷ []
made fs n j (HoCallGoal site f ys) = ByExit site ∷ []
made fs n j (ConjGoal nothing) = ByTurn n ∷ []
made fs n j (ConjGoal (also p ps)) = ByEnd j ∷ []
made fs n j (DisjGoal ps) = ByEnd j ∷ []
made fs n j (IfGoal c t e) = ByEnd j ∷ []
made fs n j (NotGoal c) = ByChoice n n ∷ []
made fs n j (SomeGoal vs c) = ByEnd j ∷ []

-- the choice of the negation i falls on itself, where it succeeds, or on its condition
abbrev pub chosen : (i j : ℕ) → GoalExpr → List Effect
chosen i j (NotGoal c) = cond (nat_eq i j) (Ends i i ∷ []) []
chosen i j t = Begins j ∷ []

abbrev pub picked : (i j : ℕ) → GoalExpr → List Cause
picked i j (NotGoal c) = cond (nat_eq i j) [] (ByEnd j ∷ [])
picked i j t = []

-- the number of the last of these parts, the first of which has the number m
abbrev pub last_from : ℕ → ℕ → HldsGoals → ℕ
last_from n m nothing = n
last_from n m (also p ps) = last_from m (m + goal_size p) ps

-- by way of which parts a goal ends, and on which its choice may fall
abbrev pub vias : ℕ → GoalExpr → List ℕ
vias n (ConjGoal ps) = last_from n (suc n) ps ∷ []
vias n (DisjGoal ps) = numbers_from (suc n) ps
vias n (IfGoal c t e) = (suc n + goal_size c) ∷ (suc n + goal_size c + goal_size t) ∷ []
vias n (SomeGoal vs c) = suc n ∷ []
vias n t = n ∷ []

abbrev pub choices : ℕ → GoalExpr → List ℕ
choices n (DisjGoal ps) = numbers_from (suc n) ps
choices n (IfGoal c t e) = (suc n + goal_size c) ∷ (suc n + goal_size c + goal_size t) ∷ []
choices n (NotGoal c) = n ∷ suc n ∷ []
choices n t = []

-- ---- of the goal of a number

abbrev expr_of : HldsGoal → GoalExpr
expr_of (At l t) = t

abbrev pub begun_at : Option Spot → List Cause
begun_at None = []
begun_at (Some x) = x.begun

abbrev pub ended_at : Option Spot → List Effect
ended_at None = []
ended_at (Some x) = x.ended

abbrev pub turned_at : List Finding → ℕ → Option Spot → List Effect
turned_at fs n None = []
turned_at fs n (Some x) = turned fs n (expr_of x.goal)

abbrev pub made_at : List Finding → (n j : ℕ) → Option Spot → List Cause
made_at fs n j None = []
made_at fs n j (Some x) = made fs n j (expr_of x.goal)

abbrev pub chosen_at : (i j : ℕ) → Option Spot → List Effect
chosen_at i j None = []
chosen_at i j (Some x) = chosen i j (expr_of x.goal)

abbrev pub picked_at : (i j : ℕ) → Option Spot → List Cause
picked_at i j None = []
picked_at i j (Some x) = picked i j (expr_of x.goal)

abbrev pub vias_at : ℕ → Option Spot → List ℕ
vias_at n None = []
vias_at n (Some x) = vias n (expr_of x.goal)

abbrev pub choices_at : ℕ → Option Spot → List ℕ
choices_at n None = []
choices_at n (Some x) = choices n (expr_of x.goal)

-- the number of the first goal that is a call at this site, counted on from n
abbrev pub is_at_site : ℕ → GoalExpr → Bool
is_at_site x (CallGoal site q ys) = nat_eq site x
is_at_site x (HoCallGoal site f ys) = nat_eq site x
is_at_site x t = false

abbrev pub find_site : ℕ → ℕ → List HldsGoal → ℕ
find_site x n [] = n
find_site x n (At l t ∷ gs) = cond (is_at_site x t) n (find_site x (suc n) gs)

abbrev pub goal_of_site : Hlds → ℕ → ℕ
goal_of_site s x = find_site x 0 (clause_goals s.procedures)

-- ---- causes and effects

unfoldable pub causes : Hlds → Effect → List Cause
causes s (Begins n) = begun_at (slice_get (spots s) n)
causes s (Ends n j) = made_at (program_findings s) n j (slice_get (spots s) n)
causes s (Chooses i) = ByTurn i ∷ []
causes s (Picks i j) = picked_at i j (slice_get (spots s) i)
causes s (CallsAt x) = ByTurn (goal_of_site s x) ∷ []
causes s (ExitsOf q) = ByEnd (body_number s q) ∷ []
causes s (Nothing n) = ByTurn n ∷ []

unfoldable pub effects : Hlds → Cause → List Effect
effects s (ByTurn n) = turned_at (program_findings s) n (slice_get (spots s) n)
effects s (ByEnd n) = ended_at (slice_get (spots s) n)
effects s (ByChoice i j) = chosen_at i j (slice_get (spots s) i)
effects s (ByCall q) = Begins (body_number s q) ∷ []
effects s (ByExit x) = Ends (goal_of_site s x) (goal_of_site s x) ∷ []
effects s (ByNothing n) = Ends n n ∷ []

-- a token: this cause leads to this effect
pub record Token : Type 0 where
  pub cause : Cause
  pub effect : Effect

abbrev pub token : Cause → Effect → Token
token c e = record { cause = c; effect = e }

-- weights of tokens
abbrev pub Weight : Type 0
Weight = Cause → Effect → ℕ

abbrev pub to_effect : Effect → List Cause → List Token
to_effect e [] = []
to_effect e (c ∷ cs) = token c e ∷ to_effect e cs

abbrev pub of_cause : Cause → List Effect → List Token
of_cause c [] = []
of_cause c (e ∷ es) = token c e ∷ of_cause c es

-- what an effect uses, and what a cause makes
abbrev pub uses : Hlds → Effect → List Token
uses s e = to_effect e (causes s e)

abbrev pub makes : Hlds → Cause → List Token
makes s c = of_cause c (effects s c)

unfoldable pub weigh : Weight → List Token → ℕ
weigh v [] = 0
weigh v (t ∷ ts) = v t.cause t.effect + weigh v ts

pub weigh_append : (v : Weight) (xs ys : List Token) → weigh v (xs ++ ys) ≡ weigh v xs + weigh v ys
unfolding weigh
weigh_append v [] ys = omega arith
weigh_append v (t ∷ xs) ys = let more = weigh_append v xs ys in omega (arith, more)

-- ---- marks

abbrev pub how_often : ℕ → List ℕ → ℕ
how_often j [] = 0
how_often j (m ∷ ms) = cond (nat_eq m j) 1 0 + how_often j ms

-- What a run doesn't show: that the goal n ended by way of its part j, and that the choice of the goal i fell on j.
pub data Mark (s : Hlds) : Type 0 where
  Ended : (n j : ℕ) → how_often j (vias_at n (slice_get (spots s) n)) ≡ 1 → Mark s
  Chose : (i j : ℕ) → how_often j (choices_at i (slice_get (spots s) i)) ≡ 1 → Mark s

abbrev pub mark_uses : (s : Hlds) → Mark s → List Token
mark_uses s (Ended n j is) = uses s (Ends n j)
mark_uses s (Chose i j is) = uses s (Chooses i) ++ uses s (Picks i j)

abbrev pub mark_makes : (s : Hlds) → Mark s → List Token
mark_makes s (Ended n j is) = makes s (ByEnd n)
mark_makes s (Chose i j is) = makes s (ByChoice i j)

abbrev pub marks_use : (s : Hlds) → Weight → List (Mark s) → ℕ
marks_use s v [] = 0
marks_use s v (m ∷ ms) = weigh v (mark_uses s m) + marks_use s v ms

abbrev pub marks_make : (s : Hlds) → Weight → List (Mark s) → ℕ
marks_make s v [] = 0
marks_make s v (m ∷ ms) = weigh v (mark_makes s m) + marks_make s v ms

-- ---- items, where these are the run's activations

abbrev pub exit_uses : Hlds → Option Activation → List Token
exit_uses s None = []
exit_uses s (Some x) = uses s (ExitsOf x.procedure)

abbrev pub site_makes : Hlds → Option ℕ → List Token
site_makes s None = []
site_makes s (Some x) = makes s (ByExit x)

abbrev pub exit_makes : Hlds → Option Activation → List Token
exit_makes s None = []
exit_makes s (Some x) = site_makes s x.site

abbrev pub call_uses : Hlds → Option ℕ → List Token
call_uses s None = []
call_uses s (Some x) = uses s (CallsAt x)

abbrev pub item_uses : Hlds → List Activation → Item → List Token
item_uses s acts (Turn a (Some n) w) = uses s (Begins n)
item_uses s acts (Call a p x q) = call_uses s x
item_uses s acts (Exit a) = exit_uses s (numbered acts a)
item_uses s acts x = []

abbrev pub item_makes : Hlds → List Activation → Item → List Token
item_makes s acts (Turn a (Some n) w) = makes s (ByTurn n)
item_makes s acts (Call a p x q) = makes s (ByCall q)
item_makes s acts (Exit a) = exit_makes s (numbered acts a)
item_makes s acts x = []

abbrev pub items_use : Hlds → List Activation → Weight → Items → ℕ
items_use s acts v [] = 0
items_use s acts v (x ∷ xs) = weigh v (item_uses s acts x) + items_use s acts v xs

abbrev pub items_make : Hlds → List Activation → Weight → Items → ℕ
items_make s acts v [] = 0
items_make s acts v (x ∷ xs) = weigh v (item_makes s acts x) + items_make s acts v xs

-- ---- the balance

-- After these items, the latest first, these tokens are awaited: what was used and what is awaited is what was made.
pub record Awaits (s : Hlds) (acts : List Activation) (done : Items) (due : List Token) : Type 0 where
  pub marks : List (Mark s)
  pub even : (v : Weight) → items_use s acts v done + marks_use s v marks + weigh v due ≡ items_make s acts v done + marks_make s v marks

pub awaits_item : (s : Hlds) (acts : List Activation) (done : Items) (x : Item) (due : List Token) → Awaits s acts done (item_uses s acts x ++ due) → Awaits s acts (x ∷ done) (item_makes s acts x ++ due)
awaits_item s acts done x due h = record {
  marks = h.marks;
  even = λ v.
      let was = h.even v in
      let a = weigh_append v (item_uses s acts x) due in
      let b = weigh_append v (item_makes s acts x) due in
      omega (arith, was, a, b);
}

pub awaits_mark : (s : Hlds) (acts : List Activation) (done : Items) (m : Mark s) (due : List Token) → Awaits s acts done (mark_uses s m ++ due) → Awaits s acts done (mark_makes s m ++ due)
awaits_mark s acts done m due h = record {
  marks = m ∷ h.marks;
  even = λ v.
      let was = h.even v in
      let a = weigh_append v (mark_uses s m) due in
      let b = weigh_append v (mark_makes s m) due in
      omega (arith, was, a, b);
}

-- two lists of tokens one after the other, in the other order
pub awaits_turned : (s : Hlds) (acts : List Activation) (done : Items) (xs ys due : List Token) → Awaits s acts done (xs ++ (ys ++ due)) → Awaits s acts done (ys ++ (xs ++ due))
awaits_turned s acts done xs ys due h = record {
  marks = h.marks;
  even = λ v.
      let was = h.even v in
      let a = weigh_append v xs (ys ++ due) in
      let b = weigh_append v ys due in
      let c = weigh_append v ys (xs ++ due) in
      let d = weigh_append v xs due in
      omega (arith, was, a, b, c, d);
}

-- ---- what a trace leads to

-- Up to its first answer, or to its end where it has none, these items lead from what was done before to where `good` holds, or
-- `over`, if the activations of their calls are the run's. Nothing is said of a trace that is thrown or breaks off.
abbrev pub Leads : List Activation → (Env → ℕ → Items → Type 0) → (ℕ → Items → Type 0) → Items → ℕ → Items → Type 0
Leads acts good over [] k done = over k done
Leads acts good over (Answer e ∷ xs) k done = good e k done
Leads acts good over (Call a p x q ∷ xs) k done = numbered acts a ≡ Some (record { parent = p; site = x; procedure = q }) → Leads acts good over xs (suc k) (Call a p x q ∷ done)
Leads acts good over (Throw bytes ∷ xs) k done = ⊤
Leads acts good over (Stuck ∷ xs) k done = ⊤
Leads acts good over (Deep ∷ xs) k done = ⊤
Leads acts good over (x ∷ xs) k done = Leads acts good over xs k (x ∷ done)

-- a trace up to its first answer, and then what comes of it
pub leads_first : (acts : List Activation) (good : Env → ℕ → Items → Type 0) (over : ℕ → Items → Type 0) (best : Env → ℕ → Items → Type 0) (last : ℕ → Items → Type 0)
    (found : Env → ℕ → Items) (missed : ℕ → Items) (thrown : Items) (xs : Items) (k : ℕ) (done : Items)
    → Leads acts good over xs k done
    → ((e : Env) (i : ℕ) (then' : Items) → first_answer xs k ≡ Some (e, i) → good e i then' → Leads acts best last (found e i) i then')
    → ((i : ℕ) (then' : Items) → failed xs k ≡ Some i → over i then' → Leads acts best last (missed i) i then')
    → Leads acts best last (first xs k found missed thrown) k done
leads_first acts good over best last found missed thrown [] k done h won lost = lost k done refl h
leads_first acts good over best last found missed thrown (Answer e ∷ xs) k done h won lost = won e k done refl h
leads_first acts good over best last found missed thrown (Call a p x q ∷ xs) k done h won lost = λ is. leads_first acts good over best last found missed thrown xs (suc k) (Call a p x q ∷ done) (h is) won lost
leads_first acts good over best last found missed thrown (Throw bytes ∷ xs) k done h won lost = tt
leads_first acts good over best last found missed thrown (Stuck ∷ xs) k done h won lost = tt
leads_first acts good over best last found missed thrown (Deep ∷ xs) k done h won lost = tt
leads_first acts good over best last found missed thrown (Turn a g w ∷ xs) k done h won lost = leads_first acts good over best last found missed thrown xs k (Turn a g w ∷ done) h won lost
leads_first acts good over best last found missed thrown (Exit a ∷ xs) k done h won lost = leads_first acts good over best last found missed thrown xs k (Exit a ∷ done) h won lost
leads_first acts good over best last found missed thrown (Redo a ∷ xs) k done h won lost = leads_first acts good over best last found missed thrown xs k (Redo a ∷ done) h won lost
leads_first acts good over best last found missed thrown (Fail a ∷ xs) k done h won lost = leads_first acts good over best last found missed thrown xs k (Fail a ∷ done) h won lost
leads_first acts good over best last found missed thrown (Excp a ∷ xs) k done h won lost = leads_first acts good over best last found missed thrown xs k (Excp a ∷ done) h won lost
leads_first acts good over best last found missed thrown (Alloc a w ∷ xs) k done h won lost = leads_first acts good over best last found missed thrown xs k (Alloc a w ∷ done) h won lost
leads_first acts good over best last found missed thrown (Out bytes ∷ xs) k done h won lost = leads_first acts good over best last found missed thrown xs k (Out bytes ∷ done) h won lost

-- one trace and then, where it has no answer, another
pub leads_joined : (acts : List Activation) (good : Env → ℕ → Items → Type 0) (over : ℕ → Items → Type 0) (last : ℕ → Items → Type 0) (rest : ℕ → Items) (xs : Items) (k : ℕ) (done : Items)
    → Leads acts good over xs k done
    → ((i : ℕ) (then' : Items) → failed xs k ≡ Some i → over i then' → Leads acts good last (rest i) i then')
    → Leads acts good last (joined xs k rest) k done
leads_joined acts good over last rest [] k done h lost = lost k done refl h
leads_joined acts good over last rest (Answer e ∷ xs) k done h lost = h
leads_joined acts good over last rest (Call a p x q ∷ xs) k done h lost = λ is. leads_joined acts good over last rest xs (suc k) (Call a p x q ∷ done) (h is) lost
leads_joined acts good over last rest (Throw bytes ∷ xs) k done h lost = tt
leads_joined acts good over last rest (Stuck ∷ xs) k done h lost = tt
leads_joined acts good over last rest (Deep ∷ xs) k done h lost = tt
leads_joined acts good over last rest (Turn a g w ∷ xs) k done h lost = leads_joined acts good over last rest xs k (Turn a g w ∷ done) h lost
leads_joined acts good over last rest (Exit a ∷ xs) k done h lost = leads_joined acts good over last rest xs k (Exit a ∷ done) h lost
leads_joined acts good over last rest (Redo a ∷ xs) k done h lost = leads_joined acts good over last rest xs k (Redo a ∷ done) h lost
leads_joined acts good over last rest (Fail a ∷ xs) k done h lost = leads_joined acts good over last rest xs k (Fail a ∷ done) h lost
leads_joined acts good over last rest (Excp a ∷ xs) k done h lost = leads_joined acts good over last rest xs k (Excp a ∷ done) h lost
leads_joined acts good over last rest (Alloc a w ∷ xs) k done h lost = leads_joined acts good over last rest xs k (Alloc a w ∷ done) h lost
leads_joined acts good over last rest (Out bytes ∷ xs) k done h lost = leads_joined acts good over last rest xs k (Out bytes ∷ done) h lost

-- an allocation and an output use and make nothing
pub leads_quietly : (s : Hlds) (acts : List Activation) (good : Env → ℕ → Items → Type 0) (over : ℕ → Items → Type 0) (a words : ℕ) (out : Option (List ℕ)) (xs : Items) (k : ℕ) (done : Items) (due : List Token)
    → Awaits s acts done due → ((then' : Items) → Awaits s acts then' due → Leads acts good over xs k then')
    → Leads acts good over (allocated a words ++ (written out ++ xs)) k done
leads_quietly s acts good over a zero None xs k done due h rest = rest done h
leads_quietly s acts good over a zero (Some bytes) xs k done due h rest = rest (Out bytes ∷ done) (awaits_item s acts done (Out bytes) due h)
leads_quietly s acts good over a (suc w) None xs k done due h rest = rest (Alloc a (suc w) ∷ done) (awaits_item s acts done (Alloc a (suc w)) due h)
leads_quietly s acts good over a (suc w) (Some bytes) xs k done due h rest =
    rest (Out bytes ∷ Alloc a (suc w) ∷ done) (awaits_item s acts (Alloc a (suc w) ∷ done) (Out bytes) due (awaits_item s acts done (Alloc a (suc w)) due h))
