-- Where a cause leads to an effect alone, and the effect has that cause alone, there are as many of the one as of the other.
use Rattle.std.proofs.Common.{◌≡◌, refl, sym, ap, ◌∙◌, subst, arith, ℕ, ◌+◌, Bool, true, false, ◌&&◌, cond, nat_eq, List, [], ◌∷◌, Option, Some, None}
use Rattle.std.proofs.lemmas.Bool.{eqb-true}
use Rattle.md_hlds.specs.Hlds.{Hlds}
use Rattle.md_hlds.specs.Trace.{Item, Turn, Call, Exit, Redo, Fail, Excp, Alloc, Out, Throw, Answer, Stuck, Deep, Items}
use Rattle.md_trace.specs.Activation.{Activation, numbered}
use Rattle.law_turns.proofs.Spots.{Cause, ByTurn, ByEnd, ByChoice, ByCall, ByExit, ByNothing, Effect, Begins, Ends, Chooses, Picks, CallsAt, ExitsOf, Nothing}
use Rattle.law_turns.proofs.Flow.{Weight, weigh, weigh_append, to_effect, of_cause, causes, effects, uses, makes, Mark, Ended, Chose, mark_uses, mark_makes, marks_use, marks_make, exit_uses, exit_makes, site_makes, call_uses, item_uses, item_makes, items_use, items_make}
use Rattle.law_turns.proofs.Places.{same_number}

-- ---- the same cause, the same effect

abbrev pub same_cause : Cause → Cause → Bool
same_cause (ByTurn m) (ByTurn n) = nat_eq m n
same_cause (ByEnd m) (ByEnd n) = nat_eq m n
same_cause (ByChoice i j) (ByChoice m n) = nat_eq i m && nat_eq j n
same_cause (ByCall p) (ByCall q) = nat_eq p q
same_cause (ByExit x) (ByExit y) = nat_eq x y
same_cause (ByNothing m) (ByNothing n) = nat_eq m n
same_cause c d = false

abbrev pub same_effect : Effect → Effect → Bool
same_effect (Begins m) (Begins n) = nat_eq m n
same_effect (Ends i j) (Ends m n) = nat_eq i m && nat_eq j n
same_effect (Chooses m) (Chooses n) = nat_eq m n
same_effect (Picks i j) (Picks m n) = nat_eq i m && nat_eq j n
same_effect (CallsAt x) (CallsAt y) = nat_eq x y
same_effect (ExitsOf p) (ExitsOf q) = nat_eq p q
same_effect (Nothing m) (Nothing n) = nat_eq m n
same_effect e f = false

both_true : (a b : Bool) → (a && b) ≡ true → (a ≡ true) × (b ≡ true)
both_true true b is = (refl, is)
both_true false b is = absurd (cc is)

two_same : {A : Type 0} (f : ℕ → ℕ → A) (i j m n : ℕ) → (nat_eq i m && nat_eq j n) ≡ true → f i j ≡ f m n
two_same f i j m n is =
    let b = both_true (nat_eq i m) (nat_eq j n) is in
    ap (λ (x : ℕ). f x j) (eqb-true i m b.0) ∙ ap (λ (x : ℕ). f m x) (eqb-true j n b.1)

cause_same : (c d : Cause) → same_cause c d ≡ true → c ≡ d
cause_same (ByTurn m) (ByTurn n) is = ap ByTurn (eqb-true m n is)
cause_same (ByEnd m) (ByEnd n) is = ap ByEnd (eqb-true m n is)
cause_same (ByChoice i j) (ByChoice m n) is = two_same ByChoice i j m n is
cause_same (ByCall p) (ByCall q) is = ap ByCall (eqb-true p q is)
cause_same (ByExit x) (ByExit y) is = ap ByExit (eqb-true x y is)
cause_same (ByNothing m) (ByNothing n) is = ap ByNothing (eqb-true m n is)
cause_same c d is = absurd (cc is)

effect_same : (e f : Effect) → same_effect e f ≡ true → e ≡ f
effect_same (Begins m) (Begins n) is = ap Begins (eqb-true m n is)
effect_same (Ends i j) (Ends m n) is = two_same Ends i j m n is
effect_same (Chooses m) (Chooses n) is = ap Chooses (eqb-true m n is)
effect_same (Picks i j) (Picks m n) is = two_same Picks i j m n is
effect_same (CallsAt x) (CallsAt y) is = ap CallsAt (eqb-true x y is)
effect_same (ExitsOf p) (ExitsOf q) is = ap ExitsOf (eqb-true p q is)
effect_same (Nothing m) (Nothing n) is = ap Nothing (eqb-true m n is)
effect_same e f is = absurd (cc is)

pub cause_itself : (c : Cause) → same_cause c c ≡ true
cause_itself (ByTurn n) = same_number n
cause_itself (ByEnd n) = same_number n
cause_itself (ByChoice i j) = rw (same_number i, same_number j) refl
cause_itself (ByCall q) = same_number q
cause_itself (ByExit x) = same_number x
cause_itself (ByNothing n) = same_number n

pub effect_itself : (e : Effect) → same_effect e e ≡ true
effect_itself (Begins n) = same_number n
effect_itself (Ends n j) = rw (same_number n, same_number j) refl
effect_itself (Chooses i) = same_number i
effect_itself (Picks i j) = rw (same_number i, same_number j) refl
effect_itself (CallsAt x) = same_number x
effect_itself (ExitsOf q) = same_number q
effect_itself (Nothing n) = same_number n

-- the weight of one token
abbrev pub only : Cause → Effect → Weight
only c e d f = cond (same_effect f e) (cond (same_cause d c) 1 0) 0

-- ---- what is counted

abbrev pub count_effect : Effect → List Effect → ℕ
count_effect e [] = 0
count_effect e (f ∷ fs) = cond (same_effect f e) 1 0 + count_effect e fs

abbrev pub count_cause : Cause → List Cause → ℕ
count_cause c [] = 0
count_cause c (d ∷ ds) = cond (same_cause d c) 1 0 + count_cause c ds

abbrev pub exit_effects : Option Activation → List Effect
exit_effects None = []
exit_effects (Some x) = ExitsOf x.procedure ∷ []

abbrev pub site_causes : Option ℕ → List Cause
site_causes None = []
site_causes (Some x) = ByExit x ∷ []

abbrev pub exit_causes : Option Activation → List Cause
exit_causes None = []
exit_causes (Some x) = site_causes x.site

abbrev pub call_effects : Option ℕ → List Effect
call_effects None = []
call_effects (Some x) = CallsAt x ∷ []

abbrev pub item_effects : List Activation → Item → List Effect
item_effects acts (Turn a (Some n) w) = Begins n ∷ []
item_effects acts (Call a p x q) = call_effects x
item_effects acts (Exit a) = exit_effects (numbered acts a)
item_effects acts x = []

abbrev pub item_causes : List Activation → Item → List Cause
item_causes acts (Turn a (Some n) w) = ByTurn n ∷ []
item_causes acts (Call a p x q) = ByCall q ∷ []
item_causes acts (Exit a) = exit_causes (numbered acts a)
item_causes acts x = []

abbrev pub effects_of : List Activation → Effect → Items → ℕ
effects_of acts e [] = 0
effects_of acts e (x ∷ xs) = count_effect e (item_effects acts x) + effects_of acts e xs

abbrev pub causes_of : List Activation → Cause → Items → ℕ
causes_of acts c [] = 0
causes_of acts c (x ∷ xs) = count_cause c (item_causes acts x) + causes_of acts c xs

abbrev pub mark_effects : (s : Hlds) → Mark s → List Effect
mark_effects s (Ended n j is) = Ends n j ∷ []
mark_effects s (Chose i j is) = Chooses i ∷ Picks i j ∷ []

abbrev pub mark_causes : (s : Hlds) → Mark s → List Cause
mark_causes s (Ended n j is) = ByEnd n ∷ []
mark_causes s (Chose i j is) = ByChoice i j ∷ []

abbrev pub effects_marked : (s : Hlds) → Effect → List (Mark s) → ℕ
effects_marked s e [] = 0
effects_marked s e (m ∷ ms) = count_effect e (mark_effects s m) + effects_marked s e ms

abbrev pub causes_marked : (s : Hlds) → Cause → List (Mark s) → ℕ
causes_marked s c [] = 0
causes_marked s c (m ∷ ms) = count_cause c (mark_causes s m) + causes_marked s c ms

-- ---- one token's weight counts its effect, and its cause

no_uses : (c : Cause) (e f : Effect) (cs : List Cause) → same_effect f e ≡ false → weigh (only c e) (to_effect f cs) ≡ 0
unfolding weigh
no_uses c e f [] other = refl
no_uses c e f (d ∷ ds) other = let more = no_uses c e f ds other in rw (other, more) refl

nothing_either : (b : Bool) → ◌≡◌ {A = ℕ} (cond b 0 0) 0
nothing_either true = refl
nothing_either false = refl

no_makes : (c d : Cause) (e : Effect) (fs : List Effect) → same_cause d c ≡ false → weigh (only c e) (of_cause d fs) ≡ 0
unfolding weigh
no_makes c d e [] other = refl
no_makes c d e (f ∷ fs) other = let more = no_makes c d e fs other in let none = nothing_either (same_effect f e) in rw (other, more, none) refl

module _ (s : Hlds) (acts : List Activation) (c : Cause) (e : Effect) (used : weigh (only c e) (uses s e) ≡ 1) (made : weigh (only c e) (makes s c) ≡ 1) where
  uses_by : (f : Effect) (b : Bool) → same_effect f e ≡ b → weigh (only c e) (uses s f) ≡ cond b 1 0
  uses_by f true is = subst (λ (g : Effect). weigh (only c e) (uses s g) ≡ 1) (sym (effect_same f e is)) used
  uses_by f false is = no_uses c e f (causes s f) is

  makes_by : (d : Cause) (b : Bool) → same_cause d c ≡ b → weigh (only c e) (makes s d) ≡ cond b 1 0
  makes_by d true is = subst (λ (g : Cause). weigh (only c e) (makes s g) ≡ 1) (sym (cause_same d c is)) made
  makes_by d false is = no_makes c d e (effects s d) is

  one_use : (f : Effect) → weigh (only c e) (uses s f) ≡ count_effect e (f ∷ [])
  one_use f = let is = uses_by f (same_effect f e) refl in omega (arith, is)

  one_make : (d : Cause) → weigh (only c e) (makes s d) ≡ count_cause c (d ∷ [])
  one_make d = let is = makes_by d (same_cause d c) refl in omega (arith, is)

  none : weigh (only c e) [] ≡ 0
  unfolding weigh
  none = refl

  exit_used : (o : Option Activation) → weigh (only c e) (exit_uses s o) ≡ count_effect e (exit_effects o)
  exit_used None = none
  exit_used (Some x) = one_use (ExitsOf x.procedure)

  site_made : (o : Option ℕ) → weigh (only c e) (site_makes s o) ≡ count_cause c (site_causes o)
  site_made None = none
  site_made (Some x) = one_make (ByExit x)

  exit_made : (o : Option Activation) → weigh (only c e) (exit_makes s o) ≡ count_cause c (exit_causes o)
  exit_made None = none
  exit_made (Some x) = site_made x.site

  call_used : (o : Option ℕ) → weigh (only c e) (call_uses s o) ≡ count_effect e (call_effects o)
  call_used None = none
  call_used (Some x) = one_use (CallsAt x)

  item_used : (x : Item) → weigh (only c e) (item_uses s acts x) ≡ count_effect e (item_effects acts x)
  item_used (Turn a (Some n) w) = one_use (Begins n)
  item_used (Turn a None w) = none
  item_used (Call a p x q) = call_used x
  item_used (Exit a) = exit_used (numbered acts a)
  item_used (Redo a) = none
  item_used (Fail a) = none
  item_used (Excp a) = none
  item_used (Alloc a w) = none
  item_used (Out bytes) = none
  item_used (Throw bytes) = none
  item_used (Answer d) = none
  item_used Stuck = none
  item_used Deep = none

  item_made : (x : Item) → weigh (only c e) (item_makes s acts x) ≡ count_cause c (item_causes acts x)
  item_made (Turn a (Some n) w) = one_make (ByTurn n)
  item_made (Turn a None w) = none
  item_made (Call a p x q) = one_make (ByCall q)
  item_made (Exit a) = exit_made (numbered acts a)
  item_made (Redo a) = none
  item_made (Fail a) = none
  item_made (Excp a) = none
  item_made (Alloc a w) = none
  item_made (Out bytes) = none
  item_made (Throw bytes) = none
  item_made (Answer d) = none
  item_made Stuck = none
  item_made Deep = none

  items_used : (xs : Items) → items_use s acts (only c e) xs ≡ effects_of acts e xs
  items_used [] = refl
  items_used (x ∷ xs) = let a = item_used x in let b = items_used xs in omega (arith, a, b)

  items_made : (xs : Items) → items_make s acts (only c e) xs ≡ causes_of acts c xs
  items_made [] = refl
  items_made (x ∷ xs) = let a = item_made x in let b = items_made xs in omega (arith, a, b)

  mark_used : (m : Mark s) → weigh (only c e) (mark_uses s m) ≡ count_effect e (mark_effects s m)
  mark_used (Ended n j is) = one_use (Ends n j)
  mark_used (Chose i j is) =
      let both = weigh_append (only c e) (uses s (Chooses i)) (uses s (Picks i j)) in
      let a = one_use (Chooses i) in let b = one_use (Picks i j) in omega (arith, both, a, b)

  mark_made : (m : Mark s) → weigh (only c e) (mark_makes s m) ≡ count_cause c (mark_causes s m)
  mark_made (Ended n j is) = one_make (ByEnd n)
  mark_made (Chose i j is) = one_make (ByChoice i j)

  marks_used : (ms : List (Mark s)) → marks_use s (only c e) ms ≡ effects_marked s e ms
  marks_used [] = refl
  marks_used (m ∷ ms) = let a = mark_used m in let b = marks_used ms in omega (arith, a, b)

  marks_made : (ms : List (Mark s)) → marks_make s (only c e) ms ≡ causes_marked s c ms
  marks_made [] = refl
  marks_made (m ∷ ms) = let a = mark_made m in let b = marks_made ms in omega (arith, a, b)

  -- as many of the effect as of the cause
  pub level : (xs : Items) (ms : List (Mark s)) → ((v : Weight) → items_use s acts v xs + marks_use s v ms ≡ items_make s acts v xs + marks_make s v ms)
      → effects_of acts e xs + effects_marked s e ms ≡ causes_of acts c xs + causes_marked s c ms
  level xs ms even =
      let h = even (only c e) in
      let a = items_used xs in let b = marks_used ms in let d = items_made xs in let f = marks_made ms in
      omega (arith, h, a, b, d, f)

-- ---- one cause, one effect

pub used_alone : (s : Hlds) (c : Cause) (e : Effect) → causes s e ≡ c ∷ [] → weigh (only c e) (uses s e) ≡ 1
unfolding weigh
used_alone s c e is = let a = cause_itself c in let b = effect_itself e in rw (is, a, b) refl

pub used_first : (s : Hlds) (c d : Cause) (e : Effect) → causes s e ≡ c ∷ d ∷ [] → same_cause d c ≡ false → weigh (only c e) (uses s e) ≡ 1
unfolding weigh
used_first s c d e is other = let a = cause_itself c in let b = effect_itself e in rw (is, a, b, other) refl

pub used_second : (s : Hlds) (c d : Cause) (e : Effect) → causes s e ≡ c ∷ d ∷ [] → same_cause c d ≡ false → weigh (only d e) (uses s e) ≡ 1
unfolding weigh
used_second s c d e is other = let a = cause_itself d in let b = effect_itself e in rw (is, a, b, other) refl

pub made_alone : (s : Hlds) (c : Cause) (e : Effect) → effects s c ≡ e ∷ [] → weigh (only c e) (makes s c) ≡ 1
unfolding weigh
made_alone s c e is = let a = cause_itself c in let b = effect_itself e in rw (is, a, b) refl

pub made_first : (s : Hlds) (c : Cause) (e f : Effect) → effects s c ≡ e ∷ f ∷ [] → same_effect f e ≡ false → weigh (only c e) (makes s c) ≡ 1
unfolding weigh
made_first s c e f is other = let a = cause_itself c in let b = effect_itself e in rw (is, a, b, other) refl

pub made_second : (s : Hlds) (c : Cause) (e f : Effect) → effects s c ≡ e ∷ f ∷ [] → same_effect e f ≡ false → weigh (only c f) (makes s c) ≡ 1
unfolding weigh
made_second s c e f is other = let a = cause_itself c in let b = effect_itself f in rw (is, a, b, other) refl
