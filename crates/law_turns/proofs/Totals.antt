-- What the effects and causes of a finished run come to: turns of goals, calls and exits of procedures and sites, and marks.
use Rattle.std.proofs.Common.{◌≡◌, refl, sym, ap, ◌∙◌, subst, arith, ℕ, ◌+◌, Bool, true, false, ◌&&◌, cond, nat_eq, List, [], ◌∷◌, Option, Some, None, slice_get}
use Rattle.std.specs.Prelude.{option_and_then, if◌then◌else◌}
use Rattle.std.specs.Option.{option_map}
use Rattle.std.proofs.lemmas.Bool.{eqb-true, ne_eqb}
use Rattle.md_base.specs.declared.measure.Measure.TheVariants.{Calls, Exits}
use Rattle.md_hlds.specs.Hlds.{Hlds}
use Rattle.md_hlds.specs.Trace.{Turn, Call, Exit, Redo, Fail, Excp, Alloc, Out, Throw, Answer, Stuck, Deep, Items}
use Rattle.md_trace.specs.declared.event.Event.{Event}
use Rattle.md_trace.specs.declared.event.Event.TheVariants.{Call as CallOf, Exit as ExitOf, Redo as RedoOf, Fail as FailOf, Excp as ExcpOf, Alloc as AllocOf}
use Rattle.md_trace.specs.Activation.{Activation, numbered}
use Rattle.md_trace.specs.Count.{sum_where}
use Rattle.law_events.specs.History.{told, history}
use Rattle.law_turns.specs.Counts.{turns_of, is_number, is_of_procedure, is_called_at}
use Rattle.law_turns.proofs.Spots.{Cause, ByTurn, ByEnd, ByChoice, ByCall, ByExit, Effect, Begins, Ends, Chooses, Picks, CallsAt, ExitsOf, spots}
use Rattle.law_turns.proofs.Flow.{how_often, vias_at, choices_at, Mark, Ended, Chose}
use Rattle.law_turns.proofs.Places.{same_number}
use Rattle.law_turns.proofs.Level.{same_cause, same_effect, count_effect, count_cause, exit_effects, site_causes, exit_causes, call_effects, effects_of, causes_of, effects_marked, causes_marked}
use Rattle.law_turns.proofs.RunFlow.{AllAgree}

-- ---- turns

no_exit : (n : ℕ) (o : Option Activation) → count_effect (Begins n) (exit_effects o) ≡ 0
no_exit n None = refl
no_exit n (Some x) = refl

no_call : (n : ℕ) (o : Option ℕ) → count_effect (Begins n) (call_effects o) ≡ 0
no_call n None = refl
no_call n (Some x) = refl

pub turns_begun : (acts : List Activation) (n : ℕ) (xs : Items) → effects_of acts (Begins n) xs ≡ turns_of xs n
turns_begun acts n [] = refl
turns_begun acts n (Turn a (Some g) w ∷ xs) = let more = turns_begun acts n xs in omega (arith, more)
turns_begun acts n (Turn a None w ∷ xs) = let more = turns_begun acts n xs in omega (arith, more)
turns_begun acts n (Call a p x q ∷ xs) = let more = turns_begun acts n xs in let none = no_call n x in omega (arith, more, none)
turns_begun acts n (Exit a ∷ xs) = let more = turns_begun acts n xs in let none = no_exit n (numbered acts a) in omega (arith, more, none)
turns_begun acts n (Redo a ∷ xs) = let more = turns_begun acts n xs in omega (arith, more)
turns_begun acts n (Fail a ∷ xs) = let more = turns_begun acts n xs in omega (arith, more)
turns_begun acts n (Excp a ∷ xs) = let more = turns_begun acts n xs in omega (arith, more)
turns_begun acts n (Alloc a w ∷ xs) = let more = turns_begun acts n xs in omega (arith, more)
turns_begun acts n (Out bytes ∷ xs) = let more = turns_begun acts n xs in omega (arith, more)
turns_begun acts n (Throw bytes ∷ xs) = let more = turns_begun acts n xs in omega (arith, more)
turns_begun acts n (Answer e ∷ xs) = let more = turns_begun acts n xs in omega (arith, more)
turns_begun acts n (Stuck ∷ xs) = let more = turns_begun acts n xs in omega (arith, more)
turns_begun acts n (Deep ∷ xs) = let more = turns_begun acts n xs in omega (arith, more)

no_site : (n : ℕ) (o : Option ℕ) → count_cause (ByTurn n) (site_causes o) ≡ 0
no_site n None = refl
no_site n (Some x) = refl

no_exit_cause : (n : ℕ) (o : Option Activation) → count_cause (ByTurn n) (exit_causes o) ≡ 0
no_exit_cause n None = refl
no_exit_cause n (Some x) = no_site n x.site

pub turns_caused : (acts : List Activation) (n : ℕ) (xs : Items) → causes_of acts (ByTurn n) xs ≡ turns_of xs n
turns_caused acts n [] = refl
turns_caused acts n (Turn a (Some g) w ∷ xs) = let more = turns_caused acts n xs in omega (arith, more)
turns_caused acts n (Turn a None w ∷ xs) = let more = turns_caused acts n xs in omega (arith, more)
turns_caused acts n (Call a p x q ∷ xs) = let more = turns_caused acts n xs in omega (arith, more)
turns_caused acts n (Exit a ∷ xs) = let more = turns_caused acts n xs in let none = no_exit_cause n (numbered acts a) in omega (arith, more, none)
turns_caused acts n (Redo a ∷ xs) = let more = turns_caused acts n xs in omega (arith, more)
turns_caused acts n (Fail a ∷ xs) = let more = turns_caused acts n xs in omega (arith, more)
turns_caused acts n (Excp a ∷ xs) = let more = turns_caused acts n xs in omega (arith, more)
turns_caused acts n (Alloc a w ∷ xs) = let more = turns_caused acts n xs in omega (arith, more)
turns_caused acts n (Out bytes ∷ xs) = let more = turns_caused acts n xs in omega (arith, more)
turns_caused acts n (Throw bytes ∷ xs) = let more = turns_caused acts n xs in omega (arith, more)
turns_caused acts n (Answer e ∷ xs) = let more = turns_caused acts n xs in omega (arith, more)
turns_caused acts n (Stuck ∷ xs) = let more = turns_caused acts n xs in omega (arith, more)
turns_caused acts n (Deep ∷ xs) = let more = turns_caused acts n xs in omega (arith, more)

-- ---- what no item is

-- no item has an effect that is none of a turn, of a call and of an exit
module _ (acts : List Activation) (e : Effect) (turn : (n : ℕ) → same_effect (Begins n) e ≡ false) (call : (x : ℕ) → same_effect (CallsAt x) e ≡ false) (exit : (q : ℕ) → same_effect (ExitsOf q) e ≡ false) where
  none_called : (o : Option ℕ) → count_effect e (call_effects o) ≡ 0
  none_called None = refl
  none_called (Some x) = let is = call x in rw is refl

  none_exited : (o : Option Activation) → count_effect e (exit_effects o) ≡ 0
  none_exited None = refl
  none_exited (Some x) = let is = exit x.procedure in rw is refl

  pub no_effects : (xs : Items) → effects_of acts e xs ≡ 0
  no_effects [] = refl
  no_effects (Turn a (Some g) w ∷ xs) = let more = no_effects xs in let is = turn g in rw (is, more) refl
  no_effects (Turn a None w ∷ xs) = let more = no_effects xs in rw more refl
  no_effects (Call a p x q ∷ xs) = let more = no_effects xs in let none = none_called x in omega (arith, more, none)
  no_effects (Exit a ∷ xs) = let more = no_effects xs in let none = none_exited (numbered acts a) in omega (arith, more, none)
  no_effects (Redo a ∷ xs) = let more = no_effects xs in rw more refl
  no_effects (Fail a ∷ xs) = let more = no_effects xs in rw more refl
  no_effects (Excp a ∷ xs) = let more = no_effects xs in rw more refl
  no_effects (Alloc a w ∷ xs) = let more = no_effects xs in rw more refl
  no_effects (Out bytes ∷ xs) = let more = no_effects xs in rw more refl
  no_effects (Throw bytes ∷ xs) = let more = no_effects xs in rw more refl
  no_effects (Answer d ∷ xs) = let more = no_effects xs in rw more refl
  no_effects (Stuck ∷ xs) = let more = no_effects xs in rw more refl
  no_effects (Deep ∷ xs) = let more = no_effects xs in rw more refl

module _ (acts : List Activation) (c : Cause) (turn : (n : ℕ) → same_cause (ByTurn n) c ≡ false) (call : (q : ℕ) → same_cause (ByCall q) c ≡ false) (exit : (x : ℕ) → same_cause (ByExit x) c ≡ false) where
  none_left : (o : Option ℕ) → count_cause c (site_causes o) ≡ 0
  none_left None = refl
  none_left (Some x) = let is = exit x in rw is refl

  none_out : (o : Option Activation) → count_cause c (exit_causes o) ≡ 0
  none_out None = refl
  none_out (Some x) = none_left x.site

  pub no_causes : (xs : Items) → causes_of acts c xs ≡ 0
  no_causes [] = refl
  no_causes (Turn a (Some g) w ∷ xs) = let more = no_causes xs in let is = turn g in rw (is, more) refl
  no_causes (Turn a None w ∷ xs) = let more = no_causes xs in rw more refl
  no_causes (Call a p x q ∷ xs) = let more = no_causes xs in let is = call q in rw (is, more) refl
  no_causes (Exit a ∷ xs) = let more = no_causes xs in let none = none_out (numbered acts a) in omega (arith, more, none)
  no_causes (Redo a ∷ xs) = let more = no_causes xs in rw more refl
  no_causes (Fail a ∷ xs) = let more = no_causes xs in rw more refl
  no_causes (Excp a ∷ xs) = let more = no_causes xs in rw more refl
  no_causes (Alloc a w ∷ xs) = let more = no_causes xs in rw more refl
  no_causes (Out bytes ∷ xs) = let more = no_causes xs in rw more refl
  no_causes (Throw bytes ∷ xs) = let more = no_causes xs in rw more refl
  no_causes (Answer d ∷ xs) = let more = no_causes xs in rw more refl
  no_causes (Stuck ∷ xs) = let more = no_causes xs in rw more refl
  no_causes (Deep ∷ xs) = let more = no_causes xs in rw more refl

-- no mark has an effect that is none of an end and of a choice
pub unmarked_effects : (s : Hlds) (e : Effect) → ((n j : ℕ) → same_effect (Ends n j) e ≡ false) → ((i : ℕ) → same_effect (Chooses i) e ≡ false) → ((i j : ℕ) → same_effect (Picks i j) e ≡ false) → (ms : List (Mark s)) → effects_marked s e ms ≡ 0
unmarked_effects s e a b c [] = refl
unmarked_effects s e a b c (Ended n j is ∷ ms) = let more = unmarked_effects s e a b c ms in let here = a n j in rw (here, more) refl
unmarked_effects s e a b c (Chose i j is ∷ ms) = let more = unmarked_effects s e a b c ms in let here = b i in let there = c i j in rw (here, there, more) refl

pub unmarked_causes : (s : Hlds) (c : Cause) → ((n : ℕ) → same_cause (ByEnd n) c ≡ false) → ((i j : ℕ) → same_cause (ByChoice i j) c ≡ false) → (ms : List (Mark s)) → causes_marked s c ms ≡ 0
unmarked_causes s c a b [] = refl
unmarked_causes s c a b (Ended n j is ∷ ms) = let more = unmarked_causes s c a b ms in let here = a n in rw (here, more) refl
unmarked_causes s c a b (Chose i j is ∷ ms) = let more = unmarked_causes s c a b ms in let here = b i j in rw (here, more) refl

-- ---- calls and exits

either_none : (b : Bool) → ◌≡◌ {A = ℕ} (if b then 0 else 0) 0
either_none true = refl
either_none false = refl

either_one : (b : Bool) → ◌≡◌ {A = ℕ} (if b then 1 else 0) (cond b 1 0)
either_one true = refl
either_one false = refl

module _ (test : ℕ → Bool) where
  calls_where : Items → ℕ
  calls_where [] = 0
  calls_where (Call a p x q ∷ xs) = cond (test a) 1 0 + calls_where xs
  calls_where (x ∷ xs) = calls_where xs

  exits_where : Items → ℕ
  exits_where [] = 0
  exits_where (Exit a ∷ xs) = cond (test a) 1 0 + exits_where xs
  exits_where (x ∷ xs) = exits_where xs

  calls_told : (xs : Items) (h : List Event) → sum_where test Calls (told xs h) ≡ calls_where xs + sum_where test Calls h
  unfolding calls_where
  calls_told [] h = omega arith
  calls_told (Call a p x q ∷ xs) h = let more = calls_told xs (CallOf a p x q ∷ h) in let is = either_one (test a) in omega (arith, more, is)
  calls_told (Exit a ∷ xs) h = let more = calls_told xs (ExitOf a ∷ h) in let is = either_none (test a) in omega (arith, more, is)
  calls_told (Redo a ∷ xs) h = let more = calls_told xs (RedoOf a ∷ h) in let is = either_none (test a) in omega (arith, more, is)
  calls_told (Fail a ∷ xs) h = let more = calls_told xs (FailOf a ∷ h) in let is = either_none (test a) in omega (arith, more, is)
  calls_told (Excp a ∷ xs) h = let more = calls_told xs (ExcpOf a ∷ h) in let is = either_none (test a) in omega (arith, more, is)
  calls_told (Alloc a w ∷ xs) h = let more = calls_told xs (AllocOf a w ∷ h) in let is = either_none (test a) in omega (arith, more, is)
  calls_told (Turn a g w ∷ xs) h = calls_told xs h
  calls_told (Out bytes ∷ xs) h = calls_told xs h
  calls_told (Throw bytes ∷ xs) h = calls_told xs h
  calls_told (Answer e ∷ xs) h = calls_told xs h
  calls_told (Stuck ∷ xs) h = calls_told xs h
  calls_told (Deep ∷ xs) h = calls_told xs h

  exits_told : (xs : Items) (h : List Event) → sum_where test Exits (told xs h) ≡ exits_where xs + sum_where test Exits h
  unfolding exits_where
  exits_told [] h = omega arith
  exits_told (Exit a ∷ xs) h = let more = exits_told xs (ExitOf a ∷ h) in let is = either_one (test a) in omega (arith, more, is)
  exits_told (Call a p x q ∷ xs) h = let more = exits_told xs (CallOf a p x q ∷ h) in let is = either_none (test a) in omega (arith, more, is)
  exits_told (Redo a ∷ xs) h = let more = exits_told xs (RedoOf a ∷ h) in let is = either_none (test a) in omega (arith, more, is)
  exits_told (Fail a ∷ xs) h = let more = exits_told xs (FailOf a ∷ h) in let is = either_none (test a) in omega (arith, more, is)
  exits_told (Excp a ∷ xs) h = let more = exits_told xs (ExcpOf a ∷ h) in let is = either_none (test a) in omega (arith, more, is)
  exits_told (Alloc a w ∷ xs) h = let more = exits_told xs (AllocOf a w ∷ h) in let is = either_none (test a) in omega (arith, more, is)
  exits_told (Turn a g w ∷ xs) h = exits_told xs h
  exits_told (Out bytes ∷ xs) h = exits_told xs h
  exits_told (Throw bytes ∷ xs) h = exits_told xs h
  exits_told (Answer e ∷ xs) h = exits_told xs h
  exits_told (Stuck ∷ xs) h = exits_told xs h
  exits_told (Deep ∷ xs) h = exits_told xs h

  -- a count of effects that only calls have, and of causes that only exits are, and the other way round
  module _ (acts : List Activation) (e : Effect) (turn : (n : ℕ) → same_effect (Begins n) e ≡ false) where
    effects_called : ((a : ℕ) (p x : Option ℕ) (q : ℕ) → numbered acts a ≡ Some (record { parent = p; site = x; procedure = q }) → count_effect e (call_effects x) ≡ cond (test a) 1 0)
        → ((a : ℕ) → count_effect e (exit_effects (numbered acts a)) ≡ 0) → (xs : Items) → AllAgree acts xs → effects_of acts e xs ≡ calls_where xs
    unfolding calls_where
    effects_called one none [] agree = refl
    effects_called one none (Call a p x q ∷ xs) agree = let more = effects_called one none xs agree.1 in let is = one a p x q agree.0 in omega (arith, more, is)
    effects_called one none (Exit a ∷ xs) agree = let more = effects_called one none xs agree in let is = none a in omega (arith, more, is)
    effects_called one none (Turn a (Some g) w ∷ xs) agree = let more = effects_called one none xs agree in let is = turn g in rw (is, more) (omega arith)
    effects_called one none (Turn a None w ∷ xs) agree = let more = effects_called one none xs agree in omega (arith, more)
    effects_called one none (Redo a ∷ xs) agree = let more = effects_called one none xs agree in omega (arith, more)
    effects_called one none (Fail a ∷ xs) agree = let more = effects_called one none xs agree in omega (arith, more)
    effects_called one none (Excp a ∷ xs) agree = let more = effects_called one none xs agree in omega (arith, more)
    effects_called one none (Alloc a w ∷ xs) agree = let more = effects_called one none xs agree in omega (arith, more)
    effects_called one none (Out bytes ∷ xs) agree = let more = effects_called one none xs agree in omega (arith, more)
    effects_called one none (Throw bytes ∷ xs) agree = let more = effects_called one none xs agree in omega (arith, more)
    effects_called one none (Answer d ∷ xs) agree = let more = effects_called one none xs agree in omega (arith, more)
    effects_called one none (Stuck ∷ xs) agree = let more = effects_called one none xs agree in omega (arith, more)
    effects_called one none (Deep ∷ xs) agree = let more = effects_called one none xs agree in omega (arith, more)

    effects_exited : ((a : ℕ) → count_effect e (exit_effects (numbered acts a)) ≡ cond (test a) 1 0) → ((x : Option ℕ) → count_effect e (call_effects x) ≡ 0) → (xs : Items) → effects_of acts e xs ≡ exits_where xs
    unfolding exits_where
    effects_exited one none [] = refl
    effects_exited one none (Call a p x q ∷ xs) = let more = effects_exited one none xs in let is = none x in omega (arith, more, is)
    effects_exited one none (Exit a ∷ xs) = let more = effects_exited one none xs in let is = one a in omega (arith, more, is)
    effects_exited one none (Turn a (Some g) w ∷ xs) = let more = effects_exited one none xs in let is = turn g in rw (is, more) (omega arith)
    effects_exited one none (Turn a None w ∷ xs) = let more = effects_exited one none xs in omega (arith, more)
    effects_exited one none (Redo a ∷ xs) = let more = effects_exited one none xs in omega (arith, more)
    effects_exited one none (Fail a ∷ xs) = let more = effects_exited one none xs in omega (arith, more)
    effects_exited one none (Excp a ∷ xs) = let more = effects_exited one none xs in omega (arith, more)
    effects_exited one none (Alloc a w ∷ xs) = let more = effects_exited one none xs in omega (arith, more)
    effects_exited one none (Out bytes ∷ xs) = let more = effects_exited one none xs in omega (arith, more)
    effects_exited one none (Throw bytes ∷ xs) = let more = effects_exited one none xs in omega (arith, more)
    effects_exited one none (Answer d ∷ xs) = let more = effects_exited one none xs in omega (arith, more)
    effects_exited one none (Stuck ∷ xs) = let more = effects_exited one none xs in omega (arith, more)
    effects_exited one none (Deep ∷ xs) = let more = effects_exited one none xs in omega (arith, more)

  module _ (acts : List Activation) (c : Cause) (turn : (n : ℕ) → same_cause (ByTurn n) c ≡ false) where
    causes_called : ((a : ℕ) (p x : Option ℕ) (q : ℕ) → numbered acts a ≡ Some (record { parent = p; site = x; procedure = q }) → count_cause c (ByCall q ∷ []) ≡ cond (test a) 1 0)
        → ((a : ℕ) → count_cause c (exit_causes (numbered acts a)) ≡ 0) → (xs : Items) → AllAgree acts xs → causes_of acts c xs ≡ calls_where xs
    unfolding calls_where
    causes_called one none [] agree = refl
    causes_called one none (Call a p x q ∷ xs) agree = let more = causes_called one none xs agree.1 in let is = one a p x q agree.0 in omega (arith, more, is)
    causes_called one none (Exit a ∷ xs) agree = let more = causes_called one none xs agree in let is = none a in omega (arith, more, is)
    causes_called one none (Turn a (Some g) w ∷ xs) agree = let more = causes_called one none xs agree in let is = turn g in rw (is, more) (omega arith)
    causes_called one none (Turn a None w ∷ xs) agree = let more = causes_called one none xs agree in omega (arith, more)
    causes_called one none (Redo a ∷ xs) agree = let more = causes_called one none xs agree in omega (arith, more)
    causes_called one none (Fail a ∷ xs) agree = let more = causes_called one none xs agree in omega (arith, more)
    causes_called one none (Excp a ∷ xs) agree = let more = causes_called one none xs agree in omega (arith, more)
    causes_called one none (Alloc a w ∷ xs) agree = let more = causes_called one none xs agree in omega (arith, more)
    causes_called one none (Out bytes ∷ xs) agree = let more = causes_called one none xs agree in omega (arith, more)
    causes_called one none (Throw bytes ∷ xs) agree = let more = causes_called one none xs agree in omega (arith, more)
    causes_called one none (Answer d ∷ xs) agree = let more = causes_called one none xs agree in omega (arith, more)
    causes_called one none (Stuck ∷ xs) agree = let more = causes_called one none xs agree in omega (arith, more)
    causes_called one none (Deep ∷ xs) agree = let more = causes_called one none xs agree in omega (arith, more)

    causes_exited : ((a : ℕ) → count_cause c (exit_causes (numbered acts a)) ≡ cond (test a) 1 0) → ((q : ℕ) → same_cause (ByCall q) c ≡ false) → (xs : Items) → causes_of acts c xs ≡ exits_where xs
    unfolding exits_where
    causes_exited one none [] = refl
    causes_exited one none (Call a p x q ∷ xs) = let more = causes_exited one none xs in let is = none q in rw (is, more) (omega arith)
    causes_exited one none (Exit a ∷ xs) = let more = causes_exited one none xs in let is = one a in omega (arith, more, is)
    causes_exited one none (Turn a (Some g) w ∷ xs) = let more = causes_exited one none xs in let is = turn g in rw (is, more) (omega arith)
    causes_exited one none (Turn a None w ∷ xs) = let more = causes_exited one none xs in omega (arith, more)
    causes_exited one none (Redo a ∷ xs) = let more = causes_exited one none xs in omega (arith, more)
    causes_exited one none (Fail a ∷ xs) = let more = causes_exited one none xs in omega (arith, more)
    causes_exited one none (Excp a ∷ xs) = let more = causes_exited one none xs in omega (arith, more)
    causes_exited one none (Alloc a w ∷ xs) = let more = causes_exited one none xs in omega (arith, more)
    causes_exited one none (Out bytes ∷ xs) = let more = causes_exited one none xs in omega (arith, more)
    causes_exited one none (Throw bytes ∷ xs) = let more = causes_exited one none xs in omega (arith, more)
    causes_exited one none (Answer d ∷ xs) = let more = causes_exited one none xs in omega (arith, more)
    causes_exited one none (Stuck ∷ xs) = let more = causes_exited one none xs in omega (arith, more)
    causes_exited one none (Deep ∷ xs) = let more = causes_exited one none xs in omega (arith, more)

-- ---- of procedures and sites

add_zero : (n : ℕ) → n + 0 ≡ n
add_zero n = omega arith

module _ (acts : List Activation) (xs : Items) where
  site_of : (x : ℕ) (o : Option ℕ) → count_effect (CallsAt x) (call_effects o) ≡ cond (is_number x o) 1 0
  site_of x None = refl
  site_of x (Some y) = add_zero (cond (nat_eq y x) 1 0)

  no_exit_at : (x : ℕ) (o : Option Activation) → count_effect (CallsAt x) (exit_effects o) ≡ 0
  no_exit_at x None = refl
  no_exit_at x (Some y) = refl

  pub site_calls : (x : ℕ) → AllAgree acts xs → effects_of acts (CallsAt x) xs ≡ sum_where (is_called_at acts x) Calls (history xs)
  site_calls x agree =
      let a = effects_called (is_called_at acts x) acts (CallsAt x) (λ n. refl)
      (λ a p o q is. site_of x o ∙ sym (ap (λ (y : Option Activation). cond (is_number x (option_and_then (λ z. z.site) y)) 1 0) is)) (λ a. no_exit_at x (numbered acts a)) xs agree in
      let b = calls_told (is_called_at acts x) xs [] in omega (arith, a, b)

  exit_of : (q : ℕ) (o : Option Activation) → count_effect (ExitsOf q) (exit_effects o) ≡ cond (is_number q (option_map (λ x. x.procedure) o)) 1 0
  exit_of q None = refl
  exit_of q (Some x) = add_zero (cond (nat_eq x.procedure q) 1 0)

  no_call_of : (q : ℕ) (o : Option ℕ) → count_effect (ExitsOf q) (call_effects o) ≡ 0
  no_call_of q None = refl
  no_call_of q (Some x) = refl

  pub procedure_exits : (q : ℕ) → effects_of acts (ExitsOf q) xs ≡ sum_where (is_of_procedure acts q) Exits (history xs)
  procedure_exits q =
      let a = effects_exited (is_of_procedure acts q) acts (ExitsOf q) (λ n. refl) (λ a. exit_of q (numbered acts a)) (no_call_of q) xs in
      let b = exits_told (is_of_procedure acts q) xs [] in omega (arith, a, b)

  no_exit_by : (q : ℕ) (o : Option ℕ) → count_cause (ByCall q) (site_causes o) ≡ 0
  no_exit_by q None = refl
  no_exit_by q (Some x) = refl

  no_exit_call : (q : ℕ) (o : Option Activation) → count_cause (ByCall q) (exit_causes o) ≡ 0
  no_exit_call q None = refl
  no_exit_call q (Some x) = no_exit_by q x.site

  pub procedure_calls : (q : ℕ) → AllAgree acts xs → causes_of acts (ByCall q) xs ≡ sum_where (is_of_procedure acts q) Calls (history xs)
  procedure_calls q agree =
      let a = causes_called (is_of_procedure acts q) acts (ByCall q) (λ n. refl)
      (λ a p o r is. add_zero (cond (nat_eq r q) 1 0) ∙ sym (ap (λ (y : Option Activation). cond (is_number q (option_map (λ z. z.procedure) y)) 1 0) is)) (λ a. no_exit_call q (numbered acts a)) xs agree in
      let b = calls_told (is_of_procedure acts q) xs [] in omega (arith, a, b)

  left_at : (x : ℕ) (o : Option ℕ) → count_cause (ByExit x) (site_causes o) ≡ cond (is_number x o) 1 0
  left_at x None = refl
  left_at x (Some y) = add_zero (cond (nat_eq y x) 1 0)

  exit_at : (x : ℕ) (o : Option Activation) → count_cause (ByExit x) (exit_causes o) ≡ cond (is_number x (option_and_then (λ z. z.site) o)) 1 0
  exit_at x None = refl
  exit_at x (Some y) = left_at x y.site

  pub site_exits : (x : ℕ) → causes_of acts (ByExit x) xs ≡ sum_where (is_called_at acts x) Exits (history xs)
  site_exits x =
      let a = causes_exited (is_called_at acts x) acts (ByExit x) (λ n. refl) (λ a. exit_at x (numbered acts a)) (λ q. refl) xs in
      let b = exits_told (is_called_at acts x) xs [] in omega (arith, a, b)

-- ---- ends and choices

-- the sum of a number for each of these
abbrev pub sum_of : (ℕ → ℕ) → List ℕ → ℕ
sum_of f [] = 0
sum_of f (j ∷ js) = f j + sum_of f js

sum_both : (f g : ℕ → ℕ) (js : List ℕ) → sum_of (λ j. f j + g j) js ≡ sum_of f js + sum_of g js
sum_both f g [] = refl
sum_both f g (j ∷ js) = let more = sum_both f g js in omega (arith, more)

sum_none : (js : List ℕ) → sum_of (λ j. 0) js ≡ 0
sum_none [] = refl
sum_none (j ∷ js) = let more = sum_none js in omega (arith, more)

sum_same : (f g : ℕ → ℕ) (js : List ℕ) → ((j : ℕ) → f j ≡ g j) → sum_of f js ≡ sum_of g js
sum_same f g [] same = refl
sum_same f g (j ∷ js) same = let more = sum_same f g js same in let here = same j in omega (arith, more, here)

turned_round : (m n : ℕ) (b : Bool) → nat_eq m n ≡ b → nat_eq n m ≡ b
turned_round m n true is = let e = eqb-true m n is in rw e (same_number n)
turned_round m n false is = ne_eqb n m (λ e. absurd (let same : nat_eq m n ≡ true = rw e (same_number m) in cc (is, same)))

-- each of these once, where one number is among them once
sum_how_often : (j : ℕ) (js : List ℕ) → sum_of (λ i. cond (nat_eq j i) 1 0) js ≡ how_often j js
sum_how_often j [] = refl
sum_how_often j (i ∷ is) =
    let more = sum_how_often j is in
    let same : nat_eq j i ≡ nat_eq i j = sym (turned_round j i (nat_eq j i) refl) in
    rw (same, more) refl

abbrev pair_test : Bool → Bool → ℕ
pair_test a b = cond (a && b) 1 0

sum_pair : (a : Bool) (j : ℕ) (js : List ℕ) → sum_of (λ i. pair_test a (nat_eq j i)) js ≡ cond a (how_often j js) 0
sum_pair true j js = sum_how_often j js
sum_pair false j js = sum_none js

once_pair : (m n j : ℕ) (at : ℕ → List ℕ) (b : Bool) → nat_eq m n ≡ b → how_often j (at m) ≡ 1 → cond b (how_often j (at n)) 0 ≡ cond b 1 0
once_pair m n j at true is once = subst (λ (i : ℕ). how_often j (at i) ≡ 1) (eqb-true m n is) once
once_pair m n j at false is once = refl

-- how often a goal ended is how often it ended by way of each of its parts
pub ends_by_way : (s : Hlds) (n : ℕ) (ms : List (Mark s)) → causes_marked s (ByEnd n) ms ≡ sum_of (λ j. effects_marked s (Ends n j) ms) (vias_at n (slice_get (spots s) n))
ends_by_way s n [] = sym (sum_none (vias_at n (slice_get (spots s) n)))
ends_by_way s n (Ended m j once ∷ ms) =
    let js = vias_at n (slice_get (spots s) n) in
    let more = ends_by_way s n ms in
    let split = sum_both (λ i. pair_test (nat_eq m n) (nat_eq j i) + 0) (λ i. effects_marked s (Ends n i) ms) js in
    let plain = sum_same (λ i. pair_test (nat_eq m n) (nat_eq j i) + 0) (λ i. pair_test (nat_eq m n) (nat_eq j i)) js (λ i. add_zero (pair_test (nat_eq m n) (nat_eq j i))) in
    let pairs = sum_pair (nat_eq m n) j js in
    let one = once_pair m n j (λ i. vias_at i (slice_get (spots s) i)) (nat_eq m n) refl once in
    omega (arith, more, split, plain, pairs, one)
ends_by_way s n (Chose i j once ∷ ms) =
    let more = ends_by_way s n ms in
    let same = sum_same (λ k. (0 + (0 + 0)) + effects_marked s (Ends n k) ms) (λ k. effects_marked s (Ends n k) ms) (vias_at n (slice_get (spots s) n)) (λ k. omega arith) in
    omega (arith, more, same)

-- how often a goal chose is how often its choice fell on each
pub chosen_by_way : (s : Hlds) (n : ℕ) (ms : List (Mark s)) → effects_marked s (Chooses n) ms ≡ sum_of (λ j. effects_marked s (Picks n j) ms) (choices_at n (slice_get (spots s) n))
chosen_by_way s n [] = sym (sum_none (choices_at n (slice_get (spots s) n)))
chosen_by_way s n (Chose m j once ∷ ms) =
    let js = choices_at n (slice_get (spots s) n) in
    let more = chosen_by_way s n ms in
    let split = sum_both (λ i. 0 + (pair_test (nat_eq m n) (nat_eq j i) + 0)) (λ i. effects_marked s (Picks n i) ms) js in
    let plain = sum_same (λ i. 0 + (pair_test (nat_eq m n) (nat_eq j i) + 0)) (λ i. pair_test (nat_eq m n) (nat_eq j i)) js (λ i. omega arith) in
    let pairs = sum_pair (nat_eq m n) j js in
    let one = once_pair m n j (λ i. choices_at i (slice_get (spots s) i)) (nat_eq m n) refl once in
    omega (arith, more, split, plain, pairs, one)
chosen_by_way s n (Ended i j once ∷ ms) =
    let more = chosen_by_way s n ms in
    let same = sum_same (λ k. (0 + 0) + effects_marked s (Picks n k) ms) (λ k. effects_marked s (Picks n k) ms) (choices_at n (slice_get (spots s) n)) (λ k. omega arith) in
    omega (arith, more, same)

-- a choice that fell on j leads on from there
pub picks_chosen : (s : Hlds) (i j : ℕ) (ms : List (Mark s)) → effects_marked s (Picks i j) ms ≡ causes_marked s (ByChoice i j) ms
picks_chosen s i j [] = refl
picks_chosen s i j (Ended m n is ∷ ms) = let more = picks_chosen s i j ms in omega (arith, more)
picks_chosen s i j (Chose m n is ∷ ms) = let more = picks_chosen s i j ms in omega (arith, more)
