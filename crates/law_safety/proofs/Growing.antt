-- What is bound before a goal stays bound with its type.
use Rattle.std.proofs.Common.{◌≡◌, refl, sym, ap, ◌∙◌, subst, inl, inr, ℕ, ◌⊎◌, Bool, true, false, ◌||◌, cond, nat_eq, nat_lt, List, [], ◌∷◌, length, take, drop, Option, Some, None, Ok}
use Rattle.std.proofs.lemmas.Bool.{cases_eq, cases_lt}
use Rattle.std.specs.Prelude.{⊤}
use Rattle.md_hlds.specs.declared.types.Mode.{Mode}
use Rattle.md_hlds.specs.declared.types.Mode.TheVariants.{In, Out, Di, Uo}
use Rattle.md_hlds.specs.declared.goal.Term.{Term}
use Rattle.md_hlds.specs.declared.goal.Term.TheVariants.{Var, Int, Str, Name}
use Rattle.md_hlds.specs.declared.goal.PredName.{PredName}
use Rattle.md_hlds.specs.HldsGoal.{Simple, Succeeds, Fails, Unifies, Computes, Compares, WritesInt, WritesText, EndsLine, Raises, HldsGoal, At, GoalExpr, SimpleGoal, CallGoal, HoCallGoal, ConjGoal, DisjGoal, IfGoal, NotGoal, SomeGoal, HldsGoals, nothing, also}
use Rattle.md_hlds.specs.Hlds.{HldsType, number, text, world, named, closure, listed_types, Procedure, Hlds}
use Rattle.md_inst.specs.declared.fault.ModeFault.TheVariants.{TypeClash, Arity, IoUsed, BranchBinds}
use Rattle.md_inst.specs.HldsTypes.{same_sort, is_world}
use Rattle.md_inst.specs.Instantiation.{Instantiation, free, has, InstMap, known_at, put, handed_on, hand_on}
use Rattle.md_inst.specs.Common.{common}
use Rattle.md_inst.specs.Named.{Functor, functor_called, predicate_called}
use Rattle.md_inst.specs.Arguments.{is_spent, input, given, argument, arguments, inputs, givens}
use Rattle.md_inst.specs.Simple.{assign, test, unify_known, functor_known, types_of, left_open, can_close, close_known, predicate_term, named_term, unify, call_checked, pairs, apply_sort, apply_known, builtin, arithmetic, comparison, line_end, raised, simple, atomic}
use Rattle.md_modes.specs.Branches.{After, after, outside, in_common, all_have, some_differ, clash, reachable, joined_ends, joined}
use Rattle.md_modes.specs.Goals.{Scope, within, goes_on_after, parts_variables, goal, expr, each, arms}
use Rattle.md_modes.proofs.InstantiationLemmas.{length-put, known_at-put, known_at-put_other, known_at-outside, length-in_common, known_at-in_common}
use Rattle.law_safety.proofs.Verdicts.{ok_then, ok_after, ok_where, ok_unless, ok_is, ok_reached}
use Rattle.law_safety.proofs.Accepted.{if_ok, not_ok, some_ok, each_ok, arms_ok}
use Rattle.law_safety.proofs.Handing.{input_ok, output_ok, given_ok}

pub record Later (kn r : InstMap) : Type 0 where
  pub size : length r ≡ length kn
  pub bound : (x : ℕ) (t : HldsType) (used : Bool) → known_at kn x ≡ has t used → (b : Bool) × (known_at r x ≡ has t b)

pub later_self : (kn : InstMap) → Later kn kn
later_self kn = record { size = refl; bound = λ x t used is. (used, is) }

pub later_then : (kn r q : InstMap) → Later kn r → Later r q → Later kn q
later_then kn r q h g = record { size = g.size ∙ h.size; bound = λ x t used is. let a = h.bound x t used is in g.bound x t a.0 a.1 }

pub later_is : (kn r q : InstMap) → r ≡ q → Later kn q → Later kn r
later_is kn r q is h = subst (λ (k : InstMap). Later kn k) (sym is) h

-- a variable that isn't bound is written
later_put : (kn : InstMap) (x : ℕ) (k : Instantiation) → known_at kn x ≡ free → Later kn (put kn x k)
later_put kn x k none = record {
  size = length-put kn x k;
  bound = λ y t used is. elim (cases_eq y x) [
    | inl same ↦ let bad : free ≡ has t used = sym none ∙ ap (known_at kn) (sym same) ∙ is in absurd (cc bad)
    | inr other ↦ (used, known_at-put_other kn x y k other ∙ is)
  ];
}

-- a variable is handed on
later_handed : (kn : InstMap) (x : ℕ) → Later kn (hand_on x kn)
later_handed kn x = record {
  size = length-put kn x (handed_on (known_at kn x));
  bound = λ y t used is. elim (cases_eq y x) [
    | inl same ↦
        let here : known_at kn x ≡ has t used = ap (known_at kn) (sym same) ∙ is in
        elim (cases_lt x (length kn)) [
          | inl lt ↦ (is_world t, ap (known_at (hand_on x kn)) same ∙ known_at-put kn x (handed_on (known_at kn x)) lt ∙ ap handed_on here)
          | inr le ↦ let bad : free ≡ has t used = sym (known_at-outside kn x le) ∙ here in absurd (cc bad)
        ]
    | inr other ↦ (used, known_at-put_other kn x y (handed_on (known_at kn x)) other ∙ is)
  ];
}

-- one is handed on, and another is written
later_assigned : (kn : InstMap) (from to : ℕ) (k : Instantiation) → known_at kn to ≡ free → Later kn (put (hand_on from kn) to k)
later_assigned kn from to k none = record {
  size = length-put (hand_on from kn) to k ∙ length-put kn from (handed_on (known_at kn from));
  bound = λ y t used is. elim (cases_eq y to) [
    | inl same ↦ let bad : free ≡ has t used = sym none ∙ ap (known_at kn) (sym same) ∙ is in absurd (cc bad)
    | inr other ↦ let a = (later_handed kn from).bound y t used is in (a.0, known_at-put_other (hand_on from kn) to y k other ∙ a.1)
  ];
}

-- ---- arguments

argument_later : (strict : Bool) (l : ℕ) (t : HldsType) (m : Mode) (x : ℕ) (kn r : InstMap) → argument strict l t m x kn ≡ Ok r → Later kn r
argument_later strict l t In x kn r g = later_is kn r kn (input_ok strict l t x kn r g).0 (later_self kn)
argument_later strict l t Di x kn r g =
    let b = ok_then (input strict l t x kn) (λ q. Ok (hand_on x q)) r g in
    later_is kn r (hand_on x kn) (ok_is (Ok (hand_on x b.0)) r (hand_on x b.0) b.2 refl ∙ ap (hand_on x) (input_ok strict l t x kn b.0 b.1).0) (later_handed kn x)
argument_later strict l t Out x kn r g = let a = output_ok strict l t x kn r g in later_is kn r _ a.1 (later_put kn x (has t false) a.0)
argument_later strict l t Uo x kn r g = let a = output_ok strict l t x kn r g in later_is kn r _ a.1 (later_put kn x (has t false) a.0)

arguments_later : (strict : Bool) (l : ℕ) (args : List (HldsType × Mode)) (xs : List ℕ) (kn r : InstMap) → arguments strict l args xs kn ≡ Ok r → Later kn r
arguments_later strict l (a ∷ args) (x ∷ xs) kn r g =
    let b = ok_then (argument strict l a.0 a.1 x kn) (λ q. arguments strict l args xs q) r g in
    later_then kn b.0 r (argument_later strict l a.0 a.1 x kn b.0 b.1) (arguments_later strict l args xs b.0 r b.2)
arguments_later strict l (a ∷ args) [] kn r g = later_is kn r kn (ok_is (Ok kn) r kn g refl) (later_self kn)
arguments_later strict l [] xs kn r g = later_is kn r kn (ok_is (Ok kn) r kn g refl) (later_self kn)

inputs_later : (strict : Bool) (l : ℕ) (ts : List HldsType) (xs : List ℕ) (kn r : InstMap) → inputs strict l ts xs kn ≡ Ok r → r ≡ kn
inputs_later strict l (t ∷ ts) (x ∷ xs) kn r g =
    let b = ok_then (input strict l t x kn) (λ q. inputs strict l ts xs q) r g in
    inputs_later strict l ts xs b.0 r b.2 ∙ (input_ok strict l t x kn b.0 b.1).0
inputs_later strict l (t ∷ ts) [] kn r g = ok_is (Ok kn) r kn g refl
inputs_later strict l [] xs kn r g = ok_is (Ok kn) r kn g refl

given_later : (kn r : InstMap) (t : HldsType) (x : ℕ)
    → ((known_at kn x ≡ free) × (r ≡ put kn x (has t false))) ⊎ ((r ≡ kn) × ((used : Bool) × (known_at kn x ≡ has t used))) → Later kn r
given_later kn r t x (inl a) = later_is kn r _ a.1 (later_put kn x (has t false) a.0)
given_later kn r t x (inr a) = later_is kn r kn a.0 (later_self kn)

givens_later : (l : ℕ) (ts : List HldsType) (xs : List ℕ) (kn r : InstMap) → givens l ts xs kn ≡ Ok r → Later kn r
givens_later l (t ∷ ts) (x ∷ xs) kn r g =
    let b = ok_then (given l t x kn) (λ q. givens l ts xs q) r g in
    later_then kn b.0 r (given_later kn b.0 t x (given_ok l t x kn b.0 b.1)) (givens_later l ts xs b.0 r b.2)
givens_later l (t ∷ ts) [] kn r g = later_is kn r kn (ok_is (Ok kn) r kn g refl) (later_self kn)
givens_later l [] xs kn r g = later_is kn r kn (ok_is (Ok kn) r kn g refl) (later_self kn)

-- ---- unifications

assign_later : (strict : Bool) (l from to : ℕ) (t : HldsType) (used : Bool) (kn r : InstMap) → known_at kn to ≡ free → assign strict l from to t used kn ≡ Ok r → Later kn r
assign_later strict l from to t used kn r none g =
    let a = ok_unless (is_spent strict t used) (IoUsed l) _ r g in
    later_is kn r _ (ok_is (Ok (put (hand_on from kn) to (has t false))) r _ a.1 refl) (later_assigned kn from to (has t false) none)

unify_known_later : (strict : Bool) (l x y : ℕ) (k j : Instantiation) (kn r : InstMap) → known_at kn x ≡ k → known_at kn y ≡ j → unify_known strict l x y k j kn ≡ Ok r → Later kn r
unify_known_later strict l x y free free kn r a b g = absurd (cc g)
unify_known_later strict l x y (has t used) free kn r a b g = assign_later strict l x y t used kn r b g
unify_known_later strict l x y free (has t used) kn r a b g = assign_later strict l y x t used kn r a g
unify_known_later strict l x y (has t used) (has u spent) kn r a b g =
    let is = ok_after (test l t u) (Ok kn) r g in
    later_is kn r kn (ok_is (Ok kn) r kn is.2 refl) (later_self kn)

functor_later : (strict : Bool) (l x : ℕ) (f : Functor) (ys : List ℕ) (k : Instantiation) (kn r : InstMap) → known_at kn x ≡ k → functor_known strict l x f ys k kn ≡ Ok r → Later kn r
functor_later strict l x f ys free kn r a g =
    let b = ok_then (inputs strict l f.args ys kn) (λ q. Ok (put q x (has f.makes false))) r g in
    later_is kn r (put kn x (has f.makes false))
    (ok_is (Ok (put b.0 x (has f.makes false))) r _ b.2 refl ∙ ap (λ (q : InstMap). put q x (has f.makes false)) (inputs_later strict l f.args ys kn b.0 b.1))
    (later_put kn x (has f.makes false) a)
functor_later strict l x f ys (has t used) kn r a g = givens_later l f.args ys kn r (ok_where (same_sort t f.makes) (TypeClash l) (givens l f.args ys kn) r g).1

close_later : (l x : ℕ) (p : Procedure) (ys : List ℕ) (k : Instantiation) (kn r : InstMap) → known_at kn x ≡ k → close_known l x p ys k kn ≡ Ok r → Later kn r
close_later l x p ys (has t used) kn r a g = absurd (cc g)
close_later l x p ys free kn r none g =
    let held = take (length ys) p.args in
    let others = drop (length ys) p.args in
    let a = ok_where (can_close held others) (TypeClash l) _ r g in
    let b = ok_then (inputs true l (types_of held) ys kn) (λ k. Ok (put k x (has (left_open others p.det) false))) r a.1 in
    later_is kn r (put kn x (has (left_open others p.det) false))
    (ok_is (Ok (put b.0 x (has (left_open others p.det) false))) r _ b.2 refl ∙ ap (λ (q : InstMap). put q x (has (left_open others p.det) false)) (inputs_later true l (types_of held) ys kn b.0 b.1))
    (later_put kn x (has (left_open others p.det) false) none)

predicate_later : (s : Hlds) (l x : ℕ) (q : PredName) (o : Option Procedure) (ys : List ℕ) (kn r : InstMap) → predicate_term s l x q ys o kn ≡ Ok r → Later kn r
predicate_later s l x q None ys kn r g = absurd (cc g)
predicate_later s l x q (Some p) ys kn r g =
    close_later l x p ys (known_at kn x) kn r refl (ok_where (nat_lt (length ys) (length p.args)) (Arity l) (close_known l x p ys (known_at kn x) kn) r g).1

name_later : (s : Hlds) (strict : Bool) (l x : ℕ) (q : PredName) (o : Option Functor) (ys : List ℕ) (kn r : InstMap) → named_term s strict l x q ys o kn ≡ Ok r → Later kn r
name_later s strict l x q None ys kn r g = predicate_later s l x q (predicate_called s q) ys kn r g
name_later s strict l x q (Some f) ys kn r g = functor_later strict l x f ys (known_at kn x) kn r refl g

unify_later : (s : Hlds) (strict : Bool) (l x : ℕ) (t : Term) (kn r : InstMap) → unify s strict l x t kn ≡ Ok r → Later kn r
unify_later s strict l x (Var y) kn r g = unify_known_later strict l x y (known_at kn x) (known_at kn y) kn r refl refl g
unify_later s strict l x (Int n) kn r g = given_later kn r number x (given_ok l number x kn r g)
unify_later s strict l x (Str b) kn r g = given_later kn r text x (given_ok l text x kn r g)
unify_later s strict l x (Name q ys) kn r g = name_later s strict l x q (functor_called s q (length ys)) ys kn r g

-- ---- simple goals and calls

simple_later : (s : Hlds) (strict : Bool) (l : ℕ) (g : Simple) (kn r : InstMap) → simple s strict l g kn ≡ Ok r → Later kn r
simple_later s strict l Succeeds kn r g = later_is kn r kn (ok_is (Ok kn) r kn g refl) (later_self kn)
simple_later s strict l Fails kn r g = later_is kn r kn (ok_is (Ok kn) r kn g refl) (later_self kn)
simple_later s strict l (Unifies x t) kn r g = unify_later s strict l x t kn r g
simple_later s strict l (Computes z a op b) kn r g = arguments_later strict l arithmetic (z ∷ a ∷ b ∷ []) kn r g
simple_later s strict l (Compares a c b) kn r g = arguments_later strict l comparison (a ∷ b ∷ []) kn r g
simple_later s strict l (WritesInt x before after) kn r g = arguments_later strict l (builtin number) (x ∷ before ∷ after ∷ []) kn r g
simple_later s strict l (WritesText x before after) kn r g = arguments_later strict l (builtin text) (x ∷ before ∷ after ∷ []) kn r g
simple_later s strict l (EndsLine before after) kn r g = arguments_later strict l line_end (before ∷ after ∷ []) kn r g
simple_later s strict l (Raises x) kn r g = arguments_later strict l raised (x ∷ []) kn r g

call_later : (strict : Bool) (l : ℕ) (ys : List ℕ) (o : Option Procedure) (kn r : InstMap) → call_checked strict l ys o kn ≡ Ok r → Later kn r
call_later strict l ys None kn r g = absurd (cc g)
call_later strict l ys (Some p) kn r g = arguments_later strict l p.args ys kn r (ok_where (nat_eq (length ys) (length p.args)) (Arity l) (arguments strict l p.args ys kn) r g).1

apply_sort_later : (strict : Bool) (l : ℕ) (ys : List ℕ) (t : HldsType) (kn r : InstMap) → apply_sort strict l ys t kn ≡ Ok r → Later kn r
apply_sort_later strict l ys (closure ts ms d) kn r g =
    arguments_later strict l (pairs (listed_types ts) ms) ys kn r (ok_where (nat_eq (length ys) (length (listed_types ts))) (Arity l) (arguments strict l (pairs (listed_types ts) ms) ys kn) r g).1
apply_sort_later strict l ys number kn r g = absurd (cc g)
apply_sort_later strict l ys text kn r g = absurd (cc g)
apply_sort_later strict l ys world kn r g = absurd (cc g)
apply_sort_later strict l ys (named n) kn r g = absurd (cc g)

apply_later : (strict : Bool) (l : ℕ) (ys : List ℕ) (k : Instantiation) (kn r : InstMap) → apply_known strict l ys k kn ≡ Ok r → Later kn r
apply_later strict l ys free kn r g = absurd (cc g)
apply_later strict l ys (has t used) kn r g = apply_sort_later strict l ys t kn r (ok_unless (is_spent strict t used) (IoUsed l) (apply_sort strict l ys t kn) r g).1

-- ---- what arms have in common

later_common_at : (k j : Instantiation) (t : HldsType) (a b : Bool) → k ≡ has t a → j ≡ has t b → common k j ≡ has t (a || b)
later_common_at k j t a b e f = rw (e, f) refl

later_common : (kn r q : InstMap) → Later kn r → Later kn q → Later kn (in_common r q)
later_common kn r q h g = record {
  size = length-in_common r q ∙ h.size;
  bound = λ x t used is.
      let a = h.bound x t used is in
      let b = g.bound x t used is in
      (a.0 || b.0, known_at-in_common r q x ∙ later_common_at (known_at r x) (known_at q x) t a.0 b.0 a.1 b.1);
}

abbrev pub EachOf : (InstMap → Type 0) → List InstMap → Type 0
EachOf P [] = ⊤
EachOf P (q ∷ qs) = P q × EachOf P qs

later_all : (kn r : InstMap) (qs : List InstMap) → Later kn r → EachOf (Later kn) qs → Later kn (all_have r qs)
later_all kn r [] h g = h
later_all kn r (q ∷ qs) h g = later_all kn (in_common r q) qs (later_common kn r q h g.0) g.1

abbrev pub AllLater : InstMap → List After → Type 0
AllLater kn [] = ⊤
AllLater kn (a ∷ ends) = Later kn a.known × AllLater kn ends

reachable_step : (P : InstMap → Type 0) (a : InstMap) (rest : List InstMap) (b : Bool) → P a → EachOf P rest → EachOf P (cond b (a ∷ rest) rest)
reachable_step P a rest true h g = (h, g)
reachable_step P a rest false h g = g

pub reachable_later : (kn : InstMap) (ends : List After) → AllLater kn ends → EachOf (Later kn) (reachable ends)
reachable_later kn [] h = tt
reachable_later kn (a ∷ ends) h = reachable_step (Later kn) a.known (reachable ends) a.reach h.0 (reachable_later kn ends h.1)

-- what an accepted branch leads to
pub joined_ok : (l : ℕ) (p : ℕ → Bool) (kn r : InstMap) (qs : List InstMap) (a : After) → joined_ends l p kn (r ∷ qs) ≡ Ok a
    → (some_differ p kn r qs ≡ false) × (clash kn (all_have r qs) r qs ≡ false) × (after (all_have r qs) true ≡ a)
joined_ok l p kn r qs a g =
    let b = ok_unless (some_differ p kn r qs) (BranchBinds l) _ a g in
    let c = ok_unless (clash kn (all_have r qs) r qs) (TypeClash l) (Ok (after (all_have r qs) true)) a b.1 in
    (b.0, c.0, ok_is (Ok (after (all_have r qs) true)) (after (all_have r qs) true) a refl c.1)

joined_ends_later : (l : ℕ) (p : ℕ → Bool) (kn : InstMap) (rs : List InstMap) (a : After) → EachOf (Later kn) rs → joined_ends l p kn rs ≡ Ok a → Later kn a.known
joined_ends_later l p kn [] a h g = later_is kn a.known kn (sym (ap (λ (b : After). b.known) (ok_is (Ok (after kn false)) (after kn false) a refl g))) (later_self kn)
joined_ends_later l p kn (r ∷ qs) a h g =
    later_is kn a.known (all_have r qs) (sym (ap (λ (b : After). b.known) (joined_ok l p kn r qs a g).2)) (later_all kn r qs h.0 h.1)

pub joined_later : (l : ℕ) (p : ℕ → Bool) (kn : InstMap) (ends : List After) (a : After) → AllLater kn ends → joined l p kn ends ≡ Ok a → Later kn a.known
joined_later l p kn ends a h g = joined_ends_later l p kn (reachable ends) a (reachable_later kn ends h) g

-- ---- goals

only_later : (kn : InstMap) (a : After) → after kn true ≡ a → Later kn a.known
only_later kn a is = later_is kn a.known kn (sym (ap (λ (b : After). b.known) is)) (later_self kn)

mutual
  pub goal_later : (c : Scope) (p : HldsGoal) (kn : InstMap) (a : After) → goal c p kn ≡ Ok a → Later kn a.known
  goal_later c (At l t) kn a g = expr_later c l t kn a g

  expr_later : (c : Scope) (l : ℕ) (t : GoalExpr) (kn : InstMap) (a : After) → expr c l t kn ≡ Ok a → Later kn a.known
  expr_later c l (SimpleGoal g) kn a ok =
      simple_later c.program c.strict l g kn a.known (ok_reached (goes_on_after (SimpleGoal g)) (atomic c.program c.strict l (SimpleGoal g) kn) a ok).0
  expr_later c l (CallGoal site q ys) kn a ok =
      call_later c.strict l ys (predicate_called c.program q) kn a.known (ok_reached true (atomic c.program c.strict l (CallGoal site q ys) kn) a ok).0
  expr_later c l (HoCallGoal site f ys) kn a ok =
      apply_later c.strict l ys (known_at kn f) kn a.known (ok_reached true (atomic c.program c.strict l (HoCallGoal site f ys) kn) a ok).0
  expr_later c l (ConjGoal ps) kn a ok = each_later c ps kn a ok
  expr_later c l (DisjGoal ps) kn a ok =
      let b = ok_then (arms c ps kn) (λ ends. joined l (outside c.all (parts_variables ps)) kn ends) a ok in
      joined_later l (outside c.all (parts_variables ps)) kn b.0 a (arms_later c ps kn b.0 b.1) b.2
  expr_later c l (IfGoal p t e) kn a ok =
      let o = if_ok c l p t e kn a ok in
      joined_later l _ kn (o.then ∷ o.else ∷ []) a (
        later_then kn o.condition.known o.then.known (goal_later (within c) p kn o.condition o.begins) (goal_later c t o.condition.known o.then o.wins),
        (goal_later c e kn o.else o.loses, tt),
      ) o.joins
  expr_later c l (NotGoal p) kn a ok = only_later kn a (not_ok c l p kn a ok).is
  expr_later c l (SomeGoal vs p) kn a ok = only_later kn a (some_ok c l vs p kn a ok).is

  pub each_later : (c : Scope) (ps : HldsGoals) (kn : InstMap) (a : After) → each c ps kn ≡ Ok a → Later kn a.known
  each_later c nothing kn a ok = only_later kn a (ok_is (Ok (after kn true)) (after kn true) a refl ok)
  each_later c (also p ps) kn a ok =
      let o = each_ok c p ps kn a ok in
      later_is kn a.known o.rest.known (sym (ap (λ (b : After). b.known) o.is))
      (later_then kn o.first.known o.rest.known (goal_later c p kn o.first o.begins) (each_later c ps o.first.known o.rest o.goes_on))

  pub arms_later : (c : Scope) (ps : HldsGoals) (kn : InstMap) (ends : List After) → arms c ps kn ≡ Ok ends → AllLater kn ends
  arms_later c nothing kn ends ok = subst (λ (es : List After). AllLater kn es) (ok_is (Ok []) [] ends refl ok) tt
  arms_later c (also p ps) kn ends ok =
      let o = arms_ok c p ps kn ends ok in
      subst (λ (es : List After). AllLater kn es) o.is (goal_later c p kn o.first o.begins, arms_later c ps kn o.ends o.others)
