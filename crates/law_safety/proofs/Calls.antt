-- Calls: the environment in which a body begins, and what it gives back.
use Rattle.std.proofs.Common.{◌≡◌, refl, sym, ap, ap₂, ◌∙◌, subst, arith, ℕ, suc, ◌+◌, Bool, false, nat_eq, List, [], ◌∷◌, length, Option, Some, None, Ok, slice_get}
use Rattle.std.proofs.lemmas.Bool.{eqb-true}
use Rattle.md_hlds.specs.declared.types.Mode.{Mode}
use Rattle.md_hlds.specs.declared.types.Mode.TheVariants.{In, Out, Di, Uo}
use Rattle.md_hlds.specs.declared.types.Det.{Det}
use Rattle.md_hlds.specs.declared.types.Det.TheVariants as det
use Rattle.md_hlds.specs.Hlds.{HldsType, HldsTypes, number, text, world, named, closure, listed_types, gathered_types, Procedure, Hlds}
use Rattle.md_hlds.specs.Value.{Value, Values, Number, Literal, Built, Closure, no_values, also_value, listed_values, Env, value_at, bound, blank}
use Rattle.md_hlds.specs.Trace.{back_value, passed, given, pairs_of, without, entered}
use Rattle.md_inst.specs.declared.fault.ModeFault.TheVariants.{TypeClash, IoUsed, Arity}
use Rattle.md_inst.specs.HldsTypes.{same_sort}
use Rattle.md_inst.specs.Instantiation.{Instantiation, free, has, InstMap, known_at, put, nothing_known}
use Rattle.md_inst.specs.Arguments.{is_spent, arguments}
use Rattle.md_inst.specs.Simple.{types_of, modes_of, pairs, apply_pairs, apply_sort, apply_known}
use Rattle.md_modes.specs.Modes.{enter, entry_from, entry, exit_known, exit, exits}
use Rattle.law_safety.specs.Values.{HasType, AreHeld, IsClosureOf, Agrees, Fits}
use Rattle.law_safety.specs.Arguments.{IsArgument, AreArguments, taken, IsResult, AreResults}
use Rattle.law_safety.proofs.Environments.{fits_put, blank_fits}
use Rattle.law_safety.proofs.SameTypes.{same_sort_is}
use Rattle.law_safety.proofs.Verdicts.{ok_after, ok_where, ok_unless}
use Rattle.law_safety.proofs.Handing.{In', in_first, in_rest}

-- ---- entry

entry_from_nil : (args : List (HldsType × Mode)) (kn : InstMap) → entry_from args [] kn ≡ kn
entry_from_nil [] kn = refl
entry_from_nil (a ∷ args) kn = refl

enter_in : (m : Mode) (t : HldsType) (h : ℕ) (kn : InstMap) → m ≡ In → enter m t h kn ≡ put kn h (has t false)
enter_in m t h kn e = rw e refl

pub record AfterHeld (s : Hlds) (vars : List ℕ) (args others : List (HldsType × Mode)) (vs : List Value) (hs : List ℕ) (kn : InstMap) (d : Env) : Type 0 where
  pub known : InstMap
  pub goes_on : entry_from args hs kn ≡ entry_from others (without vs hs) known
  pub fits : Fits s vars known (given vs hs d)

-- captured values are in the first variables of the head
given_fits : (s : Hlds) (vars : List ℕ) (held : Values) (args others : List (HldsType × Mode)) (hs : List ℕ) (kn : InstMap) (d : Env)
    → AreHeld s held args others → Fits s vars kn d → AfterHeld s vars args others (listed_values held) hs kn d
given_fits s vars no_values args others hs kn d h fits = record { known = kn; goes_on = ap (λ (b : List (HldsType × Mode)). entry_from b hs kn) h; fits = fits }
given_fits s vars (also_value v vs) [] others hs kn d h fits = elim h [ ]
given_fits s vars (also_value v vs) (a ∷ args) others [] kn d h fits = record { known = kn; goes_on = sym (entry_from_nil others kn); fits = fits }
given_fits s vars (also_value v vs) (a ∷ args) others (x ∷ hs) kn d h fits =
    let rest = given_fits s vars vs args others hs (put kn x (has a.0 false)) (bound d x v) h.1.1 (fits_put s vars kn d x v a.0 false fits h.1.0) in
    record { known = rest.known; goes_on = ap (entry_from args hs) (enter_in a.1 a.0 x kn h.0) ∙ rest.goes_on; fits = rest.fits }

passed_in : (s : Hlds) (vars : List ℕ) (t : HldsType) (x : ℕ) (o : Option Value) (kn : InstMap) (d : Env) → IsArgument s In t o → Fits s vars kn d → Fits s vars (put kn x (has t false)) (back_value x None o d)
passed_in s vars t x None kn d h fits = elim h [ ]
passed_in s vars t x (Some v) kn d h fits = fits_put s vars kn d x v t false fits h

pub passed_one : (s : Hlds) (vars : List ℕ) (m : Mode) (t : HldsType) (x : ℕ) (o : Option Value) (kn : InstMap) (d : Env) → IsArgument s m t o → Fits s vars kn d → Fits s vars (enter m t x kn) (back_value x None o d)
passed_one s vars In t x o kn d h fits = passed_in s vars t x o kn d h fits
passed_one s vars Di t x None kn d h fits = elim h [ ]
passed_one s vars Di t x (Some v) kn d h fits = fits_put s vars kn d x v t false fits h
passed_one s vars Out t x None kn d h fits = fits
passed_one s vars Out t x (Some v) kn d h fits = elim h [ ]
passed_one s vars Uo t x None kn d h fits = fits
passed_one s vars Uo t x (Some v) kn d h fits = elim h [ ]

-- the other variables of the head have the values of their arguments
passed_fits : (s : Hlds) (vars : List ℕ) (args : List (HldsType × Mode)) (hs ys : List ℕ) (kn : InstMap) (e d : Env)
    → AreArguments s args (taken e ys) → Fits s vars kn d → Fits s vars (entry_from args hs kn) (passed (pairs_of hs ys) e d)
passed_fits s vars [] [] [] kn e d h fits = fits
passed_fits s vars [] (x ∷ hs) [] kn e d h fits = fits
passed_fits s vars [] hs (y ∷ ys) kn e d h fits = elim h [ ]
passed_fits s vars (a ∷ args) hs [] kn e d h fits = elim h [ ]
passed_fits s vars (a ∷ args) [] (y ∷ ys) kn e d h fits = fits
passed_fits s vars (a ∷ args) (x ∷ hs) (y ∷ ys) kn e d h fits =
    passed_fits s vars args hs ys (enter a.1 a.0 x kn) e (back_value x None (value_at e y) d) h.1 (passed_one s vars a.1 a.0 x (value_at e y) kn d h.0 fits)

-- the environment in which a body begins fits what is known there
pub call_fits : (s : Hlds) (vars : List ℕ) (p : Procedure) (held : Values) (others : List (HldsType × Mode)) (ys : List ℕ) (e : Env)
    → AreHeld s held p.args others → AreArguments s others (taken e ys) → Fits s vars (entry p) (entered p (listed_values held) ys e)
call_fits s vars p held others ys e h args =
    let first = given_fits s vars held p.args others p.head (nothing_known (length p.vars)) (blank (length p.vars)) h (blank_fits s vars (length p.vars)) in
    subst (λ (k : InstMap). Fits s vars k (entered p (listed_values held) ys e)) (sym first.goes_on)
    (passed_fits s vars others (without (listed_values held) p.head) ys first.known e (given (listed_values held) p.head (blank (length p.vars))) args first.fits)

-- ---- exit

exit_known_results : (s : Hlds) (l : ℕ) (t : HldsType) (o : Option Value) (k : Instantiation) → Agrees s o k → exit_known l t k ≡ Ok tt → (v : Value) × (o ≡ Some v) × HasType s v t
exit_known_results s l t None free a ok = absurd (cc ok)
exit_known_results s l t None (has u used) a ok = elim a [ ]
exit_known_results s l t (Some v) free a ok = elim a [ ]
exit_known_results s l t (Some v) (has u used) a ok =
    let b = ok_where (same_sort u t) (TypeClash l) _ tt ok in
    (v, refl, subst (λ (z : HldsType). HasType s v z) (same_sort_is u t b.0) a)

some_result : (s : Hlds) (t : HldsType) (o : Option Value) → ((v : Value) × (o ≡ Some v) × HasType s v t) → IsResult s Out t o
some_result s t o h = rw h.1 h.2

some_result' : (s : Hlds) (t : HldsType) (o : Option Value) → ((v : Value) × (o ≡ Some v) × HasType s v t) → IsResult s Uo t o
some_result' s t o h = rw h.1 h.2

exit_results : (s : Hlds) (l : ℕ) (m : Mode) (t : HldsType) (o : Option Value) (k : Instantiation) → Agrees s o k → exit l m t k ≡ Ok tt → IsResult s m t o
exit_results s l In t o k a ok = tt
exit_results s l Di t o k a ok = tt
exit_results s l Out t o k a ok = some_result s t o (exit_known_results s l t o k a ok)
exit_results s l Uo t o k a ok = some_result' s t o (exit_known_results s l t o k a ok)

-- the end of a clause: its outputs have values of their types
pub exits_return : (s : Hlds) (vars : List ℕ) (l : ℕ) (args : List (HldsType × Mode)) (hs : List ℕ) (kn : InstMap) (d : Env)
    → Fits s vars kn d → In' hs vars → exits l args hs kn ≡ Ok tt → AreResults s args hs d
exits_return s vars l [] hs kn d fits among ok = tt
exits_return s vars l (a ∷ args) [] kn d fits among ok = tt
exits_return s vars l (a ∷ args) (x ∷ hs) kn d fits among ok =
    let b = ok_after (exit l a.1 a.0 (known_at kn x)) (exits l args hs kn) tt ok in
    (exit_results s l a.1 a.0 (value_at d x) (known_at kn x) (fits.each x (in_first x hs vars among)) b.1, exits_return s vars l args hs kn d fits (in_rest x hs vars among) b.2)

results_nil : (s : Hlds) (others : List (HldsType × Mode)) (d : Env) → AreResults s others [] d
results_nil s [] d = tt
results_nil s (a ∷ others) d = tt

-- so have those that no captured value is for
pub others_return : (s : Hlds) (held : Values) (args others : List (HldsType × Mode)) (hs : List ℕ) (d : Env)
    → AreHeld s held args others → AreResults s args hs d → AreResults s others (without (listed_values held) hs) d
others_return s no_values args others hs d h results = subst (λ (b : List (HldsType × Mode)). AreResults s b hs d) h results
others_return s (also_value v vs) [] others hs d h results = elim h [ ]
others_return s (also_value v vs) (a ∷ args) others [] d h results = results_nil s others d
others_return s (also_value v vs) (a ∷ args) others (x ∷ hs) d h results = others_return s vs args others hs d h.1.1 results.1

pub without_size : (s : Hlds) (held : Values) (args others : List (HldsType × Mode)) (hs : List ℕ) → AreHeld s held args others → length hs ≡ length args
    → (length (without (listed_values held) hs) ≡ length others) × (length (listed_values held) + length others ≡ length hs)
without_size s no_values args others hs h size =
    let same : length args ≡ length others = ap (λ (b : List (HldsType × Mode)). length b) h in
    (size ∙ same, omega (arith, size, same))
without_size s (also_value v vs) [] others hs h size = elim h [ ]
without_size s (also_value v vs) (a ∷ args) others [] h size = absurd (omega (arith, size))
without_size s (also_value v vs) (a ∷ args) others (x ∷ hs) h size =
    let rest = without_size s vs args others hs h.1.1 (omega (arith, size)) in
    (rest.0, let more = rest.1 in omega (arith, more))

-- ---- closures

listed_gathered : (ts : List HldsType) → listed_types (gathered_types ts) ≡ ts
listed_gathered [] = refl
listed_gathered (t ∷ ts) = ap (λ (us : List HldsType). t ∷ us) (listed_gathered ts)

pairs_back : (args : List (HldsType × Mode)) → pairs (types_of args) (modes_of args) ≡ args
pairs_back [] = refl
pairs_back (a ∷ args) = ap (λ (b : List (HldsType × Mode)). a ∷ b) (pairs_back args)

types_size : (args : List (HldsType × Mode)) → length (types_of args) ≡ length args
types_size [] = refl
types_size (a ∷ args) = ap suc (types_size args)

open_pairs : (args : List (HldsType × Mode)) → pairs (listed_types (gathered_types (types_of args))) (modes_of args) ≡ args
open_pairs args = ap (λ (ts : List HldsType). pairs ts (modes_of args)) (listed_gathered (types_of args)) ∙ pairs_back args

-- the closure of an accepted call
abbrev pub sort_det : HldsType → Det
sort_det (closure ts ms d) = d
sort_det t = det.Det

pub record IsApplied (s : Hlds) (strict : Bool) (l : ℕ) (ys : List ℕ) (o : Option Value) (t : HldsType) (kn r : InstMap) : Type 0 where
  pub number : ℕ
  pub held : Values
  pub procedure : Procedure
  pub others : List (HldsType × Mode)
  pub is : o ≡ Some (Closure number held)
  pub at : slice_get s.procedures number ≡ Some procedure
  pub captured : AreHeld s held procedure.args others
  pub size : length ys ≡ length others
  pub accepted : arguments strict l others ys kn ≡ Ok r
  pub determinism : procedure.det ≡ sort_det t

closure_applied : (s : Hlds) (strict : Bool) (l : ℕ) (ys : List ℕ) (q : ℕ) (held : Values) (ts : HldsTypes) (ms : List Mode) (d : Det) (kn r : InstMap) (o : Option Procedure) → slice_get s.procedures q ≡ o
    → IsClosureOf o (closure ts ms d) (λ args others. AreHeld s held args others) → apply_pairs strict l ys (listed_types ts) ms kn ≡ Ok r → IsApplied s strict l ys (Some (Closure q held)) (closure ts ms d) kn r
closure_applied s strict l ys q held ts ms d kn r None at h ok = elim h [ ]
closure_applied s strict l ys q held ts ms d kn r (Some p) at h ok =
    let a = ok_where (nat_eq (length ys) (length (listed_types ts))) (Arity l) (arguments strict l (pairs (listed_types ts) ms) ys kn) r ok in
    let types : gathered_types (types_of h.0) ≡ ts = cc (h.2) in
    let modes : modes_of h.0 ≡ ms = cc (h.2) in
    let args : pairs (listed_types ts) ms ≡ h.0 =
    ap₂ (λ (us : HldsTypes) (ns : List Mode). pairs (listed_types us) ns) (sym types) (sym modes) ∙ open_pairs h.0 in
    let long : length (listed_types ts) ≡ length h.0 =
    ap (λ (us : HldsTypes). length (listed_types us)) (sym types) ∙ ap (λ (us : List HldsType). length us) (listed_gathered (types_of h.0)) ∙ types_size h.0 in
    record {
      number = q;
      held = held;
      procedure = p;
      others = h.0;
      is = refl;
      at = at;
      captured = h.1;
      size = eqb-true (length ys) (length (listed_types ts)) a.0 ∙ long;
      accepted = subst (λ (b : List (HldsType × Mode)). arguments strict l b ys kn ≡ Ok r) args a.1;
      determinism = cc (h.2);
    }

sort_applied : (s : Hlds) (strict : Bool) (l : ℕ) (ys : List ℕ) (v : Value) (t : HldsType) (kn r : InstMap) → HasType s v t → apply_sort strict l ys t kn ≡ Ok r → IsApplied s strict l ys (Some v) t kn r
sort_applied s strict l ys (Closure q held) (closure ts ms d) kn r h ok = closure_applied s strict l ys q held ts ms d kn r (slice_get s.procedures q) refl h ok
sort_applied s strict l ys (Number n) (closure ts ms d) kn r h ok = elim h [ ]
sort_applied s strict l ys (Literal b) (closure ts ms d) kn r h ok = elim h [ ]
sort_applied s strict l ys (Built f vs) (closure ts ms d) kn r h ok = elim h [ ]
sort_applied s strict l ys v number kn r h ok = absurd (cc ok)
sort_applied s strict l ys v text kn r h ok = absurd (cc ok)
sort_applied s strict l ys v world kn r h ok = absurd (cc ok)
sort_applied s strict l ys v (named n) kn r h ok = absurd (cc ok)

-- the type that a variable is known to have
abbrev pub type_of : Instantiation → HldsType
type_of free = number
type_of (has t used) = t

pub known_applied : (s : Hlds) (strict : Bool) (l : ℕ) (ys : List ℕ) (o : Option Value) (k : Instantiation) (kn r : InstMap) → Agrees s o k → apply_known strict l ys k kn ≡ Ok r → IsApplied s strict l ys o (type_of k) kn r
known_applied s strict l ys None free kn r a ok = absurd (cc ok)
known_applied s strict l ys (Some v) (has t used) kn r a ok = sort_applied s strict l ys v t kn r a (ok_unless (is_spent strict t used) (IoUsed l) (apply_sort strict l ys t kn) r ok).1
known_applied s strict l ys None (has t used) kn r a ok = elim a [ ]
known_applied s strict l ys (Some v) free kn r a ok = elim a [ ]
