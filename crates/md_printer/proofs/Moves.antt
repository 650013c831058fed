-- How far a symbol of the grammar takes the input, and what it leaves of the clause's names.
use Rattle.std.specs.Prelude.{codes, nat_lt}
use Rattle.std.proofs.Common.{◌≡◌, ℕ, ◌+◌, Bool, true, false, cond, not, ◌&&◌, ◌⊎◌, inl, inr, Option, Some, None, Result, Ok, Err, List, [], ◌∷◌, ◌++◌, length, refl, ◌==◌, ap, sym, ◌∙◌, subst, append_assoc}
use Rattle.std.specs.List.{list_any}
use Rattle.std.specs.Str.{bytes_eq}
use Rattle.md_hlds.specs.declared.types.Mode.{Mode}
use Rattle.md_hlds.specs.declared.types.Det.{Det}
use Rattle.md_hlds.specs.declared.goal.PredName.{PredName}
use Rattle.md_hlds.specs.declared.goal.Op.{Op}
use Rattle.md_hlds.specs.declared.goal.Cmp.{Cmp}
use Rattle.md_hlds.specs.HldsGoal.{HldsGoal, GoalExpr}
use Rattle.md_hlds.specs.Hlds.{HldsType, number, text, world, named, HldsFunctor, HldsTypeDef}
use Rattle.md_token.specs.declared.kind.Kind.{Kind}
use Rattle.md_token.specs.declared.kind.Kind.TheVariants as kind
use Rattle.md_reader.specs.Input.{Input, Parser, Outcome, and_then, expect, name, word, variable, site, token, sees, next, take_name, with_variable, place_of}
use Rattle.md_reader.specs.Rules as rule
use Rattle.md_reader.specs.Grammar as g
use Rattle.md_reader.specs.Grammar.{Is, Sign, Listed, Enclosed}
use Rattle.md_reader.proofs.Steps.{bind_ok}
use Rattle.md_printer.proofs.Onto.{at, Good, next_good}

-- ---- what a test lets through

pub ok_parts : {A : Type 0} (x y : A) (i j : Input) → ◌≡◌ {A = Outcome A} (Ok (x, i)) (Ok (y, j)) → (x ≡ y) × (i ≡ j)
ok_parts {A} x y i j h = let e : ◌≡◌ {A = A × Input} (x, i) (y, j) = cc in (ap (λ (p : A × Input). p.0) e, ap (λ (p : A × Input). p.1) e)

-- a test that must hold
pub holds : {B E : Type 0} (b : Bool) (v : Result B E) (e : E) (y : B) → cond b v (Err e) ≡ Ok y → (b ≡ true) × (v ≡ Ok y)
holds true v e y h = (refl, h)
holds false v e y h = absurd (cc)

-- a test that must fail
pub fails : {B E : Type 0} (b : Bool) (v : Result B E) (e : E) (y : B) → cond b (Err e) v ≡ Ok y → (b ≡ false) × (v ≡ Ok y)
fails true v e y h = absurd (cc)
fails false v e y h = (refl, h)

-- ---- symbols that read no state but the tokens, and change none

pub record Still (i j : Input) : Type 0 where
  pub good : Good i → Good j
  pub same : (n : ℕ) (s : List ℕ) → at n s i ≡ at n s j
  pub vars : i.vars ≡ j.vars

pub still_here : (i : Input) → Still i i
still_here i = record { good = λ g. g; same = λ n s. refl; vars = refl }

pub still_next : (i : Input) → Still i (next i)
unfolding next at
still_next i = record { good = λ g. next_good i g; same = λ n s. refl; vars = refl }

pub still_on : (i j k : Input) → Still i j → Still j k → Still i k
still_on i j k a b = record { good = λ g. b.good (a.good g); same = λ n s. a.same n s ∙ b.same n s; vars = a.vars ∙ b.vars }

pub still_to : (i j : Input) → next i ≡ j → Still i j
still_to i j e = subst (λ (j : Input). Still i j) e (still_next i)

pub expect_next : (k : Kind) (line : ℕ) (i j : Input) → Is (expect k) line i j → next i ≡ j
unfolding expect
expect_next k line i j h = (ok_parts (token i).line line (next i) j (holds (sees k i) _ _ _ h).1).1

pub sign_still : (k : Kind) (i j : Input) → Sign k i j → Still i j
sign_still k _ _ (g.Sign.sign line i j h) = still_to i j (expect_next k line i j h)

pub expect_still : (k : Kind) (line : ℕ) (i j : Input) → Is (expect k) line i j → Still i j
expect_still k line i j h = still_to i j (expect_next k line i j h)

-- a name that is taken
pub take_facts : (t f : List ℕ) (i j : Input) → Is (take_name t) f i j → (nat_lt i.limits.items (length t) ≡ false) × (t ≡ f) × (next i ≡ j)
unfolding take_name
take_facts t f i j h =
    let a = fails (nat_lt i.limits.items (length t)) _ _ _ h in
    let b = ok_parts t f (next i) j a.1 in
    (a.0, b.0, b.1)

pub name_facts : (f : List ℕ) (i j : Input) → Is name f i j → (sees kind.Name i ≡ true) × (nat_lt i.limits.items (length (token i).text) ≡ false) × ((token i).text ≡ f) × (next i ≡ j)
unfolding name
name_facts f i j h =
    let a = holds (sees kind.Name i) _ _ _ h in
    let t = take_facts (token i).text f i j a.1 in
    (a.0, t.0, t.1, t.2)

pub name_still : (f : List ℕ) (i j : Input) → Is name f i j → Still i j
name_still f i j h = still_to i j (name_facts f i j h).3

pub word_still : (w : List ℕ) (line : ℕ) (i j : Input) → Is (word w) line i j → Still i j
unfolding word
word_still w line i j h = still_to i j (ok_parts (token i).line line (next i) j (holds (sees kind.Name i && bytes_eq (token i).text w) _ _ _ h).1).1

-- a word of an option
pub word_facts : {A : Type 0} (o : Option A) (x : A) (i j : Input) → Is (rule.take_word o) x i j → (o ≡ Some x) × (next i ≡ j)
word_facts None x i j h = absurd (cc)
word_facts (Some y) x i j h = let a = ok_parts y x (next i) j h in (ap Some a.0, a.1)

pub mode_still : (m : Mode) (i j : Input) → Is rule.mode_word m i j → Still i j
unfolding rule.mode_word
mode_still m i j h = still_to i j (word_facts (rule.mode_named (token i).text) m i j h).1

pub ho_mode_still : (m : Mode) (i j : Input) → Is rule.ho_mode m i j → Still i j
unfolding rule.ho_mode
ho_mode_still m i j h = still_to i j (word_facts (rule.ho_mode_named (token i).text) m i j h).1

pub determinism_still : (d : Det) (i j : Input) → Is rule.determinism d i j → Still i j
unfolding rule.determinism
determinism_still d i j h = still_to i j (word_facts (rule.det_named (token i).text) d i j h).1

pub type_name_name : (t : List ℕ) (i j : Input) → Is rule.type_name t i j → (rule.is_own_type (token i).text ≡ true) × Is name t i j
unfolding rule.type_name
type_name_name t i j h = holds (rule.is_own_type (token i).text) _ _ _ h

-- a choice between two parsers
pub chosen_at : {A : Type 0} (b : Bool) (p q : Parser A) (i : Input) (z : Outcome A) → cond b p q i ≡ z → ((b ≡ true) × (p i ≡ z)) ⊎ ((b ≡ false) × (q i ≡ z))
chosen_at true p q i z h = inl (refl, h)
chosen_at false p q i z h = inr (refl, h)

-- a type is one of three words, or another name
pub data IsSimpleType (t : List ℕ) (i j : Input) : HldsType → Type 0 where
  int : next i ≡ j → IsSimpleType t i j number
  string : next i ≡ j → IsSimpleType t i j text
  io : next i ≡ j → IsSimpleType t i j world
  other : bytes_eq t (codes "int") ≡ false → bytes_eq t (codes "string") ≡ false → bytes_eq t (codes "io") ≡ false → nat_lt i.limits.items (length t) ≡ false → next i ≡ j → IsSimpleType t i j (named t)

simple_type_word : (x t : HldsType) (i j : Input) (w : List ℕ) → (next i ≡ j → IsSimpleType w i j x) → ◌≡◌ {A = Outcome HldsType} (Ok (x, next i)) (Ok (t, j)) → IsSimpleType w i j t
simple_type_word x t i j w f h = let a = ok_parts x t (next i) j h in subst (λ (t : HldsType). IsSimpleType w i j t) a.0 (f a.1)

simple_type_name : (w : List ℕ) (t : HldsType) (i j : Input) → bytes_eq w (codes "int") ≡ false → bytes_eq w (codes "string") ≡ false → bytes_eq w (codes "io") ≡ false
    → and_then (take_name w i) (λ n k. Ok (named n, k)) ≡ Ok (t, j) → IsSimpleType w i j t
simple_type_name w t i j a b c h =
    let e = bind_ok (take_name w i) _ _ h in
    let f = take_facts w e.0.0 i e.0.1 e.1 in
    let r = ok_parts (named e.0.0) t e.0.1 j e.2 in
    subst (λ (t : HldsType). IsSimpleType w i j t) (ap named f.1 ∙ r.0) (other a b c f.0 (f.2 ∙ r.1))

simple_type_facts_by : (w : List ℕ) (t : HldsType) (i j : Input) → rule.simple_type_named w i ≡ Ok (t, j) → IsSimpleType w i j t
simple_type_facts_by w t i j h =
    elim (chosen_at (bytes_eq w (codes "int")) _ _ i _ h) [
      | inl s ↦ simple_type_word number t i j w int s.1
      | inr s ↦ elim (chosen_at (bytes_eq w (codes "string")) _ _ i _ s.1) [
        | inl q ↦ simple_type_word text t i j w string q.1
        | inr q ↦ elim (chosen_at (bytes_eq w (codes "io")) _ _ i _ q.1) [
          | inl r ↦ simple_type_word world t i j w io r.1
          | inr r ↦ simple_type_name w t i j s.0 q.0 r.0 r.1
        ]
      ]
    ]

pub simple_type_facts : (t : HldsType) (i j : Input) → Is rule.simple_type t i j → (sees kind.Name i ≡ true) × IsSimpleType (token i).text i j t
unfolding rule.simple_type
simple_type_facts t i j h =
    let a = holds (sees kind.Name i) _ _ _ h in
    (a.0, simple_type_facts_by (token i).text t i j a.1)

simple_type_next : (w : List ℕ) (t : HldsType) (i j : Input) → IsSimpleType w i j t → next i ≡ j
simple_type_next w _ i j (int e) = e
simple_type_next w _ i j (string e) = e
simple_type_next w _ i j (io e) = e
simple_type_next w _ i j (other a b c d e) = e

pub simple_type_still : (t : HldsType) (i j : Input) → Is rule.simple_type t i j → Still i j
simple_type_still t i j h = still_to i j (simple_type_next (token i).text t i j (simple_type_facts t i j h).1)

-- ---- names of predicates

-- the name that a token is, as it is meant in the program
pub record IsName (q : PredName) (i j : Input) : Type 0 where
  pub written : rule.Written
  pub here : rule.written (token i) ≡ Some written
  pub short : rule.is_long i.limits.items written ≡ false
  pub meant : rule.meant i.home written ≡ q
  pub on : next i ≡ j

written_facts : (o : Option rule.Written) (q : PredName) (i j : Input) → rule.written (token i) ≡ o → rule.take_written o i ≡ Ok (q, j) → IsName q i j
written_facts None q i j e h = absurd (cc)
written_facts (Some w) q i j e h =
    let a = fails (rule.is_long i.limits.items w) _ _ _ h in
    let b = ok_parts (rule.meant i.home w) q (next i) j a.1 in
    record { written = w; here = e; short = a.0; meant = b.0; on = b.1 }

pub pred_name_facts : (q : PredName) (i j : Input) → Is rule.pred_name q i j → IsName q i j
unfolding rule.pred_name
pred_name_facts q i j h = written_facts (rule.written (token i)) q i j refl h

declared_facts : (o : Option rule.Written) (q : PredName) (i j : Input) → rule.written (token i) ≡ o → rule.take_declared o i ≡ Ok (q, j) → (f : IsName q i j) × (rule.is_of_library f.written.qualifier ≡ false)
declared_facts None q i j e h = absurd (cc)
declared_facts (Some w) q i j e h =
    elim (chosen_at (rule.is_of_library w.qualifier) _ _ i _ h) [
      | inl s ↦ absurd (let r = s.1 in cc)
      | inr s ↦ (
          let a = fails (rule.is_long i.limits.items w) _ _ _ s.1 in
          let b = ok_parts (rule.meant i.home w) q (next i) j a.1 in
          (record { written = w; here = e; short = a.0; meant = b.0; on = b.1 }, s.0)
          )
    ]

pub declared_name_facts : (q : PredName) (i j : Input) → Is rule.declared_name q i j → (f : IsName q i j) × (rule.is_of_library f.written.qualifier ≡ false)
unfolding rule.declared_name
declared_name_facts q i j h = declared_facts (rule.written (token i)) q i j refl h

same_next : (q : PredName) (o : Option rule.Written) (i j : Input) → rule.take_same q o i ≡ Ok (tt, j) → next i ≡ j
same_next q None i j h = absurd (cc)
same_next q (Some w) i j h = (ok_parts tt tt (next i) j (holds (rule.same_name (rule.meant i.home w) q) _ _ _ h).1).1

pub this_name_still : (q : PredName) (i j : Input) → Is (rule.this_name q) tt i j → Still i j
unfolding rule.this_name
this_name_still q i j h = still_to i j (same_next q (rule.written (token i)) i j h)

pub pred_name_still : (q : PredName) (i j : Input) → Is rule.pred_name q i j → Still i j
pred_name_still q i j h = still_to i j (pred_name_facts q i j h).on

pub declared_name_still : (q : PredName) (i j : Input) → Is rule.declared_name q i j → Still i j
declared_name_still q i j h = still_to i j (declared_name_facts q i j h).0.on

-- ---- lists and declarations

pub listed_still : {A : Type 0} (item : A → Input → Input → Type 0) (k : Kind) → ((x : A) (i j : Input) → item x i j → Still i j) → (xs : List A) (i j : Input) → Listed item k xs i j → Still i j
listed_still item k each _ _ _ (g.Listed.last x i j h) = each x i j h
listed_still item k each _ _ _ (g.Listed.also x xs i j m n h s r) = still_on i j n (each x i j h) (still_on j m n (sign_still k j m s) (listed_still item k each xs m n r))

pub enclosed_still : {A : Type 0} (item : A → Input → Input → Type 0) (k : Kind) → ((x : A) (i j : Input) → item x i j → Still i j) → (xs : List A) (i j : Input) → Enclosed item k xs i j → Still i j
enclosed_still item k each _ _ _ (g.Enclosed.enclosed xs i j m l few s) = still_on i j m (listed_still item kind.Comma each xs i j l) (sign_still k j m s)

pub functor_arguments_still : (ts : List HldsType) (i j : Input) → g.FunctorArguments ts i j → Still i j
functor_arguments_still _ _ _ (g.FunctorArguments.none i) = still_here i
functor_arguments_still _ _ _ (g.FunctorArguments.some ts i j k s e) = still_on i j k (sign_still kind.Open i j s) (enclosed_still (Is rule.simple_type) kind.Close simple_type_still ts j k e)

pub functor_still : (f : HldsFunctor) (i j : Input) → g.Functor f i j → Still i j
functor_still _ _ _ (g.Functor.functor f ts i j k n a) = still_on i j k (name_still f i j n) (functor_arguments_still ts j k a)

pub type_declaration_still : (line : ℕ) (t : HldsTypeDef) (i j : Input) → g.TypeDeclaration line t i j → Still i j
type_declaration_still line _ _ _ (g.TypeDeclaration.type_declaration t fs l i j k m n o w tn y fl e) =
    still_on i j o (word_still (codes "type") l i j w)
    (still_on j k o (name_still t j k (type_name_name t j k tn).1)
    (still_on k m o (sign_still kind.Yields k m y)
    (still_on m n o (listed_still g.Functor kind.Semicolon functor_still fs m n fl) (sign_still kind.End n o e))))

pub inst_still : (ms : List Mode) (d : Det) (i j : Input) → g.Inst ms d i j → Still i j
inst_still _ _ _ _ (g.Inst.inst ms d i j k l m n o p a b c e f h c2) =
    still_on i j p (sign_still kind.Open i j a)
    (still_on j k p (sign_still kind.Pred j k b)
    (still_on k l p (sign_still kind.Open k l c)
    (still_on l m p (enclosed_still (Is rule.mode_word) kind.Close mode_still ms l m e)
    (still_on m n p (sign_still kind.Is m n f)
    (still_on n o p (determinism_still d n o h) (sign_still kind.Close o p c2))))))

pub argument_still : (a : HldsType × Mode) (i j : Input) → g.Argument a i j → Still i j
argument_still _ _ _ (g.Argument.plain t m i j k l a b c) = still_on i j l (simple_type_still t i j a) (still_on j k l (sign_still kind.HasMode j k b) (mode_still m k l c))
argument_still _ _ _ (g.Argument.higher_order ts m ms d i j k l n o p a b c e f h) =
    still_on i j p (sign_still kind.Pred i j a)
    (still_on j k p (sign_still kind.Open j k b)
    (still_on k l p (enclosed_still (Is rule.simple_type) kind.Close simple_type_still ts k l c)
    (still_on l n p (sign_still kind.HasMode l n e)
    (still_on n o p (ho_mode_still m n o f) (inst_still ms d o p h)))))

pub declared_arguments_still : (as' : List (HldsType × Mode)) (i j : Input) → g.DeclaredArguments as' i j → Still i j
declared_arguments_still _ _ _ (g.DeclaredArguments.none i) = still_here i
declared_arguments_still _ _ _ (g.DeclaredArguments.some as' i j k s e) = still_on i j k (sign_still kind.Open i j s) (enclosed_still g.Argument kind.Close argument_still as' j k e)

pub pred_declaration_still : (d : rule.Declaration) (i j : Input) → g.PredDeclaration d i j → Still i j
pred_declaration_still _ _ _ (g.PredDeclaration.pred_declaration q as' d i j k l m n o a b c e f h) =
    still_on i j o (sign_still kind.Pred i j a)
    (still_on j k o (declared_name_still q j k b)
    (still_on k l o (declared_arguments_still as' k l c)
    (still_on l m o (sign_still kind.Is l m e)
    (still_on m n o (determinism_still d m n f) (sign_still kind.End n o h)))))

-- ---- symbols that take up names of variables

-- a list that goes on as another one
pub record Within (xs ys : List (List ℕ)) : Type 0 where
  pub more : List (List ℕ)
  pub whole : ys ≡ xs ++ more

pub record Onward (i j : Input) : Type 0 where
  pub good : Good i → Good j
  pub names : (vs : List (List ℕ)) → Within j.vars vs → Within i.vars vs

pub onward : (i j : Input) → Still i j → Onward i j
onward i j s = record { good = s.good; names = λ vs w. subst (λ (xs : List (List ℕ)). Within xs vs) (sym s.vars) w }

pub on_to : (i j k : Input) → Onward i j → Onward j k → Onward i k
on_to i j k a b = record { good = λ g. b.good (a.good g); names = λ vs w. a.names vs (b.names vs w) }

pub from_still : (i j k : Input) → Still i j → Onward j k → Onward i k
from_still i j k a b = on_to i j k (onward i j a) b

-- a variable that is read
pub record IsVariable (seen : List ℕ) (x : ℕ) (i j : Input) : Type 0 where
  pub is_variable : sees kind.Variable i ≡ true
  pub new : list_any (λ y. y == place_of (token i).text i.vars) seen ≡ false
  pub short : nat_lt i.limits.items (length (token i).text) ≡ false
  pub place : place_of (token i).text i.vars ≡ x
  pub on : record (next i) { vars = with_variable (token i).text i.vars } ≡ j

not_false : (b : Bool) → not b ≡ false → b ≡ true
not_false true h = refl
not_false false h = absurd (cc)

pub variable_facts : (seen : List ℕ) (x : ℕ) (i j : Input) → Is (variable seen) x i j → IsVariable seen x i j
unfolding variable
variable_facts seen x i j h =
    let a = fails (not (sees kind.Variable i)) _ _ _ h in
    let b = fails (list_any (λ y. y == place_of (token i).text i.vars) seen) _ _ _ a.1 in
    let c = fails (nat_lt i.limits.items (length (token i).text)) _ _ _ b.1 in
    let d = ok_parts (place_of (token i).text i.vars) x _ j c.1 in
    record { is_variable = not_false (sees kind.Variable i) a.0; new = b.0; short = c.0; place = d.0; on = d.1 }

with_more : (b : Bool) (x : List ℕ) (xs vs : List (List ℕ)) → Within (cond b (xs ++ x ∷ []) xs) vs → Within xs vs
with_more true x xs vs w = record { more = x ∷ w.more; whole = w.whole ∙ append_assoc xs (x ∷ []) w.more }
with_more false x xs vs w = w

with_variable_more : (x : List ℕ) (xs vs : List (List ℕ)) → Within (with_variable x xs) vs → Within xs vs
unfolding with_variable
with_variable_more x xs vs w = with_more (place_of x xs == length xs) x xs vs w

next_variable : (i : Input) → Onward i (record (next i) { vars = with_variable (token i).text i.vars })
unfolding next
next_variable i = record { good = λ g. next_good i g; names = λ vs w. with_variable_more (token i).text i.vars vs w }

pub variable_onward : (seen : List ℕ) (x : ℕ) (i j : Input) → Is (variable seen) x i j → Onward i j
variable_onward seen x i j h = subst (λ (j : Input). Onward i j) (variable_facts seen x i j h).on (next_variable i)

pub site_onward : (s : ℕ) (i j : Input) → Is site s i j → Onward i j
unfolding site
site_onward s i j h = subst (λ (j : Input). Onward i j) (ok_parts i.sites s (record i { sites = i.sites + 1 }) j h).1 (record { good = λ g. g; names = λ vs w. w })

pub listed_onward : {A : Type 0} (item : A → Input → Input → Type 0) (k : Kind) → ((x : A) (i j : Input) → item x i j → Onward i j) → (xs : List A) (i j : Input) → Listed item k xs i j → Onward i j
listed_onward item k each _ _ _ (g.Listed.last x i j h) = each x i j h
listed_onward item k each _ _ _ (g.Listed.also x xs i j m n h s r) = on_to i j n (each x i j h) (from_still j m n (sign_still k j m s) (listed_onward item k each xs m n r))

pub variables_listed : (xs : List ℕ) (i j : Input) → Listed (Is (variable [])) kind.Comma xs i j → Onward i j
variables_listed xs i j l = listed_onward (Is (variable [])) kind.Comma (variable_onward []) xs i j l

pub enclosed_onward : (k : Kind) (xs : List ℕ) (i j : Input) → Enclosed (Is (variable [])) k xs i j → Onward i j
enclosed_onward k _ _ _ (g.Enclosed.enclosed xs i j m l few s) = on_to i j m (variables_listed xs i j l) (onward j m (sign_still k j m s))

pub variables_onward : (k : Kind) (before xs : List ℕ) (i j : Input) → g.Variables k before xs i j → Onward i j
variables_onward k before _ _ _ (g.Variables.variables xs i j e new) = enclosed_onward k xs i j e

pub arguments_onward : (before xs : List ℕ) (i j : Input) → g.Arguments before xs i j → Onward i j
arguments_onward before _ _ _ (g.Arguments.none i) = onward i i (still_here i)
arguments_onward before _ _ _ (g.Arguments.some xs i j k s v) = from_still i j k (sign_still kind.Open i j s) (variables_onward kind.Close before xs j k v)

pub quantified_onward : (xs : List ℕ) (i j : Input) → g.Quantified xs i j → Onward i j
quantified_onward _ _ _ (g.Quantified.none i j s) = onward i j (sign_still kind.CloseList i j s)
quantified_onward _ _ _ (g.Quantified.some xs i j v) = variables_onward kind.CloseList [] xs i j v

-- ---- goals

pub operator_still : (o : Op) (i j : Input) → g.Operator o i j → Still i j
operator_still o _ _ (g.Operator.operator k i j e s) = sign_still k i j s

pub comparison_still : (c : Cmp) (i j : Input) → g.Comparison c i j → Still i j
comparison_still c _ _ (g.Comparison.comparison k i j e s) = sign_still k i j s

pub positive_still : (x : ℕ) (t : GoalExpr) (i j : Input) → Is (rule.positive x) t i j → Still i j
unfolding rule.positive
positive_still x t i j h = still_to i j (ok_parts _ t (next i) j (fails _ _ _ _ h).1).1

pub negated_still : (x : ℕ) (t : GoalExpr) (i j : Input) → Is (rule.negated x) t i j → Still i j
unfolding rule.negated
negated_still x t i j h = still_to i j (ok_parts _ t (next i) j (fails _ _ _ _ (holds (sees kind.Integer i) _ _ _ h).1).1).1

pub literal_still : (x : ℕ) (t : GoalExpr) (i j : Input) → Is (rule.literal x) t i j → Still i j
unfolding rule.literal
literal_still x t i j h = still_to i j (ok_parts _ t (next i) j (fails _ _ _ _ h).1).1

pub term_onward : (x : ℕ) (t : GoalExpr) (i j : Input) → g.Term x t i j → Onward i j
term_onward x _ _ _ (g.Term.same y i j v) = variable_onward (x ∷ []) y i j v
term_onward x _ _ _ (g.Term.arithmetic y z o i j k m v p w) = on_to i j m (variable_onward (x ∷ []) y i j v) (from_still j k m (operator_still o j k p) (variable_onward (x ∷ y ∷ []) z k m w))
term_onward x _ _ _ (g.Term.positive t i j e h) = onward i j (positive_still x t i j h)
term_onward x _ _ _ (g.Term.negative t i j k s h) = from_still i j k (sign_still kind.Minus i j s) (onward j k (negated_still x t j k h))
term_onward x _ _ _ (g.Term.literal t i j e h) = onward i j (literal_still x t i j h)
term_onward x _ _ _ (g.Term.application f ys i j k n a) = from_still i j k (pred_name_still f i j n) (arguments_onward (x ∷ []) ys j k a)

pub relation_onward : (t : GoalExpr) (i j : Input) → g.Relation t i j → Onward i j
relation_onward _ _ _ (g.Relation.unification x t i j k m v s r) = on_to i j m (variable_onward [] x i j v) (from_still j k m (sign_still kind.Equals j k s) (term_onward x t k m r))
relation_onward _ _ _ (g.Relation.comparison x y c i j k m v s w) = on_to i j m (variable_onward [] x i j v) (from_still j k m (comparison_still c j k s) (variable_onward (x ∷ []) y k m w))

pub call_onward : (t : GoalExpr) (i j : Input) → g.Call t i j → Onward i j
call_onward _ _ _ (g.Call.builtin q ys t i j k n a e) = from_still i j k (pred_name_still q i j n) (arguments_onward [] ys j k a)
call_onward _ _ _ (g.Call.call q ys s i j k m n a e h) = from_still i j m (pred_name_still q i j n) (on_to j k m (arguments_onward [] ys j k a) (site_onward s k m h))

pub closure_call_onward : (t : GoalExpr) (i j : Input) → g.ClosureCall t i j → Onward i j
closure_call_onward _ _ _ (g.ClosureCall.closure_call f ys s i j k m n c o v h) =
    from_still i j n (sign_still kind.Call i j c) (from_still j k n (sign_still kind.Open j k o) (on_to k m n (variables_onward kind.Close [] (f ∷ ys) k m v) (site_onward s m n h)))

mutual
  pub goal_onward : (room : ℕ) (p : HldsGoal) (i j : Input) → g.Goal room p i j → Onward i j
  goal_onward _ _ _ _ (g.Goal.true room line i j e) = onward i j (expect_still kind.True line i j e)
  goal_onward _ _ _ _ (g.Goal.fail room line i j e) = onward i j (expect_still kind.Fail line i j e)
  goal_onward _ _ _ _ (g.Goal.relation room t i j r) = relation_onward t i j r
  goal_onward _ _ _ _ (g.Goal.call room t i j r) = call_onward t i j r
  goal_onward _ _ _ _ (g.Goal.closure_call room t i j r) = closure_call_onward t i j r
  goal_onward _ _ _ _ (g.Goal.parentheses room p i j k m o c s) = from_still i j m (sign_still kind.Open i j o) (on_to j k m (conjunction_onward room p j k c) (onward k m (sign_still kind.Close k m s)))
  goal_onward _ _ _ _ (g.Goal.disjunction room line p ps i j k m n o e c s a z) =
      from_still i j o (expect_still kind.Open line i j e) (on_to j k o (conjunction_onward room p j k c) (from_still k m o (sign_still kind.Semicolon k m s) (on_to m n o (arms_onward room ps m n a) (onward n o (sign_still kind.Close n o z)))))
  goal_onward _ _ _ _ (g.Goal.choice room line c t e i j k m n o p q a b d f h l z) =
      from_still i j q (expect_still kind.Open line i j a) (on_to j k q (conjunction_onward room c j k b) (from_still k m q (sign_still kind.Then k m d) (on_to m n q (conjunction_onward room t m n f) (from_still n o q (sign_still kind.Semicolon n o h) (on_to o p q (conjunction_onward room e o p l) (onward p q (sign_still kind.Close p q z)))))))
  goal_onward _ _ _ _ (g.Goal.negation room line c i j k m n a o b z) =
      from_still i j n (expect_still kind.Not line i j a) (from_still j k n (sign_still kind.Open j k o) (on_to k m n (conjunction_onward room c k m b) (onward m n (sign_still kind.Close m n z))))
  goal_onward _ _ _ _ (g.Goal.quantification room line vs c i j k m n o p a b v d e z) =
      from_still i j p (expect_still kind.Some line i j a) (from_still j k p (sign_still kind.OpenList j k b) (on_to k m p (quantified_onward vs k m v) (from_still m n p (sign_still kind.Open m n d) (on_to n o p (conjunction_onward room c n o e) (onward o p (sign_still kind.Close o p z))))))

  pub units_onward : (room : ℕ) (ps : List HldsGoal) (i j : Input) → g.Units room ps i j → Onward i j
  units_onward _ _ _ _ (g.Units.last room p i j h) = goal_onward room p i j h
  units_onward _ _ _ _ (g.Units.also room p ps i j k m h s r) = on_to i j m (goal_onward room p i j h) (from_still j k m (sign_still kind.Comma j k s) (units_onward room ps k m r))

  pub conjunction_onward : (room : ℕ) (p : HldsGoal) (i j : Input) → g.Conjunction room p i j → Onward i j
  conjunction_onward _ _ _ _ (g.Conjunction.conjunction room ps i j h) = units_onward room ps i j h

  pub arms_onward : (room : ℕ) (ps : List HldsGoal) (i j : Input) → g.Arms room ps i j → Onward i j
  arms_onward _ _ _ _ (g.Arms.last_arm room p i j h) = conjunction_onward room p i j h
  arms_onward _ _ _ _ (g.Arms.also_arm room p ps i j k m h s r) = on_to i j m (conjunction_onward room p i j h) (from_still j k m (sign_still kind.Semicolon j k s) (arms_onward room ps k m r))
