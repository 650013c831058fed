-- What a rule took can be filled up: words, types and their declarations.
use Rattle.std.proofs.Common.{◌≡◌, ℕ, ◌-◌, List, [], ◌∷◌, ◌++◌, length, drop, refl, Bool, true, false, cond, ◌⊎◌, inl, inr, Option, Some, None, Ok, sym, ap, ◌∙◌, arith, subst, nat_lt}
use Rattle.std.specs.Prelude.{codes}
use Rattle.std.specs.Str.{bytes_eq}
use Rattle.md_hlds.specs.declared.types.Mode.TheVariants as mode
use Rattle.md_hlds.specs.declared.types.Det.TheVariants as det
use Rattle.md_hlds.specs.Hlds.{HldsType, named, number as int_type, text as string_type, world as io_type}
use Rattle.md_token.specs.declared.kind.Kind.TheVariants as kind
use Rattle.md_token.specs.Kinds.{same_kind}
use Rattle.md_token.specs.Token.{Lexeme}
use Rattle.md_reader.specs.Input.{Input, Parser, Outcome, ◌>>=◌, ◌>>◌, and_then, pure, refuse, limit, advance, expect, word, name, take_name, first, place, token, sees, next}
use Rattle.md_reader.specs.Rules as rule
use Rattle.md_reader.proofs.Steps.{same_itself, ok_input}
use Rattle.md_reader.proofs.Complete.{stays}
use Rattle.md_reader.proofs.SteadyRules.{functor_steady}
use Rattle.md_reader.proofs.Fills.{upon, Or, Every, State, Law, Fill, Fills, refused_at, sequel, given}
use Rattle.md_reader.proofs.FillsTokens.{live, spelled, prefix_live, seen_live, taken_at, taken_whole, over_at, filled_by, not_less, expects, words, names, take_name_at}
use Rattle.md_reader.proofs.FillsLists.{law_like, fill_like, perhaps, Lists, lists, excess}
use Rattle.md_reader.proofs.FillsTurns.{Loop, turns}

-- ---- words by their bytes

module _ {A : Type 0} (S : State) (K : Lexeme → Type 0) (f : List ℕ → Option A) (none : f [] ≡ None) (w : List ℕ) (v : A) (known : f w ≡ Some v) (p : Parser A) (is : (i : Input) → p i ≡ rule.take_word (f (token i).text) i) where
  word_prefix : (ts : List Lexeme) (x : A) → f (first ts).text ≡ Some x → ts ≡ first ts ∷ drop 1 ts
  word_prefix [] x e = absurd (let q = sym none ∙ e in cc)
  word_prefix (t ∷ ts) x e = refl

  coded_fill : (F : Lexeme → Type 0) (i : Input) → F (spelled kind.Name w i) → S i.home i.vars → Fill (λ _. S) F K (λ n. p) i
  unfolding token next
  coded_fill F i g s = filled_by (λ _. S) F K (λ n. p) i (spelled kind.Name w i) v i.vars 0 g s (λ n tail le. is (upon n (spelled kind.Name w i ∷ tail) i) ∙ rw known refl)

  coded_by : (i : Input) (o : Option A) → f (token i).text ≡ o → S i.home i.vars → Law (λ _. S) Every K (λ n. p) i (rule.take_word o i)
  unfolding token next
  coded_by i None e s = refused_at (λ _. S) Every K (λ n. p) i (coded_fill (Or Every i) i (inl tt) s) (λ n later. (place (upon n (first i.rest ∷ later) i), is (upon n (first i.rest ∷ later) i) ∙ rw e refl))
  coded_by i (Some x) e s = taken_whole (λ _. S) Every K (λ n. p) i x i.vars 0 (λ n tail le. is (upon n (first i.rest ∷ tail) i) ∙ rw e refl) (word_prefix i.rest x e) s

  pub coded : Fills S (λ _. S) Every K p (λ n. p)
  coded = record {
    law = λ i s. subst (λ (r : Outcome A). Law (λ _. S) Every K (λ n. p) i r) (sym (is i)) (coded_by i (f (token i).text) refl s);
    fill = λ i s. coded_fill Every i tt s;
  }

pub mode_words : (S : State) (K : Lexeme → Type 0) → Fills S (λ _. S) Every K rule.mode_word (λ n. rule.mode_word)
unfolding rule.mode_word
mode_words S K = coded S K rule.mode_named refl (codes "in") mode.In refl rule.mode_word (λ i. refl)

pub determinisms : (S : State) (K : Lexeme → Type 0) → Fills S (λ _. S) Every K rule.determinism (λ n. rule.determinism)
unfolding rule.determinism
determinisms S K = coded S K rule.det_named refl (codes "det") det.Det refl rule.determinism (λ i. refl)

pub ho_modes : (S : State) (K : Lexeme → Type 0) → Fills S (λ _. S) Every K rule.ho_mode (λ n. rule.ho_mode)
unfolding rule.ho_mode
ho_modes S K = coded S K rule.ho_mode_named refl (codes "in") mode.In refl rule.ho_mode (λ i. refl)

-- ---- types

module _ (S : State) (F K : Lexeme → Type 0) (i : Input) (s : S i.home i.vars) where
  simple_type_fill : (G : Lexeme → Type 0) → G (spelled kind.Name (codes "int") i) → Fill (λ _. S) G K (λ n. rule.simple_type) i
  unfolding rule.simple_type sees token next
  simple_type_fill G f = filled_by (λ _. S) G K (λ n. rule.simple_type) i (spelled kind.Name (codes "int") i) int_type i.vars 0 f s (λ n tail le. rw (same_itself kind.Name) refl)

  own_by : (b : Bool) → sees kind.Name i ≡ true → bytes_eq (token i).text (codes "int") ≡ false → bytes_eq (token i).text (codes "string") ≡ false → bytes_eq (token i).text (codes "io") ≡ false
      → Law (λ _. S) F K (λ n. rule.simple_type) i (and_then (cond b (limit i) (Ok ((token i).text, next i))) (λ n. pure (named n)))
  unfolding rule.simple_type take_name sees token next
  own_by true e x y z = over_at (λ _. S) F K (λ n. rule.simple_type) i (named (first i.rest).text) i.vars (length (first i.rest).text) (λ n tail le. rw (e, x, y, z, not_less n (length (first i.rest).text) le) refl) s
  own_by false e x y z = taken_at (λ _. S) F K (λ n. rule.simple_type) i (named (first i.rest).text) i.vars (length (first i.rest).text) (λ n tail le. rw (e, x, y, z, not_less n (length (first i.rest).text) le) refl) (seen_live kind.Name i e refl) s

  simple_type_named_by : (a b c : Bool) → sees kind.Name i ≡ true → bytes_eq (token i).text (codes "int") ≡ a → bytes_eq (token i).text (codes "string") ≡ b → bytes_eq (token i).text (codes "io") ≡ c
      → Law (λ _. S) F K (λ n. rule.simple_type) i (cond a (advance >> pure int_type) (cond b (advance >> pure string_type) (cond c (advance >> pure io_type) (take_name (token i).text >>= (λ n. pure (named n))))) i)
  unfolding rule.simple_type take_name sees token next
  simple_type_named_by true b c e x y z = taken_at (λ _. S) F K (λ n. rule.simple_type) i int_type i.vars 0 (λ n tail le. rw (e, x) refl) (seen_live kind.Name i e refl) s
  simple_type_named_by false true c e x y z = taken_at (λ _. S) F K (λ n. rule.simple_type) i string_type i.vars 0 (λ n tail le. rw (e, x, y) refl) (seen_live kind.Name i e refl) s
  simple_type_named_by false false true e x y z = taken_at (λ _. S) F K (λ n. rule.simple_type) i io_type i.vars 0 (λ n tail le. rw (e, x, y, z) refl) (seen_live kind.Name i e refl) s
  simple_type_named_by false false false e x y z = own_by (nat_lt i.limits.items (length (token i).text)) e x y z

  simple_type_by : (b : Bool) → sees kind.Name i ≡ b → Fill (λ _. S) (Or F i) K (λ n. rule.simple_type) i → Law (λ _. S) F K (λ n. rule.simple_type) i (cond b (rule.simple_type_named (token i).text i) (refuse i))
  unfolding rule.simple_type sees token
  simple_type_by true e c = simple_type_named_by (bytes_eq (token i).text (codes "int")) (bytes_eq (token i).text (codes "string")) (bytes_eq (token i).text (codes "io")) e refl refl refl
  simple_type_by false e c = refused_at (λ _. S) F K (λ n. rule.simple_type) i c (λ n later. (place (upon n (first i.rest ∷ later) i), rw e refl))

pub simple_type_words : (S : State) (F K : Lexeme → Type 0) → ((i : Input) → F (spelled kind.Name (codes "int") i)) → Fills S (λ _. S) F K rule.simple_type (λ n. rule.simple_type)
unfolding rule.simple_type
simple_type_words S F K f = record {
  law = λ i s. simple_type_by S F K i s (sees kind.Name i) refl (simple_type_fill S F K i s (Or F i) (inl (f i)));
  fill = λ i s. simple_type_fill S F K i s F (f i);
}

-- ---- names that are declared

module _ (S : State) (K : Lexeme → Type 0) (i : Input) (s : S i.home i.vars) where
  type_name_fill : (F : Lexeme → Type 0) → F (spelled kind.Name (codes "a") i) → Fill (λ _. S) F K (λ n. rule.type_name) i
  unfolding rule.type_name name take_name sees token next
  type_name_fill F f = filled_by (λ _. S) F K (λ n. rule.type_name) i (spelled kind.Name (codes "a") i) (codes "a") i.vars 1 f s (λ n tail le. rw (same_itself kind.Name, not_less n 1 le) refl)

  type_name_by : (a b : Bool) → rule.is_own_type (token i).text ≡ a → sees kind.Name i ≡ b → Law (λ _. S) Every K (λ n. rule.type_name) i (cond a (cond b (take_name (token i).text i) (refuse i)) (refuse i))
  unfolding rule.type_name name sees token
  type_name_by true true e f = take_name_at (λ home vars. S home vars) Every K (λ n. rule.type_name) i (seen_live kind.Name i f refl) s (λ n tail. rw (e, f) refl)
  type_name_by true false e f = refused_at (λ _. S) Every K (λ n. rule.type_name) i (type_name_fill (Or Every i) (inl tt)) (λ n later. (place (upon n (first i.rest ∷ later) i), rw (e, f) refl))
  type_name_by false b e f = refused_at (λ _. S) Every K (λ n. rule.type_name) i (type_name_fill (Or Every i) (inl tt)) (λ n later. (place (upon n (first i.rest ∷ later) i), rw e refl))

pub type_names : (S : State) (K : Lexeme → Type 0) → Fills S (λ _. S) Every K rule.type_name (λ n. rule.type_name)
unfolding rule.type_name name
type_names S K = record {
  law = λ i s. type_name_by S K i s (rule.is_own_type (token i).text) (sees kind.Name i) refl refl;
  fill = λ i s. type_name_fill S K i s Every tt;
}

-- ---- lists of types

-- a token that was taken
pub one_token : (ts us : List Lexeme) → live (first ts).kind ≡ true → us ≡ drop 1 ts → ts ≡ first ts ∷ us
one_token ts us l e = prefix_live ts l ∙ ap (λ (vs : List Lexeme). first ts ∷ vs) (sym e)

own_behind : (b : Bool) (w : List ℕ) (t : HldsType) (i j : Input) → and_then (cond b (limit i) (Ok (w, next i))) (λ n. pure (named n)) ≡ Ok (t, j) → next i ≡ j
own_behind true w t i j h = absurd (cc)
own_behind false w t i j h = ok_input (named w) t (next i) j h

named_behind : (a b c : Bool) (w : List ℕ) (t : HldsType) (i j : Input) → cond a (advance >> pure int_type) (cond b (advance >> pure string_type) (cond c (advance >> pure io_type) (take_name w >>= (λ n. pure (named n))))) i ≡ Ok (t, j) → next i ≡ j
unfolding take_name
named_behind true b c w t i j h = ok_input int_type t (next i) j h
named_behind false true c w t i j h = ok_input string_type t (next i) j h
named_behind false false true w t i j h = ok_input io_type t (next i) j h
named_behind false false false w t i j h = own_behind (nat_lt i.limits.items (length w)) w t i j h

simple_type_behind : (b : Bool) (t : HldsType) (i j : Input) → sees kind.Name i ≡ b → cond b (rule.simple_type_named (token i).text i) (refuse i) ≡ Ok (t, j) → i.rest ≡ first i.rest ∷ j.rest
unfolding next
simple_type_behind true t i j e h = one_token i.rest j.rest (seen_live kind.Name i e refl) (sym (ap (λ (m : Input). m.rest) (named_behind (bytes_eq (token i).text (codes "int")) (bytes_eq (token i).text (codes "string")) (bytes_eq (token i).text (codes "io")) (token i).text t i j h)))
simple_type_behind false t i j e h = absurd (cc)

pub simple_type_one : (t : HldsType) (i j : Input) → rule.simple_type i ≡ Ok (t, j) → i.rest ≡ first i.rest ∷ j.rest
unfolding rule.simple_type
simple_type_one t i j h = simple_type_behind (sees kind.Name i) t i j refl h

simple_type_lists : (S : State) → Lists (λ _. rule.simple_type) (λ ts t. ts ++ t ∷ []) (λ ts t. ts ++ t ∷ []) kind.Close rule.simple_types_from (λ _. S) (λ _. S) Every
unfolding rule.simple_types_from same_kind
simple_type_lists S = record {
  more = λ n x i. refl;
  lives = refl;
  differ = refl;
  items = λ _. simple_type_words S Every Every (λ i. tt);
  posts = λ x a home vars s. s;
}

simple_types_within : (S : State) (K : Lexeme → Type 0) (n c : ℕ) (ts : List HldsType) → Fills S (λ _. S) Every K (rule.simple_types_from n ts) (λ m. rule.simple_types_from (m - c) ts)
unfolding rule.simple_types_from
simple_types_within S K n c ts =
    lists (λ _. rule.simple_type) (λ ts t. ts ++ t ∷ []) (λ ts t. ts ++ t ∷ []) kind.Close rule.simple_types_from (λ _. S) (λ _. S) Every (simple_type_lists S) K
    (excess (λ _. rule.simple_type) (λ ts t. ts ++ t ∷ []) (λ ts t. ts ++ t ∷ []) kind.Close rule.simple_types_from (λ _. S) (λ _. S) Every (simple_type_lists S) K (λ x t i j h. simple_type_one t i j h) (λ x i. refl))
    n c ts

same_limit : {A : Type 0} (from : ℕ → Parser A) (n : ℕ) (i : Input) → from n i ≡ from (n - 0) i
same_limit from n i = let e : n ≡ n - 0 = omega arith in ap (λ (m : ℕ). from m i) e

-- a rule with the limit of its place
pub limited : {A : Type 0} (S : State) (R : A → State) (F K : Lexeme → Type 0) (from : ℕ → Parser A) → ((n : ℕ) → Fills S R F K (from n) (λ m. from (m - 0))) → Fills S R F K (λ i. from i.limits.items i) (λ m i. from i.limits.items i)
limited S R F K from f = record {
  law = λ i s. law_like R F K (λ m i. from i.limits.items i) (λ m. from (m - 0)) i 0 (from i.limits.items i) (λ n ts le fit. same_limit from n (upon n ts i)) ((f i.limits.items).law i s);
  fill = λ i s. fill_like R F K (λ m i. from i.limits.items i) (λ m. from (m - 0)) i 0 (λ n ts le fit. same_limit from n (upon n ts i)) ((f 0).fill i s);
}

pub simple_types : (S : State) (K : Lexeme → Type 0) → Fills S (λ _. S) Every K rule.simple_types (λ n. rule.simple_types)
simple_types S K = limited S (λ _. S) Every K (λ n. rule.simple_types_from n []) (λ n. simple_types_within S K n 0 [])

-- what may stand behind a functor
abbrev pub Behind : Lexeme → Type 0
Behind t = (t.kind ≡ kind.Semicolon) ⊎ (t.kind ≡ kind.End)

behind_differs : (t : Lexeme) → Behind t → same_kind t.kind kind.Open ≡ false
unfolding same_kind
behind_differs t (inl e) = rw e refl
behind_differs t (inr e) = rw e refl

functor_arguments : (S : State) → Fills S (λ _. S) Behind Behind rule.functor_arguments (λ n. rule.functor_arguments)
unfolding rule.functor_arguments
functor_arguments S = perhaps S (λ _. S) Behind Behind kind.Open rule.simple_types (pure []) (λ n. rule.simple_types) (λ n. pure []) refl behind_differs (simple_types S Behind) (given S (λ _. S) Behind [] (λ home vars s. s))

functors_one : (S : State) → Fills S (λ _. S) Every Behind rule.functor (λ n. rule.functor)
unfolding rule.functor
functors_one S =
    sequel S (λ _. S) (λ _. S) Every Behind Behind name _ (names S Behind)
    (λ f. sequel S (λ _. S) (λ _. S) Behind Behind Behind rule.functor_arguments _ (functor_arguments S)
    (λ ts. given S (λ _. S) Behind (record { name = f; args = ts }) (λ home vars s. s)))

-- where there is no token, there is no name
empty_name : (ts : List Lexeme) → length ts ≡ 0 → first ts ≡ first []
empty_name [] e = refl
empty_name (t ∷ ts) e = absurd (omega (arith, e))

functor_empty : (i : Input) → length i.rest ≡ 0 → rule.functor i ≡ refuse i
unfolding rule.functor name sees token same_kind
functor_empty i e = rw (empty_name i.rest e) refl

functor_loop : Loop rule.functor kind.Semicolon (λ fs. expect kind.End >> pure fs) rule.functors_from
unfolding rule.functors_from same_kind
functor_loop = record {
  none = λ s i. refl;
  more = λ n s i. refl;
  stays = λ x i j h. stays rule.functor (functor_steady 0 []) x i j h;
  ends = functor_empty;
  stop = refl;
}

-- the end sign
abbrev pub Ends : Lexeme → Type 0
Ends t = t.kind ≡ kind.End

ends_differs : (t : Lexeme) → Ends t → same_kind t.kind kind.Semicolon ≡ false
unfolding same_kind
ends_differs t e = rw e refl

pub functors : (S : State) (K : Lexeme → Type 0) → Fills S (λ _. S) Every K rule.functors (λ n. rule.functors)
unfolding rule.functors
functors S K =
    turns (λ n. rule.functor) kind.Semicolon (λ fs. expect kind.End >> pure fs) (λ n. rule.functors_from) 0 (λ n le. functor_loop) S (λ _. S) Every Behind Ends K refl ends_differs (λ t e. inr e) (functors_one S).fill
    (λ fs. sequel S (λ _. S) (λ _. S) Ends K K (expect kind.End) (λ _. pure fs) (expects S Ends K kind.End refl (λ i. refl)) (λ _. given S (λ _. S) K fs (λ home vars s. s)))
    rule.functor rule.functors_from functor_loop (functors_one S).law []

-- ---- declarations of types

pub type_definitions : (S : State) (F K : Lexeme → Type 0) (line : ℕ) → ((i : Input) → F (spelled kind.Name (codes "type") i)) → Fills S (λ _. S) F K (rule.type_definition line) (λ n. rule.type_definition line)
unfolding rule.type_definition
type_definitions S F K line f =
    sequel S (λ _. S) (λ _. S) F Every K (word (codes "type")) _ (words S F Every (codes "type") f)
    (λ _. sequel S (λ _. S) (λ _. S) Every Every K rule.type_name _ (type_names S Every)
    (λ t. sequel S (λ _. S) (λ _. S) Every Every K (expect kind.Yields) _ (expects S Every Every kind.Yields refl (λ i. tt))
    (λ _. sequel S (λ _. S) (λ _. S) Every K K rule.functors _ (functors S K)
    (λ fs. given S (λ _. S) K (record { name = t; line = line; functors = fs }) (λ home vars s. s)))))
