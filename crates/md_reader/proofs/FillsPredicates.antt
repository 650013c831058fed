-- What a rule took can be filled up: predicates.
use Rattle.std.proofs.Common.{◌≡◌, ℕ, suc, ◌-◌, List, [], ◌∷◌, ◌++◌, length, drop, refl, Bool, true, false, cond, inl, inr, Option, Some, None, Ok, Err, sym, ap, ◌∙◌, arith, subst, length-append}
use Rattle.md_hlds.specs.declared.types.Mode.{Mode}
use Rattle.md_hlds.specs.Hlds.{HldsType, closure, gathered_types}
use Rattle.md_token.specs.declared.kind.Kind.{Kind}
use Rattle.md_token.specs.declared.kind.Kind.TheVariants as kind
use Rattle.md_token.specs.Kinds.{same_kind}
use Rattle.md_token.specs.Token.{Lexeme}
use Rattle.md_reader.specs.declared.refused.Place.{Place}
use Rattle.md_reader.specs.declared.refused.Refusal.{Refusal}
use Rattle.md_reader.specs.declared.refused.Refusal.TheVariants.{Syntax, Limit, NoMemory}
use Rattle.md_reader.specs.Input.{Input, Parser, Outcome, ◌>>=◌, ◌>>◌, and_then, pure, limit, expect, first, place, token, kind_at, sees, next}
use Rattle.md_reader.specs.Rules as rule
use Rattle.md_reader.proofs.Steps.{ok_input}
use Rattle.md_reader.proofs.Fills.{upon, Fit, Or, Every, Never, State, Done, Took, Law, Fills, bind_at, sequel, given, law_wider, done_joined, loosened}
use Rattle.md_reader.proofs.FillsTokens.{live, mark, seen_kind, expects, expect_at}
use Rattle.md_reader.proofs.FillsLists.{law_like, fill_like, perhaps, Lists, Item, Body, lists, excess, item_fill, single}
use Rattle.md_reader.proofs.FillsTypes.{mode_words, determinisms, ho_modes, simple_type_words, simple_types, simple_type_one, limited}

-- ---- one of two rules, by a sign that neither takes

module _ {A : Type 0} (S : State) (R : A → State) (F K : Lexeme → Type 0) (k : Kind) (p q : Parser A) (f : (t : Lexeme) → F t → same_kind t.kind k ≡ false) (ps : (i : Input) → sees k i ≡ true → S i.home i.vars → Law R Never K (λ n. p) i (p i)) (qs : Fills S R F K q (λ n. q)) where
  abbrev Forked : Parser A
  Forked = λ i. cond (sees k i) (p i) (q i)

  first_way : (n : ℕ) (ts : List Lexeme) (i : Input) → same_kind (first ts).kind k ≡ true → Forked (upon n ts i) ≡ p (upon n ts i)
  unfolding sees token
  first_way n ts i e = rw e refl

  other_way : (n : ℕ) (ts : List Lexeme) (i : Input) → same_kind (first ts).kind k ≡ false → Forked (upon n ts i) ≡ q (upon n ts i)
  unfolding sees token
  other_way n ts i e = rw e refl

  alike_sign : (i : Input) (ts : List Lexeme) → same_kind (first i.rest).kind k ≡ true → Fit (Or Never i) ts → same_kind (first ts).kind k ≡ true
  alike_sign i ts e fit = elim (fit.1) [
    | inl g ↦ absurd g
    | inr s ↦ rw s.0 e
  ]

  alike_other : (i : Input) (ts : List Lexeme) → same_kind (first i.rest).kind k ≡ false → Fit (Or F i) ts → same_kind (first ts).kind k ≡ false
  alike_other i ts e fit = elim (fit.1) [
    | inl g ↦ f (first ts) g
    | inr s ↦ rw s.0 e
  ]

  forked_by : (b : Bool) (i : Input) → sees k i ≡ b → S i.home i.vars → Law R F K (λ n. Forked) i (cond b (p i) (q i))
  unfolding sees token
  forked_by true i e s = law_wider R Never F K (λ n. Forked) i (p i) (λ t g. absurd g) (law_like R Never K (λ n. Forked) (λ n. p) i 0 (p i) (λ n ts le fit. first_way n ts i (alike_sign i ts e fit)) (ps i e s))
  forked_by false i e s = law_like R F K (λ n. Forked) (λ n. q) i 0 (q i) (λ n ts le fit. other_way n ts i (alike_other i ts e fit)) (qs.law i s)

  pub forked : Fills S R F K Forked (λ n. Forked)
  forked = record {
    law = λ i s. forked_by (sees k i) i refl s;
    fill = λ i s. fill_like R F K (λ n. Forked) (λ n. q) i 0 (λ n ts le fit. other_way n ts i (f (first ts) fit.1)) (qs.fill i s);
  }

-- ---- modes and insts

abbrev pub Closes : Lexeme → Type 0
Closes t = t.kind ≡ kind.Close

pub closing : {A : Type 0} (S : State) (F K : Lexeme → Type 0) (k : Kind) (x : A) → live k ≡ true → ((i : Input) → F (mark k i)) → Fills S (λ _. S) F K (expect k >> pure x) (λ n. expect k >> pure x)
closing S F K k x l f = sequel S (λ _. S) (λ _. S) F K K (expect k) (λ _. pure x) (expects S F K k l f) (λ _. given S (λ _. S) K x (λ home vars s. s))

word_behind : {A : Type 0} (f : List ℕ → Option A) → f [] ≡ None → (ts us : List Lexeme) (o : Option A) (x : A) (i j : Input) → f (first ts).text ≡ o → rule.take_word o i ≡ Ok (x, j) → (next i).rest ≡ drop 1 ts → ts ≡ first ts ∷ j.rest
word_behind f none ts us None x i j e h d = absurd (cc)
word_behind f none [] us (Some y) x i j e h d = absurd (let q = sym none ∙ e in cc)
word_behind f none (t ∷ ts) us (Some y) x i j e h d = ap (λ (vs : List Lexeme). t ∷ vs) (sym d ∙ ap (λ (m : Input). m.rest) (ok_input y x (next i) j h))

mode_one : (m : Mode) (i j : Input) → rule.mode_word i ≡ Ok (m, j) → i.rest ≡ first i.rest ∷ j.rest
unfolding rule.mode_word token next
mode_one m i j h = word_behind rule.mode_named refl i.rest [] (rule.mode_named (first i.rest).text) m i j refl h refl

mode_lists : (S : State) → Lists (λ _. rule.mode_word) (λ ms m. ms ++ m ∷ []) (λ ms m. ms ++ m ∷ []) kind.Close rule.modes_from (λ _. S) (λ _. S) Every
unfolding rule.modes_from same_kind
mode_lists S = record {
  more = λ n x i. refl;
  lives = refl;
  differ = refl;
  items = λ _. mode_words S Every;
  posts = λ x a home vars s. s;
}

modes_within : (S : State) (K : Lexeme → Type 0) (n c : ℕ) (ms : List Mode) → Fills S (λ _. S) Every K (rule.modes_from n ms) (λ m. rule.modes_from (m - c) ms)
unfolding rule.modes_from
modes_within S K n c ms =
    lists (λ _. rule.mode_word) (λ ms m. ms ++ m ∷ []) (λ ms m. ms ++ m ∷ []) kind.Close rule.modes_from (λ _. S) (λ _. S) Every (mode_lists S) K
    (excess (λ _. rule.mode_word) (λ ms m. ms ++ m ∷ []) (λ ms m. ms ++ m ∷ []) kind.Close rule.modes_from (λ _. S) (λ _. S) Every (mode_lists S) K (λ x t i j h. mode_one t i j h) (λ x i. refl))
    n c ms

modes : (S : State) (K : Lexeme → Type 0) → Fills S (λ _. S) Every K rule.modes_at_most (λ n. rule.modes_at_most)
modes S K = limited S (λ _. S) Every K (λ n. rule.modes_from n []) (λ n. modes_within S K n 0 [])

inst_modes : (S : State) (K : Lexeme → Type 0) → Fills S (λ _. S) Every K rule.inst_modes (λ n. rule.inst_modes)
unfolding rule.inst_modes
inst_modes S K =
    sequel S (λ _. S) (λ _. S) Every Every K (expect kind.Pred) _ (expects S Every Every kind.Pred refl (λ i. tt))
    (λ _. sequel S (λ _. S) (λ _. S) Every Every K (expect kind.Open) (λ _. rule.modes_at_most) (expects S Every Every kind.Open refl (λ i. tt)) (λ _. modes S K))

insts : (S : State) (K : Lexeme → Type 0) → Fills S (λ _. S) Every K rule.inst (λ n. rule.inst)
unfolding rule.inst
insts S K =
    sequel S (λ _. S) (λ _. S) Every Every K (expect kind.Open) _ (expects S Every Every kind.Open refl (λ i. tt))
    (λ _. sequel S (λ _. S) (λ _. S) Every Every K rule.inst_modes _ (inst_modes S Every)
    (λ ms. sequel S (λ _. S) (λ _. S) Every Every K (expect kind.Is) _ (expects S Every Every kind.Is refl (λ i. tt))
    (λ _. sequel S (λ _. S) (λ _. S) Every Every K rule.determinism (λ d. expect kind.Close >> pure (ms, d)) (determinisms S Every)
    (λ d. closing S Every K kind.Close (ms, d) refl (λ i. tt)))))

-- ---- arguments of a declaration

abbrev pub NotPred : Lexeme → Type 0
NotPred t = same_kind t.kind kind.Pred ≡ false

plains : (S : State) (K : Lexeme → Type 0) → Fills S (λ _. S) NotPred K rule.plain_argument (λ n. rule.plain_argument)
unfolding rule.plain_argument same_kind
plains S K =
    sequel S (λ _. S) (λ _. S) NotPred Every K rule.simple_type _ (simple_type_words S NotPred Every (λ i. refl))
    (λ t. sequel S (λ _. S) (λ _. S) Every Every K (expect kind.HasMode) _ (expects S Every Every kind.HasMode refl (λ i. tt))
    (λ _. sequel S (λ _. S) (λ _. S) Every K K rule.mode_word (λ m. pure (t, m)) (mode_words S K)
    (λ m. given S (λ _. S) K (t, m) (λ home vars s. s))))

abbrev HoRest : Parser (List HldsType)
HoRest = expect kind.Open >> (rule.simple_types >>= (λ ts. expect kind.HasMode >> pure ts))

ho_rest : (S : State) → Fills S (λ _. S) Every Every HoRest (λ n. HoRest)
ho_rest S =
    sequel S (λ _. S) (λ _. S) Every Every Every (expect kind.Open) (λ _. rule.simple_types >>= (λ ts. expect kind.HasMode >> pure ts)) (expects S Every Every kind.Open refl (λ i. tt))
    (λ _. sequel S (λ _. S) (λ _. S) Every Every Every rule.simple_types (λ ts. expect kind.HasMode >> pure ts) (simple_types S Every)
    (λ ts. closing S Every Every kind.HasMode ts refl (λ i. tt)))

ho_types_at : (S : State) (i : Input) → kind_at i ≡ kind.Pred → S i.home i.vars → Law (λ _. S) Never Every (λ n. rule.ho_types) i (rule.ho_types i)
unfolding rule.ho_types
ho_types_at S i e s =
    bind_at (λ _. S) (λ _. S) Never Every Every (λ n. expect kind.Pred) (λ _ n. HoRest) i (expect kind.Pred i) (λ _. HoRest) (expect_at S Never Every kind.Pred i refl e s)
    (λ x j r q. (ho_rest S).law j q) (λ x j q. (ho_rest S).fill j q)

abbrev HoMode : List HldsType → Parser (HldsType × Mode)
HoMode ts = rule.ho_mode >>= (λ m. rule.inst >>= (λ n. pure (closure (gathered_types ts) n.0 n.1, m)))

ho_mode_rest : (S : State) (K : Lexeme → Type 0) (ts : List HldsType) → Fills S (λ _. S) Every K (HoMode ts) (λ n. HoMode ts)
ho_mode_rest S K ts =
    sequel S (λ _. S) (λ _. S) Every Every K rule.ho_mode (λ m. rule.inst >>= (λ n. pure (closure (gathered_types ts) n.0 n.1, m))) (ho_modes S Every)
    (λ m. sequel S (λ _. S) (λ _. S) Every K K rule.inst (λ n. pure (closure (gathered_types ts) n.0 n.1, m)) (insts S K)
    (λ n. given S (λ _. S) K (closure (gathered_types ts) n.0 n.1, m) (λ home vars s. s)))

ho_argument_at : (S : State) (K : Lexeme → Type 0) (i : Input) → kind_at i ≡ kind.Pred → S i.home i.vars → Law (λ _. S) Never K (λ n. rule.ho_argument) i (rule.ho_argument i)
unfolding rule.ho_argument
ho_argument_at S K i e s =
    bind_at (λ _. S) (λ _. S) Never Every K (λ n. rule.ho_types) (λ ts n. HoMode ts) i (rule.ho_types i) HoMode (ho_types_at S i e s)
    (λ ts j r q. (ho_mode_rest S K ts).law j q) (λ ts j q. (ho_mode_rest S K ts).fill j q)

pub sees_pred : (i : Input) → sees kind.Pred i ≡ true → kind_at i ≡ kind.Pred
unfolding token
sees_pred i e = seen_kind kind.Pred i e

argument_ways : (S : State) (K : Lexeme → Type 0) → Fills S (λ _. S) NotPred K rule.argument (λ n. rule.argument)
unfolding rule.argument
argument_ways S K = forked S (λ _. S) NotPred K kind.Pred rule.ho_argument rule.plain_argument (λ t e. e) (λ i e s. ho_argument_at S K i (sees_pred i e) s) (plains S K)

pub argument_fills : (S : State) (K : Lexeme → Type 0) → Fills S (λ _. S) Every K rule.argument (λ n. rule.argument)
argument_fills S K = loosened S (λ _. S) NotPred Every K rule.argument (λ n. rule.argument) (λ t e. tt) (argument_ways S K)

-- ---- the argument after the last one that there may be

-- what stands behind the first token: the end of the text
abbrev stop : Lexeme
stop = record { kind = kind.Stop; text = []; line = 0 }

one_before : (t u : Lexeme) (prefix rest : List Lexeme) → t ∷ u ∷ [] ≡ prefix ++ rest → length rest ≡ 1 → prefix ≡ t ∷ []
one_before t u [] rest e l = absurd (let m = ap length e in omega (arith, l, m))
one_before t u (v ∷ []) rest e l = sym (ap (λ (ts : List Lexeme). first ts ∷ []) e)
one_before t u (v ∷ w ∷ prefix) rest e l = absurd (let m = ap length e in let n = length-append prefix rest in omega (arith, l, m, n))

-- a rule that is at fault behind its first token can be filled up from there
begun : {A : Type 0} (S : State) (K : Lexeme → Type 0) (p : Parser A) (i : Input) (m : ℕ) (place : Place) (r : Outcome A) → r ≡ Err (Syntax place) → place.left ≡ 1 → Law (λ _. S) Every K (λ n. p) (upon m (first i.rest ∷ stop ∷ []) i) r → (fill : List Lexeme) × Done (λ _. S) (Or Every i) K (λ n. p) i (first i.rest ∷ fill)
begun S K p i m place (Ok x) e l w = absurd (cc)
begun S K p i m place (Err (Syntax other)) e l w =
    let same : other ≡ place = cc in
    let left : length w.rest ≡ 1 = sym (ap (λ (q : Place). q.left) w.here) ∙ (ap (λ (q : Place). q.left) same ∙ l) in
    let alone : w.prefix ≡ first i.rest ∷ [] = one_before (first i.rest) stop w.prefix w.rest w.whole left in
    (w.fill, subst (λ (ts : List Lexeme). Done (λ _. S) (Or Every i) K (λ n. p) i (ts ++ w.fill)) alone (record { value = w.done.value; end = w.done.end; post = w.done.post; run = record { bound = w.done.run.bound; runs = w.done.run.runs; starts = w.done.run.starts } }))
begun S K p i m place (Err (Limit other)) e l w = absurd (cc)
begun S K p i m place (Err NoMemory) e l w = absurd (cc)

pred_begun : (S : State) (i : Input) → sees kind.Pred i ≡ true → (place : Place) × (rule.argument (upon 0 (first i.rest ∷ stop ∷ []) i) ≡ Err (Syntax place)) × (place.left ≡ 1)
unfolding rule.argument rule.ho_argument rule.ho_types expect sees token next place same_kind
pred_begun S i e = (record { line = 0; left = 1 }, rw e refl, refl)

plain_stuck : (t : HldsType) (m : ℕ) (i j : Input) → rule.simple_type (upon m (first i.rest ∷ stop ∷ []) i) ≡ Ok (t, upon m (stop ∷ []) j) → rule.plain_argument (upon m (first i.rest ∷ stop ∷ []) i) ≡ Err (Syntax (record { line = 0; left = 1 }))
unfolding rule.plain_argument expect sees token place same_kind
plain_stuck t m i j e = rw e refl

plain_begun : (S : State) (i : Input) (t : HldsType) (j : Input) → sees kind.Pred i ≡ false → Took (λ _. S) Every Every (λ n. rule.simple_type) i t j → i.rest ≡ first i.rest ∷ j.rest → (m : ℕ) × (rule.argument (upon m (first i.rest ∷ stop ∷ []) i) ≡ Err (Syntax (record { line = 0; left = 1 })))
unfolding rule.argument sees token
plain_begun S i t j e w one =
    let alone : w.prefix ≡ first i.rest ∷ [] = single w.prefix j.rest (first i.rest) (sym one ∙ w.whole) in
    let read : rule.simple_type (upon w.run.bound (w.prefix ++ stop ∷ []) i) ≡ Ok (t, upon w.run.bound (stop ∷ []) j) = w.run.runs w.run.bound (stop ∷ []) (omega arith) (omega arith, inl tt) in
    let here : rule.simple_type (upon w.run.bound (first i.rest ∷ stop ∷ []) i) ≡ Ok (t, upon w.run.bound (stop ∷ []) j) = subst (λ (ts : List Lexeme). rule.simple_type (upon w.run.bound (ts ++ stop ∷ []) i) ≡ Ok (t, upon w.run.bound (stop ∷ []) j)) alone read in
    (w.run.bound, rw e (plain_stuck t w.run.bound i j here))

abbrev more_args : List (HldsType × Mode) → HldsType × Mode → List (HldsType × Mode)
more_args xs x = xs ++ x ∷ []

argument_lists : (S : State) → Lists (λ _. rule.argument) more_args more_args kind.Close rule.arguments_from (λ _. S) (λ _. S) Every
unfolding rule.arguments_from same_kind
argument_lists S = record {
  more = λ n x i. refl;
  lives = refl;
  differ = refl;
  items = λ _. argument_fills S Every;
  posts = λ x a home vars s. s;
}

module _ (S : State) (K : Lexeme → Type 0) (c : ℕ) (xs : List (HldsType × Mode)) (i : Input) (s : S i.home i.vars) where
  abbrev Args : ℕ → Parser (List (HldsType × Mode))
  Args = Body (λ _. rule.argument) more_args more_args kind.Close rule.arguments_from (λ _. S) (λ _. S) Every c xs

  over_by : (fill : List Lexeme) × Done (λ _. S) (Or Every i) Every (λ n. rule.argument) i (first i.rest ∷ fill) → Law (λ _. S) Every K Args i (limit i)
  unfolding place token
  over_by d =
      let f = item_fill (λ _. rule.argument) more_args more_args kind.Close rule.arguments_from (λ _. S) (λ _. S) Every (argument_lists S) K c xs d.1.value d.1.end d.1.post in
      record {
        prefix = [];
        rest = i.rest;
        whole = refl;
        here = refl;
        fill = d.0 ++ f.0;
        done = done_joined (λ _. S) (Or Every i) Every K (λ n. rule.argument) (λ a m. Item (λ _. rule.argument) more_args more_args kind.Close rule.arguments_from (λ _. S) (λ _. S) Every (m - suc c) xs a) i (first i.rest ∷ d.0) f.0 d.1.value d.1.end d.1.run f.1;
      }

  pred_over : sees kind.Pred i ≡ true → Law (λ _. S) Every K Args i (limit i)
  pred_over e = let b = pred_begun S i e in over_by (begun S Every rule.argument i 0 b.0 _ b.1 b.2 ((argument_fills S Every).law (upon 0 (first i.rest ∷ stop ∷ []) i) s))

  -- where no type comes, the argument is at fault as it would be where there may be one
  plain_refused : (e : Refusal) → rule.simple_type i ≡ Err e → sees kind.Pred i ≡ false → rule.argument i ≡ Err e
  unfolding rule.argument rule.plain_argument
  plain_refused e h f = rw (f, h) refl

  simple_type_refused : (e : Refusal) → rule.simple_type i ≡ Err e → sees kind.Pred i ≡ false → Law (λ _. S) Every K Args i (Err e)
  simple_type_refused e h f =
      bind_at (λ _. S) (λ _. S) Every Every K (λ n. rule.argument) (λ a m. Item (λ _. rule.argument) more_args more_args kind.Close rule.arguments_from (λ _. S) (λ _. S) Every (m - suc c) xs a) i (Err e) (λ _. limit)
      (subst (λ (r : Outcome (HldsType × Mode)). Law (λ _. S) Every Every (λ n. rule.argument) i r) (plain_refused e h f) ((argument_fills S Every).law i s))
      (λ a j q r. absurd (cc)) (λ a j r. item_fill (λ _. rule.argument) more_args more_args kind.Close rule.arguments_from (λ _. S) (λ _. S) Every (argument_lists S) K c xs a j r)

  simple_type_over : (r : Outcome HldsType) → rule.simple_type i ≡ r → sees kind.Pred i ≡ false → Law (λ _. S) Every Every (λ n. rule.simple_type) i r → Law (λ _. S) Every K Args i (and_then r (λ t j. limit i))
  simple_type_over (Ok p) e f w =
      let b = plain_begun S i p.0 p.1 f w (simple_type_one p.0 i p.1 e) in
      over_by (begun S Every rule.argument i b.0 (record { line = 0; left = 1 }) _ b.1 refl ((argument_fills S Every).law (upon b.0 (first i.rest ∷ stop ∷ []) i) s))
  simple_type_over (Err e') e f w = simple_type_refused e' e f

  excess_forked : (b : Bool) → sees kind.Pred i ≡ b → Law (λ _. S) Every K Args i (cond b (limit i) (and_then (rule.simple_type i) (λ t j. limit i)))
  excess_forked true e = pred_over e
  excess_forked false e = simple_type_over (rule.simple_type i) refl e ((simple_type_words S Every Every (λ j. tt)).law i s)

  excess_law : Law (λ _. S) Every K Args i (rule.arguments_from 0 xs i)
  unfolding rule.arguments_from rule.excess
  excess_law = excess_forked (sees kind.Pred i) refl

arguments_within : (S : State) (K : Lexeme → Type 0) (n c : ℕ) (xs : List (HldsType × Mode)) → Fills S (λ _. S) Every K (rule.arguments_from n xs) (λ m. rule.arguments_from (m - c) xs)
arguments_within S K n c xs =
    lists (λ _. rule.argument) more_args more_args kind.Close rule.arguments_from (λ _. S) (λ _. S) Every (argument_lists S) K (λ c xs i s. excess_law S K c xs i s)
    n c xs

argument_list : (S : State) (K : Lexeme → Type 0) → Fills S (λ _. S) Every K rule.arguments_at_most (λ n. rule.arguments_at_most)
argument_list S K = limited S (λ _. S) Every K (λ n. rule.arguments_from n []) (λ n. arguments_within S K n 0 [])

-- what stands behind the arguments of a declaration
abbrev pub IsIs : Lexeme → Type 0
IsIs t = t.kind ≡ kind.Is

is_open : (t : Lexeme) → IsIs t → same_kind t.kind kind.Open ≡ false
unfolding same_kind
is_open t e = rw e refl

pub declared_arguments : (S : State) → Fills S (λ _. S) IsIs IsIs rule.declared_arguments (λ n. rule.declared_arguments)
unfolding rule.declared_arguments
declared_arguments S = perhaps S (λ _. S) IsIs IsIs kind.Open rule.arguments_at_most (pure []) (λ n. rule.arguments_at_most) (λ n. pure []) refl is_open (argument_list S IsIs) (given S (λ _. S) IsIs [] (λ home vars s. s))
