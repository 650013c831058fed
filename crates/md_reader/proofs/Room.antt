-- Each variable, each call site and each predicate takes a token of its own.
use Rattle.std.proofs.Common.{◌≡◌, ℕ, zero, suc, ◌+◌, ◌≤◌, ◌<◌, List, [], ◌∷◌, ◌++◌, length, length-append, length-drop, refl, Bool, true, false, cond, not, Option, Some, None, Ok, inl, inr, sym, ap, ◌∙◌, arith, nat_lt, ◌==◌}
use Rattle.std.specs.List.{list_any}
use Rattle.std.proofs.lemmas.List.{length-map}
use Rattle.md_hlds.specs.declared.goal.PredName.{PredName}
use Rattle.md_hlds.specs.Hlds.{Hlds, procedures_of}
use Rattle.md_hlds.specs.declared.program.Pred.{Pred}
use Rattle.md_token.specs.declared.kind.Kind.{Kind}
use Rattle.md_token.specs.declared.kind.Kind.TheVariants as kind
use Rattle.md_token.specs.Lexemes.{lexeme_of}
use Rattle.md_reader.specs.declared.input.Input.{Input as Cursor}
use Rattle.md_reader.specs.declared.program.Draft.{Draft}
use Rattle.md_reader.specs.Input.{Input, Parser, ◌>>=◌, and_then, pure, limit, eat, after, sees, next, token, kind_at, place_of, expect, variable, input_of}
use Rattle.md_reader.specs.Rules as rule
use Rattle.md_reader.specs.Views.{draft_of}
use Rattle.md_reader.proofs.Steps.{bind_ok, chosen, ok_input, ok_value, past_three}
use Rattle.md_reader.proofs.Taking.{expected, kind_seen, pred_kinds}
use Rattle.md_reader.proofs.FillsTokens.{live, first_live}
use Rattle.md_reader.proofs.Complete.{stays}
use Rattle.md_reader.proofs.SteadyRules.{variables_steady, arguments_steady}
use Rattle.md_reader.proofs.SteadyPrograms.{declared_rest_steady}

-- ---- rules that number no call site

abbrev Keeps : {A : Type 0} → Parser A → Type 0
Keeps {A} p = (x : A) (i j : Input) → p i ≡ Ok (x, j) → j.sites ≡ i.sites

bound : {A B : Type 0} (p : Parser A) (f : A → Parser B) → Keeps p → ((x : A) → Keeps (f x)) → Keeps (p >>= f)
bound p f P F y i k h = let b = bind_ok (p i) f (y, k) h in F b.0.0 y b.0.1 k b.2 ∙ P b.0.0 i b.0.1 b.1

given : {A : Type 0} (x : A) → Keeps (pure x)
given x y i j h = ap (λ (k : Input). k.sites) (sym (ok_input x y i j h))

either : {A : Type 0} (b : Bool) (p q : Parser A) → Keeps p → Keeps q → Keeps (cond b p q)
either true p q P Q = P
either false p q P Q = Q

next_keeps : (i : Input) → (next i).sites ≡ i.sites
unfolding next
next_keeps i = refl

expects : (k : Kind) → Keeps (expect k)
expects k line i j h = ap (λ (m : Input). m.sites) (expected k line i j h).behind ∙ next_keeps i

after_keeps : (b : Bool) (i : Input) → (cond b (next i) i).sites ≡ i.sites
after_keeps true i = next_keeps i
after_keeps false i = refl

eats : (k : Kind) → Keeps (eat k)
unfolding after
eats k b i j h = ap (λ (m : Input). m.sites) (sym (ok_input (sees k i) b (cond (sees k i) (next i) i) j h)) ∙ after_keeps (sees k i) i

a_variable : (seen : List ℕ) → Keeps (variable seen)
unfolding variable
a_variable seen x i j h =
    let p = past_three (not (sees kind.Variable i)) (list_any (λ y. y == place_of (token i).text i.vars) seen) (nat_lt i.limits.items (length (token i).text)) _ _ _ _ _ h in
    ap (λ (m : Input). m.sites) (sym (ok_input _ x _ j p.3)) ∙ next_keeps i

no_further : (seen : List ℕ) → Keeps {A = List ℕ} (λ i. and_then (variable seen i) (λ x k. limit i))
no_further seen xs i j h = let b = bind_ok (variable seen i) (λ x k. limit i) (xs, j) h in absurd (let e = b.2 in cc)

variables_from : (closing : Kind) (n : ℕ) (seen found : List ℕ) → Keeps (rule.variables_from closing n seen found)
unfolding rule.variables_from
variables_from closing zero seen found = no_further seen
variables_from closing (suc n) seen found =
    bound (variable seen) _ (a_variable seen) (λ x.
    bound (eat kind.Comma) _ (eats kind.Comma) (λ more.
    either more _ _ (variables_from closing n (seen ++ x ∷ []) (found ++ x ∷ [])) (bound (expect closing) _ (expects closing) (λ _. given (found ++ x ∷ [])))))

variables : (closing : Kind) (seen : List ℕ) → Keeps (rule.variables closing seen)
variables closing seen xs i j h = variables_from closing i.limits.items seen [] xs i j h

arguments : (seen : List ℕ) → Keeps (rule.arguments seen)
unfolding rule.arguments
arguments seen = bound (eat kind.Open) _ (eats kind.Open) (λ some. either some _ _ (variables kind.Close seen) (given []))

-- ---- rules that take a token

-- and number no call site
record Takes (i j : Input) : Type 0 where
  sites : j.sites ≡ i.sites
  rest : length j.rest + 1 ≡ length i.rest

takes_next : (i : Input) → live (kind_at i) ≡ true → Takes i (next i)
unfolding next token
takes_next i l = let some = first_live i.rest l in let d = length-drop 1 i.rest in record { sites = refl; rest = omega (arith, some, d) }

takes : (i j : Input) → j ≡ next i → live (kind_at i) ≡ true → Takes i j
takes i j e l = rw e (takes_next i l)

written_next : (o : Option rule.Written) (q : PredName) (i j : Input) → rule.take_written o i ≡ Ok (q, j) → j ≡ next i
written_next None q i j h = absurd (cc)
written_next (Some w) q i j h =
    elim (chosen (rule.is_long i.limits.items w) (limit i) (Ok (rule.meant i.home w, next i)) (Ok (q, j)) h) [
      | inl l ↦ absurd (let e = l.1 in cc)
      | inr r ↦ sym (ok_input (rule.meant i.home w) q (next i) j r.1)
    ]

pred_next : (q : PredName) (i j : Input) → rule.pred_name i ≡ Ok (q, j) → j ≡ next i
unfolding rule.pred_name
pred_next q i j h = written_next (rule.written (token i)) q i j h

pred_takes : (q : PredName) (i j : Input) → rule.pred_name i ≡ Ok (q, j) → Takes i j
pred_takes q i j h = takes i j (pred_next q i j h) (elim (pred_kinds q i j h) [ inl e ↦ ap live e | inr e ↦ ap live e ])

sign_takes : (k : Kind) (line : ℕ) (i j : Input) → live k ≡ true → expect k i ≡ Ok (line, j) → Takes i j
sign_takes k line i j l h = let t = expected k line i j h in takes i j t.behind (ap live t.is ∙ l)

-- ---- room for one more

-- a variable
pub variable_room : (a b : Cursor) → sees kind.Variable (input_of a) ≡ true → input_of b ≡ next (input_of a) → length b.scope + 1 + length b.rest.now < 4294967296
unfolding input_of next
variable_room a b h e =
    let t = takes (input_of a) (input_of b) e (ap live (kind_seen kind.Variable (input_of a) h)) in
    let m = length-map a.rest.now lexeme_of in
    let n = length-map b.rest.now lexeme_of in
    let r = t.rest in
    let v = ap (λ (i : Input). length i.vars) e in
    omega (arith, a.few, m, n, r, v)

-- a call site
abbrev HasRoom : Cursor → Type 0
HasRoom c = c.sites + 1 + length c.rest.now < 4294967296

room : (a c : Cursor) (i : Input) → Takes (input_of a) i → (input_of c).sites ≡ i.sites → length (input_of c).rest ≤ length i.rest → HasRoom c
unfolding input_of
room a c i t s l =
    let m = length-map a.rest.now lexeme_of in
    let n = length-map c.rest.now lexeme_of in
    let p = t.sites in
    let q = t.rest in
    omega (arith, a.numbered, m, n, p, q, s, l)

pub call_room : (q : PredName) (ys : List ℕ) (a b c : Cursor) → rule.pred_name (input_of a) ≡ Ok (q, input_of b) → rule.arguments [] (input_of b) ≡ Ok (ys, input_of c) → HasRoom c
call_room q ys a b c h g =
    room a c (input_of b) (pred_takes q (input_of a) (input_of b) h) (arguments [] ys (input_of b) (input_of c) g) (stays (rule.arguments []) (arguments_steady 0 [] []) ys (input_of b) (input_of c) g)

pub closure_room : (line other : ℕ) (ys : List ℕ) (a b c d : Cursor) → expect kind.Call (input_of a) ≡ Ok (line, input_of b) → expect kind.Open (input_of b) ≡ Ok (other, input_of c) → rule.variables kind.Close [] (input_of c) ≡ Ok (ys, input_of d) → HasRoom d
closure_room line other ys a b c d h g f =
    let t = sign_takes kind.Open other (input_of b) (input_of c) refl g in
    let s = stays (rule.variables kind.Close []) (variables_steady 0 [] kind.Close refl []) ys (input_of c) (input_of d) f in
    let l : length (input_of d).rest ≤ length (input_of b).rest = let r = t.rest in omega (arith, r, s) in
    room a d (input_of b) (sign_takes kind.Call line (input_of a) (input_of b) refl h) (variables kind.Close [] ys (input_of c) (input_of d) f ∙ t.sites) l

-- ---- a declaration adds a predicate at most

length_procedures_of : (ps : List Pred) → length (procedures_of ps) ≡ length ps
length_procedures_of [] = refl
length_procedures_of (p ∷ ps) = ap suc (length_procedures_of ps)

abbrev AddsOne : (before after : Hlds) → Type 0
AddsOne before after = length after.procedures ≤ length before.procedures + 1

procedure_adds : (l m : Hlds) (line : ℕ) (i j : Input) → rule.declared_procedure l line i ≡ Ok (m, j) → AddsOne l m
unfolding rule.declared_procedure rule.with_procedure
procedure_adds l m line i j h =
    let b = bind_ok (rule.procedure line i) _ (m, j) h in
    let e = ap (λ (n : Hlds). length n.procedures) (ok_value (rule.with_procedure l b.0.0) m b.0.1 j b.2) in
    let a = length-append l.procedures (b.0.0 ∷ []) in
    omega (arith, e, a)

type_adds : (l m : Hlds) (line : ℕ) (i j : Input) → rule.declared_type_definition l line i ≡ Ok (m, j) → AddsOne l m
unfolding rule.declared_type_definition rule.with_type_definition
type_adds l m line i j h =
    let b = bind_ok (rule.type_definition line i) _ (m, j) h in
    let e = ap (λ (n : Hlds). length n.procedures) (ok_value (rule.with_type_definition l b.0.0) m b.0.1 j b.2) in
    omega (arith, e)

rest_adds : (l m : Hlds) (line : ℕ) (i j : Input) → cond (sees kind.Pred i) (rule.declared_procedure l line i) (rule.declared_type_definition l line i) ≡ Ok (m, j) → AddsOne l m
rest_adds l m line i j h =
    elim (chosen (sees kind.Pred i) (rule.declared_procedure l line i) (rule.declared_type_definition l line i) (Ok (m, j)) h) [
      | inl p ↦ procedure_adds l m line i j p.1
      | inr p ↦ type_adds l m line i j p.1
    ]

declared_adds : (l m : Hlds) (i k : Input) → rule.declared l i ≡ Ok (m, k) → length m.procedures + length k.rest ≤ length l.procedures + length i.rest
unfolding rule.declared
declared_adds l m i k h =
    let b = bind_ok (expect kind.Declare i) _ (m, k) h in
    let t = sign_takes kind.Declare b.0.0 i b.0.1 refl b.1 in
    let a = rest_adds l m b.0.0 b.0.1 k b.2 in
    let s = stays _ (declared_rest_steady 0 [] l b.0.0) m b.0.1 k b.2 in
    let r = t.rest in
    omega (arith, a, s, r)

rest_length : (c : Cursor) → length (input_of c).rest ≡ length c.rest.now
unfolding input_of
rest_length c = length-map c.rest.now lexeme_of

pub declared_room : (d e : Draft) (a b : Cursor) → rule.declared (draft_of d) (input_of a) ≡ Ok (draft_of e, input_of b) → length d.preds.items + length a.rest.now < 4294967296 → length e.preds.items + length b.rest.now < 4294967296
declared_room d e a b h few =
    let r = declared_adds (draft_of d) (draft_of e) (input_of a) (input_of b) h in
    let l = length_procedures_of d.preds.items in
    let m = length_procedures_of e.preds.items in
    let p = rest_length a in
    let q = rest_length b in
    omega (arith, few, r, l, m, p, q)
