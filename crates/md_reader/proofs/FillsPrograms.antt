-- What a rule took can be filled up: programs.
use Rattle.std.proofs.Common.{◌≡◌, ℕ, zero, suc, ◌≤◌, ◌<◌, List, [], ◌∷◌, length, drop, refl, Bool, true, false, cond, not, ◌&&◌, inl, inr, Ok, sym, ap, ◌∙◌, arith, subst, nat_lt}
use Rattle.std.specs.Prelude.{⊤, codes}
use Rattle.md_hlds.specs.Hlds.{Hlds}
use Rattle.md_token.specs.declared.kind.Kind.{Kind}
use Rattle.md_token.specs.declared.kind.Kind.TheVariants as kind
use Rattle.md_token.specs.Kinds.{same_kind}
use Rattle.md_token.specs.Token.{Lexeme}
use Rattle.md_token.proofs.Ends.{HasEnd}
use Rattle.md_reader.specs.Input.{Input, Parser, Outcome, ◌>>=◌, ◌>>◌, pure, refuse, expect, word, take_name, first, place, token, sees, next}
use Rattle.md_reader.specs.Rules as rule
use Rattle.md_reader.proofs.Steps.{bind_ok, same_itself}
use Rattle.md_reader.proofs.Steady.{Steady, Stands, bound, expected}
use Rattle.md_reader.proofs.SteadyPrograms.{declared_rest_steady, heading_steady}
use Rattle.md_reader.proofs.Complete.{stays, sign_fewer}
use Rattle.md_reader.proofs.Steps.{sign_of}
use Rattle.md_reader.proofs.Fills.{upon, Fit, Or, Every, Never, State, Run, Law, Fill, Fills, refused_at, bind_at, sequel, given, law_wider, done_wider, loosened, law_restated}
use Rattle.md_reader.proofs.FillsTokens.{live, spelled, prefix_live, not_less, expects, words, Home}
use Rattle.md_reader.proofs.FillsLists.{law_like}
use Rattle.md_reader.proofs.FillsTurns.{follows}
use Rattle.md_reader.proofs.FillsTypes.{type_definitions}
use Rattle.md_reader.proofs.FillsPredicates.{NotPred, forked, sees_pred, closing}
use Rattle.md_reader.proofs.FillsClauses.{procedure_at}

-- ---- the heading

-- nothing is known
abbrev pub Top : State
Top home vars = ⊤

module_live : (k : Kind) → rule.is_name k ≡ true → live k ≡ true
module_live kind.Stop e = absurd (cc)
module_live _ e = refl

both : (a b : Bool) → (a && b) ≡ true → a ≡ true
both true b h = refl
both false b h = h

-- the name of a module, which is the home from there on
abbrev homed : List ℕ → Parser (List ℕ)
homed t = take_name t >>= (λ m. rule.set_home t >> pure m)

module _ (K : Lexeme → Type 0) (i : Input) where
  abbrev Module : ℕ → Parser (List ℕ)
  Module n = rule.module_name

  module_run : (F G : Lexeme → Type 0) (t : Lexeme) (ts : List Lexeme) → F t → (rule.is_name t.kind && not (rule.is_library t.text)) ≡ true → Run F G Module i (t ∷ []) t.text (record i { rest = ts; home = t.text })
  unfolding rule.module_name take_name token next
  module_run F G t ts f e = record { bound = length t.text; runs = λ n tail le fit. rw (e, not_less n (length t.text) le) refl; starts = λ tail fit. (omega arith, f) }

  module_fill : (F : Lexeme → Type 0) → F (spelled kind.Name (codes "a") i) → Fill (λ _. Top) F K Module i
  module_fill F f = (spelled kind.Name (codes "a") i ∷ [], record { value = codes "a"; end = record i { home = codes "a" }; post = tt; run = module_run F K (spelled kind.Name (codes "a") i) i.rest f refl })

  module_by : (b c : Bool) → (rule.is_name (token i).kind && not (rule.is_library (token i).text)) ≡ b → nat_lt i.limits.items (length (token i).text) ≡ c → Law (λ _. Top) Every K Module i (cond b (homed (token i).text i) (refuse i))
  unfolding rule.module_name take_name token next place
  module_by true true e f = rw f (record { prefix = []; rest = i.rest; whole = refl; here = refl; fill = []; done = record { value = (first i.rest).text; end = record i { home = (first i.rest).text }; post = tt; run = module_run (Or Every i) K (first i.rest) i.rest (inl tt) e } })
  module_by true false e f = rw f (record { prefix = first i.rest ∷ []; whole = prefix_live i.rest (module_live (first i.rest).kind (both (rule.is_name (first i.rest).kind) (not (rule.is_library (first i.rest).text)) e)); post = tt; run = module_run (Or Every i) (Or K (record (next i) { home = (first i.rest).text })) (first i.rest) (drop 1 i.rest) (inl tt) e })
  module_by false c e f = refused_at (λ _. Top) Every K Module i (module_fill (Or Every i) (inl tt)) (λ n later. (place (upon n (first i.rest ∷ later) i), rw e refl))

module_names : (K : Lexeme → Type 0) → Fills Top (λ _. Top) Every K rule.module_name (λ n. rule.module_name)
unfolding rule.module_name
module_names K = record {
  law = λ i s. module_by K i (rule.is_name (token i).kind && not (rule.is_library (token i).text)) (nat_lt i.limits.items (length (token i).text)) refl refl;
  fill = λ i s. module_fill K i Every tt;
}

headings : Fills Top (λ _. Top) Every Every rule.heading (λ n. rule.heading)
unfolding rule.heading
headings =
    sequel Top (λ _. Top) (λ _. Top) Every Every Every (expect kind.Declare) _ (expects Top Every Every kind.Declare refl (λ i. tt))
    (λ line. sequel Top (λ _. Top) (λ _. Top) Every Every Every (word (codes "module")) _ (words Top Every Every (codes "module") (λ i. tt))
    (λ _. sequel Top (λ _. Top) (λ _. Top) Every Every Every rule.module_name (λ m. expect kind.End >> pure (record { module_name = m; module_line = line; types = []; procedures = [] })) (module_names Every)
    (λ m. closing Top Every Every kind.End (record { module_name = m; module_line = line; types = []; procedures = [] }) refl (λ i. tt))))

-- ---- declarations

abbrev IsDeclare : Lexeme → Type 0
IsDeclare t = t.kind ≡ kind.Declare

module _ (h : List ℕ) (l : Hlds) where
  abbrev either : ℕ → Parser Hlds
  either line = λ i. cond (sees kind.Pred i) (rule.declared_procedure l line i) (rule.declared_type_definition l line i)

  procedure_way : (line : ℕ) (i : Input) → sees kind.Pred i ≡ true → Home h i.home i.vars → Law (λ _. Home h) Never Every (λ n. rule.declared_procedure l line) i (rule.declared_procedure l line i)
  unfolding rule.declared_procedure
  procedure_way line i e s =
      bind_at (λ _. Home h) (λ _. Home h) Never Every Every (λ n. rule.procedure line) (λ p n. pure (rule.with_procedure l p)) i (rule.procedure line i) (λ p. pure (rule.with_procedure l p)) (procedure_at h Every line i (sees_pred i e) s)
      (λ p j r q. (given (Home h) (λ _. Home h) Every (rule.with_procedure l p) (λ home vars s. s)).law j q) (λ p j q. (given (Home h) (λ _. Home h) Every (rule.with_procedure l p) (λ home vars s. s)).fill j q)

  type_definition_way : (line : ℕ) → Fills (Home h) (λ _. Home h) NotPred Every (rule.declared_type_definition l line) (λ n. rule.declared_type_definition l line)
  unfolding rule.declared_type_definition same_kind
  type_definition_way line = sequel (Home h) (λ _. Home h) (λ _. Home h) NotPred Every Every (rule.type_definition line) (λ t. pure (rule.with_type_definition l t)) (type_definitions (Home h) NotPred Every line (λ i. refl)) (λ t. given (Home h) (λ _. Home h) Every (rule.with_type_definition l t) (λ home vars s. s))

  ways : (line : ℕ) → Fills (Home h) (λ _. Home h) Every Every (either line) (λ n. either line)
  ways line =
      loosened (Home h) (λ _. Home h) NotPred Every Every (either line) (λ n. either line) (λ t e. tt)
      (forked (Home h) (λ _. Home h) NotPred Every kind.Pred (rule.declared_procedure l line) (rule.declared_type_definition l line) (λ t e. e) (λ i e s. procedure_way line i e s) (type_definition_way line))

  declareds : Fills (Home h) (λ _. Home h) IsDeclare Every (rule.declared l) (λ n. rule.declared l)
  unfolding rule.declared
  declareds = sequel (Home h) (λ _. Home h) (λ _. Home h) IsDeclare Every Every (expect kind.Declare) either (expects (Home h) IsDeclare Every kind.Declare refl (λ i. refl)) ways

-- ---- all declarations

-- the declarations up to the end of the text, of which the text may have none
abbrev all_from : ℕ → Hlds → Parser Hlds
all_from zero l = λ i. cond (sees kind.Stop i) (Ok (l, i)) (refuse i)
all_from (suc n) l = λ i. cond (sees kind.Stop i) (Ok (l, i)) ((rule.declared l >>= all_from n) i)

abbrev all_declared : Hlds → Parser Hlds
all_declared l = λ i. all_from (length i.rest) l i

-- a declaration takes tokens
declared_fewer : (l m : Hlds) (i j : Input) → rule.declared l i ≡ Ok (m, j) → length j.rest < length i.rest
unfolding rule.declared same_kind
declared_fewer l m i j e =
    let b = bind_ok (expect kind.Declare i) (λ line. λ k. cond (sees kind.Pred k) (rule.declared_procedure l line k) (rule.declared_type_definition l line k)) (m, j) e in
    let a = sign_fewer kind.Declare i b.0.1 (sign_of kind.Declare b.0.0 i b.0.1 b.1) refl in
    let c = stays (λ k. cond (sees kind.Pred k) (rule.declared_procedure l b.0.0 k) (rule.declared_type_definition l b.0.0 k)) (declared_rest_steady 0 [] l b.0.0) m b.0.1 j b.2 in
    omega (arith, a, c)

none_first : (ts : List Lexeme) → length ts ≡ 0 → first ts ≡ first []
none_first [] e = refl
none_first (t ∷ ts) e = absurd (omega (arith, e))

empty_stop : (i : Input) → length i.rest ≡ 0 → sees kind.Stop i ≡ true
unfolding sees token same_kind
empty_stop i e = ap (λ (t : Lexeme). same_kind t.kind kind.Stop) (none_first i.rest e)

same_else : {A : Type 0} (b : Bool) (x y z : A) → (b ≡ false → y ≡ z) → cond b x y ≡ cond b x z
same_else true x y z e = refl
same_else false x y z e = e refl

stopped : {A : Type 0} (b : Bool) (x y z : A) → b ≡ true → cond b x y ≡ cond b x z
stopped true x y z e = refl
stopped false x y z e = absurd (cc)

enough : (n m : ℕ) (l : Hlds) (i : Input) → length i.rest ≤ n → length i.rest ≤ m → all_from n l i ≡ all_from m l i
enough zero zero l i a b = refl
enough zero (suc m) l i a b = stopped (sees kind.Stop i) (Ok (l, i)) (refuse i) ((rule.declared l >>= all_from m) i) (empty_stop i (omega (arith, a)))
enough (suc n) zero l i a b = stopped (sees kind.Stop i) (Ok (l, i)) ((rule.declared l >>= all_from n) i) (refuse i) (empty_stop i (omega (arith, b)))
enough (suc n) (suc m) l i a b =
    same_else (sees kind.Stop i) (Ok (l, i)) ((rule.declared l >>= all_from n) i) ((rule.declared l >>= all_from m) i)
    (λ e. follows (rule.declared l i) (all_from n) (all_from m) (λ k j r. let f = declared_fewer l k i j r in enough n m k j (omega (arith, a, f)) (omega (arith, b, f))))

all_by : (s : ℕ) (l : Hlds) (i : Input) → length i.rest ≡ s → all_from s l i ≡ cond (sees kind.Stop i) (Ok (l, i)) ((rule.declared l >>= all_declared) i)
all_by zero l i e = stopped (sees kind.Stop i) (Ok (l, i)) (refuse i) ((rule.declared l >>= all_declared) i) (empty_stop i e)
all_by (suc s) l i e =
    same_else (sees kind.Stop i) (Ok (l, i)) ((rule.declared l >>= all_from s) i) ((rule.declared l >>= all_declared) i)
    (λ _. follows (rule.declared l i) (all_from s) all_declared (λ k j r. let f = declared_fewer l k i j r in enough s (length j.rest) k j (omega (arith, e, f)) (omega arith)))

all_is : (l : Hlds) (i : Input) → all_declared l i ≡ cond (sees kind.Stop i) (Ok (l, i)) ((rule.declared l >>= all_declared) i)
all_is l i = all_by (length i.rest) l i refl

-- ---- where the text has an end, these are the declarations

pub left_behind : {A : Type 0} (p : Parser A) → Steady 0 [] p → (x : A) (i j : Input) → p i ≡ Ok (x, j) → HasEnd i.rest → HasEnd j.rest
left_behind p P x i j e h =
    let w = P i in
    let here : j.rest ≡ w.stop = subst (Stands w.stop) e w.stands in
    subst HasEnd (sym here) (w.behind.ends h)

declared_steady : (l : Hlds) → Steady 0 [] (rule.declared l)
unfolding rule.declared
declared_steady l = bound 0 [] (expect kind.Declare) (λ line. λ k. cond (sees kind.Pred k) (rule.declared_procedure l line k) (rule.declared_type_definition l line k)) (expected 0 [] kind.Declare refl) (λ line. declared_rest_steady 0 [] l line)

pub ended_some : (ts : List Lexeme) → HasEnd ts → 0 < length ts
ended_some [] h = absurd h
ended_some (t ∷ ts) h = omega arith

ended : (n : ℕ) (l : Hlds) (i : Input) → HasEnd i.rest → length i.rest ≤ n → rule.declarations_from n l i ≡ all_from n l i
unfolding rule.declarations_from
ended zero l i h le = absurd (let s = ended_some i.rest h in omega (arith, le, s))
ended (suc n) l i h le =
    same_else (sees kind.Stop i) (Ok (l, i)) ((rule.declared l >>= rule.declarations_from n) i) ((rule.declared l >>= all_from n) i)
    (λ _. follows (rule.declared l i) (rule.declarations_from n) (all_from n) (λ k j r. let f = declared_fewer l k i j r in ended n k j (left_behind (rule.declared l) (declared_steady l) k i j r h) (omega (arith, le, f))))

abbrev pub whole_program : Parser Hlds
whole_program = rule.heading >>= all_declared

pub program_is : (i : Input) → HasEnd i.rest → rule.program i ≡ whole_program i
unfolding rule.program rule.declarations
program_is i h = follows (rule.heading i) rule.declarations all_declared (λ l j r. ended (length j.rest) l j (left_behind rule.heading (heading_steady 0 []) l i j r h) (omega arith))

-- ---- they can be filled up

abbrev pub IsStop : Lexeme → Type 0
IsStop t = t.kind ≡ kind.Stop

stop_seen : (t : Lexeme) → IsStop t → same_kind t.kind kind.Stop ≡ true
stop_seen t e = rw e (same_itself kind.Stop)

at_stop : (l : Hlds) (n : ℕ) (ts : List Lexeme) (i : Input) → same_kind (first ts).kind kind.Stop ≡ true → all_declared l (upon n ts i) ≡ Ok (l, upon n ts i)
unfolding sees token
at_stop l n ts i e = all_is l (upon n ts i) ∙ rw e refl

past_stop : (l : Hlds) (n : ℕ) (ts : List Lexeme) (i : Input) → same_kind (first ts).kind kind.Stop ≡ false → all_declared l (upon n ts i) ≡ (rule.declared l >>= all_declared) (upon n ts i)
unfolding sees token
past_stop l n ts i e = all_is l (upon n ts i) ∙ rw e refl

declare_stop : (t : Lexeme) → IsDeclare t → same_kind t.kind kind.Stop ≡ false
unfolding same_kind
declare_stop t e = rw e refl

module _ (h : List ℕ) where
  all_fill : (l : Hlds) (i : Input) → Home h i.home i.vars → Fill (λ _. Home h) IsStop IsStop (λ n. all_declared l) i
  all_fill l i s = ([], record { value = l; end = i; post = s; run = record { bound = 0; runs = λ n tail le fit. at_stop l n tail i (stop_seen (first tail) fit.1); starts = λ tail fit. fit } })

  all_more : (l : Hlds) (i : Input) → Home h i.home i.vars → Fill (λ _. Home h) Every IsStop (λ n. all_declared l) i
  all_more l i s = let f = all_fill l i s in (f.0, done_wider (λ _. Home h) IsStop Every IsStop (λ n. all_declared l) i f.0 (λ t e. tt) f.1)

  like_stop : (i : Input) (ts : List Lexeme) → same_kind (first i.rest).kind kind.Stop ≡ true → Fit (Or IsStop i) ts → same_kind (first ts).kind kind.Stop ≡ true
  like_stop i ts e fit = elim (fit.1) [
    | inl f ↦ stop_seen (first ts) f
    | inr s ↦ rw s.0 e
  ]

  like_other : (i : Input) (ts : List Lexeme) → same_kind (first i.rest).kind kind.Stop ≡ false → Fit (Or IsDeclare i) ts → same_kind (first ts).kind kind.Stop ≡ false
  like_other i ts e fit = elim (fit.1) [
    | inl f ↦ declare_stop (first ts) f
    | inr s ↦ rw s.0 e
  ]

  all_law_by : (b : Bool) (l : Hlds) (i : Input) → sees kind.Stop i ≡ b → Home h i.home i.vars → ((m : Hlds) (j : Input) → rule.declared l i ≡ Ok (m, j) → Home h j.home j.vars → Law (λ _. Home h) Every IsStop (λ n. all_declared m) j (all_declared m j))
      → Law (λ _. Home h) Every IsStop (λ n. all_declared l) i (cond b (Ok (l, i)) ((rule.declared l >>= all_declared) i))
  unfolding sees token
  all_law_by true l i e s rec = record { prefix = []; whole = refl; post = s; run = record { bound = 0; runs = λ n tail le fit. at_stop l n tail i (like_stop i tail e fit); starts = λ tail fit. (fit.0, inl tt) } }
  all_law_by false l i e s rec =
      law_wider (λ _. Home h) IsDeclare Every IsStop (λ n. all_declared l) i ((rule.declared l >>= all_declared) i) (λ t f. tt)
      (law_like (λ _. Home h) IsDeclare IsStop (λ n. all_declared l) (λ n. rule.declared l >>= all_declared) i 0 ((rule.declared l >>= all_declared) i) (λ n ts le fit. past_stop l n ts i (like_other i ts e fit))
      (bind_at (λ _. Home h) (λ _. Home h) IsDeclare Every IsStop (λ n. rule.declared l) (λ m n. all_declared m) i (rule.declared l i) all_declared ((declareds h l).law i s) (λ m j r q. rec m j r q) (λ m j q. all_more m j q)))

  all_law : (s : ℕ) (l : Hlds) (i : Input) → length i.rest ≤ s → Home h i.home i.vars → Law (λ _. Home h) Every IsStop (λ n. all_declared l) i (all_declared l i)
  all_law zero l i le q =
      subst (λ (r : Outcome Hlds). Law (λ _. Home h) Every IsStop (λ n. all_declared l) i r) (sym (all_is l i))
      (all_law_by (sees kind.Stop i) l i refl q (λ m j r u. absurd (let f = declared_fewer l m i j r in omega (arith, le, f))))
  all_law (suc s) l i le q =
      subst (λ (r : Outcome Hlds). Law (λ _. Home h) Every IsStop (λ n. all_declared l) i r) (sym (all_is l i))
      (all_law_by (sees kind.Stop i) l i refl q (λ m j r u. all_law s m j (let f = declared_fewer l m i j r in omega (arith, le, f)) u))

law_top : (h : List ℕ) (l : Hlds) (j : Input) → Law (λ _. Home h) Every IsStop (λ n. all_declared l) j (all_declared l j) → Law (λ _. Top) Every IsStop (λ n. all_declared l) j (all_declared l j)
law_top h l j w = law_restated (λ _. Home h) (λ _. Top) Every IsStop (λ n. all_declared l) j (all_declared l j) (λ x home vars s. tt) w

fill_top : (h : List ℕ) (l : Hlds) (j : Input) → Fill (λ _. Home h) Every IsStop (λ n. all_declared l) j → Fill (λ _. Top) Every IsStop (λ n. all_declared l) j
fill_top h l j c = (c.0, record { value = c.1.value; end = c.1.end; post = tt; run = c.1.run })

-- what a program begins with can be filled up to a program
pub program_law : (i : Input) → Law (λ _. Top) Every IsStop (λ n. whole_program) i (whole_program i)
program_law i =
    bind_at (λ _. Top) (λ _. Top) Every Every IsStop (λ n. rule.heading) (λ l n. all_declared l) i (rule.heading i) all_declared (headings.law i tt)
    (λ l j r q. law_top j.home l j (all_law j.home (length j.rest) l j (omega arith) refl))
    (λ l j q. fill_top j.home l j (all_more j.home l j refl))
