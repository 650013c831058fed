-- What a rule took of a list of tokens can be filled up: other tokens behind it make the rule read on to its end, where
-- the limits are wide enough.
use Rattle.std.proofs.Common.{◌≡◌, ℕ, ◌+◌, ◌≤◌, ◌<◌, List, [], ◌∷◌, ◌++◌, length, refl, ◌⊎◌, inl, inr, Ok, Err, sym, ap, ◌∙◌, arith, subst, append_assoc, length-append}
use Rattle.std.specs.Prelude.{⊤}
use Rattle.md_token.specs.Token.{Lexeme}
use Rattle.md_reader.specs.declared.refused.Place.{Place}
use Rattle.md_reader.specs.declared.refused.Refusal.TheVariants.{Syntax, Limit, NoMemory}
use Rattle.md_reader.specs.Input.{Input, Limits, Parser, Outcome, ◌>>=◌, and_then, pure, refuse, first, place, token}
use Rattle.md_reader.proofs.Steady.{at}

-- the limits that are all this number
abbrev pub all : ℕ → Limits
all n = record { items = n; goals = n; bytes = n; integer = n }

-- a place with other tokens, under these limits
abbrev pub upon : ℕ → List Lexeme → Input → Input
upon n ts i = record i { rest = ts; limits = all n }

-- there are tokens, and the first of them is one of these
abbrev pub Fit : (Lexeme → Type 0) → List Lexeme → Type 0
Fit K ts = (0 < length ts) × K (first ts)

abbrev pub Alike : Lexeme → Lexeme → Type 0
Alike t u = (t.kind ≡ u.kind) × (t.line ≡ u.line)

-- one of these, or one like the next token
abbrev pub Or : (Lexeme → Type 0) → Input → Lexeme → Type 0
Or K i t = K t ⊎ Alike t (first i.rest)

abbrev pub Every : Lexeme → Type 0
Every t = ⊤

abbrev pub Never : Lexeme → Type 0
Never t = ⊥

-- what is known of a clause's names, and of the name of the program's own module
abbrev pub State : Type 1
State = List ℕ → List (List ℕ) → Type 0

-- The rule takes these tokens, whatever stands behind them, if that begins with one of K. These and what stands behind
-- them begin with one of F.
pub record Run {A : Type 0} (F K : Lexeme → Type 0) (P : ℕ → Parser A) (i : Input) (prefix : List Lexeme) (x : A) (j : Input) : Type 0 where
  pub bound : ℕ
  pub runs : (n : ℕ) (tail : List Lexeme) → bound ≤ n → Fit K tail → P n (upon n (prefix ++ tail) i) ≡ Ok (x, upon n tail j)
  pub starts : (tail : List Lexeme) → Fit K tail → Fit F (prefix ++ tail)

pub record Done {A : Type 0} (R : A → State) (F K : Lexeme → Type 0) (P : ℕ → Parser A) (i : Input) (prefix : List Lexeme) : Type 0 where
  pub value : A
  pub end : Input
  pub post : R value end.home end.vars
  pub run : Run F K P i prefix value end

-- what the rule read, it reads whatever stands behind it
pub record Took {A : Type 0} (R : A → State) (F K : Lexeme → Type 0) (P : ℕ → Parser A) (i : Input) (x : A) (j : Input) : Type 0 where
  pub prefix : List Lexeme
  pub whole : i.rest ≡ prefix ++ j.rest
  pub post : R x j.home j.vars
  pub run : Run (Or F i) (Or K j) P i prefix x j

-- the outcome is a fault for syntax
abbrev pub Stuck : {A : Type 0} → Outcome A → Type 0
Stuck r = (place : Place) × (r ≡ Err (Syntax place))

-- the tokens before a fault for syntax can be filled up; with the fault there is one whatever stands behind it
pub record Broke {A : Type 0} (R : A → State) (F K : Lexeme → Type 0) (P : ℕ → Parser A) (i : Input) (place : Place) : Type 0 where
  pub prefix : List Lexeme
  pub rest : List Lexeme
  pub whole : i.rest ≡ prefix ++ rest
  pub here : place ≡ at rest
  pub fill : List Lexeme
  pub done : Done R (Or F i) K P i (prefix ++ fill)
  pub bound : ℕ
  pub stuck : (n : ℕ) (later : List Lexeme) → bound ≤ n → Stuck (P n (upon n (prefix ++ first rest ∷ later) i))

-- the tokens up to a fault for a limit and with it can be filled up
pub record Over {A : Type 0} (R : A → State) (F K : Lexeme → Type 0) (P : ℕ → Parser A) (i : Input) (place : Place) : Type 0 where
  pub prefix : List Lexeme
  pub rest : List Lexeme
  pub whole : i.rest ≡ prefix ++ rest
  pub here : place ≡ at rest
  pub fill : List Lexeme
  pub done : Done R (Or F i) K P i (prefix ++ first rest ∷ fill)

abbrev pub Law : {A : Type 0} → (A → State) → (F K : Lexeme → Type 0) → (ℕ → Parser A) → Input → Outcome A → Type 0
Law R F K P i (Ok p) = Took R F K P i p.0 p.1
Law R F K P i (Err (Syntax place)) = Broke R F K P i place
Law R F K P i (Err (Limit place)) = Over R F K P i place
Law R F K P i (Err NoMemory) = ⊥

-- there are tokens that the rule takes
abbrev pub Fill : {A : Type 0} → (A → State) → (F K : Lexeme → Type 0) → (ℕ → Parser A) → Input → Type 0
Fill R F K P i = (fill : List Lexeme) × Done R F K P i fill

-- a rule, and what it becomes as the limits grow
pub record Fills {A : Type 0} (S : State) (R : A → State) (F K : Lexeme → Type 0) (p : Parser A) (P : ℕ → Parser A) : Type 0 where
  pub law : (i : Input) → S i.home i.vars → Law R F K P i (p i)
  pub fill : (i : Input) → S i.home i.vars → Fill R F K P i

-- ---- lists

first_filled : (prefix rest later : List Lexeme) → first (prefix ++ first rest ∷ later) ≡ first (prefix ++ rest)
first_filled [] rest later = refl
first_filled (t ∷ prefix) rest later = refl

some_filled : (prefix later : List Lexeme) (t : Lexeme) → 0 < length (prefix ++ t ∷ later)
some_filled prefix later t = let l = length-append prefix (t ∷ later) in omega (arith, l)

-- up to the fault and with it the tokens begin with what came next
pub fit_filled : (K : Lexeme → Type 0) (j : Input) (prefix rest later : List Lexeme) → j.rest ≡ prefix ++ rest → Fit (Or K j) (prefix ++ first rest ∷ later)
fit_filled K j prefix rest later e =
    let same : first (prefix ++ first rest ∷ later) ≡ first j.rest = first_filled prefix rest later ∙ sym (ap first e) in
    (some_filled prefix later (first rest), inr (ap (λ (t : Lexeme). t.kind) same, ap (λ (t : Lexeme). t.line) same))

-- ---- one rule after the other

pub joined : {A B : Type 0} (F G K : Lexeme → Type 0) (P : ℕ → Parser A) (U : A → ℕ → Parser B) (i : Input) (prefix more : List Lexeme) (x : A) (y : B) (j k : Input) → Run F G P i prefix x j → Run G K (U x) j more y k
    → Run F K (λ n. P n >>= (λ x. U x n)) i (prefix ++ more) y k
joined F G K P U i prefix more x y j k a b = record {
  bound = a.bound + b.bound;
  runs = λ n tail le fit.
      let h : P n (upon n (prefix ++ (more ++ tail)) i) ≡ Ok (x, upon n (more ++ tail) j) = a.runs n (more ++ tail) (omega (arith, le)) (b.starts tail fit) in
      let q : U x n (upon n (more ++ tail) j) ≡ Ok (y, upon n tail k) = b.runs n tail (omega (arith, le)) fit in
      rw (append_assoc prefix more tail, h) q;
  starts = λ tail fit. subst (Fit F) (sym (append_assoc prefix more tail)) (a.starts (more ++ tail) (b.starts tail fit));
}

pub done_joined : {A B : Type 0} (Q : B → State) (F G K : Lexeme → Type 0) (P : ℕ → Parser A) (U : A → ℕ → Parser B) (i : Input) (prefix more : List Lexeme) (x : A) (j : Input) → Run F G P i prefix x j → Done Q G K (U x) j more
    → Done Q F K (λ n. P n >>= (λ x. U x n)) i (prefix ++ more)
done_joined Q F G K P U i prefix more x j a b = record { value = b.value; end = b.end; post = b.post; run = joined F G K P U i prefix more x b.value j b.end a b.run }

done_moved : {A : Type 0} (R : A → State) (F K : Lexeme → Type 0) (P : ℕ → Parser A) (i : Input) (prefix more rest : List Lexeme) → Done R F K P i (prefix ++ (more ++ rest)) → Done R F K P i ((prefix ++ more) ++ rest)
done_moved R F K P i prefix more rest d = subst (λ (ts : List Lexeme). Done R F K P i ts) (sym (append_assoc prefix more rest)) d

whole_joined : (ts prefix us more vs : List Lexeme) → ts ≡ prefix ++ us → us ≡ more ++ vs → ts ≡ (prefix ++ more) ++ vs
whole_joined ts prefix us more vs a b = a ∙ (ap (λ (ws : List Lexeme). prefix ++ ws) b ∙ sym (append_assoc prefix more vs))

-- the first rule has read
after_took : {A B : Type 0} (R : A → State) (Q : B → State) (F G K : Lexeme → Type 0) (P : ℕ → Parser A) (U : A → ℕ → Parser B) (i : Input) (x : A) (j : Input) (s : Outcome B) → Took R F G P i x j → Law Q G K (U x) j s
    → Law Q F K (λ n. P n >>= (λ x. U x n)) i s
after_took R Q F G K P U i x j (Ok q) a b = record {
  prefix = a.prefix ++ b.prefix;
  whole = whole_joined i.rest a.prefix j.rest b.prefix q.1.rest a.whole b.whole;
  post = b.post;
  run = joined (Or F i) (Or G j) (Or K q.1) P U i a.prefix b.prefix x q.0 j q.1 a.run b.run;
}
after_took R Q F G K P U i x j (Err (Syntax place)) a b = record {
  prefix = a.prefix ++ b.prefix;
  rest = b.rest;
  whole = whole_joined i.rest a.prefix j.rest b.prefix b.rest a.whole b.whole;
  here = b.here;
  fill = b.fill;
  done = done_moved Q (Or F i) K (λ n. P n >>= (λ x. U x n)) i a.prefix b.prefix b.fill (done_joined Q (Or F i) (Or G j) K P U i a.prefix (b.prefix ++ b.fill) x j a.run b.done);
  bound = a.run.bound + b.bound;
  stuck = λ n later le.
      let h : P n (upon n (a.prefix ++ (b.prefix ++ first b.rest ∷ later)) i) ≡ Ok (x, upon n (b.prefix ++ first b.rest ∷ later) j) = a.run.runs n (b.prefix ++ first b.rest ∷ later) (omega (arith, le)) (fit_filled G j b.prefix b.rest later b.whole) in
      let s = b.stuck n later (omega (arith, le)) in
      (s.0, rw (append_assoc a.prefix b.prefix (first b.rest ∷ later), h) s.1);
}
after_took R Q F G K P U i x j (Err (Limit place)) a b = record {
  prefix = a.prefix ++ b.prefix;
  rest = b.rest;
  whole = whole_joined i.rest a.prefix j.rest b.prefix b.rest a.whole b.whole;
  here = b.here;
  fill = b.fill;
  done = done_moved Q (Or F i) K (λ n. P n >>= (λ x. U x n)) i a.prefix b.prefix (first b.rest ∷ b.fill) (done_joined Q (Or F i) (Or G j) K P U i a.prefix (b.prefix ++ first b.rest ∷ b.fill) x j a.run b.done);
}
after_took R Q F G K P U i x j (Err NoMemory) a b = b

pub bind_at : {A B : Type 0} (R : A → State) (Q : B → State) (F G K : Lexeme → Type 0) (P : ℕ → Parser A) (U : A → ℕ → Parser B) (i : Input) (r : Outcome A) (f : A → Parser B) → Law R F G P i r
    → ((x : A) (j : Input) → r ≡ Ok (x, j) → R x j.home j.vars → Law Q G K (U x) j (f x j))
    → ((x : A) (j : Input) → R x j.home j.vars → Fill Q G K (U x) j)
    → Law Q F K (λ n. P n >>= (λ x. U x n)) i (and_then r f)
bind_at R Q F G K P U i (Ok p) f w go fill = after_took R Q F G K P U i p.0 p.1 (f p.0 p.1) w (go p.0 p.1 refl w.post)
bind_at R Q F G K P U i (Err (Syntax place)) f w go fill =
    let c = fill w.done.value w.done.end w.done.post in
    record {
      prefix = w.prefix;
      rest = w.rest;
      whole = w.whole;
      here = w.here;
      fill = w.fill ++ c.0;
      done = subst (λ (ts : List Lexeme). Done Q (Or F i) K (λ n. P n >>= (λ x. U x n)) i ts) (append_assoc w.prefix w.fill c.0) (done_joined Q (Or F i) G K P U i (w.prefix ++ w.fill) c.0 w.done.value w.done.end w.done.run c.1);
      bound = w.bound;
      stuck = λ n later le. let s = w.stuck n later le in (s.0, rw s.1 refl);
    }
bind_at R Q F G K P U i (Err (Limit place)) f w go fill =
    let c = fill w.done.value w.done.end w.done.post in
    record {
      prefix = w.prefix;
      rest = w.rest;
      whole = w.whole;
      here = w.here;
      fill = w.fill ++ c.0;
      done = subst (λ (ts : List Lexeme). Done Q (Or F i) K (λ n. P n >>= (λ x. U x n)) i ts) (append_assoc w.prefix (first w.rest ∷ w.fill) c.0) (done_joined Q (Or F i) G K P U i (w.prefix ++ first w.rest ∷ w.fill) c.0 w.done.value w.done.end w.done.run c.1);
    }
bind_at R Q F G K P U i (Err NoMemory) f w go fill = w

pub bound : {A B : Type 0} (S : State) (R : A → State) (Q : B → State) (F G K : Lexeme → Type 0) (p : Parser A) (P : ℕ → Parser A) (f : A → Parser B) (U : A → ℕ → Parser B) → Fills S R F G p P → ((x : A) → Fills (R x) Q G K (f x) (U x))
    → Fills S Q F K (p >>= f) (λ n. P n >>= (λ x. U x n))
bound S R Q F G K p P f U a b = record {
  law = λ i s. bind_at R Q F G K P U i (p i) f (a.law i s) (λ x j e r. (b x).law j r) (λ x j r. (b x).fill j r);
  fill = λ i s.
      let c = a.fill i s in
      let d = (b c.1.value).fill c.1.end c.1.post in
      (c.0 ++ d.0, done_joined Q F G K P U i c.0 d.0 c.1.value c.1.end c.1.run d.1);
}

-- the same, of rules that the limits of their places alone change
pub sequel : {A B : Type 0} (S : State) (R : A → State) (Q : B → State) (F G K : Lexeme → Type 0) (p : Parser A) (f : A → Parser B) → Fills S R F G p (λ n. p) → ((x : A) → Fills (R x) Q G K (f x) (λ n. f x)) → Fills S Q F K (p >>= f) (λ n. p >>= f)
sequel S R Q F G K p f a b = bound S R Q F G K p (λ n. p) f (λ x n. f x) a b

-- ---- a value of no token

nothing_run : {A : Type 0} (K : Lexeme → Type 0) (x : A) (i : Input) → Run K K (λ n. pure x) i [] x i
nothing_run K x i = record { bound = 0; runs = λ n tail le fit. refl; starts = λ tail fit. fit }

pub given : {A : Type 0} (S : State) (R : A → State) (K : Lexeme → Type 0) (x : A) → ((home : List ℕ) (vars : List (List ℕ)) → S home vars → R x home vars) → Fills S R K K (pure x) (λ n. pure x)
given S R K x k = record {
  law = λ i s. record { prefix = []; whole = refl; post = k i.home i.vars s; run = nothing_run (Or K i) x i };
  fill = λ i s. ([], record { value = x; end = i; post = k i.home i.vars s; run = nothing_run K x i });
}

-- ---- a rule that refuses the next token

pub wider : {A : Type 0} (F G K : Lexeme → Type 0) (P : ℕ → Parser A) (i : Input) (prefix : List Lexeme) (x : A) (j : Input) → ((t : Lexeme) → F t → G t) → Run F K P i prefix x j → Run G K P i prefix x j
wider F G K P i prefix x j w a = record { bound = a.bound; runs = a.runs; starts = λ tail fit. let f = a.starts tail fit in (f.0, w (first (prefix ++ tail)) f.1) }

pub done_wider : {A : Type 0} (R : A → State) (F G K : Lexeme → Type 0) (P : ℕ → Parser A) (i : Input) (prefix : List Lexeme) → ((t : Lexeme) → F t → G t) → Done R F K P i prefix → Done R G K P i prefix
done_wider R F G K P i prefix w d = record { value = d.value; end = d.end; post = d.post; run = wider F G K P i prefix d.value d.end w d.run }

pub refused_at : {A : Type 0} (R : A → State) (F K : Lexeme → Type 0) (P : ℕ → Parser A) (i : Input) → Fill R (Or F i) K P i → ((n : ℕ) (later : List Lexeme) → Stuck (P n (upon n (first i.rest ∷ later) i))) → Law R F K P i (refuse i)
unfolding place token
refused_at R F K P i c s = record {
  prefix = [];
  rest = i.rest;
  whole = refl;
  here = refl;
  fill = c.0;
  done = c.1;
  bound = 0;
  stuck = λ n later le. s n later;
}

or_wider : (F G : Lexeme → Type 0) (i : Input) → ((t : Lexeme) → F t → G t) → (t : Lexeme) → Or F i t → Or G i t
or_wider F G i w t (inl f) = inl (w t f)
or_wider F G i w t (inr a) = inr a

-- where other tokens may begin it too
pub law_wider : {A : Type 0} (R : A → State) (F G K : Lexeme → Type 0) (P : ℕ → Parser A) (i : Input) (r : Outcome A) → ((t : Lexeme) → F t → G t) → Law R F K P i r → Law R G K P i r
law_wider R F G K P i (Ok p) w a = record { prefix = a.prefix; whole = a.whole; post = a.post; run = wider (Or F i) (Or G i) (Or K p.1) P i a.prefix p.0 p.1 (or_wider F G i w) a.run }
law_wider R F G K P i (Err (Syntax place)) w a = record { prefix = a.prefix; rest = a.rest; whole = a.whole; here = a.here; fill = a.fill; done = done_wider R (Or F i) (Or G i) K P i (a.prefix ++ a.fill) (or_wider F G i w) a.done; bound = a.bound; stuck = a.stuck }
law_wider R F G K P i (Err (Limit place)) w a = record { prefix = a.prefix; rest = a.rest; whole = a.whole; here = a.here; fill = a.fill; done = done_wider R (Or F i) (Or G i) K P i (a.prefix ++ first a.rest ∷ a.fill) (or_wider F G i w) a.done }
law_wider R F G K P i (Err NoMemory) w a = a

pub loosened : {A : Type 0} (S : State) (R : A → State) (F G K : Lexeme → Type 0) (p : Parser A) (P : ℕ → Parser A) → ((t : Lexeme) → F t → G t) → Fills S R F K p P → Fills S R G K p P
loosened S R F G K p P w a = record {
  law = λ i s. law_wider R F G K P i (p i) w (a.law i s);
  fill = λ i s. let c = a.fill i s in (c.0, done_wider R F G K P i c.0 w c.1);
}

-- ---- less that is known after it, or more before it

post_wider : {A : Type 0} (R Q : A → State) (F K : Lexeme → Type 0) (P : ℕ → Parser A) (i : Input) (prefix : List Lexeme) → ((x : A) (home : List ℕ) (vars : List (List ℕ)) → R x home vars → Q x home vars) → Done R F K P i prefix → Done Q F K P i prefix
post_wider R Q F K P i prefix w d = record { value = d.value; end = d.end; post = w d.value d.end.home d.end.vars d.post; run = d.run }

pub law_restated : {A : Type 0} (R Q : A → State) (F K : Lexeme → Type 0) (P : ℕ → Parser A) (i : Input) (r : Outcome A) → ((x : A) (home : List ℕ) (vars : List (List ℕ)) → R x home vars → Q x home vars) → Law R F K P i r → Law Q F K P i r
law_restated R Q F K P i (Ok p) w a = record { prefix = a.prefix; whole = a.whole; post = w p.0 p.1.home p.1.vars a.post; run = a.run }
law_restated R Q F K P i (Err (Syntax place)) w a = record { prefix = a.prefix; rest = a.rest; whole = a.whole; here = a.here; fill = a.fill; done = post_wider R Q (Or F i) K P i (a.prefix ++ a.fill) w a.done; bound = a.bound; stuck = a.stuck }
law_restated R Q F K P i (Err (Limit place)) w a = record { prefix = a.prefix; rest = a.rest; whole = a.whole; here = a.here; fill = a.fill; done = post_wider R Q (Or F i) K P i (a.prefix ++ first a.rest ∷ a.fill) w a.done }
law_restated R Q F K P i (Err NoMemory) w a = a

pub restated : {A : Type 0} (S T : State) (R Q : A → State) (F K : Lexeme → Type 0) (p : Parser A) (P : ℕ → Parser A) → ((home : List ℕ) (vars : List (List ℕ)) → T home vars → S home vars) → ((x : A) (home : List ℕ) (vars : List (List ℕ)) → R x home vars → Q x home vars) → Fills S R F K p P → Fills T Q F K p P
restated S T R Q F K p P before after a = record {
  law = λ i s. law_restated R Q F K P i (p i) after (a.law i (before i.home i.vars s));
  fill = λ i s. let c = a.fill i (before i.home i.vars s) in (c.0, post_wider R Q F K P i c.0 after c.1);
}
