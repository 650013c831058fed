-- None of the tokens that a rule takes has more than the limits allow, and where it refuses one for a limit, that one has.
use Rattle.std.proofs.Common.{◌≡◌, ℕ, ◌≤◌, List, [], ◌∷◌, ◌++◌, length, drop, refl, Bool, true, false, cond, Ok, Err, sym, ap, ◌∙◌, subst, append_assoc}
use Rattle.md_token.specs.declared.kind.Kind.{Kind}
use Rattle.md_token.specs.Kinds.{is_final}
use Rattle.md_token.specs.Token.{Lexeme}
use Rattle.md_token.proofs.Proper.{AreProper}
use Rattle.md_reader.specs.declared.refused.Place.{Place}
use Rattle.md_reader.specs.declared.refused.Refusal.TheVariants.{Syntax, Limit, NoMemory}
use Rattle.md_reader.specs.Input.{Input, Parser, Outcome, ◌>>=◌, ◌>>◌, and_then, pure, refuse, peek, advance, eat, expect, standard, first, place, token, kind_at, sees, next, after}
use Rattle.md_reader.specs.Excess.{Point, Exceeds, AreWithin, behind, past}
use Rattle.md_reader.proofs.Steady.{at}
use Rattle.md_reader.proofs.Taking.{kind_seen}

-- ---- places

-- a place in a text, under the limits of the product
pub record Good (i : Input) : Type 0 where
  pub limits : i.limits ≡ standard
  pub proper : AreProper i.rest
  pub home : length i.home ≤ standard.items

proper_drop : (ts : List Lexeme) → AreProper ts → AreProper (drop 1 ts)
proper_drop [] h = tt
proper_drop (t ∷ ts) h = h.1

pub good_next : (i : Input) → Good i → Good (next i)
unfolding next
good_next i g = record { limits = g.limits; proper = proper_drop i.rest g.proper; home = g.home }

-- ---- what a rule does to the place

-- what is known of a place between tokens
abbrev pub State : Type 1
State = Point → Type 0

-- it took tokens that are within the limits
pub record Took {A : Type 0} (Q : A → State) (s : Point) (i : Input) (x : A) (j : Input) : Type 0 where
  pub prefix : List Lexeme
  pub whole : i.rest ≡ prefix ++ j.rest
  pub within : AreWithin standard s prefix
  pub post : Q x (past s prefix)
  pub good : Good j

-- the tokens up to the one that it refused are within the limits
pub record Broke (s : Point) (i : Input) (place : Place) : Type 0 where
  pub prefix : List Lexeme
  pub rest : List Lexeme
  pub whole : i.rest ≡ prefix ++ rest
  pub here : place ≡ at rest
  pub within : AreWithin standard s prefix

-- and the one that it refused isn't
pub record Over (s : Point) (i : Input) (place : Place) : Type 0 where
  pub broke : Broke s i place
  pub exceeds : Exceeds standard (past s broke.prefix) (first broke.rest)

abbrev pub Case : {A : Type 0} → (A → State) → Point → Input → Outcome A → Type 0
Case Q s i (Ok p) = Took Q s i p.0 p.1
Case Q s i (Err (Syntax place)) = Broke s i place
Case Q s i (Err (Limit place)) = Over s i place
Case Q s i (Err NoMemory) = ⊥

abbrev pub Keeps : {A : Type 0} → State → Parser A → (A → State) → Type 0
Keeps P p Q = (i : Input) (s : Point) → Good i → P s → Case Q s i (p i)

-- ---- tokens behind tokens

pub past_append : (s : Point) (a b : List Lexeme) → past s (a ++ b) ≡ past (past s a) b
past_append s [] b = refl
past_append s (t ∷ a) b = past_append (behind t.kind s) a b

pub within_append : (s : Point) (a b : List Lexeme) → AreWithin standard s a → AreWithin standard (past s a) b → AreWithin standard s (a ++ b)
within_append s [] b h k = k
within_append s (t ∷ a) b h k = (h.0, within_append (behind t.kind s) a b h.1 k)

whole_append : (ts prefix us more vs : List Lexeme) → ts ≡ prefix ++ us → us ≡ more ++ vs → ts ≡ (prefix ++ more) ++ vs
whole_append ts prefix us more vs e f = e ∙ (ap (λ (ws : List Lexeme). prefix ++ ws) f ∙ sym (append_assoc prefix more vs))

abbrev broke_behind : (s : Point) (i j : Input) (prefix : List Lexeme) (place : Place) → i.rest ≡ prefix ++ j.rest → AreWithin standard s prefix → Broke (past s prefix) j place → Broke s i place
broke_behind s i j prefix place e h w = record {
  prefix = prefix ++ w.prefix;
  rest = w.rest;
  whole = whole_append i.rest prefix j.rest w.prefix w.rest e w.whole;
  here = w.here;
  within = within_append s prefix w.prefix h w.within;
}

-- what a rule does behind tokens that were taken
pub case_behind : {A : Type 0} (Q : A → State) (s : Point) (i j : Input) (prefix : List Lexeme) (r : Outcome A) → i.rest ≡ prefix ++ j.rest → AreWithin standard s prefix → Case Q (past s prefix) j r → Case Q s i r
case_behind Q s i j prefix (Ok p) e h w = record {
  prefix = prefix ++ w.prefix;
  whole = whole_append i.rest prefix j.rest w.prefix p.1.rest e w.whole;
  within = within_append s prefix w.prefix h w.within;
  post = subst (Q p.0) (sym (past_append s prefix w.prefix)) w.post;
  good = w.good;
}
case_behind Q s i j prefix (Err (Syntax place)) e h w = broke_behind s i j prefix place e h w
case_behind Q s i j prefix (Err (Limit place)) e h w = record {
  broke = broke_behind s i j prefix place e h w.broke;
  exceeds = subst (λ (p : Point). Exceeds standard p (first w.broke.rest)) (sym (past_append s prefix w.broke.prefix)) w.exceeds;
}
case_behind Q s i j prefix (Err NoMemory) e h w = w

-- ---- the ways to make a rule

pub bound_at : {A B : Type 0} (Q : A → State) (R : B → State) (s : Point) (i : Input) (r : Outcome A) (f : A → Parser B) → Case Q s i r → ((x : A) → Keeps (Q x) (f x) R) → Case R s i (and_then r f)
bound_at Q R s i (Ok p) f w F = case_behind R s i p.1 w.prefix (f p.0 p.1) w.whole w.within (F p.0 p.1 (past s w.prefix) w.good w.post)
bound_at Q R s i (Err (Syntax place)) f w F = w
bound_at Q R s i (Err (Limit place)) f w F = w
bound_at Q R s i (Err NoMemory) f w F = w

pub bound : {A B : Type 0} (P : State) (Q : A → State) (R : B → State) (p : Parser A) (f : A → Parser B) → Keeps P p Q → ((x : A) → Keeps (Q x) (f x) R) → Keeps P (p >>= f) R
bound P Q R p f a b i s g h = bound_at Q R s i (p i) f (a i s g h) b

pub given_at : {A : Type 0} (Q : A → State) (x : A) (i : Input) (s : Point) → Good i → Q x s → Case Q s i (Ok (x, i))
given_at Q x i s g q = record { prefix = []; whole = refl; within = tt; post = q; good = g }

pub given : {A : Type 0} (P : State) (Q : A → State) (x : A) → ((s : Point) → P s → Q x s) → Keeps P (pure x) Q
given P Q x k i s g h = given_at Q x i s g (k s h)

pub broke_here : (s : Point) (i : Input) → Broke s i (place i)
unfolding place token
broke_here s i = record { prefix = []; rest = i.rest; whole = refl; here = refl; within = tt }

pub faulty_at : {A : Type 0} (Q : A → State) (s : Point) (i : Input) → Case Q s i (refuse i)
faulty_at Q s i = broke_here s i

pub faulty : {A : Type 0} (P : State) (Q : A → State) → Keeps {A = A} P refuse Q
faulty P Q i s g h = broke_here s i

pub over_here : (s : Point) (i : Input) → Exceeds standard s (token i) → Over s i (place i)
unfolding place token
over_here s i e = record { broke = record { prefix = []; rest = i.rest; whole = refl; here = refl; within = tt }; exceeds = e }

pub either_by : {A : Type 0} (Q : A → State) (s : Point) (i : Input) (b : Bool) (p q : Outcome A) → (b ≡ true → Case Q s i p) → (b ≡ false → Case Q s i q) → Case Q s i (cond b p q)
either_by Q s i true p q a b = a refl
either_by Q s i false p q a b = b refl

pub peeked : (P : State) → Keeps P peek (λ _. P)
peeked P i s g h = given_at (λ _. P) (token i) i s g h

pub case_wider : {A : Type 0} (Q R : A → State) (s : Point) (i : Input) (r : Outcome A) → ((x : A) (u : Point) → Q x u → R x u) → Case Q s i r → Case R s i r
case_wider Q R s i (Ok p) w a = record { prefix = a.prefix; whole = a.whole; within = a.within; post = w p.0 (past s a.prefix) a.post; good = a.good }
case_wider Q R s i (Err (Syntax place)) w a = a
case_wider Q R s i (Err (Limit place)) w a = a
case_wider Q R s i (Err NoMemory) w a = a

-- less that is known after it
pub wider : {A : Type 0} (P : State) (Q R : A → State) (p : Parser A) → ((x : A) (u : Point) → Q x u → R x u) → Keeps P p Q → Keeps P p R
wider P Q R p w a i s g h = case_wider Q R s i (p i) w (a i s g h)

-- ---- the next token is taken

prefix_is : (ts : List Lexeme) → is_final (first ts).kind ≡ false → ts ≡ first ts ∷ drop 1 ts
prefix_is [] e = absurd (cc)
prefix_is (t ∷ ts) e = refl

pub taken : {A : Type 0} (Q : A → State) (x : A) (s : Point) (i j : Input) → j.rest ≡ (next i).rest → Good j → is_final (kind_at i) ≡ false → (Exceeds standard s (token i) → ⊥) → Q x (behind (kind_at i) s) → Case Q s i (Ok (x, j))
unfolding token next
taken Q x s i j e g final within post = record {
  prefix = first i.rest ∷ [];
  whole = prefix_is i.rest final ∙ ap (λ (ts : List Lexeme). first i.rest ∷ ts) (sym e);
  within = (within, tt);
  post = post;
  good = g;
}

-- A token of this kind may be taken where P holds, and then P' does.
pub record Step (k : Kind) (P P' : State) : Type 0 where
  pub live : is_final k ≡ false
  pub within : (s : Point) (t : Lexeme) → P s → t.kind ≡ k → Exceeds standard s t → ⊥
  pub leads : (s : Point) → P s → P' (behind k s)

module _ (k : Kind) (P P' : State) (w : Step k P P') where
  taken_step : {A : Type 0} (x : A) (i : Input) (s : Point) → Good i → P s → kind_at i ≡ k → Case (λ _. P') s i (Ok (x, next i))
  taken_step x i s g h e =
      taken (λ _. P') x s i (next i) refl (good_next i g) (ap is_final e ∙ w.live) (w.within s (token i) h e)
      (subst (λ (l : Kind). P' (behind l s)) (sym e) (w.leads s h))

  pub expected : Keeps P (expect k) (λ _. P')
  unfolding expect
  expected i s g h = either_by (λ _. P') s i (sees k i) (Ok ((token i).line, next i)) (refuse i) (λ e. taken_step (token i).line i s g h (kind_seen k i e)) (λ _. broke_here s i)

  pub passed : {B : Type 0} (Q : B → State) (p : Parser B) (i : Input) (s : Point) → Good i → P s → kind_at i ≡ k → Keeps P' p Q → Case Q s i ((advance >> p) i)
  passed Q p i s g h e a = bound_at (λ _. P') Q s i (advance i) (λ _. p) (taken_step tt i s g h e) (λ _. a)

  ate : {B : Type 0} (Q : B → State) (p q : Parser B) (i : Input) (s : Point) (b : Bool) → sees k i ≡ b → Good i → P s → Keeps P' p Q → Keeps P q Q → Case Q s i (cond b p q (cond b (next i) i))
  ate Q p q i s true e g h a c = bound_at (λ _. P') Q s i (advance i) (λ _. p) (taken_step tt i s g h (kind_seen k i e)) (λ _. a)
  ate Q p q i s false e g h a c = c i s g h

  -- a token that may come next, and what follows where it does and where it doesn't
  pub perhaps : {B : Type 0} (Q : B → State) (p q : Parser B) → Keeps P' p Q → Keeps P q Q → Keeps P (eat k >>= (λ b. cond b p q)) Q
  unfolding after
  perhaps Q p q a c i s g h = ate Q p q i s (sees k i) refl g h a c

  -- a sign, and what stands behind it
  pub then : {B : Type 0} (Q : B → State) (f : ℕ → Parser B) → ((line : ℕ) → Keeps P' (f line) Q) → Keeps P (expect k >>= f) Q
  then Q f a = bound P (λ _. P') Q (expect k) f expected a

  -- the last sign
  pub ending : {A : Type 0} (Q : A → State) (x : A) → ((s : Point) → P' s → Q x s) → Keeps P (expect k >> pure x) Q
  ending Q x a = then Q (λ _. pure x) (λ _. given P' Q x a)
