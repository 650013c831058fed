-- Rules keep within the limits: those that take one token.
use Rattle.std.proofs.Common.{◌≡◌, ◌≢◌, ℕ, suc, ◌≤◌, ◌<◌, List, ◌∷◌, length, refl, Bool, true, false, cond, not, ◌&&◌, Ok, Err, sym, ap, ◌∙◌, arith, subst, nat_lt}
use Rattle.std.specs.Prelude.{⊤}
use Rattle.md_token.specs.declared.kind.Kind.{Kind}
use Rattle.md_token.specs.declared.kind.Kind.TheVariants as kind
use Rattle.md_token.specs.Kinds.{is_final}
use Rattle.md_token.specs.Token.{Lexeme}
use Rattle.md_token.specs.Literal.{number_of, string_value}
use Rattle.md_reader.specs.declared.refused.Refusal.TheVariants.{Syntax, Limit, NoMemory}
use Rattle.md_reader.specs.Input.{Input, Parser, Outcome, and_then, refuse, limit, standard, token, kind_at, place, sees, next, take_name, name}
use Rattle.md_reader.specs.Rules as rule
use Rattle.md_reader.specs.Excess.{Opened, AList, Point, opens_list, open_behind, IsTooLong, name as long_name, variable as long_variable, qualifier as long_qualifier, qualified as long_qualified, string as long_string, positive as great, negative as small, has_commas, goals, Exceeds, long, item, goal}
use Rattle.md_reader.proofs.Taking.{kind_seen}
use Rattle.md_reader.proofs.Within.{Good, good_next, State, Case, Keeps, Step, Broke, Over, broke_here, over_here, taken, wider}

-- ---- places by the last token, and what is open there

abbrev pub is_comma : Kind → Bool
is_comma kind.Comma = true
is_comma _ = false

abbrev pub is_full : List Opened → Bool
is_full o = has_commas standard.items o

pub record Sits (c : Kind → Bool) (o : List Opened) (s : Point) : Type 0 where
  pub around : s.around ≡ o
  -- the last token is one of these
  pub last : c s.last ≡ true
  -- no item too many begins there
  pub ready : (is_comma s.last && is_full o) ≡ false

abbrev pub any : Kind → Bool
any k = true

-- a goal may begin there
abbrev pub starts : Kind → Bool
starts k = not (opens_list k)

abbrev pub is_minus : Kind → Bool
is_minus kind.Minus = true
is_minus _ = false

abbrev pub unsigned : Kind → Bool
unsigned k = not (is_minus k)

not_full : (a b : Bool) → (a && b) ≡ false → a ≡ true → b ≡ true → ⊥
not_full true b e f g = absurd (cc)
not_full false b e f g = absurd (cc)

-- the token at such a place that is no item too many has no more than the limits allow
pub unexceeded : (c : Kind → Bool) (o : List Opened) (s : Point) (t : Lexeme) → Sits c o s → (IsTooLong standard s.last t → ⊥) → (t.kind ≡ kind.Open → opens_list s.last ≡ false → standard.goals ≤ goals s.around → ⊥) → Exceeds standard s t → ⊥
unexceeded c o s t w a b (long l) = a l
unexceeded c o s t w a b (item e f) = not_full (is_comma s.last) (is_full o) w.ready (ap is_comma e) (ap is_full (sym w.around) ∙ f)
unexceeded c o s t w a b (goal e f g) = b e f g

-- ---- texts that are short enough

abbrev pub Fits : Kind → (last : Kind) → List ℕ → Type 0
Fits kind.Name last text = length text ≤ standard.items
Fits kind.Variable last text = length text ≤ standard.items
Fits kind.Qualified last text = (length (rule.qualifier_part text) ≤ standard.items) × (length (rule.name_part text) ≤ standard.items)
Fits kind.Text last text = length (string_value text) ≤ standard.bytes
Fits kind.Integer last text = (last ≢ kind.Minus → number_of text ≤ standard.integer) × (last ≡ kind.Minus → number_of text ≤ suc standard.integer)
Fits _ last text = ⊤

pub short : (last : Kind) (t : Lexeme) → Fits t.kind last t.text → IsTooLong standard last t → ⊥
short last t f (long_name e l) = let q : length t.text ≤ standard.items = subst (λ (k : Kind). Fits k last t.text) e f in absurd (omega (arith, l, q))
short last t f (long_variable e l) = let q : length t.text ≤ standard.items = subst (λ (k : Kind). Fits k last t.text) e f in absurd (omega (arith, l, q))
short last t f (long_qualifier e l) = let q : Fits kind.Qualified last t.text = subst (λ (k : Kind). Fits k last t.text) e f in let p = q.0 in absurd (omega (arith, l, p))
short last t f (long_qualified e l) = let q : Fits kind.Qualified last t.text = subst (λ (k : Kind). Fits k last t.text) e f in let p = q.1 in absurd (omega (arith, l, p))
short last t f (long_string e l) = let q : length (string_value t.text) ≤ standard.bytes = subst (λ (k : Kind). Fits k last t.text) e f in absurd (omega (arith, l, q))
short last t f (great e m l) = let q : Fits kind.Integer last t.text = subst (λ (k : Kind). Fits k last t.text) e f in let p = q.0 m in absurd (omega (arith, l, p))
short last t f (small e m l) = let q : Fits kind.Integer last t.text = subst (λ (k : Kind). Fits k last t.text) e f in let p = q.1 m in absurd (omega (arith, l, p))

-- ---- signs

-- signs that are never too long, and open no goal
abbrev pub mute : Kind → Bool
mute kind.Name = false
mute kind.Qualified = false
mute kind.Variable = false
mute kind.Integer = false
mute kind.Text = false
mute kind.Open = false
mute _ = true

mute_fits : (k last : Kind) (text : List ℕ) → mute k ≡ true → Fits k last text
mute_fits kind.Name last text e = absurd (cc)
mute_fits kind.Qualified last text e = absurd (cc)
mute_fits kind.Variable last text e = absurd (cc)
mute_fits kind.Integer last text e = absurd (cc)
mute_fits kind.Text last text e = absurd (cc)
mute_fits kind.Open last text e = absurd (cc)
mute_fits _ last text e = tt

pub open_fits : (k last : Kind) (text : List ℕ) → k ≡ kind.Open → Fits k last text
open_fits k last text e = subst (λ (l : Kind). Fits l last text) (sym e) tt

pub sign_within : (k : Kind) (c : Kind → Bool) (o : List Opened) → mute k ≡ true → (s : Point) (t : Lexeme) → Sits c o s → t.kind ≡ k → Exceeds standard s t → ⊥
sign_within k c o m s t w q =
    unexceeded c o s t w (short s.last t (mute_fits t.kind s.last t.text (ap mute q ∙ m)))
    (λ p f g. let n : mute kind.Open ≡ true = ap mute (sym p ∙ q) ∙ m in absurd (cc))

pub sign_step : (k : Kind) (c d : Kind → Bool) (o o' : List Opened) → is_final k ≡ false → mute k ≡ true → ((l : Kind) → open_behind k l o ≡ o') → d k ≡ true → (is_comma k && is_full o') ≡ false → Step k (Sits c o) (Sits d o')
sign_step k c d o o' final m leads e ready = record {
  live = final;
  within = sign_within k c o m;
  leads = λ s w. record { around = ap (open_behind k s.last) w.around ∙ leads s.last; last = e; ready = ready };
}

-- behind a name a `(` opens a list
pub list_step : (c d : Kind → Bool) (o : List Opened) → ((k : Kind) → c k ≡ true → opens_list k ≡ true) → d kind.Open ≡ true → Step kind.Open (Sits c o) (Sits d (AList 0 ∷ o))
list_step c d o names e = record {
  live = refl;
  within = λ s t w q.
      unexceeded c o s t w (short s.last t (open_fits t.kind s.last t.text q))
      (λ p f g. let n = names s.last w.last in absurd (cc));
  leads = λ s w. record { around = rw (names s.last w.last, w.around) refl; last = e; ready = refl };
}

-- ---- rules that take one token

-- kinds of tokens that open and close nothing
abbrev pub flat : Kind → Bool
flat kind.Open = false
flat kind.OpenList = false
flat kind.Close = false
flat kind.CloseList = false
flat kind.Comma = false
flat kind.Stop = false
flat kind.Bad = false
flat _ = true

flat_open : (k l : Kind) (o : List Opened) → flat k ≡ true → open_behind k l o ≡ o
flat_open kind.Open l o e = absurd (cc)
flat_open kind.OpenList l o e = absurd (cc)
flat_open kind.Close l o e = absurd (cc)
flat_open kind.CloseList l o e = absurd (cc)
flat_open kind.Comma l o e = absurd (cc)
flat_open _ l o e = refl

flat_live : (k : Kind) → flat k ≡ true → is_final k ≡ false
flat_live kind.Stop e = absurd (cc)
flat_live kind.Bad e = absurd (cc)
flat_live _ e = refl

flat_comma : (k : Kind) (b : Bool) → flat k ≡ true → (is_comma k && b) ≡ false
flat_comma kind.Comma b e = absurd (cc)
flat_comma _ b e = refl

-- the rule took one token, of such a kind
pub record Single {A : Type 0} (c : Kind → Bool) (V : A → Type 0) (last : Kind) (i : Input) (x : A) (j : Input) : Type 0 where
  pub is : (flat (kind_at i) ≡ true) × (c (kind_at i) ≡ true)
  pub fits : Fits (kind_at i) last (token i).text
  pub value : V x
  pub rest : j.rest ≡ (next i).rest
  pub good : Good j

-- or it refused one
abbrev pub Solo : {A : Type 0} → (Kind → Bool) → (A → Type 0) → Kind → Input → Outcome A → Type 0
Solo c V last i (Ok p) = Single c V last i p.0 p.1
Solo c V last i (Err (Syntax at)) = at ≡ place i
Solo c V last i (Err (Limit at)) = (at ≡ place i) × IsTooLong standard last (token i)
Solo c V last i (Err NoMemory) = ⊥

-- behind one of e the rule takes one token, which is one of c
abbrev pub One : {A : Type 0} → (e c : Kind → Bool) → (A → Type 0) → Parser A → Type 0
One e c V p = (i : Input) (last : Kind) → Good i → e last ≡ true → Solo c V last i (p i)

pub solo_by : {A : Type 0} (c : Kind → Bool) (V : A → Type 0) (last : Kind) (i : Input) (b : Bool) (p q : Outcome A) → (b ≡ true → Solo c V last i p) → (b ≡ false → Solo c V last i q) → Solo c V last i (cond b p q)
solo_by c V last i true p q a b = a refl
solo_by c V last i false p q a b = b refl

pub solo_at : {A : Type 0} (e c : Kind → Bool) (V : A → Type 0) (o : List Opened) (i : Input) (s : Point) (r : Outcome A) → Sits e o s → Solo c V s.last i r → Case (λ x u. V x × Sits c o u) s i r
solo_at e c V o i s (Ok p) w a =
    taken (λ x u. V x × Sits c o u) p.0 s i p.1 a.rest a.good (flat_live (kind_at i) a.is.0)
    (unexceeded e o s (token i) w (short s.last (token i) a.fits) (λ q f g. let n : flat kind.Open ≡ true = ap flat (sym q) ∙ a.is.0 in absurd (cc)))
    (a.value, record { around = flat_open (kind_at i) s.last s.around a.is.0 ∙ w.around; last = a.is.1; ready = flat_comma (kind_at i) (is_full o) a.is.0 })
solo_at e c V o i s (Err (Syntax at)) w a = subst (Broke s i) (sym a) (broke_here s i)
solo_at e c V o i s (Err (Limit at)) w a = subst (Over s i) (sym a.0) (over_here s i (long a.1))
solo_at e c V o i s (Err NoMemory) w a = a

pub one : {A : Type 0} (e c : Kind → Bool) (V : A → Type 0) (o : List Opened) (p : Parser A) → One e c V p → Keeps (Sits e o) p (λ x u. V x × Sits c o u)
one e c V o p a i s g w = solo_at e c V o i s (p i) w (a i s.last g w.last)

pub only : {A : Type 0} (e c : Kind → Bool) (V : A → Type 0) (o : List Opened) (p : Parser A) → One e c V p → Keeps (Sits e o) p (λ _. Sits c o)
only e c V o p a = wider (Sits e o) (λ x u. V x × Sits c o u) (λ _. Sits c o) p (λ x u h. h.1) (one e c V o p a)

-- ---- an item too many

pub record IsFull (s : Point) : Type 0 where
  pub last : s.last ≡ kind.Comma
  pub full : is_full s.around ≡ true

excess_at : {A B : Type 0} (c : Kind → Bool) (V : A → Type 0) (Q : B → State) (i : Input) (s : Point) (r : Outcome A) → IsFull s → Solo c V s.last i r → Case Q s i (and_then r (λ x j. limit i))
excess_at c V Q i s (Ok p) w a = over_here s i (item w.last w.full)
excess_at c V Q i s (Err (Syntax at)) w a = subst (Broke s i) (sym a) (broke_here s i)
excess_at c V Q i s (Err (Limit at)) w a = subst (Over s i) (sym a.0) (over_here s i (long a.1))
excess_at c V Q i s (Err NoMemory) w a = a

pub excess : {A B : Type 0} (c : Kind → Bool) (V : A → Type 0) (Q : B → State) (p : Parser A) → One any c V p → Keeps IsFull (λ i. and_then (p i) (λ x j. limit i)) Q
excess c V Q p a i s g w = excess_at c V Q i s (p i) w (a i s.last g refl)

-- ---- names

pub is_less : (m n : ℕ) → nat_lt m n ≡ true → m < n
is_less m n e = grind arith

pub is_most : (m n : ℕ) → nat_lt m n ≡ false → n ≤ m
is_most m n e = grind arith

-- the test against the limit of the place is that against the limit of the product
pub standing : (f : Input → ℕ) (i : Input) (b : Bool) (n : ℕ) (m : ℕ) → f i ≡ m → nat_lt (f i) n ≡ b → nat_lt m n ≡ b
standing f i b n m e h = ap (λ (k : ℕ). nat_lt k n) (sym e) ∙ h

pub items_at : (i : Input) → Good i → i.limits.items ≡ standard.items
items_at i g = ap (λ l. l.items) g.limits

pub named_solo : (c : Kind → Bool) → c kind.Name ≡ true → (i : Input) (last : Kind) → Good i → kind_at i ≡ kind.Name → Solo c (λ (x : List ℕ). length x ≤ standard.items) last i (take_name (token i).text i)
unfolding take_name
named_solo c named i last g e =
    let n = length (token i).text in
    solo_by c (λ (x : List ℕ). length x ≤ standard.items) last i (nat_lt i.limits.items n) (limit i) (Ok ((token i).text, next i))
    (λ h. (refl, long_name e (is_less standard.items n (standing (λ j. j.limits.items) i true n standard.items (items_at i g) h))))
    (λ h.
    let most : n ≤ standard.items = is_most standard.items n (standing (λ j. j.limits.items) i false n standard.items (items_at i g) h) in
    record {
      is = (ap flat e, ap c e ∙ named);
      fits = subst (λ (k : Kind). Fits k last (token i).text) (sym e) most;
      value = most;
      rest = refl;
      good = good_next i g;
    })

pub name_one : (c : Kind → Bool) → c kind.Name ≡ true → One any c (λ (x : List ℕ). length x ≤ standard.items) name
unfolding name
name_one c named i last g h =
    solo_by c (λ (x : List ℕ). length x ≤ standard.items) last i (sees kind.Name i) (take_name (token i).text i) (refuse i)
    (λ e. named_solo c named i last g (kind_seen kind.Name i e))
    (λ e. refl)
