-- What the steps of the grammar do to the place: the limits stay, call sites get the next numbers, and every token has a
-- line and is whole.
use Rattle.std.specs.Prelude.{⊤}
use Rattle.std.proofs.Common.{◌≡◌, refl, sym, ap, ◌∙◌, subst, ℕ, suc, ◌+◌, ◌<◌, ◌≤◌, Bool, true, false, cond, not, ◌||◌, nat_lt, ◌==◌, List, [], ◌∷◌, ◌++◌, length, drop, Option, Some, None, IfSome, Ok, ◌⊎◌, inl, inr, arith, append-nil, length-append}
use Rattle.std.proofs.lemmas.Bool.{ltb-false}
use Rattle.std.specs.List.{list_any}
use Rattle.std.specs.Prelude.{unwrap_or}
use Rattle.std.specs.Str.{bytes_eq}
use Rattle.md_hlds.specs.declared.types.Mode.{Mode}
use Rattle.md_hlds.specs.declared.types.Det.{Det}
use Rattle.md_hlds.specs.declared.goal.PredName.{PredName}
use Rattle.md_hlds.specs.HldsGoal.{HldsGoal, At}
use Rattle.md_token.specs.declared.kind.Kind.{Kind}
use Rattle.md_token.specs.declared.kind.Kind.TheVariants as kind
use Rattle.md_token.specs.Kinds.{same_kind}
use Rattle.md_token.specs.Token.{Lexeme}
use Rattle.md_reader.specs.Input.{Input, refuse, limit, first, token, kind_at, sees, next, expect, take_name, name, word, variable, place_of, with_variable, site}
use Rattle.md_reader.specs.Rules as rule
use Rattle.md_reader.specs.Grammar.{Is, Sign}
use Rattle.md_reader.proofs.Steps.{chosen, ok_input, ok_value, past_three}
use Rattle.md_reader.proofs.Taking.{Taken, signed, expected, word_behind, pred_kinds}
use Rattle.md_trace.specs.PortHistory.{CallSite}
use Rattle.law_events.specs.Table.{AreNumberedFrom}
use Rattle.law_spelled.proofs.Names.{HasName, stop_name, AreNames, declared_names}

-- each token has a line, and the text of one that is a name is a name
abbrev pub AreSound : List Lexeme → Type 0
AreSound [] = ⊤
AreSound (t ∷ ts) = (1 ≤ t.line) × HasName t.kind t.text × AreSound ts

first_name : (ts : List Lexeme) → AreSound ts → HasName (first ts).kind (first ts).text
first_name [] l = stop_name []
first_name (t ∷ ts) l = l.1

pub name_at : (i : Input) → AreSound i.rest → HasName (token i).kind (token i).text
unfolding token
name_at i l = first_name i.rest l

-- each goal has one
abbrev pub AreLined : List HldsGoal → Type 0
AreLined [] = ⊤
AreLined (At line x ∷ gs) = (1 ≤ line) × AreLined gs

pub lined_append : (gs hs : List HldsGoal) → AreLined gs → AreLined hs → AreLined (gs ++ hs)
lined_append [] hs a b = b
lined_append (At line x ∷ gs) hs a b = (a.0, lined_append gs hs a.1 b)

pub numbered_append : (n m : ℕ) (xs ys : List (ℕ × CallSite)) → m ≡ n + length xs → AreNumberedFrom n xs → AreNumberedFrom m ys → AreNumberedFrom n (xs ++ ys)
numbered_append n m [] ys is a b = let same : n ≡ m = omega (arith, is) in rw same b
numbered_append n m (x ∷ xs) ys is a b = (a.0, numbered_append (suc n) m xs ys (omega (arith, is)) a.1 b)

-- From i to j stand goals with these call sites. Each site has a token of its own.
pub record Leads (i j : Input) (xs : List (ℕ × CallSite)) (gs : List HldsGoal) : Type 0 where
  pub limits : j.limits ≡ i.limits
  pub numbers : AreNumberedFrom i.sites xs
  pub sites : j.sites ≡ i.sites + length xs
  pub lines : AreSound i.rest → AreSound j.rest
  pub goals : AreSound i.rest → AreLined gs
  pub vars : 0 < length i.vars → 0 < length j.vars
  pub fewer : length j.rest + length xs ≤ length i.rest

-- from i to j stands no goal
abbrev pub Steady : Input → Input → Type 0
Steady i j = Leads i j [] []

pub leads_then : {i j k : Input} {xs ys : List (ℕ × CallSite)} {gs hs : List HldsGoal} → Leads i j xs gs → Leads j k ys hs → Leads i k (xs ++ ys) (gs ++ hs)
leads_then {i = i} {j = j} {xs = xs} {ys = ys} {gs = gs} {hs = hs} a b = record {
  limits = b.limits ∙ a.limits;
  numbers = numbered_append i.sites j.sites xs ys a.sites a.numbers b.numbers;
  sites = omega (arith, a.sites, b.sites, length-append xs ys);
  lines = λ l. b.lines (a.lines l);
  goals = λ l. lined_append gs hs (a.goals l) (b.goals (a.lines l));
  vars = λ v. b.vars (a.vars v);
  fewer = omega (arith, a.fewer, b.fewer, length-append xs ys);
}

-- no goal before, and none behind
pub after : {i j k : Input} {xs : List (ℕ × CallSite)} {gs : List HldsGoal} → Steady i j → Leads j k xs gs → Leads i k xs gs
after a b = leads_then a b

pub before : {i j k : Input} {xs : List (ℕ × CallSite)} {gs : List HldsGoal} → Leads i j xs gs → Steady j k → Leads i k xs gs
before {i = i} {k = k} {xs = xs} {gs = gs} a b =
    subst (λ (ys : List (ℕ × CallSite)). Leads i k ys gs) (append-nil xs) (subst (λ (hs : List HldsGoal). Leads i k (xs ++ []) hs) (append-nil gs) (leads_then a b))

-- ---- one token

pub lines_behind : (ts : List Lexeme) → AreSound ts → AreSound (drop 1 ts)
lines_behind [] l = tt
lines_behind (t ∷ ts) l = l.2

drop_fewer : (ts : List Lexeme) → length (drop 1 ts) + 0 ≤ length ts
drop_fewer [] = omega arith
drop_fewer (t ∷ ts) = omega arith

pub to_next : (i : Input) → Steady i (next i)
unfolding next
to_next i = record { limits = refl; numbers = tt; sites = omega arith; lines = λ l. lines_behind i.rest l; goals = λ l. tt; vars = λ v. v; fewer = drop_fewer i.rest }

pub to_same : (i j : Input) → i ≡ j → Steady i j
to_same i j is = subst (λ (k : Input). Steady i k) is (record { limits = refl; numbers = tt; sites = omega arith; lines = λ l. l; goals = λ l. tt; vars = λ v. v; fewer = omega arith })

pub taken_steady : (k : Kind) (i j : Input) → Taken k i j → Steady i j
taken_steady k i j t = subst (λ (m : Input). Steady i m) (sym t.behind) (to_next i)

pub sign_steady : (k : Kind) (i j : Input) → Sign k i j → Steady i j
sign_steady k i j s = taken_steady k i j (signed k i j s)

pub expect_steady : (k : Kind) (line : ℕ) (i j : Input) → Is (expect k) line i j → Steady i j
expect_steady k line i j is = taken_steady k i j (expected k line i j is)

pub word_steady : (w : List ℕ) (line : ℕ) (i j : Input) → Is (word w) line i j → Steady i j
word_steady w line i j is = taken_steady kind.Name i j (word_behind w line i j is)

-- a token that isn't the end has a line
line_by : (ts : List Lexeme) → same_kind (first ts).kind kind.Stop ≡ false → AreSound ts → 1 ≤ (first ts).line
unfolding same_kind
line_by [] not_stop l = absurd (cc)
line_by (t ∷ ts) not_stop l = l.0

pub line_at : (k : Kind) (i : Input) → kind_at i ≡ k → same_kind k kind.Stop ≡ false → AreSound i.rest → 1 ≤ (token i).line
unfolding token
line_at k i is not_stop l = line_by i.rest (ap (λ (x : Kind). same_kind x kind.Stop) is ∙ not_stop) l

-- ---- names

pub taken_name : (text : List ℕ) (x : List ℕ) (i j : Input) → take_name text i ≡ Ok (x, j) → Steady i j × (length x ≤ i.limits.items)
unfolding take_name
taken_name text x i j is =
    elim (chosen (nat_lt i.limits.items (length text)) (limit i) (Ok (text, next i)) (Ok (x, j)) is) [
      | inl l ↦ absurd (let e = l.1 in cc)
      | inr r ↦
          let same : text ≡ x = ok_value text x (next i) j r.1 in (
            subst (λ (m : Input). Steady i m) (ok_input text x (next i) j r.1) (to_next i),
            subst (λ (y : List ℕ). length y ≤ i.limits.items) same (ltb-false i.limits.items (length text) r.0),
          )
    ]

-- it is the token's text
pub taken_text : (text : List ℕ) (x : List ℕ) (i j : Input) → take_name text i ≡ Ok (x, j) → text ≡ x
unfolding take_name
taken_text text x i j is =
    elim (chosen (nat_lt i.limits.items (length text)) (limit i) (Ok (text, next i)) (Ok (x, j)) is) [
      | inl l ↦ absurd (let e = l.1 in cc)
      | inr r ↦ ok_value text x (next i) j r.1
    ]

pub name_is : (x : List ℕ) (i j : Input) → Is name x i j → Steady i j × (length x ≤ i.limits.items)
unfolding name
name_is x i j is =
    elim (chosen (sees kind.Name i) (take_name (token i).text i) (refuse i) (Ok (x, j)) is) [
      | inl l ↦ taken_name (token i).text x i j l.1
      | inr r ↦ absurd (let e = r.1 in cc)
    ]

neither : (a b : Bool) → (a || b) ≡ false → (a ≡ false) × (b ≡ false)
neither true b is = absurd (cc)
neither false b is = (refl, is)

short_qualifier : (most : ℕ) (o : Option (List ℕ)) → nat_lt most (length (unwrap_or o [])) ≡ false → IfSome o (λ m. length m ≤ most)
short_qualifier most None short = tt
short_qualifier most (Some m) short = ltb-false most (length m) short

-- the parts of a name that isn't long
short_parts : (most : ℕ) (w : rule.Written) → rule.is_long most w ≡ false → (length w.name ≤ most) × IfSome w.qualifier (λ m. length m ≤ most)
short_parts most w short =
    let both = neither (nat_lt most (length w.name)) (nat_lt most (length (unwrap_or w.qualifier []))) short in
    (ltb-false most (length w.name) both.0, short_qualifier most w.qualifier both.1)

own_or_other : (most : ℕ) (own : Bool) (m : List ℕ) → length m ≤ most → IfSome (cond own None (Some m)) (λ m. length m ≤ most)
own_or_other most true m short = tt
own_or_other most false m short = short

-- so are those of what it means
short_away : (most : ℕ) (home : List ℕ) (o : Option (List ℕ)) → IfSome o (λ m. length m ≤ most) → IfSome (rule.away_from home o) (λ m. length m ≤ most)
short_away most home None short = tt
short_away most home (Some m) short = own_or_other most (bytes_eq m home) m short

abbrev pub ShortName : Input → PredName → Type 0
ShortName i q = (length q.name ≤ i.limits.items) × IfSome q.qualifier (λ m. length m ≤ i.limits.items)

taken_written : (o : Option rule.Written) (q : PredName) (i j : Input) → rule.take_written o i ≡ Ok (q, j) → Steady i j × ShortName i q
taken_written None q i j is = absurd (cc)
taken_written (Some w) q i j is =
    elim (chosen (rule.is_long i.limits.items w) (limit i) (Ok (rule.meant i.home w, next i)) (Ok (q, j)) is) [
      | inl l ↦ absurd (let e = l.1 in cc)
      | inr r ↦
          let parts = short_parts i.limits.items w r.0 in (
            subst (λ (m : Input). Steady i m) (ok_input (rule.meant i.home w) q (next i) j r.1) (to_next i),
            subst (λ (n : PredName). ShortName i n) (ok_value (rule.meant i.home w) q (next i) j r.1)
                (parts.0, short_away i.limits.items i.home w.qualifier parts.1),
          )
    ]

pub pred_name_is : (q : PredName) (i j : Input) → Is rule.pred_name q i j → Steady i j × ShortName i q
unfolding rule.pred_name
pred_name_is q i j is = taken_written (rule.written (token i)) q i j is

taken_declared : (o : Option rule.Written) (q : PredName) (i j : Input) → rule.take_declared o i ≡ Ok (q, j) → Steady i j × ShortName i q
taken_declared None q i j is = absurd (cc)
taken_declared (Some w) q i j is =
    elim (chosen (rule.is_of_library w.qualifier) (refuse i) (rule.take_written (Some w) i) (Ok (q, j)) (by_library (rule.is_of_library w.qualifier) is)) [
      | inl l ↦ absurd (let e = l.1 in cc)
      | inr r ↦ taken_written (Some w) q i j r.1
    ]
  where
    by_library : (b : Bool) → cond b refuse (rule.take_written (Some w)) i ≡ Ok (q, j) → cond b (refuse i) (rule.take_written (Some w) i) ≡ Ok (q, j)
    by_library true is = is
    by_library false is = is

pub declared_name_is : (q : PredName) (i j : Input) → Is rule.declared_name q i j → Steady i j × ShortName i q
unfolding rule.declared_name
declared_name_is q i j is = taken_declared (rule.written (token i)) q i j is

pub declared_name_names : (q : PredName) (i j : Input) → Is rule.declared_name q i j → AreSound i.rest → AreNames q.name q.qualifier
declared_name_names q i j is l = declared_names q i j (name_at i l) is

-- the name of a clause's head: a token that isn't the end
taken_same : (q : PredName) (o : Option rule.Written) (i j : Input) → rule.take_same q o i ≡ Ok (tt, j) → Steady i j × ((w : rule.Written) × (o ≡ Some w))
taken_same q None i j is = absurd (cc)
taken_same q (Some w) i j is =
    elim (chosen (rule.same_name (rule.meant i.home w) q) (Ok (tt, next i)) (refuse i) (Ok (tt, j)) is) [
      | inl l ↦ (subst (λ (m : Input). Steady i m) (ok_input tt tt (next i) j l.1) (to_next i), (w, refl))
      | inr r ↦ absurd (let e = r.1 in cc)
    ]

written_kinds : (text : List ℕ) (k : Kind) (w : rule.Written) → rule.written_by text k ≡ Some w → (k ≡ kind.Name) ⊎ (k ≡ kind.Qualified)
written_kinds text kind.Name w h = inl refl
written_kinds text kind.Qualified w h = inr refl
written_kinds text _ w h = absurd (cc)

pub this_name_is : (q : PredName) (i j : Input) → Is (rule.this_name q) tt i j → Steady i j × ((kind_at i ≡ kind.Name) ⊎ (kind_at i ≡ kind.Qualified))
unfolding rule.this_name rule.written
this_name_is q i j is =
    let t = taken_same q (rule.written (token i)) i j is in
    (t.0, written_kinds (token i).text (kind_at i) t.1.0 t.1.1)

-- ---- variables

with_one : (b : Bool) (x v : List ℕ) (vars : List (List ℕ)) → 0 < length (cond b ((v ∷ vars) ++ x ∷ []) (v ∷ vars))
with_one true x v vars = omega arith
with_one false x v vars = omega arith

-- a variable more leaves some
some_variable : (x : List ℕ) (vars : List (List ℕ)) → 0 < length (with_variable x vars)
unfolding with_variable
some_variable x [] = omega arith
some_variable x (v ∷ vars) = with_one (place_of x (v ∷ vars) == length (v ∷ vars)) x v vars

to_variable : (i : Input) → Steady i (record (next i) { vars = with_variable (token i).text i.vars })
unfolding next
to_variable i = record { limits = refl; numbers = tt; sites = omega arith; lines = λ l. lines_behind i.rest l; goals = λ l. tt; vars = λ v. some_variable (token i).text i.vars; fewer = drop_fewer i.rest }

pub variable_is : (seen : List ℕ) (x : ℕ) (i j : Input) → Is (variable seen) x i j → Steady i j × (0 < length j.vars)
unfolding variable
variable_is seen x i j is =
    let at = place_of (token i).text i.vars in
    let p = past_three (not (sees kind.Variable i)) (list_any (λ y. y == at) seen) (nat_lt i.limits.items (length (token i).text)) _ _ _ _ _ is in
    let same = ok_input at x (record (next i) { vars = with_variable (token i).text i.vars }) j p.3 in
    (subst (λ (m : Input). Steady i m) same (to_variable i), subst (λ (m : Input). 0 < length m.vars) same (some_variable (token i).text i.vars))

pub variable_steady : (seen : List ℕ) (x : ℕ) (i j : Input) → Is (variable seen) x i j → Steady i j
variable_steady seen x i j is = (variable_is seen x i j is).0

-- ---- words

taken_word : {A : Type 0} (o : Option A) (x : A) (i j : Input) → rule.take_word o i ≡ Ok (x, j) → Steady i j
taken_word None x i j is = absurd (cc)
taken_word (Some y) x i j is = subst (λ (m : Input). Steady i m) (ok_input y x (next i) j is) (to_next i)

pub mode_steady : (m : Mode) (i j : Input) → Is rule.mode_word m i j → Steady i j
unfolding rule.mode_word
mode_steady m i j is = taken_word (rule.mode_named (token i).text) m i j is

pub ho_mode_steady : (m : Mode) (i j : Input) → Is rule.ho_mode m i j → Steady i j
unfolding rule.ho_mode
ho_mode_steady m i j is = taken_word (rule.ho_mode_named (token i).text) m i j is

pub determinism_steady : (d : Det) (i j : Input) → Is rule.determinism d i j → Steady i j
unfolding rule.determinism
determinism_steady d i j is = taken_word (rule.det_named (token i).text) d i j is

-- ---- call sites

-- behind a token at least, the next number, and one site with it
pub site_is : (n : ℕ) (i k j : Input) (x : CallSite) → Steady i k → length k.rest < length i.rest → Is site n k j → Leads i j ((n, x) ∷ []) []
unfolding site
site_is n i k j x before less is =
    let number : k.sites ≡ n = ok_value k.sites n (record k { sites = k.sites + 1 }) j is in
    subst (λ (m : Input). Leads i m ((n, x) ∷ []) []) (ok_input k.sites n (record k { sites = k.sites + 1 }) j is)
    (record {
      limits = before.limits;
      numbers = (omega (arith, number, before.sites), tt);
      sites = omega (arith, before.sites);
      lines = before.lines;
      goals = before.goals;
      vars = before.vars;
      fewer = omega (arith, less);
    })
