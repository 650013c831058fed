-- What the steps of the grammar do to the place: the limits and the program's own module stay, and what follows are
-- tokens of the text.
use Rattle.std.proofs.Common.{◌≡◌, ◌≢◌, refl, sym, ap, ◌∙◌, subst, ℕ, suc, ◌+◌, ◌≤◌, Bool, true, false, cond, not, ◌||◌, nat_lt, ◌==◌, List, [], ◌∷◌, length, drop, arith, Option, Some, None, IfSome, Ok, ◌⊎◌, inl, inr}
use Rattle.std.specs.Prelude.{unwrap_or, IsTrue, codes}
use Rattle.std.proofs.lemmas.Bool.{ltb-false, false≢true}
use Rattle.std.specs.List.{list_any}
use Rattle.std.specs.Str.{bytes_eq}
use Rattle.md_hlds.specs.declared.types.Mode.{Mode}
use Rattle.md_hlds.specs.declared.types.Det.{Det}
use Rattle.md_hlds.specs.declared.goal.PredName.{PredName}
use Rattle.md_hlds.specs.HldsGoal.{GoalExpr}
use Rattle.md_hlds.specs.Hlds as hlds
use Rattle.md_hlds.specs.Hlds.{HldsType}
use Rattle.md_token.specs.declared.kind.Kind.{Kind}
use Rattle.md_token.specs.declared.kind.Kind.TheVariants as kind
use Rattle.md_token.specs.Kinds.{same_kind}
use Rattle.md_token.specs.Token.{Lexeme}
use Rattle.md_reader.specs.Input.{Input, Parser, Outcome, ◌>>=◌, ◌>>◌, pure, advance, refuse, limit, first, token, kind_at, sees, next, expect, take_name, name, word, variable, place_of, with_variable, site, end_clause}
use Rattle.md_reader.specs.Rules as rule
use Rattle.md_reader.specs.Grammar.{Is, Sign}
use Rattle.md_reader.proofs.Steps.{bind_ok, chosen, ok_input, ok_value, past_three}
use Rattle.md_reader.proofs.Taking.{Taken, signed, expected, word_behind}
use Rattle.md_static.specs.Names.{is_name}
use Rattle.md_ports.proofs.Bytes.{bytes_same}
use Rattle.md_ports.proofs.Words.{IsCut, ArePieces, IsLine, HaveLines, IsWord, AreWords, written_words, word_name}

pub record Onward (i j : Input) : Type 0 where
  pub limits : j.limits ≡ i.limits
  pub home : j.home ≡ i.home
  pub pieces : ArePieces i.rest → ArePieces j.rest
  pub lines : (most : ℕ) → HaveLines most i.rest → HaveLines most j.rest
  pub count : length j.rest ≤ length i.rest

pub then : {i j k : Input} → Onward i j → Onward j k → Onward i k
then a b = record { limits = b.limits ∙ a.limits; home = b.home ∙ a.home; pieces = λ p. b.pieces (a.pieces p); lines = λ most l. b.lines most (a.lines most l); count = omega (arith, a.count, b.count) }

pub stay : (i : Input) → Onward i i
stay i = record { limits = refl; home = refl; pieces = λ p. p; lines = λ most l. l; count = omega arith }

pieces_behind : (ts : List Lexeme) → ArePieces ts → ArePieces (drop 1 ts)
pieces_behind [] p = tt
pieces_behind (t ∷ ts) p = p.1

lines_behind : (ts : List Lexeme) (most : ℕ) → HaveLines most ts → HaveLines most (drop 1 ts)
lines_behind [] most l = tt
lines_behind (t ∷ ts) most l = l.1

fewer_behind : (ts : List Lexeme) → length (drop 1 ts) ≤ length ts
fewer_behind [] = omega arith
fewer_behind (t ∷ ts) = omega arith

pub to_next : (i : Input) → Onward i (next i)
unfolding next
to_next i = record { limits = refl; home = refl; pieces = pieces_behind i.rest; lines = lines_behind i.rest; count = fewer_behind i.rest }

-- ---- one token

taken_on : (k : Kind) (i j : Input) → Taken k i j → Onward i j
taken_on k i j t = subst (λ (m : Input). Onward i m) (sym t.behind) (to_next i)

pub sign_on : (k : Kind) (i j : Input) → Sign k i j → Onward i j
sign_on k i j s = taken_on k i j (signed k i j s)

pub expect_on : (k : Kind) (line : ℕ) (i j : Input) → Is (expect k) line i j → Onward i j
expect_on k line i j is = taken_on k i j (expected k line i j is)

pub word_on : (w : List ℕ) (line : ℕ) (i j : Input) → Is (word w) line i j → Onward i j
word_on w line i j is = taken_on kind.Name i j (word_behind w line i j is)

-- an answer behind one token
next_of : {A : Type 0} (x y : A) (i j : Input) → ◌≡◌ {A = Outcome A} (Ok (x, next i)) (Ok (y, j)) → Onward i j
next_of x y i j h = subst (λ (m : Input). Onward i m) (ok_input x y (next i) j h) (to_next i)

-- the same where it is one of two outcomes, of which the other is none
pub first_of : {A : Type 0} (b : Bool) (i j : Input) (x y : A) (r : Outcome A) → (r ≡ Ok (y, j) → Onward i j) → cond b r (Ok (x, next i)) ≡ Ok (y, j) → Onward i j
first_of true i j x y r f h = f h
first_of false i j x y r f h = next_of x y i j h

pub second_of : {A : Type 0} (b : Bool) (i j : Input) (y : A) (r s : Outcome A) → (r ≡ Ok (y, j) → Onward i j) → (s ≡ Ok (y, j) → Onward i j) → cond b r s ≡ Ok (y, j) → Onward i j
second_of true i j y r s f g h = f h
second_of false i j y r s f g h = g h

limit_on : {A : Type 0} (i j : Input) (y : A) → limit i ≡ Ok (y, j) → Onward i j
limit_on i j y h = absurd (cc)

refuse_on : {A : Type 0} (i j : Input) (y : A) → refuse i ≡ Ok (y, j) → Onward i j
refuse_on i j y h = absurd (cc)

take_name_on : (text x : List ℕ) (i j : Input) → take_name text i ≡ Ok (x, j) → Onward i j
unfolding take_name
take_name_on text x i j h = first_of (nat_lt i.limits.items (length text)) i j text x (limit i) (limit_on i j x) h

pub name_on : (x : List ℕ) (i j : Input) → Is name x i j → Onward i j
unfolding name
name_on x i j h = second_of (sees kind.Name i) i j x (take_name (token i).text i) (refuse i) (take_name_on (token i).text x i j) (refuse_on i j x) h

pub type_name_on : (x : List ℕ) (i j : Input) → Is rule.type_name x i j → Onward i j
unfolding rule.type_name
type_name_on x i j h = second_of (rule.is_own_type (token i).text) i j x (name i) (refuse i) (name_on x i j) (refuse_on i j x) h

pub variable_on : (seen : List ℕ) (x : ℕ) (i j : Input) → Is (variable seen) x i j → Onward i j
unfolding variable next
variable_on seen x i j h =
    let at = place_of (token i).text i.vars in
    let p = past_three (not (sees kind.Variable i)) (list_any (λ y. y == at) seen) (nat_lt i.limits.items (length (token i).text)) _ _ _ _ _ h in
    subst (λ (m : Input). Onward i m) (ok_input at x (record (next i) { vars = with_variable (token i).text i.vars }) j p.3)
    (record { limits = refl; home = refl; pieces = pieces_behind i.rest; lines = lines_behind i.rest; count = fewer_behind i.rest })

pub site_on : (n : ℕ) (i j : Input) → Is site n i j → Onward i j
unfolding site
site_on n i j h = subst (λ (m : Input). Onward i m) (ok_input i.sites n (record i { sites = i.sites + 1 }) j h) (record { limits = refl; home = refl; pieces = λ p. p; lines = λ most l. l; count = omega arith })

pub end_on : (vs : List (List ℕ)) (i j : Input) → Is end_clause vs i j → Onward i j
unfolding end_clause
end_on vs i j h = subst (λ (m : Input). Onward i m) (ok_input i.vars vs (record i { vars = [] }) j h) (record { limits = refl; home = refl; pieces = λ p. p; lines = λ most l. l; count = omega arith })

-- ---- words

take_word_on : {A : Type 0} (o : Option A) (x : A) (i j : Input) → rule.take_word o i ≡ Ok (x, j) → Onward i j
take_word_on None x i j h = absurd (cc)
take_word_on (Some y) x i j h = next_of y x i j h

pub mode_on : (m : Mode) (i j : Input) → Is rule.mode_word m i j → Onward i j
unfolding rule.mode_word
mode_on m i j h = take_word_on (rule.mode_named (token i).text) m i j h

pub ho_mode_on : (m : Mode) (i j : Input) → Is rule.ho_mode m i j → Onward i j
unfolding rule.ho_mode
ho_mode_on m i j h = take_word_on (rule.ho_mode_named (token i).text) m i j h

pub determinism_on : (d : Det) (i j : Input) → Is rule.determinism d i j → Onward i j
unfolding rule.determinism
determinism_on d i j h = take_word_on (rule.det_named (token i).text) d i j h

-- ---- terms

pub positive_on : (x : ℕ) (t : GoalExpr) (i j : Input) → Is (rule.positive x) t i j → Onward i j
unfolding rule.positive
positive_on x t i j h = first_of _ i j _ t (limit i) (limit_on i j t) h

pub negated_on : (x : ℕ) (t : GoalExpr) (i j : Input) → Is (rule.negated x) t i j → Onward i j
unfolding rule.negated
negated_on x t i j h = second_of (sees kind.Integer i) i j t _ (refuse i) (λ g. first_of _ i j _ t (limit i) (limit_on i j t) g) (refuse_on i j t) h

pub literal_on : (x : ℕ) (t : GoalExpr) (i j : Input) → Is (rule.literal x) t i j → Onward i j
unfolding rule.literal
literal_on x t i j h = first_of _ i j _ t (limit i) (limit_on i j t) h

-- ---- names of predicates

-- a name of the language, whose qualifier, if it has one, is the name of another module than this
pub record Fits (home : List ℕ) (q : PredName) : Type 0 where
  pub name : IsTrue (is_name q.name)
  pub qualifier : IfSome q.qualifier (λ m. IsTrue (is_name m))
  pub other : q.qualifier ≢ Some home

neither : (a b : Bool) → (a || b) ≡ false → (a ≡ false) × (b ≡ false)
neither true b h = absurd (cc)
neither false b h = (refl, h)

qualifier_name : (o : Option (List ℕ)) → IfSome o IsWord → nat_lt 255 (length (unwrap_or o [])) ≡ false → IfSome o (λ m. IsTrue (is_name m))
qualifier_name None words short = tt
qualifier_name (Some m) words short = word_name m words (ltb-false 255 (length m) short)

own_or_other : (b : Bool) (home m : List ℕ) → bytes_eq m home ≡ b → IsTrue (is_name m) → IfSome (cond b None (Some m)) (λ m. IsTrue (is_name m)) × (cond b None (Some m) ≢ Some home)
own_or_other true home m is named = (tt, λ e. absurd (cc e))
own_or_other false home m is named =
    (named, λ e. let same : m ≡ home = cc e in false≢true (sym is ∙ subst (λ (x : List ℕ). bytes_eq m x ≡ true) same (bytes_same m)))

away : (home : List ℕ) (o : Option (List ℕ)) → IfSome o (λ m. IsTrue (is_name m)) → IfSome (rule.away_from home o) (λ m. IsTrue (is_name m)) × (rule.away_from home o ≢ Some home)
away home None named = (tt, λ e. absurd (cc e))
away home (Some m) named = own_or_other (bytes_eq m home) home m refl named

meant_fits : (home : List ℕ) (w : rule.Written) → AreWords w → rule.is_long 255 w ≡ false → Fits home (rule.meant home w)
meant_fits home w words short =
    let both = neither (nat_lt 255 (length w.name)) (nat_lt 255 (length (unwrap_or w.qualifier []))) short in
    let q = away home w.qualifier (qualifier_name w.qualifier words.qualifier both.1) in
    record { name = word_name w.name words.name (ltb-false 255 (length w.name) both.0); qualifier = q.0; other = q.1 }

take_written_on : (o : Option rule.Written) (q : PredName) (i j : Input) → rule.take_written o i ≡ Ok (q, j) → Onward i j
take_written_on None q i j h = absurd (cc)
take_written_on (Some w) q i j h = first_of (rule.is_long i.limits.items w) i j (rule.meant i.home w) q (limit i) (limit_on i j q) h

pub pred_name_on : (q : PredName) (i j : Input) → Is rule.pred_name q i j → Onward i j
unfolding rule.pred_name
pred_name_on q i j h = take_written_on (rule.written (token i)) q i j h

take_same_on : (q : PredName) (o : Option rule.Written) (i j : Input) → rule.take_same q o i ≡ Ok (tt, j) → Onward i j
take_same_on q None i j h = absurd (cc)
take_same_on q (Some w) i j h =
    second_of (rule.same_name (rule.meant i.home w) q) i j tt (Ok (tt, next i)) (refuse i) (next_of tt tt i j) (refuse_on i j tt) h

pub this_name_on : (q : PredName) (i j : Input) → Is (rule.this_name q) tt i j → Onward i j
unfolding rule.this_name
this_name_on q i j h = take_same_on q (rule.written (token i)) i j h

taken_fits : (w : rule.Written) (q : PredName) (i j : Input) → AreWords w → i.limits.items ≡ 255 → rule.take_written (Some w) i ≡ Ok (q, j) → Fits i.home q
taken_fits w q i j words items h =
    elim (chosen (rule.is_long i.limits.items w) (limit i) (Ok (rule.meant i.home w, next i)) (Ok (q, j)) h) [
      | inl l ↦ absurd (let e = l.1 in cc)
      | inr r ↦
          subst (Fits i.home) (ok_value (rule.meant i.home w) q (next i) j r.1)
          (meant_fits i.home w words (subst (λ (n : ℕ). rule.is_long n w ≡ false) items r.0))
    ]

by_library : (b : Bool) (w : rule.Written) (q : PredName) (i j : Input) → cond b refuse (rule.take_written (Some w)) i ≡ Ok (q, j) → rule.take_written (Some w) i ≡ Ok (q, j)
by_library true w q i j h = absurd (cc)
by_library false w q i j h = h

take_declared_is : (o : Option rule.Written) (q : PredName) (i j : Input) → ((w : rule.Written) → o ≡ Some w → AreWords w) → i.limits.items ≡ 255
    → rule.take_declared o i ≡ Ok (q, j) → Onward i j × Fits i.home q
take_declared_is None q i j words items h = absurd (cc)
take_declared_is (Some w) q i j words items h =
    let g = by_library (rule.is_of_library w.qualifier) w q i j h in
    (take_written_on (Some w) q i j g, taken_fits w q i j (words w refl) items g)

-- ---- a token that is there

fewer_by : (ts : List Lexeme) → same_kind (first ts).kind kind.Stop ≡ false → suc (length (drop 1 ts)) ≤ length ts
unfolding same_kind
fewer_by [] not_stop = absurd (cc)
fewer_by (t ∷ ts) not_stop = omega arith

-- a token that isn't the end is one of those that follow
pub one_less : (k : Kind) (i : Input) → kind_at i ≡ k → same_kind k kind.Stop ≡ false → suc (length (next i).rest) ≤ length i.rest
unfolding next token
one_less k i is not_stop = fewer_by i.rest (ap (λ (x : Kind). same_kind x kind.Stop) is ∙ not_stop)

line_by : (ts : List Lexeme) → same_kind (first ts).kind kind.Stop ≡ false → (most : ℕ) → HaveLines most ts → IsLine most (first ts).line
unfolding same_kind
line_by [] not_stop most l = absurd (cc)
line_by (t ∷ ts) not_stop most l = l.0

pub line_at : (k : Kind) (i : Input) → kind_at i ≡ k → same_kind k kind.Stop ≡ false → (most : ℕ) → HaveLines most i.rest → IsLine most (token i).line
unfolding token
line_at k i is not_stop most l = line_by i.rest (ap (λ (x : Kind). same_kind x kind.Stop) is ∙ not_stop) most l

pub sign_less : (k : Kind) (i j : Input) → Sign k i j → same_kind k kind.Stop ≡ false → suc (length j.rest) ≤ length i.rest
sign_less k i j s not_stop =
    let t = signed k i j s in subst (λ (m : Input). suc (length m.rest) ≤ length i.rest) (sym t.behind) (one_less k i t.is not_stop)

pub expect_less : (k : Kind) (line : ℕ) (i j : Input) → Is (expect k) line i j → same_kind k kind.Stop ≡ false → suc (length j.rest) ≤ length i.rest
expect_less k line i j is not_stop =
    let t = expected k line i j is in subst (λ (m : Input). suc (length m.rest) ≤ length i.rest) (sym t.behind) (one_less k i t.is not_stop)

written_kinds : (text : List ℕ) (k : Kind) (w : rule.Written) → rule.written_by text k ≡ Some w → (k ≡ kind.Name) ⊎ (k ≡ kind.Qualified)
written_kinds text kind.Name w h = inl refl
written_kinds text kind.Qualified w h = inr refl
written_kinds text _ w h = absurd (cc)

not_stop : (text : List ℕ) (k : Kind) (w : rule.Written) → rule.written_by text k ≡ Some w → same_kind k kind.Stop ≡ false
unfolding same_kind
not_stop text k w h = elim (written_kinds text k w h) [ inl e ↦ rw e refl | inr e ↦ rw e refl ]

-- the name of a predicate takes a token, which has a line
pub record IsAt (i j : Input) : Type 0 where
  pub less : suc (length j.rest) ≤ length i.rest
  pub line : (most : ℕ) → HaveLines most i.rest → IsLine most (token i).line

taken_at : (o : Option rule.Written) (q : PredName) (i j : Input) → ((w : rule.Written) → o ≡ Some w → same_kind (kind_at i) kind.Stop ≡ false) → rule.take_written o i ≡ Ok (q, j) → IsAt i j
taken_at None q i j there h = absurd (cc)
taken_at (Some w) q i j there h =
    elim (chosen (rule.is_long i.limits.items w) (limit i) (Ok (rule.meant i.home w, next i)) (Ok (q, j)) h) [
      | inl l ↦ absurd (let e = l.1 in cc)
      | inr r ↦
          record {
            less = subst (λ (m : Input). suc (length m.rest) ≤ length i.rest) (ok_input (rule.meant i.home w) q (next i) j r.1) (one_less (kind_at i) i refl (there w refl));
            line = line_at (kind_at i) i refl (there w refl);
          }
    ]

pub pred_name_at : (q : PredName) (i j : Input) → Is rule.pred_name q i j → IsAt i j
unfolding rule.pred_name rule.written
pred_name_at q i j h = taken_at (rule.written (token i)) q i j (λ w is. not_stop (token i).text (kind_at i) w is) h

-- a call of a closure takes one too
pub call_at : (i j : Input) → Sign kind.Call i j → IsAt i j
unfolding same_kind
call_at i j s = record { less = sign_less kind.Call i j s refl; line = λ most l. line_at kind.Call i (signed kind.Call i j s).is refl most l }

pub declare_goes : same_kind kind.Declare kind.Stop ≡ false
unfolding same_kind
declare_goes = refl

first_piece : (ts : List Lexeme) → ArePieces ts → IsCut (first ts)
first_piece [] p = inr (inl refl)
first_piece (t ∷ ts) p = p.0

pub next_piece : (i : Input) → ArePieces i.rest → IsCut (token i)
unfolding token
next_piece i p = first_piece i.rest p

-- the name of a predicate that is declared
pub declared_name_is : (q : PredName) (i j : Input) → Is rule.declared_name q i j → ArePieces i.rest → i.limits.items ≡ 255 → Onward i j × Fits i.home q
unfolding rule.declared_name
declared_name_is q i j h pieces items = take_declared_is (rule.written (token i)) q i j (λ w is. written_words (token i) w (next_piece i pieces) is) items h

-- ---- types

either_on : {A : Type 0} (b : Bool) (p q : Parser A) (i j : Input) (y : A) → (p i ≡ Ok (y, j) → Onward i j) → (q i ≡ Ok (y, j) → Onward i j) → cond b p q i ≡ Ok (y, j) → Onward i j
either_on true p q i j y f g h = f h
either_on false p q i j y f g h = g h

named_on : (text : List ℕ) (t : HldsType) (i j : Input) → (take_name text >>= (λ n. pure (hlds.named n))) i ≡ Ok (t, j) → Onward i j
named_on text t i j h =
    let b = bind_ok (take_name text i) (λ n. pure (hlds.named n)) (t, j) h in
    subst (λ (m : Input). Onward i m) (ok_input (hlds.named b.0.0) t b.0.1 j b.2) (take_name_on text b.0.0 i b.0.1 b.1)

type_named_on : (text : List ℕ) (t : HldsType) (i j : Input) → rule.simple_type_named text i ≡ Ok (t, j) → Onward i j
type_named_on text t i j h =
    either_on (bytes_eq text (codes "int")) (advance >> pure hlds.number) _ i j t (next_of hlds.number t i j)
    (either_on (bytes_eq text (codes "string")) (advance >> pure hlds.text) _ i j t (next_of hlds.text t i j)
    (either_on (bytes_eq text (codes "io")) (advance >> pure hlds.world) _ i j t (next_of hlds.world t i j) (named_on text t i j))) h

pub simple_type_on : (t : HldsType) (i j : Input) → Is rule.simple_type t i j → Onward i j
unfolding rule.simple_type
simple_type_on t i j h =
    second_of (sees kind.Name i) i j t (rule.simple_type_named (token i).text i) (refuse i) (type_named_on (token i).text t i j) (refuse_on i j t) h
