-- What a token that was taken says: its kind, and where the next one is.
use Rattle.std.proofs.Common.{rules, ◌≡◌, ℕ, List, [], length, refl, Bool, true, false, cond, not, ◌&&◌, ◌⊎◌, inl, inr, Option, Some, None, Ok, sym, nat_lt, ◌==◌}
use Rattle.std.specs.List.{list_any}
use Rattle.std.specs.Str.{bytes_eq}
use denote.Enum.Bare.{same_true}
use Rattle.md_hlds.specs.declared.goal.PredName.{PredName}
use Rattle.md_hlds.specs.Hlds.{HldsType}
use Rattle.md_token.specs.contracts.kind.Kind.{the_type}
use Rattle.md_token.specs.declared.kind.Kind.{Kind}
use Rattle.md_token.specs.declared.kind.Kind.TheVariants as kind
use Rattle.md_token.specs.Kinds.{same_kind}
use Rattle.md_reader.specs.declared.refused.Refusal.TheVariants as refusal
use Rattle.md_reader.specs.Input.{Input, Parser, and_then, pure, refuse, sees, next, after, token, kind_at, expect, word, variable, place_of, place}
use Rattle.md_reader.specs.Rules as rule
use Rattle.md_reader.specs.Grammar.{Sign, sign}
use Rattle.md_reader.proofs.Steps.{chosen, ok_input, ok_value, past_three}

pub kind_seen : (k : Kind) (i : Input) → sees k i ≡ true → kind_at i ≡ k
unfolding sees same_kind
kind_seen k i e = same_true the_type (search rules) _ _ e

-- a token of one kind is of no other
pub unlike : (a k : Kind) (i : Input) → kind_at i ≡ a → same_kind a k ≡ false → sees k i ≡ false
unfolding sees
unlike a k i e d = rw e d

-- a token of this kind stood there, and the next place is behind it
pub record Taken (k : Kind) (i j : Input) : Type 0 where
  pub is : kind_at i ≡ k
  pub behind : j ≡ next i

pub expected : (k : Kind) (line : ℕ) (i j : Input) → expect k i ≡ Ok (line, j) → Taken k i j
unfolding expect
expected k line i j h =
    elim (chosen (sees k i) (Ok ((token i).line, next i)) (refuse i) (Ok (line, j)) h) [
      | inl l ↦ record { is = kind_seen k i l.0; behind = sym (ok_input (token i).line line (next i) j l.1) }
      | inr r ↦ absurd (let e = r.1 in cc)
    ]

pub expected_line : (k : Kind) (line : ℕ) (i j : Input) → expect k i ≡ Ok (line, j) → (token i).line ≡ line
unfolding expect
expected_line k line i j h =
    elim (chosen (sees k i) (Ok ((token i).line, next i)) (refuse i) (Ok (line, j)) h) [
      | inl l ↦ ok_value (token i).line line (next i) j l.1
      | inr r ↦ absurd (let e = r.1 in cc)
    ]

pub signed : (k : Kind) (i j : Input) → Sign k i j → Taken k i j
signed k _ _ (sign line i j h) = expected k line i j h

-- the sign that ends a rule
pub shut : {A : Type 0} (k : Kind) (x : A) (i j : Input) → Sign k i j → and_then (expect k i) (λ line. pure x) ≡ Ok (x, j)
shut k x _ _ (sign line i j h) = rw h refl

-- the rule goes on behind a sign
pub stepped : {B : Type 0} (k : Kind) (p : Parser B) (i j : Input) → Sign k i j → and_then (expect k i) (λ line. p) ≡ p j
stepped k p _ _ (sign line i j h) = rw h refl

-- where a token of this kind may come next, it does, or it doesn't
pub eats : {B : Type 0} (k : Kind) (p q : Parser B) (i j : Input) → Sign k i j → cond (sees k i) p q (after k i) ≡ p j
unfolding after expect
eats k p q _ _ (sign line i j h) =
    elim (chosen (sees k i) (Ok ((token i).line, next i)) (refuse i) (Ok (line, j)) h) [
      | inl l ↦ rw (l.0, ok_input (token i).line line (next i) j l.1) refl
      | inr r ↦ absurd (let e = r.1 in cc)
    ]

pub passes : {B : Type 0} (k : Kind) (p q : Parser B) (i : Input) → sees k i ≡ false → cond (sees k i) p q (after k i) ≡ q i
unfolding after
passes k p q i e = rw e refl

-- ---- the kind of what a rule took

first_true : (a b : Bool) → (a && b) ≡ true → a ≡ true
first_true true b h = refl
first_true false b h = h

pub word_behind : (w : List ℕ) (line : ℕ) (i j : Input) → word w i ≡ Ok (line, j) → Taken kind.Name i j
unfolding word
word_behind w line i j h =
    elim (chosen (sees kind.Name i && bytes_eq (token i).text w) (Ok ((token i).line, next i)) (refuse i) (Ok (line, j)) h) [
      | inl l ↦ record { is = kind_seen kind.Name i (first_true (sees kind.Name i) (bytes_eq (token i).text w) l.0); behind = sym (ok_input (token i).line line (next i) j l.1) }
      | inr r ↦ absurd (let e = r.1 in cc)
    ]

pub word_kind : (w : List ℕ) (line : ℕ) (i j : Input) → word w i ≡ Ok (line, j) → kind_at i ≡ kind.Name
word_kind w line i j h = (word_behind w line i j h).is

pub turned : (b : Bool) → not b ≡ false → b ≡ true
turned true h = refl
turned false h = absurd (cc)

pub variable_kind : (seen : List ℕ) (x : ℕ) (i j : Input) → variable seen i ≡ Ok (x, j) → kind_at i ≡ kind.Variable
unfolding variable
variable_kind seen x i j h =
    let p = past_three (not (sees kind.Variable i)) (list_any (λ y. y == place_of (token i).text i.vars) seen) (nat_lt i.limits.items (length (token i).text)) _ _ _ _ _ h in
    kind_seen kind.Variable i (turned (sees kind.Variable i) p.0)

pub simple_type_kind : (t : HldsType) (i j : Input) → rule.simple_type i ≡ Ok (t, j) → kind_at i ≡ kind.Name
unfolding rule.simple_type
simple_type_kind t i j h =
    elim (chosen (sees kind.Name i) (rule.simple_type_named (token i).text i) (refuse i) (Ok (t, j)) h) [
      | inl l ↦ kind_seen kind.Name i l.0
      | inr r ↦ absurd (let e = r.1 in cc)
    ]

written_kinds : (text : List ℕ) (k : Kind) (w : rule.Written) → rule.written_by text k ≡ Some w → (k ≡ kind.Name) ⊎ (k ≡ kind.Qualified)
written_kinds text kind.Name w h = inl refl
written_kinds text kind.Qualified w h = inr refl
written_kinds text _ w h = absurd (cc)

taken_written : (o : Option rule.Written) (q : PredName) (i j : Input) → rule.take_written o i ≡ Ok (q, j) → (w : rule.Written) × (o ≡ Some w)
taken_written None q i j h = absurd (cc)
taken_written (Some w) q i j h = (w, refl)

pub pred_kinds : (q : PredName) (i j : Input) → rule.pred_name i ≡ Ok (q, j) → (kind_at i ≡ kind.Name) ⊎ (kind_at i ≡ kind.Qualified)
unfolding rule.pred_name rule.written
pred_kinds q i j h = let w = taken_written (rule.written (token i)) q i j h in written_kinds (token i).text (kind_at i) w.0 w.1

-- a variable is none of those that it differs from
pub variable_among : (seen : List ℕ) (x : ℕ) (i j : Input) → variable [] i ≡ Ok (x, j) → list_any (λ y. y == x) seen ≡ false → variable seen i ≡ Ok (x, j)
unfolding variable
variable_among seen x i j h new =
    let p = past_three (not (sees kind.Variable i)) false (nat_lt i.limits.items (length (token i).text)) (refusal.Syntax (place i)) (refusal.Syntax (place i)) (refusal.Limit (place i)) _ _ h in
    let e : place_of (token i).text i.vars ≡ x = ok_value _ _ _ _ p.3 in
    rw (p.0, p.2, e, new) (rw e at p.3)
