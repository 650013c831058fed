-- What follows where a rule of several steps reads something.
use Rattle.std.proofs.Common.{◌≡◌, ℕ, suc, ◌≤◌, List, [], ◌∷◌, ◌++◌, length, refl, Bool, true, false, cond, not, ◌⊎◌, inl, inr, Result, Ok, Err, sym, ap, ◌∙◌, arith, subst, append_assoc, nat_lt, ◌==◌}
use Rattle.std.specs.List.{list_any}
use Rattle.md_token.specs.declared.kind.Kind.{Kind}
use Rattle.md_token.specs.declared.kind.Kind.TheVariants as kind
use Rattle.md_token.specs.Kinds.{same_kind}
use Rattle.md_reader.specs.Input.{Input, Parser, Outcome, and_then, pure, sees, next, after, token, expect, variable, place_of}
use Rattle.md_reader.specs.Grammar.{Is, Sign, sign, Listed, last, also, Enclosed, enclosed}

pub bind_ok : {A B : Type 0} (r : Outcome A) (f : A → Parser B) (y : B × Input) → and_then r f ≡ Ok y → (p : A × Input) × (r ≡ Ok p) × (f p.0 p.1 ≡ Ok y)
bind_ok (Ok p) f y h = (p, refl, h)
bind_ok (Err e) f y h = absurd (cc)

-- a test, and the branch that it chose
pub chosen : {X : Type 0} (b : Bool) (x y z : X) → cond b x y ≡ z → ((b ≡ true) × (x ≡ z)) ⊎ ((b ≡ false) × (y ≡ z))
chosen true x y z h = inl (refl, h)
chosen false x y z h = inr (refl, h)

pub ok_value : {A : Type 0} (x y : A) (i j : Input) → pure x i ≡ Ok (y, j) → x ≡ y
ok_value {A} x y i j h = let e : ◌≡◌ {A = A × Input} (x, i) (y, j) = cc in ap (λ (p : A × Input). p.0) e

pub ok_input : {A : Type 0} (x y : A) (i j : Input) → pure x i ≡ Ok (y, j) → i ≡ j
ok_input {A} x y i j h = let e : ◌≡◌ {A = A × Input} (x, i) (y, j) = cc in ap (λ (p : A × Input). p.1) e

pub sign_of : (k : Kind) (line : ℕ) (i j : Input) → expect k i ≡ Ok (line, j) → Sign k i j
sign_of k line i j h = sign line i j h

-- the last token of a rule
pub closed : {A : Type 0} (k : Kind) (x y : A) (i j : Input) → and_then (expect k i) (λ line. pure x) ≡ Ok (y, j) → Sign k i j × (y ≡ x)
closed k x y i j h =
    let b = bind_ok (expect k i) _ _ h in
    (sign b.0.0 i j (subst (λ (m : Input). expect k i ≡ Ok (b.0.0, m)) (ok_input x y b.0.1 j b.2) b.1), sym (ok_value x y b.0.1 j b.2))

-- the last part of a rule, from which a value is made
pub made : {A B : Type 0} (p : Parser A) (f : A → B) (y : B) (i j : Input) → and_then (p i) (λ x. pure (f x)) ≡ Ok (y, j) → (x : A) × (p i ≡ Ok (x, j)) × (y ≡ f x)
made p f y i j h =
    let b = bind_ok (p i) _ _ h in
    (b.0.0, subst (λ (m : Input). p i ≡ Ok (b.0.0, m)) (ok_input (f b.0.0) y b.0.1 j b.2) b.1, sym (ok_value (f b.0.0) y b.0.1 j b.2))

-- where a token of this kind comes next, it is taken
eaten_by : {B : Type 0} (k : Kind) (i : Input) (p q : Parser B) (y : B × Input) (b : Bool) → sees k i ≡ b → cond b p q (after k i) ≡ Ok y → (Sign k i (next i) × (p (next i) ≡ Ok y)) ⊎ (q i ≡ Ok y)
unfolding after expect
eaten_by k i p q y true e h = inl (sign (token i).line i (next i) (rw e refl), rw e at h)
eaten_by k i p q y false e h = inr (rw e at h)

pub eaten : {B : Type 0} (k : Kind) (i : Input) (p q : Parser B) (y : B × Input) → cond (sees k i) p q (after k i) ≡ Ok y → (Sign k i (next i) × (p (next i) ≡ Ok y)) ⊎ (q i ≡ Ok y)
eaten k i p q y h = eaten_by k i p q y (sees k i) refl h

-- a list that was read on from those found before, up to its closing sign
pub record Found {A : Type 0} (item : A → Input → Input → Type 0) (between closing : Kind) (n : ℕ) (found xs : List A) (i j : Input) : Type 0 where
  pub more : List A
  pub end : Input
  pub all : xs ≡ found ++ more
  pub listed : Listed item between more i end
  pub few : length more ≤ n
  pub close : Sign closing end j

abbrev pub found_last : {A : Type 0} (item : A → Input → Input → Type 0) (between closing : Kind) (n : ℕ) (found xs : List A) (x : A) (i k j : Input) → item x i k → Sign closing k j → xs ≡ found ++ x ∷ [] → Found item between closing (suc n) found xs i j
found_last item between closing n found xs x i k j h c e = record { more = x ∷ []; end = k; all = e; listed = last x i k h; few = omega arith; close = c }

abbrev pub found_also : {A : Type 0} (item : A → Input → Input → Type 0) (between closing : Kind) (n : ℕ) (found xs : List A) (x : A) (i k m j : Input) → item x i k → Sign between k m → Found item between closing n (found ++ x ∷ []) xs m j → Found item between closing (suc n) found xs i j
found_also item between closing n found xs x i k m j h s f = record {
  more = x ∷ f.more;
  end = f.end;
  all = f.all ∙ append_assoc found (x ∷ []) f.more;
  listed = also x f.more i k m f.end h s f.listed;
  few = let few : length f.more ≤ n = f.few in omega arith;
  close = f.close;
}

-- three tests that all failed
pub past_three : {B E : Type 0} (a b c : Bool) (d e f : E) (v : Result B E) (y : B) → cond a (Err d) (cond b (Err e) (cond c (Err f) v)) ≡ Ok y → (a ≡ false) × (b ≡ false) × (c ≡ false) × (v ≡ Ok y)
past_three true b c d e f v y h = absurd (cc)
past_three false true c d e f v y h = absurd (cc)
past_three false false true d e f v y h = absurd (cc)
past_three false false false d e f v y h = (refl, refl, refl, h)

-- a variable that is none of those seen
pub variable_new : (seen : List ℕ) (x : ℕ) (i j : Input) → variable seen i ≡ Ok (x, j) → Is (variable []) x i j × (list_any (λ y. y == x) seen ≡ false)
unfolding variable
variable_new seen x i j h =
    let at = place_of (token i).text i.vars in
    let p = past_three (not (sees kind.Variable i)) (list_any (λ y. y == at) seen) (nat_lt i.limits.items (length (token i).text)) _ _ _ _ _ h in
    let e : at ≡ x = ok_value _ _ _ _ p.3 in
    (rw (p.0, p.2) p.3, rw (← e) p.1)

-- nothing is taken
pub nothing : {A : Type 0} (R : A → Input → Type 0) (x y : A) (i j : Input) → pure x i ≡ Ok (y, j) → R x i → R y j
nothing {A} R x y i j h r = subst (λ (z : A). R z j) (ok_value x y i j h) (subst (λ (m : Input). R x m) (ok_input x y i j h) r)

pub same_itself : (k : Kind) → same_kind k k ≡ true
unfolding same_kind
same_itself kind.Name = refl
same_itself _ = refl

-- the token that comes next, by its kind
pub taken : (k : Kind) (i : Input) → (token i).kind ≡ k → expect k i ≡ Ok ((token i).line, next i)
unfolding expect sees
taken k i e = rw (e, same_itself k) refl

pub sign_at : (k : Kind) (i : Input) → (token i).kind ≡ k → Sign k i (next i)
sign_at k i e = sign (token i).line i (next i) (taken k i e)

pub enclosed_found : {A : Type 0} (item : A → Input → Input → Type 0) (closing : Kind) (xs : List A) (i j : Input) → Found item kind.Comma closing i.limits.items [] xs i j → Enclosed item closing xs i j
enclosed_found {A} item closing xs i j f = subst (λ (ys : List A). Enclosed item closing ys i j) (sym f.all) (enclosed f.more i f.end j f.listed f.few f.close)
