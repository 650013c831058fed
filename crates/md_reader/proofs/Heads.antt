-- The variables of a clause's head, each with the sign after it.
use Rattle.std.proofs.Common.{◌≡◌, ℕ, suc, List, [], ◌∷◌, ◌++◌, refl, Ok, Err}
use Rattle.md_token.specs.declared.kind.Kind.{Kind}
use Rattle.md_token.specs.declared.kind.Kind.TheVariants as kind
use Rattle.md_reader.specs.Input.{Input, Parser, Outcome, and_then, expect, variable}
use Rattle.md_reader.specs.Rules.{head_from}

-- a variable behind those so far, and the sign after it
abbrev pub joined : Kind → List ℕ → Parser (List ℕ)
joined sign seen = λ i. and_then (variable seen i) (λ x j. and_then (expect sign j) (λ _ k. Ok (seen ++ x ∷ [], k)))

by_sign : {B : Type 0} (r : Outcome ℕ) (xs : List ℕ) (f : List ℕ → Parser B) → and_then r (λ _ k. f xs k) ≡ and_then (and_then r (λ _ k. Ok (xs, k))) f
by_sign (Ok p) xs f = refl
by_sign (Err e) xs f = refl

by_variable : {B : Type 0} (r : Outcome ℕ) (q : Parser ℕ) (seen : List ℕ) (f : List ℕ → Parser B) → and_then r (λ x j. and_then (q j) (λ _ k. f (seen ++ x ∷ []) k)) ≡ and_then (and_then r (λ x j. and_then (q j) (λ _ k. Ok (seen ++ x ∷ [], k)))) f
by_variable (Ok p) q seen f = by_sign (q p.1) (seen ++ p.0 ∷ []) f
by_variable (Err e) q seen f = refl

pub next_head : (n : ℕ) (seen : List ℕ) (i : Input) → head_from (suc n) seen i ≡ and_then (joined kind.Comma seen i) (head_from n)
unfolding head_from
next_head n seen i = by_variable (variable seen i) (expect kind.Comma) seen (head_from n)

pub last_head : (seen : List ℕ) (i : Input) → head_from 0 seen i ≡ joined kind.Close seen i
unfolding head_from
last_head seen i = refl
