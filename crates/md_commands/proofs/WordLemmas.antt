-- Words, one after the other.
use Rattle.std.proofs.Common.{◌≡◌, ◌≢◌, ◌==◌, ◌≤◌, ◌<◌, ◌&&◌, refl, sym, ap, ℕ, suc, Bool, true, false, List, [], ◌∷◌, length, None, Bor, arith}
use Rattle.std.proofs.lemmas.Bool.Decides.{nat_tests}
use Rattle.std.specs.Prelude.{nat_le}
use Rattle.md_commands.specs.Form.{only, two, without_slash, are_few}
use Rattle.md_commands.specs.Told.{texts}

pub as_many_texts : (ws : List (Bor (List ℕ))) → length (texts ws) ≡ length ws
as_many_texts [] = refl
as_many_texts (w ∷ ws) = ap suc (as_many_texts ws)

-- whether words are few
pub few_texts : (ws : List (Bor (List ℕ))) → 1 ≤ length ws → nat_le (length ws) 16 ≡ are_few (texts ws)
few_texts ws some = by (nat_le 1 (length (texts ws))) refl
  where
    by : (b : Bool) → nat_le 1 (length (texts ws)) ≡ b → nat_le (length ws) 16 ≡ (b && nat_le (length (texts ws)) 16)
    by true is = ap (λ (n : ℕ). nat_le n 16) (sym (as_many_texts ws))
    by false is = absurd (none (as_many_texts ws) (grind (arith, nat_tests, is)))
      where
        none : length (texts ws) ≡ length ws → length (texts ws) < 1 → ⊥
        none same few = omega (arith, same, few, some)

-- words that are not one
pub not_only : (ws : List (Bor (List ℕ))) → (length ws ≡ 1 → ⊥) → only (texts ws) ≡ None
not_only [] many = refl
not_only (v ∷ []) many = absurd (many refl)
not_only (v ∷ u ∷ ws) many = refl

-- words that are not two
pub not_two : (ws : List (Bor (List ℕ))) → (length ws ≡ 2 → ⊥) → two (texts ws) ≡ None
not_two [] other = refl
not_two (v ∷ []) other = refl
not_two (v ∷ u ∷ []) other = absurd (other refl)
not_two (v ∷ u ∷ w ∷ ws) other = refl

-- a word without the slash in front is whole
pub no_slash : (w : List ℕ) → ((rest : List ℕ) → w ≢ 47 ∷ rest) → without_slash w ≡ w
no_slash [] other = refl
no_slash (b ∷ bytes) other = go (b == 47) refl
  where
    go : (t : Bool) → (b == 47) ≡ t → without_slash (b ∷ bytes) ≡ b ∷ bytes
    go true e = absurd (other bytes (ap (λ n. n ∷ bytes) (grind (arith, nat_tests))))
    go false e = rw e refl
