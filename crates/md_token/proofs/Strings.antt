-- How a string goes on past one byte.
use Rattle.std.proofs.Common.{◌≡◌, ℕ, ◌+◌, ◌<◌, List, length, get_or, drop, refl, add-one, drop-cons, Bool, true, false, cond, sym, ap, ◌∙◌}
use Rattle.md_token.specs.Token.{string_end, past}
use Rattle.md_token.specs.declared.string.Within.{Within}
use Rattle.md_token.specs.declared.string.Within.TheVariants as within

abbrev pub open_at : Bool → Within
open_at escaped = cond escaped within.Escaping within.Whole

pub past_at : (bytes : List ℕ) (i : ℕ) (escaped : Bool) → i < length bytes → string_end (open_at escaped) i (drop i bytes) ≡ string_end (past escaped (get_or bytes i 0)) (i + 1) (drop (i + 1) bytes)
past_at bytes i true h = rw (add-one i, drop-cons bytes i 0) refl
past_at bytes i false h = rw (add-one i, drop-cons bytes i 0) refl

pub goes_on : (bytes : List ℕ) (i : ℕ) (escaped : Bool) (w : Within) → i < length bytes → w ≡ past escaped (get_or bytes i 0) → string_end within.Whole 0 bytes ≡ string_end (open_at escaped) i (drop i bytes) → string_end within.Whole 0 bytes ≡ string_end w (i + 1) (drop (i + 1) bytes)
goes_on bytes i escaped w h e before = before ∙ past_at bytes i escaped h ∙ ap (λ (v : Within). string_end v (i + 1) (drop (i + 1) bytes)) (sym e)
