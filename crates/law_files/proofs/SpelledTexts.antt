-- The same of texts: what is read of one is what it spells.
use Rattle.std.proofs.Common.{◌≡◌, ℕ, ◌⊎◌, inl, inr, List, Result, Ok, Err, refl, sym, ◌∙◌}
use Rattle.md_dynamic.specs.Profile.{ProfileRows}
use Rattle.md_dynamic.specs.Valid.{IsValid}
use Rattle.md_deepfile.specs.Spells.{HasRoom}
use Rattle.md_dump.specs.Due.{parts_of, read}
use Rattle.md_dump.specs.Lines.{profile_text}
use Rattle.md_dump.specs.Spells.{Spells}
use Rattle.md_dump.specs.Text.{dump_text}
use Rattle.md_dump.proofs.ExactText.{read_spells, spells_read}
use Rattle.law_files.specs.Spelled.{IsFaulty, IsWhole}

abbrev told : List ℕ → Result ProfileRows ℕ
told words = read profile_text 0 (parts_of words)

pub one_profile : (words : List ℕ) (f g : ProfileRows) → Spells words f → Spells words g → f ≡ g
one_profile words f g spelled also = let both : Ok f ≡ Ok g = sym (spells_read words f spelled) ∙ spells_read words g also in cc

none_faulty : (words : List ℕ) (f : ProfileRows) (line : ℕ) → Spells words f → told words ≡ Err line → ⊥
none_faulty words f line spelled faulty = let both : Err line ≡ Ok f = sym faulty ∙ spells_read words f spelled in cc

is_whole : (words : List ℕ) (f : ProfileRows) → Spells words f → IsWhole words f
is_whole words f spelled = record {
  spelled = spelled;
  alone = λ g also. one_profile words g f also spelled;
  faultless = λ line faulty. none_faulty words f line spelled faulty;
}

pub is_faulty : (words : List ℕ) (line : ℕ) → told words ≡ Err line → IsFaulty words line
is_faulty words line faulty = record {
  faulty = faulty;
  alone = λ n also. (let both : ◌≡◌ {A = Result ProfileRows ℕ} (Err n) (Err line) = sym also ∙ faulty in cc);
  unspelled = λ f spelled. none_faulty words f line spelled faulty;
}

by_reading : (words : List ℕ) (r : Result ProfileRows ℕ) → told words ≡ r → ((f : ProfileRows) × IsWhole words f) ⊎ ((line : ℕ) × IsFaulty words line)
by_reading words (Ok f) is = inl (f, is_whole words f (read_spells words f is))
by_reading words (Err line) is = inr (line, is_faulty words line is)

pub whole_or_faulty : (words : List ℕ) → ((f : ProfileRows) × IsWhole words f) ⊎ ((line : ℕ) × IsFaulty words line)
whole_or_faulty words = by_reading words (told words) refl

pub dumped : (f : ProfileRows) → IsValid f → HasRoom f → IsWhole (dump_text f) f
dumped f valid room = is_whole (dump_text f) f (record { valid = valid; room = room; is = refl })
