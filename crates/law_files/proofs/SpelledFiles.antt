-- What is read of bytes is what they spell, so they spell one profile or have one first damage.
use Rattle.std.proofs.Common.{◌≡◌, ℕ, ◌<◌, ◌⊎◌, inl, inr, List, All, Result, Ok, Err, refl, sym, ◌∙◌}
use Rattle.std.proofs.lemmas.List.Elements.{recursion_from_All}
use Rattle.md_dynamic.specs.Profile.{ProfileRows}
use Rattle.md_dynamic.specs.Valid.{IsValid}
use Rattle.md_deepfile.specs.Bytes.{file_bytes, file_bytes1}
use Rattle.md_deepfile.specs.Fields.{profile_file}
use Rattle.md_deepfile.specs.Format.{Damage, read}
use Rattle.md_deepfile.specs.Spells.{HasRoom, Spells}
use Rattle.md_deepfile.proofs.Exact.{read_spells, spells_read}
use Rattle.law_files.specs.Spelled.{AreDamaged, AreWhole}

pub one_profile : (bytes : List ℕ) (f g : ProfileRows) → Spells bytes f → Spells bytes g → f ≡ g
one_profile bytes f g spelled also = let both : Ok f ≡ Ok g = sym (spells_read bytes f spelled) ∙ spells_read bytes g also in cc

-- bytes that spell a profile have no damage
none_damaged : (bytes : List ℕ) (f : ProfileRows) (d : Damage) → Spells bytes f → read profile_file 0 bytes ≡ Err d → ⊥
none_damaged bytes f d spelled damaged = let both : Err d ≡ Ok f = sym damaged ∙ spells_read bytes f spelled in cc

pub are_whole : (bytes : List ℕ) (f : ProfileRows) → Spells bytes f → AreWhole bytes f
are_whole bytes f spelled = record {
  spelled = spelled;
  alone = λ g also. one_profile bytes g f also spelled;
  undamaged = λ d damaged. none_damaged bytes f d spelled damaged;
}

pub are_damaged : (bytes : List ℕ) (d : Damage) → read profile_file 0 bytes ≡ Err d → AreDamaged bytes d
are_damaged bytes d damaged = record {
  damaged = damaged;
  alone = λ e also. (let both : ◌≡◌ {A = Result ProfileRows Damage} (Err e) (Err d) = sym also ∙ damaged in cc);
  unspelled = λ f spelled. none_damaged bytes f d spelled damaged;
}

by_reading : (bytes : List ℕ) → All (λ b. b < 256) bytes → (r : Result ProfileRows Damage) → read profile_file 0 bytes ≡ r → ((f : ProfileRows) × AreWhole bytes f) ⊎ ((d : Damage) × AreDamaged bytes d)
by_reading bytes are (Ok f) is = inl (f, are_whole bytes f (read_spells bytes f (recursion_from_All (λ b. b < 256) bytes are) is))
by_reading bytes are (Err d) is = inr (d, are_damaged bytes d is)

pub whole_or_damaged : (bytes : List ℕ) → All (λ b. b < 256) bytes → ((f : ProfileRows) × AreWhole bytes f) ⊎ ((d : Damage) × AreDamaged bytes d)
whole_or_damaged bytes are = by_reading bytes are (read profile_file 0 bytes) refl

pub encoded : (f : ProfileRows) → IsValid f → HasRoom f → AreWhole (file_bytes f) f
encoded f valid room = are_whole (file_bytes f) f (record { valid = valid; room = room; are = inl refl })

pub encoded_before : (f : ProfileRows) → IsValid f → HasRoom f → All (λ l. l.own.excps ≡ 0) f.links → AreWhole (file_bytes1 f) f
encoded_before f valid room none = are_whole (file_bytes1 f) f (record { valid = valid; room = room; are = inr (refl, none) })
