-- The notes of the code and those of the definitions.
use Rattle.std.proofs.Common.{◌≡◌, refl, sym, ap, subst, arith, ℕ, zero, suc, ◌<◌, ◌≤◌, List, [], ◌∷◌, length, Option, Some, None, MatchOption, slice_get, get_or, Bor}
use Rattle.std.specs.Slice.{IsGetResult}
use Rattle.md_modes.specs.declared.class.Note as code
use Rattle.md_modes.specs.Notes.{Note}
use Rattle.md_modes.specs.Classes.{note_told, notes_told}

note_at : (ns : List code.Note) (i : ℕ) (n : code.Note) → i < length ns → n ≡ get_or ns i n → slice_get (notes_told ns) i ≡ Some (note_told n)
note_at [] i n lt is = absurd (omega (arith, lt))
note_at (m ∷ ns) zero n lt is = ap (λ (x : code.Note). Some (note_told x)) (sym is)
note_at (m ∷ ns) (suc i) n lt is = note_at ns i n (omega (arith, lt)) is

no_note_at : (ns : List code.Note) (i : ℕ) → length ns ≤ i → slice_get (notes_told ns) i ≡ None
no_note_at [] i lt = refl
no_note_at (m ∷ ns) zero lt = absurd (omega (arith, lt))
no_note_at (m ∷ ns) (suc i) lt = no_note_at ns i (omega (arith, lt))

-- what a look-up among the notes of the code finds
pub note_found : (ns : List code.Note) (i : ℕ) (notes : List Note) (r : Option (Bor code.Note)) → notes_told ns ≡ notes → IsGetResult ns i i r
    → MatchOption r (slice_get notes i ≡ None) (λ note. slice_get notes i ≡ Some (note_told note.now))
note_found ns i notes None are got = subst (λ (ms : List Note). slice_get ms i ≡ None) are (no_note_at ns i got.3)
note_found ns i notes (Some m) are got = subst (λ (ms : List Note). slice_get ms i ≡ Some (note_told m.now)) are (note_at ns i m.now got.3.0 got.1)
