-- How many fields so many bytes can hold: each has a name, a colon and the end of its line.
use Rattle.std.proofs.Common.{ℕ, suc, ◌*◌, ◌≤◌, List, [], ◌∷◌, ◌++◌, length, All, arith, length-append, ap}
use Rattle.std.specs.List.{flat_map}
use Rattle.httparse.specs.Ascii.{colon, space}
use Rattle.httparse.specs.Grammar.{LineEnd, crlf, lf, print_end, Field, IsField, print_field, print_section, RequestHead, IsRequestHead, print_request, print_blank, print_version}
use Rattle.httparse.specs.Spans.{RequestExceeds}

end_size : (e : LineEnd) → 1 ≤ length (print_end e)
end_size crlf = omega arith
end_size lf = omega arith

field_size : (f : Field) → IsField f → 3 ≤ length (print_field f)
field_size f is =
    omega (arith, is.name.0, end_size f.end, length-append f.name (colon ∷ f.raw), length-append (f.name ++ colon ∷ f.raw) (print_end f.end))

fields_size : (fields : List Field) → All IsField fields → 3 * length fields ≤ length (flat_map print_field fields)
fields_size [] all = omega arith
fields_size (f ∷ fields) all =
    omega (arith, field_size f (all 0 f (omega arith)), fields_size fields (λ k d lt. all (suc k) d (omega arith)), length-append (print_field f) (flat_map print_field fields))

section_size : (fields : List Field) (e : LineEnd) → All IsField fields → 3 * length fields ≤ length (print_section fields e)
section_size fields e all = omega (arith, fields_size fields all, length-append (flat_map print_field fields) (print_end e))

head_size : (h : RequestHead) → IsRequestHead h → 3 * length h.fields ≤ length (print_request h)
unfolding print_request
head_size h is =
    omega (arith, section_size h.fields h.last is.fields, length-append (print_blank h.blank ++ h.method ++ space ∷ h.target ++ space ∷ print_version h.minor ++ print_end h.line_end) (print_section h.fields h.last))

-- no 8,192 bytes hold more than 2,731 fields
pub never_exceeds : (bytes : List ℕ) → length bytes ≤ 8192 → RequestExceeds 2731 bytes → ⊥
never_exceeds bytes within exceeds =
    omega (
      arith,
      exceeds.5,
      within,
      head_size exceeds.3 exceeds.4.0,
      ap length exceeds.2,
      ap length exceeds.4.1,
      length-append exceeds.0 exceeds.1,
      length-append exceeds.0 (print_end lf),
      length-append (print_request exceeds.3) [],
    )
