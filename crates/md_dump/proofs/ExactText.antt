-- The texts that are read as a profile are those that spell it.
use Rattle.std.proofs.Common.{◌≡◌, ℕ, ◌==◌, List, map, Ok, Err, refl, sym, ap, ◌∙◌}
use Rattle.std.specs.List.{flat_map}
use Rattle.std.proofs.lemmas.List.Folds.{flat_map-map}
use Rattle.md_dynamic.specs.Profile.{ProfileRows}
use Rattle.md_deepfile.proofs.Exact.{fields_valid, valid_fields_of, fine_in_two}
use Rattle.md_dump.specs.Due.{parts_of, read}
use Rattle.md_dump.specs.Lines.{profile_text}
use Rattle.md_dump.specs.Follows.{IsFault}
use Rattle.md_dump.specs.Left.{read_on}
use Rattle.md_dump.specs.Spells.{Spells, IsFaultOf, Reads}
use Rattle.md_dump.specs.declared.fault.DumpFault.{DumpFault}
use Rattle.md_dump.specs.declared.fault.DumpFault.TheVariants.{Line, NoMemory}
use Rattle.md_dump.specs.declared.lines.Lines.{Lines}
use Rattle.md_dump.specs.Text.{Words, line, dump_lines}
use Rattle.md_dump.proofs.Accepting.{read_accepts, accepts_read}
use Rattle.md_dump.proofs.Clean.{row}
use Rattle.md_dump.proofs.Cuts.{some_part}
use Rattle.md_dump.proofs.Joined.{ended_by, split_lines, lines_split}
use Rattle.md_dump.proofs.WholeText.{text_takes, text_again, text_lines}

lines_joined : (lines : List Words) → flat_map (ended_by 10) (map row lines) ≡ flat_map line lines
lines_joined lines = flat_map-map (ended_by 10) row lines

pub read_spells : (text : List ℕ) (f : ProfileRows) → read profile_text 0 (parts_of text) ≡ Ok f → Spells text f
read_spells text f is =
    let t = read_accepts profile_text 0 (parts_of text) f (some_part (λ b. b == 10) text) is in
    let w = text_takes t.lines f t.goes in
    let fine = fields_valid 7 f w.fields in
    record {
      valid = fine.valid;
      room = fine.room;
      is = lines_split 10 text t.lines t.are ∙ ap (flat_map (ended_by 10)) w.parts ∙ lines_joined (dump_lines f);
    }

pub spells_read : (text : List ℕ) (f : ProfileRows) → Spells text f → read profile_text 0 (parts_of text) ≡ Ok f
spells_read text f spells =
    let fields = valid_fields_of 7 f f.links refl (fine_in_two f spells.valid spells.room) in
    ap (λ (bs : List ℕ). read profile_text 0 (parts_of bs)) (spells.is ∙ sym (lines_joined (dump_lines f)))
    ∙ ap (read profile_text 0) (split_lines 10 (map row (dump_lines f)) (text_lines f fields))
    ∙ accepts_read profile_text 0 (map row (dump_lines f)) f (text_again f fields)

-- what is read from the first line on
pub from_start : (lines : Lines) (text : List ℕ) → lines.before ≡ 0 → lines.rest.now ≡ text → read_on profile_text lines ≡ read profile_text 0 (parts_of text)
from_start lines text start rest = λ i. read profile_text (start i) (parts_of (rest i))

pub one_profile : (text : List ℕ) (f g : ProfileRows) → Spells text f → read profile_text 0 (parts_of text) ≡ Ok g → g ≡ f
one_profile text f g spells is = let e : Ok g ≡ Ok f = sym is ∙ spells_read text f spells in cc e

-- a text that spells a profile has no line at fault
pub no_fault : (text : List ℕ) (f : ProfileRows) (why : DumpFault) → Spells text f → IsFault why (read profile_text 0 (parts_of text)) → Reads f (Err why)
no_fault text f (Line n) spells is = absurd (let e : Err n ≡ Ok f = sym is ∙ spells_read text f spells in cc e)
no_fault text f NoMemory spells is = tt

pub first_fault : (text : List ℕ) (why : DumpFault) → IsFault why (read profile_text 0 (parts_of text)) → IsFaultOf text why
first_fault text (Line n) is = is
first_fault text NoMemory is = tt
