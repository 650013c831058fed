-- What a check says of an accepted text.
use Rattle.std.proofs.Common.{sym, subst, inr, ℕ, List, Bool, Option}
use Rattle.std.specs.Prelude.{Result, Ok, Err}
use Rattle.md_base.specs.Files.{Files}
use Rattle.md_hlds.specs.Hlds.{Hlds}
use Rattle.md_tool.specs.declared.fault.Fault.{Fault}
use Rattle.md_tool.specs.declared.fault.Fault.TheVariants.{Usage, Read, TooLong, Refused, OutOfSteps, Thrown, Damaged, TooLarge, TwoEntries, DamagedLine, AnotherProgram, NoSuchPage, Write, NoMemory, Network}
use Rattle.md_tool.specs.Accepted.{Accepts}
use Rattle.md_tool.specs.Due.{IsText, CheckEnds, WriteEnds, check_output}

-- what there is to say of an accepted text was written, as far as it was
written_of : (text : List ℕ) (print : Bool) (program : Hlds) (before now : Option (List ℕ)) (writes : Type 0) (r : Result (Unit {0}) Fault) (a : Accepts text program)
    → WriteEnds (check_output print program) before now writes r → WriteEnds (check_output print a.accepted.program) before now writes r
written_of text print program before now writes r a h = subst (λ (p : Hlds). WriteEnds (check_output print p) before now writes r) (sym a.is_program) h

pub check_shown : (held : Option Files) (file text : List ℕ) (print : Bool) (program : Hlds) (before now : Option (List ℕ)) (reads writes : Type 0) (r : Result (Unit {0}) Fault)
    → IsText held file text → Accepts text program → WriteEnds (check_output print program) before now writes r → CheckEnds held file print before now reads writes r
check_shown held file text print program before now reads writes (Ok done) is_text a h = record {
  text = text;
  is_text = is_text;
  accepted = a.accepted;
  written = written_of text print program before now writes (Ok done) a h;
}
check_shown held file text print program before now reads writes (Err Write) is_text a h = (
  h.0,
  record {
    text = text;
    is_text = is_text;
    accepted = a.accepted;
    written = (written_of text print program before now writes (Err Write) a h).1;
  },
)
check_shown held file text print program before now reads writes (Err NoMemory) is_text a h = inr (record {
  text = text;
  is_text = is_text;
  accepted = a.accepted;
  written = written_of text print program before now writes (Err NoMemory) a h;
})
check_shown held file text print program before now reads writes (Err Usage) is_text a h = absurd h
check_shown held file text print program before now reads writes (Err Network) is_text a h = absurd h
check_shown held file text print program before now reads writes (Err (Damaged at kind)) is_text a h = absurd h
check_shown held file text print program before now reads writes (Err (TooLarge most)) is_text a h = absurd h
check_shown held file text print program before now reads writes (Err (TwoEntries clique x y)) is_text a h = absurd h
check_shown held file text print program before now reads writes (Err (DamagedLine n)) is_text a h = absurd h
check_shown held file text print program before now reads writes (Err AnotherProgram) is_text a h = absurd h
check_shown held file text print program before now reads writes (Err NoSuchPage) is_text a h = absurd h
check_shown held file text print program before now reads writes (Err Read) is_text a h = absurd h
check_shown held file text print program before now reads writes (Err TooLong) is_text a h = absurd h
check_shown held file text print program before now reads writes (Err (Refused line w)) is_text a h = absurd h
check_shown held file text print program before now reads writes (Err OutOfSteps) is_text a h = absurd h
check_shown held file text print program before now reads writes (Err (Thrown bytes)) is_text a h = absurd h
