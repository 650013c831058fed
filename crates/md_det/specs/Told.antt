-- The judgements of the code as the definitions have them.
use Rattle.std.specs.Prelude.{List, ◌++◌, Option, Some, None}
use Rattle.std.specs.Borrow.{Bor}
use Rattle.md_hlds.specs.declared.program.TypeDef.{TypeDef}
use Rattle.md_hlds.specs.Hlds.{HldsTypeDef, hlds_of, type_def_of}
use Rattle.md_modes.specs.Notes.{program_notes}
use Rattle.md_det.specs.declared.context.Context.{Context}
use Rattle.md_det.specs.declared.judge.Judged.{Judged}
use Rattle.md_det.specs.declared.judge.Found as code
use Rattle.md_det.specs.declared.finding.Finding.{Finding}
use Rattle.md_det.specs.Judge.{Reading, reading_of, Judgement, judgement, Found, found}

abbrev pub reading_in : Context → Reading
reading_in c = reading_of (hlds_of c.moded.now) (program_notes (hlds_of c.moded.now))

-- a judgement, with all that has been found so far
abbrev pub judged_told : Judged → List Finding → Judgement
judged_told j findings = judgement j.pair j.fault findings

abbrev pub found_told : code.Found → List Finding → Found
found_told f findings = found f.switch f.pair f.fault findings

-- findings, and then what is found within a goal
abbrev pub found_onto : List Finding → Found → Found
found_onto fs f = found f.switch f.pair f.fault (fs ++ f.below)

abbrev pub family_told : Option (Bor TypeDef) → Option HldsTypeDef
family_told None = None
family_told (Some t) = Some (type_def_of t.now)
