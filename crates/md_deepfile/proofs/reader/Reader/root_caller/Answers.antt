use Rattle.std.proofs.Common.{◌==◌, [], refl, arith}
use Rattle.std.proofs.lemmas.Bool.{eq-eqb}
use Rattle.md_deepfile.specs.Bytes.{none}
use Rattle.md_deepfile.specs.Fields.{root_site}
use Rattle.md_deepfile.specs.Format.{number}
use Rattle.md_deepfile.specs.State.{state_of, next_link, width}
use Rattle.md_deepfile.specs.declared.part.Field.TheVariants as fields
use Rattle.md_deepfile.specs.declared.part.Part.TheVariants as parts
use Rattle.md_deepfile.proofs.Reading.{range_passes}
use Rattle.md_deepfile.proofs.reader.Reader.root_caller.Goals as goal

pub returns-clause-follows : goal.returns-clause-follows
returns-clause-follows c =
    let s = state_of c.args.self.now in
    range_passes (c.args.caller == none) (number (root_site (width s.version) s.rows (next_link s))) s.at (record s { part = parts.Number fields.RootSite; left = 4; carry = [] }) _ (eq-eqb _ _ (omega arith)) c.expect.ensures (λ rest. refl)
