use Rattle.std.proofs.Common.{◌-◌, nat_le, [], refl, arith}
use Rattle.std.proofs.lemmas.Bool.{le-leb}
use Rattle.md_deepfile.specs.Fields.{root_field, link_field, ending}
use Rattle.md_deepfile.specs.Format.{several}
use Rattle.md_deepfile.specs.State.{state_of, width}
use Rattle.md_deepfile.specs.declared.part.Field.TheVariants as fields
use Rattle.md_deepfile.specs.declared.part.Part.TheVariants as parts
use Rattle.md_deepfile.proofs.Reading.{range_passes}
use Rattle.md_deepfile.proofs.reader.Reader.link_count.Goals as goal

pub returns-clause-follows : goal.returns-clause-follows
returns-clause-follows c =
    let s = state_of c.args.self.now in
    range_passes (nat_le 1 c.args.count) (root_field (width s.version) s.rows (λ g. several (link_field (width s.version)) (c.args.count - 1) g (ending (width s.version)))) s.at (record s { part = parts.Number fields.RootCaller; left = 4; carry = []; more = c.args.count - 1 }) _ (le-leb _ _ (omega arith)) c.expect.ensures (λ rest. refl)
