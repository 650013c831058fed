use Rattle.std.proofs.Common.{◌==◌, ◌-◌, [], ap, arith}
use Rattle.std.proofs.lemmas.Bool.{eq-eqb}
use Rattle.md_deepfile.specs.Fields.{Text, root_own}
use Rattle.md_deepfile.specs.Format.{numbers, read}
use Rattle.md_deepfile.specs.State.{state_of, next_link, width}
use Rattle.md_deepfile.specs.declared.part.Field.TheVariants as fields
use Rattle.md_deepfile.specs.declared.part.Part.TheVariants as parts
use Rattle.md_deepfile.proofs.Reading.{range_passes, numbers_first}
use Rattle.md_deepfile.proofs.reader.Reader.root_callee.Goals as goal

pub returns-clause-follows : goal.returns-clause-follows
returns-clause-follows c =
    let s = state_of c.args.self.now in
    range_passes (c.args.callee == 0) (numbers (width s.version) [] (root_own s.rows (next_link s))) s.at (record s { part = parts.Number fields.RootOwn; left = 4; carry = []; wanted = width s.version - 1; own = [] }) _ (eq-eqb _ _ (omega arith)) c.expect_counts.ensures (λ rest. ap (λ (t : Text). read t s.at rest) (numbers_first s.version (root_own s.rows (next_link s))))
