use Rattle.std.proofs.Common.{◌-◌, nat_lt, length, [], ap, arith}
use Rattle.std.proofs.lemmas.Bool.{lt-ltb}
use Rattle.md_deepfile.specs.Fields.{Text, link_own}
use Rattle.md_deepfile.specs.Format.{numbers, read}
use Rattle.md_deepfile.specs.State.{state_of, next_link, width}
use Rattle.md_deepfile.specs.declared.part.Field.TheVariants as fields
use Rattle.md_deepfile.specs.declared.part.Part.TheVariants as parts
use Rattle.md_deepfile.proofs.Reading.{range_passes, numbers_first}
use Rattle.md_deepfile.proofs.reader.Reader.link_callee.Goals as goal

pub returns-clause-follows : goal.returns-clause-follows
returns-clause-follows c =
    let s = state_of c.args.self.now in
    range_passes (nat_lt c.args.callee (length s.rows.nodes)) (numbers (width s.version) [] (link_own (width s.version) s.rows (next_link s) c.args.caller c.args.site c.args.callee)) s.at (record s { part = parts.Number (fields.LinkOwn c.args.caller c.args.site c.args.callee); left = 4; carry = []; wanted = width s.version - 1; own = [] }) _ (lt-ltb _ _ (omega (arith, ap length c.nodes.ensures))) c.expect_counts.ensures (λ rest. ap (λ (t : Text). read t s.at rest) (numbers_first s.version (link_own (width s.version) s.rows (next_link s) c.args.caller c.args.site c.args.callee)))
