use Rattle.std.proofs.Common.{nat_lt, length, [], ap, refl, arith}
use Rattle.std.proofs.lemmas.Bool.{lt-ltb}
use Rattle.md_deepfile.specs.Fields.{link_site}
use Rattle.md_deepfile.specs.Format.{number}
use Rattle.md_deepfile.specs.State.{state_of, next_link, width}
use Rattle.md_deepfile.specs.declared.part.Field.TheVariants as fields
use Rattle.md_deepfile.specs.declared.part.Part.TheVariants as parts
use Rattle.md_deepfile.proofs.Reading.{range_passes}
use Rattle.md_deepfile.proofs.reader.Reader.link_caller.Goals as goal

pub returns-clause-follows : goal.returns-clause-follows
returns-clause-follows c =
    let s = state_of c.args.self.now in
    range_passes (nat_lt c.args.caller (length s.rows.nodes)) (number (link_site (width s.version) s.rows (next_link s) c.args.caller)) s.at (record s { part = parts.Number (fields.LinkSite c.args.caller); left = 4; carry = [] }) _ (lt-ltb _ _ (omega (arith, ap length c.nodes.ensures))) c.expect.ensures (λ rest. refl)
