use Rattle.std.proofs.Common.{nat_lt, length, [], refl, arith}
use Rattle.std.proofs.lemmas.Bool.{lt-ltb}
use Rattle.md_deepfile.specs.Fields.{link_callee}
use Rattle.md_deepfile.specs.Format.{number}
use Rattle.md_deepfile.specs.State.{state_of, next_link, width}
use Rattle.md_deepfile.specs.declared.part.Field.TheVariants as fields
use Rattle.md_deepfile.specs.declared.part.Part.TheVariants as parts
use Rattle.md_deepfile.proofs.Reading.{range_passes}
use Rattle.md_deepfile.proofs.reader.Reader.link_site.Goals as goal

pub returns-clause-follows : goal.returns-clause-follows
returns-clause-follows c =
    let s = state_of c.args.self.now in
    range_passes (nat_lt c.args.site (length s.rows.statics.sites)) (number (link_callee (width s.version) s.rows (next_link s) c.args.caller c.args.site)) s.at (record s { part = parts.Number (fields.LinkCallee c.args.caller c.args.site); left = 4; carry = [] }) _ (lt-ltb _ _ (omega arith)) c.expect.ensures (λ rest. refl)
