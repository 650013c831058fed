use Rattle.std.proofs.Common.{◌-◌, ◌++◌, ◌∷◌, [], refl, arith}
use Rattle.std.proofs.lemmas.Grind.{common_steps}
use Rattle.md_deepfile.specs.Fields.{link_own}
use Rattle.md_deepfile.specs.State.{state_of, next_link, width}
use Rattle.md_deepfile.specs.declared.part.Field.TheVariants as fields
use Rattle.md_deepfile.specs.declared.part.Part.TheVariants as parts
use Rattle.md_deepfile.proofs.Reading.{counts_go}
use Rattle.md_deepfile.proofs.reader.Reader.link_count_of.Goals as goal

pub returns-clause-follows : goal.returns-clause-follows
returns-clause-follows c =
    let s = state_of c.args.self.now in
    counts_go s.wanted (s.own ++ c.args.number ∷ []) c.push.new.self.items (link_own (width s.version) s.rows (next_link s) c.args.caller c.args.site c.args.callee) s.at
    (record s { part = parts.Number (fields.LinkOwn c.args.caller c.args.site c.args.callee); left = 4; carry = []; wanted = s.wanted - 1; own = c.push.new.self.items }) _ (omega arith) c.in_ok-push.ensures.items c.expect.ensures (λ rest. refl)

pub returns-clause-ready : goal.returns-clause-ready
returns-clause-ready c = grind (arith, common_steps)

pub returns-then-self-eq0-clause-follows : goal.returns-then-self-eq0-clause-follows
returns-then-self-eq0-clause-follows c = grind (arith, common_steps)

pub returns-then-self-eq0-clause-ready : goal.returns-then-self-eq0-clause-ready
returns-then-self-eq0-clause-ready c = grind (arith, common_steps)
