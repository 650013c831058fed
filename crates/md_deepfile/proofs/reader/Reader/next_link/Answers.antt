use Rattle.std.proofs.Common.{ap, sym, ◌∙◌, arith}
use Rattle.md_deepfile.specs.Fields.{Text, link_field, ending}
use Rattle.md_deepfile.specs.Format.{read}
use Rattle.md_deepfile.specs.State.{State, form_of, state_of, width}
use Rattle.md_deepfile.proofs.Reading.{several_more}
use Rattle.md_deepfile.proofs.reader.Reader.next_link.Goals as goal

pub returns-else-self-eq0-clause-leads : goal.returns-else-self-eq0-clause-leads
returns-else-self-eq0-clause-leads c = λ rest.
    let s = state_of c.args.self.now in
    ap (λ (t : Text). read t s.at rest) (several_more (link_field (width s.version)) s.more s.rows (ending (width s.version)) (omega arith))
    ∙ sym (ap (λ (t : State). read (form_of t) t.at rest) c.expect.ensures)
