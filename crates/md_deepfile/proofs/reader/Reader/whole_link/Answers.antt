use Rattle.std.proofs.Common.{◌++◌, sym, ap, ◌∙◌, rules, arith}
use Rattle.md_deepfile.specs.Fields.{Text}
use Rattle.md_deepfile.specs.Format.{read}
use Rattle.md_deepfile.specs.State.{state_of}
use Rattle.md_deepfile.specs.declared.part.Field.TheVariants as fields
use Rattle.md_deepfile.proofs.Ahead.{form_number, link_goes}
use Rattle.md_deepfile.proofs.reader.Reader.whole_link.Goals as goal

pub returns-clause-taken : goal.returns-clause-taken
returns-clause-taken c = λ yes rest.
    let s = state_of c.args.self.now in
    ap (λ (t : Text). read t s.at (c.args.bytes.now ++ rest)) (form_number fields.LinkCaller s c.requires.stands c.requires.whole c.requires.ready)
    ∙ link_goes s c.args.bytes.now rest c.number_at-caller.result c.number_at-site.result c.number_at-callee.result c.counts_at-own.result _ _ c.requires.size
    c.number_at-caller.ensures c.number_at-site.ensures c.number_at-callee.ensures c.counts_at-own.ensures (sym c.fits.ensures ∙ c.if-not-fits.false) (sym c.in_ok-add_link.ensures.added ∙ c.if-not-branch.false)
    (ap (λ g. record s.rows { nodes = g.nodes; links = g.links }) (c.in_ok-add_link.ensures.links c.if-not-branch.false)) (search (rules, arith))
    ∙ c.next_link.ensures.leads rest
