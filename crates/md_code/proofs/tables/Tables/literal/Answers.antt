use Rattle.std.proofs.Common.{◌∙◌, sym, ap, Some, None, length, refl}
use Rattle.md_code.specs.Tables.{literal_place}
use Rattle.md_code.proofs.NumberLemmas.{literal-number}
use Rattle.md_code.proofs.tables.Tables.literal.Goals as goal

pub returns-in-None : goal.returns-in-None
returns-in-None c =
    literal-number c.args.bytes.now c.args.self.now.literals.keys c.len.result None c.len.ensures.len (sym c.in-None.is ∙ c.get_index_of.ensures.index)
    ∙ ap (literal_place c.args.bytes.now 0) c.args.self.now.spelled

pub returns-in-Some : goal.returns-in-Some
returns-in-Some c =
    literal-number c.args.bytes.now c.args.self.now.literals.keys (length c.args.self.now.literals.keys) (Some c.in-Some.number) refl (sym c.in-Some.is ∙ c.get_index_of.ensures.index)
    ∙ ap (literal_place c.args.bytes.now 0) c.args.self.now.spelled
