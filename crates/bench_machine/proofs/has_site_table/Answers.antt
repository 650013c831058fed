use Rattle.md_hlds.specs.Hlds.{hlds_of}
use Rattle.bench_machine.proofs.has_site_table.Goals as goal

pub returns : goal.returns
returns c =
    let s = hlds_of c.args.checked.now in
    let text = c.program.ensures.of_text in
    c.programs_have_tables.ensures s (c.accepted_texts_have_mains.ensures.variable text.text s text.spells c.program.ensures.moded)
