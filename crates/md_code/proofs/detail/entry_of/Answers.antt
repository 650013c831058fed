use Rattle.std.proofs.Common.{◌∙◌, ap, Bool}
use Rattle.md_hlds.specs.Hlds.{hlds_of, procedure_of}
use Rattle.md_code.specs.declared.callee.Callee.{Callee}
use Rattle.md_code.specs.Leaves.{leaves_table, has_choices}
use Rattle.md_code.specs.Tables.{entry_by}
use Rattle.md_code.proofs.detail.entry_of.Goals as goal

pub returns : goal.returns
returns c = λ there.
    let s = hlds_of c.args.tables.now.source.checked.now in
    c.in_ok-entry.ensures
    ∙ (ap (λ (b : Bool). entry_by b c.leaves-leaves.result c.callee-callee.result.body) c.has_choices-is_many.ensures
    ∙ (ap (λ (b : Bool). entry_by (has_choices c.args.pred.now.det) b c.callee-callee.result.body) c.leaves-leaves.ensures
    ∙ ap (λ (e : Callee). entry_by (has_choices c.args.pred.now.det) (leaves_table s e.body) e.body) (c.callee-callee.ensures (procedure_of c.args.pred.now) there)))
