use Rattle.std.proofs.Common.{ℕ, List, codes, ap, ◌∙◌}
use Rattle.md_people.specs.Callers.{callee_rows, in_order}
use Rattle.md_people.specs.Ports.{PortsRow, ports_table}
use Rattle.md_people.proofs.called.called_table.Goals as goal

pub returns : goal.returns
returns c = λ v is.
    c.in_ok-table.ensures
    ∙ ap (λ (rs : List PortsRow). ports_table c.whole_of-whole.result (codes "callee") rs) (
    c.deref-2.ensures.value ∙ c.in_ok-sorted.ensures ∙ ap (λ (rs : List PortsRow). in_order rs) (c.deref.ensures.value ∙ c.in_ok-rows.ensures v is))
    ∙ ap (λ (w : ℕ). ports_table w (codes "callee") (in_order (callee_rows v c.args.by c.args.id))) (c.whole_of-whole.ensures v is)
