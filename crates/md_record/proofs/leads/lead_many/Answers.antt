use Rattle.std.proofs.Common.{◌-◌, refl}
use Rattle.md_record.proofs.Leading.{many-leads, many-cost, many-below}
use Rattle.md_record.proofs.leads.lead_many.Goals as goal

pub count-requires : goal.count-requires
count-requires g c =
    let a = c.args in
    many-below a.tables.now c.find_or_add_to.new.tables a.node a.site a.callee c.in_ok-link.link (c.find_or_add_to.new.steps - a.steps.now) a.old c.in_ok-link.ensures.ok

pub returns-clause-ok : goal.returns-clause-ok
returns-clause-ok g c =
    let a = c.args in
    many-leads a.tables.now c.find_or_add_to.new.tables c.count.new.self a.node a.site a.callee c.in_ok-link.link (c.find_or_add_to.new.steps - a.steps.now) a.old c.requires.higher_order c.in_ok-link.ensures.ok c.count.ensures.value

pub returns-clause-cost : goal.returns-clause-cost
returns-clause-cost g c =
    let a = c.args in
    many-cost a.tables.now c.find_or_add_to.new.tables c.count.new.self a.node a.site a.callee c.in_ok-link.link (c.find_or_add_to.new.steps - a.steps.now) a.steps.now c.find_or_add_to.new.steps c.count.new.steps a.old c.in_ok-link.ensures.ok c.count.ensures.value
    refl c.in_ok-link.ensures.forward c.count.ensures.cost
