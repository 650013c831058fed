use Rattle.std.proofs.Common.{sym, ◌∙◌}
use Rattle.md_dump.proofs.Parts.{six_added, in_parts}
use Rattle.md_dump.proofs.writing.dump.Goals as goal

pub returns : goal.returns
returns c =
    let first = rw (c.new-out.ensures.items, c.finished.ensures) at c.in_ok-put_front.ensures in
    let modules = rw (c.modules.ensures, c.statics.ensures) at c.in_ok-put_each.ensures in
    let procs = rw (c.procs.ensures, c.statics-2.ensures) at c.in_ok-put_each-2.ensures in
    let sites = rw (c.sites.ensures, c.statics-3.ensures) at c.in_ok-put_each-3.ensures in
    let contexts = rw c.nodes.ensures at c.in_ok-put_each-4.ensures in
    let links = rw c.links.ensures at c.in_ok-put_each-5.ensures in
    six_added _ _ _ _ _ _ _ _ _ _ _ _ first modules procs sites contexts links ∙ sym (in_parts c.args.profile.now)
