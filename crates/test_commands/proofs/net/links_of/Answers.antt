use Rattle.std.proofs.Common.{List, All, refl, sym, subst}
use Rattle.std.proofs.lemmas.List.Elements.{All-push}
use Rattle.test_memory.specs.Memory.{FailingLink, IsFreshFailingLink}
use Rattle.test_commands.proofs.net.links_of.Goals as goal

pub loop-request-preserved : goal.loop-request-preserved
loop-request-preserved c =
    let fresh : IsFreshFailingLink c.new.result = subst (λ (l : FailingLink). IsFreshFailingLink l) (sym c.new.ensures) (record { unread = refl; unwritten = refl; reads_well = refl; writes_well = refl }) in
    let all = All-push IsFreshFailingLink c.loop-request.coming.items c.new.result c.loop-request.invariant fresh in
    subst (λ (links : List FailingLink). All IsFreshFailingLink links) (sym c.in_ok-push.ensures.items) all
