use Rattle.std.proofs.Common.{◌≡◌, length, None, refl, sym, subst, arith}
use Rattle.std.proofs.lemmas.List.{length-replicate}
use Rattle.md_clique.specs.declared.search.State.TheVariants.{New}
use Rattle.md_clique.specs.Search.{Kept, Stands}
use Rattle.md_clique.specs.Links.{links_of}
use Rattle.md_clique.specs.Kept.{kept}
use Rattle.md_clique.proofs.Beginning.{begins}
use Rattle.md_clique.proofs.Classes.{are_classes}
use Rattle.md_clique.proofs.ListedLinks.{links_listed, links_within}
use Rattle.md_clique.proofs.search.find_classes.Goals as goal

pub explore_all-requires : goal.explore_all-requires
explore_all-requires c =
    let lists = c.requires in (
      links_within c.args.lists.now.starts.items c.args.lists.now.ends.items c.args.nodes lists,
      (
        links_listed c.args.lists.now.starts.items c.args.lists.now.ends.items c.args.nodes lists,
        subst (λ (k : Kept). (length k.states ≡ c.args.nodes) × (Stands (links_of c.args.nodes c.args.lists.now.starts.items c.args.lists.now.ends.items) c.args.lists.now None k × (length k.trail ≡ 0))) (sym c.in_ok-search.ensures)
            (length-replicate c.args.nodes New, (begins (links_of c.args.nodes c.args.lists.now.starts.items c.args.lists.now.ends.items) c.args.lists.now c.args.nodes (omega arith), refl)),
      ),
    )

pub returns : goal.returns
returns c =
    let e = c.in_ok-explore_all.ensures.nodes in
    let all = are_classes (links_of c.args.nodes c.args.lists.now.starts.items c.args.lists.now.ends.items) c.args.lists.now (kept c.explore_all.new.self) c.in_ok-explore_all.ensures.stands c.in_ok-explore_all.ensures.none_open
    (λ v there. c.in_ok-explore_all.ensures.seen v (omega (arith, e, there))) in
    rw (c.into_classes.ensures.states, c.into_classes.ensures.count) (rw e at all)
