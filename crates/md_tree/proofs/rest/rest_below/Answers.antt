use Rattle.std.proofs.Common.{List, ltb, map, refl, ap, rules}
use Rattle.std.proofs.lemmas.List.Sorted.{IsPartitionPoint-from_clause, IsPartitionedBy-ltb}
use Rattle.md_tree.specs.Children.{Child}
use Rattle.md_tree.proofs.Left.{all_below, no_lower}
use Rattle.md_tree.proofs.rest.rest_below.Goals as goal

pub returns : goal.returns
returns c =
    let cs = c.args.children.now in
    let parted = IsPartitionedBy-ltb (λ (x : Child). x.0) cs c.args.parent c.requires.by_parent in
    let point = IsPartitionPoint-from_clause (λ (x : Child). ltb x.0 c.args.parent) cs c.partition_point.result c.partition_point.ensures.partitioned parted (λ a r q k. search rules) in
    record {
      parent = refl;
      place = c.partition_point.ensures.bound;
      past = no_lower c.args.parent c.partition_point.result cs c.partition_point.ensures.bound point.1;
      cliques = ap (λ (xs : List Child). map (λ (x : Child). x.2) xs) (all_below c.args.parent c.partition_point.result cs c.partition_point.ensures.bound point.0);
    }
