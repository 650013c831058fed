use Rattle.std.proofs.Common.{get_or}
use Rattle.std.proofs.lemmas.List.{get_or_default}
use Rattle.md_tree.specs.Children.{Child}
use Rattle.md_tree.proofs.Left.{is_next, none_left}
use Rattle.md_tree.proofs.rest.next_child.Goals as goal

pub returns-then-child-rest : goal.returns-then-child-rest
returns-then-child-rest c =
    let cs = c.args.children.now in
    let d : Child = (0, record { 0 = 0 }, 0) in
    let there = c.if-rest-children.false in
    let at = get_or_default cs c.args.rest.place d (get_or cs c.args.rest.place d) there in
    is_next cs c.args.rest (get_or cs c.args.rest.place d) there at c.if-child-rest.true

pub returns-else-child-rest : goal.returns-else-child-rest
returns-else-child-rest c =
    let cs = c.args.children.now in
    let d : Child = (0, record { 0 = 0 }, 0) in
    let there = c.if-rest-children.false in
    let at = get_or_default cs c.args.rest.place d (get_or cs c.args.rest.place d) there in
    none_left cs c.args.rest (get_or cs c.args.rest.place d) there at c.requires.by_parent c.requires.past c.if-child-rest.false
