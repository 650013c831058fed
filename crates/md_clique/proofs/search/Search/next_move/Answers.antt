use Rattle.std.proofs.Common.{◌≡◌, ◌-◌, length, get_or, Some, sym, arith}
use Rattle.std.specs.List.{slice_get}
use Rattle.std.proofs.lemmas.List.{get_or_read}
use Rattle.std.proofs.lemmas.Option.{get_or_from_slice_get, slice_get_within}
use Rattle.md_clique.specs.declared.search.State.{State}
use Rattle.md_clique.specs.declared.search.State.TheVariants.{New, Open, Closed}
use Rattle.md_clique.specs.Search.{last_first, nothing_pending, state_of}
use Rattle.md_clique.specs.Kept.{kept}
use Rattle.md_clique.proofs.Looking.{Looking, end_there, link_within, state_read, may_enter, may_join, may_pass_open, may_pass_closed}
use Rattle.md_clique.proofs.search.Search.next_move.Given.{Over}
use Rattle.md_clique.proofs.search.Search.next_move.Goals as goal
use Rattle.md_clique.proofs.search.Search.next_move.Goals.{Else-last, After-index, After-index-end}

first_is : (g : Over) (c : Else-last g) → c.index-first.result.now ≡ last_first c.args.self.now.first.items
first_is g c =
    let o = c.args.self.now.first.ok.0 in
    let some = c.requires.1.1.1 in
    let n : c.len.result - 1 ≡ length c.args.self.now.first.items - 1 = omega arith in
    rw (← n) (get_or_read c.args.self.now.first.items (c.len.result - 1) c.index-first.result.now (omega arith) c.index-first.ensures 0)

last_is : (g : Over) (c : Else-last g) → Some c.in-Some.field-0.now ≡ slice_get c.args.self.now.pending.items (length c.args.self.now.pending.items - 1)
last_is g c = rw c.deref.ensures.value at (c.in-Some.ensures.value)

look : (g : Over) (c : Else-last g) → Looking (kept c.args.self.now) c.in-Some.field-0.now
look g c =
    let first = first_is g c in
    let late = c.if-last-first.false in
    record {
      some = (let w = slice_get_within c.args.self.now.pending.items (length c.args.self.now.pending.items - 1) c.in-Some.field-0.now (sym (last_is g c)) in omega arith);
      is_last = sym (get_or_from_slice_get c.args.self.now.pending.items (length c.args.self.now.pending.items - 1) c.in-Some.field-0.now nothing_pending (sym (last_is g c)));
      in_last = omega arith;
      left = c.if-last.false;
    }

end_is : (g : Over) (c : After-index-end g) → c.index-end.result.now ≡ get_or c.args.lists.now.ends.items (c.in-Some.field-0.now.to - 1) 0
end_is g c =
    let there = end_there g.links c.args.lists.now (kept c.args.self.now) c.requires.1.0 c.requires.1.1.0 c.in-Some.field-0.now (look g (goal.at.After-index-end g c).Else-last) in
    get_or_read c.args.lists.now.ends.items (c.in-Some.field-0.now.to - 1) c.index-end.result.now there c.index-end.ensures 0

state_is : (g : Over) (c : After-index g) (s : State) → c.index.result.now ≡ s → state_of c.args.self.now.states.items c.index-end.result.now ≡ s
state_is g c s is =
    let end = end_is g (goal.at.After-index g c).After-index-end in
    let within = link_within g.links c.args.lists.now (kept c.args.self.now) c.requires.1.0 c.requires.1.1.0 c.in-Some.field-0.now (look g (goal.at.After-index g c).Else-last) c.requires.0 in
    state_read c.args.self.now.states.items c.index-end.result.now (omega arith) c.index.result.now c.index.ensures s is

pub index-end-requires : goal.index-end-requires
index-end-requires g c =
    let l = (goal.at.index-end-requires g c).Else-last in
    let there = end_there g.links c.args.lists.now (kept c.args.self.now) c.requires.1.0 c.requires.1.1.0 c.in-Some.field-0.now (look g l) in
    let o = c.args.lists.now.ends.ok.0 in
    omega arith

pub index-requires : goal.index-requires
index-requires g c =
    let l = (goal.at.index-requires g c).Else-last in
    let is = end_is g (goal.at.index-requires g c).After-index-end in
    let within = link_within g.links c.args.lists.now (kept c.args.self.now) c.requires.1.0 c.requires.1.1.0 c.in-Some.field-0.now (look g l) c.requires.0 in
    let o = c.args.self.now.states.ok.0 in
    omega arith

pub returns-in-New : goal.returns-in-New
returns-in-New g c =
    let l = (goal.at.returns-in-New g c).Else-last in
    let is = end_is g (goal.at.returns-in-New g c).After-index-end in
    rw is (may_enter g.links c.args.lists.now (kept c.args.self.now) c.requires.1.0 c.requires.1.1.0 c.in-Some.field-0.now (look g l) c.requires.0 (rw is at (state_is g (goal.at.returns-in-New g c).After-index New c.in-New.is)))

pub returns-then-at-first : goal.returns-then-at-first
returns-then-at-first g c =
    let l = (goal.at.returns-then-at-first g c).Else-last in
    let first = first_is g l in
    may_join g.links c.args.lists.now (kept c.args.self.now) c.requires.1.0 c.requires.1.1.0 c.in-Some.field-0.now (look g l) c.in-Open.at
    (rw (end_is g (goal.at.returns-then-at-first g c).After-index-end) at (state_is g (goal.at.returns-then-at-first g c).After-index (Open c.in-Open.at) c.in-Open.is)) (omega arith)

pub returns-else-at-first : goal.returns-else-at-first
returns-else-at-first g c =
    let l = (goal.at.returns-else-at-first g c).Else-last in
    let first = first_is g l in
    may_pass_open g.links c.args.lists.now (kept c.args.self.now) c.requires.1.0 c.requires.1.1.0 c.in-Some.field-0.now (look g l) c.in-Open.at
    (rw (end_is g (goal.at.returns-else-at-first g c).After-index-end) at (state_is g (goal.at.returns-else-at-first g c).After-index (Open c.in-Open.at) c.in-Open.is)) (omega arith)

pub returns-in-Closed : goal.returns-in-Closed
returns-in-Closed g c =
    let l = (goal.at.returns-in-Closed g c).Else-last in
    may_pass_closed g.links c.args.lists.now (kept c.args.self.now) c.requires.1.0 c.requires.1.1.0 c.in-Some.field-0.now (look g l) c.in-Closed.field-0
    (rw (end_is g (goal.at.returns-in-Closed g c).After-index-end) at (state_is g (goal.at.returns-in-Closed g c).After-index (Closed c.in-Closed.field-0) c.in-Closed.is))
