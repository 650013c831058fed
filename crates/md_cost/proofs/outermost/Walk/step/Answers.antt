use Rattle.std.proofs.Common.{ap, ◌≡◌, ◌<◌, ℕ, zero, suc, List, length, get_or, map, set, Option, Some, None, refl, sym, ◌∙◌, arith}
use Rattle.std.proofs.lemmas.List.{get_or_read, length-map, map-set}
use Rattle.md_cost.specs.Paths.{start_of}
use Rattle.md_cost.specs.Walking.{above, at_bound}
use Rattle.md_cost.proofs.ThreadSteps.{bound_at}
use Rattle.md_cost.proofs.OutermostSteps.{module_within, procedure_within, site_within, walk_entered, walk_entered_less, walk_left, walk_left_less}
use Rattle.md_cost.proofs.WalkSteps.{below_top}
use Rattle.md_cost.proofs.outermost.Walk.step.Goals as goal

first_long : (first : List ℕ) (n : ℕ) → length (map at_bound first) ≡ suc n → length first ≡ suc n
first_long first n each = sym (length-map first at_bound) ∙ each

bound_is : (first : List ℕ) (at x : ℕ) → x ≡ get_or first at 0 → get_or (map at_bound first) at None ≡ at_bound x
bound_is first at x is = bound_at first at ∙ ap at_bound (sym is)

none_at : (b : ℕ) → at_bound b ≡ None → b ≡ 0
none_at zero is = refl
none_at (suc c) is = cc

no_bound : (first : List ℕ) (at : ℕ) → get_or (map at_bound first) at None ≡ None → get_or first at 0 ≡ 0
no_bound first at none = none_at (get_or first at 0) (sym (bound_at first at) ∙ none)

firsts_are : (first : List ℕ) (at : ℕ) (next : List ℕ) (child x : ℕ) → x ≡ get_or next child 0 → (now : List ℕ) → now ≡ set first at x → map at_bound now ≡ set (map at_bound first) at (get_or (map at_bound next) child None)
firsts_are first at next child x is now set_is =
    ap (λ (xs : List ℕ). map at_bound xs) set_is ∙ map-set at_bound first at x ∙ ap (λ (o : Option ℕ). set (map at_bound first) at o) (ap at_bound is ∙ sym (bound_at next child))

pub keys_of-keys-requires-clause-there : goal.keys_of-keys-requires-clause-there
keys_of-keys-requires-clause-there c =
    let is = c.requires.stands.procedures in
    let size = first_long c.args.self.now.first.items (length c.args.tree.now.cliques) is.each_first in
    let le = is.at_there in
    let child : get_or (map at_bound c.args.self.now.first.items) c.args.self.now.at None ≡ Some c.in-Some.child = bound_is c.args.self.now.first.items c.args.self.now.at c.index.result.now (get_or_read c.args.self.now.first.items c.args.self.now.at c.index.result.now (omega arith) c.index.ensures 0) ∙ sym c.below.ensures ∙ c.in-Some.is in
    let there = (is.firsts c.args.self.now.at c.in-Some.child le child).0 in
    let nodes = c.requires.tree.cliques_are.each in
    omega arith

pub bounds-next-child : goal.bounds-next-child
bounds-next-child c =
    let is = c.requires.stands.procedures in
    let size = first_long c.args.self.now.first.items (length c.args.tree.now.cliques) is.each_first in
    let le = is.at_there in
    let child : get_or (map at_bound c.args.self.now.first.items) c.args.self.now.at None ≡ Some c.in-Some.child = bound_is c.args.self.now.first.items c.args.self.now.at c.index.result.now (get_or_read c.args.self.now.first.items c.args.self.now.at c.index.result.now (omega arith) c.index.ensures 0) ∙ sym c.below.ensures ∙ c.in-Some.is in
    let there = (is.firsts c.args.self.now.at c.in-Some.child le child).0 in
    let each = c.requires.nexts.each in
    let long = length-map c.args.next.now at_bound in
    omega arith

pub enter-requires-clause-procedures : goal.enter-requires-clause-procedures
enter-requires-clause-procedures c =
    let is = c.requires.stands.procedures in
    let size = first_long c.args.self.now.first.items (length c.args.tree.now.cliques) is.each_first in
    let le = is.at_there in
    let child : get_or (map at_bound c.args.self.now.first.items) c.args.self.now.at None ≡ Some c.in-Some.child = bound_is c.args.self.now.first.items c.args.self.now.at c.index.result.now (get_or_read c.args.self.now.first.items c.args.self.now.at c.index.result.now (omega arith) c.index.ensures 0) ∙ sym c.below.ensures ∙ c.in-Some.is in
    let there = (is.firsts c.args.self.now.at c.in-Some.child le child).0 in
    rw c.keys_of-keys.ensures.procedures (procedure_within c.args.profile.now c.requires.valid c.args.tree.now.cliques c.args.tree.now.entries.items c.requires.rise c.args.self.now c.requires.stands c.in-Some.child there)

pub leave-requires-clause-procedures : goal.leave-requires-clause-procedures
leave-requires-clause-procedures c =
    let is = c.requires.stands.procedures in
    let size = first_long c.args.self.now.first.items (length c.args.tree.now.cliques) is.each_first in
    let le = is.at_there in
    let none : get_or (map at_bound c.args.self.now.first.items) c.args.self.now.at None ≡ None = bound_is c.args.self.now.first.items c.args.self.now.at c.index.result.now (get_or_read c.args.self.now.first.items c.args.self.now.at c.index.result.now (omega arith) c.index.ensures 0) ∙ sym c.below.ensures ∙ c.in-None.is in
    let there : c.args.self.now.at < length c.args.tree.now.cliques = below_top c.args.self.now.at (length c.args.tree.now.cliques) le (λ e. c.requires.more (e, no_bound c.args.self.now.first.items c.args.self.now.at none)) in
    rw c.keys_of-keys-in-None.ensures.procedures (procedure_within c.args.profile.now c.requires.valid c.args.tree.now.cliques c.args.tree.now.entries.items c.requires.rise c.args.self.now c.requires.stands c.args.self.now.at there)

pub enter-requires-clause-modules : goal.enter-requires-clause-modules
enter-requires-clause-modules c =
    let is = c.requires.stands.procedures in
    let size = first_long c.args.self.now.first.items (length c.args.tree.now.cliques) is.each_first in
    let le = is.at_there in
    let child : get_or (map at_bound c.args.self.now.first.items) c.args.self.now.at None ≡ Some c.in-Some.child = bound_is c.args.self.now.first.items c.args.self.now.at c.index.result.now (get_or_read c.args.self.now.first.items c.args.self.now.at c.index.result.now (omega arith) c.index.ensures 0) ∙ sym c.below.ensures ∙ c.in-Some.is in
    let there = (is.firsts c.args.self.now.at c.in-Some.child le child).0 in
    rw c.keys_of-keys.ensures.modules (module_within c.args.profile.now c.requires.valid c.args.tree.now.cliques c.args.tree.now.entries.items c.requires.rise c.args.self.now c.requires.stands c.in-Some.child there)

pub leave-requires-clause-modules : goal.leave-requires-clause-modules
leave-requires-clause-modules c =
    let is = c.requires.stands.procedures in
    let size = first_long c.args.self.now.first.items (length c.args.tree.now.cliques) is.each_first in
    let le = is.at_there in
    let none : get_or (map at_bound c.args.self.now.first.items) c.args.self.now.at None ≡ None = bound_is c.args.self.now.first.items c.args.self.now.at c.index.result.now (get_or_read c.args.self.now.first.items c.args.self.now.at c.index.result.now (omega arith) c.index.ensures 0) ∙ sym c.below.ensures ∙ c.in-None.is in
    let there : c.args.self.now.at < length c.args.tree.now.cliques = below_top c.args.self.now.at (length c.args.tree.now.cliques) le (λ e. c.requires.more (e, no_bound c.args.self.now.first.items c.args.self.now.at none)) in
    rw c.keys_of-keys-in-None.ensures.modules (module_within c.args.profile.now c.requires.valid c.args.tree.now.cliques c.args.tree.now.entries.items c.requires.rise c.args.self.now c.requires.stands c.args.self.now.at there)

pub enter-requires-clause-sites : goal.enter-requires-clause-sites
enter-requires-clause-sites c =
    let is = c.requires.stands.procedures in
    let size = first_long c.args.self.now.first.items (length c.args.tree.now.cliques) is.each_first in
    let le = is.at_there in
    let child : get_or (map at_bound c.args.self.now.first.items) c.args.self.now.at None ≡ Some c.in-Some.child = bound_is c.args.self.now.first.items c.args.self.now.at c.index.result.now (get_or_read c.args.self.now.first.items c.args.self.now.at c.index.result.now (omega arith) c.index.ensures 0) ∙ sym c.below.ensures ∙ c.in-Some.is in
    let there = (is.firsts c.args.self.now.at c.in-Some.child le child).0 in
    rw c.keys_of-keys.ensures.sites (site_within c.args.profile.now c.requires.valid c.args.tree.now.cliques c.args.tree.now.entries.items c.requires.rise c.args.self.now c.requires.stands c.in-Some.child there)

pub leave-requires-clause-sites : goal.leave-requires-clause-sites
leave-requires-clause-sites c =
    let is = c.requires.stands.procedures in
    let size = first_long c.args.self.now.first.items (length c.args.tree.now.cliques) is.each_first in
    let le = is.at_there in
    let none : get_or (map at_bound c.args.self.now.first.items) c.args.self.now.at None ≡ None = bound_is c.args.self.now.first.items c.args.self.now.at c.index.result.now (get_or_read c.args.self.now.first.items c.args.self.now.at c.index.result.now (omega arith) c.index.ensures 0) ∙ sym c.below.ensures ∙ c.in-None.is in
    let there : c.args.self.now.at < length c.args.tree.now.cliques = below_top c.args.self.now.at (length c.args.tree.now.cliques) le (λ e. c.requires.more (e, no_bound c.args.self.now.first.items c.args.self.now.at none)) in
    rw c.keys_of-keys-in-None.ensures.sites (site_within c.args.profile.now c.requires.valid c.args.tree.now.cliques c.args.tree.now.entries.items c.requires.rise c.args.self.now c.requires.stands c.args.self.now.at there)

pub returns-in-Some-clause-stands : goal.returns-in-Some-clause-stands
returns-in-Some-clause-stands c =
    let is = c.requires.stands.procedures in
    let size = first_long c.args.self.now.first.items (length c.args.tree.now.cliques) is.each_first in
    let le = is.at_there in
    let child : get_or (map at_bound c.args.self.now.first.items) c.args.self.now.at None ≡ Some c.in-Some.child = bound_is c.args.self.now.first.items c.args.self.now.at c.index.result.now (get_or_read c.args.self.now.first.items c.args.self.now.at c.index.result.now (omega arith) c.index.ensures 0) ∙ sym c.below.ensures ∙ c.in-Some.is in
    let there = (is.firsts c.args.self.now.at c.in-Some.child le child).0 in
    walk_entered c.args.profile.now c.requires.valid c.args.tree.now.cliques c.args.tree.now.entries.items c.requires.rise (map at_bound c.args.next.now) c.requires.nexts c.args.self.now c.requires.stands c.enter.new.self c.in-Some.child child c.enter.ensures.at (firsts_are c.args.self.now.first.items c.args.self.now.at c.args.next.now c.in-Some.child (get_or c.args.next.now c.in-Some.child 0) refl c.enter.new.self.first.items c.enter.ensures.first)
    (rw c.keys_of-keys.ensures.procedures at c.enter.ensures.procedures) (rw c.keys_of-keys.ensures.modules at c.enter.ensures.modules) (rw c.keys_of-keys.ensures.sites at c.enter.ensures.sites)

pub returns-in-Some-clause-less : goal.returns-in-Some-clause-less
returns-in-Some-clause-less c =
    let is = c.requires.stands.procedures in
    let size = first_long c.args.self.now.first.items (length c.args.tree.now.cliques) is.each_first in
    let le = is.at_there in
    let child : get_or (map at_bound c.args.self.now.first.items) c.args.self.now.at None ≡ Some c.in-Some.child = bound_is c.args.self.now.first.items c.args.self.now.at c.index.result.now (get_or_read c.args.self.now.first.items c.args.self.now.at c.index.result.now (omega arith) c.index.ensures 0) ∙ sym c.below.ensures ∙ c.in-Some.is in
    let there = (is.firsts c.args.self.now.at c.in-Some.child le child).0 in
    walk_entered_less c.args.profile.now c.requires.valid c.args.tree.now.cliques c.args.tree.now.entries.items c.requires.rise (map at_bound c.args.next.now) c.requires.nexts c.args.self.now c.requires.stands c.enter.new.self c.in-Some.child child c.enter.ensures.at (firsts_are c.args.self.now.first.items c.args.self.now.at c.args.next.now c.in-Some.child (get_or c.args.next.now c.in-Some.child 0) refl c.enter.new.self.first.items c.enter.ensures.first)

pub returns-in-None-clause-stands : goal.returns-in-None-clause-stands
returns-in-None-clause-stands c =
    let is = c.requires.stands.procedures in
    let size = first_long c.args.self.now.first.items (length c.args.tree.now.cliques) is.each_first in
    let le = is.at_there in
    let none : get_or (map at_bound c.args.self.now.first.items) c.args.self.now.at None ≡ None = bound_is c.args.self.now.first.items c.args.self.now.at c.index.result.now (get_or_read c.args.self.now.first.items c.args.self.now.at c.index.result.now (omega arith) c.index.ensures 0) ∙ sym c.below.ensures ∙ c.in-None.is in
    let there : c.args.self.now.at < length c.args.tree.now.cliques = below_top c.args.self.now.at (length c.args.tree.now.cliques) le (λ e. c.requires.more (e, no_bound c.args.self.now.first.items c.args.self.now.at none)) in
    let up : c.leave.new.self.at ≡ above c.args.tree.now.cliques (start_of c.args.profile.now.links c.args.tree.now.entries.items) c.args.self.now.at = c.leave.ensures.at ∙ c.requires.ups.is c.args.self.now.at there in
    walk_left c.args.profile.now c.requires.valid c.args.tree.now.cliques c.args.tree.now.entries.items c.requires.rise (map at_bound c.args.next.now) c.requires.nexts c.args.self.now c.requires.stands c.leave.new.self there none up (ap (λ (xs : List ℕ). map at_bound xs) c.leave.ensures.first)
    (rw c.keys_of-keys-in-None.ensures.procedures at c.leave.ensures.procedures) (rw c.keys_of-keys-in-None.ensures.modules at c.leave.ensures.modules) (rw c.keys_of-keys-in-None.ensures.sites at c.leave.ensures.sites)

pub returns-in-None-clause-less : goal.returns-in-None-clause-less
returns-in-None-clause-less c =
    let is = c.requires.stands.procedures in
    let size = first_long c.args.self.now.first.items (length c.args.tree.now.cliques) is.each_first in
    let le = is.at_there in
    let none : get_or (map at_bound c.args.self.now.first.items) c.args.self.now.at None ≡ None = bound_is c.args.self.now.first.items c.args.self.now.at c.index.result.now (get_or_read c.args.self.now.first.items c.args.self.now.at c.index.result.now (omega arith) c.index.ensures 0) ∙ sym c.below.ensures ∙ c.in-None.is in
    let there : c.args.self.now.at < length c.args.tree.now.cliques = below_top c.args.self.now.at (length c.args.tree.now.cliques) le (λ e. c.requires.more (e, no_bound c.args.self.now.first.items c.args.self.now.at none)) in
    let up : c.leave.new.self.at ≡ above c.args.tree.now.cliques (start_of c.args.profile.now.links c.args.tree.now.entries.items) c.args.self.now.at = c.leave.ensures.at ∙ c.requires.ups.is c.args.self.now.at there in
    walk_left_less c.args.profile.now c.requires.valid c.args.tree.now.cliques c.args.tree.now.entries.items c.requires.rise (map at_bound c.args.next.now) c.requires.nexts c.args.self.now c.requires.stands c.leave.new.self there none up (ap (λ (xs : List ℕ). map at_bound xs) c.leave.ensures.first)

pub enter-requires-clause-at : goal.enter-requires-clause-at
enter-requires-clause-at c =
    let is = c.requires.stands.procedures in
    let size = first_long c.args.self.now.first.items (length c.args.tree.now.cliques) is.each_first in
    let le = is.at_there in
    omega (arith, size, le)

pub keys_of-keys-requires-clause-valid : goal.keys_of-keys-requires-clause-valid
keys_of-keys-requires-clause-valid c = c.requires.valid

pub keys_of-keys-requires-in-None-clause-valid : goal.keys_of-keys-requires-in-None-clause-valid
keys_of-keys-requires-in-None-clause-valid c = c.requires.valid

pub keys_of-keys-requires-clause-tree : goal.keys_of-keys-requires-clause-tree
keys_of-keys-requires-clause-tree c = c.requires.tree

pub keys_of-keys-requires-in-None-clause-tree : goal.keys_of-keys-requires-in-None-clause-tree
keys_of-keys-requires-in-None-clause-tree c = c.requires.tree

pub keys_of-keys-requires-in-None-clause-there : goal.keys_of-keys-requires-in-None-clause-there
keys_of-keys-requires-in-None-clause-there c =
    let is = c.requires.stands.procedures in
    let size = first_long c.args.self.now.first.items (length c.args.tree.now.cliques) is.each_first in
    let le = is.at_there in
    let none : get_or (map at_bound c.args.self.now.first.items) c.args.self.now.at None ≡ None = bound_is c.args.self.now.first.items c.args.self.now.at c.index.result.now (get_or_read c.args.self.now.first.items c.args.self.now.at c.index.result.now (omega arith) c.index.ensures 0) ∙ sym c.below.ensures ∙ c.in-None.is in
    let there : c.args.self.now.at < length c.args.tree.now.cliques = below_top c.args.self.now.at (length c.args.tree.now.cliques) le (λ e. c.requires.more (e, no_bound c.args.self.now.first.items c.args.self.now.at none)) in
    let nodes = c.requires.tree.cliques_are.each in
    omega (arith, there, nodes)
