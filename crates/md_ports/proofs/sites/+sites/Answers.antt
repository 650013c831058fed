use Rattle.std.proofs.Common.{arith, rules, ◌≡◌, ◌∙◌, ◌+◌, ◌++◌, ap, sym, subst, List, ℕ, IfOk, OnOk}
use Rattle.std.proofs.lemmas.Grind.{common_steps}
use Rattle.md_hlds.specs.declared.goal.Goal.{Goal}
use Rattle.md_hlds.specs.declared.goal.GoalKind.{the_lemmas}
use Rattle.md_hlds.specs.HldsGoal.{goals_of, gathered, goals_size, goal_size, goal_of}
use Rattle.md_hlds.specs.Hlds.{hlds_of}
use Rattle.md_static.specs.declared.entry.Site.{Site}
use Rattle.md_ports.specs.Reading.{read_goals}
use Rattle.md_ports.proofs.Read.{size-Conj, size-Disj, few-Conj, few-Disj, read-Conj, read-Disj}
use Rattle.md_ports.proofs.sites.+sites.Goals as goal

pub add_sites-returns-in-Conj-clause-next : goal.add_sites-returns-in-Conj-clause-next
add_sites-returns-in-Conj-clause-next t c =
    let items : goals_size (gathered (goals_of c.as_slice.result.now)) ≡ goals_size (gathered (goals_of c.in-Conj.goals.items)) = ap (λ (gs : List Goal). goals_size (gathered (goals_of gs))) c.as_slice.ensures.value in
    let e : c.args.number + 1 + goals_size (gathered (goals_of c.as_slice.result.now)) ≡ c.args.number + goal_size (goal_of c.args.goal.now)
    = omega (arith, items, size-Conj c.args.goal.now c.in-Conj.goals c.in-Conj.is) in
    subst (λ (n : ℕ). IfOk c.add_all.result (λ next. next ≡ n)) e c.add_all.ensures.next

pub add_sites-returns-in-Conj-clause-sites : goal.add_sites-returns-in-Conj-clause-sites
add_sites-returns-in-Conj-clause-sites t c =
    let s = hlds_of c.args.moded.now in
    subst (λ (xs : List Site). OnOk c.add_all.result (c.add_all.new.sites.items ≡ c.args.sites.now.items ++ xs))
    (ap (λ (gs : List Goal). read_goals s c.args.owner (c.args.number + 1) (gathered (goals_of gs))) c.as_slice.ensures.value
    ∙ sym (read-Conj s c.args.owner c.args.goal.now.line c.args.number c.args.goal.now.kind c.in-Conj.goals c.in-Conj.is))
    c.add_all.ensures.sites

pub add_sites-returns-in-Disj-clause-next : goal.add_sites-returns-in-Disj-clause-next
add_sites-returns-in-Disj-clause-next t c =
    let items : goals_size (gathered (goals_of c.as_slice-in-Disj.result.now)) ≡ goals_size (gathered (goals_of c.in-Disj.arms.items)) = ap (λ (gs : List Goal). goals_size (gathered (goals_of gs))) c.as_slice-in-Disj.ensures.value in
    let e : c.args.number + 1 + goals_size (gathered (goals_of c.as_slice-in-Disj.result.now)) ≡ c.args.number + goal_size (goal_of c.args.goal.now)
    = omega (arith, items, size-Disj c.args.goal.now c.in-Disj.arms c.in-Disj.is) in
    subst (λ (n : ℕ). IfOk c.add_all-in-Disj.result (λ next. next ≡ n)) e c.add_all-in-Disj.ensures.next

pub add_sites-returns-in-Disj-clause-sites : goal.add_sites-returns-in-Disj-clause-sites
add_sites-returns-in-Disj-clause-sites t c =
    let s = hlds_of c.args.moded.now in
    subst (λ (xs : List Site). OnOk c.add_all-in-Disj.result (c.add_all-in-Disj.new.sites.items ≡ c.args.sites.now.items ++ xs))
    (ap (λ (gs : List Goal). read_goals s c.args.owner (c.args.number + 1) (gathered (goals_of gs))) c.as_slice-in-Disj.ensures.value
    ∙ sym (read-Disj s c.args.owner c.args.goal.now.line c.args.number c.args.goal.now.kind c.in-Disj.arms c.in-Disj.is))
    c.add_all-in-Disj.ensures.sites

pub add_sites-returns-in-True-clause-next : goal.add_sites-returns-in-True-clause-next
add_sites-returns-in-True-clause-next t c = grind (arith, common_steps)

pub add_sites-returns-in-True-clause-sites : goal.add_sites-returns-in-True-clause-sites
add_sites-returns-in-True-clause-sites t c = grind (arith, common_steps)

pub add_sites-returns-in-True-5-clause-next : goal.add_sites-returns-in-True-5-clause-next
add_sites-returns-in-True-5-clause-next t c = grind (arith, common_steps)

pub add_sites-returns-in-True-5-clause-sites : goal.add_sites-returns-in-True-5-clause-sites
add_sites-returns-in-True-5-clause-sites t c = grind (arith, common_steps)

pub add_sites-returns-in-True-4-clause-next : goal.add_sites-returns-in-True-4-clause-next
add_sites-returns-in-True-4-clause-next t c = grind (arith, common_steps)

pub add_sites-returns-in-True-4-clause-sites : goal.add_sites-returns-in-True-4-clause-sites
add_sites-returns-in-True-4-clause-sites t c = grind (arith, common_steps)

pub add_sites-returns-in_ok-third-in-If-clause-next : goal.add_sites-returns-in_ok-third-in-If-clause-next
add_sites-returns-in_ok-third-in-If-clause-next t c = grind (arith, common_steps)

pub add_sites-returns-in_ok-third-in-If-clause-sites : goal.add_sites-returns-in_ok-third-in-If-clause-sites
add_sites-returns-in_ok-third-in-If-clause-sites t c = grind (arith, common_steps)

pub add_sites-returns-in-True-3-clause-next : goal.add_sites-returns-in-True-3-clause-next
add_sites-returns-in-True-3-clause-next t c = grind (arith, common_steps)

pub add_sites-returns-in-True-3-clause-sites : goal.add_sites-returns-in-True-3-clause-sites
add_sites-returns-in-True-3-clause-sites t c = grind (arith, common_steps)

pub add_sites-returns-in-True-6-clause-next : goal.add_sites-returns-in-True-6-clause-next
add_sites-returns-in-True-6-clause-next t c = grind (arith, common_steps)

pub add_sites-returns-in-True-6-clause-sites : goal.add_sites-returns-in-True-6-clause-sites
add_sites-returns-in-True-6-clause-sites t c = grind (arith, common_steps)

pub add_all-loop-goal-preserved : goal.add_all-loop-goal-preserved
add_all-loop-goal-preserved t c = grind (arith, common_steps)

pub add_sites-returns-in-Some-clause-next : goal.add_sites-returns-in-Some-clause-next
add_sites-returns-in-Some-clause-next t c = grind (arith, common_steps)

pub add_sites-returns-in-Some-clause-sites : goal.add_sites-returns-in-Some-clause-sites
add_sites-returns-in-Some-clause-sites t c = grind (arith, common_steps)

pub add_sites-returns-in-True-7-clause-next : goal.add_sites-returns-in-True-7-clause-next
add_sites-returns-in-True-7-clause-next t c = grind (arith, common_steps)

pub add_sites-returns-in-True-7-clause-sites : goal.add_sites-returns-in-True-7-clause-sites
add_sites-returns-in-True-7-clause-sites t c = grind (arith, common_steps)

pub add_sites-returns-in-True-8-clause-next : goal.add_sites-returns-in-True-8-clause-next
add_sites-returns-in-True-8-clause-next t c = grind (arith, common_steps)

pub add_sites-returns-in-True-8-clause-sites : goal.add_sites-returns-in-True-8-clause-sites
add_sites-returns-in-True-8-clause-sites t c = grind (arith, common_steps)

pub add_sites-returns-in_ok-add_site-in-Call-clause-next : goal.add_sites-returns-in_ok-add_site-in-Call-clause-next
add_sites-returns-in_ok-add_site-in-Call-clause-next t c = grind (arith, common_steps)

pub add_sites-returns-in_ok-add_site-in-Call-clause-sites : goal.add_sites-returns-in_ok-add_site-in-Call-clause-sites
add_sites-returns-in_ok-add_site-in-Call-clause-sites t c = grind (arith, common_steps)

pub add_sites-returns-in-True-2-clause-next : goal.add_sites-returns-in-True-2-clause-next
add_sites-returns-in-True-2-clause-next t c = grind (arith, common_steps)

pub add_sites-returns-in-True-2-clause-sites : goal.add_sites-returns-in-True-2-clause-sites
add_sites-returns-in-True-2-clause-sites t c = grind (arith, common_steps)

pub add_sites-returns-in-Not-clause-next : goal.add_sites-returns-in-Not-clause-next
add_sites-returns-in-Not-clause-next t c = grind (arith, common_steps)

pub add_sites-returns-in-Not-clause-sites : goal.add_sites-returns-in-Not-clause-sites
add_sites-returns-in-Not-clause-sites t c = grind (arith, common_steps)

pub add_all-returns-clause-next : goal.add_all-returns-clause-next
add_all-returns-clause-next t c = grind (arith, common_steps)

pub add_all-returns-clause-sites : goal.add_all-returns-clause-sites
add_all-returns-clause-sites t c = grind (arith, common_steps)

pub add_sites-returns-in-True-9-clause-next : goal.add_sites-returns-in-True-9-clause-next
add_sites-returns-in-True-9-clause-next t c = grind (arith, common_steps)

pub add_sites-returns-in-True-9-clause-sites : goal.add_sites-returns-in-True-9-clause-sites
add_sites-returns-in-True-9-clause-sites t c = grind (arith, common_steps)

pub add_sites-add_all-requires : goal.add_sites-add_all-requires
add_sites-add_all-requires t c =
    (search (rules, the_lemmas), few-Conj c.args.goal.now c.in-Conj.goals c.as_slice.result.now c.args.number 4294967295 c.as_slice.ensures.value c.in-Conj.is c.requires.few)

pub add_sites-add_all-requires-in-Disj : goal.add_sites-add_all-requires-in-Disj
add_sites-add_all-requires-in-Disj t c =
    (search (rules, the_lemmas), few-Disj c.args.goal.now c.in-Disj.arms c.as_slice-in-Disj.result.now c.args.number 4294967295 c.as_slice-in-Disj.ensures.value c.in-Disj.is c.requires.few)
