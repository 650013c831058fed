-- The code that is laid out, as the code of goals.
use Rattle.std.proofs.Common.{◌≡◌, refl, ap, ◌∙◌, sym, subst, arith, ℕ, suc, ◌+◌, ◌<◌, ◌≤◌, ◌-◌, List, [], ◌∷◌, ◌++◌, length, take, drop, map, Option, Some, Result, Ok, Err, OnOk, get_or, append_assoc, append-nil, length-append, Box}
use Rattle.std.proofs.lemmas.List.{length-drop, take_all, drop_all, length-map, map-append}
use Rattle.std.specs.declared.alloc.Global.{Global}
use Rattle.md_hlds.specs.declared.goal.Goal.{Goal}
use Rattle.md_hlds.specs.declared.goal.GoalKind.{GoalKind, Not, Some as Quantified}
use Rattle.md_hlds.specs.HldsGoal.{HldsGoal, At, GoalExpr, SimpleGoal, CallGoal, HoCallGoal, ConjGoal, DisjGoal, IfGoal, NotGoal, SomeGoal, HldsGoals, nothing, also, expr_of, gathered, goal_of, goals_of, goal_size, parts_size, goals_size, goals_within, goals_below, goals_among}
use Rattle.md_hlds.specs.Hlds.{Hlds, goal_at}
use Rattle.md_det.specs.declared.finding.Switch.{Switch}
use Rattle.md_det.specs.Findings.{program_findings, switch_at}
use Rattle.md_switch.proofs.KeyLemmas.{parts-step}
use Rattle.md_flat.specs.declared.instruction.Instruction.{Instruction}
use Rattle.md_flat.specs.declared.code.Detail as flat
use Rattle.md_code.specs.declared.output.Output.{Output}
use Rattle.md_code.specs.declared.place.Entry.{Entry}
use Rattle.md_code.specs.Leaves.{leaves_table}
use Rattle.md_code.specs.Tables.{heights_of, try_at}
use Rattle.md_code.specs.Facts.{Stand, Stands}
use Rattle.md_code.specs.Blocks.{Place, block, other_after, pending_after, goal_code, inner_code, parts_code, arms_code, if_condition, then_place, else_place, negated_place, some_place, conjunct_place, arm_place, pending_behind, arm_trial, arm_other, ArmBefore}
use Rattle.md_code.specs.Details.{Detail, detail_told, detail_of, goal_details, inner_details, parts_details, arms_details}
use Rattle.md_code.specs.Adds.{Adds, laid}
use Rattle.md_code.proofs.SurveyLemmas.{stand-own, stand-first, stand-If}

pub adds-join : (a b c : Output) (is js : List Instruction) (ds es : List Detail) → Adds a b is ds → Adds b c js es → Adds a c (is ++ js) (ds ++ es)
adds-join a b c is js ds es p q = record {
  instructions = q.instructions ∙ (ap (λ ks. ks ++ js) p.instructions ∙ append_assoc a.instructions.items is js);
  details = q.details ∙ (ap (λ ks. ks ++ es) p.details ∙ append_assoc (map detail_told a.details.items) ds es);
}

mutual
  length-goal : (s : Hlds) (n : ℕ) (g : HldsGoal) (at : Place) → length (goal_details s n g at) ≡ goal_size g
  length-goal s n (At l t) at = ap suc (length-inner s n t at)

  length-inner : (s : Hlds) (n : ℕ) (t : GoalExpr) (at : Place) → length (inner_details s n t at) ≡ parts_size t
  length-inner s n (SimpleGoal g) at = refl
  length-inner s n (CallGoal site q ys) at = refl
  length-inner s n (HoCallGoal site f ys) at = refl
  length-inner s n (ConjGoal ps) at = length-parts s (suc n) ps at at.other (suc at.pending) at.height
  length-inner s n (DisjGoal ps) at = length-arms s n (suc n) ps at (switch_at (program_findings s) n) (suc at.pending) at.height
  length-inner s n (IfGoal c t e) at =
      let a = goal_details s (suc n) c (if_condition s n c t at) in
      let b = goal_details s (suc n + goal_size c) t (then_place s n c at) in
      let d = goal_details s (suc n + goal_size c + goal_size t) e (else_place s n c t at) in
      length-append a (b ++ d) ∙ ((λ i. length-goal s (suc n) c (if_condition s n c t at) i + length-append b d i)
      ∙ (λ i. goal_size c + (length-goal s (suc n + goal_size c) t (then_place s n c at) i + length-goal s (suc n + goal_size c + goal_size t) e (else_place s n c t at) i)))
  length-inner s n (NotGoal c) at = length-goal s (suc n) c (negated_place s n at)
  length-inner s n (SomeGoal vs c) at = length-goal s (suc n) c (some_place s n at)

  length-parts : (s : Hlds) (n : ℕ) (ps : HldsGoals) (at : Place) (other p h : ℕ) → length (parts_details s n ps at other p h) ≡ goals_size ps
  length-parts s n nothing at other p h = refl
  length-parts s n (also g gs) at other p h =
      length-append (goal_details s n g (conjunct_place s n g gs at other p h)) (parts_details s (n + goal_size g) gs at (other_after other (leaves_table s n)) (pending_after s n p g) (h + heights_of s n g))
      ∙ (λ i. length-goal s n g (conjunct_place s n g gs at other p h) i + length-parts s (n + goal_size g) gs at (other_after other (leaves_table s n)) (pending_after s n p g) (h + heights_of s n g) i)

  length-arms : (s : Hlds) (n k : ℕ) (ps : HldsGoals) (at : Place) (w : Option Switch) (p h : ℕ) → length (arms_details s n k ps at w p h) ≡ goals_size ps
  length-arms s n k nothing at w p h = refl
  length-arms s n k (also g gs) at w p h =
      length-append (goal_details s k g (arm_place s n k (k + goal_size g) gs at w p h)) (arms_details s n (k + goal_size g) gs at w (pending_behind w p) (h + heights_of s k g))
      ∙ (λ i. length-goal s k g (arm_place s n k (k + goal_size g) gs at w p h) i + length-arms s n (k + goal_size g) gs at w (pending_behind w p) (h + heights_of s k g) i)

-- ---- a goal laid out

abbrev pub Makes : Hlds → (old new : Output) → HldsGoal → Place → Type 0
Makes s old new g at = Adds old new (goal_code s (laid old) g at) (goal_details s (laid old) g at)

pub laid-more : (s : Hlds) (old new : Output) (g : HldsGoal) (at : Place) → Makes s old new g at → laid new ≡ laid old + goal_size g
laid-more s old new g at made =
    sym (length-map new.details.items detail_told)
    ∙ (ap length made.details
    ∙ (length-append (map detail_told old.details.items) (goal_details s (laid old) g at)
    ∙ (λ i. length-map old.details.items detail_told i + length-goal s (laid old) g at i)))

pub on-ok-map : {A E P Q : Type 0} (r : Result A E) → (P → Q) → OnOk r P → OnOk r Q
on-ok-map (Ok x) f p = f p
on-ok-map (Err e) f p = tt

-- ---- what is left of a conjunction and of a disjunction

abbrev pub entry : (other pending height : ℕ) → Entry
entry other pending height = record { other = other; pending = pending; height = height }

abbrev pub PartsLeft : Hlds → Place → (old mid : Output) → (all gs : List Goal) → (first now : Entry) → Type 0
PartsLeft s at old mid all gs first now =
    Stand s (laid old) (goals_among (gathered (goals_of all)))
    → Stand s (laid mid) (goals_among (gathered (goals_of gs)))
    × ((new : Output) → Adds mid new (parts_code s (laid mid) (gathered (goals_of gs)) at now.other now.pending now.height) (parts_details s (laid mid) (gathered (goals_of gs)) at now.other now.pending now.height)
    → Adds old new (parts_code s (laid old) (gathered (goals_of all)) at first.other first.pending first.height) (parts_details s (laid old) (gathered (goals_of all)) at first.other first.pending first.height))

abbrev pub ArmsLeft : Hlds → ℕ → Place → Option Switch → (old mid : Output) → (all gs : List Goal) → (first now : Entry) → Type 0
ArmsLeft s n at w old mid all gs first now =
    Stand s (laid old) (goals_among (gathered (goals_of all)))
    → Stand s (laid mid) (goals_among (gathered (goals_of gs)))
    × ((new : Output) → Adds mid new (arms_code s n (laid mid) (gathered (goals_of gs)) at w now.pending now.height) (arms_details s n (laid mid) (gathered (goals_of gs)) at w now.pending now.height)
    → Adds old new (arms_code s n (laid old) (gathered (goals_of all)) at w first.pending first.height) (arms_details s n (laid old) (gathered (goals_of all)) at w first.pending first.height))

adds-nothing : (o : Output) → Adds o o [] []
adds-nothing o = record { instructions = sym (append-nil o.instructions.items); details = sym (append-nil (map detail_told o.details.items)) }

pub parts-next : (s : Hlds) (at place : Place) (old mid news : Output) (all : List Goal) (i : ℕ) (g : Goal) (first now next : Entry) → i < length all → g ≡ get_or all i g
    → PartsLeft s at old mid all (drop i all) first now
    → (goal_at s (laid mid) ≡ Some (goal_of g) → place ≡ conjunct_place s (laid mid) (goal_of g) (gathered (goals_of (drop (i + 1) all))) at now.other now.pending now.height)
    → (Stand s (laid mid) (goals_within (goal_of g)) → Makes s mid news (goal_of g) place)
    → (goal_at s (laid mid) ≡ Some (goal_of g) → next ≡ entry (other_after now.other (leaves_table s (laid mid))) (pending_after s (laid mid) now.pending (goal_of g)) (now.height + heights_of s (laid mid) (goal_of g)))
    → PartsLeft s at old news all (drop (i + 1) all) first next
parts-next s at place old mid news all i g first now next lt is h places made nexts = λ stand.
    let left = h stand in
    let st = stand-first s (laid mid) all i g lt is left.0 in
    let there = stand-own s (laid mid) (goal_of g) st.0 in
    let rest = gathered (goals_of (drop (i + 1) all)) in
    let goes = subst (λ (p : Place). Makes s mid news (goal_of g) p) (places there) (made st.0) in
    let more = laid-more s mid news (goal_of g) (conjunct_place s (laid mid) (goal_of g) rest at now.other now.pending now.height) goes in (
      subst (λ k. Stand s k (goals_among rest)) (sym more) st.1,
      λ new adds. left.1 new
          (subst (λ ps. Adds mid new (parts_code s (laid mid) (gathered ps) at now.other now.pending now.height) (parts_details s (laid mid) (gathered ps) at now.other now.pending now.height)) (sym (parts-step all i g lt is))
          (adds-join mid news new _ _ _ _ goes
          (subst (λ (k : ℕ). Adds news new (parts_code s k rest at (other_after now.other (leaves_table s (laid mid))) (pending_after s (laid mid) now.pending (goal_of g)) (now.height + heights_of s (laid mid) (goal_of g)))
          (parts_details s k rest at (other_after now.other (leaves_table s (laid mid))) (pending_after s (laid mid) now.pending (goal_of g)) (now.height + heights_of s (laid mid) (goal_of g)))) more
          (subst (λ (e : Entry). Adds news new (parts_code s (laid news) rest at e.other e.pending e.height) (parts_details s (laid news) rest at e.other e.pending e.height)) (nexts there) adds)))),
    )

pub parts-end : (s : Hlds) (at : Place) (old mid : Output) (all : List Goal) (i : ℕ) (first now : Entry) → length all ≤ i → PartsLeft s at old mid all (drop i all) first now
    → Stand s (laid old) (goals_among (gathered (goals_of all)))
    → Adds old mid (parts_code s (laid old) (gathered (goals_of all)) at first.other first.pending first.height) (parts_details s (laid old) (gathered (goals_of all)) at first.other first.pending first.height)
parts-end s at old mid all i first now end' h stand =
    (h stand).1 mid
    (subst (λ gs. Adds mid mid (parts_code s (laid mid) (gathered (goals_of gs)) at now.other now.pending now.height) (parts_details s (laid mid) (gathered (goals_of gs)) at now.other now.pending now.height)) (sym (drop_all i all end')) (adds-nothing mid))

pub arms-next : (s : Hlds) (n : ℕ) (at place : Place) (w : Option Switch) (old mid news : Output) (all : List Goal) (i : ℕ) (g : Goal) (first now next : Entry) → i < length all → g ≡ get_or all i g
    → ArmsLeft s n at w old mid all (drop i all) first now
    → (goal_at s (laid mid) ≡ Some (goal_of g) → place ≡ arm_place s n (laid mid) (laid mid + goal_size (goal_of g)) (gathered (goals_of (drop (i + 1) all))) at w now.pending now.height)
    → (Stand s (laid mid) (goals_within (goal_of g)) → Makes s mid news (goal_of g) place)
    → (goal_at s (laid mid) ≡ Some (goal_of g) → next ≡ entry now.other (pending_behind w now.pending) (now.height + heights_of s (laid mid) (goal_of g)))
    → ArmsLeft s n at w old news all (drop (i + 1) all) first next
arms-next s n at place w old mid news all i g first now next lt is h places made nexts = λ stand.
    let left = h stand in
    let st = stand-first s (laid mid) all i g lt is left.0 in
    let there = stand-own s (laid mid) (goal_of g) st.0 in
    let rest = gathered (goals_of (drop (i + 1) all)) in
    let goes = subst (λ (p : Place). Makes s mid news (goal_of g) p) (places there) (made st.0) in
    let more = laid-more s mid news (goal_of g) (arm_place s n (laid mid) (laid mid + goal_size (goal_of g)) rest at w now.pending now.height) goes in (
      subst (λ k. Stand s k (goals_among rest)) (sym more) st.1,
      λ new adds. left.1 new
          (subst (λ ps. Adds mid new (arms_code s n (laid mid) (gathered ps) at w now.pending now.height) (arms_details s n (laid mid) (gathered ps) at w now.pending now.height)) (sym (parts-step all i g lt is))
          (adds-join mid news new _ _ _ _ goes
          (subst (λ (k : ℕ). Adds news new (arms_code s n k rest at w (pending_behind w now.pending) (now.height + heights_of s (laid mid) (goal_of g)))
          (arms_details s n k rest at w (pending_behind w now.pending) (now.height + heights_of s (laid mid) (goal_of g)))) more
          (subst (λ (e : Entry). Adds news new (arms_code s n (laid news) rest at w e.pending e.height) (arms_details s n (laid news) rest at w e.pending e.height)) (nexts there) adds)))),
    )

pub arms-end : (s : Hlds) (n : ℕ) (at : Place) (w : Option Switch) (old mid : Output) (all : List Goal) (i : ℕ) (first now : Entry) → length all ≤ i → ArmsLeft s n at w old mid all (drop i all) first now
    → Stand s (laid old) (goals_among (gathered (goals_of all)))
    → Adds old mid (arms_code s n (laid old) (gathered (goals_of all)) at w first.pending first.height) (arms_details s n (laid old) (gathered (goals_of all)) at w first.pending first.height)
arms-end s n at w old mid all i first now end' h stand =
    (h stand).1 mid
    (subst (λ gs. Adds mid mid (arms_code s n (laid mid) (gathered (goals_of gs)) at w now.pending now.height) (arms_details s n (laid mid) (gathered (goals_of gs)) at w now.pending now.height)) (sym (drop_all i all end')) (adds-nothing mid))

-- ---- a goal with those within it

-- its own block and detail
pub goal-laid : (s : Hlds) (old mid new : Output) (number l : ℕ) (t : GoalExpr) (at : Place) (d : flat.Detail) → number ≡ laid old
    → (Stands s number t → mid.instructions.items ≡ old.instructions.items ++ block s number t at) → mid.details.items ≡ old.details.items ++ d ∷ []
    → (Stands s number t → detail_told d ≡ detail_of s number t at)
    → (laid mid ≡ suc number → Stand s (laid mid) (goals_below t) → Adds mid new (inner_code s number t at) (inner_details s number t at))
    → Stand s (laid old) (goals_within (At l t)) → Makes s old new (At l t) at
goal-laid s old mid new number l t at d is blocks pushed told inner stand =
    let own = subst (λ k. Stand s k (goals_within (At l t))) (sym is) stand in
    let stands : Stands s number t = record { line = l; own = own.0; below = own.1 } in
    let more : laid mid ≡ suc number = omega (arith, ap length pushed, length-append old.details.items (d ∷ []), is) in
    let first : Adds old mid (block s number t at) (detail_of s number t at ∷ [])
    = record {
      instructions = blocks stands;
      details = ap (map detail_told) pushed ∙ (map-append detail_told old.details.items (d ∷ []) ∙ ap (λ (e : Detail). map detail_told old.details.items ++ e ∷ []) (told stands));
    } in
    let whole : Adds old new (block s number t at ++ inner_code s number t at) (detail_of s number t at ∷ inner_details s number t at)
    = adds-join old mid new _ _ _ _ first (inner more (subst (λ k. Stand s k (goals_below t)) (sym more) stands.below)) in
    subst (λ k. Adds old new (goal_code s k (At l t) at) (goal_details s k (At l t) at)) is whole

-- a part of a goal at its place
pub one-inside : (s : Hlds) (old new : Output) (number : ℕ) (x : HldsGoal) (place there : Place) → laid old ≡ suc number → place ≡ there → Makes s old new x place
    → Adds old new (goal_code s (suc number) x there) (goal_details s (suc number) x there)
one-inside s old new number x place there at is made =
    subst (λ (p : Place). Adds old new (goal_code s (suc number) x p) (goal_details s (suc number) x p)) is
    (subst (λ k. Adds old new (goal_code s k x place) (goal_details s k x place)) at made)

pub inner-Not : (s : Hlds) (old new : Output) (number : ℕ) (t : GoalExpr) (x : HldsGoal) (at place : Place) → t ≡ NotGoal x → place ≡ negated_place s number at
    → (Stand s (laid old) (goals_within x) → Makes s old new x place) → laid old ≡ suc number → Stand s (laid old) (goals_below t)
    → Adds old new (inner_code s number t at) (inner_details s number t at)
inner-Not s old new number t x at place is places made more stand =
    subst (λ u. Adds old new (inner_code s number u at) (inner_details s number u at)) (sym is)
    (one-inside s old new number x place (negated_place s number at) more places (made (subst (λ u. Stand s (laid old) (goals_below u)) is stand)))

pub inner-Some : (s : Hlds) (old new : Output) (number : ℕ) (t : GoalExpr) (vs : List ℕ) (x : HldsGoal) (at place : Place) → t ≡ SomeGoal vs x → place ≡ some_place s number at
    → (Stand s (laid old) (goals_within x) → Makes s old new x place) → laid old ≡ suc number → Stand s (laid old) (goals_below t)
    → Adds old new (inner_code s number t at) (inner_details s number t at)
inner-Some s old new number t vs x at place is places made more stand =
    subst (λ u. Adds old new (inner_code s number u at) (inner_details s number u at)) (sym is)
    (one-inside s old new number x place (some_place s number at) more places (made (subst (λ u. Stand s (laid old) (goals_below u)) is stand)))

pub inner-Conj : (s : Hlds) (old new : Output) (number : ℕ) (t : GoalExpr) (ps : HldsGoals) (at : Place) (e : Entry) → t ≡ ConjGoal ps → e ≡ entry at.other (suc at.pending) at.height
    → (Stand s (laid old) (goals_among ps) → Adds old new (parts_code s (laid old) ps at e.other e.pending e.height) (parts_details s (laid old) ps at e.other e.pending e.height))
    → laid old ≡ suc number → Stand s (laid old) (goals_below t)
    → Adds old new (inner_code s number t at) (inner_details s number t at)
inner-Conj s old new number t ps at e is es made more stand =
    subst (λ u. Adds old new (inner_code s number u at) (inner_details s number u at)) (sym is)
    (subst (λ k. Adds old new (parts_code s k ps at at.other (suc at.pending) at.height) (parts_details s k ps at at.other (suc at.pending) at.height)) more
    (subst (λ (f : Entry). Adds old new (parts_code s (laid old) ps at f.other f.pending f.height) (parts_details s (laid old) ps at f.other f.pending f.height)) es
    (made (subst (λ u. Stand s (laid old) (goals_below u)) is stand))))

pub inner-Disj : (s : Hlds) (old new : Output) (number : ℕ) (t : GoalExpr) (ps : HldsGoals) (at : Place) (e : Entry) → t ≡ DisjGoal ps → e ≡ entry at.other (suc at.pending) at.height
    → (Stand s (laid old) (goals_among ps) → Adds old new (arms_code s number (laid old) ps at (switch_at (program_findings s) number) e.pending e.height) (arms_details s number (laid old) ps at (switch_at (program_findings s) number) e.pending e.height))
    → laid old ≡ suc number → Stand s (laid old) (goals_below t)
    → Adds old new (inner_code s number t at) (inner_details s number t at)
inner-Disj s old new number t ps at e is es made more stand =
    subst (λ u. Adds old new (inner_code s number u at) (inner_details s number u at)) (sym is)
    (subst (λ k. Adds old new (arms_code s number k ps at (switch_at (program_findings s) number) (suc at.pending) at.height) (arms_details s number k ps at (switch_at (program_findings s) number) (suc at.pending) at.height)) more
    (subst (λ (f : Entry). Adds old new (arms_code s number (laid old) ps at (switch_at (program_findings s) number) f.pending f.height) (arms_details s number (laid old) ps at (switch_at (program_findings s) number) f.pending f.height)) es
    (made (subst (λ u. Stand s (laid old) (goals_below u)) is stand))))

pub inner-If : (s : Hlds) (old a b new : Output) (number : ℕ) (t : GoalExpr) (x y z : HldsGoal) (at pc pt pe : Place) → t ≡ IfGoal x y z
    → ((c d : HldsGoal) → goal_at s (suc number) ≡ Some c → goal_at s (suc number + goal_size c) ≡ Some d
    → (pc ≡ if_condition s number c d at) × (pt ≡ then_place s number c at) × (pe ≡ else_place s number c d at))
    → (Stand s (laid old) (goals_within x) → Makes s old a x pc) → (Stand s (laid a) (goals_within y) → Makes s a b y pt) → (Stand s (laid b) (goals_within z) → Makes s b new z pe)
    → laid old ≡ suc number → Stand s (laid old) (goals_below t)
    → Adds old new (inner_code s number t at) (inner_details s number t at)
inner-If s old a b new number t x y z at pc pt pe is places one two three more stand =
    let parts = stand-If s (suc number) t x y z is (subst (λ k. Stand s k (goals_below t)) more stand) in
    let standing = places x y (stand-own s (suc number) x parts.one) (stand-own s (suc number + goal_size x) y parts.two) in
    let first = one (subst (λ k. Stand s k (goals_within x)) (sym more) parts.one) in
    let m : laid a ≡ suc number + goal_size x = laid-more s old a x pc first ∙ ap (λ k. k + goal_size x) more in
    let second = two (subst (λ k. Stand s k (goals_within y)) (sym m) parts.two) in
    let l : laid b ≡ suc number + goal_size x + goal_size y = laid-more s a b y pt second ∙ ap (λ k. k + goal_size y) m in
    let third = three (subst (λ k. Stand s k (goals_within z)) (sym l) parts.three) in
    let at-one = subst (λ (p : Place). Adds old a (goal_code s (suc number) x p) (goal_details s (suc number) x p)) standing.0 (subst (λ k. Adds old a (goal_code s k x pc) (goal_details s k x pc)) more first) in
    let at-two = subst (λ (p : Place). Adds a b (goal_code s (suc number + goal_size x) y p) (goal_details s (suc number + goal_size x) y p)) standing.1 (subst (λ k. Adds a b (goal_code s k y pt) (goal_details s k y pt)) m second) in
    let at-three = subst (λ (p : Place). Adds b new (goal_code s (suc number + goal_size x + goal_size y) z p) (goal_details s (suc number + goal_size x + goal_size y) z p)) standing.2 (subst (λ k. Adds b new (goal_code s k z pe) (goal_details s k z pe)) l third) in
    subst (λ u. Adds old new (inner_code s number u at) (inner_details s number u at)) (sym is)
    (adds-join old a new _ _ _ _ at-one (adds-join a b new _ _ _ _ at-two at-three))

pub what-is-left : (n : ℕ) (gs : List Goal) → take (length gs - n) (drop n gs) ≡ drop n gs
what-is-left n gs = take_all (length gs - n) (drop n gs) (omega (arith, length-drop n gs))

pub trial-before : (n m : ℕ) (gs : List Goal) → m ≡ try_at n → 0 < length gs → ArmBefore m ≡ arm_trial n (gathered (goals_of gs))
trial-before n m [] e h = absurd (omega (arith, h))
trial-before n m (g ∷ gs) e h = ap ArmBefore e

pub other-before : (other : ℕ) (gs : List Goal) → 0 < length gs → 0 ≡ arm_other (gathered (goals_of gs)) other
other-before other [] h = absurd (omega (arith, h))
other-before other (g ∷ gs) h = refl

pub expr-Not : (k : GoalKind) (b : Box Goal Global) (x : Goal) → k ≡ Not b → x ≡ b.value → expr_of k ≡ NotGoal (goal_of x)
expr-Not k b x is xs = ap expr_of is ∙ rw (sym xs) refl

pub expr-Some : (k : GoalKind) (vs : List ℕ) (b : Box Goal Global) (x : Goal) → k ≡ Quantified vs b → x ≡ b.value → expr_of k ≡ SomeGoal vs (goal_of x)
expr-Some k vs b x is xs = ap expr_of is ∙ rw (sym xs) refl
