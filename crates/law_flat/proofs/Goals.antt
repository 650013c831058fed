-- Where a goal stands in the code, and what follows it and where it fails to stand there, the code leads along its way.
use Rattle.std.proofs.Common.{◌≡◌, refl, sym, ap, ◌∙◌, subst, arith, ℕ, zero, suc, ◌+◌, ◌*◌, Bool, true, false, ◌||◌, List, [], ◌∷◌, ◌++◌, Option, Some, None}
use Rattle.md_hlds.specs.HldsGoal.{HldsGoal, At, GoalExpr, SimpleGoal, CallGoal, HoCallGoal, ConjGoal, DisjGoal, IfGoal, NotGoal, SomeGoal, HldsGoals, nothing, also, goal_size, numbered_goal, numbered_from}
use Rattle.md_hlds.specs.Hlds.{Procedure, Hlds, procedure_called, goal_at}
use Rattle.md_hlds.specs.Trace.{call_weight}
use Rattle.md_det.specs.declared.finding.Switch.{Switch}
use Rattle.md_det.specs.Findings.{program_findings, switch_at}
use Rattle.md_flat.specs.declared.instruction.Instruction.{Instruction}
use Rattle.md_flat.specs.declared.instruction.Operation.TheVariants as act
use Rattle.md_code.specs.Leaves.{is_tried, parts_leave, found_leaves, leaves_table}
use Rattle.md_code.specs.Tables.{pop_address, head_at, second_at, end_at, ended_at, try_at}
use Rattle.md_code.specs.Blocks.{Place, instruction, other_after, pending_after, pending_parts, pending_expr, cut_or_pass, end_code, try_code, parts_begin, condition_code, some_code, disjunction_code, called_weight, own_code, block, height_if, joining, if_condition, then_place, else_place, negated_place, some_place, conjunct_place, arm_place}
use Rattle.md_code.specs.Details.{switch_detail, call_detail}
use Rattle.law_frames.specs.Ways.{Address, pop, port, to, tries, redoes, Way, on, holds, denies, finds, after, ends, part_way, parts_way, condition_way, negation_way, some_way}
use Rattle.law_flat.specs.Flat.{Flat, HasAt, HasDetail, StandsFrom}
use Rattle.law_flat.specs.Shapes.{Shape, KeepsIn, InRange}
use Rattle.md_modes.specs.Goals.{variables, expr_variables, parts_variables}
use Rattle.md_modes.proofs.Counts.{times-append}
use Rattle.law_flat.specs.Laid.{Laid, IsCommon, HasSome, IsArmed, AreArmed}
use Rattle.law_flat.specs.Leads.{is_first, FailsOff, IsCall, IsApplication, Leads, ArmsLead, FailsAt, passes, charges, simple, calls, applies, conjunction, disjunction, switch, condition, condition_above, negation, negation_above, quantified, quantified_above, joins_on, holding, holding_cut, denying, denying_cut, finding, finding_cut, no_arms, also_arm, charged, pops, goes_to, last_arm, arm_before}
use Rattle.law_flat.proofs.Lists.{stands_left, stands_right}
use Rattle.law_flat.proofs.Sizes.{own_three, end_two}
use Rattle.law_flat.proofs.Texts.{simple_literals, switch_literals}
use Rattle.law_flat.proofs.Lying.{OwnLies, own_lies, if_lies, not_lies, some_lies, PartsLie, ArmsLie, conj_lies, disj_lies, first_part, other_parts, first_arm, other_arms}

-- ---- addresses

pub is_later : (m j : ℕ) → m ≡ suc j → is_first m ≡ false
is_later m j e = ap is_first e

pub head_later : (n : ℕ) → is_first (head_at n) ≡ false
head_later n = is_later (head_at n) (n * 6 + 5) (omega arith)

pub end_later : (n : ℕ) → is_first (end_at n) ≡ false
end_later n = is_later (end_at n) (n * 6 + 8) (omega arith)

begin_later : (n : ℕ) (ps : HldsGoals) (next : ℕ) → is_first next ≡ false → is_first (parts_begin n ps next) ≡ false
begin_later n nothing next later = later
begin_later n (also g gs) next later = head_later n

fails_to_way : (s : Hlds) (code : Flat) (f : Shape) (other : ℕ) (w : Way) → is_first other ≡ false → Leads s code f other 0 w → FailsOff s code f other (to w)
fails_to_way s code f other w later h = record { fails = goes_to h; sits = sym later }

pub fails_popping : (s : Hlds) (code : Flat) (f : Shape) → IsCommon code → FailsOff s code f pop_address pop
fails_popping s code f common = record { fails = pops common.0; sits = refl }

pub fails_after : (s : Hlds) (code : Flat) (f : Shape) → IsCommon code → (b : Bool) (other : ℕ) (a : Address) → FailsOff s code f other a → FailsOff s code f (other_after other b) (after a b)
fails_after s code f common true other a h = fails_popping s code f common
fails_after s code f common false other a h = h

-- ---- the end of a goal

-- two instructions at its end
pub ends_stand : (s : Hlds) (code : Flat) (n : ℕ) (t : GoalExpr) (at : Place) → StandsFrom code.instructions (head_at n) (block s n t at) → StandsFrom code.instructions (end_at n) (end_code n (pending_expr s n at.pending t) at.size at.end)
ends_stand s code n t at h =
    let three = own_three s n t at in
    stands_left code.instructions (end_at n) (end_code n (pending_expr s n at.pending t) at.size at.end) (try_code n at.size at.trial ∷ [])
    (stands_right code.instructions (head_at n) (end_at n) (own_code s n t at) _ (omega (arith, three)) h)

tried_stands : (s : Hlds) (code : Flat) (n : ℕ) (t : GoalExpr) (at : Place) → StandsFrom code.instructions (head_at n) (block s n t at) → HasAt code (try_at n) (try_code n at.size at.trial)
tried_stands s code n t at h =
    let three = own_three s n t at in
    let two = end_two n (pending_expr s n at.pending t) at.size at.end in
    (stands_right code.instructions (end_at n) (try_at n) (end_code n (pending_expr s n at.pending t) at.size at.end) (try_code n at.size at.trial ∷ []) (omega (arith, two))
    (stands_right code.instructions (head_at n) (end_at n) (own_code s n t at) _ (omega (arith, three)) h)).0

-- the goal's end, and where it is tried, whatever the goal is
pub goal_ends : (s : Hlds) (code : Flat) (f : Shape) (n : ℕ) (g : HldsGoal) (at : Place) → Laid s code f n g at → StandsFrom code.instructions (end_at n) (end_code n (pending_after s n at.pending g) at.size at.end)
goal_ends s code f n (At l t) at h = ends_stand s code n t at (own_lies s code f n l t at h).instructions

pub goal_tried : (s : Hlds) (code : Flat) (f : Shape) (n : ℕ) (g : HldsGoal) (at : Place) → Laid s code f n g at → HasAt code (try_at n) (try_code n at.size at.trial)
goal_tried s code f n (At l t) at h = tried_stands s code n t at (own_lies s code f n l t at h).instructions

second_stands : (code : Flat) (n k m : ℕ) (i : Instruction) → suc k ≡ m → HasAt code (suc k) i → HasAt code m i
second_stands code n k m i e h = subst (λ j. HasAt code j i) e h

-- a choice is left, where one is counted on
joined_on : (s : Hlds) (code : Flat) (f : Shape) (k p size other next : ℕ) (a : Address) (w : Way) → size ≡ f.size → FailsOff s code f other a
    → StandsFrom code.instructions (end_at k) (end_code k p size (joining false true other next)) → Leads s code f next 0 w → Leads s code f (end_at k) p (ends a false true w)
joined_on s code f k p size zero next pop w z off h leads = charges h.0 (passes (second_stands code k (end_at k) (ended_at k) _ (omega arith) h.1.0) leads)
joined_on s code f k p size (suc other) next pop w z off h leads = absurd (let e = off.sits in cc e)
joined_on s code f k p size zero next port w z off h leads = absurd (let e = off.sits in cc e)
joined_on s code f k p size (suc other) next port w z off h leads = charges h.0 (joins_on (subst (λ y. HasAt code (ended_at k) (instruction 0 next (act.Try (suc other) y))) z (second_stands code k (end_at k) (ended_at k) _ (omega arith) h.1.0)) off.fails leads)
joined_on s code f k p size zero next (to v) w z off h leads = absurd (let e = off.sits in cc e)
joined_on s code f k p size (suc other) next (to v) w z off h leads = charges h.0 (joins_on (subst (λ y. HasAt code (ended_at k) (instruction 0 next (act.Try (suc other) y))) z (second_stands code k (end_at k) (ended_at k) _ (omega arith) h.1.0)) off.fails leads)
joined_on s code f k p size zero next (tries q qs b v) w z off h leads = absurd (let e = off.sits in cc e)
joined_on s code f k p size (suc other) next (tries q qs b v) w z off h leads = charges h.0 (joins_on (subst (λ y. HasAt code (ended_at k) (instruction 0 next (act.Try (suc other) y))) z (second_stands code k (end_at k) (ended_at k) _ (omega arith) h.1.0)) off.fails leads)
joined_on s code f k p size zero next (redoes b) w z off h leads = absurd (let e = off.sits in cc e)
joined_on s code f k p size (suc other) next (redoes b) w z off h leads = charges h.0 (joins_on (subst (λ y. HasAt code (ended_at k) (instruction 0 next (act.Try (suc other) y))) z (second_stands code k (end_at k) (ended_at k) _ (omega arith) h.1.0)) off.fails leads)

-- one of several parts goes on with what follows them
joined : (s : Hlds) (code : Flat) (f : Shape) (part whole : Bool) (k p size other next : ℕ) (a : Address) (w : Way) → size ≡ f.size → FailsOff s code f other a
    → StandsFrom code.instructions (end_at k) (end_code k p size (joining part whole other next)) → Leads s code f next 0 w → Leads s code f (end_at k) p (ends a part whole w)
joined s code f true whole k p size other next a w z off h leads = charges h.0 (passes (second_stands code k (end_at k) (ended_at k) _ (omega arith) h.1.0) leads)
joined s code f false true k p size other next a w z off h leads = joined_on s code f k p size other next a w z off h leads
joined s code f false false k p size other next a w z off h leads = charges h.0 (passes (second_stands code k (end_at k) (ended_at k) _ (omega arith) h.1.0) leads)

-- an arm that fails to the newest choice leaves none
joined_popping : (s : Hlds) (code : Flat) (f : Shape) (part whole : Bool) (k p size next : ℕ) (w : Way)
    → StandsFrom code.instructions (end_at k) (end_code k p size (joining part whole pop_address next)) → Leads s code f next 0 w → Leads s code f (end_at k) p w
joined_popping s code f true whole k p size next w h leads = charges h.0 (passes (second_stands code k (end_at k) (ended_at k) _ (omega arith) h.1.0) leads)
joined_popping s code f false true k p size next w h leads = charges h.0 (passes (second_stands code k (end_at k) (ended_at k) _ (omega arith) h.1.0) leads)
joined_popping s code f false false k p size next w h leads = charges h.0 (passes (second_stands code k (end_at k) (ended_at k) _ (omega arith) h.1.0) leads)

holds_leads : (s : Hlds) (code : Flat) (f : Shape) (b : Bool) (pc next height p n : ℕ) (a : Address) (t : Way) → HasAt code pc (cut_or_pass (height_if b height) next) → (b ≡ true → KeepsIn f height (suc n))
    → Leads s code f next p t → Leads s code f pc p (holds a b n t)
holds_leads s code f true pc next height p n a t h keeps leads = holding_cut h (keeps refl) leads
holds_leads s code f false pc next height p n a t h keeps leads = holding h leads

finds_leads : (s : Hlds) (code : Flat) (f : Shape) (b : Bool) (pc next height p n : ℕ) (a : Address) (t : Way) → HasAt code pc (cut_or_pass (height_if b height) next) → (b ≡ true → KeepsIn f height (suc n))
    → Leads s code f next p t → Leads s code f pc p (finds a b n t)
finds_leads s code f true pc next height p n a t h keeps leads = finding_cut h (keeps refl) leads
finds_leads s code f false pc next height p n a t h keeps leads = finding h leads

denies_leads : (s : Hlds) (code : Flat) (f : Shape) (x : Bool) (pc next height p n : ℕ) (a b : Address) → HasAt code pc (cut_or_pass (height_if x height) next) → (x ≡ true → KeepsIn f height (suc n))
    → FailsAt s code f next p b → Leads s code f pc p (denies a x n b)
denies_leads s code f true pc next height p n a b h keeps fails = denying_cut h (keeps refl) fails
denies_leads s code f false pc next height p n a b h keeps fails = denying h fails

-- ---- the head of a goal with a condition

if_leads : (s : Hlds) (code : Flat) (f : Shape) (b : Bool) (n l p height size other : ℕ) (c t e : HldsGoal) (a : Address) (w : Way) → leaves_table s (suc n) ≡ b → size ≡ f.size
    → StandsFrom code.instructions (head_at n) (condition_code b n p height size other) → (b ≡ true → KeepsIn f height (suc n))
    → Leads s code f other 0 (part_way (leaves_table s) n a (numbered_goal (suc n + goal_size c + goal_size t) e) w)
    → Leads s code f (head_at (suc n)) (suc p) (condition_way (leaves_table s) n (numbered_goal (suc n) c) (part_way (leaves_table s) n a (numbered_goal (suc n + goal_size c) t) w) (part_way (leaves_table s) n a (numbered_goal (suc n + goal_size c + goal_size t) e) w))
    → Leads s code f (head_at n) p (on a (numbered_goal n (At l (IfGoal c t e))) w)
if_leads s code f true n l p height size other c t e a w is z h keeps else cond =
    condition_above is h.0 (keeps refl) (subst (λ y. HasAt code (second_at n) (instruction 0 (head_at (suc n)) (act.Try other y))) z (second_stands code n (head_at n) (second_at n) _ (omega arith) h.1.0)) else cond
if_leads s code f false n l p height size other c t e a w is z h keeps else cond = condition is h.0 cond

not_leads : (s : Hlds) (code : Flat) (f : Shape) (b : Bool) (n l p height size other : ℕ) (c : HldsGoal) (a : Address) (w : Way) → leaves_table s (suc n) ≡ b → size ≡ f.size
    → StandsFrom code.instructions (head_at n) (condition_code b n p height size other) → (b ≡ true → KeepsIn f height (suc n)) → Leads s code f other 0 w
    → Leads s code f (head_at (suc n)) (suc p) (negation_way (leaves_table s) n a (numbered_goal (suc n) c) w) → Leads s code f (head_at n) p (on a (numbered_goal n (At l (NotGoal c))) w)
not_leads s code f true n l p height size other c a w is z h keeps else cond =
    negation_above is h.0 (keeps refl) (subst (λ y. HasAt code (second_at n) (instruction 0 (head_at (suc n)) (act.Try other y))) z (second_stands code n (head_at n) (second_at n) _ (omega arith) h.1.0)) else cond
not_leads s code f false n l p height size other c a w is z h keeps else cond = negation is h.0 cond

some_leads : (s : Hlds) (code : Flat) (f : Shape) (b : Bool) (n l p height : ℕ) (vs : List ℕ) (c : HldsGoal) (a : Address) (w : Way) → leaves_table s (suc n) ≡ b
    → StandsFrom code.instructions (head_at n) (some_code b n height) → (b ≡ true → KeepsIn f height (suc n))
    → Leads s code f (head_at (suc n)) (suc p) (some_way (leaves_table s) n a (numbered_goal (suc n) c) w) → Leads s code f (head_at n) p (on a (numbered_goal n (At l (SomeGoal vs c))) w)
some_leads s code f true n l p height vs c a w is h keeps cond = quantified_above is h.0 (keeps refl) cond
some_leads s code f false n l p height vs c a w is h keeps cond = quantified is h.0 cond

-- ---- calls

call_leads : (s : Hlds) (code : Flat) (f : Shape) (n site p : ℕ) (ys : List ℕ) (at : Place) (o : Option (ℕ × Procedure)) (q : ℕ × Procedure) → at.size ≡ f.size → HasDetail code n (call_detail s site ys at o) → o ≡ Some q
    → (p + called_weight o ≡ p + call_weight q.1) × IsCall s code n site f.size q ys at.next at.other
call_leads s code f n site p ys at None q z d is = absurd (cc is)
call_leads s code f n site p ys at (Some u) q z d is =
    let same : u ≡ q = ap (or_first u) is in (
      ap (λ (v : ℕ × Procedure). p + call_weight v.1) same,
      subst (λ (v : ℕ × Procedure). IsCall s code n site f.size v ys at.next at.other) same (subst (λ y. IsCall s code n site y u ys at.next at.other) z d),
    )
  where
    or_first : (ℕ × Procedure) → Option (ℕ × Procedure) → ℕ × Procedure
    or_first d None = d
    or_first d (Some v) = v

-- ---- disjunctions

-- a disjunction whose arms are tried may leave a choice
tried_leaves : (s : Hlds) (n l : ℕ) (ps : HldsGoals) → goal_at s n ≡ Some (At l (DisjGoal ps)) → switch_at (program_findings s) n ≡ None → leaves_table s n ≡ true
tried_leaves s n l ps at none = ap (λ o. found_leaves s n o) at ∙ ap (λ o. is_tried o || parts_leave s (suc n) ps) none

-- where these arms are tried, the first of number k
abbrev TriedFrom : Hlds → Flat → Shape → (k p : ℕ) → HldsGoals → Address → Way → Type 0
TriedFrom s code f k p nothing a w = Unit {0}
TriedFrom s code f k p (also g gs) a w = FailsAt s code f (try_at k) p (tries (numbered_goal k g) (numbered_from (k + goal_size g) gs) a w)

-- by where its arms are tried, or are
disj_leads : (s : Hlds) (code : Flat) (f : Shape) (n l : ℕ) (ps : HldsGoals) (at : Place) (a : Address) (w : Way) (by : Option Switch) → switch_at (program_findings s) n ≡ by → OwnLies s code f n l (DisjGoal ps) at
    → ArmsLie s code f n (suc n) ps at by (suc at.pending) at.height → StandsFrom code.instructions (head_at n) (disjunction_code s n ps at by) → HasDetail code n (switch_detail s n ps by) → HasSome ps → FailsOff s code f at.other a
    → (leaves_table s n ≡ true → ArmsLie s code f n (suc n) ps at None (suc at.pending) at.height → TriedFrom s code f (suc n) (suc at.pending) ps a w)
    → ((v : Switch) → ArmsLie s code f n (suc n) ps at (Some v) (suc at.pending) at.height → ArmsLead s code f n (suc at.pending) a w (numbered_from (suc n) ps))
    → Leads s code f (head_at n) at.pending (on a (numbered_goal n (At l (DisjGoal ps))) w)
disj_leads s code f n l nothing at a w by is own lie h d some off tried led = absurd some
disj_leads s code f n l (also g gs) at a w None is own lie h d some off tried led = disjunction is h.0 (tried (tried_leaves s n l (also g gs) own.goal is) lie)
disj_leads s code f n l (also g gs) at a w (Some by) is own lie h d some off tried led = switch by is h.0 d (switch_literals s (suc n) (also g gs) lie.lies.goals) (second_stands code n (head_at n) (second_at n) _ (omega arith) h.1.0) (led by lie) off.fails

-- ---- goals

mutual
  pub goal_leads : (s : Hlds) (code : Flat) (f : Shape) → IsCommon code → (n : ℕ) (g : HldsGoal) (at : Place) (a : Address) (w : Way) → Laid s code f n g at → IsArmed g → InRange f (variables g) → FailsOff s code f at.other a → is_first at.next ≡ false
      → Leads s code f at.next (pending_after s n at.pending g) w → Leads s code f (head_at n) at.pending (on a (numbered_goal n g) w)
  goal_leads s code f common n (At l t) at a w laid armed range off later leads = expr_leads s code f common n l t at a w laid (own_lies s code f n l t at laid) armed range off later leads

  expr_leads : (s : Hlds) (code : Flat) (f : Shape) → IsCommon code → (n l : ℕ) (t : GoalExpr) (at : Place) (a : Address) (w : Way) → Laid s code f n (At l t) at → OwnLies s code f n l t at → IsArmed (At l t) → InRange f (expr_variables t) → FailsOff s code f at.other a
      → is_first at.next ≡ false → Leads s code f at.next (pending_expr s n at.pending t) w → Leads s code f (head_at n) at.pending (on a (numbered_goal n (At l t)) w)
  expr_leads s code f common n l (SimpleGoal g) at a w laid own armed range off later leads =
      simple at refl refl (stands_left code.instructions (head_at n) (own_code s n (SimpleGoal g) at) _ own.instructions) own.detail range (simple_literals s n l g own.goal) leads off.fails
  expr_leads s code f common n l (CallGoal site r ys) at a w laid own armed range off later leads =
      calls (at.pending + called_weight (procedure_called s r)) at.next own.instructions.0
      (λ q is. call_leads s code f n site at.pending ys at (procedure_called s r) q laid.size own.detail is) range leads off.fails
  expr_leads s code f common n l (HoCallGoal site x ys) at a w laid own armed range off later leads =
      applies at.next own.instructions.0 (subst (λ y. IsApplication code n site y ys at.next at.other) laid.size own.detail) range leads off.fails
  expr_leads s code f common n l (ConjGoal ps) at a w laid own armed range off later leads =
      conjunction own.instructions.0 (parts_lead s code f common (suc n) ps at at.other (suc at.pending) at.height a w (conj_lies s code f n l ps at laid) armed range off later leads)
  expr_leads s code f common n l (DisjGoal ps) at a w laid own armed range off later leads =
      disj_leads s code f n l ps at a w (switch_at (program_findings s) n) refl own (disj_lies s code f n l ps at laid)
      (stands_left code.instructions (head_at n) (own_code s n (DisjGoal ps) at) _ own.instructions) own.detail armed.0 off
      (λ whole lie. arms_tried s code f common n (suc n) ps at (suc at.pending) at.height a w whole lie armed.1 range off leads)
      (λ by lie. arms_lead s code f common n (suc n) ps at by (suc at.pending) at.height a w lie armed.1 range off leads)
  expr_leads s code f common n l (IfGoal c t e) at a w laid own armed range off later leads =
      let m = suc n + goal_size c in
      let k = m + goal_size t in
      let b = leaves_table s (suc n) in
      let parts = if_lies s code f n l c t e at laid in
      let else = goal_leads s code f common k e (else_place s n c t at) a (ends a (leaves_table s k) (leaves_table s n) w) parts.else armed.2 (λ y lt. range y (let i = times-append y (variables c) (variables t ++ variables e) in let j = times-append y (variables t) (variables e) in omega (arith, lt, i, j))) off (end_later k)
      (joined s code f (leaves_table s k) (leaves_table s n) k _ at.size at.other at.next a w laid.size off (goal_ends s code f k e (else_place s n c t at) parts.else) leads) in
      let then = goal_leads s code f common m t (then_place s n c at) a (ends a (leaves_table s m) (leaves_table s n) w) parts.then armed.1 (λ y lt. range y (let i = times-append y (variables c) (variables t ++ variables e) in let j = times-append y (variables t) (variables e) in omega (arith, lt, i, j))) off (end_later m)
      (joined s code f (leaves_table s m) (leaves_table s n) m _ at.size at.other at.next a w laid.size off (goal_ends s code f m t (then_place s n c at) parts.then) leads) in
      let miss = fails_after s code f common b (head_at k) (to (part_way (leaves_table s) n a (numbered_goal k e) w)) (fails_to_way s code f (head_at k) _ (head_later k) else) in
      let cond = goal_leads s code f common (suc n) c (if_condition s n c t at) (after (to (part_way (leaves_table s) n a (numbered_goal k e) w)) b)
      (holds (after (to (part_way (leaves_table s) n a (numbered_goal k e) w)) b) b n (part_way (leaves_table s) n a (numbered_goal m t) w)) parts.condition armed.0 (λ y lt. range y (let i = times-append y (variables c) (variables t ++ variables e) in omega (arith, lt, i))) miss (end_later (suc n))
      (holds_leads s code f b (end_at (suc n)) (head_at m) at.height _ n _ _ (goal_ends s code f (suc n) c (if_condition s n c t at) parts.condition).0 parts.keeps then) in
      if_leads s code f b n l at.pending at.height at.size (head_at k) c t e a w refl laid.size (stands_left code.instructions (head_at n) (own_code s n (IfGoal c t e) at) _ own.instructions) parts.keeps else cond
  expr_leads s code f common n l (NotGoal c) at a w laid own armed range off later leads =
      let b = leaves_table s (suc n) in
      let parts = not_lies s code f n l c at laid in
      let two = goal_ends s code f (suc n) c (negated_place s n at) parts.part in
      let miss = fails_after s code f common b at.next (to w) (fails_to_way s code f at.next w later leads) in
      let cond = goal_leads s code f common (suc n) c (negated_place s n at) (after (to w) b) (denies (after (to w) b) b n a) parts.part armed range miss (end_later (suc n))
      (denies_leads s code f b (end_at (suc n)) (ended_at (suc n)) at.height _ n _ a two.0 parts.keeps
      (charged (second_stands code n (end_at (suc n)) (ended_at (suc n)) _ (omega arith) two.1.0) off.fails)) in
      not_leads s code f b n l at.pending at.height at.size at.next c a w refl laid.size (stands_left code.instructions (head_at n) (own_code s n (NotGoal c) at) _ own.instructions) parts.keeps leads cond
  expr_leads s code f common n l (SomeGoal vs c) at a w laid own armed range off later leads =
      let b = leaves_table s (suc n) in
      let parts = some_lies s code f n l vs c at laid in
      let two = goal_ends s code f (suc n) c (some_place s n at) parts.part in
      let cond = goal_leads s code f common (suc n) c (some_place s n at) a (finds (after a b) b n w) parts.part armed (λ y lt. range y (let i = times-append y vs (variables c) in omega (arith, lt, i))) off (end_later (suc n))
      (finds_leads s code f b (end_at (suc n)) at.next at.height _ n _ w two.0 parts.keeps leads) in
      some_leads s code f b n l at.pending at.height vs c a w refl (stands_left code.instructions (head_at n) (own_code s n (SomeGoal vs c) at) _ own.instructions) parts.keeps cond

  parts_lead : (s : Hlds) (code : Flat) (f : Shape) → IsCommon code → (k : ℕ) (ps : HldsGoals) (at : Place) (other p h : ℕ) (a : Address) (w : Way) → PartsLie s code f k ps at other p h → AreArmed ps → InRange f (parts_variables ps) → FailsOff s code f other a
      → is_first at.next ≡ false → Leads s code f at.next (pending_parts s k p ps) w → Leads s code f (parts_begin k ps at.next) p (parts_way (leaves_table s) k ps a w)
  parts_lead s code f common k nothing at other p h a w lie armed range off later leads = leads
  parts_lead s code f common k (also g gs) at other p h a w lie armed range off later leads =
      goal_leads s code f common k g (conjunct_place s k g gs at other p h) a (parts_way (leaves_table s) (k + goal_size g) gs (after a (leaves_table s k)) w) (first_part s code f k g gs at other p h lie) armed.0 (λ y lt. range y (let i = times-append y (variables g) (parts_variables gs) in omega (arith, lt, i))) off
      (begin_later (k + goal_size g) gs at.next later)
      (parts_lead s code f common (k + goal_size g) gs at (other_after other (leaves_table s k)) (pending_after s k p g) _ (after a (leaves_table s k)) w (other_parts s code f k g gs at other p h lie) armed.1 (λ y lt. range y (let i = times-append y (variables g) (parts_variables gs) in omega (arith, lt, i)))
      (fails_after s code f common (leaves_table s k) other a off) later leads)

  -- the arms of a disjunction that is no switch
  arms_tried : (s : Hlds) (code : Flat) (f : Shape) → IsCommon code → (n k : ℕ) (ps : HldsGoals) (at : Place) (p h : ℕ) (a : Address) (w : Way) → leaves_table s n ≡ true → ArmsLie s code f n k ps at None p h → AreArmed ps → InRange f (parts_variables ps)
      → FailsOff s code f at.other a → Leads s code f at.next 0 w → TriedFrom s code f k p ps a w
  arms_tried s code f common n k nothing at p h a w whole lie armed range off leads = tt
  arms_tried s code f common n k (also g nothing) at p h a w whole lie armed range off leads =
      let laid = first_arm s code f n k g nothing at None p h lie in
      let place = arm_place s n k (k + goal_size g) nothing at None p h in
      last_arm (goal_tried s code f k g place laid)
      (goal_leads s code f common k g place a (ends a (leaves_table s k) true w) laid armed.0 (λ y lt. range y (let i = times-append y (variables g) (parts_variables nothing) in omega (arith, lt, i))) off (end_later k)
      (subst (λ b. Leads s code f (end_at k) (pending_after s k p g) (ends a (leaves_table s k) b w)) whole
      (joined s code f (leaves_table s k) (leaves_table s n) k _ at.size at.other at.next a w lie.size off (goal_ends s code f k g place laid) leads)))
  arms_tried s code f common n k (also g (also g' gs)) at p h a w whole lie armed range off leads =
      let laid = first_arm s code f n k g (also g' gs) at None p h lie in
      let place = arm_place s n k (k + goal_size g) (also g' gs) at None p h in
      arm_before (subst (λ y. HasAt code (try_at k) (instruction 0 (head_at k) (act.Try (try_at (k + goal_size g)) y))) lie.size (goal_tried s code f k g place laid))
      (goal_leads s code f common k g place pop w laid armed.0 (λ y lt. range y (let i = times-append y (variables g) (parts_variables (also g' gs)) in omega (arith, lt, i))) (fails_popping s code f common) (end_later k)
      (joined_popping s code f (leaves_table s k) (leaves_table s n) k _ at.size at.next w (goal_ends s code f k g place laid) leads))
      (arms_tried s code f common n (k + goal_size g) (also g' gs) at 0 _ a w whole (other_arms s code f n k g (also g' gs) at None p h lie) armed.1 (λ y lt. range y (let i = times-append y (variables g) (parts_variables (also g' gs)) in omega (arith, lt, i))) off leads)

  -- the arms of a switch
  arms_lead : (s : Hlds) (code : Flat) (f : Shape) → IsCommon code → (n k : ℕ) (ps : HldsGoals) (at : Place) (by : Switch) (p h : ℕ) (a : Address) (w : Way) → ArmsLie s code f n k ps at (Some by) p h → AreArmed ps → InRange f (parts_variables ps)
      → FailsOff s code f at.other a → Leads s code f at.next 0 w → ArmsLead s code f n p a w (numbered_from k ps)
  arms_lead s code f common n k nothing at by p h a w lie armed range off leads = no_arms
  arms_lead s code f common n k (also g gs) at by p h a w lie armed range off leads =
      let laid = first_arm s code f n k g gs at (Some by) p h lie in
      let place = arm_place s n k (k + goal_size g) gs at (Some by) p h in
      also_arm (goal_leads s code f common k g place a (ends a (leaves_table s k) (leaves_table s n) w) laid armed.0 (λ y lt. range y (let i = times-append y (variables g) (parts_variables gs) in omega (arith, lt, i))) off (end_later k)
      (joined s code f (leaves_table s k) (leaves_table s n) k _ at.size at.other at.next a w lie.size off (goal_ends s code f k g place laid) leads))
      (arms_lead s code f common n (k + goal_size g) gs at by p _ a w (other_arms s code f n k g gs at (Some by) p h lie) armed.1 (λ y lt. range y (let i = times-append y (variables g) (parts_variables gs) in omega (arith, lt, i))) off leads)
