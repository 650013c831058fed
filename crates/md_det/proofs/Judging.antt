-- Judgements of the code: one goal and then others, one arm beside others, and a goal with those within it.
use Rattle.std.proofs.Common.{◌≡◌, refl, sym, ap, ◌∙◌, subst, arith, append-nil, ℕ, zero, suc, ◌+◌, ◌<◌, Bool, true, false, ◌&&◌, ◌||◌, List, [], ◌∷◌, ◌++◌, length, length-append, drop, get_or, Option, Some, None, Vec, Box, Result, Ok, Err, append_assoc, slice_set}
use Rattle.std.specs.Prelude.{IfOk}
use Rattle.std.specs.declared.alloc.Global.{Global}
use Rattle.md_hlds.specs.declared.goal.Goal.{Goal}
use Rattle.md_hlds.specs.declared.goal.GoalKind.{GoalKind, Conj, Disj, If, Not}
use Rattle.md_hlds.specs.declared.goal.GoalKind.TheVariants as kinds
use Rattle.md_hlds.specs.HldsGoal.{ConjGoal, DisjGoal, IfGoal, NotGoal, SomeGoal, gathered, goal_of, goals_of, expr_of}
use Rattle.md_hlds.proofs.Bridge.{expr_of-Conj, expr_of-Disj}
use Rattle.md_det.specs.declared.fault.DetFault.{DetFault}
use Rattle.md_det.specs.declared.finding.Finding.{Finding}
use Rattle.md_det.specs.declared.finding.Switch.{Switch}
use Rattle.md_det.specs.declared.judge.Found as code
use Rattle.md_det.specs.declared.pair.Bound.{Bound}
use Rattle.md_det.specs.declared.pair.Bound.TheVariants.{Zero, One, Many}
use Rattle.md_det.specs.declared.pair.Pair.{Pair}
use Rattle.md_det.specs.Bounds.{product, sum, greatest, is_many}
use Rattle.md_det.specs.Pairs.{in_turn, one_of_two}
use Rattle.md_det.specs.Judge.{no_arm, Reading, Judgement, judgement, Found, found, whole, or_else, beside, and_then, or_arm, condition_fault, judge_part, judge_expr, judge_each, judge_arms, onto}
use Rattle.md_det.specs.Told.{found_told, found_onto}
use Rattle.md_switch.proofs.KeyLemmas.{parts-step}

-- ---- what is combined, is combined in any grouping

product-assoc : (a b c : Bound) → product a (product b c) ≡ product (product a b) c
product-assoc Zero b c = refl
product-assoc One b c = refl
product-assoc Many Zero c = refl
product-assoc Many One Zero = refl
product-assoc Many One One = refl
product-assoc Many One Many = refl
product-assoc Many Many Zero = refl
product-assoc Many Many One = refl
product-assoc Many Many Many = refl

sum-assoc : (a b c : Bound) → sum a (sum b c) ≡ sum (sum a b) c
sum-assoc Zero b c = refl
sum-assoc Many b c = refl
sum-assoc One Zero c = refl
sum-assoc One Many c = refl
sum-assoc One One Zero = refl
sum-assoc One One One = refl
sum-assoc One One Many = refl

greatest-assoc : (a b c : Bound) → greatest a (greatest b c) ≡ greatest (greatest a b) c
greatest-assoc Zero b c = refl
greatest-assoc Many b c = refl
greatest-assoc One Zero c = refl
greatest-assoc One Many c = refl
greatest-assoc One One Zero = refl
greatest-assoc One One One = refl
greatest-assoc One One Many = refl

or-assoc : (a b c : Bool) → (a || (b || c)) ≡ ((a || b) || c)
or-assoc true b c = refl
or-assoc false b c = refl

and-assoc : (a b c : Bool) → (a && (b && c)) ≡ ((a && b) && c)
and-assoc true b c = refl
and-assoc false b c = refl

pub or_else-assoc : (a b c : Option DetFault) → or_else a (or_else b c) ≡ or_else (or_else a b) c
or_else-assoc None b c = refl
or_else-assoc (Some f) b c = refl

in_turn-assoc : (p q r : Pair) → in_turn p (in_turn q r) ≡ in_turn (in_turn p q) r
in_turn-assoc p q r = rw (or-assoc p.may_fail q.may_fail r.may_fail, product-assoc p.bound q.bound r.bound) refl

beside-assoc : (at : Option ℕ) (p q r : Pair) → beside at p (beside at q r) ≡ beside at (beside at p q) r
beside-assoc None p q r = rw (and-assoc p.may_fail q.may_fail r.may_fail, sum-assoc p.bound q.bound r.bound) refl
beside-assoc (Some x) p q r = rw (or-assoc p.may_fail q.may_fail r.may_fail, greatest-assoc p.bound q.bound r.bound) refl

and_then-assoc : (j k m : Judgement) → and_then j (and_then k m) ≡ and_then (and_then j k) m
and_then-assoc j k m =
    rw (in_turn-assoc j.pair k.pair m.pair, or_else-assoc j.fault k.fault m.fault, append_assoc j.findings k.findings m.findings) refl

or_arm-assoc : (at : Option ℕ) (j k m : Judgement) → or_arm at j (or_arm at k m) ≡ or_arm at (or_arm at j k) m
or_arm-assoc at j k m =
    rw (beside-assoc at j.pair k.pair m.pair, or_else-assoc j.fault k.fault m.fault, append_assoc j.findings k.findings m.findings) refl

-- ---- one more goal, and one more arm

-- what is judged with what was found before, and then the next, whose judgement is known from its own
pub each_next : (r : Reading) (at : Option ℕ) (again : Bool) (gs : List Goal) (i : ℕ) (g : Goal) (p : Pair) (f : Option DetFault) (olds : List Finding)
    (q : Pair) (h : Option DetFault) (news : List Finding) → i < length gs → g ≡ get_or gs i g
    → judgement q h news ≡ onto olds (judge_part r (length olds) at again (goal_of g))
    → and_then (judgement p f olds) (judge_each r (length olds) at again (gathered (goals_of (drop i gs))))
    ≡ and_then (judgement (in_turn p q) (or_else f h) news) (judge_each r (length news) None (again || is_many q.bound) (gathered (goals_of (drop (i + 1) gs))))
each_next r at again gs i g p f olds q h news lt is told =
    let j = judge_part r (length olds) at again (goal_of g) in
    let rest = gathered (goals_of (drop (i + 1) gs)) in
    let pairs : q ≡ j.pair = ap (λ (x : Judgement). x.pair) told in
    let faults : h ≡ j.fault = ap (λ (x : Judgement). x.fault) told in
    let finds : news ≡ olds ++ j.findings = ap (λ (x : Judgement). x.findings) told in
    let count : length olds + length j.findings ≡ length news = sym (ap length finds ∙ length-append olds j.findings) in
    ap (λ ps. and_then (judgement p f olds) (judge_each r (length olds) at again (gathered ps))) (parts-step gs i g lt is)
    ∙ (and_then-assoc (judgement p f olds) j (judge_each r (length olds + length j.findings) None (again || is_many j.pair.bound) rest)
    ∙ (ap (λ n. and_then (and_then (judgement p f olds) j) (judge_each r n None (again || is_many j.pair.bound) rest)) count
    ∙ rw (pairs, faults, finds) refl))

pub arms_next : (r : Reading) (at : Option ℕ) (again : Bool) (gs : List Goal) (i : ℕ) (g : Goal) (p : Pair) (f : Option DetFault) (olds : List Finding)
    (q : Pair) (h : Option DetFault) (news : List Finding) → i < length gs → g ≡ get_or gs i g
    → judgement q h news ≡ onto olds (judge_part r (length olds) at again (goal_of g))
    → or_arm at (judgement p f olds) (judge_arms r (length olds) at again (gathered (goals_of (drop i gs))))
    ≡ or_arm at (judgement (beside at p q) (or_else f h) news) (judge_arms r (length news) at again (gathered (goals_of (drop (i + 1) gs))))
arms_next r at again gs i g p f olds q h news lt is told =
    let j = judge_part r (length olds) at again (goal_of g) in
    let rest = gathered (goals_of (drop (i + 1) gs)) in
    let pairs : q ≡ j.pair = ap (λ (x : Judgement). x.pair) told in
    let faults : h ≡ j.fault = ap (λ (x : Judgement). x.fault) told in
    let finds : news ≡ olds ++ j.findings = ap (λ (x : Judgement). x.findings) told in
    let count : length olds + length j.findings ≡ length news = sym (ap length finds ∙ length-append olds j.findings) in
    ap (λ ps. or_arm at (judgement p f olds) (judge_arms r (length olds) at again (gathered ps))) (parts-step gs i g lt is)
    ∙ (or_arm-assoc at (judgement p f olds) j (judge_arms r (length olds + length j.findings) at again rest)
    ∙ (ap (λ n. or_arm at (or_arm at (judgement p f olds) j) (judge_arms r n at again rest)) count
    ∙ rw (pairs, faults, finds) refl))

-- ---- no goal is left, and no arm

none_left : (gs : List Goal) (i : ℕ) → length gs ≡ i → drop i gs ≡ []
none_left [] zero e = refl
none_left [] (suc i) e = refl
none_left (g ∷ gs) zero e = absurd (omega (arith, e))
none_left (g ∷ gs) (suc i) e = none_left gs i (omega (arith, e))

product-one : (b : Bound) → product b One ≡ b
product-one Zero = refl
product-one One = refl
product-one Many = refl

sum-zero : (b : Bound) → sum b Zero ≡ b
sum-zero Zero = refl
sum-zero One = refl
sum-zero Many = refl

greatest-zero : (b : Bound) → greatest b Zero ≡ b
greatest-zero Zero = refl
greatest-zero One = refl
greatest-zero Many = refl

or-nothing : (b : Bool) → (b || false) ≡ b
or-nothing true = refl
or-nothing false = refl

and-nothing : (b : Bool) → (b && true) ≡ b
and-nothing true = refl
and-nothing false = refl

or_else-none : (f : Option DetFault) → or_else f None ≡ f
or_else-none None = refl
or_else-none (Some f) = refl

beside-no_arm : (at : Option ℕ) (p : Pair) → beside at p (no_arm at) ≡ p
beside-no_arm None p = rw (and-nothing p.may_fail, sum-zero p.bound) refl
beside-no_arm (Some x) p = rw (or-nothing p.may_fail, greatest-zero p.bound) refl

pub each_end : (r : Reading) (n : ℕ) (at : Option ℕ) (again : Bool) (gs : List Goal) (i : ℕ) (p : Pair) (f : Option DetFault) (olds : List Finding) (j : Judgement) → length gs ≡ i
    → j ≡ and_then (judgement p f olds) (judge_each r n at again (gathered (goals_of (drop i gs)))) → judgement p f olds ≡ j
each_end r n at again gs i p f olds j e told =
    sym (told ∙ (ap (λ hs. and_then (judgement p f olds) (judge_each r n at again (gathered (goals_of hs)))) (none_left gs i e)
    ∙ rw (or-nothing p.may_fail, product-one p.bound, or_else-none f, append-nil olds) refl))

pub arms_end : (r : Reading) (n : ℕ) (at : Option ℕ) (again : Bool) (gs : List Goal) (i : ℕ) (p : Pair) (f : Option DetFault) (olds : List Finding) (j : Judgement) → length gs ≡ i
    → j ≡ or_arm at (judgement p f olds) (judge_arms r n at again (gathered (goals_of (drop i gs)))) → judgement p f olds ≡ j
arms_end r n at again gs i p f olds j e told =
    sym (told ∙ (ap (λ hs. or_arm at (judgement p f olds) (judge_arms r n at again (gathered (goals_of hs)))) (none_left gs i e)
    ∙ rw (beside-no_arm at p, or_else-none f, append-nil olds) refl))

-- ---- a goal with those within it

-- a place at the end is filled later
set_last : (olds below : List Finding) (x y : Finding) → slice_set ((olds ++ x ∷ []) ++ below) (length olds) y ≡ olds ++ y ∷ below
set_last [] below x y = refl
set_last (z ∷ olds) below x y = ap (λ zs. z ∷ zs) (set_last olds below x y)

pub own_set : (olds with_own news : List Finding) (x : Finding) (w : Option Switch) (p : Pair) (f : Option DetFault) (t : Found)
    → with_own ≡ olds ++ x ∷ [] → found w p f news ≡ found_onto with_own t
    → judgement p f (slice_set news (length olds) (record { switch = w; pair = p })) ≡ onto olds (whole t)
own_set olds with_own news x w p f t is told =
    let switches : w ≡ t.switch = ap (λ (y : Found). y.switch) told in
    let pairs : p ≡ t.pair = ap (λ (y : Found). y.pair) told in
    let faults : f ≡ t.fault = ap (λ (y : Found). y.fault) told in
    let finds : news ≡ (olds ++ x ∷ []) ++ t.below = ap (λ (y : Found). y.below) told ∙ ap (λ ys. ys ++ t.below) is in
    rw (finds, set_last olds t.below x (record { switch = w; pair = p }), switches, pairs, faults) refl

pub conj_found : (r : Reading) (n : ℕ) (at : Option ℕ) (again : Bool) (l : ℕ) (k : GoalKind) (v : Vec Goal Global) (gs : List Goal) (p : Pair) (f : Option DetFault) (olds news : List Finding)
    → k ≡ Conj v → gs ≡ v.items → suc n ≡ length olds
    → judgement p f news ≡ onto olds (judge_each r (length olds) at again (gathered (goals_of gs)))
    → found None p f news ≡ found_onto olds (judge_expr r n at again l (expr_of k))
conj_found r n at again l k v gs p f olds news is items number told =
    ap (λ (j : Judgement). found None j.pair j.fault j.findings) told
    ∙ (ap (λ m. found_onto olds (found None (judge_each r m at again (gathered (goals_of gs))).pair (judge_each r m at again (gathered (goals_of gs))).fault (judge_each r m at again (gathered (goals_of gs))).findings)) (sym number)
    ∙ (ap (λ xs. found_onto olds (judge_expr r n at again l (ConjGoal (gathered (goals_of xs))))) items
    ∙ ap (λ t. found_onto olds (judge_expr r n at again l t)) (sym (ap expr_of is ∙ expr_of-Conj v))))

pub disj_found : {E : Type 0} (r : Reading) (n : ℕ) (at : Option ℕ) (again : Bool) (l : ℕ) (k : GoalKind) (v : Vec Goal Global) (gs : List Goal) (o : Result code.Found E) (olds news : List Finding)
    → k ≡ Disj v → gs ≡ v.items
    → IfOk o (λ f. found_told f news ≡ found_onto olds (judge_expr r n None again 0 (DisjGoal (gathered (goals_of gs)))))
    → IfOk o (λ f. found_told f news ≡ found_onto olds (judge_expr r n at again l (expr_of k)))
disj_found r n at again l k v gs o olds news is items told =
    subst (λ t. IfOk o (λ f. found_told f news ≡ found_onto olds (judge_expr r n at again l t))) (ap (λ xs. DisjGoal (gathered (goals_of xs))) items ∙ sym (ap expr_of is ∙ expr_of-Disj v)) told

-- what is found whatever the variable of a switch is, is found
pub at_any : {E : Type 0} (o : Result code.Found E) (P : code.Found → Option ℕ → Type 0) (at : Option ℕ) → IfOk o (λ f. (x : Option ℕ) → P f x) → IfOk o (λ f. P f at)
at_any (Ok f) P at h = h at
at_any (Err e) P at h = tt

-- a goal that is negated or quantified, by what was found at it
pub not_kind : {E : Type 0} (r : Reading) (n : ℕ) (at : Option ℕ) (again : Bool) (l : ℕ) (k : GoalKind) (b : Box Goal Global) (g : Goal) (o : Result code.Found E) (olds news : List Finding)
    → k ≡ Not b → g ≡ b.value
    → IfOk o (λ f. found_told f news ≡ found_onto olds (judge_expr r n None again l (NotGoal (goal_of g))))
    → IfOk o (λ f. found_told f news ≡ found_onto olds (judge_expr r n at again l (expr_of k)))
not_kind r n at again l k b g o olds news is gs told =
    let same : NotGoal (goal_of g) ≡ expr_of k = sym (ap expr_of is ∙ rw gs refl) in
    subst (λ u. IfOk o (λ f. found_told f news ≡ found_onto olds (judge_expr r n at again l u))) same told

pub some_kind : {E : Type 0} (r : Reading) (n : ℕ) (at : Option ℕ) (again : Bool) (l : ℕ) (k : GoalKind) (vs : List ℕ) (b : Box Goal Global) (g : Goal) (o : Result code.Found E) (olds news : List Finding)
    → k ≡ kinds.Some vs b → g ≡ b.value
    → IfOk o (λ f. found_told f news ≡ found_onto olds (judge_expr r n None again l (SomeGoal [] (goal_of g))))
    → IfOk o (λ f. found_told f news ≡ found_onto olds (judge_expr r n at again l (expr_of k)))
some_kind r n at again l k vs b g o olds news is gs told =
    let same : SomeGoal vs (goal_of g) ≡ expr_of k = sym (ap expr_of is ∙ rw gs refl) in
    subst (λ u. IfOk o (λ f. found_told f news ≡ found_onto olds (judge_expr r n at again l u))) same told

-- condition, then and else, each with what was found before it
pub choice_found : (r : Reading) (n : ℕ) (at : Option ℕ) (again : Bool) (l : ℕ) (k : GoalKind) (cb tb eb : Box Goal Global) (c t e : Goal)
    (olds first second news : List Finding) (p q s : Pair) (f g h own : Option DetFault)
    → k ≡ If cb tb eb → c ≡ cb.value → t ≡ tb.value → e ≡ eb.value → suc n ≡ length olds
    → judgement p f first ≡ onto olds (judge_part r (length olds) None again (goal_of c))
    → own ≡ condition_fault r l (suc n) p
    → judgement q g second ≡ onto first (judge_part r (length first) None again (goal_of t))
    → judgement s h news ≡ onto second (judge_part r (length second) None again (goal_of e))
    → found None (one_of_two q s) (or_else own (or_else f (or_else g h))) news ≡ found_onto olds (judge_expr r n at again l (expr_of k))
choice_found r n at again l k cb tb eb c t e olds first second news p q s f g h own is cs ts es number one two three four =
    let j = judge_part r (suc n) None again (goal_of c) in
    let first_is : judgement p f first ≡ onto olds j = one ∙ ap (λ m. onto olds (judge_part r m None again (goal_of c))) (sym number) in
    let count : length first ≡ suc n + length j.findings
    = ap (λ (x : Judgement). length x.findings) first_is ∙ (length-append olds j.findings ∙ ap (λ m. m + length j.findings) (sym number)) in
    let k' = judge_part r (suc n + length j.findings) None again (goal_of t) in
    let second_is : judgement q g second ≡ onto first k' = three ∙ ap (λ m. onto first (judge_part r m None again (goal_of t))) count in
    let count_more : length second ≡ suc n + length j.findings + length k'.findings
    = ap (λ (x : Judgement). length x.findings) second_is ∙ (length-append first k'.findings ∙ ap (λ m. m + length k'.findings) count) in
    let m' = judge_part r (suc n + length j.findings + length k'.findings) None again (goal_of e) in
    let third_is : judgement s h news ≡ onto second m' = four ∙ ap (λ m. onto second (judge_part r m None again (goal_of e))) count_more in
    let finds : news ≡ olds ++ (j.findings ++ (k'.findings ++ m'.findings))
    = ap (λ (x : Judgement). x.findings) third_is
    ∙ (ap (λ fs. fs ++ m'.findings) (ap (λ (x : Judgement). x.findings) second_is ∙ ap (λ fs. fs ++ k'.findings) (ap (λ (x : Judgement). x.findings) first_is))
    ∙ (append_assoc (olds ++ j.findings) k'.findings m'.findings ∙ append_assoc olds j.findings (k'.findings ++ m'.findings))) in
    let pairs : p ≡ j.pair = ap (λ (x : Judgement). x.pair) first_is in
    let owns : own ≡ condition_fault r l (suc n) j.pair = two ∙ ap (condition_fault r l (suc n)) pairs in
    let fs : f ≡ j.fault = ap (λ (x : Judgement). x.fault) first_is in
    let gs : g ≡ k'.fault = ap (λ (x : Judgement). x.fault) second_is in
    let hs : h ≡ m'.fault = ap (λ (x : Judgement). x.fault) third_is in
    let qs : q ≡ k'.pair = ap (λ (x : Judgement). x.pair) second_is in
    let ss : s ≡ m'.pair = ap (λ (x : Judgement). x.pair) third_is in
    let same : IfGoal (goal_of c) (goal_of t) (goal_of e) ≡ expr_of k
    = sym (ap expr_of is ∙ rw (cs, ts, es) refl) in
    all_same _ _ _ _ _ _ (ap (λ (x : Pair). one_of_two x s) qs ∙ ap (one_of_two k'.pair) ss)
    (all_faults _ _ _ _ _ _ _ _ owns fs gs hs)
    finds
    ∙ ap (λ u. found_onto olds (judge_expr r n at again l u)) same
  where
    all_faults : (a a' b b' c c' d d' : Option DetFault) → a ≡ a' → b ≡ b' → c ≡ c' → d ≡ d'
        → or_else a (or_else b (or_else c d)) ≡ or_else a' (or_else b' (or_else c' d'))
    all_faults a a' b b' c c' d d' e f g h = rw (e, f, g, h) refl

    all_same : (a b : Pair) (c d : Option DetFault) (x y : List Finding) → a ≡ b → c ≡ d → x ≡ y → found None a c x ≡ found None b d y
    all_same a b c d x y e f g = rw (e, f, g) refl

-- a goal's own place is still there after those within it were added
pub still_within : (olds with_own news : List Finding) (x : Finding) (w : Option Switch) (p : Pair) (f : Option DetFault) (t : Found) (i : ℕ)
    → with_own ≡ olds ++ x ∷ [] → found w p f news ≡ found_onto with_own t → i ≡ length olds → i < length news
still_within olds with_own news x w p f t i is told at =
    omega (arith, ap (λ (y : Found). length y.below) told ∙ length-append with_own t.below, ap length is ∙ length-append olds (x ∷ []), at)
