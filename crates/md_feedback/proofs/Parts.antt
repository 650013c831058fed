-- Goals of a vector, one after the other.
use Rattle.std.proofs.Common.{◌≡◌, ◌⊎◌, inl, inr, refl, ap, ◌∙◌, sym, subst, arith, add-one, ℕ, zero, suc, ◌+◌, ◌-◌, ◌<◌, ◌≤◌, Bool, true, false, ◌||◌, ◌==◌, if◌then◌else◌, List, [], ◌∷◌, ◌++◌, append_assoc, append-nil, length, length-append, take, drop, get_or, Option, None, Result, Ok, Err, OnOk, Vec, drop-cons}
use Rattle.std.proofs.Math.Seq.{get_or-append_seam}
use Rattle.std.proofs.lemmas.Bool.{cases_lt}
use Rattle.std.proofs.lemmas.List.{get_or_append_left, length-drop, take_all}
use Rattle.std.proofs.lemmas.List.Folds.{list_any-append}
use Rattle.std.specs.declared.alloc.Global.{Global}
use Rattle.md_hlds.specs.declared.goal.Goal.{Goal}
use Rattle.md_hlds.specs.declared.goal.GoalKind.{GoalKind, Conj, Disj}
use Rattle.md_hlds.specs.HldsGoal.{HldsGoal, HldsGoals, also, expr_of, gathered, goal_of, goals_of, goal_size, goals_size, parts_size, numbered_from, numbered_goal}
use Rattle.md_hlds.proofs.Bridge.{expr_of-Conj, expr_of-Disj}
use Rattle.md_modes.specs.Branches.{some_of}
use Rattle.md_modes.specs.Goals.{variables}
use Rattle.md_cost.specs.View.{View}
use Rattle.md_feedback.specs.declared.pairs.Pair.{Pair}
use Rattle.md_feedback.specs.Search.{Reading, goal_pairs, led_by, expr_pairs, each_pairs, arm_pairs, partners, pair_with, costly_call, binds_in, mentions, is_among, mark_at, AreMarked, Marks, TakesIn, AreHeavy, TellsHeavy}

pub parts-step : (gs : List Goal) (i : ℕ) (g : Goal) → i < length gs → g ≡ get_or gs i g → goals_of (drop i gs) ≡ goal_of g ∷ goals_of (drop (i + 1) gs)
parts-step gs i g lt is = rw add-one (ap goals_of (drop-cons gs i g lt ∙ ap (λ (h : Goal). h ∷ drop (suc i) gs) (sym is)))

pub parts-end : (gs : List Goal) (i : ℕ) → length gs ≤ i → drop i gs ≡ []
parts-end [] zero e = refl
parts-end [] (suc i) e = refl
parts-end (g ∷ gs) zero e = absurd (omega (arith, e))
parts-end (g ∷ gs) (suc i) e = parts-end gs i (omega (arith, e))

-- the goals behind one are all that are left
pub behind : (gs : List Goal) (n : ℕ) → take (length gs - n) (drop n gs) ≡ drop n gs
behind gs n = take_all (length gs - n) (drop n gs) (let same = length-drop n gs in omega (arith, same))

-- ---- sizes

pub size-Conj : (g : Goal) (v : Vec Goal Global) → g.kind ≡ Conj v → 1 + goals_size (gathered (goals_of v.items)) ≡ goal_size (goal_of g)
size-Conj g v e =
    let inner : parts_size (expr_of g.kind) ≡ goals_size (gathered (goals_of v.items)) = ap (λ k. parts_size (expr_of k)) e ∙ ap parts_size (expr_of-Conj v) in
    omega (arith, inner)

pub size-Disj : (g : Goal) (v : Vec Goal Global) → g.kind ≡ Disj v → 1 + goals_size (gathered (goals_of v.items)) ≡ goal_size (goal_of g)
size-Disj g v e =
    let inner : parts_size (expr_of g.kind) ≡ goals_size (gathered (goals_of v.items)) = ap (λ k. parts_size (expr_of k)) e ∙ ap parts_size (expr_of-Disj v) in
    omega (arith, inner)

pub size-step : (ps rest : HldsGoals) (p : HldsGoal) (m next : ℕ) → ps ≡ also p rest → next ≡ m + goal_size p → next + goals_size rest ≡ m + goals_size ps
size-step ps rest p m next is at = let e = ap goals_size is in omega (arith, e, at)

-- ---- the pairs of goals one after the other

-- of one part of a conjunction, and of those behind it
pub each-step : (c : Reading) (m next : ℕ) (ps rest : HldsGoals) (p : HldsGoal) (whole olds mids news : List Pair) → ps ≡ also p rest → next ≡ m + goal_size p → mids ≡ olds ++ goal_pairs c m p
    → news ≡ mids ++ led_by c (costly_call c m p) (binds_in c m) (numbered_from next rest) → whole ≡ olds ++ each_pairs c m ps → whole ≡ news ++ each_pairs c next rest
each-step c m next ps rest p whole olds mids news is at one two so_far =
    so_far ∙ (ap (λ qs. olds ++ each_pairs c m qs) is ∙ sym (
    ap (λ xs. xs ++ each_pairs c next rest) (two ∙ ap (λ xs. xs ++ led_by c (costly_call c m p) (binds_in c m) (numbered_from next rest)) one)
    ∙ (ap (λ (k : ℕ). ((olds ++ goal_pairs c m p) ++ led_by c (costly_call c m p) (binds_in c m) (numbered_from k rest)) ++ each_pairs c k rest) at
    ∙ (append_assoc (olds ++ goal_pairs c m p) (led_by c (costly_call c m p) (binds_in c m) (numbered_from (m + goal_size p) rest)) _
    ∙ append_assoc olds (goal_pairs c m p) _))
    ))

-- of one arm of a disjunction, and of those behind it
pub arm-step : (c : Reading) (m next : ℕ) (ps rest : HldsGoals) (p : HldsGoal) (whole olds news : List Pair) → ps ≡ also p rest → next ≡ m + goal_size p → news ≡ olds ++ goal_pairs c m p
    → whole ≡ olds ++ arm_pairs c m ps → whole ≡ news ++ arm_pairs c next rest
arm-step c m next ps rest p whole olds news is at one so_far =
    so_far ∙ (ap (λ qs. olds ++ arm_pairs c m qs) is ∙ sym (
    ap (λ xs. xs ++ arm_pairs c next rest) one
    ∙ (ap (λ (k : ℕ). (olds ++ goal_pairs c m p) ++ arm_pairs c k rest) at ∙ append_assoc olds (goal_pairs c m p) _)
    ))

pub pairs-Conj : (c : Reading) (n : ℕ) (k : GoalKind) (v : Vec Goal Global) → k ≡ Conj v → expr_pairs c n (expr_of k) ≡ each_pairs c n (gathered (goals_of v.items))
pairs-Conj c n k v e = ap (λ j. expr_pairs c n (expr_of j)) e ∙ ap (expr_pairs c n) (expr_of-Conj v)

pub pairs-Disj : (c : Reading) (n : ℕ) (k : GoalKind) (v : Vec Goal Global) → k ≡ Disj v → expr_pairs c n (expr_of k) ≡ arm_pairs c n (gathered (goals_of v.items))
pairs-Disj c n k v e = ap (λ j. expr_pairs c n (expr_of j)) e ∙ ap (expr_pairs c n) (expr_of-Disj v)

-- ---- the parts behind a call

pub numbered-step : (gs : List Goal) (i n : ℕ) (g : Goal) → i < length gs → g ≡ get_or gs i g
    → numbered_from n (gathered (goals_of (drop i gs))) ≡ numbered_goal n (goal_of g) ∷ numbered_from (n + goal_size (goal_of g)) (gathered (goals_of (drop (i + 1) gs)))
numbered-step gs i n g lt is = ap (λ ps. numbered_from n (gathered ps)) (parts-step gs i g lt is)

-- what the loop over the parts behind a call keeps
abbrev pub PartnersLeft : Reading → (a : ℕ × ℕ) → List Goal → (i place : ℕ) (marks : List Bool) (whole pairs : List Pair) → Type 0
PartnersLeft c a gs i place marks whole pairs =
    (bound : List ℕ) × AreMarked marks bound × (whole ≡ pairs ++ partners c a bound (numbered_from place (gathered (goals_of (drop i gs)))))

pub partners_go_on : (c : Reading) (a : ℕ × ℕ) (gs : List Goal) (i place next size : ℕ) (g : Goal) (marks after : List Bool) (whole pairs more : List Pair) → i < length gs → g ≡ get_or gs i g
    → size ≡ goal_size (goal_of g) → next ≡ place + size → TakesIn c a place (goal_of g) marks after pairs more → PartnersLeft c a gs i place marks whole pairs
    → PartnersLeft c a gs (i + 1) next after whole more
partners_go_on c a gs i place next size g marks after whole pairs more lt is sized then' takes left =
    let rest = gathered (goals_of (drop (i + 1) gs)) in
    let on = takes left.0 left.1 in
    let there : next ≡ place + goal_size (goal_of g) = then' ∙ ap (λ n. place + n) sized in (
      on.0,
      on.1,
      left.2
          ∙ (ap (λ ps. pairs ++ partners c a left.0 ps) (numbered-step gs i place g lt is)
          ∙ (on.2 (numbered_from (place + goal_size (goal_of g)) rest) ∙ ap (λ n. more ++ partners c a on.0 (numbered_from n rest)) (sym there))),
    )

pub partners_end : (c : Reading) (a : ℕ × ℕ) (gs : List Goal) (i place : ℕ) (marks : List Bool) (whole pairs : List Pair) → length gs ≤ i → PartnersLeft c a gs i place marks whole pairs → pairs ≡ whole
partners_end c a gs i place marks whole pairs e left =
    sym (left.2 ∙ (ap (λ (ps : List Goal). pairs ++ partners c a left.0 (numbered_from place (gathered (goals_of ps)))) (parts-end gs i e) ∙ append-nil pairs))

-- ---- marked variables

pub some_alike : (p q : ℕ → Bool) → ((x : ℕ) → p x ≡ q x) → (xs : List ℕ) → some_of p xs ≡ some_of q xs
some_alike p q alike [] = refl
some_alike p q alike (x ∷ xs) = ap (λ b. b || some_of p xs) (alike x) ∙ ap (λ b. q x || b) (some_alike p q alike xs)

pub among-append : (xs ys : List ℕ) (x : ℕ) → is_among (xs ++ ys) x ≡ (is_among xs x || is_among ys x)
among-append xs ys x = list_any-append (λ y. y == x) xs ys

pub marked_besides : (before after : List Bool) (bound xs : List ℕ) → AreMarked before bound → Marks before after xs → AreMarked after (bound ++ xs)
marked_besides before after bound xs are marks x = marks x ∙ (ap (λ b. b || is_among xs x) (are x) ∙ sym (among-append bound xs x))

-- nothing is marked at first
pub marked_at_first : (after : List Bool) (xs : List ℕ) → Marks [] after xs → AreMarked after xs
marked_at_first after xs marks x = marks x

if_true : {A : Type 0} (b : Bool) (x y : A) → b ≡ true → (if b then x else y) ≡ x
if_true true x y e = refl
if_true false x y e = absurd (cc)

if_false : {A : Type 0} (b : Bool) (x y : A) → b ≡ false → (if b then x else y) ≡ y
if_false true x y e = absurd (cc)
if_false false x y e = refl

-- a part that depends on the call
pub takes_dependent : (c : Reading) (a : ℕ × ℕ) (n : ℕ) (p : HldsGoal) (marks after : List Bool) (pairs : List Pair) (found : Bool) → found ≡ some_of (mark_at marks) (variables p) → found ≡ true
    → Marks marks after (binds_in c n) → TakesIn c a n p marks after pairs pairs
takes_dependent c a n p marks after pairs found is holds more bound are =
    let there : mentions bound p ≡ true = sym (some_alike (mark_at marks) (is_among bound) are (variables p)) ∙ (sym is ∙ holds) in (
      bound ++ binds_in c n,
      marked_besides marks after bound (binds_in c n) are more,
      λ gs. ap (λ ps. pairs ++ ps) (if_true (mentions bound p) (partners c a (bound ++ binds_in c n) gs) (pair_with c.owner a (costly_call c n p) ++ partners c a bound gs) there),
    )

-- and one that doesn't
pub takes_apart : (c : Reading) (a : ℕ × ℕ) (n : ℕ) (p : HldsGoal) (marks : List Bool) (pairs more : List Pair) (found : Bool) → found ≡ some_of (mark_at marks) (variables p) → found ≡ false
    → more ≡ pairs ++ pair_with c.owner a (costly_call c n p) → TakesIn c a n p marks marks pairs more
takes_apart c a n p marks pairs more found is no' added bound are =
    let there : mentions bound p ≡ false = sym (some_alike (mark_at marks) (is_among bound) are (variables p)) ∙ (sym is ∙ no') in (
      bound,
      are,
      λ gs. ap (λ ps. pairs ++ ps) (if_false (mentions bound p) (partners c a (bound ++ binds_in c n) gs) (pair_with c.owner a (costly_call c n p) ++ partners c a bound gs) there)
          ∙ (sym (append_assoc pairs (pair_with c.owner a (costly_call c n p)) (partners c a bound gs)) ∙ ap (λ ps. ps ++ partners c a bound gs) (sym added)),
    )

pub ok_so : {A E : Type 0} (r : Result A E) (P Q : Type 0) → OnOk r P → (P → Q) → OnOk r Q
ok_so (Ok x) P Q h so = so h
ok_so (Err e) P Q h so = tt

-- ---- the totals of sites

at_site : (v : View) (least site : ℕ) (heavy : List (Option ℕ)) (total : Option ℕ) → AreHeavy v least site heavy → TellsHeavy v least site total → (k : ℕ) → (k < site) ⊎ (site ≤ k) → k < site + 1
    → TellsHeavy v least k (get_or (heavy ++ total ∷ []) k None)
at_site v least site heavy total are tells k (inl below) lt =
    let inside : k < length heavy = omega (arith, below, are.each) in
    subst (λ (t : Option ℕ). TellsHeavy v least k t) (sym (get_or_append_left heavy (total ∷ []) None k inside)) (are.tells k below)
at_site v least site heavy total are tells k (inr at) lt =
    let here : k ≡ length heavy = omega (arith, at, lt, are.each) in
    let same : site ≡ k = omega (arith, at, lt) in
    let value : get_or (heavy ++ total ∷ []) k None ≡ total = ap (λ i. get_or (heavy ++ total ∷ []) i None) here ∙ get_or-append_seam heavy total [] None in
    subst (λ (t : Option ℕ). TellsHeavy v least k t) (sym value) (subst (λ (n : ℕ). TellsHeavy v least n total) same tells)

-- of one site more
pub heavy_more : (v : View) (least site : ℕ) (heavy after : List (Option ℕ)) (total : Option ℕ) → AreHeavy v least site heavy → TellsHeavy v least site total → after ≡ heavy ++ total ∷ []
    → AreHeavy v least (site + 1) after
heavy_more v least site heavy after total are tells is = record {
  each = omega (arith, are.each, ap length is, length-append heavy (total ∷ []));
  tells = λ k lt. subst (λ (t : Option ℕ). TellsHeavy v least k t) (sym (ap (λ (xs : List (Option ℕ)). get_or xs k None) is)) (at_site v least site heavy total are tells k (cases_lt k site) lt);
}
