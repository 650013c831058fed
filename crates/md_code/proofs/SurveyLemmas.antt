-- What is known of goals one after the other, and of the goals within a goal.
use Rattle.std.proofs.Common.{◌≡◌, refl, ap, ◌∙◌, sym, subst, arith, ℕ, suc, ◌+◌, ◌<◌, Bool, true, false, ◌||◌, List, [], ◌∷◌, ◌++◌, length, drop, Vec, Box, Option, Some, None, Result, Ok, Err, OnOk, IfOk, not, get_or, length-append, append_assoc}
use Rattle.std.specs.Prelude.{slice_set, is_some}
use Rattle.md_det.specs.declared.finding.Switch.{Switch}
use Rattle.std.specs.declared.alloc.Global.{Global}
use Rattle.md_hlds.specs.declared.goal.Goal.{Goal}
use Rattle.md_hlds.specs.declared.goal.GoalKind.{GoalKind, Conj, Disj, If}
use Rattle.md_hlds.specs.HldsGoal.{HldsGoal, At, GoalExpr, SimpleGoal, CallGoal, HoCallGoal, ConjGoal, DisjGoal, IfGoal, NotGoal, SomeGoal, HldsGoals, also, expr_of, gathered, goal_of, goals_of, goal_size, goals_within, goals_below, goals_among, site_count, site_lines, goals_lines}
use Rattle.md_hlds.specs.Hlds.{Hlds, goal_at}
use Rattle.md_hlds.proofs.Bridge.{expr_of-Conj, expr_of-Disj}
use Rattle.md_switch.proofs.KeyLemmas.{parts-step}
use Rattle.md_switch.proofs.Tells.{length-within}
use Rattle.md_det.specs.Findings.{program_findings, switch_at}
use Rattle.md_code.specs.declared.fact.Change.{Change}
use Rattle.md_code.specs.declared.fact.Fact.{Fact}
use Rattle.md_code.specs.Leaves.{leaves, leaves_table, found_leaves, is_tried}
use Rattle.md_code.specs.Tables.{one_if, heights_of}
use Rattle.md_code.specs.Facts.{Stand, change, kept_with, charged_with, then_change, fact, fact_of, parts_fact, both_facts, facts_from}

-- ---- goals of a program

pub stand-split : (s : Hlds) (n m : ℕ) (gs hs : List HldsGoal) → m ≡ n + length gs → Stand s n (gs ++ hs) → Stand s n gs × Stand s m hs
stand-split s n m [] hs at h = let same : m ≡ n = omega (arith, at) in (tt, rw same h)
stand-split s n m (g ∷ gs) hs at h =
    let rest = stand-split s (suc n) m gs hs (omega (arith, at)) h.1 in
    ((h.0, rest.0), rest.1)

-- a goal, and then others
pub stand-goal : (s : Hlds) (n : ℕ) (p : HldsGoal) (gs : List HldsGoal) → Stand s n (goals_within p ++ gs) → Stand s n (goals_within p) × Stand s (n + goal_size p) gs
stand-goal s n p gs h = stand-split s n (n + goal_size p) (goals_within p) gs (ap (λ k. n + k) (sym (length-within p))) h

-- the goal's own place
pub stand-own : (s : Hlds) (n : ℕ) (p : HldsGoal) → Stand s n (goals_within p) → goal_at s n ≡ Some p
stand-own s n (At l t) h = h.0

pub leaves-there : (s : Hlds) (n : ℕ) (p : HldsGoal) → Stand s n (goals_within p) → leaves_table s n ≡ leaves s n p
leaves-there s n p h = ap (found_leaves s n) (stand-own s n p h)

-- ---- facts one after the other

pub facts-append : (s : Hlds) (n : ℕ) (gs hs : List HldsGoal) → facts_from s n (gs ++ hs) ≡ facts_from s n gs ++ facts_from s (n + length gs) hs
facts-append s n [] hs = let same : n + 0 ≡ n = omega arith in ap (λ k. facts_from s k hs) (sym same)
facts-append s n (g ∷ gs) hs =
    let same : suc n + length gs ≡ n + suc (length gs) = omega arith in
    ap (λ fs. fact_of s n g ∷ fs) (facts-append s (suc n) gs hs ∙ ap (λ k. facts_from s (suc n) gs ++ facts_from s k hs) same)

pub length-facts : (s : Hlds) (n : ℕ) (gs : List HldsGoal) → length (facts_from s n gs) ≡ length gs
length-facts s n [] = refl
length-facts s n (g ∷ gs) = ap suc (length-facts s (suc n) gs)

-- those of a goal, and then of others
facts-goal : (s : Hlds) (n : ℕ) (p : HldsGoal) (gs : List HldsGoal) → facts_from s n (goals_within p ++ gs) ≡ facts_from s n (goals_within p) ++ facts_from s (n + goal_size p) gs
facts-goal s n p gs = facts-append s n (goals_within p) gs ∙ ap (λ k. facts_from s n (goals_within p) ++ facts_from s (n + k) gs) (length-within p)

-- how many there are with those of a goal
pub length-surveyed : (s : Hlds) (olds news : List Fact) (p : HldsGoal) → news ≡ olds ++ facts_from s (length olds) (goals_within p) → length news ≡ length olds + goal_size p
length-surveyed s olds news p e =
    ap length e
    ∙ (length-append olds (facts_from s (length olds) (goals_within p))
    ∙ ap (λ k. length olds + k) (length-facts s (length olds) (goals_within p) ∙ length-within p))

-- ---- a goal's own fact

set-behind : (olds : List Fact) (blank own : Fact) (rest : List Fact) → slice_set ((olds ++ blank ∷ []) ++ rest) (length olds) own ≡ olds ++ own ∷ rest
set-behind [] blank own rest = refl
set-behind (o ∷ olds) blank own rest = ap (λ fs. o ∷ fs) (set-behind olds blank own rest)

line : (s : Hlds) (n l : ℕ) (t : GoalExpr) → fact_of s n (At 0 t) ≡ fact_of s n (At l t)
line s n l (SimpleGoal g) = refl
line s n l (CallGoal site q ys) = refl
line s n l (HoCallGoal site f ys) = refl
line s n l (ConjGoal ps) = refl
line s n l (DisjGoal ps) = refl
line s n l (IfGoal c t e) = refl
line s n l (NotGoal c) = refl
line s n l (SomeGoal vs c) = refl

pub own-fact : (s : Hlds) (n number : ℕ) (l : ℕ) (t : GoalExpr) (own : Fact) → number ≡ n → own ≡ fact_of s number (At 0 t) → own ≡ fact_of s n (At l t)
own-fact s n number l t own at e = e ∙ (ap (λ k. fact_of s k (At 0 t)) at ∙ line s n l t)

-- a place is kept for a goal's fact, which is put there after those of the goals within it
pub surveyed : (s : Hlds) (olds pushed inner : List Fact) (blank own : Fact) (l number : ℕ) (t : GoalExpr) → pushed ≡ olds ++ blank ∷ [] → number ≡ length olds
    → inner ≡ pushed ++ facts_from s (length pushed) (goals_below t) → own ≡ fact_of s number (At 0 t)
    → slice_set inner number own ≡ olds ++ (fact_of s (length olds) (At l t) ∷ facts_from s (suc (length olds)) (goals_below t))
surveyed s olds pushed inner blank own l number t put at e is =
    let long : length pushed ≡ suc (length olds) = omega (arith, ap length put, length-append olds (blank ∷ [])) in
    let rest = facts_from s (suc (length olds)) (goals_below t) in
    let all : inner ≡ (olds ++ blank ∷ []) ++ rest = e ∙ (ap (λ k. pushed ++ facts_from s k (goals_below t)) long ∙ ap (λ fs. fs ++ rest) put) in
    ap (λ k. slice_set inner k own) at
    ∙ (ap (λ fs. slice_set fs (length olds) own) all
    ∙ (set-behind olds blank own rest ∙ ap (λ f. olds ++ (f ∷ rest)) (own-fact s (length olds) number l t own at is)))

-- ---- goals one after the other

changes-assoc : (i j k : Bool) (x y z : ℕ)
    → then_change (then_change (change i x) (change j y)) (change k z) ≡ then_change (change i x) (then_change (change j y) (change k z))
changes-assoc i j false x y z = refl
changes-assoc i false true x y z = refl
changes-assoc i true true x y z = let same : x + y + z ≡ x + (y + z) = omega arith in ap (change i) same

then-assoc : (a b c : Change) → then_change (then_change a b) c ≡ then_change a (then_change b c)
then-assoc a b c = changes-assoc a.keeps b.keeps c.keeps a.weight b.weight c.weight

or-assoc : (a b c : Bool) → ((a || b) || c) ≡ (a || (b || c))
or-assoc true b c = refl
or-assoc false b c = refl

both-assoc : (a b c : Fact) → both_facts (both_facts a b) c ≡ both_facts a (both_facts b c)
both-assoc a b c =
    let leave = or-assoc a.leaves b.leaves c.leaves in
    let heights : a.heights + b.heights + c.heights ≡ a.heights + (b.heights + c.heights) = omega arith in
    let sites : a.sites + b.sites + c.sites ≡ a.sites + (b.sites + c.sites) = omega arith in
    let changes = then-assoc a.change b.change c.change in
    λ i. fact (leave i) (heights i) (sites i) (changes i)

pub parts-also : (s : Hlds) (n : ℕ) (p : HldsGoal) (ps : HldsGoals) → parts_fact s n (also p ps) ≡ both_facts (fact_of s n p) (parts_fact s (n + goal_size p) ps)
parts-also s n p ps = ap (λ k. fact (parts_fact s n (also p ps)).leaves (parts_fact s n (also p ps)).heights k (parts_fact s n (also p ps)).change) (length-append (site_lines p) (goals_lines ps))

-- one of several goals
pub facts-next : (s : Hlds) (olds news : List Fact) (gs : List Goal) (i : ℕ) (g : Goal) → i < length gs → g ≡ get_or gs i g
    → news ≡ olds ++ facts_from s (length olds) (goals_within (goal_of g))
    → olds ++ facts_from s (length olds) (goals_among (gathered (goals_of (drop i gs)))) ≡ news ++ facts_from s (length news) (goals_among (gathered (goals_of (drop (i + 1) gs))))
facts-next s olds news gs i g lt is e =
    let rest = goals_among (gathered (goals_of (drop (i + 1) gs))) in
    let there : length olds + goal_size (goal_of g) ≡ length news = sym (length-surveyed s olds news (goal_of g) e) in
    ap (λ ps. olds ++ facts_from s (length olds) (goals_among (gathered ps))) (parts-step gs i g lt is)
    ∙ (ap (λ fs. olds ++ fs) (facts-goal s (length olds) (goal_of g) rest)
    ∙ (sym (append_assoc olds (facts_from s (length olds) (goals_within (goal_of g))) _)
    ∙ (ap (λ fs. fs ++ facts_from s (length olds + goal_size (goal_of g)) rest) (sym e) ∙ ap (λ n. news ++ facts_from s n rest) there)))

pub own-next : (s : Hlds) (olds news : List Fact) (gs : List Goal) (i : ℕ) (g : Goal) (all more own : Fact) → i < length gs → g ≡ get_or gs i g
    → news ≡ olds ++ facts_from s (length olds) (goals_within (goal_of g)) → own ≡ fact_of s (length olds) (goal_of g) → more ≡ both_facts all own
    → both_facts more (parts_fact s (length news) (gathered (goals_of (drop (i + 1) gs)))) ≡ both_facts all (parts_fact s (length olds) (gathered (goals_of (drop i gs))))
own-next s olds news gs i g all more own lt is e owns adds =
    let rest = gathered (goals_of (drop (i + 1) gs)) in
    let there : length news ≡ length olds + goal_size (goal_of g) = length-surveyed s olds news (goal_of g) e in
    ap (λ n. both_facts more (parts_fact s n rest)) there
    ∙ (ap (λ f. both_facts f (parts_fact s (length olds + goal_size (goal_of g)) rest)) (adds ∙ ap (both_facts all) owns)
    ∙ (both-assoc all (fact_of s (length olds) (goal_of g)) (parts_fact s (length olds + goal_size (goal_of g)) rest)
    ∙ ap (both_facts all) (sym (parts-also s (length olds) (goal_of g) rest) ∙ ap (λ ps. parts_fact s (length olds) (gathered ps)) (sym (parts-step gs i g lt is)))))

pub stand-first : (s : Hlds) (n : ℕ) (gs : List Goal) (i : ℕ) (g : Goal) → i < length gs → g ≡ get_or gs i g
    → Stand s n (goals_among (gathered (goals_of (drop i gs)))) → Stand s n (goals_within (goal_of g)) × Stand s (n + goal_size (goal_of g)) (goals_among (gathered (goals_of (drop (i + 1) gs))))
stand-first s n gs i g lt is h =
    stand-goal s n (goal_of g) (goals_among (gathered (goals_of (drop (i + 1) gs)))) (subst (λ ps. Stand s n (goals_among (gathered ps))) (parts-step gs i g lt is) h)

pub stand-next : (s : Hlds) (olds news : List Fact) (gs : List Goal) (i : ℕ) (g : Goal) → i < length gs → g ≡ get_or gs i g
    → news ≡ olds ++ facts_from s (length olds) (goals_within (goal_of g))
    → Stand s (length olds) (goals_among (gathered (goals_of (drop i gs)))) → Stand s (length news) (goals_among (gathered (goals_of (drop (i + 1) gs))))
stand-next s olds news gs i g lt is e h =
    subst (λ n. Stand s n (goals_among (gathered (goals_of (drop (i + 1) gs))))) (sym (length-surveyed s olds news (goal_of g) e)) (stand-first s (length olds) gs i g lt is h).1

-- ---- the goals of a vector inside a goal

pub below-Conj : (k : GoalKind) (v : Vec Goal Global) (gs : List Goal) → k ≡ Conj v → gs ≡ v.items → goals_below (expr_of k) ≡ goals_among (gathered (goals_of gs))
below-Conj k v gs is e = ap (λ j. goals_below (expr_of j)) is ∙ (ap goals_below (expr_of-Conj v) ∙ ap (λ hs. goals_among (gathered (goals_of hs))) (sym e))

pub below-Disj : (k : GoalKind) (v : Vec Goal Global) (gs : List Goal) → k ≡ Disj v → gs ≡ v.items → goals_below (expr_of k) ≡ goals_among (gathered (goals_of gs))
below-Disj k v gs is e = ap (λ j. goals_below (expr_of j)) is ∙ (ap goals_below (expr_of-Disj v) ∙ ap (λ hs. goals_among (gathered (goals_of hs))) (sym e))

pub own-Conj : (s : Hlds) (n m : ℕ) (k : GoalKind) (v : Vec Goal Global) (gs : List Goal) (parts : Fact) → k ≡ Conj v → gs ≡ v.items → m ≡ suc n
    → parts ≡ parts_fact s m (gathered (goals_of gs))
    → fact parts.leaves parts.heights parts.sites (then_change (kept_with 1) parts.change) ≡ fact_of s n (At 0 (expr_of k))
own-Conj s n m k v gs parts is e at p =
    let same : parts ≡ parts_fact s (suc n) (gathered (goals_of v.items)) = p ∙ (ap (λ i. parts_fact s i (gathered (goals_of gs))) at ∙ ap (λ hs. parts_fact s (suc n) (gathered (goals_of hs))) e) in
    ap (λ (q : Fact). fact q.leaves q.heights q.sites (then_change (kept_with 1) q.change)) same
    ∙ sym (ap (λ j. fact_of s n (At 0 (expr_of j))) is ∙ ap (λ t. fact_of s n (At 0 t)) (expr_of-Conj v))

pub own-Disj : (s : Hlds) (n m : ℕ) (k : GoalKind) (v : Vec Goal Global) (gs : List Goal) (parts : Fact) (tried : Bool) → k ≡ Disj v → gs ≡ v.items → m ≡ suc n
    → parts ≡ parts_fact s m (gathered (goals_of gs)) → tried ≡ is_tried (switch_at (program_findings s) n)
    → fact (tried || parts.leaves) parts.heights parts.sites (charged_with 0) ≡ fact_of s n (At 0 (expr_of k))
own-Disj s n m k v gs parts tried is e at p tries =
    let same : parts ≡ parts_fact s (suc n) (gathered (goals_of v.items)) = p ∙ (ap (λ i. parts_fact s i (gathered (goals_of gs))) at ∙ ap (λ hs. parts_fact s (suc n) (gathered (goals_of hs))) e) in
    ap (λ (q : Fact). fact (tried || q.leaves) q.heights q.sites (charged_with 0)) same
    ∙ (ap (λ b. fact (b || (parts_fact s (suc n) (gathered (goals_of v.items))).leaves) (parts_fact s (suc n) (gathered (goals_of v.items))).heights (parts_fact s (suc n) (gathered (goals_of v.items))).sites (charged_with 0)) tries
    ∙ sym (ap (λ j. fact_of s n (At 0 (expr_of j))) is ∙ ap (λ t. fact_of s n (At 0 t)) (expr_of-Disj v)))

-- ---- an if-then-else

pub expr_of-If : (k : GoalKind) (c t e : Box Goal Global) (x y z : Goal) → k ≡ If c t e → x ≡ c.value → y ≡ t.value → z ≡ e.value
    → expr_of k ≡ IfGoal (goal_of x) (goal_of y) (goal_of z)
expr_of-If k c t e x y z is xs ys zs = ap expr_of is ∙ rw (sym xs, sym ys, sym zs) refl

pub record ThreeStand (s : Hlds) (n : ℕ) (x y z : HldsGoal) : Type 0 where
  pub one : Stand s n (goals_within x)
  pub two : Stand s (n + goal_size x) (goals_within y)
  pub three : Stand s (n + goal_size x + goal_size y) (goals_within z)

pub stand-If : (s : Hlds) (n : ℕ) (t : GoalExpr) (x y z : HldsGoal) → t ≡ IfGoal x y z → Stand s n (goals_below t) → ThreeStand s n x y z
stand-If s n t x y z is h =
    let one = stand-goal s n x (goals_within y ++ goals_within z) (subst (λ u. Stand s n (goals_below u)) is h) in
    let two = stand-goal s (n + goal_size x) y (goals_within z) one.1 in
    record { one = one.0; two = two.0; three = two.1 }

pub facts-If : (s : Hlds) (olds first second third : List Fact) (t : GoalExpr) (x y z : HldsGoal) → t ≡ IfGoal x y z
    → first ≡ olds ++ facts_from s (length olds) (goals_within x) → second ≡ first ++ facts_from s (length first) (goals_within y)
    → third ≡ second ++ facts_from s (length second) (goals_within z) → third ≡ olds ++ facts_from s (length olds) (goals_below t)
facts-If s olds first second third t x y z is one two three =
    let n = length olds in
    let m : length first ≡ n + goal_size x = length-surveyed s olds first x one in
    let l : length second ≡ n + goal_size x + goal_size y = length-surveyed s first second y two ∙ ap (λ i. i + goal_size y) m in
    let a = facts_from s n (goals_within x) in
    let b = facts_from s (n + goal_size x) (goals_within y) in
    let d = facts_from s (n + goal_size x + goal_size y) (goals_within z) in
    let whole : facts_from s n (goals_below t) ≡ a ++ (b ++ d)
    = ap (λ u. facts_from s n (goals_below u)) is ∙ (facts-goal s n x (goals_within y ++ goals_within z) ∙ ap (λ fs. a ++ fs) (facts-goal s (n + goal_size x) y (goals_within z))) in
    three
    ∙ (ap (λ i. second ++ facts_from s i (goals_within z)) l
    ∙ (ap (λ fs. fs ++ d) (two ∙ (ap (λ i. first ++ facts_from s i (goals_within y)) m ∙ ap (λ fs. fs ++ b) one))
    ∙ (append_assoc (olds ++ a) b d ∙ (append_assoc olds a (b ++ d) ∙ ap (λ fs. olds ++ fs) (sym whole)))))

pub own-If : (s : Hlds) (n : ℕ) (olds first second : List Fact) (t : GoalExpr) (x y z : HldsGoal) (a b d : Fact) → t ≡ IfGoal x y z → length olds ≡ suc n
    → Stand s (length olds) (goals_within x)
    → first ≡ olds ++ facts_from s (length olds) (goals_within x) → second ≡ first ++ facts_from s (length first) (goals_within y)
    → a ≡ fact_of s (length olds) x → b ≡ fact_of s (length first) y → d ≡ fact_of s (length second) z
    → fact (b.leaves || d.leaves) (one_if a.leaves + a.heights + b.heights + d.heights) (a.sites + (b.sites + d.sites)) (charged_with 0) ≡ fact_of s n (At 0 t)
own-If s n olds first second t x y z a b d is at stands one two as' bs ds =
    let m : length first ≡ suc n + goal_size x = length-surveyed s olds first x one ∙ ap (λ i. i + goal_size x) at in
    let l : length second ≡ suc n + goal_size x + goal_size y = length-surveyed s first second y two ∙ ap (λ i. i + goal_size y) m in
    let a' : a ≡ fact_of s (suc n) x = as' ∙ ap (λ i. fact_of s i x) at in
    let b' : b ≡ fact_of s (suc n + goal_size x) y = bs ∙ ap (λ i. fact_of s i y) m in
    let d' : d ≡ fact_of s (suc n + goal_size x + goal_size y) z = ds ∙ ap (λ i. fact_of s i z) l in
    let there : leaves s (suc n) x ≡ leaves_table s (suc n) = sym (leaves-there s (suc n) x (subst (λ i. Stand s i (goals_within x)) at stands)) in
    let sites : site_count x + (site_count y + site_count z) ≡ length (site_lines x ++ (site_lines y ++ site_lines z))
    = sym (length-append (site_lines x) (site_lines y ++ site_lines z) ∙ ap (λ k. site_count x + k) (length-append (site_lines y) (site_lines z))) in
    let put = λ (p q r : Fact). fact (q.leaves || r.leaves) (one_if p.leaves + p.heights + q.heights + r.heights) (p.sites + (q.sites + r.sites)) (charged_with 0) in
    (λ i. put (a' i) (b' i) (d' i))
    ∙ ((λ i. fact (leaves s (suc n + goal_size x) y || leaves s (suc n + goal_size x + goal_size y) z)
    (one_if (there i) + heights_of s (suc n) x + heights_of s (suc n + goal_size x) y + heights_of s (suc n + goal_size x + goal_size y) z) (sites i) (charged_with 0))
    ∙ sym (ap (λ u. fact_of s n (At 0 u)) is))

-- a fact that holds whatever comes is one where all goes well
pub on-ok : {A E P : Type 0} (r : Result A E) → P → OnOk r P
on-ok (Ok x) p = p
on-ok (Err e) p = tt

-- ---- what a survey makes

-- these facts are added, and the own is that
abbrev pub Added : Hlds → (olds news : List Fact) → List HldsGoal → Type 0
Added s olds news gs = news ≡ olds ++ facts_from s (length olds) gs

pub surveyed-both : (s : Hlds) (olds pushed inner : List Fact) (blank own : Fact) (l place number : ℕ) (t : GoalExpr) → pushed ≡ olds ++ blank ∷ [] → place ≡ length olds → number ≡ length olds
    → Stand s (length olds) (goals_within (At l t))
    → (length pushed ≡ suc number → Stand s (length pushed) (goals_below t) → Added s pushed inner (goals_below t) × (own ≡ fact_of s number (At 0 t)))
    → (slice_set inner place own ≡ olds ++ facts_from s (length olds) (goals_within (At l t))) × (own ≡ fact_of s (length olds) (At l t))
surveyed-both s olds pushed inner blank own l place number t put there at stand made =
    let long : length pushed ≡ suc (length olds) = omega (arith, ap length put, length-append olds (blank ∷ [])) in
    let both = made (omega (arith, long, at)) (subst (λ n. Stand s n (goals_below t)) (sym long) stand.1) in (
      ap (λ n. slice_set inner n own) (there ∙ sym at) ∙ surveyed s olds pushed inner blank own l number t put at both.0 both.1,
      own-fact s (length olds) number l t own at both.1,
    )

-- these goals are left
abbrev pub Left : Hlds → (firsts olds : List Fact) → (all : Fact) → (whole : Fact) → List Fact → List Goal → Type 0
Left s firsts olds all whole goes gs =
    (goes ≡ olds ++ facts_from s (length olds) (goals_among (gathered (goals_of gs))))
    × (both_facts all (parts_fact s (length olds) (gathered (goals_of gs))) ≡ whole)
    × Stand s (length olds) (goals_among (gathered (goals_of gs)))

pub all-next : (s : Hlds) (firsts olds news : List Fact) (gs : List Goal) (i : ℕ) (g : Goal) (all more own : Fact) → i < length gs → g ≡ get_or gs i g
    → Left s firsts olds all (parts_fact s (length firsts) (gathered (goals_of gs))) (firsts ++ facts_from s (length firsts) (goals_among (gathered (goals_of gs)))) (drop i gs)
    → (Stand s (length olds) (goals_within (goal_of g)) → Added s olds news (goals_within (goal_of g)) × (own ≡ fact_of s (length olds) (goal_of g))) → more ≡ both_facts all own
    → Left s firsts news more (parts_fact s (length firsts) (gathered (goals_of gs))) (firsts ++ facts_from s (length firsts) (goals_among (gathered (goals_of gs)))) (drop (i + 1) gs)
all-next s firsts olds news gs i g all more own lt is left made adds =
    let both = made (stand-first s (length olds) gs i g lt is left.2).0 in (
      left.0 ∙ facts-next s olds news gs i g lt is both.0,
      own-next s olds news gs i g all more own lt is both.0 both.1 adds ∙ left.1,
      stand-next s olds news gs i g lt is both.0 left.2,
    )

-- what is known where all goes well, by what else is known there
pub if-ok-map : {A E : Type 0} {P Q : A → Type 0} (r : Result A E) → ((x : A) → P x → Q x) → IfOk r P → IfOk r Q
if-ok-map (Ok x) f p = f x p
if-ok-map (Err e) f p = tt

abbrev pub MadeOf : Hlds → (olds news : List Fact) → List Goal → (parts : Fact) → Type 0
MadeOf s olds news gs parts =
    Stand s (length olds) (goals_among (gathered (goals_of gs)))
    → Added s olds news (goals_among (gathered (goals_of gs))) × (parts ≡ parts_fact s (length olds) (gathered (goals_of gs)))

pub both-Conj : (s : Hlds) (n : ℕ) (olds news : List Fact) (k : GoalKind) (v : Vec Goal Global) (gs : List Goal) (parts whole : Fact) → k ≡ Conj v → gs ≡ v.items
    → MadeOf s olds news gs parts → whole ≡ fact parts.leaves parts.heights parts.sites (then_change (kept_with 1) parts.change)
    → length olds ≡ suc n → Stand s (length olds) (goals_below (expr_of k))
    → Added s olds news (goals_below (expr_of k)) × (whole ≡ fact_of s n (At 0 (expr_of k)))
both-Conj s n olds news k v gs parts whole is e made w at stand =
    let below = below-Conj k v gs is e in
    let both = made (subst (λ hs. Stand s (length olds) hs) below stand) in (
      both.0 ∙ ap (λ hs. olds ++ facts_from s (length olds) hs) (sym below),
      w ∙ own-Conj s n (length olds) k v gs parts is e at both.1,
    )

pub both-Disj : (s : Hlds) (n : ℕ) (olds news : List Fact) (k : GoalKind) (v : Vec Goal Global) (gs : List Goal) (parts whole : Fact) (tried : Bool) → k ≡ Disj v → gs ≡ v.items
    → MadeOf s olds news gs parts → tried ≡ is_tried (switch_at (program_findings s) n) → whole ≡ fact (tried || parts.leaves) parts.heights parts.sites (charged_with 0)
    → length olds ≡ suc n → Stand s (length olds) (goals_below (expr_of k))
    → Added s olds news (goals_below (expr_of k)) × (whole ≡ fact_of s n (At 0 (expr_of k)))
both-Disj s n olds news k v gs parts whole tried is e made tries w at stand =
    let below = below-Disj k v gs is e in
    let both = made (subst (λ hs. Stand s (length olds) hs) below stand) in (
      both.0 ∙ ap (λ hs. olds ++ facts_from s (length olds) hs) (sym below),
      w ∙ own-Disj s n (length olds) k v gs parts tried is e at both.1 tries,
    )

abbrev pub MadeFrom : Hlds → (olds news : List Fact) → HldsGoal → (own : Fact) → Type 0
MadeFrom s olds news p own = Stand s (length olds) (goals_within p) → Added s olds news (goals_within p) × (own ≡ fact_of s (length olds) p)

pub both-If : (s : Hlds) (n : ℕ) (olds first second third : List Fact) (t : GoalExpr) (x y z : HldsGoal) (a b d whole : Fact) → t ≡ IfGoal x y z
    → MadeFrom s olds first x a → MadeFrom s first second y b → MadeFrom s second third z d
    → whole ≡ fact (b.leaves || d.leaves) (one_if a.leaves + a.heights + b.heights + d.heights) (a.sites + (b.sites + d.sites)) (charged_with 0)
    → length olds ≡ suc n → Stand s (length olds) (goals_below t)
    → Added s olds third (goals_below t) × (whole ≡ fact_of s n (At 0 t))
both-If s n olds first second third t x y z a b d whole is one two three w at stand =
    let stands = stand-If s (length olds) t x y z is stand in
    let p = one stands.one in
    let m : length olds + goal_size x ≡ length first = sym (length-surveyed s olds first x p.0) in
    let q = two (subst (λ k. Stand s k (goals_within y)) m stands.two) in
    let l : length olds + goal_size x + goal_size y ≡ length second = ap (λ k. k + goal_size y) m ∙ sym (length-surveyed s first second y q.0) in
    let r = three (subst (λ k. Stand s k (goals_within z)) l stands.three) in (
      facts-If s olds first second third t x y z is p.0 q.0 r.0,
      w ∙ own-If s n olds first second t x y z a b d is at stands.one p.0 q.0 p.1 q.1 r.1,
    )

pub is-tried : (b : Bool) (x : Option Switch) → is_some x ≡ not b → b ≡ is_tried x
is-tried true None e = refl
is-tried true (Some w) e = absurd (cc)
is-tried false None e = absurd (cc)
is-tried false (Some w) e = refl
