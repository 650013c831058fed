-- The pairs that the search finds rise, since sites are numbered in text order.
use Rattle.std.proofs.Common.{◌≡◌, inl, inr, refl, ap, ◌∙◌, sym, subst, arith, ℕ, zero, suc, ◌+◌, ◌<◌, ◌≤◌, Bool, true, false, if◌then◌else◌, List, [], ◌∷◌, ◌++◌, length, length-append, Option, None, Some, slice_get, All}
use Rattle.std.proofs.lemmas.List.Elements.{All-nil, All-cons, All-head, All-tail, All-append, All-weaker}
use Rattle.md_hlds.specs.declared.goal.PredName.{PredName}
use Rattle.md_hlds.specs.HldsGoal.{HldsGoal, At, GoalExpr, SimpleGoal, CallGoal, HoCallGoal, ConjGoal, DisjGoal, IfGoal, NotGoal, SomeGoal, HldsGoals, nothing, also, goal_size, goals_within, goals_below, goals_among, Numbered, numbered_goal, numbered_from}
use Rattle.md_hlds.specs.Hlds.{Hlds, Procedure}
use Rattle.md_trace.specs.PortHistory.{CallSite}
use Rattle.law_events.specs.Table.{AreNumberedFrom, goal_sites, expr_sites, goals_sites, clause_sites}
use Rattle.md_feedback.specs.declared.pairs.Pair.{Pair}
use Rattle.md_feedback.specs.Text.{IsBefore, Rise}
use Rattle.md_feedback.specs.Search.{Reading, reading, costly_call, calls_det, call_at, binds_in, mentions, pair_of, pair_with, partners, led_by, goal_pairs, expr_pairs, each_pairs, arm_pairs, clause_pairs}
use Rattle.md_feedback.proofs.Members.{get_split, some_is}
use Rattle.md_feedback.proofs.Rising.{one_rises, rise_append}

abbrev pub Sites : Type 0
Sites = List (ℕ × CallSite)

-- ---- sites that are numbered one after the other

pub numbered-left : (k : ℕ) (xs ys : Sites) → AreNumberedFrom k (xs ++ ys) → AreNumberedFrom k xs
numbered-left k [] ys h = tt
numbered-left k (x ∷ xs) ys h = (h.0, numbered-left (suc k) xs ys h.1)

pub numbered-right : (k n : ℕ) (xs ys : Sites) → n ≡ k + length xs → AreNumberedFrom k (xs ++ ys) → AreNumberedFrom n ys
numbered-right k n [] ys e h = let same : k ≡ n = omega (arith, e) in subst (λ (i : ℕ). AreNumberedFrom i ys) same h
numbered-right k n (x ∷ xs) ys e h = numbered-right (suc k) n xs ys (omega (arith, e)) h.1

-- ---- pairs between two sites

pub record IsWithin (k m : ℕ) (p : Pair) : Type 0 where
  pub low : k ≤ p.first
  pub order : p.first < p.second
  pub high : p.second < m

pub record Ordered (k m : ℕ) (ps : List Pair) : Type 0 where
  pub rise : Rise ps
  pub within : All (IsWithin k m) ps

pub none_ordered : (k m : ℕ) → Ordered k m []
none_ordered k m = record { rise = tt; within = All-nil (IsWithin k m) }

wider : (k l m n : ℕ) (ps : List Pair) → k ≤ l → m ≤ n → All (IsWithin l m) ps → All (IsWithin k n) ps
wider k l m n ps low high all = All-weaker (IsWithin l m) (IsWithin k n) (λ p w. record { low = omega (arith, low, w.low); order = w.order; high = omega (arith, high, w.high) }) ps all

pub ordered_wider : (k l m n : ℕ) (ps : List Pair) → k ≤ l → m ≤ n → Ordered l m ps → Ordered k n ps
ordered_wider k l m n ps low high o = record { rise = o.rise; within = wider k l m n ps low high o.within }

pub ordered_append : (k l m : ℕ) (xs ys : List Pair) → k ≤ l → l ≤ m → Ordered k l xs → Ordered l m ys → Ordered k m (xs ++ ys)
ordered_append k l m xs ys low high a b = record {
  rise = rise_append xs ys a.rise b.rise
      (All-weaker (IsWithin k l) (λ p. All (IsBefore p) ys)
      (λ p w. All-weaker (IsWithin l m) (IsBefore p) (λ q v. inl (omega (arith, w.order, w.high, v.low))) ys b.within) xs a.within);
  within = All-append (IsWithin k m) xs ys (wider k k l m xs (omega arith) high a.within) (wider k l m m ys low (omega arith) b.within);
}

-- ---- the partners of a call

-- pairs of one call, with second calls between two sites
pub record IsLedBy (first k m : ℕ) (p : Pair) : Type 0 where
  pub same : p.first ≡ first
  pub low : k ≤ p.second
  pub high : p.second < m

pub record AreLed (first k m : ℕ) (ps : List Pair) : Type 0 where
  pub rise : Rise ps
  pub within : All (IsLedBy first k m) ps

led_wider : (first k l m n : ℕ) (ps : List Pair) → k ≤ l → m ≤ n → AreLed first l m ps → AreLed first k n ps
led_wider first k l m n ps low high o = record {
  rise = o.rise;
  within = All-weaker (IsLedBy first l m) (IsLedBy first k n) (λ p w. record { same = w.same; low = omega (arith, low, w.low); high = omega (arith, high, w.high) }) ps o.within;
}

led_append : (first k l m : ℕ) (xs ys : List Pair) → k ≤ l → l ≤ m → AreLed first k l xs → AreLed first l m ys → AreLed first k m (xs ++ ys)
led_append first k l m xs ys low high a b = record {
  rise = rise_append xs ys a.rise b.rise
      (All-weaker (IsLedBy first k l) (λ p. All (IsBefore p) ys)
      (λ p w. All-weaker (IsLedBy first l m) (IsBefore p) (λ q v. inr (w.same ∙ sym v.same, omega (arith, w.high, v.low))) ys b.within) xs a.within);
  within = All-append (IsLedBy first k m) xs ys (led_wider first k k l m xs (omega arith) high a).within (led_wider first k l m m ys low (omega arith) b).within;
}

-- a costly call is at its own site
pub record IsAtSite (s : Hlds) (o k : ℕ) (p : HldsGoal) (b : ℕ × ℕ) : Type 0 where
  pub site : b.0 ≡ k
  pub one : length (goal_sites s o p) ≡ 1

called_at : (site : ℕ) (t : Option ℕ) (b : ℕ × ℕ) → call_at site t ≡ Some b → b.0 ≡ site
called_at site None b e = absurd (cc)
called_at site (Some t) b e = sym (ap (λ (x : ℕ × ℕ). x.0) (some_is (site, t) b e))

chosen : (v : Bool) (o : Option (ℕ × ℕ)) (b : ℕ × ℕ) → (if v then o else None) ≡ Some b → o ≡ Some b
chosen true o b e = e
chosen false o b e = absurd (cc)

none_costly : (s : Hlds) (o k : ℕ) (p : HldsGoal) (b : ℕ × ℕ) → None ≡ Some b → IsAtSite s o k p b
none_costly s o k p b e = absurd (cc)

pub costly_site : (s : Hlds) (c : Reading) (o k n : ℕ) (p : HldsGoal) (b : ℕ × ℕ) → AreNumberedFrom k (goal_sites s o p) → costly_call c n p ≡ Some b → IsAtSite s o k p b
costly_site s c o k n (At l (SimpleGoal g)) b num e = none_costly s o k (At l (SimpleGoal g)) b e
costly_site s c o k n (At l (CallGoal site q ys)) b num e = record {
  site = called_at site _ b (chosen (calls_det c.program n) _ b e) ∙ num.0;
  one = refl;
}
costly_site s c o k n (At l (HoCallGoal site f ys)) b num e = none_costly s o k (At l (HoCallGoal site f ys)) b e
costly_site s c o k n (At l (ConjGoal ps)) b num e = none_costly s o k (At l (ConjGoal ps)) b e
costly_site s c o k n (At l (DisjGoal ps)) b num e = none_costly s o k (At l (DisjGoal ps)) b e
costly_site s c o k n (At l (IfGoal p t f)) b num e = none_costly s o k (At l (IfGoal p t f)) b e
costly_site s c o k n (At l (NotGoal p)) b num e = none_costly s o k (At l (NotGoal p)) b e
costly_site s c o k n (At l (SomeGoal vs p)) b num e = none_costly s o k (At l (SomeGoal vs p)) b e

pair_led : (s : Hlds) (c : Reading) (a : ℕ × ℕ) (o k n : ℕ) (p : HldsGoal) → AreNumberedFrom k (goal_sites s o p) → (d : Option (ℕ × ℕ)) → costly_call c n p ≡ d → AreLed a.0 k (k + length (goal_sites s o p)) (pair_with c.owner a d)
pair_led s c a o k n p num None e = record { rise = tt; within = All-nil (IsLedBy a.0 k (k + length (goal_sites s o p))) }
pair_led s c a o k n p num (Some b) e =
    let there : IsAtSite s o k p b = costly_site s c o k n p b num e in
    record {
      rise = one_rises (pair_of c.owner a b);
      within = All-cons (IsLedBy a.0 k (k + length (goal_sites s o p))) (pair_of c.owner a b) []
          (record { same = refl; low = omega (arith, there.site); high = omega (arith, there.site, there.one) }) (All-nil (IsLedBy a.0 k (k + length (goal_sites s o p))));
    }

partner_order : (s : Hlds) (c : Reading) (a : ℕ × ℕ) (bound : List ℕ) (o k l m n : ℕ) (p : HldsGoal) (gs : List Numbered) → l ≡ k + length (goal_sites s o p) → l ≤ m → AreNumberedFrom k (goal_sites s o p)
    → ((then' : List ℕ) → AreLed a.0 l m (partners c a then' gs)) → (found : Bool)
    → AreLed a.0 k m (if found then partners c a (bound ++ binds_in c n) gs else pair_with c.owner a (costly_call c n p) ++ partners c a bound gs)
partner_order s c a bound o k l m n p gs there high num again true = led_wider a.0 k l m m (partners c a (bound ++ binds_in c n) gs) (omega (arith, there)) (omega arith) (again (bound ++ binds_in c n))
partner_order s c a bound o k l m n p gs there high num again false =
    led_append a.0 k l m (pair_with c.owner a (costly_call c n p)) (partners c a bound gs) (omega (arith, there)) high
    (subst (λ (i : ℕ). AreLed a.0 k i (pair_with c.owner a (costly_call c n p))) (sym there) (pair_led s c a o k n p num (costly_call c n p) refl)) (again bound)

pub partners_order : (s : Hlds) (c : Reading) (a : ℕ × ℕ) (bound : List ℕ) (o k m n : ℕ) (ps : HldsGoals) → m ≡ k + length (goals_sites s o ps) → AreNumberedFrom k (goals_sites s o ps)
    → AreLed a.0 k m (partners c a bound (numbered_from n ps))
partners_order s c a bound o k m n nothing there num = record { rise = tt; within = All-nil (IsLedBy a.0 k m) }
partners_order s c a bound o k m n (also p ps) there num =
    let l = k + length (goal_sites s o p) in
    let end' : m ≡ l + length (goals_sites s o ps) = omega (arith, there, length-append (goal_sites s o p) (goals_sites s o ps)) in
    partner_order s c a bound o k l m n p (numbered_from (n + goal_size p) ps) refl (omega (arith, end')) (numbered-left k (goal_sites s o p) (goals_sites s o ps) num)
    (λ then'. partners_order s c a then' o l m (n + goal_size p) ps end' (numbered-right k l (goal_sites s o p) (goals_sites s o ps) refl num))
    (mentions bound p)

-- ---- the pairs of goals

-- the pairs that a costly call leads, before those of the parts behind it
led_first : (c : Reading) (d : Option (ℕ × ℕ)) (bound : List ℕ) (gs : List Numbered) (rest : List Pair) (k l m : ℕ) → k ≤ l → Ordered l m rest → ((a : ℕ × ℕ) → d ≡ Some a → (a.0 ≡ k) × (suc k ≡ l) × AreLed a.0 l m (partners c a bound gs))
    → Ordered k m (led_by c d bound gs ++ rest)
led_first c None bound gs rest k l m low o leads = ordered_wider k l m m rest low (omega arith) o
led_first c (Some a) bound gs rest k l m low o leads =
    let h = leads a refl in
    record {
      rise = rise_append (partners c a bound gs) rest h.2.rise o.rise
          (All-weaker (IsLedBy a.0 l m) (λ p. All (IsBefore p) rest)
          (λ p w. All-weaker (IsWithin l m) (IsBefore p) (λ q v. inl (omega (arith, w.same, h.0, h.1, v.low))) rest o.within) (partners c a bound gs) h.2.within);
      within = All-append (IsWithin k m) (partners c a bound gs) rest
          (All-weaker (IsLedBy a.0 l m) (IsWithin k m) (λ p w. record { low = omega (arith, w.same, h.0); order = omega (arith, w.same, w.low, h.0, h.1); high = w.high }) (partners c a bound gs) h.2.within)
          (wider k l m m rest low (omega arith) o.within);
    }

-- of a part: it is a call without goals within it, or it leads no pairs
part_order : (c : Reading) (n k l m : ℕ) (p : HldsGoal) (bound : List ℕ) (gs : List Numbered) (rest : List Pair) → k ≤ l → l ≤ m → Ordered k l (goal_pairs c n p) → Ordered l m rest
    → Ordered k m (led_by c (costly_call c n p) bound gs ++ rest) → Ordered k m (goal_pairs c n p ++ (led_by c (costly_call c n p) bound gs ++ rest))
part_order c n k l m (At line (SimpleGoal g)) bound gs rest low high inner after whole = whole
part_order c n k l m (At line (CallGoal site q ys)) bound gs rest low high inner after whole = whole
part_order c n k l m (At line (HoCallGoal site f ys)) bound gs rest low high inner after whole = whole
part_order c n k l m (At line (ConjGoal ps)) bound gs rest low high inner after whole = ordered_append k l m (each_pairs c (n + 1) ps) rest low high inner after
part_order c n k l m (At line (DisjGoal ps)) bound gs rest low high inner after whole = ordered_append k l m (arm_pairs c (n + 1) ps) rest low high inner after
part_order c n k l m (At line (IfGoal p t e)) bound gs rest low high inner after whole = ordered_append k l m (goal_pairs c n (At line (IfGoal p t e))) rest low high inner after
part_order c n k l m (At line (NotGoal p)) bound gs rest low high inner after whole = ordered_append k l m (goal_pairs c (n + 1) p) rest low high inner after
part_order c n k l m (At line (SomeGoal vs p)) bound gs rest low high inner after whole = ordered_append k l m (goal_pairs c (n + 1) p) rest low high inner after

mutual
  pub goal_order : (s : Hlds) (c : Reading) (o k m n : ℕ) (p : HldsGoal) → m ≡ k + length (goal_sites s o p) → AreNumberedFrom k (goal_sites s o p) → Ordered k m (goal_pairs c n p)
  goal_order s c o k m n (At l t) there num = expr_order s c o k m (n + 1) t there num

  expr_order : (s : Hlds) (c : Reading) (o k m n : ℕ) (t : GoalExpr) → m ≡ k + length (expr_sites s o t) → AreNumberedFrom k (expr_sites s o t) → Ordered k m (expr_pairs c n t)
  expr_order s c o k m n (SimpleGoal g) there num = none_ordered k m
  expr_order s c o k m n (CallGoal site q ys) there num = none_ordered k m
  expr_order s c o k m n (HoCallGoal site f ys) there num = none_ordered k m
  expr_order s c o k m n (ConjGoal ps) there num = each_order s c o k m n ps there num
  expr_order s c o k m n (DisjGoal ps) there num = arms_order s c o k m n ps there num
  expr_order s c o k m n (IfGoal p t e) there num =
      let one = length (goal_sites s o p) in
      let two = length (goal_sites s o t) in
      let rest = goal_sites s o t ++ goal_sites s o e in
      let all : m ≡ k + one + two + length (goal_sites s o e) = omega (arith, there, length-append (goal_sites s o p) rest, length-append (goal_sites s o t) (goal_sites s o e)) in
      let later : AreNumberedFrom (k + one) rest = numbered-right k (k + one) (goal_sites s o p) rest refl num in
      ordered_append k (k + one) m (goal_pairs c n p) (goal_pairs c (n + goal_size p) t ++ goal_pairs c (n + goal_size p + goal_size t) e) (omega arith) (omega (arith, all))
      (goal_order s c o k (k + one) n p refl (numbered-left k (goal_sites s o p) rest num))
      (ordered_append (k + one) (k + one + two) m (goal_pairs c (n + goal_size p) t) (goal_pairs c (n + goal_size p + goal_size t) e) (omega arith) (omega (arith, all))
      (goal_order s c o (k + one) (k + one + two) (n + goal_size p) t refl (numbered-left (k + one) (goal_sites s o t) (goal_sites s o e) later))
      (goal_order s c o (k + one + two) m (n + goal_size p + goal_size t) e all (numbered-right (k + one) (k + one + two) (goal_sites s o t) (goal_sites s o e) refl later)))
  expr_order s c o k m n (NotGoal p) there num = goal_order s c o k m n p there num
  expr_order s c o k m n (SomeGoal vs p) there num = goal_order s c o k m n p there num

  each_order : (s : Hlds) (c : Reading) (o k m n : ℕ) (ps : HldsGoals) → m ≡ k + length (goals_sites s o ps) → AreNumberedFrom k (goals_sites s o ps) → Ordered k m (each_pairs c n ps)
  each_order s c o k m n nothing there num = none_ordered k m
  each_order s c o k m n (also p ps) there num =
      let l = k + length (goal_sites s o p) in
      let end' : m ≡ l + length (goals_sites s o ps) = omega (arith, there, length-append (goal_sites s o p) (goals_sites s o ps)) in
      let own : AreNumberedFrom k (goal_sites s o p) = numbered-left k (goal_sites s o p) (goals_sites s o ps) num in
      let others : AreNumberedFrom l (goals_sites s o ps) = numbered-right k l (goal_sites s o p) (goals_sites s o ps) refl num in
      let after : Ordered l m (each_pairs c (n + goal_size p) ps) = each_order s c o l m (n + goal_size p) ps end' others in
      part_order c n k l m p (binds_in c n) (numbered_from (n + goal_size p) ps) (each_pairs c (n + goal_size p) ps) (omega arith) (omega (arith, end')) (goal_order s c o k l n p refl own) after
      (led_first c (costly_call c n p) (binds_in c n) (numbered_from (n + goal_size p) ps) (each_pairs c (n + goal_size p) ps) k l m (omega arith) after
      (λ a e. let at : IsAtSite s o k p a = costly_site s c o k n p a own e in
      (at.site, omega (arith, at.one), partners_order s c a (binds_in c n) o l m (n + goal_size p) ps end' others)))

  arms_order : (s : Hlds) (c : Reading) (o k m n : ℕ) (ps : HldsGoals) → m ≡ k + length (goals_sites s o ps) → AreNumberedFrom k (goals_sites s o ps) → Ordered k m (arm_pairs c n ps)
  arms_order s c o k m n nothing there num = none_ordered k m
  arms_order s c o k m n (also p ps) there num =
      let l = k + length (goal_sites s o p) in
      let end' : m ≡ l + length (goals_sites s o ps) = omega (arith, there, length-append (goal_sites s o p) (goals_sites s o ps)) in
      ordered_append k l m (goal_pairs c n p) (arm_pairs c (n + goal_size p) ps) (omega arith) (omega (arith, end'))
      (goal_order s c o k l n p refl (numbered-left k (goal_sites s o p) (goals_sites s o ps) num))
      (arms_order s c o l m (n + goal_size p) ps end' (numbered-right k l (goal_sites s o p) (goals_sites s o ps) refl num))

pub clauses_order : (s : Hlds) (heavy : List (Option ℕ)) (owner k m n : ℕ) (procs : List Procedure) → m ≡ k + length (clause_sites s owner procs) → AreNumberedFrom k (clause_sites s owner procs)
    → Ordered k m (clause_pairs s heavy owner n procs)
clauses_order s heavy owner k m n [] there num = none_ordered k m
clauses_order s heavy owner k m n (p ∷ ps) there num =
    let l = k + length (goal_sites s owner p.body) in
    let end' : m ≡ l + length (clause_sites s (suc owner) ps) = omega (arith, there, length-append (goal_sites s owner p.body) (clause_sites s (suc owner) ps)) in
    ordered_append k l m (goal_pairs (reading s heavy owner) n p.body) (clause_pairs s heavy (suc owner) (n + goal_size p.body) ps) (omega arith) (omega (arith, end'))
    (goal_order s (reading s heavy owner) owner k l n p.body refl (numbered-left k (goal_sites s owner p.body) (clause_sites s (suc owner) ps) num))
    (clauses_order s heavy (suc owner) l m (n + goal_size p.body) ps end' (numbered-right k l (goal_sites s owner p.body) (clause_sites s (suc owner) ps) refl num))

-- ---- the sites of goals

-- each of these sites has a number below m
abbrev pub Below : ℕ → Sites → Type 0
Below m xs = All (λ x. x.0 < m) xs

pub numbered_below : (k m : ℕ) (xs : Sites) → m ≡ k + length xs → AreNumberedFrom k xs → Below m xs
numbered_below k m [] e h = All-nil (λ (x : ℕ × CallSite). x.0 < m)
numbered_below k m (x ∷ xs) e h = All-cons (λ (y : ℕ × CallSite). y.0 < m) x xs (omega (arith, e, h.0)) (numbered_below (suc k) m xs (omega (arith, e)) h.1)

below_left : (m : ℕ) (xs ys : Sites) → Below m (xs ++ ys) → Below m xs
below_left m [] ys all = All-nil (λ (x : ℕ × CallSite). x.0 < m)
below_left m (x ∷ xs) ys all = All-cons (λ (y : ℕ × CallSite). y.0 < m) x xs (All-head (λ (y : ℕ × CallSite). y.0 < m) x (xs ++ ys) all) (below_left m xs ys (All-tail (λ (y : ℕ × CallSite). y.0 < m) x (xs ++ ys) all))

below_right : (m : ℕ) (xs ys : Sites) → Below m (xs ++ ys) → Below m ys
below_right m [] ys all = all
below_right m (x ∷ xs) ys all = below_right m xs ys (All-tail (λ (y : ℕ × CallSite). y.0 < m) x (xs ++ ys) all)

no_goal : (i : ℕ) (x : HldsGoal) → slice_get {X = HldsGoal} [] i ≡ Some x → ⊥
no_goal i x e = cc

self_or_below : (s : Hlds) (o m l : ℕ) (t : GoalExpr) → Below m (expr_sites s o t) → ((j : ℕ) (x : HldsGoal) → slice_get (goals_below t) j ≡ Some x → Below m (goal_sites s o x))
    → (i : ℕ) (x : HldsGoal) → slice_get (At l t ∷ goals_below t) i ≡ Some x → Below m (goal_sites s o x)
self_or_below s o m l t all deeper zero x at = subst (λ (y : HldsGoal). Below m (goal_sites s o y)) (some_is (At l t) x at) all
self_or_below s o m l t all deeper (suc i) x at = deeper i x at

mutual
  pub goal_below : (s : Hlds) (o m : ℕ) (p : HldsGoal) → Below m (goal_sites s o p) → (i : ℕ) (x : HldsGoal) → slice_get (goals_within p) i ≡ Some x → Below m (goal_sites s o x)
  goal_below s o m (At l t) all i x at = self_or_below s o m l t all (λ j y there. expr_below s o m t all j y there) i x at

  expr_below : (s : Hlds) (o m : ℕ) (t : GoalExpr) → Below m (expr_sites s o t) → (i : ℕ) (x : HldsGoal) → slice_get (goals_below t) i ≡ Some x → Below m (goal_sites s o x)
  expr_below s o m (SimpleGoal g) all i x at = absurd (no_goal i x at)
  expr_below s o m (CallGoal site q ys) all i x at = absurd (no_goal i x at)
  expr_below s o m (HoCallGoal site f ys) all i x at = absurd (no_goal i x at)
  expr_below s o m (ConjGoal ps) all i x at = among_below s o m ps all i x at
  expr_below s o m (DisjGoal ps) all i x at = among_below s o m ps all i x at
  expr_below s o m (IfGoal p t e) all i x at =
      let rest : Below m (goal_sites s o t ++ goal_sites s o e) = below_right m (goal_sites s o p) (goal_sites s o t ++ goal_sites s o e) all in
      elim (get_split (goals_within p) (goals_within t ++ goals_within e) i x at) [
        | inl a ↦ goal_below s o m p (below_left m (goal_sites s o p) (goal_sites s o t ++ goal_sites s o e) all) i x a
        | inr b ↦ elim (get_split (goals_within t) (goals_within e) b.0 x b.2) [
          | inl a ↦ goal_below s o m t (below_left m (goal_sites s o t) (goal_sites s o e) rest) b.0 x a
          | inr d ↦ goal_below s o m e (below_right m (goal_sites s o t) (goal_sites s o e) rest) d.0 x d.2
        ]
      ]
  expr_below s o m (NotGoal p) all i x at = goal_below s o m p all i x at
  expr_below s o m (SomeGoal vs p) all i x at = goal_below s o m p all i x at

  among_below : (s : Hlds) (o m : ℕ) (ps : HldsGoals) → Below m (goals_sites s o ps) → (i : ℕ) (x : HldsGoal) → slice_get (goals_among ps) i ≡ Some x → Below m (goal_sites s o x)
  among_below s o m nothing all i x at = absurd (no_goal i x at)
  among_below s o m (also p ps) all i x at =
      elim (get_split (goals_within p) (goals_among ps) i x at) [
        | inl a ↦ goal_below s o m p (below_left m (goal_sites s o p) (goals_sites s o ps) all) i x a
        | inr b ↦ among_below s o m ps (below_right m (goal_sites s o p) (goals_sites s o ps) all) b.0 x b.2
      ]

-- the parts of a conjunction
pub part_below : (s : Hlds) (o m n : ℕ) (ps : HldsGoals) → Below m (goals_sites s o ps) → (i : ℕ) (g : Numbered) → slice_get (numbered_from n ps) i ≡ Some g → Below m (goal_sites s o g.goal)
part_below s o m n nothing all i g at = absurd (cc)
part_below s o m n (also p ps) all zero g at =
    subst (λ (x : Numbered). Below m (goal_sites s o x.goal)) (some_is (numbered_goal n p) g at) (below_left m (goal_sites s o p) (goals_sites s o ps) all)
part_below s o m n (also p ps) all (suc i) g at = part_below s o m (n + goal_size p) ps (below_right m (goal_sites s o p) (goals_sites s o ps) all) i g at

pub clause_below : (s : Hlds) (owner m : ℕ) (procs : List Procedure) → Below m (clause_sites s owner procs) → (q : ℕ) (p : Procedure) → slice_get procs q ≡ Some p → Below m (goal_sites s (owner + q) p.body)
clause_below s owner m [] all q p at = absurd (cc)
clause_below s owner m (x ∷ xs) all zero p at =
    let zero_more : owner ≡ owner + 0 = omega arith in
    subst (λ (o : ℕ). Below m (goal_sites s o p.body)) zero_more
    (subst (λ (r : Procedure). Below m (goal_sites s owner r.body)) (some_is x p at) (below_left m (goal_sites s owner x.body) (clause_sites s (suc owner) xs) all))
clause_below s owner m (x ∷ xs) all (suc q) p at =
    let there : suc owner + q ≡ owner + suc q = omega arith in
    subst (λ (o : ℕ). Below m (goal_sites s o p.body)) there (clause_below s (suc owner) m xs (below_right m (goal_sites s owner x.body) (clause_sites s (suc owner) xs) all) q p at)

-- the site of a call
pub call_below : (s : Hlds) (o m l site : ℕ) (q : PredName) (ys : List ℕ) → Below m (goal_sites s o (At l (CallGoal site q ys))) → site < m
call_below s o m l site q ys all = All-head (λ (x : ℕ × CallSite). x.0 < m) _ [] all
