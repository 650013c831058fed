-- The instructions of a goal.
use Rattle.std.proofs.Common.{◌≡◌, refl, ap, ◌∙◌, sym, arith, ℕ, zero, suc, ◌+◌, ◌<◌, ◌≤◌, Bool, true, false, List, [], ◌∷◌, ◌++◌, length, Option, Some, None, append_assoc, Vec}
use Rattle.std.specs.declared.alloc.Global.{Global}
use Rattle.md_hlds.specs.declared.goal.Goal.{Goal}
use Rattle.md_hlds.specs.declared.goal.Term.TheVariants.{Var, Int, Str, Name}
use Rattle.md_hlds.specs.declared.goal.GoalKind.{GoalKind, Conj, Disj}
use Rattle.md_hlds.specs.HldsGoal.{Simple, Succeeds, Fails, Unifies, Computes, Compares, WritesInt, WritesText, EndsLine, Raises, HldsGoal, At, GoalExpr, SimpleGoal, CallGoal, HoCallGoal, ConjGoal, DisjGoal, IfGoal, NotGoal, SomeGoal, HldsGoals, nothing, also, expr_of, gathered, goals_of, goal_size}
use Rattle.md_hlds.specs.Hlds.{Hlds, goal_at}
use Rattle.md_hlds.proofs.Bridge.{expr_of-Conj, expr_of-Disj}
use Rattle.md_modes.specs.Notes.{Role, constructs, closes, takes_apart, assigns, tests, applies, program_notes}
use Rattle.md_modes.specs.Classes.{role_at, size_of, size_at}
use Rattle.md_flat.specs.declared.instruction.Instruction.{Instruction}
use Rattle.md_code.specs.declared.fact.Change.{Change}
use Rattle.md_code.specs.declared.fact.Fact.{Fact}
use Rattle.md_code.specs.Leaves.{leaves_table}
use Rattle.md_code.specs.Tables.{head_at, try_at, heights_of, one_if}
use Rattle.md_code.specs.Facts.{Stands, change, then_change, kept_with, pending_behind, simple_change, change_of, expr_change, parts_change, fact_of, fact_if, fact_at}
use Rattle.md_code.specs.Blocks.{Place, pending_simple, pending_after, pending_expr, pending_parts, own_code, end_code, try_code, block, least, parts_begin, first_trial, Holding, NoArm, height_if, branch, condition_place, if_condition, then_place, else_place}
use Rattle.md_code.proofs.SurveyLemmas.{stand-If, stand-own}

pub least-first : (m n : ℕ) → m < n → m ≡ least m n
least-first zero n h = refl
least-first (suc m) zero h = absurd (omega (arith, h))
least-first (suc m) (suc n) h = ap suc (least-first m n (omega (arith, h)))

pub least-second : (m n : ℕ) → n ≤ m → n ≡ least m n
least-second zero n h = omega (arith, h)
least-second (suc m) zero h = refl
least-second (suc m) (suc n) h = ap suc (least-second m n (omega (arith, h)))

pub begin-there : (n next : ℕ) (gs : List Goal) → 0 < length gs → head_at n ≡ parts_begin n (gathered (goals_of gs)) next
begin-there n next [] h = absurd (omega (arith, h))
begin-there n next (g ∷ gs) h = refl

pub trial-there : (n : ℕ) (gs : List Goal) → 0 < length gs → try_at n ≡ first_trial n (gathered (goals_of gs))
trial-there n [] h = absurd (omega (arith, h))
trial-there n (g ∷ gs) h = refl

pub expr-Conj : (k : GoalKind) (v : Vec Goal Global) (gs : List Goal) → k ≡ Conj v → gs ≡ v.items → expr_of k ≡ ConjGoal (gathered (goals_of gs))
expr-Conj k v gs is e = ap expr_of is ∙ (expr_of-Conj v ∙ ap (λ hs. ConjGoal (gathered (goals_of hs))) (sym e))

pub expr-Disj : (k : GoalKind) (v : Vec Goal Global) (gs : List Goal) → k ≡ Disj v → gs ≡ v.items → expr_of k ≡ DisjGoal (gathered (goals_of gs))
expr-Disj k v gs is e = ap expr_of is ∙ (expr_of-Disj v ∙ ap (λ hs. DisjGoal (gathered (goals_of hs))) (sym e))

-- ---- what is pending

changes-on : (i j : Bool) (x y p : ℕ) → pending_behind (then_change (change i x) (change j y)) p ≡ pending_behind (change j y) (pending_behind (change i x) p)
changes-on i false x y p = refl
changes-on false true x y p = refl
changes-on true true x y p = omega arith

then-behind : (c d : Change) (p : ℕ) → pending_behind (then_change c d) p ≡ pending_behind d (pending_behind c p)
then-behind c d p = changes-on c.keeps d.keeps c.weight d.weight p

one-more : (p : ℕ) → pending_behind (kept_with 1) p ≡ suc p
one-more p = omega arith

simple-behind : (p : ℕ) (g : Simple) (r : Option Role) → pending_behind (simple_change g r) p ≡ pending_simple p g r
simple-behind p Succeeds r = one-more p
simple-behind p Fails r = refl
simple-behind p (Unifies x (Var y)) (Some constructs) = one-more p
simple-behind p (Unifies x (Int n)) (Some constructs) = one-more p
simple-behind p (Unifies x (Str bytes)) (Some constructs) = one-more p
simple-behind p (Unifies x (Name q [])) (Some constructs) = one-more p
simple-behind p (Unifies x (Name q (y ∷ ys))) (Some constructs) = refl
simple-behind p (Unifies x t) (Some (assigns to)) = one-more p
simple-behind p (Unifies x t) (Some closes) = refl
simple-behind p (Unifies x t) (Some (takes_apart bound)) = refl
simple-behind p (Unifies x t) (Some tests) = refl
simple-behind p (Unifies x t) (Some (applies u)) = refl
simple-behind p (Unifies x t) None = refl
simple-behind p (Computes z a o b) r = one-more p
simple-behind p (Compares a cmp b) r = refl
simple-behind p (WritesInt x before after) r = refl
simple-behind p (WritesText x before after) r = refl
simple-behind p (EndsLine before after) r = refl
simple-behind p (Raises x) r = refl

mutual
  pub goal-behind : (s : Hlds) (n p : ℕ) (g : HldsGoal) → pending_behind (change_of s n g) p ≡ pending_after s n p g
  goal-behind s n p (At l t) = expr-behind s n p t

  pub expr-behind : (s : Hlds) (n p : ℕ) (t : GoalExpr) → pending_behind (expr_change s n t) p ≡ pending_expr s n p t
  expr-behind s n p (SimpleGoal g) = simple-behind p g (role_at (program_notes s) n)
  expr-behind s n p (CallGoal site q ys) = refl
  expr-behind s n p (HoCallGoal site f ys) = refl
  expr-behind s n p (ConjGoal ps) =
      then-behind (kept_with 1) (parts_change s (suc n) ps) p ∙ (ap (pending_behind (parts_change s (suc n) ps)) (one-more p) ∙ parts-behind s (suc n) (suc p) ps)
  expr-behind s n p (DisjGoal ps) = refl
  expr-behind s n p (IfGoal c t e) = refl
  expr-behind s n p (NotGoal c) = refl
  expr-behind s n p (SomeGoal vs c) =
      then-behind (kept_with 1) (change_of s (suc n) c) p ∙ (ap (pending_behind (change_of s (suc n) c)) (one-more p) ∙ goal-behind s (suc n) (suc p) c)

  pub parts-behind : (s : Hlds) (n p : ℕ) (ps : HldsGoals) → pending_behind (parts_change s n ps) p ≡ pending_parts s n p ps
  parts-behind s n p nothing = omega arith
  parts-behind s n p (also g gs) =
      then-behind (change_of s n g) (parts_change s (n + goal_size g) gs) p
      ∙ (ap (pending_behind (parts_change s (n + goal_size g) gs)) (goal-behind s n p g) ∙ parts-behind s (n + goal_size g) (pending_after s n p g) gs)

-- ---- the whole block

pub block-is : (s : Hlds) (n : ℕ) (t : GoalExpr) (at : Place) (olds one two three own end : List Instruction) (trial : Instruction) (f : Fact) (pending : ℕ)
    → Stands s n t → own ≡ own_code s n t at → f ≡ fact_at s n → pending ≡ pending_behind f.change at.pending → end ≡ end_code n pending at.size at.end → trial ≡ try_code n at.size at.trial
    → one ≡ olds ++ own → two ≡ one ++ end → three ≡ two ++ trial ∷ [] → three ≡ olds ++ block s n t at
block-is s n t at olds one two three own end trial f pending stands is known p e tr a b c =
    let fact : f ≡ fact_of s n (At stands.line t) = known ∙ ap (fact_if s n) stands.own in
    let behind : pending ≡ pending_expr s n at.pending t = p ∙ (ap (λ (g : Fact). pending_behind g.change at.pending) fact ∙ expr-behind s n at.pending t) in
    let ends : end ≡ end_code n (pending_expr s n at.pending t) at.size at.end = e ∙ ap (λ k. end_code n k at.size at.end) behind in
    let whole : ((olds ++ own) ++ end) ++ trial ∷ [] ≡ olds ++ (own ++ (end ++ trial ∷ [])) = append_assoc (olds ++ own) end (trial ∷ []) ∙ append_assoc olds own (end ++ trial ∷ []) in
    c
    ∙ (ap (λ is. is ++ trial ∷ []) (b ∙ ap (λ is. is ++ end) a)
    ∙ (whole ∙ (λ i. olds ++ (is i ++ (ends i ++ tr i ∷ [])))))

-- ---- the numbers of the parts of an if-then-else

pub record Numbers (s : Hlds) (n second third : ℕ) (x y : HldsGoal) : Type 0 where
  pub second-is : second ≡ suc n + goal_size x
  pub third-is : third ≡ suc n + goal_size x + goal_size y

pub numbers-are : (s : Hlds) (n first second third : ℕ) (x y : HldsGoal) → goal_at s (suc n) ≡ Some x → goal_at s (suc n + goal_size x) ≡ Some y
    → first ≡ n + 1 → second ≡ first + size_at s first → third ≡ second + size_at s second → Numbers s n second third x y
numbers-are s n first second third x y one two a b c =
    let first' : first ≡ suc n = omega (arith, a) in
    let sized : size_at s first ≡ goal_size x = ap (size_at s) first' ∙ ap size_of one in
    let second' : second ≡ suc n + goal_size x = omega (arith, b, first', sized) in
    let sized' : size_at s second ≡ goal_size y = ap (size_at s) second' ∙ ap size_of two in
    record { second-is = second'; third-is = omega (arith, c, second', sized') }

pub If-numbers : (s : Hlds) (n first second third : ℕ) (t : GoalExpr) (x y z : HldsGoal) → t ≡ IfGoal x y z → Stands s n t
    → first ≡ n + 1 → second ≡ first + size_at s first → third ≡ second + size_at s second → Numbers s n second third x y
If-numbers s n first second third t x y z is stands a b c =
    let parts = stand-If s (suc n) t x y z is stands.below in
    numbers-are s n first second third x y (stand-own s (suc n) x parts.one) (stand-own s (suc n + goal_size x) y parts.two) a b c

-- ---- the places of the parts of an if-then-else

pub test-places : (s : Hlds) (n first second third : ℕ) (at condition met otherwise : Place) (f d : Fact) (h0 h1 h2 p0 p : ℕ) (x y : HldsGoal)
    → goal_at s (suc n) ≡ Some x → goal_at s (suc n + goal_size x) ≡ Some y → first ≡ n + 1 → second ≡ first + size_at s first → third ≡ second + size_at s second
    → condition ≡ condition_place s n at (head_at third) (Holding (height_if (leaves_table s (suc n)) at.height) (head_at second))
    → f ≡ fact_at s first → h0 ≡ at.height + one_if (leaves_table s first) → h1 ≡ h0 + f.heights → p0 ≡ at.pending + 1 → p ≡ pending_behind f.change p0
    → met ≡ branch s n second at at.other p h1 NoArm → d ≡ fact_at s second → h2 ≡ h1 + d.heights → otherwise ≡ branch s n third at at.other 0 h2 NoArm
    → (condition ≡ if_condition s n x y at) × (met ≡ then_place s n x at) × (otherwise ≡ else_place s n x y at)
test-places s n first second third at condition met otherwise f d h0 h1 h2 p0 p x y one two a b c is fs hs hs' ps ps' ms ds hs'' os =
    let numbers = numbers-are s n first second third x y one two a b c in
    let first' : first ≡ suc n = omega (arith, a) in
    let f' : f ≡ fact_of s (suc n) x = fs ∙ (ap (fact_at s) first' ∙ ap (fact_if s (suc n)) one) in
    let d' : d ≡ fact_of s (suc n + goal_size x) y = ds ∙ (ap (fact_at s) numbers.second-is ∙ ap (fact_if s (suc n + goal_size x)) two) in
    let h1' : h1 ≡ at.height + one_if (leaves_table s (suc n)) + heights_of s (suc n) x
    = hs' ∙ (λ i. (hs ∙ ap (λ k. at.height + one_if (leaves_table s k)) first') i + (f' i).heights) in
    let h2' : h2 ≡ at.height + one_if (leaves_table s (suc n)) + heights_of s (suc n) x + heights_of s (suc n + goal_size x) y = hs'' ∙ (λ i. h1' i + (d' i).heights) in
    let before : p0 ≡ suc at.pending = omega (arith, ps) in
    let p' : p ≡ pending_after s (suc n) (suc at.pending) x = ps' ∙ ((λ i. pending_behind (f' i).change (before i)) ∙ goal-behind s (suc n) (suc at.pending) x) in (
      is ∙ (λ i. condition_place s n at (head_at (numbers.third-is i)) (Holding (height_if (leaves_table s (suc n)) at.height) (head_at (numbers.second-is i)))),
      ms ∙ (λ i. branch s n (numbers.second-is i) at at.other (p' i) (h1' i) NoArm),
      os ∙ (λ i. branch s n (numbers.third-is i) at at.other 0 (h2' i) NoArm),
    )
