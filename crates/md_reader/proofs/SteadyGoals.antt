-- Each rule looks no further than where it stops: goals.
use Rattle.std.proofs.Common.{◌≡◌, ℕ, zero, suc, List, [], ◌∷◌, ◌++◌, refl, cond, ap}
use Rattle.md_hlds.specs.HldsGoal.{HldsGoal, At, GoalExpr, SimpleGoal, Succeeds, Fails, DisjGoal, IfGoal, NotGoal, SomeGoal, gathered}
use Rattle.md_token.specs.declared.kind.Kind.{Kind}
use Rattle.md_token.specs.declared.kind.Kind.TheVariants as kind
use Rattle.md_token.specs.Kinds.{same_kind, is_final}
use Rattle.md_token.specs.Token.{Lexeme}
use Rattle.md_reader.specs.Input.{Input, Parser, ◌>>◌, pure, refuse, limit, sees, kind_at, expect}
use Rattle.md_reader.specs.Rules as rule
use Rattle.md_reader.proofs.Steady.{Same, Steady, goes_by, cut, bound, given, faulty, limited, tested, by_token, passing, expected, turns_on, turned}
use Rattle.md_reader.proofs.SteadyRules.{kind_is, ending, quantified_steady, relation_steady, call_steady, closure_call_steady}

module _ (d : ℕ) (more : List Lexeme) where
  abbrev Stable : {A : Type 0} → Parser A → Type 0
  Stable p = Steady d more p

  module _ (inner : Parser HldsGoal) (I : Stable inner) where
    arms_steady : (first : HldsGoal) → Stable (rule.arms inner first)
    unfolding rule.arms rule.arms_from same_kind
    arms_steady first =
        turned d more (rule.arms_from inner) (λ s i. refl)
        (λ n m s i rec. turns_on d more inner kind.Semicolon (λ p. rule.arms_from inner n (s ++ p ∷ [])) (λ p. rule.arms_from inner m (s ++ p ∷ [])) (λ p. expect kind.Close >> pure (s ++ p ∷ [])) i I refl refl (λ p j lt. rec (s ++ p ∷ []) j lt) (λ p. ending d more kind.Close refl (s ++ p ∷ []))) (first ∷ [])

    disjunction_steady : (line : ℕ) (first : HldsGoal) → Stable (rule.disjunction inner line first)
    unfolding rule.disjunction
    disjunction_steady line first = bound d more (expect kind.Semicolon) _ (expected d more kind.Semicolon refl) (λ _. bound d more (rule.arms inner first) _ (arms_steady first) (λ ps. given d more (At line (DisjGoal (gathered ps)))))

    branches_steady : Stable (rule.branches inner)
    unfolding rule.branches
    branches_steady = bound d more (expect kind.Then) _ (expected d more kind.Then refl) (λ _. bound d more inner _ I (λ t. bound d more (expect kind.Semicolon) _ (expected d more kind.Semicolon refl) (λ _. bound d more inner _ I (λ e. given d more (t, e)))))

    choice_steady : (line : ℕ) (c : HldsGoal) → Stable (rule.choice inner line c)
    unfolding rule.choice
    choice_steady line c = bound d more (rule.branches inner) _ branches_steady (λ b. ending d more kind.Close refl (At line (IfGoal c b.0 b.1)))

    grouped_at : (line : ℕ) (first : HldsGoal) (k : Kind) (i : Input) → kind_at i ≡ k → Same d more i.rest (rule.grouped inner line first k i) (rule.grouped inner line first k (cut d more i))
    grouped_at line first kind.Close i e = passing d more (pure first) i (goes_by i (ap is_final e)) (given d more first)
    grouped_at line first kind.Semicolon i e = disjunction_steady line first i
    grouped_at line first kind.Then i e = choice_steady line first i
    grouped_at line first _ i e = faulty d more i

  open_goal_steady : (room : ℕ) → Stable (rule.open_goal room)
  unfolding rule.open_goal sees
  open_goal_steady zero = by_token d more (λ t i. cond (same_kind t.kind kind.Open) (limit i) (refuse i)) (λ t i e. tested d more i.rest (same_kind t.kind kind.Open) _ _ _ _ (limited d more {A = ℕ} i) (faulty d more {A = ℕ} i))
  open_goal_steady (suc room) = expected d more kind.Open refl

  module _ (room : ℕ) (inner : Parser HldsGoal) (I : Stable inner) where
    group_steady : Stable (rule.group room inner)
    unfolding rule.group
    group_steady = bound d more (rule.open_goal room) _ (open_goal_steady room) (λ line. bound d more inner _ I (λ first. by_token d more (λ t. rule.grouped inner line first t.kind) (λ t i e. grouped_at inner I line first t.kind i (kind_is d more t i e))))

    negation_steady : Stable (rule.negation room inner)
    unfolding rule.negation
    negation_steady = bound d more (expect kind.Not) _ (expected d more kind.Not refl) (λ line. bound d more (rule.open_goal room) _ (open_goal_steady room) (λ _. bound d more inner _ I (λ c. ending d more kind.Close refl (At line (NotGoal c)))))

    quantification_steady : Stable (rule.quantification room inner)
    unfolding rule.quantification
    quantification_steady = bound d more (expect kind.Some) _ (expected d more kind.Some refl) (λ line. bound d more (expect kind.OpenList) _ (expected d more kind.OpenList refl) (λ _. bound d more rule.quantified _ (quantified_steady d more) (λ vs. bound d more (rule.open_goal room) _ (open_goal_steady room) (λ _. bound d more inner _ I (λ c. ending d more kind.Close refl (At line (SomeGoal vs c)))))))

    at_steady : (line : ℕ) (p : Parser GoalExpr) → Stable p → Stable (rule.at room inner line p)
    at_steady line p P = bound d more p (λ t. pure (At line t)) P (λ t. given d more (At line t))

    unit_by_at : (line : ℕ) (k : Kind) (i : Input) → kind_at i ≡ k → Same d more i.rest (rule.unit_by room inner line k i) (rule.unit_by room inner line k (cut d more i))
    unit_by_at line kind.True i e = passing d more (pure (At line (SimpleGoal Succeeds))) i (goes_by i (ap is_final e)) (given d more (At line (SimpleGoal Succeeds)))
    unit_by_at line kind.Fail i e = passing d more (pure (At line (SimpleGoal Fails))) i (goes_by i (ap is_final e)) (given d more (At line (SimpleGoal Fails)))
    unit_by_at line kind.Open i e = group_steady i
    unit_by_at line kind.Not i e = negation_steady i
    unit_by_at line kind.Some i e = quantification_steady i
    unit_by_at line kind.Variable i e = at_steady line rule.relation (relation_steady d more) i
    unit_by_at line kind.Call i e = at_steady line rule.closure_call (closure_call_steady d more) i
    unit_by_at line kind.Name i e = at_steady line rule.call (call_steady d more) i
    unit_by_at line kind.Qualified i e = at_steady line rule.call (call_steady d more) i
    unit_by_at line _ i e = faulty d more i

    pub unit_steady : Stable (rule.unit room inner)
    unfolding rule.unit
    unit_steady = by_token d more (λ t. rule.unit_by room inner t.line t.kind) (λ t i e. unit_by_at t.line t.kind i (kind_is d more t i e))

    units_steady : Stable (rule.units room inner)
    unfolding rule.units rule.units_from same_kind
    units_steady =
        turned d more (rule.units_from room inner) (λ s i. refl)
        (λ n m s i rec. turns_on d more (rule.unit room inner) kind.Comma (λ p. rule.units_from room inner n (s ++ p ∷ [])) (λ p. rule.units_from room inner m (s ++ p ∷ [])) (λ p. pure (s ++ p ∷ [])) i unit_steady refl refl (λ p j lt. rec (s ++ p ∷ []) j lt) (λ p. given d more (s ++ p ∷ []))) []

    conjunction_with_steady : Stable (rule.conjunction_with room inner)
    conjunction_with_steady = bound d more (rule.units room inner) _ units_steady (λ ps. given d more (rule.joined ps))

  pub conjunction_steady : (room : ℕ) → Stable (rule.conjunction room)
  unfolding rule.conjunction
  conjunction_steady zero = conjunction_with_steady zero refuse (faulty d more)
  conjunction_steady (suc room) = conjunction_with_steady (suc room) (rule.conjunction room) (conjunction_steady room)

  pub within_steady : (room : ℕ) → Stable (rule.within room)
  unfolding rule.within
  within_steady zero = faulty d more
  within_steady (suc room) = conjunction_steady room
