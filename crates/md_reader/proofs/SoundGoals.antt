-- What the rules of goals, predicates and programs read is spelled by the grammar.
use Rattle.std.proofs.Common.{◌≡◌, ℕ, zero, suc, List, [], ◌∷◌, ◌++◌, refl, inl, inr, Ok, sym, ◌∙◌, append_assoc, subst}
use Rattle.md_hlds.specs.HldsGoal.{HldsGoal, At, DisjGoal, IfGoal, NotGoal, SomeGoal, gathered}
use Rattle.md_token.specs.declared.kind.Kind.{Kind}
use Rattle.md_token.specs.declared.kind.Kind.TheVariants as kind
use Rattle.md_reader.specs.Input.{Input, Parser, refuse, limit, sees, next, token, kind_at, expect, turns}
use Rattle.md_reader.specs.Rules as rule
use Rattle.md_reader.specs.Grammar as g
use Rattle.md_reader.specs.Grammar.{Is, Sign, sign, Listed, last, also, Enclosed, enclosed, AreNew}
use Rattle.md_reader.proofs.Steps.{bind_ok, closed, made, chosen, ok_value, ok_input, sign_of, eaten, nothing, taken, sign_at}
use Rattle.md_reader.proofs.Sound.{quantified_sound, relation_sound, call_sound, closure_call_sound}

-- ---- goals

-- what the conjunction of the next depth reads is spelled there
abbrev pub InnerSound : (room : ℕ) → Parser HldsGoal → Type 0
InnerSound room inner = (p : HldsGoal) (i j : Input) → inner i ≡ Ok (p, j) → g.Conjunction room p i j

record ArmsFound (room : ℕ) (found ps : List HldsGoal) (i j : Input) : Type 0 where
  pub more : List HldsGoal
  pub end : Input
  pub all : ps ≡ found ++ more
  pub arms : g.Arms room more i end
  pub close : Sign kind.Close end j

arms_found : (room : ℕ) (inner : Parser HldsGoal) → InnerSound room inner → (n : ℕ) (found ps : List HldsGoal) (i j : Input) → rule.arms_from inner n found i ≡ Ok (ps, j) → ArmsFound room found ps i j
unfolding rule.arms_from
arms_found room inner S zero found ps i j h = absurd (cc)
arms_found room inner S (suc n) found ps i j h =
    let a = bind_ok (inner i) _ _ h in
    let p = S a.0.0 i a.0.1 a.1 in
    elim (eaten kind.Semicolon a.0.1 _ _ _ a.2) [
      | inl s ↦
          let f = arms_found room inner S n (found ++ a.0.0 ∷ []) ps (next a.0.1) j s.1 in
          record { more = a.0.0 ∷ f.more; end = f.end; all = f.all ∙ append_assoc found (a.0.0 ∷ []) f.more; arms = g.Arms.also_arm room a.0.0 f.more i a.0.1 (next a.0.1) f.end p s.0 f.arms; close = f.close }
      | inr q ↦
          let b = closed kind.Close (found ++ a.0.0 ∷ []) ps a.0.1 j q in
          record { more = a.0.0 ∷ []; end = a.0.1; all = b.1; arms = g.Arms.last_arm room a.0.0 i a.0.1 p; close = b.0 }
    ]

disjunction_sound : (room line : ℕ) (inner : Parser HldsGoal) → InnerSound room inner → (first p : HldsGoal) (i k m j : Input) → Is (expect kind.Open) line i k → g.Conjunction room first k m → rule.disjunction inner line first m ≡ Ok (p, j) → g.Goal (suc room) p i j
unfolding rule.disjunction rule.arms
disjunction_sound room line inner S first p i k m j o c h =
    let a = bind_ok (expect kind.Semicolon m) _ _ h in
    let b = made (rule.arms inner first) (λ ps. At line (DisjGoal (gathered ps))) p a.0.1 j a.2 in
    let f = arms_found room inner S (turns a.0.1) (first ∷ []) b.0 a.0.1 j b.1 in
    subst (λ (p : HldsGoal). g.Goal (suc room) p i j) (sym b.2)
    (subst (λ (ps : List HldsGoal). g.Goal (suc room) (At line (DisjGoal (gathered ps))) i j) (sym f.all)
    (g.Goal.disjunction room line first f.more i k m a.0.1 f.end j o c (sign_of kind.Semicolon a.0.0 m a.0.1 a.1) f.arms f.close))

choice_sound : (room line : ℕ) (inner : Parser HldsGoal) → InnerSound room inner → (c p : HldsGoal) (i k m j : Input) → Is (expect kind.Open) line i k → g.Conjunction room c k m → rule.choice inner line c m ≡ Ok (p, j) → g.Goal (suc room) p i j
unfolding rule.choice rule.branches
choice_sound room line inner S c p i k m j o d h =
    let w = bind_ok (rule.branches inner m) _ _ h in
    let a = bind_ok (expect kind.Then m) _ _ w.1 in
    let b = bind_ok (inner a.0.1) _ _ a.2 in
    let e = bind_ok (expect kind.Semicolon b.0.1) _ _ b.2 in
    let f = made inner (λ x. (b.0.0, x)) w.0.0 e.0.1 w.0.1 e.2 in
    let z = closed kind.Close (At line (IfGoal c w.0.0.0 w.0.0.1)) p w.0.1 j w.2 in
    subst (λ (p : HldsGoal). g.Goal (suc room) p i j) (sym z.1)
    (subst (λ (x : HldsGoal × HldsGoal). g.Goal (suc room) (At line (IfGoal c x.0 x.1)) i j) (sym f.2)
    (g.Goal.choice room line c b.0.0 f.0 i k m a.0.1 b.0.1 e.0.1 w.0.1 j o d (sign_of kind.Then a.0.0 m a.0.1 a.1) (S b.0.0 a.0.1 b.0.1 b.1) (sign_of kind.Semicolon e.0.0 b.0.1 e.0.1 e.1) (S f.0 e.0.1 w.0.1 f.1) z.0))

grouped_sound : (k : Kind) (room line : ℕ) (inner : Parser HldsGoal) → InnerSound room inner → (first p : HldsGoal) (i l m j : Input) → Is (expect kind.Open) line i l → g.Conjunction room first l m → (token m).kind ≡ k → rule.grouped inner line first k m ≡ Ok (p, j) → g.Goal (suc room) p i j
grouped_sound kind.Close room line inner S first p i l m j o c e h =
    nothing (λ p j. g.Goal (suc room) p i j) first p (next m) j h (g.Goal.parentheses room first i l m (next m) (sign_of kind.Open line i l o) c (sign_at kind.Close m e))
grouped_sound kind.Semicolon room line inner S first p i l m j o c e h = disjunction_sound room line inner S first p i l m j o c h
grouped_sound kind.Then room line inner S first p i l m j o c e h = choice_sound room line inner S first p i l m j o c h
grouped_sound _ room line inner S first p i l m j o c e h = absurd (cc)

group_sound : (room : ℕ) (inner : Parser HldsGoal) → InnerSound room inner → (p : HldsGoal) (i j : Input) → rule.group (suc room) inner i ≡ Ok (p, j) → g.Goal (suc room) p i j
unfolding rule.group rule.open_goal
group_sound room inner S p i j h =
    let a = bind_ok (rule.open_goal (suc room) i) _ _ h in
    let b = bind_ok (inner a.0.1) _ _ a.2 in
    grouped_sound (token b.0.1).kind room a.0.0 inner S b.0.0 p i a.0.1 b.0.1 j a.1 (S b.0.0 a.0.1 b.0.1 b.1) refl b.2

negation_sound : (room : ℕ) (inner : Parser HldsGoal) → InnerSound room inner → (p : HldsGoal) (i j : Input) → rule.negation (suc room) inner i ≡ Ok (p, j) → g.Goal (suc room) p i j
unfolding rule.negation rule.open_goal
negation_sound room inner S p i j h =
    let a = bind_ok (expect kind.Not i) _ _ h in
    let b = bind_ok (rule.open_goal (suc room) a.0.1) _ _ a.2 in
    let c = bind_ok (inner b.0.1) _ _ b.2 in
    let d = closed kind.Close (At a.0.0 (NotGoal c.0.0)) p c.0.1 j c.2 in
    subst (λ (p : HldsGoal). g.Goal (suc room) p i j) (sym d.1)
    (g.Goal.negation room a.0.0 c.0.0 i a.0.1 b.0.1 c.0.1 j a.1 (sign_of kind.Open b.0.0 a.0.1 b.0.1 b.1) (S c.0.0 b.0.1 c.0.1 c.1) d.0)

quantification_sound : (room : ℕ) (inner : Parser HldsGoal) → InnerSound room inner → (p : HldsGoal) (i j : Input) → rule.quantification (suc room) inner i ≡ Ok (p, j) → g.Goal (suc room) p i j
unfolding rule.quantification rule.open_goal
quantification_sound room inner S p i j h =
    let a = bind_ok (expect kind.Some i) _ _ h in
    let b = bind_ok (expect kind.OpenList a.0.1) _ _ a.2 in
    let c = bind_ok (rule.quantified b.0.1) _ _ b.2 in
    let d = bind_ok (rule.open_goal (suc room) c.0.1) _ _ c.2 in
    let e = bind_ok (inner d.0.1) _ _ d.2 in
    let f = closed kind.Close (At a.0.0 (SomeGoal c.0.0 e.0.0)) p e.0.1 j e.2 in
    subst (λ (p : HldsGoal). g.Goal (suc room) p i j) (sym f.1)
    (g.Goal.quantification room a.0.0 c.0.0 e.0.0 i a.0.1 b.0.1 c.0.1 d.0.1 e.0.1 j a.1 (sign_of kind.OpenList b.0.0 a.0.1 b.0.1 b.1) (quantified_sound c.0.0 b.0.1 c.0.1 c.1) (sign_of kind.Open d.0.0 c.0.1 d.0.1 d.1) (S e.0.0 d.0.1 e.0.1 e.1) f.0)

unopened : (i : Input) (x : ℕ × Input) → rule.open_goal zero i ≡ Ok x → ⊥
unfolding rule.open_goal
unopened i x h = elim (chosen (sees kind.Open i) (limit i) (refuse i) (Ok x) h) [ inl l ↦ cc | inr r ↦ cc ]

-- where no goal may be opened, none is
no_group : (inner : Parser HldsGoal) (p : HldsGoal) (i j : Input) → rule.group zero inner i ≡ Ok (p, j) → ⊥
unfolding rule.group rule.open_goal
no_group inner p i j h = let a = bind_ok (rule.open_goal zero i) _ _ h in unopened i a.0 a.1

no_negation : (inner : Parser HldsGoal) (p : HldsGoal) (i j : Input) → rule.negation zero inner i ≡ Ok (p, j) → ⊥
unfolding rule.negation
no_negation inner p i j h =
    let a = bind_ok (expect kind.Not i) _ _ h in
    let b = bind_ok (rule.open_goal zero a.0.1) _ _ a.2 in
    unopened a.0.1 b.0 b.1

no_quantification : (inner : Parser HldsGoal) (p : HldsGoal) (i j : Input) → rule.quantification zero inner i ≡ Ok (p, j) → ⊥
unfolding rule.quantification
no_quantification inner p i j h =
    let a = bind_ok (expect kind.Some i) _ _ h in
    let b = bind_ok (expect kind.OpenList a.0.1) _ _ a.2 in
    let c = bind_ok (rule.quantified b.0.1) _ _ b.2 in
    let d = bind_ok (rule.open_goal zero c.0.1) _ _ c.2 in
    unopened c.0.1 d.0 d.1

-- what may be inside a goal that is opened with so much room
abbrev pub WithinSound : ℕ → Parser HldsGoal → Type 0
WithinSound zero inner = Unit {0}
WithinSound (suc room) inner = InnerSound room inner

group_any : (room : ℕ) (inner : Parser HldsGoal) → WithinSound room inner → (p : HldsGoal) (i j : Input) → rule.group room inner i ≡ Ok (p, j) → g.Goal room p i j
group_any zero inner S p i j h = absurd (no_group inner p i j h)
group_any (suc room) inner S p i j h = group_sound room inner S p i j h

negation_any : (room : ℕ) (inner : Parser HldsGoal) → WithinSound room inner → (p : HldsGoal) (i j : Input) → rule.negation room inner i ≡ Ok (p, j) → g.Goal room p i j
negation_any zero inner S p i j h = absurd (no_negation inner p i j h)
negation_any (suc room) inner S p i j h = negation_sound room inner S p i j h

quantification_any : (room : ℕ) (inner : Parser HldsGoal) → WithinSound room inner → (p : HldsGoal) (i j : Input) → rule.quantification room inner i ≡ Ok (p, j) → g.Goal room p i j
quantification_any zero inner S p i j h = absurd (no_quantification inner p i j h)
quantification_any (suc room) inner S p i j h = quantification_sound room inner S p i j h

unit_sound_by : (k : Kind) (room : ℕ) (inner : Parser HldsGoal) → WithinSound room inner → (p : HldsGoal) (i j : Input) → kind_at i ≡ k → rule.unit_by room inner (token i).line k i ≡ Ok (p, j) → g.Goal room p i j
unit_sound_by kind.True room inner S p i j e h = nothing (λ p j. g.Goal room p i j) _ p (next i) j h (g.Goal.true room (token i).line i (next i) (taken kind.True i e))
unit_sound_by kind.Fail room inner S p i j e h = nothing (λ p j. g.Goal room p i j) _ p (next i) j h (g.Goal.fail room (token i).line i (next i) (taken kind.Fail i e))
unit_sound_by kind.Open room inner S p i j e h = group_any room inner S p i j h
unit_sound_by kind.Not room inner S p i j e h = negation_any room inner S p i j h
unit_sound_by kind.Some room inner S p i j e h = quantification_any room inner S p i j h
unit_sound_by kind.Variable room inner S p i j e h = let b = made rule.relation (At (token i).line) p i j h in subst (λ (p : HldsGoal). g.Goal room p i j) (sym b.2) (g.Goal.relation room b.0 i j (relation_sound b.0 i j b.1))
unit_sound_by kind.Call room inner S p i j e h = let b = made rule.closure_call (At (token i).line) p i j h in subst (λ (p : HldsGoal). g.Goal room p i j) (sym b.2) (g.Goal.closure_call room b.0 i j (closure_call_sound b.0 i j b.1))
unit_sound_by kind.Name room inner S p i j e h = let b = made rule.call (At (token i).line) p i j h in subst (λ (p : HldsGoal). g.Goal room p i j) (sym b.2) (g.Goal.call room b.0 i j (call_sound b.0 i j b.1))
unit_sound_by kind.Qualified room inner S p i j e h = let b = made rule.call (At (token i).line) p i j h in subst (λ (p : HldsGoal). g.Goal room p i j) (sym b.2) (g.Goal.call room b.0 i j (call_sound b.0 i j b.1))
unit_sound_by _ room inner S p i j e h = absurd (cc)

unit_sound : (room : ℕ) (inner : Parser HldsGoal) → WithinSound room inner → (p : HldsGoal) (i j : Input) → rule.unit room inner i ≡ Ok (p, j) → g.Goal room p i j
unfolding rule.unit
unit_sound room inner S p i j h = unit_sound_by (kind_at i) room inner S p i j refl h

record UnitsFound (room : ℕ) (found ps : List HldsGoal) (i j : Input) : Type 0 where
  pub more : List HldsGoal
  pub all : ps ≡ found ++ more
  pub units : g.Units room more i j

units_found : (room : ℕ) (inner : Parser HldsGoal) → WithinSound room inner → (n : ℕ) (found ps : List HldsGoal) (i j : Input) → rule.units_from room inner n found i ≡ Ok (ps, j) → UnitsFound room found ps i j
unfolding rule.units_from
units_found room inner S zero found ps i j h = absurd (cc)
units_found room inner S (suc n) found ps i j h =
    let a = bind_ok (rule.unit room inner i) _ _ h in
    let u = unit_sound room inner S a.0.0 i a.0.1 a.1 in
    elim (eaten kind.Comma a.0.1 _ _ _ a.2) [
      | inl s ↦
          let f = units_found room inner S n (found ++ a.0.0 ∷ []) ps (next a.0.1) j s.1 in
          record { more = a.0.0 ∷ f.more; all = f.all ∙ append_assoc found (a.0.0 ∷ []) f.more; units = g.Units.also room a.0.0 f.more i a.0.1 (next a.0.1) j u s.0 f.units }
      | inr q ↦
          record { more = a.0.0 ∷ []; all = sym (ok_value (found ++ a.0.0 ∷ []) ps a.0.1 j q); units = subst (λ (m : Input). g.Units room (a.0.0 ∷ []) i m) (ok_input (found ++ a.0.0 ∷ []) ps a.0.1 j q) (g.Units.last room a.0.0 i a.0.1 u) }
    ]

conjunction_with_sound : (room : ℕ) (inner : Parser HldsGoal) → WithinSound room inner → InnerSound room (rule.conjunction_with room inner)
unfolding rule.units
conjunction_with_sound room inner S p i j h =
    let b = made (rule.units room inner) rule.joined p i j h in
    let f = units_found room inner S (turns i) [] b.0 i j b.1 in
    subst (λ (p : HldsGoal). g.Conjunction room p i j) (sym b.2)
    (subst (λ (ps : List HldsGoal). g.Conjunction room (rule.joined ps) i j) (sym f.all) (g.Conjunction.conjunction room f.more i j f.units))

pub conjunction_sound : (room : ℕ) → InnerSound room (rule.conjunction room)
unfolding rule.conjunction
conjunction_sound zero = conjunction_with_sound zero refuse tt
conjunction_sound (suc room) = conjunction_with_sound (suc room) (rule.conjunction room) (conjunction_sound room)
