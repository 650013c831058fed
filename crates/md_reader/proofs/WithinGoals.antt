-- Rules keep within the limits: goals.
use Rattle.std.proofs.Common.{◌≡◌, ℕ, zero, suc, ◌+◌, List, [], ◌∷◌, ◌++◌, length, refl, Bool, true, false, ap, arith}
use Rattle.md_hlds.specs.HldsGoal.{HldsGoal, At, GoalExpr, SimpleGoal, Succeeds, Fails, DisjGoal, IfGoal, NotGoal, SomeGoal, gathered}
use Rattle.md_token.specs.declared.kind.Kind.{Kind}
use Rattle.md_token.specs.Kinds.{is_final}
use Rattle.md_token.specs.declared.kind.Kind.TheVariants as kind
use Rattle.md_reader.specs.Input.{Input, Parser, ◌>>=◌, ◌>>◌, pure, refuse, limit, standard, token, kind_at, sees, expect}
use Rattle.md_reader.specs.Rules as rule
use Rattle.md_reader.specs.Excess.{Opened, AGoal, AList, Point, opens_list, open_behind, with_comma, has_commas, goals, goal}
use Rattle.md_reader.proofs.Taking.{kind_seen}
use Rattle.md_reader.proofs.Within.{Good, Case, Keeps, Step, bound, given, faulty, faulty_at, over_here, either_by, expected, passed, perhaps, then, ending}
use Rattle.md_reader.proofs.WithinTokens.{any, starts, is_comma, Sits, unexceeded, short, mute, sign_step, open_fits}
use Rattle.md_reader.proofs.WithinLists.{sits_any, flat_step, quantified_keeps, relation_keeps, call_keeps, closure_call_keeps}

-- no list is open directly
abbrev pub is_list : List Opened → Bool
is_list (AList commas ∷ o) = true
is_list o = false

no_comma : (o : List Opened) → is_list o ≡ false → with_comma o ≡ o
no_comma [] e = refl
no_comma (AGoal ∷ o) e = refl
no_comma (AList commas ∷ o) e = absurd (cc)

never_full : (n : ℕ) (o : List Opened) → is_list o ≡ false → has_commas n o ≡ false
never_full n [] e = refl
never_full n (AGoal ∷ o) e = refl
never_full n (AList commas ∷ o) e = absurd (cc)

-- ---- a `(` that opens a goal

not_both : (k : Kind) → starts k ≡ true → opens_list k ≡ false
not_both kind.Name e = absurd (cc)
not_both kind.Qualified e = absurd (cc)
not_both kind.Pred e = absurd (cc)
not_both kind.Call e = absurd (cc)
not_both _ e = refl

goal_step : (room : ℕ) (o : List Opened) → goals o + suc room ≡ standard.goals → Step kind.Open (Sits starts o) (Sits starts (AGoal ∷ o))
goal_step room o e = record {
  live = refl;
  within = λ s t w q.
      unexceeded starts o s t w (short s.last t (open_fits t.kind s.last t.text q))
      (λ p f g. absurd (let h : goals s.around ≡ goals o = ap goals w.around in omega (arith, e, g, h)));
  leads = λ s w. record { around = rw (not_both s.last w.last, w.around) refl; last = refl; ready = refl };
}

open_goal_keeps : (room : ℕ) (o : List Opened) → goals o + room ≡ standard.goals → Keeps (Sits starts o) (rule.open_goal room) (λ _. Sits starts (AGoal ∷ o))
unfolding rule.open_goal
open_goal_keeps zero o e i s g w =
    either_by (λ (_ : ℕ). Sits starts (AGoal ∷ o)) s i (sees kind.Open i) (limit i) (refuse i)
    (λ h. over_here s i (goal (kind_seen kind.Open i h) (not_both s.last w.last) (let q : goals s.around ≡ goals o = ap goals w.around in omega (arith, e, q))))
    (λ h. faulty_at (λ (_ : ℕ). Sits starts (AGoal ∷ o)) s i)
open_goal_keeps (suc room) o e i s g w = expected kind.Open (Sits starts o) (Sits starts (AGoal ∷ o)) (goal_step room o e) i s g w

-- the `)` that closes a goal
close_goal : (o : List Opened) → Step kind.Close (Sits any (AGoal ∷ o)) (Sits any o)
close_goal o = sign_step kind.Close any any (AGoal ∷ o) o refl refl (λ l. refl) refl refl

-- a sign between the parts of a goal
part_step : (k : Kind) (o : List Opened) → is_final k ≡ false → mute k ≡ true → ((l : Kind) → open_behind k l o ≡ o) → starts k ≡ true → is_comma k ≡ false → Step k (Sits any o) (Sits starts o)
part_step k o final m leads e other = flat_step k any starts o final m leads e other

-- ---- goals in parentheses, by the goals inside them

module _ (o : List Opened) (inner : Parser HldsGoal) (I : Keeps (Sits starts (AGoal ∷ o)) inner (λ _. Sits any (AGoal ∷ o))) where
  abbrev In : Point → Type 0
  In = Sits starts (AGoal ∷ o)

  abbrev Out : Point → Type 0
  Out = Sits any (AGoal ∷ o)

  abbrev Done : Point → Type 0
  Done = Sits any o

  semicolon : Step kind.Semicolon Out In
  semicolon = part_step kind.Semicolon (AGoal ∷ o) refl refl (λ l. refl) refl refl

  arms_from_keep : (n : ℕ) (found : List HldsGoal) → Keeps In (rule.arms_from inner n found) (λ _. Done)
  unfolding rule.arms_from
  arms_from_keep zero found = faulty In (λ (_ : List HldsGoal). Done)
  arms_from_keep (suc n) found =
      bound In (λ _. Out) (λ _. Done) inner _ I
      (λ p. perhaps kind.Semicolon Out In semicolon (λ _. Done) (rule.arms_from inner n (found ++ p ∷ [])) (expect kind.Close >> pure (found ++ p ∷ [])) (arms_from_keep n (found ++ p ∷ []))
      (ending kind.Close Out Done (close_goal o) (λ _. Done) (found ++ p ∷ []) (λ s w. w)))

  arms_keep : (first : HldsGoal) → Keeps In (rule.arms inner first) (λ _. Done)
  unfolding rule.arms
  arms_keep first i s g w = arms_from_keep (length i.rest) (first ∷ []) i s g w

  disjunction_keeps : (line : ℕ) (first : HldsGoal) → Keeps Out (rule.disjunction inner line first) (λ _. Done)
  unfolding rule.disjunction
  disjunction_keeps line first = then kind.Semicolon Out In semicolon (λ _. Done) _ (λ _. bound In (λ _. Done) (λ _. Done) (rule.arms inner first) _ (arms_keep first) (λ ps. given Done (λ _. Done) (At line (DisjGoal (gathered ps))) (λ s w. w)))

  branches_keep : Keeps Out (rule.branches inner) (λ _. Out)
  unfolding rule.branches
  branches_keep =
      then kind.Then Out In (part_step kind.Then (AGoal ∷ o) refl refl (λ l. refl) refl refl) (λ _. Out) _
      (λ _. bound In (λ _. Out) (λ _. Out) inner _ I
      (λ t. then kind.Semicolon Out In semicolon (λ _. Out) _ (λ _. bound In (λ _. Out) (λ _. Out) inner _ I (λ e. given Out (λ _. Out) (t, e) (λ s w. w)))))

  choice_keeps : (line : ℕ) (c : HldsGoal) → Keeps Out (rule.choice inner line c) (λ _. Done)
  unfolding rule.choice
  choice_keeps line c = bound Out (λ _. Out) (λ _. Done) (rule.branches inner) _ branches_keep (λ b. ending kind.Close Out Done (close_goal o) (λ _. Done) (At line (IfGoal c b.0 b.1)) (λ s w. w))

  grouped_at : (line : ℕ) (first : HldsGoal) (k : Kind) (i : Input) (s : Point) → kind_at i ≡ k → Good i → Out s → Case (λ _. Done) s i (rule.grouped inner line first k i)
  grouped_at line first kind.Close i s e g w = passed kind.Close Out Done (close_goal o) (λ _. Done) (pure first) i s g w e (given Done (λ _. Done) first (λ s w. w))
  grouped_at line first kind.Semicolon i s e g w = disjunction_keeps line first i s g w
  grouped_at line first kind.Then i s e g w = choice_keeps line first i s g w
  grouped_at line first _ i s e g w = faulty_at (λ (_ : HldsGoal). Done) s i

  module _ (room : ℕ) (few : goals o + room ≡ standard.goals) (flat : is_list o ≡ false) where
    abbrev Here : Point → Type 0
    Here = Sits starts o

    group_keeps : Keeps Here (rule.group room inner) (λ _. Done)
    unfolding rule.group
    group_keeps =
        bound Here (λ _. In) (λ _. Done) (rule.open_goal room) _ (open_goal_keeps room o few)
        (λ line. bound In (λ _. Out) (λ _. Done) inner (λ p i. rule.grouped inner line p (kind_at i) i) I
        (λ p i s g w. grouped_at line p (kind_at i) i s refl g w))

    -- a `(`, what stands inside and the `)`
    inside_keeps : (f : HldsGoal → HldsGoal) → Keeps Here (rule.open_goal room >>= (λ _. inner >>= (λ c. expect kind.Close >> pure (f c)))) (λ _. Done)
    inside_keeps f =
        bound Here (λ _. In) (λ _. Done) (rule.open_goal room) _ (open_goal_keeps room o few)
        (λ _. bound In (λ _. Out) (λ _. Done) inner _ I (λ c. ending kind.Close Out Done (close_goal o) (λ _. Done) (f c) (λ s w. w)))

    negation_keeps : Keeps Here (rule.negation room inner) (λ _. Done)
    unfolding rule.negation
    negation_keeps = then kind.Not Here Here (flat_step kind.Not starts starts o refl refl (λ l. refl) refl refl) (λ _. Done) _ (λ line. inside_keeps (λ c. At line (NotGoal c)))

    quantification_keeps : Keeps Here (rule.quantification room inner) (λ _. Done)
    unfolding rule.quantification
    quantification_keeps =
        then kind.Some Here Done (flat_step kind.Some starts any o refl refl (λ l. refl) refl refl) (λ _. Done) _
        (λ line. then kind.OpenList Done (Sits any (AList 0 ∷ o)) (sign_step kind.OpenList any any o (AList 0 ∷ o) refl refl (λ l. refl) refl refl) (λ _. Done) _
        (λ _. bound (Sits any (AList 0 ∷ o)) (λ _. Here) (λ _. Done) rule.quantified _ (quantified_keeps starts o refl) (λ vs. inside_keeps (λ c. At line (SomeGoal vs c)))))

    at_keeps : (line : ℕ) (p : Parser GoalExpr) → Keeps Done p (λ _. Done) → Keeps Here (rule.at room inner line p) (λ _. Done)
    at_keeps line p a i s g w = bound Done (λ _. Done) (λ _. Done) p (λ t. pure (At line t)) a (λ t. given Done (λ _. Done) (At line t) (λ s w. w)) i s g (sits_any starts o s w)

    word_step : (k : Kind) → is_final k ≡ false → mute k ≡ true → ((l : Kind) → open_behind k l o ≡ o) → is_comma k ≡ false → Step k Here Done
    word_step k final m leads other = flat_step k starts any o final m leads refl other

    unit_at : (line : ℕ) (k : Kind) (i : Input) (s : Point) → kind_at i ≡ k → Good i → Here s → Case (λ _. Done) s i (rule.unit_by room inner line k i)
    unit_at line kind.True i s e g w = passed kind.True Here Done (word_step kind.True refl refl (λ l. refl) refl) (λ _. Done) (pure (At line (SimpleGoal Succeeds))) i s g w e (given Done (λ _. Done) (At line (SimpleGoal Succeeds)) (λ s w. w))
    unit_at line kind.Fail i s e g w = passed kind.Fail Here Done (word_step kind.Fail refl refl (λ l. refl) refl) (λ _. Done) (pure (At line (SimpleGoal Fails))) i s g w e (given Done (λ _. Done) (At line (SimpleGoal Fails)) (λ s w. w))
    unit_at line kind.Open i s e g w = group_keeps i s g w
    unit_at line kind.Not i s e g w = negation_keeps i s g w
    unit_at line kind.Some i s e g w = quantification_keeps i s g w
    unit_at line kind.Variable i s e g w = at_keeps line rule.relation (relation_keeps o) i s g w
    unit_at line kind.Call i s e g w = at_keeps line rule.closure_call (closure_call_keeps o) i s g w
    unit_at line kind.Name i s e g w = at_keeps line rule.call (call_keeps o) i s g w
    unit_at line kind.Qualified i s e g w = at_keeps line rule.call (call_keeps o) i s g w
    unit_at line _ i s e g w = faulty_at (λ (_ : HldsGoal). Done) s i

    unit_keeps : Keeps Here (rule.unit room inner) (λ _. Done)
    unfolding rule.unit
    unit_keeps i s g w = unit_at (token i).line (kind_at i) i s refl g w

    comma_step : Step kind.Comma Done Here
    comma_step = sign_step kind.Comma any starts o o refl refl (λ l. no_comma o flat) refl (never_full standard.items o flat)

    units_from_keep : (n : ℕ) (found : List HldsGoal) → Keeps Here (rule.units_from room inner n found) (λ _. Done)
    unfolding rule.units_from
    units_from_keep zero found = faulty Here (λ (_ : List HldsGoal). Done)
    units_from_keep (suc n) found =
        bound Here (λ _. Done) (λ _. Done) (rule.unit room inner) _ unit_keeps
        (λ p. perhaps kind.Comma Done Here comma_step (λ _. Done) (rule.units_from room inner n (found ++ p ∷ [])) (pure (found ++ p ∷ [])) (units_from_keep n (found ++ p ∷ [])) (given Done (λ _. Done) (found ++ p ∷ []) (λ s w. w)))

    units_keep : Keeps Here (rule.units room inner) (λ _. Done)
    unfolding rule.units
    units_keep i s g w = units_from_keep (length i.rest) [] i s g w

    conjunction_with_keeps : Keeps Here (rule.conjunction_with room inner) (λ _. Done)
    conjunction_with_keeps = bound Here (λ _. Done) (λ _. Done) (rule.units room inner) _ units_keep (λ ps. given Done (λ _. Done) (rule.joined ps) (λ s w. w))

-- so many goals may still be opened
pub conjunction_keeps : (room : ℕ) (o : List Opened) → goals o + room ≡ standard.goals → is_list o ≡ false → Keeps (Sits starts o) (rule.conjunction room) (λ _. Sits any o)
unfolding rule.conjunction
conjunction_keeps zero o few flat = conjunction_with_keeps o refuse (faulty (Sits starts (AGoal ∷ o)) (λ (_ : HldsGoal). Sits any (AGoal ∷ o))) zero few flat
conjunction_keeps (suc room) o few flat = conjunction_with_keeps o (rule.conjunction room) (conjunction_keeps room (AGoal ∷ o) (omega (arith, few)) refl) (suc room) few flat
