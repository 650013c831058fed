-- Goals and conjunctions: the call sites of a goal get the next numbers, in text order, and each goal within it has a line.
use Rattle.std.proofs.Common.{◌≡◌, refl, sym, subst, ℕ, ◌<◌, ◌≤◌, false, List, [], ◌∷◌, ◌++◌, length, ◌⊎◌, inl, inr, arith, append-nil}
use Rattle.md_hlds.specs.HldsGoal.{HldsGoal, At, GoalExpr, ConjGoal, gathered, goals_within, goals_among}
use Rattle.md_hlds.specs.Hlds.{Hlds}
use Rattle.md_token.specs.declared.kind.Kind.{Kind}
use Rattle.md_token.specs.declared.kind.Kind.TheVariants as kind
use Rattle.md_token.specs.Kinds.{same_kind}
use Rattle.md_reader.specs.Input.{Input, token, kind_at, expect}
use Rattle.md_reader.specs.Rules as rule
use Rattle.md_reader.specs.Grammar as g
use Rattle.md_reader.specs.Grammar.{Is, Sign, Goal, Units, Conjunction, Arms}
use Rattle.md_reader.proofs.Taking.{expected, expected_line}
use Rattle.md_trace.specs.PortHistory.{CallSite}
use Rattle.law_events.specs.Table.{goal_sites, goals_sites}
use Rattle.law_spelled.proofs.Leads.{AreSound, AreLined, Leads, leads_then, after, before, sign_steady, expect_steady, line_at}
use Rattle.law_spelled.proofs.LeadsTerms.{quantified_steady, relation_is, plain_leads, call_leads, closure_call_leads, call_kind, closure_call_kind}

-- a goal around goals
pub around : (line : ℕ) (x : GoalExpr) {i j : Input} {xs : List (ℕ × CallSite)} {gs : List HldsGoal} → (AreSound i.rest → 1 ≤ line) → Leads i j xs gs → Leads i j xs (At line x ∷ gs)
around line x has l = record { limits = l.limits; numbers = l.numbers; sites = l.sites; lines = l.lines; goals = λ h. (has h, l.goals h); vars = l.vars; fewer = l.fewer }

-- the line of a token of a kind that was taken
pub line_expected : (k : Kind) (line : ℕ) (i j : Input) → Is (expect k) line i j → same_kind k kind.Stop ≡ false → AreSound i.rest → 1 ≤ line
line_expected k line i j is not_stop h = subst (λ (n : ℕ). 1 ≤ n) (expected_line k line i j is) (line_at k i (expected k line i j is).is not_stop h)

pub named_line : (i : Input) → (kind_at i ≡ kind.Name) ⊎ (kind_at i ≡ kind.Qualified) → AreSound i.rest → 1 ≤ (token i).line
unfolding same_kind
named_line i (inl is) h = line_at kind.Name i is refl h
named_line i (inr is) h = line_at kind.Qualified i is refl h

-- the first goal's line is that of its conjunction
first_lined : (p : HldsGoal) (gs : List HldsGoal) → AreLined (goals_within p ++ gs) → 1 ≤ rule.line_of p
first_lined (At line x) gs lined = lined.0

module _ (s : Hlds) (owner : ℕ) where
  abbrev GoalLeads : HldsGoal → Input → Input → Type 0
  GoalLeads p i j = Leads i j (goal_sites s owner p) (goals_within p)

  abbrev AllLead : List HldsGoal → Input → Input → Type 0
  AllLead ps i j = Leads i j (goals_sites s owner (gathered ps)) (goals_among (gathered ps))

  one_leads : (p : HldsGoal) (i j : Input) → GoalLeads p i j → AllLead (p ∷ []) i j
  one_leads p i j l =
      subst (λ (ys : List (ℕ × CallSite)). Leads i j ys (goals_within p ++ [])) (sym (append-nil (goal_sites s owner p)))
      (subst (λ (hs : List HldsGoal). Leads i j (goal_sites s owner p) hs) (sym (append-nil (goals_within p))) l)

  one_alone : (p : HldsGoal) (i j : Input) → AllLead (p ∷ []) i j → GoalLeads p i j
  one_alone p i j l =
      subst (λ (ys : List (ℕ × CallSite)). Leads i j ys (goals_within p)) (append-nil (goal_sites s owner p))
      (subst (λ (hs : List HldsGoal). Leads i j (goal_sites s owner p ++ []) hs) (append-nil (goals_within p)) l)

  -- a conjunction of more than one unit
  conjunction_leads : (p q : HldsGoal) (ps : List HldsGoal) (i j : Input) → AllLead (p ∷ q ∷ ps) i j → GoalLeads (rule.joined (p ∷ q ∷ ps)) i j
  conjunction_leads p q ps i j l = around (rule.line_of p) (ConjGoal (gathered (p ∷ q ∷ ps))) (λ h. first_lined p (goals_among (gathered (q ∷ ps))) (l.goals h)) l

  joined_leads : (ps : List HldsGoal) (i j : Input) → 0 < length ps → AllLead ps i j → GoalLeads (rule.joined ps) i j
  joined_leads [] i j some l = absurd (omega (arith, some))
  joined_leads (p ∷ []) i j some l = one_alone p i j l
  joined_leads (p ∷ q ∷ ps) i j some l = conjunction_leads p q ps i j l

  units_some : (room : ℕ) (ps : List HldsGoal) (i j : Input) → Units room ps i j → 0 < length ps
  units_some room _ _ _ (g.Units.last _ p i j is) = omega arith
  units_some room _ _ _ (g.Units.also _ p ps i j k m is mark rest) = omega arith

  mutual
    unfolding same_kind

    pub goal_leads : (room : ℕ) (p : HldsGoal) (i j : Input) → Goal room p i j → GoalLeads p i j
    goal_leads _ _ _ _ (g.Goal.true room line i j is) = around line _ (line_expected kind.True line i j is refl) (expect_steady kind.True line i j is)
    goal_leads _ _ _ _ (g.Goal.fail room line i j is) = around line _ (line_expected kind.Fail line i j is refl) (expect_steady kind.Fail line i j is)
    goal_leads _ _ _ _ (g.Goal.relation room t i j is) =
        let r = relation_is t i j is in
        around (token i).line t (line_at kind.Variable i r.2 refl) (plain_leads s owner t i j r.0 r.1)
    goal_leads _ _ _ _ (g.Goal.call room t i j is) = around (token i).line t (named_line i (call_kind t i j is)) (call_leads s owner t i j is)
    goal_leads _ _ _ _ (g.Goal.closure_call room t i j is) =
        around (token i).line t (line_at kind.Call i (closure_call_kind t i j is) refl) (closure_call_leads s owner t i j is)
    goal_leads _ _ _ _ (g.Goal.parentheses room p i j k m opening is closing_sign) =
        before (after (sign_steady kind.Open i j opening) (conjunction_is room p j k is)) (sign_steady kind.Close k m closing_sign)
    goal_leads _ _ _ _ (g.Goal.disjunction room line p ps i j k m n o opening is mark arms closing_sign) =
        around line _ (line_expected kind.Open line i j opening refl)
        (after (expect_steady kind.Open line i j opening)
        (before (leads_then (conjunction_is room p j k is) (after (sign_steady kind.Semicolon k m mark) (arms_lead room ps m n arms))) (sign_steady kind.Close n o closing_sign)))
    goal_leads _ _ _ _ (g.Goal.choice room line c t e i j k m n o p q opening is then' this semicolon that closing_sign) =
        around line _ (line_expected kind.Open line i j opening refl)
        (after (expect_steady kind.Open line i j opening)
        (leads_then (conjunction_is room c j k is)
        (after (sign_steady kind.Then k m then')
        (leads_then (conjunction_is room t m n this)
        (after (sign_steady kind.Semicolon n o semicolon) (before (conjunction_is room e o p that) (sign_steady kind.Close p q closing_sign)))))))
    goal_leads _ _ _ _ (g.Goal.negation room line c i j k m n not' opening is closing_sign) =
        around line _ (line_expected kind.Not line i j not' refl)
        (after (expect_steady kind.Not line i j not') (after (sign_steady kind.Open j k opening) (before (conjunction_is room c k m is) (sign_steady kind.Close m n closing_sign))))
    goal_leads _ _ _ _ (g.Goal.quantification room line vs c i j k m n o p some list quantified opening is closing_sign) =
        around line _ (line_expected kind.Some line i j some refl)
        (after (expect_steady kind.Some line i j some)
        (after (sign_steady kind.OpenList j k list)
        (after (quantified_steady vs k m quantified)
        (after (sign_steady kind.Open m n opening) (before (conjunction_is room c n o is) (sign_steady kind.Close o p closing_sign))))))

    units_lead : (room : ℕ) (ps : List HldsGoal) (i j : Input) → Units room ps i j → AllLead ps i j
    units_lead _ _ _ _ (g.Units.last room p i j is) = one_leads p i j (goal_leads room p i j is)
    units_lead _ _ _ _ (g.Units.also room p ps i j k m is mark rest) =
        leads_then (goal_leads room p i j is) (after (sign_steady kind.Comma j k mark) (units_lead room ps k m rest))

    pub conjunction_is : (room : ℕ) (p : HldsGoal) (i j : Input) → Conjunction room p i j → GoalLeads p i j
    conjunction_is _ _ _ _ (g.Conjunction.conjunction room ps i j is) = joined_leads ps i j (units_some room ps i j is) (units_lead room ps i j is)

    arms_lead : (room : ℕ) (ps : List HldsGoal) (i j : Input) → Arms room ps i j → AllLead ps i j
    arms_lead _ _ _ _ (g.Arms.last_arm room p i j is) = one_leads p i j (conjunction_is room p i j is)
    arms_lead _ _ _ _ (g.Arms.also_arm room p ps i j k m is mark rest) =
        leads_then (conjunction_is room p i j is) (after (sign_steady kind.Semicolon j k mark) (arms_lead room ps k m rest))
