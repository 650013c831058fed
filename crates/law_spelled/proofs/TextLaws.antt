-- From the tokens of a text to its program.
use Rattle.std.proofs.Common.{IfSome, IsTrue, Option, None, ◌≡◌, refl, subst, ℕ, zero, suc, ◌+◌, ◌≤◌, Bool, true, false, cond, ◌==◌, List, [], ◌∷◌, ◌++◌, map, Some, slice_get, arith, ◌<◌, length, length-append, sym, ap, ◌∙◌}
use Rattle.md_hlds.specs.HldsGoal.{HldsGoal, At, GoalExpr, SimpleGoal, CallGoal, HoCallGoal, ConjGoal, DisjGoal, IfGoal, NotGoal, SomeGoal, HldsGoals, nothing, also, goals_within, goals_below, goals_among, site_lines, expr_lines, goals_lines}
use Rattle.md_hlds.specs.Hlds.{Hlds, Procedure, HldsTypeDef, clause_goals, owned_by, sites_from, sites_of}
use Rattle.md_hlds.specs.Run.{main_name}
use Rattle.md_token.specs.Token.{Lexeme, tokens_of}
use Rattle.md_token.specs.Spelling.{IsSign, IsToken, Cut, line_behind}
use Rattle.md_token.specs.declared.kind.Kind.{Kind}
use Rattle.md_token.proofs.Cuts.{tokens_cut}
use Rattle.md_reader.specs.Rules as rule
use Rattle.md_reader.specs.Grammar.{Spells}
use Rattle.md_token.proofs.Few.{few_tokens}
use Rattle.law_events.specs.Table.{site_alone, program_sites}
use Rattle.law_events.specs.Laws.{owner_of_site, owner_of_pair}
use Rattle.law_events.proofs.RunLaw.{runs_are_histories}
use Rattle.law_events.proofs.SiteLemmas.{found_by_name, owners_agree}
use Rattle.law_spelled.specs.Bounds.{IsNamed, line_of, IsShortType, IsShort}
use Rattle.law_spelled.specs.Laws.{TextsHaveNames, TextsHaveSites, TextsHaveLines, TextsHaveShortNames, TextsHaveFewParts, MainIsCalled, AcceptedTextsHaveMains, AcceptedTextsAreWithinBounds, AcceptedRunsAreHistories}
use Rattle.md_static.specs.Names.{is_name}
use Rattle.law_spelled.proofs.Names.{IsName, token_name, stop_name, bad_name, table_name}
use Rattle.law_spelled.proofs.Leads.{AreSound, AreLined}
use Rattle.law_spelled.proofs.LeadsPrograms.{Every, all_of, every_append, IsGoodType, IsGoodProcedure, Stands, program_is}
use Rattle.law_spelled.proofs.MainLemmas.{main_called, main_has_args}

-- ---- each token of a text has a line

more_lines : (c : Bool) (line : ℕ) → 1 ≤ line → 1 ≤ cond c (line + 1) line
more_lines true line has = omega (arith, has)
more_lines false line has = has

cut_lined : (line : ℕ) (text : List ℕ) (ts : List Lexeme) → Cut line text ts → 1 ≤ line → AreSound ts
cut_lined _ _ _ (Cut.stop line) has = (has, stop_name [], tt)
cut_lined _ _ _ (Cut.blank line b text ts is rest) has = cut_lined (line_behind b line) text ts rest (more_lines (b == 10) line has)
cut_lined _ _ _ (Cut.comment line w text ts is ended rest) has = cut_lined line text ts rest has
cut_lined _ _ _ (Cut.token line k text w after ts is rest) has = (has, token_name after k w is.token, cut_lined line after ts rest has)
cut_lined _ _ _ (Cut.bad line b bytes blank percent is) has = (has, bad_name [], tt)

tokens_lined : (text : List ℕ) → AreSound (tokens_of text)
tokens_lined text = cut_lined 1 text (tokens_of text) (tokens_cut text) (omega arith)

-- what the grammar gives
spelled : (s : Hlds) (text : List ℕ) (p : Hlds) (t : Spells text p) → Stands s p (length (tokens_of text)) t.end
spelled s text p t = program_is s p (rule.start (tokens_of text)) t.end refl (tokens_lined text) refl t.program

-- ---- goals and sites have lines

lined_first : (gs hs : List HldsGoal) → AreLined (gs ++ hs) → AreLined gs
lined_first [] hs l = tt
lined_first (At line x ∷ gs) hs l = (l.0, lined_first gs hs l.1)

lined_second : (gs hs : List HldsGoal) → AreLined (gs ++ hs) → AreLined hs
lined_second [] hs l = l
lined_second (At line x ∷ gs) hs l = lined_second gs hs l.1

abbrev Counts : ℕ → Type 0
Counts n = 1 ≤ n

mutual
  lined_goal : (g : HldsGoal) → AreLined (goals_within g) → Every Counts (site_lines g)
  lined_goal (At line x) l = lined_expr line x l.0 l.1

  lined_expr : (line : ℕ) (x : GoalExpr) → 1 ≤ line → AreLined (goals_below x) → Every Counts (expr_lines line x)
  lined_expr line (SimpleGoal u) has l = tt
  lined_expr line (CallGoal site q ys) has l = (has, tt)
  lined_expr line (HoCallGoal site f ys) has l = (has, tt)
  lined_expr line (ConjGoal ps) has l = lined_goals ps l
  lined_expr line (DisjGoal ps) has l = lined_goals ps l
  lined_expr line (IfGoal c t e) has l =
      let behind = lined_second (goals_within c) (goals_within t ++ goals_within e) l in
      every_append Counts (site_lines c) (site_lines t ++ site_lines e) (lined_goal c (lined_first (goals_within c) (goals_within t ++ goals_within e) l))
      (every_append Counts (site_lines t) (site_lines e) (lined_goal t (lined_first (goals_within t) (goals_within e) behind)) (lined_goal e (lined_second (goals_within t) (goals_within e) behind)))
  lined_expr line (NotGoal c) has l = lined_goal c l
  lined_expr line (SomeGoal vs c) has l = lined_goal c l

  lined_goals : (ps : HldsGoals) → AreLined (goals_among ps) → Every Counts (goals_lines ps)
  lined_goals nothing l = tt
  lined_goals (also p ps) l =
      every_append Counts (site_lines p) (goals_lines ps) (lined_goal p (lined_first (goals_within p) (goals_among ps) l)) (lined_goals ps (lined_second (goals_within p) (goals_among ps) l))

abbrev HasALine : ℕ × ℕ → Type 0
HasALine x = 1 ≤ x.1

owned_lines : (owner : ℕ) (lines : List ℕ) → Every Counts lines → Every HasALine (map (owned_by owner) lines)
owned_lines owner [] e = tt
owned_lines owner (line ∷ lines) e = (e.0, owned_lines owner lines e.1)

sites_lined : (n : ℕ) (ps : List Procedure) → AreLined (clause_goals ps) → Every HasALine (sites_from n ps)
sites_lined n [] l = tt
sites_lined n (p ∷ ps) l =
    every_append HasALine (map (owned_by n) (site_lines p.body)) (sites_from (suc n) ps)
    (owned_lines n (site_lines p.body) (lined_goal p.body (lined_first (goals_within p.body) (clause_goals ps) l)))
    (sites_lined (suc n) ps (lined_second (goals_within p.body) (clause_goals ps) l))

goals_lined : (gs : List HldsGoal) → AreLined gs → Every (λ g. 1 ≤ line_of g) gs
goals_lined [] l = tt
goals_lined (At line x ∷ gs) l = (l.0, goals_lined gs l.1)

-- what holds of each, of another property
every_map : {A : Type 0} (P Q : A → Type 0) (xs : List A) → ((x : A) → P x → Q x) → Every P xs → Every Q xs
every_map P Q [] f e = tt
every_map P Q (x ∷ xs) f e = (f x e.0, every_map P Q xs f e.1)

-- ---- laws

pub texts_have_sites : TextsHaveSites
texts_have_sites text p t = (spelled p text p t).numbers

pub texts_have_lines : TextsHaveLines
texts_have_lines text p t =
    let h = spelled p text p t in
    record {
      heading = h.module_line;
      types = all_of (λ (d : HldsTypeDef). 1 ≤ d.line) p.types (every_map IsGoodType (λ d. 1 ≤ d.line) p.types (λ d g. g.line) h.types);
      procedures = all_of (λ (q : Procedure). (1 ≤ q.line) × (1 ≤ q.clause_line)) p.procedures (every_map IsGoodProcedure (λ q. (1 ≤ q.line) × (1 ≤ q.clause_line)) p.procedures (λ q g. (g.line, g.clause_line)) h.procedures);
      goals = all_of (λ g. 1 ≤ line_of g) (clause_goals p.procedures) (goals_lined (clause_goals p.procedures) h.goals);
      sites = all_of HasALine (sites_of p) (sites_lined 0 p.procedures h.goals);
    }

pub texts_have_short_names : TextsHaveShortNames
texts_have_short_names text p t =
    let h = spelled p text p t in
    record {
      module_name = h.module_name;
      types = all_of IsShortType p.types (every_map IsGoodType IsShortType p.types (λ d g. g.short) h.types);
      procedures = all_of IsShort p.procedures (every_map IsGoodProcedure IsShort p.procedures (λ q g. g.short) h.procedures);
    }

table_qualifier : (o : Option (List ℕ)) → IfSome o IsName → IfSome o (λ m. length m ≤ 255) → IfSome o (λ m. IsTrue (is_name m))
table_qualifier None is short = tt
table_qualifier (Some m) is short = table_name m is short

named : (q : Procedure) → IsGoodProcedure q → IsNamed q
named q g = record { name = table_name q.name g.names.0 g.short.name; qualifier = table_qualifier q.qualifier g.names.1 g.short.qualifier }

pub texts_have_names : TextsHaveNames
texts_have_names text p t =
    let h = spelled p text p t in
    record {
      module_name = table_name p.module_name h.module_is h.module_name;
      procedures = all_of IsNamed p.procedures (every_map IsGoodProcedure IsNamed p.procedures named h.procedures);
    }

length_map : {A B : Type 0} (f : A → B) (xs : List A) → length (map f xs) ≡ length xs
length_map f [] = refl
length_map f (x ∷ xs) = ap suc (length_map f xs)

pub texts_have_few_parts : TextsHaveFewParts
texts_have_few_parts text p t =
    let few = (spelled p text p t).few in
    let all : length (map owner_of_site (map site_alone (program_sites p))) ≡ length (map owner_of_pair (sites_of p)) = ap length (owners_agree p) in
    let sites : length (program_sites p) ≡ length (sites_of p) =
    sym (length_map owner_of_site (map site_alone (program_sites p)) ∙ length_map site_alone (program_sites p)) ∙ all ∙ length_map owner_of_pair (sites_of p) in
    omega (arith, sites, few, few_tokens text)

-- a procedure among good ones
good_at : (ps : List Procedure) (n : ℕ) (p : Procedure) → Every IsGoodProcedure ps → slice_get ps n ≡ Some p → IsGoodProcedure p
good_at [] n p e is = absurd (cc)
good_at (q ∷ ps) zero p e is = let same : q ≡ p = cc in subst IsGoodProcedure same e.0
good_at (q ∷ ps) (suc n) p e is = good_at ps n p e.1 is

pub accepted_texts_have_mains : AcceptedTextsHaveMains
accepted_texts_have_mains text p t modes =
    let m = main_called p t.once modes in
    let good = good_at p.procedures m.0.0 m.0.1 (spelled p text p t).procedures (found_by_name p main_name m.0 m.1) in
    record { number = m.0.0; procedure = m.0.1; called = m.1; variable = good.vars (main_has_args m.0.1 m.2) }

pub main_is_called : MainIsCalled
main_is_called text p t modes = let m = main_called p t.once modes in (m.0, m.1, m.2)

pub accepted_texts_are_within_bounds : AcceptedTextsAreWithinBounds
accepted_texts_are_within_bounds text p budget t modes small = record { main = accepted_texts_have_mains text p t modes; sites = texts_have_sites text p t; small = small }

pub accepted_runs_are_histories : AcceptedRunsAreHistories
accepted_runs_are_histories text p budget t modes small = runs_are_histories p budget (accepted_texts_are_within_bounds text p budget t modes small)
