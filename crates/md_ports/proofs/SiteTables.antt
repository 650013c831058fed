-- The call sites of the tables are those of the program, and those of its site table.
use Rattle.std.proofs.Common.{◌≡◌, refl, sym, ap, ◌∙◌, ℕ, suc, List, [], ◌∷◌, ◌++◌, length, map, Option, Some, None}
use Rattle.std.proofs.lemmas.List.{length-map, map-append}
use Rattle.md_hlds.specs.HldsGoal.{HldsGoal, At, SimpleGoal, CallGoal, HoCallGoal, ConjGoal, DisjGoal, IfGoal, NotGoal, SomeGoal, HldsGoals, nothing, also, site_lines, goals_lines}
use Rattle.md_hlds.specs.Hlds as hlds
use Rattle.md_hlds.specs.Hlds.{Procedure, Hlds, procedure_called, owned_by}
use Rattle.md_static.specs.declared.entry.Site.{Site}
use Rattle.md_static.specs.Tables.{callee_of, call_site, site_table}
use Rattle.md_trace.specs.PortHistory.{CallSite}
use Rattle.law_events.specs.Table as events
use Rattle.md_ports.specs.Ports.{kind_found, goal_sites, all_sites, sites_from, proc_of, statics_of, owner_and_line}
use Rattle.md_ports.proofs.Lists.{sites-also, sites-parts}

-- a view of call sites over lists that stand behind each other
joined : {A : Type 0} (f : Site → A) (xs ys : List Site) (as' bs : List A) → map f xs ≡ as' → map f ys ≡ bs → map f (xs ++ ys) ≡ as' ++ bs
joined f xs ys as' bs e g = map-append f xs ys ∙ rw (e, g) refl

-- ---- owners and lines

mutual
  lines_goal : (s : Hlds) (o : ℕ) (g : HldsGoal) → map owner_and_line (goal_sites s o g) ≡ map (owned_by o) (site_lines g)
  lines_goal s o (At l (SimpleGoal t)) = refl
  lines_goal s o (At l (CallGoal site q ys)) = refl
  lines_goal s o (At l (HoCallGoal site f ys)) = refl
  lines_goal s o (At l (ConjGoal ps)) = lines_goals s o ps
  lines_goal s o (At l (DisjGoal ps)) = lines_goals s o ps
  lines_goal s o (At l (IfGoal c t e)) =
      ap (map owner_and_line) (sites-parts s o c t e)
      ∙ (joined owner_and_line (goal_sites s o c) (goal_sites s o t ++ goal_sites s o e) _ _ (lines_goal s o c)
      (joined owner_and_line (goal_sites s o t) (goal_sites s o e) _ _ (lines_goal s o t) (lines_goal s o e))
      ∙ sym (map-append (owned_by o) (site_lines c) (site_lines t ++ site_lines e)
      ∙ ap (λ (xs : List (ℕ × ℕ)). map (owned_by o) (site_lines c) ++ xs) (map-append (owned_by o) (site_lines t) (site_lines e))))
  lines_goal s o (At l (NotGoal c)) = lines_goal s o c
  lines_goal s o (At l (SomeGoal vs c)) = lines_goal s o c

  lines_goals : (s : Hlds) (o : ℕ) (gs : HldsGoals) → map owner_and_line (all_sites s o gs) ≡ map (owned_by o) (goals_lines gs)
  lines_goals s o nothing = refl
  lines_goals s o (also g gs) =
      ap (map owner_and_line) (sites-also s o g gs)
      ∙ (joined owner_and_line (goal_sites s o g) (all_sites s o gs) _ _ (lines_goal s o g) (lines_goals s o gs)
      ∙ sym (map-append (owned_by o) (site_lines g) (goals_lines gs)))

lines_from : (s : Hlds) (n : ℕ) (ps : List Procedure) → map owner_and_line (sites_from s n ps) ≡ hlds.sites_from n ps
lines_from s n [] = refl
lines_from s n (p ∷ ps) = joined owner_and_line (goal_sites s n p.body) (sites_from s (suc n) ps) _ _ (lines_goal s n p.body) (lines_from s (suc n) ps)

pub lines_kept : (s : Hlds) → map owner_and_line (statics_of s).sites ≡ hlds.sites_of s
lines_kept s = lines_from s 0 s.procedures

-- ---- the site table

callee_same : (o : Option (ℕ × Procedure)) → callee_of (kind_found o) ≡ events.number_of o
callee_same None = refl
callee_same (Some found) = refl

mutual
  calls_goal : (s : Hlds) (o : ℕ) (g : HldsGoal) → map call_site (goal_sites s o g) ≡ map events.site_alone (events.goal_sites s o g)
  calls_goal s o (At l (SimpleGoal t)) = refl
  calls_goal s o (At l (CallGoal site q ys)) = rw (callee_same (procedure_called s q)) refl
  calls_goal s o (At l (HoCallGoal site f ys)) = refl
  calls_goal s o (At l (ConjGoal ps)) = calls_goals s o ps
  calls_goal s o (At l (DisjGoal ps)) = calls_goals s o ps
  calls_goal s o (At l (IfGoal c t e)) =
      ap (map call_site) (sites-parts s o c t e)
      ∙ (joined call_site (goal_sites s o c) (goal_sites s o t ++ goal_sites s o e) _ _ (calls_goal s o c)
      (joined call_site (goal_sites s o t) (goal_sites s o e) _ _ (calls_goal s o t) (calls_goal s o e))
      ∙ sym (map-append events.site_alone (events.goal_sites s o c) (events.goal_sites s o t ++ events.goal_sites s o e)
      ∙ ap (λ (xs : List CallSite). map events.site_alone (events.goal_sites s o c) ++ xs) (map-append events.site_alone (events.goal_sites s o t) (events.goal_sites s o e))))
  calls_goal s o (At l (NotGoal c)) = calls_goal s o c
  calls_goal s o (At l (SomeGoal vs c)) = calls_goal s o c

  calls_goals : (s : Hlds) (o : ℕ) (gs : HldsGoals) → map call_site (all_sites s o gs) ≡ map events.site_alone (events.goals_sites s o gs)
  calls_goals s o nothing = refl
  calls_goals s o (also g gs) =
      ap (map call_site) (sites-also s o g gs)
      ∙ (joined call_site (goal_sites s o g) (all_sites s o gs) _ _ (calls_goal s o g) (calls_goals s o gs)
      ∙ sym (map-append events.site_alone (events.goal_sites s o g) (events.goals_sites s o gs)))

calls_from : (s : Hlds) (n : ℕ) (ps : List Procedure) → map call_site (sites_from s n ps) ≡ map events.site_alone (events.clause_sites s n ps)
calls_from s n [] = refl
calls_from s n (p ∷ ps) =
    joined call_site (goal_sites s n p.body) (sites_from s (suc n) ps) _ _ (calls_goal s n p.body) (calls_from s (suc n) ps)
    ∙ sym (map-append events.site_alone (events.goal_sites s n p.body) (events.clause_sites s (suc n) ps))

pub table_given : (s : Hlds) (main : ℕ) → site_table (statics_of s) main ≡ record { main = main; procedures = length s.procedures; sites = map events.site_alone (events.program_sites s) }
table_given s main = rw (length-map s.procedures (proc_of s), calls_from s 0 s.procedures) refl
