-- The number of main: the procedure that `main` names is the first one with the io states.
use Rattle.std.proofs.Common.{◌≡◌, ◌∙◌, refl, ap, sym, subst, ℕ, suc, ◌+◌, ◌<◌, Bool, true, false, cond, List, [], ◌∷◌, length, Option, Some, None, arith}
use Rattle.std.proofs.lemmas.List.{length-map}
use Rattle.md_hlds.specs.Hlds.{Hlds, Procedure, is_called, find_procedure, procedure_called}
use Rattle.md_hlds.specs.Run.{run, main_name, is_finished, is_thrown}
use Rattle.md_dynamic.specs.OfHistory.{IsProfileOf}
use Rattle.md_dynamic.specs.Profile.{ProfileRows}
use Rattle.law_events.specs.History.{history}
use Rattle.md_machine.specs.Ran.{IsRunOf, end_by}
use Rattle.md_machine.specs.declared.ran.Ran.{Ran}
use Rattle.md_profiled.specs.OfRun.{IsProfileOfRun, finishes}
use Rattle.md_modes.specs.Modes.{is_main}
use Rattle.md_det.specs.Main.{main_from, main_of}
use Rattle.law_spelled.proofs.MainLemmas.{named_by_main, called_by_name}
use Rattle.law_events.specs.Table as events
use Rattle.md_static.specs.Tables.{Static, site_table}
use Rattle.md_ports.specs.Ports.{statics_of, proc_of}

found_main : (n : ℕ) (ps : List Procedure) (m : ℕ × Procedure) → find_procedure main_name n ps ≡ Some m → is_main m.1 ≡ true → main_from n ps ≡ Some m.0
found_main n [] m found main = absurd (cc)
found_main n (p ∷ ps) m found main = by (is_called main_name p) (is_main p) refl refl found (λ more. found_main (suc n) ps m more main)
  where
    by : (called is : Bool) → is_called main_name p ≡ called → is_main p ≡ is → cond called (Some (n, p)) (find_procedure main_name (suc n) ps) ≡ Some m
        → (find_procedure main_name (suc n) ps ≡ Some m → main_from (suc n) ps ≡ Some m.0) → cond is (Some n) (main_from (suc n) ps) ≡ Some m.0
    by true true called is found later = cc
    by true false called is found later = absurd (let same : p ≡ m.1 = cc in let two : is_main p ≡ true = rw same main in cc)
    by false true called is found later = absurd (let other = called_by_name p (named_by_main p is) in cc)
    by false false called is found later = later found

-- the main that the checks found is that of the program's site table
pub main_is : (s : Hlds) (n : ℕ) (m : ℕ × Procedure) → main_of s ≡ Some n → procedure_called s main_name ≡ Some m → is_main m.1 ≡ true
    → n ≡ (events.site_table s).main
main_is s n m is found main =
    let here : Some n ≡ Some m.0 = sym is ∙ found_main 0 s.procedures m found main in
    let same : n ≡ m.0 = cc in
    same ∙ sym (ap (λ f. events.number_or_zero (events.number_of f)) found)

length_from : (n k : ℕ) (ps : List Procedure) → main_from n ps ≡ Some k → k < n + length ps
length_from n k [] is = absurd (cc)
length_from n k (p ∷ ps) is = by (is_main p) is (λ more. length_from (suc n) k ps more)
  where
    by : (b : Bool) → cond b (Some n) (main_from (suc n) ps) ≡ Some k → (main_from (suc n) ps ≡ Some k → k < suc n + length ps) → k < n + suc (length ps)
    by true is later = let same : n ≡ k = cc in omega (arith, same)
    by false is later = let below = later is in omega (arith, below)

-- it is one of the tables' procedures
pub main_there : (s : Hlds) (n : ℕ) → main_of s ≡ Some n → n < length (statics_of s).procs
main_there s n is = let below = length_from 0 n s.procedures is in let same = length-map s.procedures (proc_of s) in omega (arith, below, same)

-- the tables and the main that the checks found give the program's site table
pub recorder_begins : (s : Hlds) (tables : Static) (n : ℕ) → tables ≡ statics_of s → main_of s ≡ Some n
    → (m : ℕ × Procedure) × (procedure_called s main_name ≡ Some m) × (is_main m.1 ≡ true)
    → ((program : Hlds) → site_table (statics_of program) (events.number_or_zero (events.number_of (procedure_called program main_name))) ≡ events.site_table program)
    → site_table tables n ≡ events.site_table s
recorder_begins s tables n is main m law =
    ap (λ (t : Static). site_table t n) is
    ∙ (ap (site_table (statics_of s)) (main_is s n m.0 main m.1 m.2) ∙ law s)

-- ---- the profile

ends_alike : (finished thrown : Bool) → finishes (end_by finished thrown) ≡ finished
ends_alike true thrown = refl
ends_alike false true = refl
ends_alike false false = refl

-- what was recorded over these tables is the profile of the run
pub profile_of_run : (s : Hlds) (budget : ℕ) (tables : Static) (finished : Bool) (ran : Ran) (f : ProfileRows) → tables ≡ statics_of s → finished ≡ finishes ran.end → IsRunOf s budget ran
    → IsProfileOf tables (events.site_table s).main (history (run s budget)) finished f → IsProfileOfRun s budget f
profile_of_run s budget tables finished ran f is ends h profile =
    subst (λ (t : Static). IsProfileOf t (events.site_table s).main (history (run s budget)) (is_finished (run s budget)) f) is
    (subst (λ (b : Bool). IsProfileOf tables (events.site_table s).main (history (run s budget)) b f)
    (ends ∙ (ap finishes h.end ∙ ends_alike (is_finished (run s budget)) (is_thrown (run s budget)))) profile)
