-- The run of a program leads lawfully on to its end, the budget cuts it to a front, and so its events are a port history.
use Rattle.std.specs.Prelude.{⊤}
use Rattle.std.proofs.Common.{◌∙◌, append_assoc, inl, inr, ◌≡◌, refl, sym, ap, subst, ℕ, suc, ◌+◌, ◌-◌, ◌<◌, ◌≤◌, ◌^◌, Bool, true, false, List, [], ◌∷◌, ◌++◌, length, Option, Some, None, slice_get, nat_le, arith}
use Rattle.std.proofs.lemmas.Bool.{leb-true, false≢true}
use Rattle.md_hlds.specs.Hlds.{Hlds, Procedure, procedure_called}
use Rattle.md_hlds.specs.Value.{Env}
use Rattle.md_hlds.specs.Trace.{Turn, Call, Exit, Redo, Fail, Excp, Alloc, Out, Throw, Answer, Stuck, Deep, Items, first, trace, call_weight}
use Rattle.md_hlds.specs.Run.{cut, cut_turn, is_finished, is_thrown, events, main_name, main_frame, main_items, run_main, run}
use Rattle.md_hlds.proofs.BudgetLemmas.{won, lost}
use Rattle.md_trace.specs.declared.event.Event.{Event}
use Rattle.md_trace.specs.declared.event.Event.TheVariants.{Call as CallOf, Exit as ExitOf, Redo as RedoOf, Fail as FailOf, Excp as ExcpOf, Alloc as AllocOf}
use Rattle.md_trace.specs.PortHistory.{SiteTable, MayFollow, IsPortHistory, current}
use Rattle.md_trace.proofs.Balanced.{links-balanced}
use Rattle.md_trace.proofs.ContextBalance.{contexts-balanced}
use Rattle.md_trace.proofs.Ends.{activations-end, cut-ones-have-exited}
use Rattle.law_events.specs.History.{told, history, call_count}
use Rattle.law_events.specs.Table.{site_table, HasSites, HasMain}
use Rattle.law_events.specs.Laws.{IsWithinBounds, RunsAreHistories, FrontsAreHistories, NextEventsFollow, EndedRunsAreLeft, LinksOfRunsBalance, ContextsOfRunsBalance, ActivationsOfRunsEnd, CutOnesOfRunsHaveExited, EventsAreTold}
use Rattle.law_events.proofs.Goes.{count, Then, Leaves, Goes, leaves_append}
use Rattle.law_events.proofs.Later.{same_parent}
use Rattle.law_events.proofs.TraceLaw.{IsTableOf, goes_trace}
use Rattle.law_events.proofs.SiteLemmas.{found_by_name, table_of, main_in_table, programs_have_tables}

-- nothing runs
abbrev IsLeft : Then
IsLeft left h = current h ≡ None

-- Items each of whose events may follow, to their end: nothing follows an answer, and nothing runs there or after an
-- exception.
abbrev Legal : SiteTable → ℕ → List Event → Items → Type 0
Legal t left h [] = ⊤
Legal t left h (Turn a g w ∷ xs) = w ≤ left → Legal t (left - w) h xs
Legal t left h (Call a p s q ∷ xs) = MayFollow t h (CallOf a p s q) × Legal t left (CallOf a p s q ∷ h) xs
Legal t left h (Exit a ∷ xs) = MayFollow t h (ExitOf a) × Legal t left (ExitOf a ∷ h) xs
Legal t left h (Redo a ∷ xs) = MayFollow t h (RedoOf a) × Legal t left (RedoOf a ∷ h) xs
Legal t left h (Fail a ∷ xs) = MayFollow t h (FailOf a) × Legal t left (FailOf a ∷ h) xs
Legal t left h (Excp a ∷ xs) = MayFollow t h (ExcpOf a) × Legal t left (ExcpOf a ∷ h) xs
Legal t left h (Alloc a w ∷ xs) = MayFollow t h (AllocOf a w) × Legal t left (AllocOf a w ∷ h) xs
Legal t left h (Out bytes ∷ xs) = Legal t left h xs
Legal t left h (Throw bytes ∷ xs) = Leaves t IsLeft left h xs
Legal t left h (Answer e ∷ []) = current h ≡ None
Legal t left h (Answer e ∷ x ∷ xs) = ⊥
Legal t left h (Stuck ∷ xs) = Legal t left h xs
Legal t left h (Deep ∷ xs) = Legal t left h xs

-- a trace up to its first answer, and what follows
legal_first : (t : SiteTable) (found : Env → ℕ → Items) (missed : ℕ → Items) (xs : Items) (k left : ℕ) (h : List Event) → k ≡ count h
    → Goes t (λ e l i. Legal t l i (found e (count i))) (λ l i. Legal t l i (missed (count i))) IsLeft left h xs
    → Legal t left h (first xs k found missed [])
legal_first t found missed [] k left h is g = subst (λ n. Legal t left h (missed n)) (sym is) g
legal_first t found missed (Turn a n w ∷ xs) k left h is g = λ fits. legal_first t found missed xs k (left - w) h is (g fits)
legal_first t found missed (Call a p s q ∷ xs) k left h is g = (g.0, legal_first t found missed xs (suc k) left (CallOf a p s q ∷ h) (ap suc is) g.1)
legal_first t found missed (Exit a ∷ xs) k left h is g = (g.0, legal_first t found missed xs k left (ExitOf a ∷ h) is g.1)
legal_first t found missed (Redo a ∷ xs) k left h is g = (g.0, legal_first t found missed xs k left (RedoOf a ∷ h) is g.1)
legal_first t found missed (Fail a ∷ xs) k left h is g = (g.0, legal_first t found missed xs k left (FailOf a ∷ h) is g.1)
legal_first t found missed (Excp a ∷ xs) k left h is g = (g.0, legal_first t found missed xs k left (ExcpOf a ∷ h) is g.1)
legal_first t found missed (Alloc a w ∷ xs) k left h is g = (g.0, legal_first t found missed xs k left (AllocOf a w ∷ h) is g.1)
legal_first t found missed (Out bytes ∷ xs) k left h is g = legal_first t found missed xs k left h is g
legal_first t found missed (Throw bytes ∷ xs) k left h is g = leaves_append t IsLeft xs [] left h g
legal_first t found missed (Answer e ∷ xs) k left h is g = subst (λ n. Legal t left h (found e n)) (sym is) g
legal_first t found missed (Stuck ∷ xs) k left h is g = tt
legal_first t found missed (Deep ∷ xs) k left h is g = tt

-- ---- what the budget leaves

-- the items after h make a port history, and nothing runs after it where they are finished or thrown
record Stand (t : SiteTable) (h : List Event) (xs : Items) : Type 0 where
  lawful : IsPortHistory t (told xs h)
  finished : is_finished xs ≡ true → current (told xs h) ≡ None
  thrown : is_thrown xs ≡ true → current (told xs h) ≡ None

stand_still : (t : SiteTable) (h : List Event) → IsPortHistory t h → Stand t h []
stand_still t h is = record { lawful = is; finished = λ e. absurd (false≢true e); thrown = λ e. absurd (false≢true e) }

-- exceptions are not cut
stand_excps : (t : SiteTable) (cut_at left : ℕ) (h : List Event) (xs : Items) → IsPortHistory t h → Leaves t IsLeft left h xs
    → IsPortHistory t (told (cut cut_at xs) h) × (current (told (cut cut_at xs) h) ≡ None)
stand_excps t cut_at left h [] is g = (is, g)
stand_excps t cut_at left h (Excp a ∷ xs) is g = stand_excps t cut_at left (ExcpOf a ∷ h) xs (is, g.0) g.1
stand_excps t cut_at left h (Turn a n w ∷ xs) is g = elim g [ ]
stand_excps t cut_at left h (Call a p s q ∷ xs) is g = elim g [ ]
stand_excps t cut_at left h (Exit a ∷ xs) is g = elim g [ ]
stand_excps t cut_at left h (Redo a ∷ xs) is g = elim g [ ]
stand_excps t cut_at left h (Fail a ∷ xs) is g = elim g [ ]
stand_excps t cut_at left h (Alloc a w ∷ xs) is g = elim g [ ]
stand_excps t cut_at left h (Out bytes ∷ xs) is g = elim g [ ]
stand_excps t cut_at left h (Throw bytes ∷ xs) is g = elim g [ ]
stand_excps t cut_at left h (Answer e ∷ xs) is g = elim g [ ]
stand_excps t cut_at left h (Stuck ∷ xs) is g = elim g [ ]
stand_excps t cut_at left h (Deep ∷ xs) is g = elim g [ ]

stand_turn : (t : SiteTable) (left a : ℕ) (g : Option ℕ) (w : ℕ) (h : List Event) (xs : Items) (fits : Bool) → nat_le w left ≡ fits → IsPortHistory t h → (w ≤ left → Stand t h xs)
    → Stand t h (cut_turn a g w xs fits)
stand_turn t left a g w h xs false is lawful rest = stand_still t h lawful
stand_turn t left a g w h xs true is lawful rest =
    let r = rest (leb-true w left is) in
    record { lawful = r.lawful; finished = r.finished; thrown = r.thrown }

stand : (t : SiteTable) (left : ℕ) (h : List Event) (xs : Items) → IsPortHistory t h → Legal t left h xs → Stand t h (cut left xs)
stand t left h [] is g = stand_still t h is
stand t left h (Turn a n w ∷ xs) is g = stand_turn t left a n w h (cut (left - w) xs) (nat_le w left) refl is (λ fits. stand t (left - w) h xs is (g fits))
stand t left h (Call a p s q ∷ xs) is g =
    let r = stand t left (CallOf a p s q ∷ h) xs (is, g.0) g.1 in record { lawful = r.lawful; finished = r.finished; thrown = r.thrown }
stand t left h (Exit a ∷ xs) is g = let r = stand t left (ExitOf a ∷ h) xs (is, g.0) g.1 in record { lawful = r.lawful; finished = r.finished; thrown = r.thrown }
stand t left h (Redo a ∷ xs) is g = let r = stand t left (RedoOf a ∷ h) xs (is, g.0) g.1 in record { lawful = r.lawful; finished = r.finished; thrown = r.thrown }
stand t left h (Fail a ∷ xs) is g = let r = stand t left (FailOf a ∷ h) xs (is, g.0) g.1 in record { lawful = r.lawful; finished = r.finished; thrown = r.thrown }
stand t left h (Excp a ∷ xs) is g = let r = stand t left (ExcpOf a ∷ h) xs (is, g.0) g.1 in record { lawful = r.lawful; finished = r.finished; thrown = r.thrown }
stand t left h (Alloc a w ∷ xs) is g = let r = stand t left (AllocOf a w ∷ h) xs (is, g.0) g.1 in record { lawful = r.lawful; finished = r.finished; thrown = r.thrown }
stand t left h (Out bytes ∷ xs) is g = let r = stand t left h xs is g in record { lawful = r.lawful; finished = r.finished; thrown = r.thrown }
stand t left h (Throw bytes ∷ xs) is g = let r = stand_excps t left left h xs is g in record { lawful = r.0; finished = λ e. r.1; thrown = λ e. r.1 }
stand t left h (Answer e ∷ []) is g = record { lawful = is; finished = λ e. g; thrown = λ e. g }
stand t left h (Answer e ∷ x ∷ xs) is g = absurd g
stand t left h (Stuck ∷ xs) is g = let r = stand t left h xs is g in record { lawful = r.lawful; finished = r.finished; thrown = r.thrown }
stand t left h (Deep ∷ xs) is g = let r = stand t left h xs is g in record { lawful = r.lawful; finished = r.finished; thrown = r.thrown }

-- ---- the run

-- main's call
abbrev begun : ℕ → List Event
begun m = CallOf 0 None None m ∷ []

legal_main : (s : Hlds) (t : SiteTable) (b m : ℕ) (p : Procedure) → IsTableOf s t → t.main ≡ m → slice_get s.procedures m ≡ Some p → 0 < length p.vars → b < 2 ^ 32
    → Legal t b [] (main_items s b (m, p))
legal_main s t b m p table main is variable small = λ fits. (
  (refl, omega arith, refl, (refl, sym main)),
  legal_first t won lost (trace s b (main_frame s (m, p)) [] 1) 1 (b - call_weight p) (begun m) refl
      (goes_trace s t table b m (main_frame s (m, p)) [] None _ _ _ (b - call_weight p) (begun m)
      (record {
        now = refl;
        its = refl;
        sited = (table.clauses m p is, tt);
        callers = refl;
        room = omega (arith, small, variable);
        ends = record {
          answers = λ e l i later. (later.runs, same_parent 0 later (omega arith));
          ends = λ l i later. (later.runs, tt);
          outs = λ l i later. later.runs;
        };
      })),
)

stand_main : (s : Hlds) (b : ℕ) (main : HasMain s) (o : Option (ℕ × Procedure)) → o ≡ Some (main.number, main.procedure) → HasSites s → b < 2 ^ 32
    → Stand (site_table s) [] (run_main s b o)
stand_main s b main o is sites small =
    subst (λ o. Stand (site_table s) [] (run_main s b o)) (sym is)
    (stand (site_table s) b [] (main_items s b (main.number, main.procedure)) (programs_have_tables s main)
    (legal_main s (site_table s) b main.number main.procedure (table_of s sites) (main_in_table s main) (found_by_name s main_name (main.number, main.procedure) main.called) main.variable small))

stand_run : (s : Hlds) (b : ℕ) → IsWithinBounds s b → Stand (site_table s) [] (run s b)
unfolding run
stand_run s b within = stand_main s b within.main (procedure_called s main_name) within.main.called within.sites within.small

pub runs_are_histories : RunsAreHistories
runs_are_histories s b within = let r = stand_run s b within in r.lawful

pub ended_runs_are_left : EndedRunsAreLeft
ended_runs_are_left s b within (inl finished) = let r = stand_run s b within in r.finished finished
ended_runs_are_left s b within (inr thrown) = let r = stand_run s b within in r.thrown thrown

-- ---- fronts

pub told_append : (xs ys : Items) (h : List Event) → told (xs ++ ys) h ≡ told ys (told xs h)
told_append [] ys h = refl
told_append (Turn a n w ∷ xs) ys h = told_append xs ys h
told_append (Call a p s q ∷ xs) ys h = told_append xs ys (CallOf a p s q ∷ h)
told_append (Exit a ∷ xs) ys h = told_append xs ys (ExitOf a ∷ h)
told_append (Redo a ∷ xs) ys h = told_append xs ys (RedoOf a ∷ h)
told_append (Fail a ∷ xs) ys h = told_append xs ys (FailOf a ∷ h)
told_append (Excp a ∷ xs) ys h = told_append xs ys (ExcpOf a ∷ h)
told_append (Alloc a w ∷ xs) ys h = told_append xs ys (AllocOf a w ∷ h)
told_append (Out bytes ∷ xs) ys h = told_append xs ys h
told_append (Throw bytes ∷ xs) ys h = told_append xs ys h
told_append (Answer e ∷ xs) ys h = told_append xs ys h
told_append (Stuck ∷ xs) ys h = told_append xs ys h
told_append (Deep ∷ xs) ys h = told_append xs ys h

-- what comes before a port history's last events is one
pub lawful_before : (t : SiteTable) (xs : Items) (h : List Event) → IsPortHistory t (told xs h) → IsPortHistory t h
lawful_before t [] h is = is
lawful_before t (Turn a n w ∷ xs) h is = lawful_before t xs h is
lawful_before t (Call a p s q ∷ xs) h is = (lawful_before t xs (CallOf a p s q ∷ h) is).0
lawful_before t (Exit a ∷ xs) h is = (lawful_before t xs (ExitOf a ∷ h) is).0
lawful_before t (Redo a ∷ xs) h is = (lawful_before t xs (RedoOf a ∷ h) is).0
lawful_before t (Fail a ∷ xs) h is = (lawful_before t xs (FailOf a ∷ h) is).0
lawful_before t (Excp a ∷ xs) h is = (lawful_before t xs (ExcpOf a ∷ h) is).0
lawful_before t (Alloc a w ∷ xs) h is = (lawful_before t xs (AllocOf a w ∷ h) is).0
lawful_before t (Out bytes ∷ xs) h is = lawful_before t xs h is
lawful_before t (Throw bytes ∷ xs) h is = lawful_before t xs h is
lawful_before t (Answer e ∷ xs) h is = lawful_before t xs h is
lawful_before t (Stuck ∷ xs) h is = lawful_before t xs h is
lawful_before t (Deep ∷ xs) h is = lawful_before t xs h is

pub fronts_are_histories : FrontsAreHistories
fronts_are_histories s b front more within is =
    let whole : IsPortHistory (site_table s) (told (front ++ more) []) = subst (λ xs. IsPortHistory (site_table s) (history xs)) is (runs_are_histories s b within) in
    lawful_before (site_table s) more (history front) (subst (λ h. IsPortHistory (site_table s) h) (told_append front more []) whole)

pub next_events_follow : NextEventsFollow
next_events_follow s b done next more within is =
    let longer : run s b ≡ (done ++ next) ++ more = is ∙ sym (append_assoc done next more) in
    subst (λ h. IsPortHistory (site_table s) h) (told_append done next []) (fronts_are_histories s b (done ++ next) more within longer)

-- ---- calls

pub calls_told : (xs : Items) (h : List Event) → count (told xs h) ≡ call_count xs + count h
calls_told [] h = omega arith
calls_told (Call a p s q ∷ xs) h = omega (arith, calls_told xs (CallOf a p s q ∷ h))
calls_told (Turn a n w ∷ xs) h = calls_told xs h
calls_told (Exit a ∷ xs) h = calls_told xs (ExitOf a ∷ h)
calls_told (Redo a ∷ xs) h = calls_told xs (RedoOf a ∷ h)
calls_told (Fail a ∷ xs) h = calls_told xs (FailOf a ∷ h)
calls_told (Excp a ∷ xs) h = calls_told xs (ExcpOf a ∷ h)
calls_told (Alloc a w ∷ xs) h = calls_told xs (AllocOf a w ∷ h)
calls_told (Out bytes ∷ xs) h = calls_told xs h
calls_told (Throw bytes ∷ xs) h = calls_told xs h
calls_told (Answer e ∷ xs) h = calls_told xs h
calls_told (Stuck ∷ xs) h = calls_told xs h
calls_told (Deep ∷ xs) h = calls_told xs h

-- ---- the balance of a run that has ended

pub links_of_runs_balance : LinksOfRunsBalance
links_of_runs_balance s b l within ended = links-balanced (site_table s) (history (run s b)) l (runs_are_histories s b within) (ended_runs_are_left s b within ended)

pub contexts_of_runs_balance : ContextsOfRunsBalance
contexts_of_runs_balance s b c within ended = contexts-balanced (site_table s) (history (run s b)) c (runs_are_histories s b within) (ended_runs_are_left s b within ended)

-- an activation of the run is one of its history
called_below : (s : Hlds) (b a : ℕ) → a < call_count (run s b) → a < count (history (run s b))
called_below s b a below = omega (arith, below, calls_told (run s b) [])

pub activations_of_runs_end : ActivationsOfRunsEnd
activations_of_runs_end s b a within ended below =
    activations-end (site_table s) (history (run s b)) a (runs_are_histories s b within) (ended_runs_are_left s b within ended) (called_below s b a below)

pub cut_ones_of_runs_have_exited : CutOnesOfRunsHaveExited
cut_ones_of_runs_have_exited s b a within ended below =
    cut-ones-have-exited (site_table s) (history (run s b)) a (runs_are_histories s b within) (ended_runs_are_left s b within ended) (called_below s b a below)

-- ---- the events alone

told_events : (xs : Items) (h : List Event) → told (events xs) h ≡ told xs h
told_events [] h = refl
told_events (Call a p s q ∷ xs) h = told_events xs (CallOf a p s q ∷ h)
told_events (Turn a n w ∷ xs) h = told_events xs h
told_events (Exit a ∷ xs) h = told_events xs (ExitOf a ∷ h)
told_events (Redo a ∷ xs) h = told_events xs (RedoOf a ∷ h)
told_events (Fail a ∷ xs) h = told_events xs (FailOf a ∷ h)
told_events (Excp a ∷ xs) h = told_events xs (ExcpOf a ∷ h)
told_events (Alloc a w ∷ xs) h = told_events xs (AllocOf a w ∷ h)
told_events (Out bytes ∷ xs) h = told_events xs h
told_events (Throw bytes ∷ xs) h = told_events xs h
told_events (Answer e ∷ xs) h = told_events xs h
told_events (Stuck ∷ xs) h = told_events xs h
told_events (Deep ∷ xs) h = told_events xs h

pub events_are_told : EventsAreTold
events_are_told xs = told_events xs []
