-- In a finished run of an accepted program nothing is awaited at its end: what was used is what was made.
use Rattle.std.proofs.Common.{◌≡◌, refl, sym, ap, ◌∙◌, subst, arith, ℕ, suc, ◌+◌, ◌-◌, ◌<◌, ◌^◌, Bool, true, false, List, [], ◌∷◌, ◌++◌, Option, Some, None, slice_get, nat_le}
use Rattle.std.specs.Prelude.{⊤}
use Rattle.md_hlds.specs.Hlds.{Hlds, Procedure, body_number, procedure_called}
use Rattle.md_hlds.specs.Value.{Env}
use Rattle.md_hlds.specs.Trace.{Item, Turn, Call, Exit, Redo, Fail, Excp, Alloc, Out, Throw, Answer, Stuck, Deep, Items, first, trace, call_weight}
use Rattle.md_hlds.specs.Run.{cut, cut_turn, main_name, main_frame, run_main, run, is_finished}
use Rattle.md_hlds.proofs.DepthLemmas.{AreExcps}
use Rattle.md_reader.specs.Grammar.{Spells}
use Rattle.md_modes.specs.Modes.{mode_fault}
use Rattle.md_det.specs.Faults.{det_fault}
use Rattle.md_trace.specs.declared.event.Event.{Event}
use Rattle.md_trace.specs.declared.event.Event.TheVariants.{Call as CallOf, Exit as ExitOf, Redo as RedoOf, Fail as FailOf, Excp as ExcpOf, Alloc as AllocOf}
use Rattle.md_trace.specs.Activation.{Activation, activations, numbered}
use Rattle.md_trace.specs.PortHistory.{SiteTable, IsPortHistory}
use Rattle.md_trace.proofs.Numbered.{numbered-new, numbered-more, numbered-below}
use Rattle.law_events.specs.History.{told, history}
use Rattle.law_events.specs.Laws.{IsWithinBounds}
use Rattle.law_events.specs.Table.{site_table}
use Rattle.law_events.proofs.RunLaw.{lawful_before, runs_are_histories}
use Rattle.law_events.proofs.SiteLemmas.{found_by_name}
use Rattle.law_spelled.proofs.TextLaws.{accepted_texts_are_within_bounds}
use Rattle.law_safety.specs.Unfolding.{main_job, here}
use Rattle.law_safety.proofs.Items.{Fine}
use Rattle.law_safety.proofs.Whole.{accepted, proper, main_fine}
use Rattle.law_safety.proofs.OneMain.{one_main}
use Rattle.law_safety.proofs.TurnsFit.{turns_fit}
use Rattle.law_turns.proofs.Spots.{ByEnd, ByCall, Begins, ExitsOf, body_at}
use Rattle.law_turns.proofs.Flow.{Token, Weight, weigh, to_effect, of_cause, uses, makes, Mark, marks_use, marks_make, exit_uses, exit_makes, items_use, items_make, Awaits, awaits_item, Leads}
use Rattle.law_turns.proofs.Places.{begun_is, ended_is, by_call_is, exits_of_is}
use Rattle.law_turns.proofs.Sited.{are_sited}
use Rattle.law_turns.proofs.TraceFlow.{trace_flows}

-- ---- the calls of a run are its activations

abbrev pub AllAgree : List Activation → Items → Type 0
AllAgree acts [] = ⊤
AllAgree acts (Call a p x q ∷ xs) = (numbered acts a ≡ Some (record { parent = p; site = x; procedure = q })) × AllAgree acts xs
AllAgree acts (x ∷ xs) = AllAgree acts xs

-- an activation stays
stays : (xs : Items) (h : List Event) (a : ℕ) (y : Activation) → numbered (activations h) a ≡ Some y → numbered (activations (told xs h)) a ≡ Some y
stays [] h a y is = is
stays (Call b p x q ∷ xs) h a y is =
    stays xs (CallOf b p x q ∷ h) a y (numbered-more (record { parent = p; site = x; procedure = q }) (activations h) a (numbered-below (activations h) a y is) ∙ is)
stays (Exit b ∷ xs) h a y is = stays xs (ExitOf b ∷ h) a y is
stays (Redo b ∷ xs) h a y is = stays xs (RedoOf b ∷ h) a y is
stays (Fail b ∷ xs) h a y is = stays xs (FailOf b ∷ h) a y is
stays (Excp b ∷ xs) h a y is = stays xs (ExcpOf b ∷ h) a y is
stays (Alloc b w ∷ xs) h a y is = stays xs (AllocOf b w ∷ h) a y is
stays (Turn b g w ∷ xs) h a y is = stays xs h a y is
stays (Out bytes ∷ xs) h a y is = stays xs h a y is
stays (Throw bytes ∷ xs) h a y is = stays xs h a y is
stays (Answer e ∷ xs) h a y is = stays xs h a y is
stays (Stuck ∷ xs) h a y is = stays xs h a y is
stays (Deep ∷ xs) h a y is = stays xs h a y is

pub agree_told : (t : SiteTable) (xs : Items) (h : List Event) → IsPortHistory t (told xs h) → AllAgree (activations (told xs h)) xs
agree_told t [] h is = tt
agree_told t (Call a p x q ∷ xs) h is =
    let here' : IsPortHistory t (CallOf a p x q ∷ h) = lawful_before t xs (CallOf a p x q ∷ h) is in
    let number = here'.1.0 in
    let new : numbered (activations (CallOf a p x q ∷ h)) a ≡ Some (record { parent = p; site = x; procedure = q }) =
    ap (λ (i : ℕ). numbered (activations (CallOf a p x q ∷ h)) i) number ∙ numbered-new (record { parent = p; site = x; procedure = q }) (activations h) in
    (stays xs (CallOf a p x q ∷ h) a (record { parent = p; site = x; procedure = q }) new, agree_told t xs (CallOf a p x q ∷ h) is)
agree_told t (Exit b ∷ xs) h is = agree_told t xs (ExitOf b ∷ h) is
agree_told t (Redo b ∷ xs) h is = agree_told t xs (RedoOf b ∷ h) is
agree_told t (Fail b ∷ xs) h is = agree_told t xs (FailOf b ∷ h) is
agree_told t (Excp b ∷ xs) h is = agree_told t xs (ExcpOf b ∷ h) is
agree_told t (Alloc b w ∷ xs) h is = agree_told t xs (AllocOf b w ∷ h) is
agree_told t (Turn b g w ∷ xs) h is = agree_told t xs h is
agree_told t (Out bytes ∷ xs) h is = agree_told t xs h is
agree_told t (Throw bytes ∷ xs) h is = agree_told t xs h is
agree_told t (Answer e ∷ xs) h is = agree_told t xs h is
agree_told t (Stuck ∷ xs) h is = agree_told t xs h is
agree_told t (Deep ∷ xs) h is = agree_told t xs h is

-- ---- a finished run comes to its answer

abbrev won : Env → ℕ → Items
won e k = Exit 0 ∷ Answer e ∷ []

abbrev lost : ℕ → Items
lost k = Fail 0 ∷ []

-- items put before others, the first of them deepest
abbrev onto : Items → Items → Items
onto [] done = done
onto (x ∷ xs) done = onto xs (x ∷ done)

record Reached (good : Env → ℕ → Items → Type 0) (all : Items) (done : Items) : Type 0 where
  before : Items
  answer : Env
  next : ℕ
  is : all ≡ before ++ won answer next
  holds : good answer next (onto before done)

one_before : (good : Env → ℕ → Items → Type 0) (x : Item) (all : Items) (done : Items) → Reached good all (x ∷ done) → Reached good (x ∷ all) done
one_before good x all done h = record { before = x ∷ h.before; answer = h.answer; next = h.next; is = ap (λ ys. x ∷ ys) h.is; holds = h.holds }

never_false : {A : Type 0} → false ≡ true → A
never_false is = absurd (cc is)

excps_unfinished : (left : ℕ) (xs : Items) → AreExcps xs → is_finished (cut left (xs ++ [])) ≡ true → ⊥
excps_unfinished left [] h is = never_false is
excps_unfinished left (Excp a ∷ xs) h is = excps_unfinished left xs h is
excps_unfinished left (Turn a g w ∷ xs) h is = elim h [ ]
excps_unfinished left (Call a p x q ∷ xs) h is = elim h [ ]
excps_unfinished left (Exit a ∷ xs) h is = elim h [ ]
excps_unfinished left (Redo a ∷ xs) h is = elim h [ ]
excps_unfinished left (Fail a ∷ xs) h is = elim h [ ]
excps_unfinished left (Alloc a w ∷ xs) h is = elim h [ ]
excps_unfinished left (Out bytes ∷ xs) h is = elim h [ ]
excps_unfinished left (Throw bytes ∷ xs) h is = elim h [ ]
excps_unfinished left (Answer e ∷ xs) h is = elim h [ ]
excps_unfinished left (Stuck ∷ xs) h is = elim h [ ]
excps_unfinished left (Deep ∷ xs) h is = elim h [ ]

reached_turn : (acts : List Activation) (good : Env → ℕ → Items → Type 0) (a : ℕ) (g : Option ℕ) (w : ℕ) (rest done : Items) (fits : Bool) → is_finished (cut_turn a g w rest fits) ≡ true → AllAgree acts (cut_turn a g w rest fits)
    → (is_finished rest ≡ true → AllAgree acts rest → Reached good rest (Turn a g w ∷ done)) → Reached good (cut_turn a g w rest fits) done
reached_turn acts good a g w rest done true is agree inner = one_before good (Turn a g w) rest done (inner is agree)
reached_turn acts good a g w rest done false is agree inner = never_false is

reached : (acts : List Activation) (good : Env → ℕ → Items → Type 0) (over : ℕ → Items → Type 0) (left : ℕ) (xs : Items) (k : ℕ) (done : Items) → Fine (λ e. ⊤) xs → Leads acts good over xs k done
    → is_finished (cut left (first xs k won lost [])) ≡ true → AllAgree acts (cut left (first xs k won lost [])) → Reached good (cut left (first xs k won lost [])) done
reached acts good over left [] k done fine h is agree = never_false is
reached acts good over left (Answer e ∷ xs) k done fine h is agree = record { before = []; answer = e; next = k; is = refl; holds = h }
reached acts good over left (Call a p x q ∷ xs) k done fine h is agree = one_before good (Call a p x q) _ done (reached acts good over left xs (suc k) (Call a p x q ∷ done) fine (h agree.0) is agree.1)
reached acts good over left (Throw bytes ∷ xs) k done fine h is agree = absurd (excps_unfinished left xs fine is)
reached acts good over left (Stuck ∷ xs) k done fine h is agree = never_false is
reached acts good over left (Deep ∷ xs) k done fine h is agree = never_false is
reached acts good over left (Turn a g w ∷ xs) k done fine h is agree =
    reached_turn acts good a g w (cut (left - w) (first xs k won lost [])) done (nat_le w left) is agree (λ is agree. reached acts good over (left - w) xs k (Turn a g w ∷ done) fine h is agree)
reached acts good over left (Exit a ∷ xs) k done fine h is agree = one_before good (Exit a) _ done (reached acts good over left xs k (Exit a ∷ done) fine h is agree)
reached acts good over left (Redo a ∷ xs) k done fine h is agree = one_before good (Redo a) _ done (reached acts good over left xs k (Redo a ∷ done) fine h is agree)
reached acts good over left (Fail a ∷ xs) k done fine h is agree = one_before good (Fail a) _ done (reached acts good over left xs k (Fail a ∷ done) fine h is agree)
reached acts good over left (Excp a ∷ xs) k done fine h is agree = one_before good (Excp a) _ done (reached acts good over left xs k (Excp a ∷ done) fine h is agree)
reached acts good over left (Alloc a w ∷ xs) k done fine h is agree = one_before good (Alloc a w) _ done (reached acts good over left xs k (Alloc a w ∷ done) fine h is agree)
reached acts good over left (Out bytes ∷ xs) k done fine h is agree = one_before good (Out bytes) _ done (reached acts good over left xs k (Out bytes ∷ done) fine h is agree)

-- ---- sums in either order

uses_onto : (s : Hlds) (acts : List Activation) (v : Weight) (xs done : Items) → items_use s acts v (onto xs done) ≡ items_use s acts v xs + items_use s acts v done
uses_onto s acts v [] done = omega arith
uses_onto s acts v (x ∷ xs) done = let more = uses_onto s acts v xs (x ∷ done) in omega (arith, more)

makes_onto : (s : Hlds) (acts : List Activation) (v : Weight) (xs done : Items) → items_make s acts v (onto xs done) ≡ items_make s acts v xs + items_make s acts v done
makes_onto s acts v [] done = omega arith
makes_onto s acts v (x ∷ xs) done = let more = makes_onto s acts v xs (x ∷ done) in omega (arith, more)

uses_append : (s : Hlds) (acts : List Activation) (v : Weight) (xs ys : Items) → items_use s acts v (xs ++ ys) ≡ items_use s acts v xs + items_use s acts v ys
uses_append s acts v [] ys = omega arith
uses_append s acts v (x ∷ xs) ys = let more = uses_append s acts v xs ys in omega (arith, more)

makes_append : (s : Hlds) (acts : List Activation) (v : Weight) (xs ys : Items) → items_make s acts v (xs ++ ys) ≡ items_make s acts v xs + items_make s acts v ys
makes_append s acts v [] ys = omega arith
makes_append s acts v (x ∷ xs) ys = let more = makes_append s acts v xs ys in omega (arith, more)

-- ---- the run

-- what was used in these items is what was made
pub record IsEven (s : Hlds) (acts : List Activation) (xs : Items) : Type 0 where
  pub marks : List (Mark s)
  pub even : (v : Weight) → items_use s acts v xs + marks_use s v marks ≡ items_make s acts v xs + marks_make s v marks

no_weight : (v : Weight) → weigh v [] ≡ 0
unfolding weigh
no_weight v = refl

-- before anything is done nothing is awaited
nothing_due : (s : Hlds) (acts : List Activation) → Awaits s acts [] []
nothing_due s acts = record { marks = []; even = λ v. let none = no_weight v in omega (arith, none) }

even_run : (s : Hlds) (acts : List Activation) (start ys : Items) (e : Env) (k : ℕ) → Awaits s acts (onto ys start) (exit_uses s (numbered acts 0) ++ []) → exit_makes s (numbered acts 0) ≡ [] → (begun : Items) → ((v : Weight) → items_use s acts v start ≡ items_use s acts v begun) → ((v : Weight) → items_make s acts v start ≡ items_make s acts v begun)
    → IsEven s acts (begun ++ (ys ++ won e k))
even_run s acts start ys e k h none begun same_uses same_makes =
    let last : Awaits s acts (Exit 0 ∷ onto ys start) (exit_makes s (numbered acts 0) ++ []) = awaits_item s acts (onto ys start) (Exit 0) [] h in
    record {
      marks = last.marks;
      even = λ v.
          let was = last.even v in
          let nothing : weigh v (exit_makes s (numbered acts 0) ++ []) ≡ 0 = subst (λ (ts : List Token). weigh v (ts ++ []) ≡ 0) (sym none) (no_weight v) in
          let a = uses_onto s acts v ys start in let b = makes_onto s acts v ys start in
          let c = uses_append s acts v begun (ys ++ won e k) in let d = makes_append s acts v begun (ys ++ won e k) in
          let f = uses_append s acts v ys (won e k) in let g = makes_append s acts v ys (won e k) in
          let i = same_uses v in let j = same_makes v in
          let n = no_weight v in
          omega (arith, was, nothing, a, b, c, d, f, g, i, j, n);
    }

module _ (bytes : List ℕ) (s : Hlds) (spells : Spells bytes s) (modes : mode_fault s ≡ None) (judged : det_fault s ≡ None) (budget : ℕ) (small : budget < 2 ^ 32) where
  abbrev acts_of : Items → List Activation
  acts_of xs = activations (history xs)

  within : IsWithinBounds s budget
  within = accepted_texts_are_within_bounds bytes s budget spells modes small

  main_agrees : (m : ℕ × Procedure) → procedure_called s main_name ≡ Some m → (xs : Items) (fits : Bool)
      → xs ≡ cut_turn 0 None (call_weight m.1) (Call 0 None None m.0 ∷ cut (budget - call_weight m.1) (first (trace s budget (main_frame s m) [] 1) 1 won lost [])) fits → is_finished xs ≡ true → AllAgree (acts_of xs) xs
      → IsEven s (acts_of xs) xs
  main_agrees m called xs false is finished agree = never_false (sym (ap is_finished is) ∙ finished)
  main_agrees m called xs true is finished agree =
      let acts : List Activation = acts_of xs in
      let at : slice_get s.procedures m.0 ≡ Some m.1 = found_by_name s main_name m called in
      let rest : Items = cut (budget - call_weight m.1) (first (trace s budget (main_frame s m) [] 1) 1 won lost []) in
      let all : AllAgree acts (Turn 0 None (call_weight m.1) ∷ Call 0 None None m.0 ∷ rest) = subst (λ (ys : Items). AllAgree acts ys) is agree in
      let done : is_finished rest ≡ true = sym (ap is_finished is) ∙ finished in
      let act' = all.0 in
      let body : ℕ = body_number s m.0 in
      let placed = body_at s m at in
      let start : Items = Call 0 None None m.0 ∷ Turn 0 None (call_weight m.1) ∷ [] in
      let leaves : exit_uses s (numbered acts 0) ≡ makes s (ByEnd body) =
      ap (exit_uses s) act' ∙ (ap (to_effect (ExitsOf m.0)) (exits_of_is s m.0) ∙ sym (ap (of_cause (ByEnd body)) (ended_is s body (ByCall m.0 ∷ []) (ExitsOf m.0 ∷ []) m.1.body placed))) in
      let begins : makes s (ByCall m.0) ≡ uses s (Begins body) =
      ap (of_cause (ByCall m.0)) (by_call_is s m.0) ∙ sym (ap (to_effect (Begins body)) (begun_is s body (ByCall m.0 ∷ []) (ExitsOf m.0 ∷ []) m.1.body placed)) in
      let due : Awaits s acts start (uses s (Begins body) ++ []) =
      subst (λ (ts : List Token). Awaits s acts start (ts ++ [])) begins
      (awaits_item s acts (Turn 0 None (call_weight m.1) ∷ []) (Call 0 None None m.0) [] (awaits_item s acts [] (Turn 0 None (call_weight m.1)) [] (nothing_due s acts))) in
      let flows = trace_flows bytes s spells modes judged (are_sited s within.sites) acts (main_job s budget m) (turns_fit bytes s spells modes budget m called)
      budget 0 (main_frame s m).env (main_frame s m).goals [] [] 1 (exit_uses s (numbered acts 0)) [] start (here (main_job s budget m))
      (record { begun = ByCall m.0 ∷ []; ended' = ExitsOf m.0 ∷ []; at = placed; on = λ done' due' h'. subst (λ (ts : List Token). Awaits s acts done' (ts ++ due')) (sym leaves) h' }, tt) due in
      let there = reached acts _ _ (budget - call_weight m.1) (trace s budget (main_frame s m) [] 1) 1 start
      (main_fine s (proper bytes s spells modes) budget m at (one_main s m spells.once (accepted s modes).main called)) flows done all.1 in
      let front : xs ≡ (Turn 0 None (call_weight m.1) ∷ Call 0 None None m.0 ∷ []) ++ (there.before ++ won there.answer there.next) =
      is ∙ ap (λ ys. Turn 0 None (call_weight m.1) ∷ Call 0 None None m.0 ∷ ys) there.is in
      subst (λ (ys : Items). IsEven s acts ys) (sym front)
      (even_run s acts start there.before there.answer there.next there.holds (ap (exit_makes s) act') (Turn 0 None (call_weight m.1) ∷ Call 0 None None m.0 ∷ []) (λ v. omega arith) (λ v. omega arith))

  runs_by : (o : Option (ℕ × Procedure)) → procedure_called s main_name ≡ o → (xs : Items) → xs ≡ run_main s budget o → is_finished xs ≡ true → AllAgree (acts_of xs) xs → IsEven s (acts_of xs) xs
  runs_by None called xs is finished agree = never_false (sym (ap is_finished is) ∙ finished)
  runs_by (Some m) called xs is finished agree = main_agrees m called xs (nat_le (call_weight m.1) budget) is finished agree

  pub run_is_even : is_finished (run s budget) ≡ true → IsEven s (activations (history (run s budget))) (run s budget)
  unfolding run
  run_is_even finished =
      runs_by (procedure_called s main_name) refl (run s budget) refl finished (agree_told (site_table s) (run s budget) [] (runs_are_histories s budget within))
