-- Each turn of a run is one that main's trace comes to.
use Rattle.std.proofs.Common.{◌≡◌, refl, inl, inr, ℕ, ◌-◌, Bool, true, false, nat_le, List, [], ◌∷◌, Option, Some, None}
use Rattle.md_hlds.specs.Hlds.{Hlds, Procedure, procedure_called}
use Rattle.md_hlds.specs.Trace.{Turn, Call, Exit, Redo, Fail, Excp, Alloc, Out, Throw, Answer, Stuck, Deep, Items, trace}
use Rattle.md_hlds.specs.Run.{cut, cut_turn, main_name, main_frame, main_items, run_main, run}
use Rattle.md_reader.specs.Grammar.{Spells}
use Rattle.md_modes.specs.Modes.{mode_fault}
use Rattle.law_safety.specs.Known.{FitsInRun}
use Rattle.law_safety.specs.Unfolding.{main_job, HasTurn, ComesToTurn}
use Rattle.law_safety.proofs.EachTurn.{turn_first, no_turn_is_left_out}
use Rattle.law_safety.proofs.TurnsFit.{turns_fit}

turn_cut : (a n b : ℕ) (g : Option ℕ) (w : ℕ) (xs : Items) (allowed : Bool) → HasTurn a n (cut_turn b g w xs allowed) → HasTurn a n (Turn b g w ∷ xs)
turn_cut a n b g w xs true t = t
turn_cut a n b g w xs false t = elim t [ ]

turn_whole : (a n b : ℕ) (g : Option ℕ) (w : ℕ) (xs ys : Items) → (HasTurn a n xs → HasTurn a n ys) → HasTurn a n (Turn b g w ∷ xs) → HasTurn a n (Turn b g w ∷ ys)
turn_whole a n b None w xs ys h t = h t
turn_whole a n b (Some g) w xs ys h (inl t) = inl t
turn_whole a n b (Some g) w xs ys h (inr t) = inr (h t)

-- a turn within the budget is one of the whole
uncut : (a n left : ℕ) (xs : Items) → HasTurn a n (cut left xs) → HasTurn a n xs
uncut a n left [] t = t
uncut a n left (Turn b g w ∷ xs) t =
    turn_whole a n b g w (cut (left - w) xs) xs (λ h. uncut a n (left - w) xs h) (turn_cut a n b g w (cut (left - w) xs) (nat_le w left) t)
uncut a n left (Call b p s q ∷ xs) t = uncut a n left xs t
uncut a n left (Exit b ∷ xs) t = uncut a n left xs t
uncut a n left (Redo b ∷ xs) t = uncut a n left xs t
uncut a n left (Fail b ∷ xs) t = uncut a n left xs t
uncut a n left (Excp b ∷ xs) t = uncut a n left xs t
uncut a n left (Alloc b w ∷ xs) t = uncut a n left xs t
uncut a n left (Out bytes ∷ xs) t = uncut a n left xs t
uncut a n left (Throw bytes ∷ xs) t = uncut a n left xs t
uncut a n left (Answer e ∷ xs) t = uncut a n left xs t
uncut a n left (Stuck ∷ xs) t = uncut a n left xs t
uncut a n left (Deep ∷ xs) t = uncut a n left xs t

main_comes : (s : Hlds) (depth a n : ℕ) (m : ℕ × Procedure) → HasTurn a n (main_items s depth m) → ComesToTurn s (main_job s depth m) a n
main_comes s depth a n m t = elim (turn_first a n (trace s depth (main_frame s m) [] 1) 1 (λ e k. Exit 0 ∷ Answer e ∷ []) (λ k. Fail 0 ∷ []) [] tt t) [
  | inl t ↦ no_turn_is_left_out s depth (main_frame s m) [] 1 a n t
  | inr r ↦ elim r [
    | inl h ↦ absurd (h.3)
    | inr h ↦ absurd (h.2)
  ]
]

fits_by : (text : List ℕ) (s : Hlds) → Spells text s → mode_fault s ≡ None → (budget a n : ℕ) (o : Option (ℕ × Procedure)) → procedure_called s main_name ≡ o → HasTurn a n (run_main s budget o) → FitsInRun s budget a n
fits_by text s spells ok budget a n None called t = elim t [ ]
fits_by text s spells ok budget a n (Some m) called t =
    let turn = main_comes s budget a n m (uncut a n budget (main_items s budget m) t) in
    record { main = m; called = called; turn = turn; fits = turns_fit text s spells ok budget m called turn.to turn.comes }

-- each turn of a run has an environment that fits
pub run_fits : (text : List ℕ) (s : Hlds) → Spells text s → mode_fault s ≡ None → (budget a n : ℕ) → HasTurn a n (run s budget) → FitsInRun s budget a n
unfolding run
run_fits text s spells ok budget a n t = fits_by text s spells ok budget a n (procedure_called s main_name) refl t
