-- Main: a program without a fault of modes has one, and its frame holds the io state.
use Rattle.std.proofs.Common.{◌≡◌, refl, ap, ◌∙◌, inl, inr, ℕ, pos, true, ◌&&◌, List, [], ◌∷◌, length, Some, None, is_none, codes, slice_get}
use Rattle.std.proofs.lemmas.Bool.{and_parts, false≢true}
use Rattle.std.specs.Str.{bytes_eq}
use Rattle.md_hlds.specs.declared.types.Det.{Det}
use Rattle.md_hlds.specs.declared.types.Det.TheVariants as det
use Rattle.md_hlds.specs.Hlds.{Procedure, Hlds, procedure_called}
use Rattle.md_hlds.specs.Value.{Value, Number, value_at, blank}
use Rattle.md_hlds.specs.Run.{main_name, main_env}
use Rattle.md_reader.specs.Grammar.{Spells}
use Rattle.md_inst.specs.HldsTypes.{same_det}
use Rattle.md_modes.specs.Modes.{are_main_args, mode_fault}
use Rattle.law_safety.proofs.Functors.{called_at}
use Rattle.law_safety.proofs.Whole.{accepted}
use Rattle.law_safety.proofs.OneMain.{one_main, main_there}
use Rattle.law_frames.specs.Stores.{Act, Store}
use Rattle.law_frames.specs.Calls.{MainFrame}
use Rattle.law_runs.proofs.FitCalls.{bound_or_had, none_blank}

det_is : (d : Det) → same_det d det.Det ≡ true → d ≡ det.Det
det_is det.Det h = refl
det_is det.Semidet h = absurd (false≢true h)
det_is det.Multi h = absurd (false≢true h)
det_is det.Nondet h = absurd (false≢true h)
det_is det.Failure h = absurd (false≢true h)

pub main_is_there : (text : List ℕ) (s : Hlds) → Spells text s → mode_fault s ≡ None → (m : ℕ × Procedure) × (procedure_called s main_name ≡ Some m) × (slice_get s.procedures m.0 ≡ Some m.1) × (m.1.det ≡ det.Det)
main_is_there text s spells h =
    let m = main_there s (accepted s h).main in
    let is = one_main s m.0 spells.once (accepted s h).main m.1 in
    let a = and_parts (is_none m.0.1.qualifier && bytes_eq m.0.1.name (codes "main")) (are_main_args m.0.1.args && same_det m.0.1.det det.Det) is in
    let b = and_parts (are_main_args m.0.1.args) (same_det m.0.1.det det.Det) a.1 in
    (m.0, m.1, called_at s main_name m.0 m.1, det_is m.0.1.det b.1)

begun_with : (n : ℕ) (head : List ℕ) (y : ℕ) (v : Value) (T : ℕ → Value) → value_at (main_env (blank n) head) y ≡ Some v → ((h : ℕ) (rest : List ℕ) → head ≡ h ∷ rest → T h ≡ Number (pos 0)) → T y ≡ v
begun_with n [] y v T is first = absurd (none_blank n y v is)
begun_with n (h ∷ head) y v T is first = elim (bound_or_had (blank n) h y (Number (pos 0)) v is) [
  | inl here ↦ ap T here.0 ∙ first h head refl ∙ here.1
  | inr old ↦ absurd (none_blank n y v old)
]

-- main's frame is one whose first variable holds the io state
pub main_frame_by : (m : ℕ × Procedure) (S : Store) (x : Act) → S.acts x.index ≡ x → x.index ≡ 0 → x.number ≡ 0 → ((h : ℕ) (rest : List ℕ) → m.1.head ≡ h ∷ rest → S.values x.index h ≡ Number (pos 0)) → MainFrame m S x
main_frame_by m S x act bottom number first = record { act = act; bottom = bottom; first = number; entered = λ y v is. begun_with (length m.1.vars) m.1.head y v (λ z. S.values x.index z) is first }
