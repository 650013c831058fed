-- What a machine has as a run begins.
use Rattle.std.proofs.Common.{◌≡◌, refl, sym, ap, ◌∙◌, subst, arith, ℕ, zero, suc, ◌+◌, ◌<◌, List, [], length, replicate, Some, slice_get}
use Rattle.std.proofs.lemmas.List.{length-replicate, length-map}
use Rattle.md_heap.specs.declared.value.Value.{Value}
use Rattle.md_flat.specs.declared.code.Code.{Code}
use Rattle.md_flat.specs.declared.state.Frame.{Frame}
use Rattle.md_flat.specs.declared.state.Choice.{Choice}
use Rattle.md_flat.specs.Meaning.{value_in, no_value, io_state, no_choice}
use Rattle.md_code.specs.Details.{detail_told}
use Rattle.law_flat.specs.Begins.{functor_cells}
use Rattle.law_flat.specs.Shows.{choice_in, IsBottom}
use Rattle.md_machine.specs.declared.stacks.Stacks.{Stacks}
use Rattle.md_machine.specs.Stacks.{AreFirst}

each_is : (n i : ℕ) → value_in (replicate n no_value) i ≡ io_state
each_is zero i = refl
each_is (suc n) zero = refl
each_is (suc n) (suc i) = each_is n i

first_of : {A : Type 0} (n : ℕ) (x : A) → 0 < n → slice_get (replicate n x) 0 ≡ Some x
first_of zero x some = absurd (omega (arith, some))
first_of (suc n) x some = refl

bottom_of : (n : ℕ) → choice_in (replicate n no_choice) 0 ≡ no_choice
bottom_of zero = refl
bottom_of (suc n) = refl

-- main's frame, of this call and mark
abbrev pub main_head : {M : Type 0} → (call : ℕ) → M → Frame M
main_head call mark = record { caller_base = 0; caller = 0; call = call; mark = mark }

pub first_stacks : {M : Type 0} (code : Code) (mark : M) (k : Stacks M) (call more frames choices : ℕ) → k.slots.items ≡ replicate (code.reach + more) no_value → k.frames.items ≡ replicate frames (main_head call mark) → 0 < frames
    → call ≡ length code.details.items → k.choices.items ≡ replicate choices no_choice → 0 < choices → k.heap ≡ functor_cells code.functors → k.output.items ≡ [] → AreFirst code mark k
first_stacks {M} code mark k call more frames choices slots heads some_head number places some_place heap output =
    let wide = ap (λ (vs : List Value). length vs) slots in
    let size = length-replicate (code.reach + more) no_value in
    let many = ap (λ (fs : List (Frame M)). length fs) heads in
    let count = length-replicate frames (main_head call mark) in
    let deep = ap (λ (cs : List Choice). length cs) places in
    let height = length-replicate choices no_choice in
    record {
      frames = record {
        count = omega (arith, many, count, some_head);
        first = main_head call mark;
        is = ap (λ (fs : List (Frame M)). slice_get fs 0) heads ∙ first_of frames (main_head call mark) some_head;
        main = record { caller = refl; base = refl; call = number ∙ sym (length-map code.details.items detail_told) };
      };
      marked = refl;
      slots = λ i. ap (λ (vs : List Value). value_in vs i) slots ∙ each_is (code.reach + more) i;
      room = omega (arith, wide, size);
      some = omega (arith, deep, height, some_place);
      bottom = subst (λ (m : Choice). IsBottom m) (sym (ap (λ (cs : List Choice). choice_in cs 0) places ∙ bottom_of choices)) (record { top_is = refl; stop_is = refl });
      heap = heap;
      output = output;
    }

-- each frame that there is at first is main's
pub first_callers : {M : Type 0} (frames : List (Frame M)) (n call : ℕ) (mark : M) → frames ≡ replicate n (main_head call mark) → (k : ℕ) (f : Frame M) → slice_get frames k ≡ Some f → f.caller ≡ 0
first_callers {M} frames n call mark is k f at = each n k (ap (λ (fs : List (Frame M)). slice_get fs k) (sym is) ∙ at)
  where
    each : (n k : ℕ) → slice_get (replicate n (main_head call mark)) k ≡ Some f → f.caller ≡ 0
    each zero k e = absurd (cc e)
    each (suc n) zero e = let same : Some (main_head call mark) ≡ Some f = e in let one : main_head call mark ≡ f = cc same in ap (λ (g : Frame M). g.caller) (sym one)
    each (suc n) (suc k) e = each n k e
