-- The contexts of the run of a generated program: as many as it has activations.
use Rattle.std.proofs.Common.{◌≡◌, refl, ap, sym, ◌∙◌, subst, arith, ℕ, zero, suc, ◌+◌, ◌*◌, ◌^◌, ◌<◌, ◌≤◌, List, [], ◌∷◌, ◌++◌, length, Some, None}
use Rattle.std.proofs.Math.Nat.{pow-succ'}
use Rattle.md_hlds.specs.Hlds.{Hlds, body_number}
use Rattle.md_hlds.specs.Trace.{Turn, Exit, Items}
use Rattle.md_hlds.specs.Run.{run}
use Rattle.md_trace.specs.declared.event.Event.{Event}
use Rattle.md_trace.specs.declared.event.Event.TheVariants.{Call as CallOf}
use Rattle.md_trace.specs.Context.{Placed, chain, contexts, placed_of}
use Rattle.law_events.specs.History.{told, history}
use Rattle.law_events.specs.Table.{site_table}
use Rattle.law_events.proofs.RunLaw.{told_append}
use Rattle.law_generated.specs.Generated.{generated}
use Rattle.law_generated.proofs.Items.{calls_of, call_items, first_half, second_half}
use Rattle.law_generated.proofs.Traced.{whole_items, main_end}
use Rattle.law_generated.proofs.Finished.{run-whole}
use Rattle.law_generated.proofs.Placed.{IsUnlinked, AreProceduresBelow, HaveOwnContexts, Grows, grows-new, unlinked-new, below-new, grows-twice}

-- a body with two calls: what it leaves is what the second call leaves
told-both : (left right : Items) (k : ℕ) (h : List Event) → placed_of 0 (told ((left ++ right) ++ Exit k ∷ []) h) ≡ placed_of 0 (told right (told left h))
told-both left right k h =
    ap (λ (x : List Event). placed_of 0 x) (told_append (left ++ right) (Exit k ∷ []) h) ∙ ap (λ (x : List Event). placed_of 0 x) (told_append left right h)

-- a call adds its activations, each in a context of its own
grows-call : (s : Hlds) (r j k p site g : ℕ) (h : List Event)
    → HaveOwnContexts (placed_of 0 h) → k ≡ length (placed_of 0 h) → p < k → IsUnlinked p site (placed_of 0 h) → AreProceduresBelow (suc j) (chain (placed_of 0 h) (Some p))
    → Grows p site (calls_of r) (placed_of 0 h) (placed_of 0 (told (call_items s r j k p site g) h))
grows-call s zero j k p site g h has is there un below = grows-new p site (suc j) (placed_of 0 h) has (omega arith) un below
grows-call s (suc r) j k p site g h has is there un below =
    let xs = placed_of 0 h in
    let within : p < length xs = omega arith in
    let begun : List Event = CallOf k (Some p) (Some site) (suc j) ∷ h in
    let left = first_half s r j k in
    let right = second_half s r j k in
    let between : List Event = told left begun in
    let new : Grows p site 1 xs (placed_of 0 begun) = grows-new p site (suc j) xs has within un below in
    let free : (t : ℕ) → IsUnlinked k t (placed_of 0 begun) =
    λ t. subst (λ m. IsUnlinked m t (placed_of 0 begun)) (sym is) (unlinked-new p site (suc j) t xs has within un below) in
    let deeper : AreProceduresBelow (suc (suc j)) (chain (placed_of 0 begun) (Some k)) =
    subst (λ m. AreProceduresBelow (suc (suc j)) (chain (placed_of 0 begun) (Some m))) (sym is) (below-new p site (suc j) xs has within un below) in
    let one : Grows k (1 + (j + j)) (calls_of r) (placed_of 0 begun) (placed_of 0 between) =
    grows-call s r (suc j) (suc k) k (1 + (j + j)) (suc (body_number s (suc j))) begun new.has (omega (arith, new.count)) (omega arith) (free (1 + (j + j))) deeper in
    let open_yet : k < length (placed_of 0 begun) = omega (arith, new.count) in
    let two : Grows k (2 + (j + j)) (calls_of r) (placed_of 0 between) (placed_of 0 (told right between)) =
    grows-call s r (suc j) (suc k + calls_of r) k (2 + (j + j)) (suc (body_number s (suc j)) + 1) between one.has (omega (arith, new.count, one.count)) (omega arith)
    (one.unlinked k (2 + (j + j)) (λ same at. absurd (omega arith)) open_yet (free (2 + (j + j))))
    (subst (λ (ys : List Placed). AreProceduresBelow (suc (suc j)) ys) (sym (one.chains k open_yet)) deeper) in
    subst (λ (ys : List Placed). Grows p site (suc (calls_of r + calls_of r)) xs ys) (sym (told-both left right k begun))
    (grows-twice p site (1 + (j + j)) (2 + (j + j)) (calls_of r) xs (placed_of 0 begun) (placed_of 0 between) (placed_of 0 (told right between)) new
    (subst (λ m. Grows m (1 + (j + j)) (calls_of r) (placed_of 0 begun) (placed_of 0 between)) is one)
    (subst (λ m. Grows m (2 + (j + j)) (calls_of r) (placed_of 0 between) (placed_of 0 (told right between))) is two))

-- ---- the whole run

-- the activations of a call and of those below it, and main's
calls-power : (r : ℕ) → suc (calls_of r) ≡ 2 * 2 ^ r
calls-power zero = refl
calls-power (suc r) = omega (arith, calls-power r, pow-succ' 2 r)

-- the history when main has been called, whose number is 0
abbrev begun_main : List Event
begun_main = CallOf 0 None None 0 ∷ []

-- main's activation has main's context
main-has : HaveOwnContexts (placed_of 0 begun_main)
main-has = record {
  made = refl;
  own = λ a below. let first : a ≡ 0 = omega arith in rw first refl;
  callers = (λ c is. absurd (cc), tt);
}

-- procedure 1, as the first activation that main calls
grows-main : (s : Hlds) (r : ℕ) → Grows 0 0 (calls_of r) (placed_of 0 begun_main) (placed_of 0 (told (call_items s r 0 1 0 0 (suc (body_number s 0))) begun_main))
grows-main s r = grows-call s r 0 1 0 0 (suc (body_number s 0)) begun_main main-has refl (omega arith) ((λ is at. absurd (cc), tt)) ((omega arith, tt))

-- the history of the whole items is that of procedure 1's, but for main's exit
whole-placed : (s : Hlds) (r : ℕ) → placed_of 0 (history (whole_items s r ++ main_end)) ≡ placed_of 0 (told (call_items s r 0 1 0 0 (suc (body_number s 0))) begun_main)
whole-placed s r =
    let items = call_items s r 0 1 0 0 (suc (body_number s 0)) in
    let last : Items = Turn 0 (Some (suc (body_number s 0) + 1)) 1 ∷ [] in
    ap (λ (h : List Event). placed_of 0 h) (told_append (items ++ last) main_end begun_main) ∙ ap (λ (h : List Event). placed_of 0 h) (told_append items last begun_main)

-- main is the first procedure
pub main_is_first : (n : ℕ) → (site_table (generated n)).main ≡ 0
main_is_first n = refl

-- each activation of the whole run has a context of its own
pub run-contexts : (n budget : ℕ) → 1 ≤ n → n < 2 ^ 64 → 3 * 2 ^ n + 2 ≤ budget → length (contexts 0 (placed_of 0 (history (run (generated n) budget)))) ≡ 2 ^ n
run-contexts zero budget some small enough = absurd (omega arith)
run-contexts (suc r) budget some small enough =
    let s = generated (suc r) in
    let grown = grows-main s r in
    ap (λ (xs : Items). length (contexts 0 (placed_of 0 (history xs)))) (run-whole (suc r) r budget refl small enough)
    ∙ ap (λ (xs : List Placed). length (contexts 0 xs)) (whole-placed s r)
    ∙ grown.has.made ∙ grown.count ∙ omega (arith, calls-power r, pow-succ' 2 r)
