-- Each activation that is entered is left, but for those of the current chain.
use Rattle.std.proofs.Common.{ℕ, ◌+◌, ◌≡◌, Bool, true, false, inl, inr, List, [], ◌∷◌, if◌then◌else◌, Some, refl, sym, ap, ◌∙◌, arith}
use Rattle.std.proofs.lemmas.Bool.{cases_Bool}
use Rattle.md_base.specs.declared.measure.Measure.{Measure}
use Rattle.md_base.specs.declared.measure.Measure.TheVariants.{Calls, Exits, Fails, Redos, Excps}
use Rattle.md_trace.specs.declared.event.Event.{Event}
use Rattle.md_trace.specs.declared.event.Event.TheVariants.{Call, Exit, Redo, Fail, Excp, Alloc}
use Rattle.md_trace.specs.Activation.{activations, numbered, parent_of}
use Rattle.md_trace.specs.PortHistory.{SiteTable, IsPortHistory, current}
use Rattle.md_trace.specs.Context.{Placed, chain, placed_of, current_chain, has_link}
use Rattle.md_trace.specs.Balance.{LinksBalance}
use Rattle.md_trace.specs.Count.{activation_of, amount, passing, sum_where}
use Rattle.md_trace.proofs.Chains.{chain-none}
use Rattle.md_trace.proofs.Counting.{sum-agree, sum-other, sum-passing}
use Rattle.md_trace.proofs.Histories.{orderly, chain-of, chain-redo, chain-call, current-there, exited-there}
use Rattle.md_trace.proofs.Numbered.{numbered-new}
use Rattle.md_trace.proofs.Placing.{length-placed}
use Rattle.md_trace.proofs.Setwise.{newest, passing-at, passing-more}

-- how many of a chain pass a test
abbrev how_many : (Placed → Bool) → List Placed → ℕ
how_many test [] = 0
how_many test (x ∷ xs) = (if test x then 1 else 0) + how_many test xs

-- how often activations that pass a test were entered and left, in a history with these activations and this chain
abbrev IsBalanced : List Placed → (Placed → Bool) → List Event → List Placed → Type 0
IsBalanced xs test h running =
    sum_where (passing xs test) Calls h + sum_where (passing xs test) Redos h
    ≡ ((sum_where (passing xs test) Exits h + sum_where (passing xs test) Fails h) + sum_where (passing xs test) Excps h) + how_many test running

-- one event of an activation y: what it adds to a measure
step : (test : Placed → Bool) (meas : Measure) (xs : List Placed) (e : Event) (h : List Event) (a : ℕ) (y : Placed) → activation_of e ≡ a → numbered xs a ≡ Some y →
    sum_where (passing xs test) meas (e ∷ h) ≡ (if test y then amount meas e else 0) + sum_where (passing xs test) meas h
step test meas xs e h a y whose is =
    let at : numbered xs (activation_of e) ≡ Some y = ap (numbered xs) whose ∙ is in
    elim (cases_Bool (test y)) [
      | inl good ↦ sum-passing (passing xs test) meas e h (passing-at xs test (activation_of e) y true at good) ∙ (rw good)
      | inr bad ↦ sum-other (passing xs test) meas e h (passing-at xs test (activation_of e) y false at bad) ∙ (rw bad (omega arith))
    ]

-- the five sums and the chain after one event, which adds to a sum only where the activation passes
moved : (b : Bool) (dc dr dl df dx i o c c2 r r2 l l2 f f2 x x2 k k2 : ℕ) → (dc + dr) + o ≡ ((dl + df) + dx) + i →
    c2 ≡ (if b then dc else 0) + c → r2 ≡ (if b then dr else 0) + r → l2 ≡ (if b then dl else 0) + l → f2 ≡ (if b then df else 0) + f → x2 ≡ (if b then dx else 0) + x →
    k2 + (if b then o else 0) ≡ (if b then i else 0) + k → c + r ≡ ((l + f) + x) + k → c2 + r2 ≡ ((l2 + f2) + x2) + k2
moved true dc dr dl df dx i o c c2 r r2 l l2 f f2 x x2 k k2 even p q u v w chained old = omega arith
moved false dc dr dl df dx i o c c2 r r2 l l2 f f2 x x2 k k2 even p q u v w chained old = omega arith

-- an event that enters the chain i times and leaves it o times keeps the balance
after-event : (test : Placed → Bool) (xs ys : List Placed) (e : Event) (h : List Event) (a : ℕ) (y : Placed) (i o : ℕ) (now before : List Placed) →
    activation_of e ≡ a → numbered ys a ≡ Some y → ((meas : Measure) → sum_where (passing ys test) meas h ≡ sum_where (passing xs test) meas h) →
    (amount Calls e + amount Redos e) + o ≡ ((amount Exits e + amount Fails e) + amount Excps e) + i →
    how_many test now + (if test y then o else 0) ≡ (if test y then i else 0) + how_many test before →
    IsBalanced xs test h before → IsBalanced ys test (e ∷ h) now
after-event test xs ys e h a y i o now before whose at older even chained old =
    let more : (meas : Measure) → sum_where (passing ys test) meas (e ∷ h) ≡ (if test y then amount meas e else 0) + sum_where (passing xs test) meas h =
    λ meas. step test meas ys e h a y whose at ∙ ap (λ n. (if test y then amount meas e else 0) + n) (older meas) in
    moved (test y) (amount Calls e) (amount Redos e) (amount Exits e) (amount Fails e) (amount Excps e) i o _ _ _ _ _ _ _ _ _ _ _ _
    even (more Calls) (more Redos) (more Exits) (more Fails) (more Excps) chained old

-- a chain that is one longer, one shorter, or as it was
longer-by : (b : Bool) (n k : ℕ) → n ≡ (if b then 1 else 0) + k → n + (if b then 0 else 0) ≡ (if b then 1 else 0) + k
longer-by true n k is = omega arith
longer-by false n k is = omega arith

shorter-by : (b : Bool) (n k : ℕ) → k ≡ (if b then 1 else 0) + n → n + (if b then 1 else 0) ≡ (if b then 0 else 0) + k
shorter-by true n k is = omega arith
shorter-by false n k is = omega arith

as-long : (b : Bool) (n : ℕ) → n + (if b then 0 else 0) ≡ (if b then 0 else 0) + n
as-long true n = omega arith
as-long false n = omega arith

-- what the activation that runs leaves behind: its parent's chain
left-behind : (t : SiteTable) (m : ℕ) (test : Placed → Bool) (a : ℕ) (h : List Event) → IsPortHistory t h → current h ≡ Some a →
    (y : Placed) × (numbered (placed_of m h) a ≡ Some y)
    × (how_many test (chain (placed_of m h) (parent_of (activations h) a)) + (if test y then 1 else 0) ≡ (if test y then 0 else 0) + how_many test (current_chain m h))
left-behind t m test a h is now =
    let order = orderly t m h is in
    let y = current-there m a h order now in
    (y.0, y.1, shorter-by (test y.0) _ _ (ap (how_many test) (ap (chain (placed_of m h)) now ∙ chain-of m a h y.0 order y.1)))

-- calls and redos are exits, fails and exceptions, and those who are in the current chain
pub balance : (t : SiteTable) (m : ℕ) (test : Placed → Bool) (h : List Event) → IsPortHistory t h → IsBalanced (placed_of m h) test h (current_chain m h)
balance t m test [] is = refl
balance t m test (Call a p s q ∷ h) is =
    let order = orderly t m h is.0 in
    let x = newest m h p s q in
    let xs = placed_of m h in
    let len = length-placed m (activations h) in
    let at : numbered (x ∷ xs) a ≡ Some x = ap (numbered (x ∷ xs)) (is.1.0 ∙ sym len) ∙ numbered-new x xs in
    let older = λ (meas : Measure). sum-agree t (passing (x ∷ xs) test) (passing xs test) meas h is.0 (λ b below. passing-more x xs test b (omega (arith, len))) in
    let e = Call a p s q in
    after-event test xs (x ∷ xs) e h a x 1 0 (current_chain m (e ∷ h)) (current_chain m h) refl at older refl
    (longer-by (test x) _ _ (ap (how_many test) (chain-call t m a p s q h order is.1))) (balance t m test h is.0)
balance t m test (Redo a ∷ h) is =
    let xs = placed_of m h in
    let order = orderly t m h is.0 in
    let y = exited-there m a h order is.1.0 in
    let e = Redo a in
    after-event test xs xs e h a y.0 1 0 (current_chain m (e ∷ h)) (current_chain m h) refl y.1 (λ meas. refl) refl
    (longer-by (test y.0) _ _ (ap (how_many test) (chain-redo m a h y.0 order y.1 is.1.1))) (balance t m test h is.0)
balance t m test (Exit a ∷ h) is =
    let y = left-behind t m test a h is.0 is.1 in
    let e = Exit a in
    after-event test (placed_of m h) (placed_of m h) e h a y.0 0 1 (current_chain m (e ∷ h)) (current_chain m h) refl y.1 (λ meas. refl) refl y.2 (balance t m test h is.0)
balance t m test (Fail a ∷ h) is =
    let y = left-behind t m test a h is.0 is.1 in
    let e = Fail a in
    after-event test (placed_of m h) (placed_of m h) e h a y.0 0 1 (current_chain m (e ∷ h)) (current_chain m h) refl y.1 (λ meas. refl) refl y.2 (balance t m test h is.0)
balance t m test (Excp a ∷ h) is =
    let y = left-behind t m test a h is.0 is.1 in
    let e = Excp a in
    after-event test (placed_of m h) (placed_of m h) e h a y.0 0 1 (current_chain m (e ∷ h)) (current_chain m h) refl y.1 (λ meas. refl) refl y.2 (balance t m test h is.0)
balance t m test (Alloc a w ∷ h) is =
    let xs = placed_of m h in
    let y = current-there m a h (orderly t m h is.0) is.1 in
    let e = Alloc a w in
    after-event test xs xs e h a y.0 0 0 (current_chain m (e ∷ h)) (current_chain m h) refl y.1 (λ meas. refl) refl (as-long (test y.0) _) (balance t m test h is.0)

-- a finished history's links
pub links-balanced : LinksBalance
links-balanced t h l is now full =
    let m = t.main in
    let ended : how_many (has_link l) (current_chain m h) ≡ 0 = ap (how_many (has_link l)) (ap (chain (placed_of m h)) now ∙ chain-none (placed_of m h)) in
    let all = balance t m (has_link l) h is in
    omega (arith, all, ended, full.calls, full.exits, full.fails, full.redos, full.excps)
