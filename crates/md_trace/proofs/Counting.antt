-- How each event changes the counts of a set of activations.
use Rattle.std.proofs.Common.{ℕ, ◌+◌, ◌≡◌, ◌<◌, ◌≤◌, Bool, true, false, cond, List, [], ◌∷◌, length, Option, Some, refl, sym, ap, subst, ◌∙◌, arith}
use Rattle.md_base.specs.declared.measure.Counts.{Counts}
use Rattle.md_base.specs.declared.measure.Measure.{Measure}
use Rattle.md_base.specs.declared.measure.Measure.TheVariants.{Calls, Exits, Fails, Redos, Allocs, Words, Excps}
use Rattle.md_trace.specs.declared.event.Event.{Event}
use Rattle.md_trace.specs.declared.event.Event.TheVariants.{Call, Exit, Redo, Fail, Excp, Alloc}
use Rattle.md_trace.specs.Activation.{activations}
use Rattle.md_trace.specs.PortHistory.{SiteTable, current, MayFollow, IsPortHistory}
use Rattle.md_trace.specs.Count.{activation_of, amount, sum_where, capped, with_more, counts_where}
use Rattle.md_trace.proofs.Chains.{IsBelow}
use Rattle.md_trace.proofs.Histories.{IsOrderly, orderly}

-- two counts are one where each number is
same-counts : (c d : Counts) → c.calls ≡ d.calls → c.exits ≡ d.exits → c.fails ≡ d.fails → c.redos ≡ d.redos → c.allocs ≡ d.allocs → c.words ≡ d.words → c.excps ≡ d.excps → c ≡ d
same-counts c d e f g i j k l =
    let made : ℕ → ℕ → ℕ → ℕ → ℕ → ℕ → ℕ → Counts = λ n o p q r s u. record { calls = n; exits = o; fails = p; redos = q; allocs = r; words = s; excps = u } in
    ap (λ n. made n c.exits c.fails c.redos c.allocs c.words c.excps) e ∙ ap (λ n. made d.calls n c.fails c.redos c.allocs c.words c.excps) f
    ∙ ap (λ n. made d.calls d.exits n c.redos c.allocs c.words c.excps) g
    ∙ ap (λ n. made d.calls d.exits d.fails n c.allocs c.words c.excps) i
    ∙ ap (λ n. made d.calls d.exits d.fails d.redos n c.words c.excps) j
    ∙ ap (λ n. made d.calls d.exits d.fails d.redos d.allocs n c.excps) k
    ∙ ap (λ n. made d.calls d.exits d.fails d.redos d.allocs d.words n) l

-- a sum that stands still, and goes on
capped-more : (s n : ℕ) → capped (capped s + n) ≡ capped (n + s)
capped-more s n = omega arith

-- nothing more
capped-zero : (s : ℕ) → capped (0 + s) ≡ capped s
capped-zero s = omega arith

-- an event of an activation that does not pass changes nothing
pub sum-other : (test : ℕ → Bool) (m : Measure) (e : Event) (h : List Event) → test (activation_of e) ≡ false → sum_where test m (e ∷ h) ≡ sum_where test m h
sum-other test m e h miss = rw miss (omega arith)

pub counts-other : (test : ℕ → Bool) (e : Event) (h : List Event) → test (activation_of e) ≡ false → counts_where test (e ∷ h) ≡ counts_where test h
counts-other test e h miss =
    let k = λ (m : Measure). ap capped (sum-other test m e h miss) in
    same-counts _ _ (k Calls) (k Exits) (k Fails) (k Redos) (k Allocs) (k Words) (k Excps)

-- the amount of an event of an activation that passes is added
pub sum-passing : (test : ℕ → Bool) (m : Measure) (e : Event) (h : List Event) → test (activation_of e) ≡ true → sum_where test m (e ∷ h) ≡ amount m e + sum_where test m h
sum-passing test m e h pass = rw pass

grown : (test : ℕ → Bool) (m : Measure) (e : Event) (h : List Event) (n : ℕ) → test (activation_of e) ≡ true → amount m e ≡ n → capped (sum_where test m (e ∷ h)) ≡ capped (capped (sum_where test m h) + n)
grown test m e h n pass is = ap capped (sum-passing test m e h pass ∙ ap (λ k. k + sum_where test m h) is) ∙ sym (capped-more (sum_where test m h) n)

still : (test : ℕ → Bool) (m : Measure) (e : Event) (h : List Event) → test (activation_of e) ≡ true → amount m e ≡ 0 → capped (sum_where test m (e ∷ h)) ≡ capped (sum_where test m h)
still test m e h pass is = ap capped (sum-passing test m e h pass ∙ ap (λ k. k + sum_where test m h) is) ∙ capped-zero (sum_where test m h)

pub counts-call : (test : ℕ → Bool) (a : ℕ) (p s : Option ℕ) (q : ℕ) (h : List Event) → test a ≡ true → counts_where test (Call a p s q ∷ h) ≡ with_more (counts_where test h) Calls 1
counts-call test a p s q h pass =
    let e = Call a p s q in
    same-counts _ _ (grown test Calls e h 1 pass refl) (still test Exits e h pass refl) (still test Fails e h pass refl) (still test Redos e h pass refl) (still test Allocs e h pass refl) (still test Words e h pass refl) (still test Excps e h pass refl)

pub counts-exit : (test : ℕ → Bool) (a : ℕ) (h : List Event) → test a ≡ true → counts_where test (Exit a ∷ h) ≡ with_more (counts_where test h) Exits 1
counts-exit test a h pass =
    let e = Exit a in
    same-counts _ _ (still test Calls e h pass refl) (grown test Exits e h 1 pass refl) (still test Fails e h pass refl) (still test Redos e h pass refl) (still test Allocs e h pass refl) (still test Words e h pass refl) (still test Excps e h pass refl)

pub counts-fail : (test : ℕ → Bool) (a : ℕ) (h : List Event) → test a ≡ true → counts_where test (Fail a ∷ h) ≡ with_more (counts_where test h) Fails 1
counts-fail test a h pass =
    let e = Fail a in
    same-counts _ _ (still test Calls e h pass refl) (still test Exits e h pass refl) (grown test Fails e h 1 pass refl) (still test Redos e h pass refl) (still test Allocs e h pass refl) (still test Words e h pass refl) (still test Excps e h pass refl)

pub counts-excp : (test : ℕ → Bool) (a : ℕ) (h : List Event) → test a ≡ true → counts_where test (Excp a ∷ h) ≡ with_more (counts_where test h) Excps 1
counts-excp test a h pass =
    let e = Excp a in
    same-counts _ _ (still test Calls e h pass refl) (still test Exits e h pass refl) (still test Fails e h pass refl) (still test Redos e h pass refl) (still test Allocs e h pass refl) (still test Words e h pass refl) (grown test Excps e h 1 pass refl)

pub counts-redo : (test : ℕ → Bool) (a : ℕ) (h : List Event) → test a ≡ true → counts_where test (Redo a ∷ h) ≡ with_more (counts_where test h) Redos 1
counts-redo test a h pass =
    let e = Redo a in
    same-counts _ _ (still test Calls e h pass refl) (still test Exits e h pass refl) (still test Fails e h pass refl) (grown test Redos e h 1 pass refl) (still test Allocs e h pass refl) (still test Words e h pass refl) (still test Excps e h pass refl)

pub counts-alloc : (test : ℕ → Bool) (a w : ℕ) (h : List Event) → test a ≡ true → counts_where test (Alloc a w ∷ h) ≡ with_more (with_more (counts_where test h) Allocs 1) Words w
counts-alloc test a w h pass =
    let e = Alloc a w in
    same-counts _ _ (still test Calls e h pass refl) (still test Exits e h pass refl) (still test Fails e h pass refl) (still test Redos e h pass refl) (grown test Allocs e h 1 pass refl) (grown test Words e h w pass refl) (still test Excps e h pass refl)

now-below : (a : ℕ) (h : List Event) (m : ℕ) → IsOrderly m h → current h ≡ Some a → a < length (activations h)
now-below a h m order is = let P : Option ℕ → Type 0 = λ o. IsBelow o (length (activations h)) in subst P is order.now

-- the activation of an event has been called
pub event-below : (t : SiteTable) (m : ℕ) (e : Event) (h : List Event) → IsOrderly m h → MayFollow t h e → activation_of e < length (activations (e ∷ h))
event-below t m (Call a p s q) h order may = omega (arith, may.0)
event-below t m (Exit a) h order may = let below = now-below a h m order may in below
event-below t m (Redo a) h order may = order.exited a may.0
event-below t m (Fail a) h order may = now-below a h m order may
event-below t m (Excp a) h order may = now-below a h m order may
event-below t m (Alloc a w) h order may = now-below a h m order may

longer : (e : Event) (h : List Event) → length (activations h) ≤ length (activations (e ∷ h))
longer (Call a p s q) h = omega arith
longer (Exit a) h = omega arith
longer (Redo a) h = omega arith
longer (Fail a) h = omega arith
longer (Excp a) h = omega arith
longer (Alloc a w) h = omega arith

pub sum-agree : (t : SiteTable) (f g : ℕ → Bool) (m : Measure) (h : List Event) → IsPortHistory t h → ((b : ℕ) → b < length (activations h) → f b ≡ g b) → sum_where f m h ≡ sum_where g m h
sum-agree t f g m [] is same = refl
sum-agree t f g m (e ∷ h) is same =
    let here = same (activation_of e) (event-below t t.main e h (orderly t t.main h is.0) is.1) in
    let before = sum-agree t f g m h is.0 (λ b below. same b (omega (arith, longer e h))) in
    ap (λ (b : Bool). cond b (amount m e) 0 + sum_where f m h) here ∙ ap (λ n. cond (g (activation_of e)) (amount m e) 0 + n) before

-- tests that agree on those called so far give the same counts
pub counts-agree : (t : SiteTable) (f g : ℕ → Bool) (h : List Event) → IsPortHistory t h → ((b : ℕ) → b < length (activations h) → f b ≡ g b) → counts_where f h ≡ counts_where g h
counts-agree t f g h is same =
    let k = λ (m : Measure). ap capped (sum-agree t f g m h is same) in
    same-counts _ _ (k Calls) (k Exits) (k Fails) (k Redos) (k Allocs) (k Words) (k Excps)
