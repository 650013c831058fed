-- One more event, and the marks of the activations.
use Rattle.std.proofs.Common.{ℕ, suc, ◌+◌, ◌≡◌, ◌<◌, inl, inr, true, List, [], ◌∷◌, ◌++◌, length, reverse, take, drop, get_or, Option, Some, unwrap_or, slice_get, refl, sym, ap, ◌∙◌, subst, arith}
use Rattle.std.proofs.lemmas.List.{length-append, reverse-append, take-append-drop, take_more}
use Rattle.std.proofs.lemmas.Option.{get_or_from_slice_get}
use Rattle.md_trace.specs.declared.event.Event.{Event}
use Rattle.md_trace.specs.declared.event.Event.TheVariants.{Call, Alloc}
use Rattle.md_trace.specs.Activation.{activations}
use Rattle.md_trace.specs.PortHistory.{SiteTable, current, has_exited, MayFollow, IsPortHistory}
use Rattle.md_trace.specs.Sinks.{next_call, next_alloc}
use Rattle.md_trace.proofs.Chains.{IsBelow}
use Rattle.md_trace.proofs.Histories.{orderly}
use Rattle.md_trace.proofs.Lists.{get-there, get-push-either}
use Rattle.test_replay.specs.Replays.{AreMarks}

-- who runs was called
pub running : (t : SiteTable) (h : List Event) (a : ℕ) → IsPortHistory t h → current h ≡ Some a → a < length (activations h)
running t h a is now = let O : Option ℕ → Type 0 = λ o. IsBelow o (length (activations h)) in subst O now (orderly t t.main h is).now

-- so was who has exited
pub returned : (t : SiteTable) (h : List Event) (a : ℕ) → IsPortHistory t h → has_exited h a ≡ true → a < length (activations h)
returned t h a is out = (orderly t t.main h is).exited a out

-- a call is the next call, and an allocation the next allocation
pub the-call : (t : SiteTable) (h : List Event) (a : ℕ) (p s : Option ℕ) (q : ℕ) → MayFollow t h (Call a p s q) → Call a p s q ≡ next_call s q h
the-call t h a p s q may = ap (λ n. Call n p s q) may.0 ∙ ap (λ o. Call (length (activations h)) o s q) may.2

pub the-alloc : (h : List Event) (a w : ℕ) → current h ≡ Some a → Alloc a w ≡ next_alloc w h
the-alloc h a w now = ap (λ o. Alloc (unwrap_or o 0) w) (sym now)

-- before the first call there are no marks
pub no-marks : {M : Type 0} (belongs : M → SiteTable → List Event → ℕ → Type 0) (t : SiteTable) (marks : List M) → marks ≡ [] → AreMarks belongs marks t []
no-marks belongs t marks is = record { each = ap length is; right = λ a m at. absurd (let e : slice_get [] a ≡ Some m = ap (λ xs. slice_get xs a) (sym is) ∙ at in cc e) }

module _ {M : Type 0} (belongs : M → SiteTable → List Event → ℕ → Type 0) (t : SiteTable) (h : List Event) (e : Event) (stays : (m : M) (a : ℕ) → belongs m t h a → belongs m t (e ∷ h) a) where
  -- an event that is no call leaves the marks
  pub marks-stay : (marks : List M) → length (activations (e ∷ h)) ≡ length (activations h) → AreMarks belongs marks t h → AreMarks belongs marks t (e ∷ h)
  marks-stay marks same are = record { each = are.each ∙ sym same; right = λ a m at. stays m a (are.right a m at) }

  -- a call has one more
  pub marks-more : (marks more : List M) (new : M) → more ≡ marks ++ new ∷ [] → length (activations (e ∷ h)) ≡ suc (length (activations h)) → belongs new t (e ∷ h) (length (activations h)) → AreMarks belongs marks t h → AreMarks belongs more t (e ∷ h)
  marks-more marks more new is longer mine are =
      record {
        each = omega (arith, ap length is, length-append marks (new ∷ []), longer, are.each);
        right = λ a m at. elim (get-push-either marks new m a (ap (λ xs. slice_get xs a) (sym is) ∙ at)) [
          | inl last ↦
              let B : M → Type 0 = λ z. belongs z t (e ∷ h) a in
              let N : ℕ → Type 0 = λ n. belongs new t (e ∷ h) n in
              subst B (sym last.1) (subst N (sym (last.0 ∙ are.each)) mine)
          | inr old ↦ stays m a (are.right a m old)
        ];
      }

-- the history of some of the events, the latest first, is a port history where that of all is
pub older-history : (t : SiteTable) (new h : List Event) → IsPortHistory t (new ++ h) → IsPortHistory t h
older-history t [] h is = is
older-history t (e ∷ new) h is = older-history t new h is.0

pub first-events : (t : SiteTable) (events : List Event) (n : ℕ) → IsPortHistory t (reverse events) → IsPortHistory t (reverse (take n events))
first-events t events n is =
    let turned : reverse events ≡ reverse (drop n events) ++ reverse (take n events) = ap reverse (sym (take-append-drop n events)) ∙ reverse-append (take n events) (drop n events) in
    let P : List Event → Type 0 = λ h. IsPortHistory t h in
    older-history t (reverse (drop n events)) (reverse (take n events)) (subst P turned is)

-- an element that was read by its place
pub read-at : {A : Type 0} (xs : List A) (k : ℕ) (x : A) → k < length xs → x ≡ get_or xs k x → slice_get xs k ≡ Some x
read-at xs k x below is = let y = get-there xs k below in y.1 ∙ ap Some (sym (get_or_from_slice_get xs k y.0 x y.1) ∙ sym is)

-- the events up to the next one, turned round
pub turned-more : (events : List Event) (n : ℕ) (e : Event) → n < length events → e ≡ get_or events n e → reverse (take (n + 1) events) ≡ e ∷ reverse (take n events)
turned-more events n e below is =
    ap reverse (take_more events n e below) ∙ reverse-append (take n events) (get_or events n e ∷ []) ∙ ap (λ x. x ∷ reverse (take n events)) (sym is)

-- the next event may follow
pub next-follows : (t : SiteTable) (events : List Event) (n : ℕ) (e : Event) → n < length events → e ≡ get_or events n e → IsPortHistory t (reverse events) → MayFollow t (reverse (take n events)) e
next-follows t events n e below is history =
    let P : List Event → Type 0 = λ h. IsPortHistory t h in
    (subst P (turned-more events n e below is) (first-events t events (n + 1) history)).1

-- all events
pub all-events : (events : List Event) → take (length events) events ≡ events
all-events [] = refl
all-events (e ∷ es) = ap (λ xs. e ∷ xs) (all-events es)
