-- After a history in which nothing runs, each activation has ended.
use Rattle.std.proofs.Common.{ℕ, suc, ◌≡◌, ◌≢◌, ◌<◌, ◌⊎◌, inl, inr, eqb, if◌then◌else◌, List, [], ◌∷◌, length, Option, Some, None, slice_get, refl, sym, ap, ◌∙◌, subst, arith}
use Rattle.std.proofs.lemmas.Bool.Decides.{eqb_tells}
use Rattle.std.proofs.lemmas.Bool.{eq-eqb, ne_eqb}
use Rattle.md_trace.specs.declared.event.Event.{Event}
use Rattle.md_trace.specs.declared.event.Event.TheVariants.{Call, Exit, Redo, Fail, Excp, Alloc}
use Rattle.md_trace.specs.Activation.{Activation, activations, numbered, parent_of}
use Rattle.md_trace.specs.PortHistory.{SiteTable, IsPortHistory, current}
use Rattle.md_trace.specs.Balance.{last_port, ActivationsEnd, CutOnesHaveExited}
use Rattle.md_trace.proofs.Numbered.{numbered-new, numbered-more, numbered-below, numbered-there}
use Rattle.md_trace.proofs.Histories.{orderly, all-at}

-- activation a is the second, or called it, or called who called it, and so on
data Runs (xs : List Activation) : Option ℕ → ℕ → Type 0 where
  itself : (a : ℕ) → Runs xs (Some a) a
  above : (b a : ℕ) (y : Activation) → numbered xs b ≡ Some y → Runs xs y.parent a → Runs xs (Some b) a

-- one more activation ends nobody
runs-more : (x : Activation) (xs : List Activation) (o : Option ℕ) (a : ℕ) → Runs xs o a → Runs (x ∷ xs) o a
runs-more x xs _ _ (itself a) = itself a
runs-more x xs _ _ (above b a y is more) = above b a y (numbered-more x xs b (numbered-below xs b y is) ∙ is) (runs-more x xs y.parent a more)

-- nobody runs above none
runs-none : (xs : List Activation) (o : Option ℕ) (a : ℕ) → Runs xs o a → o ≢ None
runs-none xs _ _ (itself a) e = absurd (cc)
runs-none xs _ _ (above b a y is more) e = absurd (cc)

-- who runs is the current activation, or runs above its parent
runs-either : (xs : List Activation) (o : Option ℕ) (a b : ℕ) → Runs xs o a → o ≡ Some b → (a ≡ b) ⊎ Runs xs (parent_of xs b) a
runs-either xs _ _ b (itself a) e = inl (cc)
runs-either xs _ _ b (above c a y is more) e =
    let same : c ≡ b = cc in
    let at : parent_of xs b ≡ y.parent = rw (sym same) (rw is) in
    let P : Option ℕ → Type 0 = λ o. Runs xs o a in
    inr (subst P (sym at) more)

-- the last port of an activation is one that leaves it
abbrev HasEnded : Option Event → ℕ → Type 0
HasEnded o a = (o ≡ Some (Exit a)) ⊎ (o ≡ Some (Fail a)) ⊎ (o ≡ Some (Excp a))

-- each activation has ended, or is in the current chain
abbrev IsKnown : List Event → ℕ → Type 0
IsKnown h a = HasEnded (last_port h a) a ⊎ Runs (activations h) (current h) a

-- an activation leaves: it has ended, and who else ran still runs
left-by : (xs : List Activation) (now : Option ℕ) (b a : ℕ) (old new : Option Event) → now ≡ Some b → HasEnded old a ⊎ Runs xs now a →
    (a ≡ b → HasEnded new a) → (a ≢ b → new ≡ old) → HasEnded new a ⊎ Runs xs (parent_of xs b) a
left-by xs now b a old new is (inl ended) mine other =
    elim (eqb_tells a b) [
      | inl p ↦ inl (mine p.1)
      | inr p ↦ let P : Option Event → Type 0 = λ o. HasEnded o a in inl (subst P (sym (other p.1)) ended)
    ]
left-by xs now b a old new is (inr runs) mine other =
    elim (runs-either xs now a b runs is) [
      | inl same ↦ inl (mine same)
      | inr more ↦ inr more
    ]

-- an activation's own last port, and those of others
port-mine : (a b : ℕ) (new old : Option Event) → a ≡ b → (if eqb a b then new else old) ≡ new
port-mine a b new old same = rw (eq-eqb a b same)

port-other : (a b : ℕ) (new old : Option Event) → a ≢ b → (if eqb a b then new else old) ≡ old
port-other a b new old other = rw (ne_eqb a b other)

known-call : (t : SiteTable) (h : List Event) (b : ℕ) (p s : Option ℕ) (q a : ℕ) → IsPortHistory t (Call b p s q ∷ h) → (a < length (activations h) → IsKnown h a) → a < suc (length (activations h)) → IsKnown (Call b p s q ∷ h) a
known-call t h b p s q a is before below =
    let x : Activation = record { parent = p; site = s; procedure = q } in
    let xs = activations h in
    elim (eqb_tells a b) [
      | inl e ↦ let P : ℕ → Type 0 = λ n. Runs (x ∷ xs) (Some b) n in inr (subst P (sym e.1) (itself b))
      | inr e ↦
          let known = before (omega (arith, is.1.0, e.1)) in
          elim known [
            | inl ended ↦ let P : Option Event → Type 0 = λ o. HasEnded o a in inl (subst P (sym (port-other a b (Some (Call b p s q)) (last_port h a) e.1)) ended)
            | inr runs ↦
                let at : numbered (x ∷ xs) b ≡ Some x = ap (numbered (x ∷ xs)) is.1.0 ∙ numbered-new x xs in
                let Q : Option ℕ → Type 0 = λ o. Runs (x ∷ xs) o a in
                inr (above b a x at (subst Q (sym is.1.2) (runs-more x xs (current h) a runs)))
          ]
    ]

known-redo : (t : SiteTable) (h : List Event) (b a : ℕ) → IsPortHistory t (Redo b ∷ h) → IsKnown h a → IsKnown (Redo b ∷ h) a
known-redo t h b a is known =
    let xs = activations h in
    elim (eqb_tells a b) [
      | inl e ↦ let P : ℕ → Type 0 = λ n. Runs xs (Some b) n in inr (subst P (sym e.1) (itself b))
      | inr e ↦
          elim known [
            | inl ended ↦ let P : Option Event → Type 0 = λ o. HasEnded o a in inl (subst P (sym (port-other a b (Some (Redo b)) (last_port h a) e.1)) ended)
            | inr runs ↦
                let y = numbered-there xs b ((orderly t t.main h is.0).exited b is.1.0) in
                let at : parent_of xs b ≡ y.0.parent = rw y.1 in
                let Q : Option ℕ → Type 0 = λ o. Runs xs o a in
                inr (above b a y.0 y.1 (subst Q (is.1.1.2 ∙ sym is.1.1.1 ∙ at) runs))
          ]
    ]

known : (t : SiteTable) (h : List Event) (a : ℕ) → IsPortHistory t h → a < length (activations h) → IsKnown h a
known t [] a is below = absurd (omega arith)
known t (Call b p s q ∷ h) a is below = known-call t h b p s q a is (λ older. known t h a is.0 older) below
known t (Exit b ∷ h) a is below =
    left-by (activations h) (current h) b a (last_port h a) _ is.1 (known t h a is.0 below)
    (λ e. inl (port-mine a b (Some (Exit b)) (last_port h a) e ∙ ap (λ n. Some (Exit n)) (sym e))) (λ e. port-other a b (Some (Exit b)) (last_port h a) e)
known t (Redo b ∷ h) a is below = known-redo t h b a is (known t h a is.0 below)
known t (Fail b ∷ h) a is below =
    left-by (activations h) (current h) b a (last_port h a) _ is.1 (known t h a is.0 below)
    (λ e. inr (inl (port-mine a b (Some (Fail b)) (last_port h a) e ∙ ap (λ n. Some (Fail n)) (sym e)))) (λ e. port-other a b (Some (Fail b)) (last_port h a) e)
known t (Excp b ∷ h) a is below =
    left-by (activations h) (current h) b a (last_port h a) _ is.1 (known t h a is.0 below)
    (λ e. inr (inr (port-mine a b (Some (Excp b)) (last_port h a) e ∙ ap (λ n. Some (Excp n)) (sym e)))) (λ e. port-other a b (Some (Excp b)) (last_port h a) e)
known t (Alloc b w ∷ h) a is below = known t h a is.0 below

pub activations-end : ActivationsEnd
activations-end t h a is now below =
    elim (known t h a is below) [
      | inl ended ↦ ended
      | inr runs ↦ absurd (runs-none (activations h) (current h) a runs now)
    ]

-- a last port is an event of the history
last-among : (h : List Event) (a : ℕ) (e : Event) → last_port h a ≡ Some e → (k : ℕ) × (slice_get h k ≡ Some e)
last-among [] a e is = absurd (cc)
last-among (Call b p s q ∷ h) a e is =
    elim (eqb_tells a b) [ inl x ↦ (0, rw x.0 at is) | inr x ↦ let older = rw x.0 at is in let k = last-among h a e older in (suc k.0, k.1) ]
last-among (Exit b ∷ h) a e is =
    elim (eqb_tells a b) [ inl x ↦ (0, rw x.0 at is) | inr x ↦ let older = rw x.0 at is in let k = last-among h a e older in (suc k.0, k.1) ]
last-among (Redo b ∷ h) a e is =
    elim (eqb_tells a b) [ inl x ↦ (0, rw x.0 at is) | inr x ↦ let older = rw x.0 at is in let k = last-among h a e older in (suc k.0, k.1) ]
last-among (Fail b ∷ h) a e is =
    elim (eqb_tells a b) [ inl x ↦ (0, rw x.0 at is) | inr x ↦ let older = rw x.0 at is in let k = last-among h a e older in (suc k.0, k.1) ]
last-among (Excp b ∷ h) a e is =
    elim (eqb_tells a b) [ inl x ↦ (0, rw x.0 at is) | inr x ↦ let older = rw x.0 at is in let k = last-among h a e older in (suc k.0, k.1) ]
last-among (Alloc b w ∷ h) a e is = let k = last-among h a e is in (suc k.0, k.1)

pub cut-ones-have-exited : CutOnesHaveExited
cut-ones-have-exited t h a is now below cut =
    let P : Event → Type 0 = λ e. (e ≢ Fail a) × (e ≢ Excp a) in
    elim (activations-end t h a is now below) [
      | inl exit ↦ exit
      | inr (inl fail) ↦ let k = last-among h a (Fail a) fail in absurd ((all-at P h k.0 (Fail a) cut k.1).0 refl)
      | inr (inr excp) ↦ let k = last-among h a (Excp a) excp in absurd ((all-at P h k.0 (Excp a) cut k.1).1 refl)
    ]
