-- How each event changes the counts of the activations that pass a test of what they are.
use Rattle.std.proofs.Common.{ℕ, ◌≡◌, ◌<◌, Bool, true, false, List, ◌∷◌, length, Option, Some, ap, ◌∙◌, subst, arith}
use Rattle.md_base.specs.declared.measure.Measure.TheVariants.{Calls, Exits, Fails, Redos, Allocs, Words, Excps}
use Rattle.md_trace.specs.declared.event.Event.{Event}
use Rattle.md_trace.specs.declared.event.Event.TheVariants.{Call, Exit, Redo, Fail, Excp, Alloc}
use Rattle.md_trace.specs.Activation.{activations, numbered}
use Rattle.md_trace.specs.PortHistory.{SiteTable, IsPortHistory}
use Rattle.md_trace.specs.Context.{Placed, place, link_of, placed_of}
use Rattle.md_trace.specs.Count.{passes, passing, with_more, counts_where, set_counts}
use Rattle.md_trace.proofs.Numbered.{numbered-new, numbered-more}
use Rattle.md_trace.proofs.Placing.{length-placed}
use Rattle.md_trace.proofs.Counting.{counts-other, counts-call, counts-exit, counts-fail, counts-excp, counts-redo, counts-alloc, counts-agree}

-- the test of an activation's number is that of the activation
pub passing-at : (xs : List Placed) (test : Placed → Bool) (a : ℕ) (y : Placed) (b : Bool) → numbered xs a ≡ Some y → test y ≡ b → passing xs test a ≡ b
passing-at xs test a y b is good = ap (passes test) is ∙ good

-- one more activation changes no earlier test
pub passing-more : (x : Placed) (xs : List Placed) (test : Placed → Bool) (a : ℕ) → a < length xs → passing (x ∷ xs) test a ≡ passing xs test a
passing-more x xs test a below = ap (passes test) (numbered-more x xs a below)

-- the activation that a call begins, in its context
abbrev pub newest : ℕ → List Event → Option ℕ → Option ℕ → ℕ → Placed
newest m h p s q = place m (placed_of m h) p (link_of (placed_of m h) (record { parent = p; site = s; procedure = q }))

module _ (t : SiteTable) (m : ℕ) (test : Placed → Bool) (h : List Event) where
  pub set-exit : (a : ℕ) (y : Placed) → numbered (placed_of m h) a ≡ Some y → test y ≡ true → set_counts m (Exit a ∷ h) test ≡ with_more (set_counts m h test) Exits 1
  set-exit a y is good = counts-exit (passing (placed_of m h) test) a h (passing-at (placed_of m h) test a y true is good)

  pub set-fail : (a : ℕ) (y : Placed) → numbered (placed_of m h) a ≡ Some y → test y ≡ true → set_counts m (Fail a ∷ h) test ≡ with_more (set_counts m h test) Fails 1
  set-fail a y is good = counts-fail (passing (placed_of m h) test) a h (passing-at (placed_of m h) test a y true is good)

  pub set-excp : (a : ℕ) (y : Placed) → numbered (placed_of m h) a ≡ Some y → test y ≡ true → set_counts m (Excp a ∷ h) test ≡ with_more (set_counts m h test) Excps 1
  set-excp a y is good = counts-excp (passing (placed_of m h) test) a h (passing-at (placed_of m h) test a y true is good)

  pub set-redo : (a : ℕ) (y : Placed) → numbered (placed_of m h) a ≡ Some y → test y ≡ true → set_counts m (Redo a ∷ h) test ≡ with_more (set_counts m h test) Redos 1
  set-redo a y is good = counts-redo (passing (placed_of m h) test) a h (passing-at (placed_of m h) test a y true is good)

  pub set-alloc : (a w : ℕ) (y : Placed) → numbered (placed_of m h) a ≡ Some y → test y ≡ true → set_counts m (Alloc a w ∷ h) test ≡ with_more (with_more (set_counts m h test) Allocs 1) Words w
  set-alloc a w y is good = counts-alloc (passing (placed_of m h) test) a w h (passing-at (placed_of m h) test a y true is good)

  pub set-exit-other : (a : ℕ) (y : Placed) → numbered (placed_of m h) a ≡ Some y → test y ≡ false → set_counts m (Exit a ∷ h) test ≡ set_counts m h test
  set-exit-other a y is fails = counts-other (passing (placed_of m h) test) (Exit a) h (passing-at (placed_of m h) test a y false is fails)

  pub set-fail-other : (a : ℕ) (y : Placed) → numbered (placed_of m h) a ≡ Some y → test y ≡ false → set_counts m (Fail a ∷ h) test ≡ set_counts m h test
  set-fail-other a y is fails = counts-other (passing (placed_of m h) test) (Fail a) h (passing-at (placed_of m h) test a y false is fails)

  pub set-excp-other : (a : ℕ) (y : Placed) → numbered (placed_of m h) a ≡ Some y → test y ≡ false → set_counts m (Excp a ∷ h) test ≡ set_counts m h test
  set-excp-other a y is fails = counts-other (passing (placed_of m h) test) (Excp a) h (passing-at (placed_of m h) test a y false is fails)

  pub set-redo-other : (a : ℕ) (y : Placed) → numbered (placed_of m h) a ≡ Some y → test y ≡ false → set_counts m (Redo a ∷ h) test ≡ set_counts m h test
  set-redo-other a y is fails = counts-other (passing (placed_of m h) test) (Redo a) h (passing-at (placed_of m h) test a y false is fails)

  pub set-alloc-other : (a w : ℕ) (y : Placed) → numbered (placed_of m h) a ≡ Some y → test y ≡ false → set_counts m (Alloc a w ∷ h) test ≡ set_counts m h test
  set-alloc-other a w y is fails = counts-other (passing (placed_of m h) test) (Alloc a w) h (passing-at (placed_of m h) test a y false is fails)

  -- the counts of the older activations are those of the history before
  older-same : (x : Placed) → IsPortHistory t h → counts_where (passing (x ∷ placed_of m h) test) h ≡ set_counts m h test
  older-same x is =
      counts-agree t (passing (x ∷ placed_of m h) test) (passing (placed_of m h) test) h is (λ b below. passing-more x (placed_of m h) test b (omega (arith, length-placed m (activations h))))

  newest-passes : (p s : Option ℕ) (q : ℕ) (b : Bool) → test (newest m h p s q) ≡ b → passing (newest m h p s q ∷ placed_of m h) test (length (activations h)) ≡ b
  newest-passes p s q b is =
      let x = newest m h p s q in
      let R : ℕ → Type 0 = λ n. numbered (x ∷ placed_of m h) n ≡ Some x in
      passing-at (x ∷ placed_of m h) test (length (activations h)) x b (subst R (length-placed m (activations h)) (numbered-new x (placed_of m h))) is

  pub set-call : (p s : Option ℕ) (q : ℕ) → IsPortHistory t h → test (newest m h p s q) ≡ true → set_counts m (Call (length (activations h)) p s q ∷ h) test ≡ with_more (set_counts m h test) Calls 1
  set-call p s q is good =
      counts-call (passing (newest m h p s q ∷ placed_of m h) test) (length (activations h)) p s q h (newest-passes p s q true good)
      ∙ ap (λ c. with_more c Calls 1) (older-same (newest m h p s q) is)

  pub set-call-other : (p s : Option ℕ) (q : ℕ) → IsPortHistory t h → test (newest m h p s q) ≡ false → set_counts m (Call (length (activations h)) p s q ∷ h) test ≡ set_counts m h test
  set-call-other p s q is fails =
      counts-other (passing (newest m h p s q ∷ placed_of m h) test) (Call (length (activations h)) p s q) h (newest-passes p s q false fails)
      ∙ older-same (newest m h p s q) is
