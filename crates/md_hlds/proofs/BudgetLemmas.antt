-- Two budgets, and one program: the run within the smaller one is a front of the other, and no run comes to a Deep.
use Rattle.std.proofs.Common.{◌≡◌, refl, ap, sym, ◌∙◌, subst, arith, ℕ, zero, suc, ◌+◌, ◌-◌, ◌<◌, ◌≤◌, Bool, true, false, [], ◌∷◌, ◌++◌, Option, Some, None, length, append-nil, nat_le, is_some}
use Rattle.std.proofs.lemmas.Bool.{leb-true, true≢false}
use Rattle.md_hlds.specs.Hlds.{Hlds, Procedure, procedure_called}
use Rattle.md_hlds.specs.Value.{Env}
use Rattle.md_hlds.specs.Trace.{Item, Turn, Call, Exit, Redo, Fail, Excp, Alloc, Out, Throw, Answer, Stuck, Deep, Items, first, trace}
use Rattle.md_hlds.specs.HldsGoal.{site_count}
use Rattle.md_hlds.specs.Run.{cut, cut_turn, is_finished, error, HasNoDeep, IsFrontUpToItsEnd, main_name, main_frame, main_items, run_main, run}
use Rattle.md_hlds.proofs.DepthLemmas.{AreExcps, Agree, ends, last_turn, turn, calls, exits, redoes, fails, allocates, writes, answers, throws, sticks, trace_agree}
use Rattle.md_hlds.proofs.TraceLemmas.{cut_allowed, cut_refused}

-- how main ends
abbrev pub won : Env → ℕ → Items
won e k = Exit 0 ∷ Answer e ∷ []

abbrev pub lost : ℕ → Items
lost k = Fail 0 ∷ []

-- ---- fronts

same_items : (xs : Items) → IsFrontUpToItsEnd xs xs
same_items xs = record { rest = []; front = sym (append-nil xs); finished = λ is. refl; thrown = λ is. refl }

nothing_yet : (xs : Items) → IsFrontUpToItsEnd [] xs
nothing_yet xs = record { rest = xs; front = refl; finished = λ is. absurd (true≢false (sym is)); thrown = λ is. absurd (true≢false (sym is)) }

-- one item before both, which is neither an answer nor a Throw
one_more : (x : Item) (us vs : Items) → ((ws : Items) → is_finished (x ∷ ws) ≡ is_finished ws) → ((ws : Items) → error (x ∷ ws) ≡ error ws)
    → IsFrontUpToItsEnd us vs → IsFrontUpToItsEnd (x ∷ us) (x ∷ vs)
one_more x us vs f t h = record {
  rest = h.rest;
  front = ap (λ ws. x ∷ ws) h.front;
  finished = λ is. ap (λ ws. x ∷ ws) (h.finished (sym (f us) ∙ is));
  thrown = λ is. ap (λ ws. x ∷ ws) (h.thrown (ap (λ o. is_some o) (sym (t us)) ∙ is));
}

cut_excps : (left right : ℕ) (xs : Items) → AreExcps xs → cut left xs ≡ cut right xs
cut_excps left right [] p = refl
cut_excps left right (Excp a ∷ xs) p = ap (λ ws. Excp a ∷ ws) (cut_excps left right xs p)
cut_excps left right (Turn a goal weight ∷ xs) p = elim p [ ]
cut_excps left right (Call a parent site procedure ∷ xs) p = elim p [ ]
cut_excps left right (Exit a ∷ xs) p = elim p [ ]
cut_excps left right (Redo a ∷ xs) p = elim p [ ]
cut_excps left right (Fail a ∷ xs) p = elim p [ ]
cut_excps left right (Alloc a words ∷ xs) p = elim p [ ]
cut_excps left right (Out bytes ∷ xs) p = elim p [ ]
cut_excps left right (Throw bytes ∷ xs) p = elim p [ ]
cut_excps left right (Answer e ∷ xs) p = elim p [ ]
cut_excps left right (Stuck ∷ xs) p = elim p [ ]
cut_excps left right (Deep ∷ xs) p = elim p [ ]

-- a turn, by whether the smaller budget allows it
fronts_turn : (left right a : ℕ) (g : Option ℕ) (w : ℕ) (us vs : Items) → left ≤ right → (fits : Bool) → nat_le (suc w) left ≡ fits
    → (suc w ≤ left → IsFrontUpToItsEnd (cut (left - suc w) us) (cut (right - suc w) vs))
    → IsFrontUpToItsEnd (cut_turn a g (suc w) (cut (left - suc w) us) fits) (cut right (Turn a g (suc w) ∷ vs))
fronts_turn left right a g w us vs le false is h = nothing_yet _
fronts_turn left right a g w us vs le true is h =
    let below : suc w ≤ left = leb-true (suc w) left is in
    let both : suc w ≤ right = omega (arith, below, le) in
    rw (cut_allowed right a g (suc w) vs both)
    (one_more (Turn a g (suc w)) _ _ (λ ws. refl) (λ ws. refl) (h below))

pub fronts : (n left right : ℕ) (xs ys : Items) (k : ℕ) → Agree n xs ys → left ≤ n → left ≤ right
    → IsFrontUpToItsEnd (cut left (first xs k won lost [])) (cut right (first ys k won lost []))
fronts n left right _ _ k (ends _) le lr = same_items _
fronts zero left right _ _ k (last_turn a g w xs ys) le lr =
    let over : left < suc w = omega (arith, le) in
    rw (cut_refused left a g (suc w) (first xs k won lost []) over) (nothing_yet _)
fronts (suc n) left right _ _ k (turn _ a g w xs ys h) le lr =
    fronts_turn left right a g w _ _ lr (nat_le (suc w) left) refl
    (λ fits. fronts n (left - suc w) (right - suc w) xs ys k h (omega (arith, le, fits)) (omega (arith, lr)))
fronts n left right _ _ k (calls _ a p s q xs ys h) le lr = one_more (Call a p s q) _ _ (λ ws. refl) (λ ws. refl) (fronts n left right xs ys (suc k) h le lr)
fronts n left right _ _ k (exits _ a xs ys h) le lr = one_more (Exit a) _ _ (λ ws. refl) (λ ws. refl) (fronts n left right xs ys k h le lr)
fronts n left right _ _ k (redoes _ a xs ys h) le lr = one_more (Redo a) _ _ (λ ws. refl) (λ ws. refl) (fronts n left right xs ys k h le lr)
fronts n left right _ _ k (fails _ a xs ys h) le lr = one_more (Fail a) _ _ (λ ws. refl) (λ ws. refl) (fronts n left right xs ys k h le lr)
fronts n left right _ _ k (allocates _ a w xs ys h) le lr = one_more (Alloc a w) _ _ (λ ws. refl) (λ ws. refl) (fronts n left right xs ys k h le lr)
fronts n left right _ _ k (writes _ bytes xs ys h) le lr = one_more (Out bytes) _ _ (λ ws. refl) (λ ws. refl) (fronts n left right xs ys k h le lr)
fronts n left right _ _ k (answers _ e xs ys h) le lr = same_items _
fronts n left right _ _ k (throws _ bytes xs p) le lr =
    subst (λ ws. IsFrontUpToItsEnd (Throw bytes ∷ cut left (xs ++ [])) (Throw bytes ∷ ws)) (cut_excps left right (xs ++ []) (rw (append-nil xs) p))
    (same_items _)
fronts n left right _ _ k (sticks _) le lr = same_items _

-- ---- no Deep

deep_turn : (left a : ℕ) (g : Option ℕ) (w : ℕ) (us : Items) (fits : Bool) → nat_le (suc w) left ≡ fits → (suc w ≤ left → HasNoDeep (cut (left - suc w) us))
    → HasNoDeep (cut_turn a g (suc w) (cut (left - suc w) us) fits)
deep_turn left a g w us false is h = tt
deep_turn left a g w us true is h = h (leb-true (suc w) left is)

deep_excps : (left : ℕ) (xs : Items) → AreExcps xs → HasNoDeep (cut left xs)
deep_excps left [] p = tt
deep_excps left (Excp a ∷ xs) p = deep_excps left xs p
deep_excps left (Turn a goal weight ∷ xs) p = elim p [ ]
deep_excps left (Call a parent site procedure ∷ xs) p = elim p [ ]
deep_excps left (Exit a ∷ xs) p = elim p [ ]
deep_excps left (Redo a ∷ xs) p = elim p [ ]
deep_excps left (Fail a ∷ xs) p = elim p [ ]
deep_excps left (Alloc a words ∷ xs) p = elim p [ ]
deep_excps left (Out bytes ∷ xs) p = elim p [ ]
deep_excps left (Throw bytes ∷ xs) p = elim p [ ]
deep_excps left (Answer e ∷ xs) p = elim p [ ]
deep_excps left (Stuck ∷ xs) p = elim p [ ]
deep_excps left (Deep ∷ xs) p = elim p [ ]

pub no_deep : (n left : ℕ) (xs ys : Items) (k : ℕ) → Agree n xs ys → left ≤ n → HasNoDeep (cut left (first xs k won lost []))
no_deep n left _ _ k (ends _) le = tt
no_deep zero left _ _ k (last_turn a g w xs ys) le =
    let over : left < suc w = omega (arith, le) in
    rw (cut_refused left a g (suc w) (first xs k won lost []) over) tt
no_deep (suc n) left _ _ k (turn _ a g w xs ys h) le =
    deep_turn left a g w _ (nat_le (suc w) left) refl (λ fits. no_deep n (left - suc w) xs ys k h (omega (arith, le, fits)))
no_deep n left _ _ k (calls _ a p s q xs ys h) le = no_deep n left xs ys (suc k) h le
no_deep n left _ _ k (exits _ a xs ys h) le = no_deep n left xs ys k h le
no_deep n left _ _ k (redoes _ a xs ys h) le = no_deep n left xs ys k h le
no_deep n left _ _ k (fails _ a xs ys h) le = no_deep n left xs ys k h le
no_deep n left _ _ k (allocates _ a w xs ys h) le = no_deep n left xs ys k h le
no_deep n left _ _ k (writes _ bytes xs ys h) le = no_deep n left xs ys k h le
no_deep n left _ _ k (answers _ e xs ys h) le = tt
no_deep n left _ _ k (throws _ bytes xs p) le = deep_excps left (xs ++ []) (rw (append-nil xs) p)
no_deep n left _ _ k (sticks _) le = tt

-- ---- the run

-- without a budget no turn is made
none_deep : (a : ℕ) (g : Option ℕ) (w : ℕ) (xs : Items) → HasNoDeep (cut 0 (Turn a g (suc w) ∷ xs))
none_deep a g w xs = subst HasNoDeep (sym (cut_refused 0 a g (suc w) xs (omega arith))) tt

none_fronts : (a : ℕ) (g : Option ℕ) (w : ℕ) (xs ys : Items) → IsFrontUpToItsEnd (cut 0 (Turn a g (suc w) ∷ xs)) ys
none_fronts a g w xs ys = subst (λ us. IsFrontUpToItsEnd us ys) (sym (cut_refused 0 a g (suc w) xs (omega arith))) (nothing_yet ys)

-- main's trace to a depth, and what follows main's turn
abbrev main_trace : Hlds → ℕ → ℕ × Procedure → Items
main_trace s depth m = trace s depth (main_frame s m) [] 1

abbrev after_main : Hlds → ℕ → ℕ × Procedure → Items
after_main s depth m = Call 0 None None m.0 ∷ first (main_trace s depth m) 1 won lost []

-- main's weight less one
abbrev main_extra : ℕ × Procedure → ℕ
main_extra m = length m.1.vars + site_count m.1.body

main_deep : (s : Hlds) (budget : ℕ) (m : ℕ × Procedure) → HasNoDeep (cut budget (main_items s budget m))
main_deep s zero m = none_deep 0 None (main_extra m) (after_main s 0 m)
main_deep s (suc b) m =
    deep_turn (suc b) 0 None (main_extra m) (after_main s (suc b) m) (nat_le (suc (main_extra m)) (suc b)) refl
    (λ fits. no_deep b (suc b - suc (main_extra m)) (main_trace s (suc b) m) (main_trace s (suc b) m) 1
    (trace_agree s b b b (omega arith) (omega arith) (main_frame s m) [] 1) (omega (arith, fits)))

run_deep : (s : Hlds) (budget : ℕ) (m : Option (ℕ × Procedure)) → HasNoDeep (run_main s budget m)
run_deep s budget None = tt
run_deep s budget (Some m) = main_deep s budget m

pub depths : (s : Hlds) (budget : ℕ) → HasNoDeep (run s budget)
unfolding run
depths s budget = run_deep s budget (procedure_called s main_name)

main_fronts : (s : Hlds) (b c : ℕ) (m : ℕ × Procedure) → b ≤ c → IsFrontUpToItsEnd (cut b (main_items s b m)) (cut c (main_items s c m))
main_fronts s zero c m le = none_fronts 0 None (main_extra m) (after_main s 0 m) (cut c (main_items s c m))
main_fronts s (suc b) zero m le = absurd (omega (arith, le))
main_fronts s (suc b) (suc c) m le =
    fronts_turn (suc b) (suc c) 0 None (main_extra m) (after_main s (suc b) m) (after_main s (suc c) m) le (nat_le (suc (main_extra m)) (suc b)) refl
    (λ fits. one_more (Call 0 None None m.0)
    (cut (suc b - suc (main_extra m)) (first (main_trace s (suc b) m) 1 won lost []))
    (cut (suc c - suc (main_extra m)) (first (main_trace s (suc c) m) 1 won lost []))
    (λ ws. refl) (λ ws. refl)
    (fronts b (suc b - suc (main_extra m)) (suc c - suc (main_extra m)) (main_trace s (suc b) m) (main_trace s (suc c) m) 1
    (trace_agree s b b c (omega arith) (omega (arith, le)) (main_frame s m) [] 1) (omega (arith, fits)) (omega (arith, le))))

run_fronts : (s : Hlds) (b c : ℕ) (m : Option (ℕ × Procedure)) → b ≤ c → IsFrontUpToItsEnd (run_main s b m) (run_main s c m)
run_fronts s b c None le = same_items []
run_fronts s b c (Some m) le = main_fronts s b c m le

pub budgets : (s : Hlds) (b c : ℕ) → b ≤ c → IsFrontUpToItsEnd (run s b) (run s c)
unfolding run
budgets s b c le = run_fronts s b c (procedure_called s main_name) le
