-- No goal has more turns in a run than its budget, since each turn costs 1 or more.
use Rattle.std.proofs.Common.{◌≡◌, refl, arith, ℕ, zero, suc, ◌+◌, ◌-◌, ◌<◌, ◌≤◌, Bool, true, false, cond, nat_eq, nat_le, [], ◌∷◌, ◌++◌, Option, Some, None, length}
use Rattle.std.proofs.lemmas.Bool.{leb-true}
use Rattle.md_hlds.specs.HldsGoal.{site_count}
use Rattle.md_hlds.specs.Hlds.{Hlds, Procedure, procedure_called}
use Rattle.md_hlds.specs.Trace.{Turn, Call, Exit, Redo, Fail, Excp, Alloc, Out, Throw, Answer, Stuck, Deep, Items, first, trace}
use Rattle.md_hlds.specs.Run.{cut, cut_turn, main_name, main_frame, main_items, run_main, run}
use Rattle.md_hlds.proofs.BudgetLemmas.{won, lost}
use Rattle.md_hlds.proofs.DepthLemmas.{AreExcps, Agree, ends, last_turn, turn, calls, exits, redoes, fails, allocates, writes, answers, throws, sticks, trace_agree}
use Rattle.md_hlds.proofs.TraceLemmas.{cut_refused}
use Rattle.law_turns.specs.Counts.{turns_of}

no_turns : (left g : ℕ) (xs : Items) → AreExcps xs → turns_of (cut left (xs ++ [])) g ≡ 0
no_turns left g [] h = refl
no_turns left g (Excp a ∷ xs) h = no_turns left g xs h
no_turns left g (Turn a p w ∷ xs) h = elim h [ ]
no_turns left g (Call a p x q ∷ xs) h = elim h [ ]
no_turns left g (Exit a ∷ xs) h = elim h [ ]
no_turns left g (Redo a ∷ xs) h = elim h [ ]
no_turns left g (Fail a ∷ xs) h = elim h [ ]
no_turns left g (Alloc a w ∷ xs) h = elim h [ ]
no_turns left g (Out bytes ∷ xs) h = elim h [ ]
no_turns left g (Throw bytes ∷ xs) h = elim h [ ]
no_turns left g (Answer e ∷ xs) h = elim h [ ]
no_turns left g (Stuck ∷ xs) h = elim h [ ]
no_turns left g (Deep ∷ xs) h = elim h [ ]

at_most_one : (b : Bool) → cond b 1 0 ≤ 1
at_most_one true = omega arith
at_most_one false = omega arith

-- one turn, and then as many as are left
one_turn : (left a : ℕ) (p : Option ℕ) (w g : ℕ) (rest : Items) (fits : Bool) → nat_le (suc w) left ≡ fits → (suc w ≤ left → turns_of rest g ≤ left - suc w) → turns_of (cut_turn a p (suc w) rest fits) g ≤ left
one_turn left a p w g rest false is h = omega arith
one_turn left a None w g rest true is h = let fits = leb-true (suc w) left is in let more = h fits in omega (arith, fits, more)
one_turn left a (Some n) w g rest true is h = let fits = leb-true (suc w) left is in let more = h fits in let one = at_most_one (nat_eq n g) in omega (arith, fits, more, one)

few : (n left g : ℕ) (xs ys : Items) (k : ℕ) → Agree n xs ys → left ≤ n → turns_of (cut left (first xs k won lost [])) g ≤ left
few n left g _ _ k (ends _) le = omega arith
few zero left g _ _ k (last_turn a p w xs ys) le =
    let over : left < suc w = omega (arith, le) in
    rw (cut_refused left a p (suc w) (first xs k won lost []) over) (omega arith)
few (suc n) left g _ _ k (turn _ a p w xs ys h) le =
    one_turn left a p w g (cut (left - suc w) (first xs k won lost [])) (nat_le (suc w) left) refl (λ fits. few n (left - suc w) g xs ys k h (omega (arith, le, fits)))
few n left g _ _ k (calls _ a p s q xs ys h) le = few n left g xs ys (suc k) h le
few n left g _ _ k (exits _ a xs ys h) le = few n left g xs ys k h le
few n left g _ _ k (redoes _ a xs ys h) le = few n left g xs ys k h le
few n left g _ _ k (fails _ a xs ys h) le = few n left g xs ys k h le
few n left g _ _ k (allocates _ a w xs ys h) le = few n left g xs ys k h le
few n left g _ _ k (writes _ bytes xs ys h) le = few n left g xs ys k h le
few n left g _ _ k (answers _ e xs ys h) le = omega arith
few n left g _ _ k (throws _ bytes xs p) le = let none = no_turns left g xs p in omega (arith, none)
few n left g _ _ k (sticks _) le = omega arith

abbrev main_extra : ℕ × Procedure → ℕ
main_extra m = length m.1.vars + site_count m.1.body

few_of_main : (s : Hlds) (budget g : ℕ) (m : ℕ × Procedure) → turns_of (cut budget (main_items s budget m)) g ≤ budget
few_of_main s zero g m = rw (cut_refused 0 0 None (suc (main_extra m)) (Call 0 None None m.0 ∷ first (trace s 0 (main_frame s m) [] 1) 1 won lost []) (omega arith)) (omega arith)
few_of_main s (suc b) g m =
    one_turn (suc b) 0 None (main_extra m) g (cut (suc b - suc (main_extra m)) (Call 0 None None m.0 ∷ first (trace s (suc b) (main_frame s m) [] 1) 1 won lost [])) (nat_le (suc (main_extra m)) (suc b)) refl
    (λ fits. few b (suc b - suc (main_extra m)) g (trace s (suc b) (main_frame s m) [] 1) (trace s (suc b) (main_frame s m) [] 1) 1
    (trace_agree s b b b (omega arith) (omega arith) (main_frame s m) [] 1) (omega (arith, fits)))

few_by : (s : Hlds) (budget g : ℕ) (m : Option (ℕ × Procedure)) → turns_of (run_main s budget m) g ≤ budget
few_by s budget g None = omega arith
few_by s budget g (Some m) = few_of_main s budget g m

pub few_turns : (s : Hlds) (budget g : ℕ) → turns_of (run s budget) g ≤ budget
unfolding run
few_turns s budget g = few_by s budget g (procedure_called s main_name)
