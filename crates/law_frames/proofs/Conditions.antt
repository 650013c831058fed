-- Turns of if-then-elses, negations and quantified goals.
use Rattle.std.proofs.Common.{◌≡◌, refl, ap, sym, ◌∙◌, subst, arith, ℕ, suc, ◌+◌, ◌≤◌, Bool, true, false, List, [], ◌∷◌, length, inl, inr}
use Rattle.md_hlds.specs.HldsGoal.{HldsGoal, At, IfGoal, NotGoal, SomeGoal, Numbered, numbered_goal, goal_size}
use Rattle.md_hlds.specs.Hlds.{Hlds}
use Rattle.md_hlds.specs.Trace.{Frame, doing, alone}
use Rattle.law_steps.specs.State.{Wait, Condition, Negation, Single, State}
use Rattle.law_frames.specs.Ways.{Leaves, Address, to, Way, on, holds, denies, finds, after, goals_of, part_way, condition_way, negation_way, some_way, ends, Reads, Later}
use Rattle.law_frames.specs.Stores.{Act, Choice, choice, choice_if, Store, Perm, top, KeepsHeight, heads, with_height_if}
use Rattle.law_frames.specs.Standing.{Failing, unfound, otherwise, denied, Going, going, Ending, held, refuted, found, Runs, Stands, runs}
use Rattle.law_frames.specs.Moves.{TurnsTo}
use Rattle.law_frames.proofs.Leave.{below_refl, top_above, same_refl}
use Rattle.law_frames.proofs.FrameRule.{failing_kept, going_kept, alike_refl}
use Rattle.law_frames.proofs.WayLemmas.{after_twice, later_from, ends_reads, ends_later}
use Rattle.law_frames.proofs.Ends.{placed_of, failing_of}
use Rattle.law_frames.proofs.Turning.{turns_to, goes_after, kept_after, IsPart, goes_part}
use Rattle.law_frames.proofs.Barring.{barred_if, barred_below, barred_free, kept_barred, height_same_if, keeps_height_if, fails_if, passes_if, free_if}

-- in the store where the height is kept
here_kept : {lv : Leaves} {S : Store} {W : Perm} {a : Address} {p : Numbered} {w : Way} {x : Act} {c : List Act} {cs : List Choice} {f : Frame} {js : List Frame} {ws : List Wait} (l : Bool) (h : ℕ)
    → Going lv S W (on a p w) (on a p w) x c cs f js ws → Going lv (with_height_if l S x.index (suc p.number) h) W (on a p w) (on a p w) x c cs f js ws
here_kept {S = S} {W = W} {p = p} {x = x} l h goes = going_kept goes (height_same_if l W S x.index (suc p.number) h ((placed_of goes).kept.spare p.number (placed_of goes).kept.ahead.0))

-- ---- an if-then-else

then_part : (n l : ℕ) (c t e : HldsGoal) → IsPart (numbered_goal (suc n + goal_size c) t) (numbered_goal n (At l (IfGoal c t e)))
then_part n l c t e = record { mentions = λ y m. inr (inl m); first = omega arith; last = omega arith }

else_part : (n l : ℕ) (c t e : HldsGoal) → IsPart (numbered_goal (suc n + goal_size c + goal_size t) e) (numbered_goal n (At l (IfGoal c t e)))
else_part n l c t e = record { mentions = λ y m. inr (inr m); first = omega arith; last = omega arith }

condition_reads : (hs : List ℕ) (n l : ℕ) (c t e : HldsGoal) (a b b' : Address) (part whole cut : Bool) (w : Way) (y : ℕ)
    → Reads hs (on b (numbered_goal (suc n) c) (holds b' cut n (on a (numbered_goal (suc n + goal_size c) t) (ends a part whole w)))) y → Reads hs (on a (numbered_goal n (At l (IfGoal c t e))) w) y
condition_reads hs n l c t e a b b' part whole cut w y (inl here) = inl (inl here)
condition_reads hs n l c t e a b b' part whole cut w y (inr (inl here)) = inl (inr (inl here))
condition_reads hs n l c t e a b b' part whole cut w y (inr (inr there)) = inr (ends_reads hs a part whole w y there)

condition_later : (n l : ℕ) (c t e : HldsGoal) (a : Address) (part whole : Bool) (w : Way) → Later (n + goal_size (At l (IfGoal c t e))) w
    → Later (suc n + goal_size c) (on a (numbered_goal (suc n + goal_size c) t) (ends a part whole w))
condition_later n l c t e a part whole w later = (
  omega arith,
  ends_later (suc n + goal_size c + goal_size t) a part whole w (later_from (suc n + goal_size c + goal_size t) (n + goal_size (At l (IfGoal c t e))) w (omega arith) later),
)

-- the parts of an if-then-else of number n
abbrev then_of : ℕ → HldsGoal → HldsGoal → Numbered
then_of n c t = numbered_goal (suc n + goal_size c) t

abbrev else_of : ℕ → HldsGoal → HldsGoal → HldsGoal → Numbered
else_of n c t e = numbered_goal (suc n + goal_size c + goal_size t) e

-- the condition runs
condition_goes : {lv : Leaves} {S : Store} {W : Perm} {a : Address} {w : Way} {x : Act} {cc : List Act} {cs : List Choice} {f : Frame} {js : List Frame} {ws : List Wait} (n l : ℕ) (c t e : HldsGoal)
    → (lv (suc n + goal_size c) ≡ true → lv n ≡ true) → (lv (suc n + goal_size c + goal_size t) ≡ true → lv n ≡ true)
    → Going lv S W (on a (numbered_goal n (At l (IfGoal c t e))) w) (on a (numbered_goal n (At l (IfGoal c t e))) w) x cc cs f js ws
    → KeepsHeight S (barred_if (lv (suc n)) x.index (suc n) W) x (lv (suc n)) (suc n) (length cs)
    → (v : Way) → v ≡ condition_way lv n (numbered_goal (suc n) c) (part_way lv n a (then_of n c t) w) (part_way lv n a (else_of n c t e) w)
    → Going lv S (barred_if (lv (suc n)) x.index (suc n) W) v v x cc (choice_if (lv (suc n)) (choice x cc (to (part_way lv n a (else_of n c t e) w))) cs)
    (alone f (numbered_goal (suc n) c)) [] (Condition (doing f (goals_of w)) js (then_of n c t) (else_of n c t e) ∷ ws)
condition_goes {lv} {S} {W} {a} {w} {x} {cc} {cs} {f} {js} {ws} n l c t e then_less else_less goes keeps v is =
    let b : Bool = lv (suc n) in
    let cond' : Numbered = numbered_goal (suc n) c in
    let E : Way = part_way lv n a (else_of n c t e) w in
    let T : Way = part_way lv n a (then_of n c t) w in
    let U : Perm = barred_if b x.index (suc n) W in
    let placed = placed_of goes in
    let fails : Failing lv S W (to E) x cc cs (Condition (doing f (goals_of w)) js (then_of n c t) (else_of n c t e) ∷ ws)
    = otherwise below_refl (goes_part (else_of n c t e) goes (else_part n l c t e) else_less) in
    let ends' : Ending lv S U (holds (after (to E) b) b n T) x cc cs [] [] (Condition (doing f (goals_of w)) js (then_of n c t) (else_of n c t e) ∷ ws)
    = held (barred_below b x.index (suc n) W) keeps (goes_part (then_of n c t) goes (then_part n l c t e) then_less) in
    subst (λ (v : Way). Going lv S U v v x cc (choice_if b (choice x cc (to E)) cs) (alone f cond') [] (Condition (doing f (goals_of w)) js (then_of n c t) (else_of n c t e) ∷ ws)) (sym is)
    (going (record {
      way = (after_twice (to E) b, (λ leaves. leaves), tt);
      meets = refl;
      is = placed.is;
      goals = refl;
      kept = kept_barred b (condition_way lv n cond' T E) n placed.kept placed.kept.ahead.0
          (λ y reads. condition_reads (heads x) n l c t e a (after (to E) b) (after (to E) b) (lv (suc n + goal_size c)) (lv n) b w y reads)
          (omega arith, condition_later n l c t e a (lv (suc n + goal_size c)) (lv n) w placed.kept.ahead.1);
      stacked = placed.stacked;
      free = free_if b U x cc (to E) cs (barred_free b x.index (suc n) W (top x cs) (top_above x cs) placed.free);
    }) (fails_if b E (barred_below b x.index (suc n) W) fails) (passes_if b (choice x cc (to E)) refl ends'))

pub if_goes : {lv : Leaves} {S : Store} {a : Address} {n l : ℕ} {c t e : HldsGoal} {w : Way} {x : Act} {cc : List Act} {cs : List Choice} {k : ℕ} {st : State} (s : Hlds)
    → Stands lv S (Runs (on a (numbered_goal n (At l (IfGoal c t e))) w) x cc) cs k st
    → (lv (suc n + goal_size c) ≡ true → lv n ≡ true) → (lv (suc n + goal_size c + goal_size t) ≡ true → lv n ≡ true)
    → TurnsTo s lv st x.number n 1 [] (with_height_if (lv (suc n)) S x.index (suc n) (length cs))
    (Runs (condition_way lv n (numbered_goal (suc n) c) (part_way lv n a (numbered_goal (suc n + goal_size c) t) w) (part_way lv n a (numbered_goal (suc n + goal_size c + goal_size t) e) w)) x cc)
    (choice_if (lv (suc n)) (choice x cc (to (part_way lv n a (numbered_goal (suc n + goal_size c + goal_size t) e) w))) cs) k
if_goes {lv} {S} {a} {n} {l} {c} {t} {e} {w} {x} {cc} {cs} s (runs {W = W} {f = f} {js = js} {ws = ws} k goes) then_less else_less =
    turns_to s x (numbered_goal n (At l (IfGoal c t e))) (goals_of w) f js ws k (placed_of goes).is (placed_of goes).goals refl
    (runs k (condition_goes n l c t e then_less else_less (here_kept (lv (suc n)) (length cs) goes) (keeps_height_if (lv (suc n)) W S x (suc n) (length cs)) _ refl))

-- ---- a negation

part_reads : (hs : List ℕ) (n l : ℕ) (c : HldsGoal) (a b b' d : Address) (cut : Bool) (w : Way) (y : ℕ) → Reads hs (on b (numbered_goal (suc n) c) (denies b' cut n d)) y → Reads hs (on a (numbered_goal n (At l (NotGoal c))) w) y
part_reads hs n l c a b b' d cut w y (inl here) = inl here
part_reads hs n l c a b b' d cut w y (inr there) = absurd there

negation_goes : {lv : Leaves} {S : Store} {W : Perm} {a : Address} {w : Way} {x : Act} {cc : List Act} {cs : List Choice} {f : Frame} {js : List Frame} {ws : List Wait} (n l : ℕ) (c : HldsGoal) → lv n ≡ false
    → Going lv S W (on a (numbered_goal n (At l (NotGoal c))) w) (on a (numbered_goal n (At l (NotGoal c))) w) x cc cs f js ws
    → KeepsHeight S (barred_if (lv (suc n)) x.index (suc n) W) x (lv (suc n)) (suc n) (length cs)
    → (v : Way) → v ≡ negation_way lv n a (numbered_goal (suc n) c) w
    → Going lv S (barred_if (lv (suc n)) x.index (suc n) W) v v x cc (choice_if (lv (suc n)) (choice x cc (to w)) cs) (alone f (numbered_goal (suc n) c)) [] (Negation (doing f (goals_of w)) js ∷ ws)
negation_goes {lv} {S} {W} {a} {w} {x} {cc} {cs} {f} {js} {ws} n l c none goes keeps v is =
    let b : Bool = lv (suc n) in
    let cond' : Numbered = numbered_goal (suc n) c in
    let U : Perm = barred_if b x.index (suc n) W in
    let placed = placed_of goes in
    let on_w : Going lv S W w w x cc cs (doing f (goals_of w)) js ws = goes_after goes none W S f.env below_refl alike_refl placed.free same_refl (kept_after placed.kept) in
    let fails : Failing lv S W (to w) x cc cs (Negation (doing f (goals_of w)) js ∷ ws) = denied below_refl on_w in
    let ends' : Ending lv S U (denies (after (to w) b) b n a) x cc cs [] [] (Negation (doing f (goals_of w)) js ∷ ws)
    = refuted (barred_below b x.index (suc n) W) keeps (placed.way.0 ∙ ap (after a) none) on_w in
    subst (λ (v : Way). Going lv S U v v x cc (choice_if b (choice x cc (to w)) cs) (alone f cond') [] (Negation (doing f (goals_of w)) js ∷ ws)) (sym is)
    (going (record {
      way = (after_twice (to w) b, (λ leaves. leaves), tt);
      meets = refl;
      is = placed.is;
      goals = refl;
      kept = kept_barred b (negation_way lv n a cond' w) n placed.kept placed.kept.ahead.0 (λ y reads. part_reads (heads x) n l c a (after (to w) b) (after (to w) b) a b w y reads) (omega arith, tt);
      stacked = placed.stacked;
      free = free_if b U x cc (to w) cs (barred_free b x.index (suc n) W (top x cs) (top_above x cs) placed.free);
    }) (fails_if b w (barred_below b x.index (suc n) W) fails) (passes_if b (choice x cc (to w)) refl ends'))

pub not_goes : {lv : Leaves} {S : Store} {a : Address} {n l : ℕ} {c : HldsGoal} {w : Way} {x : Act} {cc : List Act} {cs : List Choice} {k : ℕ} {st : State} (s : Hlds)
    → Stands lv S (Runs (on a (numbered_goal n (At l (NotGoal c))) w) x cc) cs k st → lv n ≡ false
    → TurnsTo s lv st x.number n 1 [] (with_height_if (lv (suc n)) S x.index (suc n) (length cs)) (Runs (negation_way lv n a (numbered_goal (suc n) c) w) x cc) (choice_if (lv (suc n)) (choice x cc (to w)) cs) k
not_goes {lv} {S} {a} {n} {l} {c} {w} {x} {cc} {cs} s (runs {W = W} {f = f} {js = js} {ws = ws} k goes) none =
    turns_to s x (numbered_goal n (At l (NotGoal c))) (goals_of w) f js ws k (placed_of goes).is (placed_of goes).goals refl
    (runs k (negation_goes n l c none (here_kept (lv (suc n)) (length cs) goes) (keeps_height_if (lv (suc n)) W S x (suc n) (length cs)) _ refl))

-- ---- a quantified goal

some_reads : (hs : List ℕ) (n l : ℕ) (vs : List ℕ) (c : HldsGoal) (a b b' : Address) (cut : Bool) (w : Way) (y : ℕ) → Reads hs (on b (numbered_goal (suc n) c) (finds b' cut n w)) y → Reads hs (on a (numbered_goal n (At l (SomeGoal vs c))) w) y
some_reads hs n l vs c a b b' cut w y (inl here) = inl here
some_reads hs n l vs c a b b' cut w y (inr there) = inr there

quantified_goes : {lv : Leaves} {S : Store} {W : Perm} {a : Address} {w : Way} {x : Act} {cc : List Act} {cs : List Choice} {f : Frame} {js : List Frame} {ws : List Wait} (n l : ℕ) (vs : List ℕ) (c : HldsGoal) → lv n ≡ false
    → Going lv S W (on a (numbered_goal n (At l (SomeGoal vs c))) w) (on a (numbered_goal n (At l (SomeGoal vs c))) w) x cc cs f js ws
    → KeepsHeight S (barred_if (lv (suc n)) x.index (suc n) W) x (lv (suc n)) (suc n) (length cs)
    → (v : Way) → v ≡ some_way lv n a (numbered_goal (suc n) c) w
    → Going lv S (barred_if (lv (suc n)) x.index (suc n) W) v v x cc cs (alone f (numbered_goal (suc n) c)) [] (Single (doing f (goals_of w)) js ∷ ws)
quantified_goes {lv} {S} {W} {a} {w} {x} {cc} {cs} {f} {js} {ws} n l vs c none goes keeps v is =
    let b : Bool = lv (suc n) in
    let cond' : Numbered = numbered_goal (suc n) c in
    let U : Perm = barred_if b x.index (suc n) W in
    let placed = placed_of goes in
    let on_w : Going lv S W w w x cc cs (doing f (goals_of w)) js ws = goes_after goes none W S f.env below_refl alike_refl placed.free same_refl (kept_after placed.kept) in
    let le : placed.kept.from ≤ n = placed.kept.ahead.0 in
    subst (λ (v : Way). Going lv S U v v x cc cs (alone f cond') [] (Single (doing f (goals_of w)) js ∷ ws)) (sym is)
    (going (record {
      way = (refl, (λ leaves. leaves), tt);
      meets = refl;
      is = placed.is;
      goals = refl;
      kept = kept_barred b (some_way lv n a cond' w) n placed.kept le (λ y reads. some_reads (heads x) n l vs c a a (after a b) b w y reads)
          (omega arith, later_from (suc n + goal_size c) (n + goal_size (At l (SomeGoal vs c))) w (omega arith) placed.kept.ahead.1);
      stacked = placed.stacked;
      free = barred_free b x.index (suc n) W (top x cs) (top_above x cs) placed.free;
    }) (unfound (failing_kept (failing_of goes) U (barred_below b x.index (suc n) W) same_refl)) (found (barred_below b x.index (suc n) W) keeps on_w))

pub some_goes : {lv : Leaves} {S : Store} {a : Address} {n l : ℕ} {vs : List ℕ} {c : HldsGoal} {w : Way} {x : Act} {cc : List Act} {cs : List Choice} {k : ℕ} {st : State} (s : Hlds)
    → Stands lv S (Runs (on a (numbered_goal n (At l (SomeGoal vs c))) w) x cc) cs k st → lv n ≡ false
    → TurnsTo s lv st x.number n 1 [] (with_height_if (lv (suc n)) S x.index (suc n) (length cs)) (Runs (some_way lv n a (numbered_goal (suc n) c) w) x cc) cs k
some_goes {lv} {S} {a} {n} {l} {vs} {c} {w} {x} {cc} {cs} s (runs {W = W} {f = f} {js = js} {ws = ws} k goes) none =
    turns_to s x (numbered_goal n (At l (SomeGoal vs c))) (goals_of w) f js ws k (placed_of goes).is (placed_of goes).goals refl
    (runs k (quantified_goes n l vs c none (here_kept (lv (suc n)) (length cs) goes) (keeps_height_if (lv (suc n)) W S x (suc n) (length cs)) _ refl))
