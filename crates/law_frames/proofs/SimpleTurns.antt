-- Turns of simple goals and of conjunctions.
use Rattle.std.proofs.Common.{◌≡◌, refl, ap, sym, ◌∙◌, subst, arith, ℕ, suc, ◌+◌, ◌≤◌, false, List, [], ◌∷◌, ◌++◌, Option, Some, inl, inr}
use Rattle.md_hlds.specs.HldsGoal.{Simple, At, SimpleGoal, ConjGoal, HldsGoals, Numbered, numbered_goal, goal_size, goals_size}
use Rattle.md_hlds.specs.Hlds.{Hlds}
use Rattle.md_hlds.specs.Value.{Value, Env, value_at}
use Rattle.md_hlds.specs.Simple.{Go, No, Stop, simple}
use Rattle.md_hlds.specs.Simple.{Throws as Raised}
use Rattle.md_hlds.specs.Trace.{Throw, knowing, allocated, written}
use Rattle.law_steps.specs.State.{Goes, State, state}
use Rattle.law_steps.specs.Steps.{Turns, Sticks, goes_simply}
use Rattle.law_frames.specs.Ways.{Leaves, Address, Way, on, goals_of, after, parts_way, Mentions, Reads, Later, some_leaves}
use Rattle.law_frames.specs.Stores.{Act, Choice, Store, Perm, top, Same, Kept, heads, with_values, bind_all, AreFresh, AreMentioned}
use Rattle.law_frames.specs.Standing.{Failing, going, Ending, Runs, Misses, Raises, Stands, runs, misses, raises}
use Rattle.law_frames.specs.Moves.{Unfolds, TurnsTo, env_of}
use Rattle.law_frames.proofs.Leave.{below_refl, framed_kept, top_above}
use Rattle.law_frames.proofs.WayLemmas.{kept_narrow, later_from, parts_are_way, parts_goals, parts_reads, parts_later}
use Rattle.law_frames.proofs.Sealing.{sealed, sealed_below, sealed_alike, sealed_free, kept_sealed, kept_open, kept_shows}
use Rattle.law_frames.proofs.Writing.{bind_none, shows_written, written_same}
use Rattle.law_frames.proofs.ExceptionLemmas.{going_raises}
use Rattle.law_frames.proofs.Turning.{unfolds_to, turns_to, goes_after}

-- ---- a simple goal succeeds

-- what the frame holds after it
written_kept : (S : Store) (W : Perm) (x : Act) (a : Address) (p : Numbered) (w : Way) (e : Env) (bs : List (ℕ × Value)) → Kept S W x (on a p w) e → Same W S (with_values bs S x.index)
    → Kept (with_values bs S x.index) (sealed x.index (bind_all bs e) W) x w (bind_all bs e)
written_kept S W x a p w e bs kept same =
    kept_sealed (with_values bs S x.index) W x w (bind_all bs e) (framed_kept below_refl same kept.framed)
    (λ y reads none. kept_open kept y (inr reads) (bind_none bs e y none))
    (shows_written (Reads (heads x) w) bs S x.index e (λ y v reads is. kept_shows kept y v (inr reads) is))
    kept.from (let le = kept.ahead.0 in later_from kept.from (p.number + goal_size p.goal) w (omega (arith, le)) kept.ahead.1) kept.spare

pub simple_goes : {lv : Leaves} {S : Store} {a : Address} {n l : ℕ} {g : Simple} {w : Way} {x : Act} {c : List Act} {cs : List Choice} {k : ℕ} {st : State} (s : Hlds)
    → Stands lv S (Runs (on a (numbered_goal n (At l (SimpleGoal g))) w) x c) cs k st → lv n ≡ false
    → (extra words : ℕ) (out : Option (List ℕ)) (bs : List (ℕ × Value)) → simple s (env_of st) g ≡ Go (bind_all bs (env_of st)) extra words out → AreFresh bs (env_of st) → AreMentioned bs (At l (SimpleGoal g))
    → TurnsTo s lv st x.number n (suc extra) (allocated x.number words ++ written out) (with_values bs S x.index) (Runs w x c) cs k
simple_goes {lv} {S} {a} {n} {l} {g} {w} {x} {c} {cs} s (runs {W = W} {f = f} {js = js} {ws = ws} k (going placed fails ends)) none extra words out bs is fresh mentioned =
    let p : Numbered = numbered_goal n (At l (SimpleGoal g)) in
    let T : Store = with_values bs S x.index in
    let d : Env = bind_all bs f.env in
    let same : Same W S T = written_same W p.goal bs S x.index f.env fresh mentioned (λ y mentions free. kept_open placed.kept y (inl mentions) free) in
    turns_to s x p (goals_of w) f js ws k placed.is placed.goals
    (ap (goes_simply f (goals_of w) js ws k) is ∙ ap (λ m. Turns (suc extra) (allocated m words ++ written out) (state (Goes (knowing f d (goals_of w)) js) ws k)) placed.is)
    (runs k (goes_after (going placed fails ends) none (sealed x.index d W) T d (sealed_below x.index d W) (sealed_alike x.index d W)
    (sealed_free x.index d W (top x cs) (top_above x cs) placed.free) same (written_kept S W x a p w f.env bs placed.kept same)))

-- ---- it fails, throws or is stuck

pub simple_fails : {lv : Leaves} {S : Store} {a : Address} {n l : ℕ} {g : Simple} {w : Way} {x : Act} {c : List Act} {cs : List Choice} {k : ℕ} {st : State} (s : Hlds)
    → Stands lv S (Runs (on a (numbered_goal n (At l (SimpleGoal g))) w) x c) cs k st
    → (extra : ℕ) → simple s (env_of st) g ≡ No extra → TurnsTo s lv st x.number n (suc extra) [] S (Misses a x c) cs k
simple_fails {n = n} {l = l} {g = g} {w = w} {x = x} s (runs {f = f} {js = js} {ws = ws} k (going placed fails ends)) extra is =
    turns_to s x (numbered_goal n (At l (SimpleGoal g))) (goals_of w) f js ws k placed.is placed.goals (ap (goes_simply f (goals_of w) js ws k) is) (misses k fails)

pub simple_throws : {lv : Leaves} {S : Store} {a : Address} {n l : ℕ} {g : Simple} {w : Way} {x : Act} {c : List Act} {cs : List Choice} {k : ℕ} {st : State} (s : Hlds)
    → Stands lv S (Runs (on a (numbered_goal n (At l (SimpleGoal g))) w) x c) cs k st
    → (bytes : List ℕ) → simple s (env_of st) g ≡ Raised bytes → TurnsTo s lv st x.number n 1 (Throw bytes ∷ []) S (Raises (x ∷ c)) cs k
simple_throws {n = n} {l = l} {g = g} {w = w} {x = x} s (runs {f = f} {js = js} {ws = ws} k (going placed fails ends)) bytes is =
    turns_to s x (numbered_goal n (At l (SimpleGoal g))) (goals_of w) f js ws k placed.is placed.goals (ap (goes_simply f (goals_of w) js ws k) is) (raises k (going_raises (going placed fails ends)))

pub simple_sticks : {lv : Leaves} {S : Store} {a : Address} {n l : ℕ} {g : Simple} {w : Way} {x : Act} {c : List Act} {cs : List Choice} {k : ℕ} {st : State} (s : Hlds)
    → Stands lv S (Runs (on a (numbered_goal n (At l (SimpleGoal g))) w) x c) cs k st
    → simple s (env_of st) g ≡ Stop → Unfolds s st x.number n (Sticks 1)
simple_sticks {n = n} {l = l} {g = g} {w = w} {x = x} s (runs {f = f} {js = js} {ws = ws} k (going placed fails ends)) is =
    unfolds_to s x (numbered_goal n (At l (SimpleGoal g))) (goals_of w) f js ws k (Sticks 1) placed.is placed.goals (ap (goes_simply f (goals_of w) js ws k) is)

-- ---- what is read

-- each variable of a goal that has a value has it in its slot
pub slots_are_read : {lv : Leaves} {S : Store} {a : Address} {p : Numbered} {w : Way} {x : Act} {c : List Act} {cs : List Choice} {k : ℕ} {st : State} → Stands lv S (Runs (on a p w) x c) cs k st
    → (y : ℕ) (v : Value) → Mentions p.goal y → value_at (env_of st) y ≡ Some v → S.values x.index y ≡ v
slots_are_read (runs k (going placed fails ends)) y v mentions is = kept_shows placed.kept y v (inl mentions) is

-- ---- a conjunction

conj_later : (n from : ℕ) (l : ℕ) (ps : HldsGoals) (w : Way) → from ≤ n → Later (n + goal_size (At l (ConjGoal ps))) w → Later (suc n + goals_size ps) w
conj_later n from l ps w le later = later_from (suc n + goals_size ps) (n + goal_size (At l (ConjGoal ps))) w (omega arith) later

pub conjunction_goes : {lv : Leaves} {S : Store} {a : Address} {n l : ℕ} {ps : HldsGoals} {w : Way} {x : Act} {c : List Act} {cs : List Choice} {k : ℕ} {st : State} (s : Hlds)
    → Stands lv S (Runs (on a (numbered_goal n (At l (ConjGoal ps))) w) x c) cs k st → lv n ≡ some_leaves lv (suc n) ps
    → TurnsTo s lv st x.number n 1 [] S (Runs (parts_way lv (suc n) ps a w) x c) cs k
conjunction_goes {lv} {S} {a} {n} {l} {ps} {w} {x} {c} {cs} s (runs {W = W} {f = f} {js = js} {ws = ws} k (going placed fails ends)) leaves =
    let way = parts_are_way lv (suc n) ps a w placed.way.2 (placed.way.0 ∙ ap (after a) leaves) (λ some. placed.way.1 (leaves ∙ some)) in
    let v : Way = parts_way lv (suc n) ps a w in
    let le : placed.kept.from ≤ n = placed.kept.ahead.0 in
    turns_to s x (numbered_goal n (At l (ConjGoal ps))) (goals_of w) f js ws k placed.is placed.goals refl
    (runs k (going (record {
      way = way.0;
      meets = refl;
      is = placed.is;
      goals = sym (parts_goals lv (suc n) ps a w);
      kept = kept_narrow v placed.kept (λ y reads. parts_reads lv (heads x) (suc n) ps a w y reads)
          (parts_later lv placed.kept.from (suc n) ps a w (omega (arith, le)) (conj_later n placed.kept.from l ps w le placed.kept.ahead.1));
      stacked = placed.stacked;
      free = placed.free;
    })
    (subst (λ (b : Address). Failing lv S W b x c cs ws) (sym way.1) fails)
    (subst (λ (end : Way). Ending lv S W end x c cs f.pairs js ws) (sym way.2) ends)))
