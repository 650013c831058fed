-- Turns: what is common to them.
use Rattle.std.proofs.Common.{◌≡◌, refl, ap, sym, ◌∙◌, subst, arith, ℕ, ◌+◌, ◌<◌, ◌≤◌, true, false, List, ◌∷◌, inl, inr}
use Rattle.md_hlds.specs.HldsGoal.{Numbered, goal_size}
use Rattle.md_hlds.specs.Hlds.{Hlds}
use Rattle.md_hlds.specs.Value.{Env}
use Rattle.md_hlds.specs.Trace.{Items, Frame, doing, knowing}
use Rattle.law_steps.specs.State.{Wait, Goes, State, state}
use Rattle.law_steps.specs.Steps.{Unfolded, Turns, unfolds}
use Rattle.law_frames.specs.Ways.{Leaves, Address, Way, on, goals_of, after, ends, part_way, Mentions, Reads, Later}
use Rattle.law_frames.specs.Stores.{Act, Choice, Store, Perm, Below, AlikeBelow, IsFree, top, Same, Kept, heads}
use Rattle.law_frames.specs.Standing.{Failing, Going, going, Ending, Doing, Stands}
use Rattle.law_frames.specs.Moves.{Unfolds, unfolding_of, TurnsTo}
use Rattle.law_frames.proofs.FrameRule.{failing_kept, ending_kept}
use Rattle.law_frames.proofs.WayLemmas.{kept_narrow, later_from, part_is_way, ends_end, ends_goals, ends_reads, ends_later}

-- the turn of a frame at the first of its goals
pub unfolds_to : (s : Hlds) (x : Act) (p : Numbered) (goals : List Numbered) (f : Frame) (js : List Frame) (ws : List Wait) (k : ℕ) (u : Unfolded) → f.act ≡ x.number → f.goals ≡ p ∷ goals
    → unfolds s f p.number goals js ws k p.goal ≡ u → Unfolds s (state (Goes f js) ws k) x.number p.number u
unfolds_to s x p goals f js ws k u is same by =
    subst (λ (n : ℕ). Unfolds s (state (Goes f js) ws k) n p.number u) is (subst (Unfolds s (state (Goes f js) ws k) f.act p.number) by (unfolding_of f js ws k p goals same))

pub turns_to : {lv : Leaves} (s : Hlds) (x : Act) (p : Numbered) (goals : List Numbered) (f : Frame) (js : List Frame) (ws : List Wait) (k : ℕ) {weight : ℕ} {items : Items} {there : State} {T : Store} {d : Doing} {cs : List Choice} {next : ℕ}
    → f.act ≡ x.number → f.goals ≡ p ∷ goals → unfolds s f p.number goals js ws k p.goal ≡ Turns weight items there → Stands lv T d cs next there
    → TurnsTo s lv (state (Goes f js) ws k) x.number p.number weight items T d cs next
turns_to s x p goals f js ws k {weight} {items} {there} is same by stands = record { there = there; by = unfolds_to s x p goals f js ws k (Turns weight items there) is same by; is = stands }

-- on after a goal that leaves no choice
pub goes_after : {lv : Leaves} {S : Store} {W : Perm} {a : Address} {p : Numbered} {w : Way} {x : Act} {c : List Act} {cs : List Choice} {f : Frame} {js : List Frame} {ws : List Wait}
    → Going lv S W (on a p w) (on a p w) x c cs f js ws → lv p.number ≡ false → (U : Perm) (T : Store) (e : Env) → Below U W → AlikeBelow x.index U W → IsFree U (top x cs) → Same W S T → Kept T U x w e
    → Going lv T U w w x c cs (knowing f e (goals_of w)) js ws
goes_after {lv} {a = a} {x = x} {c = c} {cs = cs} {ws = ws} (going placed fails ends') none U T e below alike free same kept =
    going (record { way = placed.way.2; meets = refl; is = placed.is; goals = refl; kept = kept; stacked = placed.stacked; free = free })
    (subst (λ (b : Address). Failing lv T U b x c cs ws) (sym (placed.way.0 ∙ ap (after a) none)) (failing_kept fails U below same)) (ending_kept ends' U below alike same)

-- what follows a goal, as the goal found it
pub kept_after : {S : Store} {W : Perm} {a : Address} {p : Numbered} {w : Way} {x : Act} {e : Env} → Kept S W x (on a p w) e → Kept S W x w e
kept_after {p = p} {w = w} kept = kept_narrow w kept (λ y reads. inr reads) (let le = kept.ahead.0 in later_from kept.from (p.number + goal_size p.goal) w (omega (arith, le)) kept.ahead.1)

-- a part of a goal lies within it
pub record IsPart (q p : Numbered) : Type 0 where
  pub mentions : (y : ℕ) → Mentions q.goal y → Mentions p.goal y
  pub first : p.number < q.number
  pub last : q.number + goal_size q.goal ≤ p.number + goal_size p.goal

-- a part, and then what follows the goal
pub kept_part : {S : Store} {W : Perm} {a : Address} {p : Numbered} {w : Way} {x : Act} {e : Env} (b : Address) (q : Numbered) (v : Way) → IsPart q p → ((y : ℕ) → Reads (heads x) v y → Reads (heads x) w y)
    → ((n : ℕ) → Later n w → Later n v) → Kept S W x (on a p w) e → Kept S W x (on b q v) e
kept_part {a = a} {p = p} {w = w} {x = x} b q v part narrow later kept =
    kept_narrow (on b q v) kept (λ y reads. part_reads y reads) (
      (let le = kept.ahead.0 in let first = part.first in omega (arith, le, first)),
      later (q.number + goal_size q.goal) (later_from (q.number + goal_size q.goal) (p.number + goal_size p.goal) w part.last kept.ahead.1),
    )
  where
    part_reads : (y : ℕ) → Reads (heads x) (on b q v) y → Reads (heads x) (on a p w) y
    part_reads y (inl here) = inl (part.mentions y here)
    part_reads y (inr there) = inr (narrow y there)

-- one of several parts
pub goes_part : {lv : Leaves} {S : Store} {W : Perm} {a : Address} {p : Numbered} {w : Way} {x : Act} {c : List Act} {cs : List Choice} {f : Frame} {js : List Frame} {ws : List Wait} (q : Numbered)
    → Going lv S W (on a p w) (on a p w) x c cs f js ws → IsPart q p → (lv q.number ≡ true → lv p.number ≡ true)
    → Going lv S W (part_way lv p.number a q w) (part_way lv p.number a q w) x c cs (doing f (q ∷ goals_of w)) js ws
goes_part {lv} {S} {W} {a} {p} {w} {x} {c} {cs} {f} {js} {ws} q (going placed fails ends') part less =
    going (record {
      way = part_is_way lv a q (lv p.number) w placed.way.2 placed.way.0 placed.way.1 less;
      meets = refl;
      is = placed.is;
      goals = ap (λ rest. q ∷ rest) (sym (ends_goals a (lv q.number) (lv p.number) w));
      kept = kept_part a q (ends a (lv q.number) (lv p.number) w) part (λ y reads. ends_reads (heads x) a (lv q.number) (lv p.number) w y reads) (λ n later. ends_later n a (lv q.number) (lv p.number) w later) placed.kept;
      stacked = placed.stacked;
      free = placed.free;
    }) fails (subst (λ (end : Way). Ending lv S W end x c cs f.pairs js ws) (sym (ends_end a (lv q.number) (lv p.number) w)) ends')
