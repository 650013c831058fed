-- Main's body begins.
use Rattle.std.proofs.Common.{◌≡◌, refl, ap, sym, subst, arith, ℕ, true, false, [], ◌∷◌, length}
use Rattle.md_hlds.specs.Hlds.{Hlds, Procedure}
use Rattle.md_hlds.specs.Value.{Env, blank}
use Rattle.md_hlds.specs.Run.{main_env}
use Rattle.law_steps.specs.Makes.{beginning}
use Rattle.law_frames.specs.Ways.{Leaves, port, Way, on, joins, holds, denies, finds, exits, yields, halts, address, end_of, passes, after, goals_of, IsWay, Later, cut_body, whole_body, main_body}
use Rattle.law_frames.specs.Stores.{Act, Store, Perm, top}
use Rattle.law_frames.specs.Standing.{loses, going, Ending, ended, IsBodyEnd, Runs, Stands, runs}
use Rattle.law_frames.specs.Calls.{NewFrame, MainFrame, body_of}
use Rattle.law_frames.proofs.Leave.{top_above}
use Rattle.law_frames.proofs.Entering.{entering, entering_free, new_framed, new_frame_kept}

abbrev all_open : Perm
all_open i k = true

abbrev begun_with : ℕ × Procedure → Env
begun_with m = main_env (blank (length m.1.vars)) m.1.head

main_new : {m : ℕ × Procedure} {S : Store} {x : Act} → MainFrame m S x → NewFrame S S x.index x (begun_with m) (S.heights x.index 0)
main_new main = record { is = refl; values = λ j y lt. refl; heights = λ j n lt. refl; acts = λ j lt. refl; act = main.act; entered = main.entered; height = refl }

ends_there : {C : Type 0} (end : Way) → IsBodyEnd end → (C → passes end ≡ true) → C → passes (end_of end) ≡ true
ends_there (on a p w) is passing leaves = absurd is
ends_there (joins a w) is passing leaves = absurd is
ends_there (holds a cut n t) is passing leaves = absurd is
ends_there (denies a cut n b) is passing leaves = absurd is
ends_there (finds a cut n w) is passing leaves = absurd is
ends_there (exits a cut) is passing leaves = passing leaves
ends_there (yields a) is passing leaves = passing leaves
ends_there (halts a) is passing leaves = passing leaves

way_ends : (lv : Leaves) (end : Way) → IsBodyEnd end → IsWay lv end
way_ends lv (on a p w) is = absurd is
way_ends lv (joins a w) is = absurd is
way_ends lv (holds a cut n t) is = absurd is
way_ends lv (denies a cut n b) is = absurd is
way_ends lv (finds a cut n w) is = absurd is
way_ends lv (exits a cut) is = tt
way_ends lv (yields a) is = tt
way_ends lv (halts a) is = tt

no_goals : (end : Way) → IsBodyEnd end → [] ≡ goals_of end
no_goals (on a p w) is = absurd is
no_goals (joins a w) is = absurd is
no_goals (holds a cut n t) is = absurd is
no_goals (denies a cut n b) is = absurd is
no_goals (finds a cut n w) is = absurd is
no_goals (exits a cut) is = refl
no_goals (yields a) is = refl
no_goals (halts a) is = refl

all_later : (n : ℕ) (end : Way) → IsBodyEnd end → Later n end
all_later from (on a p w) is = absurd is
all_later from (joins a w) is = absurd is
all_later from (holds a cut n t) is = absurd is
all_later from (denies a cut n b) is = absurd is
all_later from (finds a cut n w) is = absurd is
all_later from (exits a cut) is = tt
all_later from (yields a) is = tt
all_later from (halts a) is = tt

itself : (end : Way) → IsBodyEnd end → end ≡ end_of end
itself (on a p w) is = absurd is
itself (joins a w) is = absurd is
itself (holds a cut n t) is = refl
itself (denies a cut n b) is = refl
itself (finds a cut n w) is = refl
itself (exits a cut) is = refl
itself (yields a) is = refl
itself (halts a) is = refl

begins_on : {lv : Leaves} {S : Store} {x : Act} (s : Hlds) (m : ℕ × Procedure) (end : Way) → MainFrame m S x → (address end ≡ after port (lv (body_of s m).number)) → (lv (body_of s m).number ≡ true → passes end ≡ true) → IsBodyEnd end
    → Stands lv S (Runs (on port (body_of s m) end) x []) [] 1 (beginning s m)
begins_on {lv} {S} {x} s m end main meets passing is_end =
    runs 1 (going (record {
      way = (meets, ends_there end is_end passing, way_ends lv end is_end);
      meets = refl;
      is = sym main.first;
      goals = ap (λ rest. body_of s m ∷ rest) (no_goals end is_end);
      kept = new_frame_kept false all_open (on port (body_of s m) end) (omega arith, all_later _ end is_end) (main_new main);
      stacked = (main.bottom, main.first);
      free = entering_free x.index (begun_with m) false all_open (top x []) (top_above x []);
    }) (loses (new_framed false all_open (main_new main)) (main.bottom, main.first)) (subst (λ (e : Way). Ending lv S (entering x.index (begun_with m) false all_open) e x [] [] [] [] []) (itself end is_end) (ended is_end)))

-- with the code of a procedure that is cut, of one that may have more answers, and with code of main's own
pub begins_cut : {lv : Leaves} {S : Store} {x : Act} (s : Hlds) (m : ℕ × Procedure) → MainFrame m S x → Stands lv S (Runs (cut_body lv (body_of s m)) x []) [] 1 (beginning s m)
begins_cut {lv} s m main = begins_on s m (exits (after port (lv (body_of s m).number)) (lv (body_of s m).number)) main refl (λ leaves. leaves) tt

pub begins_whole : {lv : Leaves} {S : Store} {x : Act} (s : Hlds) (m : ℕ × Procedure) → MainFrame m S x → Stands lv S (Runs (whole_body lv (body_of s m)) x []) [] 1 (beginning s m)
begins_whole {lv} s m main = begins_on s m (yields (after port (lv (body_of s m).number))) main refl (λ leaves. refl) tt

pub begins_main : {lv : Leaves} {S : Store} {x : Act} (s : Hlds) (m : ℕ × Procedure) → MainFrame m S x → Stands lv S (Runs (main_body lv (body_of s m)) x []) [] 1 (beginning s m)
begins_main {lv} s m main = begins_on s m (halts (after port (lv (body_of s m).number))) main refl (λ leaves. refl) tt
