-- What the code comes to for a procedure is its coverage.
use Rattle.std.proofs.Common.{◌≡◌, refl, sym, ap, ◌∙◌, subst, arith, ℕ, zero, suc, ◌+◌, ◌-◌, ◌<◌, ◌≤◌, ◌^◌, Bool, true, false, cond, List, [], ◌∷◌, ◌++◌, map, length, get_or, append_assoc, Option, Some, None, nat_lt, replicate, slice_get}
use Rattle.std.specs.Prelude.{All, ◌&&◌, not, if◌then◌else◌}
use Rattle.std.proofs.Math.Path.{fun_ext}
use Rattle.std.proofs.lemmas.Bool.{ltb-true, and_parts, not-true}
use Rattle.std.proofs.lemmas.List.Elements.{All-map}
use Rattle.std.proofs.lemmas.List.Sums.{sum_by-le}
use Rattle.md_base.specs.declared.measure.Measure.TheVariants as measure
use Rattle.md_base.specs.Counts.{count_of}
use Rattle.md_trace.specs.declared.event.Event.{Event}
use Rattle.md_trace.specs.Context.{same_option}
use Rattle.md_hlds.specs.HldsGoal.{HldsGoal, goal_size}
use Rattle.md_hlds.specs.Hlds.{Hlds, Procedure, body_number}
use Rattle.md_hlds.specs.Run.{run, is_finished}
use Rattle.md_det.specs.Findings.{program_findings}
use Rattle.law_events.specs.History.{history}
use Rattle.md_dynamic.specs.Profile.{ProfileRows}
use Rattle.md_dynamic.specs.Valid.{IsValid}
use Rattle.md_dynamic.specs.declared.link.LinkRow.{LinkRow}
use Rattle.md_cost.specs.FileView.{IsFileView, procedure_at}
use Rattle.md_cost.specs.Totals.{sum_where}
use Rattle.md_cost.specs.View.{View}
use Rattle.law_turns.specs.Counts.{PortCounts, turns_of, port_counts}
use Rattle.law_turns.specs.Equations as spec
use Rattle.law_turns.specs.Laws.{run_equations, TurnsSolve}
use Rattle.md_cover.specs.declared.coverage.GoalCount.{GoalCount}
use Rattle.md_cover.specs.declared.equation.Equation.{Equation}
use Rattle.md_cover.specs.Covered.{Covered}
use Rattle.md_cover.specs.Coverage.{has_full_link, gives_turns, without_turns, HasCountsOf, IsCountedIn, HasNoTurns, HasTurns, IsCoverageOf}
use Rattle.md_cover.specs.Known.{value_at, value_from, Table, nothing_known}
use Rattle.md_cover.specs.Rows.{goal_rows}
use Rattle.md_cover.specs.Solved.{body_equations, IsSolved, with_turns, HaveFewExits}
use Rattle.md_cover.specs.Told.{equation_of, equations_of, view_counts}
use Rattle.md_cover.proofs.Closing.{rounds-first, rounds-unsettled, equations-placed}
use Rattle.md_cover.proofs.Numbered.{AreIn, procedure_in}
use Rattle.md_cover.proofs.Settling.{IsSound, IsClosed, all_known}
use Rattle.md_cover.proofs.SolveLaws.{told, AreOf, rounds-sound, all-unsettled-closed}
use Rattle.md_cover.proofs.Telling.{rows-untold, told-untold, none-told}

-- ---- at first nothing is known

none-there : (count n : ℕ) → value_at (replicate count None) n ≡ None
none-there zero n = refl
none-there (suc count) zero = refl
none-there (suc count) (suc n) = none-there count n

none-from : (first count n : ℕ) → value_from first (replicate count None) n ≡ None
none-from first count n = by (nat_lt n first)
  where
    by : (b : Bool) → cond b None (value_at (replicate count None) (n - first)) ≡ None
    by true = refl
    by false = none-there count (n - first)

none-told-of : (first count : ℕ) (q : spec.Quantity) → told (nothing_known first count) q ≡ None
none-told-of first count (spec.Entries n) = none-from first count n
none-told-of first count (spec.Exits n) = none-from first count n

sound-first : (es : List spec.Equation) (x : spec.Solution) (first count : ℕ) → IsSound es x (told (nothing_known first count))
sound-first es x first count = record {
  derived = λ q n is. absurd (let no = none-told-of first count q in cc (no, is));
  valued = λ q n is. absurd (let no = none-told-of first count q in cc (no, is));
}

-- ---- the solution solves each of the equations, with numbers of 64 bits

at-end : (fs : List spec.Equation) (e : spec.Equation) (es : List spec.Equation) → slice_get (fs ++ e ∷ es) (length fs) ≡ Some e
at-end [] e es = refl
at-end (f ∷ fs) e es = at-end fs e es

are-of : (es : List spec.Equation) (x : spec.Solution) (most : ℕ) → most ≤ 18446744073709551615 → (cs : List Equation) (fs : List spec.Equation) → es ≡ fs ++ equations_of cs → spec.Solves x (equations_of cs) → spec.AreWithin most x (equations_of cs)
    → AreOf es x cs
are-of es x most small [] fs is solves within = tt
are-of es x most small (e ∷ cs) fs is solves within =
    let holds = solves.0 in let bound = within.0 in (
      (
        length fs,
        ap (λ gs. slice_get gs (length fs)) is ∙ at-end fs (equation_of e) (equations_of cs),
        holds,
        omega (arith, bound, small),
        omega (arith, bound, small, holds),
      ),
      are-of es x most small cs (fs ++ equation_of e ∷ []) (is ∙ sym (append_assoc fs (equation_of e ∷ []) (equations_of cs))) solves.1 within.1,
    )

-- ---- what is settled

-- what these equations of a goal's quantities settle is derived and has the solution's values; and all that is derived is settled
pub record Settles (es : List spec.Equation) (x : spec.Solution) (t : Table) (first : ℕ) : Type 0 where
  pub first_is : t.first ≡ first
  pub sound : IsSound es x (told t)
  pub closed : IsClosed es (told t)

pub settles : (es : List spec.Equation) (x : spec.Solution) (most first count : ℕ) (t : Table) → most ≤ 18446744073709551615 → spec.Solves x es → spec.AreWithin most x es → AreIn first (first + count) es → IsSolved es first count t
    → Settles es x t first
settles es x most first count t small solves within numbered h =
    let cs = h.equations in
    let from = λ (P : List spec.Equation → Type 0) (p : P es). subst P (sym h.same) p in
    let placed = equations-placed first count cs (from (AreIn first (first + count)) numbered) in
    let of = are-of es x most small cs [] (sym h.same) (from (spec.Solves x) solves) (from (spec.AreWithin most x) within) in
    record {
      first_is = rounds-first cs (nothing_known first count) t h.rounds;
      sound = rounds-sound es x cs of (nothing_known first count) t h.rounds (sound-first es x first count);
      closed = subst (λ (fs : List spec.Equation). IsClosed fs (told t)) h.same (all-unsettled-closed t cs (rounds-unsettled cs (nothing_known first count) t h.rounds placed));
    }

-- what stands at a place is what is known of the entries of its goal
at-place : (t : Table) (first place : ℕ) → t.first ≡ first → told t (spec.Entries (first + place)) ≡ value_at t.entries place
at-place t first place is = by (nat_lt (first + place) t.first) refl
  where
    by : (b : Bool) → nat_lt (first + place) t.first ≡ b → cond b None (value_at t.entries (first + place - t.first)) ≡ value_at t.entries place
    by true at = let less = ltb-true (first + place) t.first at in absurd (omega (arith, less, is))
    by false at = ap (value_at t.entries) (omega (arith, is))

pub has-turns : (s : Hlds) (budget : ℕ) (q : ℕ × Procedure) (x : spec.Solution) (t : Table) → ((n : ℕ) → x.entries n ≡ turns_of (run s budget) n) → Settles (run_equations s budget q) x t (body_number s q.0) → (place : ℕ)
    → HasTurns s budget q (body_number s q.0 + place) (value_at t.entries place)
has-turns s budget q x t turns h place = by (value_at t.entries place) (at-place t (body_number s q.0) place h.first_is)
  where
    by : (o : Option ℕ) → told t (spec.Entries (body_number s q.0 + place)) ≡ o → HasTurns s budget q (body_number s q.0 + place) o
    by None at = λ derived. let known = all_known (run_equations s budget q) (told t) h.closed (spec.Entries (body_number s q.0 + place)) derived in let is = known.1 in cc (at, is)
    by (Some k) at = (h.sound.derived (spec.Entries (body_number s q.0 + place)) k at, h.sound.valued (spec.Entries (body_number s q.0 + place)) k at ∙ turns (body_number s q.0 + place))

-- ---- counts

pub counts-agree : (h : List Event) (v : View) → HasCountsOf h v → view_counts v ≡ port_counts h
counts-agree h v same =
    let make : (a b c d : ℕ → ℕ) → PortCounts = λ a b c d. record { procedure_calls = a; procedure_exits = b; site_calls = c; site_exits = d } in
    let u : PortCounts = view_counts v in let w : PortCounts = port_counts h in
    ap (λ (a : ℕ → ℕ). make a u.procedure_exits u.site_calls u.site_exits) (fun_ext same.procedure_calls)
    ∙ (ap (λ (a : ℕ → ℕ). make w.procedure_calls a u.site_calls u.site_exits) (fun_ext same.procedure_exits)
    ∙ (ap (λ (a : ℕ → ℕ). make w.procedure_calls w.procedure_exits a u.site_exits) (fun_ext same.site_calls)
    ∙ ap (λ (a : ℕ → ℕ). make w.procedure_calls w.procedure_exits w.site_calls a) (fun_ext same.site_exits)))

exits-small : (test : LinkRow → Bool) (links : List LinkRow) → HaveFewExits links → length links < 2 ^ 32 → sum_where test measure.Exits links ≤ 18446744065119617025
exits-small test links few many =
    let each : (r : LinkRow) (b : Bool) → r.own.exits < 2 ^ 32 → (if b then count_of r.own measure.Exits else 0) ≤ 4294967295 = λ r b lt. chosen r b lt in
    let bound = sum_by-le (λ r. if test r then count_of r.own measure.Exits else 0) 4294967295 links (λ k d lt. each (get_or links k d) (test (get_or links k d)) (few k d lt)) in
    omega (arith, bound, many)
  where
    chosen : (r : LinkRow) (b : Bool) → r.own.exits < 2 ^ 32 → (if b then count_of r.own measure.Exits else 0) ≤ 4294967295
    chosen r true lt = omega (arith, lt)
    chosen r false lt = omega arith

-- the own exits of a procedure are so few that the budget fits beside them
pub own-exits-small : (f : ProfileRows) (v : View) (q : ℕ) → IsFileView f v → IsValid f → HaveFewExits f.links → (view_counts v).procedure_exits q ≤ 18446744065119617025
own-exits-small f v q view valid few = subst (λ (w : View). (view_counts w).procedure_exits q ≤ 18446744065119617025) (sym view.is) (by (nat_lt q (length f.statics.procs)))
  where
    by : (b : Bool) → cond b (sum_where (λ r. same_option (Some q) (procedure_at f r.callee)) measure.Exits f.links) 0 ≤ 18446744065119617025
    by true = exits-small (λ r. same_option (Some q) (procedure_at f r.callee)) f.links few valid.rows.few_links
    by false = omega arith

-- ---- what a procedure's number stands for

pub one-procedure : (ps qs : List Procedure) (n m : ℕ) (p q : Procedure) → ps ≡ qs → m ≡ n → slice_get ps n ≡ Some p → slice_get qs m ≡ Some q → q.body ≡ p.body
one-procedure ps qs n m p q same is there here = let one : q ≡ p = cc in ap (λ (r : Procedure). r.body) one

pub rows-are : (olds news : List GoalCount) (p q : HldsGoal) → olds ≡ [] → q ≡ p → news ≡ olds ++ goal_rows (length olds) 0 p → news ≡ goal_rows 0 0 q
rows-are olds news p q none same is = is ∙ (ap (λ gs. gs ++ goal_rows (length gs) 0 p) none ∙ ap (goal_rows 0 0) (sym same))

pub solved-for : (s : Hlds) (c : PortCounts) (id count : ℕ) (q : ℕ × Procedure) (body : HldsGoal) (t : Table) → q.0 ≡ id → q.1.body ≡ body → count ≡ goal_size q.1.body
    → IsSolved (body_equations (program_findings s) c (body_number s id) id body) (body_number s id) count t → IsSolved (body_equations (program_findings s) c (body_number s q.0) q.0 q.1.body) (body_number s q.0) (goal_size q.1.body) t
solved-for s c id count q body t is same many h =
    subst (λ (n : ℕ). IsSolved (body_equations (program_findings s) c (body_number s n) n q.1.body) (body_number s n) (goal_size q.1.body) t) (sym is)
    (subst (λ (b : HldsGoal). IsSolved (body_equations (program_findings s) c (body_number s id) id b) (body_number s id) (goal_size q.1.body) t) (sym same)
    (subst (λ (n : ℕ). IsSolved (body_equations (program_findings s) c (body_number s id) id body) (body_number s id) n t) many h))

pub coverage-of : (s : Hlds) (budget : ℕ) (f : ProfileRows) (q : ℕ × Procedure) (id : ℕ) (goals : List GoalCount) (c : Covered) → q.0 ≡ id → c ≡ record { id = id; goals = goals } → IsCoverageOf s budget f q (record { id = q.0; goals = goals })
    → IsCoverageOf s budget f q c
coverage-of s budget f q id goals c is same h =
    let make : ℕ → Covered = λ n. record { id = n; goals = goals } in subst (λ (d : Covered). IsCoverageOf s budget f q d) (sym (same ∙ ap make (sym is))) h

-- ---- the coverage

both-true : (a b : Bool) → (a && not b) ≡ true → (a ≡ true) × (b ≡ false)
both-true a b is = let both = and_parts a (not b) is in (both.0, not-true b both.1)

pub coverage-told : (s : Hlds) (budget : ℕ) (f : ProfileRows) (v : View) (q : ℕ × Procedure) (t : Table) (goals : List GoalCount) → (is_finished (run s budget) ≡ true → TurnsSolve s budget) → IsFileView f v → IsValid f
    → HaveFewExits f.links → IsCountedIn s budget f → slice_get s.procedures q.0 ≡ Some q.1 → gives_turns f ≡ true
    → IsSolved (body_equations (program_findings s) (view_counts v) (body_number s q.0) q.0 q.1.body) (body_number s q.0) (goal_size q.1.body) t → goals ≡ map (with_turns t.entries) (goal_rows 0 0 q.1.body)
    → IsCoverageOf s budget f q (record { id = q.0; goals = goals })
coverage-told s budget f v q t goals law view valid few counted there gives solved is =
    let both = both-true f.finished (has_full_link f) gives in
    let ended : is_finished (run s budget) ≡ true = counted.finished ∙ both.0 in
    let turns = law ended in
    let counts = counted.counts both.0 both.1 v view in
    let same : view_counts v ≡ port_counts (history (run s budget)) = counts-agree (history (run s budget)) v counts in
    let x : spec.Solution = record { entries = turns_of (run s budget); exits = turns.exits } in
    let most = budget + (port_counts (history (run s budget))).procedure_exits q.0 in
    let exits = own-exits-small f v q.0 view valid few in
    let as' = counts.procedure_exits q.0 in
    let small = counted.small in
    let solved' = subst (λ (c : PortCounts). IsSolved (body_equations (program_findings s) c (body_number s q.0) q.0 q.1.body) (body_number s q.0) (goal_size q.1.body) t) same solved in
    let settled = settles (run_equations s budget q) x most (body_number s q.0) (goal_size q.1.body) t (omega (arith, exits, as', small)) (turns.solves q there) (turns.within q there)
    (procedure_in (program_findings s) (port_counts (history (run s budget))) (body_number s q.0) q.0 q.1) solved' in
    record {
      is_of = refl;
      rows = ap (map without_turns) is ∙ (told-untold t.entries (goal_rows 0 0 q.1.body) ∙ rows-untold 0 0 q.1.body);
      known = λ given. subst (λ (gs : List GoalCount). All (λ g. HasTurns s budget q (body_number s q.0 + g.place) g.turns) gs) (sym is)
          (All-map (λ g. HasTurns s budget q (body_number s q.0 + g.place) g.turns) (with_turns t.entries) (goal_rows 0 0 q.1.body)
          (λ k d lt. has-turns s budget q x t (λ n. refl) settled (get_or (goal_rows 0 0 q.1.body) k d).place));
      unknown = λ not. absurd (cc (gives, not));
    }

-- where the profile gives no turns, whatever run it is of
pub no-turns : (q : ℕ × Procedure) (id : ℕ) (goals : List GoalCount) (c : Covered) → q.0 ≡ id → c ≡ record { id = id; goals = goals } → goals ≡ goal_rows 0 0 q.1.body → HasNoTurns q c
no-turns q id goals c is same rows =
    let make : ℕ → Covered = λ n. record { id = n; goals = goals } in
    let here : HasNoTurns q (record { id = q.0; goals = goals }) = record {
      is_of = refl;
      rows = ap (map without_turns) rows ∙ rows-untold 0 0 q.1.body;
      none = subst (λ (gs : List GoalCount). All (λ g. g.turns ≡ None) gs) (sym rows) (none-told 0 0 q.1.body);
    } in
    subst (λ (d : Covered). HasNoTurns q d) (sym (same ∙ ap make (sym is))) here

pub coverage-untold : (s : Hlds) (budget : ℕ) (f : ProfileRows) (q : ℕ × Procedure) (goals : List GoalCount) → gives_turns f ≡ false → goals ≡ goal_rows 0 0 q.1.body → IsCoverageOf s budget f q (record { id = q.0; goals = goals })
coverage-untold s budget f q goals gives is = record {
  is_of = refl;
  rows = ap (map without_turns) is ∙ rows-untold 0 0 q.1.body;
  known = λ given. absurd (cc (gives, given));
  unknown = λ not. subst (λ (gs : List GoalCount). All (λ g. g.turns ≡ None) gs) (sym is) (none-told 0 0 q.1.body);
}
