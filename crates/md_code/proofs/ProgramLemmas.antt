-- The bodies of a program laid out one after the other.
use Rattle.std.proofs.Common.{◌≡◌, refl, ap, ◌∙◌, sym, subst, arith, ℕ, zero, suc, ◌+◌, ◌<◌, ◌≤◌, List, [], ◌∷◌, ◌++◌, length, drop, map, Some, slice_get, get_or, append_assoc, append-nil}
use Rattle.std.proofs.lemmas.List.{drop_all, map-append}
use Rattle.md_hlds.specs.declared.program.Pred.{Pred}
use Rattle.md_hlds.specs.HldsGoal.{goal_of, goal_size, goals_within}
use Rattle.md_hlds.specs.Hlds.{Hlds, Procedure, procedure_of, procedures_of, clause_goals, goal_at, goals_before, body_number}
use Rattle.md_flat.specs.declared.code.Routine as flat
use Rattle.md_code.specs.declared.output.Output.{Output}
use Rattle.md_code.specs.Facts.{Stand}
use Rattle.md_code.specs.Blocks.{Place, End, Trial, body_place, goal_code, clauses_code, program_code}
use Rattle.md_code.specs.Details.{Routine, detail_told, goal_details, clauses_details, routine_told, routine_of, routines_from, AreWithin}
use Rattle.md_code.specs.Adds.{Adds, laid, IsBegun, IsWhole}
use Rattle.md_code.proofs.SurveyLemmas.{stand-goal, stand-own}
use Rattle.md_code.proofs.LookupLemmas.{preds-step, stand-all}
use Rattle.md_code.proofs.LayoutLemmas.{Makes, laid-more}

abbrev place : (next other pending height size : ℕ) → End → Trial → Place
place next other pending height size end trial = record { next = next; other = other; pending = pending; height = height; size = size; end = end; trial = trial }

-- the number of the next body
pub before-step : (ps : List Pred) (i : ℕ) (p : Pred) → i < length ps → p ≡ get_or ps i p → goals_before (procedures_of ps) (i + 1) ≡ goals_before (procedures_of ps) i + goal_size (goal_of p.body)
before-step [] i p lt is = absurd (omega (arith, lt))
before-step (q ∷ ps) zero p lt is =
    let same : goals_before (procedures_of ps) 0 ≡ 0 = zero-before (procedures_of ps) in
    ap (λ k. goal_size (goal_of q.body) + k) same ∙ (omega arith ∙ ap (λ (r : Pred). 0 + goal_size (goal_of r.body)) (sym is))
  where
    zero-before : (rs : List Procedure) → goals_before rs 0 ≡ 0
    zero-before [] = refl
    zero-before (r ∷ rs) = refl
before-step (q ∷ ps) (suc i) p lt is =
    let more : suc i + 1 ≡ suc (i + 1) = omega arith in
    let later = before-step ps i p (omega (arith, lt)) is in
    ap (goals_before (procedures_of (q ∷ ps))) more ∙ (ap (λ k. goal_size (goal_of q.body) + k) later ∙ omega arith)

-- what is left of a program
pub record BodiesLeft (s : Hlds) (i : ℕ) (ps : List Pred) (mid : Output) (reach : ℕ) : Type 0 where
  pub stand : Stand s (laid mid) (clause_goals (procedures_of ps))
  pub number : laid mid ≡ body_number s i
  pub instructions : program_code s ≡ mid.instructions.items ++ clauses_code s i (procedures_of ps)
  pub details : clauses_details s 0 s.procedures ≡ map detail_told mid.details.items ++ clauses_details s i (procedures_of ps)
  pub within : (r : ℕ) → reach ≤ r → AreWithin s r i (procedures_of ps) → AreWithin s r 0 s.procedures

pub bodies-begin : (s : Hlds) (o : Output) (ps : List Pred) → s.procedures ≡ procedures_of ps → IsBegun o → BodiesLeft s 0 ps o 0
bodies-begin s o ps is begun =
    let none : laid o ≡ 0 = ap length begun.details in
    record {
      stand = subst (λ k. Stand s k (clause_goals (procedures_of ps))) (sym none) (subst (λ qs. Stand s 0 (clause_goals qs)) is (stand-all s));
      number = none ∙ sym (zero-before s.procedures);
      instructions = (λ j. sym begun.instructions j ++ clauses_code s 0 (is j));
      details = (λ j. map detail_told (sym begun.details j) ++ clauses_details s 0 (is j));
      within = λ r le rest. subst (λ qs. AreWithin s r 0 qs) (sym is) rest;
    }
  where
    zero-before : (rs : List Procedure) → goals_before rs 0 ≡ 0
    zero-before [] = refl
    zero-before (r ∷ rs) = refl

pub bodies-next : (s : Hlds) (ps : List Pred) (i body reach more-reach : ℕ) (p : Pred) (mid news : Output) (place : Place) → s.procedures ≡ procedures_of ps → i < length ps → p ≡ get_or ps i p → body ≡ laid mid
    → BodiesLeft s i (drop i ps) mid reach
    → (body ≡ body_number s i → goal_at s body ≡ Some (goal_of p.body) → place ≡ body_place s i (procedure_of p))
    → (Stand s (laid mid) (goals_within (goal_of p.body)) → Makes s mid news (goal_of p.body) place)
    → (reach ≤ more-reach) × (place.size ≤ more-reach)
    → BodiesLeft s (i + 1) (drop (i + 1) ps) news more-reach
bodies-next s ps i body reach more-reach p mid news place same lt is at left places made grows =
    let g = goal_of p.body in
    let rest = procedures_of (drop (i + 1) ps) in
    let step = preds-step ps i p lt is in
    let st = stand-goal s (laid mid) g (clause_goals rest) (subst (λ qs. Stand s (laid mid) (clause_goals qs)) step left.stand) in
    let there = stand-own s (laid mid) g st.0 in
    let put : place ≡ body_place s i (procedure_of p) = places (at ∙ left.number) (subst (λ k. goal_at s k ≡ Some g) (sym at) there) in
    let goes = subst (λ (q : Place). Makes s mid news g q) put (made st.0) in
    let more = laid-more s mid news g (body_place s i (procedure_of p)) goes in
    let own = subst (λ (k : ℕ). Adds mid news (goal_code s k g (body_place s i (procedure_of p))) (goal_details s k g (body_place s i (procedure_of p)))) left.number goes in
    let later : suc i ≡ i + 1 = omega arith in
    record {
      stand = subst (λ k. Stand s k (clause_goals rest)) (sym more) st.1;
      number = more ∙ (ap (λ k. k + goal_size g) left.number ∙ (ap (λ qs. goals_before qs i + goal_size g) same ∙ (sym (before-step ps i p lt is) ∙ ap (λ qs. goals_before qs (i + 1)) (sym same))));
      instructions = left.instructions
          ∙ (ap (λ qs. mid.instructions.items ++ clauses_code s i qs) step
          ∙ (sym (append_assoc mid.instructions.items _ _) ∙ (ap (λ is. is ++ clauses_code s (suc i) rest) (sym own.instructions) ∙ ap (λ k. news.instructions.items ++ clauses_code s k rest) later)));
      details = left.details
          ∙ (ap (λ qs. map detail_told mid.details.items ++ clauses_details s i qs) step
          ∙ (sym (append_assoc (map detail_told mid.details.items) _ _) ∙ (ap (λ ds. ds ++ clauses_details s (suc i) rest) (sym own.details) ∙ ap (λ k. map detail_told news.details.items ++ clauses_details s k rest) later)));
      within = λ r le rest-within. left.within r (omega (arith, le, grows))
          (subst (λ qs. AreWithin s r i qs) (sym step) (omega (arith, le, grows, ap (λ (q : Place). q.size) put), subst (λ k. AreWithin s r k rest) (sym later) rest-within));
    }

pub bodies-end : (s : Hlds) (ps : List Pred) (i : ℕ) (mid : Output) (reach : ℕ) → length ps ≤ i → BodiesLeft s i (drop i ps) mid reach → IsWhole s mid × AreWithin s reach 0 s.procedures
bodies-end s ps i mid reach end' left =
    let none : procedures_of (drop i ps) ≡ [] = ap procedures_of (drop_all i ps end') in (
      record {
        instructions = sym (left.instructions ∙ (ap (λ qs. mid.instructions.items ++ clauses_code s i qs) none ∙ append-nil mid.instructions.items));
        details = sym (left.details ∙ (ap (λ qs. map detail_told mid.details.items ++ clauses_details s i qs) none ∙ append-nil (map detail_told mid.details.items)));
      },
      left.within reach (omega arith) (subst (λ qs. AreWithin s reach i qs) (sym none) tt),
    )

-- ---- procedures as closures call them

pub pred-there : (ps : List Pred) (i : ℕ) (p : Pred) → i < length ps → p ≡ get_or ps i p → slice_get (procedures_of ps) i ≡ Some (procedure_of p)
pred-there [] i p lt is = absurd (omega (arith, lt))
pred-there (q ∷ ps) zero p lt is = ap (λ (r : Pred). Some (procedure_of r)) (sym is)
pred-there (q ∷ ps) (suc i) p lt is = pred-there ps i p (omega (arith, lt)) is

pub routines-next : (s : Hlds) (ps : List Pred) (i q : ℕ) (p : Pred) (olds news : List flat.Routine) (r : flat.Routine) (all : List Routine) → i < length ps → p ≡ get_or ps i p → q ≡ i
    → all ≡ map routine_told olds ++ routines_from s i (procedures_of (drop i ps)) → routine_told r ≡ routine_of s q (procedure_of p) → news ≡ olds ++ r ∷ []
    → all ≡ map routine_told news ++ routines_from s (i + 1) (procedures_of (drop (i + 1) ps))
routines-next s ps i q p olds news r all lt is at left told pushes =
    let rest = procedures_of (drop (i + 1) ps) in
    let later : suc i ≡ i + 1 = omega arith in
    left
    ∙ (ap (λ qs. map routine_told olds ++ routines_from s i qs) (preds-step ps i p lt is)
    ∙ (ap (λ (d : Routine). map routine_told olds ++ (d ∷ routines_from s (suc i) rest)) (sym (told ∙ ap (λ k. routine_of s k (procedure_of p)) at))
    ∙ (sym (append_assoc (map routine_told olds) (routine_told r ∷ []) (routines_from s (suc i) rest))
    ∙ (ap (λ rs. rs ++ routines_from s (suc i) rest) (sym (ap (map routine_told) pushes ∙ map-append routine_told olds (r ∷ [])))
    ∙ ap (λ k. map routine_told news ++ routines_from s k rest) later))))

pub routines-end : (s : Hlds) (ps : List Pred) (i : ℕ) (rs : List flat.Routine) (all : List Routine) → length ps ≤ i → all ≡ map routine_told rs ++ routines_from s i (procedures_of (drop i ps)) → map routine_told rs ≡ all
routines-end s ps i rs all end' left =
    sym (left ∙ (ap (λ qs. map routine_told rs ++ routines_from s i qs) (ap procedures_of (drop_all i ps end')) ∙ append-nil (map routine_told rs)))
