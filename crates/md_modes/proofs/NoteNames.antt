-- Each goal has one note, which tells what the goal's name stands for and how many goals it has.
use Rattle.std.proofs.Common.{◌≡◌, refl, ap, sym, ◌∙◌, arith, ℕ, zero, suc, ◌-◌, List, [], ◌∷◌, ◌++◌, length, length-append, map, slice_get}
use Rattle.std.proofs.lemmas.List.{map-append}
use Rattle.md_hlds.specs.HldsGoal.{HldsGoal, At, GoalExpr, SimpleGoal, CallGoal, HoCallGoal, ConjGoal, DisjGoal, IfGoal, NotGoal, SomeGoal, HldsGoals, nothing, also, goal_size, parts_size, goals_size, goals_within, goals_below, goals_among}
use Rattle.md_hlds.specs.Hlds.{Procedure, Hlds, clause_goals}
use Rattle.md_inst.specs.Instantiation.{InstMap}
use Rattle.md_names.specs.declared.named.Named.{Named}
use Rattle.md_names.specs.Named.{goal_name, name_of, name_at}
use Rattle.md_modes.specs.declared.class.Note as code
use Rattle.md_modes.specs.Goals.{Scope, within, goal}
use Rattle.md_modes.specs.Modes.{entry, scope_of}
use Rattle.md_modes.specs.Notes.{Note, known_after, notes, inner_notes, each_notes, arm_notes, clause_notes, notes_from, program_notes}
use Rattle.md_modes.specs.Classes.{notes_told, name_of_note, size_of_note, named_at, noted_size, size_of, size_at}
use Rattle.md_modes.proofs.Notings.{length-notes_told}

-- ---- as many notes as goals

mutual
  pub length_notes : (c : Scope) (q : HldsGoal) (s : InstMap) → length (notes c q s) ≡ goal_size q
  length_notes c (At l t) s = ap suc (length_inner c t s)

  pub length_inner : (c : Scope) (t : GoalExpr) (s : InstMap) → length (inner_notes c t s) ≡ parts_size t
  length_inner c (SimpleGoal g) s = refl
  length_inner c (CallGoal site q ys) s = refl
  length_inner c (HoCallGoal site f ys) s = refl
  length_inner c (ConjGoal ps) s = length_each c ps s
  length_inner c (DisjGoal ps) s = length_arms c ps s
  length_inner c (IfGoal p t e) s =
      let r = known_after s (goal (within c) p s) in
      omega (
        arith,
        length-append (notes (within c) p s) (notes c t r ++ notes c e s),
        length-append (notes c t r) (notes c e s),
        length_notes (within c) p s,
        length_notes c t r,
        length_notes c e s,
      )
  length_inner c (NotGoal p) s = length_notes (within c) p s
  length_inner c (SomeGoal vs p) s = length_notes (within c) p s

  length_each : (c : Scope) (ps : HldsGoals) (s : InstMap) → length (each_notes c ps s) ≡ goals_size ps
  length_each c nothing s = refl
  length_each c (also p ps) s =
      let r = known_after s (goal c p s) in
      omega (arith, length-append (notes c p s) (each_notes c ps r), length_notes c p s, length_each c ps r)

  length_arms : (c : Scope) (ps : HldsGoals) (s : InstMap) → length (arm_notes c ps s) ≡ goals_size ps
  length_arms c nothing s = refl
  length_arms c (also p ps) s = omega (arith, length-append (notes c p s) (arm_notes c ps s), length_notes c p s, length_arms c ps s)

-- the notes of a goal that the code has added are as many as its goals
pub own_size : (c : Scope) (l : ℕ) (t : GoalExpr) (s : InstMap) (old begun more : List code.Note) (n : code.Note) (i len size : ℕ) → begun ≡ old ++ n ∷ [] → i ≡ length old
    → notes_told more ≡ notes_told begun ++ inner_notes c t s → len ≡ length more → size ≡ len - i → size ≡ goal_size (At l t)
own_size c l t s old begun more n i len size begins at told long is =
    omega (
      arith,
      is,
      long,
      at,
      sym (length-notes_told more) ∙ (ap length told ∙ length-append (notes_told begun) (inner_notes c t s)),
      length-notes_told begun ∙ (ap length begins ∙ length-append old (n ∷ [])),
      length_inner c t s,
    )

-- ---- what they tell

abbrev pub told : Note → Named × ℕ
told n = (n.named, n.size)

abbrev pub told_of : Hlds → HldsGoal → Named × ℕ
told_of s p = (goal_name s p, goal_size p)

both : (s : Hlds) (xs ys : List Note) (ps qs : List HldsGoal) → map told xs ≡ map (told_of s) ps → map told ys ≡ map (told_of s) qs → map told (xs ++ ys) ≡ map (told_of s) (ps ++ qs)
both s xs ys ps qs e f = map-append told xs ys ∙ (ap (λ bs. bs ++ map told ys) e ∙ (ap (λ bs. map (told_of s) ps ++ bs) f ∙ sym (map-append (told_of s) ps qs)))

mutual
  pub notes_tell : (c : Scope) (q : HldsGoal) (s : InstMap) → map told (notes c q s) ≡ map (told_of c.program) (goals_within q)
  notes_tell c (At l t) s = ap (λ bs. told_of c.program (At l t) ∷ bs) (inner_tell c t s)

  inner_tell : (c : Scope) (t : GoalExpr) (s : InstMap) → map told (inner_notes c t s) ≡ map (told_of c.program) (goals_below t)
  inner_tell c (SimpleGoal g) s = refl
  inner_tell c (CallGoal site q ys) s = refl
  inner_tell c (HoCallGoal site f ys) s = refl
  inner_tell c (ConjGoal ps) s = each_tell c ps s
  inner_tell c (DisjGoal ps) s = arms_tell c ps s
  inner_tell c (IfGoal p t e) s =
      let r = known_after s (goal (within c) p s) in
      both c.program (notes (within c) p s) (notes c t r ++ notes c e s) (goals_within p) (goals_within t ++ goals_within e) (notes_tell (within c) p s)
      (both c.program (notes c t r) (notes c e s) (goals_within t) (goals_within e) (notes_tell c t r) (notes_tell c e s))
  inner_tell c (NotGoal p) s = notes_tell (within c) p s
  inner_tell c (SomeGoal vs p) s = notes_tell (within c) p s

  pub each_tell : (c : Scope) (ps : HldsGoals) (s : InstMap) → map told (each_notes c ps s) ≡ map (told_of c.program) (goals_among ps)
  each_tell c nothing s = refl
  each_tell c (also p ps) s =
      let r = known_after s (goal c p s) in
      both c.program (notes c p s) (each_notes c ps r) (goals_within p) (goals_among ps) (notes_tell c p s) (each_tell c ps r)

  pub arms_tell : (c : Scope) (ps : HldsGoals) (s : InstMap) → map told (arm_notes c ps s) ≡ map (told_of c.program) (goals_among ps)
  arms_tell c nothing s = refl
  arms_tell c (also p ps) s = both c.program (notes c p s) (arm_notes c ps s) (goals_within p) (goals_among ps) (notes_tell c p s) (arms_tell c ps s)

clauses_tell : (s : Hlds) (ps : List Procedure) → map told (notes_from s ps) ≡ map (told_of s) (clause_goals ps)
clauses_tell s [] = refl
clauses_tell s (p ∷ ps) = both s (clause_notes s p) (notes_from s ps) (goals_within p.body) (clause_goals ps) (notes_tell (scope_of s p) p.body (entry p)) (clauses_tell s ps)

program_tells : (s : Hlds) → map told (program_notes s) ≡ map (told_of s) (clause_goals s.procedures)
unfolding program_notes
program_tells s = clauses_tell s s.procedures

-- one place of two lists
name_there : (s : Hlds) (xs : List Note) (ps : List HldsGoal) (n : ℕ) → map told xs ≡ map (told_of s) ps → name_of_note (slice_get xs n) ≡ name_of s (slice_get ps n)
name_there s [] [] n h = refl
name_there s [] (p ∷ ps) n h = absurd (cc)
name_there s (x ∷ xs) [] n h = absurd (cc)
name_there s (x ∷ xs) (p ∷ ps) zero h = let here : told x ≡ told_of s p = cc in ap (λ (t : Named × ℕ). t.0) here
name_there s (x ∷ xs) (p ∷ ps) (suc n) h = let rest : map told xs ≡ map (told_of s) ps = cc in name_there s xs ps n rest

size_there : (s : Hlds) (xs : List Note) (ps : List HldsGoal) (n : ℕ) → map told xs ≡ map (told_of s) ps → size_of_note (slice_get xs n) ≡ size_of (slice_get ps n)
size_there s [] [] n h = refl
size_there s [] (p ∷ ps) n h = absurd (cc)
size_there s (x ∷ xs) [] n h = absurd (cc)
size_there s (x ∷ xs) (p ∷ ps) zero h = let here : told x ≡ told_of s p = cc in ap (λ (t : Named × ℕ). t.1) here
size_there s (x ∷ xs) (p ∷ ps) (suc n) h = let rest : map told xs ≡ map (told_of s) ps = cc in size_there s xs ps n rest

-- the note of a number tells what the name in the goal of that number stands for
pub named_told : (s : Hlds) (n : ℕ) → named_at (program_notes s) n ≡ name_at s n
named_told s n = name_there s (program_notes s) (clause_goals s.procedures) n (program_tells s)

pub size_told : (s : Hlds) (n : ℕ) → noted_size (program_notes s) n ≡ size_at s n
size_told s n = size_there s (program_notes s) (clause_goals s.procedures) n (program_tells s)
