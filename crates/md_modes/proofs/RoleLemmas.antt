-- In a program without a fault of modes the unifications and the higher-order calls have a role, and no other goal has.
use Rattle.std.proofs.Common.{◌≡◌, refl, ap, sym, ◌∙◌, subst, ℕ, zero, suc, Bool, true, false, List, [], ◌∷◌, ◌++◌, map, None, is_some, slice_get}
use Rattle.std.proofs.lemmas.List.{map-append}
use Rattle.std.specs.Prelude.{Ok, Err, cond}
use Rattle.md_hlds.specs.HldsGoal.{Simple, Succeeds, Fails, Unifies, Computes, Compares, WritesInt, WritesText, EndsLine, Raises, HldsGoal, At, SimpleGoal, CallGoal, HoCallGoal, ConjGoal, DisjGoal, IfGoal, NotGoal, SomeGoal, HldsGoals, nothing, also, goals_within, goals_among}
use Rattle.md_hlds.specs.Hlds.{HldsType, number, text, world, named, closure, Procedure, Hlds, clause_goals, goal_at}
use Rattle.md_inst.specs.declared.fault.ModeFault.{ModeFault}
use Rattle.md_inst.specs.declared.fault.ModeFault.TheVariants.{NoMain}
use Rattle.md_inst.specs.Verdict.{Verdict, ◌>>=◌, ◌>>◌, fault_unless}
use Rattle.md_inst.specs.Instantiation.{Instantiation, free, has, InstMap, known_at}
use Rattle.md_inst.specs.Arguments.{is_spent}
use Rattle.md_inst.specs.Simple.{apply_sort, apply_known}
use Rattle.md_modes.specs.Branches.{After, after, outside}
use Rattle.md_modes.specs.Goals.{Scope, within, variables, goal, each, arms, binds_inside}
use Rattle.md_modes.specs.Modes.{entry, scope_of, clause, clauses, checked, fault_of, mode_fault, has_main}
use Rattle.md_modes.specs.Declarations as declarations
use Rattle.md_modes.specs.Notes.{role_of, role_of_closure, has_role, is_with_role, Note, known_after, notes, each_notes, arm_notes, clause_notes, notes_from, program_notes}
use Rattle.md_modes.specs.Classes.{role_at, role_of_note}

-- what was found on the way to a verdict without a fault
pub bind_ok : {A B : Type 0} (v : Verdict A) (f : A → Verdict B) (b : B) → (v >>= f) ≡ Ok b → (x : A) × (v ≡ Ok x) × (f x ≡ Ok b)
bind_ok (Ok x) f b h = (x, refl, h)
bind_ok (Err e) f b h = absurd (cc)

-- whether a note has a role
abbrev noted : Note → Bool
noted n = is_some n.role

simple_role : (p : Hlds) (l : ℕ) (g : Simple) (s : InstMap) → is_some (role_of p (SimpleGoal g) s) ≡ has_role (At l (SimpleGoal g))
simple_role p l Succeeds s = refl
simple_role p l Fails s = refl
simple_role p l (Unifies x t) s = refl
simple_role p l (Computes z a op b) s = refl
simple_role p l (Compares a cmp b) s = refl
simple_role p l (WritesInt x before after) s = refl
simple_role p l (WritesText x before after) s = refl
simple_role p l (EndsLine before after) s = refl
simple_role p l (Raises x) s = refl

sort_role : (strict : Bool) (l : ℕ) (ys : List ℕ) (t : HldsType) (used : Bool) (s r : InstMap) → apply_sort strict l ys t s ≡ Ok r → is_some (role_of_closure (has t used)) ≡ true
sort_role strict l ys (closure ts ms d) used s r h = refl
sort_role strict l ys number used s r h = absurd (cc)
sort_role strict l ys text used s r h = absurd (cc)
sort_role strict l ys world used s r h = absurd (cc)
sort_role strict l ys (named n) used s r h = absurd (cc)

spent_role : (spent : Bool) (e : ModeFault) (v : Verdict InstMap) (r : InstMap) → cond spent (Err e) v ≡ Ok r → v ≡ Ok r
spent_role true e v r h = absurd (cc)
spent_role false e v r h = h

known_role : (strict : Bool) (l : ℕ) (ys : List ℕ) (k : Instantiation) (s r : InstMap) → apply_known strict l ys k s ≡ Ok r → is_some (role_of_closure k) ≡ true
known_role strict l ys free s r h = absurd (cc)
known_role strict l ys (has t used) s r h = sort_role strict l ys t used s r (spent_role (is_spent strict t used) _ _ r h)

-- two lists of goals one after the other
both : (xs ys : List Note) (ps qs : List HldsGoal) → map noted xs ≡ map has_role ps → map noted ys ≡ map has_role qs → map noted (xs ++ ys) ≡ map has_role (ps ++ qs)
both xs ys ps qs e f = map-append noted xs ys ∙ (ap (λ bs. bs ++ map noted ys) e ∙ (ap (λ bs. map has_role ps ++ bs) f ∙ sym (map-append has_role ps qs)))

-- the same where it is told of what is known after another goal
later : (c d : Scope) (p t : HldsGoal) (s : InstMap) (a b : After) → goal d p s ≡ Ok a → goal c t a.known ≡ Ok b → goal c t (known_after s (goal d p s)) ≡ Ok b
later c d p t s a b h i = subst (λ (v : Verdict After). goal c t (known_after s v) ≡ Ok b) (sym h) i

each_later : (c : Scope) (p : HldsGoal) (ps : HldsGoals) (s : InstMap) (a b : After) → goal c p s ≡ Ok a → each c ps a.known ≡ Ok b → each c ps (known_after s (goal c p s)) ≡ Ok b
each_later c p ps s a b h i = subst (λ (v : Verdict After). each c ps (known_after s v) ≡ Ok b) (sym h) i

mutual
  goal_roles : (c : Scope) (p : HldsGoal) (s : InstMap) (a : After) → goal c p s ≡ Ok a → map noted (notes c p s) ≡ map has_role (goals_within p)
  goal_roles c (At l (SimpleGoal g)) s a h = ap (λ b. b ∷ []) (simple_role c.program l g s)
  goal_roles c (At l (CallGoal site q ys)) s a h = refl
  goal_roles c (At l (HoCallGoal site f ys)) s a h =
      let r = bind_ok (apply_known c.strict l ys (known_at s f) s) (λ t. Ok (after t true)) a h in
      ap (λ b. b ∷ []) (known_role c.strict l ys (known_at s f) s r.0 r.1)
  goal_roles c (At l (ConjGoal ps)) s a h = ap (λ bs. false ∷ bs) (each_roles c ps s a h)
  goal_roles c (At l (DisjGoal ps)) s a h = ap (λ bs. false ∷ bs) (arm_roles c ps s (bind_ok (arms c ps s) _ a h).0 (bind_ok (arms c ps s) _ a h).1)
  goal_roles c (At l (IfGoal p t e)) s a h =
      let first = bind_ok (goal (within c) p s) _ a h in
      let tested = bind_ok (binds_inside l (outside c.all (variables p ++ (variables t ++ variables e))) s first.0) _ a first.2 in
      let second = bind_ok (goal c t first.0.known) _ a tested.2 in
      let third = bind_ok (goal c e s) _ a second.2 in
      ap (λ bs. false ∷ bs)
      (both (notes (within c) p s) (notes c t (known_after s (goal (within c) p s)) ++ notes c e s) (goals_within p) (goals_within t ++ goals_within e)
      (goal_roles (within c) p s first.0 first.1)
      (both (notes c t (known_after s (goal (within c) p s))) (notes c e s) (goals_within t) (goals_within e)
      (goal_roles c t (known_after s (goal (within c) p s)) second.0 (later c (within c) p t s first.0 second.0 first.1 second.1))
      (goal_roles c e s third.0 third.1)))
  goal_roles c (At l (NotGoal p)) s a h =
      let first = bind_ok (goal (within c) p s) _ a h in
      ap (λ bs. false ∷ bs) (goal_roles (within c) p s first.0 first.1)
  goal_roles c (At l (SomeGoal vs p)) s a h =
      let first = bind_ok (goal (within c) p s) _ a h in
      ap (λ bs. false ∷ bs) (goal_roles (within c) p s first.0 first.1)

  each_roles : (c : Scope) (ps : HldsGoals) (s : InstMap) (a : After) → each c ps s ≡ Ok a → map noted (each_notes c ps s) ≡ map has_role (goals_among ps)
  each_roles c nothing s a h = refl
  each_roles c (also p ps) s a h =
      let first = bind_ok (goal c p s) _ a h in
      let rest = bind_ok (each c ps first.0.known) _ a first.2 in
      both (notes c p s) (each_notes c ps (known_after s (goal c p s))) (goals_within p) (goals_among ps)
      (goal_roles c p s first.0 first.1)
      (each_roles c ps (known_after s (goal c p s)) rest.0 (each_later c p ps s first.0 rest.0 first.1 rest.1))

  arm_roles : (c : Scope) (ps : HldsGoals) (s : InstMap) (ends : List After) → arms c ps s ≡ Ok ends → map noted (arm_notes c ps s) ≡ map has_role (goals_among ps)
  arm_roles c nothing s ends h = refl
  arm_roles c (also p ps) s ends h =
      let first = bind_ok (goal c p s) _ ends h in
      let rest = bind_ok (arms c ps s) _ ends first.2 in
      both (notes c p s) (arm_notes c ps s) (goals_within p) (goals_among ps) (goal_roles c p s first.0 first.1) (arm_roles c ps s rest.0 rest.1)

clause_roles : (s : Hlds) (ps : List Procedure) (u : Unit {0}) → clauses s ps ≡ Ok u → map noted (notes_from s ps) ≡ map has_role (clause_goals ps)
clause_roles s [] u h = refl
clause_roles s (p ∷ ps) u h =
    let first = bind_ok (clause s p) _ u h in
    let body = bind_ok (goal (scope_of s p) p.body (entry p)) _ first.0 first.1 in
    both (clause_notes s p) (notes_from s ps) (goals_within p.body) (clause_goals ps) (goal_roles (scope_of s p) p.body (entry p) body.0 body.1) (clause_roles s ps u first.2)

no_fault : (v : Verdict (Unit {0})) → fault_of v ≡ None → v ≡ Ok tt
no_fault (Ok u) h = refl
no_fault (Err e) h = absurd (cc)

program_roles : (s : Hlds) → mode_fault s ≡ None → map noted (program_notes s) ≡ map has_role (clause_goals s.procedures)
unfolding mode_fault program_notes
program_roles s h =
    let main = bind_ok (declarations.families s.types s.types >> declarations.procedures s.types s.procedures >> clauses s s.procedures)
    (λ _. fault_unless (has_main s.procedures) (NoMain s.module_line)) tt (no_fault (checked s) h) in
    let all = bind_ok (declarations.families s.types s.types >> declarations.procedures s.types s.procedures) (λ _. clauses s s.procedures) main.0 main.1 in
    clause_roles s s.procedures main.0 all.2

-- one place of two lists
at_place : (xs : List Note) (ps : List HldsGoal) (n : ℕ) → map noted xs ≡ map has_role ps → is_some (role_of_note (slice_get xs n)) ≡ is_with_role (slice_get ps n)
at_place [] [] n h = refl
at_place [] (p ∷ ps) n h = absurd (cc)
at_place (x ∷ xs) [] n h = absurd (cc)
at_place (x ∷ xs) (p ∷ ps) zero h = cc
at_place (x ∷ xs) (p ∷ ps) (suc n) h = let rest : map noted xs ≡ map has_role ps = cc in at_place xs ps n rest

pub role_told : (s : Hlds) (n : ℕ) → mode_fault s ≡ None → is_some (role_at (program_notes s) n) ≡ is_with_role (goal_at s n)
role_told s n h = at_place (program_notes s) (clause_goals s.procedures) n (program_roles s h)
