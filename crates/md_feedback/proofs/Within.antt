-- The pairs of a goal and of the goals within it are those of the conjunctions among them.
use Rattle.std.proofs.Common.{◌≡◌, ◌⊎◌, inl, inr, refl, ap, ◌∙◌, sym, subst, arith, ℕ, zero, suc, ◌+◌, ◌<◌, ◌≤◌, List, [], ◌∷◌, ◌++◌, length, length-append, Option, Some, slice_get}
use Rattle.std.proofs.lemmas.Option.{slice_get_within}
use Rattle.md_hlds.specs.HldsGoal.{HldsGoal, At, GoalExpr, SimpleGoal, CallGoal, HoCallGoal, ConjGoal, DisjGoal, IfGoal, NotGoal, SomeGoal, HldsGoals, nothing, also, goal_size, parts_size, goals_size, goals_within, goals_below, goals_among, numbered_from}
use Rattle.md_hlds.specs.Hlds.{Hlds, Procedure, goals_before, clause_goals}
use Rattle.md_hlds.proofs.SiteLemmas.{found_in_first, found_in_second}
use Rattle.md_feedback.specs.declared.pairs.Pair.{Pair}
use Rattle.md_feedback.specs.Search.{Reading, reading, costly_call, binds_in, led_by, goal_pairs, expr_pairs, each_pairs, arm_pairs, clause_pairs}
use Rattle.md_feedback.proofs.Members.{Member, member_left, member_right, member_split, get_split, some_is}
use Rattle.md_feedback.proofs.Depending.{Led}

-- ---- as many goals as their numbers take

mutual
  pub length-within : (p : HldsGoal) → length (goals_within p) ≡ goal_size p
  length-within (At l t) = ap suc (length-below t)

  pub length-below : (t : GoalExpr) → length (goals_below t) ≡ parts_size t
  length-below (SimpleGoal g) = refl
  length-below (CallGoal site q ys) = refl
  length-below (HoCallGoal site f ys) = refl
  length-below (ConjGoal ps) = length-among ps
  length-below (DisjGoal ps) = length-among ps
  length-below (IfGoal c t e) =
      omega (arith, length-append (goals_within c) (goals_within t ++ goals_within e), length-append (goals_within t) (goals_within e), length-within c, length-within t, length-within e)
  length-below (NotGoal c) = length-within c
  length-below (SomeGoal vs c) = length-within c

  pub length-among : (ps : HldsGoals) → length (goals_among ps) ≡ goals_size ps
  length-among nothing = refl
  length-among (also p ps) = omega (arith, length-append (goals_within p) (goals_among ps), length-within p, length-among ps)

-- ---- pairs of a conjunction among goals, the first of which has the number n

pub record FoundIn (c : Reading) (n : ℕ) (goals : List HldsGoal) (pair : Pair) : Type 0 where
  pub m : ℕ
  pub line : ℕ
  pub parts : HldsGoals
  pub at : slice_get goals m ≡ Some (At line (ConjGoal parts))
  pub led : Led c (numbered_from (n + m + 1) parts) pair

at_number : (c : Reading) (parts : HldsGoals) (pair : Pair) (k n : ℕ) → k ≡ n → Led c (numbered_from k parts) pair → Led c (numbered_from n parts) pair
at_number c parts pair k n e led = subst (λ (i : ℕ). Led c (numbered_from i parts) pair) e led

found_left : (c : Reading) (n : ℕ) (xs ys : List HldsGoal) (pair : Pair) → FoundIn c n xs pair → FoundIn c n (xs ++ ys) pair
found_left c n xs ys pair f = record { m = f.m; line = f.line; parts = f.parts; at = found_in_first xs ys f.m (At f.line (ConjGoal f.parts)) f.at; led = f.led }

found_right : (c : Reading) (n k : ℕ) (xs ys : List HldsGoal) (pair : Pair) → k ≡ n + length xs → FoundIn c k ys pair → FoundIn c n (xs ++ ys) pair
found_right c n k xs ys pair there f = record {
  m = length xs + f.m;
  line = f.line;
  parts = f.parts;
  at = found_in_second xs ys f.m (length xs + f.m) (At f.line (ConjGoal f.parts)) refl f.at;
  led = at_number c f.parts pair (k + f.m + 1) (n + (length xs + f.m) + 1) (omega (arith, there)) f.led;
}

found_split : (c : Reading) (n k : ℕ) (xs ys : List HldsGoal) (pair : Pair) → k ≡ n + length xs → FoundIn c n (xs ++ ys) pair → FoundIn c n xs pair ⊎ FoundIn c k ys pair
found_split c n k xs ys pair there f =
    elim (get_split xs ys f.m (At f.line (ConjGoal f.parts)) f.at) [
      | inl a ↦ inl (record { m = f.m; line = f.line; parts = f.parts; at = a; led = f.led })
      | inr b ↦ inr (record { m = b.0; line = f.line; parts = f.parts; at = b.2; led = at_number c f.parts pair (n + f.m + 1) (k + b.0 + 1) (omega (arith, there, b.1)) f.led })
    ]

found_below : (c : Reading) (n : ℕ) (x : HldsGoal) (xs : List HldsGoal) (pair : Pair) → FoundIn c (n + 1) xs pair → FoundIn c n (x ∷ xs) pair
found_below c n x xs pair f =
    record { m = suc f.m; line = f.line; parts = f.parts; at = f.at; led = at_number c f.parts pair (n + 1 + f.m + 1) (n + suc f.m + 1) (omega arith) f.led }

found_here : (c : Reading) (n l : ℕ) (ps : HldsGoals) (xs : List HldsGoal) (pair : Pair) → Led c (numbered_from (n + 1) ps) pair → FoundIn c n (At l (ConjGoal ps) ∷ xs) pair
found_here c n l ps xs pair led = record { m = 0; line = l; parts = ps; at = refl; led = at_number c ps pair (n + 1) (n + 0 + 1) (omega arith) led }

mutual
  pub goal_sound : (c : Reading) (n : ℕ) (p : HldsGoal) (pair : Pair) → Member pair (goal_pairs c n p) → FoundIn c n (goals_within p) pair
  goal_sound c n (At l t) pair m = expr_sound c n l t pair m

  expr_sound : (c : Reading) (n l : ℕ) (t : GoalExpr) (pair : Pair) → Member pair (expr_pairs c (n + 1) t) → FoundIn c n (At l t ∷ goals_below t) pair
  expr_sound c n l (SimpleGoal g) pair m = absurd m
  expr_sound c n l (CallGoal site q ys) pair m = absurd m
  expr_sound c n l (HoCallGoal site f ys) pair m = absurd m
  expr_sound c n l (ConjGoal ps) pair m =
      elim (each_sound c (n + 1) ps pair m) [ inl led ↦ found_here c n l ps (goals_among ps) pair led | inr f ↦ found_below c n (At l (ConjGoal ps)) (goals_among ps) pair f ]
  expr_sound c n l (DisjGoal ps) pair m = found_below c n (At l (DisjGoal ps)) (goals_among ps) pair (arms_sound c (n + 1) ps pair m)
  expr_sound c n l (IfGoal p t e) pair m =
      found_below c n (At l (IfGoal p t e)) (goals_within p ++ (goals_within t ++ goals_within e)) pair
      (elim (member_split pair (goal_pairs c (n + 1) p) (goal_pairs c (n + 1 + goal_size p) t ++ goal_pairs c (n + 1 + goal_size p + goal_size t) e) m) [
        | inl a ↦ found_left c (n + 1) (goals_within p) (goals_within t ++ goals_within e) pair (goal_sound c (n + 1) p pair a)
        | inr b ↦ found_right c (n + 1) (n + 1 + goal_size p) (goals_within p) (goals_within t ++ goals_within e) pair (omega (arith, length-within p))
            (elim (member_split pair (goal_pairs c (n + 1 + goal_size p) t) (goal_pairs c (n + 1 + goal_size p + goal_size t) e) b) [
              | inl a ↦ found_left c (n + 1 + goal_size p) (goals_within t) (goals_within e) pair (goal_sound c (n + 1 + goal_size p) t pair a)
              | inr d ↦ found_right c (n + 1 + goal_size p) (n + 1 + goal_size p + goal_size t) (goals_within t) (goals_within e) pair (omega (arith, length-within t))
                  (goal_sound c (n + 1 + goal_size p + goal_size t) e pair d)
            ])
      ])
  expr_sound c n l (NotGoal p) pair m = found_below c n (At l (NotGoal p)) (goals_within p) pair (goal_sound c (n + 1) p pair m)
  expr_sound c n l (SomeGoal vs p) pair m = found_below c n (At l (SomeGoal vs p)) (goals_within p) pair (goal_sound c (n + 1) p pair m)

  each_sound : (c : Reading) (n : ℕ) (ps : HldsGoals) (pair : Pair) → Member pair (each_pairs c n ps) → Led c (numbered_from n ps) pair ⊎ FoundIn c n (goals_among ps) pair
  each_sound c n nothing pair m = absurd m
  each_sound c n (also p ps) pair m =
      elim (member_split pair (goal_pairs c n p) (led_by c (costly_call c n p) (binds_in c n) (numbered_from (n + goal_size p) ps) ++ each_pairs c (n + goal_size p) ps) m) [
        | inl a ↦ inr (found_left c n (goals_within p) (goals_among ps) pair (goal_sound c n p pair a))
        | inr b ↦ elim (member_split pair (led_by c (costly_call c n p) (binds_in c n) (numbered_from (n + goal_size p) ps)) (each_pairs c (n + goal_size p) ps) b) [
          | inl led ↦ inl (inl led)
          | inr rest ↦ elim (each_sound c (n + goal_size p) ps pair rest) [
            | inl led ↦ inl (inr led)
            | inr f ↦ inr (found_right c n (n + goal_size p) (goals_within p) (goals_among ps) pair (omega (arith, length-within p)) f)
          ]
        ]
      ]

  arms_sound : (c : Reading) (n : ℕ) (ps : HldsGoals) (pair : Pair) → Member pair (arm_pairs c n ps) → FoundIn c n (goals_among ps) pair
  arms_sound c n nothing pair m = absurd m
  arms_sound c n (also p ps) pair m =
      elim (member_split pair (goal_pairs c n p) (arm_pairs c (n + goal_size p) ps) m) [
        | inl a ↦ found_left c n (goals_within p) (goals_among ps) pair (goal_sound c n p pair a)
        | inr b ↦ found_right c n (n + goal_size p) (goals_within p) (goals_among ps) pair (omega (arith, length-within p)) (arms_sound c (n + goal_size p) ps pair b)
      ]

nothing_found : (c : Reading) (n : ℕ) (pair : Pair) → FoundIn c n [] pair → ⊥
nothing_found c n pair f = let is : slice_get {X = HldsGoal} [] f.m ≡ Some (At f.line (ConjGoal f.parts)) = f.at in absurd (cc)

led_each : (c : Reading) (n : ℕ) (ps : HldsGoals) (pair : Pair) → Led c (numbered_from n ps) pair → Member pair (each_pairs c n ps)
led_each c n nothing pair led = absurd led
led_each c n (also p ps) pair (inl m) =
    member_right pair (goal_pairs c n p) (led_by c (costly_call c n p) (binds_in c n) (numbered_from (n + goal_size p) ps) ++ each_pairs c (n + goal_size p) ps)
    (member_left pair (led_by c (costly_call c n p) (binds_in c n) (numbered_from (n + goal_size p) ps)) (each_pairs c (n + goal_size p) ps) m)
led_each c n (also p ps) pair (inr led) =
    member_right pair (goal_pairs c n p) (led_by c (costly_call c n p) (binds_in c n) (numbered_from (n + goal_size p) ps) ++ each_pairs c (n + goal_size p) ps)
    (member_right pair (led_by c (costly_call c n p) (binds_in c n) (numbered_from (n + goal_size p) ps)) (each_pairs c (n + goal_size p) ps) (led_each c (n + goal_size p) ps pair led))

conj_is : (l k : ℕ) (t : GoalExpr) (ps : HldsGoals) → At l t ≡ At k (ConjGoal ps) → t ≡ ConjGoal ps
conj_is l k t ps e = cc

-- the conjunction is the goal itself, or below it
here_or_below : (c : Reading) (n l : ℕ) (t : GoalExpr) (pair : Pair) (m line : ℕ) (parts : HldsGoals) → slice_get (At l t ∷ goals_below t) m ≡ Some (At line (ConjGoal parts)) → Led c (numbered_from (n + m + 1) parts) pair
    → Member pair (expr_pairs c (n + 1) t) ⊎ FoundIn c (n + 1) (goals_below t) pair
here_or_below c n l t pair zero line parts at led =
    let is : t ≡ ConjGoal parts = conj_is l line t parts (some_is (At l t) (At line (ConjGoal parts)) at) in
    inl (subst (λ (x : GoalExpr). Member pair (expr_pairs c (n + 1) x)) (sym is) (led_each c (n + 1) parts pair (at_number c parts pair (n + 0 + 1) (n + 1) (omega arith) led)))
here_or_below c n l t pair (suc m) line parts at led =
    inr (record { m = m; line = line; parts = parts; at = at; led = at_number c parts pair (n + suc m + 1) (n + 1 + m + 1) (omega arith) led })

mutual
  pub goal_complete : (c : Reading) (n : ℕ) (p : HldsGoal) (pair : Pair) → FoundIn c n (goals_within p) pair → Member pair (goal_pairs c n p)
  goal_complete c n (At l t) pair f = elim (here_or_below c n l t pair f.m f.line f.parts f.at f.led) [ inl m ↦ m | inr below ↦ expr_complete c (n + 1) t pair below ]

  expr_complete : (c : Reading) (n : ℕ) (t : GoalExpr) (pair : Pair) → FoundIn c n (goals_below t) pair → Member pair (expr_pairs c n t)
  expr_complete c n (SimpleGoal g) pair f = nothing_found c n pair f
  expr_complete c n (CallGoal site q ys) pair f = nothing_found c n pair f
  expr_complete c n (HoCallGoal site g ys) pair f = nothing_found c n pair f
  expr_complete c n (ConjGoal ps) pair f = each_complete c n ps pair f
  expr_complete c n (DisjGoal ps) pair f = arms_complete c n ps pair f
  expr_complete c n (IfGoal p t e) pair f =
      elim (found_split c n (n + goal_size p) (goals_within p) (goals_within t ++ goals_within e) pair (omega (arith, length-within p)) f) [
        | inl a ↦ member_left pair (goal_pairs c n p) (goal_pairs c (n + goal_size p) t ++ goal_pairs c (n + goal_size p + goal_size t) e) (goal_complete c n p pair a)
        | inr b ↦ member_right pair (goal_pairs c n p) (goal_pairs c (n + goal_size p) t ++ goal_pairs c (n + goal_size p + goal_size t) e)
            (elim (found_split c (n + goal_size p) (n + goal_size p + goal_size t) (goals_within t) (goals_within e) pair (omega (arith, length-within t)) b) [
              | inl a ↦ member_left pair (goal_pairs c (n + goal_size p) t) (goal_pairs c (n + goal_size p + goal_size t) e) (goal_complete c (n + goal_size p) t pair a)
              | inr d ↦ member_right pair (goal_pairs c (n + goal_size p) t) (goal_pairs c (n + goal_size p + goal_size t) e) (goal_complete c (n + goal_size p + goal_size t) e pair d)
            ])
      ]
  expr_complete c n (NotGoal p) pair f = goal_complete c n p pair f
  expr_complete c n (SomeGoal vs p) pair f = goal_complete c n p pair f

  each_complete : (c : Reading) (n : ℕ) (ps : HldsGoals) (pair : Pair) → FoundIn c n (goals_among ps) pair → Member pair (each_pairs c n ps)
  each_complete c n nothing pair f = nothing_found c n pair f
  each_complete c n (also p ps) pair f =
      elim (found_split c n (n + goal_size p) (goals_within p) (goals_among ps) pair (omega (arith, length-within p)) f) [
        | inl a ↦ member_left pair (goal_pairs c n p) (led_by c (costly_call c n p) (binds_in c n) (numbered_from (n + goal_size p) ps) ++ each_pairs c (n + goal_size p) ps) (goal_complete c n p pair a)
        | inr b ↦ member_right pair (goal_pairs c n p) (led_by c (costly_call c n p) (binds_in c n) (numbered_from (n + goal_size p) ps) ++ each_pairs c (n + goal_size p) ps)
            (member_right pair (led_by c (costly_call c n p) (binds_in c n) (numbered_from (n + goal_size p) ps)) (each_pairs c (n + goal_size p) ps) (each_complete c (n + goal_size p) ps pair b))
      ]

  arms_complete : (c : Reading) (n : ℕ) (ps : HldsGoals) (pair : Pair) → FoundIn c n (goals_among ps) pair → Member pair (arm_pairs c n ps)
  arms_complete c n nothing pair f = nothing_found c n pair f
  arms_complete c n (also p ps) pair f =
      elim (found_split c n (n + goal_size p) (goals_within p) (goals_among ps) pair (omega (arith, length-within p)) f) [
        | inl a ↦ member_left pair (goal_pairs c n p) (arm_pairs c (n + goal_size p) ps) (goal_complete c n p pair a)
        | inr b ↦ member_right pair (goal_pairs c n p) (arm_pairs c (n + goal_size p) ps) (arms_complete c (n + goal_size p) ps pair b)
      ]

-- ---- the clauses

-- a pair of a conjunction in the clause of the procedure of this number
pub record InClause (s : Hlds) (heavy : List (Option ℕ)) (owner n : ℕ) (procs : List Procedure) (pair : Pair) : Type 0 where
  pub q : ℕ
  pub p : Procedure
  pub at : slice_get procs q ≡ Some p
  pub found : FoundIn (reading s heavy (owner + q)) (n + goals_before procs q) (goals_within p.body) pair

found_as : (s : Hlds) (heavy : List (Option ℕ)) (o o' n n' : ℕ) (goals : List HldsGoal) (pair : Pair) → o ≡ o' → n ≡ n' → FoundIn (reading s heavy o) n goals pair → FoundIn (reading s heavy o') n' goals pair
found_as s heavy o o' n n' goals pair e d f =
    subst (λ (i : ℕ). FoundIn (reading s heavy o') i goals pair) d (subst (λ (i : ℕ). FoundIn (reading s heavy i) n goals pair) e f)

pub clauses_sound : (s : Hlds) (heavy : List (Option ℕ)) (owner n : ℕ) (procs : List Procedure) (pair : Pair) → Member pair (clause_pairs s heavy owner n procs) → InClause s heavy owner n procs pair
clauses_sound s heavy owner n [] pair m = absurd m
clauses_sound s heavy owner n (p ∷ ps) pair m =
    elim (member_split pair (goal_pairs (reading s heavy owner) n p.body) (clause_pairs s heavy (suc owner) (n + goal_size p.body) ps) m) [
      | inl a ↦ record { q = 0; p = p; at = refl; found = found_as s heavy owner (owner + 0) n (n + 0) (goals_within p.body) pair (omega arith) (omega arith) (goal_sound (reading s heavy owner) n p.body pair a) }
      | inr b ↦ (let r : InClause s heavy (suc owner) (n + goal_size p.body) ps pair = clauses_sound s heavy (suc owner) (n + goal_size p.body) ps pair b in
          record { q = suc r.q; p = r.p; at = r.at; found = found_as s heavy (suc owner + r.q) (owner + suc r.q) (n + goal_size p.body + goals_before ps r.q) (n + (goal_size p.body + goals_before ps r.q)) (goals_within r.p.body) pair (omega arith) (omega arith) r.found })
    ]

clause_here : (s : Hlds) (heavy : List (Option ℕ)) (owner n : ℕ) (p : Procedure) (ps : List Procedure) (pair : Pair) → (InClause s heavy (suc owner) (n + goal_size p.body) ps pair → Member pair (clause_pairs s heavy (suc owner) (n + goal_size p.body) ps))
    → (q : ℕ) (r : Procedure) → slice_get (p ∷ ps) q ≡ Some r → FoundIn (reading s heavy (owner + q)) (n + goals_before (p ∷ ps) q) (goals_within r.body) pair
    → Member pair (goal_pairs (reading s heavy owner) n p.body ++ clause_pairs s heavy (suc owner) (n + goal_size p.body) ps)
clause_here s heavy owner n p ps pair again zero r at found =
    let same : r ≡ p = sym (some_is p r at) in
    member_left pair (goal_pairs (reading s heavy owner) n p.body) (clause_pairs s heavy (suc owner) (n + goal_size p.body) ps)
    (goal_complete (reading s heavy owner) n p.body pair
    (subst (λ (x : Procedure). FoundIn (reading s heavy owner) n (goals_within x.body) pair) same (found_as s heavy (owner + 0) owner (n + 0) n (goals_within r.body) pair (omega arith) (omega arith) found)))
clause_here s heavy owner n p ps pair again (suc q) r at found =
    member_right pair (goal_pairs (reading s heavy owner) n p.body) (clause_pairs s heavy (suc owner) (n + goal_size p.body) ps)
    (again (record {
      q = q;
      p = r;
      at = at;
      found = found_as s heavy (owner + suc q) (suc owner + q) (n + (goal_size p.body + goals_before ps q)) (n + goal_size p.body + goals_before ps q) (goals_within r.body) pair (omega arith) (omega arith) found;
    }))

pub clauses_complete : (s : Hlds) (heavy : List (Option ℕ)) (owner n : ℕ) (procs : List Procedure) (pair : Pair) → InClause s heavy owner n procs pair → Member pair (clause_pairs s heavy owner n procs)
clauses_complete s heavy owner n [] pair r = let is : slice_get {X = Procedure} [] r.q ≡ Some r.p = r.at in absurd (cc)
clauses_complete s heavy owner n (p ∷ ps) pair r =
    clause_here s heavy owner n p ps pair (λ more. clauses_complete s heavy (suc owner) (n + goal_size p.body) ps pair more) r.q r.p r.at r.found

-- ---- the numbers of the goals of a clause

plus_zero : (n : ℕ) → n + 0 ≡ n
plus_zero n = omega arith

zero_plus : (n : ℕ) → n ≡ 0 + n
zero_plus n = omega arith

zero_plus' : (n : ℕ) → 0 + n ≡ n
zero_plus' n = omega arith

first_before : (xs : List Procedure) (x : Procedure) → goals_before (x ∷ xs) 1 ≡ goal_size x.body
first_before [] x = plus_zero (goal_size x.body)
first_before (y ∷ ys) x = plus_zero (goal_size x.body)

pub before_next : (procs : List Procedure) (q : ℕ) (p : Procedure) → slice_get procs q ≡ Some p → goals_before procs (suc q) ≡ goals_before procs q + goal_size p.body
before_next [] q p at = absurd (cc)
before_next (x ∷ xs) zero p at = let same : x ≡ p = some_is x p at in (first_before xs x ∙ ap (λ (r : Procedure). goal_size r.body) same) ∙ zero_plus (goal_size p.body)
before_next (x ∷ xs) (suc q) p at = omega (arith, before_next xs q p at)

-- a procedure with that many goals before it has its goals there
pub goal_there : (procs : List Procedure) (q m : ℕ) (p : Procedure) (x : HldsGoal) → slice_get procs q ≡ Some p → slice_get (goals_within p.body) m ≡ Some x → slice_get (clause_goals procs) (goals_before procs q + m) ≡ Some x
goal_there [] q m p x at is = absurd (cc)
goal_there (y ∷ ys) zero m p x at is =
    let same : y ≡ p = some_is y p at in
    let here : slice_get (goals_within y.body) m ≡ Some x = subst (λ (r : Procedure). slice_get (goals_within r.body) m ≡ Some x) (sym same) is in
    ap (slice_get (clause_goals (y ∷ ys))) (zero_plus' m) ∙ found_in_first (goals_within y.body) (clause_goals ys) m x here
goal_there (y ∷ ys) (suc q) m p x at is =
    found_in_second (goals_within y.body) (clause_goals ys) (goals_before ys q + m) (goal_size y.body + goals_before ys q + m) x (omega (arith, length-within y.body)) (goal_there ys q m p x at is)

-- a goal whose number stands in a clause is one of its goals
pub record GoalOf (procs : List Procedure) (q number : ℕ) (x : HldsGoal) : Type 0 where
  pub p : Procedure
  pub at : slice_get procs q ≡ Some p
  pub m : ℕ
  pub is : number ≡ goals_before procs q + m
  pub here : slice_get (goals_within p.body) m ≡ Some x

pub goal_in_clause : (procs : List Procedure) (q number : ℕ) (x : HldsGoal) → goals_before procs q ≤ number → number < goals_before procs (suc q) → slice_get (clause_goals procs) number ≡ Some x
    → GoalOf procs q number x
goal_in_clause [] q number x le lt is = absurd (cc)
goal_in_clause (y ∷ ys) zero number x le lt is =
    elim (get_split (goals_within y.body) (clause_goals ys) number x is) [
      | inl a ↦ record { p = y; at = refl; m = number; is = sym (zero_plus' number); here = a }
      | inr b ↦ absurd (omega (arith, lt, first_before ys y, b.1, length-within y.body))
    ]
goal_in_clause (y ∷ ys) (suc q) number x le lt is =
    elim (get_split (goals_within y.body) (clause_goals ys) number x is) [
      | inl a ↦ absurd (omega (arith, le, slice_get_within (goals_within y.body) number x a, length-within y.body))
      | inr b ↦ (let r : GoalOf ys q b.0 x = goal_in_clause ys q b.0 x (omega (arith, le, b.1, length-within y.body)) (omega (arith, lt, b.1, length-within y.body)) b.2 in
          record { p = r.p; at = r.at; m = r.m; is = omega (arith, b.1, r.is, length-within y.body); here = r.here })
    ]
