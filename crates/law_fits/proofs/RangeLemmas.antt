-- What the grammar gives of a clause's variables: each is a number below how many names the clause's variables have. As the
-- tokens are taken the names grow, and each variable that is taken is below how many there are then.
use Rattle.std.proofs.Common.{◌≡◌, refl, sym, ap, ◌∙◌, subst, inl, inr, arith, ℕ, zero, suc, ◌+◌, ◌<◌, ◌≤◌, ◌==◌, Bool, true, false, not, cond, nat_eq, nat_lt, List, [], ◌∷◌, ◌++◌, length, length-append, Option, Some, None, Ok, slice_get, codes}
use Rattle.std.proofs.lemmas.Bool.{cases_lt, eqb-true, false≢true, eq-eqb}
use Rattle.std.proofs.lemmas.List.Sums.{prefix_len-le-length}
use Rattle.std.specs.List.{list_any}
use Rattle.std.specs.Str.{bytes_eq}
use Rattle.md_hlds.specs.declared.goal.PredName.{PredName}
use Rattle.md_hlds.specs.HldsGoal.{HldsGoal, GoalExpr, SimpleGoal, gathered, Unifies, WritesInt, WritesText, EndsLine, Raises}
use Rattle.md_hlds.specs.declared.goal.Term.{Term as Written}
use Rattle.md_hlds.specs.Hlds.{Procedure, Hlds}
use Rattle.md_token.specs.declared.kind.Kind.{Kind}
use Rattle.md_token.specs.declared.kind.Kind.TheVariants as kind
use Rattle.md_token.specs.Literal.{number_of, string_value}
use Rattle.md_reader.specs.Input.{Input, expect, refuse, limit, token, sees, next, variable, place_of, with_variable, site, end_clause}
use Rattle.md_reader.specs.Rules as rule
use Rattle.md_reader.specs.Grammar as g
use Rattle.md_reader.specs.Grammar.{Is, Sign, Listed, last, also, Enclosed, enclosed, Variables, Arguments, Quantified, Operator, Comparison, Term, Relation, Call, ClosureCall, Goal, Units, Conjunction, Arms, Head, PredClause, Declared, Declarations, Program, Spells}
use Rattle.md_reader.proofs.Steps.{chosen, ok_input, ok_value, past_three}
use Rattle.md_reader.proofs.Taking.{signed, expected}
use Rattle.md_inst.specs.Instantiation.{times}
use Rattle.md_modes.specs.Goals.{variables, expr_variables, parts_variables, clause_variables}

-- ---- variables below a number

abbrev EachBelow : ℕ → List ℕ → Type 0
EachBelow n [] = Unit {0}
EachBelow n (x ∷ xs) = (x < n) × EachBelow n xs

below_more : (n m : ℕ) (xs : List ℕ) → n ≤ m → EachBelow n xs → EachBelow m xs
below_more n m [] le h = tt
below_more n m (x ∷ xs) le h = (let lt = h.0 in omega (arith, lt, le), below_more n m xs le h.1)

below_append : (n : ℕ) (xs ys : List ℕ) → EachBelow n xs → EachBelow n ys → EachBelow n (xs ++ ys)
below_append n [] ys h k = k
below_append n (x ∷ xs) ys h k = (h.0, below_append n xs ys h.1 k)

below_at : (n : ℕ) (xs : List ℕ) (y : ℕ) → EachBelow n xs → 0 < times y xs → y < n
below_at n [] y h there = absurd (omega (arith, there))
below_at n (x ∷ xs) y h there = by_value (nat_eq y x) refl (λ more. below_at n xs y h.1 more)
  where
    by_value : (b : Bool) → nat_eq y x ≡ b → (0 < times y xs → y < n) → y < n
    by_value true is later = let same = eqb-true y x is in let lt = h.0 in omega (arith, same, lt)
    by_value false is later = later (let fewer : times y (x ∷ xs) ≡ times y xs = rw is refl in omega (arith, there, fewer))

-- ---- what is taken from one place to another

-- the names of the clause's variables are no fewer, and these variables are below how many there are
record Adds (i j : Input) (xs : List ℕ) : Type 0 where
  more : length i.vars ≤ length j.vars
  below : EachBelow (length j.vars) xs

adds_then : (i j k : Input) (xs ys : List ℕ) → Adds i j xs → Adds j k ys → Adds i k (xs ++ ys)
adds_then i j k xs ys a b = record {
  more = omega (arith, a.more, b.more);
  below = below_append (length k.vars) xs ys (below_more (length j.vars) (length k.vars) xs b.more a.below) b.below;
}

-- nothing is taken before, or after
after : (i j k : Input) (xs : List ℕ) → Adds i j [] → Adds j k xs → Adds i k xs
after i j k xs a b = record { more = omega (arith, a.more, b.more); below = b.below }

before : (i j k : Input) (xs : List ℕ) → Adds i j xs → Adds j k [] → Adds i k xs
before i j k xs a b = record { more = omega (arith, a.more, b.more); below = below_more (length j.vars) (length k.vars) xs b.more a.below }

quiet : (i j : Input) → i.vars ≡ j.vars → Adds i j []
quiet i j same = record { more = let size = ap (λ (vs : List (List ℕ)). length vs) same in omega (arith, size); below = tt }

stays : (i : Input) → Adds i i []
stays i = record { more = omega arith; below = tt }

next_vars : (i : Input) → i.vars ≡ (next i).vars
unfolding next
next_vars i = refl

to_next : (i j : Input) → j ≡ next i → Adds i j []
to_next i j is = quiet i j (next_vars i ∙ ap (λ (k : Input). k.vars) (sym is))

sign_adds : (k : Kind) (i j : Input) → Sign k i j → Adds i j []
sign_adds k i j s = to_next i j (signed k i j s).behind

expect_adds : (k : Kind) (line : ℕ) (i j : Input) → Is (expect k) line i j → Adds i j []
expect_adds k line i j is = to_next i j (expected k line i j is).behind

written_behind : (o : Option rule.Written) (q : PredName) (i j : Input) → rule.take_written o i ≡ Ok (q, j) → j ≡ next i
written_behind None q i j is = absurd (cc)
written_behind (Some w) q i j is =
    elim (chosen (rule.is_long i.limits.items w) (limit i) (Ok (rule.meant i.home w, next i)) (Ok (q, j)) is) [
      | inl l ↦ absurd (let e = l.1 in cc)
      | inr r ↦ sym (ok_input (rule.meant i.home w) q (next i) j r.1)
    ]

pred_name_adds : (q : PredName) (i j : Input) → Is rule.pred_name q i j → Adds i j []
unfolding rule.pred_name
pred_name_adds q i j is = to_next i j (written_behind (rule.written (token i)) q i j is)

same_behind : (q : PredName) (o : Option rule.Written) (i j : Input) → rule.take_same q o i ≡ Ok (tt, j) → j ≡ next i
same_behind q None i j is = absurd (cc)
same_behind q (Some w) i j is =
    elim (chosen (rule.same_name (rule.meant i.home w) q) (Ok (tt, next i)) (refuse i) (Ok (tt, j)) is) [
      | inl l ↦ sym (ok_input tt tt (next i) j l.1)
      | inr r ↦ absurd (let e = r.1 in cc)
    ]

this_name_adds : (q : PredName) (i j : Input) → Is (rule.this_name q) tt i j → Adds i j []
unfolding rule.this_name rule.written
this_name_adds q i j is = to_next i j (same_behind q (rule.written (token i)) i j is)

site_adds : (n : ℕ) (i j : Input) → Is site n i j → Adds i j []
unfolding site
site_adds n i j is = quiet i j (ap (λ (k : Input). k.vars) (ok_input i.sites n (record i { sites = i.sites + 1 }) j is))

-- ---- variables

with_one : (b : Bool) (x : List ℕ) (vars : List (List ℕ)) (at : ℕ) → at ≤ length vars → (at == length vars) ≡ b → (at < length (cond b (vars ++ x ∷ []) vars)) × (length vars ≤ length (cond b (vars ++ x ∷ []) vars))
with_one true x vars at le is = let long = length-append vars (x ∷ []) in (omega (arith, le, long), omega (arith, long))
with_one false x vars at le is = elim (cases_lt at (length vars)) [
  | inl lt ↦ (lt, omega arith)
  | inr ge ↦ absurd (false≢true (sym is ∙ eq-eqb at (length vars) (omega (arith, le, ge))))
]

variable_there : (x : List ℕ) (vars : List (List ℕ)) → (place_of x vars < length (with_variable x vars)) × (length vars ≤ length (with_variable x vars))
unfolding with_variable
variable_there x vars = with_one (place_of x vars == length vars) x vars (place_of x vars) (prefix_len-le-length (λ k. not (bytes_eq x k)) vars) refl

variable_adds : (seen : List ℕ) (x : ℕ) (i j : Input) → Is (variable seen) x i j → Adds i j (x ∷ [])
unfolding variable
variable_adds seen x i j is =
    let at = place_of (token i).text i.vars in
    let p = past_three (not (sees kind.Variable i)) (list_any (λ y. y == at) seen) (nat_lt i.limits.items (length (token i).text)) _ _ _ _ _ is in
    let t = variable_there (token i).text i.vars in
    taken t (ok_value at x (record (next i) { vars = with_variable (token i).text i.vars }) j p.3) (ok_input at x (record (next i) { vars = with_variable (token i).text i.vars }) j p.3)
  where
    taken : (place_of (token i).text i.vars < length (with_variable (token i).text i.vars)) × (length i.vars ≤ length (with_variable (token i).text i.vars))
        → place_of (token i).text i.vars ≡ x → record (next i) { vars = with_variable (token i).text i.vars } ≡ j → Adds i j (x ∷ [])
    taken t same there =
        let vars : with_variable (token i).text i.vars ≡ j.vars = ap (λ (k : Input). k.vars) there in
        let size : length (with_variable (token i).text i.vars) ≡ length j.vars = ap (λ (vs : List (List ℕ)). length vs) vars in
        record { more = let b = t.1 in omega (arith, b, size); below = (let a = t.0 in omega (arith, a, size, same), tt) }

-- ---- lists

listed_adds : (between : Kind) (xs : List ℕ) (i j : Input) → Listed (Is (variable [])) between xs i j → Adds i j xs
listed_adds between _ _ _ (last x i j is) = variable_adds [] x i j is
listed_adds between _ _ _ (also x xs i j k m is mark rest) = adds_then i j m (x ∷ []) xs (variable_adds [] x i j is) (after j k m xs (sign_adds between j k mark) (listed_adds between xs k m rest))

enclosed_adds : (closing : Kind) (xs : List ℕ) (i j : Input) → Enclosed (Is (variable [])) closing xs i j → Adds i j xs
enclosed_adds closing _ _ _ (enclosed xs i j k is few mark) = before i j k xs (listed_adds kind.Comma xs i j is) (sign_adds closing j k mark)

variables_add : (closing : Kind) (seen xs : List ℕ) (i j : Input) → Variables closing seen xs i j → Adds i j xs
variables_add closing seen _ _ _ (g.variables xs i j is new) = enclosed_adds closing xs i j is

arguments_add : (seen xs : List ℕ) (i j : Input) → Arguments seen xs i j → Adds i j xs
arguments_add seen _ _ _ (g.Arguments.none i) = stays i
arguments_add seen _ _ _ (g.Arguments.some xs i j k mark is) = after i j k xs (sign_adds kind.Open i j mark) (variables_add kind.Close seen xs j k is)

quantified_adds : (xs : List ℕ) (i j : Input) → Quantified xs i j → Adds i j xs
quantified_adds _ _ _ (g.Quantified.none i j mark) = sign_adds kind.CloseList i j mark
quantified_adds _ _ _ (g.Quantified.some xs i j is) = variables_add kind.CloseList [] xs i j is

-- ---- terms

operator_adds : (o : _) (i j : Input) → Operator o i j → Adds i j []
operator_adds _ _ _ (g.operator k i j is mark) = sign_adds k i j mark

comparison_adds : (c : _) (i j : Input) → Comparison c i j → Adds i j []
comparison_adds _ _ _ (g.Comparison.comparison k i j is mark) = sign_adds k i j mark

-- behind X the goal has only the variable X
abbrev AddsAfter : ℕ → GoalExpr → Input → Input → Type 0
AddsAfter x t i j = x < length i.vars → Adds i j (expr_variables t)

constant_adds : (x : ℕ) (t : Written) (u : GoalExpr) (i j : Input) → expr_variables (SimpleGoal (Unifies x t)) ≡ x ∷ [] → Adds i j [] → SimpleGoal (Unifies x t) ≡ u → AddsAfter x u i j
constant_adds x t u i j only a same lt =
    subst (λ (w : GoalExpr). Adds i j (expr_variables w)) same (rw only (record { more = a.more; below = (let m = a.more in omega (arith, lt, m), tt) }))

limited : (b : Bool) (x : ℕ) (u : Written) (t : GoalExpr) (i j : Input) → expr_variables (SimpleGoal (Unifies x u)) ≡ x ∷ [] → cond b (limit i) (Ok (SimpleGoal (Unifies x u), next i)) ≡ Ok (t, j) → AddsAfter x t i j
limited true x u t i j only is = absurd (cc)
limited false x u t i j only is =
    constant_adds x u t i j only (to_next i j (sym (ok_input (SimpleGoal (Unifies x u)) t (next i) j is))) (ok_value (SimpleGoal (Unifies x u)) t (next i) j is)

positive_adds : (x : ℕ) (t : GoalExpr) (i j : Input) → Is (rule.positive x) t i j → AddsAfter x t i j
unfolding rule.positive
positive_adds x t i j is = limited (nat_lt i.limits.integer (number_of (token i).text)) x _ t i j refl is

negated_adds : (x : ℕ) (t : GoalExpr) (i j : Input) → Is (rule.negated x) t i j → AddsAfter x t i j
unfolding rule.negated
negated_adds x t i j is =
    elim (chosen (sees kind.Integer i) (rule.take_negative x (number_of (token i).text) i) (refuse i) (Ok (t, j)) is) [
      | inl l ↦ limited (nat_lt (suc i.limits.integer) (number_of (token i).text)) x _ t i j refl l.1
      | inr r ↦ absurd (let e = r.1 in cc)
    ]

literal_adds : (x : ℕ) (t : GoalExpr) (i j : Input) → Is (rule.literal x) t i j → AddsAfter x t i j
unfolding rule.literal
literal_adds x t i j is = limited (nat_lt i.limits.bytes (length (string_value (token i).text))) x _ t i j refl is

-- x, and then the others
first_adds : (i j : Input) (x : ℕ) (xs : List ℕ) → x < length i.vars → Adds i j xs → Adds i j (x ∷ xs)
first_adds i j x xs lt a = record { more = a.more; below = (let m = a.more in omega (arith, lt, m), a.below) }

term_adds : (x : ℕ) (t : GoalExpr) (i j : Input) → Term x t i j → AddsAfter x t i j
term_adds x _ _ _ (g.Term.same y i j is) lt = first_adds i j x (y ∷ []) lt (variable_adds (x ∷ []) y i j is)
term_adds x _ _ _ (g.Term.arithmetic y z o i j k m is op second) lt =
    first_adds i m x (y ∷ z ∷ []) lt (adds_then i j m (y ∷ []) (z ∷ []) (variable_adds (x ∷ []) y i j is) (after j k m (z ∷ []) (operator_adds o j k op) (variable_adds (x ∷ y ∷ []) z k m second)))
term_adds x _ _ _ (g.Term.positive t i j kind is) lt = positive_adds x t i j is lt
term_adds x _ _ _ (g.Term.negative t i j k mark is) lt =
    let s = sign_adds kind.Minus i j mark in
    after i j k (expr_variables t) s (negated_adds x t j k is (let m = s.more in omega (arith, lt, m)))
term_adds x _ _ _ (g.Term.literal t i j kind is) lt = literal_adds x t i j is lt
term_adds x _ _ _ (g.Term.application f ys i j k is args) lt = first_adds i k x ys lt (after i j k ys (pred_name_adds f i j is) (arguments_add (x ∷ []) ys j k args))

-- ---- goals without parts

relation_adds : (t : GoalExpr) (i j : Input) → Relation t i j → Adds i j (expr_variables t)
relation_adds _ _ _ (g.Relation.unification x t i j k m is mark term) =
    let v = variable_adds [] x i j is in
    let s = sign_adds kind.Equals j k mark in
    let r = term_adds x t k m term (let lt = v.below.0 in let more = s.more in omega (arith, lt, more)) in
    record { more = let a = v.more in let b = s.more in let c = r.more in omega (arith, a, b, c); below = r.below }
relation_adds _ _ _ (g.Relation.comparison x y c i j k m is compared second) =
    adds_then i j m (x ∷ []) (y ∷ []) (variable_adds [] x i j is) (after j k m (y ∷ []) (comparison_adds c j k compared) (variable_adds (x ∷ []) y k m second))

-- a builtin goal has the variables of its arguments
builtin_choice : (b : Bool) (u t : GoalExpr) (rest : Option GoalExpr) (xs : List ℕ) → cond b (Some u) rest ≡ Some t → expr_variables u ≡ xs → (rest ≡ Some t → expr_variables t ≡ xs) → expr_variables t ≡ xs
builtin_choice true u t rest xs is same more = let e : u ≡ t = cc is in sym (ap (λ (w : GoalExpr). expr_variables w) e) ∙ same
builtin_choice false u t rest xs is same more = more is

builtin_variables : (q : PredName) (ys : List ℕ) (t : GoalExpr) → rule.builtin q ys ≡ Some t → expr_variables t ≡ ys
builtin_variables q [] t is = absurd (cc is)
builtin_variables q (x ∷ []) t is = builtin_choice (rule.is_builtin (codes "require") (codes "error") q) (SimpleGoal (Raises x)) t None (x ∷ []) is refl (λ e. absurd (cc e))
builtin_variables q (a ∷ b ∷ []) t is = builtin_choice (rule.is_builtin (codes "io") (codes "nl") q) (SimpleGoal (EndsLine a b)) t None (a ∷ b ∷ []) is refl (λ e. absurd (cc e))
builtin_variables q (x ∷ a ∷ b ∷ []) t is =
    builtin_choice (rule.is_builtin (codes "io") (codes "write_int") q) (SimpleGoal (WritesInt x a b)) t
    (cond (rule.is_builtin (codes "io") (codes "write_string") q) (Some (SimpleGoal (WritesText x a b))) None) (x ∷ a ∷ b ∷ []) is refl
    (λ e. builtin_choice (rule.is_builtin (codes "io") (codes "write_string") q) (SimpleGoal (WritesText x a b)) t None (x ∷ a ∷ b ∷ []) e refl (λ f. absurd (cc f)))
builtin_variables q (x ∷ a ∷ b ∷ c ∷ ys) t is = absurd (cc is)

call_adds : (t : GoalExpr) (i j : Input) → Call t i j → Adds i j (expr_variables t)
call_adds _ _ _ (g.Call.builtin q ys t i j k name args is) =
    rw (builtin_variables q ys t is) (after i j k ys (pred_name_adds q i j name) (arguments_add [] ys j k args))
call_adds _ _ _ (g.Call.call q ys n i j k m name args is at) =
    after i j m ys (pred_name_adds q i j name) (before j k m ys (arguments_add [] ys j k args) (site_adds n k m at))

closure_adds : (t : GoalExpr) (i j : Input) → ClosureCall t i j → Adds i j (expr_variables t)
closure_adds _ _ _ (g.ClosureCall.closure_call f ys n i j k m o mark opening args at) =
    after i j o (f ∷ ys) (sign_adds kind.Call i j mark) (after j k o (f ∷ ys) (sign_adds kind.Open j k opening) (before k m o (f ∷ ys) (variables_add kind.Close [] (f ∷ ys) k m args) (site_adds n m o at)))

-- ---- goals

abbrev AllAdd : List HldsGoal → Input → Input → Type 0
AllAdd ps i j = Adds i j (parts_variables (gathered ps))

one_adds : (p : HldsGoal) (i j : Input) → Adds i j (variables p) → AllAdd (p ∷ []) i j
one_adds p i j a = adds_then i j j (variables p) [] a (stays j)

joined_adds : (ps : List HldsGoal) (i j : Input) → AllAdd ps i j → Adds i j (variables (rule.joined ps))
joined_adds [] i j a = a
joined_adds (p ∷ []) i j a = record { more = a.more; below = fewer (length j.vars) (variables p) a.below }
  where
    fewer : (n : ℕ) (xs : List ℕ) → EachBelow n (xs ++ []) → EachBelow n xs
    fewer n [] h = tt
    fewer n (x ∷ xs) h = (h.0, fewer n xs h.1)
joined_adds (p ∷ q ∷ ps) i j a = a

mutual
  goal_adds : (room : ℕ) (p : HldsGoal) (i j : Input) → Goal room p i j → Adds i j (variables p)
  goal_adds _ _ _ _ (g.Goal.true room line i j is) = expect_adds kind.True line i j is
  goal_adds _ _ _ _ (g.Goal.fail room line i j is) = expect_adds kind.Fail line i j is
  goal_adds _ _ _ _ (g.Goal.relation room t i j is) = relation_adds t i j is
  goal_adds _ _ _ _ (g.Goal.call room t i j is) = call_adds t i j is
  goal_adds _ _ _ _ (g.Goal.closure_call room t i j is) = closure_adds t i j is
  goal_adds _ _ _ _ (g.Goal.parentheses room p i j k m opening is shut) =
      after i j m (variables p) (sign_adds kind.Open i j opening) (before j k m (variables p) (conjunction_adds room p j k is) (sign_adds kind.Close k m shut))
  goal_adds _ _ _ _ (g.Goal.disjunction room line p ps i j k m n o opening is mark arms shut) =
      let arms_there = before m n o (parts_variables (gathered ps)) (arms_add room ps m n arms) (sign_adds kind.Close n o shut) in
      after i j o (variables p ++ parts_variables (gathered ps)) (expect_adds kind.Open line i j opening)
      (adds_then j k o (variables p) (parts_variables (gathered ps)) (conjunction_adds room p j k is) (after k m o (parts_variables (gathered ps)) (sign_adds kind.Semicolon k m mark) arms_there))
  goal_adds _ _ _ _ (g.Goal.choice room line c t e i j k m n o p q opening is then' this semicolon that shut) =
      let last_there = after n o q (variables e) (sign_adds kind.Semicolon n o semicolon) (before o p q (variables e) (conjunction_adds room e o p that) (sign_adds kind.Close p q shut)) in
      let both = adds_then m n q (variables t) (variables e) (conjunction_adds room t m n this) last_there in
      after i j q (variables c ++ (variables t ++ variables e)) (expect_adds kind.Open line i j opening)
      (adds_then j k q (variables c) (variables t ++ variables e) (conjunction_adds room c j k is) (after k m q (variables t ++ variables e) (sign_adds kind.Then k m then') both))
  goal_adds _ _ _ _ (g.Goal.negation room line c i j k m n not' opening is shut) =
      after i j n (variables c) (expect_adds kind.Not line i j not')
      (after j k n (variables c) (sign_adds kind.Open j k opening) (before k m n (variables c) (conjunction_adds room c k m is) (sign_adds kind.Close m n shut)))
  goal_adds _ _ _ _ (g.Goal.quantification room line vs c i j k m n o p some list quantified opening is shut) =
      let inside = after m n p (variables c) (sign_adds kind.Open m n opening) (before n o p (variables c) (conjunction_adds room c n o is) (sign_adds kind.Close o p shut)) in
      after i j p (vs ++ variables c) (expect_adds kind.Some line i j some)
      (after j k p (vs ++ variables c) (sign_adds kind.OpenList j k list) (adds_then k m p vs (variables c) (quantified_adds vs k m quantified) inside))

  units_add : (room : ℕ) (ps : List HldsGoal) (i j : Input) → Units room ps i j → AllAdd ps i j
  units_add _ _ _ _ (g.Units.last room p i j is) = one_adds p i j (goal_adds room p i j is)
  units_add _ _ _ _ (g.Units.also room p ps i j k m is mark rest) =
      adds_then i j m (variables p) (parts_variables (gathered ps)) (goal_adds room p i j is) (after j k m (parts_variables (gathered ps)) (sign_adds kind.Comma j k mark) (units_add room ps k m rest))

  conjunction_adds : (room : ℕ) (p : HldsGoal) (i j : Input) → Conjunction room p i j → Adds i j (variables p)
  conjunction_adds _ _ _ _ (g.Conjunction.conjunction room ps i j is) = joined_adds ps i j (units_add room ps i j is)

  arms_add : (room : ℕ) (ps : List HldsGoal) (i j : Input) → Arms room ps i j → AllAdd ps i j
  arms_add _ _ _ _ (g.Arms.last_arm room p i j is) = one_adds p i j (conjunction_adds room p i j is)
  arms_add _ _ _ _ (g.Arms.also_arm room p ps i j k m is mark rest) =
      adds_then i j m (variables p) (parts_variables (gathered ps)) (conjunction_adds room p i j is) (after j k m (parts_variables (gathered ps)) (sign_adds kind.Semicolon j k mark) (arms_add room ps k m rest))

-- ---- clauses and programs

abbrev IsInRange : Procedure → Type 0
IsInRange p = EachBelow (length p.vars) (clause_variables p)

abbrev AllInRange : List Procedure → Type 0
AllInRange [] = Unit {0}
AllInRange (p ∷ ps) = IsInRange p × AllInRange ps

one_more : (ps : List Procedure) (p : Procedure) → AllInRange ps → IsInRange p → AllInRange (ps ++ p ∷ [])
one_more [] p h k = (k, tt)
one_more (q ∷ ps) p h k = (h.0, one_more ps p h.1 k)

range_at : (ps : List Procedure) (n : ℕ) (p : Procedure) → AllInRange ps → slice_get ps n ≡ Some p → IsInRange p
range_at [] n p h is = absurd (cc is)
range_at (q ∷ ps) zero p h is = let e : q ≡ p = cc is in subst (λ (r : Procedure). IsInRange r) e h.0
range_at (q ∷ ps) (suc n) p h is = range_at ps n p h.1 is

head_adds : (arity : ℕ) (xs : List ℕ) (i j : Input) → Head arity xs i j → Adds i j xs
head_adds _ _ _ _ (g.Head.none i) = stays i
head_adds _ _ _ _ (g.Head.some xs i j k l opening vs new shut) =
    after i j l xs (sign_adds kind.Open i j opening) (before j k l xs (listed_adds kind.Comma xs j k vs) (sign_adds kind.Close k l shut))

clause_range : (q : PredName) (arity : ℕ) (c : rule.Clause) (i j : Input) → PredClause q arity c i j → EachBelow (length c.vars) (c.head ++ variables c.body)
unfolding end_clause
clause_range q arity _ _ _ (g.PredClause.pred_clause xs p vs i j k l m n o is head declare body end vars) =
    let all = adds_then j k n xs (variables p) (head_adds arity xs j k head)
    (after k l n (variables p) (sign_adds kind.Declare k l declare) (before l m n (variables p) (conjunction_adds l.limits.goals p l m body) (sign_adds kind.End m n end))) in
    subst (λ (names : List (List ℕ)). EachBelow (length names) (xs ++ variables p)) (ok_value n.vars vs (record n { vars = [] }) o vars) all.below

declared_range : (start l : Hlds) (i j : Input) → Declared start l i j → AllInRange start.procedures → AllInRange l.procedures
unfolding rule.with_type_definition rule.with_procedure rule.procedure_from
declared_range start _ _ _ (g.Declared.type t line i j k is declaration) h = h
declared_range start _ _ _ (g.Declared.predicate d c line i j k l is declaration clause) h = one_more start.procedures _ h (clause_range d.name (length d.args) c k l clause)

declarations_range : (start l : Hlds) (i j : Input) → Declarations start l i j → AllInRange start.procedures → AllInRange l.procedures
declarations_range _ _ _ _ (g.Declarations.none l i) h = h
declarations_range _ _ _ _ (g.Declarations.also start l end i j k one rest) h = declarations_range l end j k rest (declared_range start l i j one h)

program_range : (l : Hlds) (i j : Input) → Program l i j → AllInRange l.procedures
program_range _ _ _ (g.Program.program m line at l i j k n o p a b c d declarations) = declarations_range _ l o p declarations tt

-- each variable of a clause is below how many the clause has
pub in_range : (text : List ℕ) (s : Hlds) → Spells text s → (n : ℕ) (p : Procedure) → slice_get s.procedures n ≡ Some p → (x : ℕ) → 0 < times x (clause_variables p) → x < length p.vars
in_range text s spells n p at x there = below_at (length p.vars) (clause_variables p) x (range_at s.procedures n p (program_range s _ spells.end spells.program) at) there
