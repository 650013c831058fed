-- The goals of a procedure as a coverage has them, which profiles give turns, and the text: worked out by hand.
use Rattle.std.proofs.Common.{◌≡◌, refl, sym, ap, ◌∙◌, ℕ, true, false, Bool, List, [], ◌∷◌, Option, Some, None}
use Rattle.std.specs.Prelude.{⊤, codes}
use Rattle.std.proofs.lemmas.List.Elements.{All-nil, All-cons, All-head}
use Rattle.std.specs.Fmt.{digits}
use Rattle.md_base.specs.declared.measure.Counts.{Counts}
use Rattle.md_hlds.specs.HldsGoal.{HldsGoal, SimpleGoal, HoCallGoal, NotGoal, SomeGoal, Computes, WritesInt, WritesText, EndsLine, Fails, Raises}
use Rattle.md_hlds.specs.declared.goal.Op.TheVariants.{Mul}
use Rattle.md_hlds.specs.Hlds.{Procedure}
use Rattle.md_hlds.proofs.Worked.{goal, conj, disj, same, made, call, at_most, choose, succeed}
use Rattle.md_static.specs.Tables.{Static}
use Rattle.md_dynamic.specs.Profile.{ProfileRows}
use Rattle.md_cover.specs.declared.coverage.KindName.{KindName}
use Rattle.md_cover.specs.declared.coverage.KindName.TheVariants as kind
use Rattle.md_cover.specs.declared.coverage.GoalCount.{GoalCount}
use Rattle.md_cover.specs.Covered.{Covered}
use Rattle.md_cover.specs.Rows.{goal_rows}
use Rattle.md_cover.specs.Coverage.{HasNoTurns, gives_turns}
use Rattle.md_cover.specs.Text.{cover_text}

-- ---- goals

-- a goal of which no turns are known
abbrev pub row : (place depth : ℕ) → KindName → GoalCount
row n d k = record { place = n; depth = d; line = 0; kind = k; turns = None }

-- L = cons(H, T), ( X = H ; member(X, T) )
abbrev pub member : HldsGoal
member = conj (made 1 (codes "cons") (2 ∷ 3 ∷ []) ∷ disj (same 0 2 ∷ call 0 (codes "member") (0 ∷ 3 ∷ []) ∷ []) ∷ [])

a-part-comes-after-its-whole :
    goal_rows 0 0 member ≡ (row 0 0 kind.Conj ∷ row 1 1 kind.Unify ∷ row 2 1 kind.Disj ∷ row 3 2 kind.Unify ∷ row 4 2 kind.Call ∷ [])
a-part-comes-after-its-whole = refl

-- ( not ( some [X] ( call(P), fail ) ) -> Z = X * Y, io.write_int(..), io.write_string(..), io.nl(..) ; A =< B, require.error(S) ), true
abbrev pub every_kind : HldsGoal
every_kind = conj (choose (goal (NotGoal (goal (SomeGoal (1 ∷ []) (conj (goal (HoCallGoal 0 1 []) ∷ goal (SimpleGoal Fails) ∷ []))))))
    (conj (goal (SimpleGoal (Computes 2 0 Mul 1)) ∷ goal (SimpleGoal (WritesInt 0 1 2)) ∷ goal (SimpleGoal (WritesText 0 1 2)) ∷ goal (SimpleGoal (EndsLine 1 2)) ∷ []))
    (conj (at_most 0 1 ∷ goal (SimpleGoal (Raises 0)) ∷ []))
    ∷ succeed ∷ [])

-- the condition has five goals and the arm after it five
parts-of-a-choice-come-in-order :
    goal_rows 0 0 every_kind
    ≡ (row 0 0 kind.Conj ∷ row 1 1 kind.If
    ∷ row 2 2 kind.Not ∷ row 3 3 kind.Some ∷ row 4 4 kind.Conj ∷ row 5 5 kind.ClosureCall ∷ row 6 5 kind.Fail
    ∷ row 7 2 kind.Conj ∷ row 8 3 kind.Arith ∷ row 9 3 kind.Write ∷ row 10 3 kind.Write ∷ row 11 3 kind.Write
    ∷ row 12 2 kind.Conj ∷ row 13 3 kind.Compare ∷ row 14 3 kind.Error
    ∷ row 15 1 kind.True ∷ [])
parts-of-a-choice-come-in-order = refl

-- ---- a coverage without turns

abbrev member_rows : List GoalCount
member_rows = row 0 0 kind.Conj ∷ row 1 1 kind.Unify ∷ row 2 1 kind.Disj ∷ row 3 2 kind.Unify ∷ row 4 2 kind.Call ∷ []

abbrev Unknown : GoalCount → Type 0
Unknown g = g.turns ≡ None

-- all goals of the procedure have their rows
each-goal-has-its-row : (q : ℕ × Procedure) → q.1.body ≡ member → HasNoTurns q (record { id = q.0; goals = member_rows })
each-goal-has-its-row q is = record {
  is_of = refl;
  rows = ap (λ b. goal_rows 0 0 b) (sym is);
  none = All-cons Unknown (row 0 0 kind.Conj) ((row 1 1 kind.Unify) ∷ (row 2 1 kind.Disj) ∷ (row 3 2 kind.Unify) ∷ (row 4 2 kind.Call) ∷ []) refl (All-cons Unknown (row 1 1 kind.Unify) ((row 2 1 kind.Disj) ∷ (row 3 2 kind.Unify) ∷ (row 4 2 kind.Call) ∷ []) refl (All-cons Unknown (row 2 1 kind.Disj) ((row 3 2 kind.Unify) ∷ (row 4 2 kind.Call) ∷ []) refl (All-cons Unknown (row 3 2 kind.Unify) ((row 4 2 kind.Call) ∷ []) refl (All-cons Unknown (row 4 2 kind.Call) [] refl (All-nil Unknown)))));
}

-- refuses a rule by which no turns are none: that a goal had no turn is known of it
no-turn-is-a-number : (q : ℕ × Procedure) → HasNoTurns q (record { id = q.0; goals = record (row 0 0 kind.True) { turns = Some 0 } ∷ [] }) → ⊥
no-turn-is-a-number q has = let e : Some 0 ≡ None = All-head Unknown (record (row 0 0 kind.True) { turns = Some 0 }) [] has.none in absurd (cc e)

-- refuses a rule by which rows may be left out
no-row-is-left-out : (q : ℕ × Procedure) → q.1.body ≡ member → HasNoTurns q (record { id = q.0; goals = [] }) → ⊥
no-row-is-left-out q is has = let e = has.rows ∙ ap (λ b. goal_rows 0 0 b) is in absurd (cc e)

-- ---- profiles

abbrev pub statics : Static
statics = record {
  modules = codes "t" ∷ [];
  procs = record { «module» = 0; name = codes "main"; arity = 2 } ∷ record { «module» = 0; name = codes "sign"; arity = 2 } ∷ [];
  sites = [];
}

abbrev pub counts : (calls excps : ℕ) → Counts
counts calls excps = record { calls = calls; exits = 1; fails = 0; redos = 0; allocs = 0; words = 0; excps = excps }

-- a profile with two links
abbrev pub profile : Bool → (calls excps : ℕ) → ProfileRows
profile finished calls excps = record {
  statics = statics;
  nodes = 0 ∷ 1 ∷ [];
  links = record { site = None; caller = None; callee = 0; own = counts 1 0 } ∷ record { site = Some 0; caller = Some 0; callee = 1; own = counts calls excps } ∷ [];
  finished = finished;
}

whole-counts-give-turns : gives_turns (profile true 4294967294 7) ≡ true
whole-counts-give-turns = refl

an-unfinished-run-gives-none : gives_turns (profile false 3 7) ≡ false
an-unfinished-run-gives-none = refl

a-full-count-gives-none : gives_turns (profile true 4294967295 7) ≡ false
a-full-count-gives-none = refl

the-last-count-gives-none-where-it-is-full : gives_turns (profile true 3 4294967295) ≡ false
the-last-count-gives-none-where-it-is-full = refl

-- ---- the text

unfoldable on_texts : ⊤
unfolding digits
on_texts = tt

abbrev pub told : (place depth : ℕ) → KindName → Option ℕ → GoalCount
told n d k turns = record { place = n; depth = d; line = 5; kind = k; turns = turns }

-- ( X =< Z -> .. ; .. ) in a conjunction: the turns of its arms don't follow from counts of ports
abbrev pub sign : Covered
sign = record {
  id = 1;
  goals = told 0 0 kind.Conj (Some 12) ∷ told 1 1 kind.If (Some 12) ∷ told 2 2 kind.Compare (Some 12) ∷ told 3 2 kind.ClosureCall None ∷ [];
}

goals-are-indented-by-their-depth :
    cover_text statics sign
    ≡ codes "mdprof cover 1 t.sign/2\ngoal 0 line 5 conj turns 12\n  goal 1 line 5 if turns 12\n    goal 2 line 5 compare turns 12\n    goal 3 line 5 closure-call turns -\n"
unfolding on_texts
goals-are-indented-by-their-depth = refl
