-- What a rule took can be filled up: goals.
use Rattle.std.proofs.Common.{◌≡◌, ℕ, zero, suc, ◌-◌, ◌≤◌, List, [], ◌∷◌, ◌++◌, length, refl, Bool, true, false, cond, inl, inr, Ok, sym, ap, ◌∙◌, arith, subst}
use Rattle.md_hlds.specs.HldsGoal.{HldsGoal, At, GoalExpr, SimpleGoal, Succeeds, Fails, DisjGoal, IfGoal, NotGoal, SomeGoal, gathered}
use Rattle.md_token.specs.declared.kind.Kind.{Kind}
use Rattle.md_token.specs.declared.kind.Kind.TheVariants as kind
use Rattle.md_token.specs.Kinds.{same_kind}
use Rattle.md_token.specs.Token.{Lexeme}
use Rattle.md_reader.specs.Input.{Input, Parser, Outcome, ◌>>=◌, ◌>>◌, pure, refuse, limit, advance, expect, first, place, token, kind_at, sees, next}
use Rattle.md_reader.specs.Rules as rule
use Rattle.md_reader.proofs.Goals.{conjunction_is}
use Rattle.md_reader.proofs.Complete.{stays, ends_goal, ends_conjunction}
use Rattle.md_reader.proofs.SteadyGoals.{unit_steady, within_steady}
use Rattle.md_reader.proofs.Fills.{upon, Or, Every, Never, Law, Fill, Fills, refused_at, bind_at, bound, sequel, given, done_wider, done_joined}
use Rattle.md_reader.proofs.FillsTokens.{live, mark, over_at, filled_by, expects, expect_fill, expect_at, advance_at, Home}
use Rattle.md_reader.proofs.FillsNames.{name_at, qualified_at}
use Rattle.md_reader.proofs.FillsLists.{law_like, fill_like, chosen_kind}
use Rattle.md_reader.proofs.FillsTurns.{Loop, turns, turns_fill}
use Rattle.md_reader.proofs.FillsTerms.{BehindGoal, relation_at, call_at, closure_at, quantified}

-- the tokens that may stand behind a conjunction
abbrev pub BehindGoals : Lexeme → Type 0
BehindGoals t = ends_conjunction t.kind ≡ true

goals_comma : (k : Kind) → ends_conjunction k ≡ true → same_kind k kind.Comma ≡ false
unfolding same_kind
goals_comma kind.Semicolon e = refl
goals_comma kind.Then e = refl
goals_comma kind.Close e = refl
goals_comma kind.End e = refl
goals_comma _ e = absurd (cc)

goals_goal : (k : Kind) → ends_conjunction k ≡ true → ends_goal k ≡ true
goals_goal kind.Comma e = refl
goals_goal k e = e

abbrev IsClose : Lexeme → Type 0
IsClose t = t.kind ≡ kind.Close

close_semicolon : (t : Lexeme) → IsClose t → same_kind t.kind kind.Semicolon ≡ false
unfolding same_kind
close_semicolon t e = rw e refl

close_goals : (t : Lexeme) → IsClose t → BehindGoals t
close_goals t e = rw e refl

-- ---- the goals of one depth, by the conjunction of the next one

-- a rule for goals that looks at the tokens' kinds takes none where there is none
empty_kind : (ts : List Lexeme) → length ts ≡ 0 → first ts ≡ first []
empty_kind [] e = refl
empty_kind (t ∷ ts) e = absurd (omega (arith, e))

unit_empty : (room : ℕ) (inner : Parser HldsGoal) (i : Input) → length i.rest ≡ 0 → rule.unit room inner i ≡ refuse i
unfolding rule.unit token
unit_empty room inner i e = ap (λ (t : Lexeme). rule.unit_by room inner t.line t.kind i) (empty_kind i.rest e)

units_empty : (room : ℕ) (inner : Parser HldsGoal) (l : ℕ) (i : Input) → length i.rest ≡ l → l ≡ 0 → rule.units_from room inner l [] i ≡ refuse i
unfolding rule.units_from
units_empty room inner zero i e z = refl
units_empty room inner (suc l) i e z = absurd (omega (arith, z))

conjunction_empty : (room : ℕ) (i : Input) → length i.rest ≡ 0 → rule.conjunction room i ≡ refuse i
unfolding rule.units
conjunction_empty room i e = conjunction_is room i ∙ rw (units_empty room (rule.within room) (length i.rest) i refl e) refl

within_empty : (room : ℕ) (i : Input) → length i.rest ≡ 0 → rule.within room i ≡ refuse i
unfolding rule.within
within_empty zero i e = refl
within_empty (suc room) i e = conjunction_empty room i e

units_loop : (room : ℕ) → Loop (rule.unit room (rule.within room)) kind.Comma pure (rule.units_from room (rule.within room))
unfolding rule.units_from same_kind
units_loop room = record {
  none = λ s i. refl;
  more = λ n s i. refl;
  stays = λ x i j e. stays (rule.unit room (rule.within room)) (unit_steady 0 [] room (rule.within room) (within_steady 0 [] room)) x i j e;
  ends = λ i e. unit_empty room (rule.within room) i e;
  stop = refl;
}

arms_loop : (room : ℕ) → Loop (rule.within room) kind.Semicolon (λ ps. expect kind.Close >> pure ps) (rule.arms_from (rule.within room))
unfolding rule.arms_from same_kind
arms_loop room = record {
  none = λ s i. refl;
  more = λ n s i. refl;
  stays = λ x i j e. stays (rule.within room) (within_steady 0 [] room) x i j e;
  ends = λ i e. within_empty room i e;
  stop = refl;
}

abbrev pair : HldsGoal → HldsGoal → HldsGoal × HldsGoal
pair t e = (t, e)

-- ---- where the limits are n, within c goals that are open

module _ (h : List ℕ) (c : ℕ) where
  abbrev One : ℕ → Parser HldsGoal
  One n = rule.unit (n - c) (rule.within (n - c))

  abbrev Inner : ℕ → Parser HldsGoal
  Inner n = rule.within (n - c)

  true_is : (n : ℕ) (t : Lexeme) (tail : List Lexeme) (i : Input) → t.kind ≡ kind.True → One n (upon n (t ∷ tail) i) ≡ Ok (At t.line (SimpleGoal Succeeds), upon n tail i)
  unfolding rule.unit token next
  true_is n t tail i e = rw e refl

  one_fill : (i : Input) → Home h i.home i.vars → Fill (λ _. Home h) Every BehindGoal One i
  one_fill i s = filled_by (λ _. Home h) Every BehindGoal One i (mark kind.True i) (At (first i.rest).line (SimpleGoal Succeeds)) i.vars 0 tt s (λ n tail le. true_is n (mark kind.True i) tail i refl)

  abbrev Units : ℕ → Parser (List HldsGoal)
  Units n = λ i. rule.units_from (n - c) (rule.within (n - c)) (length i.rest) [] i

  units_fill : (i : Input) → Home h i.home i.vars → Fill (λ _. Home h) Every BehindGoals Units i
  units_fill i s =
      turns_fill One kind.Comma pure (λ n. rule.units_from (n - c) (rule.within (n - c))) c (λ n le. units_loop (n - c)) (Home h) (λ _. Home h) Every BehindGoal BehindGoals BehindGoals refl (λ t e. goals_comma t.kind e) (λ t e. goals_goal t.kind e) one_fill
      (λ ps. given (Home h) (λ _. Home h) BehindGoals ps (λ home vars s. s)) [] i s

  abbrev Goals : ℕ → Parser HldsGoal
  Goals n = rule.conjunction (n - c)

  goals_are : (n : ℕ) (i : Input) → Goals n i ≡ (Units n >>= (λ ps. pure (rule.joined ps))) i
  unfolding rule.units
  goals_are n i = conjunction_is (n - c) i

  pub goals_fill : (i : Input) → Home h i.home i.vars → Fill (λ _. Home h) Every BehindGoals Goals i
  goals_fill i s =
      let f = units_fill i s in
      let g = (given (Home h) (λ _. Home h) BehindGoals (rule.joined f.1.value) (λ home vars s. s)).fill f.1.end f.1.post in
      fill_like (λ _. Home h) Every BehindGoals Goals (λ n. Units n >>= (λ ps. pure (rule.joined ps))) i 0 (λ n ts le fit. goals_are n (upon n ts i))
      (f.0 ++ g.0, done_joined (λ _. Home h) Every BehindGoals BehindGoals Units (λ ps n. pure (rule.joined ps)) i f.0 g.0 f.1.value f.1.end f.1.run g.1)

-- a token that is a whole rule
one_word : {A : Type 0} (h : List ℕ) (x : A) (i : Input) → live (kind_at i) ≡ true → Home h i.home i.vars → Law (λ _. Home h) Never BehindGoal (λ n. advance >> pure x) i ((advance >> pure x) i)
one_word h x i l s =
    bind_at (λ _. Home h) (λ _. Home h) Never BehindGoal BehindGoal (λ n. advance) (λ _ n. pure x) i (advance i) (λ _. pure x) (advance_at (Home h) Never BehindGoal i l s)
    (λ u j r q. (given (Home h) (λ _. Home h) BehindGoal x (λ home vars s. s)).law j q) (λ u j q. (given (Home h) (λ _. Home h) BehindGoal x (λ home vars s. s)).fill j q)

-- one more goal is open
inner_is : (c n : ℕ) (i : Input) → suc c ≤ n → rule.within (n - c) i ≡ rule.conjunction (n - suc c) i
unfolding rule.within
inner_is c n i le = let e : n - c ≡ suc (n - suc c) = omega (arith, le) in rw e refl

open_is : (c n : ℕ) (i : Input) → suc c ≤ n → rule.open_goal (n - c) i ≡ expect kind.Open i
unfolding rule.open_goal
open_is c n i le = let e : n - c ≡ suc (n - suc c) = omega (arith, le) in rw e refl

never_by : (b : Bool) (i : Input) (x : ℕ) (j : Input) → cond b (limit i) (refuse i) ≡ Ok (x, j) → ⊥
never_by true i x j e = absurd (cc)
never_by false i x j e = absurd (cc)

module _ (h : List ℕ) (c : ℕ) where
  pub inner_fill : (i : Input) → Home h i.home i.vars → Fill (λ _. Home h) Every BehindGoals (Inner h c) i
  inner_fill i s = fill_like (λ _. Home h) Every BehindGoals (Inner h c) (Goals h (suc c)) i (suc c) (λ n ts le fit. inner_is c n (upon n ts i) le) (goals_fill h (suc c) i s)

  -- ---- the sign that opens a goal

  abbrev Opens : ℕ → Parser ℕ
  Opens n = rule.open_goal (n - c)

  opens_like : (F K : Lexeme → Type 0) (i : Input) (r : Outcome ℕ) → Law (λ _. Home h) F K (λ n. expect kind.Open) i r → Law (λ _. Home h) F K Opens i r
  opens_like F K i r w = law_like (λ _. Home h) F K Opens (λ n. expect kind.Open) i (suc c) r (λ n ts le fit. open_is c n (upon n ts i) le) w

  none_opens : (F K : Lexeme → Type 0) (i : Input) (b : Bool) → sees kind.Open i ≡ b → Home h i.home i.vars → Fill (λ _. Home h) (Or F i) K (λ n. expect kind.Open) i → Law (λ _. Home h) F K (λ n. expect kind.Open) i (cond b (limit i) (refuse i))
  unfolding expect sees token next
  none_opens F K i true e s f = over_at (λ _. Home h) F K (λ n. expect kind.Open) i (first i.rest).line i.vars 0 (λ n tail le. rw e refl) s
  none_opens F K i false e s f = refused_at (λ _. Home h) F K (λ n. expect kind.Open) i f (λ n later. (place (upon n (first i.rest ∷ later) i), rw e refl))

  opens_by : (F K : Lexeme → Type 0) (room : ℕ) (i : Input) → Home h i.home i.vars → Fill (λ _. Home h) (Or F i) K (λ n. expect kind.Open) i → Law (λ _. Home h) F K (λ n. expect kind.Open) i (expect kind.Open i) → Law (λ _. Home h) F K Opens i (rule.open_goal room i)
  unfolding rule.open_goal
  opens_by F K zero i s f w = opens_like F K i _ (none_opens F K i (sees kind.Open i) refl s f)
  opens_by F K (suc room) i s f w = opens_like F K i _ w

  opens : (K : Lexeme → Type 0) (room : ℕ) → Fills (Home h) (λ _. Home h) Every K (rule.open_goal room) Opens
  opens K room = record {
    law = λ i s. opens_by Every K room i s (expect_fill (Home h) (Or Every i) K kind.Open i (inl tt) s) ((expects (Home h) Every K kind.Open refl (λ j. tt)).law i s);
    fill = λ i s. fill_like (λ _. Home h) Every K Opens (λ n. expect kind.Open) i (suc c) (λ n ts le fit. open_is c n (upon n ts i) le) (expect_fill (Home h) Every K kind.Open i tt s);
  }

  open_at : (F K : Lexeme → Type 0) (room : ℕ) (i : Input) → kind_at i ≡ kind.Open → Home h i.home i.vars → Law (λ _. Home h) F K Opens i (rule.open_goal room i)
  unfolding token
  open_at F K room i e s = opens_by F K room i s (expect_fill (Home h) (Or F i) K kind.Open i (inr (sym e, refl)) s) (expect_at (Home h) F K kind.Open i refl e s)

  never_open : (i : Input) (x : ℕ) (j : Input) → rule.open_goal 0 i ≡ Ok (x, j) → ⊥
  unfolding rule.open_goal
  never_open i x j e = never_by (sees kind.Open i) i x j e

  -- ---- what stands inside a goal that was opened, and behind it

  -- the other tokens fill it up
  behind_fill : {A : Type 0} (K : Lexeme → Type 0) (V : HldsGoal → ℕ → Parser A) → ((p : HldsGoal) (j : Input) → Home h j.home j.vars → Fill (λ _. Home h) BehindGoals K (V p) j) → (i : Input) → Home h i.home i.vars → Fill (λ _. Home h) Every K (λ n. Inner h c n >>= (λ p. V p n)) i
  behind_fill K V f i s =
      let a = inner_fill i s in
      let b = f a.1.value a.1.end a.1.post in
      (a.0 ++ b.0, done_joined (λ _. Home h) Every BehindGoals K (Inner h c) V i a.0 b.0 a.1.value a.1.end a.1.run b.1)

  closes : {A : Type 0} (F K : Lexeme → Type 0) (x : A) → ((t : Lexeme) → IsClose t → F t) → Fills (Home h) (λ _. Home h) F K (expect kind.Close >> pure x) (λ n. expect kind.Close >> pure x)
  closes F K x f = sequel (Home h) (λ _. Home h) (λ _. Home h) F K K (expect kind.Close) (λ _. pure x) (expects (Home h) F K kind.Close refl (λ i. f (mark kind.Close i) refl)) (λ _. given (Home h) (λ _. Home h) K x (λ home vars s. s))

  -- where no more goals may be open, none is read
  nothing_inside : {A : Type 0} (F K : Lexeme → Type 0) (f : ℕ → HldsGoal → Parser A) (V : ℕ → HldsGoal → ℕ → Parser A) (i : Input) → Law (λ _. Home h) F Every Opens i (rule.open_goal 0 i) → ((line : ℕ) (p : HldsGoal) (j : Input) → Home h j.home j.vars → Fill (λ _. Home h) BehindGoals K (V line p) j)
      → Law (λ _. Home h) F K (λ n. Opens n >>= (λ line. Inner h c n >>= (λ p. V line p n))) i ((rule.open_goal 0 >>= (λ line. rule.within 0 >>= (λ p. f line p))) i)
  nothing_inside F K f V i w g =
      bind_at (λ _. Home h) (λ _. Home h) F Every K Opens (λ line n. Inner h c n >>= (λ p. V line p n)) i (rule.open_goal 0 i) (λ line. rule.within 0 >>= (λ p. f line p)) w
      (λ line j e s. absurd (never_open i line j e)) (λ line j s. behind_fill K (V line) (λ p m u. g line p m u) j s)

  module _ (room : ℕ) (law : (i : Input) → Home h i.home i.vars → Law (λ _. Home h) Every BehindGoals (Inner h c) i (rule.within (suc room) i)) where
    inside : Fills (Home h) (λ _. Home h) Every BehindGoals (rule.within (suc room)) (Inner h c)
    inside = record { law = law; fill = inner_fill }

    something_inside : {A : Type 0} (F K : Lexeme → Type 0) (f : ℕ → HldsGoal → Parser A) (V : ℕ → HldsGoal → ℕ → Parser A) (i : Input) → Law (λ _. Home h) F Every Opens i (rule.open_goal (suc room) i) → ((line : ℕ) (p : HldsGoal) → Fills (Home h) (λ _. Home h) BehindGoals K (f line p) (V line p))
        → Law (λ _. Home h) F K (λ n. Opens n >>= (λ line. Inner h c n >>= (λ p. V line p n))) i ((rule.open_goal (suc room) >>= (λ line. rule.within (suc room) >>= (λ p. f line p))) i)
    something_inside F K f V i w g =
        bind_at (λ _. Home h) (λ _. Home h) F Every K Opens (λ line n. Inner h c n >>= (λ p. V line p n)) i (rule.open_goal (suc room) i) (λ line. rule.within (suc room) >>= (λ p. f line p)) w
        (λ line j e s. (bound (Home h) (λ _. Home h) (λ _. Home h) Every BehindGoals K (rule.within (suc room)) (Inner h c) (f line) (V line) inside (g line)).law j s)
        (λ line j s. behind_fill K (V line) (λ p m u. (g line p).fill m u) j s)

    -- ---- parentheses around more than one conjunction

    arms : (K : Lexeme → Type 0) (first : HldsGoal) → Fills (Home h) (λ _. Home h) Every K (rule.arms (rule.within (suc room)) first) (λ n. rule.arms (Inner h c n) first)
    unfolding rule.arms
    arms K first =
        turns (Inner h c) kind.Semicolon (λ ps. expect kind.Close >> pure ps) (λ n. rule.arms_from (Inner h c n)) c (λ n le. arms_loop (n - c)) (Home h) (λ _. Home h) Every BehindGoals IsClose K refl close_semicolon close_goals inner_fill (λ ps. closes IsClose K ps (λ t e. e))
        (rule.within (suc room)) (rule.arms_from (rule.within (suc room))) (arms_loop (suc room)) law (first ∷ [])

    disjunction_at : (K : Lexeme → Type 0) (line : ℕ) (first : HldsGoal) (i : Input) → kind_at i ≡ kind.Semicolon → Home h i.home i.vars → Law (λ _. Home h) Never K (λ n. rule.disjunction (Inner h c n) line first) i (rule.disjunction (rule.within (suc room)) line first i)
    unfolding rule.disjunction
    disjunction_at K line first i e s =
        let rest = bound (Home h) (λ _. Home h) (λ _. Home h) Every K K (rule.arms (rule.within (suc room)) first) (λ n. rule.arms (Inner h c n) first) (λ ps. pure (At line (DisjGoal (gathered ps)))) (λ ps n. pure (At line (DisjGoal (gathered ps)))) (arms K first) (λ ps. given (Home h) (λ _. Home h) K (At line (DisjGoal (gathered ps))) (λ home vars s. s)) in
        bind_at (λ _. Home h) (λ _. Home h) Never Every K (λ n. expect kind.Semicolon) (λ _ n. rule.arms (Inner h c n) first >>= (λ ps. pure (At line (DisjGoal (gathered ps))))) i (expect kind.Semicolon i) (λ _. rule.arms (rule.within (suc room)) first >>= (λ ps. pure (At line (DisjGoal (gathered ps)))))
        (expect_at (Home h) Never Every kind.Semicolon i refl e s) (λ u j r q. rest.law j q) (λ u j q. rest.fill j q)

    elses : (K : Lexeme → Type 0) (t : HldsGoal) → Fills (Home h) (λ _. Home h) BehindGoals BehindGoals (expect kind.Semicolon >> (rule.within (suc room) >>= (λ e. pure (pair t e)))) (λ n. expect kind.Semicolon >> (Inner h c n >>= (λ e. pure (pair t e))))
    elses K t =
        bound (Home h) (λ _. Home h) (λ _. Home h) BehindGoals Every BehindGoals (expect kind.Semicolon) (λ n. expect kind.Semicolon) (λ _. rule.within (suc room) >>= (λ e. pure (pair t e))) (λ _ n. Inner h c n >>= (λ e. pure (pair t e))) (expects (Home h) BehindGoals Every kind.Semicolon refl (λ i. refl))
        (λ _. bound (Home h) (λ _. Home h) (λ _. Home h) Every BehindGoals BehindGoals (rule.within (suc room)) (Inner h c) (λ e. pure (pair t e)) (λ e n. pure (pair t e)) inside (λ e. given (Home h) (λ _. Home h) BehindGoals (pair t e) (λ home vars s. s)))

    branches_at : (i : Input) → kind_at i ≡ kind.Then → Home h i.home i.vars → Law (λ _. Home h) Never BehindGoals (λ n. rule.branches (Inner h c n)) i (rule.branches (rule.within (suc room)) i)
    unfolding rule.branches
    branches_at i e s =
        let rest = bound (Home h) (λ _. Home h) (λ _. Home h) Every BehindGoals BehindGoals (rule.within (suc room)) (Inner h c) (λ t. expect kind.Semicolon >> (rule.within (suc room) >>= (λ e. pure (pair t e)))) (λ t n. expect kind.Semicolon >> (Inner h c n >>= (λ e. pure (pair t e)))) inside (λ t. elses BehindGoals t) in
        bind_at (λ _. Home h) (λ _. Home h) Never Every BehindGoals (λ n. expect kind.Then) (λ _ n. Inner h c n >>= (λ t. expect kind.Semicolon >> (Inner h c n >>= (λ e. pure (pair t e))))) i (expect kind.Then i) (λ _. rule.within (suc room) >>= (λ t. expect kind.Semicolon >> (rule.within (suc room) >>= (λ e. pure (pair t e)))))
        (expect_at (Home h) Never Every kind.Then i refl e s) (λ u j r q. rest.law j q) (λ u j q. rest.fill j q)

    choice_at : (K : Lexeme → Type 0) (line : ℕ) (first : HldsGoal) (i : Input) → kind_at i ≡ kind.Then → Home h i.home i.vars → Law (λ _. Home h) Never K (λ n. rule.choice (Inner h c n) line first) i (rule.choice (rule.within (suc room)) line first i)
    unfolding rule.choice
    choice_at K line first i e s =
        bind_at (λ _. Home h) (λ _. Home h) Never BehindGoals K (λ n. rule.branches (Inner h c n)) (λ b n. expect kind.Close >> pure (At line (IfGoal first b.0 b.1))) i (rule.branches (rule.within (suc room)) i) (λ b. expect kind.Close >> pure (At line (IfGoal first b.0 b.1)))
        (branches_at i e s) (λ b j r q. (closes BehindGoals K (At line (IfGoal first b.0 b.1)) close_goals).law j q) (λ b j q. (closes BehindGoals K (At line (IfGoal first b.0 b.1)) close_goals).fill j q)

-- what stands behind the first conjunction in parentheses, by the next token
abbrev Grouped : (h : List ℕ) (c line : ℕ) (first : HldsGoal) → ℕ → Parser HldsGoal
Grouped h c line p n = λ i. rule.grouped (Inner h c n) line p (first i.rest).kind i

grouped_fill : (h : List ℕ) (c line : ℕ) (p : HldsGoal) (i : Input) → Home h i.home i.vars → Fill (λ _. Home h) BehindGoals BehindGoal (Grouped h c line p) i
unfolding next
grouped_fill h c line p i s = filled_by (λ _. Home h) BehindGoals BehindGoal (Grouped h c line p) i (mark kind.Close i) p i.vars 0 refl s (λ n tail le. refl)

module _ (h : List ℕ) (c room : ℕ) (law : (i : Input) → Home h i.home i.vars → Law (λ _. Home h) Every BehindGoals (Inner h c) i (rule.within (suc room) i)) (line : ℕ) (p : HldsGoal) where
  grouped_chosen : (i : Input) (k : Kind) → (first i.rest).kind ≡ k → (r : Outcome HldsGoal) → Law (λ _. Home h) Never BehindGoal (λ n. rule.grouped (Inner h c n) line p k) i r → Law (λ _. Home h) BehindGoals BehindGoal (Grouped h c line p) i r
  grouped_chosen i k e r w = chosen_kind (λ _. Home h) BehindGoals BehindGoal (λ l k n. rule.grouped (Inner h c n) line p k) i k e r w

  shut_at : (i : Input) → kind_at i ≡ kind.Close → Home h i.home i.vars → Law (λ _. Home h) Never BehindGoal (λ n. advance >> pure p) i ((advance >> pure p) i)
  shut_at i e s = one_word h p i (ap live e) s

  grouped_by : (k : Kind) (i : Input) → (first i.rest).kind ≡ k → Home h i.home i.vars → Law (λ _. Home h) BehindGoals BehindGoal (Grouped h c line p) i (rule.grouped (rule.within (suc room)) line p k i)
  unfolding token
  grouped_by kind.Close i e s = grouped_chosen i kind.Close e (rule.grouped (rule.within (suc room)) line p kind.Close i) (shut_at i e s)
  grouped_by kind.Semicolon i e s = grouped_chosen i kind.Semicolon e (rule.grouped (rule.within (suc room)) line p kind.Semicolon i) (disjunction_at h c room law BehindGoal line p i e s)
  grouped_by kind.Then i e s = grouped_chosen i kind.Then e (rule.grouped (rule.within (suc room)) line p kind.Then i) (choice_at h c room law BehindGoal line p i e s)
  grouped_by _ i e s = refused_at (λ _. Home h) BehindGoals BehindGoal (Grouped h c line p) i (let f = grouped_fill h c line p i s in (f.0, done_wider (λ _. Home h) BehindGoals (Or BehindGoals i) BehindGoal (Grouped h c line p) i f.0 (λ t g. inl g) f.1)) (λ n later. (place (upon n (first i.rest ∷ later) i), rw e refl))

  groupeds : Fills (Home h) (λ _. Home h) BehindGoals BehindGoal (λ i. rule.grouped (rule.within (suc room)) line p (first i.rest).kind i) (Grouped h c line p)
  groupeds = record { law = λ i s. grouped_by (first i.rest).kind i refl s; fill = λ i s. grouped_fill h c line p i s }

-- ---- units

module _ (h : List ℕ) (c room : ℕ) (law : (r : ℕ) → room ≡ suc r → (i : Input) → Home h i.home i.vars → Law (λ _. Home h) Every BehindGoals (Inner h c) i (rule.within (suc r) i)) where
  inside_at : {A : Type 0} (r : ℕ) → room ≡ r → (F K : Lexeme → Type 0) (f : ℕ → ℕ → HldsGoal → Parser A) (V : ℕ → HldsGoal → ℕ → Parser A) (i : Input) → Law (λ _. Home h) F Every (Opens h c) i (rule.open_goal r i) → ((line : ℕ) (p : HldsGoal) (j : Input) → Home h j.home j.vars → Fill (λ _. Home h) BehindGoals K (V line p) j)
      → ((q : ℕ) → room ≡ suc q → (line : ℕ) (p : HldsGoal) → Fills (Home h) (λ _. Home h) BehindGoals K (f (suc q) line p) (V line p))
      → Law (λ _. Home h) F K (λ n. Opens h c n >>= (λ line. Inner h c n >>= (λ p. V line p n))) i ((rule.open_goal r >>= (λ line. rule.within r >>= (λ p. f r line p))) i)
  inside_at zero e F K f V i w g fs = nothing_inside h c F K (f 0) V i w g
  inside_at (suc q) e F K f V i w g fs = something_inside h c q (law q e) F K (f (suc q)) V i w (fs q e)

  inside_fill : {A : Type 0} (K : Lexeme → Type 0) (V : ℕ → HldsGoal → ℕ → Parser A) (i : Input) → Home h i.home i.vars → ((line : ℕ) (p : HldsGoal) (j : Input) → Home h j.home j.vars → Fill (λ _. Home h) BehindGoals K (V line p) j) → Fill (λ _. Home h) Every K (λ n. Opens h c n >>= (λ line. Inner h c n >>= (λ p. V line p n))) i
  inside_fill K V i s g =
      let a = (opens h c Every room).fill i s in
      let b = behind_fill h c K (V a.1.value) (λ p j u. g a.1.value p j u) a.1.end a.1.post in
      (a.0 ++ b.0, done_joined (λ _. Home h) Every Every K (Opens h c) (λ line n. Inner h c n >>= (λ p. V line p n)) i a.0 b.0 a.1.value a.1.end a.1.run b.1)

  group_at : (i : Input) → kind_at i ≡ kind.Open → Home h i.home i.vars → Law (λ _. Home h) Never BehindGoal (λ n. rule.group (n - c) (Inner h c n)) i (rule.group room (rule.within room) i)
  unfolding rule.group token
  group_at i e s =
      inside_at room refl Never BehindGoal (λ r line p i. rule.grouped (rule.within r) line p (first i.rest).kind i) (Grouped h c) i (open_at h c Never Every room i e s) (λ line p j u. grouped_fill h c line p j u)
      (λ q e line p. groupeds h c q (law q e) line p)

  -- the end of a goal with one conjunction inside
  ends_at : (f : HldsGoal → HldsGoal) → (q : ℕ) → room ≡ suc q → (line : ℕ) (p : HldsGoal) → Fills (Home h) (λ _. Home h) BehindGoals BehindGoal (expect kind.Close >> pure (f p)) (λ n. expect kind.Close >> pure (f p))
  ends_at f q e line p = closes h c BehindGoals BehindGoal (f p) close_goals

  negation_at : (i : Input) → kind_at i ≡ kind.Not → Home h i.home i.vars → Law (λ _. Home h) Never BehindGoal (λ n. rule.negation (n - c) (Inner h c n)) i (rule.negation room (rule.within room) i)
  unfolding rule.negation
  negation_at i e s =
      bind_at (λ _. Home h) (λ _. Home h) Never Every BehindGoal (λ n. expect kind.Not) (λ line n. Opens h c n >>= (λ _. Inner h c n >>= (λ p. expect kind.Close >> pure (At line (NotGoal p))))) i (expect kind.Not i) (λ line. rule.open_goal room >>= (λ _. rule.within room >>= (λ p. expect kind.Close >> pure (At line (NotGoal p)))))
      (expect_at (Home h) Never Every kind.Not i refl e s)
      (λ line j r q. inside_at room refl Every BehindGoal (λ r _ p. expect kind.Close >> pure (At line (NotGoal p))) (λ _ p n. expect kind.Close >> pure (At line (NotGoal p))) j ((opens h c Every room).law j q) (λ _ p m u. (closes h c BehindGoals BehindGoal (At line (NotGoal p)) close_goals).fill m u) (λ k e l p. closes h c BehindGoals BehindGoal (At line (NotGoal p)) close_goals))
      (λ line j q. inside_fill BehindGoal (λ _ p n. expect kind.Close >> pure (At line (NotGoal p))) j q (λ _ p m u. (closes h c BehindGoals BehindGoal (At line (NotGoal p)) close_goals).fill m u))

  module _ (line : ℕ) where
    abbrev Scoped : List ℕ → ℕ → Parser HldsGoal
    Scoped vs n = Opens h c n >>= (λ _. Inner h c n >>= (λ p. expect kind.Close >> pure (At line (SomeGoal vs p))))

    abbrev scoped : List ℕ → Parser HldsGoal
    scoped vs = rule.open_goal room >>= (λ _. rule.within room >>= (λ p. expect kind.Close >> pure (At line (SomeGoal vs p))))

    scopes : (vs : List ℕ) → Fills (Home h) (λ _. Home h) Every BehindGoal (scoped vs) (Scoped vs)
    scopes vs = record {
      law = λ j q. inside_at room refl Every BehindGoal (λ r _ p. expect kind.Close >> pure (At line (SomeGoal vs p))) (λ _ p n. expect kind.Close >> pure (At line (SomeGoal vs p))) j ((opens h c Every room).law j q) (λ _ p m u. (closes h c BehindGoals BehindGoal (At line (SomeGoal vs p)) close_goals).fill m u) (λ k e l p. closes h c BehindGoals BehindGoal (At line (SomeGoal vs p)) close_goals);
      fill = λ j q. inside_fill BehindGoal (λ _ p n. expect kind.Close >> pure (At line (SomeGoal vs p))) j q (λ _ p m u. (closes h c BehindGoals BehindGoal (At line (SomeGoal vs p)) close_goals).fill m u);
    }

    quantifies : Fills (Home h) (λ _. Home h) Every BehindGoal (expect kind.OpenList >> (rule.quantified >>= scoped)) (λ n. expect kind.OpenList >> (rule.quantified >>= (λ vs. Scoped vs n)))
    quantifies =
        bound (Home h) (λ _. Home h) (λ _. Home h) Every Every BehindGoal (expect kind.OpenList) (λ n. expect kind.OpenList) (λ _. rule.quantified >>= scoped) (λ _ n. rule.quantified >>= (λ vs. Scoped vs n)) (expects (Home h) Every Every kind.OpenList refl (λ j. tt))
        (λ _. bound (Home h) (λ _. Home h) (λ _. Home h) Every Every BehindGoal rule.quantified (λ n. rule.quantified) scoped Scoped (quantified h Every) scopes)

  quantification_at : (i : Input) → kind_at i ≡ kind.Some → Home h i.home i.vars → Law (λ _. Home h) Never BehindGoal (λ n. rule.quantification (n - c) (Inner h c n)) i (rule.quantification room (rule.within room) i)
  unfolding rule.quantification
  quantification_at i e s =
      bind_at (λ _. Home h) (λ _. Home h) Never Every BehindGoal (λ n. expect kind.Some) (λ line n. expect kind.OpenList >> (rule.quantified >>= (λ vs. Scoped line vs n))) i (expect kind.Some i) (λ line. expect kind.OpenList >> (rule.quantified >>= scoped line))
      (expect_at (Home h) Never Every kind.Some i refl e s) (λ line j r q. (quantifies line).law j q) (λ line j q. (quantifies line).fill j q)

  on_line : (line : ℕ) (i : Input) (p : Parser GoalExpr) → Law (λ _. Home h) Never BehindGoal (λ n. p) i (p i) → Law (λ _. Home h) Never BehindGoal (λ n. p >>= (λ t. pure (At line t))) i ((p >>= (λ t. pure (At line t))) i)
  on_line line i p w =
      bind_at (λ _. Home h) (λ _. Home h) Never BehindGoal BehindGoal (λ n. p) (λ t n. pure (At line t)) i (p i) (λ t. pure (At line t)) w
      (λ t j r q. (given (Home h) (λ _. Home h) BehindGoal (At line t) (λ home vars s. s)).law j q) (λ t j q. (given (Home h) (λ _. Home h) BehindGoal (At line t) (λ home vars s. s)).fill j q)

  unit_chosen : (i : Input) (k : Kind) → (first i.rest).kind ≡ k → (r : Outcome HldsGoal) → Law (λ _. Home h) Never BehindGoal (λ n. rule.unit_by (n - c) (Inner h c n) (first i.rest).line k) i r → Law (λ _. Home h) Every BehindGoal (One h c) i r
  unfolding rule.unit token
  unit_chosen i k e r w = chosen_kind (λ _. Home h) Every BehindGoal (λ line k n. rule.unit_by (n - c) (Inner h c n) line k) i k e r w

  refused_unit : (i : Input) → Home h i.home i.vars → ((n : ℕ) (later : List Lexeme) → rule.unit_by (n - c) (Inner h c n) (first i.rest).line (first i.rest).kind (upon n (first i.rest ∷ later) i) ≡ refuse (upon n (first i.rest ∷ later) i)) → Law (λ _. Home h) Every BehindGoal (One h c) i (refuse i)
  unfolding rule.unit token
  refused_unit i s e =
      let f = one_fill h c i s in
      refused_at (λ _. Home h) Every BehindGoal (One h c) i (f.0, done_wider (λ _. Home h) Every (Or Every i) BehindGoal (One h c) i f.0 (λ t g. inl tt) f.1) (λ n later. (place (upon n (first i.rest ∷ later) i), e n later))

  unit_law_by : (k : Kind) (i : Input) → (first i.rest).kind ≡ k → Home h i.home i.vars → Law (λ _. Home h) Every BehindGoal (One h c) i (rule.unit_by room (rule.within room) (first i.rest).line k i)
  unfolding token
  unit_law_by kind.True i e s = unit_chosen i kind.True e (rule.unit_by room (rule.within room) (first i.rest).line kind.True i) (one_word h (At (first i.rest).line (SimpleGoal Succeeds)) i (ap live e) s)
  unit_law_by kind.Fail i e s = unit_chosen i kind.Fail e (rule.unit_by room (rule.within room) (first i.rest).line kind.Fail i) (one_word h (At (first i.rest).line (SimpleGoal Fails)) i (ap live e) s)
  unit_law_by kind.Open i e s = unit_chosen i kind.Open e (rule.unit_by room (rule.within room) (first i.rest).line kind.Open i) (group_at i e s)
  unit_law_by kind.Not i e s = unit_chosen i kind.Not e (rule.unit_by room (rule.within room) (first i.rest).line kind.Not i) (negation_at i e s)
  unit_law_by kind.Some i e s = unit_chosen i kind.Some e (rule.unit_by room (rule.within room) (first i.rest).line kind.Some i) (quantification_at i e s)
  unit_law_by kind.Variable i e s = unit_chosen i kind.Variable e (rule.unit_by room (rule.within room) (first i.rest).line kind.Variable i) (on_line (first i.rest).line i rule.relation (relation_at h i s e))
  unit_law_by kind.Call i e s = unit_chosen i kind.Call e (rule.unit_by room (rule.within room) (first i.rest).line kind.Call i) (on_line (first i.rest).line i rule.closure_call (closure_at h i s e))
  unit_law_by kind.Name i e s = unit_chosen i kind.Name e (rule.unit_by room (rule.within room) (first i.rest).line kind.Name i) (on_line (first i.rest).line i rule.call (call_at h i s (name_at (Home h) Never BehindGoal i e s)))
  unit_law_by kind.Qualified i e s = unit_chosen i kind.Qualified e (rule.unit_by room (rule.within room) (first i.rest).line kind.Qualified i) (on_line (first i.rest).line i rule.call (call_at h i s (qualified_at (Home h) Never BehindGoal i e s)))
  unit_law_by _ i e s = refused_unit i s (λ n later. rw e refl)

  unit_law : (i : Input) → Home h i.home i.vars → Law (λ _. Home h) Every BehindGoal (One h c) i (rule.unit room (rule.within room) i)
  unfolding rule.unit token
  unit_law i s = unit_law_by (first i.rest).kind i refl s

  -- ---- conjunctions

  units : Fills (Home h) (λ _. Home h) Every BehindGoals (rule.units room (rule.within room)) (Units h c)
  unfolding rule.units
  units =
      turns (One h c) kind.Comma pure (λ n. rule.units_from (n - c) (rule.within (n - c))) c (λ n le. units_loop (n - c)) (Home h) (λ _. Home h) Every BehindGoal BehindGoals BehindGoals refl (λ t e. goals_comma t.kind e) (λ t e. goals_goal t.kind e) (one_fill h c)
      (λ ps. given (Home h) (λ _. Home h) BehindGoals ps (λ home vars s. s)) (rule.unit room (rule.within room)) (rule.units_from room (rule.within room)) (units_loop room) unit_law []

  goals_law_by : (i : Input) → Home h i.home i.vars → Law (λ _. Home h) Every BehindGoals (Goals h c) i (rule.conjunction room i)
  goals_law_by i s =
      law_like (λ _. Home h) Every BehindGoals (Goals h c) (λ n. Units h c n >>= (λ ps. pure (rule.joined ps))) i 0 (rule.conjunction room i) (λ n ts le fit. goals_are h c n (upon n ts i))
      (subst (λ (r : Outcome HldsGoal). Law (λ _. Home h) Every BehindGoals (λ n. Units h c n >>= (λ ps. pure (rule.joined ps))) i r) (sym (conjunction_is room i))
      ((bound (Home h) (λ _. Home h) (λ _. Home h) Every BehindGoals BehindGoals (rule.units room (rule.within room)) (Units h c) (λ ps. pure (rule.joined ps)) (λ ps n. pure (rule.joined ps)) units (λ ps. given (Home h) (λ _. Home h) BehindGoals (rule.joined ps) (λ home vars s. s))).law i s))

inner_law : (h : List ℕ) (c r : ℕ) (i : Input) → Law (λ _. Home h) Every BehindGoals (Goals h (suc c)) i (rule.conjunction r i) → Law (λ _. Home h) Every BehindGoals (Inner h c) i (rule.within (suc r) i)
unfolding rule.within
inner_law h c r i w = law_like (λ _. Home h) Every BehindGoals (Inner h c) (Goals h (suc c)) i (suc c) (rule.conjunction r i) (λ n ts le fit. inner_is c n (upon n ts i) le) w

pub goals_law : (h : List ℕ) (room c : ℕ) (i : Input) → Home h i.home i.vars → Law (λ _. Home h) Every BehindGoals (Goals h c) i (rule.conjunction room i)
goals_law h zero c i s = goals_law_by h c 0 (λ r e j u. absurd (omega (arith, e))) i s
goals_law h (suc room) c i s = goals_law_by h c (suc room) (λ r e j u. inner_law h c r j (let q : room ≡ r = omega (arith, e) in subst (λ (m : ℕ). Law (λ _. Home h) Every BehindGoals (Goals h (suc c)) j (rule.conjunction m j)) q (goals_law h room (suc c) j u))) i s

all_goals : (n : ℕ) (i : Input) → rule.conjunction n i ≡ rule.conjunction (n - 0) i
all_goals n i = let e : n ≡ n - 0 = omega arith in ap (λ (m : ℕ). rule.conjunction m i) e

-- a conjunction where as many goals may be open as the place says
pub conjunctions : (h : List ℕ) → Fills (Home h) (λ _. Home h) Every BehindGoals rule.conjunction_at_most (λ n. rule.conjunction_at_most)
conjunctions h = record {
  law = λ i s. law_like (λ _. Home h) Every BehindGoals (λ n. rule.conjunction_at_most) (Goals h 0) i 0 (rule.conjunction i.limits.goals i) (λ n ts le fit. all_goals n (upon n ts i)) (goals_law h i.limits.goals 0 i s);
  fill = λ i s. fill_like (λ _. Home h) Every BehindGoals (λ n. rule.conjunction_at_most) (Goals h 0) i 0 (λ n ts le fit. all_goals n (upon n ts i)) (goals_fill h 0 i s);
}
