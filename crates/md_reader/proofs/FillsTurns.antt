-- What a rule took can be filled up: lists without a limit, of which each turn takes a token.
use Rattle.std.proofs.Common.{◌≡◌, ℕ, zero, suc, ◌≤◌, ◌<◌, List, [], ◌∷◌, ◌++◌, length, refl, Bool, true, false, cond, Ok, Err, sym, ◌∙◌, arith, subst}
use Rattle.md_token.specs.declared.kind.Kind.{Kind}
use Rattle.md_token.specs.declared.kind.Kind.TheVariants as kind
use Rattle.md_token.specs.Kinds.{same_kind}
use Rattle.md_token.specs.Token.{Lexeme}
use Rattle.md_reader.specs.Input.{Input, Parser, Outcome, ◌>>=◌, and_then, refuse, eat, sees, next, after}
use Rattle.md_reader.proofs.Steady.{fewer}
use Rattle.md_reader.proofs.Fills.{upon, Every, State, Law, Fill, Fills, bind_at, law_wider, done_wider, done_joined}
use Rattle.md_reader.proofs.FillsTokens.{live}
use Rattle.md_reader.proofs.FillsLists.{law_like, fill_like, perhaps_at, perhaps_fill}

-- the outcomes are the same where what follows is
pub follows : {A B : Type 0} (r : Outcome A) (f g : A → Parser B) → ((x : A) (j : Input) → r ≡ Ok (x, j) → f x j ≡ g x j) → and_then r f ≡ and_then r g
follows (Ok p) f g h = h p.0 p.1 refl
follows (Err e) f g h = refl

-- items with a sign between them, and what stands behind them, each by what was found before
abbrev pub Turn : {A B : Type 0} → Parser A → Kind → (List A → A → Parser B) → (List A → Parser B) → List A → Parser B
Turn item k rest last s = item >>= (λ x. eat k >>= (λ b. cond b (rest s x) (last (s ++ x ∷ []))))

pub record Loop {A B : Type 0} (item : Parser A) (k : Kind) (last : List A → Parser B) (from : ℕ → List A → Parser B) : Type 0 where
  pub none : (s : List A) (i : Input) → from 0 s i ≡ refuse i
  pub more : (n : ℕ) (s : List A) (i : Input) → from (suc n) s i ≡ Turn item k (λ s x. from n (s ++ x ∷ [])) last s i
  pub stays : (x : A) (i j : Input) → item i ≡ Ok (x, j) → length j.rest ≤ length i.rest
  pub ends : (i : Input) → length i.rest ≡ 0 → item i ≡ refuse i
  pub stop : same_kind kind.Stop k ≡ false

module _ {A B : Type 0} (item : Parser A) (k : Kind) (last : List A → Parser B) (from : ℕ → List A → Parser B) (h : Loop item k last from) where
  eats_same : (b : Bool) (f g q : Parser B) (j m : Input) → (b ≡ true → f m ≡ g m) → cond b f q (cond b m j) ≡ cond b g q (cond b m j)
  eats_same true f g q j m e = e refl
  eats_same false f g q j m e = refl

  turn_same : (f g : List A → A → Parser B) (s : List A) (i : Input) → ((x : A) (j : Input) → length j.rest < length i.rest → f s x j ≡ g s x j) → Turn item k f last s i ≡ Turn item k g last s i
  unfolding after
  turn_same f g s i e =
      follows (item i) (λ x. eat k >>= (λ b. cond b (f s x) (last (s ++ x ∷ [])))) (λ x. eat k >>= (λ b. cond b (g s x) (last (s ++ x ∷ []))))
      (λ x j r. eats_same (sees k j) (f s x) (g s x) (last (s ++ x ∷ [])) j (next j) (λ t. e x (next j) (let l = fewer 0 [] k j t h.stop in let m = h.stays x i j r in omega (arith, l, m))))

  -- where there is no token, none is taken
  empty_turn : (f : List A → A → Parser B) (s : List A) (i : Input) → length i.rest ≡ 0 → Turn item k f last s i ≡ refuse i
  empty_turn f s i e = rw (h.ends i e) refl

  -- more turns than tokens are none
  enough : (n m : ℕ) (s : List A) (i : Input) → length i.rest ≤ n → length i.rest ≤ m → from n s i ≡ from m s i
  enough zero zero s i a b = refl
  enough zero (suc m) s i a b = h.none s i ∙ sym (h.more m s i ∙ empty_turn (λ s x. from m (s ++ x ∷ [])) s i (omega (arith, a)))
  enough (suc n) zero s i a b = h.more n s i ∙ (empty_turn (λ s x. from n (s ++ x ∷ [])) s i (omega (arith, b)) ∙ sym (h.none s i))
  enough (suc n) (suc m) s i a b =
      h.more n s i ∙ (turn_same (λ s x. from n (s ++ x ∷ [])) (λ s x. from m (s ++ x ∷ [])) s i (λ x j l. enough n m (s ++ x ∷ []) j (omega (arith, l, a)) (omega (arith, l, b))) ∙ sym (h.more m s i))

  -- as many turns as tokens
  abbrev pub Turns : List A → Parser B
  Turns s = λ i. from (length i.rest) s i

  turns_by : (l : ℕ) (s : List A) (i : Input) → length i.rest ≡ l → from l s i ≡ Turn item k (λ s x. Turns (s ++ x ∷ [])) last s i
  turns_by zero s i e = h.none s i ∙ sym (empty_turn (λ s x. Turns (s ++ x ∷ [])) s i e)
  turns_by (suc l) s i e =
      h.more l s i ∙ turn_same (λ s x. from l (s ++ x ∷ [])) (λ s x. Turns (s ++ x ∷ [])) s i (λ x j m. enough l (length j.rest) (s ++ x ∷ []) j (omega (arith, e, m)) (omega arith))

  pub turns_are : (s : List A) (i : Input) → Turns s i ≡ Turn item k (λ s x. Turns (s ++ x ∷ [])) last s i
  turns_are s i = turns_by (length i.rest) s i refl

-- A list without a limit, whose items, and what stands behind them, can be filled up.
module _ {A B : Type 0} (I : ℕ → Parser A) (k : Kind) (last : List A → Parser B) (U : ℕ → ℕ → List A → Parser B) (c : ℕ) (H : (n : ℕ) → c ≤ n → Loop (I n) k last (U n)) (S : State) (T : B → State) (F G E K : Lexeme → Type 0) (lives : live k ≡ true)
    (differ : (t : Lexeme) → E t → same_kind t.kind k ≡ false) (among : (t : Lexeme) → E t → G t) (items : (i : Input) → S i.home i.vars → Fill (λ _. S) F G I i) (lasts : (s : List A) → Fills S T E K (last s) (λ n. last s)) where
  abbrev Further : List A → A → ℕ → Parser B
  Further s x n = λ i. U n (length i.rest) (s ++ x ∷ []) i

  abbrev Rest : List A → A → ℕ → Parser B
  Rest s x n = eat k >>= (λ b. cond b (Further s x n) (last (s ++ x ∷ [])))

  rest_fill : (s : List A) (x : A) (i : Input) → S i.home i.vars → Fill T G K (Rest s x) i
  rest_fill s x i st =
      let f = perhaps_fill T E K k (Further s x) (λ n. last (s ++ x ∷ [])) i differ ((lasts (s ++ x ∷ [])).fill i st) in
      (f.0, done_wider T E G K (Rest s x) i f.0 among f.1)

  turn_is : (s : List A) (i : Input) (n : ℕ) → c ≤ n → U n (length i.rest) s i ≡ (I n >>= (λ x. Rest s x n)) i
  turn_is s i n le = turns_are (I n) k last (U n) (H n le) s i

  pub turns_fill : (s : List A) (i : Input) → S i.home i.vars → Fill T F K (λ n i. U n (length i.rest) s i) i
  turns_fill s i st =
      let a = items i st in
      let b = rest_fill s a.1.value a.1.end a.1.post in
      fill_like T F K (λ n i. U n (length i.rest) s i) (λ n. I n >>= (λ x. Rest s x n)) i c (λ n ts le fit. turn_is s (upon n ts i) n le)
      (a.0 ++ b.0, done_joined T F G K I (λ x n. Rest s x n) i a.0 b.0 a.1.value a.1.end a.1.run b.1)

  module _ (item : Parser A) (from : ℕ → List A → Parser B) (h : Loop item k last from) (law : (i : Input) → S i.home i.vars → Law (λ _. S) F G I i (item i)) where
    abbrev further : List A → A → Parser B
    further s x = λ i. from (length i.rest) (s ++ x ∷ []) i

    rest_law : (s : List A) (x : A) (i : Input) → S i.home i.vars → ((j : Input) → S j.home j.vars → length j.rest < length i.rest → Law T F K (Further s x) j (further s x j)) → Law T G K (Rest s x) i ((eat k >>= (λ b. cond b (further s x) (last (s ++ x ∷ [])))) i)
    unfolding next
    rest_law s x i st rec =
        law_wider T E G K (Rest s x) i _ among
        (perhaps_at T E K k (Further s x) (λ n. last (s ++ x ∷ [])) i (further s x) (last (s ++ x ∷ [])) lives differ
        (λ e. law_wider T F Every K (Further s x) (next i) (further s x (next i)) (λ t f. tt) (rec (next i) st (fewer 0 [] k i e h.stop)))
        (λ e. (lasts (s ++ x ∷ [])).law i st))

    turn_law : (s : List A) (i : Input) → S i.home i.vars → ((x : A) (j m : Input) → length m.rest < length j.rest → item i ≡ Ok (x, j) → S m.home m.vars → Law T F K (Further s x) m (further s x m)) → Law T F K (λ n i. U n (length i.rest) s i) i (from (length i.rest) s i)
    turn_law s i st rec =
        law_like T F K (λ n i. U n (length i.rest) s i) (λ n. I n >>= (λ x. Rest s x n)) i c (from (length i.rest) s i) (λ n ts b fit. turn_is s (upon n ts i) n b)
        (subst (λ (r : Outcome B). Law T F K (λ n. I n >>= (λ x. Rest s x n)) i r) (sym (turns_are item k last from h s i))
        (bind_at (λ _. S) T F G K I (λ x n. Rest s x n) i (item i) (λ x. eat k >>= (λ b. cond b (further s x) (last (s ++ x ∷ [])))) (law i st)
        (λ x j r q. rest_law s x j q (λ m u less. rec x j m less r u))
        (λ x j q. rest_fill s x j q)))

    -- by the length of what is read
    turns_law : (l : ℕ) (s : List A) (i : Input) → length i.rest ≤ l → S i.home i.vars → Law T F K (λ n i. U n (length i.rest) s i) i (from (length i.rest) s i)
    turns_law zero s i le st = turn_law s i st (λ x j m less r u. absurd (let a = h.stays x i j r in omega (arith, le, less, a)))
    turns_law (suc l) s i le st = turn_law s i st (λ x j m less r u. turns_law l (s ++ x ∷ []) m (let a = h.stays x i j r in omega (arith, le, less, a)) u)

    pub turns : (s : List A) → Fills S T F K (λ i. from (length i.rest) s i) (λ n i. U n (length i.rest) s i)
    turns s = record { law = λ i st. turns_law (length i.rest) s i (omega arith) st; fill = λ i st. turns_fill s i st }
