-- What a rule took of a list can be filled up: choices by the next token, and lists.
use Rattle.std.proofs.Common.{◌≡◌, ℕ, zero, suc, ◌+◌, ◌-◌, ◌≤◌, List, [], ◌∷◌, ◌++◌, length, drop, refl, Bool, true, false, cond, inl, inr, Ok, Err, sym, ap, ◌∙◌, arith, subst, length-append}
use Rattle.md_token.specs.declared.kind.Kind.{Kind}
use Rattle.md_token.specs.declared.kind.Kind.TheVariants as kind
use Rattle.md_token.specs.Kinds.{same_kind}
use Rattle.md_token.specs.Token.{Lexeme}
use Rattle.md_reader.specs.declared.refused.Refusal.TheVariants.{Syntax, Limit, NoMemory}
use Rattle.md_reader.specs.Input.{Input, Parser, Outcome, ◌>>=◌, ◌>>◌, and_then, pure, limit, eat, expect, first, place, token, sees, next, after}
use Rattle.md_reader.proofs.Fills.{upon, Fit, Or, Every, Never, State, Run, Done, Law, Fill, Fills, Stuck, fit_filled, bind_at, bound, given, law_wider, done_wider, done_joined}
use Rattle.md_reader.proofs.FillsTokens.{live, prefix_live, seen_live, expects}

-- ---- a rule that does the same

module _ {A : Type 0} (R : A → State) (F K : Lexeme → Type 0) (P Q : ℕ → Parser A) (i : Input) (b : ℕ) where
  run_like : ((n : ℕ) (ts : List Lexeme) → b ≤ n → Fit F ts → P n (upon n ts i) ≡ Q n (upon n ts i)) → (prefix : List Lexeme) (x : A) (j : Input) (G : Lexeme → Type 0) → Run F G Q i prefix x j → Run F G P i prefix x j
  run_like e prefix x j G a = record {
    bound = b + a.bound;
    runs = λ n tail le fit. e n (prefix ++ tail) (omega (arith, le)) (a.starts tail fit) ∙ a.runs n tail (omega (arith, le)) fit;
    starts = a.starts;
  }

  done_like : ((n : ℕ) (ts : List Lexeme) → b ≤ n → Fit F ts → P n (upon n ts i) ≡ Q n (upon n ts i)) → (prefix : List Lexeme) → Done R F K Q i prefix → Done R F K P i prefix
  done_like e prefix d = record { value = d.value; end = d.end; post = d.post; run = run_like e prefix d.value d.end K d.run }

  pub fill_like : ((n : ℕ) (ts : List Lexeme) → b ≤ n → Fit F ts → P n (upon n ts i) ≡ Q n (upon n ts i)) → Fill R F K Q i → Fill R F K P i
  fill_like e c = (c.0, done_like e c.0 c.1)

pub law_like : {A : Type 0} (R : A → State) (F K : Lexeme → Type 0) (P Q : ℕ → Parser A) (i : Input) (b : ℕ) (r : Outcome A) → ((n : ℕ) (ts : List Lexeme) → b ≤ n → Fit (Or F i) ts → P n (upon n ts i) ≡ Q n (upon n ts i)) → Law R F K Q i r → Law R F K P i r
law_like R F K P Q i b (Ok p) e a = record { prefix = a.prefix; whole = a.whole; post = a.post; run = run_like R (Or F i) K P Q i b e a.prefix p.0 p.1 (Or K p.1) a.run }
law_like R F K P Q i b (Err (Syntax place)) e a = record {
  prefix = a.prefix;
  rest = a.rest;
  whole = a.whole;
  here = a.here;
  fill = a.fill;
  done = done_like R (Or F i) K P Q i b e (a.prefix ++ a.fill) a.done;
  bound = b + a.bound;
  stuck = λ n later le.
      let s = a.stuck n later (omega (arith, le)) in
      (s.0, e n (a.prefix ++ first a.rest ∷ later) (omega (arith, le)) (fit_filled F i a.prefix a.rest later a.whole) ∙ s.1);
}
law_like R F K P Q i b (Err (Limit place)) e a = record { prefix = a.prefix; rest = a.rest; whole = a.whole; here = a.here; fill = a.fill; done = done_like R (Or F i) K P Q i b e (a.prefix ++ first a.rest ∷ a.fill) a.done }
law_like R F K P Q i b (Err NoMemory) e a = a

-- ---- what the kind and the line of the next token choose

pub chosen_at : {A : Type 0} (R : A → State) (F K : Lexeme → Type 0) (U : ℕ → Kind → ℕ → Parser A) (i : Input) (r : Outcome A) → Law R Never K (λ n. U (first i.rest).line (first i.rest).kind n) i r → Law R F K (λ n j. U (first j.rest).line (first j.rest).kind n j) i r
chosen_at R F K U i r a =
    law_wider R Never F K (λ n j. U (first j.rest).line (first j.rest).kind n j) i r (λ t f. absurd f)
    (law_like R Never K (λ n j. U (first j.rest).line (first j.rest).kind n j) (λ n. U (first i.rest).line (first i.rest).kind n) i 0 r
    (λ n ts le fit. elim fit.1 [
      | inl f ↦ absurd f
      | inr s ↦ rw (s.0, s.1) refl
    ]) a)

pub chosen_kind : {A : Type 0} (R : A → State) (F K : Lexeme → Type 0) (U : ℕ → Kind → ℕ → Parser A) (i : Input) (k : Kind) → (first i.rest).kind ≡ k → (r : Outcome A) → Law R Never K (λ n. U (first i.rest).line k n) i r → Law R F K (λ n j. U (first j.rest).line (first j.rest).kind n j) i r
chosen_kind R F K U i k e r a = chosen_at R F K U i r (subst (λ (l : Kind). Law R Never K (λ n. U (first i.rest).line l n) i r) (sym e) a)

-- ---- a sign, and what it leads to, or else another rule

module _ {B : Type 0} (R : B → State) (F K : Lexeme → Type 0) (k : Kind) (P Q : ℕ → Parser B) (i : Input) where
  abbrev pub Perhaps : ℕ → Parser B
  Perhaps n = eat k >>= (λ b. cond b (P n) (Q n))

  passed : (n : ℕ) (ts : List Lexeme) → same_kind (first ts).kind k ≡ true → Perhaps n (upon n ts i) ≡ P n (upon n (drop 1 ts) i)
  unfolding after sees token next
  passed n ts e = rw e refl

  stuck_behind : (n : ℕ) (ts : List Lexeme) → same_kind (first i.rest).kind k ≡ true → Stuck (P n (upon n ts (next i))) → Stuck (Perhaps n (upon n (first i.rest ∷ ts) i))
  unfolding next
  stuck_behind n ts e s = (s.0, passed n (first i.rest ∷ ts) e ∙ s.1)

  left : (n : ℕ) (ts : List Lexeme) → same_kind (first ts).kind k ≡ false → Perhaps n (upon n ts i) ≡ Q n (upon n ts i)
  unfolding after sees token next
  left n ts e = rw e refl

  run_behind : (H G : Lexeme → Type 0) (prefix : List Lexeme) (x : B) (j : Input) → same_kind (first i.rest).kind k ≡ true → Run H G P (next i) prefix x j → Run (Or F i) G Perhaps i (first i.rest ∷ prefix) x j
  unfolding next
  run_behind H G prefix x j e a = record {
    bound = a.bound;
    runs = λ n tail le fit. passed n (first i.rest ∷ (prefix ++ tail)) e ∙ a.runs n tail le fit;
    starts = λ tail fit. (omega arith, inr (refl, refl));
  }

  done_behind : (prefix : List Lexeme) → same_kind (first i.rest).kind k ≡ true → Done R (Or Every (next i)) K P (next i) prefix → Done R (Or F i) K Perhaps i (first i.rest ∷ prefix)
  done_behind prefix e d = record { value = d.value; end = d.end; post = d.post; run = run_behind (Or Every (next i)) K prefix d.value d.end e d.run }

  whole_behind : (prefix us : List Lexeme) → live (first i.rest).kind ≡ true → (next i).rest ≡ prefix ++ us → i.rest ≡ (first i.rest ∷ prefix) ++ us
  unfolding next
  whole_behind prefix us l e = prefix_live i.rest l ∙ ap (λ (ts : List Lexeme). first i.rest ∷ ts) e

  behind_sign : (r : Outcome B) → same_kind (first i.rest).kind k ≡ true → live (first i.rest).kind ≡ true → Law R Every K P (next i) r → Law R F K Perhaps i r
  behind_sign (Ok p) e l a = record { prefix = first i.rest ∷ a.prefix; whole = whole_behind a.prefix p.1.rest l a.whole; post = a.post; run = run_behind (Or Every (next i)) (Or K p.1) a.prefix p.0 p.1 e a.run }
  behind_sign (Err (Syntax place)) e l a = record {
    prefix = first i.rest ∷ a.prefix;
    rest = a.rest;
    whole = whole_behind a.prefix a.rest l a.whole;
    here = a.here;
    fill = a.fill;
    done = done_behind (a.prefix ++ a.fill) e a.done;
    bound = a.bound;
    stuck = λ n later le. stuck_behind n (a.prefix ++ first a.rest ∷ later) e (a.stuck n later le);
  }
  behind_sign (Err (Limit place)) e l a = record { prefix = first i.rest ∷ a.prefix; rest = a.rest; whole = whole_behind a.prefix a.rest l a.whole; here = a.here; fill = a.fill; done = done_behind (a.prefix ++ first a.rest ∷ a.fill) e a.done }
  behind_sign (Err NoMemory) e l a = a

  other : ((t : Lexeme) → F t → same_kind t.kind k ≡ false) → same_kind (first i.rest).kind k ≡ false → (ts : List Lexeme) → Fit (Or F i) ts → same_kind (first ts).kind k ≡ false
  other f e ts fit = elim fit.1 [
    | inl g ↦ f (first ts) g
    | inr s ↦ rw s.0 e
  ]

  perhaps_by : (b : Bool) (p q : Parser B) → sees k i ≡ b → live k ≡ true → ((t : Lexeme) → F t → same_kind t.kind k ≡ false) → (sees k i ≡ true → Law R Every K P (next i) (p (next i))) → (sees k i ≡ false → Law R F K Q i (q i)) → Law R F K Perhaps i (cond b p q (cond b (next i) i))
  unfolding sees token
  perhaps_by true p q e l f go stay = behind_sign (p (next i)) e (seen_live k i e l) (go e)
  perhaps_by false p q e l f go stay = law_like R F K Perhaps Q i 0 (q i) (λ n ts le fit. left n ts (other f e ts fit)) (stay e)

  pub perhaps_at : (p q : Parser B) → live k ≡ true → ((t : Lexeme) → F t → same_kind t.kind k ≡ false) → (sees k i ≡ true → Law R Every K P (next i) (p (next i))) → (sees k i ≡ false → Law R F K Q i (q i)) → Law R F K Perhaps i ((eat k >>= (λ b. cond b p q)) i)
  unfolding after
  perhaps_at p q l f go stay = perhaps_by (sees k i) p q refl l f go stay

  pub perhaps_fill : ((t : Lexeme) → F t → same_kind t.kind k ≡ false) → Fill R F K Q i → Fill R F K Perhaps i
  perhaps_fill f c = fill_like R F K Perhaps Q i 0 (λ n ts le fit. left n ts (f (first ts) fit.1)) c

pub perhaps : {B : Type 0} (S : State) (R : B → State) (F K : Lexeme → Type 0) (k : Kind) (p q : Parser B) (P Q : ℕ → Parser B) → live k ≡ true → ((t : Lexeme) → F t → same_kind t.kind k ≡ false) → Fills S R Every K p P → Fills S R F K q Q → Fills S R F K (eat k >>= (λ b. cond b p q)) (λ n. eat k >>= (λ b. cond b (P n) (Q n)))
unfolding next
perhaps S R F K k p q P Q l f a c = record {
  law = λ i s. perhaps_at R F K k P Q i p q l f (λ e. a.law (next i) s) (λ e. c.law i s);
  fill = λ i s. perhaps_fill R F K k P Q i f (c.fill i s);
}

-- ---- lists with a limit

-- an item that there may not be is one token
pub single : (prefix rest : List Lexeme) (t : Lexeme) → t ∷ rest ≡ prefix ++ rest → prefix ≡ t ∷ []
single [] rest t e = absurd (let l = ap length e in omega (arith, l))
single (u ∷ []) rest t e = sym (ap (λ (ts : List Lexeme). first ts ∷ []) e)
single (u ∷ v ∷ prefix) rest t e = absurd (let l = ap length e in let m = length-append prefix rest in omega (arith, l, m))

-- A rule with a limit: items with commas between them, and a closing sign, each by what was found before.
module _ {A B X : Type 0} (item : X → Parser A) (step : X → A → X) (done : X → A → B) (closing : Kind) (from : ℕ → X → Parser B) (S : X → State) (T : B → State) (F : Lexeme → Type 0) where
  abbrev pub Item : ℕ → X → A → Parser B
  Item n x a = eat kind.Comma >>= (λ b. cond b (from n (step x a)) (expect closing >> pure (done x a)))

  -- as many items are found as c, of those that the limit allows
  abbrev pub Body : ℕ → X → ℕ → Parser B
  Body c x n = item x >>= (λ a. Item (n - suc c) x a)

  pub record Lists : Type 1 where
    pub more : (n : ℕ) (x : X) (i : Input) → from (suc n) x i ≡ (item x >>= (λ a. Item n x a)) i
    pub lives : live closing ≡ true
    pub differ : same_kind closing kind.Comma ≡ false
    pub items : (x : X) → Fills (S x) (λ a. S (step x a)) F Every (item x) (λ n. item x)
    pub posts : (x : X) (a : A) (home : List ℕ) (vars : List (List ℕ)) → S (step x a) home vars → T (done x a) home vars

  module _ (h : Lists) (K : Lexeme → Type 0) where
    -- the closing sign
    abbrev Shut : Lexeme → Type 0
    Shut t = t.kind ≡ closing

    not_comma : (t : Lexeme) → Shut t → same_kind t.kind kind.Comma ≡ false
    not_comma t e = rw e h.differ

    closes : (x : X) (a : A) → Fills (S (step x a)) T Shut K (expect closing >> pure (done x a)) (λ n. expect closing >> pure (done x a))
    closes x a = bound (S (step x a)) (λ _. S (step x a)) T Shut K K (expect closing) (λ n. expect closing) (λ _. pure (done x a)) (λ _ n. pure (done x a)) (expects (S (step x a)) Shut K closing h.lives (λ i. refl)) (λ _. given (S (step x a)) T K (done x a) (λ home vars s. h.posts x a home vars s))

    pub item_fill : (c : ℕ) (x : X) (a : A) (i : Input) → S (step x a) i.home i.vars → Fill T Every K (λ n. Item (n - suc c) x a) i
    item_fill c x a i s =
        let f = perhaps_fill T Shut K kind.Comma (λ n. from (n - suc c) (step x a)) (λ n. expect closing >> pure (done x a)) i not_comma ((closes x a).fill i s) in
        (f.0, done_wider T Shut Every K (λ n. Item (n - suc c) x a) i f.0 (λ t e. tt) f.1)

    body_is : (c n : ℕ) (x : X) (i : Input) → suc c ≤ n → from (n - c) x i ≡ Body c x n i
    body_is c n x i le = let e : n - c ≡ suc (n - suc c) = omega (arith, le) in rw e (h.more (n - suc c) x i)

    list_fill : (c : ℕ) (x : X) (i : Input) → S x i.home i.vars → Fill T F K (λ n. from (n - c) x) i
    list_fill c x i s =
        let a = (h.items x).fill i s in
        let b = item_fill c x a.1.value a.1.end a.1.post in
        fill_like T F K (λ n. from (n - c) x) (Body c x) i (suc c) (λ n ts le fit. body_is c n x (upon n ts i) le)
        (a.0 ++ b.0, done_joined T F Every K (λ n. item x) (λ a n. Item (n - suc c) x a) i a.0 b.0 a.1.value a.1.end a.1.run b.1)

    -- an item and what stands behind it, where the rule reads the rest as it does where there is no limit
    step_law : (c : ℕ) (x : X) (a : A) (i : Input) (n : ℕ) → S (step x a) i.home i.vars → ((y : X) (j : Input) → S y j.home j.vars → Law T Every K (λ m. from (m - suc c) y) j (from n y j)) → Law T Every K (λ m. Item (m - suc c) x a) i (Item n x a i)
    unfolding next
    step_law c x a i n s rec =
        law_wider T Shut Every K (λ m. Item (m - suc c) x a) i (Item n x a i) (λ t e. tt)
        (perhaps_at T Shut K kind.Comma (λ m. from (m - suc c) (step x a)) (λ m. expect closing >> pure (done x a)) i (from n (step x a)) (expect closing >> pure (done x a)) refl not_comma
        (λ e. rec (step x a) (next i) s) (λ e. (closes x a).law i s))

    list_law : ((c : ℕ) (x : X) (i : Input) → S x i.home i.vars → Law T F K (Body c x) i (from 0 x i)) → (n c : ℕ) (x : X) (i : Input) → S x i.home i.vars → Law T F K (λ m. from (m - c) x) i (from n x i)
    list_law none zero c x i s = law_like T F K (λ m. from (m - c) x) (Body c x) i (suc c) (from 0 x i) (λ m ts le fit. body_is c m x (upon m ts i) le) (none c x i s)
    list_law none (suc n) c x i s =
        law_like T F K (λ m. from (m - c) x) (Body c x) i (suc c) (from (suc n) x i) (λ m ts le fit. body_is c m x (upon m ts i) le)
        (subst (λ (r : Outcome B). Law T F K (Body c x) i r) (sym (h.more n x i))
        (bind_at (λ a. S (step x a)) T F Every K (λ m. item x) (λ a m. Item (m - suc c) x a) i (item x i) (λ a. Item n x a) ((h.items x).law i s)
        (λ a j e r. step_law c x a j n r (λ y k u. law_wider T F Every K (λ m. from (m - suc c) y) k (from n y k) (λ t e. tt) (list_law none n (suc c) y k u)))
        (λ a j r. item_fill c x a j r)))

    pub lists : ((c : ℕ) (x : X) (i : Input) → S x i.home i.vars → Law T F K (Body c x) i (from 0 x i)) → (n c : ℕ) (x : X) → Fills (S x) T F K (from n x) (λ m. from (m - c) x)
    lists none n c x = record { law = λ i s. list_law none n c x i s; fill = λ i s. list_fill c x i s }

    -- the item after the last one that there may be is at fault, where it is one
    excess_by : (c : ℕ) (x : X) (i : Input) (r : Outcome A) → Law (λ a. S (step x a)) F Every (λ m. item x) i r → ((a : A) (j : Input) → r ≡ Ok (a, j) → i.rest ≡ first i.rest ∷ j.rest) → Law T F K (Body c x) i (and_then r (λ a j. limit i))
    unfolding place token
    excess_by c x i (Ok p) w one =
        let alone : w.prefix ≡ first i.rest ∷ [] = single w.prefix p.1.rest (first i.rest) (sym (one p.0 p.1 refl) ∙ w.whole) in
        let f = item_fill c x p.0 p.1 w.post in
        record {
          prefix = [];
          rest = i.rest;
          whole = refl;
          here = refl;
          fill = f.0;
          done = subst (λ (ts : List Lexeme). Done T (Or F i) K (Body c x) i (ts ++ f.0)) alone
              (done_joined T (Or F i) (Or Every p.1) K (λ m. item x) (λ a m. Item (m - suc c) x a) i w.prefix f.0 p.0 p.1 w.run (done_wider T Every (Or Every p.1) K (λ m. Item (m - suc c) x p.0) p.1 f.0 (λ t e. inl e) f.1));
        }
    excess_by c x i (Err e) w one =
        bind_at (λ a. S (step x a)) T F Every K (λ m. item x) (λ a m. Item (m - suc c) x a) i (Err e) (λ a. limit) w (λ a j q r. absurd (cc)) (λ a j r. item_fill c x a j r)

    pub excess : ((x : X) (a : A) (i j : Input) → item x i ≡ Ok (a, j) → i.rest ≡ first i.rest ∷ j.rest) → ((x : X) (i : Input) → from 0 x i ≡ and_then (item x i) (λ a j. limit i)) → (c : ℕ) (x : X) (i : Input) → S x i.home i.vars → Law T F K (Body c x) i (from 0 x i)
    excess one none c x i s = subst (λ (r : Outcome B). Law T F K (Body c x) i r) (sym (none x i)) (excess_by c x i (item x i) ((h.items x).law i s) (λ a j e. one x a i j e))
