-- A rule looks no further than where it stops: it leaves the tokens behind that as they are, and where other tokens
-- stand behind its stop it does the same. It never takes the token behind which a text ends.
use Rattle.std.proofs.Common.{◌≡◌, ℕ, zero, suc, ◌+◌, ◌-◌, ◌≤◌, ◌<◌, List, [], ◌∷◌, ◌++◌, length, take, drop, refl, Bool, true, false, cond, ◌&&◌, inl, inr, Ok, Err, sym, ap, ◌∙◌, arith, subst, append_assoc, length-append, length-drop, length-take}
use Rattle.md_token.specs.declared.kind.Kind.{Kind}
use Rattle.md_token.specs.declared.kind.Kind.TheVariants as kind
use Rattle.md_token.specs.Kinds.{same_kind, is_final}
use Rattle.md_token.specs.Token.{Lexeme}
use Rattle.md_token.proofs.Ends.{is_end, HasEnd}
use Rattle.md_reader.specs.declared.refused.Place.{Place}
use Rattle.md_reader.specs.declared.refused.Refusal.{Refusal}
use Rattle.md_reader.specs.declared.refused.Refusal.TheVariants as refusal
use Rattle.md_reader.specs.Input.{Input, Parser, Outcome, ◌>>=◌, ◌>>◌, and_then, pure, refuse, limit, advance, eat, sees, next, after, first, token, kind_at, place, expect}
use Rattle.md_reader.proofs.Taking.{kind_seen}

-- ---- places behind a place

pub record Behind (ts us : List Lexeme) : Type 0 where
  pub prefix : List Lexeme
  pub all : ts ≡ prefix ++ us
  pub ends : HasEnd ts → HasEnd us

whole : (ts : List Lexeme) → Behind ts ts
whole ts = record { prefix = []; all = refl; ends = λ h. h }

further : (ts us vs : List Lexeme) → Behind ts us → Behind us vs → Behind ts vs
further ts us vs a b = record { prefix = a.prefix ++ b.prefix; all = a.all ∙ (ap (λ (ws : List Lexeme). a.prefix ++ ws) b.all ∙ sym (append_assoc a.prefix b.prefix vs)); ends = λ h. b.ends (a.ends h) }

pub shorter : (ts us : List Lexeme) → Behind ts us → length us ≤ length ts
shorter ts us b = let l = length-append b.prefix us in let e = ap length b.all in omega (arith, l, e)

-- the next token isn't the one behind which the text ends
abbrev pub Goes : Input → Type 0
Goes i = is_end (token i) ≡ false

not_final : (a b : Bool) → a ≡ false → (a && b) ≡ false
not_final true b e = absurd (cc)
not_final false b e = refl

pub goes_by : (i : Input) → is_final (kind_at i) ≡ false → Goes i
goes_by i e = not_final (is_final (kind_at i)) _ e

pub goes : (k : Kind) (t : Lexeme) (i : Input) → token i ≡ t → same_kind t.kind k ≡ true → is_final k ≡ false → Goes i
unfolding sees
goes k t i e s f =
    let seen : sees k i ≡ true = ap (λ (u : Lexeme). same_kind u.kind k) e ∙ s in
    goes_by i (ap is_final (kind_seen k i seen) ∙ f)

drop_behind : (ts : List Lexeme) → is_end (first ts) ≡ false → Behind ts (drop 1 ts)
drop_behind [] e = whole []
drop_behind (t ∷ ts) e = record { prefix = t ∷ []; all = refl; ends = λ h. elim h [ inl f ↦ absurd (cc) | inr r ↦ r ] }

next_behind : (i : Input) → Goes i → Behind i.rest (next i).rest
unfolding next token
next_behind i g = drop_behind i.rest g

-- ---- where an outcome stands

abbrev pub at : List Lexeme → Place
at us = record { line = (first us).line; left = length us }

abbrev pub FaultAt : List Lexeme → Refusal → Type 0
FaultAt us (refusal.Syntax place) = place ≡ at us
FaultAt us (refusal.Limit place) = place ≡ at us
FaultAt us refusal.NoMemory = ⊥

abbrev pub Stands : {A : Type 0} → List Lexeme → Outcome A → Type 0
Stands us (Ok p) = p.1.rest ≡ us
Stands us (Err e) = FaultAt us e

-- ---- other tokens in the place of the last d

module _ (d : ℕ) (more : List Lexeme) where
  abbrev pub recut : List Lexeme → List Lexeme
  recut ts = take (length ts - d) ts ++ more

  abbrev pub cut : Input → Input
  cut i = record i { rest = recut i.rest }

  first_recut : (ts : List Lexeme) → d < length ts → first (recut ts) ≡ first ts
  first_recut [] h = absurd (omega arith)
  first_recut (t ∷ ts) h = let e : suc (length ts) - d ≡ suc (length ts - d) = omega arith in rw e refl

  drop_recut : (ts : List Lexeme) → d < length ts → drop 1 (recut ts) ≡ recut (drop 1 ts)
  drop_recut [] h = absurd (omega arith)
  drop_recut (t ∷ ts) h = let e : suc (length ts) - d ≡ suc (length ts - d) = omega arith in rw e refl

  pub token_cut : (i : Input) → d < length i.rest → token (cut i) ≡ token i
  unfolding token
  token_cut i h = first_recut i.rest h

  next_cut : (i : Input) → d < length i.rest → next (cut i) ≡ cut (next i)
  unfolding next
  next_cut i h = ap (λ (ts : List Lexeme). record i { rest = ts }) (drop_recut i.rest h)

  -- the same value at the same place, or a fault in both
  abbrev pub Agree : {A : Type 0} → Outcome A → Outcome A → Type 0
  Agree (Ok p) s = s ≡ Ok (p.0, cut p.1)
  Agree {A} (Err e) s = (f : Refusal) × (s ≡ Err f)

  pub record Same {A : Type 0} (ts : List Lexeme) (r s : Outcome A) : Type 0 where
    pub stop : List Lexeme
    pub behind : Behind ts stop
    pub stands : Stands stop r
    pub agrees : d < length stop → Agree r s

  abbrev pub Steady : {A : Type 0} → Parser A → Type 0
  Steady p = (i : Input) → Same i.rest (p i) (p (cut i))

  -- where the next token is this one
  abbrev pub SteadyAt : {A : Type 0} → Lexeme → Parser A → Type 0
  SteadyAt t p = (i : Input) → token i ≡ t → Same i.rest (p i) (p (cut i))

  pub same_when : {A : Type 0} (ts : List Lexeme) (r s t : Outcome A) → (d < length ts → s ≡ t) → Same ts r s → Same ts r t
  same_when ts r s t e w = record { stop = w.stop; behind = w.behind; stands = w.stands; agrees = λ h. subst (Agree r) (e (let k = shorter ts w.stop w.behind in omega (arith, h, k))) (w.agrees h) }

  pub same_bind_at : {A B : Type 0} (ts : List Lexeme) (r s : Outcome A) (f g : A → Parser B) → Same ts r s → ((x : A) (j : Input) → length j.rest ≤ length ts → Same j.rest (f x j) (g x (cut j))) → Same ts (and_then r f) (and_then s g)
  same_bind_at ts (Ok p) s f g w F =
      let here : p.1.rest ≡ w.stop = w.stands in
      let k = shorter ts w.stop w.behind in
      let q = F p.0 p.1 (rw here k) in
      let b : Behind w.stop q.stop = subst (λ (us : List Lexeme). Behind us q.stop) here q.behind in
      let m = shorter w.stop q.stop b in
      record {
        stop = q.stop;
        behind = further ts w.stop q.stop w.behind b;
        stands = q.stands;
        agrees = λ h. let e : s ≡ Ok (p.0, cut p.1) = w.agrees (omega (arith, h, m)) in rw e (q.agrees h);
      }
  same_bind_at ts (Err e) s f g w F = record { stop = w.stop; behind = w.behind; stands = w.stands; agrees = λ h. let q = w.agrees h in (q.0, rw q.1 refl) }

  pub same_bind : {A B : Type 0} (ts : List Lexeme) (r s : Outcome A) (f : A → Parser B) → Same ts r s → ((x : A) → Steady (f x)) → Same ts (and_then r f) (and_then s f)
  same_bind ts r s f w F = same_bind_at ts r s f f w (λ x j _. F x j)

  pub tested_by : {A : Type 0} (ts : List Lexeme) (b : Bool) (r s r' s' : Outcome A) → (b ≡ true → Same ts r r') → (b ≡ false → Same ts s s') → Same ts (cond b r s) (cond b r' s')
  tested_by ts true r s r' s' R S = R refl
  tested_by ts false r s r' s' R S = S refl

  pub tested : {A : Type 0} (ts : List Lexeme) (b : Bool) (r s r' s' : Outcome A) → Same ts r r' → Same ts s s' → Same ts (cond b r s) (cond b r' s')
  tested ts b r s r' s' R S = tested_by ts b r s r' s' (λ _. R) (λ _. S)

  -- ---- the ways to make a rule

  pub bound : {A B : Type 0} (p : Parser A) (f : A → Parser B) → Steady p → ((x : A) → Steady (f x)) → Steady (p >>= f)
  bound p f P F i = same_bind i.rest (p i) (p (cut i)) f (P i) F

  pub given : {A : Type 0} (x : A) → Steady (pure x)
  given x i = record { stop = i.rest; behind = whole i.rest; stands = refl; agrees = λ _. refl }

  pub faulty : {A : Type 0} → Steady {A = A} refuse
  unfolding place token
  faulty i = record { stop = i.rest; behind = whole i.rest; stands = refl; agrees = λ _. (refusal.Syntax (place (cut i)), refl) }

  pub limited : {A : Type 0} → Steady {A = A} limit
  unfolding place token
  limited i = record { stop = i.rest; behind = whole i.rest; stands = refl; agrees = λ _. (refusal.Limit (place (cut i)), refl) }

  pub either : {A : Type 0} (b : Bool) (p q : Parser A) → Steady p → Steady q → Steady (cond b p q)
  either true p q P Q i = P i
  either false p q P Q i = Q i

  pub by_token_at : {A : Type 0} (f : Lexeme → Parser A) (i : Input) → Same i.rest (f (token i) i) (f (token i) (cut i)) → Same i.rest (f (token i) i) (f (token (cut i)) (cut i))
  by_token_at f i w = same_when i.rest (f (token i) i) (f (token i) (cut i)) (f (token (cut i)) (cut i)) (λ h. ap (λ (t : Lexeme). f t (cut i)) (sym (token_cut i h))) w

  -- a rule that depends on the next token
  pub by_token : {A : Type 0} (f : Lexeme → Parser A) → ((t : Lexeme) → SteadyAt t (f t)) → Steady (λ i. f (token i) i)
  by_token f F i = by_token_at f i (F (token i) i refl)

  -- the next token is taken
  pub taking : {A : Type 0} (x : A) (i : Input) → Goes i → Same i.rest (Ok (x, next i)) (Ok (x, next (cut i)))
  taking x i g =
      let b = next_behind i g in
      let k = shorter i.rest (next i).rest b in
      record { stop = (next i).rest; behind = b; stands = refl; agrees = λ h. ap (λ (m : Input). Ok (x, m)) (next_cut i (omega (arith, h, k))) }

  pub naming : {A : Type 0} (x : A) (vars : List (List ℕ)) (i : Input) → Goes i → Same i.rest (Ok (x, record (next i) { vars = vars })) (Ok (x, record (next (cut i)) { vars = vars }))
  naming x vars i g =
      let b = next_behind i g in
      let k = shorter i.rest (next i).rest b in
      record { stop = (next i).rest; behind = b; stands = refl; agrees = λ h. ap (λ (m : Input). Ok (x, record m { vars = vars })) (next_cut i (omega (arith, h, k))) }

  -- the next token is taken, and then a rule goes on
  pub passing : {B : Type 0} (p : Parser B) (i : Input) → Goes i → Steady p → Same i.rest ((advance >> p) i) ((advance >> p) (cut i))
  passing p i g P = same_bind i.rest (advance i) (advance (cut i)) (λ _. p) (taking tt i g) (λ _. P)

  eaten_by : (b : Bool) (i : Input) → (b ≡ true → Goes i) → Same i.rest (Ok (b, cond b (next i) i)) (Ok (b, cond b (next (cut i)) (cut i)))
  eaten_by true i g = taking true i (g refl)
  eaten_by false i g = given false i

  pub eaten : (k : Kind) → is_final k ≡ false → Steady (eat k)
  unfolding after sees
  eaten k f = by_token (λ t i. Ok (same_kind t.kind k, cond (same_kind t.kind k) (next i) i)) (λ t i e. eaten_by (same_kind t.kind k) i (λ s. goes k t i e s f))

  pub expected : (k : Kind) → is_final k ≡ false → Steady (expect k)
  unfolding expect sees
  expected k f = by_token (λ t i. cond (same_kind t.kind k) (Ok (t.line, next i)) (refuse i)) (λ t i e. tested_by i.rest (same_kind t.kind k) _ _ _ _ (λ s. taking t.line i (goes k t i e s f)) (λ _. faulty {A = ℕ} i))

  -- the item after the last one that there may be is at fault, where it is one
  always_fault : {A B : Type 0} (s : Outcome A) (i : Input) → (f : Refusal) × (and_then {B = B} s (λ x j. limit i) ≡ Err f)
  always_fault (Ok p) i = (refusal.Limit (place i), refl)
  always_fault (Err e) i = (e, refl)

  excess_by : {A B : Type 0} (i : Input) (r s : Outcome A) → Same i.rest r s → Same {A = B} i.rest (and_then r (λ x j. limit i)) (and_then s (λ x j. limit (cut i)))
  unfolding place token
  excess_by i (Ok p) s w = record { stop = i.rest; behind = whole i.rest; stands = refl; agrees = λ _. always_fault s (cut i) }
  excess_by i (Err e) s w = record { stop = w.stop; behind = w.behind; stands = w.stands; agrees = λ _. always_fault s (cut i) }

  pub excess : {A B : Type 0} (p : Parser A) → Steady p → Steady {A = B} (λ i. and_then (p i) (λ x j. limit i))
  excess p P i = excess_by i (p i) (p (cut i)) (P i)

  -- ---- rules that take turns

  filled : (ts : List Lexeme) (k : Kind) → same_kind (first ts).kind k ≡ true → same_kind kind.Stop k ≡ false → 0 < length ts
  filled [] k e stop = absurd (cc)
  filled (t ∷ ts) k e stop = omega arith

  -- past a token that isn't the end there are fewer tokens
  pub fewer : (k : Kind) (i : Input) → sees k i ≡ true → same_kind kind.Stop k ≡ false → length (next i).rest < length i.rest
  unfolding sees token next
  fewer k i e stop = let some = filled i.rest k e stop in let l = length-drop 1 i.rest in omega (arith, some, l)

  same_more : {A : Type 0} (ts us : List Lexeme) (r s : Outcome A) → Behind ts us → Same us r s → Same ts r s
  same_more ts us r s b w = record { stop = w.stop; behind = further ts us w.stop b w.behind; stands = w.stands; agrees = w.agrees }

  turn_by : {B : Type 0} (b : Bool) (k : Kind) (j : Input) (P P' Q : Parser B) → sees k j ≡ b → is_final k ≡ false → (sees k j ≡ true → Same (next j).rest (P (next j)) (P' (cut (next j)))) → Steady Q
      → Same j.rest (cond b P Q (cond b (next j) j)) (cond b P' Q (cond b (cut (next j)) (cut j)))
  turn_by true k j P P' Q e f go stay = same_more j.rest (next j).rest (P (next j)) (P' (cut (next j))) (next_behind j (goes_by j (ap is_final (kind_seen k j e) ∙ f))) (go e)
  turn_by false k j P P' Q e f go stay = stay j

  -- a sign that leads to the next turn, or none
  turn : {B : Type 0} (k : Kind) (j : Input) (P P' Q : Parser B) → is_final k ≡ false → (sees k j ≡ true → Same (next j).rest (P (next j)) (P' (cut (next j)))) → Steady Q
      → Same j.rest (cond (sees k j) P Q (after k j)) (cond (sees k (cut j)) P' Q (after k (cut j)))
  unfolding after sees
  turn k j P P' Q f go stay =
      same_when j.rest _ (cond (same_kind (token j).kind k) P' Q (cond (same_kind (token j).kind k) (cut (next j)) (cut j))) _
      (λ h. rw (token_cut j h, next_cut j h) refl)
      (turn_by (same_kind (token j).kind k) k j P P' Q refl f go stay)

  -- an item, and then a sign that leads to the next turn, or the end
  pub turns_on : {A B : Type 0} (item : Parser A) (k : Kind) (P P' Q : A → Parser B) (i : Input) → Steady item → same_kind kind.Stop k ≡ false → is_final k ≡ false
      → ((x : A) (j : Input) → length j.rest < length i.rest → Same j.rest (P x j) (P' x (cut j))) → ((x : A) → Steady (Q x))
      → Same i.rest ((item >>= (λ x. eat k >>= (λ b. cond b (P x) (Q x)))) i) ((item >>= (λ x. eat k >>= (λ b. cond b (P' x) (Q x)))) (cut i))
  turns_on item k P P' Q i I stop f go stay =
      same_bind_at i.rest (item i) (item (cut i)) (λ x. eat k >>= (λ b. cond b (P x) (Q x))) (λ x. eat k >>= (λ b. cond b (P' x) (Q x))) (I i)
      (λ x j h. turn k j (P x) (P' x) (Q x) f (λ e. go x (next j) (let l = fewer k j e stop in omega (arith, l, h))) (stay x))

  -- turns that each take a token, as many as there may be
  pub loop : {S B : Type 0} (from : ℕ → S → Parser B) → ((s : S) (i : Input) → from 0 s i ≡ refuse i)
      → ((n m : ℕ) (s : S) (i : Input) → ((t : S) (j : Input) → length j.rest < length i.rest → Same j.rest (from n t j) (from m t (cut j))) → Same i.rest (from (suc n) s i) (from (suc m) s (cut i)))
      → (n m : ℕ) (s : S) (i : Input) → length i.rest ≤ n → (d < length i.rest → length i.rest - d + length more ≤ m) → Same i.rest (from n s i) (from m s (cut i))
  unfolding place token
  loop from none step zero m s i h k = rw (none s i) (record { stop = i.rest; behind = whole i.rest; stands = refl; agrees = λ q. absurd (omega (arith, q, h)) })
  loop from none step (suc n) zero s i h k =
      let w = step n zero s i (λ t j lt. loop from none step n zero t j (omega (arith, h, lt)) (λ q. let z = k (omega (arith, q, lt)) in omega (arith, z, q, lt))) in
      let l = shorter i.rest w.stop w.behind in
      record { stop = w.stop; behind = w.behind; stands = w.stands; agrees = λ q. absurd (let z = k (omega (arith, q, l)) in omega (arith, z, q, l)) }
  loop from none step (suc n) (suc m) s i h k =
      step n m s i (λ t j lt. loop from none step n m t j (omega (arith, h, lt)) (λ q. let z = k (omega (arith, q, lt)) in omega (arith, z, q, lt)))

  length_recut : (ts : List Lexeme) → d < length ts → length (recut ts) ≡ length ts - d + length more
  length_recut ts h = let a = length-append (take (length ts - d) ts) more in let b = length-take (length ts - d) ts in omega (arith, a, b, h)

  pub turned : {S B : Type 0} (from : ℕ → S → Parser B) → ((s : S) (i : Input) → from 0 s i ≡ refuse i)
      → ((n m : ℕ) (s : S) (i : Input) → ((t : S) (j : Input) → length j.rest < length i.rest → Same j.rest (from n t j) (from m t (cut j))) → Same i.rest (from (suc n) s i) (from (suc m) s (cut i)))
      → (s : S) → Steady (λ i. from (length i.rest) s i)
  turned from none step s i = loop from none step (length i.rest) (length (recut i.rest)) s i (omega arith) (λ h. let e = length_recut i.rest h in omega (arith, e))

  -- a sign that begins a turn, and what stands behind it
  nested : {A B : Type 0} (b : Bool) (x : ℕ × Input) (e : Refusal) (f : ℕ → Parser A) (g : A → Parser B) → cond b (and_then (f x.0 x.1) g) (Err e) ≡ and_then (and_then (cond b (Ok x) (Err e)) f) g
  nested true x e f g = refl
  nested false x e f g = refl

  begun_by : {A B : Type 0} (b : Bool) (k : Kind) (i : Input) (G : ℕ → Parser A) (P P' : A → Parser B) → sees k i ≡ b → is_final k ≡ false → same_kind kind.Stop k ≡ false → ((line : ℕ) → Steady (G line))
      → ((x : A) (j : Input) → length j.rest < length i.rest → Same j.rest (P x j) (P' x (cut j)))
      → Same i.rest (cond b (and_then (G (token i).line (next i)) P) (refuse i)) (cond b (and_then (G (token i).line (cut (next i))) P') (refuse (cut i)))
  begun_by true k i G P P' e f stop S go =
      same_more i.rest (next i).rest (and_then (G (token i).line (next i)) P) (and_then (G (token i).line (cut (next i))) P') (next_behind i (goes_by i (ap is_final (kind_seen k i e) ∙ f)))
      (same_bind_at (next i).rest (G (token i).line (next i)) (G (token i).line (cut (next i))) P P' (S (token i).line (next i)) (λ x j le. go x j (let l = fewer k i e stop in omega (arith, l, le))))
  begun_by {A} {B} false k i G P P' e f stop S go = faulty {A = B} i

  pub begun : {A B : Type 0} (k : Kind) (i : Input) (G : ℕ → Parser A) (P P' : A → Parser B) → is_final k ≡ false → same_kind kind.Stop k ≡ false → ((line : ℕ) → Steady (G line))
      → ((x : A) (j : Input) → length j.rest < length i.rest → Same j.rest (P x j) (P' x (cut j)))
      → Same i.rest (((expect k >>= G) >>= P) i) (((expect k >>= G) >>= P') (cut i))
  unfolding expect sees
  begun {A} {B} k i G P P' f stop S go =
      same_when i.rest (((expect k >>= G) >>= P) i) (cond (same_kind (token i).kind k) (and_then (G (token i).line (cut (next i))) P') (refuse (cut i))) (((expect k >>= G) >>= P') (cut i))
      (λ h. nested (same_kind (token i).kind k) ((token i).line, cut (next i)) (refusal.Syntax (place (cut i))) G P' ∙ rw (token_cut i h, next_cut i h) refl)
      (subst (λ (r : Outcome B). Same i.rest r (cond (same_kind (token i).kind k) (and_then (G (token i).line (cut (next i))) P') (refuse (cut i)))) (nested (same_kind (token i).kind k) ((token i).line, next i) (refusal.Syntax (place i)) G P)
      (begun_by (same_kind (token i).kind k) k i G P P' refl f stop S go))
