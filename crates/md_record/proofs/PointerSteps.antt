-- The active contexts and the kept chain, as the current chain grows and shrinks.
use Rattle.std.proofs.Common.{ℕ, ◌+◌, ◌-◌, ◌≡◌, ◌≢◌, ◌<◌, inl, inr, List, [], ◌∷◌, ◌++◌, length, reverse, take, Option, Some, slice_get, set, refl, sym, ap, ◌∙◌, subst, arith}
use Rattle.std.proofs.lemmas.Bool.{cases_eq, eq-eqb, ne_eqb}
use Rattle.std.proofs.lemmas.List.{length-set, length-append, reverse-append, reverse-reverse, take_at}
use Rattle.md_trace.specs.Context.{Placed}
use Rattle.md_trace.specs.Links.{Leading}
use Rattle.md_trace.proofs.Lists.{get-set-same, get-set-other, get-push-new}
use Rattle.md_record.specs.Parts.{ActiveIs, AreSteps, nearest}

pub nearest-same : (q : ℕ) (y : Placed) (c : List Placed) → y.link.procedure ≡ q → nearest q (y ∷ c) ≡ Some y.context
nearest-same q y c is = rw (eq-eqb q y.link.procedure (sym is))

pub nearest-other : (r : ℕ) (y : Placed) (c : List Placed) → r ≢ y.link.procedure → nearest r (y ∷ c) ≡ nearest r c
nearest-other r y c ne = rw (ne_eqb r y.link.procedure ne)

-- one pointer changes
pub active-set : (procs q : ℕ) (c c2 : List Placed) (active active2 : List (Option ℕ)) (to : Option ℕ) → ActiveIs procs c active → q < procs → active2 ≡ set active q to → to ≡ nearest q c2 →
    ((r : ℕ) → r ≢ q → nearest r c2 ≡ nearest r c) → ActiveIs procs c2 active2
active-set procs q c c2 active active2 to are below is due others =
    record {
      each = ap length is ∙ length-set active q to ∙ are.each;
      right = λ r h. elim (cases_eq r q) [
        | inl same ↦ ap (λ xs. slice_get xs r) is ∙ ap (slice_get (set active q to)) same ∙ get-set-same active q to (omega (arith, are.each)) ∙ ap Some due ∙ ap (λ p. Some (nearest p c2)) (sym same)
        | inr other ↦ ap (λ xs. slice_get xs r) is ∙ get-set-other active q r to other ∙ are.right r h ∙ ap Some (sym (others r other))
      ];
    }

-- longer lists of links keep the kept chain right
pub steps-more : (ls ls2 : List Leading) (c : List Placed) (es : List (ℕ × ℕ)) → ((j : ℕ) (x : Leading) → slice_get ls j ≡ Some x → slice_get ls2 j ≡ Some x) → AreSteps ls c es → AreSteps ls2 c es
steps-more ls ls2 [] [] more are = tt
steps-more ls ls2 [] (e ∷ es) more are = are
steps-more ls ls2 (x ∷ xs) [] more are = are
steps-more ls ls2 (x ∷ xs) (e ∷ es) more are = (more e.0 (record { link = x.link; to = x.context }) are.0, are.1, steps-more ls ls2 xs es more are.2)

pub steps-length : (ls : List Leading) (c : List Placed) (es : List (ℕ × ℕ)) → AreSteps ls c es → length es ≡ length c
steps-length ls [] [] are = refl
steps-length ls [] (e ∷ es) are = absurd are
steps-length ls (x ∷ xs) [] are = absurd are
steps-length ls (x ∷ xs) (e ∷ es) are = let rest = steps-length ls xs es are.2 in omega (arith, rest)

-- one link more at the end of the kept chain
pub chain-pushed : (es fs : List (ℕ × ℕ)) (e : ℕ × ℕ) → fs ≡ es ++ e ∷ [] → reverse fs ≡ e ∷ reverse es
chain-pushed es fs e is = ap reverse is ∙ reverse-append es (e ∷ [])

-- the kept chain of a chain that is not empty: its last link is that of the first activation
pub record EndsWith (ls : List Leading) (y : Placed) (c : List Placed) (es : List (ℕ × ℕ)) : Type 0 where
  pub last : ℕ × ℕ
  pub rest : List (ℕ × ℕ)
  pub is : es ≡ rest ++ last ∷ []
  pub link_is : slice_get ls last.0 ≡ Some (record { link = y.link; to = y.context })
  pub end_is : last.1 ≡ y.context
  pub steps : AreSteps ls c (reverse rest)

ends-by : (ls : List Leading) (y : Placed) (c : List Placed) (es gs : List (ℕ × ℕ)) → reverse es ≡ gs → AreSteps ls (y ∷ c) gs → EndsWith ls y c es
ends-by ls y c es [] is are = absurd are
ends-by ls y c es (g ∷ gs) is are =
    let P : List (ℕ × ℕ) → Type 0 = λ zs. AreSteps ls c zs in
    record {
      last = g;
      rest = reverse gs;
      is = sym (reverse-reverse es) ∙ ap reverse is ∙ reverse-append (g ∷ []) gs;
      link_is = are.0;
      end_is = are.1;
      steps = subst P (sym (reverse-reverse gs)) are.2;
    }

pub ends-with : (ls : List Leading) (y : Placed) (c : List Placed) (es : List (ℕ × ℕ)) → AreSteps ls (y ∷ c) (reverse es) → EndsWith ls y c es
ends-with ls y c es are = ends-by ls y c es (reverse es) refl are

-- without its last link
pub chain-popped : (ls : List Leading) (y : Placed) (c : List Placed) (es fs : List (ℕ × ℕ)) → fs ≡ take (length es - 1) es → (w : EndsWith ls y c es) → fs ≡ w.rest
chain-popped ls y c es fs is w =
    let len : length es ≡ length w.rest + 1 = ap length w.is ∙ length-append w.rest (w.last ∷ []) in
    is ∙ ap (take (length es - 1)) w.is ∙ take_at w.rest (w.last ∷ []) (length es - 1) (omega (arith, len))

-- where the last link stands
pub chain-last : (ls : List Leading) (y : Placed) (c : List Placed) (es : List (ℕ × ℕ)) (w : EndsWith ls y c es) → slice_get es (length es - 1) ≡ Some w.last
chain-last ls y c es w =
    let len : length es - 1 ≡ length w.rest = omega (arith, ap length w.is, length-append w.rest (w.last ∷ [])) in
    ap (λ k. slice_get es k) len ∙ ap (λ zs. slice_get zs (length w.rest)) w.is ∙ get-push-new w.rest w.last
