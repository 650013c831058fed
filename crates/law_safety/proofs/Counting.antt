-- How many answers a trace has, by a bound and by whether there is one; and the algebra of pairs over traces.
use Rattle.std.proofs.Common.{◌≡◌, refl, sym, ◌∙◌, subst, ℕ, zero, suc, Bool, true, false, ◌&&◌, ◌||◌, List, [], ◌∷◌, ◌++◌, Option, Some, None}
use Rattle.std.proofs.lemmas.Bool.{true≢false}
use Rattle.std.specs.Prelude.{⊤}
use Rattle.md_hlds.specs.Value.{Env}
use Rattle.md_hlds.specs.Trace.{Turn, Call, Exit, Redo, Fail, Excp, Alloc, Out, Throw, Answer, Stuck, Deep, Items, joined, first, allocated, written}
use Rattle.md_det.specs.declared.pair.Bound.{Bound}
use Rattle.md_det.specs.declared.pair.Bound.TheVariants.{Zero, One, Many}
use Rattle.md_det.specs.declared.pair.Pair.{Pair}
use Rattle.md_det.specs.Bounds.{product, sum, exceeds, greatest, at_most_one}
use Rattle.md_det.specs.Pairs.{pair, in_turn, alternatives, one_of_two, cut}
use Rattle.law_safety.proofs.Items.{Fine}

-- with this bound there is room for one answer, and then for what is left
abbrev pub IsLeft : Bound → (Bound → Type 0) → Type 0
IsLeft Zero P = ⊥
IsLeft One P = P Zero
IsLeft Many P = P Many

-- no more answers than the bound, unless the trace is thrown
abbrev pub IsWithin : Items → Bound → Type 0
IsWithin [] b = ⊤
IsWithin (Answer e ∷ xs) b = IsLeft b (λ c. IsWithin xs c)
IsWithin (Throw bytes ∷ xs) b = ⊤
IsWithin (x ∷ xs) b = IsWithin xs b

-- there is an answer, unless the trace breaks off
abbrev pub HasEnd : Items → Type 0
HasEnd [] = ⊥
HasEnd (Answer e ∷ xs) = ⊤
HasEnd (Throw bytes ∷ xs) = ⊤
HasEnd (Stuck ∷ xs) = ⊤
HasEnd (Deep ∷ xs) = ⊤
HasEnd (x ∷ xs) = HasEnd xs

-- a trace has as many answers as a pair says
pub record Meets (p : Pair) (xs : Items) : Type 0 where
  pub within : IsWithin xs p.bound
  pub there : p.may_fail ≡ false → HasEnd xs

-- ---- bounds

left_more : (xs : Items) (b c : Bound) → exceeds b c ≡ false → ((b c : Bound) → exceeds b c ≡ false → IsWithin xs b → IsWithin xs c) → IsLeft b (λ c. IsWithin xs c) → IsLeft c (λ c. IsWithin xs c)
left_more xs Zero c e f h = elim h [ ]
left_more xs One Zero e f h = absurd (true≢false e)
left_more xs One One e f h = h
left_more xs One Many e f h = f Zero Many refl h
left_more xs Many Zero e f h = absurd (true≢false e)
left_more xs Many One e f h = absurd (true≢false e)
left_more xs Many Many e f h = h

pub within_more : (xs : Items) (b c : Bound) → exceeds b c ≡ false → IsWithin xs b → IsWithin xs c
within_more [] b c e h = tt
within_more (Turn a t w ∷ xs) b c e h = within_more xs b c e h
within_more (Call a p s q ∷ xs) b c e h = within_more xs b c e h
within_more (Exit a ∷ xs) b c e h = within_more xs b c e h
within_more (Redo a ∷ xs) b c e h = within_more xs b c e h
within_more (Fail a ∷ xs) b c e h = within_more xs b c e h
within_more (Excp a ∷ xs) b c e h = within_more xs b c e h
within_more (Alloc a w ∷ xs) b c e h = within_more xs b c e h
within_more (Out bytes ∷ xs) b c e h = within_more xs b c e h
within_more (Throw bytes ∷ xs) b c e h = tt
within_more (Answer d ∷ xs) b c e h = left_more xs b c e (within_more xs) h
within_more (Stuck ∷ xs) b c e h = within_more xs b c e h
within_more (Deep ∷ xs) b c e h = within_more xs b c e h

more_than : (b c : Bound) (ys : Items) → IsWithin ys c → IsWithin ys (sum b c)
more_than Zero c ys h = h
more_than One Zero ys h = within_more ys Zero One refl h
more_than One One ys h = within_more ys One Many refl h
more_than One Many ys h = h
more_than Many Zero ys h = within_more ys Zero Many refl h
more_than Many One ys h = within_more ys One Many refl h
more_than Many Many ys h = h

left_joined : (xs ys : Items) (b c : Bound) → ((b : Bound) → IsWithin xs b → IsWithin ys (sum b c)) → IsLeft b (λ d. IsWithin xs d) → IsLeft (sum b c) (λ d. IsWithin ys d)
left_joined xs ys Zero c f h = elim h [ ]
left_joined xs ys One Zero f h = f Zero h
left_joined xs ys One One f h = within_more ys One Many refl (f Zero h)
left_joined xs ys One Many f h = f Zero h
left_joined xs ys Many c f h = f Many h

within_joined : (xs : Items) (b c : Bound) (k : ℕ) (rest : ℕ → Items) → IsWithin xs b → ((n : ℕ) → IsWithin (rest n) c) → IsWithin (joined xs k rest) (sum b c)
within_joined [] b c k rest h g = more_than b c (rest k) (g k)
within_joined (Turn a t w ∷ xs) b c k rest h g = within_joined xs b c k rest h g
within_joined (Call a p s q ∷ xs) b c k rest h g = within_joined xs b c (suc k) rest h g
within_joined (Exit a ∷ xs) b c k rest h g = within_joined xs b c k rest h g
within_joined (Redo a ∷ xs) b c k rest h g = within_joined xs b c k rest h g
within_joined (Fail a ∷ xs) b c k rest h g = within_joined xs b c k rest h g
within_joined (Excp a ∷ xs) b c k rest h g = within_joined xs b c k rest h g
within_joined (Alloc a w ∷ xs) b c k rest h g = within_joined xs b c k rest h g
within_joined (Out bytes ∷ xs) b c k rest h g = within_joined xs b c k rest h g
within_joined (Throw bytes ∷ xs) b c k rest h g = tt
within_joined (Answer d ∷ xs) b c k rest h g = left_joined xs (joined xs k rest) b c (λ b h. within_joined xs b c k rest h g) h
within_joined (Stuck ∷ xs) b c k rest h g = tt
within_joined (Deep ∷ xs) b c k rest h g = tt

end_joined : (xs : Items) (k : ℕ) (rest : ℕ → Items) → HasEnd xs → HasEnd (joined xs k rest)
end_joined [] k rest h = elim h [ ]
end_joined (Turn a t w ∷ xs) k rest h = end_joined xs k rest h
end_joined (Call a p s q ∷ xs) k rest h = end_joined xs (suc k) rest h
end_joined (Exit a ∷ xs) k rest h = end_joined xs k rest h
end_joined (Redo a ∷ xs) k rest h = end_joined xs k rest h
end_joined (Fail a ∷ xs) k rest h = end_joined xs k rest h
end_joined (Excp a ∷ xs) k rest h = end_joined xs k rest h
end_joined (Alloc a w ∷ xs) k rest h = end_joined xs k rest h
end_joined (Out bytes ∷ xs) k rest h = end_joined xs k rest h
end_joined (Throw bytes ∷ xs) k rest h = tt
end_joined (Answer d ∷ xs) k rest h = tt
end_joined (Stuck ∷ xs) k rest h = tt
end_joined (Deep ∷ xs) k rest h = tt

end_joined_rest : (xs : Items) (k : ℕ) (rest : ℕ → Items) → ((n : ℕ) → HasEnd (rest n)) → HasEnd (joined xs k rest)
end_joined_rest [] k rest h = h k
end_joined_rest (Turn a t w ∷ xs) k rest h = end_joined_rest xs k rest h
end_joined_rest (Call a p s q ∷ xs) k rest h = end_joined_rest xs (suc k) rest h
end_joined_rest (Exit a ∷ xs) k rest h = end_joined_rest xs k rest h
end_joined_rest (Redo a ∷ xs) k rest h = end_joined_rest xs k rest h
end_joined_rest (Fail a ∷ xs) k rest h = end_joined_rest xs k rest h
end_joined_rest (Excp a ∷ xs) k rest h = end_joined_rest xs k rest h
end_joined_rest (Alloc a w ∷ xs) k rest h = end_joined_rest xs k rest h
end_joined_rest (Out bytes ∷ xs) k rest h = end_joined_rest xs k rest h
end_joined_rest (Throw bytes ∷ xs) k rest h = tt
end_joined_rest (Answer d ∷ xs) k rest h = tt
end_joined_rest (Stuck ∷ xs) k rest h = tt
end_joined_rest (Deep ∷ xs) k rest h = tt

-- ---- the first answer

within_first : (inner : Env → Type 0) (xs : Items) (b : Bound) (k : ℕ) (found : Env → ℕ → Items) (missed : ℕ → Items) (thrown : Items) → Fine inner xs
    → ((e : Env) (n : ℕ) → inner e → IsWithin (found e n) b) → ((n : ℕ) → IsWithin (missed n) b) → IsWithin (first xs k found missed thrown) b
within_first inner [] b k found missed thrown h f g = g k
within_first inner (Turn a t w ∷ xs) b k found missed thrown h f g = within_first inner xs b k found missed thrown h f g
within_first inner (Call a p s q ∷ xs) b k found missed thrown h f g = within_first inner xs b (suc k) found missed thrown h f g
within_first inner (Exit a ∷ xs) b k found missed thrown h f g = within_first inner xs b k found missed thrown h f g
within_first inner (Redo a ∷ xs) b k found missed thrown h f g = within_first inner xs b k found missed thrown h f g
within_first inner (Fail a ∷ xs) b k found missed thrown h f g = within_first inner xs b k found missed thrown h f g
within_first inner (Excp a ∷ xs) b k found missed thrown h f g = within_first inner xs b k found missed thrown h f g
within_first inner (Alloc a w ∷ xs) b k found missed thrown h f g = within_first inner xs b k found missed thrown h f g
within_first inner (Out bytes ∷ xs) b k found missed thrown h f g = within_first inner xs b k found missed thrown h f g
within_first inner (Throw bytes ∷ xs) b k found missed thrown h f g = tt
within_first inner (Answer d ∷ xs) b k found missed thrown h f g = f d k h.0
within_first inner (Stuck ∷ xs) b k found missed thrown h f g = tt
within_first inner (Deep ∷ xs) b k found missed thrown h f g = tt

within_missed : (xs : Items) (b : Bound) (k : ℕ) (found : Env → ℕ → Items) (missed : ℕ → Items) (thrown : Items) → IsWithin xs Zero
    → ((n : ℕ) → IsWithin (missed n) b) → IsWithin (first xs k found missed thrown) b
within_missed [] b k found missed thrown h g = g k
within_missed (Turn a t w ∷ xs) b k found missed thrown h g = within_missed xs b k found missed thrown h g
within_missed (Call a p s q ∷ xs) b k found missed thrown h g = within_missed xs b (suc k) found missed thrown h g
within_missed (Exit a ∷ xs) b k found missed thrown h g = within_missed xs b k found missed thrown h g
within_missed (Redo a ∷ xs) b k found missed thrown h g = within_missed xs b k found missed thrown h g
within_missed (Fail a ∷ xs) b k found missed thrown h g = within_missed xs b k found missed thrown h g
within_missed (Excp a ∷ xs) b k found missed thrown h g = within_missed xs b k found missed thrown h g
within_missed (Alloc a w ∷ xs) b k found missed thrown h g = within_missed xs b k found missed thrown h g
within_missed (Out bytes ∷ xs) b k found missed thrown h g = within_missed xs b k found missed thrown h g
within_missed (Throw bytes ∷ xs) b k found missed thrown h g = tt
within_missed (Answer d ∷ xs) b k found missed thrown h g = elim h [ ]
within_missed (Stuck ∷ xs) b k found missed thrown h g = tt
within_missed (Deep ∷ xs) b k found missed thrown h g = tt

end_first : (inner : Env → Type 0) (xs : Items) (k : ℕ) (found : Env → ℕ → Items) (missed : ℕ → Items) (thrown : Items) → Fine inner xs
    → ((e : Env) (n : ℕ) → inner e → HasEnd (found e n)) → ((n : ℕ) → HasEnd (missed n)) → HasEnd (first xs k found missed thrown)
end_first inner [] k found missed thrown h f g = g k
end_first inner (Turn a t w ∷ xs) k found missed thrown h f g = end_first inner xs k found missed thrown h f g
end_first inner (Call a p s q ∷ xs) k found missed thrown h f g = end_first inner xs (suc k) found missed thrown h f g
end_first inner (Exit a ∷ xs) k found missed thrown h f g = end_first inner xs k found missed thrown h f g
end_first inner (Redo a ∷ xs) k found missed thrown h f g = end_first inner xs k found missed thrown h f g
end_first inner (Fail a ∷ xs) k found missed thrown h f g = end_first inner xs k found missed thrown h f g
end_first inner (Excp a ∷ xs) k found missed thrown h f g = end_first inner xs k found missed thrown h f g
end_first inner (Alloc a w ∷ xs) k found missed thrown h f g = end_first inner xs k found missed thrown h f g
end_first inner (Out bytes ∷ xs) k found missed thrown h f g = end_first inner xs k found missed thrown h f g
end_first inner (Throw bytes ∷ xs) k found missed thrown h f g = tt
end_first inner (Answer d ∷ xs) k found missed thrown h f g = f d k h.0
end_first inner (Stuck ∷ xs) k found missed thrown h f g = tt
end_first inner (Deep ∷ xs) k found missed thrown h f g = tt

pub end_found : (inner : Env → Type 0) (xs : Items) (k : ℕ) (found : Env → ℕ → Items) (missed : ℕ → Items) (thrown : Items) → Fine inner xs → HasEnd xs
    → ((e : Env) (n : ℕ) → inner e → HasEnd (found e n)) → HasEnd (first xs k found missed thrown)
end_found inner [] k found missed thrown h end f = elim end [ ]
end_found inner (Turn a t w ∷ xs) k found missed thrown h end f = end_found inner xs k found missed thrown h end f
end_found inner (Call a p s q ∷ xs) k found missed thrown h end f = end_found inner xs (suc k) found missed thrown h end f
end_found inner (Exit a ∷ xs) k found missed thrown h end f = end_found inner xs k found missed thrown h end f
end_found inner (Redo a ∷ xs) k found missed thrown h end f = end_found inner xs k found missed thrown h end f
end_found inner (Fail a ∷ xs) k found missed thrown h end f = end_found inner xs k found missed thrown h end f
end_found inner (Excp a ∷ xs) k found missed thrown h end f = end_found inner xs k found missed thrown h end f
end_found inner (Alloc a w ∷ xs) k found missed thrown h end f = end_found inner xs k found missed thrown h end f
end_found inner (Out bytes ∷ xs) k found missed thrown h end f = end_found inner xs k found missed thrown h end f
end_found inner (Throw bytes ∷ xs) k found missed thrown h end f = tt
end_found inner (Answer d ∷ xs) k found missed thrown h end f = f d k h.0
end_found inner (Stuck ∷ xs) k found missed thrown h end f = tt
end_found inner (Deep ∷ xs) k found missed thrown h end f = tt

-- ---- pairs

pub meets_as : (p q : Pair) (xs : Items) → p.may_fail ≡ q.may_fail → p.bound ≡ q.bound → Meets p xs → Meets q xs
meets_as p q xs f b h = record { within = subst (λ (c : Bound). IsWithin xs c) b h.within; there = λ e. h.there (f ∙ e) }

pub meets_more : (p q : Pair) (xs : Items) → exceeds p.bound q.bound ≡ false → (q.may_fail ≡ false → p.may_fail ≡ false) → Meets p xs → Meets q xs
meets_more p q xs b f h = record { within = within_more xs p.bound q.bound b h.within; there = λ e. h.there (f e) }

pub meets_nothing : (p : Pair) → p.may_fail ≡ true → Meets p []
meets_nothing p f = record { within = tt; there = λ e. absurd (true≢false (sym f ∙ e)) }

pub meets_allocated : (p : Pair) (a words : ℕ) (xs : Items) → Meets p xs → Meets p (allocated a words ++ xs)
meets_allocated p a zero xs h = h
meets_allocated p a (suc n) xs h = record { within = h.within; there = h.there }

pub meets_written : (p : Pair) (out : Option (List ℕ)) (xs : Items) → Meets p xs → Meets p (written out ++ xs)
meets_written p None xs h = h
meets_written p (Some bytes) xs h = record { within = h.within; there = h.there }

pub or_left : (a b : Bool) → (a || b) ≡ false → a ≡ false
or_left true b e = e
or_left false b e = refl

pub or_right : (a b : Bool) → (a || b) ≡ false → b ≡ false
or_right true b e = absurd (true≢false e)
or_right false b e = e

by_both : (P : Type 0) (a b : Bool) → (a && b) ≡ false → (a ≡ false → P) → (b ≡ false → P) → P
by_both P true b e f g = g e
by_both P false b e f g = f refl

pub meets_joined : (p q : Pair) (xs : Items) (k : ℕ) (rest : ℕ → Items) → Meets p xs → ((n : ℕ) → Meets q (rest n)) → Meets (alternatives p q) (joined xs k rest)
meets_joined p q xs k rest h g = record {
  within = within_joined xs p.bound q.bound k rest h.within (λ n. (g n).within);
  there = λ e. by_both (HasEnd (joined xs k rest)) p.may_fail q.may_fail e (λ f. end_joined xs k rest (h.there f)) (λ f. end_joined_rest xs k rest (λ n. (g n).there f));
}

sum_none : (b : Bound) → sum b Zero ≡ b
sum_none Zero = refl
sum_none One = refl
sum_none Many = refl

and_true : (b : Bool) → (b && true) ≡ b
and_true true = refl
and_true false = refl

-- what follows has no answer
pub meets_then : (p : Pair) (xs : Items) (k : ℕ) (rest : ℕ → Items) → Meets p xs → ((n : ℕ) → Meets (pair true Zero) (rest n)) → Meets p (joined xs k rest)
meets_then p xs k rest h g = meets_as (alternatives p (pair true Zero)) p (joined xs k rest) (and_true p.may_fail) (sum_none p.bound) (meets_joined p (pair true Zero) xs k rest h g)

pub greatest_left : (a b : Bound) → exceeds a (greatest a b) ≡ false
greatest_left Zero Zero = refl
greatest_left Zero One = refl
greatest_left Zero Many = refl
greatest_left One Zero = refl
greatest_left One One = refl
greatest_left One Many = refl
greatest_left Many b = refl

pub greatest_right : (a b : Bound) → exceeds b (greatest a b) ≡ false
greatest_right Zero Zero = refl
greatest_right Zero One = refl
greatest_right Zero Many = refl
greatest_right One Zero = refl
greatest_right One One = refl
greatest_right One Many = refl
greatest_right Many Zero = refl
greatest_right Many One = refl
greatest_right Many Many = refl

pub meets_left : (p q : Pair) (xs : Items) → Meets p xs → Meets (one_of_two p q) xs
meets_left p q xs h = meets_more p (one_of_two p q) xs (greatest_left p.bound q.bound) (or_left p.may_fail q.may_fail) h

pub meets_right : (p q : Pair) (xs : Items) → Meets q xs → Meets (one_of_two p q) xs
meets_right p q xs h = meets_more q (one_of_two p q) xs (greatest_right p.bound q.bound) (or_right p.may_fail q.may_fail) h

pub meets_first : (p : Pair) (inner : Env → Type 0) (xs : Items) (k : ℕ) (found : Env → ℕ → Items) (missed : ℕ → Items) (thrown : Items) → Fine inner xs
    → ((e : Env) (n : ℕ) → inner e → Meets p (found e n)) → ((n : ℕ) → Meets p (missed n)) → Meets p (first xs k found missed thrown)
meets_first p inner xs k found missed thrown h f g = record {
  within = within_first inner xs p.bound k found missed thrown h (λ e n i. (f e n i).within) (λ n. (g n).within);
  there = λ e. end_first inner xs k found missed thrown h (λ d n i. (f d n i).there e) (λ n. (g n).there e);
}

none_exceeds : (b : Bound) → exceeds Zero b ≡ false
none_exceeds Zero = refl
none_exceeds One = refl
none_exceeds Many = refl

cut_within : (p q : Pair) (b : Bound) (inner : Env → Type 0) (xs : Items) (k : ℕ) (found : Env → ℕ → Items) (missed : ℕ → Items) (thrown : Items) → Fine inner xs → IsWithin xs b
    → ((e : Env) (n : ℕ) → inner e → Meets q (found e n)) → ((n : ℕ) → IsWithin (missed n) Zero) → IsWithin (first xs k found missed thrown) (product (at_most_one b) q.bound)
cut_within p q Zero inner xs k found missed thrown h w f g = within_missed xs Zero k found missed thrown w g
cut_within p q One inner xs k found missed thrown h w f g = within_first inner xs q.bound k found missed thrown h (λ e n i. (f e n i).within) (λ n. within_more (missed n) Zero q.bound (none_exceeds q.bound) (g n))
cut_within p q Many inner xs k found missed thrown h w f g = within_first inner xs q.bound k found missed thrown h (λ e n i. (f e n i).within) (λ n. within_more (missed n) Zero q.bound (none_exceeds q.bound) (g n))

-- a trace that is cut at its first answer, and then what follows that
pub meets_cut : (p q : Pair) (inner : Env → Type 0) (xs : Items) (k : ℕ) (found : Env → ℕ → Items) (missed : ℕ → Items) (thrown : Items) → Fine inner xs → Meets p xs
    → ((e : Env) (n : ℕ) → inner e → Meets q (found e n)) → ((n : ℕ) → IsWithin (missed n) Zero) → Meets (in_turn (cut p) q) (first xs k found missed thrown)
meets_cut p q inner xs k found missed thrown h m f g = record {
  within = cut_within p q p.bound inner xs k found missed thrown h m.within f g;
  there = λ e. end_found inner xs k found missed thrown h (m.there (or_left p.may_fail q.may_fail e)) (λ d n i. (f d n i).there (or_right p.may_fail q.may_fail e));
}

-- ---- the algebra

product_assoc : (a b c : Bound) → product (product a b) c ≡ product a (product b c)
product_assoc Zero b c = refl
product_assoc One b c = refl
product_assoc Many Zero c = refl
product_assoc Many One Zero = refl
product_assoc Many One One = refl
product_assoc Many One Many = refl
product_assoc Many Many Zero = refl
product_assoc Many Many One = refl
product_assoc Many Many Many = refl

or_assoc : (a b c : Bool) → ((a || b) || c) ≡ (a || (b || c))
or_assoc true b c = refl
or_assoc false b c = refl

pub meets_assoc : (p q r : Pair) (xs : Items) → Meets (in_turn p (in_turn q r)) xs → Meets (in_turn (in_turn p q) r) xs
meets_assoc p q r xs h = meets_as (in_turn p (in_turn q r)) (in_turn (in_turn p q) r) xs (sym (or_assoc p.may_fail q.may_fail r.may_fail)) (sym (product_assoc p.bound q.bound r.bound)) h

product_one : (b : Bound) → product b One ≡ b
product_one Zero = refl
product_one One = refl
product_one Many = refl

or_false : (b : Bool) → (b || false) ≡ b
or_false true = refl
or_false false = refl

-- before one answer
pub meets_last : (p : Pair) (xs : Items) → Meets (in_turn p (pair false One)) xs → Meets p xs
meets_last p xs h = meets_as (in_turn p (pair false One)) p xs (or_false p.may_fail) (product_one p.bound) h

product_sum : (a b c : Bound) → product (sum a b) c ≡ sum (product a c) (product b c)
product_sum Zero Zero Zero = refl
product_sum Zero Zero One = refl
product_sum Zero Zero Many = refl
product_sum Zero One Zero = refl
product_sum Zero One One = refl
product_sum Zero One Many = refl
product_sum Zero Many Zero = refl
product_sum Zero Many One = refl
product_sum Zero Many Many = refl
product_sum One Zero Zero = refl
product_sum One Zero One = refl
product_sum One Zero Many = refl
product_sum One One Zero = refl
product_sum One One One = refl
product_sum One One Many = refl
product_sum One Many Zero = refl
product_sum One Many One = refl
product_sum One Many Many = refl
product_sum Many Zero Zero = refl
product_sum Many Zero One = refl
product_sum Many Zero Many = refl
product_sum Many One Zero = refl
product_sum Many One One = refl
product_sum Many One Many = refl
product_sum Many Many Zero = refl
product_sum Many Many One = refl
product_sum Many Many Many = refl

or_true : (b : Bool) → true ≡ (b || true)
or_true true = refl
or_true false = refl

or_and : (a b c : Bool) → ((a && b) || c) ≡ ((a || c) && (b || c))
or_and true b true = refl
or_and true b false = refl
or_and false b true = or_true b
or_and false b false = refl

pub meets_sum : (p q r : Pair) (xs : Items) → Meets (alternatives (in_turn p r) (in_turn q r)) xs → Meets (in_turn (alternatives p q) r) xs
meets_sum p q r xs h = meets_as (alternatives (in_turn p r) (in_turn q r)) (in_turn (alternatives p q) r) xs (sym (or_and p.may_fail q.may_fail r.may_fail)) (sym (product_sum p.bound q.bound r.bound)) h

product_greatest : (a b c : Bound) → product (greatest a b) c ≡ greatest (product a c) (product b c)
product_greatest Zero Zero Zero = refl
product_greatest Zero Zero One = refl
product_greatest Zero Zero Many = refl
product_greatest Zero One Zero = refl
product_greatest Zero One One = refl
product_greatest Zero One Many = refl
product_greatest Zero Many Zero = refl
product_greatest Zero Many One = refl
product_greatest Zero Many Many = refl
product_greatest One Zero Zero = refl
product_greatest One Zero One = refl
product_greatest One Zero Many = refl
product_greatest One One Zero = refl
product_greatest One One One = refl
product_greatest One One Many = refl
product_greatest One Many Zero = refl
product_greatest One Many One = refl
product_greatest One Many Many = refl
product_greatest Many Zero Zero = refl
product_greatest Many Zero One = refl
product_greatest Many Zero Many = refl
product_greatest Many One Zero = refl
product_greatest Many One One = refl
product_greatest Many One Many = refl
product_greatest Many Many Zero = refl
product_greatest Many Many One = refl
product_greatest Many Many Many = refl

or_or : (a b c : Bool) → ((a || b) || c) ≡ ((a || c) || (b || c))
or_or true b c = refl
or_or false true true = refl
or_or false true false = refl
or_or false false true = refl
or_or false false false = refl

pub meets_one : (p q r : Pair) (xs : Items) → Meets (one_of_two (in_turn p r) (in_turn q r)) xs → Meets (in_turn (one_of_two p q) r) xs
meets_one p q r xs h = meets_as (one_of_two (in_turn p r) (in_turn q r)) (in_turn (one_of_two p q) r) xs (sym (or_or p.may_fail q.may_fail r.may_fail)) (sym (product_greatest p.bound q.bound r.bound)) h

-- a bound that is no less leads to one that is no less
product_more : (a b c : Bound) → exceeds a b ≡ false → exceeds (product a c) (product b c) ≡ false
product_more Zero Zero Zero e = refl
product_more Zero Zero One e = refl
product_more Zero Zero Many e = refl
product_more Zero One Zero e = refl
product_more Zero One One e = refl
product_more Zero One Many e = refl
product_more Zero Many Zero e = refl
product_more Zero Many One e = refl
product_more Zero Many Many e = refl
product_more One Zero Zero e = absurd (true≢false e)
product_more One Zero One e = absurd (true≢false e)
product_more One Zero Many e = absurd (true≢false e)
product_more One One Zero e = refl
product_more One One One e = refl
product_more One One Many e = refl
product_more One Many Zero e = refl
product_more One Many One e = refl
product_more One Many Many e = refl
product_more Many Zero Zero e = absurd (true≢false e)
product_more Many Zero One e = absurd (true≢false e)
product_more Many Zero Many e = absurd (true≢false e)
product_more Many One Zero e = absurd (true≢false e)
product_more Many One One e = absurd (true≢false e)
product_more Many One Many e = absurd (true≢false e)
product_more Many Many Zero e = refl
product_more Many Many One e = refl
product_more Many Many Many e = refl

or_more : (a b c : Bool) → (b ≡ false → a ≡ false) → (b || c) ≡ false → (a || c) ≡ false
or_more a b c f e = rw (f (or_left b c e), or_right b c e) refl

-- a pair that says less, before the same
pub meets_declared : (p d q : Pair) (xs : Items) → exceeds p.bound d.bound ≡ false → (d.may_fail ≡ false → p.may_fail ≡ false) → Meets (in_turn p q) xs → Meets (in_turn d q) xs
meets_declared p d q xs b f h = meets_more (in_turn p q) (in_turn d q) xs (product_more p.bound d.bound q.bound b) (or_more p.may_fail d.may_fail q.may_fail f) h
