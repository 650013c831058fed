-- The words of a line have the form of a thing exactly where they are the thing's.
use Rattle.std.proofs.Common.{◌≡◌, ℕ, zero, suc, ◌<◌, ◌≤◌, ◌^◌, Bool, true, false, cond, List, [], ◌∷◌, ◌++◌, length, append_assoc, map, Option, None, Some, IfSome, refl, sym, ap, subst, ◌∙◌, arith}
use Rattle.std.specs.Fmt.{decimal}
use Rattle.std.specs.Option.{option_map, option_and_then}
use Rattle.std.specs.Str.{bytes_eq}
use Rattle.std.proofs.lemmas.Bool.{false_from_ne_true}
use Rattle.std.proofs.lemmas.List.{append-nil}
use Rattle.std.proofs.lemmas.Slice.Eq.{bytes_eq-Decides}
use Rattle.std.proofs.lemmas.Option.{same_Some}
use Rattle.md_base.specs.declared.measure.Counts.{Counts}
use Rattle.md_deepfile.specs.Bytes.{numbers_of}
use Rattle.md_deepfile.specs.Rules.{counts_of}
use Rattle.md_deepfile.proofs.Accepts.{AreWords}
use Rattle.md_deepfile.specs.Spells.{AreSmall}
use Rattle.md_dump.specs.Forms.{told, first_number, maybe_number, on, exactly, word, maybe, ended, numbers, first_counts, counts}
use Rattle.md_dump.specs.Numbers.{number_up_to}
use Rattle.md_dump.specs.Text.{Words, dash, or_dash}
use Rattle.md_dump.proofs.Decimal.{number_is, is_number}

-- what was told, and behind which words
record Told {A X : Type 0} (o : Option A) (next : A → Words → Option X) (ws : Words) (x : X) : Type 0 where
  pub thing : A
  pub is : o ≡ Some thing
  pub goes : next thing ws ≡ Some x

on_told : {A X : Type 0} (o : Option A) (next : A → Words → Option X) (ws : Words) (x : X) → on next (told ws o) ≡ Some x → Told o next ws x
on_told {A} {X} None next ws x e = absurd (cc e)
on_told {A} {X} (Some a) next ws x e = record { thing = a; is = refl; goes = e }

-- a word of 32 bits
pub below_word : (n : ℕ) → n ≤ 4294967295 → n < 2 ^ 32
below_word n below = omega arith

pub word_below : (n : ℕ) → n < 2 ^ 32 → n ≤ 4294967295
word_below n below = omega arith

some_number : (w : List ℕ) (o : Option ℕ) (m : Option ℕ) → number_up_to 4294967295 w ≡ m → option_map (λ n. Some n) m ≡ Some o → (w ≡ or_dash o) × IfSome o (λ n. n ≤ 4294967295)
some_number w None None is e = absurd (cc e)
some_number w (Some k) None is e = absurd (cc e)
some_number w None (Some n) is e = absurd (let f : Some n ≡ None = cc e in cc f)
some_number w (Some k) (Some n) is e =
    let same : n ≡ k = cc e in
    let t = number_is 4294967295 w n (omega arith) is in
    (t.0 ∙ ap decimal same, omega (arith, t.1, same))

maybe_is : (w : List ℕ) (o : Option ℕ) (b : Bool) → (b ≡ true → w ≡ dash) → cond b (Some None) (option_map (λ n. Some n) (number_up_to 4294967295 w)) ≡ Some o → (w ≡ or_dash o) × IfSome o (λ n. n ≤ 4294967295)
maybe_is w None true is e = (is refl, tt)
maybe_is w (Some n) true is e = absurd (let f : None ≡ Some n = cc e in cc f)
maybe_is w o false is e = some_number w o (number_up_to 4294967295 w) refl e

-- a number begins with a digit, and so is no dash
other_word : (n : ℕ) (w : List ℕ) → number_up_to 4294967295 w ≡ Some n → w ≡ dash → ⊥
other_word n w is same =
    let none : number_up_to 4294967295 dash ≡ None = refl in
    let some = ap (number_up_to 4294967295) (sym same) ∙ is in
    let f : Some n ≡ None = sym some ∙ none in
    absurd (cc f)

no_dash : (n : ℕ) → n ≤ 4294967295 → bytes_eq (decimal n) dash ≡ false
no_dash n below = false_from_ne_true (bytes_eq (decimal n) dash) (λ same. other_word n (decimal n) (is_number 4294967295 n (omega arith) below) ((bytes_eq-Decides (decimal n) dash).0 same))

module _ {X : Type 0} where
  -- a number
  pub record NumberTold (most : ℕ) (next : ℕ → Words → Option X) (ws : Words) (x : X) : Type 0 where
    pub n : ℕ
    pub rest : Words
    pub are : ws ≡ decimal n ∷ rest
    pub below : n ≤ most
    pub goes : next n rest ≡ Some x

  pub number_told : (most : ℕ) (next : ℕ → Words → Option X) (ws : Words) (x : X) → most < 2 ^ 64 → on next (first_number most ws) ≡ Some x → NumberTold most next ws x
  number_told most next [] x small e = absurd (cc e)
  number_told most next (w ∷ ws) x small e =
      let t = on_told (number_up_to most w) next ws x e in
      let is = number_is most w t.thing small t.is in
      record { n = t.thing; rest = ws; are = ap (λ (v : List ℕ). v ∷ ws) is.0; below = is.1; goes = t.goes }

  pub number_again : (most n : ℕ) (next : ℕ → Words → Option X) (rest : Words) (x : X) → most < 2 ^ 64 → n ≤ most → next n rest ≡ Some x → on next (first_number most (decimal n ∷ rest)) ≡ Some x
  number_again most n next rest x small below goes = ap (λ (o : Option ℕ). on next (told rest o)) (is_number most n small below) ∙ goes

  -- any word
  pub record WordTold (next : List ℕ → Words → Option X) (ws : Words) (x : X) : Type 0 where
    pub w : List ℕ
    pub rest : Words
    pub are : ws ≡ w ∷ rest
    pub goes : next w rest ≡ Some x

  pub word_told : (next : List ℕ → Words → Option X) (ws : Words) (x : X) → word next ws ≡ Some x → WordTold next ws x
  word_told next [] x e = absurd (cc e)
  word_told next (w ∷ ws) x e = record { w = w; rest = ws; are = refl; goes = e }

  -- no more words
  pub ended_told : (y : X) (ws : Words) (x : X) → ended y ws ≡ Some x → (ws ≡ []) × (y ≡ x)
  ended_told y [] x e = (refl, cc e)
  ended_told y (w ∷ ws) x e = absurd (cc e)

  -- this very word
  pub record WordIs (name : List ℕ) (next : Words → Option X) (ws : Words) (x : X) : Type 0 where
    pub rest : Words
    pub are : ws ≡ name ∷ rest
    pub goes : next rest ≡ Some x

  same_word : (b : Bool) (next : Words → Option X) (ws : Words) (x : X) → option_and_then next (cond b (Some ws) None) ≡ Some x → (b ≡ true) × (next ws ≡ Some x)
  same_word true next ws x e = (refl, e)
  same_word false next ws x e = absurd (cc e)

  pub exactly_told : (name : List ℕ) (next : Words → Option X) (ws : Words) (x : X) → exactly name next ws ≡ Some x → WordIs name next ws x
  exactly_told name next [] x e = absurd (cc e)
  exactly_told name next (w ∷ ws) x e =
      let t = same_word (bytes_eq w name) next ws x e in
      record { rest = ws; are = ap (λ (v : List ℕ). v ∷ ws) ((bytes_eq-Decides w name).0 t.0); goes = t.1 }

  pub exactly_again : (name : List ℕ) (next : Words → Option X) (rest : Words) (x : X) → next rest ≡ Some x → exactly name next (name ∷ rest) ≡ Some x
  exactly_again name next rest x goes = ap (λ (b : Bool). option_and_then next (cond b (Some rest) None)) ((bytes_eq-Decides name name).1 refl) ∙ goes

  -- a number or none
  pub record MaybeTold (next : Option ℕ → Words → Option X) (ws : Words) (x : X) : Type 0 where
    pub o : Option ℕ
    pub rest : Words
    pub are : ws ≡ or_dash o ∷ rest
    pub below : IfSome o (λ n. n ≤ 4294967295)
    pub goes : next o rest ≡ Some x

  pub maybe_told : (next : Option ℕ → Words → Option X) (ws : Words) (x : X) → maybe next ws ≡ Some x → MaybeTold next ws x
  maybe_told next [] x e = absurd (cc e)
  maybe_told next (w ∷ ws) x e =
      let t = on_told (maybe_number w) next ws x e in
      let is = maybe_is w t.thing (bytes_eq w dash) ((bytes_eq-Decides w dash).0) t.is in
      record { o = t.thing; rest = ws; are = ap (λ (v : List ℕ). v ∷ ws) is.0; below = is.1; goes = t.goes }

  pub maybe_again : (o : Option ℕ) (next : Option ℕ → Words → Option X) (rest : Words) (x : X) → IfSome o (λ n. n ≤ 4294967295) → next o rest ≡ Some x → maybe next (or_dash o ∷ rest) ≡ Some x
  maybe_again None next rest x below goes = goes
  maybe_again (Some n) next rest x below goes =
      ap (λ (b : Bool). on next (told rest (cond b (Some None) (option_map (λ k. Some k) (number_up_to 4294967295 (decimal n)))))) (no_dash n below)
      ∙ ap (λ (m : Option ℕ). on next (told rest (option_map (λ k. Some k) m))) (is_number 4294967295 n (omega arith) below)
      ∙ goes

-- numbers, one after the other
record NumbersTold {X : Type 0} (n : ℕ) (front : List ℕ) (next : List ℕ → Words → Option X) (ws : Words) (x : X) : Type 0 where
  pub ns : List ℕ
  pub rest : Words
  pub size : length ns ≡ n
  pub below : AreWords ns
  pub are : ws ≡ map decimal ns ++ rest
  pub goes : next (front ++ ns) rest ≡ Some x

numbers_told : {X : Type 0} (n : ℕ) (front : List ℕ) (next : List ℕ → Words → Option X) (ws : Words) (x : X) → numbers n front next ws ≡ Some x → NumbersTold n front next ws x
numbers_told {X} zero front next ws x e = record { ns = []; rest = ws; size = refl; below = tt; are = refl; goes = ap (λ (ns : List ℕ). next ns ws) (append-nil front) ∙ e }
numbers_told {X} (suc n) front next ws x e =
    let one = number_told 4294967295 (λ m. numbers n (front ++ m ∷ []) next) ws x (omega arith) e in
    let t = numbers_told n (front ++ one.n ∷ []) next one.rest x one.goes in
    record {
      ns = one.n ∷ t.ns;
      rest = t.rest;
      size = ap (λ (k : ℕ). suc k) t.size;
      below = (below_word one.n one.below, t.below);
      are = one.are ∙ ap (λ (vs : Words). decimal one.n ∷ vs) t.are;
      goes = ap (λ (ns : List ℕ). next ns t.rest) (sym (append_assoc front (one.n ∷ []) t.ns)) ∙ t.goes;
    }

numbers_again : {X : Type 0} (ns front : List ℕ) (next : List ℕ → Words → Option X) (rest : Words) (x : X) → AreWords ns → next (front ++ ns) rest ≡ Some x → numbers (length ns) front next (map decimal ns ++ rest) ≡ Some x
numbers_again {X} [] front next rest x below goes = ap (λ (ns : List ℕ). next ns rest) (sym (append-nil front)) ∙ goes
numbers_again {X} (n ∷ ns) front next rest x below goes =
    number_again 4294967295 n (λ m. numbers (length ns) (front ++ m ∷ []) next) (map decimal ns ++ rest) x (omega arith) (word_below n below.0)
    (numbers_again ns (front ++ n ∷ []) next rest x below.1 (ap (λ (ks : List ℕ). next ks rest) (append_assoc front (n ∷ []) ns) ∙ goes))

-- seven counts
record Seven (ns : List ℕ) : Type 0 where
  pub back : numbers_of (counts_of ns) ≡ ns
  pub small : AreSmall (counts_of ns)

seven : (ns : List ℕ) → length ns ≡ 7 → AreWords ns → Seven ns
seven [] size below = absurd (omega (arith, size))
seven (a ∷ []) size below = absurd (omega (arith, size))
seven (a ∷ b ∷ []) size below = absurd (omega (arith, size))
seven (a ∷ b ∷ c ∷ []) size below = absurd (omega (arith, size))
seven (a ∷ b ∷ c ∷ d ∷ []) size below = absurd (omega (arith, size))
seven (a ∷ b ∷ c ∷ d ∷ e ∷ []) size below = absurd (omega (arith, size))
seven (a ∷ b ∷ c ∷ d ∷ e ∷ f ∷ []) size below = absurd (omega (arith, size))
seven (a ∷ b ∷ c ∷ d ∷ e ∷ f ∷ g ∷ []) size below = record {
  back = refl;
  small = record { calls = below.0; exits = below.1.0; fails = below.1.1.0; redos = below.1.1.1.0; allocs = below.1.1.1.1.0; words = below.1.1.1.1.1.0; excps = below.1.1.1.1.1.1.0 };
}
seven (a ∷ b ∷ c ∷ d ∷ e ∷ f ∷ g ∷ h ∷ ns) size below = absurd (omega (arith, size))

record CountsTold (ws : Words) (own : Counts) (rest : Words) : Type 0 where
  pub are : ws ≡ map decimal (numbers_of own) ++ rest
  pub small : AreSmall own

first_told : (ws : Words) (t : Counts × Words) → first_counts ws ≡ Some t → CountsTold ws t.0 t.1
first_told ws t e =
    let n = numbers_told 7 [] (λ ns rest. Some (counts_of ns, rest)) ws t e in
    let s = seven n.ns n.size n.below in
    subst (λ (u : Counts × Words). CountsTold ws u.0 u.1) (same_Some (counts_of n.ns, n.rest) t n.goes)
    (record { are = n.are ∙ ap (λ (ns : List ℕ). map decimal ns ++ n.rest) (sym s.back); small = s.small })

pub record OwnTold {X : Type 0} (next : Counts → Words → Option X) (ws : Words) (x : X) : Type 0 where
  pub own : Counts
  pub rest : Words
  pub are : ws ≡ map decimal (numbers_of own) ++ rest
  pub small : AreSmall own
  pub goes : next own rest ≡ Some x

counts_from : {X : Type 0} (o : Option (Counts × Words)) (next : Counts → Words → Option X) (ws : Words) (x : X) → first_counts ws ≡ o → on next o ≡ Some x → OwnTold next ws x
counts_from {X} None next ws x is e = absurd (cc e)
counts_from {X} (Some t) next ws x is e = let c = first_told ws t is in record { own = t.0; rest = t.1; are = c.are; small = c.small; goes = e }

pub counts_told : {X : Type 0} (next : Counts → Words → Option X) (ws : Words) (x : X) → counts next ws ≡ Some x → OwnTold next ws x
counts_told {X} next ws x e = counts_from (first_counts ws) next ws x refl e

counts_read : (own : Counts) (rest : Words) → AreSmall own → first_counts (map decimal (numbers_of own) ++ rest) ≡ Some (own, rest)
counts_read own rest small =
    numbers_again (numbers_of own) [] (λ ns ws. Some (counts_of ns, ws)) rest (own, rest)
    (small.calls, (small.exits, (small.fails, (small.redos, (small.allocs, (small.words, (small.excps, tt))))))) refl

pub counts_again : {X : Type 0} (own : Counts) (next : Counts → Words → Option X) (rest : Words) (x : X) → AreSmall own → next own rest ≡ Some x → counts next (map decimal (numbers_of own) ++ rest) ≡ Some x
counts_again {X} own next rest x small goes = ap (on next) (counts_read own rest small) ∙ goes
