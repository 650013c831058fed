-- Strings that are read as themselves.
use Rattle.std.proofs.Common.{◌≡◌, ℕ, zero, suc, ◌+◌, ◌-◌, ◌≤◌, Bool, true, false, cond, ◌==◌, ◌⊎◌, inl, inr, Some, List, [], ◌∷◌, ◌++◌, length, take, refl, ap, sym, ◌∙◌, subst, append_assoc, arith}
use Rattle.std.proofs.Math.Seq.{take-append_seam}
use Rattle.std.proofs.lemmas.List.{length-append}
use Rattle.md_token.specs.declared.kind.Kind.TheVariants as kind
use Rattle.md_token.specs.declared.string.Within.{Within}
use Rattle.md_token.specs.declared.string.Within.TheVariants as within
use Rattle.md_token.specs.Literal.{meaning, value_from, inside, string_value}
use Rattle.md_token.specs.Token.{prefix_at, prefix_of_token, token_at, string_at, string_end, past, is_escape, is_plain}
pub use Rattle.md_token.specs.Spelling.{Writes}
use Rattle.md_token.proofs.Spelled.{Reads}

pub value_written : (v w : List ℕ) → Writes v w → value_from false w ≡ v
value_written _ _ Writes.none = refl
value_written _ _ (Writes.plain b v w p q e r) = rw (e, value_written v w r) refl
value_written _ _ (Writes.escape c v w p r) = ap (λ (xs : List ℕ). meaning c ∷ xs) (value_written v w r)

past_plain : (b : ℕ) → is_plain b ≡ true → (b == 34) ≡ false → (b == 92) ≡ false → past false b ≡ within.Whole
unfolding past
past_plain b p q e = rw (q, e, p) refl

past_escape : (c : ℕ) → is_escape c ≡ true → past true c ≡ within.Whole
unfolding past
past_escape c p = rw p refl

ends_written : (v w : List ℕ) → Writes v w → (k : ℕ) (rest : List ℕ) → string_end within.Whole k (w ++ 34 ∷ rest) ≡ Some (k + suc (length w))
unfolding past
ends_written _ _ Writes.none k rest = ap Some (omega arith)
ends_written _ _ (Writes.plain b v w p q e r) k rest = ap (λ (x : Within). string_end x (suc k) (w ++ 34 ∷ rest)) (past_plain b p q e) ∙ ends_written v w r (suc k) rest ∙ ap Some (omega arith)
ends_written _ _ (Writes.escape c v w p r) k rest = ap (λ (x : Within). string_end x (suc (suc k)) (w ++ 34 ∷ rest)) (past_escape c p) ∙ ends_written v w r (suc (suc k)) rest ∙ ap Some (omega arith)

at_quote : (bytes : List ℕ) → prefix_at 34 bytes ≡ prefix_of_token (string_at bytes)
unfolding prefix_at token_at
at_quote bytes = refl

pub string_written : (v w rest : List ℕ) → Writes v w → string_at (w ++ 34 ∷ rest) ≡ Some (kind.Text, suc (length w))
unfolding string_at
string_written v w rest r = rw (ends_written v w r 0 rest) (ap (λ (n : ℕ). Some (kind.Text, n)) (omega arith))

pub reads_text : (v w : List ℕ) → Writes v w → Reads kind.Text (34 ∷ (w ++ 34 ∷ []))
reads_text v w r = record {
  head = 34;
  tail = w ++ 34 ∷ [];
  whole = refl;
  prefix = λ rest.
      let e : length (w ++ 34 ∷ []) ≡ suc (length w) = length-append w (34 ∷ []) ∙ omega arith in
      at_quote ((w ++ 34 ∷ []) ++ 32 ∷ rest) ∙ rw (append_assoc w (34 ∷ []) (32 ∷ rest), string_written v w (32 ∷ rest) r, e) refl;
}

pub value_of_text : (v w : List ℕ) → Writes v w → string_value (34 ∷ (w ++ 34 ∷ [])) ≡ v
unfolding string_value
value_of_text v w r =
    let e : suc (length (w ++ 34 ∷ [])) - 2 ≡ length w = let f : length (w ++ 34 ∷ []) ≡ length w + 1 = length-append w (34 ∷ []) in omega arith in
    rw (e, take-append_seam w (34 ∷ [])) (value_written v w r)

-- ---- the strings of a text

chose : {X : Type 0} (b : Bool) (x y z : X) → cond b x y ≡ z → ((b ≡ true) × (x ≡ z)) ⊎ ((b ≡ false) × (y ≡ z))
chose true x y z h = inl (refl, h)
chose false x y z h = inr (refl, h)

whole_past : (b : ℕ) → past false b ≡ within.Whole → (is_plain b ≡ true) × ((b == 34) ≡ false) × ((b == 92) ≡ false)
unfolding past
whole_past b h =
    elim (chose (b == 34) _ _ _ h) [
      | inl s ↦ absurd (let e = s.1 in cc)
      | inr s ↦ elim (chose (b == 92) _ _ _ s.1) [
        | inl q ↦ absurd (let e = q.1 in cc)
        | inr q ↦ elim (chose (is_plain b) _ _ _ q.1) [
          | inl p ↦ (p.0, s.0, q.0)
          | inr p ↦ absurd (let e = p.1 in cc)
        ]
      ]
    ]

escaping_past : (b : ℕ) → past false b ≡ within.Escaping → (b == 92) ≡ true
unfolding past
escaping_past b h =
    elim (chose (b == 34) _ _ _ h) [
      | inl s ↦ absurd (let e = s.1 in cc)
      | inr s ↦ elim (chose (b == 92) _ _ _ s.1) [
        | inl q ↦ q.0
        | inr q ↦ elim (chose (is_plain b) _ _ _ q.1) [
          | inl p ↦ absurd (let e = p.1 in cc)
          | inr p ↦ absurd (let e = p.1 in cc)
        ]
      ]
    ]

escaped_past : (c : ℕ) (w : Within) → past true c ≡ w → ((is_escape c ≡ true) × (within.Whole ≡ w)) ⊎ (within.Broken ≡ w)
unfolding past
escaped_past c w h =
    elim (chose (is_escape c) _ _ _ h) [
      | inl s ↦ inl s
      | inr s ↦ inr s.1
    ]

-- a string that ends is written so, up to its closing quote
pub record Written (bytes : List ℕ) (k m : ℕ) : Type 0 where
  pub size : ℕ
  pub here : m ≡ k + suc size
  pub value : List ℕ
  pub writes : Writes value (take size bytes)
  pub fits : suc size ≤ length bytes
  pub closed : take (suc size) bytes ≡ take size bytes ++ 34 ∷ []

abbrev pub Ends : List ℕ → Type 0
Ends bytes = (k m : ℕ) → string_end within.Whole k bytes ≡ Some m → Written bytes k m

closed_past : (b : ℕ) → past false b ≡ within.Closed → b ≡ 34
unfolding past
closed_past b h =
    elim (chose (b == 34) _ _ _ h) [
      | inl s ↦ let q = s.0 in grind arith
      | inr s ↦ elim (chose (b == 92) _ _ _ s.1) [
        | inl q ↦ absurd (let e = q.1 in cc)
        | inr q ↦ elim (chose (is_plain b) _ _ _ q.1) [
          | inl p ↦ absurd (let e = p.1 in cc)
          | inr p ↦ absurd (let e = p.1 in cc)
        ]
      ]
    ]

closes : (b : ℕ) (bytes : List ℕ) (k m : ℕ) → past false b ≡ within.Closed → Some (suc k) ≡ Some m → Written (b ∷ bytes) k m
closes b bytes k m p h = record { size = 0; here = let e : suc k ≡ m = cc in omega arith; value = []; writes = Writes.none; fits = omega arith; closed = ap (λ (x : ℕ). x ∷ []) (closed_past b p) }

past_one : (b : ℕ) (bytes : List ℕ) (k m : ℕ) → past false b ≡ within.Whole → Written bytes (suc k) m → Written (b ∷ bytes) k m
past_one b bytes k m e r =
    let p = whole_past b e in
    record {
      size = suc r.size;
      here = let h : m ≡ suc k + suc r.size = r.here in omega arith;
      value = b ∷ r.value;
      writes = Writes.plain b r.value (take r.size bytes) p.0 p.1 p.2 r.writes;
      fits = let h : suc r.size ≤ length bytes = r.fits in omega arith;
      closed = ap (λ (w : List ℕ). b ∷ w) r.closed;
    }

past_two : (b c : ℕ) (bytes : List ℕ) (k m : ℕ) → (b == 92) ≡ true → is_escape c ≡ true → Written bytes (suc (suc k)) m → Written (b ∷ c ∷ bytes) k m
past_two b c bytes k m e p r =
    let is : b ≡ 92 = grind arith in
    record {
      size = suc (suc r.size);
      here = let h : m ≡ suc (suc k) + suc r.size = r.here in omega arith;
      value = meaning c ∷ r.value;
      writes = subst (λ (x : ℕ). Writes (meaning c ∷ r.value) (x ∷ c ∷ take r.size bytes)) (sym is) (Writes.escape c r.value (take r.size bytes) p r.writes);
      fits = let h : suc r.size ≤ length bytes = r.fits in omega arith;
      closed = ap (λ (w : List ℕ). b ∷ c ∷ w) r.closed;
    }

after_escape : (w : Within) (b c : ℕ) (bytes : List ℕ) (k m : ℕ) → (b == 92) ≡ true → past true c ≡ w → string_end w (suc (suc k)) bytes ≡ Some m → Ends bytes → Written (b ∷ c ∷ bytes) k m
after_escape within.Whole b c bytes k m e p h later =
    elim (escaped_past c within.Whole p) [
      | inl s ↦ past_two b c bytes k m e s.0 (later (suc (suc k)) m h)
      | inr s ↦ absurd (cc)
    ]
after_escape within.Broken b c bytes k m e p h later = absurd (cc)
after_escape within.Closed b c bytes k m e p h later = absurd (elim (escaped_past c within.Closed p) [ inl s ↦ (let q = s.1 in cc) | inr s ↦ cc ])
after_escape within.Escaping b c bytes k m e p h later = absurd (elim (escaped_past c within.Escaping p) [ inl s ↦ (let q = s.1 in cc) | inr s ↦ cc ])

after_first : (w : Within) (b c : ℕ) (bytes : List ℕ) (k m : ℕ) → past false b ≡ w → string_end w (suc k) (c ∷ bytes) ≡ Some m → Ends (c ∷ bytes) → Ends bytes → Written (b ∷ c ∷ bytes) k m
after_first within.Closed b c bytes k m p h next later = closes b (c ∷ bytes) k m p h
after_first within.Broken b c bytes k m p h next later = absurd (cc)
after_first within.Whole b c bytes k m p h next later = past_one b (c ∷ bytes) k m p (next (suc k) m h)
after_first within.Escaping b c bytes k m p h next later = after_escape (past true c) b c bytes k m (escaping_past b p) refl h later

after_only : (w : Within) (b : ℕ) (k m : ℕ) → past false b ≡ w → string_end w (suc k) [] ≡ Some m → Written (b ∷ []) k m
after_only within.Closed b k m p h = closes b [] k m p h
after_only within.Broken b k m p h = absurd (cc)
after_only within.Whole b k m p h = absurd (cc)
after_only within.Escaping b k m p h = absurd (cc)

pub written : (bytes : List ℕ) → Ends bytes
written [] k m h = absurd (cc)
written (b ∷ []) k m h = after_only (past false b) b k m refl h
written (b ∷ c ∷ bytes) k m h = after_first (past false b) b c bytes k m refl h (written (c ∷ bytes)) (written bytes)

take_take : (n : ℕ) (xs : List ℕ) → take n (take (suc n) xs) ≡ take n xs
take_take zero xs = refl
take_take (suc n) [] = refl
take_take (suc n) (x ∷ xs) = ap (λ (ys : List ℕ). x ∷ ys) (take_take n xs)

pub length_take : (n : ℕ) (xs : List ℕ) → n ≤ length xs → length (take n xs) ≡ n
length_take zero xs h = refl
length_take (suc n) [] h = absurd (omega arith)
length_take (suc n) (x ∷ xs) h = ap suc (length_take n xs (omega arith))

pub inside_written : (b n : ℕ) (bytes : List ℕ) → suc n ≤ length bytes → inside (b ∷ take (suc n) bytes) ≡ take n bytes
inside_written b n bytes h =
    let e : suc (length (take (suc n) bytes)) - 2 ≡ n = let f : length (take (suc n) bytes) ≡ suc n = length_take (suc n) bytes h in omega arith in
    rw e (take_take n bytes)
