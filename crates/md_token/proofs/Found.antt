-- What the scanner finds at the head of a text is a token.
use Rattle.std.specs.Prelude.{slice_index, codes}
use Rattle.std.proofs.Common.{◌≡◌, ◌≢◌, ℕ, suc, ◌+◌, ◌<◌, ◌≤◌, Bool, true, false, cond, ◌&&◌, ◌||◌, ◌==◌, Option, Some, None, option_map, List, [], ◌∷◌, ◌++◌, length, take, drop, refl, sym, ap, ◌∙◌, subst, arith}
use Rattle.std.proofs.Math.Seq.{take-append-add}
use Rattle.std.proofs.lemmas.List.{take-append-drop, length-append}
use Rattle.std.proofs.lemmas.List.Folds.{length-prefix_len}
use Rattle.std.specs.List.{prefix_len}
use Rattle.std.specs.Char.{is_ascii_digit, is_ascii_uppercase, is_ascii_lowercase}
use Rattle.md_token.specs.declared.kind.Kind.{Kind}
use Rattle.md_token.specs.declared.kind.Kind.TheVariants as kind
use Rattle.md_token.specs.declared.string.Within.TheVariants as within
use Rattle.md_token.specs.Token.{token_at, name_at, variable_at, string_at, string_end, sign_at, single_at, colon_at, dash_at, ends, qualifies, is_word_byte}
use Rattle.md_token.specs.Spelling.{AllPass, IsSign, IsToken}
use Rattle.md_token.proofs.SpelledWords.{lower_is_word, drop_one_more, taken_pass}
use Rattle.md_token.proofs.SpelledTexts.{written}
use Rattle.md_token.proofs.SpelledTokens.{both}

-- a token of a text, which has all of its bytes
pub record Piece (b : ℕ) (bytes : List ℕ) (k : Kind) (n : ℕ) : Type 0 where
  pub within : n ≤ length bytes
  pub token : IsToken (drop n bytes) k (b ∷ take n bytes)

pub data IsFound (b : ℕ) (bytes : List ℕ) : Option (Kind × ℕ) → Type 0 where
  nothing : IsFound b bytes None
  piece : (k : Kind) (n : ℕ) → Piece b bytes k n → IsFound b bytes (Some (k, n))

prefix_by : (m n : ℕ) (t : Bool) → m ≤ n → cond t (1 + m) 0 ≤ suc n
prefix_by m n true h = omega arith
prefix_by m n false h = omega arith

prefix_within : (p : ℕ → Bool) (bytes : List ℕ) → prefix_len p bytes ≤ length bytes
prefix_within p [] = omega arith
prefix_within p (b ∷ bytes) = prefix_by (prefix_len p bytes) (length bytes) (p b) (prefix_within p bytes)

-- ---- names

qualified_parts : (b c : ℕ) (v rest : List ℕ) → is_ascii_lowercase b ≡ true → is_ascii_lowercase c ≡ true → AllPass is_word_byte v
    → Piece b (v ++ 46 ∷ c ∷ rest) kind.Qualified (length v + 1 + prefix_len is_word_byte (drop (length v + 1) (v ++ 46 ∷ c ∷ rest)))
qualified_parts b c v rest h g a =
    let p = prefix_len is_word_byte rest in
    let w : List ℕ = take p rest in
    let n : prefix_len is_word_byte (drop (length v + 1) (v ++ 46 ∷ c ∷ rest)) ≡ suc p = rw (drop_one_more v (c ∷ rest) 46) (rw (lower_is_word c g) (omega arith)) in
    let m : length v + 1 + suc p ≡ length v + suc (suc p) = omega arith in
    let e : take (length v + suc (suc p)) (v ++ 46 ∷ c ∷ rest) ≡ v ++ 46 ∷ c ∷ w = take-append-add v (46 ∷ c ∷ rest) (suc (suc p)) in
    let l : length (v ++ 46 ∷ c ∷ rest) ≡ length v + suc (suc (length rest)) = length-append v (46 ∷ c ∷ rest) in
    let few : p ≤ length rest = prefix_within is_word_byte rest in
    rw (n, m) (record {
      within = omega arith;
      token = subst (λ (t : List ℕ). IsToken (drop (length v + suc (suc p)) (v ++ 46 ∷ c ∷ rest)) kind.Qualified (b ∷ t)) (sym e) (IsToken.qualified b c v w h a g (taken_pass is_word_byte rest));
    })

qualified_from : (b : ℕ) (v u : List ℕ) → is_ascii_lowercase b ≡ true → AllPass is_word_byte v → qualifies u ≡ true
    → Piece b (v ++ u) kind.Qualified (length v + 1 + prefix_len is_word_byte (drop (length v + 1) (v ++ u)))
qualified_from b v [] h a q = absurd (cc)
qualified_from b v (x ∷ []) h a q = absurd (let e : is_ascii_lowercase 0 ≡ true = grind arith in cc)
qualified_from b v (x ∷ c ∷ rest) h a q =
    let dot : x ≡ 46 = grind arith in
    let low : is_ascii_lowercase c ≡ true = grind arith in
    subst (λ (x : ℕ). Piece b (v ++ x ∷ c ∷ rest) kind.Qualified (length v + 1 + prefix_len is_word_byte (drop (length v + 1) (v ++ x ∷ c ∷ rest)))) (sym dot) (qualified_parts b c v rest h low a)

qualified_piece : (b : ℕ) (bytes : List ℕ) → is_ascii_lowercase b ≡ true → qualifies (drop (prefix_len is_word_byte bytes) bytes) ≡ true
    → Piece b bytes kind.Qualified (prefix_len is_word_byte bytes + 1 + prefix_len is_word_byte (drop (prefix_len is_word_byte bytes + 1) bytes))
qualified_piece b bytes h q =
    let n = prefix_len is_word_byte bytes in
    let l : length (take n bytes) ≡ n = length-prefix_len is_word_byte bytes in
    let r = qualified_from b (take n bytes) (drop n bytes) h (taken_pass is_word_byte bytes) q in
    subst (λ (m : ℕ). Piece b bytes kind.Qualified (m + 1 + prefix_len is_word_byte (drop (m + 1) bytes))) l
    (subst (λ (t : List ℕ). Piece b t kind.Qualified (length (take n bytes) + 1 + prefix_len is_word_byte (drop (length (take n bytes) + 1) t))) (take-append-drop n bytes) r)

-- a pair of which each is the other's
record PieceAt (b : ℕ) (bytes : List ℕ) (p : Kind × ℕ) : Type 0 where
  is : Piece b bytes p.0 p.1

name_piece : (b : ℕ) (bytes : List ℕ) → is_ascii_lowercase b ≡ true → PieceAt b bytes (name_at b bytes)
unfolding name_at
name_piece b bytes h =
    both (PieceAt b bytes) (qualifies (drop (prefix_len is_word_byte bytes) bytes)) _ _
    (λ q. record { is = qualified_piece b bytes h q })
    (λ q. record { is = record { within = prefix_within is_word_byte bytes; token = IsToken.name b (take (prefix_len is_word_byte bytes) bytes) h (taken_pass is_word_byte bytes) } })

-- ---- variables and strings

more_than_one : (b : ℕ) (w : List ℕ) (n : ℕ) → length w ≡ n → (b == 95 && n == 0) ≡ false → b ∷ w ≢ codes "_"
more_than_one b w n l e h = let s : b ≡ 95 = cc in let t : w ≡ [] = cc in let z : n ≡ 0 = sym l ∙ ap length t in let f : (b == 95 && n == 0) ≡ true = rw (s, z) refl in cc

variable_piece : (b : ℕ) (bytes : List ℕ) → (is_ascii_uppercase b || b == 95) ≡ true → IsFound b bytes (variable_at b bytes)
unfolding variable_at
variable_piece b bytes h =
    let n = prefix_len is_word_byte bytes in
    both (IsFound b bytes) (b == 95 && n == 0) _ _ (λ _. IsFound.nothing)
    (λ e. IsFound.piece kind.Variable n (record { within = prefix_within is_word_byte bytes; token = IsToken.variable b (take n bytes) h (taken_pass is_word_byte bytes) (more_than_one b (take n bytes) n (length-prefix_len is_word_byte bytes) e) }))

string_by : (b : ℕ) (bytes : List ℕ) (o : Option ℕ) → (b == 34) ≡ true → string_end within.Whole 0 bytes ≡ o → IsFound b bytes (option_map (λ n. (kind.Text, n)) o)
string_by b bytes None q h = IsFound.nothing
string_by b bytes (Some n) q h =
    let r = written bytes 0 n h in
    let is : n ≡ suc r.size = let e : n ≡ 0 + suc r.size = r.here in omega arith in
    let quote : b ≡ 34 = grind arith in
    rw (is, quote) (IsFound.piece kind.Text (suc r.size) (record {
      within = r.fits;
      token = subst (λ (t : List ℕ). IsToken (drop (suc r.size) bytes) kind.Text (34 ∷ t)) (sym r.closed) (IsToken.string r.value (take r.size bytes) r.writes);
    }))

string_piece : (b : ℕ) (bytes : List ℕ) → (b == 34) ≡ true → IsFound b bytes (string_at bytes)
unfolding string_at
string_piece b bytes q = string_by b bytes (string_end within.Whole 0 bytes) q refl

-- ---- signs

one_byte : (k : Kind) (x b : ℕ) (bytes : List ℕ) → IsSign k (x ∷ []) → (b == x) ≡ true → IsFound b bytes (Some (k, 0))
one_byte k x b bytes s h = let e : b ≡ x = grind arith in rw e (IsFound.piece k 0 (record { within = omega arith; token = IsToken.sign k (x ∷ []) s }))

two_bytes : (k : Kind) (x y b : ℕ) (bytes : List ℕ) → IsSign k (x ∷ y ∷ []) → 0 < y → (b == x) ≡ true → (slice_index bytes 0 == y) ≡ true → IsFound b bytes (Some (k, 1))
two_bytes k x y b [] s p h g = absurd (let e : 0 ≡ y = grind arith in omega arith)
two_bytes k x y b (c ∷ bytes) s p h g =
    let e : b ≡ x = grind arith in
    let f : c ≡ y = grind arith in
    rw (e, f) (IsFound.piece k 1 (record { within = omega arith; token = IsToken.sign k (x ∷ y ∷ []) s }))

four_bytes : (b : ℕ) (bytes : List ℕ) → (b == 45) ≡ true → (slice_index bytes 0 == 45 && (slice_index bytes 1 == 45 && slice_index bytes 2 == 62)) ≡ true → IsFound b bytes (Some (kind.Yields, 3))
four_bytes b [] h g = absurd (cc)
four_bytes b (c ∷ []) h g = absurd (grind arith)
four_bytes b (c ∷ d ∷ []) h g = absurd (grind arith)
four_bytes b (c ∷ d ∷ e ∷ bytes) h g =
    let p : b ≡ 45 = grind arith in
    let q : c ≡ 45 = grind arith in
    let r : d ≡ 45 = grind arith in
    let s : e ≡ 62 = grind arith in
    rw (p, q, r, s) (IsFound.piece kind.Yields 3 (record { within = omega arith; token = IsToken.sign kind.Yields (codes "--->") IsSign.yields }))

end_byte : (b : ℕ) (bytes : List ℕ) → (b == 46) ≡ true → ends bytes ≡ true → IsFound b bytes (Some (kind.End, 0))
end_byte b bytes h e = let p : b ≡ 46 = grind arith in rw p (IsFound.piece kind.End 0 (record { within = omega arith; token = IsToken.end e }))

single_piece : (b : ℕ) (bytes : List ℕ) → IsFound b bytes (single_at b)
unfolding single_at
single_piece b bytes =
    both (IsFound b bytes) (b == 59) _ _ (one_byte kind.Semicolon 59 b bytes IsSign.semicolon) (λ _.
    both (IsFound b bytes) (b == 44) _ _ (one_byte kind.Comma 44 b bytes IsSign.comma) (λ _.
    both (IsFound b bytes) (b == 40) _ _ (one_byte kind.Open 40 b bytes IsSign.open_sign) (λ _.
    both (IsFound b bytes) (b == 41) _ _ (one_byte kind.Close 41 b bytes IsSign.close) (λ _.
    both (IsFound b bytes) (b == 91) _ _ (one_byte kind.OpenList 91 b bytes IsSign.open_list) (λ _.
    both (IsFound b bytes) (b == 93) _ _ (one_byte kind.CloseList 93 b bytes IsSign.close_list) (λ _.
    both (IsFound b bytes) (b == 60) _ _ (one_byte kind.Less 60 b bytes IsSign.less) (λ _.
    both (IsFound b bytes) (b == 43) _ _ (one_byte kind.Plus 43 b bytes IsSign.plus) (λ _.
    both (IsFound b bytes) (b == 42) _ _ (one_byte kind.Times 42 b bytes IsSign.times) (λ _. IsFound.nothing)))))))))

sign_piece : (b : ℕ) (bytes : List ℕ) → IsFound b bytes (sign_at b bytes)
unfolding sign_at colon_at dash_at
sign_piece b bytes =
    both (IsFound b bytes) (b == 58) _ _
    (λ h. both (IsFound b bytes) (slice_index bytes 0 == 45) _ _ (two_bytes kind.Declare 58 45 b bytes IsSign.declare (omega arith) h) (λ _.
    both (IsFound b bytes) (slice_index bytes 0 == 58) _ _ (two_bytes kind.HasMode 58 58 b bytes IsSign.has_mode (omega arith) h) (λ _. IsFound.nothing)))
    (λ _. both (IsFound b bytes) (b == 45) _ _
    (λ h. both (IsFound b bytes) (slice_index bytes 0 == 62) _ _ (two_bytes kind.Then 45 62 b bytes IsSign.then_sign (omega arith) h) (λ _.
    both (IsFound b bytes) (slice_index bytes 0 == 45 && (slice_index bytes 1 == 45 && slice_index bytes 2 == 62)) _ _ (four_bytes b bytes h) (λ _. one_byte kind.Minus 45 b bytes IsSign.minus h)))
    (λ _. both (IsFound b bytes) (b == 61) _ _
    (λ h. both (IsFound b bytes) (slice_index bytes 0 == 60) _ _ (two_bytes kind.AtMost 61 60 b bytes IsSign.at_most (omega arith) h) (λ _. one_byte kind.Equals 61 b bytes IsSign.equals h))
    (λ _. both (IsFound b bytes) (b == 62) _ _
    (λ h. both (IsFound b bytes) (slice_index bytes 0 == 61) _ _ (two_bytes kind.AtLeast 62 61 b bytes IsSign.at_least (omega arith) h) (λ _. one_byte kind.Greater 62 b bytes IsSign.greater h))
    (λ _. both (IsFound b bytes) (b == 46) _ _
    (λ h. both (IsFound b bytes) (ends bytes) _ _ (end_byte b bytes h) (λ _. IsFound.nothing))
    (λ _. single_piece b bytes)))))

-- ---- tokens

named : (b : ℕ) (bytes : List ℕ) (p : Kind × ℕ) → PieceAt b bytes p → IsFound b bytes (Some p)
named b bytes p a = IsFound.piece p.0 p.1 a.is

pub token_found : (b : ℕ) (bytes : List ℕ) → IsFound b bytes (token_at b bytes)
unfolding token_at
token_found b bytes =
    both (IsFound b bytes) (is_ascii_lowercase b) _ _ (λ h. named b bytes (name_at b bytes) (name_piece b bytes h)) (λ _.
    both (IsFound b bytes) (is_ascii_uppercase b || b == 95) _ _ (variable_piece b bytes) (λ _.
    both (IsFound b bytes) (is_ascii_digit b) _ _ (λ h. IsFound.piece kind.Integer (prefix_len is_ascii_digit bytes) (record { within = prefix_within is_ascii_digit bytes; token = IsToken.integer b (take (prefix_len is_ascii_digit bytes) bytes) h (taken_pass is_ascii_digit bytes) })) (λ _.
    both (IsFound b bytes) (b == 34) _ _ (string_piece b bytes) (λ _. sign_piece b bytes))))
