-- The scanner's tokens are how a text is cut into tokens, and nothing else is.
use Rattle.std.proofs.Common.{◌≡◌, ℕ, zero, suc, ◌+◌, ◌≤◌, Bool, true, false, cond, not, ◌==◌, Option, Some, None, List, [], ◌∷◌, ◌++◌, length, take, drop, refl, sym, ap, ◌∙◌, subst, arith}
use Rattle.std.proofs.Math.Seq.{drop-append_seam}
use Rattle.std.proofs.lemmas.List.{take-append-drop}
use Rattle.std.specs.List.{prefix_len}
use Rattle.md_token.specs.declared.kind.Kind.{Kind}
use Rattle.md_token.specs.declared.scan.Prefix.{Prefix}
use Rattle.md_token.specs.declared.scan.Prefix.TheVariants as prefix
use Rattle.md_token.specs.Token.{Lexeme, is_blank, is_percent, is_in_line, token_at, prefix_at, prefix_of_token, more_of, line_past, put, lexemes, tokens_of}
use Rattle.md_token.specs.Spelling.{AllPass, IsToken, Begins, BeginsWithNone, line_behind, ends_line, Cut}
use Rattle.md_token.proofs.Scans.{skipped}
use Rattle.md_token.proofs.Spelled.{lexeme, piece}
use Rattle.md_token.proofs.SpelledWords.{taken_pass}
use Rattle.md_token.proofs.SpelledTexts.{length_take}
use Rattle.md_token.proofs.Longest.{Reaches, token_leads, prefix_beyond}
use Rattle.md_token.proofs.Found.{Piece, IsFound, token_found}

-- ---- what a text begins with

blank_prefix : (b : ℕ) (bytes : List ℕ) → is_blank b ≡ true → prefix_at b bytes ≡ prefix.Gap 0
unfolding prefix_at
blank_prefix b bytes e = rw e refl

percent_prefix : (b : ℕ) (bytes : List ℕ) → is_blank b ≡ false → is_percent b ≡ true → prefix_at b bytes ≡ prefix.Gap (prefix_len is_in_line bytes)
unfolding prefix_at
percent_prefix b bytes e f = rw (e, f) refl

token_prefix : (b : ℕ) (bytes : List ℕ) → is_blank b ≡ false → is_percent b ≡ false → prefix_at b bytes ≡ prefix_of_token (token_at b bytes)
unfolding prefix_at
token_prefix b bytes e f = rw (e, f) refl

step : (line b : ℕ) (bytes : List ℕ) (f : Prefix) → prefix_at b bytes ≡ f → lexemes 0 line (b ∷ bytes) ≡ put line b bytes f (lexemes 0 (line_past f b line) (drop (more_of f) bytes))
step line b bytes f e = rw (e, skipped (more_of f) (line_past f b line) bytes) refl

-- ---- tokens at the head of a text

same_found : (j k : Kind) (m n : ℕ) → ◌≡◌ {A = Option (Kind × ℕ)} (Some (j, m)) (Some (k, n)) → (j ≡ k) × (m ≡ n)
same_found j k m n e = let h : ◌≡◌ {A = Kind × ℕ} (j, m) (k, n) = cc in (ap (λ (p : Kind × ℕ). p.0) h, ap (λ (p : Kind × ℕ). p.1) h)

found_piece : (b : ℕ) (bytes : List ℕ) (o : Option (Kind × ℕ)) (k : Kind) (n : ℕ) → IsFound b bytes o → o ≡ Some (k, n) → Piece b bytes k n
found_piece b bytes _ k n IsFound.nothing e = absurd (cc)
found_piece b bytes _ k n (IsFound.piece j m p) e = let s = same_found j k m n e in rw (← s.0, ← s.1) p

pub piece_at : (b : ℕ) (bytes : List ℕ) (k : Kind) (n : ℕ) → token_at b bytes ≡ Some (k, n) → Piece b bytes k n
piece_at b bytes k n e = found_piece b bytes (token_at b bytes) k n (token_found b bytes) e

-- the token of a text that begins with b
record Meets (b : ℕ) (bytes : List ℕ) (k : Kind) (w : List ℕ) : Type 0 where
  tail : List ℕ
  whole : length w ≡ suc (length tail)
  not_blank : is_blank b ≡ false
  not_percent : is_percent b ≡ false
  found : Reaches k (length tail) (token_at b bytes)

meets : (b : ℕ) (bytes : List ℕ) (k : Kind) (w after : List ℕ) → b ∷ bytes ≡ w ++ after → IsToken after k w → Meets b bytes k w
meets b bytes k w after e t =
    let l = token_leads after k w t in
    let s : b ∷ bytes ≡ l.head ∷ (l.tail ++ after) = e ∙ ap (λ (x : List ℕ). x ++ after) l.whole in
    let h : b ≡ l.head = cc in
    let r : bytes ≡ l.tail ++ after = cc in
    record {
      tail = l.tail;
      whole = ap length l.whole;
      not_blank = rw h l.not_blank;
      not_percent = rw h l.not_percent;
      found = rw (h, r) l.found;
    }

reaches_most : (k j : Kind) (m n : ℕ) (o : Option (Kind × ℕ)) → Reaches k m o → o ≡ Some (j, n) → m ≤ n
reaches_most k j m n _ Reaches.same e = let s : m ≡ n = (same_found k j m n e).1 in omega arith
reaches_most k j m n _ (Reaches.longer i l h) e = let s : l ≡ n = (same_found i j l n e).1 in omega arith

reaches_none : (k : Kind) (m : ℕ) (o : Option (Kind × ℕ)) → Reaches k m o → o ≡ None → ⊥
reaches_none k m _ Reaches.same e = cc
reaches_none k m _ (Reaches.longer i l h) e = cc

reaches_exactly : (k : Kind) (m : ℕ) (o : Option (Kind × ℕ)) → Reaches k m o → ((j : Kind) (n : ℕ) → o ≡ Some (j, n) → n ≤ m) → o ≡ Some (k, m)
reaches_exactly k m _ Reaches.same h = refl
reaches_exactly k m _ (Reaches.longer j n l) h = absurd (let s : n ≤ m = h j n refl in omega arith)

-- ---- the scanner's tokens are a cut

line_ended : (bytes : List ℕ) → ends_line (drop (prefix_len is_in_line bytes) bytes) ≡ true
line_ended [] = refl
line_ended (b ∷ bytes) = by (b == 10) refl (line_ended bytes)
  where
    by : (t : Bool) → (b == 10) ≡ t → ends_line (drop (prefix_len is_in_line bytes) bytes) ≡ true → ends_line (drop (cond (not t) (1 + prefix_len is_in_line bytes) 0) (b ∷ bytes)) ≡ true
    by true e h = e
    by false e h = let s : 1 + prefix_len is_in_line bytes ≡ suc (prefix_len is_in_line bytes) = omega arith in rw s h

begins : (b : ℕ) (bytes : List ℕ) (k : Kind) (n : ℕ) → token_at b bytes ≡ Some (k, n) → Begins (b ∷ bytes) k (b ∷ take n bytes) (drop n bytes)
begins b bytes k n e =
    let p = piece_at b bytes k n e in
    let l : length (take n bytes) ≡ n = length_take n bytes p.within in
    record {
      whole = ap (λ (x : List ℕ). b ∷ x) (sym (take-append-drop n bytes));
      token = p.token;
      longest = λ j v rest s t. let m = meets b bytes j v rest s t in let f = reaches_most j k (length m.tail) n (token_at b bytes) m.found e in let w : length v ≡ suc (length m.tail) = m.whole in omega arith;
    }

abbrev IsCut : ℕ → List ℕ → Type 0
IsCut line text = Cut line text (lexemes 0 line text)

comment_cut : (line b : ℕ) (bytes : List ℕ) → is_blank b ≡ false → is_percent b ≡ true → IsCut line (drop (prefix_len is_in_line bytes) bytes) → IsCut line (b ∷ bytes)
comment_cut line b bytes e f c =
    let n = prefix_len is_in_line bytes in
    let is : b ≡ 37 = grind arith in
    let same : line_past (prefix.Gap n) b line ≡ line = rw is refl in
    subst (Cut line (b ∷ bytes)) (sym (step line b bytes (prefix.Gap n) (percent_prefix b bytes e f) ∙ rw same refl))
    (subst (λ (x : List ℕ). Cut line (b ∷ x) (lexemes 0 line (drop n bytes))) (take-append-drop n bytes)
    (subst (λ (x : ℕ). Cut line (x ∷ (take n bytes ++ drop n bytes)) (lexemes 0 line (drop n bytes))) (sym is)
    (Cut.comment line (take n bytes) (drop n bytes) (lexemes 0 line (drop n bytes)) (taken_pass is_in_line bytes) (line_ended bytes) c)))

found_cut : (line b : ℕ) (bytes : List ℕ) (k : Kind) (n : ℕ) → is_blank b ≡ false → is_percent b ≡ false → token_at b bytes ≡ Some (k, n) → IsCut line (drop n bytes) → IsCut line (b ∷ bytes)
found_cut line b bytes k n e f t c =
    subst (Cut line (b ∷ bytes)) (sym (step line b bytes (prefix.Piece k n) (token_prefix b bytes e f ∙ ap prefix_of_token t)))
    (Cut.token line k (b ∷ bytes) (b ∷ take n bytes) (drop n bytes) (lexemes 0 line (drop n bytes)) (begins b bytes k n t) c)

bad_cut : (line b : ℕ) (bytes : List ℕ) → is_blank b ≡ false → is_percent b ≡ false → token_at b bytes ≡ None → IsCut line (b ∷ bytes)
bad_cut line b bytes e f t =
    subst (Cut line (b ∷ bytes)) (sym (step line b bytes prefix.Unknown (token_prefix b bytes e f ∙ ap prefix_of_token t)))
    (Cut.bad line b bytes e f (λ k w after s i. let m = meets b bytes k w after s i in reaches_none k (length m.tail) (token_at b bytes) m.found t))

drop_shorter : (n : ℕ) (xs : List ℕ) → length (drop n xs) ≤ length xs
drop_shorter zero xs = omega arith
drop_shorter (suc n) [] = omega arith
drop_shorter (suc n) (x ∷ xs) = let h : length (drop n xs) ≤ length xs = drop_shorter n xs in omega arith

cut_within : (n line : ℕ) (text : List ℕ) → length text ≤ n → IsCut line text
cut_within n line [] h = Cut.stop line
cut_within zero line (b ∷ bytes) h = absurd (omega arith)
cut_within (suc n) line (b ∷ bytes) h = by (is_blank b) (is_percent b) (token_at b bytes) refl refl refl (cut_within n)
  where
    less : (m : ℕ) → length (drop m bytes) ≤ n
    less m = let d : length (drop m bytes) ≤ length bytes = drop_shorter m bytes in omega arith

    by : (x y : Bool) (o : Option (Kind × ℕ)) → is_blank b ≡ x → is_percent b ≡ y → token_at b bytes ≡ o → ((line : ℕ) (text : List ℕ) → length text ≤ n → IsCut line text) → IsCut line (b ∷ bytes)
    by true y o e f t later = subst (Cut line (b ∷ bytes)) (sym (step line b bytes (prefix.Gap 0) (blank_prefix b bytes e))) (Cut.blank line b bytes _ e (later (line_behind b line) bytes (omega arith)))
    by false true o e f t later = comment_cut line b bytes e f (later line (drop (prefix_len is_in_line bytes) bytes) (less (prefix_len is_in_line bytes)))
    by false false None e f t later = bad_cut line b bytes e f t
    by false false (Some p) e f t later = found_cut line b bytes p.0 p.1 e f t (later line (drop p.1 bytes) (less p.1))

pub tokens_cut : (text : List ℕ) → Cut 1 text (tokens_of text)
unfolding tokens_of
tokens_cut text = cut_within (length text) 1 text (omega arith)

-- ---- a cut is the scanner's tokens

ended_prefix : (text : List ℕ) → ends_line text ≡ true → prefix_len is_in_line text ≡ 0
ended_prefix [] e = refl
ended_prefix (b ∷ text) e = rw e refl

commented : (line : ℕ) (w text : List ℕ) → AllPass is_in_line w → ends_line text ≡ true → lexemes 0 line (37 ∷ (w ++ text)) ≡ lexemes 0 line text
commented line w text a e =
    let n : prefix_len is_in_line (w ++ text) ≡ length w = prefix_beyond is_in_line w text a ∙ rw (ended_prefix text e) (omega arith) in
    step line 37 (w ++ text) (prefix.Gap (length w)) (percent_prefix 37 (w ++ text) refl refl ∙ ap prefix.Gap n) ∙ rw (drop-append_seam w text) refl

exact_token : (k : Kind) (b : ℕ) (v after : List ℕ) → Begins (b ∷ (v ++ after)) k (b ∷ v) after → Reaches k (length v) (token_at b (v ++ after)) → token_at b (v ++ after) ≡ Some (k, length v)
exact_token k b v after h r =
    reaches_exactly k (length v) (token_at b (v ++ after)) r (λ j n e.
    let p = piece_at b (v ++ after) j n e in
    let l : length (take n (v ++ after)) ≡ n = length_take n (v ++ after) p.within in
    let m : suc (length (take n (v ++ after))) ≤ suc (length v) = h.longest j (b ∷ take n (v ++ after)) (drop n (v ++ after)) (ap (λ (x : List ℕ). b ∷ x) (sym (take-append-drop n (v ++ after)))) p.token in
    omega arith)

first_token : (line : ℕ) (k : Kind) (b : ℕ) (v after : List ℕ) → Begins (b ∷ (v ++ after)) k (b ∷ v) after → lexemes 0 line (b ∷ (v ++ after)) ≡ lexeme k (b ∷ v) line ∷ lexemes 0 line after
first_token line k b v after h =
    let m = meets b (v ++ after) k (b ∷ v) after refl h.token in
    let n : length v ≡ length m.tail = let w : suc (length v) ≡ suc (length m.tail) = m.whole in omega arith in
    let r : Reaches k (length v) (token_at b (v ++ after)) = rw n m.found in
    piece k line b v after (prefix_at b (v ++ after)) (token_prefix b (v ++ after) m.not_blank m.not_percent ∙ ap prefix_of_token (exact_token k b v after h r))

told : (line : ℕ) (k : Kind) (text w after : List ℕ) → Begins text k w after → lexemes 0 line text ≡ lexeme k w line ∷ lexemes 0 line after
told line k text w after h =
    let l = token_leads after k w h.token in
    let t : text ≡ l.head ∷ (l.tail ++ after) = h.whole ∙ ap (λ (x : List ℕ). x ++ after) l.whole in
    let g : Begins (l.head ∷ (l.tail ++ after)) k (l.head ∷ l.tail) after = subst (λ (x : List ℕ). Begins x k (l.head ∷ l.tail) after) t (subst (λ (x : List ℕ). Begins text k x after) l.whole h) in
    subst (λ (x : List ℕ). lexemes 0 line x ≡ lexeme k w line ∷ lexemes 0 line after) (sym t)
    (subst (λ (x : List ℕ). lexemes 0 line (l.head ∷ (l.tail ++ after)) ≡ lexeme k x line ∷ lexemes 0 line after) (sym l.whole) (first_token line k l.head l.tail after g))

none_found : (b : ℕ) (bytes : List ℕ) → BeginsWithNone (b ∷ bytes) → token_at b bytes ≡ None
none_found b bytes none = by (token_at b bytes) refl
  where
    by : (o : Option (Kind × ℕ)) → token_at b bytes ≡ o → token_at b bytes ≡ None
    by None e = e
    by (Some p) e = absurd (none p.0 (b ∷ take p.1 bytes) (drop p.1 bytes) (ap (λ (x : List ℕ). b ∷ x) (sym (take-append-drop p.1 bytes))) (piece_at b bytes p.0 p.1 e).token)

cut_is : (line : ℕ) (text : List ℕ) (ts : List Lexeme) → Cut line text ts → lexemes 0 line text ≡ ts
cut_is _ _ _ (Cut.stop line) = refl
cut_is _ _ _ (Cut.blank line b text ts e c) = step line b text (prefix.Gap 0) (blank_prefix b text e) ∙ cut_is (line_behind b line) text ts c
cut_is _ _ _ (Cut.comment line w text ts a e c) = commented line w text a e ∙ cut_is line text ts c
cut_is _ _ _ (Cut.token line k text w after ts h c) = told line k text w after h ∙ ap (λ (us : List Lexeme). lexeme k w line ∷ us) (cut_is line after ts c)
cut_is _ _ _ (Cut.bad line b bytes e f none) = step line b bytes prefix.Unknown (token_prefix b bytes e f ∙ ap prefix_of_token (none_found b bytes none))

-- a text is cut in one way
pub cut_once : (text : List ℕ) (ts : List Lexeme) → Cut 1 text ts → tokens_of text ≡ ts
unfolding tokens_of
cut_once text ts c = cut_is 1 text ts c
