-- A qualified name has a word before its `.`, and a byte behind that.
use Rattle.std.specs.Prelude.{codes}
use Rattle.std.proofs.Common.{◌≡◌, ℕ, suc, ◌+◌, ◌≤◌, Bool, true, false, cond, List, [], ◌∷◌, ◌++◌, length, length-append, get_or, take, drop, refl, sym, ap, ◌∙◌, arith, add-one}
use Rattle.std.specs.List.{prefix_len}
use Rattle.std.specs.Str.{bytes_eq}
use Rattle.md_token.specs.declared.kind.Kind.{Kind}
use Rattle.md_token.specs.declared.kind.Kind.TheVariants as kind
use Rattle.md_token.specs.declared.scan.Prefix.TheVariants as prefix
use Rattle.md_token.specs.Token.{HasParts, is_word_byte, word_kind, prefix_at}
use Rattle.md_token.specs.Spelling.{IsSign, IsToken}
use Rattle.md_token.proofs.SpelledWords.{lower_is_word}
use Rattle.md_token.proofs.Longest.{prefix_beyond}
use Rattle.md_token.proofs.Proper.{piece_token}
use Rattle.md_token.proofs.Cuts.{piece_at}

-- ---- kinds that are no qualified names

abbrev is_qualified : Kind → Bool
is_qualified kind.Qualified = true
is_qualified _ = false

either_plain : (b : Bool) (j k : Kind) → is_qualified j ≡ false → is_qualified k ≡ false → is_qualified (cond b j k) ≡ false
either_plain true j k p q = p
either_plain false j k p q = q

word_plain : (w : List ℕ) → is_qualified (word_kind w) ≡ false
unfolding word_kind
word_plain w =
    either_plain (bytes_eq w (codes "true")) kind.True _ refl
    (either_plain (bytes_eq w (codes "fail")) kind.Fail _ refl
    (either_plain (bytes_eq w (codes "not")) kind.Not _ refl
    (either_plain (bytes_eq w (codes "some")) kind.Some _ refl
    (either_plain (bytes_eq w (codes "call")) kind.Call _ refl
    (either_plain (bytes_eq w (codes "is")) kind.Is _ refl
    (either_plain (bytes_eq w (codes "pred")) kind.Pred kind.Name refl refl))))))

sign_plain : (k : Kind) (w : List ℕ) → IsSign k w → is_qualified k ≡ false
sign_plain _ _ IsSign.declare = refl
sign_plain _ _ IsSign.yields = refl
sign_plain _ _ IsSign.then_sign = refl
sign_plain _ _ IsSign.has_mode = refl
sign_plain _ _ IsSign.semicolon = refl
sign_plain _ _ IsSign.comma = refl
sign_plain _ _ IsSign.open_sign = refl
sign_plain _ _ IsSign.close = refl
sign_plain _ _ IsSign.open_list = refl
sign_plain _ _ IsSign.close_list = refl
sign_plain _ _ IsSign.equals = refl
sign_plain _ _ IsSign.at_most = refl
sign_plain _ _ IsSign.less = refl
sign_plain _ _ IsSign.greater = refl
sign_plain _ _ IsSign.at_least = refl
sign_plain _ _ IsSign.plus = refl
sign_plain _ _ IsSign.minus = refl
sign_plain _ _ IsSign.times = refl

plain : (k : Kind) (w : List ℕ) → is_qualified k ≡ false → k ≡ kind.Qualified → HasParts w
plain k w e is = absurd (let f : true ≡ false = sym (ap is_qualified is) ∙ e in cc)

-- ---- qualified names

both_parts : (b c : ℕ) (v w : List ℕ) → prefix_len is_word_byte (b ∷ (v ++ 46 ∷ c ∷ w)) ≡ suc (length v) + 0 → HasParts (b ∷ (v ++ 46 ∷ c ∷ w))
both_parts b c v w e = let l = length-append v (46 ∷ c ∷ w) in (omega (arith, e), omega (arith, e, l))

token_parts : (after : List ℕ) (k : Kind) (w : List ℕ) → IsToken after k w → k ≡ kind.Qualified → HasParts w
token_parts after _ _ (IsToken.name b w lower pass) is = plain (word_kind (b ∷ w)) (b ∷ w) (word_plain (b ∷ w)) is
token_parts after _ _ (IsToken.qualified b c v w lower pass other more) is = both_parts b c v w (prefix_beyond is_word_byte (b ∷ v) (46 ∷ c ∷ w) (lower_is_word b lower, pass))
token_parts after _ _ (IsToken.variable b w upper pass alone) is = plain kind.Variable (b ∷ w) refl is
token_parts after _ _ (IsToken.integer b w digit pass) is = plain kind.Integer (b ∷ w) refl is
token_parts after _ _ (IsToken.string v w writes) is = plain kind.Text (34 ∷ (w ++ 34 ∷ [])) refl is
token_parts after _ _ (IsToken.sign k w sign) is = plain k w (sign_plain k w sign) is
token_parts after _ _ (IsToken.end ends) is = plain kind.End (codes ".") refl is

-- what a text begins with
pub piece_parts : (k : Kind) (more : ℕ) (text : List ℕ) → 1 ≤ length text → prefix.Piece k more ≡ prefix_at (get_or text 0 0) (drop 1 text) → k ≡ kind.Qualified → HasParts (take (more + 1) text)
piece_parts k more [] some e is = absurd (omega arith)
piece_parts k more (b ∷ bytes) some e is = rw (add-one more) (token_parts (drop more bytes) k (b ∷ take more bytes) (piece_at b bytes k more (piece_token b bytes k more (sym e))).token is)
