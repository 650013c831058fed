-- The names that the tokens of a text are.
use Rattle.std.specs.Prelude.{⊤, codes, IsTrue}
use Rattle.std.proofs.Common.{◌≡◌, refl, sym, ap, ◌∙◌, subst, arith, ℕ, suc, ◌+◌, ◌≤◌, Bool, true, false, cond, nat_le, ◌==◌, List, [], ◌∷◌, ◌++◌, length, take, drop, length-append, Some, None, IfSome, ◌⊎◌, inl, inr}
use Rattle.std.specs.Char.{is_ascii_lowercase}
use Rattle.std.specs.List.{prefix_len}
use Rattle.std.specs.Str.{bytes_eq}
use Rattle.md_token.specs.declared.kind.Kind.{Kind}
use Rattle.md_token.specs.declared.kind.Kind.TheVariants as kind
use Rattle.md_token.specs.Kinds.{same_kind}
use Rattle.md_token.specs.Token.{Lexeme, is_word_byte, word_kind, tokens_of}
use Rattle.md_token.specs.Spelling as spelling
use Rattle.md_token.specs.Spelling.{AllPass, IsSign, IsToken, Cut}
use Rattle.md_token.proofs.Cuts.{tokens_cut}
use Rattle.md_token.proofs.Longest.{prefix_beyond}
use Rattle.md_reader.specs.Rules as rule
use Rattle.md_static.specs.Names.{is_lower, is_word, are_words, is_name}

-- a lower-case letter, and then letters, digits and `_`
pub record IsWord (t : List ℕ) : Type 0 where
  pub first : ℕ
  pub rest : List ℕ
  pub whole : t ≡ first ∷ rest
  pub small : is_ascii_lowercase first ≡ true
  pub parts : AllPass is_word_byte rest

-- ---- tokens

-- a token as texts have them, or what stands behind all tokens
abbrev pub IsCut : Lexeme → Type 0
IsCut t = ((after : List ℕ) × IsToken after t.kind t.text) ⊎ ((t.kind ≡ kind.Stop) ⊎ (t.kind ≡ kind.Bad))

abbrev pub ArePieces : List Lexeme → Type 0
ArePieces [] = ⊤
ArePieces (t ∷ ts) = IsCut t × ArePieces ts

cut_pieces : (line : ℕ) (text : List ℕ) (ts : List Lexeme) → Cut line text ts → ArePieces ts
cut_pieces _ _ _ (spelling.stop line) = (inr (inl refl), tt)
cut_pieces _ _ _ (spelling.blank line b text ts is rest) = cut_pieces _ text ts rest
cut_pieces _ _ _ (spelling.comment line w text ts in_line ends rest) = cut_pieces line text ts rest
cut_pieces _ _ _ (spelling.token line k text w after ts begins rest) = (inl (after, begins.token), cut_pieces line after ts rest)
cut_pieces _ _ _ (spelling.bad line b bytes no_blank no_comment none) = (inr (inr refl), tt)

pub text_pieces : (text : List ℕ) → ArePieces (tokens_of text)
text_pieces text = cut_pieces 1 text (tokens_of text) (tokens_cut text)

-- one of so many lines, which count from 1
pub record IsLine (most line : ℕ) : Type 0 where
  pub first : 1 ≤ line
  pub last : line ≤ most

-- each token stands on one
abbrev pub HaveLines : ℕ → List Lexeme → Type 0
HaveLines most [] = ⊤
HaveLines most (t ∷ ts) = IsLine most t.line × HaveLines most ts

further : (line b : ℕ) → (line ≤ spelling.line_behind b line) × (spelling.line_behind b line ≤ line + 1)
further line b = here (b == 10)
  where
    here : (c : Bool) → (line ≤ cond c (line + 1) line) × (cond c (line + 1) line ≤ line + 1)
    here true = (omega arith, omega arith)
    here false = (omega arith, omega arith)

-- each byte ends one line at most
cut_lines : (most line : ℕ) (text : List ℕ) (ts : List Lexeme) → Cut line text ts → 1 ≤ line → line + length text ≤ most → HaveLines most ts
cut_lines most _ _ _ (spelling.stop line) le room = (record { first = le; last = omega (arith, room) }, tt)
cut_lines most _ _ _ (spelling.blank line b text ts is rest) le room =
    let on = further line b in
    let after : line ≤ spelling.line_behind b line = on.0 in
    let next : spelling.line_behind b line ≤ line + 1 = on.1 in
    cut_lines most _ text ts rest (omega (arith, le, after)) (omega (arith, room, next))
cut_lines most _ _ _ (spelling.comment line w text ts in_line ends rest) le room = cut_lines most line text ts rest le (omega (arith, room, length-append w text))
cut_lines most _ _ _ (spelling.token line k text w after ts begins rest) le room =
    let whole : length text ≡ length w + length after = ap length begins.whole ∙ length-append w after in
    (record { first = le; last = omega (arith, room) }, cut_lines most line after ts rest le (omega (arith, room, whole)))
cut_lines most _ _ _ (spelling.bad line b bytes no_blank no_comment none) le room = (record { first = le; last = omega (arith, room) }, tt)

pub text_lines : (text : List ℕ) → HaveLines (length text + 1) (tokens_of text)
text_lines text = cut_lines (length text + 1) 1 text (tokens_of text) (tokens_cut text) (omega arith) (omega arith)

-- there are no more tokens than bytes, and the end
sign_size : (k : Kind) (t : List ℕ) → IsSign k t → 1 ≤ length t
sign_size _ _ spelling.declare = omega arith
sign_size _ _ spelling.yields = omega arith
sign_size _ _ spelling.then_sign = omega arith
sign_size _ _ spelling.has_mode = omega arith
sign_size _ _ spelling.semicolon = omega arith
sign_size _ _ spelling.comma = omega arith
sign_size _ _ spelling.open_sign = omega arith
sign_size _ _ spelling.close = omega arith
sign_size _ _ spelling.open_list = omega arith
sign_size _ _ spelling.close_list = omega arith
sign_size _ _ spelling.equals = omega arith
sign_size _ _ spelling.at_most = omega arith
sign_size _ _ spelling.less = omega arith
sign_size _ _ spelling.greater = omega arith
sign_size _ _ spelling.at_least = omega arith
sign_size _ _ spelling.plus = omega arith
sign_size _ _ spelling.minus = omega arith
sign_size _ _ spelling.times = omega arith

token_size : (after : List ℕ) (k : Kind) (t : List ℕ) → IsToken after k t → 1 ≤ length t
token_size after _ _ (spelling.name b w small parts) = omega arith
token_size after _ _ (spelling.qualified b c v w bs vs cs ws) = omega arith
token_size after _ _ (spelling.variable b w first parts more) = omega arith
token_size after _ _ (spelling.integer b w first parts) = omega arith
token_size after _ _ (spelling.string v w writes) = omega arith
token_size after _ _ (spelling.sign k w is) = sign_size k w is
token_size after _ _ (spelling.end ends) = omega arith

cut_size : (line : ℕ) (text : List ℕ) (ts : List Lexeme) → Cut line text ts → length ts ≤ suc (length text)
cut_size _ _ _ (spelling.stop line) = omega arith
cut_size _ _ _ (spelling.blank line b text ts is rest) = omega (arith, cut_size _ text ts rest)
cut_size _ _ _ (spelling.comment line w text ts in_line ends rest) = omega (arith, cut_size line text ts rest, length-append w text)
cut_size _ _ _ (spelling.token line k text w after ts begins rest) =
    omega (arith, cut_size line after ts rest, ap length begins.whole, length-append w after, token_size after k w begins.token)
cut_size _ _ _ (spelling.bad line b bytes no_blank no_comment none) = omega arith

pub few_tokens : (text : List ℕ) → length (tokens_of text) ≤ suc (length text)
few_tokens text = cut_size 1 text (tokens_of text) (tokens_cut text)

-- ---- names

no_sign : (k : Kind) (t : List ℕ) → IsSign k t → rule.is_name k ≡ true → ⊥
no_sign _ _ spelling.declare h = cc
no_sign _ _ spelling.yields h = cc
no_sign _ _ spelling.then_sign h = cc
no_sign _ _ spelling.has_mode h = cc
no_sign _ _ spelling.semicolon h = cc
no_sign _ _ spelling.comma h = cc
no_sign _ _ spelling.open_sign h = cc
no_sign _ _ spelling.close h = cc
no_sign _ _ spelling.open_list h = cc
no_sign _ _ spelling.close_list h = cc
no_sign _ _ spelling.equals h = cc
no_sign _ _ spelling.at_most h = cc
no_sign _ _ spelling.less h = cc
no_sign _ _ spelling.greater h = cc
no_sign _ _ spelling.at_least h = cc
no_sign _ _ spelling.plus h = cc
no_sign _ _ spelling.minus h = cc
no_sign _ _ spelling.times h = cc

token_word : (after : List ℕ) (k : Kind) (t : List ℕ) → IsToken after k t → rule.is_name k ≡ true → IsWord t
token_word after _ _ (spelling.name b w small parts) h = record { first = b; rest = w; whole = refl; small = small; parts = parts }
token_word after _ _ (spelling.qualified b c v w bs vs cs ws) h = absurd (cc)
token_word after _ _ (spelling.variable b w first parts more) h = absurd (cc)
token_word after _ _ (spelling.integer b w first parts) h = absurd (cc)
token_word after _ _ (spelling.string v w writes) h = absurd (cc)
token_word after _ _ (spelling.sign k w is) h = absurd (no_sign k w is h)
token_word after _ _ (spelling.end ends) h = absurd (cc)

-- a token that is a name is a word
pub piece_word : (t : Lexeme) → IsCut t → rule.is_name t.kind ≡ true → IsWord t.text
piece_word t (inl is) h = token_word is.0 t.kind t.text is.1 h
piece_word t (inr (inl stop)) h = absurd (let e = ap rule.is_name stop in cc)
piece_word t (inr (inr bad)) h = absurd (let e = ap rule.is_name bad in cc)

-- ---- qualified names

-- a word, a `.` and a word
pub record IsQualified (t : List ℕ) : Type 0 where
  pub front : ℕ
  pub fronts : List ℕ
  pub back : ℕ
  pub backs : List ℕ
  pub whole : t ≡ front ∷ (fronts ++ 46 ∷ back ∷ backs)
  pub small : is_ascii_lowercase front ≡ true
  pub parts : AllPass is_word_byte fronts
  pub small_back : is_ascii_lowercase back ≡ true
  pub parts_back : AllPass is_word_byte backs

unqualified_sign : (k : Kind) (t : List ℕ) → IsSign k t → k ≡ kind.Qualified → ⊥
unqualified_sign _ _ spelling.declare h = cc
unqualified_sign _ _ spelling.yields h = cc
unqualified_sign _ _ spelling.then_sign h = cc
unqualified_sign _ _ spelling.has_mode h = cc
unqualified_sign _ _ spelling.semicolon h = cc
unqualified_sign _ _ spelling.comma h = cc
unqualified_sign _ _ spelling.open_sign h = cc
unqualified_sign _ _ spelling.close h = cc
unqualified_sign _ _ spelling.open_list h = cc
unqualified_sign _ _ spelling.close_list h = cc
unqualified_sign _ _ spelling.equals h = cc
unqualified_sign _ _ spelling.at_most h = cc
unqualified_sign _ _ spelling.less h = cc
unqualified_sign _ _ spelling.greater h = cc
unqualified_sign _ _ spelling.at_least h = cc
unqualified_sign _ _ spelling.plus h = cc
unqualified_sign _ _ spelling.minus h = cc
unqualified_sign _ _ spelling.times h = cc

abbrev is_qualified : Kind → Bool
is_qualified kind.Qualified = true
is_qualified _ = false

choice : (b : Bool) (k l : Kind) → is_qualified k ≡ false → is_qualified l ≡ false → is_qualified (cond b k l) ≡ false
choice true k l h g = h
choice false k l h g = g

unqualified_word : (t : List ℕ) → is_qualified (word_kind t) ≡ false
unfolding word_kind
unqualified_word t =
    choice (bytes_eq t (codes "true")) kind.True _ refl
    (choice (bytes_eq t (codes "fail")) kind.Fail _ refl
    (choice (bytes_eq t (codes "not")) kind.Not _ refl
    (choice (bytes_eq t (codes "some")) kind.Some _ refl
    (choice (bytes_eq t (codes "call")) kind.Call _ refl
    (choice (bytes_eq t (codes "is")) kind.Is _ refl
    (choice (bytes_eq t (codes "pred")) kind.Pred kind.Name refl refl))))))

token_qualified : (after : List ℕ) (k : Kind) (t : List ℕ) → IsToken after k t → k ≡ kind.Qualified → IsQualified t
token_qualified after _ _ (spelling.name b w small parts) h = absurd (let e = sym (unqualified_word (b ∷ w)) ∙ ap is_qualified h in cc)
token_qualified after _ _ (spelling.qualified b c v w bs vs cs ws) h =
    record { front = b; fronts = v; back = c; backs = w; whole = refl; small = bs; parts = vs; small_back = cs; parts_back = ws }
token_qualified after _ _ (spelling.variable b w first parts more) h = absurd (cc)
token_qualified after _ _ (spelling.integer b w first parts) h = absurd (cc)
token_qualified after _ _ (spelling.string v w writes) h = absurd (cc)
token_qualified after _ _ (spelling.sign k w is) h = absurd (unqualified_sign k w is h)
token_qualified after _ _ (spelling.end ends) h = absurd (cc)

piece_qualified : (t : Lexeme) → IsCut t → t.kind ≡ kind.Qualified → IsQualified t.text
piece_qualified t (inl is) h = token_qualified is.0 t.kind t.text is.1 h
piece_qualified t (inr (inl stop)) h = absurd (let e = sym stop ∙ h in cc)
piece_qualified t (inr (inr bad)) h = absurd (let e = sym bad ∙ h in cc)

small_is_word : (b : ℕ) → is_ascii_lowercase b ≡ true → is_word_byte b ≡ true
small_is_word b h = grind arith

take_front : (v ys : List ℕ) → take (length v) (v ++ ys) ≡ v
take_front [] ys = refl
take_front (b ∷ v) ys = ap (λ (xs : List ℕ). b ∷ xs) (take_front v ys)

drop_front : (v ys : List ℕ) (b : ℕ) → drop (suc (length v)) (v ++ b ∷ ys) ≡ ys
drop_front [] ys b = refl
drop_front (c ∷ v) ys b = drop_front v ys b

front_length : (b : ℕ) (v ys : List ℕ) → is_ascii_lowercase b ≡ true → AllPass is_word_byte v → prefix_len is_word_byte (b ∷ (v ++ 46 ∷ ys)) ≡ length (b ∷ v)
front_length b v ys small parts = prefix_beyond is_word_byte (b ∷ v) (46 ∷ ys) (small_is_word b small, parts) ∙ omega arith

-- the two parts of a qualified name are words
qualifier_word : (t : List ℕ) → IsQualified t → IsWord (rule.qualifier_part t)
qualifier_word t q =
    let n : prefix_len is_word_byte (q.front ∷ (q.fronts ++ 46 ∷ q.back ∷ q.backs)) ≡ length (q.front ∷ q.fronts) = front_length q.front q.fronts (q.back ∷ q.backs) q.small q.parts in
    record {
      first = q.front;
      rest = q.fronts;
      whole = ap rule.qualifier_part q.whole
          ∙ (ap (λ (m : ℕ). take m (q.front ∷ (q.fronts ++ 46 ∷ q.back ∷ q.backs))) n
          ∙ ap (λ (xs : List ℕ). q.front ∷ xs) (take_front q.fronts (46 ∷ q.back ∷ q.backs)));
      small = q.small;
      parts = q.parts;
    }

name_word : (t : List ℕ) → IsQualified t → IsWord (rule.name_part t)
name_word t q =
    let n : prefix_len is_word_byte (q.front ∷ (q.fronts ++ 46 ∷ q.back ∷ q.backs)) + 1 ≡ suc (suc (length q.fronts))
    = omega (arith, front_length q.front q.fronts (q.back ∷ q.backs) q.small q.parts) in
    record {
      first = q.back;
      rest = q.backs;
      whole = ap rule.name_part q.whole
          ∙ (ap (λ (m : ℕ). drop m (q.front ∷ (q.fronts ++ 46 ∷ q.back ∷ q.backs))) n
          ∙ drop_front q.fronts (q.back ∷ q.backs) 46);
      small = q.small_back;
      parts = q.parts_back;
    }

-- ---- a name as it is written

pub record AreWords (w : rule.Written) : Type 0 where
  pub name : IsWord w.name
  pub qualifier : IfSome w.qualifier IsWord

some_parts : (b : Bool) (u w : rule.Written) → AreWords u → cond b (Some u) None ≡ Some w → AreWords w
some_parts true u w h e = let same : u ≡ w = cc in subst AreWords same h
some_parts false u w h e = absurd (cc)

qualified_parts : (t : List ℕ) (w : rule.Written) → IsQualified t → rule.qualified t ≡ Some w → AreWords w
unfolding rule.qualified
qualified_parts t w q h =
    some_parts (same_kind (word_kind (rule.name_part t)) kind.Name) (record { qualifier = Some (rule.qualifier_part t); name = rule.name_part t }) w
    (record { name = name_word t q; qualifier = qualifier_word t q }) h

by_kind : (text : List ℕ) (k : Kind) (w : rule.Written) → (rule.is_name k ≡ true → IsWord text) → (k ≡ kind.Qualified → IsQualified text) → rule.written_by text k ≡ Some w → AreWords w
by_kind text kind.Name w one two h =
    let same : record { qualifier = None; name = text } ≡ w = cc in
    subst AreWords same (record { name = one refl; qualifier = tt })
by_kind text kind.Qualified w one two h = qualified_parts text w (two refl) h
by_kind text _ w one two h = absurd (cc)

pub written_words : (t : Lexeme) (w : rule.Written) → IsCut t → rule.written t ≡ Some w → AreWords w
unfolding rule.written
written_words t w is h = by_kind t.text t.kind w (piece_word t is) (piece_qualified t is) h

-- ---- names of the language

word_byte : (b : ℕ) → is_word_byte b ≡ true → is_word b ≡ true
word_byte b h = grind arith

all_words : (w : List ℕ) → AllPass is_word_byte w → are_words w ≡ true
all_words [] h = refl
all_words (b ∷ w) h = rw (word_byte b h.0, all_words w h.1) refl

small_byte : (b : ℕ) → is_ascii_lowercase b ≡ true → is_lower b ≡ true
small_byte b h = grind arith

within_test : (m n : ℕ) → m ≤ n → nat_le m n ≡ true
within_test m n le = grind arith

-- a word that isn't too long is a name
pub word_name : (t : List ℕ) → IsWord t → length t ≤ 255 → IsTrue (is_name t)
word_name t h short =
    let size : length h.rest ≤ 254 = let e = ap length h.whole in omega (arith, e, short) in
    subst (λ (x : List ℕ). IsTrue (is_name x)) (sym h.whole) (rw (small_byte h.first h.small, all_words h.rest h.parts, within_test (length h.rest) 254 size) refl)
