-- Tokens that are names: a lower-case letter, and then letters, digits and `_`; and what the name of a predicate, which may be
-- qualified, is made of.
use Rattle.std.specs.Prelude.{codes}
use Rattle.std.proofs.Common.{IfSome, ◌≡◌, refl, ap, ◌∙◌, subst, ℕ, ◌≤◌, Bool, true, false, cond, ◌||◌, ◌==◌, nat_le, IsTrue, List, [], ◌∷◌, ◌++◌, length, take, Option, Some, None, Ok, inl, inr, arith}
use Rattle.std.specs.List.{prefix_len}
use Rattle.std.specs.Str.{bytes_eq}
use Rattle.std.specs.Char.{is_ascii_lowercase}
use Rattle.std.proofs.lemmas.Bool.{le-leb}
use Rattle.md_hlds.specs.declared.goal.PredName.{PredName}
use Rattle.md_token.specs.declared.kind.Kind.{Kind}
use Rattle.md_token.specs.declared.kind.Kind.TheVariants as kind
use Rattle.md_token.specs.Kinds.{same_kind}
use Rattle.md_token.specs.Token.{is_word_byte, word_kind}
use Rattle.md_token.specs.Spelling.{AllPass, IsSign, IsToken}
use Rattle.md_token.proofs.SpelledWords.{prefix_of, drop_one_more, lower_is_word}
use Rattle.md_static.specs.Names.{is_lower, is_upper, is_digit, is_word, are_words, is_name}
use Rattle.md_reader.specs.Input.{Input, limit, refuse, next, token}
use Rattle.md_reader.specs.Rules as rule
use Rattle.md_reader.proofs.Steps.{chosen, ok_value}

-- a lower-case letter, and then bytes of a word
abbrev pub IsName : List ℕ → Type 0
IsName [] = ⊥
IsName (b ∷ w) = (is_ascii_lowercase b ≡ true) × AllPass is_word_byte w

-- two names with a `.` between them
pub record IsQualified (w : List ℕ) : Type 0 where
  pub first : List ℕ
  pub second : List ℕ
  pub whole : w ≡ first ++ 46 ∷ second
  pub first_is : IsName first
  pub second_is : IsName second

-- the text of a word is a name, and that of a qualified name is two
pub record HasName (k : Kind) (w : List ℕ) : Type 0 where
  pub word : rule.is_name k ≡ true → IsName w
  pub qualified : k ≡ kind.Qualified → IsQualified w

-- ---- tokens

no_name : (k : Kind) (w : List ℕ) → rule.is_name k ≡ false → (k ≡ kind.Qualified → ⊥) → HasName k w
no_name k w other unqualified = record { word = λ is. absurd (cc); qualified = λ is. absurd (unqualified is) }

sign_name : (k : Kind) (w : List ℕ) → IsSign k w → HasName k w
sign_name _ _ IsSign.declare = no_name _ _ refl (λ e. absurd (cc))
sign_name _ _ IsSign.yields = no_name _ _ refl (λ e. absurd (cc))
sign_name _ _ IsSign.then_sign = no_name _ _ refl (λ e. absurd (cc))
sign_name _ _ IsSign.has_mode = no_name _ _ refl (λ e. absurd (cc))
sign_name _ _ IsSign.semicolon = no_name _ _ refl (λ e. absurd (cc))
sign_name _ _ IsSign.comma = no_name _ _ refl (λ e. absurd (cc))
sign_name _ _ IsSign.open_sign = no_name _ _ refl (λ e. absurd (cc))
sign_name _ _ IsSign.close = no_name _ _ refl (λ e. absurd (cc))
sign_name _ _ IsSign.open_list = no_name _ _ refl (λ e. absurd (cc))
sign_name _ _ IsSign.close_list = no_name _ _ refl (λ e. absurd (cc))
sign_name _ _ IsSign.equals = no_name _ _ refl (λ e. absurd (cc))
sign_name _ _ IsSign.at_most = no_name _ _ refl (λ e. absurd (cc))
sign_name _ _ IsSign.less = no_name _ _ refl (λ e. absurd (cc))
sign_name _ _ IsSign.greater = no_name _ _ refl (λ e. absurd (cc))
sign_name _ _ IsSign.at_least = no_name _ _ refl (λ e. absurd (cc))
sign_name _ _ IsSign.plus = no_name _ _ refl (λ e. absurd (cc))
sign_name _ _ IsSign.minus = no_name _ _ refl (λ e. absurd (cc))
sign_name _ _ IsSign.times = no_name _ _ refl (λ e. absurd (cc))

-- a word's kind isn't that of a qualified name
either_kind : (b : Bool) (x y : Kind) → (x ≡ kind.Qualified → ⊥) → (y ≡ kind.Qualified → ⊥) → cond b x y ≡ kind.Qualified → ⊥
either_kind true x y p q is = p is
either_kind false x y p q is = q is

unqualified : (w : List ℕ) → word_kind w ≡ kind.Qualified → ⊥
unfolding word_kind
unqualified w =
    either_kind (bytes_eq w (codes "true")) kind.True _ (λ e. absurd (cc))
    (either_kind (bytes_eq w (codes "fail")) kind.Fail _ (λ e. absurd (cc))
    (either_kind (bytes_eq w (codes "not")) kind.Not _ (λ e. absurd (cc))
    (either_kind (bytes_eq w (codes "some")) kind.Some _ (λ e. absurd (cc))
    (either_kind (bytes_eq w (codes "call")) kind.Call _ (λ e. absurd (cc))
    (either_kind (bytes_eq w (codes "is")) kind.Is _ (λ e. absurd (cc))
    (either_kind (bytes_eq w (codes "pred")) kind.Pred kind.Name (λ e. absurd (cc)) (λ e. absurd (cc))))))))

pub token_name : (after : List ℕ) (k : Kind) (w : List ℕ) → IsToken after k w → HasName k w
token_name after _ _ (IsToken.name b w lower pass) = record { word = λ is. (lower, pass); qualified = λ is. absurd (unqualified (b ∷ w) is) }
token_name after _ _ (IsToken.qualified b c v w lower pass other more) = record {
  word = λ is. absurd (cc);
  qualified = λ is. record { first = b ∷ v; second = c ∷ w; whole = refl; first_is = (lower, pass); second_is = (other, more) };
}
token_name after _ _ (IsToken.variable b w upper pass alone) = no_name _ _ refl (λ e. absurd (cc))
token_name after _ _ (IsToken.integer b w digit pass) = no_name _ _ refl (λ e. absurd (cc))
token_name after _ _ (IsToken.string v w writes) = no_name _ _ refl (λ e. absurd (cc))
token_name after _ _ (IsToken.sign k w is) = sign_name k w is
token_name after _ _ (IsToken.end is) = no_name _ _ refl (λ e. absurd (cc))

pub stop_name : (w : List ℕ) → HasName kind.Stop w
stop_name w = no_name _ _ refl (λ e. absurd (cc))

pub bad_name : (w : List ℕ) → HasName kind.Bad w
bad_name w = no_name _ _ refl (λ e. absurd (cc))

-- ---- the name of a predicate

take_first : (v w : List ℕ) → take (length v) (v ++ w) ≡ v
take_first [] w = refl
take_first (b ∷ v) w = ap (λ u. b ∷ u) (take_first v w)

words : (v : List ℕ) → IsName v → AllPass is_word_byte v
words [] is = absurd is
words (b ∷ v) is = (lower_is_word b is.0, is.1)

-- each part is a name
abbrev pub AreNames : List ℕ → Option (List ℕ) → Type 0
AreNames name qualifier = IsName name × IfSome qualifier IsName

qualified_parts : (text : List ℕ) (w : rule.Written) → IsQualified text → rule.qualified text ≡ Some w → AreNames w.name w.qualifier
unfolding rule.qualified
qualified_parts text w is read =
    elim (chosen (same_kind (word_kind (rule.name_part text)) kind.Name) (Some (record { qualifier = Some (rule.qualifier_part text); name = rule.name_part text })) None (Some w) read) [
      | inl l ↦
          let length_is : prefix_len is_word_byte text ≡ length is.first = ap (prefix_len is_word_byte) is.whole ∙ prefix_of is_word_byte is.first 46 is.second (words is.first is.first_is) refl in
          let front : rule.qualifier_part text ≡ is.first = rw (length_is, is.whole) (take_first is.first (46 ∷ is.second)) in
          let back : rule.name_part text ≡ is.second = rw (length_is, is.whole) (drop_one_more is.first is.second 46) in
          let same : w ≡ record { qualifier = Some (rule.qualifier_part text); name = rule.name_part text } = let e = l.1 in cc in
          rw (same, front, back) (is.second_is, is.first_is)
      | inr r ↦ absurd (let e = r.1 in cc)
    ]

written_parts : (text : List ℕ) (k : Kind) (w : rule.Written) → HasName k text → rule.written_by text k ≡ Some w → AreNames w.name w.qualifier
written_parts text kind.Name w has read = let same : w ≡ record { qualifier = None; name = text } = cc in rw same (has.word refl, tt)
written_parts text kind.Qualified w has read = qualified_parts text w (has.qualified refl) read
written_parts text _ w has read = absurd (cc)

own_or_other : (own : Bool) (m : List ℕ) → IsName m → IfSome (cond own None (Some m)) IsName
own_or_other true m is = tt
own_or_other false m is = is

away : (home : List ℕ) (o : Option (List ℕ)) → IfSome o IsName → IfSome (rule.away_from home o) IsName
away home None is = tt
away home (Some m) is = own_or_other (bytes_eq m home) m is

-- what a name that was taken means
taken_means : (w : rule.Written) (q : PredName) (i j : Input) → rule.take_written (Some w) i ≡ Ok (q, j) → rule.meant i.home w ≡ q
taken_means w q i j is =
    elim (chosen (rule.is_long i.limits.items w) (limit i) (Ok (rule.meant i.home w, next i)) (Ok (q, j)) is) [
      | inl l ↦ absurd (let e = l.1 in cc)
      | inr r ↦ ok_value (rule.meant i.home w) q (next i) j r.1
    ]

declared_means : (o : Option rule.Written) (q : PredName) (i j : Input) → rule.take_declared o i ≡ Ok (q, j) → (w : rule.Written) × (o ≡ Some w) × (rule.meant i.home w ≡ q)
declared_means None q i j is = absurd (cc)
declared_means (Some w) q i j is = (w, refl, by (rule.is_of_library w.qualifier) is)
  where
    by : (b : Bool) → cond b refuse (rule.take_written (Some w)) i ≡ Ok (q, j) → rule.meant i.home w ≡ q
    by true is = absurd (cc)
    by false is = taken_means w q i j is

pub declared_names : (q : PredName) (i j : Input) → HasName (token i).kind (token i).text → rule.declared_name i ≡ Ok (q, j) → AreNames q.name q.qualifier
unfolding rule.declared_name rule.written
declared_names q i j has is =
    let d = declared_means (rule.written (token i)) q i j is in
    let parts = written_parts (token i).text (token i).kind d.0 has d.1 in
    subst (λ (n : PredName). AreNames n.name n.qualifier) d.2 (parts.0, away i.home d.0.qualifier parts.1)

-- ---- names as the tables have them

word_either : (d u l e : Bool) → (((d || u) || l) || e) ≡ true → (((l || u) || d) || e) ≡ true
word_either true true true e is = refl
word_either true true false e is = refl
word_either true false true e is = refl
word_either true false false e is = refl
word_either false true true e is = refl
word_either false true false e is = refl
word_either false false true e is = refl
word_either false false false e is = is

word_byte : (b : ℕ) → is_word_byte b ≡ true → is_word b ≡ true
word_byte b is = word_either (is_digit b) (is_upper b) (is_lower b) (b == 95) is

words_are : (w : List ℕ) → AllPass is_word_byte w → are_words w ≡ true
words_are [] pass = refl
words_are (b ∷ w) pass = rw (word_byte b pass.0, words_are w pass.1) refl

pub table_name : (w : List ℕ) → IsName w → length w ≤ 255 → IsTrue (is_name w)
table_name [] is short = absurd is
table_name (b ∷ w) is short =
    let lower : is_lower b ≡ true = is.0 in
    let few : nat_le (length w) 254 ≡ true = le-leb (length w) 254 (omega (arith, short)) in
    rw (lower, words_are w is.1, few) refl
