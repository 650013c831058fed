-- The lines of a feedback's text, and the line at which another text is at fault.
use Rattle.std.proofs.Common.{Bool, true, false, not, ◌==◌, nat_le, ◌&&◌, ℕ, suc, ◌≡◌, ◌⊎◌, inl, inr, ◌∙◌, ◌+◌, ◌<◌, ◌≤◌, ◌^◌, refl, sym, ap, subst, arith, List, [], ◌∷◌, ◌++◌, append_assoc, append-nil, length, length-append, get_or, take, map, All, Result, Ok, Err, IfErr, decimal, codes, IsTrue}
use Rattle.std.specs.Char.{is_ascii_digit}
use Rattle.std.specs.Str.{all_ascii_digits}
use Rattle.std.specs.Result.{IsErrAnd}
use Rattle.std.proofs.lemmas.Fmt.{decimal_injective}
use Rattle.std.proofs.lemmas.List.{append_cancel_left, length-map, take_more}
use Rattle.std.proofs.lemmas.List.Concat.{flat_map-append}
use Rattle.std.proofs.lemmas.List.Elements.{All-nil, All-cons, All-head, All-tail, All-append, All-push}
use Rattle.md_static.specs.Names.{is_lower, is_word, are_words, is_name}
use Rattle.md_feedback.specs.declared.fault.FeedFault.{FeedFault}
use Rattle.md_feedback.specs.declared.fault.FeedFault.TheVariants.{Line, NoMemory}
use Rattle.md_feedback.specs.declared.pairs.Pair.{Pair}
use Rattle.md_feedback.specs.declared.pairs.Feedback.{Feedback}
use Rattle.md_feedback.specs.Text.{Rise, IsValidPair, IsLeast, AreValidPairs, IsValid, numbered, title_words, least_words, module_words, pair_words, feedback_lines, line, lines, feedback_text, Spells, IsOneLine, Begins, IsCutOff, IsWrong, IsFaultAt}
use Rattle.md_feedback.specs.Lines.{IfLine, IsPairLine, pair_lines, head_text, HasNo, IsTitle, GivesLeast, GivesModule, GivesPairAfter, BeginsWithLeast, BeginsWithModule, IsPairFault}
use Rattle.md_feedback.proofs.Digits.{are_digits}
use Rattle.md_feedback.proofs.LineLemmas.{same_pair}
use Rattle.md_feedback.proofs.Rising.{rise_front}

-- ---- lines end at the first line feed

pub one_line_cut : (a b x y : List ℕ) → IsOneLine a → IsOneLine b → line a ++ x ≡ line b ++ y → (a ≡ b) × (x ≡ y)
one_line_cut [] [] x y one also same = (refl, cc)
one_line_cut [] (d ∷ b) x y one also same = let e : 10 ≡ d = cc in absurd (All-head (λ c. c ≡ 10 → ⊥) d b also (sym e))
one_line_cut (c ∷ a) [] x y one also same = let e : c ≡ 10 = cc in absurd (All-head (λ d. d ≡ 10 → ⊥) c a one e)
one_line_cut (c ∷ a) (d ∷ b) x y one also same =
    let rest : line a ++ x ≡ line b ++ y = cc in
    let cut : (a ≡ b) × (x ≡ y) = one_line_cut a b x y (All-tail (λ e. e ≡ 10 → ⊥) c a one) (All-tail (λ e. e ≡ 10 → ⊥) d b also) rest in
    let first : c ≡ d = cc in
    (ap (λ n. n ∷ a) first ∙ ap (λ xs. d ∷ xs) cut.0, cut.1)

-- a text without a line feed is no ended line
not_ended : (rest b y : List ℕ) → IsOneLine rest → rest ≡ line b ++ y → ⊥
not_ended [] [] y one same = absurd (cc)
not_ended [] (d ∷ b) y one same = absurd (cc)
not_ended (c ∷ rest) [] y one same = let e : c ≡ 10 = cc in All-head (λ d. d ≡ 10 → ⊥) c rest one e
not_ended (c ∷ rest) (d ∷ b) y one same = let tail : rest ≡ line b ++ y = cc in not_ended rest b y (All-tail (λ e. e ≡ 10 → ⊥) c rest one) tail

-- lines at the front of lines
pub record GoOn (before after : List (List ℕ)) (rest : List ℕ) : Type 0 where
  pub more : List (List ℕ)
  pub whole : after ≡ before ++ more
  pub is : rest ≡ lines more

empty_no_line : (b x : List ℕ) → line b ++ x ≡ [] → ⊥
empty_no_line [] x same = absurd (cc)
empty_no_line (c ∷ b) x same = absurd (cc)

pub lines_go_on : (before after : List (List ℕ)) (rest : List ℕ) → All IsOneLine before → All IsOneLine after → lines before ++ rest ≡ lines after → GoOn before after rest
lines_go_on [] after rest one also same = record { more = after; whole = refl; is = same }
lines_go_on (b ∷ before) [] rest one also same = absurd (empty_no_line b (lines before ++ rest) (sym (append_assoc (line b) (lines before) rest) ∙ same))
lines_go_on (b ∷ before) (a ∷ after) rest one also same =
    let cut : (b ≡ a) × (lines before ++ rest ≡ lines after)
    = one_line_cut b a (lines before ++ rest) (lines after) (All-head IsOneLine b before one) (All-head IsOneLine a after also) (sym (append_assoc (line b) (lines before) rest) ∙ same) in
    let on : GoOn before after rest = lines_go_on before after rest (All-tail IsOneLine b before one) (All-tail IsOneLine a after also) cut.1 in
    record { more = on.more; whole = ap (λ x. x ∷ after) (sym cut.0) ∙ ap (λ xs. b ∷ xs) on.whole; is = on.is }

-- ---- the lines of a feedback have no line feeds within

and_parts : (a b : Bool) → (a && b) ≡ true → (a ≡ true) × (b ≡ true)
and_parts true b h = (refl, h)
and_parts false b h = absurd (cc)

digits_one_line : (ds : List ℕ) → all_ascii_digits ds ≡ true → IsOneLine ds
digits_one_line [] all = All-nil (λ c. c ≡ 10 → ⊥)
digits_one_line (d ∷ ds) all =
    let both : (is_ascii_digit d ≡ true) × (all_ascii_digits ds ≡ true) = and_parts (is_ascii_digit d) (all_ascii_digits ds) all in
    All-cons (λ c. c ≡ 10 → ⊥) d ds (λ e. let at : is_ascii_digit 10 ≡ true = subst (λ (c : ℕ). is_ascii_digit c ≡ true) e both.0 in absurd (cc)) (digits_one_line ds both.1)

words_one_line : (cs : List ℕ) → are_words cs ≡ true → IsOneLine cs
words_one_line [] all = All-nil (λ c. c ≡ 10 → ⊥)
words_one_line (c ∷ cs) all =
    let both : (is_word c ≡ true) × (are_words cs ≡ true) = and_parts (is_word c) (are_words cs) all in
    All-cons (λ x. x ≡ 10 → ⊥) c cs (λ e. let at : is_word 10 ≡ true = subst (λ (x : ℕ). is_word x ≡ true) e both.0 in absurd (cc)) (words_one_line cs both.1)

name_one_line : (name : List ℕ) → IsTrue (is_name name) → IsOneLine name
name_one_line [] named = All-nil (λ c. c ≡ 10 → ⊥)
name_one_line (c ∷ cs) named =
    let both : ((is_lower c && are_words cs) ≡ true) × (nat_le (length cs) 254 ≡ true) = and_parts (is_lower c && are_words cs) (nat_le (length cs) 254) named in
    let front : (is_lower c ≡ true) × (are_words cs ≡ true) = and_parts (is_lower c) (are_words cs) both.0 in
    All-cons (λ x. x ≡ 10 → ⊥) c cs (λ e. let at : is_lower 10 ≡ true = subst (λ (x : ℕ). is_lower x ≡ true) e front.0 in absurd (cc)) (words_one_line cs front.1)

number_one_line : (n : ℕ) → n < 2 ^ 64 → IsOneLine (decimal n)
number_one_line n small = digits_one_line (decimal n) (are_digits n small)

-- no byte of these is a line feed, as a test finds
unfoldable pub free : List ℕ → Bool
free [] = true
free (c ∷ cs) = not (c == 10) && free cs

pub from_free : (cs : List ℕ) → free cs ≡ true → IsOneLine cs
unfolding free
from_free [] all = All-nil (λ c. c ≡ 10 → ⊥)
from_free (c ∷ cs) all =
    let both : (not (c == 10) ≡ true) × (free cs ≡ true) = and_parts (not (c == 10)) (free cs) all in
    All-cons (λ x. x ≡ 10 → ⊥) c cs (λ e. let at : not (10 == 10) ≡ true = subst (λ (x : ℕ). not (x == 10) ≡ true) e both.0 in absurd (cc)) (from_free cs both.1)

title_one_line : IsOneLine title_words
unfolding free
title_one_line = from_free title_words refl

least_one_line : (k : ℕ) → IsLeast k → IsOneLine (least_words k)
unfolding free
least_one_line k least =
    let high : k ≤ 4294967295 = least.1 in
    All-append (λ c. c ≡ 10 → ⊥) (codes "least ") (decimal k) (from_free (codes "least ") refl) (number_one_line k (omega arith))

module_one_line : (name : List ℕ) → IsTrue (is_name name) → IsOneLine (module_words name)
unfolding free
module_one_line name named = All-append (λ c. c ≡ 10 → ⊥) (codes "module ") name (from_free (codes "module ") refl) (name_one_line name named)

spaced_one_line : (n : ℕ) → n < 2 ^ 64 → IsOneLine (numbered (codes " ") n)
unfolding free
spaced_one_line n small = All-append (λ c. c ≡ 10 → ⊥) (codes " ") (decimal n) (from_free (codes " ") refl) (number_one_line n small)

pub pair_one_line : (p : Pair) → IsValidPair p → IsOneLine (pair_words p)
unfolding free
pair_one_line p valid =
    let proc : p.proc < 4294967295 = valid.proc in
    let first : p.first < 4294967295 = valid.first in
    let second : p.second < 4294967295 = valid.second in
    All-append (λ c. c ≡ 10 → ⊥) (numbered (codes "pair ") p.proc) _
    (All-append (λ c. c ≡ 10 → ⊥) (codes "pair ") (decimal p.proc) (from_free (codes "pair ") refl) (number_one_line p.proc (omega arith)))
    (All-append (λ c. c ≡ 10 → ⊥) (numbered (codes " ") p.first) _ (spaced_one_line p.first (omega arith))
    (All-append (λ c. c ≡ 10 → ⊥) (numbered (codes " ") p.second) _ (spaced_one_line p.second (omega arith))
    (All-append (λ c. c ≡ 10 → ⊥) (numbered (codes " ") p.a) (numbered (codes " ") p.b) (spaced_one_line p.a valid.a) (spaced_one_line p.b valid.b))))

pairs_one_line : (ps : List Pair) → All IsValidPair ps → All IsOneLine (map pair_words ps)
pairs_one_line [] all = All-nil IsOneLine
pairs_one_line (p ∷ ps) all = All-cons IsOneLine (pair_words p) (map pair_words ps) (pair_one_line p (All-head IsValidPair p ps all)) (pairs_one_line ps (All-tail IsValidPair p ps all))

lines_are_lines : (f : Feedback) → IsValid f → All IsOneLine (feedback_lines f)
lines_are_lines f valid =
    All-cons IsOneLine title_words (least_words f.least ∷ module_words f.module ∷ map pair_words f.pairs) title_one_line
    (All-cons IsOneLine (least_words f.least) (module_words f.module ∷ map pair_words f.pairs) (least_one_line f.least valid.least)
    (All-cons IsOneLine (module_words f.module) (map pair_words f.pairs) (module_one_line f.module valid.name) (pairs_one_line f.pairs valid.pairs.each)))

-- ---- a text with a line at fault spells nothing

front : (xs ys : List (List ℕ)) → All IsOneLine (xs ++ ys) → All IsOneLine xs
front [] ys all = All-nil IsOneLine
front (x ∷ xs) ys all = All-cons IsOneLine x xs (All-head IsOneLine x (xs ++ ys) all) (front xs ys (All-tail IsOneLine x (xs ++ ys) all))

all_front : (xs ys zs : List (List ℕ)) → zs ≡ xs ++ ys → All IsOneLine zs → All IsOneLine xs
all_front xs ys zs is all = front xs ys (subst (λ (ls : List (List ℕ)). All IsOneLine ls) is all)

three_lines : (f : Feedback) (before : List (List ℕ)) → feedback_lines f ≡ before ++ [] → 3 ≤ length before
three_lines f before whole = let n : suc (suc (suc (length (map pair_words f.pairs)))) ≡ length before = ap length (whole ∙ append-nil before) in omega (arith, n)

second_all : (xs : List (List ℕ)) (y : List ℕ) (ys : List (List ℕ)) → All IsOneLine (xs ++ y ∷ ys) → IsOneLine y
second_all [] y ys all = All-head IsOneLine y ys all
second_all (x ∷ xs) y ys all = second_all xs y ys (All-tail IsOneLine x (xs ++ y ∷ ys) all)

wrong_line : (before : List (List ℕ)) (rest : List ℕ) (f : Feedback) → IsValid f → (more : List (List ℕ)) → feedback_lines f ≡ before ++ more → rest ≡ lines more
    → (IsCutOff before rest ⊎ IsWrong before rest) → ⊥
wrong_line before rest f valid [] whole is (inl cut) =
    let none : length rest ≡ 0 = ap length is in
    let three : 3 ≤ length before = three_lines f before whole in
    elim cut.due [ inl some ↦ omega (arith, some, none) | inr due ↦ omega (arith, due, three) ]
wrong_line before rest f valid (l ∷ more) whole is (inl cut) = not_ended rest l (lines more) cut.unended is
wrong_line before rest f valid [] whole is (inr wrong) = empty_no_line wrong.words wrong.after (sym wrong.is ∙ is)
wrong_line before rest f valid (l ∷ more) whole is (inr wrong) =
    let all : All IsOneLine (before ++ l ∷ more) = subst (λ (ls : List (List ℕ)). All IsOneLine ls) whole (lines_are_lines f valid) in
    let same : (wrong.words ≡ l) × (wrong.after ≡ lines more) = one_line_cut wrong.words l wrong.after (lines more) wrong.one (second_all before l more all) (sym wrong.is ∙ is) in
    let on : feedback_lines f ≡ (before ++ wrong.words ∷ []) ++ more
    = whole ∙ (ap (λ w. before ++ w ∷ more) (sym same.0) ∙ sym (append_assoc before (wrong.words ∷ []) more)) in
    wrong.wrong (record { feedback = f; valid = valid; more = more; is = on })

pub fault_spells_nothing : (text : List ℕ) (k : ℕ) (f : Feedback) → IsFaultAt text k → Spells text f → ⊥
fault_spells_nothing text k f fault spells =
    let one : All IsOneLine fault.before = all_front fault.before fault.begins.more (feedback_lines fault.begins.feedback) fault.begins.is (lines_are_lines fault.begins.feedback fault.begins.valid) in
    let on : GoOn fault.before (feedback_lines f) fault.rest = lines_go_on fault.before (feedback_lines f) fault.rest one (lines_are_lines f spells.valid) (sym fault.is ∙ spells.is) in
    wrong_line fault.before fault.rest f spells.valid on.more on.whole on.is fault.fault

-- ---- the line that is at fault

-- there is a feedback
some_feedback : (least : ℕ) (name : List ℕ) → Feedback
some_feedback least name = record { «module» = name; least = least; pairs = [] }

no_pairs : AreValidPairs []
no_pairs = record { each = All-nil IsValidPair; rise = tt }

a_feedback : (least : ℕ) → IsLeast least → IsValid (some_feedback least (97 ∷ []))
unfolding some_feedback
a_feedback least least_is = record { least = least_is; name = refl; pairs = no_pairs }

cut_or_wrong : (before : List (List ℕ)) (rest : List ℕ) (P : List ℕ → Type 0) → length before < 3 → ((words : List ℕ) → Begins (before ++ words ∷ []) → P words) → HasNo P rest
    → IsCutOff before rest ⊎ IsWrong before rest
cut_or_wrong before rest P due gives (inl one) = inl (record { unended = one; due = inr due })
cut_or_wrong before rest P due gives (inr other) =
    inr (record { words = other.words; after = other.after; one = other.one; is = other.is; wrong = λ b. other.wrong (gives other.words b) })

heads_same : (x y : List ℕ) (xs ys : List (List ℕ)) → x ∷ xs ≡ y ∷ ys → (x ≡ y) × (xs ≡ ys)
heads_same x y xs ys same = (cc, cc)

pub title_fault : (text : List ℕ) → HasNo IsTitle text → IsFaultAt text 1
unfolding some_feedback
title_fault text none = record {
  before = [];
  rest = text;
  is = refl;
  begins = record { feedback = some_feedback 1 (97 ∷ []); valid = a_feedback 1 (omega arith, omega arith); more = feedback_lines (some_feedback 1 (97 ∷ [])); is = refl };
  count = refl;
  fault = cut_or_wrong [] text IsTitle (omega arith) (λ words b. sym (heads_same title_words words _ b.more b.is).0) none;
}

one_line : (l text : List ℕ) → line l ++ text ≡ lines (l ∷ []) ++ text
one_line l text = ap (λ xs. xs ++ text) (sym (append-nil (line l)))

pub least_fault : (text after : List ℕ) → text ≡ line title_words ++ after → HasNo GivesLeast after → IsFaultAt text 2
unfolding some_feedback
least_fault text after is none = record {
  before = title_words ∷ [];
  rest = after;
  is = is ∙ one_line title_words after;
  begins = record { feedback = some_feedback 1 (97 ∷ []); valid = a_feedback 1 (omega arith, omega arith); more = _; is = refl };
  count = refl;
  fault = cut_or_wrong (title_words ∷ []) after GivesLeast (omega arith)
      (λ words b. (b.feedback.least, (b.valid.least, sym (heads_same (least_words b.feedback.least) words _ b.more (heads_same title_words title_words _ (words ∷ b.more) b.is).1).0))) none;
}

two_lines : (l m text rest : List ℕ) (after : List ℕ) → text ≡ line l ++ after → after ≡ line m ++ rest → text ≡ lines (l ∷ m ∷ []) ++ rest
two_lines l m text rest after is then' =
    is ∙ (ap (λ xs. line l ++ xs) (then' ∙ one_line m rest) ∙ sym (append_assoc (line l) (lines (m ∷ [])) rest))

pub module_fault : (text after rest : List ℕ) (k : ℕ) → text ≡ line title_words ++ after → BeginsWithLeast k after rest → HasNo GivesModule rest → IsFaultAt text 3
unfolding some_feedback
module_fault text after rest k is least none = record {
  before = title_words ∷ least_words k ∷ [];
  rest = rest;
  is = two_lines title_words (least_words k) text rest after is least.1;
  begins = record { feedback = some_feedback k (97 ∷ []); valid = a_feedback k least.0; more = _; is = refl };
  count = refl;
  fault = cut_or_wrong (title_words ∷ least_words k ∷ []) rest GivesModule (omega arith)
      (λ words b. (
        b.feedback.module,
        (
          b.valid.name,
          sym (heads_same (module_words b.feedback.module) words _ b.more
              (heads_same (least_words b.feedback.least) (least_words k) _ (words ∷ b.more) (heads_same title_words title_words _ (least_words k ∷ words ∷ b.more) b.is).1).1).0,
        ),
      )) none;
}

-- ---- the lines of pairs

pub pair_lines_are : (ps : List Pair) → lines (map pair_words ps) ≡ pair_lines ps
pair_lines_are [] = refl
pair_lines_are (p ∷ ps) = ap (λ xs. line (pair_words p) ++ xs) (pair_lines_are ps)

pub pair_lines_push : (ps : List Pair) (p : Pair) (rest : List ℕ) → pair_lines (ps ++ p ∷ []) ++ rest ≡ pair_lines ps ++ (line (pair_words p) ++ rest)
pair_lines_push [] p rest = ap (λ xs. xs ++ rest) (append-nil (line (pair_words p)))
pair_lines_push (q ∷ ps) p rest =
    append_assoc (line (pair_words q)) (pair_lines (ps ++ p ∷ [])) rest
    ∙ (ap (λ xs. line (pair_words q) ++ xs) (pair_lines_push ps p rest)
    ∙ sym (append_assoc (line (pair_words q)) (pair_lines ps) (line (pair_words p) ++ rest)))

-- pairs whose lines begin with those of others go on with a further pair
pub record PairGoesOn (ps qs : List Pair) (words : List ℕ) : Type 0 where
  pub pair : Pair
  pub more : List Pair
  pub is : qs ≡ ps ++ pair ∷ more
  pub spelled : words ≡ pair_words pair

pairs_go_on : (ps qs : List Pair) (words : List ℕ) (more : List (List ℕ)) → All IsValidPair ps → All IsValidPair qs → map pair_words qs ≡ (map pair_words ps ++ words ∷ []) ++ more → PairGoesOn ps qs words
pairs_go_on [] [] words more one also same = absurd (cc)
pairs_go_on [] (q ∷ qs) words more one also same = record { pair = q; more = qs; is = refl; spelled = sym (heads_same (pair_words q) words (map pair_words qs) more same).0 }
pairs_go_on (p ∷ ps) [] words more one also same = absurd (cc)
pairs_go_on (p ∷ ps) (q ∷ qs) words more one also same =
    let heads : (pair_words q ≡ pair_words p) × (map pair_words qs ≡ (map pair_words ps ++ words ∷ []) ++ more)
    = heads_same (pair_words q) (pair_words p) (map pair_words qs) ((map pair_words ps ++ words ∷ []) ++ more) same in
    let pair : q ≡ p = same_pair (pair_words p) q p (All-head IsValidPair q qs also, sym heads.0) (All-head IsValidPair p ps one, refl) in
    let on : PairGoesOn ps qs words = pairs_go_on ps qs words more (All-tail IsValidPair p ps one) (All-tail IsValidPair q qs also) heads.1 in
    record { pair = on.pair; more = on.more; is = ap (λ x. x ∷ qs) pair ∙ ap (λ xs. p ∷ xs) on.is; spelled = on.spelled }

member : (ps : List Pair) (p : Pair) (more : List Pair) → All IsValidPair (ps ++ p ∷ more) → IsValidPair p
member [] p more all = All-head IsValidPair p more all
member (q ∷ ps) p more all = member ps p more (All-tail IsValidPair q (ps ++ p ∷ more) all)

pub wrong_pair : (ps : List Pair) (text words after : List ℕ) (q : Pair) → IsOneLine words → text ≡ line words ++ after → IsPairLine q words → (Rise (ps ++ q ∷ []) → ⊥) → HasNo (GivesPairAfter ps) text
wrong_pair ps text words after q one is l falls = inr (record {
  words = words;
  after = after;
  one = one;
  is = is;
  wrong = λ g. falls (subst (λ (p : Pair). Rise (ps ++ p ∷ [])) (same_pair words g.0 q g.1 l) g.2);
})

three_and : (k : ℕ) (name : List ℕ) (ps : List Pair) (text after rest last end : List ℕ) → text ≡ line title_words ++ after → after ≡ line (least_words k) ++ rest → rest ≡ line (module_words name) ++ last
    → last ≡ pair_lines ps ++ end → text ≡ lines (title_words ∷ least_words k ∷ module_words name ∷ map pair_words ps) ++ end
three_and k name ps text after rest last end e1 e2 e3 e4 =
    let tail : last ≡ lines (map pair_words ps) ++ end = e4 ∙ ap (λ xs. xs ++ end) (sym (pair_lines_are ps)) in
    e1 ∙ (ap (λ xs. line title_words ++ xs)
    (e2 ∙ (ap (λ xs. line (least_words k) ++ xs)
    (e3 ∙ (ap (λ xs. line (module_words name) ++ xs) tail ∙ sym (append_assoc (line (module_words name)) (lines (map pair_words ps)) end)))
    ∙ sym (append_assoc (line (least_words k)) (lines (module_words name ∷ map pair_words ps)) end)))
    ∙ sym (append_assoc (line title_words) (lines (least_words k ∷ module_words name ∷ map pair_words ps)) end))

count_lines : (n m : ℕ) (k : ℕ) (name : List ℕ) (ps : List Pair) → n ≡ 4 + length ps → n ≡ suc (length (title_words ∷ least_words k ∷ module_words name ∷ map pair_words ps))
count_lines n m k name ps is = let l : length (map pair_words ps) ≡ length ps = length-map ps pair_words in omega (arith, is, l)

feedback_with : (k : ℕ) (name : List ℕ) (ps : List Pair) → Feedback
feedback_with k name ps = record { «module» = name; least = k; pairs = ps }

pair_wrong : (k : ℕ) (name : List ℕ) (ps : List Pair) (rest : List ℕ) → AreValidPairs ps → 0 < length rest → HasNo (GivesPairAfter ps) rest
    → IsCutOff (title_words ∷ least_words k ∷ module_words name ∷ map pair_words ps) rest ⊎ IsWrong (title_words ∷ least_words k ∷ module_words name ∷ map pair_words ps) rest
pair_wrong k name ps rest valid some (inl one) = inl (record { unended = one; due = inl some })
pair_wrong k name ps rest valid some (inr other) = inr (record {
  words = other.words;
  after = other.after;
  one = other.one;
  is = other.is;
  wrong = λ b.
      let pairs : map pair_words b.feedback.pairs ≡ (map pair_words ps ++ other.words ∷ []) ++ b.more
      = (heads_same (module_words b.feedback.module) (module_words name) (map pair_words b.feedback.pairs) ((map pair_words ps ++ other.words ∷ []) ++ b.more)
      (heads_same (least_words b.feedback.least) (least_words k) _ (module_words name ∷ ((map pair_words ps ++ other.words ∷ []) ++ b.more))
      (heads_same title_words title_words _ (least_words k ∷ module_words name ∷ ((map pair_words ps ++ other.words ∷ []) ++ b.more)) b.is).1).1).1 in
      let on : PairGoesOn ps b.feedback.pairs other.words = pairs_go_on ps b.feedback.pairs other.words b.more valid.each b.valid.pairs.each pairs in
      other.wrong (
        on.pair,
        (member ps on.pair on.more (subst (λ (qs : List Pair). All IsValidPair qs) on.is b.valid.pairs.each), on.spelled),
        rise_front ps on.pair on.more (subst Rise on.is b.valid.pairs.rise),
      );
})

pub pair_fault : (text after rest last : List ℕ) (k n : ℕ) (name : List ℕ) → text ≡ line title_words ++ after → BeginsWithLeast k after rest → BeginsWithModule name rest last → IsPairFault last n → IsFaultAt text n
unfolding feedback_with
pair_fault text after rest last k n name is least named fault = record {
  before = title_words ∷ least_words k ∷ module_words name ∷ map pair_words fault.before;
  rest = fault.rest;
  is = three_and k name fault.before text after rest last fault.rest is least.1 named.1 fault.is;
  begins = record {
    feedback = feedback_with k name fault.before;
    valid = record { least = least.0; name = named.0; pairs = fault.valid };
    more = [];
    is = sym (append-nil (feedback_lines (feedback_with k name fault.before)));
  };
  count = count_lines n n k name fault.before fault.count;
  fault = pair_wrong k name fault.before fault.rest fault.valid fault.some fault.fault;
}

-- ---- the text that was read

pub spelled : (text after rest last : List ℕ) (f : Feedback) → text ≡ line title_words ++ after → BeginsWithLeast f.least after rest → BeginsWithModule f.module rest last
    → AreValidPairs f.pairs → last ≡ pair_lines f.pairs → Spells text f
spelled text after rest last f is least named valid pairs = record {
  valid = record { least = least.0; name = named.0; pairs = valid };
  is = three_and f.least f.module f.pairs text after rest last [] is least.1 named.1 (pairs ∙ sym (append-nil (pair_lines f.pairs))) ∙ append-nil (feedback_text f);
}

-- the text of a feedback is its first three lines, and then its pairs
pub text_of : (f : Feedback) → feedback_text f ≡ head_text f ++ pair_lines f.pairs
text_of f =
    flat_map-append line (title_words ∷ least_words f.least ∷ module_words f.module ∷ []) (map pair_words f.pairs)
    ∙ ap (λ xs. head_text f ++ xs) (pair_lines_are f.pairs)

-- ---- a fault that is handed on

line_weaker : (e : FeedFault) (P Q : ℕ → Type 0) → IfLine e P → ((n : ℕ) → P n → Q n) → IfLine e Q
line_weaker (Line n) P Q h weaker = weaker n h
line_weaker NoMemory P Q h weaker = tt

pub handed_on : {A : Type 0} (r : Result A FeedFault) (e : FeedFault) (P Q : ℕ → Type 0) → IsErrAnd r (λ f. f ≡ e) → IfLine e P → ((n : ℕ) → P n → Q n) → IfErr r (λ f. IfLine f Q)
handed_on (Ok x) e P Q is h weaker = tt
handed_on (Err f) e P Q is h weaker = subst (λ (g : FeedFault). IfLine g Q) (sym is) (line_weaker e P Q h weaker)

pub title_fault_at : (text : List ℕ) (n : ℕ) → (n ≡ 1) × HasNo IsTitle text → IsFaultAt text n
title_fault_at text n h = subst (λ (k : ℕ). IsFaultAt text k) (sym h.0) (title_fault text h.1)

pub least_fault_at : (text after : List ℕ) → text ≡ line title_words ++ after → (n : ℕ) → (n ≡ 2) × HasNo GivesLeast after → IsFaultAt text n
least_fault_at text after is n h = subst (λ (k : ℕ). IsFaultAt text k) (sym h.0) (least_fault text after is h.1)

pub module_fault_at : (text after rest : List ℕ) (k : ℕ) → text ≡ line title_words ++ after → BeginsWithLeast k after rest → (n : ℕ) → (n ≡ 3) × HasNo GivesModule rest → IsFaultAt text n
module_fault_at text after rest k is least n h = subst (λ (m : ℕ). IsFaultAt text m) (sym h.0) (module_fault text after rest k is least h.1)

-- a text at fault spells nothing, at each number
abbrev pub SpellsNothing : List ℕ → ℕ → Type 0
SpellsNothing text n = (f : Feedback) → Spells text f → ⊥

pub no_feedback : (text : List ℕ) (n : ℕ) → IsFaultAt text n → SpellsNothing text n
no_feedback text n fault f spells = fault_spells_nothing text n f fault spells

-- ---- the loops

-- one pair more was read
pub pair_read : (ps qs : List Pair) (p : Pair) (text rest after : List ℕ) → AreValidPairs ps → text ≡ pair_lines ps ++ rest → length ps + length rest ≤ length text
    → qs ≡ ps ++ p ∷ [] → IsValidPair p → Rise (ps ++ p ∷ []) → rest ≡ line (pair_words p) ++ after
    → AreValidPairs qs × (text ≡ pair_lines qs ++ after) × (length qs + length after ≤ length text)
pair_read ps qs p text rest after valid is room pushed one rise cut =
    let whole : text ≡ pair_lines (ps ++ p ∷ []) ++ after = is ∙ (ap (λ xs. pair_lines ps ++ xs) cut ∙ sym (pair_lines_push ps p after)) in
    let long : length rest ≡ (length (pair_words p) + 1) + length after = ap length cut ∙ (length-append (line (pair_words p)) after ∙ ap (λ n. n + length after) (length-append (pair_words p) (10 ∷ []))) in
    let more : length qs ≡ length ps + 1 = ap length pushed ∙ length-append ps (p ∷ []) in (
      record { each = subst (λ (xs : List Pair). All IsValidPair xs) (sym pushed) (All-push IsValidPair ps p valid.each one); rise = subst Rise (sym pushed) rise },
      whole ∙ ap (λ (xs : List Pair). pair_lines xs ++ after) (sym pushed),
      omega (arith, room, long, more),
    )

-- one pair more was written
pub pair_written : (head : List ℕ) (ps : List Pair) (i : ℕ) (p : Pair) (old new : List ℕ) → i < length ps → p ≡ get_or ps i p → old ≡ head ++ pair_lines (take i ps) → new ≡ old ++ line (pair_words p)
    → new ≡ head ++ pair_lines (take (i + 1) ps)
pair_written head ps i p old new lt is so_far added =
    let more : pair_lines (take i ps ++ p ∷ []) ≡ pair_lines (take i ps) ++ line (pair_words p)
    = sym (append-nil (pair_lines (take i ps ++ p ∷ []))) ∙ (pair_lines_push (take i ps) p [] ∙ ap (λ xs. pair_lines (take i ps) ++ xs) (append-nil (line (pair_words p)))) in
    let taken : take (i + 1) ps ≡ take i ps ++ p ∷ [] = take_more ps i p lt ∙ ap (λ q. take i ps ++ q ∷ []) (sym is) in
    added ∙ (ap (λ xs. xs ++ line (pair_words p)) so_far ∙ (append_assoc head (pair_lines (take i ps)) (line (pair_words p))
    ∙ ap (λ xs. head ++ xs) (sym more ∙ ap pair_lines (sym taken))))

-- ---- a text spells one feedback

same_words : (words : List ℕ) (m n : ℕ) → m < 2 ^ 64 → n < 2 ^ 64 → numbered words m ≡ numbered words n → m ≡ n
same_words words m n small also same = decimal_injective m n small also (append_cancel_left words (decimal m) (decimal n) same)

same_pairs : (ps qs : List Pair) → All IsValidPair ps → All IsValidPair qs → map pair_words ps ≡ map pair_words qs → ps ≡ qs
same_pairs [] [] one also same = refl
same_pairs [] (q ∷ qs) one also same = absurd (cc)
same_pairs (p ∷ ps) [] one also same = absurd (cc)
same_pairs (p ∷ ps) (q ∷ qs) one also same =
    let heads : (pair_words p ≡ pair_words q) × (map pair_words ps ≡ map pair_words qs) = heads_same (pair_words p) (pair_words q) (map pair_words ps) (map pair_words qs) same in
    let first : p ≡ q = same_pair (pair_words p) p q (All-head IsValidPair p ps one, refl) (All-head IsValidPair q qs also, heads.0) in
    ap (λ x. x ∷ ps) first ∙ ap (λ xs. q ∷ xs) (same_pairs ps qs (All-tail IsValidPair p ps one) (All-tail IsValidPair q qs also) heads.1)

same_feedback : (f g : Feedback) → f.least ≡ g.least → f.module ≡ g.module → f.pairs ≡ g.pairs → f ≡ g
unfolding feedback_with
same_feedback f g e1 e2 e3 =
    ap (λ k. feedback_with k f.module f.pairs) e1 ∙ (ap (λ name. feedback_with g.least name f.pairs) e2 ∙ ap (λ ps. feedback_with g.least g.module ps) e3)

same_lines : (f g : Feedback) → IsValid f → IsValid g → feedback_lines g ≡ feedback_lines f → f ≡ g
same_lines f g valid also same =
    let one = heads_same title_words title_words (least_words g.least ∷ module_words g.module ∷ map pair_words g.pairs) (least_words f.least ∷ module_words f.module ∷ map pair_words f.pairs) same in
    let two = heads_same (least_words g.least) (least_words f.least) (module_words g.module ∷ map pair_words g.pairs) (module_words f.module ∷ map pair_words f.pairs) one.1 in
    let three = heads_same (module_words g.module) (module_words f.module) (map pair_words g.pairs) (map pair_words f.pairs) two.1 in
    let high : f.least ≤ 4294967295 = valid.least.1 in
    let high' : g.least ≤ 4294967295 = also.least.1 in
    same_feedback f g
    (same_words (codes "least ") f.least g.least (omega arith) (omega arith) (sym two.0))
    (append_cancel_left (codes "module ") f.module g.module (sym three.0))
    (same_pairs f.pairs g.pairs valid.pairs.each also.pairs.each (sym three.1))

none_left : (more : List (List ℕ)) → [] ≡ lines more → more ≡ []
none_left [] is = refl
none_left (l ∷ more) is = absurd (empty_no_line l (lines more) (sym is))

pub one_feedback : (text : List ℕ) (f g : Feedback) → Spells text f → Spells text g → f ≡ g
one_feedback text f g a b =
    let on : GoOn (feedback_lines f) (feedback_lines g) [] = lines_go_on (feedback_lines f) (feedback_lines g) [] (lines_are_lines f a.valid) (lines_are_lines g b.valid)
    (append-nil (feedback_text f) ∙ (sym a.is ∙ b.is)) in
    let whole : feedback_lines g ≡ feedback_lines f = on.whole ∙ (ap (λ ls. feedback_lines f ++ ls) (none_left on.more on.is) ∙ append-nil (feedback_lines f)) in
    same_lines f g a.valid b.valid whole

pub own_feedback : (f g : Feedback) → IsValid f → Spells (feedback_text f) g → g ≡ f
own_feedback f g valid spells = one_feedback (feedback_text f) g f spells (record { valid = valid; is = refl })

-- ---- a text has one line at fault

-- of lines at the front of one text, one are those that come first of the others
record Longer (before after : List (List ℕ)) (rest end' : List ℕ) : Type 0 where
  more : List (List ℕ)
  whole : after ≡ before ++ more
  is : rest ≡ lines more ++ end'

longer_by : (b a : List ℕ) (before after : List (List ℕ)) (rest end' : List ℕ) → b ≡ a → Longer before after rest end' → Longer (b ∷ before) (a ∷ after) rest end'
longer_by b a before after rest end' same l = record { more = l.more; whole = ap (λ x. x ∷ after) (sym same) ∙ ap (λ xs. b ∷ xs) l.whole; is = l.is }

fronts_compare : (before after : List (List ℕ)) (rest end' : List ℕ) → All IsOneLine before → All IsOneLine after → lines before ++ rest ≡ lines after ++ end'
    → Longer before after rest end' ⊎ Longer after before end' rest
fronts_compare [] after rest end' one also same = inl (record { more = after; whole = refl; is = same })
fronts_compare (b ∷ before) [] rest end' one also same = inr (record { more = b ∷ before; whole = refl; is = sym same })
fronts_compare (b ∷ before) (a ∷ after) rest end' one also same =
    let cut : (b ≡ a) × (lines before ++ rest ≡ lines after ++ end')
    = one_line_cut b a (lines before ++ rest) (lines after ++ end') (All-head IsOneLine b before one) (All-head IsOneLine a after also)
    (sym (append_assoc (line b) (lines before) rest) ∙ (same ∙ append_assoc (line a) (lines after) end')) in
    elim (fronts_compare before after rest end' (All-tail IsOneLine b before one) (All-tail IsOneLine a after also) cut.1) [
      | inl l ↦ inl (longer_by b a before after rest end' cut.0 l)
      | inr l ↦ inr (longer_by a b after before end' rest (sym cut.0) l)
    ]

-- what lines at fault are followed by begins no feedback with them
not_longer : (before after : List (List ℕ)) (rest end' : List ℕ) (l : List ℕ) (more : List (List ℕ)) → after ≡ before ++ l ∷ more → rest ≡ lines (l ∷ more) ++ end' → All IsOneLine after → Begins after
    → IsCutOff before rest ⊎ IsWrong before rest → ⊥
not_longer before after rest end' l more whole is one begins (inl cut) =
    not_ended rest l (lines more ++ end') cut.unended (is ∙ append_assoc (line l) (lines more) end')
not_longer before after rest end' l more whole is one begins (inr wrong) =
    let all : All IsOneLine (before ++ l ∷ more) = subst (λ (ls : List (List ℕ)). All IsOneLine ls) whole one in
    let same : (wrong.words ≡ l) × (wrong.after ≡ lines more ++ end')
    = one_line_cut wrong.words l wrong.after (lines more ++ end') wrong.one (second_all before l more all) (sym wrong.is ∙ (is ∙ append_assoc (line l) (lines more) end')) in
    let on : feedback_lines begins.feedback ≡ (before ++ wrong.words ∷ []) ++ (more ++ begins.more)
    = begins.is ∙ (ap (λ ls. ls ++ begins.more) whole ∙ (append_assoc before (l ∷ more) begins.more
    ∙ (ap (λ w. before ++ w ∷ (more ++ begins.more)) (sym same.0) ∙ sym (append_assoc before (wrong.words ∷ []) (more ++ begins.more))))) in
    wrong.wrong (record { feedback = begins.feedback; valid = begins.valid; more = more ++ begins.more; is = on })

no_longer : (before after : List (List ℕ)) (rest end' : List ℕ) (more : List (List ℕ)) → after ≡ before ++ more → rest ≡ lines more ++ end' → All IsOneLine after → Begins after
    → IsCutOff before rest ⊎ IsWrong before rest → after ≡ before
no_longer before after rest end' [] whole is one begins fault = whole ∙ append-nil before
no_longer before after rest end' (l ∷ more) whole is one begins fault = absurd (not_longer before after rest end' l more whole is one begins fault)

begun_lines : (before : List (List ℕ)) → Begins before → All IsOneLine before
begun_lines before begins = all_front before begins.more (feedback_lines begins.feedback) begins.is (lines_are_lines begins.feedback begins.valid)

pub one_fault : (text : List ℕ) (m n : ℕ) → IsFaultAt text m → IsFaultAt text n → m ≡ n
one_fault text m n a b =
    let one : All IsOneLine a.before = begun_lines a.before a.begins in
    let also : All IsOneLine b.before = begun_lines b.before b.begins in
    elim (fronts_compare a.before b.before a.rest b.rest one also (sym a.is ∙ b.is)) [
      | inl l ↦ (let same : b.before ≡ a.before = no_longer a.before b.before a.rest b.rest l.more l.whole l.is also b.begins a.fault in a.count ∙ (ap (λ ls. suc (length ls)) (sym same) ∙ sym b.count))
      | inr l ↦ (let same : a.before ≡ b.before = no_longer b.before a.before b.rest a.rest l.more l.whole l.is one a.begins b.fault in a.count ∙ (ap (λ ls. suc (length ls)) same ∙ sym b.count))
    ]
