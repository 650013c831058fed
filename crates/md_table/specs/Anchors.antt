-- What the last column of a table names, as anchors (the element `a` of HTML). Its cells are words with spaces between them. A procedure
-- stands there by its full name, a context and a clique by their numbers, each behind a word that says what it is, and a module by its
-- name, in a column of its own: that is all that the page of each is asked by.
use Rattle.std.specs.Prelude.{ℕ, Bool, ◌==◌, List, [], ◌∷◌, ◌++◌, codes, if◌then◌else◌, bytes_eq, Option, Some, None}
use Rattle.std.specs.List.{flat_map, list_any}
use Rattle.percent_encoding.specs.Percent.{percent_encode}
use Rattle.percent_encoding.specs.declared.ascii_set.TheConstants.{NON_ALPHANUMERIC}
use Rattle.md_table.specs.declared.target.Target.{Target}
use Rattle.md_table.specs.declared.target.Target.TheVariants.{Proc, Context, Clique, Module}

-- ---- escapes

-- five bytes stand for something else in HTML, and are written as references: & < > " and '
abbrev pub escaped_byte : ℕ → List ℕ
escaped_byte byte =
    if byte == 38 then codes "&amp;"
    else (if byte == 60 then codes "&lt;"
    else (if byte == 62 then codes "&gt;"
    else (if byte == 34 then codes "&quot;"
    else (if byte == 39 then codes "&#39;"
    else byte ∷ []))))

abbrev pub escaped : List ℕ → List ℕ
escaped bytes = flat_map escaped_byte bytes

-- ---- anchors

abbrev pub anchor : (address words : List ℕ) → List ℕ
anchor address words = codes "<a href=\"" ++ (address ++ (codes "\">" ++ (words ++ codes "</a>")))

-- where the address of a page begins, by the measure of the page where the anchor stands
abbrev pub front_of : (by : List ℕ) → Target → List ℕ
front_of by Proc = codes "/callers?by=" ++ (by ++ codes "&amp;name=")
front_of by Context = codes "/context?by=" ++ (by ++ codes "&amp;id=")
front_of by Clique = codes "/clique?id="
front_of by Module = codes "/module?name="

-- a word that names something: in the address each byte that is no letter and no digit is escaped
abbrev pub named_html : (by : List ℕ) → Target → (word : List ℕ) → List ℕ
named_html by target word = anchor (front_of by target ++ percent_encode NON_ALPHANUMERIC word) (escaped word)

-- ---- words

-- the words between spaces: the first, and those behind it. There is an empty one before each space that follows on no word
abbrev pub words_of : List ℕ → List ℕ × List (List ℕ)
words_of [] = ([], [])
words_of (b ∷ bs) = if b == 32 then ([], (words_of bs).0 ∷ (words_of bs).1) else (b ∷ (words_of bs).0, (words_of bs).1)

-- a full name alone has a `/` in it
abbrev pub has_slash : List ℕ → Bool
has_slash word = list_any (λ b. b == 47) word

-- what a word names, by the word before it
abbrev pub target_of : (before word : List ℕ) → Option Target
target_of before word =
    if has_slash word then Some Proc
    else (if bytes_eq before (codes "context") then Some Context
    else (if bytes_eq before (codes "clique") then Some Clique
    else None))

abbrev pub targeted_html : (by : List ℕ) → Option Target → (word : List ℕ) → List ℕ
targeted_html by None word = escaped word
targeted_html by (Some target) word = named_html by target word

abbrev pub word_html : (by before word : List ℕ) → List ℕ
word_html by before word = targeted_html by (target_of before word) word

-- the words behind one, with a space before each
abbrev pub behind_html : (by before : List ℕ) → List (List ℕ) → List ℕ
behind_html by before [] = []
behind_html by before (word ∷ words) = 32 ∷ (word_html by before word ++ behind_html by word words)

-- each word, as an anchor where it names something
abbrev pub text_html : (by text : List ℕ) → List ℕ
text_html by text = word_html by [] (words_of text).0 ++ behind_html by (words_of text).0 (words_of text).1
