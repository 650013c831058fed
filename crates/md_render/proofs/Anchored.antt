-- The words of rows for people as HTML.
use Rattle.std.proofs.Common.{◌≡◌, ◌<◌, ℕ, Bool, true, false, List, [], ◌∷◌, ◌++◌, length, get_or, codes, refl, sym, ap, ◌∙◌, subst, arith, append_assoc, eqb, min, ◌*◌}
use Rattle.std.specs.Prelude.{◌≢◌, ◌==◌, ◌||◌, bytes_eq}
use Rattle.std.specs.Char.{digit_value}
use Rattle.std.specs.Fmt.{decimal}
use Rattle.std.specs.List.{list_any}
use Rattle.std.specs.Str.Parse.{AllDigits}
use Rattle.std.proofs.lemmas.Bool.{and_parts, ne_eqb, false_from_ne_true}
use Rattle.std.proofs.lemmas.Fmt.{decimal_is_IsNumeral}
use Rattle.std.proofs.lemmas.List.{append-nil}
use Rattle.std.proofs.lemmas.List.Folds.{list_any-append}
use Rattle.std.proofs.lemmas.Option.{slice_get-get_or, unwrap_or-slice_get}
use Rattle.std.proofs.lemmas.Slice.Eq.{bytes_eq-Decides}
use Rattle.md_static.specs.declared.entry.Proc.{Proc}
use Rattle.md_static.specs.Names.{are_words, is_word}
use Rattle.md_static.specs.Sound.{IsSound}
use Rattle.md_static.specs.Tables.{Static}
use Rattle.md_table.specs.Anchors.{behind_html, escaped, has_slash, text_html, word_html}
use Rattle.md_table.specs.Cells.{indent_of}
use Rattle.md_people.proofs.Names.{words_of_name}
use Rattle.md_people.specs.declared.led.Led.{Led}
use Rattle.md_people.specs.Words.{called_words, caller_words, from_words, full_name, full_name_of, led_words, left_words, line_at, line_words, owner_of, site_words, station_words}
use Rattle.md_render.specs.Named.{AreAnchors, HaveArities, left_html, IsSmall, asked_html, clique_html, context_html, proc_html}
use Rattle.md_render.proofs.Texts.{IsBehind, has_space, spaces_stay, text_begins, text_goes_on, words_behind}

-- ---- signs that a word hasn't

free_words : (sign : ℕ) → is_word sign ≡ false → (word : List ℕ) → are_words word ≡ true → list_any (λ b. b == sign) word ≡ false
free_words sign apart [] e = refl
free_words sign apart (c ∷ cs) e =
    let both = and_parts (is_word c) (are_words cs) e in
    rw (ne_eqb c sign (λ same. let no : true ≡ false = sym both.0 ∙ ap is_word same ∙ apart in cc), free_words sign apart cs both.1) refl

free_digits : (sign : ℕ) → (digit_value sign < 10 → ⊥) → (ds : List ℕ) → AllDigits 10 ds → list_any (λ b. b == sign) ds ≡ false
free_digits sign none [] h = refl
free_digits sign none (c ∷ cs) h = rw (ne_eqb c sign (λ same. none (subst (λ (x : ℕ). digit_value x < 10) same h.0)), free_digits sign none cs h.1) refl

-- a digit needs no escape
stays : (sign c : ℕ) → (digit_value sign < 10 → ⊥) → digit_value c < 10 → eqb c sign ≡ false
stays sign c none h = ne_eqb c sign (λ same. none (subst (λ (x : ℕ). digit_value x < 10) same h))

escaped_digits : (ds : List ℕ) → AllDigits 10 ds → escaped ds ≡ ds
escaped_digits [] h = refl
escaped_digits (c ∷ cs) h =
    rw (stays 38 c (λ d. omega (arith, d)) h.0, stays 60 c (λ d. omega (arith, d)) h.0, stays 62 c (λ d. omega (arith, d)) h.0, stays 34 c (λ d. omega (arith, d)) h.0, stays 39 c (λ d. omega (arith, d)) h.0)
    (ap (λ (xs : List ℕ). c ∷ xs) (escaped_digits cs h.1))

pub digits_of : (n : ℕ) → IsSmall n → AllDigits 10 (decimal n)
digits_of n small = (decimal_is_IsNumeral n small).0.1

pub number_space : (n : ℕ) → IsSmall n → has_space (decimal n) ≡ false
number_space n small = free_digits 32 (λ d. omega (arith, d)) (decimal n) (digits_of n small)

pub number_slash : (n : ℕ) → IsSmall n → has_slash (decimal n) ≡ false
number_slash n small = free_digits 47 (λ d. omega (arith, d)) (decimal n) (digits_of n small)

pub number_escaped : (n : ℕ) → IsSmall n → escaped (decimal n) ≡ decimal n
number_escaped n small = escaped_digits (decimal n) (digits_of n small)

-- ---- words that ask for nothing by what stands behind them

-- no word behind which a number is one of a context or of a clique
abbrev pub IsOther : List ℕ → Type 0
IsOther word = (bytes_eq word (codes "context") ≡ false) × (bytes_eq word (codes "clique") ≡ false)

other_than : (word : List ℕ) → word ≢ codes "context" → word ≢ codes "clique" → IsOther word
other_than word context clique = (
  false_from_ne_true (bytes_eq word (codes "context")) (λ e. context ((bytes_eq-Decides word (codes "context")).0 e)),
  false_from_ne_true (bytes_eq word (codes "clique")) (λ e. clique ((bytes_eq-Decides word (codes "clique")).0 e)),
)

pub number_is_other : (n : ℕ) → IsSmall n → IsOther (decimal n)
number_is_other n small =
    other_than (decimal n) (λ same. let d : digit_value 99 < 10 = (subst (AllDigits 10) same (digits_of n small)).0 in omega (arith, d))
    (λ same. let d : digit_value 99 < 10 = (subst (AllDigits 10) same (digits_of n small)).0 in omega (arith, d))

pub named_is_other : (word : List ℕ) → has_slash word ≡ true → IsOther word
named_is_other word slash =
    other_than word (λ same. let no : false ≡ true = ap has_slash (sym same) ∙ slash in cc) (λ same. let no : false ≡ true = ap has_slash (sym same) ∙ slash in cc)

-- such a word is followed by a plain one
pub plain_word : (by before word : List ℕ) → IsOther before → has_slash word ≡ false → word_html by before word ≡ escaped word
plain_word by before word other none = rw (none, other.0, other.1) refl

-- ---- full names

or_true : (b : Bool) → (b || true) ≡ true
or_true true = refl
or_true false = refl

abbrev some_proc : Proc
some_proc = record { «module» = 0; name = []; arity = 0 }

-- a name of a module and one of a procedure with the number of its arguments
abbrev spelled : (owner name arity : List ℕ) → List ℕ
spelled owner name arity = owner ++ 46 ∷ (name ++ 47 ∷ arity)

spelled_space : (owner name arity : List ℕ) → has_space owner ≡ false → has_space name ≡ false → has_space arity ≡ false → has_space (spelled owner name arity) ≡ false
spelled_space owner name arity m n a =
    let inner : has_space (name ++ 47 ∷ arity) ≡ false = list_any-append (λ (b : ℕ). b == 32) name (47 ∷ arity) ∙ rw (n, a) refl in
    list_any-append (λ (b : ℕ). b == 32) owner (46 ∷ (name ++ 47 ∷ arity)) ∙ rw (m, inner) refl

spelled_slash : (owner name arity : List ℕ) → has_slash (spelled owner name arity) ≡ true
spelled_slash owner name arity =
    let inner : has_slash (name ++ 47 ∷ arity) ≡ true = list_any-append (λ (b : ℕ). b == 47) name (47 ∷ arity) ∙ or_true (has_slash name) in
    list_any-append (λ (b : ℕ). b == 47) owner (46 ∷ (name ++ 47 ∷ arity)) ∙ rw inner (or_true (has_slash owner))

module _ (s : Static) (sound : IsSound s) (arities : HaveArities s) (q : ℕ) (there : q < length s.procs) where
  abbrev proc : Proc
  proc = get_or s.procs q some_proc

  abbrev owner : List ℕ
  owner = get_or s.modules proc.«module» []

  full_is : full_name s q ≡ spelled owner proc.name (decimal proc.arity)
  full_is =
      ap (full_name_of s) (slice_get-get_or s.procs q some_proc there)
      ∙ ap (λ (m : List ℕ). spelled m proc.name (decimal proc.arity)) (unwrap_or-slice_get s.modules proc.«module» [])

  pub full_space : has_space (full_name s q) ≡ false
  full_space =
      let small : IsSmall proc.arity = omega (arith, arities q some_proc there) in
      ap has_space full_is
      ∙ spelled_space owner proc.name (decimal proc.arity)
      (free_words 32 refl owner (words_of_name owner (sound.modules_are_names proc.«module» [] (sound.modules_there q some_proc there))))
      (free_words 32 refl proc.name (words_of_name proc.name (sound.procs_have_names q some_proc there)))
      (number_space proc.arity small)

  pub full_slash : has_slash (full_name s q) ≡ true
  full_slash = ap has_slash full_is ∙ spelled_slash owner proc.name (decimal proc.arity)

asked_by_name : (by word : List ℕ) → has_slash word ≡ true → word_html by [] word ≡ asked_html (codes "/callers?by=" ++ (by ++ codes "&amp;name=")) word
asked_by_name by word slash = rw slash refl

asked_as_context : (by word : List ℕ) → has_slash word ≡ false → word_html by (codes "context") word ≡ asked_html (codes "/context?by=" ++ (by ++ codes "&amp;id=")) word
asked_as_context by word none = rw none refl

asked_as_clique : (by word : List ℕ) → has_slash word ≡ false → word_html by (codes "clique") word ≡ asked_html (codes "/clique?id=") word
asked_as_clique by word none = rw none refl

-- a text that begins with a procedure's full name begins with its anchor
pub name_begins : (by : List ℕ) (s : Static) → IsSound s → HaveArities s → (q : ℕ) → q < length s.procs → (rest : List ℕ) → IsBehind rest
    → text_html by (full_name s q ++ rest) ≡ proc_html by s q ++ behind_html by (full_name s q) (words_behind rest)
name_begins by s sound arities q there rest is =
    text_begins by (full_name s q) rest (full_space s sound arities q there) is
    ∙ ap (λ (xs : List ℕ). xs ++ behind_html by (full_name s q) (words_behind rest)) (asked_by_name by (full_name s q) (full_slash s sound arities q there))

pub name_is_other : (s : Static) → IsSound s → HaveArities s → (q : ℕ) → q < length s.procs → IsOther (full_name s q)
name_is_other s sound arities q there = named_is_other (full_name s q) (full_slash s sound arities q there)

-- ---- what stands behind a name

-- a plain number behind a plain word, as ` line 5`
pub plain_field : (by before word : List ℕ) (n : ℕ) (rest : List ℕ) → IsOther before → has_space word ≡ false → has_slash word ≡ false → escaped word ≡ word → IsOther word → IsSmall n → IsBehind rest
    → behind_html by before (words_behind (32 ∷ (word ++ 32 ∷ (decimal n ++ rest)))) ≡ 32 ∷ (word ++ 32 ∷ (decimal n ++ behind_html by (decimal n) (words_behind rest)))
plain_field by before word n rest other space slash stays asks small is =
    text_goes_on by before word (32 ∷ (decimal n ++ rest)) space refl
    ∙ ap (λ (xs : List ℕ). 32 ∷ (xs ++ behind_html by word (words_behind (32 ∷ (decimal n ++ rest))))) (plain_word by before word other slash ∙ stays)
    ∙ ap (λ (xs : List ℕ). 32 ∷ (word ++ xs))
    (text_goes_on by word (decimal n) rest (number_space n small) is
    ∙ ap (λ (xs : List ℕ). 32 ∷ (xs ++ behind_html by (decimal n) (words_behind rest))) (plain_word by word (decimal n) asks (number_slash n small) ∙ number_escaped n small))

-- a number that is asked for behind `context`
pub context_field : (by before : List ℕ) (n : ℕ) (rest : List ℕ) → IsOther before → IsSmall n → IsBehind rest
    → behind_html by before (words_behind ((codes " context " ++ decimal n) ++ rest)) ≡ context_html by n ++ behind_html by (decimal n) (words_behind rest)
context_field by before n rest other small is =
    text_goes_on by before (codes "context") (32 ∷ (decimal n ++ rest)) refl refl
    ∙ ap (λ (xs : List ℕ). 32 ∷ (xs ++ behind_html by (codes "context") (words_behind (32 ∷ (decimal n ++ rest))))) (plain_word by before (codes "context") other refl)
    ∙ ap (λ (xs : List ℕ). codes " context" ++ xs)
    (text_goes_on by (codes "context") (decimal n) rest (number_space n small) is
    ∙ ap (λ (xs : List ℕ). 32 ∷ (xs ++ behind_html by (decimal n) (words_behind rest))) (asked_as_context by (decimal n) (number_slash n small)))

pub clique_field : (by before : List ℕ) (n : ℕ) (rest : List ℕ) → IsOther before → IsSmall n → IsBehind rest
    → behind_html by before (words_behind ((codes " clique " ++ decimal n) ++ rest)) ≡ clique_html n ++ behind_html by (decimal n) (words_behind rest)
clique_field by before n rest other small is =
    text_goes_on by before (codes "clique") (32 ∷ (decimal n ++ rest)) refl refl
    ∙ ap (λ (xs : List ℕ). 32 ∷ (xs ++ behind_html by (codes "clique") (words_behind (32 ∷ (decimal n ++ rest))))) (plain_word by before (codes "clique") other refl)
    ∙ ap (λ (xs : List ℕ). codes " clique" ++ xs)
    (text_goes_on by (codes "clique") (decimal n) rest (number_space n small) is
    ∙ ap (λ (xs : List ℕ). 32 ∷ (xs ++ behind_html by (decimal n) (words_behind rest))) (asked_as_clique by (decimal n) (number_slash n small)))

-- where a call is, as ` line 5 site 1`
abbrev place : (line site : ℕ) (rest : List ℕ) → List ℕ
place l x rest = (codes " line " ++ decimal l) ++ ((codes " site " ++ decimal x) ++ rest)

place_field : (by before : List ℕ) (l x : ℕ) (rest : List ℕ) → IsOther before → IsSmall l → IsSmall x → IsBehind rest
    → behind_html by before (words_behind (place l x rest)) ≡ place l x (behind_html by (decimal x) (words_behind rest))
place_field by before l x rest other small_l small_x is =
    plain_field by before (codes "line") l ((codes " site " ++ decimal x) ++ rest) other refl refl refl (refl, refl) small_l refl
    ∙ ap (λ (xs : List ℕ). (codes " line " ++ decimal l) ++ xs) (plain_field by (decimal l) (codes "site") x rest (number_is_other l small_l) refl refl refl (refl, refl) small_x is)

-- the same behind ` from`
from_field : (by before : List ℕ) (l x : ℕ) (rest : List ℕ) → IsOther before → IsSmall l → IsSmall x → IsBehind rest
    → behind_html by before (words_behind (codes " from" ++ place l x rest)) ≡ codes " from" ++ place l x (behind_html by (decimal x) (words_behind rest))
from_field by before l x rest other small_l small_x is =
    text_goes_on by before (codes "from") (place l x rest) refl refl
    ∙ ap (λ (xs : List ℕ). 32 ∷ (xs ++ behind_html by (codes "from") (words_behind (place l x rest)))) (plain_word by before (codes "from") other refl)
    ∙ ap (λ (xs : List ℕ). codes " from" ++ xs) (place_field by (codes "from") l x rest (refl, refl) small_l small_x is)

-- a place is parted into its fields
place_parts : (l x : ℕ) (rest : List ℕ) → ((codes " line " ++ decimal l) ++ (codes " site " ++ decimal x)) ++ rest ≡ place l x rest
place_parts l x rest = append_assoc (codes " line " ++ decimal l) (codes " site " ++ decimal x) rest

place_whole : (l x : ℕ) → (codes " line " ++ decimal l) ++ (codes " site " ++ decimal x) ≡ place l x []
place_whole l x = ap (λ (xs : List ℕ). (codes " line " ++ decimal l) ++ xs) (sym (append-nil (codes " site " ++ decimal x)))

-- ---- the rows

module _ (by : List ℕ) (s : Static) (sound : IsSound s) (arities : HaveArities s) where
  procs_are : (q : ℕ) → q < length s.procs → text_html by (full_name s q) ≡ proc_html by s q
  procs_are q there =
      ap (λ (xs : List ℕ). text_html by xs) (sym (append-nil (full_name s q)))
      ∙ name_begins by s sound arities q there [] tt
      ∙ append-nil (proc_html by s q)

  callers_are : (x : ℕ) → owner_of s x < length s.procs → IsSmall (line_at s x) → IsSmall x
      → text_html by (caller_words s x) ≡ proc_html by s (owner_of s x) ++ (line_words s x ++ site_words x)
  callers_are x there small_l small_x =
      let q = owner_of s x in
      let l = line_at s x in
      ap (λ (xs : List ℕ). text_html by (full_name s q ++ xs)) (place_whole l x)
      ∙ name_begins by s sound arities q there (place l x []) refl
      ∙ ap (λ (xs : List ℕ). proc_html by s q ++ xs)
      (place_field by (full_name s q) l x [] (name_is_other s sound arities q there) small_l small_x tt ∙ sym (place_whole l x))

  callees_are : (x q : ℕ) → q < length s.procs → IsSmall (line_at s x) → IsSmall x → text_html by (called_words s x q) ≡ proc_html by s q ++ from_words s x
  callees_are x q there small_l small_x =
      let l = line_at s x in
      ap (λ (xs : List ℕ). text_html by (full_name s q ++ (codes " from" ++ xs))) (place_whole l x)
      ∙ name_begins by s sound arities q there (codes " from" ++ place l x []) refl
      ∙ ap (λ (xs : List ℕ). proc_html by s q ++ xs)
      (from_field by (full_name s q) l x [] (name_is_other s sound arities q there) small_l small_x tt
      ∙ ap (λ (xs : List ℕ). codes " from" ++ xs) (sym (place_whole l x)))

  -- a clique at the end
  clique_ends : (before : List ℕ) (k : ℕ) → IsOther before → IsSmall k → behind_html by before (words_behind (codes " clique " ++ decimal k)) ≡ clique_html k
  clique_ends before k other small =
      ap (λ (xs : List ℕ). behind_html by before (words_behind xs)) (sym (append-nil (codes " clique " ++ decimal k)))
      ∙ clique_field by before k [] other small tt
      ∙ append-nil (clique_html k)

  stations_are : (level q c k : ℕ) → q < length s.procs → IsSmall c → IsSmall k
      → text_html by (indent_of level ++ station_words s q c k) ≡ indent_of level ++ (proc_html by s q ++ (context_html by c ++ clique_html k))
  stations_are level q c k there small_c small_k =
      spaces_stay by (2 * min level 100) (station_words s q c k)
      ∙ ap (λ (xs : List ℕ). indent_of level ++ xs)
      (name_begins by s sound arities q there ((codes " context " ++ decimal c) ++ (codes " clique " ++ decimal k)) refl
      ∙ ap (λ (xs : List ℕ). proc_html by s q ++ xs)
      (context_field by (full_name s q) c (codes " clique " ++ decimal k) (name_is_other s sound arities q there) small_c refl
      ∙ ap (λ (xs : List ℕ). context_html by c ++ xs) (clique_ends (decimal c) k (number_is_other c small_c) small_k)))

  -- where a link leaves its clique, that is told at the end
  left_ends : (before : List ℕ) (leaves : Bool) (k : ℕ) → IsOther before → IsSmall k → (IsBehind (left_words leaves k)) × (behind_html by before (words_behind (left_words leaves k)) ≡ left_html leaves k)
  left_ends before true k other small = (refl, clique_ends before k other small)
  left_ends before false k other small = (tt, refl)

  led_are : (led : Led) (leaves : Bool) → led.proc < length s.procs → IsSmall (line_at s led.site) → IsSmall led.site → IsSmall led.callee → IsSmall led.clique
      → text_html by (led_words s led leaves) ≡ proc_html by s led.proc ++ (from_words s led.site ++ (context_html by led.callee ++ left_html leaves led.clique))
  led_are led leaves there small_l small_x small_c small_k =
      let q = led.proc in
      let x = led.site in
      let l = line_at s x in
      let c = led.callee in
      let end = left_ends (decimal c) leaves led.clique (number_is_other c small_c) small_k in
      let rest = (codes " context " ++ decimal c) ++ left_words leaves led.clique in
      ap (λ (xs : List ℕ). text_html by (full_name s q ++ (codes " from" ++ xs))) (place_parts l x rest)
      ∙ name_begins by s sound arities q there (codes " from" ++ place l x rest) refl
      ∙ ap (λ (xs : List ℕ). proc_html by s q ++ xs)
      (from_field by (full_name s q) l x rest (name_is_other s sound arities q there) small_l small_x refl
      ∙ ap (λ (xs : List ℕ). codes " from" ++ place l x xs)
      (context_field by (decimal x) c (left_words leaves led.clique) (number_is_other x small_x) small_c end.0
      ∙ ap (λ (xs : List ℕ). context_html by c ++ xs) end.1)
      ∙ ap (λ (xs : List ℕ). codes " from" ++ xs) (sym (place_parts l x (context_html by c ++ left_html leaves led.clique))))

  pub are_anchors : AreAnchors by s
  are_anchors = record { procs = procs_are; callers = callers_are; callees = callees_are; stations = stations_are; led = led_are }
