-- Files in a list: where the first file of a name stands, and what a write to it changes.
use Rattle.std.proofs.Common.{◌≡◌, ℕ, zero, suc, ◌+◌, ◌<◌, ◌≤◌, Bool, true, false, List, [], ◌∷◌, ◌++◌, length, drop, set, get_or, Option, Some, None, refl, sym, ◌∙◌, ap, arith, if◌then◌else◌, Vec, String, string_bytes, add-one, drop-cons, ◌⊎◌, inl, inr, subst, unwrap_or, IsSomeAnd, All, option_to_list}
use Rattle.std.proofs.lemmas.List.{map-set, drop_all}
use Rattle.std.specs.Cmp.Lexicographic.{same_text, other_text}
use Rattle.std.specs.List.{position_from}
use Rattle.std.specs.Str.{bytes_eq}
use Rattle.std.specs.declared.alloc.Global.{Global}
use Rattle.md_base.specs.Files.{Files, with_file, bytes_in, GivesFrom}
use Rattle.md_base.specs.Outside.{Gives}
use Rattle.test_memory.specs.Memory.{listed, file_in, any_file_in, IsPlaceOf, name_at, bytes_at}

abbrev pub File : Type 0
File = String Global × Vec ℕ Global

abbrev pub view_of : File → List ℕ × List ℕ
view_of file = (string_bytes file.0, file.1.items)

pub view_at : (files : List File) (place : ℕ) (r : File) → place < length files → view_of (get_or files place r) ≡ get_or (listed files) place ([], [])
view_at [] place r within = absurd (omega arith)
view_at (file ∷ files) zero r within = refl
view_at (file ∷ files) (suc place) r within = view_at files place r (omega arith)

-- the bytes of one file change
pub listed-set : (files : List File) (place : ℕ) (r : File) (bytes : Vec ℕ Global) → place < length files → r ≡ get_or files place r
    → listed (set files place (r.0, bytes)) ≡ set (listed files) place (name_at (listed files) place, bytes.items)
listed-set files place r bytes within is =
    map-set view_of files place (r.0, bytes)
    ∙ ap (λ (name : List ℕ). set (listed files) place (name, bytes.items)) (ap (λ (file : List ℕ × List ℕ). file.0) (ap view_of is ∙ view_at files place r within))

pub bytes_at-is : (files : List File) (place : ℕ) (r : File) → place < length files → r ≡ get_or files place r → r.1.items ≡ bytes_at (listed files) place
bytes_at-is files place r within is = ap (λ (file : List ℕ × List ℕ). file.1) (ap view_of is ∙ view_at files place r within)

-- what stands there is written again
pub set-same : (files : List (List ℕ × List ℕ)) (place : ℕ) → set files place (name_at files place, bytes_at files place) ≡ files
set-same [] place = refl
set-same (file ∷ files) zero = refl
set-same (file ∷ files) (suc place) = ap (λ (rest : List (List ℕ × List ℕ)). file ∷ rest) (set-same files place)

abbrev pub is_named : List ℕ → List ℕ × List ℕ → Bool
is_named name file = bytes_eq name file.0

length-listed : (files : List File) → length (listed files) ≡ length files
length-listed [] = refl
length-listed (file ∷ files) = ap suc (length-listed files)

-- the rest of a list from a file that is there
rest_at : (files : List File) (i : ℕ) (r : File) → i < length files → r ≡ get_or files i r → drop i (listed files) ≡ view_of r ∷ drop (i + 1) (listed files)
rest_at files i r within is =
    let long : i < length (listed files) = omega (arith, length-listed files) in
    rw add-one (drop-cons (listed files) i ([], []) long ∙ ap (λ (file : List ℕ × List ℕ). file ∷ drop (suc i) (listed files)) (sym (view_at files i r within) ∙ ap view_of (sym is)))

pub place_here : (name : List ℕ) (files : List File) (i : ℕ) (r : File) → i < length files → r ≡ get_or files i r → true ≡ bytes_eq name (string_bytes r.0)
    → position_from (is_named name) i (drop i (listed files)) ≡ Some i
place_here name files i r within is named = rw (rest_at files i r within is) (rw (← named) refl)

pub place_passed : (name : List ℕ) (files : List File) (i : ℕ) (r : File) → i < length files → r ≡ get_or files i r → false ≡ bytes_eq name (string_bytes r.0)
    → position_from (is_named name) i (drop i (listed files)) ≡ position_from (is_named name) (i + 1) (drop (i + 1) (listed files))
place_passed name files i r within is other = rw (rest_at files i r within is) (rw (← other) refl)

-- what a search has told, step by step
missed_here : (b : Bool) (i : ℕ) (rest : Option ℕ) → (if b then Some i else rest) ≡ None → (b ≡ false) × (rest ≡ None)
missed_here true i rest none = absurd (cc none)
missed_here false i rest none = (refl, none)

found_here : (b : Bool) (i k : ℕ) (rest : Option ℕ) → (if b then Some i else rest) ≡ Some k → ((b ≡ true) × (i ≡ k)) ⊎ ((b ≡ false) × (rest ≡ Some k))
found_here true i k rest found = inl (refl, cc found)
found_here false i k rest found = inr (refl, found)

pub not_found : (name : List ℕ) (files : List (List ℕ × List ℕ)) (i : ℕ) → position_from (is_named name) i files ≡ None → file_in files name ≡ None
not_found name [] i none = refl
not_found name (file ∷ files) i none =
    let told = missed_here (bytes_eq name file.0) i (position_from (is_named name) (i + 1) files) none in
    ap (λ (b : Bool). if b then Some file.1 else file_in files name) told.0 ∙ not_found name files (i + 1) told.1

-- a search that ends at the end of the list found nothing
pub ended : (name : List ℕ) (files : List File) (i : ℕ) → position_from (is_named name) 0 (listed files) ≡ position_from (is_named name) i (drop i (listed files)) → length files ≤ i
    → file_in (listed files) name ≡ None
ended name files i searched long =
    not_found name (listed files) 0
    (searched ∙ ap (λ (rest : List (List ℕ × List ℕ)). position_from (is_named name) i rest) (drop_all i (listed files) (omega (arith, length-listed files))))

no_earlier : (name : List ℕ) (files : List (List ℕ × List ℕ)) (i k : ℕ) → position_from (is_named name) i files ≡ Some k → i ≤ k
no_earlier name [] i k found = absurd (cc found)
no_earlier name (file ∷ files) i k found = elim (found_here (bytes_eq name file.0) i k (position_from (is_named name) (i + 1) files) found) [
  | inl here ↦ omega (arith, here.1)
  | inr later ↦ omega (arith, no_earlier name files (i + 1) k later.1)
]

-- what is found
pub found_bytes : (name : List ℕ) (files : List (List ℕ × List ℕ)) (i j : ℕ) → position_from (is_named name) i files ≡ Some (i + j) → file_in files name ≡ Some (bytes_at files j)
found_bytes name [] i j found = absurd (cc found)
found_bytes name (file ∷ files) i zero found = elim (found_here (bytes_eq name file.0) i (i + zero) (position_from (is_named name) (i + 1) files) found) [
  | inl here ↦ ap (λ (b : Bool). if b then Some file.1 else file_in files name) here.0
  | inr later ↦ absurd (omega (arith, no_earlier name files (i + 1) (i + zero) later.1))
]
found_bytes name (file ∷ files) i (suc j) found = elim (found_here (bytes_eq name file.0) i (i + suc j) (position_from (is_named name) (i + 1) files) found) [
  | inl here ↦ absurd (omega (arith, here.1))
  | inr later ↦
      let on : i + suc j ≡ (i + 1) + j = omega arith in
      ap (λ (b : Bool). if b then Some file.1 else file_in files name) later.0
      ∙ found_bytes name files (i + 1) j (later.1 ∙ ap (λ (k : ℕ). Some k) on)
]

twice : {X : Type 0} (b : Bool) (x y z : X) → (if b then x else z) ≡ (if b then x else (if b then y else z))
twice true x y z = refl
twice false x y z = refl

exchanged : {X : Type 0} (a b : Bool) (x y z : X) → (a ≡ true → b ≡ true → ⊥) → (if a then x else (if b then y else z)) ≡ (if b then y else (if a then x else z))
exchanged true true x y z apart = absurd (apart refl refl)
exchanged true false x y z apart = refl
exchanged false true x y z apart = refl
exchanged false false x y z apart = refl

apart : (q name other : List ℕ) → bytes_eq name other ≡ false → bytes_eq q other ≡ true → bytes_eq q name ≡ true → ⊥
apart q name other differ is_other is_name = other_text name other (sym differ) (sym (same_text q name (sym is_name)) ∙ same_text q other (sym is_other))

-- the first file of a name gets other bytes
set_at : (name : List ℕ) (files : List (List ℕ × List ℕ)) (bytes : List ℕ) (i j : ℕ) → position_from (is_named name) i files ≡ Some (i + j)
    → (q : List ℕ) → file_in (set files j (name_at files j, bytes)) q ≡ with_file name bytes (file_in files) q
set_at name [] bytes i j found q = absurd (cc found)
set_at name (file ∷ files) bytes i zero found q = elim (found_here (bytes_eq name file.0) i (i + zero) (position_from (is_named name) (i + 1) files) found) [
  | inl here ↦
      let same : name ≡ file.0 = same_text name file.0 (sym here.0) in
      let test : bytes_eq q file.0 ≡ bytes_eq q name = ap (λ (other : List ℕ). bytes_eq q other) (sym same) in
      ap (λ (b : Bool). if b then Some bytes else file_in files q) test
      ∙ twice (bytes_eq q name) (Some bytes) (Some file.1) (file_in files q)
      ∙ ap (λ (b : Bool). if bytes_eq q name then Some bytes else (if b then Some file.1 else file_in files q)) (sym test)
  | inr later ↦ absurd (omega (arith, no_earlier name files (i + 1) (i + zero) later.1))
]
set_at name (file ∷ files) bytes i (suc j) found q = elim (found_here (bytes_eq name file.0) i (i + suc j) (position_from (is_named name) (i + 1) files) found) [
  | inl here ↦ absurd (omega (arith, here.1))
  | inr later ↦
      let on : i + suc j ≡ (i + 1) + j = omega arith in
      ap (λ (rest : Option (List ℕ)). if bytes_eq q file.0 then Some file.1 else rest)
      (set_at name files bytes (i + 1) j (later.1 ∙ ap (λ (k : ℕ). Some k) on) q)
      ∙ exchanged (bytes_eq q file.0) (bytes_eq q name) (Some file.1) (Some bytes) (file_in files q) (apart q name file.0 later.0)
]

pub set_named : (name : List ℕ) (files : List (List ℕ × List ℕ)) (bytes : List ℕ) (place : ℕ) → IsPlaceOf files name place
    → file_in (set files place (name_at files place, bytes)) ≡ with_file name bytes (file_in files)
set_named name files bytes place found =
    let from_start : 0 + place ≡ place = omega arith in
    λ i q. set_at name files bytes 0 place (found ∙ ap (λ (k : ℕ). Some k) (sym from_start)) q i

pub named_bytes : (name : List ℕ) (files : List (List ℕ × List ℕ)) (place : ℕ) → IsPlaceOf files name place → file_in files name ≡ Some (bytes_at files place)
named_bytes name files place found =
    let from_start : 0 + place ≡ place = omega arith in
    found_bytes name files 0 place (found ∙ ap (λ (k : ℕ). Some k) (sym from_start))

-- a file of a new name
added_at : (name : List ℕ) (files : List (List ℕ × List ℕ)) (bytes : List ℕ) → file_in files name ≡ None
    → (q : List ℕ) → file_in (files ++ (name, bytes) ∷ []) q ≡ with_file name bytes (file_in files) q
added_at name [] bytes absent q = refl
added_at name (file ∷ files) bytes absent q =
    let told = missed_file (bytes_eq name file.0) file.1 (file_in files name) absent in
    ap (λ (rest : Option (List ℕ)). if bytes_eq q file.0 then Some file.1 else rest) (added_at name files bytes told.1 q)
    ∙ exchanged (bytes_eq q file.0) (bytes_eq q name) (Some file.1) (Some bytes) (file_in files q) (apart q name file.0 told.0)
  where
    missed_file : (b : Bool) (x : List ℕ) (rest : Option (List ℕ)) → (if b then Some x else rest) ≡ None → (b ≡ false) × (rest ≡ None)
    missed_file true x rest none = absurd (cc none)
    missed_file false x rest none = (refl, none)

pub add_named : (name : List ℕ) (files : List (List ℕ × List ℕ)) (bytes : List ℕ) → file_in files name ≡ None
    → file_in (files ++ (name, bytes) ∷ []) ≡ with_file name bytes (file_in files)
add_named name files bytes absent = λ i q. added_at name files bytes absent q i

-- what is given of a file that is there
pub given_named : (name : List ℕ) (files : List (List ℕ × List ℕ)) (place at n : ℕ) (buf : List ℕ) → IsPlaceOf files name place
    → Gives (drop at (bytes_at files place)) n buf → GivesFrom (Some (file_in files)) name at n buf
given_named name files place at n buf found gives =
    subst (λ (o : Option (List ℕ)). IsSomeAnd o (λ bytes. Gives (drop at bytes) n buf)) (sym (named_bytes name files place found)) gives

pub given_any : (name : List ℕ) (files : List (List ℕ × List ℕ)) (place at n : ℕ) (buf : List ℕ) → IsPlaceOf files name place
    → Gives (drop at (bytes_at files place)) n buf → GivesFrom (Some (any_file_in files)) name at n buf
given_any name files place at n buf found gives =
    subst (λ (o : Option (List ℕ)). Gives (drop at (unwrap_or o [])) n buf) (sym (named_bytes name files place found)) gives

-- and of one that isn't there, where each name stands for a file
pub given_none : (name : List ℕ) (files : List (List ℕ × List ℕ)) (at : ℕ) (buf : List ℕ) → file_in files name ≡ None
    → GivesFrom (Some (any_file_in files)) name at 0 buf
given_none name files at buf absent =
    let nothing : Gives [] 0 buf = record { within = omega arith; enough = omega arith; given = refl; some = λ _ none. absurd (omega arith) } in
    let left : drop at (bytes_in (file_in files) name) ≡ [] =
    ap (λ (o : Option (List ℕ)). drop at (unwrap_or o [])) absent ∙ drop_all at [] (omega arith) in
    subst (λ (rest : List ℕ). Gives rest 0 buf) (sym left) nothing

pub appended : (name : List ℕ) (files : List (List ℕ × List ℕ)) (place : ℕ) (piece : List ℕ) → IsPlaceOf files name place
    → file_in (set files place (name_at files place, bytes_at files place ++ piece)) ≡ with_file name (bytes_in (file_in files) name ++ piece) (file_in files)
appended name files place piece found =
    set_named name files (bytes_at files place ++ piece) place found
    ∙ ap (λ (o : Option (List ℕ)). with_file name (unwrap_or o [] ++ piece) (file_in files)) (sym (named_bytes name files place found))

pub appended_new : (name : List ℕ) (files : List (List ℕ × List ℕ)) (piece : List ℕ) → file_in files name ≡ None
    → file_in (files ++ (name, piece) ∷ []) ≡ with_file name (bytes_in (file_in files) name ++ piece) (file_in files)
appended_new name files piece absent =
    add_named name files piece absent
    ∙ ap (λ (o : Option (List ℕ)). with_file name (unwrap_or o [] ++ piece) (file_in files)) (sym absent)

-- the same of a store in which each name stands for a file
any_with : (b : Bool) (bytes : List ℕ) (o : Option (List ℕ)) → Some (unwrap_or (if b then Some bytes else o) []) ≡ (if b then Some bytes else Some (unwrap_or o []))
any_with true bytes o = refl
any_with false bytes o = refl

pub any_file : (name bytes : List ℕ) (before now : List (List ℕ × List ℕ)) → file_in now ≡ with_file name bytes (file_in before)
    → any_file_in now ≡ with_file name bytes (any_file_in before)
any_file name bytes before now is =
    ap (λ (files : Files). λ (q : List ℕ). Some (unwrap_or (files q) [])) is
    ∙ (λ i q. any_with (bytes_eq q name) bytes (file_in before q) i)

-- what holds of all holds of those behind the first
pub All-rest : {X : Type 0} (P : X → Type 0) (o : Option X) (old rest : List X) → old ≡ option_to_list o ++ rest → All P old → All P rest
All-rest {X} P None old rest is all = subst (λ (xs : List X). All P xs) is all
All-rest {X} P (Some x) old rest is all =
    let whole : All P (x ∷ rest) = subst (λ (xs : List X). All P xs) is all in
    λ k d within. whole (suc k) d (omega arith)
