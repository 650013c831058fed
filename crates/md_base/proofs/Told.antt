-- What is told of a store and a sink over several calls, and when a count rose over several.
use Rattle.std.proofs.Common.{◌≡◌, ℕ, zero, suc, ◌+◌, ◌<◌, ◌≤◌, Bool, true, false, List, [], ◌∷◌, ◌++◌, length, take, drop, Option, Some, None, refl, sym, ◌∙◌, ap, arith, if◌then◌else◌, inl, inr, append_assoc, IsSomeAnd, unwrap_or, length-append, length-drop, subst, Result, Ok, IsErrOf}
use Rattle.std.proofs.lemmas.List.{append-nil, take_all, length-take, length-take-le}
use Rattle.std.specs.Str.{bytes_eq}
use Rattle.std.proofs.lemmas.Bool.{cases_eq, cases_lt}
use Rattle.std.proofs.Math.Nat.{min-eq_left, min-eq_right}
use Rattle.std.proofs.lemmas.Slice.Eq.{bytes_eq-Decides}
use Rattle.md_base.specs.Outside.{Rose, HasCause, one_more, last_count, added, Gives}
use Rattle.md_base.specs.Files.{Files, with_file, bytes_in, holding, extended, GivesFrom, FileIs, FileIsLonger}

one_more_rises : (before : ℕ) → Rose before (one_more before)
one_more_rises before = elim (cases_lt before last_count) [
  | inl below ↦ inl (omega (arith, min-eq_left {n = before + 1} {m = last_count} (omega arith)))
  | inr last ↦ inr (min-eq_right {n = last_count} {m = before + 1} (omega arith))
]

-- where a call answers its fault the count rose
pub rose_at : {T F : Type 0} (fault : F) (before now : ℕ) (result : Result T F) → HasCause fault before now result → IsErrOf result fault → Rose before now
rose_at fault before now result cause is = subst (λ (n : ℕ). Rose before n) (sym (cause.raised is)) (one_more_rises before)

-- where a call is done the count is as it was
pub still_where_done : {T F : Type 0} (fault : F) (before now : ℕ) (value : T) → HasCause fault before now (Ok value) → now ≡ before
still_where_done fault before now value cause = cause.kept (λ is. cc is)

-- a count that was at most this before rose too
pub rose_since : (before middle now : ℕ) → before ≤ middle → Rose middle now → Rose before now
rose_since before middle now later (inl above) = inl (omega arith)
rose_since before middle now later (inr last) = inr last

-- a count that rose has risen for good
pub rose_still : (before middle now : ℕ) → Rose before middle → before ≤ middle → middle ≤ now → Rose before now
rose_still before middle now (inl above) first later = inl (omega arith)
rose_still before middle now (inr last) first later = elim (cases_eq middle now) [
  | inl same ↦ inr (sym same ∙ last)
  | inr other ↦ inl (omega arith)
]

pub added-nil : (told : Option (List ℕ)) → added [] told ≡ told
added-nil None = refl
added-nil (Some bytes) = ap (λ (held : List ℕ). Some held) (append-nil bytes)

pub added-added : (xs ys : List ℕ) (told : Option (List ℕ)) → added ys (added xs told) ≡ added (xs ++ ys) told
added-added xs ys None = refl
added-added xs ys (Some bytes) = ap (λ (held : List ℕ). Some held) (append_assoc bytes xs ys)

overwritten : (b : Bool) (x y : List ℕ) (o : Option (List ℕ)) → (if b then Some y else (if b then Some x else o)) ≡ (if b then Some y else o)
overwritten true x y o = refl
overwritten false x y o = refl

-- a name is itself
same_name : (name : List ℕ) → bytes_eq name name ≡ true
same_name name = (bytes_eq-Decides name name).1 refl

pub with_file-named : (name bytes : List ℕ) (files : Files) → with_file name bytes files name ≡ Some bytes
with_file-named name bytes files = ap (λ (b : Bool). if b then Some bytes else files name) (same_name name)

pub with_file-with_file : (name xs ys : List ℕ) (files : Files) → with_file name ys (with_file name xs files) ≡ with_file name ys files
with_file-with_file name xs ys files = λ i q. overwritten (bytes_eq q name) xs ys (files q) i

pub holding-holding : (name xs ys : List ℕ) (told : Option Files) → holding name ys (holding name xs told) ≡ holding name ys told
holding-holding name xs ys None = refl
holding-holding name xs ys (Some files) = ap (λ (held : Files). Some held) (with_file-with_file name xs ys files)

pub extended-holding : (name xs ys : List ℕ) (told : Option Files) → extended name ys (holding name xs told) ≡ holding name (xs ++ ys) told
extended-holding name xs ys None = refl
extended-holding name xs ys (Some files) =
    ap (λ (o : Option (List ℕ)). Some (with_file name (unwrap_or o [] ++ ys) (with_file name xs files))) (with_file-named name xs files)
    ∙ ap (λ (held : Files). Some held) (with_file-with_file name xs (xs ++ ys) files)

-- these bytes are the front of the named file
abbrev pub HasFront : Option Files → List ℕ → List ℕ → Type 0
HasFront None name bytes = Unit {0}
HasFront (Some files) name bytes = take (length bytes) (bytes_in files name) ≡ bytes

pub front_start : (told : Option Files) (name : List ℕ) → HasFront told name []
front_start None name = tt
front_start (Some files) name = refl

pub take_add : (n k : ℕ) (xs : List ℕ) → take n xs ++ take k (drop n xs) ≡ take (n + k) xs
take_add zero k xs = let same : k ≡ 0 + k = omega arith in ap (λ (m : ℕ). take m xs) same
take_add (suc n) k [] = take_all k [] (omega arith) ∙ sym (take_all (suc n + k) [] (omega arith))
take_add (suc n) k (x ∷ xs) =
    let same : suc (n + k) ≡ suc n + k = omega arith in
    ap (λ (rest : List ℕ). x ∷ rest) (take_add n k xs) ∙ ap (λ (m : ℕ). take m (x ∷ xs)) same

-- a front of n bytes is no longer than the whole
front_within : (file bytes : List ℕ) → take (length bytes) file ≡ bytes → length bytes ≤ length file
front_within file bytes is = omega (arith, ap length is, length-take (length bytes) file)

more_given : (file bytes buf : List ℕ) (n : ℕ) → take (length bytes) file ≡ bytes → Gives (drop (length bytes) file) n buf → take (length (bytes ++ take n buf)) file ≡ bytes ++ take n buf
more_given file bytes buf n is gives =
    let size : length (take n buf) ≡ n = length-take-le n buf gives.within in
    let long : length (bytes ++ take n buf) ≡ length bytes + n = length-append bytes (take n buf) ∙ ap (λ (k : ℕ). length bytes + k) size in
    ap (λ (k : ℕ). take k file) long
    ∙ sym (take_add (length bytes) n file)
    ∙ ap (λ (front : List ℕ). front ++ take n (drop (length bytes) file)) is
    ∙ ap (λ (rest : List ℕ). bytes ++ rest) (sym gives.given)

no_more : (file bytes buf : List ℕ) (n : ℕ) → take (length bytes) file ≡ bytes → Gives (drop (length bytes) file) n buf → n ≡ 0 → 0 < length buf → file ≡ bytes
no_more file bytes buf n is gives none room = elim (cases_lt 0 (length (drop (length bytes) file))) [
  | inl left ↦ absurd (omega (arith, gives.some room left))
  | inr all ↦ sym (take_all (length bytes) file (omega (arith, length-drop (length bytes) file))) ∙ is
]

front_more_of : (o : Option (List ℕ)) (bytes buf : List ℕ) (n : ℕ) → take (length bytes) (unwrap_or o []) ≡ bytes
    → IsSomeAnd o (λ file. Gives (drop (length bytes) file) n buf) → take (length (bytes ++ take n buf)) (unwrap_or o []) ≡ bytes ++ take n buf
front_more_of None bytes buf n is gives = absurd gives
front_more_of (Some file) bytes buf n is gives = more_given file bytes buf n is gives

pub front_more : (told : Option Files) (name bytes buf : List ℕ) (n : ℕ) → HasFront told name bytes → GivesFrom told name (length bytes) n buf → HasFront told name (bytes ++ take n buf)
front_more None name bytes buf n front gives = tt
front_more (Some files) name bytes buf n front gives = front_more_of (files name) bytes buf n front gives

front_end_of : (o : Option (List ℕ)) (bytes buf : List ℕ) (n : ℕ) → take (length bytes) (unwrap_or o []) ≡ bytes
    → IsSomeAnd o (λ file. Gives (drop (length bytes) file) n buf) → n ≡ 0 → 0 < length buf → o ≡ Some bytes
front_end_of None bytes buf n is gives none room = absurd gives
front_end_of (Some file) bytes buf n is gives none room = ap (λ (held : List ℕ). Some held) (no_more file bytes buf n is gives none room)

-- a read of nothing into a buffer with room is the end of the file
pub front_end : (told : Option Files) (name bytes buf : List ℕ) (n : ℕ) → HasFront told name bytes → GivesFrom told name (length bytes) n buf → n ≡ 0 → 0 < length buf → FileIs told name bytes
front_end None name bytes buf n front gives none room = tt
front_end (Some files) name bytes buf n front gives none room = front_end_of (files name) bytes buf n front gives none room

front_longer_of : (o : Option (List ℕ)) (bytes : List ℕ) (most : ℕ) → take (length bytes) (unwrap_or o []) ≡ bytes → most < length bytes → IsSomeAnd o (λ file. most < length file)
front_longer_of None bytes most is long = absurd (omega (arith, front_within [] bytes is))
front_longer_of (Some file) bytes most is long = omega (arith, front_within file bytes is)

pub front_longer : (told : Option Files) (name bytes : List ℕ) (most : ℕ) → HasFront told name bytes → most < length bytes → FileIsLonger told name most
front_longer None name bytes most front long = tt
front_longer (Some files) name bytes most front long = front_longer_of (files name) bytes most front long

take_take : (n m : ℕ) (xs : List ℕ) → n ≤ m → take n (take m xs) ≡ take n xs
take_take zero m xs le = refl
take_take (suc n) zero xs le = absurd (omega arith)
take_take (suc n) (suc m) [] le = refl
take_take (suc n) (suc m) (x ∷ xs) le = ap (λ (rest : List ℕ). x ∷ rest) (take_take n m xs (omega arith))

-- the bytes of a piece that were taken lie within the whole
pub piece_within : (bytes : List ℕ) (done n m : ℕ) → done ≤ length bytes → n ≤ length (take m (drop done bytes)) → (n ≤ m) × (done + n ≤ length bytes)
piece_within bytes done n m start within =
    (omega (arith, length-take m (drop done bytes)), omega (arith, length-take m (drop done bytes), length-drop done bytes))

-- a sink to which one more piece of a text was written
pub added_on : (bytes : List ℕ) (done n m : ℕ) (told middle now : Option (List ℕ)) → n ≤ m → middle ≡ added (take done bytes) told
    → now ≡ added (take n (take m (drop done bytes))) middle → now ≡ added (take (done + n) bytes) told
added_on bytes done n m told middle now within so_far more =
    more ∙ ap (λ (piece : List ℕ). added piece middle) (take_take n m (drop done bytes) within)
    ∙ ap (λ (held : Option (List ℕ)). added (take n (drop done bytes)) held) so_far
    ∙ added-added (take done bytes) (take n (drop done bytes)) told
    ∙ ap (λ (front : List ℕ). added front told) (take_add done n bytes)

-- a store in which one more piece was added at the end of a file
pub extended_on : (name bytes : List ℕ) (done n m : ℕ) (told middle now : Option Files) → n ≤ m → middle ≡ holding name (take done bytes) told
    → now ≡ extended name (take n (take m (drop done bytes))) middle → now ≡ holding name (take (done + n) bytes) told
extended_on name bytes done n m told middle now within so_far more =
    more ∙ ap (λ (piece : List ℕ). extended name piece middle) (take_take n m (drop done bytes) within)
    ∙ ap (λ (held : Option Files). extended name (take n (drop done bytes)) held) so_far
    ∙ extended-holding name (take done bytes) (take n (drop done bytes)) told
    ∙ ap (λ (front : List ℕ). holding name front told) (take_add done n bytes)
