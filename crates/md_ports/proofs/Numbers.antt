-- Two procedures whose modules have one number have one module.
use Rattle.std.proofs.Common.{◌≡◌, ◌≢◌, refl, sym, ap, ◌∙◌, arith, ℕ, zero, suc, ◌+◌, ◌<◌, Bool, true, false, cond, not, ◌||◌, nat_lt, List, [], ◌∷◌, length, map, Option, Some, None, get_or}
use Rattle.std.specs.Prelude.{unwrap_or}
use Rattle.std.specs.List.{list_any, position_or_len}
use Rattle.std.specs.Str.{bytes_eq}
use Rattle.md_ports.specs.Modules.{without, each_once, number_of}
use Rattle.md_ports.proofs.Bytes.{bytes_is, bytes_same}
use Rattle.md_ports.proofs.Once.{any_without}

-- ---- members

abbrev pub IsAmong : List ℕ → List (List ℕ) → Type 0
IsAmong x ms = list_any (bytes_eq x) ms ≡ true

pub among_at : {A : Type 0} (f : A → List ℕ) (xs : List A) (i : ℕ) (d : A) → i < length xs → IsAmong (f (get_or xs i d)) (map f xs)
among_at f [] i d lt = absurd (omega (arith, lt))
among_at f (x ∷ xs) zero d lt = rw (bytes_same (f x)) refl
among_at f (x ∷ xs) (suc i) d lt = later (bytes_eq (f (get_or xs i d)) (f x)) _ (among_at f xs i d (omega (arith, lt)))
  where
    later : (a b : Bool) → b ≡ true → (a || b) ≡ true
    later true b h = refl
    later false b h = h

pub among_once : (x : List ℕ) (ms : List (List ℕ)) → IsAmong x ms → IsAmong x (each_once ms)
among_once x [] h = absurd (cc)
among_once x (m ∷ ms) h = here (bytes_eq x m) refl h (among_once x ms)
  where
    here : (b : Bool) → bytes_eq x m ≡ b → (b || list_any (bytes_eq x) ms) ≡ true → (IsAmong x ms → IsAmong x (each_once ms))
        → (b || list_any (bytes_eq x) (without m (each_once ms))) ≡ true
    here true is h rest = refl
    here false is h rest = any_without x m (each_once ms) is ∙ rest h

-- ---- places

abbrev place : List ℕ → List (List ℕ) → ℕ
place x ms = position_or_len (bytes_eq x) ms

place_within : (x : List ℕ) (ms : List (List ℕ)) → IsAmong x ms → place x ms < length ms
place_within x [] h = absurd (cc)
place_within x (m ∷ ms) h = here (bytes_eq x m) (list_any (bytes_eq x) ms) (place x ms) (length ms) h (place_within x ms)
  where
    here : (b a : Bool) (n most : ℕ) → (b || a) ≡ true → (a ≡ true → n < most) → cond (not b) (1 + n) 0 < suc most
    here true a n most h rest = omega arith
    here false a n most h rest = let l = rest h in omega (arith, l)

within_test : (m n : ℕ) → m < n → nat_lt m n ≡ true
within_test m n lt = grind arith

number_is : (x : List ℕ) (ms : List (List ℕ)) → IsAmong x ms → number_of ms x ≡ place x ms
number_is x ms h = rw (within_test (place x ms) (length ms) (place_within x ms h)) refl

place_one : (x y : List ℕ) (ms : List (List ℕ)) → IsAmong x ms → IsAmong y ms → place x ms ≡ place y ms → x ≡ y
place_one x y [] h g e = absurd (cc)
place_one x y (m ∷ ms) h g e = here (bytes_eq x m) (bytes_eq y m) refl refl h g e (place_one x y ms)
  where
    here : (b c : Bool) → bytes_eq x m ≡ b → bytes_eq y m ≡ c → (b || list_any (bytes_eq x) ms) ≡ true → (c || list_any (bytes_eq y) ms) ≡ true
        → cond (not b) (1 + place x ms) 0 ≡ cond (not c) (1 + place y ms) 0 → (IsAmong x ms → IsAmong y ms → place x ms ≡ place y ms → x ≡ y) → x ≡ y
    here true true is at h g e rest = bytes_is x m is ∙ sym (bytes_is y m at)
    here true false is at h g e rest = absurd (omega (arith, e))
    here false true is at h g e rest = absurd (omega (arith, e))
    here false false is at h g e rest = rest h g (omega (arith, e))

-- two members of one number are one
pub one_number : (x y : List ℕ) (ms : List (List ℕ)) → IsAmong x ms → IsAmong y ms → number_of ms x ≡ number_of ms y → x ≡ y
one_number x y ms h g e = place_one x y ms h g (sym (number_is x ms h) ∙ (e ∙ number_is y ms g))

-- ---- qualifiers

-- where no qualifier is the file's own module, those of one module are one
pub one_qualifier : (home : List ℕ) (a b : Option (List ℕ)) → a ≢ Some home → b ≢ Some home → unwrap_or a home ≡ unwrap_or b home → a ≡ b
one_qualifier home None None first second e = refl
one_qualifier home None (Some y) first second e = absurd (second (ap Some (sym e)))
one_qualifier home (Some x) None first second e = absurd (first (ap Some e))
one_qualifier home (Some x) (Some y) first second e = ap Some e
