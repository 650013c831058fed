-- Bytes beside fields: the fields are all there and bytes may follow, or the bytes end within one.
use Rattle.std.proofs.Common.{◌≡◌, ℕ, zero, suc, ◌<◌, ◌^◌, List, [], ◌∷◌, ◌++◌, length, refl, sym, ap, ◌∙◌, append_assoc, append-nil, arith}
use Rattle.std.specs.Int.{w32, from_le_bytes}
use Rattle.std.proofs.lemmas.Grind.{flat_map-append}
use Rattle.std.proofs.lemmas.List.Elements.{All-from_recursion}
use Rattle.std.proofs.lemmas.Nat.{le_bytes_4}
use Rattle.md_deepfile.specs.Bytes.{u32}
use Rattle.md_deepfile.proofs.Accepts.{AreBytes, byte_at}
use Rattle.law_damage.specs.Fields.{Value, Byte, Number, Name, Nothing, value_bytes, HasRoom, Field, value, written, laid}

pub data Meets (bs : List ℕ) (xs : List Field) : Type 0 where
  whole : (rest : List ℕ) → AreBytes rest → bs ≡ laid xs ++ rest → Meets bs xs
  within : (first : List Field) (x : Field) (others : List Field) (part lacking : List ℕ) → xs ≡ first ++ x ∷ others → bs ≡ laid first ++ part → written x ≡ part ++ lacking → 0 < length lacking → Meets bs xs

-- the bytes that are left
abbrev pub left : {bs : List ℕ} {xs : List Field} → Meets bs xs → List ℕ
left (whole rest are is) = rest
left (within first x others part lacking fields is parts lacks) = []

pub left_are : {bs : List ℕ} {xs : List Field} (m : Meets bs xs) → AreBytes (left m)
left_are (whole rest are is) = are
left_are (within first x others part lacking fields is parts lacks) = tt

two_laid : (bs rest part : List ℕ) (xs ys : List Field) → bs ≡ laid xs ++ rest → rest ≡ laid ys ++ part → bs ≡ laid (xs ++ ys) ++ part
two_laid bs rest part xs ys one two =
    one ∙ ap (λ (zs : List ℕ). laid xs ++ zs) two ∙ sym (append_assoc (laid xs) (laid ys) part) ∙ ap (λ (zs : List ℕ). zs ++ part) (sym (flat_map-append written xs ys))

-- more fields, beside the bytes that are left
pub meets_on : (bs : List ℕ) (xs ys : List Field) (m : Meets bs xs) → Meets (left m) ys → Meets bs (xs ++ ys)
meets_on bs xs ys (whole rest are is) (whole more bytes also) = whole more bytes (two_laid bs rest more xs ys is also)
meets_on bs xs ys (whole rest are is) (within first x others part lacking fields also parts lacks) =
    within (xs ++ first) x others part lacking (ap (λ (zs : List Field). xs ++ zs) fields ∙ sym (append_assoc xs first (x ∷ others))) (two_laid bs rest part xs first is also) parts lacks
meets_on bs xs ys (within first x others part lacking fields is parts lacks) n =
    within first x (others ++ ys) part lacking (ap (λ (zs : List Field). zs ++ ys) fields ∙ append_assoc first (x ∷ others) ys) is parts lacks

-- ---- one field: what it has to say

-- a value of which the bytes are the front, or which goes on where they end
pub record Said (bs : List ℕ) (v : Value) : Type 0 where
  pub room : HasRoom v
  pub meets : (x : Field) → value x ≡ v → Meets bs (x ∷ [])

all_there : (bs rest : List ℕ) (v : Value) → HasRoom v → AreBytes rest → bs ≡ value_bytes v ++ rest → Said bs v
all_there bs rest v room are is = record {
  room = room;
  meets = λ x said. whole rest are (is ∙ ap (λ (ys : List ℕ). ys ++ rest) (sym (append-nil (value_bytes v))) ∙ ap (λ (w : Value). (value_bytes w ++ []) ++ rest) (sym said));
}

part_there : (bs lacking : List ℕ) (v : Value) → HasRoom v → value_bytes v ≡ bs ++ lacking → 0 < length lacking → Said bs v
part_there bs lacking v room is lacks = record { room = room; meets = λ x said. within [] x [] bs lacking refl refl (ap value_bytes said ∙ is) lacks }

pub byte_said : (bs : List ℕ) → AreBytes bs → (b : ℕ) × Said bs (Byte b)
byte_said [] are = (0, part_there [] (0 ∷ []) (Byte 0) (omega arith) refl (omega arith))
byte_said (b ∷ bs) are = (b, all_there (b ∷ bs) bs (Byte b) are.0 are.1 refl)

-- four bytes as a number, and what is written of it
number_of : (bs : List ℕ) → AreBytes bs → length bs ≡ 4 → (n : ℕ) × (n < 2 ^ 32) × (u32 n ≡ bs)
unfolding u32
number_of bs are size =
    let fits = byte_at bs are in
    let n = from_le_bytes w32 bs in
    let below : n < 2 ^ 32 = omega (arith, fits 0, fits 1, fits 2, fits 3) in
    (n, below, le_bytes_4 bs n size fits refl)

cut_number : (bs zeros : List ℕ) → AreBytes (bs ++ zeros) → length (bs ++ zeros) ≡ 4 → 0 < length zeros → (n : ℕ) × Said bs (Number n)
cut_number bs zeros are size lacks =
    let t = number_of (bs ++ zeros) are size in
    (t.0, part_there bs zeros (Number t.0) t.1 t.2 lacks)

pub number_said : (bs : List ℕ) → AreBytes bs → (n : ℕ) × Said bs (Number n)
number_said [] are = cut_number [] (0 ∷ 0 ∷ 0 ∷ 0 ∷ []) (omega arith, (omega arith, (omega arith, (omega arith, tt)))) refl (omega arith)
number_said (a ∷ []) are = cut_number (a ∷ []) (0 ∷ 0 ∷ 0 ∷ []) (are.0, (omega arith, (omega arith, (omega arith, tt)))) refl (omega arith)
number_said (a ∷ b ∷ []) are = cut_number (a ∷ b ∷ []) (0 ∷ 0 ∷ []) (are.0, (are.1.0, (omega arith, (omega arith, tt)))) refl (omega arith)
number_said (a ∷ b ∷ c ∷ []) are = cut_number (a ∷ b ∷ c ∷ []) (0 ∷ []) (are.0, (are.1.0, (are.1.1.0, (omega arith, tt)))) refl (omega arith)
number_said (a ∷ b ∷ c ∷ d ∷ bs) are =
    let t = number_of (a ∷ b ∷ c ∷ d ∷ []) (are.0, (are.1.0, (are.1.1.0, (are.1.1.1.0, tt)))) refl in
    (t.0, all_there (a ∷ b ∷ c ∷ d ∷ bs) bs (Number t.0) t.1 are.1.1.1.1 (ap (λ (ys : List ℕ). ys ++ bs) (sym t.2)))

-- so many bytes: all of them are there, or the rest is made up
data Filled (n : ℕ) (bs : List ℕ) : Type 0 where
  enough : (name rest : List ℕ) → length name ≡ n → AreBytes name → AreBytes rest → bs ≡ name ++ rest → Filled n bs
  too_few : (name lacking : List ℕ) → length name ≡ n → AreBytes name → name ≡ bs ++ lacking → 0 < length lacking → Filled n bs

zeros : (n : ℕ) → List ℕ
zeros zero = []
zeros (suc n) = 0 ∷ zeros n

zeros_size : (n : ℕ) → length (zeros n) ≡ n
unfolding zeros
zeros_size zero = refl
zeros_size (suc n) = ap (λ (k : ℕ). suc k) (zeros_size n)

zeros_are : (n : ℕ) → AreBytes (zeros n)
unfolding zeros
zeros_are zero = tt
zeros_are (suc n) = (omega arith, zeros_are n)

one_more : (b n : ℕ) (bs : List ℕ) → b < 256 → Filled n bs → Filled (suc n) (b ∷ bs)
one_more b n bs below (enough name rest size are more is) = enough (b ∷ name) rest (ap (λ (k : ℕ). suc k) size) (below, are) more (ap (λ (ys : List ℕ). b ∷ ys) is)
one_more b n bs below (too_few name lacking size are is lacks) = too_few (b ∷ name) lacking (ap (λ (k : ℕ). suc k) size) (below, are) (ap (λ (ys : List ℕ). b ∷ ys) is) lacks

fill : (n : ℕ) (bs : List ℕ) → AreBytes bs → Filled n bs
fill zero bs are = enough [] bs refl tt are refl
fill (suc n) [] are = too_few (zeros (suc n)) (zeros (suc n)) (zeros_size (suc n)) (zeros_are (suc n)) refl (let size : length (zeros (suc n)) ≡ suc n = zeros_size (suc n) in omega (arith, size))
fill (suc n) (b ∷ bs) are = one_more b n bs are.0 (fill n bs are.1)

name_filled : (n : ℕ) (bs : List ℕ) → n < 256 → Filled n bs → (name : List ℕ) × Said (n ∷ bs) (Name name)
name_filled n bs below (enough name rest size are more is) =
    (name, all_there (n ∷ bs) rest (Name name) (omega (arith, size, below), All-from_recursion (λ (b : ℕ). b < 256) name are) more (ap (λ (k : ℕ). k ∷ bs) (sym size) ∙ ap (λ (ys : List ℕ). length name ∷ ys) is))
name_filled n bs below (too_few name lacking size are is lacks) =
    (name, part_there (n ∷ bs) lacking (Name name) (omega (arith, size, below), All-from_recursion (λ (b : ℕ). b < 256) name are) (ap (λ (k : ℕ). k ∷ name) size ∙ ap (λ (ys : List ℕ). n ∷ ys) is) lacks)

pub name_said : (bs : List ℕ) → AreBytes bs → (name : List ℕ) × Said bs (Name name)
name_said [] are = ([], part_there [] (0 ∷ []) (Name []) (omega arith, All-from_recursion (λ (b : ℕ). b < 256) [] tt) refl (omega arith))
name_said (b ∷ bs) are = name_filled b bs are.0 (fill b bs are.1)

pub nothing_said : (bs : List ℕ) → AreBytes bs → Said bs Nothing
nothing_said bs are = all_there bs bs Nothing tt are refl
