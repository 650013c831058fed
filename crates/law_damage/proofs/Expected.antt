-- What a format makes of the bytes of a field: it goes on behind them, or ends with the damage of the field, or wants more of them.
use Rattle.std.proofs.Common.{◌≡◌, ℕ, suc, ◌+◌, ◌-◌, ◌<◌, ◌^◌, Bool, true, false, cond, List, [], ◌∷◌, ◌++◌, length, get_or, sym, ap, subst, ◌∙◌, append_assoc, append-nil, length-append, arith}
use Rattle.std.specs.Int.{w32, to_le_bytes, from_le_bytes}
use Rattle.std.proofs.lemmas.Nat.{from_le_bytes-to_le_bytes_4}
use Rattle.std.proofs.lemmas.Bool.{false_from_ne_true}
use Rattle.md_deepfile.specs.Bytes.{u32, name_bytes}
use Rattle.md_deepfile.specs.Fields.{Text}
use Rattle.md_deepfile.specs.Format.{byte, must, read, damage, bytes, number, text}
use Rattle.md_deepfile.specs.declared.damage.Kind.TheVariants as kinds
use Rattle.law_damage.specs.Fields.{HasRoom, Field, value, written, Keeps, kind_of, back}
use Rattle.law_damage.proofs.Tests.{fine, fine_keeps, keeps_fine}

-- it goes on behind these bytes, and of a part of them it says that the rest is lacking
pub record Reads (form : Text) (bs : List ℕ) (next : Text) : Type 0 where
  pub goes : (at : ℕ) (rest : List ℕ) → read form at (bs ++ rest) ≡ read next (at + length bs) rest
  pub cut : (part lacking : List ℕ) → bs ≡ part ++ lacking → 0 < length lacking → (at : ℕ) → read form at part ≡ damage (at + length part) kinds.Short

pub nothing_read : (form : Text) → Reads form [] form
nothing_read form = record {
  goes = λ at rest. (let same : at ≡ at + 0 = omega arith in ap (λ (n : ℕ). read form n rest) same);
  cut = λ part lacking parts lacks at. absurd (omega (arith, ap length parts, length-append part lacking, lacks));
}

tail : List ℕ → List ℕ
tail [] = []
tail (x ∷ xs) = xs

cut_then : (b : ℕ) (next : ℕ → Text) (xs : List ℕ) (last : Text) → Reads (next b) xs last → (part lacking : List ℕ) → b ∷ xs ≡ part ++ lacking → 0 < length lacking → (at : ℕ) → read (byte next) at part ≡ damage (at + length part) kinds.Short
unfolding tail
cut_then b next xs last reads [] lacking parts lacks at = (let same : at ≡ at + 0 = omega arith in ap (λ (n : ℕ). damage n kinds.Short) same)
cut_then b next xs last reads (c ∷ part) lacking parts lacks at =
    let head : b ≡ c = ap (λ (ys : List ℕ). get_or ys 0 0) parts in
    let more : xs ≡ part ++ lacking = ap tail parts in
    let place : (at + 1) + length part ≡ at + suc (length part) = omega arith in
    ap (λ (y : ℕ). read (next y) (at + 1) part) (sym head) ∙ reads.cut part lacking more lacks (at + 1) ∙ ap (λ (n : ℕ). damage n kinds.Short) place

-- a byte, and what follows it
pub byte_then : (b : ℕ) (next : ℕ → Text) (xs : List ℕ) (last : Text) → Reads (next b) xs last → Reads (byte next) (b ∷ xs) last
byte_then b next xs last reads = record {
  goes = λ at rest.
      (let place : (at + 1) + length xs ≡ at + suc (length xs) = omega arith in reads.goes (at + 1) rest ∙ ap (λ (n : ℕ). read last n rest) place);
  cut = cut_then b next xs last reads;
}

pub byte_read : (b : ℕ) (next : ℕ → Text) → Reads (byte next) (b ∷ []) (next b)
byte_read b next = byte_then b next [] (next b) (nothing_read (next b))

pub bytes_read : (xs front : List ℕ) (next : List ℕ → Text) → Reads (bytes (length xs) front next) xs (next (front ++ xs))
bytes_read [] front next = subst (λ (ys : List ℕ). Reads (next front) [] (next ys)) (sym (append-nil front)) (nothing_read (next front))
bytes_read (b ∷ xs) front next =
    subst (λ (ys : List ℕ). Reads (bytes (suc (length xs)) front next) (b ∷ xs) (next ys)) (append_assoc front (b ∷ []) xs)
    (byte_then b (λ (c : ℕ). bytes (length xs) (front ++ c ∷ []) next) xs (next ((front ++ b ∷ []) ++ xs)) (bytes_read xs (front ++ b ∷ []) next))

pub number_read : (n : ℕ) (next : ℕ → Text) → n < 2 ^ 32 → Reads (number next) (u32 n) (next n)
unfolding u32
number_read n next lt =
    subst (λ (m : ℕ). Reads (number next) (to_le_bytes w32 n) (next m)) (from_le_bytes-to_le_bytes_4 n lt)
    (bytes_read (to_le_bytes w32 n) [] (λ (xs : List ℕ). next (from_le_bytes w32 xs)))

pub text_read : (name : List ℕ) (next : List ℕ → Text) → Reads (text next) (name_bytes name) (next name)
text_read name next = byte_then (length name) (λ (n : ℕ). bytes n [] next) name (next name) (bytes_read name [] next)

-- the format reads the field, tests its rule, and goes on
pub record Expects (form : Text) (x : Field) (next : Text) : Type 0 where
  pub goes : HasRoom (value x) → Keeps x → (at : ℕ) (rest : List ℕ) → read form at (written x ++ rest) ≡ read next (at + length (written x)) rest
  pub stops : HasRoom (value x) → (Keeps x → ⊥) → (at : ℕ) (rest : List ℕ) → read form at (written x ++ rest) ≡ damage (at - back x) (kind_of x)
  pub cut : HasRoom (value x) → (part lacking : List ℕ) → written x ≡ part ++ lacking → 0 < length lacking → (at : ℕ) → read form at part ≡ damage (at + length part) kinds.Short

pub tested : (form : Text) (x : Field) (next : Text) (test : Bool) (n : ℕ) → (HasRoom (value x) → Reads form (written x) (must (kind_of x) n test next)) → test ≡ fine x → n ≡ length (written x) + back x → Expects form x next
tested form x next test n reads same size = record {
  goes = λ room keeps at rest. (reads room).goes at rest ∙ by true (same ∙ keeps_fine x keeps) (at + length (written x)) rest;
  stops = λ room breaks at rest.
      (let place : (at + length (written x)) - n ≡ at - back x = omega (arith, size) in
      (reads room).goes at rest ∙ by false (same ∙ false_from_ne_true (fine x) (λ h. breaks (fine_keeps x h))) (at + length (written x)) rest ∙ ap (λ (m : ℕ). damage m (kind_of x)) place);
  cut = λ room. (reads room).cut;
}
  where
    by : (b : Bool) → test ≡ b → (at : ℕ) (rest : List ℕ) → read (must (kind_of x) n test next) at rest ≡ cond b (read next at rest) (damage (at - n) (kind_of x))
    by b is at rest = ap (λ (c : Bool). cond c (read next at rest) (damage (at - n) (kind_of x))) is

pub untested : (form : Text) (x : Field) (next : Text) → (HasRoom (value x) → Reads form (written x) next) → fine x ≡ true → Expects form x next
untested form x next reads passes = record {
  goes = λ room keeps. (reads room).goes;
  stops = λ room breaks at rest. absurd (breaks (fine_keeps x passes));
  cut = λ room. (reads room).cut;
}
