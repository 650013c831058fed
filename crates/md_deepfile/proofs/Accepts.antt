-- What a format takes: the same recursion as reading, without places.
use Rattle.std.proofs.Common.{◌≡◌, ℕ, zero, suc, ◌+◌, ◌-◌, ◌<◌, ◌^◌, Bool, true, false, cond, List, [], ◌∷◌, ◌++◌, length, get_or, Option, None, Some, Result, Ok, Err, refl, sym, ap, subst, ◌∙◌, append_assoc, arith}
use Rattle.std.proofs.lemmas.List.{append-nil}
use Rattle.std.proofs.lemmas.Nat.{le_bytes_4, from_le_bytes-to_le_bytes_4}
use Rattle.std.specs.Int.{w32, to_le_bytes, from_le_bytes}
use Rattle.std.specs.List.{flat_map, AllByRecursion}
use Rattle.md_deepfile.specs.Bytes.{u32}
use Rattle.md_deepfile.specs.Format.{Damage, Format, done, byte, must, read, damage, ended, bytes, number, numbers, text}

abbrev pub AreBytes : List ℕ → Type 0
AreBytes bs = AllByRecursion (λ b. b < 256) bs

abbrev pub AreWords : List ℕ → Type 0
AreWords ns = AllByRecursion (λ n. n < 2 ^ 32) ns

-- by index, as the type of a slice tells it
pub are_bytes : (bs : List ℕ) → ((i : ℕ) → get_or bs i 0 < 256) → AreBytes bs
are_bytes [] each = tt
are_bytes (b ∷ bs) each = (each 0, are_bytes bs (λ i. each (suc i)))

pub byte_at : (bs : List ℕ) → AreBytes bs → (i : ℕ) → get_or bs i 0 < 256
byte_at [] are i = omega arith
byte_at (b ∷ bs) are zero = are.0
byte_at (b ∷ bs) are (suc i) = byte_at bs are.1 i

module _ {F : Type 0} where
  abbrev pub Accepts : Format F → List ℕ → F → Type 0
  Accepts (done orphan f) [] g = (orphan ≡ None) × (f ≡ g)
  Accepts (done orphan f) (b ∷ bs) g = ⊥
  Accepts (byte next) [] g = ⊥
  Accepts (byte next) (b ∷ bs) g = (b < 256) × Accepts (next b) bs g
  Accepts (must kind back fine next) bs g = (fine ≡ true) × Accepts next bs g

  no_error : (d : Damage) (g : F) → Err d ≡ Ok g → ⊥
  no_error d g e = cc e

  end_accepts : (orphan : Option ℕ) (f g : F) (at : ℕ) → ended orphan f at ≡ Ok g → (orphan ≡ None) × (f ≡ g)
  end_accepts None f g at e = (refl, cc e)
  end_accepts (Some back) f g at e = absurd (no_error _ g e)

  accepts_end : (orphan : Option ℕ) (f g : F) (at : ℕ) → orphan ≡ None → f ≡ g → ended orphan f at ≡ Ok g
  accepts_end orphan f g at none same = ap (λ (o : Option ℕ). ended o f at) none ∙ ap (λ (h : F). Ok h) same

  tested : (fine : Bool) (r : Result F Damage) (d : Damage) (g : F) → cond fine r (Err d) ≡ Ok g → (fine ≡ true) × (r ≡ Ok g)
  tested true r d g e = (refl, e)
  tested false r d g e = absurd (no_error d g e)

  pub read_accepts : (form : Format F) (at : ℕ) (bs : List ℕ) (g : F) → AreBytes bs → read form at bs ≡ Ok g → Accepts form bs g
  read_accepts (done orphan f) at [] g are e = end_accepts orphan f g at e
  read_accepts (done orphan f) at (b ∷ bs) g are e = absurd (no_error _ g e)
  read_accepts (byte next) at [] g are e = absurd (no_error _ g e)
  read_accepts (byte next) at (b ∷ bs) g are e = (are.0, read_accepts (next b) (at + 1) bs g are.1 e)
  read_accepts (must kind back fine next) at bs g are e =
      let told = tested fine (read next at bs) (record { at = at - back; kind = kind }) g e in
      (told.0, read_accepts next at bs g are told.1)

  pub accepts_read : (form : Format F) (at : ℕ) (bs : List ℕ) (g : F) → Accepts form bs g → read form at bs ≡ Ok g
  accepts_read (done orphan f) at [] g h = accepts_end orphan f g at h.0 h.1
  accepts_read (done orphan f) at (b ∷ bs) g h = absurd h
  accepts_read (byte next) at [] g h = absurd h
  accepts_read (byte next) at (b ∷ bs) g h = accepts_read (next b) (at + 1) bs g h.1
  accepts_read (must kind back fine next) at bs g h =
      ap (λ (t : Bool). cond t (read next at bs) (damage (at - back) kind)) h.0 ∙ accepts_read next at bs g h.1

  -- so many bytes
  pub record BytesTaken (n : ℕ) (front : List ℕ) (next : List ℕ → Format F) (bs : List ℕ) (g : F) : Type 0 where
    pub name : List ℕ
    pub rest : List ℕ
    pub size : length name ≡ n
    pub are : AreBytes name
    pub parts : bs ≡ name ++ rest
    pub goes : Accepts (next (front ++ name)) rest g

  pub bytes_takes : (n : ℕ) (front : List ℕ) (next : List ℕ → Format F) (bs : List ℕ) (g : F) → Accepts (bytes n front next) bs g → BytesTaken n front next bs g
  bytes_takes zero front next bs g h =
      record { name = []; rest = bs; size = refl; are = tt; parts = refl; goes = subst (λ (t : List ℕ). Accepts (next t) bs g) (sym (append-nil front)) h }
  bytes_takes (suc n) front next [] g h = absurd h
  bytes_takes (suc n) front next (b ∷ bs) g h =
      let t = bytes_takes n (front ++ b ∷ []) next bs g h.1 in
      record {
        name = b ∷ t.name;
        rest = t.rest;
        size = ap (λ (k : ℕ). suc k) t.size;
        are = (h.0, t.are);
        parts = ap (λ (xs : List ℕ). b ∷ xs) t.parts;
        goes = subst (λ (x : List ℕ). Accepts (next x) t.rest g) (append_assoc front (b ∷ []) t.name) t.goes;
      }

  pub bytes_again : (name front : List ℕ) (next : List ℕ → Format F) (rest : List ℕ) (g : F) → AreBytes name → Accepts (next (front ++ name)) rest g → Accepts (bytes (length name) front next) (name ++ rest) g
  bytes_again [] front next rest g are h = subst (λ (t : List ℕ). Accepts (next t) rest g) (append-nil front) h
  bytes_again (b ∷ name) front next rest g are h =
      (are.0, bytes_again name (front ++ b ∷ []) next rest g are.1 (subst (λ (x : List ℕ). Accepts (next x) rest g) (sym (append_assoc front (b ∷ []) name)) h))

  -- a number of four bytes
  pub record NumberTaken (next : ℕ → Format F) (bs : List ℕ) (g : F) : Type 0 where
    pub n : ℕ
    pub rest : List ℕ
    pub below : n < 2 ^ 32
    pub parts : bs ≡ u32 n ++ rest
    pub goes : Accepts (next n) rest g

  pub number_takes : (next : ℕ → Format F) (bs : List ℕ) (g : F) → Accepts (number next) bs g → NumberTaken next bs g
  unfolding u32
  number_takes next bs g h =
      let t = bytes_takes 4 [] (λ (xs : List ℕ). next (from_le_bytes w32 xs)) bs g h in
      let fits = byte_at t.name t.are in
      record {
        n = from_le_bytes w32 t.name;
        rest = t.rest;
        below = omega (arith, fits 0, fits 1, fits 2, fits 3);
        parts = t.parts ∙ ap (λ (xs : List ℕ). xs ++ t.rest) (sym (le_bytes_4 t.name _ t.size fits refl));
        goes = t.goes;
      }

  pub number_again : (n : ℕ) (next : ℕ → Format F) (rest : List ℕ) (g : F) → n < 2 ^ 32 → Accepts (next n) rest g → Accepts (number next) (u32 n ++ rest) g
  unfolding u32
  number_again n next rest g lt h =
      let are : AreBytes (to_le_bytes w32 n) = (omega arith, (omega arith, (omega arith, (omega arith, tt)))) in
      bytes_again (to_le_bytes w32 n) [] (λ (xs : List ℕ). next (from_le_bytes w32 xs)) rest g are
      (subst (λ (m : ℕ). Accepts (next m) rest g) (sym (from_le_bytes-to_le_bytes_4 n lt)) h)

  -- so many numbers
  pub record NumbersTaken (n : ℕ) (front : List ℕ) (next : List ℕ → Format F) (bs : List ℕ) (g : F) : Type 0 where
    pub ns : List ℕ
    pub rest : List ℕ
    pub size : length ns ≡ n
    pub below : AreWords ns
    pub parts : bs ≡ flat_map u32 ns ++ rest
    pub goes : Accepts (next (front ++ ns)) rest g

  pub numbers_takes : (n : ℕ) (front : List ℕ) (next : List ℕ → Format F) (bs : List ℕ) (g : F) → Accepts (numbers n front next) bs g → NumbersTaken n front next bs g
  numbers_takes zero front next bs g h =
      record { ns = []; rest = bs; size = refl; below = tt; parts = refl; goes = subst (λ (t : List ℕ). Accepts (next t) bs g) (sym (append-nil front)) h }
  numbers_takes (suc n) front next bs g h =
      let one = number_takes (λ (m : ℕ). numbers n (front ++ m ∷ []) next) bs g h in
      let t = numbers_takes n (front ++ one.n ∷ []) next one.rest g one.goes in
      record {
        ns = one.n ∷ t.ns;
        rest = t.rest;
        size = ap (λ (k : ℕ). suc k) t.size;
        below = (one.below, t.below);
        parts = one.parts ∙ ap (λ (xs : List ℕ). u32 one.n ++ xs) t.parts ∙ sym (append_assoc (u32 one.n) (flat_map u32 t.ns) t.rest);
        goes = subst (λ (x : List ℕ). Accepts (next x) t.rest g) (append_assoc front (one.n ∷ []) t.ns) t.goes;
      }

  pub numbers_again : (ns front : List ℕ) (next : List ℕ → Format F) (rest : List ℕ) (g : F) → AreWords ns → Accepts (next (front ++ ns)) rest g → Accepts (numbers (length ns) front next) (flat_map u32 ns ++ rest) g
  numbers_again [] front next rest g below h = subst (λ (t : List ℕ). Accepts (next t) rest g) (append-nil front) h
  numbers_again (n ∷ ns) front next rest g below h =
      let more = numbers_again ns (front ++ n ∷ []) next rest g below.1 (subst (λ (x : List ℕ). Accepts (next x) rest g) (sym (append_assoc front (n ∷ []) ns)) h) in
      subst (λ (bs : List ℕ). Accepts (number (λ (m : ℕ). numbers (length ns) (front ++ m ∷ []) next)) bs g) (sym (append_assoc (u32 n) (flat_map u32 ns) rest))
      (number_again n (λ (m : ℕ). numbers (length ns) (front ++ m ∷ []) next) (flat_map u32 ns ++ rest) g below.0 more)

  -- a name behind its length
  pub record TextTaken (next : List ℕ → Format F) (bs : List ℕ) (g : F) : Type 0 where
    pub name : List ℕ
    pub rest : List ℕ
    pub short : length name < 256
    pub are : AreBytes name
    pub parts : bs ≡ (length name ∷ name) ++ rest
    pub goes : Accepts (next name) rest g

  pub text_takes : (next : List ℕ → Format F) (bs : List ℕ) (g : F) → Accepts (text next) bs g → TextTaken next bs g
  text_takes next [] g h = absurd h
  text_takes next (b ∷ bs) g h =
      let t = bytes_takes b [] next bs g h.1 in
      record {
        name = t.name;
        rest = t.rest;
        short = subst (λ (k : ℕ). k < 256) (sym t.size) h.0;
        are = t.are;
        parts = ap (λ (xs : List ℕ). b ∷ xs) t.parts ∙ ap (λ (k : ℕ). k ∷ (t.name ++ t.rest)) (sym t.size);
        goes = t.goes;
      }

  pub text_again : (name : List ℕ) (next : List ℕ → Format F) (rest : List ℕ) (g : F) → length name < 256 → AreBytes name → Accepts (next name) rest g → Accepts (text next) ((length name ∷ name) ++ rest) g
  text_again name next rest g short are h = (short, bytes_again name [] next rest g are h)
