-- Full names of a program differ, since the signs that part them are in no name.
use Rattle.std.proofs.Common.{◌≡◌, ℕ, ◌<◌, true, false, List, [], ◌∷◌, ◌++◌, length, get_or, drop, refl, sym, ap, ◌∙◌, inl, inr, arith}
use Rattle.std.specs.Prelude.{◌≢◌, AllPairs}
use Rattle.std.specs.Fmt.{decimal}
use Rattle.std.specs.List.{range_with_len}
use Rattle.std.proofs.lemmas.Bool.{and_parts, cases_order}
use Rattle.std.proofs.lemmas.List.{length-map}
use Rattle.std.proofs.lemmas.List.FromFn.{get_or-map-range_with_len, length-range_with_len}
use Rattle.std.proofs.lemmas.Option.{slice_get-get_or, unwrap_or-slice_get}
use Rattle.md_people.proofs.Names.{words_of_name}
use Rattle.md_people.specs.Words.{full_name, full_name_of}
use Rattle.md_static.specs.declared.entry.Proc.{Proc}
use Rattle.md_static.specs.Names.{are_words, is_word}
use Rattle.md_static.specs.Sound.{IsSound}
use Rattle.md_static.specs.Tables.{Static}
use Rattle.md_compare.specs.Told.{names_in}

same_heads : {x y : ℕ} {xs ys : List ℕ} → x ∷ xs ≡ y ∷ ys → x ≡ y
same_heads e = ap (λ (zs : List ℕ). get_or zs 0 0) e

same_tails : {x y : ℕ} {xs ys : List ℕ} → x ∷ xs ≡ y ∷ ys → xs ≡ ys
same_tails e = ap (λ (zs : List ℕ). drop 1 zs) e

-- a sign that is in no name parts what it stands between
parted : (sign : ℕ) → is_word sign ≡ false → (a b x y : List ℕ) → are_words a ≡ true → are_words b ≡ true → a ++ sign ∷ x ≡ b ++ sign ∷ y → (a ≡ b) × (x ≡ y)
parted sign apart [] [] x y wa wb e = (refl, same_tails e)
parted sign apart [] (d ∷ b) x y wa wb e =
    let word = (and_parts (is_word d) (are_words b) wb).0 in
    let same : is_word sign ≡ is_word d = ap is_word (same_heads e) in
    absurd (let no : true ≡ false = sym word ∙ sym same ∙ apart in cc)
parted sign apart (d ∷ a) [] x y wa wb e =
    let word = (and_parts (is_word d) (are_words a) wa).0 in
    let same : is_word d ≡ is_word sign = ap is_word (same_heads e) in
    absurd (let no : true ≡ false = sym word ∙ same ∙ apart in cc)
parted sign apart (d ∷ a) (f ∷ b) x y wa wb e =
    let rest = parted sign apart a b x y (and_parts (is_word d) (are_words a) wa).1 (and_parts (is_word f) (are_words b) wb).1 (same_tails e) in
    let first : d ≡ f = same_heads e in
    (rw (first, rest.0) refl, rest.1)

abbrev some_proc : Proc
some_proc = record { «module» = 0; name = []; arity = 0 }

module _ (s : Static) (sound : IsSound s) where
  abbrev proc_at : ℕ → Proc
  proc_at i = get_or s.procs i some_proc

  abbrev module_of : ℕ → List ℕ
  module_of k = get_or s.modules k []

  -- the two names and the two signs
  spelled : (i : ℕ) → i < length s.procs → full_name s i ≡ module_of (proc_at i).«module» ++ 46 ∷ ((proc_at i).name ++ 47 ∷ decimal (proc_at i).arity)
  spelled i lt =
      ap (full_name_of s) (slice_get-get_or s.procs i some_proc lt)
      ∙ ap (λ (m : List ℕ). m ++ 46 ∷ ((proc_at i).name ++ 47 ∷ decimal (proc_at i).arity)) (unwrap_or-slice_get s.modules (proc_at i).«module» [])

  -- procedures of one full name are of one module and have one name, which no two have
  names_apart : (i j : ℕ) → i < j → j < length s.procs → full_name s i ≢ full_name s j
  names_apart i j low lt e =
      let lower : i < length s.procs = omega arith in
      let p = proc_at i in
      let q = proc_at j in
      let there_p = sound.modules_there i some_proc lower in
      let there_q = sound.modules_there j some_proc lt in
      let outer = parted 46 refl (module_of p.«module») (module_of q.«module») (p.name ++ 47 ∷ decimal p.arity) (q.name ++ 47 ∷ decimal q.arity)
      (words_of_name (module_of p.«module») (sound.modules_are_names p.«module» [] there_p))
      (words_of_name (module_of q.«module») (sound.modules_are_names q.«module» [] there_q)) (sym (spelled i lower) ∙ e ∙ spelled j lt) in
      let inner = parted 47 refl p.name q.name (decimal p.arity) (decimal q.arity) (words_of_name p.name (sound.procs_have_names i some_proc lower)) (words_of_name q.name (sound.procs_have_names j some_proc lt)) outer.1 in
      elim (cases_order p.«module» q.«module») [
        | inl same ↦ sound.procs_differ i j some_proc low lt same inner.0
        | inr (inl below) ↦ sound.modules_differ p.«module» q.«module» [] below there_q outer.0
        | inr (inr above) ↦ sound.modules_differ q.«module» p.«module» [] above there_p (sym outer.0)
      ]

  pub names_differ : AllPairs (λ (name other : List ℕ). name ≢ other) (names_in s)
  names_differ i j d low lt =
      let size = length-map (range_with_len 0 (length s.procs)) (full_name s) in
      let count = length-range_with_len 0 (length s.procs) in
      let in_range : j < length s.procs = omega arith in
      let at_i = get_or-map-range_with_len (full_name s) 0 (length s.procs) i i d (omega arith) (omega arith) in
      let at_j = get_or-map-range_with_len (full_name s) 0 (length s.procs) j j d in_range (omega arith) in
      rw (at_i, at_j) (names_apart i j low in_range)
