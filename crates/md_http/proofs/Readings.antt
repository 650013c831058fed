-- What was read over several reads.
use Rattle.std.proofs.Common.{◌≡◌, ℕ, ◌+◌, ◌≤◌, ◌==◌, ◌||◌, Bool, false, List, [], ◌++◌, length, take, drop, Option, None, Some, Result, Ok, Err, OnErr, refl, sym, ◌∙◌, ap, subst, append_assoc, arith}
use Rattle.std.proofs.Math.Bool.{or-false}
use Rattle.std.proofs.lemmas.Bool.{ne_eqb}
use Rattle.std.proofs.lemmas.List.{append-nil}
use Rattle.md_base.proofs.Told.{take_add}
use Rattle.md_base.specs.Streams.{Stream}
use Rattle.md_http.specs.Heard.{most_bytes}
use Rattle.md_http.specs.Reading.{HasRead, ReadsOf, ReadNoFurther, unread, undecided, decided}

abbrev stream_of : List ℕ → List ℕ → Bool → Option Stream
stream_of taken left ended = Some (record { taken = taken; left = left; ended = ended })

-- nothing was read
pub reads_nothing : (told : Option Stream) → HasRead told told [] false
reads_nothing None = refl
reads_nothing (Some s) = record {
  rest = s.left;
  left = refl;
  is =
      sym (
      ap (λ (taken : List ℕ). stream_of taken s.left (s.ended || false)) (append-nil s.taken)
      ∙ ap (λ (ended : Bool). stream_of s.taken s.left ended) (or-false s.ended)
      );
}

reads_on_of : (s : Stream) (middle now : Option Stream) (xs ys : List ℕ) (ended : Bool) → ReadsOf s middle xs false → HasRead middle now ys ended → ReadsOf s now (xs ++ ys) ended
reads_on_of s middle now xs ys ended first second =
    let more = subst (λ (told : Option Stream). HasRead told now ys ended) first.is second in
    record {
      rest = more.rest;
      left = first.left ∙ ap (λ (bytes : List ℕ). xs ++ bytes) more.left ∙ sym (append_assoc xs ys more.rest);
      is =
          more.is
          ∙ ap (λ (taken : List ℕ). stream_of taken more.rest ((s.ended || false) || ended)) (append_assoc s.taken xs ys)
          ∙ ap (λ (flag : Bool). stream_of (s.taken ++ (xs ++ ys)) more.rest (flag || ended)) (or-false s.ended);
    }

-- more was read
pub reads_on : (told middle now : Option Stream) (xs ys : List ℕ) (ended : Bool) → HasRead told middle xs false → HasRead middle now ys ended → HasRead told now (xs ++ ys) ended
reads_on None middle now xs ys ended first second = subst (λ (told : Option Stream). HasRead told now ys ended) first second
reads_on (Some s) middle now xs ys ended first second = reads_on_of s middle now xs ys ended first second

-- more was read into the room behind what stood there
pub reads_more : (told middle now : Option Stream) (old new : List ℕ) (count n : ℕ) → HasRead told middle (take count old) false → take count new ≡ take count old
    → HasRead middle now (take n (drop count new)) (n == 0) → (n ≡ 0 → ⊥) → HasRead told now (take (count + n) new) false
reads_more told middle now old new count n first front second some =
    let going : HasRead middle now (take n (drop count new)) false = subst (λ (ended : Bool). HasRead middle now (take n (drop count new)) ended) (ne_eqb n 0 some) second in
    let same : take count old ++ take n (drop count new) ≡ take (count + n) new = ap (λ (bytes : List ℕ). bytes ++ take n (drop count new)) (sym front) ∙ take_add count n new in
    subst (λ (bytes : List ℕ). HasRead told now bytes false) same (reads_on told middle now (take count old) (take n (drop count new)) false first going)

-- nothing was read where a call was refused before
pub refused_early : {T E : Type 0} (r : Result T E) (told : Option Stream) → OnErr r (ReadNoFurther told told)
refused_early (Ok x) told = tt
refused_early (Err e) told = unread refl

-- at most so many bytes were read of a stream that is told
pub record ReadAtMost (before : Stream) (now : Option Stream) (most : ℕ) : Type 0 where
  pub bytes : List ℕ
  pub ended : Bool
  pub read : ReadsOf before now bytes ended
  pub within : length bytes ≤ most

-- where it was read no further than it may be, there are at most 8,192
pub read_at_most : (before : Stream) (now : Option Stream) → ReadNoFurther (Some before) now → ReadAtMost before now most_bytes
read_at_most before now (unread same) = record {
  bytes = [];
  ended = false;
  read = subst (λ (told : Option Stream). ReadsOf before told [] false) (sym same) (reads_nothing (Some before));
  within = omega arith;
}
read_at_most before now (undecided waits) = record {
  bytes = waits.bytes;
  ended = false;
  read = waits.read;
  within = omega (arith, waits.waiting.few);
}
read_at_most before now (decided was) = record {
  bytes = was.bytes;
  ended = was.heard.ended;
  read = was.heard.read;
  within = was.heard.within;
}
