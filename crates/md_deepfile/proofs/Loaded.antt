-- A file that is read to its end, a piece at a time.
use Rattle.std.proofs.Common.{◌≡◌, ℕ, ◌+◌, ◌<◌, ◌≤◌, List, [], ◌++◌, length, take, Option, refl, sym, ap, subst, ◌∙◌, arith}
use Rattle.std.proofs.lemmas.List.{length-append, length-take-le}
use Rattle.md_base.specs.Files.{Files, GivesFrom, FileIsLonger}
use Rattle.md_base.proofs.Told.{HasFront, front_start, front_more, front_end, front_longer}
use Rattle.md_deepfile.specs.Decoding.{Decoding, HasTaken}
use Rattle.md_deepfile.specs.Loads.{FileTaken, IsLoadFault, IsStoreFault}
use Rattle.md_deepfile.specs.declared.loading.LoadFault.{LoadFault}
use Rattle.md_deepfile.specs.declared.loading.LoadFault.TheVariants as loads

-- the decoder has taken this front of the file
pub record Fed (told : Option Files) (name : List ℕ) (at : ℕ) (d : Decoding) : Type 0 where
  pub bytes : List ℕ
  pub front : HasFront told name bytes
  pub size : length bytes ≡ at
  pub taken : HasTaken d bytes

pub fed_start : (told : Option Files) (name : List ℕ) (d : Decoding) → HasTaken d [] → Fed told name 0 d
fed_start told name d taken = record { bytes = []; front = front_start told name; size = refl; taken = taken }

more : (told : Option Files) (name : List ℕ) (at n : ℕ) (buf : List ℕ) (d : Decoding) (fed : Fed told name at d) → GivesFrom told name at n buf → HasFront told name (fed.bytes ++ take n buf)
more told name at n buf d fed gives = front_more told name fed.bytes buf n fed.front (subst (λ (place : ℕ). GivesFrom told name place n buf) (sym fed.size) gives)

more_size : (bytes buf : List ℕ) (at n : ℕ) → length bytes ≡ at → n ≤ length buf → length (bytes ++ take n buf) ≡ at + n
more_size bytes buf at n size within = length-append bytes (take n buf) ∙ ap (λ (k : ℕ). length bytes + k) (length-take-le n buf within) ∙ ap (λ (k : ℕ). k + n) size

pub fed_more : (told : Option Files) (name : List ℕ) (at n : ℕ) (buf piece : List ℕ) (d now : Decoding) → Fed told name at d → GivesFrom told name at n buf → n ≤ length buf → piece ≡ take n buf
    → ((bs : List ℕ) → HasTaken d bs → HasTaken now (bs ++ piece)) → Fed told name (at + n) now
fed_more told name at n buf piece d now fed gives within is feeds = record {
  bytes = fed.bytes ++ take n buf;
  front = more told name at n buf d fed gives;
  size = more_size fed.bytes buf at n fed.size within;
  taken = subst (λ (xs : List ℕ). HasTaken now (fed.bytes ++ xs)) is (feeds fed.bytes fed.taken);
}

pub fed_end : (told : Option Files) (name : List ℕ) (at n max : ℕ) (buf : List ℕ) (d : Decoding) → Fed told name at d → GivesFrom told name at n buf → n ≡ 0 → 0 < length buf → at ≤ max → FileTaken told name max d
fed_end told name at n max buf d fed gives none room within =
    (fed.bytes, front_end told name fed.bytes buf n fed.front (subst (λ (place : ℕ). GivesFrom told name place n buf) (sym fed.size) gives) none room, omega (arith, fed.size, within), fed.taken)

pub fed_longer : (told : Option Files) (name : List ℕ) (at n max : ℕ) (buf : List ℕ) (d : Decoding) → Fed told name at d → GivesFrom told name at n buf → n ≤ length buf → max < at + n → FileIsLonger told name max
fed_longer told name at n max buf d fed gives within long =
    let front = more told name at n buf d fed gives in
    front_longer told name (fed.bytes ++ take n buf) max front (omega (arith, more_size fed.bytes buf at n fed.size within, long))

pub store_fault : (told : Option Files) (name : List ℕ) (max : ℕ) (fault : LoadFault) → IsStoreFault fault → IsLoadFault told name max fault
store_fault told name max (loads.Damage at kind) h = absurd h
store_fault told name max loads.TooLarge h = absurd h
store_fault told name max loads.Read h = tt
store_fault told name max loads.NoMemory h = tt
