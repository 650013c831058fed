-- What a store holds: which names are there, and with which bytes.
use Rattle.std.specs.Prelude.{ℕ, ◌≡◌, ◌⊎◌, ◌<◌, ◌≤◌, List, [], ◌++◌, length, take, drop, Option, None, Some, option_map, unwrap_or, if◌then◌else◌, IsSomeAnd}
use Rattle.std.specs.Str.{bytes_eq}
use Rattle.md_base.specs.Outside.{Gives}

-- the bytes of the file of a name, or `None` where there is no such file
abbrev pub Files : Type 0
Files = List ℕ → Option (List ℕ)

-- these files, but that the named one has these bytes
abbrev pub with_file : List ℕ → List ℕ → Files → Files
with_file name bytes files other = if bytes_eq other name then Some bytes else files other

-- the bytes of a file, none where there is no such file
abbrev pub bytes_in : Files → List ℕ → List ℕ
bytes_in files name = unwrap_or (files name) []

-- what a store that tells its content holds, with these bytes in the named file
abbrev pub holding : List ℕ → List ℕ → Option Files → Option Files
holding name bytes told = option_map (with_file name bytes) told

-- what it holds with this piece added at the end of the named file
abbrev pub extended : List ℕ → List ℕ → Option Files → Option Files
extended name piece told = option_map (λ files. with_file name (bytes_in files name ++ piece) files) told

-- n bytes of the named file from this place on are given in a buffer; the file is there
abbrev pub GivesFrom : Option Files → List ℕ → ℕ → ℕ → List ℕ → Type 0
GivesFrom None name at n buf = Unit {0}
GivesFrom (Some files) name at n buf = IsSomeAnd (files name) (λ bytes. Gives (drop at bytes) n buf)

-- where the store tells its content, the named file is there with these bytes
abbrev pub FileIs : Option Files → List ℕ → List ℕ → Type 0
FileIs None name bytes = Unit {0}
FileIs (Some files) name bytes = files name ≡ Some bytes

-- where the store tells its content, the named file is there with more bytes than this
abbrev pub FileIsLonger : Option Files → List ℕ → ℕ → Type 0
FileIsLonger None name most = Unit {0}
FileIsLonger (Some files) name most = IsSomeAnd (files name) (λ bytes. most < length bytes)

-- after a refused write the store holds what it held, or some front of the bytes is the whole named file
pub record HoldsPart (name bytes : List ℕ) (before now : Option Files) : Type 0 where
  pub count : ℕ
  pub within : count ≤ length bytes
  pub is_held : (now ≡ before) ⊎ (now ≡ holding name (take count bytes) before)
