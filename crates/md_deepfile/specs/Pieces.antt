-- A file that is written through a buffer: what was appended to it, and what stands in the buffer.
use Rattle.std.specs.Prelude.{ℕ, ◌≡◌, List, [], ◌∷◌, ◌++◌, Option}
use Rattle.md_base.specs.Files.{Files, holding}
use Rattle.md_dynamic.specs.Profile.{ProfileRows}
use Rattle.md_deepfile.specs.Bytes.{u32, each, name_bytes, proc_bytes, site_bytes, link_bytes, magic, flag_byte}

-- the file has a front of these bytes, and the buffer the rest
pub record Written (name : List ℕ) (before now : Option Files) (buffer done : List ℕ) : Type 0 where
  pub out : List ℕ
  pub held : now ≡ holding name out before
  pub all : out ++ buffer ≡ done

-- the file has a front of these bytes
pub record HasFrontOf (name : List ℕ) (before now : Option Files) (all : List ℕ) : Type 0 where
  pub out : List ℕ
  pub rest : List ℕ
  pub held : now ≡ holding name out before
  pub parts : out ++ rest ≡ all

-- a piece went to the file or the buffer, behind what was written before
abbrev pub WritesOn : List ℕ → List ℕ → Option Files → List ℕ → Option Files → List ℕ → Type 0
WritesOn name piece old buffer now after = (before : Option Files) (done : List ℕ) → Written name before old buffer done → Written name before now after (done ++ piece)

-- a front of what was written before and the piece is the file
abbrev pub StopsIn : List ℕ → List ℕ → Option Files → List ℕ → Option Files → Type 0
StopsIn name piece old buffer now = (before : Option Files) (done : List ℕ) → Written name before old buffer done → HasFrontOf name before now (done ++ piece)

-- the bytes before the contexts, and those from the contexts on
abbrev pub table_bytes : ProfileRows → List ℕ
table_bytes f = (magic ++ 50 ∷ flag_byte f.finished ∷ []) ++ (each name_bytes f.statics.modules ++ (each proc_bytes f.statics.procs ++ each site_bytes f.statics.sites))

abbrev pub row_bytes : ProfileRows → List ℕ
row_bytes f = each u32 f.nodes ++ each (link_bytes 7) f.links
