-- The damage of a file that spells no profile: the first rule that it breaks, and its place.
use Rattle.std.specs.Prelude.{ℕ, ◌≡◌, ◌⊎◌, ◌+◌, ◌<◌, List, [], ◌∷◌, ◌++◌, length, All, Any}
use Rattle.md_deepfile.specs.Bytes.{magic}
use Rattle.md_deepfile.specs.Format.{Damage}
use Rattle.md_deepfile.specs.declared.damage.Kind.TheVariants as kinds
use Rattle.law_damage.specs.Rows.{FileRows, counts_in}
use Rattle.law_damage.specs.Fields.{HasRoom, Field, value, written, laid, Keeps, kind_of, back, fields, before_context}

-- They can be written as a file, whichever rules they break: the magic has seven bytes, each link the counts of the version, and what
-- is in a field has room there.
pub record CanBeWritten (t : FileRows) : Type 0 where
  pub magic : length t.magic ≡ length magic
  pub counts : All (λ l. length l.own ≡ counts_in t.version) t.links
  pub room : All (λ x. HasRoom (value x)) (fields t)

-- the bytes begin with the first fields of the rows, which keep their rules; other fields follow, and other bytes
pub record Begins (bytes : List ℕ) (t : FileRows) (first others : List Field) (rest : List ℕ) : Type 0 where
  pub rows : CanBeWritten t
  pub are : fields t ≡ first ++ others
  pub keep : All Keeps first
  pub bytes_are : bytes ≡ laid first ++ rest

-- behind fields that keep their rules stands one that breaks its own
pub record BreaksRule (bytes : List ℕ) (d : Damage) : Type 0 where
  pub t : FileRows
  pub first : List Field
  pub field : Field
  pub others : List Field
  pub rest : List ℕ
  pub begins : Begins bytes t first (field ∷ others) (written field ++ rest)
  pub broken : Keeps field → ⊥
  pub kind : d.kind ≡ kind_of field
  pub place : d.at + back field ≡ length (laid first)

-- behind such fields the file ends within one
pub record EndsEarly (bytes : List ℕ) (d : Damage) : Type 0 where
  pub t : FileRows
  pub first : List Field
  pub field : Field
  pub others : List Field
  pub part : List ℕ
  pub lacking : List ℕ
  pub begins : Begins bytes t first (field ∷ others) part
  pub parts : written field ≡ part ++ lacking
  pub lacks : 0 < length lacking
  pub kind : d.kind ≡ kinds.Short
  pub place : d.at ≡ length bytes

-- all fields keep their rules, and a byte follows them
pub record GoesOn (bytes : List ℕ) (d : Damage) : Type 0 where
  pub t : FileRows
  pub byte : ℕ
  pub rest : List ℕ
  pub begins : Begins bytes t (fields t) [] (byte ∷ rest)
  pub kind : d.kind ≡ kinds.Trailing
  pub place : d.at ≡ length (laid (fields t))

-- context v is the callee of a link whose caller has a lower number
abbrev pub IsReached : FileRows → ℕ → Type 0
IsReached t v = Any (λ l. (l.callee ≡ v) × (l.caller < v)) t.links

-- a context above 0 isn't reached, and each lower one is
pub record IsLowestOrphan (t : FileRows) (v : ℕ) : Type 0 where
  pub above : 0 < v
  pub within : v < length t.contexts
  pub alone : IsReached t v → ⊥
  pub lower : (u : ℕ) → 0 < u → u < v → IsReached t u

-- all fields keep their rules and nothing follows, but a context isn't reached
pub record HasOrphan (bytes : List ℕ) (d : Damage) : Type 0 where
  pub t : FileRows
  pub v : ℕ
  pub begins : Begins bytes t (fields t) [] []
  pub orphan : IsLowestOrphan t v
  pub kind : d.kind ≡ kinds.Orphan
  pub place : d.at ≡ length (laid (before_context t v))

-- the first rule that the bytes break, in the order of the fields, is of this kind and at this place
abbrev pub IsFirstDamage : List ℕ → Damage → Type 0
IsFirstDamage bytes d = BreaksRule bytes d ⊎ (EndsEarly bytes d ⊎ (GoesOn bytes d ⊎ HasOrphan bytes d))

-- all fields keep their rules, nothing follows, and each context above 0 is reached
pub record KeepsAllRules (bytes : List ℕ) : Type 0 where
  pub t : FileRows
  pub begins : Begins bytes t (fields t) [] []
  pub reached : (v : ℕ) → 0 < v → v < length t.contexts → IsReached t v
