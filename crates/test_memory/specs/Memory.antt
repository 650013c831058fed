-- What the objects in memory are: what they hold, the most bytes that one call takes or gives, which calls are to
-- fail, how many calls there were, and how many faults.
use Rattle.std.specs.Prelude.{ℕ, ◌≡◌, List, [], ◌∷◌, map, Some, None, if◌then◌else◌, String, string_bytes, Vec, Contains, Option, min, length, drop}
use Rattle.std.specs.List.{position_from, slice_index_or}
use Rattle.std.specs.Str.{bytes_eq}
use Rattle.std.specs.declared.alloc.Global.{Global}
use Rattle.md_base.specs.Files.{Files, bytes_in}
use Rattle.md_base.specs.Outside.{one_more}
use Rattle.md_base.specs.Nets.{Connection, Connections}
use Rattle.md_base.specs.Streams.{Stream, fresh}

pub record FailingSink : Type 0 where
  pub bytes : List ℕ
  pub most : ℕ
  pub fail : List ℕ
  pub calls : ℕ
  pub faults : ℕ

pub record FailingStore : Type 0 where
  pub files : List (List ℕ × List ℕ)
  pub most : ℕ
  pub fail : List ℕ
  pub calls : ℕ
  pub read_faults : ℕ
  pub write_faults : ℕ

-- the next call is to fail
abbrev pub FailsNext : FailingStore → Type 0
FailsNext store = Contains store.fail (one_more store.calls)

-- a call was counted, and what a call takes and which calls are to fail stays
pub record IsAfterCall (before now : FailingStore) : Type 0 where
  pub calls : now.calls ≡ one_more before.calls
  pub most : now.most ≡ before.most
  pub fail : now.fail ≡ before.fail

pub record WholeStore : Type 0 where
  pub files : List (List ℕ × List ℕ)
  pub most : ℕ

pub record WholeSink : Type 0 where
  pub bytes : List ℕ
  pub most : ℕ

-- the names and bytes of files
abbrev pub listed : List (String Global × Vec ℕ Global) → List (List ℕ × List ℕ)
listed files = map (λ file. (string_bytes file.0, file.1.items)) files

-- the bytes of the first file of a name
abbrev pub file_in : List (List ℕ × List ℕ) → Files
file_in [] name = None
file_in (file ∷ files) name = if bytes_eq name file.0 then Some file.1 else file_in files name

-- the same where each name is there: a file that isn't listed is empty
abbrev pub any_file_in : List (List ℕ × List ℕ) → Files
any_file_in files name = Some (bytes_in (file_in files) name)

-- the place of the first file of a name
abbrev pub IsPlaceOf : List (List ℕ × List ℕ) → List ℕ → ℕ → Type 0
IsPlaceOf files name place = position_from (λ file. bytes_eq name file.0) 0 files ≡ Some place

abbrev pub name_at : List (List ℕ × List ℕ) → ℕ → List ℕ
name_at files place = (slice_index_or files place ([], [])).0

abbrev pub bytes_at : List (List ℕ × List ℕ) → ℕ → List ℕ
bytes_at files place = (slice_index_or files place ([], [])).1

-- how many bytes a read gives of a file from a place on: what is left, but no more than the buffer has room for, and no
-- more than a call gives
abbrev pub given_of : ℕ → ℕ → ℕ → List ℕ → ℕ
given_of size most at bytes = min (min size most) (length (drop at bytes))

-- a connection: its stream, what was written to it, and the most bytes that one call gives or takes
pub record WholeLink : Type 0 where
  pub stream : Stream
  pub written : List ℕ
  pub most : ℕ

pub record FailingLink : Type 0 where
  pub stream : Stream
  pub written : List ℕ
  pub most : ℕ
  pub fail : List ℕ
  pub calls : ℕ
  pub read_faults : ℕ
  pub write_faults : ℕ

-- nothing was read from it and nothing written to it
pub record IsFreshLink (link : WholeLink) : Type 0 where
  pub unread : link.stream ≡ fresh link.stream.left
  pub unwritten : link.written ≡ []

pub record WholeNet : Type 0 where
  pub coming : List WholeLink
  pub served : List WholeLink
  pub port : Option ℕ

-- a served connection as the net tells it
abbrev pub told_link : WholeLink → Connection
told_link link = record { stream = link.stream; written = link.written; read_faults = 0; write_faults = 0 }

-- what a net in memory tells
abbrev pub connections_of : WholeNet → Connections
connections_of net = record { coming = map (λ link. link.stream.left) net.coming; served = map told_link net.served }

-- the same of connections and nets of which chosen calls fail
pub record IsFreshFailingLink (link : FailingLink) : Type 0 where
  pub unread : link.stream ≡ fresh link.stream.left
  pub unwritten : link.written ≡ []
  pub reads_well : link.read_faults ≡ 0
  pub writes_well : link.write_faults ≡ 0

pub record FailingNet : Type 0 where
  pub coming : List FailingLink
  pub served : List FailingLink
  pub port : Option ℕ
  pub fail : List ℕ
  pub calls : ℕ
  pub faults : ℕ

abbrev pub told_failing_link : FailingLink → Connection
told_failing_link link =
    record { stream = link.stream; written = link.written; read_faults = link.read_faults; write_faults = link.write_faults }

abbrev pub failing_connections_of : FailingNet → Connections
failing_connections_of net =
    record { coming = map (λ link. link.stream.left) net.coming; served = map told_failing_link net.served }

-- the next call of `bind` or `next` is to fail
abbrev pub FailsNextOf : FailingNet → Type 0
FailsNextOf net = Contains net.fail (one_more net.calls)

-- a call was counted, and which calls are to fail stays
pub record IsAfterNetCall (before now : FailingNet) : Type 0 where
  pub calls : now.calls ≡ one_more before.calls
  pub fail : now.fail ≡ before.fail
