-- What the bytes of a connection hold so far. A head is one of the request grammar (RFC 9112, sections 2 to 5).
use Rattle.std.specs.Prelude.{ℕ, ◌≡◌, ◌≤◌, List, length, drop, slice_range, Bool, IsTrue}
use Rattle.httparse.specs.Grammar.{RequestHead, ReadsRequest, HasNoRequest, NeverHasRequest, MayBecomeRequest}
use Rattle.httparse.specs.declared.spans.Span.{Span}
use Rattle.httparse.specs.declared.spans.RequestSpans.{RequestSpans}
use Rattle.md_http.specs.declared.heard.Heard.{Heard}
use Rattle.md_http.specs.declared.heard.Heard.TheVariants as heard

-- the most bytes that are read of a connection
abbrev pub most_bytes : ℕ
most_bytes = 8192

-- the bytes are refused: no continuation of them holds a head
abbrev pub IsRefused : List ℕ → Type 0
IsRefused bytes = NeverHasRequest bytes

-- no head is there yet, and the bytes aren't refused: some continuation holds one, or they end within the target, where
-- nothing is refused before its end is there
pub record IsOpen (bytes : List ℕ) : Type 0 where
  pub none : HasNoRequest bytes
  pub open_ended : MayBecomeRequest bytes

-- the bytes decide the answer: a front of them is a head, or they are refused, or there are as many as are ever read, or
-- the stream ended after them
pub data IsDecided (bytes : List ℕ) (ended : Bool) : Type 0 where
  by_head : (head : RequestHead) (rest : List ℕ) → ReadsRequest bytes head rest → IsDecided bytes ended
  by_refusal : IsRefused bytes → IsDecided bytes ended
  by_length : length bytes ≡ most_bytes → IsDecided bytes ended
  by_end : IsTrue ended → IsDecided bytes ended

-- these bytes are what stands at a place
pub record StandsAt (bytes part : List ℕ) (place : Span) : Type 0 where
  pub ordered : place.start ≤ place.end
  pub within : place.end ≤ length bytes
  pub is : slice_range bytes place.start place.end ≡ part

-- where the method and the target of a head stand, and how many fields it has
pub record IsHeadAt (bytes : List ℕ) (head : RequestHead) (spans : RequestSpans) : Type 0 where
  pub reads : ReadsRequest bytes head (drop spans.len bytes)
  pub method : StandsAt bytes head.method spans.method
  pub target : StandsAt bytes head.target spans.path
  pub fields : spans.headers ≡ length head.fields

-- which of the three the bytes hold
abbrev pub Holds : List ℕ → Heard → Type 0
Holds bytes (heard.Head spans) = (head : RequestHead) × IsHeadAt bytes head spans
Holds bytes heard.Refused = IsRefused bytes
Holds bytes heard.Open = IsOpen bytes
