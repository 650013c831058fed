-- What a connection is answered, by the view of a profile and the bytes that came.
use Rattle.std.specs.Prelude.{ℕ, ◌≡◌, ◌+◌, ◌<◌, ◌==◌, nat_lt, List, [], ◌∷◌, length, take, drop, Option, Some, None, codes, unwrap_or, if◌then◌else◌}
use Rattle.std.specs.List.{position}
use Rattle.std.specs.Str.{bytes_eq}
use Rattle.httparse.specs.Grammar.{RequestHead, ReadsRequest}
use Rattle.percent_encoding.specs.Percent.{percent_decode}
use Rattle.md_cost.specs.View.{View}
use Rattle.md_query.specs.Asked.{Asked, query_of}
use Rattle.md_query.specs.Page.{PageRows}
use Rattle.md_query.specs.PageOf.{page_of}
use Rattle.md_render.specs.Html.{html_of}
use Rattle.md_http.specs.Heard.{most_bytes, IsOpen, IsRefused}
use Rattle.md_http.specs.Message.{Answer, Html, Refuses, response_of}
use Rattle.md_http.specs.declared.message.Refusal.TheVariants.{BadRequest, NotFound, MethodNotAllowed, HeadTooLarge}

-- the most fields of a head that is answered
abbrev pub most_fields : ℕ
most_fields = 64

-- ---- the target

-- the place of the first `?`, or the length where there is none
abbrev pub mark_of : List ℕ → ℕ
mark_of bytes = unwrap_or (position (λ b. b == 63) bytes) (length bytes)

-- what stands before the first `?`, and what follows it
abbrev pub path_part : List ℕ → List ℕ
path_part bytes = take (mark_of bytes) bytes

abbrev pub query_part : List ℕ → List ℕ
query_part bytes = drop (mark_of bytes + 1) bytes

-- what a target asks for: behind its `/` comes the path, percent-encoded, up to a `?`, and the query behind that
abbrev pub asked_by : (target : List ℕ) → Option Asked
asked_by [] = None
asked_by (b ∷ bytes) = if b == 47 then query_of (percent_decode (path_part bytes)) (query_part bytes) else None

-- ---- the answer

-- the page that is asked for, where there is one
abbrev pub page_asked : View → Option Asked → Option PageRows
page_asked v None = None
page_asked v (Some asked) = page_of v asked

abbrev pub page_answer : View → Option PageRows → Answer
page_answer v None = Refuses NotFound
page_answer v (Some page) = Html (html_of v page)

-- the answer to a head with so many fields: the first line that applies
abbrev pub answer_to : View → (fields : ℕ) (method target : List ℕ) → Answer
answer_to v fields method target =
    if nat_lt most_fields fields then Refuses HeadTooLarge
    else if bytes_eq method (codes "GET") then page_answer v (page_asked v (asked_by target))
    else Refuses MethodNotAllowed

abbrev pub answer_of : View → RequestHead → Answer
answer_of v head = answer_to v (length head.fields) head.method head.target

-- the answer to the bytes of a connection, at most 8,192. Where a front of them is a head, it follows from that head
-- alone. Where none is, as many bytes as are ever read are too many, if they aren't refused; else it is no request.
-- Bytes that end within the target may be both open and refused, where that target can't become UTF-8; then either
-- answer is right.
pub data IsAnswer (v : View) (bytes : List ℕ) : Answer → Type 0 where
  to_head : (head : RequestHead) (rest : List ℕ) → ReadsRequest bytes head rest → IsAnswer v bytes (answer_of v head)
  to_refused : IsRefused bytes → IsAnswer v bytes (Refuses BadRequest)
  to_full : IsOpen bytes → length bytes ≡ most_bytes → IsAnswer v bytes (Refuses HeadTooLarge)
  to_cut_off : IsOpen bytes → length bytes < most_bytes → IsAnswer v bytes (Refuses BadRequest)

-- the response to the bytes of a connection
pub record IsResponse (v : View) (bytes response : List ℕ) : Type 0 where
  pub answer : Answer
  pub answers : IsAnswer v bytes answer
  pub is : response ≡ response_of answer
