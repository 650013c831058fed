-- Responses, byte for byte (RFC 9110; RFC 9112, section 6; status 431 is that of RFC 6585, section 5).
use Rattle.std.specs.Prelude.{ℕ, List, [], ◌++◌, length, codes, decimal}
use Rattle.md_http.specs.declared.message.Refusal.{Refusal}
use Rattle.md_http.specs.declared.message.Refusal.TheVariants.{BadRequest, NotFound, MethodNotAllowed, HeadTooLarge}

-- what a connection is answered: a page, or a refusal
pub data Answer : Type 0 where
  Html : (page : List ℕ) → Answer
  Refuses : (refusal : Refusal) → Answer

-- code and phrase
abbrev pub status_words : Refusal → List ℕ
status_words BadRequest = codes "400 Bad Request"
status_words NotFound = codes "404 Not Found"
status_words MethodNotAllowed = codes "405 Method Not Allowed"
status_words HeadTooLarge = codes "431 Request Header Fields Too Large"

-- the words, and the end of a line
abbrev pub line : List ℕ → List ℕ
line words = words ++ codes "\r\n"

-- what a refusal tells besides: of a method that isn't allowed, which one is
abbrev pub allow_line : Refusal → List ℕ
allow_line BadRequest = []
allow_line NotFound = []
allow_line MethodNotAllowed = line (codes "Allow: GET")
allow_line HeadTooLarge = []

-- the status line, further lines, what the body is and how long, the empty line, and the body
abbrev pub message : (status further kind body : List ℕ) → List ℕ
message status further kind body =
    line (codes "HTTP/1.1 " ++ status)
    ++ (further
    ++ (line (codes "Content-Type: " ++ kind)
    ++ (line (codes "Content-Length: " ++ decimal (length body))
    ++ (codes "Connection: close\r\n\r\n" ++ body))))

-- the response: a page is HTML, and a refusal is told by its code and phrase
unfoldable pub response_of : Answer → List ℕ
response_of (Html page) = message (codes "200 OK") [] (codes "text/html; charset=utf-8") page
response_of (Refuses refusal) = message (status_words refusal) (allow_line refusal) (codes "text/plain") (status_words refusal ++ codes "\n")
