-- Small requests and responses, worked out by hand.
use Rattle.std.proofs.Common.{◌≡◌, [], Some, None, codes, refl}
use Rattle.std.specs.Prelude.{⊤}
use Rattle.std.specs.Fmt.{digits}
use Rattle.std.specs.Str.{is_utf8, chars}
use Rattle.std.specs.Str.Lossy.{utf8_lossy, utf8_valid_len, utf8_error_len}
use lib.Utf8.{encode}
use Rattle.form_urlencoded.proofs.OnLiterals.{form_urlencoded_on_literals}
use Rattle.percent_encoding.proofs.OnLiterals.{percent_encoding_on_literals}
use Rattle.md_token.specs.Literal.{number_of}
use Rattle.md_query.specs.Asked.{query_of, table_of, Menu, Clique, Procs}
use Rattle.md_cost.specs.View.{View}
use Rattle.md_http.specs.Message.{Html, Refuses, response_of}
use Rattle.md_http.specs.Response.{asked_by, path_part, query_part, answer_to}
use Rattle.md_http.specs.declared.message.Refusal.TheVariants.{BadRequest, NotFound, MethodNotAllowed, HeadTooLarge}

-- what is unfolded to compute on a literal
unfoldable on_literals : ⊤
unfolding query_of table_of form_urlencoded_on_literals percent_encoding_on_literals utf8_lossy utf8_valid_len utf8_error_len is_utf8 chars encode number_of
on_literals = tt

-- a target ends its path at the first `?`
the-query-follows-the-first-mark : query_part (codes "a?b?c") ≡ codes "b?c"
the-query-follows-the-first-mark = refl

without-a-mark-all-is-path : path_part (codes "procs") ≡ codes "procs"
without-a-mark-all-is-path = refl

without-a-mark-there-is-no-query : query_part (codes "procs") ≡ []
without-a-mark-there-is-no-query = refl

-- what targets ask for
the-root-asks-for-the-menu : asked_by (codes "/") ≡ Some Menu
unfolding on_literals
the-root-asks-for-the-menu = refl

paths-are-decoded : asked_by (codes "/pr%6Fcs") ≡ Some Procs
unfolding on_literals
paths-are-decoded = refl

pairs-are-decoded : asked_by (codes "/clique?id=%31&id=2") ≡ Some (Clique 1)
unfolding on_literals
pairs-are-decoded = refl

a-target-begins-with-a-slash : asked_by (codes "procs") ≡ None
a-target-begins-with-a-slash = refl

a-second-slash-is-of-the-path : asked_by (codes "//procs") ≡ None
unfolding on_literals
a-second-slash-is-of-the-path = refl

-- answers, the first that applies
too-many-fields-come-first : (v : View) → answer_to v 65 (codes "POST") (codes "x") ≡ Refuses HeadTooLarge
too-many-fields-come-first v = refl

then-the-method : (v : View) → answer_to v 64 (codes "POST") (codes "x") ≡ Refuses MethodNotAllowed
then-the-method v = refl

then-the-target : (v : View) → answer_to v 64 (codes "GET") (codes "x") ≡ Refuses NotFound
then-the-target v = refl

-- responses
a-page-is-html : response_of (Html (codes "<p>")) ≡ codes "HTTP/1.1 200 OK\r\nContent-Type: text/html; charset=utf-8\r\nContent-Length: 3\r\nConnection: close\r\n\r\n<p>"
unfolding response_of digits
a-page-is-html = refl

other-methods-are-told-which-is-allowed : response_of (Refuses MethodNotAllowed) ≡ codes "HTTP/1.1 405 Method Not Allowed\r\nAllow: GET\r\nContent-Type: text/plain\r\nContent-Length: 23\r\nConnection: close\r\n\r\n405 Method Not Allowed\n"
unfolding response_of digits
other-methods-are-told-which-is-allowed = refl

a-bad-request-is-told : response_of (Refuses BadRequest) ≡ codes "HTTP/1.1 400 Bad Request\r\nContent-Type: text/plain\r\nContent-Length: 16\r\nConnection: close\r\n\r\n400 Bad Request\n"
unfolding response_of digits
a-bad-request-is-told = refl

no-page-is-told : response_of (Refuses NotFound) ≡ codes "HTTP/1.1 404 Not Found\r\nContent-Type: text/plain\r\nContent-Length: 14\r\nConnection: close\r\n\r\n404 Not Found\n"
unfolding response_of digits
no-page-is-told = refl

a-long-head-is-told : response_of (Refuses HeadTooLarge) ≡ codes "HTTP/1.1 431 Request Header Fields Too Large\r\nContent-Type: text/plain\r\nContent-Length: 36\r\nConnection: close\r\n\r\n431 Request Header Fields Too Large\n"
unfolding response_of digits
a-long-head-is-told = refl
