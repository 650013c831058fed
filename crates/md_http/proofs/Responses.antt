-- Responses by what the bytes hold.
use Rattle.std.proofs.Common.{◌≡◌, ℕ, ◌≤◌, ◌==◌, Bool, List, length, drop, sym, ◌∙◌, ap, arith, slice_range, inl, inr, if◌then◌else◌}
use Rattle.std.proofs.lemmas.Bool.{cases_eq, eq-eqb, ne_eqb}
use Rattle.httparse.specs.Grammar.{RequestHead}
use Rattle.httparse.specs.declared.spans.RequestSpans.{RequestSpans}
use Rattle.md_cost.specs.View.{View}
use Rattle.md_http.specs.Heard.{IsOpen, IsRefused, IsHeadAt, most_bytes}
use Rattle.md_http.specs.Message.{Refuses, response_of}
use Rattle.md_http.specs.Response.{IsResponse, to_head, to_refused, to_full, to_cut_off, answer_to, answer_of}
use Rattle.md_http.specs.declared.message.Refusal.TheVariants.{BadRequest, HeadTooLarge}

same_answer : (v : View) (fields : ℕ) (method target : List ℕ) (head : RequestHead) → fields ≡ length head.fields → method ≡ head.method → target ≡ head.target
    → answer_to v fields method target ≡ answer_of v head
same_answer v fields method target head f m t =
    ap (λ (n : ℕ). answer_to v n method target) f
    ∙ ap (λ (w : List ℕ). answer_to v (length head.fields) w target) m
    ∙ ap (λ (w : List ℕ). answer_to v (length head.fields) head.method w) t

-- a head is answered by its method, its target and the number of its fields
pub head_response : (v : View) (bytes : List ℕ) (head : RequestHead) (spans : RequestSpans) (method target response : List ℕ) → IsHeadAt bytes head spans
    → method ≡ slice_range bytes spans.method.start spans.method.end → target ≡ slice_range bytes spans.path.start spans.path.end
    → response ≡ response_of (answer_to v spans.headers method target) → IsResponse v bytes response
head_response v bytes head spans method target response at m t is = record {
  answer = answer_of v head;
  answers = to_head head (drop spans.len bytes) at.reads;
  is = is ∙ ap response_of (same_answer v spans.headers method target head at.fields (m ∙ at.method.is) (t ∙ at.target.is));
}

-- bytes that are refused
pub refused_response : (v : View) (bytes response : List ℕ) → IsRefused bytes → response ≡ response_of (Refuses BadRequest) → IsResponse v bytes response
refused_response v bytes response refused is = record { answer = Refuses BadRequest; answers = to_refused refused; is = is }

-- bytes in which the head is still to come
pub open_response : (v : View) (bytes response : List ℕ) (count : ℕ) → IsOpen bytes → length bytes ≤ most_bytes → count ≡ length bytes
    → response ≡ response_of (Refuses (if count == most_bytes then HeadTooLarge else BadRequest)) → IsResponse v bytes response
open_response v bytes response count still within all is = elim (cases_eq count most_bytes) [
  | inl full ↦ record {
    answer = Refuses HeadTooLarge;
    answers = to_full still (sym all ∙ full);
    is = is ∙ ap (λ (b : Bool). response_of (Refuses (if b then HeadTooLarge else BadRequest))) (eq-eqb count most_bytes full);
  }
  | inr less ↦ record {
    answer = Refuses BadRequest;
    answers = to_cut_off still (omega (arith, less, all, within));
    is = is ∙ ap (λ (b : Bool). response_of (Refuses (if b then HeadTooLarge else BadRequest))) (ne_eqb count most_bytes less);
  }
]
