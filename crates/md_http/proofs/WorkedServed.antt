-- How far a connection may be read, and why serving it may end, on small connections worked out by hand.
use Rattle.std.proofs.Common.{◌≡◌, ℕ, ◌<◌, Bool, true, false, List, [], ◌∷◌, length, Option, None, Some, refl, sym, ap, subst, arith}
use Rattle.std.specs.Prelude.{zero, suc, ◌++◌, codes, IsAscii}
use Rattle.std.proofs.lemmas.List.{append-nil}
use Rattle.std.proofs.lemmas.List.Elements.{All-nil, All-cons}
use Rattle.std.proofs.lemmas.Str.{IsUtf8-from_ascii}
use Rattle.httparse.specs.Grammar.{LineEnd, crlf, lf, Field, print_request, is_token_byte, is_uri_byte, IsField, IsRequestHead, RequestHead, ReadsRequest}
use Rattle.md_base.specs.Streams.{Stream, fresh}
use Rattle.md_http.specs.Heard.{IsDecided, by_head, by_refusal, by_length, by_end, most_bytes}
use Rattle.md_http.specs.Reading.{WasHeard, ReadNoFurther, unread, undecided, decided}
use Rattle.md_http.specs.Served.{ends, HasCauseOf}
use Rattle.md_http.specs.declared.link.Served.TheVariants.{Answered, ReadFault, WriteFault, NoMemory}
use Rattle.md_http.proofs.Readings.{read_at_most}

-- a connection of which these bytes were read, which are all, and whether its end was met
abbrev all_read : List ℕ → Bool → Option Stream
all_read bytes ended = Some (record { taken = bytes; left = []; ended = ended })

abbrev taken_of : Option Stream → List ℕ
taken_of None = []
taken_of (Some s) = s.taken

abbrev ended_of : Option Stream → Bool
ended_of None = false
ended_of (Some s) = s.ended

-- how many bytes were written to it
abbrev written_of : Option (List ℕ) → ℕ
written_of None = 0
written_of (Some bytes) = length bytes

-- ---- how far it may be read

-- refuses a rule by which something has to be read before memory can be refused
not_read_at_all : ReadNoFurther (Some (fresh (71 ∷ []))) (Some (fresh (71 ∷ [])))
not_read_at_all = unread refl

-- refuses a rule by which any number of bytes may be read
more_than_8192 : (bytes : List ℕ) (ended : Bool) → most_bytes < length bytes → ReadNoFurther (Some (fresh bytes)) (all_read bytes ended) → ⊥
more_than_8192 bytes ended more so =
    let at = read_at_most (fresh bytes) (all_read bytes ended) so in
    let same : bytes ≡ at.bytes = ap taken_of at.read.is in
    let long : length bytes ≡ length at.bytes = ap length same in
    omega (arith, more, long, at.within)

-- refuses a rule by which a connection is read on to its end behind a whole head
end_behind_a_head : (bytes : List ℕ) (head : RequestHead) (rest : List ℕ) → ReadsRequest bytes head rest → ReadNoFurther (Some (fresh bytes)) (all_read bytes true) → ⊥
end_behind_a_head bytes head rest reads (unread same) = let e : true ≡ false = ap ended_of same in absurd (cc)
end_behind_a_head bytes head rest reads (undecided waits) = let e : true ≡ false = ap ended_of waits.read.is in absurd (cc)
end_behind_a_head bytes head rest reads (decided was) =
    let met : true ≡ was.heard.ended = ap ended_of was.heard.read.is in
    let same : bytes ≡ was.bytes = ap taken_of was.heard.read.is in
    (was.heard.waited (sym met)).still.none head rest (subst (λ (bs : List ℕ). ReadsRequest bs head rest) same reads)

-- ---- bytes that decide

-- GET / HTTP/1.1
abbrev get_root : RequestHead
get_root = record { blank = []; method = codes "GET"; target = codes "/"; minor = 1; line_end = crlf; fields = []; last = crlf }

slash_is_ascii : IsAscii (codes "/")
slash_is_ascii zero = omega arith
slash_is_ascii (suc i) = omega arith

get_root_is_head : IsRequestHead get_root
unfolding is_token_byte
get_root_is_head = record {
  method = (omega arith, All-cons (λ b. is_token_byte b ≡ true) 71 (codes "ET") refl (All-cons (λ b. is_token_byte b ≡ true) 69 (codes "T") refl (All-cons (λ b. is_token_byte b ≡ true) 84 [] refl (All-nil (λ b. is_token_byte b ≡ true)))));
  target = (omega arith, All-cons (λ b. is_uri_byte b ≡ true) 47 [] refl (All-nil (λ b. is_uri_byte b ≡ true)));
  target_text = IsUtf8-from_ascii (codes "/") slash_is_ascii;
  minor = omega arith;
  fields = All-nil IsField;
}

abbrev head_of : (blank : List LineEnd) (method target : List ℕ) (minor : ℕ) (line_end : LineEnd) (fields : List Field) (last : LineEnd) → RequestHead
head_of blank method target minor line_end fields last =
    record { blank = blank; method = method; target = target; minor = minor; line_end = line_end; fields = fields; last = last }

no_head_of_nothing : (blank : List LineEnd) (method target : List ℕ) (minor : ℕ) (line_end : LineEnd) (fields : List Field) (last : LineEnd) (rest : List ℕ)
    → [] ≡ print_request (head_of blank method target minor line_end fields last) ++ rest → ⊥
unfolding print_request
no_head_of_nothing [] [] target minor line_end fields last rest is = absurd (cc)
no_head_of_nothing [] (c ∷ method) target minor line_end fields last rest is = absurd (cc)
no_head_of_nothing (crlf ∷ blank) method target minor line_end fields last rest is = absurd (cc)
no_head_of_nothing (lf ∷ blank) method target minor line_end fields last rest is = absurd (cc)

-- refuses a rule by which no bytes are refused as no request while more may come
nothing_decides_nothing : IsDecided [] false → ⊥
nothing_decides_nothing (by_head head rest reads) =
    no_head_of_nothing head.blank head.method head.target head.minor head.line_end head.fields head.last rest reads.1
nothing_decides_nothing (by_refusal never) = never (print_request get_root) get_root [] (get_root_is_head, sym (append-nil (print_request get_root)))
nothing_decides_nothing (by_length full) = omega (arith, full)
nothing_decides_nothing (by_end met) = absurd (cc)

heard_nothing : (input : List ℕ) → WasHeard (Some (fresh input)) (Some (fresh input)) → ⊥
heard_nothing input was =
    let none : was.bytes ≡ [] = sym (ap taken_of was.heard.read.is) in
    let unmet : was.heard.ended ≡ false = sym (ap ended_of was.heard.read.is) in
    nothing_decides_nothing (subst (λ (met : Bool). IsDecided [] met) unmet (subst (λ (bytes : List ℕ). IsDecided bytes was.heard.ended) none was.heard.decided))

-- ---- why it may end

-- refuses a body that reads nothing and answers 400
answered_unread : (input : List ℕ) (held later : Option (List ℕ)) → HasCauseOf (ends (Some (fresh input)) held 0 0) (ends (Some (fresh input)) later 0 0) Answered → ⊥
answered_unread input held later cause = heard_nothing input cause.0

-- refuses a rule by which a fault of reading is told though none was counted
uncounted_read_fault : (before now : Option Stream) (held : Option (List ℕ)) → HasCauseOf (ends before held 2 0) (ends now held 2 0) ReadFault → ⊥
uncounted_read_fault before now held cause = let one_more = cause.counts.0 in omega (arith, one_more)

-- refuses a rule by which a fault of writing is counted among those of reading
write_fault_counted_as_read : (before now : Option Stream) (held later : Option (List ℕ)) → HasCauseOf (ends before held 0 0) (ends now later 1 0) WriteFault → ⊥
write_fault_counted_as_read before now held later cause = let one_more = cause.counts.1 in omega (arith, one_more)

-- refuses a rule by which one fault is counted among both
counted_in_both : (before now : Option Stream) (held : Option (List ℕ)) → HasCauseOf (ends before held 0 0) (ends now held 1 1) ReadFault → ⊥
counted_in_both before now held cause = let same = cause.counts.1 in omega (arith, same)

-- refuses a rule by which a fault of reading is told as want of memory
fault_told_as_memory : (before now : Option Stream) (held : Option (List ℕ)) → HasCauseOf (ends before held 0 0) (ends now held 1 0) NoMemory → ⊥
fault_told_as_memory before now held cause = let same = cause.1.0 in omega (arith, same)

-- refuses a rule by which a connection may be answered though a write failed
answered_with_a_fault : (before now : Option Stream) (held later : Option (List ℕ)) → HasCauseOf (ends before held 0 0) (ends now later 0 1) Answered → ⊥
answered_with_a_fault before now held later cause = let same = cause.1.1 in omega (arith, same)

-- refuses a rule by which a connection that can't be read is told so
answered_before_the_fault : (before now : Option Stream) → HasCauseOf (ends before (Some []) 0 0) (ends now (Some (72 ∷ [])) 1 0) ReadFault → ⊥
answered_before_the_fault before now cause = let e : 1 ≡ 0 = ap written_of cause.unwritten in omega (arith, e)

-- refuses a rule by which memory may be refused once too much was read
too_much_before_memory : (bytes : List ℕ) (held later : Option (List ℕ)) → most_bytes < length bytes → HasCauseOf (ends (Some (fresh bytes)) held 0 0) (ends (all_read bytes false) later 0 0) NoMemory → ⊥
too_much_before_memory bytes held later more cause = more_than_8192 bytes false more cause.0
