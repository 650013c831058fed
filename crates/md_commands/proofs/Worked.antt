-- Words, worked out by hand.
use Rattle.std.proofs.Common.{◌≡◌, ℕ, zero, suc, List, [], ◌∷◌, Some, None, codes, refl, true}
use Rattle.std.specs.Prelude.{⊤}
use Rattle.std.specs.Str.{is_utf8, chars}
use Rattle.std.specs.Str.Lossy.{utf8_lossy, utf8_valid_len, utf8_error_len}
use lib.Utf8.{encode}
use Rattle.form_urlencoded.proofs.OnLiterals.{form_urlencoded_on_literals}
use Rattle.md_base.specs.declared.measure.Measure.TheVariants.{Calls, Exits, Words}
use Rattle.md_token.specs.Literal.{number_of}
use Rattle.md_query.specs.Asked as query
use Rattle.md_query.specs.Asked.{query_of, table_of}
use Rattle.md_commands.specs.Form.{form, Check, Run, Report, Page, Serve, Gen, Migrate, Feedback, Dump, Undump, Cover, Sum, Compare, Number, Name}

-- what is unfolded to compute a command on literals
unfoldable on_words : ⊤
unfolding form query_of table_of form_urlencoded_on_literals utf8_lossy utf8_valid_len utf8_error_len is_utf8 chars encode number_of
on_words = tt

-- ---- options

no-steps-are-a-million : form (codes "run" ∷ codes "a.m" ∷ []) ≡ Some (Run (codes "a.m") 1000000 (codes "mdprof.data"))
unfolding on_words
no-steps-are-a-million = refl

options-stand-before-the-file-or-behind-it : form (codes "run" ∷ codes "--steps" ∷ codes "5" ∷ codes "a.m" ∷ codes "--profile=p" ∷ []) ≡ Some (Run (codes "a.m") 5 (codes "p"))
unfolding on_words
options-stand-before-the-file-or-behind-it = refl

no-more-steps-than-these : form (codes "run" ∷ codes "a.m" ∷ codes "--steps=16777217" ∷ []) ≡ None
unfolding on_words
no-more-steps-than-these = refl

zeros-in-front-don't-count : form (codes "run" ∷ codes "a.m" ∷ codes "--steps=016777216" ∷ []) ≡ Some (Run (codes "a.m") 16777216 (codes "mdprof.data"))
unfolding on_words
zeros-in-front-don't-count = refl

an-option-comes-once : form (codes "run" ∷ codes "a.m" ∷ codes "--steps=5" ∷ codes "--steps=5" ∷ []) ≡ None
unfolding on_words
an-option-comes-once = refl

an-option-is-no-value : form (codes "run" ∷ codes "a.m" ∷ codes "--profile" ∷ codes "-p" ∷ []) ≡ None
unfolding on_words
an-option-is-no-value = refl

a-dash-alone-may-name-files : form (codes "run" ∷ codes "-" ∷ codes "--profile=" ∷ []) ≡ Some (Run (codes "-") 1000000 [])
unfolding on_words
a-dash-alone-may-name-files = refl

no-option-behind-two-dashes : form (codes "run" ∷ codes "--" ∷ codes "--steps" ∷ []) ≡ Some (Run (codes "--steps") 1000000 (codes "mdprof.data"))
unfolding on_words
no-option-behind-two-dashes = refl

run-has-no-print : form (codes "run" ∷ codes "a.m" ∷ codes "--print" ∷ []) ≡ None
unfolding on_words
run-has-no-print = refl

check-has-print : form (codes "check" ∷ codes "--print" ∷ codes "a.m" ∷ []) ≡ Some (Check (codes "a.m") true)
unfolding on_words
check-has-print = refl

-- ---- commands

a-program-is-not-written-over : form (codes "run" ∷ codes "mdprof.data" ∷ []) ≡ None
unfolding on_words
a-program-is-not-written-over = refl

a-query-has-pairs-behind-a-mark : form (codes "report" ∷ codes "a.m" ∷ codes "/top?by=words&n=3" ∷ []) ≡ Some (Report (codes "a.m") (query.Top Words 3) 1000000)
unfolding on_words
a-query-has-pairs-behind-a-mark = refl

one-slash-is-dropped : form (codes "page" ∷ codes "p" ∷ codes "//menu" ∷ []) ≡ None
unfolding on_words
one-slash-is-dropped = refl

a-page-of-a-stored-profile : form (codes "page" ∷ codes "p" ∷ codes "root" ∷ []) ≡ Some (Page (codes "p") query.Root)
unfolding on_words
a-page-of-a-stored-profile = refl

twenty-procedures-at-most : form (codes "gen" ∷ codes "21" ∷ []) ≡ None
unfolding on_words
twenty-procedures-at-most = refl

the-summary-of-twenty : form (codes "gen" ∷ codes "20" ∷ codes "--summary" ∷ []) ≡ Some (Gen 20 true)
unfolding on_words
the-summary-of-twenty = refl

a-profile-is-not-written-over-itself : form (codes "migrate" ∷ codes "p" ∷ codes "p" ∷ []) ≡ None
unfolding on_words
a-profile-is-not-written-over-itself = refl

an-old-profile-and-a-new-one : form (codes "migrate" ∷ codes "p" ∷ codes "q" ∷ []) ≡ Some (Migrate (codes "p") (codes "q"))
unfolding on_words
an-old-profile-and-a-new-one = refl

a-hundred-calls-are-the-least : form (codes "feedback" ∷ codes "a.m" ∷ codes "fb" ∷ []) ≡ Some (Feedback (codes "a.m") (codes "fb") 1000000 100)
unfolding on_words
a-hundred-calls-are-the-least = refl

steps-and-least-in-any-order : form (codes "feedback" ∷ codes "--least=3" ∷ codes "a.m" ∷ codes "--steps" ∷ codes "5" ∷ codes "fb" ∷ []) ≡ Some (Feedback (codes "a.m") (codes "fb") 5 3)
unfolding on_words
steps-and-least-in-any-order = refl

the-least-is-not-none : form (codes "feedback" ∷ codes "a.m" ∷ codes "fb" ∷ codes "--least" ∷ codes "0" ∷ []) ≡ None
unfolding on_words
the-least-is-not-none = refl

feedback-does-not-go-over-the-program : form (codes "feedback" ∷ codes "a.m" ∷ codes "a.m" ∷ []) ≡ None
unfolding on_words
feedback-does-not-go-over-the-program = refl

a-profile-as-text : form (codes "dump" ∷ codes "p" ∷ []) ≡ Some (Dump (codes "p"))
unfolding on_words
a-profile-as-text = refl

a-dump-has-no-options : form (codes "dump" ∷ codes "p" ∷ codes "--steps=5" ∷ []) ≡ None
unfolding on_words
a-dump-has-no-options = refl

a-text-as-a-profile : form (codes "undump" ∷ codes "t" ∷ codes "p" ∷ []) ≡ Some (Undump (codes "t") (codes "p"))
unfolding on_words
a-text-as-a-profile = refl

a-text-is-not-written-over : form (codes "undump" ∷ codes "t" ∷ codes "t" ∷ []) ≡ None
unfolding on_words
a-text-is-not-written-over = refl

the-turns-of-a-procedure : form (codes "cover" ∷ codes "a.m" ∷ codes "012" ∷ []) ≡ Some (Cover (codes "a.m") (Number 12) 1000000)
unfolding on_words
the-turns-of-a-procedure = refl

-- refuses a rule by which a name begins with a letter: one byte that is no digit is enough, wherever it stands
a-procedure-goes-by-its-full-name : form (codes "cover" ∷ codes "a.m" ∷ codes "1.p/0" ∷ []) ≡ Some (Cover (codes "a.m") (Name (codes "1.p/0")) 1000000)
unfolding on_words
a-procedure-goes-by-its-full-name = refl

-- refuses a rule by which what is no number is a name
a-number-that-is-too-great-is-no-name : form (codes "cover" ∷ codes "a.m" ∷ codes "4294967296" ∷ []) ≡ None
unfolding on_words
a-number-that-is-too-great-is-no-name = refl

-- refuses a rule by which nothing is a name: it has no byte that is no digit
an-empty-word-names-no-procedure : form (codes "cover" ∷ codes "a.m" ∷ [] ∷ []) ≡ None
unfolding on_words
an-empty-word-names-no-procedure = refl

profiles-in-the-order-of-the-words : form (codes "sum" ∷ codes "q" ∷ codes "p" ∷ codes "q" ∷ []) ≡ Some (Sum (codes "q" ∷ codes "p" ∷ codes "q" ∷ []))
unfolding on_words
profiles-in-the-order-of-the-words = refl

no-profiles-are-not-added-up : form (codes "sum" ∷ []) ≡ None
unfolding on_words
no-profiles-are-not-added-up = refl

abbrev profiles : ℕ → List (List ℕ)
profiles zero = []
profiles (suc n) = codes "p" ∷ profiles n

-- refuses a limit of fifteen
sixteen-profiles-are-added-up : form (codes "sum" ∷ profiles 16) ≡ Some (Sum (profiles 16))
unfolding on_words
sixteen-profiles-are-added-up = refl

-- refuses a rule by which there may be as many as one likes, and one by which those past the sixteenth are left out
seventeen-profiles-are-too-many : form (codes "sum" ∷ profiles 17) ≡ None
unfolding on_words
seventeen-profiles-are-too-many = refl

-- refuses a rule by which the new profile comes first
an-old-profile-is-compared-with-a-new-one : form (codes "compare" ∷ codes "p" ∷ codes "q" ∷ []) ≡ Some (Compare (codes "p") (codes "q") Calls 5)
unfolding on_words
an-old-profile-is-compared-with-a-new-one = refl

-- refuses a rule by which nothing at all isn't a margin, as it is none of `feedback`
a-profile-is-compared-with-itself : form (codes "compare" ∷ codes "p" ∷ codes "--least=0" ∷ codes "--by" ∷ codes "exits" ∷ codes "p" ∷ []) ≡ Some (Compare (codes "p") (codes "p") Exits 0)
unfolding on_words
a-profile-is-compared-with-itself = refl

-- refuses a rule by which a margin is as great as one likes
a-margin-is-a-part-of-the-whole : form (codes "compare" ∷ codes "p" ∷ codes "q" ∷ codes "--least=1001" ∷ []) ≡ None
unfolding on_words
a-margin-is-a-part-of-the-whole = refl

the-whole-is-a-margin : form (codes "compare" ∷ codes "p" ∷ codes "q" ∷ codes "--least=1000" ∷ []) ≡ Some (Compare (codes "p") (codes "q") Calls 1000)
unfolding on_words
the-whole-is-a-margin = refl

-- refuses a rule by which a word that is no measure stands for calls
no-other-measure : form (codes "compare" ∷ codes "p" ∷ codes "q" ∷ codes "--by=time" ∷ []) ≡ None
unfolding on_words
no-other-measure = refl

-- refuses a rule by which one profile is compared with the one that `run` stores
two-profiles-are-compared : form (codes "compare" ∷ codes "p" ∷ []) ≡ None
unfolding on_words
two-profiles-are-compared = refl

-- ---- where a word may be taken for an option or for no option

an-option-behind-an-option-is-no-value : form (codes "run" ∷ codes "a.m" ∷ codes "--steps" ∷ codes "--" ∷ codes "5" ∷ []) ≡ None
unfolding on_words
an-option-behind-an-option-is-no-value = refl

what-stands-behind-the-first-equals-is-the-value : form (codes "run" ∷ codes "a.m" ∷ codes "--profile=a=b" ∷ []) ≡ Some (Run (codes "a.m") 1000000 (codes "a=b"))
unfolding on_words
what-stands-behind-the-first-equals-is-the-value = refl

a-dash-alone-is-a-value : form (codes "run" ∷ codes "a.m" ∷ codes "--profile" ∷ codes "-" ∷ []) ≡ Some (Run (codes "a.m") 1000000 (codes "-"))
unfolding on_words
a-dash-alone-is-a-value = refl

a-flag-has-no-value : form (codes "check" ∷ codes "a.m" ∷ codes "--print=" ∷ []) ≡ None
unfolding on_words
a-flag-has-no-value = refl

one-dash-begins-no-option : form (codes "run" ∷ codes "a.m" ∷ codes "-steps" ∷ codes "5" ∷ []) ≡ None
unfolding on_words
one-dash-begins-no-option = refl

an-empty-word-is-a-file : form (codes "dump" ∷ [] ∷ []) ≡ Some (Dump [])
unfolding on_words
an-empty-word-is-a-file = refl

no-command-is-help : form (codes "help" ∷ codes "run" ∷ []) ≡ None
unfolding on_words
no-command-is-help = refl

-- ---- serving

-- refuses a rule by which an option's place tells which it is
a-port-and-as-many-requests : form (codes "serve" ∷ codes "--requests=3" ∷ codes "p" ∷ codes "--port" ∷ codes "80" ∷ []) ≡ Some (Serve (codes "p") 80 3)
unfolding on_words
a-port-and-as-many-requests = refl

-- refuses a rule that gives `serve` a port of its own
a-port-is-asked-for : form (codes "serve" ∷ codes "p" ∷ codes "--requests=3" ∷ []) ≡ None
unfolding on_words
a-port-is-asked-for = refl

-- refuses a rule by which it serves on without an end
requests-are-asked-for : form (codes "serve" ∷ codes "p" ∷ codes "--port=80" ∷ []) ≡ None
unfolding on_words
requests-are-asked-for = refl

-- refuses a rule that cuts a port down to 16 bits
a-port-past-the-last : form (codes "serve" ∷ codes "p" ∷ codes "--port=65616" ∷ codes "--requests=3" ∷ []) ≡ None
unfolding on_words
a-port-past-the-last = refl

-- refuses a rule by which port 0 stands for any that is free
no-port-is-none : form (codes "serve" ∷ codes "p" ∷ codes "--port=0" ∷ codes "--requests=3" ∷ []) ≡ None
unfolding on_words
no-port-is-none = refl

-- refuses a rule by which no requests are as many as come
no-requests-are-none : form (codes "serve" ∷ codes "p" ∷ codes "--port=65535" ∷ codes "--requests=0" ∷ []) ≡ None
unfolding on_words
no-requests-are-none = refl

-- ---- queries in words

-- refuses a rule by which a query may be missing, as that of the menu
a-page-is-asked-for : form (codes "page" ∷ codes "p" ∷ []) ≡ None
unfolding on_words
a-page-is-asked-for = refl

-- refuses a rule by which an empty word is no query
an-empty-word-asks-for-the-menu : form (codes "page" ∷ codes "p" ∷ [] ∷ []) ≡ Some (Page (codes "p") query.Menu)
unfolding on_words
an-empty-word-asks-for-the-menu = refl
