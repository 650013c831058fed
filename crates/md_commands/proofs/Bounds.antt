-- What holds of every command.
use Rattle.std.proofs.Common.{◌≡◌, refl, sym, subst, ℕ, ◌≤◌, Bool, true, false, cond, ◌&&◌, List, length, Option, None, Some, arith}
use Rattle.std.specs.Prelude.{nat_le, IfSome, IfOk, codes}
use Rattle.std.specs.Prelude.{Result, Ok, Err}
use Rattle.std.specs.Str.{bytes_eq}
use Rattle.std.proofs.lemmas.Bool.Decides.{nat_tests}
use Rattle.md_base.specs.declared.measure.Measure.{Measure}
use Rattle.md_query.specs.Asked.{Asked}
use Rattle.md_query.specs.Pair.{number_within, within, is_number}
use Rattle.md_token.specs.Literal.{number_of}
use Rattle.md_commands.specs.declared.command.Command.{Command}
use Rattle.md_commands.specs.declared.tool.Tool.{Tool}
use Rattle.md_commands.specs.declared.tool.Tool.TheVariants as tool
use Rattle.md_commands.specs.Parts.{Part, is_given, others, value_of}
use Rattle.md_commands.specs.Form.{Form, Meant, Run, Migrate, Feedback, Undump, Sum, HasBounds, feedback_of, dump_of, undump_of, cover_of, cover_with, sum_of, compare_of, check_of, run_of, report_of, report_with, page_of, page_with, serve_of, gen_of, gen_with, migrate_of, form, form_at, form_by, meant_in, query_in, number_or, only, two, steps_of, profile_of, least_of, by_of, thousandths_of, port_of, requests_of, usual_least, usual_thousandths, parts_of}
use Rattle.md_commands.specs.Told.{told, command_told}
use Rattle.md_commands.specs.Reading.{IsReading}
use Rattle.clap.specs.declared.parser.matches.ArgMatches.{ArgMatches}

abbrev Good : Option Form → Type 0
Good None = Unit {0}
Good (Some f) = HasBounds f

-- a command that the words may be is within its bounds
record IsGood (found : Option Form) : Type 0 where
  good : Good found

good_cond : (b : Bool) (x y : Option Form) → IsGood x → IsGood y → IsGood (cond b x y)
good_cond true x y first second = first
good_cond false x y first second = second

-- ---- numbers within bounds

abbrev IsWithin : ℕ → ℕ → Option ℕ → Type 0
IsWithin least most None = Unit {0}
IsWithin least most (Some n) = (least ≤ n) × (n ≤ most)

is_within : (least most n : ℕ) → IsWithin least most (within least most n)
is_within least most n = by (nat_le least n) (nat_le n most) refl refl
  where
    by : (a b : Bool) → nat_le least n ≡ a → nat_le n most ≡ b → IsWithin least most (cond (a && b) (Some n) None)
    by true true above below = (grind (arith, nat_tests, above), grind (arith, nat_tests, below))
    by true false above below = tt
    by false b above below = tt

number_is_within : (least most : ℕ) (text : List ℕ) → IsWithin least most (number_within least most text)
number_is_within least most text = by (is_number text)
  where
    by : (b : Bool) → IsWithin least most (cond b (within least most (number_of text)) None)
    by true = is_within least most (number_of text)
    by false = tt

-- a number is no more than the most
pub number_fits : (least most : ℕ) (text : List ℕ) → IfSome (number_within least most text) (λ n. n ≤ most)
number_fits least most text = by (number_within least most text) (number_is_within least most text)
  where
    by : (o : Option ℕ) → IsWithin least most o → IfSome o (λ n. n ≤ most)
    by None is = tt
    by (Some n) is = is.1

least_is_within : (value : Option (List ℕ)) → IsWithin 1 4294967295 (number_or 1 4294967295 usual_least value)
least_is_within None = (omega arith, omega arith)
least_is_within (Some text) = number_is_within 1 4294967295 text

thousandths_are_within : (value : Option (List ℕ)) → IsWithin 0 1000 (number_or 0 1000 usual_thousandths value)
thousandths_are_within None = (omega arith, omega arith)
thousandths_are_within (Some text) = number_is_within 0 1000 text

-- ---- each command

good_check : (print : Bool) (file : Option (List ℕ)) → IsGood (check_of print file)
good_check print None = record { good = tt }
good_check print (Some file) = record { good = tt }

good_run : (steps : Option ℕ) (profile : List ℕ) (file : Option (List ℕ)) → IsGood (run_of steps profile file)
good_run None profile file = record { good = tt }
good_run (Some n) profile None = record { good = tt }
good_run (Some n) profile (Some file) = good_cond (bytes_eq profile file) None (Some (Run file n profile)) (record { good = tt }) (record { good = tt })

good_report_with : (file : List ℕ) (steps : ℕ) (query : Option Asked) → IsGood (report_with file steps query)
good_report_with file steps None = record { good = tt }
good_report_with file steps (Some q) = record { good = tt }

good_report : (steps : Option ℕ) (words : Option (List ℕ × List ℕ)) → IsGood (report_of steps words)
good_report None words = record { good = tt }
good_report (Some n) None = record { good = tt }
good_report (Some n) (Some (file, query)) = good_report_with file n (query_in query)

good_page_with : (name : List ℕ) (query : Option Asked) → IsGood (page_with name query)
good_page_with name None = record { good = tt }
good_page_with name (Some q) = record { good = tt }

good_page : (words : Option (List ℕ × List ℕ)) → IsGood (page_of words)
good_page None = record { good = tt }
good_page (Some (name, query)) = good_page_with name (query_in query)

good_serve : (port requests : Option ℕ) (name : Option (List ℕ)) → IsGood (serve_of port requests name)
good_serve None requests name = record { good = tt }
good_serve (Some p) None name = record { good = tt }
good_serve (Some p) (Some n) None = record { good = tt }
good_serve (Some p) (Some n) (Some name) = record { good = tt }

good_gen_with : (summary : Bool) (n : Option ℕ) → IsWithin 1 20 n → IsGood (gen_with summary n)
good_gen_with summary None is = record { good = tt }
good_gen_with summary (Some n) is = record { good = is }

good_gen : (summary : Bool) (word : Option (List ℕ)) → IsGood (gen_of summary word)
good_gen summary None = record { good = tt }
good_gen summary (Some word) = good_gen_with summary (number_within 1 20 word) (number_is_within 1 20 word)

good_migrate : (words : Option (List ℕ × List ℕ)) → IsGood (migrate_of words)
good_migrate None = record { good = tt }
good_migrate (Some (name, new)) = good_cond (bytes_eq name new) None (Some (Migrate name new)) (record { good = tt }) (record { good = tt })

good_feedback : (steps least : Option ℕ) (words : Option (List ℕ × List ℕ)) → IsWithin 1 4294967295 least → IsGood (feedback_of steps least words)
good_feedback None least words is = record { good = tt }
good_feedback (Some n) None words is = record { good = tt }
good_feedback (Some n) (Some k) None is = record { good = tt }
good_feedback (Some n) (Some k) (Some (file, new)) is = good_cond (bytes_eq file new) None (Some (Feedback file new n k)) (record { good = tt }) (record { good = is })

good_dump : (name : Option (List ℕ)) → IsGood (dump_of name)
good_dump None = record { good = tt }
good_dump (Some name) = record { good = tt }

good_undump : (words : Option (List ℕ × List ℕ)) → IsGood (undump_of words)
good_undump None = record { good = tt }
good_undump (Some (text, new)) = good_cond (bytes_eq text new) None (Some (Undump text new)) (record { good = tt }) (record { good = tt })

good_cover_with : (file : List ℕ) (steps : ℕ) (procedure : Option Meant) → IsGood (cover_with file steps procedure)
good_cover_with file steps None = record { good = tt }
good_cover_with file steps (Some q) = record { good = tt }

good_cover : (steps : Option ℕ) (words : Option (List ℕ × List ℕ)) → IsGood (cover_of steps words)
good_cover None words = record { good = tt }
good_cover (Some n) None = record { good = tt }
good_cover (Some n) (Some (file, word)) = good_cover_with file n (meant_in word)

good_sum : (names : List (List ℕ)) → IsGood (sum_of names)
good_sum names = by (nat_le 1 (length names)) (nat_le (length names) 16) refl refl
  where
    by : (a b : Bool) → nat_le 1 (length names) ≡ a → nat_le (length names) 16 ≡ b → IsGood (cond (a && b) (Some (Sum names)) None)
    by true true above below = record { good = (grind (arith, nat_tests, above), grind (arith, nat_tests, below)) }
    by true false above below = record { good = tt }
    by false b above below = record { good = tt }

good_compare : (by : Option Measure) (least : Option ℕ) (words : Option (List ℕ × List ℕ)) → IsWithin 0 1000 least → IsGood (compare_of by least words)
good_compare None least words is = record { good = tt }
good_compare (Some m) None words is = record { good = tt }
good_compare (Some m) (Some k) None is = record { good = tt }
good_compare (Some m) (Some k) (Some (old, new)) is = record { good = is.1 }

good_by : (t : Tool) (parts : List Part) → IsGood (form_by t parts)
good_by tool.Check parts = good_check (is_given (codes "print") parts) (only (others parts))
good_by tool.Run parts = good_run (steps_of parts) (profile_of parts) (only (others parts))
good_by tool.Report parts = good_report (steps_of parts) (two (others parts))
good_by tool.Page parts = good_page (two (others parts))
good_by tool.Serve parts = good_serve (port_of parts) (requests_of parts) (only (others parts))
good_by tool.Gen parts = good_gen (is_given (codes "summary") parts) (only (others parts))
good_by tool.Migrate parts = good_migrate (two (others parts))
good_by tool.Feedback parts = good_feedback (steps_of parts) (least_of parts) (two (others parts)) (least_is_within (value_of (codes "least") parts))
good_by tool.Dump parts = good_dump (only (others parts))
good_by tool.Undump parts = good_undump (two (others parts))
good_by tool.Cover parts = good_cover (steps_of parts) (two (others parts))
good_by tool.Sum parts = good_sum (others parts)
good_by tool.Compare parts = good_compare (by_of parts) (thousandths_of parts) (two (others parts)) (thousandths_are_within (value_of (codes "least") parts))

good_at : (a : Option (Tool × List Part)) → Good (form_at a)
good_at None = tt
good_at (Some (t, parts)) = (good_by t parts).good

-- so of the command that the words are
pub bounds_of : (words : List (List ℕ)) (found : Option Command) → command_told found ≡ form words → IfSome found (λ command. HasBounds (told command))
unfolding form
bounds_of words None is = tt
bounds_of words (Some command) is = subst Good (sym is) (good_at (parts_of words))

pub bounds_by : {E : Type 0} (words : List (List ℕ)) (r : Result (Option Command) E) → IfOk r (λ found. command_told found ≡ form words) → IfOk r (λ found. IfSome found (λ c. HasBounds (told c)))
bounds_by words (Err e) tells = tt
bounds_by words (Ok found) tells = bounds_of words found tells

-- what the matches are read as is what the words ask for
pub form_read : {E : Type 0} (words : List (List ℕ)) (m : ArgMatches) (r : Result (Option Command) E) → IsReading (parts_of words) (Some m)
    → ((t : Tool) (parts : List Part) → IsReading (Some (t, parts)) (Some m) → IfOk r (λ found. command_told found ≡ form_by t parts)) → IfOk r (λ found. command_told found ≡ form words)
unfolding form
form_read words m r reading tells = by (parts_of words) reading
  where
    by : (a : Option (Tool × List Part)) → IsReading a (Some m) → IfOk r (λ found. command_told found ≡ form_at a)
    by None is = absurd is
    by (Some (t, parts)) is = tells t parts is
