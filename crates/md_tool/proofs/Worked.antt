-- Ends, faults and sums, worked out by hand.
use Rattle.std.proofs.Common.{◌≡◌, ℕ, [], ◌∷◌, Some, None, codes, refl, inl, inr}
use Rattle.std.specs.Prelude.{⊤}
use Rattle.std.specs.Fmt.{digits}
use Rattle.md_deepfile.specs.declared.damage.Kind.TheVariants as kind
use Rattle.md_det.specs.declared.fault.DetFault.TheVariants.{Declared}
use Rattle.md_hlds.specs.declared.types.Det.TheVariants as det
use Rattle.md_hlds.specs.Trace.{Answer, Throw}
use Rattle.md_inst.specs.declared.fault.ModeFault.TheVariants.{Arity, NoMemory}
use Rattle.md_reader.specs.declared.refused.Refused.TheVariants.{Syntax}
use Rattle.md_tool.specs.Accepted.{modes_refusal, determinism_refusal}
use Rattle.md_tool.specs.declared.fault.Fault.TheVariants.{Damaged, TooLarge, TwoEntries, DamagedLine, AnotherProgram}
use Rattle.md_tool.specs.declared.fault.Fault.TheVariants as faults
use Rattle.md_tool.specs.declared.fault.Refusal.TheVariants.{Text, Modes, Determinism}
use Rattle.md_tool.specs.Ends.{end_of, Finished, Threw, RanOut}
use Rattle.md_tool.specs.Fault.{fault_line}
use Rattle.md_tool.specs.Rises.{IsToldBy}
use Rattle.md_static.specs.Tables.{Static}
use Rattle.md_cost.specs.declared.sums.Sums.{Sums}
use Rattle.md_tool.specs.Summed.{sum_text}
use Rattle.md_tool.specs.Turns.{number_in}
use Rattle.md_commands.specs.Form.{Number, Name}

-- ---- how a run ends

no-items-are-out-of-steps : end_of [] ≡ RanOut
no-items-are-out-of-steps = refl

an-answer-is-the-end : end_of (Answer [] ∷ []) ≡ Finished
an-answer-is-the-end = refl

what-is-thrown-is-told : end_of (Throw (codes "bad") ∷ []) ≡ Threw (codes "bad")
what-is-thrown-is-told = refl

-- ---- faults

unfoldable on_numbers : ⊤
unfolding digits
on_numbers = tt

damage-has-its-place-and-kind : fault_line (Damaged 156 kind.SiteMismatch) (codes "f") ≡ codes "mdprof: f: damaged at 156: site mismatch\n"
unfolding on_numbers
damage-has-its-place-and-kind = refl

a-profile-that-is-too-long : fault_line (TooLarge 268435456) (codes "f") ≡ codes "mdprof: f: longer than 268435456 bytes\n"
unfolding on_numbers
a-profile-that-is-too-long = refl

two-links-enter-a-clique : fault_line (TwoEntries 1 2 7) (codes "f") ≡ codes "mdprof: f: clique 1 is entered by links 2 and 7\n"
unfolding on_numbers
two-links-enter-a-clique = refl

a-refused-text-has-its-line : fault_line (faults.Refused 4 (Text (Syntax 4))) (codes "a.m") ≡ codes "mdprof: a.m:4: syntax\n"
unfolding on_numbers
a-refused-text-has-its-line = refl

a-fault-of-modes-has-its-line : fault_line (modes_refusal (Arity 12)) (codes "a.m") ≡ codes "mdprof: a.m:12: wrong number of arguments\n"
unfolding on_numbers
a-fault-of-modes-has-its-line = refl

a-fault-of-determinism-has-its-line :
    fault_line (determinism_refusal (Declared 7 det.Semidet det.Nondet)) (codes "a.m") ≡ codes "mdprof: a.m:7: declared semidet, inferred nondet\n"
unfolding on_numbers
a-fault-of-determinism-has-its-line = refl

want-of-memory-is-no-refusal : fault_line (modes_refusal NoMemory) (codes "a.m") ≡ codes "mdprof: want of memory\n"
unfolding on_numbers
want-of-memory-is-no-refusal = refl

-- ---- sums

abbrev pub statics : Static
statics = record {
  modules = codes "t" ∷ codes "a" ∷ [];
  procs = record { «module» = 0; name = codes "main"; arity = 2 } ∷ record { «module» = 1; name = codes "f"; arity = 0 } ∷ [];
  sites = [];
}

abbrev pub sums : ℕ → Sums
sums n = record { calls = n; exits = n; fails = 0; redos = 0; allocs = 3; words = 4; excps = 0 }

-- the title has the number of files, which may be larger than that of procedures
sums-have-a-line-for-each-procedure :
    sum_text statics 16 (record { id = 0; own = sums 2; total = sums 7 } ∷ record { id = 1; own = sums 5; total = sums 5 } ∷ [])
    ≡ codes "mdprof sum 16\nproc 0 t.main/2 own 2 2 0 0 3 4 total 7 7 0 0 3 4\nproc 1 a.f/0 own 5 5 0 0 3 4 total 5 5 0 0 3 4\n"
unfolding on_numbers
sums-have-a-line-for-each-procedure = refl

-- ---- the procedure that `cover` is asked for

-- q/0 and q/1 of the module t
abbrev two_of_a_name : Static
two_of_a_name = record {
  modules = codes "t" ∷ [];
  procs = record { «module» = 0; name = codes "q"; arity = 0 } ∷ record { «module» = 0; name = codes "q"; arity = 1 } ∷ [];
  sites = [];
}

-- refuses a rule that looks for the name alone
a-full-name-has-the-arguments-in-it : number_in two_of_a_name (Name (codes "t.q/1")) ≡ Some 1
unfolding on_numbers
a-full-name-has-the-arguments-in-it = refl

-- refuses a rule by which a front of a full name is enough
a-front-of-a-full-name-is-none : number_in two_of_a_name (Name (codes "t.q")) ≡ None
unfolding on_numbers
a-front-of-a-full-name-is-none = refl

-- refuses a rule by which a number that isn't there is the last one: whether it is there is asked of the program
a-number-is-that-number : number_in two_of_a_name (Number 7) ≡ Some 7
a-number-is-that-number = refl

-- ---- counts of faults

-- a file that couldn't be read was told so, and memory was refused as that was to be told
a-fault-is-told : IsToldBy 2 2 6 7 × IsToldBy 2 8 6 7
a-fault-is-told = (inr (refl, inl refl), inr (refl, inr refl))

-- refuses a rule by which a fault may be passed over, as by reading once more: the count tells it
a-fault-is-passed-over : IsToldBy 2 0 6 7 → ⊥
a-fault-is-passed-over (inl same) = absurd (cc)
a-fault-is-passed-over (inr (one, inl is)) = absurd (cc)
a-fault-is-passed-over (inr (one, inr is)) = absurd (cc)

-- refuses a rule by which damage may be told of a file that wasn't read to its end
damage-of-a-file-half-read : IsToldBy 2 5 6 7 → ⊥
damage-of-a-file-half-read (inl same) = absurd (cc)
damage-of-a-file-half-read (inr (one, inl is)) = absurd (cc)
damage-of-a-file-half-read (inr (one, inr is)) = absurd (cc)

-- refuses a rule by which a command goes on behind a fault, and meets another one
two-faults : IsToldBy 7 7 6 8 → ⊥
two-faults (inl same) = absurd (cc)
two-faults (inr (one, is)) = absurd (cc)

-- a counter that stands at its last value stands there after a fault too
a-fault-at-the-last-value : IsToldBy 7 7 18446744073709551615 18446744073709551615
a-fault-at-the-last-value = inl refl
