-- Faults, with their exit statuses and the lines that tell of them.
use Rattle.std.specs.Prelude.{ℕ, List, [], ◌∷◌, ◌++◌, codes}
use Rattle.std.specs.Fmt.{decimal}
use Rattle.md_reader.specs.Words.{refused_words}
use Rattle.md_inst.specs.Words.{mode_fault_words}
use Rattle.md_det.specs.Words.{det_fault_words}
use Rattle.md_deepfile.specs.Words.{damage_words}
use Rattle.md_tool.specs.declared.fault.Fault.{Fault}
use Rattle.md_tool.specs.declared.fault.Fault.TheVariants.{Usage, Read, TooLong, Refused, OutOfSteps, Thrown, Damaged, TooLarge, TwoEntries, DamagedLine, AnotherProgram, NoSuchPage, Network, Write, NoMemory}
use Rattle.md_tool.specs.declared.fault.Refusal.{Refusal}
use Rattle.md_tool.specs.declared.fault.Refusal.TheVariants.{Text, Modes, Determinism}

abbrev pub status_of : Fault → ℕ
status_of Usage = 1
status_of Read = 2
status_of TooLong = 3
status_of (Refused line w) = 3
status_of OutOfSteps = 4
status_of (Thrown error) = 10
status_of (Damaged at kind) = 5
status_of (TooLarge most) = 5
status_of (TwoEntries clique a b) = 5
status_of (DamagedLine line) = 5
status_of AnotherProgram = 11
status_of NoSuchPage = 6
status_of Network = 9
status_of Write = 7
status_of NoMemory = 8

-- a line that speaks of no file, of a file, and of a place in it
abbrev pub plain_line : List ℕ → List ℕ
plain_line text = codes "mdprof: " ++ (text ++ 10 ∷ [])

-- the line that tells of an exception, with its bytes as they are
abbrev pub uncaught_line : List ℕ → List ℕ
uncaught_line error = codes "mdprof: uncaught exception: " ++ (error ++ 10 ∷ [])

abbrev pub file_line : List ℕ → List ℕ → List ℕ
file_line file text = codes "mdprof: " ++ (file ++ (codes ": " ++ (text ++ 10 ∷ [])))

abbrev pub place_line : List ℕ → ℕ → List ℕ → List ℕ
place_line file line text = codes "mdprof: " ++ (file ++ (codes ":" ++ (decimal line ++ (codes ": " ++ (text ++ 10 ∷ [])))))

-- why a text isn't accepted, in words
abbrev pub refusal_words : Refusal → List ℕ
refusal_words (Text refused) = refused_words refused
refusal_words (Modes fault) = mode_fault_words fault
refusal_words (Determinism fault) = det_fault_words fault

abbrev pub damaged_line_text : ℕ → List ℕ
damaged_line_text line = codes "damaged at line " ++ decimal line

abbrev pub size_text : ℕ → List ℕ
size_text most = codes "longer than " ++ (decimal most ++ codes " bytes")

abbrev pub entries_text : ℕ → ℕ → ℕ → List ℕ
entries_text clique a b = codes "clique " ++ (decimal clique ++ (codes " is entered by links " ++ (decimal a ++ (codes " and " ++ decimal b))))

-- the line that tells of a fault in a command on this file
abbrev pub fault_line : Fault → List ℕ → List ℕ
fault_line Usage file = plain_line (codes "usage: see the table of commands")
fault_line Read file = file_line file (codes "read fault")
fault_line TooLong file = file_line file (codes "longer than 1048576 bytes")
fault_line (Refused line w) file = place_line file line (refusal_words w)
fault_line OutOfSteps file = plain_line (codes "out of steps")
fault_line (Thrown error) file = uncaught_line error.items
fault_line (Damaged at kind) file = file_line file (damage_words at kind)
fault_line (TooLarge most) file = file_line file (size_text most)
fault_line (TwoEntries clique a b) file = file_line file (entries_text clique a b)
fault_line (DamagedLine line) file = file_line file (damaged_line_text line)
fault_line AnotherProgram file = file_line file (codes "another program")
fault_line NoSuchPage file = plain_line (codes "no such page")
fault_line Network file = plain_line (codes "network fault")
fault_line Write file = plain_line (codes "write fault")
fault_line NoMemory file = plain_line (codes "want of memory")
