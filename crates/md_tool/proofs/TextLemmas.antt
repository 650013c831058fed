-- What comes of a profile as a text.
use Rattle.std.proofs.Common.{refl, sym, subst, inl, inr, ℕ, List, Option}
use Rattle.std.specs.Prelude.{Result, Ok, Err}
use Rattle.md_base.specs.Files.{Files}
use Rattle.md_dump.specs.Text.{dump_text}
use Rattle.md_deepfile.specs.Bytes.{file_bytes}
use Rattle.md_dynamic.specs.Profile.{ProfileRows}
use Rattle.md_tool.specs.declared.fault.Fault.{Fault}
use Rattle.md_tool.specs.declared.fault.Fault.TheVariants.{Usage, Read, TooLong, Refused, OutOfSteps, Thrown, Damaged, TooLarge, TwoEntries, DamagedLine, AnotherProgram, NoSuchPage, Write, NoMemory, Network}
use Rattle.md_tool.specs.Due.{WriteEnds, StoreEnds}
use Rattle.md_tool.specs.Stored.{IsStored, LoadFails, longest_profile}
use Rattle.md_tool.specs.Texts.{DumpEnds, TextFails, TextSpells, UndumpFails, UndumpEnds, undumped}
use Rattle.md_tool.proofs.StoredLemmas.{StoredThen}

-- ---- `dump`

-- the profile wasn't read
pub undumpable : (held : Option Files) (name : List ℕ) (out : Option (List ℕ)) (reads outs : Type 0) (fault : Fault) → LoadFails held name longest_profile reads fault → DumpEnds held name out out reads outs (Err fault)
undumpable held name out reads outs Usage h = absurd h
undumpable held name out reads outs Network h = absurd h
undumpable held name out reads outs Read h = (h, refl)
undumpable held name out reads outs TooLong h = absurd h
undumpable held name out reads outs (Refused line w) h = absurd h
undumpable held name out reads outs OutOfSteps h = absurd h
undumpable held name out reads outs (Thrown bytes) h = absurd h
undumpable held name out reads outs (Damaged at kind) h = (h, refl)
undumpable held name out reads outs (TooLarge most) h = (h.0, h.1, refl)
undumpable held name out reads outs (TwoEntries clique x y) h = absurd h
undumpable held name out reads outs (DamagedLine line) h = absurd h
undumpable held name out reads outs AnotherProgram h = absurd h
undumpable held name out reads outs NoSuchPage h = absurd h
undumpable held name out reads outs Write h = absurd h
undumpable held name out reads outs NoMemory h = inl refl

-- it was, and its text was written as far as it was
pub dumped : (held : Option Files) (name : List ℕ) (out out' : Option (List ℕ)) (reads outs : Type 0) (f : ProfileRows) (r : Result (Unit {0}) Fault) → IsStored held name longest_profile f → WriteEnds (dump_text f) out out' outs r → DumpEnds held name out out' reads outs r
dumped held name out out' reads outs f (Ok done) s h = record { profile = f; spelled = s.spelled; written = h }
dumped held name out out' reads outs f (Err Usage) s h = absurd h
dumped held name out out' reads outs f (Err Network) s h = absurd h
dumped held name out out' reads outs f (Err Read) s h = absurd h
dumped held name out out' reads outs f (Err TooLong) s h = absurd h
dumped held name out out' reads outs f (Err (Refused line w)) s h = absurd h
dumped held name out out' reads outs f (Err OutOfSteps) s h = absurd h
dumped held name out out' reads outs f (Err (Thrown bytes)) s h = absurd h
dumped held name out out' reads outs f (Err (Damaged at kind)) s h = absurd h
dumped held name out out' reads outs f (Err (TooLarge most)) s h = absurd h
dumped held name out out' reads outs f (Err (TwoEntries clique x y)) s h = absurd h
dumped held name out out' reads outs f (Err (DamagedLine line)) s h = absurd h
dumped held name out out' reads outs f (Err AnotherProgram) s h = absurd h
dumped held name out out' reads outs f (Err NoSuchPage) s h = absurd h
dumped held name out out' reads outs f (Err Write) s h = (h.0, record { profile = f; spelled = s.spelled; written = h.1 })
dumped held name out out' reads outs f (Err NoMemory) s h = inr (record { profile = f; spelled = s.spelled; written = h })

-- ---- `undump`

-- the text wasn't read
pub no_text : (held : Option Files) (name : List ℕ) (reads : Type 0) (fault : Fault) → TextFails held name reads fault → UndumpFails held name reads fault
no_text held name reads Usage h = absurd h
no_text held name reads Network h = absurd h
no_text held name reads Read h = h
no_text held name reads TooLong h = absurd h
no_text held name reads (Refused line w) h = absurd h
no_text held name reads OutOfSteps h = absurd h
no_text held name reads (Thrown bytes) h = absurd h
no_text held name reads (Damaged at kind) h = absurd h
no_text held name reads (TooLarge most) h = h
no_text held name reads (TwoEntries clique x y) h = absurd h
no_text held name reads (DamagedLine line) h = absurd h
no_text held name reads AnotherProgram h = absurd h
no_text held name reads NoSuchPage h = absurd h
no_text held name reads Write h = absurd h
no_text held name reads NoMemory h = h

-- or it isn't that of a profile
pub unreadable : (held : Option Files) (name new : List ℕ) (out : Option (List ℕ)) (reads writes outs : Type 0) (fault : Fault) → UndumpFails held name reads fault → UndumpEnds held held name new out out reads writes outs (Err fault)
unreadable held name new out reads writes outs Usage h = absurd h
unreadable held name new out reads writes outs Network h = absurd h
unreadable held name new out reads writes outs Read h = (h, record { held_is = refl; out_is = refl })
unreadable held name new out reads writes outs TooLong h = absurd h
unreadable held name new out reads writes outs (Refused line w) h = absurd h
unreadable held name new out reads writes outs OutOfSteps h = absurd h
unreadable held name new out reads writes outs (Thrown bytes) h = absurd h
unreadable held name new out reads writes outs (Damaged at kind) h = absurd h
unreadable held name new out reads writes outs (TooLarge most) h = (h.0, h.1, record { held_is = refl; out_is = refl })
unreadable held name new out reads writes outs (TwoEntries clique x y) h = absurd h
unreadable held name new out reads writes outs (DamagedLine line) h = (h, record { held_is = refl; out_is = refl })
unreadable held name new out reads writes outs AnotherProgram h = absurd h
unreadable held name new out reads writes outs NoSuchPage h = absurd h
unreadable held name new out reads writes outs Write h = absurd h
unreadable held name new out reads writes outs NoMemory h = inl (record { held_is = refl; out_is = refl })

-- the profile wasn't stored whole
pub unstored_text : (held held' : Option Files) (name new : List ℕ) (out : Option (List ℕ)) (reads writes outs : Type 0) (f : ProfileRows) (fault : Fault) → TextSpells held name f
    → StoreEnds new (file_bytes f) held held' writes (Err fault) → UndumpEnds held held' name new out out reads writes outs (Err fault)
unstored_text held held' name new out reads writes outs f Usage s h = absurd h
unstored_text held held' name new out reads writes outs f Network s h = absurd h
unstored_text held held' name new out reads writes outs f Read s h = absurd h
unstored_text held held' name new out reads writes outs f TooLong s h = absurd h
unstored_text held held' name new out reads writes outs f (Refused line w) s h = absurd h
unstored_text held held' name new out reads writes outs f OutOfSteps s h = absurd h
unstored_text held held' name new out reads writes outs f (Thrown bytes) s h = absurd h
unstored_text held held' name new out reads writes outs f (Damaged at kind) s h = absurd h
unstored_text held held' name new out reads writes outs f (TooLarge most) s h = absurd h
unstored_text held held' name new out reads writes outs f (TwoEntries clique x y) s h = absurd h
unstored_text held held' name new out reads writes outs f (DamagedLine line) s h = absurd h
unstored_text held held' name new out reads writes outs f AnotherProgram s h = absurd h
unstored_text held held' name new out reads writes outs f NoSuchPage s h = absurd h
unstored_text held held' name new out reads writes outs f Write s h = inl (h.0, record { profile = f; spelled = s; stored = h.1; untold = refl })
unstored_text held held' name new out reads writes outs f NoMemory s h = inr (inl (record { profile = f; spelled = s; stored = h; untold = refl }))

-- it was, and that was told as far as it was
pub stored_text : (held held' : Option Files) (name new : List ℕ) (out out' : Option (List ℕ)) (reads writes outs : Type 0) (f : ProfileRows) (r : Result (Unit {0}) Fault) → TextSpells held name f
    → StoreEnds new (file_bytes f) held held' writes (Ok tt) → WriteEnds undumped out out' outs r → UndumpEnds held held' name new out out' reads writes outs r
stored_text held held' name new out out' reads writes outs f (Ok done) s whole h = record { profile = f; spelled = s; stored = whole; told = h }
stored_text held held' name new out out' reads writes outs f (Err Usage) s whole h = absurd h
stored_text held held' name new out out' reads writes outs f (Err Network) s whole h = absurd h
stored_text held held' name new out out' reads writes outs f (Err Read) s whole h = absurd h
stored_text held held' name new out out' reads writes outs f (Err TooLong) s whole h = absurd h
stored_text held held' name new out out' reads writes outs f (Err (Refused line w)) s whole h = absurd h
stored_text held held' name new out out' reads writes outs f (Err OutOfSteps) s whole h = absurd h
stored_text held held' name new out out' reads writes outs f (Err (Thrown bytes)) s whole h = absurd h
stored_text held held' name new out out' reads writes outs f (Err (Damaged at kind)) s whole h = absurd h
stored_text held held' name new out out' reads writes outs f (Err (TooLarge most)) s whole h = absurd h
stored_text held held' name new out out' reads writes outs f (Err (TwoEntries clique x y)) s whole h = absurd h
stored_text held held' name new out out' reads writes outs f (Err (DamagedLine line)) s whole h = absurd h
stored_text held held' name new out out' reads writes outs f (Err AnotherProgram) s whole h = absurd h
stored_text held held' name new out out' reads writes outs f (Err NoSuchPage) s whole h = absurd h
stored_text held held' name new out out' reads writes outs f (Err Write) s whole h = inr (h.0, record { profile = f; spelled = s; stored = whole; told = h.1 })
stored_text held held' name new out out' reads writes outs f (Err NoMemory) s whole h = inr (inr (record { profile = f; spelled = s; stored = whole; told = h }))

pub undumped_ends : (held held' : Option Files) (name new : List ℕ) (out out' : Option (List ℕ)) (reads writes outs : Type 0) (f : ProfileRows) (r : Result (Unit {0}) Fault) → TextSpells held name f
    → StoredThen undumped new (file_bytes f) held held' out out' writes outs r → UndumpEnds held held' name new out out' reads writes outs r
undumped_ends held held' name new out out' reads writes outs f (Ok done) s h = stored_text held held' name new out out' reads writes outs f (Ok done) s h.0 h.1
undumped_ends held held' name new out out' reads writes outs f (Err fault) s (inl h) =
    subst (λ (o : Option (List ℕ)). UndumpEnds held held' name new out o reads writes outs (Err fault)) (sym h.1) (unstored_text held held' name new out reads writes outs f fault s h.0)
undumped_ends held held' name new out out' reads writes outs f (Err fault) s (inr h) = stored_text held held' name new out out' reads writes outs f (Err fault) s h.0 h.1
