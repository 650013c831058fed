-- What comes of a stored profile.
use Rattle.std.proofs.Common.{◌≡◌, ◌⊎◌, refl, sym, subst, inl, inr, ℕ, List, Option}
use Rattle.std.specs.Prelude.{Result, Ok, Err, MatchResult}
use Rattle.md_base.specs.Files.{Files}
use Rattle.md_base.specs.Outside.{Rose, added}
use Rattle.md_cost.specs.FileView.{IsFileView}
use Rattle.md_cost.specs.Loading.{LoadedRows}
use Rattle.md_deepfile.specs.Bytes.{file_bytes}
use Rattle.md_dynamic.specs.Profile.{ProfileRows}
use Rattle.md_query.specs.Asked.{Asked}
use Rattle.md_tool.specs.declared.fault.Fault.{Fault}
use Rattle.md_tool.specs.declared.fault.Fault.TheVariants.{Usage, Read, TooLong, Refused, OutOfSteps, Thrown, Damaged, TooLarge, TwoEntries, DamagedLine, AnotherProgram, NoSuchPage, Write, NoMemory, Network}
use Rattle.md_tool.specs.Due.{WriteEnds, StoreEnds}
use Rattle.md_tool.specs.Paged.{PageEnds}
use Rattle.md_tool.specs.Stored.{IsStored, IsLoadedFrom, LoadFails, ViewFails, StoredEnds, MigrateEnds, longest_profile, longest_migrated, migrated}

-- the profile was loaded, and its page written as far as it was
pub answered : (held : Option Files) (name : List ℕ) (query : Asked) (out out' : Option (List ℕ)) (reads outs : Type 0) (loaded : LoadedRows) (r : Result (Unit {0}) Fault)
    → IsLoadedFrom held name loaded → PageEnds (IsFileView loaded.profile) query out out' outs r → StoredEnds held name query out out' reads outs r
answered held name query out out' reads outs loaded (Ok done) l h = record { profile = loaded.profile; spelled = l.spelled; ends = h }
answered held name query out out' reads outs loaded (Err Usage) l h = absurd h
answered held name query out out' reads outs loaded (Err Network) l h = absurd h
answered held name query out out' reads outs loaded (Err Read) l h = absurd h
answered held name query out out' reads outs loaded (Err TooLong) l h = absurd h
answered held name query out out' reads outs loaded (Err (Refused line w)) l h = absurd h
answered held name query out out' reads outs loaded (Err OutOfSteps) l h = absurd h
answered held name query out out' reads outs loaded (Err (Thrown bytes)) l h = absurd h
answered held name query out out' reads outs loaded (Err (Damaged at kind)) l h = absurd h
answered held name query out out' reads outs loaded (Err (TooLarge most)) l h = absurd h
answered held name query out out' reads outs loaded (Err (TwoEntries clique x y)) l h = absurd h
answered held name query out out' reads outs loaded (Err (DamagedLine n)) l h = absurd h
answered held name query out out' reads outs loaded (Err AnotherProgram) l h = absurd h
answered held name query out out' reads outs loaded (Err NoSuchPage) l h = record { profile = loaded.profile; spelled = l.spelled; ends = h }
answered held name query out out' reads outs loaded (Err Write) l h = record { profile = loaded.profile; spelled = l.spelled; ends = h }
answered held name query out out' reads outs loaded (Err NoMemory) l h = inr (record { profile = loaded.profile; spelled = l.spelled; ends = h })

-- it wasn't
pub unanswered : (held : Option Files) (name : List ℕ) (query : Asked) (out : Option (List ℕ)) (reads outs : Type 0) (fault : Fault) → ViewFails held name reads fault → StoredEnds held name query out out reads outs (Err fault)
unanswered held name query out reads outs Usage h = absurd h
unanswered held name query out reads outs Network h = absurd h
unanswered held name query out reads outs Read h = (h, refl)
unanswered held name query out reads outs TooLong h = absurd h
unanswered held name query out reads outs (Refused line w) h = absurd h
unanswered held name query out reads outs OutOfSteps h = absurd h
unanswered held name query out reads outs (Thrown bytes) h = absurd h
unanswered held name query out reads outs (Damaged at kind) h = (h, refl)
unanswered held name query out reads outs (TooLarge most) h = (h.0, h.1, refl)
unanswered held name query out reads outs (TwoEntries clique x y) h = (h, refl)
unanswered held name query out reads outs (DamagedLine n) h = absurd h
unanswered held name query out reads outs AnotherProgram h = absurd h
unanswered held name query out reads outs NoSuchPage h = absurd h
unanswered held name query out reads outs Write h = absurd h
unanswered held name query out reads outs NoMemory h = inl refl

-- why a profile has no view, where it wasn't read
pub view_fails : (held : Option Files) (name : List ℕ) (reads : Type 0) (fault : Fault) → LoadFails held name longest_profile reads fault → ViewFails held name reads fault
view_fails held name reads Usage h = absurd h
view_fails held name reads Network h = absurd h
view_fails held name reads Read h = h
view_fails held name reads TooLong h = absurd h
view_fails held name reads (Refused line w) h = absurd h
view_fails held name reads OutOfSteps h = absurd h
view_fails held name reads (Thrown bytes) h = absurd h
view_fails held name reads (Damaged at kind) h = h
view_fails held name reads (TooLarge most) h = h
view_fails held name reads (TwoEntries clique x y) h = absurd h
view_fails held name reads (DamagedLine n) h = absurd h
view_fails held name reads AnotherProgram h = absurd h
view_fails held name reads NoSuchPage h = absurd h
view_fails held name reads Write h = absurd h
view_fails held name reads NoMemory h = h

-- ---- `migrate`

pub unread : (held : Option Files) (name new : List ℕ) (out : Option (List ℕ)) (reads writes outs : Type 0) (fault : Fault) → LoadFails held name longest_migrated reads fault
    → MigrateEnds held held name new out out reads writes outs (Err fault)
unread held name new out reads writes outs Usage h = absurd h
unread held name new out reads writes outs Network h = absurd h
unread held name new out reads writes outs Read h = (h, record { held_is = refl; out_is = refl })
unread held name new out reads writes outs TooLong h = absurd h
unread held name new out reads writes outs (Refused line w) h = absurd h
unread held name new out reads writes outs OutOfSteps h = absurd h
unread held name new out reads writes outs (Thrown bytes) h = absurd h
unread held name new out reads writes outs (Damaged at kind) h = (h, record { held_is = refl; out_is = refl })
unread held name new out reads writes outs (TooLarge most) h = (h.0, h.1, record { held_is = refl; out_is = refl })
unread held name new out reads writes outs (TwoEntries clique x y) h = absurd h
unread held name new out reads writes outs (DamagedLine n) h = absurd h
unread held name new out reads writes outs AnotherProgram h = absurd h
unread held name new out reads writes outs NoSuchPage h = absurd h
unread held name new out reads writes outs Write h = absurd h
unread held name new out reads writes outs NoMemory h = inl (record { held_is = refl; out_is = refl })

pub unstored : (held held' : Option Files) (name new : List ℕ) (out : Option (List ℕ)) (reads writes outs : Type 0) (f : ProfileRows) (fault : Fault) → IsStored held name longest_migrated f
    → StoreEnds new (file_bytes f) held held' writes (Err fault) → MigrateEnds held held' name new out out reads writes outs (Err fault)
unstored held held' name new out reads writes outs f Usage s h = absurd h
unstored held held' name new out reads writes outs f Network s h = absurd h
unstored held held' name new out reads writes outs f Read s h = absurd h
unstored held held' name new out reads writes outs f TooLong s h = absurd h
unstored held held' name new out reads writes outs f (Refused line w) s h = absurd h
unstored held held' name new out reads writes outs f OutOfSteps s h = absurd h
unstored held held' name new out reads writes outs f (Thrown bytes) s h = absurd h
unstored held held' name new out reads writes outs f (Damaged at kind) s h = absurd h
unstored held held' name new out reads writes outs f (TooLarge most) s h = absurd h
unstored held held' name new out reads writes outs f (TwoEntries clique x y) s h = absurd h
unstored held held' name new out reads writes outs f (DamagedLine n) s h = absurd h
unstored held held' name new out reads writes outs f AnotherProgram s h = absurd h
unstored held held' name new out reads writes outs f NoSuchPage s h = absurd h
unstored held held' name new out reads writes outs f Write s h = inl (h.0, record { profile = f; spelled = s.spelled; stored = h.1; untold = refl })
unstored held held' name new out reads writes outs f NoMemory s h = inr (inl (record { profile = f; spelled = s.spelled; stored = h; untold = refl }))

pub stored : (held held' : Option Files) (name new : List ℕ) (out out' : Option (List ℕ)) (reads writes outs : Type 0) (f : ProfileRows) (r : Result (Unit {0}) Fault) → IsStored held name longest_migrated f
    → StoreEnds new (file_bytes f) held held' writes (Ok tt) → WriteEnds migrated out out' outs r → MigrateEnds held held' name new out out' reads writes outs r
stored held held' name new out out' reads writes outs f (Ok done) s whole h = record { profile = f; spelled = s.spelled; stored = whole; told = h }
stored held held' name new out out' reads writes outs f (Err Usage) s whole h = absurd h
stored held held' name new out out' reads writes outs f (Err Network) s whole h = absurd h
stored held held' name new out out' reads writes outs f (Err Read) s whole h = absurd h
stored held held' name new out out' reads writes outs f (Err TooLong) s whole h = absurd h
stored held held' name new out out' reads writes outs f (Err (Refused line w)) s whole h = absurd h
stored held held' name new out out' reads writes outs f (Err OutOfSteps) s whole h = absurd h
stored held held' name new out out' reads writes outs f (Err (Thrown bytes)) s whole h = absurd h
stored held held' name new out out' reads writes outs f (Err (Damaged at kind)) s whole h = absurd h
stored held held' name new out out' reads writes outs f (Err (TooLarge most)) s whole h = absurd h
stored held held' name new out out' reads writes outs f (Err (TwoEntries clique x y)) s whole h = absurd h
stored held held' name new out out' reads writes outs f (Err (DamagedLine n)) s whole h = absurd h
stored held held' name new out out' reads writes outs f (Err AnotherProgram) s whole h = absurd h
stored held held' name new out out' reads writes outs f (Err NoSuchPage) s whole h = absurd h
stored held held' name new out out' reads writes outs f (Err Write) s whole h = inr (h.0, record { profile = f; spelled = s.spelled; stored = whole; told = h.1 })
stored held held' name new out out' reads writes outs f (Err NoMemory) s whole h = inr (inr (record { profile = f; spelled = s.spelled; stored = whole; told = h }))

-- a profile was stored, and then that was told
abbrev pub StoredThen : (line name bytes : List ℕ) → (held held' : Option Files) → (out out' : Option (List ℕ)) → (writes outs : Type 0) → Result (Unit {0}) Fault → Type 0
StoredThen line name bytes held held' out out' writes outs r =
    MatchResult r (λ _. StoreEnds name bytes held held' writes (Ok tt) × (out' ≡ added line out))
    (λ fault. (StoreEnds name bytes held held' writes (Err fault) × (out' ≡ out)) ⊎ (StoreEnds name bytes held held' writes (Ok tt) × WriteEnds line out out' outs (Err fault)))

-- the same from before the profile was read
pub from_before : (line name bytes : List ℕ) (held mid held' : Option Files) (out out' : Option (List ℕ)) (before between after : ℕ) (outs : Type 0) (r : Result (Unit {0}) Fault) → mid ≡ held → between ≡ before
    → StoredThen line name bytes mid held' out out' (Rose between after) outs r → StoredThen line name bytes held held' out out' (Rose before after) outs r
from_before line name bytes held mid held' out out' before between after outs r kept same h =
    subst (λ (n : ℕ). StoredThen line name bytes held held' out out' (Rose n after) outs r) same
    (subst (λ (m : Option Files). StoredThen line name bytes m held' out out' (Rose between after) outs r) kept h)

pub migrated_ends : (held held' : Option Files) (name new : List ℕ) (out out' : Option (List ℕ)) (reads writes outs : Type 0) (f : ProfileRows) (r : Result (Unit {0}) Fault) → IsStored held name longest_migrated f
    → StoredThen migrated new (file_bytes f) held held' out out' writes outs r → MigrateEnds held held' name new out out' reads writes outs r
migrated_ends held held' name new out out' reads writes outs f (Ok done) s h = stored held held' name new out out' reads writes outs f (Ok done) s h.0 h.1
migrated_ends held held' name new out out' reads writes outs f (Err fault) s (inl h) =
    subst (λ (o : Option (List ℕ)). MigrateEnds held held' name new out o reads writes outs (Err fault)) (sym h.1) (unstored held held' name new out reads writes outs f fault s h.0)
migrated_ends held held' name new out out' reads writes outs f (Err fault) s (inr h) = stored held held' name new out out' reads writes outs f (Err fault) s h.0 h.1
