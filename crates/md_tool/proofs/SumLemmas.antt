-- What comes of profiles that are added up.
use Rattle.std.proofs.Common.{◌≡◌, ◌∙◌, refl, sym, ap, subst, inl, inr, ℕ, zero, suc, ◌+◌, ◌<◌, List, [], ◌∷◌, ◌++◌, length, take, drop, Option, None, Some, arith}
use Rattle.std.proofs.lemmas.List.{take_more}
use Rattle.std.specs.Prelude.{Result, Ok, Err, IsErrAnd, IfSome, IfNone, slice_get, slice_index_or}
use Rattle.std.specs.Borrow.{Bor}
use Rattle.md_base.specs.Files.{Files}
use Rattle.md_cost.specs.Loading.{LoadedRows}
use Rattle.md_dump.specs.Sums.{IsFirstOther, AreOfOne, AreProcSums, SumRows, statics_at}
use Rattle.md_dump.proofs.Adding.{have_views}
use Rattle.md_static.specs.Tables.{Static}
use Rattle.md_commands.specs.Told.{texts}
use Rattle.md_tool.specs.declared.fault.Fault.{Fault}
use Rattle.md_tool.specs.declared.fault.Fault.TheVariants.{Usage, Read, TooLong, Refused, OutOfSteps, Thrown, Damaged, TooLarge, TwoEntries, DamagedLine, AnotherProgram, NoSuchPage, Write, NoMemory, Network}
use Rattle.md_tool.specs.declared.fault.Stopped.{Stopped}
use Rattle.md_tool.specs.Due.{WriteEnds}
use Rattle.md_tool.specs.Stored.{IsLoadedFrom, ViewFails}
use Rattle.md_tool.specs.Summed.{AreLoaded, AreSummed, StopsAt, AddUpFails, IsSumOf, IsOfAnother, SumEnds, SumStops, sum_text}

-- ---- lists of loaded profiles

pub one_more_loaded : (held : Option Files) (names : List (List ℕ)) (fs : List LoadedRows) (name : List ℕ) (f : LoadedRows) → AreLoaded held names fs → IsLoadedFrom held name f → AreLoaded held (names ++ name ∷ []) (fs ++ f ∷ [])
one_more_loaded held [] [] name f h l = (l, tt)
one_more_loaded held [] (g ∷ gs) name f h l = absurd h
one_more_loaded held (n ∷ ns) [] name f h l = absurd h
one_more_loaded held (n ∷ ns) (g ∷ gs) name f h l = (h.0, one_more_loaded held ns gs name f h.1 l)

pub as_many_loaded : (held : Option Files) (names : List (List ℕ)) (fs : List LoadedRows) → AreLoaded held names fs → length fs ≡ length names
as_many_loaded held [] [] h = refl
as_many_loaded held [] (g ∷ gs) h = absurd h
as_many_loaded held (n ∷ ns) [] h = absurd h
as_many_loaded held (n ∷ ns) (g ∷ gs) h = ap suc (as_many_loaded held ns gs h.1)

pub as_many_texts : (ws : List (Bor (List ℕ))) → length (texts ws) ≡ length ws
as_many_texts [] = refl
as_many_texts (w ∷ ws) = ap suc (as_many_texts ws)

texts_more : (ws : List (Bor (List ℕ))) (w : Bor (List ℕ)) → texts (ws ++ w ∷ []) ≡ texts ws ++ w.now ∷ []
texts_more [] w = refl
texts_more (v ∷ ws) w = ap (λ (ts : List (List ℕ)). v.now ∷ ts) (texts_more ws w)

-- the names up to one, with it
pub next_texts : (ws : List (Bor (List ℕ))) (k : ℕ) (d : Bor (List ℕ)) → k < length ws → texts (take (k + 1) ws) ≡ texts (take k ws) ++ (slice_index_or ws k d).now ∷ []
next_texts ws k d less = ap texts (take_more ws k d less) ∙ texts_more (take k ws) (slice_index_or ws k d)

-- the names around one
around_text : (ws : List (Bor (List ℕ))) (k : ℕ) (d : Bor (List ℕ)) → k < length ws → texts ws ≡ texts (take k ws) ++ ((slice_index_or ws k d).now ∷ texts (drop (suc k) ws))
around_text [] k d less = absurd (omega (arith, less))
around_text (v ∷ ws) zero d less = refl
around_text (v ∷ ws) (suc k) d less = ap (λ (ts : List (List ℕ)). v.now ∷ ts) (around_text ws k d (omega (arith, less)))

-- the name at a place
pub text_at : (ws : List (Bor (List ℕ))) (k : ℕ) (d : Bor (List ℕ)) → k < length ws → slice_get (texts ws) k ≡ Some (slice_index_or ws k d).now
text_at [] k d less = absurd (omega (arith, less))
text_at (v ∷ ws) zero d less = refl
text_at (v ∷ ws) (suc k) d less = text_at ws k d (omega (arith, less))

-- ---- the file that stops them

-- where the count of faults in a read rose, it rose in the whole
pub view_rises : (held : Option Files) (name : List ℕ) (some all : Type 0) (fault : Fault) → (some → all) → ViewFails held name some fault → ViewFails held name all fault
view_rises held name some all Usage rises h = h
view_rises held name some all Network rises h = h
view_rises held name some all Read rises h = rises h
view_rises held name some all TooLong rises h = h
view_rises held name some all (Refused line w) rises h = h
view_rises held name some all OutOfSteps rises h = h
view_rises held name some all (Thrown bytes) rises h = h
view_rises held name some all (Damaged at kind) rises h = h
view_rises held name some all (TooLarge most) rises h = h
view_rises held name some all (TwoEntries clique a b) rises h = h
view_rises held name some all (DamagedLine n) rises h = h
view_rises held name some all AnotherProgram rises h = h
view_rises held name some all NoSuchPage rises h = h
view_rises held name some all Write rises h = h
view_rises held name some all NoMemory rises h = h

pub stops_at : (held : Option Files) (ws : List (Bor (List ℕ))) (k : ℕ) (d : Bor (List ℕ)) (fs : List LoadedRows) (some all : Type 0) (fault : Fault) → k < length ws → AreLoaded held (texts (take k ws)) fs
    → (some → all) → ViewFails held (slice_index_or ws k d).now some fault → StopsAt held (texts ws) (slice_index_or ws k d).now all fault
stops_at held ws k d fs some all fault less loaded rises fails = record {
  before = texts (take k ws);
  after = texts (drop (suc k) ws);
  names_are = around_text ws k d less;
  files = fs;
  loaded = loaded;
  fails = view_rises held (slice_index_or ws k d).now some all fault rises fails;
}

-- ---- their sums

-- how many files were added up
pub as_many_summed : (held : Option Files) (ws : List (Bor (List ℕ))) (s : SumRows) → AreSummed held (texts ws) s → s.count ≡ length ws
as_many_summed held ws s sums = sums.over.count ∙ as_many_loaded held (texts ws) sums.files sums.loaded ∙ as_many_texts ws

some_summed : (held : Option Files) (ws : List (Bor (List ℕ))) (s : SumRows) (sums : AreSummed held (texts ws) s) → 0 < length ws → 0 < length sums.files
some_summed held ws s sums some = let a = as_many_loaded held (texts ws) sums.files sums.loaded in let b = as_many_texts ws in omega (arith, a, b, some)

tables_at_first : (fs : List LoadedRows) → 0 < length fs → statics_at fs 0 ≡ None → ⊥
tables_at_first [] some none = absurd (omega (arith, some))
tables_at_first (f ∷ fs) some none = absurd (cc none)

-- a first file has tables
pub has_tables : (held : Option Files) (ws : List (Bor (List ℕ))) (s : SumRows) → AreSummed held (texts ws) s → 0 < length ws → s.statics ≡ None → ⊥
has_tables held ws s sums some none = tables_at_first sums.files (some_summed held ws s sums some) (sym sums.over.statics ∙ none)

pub summed : (held : Option Files) (ws : List (Bor (List ℕ))) (s : SumRows) (statics : Static) (text : List ℕ) → AreSummed held (texts ws) s → 0 < length ws → s.other ≡ None → s.statics ≡ Some statics → text ≡ sum_text statics (length ws) s.rows
    → IsSumOf held (texts ws) text
summed held ws s statics text sums some none its is = record {
  files = sums.files;
  loaded = sums.loaded;
  views = have_views sums.files sums.over.small;
  one = subst (λ (o : Option ℕ). IfNone o (AreOfOne sums.files)) none sums.over.one;
  statics = statics;
  statics_are = sym sums.over.statics ∙ its;
  rows = s.rows;
  sums = subst (λ (o : Option ℕ). IfNone o (0 < length sums.files → AreProcSums sums.files s.rows)) none sums.over.sums (some_summed held ws s sums some);
  is = is ∙ ap (λ (n : ℕ). sum_text statics n s.rows) (sym (as_many_texts ws));
}

pub other_found : (held : Option Files) (ws : List (Bor (List ℕ))) (s : SumRows) (place : ℕ) (sums : AreSummed held (texts ws) s) → s.other ≡ Some place → IsFirstOther sums.files place
other_found held ws s place sums found = subst (λ (o : Option ℕ). IfSome o (IsFirstOther sums.files)) found sums.over.differs

-- it is one of the files
pub other_named : (held : Option Files) (ws : List (Bor (List ℕ))) (s : SumRows) (place : ℕ) → AreSummed held (texts ws) s → s.other ≡ Some place → place < length ws
other_named held ws s place sums found =
    let first = other_found held ws s place sums found in
    let a = as_many_loaded held (texts ws) sums.files sums.loaded in
    let b = as_many_texts ws in
    let there = first.there in
    omega (arith, a, b, there)

pub of_another : (held : Option Files) (ws : List (Bor (List ℕ))) (fs : List LoadedRows) (place : ℕ) (d : Bor (List ℕ)) → AreLoaded held (texts ws) fs → IsFirstOther fs place → IsOfAnother held (texts ws) (slice_index_or ws place d).now
of_another held ws fs place d loaded first = record {
  files = fs;
  loaded = loaded;
  place = place;
  first = first;
  named = text_at ws place d (let a = as_many_loaded held (texts ws) fs loaded in let b = as_many_texts ws in let c = first.there in omega (arith, a, b, c));
}

-- ---- how it ended

-- some file wasn't loaded
pub sum_stops : (held : Option Files) (names : List (List ℕ)) (at : List ℕ) (out : Option (List ℕ)) (reads outs : Type 0) (fault : Fault) → StopsAt held names at reads fault → SumEnds held names at out out reads outs (Err fault)
sum_stops held names at out reads outs Read h = (h, refl)
sum_stops held names at out reads outs (TooLarge most) h = (h, refl)
sum_stops held names at out reads outs (Damaged place kind) h = (h, refl)
sum_stops held names at out reads outs (TwoEntries clique a b) h = (h, refl)
sum_stops held names at out reads outs NoMemory h = inl refl
sum_stops held names at out reads outs Usage h = absurd h.fails
sum_stops held names at out reads outs Network h = absurd h.fails
sum_stops held names at out reads outs TooLong h = absurd h.fails
sum_stops held names at out reads outs (Refused line w) h = absurd h.fails
sum_stops held names at out reads outs OutOfSteps h = absurd h.fails
sum_stops held names at out reads outs (Thrown bytes) h = absurd h.fails
sum_stops held names at out reads outs (DamagedLine n) h = absurd h.fails
sum_stops held names at out reads outs NoSuchPage h = absurd h.fails
sum_stops held names at out reads outs AnotherProgram h = absurd h.fails
sum_stops held names at out reads outs Write h = absurd h.fails

-- they weren't added up
pub sum_fails : (held : Option Files) (names : List (List ℕ)) (at : List ℕ) (out : Option (List ℕ)) (reads outs : Type 0) (fault : Fault) → AddUpFails held names at fault → SumEnds held names at out out reads outs (Err fault)
sum_fails held names at out reads outs AnotherProgram h = (h, refl)
sum_fails held names at out reads outs NoMemory h = inl refl
sum_fails held names at out reads outs Usage h = absurd h
sum_fails held names at out reads outs Network h = absurd h
sum_fails held names at out reads outs TooLong h = absurd h
sum_fails held names at out reads outs (Refused line w) h = absurd h
sum_fails held names at out reads outs OutOfSteps h = absurd h
sum_fails held names at out reads outs (Thrown bytes) h = absurd h
sum_fails held names at out reads outs (DamagedLine n) h = absurd h
sum_fails held names at out reads outs NoSuchPage h = absurd h
sum_fails held names at out reads outs Read h = absurd h
sum_fails held names at out reads outs (TooLarge most) h = absurd h
sum_fails held names at out reads outs (Damaged place kind) h = absurd h
sum_fails held names at out reads outs (TwoEntries clique a b) h = absurd h
sum_fails held names at out reads outs Write h = absurd h

pub stopped_ends : (held : Option Files) (names : List (List ℕ)) (out : Option (List ℕ)) (reads outs : Type 0) (stopped : Stopped) (r : Result (Unit {0}) Stopped) → AddUpFails held names stopped.file.now stopped.fault → IsErrAnd r (λ e. e ≡ stopped)
    → SumStops held names out out reads outs r
stopped_ends held names out reads outs stopped (Ok done) fails is = absurd is
stopped_ends held names out reads outs stopped (Err e) fails is = sum_fails held names e.file.now out reads outs e.fault (subst (λ (s : Stopped). AddUpFails held names s.file.now s.fault) (sym is) fails)

-- the sums were written as far as they were
pub sum_written : (held : Option Files) (names : List (List ℕ)) (text : List ℕ) (out out' : Option (List ℕ)) (reads outs : Type 0) (fault : Fault) → IsSumOf held names text → WriteEnds text out out' outs (Err fault)
    → SumEnds held names [] out out' reads outs (Err fault)
sum_written held names text out out' reads outs Write s h = (h.0, record { text = text; is_due = s; written = h.1 })
sum_written held names text out out' reads outs NoMemory s h = inr (record { text = text; is_due = s; written = h })
sum_written held names text out out' reads outs Usage s h = absurd h
sum_written held names text out out' reads outs Network s h = absurd h
sum_written held names text out out' reads outs TooLong s h = absurd h
sum_written held names text out out' reads outs (Refused line w) s h = absurd h
sum_written held names text out out' reads outs OutOfSteps s h = absurd h
sum_written held names text out out' reads outs (Thrown bytes) s h = absurd h
sum_written held names text out out' reads outs (DamagedLine n) s h = absurd h
sum_written held names text out out' reads outs NoSuchPage s h = absurd h
sum_written held names text out out' reads outs Read s h = absurd h
sum_written held names text out out' reads outs (TooLarge most) s h = absurd h
sum_written held names text out out' reads outs (Damaged place kind) s h = absurd h
sum_written held names text out out' reads outs (TwoEntries clique a b) s h = absurd h
sum_written held names text out out' reads outs AnotherProgram s h = absurd h

-- where the files were loaded their reading needn't have failed
stops_after : (held : Option Files) (names : List (List ℕ)) (at : List ℕ) (reads : Type 0) (fault : Fault) → StopsAt held names at ⊥ fault → StopsAt held names at reads fault
stops_after held names at reads fault h = record {
  before = h.before;
  after = h.after;
  names_are = h.names_are;
  files = h.files;
  loaded = h.loaded;
  fails = view_rises held at ⊥ reads fault (λ none. absurd none) h.fails;
}

ends_after : (held : Option Files) (names : List (List ℕ)) (at : List ℕ) (out out' : Option (List ℕ)) (reads outs : Type 0) (fault : Fault) → SumEnds held names at out out' ⊥ outs (Err fault)
    → SumEnds held names at out out' reads outs (Err fault)
ends_after held names at out out' reads outs Usage h = h
ends_after held names at out out' reads outs Read h = (stops_after held names at reads Read h.0, h.1)
ends_after held names at out out' reads outs TooLong h = h
ends_after held names at out out' reads outs (Refused line w) h = h
ends_after held names at out out' reads outs OutOfSteps h = h
ends_after held names at out out' reads outs (Thrown bytes) h = h
ends_after held names at out out' reads outs (Damaged place kind) h = (stops_after held names at reads (Damaged place kind) h.0, h.1)
ends_after held names at out out' reads outs (TooLarge most) h = (stops_after held names at reads (TooLarge most) h.0, h.1)
ends_after held names at out out' reads outs (TwoEntries clique a b) h = (stops_after held names at reads (TwoEntries clique a b) h.0, h.1)
ends_after held names at out out' reads outs (DamagedLine n) h = h
ends_after held names at out out' reads outs AnotherProgram h = h
ends_after held names at out out' reads outs NoSuchPage h = h
ends_after held names at out out' reads outs Network h = h
ends_after held names at out out' reads outs Write h = h
ends_after held names at out out' reads outs NoMemory h = h

pub sums_after : (held : Option Files) (names : List (List ℕ)) (out out' : Option (List ℕ)) (reads outs : Type 0) (r : Result (Unit {0}) Stopped) → SumStops held names out out' ⊥ outs r → SumStops held names out out' reads outs r
sums_after held names out out' reads outs (Ok done) h = h
sums_after held names out out' reads outs (Err stopped) h = ends_after held names stopped.file.now out out' reads outs stopped.fault h
