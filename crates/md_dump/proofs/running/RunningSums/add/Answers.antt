use Rattle.std.proofs.Common.{◌≡◌, ◌<◌, ◌+◌, ℕ, Bool, true, false, List, Option, None, Some, length, ap, sym, subst, ◌∙◌}
use Rattle.std.specs.Option.{is_some}
use Rattle.std.specs.Prelude.{All, IsTrue, OnOk, Result, Ok, Err}
use Rattle.md_base.specs.declared.number.NoMemory.{NoMemory}
use Rattle.md_dynamic.specs.Profile.{ProfileRows}
use Rattle.md_static.specs.Tables.{Static}
use Rattle.md_dump.specs.declared.summing.ProcSum.{ProcSum}
use Rattle.md_dump.specs.Sums.{SumRows, AreRowsMore, HasRoom}
use Rattle.md_dump.proofs.Onward.{none_yet, some_place, sums_there, sums_room, begins, goes_on, finds_other, stays_other}
use Rattle.md_dump.proofs.running.RunningSums.add.Goals as goal
use Rattle.md_dump.proofs.running.RunningSums.add.Goals.{After-deref}

on_ok : {A B C D E : Type 0} (r : Result (Unit {0}) NoMemory) → OnOk r A → OnOk r B → OnOk r C → OnOk r D → (A → B → C → D → E) → OnOk r E
on_ok (Ok done) a b c d all = all a b c d
on_ok (Err fault) a b c d all = tt

is_false : (b : Bool) → b ≡ false → IsTrue b → ⊥
is_false b is told = let e : false ≡ true = sym is ∙ told in absurd (cc e)

pub returns-then-is_some-clause-added : goal.returns-then-is_some-clause-added
returns-then-is_some-clause-added c = λ files over.
    let place = some_place c.self.inside.other (sym c.is_some.ensures ∙ c.if-is_some.true) in
    stays_other files c.args.self.now _ c.args.file.now place.0 over (sym (ap (λ (s : SumRows). s.other) c.self.view_is) ∙ place.1) c.is_small.ensures c.requires.few_links (ap (λ (s : SumRows). s.statics) c.self.view_is) place.1
    (ap (λ (s : SumRows). s.count + 1) c.self.view_is)

none_so_far : (other : Option ℕ) (s : SumRows) (b : Bool) → other ≡ s.other → b ≡ is_some other → b ≡ false → s.other ≡ None
none_so_far other s b is told off = sym is ∙ none_yet other (sym told ∙ off)

-- the tables of the file are those of the first one
tables_are : (c : After-deref) → c.args.file.now.profile.statics ≡ c.in-Some.first
tables_are c = sym (c.statics.ensures ∙ ap (λ (p : ProfileRows). p.statics) c.profile.ensures.profile) ∙ c.same_statics.ensures.0 c.if-same_statics.true

kept_rows : (c : After-deref) → c.args.self.now.rows ≡ c.deref.result.now
kept_rows c = sym (c.deref.ensures.value ∙ ap (λ (s : SumRows). s.rows) c.self.view_is)

first_is : (c : After-deref) → c.args.self.now.statics ≡ Some c.in-Some.first
first_is c = sym (ap (λ (s : SumRows). s.statics) c.self.view_is) ∙ c.in-Some.is

none_found : (c : After-deref) → c.args.self.now.other ≡ None
none_found c = none_so_far c.self.inside.other c.args.self.now c.is_some.result (ap (λ (s : SumRows). s.other) c.self.view_is) c.is_some.ensures c.if-is_some.false

pub rows_more-requires-clause-there : goal.rows_more-requires-clause-there
rows_more-requires-clause-there c =
    subst (λ (rows : List ProcSum). All (λ row. row.id < length c.args.file.now.profile.statics.procs) rows) (kept_rows c)
    (subst (λ (s : Static). All (λ row. row.id < length s.procs) c.args.self.now.rows) (sym (tables_are c)) (sums_there c.requires.sums.0 c.args.self.now c.in-Some.first c.requires.sums.1 (first_is c) (none_found c)))

pub rows_more-requires-clause-room : goal.rows_more-requires-clause-room
rows_more-requires-clause-room c = subst (λ (rows : List ProcSum). All HasRoom rows) (kept_rows c) (sums_room c.requires.sums.0 c.args.self.now c.in-Some.first c.requires.sums.1 (first_is c) (none_found c) c.requires.few)

pub returns-in-None-clause-added : goal.returns-in-None-clause-added
returns-in-None-clause-added c =
    let none = none_so_far c.self.inside.other c.args.self.now c.is_some.result (ap (λ (s : SumRows). s.other) c.self.view_is) c.is_some.ensures c.if-is_some.false in
    on_ok c.begin.result c.begin.ensures.statics c.begin.ensures.rows c.begin.ensures.others c.begin.ensures.count
    (λ statics rows others count files over.
    begins files c.args.self.now c.begin.new.self c.args.file.now over (sym (ap (λ (s : SumRows). s.statics) c.self.view_is) ∙ c.in-None.is) none c.is_small.ensures c.requires.few_links statics rows (others ∙ none) count)

pub returns-in_ok-self-inside-in-Some-clause-added : goal.returns-in_ok-self-inside-in-Some-clause-added
returns-in_ok-self-inside-in-Some-clause-added c = λ files over.
    let at = (goal.at.returns-in_ok-self-inside-in-Some-clause-added c).After-deref in
    goes_on files c.args.self.now _ c.args.file.now c.in-Some.first over (first_is at) (none_found at) c.is_small.ensures c.requires.few_links (tables_are at)
    (subst (λ (rows : List ProcSum). AreRowsMore c.args.file.now rows c.in_ok-self-inside-in-Some.field-0.items) (sym (kept_rows at)) c.in_ok-self-inside-in-Some.ensures) (ap (λ (s : SumRows). s.statics) c.self.view_is)
    (ap (λ (s : SumRows). s.other) c.self.view_is ∙ none_found at) (ap (λ (s : SumRows). s.count + 1) c.self.view_is)

pub returns-in-Some-2-clause-added : goal.returns-in-Some-2-clause-added
returns-in-Some-2-clause-added c = λ files over.
    let none = none_so_far c.self.inside.other c.args.self.now c.is_some.result (ap (λ (s : SumRows). s.other) c.self.view_is) c.is_some.ensures c.if-is_some.false in
    let differ : c.args.file.now.profile.statics ≡ c.in-Some.first → ⊥ = (λ same. is_false c.same_statics.result c.if-same_statics.false (c.same_statics.ensures.1 (c.statics.ensures ∙ ap (λ (p : ProfileRows). p.statics) c.profile.ensures.profile ∙ same))) in
    finds_other files c.args.self.now _ c.args.file.now c.in-Some.first over (sym (ap (λ (s : SumRows). s.statics) c.self.view_is) ∙ c.in-Some.is) none c.is_small.ensures c.requires.few_links differ
    (ap (λ (s : SumRows). s.statics) c.self.view_is) (ap (λ (s : SumRows). Some s.count) c.self.view_is) (ap (λ (s : SumRows). s.count + 1) c.self.view_is)
