use Rattle.std.proofs.Common.{◌≡◌, List, [], ◌∷◌, ◌++◌, None, ◌∙◌, ap, subst}
use Rattle.std.proofs.lemmas.Result.{on_ok_weaker}
use Rattle.test_memory.specs.Memory.{listed, file_in, IsPlaceOf}
use Rattle.test_memory.proofs.Stored.{File, set_named, add_named}
use Rattle.test_memory.proofs.store.create_in.Goals as goal

pub returns-in-Some-clause-emptied : goal.returns-in-Some-clause-emptied
returns-in-Some-clause-emptied c =
    let files = listed c.args.files.now.items in
    let name = c.args.name.now in
    let at = c.in-Some.place in
    let found : IsPlaceOf files name at = subst (λ (fs : List File). IsPlaceOf (listed fs) name at) c.deref.ensures.value c.in-Some.ensures.there in
    ap file_in c.make_empty.ensures ∙ set_named name files [] at found

pub returns-in-None-clause-emptied : goal.returns-in-None-clause-emptied
returns-in-None-clause-emptied c =
    let files = listed c.args.files.now.items in
    let name = c.args.name.now in
    let absent : file_in files name ≡ None = subst (λ (fs : List File). file_in (listed fs) name ≡ None) c.deref.ensures.value c.in-None.ensures.absent in
    on_ok_weaker c.add.result
    (λ (is : listed c.add.new.files.items ≡ files ++ (name, []) ∷ []). ap file_in is ∙ add_named name files [] absent)
    c.add.ensures.added
