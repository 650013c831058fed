use Rattle.std.proofs.Common.{◌≡◌, List, [], ◌∷◌, ◌++◌, None, ◌∙◌, ap, subst, set}
use Rattle.std.proofs.lemmas.Result.{on_ok_weaker}
use Rattle.test_memory.specs.Memory.{listed, file_in, IsPlaceOf, name_at, bytes_at}
use Rattle.test_memory.proofs.Stored.{File, appended, appended_new}
use Rattle.test_memory.proofs.store.append_in.Goals as goal

pub returns-in-Some-clause-added : goal.returns-in-Some-clause-added
returns-in-Some-clause-added c =
    let files = listed c.args.files.now.items in
    let name = c.args.name.now in
    let at = c.in-Some.place in
    let found : IsPlaceOf files name at = subst (λ (fs : List File). IsPlaceOf (listed fs) name at) c.deref.ensures.value c.in-Some.ensures.there in
    on_ok_weaker c.extend.result
    (λ (is : listed c.extend.new.files.items ≡ set files at (name_at files at, bytes_at files at ++ c.args.piece.now)). ap file_in is ∙ appended name files at c.args.piece.now found)
    c.extend.ensures.added

pub returns-in-None-clause-added : goal.returns-in-None-clause-added
returns-in-None-clause-added c =
    let files = listed c.args.files.now.items in
    let name = c.args.name.now in
    let absent : file_in files name ≡ None = subst (λ (fs : List File). file_in (listed fs) name ≡ None) c.deref.ensures.value c.in-None.ensures.absent in
    on_ok_weaker c.add.result
    (λ (is : listed c.add.new.files.items ≡ files ++ (name, c.args.piece.now) ∷ []). ap file_in is ∙ appended_new name files c.args.piece.now absent)
    c.add.ensures.added
