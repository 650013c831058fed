use Rattle.std.proofs.Common.{◌≡◌, [], Some, ap, subst}
use Rattle.md_base.specs.Files.{Files, with_file}
use Rattle.test_memory.specs.Memory.{WholeStore, listed, file_in}
use Rattle.test_memory.proofs.Stored.{any_file}
use Rattle.test_memory.proofs.store.SureStoreStore.create.Goals as goal

pub returns-clause-emptied : goal.returns-clause-emptied
returns-clause-emptied c =
    let name = c.args.name.now in
    let now = listed c.create_in.new.files.items in
    let is : file_in now ≡ with_file name [] (file_in c.args.self.now.files) =
    subst (λ (before : WholeStore). file_in now ≡ with_file name [] (file_in before.files)) c.self.view_is c.in_ok-create_in.ensures.emptied in
    ap (λ (files : Files). Some files) (any_file name [] c.args.self.now.files now is)
