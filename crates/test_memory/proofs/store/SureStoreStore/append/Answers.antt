use Rattle.std.proofs.Common.{◌≡◌, ◌++◌, take, Some, ap, subst}
use Rattle.md_base.specs.Files.{Files, with_file, bytes_in}
use Rattle.test_memory.specs.Memory.{WholeStore, listed, file_in}
use Rattle.test_memory.proofs.Stored.{any_file}
use Rattle.test_memory.proofs.store.SureStoreStore.append.Goals as goal

pub returns-clause-added : goal.returns-clause-added
returns-clause-added c =
    let name = c.args.name.now in
    let piece = take c.min-count.result c.args.piece.now in
    let now = listed c.append_in.new.files.items in
    let is : file_in now ≡ with_file name (bytes_in (file_in c.args.self.now.files) name ++ piece) (file_in c.args.self.now.files) =
    subst (λ (before : WholeStore). file_in now ≡ with_file name (bytes_in (file_in before.files) name ++ piece) (file_in before.files)) c.self.view_is c.in_ok-append_in.ensures.added in
    ap (λ (files : Files). Some files) (any_file name (bytes_in (file_in c.args.self.now.files) name ++ piece) c.args.self.now.files now is)
