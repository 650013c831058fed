use Rattle.std.proofs.Common.{◌<◌, List, ℕ, length, set, ap, ◌∙◌, arith}
use Rattle.test_memory.specs.Memory.{listed, name_at}
use Rattle.test_memory.proofs.Stored.{listed-set}
use Rattle.test_memory.proofs.store.make_empty.Goals as goal

pub returns : goal.returns
returns c =
    let files = c.args.files.now.items in
    let at = c.args.place in
    let within : at < length files = omega (arith, c.args.files.now.ok.0, c.requires) in
    listed-set files at c.index_mut-file.result.now c.clear.new.self within c.index_mut-file.ensures.value
    ∙ ap (λ (bytes : List ℕ). set (listed files) at (name_at (listed files) at, bytes)) c.clear.ensures.items
