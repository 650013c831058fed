use Rattle.std.proofs.Common.{◌≡◌, ◌<◌, ◌++◌, List, ℕ, length, set, ap, ◌∙◌, arith}
use Rattle.std.proofs.lemmas.Result.{err_from_is_err_and}
use Rattle.test_memory.specs.Memory.{listed, name_at}
use Rattle.test_memory.proofs.Stored.{listed-set, bytes_at-is, set-same}
use Rattle.test_memory.proofs.store.extend.Goals as goal

pub returns-in_err-extend_from_slice-clause-kept : goal.returns-in_err-extend_from_slice-clause-kept
returns-in_err-extend_from_slice-clause-kept c =
    let files = c.args.files.now.items in
    let at = c.args.place in
    let within : at < length files = omega (arith, c.args.files.now.ok.0, c.requires) in
    let file = c.index_mut-file.result.now in
    let same : listed (set files at (file.0, c.extend_from_slice.new.self)) ≡ listed files =
    listed-set files at file c.extend_from_slice.new.self within c.index_mut-file.ensures.value
    ∙ ap (λ (bytes : List ℕ). set (listed files) at (name_at (listed files) at, bytes)) (c.in_err-extend_from_slice.ensures.items ∙ bytes_at-is files at file within c.index_mut-file.ensures.value)
    ∙ set-same (listed files) at in
    let p = err_from_is_err_and c.from_residual.result c.from_residual.ensures.1 in rw p.1 same

pub returns-clause-added : goal.returns-clause-added
returns-clause-added c =
    let files = c.args.files.now.items in
    let at = c.args.place in
    let within : at < length files = omega (arith, c.args.files.now.ok.0, c.requires) in
    let file = c.index_mut-file.result.now in
    listed-set files at file c.extend_from_slice.new.self within c.index_mut-file.ensures.value
    ∙ ap (λ (bytes : List ℕ). set (listed files) at (name_at (listed files) at, bytes))
    (c.in_ok-extend_from_slice.ensures.items ∙ ap (λ (bytes : List ℕ). bytes ++ c.args.piece.now) (bytes_at-is files at file within c.index_mut-file.ensures.value))
