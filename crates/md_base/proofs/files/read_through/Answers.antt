use Rattle.std.proofs.Common.{◌≡◌, ℕ, List, ◌++◌, Option, length, take, ◌∙◌, sym, subst, arith}
use Rattle.std.proofs.lemmas.Grind.{common_steps}
use Rattle.md_base.specs.Files.{Files, GivesFrom}
use Rattle.md_base.proofs.Told.{HasFront, front_more}
use Rattle.md_base.proofs.files.read_through.Goals as goal

pub loop-store-preserved : goal.loop-store-preserved
loop-store-preserved g c =
    let read = c.in_ok-count.ensures in
    let before = c.loop-store.invariant in
    let told = g.S.Store.held c.args.store.now in
    let name = c.args.name.now in
    let bytes = c.loop-store.bytes.items in
    let count = c.in_ok-count.count in
    let buf = c.read_some.new.buf in
    let at : c.len-in-loop-store.result ≡ length bytes = omega (arith, c.len-in-loop-store.ensures, c.loop-store.bytes.ok.0) in
    let first : GivesFrom told name c.len-in-loop-store.result count buf = subst (λ (held : Option Files). GivesFrom held name c.len-in-loop-store.result count buf) before.kept read.bytes in
    let gives : GivesFrom told name (length bytes) count buf = subst (λ (place : ℕ). GivesFrom told name place count buf) at first in
    let more : HasFront told name (bytes ++ take count buf) = front_more told name bytes buf count before.so_far gives in
    let items : c.extend_from_slice.new.self.items ≡ bytes ++ take count buf = grind (arith, common_steps, c.in_ok-extend_from_slice.ensures.items) in
    record {
      so_far = subst (λ (now : List ℕ). HasFront told name now) (sym items) more;
      kept = read.kept ∙ before.kept;
      faults = read.cause.kept (λ is. cc is) ∙ before.faults;
      writes = read.writes ∙ before.writes;
    }

pub slice_bounds-extend_from_slice-end-in-loop-store : goal.slice_bounds-extend_from_slice-end-in-loop-store
slice_bounds-extend_from_slice-end-in-loop-store g c = grind (arith, common_steps)

pub returns-clause-bytes : goal.returns-clause-bytes
returns-clause-bytes g c = grind (arith, common_steps)

pub returns-clause-kept : goal.returns-clause-kept
returns-clause-kept g c = grind (arith, common_steps)

pub returns-clause-too_large : goal.returns-clause-too_large
returns-clause-too_large g c = grind (arith, common_steps)

pub returns-clause-within : goal.returns-clause-within
returns-clause-within g c = grind (arith, common_steps)

pub returns-clause-writes : goal.returns-clause-writes
returns-clause-writes g c = grind (arith, common_steps)

pub returns-then-count-eq0-clause-bytes : goal.returns-then-count-eq0-clause-bytes
returns-then-count-eq0-clause-bytes g c = grind (arith, common_steps)

pub returns-then-count-eq0-clause-kept : goal.returns-then-count-eq0-clause-kept
returns-then-count-eq0-clause-kept g c = grind (arith, common_steps)

pub returns-then-count-eq0-clause-too_large : goal.returns-then-count-eq0-clause-too_large
returns-then-count-eq0-clause-too_large g c = grind (arith, common_steps)

pub returns-then-count-eq0-clause-within : goal.returns-then-count-eq0-clause-within
returns-then-count-eq0-clause-within g c = grind (arith, common_steps)

pub returns-then-count-eq0-clause-writes : goal.returns-then-count-eq0-clause-writes
returns-then-count-eq0-clause-writes g c = grind (arith, common_steps)
