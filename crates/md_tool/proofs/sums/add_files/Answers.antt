use Rattle.std.proofs.Common.{◌∙◌, ◌++◌, ℕ, List, [], ◌∷◌, take, arith}
use Rattle.std.proofs.lemmas.Grind.{common_steps}
use Rattle.std.proofs.lemmas.List.{length-take}
use Rattle.std.specs.Borrow.{Bor}
use Rattle.std.specs.Prelude.{slice_index_or}
use Rattle.md_base.specs.Outside.{Rose}
use Rattle.md_commands.specs.Told.{texts}
use Rattle.md_tool.proofs.StreamLemmas.{rose_after}
use Rattle.md_tool.proofs.SumLemmas.{one_more_loaded, next_texts, stops_at, as_many_summed}
use Rattle.md_tool.proofs.sums.add_files.Goals as goal

pub add_file-requires-clause-few : goal.add_file-requires-clause-few
add_file-requires-clause-few g c =
    let many = as_many_summed (g.S.Store.held c.args.store.now) (take c.loop-name.name-index c.args.names.now) c.loop-name.sums c.loop-name.invariant.summed in
    let size = length-take c.loop-name.name-index c.args.names.now in
    omega (arith, many, size, c.requires, c.loop-name-test.true)

pub add_file-requires-clause-sums : goal.add_file-requires-clause-sums
add_file-requires-clause-sums g c = (c.loop-name.invariant.summed.files, c.loop-name.invariant.summed.over)

pub returns-in-Err-clause-summed : goal.returns-in-Err-clause-summed
returns-in-Err-clause-summed g c =
    stops_at (g.S.Store.held c.args.store.now) c.args.names.now c.loop-name.name-index (record { ref_ptr = (0, 0); now = [] }) c.loop-name.invariant.summed.files
    (Rose (g.S.Store.read_faults c.loop-name.store) (g.S.Store.read_faults c.add_file.new.store))
    (Rose (g.S.Store.read_faults c.args.store.now) (g.S.Store.read_faults c.add_file.new.store)) c.in-Err.fault c.loop-name-test.true c.loop-name.invariant.summed.loaded
    (rose_after (g.S.Store.read_faults c.args.store.now) (g.S.Store.read_faults c.loop-name.store) (g.S.Store.read_faults c.add_file.new.store) c.loop-name.invariant.later)
    (rw (c.loop-name.invariant.kept) at c.in-Err.ensures.added)

pub loop-name-preserved : goal.loop-name-preserved
loop-name-preserved g c = record {
  summed =
      let item : Bor (List ℕ) = record { ref_ptr = (0, 0); now = [] } in
      let next = c.in-Ok.ensures.added in
      let before = c.loop-name.invariant.summed in record {
        files = before.files ++ next.0 ∷ [];
        loaded =
            rw (next_texts c.args.names.now c.loop-name.name-index item c.loop-name-test.true)
            (one_more_loaded (g.S.Store.held c.args.store.now) (texts (take c.loop-name.name-index c.args.names.now)) before.files (slice_index_or c.args.names.now c.loop-name.name-index item).now next.0 before.loaded
            (rw (c.loop-name.invariant.kept) at next.1));
        over = next.2 before.files before.over;
      };
  kept = c.add_file.ensures.kept ∙ c.loop-name.invariant.kept;
  later = omega (arith, c.loop-name.invariant.later, c.add_file.ensures.later);
  reads = c.in-Ok.ensures.reads ∙ c.loop-name.invariant.reads;
  writes = c.add_file.ensures.writes ∙ c.loop-name.invariant.writes;
}

pub returns-in-Err-clause-kept : goal.returns-in-Err-clause-kept
returns-in-Err-clause-kept g c = grind (arith, common_steps)

pub returns-clause-kept : goal.returns-clause-kept
returns-clause-kept g c = grind (arith, common_steps)

pub returns-clause-summed : goal.returns-clause-summed
returns-clause-summed g c = grind (arith, common_steps)

pub returns-in-Err-clause-reads : goal.returns-in-Err-clause-reads
returns-in-Err-clause-reads g c = rw (c.loop-name.invariant.reads) at c.in-Err.ensures.reads
