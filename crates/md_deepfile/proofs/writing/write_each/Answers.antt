use Rattle.std.proofs.Common.{◌∙◌, ◌≡◌, ◌++◌, ℕ, List, length, sym, ap, refl, arith}
use Rattle.std.proofs.lemmas.Grind.{common_steps}
use Rattle.std.proofs.lemmas.List.{append-nil}
use Rattle.md_deepfile.specs.Bytes.{u32, each}
use Rattle.md_deepfile.proofs.Writes.{each_so_far, each_stops, each_goes, each_all, ok_unless_err, on_same, put_first, stops_at_once, cause_since}
use Rattle.md_deepfile.proofs.writing.write_each.Goals as goal

pub returns-then-is_err-clause-stops : goal.returns-then-is_err-clause-stops
returns-then-is_err-clause-stops g c =
    stops_at_once c.args.name.now (each g.T.Spelled.bytes c.args.things.now) (g.S.Store.held c.args.store.now) c.args.buffer.now.items

pub loop-thing-init : goal.loop-thing-init
loop-thing-init g c =
    let put = ok_unless_err c.put_count.result _ (sym c.is_err.ensures.value ∙ c.if-is_err.false) c.put_count.ensures in
    record {
      so_far = put_first c.args.name.now (each_so_far g.T.Spelled.bytes 0 c.args.things.now) (g.S.Store.held c.args.store.now) c.args.buffer.now.items c.put_count.new.out.items
          (put ∙ ap (λ (xs : List ℕ). c.args.buffer.now.items ++ xs) (sym (append-nil (u32 (length c.args.things.now)))));
      faults = refl;
      reads = refl;
    }

pub returns-in-Err-clause-stops : goal.returns-in-Err-clause-stops
returns-in-Err-clause-stops g c =
    each_stops g.T.Spelled.bytes c.loop-thing.thing-index c.args.things.now c.thing-item.result c.args.name.now (g.S.Store.held c.args.store.now) (g.S.Store.held c.loop-thing.store) (g.S.Store.held c.write_thing.new.store)
    c.args.buffer.now.items c.loop-thing.buffer.items c.loop-thing-test.true c.thing-item.is c.loop-thing.invariant.so_far c.in-Err.ensures.stops

pub returns-in-Err-clause-reads : goal.returns-in-Err-clause-reads
returns-in-Err-clause-reads g c = c.in-Err.ensures.reads ∙ c.loop-thing.invariant.reads

pub loop-thing-preserved : goal.loop-thing-preserved
loop-thing-preserved g c =
    record {
      so_far = each_goes g.T.Spelled.bytes c.loop-thing.thing-index c.args.things.now c.thing-item.result c.args.name.now (g.S.Store.held c.args.store.now) (g.S.Store.held c.loop-thing.store) (g.S.Store.held c.write_thing.new.store)
          c.args.buffer.now.items c.loop-thing.buffer.items c.write_thing.new.buffer.items c.loop-thing-test.true c.thing-item.is c.loop-thing.invariant.so_far c.in_default.ensures.on;
      faults = c.in_default.ensures.cause.kept (λ is. cc is) ∙ c.loop-thing.invariant.faults;
      reads = c.in_default.ensures.reads ∙ c.loop-thing.invariant.reads;
    }

pub returns-clause-on : goal.returns-clause-on
returns-clause-on g c =
    let done : c.loop-thing.thing-index ≡ length c.args.things.now = omega arith in
    on_same c.args.name.now (each_so_far g.T.Spelled.bytes c.loop-thing.thing-index c.args.things.now) (each g.T.Spelled.bytes c.args.things.now) (g.S.Store.held c.args.store.now) (g.S.Store.held c.loop-thing.store) c.args.buffer.now.items c.loop-thing.buffer.items
    (each_all g.T.Spelled.bytes c.loop-thing.thing-index c.args.things.now done) c.loop-thing.invariant.so_far

pub returns-clause-reads : goal.returns-clause-reads
returns-clause-reads g c = grind (arith, common_steps)

pub returns-clause-stops : goal.returns-clause-stops
returns-clause-stops g c = grind (arith, common_steps)

pub returns-then-is_err-clause-on : goal.returns-then-is_err-clause-on
returns-then-is_err-clause-on g c = grind (arith, common_steps)

pub returns-then-is_err-clause-reads : goal.returns-then-is_err-clause-reads
returns-then-is_err-clause-reads g c = grind (arith, common_steps)

pub returns-in-Err-clause-on : goal.returns-in-Err-clause-on
returns-in-Err-clause-on g c = grind (arith, common_steps)

pub returns-in-Err-clause-cause : goal.returns-in-Err-clause-cause
returns-in-Err-clause-cause g c = cause_since c.loop-thing.invariant.faults c.in-Err.ensures.cause
