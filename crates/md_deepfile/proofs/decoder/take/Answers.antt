use Rattle.md_deepfile.specs.State.{state_of, form_of}
use Rattle.md_deepfile.proofs.Ahead.{rest_is, piece_goes, piece_stops, piece_ends}
use Rattle.md_deepfile.proofs.decoder.take.Goals as goal

pub loop-done-preserved : goal.loop-done-preserved
loop-done-preserved c =
    let s = state_of c.args.reader.now in
    let goes = piece_goes (form_of s) s.at c.args.piece.now _ c.loop-done.done c.in-Ok.count (state_of c.loop-done.reader) (state_of c.some.new.self) (rest_is c.loop-done.done c.args.piece.now) c.loop-done.invariant.within c.loop-done.invariant.so_far c.in-Ok.ensures.follows in
    record {
      within = goes.0;
      ready = c.in-Ok.ensures.ready;
      so_far = goes.1;
    }

pub returns-in-Err-clause-follows : goal.returns-in-Err-clause-follows
returns-in-Err-clause-follows c =
    let s = state_of c.args.reader.now in
    piece_stops (form_of s) s.at c.args.piece.now _ c.loop-done.done (state_of c.loop-done.reader) (state_of c.some.new.self) s c.in-Err.fault (rest_is c.loop-done.done c.args.piece.now) c.loop-done.invariant.so_far c.in-Err.ensures.follows

pub returns-clause-follows : goal.returns-clause-follows
returns-clause-follows c =
    let s = state_of c.args.reader.now in
    piece_ends (form_of s) s.at c.args.piece.now c.loop-done.done (state_of c.loop-done.reader) c.loop-done-test.false c.loop-done.invariant.so_far
