use Rattle.std.proofs.Common.{refl, ap, sym, ◌∙◌, arith, ◌++◌, Some, Ok, Err, subst}
use Rattle.std.proofs.lemmas.Grind.{common_steps}
use Rattle.md_deepfile.specs.Decoding.{Decoding, HasTaken, FollowsBytes}
use Rattle.md_deepfile.specs.State.{state_of, form_of}
use Rattle.md_deepfile.specs.declared.reader.Reader.{Reader}
use Rattle.md_deepfile.proofs.Fed.{taken_on, taken_stop, taken_still, tells_on, tells_stop}
use Rattle.md_deepfile.proofs.decoder.Decoder.feed.Goals as goal

pub returns-in-Some-clause-taken : goal.returns-in-Some-clause-taken
returns-in-Some-clause-taken c =
    taken_still c.args.self.now c.in-Some.fault c.args.piece.now (sym (ap (λ (d : Decoding). d.stopped) c.self.view_is) ∙ c.in-Some.is) (λ i. omega (arith, c.type_inv.piece i))

pub returns-in-Ok-clause-taken : goal.returns-in-Ok-clause-taken
returns-in-Ok-clause-taken c =
    taken_on c.args.self.now c.self.inside.stopped (state_of c.self.inside.reader.value) (state_of c.take.new.reader) c.args.piece.now c.self.view_is c.in_default.is (λ i. omega (arith, c.type_inv.piece i)) (subst (λ (r : Reader). FollowsBytes (form_of (state_of r)) c.args.piece.now (state_of r).at (state_of c.take.new.reader) (Ok (tt {0}))) c.deref_mut.ensures.value c.in-Ok.ensures.follows)

pub returns-in-Ok-clause-tells : goal.returns-in-Ok-clause-tells
returns-in-Ok-clause-tells c = λ bytes taken.
    let d : Decoding = record { stopped = c.self.inside.stopped; state = state_of c.take.new.reader } in
    let after : HasTaken d (bytes ++ c.args.piece.now) =
    taken_on c.args.self.now c.self.inside.stopped (state_of c.self.inside.reader.value) (state_of c.take.new.reader) c.args.piece.now c.self.view_is c.in_default.is (λ i. omega (arith, c.type_inv.piece i)) (subst (λ (r : Reader). FollowsBytes (form_of (state_of r)) c.args.piece.now (state_of r).at (state_of c.take.new.reader) (Ok (tt {0}))) c.deref_mut.ensures.value c.in-Ok.ensures.follows) bytes taken in
    tells_on d (bytes ++ c.args.piece.now) c.in_default.is c.in-Ok.ensures.ready after

pub returns-in-Err-clause-taken : goal.returns-in-Err-clause-taken
returns-in-Err-clause-taken c =
    taken_stop c.args.self.now c.self.inside.stopped (state_of c.self.inside.reader.value) (state_of c.take.new.reader) c.args.piece.now c.in-Err.fault c.self.view_is c.in_default.is (λ i. omega (arith, c.type_inv.piece i)) (subst (λ (r : Reader). FollowsBytes (form_of (state_of r)) c.args.piece.now (state_of r).at (state_of c.take.new.reader) (Err c.in-Err.fault)) c.deref_mut.ensures.value c.in-Err.ensures.follows)

pub returns-in-Err-clause-tells : goal.returns-in-Err-clause-tells
returns-in-Err-clause-tells c = λ bytes taken.
    let d : Decoding = record { stopped = Some c.in-Err.fault; state = state_of c.take.new.reader } in
    let after : HasTaken d (bytes ++ c.args.piece.now) =
    taken_stop c.args.self.now c.self.inside.stopped (state_of c.self.inside.reader.value) (state_of c.take.new.reader) c.args.piece.now c.in-Err.fault c.self.view_is c.in_default.is (λ i. omega (arith, c.type_inv.piece i)) (subst (λ (r : Reader). FollowsBytes (form_of (state_of r)) c.args.piece.now (state_of r).at (state_of c.take.new.reader) (Err c.in-Err.fault)) c.deref_mut.ensures.value c.in-Err.ensures.follows) bytes taken in
    tells_stop d c.in-Err.fault (bytes ++ c.args.piece.now) refl after

pub returns-in-Ok-clause-goes_on : goal.returns-in-Ok-clause-goes_on
returns-in-Ok-clause-goes_on c = grind (arith, common_steps)

pub returns-in-Ok-clause-stays : goal.returns-in-Ok-clause-stays
returns-in-Ok-clause-stays c = grind (arith, common_steps)

pub returns-in-Ok-clause-stops : goal.returns-in-Ok-clause-stops
returns-in-Ok-clause-stops c = grind (arith, common_steps)

pub returns-in-Err-clause-goes_on : goal.returns-in-Err-clause-goes_on
returns-in-Err-clause-goes_on c = grind (arith, common_steps)

pub returns-in-Err-clause-stays : goal.returns-in-Err-clause-stays
returns-in-Err-clause-stays c = grind (arith, common_steps)

pub returns-in-Err-clause-stops : goal.returns-in-Err-clause-stops
returns-in-Err-clause-stops c = grind (arith, common_steps)

pub returns-in-Some-clause-goes_on : goal.returns-in-Some-clause-goes_on
returns-in-Some-clause-goes_on c = grind (arith, common_steps)

pub returns-in-Some-clause-stays : goal.returns-in-Some-clause-stays
returns-in-Some-clause-stays c = grind (arith, common_steps)

pub returns-in-Some-clause-stops : goal.returns-in-Some-clause-stops
returns-in-Some-clause-stops c = grind (arith, common_steps)

pub returns-in-Some-clause-tells : goal.returns-in-Some-clause-tells
returns-in-Some-clause-tells c = grind (arith, common_steps)
