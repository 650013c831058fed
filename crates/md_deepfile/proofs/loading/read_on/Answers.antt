use Rattle.std.proofs.Common.{◌∙◌, Option, refl, subst, arith}
use Rattle.std.proofs.lemmas.Grind.{common_steps}
use Rattle.md_base.specs.Files.{Files, GivesFrom}
use Rattle.md_deepfile.proofs.Loaded.{fed_more, fed_end, fed_longer, store_fault}
use Rattle.md_deepfile.proofs.Writes.{refused_since}
use Rattle.md_deepfile.proofs.loading.read_on.Goals as goal

pub pieces-preserved : goal.pieces-preserved
pieces-preserved g c =
    let read = c.in-Ok.ensures in
    let before = c.pieces.invariant in
    let told = g.S.Store.held c.args.store.now in
    let buf = c.read_some.new.buf in
    let gives : GivesFrom told c.args.name.now c.pieces.at c.in-Ok.count buf = subst (λ (held : Option Files). GivesFrom held c.args.name.now c.pieces.at c.in-Ok.count buf) before.kept read.bytes in
    record {
      within = omega arith;
      fed = fed_more told c.args.name.now c.pieces.at c.in-Ok.count buf _ c.pieces.decoder c.feed.new.self before.fed gives (omega (arith, read.within)) refl c.feed.ensures.taken;
      kept = read.kept ∙ before.kept;
      faults = read.cause.kept (λ is. cc is) ∙ before.faults;
      writes = read.writes ∙ before.writes;
    }

pub returns-in-Err-clause-fault : goal.returns-in-Err-clause-fault
returns-in-Err-clause-fault g c = store_fault (g.S.Store.held c.args.store.now) c.args.name.now c.args.max c.in-Err.fault c.in-Err.ensures.fault

pub returns-in-Err-clause-kept : goal.returns-in-Err-clause-kept
returns-in-Err-clause-kept g c = c.in-Err.ensures.kept ∙ c.pieces.invariant.kept

pub returns-in-Err-clause-writes : goal.returns-in-Err-clause-writes
returns-in-Err-clause-writes g c = c.in-Err.ensures.writes ∙ c.pieces.invariant.writes

pub returns-then-count-eq0-clause-kept : goal.returns-then-count-eq0-clause-kept
returns-then-count-eq0-clause-kept g c = c.in-Ok.ensures.kept ∙ c.pieces.invariant.kept

pub returns-then-count-eq0-clause-writes : goal.returns-then-count-eq0-clause-writes
returns-then-count-eq0-clause-writes g c = c.in-Ok.ensures.writes ∙ c.pieces.invariant.writes

pub returns-then-count-max-clause-kept : goal.returns-then-count-max-clause-kept
returns-then-count-max-clause-kept g c = c.in-Ok.ensures.kept ∙ c.pieces.invariant.kept

pub returns-then-count-max-clause-writes : goal.returns-then-count-max-clause-writes
returns-then-count-max-clause-writes g c = c.in-Ok.ensures.writes ∙ c.pieces.invariant.writes

pub returns-then-count-eq0-clause-whole : goal.returns-then-count-eq0-clause-whole
returns-then-count-eq0-clause-whole g c =
    let told = g.S.Store.held c.args.store.now in
    let buf = c.read_some.new.buf in
    let gives : GivesFrom told c.args.name.now c.pieces.at c.in-Ok.count buf = subst (λ (held : Option Files). GivesFrom held c.args.name.now c.pieces.at c.in-Ok.count buf) c.pieces.invariant.kept c.in-Ok.ensures.bytes in
    fed_end told c.args.name.now c.pieces.at c.in-Ok.count c.args.max buf c.pieces.decoder c.pieces.invariant.fed gives c.if-count-eq0.true (omega arith) c.pieces.invariant.within

pub returns-then-count-max-clause-fault : goal.returns-then-count-max-clause-fault
returns-then-count-max-clause-fault g c =
    let told = g.S.Store.held c.args.store.now in
    let buf = c.read_some.new.buf in
    let gives : GivesFrom told c.args.name.now c.pieces.at c.in-Ok.count buf = subst (λ (held : Option Files). GivesFrom held c.args.name.now c.pieces.at c.in-Ok.count buf) c.pieces.invariant.kept c.in-Ok.ensures.bytes in
    fed_longer told c.args.name.now c.pieces.at c.in-Ok.count c.args.max buf c.pieces.decoder c.pieces.invariant.fed gives (omega (arith, c.in-Ok.ensures.within)) (omega (arith, c.if-count-max.true, c.pieces.invariant.within))

pub returns-then-count-eq0-clause-fault : goal.returns-then-count-eq0-clause-fault
returns-then-count-eq0-clause-fault g c = grind (arith, common_steps)

pub returns-in-Err-clause-whole : goal.returns-in-Err-clause-whole
returns-in-Err-clause-whole g c = grind (arith, common_steps)

pub returns-then-count-max-clause-whole : goal.returns-then-count-max-clause-whole
returns-then-count-max-clause-whole g c = grind (arith, common_steps)

pub returns-in-Err-clause-cause : goal.returns-in-Err-clause-cause
returns-in-Err-clause-cause g c = refused_since c.pieces.invariant.faults c.in-Err.ensures.cause
