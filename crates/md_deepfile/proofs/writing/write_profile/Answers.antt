use Rattle.std.proofs.Common.{[]}
use Rattle.md_deepfile.specs.Bytes.{file_bytes}
use Rattle.md_deepfile.proofs.Writes.{ok_then, err_then, all_written, front_part, begun_written}
use Rattle.md_deepfile.proofs.writing.write_profile.Goals as goal

pub returns-in-Ok-clause-whole : goal.returns-in-Ok-clause-whole
returns-in-Ok-clause-whole g c =
    let f = c.args.profile.now in
    let before = g.S.Store.held c.args.store.now in
    let made = g.S.Store.held c.create_file.new.store in
    let now = g.S.Store.held c.write_all.new.store in
    ok_then c.write_all.result _ _ c.write_all.ensures.on
    (λ on. all_written c.args.name.now (file_bytes f) before now (on before [] (begun_written c.args.name.now before made c.in_ok-buffer.buffer.items c.in-Ok.ensures.emptied c.in_ok-buffer.ensures.items)))

pub returns-in-Ok-clause-part : goal.returns-in-Ok-clause-part
returns-in-Ok-clause-part g c =
    let f = c.args.profile.now in
    let before = g.S.Store.held c.args.store.now in
    let made = g.S.Store.held c.create_file.new.store in
    let now = g.S.Store.held c.write_all.new.store in
    err_then c.write_all.result _ _ c.write_all.ensures.stops
    (λ stops. front_part c.args.name.now before now (file_bytes f) (stops before [] (begun_written c.args.name.now before made c.in_ok-buffer.buffer.items c.in-Ok.ensures.emptied c.in_ok-buffer.ensures.items)))
