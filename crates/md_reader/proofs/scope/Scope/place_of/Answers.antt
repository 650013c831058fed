use Rattle.std.proofs.Common.{◌≡◌, ◌∙◌, sym}
use Rattle.md_reader.specs.Input.{place_of}
use Rattle.md_reader.proofs.Words.{words, found_place, no_place}
use Rattle.md_reader.proofs.scope.Scope.place_of.Goals as goal

pub returns-in-Some : goal.returns-in-Some
returns-in-Some c =
    let place : c.in-Some.place ≡ place_of c.args.name.now (words c.self.inside.names.keys) = found_place c.args.name.now c.self.inside.names.keys c.in-Some.place (sym c.in-Some.ensures.index) in
    let view = c.self.view_is in
    record { place = cc }

pub returns-in-None : goal.returns-in-None
returns-in-None c =
    let place : c.len.result ≡ place_of c.args.name.now (words c.self.inside.names.keys) = c.len.ensures.len ∙ no_place c.args.name.now c.self.inside.names.keys (sym c.in-None.ensures.index) in
    let view = c.self.view_is in
    record { place = cc }
