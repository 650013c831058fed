use Rattle.std.proofs.Common.{◌≡◌, ◌<◌, ℕ, List, [], ◌∷◌, ◌++◌, length, get_or, reverse, ap, sym, ◌∙◌, arith}
use Rattle.std.specs.Prelude.{All}
use Rattle.std.proofs.lemmas.List.Elements.{All-push}
use Rattle.std.proofs.lemmas.List.Sorted.{All-permutation}
use Rattle.md_clique.proofs.Naming.{lt_clique_count}
use Rattle.md_cost.specs.Paths.{path_of, start_of}
use Rattle.md_cost.proofs.ValidSteps.{valid_sound}
use Rattle.md_people.proofs.StationSteps.{path_end, start_there, start_lower, station_more, stations_told}
use Rattle.md_people.proofs.station.stations_of.Goals as goal

pub loop-stations-preserved : goal.loop-stations-preserved
loop-stations-preserved c =
    let f = c.args.loaded.now.profile in
    let cliques = c.args.loaded.now.cliques in
    let entries = c.args.loaded.now.entries in
    let sound = (valid_sound f c.profile-profile.ensures.valid).links in
    let tree = c.profile-profile.ensures.loaded.tree in
    let d = c.loop-stations.station in
    let size : length cliques ≡ length f.nodes = tree.cliques_are.each in
    let there : d < length f.nodes = c.loop-stations.invariant.there in
    let below = lt_clique_count cliques d (omega arith) in
    let is : c.clique_of.result ≡ get_or cliques d 0 = c.clique_of.ensures.number in
    let apart = c.loop-stations-test.true in
    let some : 0 < get_or cliques d 0 = omega arith in
    let next : c.entered_from-station.result ≡ start_of f.links entries (get_or cliques d 0) = c.entered_from-station.ensures ∙ ap (λ (k : ℕ). start_of f.links entries k) c.clique_of-in-loop-stations.ensures.number in
    let start = start_there f sound cliques entries tree (get_or cliques d 0) some below in
    let pushed : c.push.new.self.items ≡ c.loop-stations.stations.items ++ d ∷ [] = c.in_ok-push.ensures.items ∙ ap (λ (e : ℕ). c.loop-stations.stations.items ++ e ∷ []) c.number.ensures in
    record {
      there = rw next (omega arith);
      path = rw (next, pushed) (station_more f sound cliques entries tree c.loop-stations.stations.items (path_of cliques entries f.links c.args.node) d (omega arith) some c.loop-stations.invariant.path);
      all = rw pushed (All-push (λ (e : ℕ). e < length f.nodes) c.loop-stations.stations.items d c.loop-stations.invariant.all there);
    }

pub loop-stations-smaller : goal.loop-stations-smaller
loop-stations-smaller c =
    let f = c.args.loaded.now.profile in
    let cliques = c.args.loaded.now.cliques in
    let entries = c.args.loaded.now.entries in
    let sound = (valid_sound f c.profile-profile.ensures.valid).links in
    let tree = c.profile-profile.ensures.loaded.tree in
    let d = c.loop-stations.station in
    let size : length cliques ≡ length f.nodes = tree.cliques_are.each in
    let there : d < length f.nodes = c.loop-stations.invariant.there in
    let below = lt_clique_count cliques d (omega arith) in
    let is : c.clique_of.result ≡ get_or cliques d 0 = c.clique_of.ensures.number in
    let apart = c.loop-stations-test.true in
    let some : 0 < get_or cliques d 0 = omega arith in
    let next : c.entered_from-station.result ≡ start_of f.links entries (get_or cliques d 0) = c.entered_from-station.ensures ∙ ap (λ (k : ℕ). start_of f.links entries k) c.clique_of-in-loop-stations.ensures.number in
    rw next (start_lower f sound cliques entries tree (get_or cliques d 0) some below)

pub entered_from-station-requires : goal.entered_from-station-requires
entered_from-station-requires c =
    let tree = c.profile-profile.ensures.loaded.tree in
    let size : length c.args.loaded.now.cliques ≡ length c.args.loaded.now.profile.nodes = tree.cliques_are.each in
    let there = c.loop-stations.invariant.there in
    let below = lt_clique_count c.args.loaded.now.cliques c.loop-stations.station (omega arith) in
    let is = c.clique_of-in-loop-stations.ensures.number in
    omega arith

pub returns : goal.returns
returns c =
    let f = c.args.loaded.now.profile in
    let cliques = c.args.loaded.now.cliques in
    let entries = c.args.loaded.now.entries in
    let sound = (valid_sound f c.profile-profile.ensures.valid).links in
    let tree = c.profile-profile.ensures.loaded.tree in
    let d = c.loop-stations.station in
    let none : get_or cliques d 0 ≡ 0 = sym c.clique_of.ensures.number ∙ c.loop-stations-test.false in
    let pushed : c.push-2.new.self.items ≡ c.loop-stations.stations.items ++ d ∷ [] = c.in_ok-push-2.ensures.items ∙ ap (λ (e : ℕ). c.loop-stations.stations.items ++ e ∷ []) c.number-2.ensures in
    let all : All (λ (e : ℕ). e < length f.nodes) c.push-2.new.self.items = rw pushed (All-push (λ (e : ℕ). e < length f.nodes) c.loop-stations.stations.items d c.loop-stations.invariant.all c.loop-stations.invariant.there) in
    record {
      stations = λ v is.
          c.reverse.ensures.items
          ∙ ap (λ (ds : List ℕ). reverse ds) (pushed ∙ ap (λ (ds : List ℕ). c.loop-stations.stations.items ++ ds) (sym (path_end f sound cliques entries tree d none)) ∙ c.loop-stations.invariant.path)
          ∙ sym (stations_told f sound cliques entries tree v is c.args.node);
      there = All-permutation (λ (e : ℕ). e < length f.nodes) c.push-2.new.self.items c.reverse.new.self.items c.reverse.ensures.permutation all;
    }
