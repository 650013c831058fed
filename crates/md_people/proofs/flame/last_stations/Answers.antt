use Rattle.std.proofs.Common.{◌≡◌, ◌+◌, ◌<◌, ℕ, List, [], ◌∷◌, ◌++◌, length, get_or, reverse, sym, ap, ◌∙◌, arith}
use Rattle.std.proofs.lemmas.List.{append_assoc, length-append, length-reverse, length_push, reverse-reverse}
use Rattle.std.proofs.lemmas.List.Elements.{All-push}
use Rattle.std.proofs.lemmas.List.Sorted.{All-permutation}
use Rattle.md_cost.proofs.ValidSteps.{valid_sound}
use Rattle.md_people.specs.Depths.{path_up, start_up}
use Rattle.md_people.proofs.DepthSteps.{clique_below, long_on, up_on, up_there}
use Rattle.md_people.proofs.flame.last_stations.Goals as goal

pub clique_of-requires : goal.clique_of-requires
clique_of-requires c = c.loop-place.invariant.there

pub entered_from-station-requires : goal.entered_from-station-requires
entered_from-station-requires c =
    let l = c.args.loaded.now in
    let f = l.profile in
    let sound = (valid_sound f c.profile-profile.ensures.valid).links in
    let tree = c.profile-profile.ensures.loaded.tree in
    let inv = c.loop-place.invariant in
    let d = c.loop-place.station in
    let there : d < length f.nodes = inv.there in
    let sum : length c.loop-place.last.items + length (path_up l d) ≡ length (path_up l c.args.node) = sym (length-append c.loop-place.last.items (path_up l d)) ∙ ap (λ (ds : List ℕ). length ds) inv.path in
    let size = inv.size in
    let below = clique_below l sound tree d there in
    let is = c.clique_of.ensures.number in
    omega arith

pub loop-place-preserved : goal.loop-place-preserved
loop-place-preserved c =
    let l = c.args.loaded.now in
    let f = l.profile in
    let sound = (valid_sound f c.profile-profile.ensures.valid).links in
    let tree = c.profile-profile.ensures.loaded.tree in
    let inv = c.loop-place.invariant in
    let d = c.loop-place.station in
    let there : d < length f.nodes = inv.there in
    let sum : length c.loop-place.last.items + length (path_up l d) ≡ length (path_up l c.args.node) = sym (length-append c.loop-place.last.items (path_up l d)) ∙ ap (λ (ds : List ℕ). length ds) inv.path in
    let size = inv.size in
    let long = c.requires.long in
    let lt = c.loop-place-test.true in
    let some = long_on l sound tree d (omega arith) in
    let below = clique_below l sound tree d there in
    let start : c.entered_from-station.result ≡ start_up l (get_or l.cliques d 0) = c.entered_from-station.ensures ∙ ap (λ (k : ℕ). start_up l k) c.clique_of.ensures.number in
    let pushed : c.push.new.self.items ≡ c.loop-place.last.items ++ d ∷ [] = c.in_ok-push.ensures.items ∙ ap (λ (e : ℕ). c.loop-place.last.items ++ e ∷ []) c.number.ensures in
    record {
      there = rw start (up_there l sound tree (get_or l.cliques d 0) some below);
      path = rw (start, pushed) (append_assoc c.loop-place.last.items (d ∷ []) (path_up l (start_up l (get_or l.cliques d 0)))
          ∙ ap (λ (ds : List ℕ). c.loop-place.last.items ++ ds) (sym (up_on l sound tree d there some)) ∙ inv.path);
      size = (let more = length_push c.loop-place.last.items d in rw pushed (omega arith));
      all = rw pushed (All-push (λ (e : ℕ). e < length f.nodes) c.loop-place.last.items d inv.all there);
    }

pub returns : goal.returns
returns c =
    let l = c.args.loaded.now in
    let inv = c.loop-place.invariant in
    let last = c.loop-place.last.items in
    let size = inv.size in
    let most = c.loop-place.auto._place-end in
    let past = c.loop-place-test.false in
    let turned = length-reverse last in
    let long : length c.reverse.new.self.items ≡ length (reverse last) = ap (λ (ds : List ℕ). length ds) c.reverse.ensures.items in
    record {
      last = record {
        above = c.loop-place.station;
        is = sym inv.path ∙ ap (λ (ds : List ℕ). ds ++ path_up l c.loop-place.station) (sym (reverse-reverse last) ∙ ap (λ (ds : List ℕ). reverse ds) (sym c.reverse.ensures.items));
        size = omega arith;
      };
      there = All-permutation (λ (e : ℕ). e < length l.profile.nodes) last c.reverse.new.self.items c.reverse.ensures.permutation inv.all;
    }
