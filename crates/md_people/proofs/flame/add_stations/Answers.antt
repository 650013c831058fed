use Rattle.std.proofs.Common.{◌≡◌, ◌<◌, ℕ, List, ◌++◌, length, get_or, map, reverse, codes, sym, ap, ◌∙◌, arith}
use Rattle.std.proofs.lemmas.List.{get_or_read, length-map, length-reverse}
use Rattle.md_cost.proofs.ValidSteps.{valid_sound}
use Rattle.md_people.specs.Context.{stations}
use Rattle.md_people.specs.Depths.{path_up}
use Rattle.md_people.specs.Flame.{joined, name_at, shortened, station_names}
use Rattle.md_people.proofs.DepthSteps.{clique_below}
use Rattle.md_people.proofs.FlameSteps.{ends_told, few_names}
use Rattle.md_people.proofs.StationSteps.{stations_told}
use Rattle.md_people.proofs.flame.add_stations.Goals as goal

pub index-requires : goal.index-requires
index-requires c =
    let l = c.args.loaded.now in
    let sound = (valid_sound l.profile c.profile-profile.ensures.valid).links in
    let tree = c.profile-profile.ensures.loaded.tree in
    let below = clique_below l sound tree c.args.node c.requires.there in
    let is_clique = c.clique_of-clique.ensures.number in
    let each = c.requires.depths.each in
    let ok = c.args.depths.now.places.ok.0 in
    omega arith

pub returns-then-index-lt-MANY : goal.returns-then-index-lt-MANY
returns-then-index-lt-MANY c = λ v is.
    let l = c.args.loaded.now in
    let sound = (valid_sound l.profile c.profile-profile.ensures.valid).links in
    let tree = c.profile-profile.ensures.loaded.tree in
    let below = clique_below l sound tree c.args.node c.requires.there in
    let is_clique = c.clique_of-clique.ensures.number in
    let each = c.requires.depths.each in
    let place = get_or_read c.args.depths.now.places.items c.clique_of-clique.result c.index.result.now (omega arith) c.index.ensures 0 in
    let at : get_or c.args.depths.now.places.items c.clique_of-clique.result 0 ≡ get_or c.args.depths.now.places.items (get_or l.cliques c.args.node 0) 0 = ap (λ (k : ℕ). get_or c.args.depths.now.places.items k 0) is_clique in
    let long = c.requires.depths.are c.args.node c.requires.there below in
    let lt = c.if-index-lt-MANY.true in
    let are : stations v c.args.node ≡ reverse (path_up l c.args.node) = stations_told l.profile sound l.cliques l.entries tree v is c.args.node in
    let size : length (station_names v c.args.node) ≡ length (path_up l c.args.node) = length-map (stations v c.args.node) (name_at v) ∙ ap (λ (ds : List ℕ). length ds) are ∙ length-reverse (path_up l c.args.node) in
    c.in_ok-add_all.ensures v is ∙ ap (λ (ns : List (List ℕ)). c.args.out.now.items ++ joined ns) (sym (few_names (station_names v c.args.node) (omega arith)))

pub top_of-top-requires-clause-known : goal.top_of-top-requires-clause-known
top_of-top-requires-clause-known c =
    let l = c.args.loaded.now in
    let sound = (valid_sound l.profile c.profile-profile.ensures.valid).links in
    let tree = c.profile-profile.ensures.loaded.tree in
    let below = clique_below l sound tree c.args.node c.requires.there in
    let is_clique = c.clique_of-clique.ensures.number in
    let each = c.requires.depths.each in
    let count = c.clique_count-known.ensures.count in
    omega arith

pub add_ends-requires-clause-long : goal.add_ends-requires-clause-long
add_ends-requires-clause-long c =
    let l = c.args.loaded.now in
    let sound = (valid_sound l.profile c.profile-profile.ensures.valid).links in
    let tree = c.profile-profile.ensures.loaded.tree in
    let below = clique_below l sound tree c.args.node c.requires.there in
    let is_clique = c.clique_of-clique.ensures.number in
    let each = c.requires.depths.each in
    let place = get_or_read c.args.depths.now.places.items c.clique_of-clique.result c.index.result.now (omega arith) c.index.ensures 0 in
    let at : get_or c.args.depths.now.places.items c.clique_of-clique.result 0 ≡ get_or c.args.depths.now.places.items (get_or l.cliques c.args.node 0) 0 = ap (λ (k : ℕ). get_or c.args.depths.now.places.items k 0) is_clique in
    let long = c.requires.depths.are c.args.node c.requires.there below in
    let deep = c.if-index-lt-MANY.false in
    omega arith

pub returns : goal.returns
returns c = λ v is.
    let l = c.args.loaded.now in
    let sound = (valid_sound l.profile c.profile-profile.ensures.valid).links in
    let tree = c.profile-profile.ensures.loaded.tree in
    let below = clique_below l sound tree c.args.node c.requires.there in
    let is_clique = c.clique_of-clique.ensures.number in
    let each = c.requires.depths.each in
    let place = get_or_read c.args.depths.now.places.items c.clique_of-clique.result c.index.result.now (omega arith) c.index.ensures 0 in
    let at : get_or c.args.depths.now.places.items c.clique_of-clique.result 0 ≡ get_or c.args.depths.now.places.items (get_or l.cliques c.args.node 0) 0 = ap (λ (k : ℕ). get_or c.args.depths.now.places.items k 0) is_clique in
    let long = c.requires.depths.are c.args.node c.requires.there below in
    let deep = c.if-index-lt-MANY.false in
    let many : 200 < length (path_up l c.args.node) = omega arith in
    let told = c.in_ok-add_ends.ensures v is in
    let old = c.args.out.now.items in
    let top = c.top_of-top.result in
    told.2
    ∙ ap (λ (ds : List ℕ). old ++ (joined (map (name_at v) ds) ++ (codes ";..;" ++ joined (map (name_at v) told.0)))) (stations_told l.profile sound l.cliques l.entries tree v is top)
    ∙ ap (λ (w : List ℕ). old ++ w) (sym (ends_told l (name_at v) c.args.node top told.0 c.top_of-top.ensures told.1 many))
    ∙ ap (λ (ds : List ℕ). old ++ joined (shortened (map (name_at v) ds))) (sym (stations_told l.profile sound l.cliques l.entries tree v is c.args.node))
