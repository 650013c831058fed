use Rattle.std.proofs.Common.{◌≡◌, ◌<◌, ℕ, List, ◌++◌, length, get_or, map, sym, ap, ◌∙◌}
use Rattle.std.proofs.lemmas.List.{get_or_default, take_all}
use Rattle.md_static.specs.Tables.{Static}
use Rattle.md_cost.specs.View.{View}
use Rattle.md_people.specs.Flame.{between, joined, name_at}
use Rattle.md_people.specs.Words.{full_name, proc_at}
use Rattle.md_people.proofs.FlameSteps.{names_more}
use Rattle.md_people.proofs.Views.{statics_are}
use Rattle.md_people.proofs.flame.add_names.Goals as goal

pub loop-place-preserved : goal.loop-place-preserved
loop-place-preserved c = λ v is.
    let f = c.args.loaded.now.profile in
    let nodes = c.args.nodes.now in
    let i = c.loop-place.place in
    let d = get_or nodes i 0 in
    let there : d < length f.nodes = c.requires.there i 0 c.loop-place-test.true in
    let own : c.index-nodes-nodes.result ≡ get_or f.nodes d c.index-nodes-nodes.result = rw (c.nodes.ensures, c.profile-profile.ensures.profile) at c.index-nodes-nodes.is in
    let proc : c.number.result ≡ proc_at v d = c.number.ensures ∙ own ∙ get_or_default f.nodes d c.index-nodes-nodes.result 0 there ∙ sym (ap (λ (w : View). get_or w.nodes d 0) is.is) in
    let tables : c.args.names.now.statics.now ≡ v.statics = c.requires.names ∙ sym (statics_are f v is) in
    let name : c.get.result.now ≡ name_at v d = c.get.ensures ∙ (ap (λ (q : ℕ). full_name c.args.names.now.statics.now q) proc ∙ ap (λ (t : Static). full_name t (proc_at v d)) tables) in
    c.in_ok-add.ensures ∙ ap (λ (w : List ℕ). w ++ c.get.result.now) c.in_ok-add_between.ensures
    ∙ ap (λ (w : List ℕ). (c.loop-place.out.items ++ between i) ++ w) name
    ∙ names_more (name_at v) nodes i 0 c.args.out.now.items c.loop-place.out.items c.loop-place-test.true (c.loop-place.invariant v is)

pub returns : goal.returns
returns c = λ v is. c.loop-place.invariant v is ∙ ap (λ (ds : List ℕ). c.args.out.now.items ++ joined (map (name_at v) ds)) (take_all c.loop-place.place c.args.nodes.now c.loop-place-test.false)
