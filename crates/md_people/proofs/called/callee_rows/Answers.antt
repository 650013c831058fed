use Rattle.std.proofs.Common.{arith, ◌<◌, IfSome, None, Option, map, ◌≡◌, ℕ, Bool, true, false, eqb, cond, List, [], ◌++◌, length, take, sym, ap, ◌∙◌}
use Rattle.std.specs.List.{flat_map, range_with_len}
use Rattle.std.proofs.lemmas.Bool.{eq-eqb, ne_eqb}
use Rattle.std.proofs.lemmas.List.{append-nil, take_all}
use Rattle.md_static.specs.declared.entry.Site.{Site}
use Rattle.md_static.specs.Tables.{Static}
use Rattle.md_clique.specs.Places.{places}
use Rattle.md_dynamic.specs.declared.link.LinkRow.{LinkRow}
use Rattle.md_cost.proofs.ValidSteps.{all_sites_there}
use Rattle.std.proofs.lemmas.List.Elements.{All-map}
use Rattle.std.proofs.lemmas.List.{get_or_read}
use Rattle.std.specs.Prelude.{All}
use Rattle.md_people.specs.Gathered.{gathered_of}
use Rattle.md_people.proofs.PlainSites.{site_places}
use Rattle.md_people.specs.Callers.{callee_rows_at}
use Rattle.md_people.specs.Ports.{PortsRow}
use Rattle.md_people.proofs.Slots.{placed_rows}
use Rattle.md_people.proofs.Views.{statics_are}
use Rattle.md_people.proofs.called.callee_rows.Goals as goal
use Rattle.md_people.proofs.called.callee_rows.Goals.{then-number+in_ok-push_site, else-number}

pub loop-site-preserved : goal.loop-site-preserved
loop-site-preserved c = λ v is.
    let sites = c.sites-sites.result.now in
    let i = c.loop-site.site in
    let x = c.index-sites-site.result in
    let g : ℕ → List PortsRow = λ s. flat_map (callee_rows_at v c.args.by s) (range_with_len 0 (length v.statics.procs)) in
    let p : Site → Bool = λ y. eqb y.owner c.args.id in
    let own : x.owner ≡ c.number.result = ap (λ (y : Site). y.owner) c.index-sites-site.is ∙ sym c.number.ensures in
    let more = placed_rows g p sites i x c.loop-site-test.true c.index-sites-site.is in
    elim c.if-number.branch [
      | then-number+in_ok-push_site w ↦ (
          let its : p x ≡ true = eq-eqb x.owner c.args.id (own ∙ w.if-number.true ∙ c.number-in-loop-site.ensures) in
          rw w.rows-is (w.in_ok-push_site.ensures v is ∙ ap (λ (rs : List PortsRow). rs ++ g i) (c.loop-site.invariant v is)
          ∙ sym (more ∙ ap (λ (b : Bool). flat_map g (places p (take i sites)) ++ cond b (g i) []) its)))
      | else-number w ↦ (
          let other : p x ≡ false = ne_eqb x.owner c.args.id (λ e. w.if-number.false (sym own ∙ e ∙ sym c.number-in-loop-site.ensures)) in
          rw w.rows-is (c.loop-site.invariant v is ∙ sym (append-nil (flat_map g (places p (take i sites))))
          ∙ sym (more ∙ ap (λ (b : Bool). flat_map g (places p (take i sites)) ++ cond b (g i) []) other)))
    ]

pub returns : goal.returns
returns c = λ v is.
    let sites = c.sites-sites.result.now in
    let g : ℕ → List PortsRow = λ s. flat_map (callee_rows_at v c.args.by s) (range_with_len 0 (length v.statics.procs)) in
    let p : Site → Bool = λ y. eqb y.owner c.args.id in
    let are : sites ≡ v.statics.sites = c.sites-sites.ensures ∙ (rw (c.statics.ensures, c.profile.ensures.profile) (ap (λ (t : Static). t.sites) (sym (statics_are c.args.loaded.now.profile v is)))) in
    c.loop-site.invariant v is ∙ ap (λ (xs : List Site). flat_map g (places p xs)) (take_all c.loop-site.site sites c.loop-site-test.false ∙ are)

pub gathered_by-requires : goal.gathered_by-requires
gathered_by-requires c =
    let f = c.args.loaded.now.profile in
    let g : LinkRow → Option ℕ = λ y. y.site in
    let P : Option ℕ → Type 0 = λ s. IfSome s (λ k. k < length f.statics.sites) in
    let all : All P (map g f.links) = All-map P g f.links (all_sites_there f c.profile.ensures.valid) in
    rw (c.sites-sites.ensures, c.statics.ensures, c.profile.ensures.profile) all

pub push_site-requires-clause-sum : goal.push_site-requires-clause-sum
push_site-requires-clause-sum c = λ v is.
    let f = c.args.loaded.now.profile in
    let g : LinkRow → Option ℕ = λ y. y.site in
    let s = c.loop-site.site in
    let lt = c.loop-site-test.true in
    let each = c.in_ok-found.ensures.each in
    let at = get_or_read c.in_ok-found.found.items s c.index.result.now (omega arith) c.index.ensures None in
    at ∙ c.in_ok-found.ensures.sums v s is lt
    ∙ ap (λ (ls : List ℕ). gathered_of v c.args.by ls) (site_places f v is s)
