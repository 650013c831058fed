use Rattle.std.proofs.Common.{◌≡◌, ◌+◌, ◌<◌, ℕ, List, ◌++◌, length, get_or, map, Option, Some, None, IfSome, codes, refl, sym, ap, ◌∙◌, arith}
use Rattle.std.specs.Prelude.{All}
use Rattle.std.specs.List.{flat_map, range_with_len}
use Rattle.std.proofs.lemmas.List.{append-nil, get_or_read}
use Rattle.std.proofs.lemmas.List.Elements.{All-map}
use Rattle.md_trace.specs.Context.{same_option}
use Rattle.md_static.specs.Tables.{Static}
use Rattle.md_clique.specs.Places.{places}
use Rattle.md_cost.proofs.ValidSteps.{all_sites_there}
use Rattle.md_people.specs.Callers.{caller_rows_at, links_to, row_if_any}
use Rattle.md_people.specs.declared.gathered.Gathered.{Gathered}
use Rattle.md_people.specs.Gathered.{caller_slot, gathered_of, row_of}
use Rattle.md_people.specs.Ports.{PortsRow}
use Rattle.md_people.specs.Words.{caller_words}
use Rattle.md_people.proofs.GatheredSteps.{row_told}
use Rattle.md_people.proofs.Slots.{caller_more, root_links, site_links, slot_below}
use Rattle.md_people.proofs.Views.{statics_are}
use Rattle.md_people.proofs.caller.caller_rows.Goals as goal

pub gathered_by-requires : goal.gathered_by-requires
gathered_by-requires c =
    let f = c.args.loaded.now.profile in
    let g = caller_slot f c.args.id in
    let P : Option ℕ → Type 0 = λ s. IfSome s (λ k. k < length f.statics.sites + 1) in
    let all : All P (map g f.links) = All-map P g f.links (λ k d lt. slot_below f c.args.id (get_or f.links k d) (all_sites_there f c.profile.ensures.valid k d lt)) in
    rw (c.sites-sites.ensures, c.statics-statics.ensures, c.profile.ensures.profile) all

pub push_root-requires : goal.push_root-requires
push_root-requires c =
    let n = length c.sites-sites.result.now in
    let each = c.in_ok-found.ensures.each in
    let at = get_or_read c.in_ok-found.found.items n c.index.result.now (omega arith) c.index.ensures None in
    rw at (c.in_ok-found.ensures.small n)

pub push_caller-requires : goal.push_caller-requires
push_caller-requires c =
    let s = c.loop-site.site in
    let lt = c.loop-site-test.true in
    let each = c.in_ok-found.ensures.each in
    let at = get_or_read c.in_ok-found.found.items s c.index-in-loop-site.result.now (omega arith) c.index-in-loop-site.ensures None in
    rw at (c.in_ok-found.ensures.small s)

pub loop-site-init : goal.loop-site-init
loop-site-init c = λ v is.
    let f = c.args.loaded.now.profile in
    let g = caller_slot f c.args.id in
    let by = c.args.by in
    let q = c.args.id in
    let n = length c.sites-sites.result.now in
    let each = c.in_ok-found.ensures.each in
    let size : n ≡ length f.statics.sites = rw (c.sites-sites.ensures, c.statics-statics.ensures, c.profile.ensures.profile) refl in
    let at = get_or_read c.in_ok-found.found.items n c.index.result.now (omega arith) c.index.ensures None in
    let sum : c.index.result.now ≡ gathered_of v by (links_to v q None) =
    at ∙ c.in_ok-found.ensures.sums v n is (omega arith)
    ∙ ap (λ (k : ℕ). gathered_of v by (places (same_option (Some k)) (map g f.links))) size
    ∙ ap (λ (ls : List ℕ). gathered_of v by ls) (root_links f (all_sites_there f c.profile.ensures.valid) v is by q) in
    c.in_ok-push_root.ensures ∙ ap (λ (rs : List PortsRow). rs ++ row_of c.index.result.now (codes "root")) c.new-rows.ensures.items
    ∙ ap (λ (o : Option Gathered). row_of o (codes "root")) sum ∙ row_told v by (links_to v q None) (codes "root")
    ∙ sym (append-nil (row_if_any v by (links_to v q None) (codes "root")))

pub loop-site-preserved : goal.loop-site-preserved
loop-site-preserved c = λ v is.
    let f = c.args.loaded.now.profile in
    let g = caller_slot f c.args.id in
    let by = c.args.by in
    let q = c.args.id in
    let s = c.loop-site.site in
    let lt = c.loop-site-test.true in
    let each = c.in_ok-found.ensures.each in
    let size : length c.sites-sites.result.now ≡ length f.statics.sites = rw (c.sites-sites.ensures, c.statics-statics.ensures, c.profile.ensures.profile) refl in
    let at = get_or_read c.in_ok-found.found.items s c.index-in-loop-site.result.now (omega arith) c.index-in-loop-site.ensures None in
    let sum : c.index-in-loop-site.result.now ≡ gathered_of v by (links_to v q (Some s)) =
    at ∙ c.in_ok-found.ensures.sums v s is (omega arith)
    ∙ ap (λ (ls : List ℕ). gathered_of v by ls) (site_links f (all_sites_there f c.profile.ensures.valid) v is by q s (omega arith)) in
    let tables : c.statics-statics.result.now ≡ v.statics = c.statics-statics.ensures ∙ (rw c.profile.ensures.profile (sym (statics_are f v is))) in
    let words = caller_words c.statics-statics.result.now s in
    caller_more (caller_rows_at v by q) (row_if_any v by (links_to v q None) (codes "root")) c.loop-site.rows.items c.push_caller.new.rows.items (row_of c.index-in-loop-site.result.now words) s
    (c.loop-site.invariant v is) c.in_ok-push_caller.ensures
    (ap (λ (o : Option Gathered). row_of o words) sum ∙ row_told v by (links_to v q (Some s)) words
    ∙ ap (λ (t : Static). row_if_any v by (links_to v q (Some s)) (caller_words t s)) tables)

pub returns : goal.returns
returns c = λ v is.
    let f = c.args.loaded.now.profile in
    let by = c.args.by in
    let q = c.args.id in
    let last = c.loop-site.auto.site-end in
    let past = c.loop-site-test.false in
    let size : length c.sites-sites.result.now ≡ length f.statics.sites = rw (c.sites-sites.ensures, c.statics-statics.ensures, c.profile.ensures.profile) refl in
    let end : c.loop-site.site ≡ length f.statics.sites = omega arith in
    c.loop-site.invariant v is
    ∙ ap (λ (n : ℕ). row_if_any v by (links_to v q None) (codes "root") ++ flat_map (caller_rows_at v by q) (range_with_len 0 n)) (end ∙ ap (λ (t : Static). length t.sites) (sym (statics_are f v is)))
