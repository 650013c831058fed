use Rattle.std.proofs.Common.{◌≡◌, ◌<◌, ◌≤◌, ℕ, List, ◌++◌, length, get_or, map, Option, Some, None, IfSome, refl, sym, ap, ◌∙◌, arith}
use Rattle.std.specs.Prelude.{All}
use Rattle.std.specs.List.{flat_map, range_with_len}
use Rattle.std.proofs.lemmas.List.{append-nil, get_or_read}
use Rattle.std.proofs.lemmas.List.Elements.{All-map}
use Rattle.md_trace.specs.Context.{same_option}
use Rattle.md_static.specs.Tables.{Static}
use Rattle.md_clique.specs.Places.{places}
use Rattle.md_cost.proofs.TreeSteps.{callees_there}
use Rattle.md_cost.proofs.ValidSteps.{valid_sound}
use Rattle.md_people.specs.Callers.{callee_rows_at, links_to, row_if_any}
use Rattle.md_people.specs.declared.gathered.Gathered.{Gathered}
use Rattle.md_people.specs.Gathered.{callee_slot, gathered_of, row_of}
use Rattle.md_people.specs.Words.{called_words}
use Rattle.md_people.proofs.GatheredSteps.{row_told}
use Rattle.md_people.proofs.Slots.{caller_more, callee_below, callee_links}
use Rattle.md_people.proofs.Views.{statics_are}
use Rattle.md_people.proofs.called.push_callees.Goals as goal

pub gathered_by-requires : goal.gathered_by-requires
gathered_by-requires c =
    let f = c.args.loaded.now.profile in
    let valid = c.profile.ensures.valid in
    let g = callee_slot f c.args.site in
    let P : Option ℕ → Type 0 = λ s. IfSome s (λ k. k < length f.statics.procs) in
    let all : All P (map g f.links) = All-map P g f.links (λ k d lt.
    callee_below f c.args.site (length f.statics.procs) (get_or f.links k d) (valid.rows.nodes_there (get_or f.links k d).callee 0 (callees_there (length f.nodes) f.links (valid_sound f valid).links k d lt))) in
    rw (c.new.ensures, c.procs-procs.ensures, c.statics-statics.ensures, c.profile.ensures.profile) all

pub push_callee-requires : goal.push_callee-requires
push_callee-requires c =
    let r = c.loop-proc.proc in
    let lt = c.loop-proc-test.true in
    let each = c.in_ok-found.ensures.each in
    let at = get_or_read c.in_ok-found.found.items r c.index.result.now (omega arith) c.index.ensures None in
    rw at (c.in_ok-found.ensures.small r)

pub loop-proc-init : goal.loop-proc-init
loop-proc-init c = λ v is. sym (append-nil c.args.rows.now.items)

pub loop-proc-preserved : goal.loop-proc-preserved
loop-proc-preserved c = λ v is.
    let f = c.args.loaded.now.profile in
    let g = callee_slot f c.args.site in
    let by = c.args.by in
    let s = c.args.site in
    let r = c.loop-proc.proc in
    let lt = c.loop-proc-test.true in
    let each = c.in_ok-found.ensures.each in
    let at = get_or_read c.in_ok-found.found.items r c.index.result.now (omega arith) c.index.ensures None in
    let sum : c.index.result.now ≡ gathered_of v by (links_to v r (Some s)) =
    at ∙ c.in_ok-found.ensures.sums v r is lt
    ∙ ap (λ (x : ℕ). gathered_of v by (places (same_option (Some r)) (map (callee_slot f x) f.links))) c.new.ensures
    ∙ ap (λ (ls : List ℕ). gathered_of v by ls) (callee_links f v is s r) in
    let tables : c.statics-statics.result.now ≡ v.statics = c.statics-statics.ensures ∙ (rw c.profile.ensures.profile (sym (statics_are f v is))) in
    let words = called_words c.statics-statics.result.now s r in
    caller_more (callee_rows_at v by s) c.args.rows.now.items c.loop-proc.rows.items c.push_callee.new.rows.items (row_of c.index.result.now words) r
    (c.loop-proc.invariant v is) c.in_ok-push_callee.ensures
    (ap (λ (o : Option Gathered). row_of o words) sum ∙ row_told v by (links_to v r (Some s)) words
    ∙ ap (λ (t : Static). row_if_any v by (links_to v r (Some s)) (called_words t s r)) tables)

pub returns : goal.returns
returns c = λ v is.
    let f = c.args.loaded.now.profile in
    let last : c.loop-proc.proc ≤ length c.procs-procs.result.now = c.loop-proc.auto.proc-end in
    let past = c.loop-proc-test.false in
    let size : length c.procs-procs.result.now ≡ length f.statics.procs = rw (c.procs-procs.ensures, c.statics-statics.ensures, c.profile.ensures.profile) refl in
    let end : c.loop-proc.proc ≡ length f.statics.procs = omega arith in
    c.loop-proc.invariant v is
    ∙ ap (λ (n : ℕ). c.args.rows.now.items ++ flat_map (callee_rows_at v c.args.by c.args.site) (range_with_len 0 n)) (end ∙ ap (λ (t : Static). length t.procs) (sym (statics_are f v is)))
