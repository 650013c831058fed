use Rattle.std.proofs.Common.{◌≡◌, ℕ, List, ◌++◌, Option, sym, ap, ◌∙◌}
use Rattle.md_static.specs.Tables.{Static}
use Rattle.md_people.specs.declared.gathered.Gathered.{Gathered}
use Rattle.md_people.specs.Gathered.{links_at, row_of}
use Rattle.md_people.specs.Ports.{PortsRow}
use Rattle.md_people.specs.Callers.{row_if_any}
use Rattle.md_people.specs.Words.{called_words}
use Rattle.md_people.proofs.GatheredSteps.{row_told}
use Rattle.md_people.proofs.PlainSites.{callee_at}
use Rattle.md_people.proofs.Views.{statics_are}
use Rattle.md_people.proofs.called.push_site.Goals as goal

pub returns-in_ok-push_callee-in-Plain : goal.returns-in_ok-push_callee-in-Plain
returns-in_ok-push_callee-in-Plain c = λ v is.
    let f = c.args.loaded.now.profile in
    let valid = c.profile.ensures.valid in
    let s = c.args.site in
    let r = c.in-Plain.callee in
    let by = c.args.by in
    let kind = rw (c.sites.ensures, c.statics-statics.ensures, c.profile.ensures.profile) at c.in-Plain.is in
    let tables : c.statics-statics.result.now ≡ v.statics = c.statics-statics.ensures ∙ (rw c.profile.ensures.profile (sym (statics_are f v is))) in
    let words : called_words c.statics-statics.result.now s c.number.result ≡ called_words v.statics s r = ap (λ (t : Static). called_words t s c.number.result) tables ∙ ap (λ (q : ℕ). called_words v.statics s q) c.number.ensures in
    c.in_ok-push_callee-in-Plain.ensures
    ∙ ap (λ (rs : List PortsRow). c.args.rows.now.items ++ rs) (
    ap (λ (o : Option Gathered). row_of o (called_words c.statics-statics.result.now s c.number.result)) (c.requires.sum v is)
    ∙ row_told v by (links_at v s) (called_words c.statics-statics.result.now s c.number.result)
    ∙ ap (λ (w : List ℕ). row_if_any v by (links_at v s) w) words
    ∙ sym (callee_at f valid v is by s r _ c.requires.there kind))
