use Rattle.std.proofs.Common.{arith, ◌≡◌, ◌∙◌, ap, subst, ℕ, [], ◌∷◌, length, length-append, ◌+◌, ◌<◌, ◌^◌, IfSome, List}
use Rattle.std.proofs.lemmas.List.Elements.{All-push, All-same}
use Rattle.md_static.specs.declared.entry.Site.{Site}
use Rattle.md_static.specs.Tables.{Static}
use Rattle.md_dynamic.specs.Profile.{ProfileRows}
use Rattle.md_feedback.specs.Search.{AreHeavy, TellsHeavy}
use Rattle.md_feedback.proofs.Parts.{heavy_more}
use Rattle.md_feedback.proofs.heavy.heavy_sites.Goals as goal

pub loop-site-preserved : goal.loop-site-preserved
loop-site-preserved c =
    let one = c.heavy_calls.result in
    let is = c.in_ok-push.ensures.items in (
      λ v viewed. heavy_more v c.args.least c.loop-site.site c.loop-site.heavy.items c.push.new.self.items one (c.loop-site.invariant.0 v viewed)
          (subst (λ (n : ℕ). TellsHeavy v c.args.least n one) c.new.ensures (c.heavy_calls.ensures.heavy v viewed)) is,
      All-same (λ t. IfSome t (λ n. n < 2 ^ 64)) c.push.new.self.items _ is (All-push (λ t. IfSome t (λ n. n < 2 ^ 64)) c.loop-site.heavy.items one c.loop-site.invariant.1 c.heavy_calls.ensures.small),
      ap length is ∙ (length-append c.loop-site.heavy.items (one ∷ []) ∙ ap (λ n. n + 1) c.loop-site.invariant.2),
    )

pub returns-clause-heavy : goal.returns-clause-heavy
returns-clause-heavy c v viewed =
    let sites : length c.sites-count.result.now ≡ length c.args.loaded.now.profile.statics.sites
    = ap (λ (xs : List Site). length xs) c.sites-count.ensures ∙ (ap (λ (s : Static). length s.sites) c.statics.ensures ∙ ap (λ (p : ProfileRows). length p.statics.sites) c.profile.ensures.profile) in
    let all : c.loop-site.site ≡ length c.args.loaded.now.profile.statics.sites = omega (arith, sites) in
    subst (λ (n : ℕ). AreHeavy v c.args.least n c.loop-site.heavy.items) all (c.loop-site.invariant.0 v viewed)
