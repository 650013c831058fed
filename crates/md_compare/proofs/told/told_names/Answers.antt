use Rattle.std.proofs.Common.{◌≡◌, ap, sym, ◌∙◌}
use Rattle.std.specs.List.{filter}
use Rattle.std.proofs.lemmas.List.Sorted.{All-permutation}
use Rattle.md_people.proofs.Views.{statics_are}
use Rattle.md_people.specs.Compare.{all_names, is_told}
use Rattle.md_compare.specs.Told.{IsToldOf}
use Rattle.md_compare.proofs.NameOrder.{by_costs, sorted_names}
use Rattle.md_compare.proofs.ToldSteps.{all_told, entries_are}
use Rattle.md_compare.proofs.told.told_names.Goals as goal

pub returns : goal.returns
returns c = record {
  names = λ v w is_v is_w.
      let by = c.args.by in
      let both = c.in_ok-both.both in
      let before = c.in_ok-told.told.items in
      let old = c.in_ok-both.ensures.old v is_v in
      let new = c.in_ok-both.ensures.new w is_w in
      let s = c.statics-old.result.now in
      let t = c.statics-new.result.now in
      let vs : v.statics ≡ s = statics_are c.args.old.now.profile v is_v ∙ sym (c.statics-old.ensures ∙ ap (λ f. f.statics) c.profile.ensures.profile) in
      let wt : w.statics ≡ t = statics_are c.args.new.now.profile w is_w ∙ sym (c.statics-new.ensures ∙ ap (λ f. f.statics) c.profile-2.ensures.profile) in
      let names = c.in_ok-told.ensures.names ∙ all_told v w by both old new c.args.margin (c.requires.whole v is_v) s t vs wt in
      let moved = c.sort_unstable.ensures.permutation in
      let each = All-permutation (IsToldOf v w by) before c.sort_unstable.new.self.items moved (entries_are v w by both old new before c.in_ok-told.ensures.each) in
      sorted_names v w by by_costs (filter (is_told v w by c.args.margin.least) (all_names v w)) before c.sort_unstable.new.self.items names each moved c.sort_unstable.ensures.sorted;
  each = λ v w is_v is_w.
      All-permutation (IsToldOf v w c.args.by) c.in_ok-told.told.items c.sort_unstable.new.self.items c.sort_unstable.ensures.permutation
      (entries_are v w c.args.by c.in_ok-both.both (c.in_ok-both.ensures.old v is_v) (c.in_ok-both.ensures.new w is_w) c.in_ok-told.told.items c.in_ok-told.ensures.each);
}
