-- The sums of a kind of rows are those of every view of the profile.
use Rattle.std.proofs.Common.{◌≡◌, ℕ, ◌<◌, ◌^◌, List, length, get_or, Option, Some, sym, ap, ◌∙◌, arith}
use Rattle.std.specs.List.{slice_get}
use Rattle.md_base.specs.declared.measure.Measure.{Measure}
use Rattle.md_trace.specs.Context.{same_option}
use Rattle.md_dynamic.specs.declared.link.LinkRow.{LinkRow}
use Rattle.md_dynamic.specs.Profile.{ProfileRows}
use Rattle.md_dynamic.specs.Valid.{IsValid}
use Rattle.md_cost.specs.declared.sums.Sums.{Sums}
use Rattle.md_cost.specs.SumOf.{sum_of, zero_sums}
use Rattle.md_cost.specs.Totals.{context_own, sum_where, path_total}
use Rattle.md_cost.specs.Climbing.{AreSmall, AreTotals, member_sum}
use Rattle.md_cost.specs.Keys.{AreOwnBy, AreTotalsBy}
use Rattle.md_cost.specs.Tree.{IsTree}
use Rattle.md_cost.specs.Paths.{EntriesRise, start_of}
use Rattle.md_cost.specs.Sound.{AreSound}
use Rattle.md_cost.specs.View.{Row, View, OfContext, OfClique}
use Rattle.md_cost.specs.FileView.{Gives, IsFileView, file_own, total_by}
use Rattle.md_cost.proofs.ClimbSteps.{entries_rise, start_there}
use Rattle.md_cost.proofs.MemberSteps.{members_climbed, members_room}
use Rattle.md_cost.proofs.TreeSteps.{rises}
use Rattle.md_cost.proofs.ValidSteps.{valid_sound}
use Rattle.md_cost.proofs.ViewSteps.{callee_there, view_own, view_total}

module _ (f : ProfileRows) (valid : IsValid f) (cliques found : List ℕ) (tree : IsTree (length f.nodes) f.links cliques found) where
  pub gives_own : (row : ℕ → Row) (key : LinkRow → Option ℕ) (count : ℕ) → ((q : ℕ) (m : Measure) → file_own f (row q) m ≡ Some (sum_where (λ r. same_option (Some q) (key r)) m f.links))
      → (sums : List Sums) → AreOwnBy key f.links count sums → Gives f (λ v. v.own) row count sums
  gives_own row key count row_is sums own = record {
    each = own.each;
    is = λ v q m is lt. view_own f (valid_sound f valid).links cliques found tree v is (row q) m ∙ row_is q m ∙ ap (λ (s : ℕ). Some s) (sym (own.is q m lt));
  }

  pub gives_totals : (row : ℕ → Row) (key : ℕ → Option ℕ) (count : ℕ) → ((q : ℕ) (m : Measure) → total_by (path_total cliques found f.links) f cliques found (row q) m ≡ Some (path_total cliques found f.links (λ d. same_option (Some q) (key d)) m))
      → (sums : List Sums) → AreTotalsBy cliques found f.links key count sums → Gives f (λ v. v.total) row count sums
  gives_totals row key count row_is sums totals = record {
    each = totals.each;
    is = λ v q m is lt. view_total f (valid_sound f valid).links cliques found tree v is (row q) m ∙ row_is q m ∙ ap (λ (s : ℕ). Some s) (sym (totals.is q m lt));
  }

  pub own_of_context : (v : View) → IsFileView f v → (c : ℕ) (m : Measure) → v.own (OfContext c) m ≡ Some (context_own f.links c m)
  own_of_context v is c m = view_own f (valid_sound f valid).links cliques found tree v is (OfContext c) m

  pub total_of_context : (nodes : List Sums) → AreTotals cliques found f.links nodes → (v : View) → IsFileView f v → (c : ℕ) (m : Measure) → c < length f.nodes → v.total (OfContext c) m ≡ Some (sum_of (get_or nodes c zero_sums) m)
  total_of_context nodes totals v is c m lt =
      let size = tree.cliques_are.each in
      view_total f (valid_sound f valid).links cliques found tree v is (OfContext c) m ∙ ap (λ (x : ℕ). Some x) (sym (totals.of_node c m (omega arith)))

  -- the totals of a clique's contexts make that of the clique
  module _ (nodes : List Sums) (totals : AreTotals cliques found f.links nodes) where
    sound : AreSound (length f.nodes) f.links
    sound = (valid_sound f valid).links

    rising : EntriesRise cliques found f.links
    rising = rises (length f.nodes) f.links sound cliques found tree.cliques_are tree.entries_are

    ending : (i : ℕ) (r : LinkRow) → slice_get f.links i ≡ Some r → r.callee < length cliques
    ending i r at = callee_there f sound cliques found tree i r at

    pub room_of_clique : AreSmall f.links → (k : ℕ) (m : Measure) → member_sum cliques nodes k m < 2 ^ 64
    room_of_clique small k m = members_room cliques (start_of f.links found) (entries_rise cliques found f.links rising) (start_there cliques found f.links rising) f.links ending 0 nodes totals.of_node k m sound.few_links small

    pub total_of_clique : (v : View) → IsFileView f v → (k : ℕ) (m : Measure) → v.total (OfClique k) m ≡ Some (member_sum cliques nodes k m)
    total_of_clique v is k m =
        view_total f sound cliques found tree v is (OfClique k) m
        ∙ ap (λ (x : ℕ). Some x) (sym (members_climbed cliques (start_of f.links found) (entries_rise cliques found f.links rising) (start_there cliques found f.links rising) f.links ending 0 nodes totals.of_node k m))
