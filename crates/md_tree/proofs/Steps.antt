-- What a step does to the branches under way.
use Rattle.std.proofs.Common.{◌≡◌, ℕ, ◌+◌, ◌^◌, ◌<◌, true, false, List, [], ◌∷◌, ◌++◌, sym, ap, ◌∙◌, arith}
use Rattle.std.specs.Prelude.{All}
use Rattle.std.specs.List.{flat_map}
use Rattle.std.proofs.lemmas.List.{append_assoc, reverse-append}
use Rattle.std.proofs.lemmas.List.Elements.{All-push, All-same}
use Rattle.std.proofs.lemmas.List.Sums.{sum_by_push}
use Rattle.md_base.specs.declared.measure.Measure.{Measure}
use Rattle.md_clique.specs.Cliques.{clique_count}
use Rattle.md_cost.specs.View.{View}
use Rattle.md_table.specs.Table.{LineCells}
use Rattle.md_people.specs.Tree.{children, clique_row, clique_total, is_shown, rows_from}
use Rattle.md_tree.specs.declared.branch.Branch.{Branch}
use Rattle.md_tree.specs.declared.rest.Rest.{Rest}
use Rattle.md_tree.specs.Branches.{IsBranch, branch_rows, open_rows, open_work, past_hidden, past_shown, rows_of_left}
use Rattle.md_tree.specs.Children.{AreChildren, AreChildrenOf, Child, cliques_below}
use Rattle.md_tree.specs.Rests.{IsNext, HasAllOf, cliques_left, past, rest_work}
use Rattle.md_tree.proofs.Left.{of_next}
use Rattle.md_tree.proofs.RestSteps.{next_left, next_lower, next_there, past_rest, whole_rest, work_of_next, work_past}
use Rattle.md_tree.proofs.Rows.{AreLower, rows_below, rows_of_hidden, rows_of_shown}
use Rattle.md_tree.proofs.Work.{below_lower}

-- a branch at the level below another one, of which nothing was looked at
abbrev pub branch_at : Branch → Rest → Branch
branch_at b below = record { rest = below; level = b.level + 1; hidden = 0; sum = 0 }

-- ---- they stay branches, and there is less left to do

module _ (n : ℕ) (cs : List Child) (are : AreChildren n cs) (b : Branch) (is : IsBranch n cs b) (c : Child) (next : IsNext cs b.rest c) where
  pub level_below : b.level + 1 < 2 ^ 32
  level_below =
      let low = next_lower n cs are b.rest c next in
      let there = next_there n cs are b.rest c next in
      let level = is.level in
      let small = are.small in
      omega arith

  pub room : b.hidden + 1 < 2 ^ 32
  room =
      let there = next.there in
      let few = are.few in
      let small = are.small in
      let hidden = is.hidden in
      omega arith

  past_branch : IsBranch n cs (past_shown b)
  past_branch =
      let hidden = is.hidden in record {
        rest = past_rest n cs are b.rest c next is.rest;
        level = is.level;
        hidden = omega arith;
        sum = is.sum;
      }

  hidden_branch : (total : ℕ) → total < 2 ^ 64 → IsBranch n cs (past_hidden b total)
  hidden_branch total small =
      let hidden = is.hidden in
      let sum = is.sum in record {
        rest = past_rest n cs are b.rest c next is.rest;
        level = is.level;
        hidden = omega arith;
        sum = omega arith;
      }

  below_branch : (below : Rest) → HasAllOf cs c.2 below → IsBranch n cs (branch_at b below)
  below_branch below whole =
      let low = next_lower n cs are b.rest c next in
      let its = whole.parent in
      let level = is.level in record {
        rest = whole_rest n cs are c.2 below whole (next_there n cs are b.rest c next);
        level = omega arith;
        hidden = omega arith;
        sum = omega arith;
      }

  module _ (before after : List Branch) (all : All (IsBranch n cs) before) where
    pub branches_shown : (d : Branch) → HasAllOf cs c.2 d.rest → d ≡ branch_at b d.rest → after ≡ (before ++ past_shown b ∷ []) ++ d ∷ [] → All (IsBranch n cs) after
    branches_shown d whole d_is after_is =
        let at : IsBranch n cs d = rw d_is (below_branch d.rest whole) in
        rw after_is (All-push (IsBranch n cs) (before ++ past_shown b ∷ []) d (All-push (IsBranch n cs) before (past_shown b) all past_branch) at)

    pub branches_hidden : (total : ℕ) → total < 2 ^ 64 → after ≡ before ++ past_hidden b total ∷ [] → All (IsBranch n cs) after
    branches_hidden total small after_is = rw after_is (All-push (IsBranch n cs) before (past_hidden b total) all (hidden_branch total small))

    pub less_shown : (d : Branch) → HasAllOf cs c.2 d.rest → after ≡ (before ++ past_shown b ∷ []) ++ d ∷ [] → open_work cs n after < rest_work cs n b.rest + open_work cs n before
    less_shown d whole after_is =
        let work = work_of_next n cs are b.rest d.rest c next whole in
        let first = sum_by_push (λ (x : Branch). rest_work cs n x.rest) before (past_shown b) in
        let second = sum_by_push (λ (x : Branch). rest_work cs n x.rest) (before ++ past_shown b ∷ []) d in
        rw after_is (omega arith)

    pub less_hidden : (total : ℕ) → after ≡ before ++ past_hidden b total ∷ [] → open_work cs n after < rest_work cs n b.rest + open_work cs n before
    less_hidden total after_is =
        let work = work_past n cs are b.rest c next in
        let first = sum_by_push (λ (x : Branch). rest_work cs n x.rest) before (past_hidden b total) in
        rw after_is (omega arith)

-- ---- and the rows are the same

module _ (v : View) (by : Measure) (least : ℕ) (cs : List Child) where
  pub open_push : (bs : List Branch) (b : Branch) → open_rows v by least cs (bs ++ b ∷ []) ≡ branch_rows v by least cs b ++ open_rows v by least cs bs
  open_push bs b = ap (λ (xs : List Branch). flat_map (branch_rows v by least cs) xs) (reverse-append bs (b ∷ []))

  module _ (are : AreChildren (clique_count v.cliques) cs) (told : AreChildrenOf v by cs) where
    pub lower_told : AreLower v by least
    lower_told k lt = All-same (λ (j : ℕ). (k < j) × (j < clique_count v.cliques)) (children v by k) (cliques_below cs k) (sym (told.below k)) (below_lower (clique_count v.cliques) k cs are.lower)

    pub whole_rows : (k level : ℕ) (r : Rest) → k < clique_count v.cliques → HasAllOf cs k r
        → rows_from v by least (clique_count v.cliques) level k ≡ clique_row v by level k ∷ rows_of_left v by least (level + 1) 0 0 (cliques_left cs r)
    whole_rows k level r lt whole =
        rows_below v by least lower_told level k lt
        ∙ ap (λ (ks : List ℕ). clique_row v by level k ∷ rows_of_left v by least (level + 1) 0 0 ks) (sym (whole.cliques ∙ told.below k))

    rows_shown : (b : Branch) (below : Rest) (c : Child) → IsNext cs b.rest c → HasAllOf cs c.2 below → is_shown v by least c.2 ≡ true
        → branch_rows v by least cs b ≡ (clique_row v by b.level c.2 ∷ branch_rows v by least cs (branch_at b below)) ++ branch_rows v by least cs (past_shown b)
    rows_shown b below c next whole shown =
        let there = (of_next (λ (x : Child). (x.0 < x.2) × (x.2 < clique_count v.cliques)) cs b.rest c are.lower next).1 in
        ap (λ (ks : List ℕ). rows_of_left v by least b.level b.hidden b.sum ks) (next_left cs b.rest c next)
        ∙ rows_of_shown v by least b.level b.hidden b.sum c.2 (cliques_left cs (past b.rest)) shown
        ∙ ap (λ (rows : List LineCells). rows ++ branch_rows v by least cs (past_shown b)) (whole_rows c.2 b.level below there whole)

    rows_hidden : (b : Branch) (c : Child) (total : ℕ) → IsNext cs b.rest c → total ≡ clique_total v by c.2 → is_shown v by least c.2 ≡ false → branch_rows v by least cs b ≡ branch_rows v by least cs (past_hidden b total)
    rows_hidden b c total next total_is hidden =
        ap (λ (ks : List ℕ). rows_of_left v by least b.level b.hidden b.sum ks) (next_left cs b.rest c next)
        ∙ rows_of_hidden v by least b.level b.hidden b.sum c.2 (cliques_left cs (past b.rest)) hidden
        ∙ ap (λ (t : ℕ). rows_of_left v by least b.level (b.hidden + 1) (b.sum + t) (cliques_left cs (past b.rest))) (sym total_is)

    pub step_shown : (b d : Branch) (c : Child) (rows new : List LineCells) (before after : List Branch) → IsNext cs b.rest c → HasAllOf cs c.2 d.rest → d ≡ branch_at b d.rest → is_shown v by least c.2 ≡ true
        → new ≡ rows ++ clique_row v by b.level c.2 ∷ [] → after ≡ (before ++ past_shown b ∷ []) ++ d ∷ []
        → new ++ open_rows v by least cs after ≡ rows ++ (branch_rows v by least cs b ++ open_rows v by least cs before)
    step_shown b d c rows new before after next whole d_is shown new_is after_is =
        let row = clique_row v by b.level c.2 in
        let at_d = branch_rows v by least cs (branch_at b d.rest) in
        let at_past = branch_rows v by least cs (past_shown b) in
        let others = open_rows v by least cs before in
        ap (λ (xs : List LineCells). xs ++ open_rows v by least cs after) new_is
        ∙ ap (λ (bs : List Branch). (rows ++ row ∷ []) ++ open_rows v by least cs bs) (after_is ∙ ap (λ (x : Branch). (before ++ past_shown b ∷ []) ++ x ∷ []) d_is)
        ∙ ap (λ (xs : List LineCells). (rows ++ row ∷ []) ++ xs) (open_push (before ++ past_shown b ∷ []) (branch_at b d.rest) ∙ ap (λ (xs : List LineCells). at_d ++ xs) (open_push before (past_shown b)))
        ∙ append_assoc rows (row ∷ []) (at_d ++ (at_past ++ others))
        ∙ ap (λ (xs : List LineCells). rows ++ xs) (sym (append_assoc (row ∷ at_d) at_past others))
        ∙ ap (λ (xs : List LineCells). rows ++ (xs ++ others)) (sym (rows_shown b d.rest c next whole shown))

    pub step_hidden : (b : Branch) (c : Child) (total : ℕ) (rows : List LineCells) (before after : List Branch) → IsNext cs b.rest c → total ≡ clique_total v by c.2 → is_shown v by least c.2 ≡ false
        → after ≡ before ++ past_hidden b total ∷ [] → rows ++ open_rows v by least cs after ≡ rows ++ (branch_rows v by least cs b ++ open_rows v by least cs before)
    step_hidden b c total rows before after next total_is hidden after_is =
        ap (λ (bs : List Branch). rows ++ open_rows v by least cs bs) after_is
        ∙ ap (λ (xs : List LineCells). rows ++ xs) (open_push before (past_hidden b total) ∙ ap (λ (xs : List LineCells). xs ++ open_rows v by least cs before) (sym (rows_hidden b c total next total_is hidden)))
