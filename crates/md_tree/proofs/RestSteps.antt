-- What a step past a child does to those that are left.
use Rattle.std.proofs.Common.{◌≡◌, ℕ, ◌+◌, ◌<◌, ◌≤◌, List, ◌∷◌, map, drop, get_or, sym, ap, arith}
use Rattle.std.specs.List.{sum_by}
use Rattle.std.proofs.lemmas.List.{drop_more}
use Rattle.std.proofs.lemmas.List.Elements.{All-same, All-tail}
use Rattle.std.proofs.lemmas.List.Sums.{sum_by-cons}
use Rattle.md_tree.specs.declared.rest.Rest.{Rest}
use Rattle.md_tree.specs.Children.{AreChildren, Child, cliques_below}
use Rattle.md_tree.specs.Rests.{IsNext, IsRest, HasAllOf, cliques_left, past, rest_work, work_below}
use Rattle.md_tree.proofs.Left.{of_next}
use Rattle.md_tree.proofs.Work.{work_on}

-- the child at the place is the first of those that are left
pub next_left : (cs : List Child) (r : Rest) (c : Child) → IsNext cs r c → cliques_left cs r ≡ c.2 ∷ cliques_left cs (past r)
next_left cs r c next = ap (λ (xs : List Child). map (λ (x : Child). x.2) xs) next.left

module _ (n : ℕ) (cs : List Child) (are : AreChildren n cs) where
  pub whole_rest : (k : ℕ) (r : Rest) → HasAllOf cs k r → k < n → IsRest n cs r
  whole_rest k r whole lt =
      let its = whole.parent in record {
        parent = omega arith;
        place = whole.place;
        past = rw its whole.past;
      }

  pub past_rest : (r : Rest) (c : Child) → IsNext cs r c → IsRest n cs r → IsRest n cs (past r)
  past_rest r c next is =
      let there = next.there in record {
        parent = is.parent;
        place = omega arith;
        past =
            All-tail (λ (d : Child). r.parent ≤ d.0) (get_or cs r.place c) (drop (r.place + 1) cs)
            (All-same (λ (d : Child). r.parent ≤ d.0) (get_or cs r.place c ∷ drop (r.place + 1) cs) (drop r.place cs) (sym (drop_more cs r.place c there)) is.past);
      }

  -- the next child is a clique, of a higher number than its parent
  pub next_there : (r : Rest) (c : Child) → IsNext cs r c → c.2 < n
  next_there r c next = (of_next (λ (d : Child). (d.0 < d.2) × (d.2 < n)) cs r c are.lower next).1

  pub next_lower : (r : Rest) (c : Child) → IsNext cs r c → r.parent < c.2
  next_lower r c next =
      let low = (of_next (λ (d : Child). (d.0 < d.2) × (d.2 < n)) cs r c are.lower next).0 in
      let its = next.its in
      omega arith

  -- there is less left to do past a child and below it
  pub work_of_next : (r below : Rest) (c : Child) → IsNext cs r c → HasAllOf cs c.2 below → rest_work cs n r ≡ 1 + (rest_work cs n below + rest_work cs n (past r))
  work_of_next r below c next whole =
      let work = work_on n cs are.lower c.2 (next_there r c next) in
      let split = sum_by-cons (work_below cs n) c.2 (cliques_left cs (past r)) in
      let all : sum_by (work_below cs n) (cliques_left cs r) ≡ sum_by (work_below cs n) (c.2 ∷ cliques_left cs (past r)) = ap (λ (ks : List ℕ). sum_by (work_below cs n) ks) (next_left cs r c next) in
      let same : sum_by (work_below cs n) (cliques_left cs below) ≡ sum_by (work_below cs n) (cliques_below cs c.2) = ap (λ (ks : List ℕ). sum_by (work_below cs n) ks) whole.cliques in
      omega arith

  pub work_past : (r : Rest) (c : Child) → IsNext cs r c → rest_work cs n (past r) < rest_work cs n r
  work_past r c next =
      let work = work_on n cs are.lower c.2 (next_there r c next) in
      let split = sum_by-cons (work_below cs n) c.2 (cliques_left cs (past r)) in
      let all : sum_by (work_below cs n) (cliques_left cs r) ≡ sum_by (work_below cs n) (c.2 ∷ cliques_left cs (past r)) = ap (λ (ks : List ℕ). sum_by (work_below cs n) ks) (next_left cs r c next) in
      omega arith
