-- Lists with the same links have the same walks and cliques.
use Rattle.std.proofs.Common.{◌≡◌, ℕ, ◌+◌, ◌<◌, ◌/◌, List, length, Some, ap, ◌∙◌, arith}
use Rattle.std.proofs.Math.Nat.{div-mul-le_self}
use Rattle.std.proofs.lemmas.Nat.{le-div}
use Rattle.std.proofs.lemmas.Option.{slice_get_within, get_or_from_slice_get, slice_get-get_or}
use Rattle.md_trace.specs.Cliques.{AreCliques}
use Rattle.md_trace.specs.Reaches.{Reaches, ReachesBoth, here, more}
use Rattle.md_clique.specs.Links.{AreAmong, AreListed, AreWithin, HaveSame, end_of, start_of}

pub within_same : (links others : List (ℕ × ℕ)) (nodes : ℕ) → HaveSame links others → AreWithin links nodes → AreWithin others nodes
within_same links others nodes same within = record {
  starts = λ t lt.
      let s = same.back t lt in
      let e : start_of links s.0 ≡ start_of others t = ap (λ (p : ℕ × ℕ). p.0) s.2 in
      let low : start_of links s.0 < nodes = within.starts s.0 s.1 in
      omega arith;
  ends = λ t lt.
      let s = same.back t lt in
      let e : end_of links s.0 ≡ end_of others t = ap (λ (p : ℕ × ℕ). p.1) s.2 in
      let low : end_of links s.0 < nodes = within.ends s.0 s.1 in
      omega arith;
}

pub listed_same : (links others : List (ℕ × ℕ)) (nodes : ℕ) (starts ends : List ℕ) → HaveSame links others → AreListed others nodes starts ends → AreListed links nodes starts ends
listed_same links others nodes starts ends same are = record {
  each = are.each;
  rising = are.rising;
  within = are.within;
  theirs = λ v p there from to.
      let t = are.theirs v p there from to in
      let s = same.back t.0 t.1 in
      (s.0, s.1, ap (λ (l : ℕ × ℕ). l.0) s.2 ∙ t.2, ap (λ (l : ℕ × ℕ). l.1) s.2 ∙ t.3);
  all = λ t lt.
      let s = same.forth t lt in
      let p = are.all s.0 s.1 in
      let start : start_of others s.0 ≡ start_of links t = ap (λ (l : ℕ × ℕ). l.0) s.2 in
      let end : end_of others s.0 ≡ end_of links t = ap (λ (l : ℕ × ℕ). l.1) s.2 in
      (p.0, rw start at p.1, rw start at p.2, p.3 ∙ end);
}

-- the links of n nodes start in the runs up to the one of node n
pub run_below : (links : List (ℕ × ℕ)) (nodes width : ℕ) → 0 < width → AreWithin links nodes → (t : ℕ) → t < length links → start_of links t / width < nodes / width + 1
run_below links nodes width some within t lt = let low = within.starts t lt in let back = div-mul-le_self (start_of links t) width in let le = le-div (start_of links t / width) nodes width some (omega arith) in omega arith

walk_among : (links others : List (ℕ × ℕ)) → AreAmong links others → (a b : ℕ) → Reaches links a b → Reaches others a b
walk_among links others among a b (here x) = here x
walk_among links others among a b (more k x y z is rest) =
    let s = among k (slice_get_within links k (x, y) is) in
    let pair = get_or_from_slice_get links k (x, y) (0, 0) is in
    more s.0 x y z (slice_get-get_or others s.0 (0, 0) s.1 ∙ ap Some (s.2 ∙ pair)) (walk_among links others among y z rest)

both_among : (links others : List (ℕ × ℕ)) → AreAmong links others → (a b : ℕ) → ReachesBoth links a b → ReachesBoth others a b
both_among links others among a b both = record { forth = walk_among links others among a b both.forth; back = walk_among links others among b a both.back }

pub cliques_same : (links others : List (ℕ × ℕ)) (nodes : ℕ) (cliques : List ℕ) → HaveSame links others → AreCliques nodes others cliques → AreCliques nodes links cliques
cliques_same links others nodes cliques same are = record {
  each = are.each;
  classes = λ a b la lb. (λ e. both_among others links same.back a b ((are.classes a b la lb).0 e), λ both. (are.classes a b la lb).1 (both_among links others same.forth a b both));
  in_order = are.in_order;
}
