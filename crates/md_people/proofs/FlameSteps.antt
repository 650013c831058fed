-- Names of stations, joined.
use Rattle.std.proofs.Common.{◌≡◌, ℕ, suc, ◌+◌, ◌-◌, ◌<◌, ◌≤◌, not, eqb, cond, List, [], ◌∷◌, ◌++◌, length, get_or, map, take, drop, reverse, codes, refl, sym, ap, ◌∙◌, inl, inr, arith}
use Rattle.std.specs.List.{filter, flat_map}
use Rattle.std.proofs.Math.Seq.{take-append_seam, drop-append_seam}
use Rattle.std.proofs.lemmas.Bool.{cases_eq, eq-eqb, ne_eqb, le-leb, lt-leb}
use Rattle.std.proofs.lemmas.List.{append_assoc, length-append, length-map, length-take-le, length-reverse, map-append, map_more, reverse-append, reverse-reverse}
use Rattle.md_cost.specs.Loading.{LoadedRows}
use Rattle.md_people.specs.Depths.{AreLast, HasTop, path_up}
use Rattle.md_people.specs.Flame.{between, joined, joined_from, shortened}

from_push : (x y : List ℕ) (xs : List (List ℕ)) → joined_from x (xs ++ y ∷ []) ≡ joined_from x xs ++ (codes ";" ++ y)
from_push x y [] = refl
from_push x y (z ∷ zs) =
    ap (λ (w : List ℕ). x ++ (codes ";" ++ w)) (from_push z y zs)
    ∙ ap (λ (w : List ℕ). x ++ w) (sym (append_assoc (codes ";") (joined_from z zs) (codes ";" ++ y)))
    ∙ sym (append_assoc x (codes ";" ++ joined_from z zs) (codes ";" ++ y))

joined_push : (xs : List (List ℕ)) (y : List ℕ) → joined (xs ++ y ∷ []) ≡ joined xs ++ (between (length xs) ++ y)
joined_push [] y = refl
joined_push (x ∷ xs) y = rw (ne_eqb (suc (length xs)) 0 (λ e. absurd (omega arith))) (from_push x y xs)

from_both : (x y : List ℕ) (xs ys : List (List ℕ)) → joined_from x (xs ++ y ∷ ys) ≡ joined_from x xs ++ (codes ";" ++ joined_from y ys)
from_both x y [] ys = refl
from_both x y (z ∷ zs) ys =
    ap (λ (w : List ℕ). x ++ (codes ";" ++ w)) (from_both z y zs ys)
    ∙ ap (λ (w : List ℕ). x ++ w) (sym (append_assoc (codes ";") (joined_from z zs) (codes ";" ++ joined_from y ys)))
    ∙ sym (append_assoc x (codes ";" ++ joined_from z zs) (codes ";" ++ joined_from y ys))

-- one name more
pub names_more : (f : ℕ → List ℕ) (nodes : List ℕ) (i d : ℕ) (old out : List ℕ) → i < length nodes → out ≡ old ++ joined (map f (take i nodes))
    → (out ++ between i) ++ f (get_or nodes i d) ≡ old ++ joined (map f (take (i + 1) nodes))
names_more f nodes i d old out lt is =
    let names = map f (take i nodes) in
    let size : length (map f (take i nodes)) ≡ i = length-map (take i nodes) f ∙ length-take-le i nodes (omega arith) in
    append_assoc out (between i) (f (get_or nodes i d)) ∙ ap (λ (w : List ℕ). w ++ (between i ++ f (get_or nodes i d))) is
    ∙ append_assoc old (joined names) (between i ++ f (get_or nodes i d))
    ∙ ap (λ (w : List ℕ). old ++ w) (
    ap (λ (n : ℕ). joined names ++ (between n ++ f (get_or nodes i d))) (sym size) ∙ sym (joined_push names (f (get_or nodes i d)))
    ∙ ap (λ (ns : List (List ℕ)). joined ns) (sym (map_more f nodes i d lt)))

-- of many names those at the ends
joined_ends : (first last : List (List ℕ)) → 0 < length first → 0 < length last → joined (first ++ codes ".." ∷ last) ≡ joined first ++ (codes ";..;" ++ joined last)
joined_ends [] last some also = absurd (omega arith)
joined_ends (x ∷ xs) [] some also = absurd (omega arith)
joined_ends (x ∷ xs) (y ∷ ys) some also = from_both x (codes "..") xs (y ∷ ys)

pub few_names : (names : List (List ℕ)) → length names ≤ 200 → shortened names ≡ names
few_names names few = rw (le-leb (length names) 200 few) refl

many_names : (names : List (List ℕ)) → 200 < length names → shortened names ≡ take 100 names ++ codes ".." ∷ drop (length names - 100) names
many_names names many = rw (lt-leb (length names) 200 many) refl

module _ (l : LoadedRows) (f : ℕ → List ℕ) (c t : ℕ) (last : List ℕ) (top : HasTop l c t) (ends : AreLast l c last) (many : 200 < length (path_up l c)) where
  abbrev names : List (List ℕ)
  names = map f (reverse (path_up l c))

  first_names : take 100 (map f (reverse (path_up l c))) ≡ map f (reverse (path_up l t))
  first_names =
      let size = top.size in
      let long : length (map f (reverse (path_up l t))) ≡ 100 = length-map (reverse (path_up l t)) f ∙ length-reverse (path_up l t) ∙ (omega arith) in
      ap (λ (ds : List ℕ). take 100 (map f (reverse ds))) top.is
      ∙ ap (λ (ds : List ℕ). take 100 (map f ds)) (reverse-append top.below (path_up l t))
      ∙ ap (λ (ns : List (List ℕ)). take 100 ns) (map-append f (reverse (path_up l t)) (reverse top.below))
      ∙ ap (λ (n : ℕ). take n (map f (reverse (path_up l t)) ++ map f (reverse top.below))) (sym long)
      ∙ take-append_seam (map f (reverse (path_up l t))) (map f (reverse top.below))

  names_size : length (map f (reverse (path_up l c))) ≡ length (path_up l c)
  names_size = length-map (reverse (path_up l c)) f ∙ length-reverse (path_up l c)

  last_names : drop (length (map f (reverse (path_up l c))) - 100) (map f (reverse (path_up l c))) ≡ map f last
  last_names =
      let size = ends.size in
      let sum : length (path_up l c) ≡ length (reverse last) + length (path_up l ends.above) = ap (λ (ds : List ℕ). length ds) ends.is ∙ length-append (reverse last) (path_up l ends.above) in
      let turned = length-reverse last in
      let whole = names_size in
      let before : length (map f (reverse (path_up l ends.above))) ≡ length (path_up l ends.above) = length-map (reverse (path_up l ends.above)) f ∙ length-reverse (path_up l ends.above) in
      let place : length (map f (reverse (path_up l c))) - 100 ≡ length (map f (reverse (path_up l ends.above))) = omega arith in
      ap (λ (n : ℕ). drop n (map f (reverse (path_up l c)))) place
      ∙ ap (λ (ds : List ℕ). drop (length (map f (reverse (path_up l ends.above)))) (map f (reverse ds))) ends.is
      ∙ ap (λ (ds : List ℕ). drop (length (map f (reverse (path_up l ends.above)))) (map f ds)) (reverse-append (reverse last) (path_up l ends.above) ∙ ap (λ (ds : List ℕ). reverse (path_up l ends.above) ++ ds) (reverse-reverse last))
      ∙ ap (λ (ns : List (List ℕ)). drop (length (map f (reverse (path_up l ends.above)))) ns) (map-append f (reverse (path_up l ends.above)) last)
      ∙ drop-append_seam (map f (reverse (path_up l ends.above))) (map f last)

  pub ends_told : joined (shortened (map f (reverse (path_up l c)))) ≡ joined (map f (reverse (path_up l t))) ++ (codes ";..;" ++ joined (map f last))
  ends_told =
      let size = top.size in
      let whole = names_size in
      let first_size : length (map f (reverse (path_up l t))) ≡ length (path_up l t) = length-map (reverse (path_up l t)) f ∙ length-reverse (path_up l t) in
      let last_size : length (map f last) ≡ length last = length-map last f in
      let hundred = ends.size in
      ap (λ (ns : List (List ℕ)). joined ns) (many_names (map f (reverse (path_up l c))) (omega arith)
      ∙ ap (λ (ns : List (List ℕ)). ns ++ codes ".." ∷ drop (length (map f (reverse (path_up l c))) - 100) (map f (reverse (path_up l c)))) first_names
      ∙ ap (λ (ns : List (List ℕ)). map f (reverse (path_up l t)) ++ codes ".." ∷ ns) last_names)
      ∙ joined_ends (map f (reverse (path_up l t))) (map f last) (omega arith) (omega arith)

-- lines of what isn't 0
pub some_lines : (own : ℕ → ℕ) (f : ℕ → List ℕ) (xs : List ℕ) → flat_map (λ x. cond (eqb (own x) 0) [] (f x)) xs ≡ flat_map f (filter (λ x. not (eqb (own x) 0)) xs)
some_lines own f [] = refl
some_lines own f (x ∷ xs) = elim (cases_eq (own x) 0) [
  | inl none ↦ rw (eq-eqb (own x) 0 none) (some_lines own f xs)
  | inr some ↦ rw (ne_eqb (own x) 0 some) (ap (λ (w : List ℕ). f x ++ w) (some_lines own f xs))
]
