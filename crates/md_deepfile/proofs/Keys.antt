-- A set of keys tells what a list of things tells.
use Rattle.std.proofs.Common.{◌≡◌, Bool, true, false, not, ◌&&◌, ◌||◌, cond, List, [], ◌∷◌, ◌++◌, map, refl, sym, ap, ◌∙◌}
use Rattle.std.proofs.lemmas.Bool.{cond-false}
use Rattle.std.proofs.lemmas.List.{map_push}
use Rattle.std.specs.List.{list_any}

-- a test of what stands for keys is that of the keys
pub any_map : {X Y : Type 0} (f : X → Y) (p : Y → Bool) (xs : List X) → list_any p (map f xs) ≡ list_any (λ x. p (f x)) xs
any_map {X} {Y} f p [] = refl
any_map {X} {Y} f p (x ∷ xs) = ap (λ (b : Bool). p (f x) || b) (any_map f p xs)

-- the answer of a set to which a key was given is whether none of the things has it
pub told_by_keys : {X Y : Type 0} (f : X → Y) (p : Y → Bool) (keys : List X) (things : List Y) (named fresh : Bool) → map f keys ≡ things → named ≡ true
    → fresh ≡ not (list_any (λ x. p (f x)) keys) → fresh ≡ (named && not (list_any p things))
told_by_keys {X} {Y} f p keys things named fresh are is told =
    told ∙ ap not (sym (any_map f p keys) ∙ ap (list_any p) are) ∙ ap (λ (b : Bool). b && not (list_any p things)) (sym is)

-- A key that none of the things has goes last, as its thing does.
pub keys_push : {X Y K : Type 0} (f : X → K) (h : Y → K) (p : K → Bool) (keys now : List X) (things more : List Y) (key : X) (thing : Y) → map f keys ≡ map h things → list_any p (map h things) ≡ false
    → now ≡ cond (list_any (λ x. p (f x)) keys) keys (keys ++ key ∷ []) → more ≡ things ++ thing ∷ [] → f key ≡ h thing → map f now ≡ map h more
keys_push {X} {Y} {K} f h p keys now things more key thing are none put added same =
    let absent : list_any (λ x. p (f x)) keys ≡ false = sym (any_map f p keys) ∙ ap (list_any p) are ∙ none in
    ap (map f) (put ∙ cond-false (list_any (λ x. p (f x)) keys) keys (keys ++ key ∷ []) absent)
    ∙ map_push f keys key ∙ ap (λ (k : K). map f keys ++ k ∷ []) same ∙ ap (λ (ks : List K). ks ++ h thing ∷ []) are ∙ sym (map_push h things thing) ∙ ap (map h) (sym added)
