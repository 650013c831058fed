-- Names behind references, and the numbers of modules.
use Rattle.std.proofs.Common.{◌≡◌, refl, sym, ap, ◌∙◌, subst, ℕ, suc, Bool, true, false, not, nat_eq, List, [], ◌∷◌, ◌++◌, length, Option, Bor}
use Rattle.std.specs.List.{list_any, position, position_or_len}
use Rattle.std.specs.Str.{bytes_eq}
use Rattle.std.specs.Cmp.Lexicographic.{pointwise}
use Rattle.std.specs.Prelude.{unwrap_or}
use Rattle.md_ports.proofs.Bytes.{pointwise-bytes_eq}
use Rattle.md_ports.specs.Modules.{told, with_module, number_of}

abbrev Bytes : Type 0
Bytes = Bor (List ℕ)

abbrev pub is_bytes : List ℕ → Bytes → Bool
is_bytes x k = pointwise nat_eq x k.now

abbrev pub same_bytes : Bytes → Bytes → Bool
same_bytes a b = pointwise nat_eq a.now b.now

any_told : (x : List ℕ) (ks : List Bytes) → list_any (is_bytes x) ks ≡ list_any (bytes_eq x) (told ks)
any_told x [] = refl
any_told x (k ∷ ks) = rw (pointwise-bytes_eq x k.now, any_told x ks) refl

place_told : (x : List ℕ) (ks : List Bytes) → position_or_len (is_bytes x) ks ≡ position_or_len (bytes_eq x) (told ks)
place_told x [] = refl
place_told x (k ∷ ks) = rw (pointwise-bytes_eq x k.now, place_told x ks) refl

length_told : (ks : List Bytes) → length (told ks) ≡ length ks
length_told [] = refl
length_told (k ∷ ks) = ap suc (length_told ks)

-- the place of a name among references is that among the names
pub position_told : (x : List ℕ) (ks : List Bytes) → position (is_bytes x) ks ≡ position (bytes_eq x) (told ks)
position_told x ks = rw (place_told x ks, length_told ks) refl

-- a name that is there
pub known_module : (x : List ℕ) (key : Bytes) (ks : List Bytes) (ns : List (List ℕ)) → key.now ≡ x → told ks ≡ ns
    → list_any (same_bytes key) ks ≡ true → ns ≡ with_module x ns
known_module x key ks ns named are has =
    let among : list_any (bytes_eq x) ns ≡ true
    = subst (λ (y : List ℕ). list_any (bytes_eq y) ns ≡ true) named
    (subst (λ (ms : List (List ℕ)). list_any (bytes_eq key.now) ms ≡ true) are (sym (any_told key.now ks) ∙ has)) in
    rw among refl

-- and one that isn't
pub new_module : (x : List ℕ) (key : Bytes) (ks : List Bytes) (ns : List (List ℕ)) → key.now ≡ x → told ks ≡ ns
    → list_any (same_bytes key) ks ≡ false → ns ++ x ∷ [] ≡ with_module x ns
new_module x key ks ns named are none =
    let among : list_any (bytes_eq x) ns ≡ false
    = subst (λ (y : List ℕ). list_any (bytes_eq y) ns ≡ false) named
    (subst (λ (ms : List (List ℕ)). list_any (bytes_eq key.now) ms ≡ false) are (sym (any_told key.now ks) ∙ none)) in
    rw among refl

-- what an insertion says
pub was_new : (added b : Bool) → added ≡ not b → added ≡ true → b ≡ false
was_new added true says is = absurd (cc)
was_new added false says is = refl

pub was_known : (added b : Bool) → added ≡ not b → added ≡ false → b ≡ true
was_known added true says is = refl
was_known added false says is = absurd (cc)

-- the number of a module by its place
pub number_told : (x y : List ℕ) (ks : List Bytes) (ns : List (List ℕ)) (o : Option ℕ) → y ≡ x → told ks ≡ ns → o ≡ position (is_bytes y) ks → unwrap_or o 0 ≡ number_of ns x
number_told x y ks ns o named are found =
    ap (λ (p : Option ℕ). unwrap_or p 0) (found ∙ position_told y ks)
    ∙ (ap (λ (ms : List (List ℕ)). number_of ms y) are ∙ ap (number_of ns) named)
