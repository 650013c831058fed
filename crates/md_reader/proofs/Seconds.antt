-- Names of declarations in a set, and the declarations before a place.
use Rattle.std.proofs.Common.{◌≡◌, ℕ, suc, ◌+◌, ◌<◌, List, [], ◌∷◌, ◌++◌, length, take, drop, map, get_or, refl, Bor, add-one, drop-cons, Bool, true, false, cond, not, ◌&&◌, ◌||◌, Option, Some, None, sym, ap, ◌∙◌, nat_eq}
use Rattle.std.specs.List.{list_any}
use Rattle.std.specs.Option.{option_map, option_eq}
use Rattle.std.specs.Cmp.Lexicographic.{pointwise}
use Rattle.std.proofs.lemmas.List.{map-append}
use Rattle.std.proofs.Math.Seq.{take-suc}
use Rattle.md_hlds.specs.Hlds.{same_qualifier}
use Rattle.md_reader.specs.declared.duplicates.Key.{Key}
use Rattle.md_reader.specs.declared.duplicates.Declared.{Declared as Entry}
use Rattle.md_reader.specs.contracts.duplicates.KeyPartialEq.TheImpl.{eq-value}
use Rattle.md_reader.specs.Duplicates.{same_declared, is_among, first_second}
use Rattle.md_reader.specs.Views.{declared_of, all_declared}
use Rattle.md_reader.proofs.Words.{pointwise-bytes_eq}

abbrev pub same_key : Key → Key → Bool
same_key = eq-value.it

abbrev pub keys_of : List Entry → List Key
keys_of ds = map (λ (d : Entry). d.key) ds

turned : (b : Bool) → not b ≡ false → b ≡ true
turned true h = refl
turned false h = absurd (cc)

turned_off : (b : Bool) → not b ≡ true → b ≡ false
turned_off true h = absurd (cc)
turned_off false h = refl

qualifier_same : (p q : Option (Bor (List ℕ))) → option_eq (λ x y. pointwise nat_eq x.now y.now) p q ≡ same_qualifier (option_map (λ r. r.now) p) (option_map (λ r. r.now) q)
qualifier_same None None = refl
qualifier_same None (Some y) = refl
qualifier_same (Some x) None = refl
qualifier_same (Some x) (Some y) = pointwise-bytes_eq x.now y.now

grouped : (a b c : Bool) → (a && (b && c)) ≡ ((a && b) && c)
grouped true b c = refl
grouped false b c = refl

key_same : (d e : Entry) → same_key d.key e.key ≡ same_declared (declared_of d) (declared_of e)
key_same d e =
    grouped (option_eq (λ x y. pointwise nat_eq x.now y.now) d.key.qualifier e.key.qualifier) (pointwise nat_eq d.key.name.now e.key.name.now) (nat_eq d.key.arity e.key.arity)
    ∙ rw (qualifier_same d.key.qualifier e.key.qualifier, pointwise-bytes_eq d.key.name.now e.key.name.now) refl

or_else : (b r : Bool) → (b || r) ≡ cond b true r
or_else true r = refl
or_else false r = refl

any_key : (d : Entry) (es : List Entry) → list_any (same_key d.key) (keys_of es) ≡ is_among (declared_of d) (all_declared es)
any_key d [] = refl
any_key d (e ∷ es) = or_else (same_key d.key e.key) (list_any (same_key d.key) (keys_of es)) ∙ rw (key_same d e, any_key d es) refl

-- the declaration at a place, those before it and those after it
at_place : (ds : List Entry) (i : ℕ) (z : Entry) → i < length ds
    → first_second (all_declared (take i ds)) (all_declared (drop i ds))
    ≡ cond (is_among (declared_of (get_or ds i z)) (all_declared (take i ds))) (Some (get_or ds i z).line) (first_second (all_declared (take (i + 1) ds)) (all_declared (drop (i + 1) ds)))
at_place ds i z lt =
    let more : all_declared (take (suc i) ds) ≡ all_declared (take i ds) ++ declared_of (get_or ds i z) ∷ [] = ap all_declared (take-suc ds i z lt) ∙ map-append declared_of (take i ds) (get_or ds i z ∷ []) in
    rw (add-one, drop-cons ds i z lt, more) refl

pub second_found : (ds : List Entry) (i : ℕ) (z : Entry) (ks : List Key) (new : Bool) → i < length ds → ks ≡ keys_of (take i ds)
    → first_second [] (all_declared ds) ≡ first_second (all_declared (take i ds)) (all_declared (drop i ds))
    → new ≡ not (list_any (same_key (get_or ds i z).key) ks) → new ≡ false → Some (get_or ds i z).line ≡ first_second [] (all_declared ds)
second_found ds i z ks new lt keys none added old =
    let b : list_any (same_key (get_or ds i z).key) ks ≡ true = turned (list_any (same_key (get_or ds i z).key) ks) (sym added ∙ old) in
    let c : is_among (declared_of (get_or ds i z)) (all_declared (take i ds)) ≡ true = sym (any_key (get_or ds i z) (take i ds)) ∙ (ap (list_any (same_key (get_or ds i z).key)) (sym keys) ∙ b) in
    sym (none ∙ (at_place ds i z lt ∙ rw c refl))

pub second_later : (ds : List Entry) (i : ℕ) (z : Entry) (ks : List Key) (new : Bool) → i < length ds → ks ≡ keys_of (take i ds)
    → first_second [] (all_declared ds) ≡ first_second (all_declared (take i ds)) (all_declared (drop i ds))
    → new ≡ not (list_any (same_key (get_or ds i z).key) ks) → new ≡ true
    → first_second [] (all_declared ds) ≡ first_second (all_declared (take (i + 1) ds)) (all_declared (drop (i + 1) ds))
second_later ds i z ks new lt keys none added fresh =
    let b : list_any (same_key (get_or ds i z).key) ks ≡ false = turned_off (list_any (same_key (get_or ds i z).key) ks) (sym added ∙ fresh) in
    let c : is_among (declared_of (get_or ds i z)) (all_declared (take i ds)) ≡ false = sym (any_key (get_or ds i z) (take i ds)) ∙ (ap (list_any (same_key (get_or ds i z).key)) (sym keys) ∙ b) in
    none ∙ (at_place ds i z lt ∙ rw c refl)

kept : (b : Bool) (ks : List Key) (k : Key) → b ≡ false → cond b ks (ks ++ k ∷ []) ≡ ks ++ k ∷ []
kept true ks k h = absurd (cc)
kept false ks k h = refl

pub keys_later : (ds : List Entry) (i : ℕ) (z : Entry) (ks after : List Key) (new : Bool) → i < length ds → ks ≡ keys_of (take i ds)
    → after ≡ cond (list_any (same_key (get_or ds i z).key) ks) ks (ks ++ (get_or ds i z).key ∷ [])
    → new ≡ not (list_any (same_key (get_or ds i z).key) ks) → new ≡ true → after ≡ keys_of (take (i + 1) ds)
keys_later ds i z ks after new lt keys all added fresh =
    let b : list_any (same_key (get_or ds i z).key) ks ≡ false = turned_off (list_any (same_key (get_or ds i z).key) ks) (sym added ∙ fresh) in
    let more : keys_of (take (suc i) ds) ≡ keys_of (take i ds) ++ (get_or ds i z).key ∷ [] = ap keys_of (take-suc ds i z lt) ∙ map-append (λ (d : Entry). d.key) (take i ds) (get_or ds i z ∷ []) in
    all ∙ (kept (list_any (same_key (get_or ds i z).key) ks) ks (get_or ds i z).key b ∙ rw (add-one, more, keys) refl)
