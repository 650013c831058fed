-- Bytes have a first damage by the definition, or keep all rules; and a reader finds that damage and no other.
use Rattle.std.proofs.Common.{◌≡◌, ◌↔◌, ℕ, ◌+◌, ◌-◌, ◌<◌, ◌≤◌, ◌⊎◌, inl, inr, true, false, List, [], ◌∷◌, ◌++◌, length, All, Result, Ok, Err, refl, sym, ap, subst, ◌∙◌, append_assoc, append-nil, arith}
use Rattle.std.proofs.lemmas.Bool.{cases_Bool, both_ways}
use Rattle.std.proofs.lemmas.Grind.{flat_map-append}
use Rattle.std.proofs.lemmas.List.Elements.{recursion_from_All, All-from_recursion}
use Rattle.md_dynamic.specs.Profile.{ProfileRows}
use Rattle.md_deepfile.specs.Fields.{profile_file}
use Rattle.md_deepfile.specs.Format.{Damage, read}
use Rattle.md_deepfile.specs.Spells.{Spells, IsDamaged}
use Rattle.md_deepfile.specs.declared.damage.Kind.TheVariants as kinds
use Rattle.md_deepfile.proofs.Accepts.{AreBytes}
use Rattle.md_deepfile.proofs.Exact.{read_spells, spells_read}
use Rattle.law_damage.specs.Rows.{FileRows}
use Rattle.law_damage.specs.Fields.{Field, written, laid, Keeps, kind_of, back, context_list, link_list, front, fields, before_context}
use Rattle.law_damage.specs.Damage.{CanBeWritten, Begins, IsFirstDamage, KeepsAllRules}
use Rattle.law_damage.proofs.Tests.{fine, fine_keeps, keeps_fine}
use Rattle.law_damage.proofs.Along.{AreKept}
use Rattle.law_damage.proofs.Sections.{profile_of}
use Rattle.law_damage.proofs.Orphans.{some_orphan}
use Rattle.law_damage.proofs.Places.{place_within}
use Rattle.law_damage.proofs.Finds.{in_parts, first_read, rules_read}
use Rattle.law_damage.proofs.Meets.{Meets, whole, within}
use Rattle.law_damage.proofs.Built.{built}

-- the first field that breaks its rule, if there is one
data Scanned (xs : List Field) : Type 0 where
  kept : AreKept xs → Scanned xs
  broken : (first : List Field) (x : Field) (others : List Field) → xs ≡ first ++ x ∷ others → AreKept first → (Keeps x → ⊥) → Scanned xs

scan_on : (x : Field) (xs : List Field) → (fine x ≡ true) ⊎ (fine x ≡ false) → Scanned xs → Scanned (x ∷ xs)
scan_on x xs (inl passes) (kept all) = kept (fine_keeps x passes, all)
scan_on x xs (inl passes) (broken first y others is all not) = broken (x ∷ first) y others (ap (λ (zs : List Field). x ∷ zs) is) (fine_keeps x passes, all) not
scan_on x xs (inr fails) scanned = broken [] x xs refl tt (λ keeps. both_ways (fine x) fails (keeps_fine x keeps))

scan : (xs : List Field) → Scanned xs
scan [] = kept tt
scan (x ∷ xs) = scan_on x xs (cases_Bool (fine x)) (scan xs)

abbrev Found : List ℕ → Type 0
Found bytes = ((d : Damage) × IsFirstDamage bytes d) ⊎ KeepsAllRules bytes

begins_with : (bytes : List ℕ) (t : FileRows) (first others : List Field) (rest : List ℕ) → CanBeWritten t → fields t ≡ first ++ others → AreKept first → bytes ≡ laid first ++ rest → Begins bytes t first others rest
begins_with bytes t first others rest can are all is = record { rows = can; are = are; keep = All-from_recursion Keeps first all; bytes_are = is }

-- fields up to one, the bytes of the others and what follows them
parts_of : (xs first others : List Field) (x : Field) (bytes rest : List ℕ) → xs ≡ first ++ x ∷ others → bytes ≡ laid xs ++ rest → bytes ≡ laid first ++ (written x ++ (laid others ++ rest))
parts_of xs first others x bytes rest are is =
    is ∙ ap (λ (zs : List Field). laid zs ++ rest) are ∙ ap (λ (ys : List ℕ). ys ++ rest) (flat_map-append written first (x ∷ others))
    ∙ append_assoc (laid first) (written x ++ laid others) rest ∙ ap (λ (ys : List ℕ). laid first ++ ys) (append_assoc (written x) (laid others) rest)

breaks : (bytes : List ℕ) (t : FileRows) (first : List Field) (x : Field) (others : List Field) (rest : List ℕ) → CanBeWritten t → fields t ≡ first ++ x ∷ others → AreKept first → bytes ≡ laid first ++ (written x ++ rest) → (Keeps x → ⊥) → Found bytes
breaks bytes t first x others rest can are all is not =
    let le : back x ≤ length (laid first) = place_within t first others x are in
    let place : (length (laid first) - back x) + back x ≡ length (laid first) = omega (arith, le) in
    inl (
      record { at = length (laid first) - back x; kind = kind_of x },
      inl (record { t = t; first = first; field = x; others = others; rest = rest; begins = begins_with bytes t first (x ∷ others) (written x ++ rest) can are all is; broken = not; kind = refl; place = place }),
    )

ends : (bytes : List ℕ) (t : FileRows) (first : List Field) (x : Field) (others : List Field) (part lacking : List ℕ) → CanBeWritten t → fields t ≡ first ++ x ∷ others → AreKept first → bytes ≡ laid first ++ part → written x ≡ part ++ lacking → 0 < length lacking → Found bytes
ends bytes t first x others part lacking can are all is parts lacks =
    inl (
      record { at = length bytes; kind = kinds.Short },
      inr (inl (record { t = t; first = first; field = x; others = others; part = part; lacking = lacking; begins = begins_with bytes t first (x ∷ others) part can are all is; parts = parts; lacks = lacks; kind = refl; place = refl })),
    )

all_begins : (bytes : List ℕ) (t : FileRows) (rest : List ℕ) → CanBeWritten t → AreKept (fields t) → bytes ≡ laid (fields t) ++ rest → Begins bytes t (fields t) [] rest
all_begins bytes t rest can all is = begins_with bytes t (fields t) [] rest can (sym (append-nil (fields t))) all is

at_last : (bytes : List ℕ) (t : FileRows) (rest : List ℕ) → CanBeWritten t → AreKept (fields t) → bytes ≡ laid (fields t) ++ rest → Found bytes
at_last bytes t (b ∷ rest) can all is =
    inl (record { at = length (laid (fields t)); kind = kinds.Trailing }, inr (inr (inl (record { t = t; byte = b; rest = rest; begins = all_begins bytes t (b ∷ rest) can all is; kind = refl; place = refl }))))
at_last bytes t [] can all is =
    let some : 1 ≤ length t.contexts = (in_parts Keeps (front t) (context_list t t.contexts ++ link_list t) all).1.0 in
    let begins = all_begins bytes t [] can all is in
    elim (some_orphan t 1 (length t.contexts - 1) (omega (arith, some)) (omega arith) (λ u above below. absurd (omega (arith, above, below)))) [
      | inl o ↦ inl (record { at = length (laid (before_context t o.0)); kind = kinds.Orphan }, inr (inr (inr (record { t = t; v = o.0; begins = begins; orphan = o.1; kind = refl; place = refl }))))
      | inr all_reached ↦ inr (record { t = t; begins = begins; reached = all_reached })
    ]

of_whole : (bytes : List ℕ) (t : FileRows) (rest : List ℕ) → CanBeWritten t → bytes ≡ laid (fields t) ++ rest → Scanned (fields t) → Found bytes
of_whole bytes t rest can is (kept all) = at_last bytes t rest can all is
of_whole bytes t rest can is (broken first x others are all not) = breaks bytes t first x others (laid others ++ rest) can are all (parts_of (fields t) first others x bytes rest are is) not

of_part : (bytes : List ℕ) (t : FileRows) (front : List Field) (x : Field) (more : List Field) (part lacking : List ℕ) → CanBeWritten t → fields t ≡ front ++ x ∷ more → bytes ≡ laid front ++ part → written x ≡ part ++ lacking → 0 < length lacking → Scanned front → Found bytes
of_part bytes t front x more part lacking can are is parts lacks (kept all) = ends bytes t front x more part lacking can are all is parts lacks
of_part bytes t front x more part lacking can are is parts lacks (broken first y others also all not) =
    breaks bytes t first y (others ++ x ∷ more) (laid others ++ part) can
    (are ∙ ap (λ (zs : List Field). zs ++ x ∷ more) also ∙ append_assoc first (y ∷ others) (x ∷ more)) all
    (parts_of front first others y bytes part also is) not

of_built : (bytes : List ℕ) (t : FileRows) → CanBeWritten t → Meets bytes (fields t) → Found bytes
of_built bytes t can (whole rest are is) = of_whole bytes t rest can is (scan (fields t))
of_built bytes t can (within first x others part lacking fields_are is parts lacks) = of_part bytes t first x others part lacking can fields_are is parts lacks (scan first)

pub found : (bytes : List ℕ) → AreBytes bytes → ((d : Damage) × IsFirstDamage bytes d) ⊎ KeepsAllRules bytes
found bytes are = let b = built bytes are in of_built bytes b.t b.can b.meets

first_of : (bytes : List ℕ) (d : Damage) → Found bytes → read profile_file 0 bytes ≡ Err d → IsFirstDamage bytes d
first_of bytes d (inl e) is =
    let both : ◌≡◌ {A = Result ProfileRows Damage} (Err e.0) (Err d) = sym (first_read bytes e.0 e.1) ∙ is in
    let same : e.0 ≡ d = cc both in
    subst (λ (x : Damage). IsFirstDamage bytes x) same e.1
first_of bytes d (inr w) is = (let both : ◌≡◌ {A = Result ProfileRows Damage} (Ok _) (Err d) = sym (rules_read bytes w) ∙ is in absurd (cc both))

pub damaged_first : (bytes : List ℕ) (d : Damage) → All (λ b. b < 256) bytes → IsDamaged bytes d ↔ IsFirstDamage bytes d
damaged_first bytes d are = (λ is. first_of bytes d (found bytes (recursion_from_All (λ b. b < 256) bytes are)) is, first_read bytes d)

-- ---- the definition by itself

pub whole_or_first : (bytes : List ℕ) → All (λ b. b < 256) bytes → KeepsAllRules bytes ⊎ ((d : Damage) × IsFirstDamage bytes d)
whole_or_first bytes are = turned (found bytes (recursion_from_All (λ b. b < 256) bytes are))
  where
    turned : ((d : Damage) × IsFirstDamage bytes d) ⊎ KeepsAllRules bytes → KeepsAllRules bytes ⊎ ((d : Damage) × IsFirstDamage bytes d)
    turned (inl d) = inr d
    turned (inr w) = inl w

pub one_first : (bytes : List ℕ) (d e : Damage) → IsFirstDamage bytes d → IsFirstDamage bytes e → d ≡ e
one_first bytes d e this that = (let both : ◌≡◌ {A = Result ProfileRows Damage} (Err d) (Err e) = sym (first_read bytes d this) ∙ first_read bytes e that in cc both)

pub never_both : (bytes : List ℕ) (d : Damage) → KeepsAllRules bytes → IsFirstDamage bytes d → ⊥
never_both bytes d w first = (let both : ◌≡◌ {A = Result ProfileRows Damage} (Ok (profile_of w.t)) (Err d) = sym (rules_read bytes w) ∙ first_read bytes d first in cc both)

-- ---- the profiles

spelled_of : (bytes : List ℕ) (f : ProfileRows) → Found bytes → read profile_file 0 bytes ≡ Ok f → KeepsAllRules bytes
spelled_of bytes f (inl e) is = (let both : ◌≡◌ {A = Result ProfileRows Damage} (Err e.0) (Ok f) = sym (first_read bytes e.0 e.1) ∙ is in absurd (cc both))
spelled_of bytes f (inr w) is = w

pub spelled_whole : (bytes : List ℕ) → All (λ b. b < 256) bytes → ((f : ProfileRows) × Spells bytes f) ↔ KeepsAllRules bytes
spelled_whole bytes are =
    let bytes_are = recursion_from_All (λ b. b < 256) bytes are in
    (λ s. spelled_of bytes s.0 (found bytes bytes_are) (spells_read bytes s.0 s.1), λ w. (_, read_spells bytes _ bytes_are (rules_read bytes w)))
