-- A reader finds the first damage of the definition.
use Rattle.std.proofs.Common.{◌≡◌, ℕ, zero, suc, ◌+◌, ◌-◌, ◌*◌, ◌<◌, ◌≤◌, ◌^◌, inl, inr, Bool, true, cond, List, [], ◌∷◌, ◌++◌, length, Option, None, Some, option_map, Result, Ok, Err, refl, sym, ap, subst, ◌∙◌, length-append, arith}
use Rattle.std.specs.List.{AllByRecursion}
use Rattle.std.proofs.lemmas.List.Elements.{recursion_from_All}
use Rattle.md_dynamic.specs.Profile.{ProfileRows}
use Rattle.md_deepfile.specs.Fields.{Text, ending, profile_file}
use Rattle.md_deepfile.specs.Format.{Damage, read, damage, ended}
use Rattle.md_deepfile.specs.Rules.{orphan_from, link_size}
use Rattle.md_deepfile.specs.declared.damage.Kind.{Kind}
use Rattle.md_deepfile.specs.declared.damage.Kind.TheVariants as kinds
use Rattle.law_damage.specs.Rows.{LinkNumbers, FileRows, counts_in}
use Rattle.law_damage.specs.Fields.{HasRoom, Field, Count, value, written, laid, Keeps, kind_of, back, behind, link_fields, context_list, link_list, front, fields}
use Rattle.law_damage.specs.Damage.{CanBeWritten, Begins, BreaksRule, EndsEarly, GoesOn, HasOrphan, IsFirstDamage, KeepsAllRules}
use Rattle.law_damage.proofs.Along.{Along, AreRoomy, AreKept, Passed, passed}
use Rattle.law_damage.proofs.Sections.{link_rows, profile_of, file_along}
use Rattle.law_damage.proofs.Orphans.{HasRoot, orphan_of, orphan_place, is_reached, reaches, same_reached}
use Rattle.std.specs.List.{list_any}

-- a fact of each in two lists
pub in_parts : {X : Type 0} (P : X → Type 0) (xs ys : List X) → AllByRecursion P (xs ++ ys) → AllByRecursion P xs × AllByRecursion P ys
in_parts {X} P [] ys all = (tt, all)
in_parts {X} P (x ∷ xs) ys all = let more = in_parts P xs ys all.1 in ((all.0, more.0), more.1)

pub counts_of : (t : FileRows) → CanBeWritten t → AllByRecursion (λ y. length y.own ≡ counts_in t.version) t.links
counts_of t can = recursion_from_All (λ (y : LinkNumbers). length y.own ≡ counts_in t.version) t.links can.counts

pub along_of : (t : FileRows) → CanBeWritten t → Along profile_file (fields t) (ending (counts_in t.version) (profile_of t))
along_of t can = file_along t can.magic (counts_of t can)

pub roomy : (t : FileRows) → CanBeWritten t → AreRoomy (fields t)
roomy t can = recursion_from_All (λ (x : Field). HasRoom (value x)) (fields t) can.room

rooms_of : (bytes : List ℕ) (t : FileRows) (first others : List Field) (rest : List ℕ) → Begins bytes t first others rest → AreRoomy first × AreRoomy others
rooms_of bytes t first others rest begins = in_parts (λ (x : Field). HasRoom (value x)) first others (subst AreRoomy begins.are (roomy t begins.rows))

starts : (bytes : List ℕ) (t : FileRows) (first others : List Field) (rest : List ℕ) → Begins bytes t first others rest → Passed profile_file (ending (counts_in t.version) (profile_of t)) first others 0 rest
starts bytes t first others rest begins =
    let end = ending (counts_in t.version) (profile_of t) in
    passed profile_file end first others (subst (λ (xs : List Field). Along profile_file xs end) begins.are (along_of t begins.rows))
    (rooms_of bytes t first others rest begins).0 (recursion_from_All Keeps first begins.keep) 0 rest

damage_is : (d : Damage) (at : ℕ) (kind : Kind) → d.at ≡ at → d.kind ≡ kind → ◌≡◌ {A = Result ProfileRows Damage} (damage at kind) (Err d)
damage_is d at kind place same = λ i. Err (record { at = sym place i; kind = sym same i })

-- the rest of the bytes is read from there
from_there : (bytes : List ℕ) (t : FileRows) (first others : List Field) (rest : List ℕ) (begins : Begins bytes t first others rest) (r : Result ProfileRows Damage)
    → read (starts bytes t first others rest begins).mid (length (laid first)) rest ≡ r → read profile_file 0 bytes ≡ r
from_there bytes t first others rest begins r is =
    let s = starts bytes t first others rest begins in
    let place : 0 + length (laid first) ≡ length (laid first) = omega arith in
    ap (read profile_file 0) begins.bytes_are ∙ s.is ∙ ap (λ (n : ℕ). read s.mid n rest) place ∙ is

pub breaks_read : (bytes : List ℕ) (d : Damage) → BreaksRule bytes d → read profile_file 0 bytes ≡ Err d
breaks_read bytes d b =
    let all = written b.field ++ b.rest in
    let s = starts bytes b.t b.first (b.field ∷ b.others) all b.begins in
    let room = (rooms_of bytes b.t b.first (b.field ∷ b.others) all b.begins).1.0 in
    let place : d.at ≡ length (laid b.first) - back b.field = (let sum : d.at + back b.field ≡ length (laid b.first) = b.place in omega (arith, sum)) in
    from_there bytes b.t b.first (b.field ∷ b.others) all b.begins (Err d)
    (s.goes.1.stops room b.broken (length (laid b.first)) b.rest ∙ damage_is d (length (laid b.first) - back b.field) (kind_of b.field) place b.kind)

pub early_read : (bytes : List ℕ) (d : Damage) → EndsEarly bytes d → read profile_file 0 bytes ≡ Err d
early_read bytes d e =
    let s = starts bytes e.t e.first (e.field ∷ e.others) e.part e.begins in
    let room = (rooms_of bytes e.t e.first (e.field ∷ e.others) e.part e.begins).1.0 in
    let size : length bytes ≡ length (laid e.first) + length e.part = ap length e.begins.bytes_are ∙ length-append (laid e.first) e.part in
    from_there bytes e.t e.first (e.field ∷ e.others) e.part e.begins (Err d)
    (s.goes.1.cut room e.part e.lacking e.parts e.lacks (length (laid e.first)) ∙ damage_is d (length (laid e.first) + length e.part) kinds.Short (e.place ∙ size) e.kind)

-- at the end
at_end : (bytes : List ℕ) (t : FileRows) (rest : List ℕ) (begins : Begins bytes t (fields t) [] rest) (r : Result ProfileRows Damage)
    → read (ending (counts_in t.version) (profile_of t)) (length (laid (fields t))) rest ≡ r → read profile_file 0 bytes ≡ r
at_end bytes t rest begins r is =
    let s = starts bytes t (fields t) [] rest begins in
    from_there bytes t (fields t) [] rest begins r (ap (λ (form : Text). read form (length (laid (fields t))) rest) s.goes ∙ is)

pub goes_on_read : (bytes : List ℕ) (d : Damage) → GoesOn bytes d → read profile_file 0 bytes ≡ Err d
goes_on_read bytes d g = at_end bytes g.t (g.byte ∷ g.rest) g.begins (Err d) (damage_is d (length (laid (fields g.t))) kinds.Trailing g.place g.kind)

-- what the rules say of link 0 and of how many contexts there are
root_in : (t : FileRows) (links : List LinkNumbers) → t.links ≡ links → AreKept (Count (length links) ∷ behind (link_fields t.sites t.contexts) [] links) → HasRoot links
root_in t [] is kept = tt
root_in t (root ∷ others) is kept = kept.1.0

pub root_of_kept : (t : FileRows) → AreKept (fields t) → HasRoot t.links
root_of_kept t kept =
    let back_part = (in_parts Keeps (front t) (context_list t t.contexts ++ link_list t) kept).1 in
    root_in t t.links refl (in_parts Keeps (context_list t t.contexts) (link_list t) back_part).1

pub few_contexts : (t : FileRows) → AreRoomy (fields t) → length t.contexts < 2 ^ 32
few_contexts t rooms = (in_parts (λ (x : Field). HasRoom (value x)) (front t) (context_list t t.contexts ++ link_list t) rooms).1.0

orphan_end : (o : Option ℕ) (g : ℕ → ℕ) (v : ℕ) (f : ProfileRows) (at : ℕ) → o ≡ Some v → ended (option_map g o) f at ≡ damage (at - g v) kinds.Orphan
orphan_end o g v f at is = ap (λ (p : Option ℕ). ended (option_map g p) f at) is

pub orphan_read : (bytes : List ℕ) (d : Damage) → HasOrphan bytes d → read profile_file 0 bytes ≡ Err d
orphan_read bytes d h =
    let t = h.t in
    let k = counts_in t.version in
    let kept = recursion_from_All Keeps (fields t) h.begins.keep in
    let within : h.v < length t.contexts = h.orphan.within in
    let found = orphan_of t h.v h.orphan (few_contexts t (roomy t h.begins.rows)) (root_of_kept t kept) in
    let place = orphan_place k t h.v (counts_of t h.begins.rows) (omega (arith, within)) in
    at_end bytes t [] h.begins (Err d)
    (orphan_end (orphan_from (link_rows t.links) 1 (length t.contexts - 1)) (λ (v : ℕ). 4 * (length t.contexts - v) + (4 + link_size k * length (link_rows t.links))) h.v (profile_of t) (length (laid (fields t))) found
    ∙ damage_is d _ kinds.Orphan (h.place ∙ sym place) h.kind)

pub first_read : (bytes : List ℕ) (d : Damage) → IsFirstDamage bytes d → read profile_file 0 bytes ≡ Err d
first_read bytes d (inl b) = breaks_read bytes d b
first_read bytes d (inr (inl e)) = early_read bytes d e
first_read bytes d (inr (inr (inl g))) = goes_on_read bytes d g
first_read bytes d (inr (inr (inr h))) = orphan_read bytes d h

-- where all rules are kept, the rows are read
none_orphan : (links : List LinkNumbers) (v n : ℕ) → HasRoot links → v + n ≤ 2 ^ 32 → ((u : ℕ) → v ≤ u → u < v + n → list_any (reaches u) links ≡ true) → orphan_from (link_rows links) v n ≡ None
none_orphan links v zero root few all = refl
none_orphan links v (suc n) root few all =
    ap (λ (b : Bool). cond b (orphan_from (link_rows links) (suc v) n) (Some v)) (same_reached v links root (omega (arith, few)) ∙ all v (omega arith) (omega arith))
    ∙ none_orphan links (suc v) n root (omega (arith, few)) (λ u le lt. all u (omega (arith, le)) (omega (arith, lt)))

pub rules_read : (bytes : List ℕ) → (w : KeepsAllRules bytes) → read profile_file 0 bytes ≡ Ok (profile_of w.t)
rules_read bytes w =
    let t = w.t in
    let k = counts_in t.version in
    let kept = recursion_from_All Keeps (fields t) w.begins.keep in
    let few = few_contexts t (roomy t w.begins.rows) in
    let fewer : 1 + (length t.contexts - 1) ≤ 2 ^ 32 = omega (arith, few) in
    let none = none_orphan t.links 1 (length t.contexts - 1) (root_of_kept t kept) fewer (λ u le lt. is_reached t u (w.reached u (omega (arith, le)) (omega (arith, lt, le)))) in
    at_end bytes t [] w.begins (Ok (profile_of t))
    (ap (λ (o : Option ℕ). ended (option_map (λ (v : ℕ). 4 * (length t.contexts - v) + (4 + link_size k * length (link_rows t.links))) o) (profile_of t) (length (laid (fields t)))) none)
