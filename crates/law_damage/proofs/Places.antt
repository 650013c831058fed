-- A damage is placed within the bytes before its field.
use Rattle.std.proofs.Common.{◌≡◌, ℕ, ◌+◌, ◌*◌, ◌≤◌, List, [], ◌∷◌, ◌++◌, length, map, subst, length-append, arith}
use Rattle.md_deepfile.specs.Bytes.{magic}
use Rattle.law_damage.specs.Rows.{SiteNumbers, LinkNumbers, FileRows}
use Rattle.law_damage.specs.Fields.{Field, LinkCaller, LinkSite, LinkCallee, LinkCount, LinkFits, LinkIsNew, laid, written, back, link_size, behind, magic_fields, module_fields, proc_fields, site_fields, context_fields, link_fields, header, module_list, proc_list, site_list, context_list, link_list, front, fields}
use Rattle.law_damage.proofs.Orphans.{numbers_size, counts_size}

-- so many bytes stand before these fields, and no place is further back
abbrev ReachBack : ℕ → List Field → Type 0
ReachBack n [] = Unit {0}
ReachBack n (x ∷ xs) = (back x ≤ n) × ReachBack (n + length (written x)) xs

reach_on : (n : ℕ) (xs ys : List Field) → ReachBack n xs → ReachBack (n + length (laid xs)) ys → ReachBack n (xs ++ ys)
reach_on n [] ys a b = (let same : n + 0 ≡ n = omega arith in subst (λ (k : ℕ). ReachBack k ys) same b)
reach_on n (x ∷ xs) ys a b =
    let size : n + length (written x ++ laid xs) ≡ (n + length (written x)) + length (laid xs) = omega (arith, length-append (written x) (laid xs)) in
    (a.0, reach_on (n + length (written x)) xs ys a.1 (subst (λ (k : ℕ). ReachBack k ys) size b))

-- however many bytes stand before them
abbrev Anywhere : List Field → Type 0
Anywhere xs = (n : ℕ) → ReachBack n xs

both : (xs ys : List Field) → Anywhere xs → Anywhere ys → Anywhere (xs ++ ys)
both xs ys a b n = reach_on n xs ys (a n) (b (n + length (laid xs)))

rows_anywhere : {X : Type 0} (fields_of : List X → X → List Field) → ((before : List X) (x : X) → Anywhere (fields_of before x)) → (before xs : List X) → Anywhere (behind fields_of before xs)
rows_anywhere {X} fields_of each before [] n = tt
rows_anywhere {X} fields_of each before (x ∷ xs) n = both (fields_of before x) (behind fields_of (before ++ x ∷ []) xs) (each before x) (rows_anywhere fields_of each (before ++ x ∷ []) xs) n

counts_anywhere : (ns : List ℕ) → Anywhere (map LinkCount ns)
counts_anywhere [] n = tt
counts_anywhere (m ∷ ns) n = (omega arith, counts_anywhere ns _)

link_anywhere : (sites : List SiteNumbers) (contexts : List ℕ) (before : List LinkNumbers) (l : LinkNumbers) → Anywhere (link_fields sites contexts before l)
link_anywhere sites contexts [] l n = (omega arith, (omega arith, (omega arith, counts_anywhere l.own _)))
link_anywhere sites contexts (root ∷ before) l n =
    let numbers : List Field = LinkCaller (length contexts) l.caller ∷ LinkSite (length sites) l.site ∷ LinkCallee (length contexts) l.callee ∷ map LinkCount l.own in
    let marks : List Field = LinkFits sites contexts l ∷ LinkIsNew contexts before l ∷ [] in
    let size : length (laid numbers) ≡ 12 + 4 * length l.own = omega (arith, numbers_size l.caller l.site l.callee (laid (map LinkCount l.own)), counts_size l.own) in
    let fits : link_size l ≤ n + length (laid numbers) = omega (arith, size) in
    let new : link_size l ≤ (n + length (laid numbers)) + 0 = omega (arith, size) in
    reach_on n numbers marks (omega arith, (omega arith, (omega arith, counts_anywhere l.own _))) (fits, (new, tt))

magic_anywhere : (ms bs : List ℕ) → Anywhere (magic_fields ms bs)
magic_anywhere [] bs n = tt
magic_anywhere (m ∷ ms) [] n = tt
magic_anywhere (m ∷ ms) (b ∷ bs) n = (omega arith, magic_anywhere ms bs _)

fields_anywhere : (t : FileRows) → Anywhere (fields t)
fields_anywhere t =
    let heads : Anywhere (header t) = both (magic_fields magic t.magic) _ (magic_anywhere magic t.magic) (λ n. (omega arith, (omega arith, tt))) in
    let modules : Anywhere (module_list t) = λ n. (omega arith, rows_anywhere module_fields (λ before x n. (omega arith, tt)) [] t.modules _) in
    let procs : Anywhere (proc_list t) = λ n. (omega arith, rows_anywhere (proc_fields (length t.modules)) (λ before x n. (omega arith, (omega arith, (omega arith, tt)))) [] t.procs _) in
    let sites : Anywhere (site_list t) = λ n. (omega arith, rows_anywhere (site_fields (length t.procs)) (λ before x n. (omega arith, (omega arith, (omega arith, tt)))) [] t.sites _) in
    let contexts : Anywhere (context_list t t.contexts) = λ n. (omega arith, rows_anywhere (context_fields (length t.procs)) (λ before x n. (omega arith, tt)) [] t.contexts _) in
    let links : Anywhere (link_list t) = λ n. (omega arith, rows_anywhere (link_fields t.sites t.contexts) (link_anywhere t.sites t.contexts) [] t.links _) in
    both (front t) (context_list t t.contexts ++ link_list t)
    (both (header t) (module_list t ++ (proc_list t ++ site_list t)) heads (both (module_list t) (proc_list t ++ site_list t) modules (both (proc_list t) (site_list t) procs sites)))
    (both (context_list t t.contexts) (link_list t) contexts links)

reach_at : (n : ℕ) (first others : List Field) (x : Field) → ReachBack n (first ++ x ∷ others) → back x ≤ n + length (laid first)
reach_at n [] others x all = (let le : back x ≤ n = all.0 in omega (arith, le))
reach_at n (y ∷ first) others x all =
    let le : back x ≤ (n + length (written y)) + length (laid first) = reach_at (n + length (written y)) first others x all.1 in
    omega (arith, le, length-append (written y) (laid first))

pub place_within : (t : FileRows) (first others : List Field) (x : Field) → fields t ≡ first ++ x ∷ others → back x ≤ length (laid first)
place_within t first others x are =
    let le : back x ≤ 0 + length (laid first) = reach_at 0 first others x (subst (λ (xs : List Field). ReachBack 0 xs) are (fields_anywhere t 0)) in
    omega (arith, le)
