-- The bytes of a profile are those of its rows, field by field.
use Rattle.std.proofs.Common.{◌≡◌, ℕ, List, [], ◌∷◌, ◌++◌, length, map, refl, ap, ◌∙◌, append_assoc, append-nil}
use Rattle.std.specs.List.{flat_map}
use Rattle.std.proofs.lemmas.Grind.{flat_map-append}
use Rattle.std.proofs.lemmas.List.{length-map}
use Rattle.md_static.specs.declared.entry.Site.{Site}
use Rattle.md_dynamic.specs.declared.link.LinkRow.{LinkRow}
use Rattle.md_dynamic.specs.Profile.{ProfileRows}
use Rattle.md_deepfile.specs.Bytes.{u32, name_bytes, proc_bytes, site_bytes, link_bytes, each, magic, body_bytes}
use Rattle.law_damage.specs.Rows.{SiteNumbers, LinkNumbers, FileRows, counts_in, site_numbers, link_numbers, rows_of}
use Rattle.law_damage.specs.Fields.{Field, LinkCount, LinkFits, LinkIsNew, written, laid, behind, module_fields, proc_fields, site_fields, context_fields, link_fields, header, module_list, proc_list, site_list, context_list, link_list, fields}

laid_both : (xs ys : List Field) → laid (xs ++ ys) ≡ laid xs ++ laid ys
laid_both xs ys = flat_map-append written xs ys

behind_laid : {X : Type 0} (fields_of : List X → X → List Field) (spell : X → List ℕ) → ((before : List X) (x : X) → laid (fields_of before x) ≡ spell x) → (before xs : List X) → laid (behind fields_of before xs) ≡ flat_map spell xs
behind_laid {X} fields_of spell one before [] = refl
behind_laid {X} fields_of spell one before (x ∷ xs) =
    laid_both (fields_of before x) (behind fields_of (before ++ x ∷ []) xs)
    ∙ ap (λ (ys : List ℕ). ys ++ laid (behind fields_of (before ++ x ∷ []) xs)) (one before x)
    ∙ ap (λ (ys : List ℕ). spell x ++ ys) (behind_laid fields_of spell one (before ++ x ∷ []) xs)

map_laid : {X Y : Type 0} (h : X → Y) (spell : Y → List ℕ) (xs : List X) → flat_map spell (map h xs) ≡ flat_map (λ x. spell (h x)) xs
map_laid {X} {Y} h spell [] = refl
map_laid {X} {Y} h spell (x ∷ xs) = ap (λ (ys : List ℕ). spell (h x) ++ ys) (map_laid h spell xs)

modules_laid : (t : FileRows) → laid (module_list t) ≡ each name_bytes t.modules
modules_laid t = ap (λ (ys : List ℕ). u32 (length t.modules) ++ ys) (behind_laid module_fields name_bytes (λ before name. append-nil (name_bytes name)) [] t.modules)

procs_laid : (t : FileRows) → laid (proc_list t) ≡ each proc_bytes t.procs
procs_laid t = ap (λ (ys : List ℕ). u32 (length t.procs) ++ ys) (behind_laid (proc_fields (length t.modules)) proc_bytes (λ before p. refl) [] t.procs)

site_spelled : SiteNumbers → List ℕ
site_spelled x = u32 x.owner ++ (u32 x.line ++ u32 x.callee)

one_site : (procs : ℕ) (before : List SiteNumbers) (x : SiteNumbers) → laid (site_fields procs before x) ≡ site_spelled x
unfolding site_spelled
one_site procs before x = ap (λ (ys : List ℕ). u32 x.owner ++ (u32 x.line ++ ys)) (append-nil (u32 x.callee))

sites_spelled : (sites : List Site) → flat_map site_spelled (map site_numbers sites) ≡ flat_map site_bytes sites
unfolding site_spelled
sites_spelled sites = map_laid site_numbers site_spelled sites

sites_laid : (version : ℕ) (f : ProfileRows) → laid (site_list (rows_of version f)) ≡ each site_bytes f.statics.sites
sites_laid version f =
    let xs = map site_numbers f.statics.sites in
    ap (λ (ys : List ℕ). u32 (length xs) ++ ys) (behind_laid (site_fields (length f.statics.procs)) site_spelled (one_site (length f.statics.procs)) [] xs ∙ sites_spelled f.statics.sites)
    ∙ ap (λ (n : ℕ). u32 n ++ flat_map site_bytes f.statics.sites) (length-map f.statics.sites site_numbers)

contexts_laid : (t : FileRows) → laid (context_list t t.contexts) ≡ each u32 t.contexts
contexts_laid t = ap (λ (ys : List ℕ). u32 (length t.contexts) ++ ys) (behind_laid (context_fields (length t.procs)) u32 (λ before p. append-nil (u32 p)) [] t.contexts)

counts_laid : (ns : List ℕ) → laid (map LinkCount ns) ≡ flat_map u32 ns
counts_laid [] = refl
counts_laid (n ∷ ns) = ap (λ (ys : List ℕ). u32 n ++ ys) (counts_laid ns)

link_spelled : LinkNumbers → List ℕ
link_spelled l = u32 l.caller ++ (u32 l.site ++ (u32 l.callee ++ flat_map u32 l.own))

one_link : (sites : List SiteNumbers) (contexts : List ℕ) (before : List LinkNumbers) (l : LinkNumbers) → laid (link_fields sites contexts before l) ≡ link_spelled l
unfolding link_spelled
one_link sites contexts [] l = ap (λ (ys : List ℕ). u32 l.caller ++ (u32 l.site ++ (u32 l.callee ++ ys))) (counts_laid l.own)
one_link sites contexts (root ∷ before) l =
    ap (λ (ys : List ℕ). u32 l.caller ++ (u32 l.site ++ (u32 l.callee ++ ys)))
    (laid_both (map LinkCount l.own) (LinkFits sites contexts l ∷ LinkIsNew contexts before l ∷ []) ∙ append-nil (laid (map LinkCount l.own)) ∙ counts_laid l.own)

links_spelled : (k : ℕ) (links : List LinkRow) → flat_map link_spelled (map (link_numbers k) links) ≡ flat_map (link_bytes k) links
unfolding link_spelled
links_spelled k links = map_laid (link_numbers k) link_spelled links

links_laid : (version : ℕ) (f : ProfileRows) → laid (link_list (rows_of version f)) ≡ each (link_bytes (counts_in version)) f.links
links_laid version f =
    let k = counts_in version in
    let t = rows_of version f in
    ap (λ (ys : List ℕ). u32 (length t.links) ++ ys) (behind_laid (link_fields t.sites t.contexts) link_spelled (one_link t.sites t.contexts) [] t.links ∙ links_spelled k f.links)
    ∙ ap (λ (n : ℕ). u32 n ++ flat_map (link_bytes k) f.links) (length-map f.links (link_numbers k))

five : (h a b c d e : List Field) (p q r s u : List ℕ) → laid a ≡ p → laid b ≡ q → laid c ≡ r → laid d ≡ s → laid e ≡ u → laid ((h ++ (a ++ (b ++ c))) ++ (d ++ e)) ≡ laid h ++ (p ++ (q ++ (r ++ (s ++ u))))
five h a b c d e p q r s u a_is b_is c_is d_is e_is =
    laid_both (h ++ (a ++ (b ++ c))) (d ++ e) ∙ ap (λ (ys : List ℕ). laid (h ++ (a ++ (b ++ c))) ++ ys) (laid_both d e)
    ∙ ap (λ (ys : List ℕ). ys ++ (laid d ++ laid e)) (laid_both h (a ++ (b ++ c)) ∙ ap (λ (ys : List ℕ). laid h ++ ys) (laid_both a (b ++ c) ∙ ap (λ (ys : List ℕ). laid a ++ ys) (laid_both b c)))
    ∙ append_assoc (laid h) (laid a ++ (laid b ++ laid c)) (laid d ++ laid e)
    ∙ ap (λ (ys : List ℕ). laid h ++ ys) (append_assoc (laid a) (laid b ++ laid c) (laid d ++ laid e) ∙ ap (λ (ys : List ℕ). laid a ++ ys) (append_assoc (laid b) (laid c) (laid d ++ laid e)))
    ∙ (λ i. laid h ++ (a_is i ++ (b_is i ++ (c_is i ++ (d_is i ++ e_is i)))))

pub file_laid : (version : ℕ) (f : ProfileRows) → laid (fields (rows_of version f)) ≡ magic ++ version ∷ body_bytes (counts_in version) f
file_laid version f =
    let t = rows_of version f in
    let k = counts_in version in
    five (header t) (module_list t) (proc_list t) (site_list t) (context_list t t.contexts) (link_list t)
    (each name_bytes f.statics.modules) (each proc_bytes f.statics.procs) (each site_bytes f.statics.sites) (each u32 f.nodes) (each (link_bytes k) f.links)
    (modules_laid t) (procs_laid t) (sites_laid version f) (contexts_laid t) (links_laid version f)
