-- The text in parts, as it is put together.
use Rattle.std.proofs.Common.{◌≡◌, ℕ, List, ◌++◌, codes, sym, ap, ◌∙◌, append_assoc}
use Rattle.std.specs.List.{flat_map}
use Rattle.std.proofs.lemmas.Grind.{flat_map-append}
use Rattle.md_dynamic.specs.Profile.{ProfileRows}
use Rattle.md_dump.specs.Text.{Words, line, title_words, finished_words, listed, module_words, proc_words, site_words, context_words, link_words, dump_text}

pub six_added : (a b c d e f x y z w u v : List ℕ) → x ≡ a → y ≡ x ++ b → z ≡ y ++ c → w ≡ z ++ d → u ≡ w ++ e → v ≡ u ++ f → v ≡ a ++ (b ++ (c ++ (d ++ (e ++ f))))
six_added a b c d e f x y z w u v one two three four five six =
    let e : ((((a ++ b) ++ c) ++ d) ++ e) ++ f ≡ a ++ (b ++ (c ++ (d ++ (e ++ f)))) = simp append_assoc in cc

lines_apart : (a b c d e : List Words) → flat_map line (a ++ (b ++ (c ++ (d ++ e)))) ≡ flat_map line a ++ (flat_map line b ++ (flat_map line c ++ (flat_map line d ++ flat_map line e)))
lines_apart a b c d e = simp flat_map-append

pub in_parts : (f : ProfileRows) → dump_text f
    ≡ (line title_words ++ line (finished_words f.finished))
    ++ (flat_map line (listed (codes "modules") module_words f.statics.modules)
    ++ (flat_map line (listed (codes "procs") proc_words f.statics.procs)
    ++ (flat_map line (listed (codes "sites") site_words f.statics.sites)
    ++ (flat_map line (listed (codes "contexts") context_words f.nodes)
    ++ flat_map line (listed (codes "links") link_words f.links)))))
in_parts f =
    let m = listed (codes "modules") module_words f.statics.modules in
    let p = listed (codes "procs") proc_words f.statics.procs in
    let x = listed (codes "sites") site_words f.statics.sites in
    let v = listed (codes "contexts") context_words f.nodes in
    let l = listed (codes "links") link_words f.links in
    ap (λ (xs : List ℕ). line title_words ++ (line (finished_words f.finished) ++ xs)) (lines_apart m p x v l)
    ∙ sym (append_assoc (line title_words) (line (finished_words f.finished)) (flat_map line m ++ (flat_map line p ++ (flat_map line x ++ (flat_map line v ++ flat_map line l)))))
