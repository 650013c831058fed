-- The text of a profile is its lines, one behind the other.
use Rattle.std.proofs.Common.{◌≡◌, ℕ, List, [], ◌∷◌, ◌++◌, length, map, codes, refl, sym, ap, ◌∙◌, append_assoc}
use Rattle.std.specs.List.{flat_map}
use Rattle.std.proofs.lemmas.List.Folds.{flat_map-map}
use Rattle.md_dynamic.specs.declared.link.LinkRow.{LinkRow}
use Rattle.md_static.specs.Tables.{Static}
use Rattle.md_dynamic.specs.Profile.{ProfileRows}
use Rattle.md_dump.specs.Text.{Words, line, title_words, finished_words, count_words, module_words, proc_words, site_words, context_words, link_words, dump_lines, dump_text}
use Rattle.law_faults.specs.Lines.{Line, Module, Procedure, CallSite, words, laid, behind, context_line, link_line, module_list, proc_list, site_list, context_list, link_list, front, lines}

words_both : (xs ys : List Line) → map words (xs ++ ys) ≡ map words xs ++ map words ys
words_both [] ys = refl
words_both (x ∷ xs) ys = ap (λ (ls : List Words). words x ∷ ls) (words_both xs ys)

words_behind : {X : Type 0} (line_of : List X → X → Line) (spell : X → Words) → ((before : List X) (x : X) → words (line_of before x) ≡ spell x) → (before xs : List X) → map words (behind line_of before xs) ≡ map spell xs
words_behind {X} line_of spell one before [] = refl
words_behind {X} line_of spell one before (x ∷ xs) = λ i. one before x i ∷ words_behind line_of spell one (before ++ x ∷ []) xs i

link_one : (statics : Static) (nodes : List ℕ) (before : List LinkRow) (l : LinkRow) → words (link_line statics nodes before l) ≡ link_words l
link_one statics nodes [] l = refl
link_one statics nodes (root ∷ before) l = refl

five : (t u : Words) (a b c d e : List Words) → (t ∷ u ∷ (a ++ (b ++ c))) ++ (d ++ e) ≡ t ∷ u ∷ (a ++ (b ++ (c ++ (d ++ e))))
five t u a b c d e = ap (λ (ls : List Words). t ∷ u ∷ ls) (append_assoc a (b ++ c) (d ++ e) ∙ ap (λ (ls : List Words). a ++ ls) (append_assoc b c (d ++ e)))

lines_words : (f : ProfileRows) → map words (lines f) ≡ dump_lines f
lines_words f =
    let m = words_behind Module module_words (λ before x. refl) [] f.statics.modules in
    let p = words_behind (Procedure (length f.statics.modules)) proc_words (λ before x. refl) [] f.statics.procs in
    let s = words_behind (CallSite (length f.statics.procs)) site_words (λ before x. refl) [] f.statics.sites in
    let c = words_behind (context_line (length f.statics.procs)) context_words (λ before x. refl) [] f.nodes in
    let l = words_behind (link_line f.statics f.nodes) link_words (link_one f.statics f.nodes) [] f.links in
    words_both (front f) (context_list f f.nodes ++ link_list f)
    ∙ ap (λ (ls : List Words). map words (front f) ++ ls) (words_both (context_list f f.nodes) (link_list f))
    ∙ ap (λ (ls : List Words). (title_words ∷ finished_words f.finished ∷ ls) ++ (map words (context_list f f.nodes) ++ map words (link_list f)))
    (words_both (module_list f) (proc_list f ++ site_list f) ∙ ap (λ (ls : List Words). map words (module_list f) ++ ls) (words_both (proc_list f) (site_list f)))
    ∙ five title_words (finished_words f.finished) (map words (module_list f)) (map words (proc_list f)) (map words (site_list f)) (map words (context_list f f.nodes)) (map words (link_list f))
    ∙ (λ i. title_words ∷ finished_words f.finished
    ∷ ((words_of_list (codes "modules") (length f.statics.modules) (m i))
    ++ ((words_of_list (codes "procs") (length f.statics.procs) (p i))
    ++ ((words_of_list (codes "sites") (length f.statics.sites) (s i))
    ++ ((words_of_list (codes "contexts") (length f.nodes) (c i))
    ++ (words_of_list (codes "links") (length f.links) (l i)))))))
  where
    words_of_list : List ℕ → ℕ → List Words → List Words
    words_of_list name n ls = count_words name n ∷ ls

pub text_laid : (f : ProfileRows) → dump_text f ≡ laid (lines f)
text_laid f = ap (flat_map line) (sym (lines_words f)) ∙ flat_map-map line words (lines f)
