-- The whole text: what a reader takes is the text of a profile whose things are fine, and such a text is taken again.
use Rattle.std.proofs.Common.{◌≡◌, ℕ, ◌+◌, ◌-◌, ◌*◌, ◌<◌, ◌≤◌, ◌^◌, Bool, true, false, cond, List, [], ◌∷◌, ◌++◌, length, codes, map, Option, None, Some, refl, sym, ap, subst, ◌∙◌, arith}
use Rattle.std.specs.Option.{option_map}
use Rattle.std.specs.Str.{bytes_eq}
use Rattle.std.proofs.lemmas.List.{append-nil, map-append}
use Rattle.std.proofs.lemmas.Slice.Eq.{bytes_eq-Decides}
use Rattle.md_static.specs.declared.entry.Proc.{Proc}
use Rattle.md_static.specs.declared.entry.Site.{Site}
use Rattle.md_dynamic.specs.declared.link.LinkRow.{LinkRow}
use Rattle.md_dynamic.specs.Profile.{ProfileRows}
use Rattle.md_deepfile.specs.Rules.{begun, with_module, with_proc, with_site, with_context, with_link, orphan_from, orphan_back, link_size}
use Rattle.md_deepfile.proofs.Things.{AllFine, IsFineModule, IsFineProc, IsFineSite, IsFineContext, IsFineRoot, IsFineLink}
use Rattle.md_deepfile.proofs.Whole.{rows, added, AllFields}
use Rattle.md_dump.specs.Due.{done, must}
use Rattle.md_dump.specs.Lines.{Next, all_sections, section_due, sections_due, finished_due, profile_text}
use Rattle.md_dump.specs.Text.{Words, title_words, finished_words, listed, module_words, proc_words, site_words, context_words, link_words, dump_lines}
use Rattle.md_dump.specs.declared.section.Section.TheVariants as sections
use Rattle.md_dump.proofs.Accepting.{Accepts, kept_by}
use Rattle.md_dump.proofs.Clean.{row, AreClean, row_without, name_clean}
use Rattle.md_dump.proofs.LinkMembers.{IsFineLinkLine, link_member}
use Rattle.md_dump.proofs.Listed.{AreLines, both_lines, section_takes, section_again, section_lines}
use Rattle.md_dump.proofs.Members.{NoRoom, SiteRoom, module_member, proc_member, site_member, context_member}

-- links behind the root link
others_fine : (m : List (List ℕ)) (p : List Proc) (x : List Site) (v : List ℕ) (r : LinkRow) (rs others : List LinkRow) (finished : Bool)
    → AllFine with_link IsFineLinkLine (rows m p x v (r ∷ rs) finished) others → AllFine with_link (IsFineLink 7) (rows m p x v (r ∷ rs) finished) others
others_fine m p x v r rs [] finished h = tt
others_fine m p x v r rs (o ∷ os) finished h = (h.0, others_fine m p x v r (rs ++ o ∷ []) os finished h.1)

fine_others : (m : List (List ℕ)) (p : List Proc) (x : List Site) (v : List ℕ) (r : LinkRow) (rs others : List LinkRow) (finished : Bool)
    → AllFine with_link (IsFineLink 7) (rows m p x v (r ∷ rs) finished) others → AllFine with_link IsFineLinkLine (rows m p x v (r ∷ rs) finished) others
fine_others m p x v r rs [] finished h = tt
fine_others m p x v r rs (o ∷ os) finished h = (h.0, fine_others m p x v r (rs ++ o ∷ []) os finished h.1)

-- the sections, from the last one
record LinksTaken (m : List (List ℕ)) (p : List Proc) (x : List Site) (v : List ℕ) (finished : Bool) (ls : List (List ℕ)) (g : ProfileRows) : Type 0 where
  pub links : List LinkRow
  pub few : length links < 2 ^ 32
  pub some : 1 ≤ length links
  pub fine : AllFine with_link IsFineLinkLine (rows m p x v [] finished) links
  pub reached : orphan_from links 1 (length v - 1) ≡ None
  pub is : rows m p x v links finished ≡ g
  pub parts : ls ≡ map row (listed (codes "links") link_words links)

end_takes : (f : ProfileRows) (ls : List (List ℕ)) (g : ProfileRows) → Accepts (done f) ls g → (ls ≡ []) × (orphan_from f.links 1 (length f.nodes - 1) ≡ None) × (f ≡ g)
end_takes f [] g h = (refl, h.0, h.1)
end_takes f (l ∷ ls) g h = absurd h

links_take : (m : List (List ℕ)) (p : List Proc) (x : List Site) (v : List ℕ) (finished : Bool) (ls : List (List ℕ)) (g : ProfileRows)
    → Accepts (section_due sections.Links (rows m p x v [] finished) done) ls g → LinksTaken m p x v finished ls g
links_take m p x v finished ls g h =
    let t = section_takes sections.Links link_words with_link IsFineLinkLine NoRoom link_member (rows m p x v [] finished) tt done ls g h in
    let at = added with_link (λ zs. rows m p x v zs finished) (λ zs y. refl) [] t.things in
    let last = end_takes (rows m p x v t.things finished) t.rest g (subst (λ (f : ProfileRows). Accepts (done f) t.rest g) at t.goes) in
    record {
      links = t.things;
      few = t.few;
      some = t.enough;
      fine = t.fine;
      reached = last.1;
      is = last.2;
      parts = t.parts ∙ ap (λ (rest : List (List ℕ)). map row (listed (codes "links") link_words t.things) ++ rest) last.0 ∙ append-nil (map row (listed (codes "links") link_words t.things));
    }

record ContextsTaken (m : List (List ℕ)) (p : List Proc) (x : List Site) (finished : Bool) (ls : List (List ℕ)) (g : ProfileRows) : Type 0 where
  pub v : List ℕ
  pub rest : List (List ℕ)
  pub few : length v < 2 ^ 32
  pub some : 1 ≤ length v
  pub fine : AllFine with_context IsFineContext (rows m p x [] [] finished) v
  pub parts : ls ≡ map row (listed (codes "contexts") context_words v) ++ rest
  pub links : LinksTaken m p x v finished rest g

contexts_take : (m : List (List ℕ)) (p : List Proc) (x : List Site) (finished : Bool) (ls : List (List ℕ)) (g : ProfileRows)
    → Accepts (sections_due (sections.Contexts ∷ sections.Links ∷ []) (rows m p x [] [] finished) done) ls g → ContextsTaken m p x finished ls g
contexts_take m p x finished ls g h =
    let next : Next = λ f. sections_due (sections.Links ∷ []) f done in
    let t = section_takes sections.Contexts context_words with_context IsFineContext NoRoom context_member (rows m p x [] [] finished) tt next ls g h in
    let at = added with_context (λ zs. rows m p x zs [] finished) (λ zs y. refl) [] t.things in
    record {
      v = t.things;
      rest = t.rest;
      few = t.few;
      some = t.enough;
      fine = t.fine;
      parts = t.parts;
      links = links_take m p x t.things finished t.rest g (subst (λ (f : ProfileRows). Accepts (sections_due (sections.Links ∷ []) f done) t.rest g) at t.goes);
    }

record SitesTaken (m : List (List ℕ)) (p : List Proc) (finished : Bool) (ls : List (List ℕ)) (g : ProfileRows) : Type 0 where
  pub x : List Site
  pub rest : List (List ℕ)
  pub few : length x < 2 ^ 32
  pub fine : AllFine with_site IsFineSite (rows m p [] [] [] finished) x
  pub parts : ls ≡ map row (listed (codes "sites") site_words x) ++ rest
  pub contexts : ContextsTaken m p x finished rest g

sites_take : (m : List (List ℕ)) (p : List Proc) (finished : Bool) (ls : List (List ℕ)) (g : ProfileRows) → length p < 2 ^ 32
    → Accepts (sections_due (sections.Sites ∷ sections.Contexts ∷ sections.Links ∷ []) (rows m p [] [] [] finished) done) ls g → SitesTaken m p finished ls g
sites_take m p finished ls g few h =
    let next : Next = λ f. sections_due (sections.Contexts ∷ sections.Links ∷ []) f done in
    let t = section_takes sections.Sites site_words with_site IsFineSite SiteRoom site_member (rows m p [] [] [] finished) few next ls g h in
    let at = added with_site (λ zs. rows m p zs [] [] finished) (λ zs y. refl) [] t.things in
    record {
      x = t.things;
      rest = t.rest;
      few = t.few;
      fine = t.fine;
      parts = t.parts;
      contexts = contexts_take m p t.things finished t.rest g (subst (λ (f : ProfileRows). Accepts (sections_due (sections.Contexts ∷ sections.Links ∷ []) f done) t.rest g) at t.goes);
    }

record ProcsTaken (m : List (List ℕ)) (finished : Bool) (ls : List (List ℕ)) (g : ProfileRows) : Type 0 where
  pub p : List Proc
  pub rest : List (List ℕ)
  pub few : length p < 2 ^ 32
  pub some : 1 ≤ length p
  pub fine : AllFine with_proc IsFineProc (rows m [] [] [] [] finished) p
  pub parts : ls ≡ map row (listed (codes "procs") proc_words p) ++ rest
  pub sites : SitesTaken m p finished rest g

procs_take : (m : List (List ℕ)) (finished : Bool) (ls : List (List ℕ)) (g : ProfileRows)
    → Accepts (sections_due (sections.Procs ∷ sections.Sites ∷ sections.Contexts ∷ sections.Links ∷ []) (rows m [] [] [] [] finished) done) ls g → ProcsTaken m finished ls g
procs_take m finished ls g h =
    let next : Next = λ f. sections_due (sections.Sites ∷ sections.Contexts ∷ sections.Links ∷ []) f done in
    let t = section_takes sections.Procs proc_words with_proc IsFineProc NoRoom proc_member (rows m [] [] [] [] finished) tt next ls g h in
    let at = added with_proc (λ zs. rows m zs [] [] [] finished) (λ zs y. refl) [] t.things in
    record {
      p = t.things;
      rest = t.rest;
      few = t.few;
      some = t.enough;
      fine = t.fine;
      parts = t.parts;
      sites = sites_take m t.things finished t.rest g t.few (subst (λ (f : ProfileRows). Accepts (sections_due (sections.Sites ∷ sections.Contexts ∷ sections.Links ∷ []) f done) t.rest g) at t.goes);
    }

record ModulesTaken (finished : Bool) (ls : List (List ℕ)) (g : ProfileRows) : Type 0 where
  pub m : List (List ℕ)
  pub rest : List (List ℕ)
  pub few : length m < 2 ^ 32
  pub some : 1 ≤ length m
  pub fine : AllFine with_module IsFineModule (begun finished) m
  pub parts : ls ≡ map row (listed (codes "modules") module_words m) ++ rest
  pub procs : ProcsTaken m finished rest g

modules_take : (finished : Bool) (ls : List (List ℕ)) (g : ProfileRows) → Accepts (sections_due all_sections (begun finished) done) ls g → ModulesTaken finished ls g
modules_take finished ls g h =
    let next : Next = λ f. sections_due (sections.Procs ∷ sections.Sites ∷ sections.Contexts ∷ sections.Links ∷ []) f done in
    let t = section_takes sections.Modules module_words with_module IsFineModule NoRoom module_member (begun finished) tt next ls g h in
    let at = added with_module (λ zs. rows zs [] [] [] [] finished) (λ zs y. refl) [] t.things in
    record {
      m = t.things;
      rest = t.rest;
      few = t.few;
      some = t.enough;
      fine = t.fine;
      parts = t.parts;
      procs = procs_take t.things finished t.rest g (subst (λ (f : ProfileRows). Accepts (sections_due (sections.Procs ∷ sections.Sites ∷ sections.Contexts ∷ sections.Links ∷ []) f done) t.rest g) at t.goes);
    }

-- the lines of all sections
abbrev section_rows : ProfileRows → List (List ℕ)
section_rows g = map row (listed (codes "modules") module_words g.statics.modules)
    ++ (map row (listed (codes "procs") proc_words g.statics.procs)
    ++ (map row (listed (codes "sites") site_words g.statics.sites)
    ++ (map row (listed (codes "contexts") context_words g.nodes)
    ++ map row (listed (codes "links") link_words g.links))))

record BodyTaken (finished : Bool) (ls : List (List ℕ)) (g : ProfileRows) : Type 0 where
  pub fields : AllFields 7 g
  pub was : g.finished ≡ finished
  pub parts : ls ≡ section_rows g

five_parts : (a b c d e ls r1 r2 r3 r4 : List (List ℕ)) → ls ≡ a ++ r1 → r1 ≡ b ++ r2 → r2 ≡ c ++ r3 → r3 ≡ d ++ r4 → r4 ≡ e → ls ≡ a ++ (b ++ (c ++ (d ++ e)))
five_parts a b c d e ls r1 r2 r3 r4 one two three four five =
    one ∙ ap (λ (xs : List (List ℕ)). a ++ xs) (two ∙ ap (λ (xs : List (List ℕ)). b ++ xs) (three ∙ ap (λ (xs : List (List ℕ)). c ++ xs) (four ∙ ap (λ (xs : List (List ℕ)). d ++ xs) five)))

none_back : (f : ProfileRows) → orphan_from f.links 1 (length f.nodes - 1) ≡ None → orphan_back 7 f ≡ None
none_back f none = ap (option_map (λ (v : ℕ). 4 * (length f.nodes - v) + (4 + link_size 7 * length f.links))) none

fields_at : (finished : Bool) (m : List (List ℕ)) (p : List Proc) (x : List Site) (v : List ℕ) (first : LinkRow) (others : List LinkRow)
    → (1 ≤ length m) × (length m < 2 ^ 32) × AllFine with_module IsFineModule (begun finished) m
    → (1 ≤ length p) × (length p < 2 ^ 32) × AllFine with_proc IsFineProc (rows m [] [] [] [] finished) p
    → (length x < 2 ^ 32) × AllFine with_site IsFineSite (rows m p [] [] [] finished) x
    → (1 ≤ length v) × (length v < 2 ^ 32) × AllFine with_context IsFineContext (rows m p x [] [] finished) v
    → (length (first ∷ others) < 2 ^ 32) × AllFine with_link IsFineLinkLine (rows m p x v [] finished) (first ∷ others)
    → orphan_from (first ∷ others) 1 (length v - 1) ≡ None → AllFields 7 (rows m p x v (first ∷ others) finished)
fields_at finished m p x v first others ms ps xs vs ls reached = record {
  some_modules = ms.0;
  few_modules = ms.1;
  modules = ms.2;
  some_procs = ps.0;
  few_procs = ps.1;
  procs = ps.2;
  few_sites = xs.0;
  sites = xs.1;
  some_nodes = vs.0;
  few_nodes = vs.1;
  nodes = vs.2;
  few_links = ls.0;
  first = first;
  others = others;
  links_are = refl;
  root = ls.1.0;
  links = others_fine m p x v first [] others finished ls.1.1;
  reached = none_back (rows m p x v (first ∷ others) finished) reached;
}

body_from : (finished : Bool) (ls : List (List ℕ)) (g : ProfileRows) (m : ModulesTaken finished ls g) (p : ProcsTaken m.m finished m.rest g) (x : SitesTaken m.m p.p finished p.rest g) (v : ContextsTaken m.m p.p x.x finished x.rest g)
    (l : LinksTaken m.m p.p x.x v.v finished v.rest g) (links : List LinkRow) → l.links ≡ links → BodyTaken finished ls g
body_from finished ls g m p x v l [] are = absurd (let some : 1 ≤ length l.links = l.some in omega (arith, some, ap length are))
body_from finished ls g m p x v l (first ∷ others) are =
    let fine = subst (λ (ks : List LinkRow). AllFine with_link IsFineLinkLine (rows m.m p.p x.x v.v [] finished) ks) are l.fine in
    let few = subst (λ (ks : List LinkRow). length ks < 2 ^ 32) are l.few in
    let reached = subst (λ (ks : List LinkRow). orphan_from ks 1 (length v.v - 1) ≡ None) are l.reached in
    let fields = fields_at finished m.m p.p x.x v.v first others (m.some, m.few, m.fine) (p.some, p.few, p.fine) (x.few, x.fine) (v.some, v.few, v.fine) (few, fine) reached in
    let is = ap (λ (ks : List LinkRow). rows m.m p.p x.x v.v ks finished) (sym are) ∙ l.is in
    let parts = five_parts (map row (listed (codes "modules") module_words m.m)) (map row (listed (codes "procs") proc_words p.p)) (map row (listed (codes "sites") site_words x.x)) (map row (listed (codes "contexts") context_words v.v)) (map row (listed (codes "links") link_words (first ∷ others)))
    ls m.rest p.rest x.rest v.rest m.parts p.parts x.parts v.parts (l.parts ∙ ap (λ (ks : List LinkRow). map row (listed (codes "links") link_words ks)) are) in
    subst (λ (f : ProfileRows). BodyTaken finished ls f) is (record { fields = fields; was = refl; parts = parts })

body_takes : (finished : Bool) (ls : List (List ℕ)) (g : ProfileRows) → Accepts (sections_due all_sections (begun finished) done) ls g → BodyTaken finished ls g
body_takes finished ls g h =
    let m = modules_take finished ls g h in
    body_from finished ls g m m.procs m.procs.sites m.procs.sites.contexts m.procs.sites.contexts.links m.procs.sites.contexts.links.links refl

-- and back: a profile whose things are fine
orphans_none : (f : ProfileRows) (h : ℕ → ℕ) (o : Option ℕ) → option_map h o ≡ None → o ≡ None
orphans_none f h None e = refl
orphans_none f h (Some v) e = absurd (cc e)

links_again : (m : List (List ℕ)) (p : List Proc) (x : List Site) (v : List ℕ) (first : LinkRow) (others : List LinkRow) (finished : Bool) → AllFields 7 (rows m p x v (first ∷ others) finished)
    → IsFineRoot 7 (rows m p x v [] finished) first → AllFine with_link (IsFineLink 7) (rows m p x v (first ∷ []) finished) others
    → Accepts (section_due sections.Links (rows m p x v [] finished) done) (map row (listed (codes "links") link_words (first ∷ others)) ++ []) (rows m p x v (first ∷ others) finished)
links_again m p x v first others finished fields root links =
    let g = rows m p x v (first ∷ others) finished in
    let at = added with_link (λ zs. rows m p x v zs finished) (λ zs y. refl) [] (first ∷ others) in
    let none = orphans_none g _ (orphan_from (first ∷ others) 1 (length v - 1)) fields.reached in
    let last : Accepts (done g) [] g = (none, refl) in
    section_again sections.Links link_words with_link IsFineLinkLine NoRoom link_member (first ∷ others) (rows m p x v [] finished) done [] g fields.few_links (omega arith)
    (root, fine_others m p x v first [] others finished links)
    (subst (λ (f : ProfileRows). Accepts (done f) [] g) (sym at) last)

contexts_again : (m : List (List ℕ)) (p : List Proc) (x : List Site) (v : List ℕ) (first : LinkRow) (others : List LinkRow) (finished : Bool) → AllFields 7 (rows m p x v (first ∷ others) finished)
    → (rest : List (List ℕ)) → Accepts (sections_due (sections.Links ∷ []) (rows m p x v [] finished) done) rest (rows m p x v (first ∷ others) finished)
    → Accepts (sections_due (sections.Contexts ∷ sections.Links ∷ []) (rows m p x [] [] finished) done) (map row (listed (codes "contexts") context_words v) ++ rest) (rows m p x v (first ∷ others) finished)
contexts_again m p x v first others finished fields rest h =
    let g = rows m p x v (first ∷ others) finished in
    let at = added with_context (λ zs. rows m p x zs [] finished) (λ zs y. refl) [] v in
    section_again sections.Contexts context_words with_context IsFineContext NoRoom context_member v (rows m p x [] [] finished) (λ f. sections_due (sections.Links ∷ []) f done) rest g fields.few_nodes fields.some_nodes fields.nodes
    (subst (λ (f : ProfileRows). Accepts (sections_due (sections.Links ∷ []) f done) rest g) (sym at) h)

sites_again : (m : List (List ℕ)) (p : List Proc) (x : List Site) (v : List ℕ) (first : LinkRow) (others : List LinkRow) (finished : Bool) → AllFields 7 (rows m p x v (first ∷ others) finished)
    → (rest : List (List ℕ)) → Accepts (sections_due (sections.Contexts ∷ sections.Links ∷ []) (rows m p x [] [] finished) done) rest (rows m p x v (first ∷ others) finished)
    → Accepts (sections_due (sections.Sites ∷ sections.Contexts ∷ sections.Links ∷ []) (rows m p [] [] [] finished) done) (map row (listed (codes "sites") site_words x) ++ rest) (rows m p x v (first ∷ others) finished)
sites_again m p x v first others finished fields rest h =
    let g = rows m p x v (first ∷ others) finished in
    let at = added with_site (λ zs. rows m p zs [] [] finished) (λ zs y. refl) [] x in
    section_again sections.Sites site_words with_site IsFineSite SiteRoom site_member x (rows m p [] [] [] finished) (λ f. sections_due (sections.Contexts ∷ sections.Links ∷ []) f done) rest g fields.few_sites (omega arith) fields.sites
    (subst (λ (f : ProfileRows). Accepts (sections_due (sections.Contexts ∷ sections.Links ∷ []) f done) rest g) (sym at) h)

procs_again : (m : List (List ℕ)) (p : List Proc) (x : List Site) (v : List ℕ) (first : LinkRow) (others : List LinkRow) (finished : Bool) → AllFields 7 (rows m p x v (first ∷ others) finished)
    → (rest : List (List ℕ)) → Accepts (sections_due (sections.Sites ∷ sections.Contexts ∷ sections.Links ∷ []) (rows m p [] [] [] finished) done) rest (rows m p x v (first ∷ others) finished)
    → Accepts (sections_due (sections.Procs ∷ sections.Sites ∷ sections.Contexts ∷ sections.Links ∷ []) (rows m [] [] [] [] finished) done) (map row (listed (codes "procs") proc_words p) ++ rest) (rows m p x v (first ∷ others) finished)
procs_again m p x v first others finished fields rest h =
    let g = rows m p x v (first ∷ others) finished in
    let at = added with_proc (λ zs. rows m zs [] [] [] finished) (λ zs y. refl) [] p in
    section_again sections.Procs proc_words with_proc IsFineProc NoRoom proc_member p (rows m [] [] [] [] finished) (λ f. sections_due (sections.Sites ∷ sections.Contexts ∷ sections.Links ∷ []) f done) rest g fields.few_procs fields.some_procs fields.procs
    (subst (λ (f : ProfileRows). Accepts (sections_due (sections.Sites ∷ sections.Contexts ∷ sections.Links ∷ []) f done) rest g) (sym at) h)

modules_again : (m : List (List ℕ)) (p : List Proc) (x : List Site) (v : List ℕ) (first : LinkRow) (others : List LinkRow) (finished : Bool) → AllFields 7 (rows m p x v (first ∷ others) finished)
    → (rest : List (List ℕ)) → Accepts (sections_due (sections.Procs ∷ sections.Sites ∷ sections.Contexts ∷ sections.Links ∷ []) (rows m [] [] [] [] finished) done) rest (rows m p x v (first ∷ others) finished)
    → Accepts (sections_due all_sections (begun finished) done) (map row (listed (codes "modules") module_words m) ++ rest) (rows m p x v (first ∷ others) finished)
modules_again m p x v first others finished fields rest h =
    let g = rows m p x v (first ∷ others) finished in
    let at = added with_module (λ zs. rows zs [] [] [] [] finished) (λ zs y. refl) [] m in
    section_again sections.Modules module_words with_module IsFineModule NoRoom module_member m (begun finished) (λ f. sections_due (sections.Procs ∷ sections.Sites ∷ sections.Contexts ∷ sections.Links ∷ []) f done) rest g fields.few_modules fields.some_modules fields.modules
    (subst (λ (f : ProfileRows). Accepts (sections_due (sections.Procs ∷ sections.Sites ∷ sections.Contexts ∷ sections.Links ∷ []) f done) rest g) (sym at) h)

body_at : (m : List (List ℕ)) (p : List Proc) (x : List Site) (v : List ℕ) (first : LinkRow) (others : List LinkRow) (finished : Bool) → AllFields 7 (rows m p x v (first ∷ others) finished)
    → IsFineRoot 7 (rows m p x v [] finished) first → AllFine with_link (IsFineLink 7) (rows m p x v (first ∷ []) finished) others
    → Accepts (sections_due all_sections (begun finished) done) (section_rows (rows m p x v (first ∷ others) finished)) (rows m p x v (first ∷ others) finished)
body_at m p x v first others finished fields root links =
    let last = subst (λ (ls : List (List ℕ)). Accepts (section_due sections.Links (rows m p x v [] finished) done) ls (rows m p x v (first ∷ others) finished)) (append-nil (map row (listed (codes "links") link_words (first ∷ others))))
    (links_again m p x v first others finished fields root links) in
    modules_again m p x v first others finished fields _
    (procs_again m p x v first others finished fields _ (sites_again m p x v first others finished fields _ (contexts_again m p x v first others finished fields _ last)))

body_again : (g : ProfileRows) → AllFields 7 g → Accepts (sections_due all_sections (begun g.finished) done) (section_rows g) g
body_again g fields =
    let at : List LinkRow → ProfileRows = λ links. rows g.statics.modules g.statics.procs g.statics.sites g.nodes links g.finished in
    let fields_of : AllFields 7 (at (fields.first ∷ fields.others)) = subst (λ (links : List LinkRow). AllFields 7 (at links)) fields.links_are fields in
    let goes = body_at g.statics.modules g.statics.procs g.statics.sites g.nodes fields.first fields.others g.finished fields_of fields.root fields.links in
    subst (λ (links : List LinkRow). Accepts (sections_due all_sections (begun g.finished) done) (section_rows (at links)) (at links)) (sym fields.links_are) goes

-- none of its lines has a line end
links_lines : (m : List (List ℕ)) (p : List Proc) (x : List Site) (v : List ℕ) (first : LinkRow) (others : List LinkRow) (finished : Bool) → length (first ∷ others) < 2 ^ 32
    → IsFineRoot 7 (rows m p x v [] finished) first → AllFine with_link (IsFineLink 7) (rows m p x v (first ∷ []) finished) others → AreLines (map row (listed (codes "links") link_words (first ∷ others)))
links_lines m p x v first others finished few root links =
    section_lines sections.Links link_words with_link IsFineLinkLine NoRoom link_member (first ∷ others) (rows m p x v [] finished) few (root, fine_others m p x v first [] others finished links)

body_lines : (g : ProfileRows) → AllFields 7 g → AreLines (section_rows g)
body_lines g fields =
    let m = g.statics.modules in
    let p = g.statics.procs in
    let x = g.statics.sites in
    let v = g.nodes in
    let few : length (fields.first ∷ fields.others) < 2 ^ 32 = subst (λ (ks : List LinkRow). length ks < 2 ^ 32) fields.links_are fields.few_links in
    let links = subst (λ (ks : List LinkRow). AreLines (map row (listed (codes "links") link_words ks))) (sym fields.links_are) (links_lines m p x v fields.first fields.others g.finished few fields.root fields.links) in
    both_lines (map row (listed (codes "modules") module_words m)) _ (section_lines sections.Modules module_words with_module IsFineModule NoRoom module_member m (begun g.finished) fields.few_modules fields.modules)
    (both_lines (map row (listed (codes "procs") proc_words p)) _ (section_lines sections.Procs proc_words with_proc IsFineProc NoRoom proc_member p (rows m [] [] [] [] g.finished) fields.few_procs fields.procs)
    (both_lines (map row (listed (codes "sites") site_words x)) _ (section_lines sections.Sites site_words with_site IsFineSite SiteRoom site_member x (rows m p [] [] [] g.finished) fields.few_sites fields.sites)
    (both_lines (map row (listed (codes "contexts") context_words v)) _ (section_lines sections.Contexts context_words with_context IsFineContext NoRoom context_member v (rows m p x [] [] g.finished) fields.few_nodes fields.nodes) links)))

-- the lines before the sections, and all lines of a profile
rows_apart : (a b c d e : List Words) → map row (a ++ (b ++ (c ++ (d ++ e)))) ≡ map row a ++ (map row b ++ (map row c ++ (map row d ++ map row e)))
rows_apart a b c d e = simp map-append

dump_rows : (g : ProfileRows) → map row (dump_lines g) ≡ row title_words ∷ row (finished_words g.finished) ∷ section_rows g
dump_rows g =
    ap (λ (ls : List (List ℕ)). row title_words ∷ row (finished_words g.finished) ∷ ls)
    (rows_apart (listed (codes "modules") module_words g.statics.modules) (listed (codes "procs") proc_words g.statics.procs) (listed (codes "sites") site_words g.statics.sites) (listed (codes "contexts") context_words g.nodes) (listed (codes "links") link_words g.links))

pub record TextTaken (ls : List (List ℕ)) (g : ProfileRows) : Type 0 where
  pub fields : AllFields 7 g
  pub parts : ls ≡ map row (dump_lines g)

finished_takes : (l : List ℕ) (ls : List (List ℕ)) (g : ProfileRows) (is isnt : Bool) → (is ≡ true → l ≡ codes "finished yes") → (isnt ≡ true → l ≡ codes "finished no")
    → Accepts (cond is (sections_due all_sections (begun true) done) (must isnt (sections_due all_sections (begun false) done))) ls g → (finished : Bool) × (l ≡ row (finished_words finished)) × BodyTaken finished ls g
finished_takes l ls g true isnt one two h = (true, one refl, body_takes true ls g h)
finished_takes l ls g false true one two h = (false, two refl, body_takes false ls g h)
finished_takes l ls g false false one two h = absurd h

pub text_takes : (ls : List (List ℕ)) (g : ProfileRows) → Accepts profile_text ls g → TextTaken ls g
text_takes [] g h = absurd h
text_takes (t ∷ []) g h = absurd (kept_by (bytes_eq t (codes "mdprof dump 2")) _ [] g h).1
text_takes (t ∷ l ∷ ls) g h =
    let title = kept_by (bytes_eq t (codes "mdprof dump 2")) _ (l ∷ ls) g h in
    let f = finished_takes l ls g (bytes_eq l (codes "finished yes")) (bytes_eq l (codes "finished no")) (bytes_eq-Decides l (codes "finished yes")).0 (bytes_eq-Decides l (codes "finished no")).0 title.1 in
    record {
      fields = f.2.fields;
      parts = ap (λ (k : List ℕ). k ∷ l ∷ ls) ((bytes_eq-Decides t (codes "mdprof dump 2")).0 title.0)
          ∙ ap (λ (k : List ℕ). row title_words ∷ k ∷ ls) (f.1 ∙ ap (λ (b : Bool). row (finished_words b)) (sym f.2.was))
          ∙ ap (λ (ks : List (List ℕ)). row title_words ∷ row (finished_words g.finished) ∷ ks) f.2.parts
          ∙ sym (dump_rows g);
    }

finished_again : (g : ProfileRows) (finished : Bool) → g.finished ≡ finished → AllFields 7 g → Accepts (finished_due (λ b. sections_due all_sections (begun b) done) (row (finished_words finished))) (section_rows g) g
finished_again g true is fields = subst (λ (b : Bool). Accepts (sections_due all_sections (begun b) done) (section_rows g) g) is (body_again g fields)
finished_again g false is fields = subst (λ (b : Bool). Accepts (sections_due all_sections (begun b) done) (section_rows g) g) is (body_again g fields)

pub text_again : (g : ProfileRows) → AllFields 7 g → Accepts profile_text (map row (dump_lines g)) g
text_again g fields = subst (λ (ls : List (List ℕ)). Accepts profile_text ls g) (sym (dump_rows g)) (finished_again g g.finished refl fields)

pub title_clean : AreClean title_words
title_clean = (name_clean (codes "mdprof") refl, (name_clean (codes "dump") refl, ((omega arith, tt), tt)))

pub finished_clean : (finished : Bool) → AreClean (finished_words finished)
finished_clean true = (name_clean (codes "finished") refl, (name_clean (codes "yes") refl, tt))
finished_clean false = (name_clean (codes "finished") refl, (name_clean (codes "no") refl, tt))

front_lines : (finished : Bool) → AreLines (row title_words ∷ row (finished_words finished) ∷ [])
front_lines finished = (row_without title_words title_clean, (row_without (finished_words finished) (finished_clean finished), tt))

pub text_lines : (g : ProfileRows) → AllFields 7 g → AreLines (map row (dump_lines g))
text_lines g fields = let front = front_lines g.finished in subst AreLines (sym (dump_rows g)) (front.0, (front.1.0, body_lines g fields))
