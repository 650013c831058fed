-- The whole file: what a reader takes is the file of a profile whose things are fine, and such a file is taken again.
use Rattle.std.proofs.Common.{◌≡◌, ℕ, zero, suc, ◌-◌, ◌<◌, ◌≤◌, ◌^◌, inl, inr, Bool, true, false, ◌||◌, ◌==◌, nat_le, List, [], ◌∷◌, ◌++◌, length, None, refl, sym, ap, subst, ◌∙◌, append_assoc, arith}
use Rattle.std.proofs.lemmas.List.{append-nil}
use Rattle.std.proofs.lemmas.Bool.{eq-eqb, eqb-true, leb-true, le-leb, or_cases}
use Rattle.std.specs.List.{flat_map}
use Rattle.md_static.specs.declared.entry.Proc.{Proc}
use Rattle.md_static.specs.declared.entry.Site.{Site}
use Rattle.md_dynamic.specs.declared.link.LinkRow.{LinkRow}
use Rattle.md_dynamic.specs.Profile.{ProfileRows}
use Rattle.md_deepfile.specs.Bytes.{u32, name_bytes, proc_bytes, site_bytes, link_bytes, each, magic, flag_byte, body_bytes}
use Rattle.md_deepfile.specs.Fields.{Text, Next, module_field, proc_field, site_field, context_field, link_field, ending, links_counted, links_fields, contexts_counted, contexts_fields, sites_counted, sites_fields, procs_counted, procs_fields, modules_counted, modules_fields, flag_told, counts_in, version_told, profile_file}
use Rattle.md_deepfile.specs.Format.{byte, exactly, number, several}
use Rattle.md_deepfile.specs.Rules.{begun, with_module, with_proc, with_site, with_context, with_link, orphan_back}
use Rattle.md_deepfile.proofs.Accepts.{AreBytes, Accepts, number_takes, number_again}
use Rattle.md_deepfile.proofs.Things.{Thing, adds, AllFine, several_takes, several_again, IsFineModule, module_thing, IsFineProc, proc_thing, IsFineSite, site_thing, IsFineContext, context_thing, IsWidth, IsFineRoot, root_thing, IsFineLink, link_thing}

-- a profile of these lists
abbrev pub rows : List (List ℕ) → List Proc → List Site → List ℕ → List LinkRow → Bool → ProfileRows
rows modules procs sites nodes links finished = record { statics = record { modules = modules; procs = procs; sites = sites }; nodes = nodes; links = links; finished = finished }

-- one thing after another is the whole list
pub added : {X : Type 0} (add : ProfileRows → X → ProfileRows) (at : List X → ProfileRows) → ((zs : List X) (x : X) → add (at zs) x ≡ at (zs ++ x ∷ [])) → (zs xs : List X) → adds add (at zs) xs ≡ at (zs ++ xs)
added {X} add at step zs [] = ap at (sym (append-nil zs))
added {X} add at step zs (x ∷ xs) =
    ap (λ (f : ProfileRows). adds add f xs) (step zs x) ∙ added add at step (zs ++ x ∷ []) xs ∙ ap at (append_assoc zs (x ∷ []) xs)

-- each thing is fine behind those before it, and so is the root link and each other link
pub record AllFields (k : ℕ) (f : ProfileRows) : Type 0 where
  pub some_modules : 1 ≤ length f.statics.modules
  pub few_modules : length f.statics.modules < 2 ^ 32
  pub modules : AllFine with_module IsFineModule (begun f.finished) f.statics.modules
  pub some_procs : 1 ≤ length f.statics.procs
  pub few_procs : length f.statics.procs < 2 ^ 32
  pub procs : AllFine with_proc IsFineProc (rows f.statics.modules [] [] [] [] f.finished) f.statics.procs
  pub few_sites : length f.statics.sites < 2 ^ 32
  pub sites : AllFine with_site IsFineSite (rows f.statics.modules f.statics.procs [] [] [] f.finished) f.statics.sites
  pub some_nodes : 1 ≤ length f.nodes
  pub few_nodes : length f.nodes < 2 ^ 32
  pub nodes : AllFine with_context IsFineContext (rows f.statics.modules f.statics.procs f.statics.sites [] [] f.finished) f.nodes
  pub few_links : length f.links < 2 ^ 32
  pub first : LinkRow
  pub others : List LinkRow
  pub links_are : f.links ≡ first ∷ others
  pub root : IsFineRoot k (rows f.statics.modules f.statics.procs f.statics.sites f.nodes [] f.finished) first
  pub links : AllFine with_link (IsFineLink k) (rows f.statics.modules f.statics.procs f.statics.sites f.nodes (first ∷ []) f.finished) others
  pub reached : orphan_back k f ≡ None

-- a list behind its count
record ListTaken {X : Type 0} (spell : X → List ℕ) (add : ProfileRows → X → ProfileRows) (Fine : ProfileRows → X → Type 0) (f : ProfileRows) (next : Next) (bs : List ℕ) (g : ProfileRows) : Type 0 where
  pub things : List X
  pub rest : List ℕ
  pub few : length things < 2 ^ 32
  pub fine : AllFine add Fine f things
  pub parts : bs ≡ each spell things ++ rest
  pub goes : Accepts (next (adds add f things)) rest g

counted : {X : Type 0} (spell : X → List ℕ) (n : ℕ) (xs : List X) (bs rest more : List ℕ) → length xs ≡ n → bs ≡ u32 n ++ rest → rest ≡ flat_map spell xs ++ more → bs ≡ each spell xs ++ more
counted {X} spell n xs bs rest more size first second =
    first ∙ ap (λ (m : ℕ). u32 m ++ rest) (sym size) ∙ ap (λ (ys : List ℕ). u32 (length xs) ++ ys) second ∙ sym (append_assoc (u32 (length xs)) (flat_map spell xs) more)

list_taken : {X : Type 0} (field : ProfileRows → Next → Text) (spell : X → List ℕ) (add : ProfileRows → X → ProfileRows) (Fine : ProfileRows → X → Type 0) (thing : Thing field spell add Fine)
    (n : ℕ) (f : ProfileRows) (next : Next) (bs rest : List ℕ) (g : ProfileRows) → n < 2 ^ 32 → bs ≡ u32 n ++ rest → Accepts (several field n f next) rest g → ListTaken spell add Fine f next bs g
list_taken {X} field spell add Fine thing n f next bs rest g below parts h =
    let t = several_takes field spell add Fine thing n f next rest g h in
    record {
      things = t.things;
      rest = t.rest;
      few = subst (λ (m : ℕ). m < 2 ^ 32) (sym t.size) below;
      fine = t.fine;
      parts = counted spell n t.things bs rest t.rest t.size parts t.parts;
      goes = t.goes;
    }

-- the same of a list with at least one thing
record SomeTaken {X : Type 0} (spell : X → List ℕ) (add : ProfileRows → X → ProfileRows) (Fine : ProfileRows → X → Type 0) (f : ProfileRows) (next : Next) (bs : List ℕ) (g : ProfileRows) : Type 0 where
  pub list : ListTaken spell add Fine f next bs g
  pub some : 1 ≤ length list.things

some_taken : {X : Type 0} (field : ProfileRows → Next → Text) (spell : X → List ℕ) (add : ProfileRows → X → ProfileRows) (Fine : ProfileRows → X → Type 0) (thing : Thing field spell add Fine)
    (n : ℕ) (f : ProfileRows) (next : Next) (bs rest : List ℕ) (g : ProfileRows) → n < 2 ^ 32 → bs ≡ u32 n ++ rest → nat_le 1 n ≡ true → Accepts (several field n f next) rest g → SomeTaken spell add Fine f next bs g
some_taken {X} field spell add Fine thing n f next bs rest g below parts some h =
    let t = several_takes field spell add Fine thing n f next rest g h in
    record {
      list = record {
        things = t.things;
        rest = t.rest;
        few = subst (λ (m : ℕ). m < 2 ^ 32) (sym t.size) below;
        fine = t.fine;
        parts = counted spell n t.things bs rest t.rest t.size parts t.parts;
        goes = t.goes;
      };
      some = omega (arith, leb-true 1 n some, t.size);
    }

-- what follows the flag
record BodyTaken (k : ℕ) (finished : Bool) (bs : List ℕ) (g : ProfileRows) : Type 0 where
  pub fields : AllFields k g
  pub was : g.finished ≡ finished
  pub parts : bs ≡ each name_bytes g.statics.modules ++ (each proc_bytes g.statics.procs ++ (each site_bytes g.statics.sites ++ (each u32 g.nodes ++ each (link_bytes k) g.links)))

end_takes : (k : ℕ) (f : ProfileRows) (bs : List ℕ) (g : ProfileRows) → Accepts (ending k f) bs g → (bs ≡ []) × (orphan_back k f ≡ None) × (f ≡ g)
end_takes k f [] g h = (refl, h.0, h.1)
end_takes k f (b ∷ bs) g h = absurd h

-- the same in parts: the lists and what each leaves
link_parts : (k : ℕ) (first : LinkRow) (others : List LinkRow) (n : ℕ) (bs rest more last : List ℕ) → length others ≡ n - 1 → 1 ≤ n → bs ≡ u32 n ++ rest → rest ≡ link_bytes k first ++ more → more ≡ flat_map (link_bytes k) others ++ last → last ≡ [] → bs ≡ each (link_bytes k) (first ∷ others)
link_parts k first others n bs rest more last size some one two three none =
    let count : n ≡ suc (length others) = omega (arith, size, some) in
    one ∙ ap (λ (m : ℕ). u32 m ++ rest) count
    ∙ ap (λ (ys : List ℕ). u32 (suc (length others)) ++ ys) (two ∙ ap (λ (ys : List ℕ). link_bytes k first ++ ys) (three ∙ ap (λ (ys : List ℕ). flat_map (link_bytes k) others ++ ys) none ∙ append-nil (flat_map (link_bytes k) others)))

five_parts : (a b c d e bs r1 r2 r3 r4 : List ℕ) → bs ≡ a ++ r1 → r1 ≡ b ++ r2 → r2 ≡ c ++ r3 → r3 ≡ d ++ r4 → r4 ≡ e → bs ≡ a ++ (b ++ (c ++ (d ++ e)))
five_parts a b c d e bs r1 r2 r3 r4 one two three four five =
    one ∙ ap (λ (xs : List ℕ). a ++ xs) (two ∙ ap (λ (xs : List ℕ). b ++ xs) (three ∙ ap (λ (xs : List ℕ). c ++ xs) (four ∙ ap (λ (xs : List ℕ). d ++ xs) five)))

-- the links, behind the lists before them
record LinksTaken (k : ℕ) (m : List (List ℕ)) (p : List Proc) (x : List Site) (v : List ℕ) (finished : Bool) (bs : List ℕ) (g : ProfileRows) : Type 0 where
  pub first : LinkRow
  pub others : List LinkRow
  pub few : length (first ∷ others) < 2 ^ 32
  pub root : IsFineRoot k (rows m p x v [] finished) first
  pub fine : AllFine with_link (IsFineLink k) (rows m p x v (first ∷ []) finished) others
  pub reached : orphan_back k (rows m p x v (first ∷ others) finished) ≡ None
  pub is : rows m p x v (first ∷ others) finished ≡ g
  pub parts : bs ≡ each (link_bytes k) (first ∷ others)

others_take : (k : ℕ) → IsWidth k → (m : List (List ℕ)) (p : List Proc) (x : List Site) (v : List ℕ) (finished : Bool) (n : ℕ) (root : LinkRow) (bs r1 r2 : List ℕ) (g : ProfileRows)
    → 1 ≤ n → n < 2 ^ 32 → IsFineRoot k (rows m p x v [] finished) root → bs ≡ u32 n ++ r1 → r1 ≡ link_bytes k root ++ r2
    → Accepts (several (link_field k) (n - 1) (rows m p x v (root ∷ []) finished) (ending k)) r2 g → LinksTaken k m p x v finished bs g
others_take k width m p x v finished n root bs r1 r2 g some few root_fine one two h =
    let ls = several_takes (link_field k) (link_bytes k) with_link (IsFineLink k) (link_thing k width) (n - 1) (rows m p x v (root ∷ []) finished) (ending k) r2 g h in
    let at = added with_link (λ zs. rows m p x v zs finished) (λ zs y. refl) (root ∷ []) ls.things in
    let last = end_takes k (rows m p x v (root ∷ ls.things) finished) ls.rest g (subst (λ (f : ProfileRows). Accepts (ending k f) ls.rest g) at ls.goes) in
    record {
      first = root;
      others = ls.things;
      few = omega (arith, ls.size, some, few);
      root = root_fine;
      fine = ls.fine;
      reached = last.1;
      is = last.2;
      parts = link_parts k root ls.things n bs r1 r2 ls.rest ls.size some one two ls.parts last.0;
    }

links_take : (k : ℕ) → IsWidth k → (m : List (List ℕ)) (p : List Proc) (x : List Site) (v : List ℕ) (finished : Bool) (bs : List ℕ) (g : ProfileRows)
    → Accepts (links_fields k (rows m p x v [] finished)) bs g → LinksTaken k m p x v finished bs g
links_take k width m p x v finished bs g h =
    let n = number_takes (links_counted k (rows m p x v [] finished)) bs g h in
    let r = (root_thing k width).takes (rows m p x v [] finished) (λ (f : ProfileRows). several (link_field k) (n.n - 1) f (ending k)) n.rest g n.goes.1 in
    others_take k width m p x v finished n.n r.thing bs n.rest r.rest g (leb-true 1 n.n n.goes.0) n.below r.fine n.parts r.parts r.goes

record ContextsTaken (k : ℕ) (m : List (List ℕ)) (p : List Proc) (x : List Site) (finished : Bool) (bs : List ℕ) (g : ProfileRows) : Type 0 where
  pub v : List ℕ
  pub rest : List ℕ
  pub some : 1 ≤ length v
  pub few : length v < 2 ^ 32
  pub fine : AllFine with_context IsFineContext (rows m p x [] [] finished) v
  pub parts : bs ≡ each u32 v ++ rest
  pub links : LinksTaken k m p x v finished rest g

contexts_take : (k : ℕ) → IsWidth k → (m : List (List ℕ)) (p : List Proc) (x : List Site) (finished : Bool) (bs : List ℕ) (g : ProfileRows)
    → Accepts (contexts_fields k (rows m p x [] [] finished)) bs g → ContextsTaken k m p x finished bs g
contexts_take k width m p x finished bs g h =
    let n = number_takes (contexts_counted k (rows m p x [] [] finished)) bs g h in
    let t = some_taken context_field u32 with_context IsFineContext context_thing n.n (rows m p x [] [] finished) (links_fields k) bs n.rest g n.below n.parts n.goes.0 n.goes.1 in
    let at = added with_context (λ zs. rows m p x zs [] finished) (λ zs y. refl) [] t.list.things in
    record {
      v = t.list.things;
      rest = t.list.rest;
      some = t.some;
      few = t.list.few;
      fine = t.list.fine;
      parts = t.list.parts;
      links = links_take k width m p x t.list.things finished t.list.rest g (subst (λ (f : ProfileRows). Accepts (links_fields k f) t.list.rest g) at t.list.goes);
    }

record SitesTaken (k : ℕ) (m : List (List ℕ)) (p : List Proc) (finished : Bool) (bs : List ℕ) (g : ProfileRows) : Type 0 where
  pub x : List Site
  pub rest : List ℕ
  pub few : length x < 2 ^ 32
  pub fine : AllFine with_site IsFineSite (rows m p [] [] [] finished) x
  pub parts : bs ≡ each site_bytes x ++ rest
  pub contexts : ContextsTaken k m p x finished rest g

sites_take : (k : ℕ) → IsWidth k → (m : List (List ℕ)) (p : List Proc) (finished : Bool) (bs : List ℕ) (g : ProfileRows)
    → Accepts (sites_fields k (rows m p [] [] [] finished)) bs g → SitesTaken k m p finished bs g
sites_take k width m p finished bs g h =
    let n = number_takes (sites_counted k (rows m p [] [] [] finished)) bs g h in
    let t = list_taken site_field site_bytes with_site IsFineSite site_thing n.n (rows m p [] [] [] finished) (contexts_fields k) bs n.rest g n.below n.parts n.goes in
    let at = added with_site (λ zs. rows m p zs [] [] finished) (λ zs y. refl) [] t.things in
    record {
      x = t.things;
      rest = t.rest;
      few = t.few;
      fine = t.fine;
      parts = t.parts;
      contexts = contexts_take k width m p t.things finished t.rest g (subst (λ (f : ProfileRows). Accepts (contexts_fields k f) t.rest g) at t.goes);
    }

record ProcsTaken (k : ℕ) (m : List (List ℕ)) (finished : Bool) (bs : List ℕ) (g : ProfileRows) : Type 0 where
  pub p : List Proc
  pub rest : List ℕ
  pub some : 1 ≤ length p
  pub few : length p < 2 ^ 32
  pub fine : AllFine with_proc IsFineProc (rows m [] [] [] [] finished) p
  pub parts : bs ≡ each proc_bytes p ++ rest
  pub sites : SitesTaken k m p finished rest g

procs_take : (k : ℕ) → IsWidth k → (m : List (List ℕ)) (finished : Bool) (bs : List ℕ) (g : ProfileRows)
    → Accepts (procs_fields k (rows m [] [] [] [] finished)) bs g → ProcsTaken k m finished bs g
procs_take k width m finished bs g h =
    let n = number_takes (procs_counted k (rows m [] [] [] [] finished)) bs g h in
    let t = some_taken proc_field proc_bytes with_proc IsFineProc proc_thing n.n (rows m [] [] [] [] finished) (sites_fields k) bs n.rest g n.below n.parts n.goes.0 n.goes.1 in
    let at = added with_proc (λ zs. rows m zs [] [] [] finished) (λ zs y. refl) [] t.list.things in
    record {
      p = t.list.things;
      rest = t.list.rest;
      some = t.some;
      few = t.list.few;
      fine = t.list.fine;
      parts = t.list.parts;
      sites = sites_take k width m t.list.things finished t.list.rest g (subst (λ (f : ProfileRows). Accepts (sites_fields k f) t.list.rest g) at t.list.goes);
    }

record ModulesTaken (k : ℕ) (finished : Bool) (bs : List ℕ) (g : ProfileRows) : Type 0 where
  pub m : List (List ℕ)
  pub rest : List ℕ
  pub some : 1 ≤ length m
  pub few : length m < 2 ^ 32
  pub fine : AllFine with_module IsFineModule (begun finished) m
  pub parts : bs ≡ each name_bytes m ++ rest
  pub procs : ProcsTaken k m finished rest g

modules_take : (k : ℕ) → IsWidth k → (finished : Bool) (bs : List ℕ) (g : ProfileRows) → Accepts (modules_fields k (begun finished)) bs g → ModulesTaken k finished bs g
modules_take k width finished bs g h =
    let n = number_takes (modules_counted k (begun finished)) bs g h in
    let t = some_taken module_field name_bytes with_module IsFineModule module_thing n.n (begun finished) (procs_fields k) bs n.rest g n.below n.parts n.goes.0 n.goes.1 in
    let at = added with_module (λ zs. rows zs [] [] [] [] finished) (λ zs y. refl) [] t.list.things in
    record {
      m = t.list.things;
      rest = t.list.rest;
      some = t.some;
      few = t.list.few;
      fine = t.list.fine;
      parts = t.list.parts;
      procs = procs_take k width t.list.things finished t.list.rest g (subst (λ (f : ProfileRows). Accepts (procs_fields k f) t.list.rest g) at t.list.goes);
    }

body_taken : (k : ℕ) (finished : Bool) (bs : List ℕ) (g : ProfileRows) (m : ModulesTaken k finished bs g) (p : ProcsTaken k m.m finished m.rest g) (x : SitesTaken k m.m p.p finished p.rest g)
    (v : ContextsTaken k m.m p.p x.x finished x.rest g) (l : LinksTaken k m.m p.p x.x v.v finished v.rest g) → BodyTaken k finished bs g
body_taken k finished bs g m p x v l =
    let fields : AllFields k (rows m.m p.p x.x v.v (l.first ∷ l.others) finished) = record {
      some_modules = m.some;
      few_modules = m.few;
      modules = m.fine;
      some_procs = p.some;
      few_procs = p.few;
      procs = p.fine;
      few_sites = x.few;
      sites = x.fine;
      some_nodes = v.some;
      few_nodes = v.few;
      nodes = v.fine;
      few_links = l.few;
      first = l.first;
      others = l.others;
      links_are = refl;
      root = l.root;
      links = l.fine;
      reached = l.reached;
    } in
    let parts = five_parts (each name_bytes m.m) (each proc_bytes p.p) (each site_bytes x.x) (each u32 v.v) (each (link_bytes k) (l.first ∷ l.others)) bs m.rest p.rest x.rest v.rest m.parts p.parts x.parts v.parts l.parts in
    subst (λ (f : ProfileRows). BodyTaken k finished bs f) l.is (record { fields = fields; was = refl; parts = parts })

body_takes : (k : ℕ) → IsWidth k → (finished : Bool) (bs : List ℕ) (g : ProfileRows) → Accepts (modules_fields k (begun finished)) bs g → BodyTaken k finished bs g
body_takes k width finished bs g h =
    let m = modules_take k width finished bs g h in
    body_taken k finished bs g m m.procs m.procs.sites m.procs.sites.contexts m.procs.sites.contexts.links

list_again : {X : Type 0} (field : ProfileRows → Next → Text) (spell : X → List ℕ) (add : ProfileRows → X → ProfileRows) (Fine : ProfileRows → X → Type 0) (thing : Thing field spell add Fine)
    (xs : List X) (f : ProfileRows) (next : Next) (told : ℕ → Text) (rest : List ℕ) (g : ProfileRows) → length xs < 2 ^ 32 → AllFine add Fine f xs → Accepts (next (adds add f xs)) rest g
    → (Accepts (several field (length xs) f next) (flat_map spell xs ++ rest) g → Accepts (told (length xs)) (flat_map spell xs ++ rest) g) → Accepts (number told) (each spell xs ++ rest) g
list_again {X} field spell add Fine thing xs f next told rest g few fine h so =
    let goes = so (several_again field spell add Fine thing xs f next rest g fine h) in
    subst (λ (bs : List ℕ). Accepts (number told) bs g) (sym (append_assoc (u32 (length xs)) (flat_map spell xs) rest))
    (number_again (length xs) told (flat_map spell xs ++ rest) g few goes)

-- all but the links, whose lists are given by name
body_again : (k : ℕ) → IsWidth k → (m : List (List ℕ)) (p : List Proc) (x : List Site) (v : List ℕ) (root : LinkRow) (l : List LinkRow) (finished : Bool) → AllFields k (rows m p x v (root ∷ l) finished)
    → IsFineRoot k (rows m p x v [] finished) root → AllFine with_link (IsFineLink k) (rows m p x v (root ∷ []) finished) l
    → Accepts (modules_fields k (begun finished)) (each name_bytes m ++ (each proc_bytes p ++ (each site_bytes x ++ (each u32 v ++ each (link_bytes k) (root ∷ l))))) (rows m p x v (root ∷ l) finished)
body_again k width m p x v root l finished fields root_fine links_fine =
    let g = rows m p x v (root ∷ l) finished in
    let l_at = added with_link (λ zs. rows m p x v zs finished) (λ zs y. refl) (root ∷ []) l in
    let last : Accepts (ending k g) [] g = (fields.reached, refl) in
    let l_goes = subst (λ (f : ProfileRows). Accepts (ending k f) [] g) (sym l_at) last in
    let ls = several_again (link_field k) (link_bytes k) with_link (IsFineLink k) (link_thing k width) l (rows m p x v (root ∷ []) finished) (ending k) [] g links_fine l_goes in
    let ls_nil = subst (λ (bs : List ℕ). Accepts (several (link_field k) (length l) (rows m p x v (root ∷ []) finished) (ending k)) bs g) (append-nil (flat_map (link_bytes k) l)) ls in
    let less : length (root ∷ l) - 1 ≡ length l = omega arith in
    let ls_less = subst (λ (n : ℕ). Accepts (several (link_field k) n (rows m p x v (root ∷ []) finished) (ending k)) (flat_map (link_bytes k) l) g) (sym less) ls_nil in
    let r = (root_thing k width).again (rows m p x v [] finished) root (λ (f : ProfileRows). several (link_field k) (length (root ∷ l) - 1) f (ending k)) (flat_map (link_bytes k) l) g root_fine ls_less in
    let links : Accepts (links_fields k (rows m p x v [] finished)) (each (link_bytes k) (root ∷ l)) g = number_again (length (root ∷ l)) (links_counted k (rows m p x v [] finished)) (link_bytes k root ++ flat_map (link_bytes k) l) g fields.few_links (le-leb 1 (length (root ∷ l)) (omega arith), r) in
    let v_at = added with_context (λ zs. rows m p x zs [] finished) (λ zs y. refl) [] v in
    let contexts = list_again context_field u32 with_context IsFineContext context_thing v (rows m p x [] [] finished) (links_fields k) (contexts_counted k (rows m p x [] [] finished)) (each (link_bytes k) (root ∷ l)) g fields.few_nodes fields.nodes
    (subst (λ (f : ProfileRows). Accepts (links_fields k f) (each (link_bytes k) (root ∷ l)) g) (sym v_at) links) (λ h. (le-leb 1 (length v) fields.some_nodes, h)) in
    let x_at = added with_site (λ zs. rows m p zs [] [] finished) (λ zs y. refl) [] x in
    let sites = list_again site_field site_bytes with_site IsFineSite site_thing x (rows m p [] [] [] finished) (contexts_fields k) (sites_counted k (rows m p [] [] [] finished)) (each u32 v ++ each (link_bytes k) (root ∷ l)) g fields.few_sites fields.sites
    (subst (λ (f : ProfileRows). Accepts (contexts_fields k f) (each u32 v ++ each (link_bytes k) (root ∷ l)) g) (sym x_at) contexts) (λ h. h) in
    let p_at = added with_proc (λ zs. rows m zs [] [] [] finished) (λ zs y. refl) [] p in
    let procs = list_again proc_field proc_bytes with_proc IsFineProc proc_thing p (rows m [] [] [] [] finished) (sites_fields k) (procs_counted k (rows m [] [] [] [] finished)) (each site_bytes x ++ (each u32 v ++ each (link_bytes k) (root ∷ l))) g fields.few_procs fields.procs
    (subst (λ (f : ProfileRows). Accepts (sites_fields k f) (each site_bytes x ++ (each u32 v ++ each (link_bytes k) (root ∷ l))) g) (sym p_at) sites) (λ h. (le-leb 1 (length p) fields.some_procs, h)) in
    let m_at = added with_module (λ zs. rows zs [] [] [] [] finished) (λ zs y. refl) [] m in
    list_again module_field name_bytes with_module IsFineModule module_thing m (begun finished) (procs_fields k) (modules_counted k (begun finished)) (each proc_bytes p ++ (each site_bytes x ++ (each u32 v ++ each (link_bytes k) (root ∷ l)))) g fields.few_modules fields.modules
    (subst (λ (f : ProfileRows). Accepts (procs_fields k f) (each proc_bytes p ++ (each site_bytes x ++ (each u32 v ++ each (link_bytes k) (root ∷ l)))) g) (sym m_at) procs) (λ h. (le-leb 1 (length m) fields.some_modules, h))

-- the byte of a version, and how many counts a link has in it
pub data Version : ℕ → ℕ → Type 0 where
  first : Version 49 6
  second : Version 50 7

version_from : (v : ℕ) → ((v == 49) || (v == 50)) ≡ true → Version v (counts_in v)
version_from v h = elim (or_cases (v == 49) (v == 50) h) [
  | inl one ↦ subst (λ (n : ℕ). Version n (counts_in n)) (sym (eqb-true v 49 one)) first
  | inr two ↦ subst (λ (n : ℕ). Version n (counts_in n)) (sym (eqb-true v 50 two)) second
]

pub version_width : (v k : ℕ) → Version v k → IsWidth k
version_width v k first = inl refl
version_width v k second = inr refl

pub record FileTaken (bs : List ℕ) (g : ProfileRows) : Type 0 where
  pub version : ℕ
  pub k : ℕ
  pub is : Version version k
  pub fields : AllFields k g
  pub parts : bs ≡ magic ++ version ∷ body_bytes k g

exactly_takes : (ms : List ℕ) (next : Text) (bs : List ℕ) (g : ProfileRows) → Accepts (exactly ms next) bs g → (rest : List ℕ) × (bs ≡ ms ++ rest) × Accepts next rest g
exactly_takes [] next bs g h = (bs, refl, h)
exactly_takes (m ∷ ms) next [] g h = absurd h
exactly_takes (m ∷ ms) next (b ∷ bs) g h =
    let t = exactly_takes ms next bs g h.1.1 in
    (t.0, ap (λ (xs : List ℕ). b ∷ xs) t.1 ∙ ap (λ (c : ℕ). c ∷ (ms ++ t.0)) (eqb-true b m h.1.0), t.2)

flag_is : (b : ℕ) → nat_le b 1 ≡ true → flag_byte (b == 1) ≡ b
flag_is zero h = refl
flag_is (suc zero) h = refl
flag_is (suc (suc b)) h = absurd (omega (arith, leb-true (suc (suc b)) 1 h))

flag_takes : (v k : ℕ) → Version v k → (bs : List ℕ) (g : ProfileRows) → Accepts (byte (flag_told k)) bs g → (bs ≡ body_bytes k g) × AllFields k g
flag_takes v k is [] g h = absurd h
flag_takes v k is (b ∷ bs) g h =
    let t = body_takes k (version_width v k is) (b == 1) bs g h.1.1 in
    (ap (λ (c : ℕ). c ∷ bs) (sym (flag_is b h.1.0)) ∙ ap (λ (d : Bool). flag_byte d ∷ bs) (sym t.was) ∙ ap (λ (xs : List ℕ). flag_byte g.finished ∷ xs) t.parts, t.fields)

version_takes : (bs : List ℕ) (g : ProfileRows) → Accepts (byte version_told) bs g → (all : List ℕ) → all ≡ magic ++ bs → FileTaken all g
version_takes [] g h all is = absurd h
version_takes (v ∷ bs) g h all is =
    let version = version_from v h.1.0 in
    let t = flag_takes v (counts_in v) version bs g h.1.1 in
    record { version = v; k = counts_in v; is = version; fields = t.1; parts = is ∙ ap (λ (xs : List ℕ). magic ++ v ∷ xs) t.0 }

pub file_takes : (bs : List ℕ) (g : ProfileRows) → Accepts profile_file bs g → FileTaken bs g
file_takes bs g h =
    let t = exactly_takes magic (byte version_told) bs g h in
    version_takes t.0 g t.2 bs t.1

exactly_again : (ms : List ℕ) (next : Text) (rest : List ℕ) (g : ProfileRows) → (bytes : AreBytes ms) → Accepts next rest g → Accepts (exactly ms next) (ms ++ rest) g
exactly_again [] next rest g are h = h
exactly_again (m ∷ ms) next rest g are h = (are.0, (eq-eqb m m refl, exactly_again ms next rest g are.1 h))

whole_again : (k : ℕ) → IsWidth k → (f : ProfileRows) → AllFields k f → Accepts (modules_fields k (begun f.finished)) (each name_bytes f.statics.modules ++ (each proc_bytes f.statics.procs ++ (each site_bytes f.statics.sites ++ (each u32 f.nodes ++ each (link_bytes k) f.links)))) f
whole_again k width f fields =
    let at : List LinkRow → ProfileRows = λ links. rows f.statics.modules f.statics.procs f.statics.sites f.nodes links f.finished in
    let fields_at : AllFields k (at (fields.first ∷ fields.others)) = subst (λ (links : List LinkRow). AllFields k (at links)) fields.links_are fields in
    let goes = body_again k width f.statics.modules f.statics.procs f.statics.sites f.nodes fields.first fields.others f.finished fields_at fields.root fields.links in
    subst (λ (links : List LinkRow). Accepts (modules_fields k (begun f.finished)) (each name_bytes f.statics.modules ++ (each proc_bytes f.statics.procs ++ (each site_bytes f.statics.sites ++ (each u32 f.nodes ++ each (link_bytes k) links)))) (at links)) (sym fields.links_are) goes

abbrev lists_bytes : ℕ → ProfileRows → List ℕ
lists_bytes k f = each name_bytes f.statics.modules ++ (each proc_bytes f.statics.procs ++ (each site_bytes f.statics.sites ++ (each u32 f.nodes ++ each (link_bytes k) f.links)))

flag_again : (k : ℕ) → IsWidth k → (f : ProfileRows) (finished : Bool) → f.finished ≡ finished → AllFields k f
    → Accepts (byte (flag_told k)) (flag_byte finished ∷ (each name_bytes f.statics.modules ++ (each proc_bytes f.statics.procs ++ (each site_bytes f.statics.sites ++ (each u32 f.nodes ++ each (link_bytes k) f.links))))) f
flag_again k width f true is fields = (omega arith, (refl, subst (λ (b : Bool). Accepts (modules_fields k (begun b)) (lists_bytes k f) f) is (whole_again k width f fields)))
flag_again k width f false is fields = (omega arith, (refl, subst (λ (b : Bool). Accepts (modules_fields k (begun b)) (lists_bytes k f) f) is (whole_again k width f fields)))

version_again : (v k : ℕ) → Version v k → (f : ProfileRows) → AllFields k f → Accepts (byte version_told) (v ∷ body_bytes k f) f
version_again v k first f fields = (omega arith, (refl, flag_again 6 (inl refl) f f.finished refl fields))
version_again v k second f fields = (omega arith, (refl, flag_again 7 (inr refl) f f.finished refl fields))

pub file_again : (v k : ℕ) → Version v k → (f : ProfileRows) → AllFields k f → Accepts profile_file (magic ++ v ∷ body_bytes k f) f
file_again v k is f fields =
    exactly_again magic (byte version_told) (v ∷ body_bytes k f) f (omega arith, (omega arith, (omega arith, (omega arith, (omega arith, (omega arith, (omega arith, tt))))))) (version_again v k is f fields)
