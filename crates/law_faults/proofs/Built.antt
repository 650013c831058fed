-- Whatever the parts of a text are, there are rows whose lines they follow as far as they can.
use Rattle.std.proofs.Common.{◌≡◌, ℕ, zero, suc, ◌<◌, ◌^◌, Bool, false, List, [], ◌∷◌, ◌++◌, length, codes, None, refl, sym, ap, subst, ◌∙◌, append_assoc, arith}
use Rattle.md_static.specs.declared.entry.Proc.{Proc}
use Rattle.md_static.specs.declared.entry.Site.{Site}
use Rattle.md_static.specs.declared.entry.SiteKind.TheVariants.{HigherOrder}
use Rattle.md_static.specs.Tables.{Static}
use Rattle.md_dynamic.specs.declared.link.LinkRow.{LinkRow}
use Rattle.md_dynamic.specs.Profile.{ProfileRows}
use Rattle.md_deepfile.specs.Rules.{begun}
use Rattle.md_deepfile.proofs.Whole.{rows}
use Rattle.md_dump.specs.Due.{done, line}
use Rattle.md_dump.specs.Lines.{Next, thing_due, several, name_of, least_of, section_due, sections_due, all_sections, finished_due, profile_text, root_row}
use Rattle.md_dump.proofs.Clean.{name_clean}
use Rattle.md_dump.proofs.Decimal.{IsClean}
use Rattle.law_faults.specs.Fault.{AreFew}
use Rattle.law_faults.specs.Lines.{Line, Title, Finished, Count, Module, Procedure, CallSite, Link, behind, context_line, link_line, module_list, proc_list, site_list, context_list, link_list, lines}
use Rattle.law_faults.proofs.Taken.{Section, of_modules, of_procs, of_sites, of_contexts, of_links, Takes, Any, count_takes, module_takes, proc_takes, site_takes, context_takes, root_takes, link_takes}
use Rattle.law_faults.proofs.Along.{Reached, whole, left, some_left, reached_on, one_line}
use Rattle.law_faults.proofs.Sections.{title_takes, finished_takes, rows_reached, behind_root}

record ListReached {X : Type 0} (section : Section) (line_of : List X → X → Line) (at : List X → ProfileRows) (next : Next) (ps : List (List ℕ)) : Type 0 where
  pub things : List X
  pub few : length things < 2 ^ 32
  pub reached : Reached (section_due section (at []) next) ps (Count (name_of section) (least_of section) (length things) ∷ behind line_of [] things) (next (at things))

list_reached : {X : Type 0} (section : Section) → IsClean (name_of section) → (line_of : List X → X → Line) (at : List X → ProfileRows) → ((before : List X) (more : Next) → Takes (thing_due section (at before) more) (line_of before) Any (λ x. more (at (before ++ x ∷ [])))) → (blank : X) (next : Next) (ps : List (List ℕ)) → (ps ≡ [] → ⊥) → ListReached section line_of at next ps
list_reached {X} section named line_of at takes blank next ps some =
    let one = one_line (count_takes section named (at []) next) 0 (omega arith) ps some in
    let t = rows_reached section line_of at takes blank next one.thing [] (left one.reached) (some_left one.reached) in
    record {
      things = t.things;
      few = subst (λ (n : ℕ). n < 2 ^ 32) (sym t.size) one.small;
      reached = subst (λ (n : ℕ). Reached (section_due section (at []) next) ps (Count (name_of section) (least_of section) n ∷ behind line_of [] t.things) (next (at t.things))) (sym t.size)
          (reached_on (section_due section (at []) next) ps (Count (name_of section) (least_of section) one.thing ∷ []) (several section one.thing (at []) next) (behind line_of [] t.things) (next (at t.things)) one.reached t.reached);
    }

-- ---- links

blank_link : LinkRow
blank_link = root_row (record { calls = 0; exits = 0; fails = 0; redos = 0; allocs = 0; words = 0; excps = 0 })

blank_from_nowhere : blank_link.caller ≡ None
unfolding blank_link
blank_from_nowhere = refl

module _ (m : List (List ℕ)) (p : List Proc) (x : List Site) (v : List ℕ) (finished : Bool) (few_v : length v < 2 ^ 32) (few_x : length x < 2 ^ 32) where
  abbrev statics : Static
  statics = record { modules = m; procs = p; sites = x }

  record LinkRows (n : ℕ) (ps : List (List ℕ)) : Type 0 where
    pub things : List LinkRow
    pub size : length things ≡ n
    pub reached : Reached (several of_links n (rows m p x v [] finished) done) ps (behind (link_line statics v) [] things) (done (rows m p x v things finished))

  link_rows : (n : ℕ) (ps : List (List ℕ)) → (ps ≡ [] → ⊥) → LinkRows n ps
  link_rows zero ps some = record { things = []; size = refl; reached = whole ps some tt tt refl refl }
  link_rows (suc n) ps some =
      let f = rows m p x v [] finished in
      let one = one_line (root_takes f (λ g. several of_links n g done)) blank_link blank_from_nowhere ps some in
      let root = one.thing in
      let at : List LinkRow → ProfileRows = λ zs. rows m p x v (root ∷ zs) finished in
      let t = rows_reached of_links (λ zs. Link statics v zs) at (λ before more. link_takes m p x v finished few_v few_x root one.small before more) blank_link done n [] (left one.reached) (some_left one.reached) in
      let others = subst (λ (xs : List Line). Reached (several of_links n (at []) done) (left one.reached) xs (done (at t.things))) (behind_root statics v root [] t.things) t.reached in
      record {
        things = root ∷ t.things;
        size = ap (λ (k : ℕ). suc k) t.size;
        reached = reached_on (several of_links (suc n) f done) ps (link_line statics v [] root ∷ []) (several of_links n (at []) done) (behind (link_line statics v) (root ∷ []) t.things) (done (at t.things)) one.reached others;
      }

  pub record LinksReached (ps : List (List ℕ)) : Type 0 where
    pub l : List LinkRow
    pub few : length l < 2 ^ 32
    pub reached : Reached (sections_due (of_links ∷ []) (rows m p x v [] finished) done) ps (Count (codes "links") 1 (length l) ∷ behind (link_line statics v) [] l) (done (rows m p x v l finished))

  pub links_reached : (ps : List (List ℕ)) → (ps ≡ [] → ⊥) → LinksReached ps
  links_reached ps some =
      let f = rows m p x v [] finished in
      let one = one_line (count_takes of_links (name_clean (codes "links") refl) f done) 0 (omega arith) ps some in
      let t = link_rows one.thing (left one.reached) (some_left one.reached) in
      record {
        l = t.things;
        few = subst (λ (n : ℕ). n < 2 ^ 32) (sym t.size) one.small;
        reached = subst (λ (n : ℕ). Reached (section_due of_links f done) ps (Count (codes "links") 1 n ∷ behind (link_line statics v) [] t.things) (done (rows m p x v t.things finished))) (sym t.size)
            (reached_on (section_due of_links f done) ps (Count (codes "links") 1 one.thing ∷ []) (several of_links one.thing f done) (behind (link_line statics v) [] t.things) (done (rows m p x v t.things finished)) one.reached t.reached);
      }

-- ---- the lists before them, the last one first

record FromContexts (m : List (List ℕ)) (p : List Proc) (x : List Site) (finished : Bool) (ps : List (List ℕ)) : Type 0 where
  pub v : List ℕ
  pub few_v : length v < 2 ^ 32
  pub l : List LinkRow
  pub few_l : length l < 2 ^ 32
  pub reached : Reached (sections_due (of_contexts ∷ of_links ∷ []) (rows m p x [] [] finished) done) ps
      (context_list (rows m p x v l finished) v ++ link_list (rows m p x v l finished)) (done (rows m p x v l finished))

contexts_with : (m : List (List ℕ)) (p : List Proc) (x : List Site) (finished : Bool) (ps : List (List ℕ)) (few_x : length x < 2 ^ 32)
    (c : ListReached of_contexts (context_line (length p)) (λ zs. rows m p x zs [] finished) (λ g. sections_due (of_links ∷ []) g done) ps) → LinksReached m p x c.things finished c.few few_x (left c.reached) → FromContexts m p x finished ps
contexts_with m p x finished ps few_x c l =
    let f = rows m p x c.things l.l finished in
    record {
      v = c.things;
      few_v = c.few;
      l = l.l;
      few_l = l.few;
      reached = reached_on (sections_due (of_contexts ∷ of_links ∷ []) (rows m p x [] [] finished) done) ps (context_list f c.things) (sections_due (of_links ∷ []) (rows m p x c.things [] finished) done) (link_list f) (done f) c.reached l.reached;
    }

from_contexts : (m : List (List ℕ)) (p : List Proc) (x : List Site) (finished : Bool) (ps : List (List ℕ)) → length p < 2 ^ 32 → length x < 2 ^ 32 → (ps ≡ [] → ⊥) → FromContexts m p x finished ps
from_contexts m p x finished ps few_p few_x some =
    let c = list_reached of_contexts (name_clean (codes "contexts") refl) (context_line (length p)) (λ zs. rows m p x zs [] finished) (λ before more. context_takes m p x finished few_p before more) 0 (λ g. sections_due (of_links ∷ []) g done) ps some in
    contexts_with m p x finished ps few_x c (links_reached m p x c.things finished c.few few_x (left c.reached) (some_left c.reached))

record FromSites (m : List (List ℕ)) (p : List Proc) (finished : Bool) (ps : List (List ℕ)) : Type 0 where
  pub f : ProfileRows
  pub few_x : length f.statics.sites < 2 ^ 32
  pub few_v : length f.nodes < 2 ^ 32
  pub few_l : length f.links < 2 ^ 32
  pub m_is : f.statics.modules ≡ m
  pub p_is : f.statics.procs ≡ p
  pub was : f.finished ≡ finished
  pub reached : Reached (sections_due (of_sites ∷ of_contexts ∷ of_links ∷ []) (rows m p [] [] [] finished) done) ps (site_list f ++ (context_list f f.nodes ++ link_list f)) (done f)

sites_with : (m : List (List ℕ)) (p : List Proc) (finished : Bool) (ps : List (List ℕ))
    (s : ListReached of_sites (CallSite (length p)) (λ zs. rows m p zs [] [] finished) (λ g. sections_due (of_contexts ∷ of_links ∷ []) g done) ps) → FromContexts m p s.things finished (left s.reached) → FromSites m p finished ps
sites_with m p finished ps s c =
    let f = rows m p s.things c.v c.l finished in
    record {
      f = f;
      few_x = s.few;
      few_v = c.few_v;
      few_l = c.few_l;
      m_is = refl;
      p_is = refl;
      was = refl;
      reached = reached_on (sections_due (of_sites ∷ of_contexts ∷ of_links ∷ []) (rows m p [] [] [] finished) done) ps (site_list f) (sections_due (of_contexts ∷ of_links ∷ []) (rows m p s.things [] [] finished) done) (context_list f f.nodes ++ link_list f) (done f) s.reached c.reached;
    }

from_sites : (m : List (List ℕ)) (p : List Proc) (finished : Bool) (ps : List (List ℕ)) → length p < 2 ^ 32 → (ps ≡ [] → ⊥) → FromSites m p finished ps
from_sites m p finished ps few_p some =
    let s = list_reached of_sites (name_clean (codes "sites") refl) (CallSite (length p)) (λ zs. rows m p zs [] [] finished) (λ before more. site_takes m p finished few_p before more) (record { owner = 0; line = 0; kind = HigherOrder }) (λ g. sections_due (of_contexts ∷ of_links ∷ []) g done) ps some in
    sites_with m p finished ps s (from_contexts m p s.things finished (left s.reached) few_p s.few (some_left s.reached))

record FromProcs (m : List (List ℕ)) (finished : Bool) (ps : List (List ℕ)) : Type 0 where
  pub f : ProfileRows
  pub few_p : length f.statics.procs < 2 ^ 32
  pub few_x : length f.statics.sites < 2 ^ 32
  pub few_v : length f.nodes < 2 ^ 32
  pub few_l : length f.links < 2 ^ 32
  pub m_is : f.statics.modules ≡ m
  pub was : f.finished ≡ finished
  pub reached : Reached (sections_due (of_procs ∷ of_sites ∷ of_contexts ∷ of_links ∷ []) (rows m [] [] [] [] finished) done) ps (proc_list f ++ (site_list f ++ (context_list f f.nodes ++ link_list f))) (done f)

procs_at : (m : List (List ℕ)) (finished : Bool) (ps : List (List ℕ)) (p : List Proc) → length p < 2 ^ 32
    → (r : Reached (section_due of_procs (rows m [] [] [] [] finished) (λ g. sections_due (of_sites ∷ of_contexts ∷ of_links ∷ []) g done)) ps (Count (codes "procs") 1 (length p) ∷ behind (Procedure (length m)) [] p) (sections_due (of_sites ∷ of_contexts ∷ of_links ∷ []) (rows m p [] [] [] finished) done))
    → (s : FromSites m p finished (left r)) → FromProcs m finished ps
procs_at m finished ps p few r s =
    let f = s.f in
    let first : Count (codes "procs") 1 (length p) ∷ behind (Procedure (length m)) [] p ≡ proc_list f = λ i. Count (codes "procs") 1 (length (sym s.p_is i)) ∷ behind (Procedure (length (sym s.m_is i))) [] (sym s.p_is i) in
    record {
      f = f;
      few_p = subst (λ (ps : List Proc). length ps < 2 ^ 32) (sym s.p_is) few;
      few_x = s.few_x;
      few_v = s.few_v;
      few_l = s.few_l;
      m_is = s.m_is;
      was = s.was;
      reached = subst (λ (xs : List Line). Reached (sections_due (of_procs ∷ of_sites ∷ of_contexts ∷ of_links ∷ []) (rows m [] [] [] [] finished) done) ps (xs ++ (site_list f ++ (context_list f f.nodes ++ link_list f))) (done f)) first
          (reached_on (sections_due (of_procs ∷ of_sites ∷ of_contexts ∷ of_links ∷ []) (rows m [] [] [] [] finished) done) ps (Count (codes "procs") 1 (length p) ∷ behind (Procedure (length m)) [] p) (sections_due (of_sites ∷ of_contexts ∷ of_links ∷ []) (rows m p [] [] [] finished) done)
          (site_list f ++ (context_list f f.nodes ++ link_list f)) (done f) r s.reached);
    }

from_procs : (m : List (List ℕ)) (finished : Bool) (ps : List (List ℕ)) → length m < 2 ^ 32 → (ps ≡ [] → ⊥) → FromProcs m finished ps
from_procs m finished ps few_m some =
    let t = list_reached of_procs (name_clean (codes "procs") refl) (Procedure (length m)) (λ zs. rows m zs [] [] [] finished) (λ before more. proc_takes m finished few_m before more) (record { «module» = 0; name = []; arity = 0 }) (λ g. sections_due (of_sites ∷ of_contexts ∷ of_links ∷ []) g done) ps some in
    procs_at m finished ps t.things t.few t.reached (from_sites m t.things finished (left t.reached) t.few (some_left t.reached))

record FromModules (finished : Bool) (ps : List (List ℕ)) : Type 0 where
  pub f : ProfileRows
  pub few : AreFew f
  pub was : f.finished ≡ finished
  pub reached : Reached (sections_due all_sections (begun finished) done) ps (module_list f ++ (proc_list f ++ (site_list f ++ (context_list f f.nodes ++ link_list f)))) (done f)

modules_at : (finished : Bool) (ps : List (List ℕ)) (m : List (List ℕ)) → length m < 2 ^ 32
    → (r : Reached (section_due of_modules (rows [] [] [] [] [] finished) (λ g. sections_due (of_procs ∷ of_sites ∷ of_contexts ∷ of_links ∷ []) g done)) ps (Count (codes "modules") 1 (length m) ∷ behind Module [] m) (sections_due (of_procs ∷ of_sites ∷ of_contexts ∷ of_links ∷ []) (rows m [] [] [] [] finished) done))
    → (s : FromProcs m finished (left r)) → FromModules finished ps
modules_at finished ps m few r s =
    let f = s.f in
    let first : Count (codes "modules") 1 (length m) ∷ behind Module [] m ≡ module_list f = λ i. Count (codes "modules") 1 (length (sym s.m_is i)) ∷ behind Module [] (sym s.m_is i) in
    record {
      f = f;
      few = record { modules = subst (λ (ms : List (List ℕ)). length ms < 2 ^ 32) (sym s.m_is) few; procs = s.few_p; sites = s.few_x; contexts = s.few_v; links = s.few_l };
      was = s.was;
      reached = subst (λ (xs : List Line). Reached (sections_due all_sections (begun finished) done) ps (xs ++ (proc_list f ++ (site_list f ++ (context_list f f.nodes ++ link_list f)))) (done f)) first
          (reached_on (sections_due all_sections (begun finished) done) ps (Count (codes "modules") 1 (length m) ∷ behind Module [] m) (sections_due (of_procs ∷ of_sites ∷ of_contexts ∷ of_links ∷ []) (rows m [] [] [] [] finished) done)
          (proc_list f ++ (site_list f ++ (context_list f f.nodes ++ link_list f))) (done f) r s.reached);
    }

from_modules : (finished : Bool) (ps : List (List ℕ)) → (ps ≡ [] → ⊥) → FromModules finished ps
from_modules finished ps some =
    let t = list_reached of_modules (name_clean (codes "modules") refl) Module (λ zs. rows zs [] [] [] [] finished) (λ before more. module_takes finished before more) [] (λ g. sections_due (of_procs ∷ of_sites ∷ of_contexts ∷ of_links ∷ []) g done) ps some in
    modules_at finished ps t.things t.few t.reached (from_procs t.things finished (left t.reached) t.few (some_left t.reached))

-- ---- the whole text

pub record TextReached (ps : List (List ℕ)) : Type 0 where
  pub f : ProfileRows
  pub few : AreFew f
  pub reached : Reached profile_text ps (lines f) (done f)

in_front : (a b c d : List Line) (t u : Line) → t ∷ u ∷ (a ++ (b ++ (c ++ d))) ≡ (t ∷ u ∷ (a ++ (b ++ c))) ++ d
in_front a b c d t u = ap (λ (xs : List Line). t ∷ u ∷ xs) (ap (λ (xs : List Line). a ++ xs) (sym (append_assoc b c d)) ∙ sym (append_assoc a (b ++ c) d))

text_at : (ps : List (List ℕ)) (finished : Bool) (r : Reached profile_text ps (Title ∷ []) (line (finished_due (λ b. sections_due all_sections (begun b) done))))
    (q : Reached (line (finished_due (λ b. sections_due all_sections (begun b) done))) (left r) (Finished finished ∷ []) (sections_due all_sections (begun finished) done)) → (s : FromModules finished (left q)) → TextReached ps
text_at ps finished r q s =
    let f = s.f in
    let all = module_list f ++ (proc_list f ++ (site_list f ++ (context_list f f.nodes ++ link_list f))) in
    let two = reached_on (line (finished_due (λ b. sections_due all_sections (begun b) done))) (left r) (Finished finished ∷ []) (sections_due all_sections (begun finished) done) all (done f) q s.reached in
    let three = reached_on profile_text ps (Title ∷ []) (line (finished_due (λ b. sections_due all_sections (begun b) done))) (Finished finished ∷ all) (done f) r two in
    let was = subst (λ (b : Bool). Reached profile_text ps (Title ∷ Finished b ∷ all) (done f)) (sym s.was) three in
    record {
      f = f;
      few = s.few;
      reached = subst (λ (xs : List Line). Reached profile_text ps xs (done f)) (in_front (module_list f) (proc_list f) (site_list f) (context_list f f.nodes ++ link_list f) Title (Finished f.finished)) was;
    }

finished_on : (ps : List (List ℕ)) (r : Reached profile_text ps (Title ∷ []) (line (finished_due (λ b. sections_due all_sections (begun b) done)))) → TextReached ps
finished_on ps r =
    let q = one_line (finished_takes (λ b. sections_due all_sections (begun b) done)) false tt (left r) (some_left r) in
    text_at ps q.thing r q.reached (from_modules q.thing (left q.reached) (some_left q.reached))

pub text_reached : (ps : List (List ℕ)) → (ps ≡ [] → ⊥) → TextReached ps
text_reached ps some = finished_on ps (one_line (title_takes (line (finished_due (λ b. sections_due all_sections (begun b) done)))) tt tt ps some).reached
