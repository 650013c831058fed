-- The lines of a profile are due one after the other, and whatever a text is, there are rows whose lines it follows as far as it can.
use Rattle.std.proofs.Common.{◌≡◌, ℕ, zero, suc, ◌<◌, ◌≤◌, ◌^◌, ◌⊎◌, inl, inr, Bool, true, false, cond, List, [], ◌∷◌, ◌++◌, length, codes, refl, sym, ap, subst, ◌∙◌, append_assoc, append-nil, arith}
use Rattle.std.specs.Str.{bytes_eq}
use Rattle.std.proofs.lemmas.Slice.Eq.{bytes_eq-Decides}
use Rattle.md_static.specs.declared.entry.Proc.{Proc}
use Rattle.md_static.specs.declared.entry.Site.{Site}
use Rattle.md_static.specs.Tables.{Static}
use Rattle.md_dynamic.specs.declared.link.LinkRow.{LinkRow}
use Rattle.md_dynamic.specs.Profile.{ProfileRows}
use Rattle.md_deepfile.specs.Rules.{begun}
use Rattle.md_deepfile.proofs.Whole.{rows}
use Rattle.md_dump.specs.Due.{Due, done, line, fault, must}
use Rattle.md_dump.specs.Lines.{Next, thing_due, several, name_of, least_of, section_due, sections_due, all_sections, finished_due, title_due, profile_text}
use Rattle.md_dump.specs.Text.{title_words, finished_words}
use Rattle.md_dump.proofs.Clean.{row, AreClean, name_clean}
use Rattle.md_dump.proofs.Decimal.{IsClean}
use Rattle.md_dump.proofs.WholeText.{title_clean, finished_clean}
use Rattle.law_faults.specs.Fault.{AreFew}
use Rattle.law_faults.specs.Lines.{Line, Title, Finished, Count, Module, Procedure, CallSite, Link, Keeps, behind, context_line, link_line, module_list, proc_list, site_list, context_list, link_list, lines}
use Rattle.law_faults.proofs.Taken.{Section, of_modules, of_procs, of_sites, of_contexts, of_links, Takes, Any, count_takes, module_takes, proc_takes, site_takes, context_takes, root_takes, link_takes}
use Rattle.law_faults.proofs.Along.{Along, along_on, one_along, Reached, whole, left, some_left, reached_on, one_line}

-- ---- the lines before the lists

pub title_takes : (next : Due) → Takes (title_due next) (λ (u : Unit {0}). Title) Any (λ u. next)
title_takes next = record {
  again = λ u small keeps. refl;
  tells = λ l. by l (bytes_eq l (codes "mdprof dump 2")) refl;
  clean = λ u small keeps. title_clean;
}
  where
    by : (l : List ℕ) (b : Bool) → bytes_eq l (codes "mdprof dump 2") ≡ b → (title_due next l ≡ fault) ⊎ ((u : Unit {0}) × Any u × Keeps Title × (l ≡ row title_words))
    by l true is = inr (tt, tt, tt, (bytes_eq-Decides l (codes "mdprof dump 2")).0 is)
    by l false is = inl (ap (λ (b : Bool). must b next) is)

pub finished_takes : (next : Bool → Due) → Takes (finished_due next) Finished Any next
finished_takes next = record {
  again = again_of;
  tells = λ l. by l (bytes_eq l (codes "finished yes")) (bytes_eq l (codes "finished no")) refl refl;
  clean = λ b small keeps. finished_clean b;
}
  where
    again_of : (b : Bool) → Any b → Keeps (Finished b) → finished_due next (row (finished_words b)) ≡ next b
    again_of true small keeps = refl
    again_of false small keeps = refl

    by : (l : List ℕ) (one two : Bool) → bytes_eq l (codes "finished yes") ≡ one → bytes_eq l (codes "finished no") ≡ two → (finished_due next l ≡ fault) ⊎ ((b : Bool) × Any b × Keeps (Finished b) × (l ≡ row (finished_words b)))
    by l true two is also = inr (true, tt, tt, (bytes_eq-Decides l (codes "finished yes")).0 is)
    by l false true is also = inr (false, tt, tt, (bytes_eq-Decides l (codes "finished no")).0 also)
    by l false false is also =
        inl (ap (λ (b : Bool). cond b (next true) (must (bytes_eq l (codes "finished no")) (next false))) is ∙ ap (λ (b : Bool). must b (next false)) also)

-- ---- the rows of a list

module _ {X : Type 0} (section : Section) (line_of : List X → X → Line) (at : List X → ProfileRows)
    (takes : (before : List X) (more : Next) → Takes (thing_due section (at before) more) (line_of before) Any (λ x. more (at (before ++ x ∷ [])))) where
  pub rows_along : (next : Next) (before xs : List X) → Along (several section (length xs) (at before) next) (behind line_of before xs) (next (at (before ++ xs)))
  rows_along next before [] = ap (λ (ys : List X). next (at ys)) (sym (append-nil before))
  rows_along next before (x ∷ xs) =
      one_along (takes before (λ g. several section (length xs) g next)) x (next (at (before ++ x ∷ xs))) (behind line_of (before ++ x ∷ []) xs) (λ keeps. tt)
      (λ keeps. subst (λ (ys : List X). Along (several section (length xs) (at (before ++ x ∷ [])) next) (behind line_of (before ++ x ∷ []) xs) (next (at ys))) (append_assoc before (x ∷ []) xs) (rows_along next (before ++ x ∷ []) xs))

  pub record RowsReached (next : Next) (n : ℕ) (before : List X) (ps : List (List ℕ)) : Type 0 where
    pub things : List X
    pub size : length things ≡ n
    pub reached : Reached (several section n (at before) next) ps (behind line_of before things) (next (at (before ++ things)))

  pub rows_reached : (blank : X) (next : Next) (n : ℕ) (before : List X) (ps : List (List ℕ)) → (ps ≡ [] → ⊥) → RowsReached next n before ps
  rows_reached blank next zero before ps some = record { things = []; size = refl; reached = whole ps some tt tt refl (ap (λ (ys : List X). next (at ys)) (sym (append-nil before))) }
  rows_reached blank next (suc n) before ps some =
      let one = one_line (takes before (λ g. several section n g next)) blank tt ps some in
      let t = rows_reached blank next n (before ++ one.thing ∷ []) (left one.reached) (some_left one.reached) in
      record {
        things = one.thing ∷ t.things;
        size = ap (λ (k : ℕ). suc k) t.size;
        reached = reached_on (several section (suc n) (at before) next) ps (line_of before one.thing ∷ []) (several section n (at (before ++ one.thing ∷ [])) next) (behind line_of (before ++ one.thing ∷ []) t.things) (next (at (before ++ one.thing ∷ t.things)))
            one.reached
            (subst (λ (ys : List X). Reached (several section n (at (before ++ one.thing ∷ [])) next) (left one.reached) (behind line_of (before ++ one.thing ∷ []) t.things) (next (at ys))) (append_assoc before (one.thing ∷ []) t.things) t.reached);
      }

-- a list behind its count
counted_along : (section : Section) → IsClean (name_of section) → (f : ProfileRows) (next : Next) (n : ℕ) (xs : List Line) (end : Due) → n < 2 ^ 32 → Along (several section n f next) xs end → Along (section_due section f next) (Count (name_of section) (least_of section) n ∷ xs) end
counted_along section named f next n xs end few along = one_along (count_takes section named f next) n end xs (λ keeps. few) (λ keeps. along)

-- the same where the count has to be kept
counted_where : (section : Section) → IsClean (name_of section) → (f : ProfileRows) (next : Next) (n : ℕ) (xs : List Line) (end : Due) → n < 2 ^ 32 → (least_of section ≤ n → Along (several section n f next) xs end) → Along (section_due section f next) (Count (name_of section) (least_of section) n ∷ xs) end
counted_where section named f next n xs end few along = one_along (count_takes section named f next) n end xs (λ keeps. few) along

pub behind_root : (statics : Static) (nodes : List ℕ) (root : LinkRow) (before xs : List LinkRow) → behind (λ zs. Link statics nodes zs) before xs ≡ behind (link_line statics nodes) (root ∷ before) xs
behind_root statics nodes root before [] = refl
behind_root statics nodes root before (x ∷ xs) = ap (λ (ys : List Line). Link statics nodes before x ∷ ys) (behind_root statics nodes root (before ++ x ∷ []) xs)

links_along : (m : List (List ℕ)) (p : List Proc) (x : List Site) (v : List ℕ) (finished : Bool) (l : List LinkRow) → length v < 2 ^ 32 → length x < 2 ^ 32 → length l < 2 ^ 32
    → Along (section_due of_links (rows m p x v [] finished) done) (Count (codes "links") 1 (length l) ∷ behind (link_line (record { modules = m; procs = p; sites = x }) v) [] l) (done (rows m p x v l finished))
links_along m p x v finished [] few_v few_x few = counted_where of_links (name_clean (codes "links") refl) (rows m p x v [] finished) done 0 [] (done (rows m p x v [] finished)) few (λ some. absurd (omega (arith, some)))
links_along m p x v finished (root ∷ others) few_v few_x few =
    let statics : Static = record { modules = m; procs = p; sites = x } in
    let f = rows m p x v [] finished in
    let end = done (rows m p x v (root ∷ others) finished) in
    let at : List LinkRow → ProfileRows = λ zs. rows m p x v (root ∷ zs) finished in
    counted_along of_links (name_clean (codes "links") refl) f done (suc (length others)) (behind (link_line statics v) [] (root ∷ others)) end few
    (one_along (root_takes f (λ g. several of_links (length others) g done)) root end (behind (link_line statics v) (root ∷ []) others) (λ keeps. keeps.0.caller)
    (λ keeps. subst (λ (xs : List Line). Along (several of_links (length others) (at []) done) xs end) (behind_root statics v root [] others)
    (rows_along of_links (λ zs. Link statics v zs) at (λ before more. link_takes m p x v finished few_v few_x root keeps.0.caller before more) done [] others)))

pub text_along : (f : ProfileRows) → AreFew f → Along profile_text (lines f) (done f)
text_along f few =
    let m = f.statics.modules in
    let p = f.statics.procs in
    let x = f.statics.sites in
    let v = f.nodes in
    let b = f.finished in
    let after_contexts : Next = λ g. sections_due (of_links ∷ []) g done in
    let after_sites : Next = λ g. sections_due (of_contexts ∷ of_links ∷ []) g done in
    let after_procs : Next = λ g. sections_due (of_sites ∷ of_contexts ∷ of_links ∷ []) g done in
    let after_modules : Next = λ g. sections_due (of_procs ∷ of_sites ∷ of_contexts ∷ of_links ∷ []) g done in
    let ms = counted_along of_modules (name_clean (codes "modules") refl) (rows [] [] [] [] [] b) after_modules (length m) (behind Module [] m) (after_modules (rows m [] [] [] [] b)) few.modules
    (rows_along of_modules Module (λ zs. rows zs [] [] [] [] b) (λ before more. module_takes b before more) after_modules [] m) in
    let ps = counted_along of_procs (name_clean (codes "procs") refl) (rows m [] [] [] [] b) after_procs (length p) (behind (Procedure (length m)) [] p) (after_procs (rows m p [] [] [] b)) few.procs
    (rows_along of_procs (Procedure (length m)) (λ zs. rows m zs [] [] [] b) (λ before more. proc_takes m b few.modules before more) after_procs [] p) in
    let xs = counted_along of_sites (name_clean (codes "sites") refl) (rows m p [] [] [] b) after_sites (length x) (behind (CallSite (length p)) [] x) (after_sites (rows m p x [] [] b)) few.sites
    (rows_along of_sites (CallSite (length p)) (λ zs. rows m p zs [] [] b) (λ before more. site_takes m p b few.procs before more) after_sites [] x) in
    let vs = counted_along of_contexts (name_clean (codes "contexts") refl) (rows m p x [] [] b) after_contexts (length v) (behind (context_line (length p)) [] v) (after_contexts (rows m p x v [] b)) few.contexts
    (rows_along of_contexts (context_line (length p)) (λ zs. rows m p x zs [] b) (λ before more. context_takes m p x b few.procs before more) after_contexts [] v) in
    let ls = links_along m p x v b f.links few.contexts few.sites few.links in
    let lists = along_on (after_modules (rows m [] [] [] [] b)) (after_sites (rows m p x [] [] b)) (done f) (proc_list f ++ site_list f) (context_list f v ++ link_list f)
    (along_on (after_modules (rows m [] [] [] [] b)) (after_procs (rows m p [] [] [] b)) (after_sites (rows m p x [] [] b)) (proc_list f) (site_list f) ps xs)
    (along_on (after_sites (rows m p x [] [] b)) (after_contexts (rows m p x v [] b)) (done f) (context_list f v) (link_list f) vs ls) in
    let all = subst (λ (ys : List Line). Along (sections_due all_sections (begun b) done) ys (done f)) (sym (append_assoc (module_list f) (proc_list f ++ site_list f) (context_list f v ++ link_list f)))
    (along_on (sections_due all_sections (begun b) done) (after_modules (rows m [] [] [] [] b)) (done f) (module_list f) ((proc_list f ++ site_list f) ++ (context_list f v ++ link_list f)) ms lists) in
    one_along (title_takes (line (finished_due (λ c. sections_due all_sections (begun c) done)))) tt (done f) (Finished b ∷ ((module_list f ++ (proc_list f ++ site_list f)) ++ (context_list f v ++ link_list f))) (λ keeps. tt)
    (λ keeps. one_along (finished_takes (λ c. sections_due all_sections (begun c) done)) b (done f) ((module_list f ++ (proc_list f ++ site_list f)) ++ (context_list f v ++ link_list f)) (λ keeps. tt) (λ keeps. all))
