-- The text of a profile, line by line, and the rules that each line keeps beside those before it.
use Rattle.std.specs.Prelude.{ℕ, zero, suc, ◌&&◌, nat_lt, nat_le, Bool, true, false, List, [], ◌∷◌, length, codes, Option, None, Some, if◌then◌else◌}
use Rattle.std.specs.Str.{bytes_eq}
use Rattle.md_base.specs.declared.measure.Counts.{Counts}
use Rattle.md_static.specs.declared.entry.Proc.{Proc}
use Rattle.md_static.specs.declared.entry.Site.{Site}
use Rattle.md_static.specs.declared.entry.SiteKind.{SiteKind}
use Rattle.md_static.specs.declared.entry.SiteKind.TheVariants.{Plain, HigherOrder}
use Rattle.md_dynamic.specs.declared.link.LinkRow.{LinkRow}
use Rattle.md_dynamic.specs.Profile.{ProfileRows}
use Rattle.md_deepfile.specs.Rules.{begun, with_module, with_proc, with_site, with_context, with_link, is_new_module, is_new_proc, is_owner, fits_site, is_new_link}
use Rattle.md_dump.specs.Due.{Due, done, line, must, given}
use Rattle.md_dump.specs.Forms.{words_of, count_form, proc_form, site_form, context_form, root_form, link_form}
use Rattle.md_dump.specs.declared.form.LinkLine.{LinkLine}
use Rattle.md_dump.specs.declared.form.SiteLine.{SiteLine}
use Rattle.md_dump.specs.declared.section.Section.{Section}
use Rattle.md_dump.specs.declared.section.Section.TheVariants as sections

-- what is due behind all that was read so far
abbrev pub Next : Type 0
Next = ProfileRows → Due

-- a module's name, which none before it has
abbrev pub module_due : ProfileRows → Next → List ℕ → Due
module_due f next name = must (is_new_module f name) (next (with_module f name))

-- a procedure: its module is there, and none of that module has its name
abbrev pub is_fine_proc : ProfileRows → Proc → Bool
is_fine_proc f p = nat_lt p.module (length f.statics.modules) && is_new_proc f p.module p.name

abbrev pub proc_due : ProfileRows → Next → List ℕ → Due
proc_due f next l = given (proc_form (words_of l)) (λ p. must (is_fine_proc f p) (next (with_proc f p)))

-- a call site: its owner is there and isn't less than that of the site before, its line is at least 1, and its callee is there
abbrev pub is_there : ℕ → Option ℕ → Bool
is_there count None = true
is_there count (Some n) = nat_lt n count

abbrev pub is_fine_site : ProfileRows → SiteLine → Bool
is_fine_site f x = is_owner f x.owner && nat_le 1 x.line && is_there (length f.statics.procs) x.callee

abbrev pub kind_called : Option ℕ → SiteKind
kind_called None = HigherOrder
kind_called (Some callee) = Plain callee

abbrev pub site_row : SiteLine → Site
site_row x = record { owner = x.owner; line = x.line; kind = kind_called x.callee }

abbrev pub site_due : ProfileRows → Next → List ℕ → Due
site_due f next l = given (site_form (words_of l)) (λ x. must (is_fine_site f x) (next (with_site f (site_row x))))

-- a context: its procedure is there
abbrev pub context_due : ProfileRows → Next → List ℕ → Due
context_due f next l = given (context_form (words_of l)) (λ p. must (nat_lt p (length f.statics.procs)) (next (with_context f p)))

-- the first link is the root link
abbrev pub root_row : Counts → LinkRow
root_row own = record { caller = None; site = None; callee = 0; own = own }

abbrev pub root_due : ProfileRows → Next → List ℕ → Due
root_due f next l = given (root_form (words_of l)) (λ own. next (with_link f (root_row own)))

-- each other link: its contexts and its site are there, the site belongs to the caller's procedure and may call the
-- callee's, and no link before it has the same caller, site and procedure
abbrev pub link_row : LinkLine → LinkRow
link_row l = record { caller = Some l.caller; site = Some l.site; callee = l.callee; own = l.own }

abbrev pub is_fine_link : ProfileRows → LinkLine → Bool
is_fine_link f l = fits_site f l.caller l.site l.callee && is_new_link f l.caller l.site l.callee

abbrev pub other_due : ProfileRows → Next → List ℕ → Due
other_due f next l = given (link_form (words_of l)) (λ n. must (is_fine_link f n) (next (with_link f (link_row n))))

abbrev pub link_due : List LinkRow → ProfileRows → Next → List ℕ → Due
link_due [] f next l = root_due f next l
link_due (r ∷ rs) f next l = other_due f next l

-- a line of a section
abbrev pub thing_due : Section → ProfileRows → Next → List ℕ → Due
thing_due sections.Modules f next l = module_due f next l
thing_due sections.Procs f next l = proc_due f next l
thing_due sections.Sites f next l = site_due f next l
thing_due sections.Contexts f next l = context_due f next l
thing_due sections.Links f next l = link_due f.links f next l

-- so many lines of a section
abbrev pub several : Section → ℕ → ProfileRows → Next → Due
several section zero f next = next f
several section (suc n) f next = line (thing_due section f (λ g. several section n g next))

-- a section behind the number of its lines, which is at least 1 but for the call sites
abbrev pub name_of : Section → List ℕ
name_of sections.Modules = codes "modules"
name_of sections.Procs = codes "procs"
name_of sections.Sites = codes "sites"
name_of sections.Contexts = codes "contexts"
name_of sections.Links = codes "links"

abbrev pub least_of : Section → ℕ
least_of sections.Modules = 1
least_of sections.Procs = 1
least_of sections.Sites = 0
least_of sections.Contexts = 1
least_of sections.Links = 1

abbrev pub count_due : Section → ProfileRows → Next → List ℕ → Due
count_due section f next l = given (count_form (name_of section) (words_of l)) (λ n. must (nat_le (least_of section) n) (several section n f next))

abbrev pub section_due : Section → ProfileRows → Next → Due
section_due section f next = line (count_due section f next)

-- sections one after the other
abbrev pub sections_due : List Section → ProfileRows → Next → Due
sections_due [] f next = next f
sections_due (section ∷ more) f next = section_due section f (λ g. sections_due more g next)

abbrev pub all_sections : List Section
all_sections = sections.Modules ∷ sections.Procs ∷ sections.Sites ∷ sections.Contexts ∷ sections.Links ∷ []

-- whether the run was finished
abbrev pub finished_due : (Bool → Due) → List ℕ → Due
finished_due next l = if bytes_eq l (codes "finished yes") then next true else must (bytes_eq l (codes "finished no")) (next false)

abbrev pub title_due : Due → List ℕ → Due
title_due next l = must (bytes_eq l (codes "mdprof dump 2")) next

-- the lines before the sections
abbrev pub front_due : (Bool → Due) → Due
front_due next = line (title_due (line (finished_due next)))

abbrev pub profile_text : Due
profile_text = front_due (λ finished. sections_due all_sections (begun finished) done)
