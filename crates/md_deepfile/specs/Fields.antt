-- The profile file, field by field. Links have k counts, six in version 1 and seven in version 2.
use Rattle.std.specs.Prelude.{ℕ, ◌+◌, ◌-◌, ◌==◌, ◌||◌, nat_lt, nat_le, List, [], length, if◌then◌else◌}
use Rattle.md_dynamic.specs.Profile.{ProfileRows}
use Rattle.md_deepfile.specs.Bytes.{none, magic}
use Rattle.md_deepfile.specs.Format.{Format, done, byte, must, number, numbers, text, exactly, several}
use Rattle.md_deepfile.specs.Rules.{begun, with_module, with_proc, with_site, with_context, with_link, is_new_module, is_new_proc, proc_of, is_owner, is_callee, site_of, root_of, link_of, fits_site, is_new_link, link_size, orphan_back}
use Rattle.md_deepfile.specs.declared.damage.Kind.TheVariants as kinds

abbrev pub Text : Type 0
Text = Format ProfileRows

-- what follows a thing, behind all that was read with it
abbrev pub Next : Type 0
Next = ProfileRows → Text

-- modules: a name each
abbrev pub module_told : ProfileRows → Next → List ℕ → Text
module_told f next name = must kinds.Text (length name + 1) (is_new_module f name) (next (with_module f name))

abbrev pub module_field : ProfileRows → Next → Text
module_field f next = text (module_told f next)

-- procedures: module, name, arity
abbrev pub proc_arity : ProfileRows → Next → ℕ → List ℕ → ℕ → Text
proc_arity f next m name arity = next (with_proc f (proc_of m name arity))

abbrev pub proc_told : ProfileRows → Next → ℕ → List ℕ → Text
proc_told f next m name = must kinds.Text (length name + 1) (is_new_proc f m name) (byte (proc_arity f next m name))

abbrev pub proc_module : ProfileRows → Next → ℕ → Text
proc_module f next m = must kinds.Range 4 (nat_lt m (length f.statics.modules)) (text (proc_told f next m))

abbrev pub proc_field : ProfileRows → Next → Text
proc_field f next = number (proc_module f next)

-- call sites: owner, line, callee
abbrev pub site_callee : ProfileRows → Next → ℕ → ℕ → ℕ → Text
site_callee f next owner line c = must kinds.Range 4 (is_callee f c) (next (with_site f (site_of owner line c)))

abbrev pub site_line : ProfileRows → Next → ℕ → ℕ → Text
site_line f next owner line = must kinds.Range 4 (nat_le 1 line) (number (site_callee f next owner line))

abbrev pub site_owner : ProfileRows → Next → ℕ → Text
site_owner f next owner = must kinds.Range 4 (is_owner f owner) (number (site_line f next owner))

abbrev pub site_field : ProfileRows → Next → Text
site_field f next = number (site_owner f next)

-- contexts: a procedure each
abbrev pub context_proc : ProfileRows → Next → ℕ → Text
context_proc f next p = must kinds.Range 4 (nat_lt p (length f.statics.procs)) (next (with_context f p))

abbrev pub context_field : ProfileRows → Next → Text
context_field f next = number (context_proc f next)

-- the root link: no caller, no site, context 0, and its counts
abbrev pub root_own : ProfileRows → Next → List ℕ → Text
root_own f next ns = next (with_link f (root_of ns))

abbrev pub root_callee : ℕ → ProfileRows → Next → ℕ → Text
root_callee k f next w = must kinds.Range 4 (w == 0) (numbers k [] (root_own f next))

abbrev pub root_site : ℕ → ProfileRows → Next → ℕ → Text
root_site k f next s = must kinds.Range 4 (s == none) (number (root_callee k f next))

abbrev pub root_caller : ℕ → ProfileRows → Next → ℕ → Text
root_caller k f next v = must kinds.Range 4 (v == none) (number (root_site k f next))

abbrev pub root_field : ℕ → ProfileRows → Next → Text
root_field k f next = number (root_caller k f next)

-- each other link: caller, site, callee and its counts, and behind them the rules on the whole link
abbrev pub link_own : ℕ → ProfileRows → Next → ℕ → ℕ → ℕ → List ℕ → Text
link_own k f next v s w ns =
    must kinds.SiteMismatch (link_size k) (fits_site f v s w)
    (must kinds.DoubleLink (link_size k) (is_new_link f v s w) (next (with_link f (link_of v s w ns))))

abbrev pub link_callee : ℕ → ProfileRows → Next → ℕ → ℕ → ℕ → Text
link_callee k f next v s w = must kinds.Range 4 (nat_lt w (length f.nodes)) (numbers k [] (link_own k f next v s w))

abbrev pub link_site : ℕ → ProfileRows → Next → ℕ → ℕ → Text
link_site k f next v s = must kinds.Range 4 (nat_lt s (length f.statics.sites)) (number (link_callee k f next v s))

abbrev pub link_caller : ℕ → ProfileRows → Next → ℕ → Text
link_caller k f next v = must kinds.Range 4 (nat_lt v (length f.nodes)) (number (link_site k f next v))

abbrev pub link_field : ℕ → ProfileRows → Next → Text
link_field k f next = number (link_caller k f next)

-- nothing follows the last link
abbrev pub ending : ℕ → Next
ending k f = done (orphan_back k f) f

-- the lists, each with its count before it
abbrev pub links_counted : ℕ → ProfileRows → ℕ → Text
links_counted k f n = must kinds.Range 4 (nat_le 1 n) (root_field k f (λ g. several (link_field k) (n - 1) g (ending k)))

abbrev pub links_fields : ℕ → Next
links_fields k f = number (links_counted k f)

abbrev pub contexts_counted : ℕ → ProfileRows → ℕ → Text
contexts_counted k f n = must kinds.Range 4 (nat_le 1 n) (several context_field n f (links_fields k))

abbrev pub contexts_fields : ℕ → Next
contexts_fields k f = number (contexts_counted k f)

abbrev pub sites_counted : ℕ → ProfileRows → ℕ → Text
sites_counted k f n = several site_field n f (contexts_fields k)

abbrev pub sites_fields : ℕ → Next
sites_fields k f = number (sites_counted k f)

abbrev pub procs_counted : ℕ → ProfileRows → ℕ → Text
procs_counted k f n = must kinds.Range 4 (nat_le 1 n) (several proc_field n f (sites_fields k))

abbrev pub procs_fields : ℕ → Next
procs_fields k f = number (procs_counted k f)

abbrev pub modules_counted : ℕ → ProfileRows → ℕ → Text
modules_counted k f n = must kinds.Range 4 (nat_le 1 n) (several module_field n f (procs_fields k))

abbrev pub modules_fields : ℕ → Next
modules_fields k f = number (modules_counted k f)

-- whether the run was finished
abbrev pub flag_told : ℕ → ℕ → Text
flag_told k b = must kinds.Flag 1 (nat_le b 1) (modules_fields k (begun (b == 1)))

-- the version, 49 or 50, says how many counts a link has
abbrev pub counts_in : ℕ → ℕ
counts_in version = if version == 49 then 6 else 7

abbrev pub version_told : ℕ → Text
version_told v = must kinds.Magic 1 ((v == 49) || (v == 50)) (byte (flag_told (counts_in v)))

abbrev pub profile_file : Text
profile_file = exactly magic (byte version_told)
