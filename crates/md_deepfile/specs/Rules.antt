-- What was read so far, with one thing more, and the rules that each thing has to keep beside what came before it.
use Rattle.std.specs.Prelude.{ℕ, zero, suc, ◌+◌, ◌-◌, ◌*◌, ◌==◌, ◌&&◌, ◌||◌, nat_lt, nat_le, not, Bool, true, false, List, [], ◌∷◌, ◌++◌, length, Option, None, Some, option_map, slice_get, slice_index, if◌then◌else◌}
use Rattle.std.specs.List.{list_any}
use Rattle.std.specs.Str.{bytes_eq}
use Rattle.md_base.specs.declared.measure.Counts.{Counts}
use Rattle.md_static.specs.declared.entry.Proc.{Proc}
use Rattle.md_static.specs.declared.entry.Site.{Site}
use Rattle.md_static.specs.declared.entry.SiteKind.{SiteKind}
use Rattle.md_static.specs.declared.entry.SiteKind.TheVariants.{Plain, HigherOrder}
use Rattle.md_static.specs.Names.{is_name}
use Rattle.md_static.specs.Tables.{callee_of}
use Rattle.md_dynamic.specs.declared.link.LinkRow.{LinkRow}
use Rattle.md_dynamic.specs.Profile.{ProfileRows}
use Rattle.md_dynamic.specs.Valid.{leads_down}
use Rattle.md_deepfile.specs.Bytes.{none}

-- nothing was read yet but whether the run was finished
abbrev pub begun : Bool → ProfileRows
begun finished = record { statics = record { modules = []; procs = []; sites = [] }; nodes = []; links = []; finished = finished }

abbrev pub with_module : ProfileRows → List ℕ → ProfileRows
with_module f name = record f { statics = record f.statics { modules = f.statics.modules ++ name ∷ [] } }

abbrev pub with_proc : ProfileRows → Proc → ProfileRows
with_proc f p = record f { statics = record f.statics { procs = f.statics.procs ++ p ∷ [] } }

abbrev pub with_site : ProfileRows → Site → ProfileRows
with_site f x = record f { statics = record f.statics { sites = f.statics.sites ++ x ∷ [] } }

abbrev pub with_context : ProfileRows → ℕ → ProfileRows
with_context f p = record f { nodes = f.nodes ++ p ∷ [] }

abbrev pub with_link : ProfileRows → LinkRow → ProfileRows
with_link f l = record f { links = f.links ++ l ∷ [] }

-- the name is one, and no module has it
abbrev pub is_new_module : ProfileRows → List ℕ → Bool
is_new_module f name = is_name name && not (list_any (bytes_eq name) f.statics.modules)

abbrev pub is_proc : ℕ → List ℕ → Proc → Bool
is_proc m name p = (m == p.module) && bytes_eq name p.name

-- the name is one, and no procedure of the module has it
abbrev pub is_new_proc : ProfileRows → ℕ → List ℕ → Bool
is_new_proc f m name = is_name name && not (list_any (is_proc m name) f.statics.procs)

abbrev pub proc_of : ℕ → List ℕ → ℕ → Proc
proc_of m name arity = record { «module» = m; name = name; arity = arity }

-- the owner of the last site, or 0
abbrev pub owner_or_zero : Option Site → ℕ
owner_or_zero None = 0
owner_or_zero (Some x) = x.owner

abbrev pub last_owner : List Site → ℕ
last_owner sites = owner_or_zero (slice_get sites (length sites - 1))

-- the procedure is there, and isn't less than the owner of the site before
abbrev pub is_owner : ProfileRows → ℕ → Bool
is_owner f p = nat_lt p (length f.statics.procs) && nat_le (last_owner f.statics.sites) p

-- a procedure that is there, or none
abbrev pub is_callee : ProfileRows → ℕ → Bool
is_callee f c = (c == none) || nat_lt c (length f.statics.procs)

abbrev pub kind_of : ℕ → SiteKind
kind_of c = if c == none then HigherOrder else Plain c

abbrev pub site_of : ℕ → ℕ → ℕ → Site
site_of owner line c = record { owner = owner; line = line; kind = kind_of c }

-- counts from their numbers in order; one that isn't there is 0
abbrev pub counts_of : List ℕ → Counts
counts_of ns = record {
  calls = slice_index ns 0;
  exits = slice_index ns 1;
  fails = slice_index ns 2;
  redos = slice_index ns 3;
  allocs = slice_index ns 4;
  words = slice_index ns 5;
  excps = slice_index ns 6;
}

abbrev pub root_of : List ℕ → LinkRow
root_of ns = record { caller = None; site = None; callee = 0; own = counts_of ns }

abbrev pub link_of : ℕ → ℕ → ℕ → List ℕ → LinkRow
link_of v s w ns = record { caller = Some v; site = Some s; callee = w; own = counts_of ns }

-- a plain site's callee is this one
abbrev pub may_be : Option ℕ → ℕ → Bool
may_be None q = true
may_be (Some c) q = c == q

-- the site belongs to the caller's procedure, and may call the callee's
abbrev pub fits : Option ℕ → Option Site → Option ℕ → Bool
fits (Some p) (Some x) (Some q) = (x.owner == p) && may_be (callee_of x.kind) q
fits (Some p) (Some x) None = false
fits (Some p) None q = false
fits None x q = false

abbrev pub fits_site : ProfileRows → ℕ → ℕ → ℕ → Bool
fits_site f v s w = fits (slice_get f.nodes v) (slice_get f.statics.sites s) (slice_get f.nodes w)

-- the number is there, and it is this one
abbrev pub is_number : Option ℕ → ℕ → Bool
is_number None n = false
is_number (Some m) n = n == m

-- the link has this caller and site, and leads to a context of this procedure
abbrev pub has_key : List ℕ → ℕ → ℕ → ℕ → LinkRow → Bool
has_key nodes v s q l = (is_number l.caller v && is_number l.site s) && is_number (slice_get nodes l.callee) q

abbrev pub has_any_key : List ℕ → List LinkRow → ℕ → ℕ → Option ℕ → Bool
has_any_key nodes links v s None = false
has_any_key nodes links v s (Some q) = list_any (has_key nodes v s q) links

-- no link has the same caller, site and procedure of the callee
abbrev pub is_new_link : ProfileRows → ℕ → ℕ → ℕ → Bool
is_new_link f v s w = not (has_any_key f.nodes f.links v s (slice_get f.nodes w))

-- the first of n contexts from v on that is reached from none of a lower number
abbrev pub orphan_from : List LinkRow → ℕ → ℕ → Option ℕ
orphan_from links v zero = None
orphan_from links v (suc n) = if list_any (leads_down v) links then orphan_from links (suc v) n else Some v

-- the bytes of a link with k counts
abbrev pub link_size : ℕ → ℕ
link_size k = 12 + 4 * k

-- how many bytes before the end the procedure of the lowest orphan stands
abbrev pub orphan_back : ℕ → ProfileRows → Option ℕ
orphan_back k f = option_map (λ v. 4 * (length f.nodes - v) + (4 + link_size k * length f.links)) (orphan_from f.links 1 (length f.nodes - 1))
