-- The tables of a program as three lists, and the site table that they give with a main procedure.
use Rattle.std.specs.Prelude.{ℕ, List, length, map, Option, Some, None}
use Rattle.md_static.specs.declared.entry.Proc.{Proc}
use Rattle.md_static.specs.declared.entry.Site.{Site}
use Rattle.md_static.specs.declared.entry.SiteKind.{SiteKind}
use Rattle.md_static.specs.declared.entry.SiteKind.TheVariants.{Plain, HigherOrder}
use Rattle.md_trace.specs.PortHistory.{CallSite, SiteTable}

-- modules by name, procedures, and call sites
pub record Static : Type 0 where
  pub modules : List (List ℕ)
  pub procs : List Proc
  pub sites : List Site

-- the procedure that a site calls, or none where it is higher-order
abbrev pub callee_of : SiteKind → Option ℕ
callee_of (Plain q) = Some q
callee_of HigherOrder = None

-- a call site as a port history sees it
abbrev pub call_site : Site → CallSite
call_site x = record { owner = x.owner; callee = callee_of x.kind }

-- the site table of these tables and a main procedure
abbrev pub site_table : Static → ℕ → SiteTable
site_table s main = record { main = main; procedures = length s.procs; sites = map call_site s.sites }
