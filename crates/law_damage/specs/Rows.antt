-- What a file says, as rows of numbers and names, which may break any rule.
use Rattle.std.specs.Prelude.{ℕ, List, map, take, if◌then◌else◌, ◌==◌}
use Rattle.md_static.specs.declared.entry.Proc.{Proc}
use Rattle.md_static.specs.declared.entry.Site.{Site}
use Rattle.md_static.specs.Tables.{callee_of}
use Rattle.md_dynamic.specs.declared.link.LinkRow.{LinkRow}
use Rattle.md_dynamic.specs.Profile.{ProfileRows}
use Rattle.md_deepfile.specs.Bytes.{magic, or_none, numbers_of, flag_byte}

pub record SiteNumbers : Type 0 where
  pub owner : ℕ
  pub line : ℕ
  pub callee : ℕ

-- with the counts in their order
pub record LinkNumbers : Type 0 where
  pub caller : ℕ
  pub site : ℕ
  pub callee : ℕ
  pub own : List ℕ

-- the bytes before the lists, and the lists; the numbers of a procedure are its module and its arity
pub record FileRows : Type 0 where
  pub magic : List ℕ
  pub version : ℕ
  pub finished : ℕ
  pub modules : List (List ℕ)
  pub procs : List Proc
  pub sites : List SiteNumbers
  pub contexts : List ℕ
  pub links : List LinkNumbers

-- how many counts a link has: six in version 1, whose byte is 49, and seven else
abbrev pub counts_in : ℕ → ℕ
counts_in version = if version == 49 then 6 else 7

-- ---- the rows of a profile

abbrev pub site_numbers : Site → SiteNumbers
site_numbers x = record { owner = x.owner; line = x.line; callee = or_none (callee_of x.kind) }

abbrev pub link_numbers : ℕ → LinkRow → LinkNumbers
link_numbers k l = record { caller = or_none l.caller; site = or_none l.site; callee = l.callee; own = take k (numbers_of l.own) }

-- what the file of this version says of a profile
abbrev pub rows_of : ℕ → ProfileRows → FileRows
rows_of version f = record {
  magic = magic;
  version = version;
  finished = flag_byte f.finished;
  modules = f.statics.modules;
  procs = f.statics.procs;
  sites = map site_numbers f.statics.sites;
  contexts = f.nodes;
  links = map (link_numbers (counts_in version)) f.links;
}
