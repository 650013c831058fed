-- Where the decoder stands: in which field, behind what, and which format takes the rest of the file.
use Rattle.std.specs.Prelude.{ℕ, zero, suc, ◌≡◌, ◌+◌, ◌-◌, ◌*◌, ◌<◌, ◌≤◌, true, List, [], ◌∷◌, ◌++◌, length, drop, get_or, Result, Ok, Err}
use Rattle.std.specs.Int.{w32, from_le_bytes}
use Rattle.md_dynamic.specs.Profile.{ProfileRows}
use Rattle.md_deepfile.specs.Bytes.{magic}
use Rattle.md_deepfile.specs.Fields.{Text, Next, version_told, flag_told, modules_counted, module_field, module_told, procs_fields, procs_counted, proc_field, proc_module, proc_told, proc_arity, sites_fields, sites_counted, site_field, site_owner, site_line, site_callee, contexts_fields, contexts_counted, context_field, context_proc, links_fields, links_counted, root_caller, root_site, root_callee, root_own, link_field, link_caller, link_site, link_callee, link_own, ending}
use Rattle.md_deepfile.specs.Format.{Damage, byte, read, bytes, numbers, exactly, several, is_decided}
use Rattle.md_deepfile.specs.Rules.{begun, is_new_proc}
use Rattle.md_deepfile.specs.declared.damage.DecodeFault.{DecodeFault}
use Rattle.md_deepfile.specs.declared.damage.DecodeFault.TheVariants.{Damage as Damaged, NoMemory}
use Rattle.md_deepfile.specs.declared.part.Field.{Field}
use Rattle.md_deepfile.specs.declared.part.Field.TheVariants as fields
use Rattle.md_deepfile.specs.declared.part.Named.{Named}
use Rattle.md_deepfile.specs.declared.part.Named.TheVariants as named
use Rattle.md_deepfile.specs.declared.part.Part.{Part}
use Rattle.md_deepfile.specs.declared.part.Part.TheVariants as parts
use Rattle.md_deepfile.specs.declared.reader.Reader.{Reader}
use Rattle.md_deepfile.specs.declared.part.Version.{Version}
use Rattle.md_deepfile.specs.declared.part.Version.TheVariants as versions

-- the number whose four bytes begin at this place
abbrev pub number_at : List ℕ → ℕ → ℕ
number_at bs place = from_le_bytes w32 (get_or bs place 0 ∷ get_or bs (place + 1) 0 ∷ get_or bs (place + 2) 0 ∷ get_or bs (place + 3) 0 ∷ [])

-- so many numbers from this place on
abbrev pub numbers_at : ℕ → List ℕ → ℕ → List ℕ
numbers_at zero bs place = []
numbers_at (suc n) bs place = number_at bs place ∷ numbers_at n bs (place + 4)

-- how many counts a link has in a version
abbrev pub width : Version → ℕ
width versions.First = 6
width versions.Second = 7

-- The field, how many things are to come behind its own, the version, the bytes to come of the field and those that came,
-- the counts to come of the link behind this one and those that came, the place, and what was read.
pub record State : Type 0 where
  pub part : Part
  pub more : ℕ
  pub version : Version
  pub left : ℕ
  pub carry : List ℕ
  pub wanted : ℕ
  pub own : List ℕ
  pub at : ℕ
  pub rows : ProfileRows

-- what follows the thing at which the decoder stands
abbrev pub next_module : State → Next
next_module s = λ g. several module_field s.more g (procs_fields (width s.version))

abbrev pub next_proc : State → Next
next_proc s = λ g. several proc_field s.more g (sites_fields (width s.version))

abbrev pub next_site : State → Next
next_site s = λ g. several site_field s.more g (contexts_fields (width s.version))

abbrev pub next_context : State → Next
next_context s = λ g. several context_field s.more g (links_fields (width s.version))

abbrev pub next_link : State → Next
next_link s = λ g. several (link_field (width s.version)) s.more g (ending (width s.version))

-- what follows a number of this field
abbrev pub number_told : Field → State → ℕ → Text
number_told fields.ModuleCount s n = modules_counted (width s.version) s.rows n
number_told fields.ProcCount s n = procs_counted (width s.version) s.rows n
number_told fields.ProcModule s n = proc_module s.rows (next_proc s) n
number_told fields.SiteCount s n = sites_counted (width s.version) s.rows n
number_told fields.SiteOwner s n = site_owner s.rows (next_site s) n
number_told (fields.SiteLine owner) s n = site_line s.rows (next_site s) owner n
number_told (fields.SiteCallee owner line) s n = site_callee s.rows (next_site s) owner line n
number_told fields.ContextCount s n = contexts_counted (width s.version) s.rows n
number_told fields.ContextProc s n = context_proc s.rows (next_context s) n
number_told fields.LinkCount s n = links_counted (width s.version) s.rows n
number_told fields.RootCaller s n = root_caller (width s.version) s.rows (next_link s) n
number_told fields.RootSite s n = root_site (width s.version) s.rows (next_link s) n
number_told fields.RootCallee s n = root_callee (width s.version) s.rows (next_link s) n
number_told fields.RootOwn s n = numbers s.wanted (s.own ++ n ∷ []) (root_own s.rows (next_link s))
number_told fields.LinkCaller s n = link_caller (width s.version) s.rows (next_link s) n
number_told (fields.LinkSite v) s n = link_site (width s.version) s.rows (next_link s) v n
number_told (fields.LinkCallee v t) s n = link_callee (width s.version) s.rows (next_link s) v t n
number_told (fields.LinkOwn v t w) s n = numbers s.wanted (s.own ++ n ∷ []) (link_own (width s.version) s.rows (next_link s) v t w)

-- what follows a name
abbrev pub name_told : Named → State → List ℕ → Text
name_told named.Module s name = module_told s.rows (next_module s) name
name_told (named.Proc home) s name = proc_told s.rows (next_proc s) home name

-- the format that takes the rest of the file
abbrev pub form_at : Part → State → Text
form_at (parts.Magic place) s = exactly (drop place magic) (byte version_told)
form_at parts.Flag s = byte (flag_told (width s.version))
form_at (parts.Number field) s = bytes s.left s.carry (λ bs. number_told field s (from_le_bytes w32 bs))
form_at (parts.Length which) s = byte (λ n. bytes n [] (name_told which s))
form_at (parts.Name which) s = bytes s.left s.carry (name_told which s)
form_at (parts.Arity home) s = byte (proc_arity s.rows (next_proc s) home s.carry)
form_at parts.End s = ending (width s.version) s.rows

abbrev pub form_of : State → Text
form_of s = form_at s.part s

-- The most bytes that can come behind a number of this field: each count is below 2^32, so a file has less than 2^42 bytes.
abbrev pub after_number : Field → State → ℕ
after_number fields.ModuleCount s = 256 * 4294967295 + 1361504632531
after_number fields.ProcCount s = 261 * 4294967295 + 240518168532
after_number fields.ProcModule s = 257 + (261 * s.more + 240518168532)
after_number fields.SiteCount s = 12 * 4294967295 + 188978560988
after_number fields.SiteOwner s = 8 + (12 * s.more + 188978560988)
after_number (fields.SiteLine owner) s = 4 + (12 * s.more + 188978560988)
after_number (fields.SiteCallee owner line) s = 12 * s.more + 188978560988
after_number fields.ContextCount s = 4 * 4294967295 + 171798691804
after_number fields.ContextProc s = 4 * s.more + 171798691804
after_number fields.LinkCount s = 40 * 4294967295
after_number fields.RootCaller s = 36 + 40 * s.more
after_number fields.RootSite s = 32 + 40 * s.more
after_number fields.RootCallee s = 28 + 40 * s.more
after_number fields.RootOwn s = 4 * s.wanted + 40 * s.more
after_number fields.LinkCaller s = 36 + 40 * s.more
after_number (fields.LinkSite v) s = 32 + 40 * s.more
after_number (fields.LinkCallee v t) s = 28 + 40 * s.more
after_number (fields.LinkOwn v t w) s = 4 * s.wanted + 40 * s.more

abbrev pub after_name : Named → State → ℕ
after_name named.Module s = 256 * s.more + 1361504632531
after_name (named.Proc home) s = 1 + (261 * s.more + 240518168532)

-- the most that can come from where the decoder stands
abbrev pub to_come : Part → State → ℕ
to_come (parts.Magic place) s = (9 - place) + 2461016260055
to_come parts.Flag s = 1 + 2461016260055
to_come (parts.Number field) s = s.left + after_number field s
to_come (parts.Length which) s = 256 + after_name which s
to_come (parts.Name which) s = s.left + after_name which s
to_come (parts.Arity home) s = 1 + (261 * s.more + 240518168532)
to_come parts.End s = 0

-- what holds within a field
abbrev pub IsReadyNumber : Field → State → Type 0
IsReadyNumber (fields.LinkOwn v t w) s = w < length s.rows.nodes
IsReadyNumber fields.RootOwn s = Unit {0}
IsReadyNumber fields.ModuleCount s = Unit {0}
IsReadyNumber fields.ProcCount s = Unit {0}
IsReadyNumber fields.ProcModule s = Unit {0}
IsReadyNumber fields.SiteCount s = Unit {0}
IsReadyNumber fields.SiteOwner s = Unit {0}
IsReadyNumber (fields.SiteLine owner) s = Unit {0}
IsReadyNumber (fields.SiteCallee owner line) s = Unit {0}
IsReadyNumber fields.ContextCount s = Unit {0}
IsReadyNumber fields.ContextProc s = Unit {0}
IsReadyNumber fields.LinkCount s = Unit {0}
IsReadyNumber fields.RootCaller s = Unit {0}
IsReadyNumber fields.RootSite s = Unit {0}
IsReadyNumber fields.RootCallee s = Unit {0}
IsReadyNumber fields.LinkCaller s = Unit {0}
IsReadyNumber (fields.LinkSite v) s = Unit {0}
IsReadyNumber (fields.LinkCallee v t) s = Unit {0}

-- nothing was read yet
abbrev pub IsBegun : State → Type 0
IsBegun s = s.rows ≡ begun s.rows.finished

abbrev pub IsReadyPart : Part → State → Type 0
IsReadyPart (parts.Magic place) s = (place ≤ 7) × IsBegun s
IsReadyPart parts.Flag s = IsBegun s
IsReadyPart (parts.Number field) s = (0 < s.left) × (s.left + length s.carry ≡ 4) × IsReadyNumber field s
IsReadyPart (parts.Length which) s = Unit {0}
IsReadyPart (parts.Name which) s = 0 < s.left
IsReadyPart (parts.Arity home) s = is_new_proc s.rows home s.carry ≡ true
IsReadyPart parts.End s = Unit {0}

-- so many more bytes end below the bound of a file
abbrev pub HasPlaces : ℕ → State → Type 0
HasPlaces n s = s.at + n ≤ 4398046511104

-- it can take a byte, and its place is small
pub record IsReady (s : State) : Type 0 where
  pub part : IsReadyPart s.part s
  pub room : HasPlaces (to_come s.part s) s

-- where the decoder of this code stands
abbrev pub state_of : Reader → State
state_of r = record {
  part = r.part;
  more = r.more;
  version = r.version;
  left = r.left;
  carry = r.carry.items;
  wanted = r.wanted;
  own = r.own.items;
  at = r.at;
  rows = record { statics = record { modules = r.modules; procs = r.procs; sites = r.sites.items }; nodes = r.graph.nodes; links = r.graph.links; finished = r.finished };
}

-- what was to be taken by this format from this place is taken from where the decoder stands now
abbrev pub Leads : Text → ℕ → State → Type 0
Leads form at now = (rest : List ℕ) → read form at rest ≡ read (form_of now) now.at rest

-- The same bytes were to be taken by this format from this place: the new state takes them further, or their damage is told.
abbrev pub Follows : Text → ℕ → State → Result (Unit {0}) DecodeFault → Type 0
Follows form at now (Ok u) = Leads form at now
Follows form at now (Err (Damaged place kind)) = (is_decided kind ≡ true) × ((rest : List ℕ) → read form at rest ≡ Err (record { at = place; kind = kind }))
Follows form at now (Err NoMemory) = Unit {0}

-- the same of a byte and what follows it
abbrev pub FollowsByte : Text → ℕ → ℕ → State → Result (Unit {0}) DecodeFault → Type 0
FollowsByte form b at now (Ok u) = (rest : List ℕ) → read form at (b ∷ rest) ≡ read (form_of now) now.at rest
FollowsByte form b at now (Err (Damaged place kind)) = (is_decided kind ≡ true) × ((rest : List ℕ) → read form at (b ∷ rest) ≡ Err (record { at = place; kind = kind }))
FollowsByte form b at now (Err NoMemory) = Unit {0}

-- where the bytes end, this is what was read, or that damage
abbrev pub IsEnd : Result ProfileRows Damage → ProfileRows → Result (Unit {0}) DecodeFault → Type 0
IsEnd told rows (Ok u) = told ≡ Ok rows
IsEnd told rows (Err (Damaged place kind)) = told ≡ Err (record { at = place; kind = kind })
IsEnd told rows (Err NoMemory) = ⊥
