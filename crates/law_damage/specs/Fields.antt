-- The fields of a file in their order, whether or not they keep the rules: what is written in each, and its rule.
use Rattle.std.specs.Prelude.{ℕ, ◌≡◌, ◌≢◌, ◌⊎◌, ◌+◌, ◌*◌, ◌<◌, ◌≤◌, ◌^◌, List, [], ◌∷◌, ◌++◌, length, map, take, flat_map, All, Option, None, Some, IfSome, IsSomeAnd, IsTrue, slice_get}
use Rattle.md_static.specs.declared.entry.Proc.{Proc}
use Rattle.md_static.specs.Names.{is_name}
use Rattle.md_deepfile.specs.Bytes.{u32, none, name_bytes, magic}
use Rattle.md_deepfile.specs.declared.damage.Kind.{Kind}
use Rattle.md_deepfile.specs.declared.damage.Kind.TheVariants as kinds
use Rattle.law_damage.specs.Rows.{SiteNumbers, LinkNumbers, FileRows}

-- ---- what is written

-- a byte, a number of four bytes, a name behind its length, or nothing, where a rule is about a whole row
pub data Value : Type 0 where
  Byte : ℕ → Value
  Number : ℕ → Value
  Name : List ℕ → Value
  Nothing : Value

abbrev pub value_bytes : Value → List ℕ
value_bytes (Byte b) = b ∷ []
value_bytes (Number n) = u32 n
value_bytes (Name name) = name_bytes name
value_bytes Nothing = []

-- it has room in its field
abbrev pub HasRoom : Value → Type 0
HasRoom (Byte b) = b < 256
HasRoom (Number n) = n < 2 ^ 32
HasRoom (Name name) = (length name < 256) × All (λ b. b < 256) name
HasRoom Nothing = Unit {0}

-- ---- the fields, and what their rules are about

-- `before` are the rows of the same list that stand before; `modules`, `procs` and the like are how many there are
pub data Field : Type 0 where
  -- a byte of the magic, and which it has to be; the version; whether the run was finished
  MagicByte : (due b : ℕ) → Field
  Version : (v : ℕ) → Field
  Finished : (b : ℕ) → Field
  -- how many modules, procedures, contexts or links there are; how many call sites
  Count : (n : ℕ) → Field
  SiteCount : (n : ℕ) → Field
  ModuleName : (before : List (List ℕ)) (name : List ℕ) → Field
  ProcModule : (modules m : ℕ) → Field
  ProcName : (before : List Proc) (m : ℕ) (name : List ℕ) → Field
  ProcArity : (n : ℕ) → Field
  SiteOwner : (procs : ℕ) (before : List SiteNumbers) (p : ℕ) → Field
  SiteLine : (n : ℕ) → Field
  SiteCallee : (procs p : ℕ) → Field
  ContextProc : (procs p : ℕ) → Field
  -- caller, site or callee of link 0, and what it has to be
  RootNumber : (due n : ℕ) → Field
  -- caller, site and callee of another link
  LinkCaller : (contexts v : ℕ) → Field
  LinkSite : (sites s : ℕ) → Field
  LinkCallee : (contexts w : ℕ) → Field
  -- one of the counts of a link
  LinkCount : (n : ℕ) → Field
  -- behind its last count, whether the link fits its site, and whether it is new; `before` are the links from link 1 on
  LinkFits : (sites : List SiteNumbers) (contexts : List ℕ) (l : LinkNumbers) → Field
  LinkIsNew : (contexts : List ℕ) (before : List LinkNumbers) (l : LinkNumbers) → Field

abbrev pub value : Field → Value
value (MagicByte due b) = Byte b
value (Version v) = Byte v
value (Finished b) = Byte b
value (Count n) = Number n
value (SiteCount n) = Number n
value (ModuleName before name) = Name name
value (ProcModule modules m) = Number m
value (ProcName before m name) = Name name
value (ProcArity n) = Byte n
value (SiteOwner procs before p) = Number p
value (SiteLine n) = Number n
value (SiteCallee procs p) = Number p
value (ContextProc procs p) = Number p
value (RootNumber due n) = Number n
value (LinkCaller contexts v) = Number v
value (LinkSite sites s) = Number s
value (LinkCallee contexts w) = Number w
value (LinkCount n) = Number n
value (LinkFits sites contexts l) = Nothing
value (LinkIsNew contexts before l) = Nothing

abbrev pub written : Field → List ℕ
written x = value_bytes (value x)

-- the bytes of fields one behind the other
abbrev pub laid : List Field → List ℕ
laid xs = flat_map written xs

-- ---- the rules

abbrev pub last : {X : Type 0} → List X → Option X
last [] = None
last (x ∷ []) = Some x
last (x ∷ y ∷ ys) = last (y ∷ ys)

-- caller, site and callee are there, the site belongs to the caller's procedure, and a plain site's callee is the callee's procedure
abbrev pub Joins : List SiteNumbers → List ℕ → LinkNumbers → Type 0
Joins sites contexts l =
    IsSomeAnd (slice_get contexts l.caller) (λ p. IsSomeAnd (slice_get sites l.site) (λ x. IsSomeAnd (slice_get contexts l.callee) (λ q.
    (x.owner ≡ p) × ((x.callee ≡ none) ⊎ (x.callee ≡ q)))))

-- what tells two links apart: caller, site, and procedure of the callee
abbrev pub key : List ℕ → LinkNumbers → ℕ × ℕ × Option ℕ
key contexts l = (l.caller, l.site, slice_get contexts l.callee)

-- the rule of each field
abbrev pub Keeps : Field → Type 0
Keeps (MagicByte due b) = b ≡ due
Keeps (Version v) = (v ≡ 49) ⊎ (v ≡ 50)
Keeps (Finished b) = b ≤ 1
Keeps (Count n) = 1 ≤ n
Keeps (SiteCount n) = Unit {0}
Keeps (ModuleName before name) = IsTrue (is_name name) × All (λ other. other ≢ name) before
Keeps (ProcModule modules m) = m < modules
Keeps (ProcName before m name) = IsTrue (is_name name) × All (λ other. other.module ≡ m → other.name ≢ name) before
Keeps (ProcArity n) = Unit {0}
Keeps (SiteOwner procs before p) = (p < procs) × IfSome (last before) (λ other. other.owner ≤ p)
Keeps (SiteLine n) = 1 ≤ n
Keeps (SiteCallee procs p) = (p ≡ none) ⊎ (p < procs)
Keeps (ContextProc procs p) = p < procs
Keeps (RootNumber due n) = n ≡ due
Keeps (LinkCaller contexts v) = v < contexts
Keeps (LinkSite sites s) = s < sites
Keeps (LinkCallee contexts w) = w < contexts
Keeps (LinkCount n) = Unit {0}
Keeps (LinkFits sites contexts l) = Joins sites contexts l
Keeps (LinkIsNew contexts before l) = All (λ other. key contexts other ≢ key contexts l) before

-- the kind of the damage where it is broken
abbrev pub kind_of : Field → Kind
kind_of (MagicByte due b) = kinds.Magic
kind_of (Version v) = kinds.Magic
kind_of (Finished b) = kinds.Flag
kind_of (Count n) = kinds.Range
kind_of (SiteCount n) = kinds.Range
kind_of (ModuleName before name) = kinds.Text
kind_of (ProcModule modules m) = kinds.Range
kind_of (ProcName before m name) = kinds.Text
kind_of (ProcArity n) = kinds.Range
kind_of (SiteOwner procs before p) = kinds.Range
kind_of (SiteLine n) = kinds.Range
kind_of (SiteCallee procs p) = kinds.Range
kind_of (ContextProc procs p) = kinds.Range
kind_of (RootNumber due n) = kinds.Range
kind_of (LinkCaller contexts v) = kinds.Range
kind_of (LinkSite sites s) = kinds.Range
kind_of (LinkCallee contexts w) = kinds.Range
kind_of (LinkCount n) = kinds.Range
kind_of (LinkFits sites contexts l) = kinds.SiteMismatch
kind_of (LinkIsNew contexts before l) = kinds.DoubleLink

-- the bytes of a link: three numbers and its counts
abbrev pub link_size : LinkNumbers → ℕ
link_size l = 12 + 4 * length l.own

-- How many bytes before the field its damage is placed: at the field itself, and for a whole link at its first byte.
abbrev pub back : Field → ℕ
back (MagicByte due b) = 0
back (Version v) = 0
back (Finished b) = 0
back (Count n) = 0
back (SiteCount n) = 0
back (ModuleName before name) = 0
back (ProcModule modules m) = 0
back (ProcName before m name) = 0
back (ProcArity n) = 0
back (SiteOwner procs before p) = 0
back (SiteLine n) = 0
back (SiteCallee procs p) = 0
back (ContextProc procs p) = 0
back (RootNumber due n) = 0
back (LinkCaller contexts v) = 0
back (LinkSite sites s) = 0
back (LinkCallee contexts w) = 0
back (LinkCount n) = 0
back (LinkFits sites contexts l) = link_size l
back (LinkIsNew contexts before l) = link_size l

-- ---- the fields of a file

abbrev pub magic_fields : List ℕ → List ℕ → List Field
magic_fields [] bs = []
magic_fields (m ∷ ms) [] = []
magic_fields (m ∷ ms) (b ∷ bs) = MagicByte m b ∷ magic_fields ms bs

-- the fields of each row, which are told behind the rows before it
abbrev pub behind : {X : Type 0} → (List X → X → List Field) → List X → List X → List Field
behind fields before [] = []
behind fields before (x ∷ xs) = fields before x ++ behind fields (before ++ x ∷ []) xs

abbrev pub module_fields : List (List ℕ) → List ℕ → List Field
module_fields before name = ModuleName before name ∷ []

abbrev pub proc_fields : ℕ → List Proc → Proc → List Field
proc_fields modules before p = ProcModule modules p.module ∷ ProcName before p.module p.name ∷ ProcArity p.arity ∷ []

abbrev pub site_fields : ℕ → List SiteNumbers → SiteNumbers → List Field
site_fields procs before x = SiteOwner procs before x.owner ∷ SiteLine x.line ∷ SiteCallee procs x.callee ∷ []

abbrev pub context_fields : ℕ → List ℕ → ℕ → List Field
context_fields procs before p = ContextProc procs p ∷ []

-- link 0 is the root link; what follows are links from a context to a context
abbrev pub link_fields : List SiteNumbers → List ℕ → List LinkNumbers → LinkNumbers → List Field
link_fields sites contexts [] l = RootNumber none l.caller ∷ RootNumber none l.site ∷ RootNumber 0 l.callee ∷ map LinkCount l.own
link_fields sites contexts (root ∷ before) l =
    LinkCaller (length contexts) l.caller ∷ LinkSite (length sites) l.site ∷ LinkCallee (length contexts) l.callee
    ∷ (map LinkCount l.own ++ LinkFits sites contexts l ∷ LinkIsNew contexts before l ∷ [])

-- the lists, each with its count before it
abbrev pub header : FileRows → List Field
header t = magic_fields magic t.magic ++ Version t.version ∷ Finished t.finished ∷ []

abbrev pub module_list : FileRows → List Field
module_list t = Count (length t.modules) ∷ behind module_fields [] t.modules

abbrev pub proc_list : FileRows → List Field
proc_list t = Count (length t.procs) ∷ behind (proc_fields (length t.modules)) [] t.procs

abbrev pub site_list : FileRows → List Field
site_list t = SiteCount (length t.sites) ∷ behind (site_fields (length t.procs)) [] t.sites

abbrev pub context_list : FileRows → List ℕ → List Field
context_list t contexts = Count (length t.contexts) ∷ behind (context_fields (length t.procs)) [] contexts

abbrev pub link_list : FileRows → List Field
link_list t = Count (length t.links) ∷ behind (link_fields t.sites t.contexts) [] t.links

-- the fields before the contexts
abbrev pub front : FileRows → List Field
front t = header t ++ (module_list t ++ (proc_list t ++ site_list t))

abbrev pub fields : FileRows → List Field
fields t = front t ++ (context_list t t.contexts ++ link_list t)

-- the fields before that of context v
abbrev pub before_context : FileRows → ℕ → List Field
before_context t v = front t ++ context_list t (take v t.contexts)
