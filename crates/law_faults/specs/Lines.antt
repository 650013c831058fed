-- The lines of the text of a profile in their order, whether or not they keep the rules: the words of each, and its rule.
use Rattle.std.specs.Prelude.{ℕ, ◌≡◌, ◌≢◌, ◌<◌, ◌≤◌, ◌^◌, Bool, List, [], ◌∷◌, ◌++◌, length, take, flat_map, codes, All, IfSome, IsTrue}
use Rattle.md_static.specs.declared.entry.Proc.{Proc}
use Rattle.md_static.specs.declared.entry.Site.{Site}
use Rattle.md_static.specs.Names.{is_name}
use Rattle.md_static.specs.Tables.{Static, callee_of}
use Rattle.md_dynamic.specs.declared.link.LinkRow.{LinkRow}
use Rattle.md_dynamic.specs.Profile.{ProfileRows}
use Rattle.md_dynamic.specs.Valid.{IsRoot, Fits, link_key}
use Rattle.md_deepfile.specs.Spells.{AreSmall}
use Rattle.md_dump.specs.Text.{Words, line, title_words, finished_words, count_words, module_words, proc_words, site_words, context_words, link_words}
use Rattle.law_damage.specs.Fields.{last}

-- `before` are the rows of the same list that stand before; `modules` and `procs` are how many there are
pub data Line : Type 0 where
  -- the version; whether the run was finished
  Title : Line
  Finished : (finished : Bool) → Line
  -- the name of a list, and how many rows it has, of which there have to be at least so many
  Count : (name : List ℕ) (least n : ℕ) → Line
  Module : (before : List (List ℕ)) (name : List ℕ) → Line
  Procedure : (modules : ℕ) (before : List Proc) (p : Proc) → Line
  CallSite : (procs : ℕ) (before : List Site) (x : Site) → Line
  Context : (procs p : ℕ) → Line
  -- link 0; and another one, where `before` are the links from link 1 on
  Root : (l : LinkRow) → Line
  Link : (statics : Static) (contexts : List ℕ) (before : List LinkRow) (l : LinkRow) → Line

abbrev pub words : Line → Words
words Title = title_words
words (Finished finished) = finished_words finished
words (Count name least n) = count_words name n
words (Module before name) = module_words name
words (Procedure modules before p) = proc_words p
words (CallSite procs before x) = site_words x
words (Context procs p) = context_words p
words (Root l) = link_words l
words (Link statics contexts before l) = link_words l

-- lines one behind the other, each with LF
abbrev pub laid : List Line → List ℕ
laid xs = flat_map (λ x. line (words x)) xs

-- the rule of each line
abbrev pub Keeps : Line → Type 0
Keeps Title = Unit {0}
Keeps (Finished finished) = Unit {0}
Keeps (Count name least n) = least ≤ n
Keeps (Module before name) = IsTrue (is_name name) × All (λ other. other ≢ name) before
Keeps (Procedure modules before p) = (p.module < modules) × IsTrue (is_name p.name) × All (λ other. other.module ≡ p.module → other.name ≢ p.name) before × (p.arity < 256)
Keeps (CallSite procs before x) =
    (x.owner < procs) × IfSome (last before) (λ other. other.owner ≤ x.owner) × (1 ≤ x.line) × (x.line < 2 ^ 32) × IfSome (callee_of x.kind) (λ q. q < procs)
Keeps (Context procs p) = p < procs
Keeps (Root l) = IsRoot l × AreSmall l.own
Keeps (Link statics contexts before l) = Fits statics contexts l × All (λ other. link_key contexts other ≢ link_key contexts l) before × AreSmall l.own

-- ---- the lines of a profile, valid or not

-- a line for each row, which is told behind the rows before it
abbrev pub behind : {X : Type 0} → (List X → X → Line) → List X → List X → List Line
behind line_of before [] = []
behind line_of before (x ∷ xs) = line_of before x ∷ behind line_of (before ++ x ∷ []) xs

abbrev pub context_line : ℕ → List ℕ → ℕ → Line
context_line procs before p = Context procs p

abbrev pub link_line : Static → List ℕ → List LinkRow → LinkRow → Line
link_line statics contexts [] l = Root l
link_line statics contexts (root ∷ before) l = Link statics contexts before l

-- each list behind the number of its rows
abbrev pub module_list : ProfileRows → List Line
module_list f = Count (codes "modules") 1 (length f.statics.modules) ∷ behind Module [] f.statics.modules

abbrev pub proc_list : ProfileRows → List Line
proc_list f = Count (codes "procs") 1 (length f.statics.procs) ∷ behind (Procedure (length f.statics.modules)) [] f.statics.procs

abbrev pub site_list : ProfileRows → List Line
site_list f = Count (codes "sites") 0 (length f.statics.sites) ∷ behind (CallSite (length f.statics.procs)) [] f.statics.sites

abbrev pub context_list : ProfileRows → List ℕ → List Line
context_list f contexts = Count (codes "contexts") 1 (length f.nodes) ∷ behind (context_line (length f.statics.procs)) [] contexts

abbrev pub link_list : ProfileRows → List Line
link_list f = Count (codes "links") 1 (length f.links) ∷ behind (link_line f.statics f.nodes) [] f.links

-- the lines before the contexts
abbrev pub front : ProfileRows → List Line
front f = Title ∷ Finished f.finished ∷ (module_list f ++ (proc_list f ++ site_list f))

abbrev pub lines : ProfileRows → List Line
lines f = front f ++ (context_list f f.nodes ++ link_list f)

-- the lines before that of context v
abbrev pub before_context : ProfileRows → ℕ → List Line
before_context f v = front f ++ context_list f (take v f.nodes)
