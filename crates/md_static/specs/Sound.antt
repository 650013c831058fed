-- Which tables are those of a program: the rules that a profile file keeps too.
use Rattle.std.specs.Prelude.{ℕ, ◌≡◌, ◌≢◌, ◌<◌, ◌≤◌, ◌^◌, List, length, All, AllPairs, IfSome, IsTrue}
use Rattle.std.specs.Borrow.{Bor}
use Rattle.md_static.specs.declared.entry.Proc.{Proc}
use Rattle.md_static.specs.Tables.{Static, callee_of}
use Rattle.md_static.specs.Names.{is_name}
use Rattle.md_static.specs.Sites.{OwnersRiseFrom}

-- Names are names and differ, numbers are those of things that are there, lines count from 1, the sites of a procedure
-- stand together, and no list has more than 4,294,967,295 members.
pub record IsSound (s : Static) : Type 0 where
  pub some_modules : 0 < length s.modules
  pub few_modules : length s.modules < 2 ^ 32
  pub some_procs : 0 < length s.procs
  pub few_procs : length s.procs < 2 ^ 32
  pub few_sites : length s.sites < 2 ^ 32
  pub modules_are_names : All (λ m. IsTrue (is_name m)) s.modules
  pub modules_differ : AllPairs (λ m n. m ≢ n) s.modules
  pub procs_have_names : All (λ p. IsTrue (is_name p.name)) s.procs
  pub procs_differ : AllPairs (λ p q. p.module ≡ q.module → p.name ≢ q.name) s.procs
  pub modules_there : All (λ p. p.module < length s.modules) s.procs
  pub owners_there : All (λ x. x.owner < length s.procs) s.sites
  pub callees_there : All (λ x. IfSome (callee_of x.kind) (λ q. q < length s.procs)) s.sites
  pub lines_from_one : All (λ x. 1 ≤ x.line) s.sites
  pub owners_rise : OwnersRiseFrom 0 s.sites

-- there are modules and procedures, and no list is too long
pub record AreFew (s : Static) : Type 0 where
  pub modules : (0 < length s.modules) × (length s.modules < 2 ^ 32)
  pub procs : (0 < length s.procs) × (length s.procs < 2 ^ 32)
  pub sites : length s.sites < 2 ^ 32

-- modules and procedures have names of a program
pub record HaveNames (s : Static) : Type 0 where
  pub modules : All (λ m. IsTrue (is_name m)) s.modules
  pub procs : All (λ p. IsTrue (is_name p.name)) s.procs

-- numbers are those of things that are there, lines count from 1, and the sites of a procedure stand together
pub record HaveEnds (s : Static) : Type 0 where
  pub modules : All (λ p. p.module < length s.modules) s.procs
  pub owners : All (λ x. x.owner < length s.procs) s.sites
  pub callees : All (λ x. IfSome (callee_of x.kind) (λ q. q < length s.procs)) s.sites
  pub lines : All (λ x. 1 ≤ x.line) s.sites
  pub rise : OwnersRiseFrom 0 s.sites

-- what tells two procedures apart: the module and the name
abbrev pub proc_key : Proc → ℕ × List ℕ
proc_key p = (p.module, p.name)

-- the same behind a reference to the name
abbrev pub key_seen : ℕ × Bor (List ℕ) → ℕ × List ℕ
key_seen key = (key.0, key.1.now)
