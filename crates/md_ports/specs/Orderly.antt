-- What the checks and the limits of a text leave of a program, as far as its tables need it.
use Rattle.std.specs.Prelude.{◌≡◌, ◌≢◌, ◌<◌, ◌≤◌, ◌^◌, ◌-◌, length, All, AllPairs, Some, IfSome, IsTrue}
use Rattle.md_hlds.specs.Hlds.{Hlds, sites_of}
use Rattle.md_static.specs.Names.{is_name}

-- Names are names of the language, and none is too long. A qualifier names another module than the file's. No two
-- predicates of one qualifier have one name. Each call site has a line. There is a predicate, and there aren't too many.
pub record IsOrderly (s : Hlds) : Type 0 where
  pub module_is_name : IsTrue (is_name s.module_name)
  pub qualifiers_are_names : All (λ p. IfSome p.qualifier (λ m. IsTrue (is_name m))) s.procedures
  pub names_are_names : All (λ p. IsTrue (is_name p.name)) s.procedures
  pub qualifiers_are_others : All (λ p. p.qualifier ≢ Some s.module_name) s.procedures
  pub predicates_differ : AllPairs (λ p q. p.qualifier ≡ q.qualifier → p.name ≢ q.name) s.procedures
  pub lines_from_one : All (λ x. 1 ≤ x.1) (sites_of s)
  pub some_predicates : 0 < length s.procedures
  pub few_predicates : length s.procedures < 2 ^ 32 - 1
  pub few_sites : length (sites_of s) < 2 ^ 32
