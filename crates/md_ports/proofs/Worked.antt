-- The tables of a worked program: `main` calls `a.f` on line 3 and a closure on line 4, `a.g` is of the same module as
-- `a.f`, and `t.h` calls what isn't declared.
use Rattle.std.proofs.Common.{◌≡◌, refl, ℕ, List, [], ◌∷◌, Option, Some, None, codes}
use Rattle.md_hlds.specs.declared.types.Det.TheVariants as det
use Rattle.md_hlds.specs.declared.types.Mode.{Mode}
use Rattle.md_hlds.specs.declared.types.Mode.TheVariants.{In}
use Rattle.md_hlds.specs.HldsGoal.{HldsGoal, At, SimpleGoal, Succeeds, CallGoal, HoCallGoal, ConjGoal, NotGoal, gathered}
use Rattle.md_hlds.specs.Hlds.{HldsType, number, Procedure, Hlds}
use Rattle.md_static.specs.declared.entry.SiteKind.TheVariants.{Plain, HigherOrder}
use Rattle.md_ports.specs.Modules.{each_once}
use Rattle.md_ports.specs.Ports.{site_at, statics_of}

abbrev procedure : Option (List ℕ) → List ℕ → List (HldsType × Mode) → HldsGoal → Procedure
procedure qualifier name args body =
    record { qualifier = qualifier; name = name; line = 1; clause_line = 1; args = args; det = det.Det; vars = []; head = []; body = body }

abbrev call : ℕ → Option (List ℕ) → List ℕ → HldsGoal
call line qualifier name = At line (CallGoal 0 (record { qualifier = qualifier; name = name }) [])

abbrev program : Hlds
program = record {
  module_name = codes "t";
  module_line = 1;
  types = [];
  procedures =
      procedure None (codes "main") [] (At 3 (ConjGoal (gathered (call 3 (Some (codes "a")) (codes "f") ∷ At 4 (HoCallGoal 1 0 []) ∷ []))))
      ∷ procedure (Some (codes "a")) (codes "f") ((number, In) ∷ []) (At 5 (SimpleGoal Succeeds))
      ∷ procedure (Some (codes "a")) (codes "g") [] (At 6 (NotGoal (call 6 None (codes "main"))))
      ∷ procedure None (codes "h") [] (call 7 (Some (codes "b")) (codes "f"))
      ∷ [];
}

-- modules, procedures and call sites, in text order
tables : statics_of program
    ≡ record {
      modules = codes "t" ∷ codes "a" ∷ [];
      procs =
          record { «module» = 0; name = codes "main"; arity = 0 }
          ∷ record { «module» = 1; name = codes "f"; arity = 1 }
          ∷ record { «module» = 1; name = codes "g"; arity = 0 }
          ∷ record { «module» = 0; name = codes "h"; arity = 0 }
          ∷ [];
      sites = site_at 0 3 (Plain 1) ∷ site_at 0 4 HigherOrder ∷ site_at 2 6 (Plain 0) ∷ site_at 3 7 HigherOrder ∷ [];
    }
tables = refl

-- each name once, where it comes first
once : each_once (codes "t" ∷ codes "b" ∷ codes "t" ∷ codes "a" ∷ codes "b" ∷ []) ≡ codes "t" ∷ codes "b" ∷ codes "a" ∷ []
once = refl
