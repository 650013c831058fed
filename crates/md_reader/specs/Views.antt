-- What the values of the reader's own types mean.
use Rattle.std.specs.Prelude.{List, map, option_map}
use Rattle.md_reader.specs.declared.duplicates.Declared.{Declared as Entry}
use Rattle.md_reader.specs.Duplicates.{Declared}
use Rattle.md_reader.specs.declared.written.Written.{Written as Text}
use Rattle.md_reader.specs.declared.call.BuiltinGoal.{BuiltinGoal}
use Rattle.md_reader.specs.declared.call.BuiltinGoal.TheVariants as builtin
use Rattle.md_reader.specs.declared.procedure.Declaration.{Declaration as Said}
use Rattle.md_reader.specs.declared.procedure.Clause.{Clause as Shown}
use Rattle.md_hlds.specs.HldsGoal.{goal_of, GoalExpr, SimpleGoal, Raises, EndsLine, WritesInt, WritesText}
use Rattle.md_hlds.specs.Hlds.{Hlds, args_of, type_defs_of, procedures_of}
use Rattle.md_reader.specs.declared.program.Draft.{Draft}
use Rattle.md_reader.specs.Rules.{Written, Declaration, Clause}

abbrev pub written_of : Text → Written
written_of w = record { qualifier = option_map (λ q. q.now) w.qualifier; name = w.name.now }

abbrev pub builtin_expr : BuiltinGoal → GoalExpr
builtin_expr (builtin.Error x) = SimpleGoal (Raises x)
builtin_expr (builtin.Nl a b) = SimpleGoal (EndsLine a b)
builtin_expr (builtin.WriteInt x a b) = SimpleGoal (WritesInt x a b)
builtin_expr (builtin.WriteStr x a b) = SimpleGoal (WritesText x a b)

abbrev pub declaration_of : Said → Declaration
declaration_of d = record { name = d.name; args = args_of d.args.items; det = d.det }

abbrev pub clause_of : Shown → Clause
clause_of c = record { line = c.line; head = c.head; body = goal_of c.body; vars = c.vars.items }

abbrev pub declared_of : Entry → Declared
declared_of d = record { qualifier = option_map (λ q. q.now) d.key.qualifier; name = d.key.name.now; arity = d.key.arity; line = d.line }

abbrev pub all_declared : List Entry → List Declared
all_declared ds = map declared_of ds

abbrev pub draft_of : Draft → Hlds
draft_of p = record { module_name = p.module; module_line = p.module_line; types = type_defs_of p.types.items; procedures = procedures_of p.preds.items }
