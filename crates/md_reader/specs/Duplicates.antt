-- Second declarations: of a type of one name, of a functor of one name and arity, of a predicate of one name.
use Rattle.std.specs.Prelude.{ℕ, Bool, true, false, ◌&&◌, ◌==◌, if◌then◌else◌, min, List, [], ◌∷◌, ◌++◌, length, map, Option, Some, None}
use Rattle.std.specs.List.{flat_map}
use Rattle.std.specs.Str.{bytes_eq}
use Rattle.md_hlds.specs.Hlds.{HldsTypeDef, HldsFunctor, Procedure, Hlds, same_qualifier}

-- what is declared, and the line of the declaration's `:-`
pub record Declared : Type 0 where
  pub qualifier : Option (List ℕ)
  pub name : List ℕ
  pub arity : ℕ
  pub line : ℕ

abbrev pub same_declared : Declared → Declared → Bool
same_declared a b = (same_qualifier a.qualifier b.qualifier && bytes_eq a.name b.name) && a.arity == b.arity

abbrev pub is_among : Declared → List Declared → Bool
is_among d [] = false
is_among d (e ∷ es) = if same_declared d e then true else is_among d es

-- the line of the first one that was declared before; `seen` are those before these
abbrev pub first_second : (seen : List Declared) → List Declared → Option ℕ
first_second seen [] = None
first_second seen (d ∷ ds) = if is_among d seen then Some d.line else first_second (seen ++ d ∷ []) ds

abbrev pub declared_type_definition : HldsTypeDef → Declared
declared_type_definition t = record { qualifier = None; name = t.name; arity = 0; line = t.line }

abbrev pub declared_functor : (line : ℕ) → HldsFunctor → Declared
declared_functor line f = record { qualifier = None; name = f.name; arity = length f.args; line = line }

abbrev pub declared_functors : HldsTypeDef → List Declared
declared_functors t = map (declared_functor t.line) t.functors

-- the arity of a predicate is no part of what it is declared as
abbrev pub declared_procedure : Procedure → Declared
declared_procedure p = record { qualifier = p.qualifier; name = p.name; arity = 0; line = p.line }

abbrev pub earlier : Option ℕ → Option ℕ → Option ℕ
earlier None b = b
earlier (Some a) None = Some a
earlier (Some a) (Some b) = Some (min a b)

unfoldable pub second_type_definition : Hlds → Option ℕ
second_type_definition l = first_second [] (map declared_type_definition l.types)

unfoldable pub second_functor : Hlds → Option ℕ
second_functor l = first_second [] (flat_map declared_functors l.types)

unfoldable pub second_procedure : Hlds → Option ℕ
second_procedure l = first_second [] (map declared_procedure l.procedures)

-- the line of the first second declaration
unfoldable pub duplicate : Hlds → Option ℕ
duplicate l = earlier (second_type_definition l) (earlier (second_functor l) (second_procedure l))
