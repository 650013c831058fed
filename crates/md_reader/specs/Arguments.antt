-- How many arguments functors have.
use Rattle.std.specs.Prelude.{ℕ, ◌<◌, List, length, All}
use Rattle.md_hlds.specs.Hlds.{HldsTypeDef}

-- each functor of these types has fewer arguments than this
abbrev pub HaveFewArguments : (most : ℕ) → List HldsTypeDef → Type 0
HaveFewArguments most types = All (λ t. All (λ f. length f.args < most) t.functors) types
