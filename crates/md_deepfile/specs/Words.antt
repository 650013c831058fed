-- What is wrong with bytes that spell no profile, in words.
use Rattle.std.specs.Prelude.{ℕ, List, ◌++◌, codes}
use Rattle.std.specs.Fmt.{decimal}
use Rattle.md_deepfile.specs.declared.damage.Kind.{Kind}
use Rattle.md_deepfile.specs.declared.damage.Kind.TheVariants as kind

abbrev pub kind_words : Kind → List ℕ
kind_words kind.Magic = codes "magic"
kind_words kind.Short = codes "short"
kind_words kind.Trailing = codes "trailing"
kind_words kind.Range = codes "range"
kind_words kind.Text = codes "text"
kind_words kind.SiteMismatch = codes "site mismatch"
kind_words kind.DoubleLink = codes "double link"
kind_words kind.Orphan = codes "orphan"
kind_words kind.Flag = codes "flag"

-- the rule that is broken, and the place
abbrev pub damage_words : ℕ → Kind → List ℕ
damage_words at kind = codes "damaged at " ++ (decimal at ++ (codes ": " ++ kind_words kind))
