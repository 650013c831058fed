-- What a search for a call site by its number finds.
use Rattle.std.specs.Prelude.{ℕ, ◌≡◌, ◌+◌, List, length, Option, Some, None, slice_get}

-- of these lines of call sites, the one with so many before it; or none, and as many are still to be passed by
abbrev pub FindsSite : List ℕ → ℕ → ℕ → Option ℕ → Type 0
FindsSite lines before after None = length lines + after ≡ before
FindsSite lines before after (Some line) = slice_get lines before ≡ Some line
