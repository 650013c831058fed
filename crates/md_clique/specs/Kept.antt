-- What a search keeps, and how much work is left of it.
use Rattle.std.specs.Prelude.{ℕ, suc, ◌+◌, ◌-◌, ◌*◌, length, sum_by}
use Rattle.md_clique.specs.declared.adjacency.Adjacency.{Adjacency}
use Rattle.md_clique.specs.declared.search.Pending.{Pending}
use Rattle.md_clique.specs.declared.search.Search.{Search}
use Rattle.md_clique.specs.Search.{Kept, count_new}

abbrev pub kept : Search → Kept
kept s = record { trail = s.trail.items; first = s.first.items; pending = s.pending.items; states = s.states.items; count = s.count }

-- a pending node is looked at once more than it has links left
abbrev pub looks : Pending → ℕ
looks w = suc (w.to - w.from)

-- Falls with each move: a node that is entered has no more links left than there are.
abbrev pub work : Adjacency → Kept → ℕ
work lists k = (length lists.ends.items + 4) * count_new k.states + sum_by looks k.pending + length k.first
