use Rattle.std.proofs.Common.{◌≡◌, ◌<◌, ◌+◌, ◌++◌, drop}
use Rattle.md_hlds.specs.Hlds.{hlds_of, procedures_of}
use Rattle.md_det.proofs.Counted.{goals_left}
use Rattle.md_ports.specs.Ports.{sites_from}
use Rattle.md_ports.specs.Reading.{read_clauses}
use Rattle.md_ports.proofs.sites.sites_of.Given as goal

-- the sites so far, with those of the other clauses, are all, and the numbers of their goals are below the end
abbrev pub invariant-loop-place : goal.invariant-loop-place
invariant-loop-place l =
    (sites_from (hlds_of l.moded) 0 (procedures_of l.moded.preds.items)
    ≡ l.sites.items ++ read_clauses (hlds_of l.moded) l.place l.number (procedures_of (drop l.place l.moded.preds.items)))
    × (l.number + goals_left (procedures_of (drop l.place l.moded.preds.items)) < 4294967295)
