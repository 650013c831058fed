-- What comes of serving a stored profile.
use Rattle.std.proofs.Common.{◌≡◌, ◌∙◌, ap, refl, subst, inl, inr, ℕ, List, Option, None, Some}
use Rattle.std.specs.Prelude.{Result, Ok, Err}
use Rattle.md_base.specs.Files.{Files}
use Rattle.md_base.specs.Nets.{Connections}
use Rattle.md_cost.specs.FileView.{IsFileView}
use Rattle.md_cost.specs.Loading.{LoadedRows}
use Rattle.md_cost.specs.View.{View}
use Rattle.md_http.specs.Serving.{Serves}
use Rattle.md_http.specs.declared.serving.ServeFault.{ServeFault}
use Rattle.md_http.specs.declared.serving.ServeFault.TheVariants as faults
use Rattle.md_http.specs.declared.serving.Tally.{Tally}
use Rattle.md_tool.specs.declared.fault.Fault.{Fault}
use Rattle.md_tool.specs.declared.fault.Fault.TheVariants.{Usage, Read, TooLong, Refused, OutOfSteps, Thrown, Damaged, TooLarge, TwoEntries, DamagedLine, AnotherProgram, NoSuchPage, Network, Write, NoMemory}
use Rattle.md_tool.specs.Due.{WriteEnds}
use Rattle.md_tool.specs.Served.{NetSide, net_side, BindEnds, ConnectionsEnd, IsLoadable, ServeEnds, ServesTold, fault_of, tally_line}
use Rattle.md_tool.specs.Stored.{IsLoadedFrom, ViewFails}

-- what was served, where the net tells it
pub told_served : (v : View) (requests : ℕ) (net net' : Option Connections) (r : Result Tally ServeFault) → ((before : Connections) → net ≡ Some before → Serves v requests before net' r) → ServesTold v requests net net' r
told_served v requests None net' r h = tt
told_served v requests (Some before) net' r h = h before refl

-- the profile wasn't loaded
pub unloaded : (held : Option Files) (name : List ℕ) (port requests : ℕ) (net : NetSide) (out : Option (List ℕ)) (reads outs nets : Type 0) (fault : Fault) → ViewFails held name reads fault
    → ServeEnds held name port requests net net out out reads outs nets (Err fault)
unloaded held name port requests net out reads outs nets Usage h = absurd h
unloaded held name port requests net out reads outs nets Read h = (h, record { net_is = refl; out_is = refl })
unloaded held name port requests net out reads outs nets TooLong h = absurd h
unloaded held name port requests net out reads outs nets (Refused line w) h = absurd h
unloaded held name port requests net out reads outs nets OutOfSteps h = absurd h
unloaded held name port requests net out reads outs nets (Thrown bytes) h = absurd h
unloaded held name port requests net out reads outs nets (Damaged at kind) h = (h, record { net_is = refl; out_is = refl })
unloaded held name port requests net out reads outs nets (TooLarge most) h = (h.0, h.1, record { net_is = refl; out_is = refl })
unloaded held name port requests net out reads outs nets (TwoEntries clique x y) h = (h, record { net_is = refl; out_is = refl })
unloaded held name port requests net out reads outs nets (DamagedLine n) h = absurd h
unloaded held name port requests net out reads outs nets AnotherProgram h = absurd h
unloaded held name port requests net out reads outs nets NoSuchPage h = absurd h
unloaded held name port requests net out reads outs nets Network h = absurd h
unloaded held name port requests net out reads outs nets Write h = absurd h
unloaded held name port requests net out reads outs nets NoMemory h = inl (record { net_is = refl; out_is = refl })

pub loadable : (held : Option Files) (name : List ℕ) (loaded : LoadedRows) (v : View) → IsLoadedFrom held name loaded → IsFileView loaded.profile v → IsLoadable held name
loadable held name loaded v l is = record { profile = loaded.profile; spelled = l.spelled; view = v; is_view = is }

-- where the connections and the port are as they were, so is what is known of the net
pub same_net : (connections connections' : Option Connections) (port port' : Option ℕ) → connections' ≡ connections → port' ≡ port → net_side connections' port' ≡ net_side connections port
same_net connections connections' port port' same stays =
    ap (λ (c : Option Connections). net_side c port') same ∙ ap (λ (p : Option ℕ). net_side connections p) stays

-- the net doesn't listen
pub unbound : (held : Option Files) (name : List ℕ) (port requests : ℕ) (net net' : NetSide) (out : Option (List ℕ)) (reads outs nets : Type 0) (fault : Fault) → IsLoadable held name → net' ≡ net → BindEnds nets (Err fault)
    → ServeEnds held name port requests net net' out out reads outs nets (Err fault)
unbound held name port requests net net' out reads outs nets Usage l same h = absurd h
unbound held name port requests net net' out reads outs nets Read l same h = absurd h
unbound held name port requests net net' out reads outs nets TooLong l same h = absurd h
unbound held name port requests net net' out reads outs nets (Refused line w) l same h = absurd h
unbound held name port requests net net' out reads outs nets OutOfSteps l same h = absurd h
unbound held name port requests net net' out reads outs nets (Thrown bytes) l same h = absurd h
unbound held name port requests net net' out reads outs nets (Damaged at kind) l same h = absurd h
unbound held name port requests net net' out reads outs nets (TooLarge most) l same h = absurd h
unbound held name port requests net net' out reads outs nets (TwoEntries clique x y) l same h = absurd h
unbound held name port requests net net' out reads outs nets (DamagedLine n) l same h = absurd h
unbound held name port requests net net' out reads outs nets AnotherProgram l same h = absurd h
unbound held name port requests net net' out reads outs nets NoSuchPage l same h = absurd h
unbound held name port requests net net' out reads outs nets Network l same h = (h, (refl, inl (l, same)))
unbound held name port requests net net' out reads outs nets Write l same h = absurd h
unbound held name port requests net net' out reads outs nets NoMemory l same h = inl (record { net_is = same; out_is = refl })

-- not all connections were served
unserved : (held : Option Files) (name : List ℕ) (port requests : ℕ) (net net' : NetSide) (out : Option (List ℕ)) (reads outs some all : Type 0) (loaded : LoadedRows) (v : View) (fault : Fault)
    → IsLoadedFrom held name loaded → IsFileView loaded.profile v → (some → all) → net'.port ≡ Some port → ConnectionsEnd v requests net.connections net'.connections some (Err fault)
    → ServeEnds held name port requests net net' out out reads outs all (Err fault)
unserved held name port requests net net' out reads outs some all loaded v Usage l is rises bound h = absurd h
unserved held name port requests net net' out reads outs some all loaded v Read l is rises bound h = absurd h
unserved held name port requests net net' out reads outs some all loaded v TooLong l is rises bound h = absurd h
unserved held name port requests net net' out reads outs some all loaded v (Refused line w) l is rises bound h = absurd h
unserved held name port requests net net' out reads outs some all loaded v OutOfSteps l is rises bound h = absurd h
unserved held name port requests net net' out reads outs some all loaded v (Thrown bytes) l is rises bound h = absurd h
unserved held name port requests net net' out reads outs some all loaded v (Damaged at kind) l is rises bound h = absurd h
unserved held name port requests net net' out reads outs some all loaded v (TooLarge most) l is rises bound h = absurd h
unserved held name port requests net net' out reads outs some all loaded v (TwoEntries clique x y) l is rises bound h = absurd h
unserved held name port requests net net' out reads outs some all loaded v (DamagedLine n) l is rises bound h = absurd h
unserved held name port requests net net' out reads outs some all loaded v AnotherProgram l is rises bound h = absurd h
unserved held name port requests net net' out reads outs some all loaded v NoSuchPage l is rises bound h = absurd h
unserved held name port requests net net' out reads outs some all loaded v Network l is rises bound h = (rises h.0, (refl, inr (record { profile = loaded.profile; spelled = l.spelled; view = v; is_view = is; bound = bound; served = h.1 })))
unserved held name port requests net net' out reads outs some all loaded v Write l is rises bound h = absurd h
unserved held name port requests net net' out reads outs some all loaded v NoMemory l is rises bound h = inr (inl (refl, record { profile = loaded.profile; spelled = l.spelled; view = v; is_view = is; bound = bound; served = h }))

-- they were, and that was told as far as it was
served : (held : Option Files) (name : List ℕ) (port requests : ℕ) (net net' : NetSide) (out out' : Option (List ℕ)) (reads outs some all : Type 0) (loaded : LoadedRows) (v : View) (tally : Tally)
    (r : Result (Unit {0}) Fault) → IsLoadedFrom held name loaded → IsFileView loaded.profile v → net'.port ≡ Some port → ConnectionsEnd v requests net.connections net'.connections some (Ok tally) → WriteEnds (tally_line tally) out out' outs r
    → ServeEnds held name port requests net net' out out' reads outs all r
served held name port requests net net' out out' reads outs some all loaded v tally (Ok done) l is bound h shown = record { tally = tally; counts = h.0; served = record { profile = loaded.profile; spelled = l.spelled; view = v; is_view = is; bound = bound; served = h.1 }; told = shown }
served held name port requests net net' out out' reads outs some all loaded v tally (Err Usage) l is bound h shown = absurd shown
served held name port requests net net' out out' reads outs some all loaded v tally (Err Read) l is bound h shown = absurd shown
served held name port requests net net' out out' reads outs some all loaded v tally (Err TooLong) l is bound h shown = absurd shown
served held name port requests net net' out out' reads outs some all loaded v tally (Err (Refused line w)) l is bound h shown = absurd shown
served held name port requests net net' out out' reads outs some all loaded v tally (Err OutOfSteps) l is bound h shown = absurd shown
served held name port requests net net' out out' reads outs some all loaded v tally (Err (Thrown bytes)) l is bound h shown = absurd shown
served held name port requests net net' out out' reads outs some all loaded v tally (Err (Damaged at kind)) l is bound h shown = absurd shown
served held name port requests net net' out out' reads outs some all loaded v tally (Err (TooLarge most)) l is bound h shown = absurd shown
served held name port requests net net' out out' reads outs some all loaded v tally (Err (TwoEntries clique x y)) l is bound h shown = absurd shown
served held name port requests net net' out out' reads outs some all loaded v tally (Err (DamagedLine n)) l is bound h shown = absurd shown
served held name port requests net net' out out' reads outs some all loaded v tally (Err AnotherProgram) l is bound h shown = absurd shown
served held name port requests net net' out out' reads outs some all loaded v tally (Err NoSuchPage) l is bound h shown = absurd shown
served held name port requests net net' out out' reads outs some all loaded v tally (Err Network) l is bound h shown = absurd shown
served held name port requests net net' out out' reads outs some all loaded v tally (Err Write) l is bound h shown = (shown.0, record { tally = tally; counts = h.0; served = record { profile = loaded.profile; spelled = l.spelled; view = v; is_view = is; bound = bound; served = h.1 }; told = shown.1 })
served held name port requests net net' out out' reads outs some all loaded v tally (Err NoMemory) l is bound h shown = inr (inr (record { tally = tally; counts = h.0; served = record { profile = loaded.profile; spelled = l.spelled; view = v; is_view = is; bound = bound; served = h.1 }; told = shown }))

-- the same of a net that listened in between
pub unserved_from : (held : Option Files) (name : List ℕ) (port requests : ℕ) (net net' : NetSide) (between : Option Connections) (out : Option (List ℕ)) (reads outs some all : Type 0) (loaded : LoadedRows) (v : View) (fault : Fault)
    → IsLoadedFrom held name loaded → IsFileView loaded.profile v → (some → all) → net'.port ≡ Some port → between ≡ net.connections → ConnectionsEnd v requests between net'.connections some (Err fault)
    → ServeEnds held name port requests net net' out out reads outs all (Err fault)
unserved_from held name port requests net net' between out reads outs some all loaded v fault l is rises bound same h =
    unserved held name port requests net net' out reads outs some all loaded v fault l is rises bound (subst (λ (n : Option Connections). ConnectionsEnd v requests n net'.connections some (Err fault)) same h)

pub served_from : (held : Option Files) (name : List ℕ) (port requests : ℕ) (net net' : NetSide) (between : Option Connections) (out out' : Option (List ℕ)) (reads outs some all : Type 0) (loaded : LoadedRows) (v : View) (tally : Tally)
    (r : Result (Unit {0}) Fault) → IsLoadedFrom held name loaded → IsFileView loaded.profile v → net'.port ≡ Some port → between ≡ net.connections → ConnectionsEnd v requests between net'.connections some (Ok tally) → WriteEnds (tally_line tally) out out' outs r
    → ServeEnds held name port requests net net' out out' reads outs all r
served_from held name port requests net net' between out out' reads outs some all loaded v tally r l is bound same h shown =
    served held name port requests net net' out out' reads outs some all loaded v tally r l is bound (subst (λ (n : Option Connections). ConnectionsEnd v requests n net'.connections some (Ok tally)) same h) shown

-- why connections weren't all served
pub connections_failed : (v : View) (requests : ℕ) (net net' : Option Connections) (nets : Type 0) (r : Result Tally ServeFault) (fault : ServeFault) → r ≡ Err fault → (r ≡ Err faults.Net → nets)
    → ((before : Connections) → net ≡ Some before → Serves v requests before net' r) → ConnectionsEnd v requests net net' nets (Err (fault_of fault))
connections_failed v requests net net' nets r faults.Net is rose serves = (rose is, told_served v requests net net' (Err faults.Net) (λ before told. subst (Serves v requests before net') is (serves before told)))
connections_failed v requests net net' nets r faults.NoMemory is rose serves = told_served v requests net net' (Err faults.NoMemory) (λ before told. subst (Serves v requests before net') is (serves before told))

-- where the file was loaded its reading needn't have failed
pub served_after : (held : Option Files) (name : List ℕ) (port requests : ℕ) (net net' : NetSide) (out out' : Option (List ℕ)) (reads outs nets : Type 0) (r : Result (Unit {0}) Fault)
    → ServeEnds held name port requests net net' out out' ⊥ outs nets r → ServeEnds held name port requests net net' out out' reads outs nets r
served_after held name port requests net net' out out' reads outs nets (Ok done) h = h
served_after held name port requests net net' out out' reads outs nets (Err Usage) h = h
served_after held name port requests net net' out out' reads outs nets (Err Read) h = absurd h.0
served_after held name port requests net net' out out' reads outs nets (Err TooLong) h = h
served_after held name port requests net net' out out' reads outs nets (Err (Refused line w)) h = h
served_after held name port requests net net' out out' reads outs nets (Err OutOfSteps) h = h
served_after held name port requests net net' out out' reads outs nets (Err (Thrown bytes)) h = h
served_after held name port requests net net' out out' reads outs nets (Err (Damaged at kind)) h = h
served_after held name port requests net net' out out' reads outs nets (Err (TooLarge most)) h = h
served_after held name port requests net net' out out' reads outs nets (Err (TwoEntries clique x y)) h = h
served_after held name port requests net net' out out' reads outs nets (Err (DamagedLine n)) h = h
served_after held name port requests net net' out out' reads outs nets (Err AnotherProgram) h = h
served_after held name port requests net net' out out' reads outs nets (Err NoSuchPage) h = h
served_after held name port requests net net' out out' reads outs nets (Err Network) h = h
served_after held name port requests net net' out out' reads outs nets (Err Write) h = h
served_after held name port requests net net' out out' reads outs nets (Err NoMemory) h = h
