-- What `serve` owes, and what there is of it after the call.
use Rattle.std.specs.Prelude.{ℕ, ◌≡◌, ◌⊎◌, List, ◌++◌, Option, None, Some, Result, Ok, Err, codes}
use Rattle.std.specs.Fmt.{decimal}
use Rattle.md_base.specs.Outside.{added, PartAdded}
use Rattle.md_base.specs.Files.{Files, FileIsLonger}
use Rattle.md_base.specs.Nets.{Connections}
use Rattle.md_cost.specs.FileView.{IsFileView}
use Rattle.md_cost.specs.View.{View}
use Rattle.md_deepfile.specs.Loads.{FileSpells, FileIsDamaged}
use Rattle.md_dynamic.specs.Profile.{ProfileRows}
use Rattle.md_http.specs.Serving.{IsTally, Serves}
use Rattle.md_http.specs.declared.serving.ServeFault.{ServeFault}
use Rattle.md_http.specs.declared.serving.ServeFault.TheVariants as served
use Rattle.md_http.specs.declared.serving.Tally.{Tally}
use Rattle.md_tool.specs.declared.fault.Fault.{Fault}
use Rattle.md_tool.specs.declared.fault.Fault.TheVariants.{Read, TooLarge, Damaged, TwoEntries, Network, Write, NoMemory}
use Rattle.md_tool.specs.Stored.{IsTwiceEntered, longest_profile}

-- what is known of a net: the connections, where it tells them, and the port at which it listens, where it listens
pub record NetSide : Type 0 where
  pub connections : Option Connections
  pub port : Option ℕ

abbrev pub net_side : (connections : Option Connections) → (port : Option ℕ) → NetSide
net_side connections port = record { connections = connections; port = port }

-- how many connections came, and how many of them were answered
abbrev pub tally_line : Tally → List ℕ
tally_line t = codes "connections " ++ (decimal t.connections ++ (codes " answered " ++ (decimal t.answered ++ codes "\n")))

-- what was served to a net that tells its connections
abbrev pub ServesTold : View → (requests : ℕ) → (before now : Option Connections) → Result Tally ServeFault → Type 0
ServesTold v requests None now r = Unit {0}
ServesTold v requests (Some before) now r = Serves v requests before now r

-- the file spells a profile, and this is what came of serving its view at this port, at which the net listens
pub record HasServed (held : Option Files) (name : List ℕ) (port requests : ℕ) (net net' : NetSide) (r : Result Tally ServeFault) : Type 0 where
  pub profile : ProfileRows
  pub spelled : FileSpells held name longest_profile profile
  pub view : View
  pub is_view : IsFileView profile view
  pub bound : net'.port ≡ Some port
  pub served : ServesTold view requests net.connections net'.connections r

-- the file spells a profile, which has a view
pub record IsLoadable (held : Option Files) (name : List ℕ) : Type 0 where
  pub profile : ProfileRows
  pub spelled : FileSpells held name longest_profile profile
  pub view : View
  pub is_view : IsFileView profile view

-- all were served, and that was told
pub record HasServedAll (held : Option Files) (name : List ℕ) (port requests : ℕ) (net net' : NetSide) (out out' : Option (List ℕ)) : Type 0 where
  pub tally : Tally
  pub counts : IsTally requests tally
  pub served : HasServed held name port requests net net' (Ok tally)
  pub told : out' ≡ added (tally_line tally) out

-- all were served, and a front of what tells so was written
pub record HasServedUntold (held : Option Files) (name : List ℕ) (port requests : ℕ) (net net' : NetSide) (out out' : Option (List ℕ)) : Type 0 where
  pub tally : Tally
  pub counts : IsTally requests tally
  pub served : HasServed held name port requests net net' (Ok tally)
  pub told : PartAdded (tally_line tally) out out'

-- no connection was taken, the net listens where it did, and nothing was written
pub record NobodyServed (net net' : NetSide) (out out' : Option (List ℕ)) : Type 0 where
  pub net_is : net' ≡ net
  pub out_is : out' ≡ out

-- What serving a stored profile at a port came to: `nets` says that the net's count of faults rose. The net fails where the profile was
-- loaded, at listening, which leaves it as it was, or at a connection that comes before the last. Whatever came behind listening, the net
-- listens at that port.
abbrev pub ServeEnds : Option Files → (name : List ℕ) → (port requests : ℕ) → (net net' : NetSide) → (out out' : Option (List ℕ)) → (reads outs nets : Type 0) → Result (Unit {0}) Fault → Type 0
ServeEnds held name port requests net net' out out' reads outs nets (Ok done) = HasServedAll held name port requests net net' out out'
ServeEnds held name port requests net net' out out' reads outs nets (Err Read) = reads × NobodyServed net net' out out'
ServeEnds held name port requests net net' out out' reads outs nets (Err (TooLarge n)) = (n ≡ longest_profile) × FileIsLonger held name longest_profile × NobodyServed net net' out out'
ServeEnds held name port requests net net' out out' reads outs nets (Err (Damaged at kind)) = FileIsDamaged held name longest_profile (record { at = at; kind = kind }) × NobodyServed net net' out out'
ServeEnds held name port requests net net' out out' reads outs nets (Err (TwoEntries clique a b)) = IsTwiceEntered held name clique a b × NobodyServed net net' out out'
ServeEnds held name port requests net net' out out' reads outs nets (Err Network) = nets × ((out' ≡ out) × ((IsLoadable held name × (net' ≡ net)) ⊎ HasServed held name port requests net net' (Err served.Net)))
ServeEnds held name port requests net net' out out' reads outs nets (Err Write) = outs × HasServedUntold held name port requests net net' out out'
ServeEnds held name port requests net net' out out' reads outs nets (Err NoMemory) =
    NobodyServed net net' out out' ⊎ (((out' ≡ out) × HasServed held name port requests net net' (Err served.NoMemory)) ⊎ HasServedUntold held name port requests net net' out out')
ServeEnds held name port requests net net' out out' reads outs nets (Err fault) = ⊥

-- ---- its parts

-- what listening at a port came to
abbrev pub BindEnds : (nets : Type 0) → Result (Unit {0}) Fault → Type 0
BindEnds nets (Ok done) = Unit {0}
BindEnds nets (Err Network) = nets
BindEnds nets (Err NoMemory) = Unit {0}
BindEnds nets (Err fault) = ⊥

-- what serving connections came to
abbrev pub ConnectionsEnd : View → (requests : ℕ) → (net net' : Option Connections) → (nets : Type 0) → Result Tally Fault → Type 0
ConnectionsEnd v requests net net' nets (Ok tally) = IsTally requests tally × ServesTold v requests net net' (Ok tally)
ConnectionsEnd v requests net net' nets (Err Network) = nets × ServesTold v requests net net' (Err served.Net)
ConnectionsEnd v requests net net' nets (Err NoMemory) = ServesTold v requests net net' (Err served.NoMemory)
ConnectionsEnd v requests net net' nets (Err fault) = ⊥

-- the fault that one of serving is
abbrev pub fault_of : ServeFault → Fault
fault_of served.Net = Network
fault_of served.NoMemory = NoMemory
