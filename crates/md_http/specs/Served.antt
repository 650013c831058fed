-- How serving a connection ends.
use Rattle.std.specs.Prelude.{ℕ, ◌≡◌, List, Option}
use Rattle.md_base.specs.Outside.{one_more, added, PartAdded}
use Rattle.md_base.specs.Streams.{Stream}
use Rattle.md_cost.specs.View.{View}
use Rattle.md_http.specs.Reading.{HasHeard, WasHeard, StillWaits, ReadNoFurther}
use Rattle.md_http.specs.Response.{IsResponse}
use Rattle.md_http.specs.declared.link.Served.{Served}
use Rattle.md_http.specs.declared.link.Served.TheVariants as served

-- what is known of a connection: its stream and what was written to it, where they are told, and its counts of faults
pub record Ends : Type 0 where
  pub stream : Option Stream
  pub held : Option (List ℕ)
  pub read_faults : ℕ
  pub write_faults : ℕ

abbrev pub ends : (stream : Option Stream) (held : Option (List ℕ)) (read_faults write_faults : ℕ) → Ends
ends stream held read_faults write_faults =
    record { stream = stream; held = held; read_faults = read_faults; write_faults = write_faults }

-- neither count of a connection rose
abbrev pub NoneRose : (before now : Ends) → Type 0
NoneRose before now = (now.read_faults ≡ before.read_faults) × (now.write_faults ≡ before.write_faults)

-- the count of faults of reading is one more, and that of writing is as it was
abbrev pub ReadsRose : (before now : Ends) → Type 0
ReadsRose before now = (now.read_faults ≡ one_more before.read_faults) × (now.write_faults ≡ before.write_faults)

-- the count of faults of writing is one more, and that of reading is as it was
abbrev pub WritesRose : (before now : Ends) → Type 0
WritesRose before now = (now.read_faults ≡ before.read_faults) × (now.write_faults ≡ one_more before.write_faults)

-- a connection was read until its bytes decided, and this is their response
pub record IsDue (v : View) (before now : Option Stream) (response : List ℕ) : Type 0 where
  pub bytes : List ℕ
  pub heard : HasHeard before now bytes
  pub responds : IsResponse v bytes response

-- the whole response that is due was written, and nothing failed
pub record IsAnswered (v : View) (before now : Ends) : Type 0 where
  pub response : List ℕ
  pub due : IsDue v before.stream now.stream response
  pub written : now.held ≡ added response before.held
  pub counts : NoneRose before now

-- a front of the response that is due was written
pub record IsPartAnswered (v : View) (before now : Ends) : Type 0 where
  pub response : List ℕ
  pub due : IsDue v before.stream now.stream response
  pub written : PartAdded response before.held now.held

-- a read failed while the bytes didn't decide, and nothing was written
pub record HasReadFault (before now : Ends) : Type 0 where
  pub waits : StillWaits before.stream now.stream
  pub unwritten : now.held ≡ before.held
  pub counts : ReadsRose before now

-- a write failed
pub record HasWriteFault (v : View) (before now : Ends) : Type 0 where
  pub part : IsPartAnswered v before now
  pub counts : WritesRose before now

-- nothing was written, and it was read no further than it may be
pub record IsUnanswered (before now : Ends) : Type 0 where
  pub some : ReadNoFurther before.stream now.stream
  pub unwritten : now.held ≡ before.held

-- memory was refused, before something was written or later, and nothing failed
pub data WantsMemory (v : View) (before now : Ends) : Type 0 where
  early : IsUnanswered before now → NoneRose before now → WantsMemory v before now
  late : IsPartAnswered v before now → NoneRose before now → WantsMemory v before now

abbrev pub IsServed : View → (before now : Ends) → Served → Type 0
IsServed v before now served.Answered = IsAnswered v before now
IsServed v before now served.ReadFault = HasReadFault before now
IsServed v before now served.WriteFault = HasWriteFault v before now
IsServed v before now served.NoMemory = WantsMemory v before now

-- ---- why it ended, whatever the profile is

-- a write of the response failed, behind bytes that decided
pub record HasWriteCause (before now : Ends) : Type 0 where
  pub heard : WasHeard before.stream now.stream
  pub counts : WritesRose before now

-- each way to end has its cause: the bytes decided; a count of faults rose, and that alone; or memory was refused, and
-- then it was read no further than for the others
abbrev pub HasCauseOf : (before now : Ends) → Served → Type 0
HasCauseOf before now served.Answered = WasHeard before.stream now.stream × NoneRose before now
HasCauseOf before now served.ReadFault = HasReadFault before now
HasCauseOf before now served.WriteFault = HasWriteCause before now
HasCauseOf before now served.NoMemory = ReadNoFurther before.stream now.stream × NoneRose before now
