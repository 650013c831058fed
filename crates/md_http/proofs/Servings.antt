-- How serving a connection ends, by how its response was written.
use Rattle.std.proofs.Common.{◌≡◌, ℕ, List, Option, refl, sym, ◌∙◌, ap, subst}
use Rattle.md_base.specs.Outside.{one_more, added, PartAdded}
use Rattle.md_base.specs.Streams.{Stream, SinkSide, SourceSide, sink_side, source_side}
use Rattle.md_cost.specs.View.{View}
use Rattle.md_http.specs.Reading.{WasHeard, decided}
use Rattle.md_http.specs.Served.{Ends, NoneRose, IsDue, IsServed, HasCauseOf, late}
use Rattle.md_http.specs.declared.link.Served.{Served}
use Rattle.md_http.specs.declared.link.Served.TheVariants.{Answered, ReadFault, WriteFault, NoMemory}

-- how a response was written to a connection that held this before
pub record IsWritten (response : List ℕ) (before now : Ends) (result : Served) : Type 0 where
  pub whole : result ≡ Answered → now.held ≡ added response before.held
  pub part : (result ≡ Answered → ⊥) → PartAdded response before.held now.held
  pub fault : result ≡ WriteFault → now.write_faults ≡ one_more before.write_faults
  pub well : (result ≡ WriteFault → ⊥) → now.write_faults ≡ before.write_faults
  pub read : result ≡ ReadFault → ⊥
  pub reads : now.read_faults ≡ before.read_faults

none_rose : (response : List ℕ) (before now : Ends) (result : Served) → IsWritten response before now result → (result ≡ WriteFault → ⊥) → NoneRose before now
none_rose response before now result written other = (written.reads, written.well other)

pub served_of : (v : View) (before now : Ends) (response : List ℕ) (result : Served) → IsDue v before.stream now.stream response → IsWritten response before now result
    → IsServed v before now result
served_of v before now response Answered due written =
    record { response = response; due = due; written = written.whole refl; counts = none_rose response before now Answered written (λ e. cc) }
served_of v before now response ReadFault due written = absurd (written.read refl)
served_of v before now response WriteFault due written =
    record { part = record { response = response; due = due; written = written.part (λ e. cc) }; counts = (written.reads, written.fault refl) }
served_of v before now response NoMemory due written =
    late (record { response = response; due = due; written = written.part (λ e. cc) }) (none_rose response before now NoMemory written (λ e. cc))

-- why it ended, where a response was written behind bytes that decided
pub cause_of : (before now : Ends) (response : List ℕ) (result : Served) → WasHeard before.stream now.stream → IsWritten response before now result → HasCauseOf before now result
cause_of before now response Answered heard written = (heard, none_rose response before now Answered written (λ e. cc))
cause_of before now response ReadFault heard written = absurd (written.read refl)
cause_of before now response WriteFault heard written = record { heard = heard; counts = (written.reads, written.fault refl) }
cause_of before now response NoMemory heard written = (decided heard, none_rose response before now NoMemory written (λ e. cc))

-- the same of a connection that held as much, and had as many faults, when writing began
pub written_since : (response : List ℕ) (before now : Ends) (held : Option (List ℕ)) (faults : ℕ) (result : Served) → held ≡ before.held → faults ≡ before.write_faults → now.read_faults ≡ before.read_faults
    → (result ≡ Answered → now.held ≡ added response held) → ((result ≡ Answered → ⊥) → PartAdded response held now.held)
    → (result ≡ WriteFault → now.write_faults ≡ one_more faults) → ((result ≡ WriteFault → ⊥) → now.write_faults ≡ faults) → (result ≡ ReadFault → ⊥) → IsWritten response before now result
written_since response before now held faults result same still reads whole part fault well read = record {
  whole = λ e. whole e ∙ ap (added response) same;
  part = λ e. subst (λ (h : Option (List ℕ)). PartAdded response h now.held) same (part e);
  fault = λ e. fault e ∙ ap one_more still;
  well = λ e. well e ∙ still;
  read = read;
  reads = reads;
}

-- where one side of a link is left, so are its parts
pub same_held : (old new : Option (List ℕ)) (n m : ℕ) (before now : SinkSide) → now ≡ before → before ≡ sink_side old n → now ≡ sink_side new m → (new ≡ old) × (m ≡ n)
same_held old new n m before now same b a =
    let e : sink_side new m ≡ sink_side old n = sym a ∙ same ∙ b in
    (ap (λ (s : SinkSide). s.held) e, ap (λ (s : SinkSide). s.faults) e)

pub same_stream : (old new : Option Stream) (n m : ℕ) (before now : SourceSide) → now ≡ before → before ≡ source_side old n → now ≡ source_side new m → (new ≡ old) × (m ≡ n)
same_stream old new n m before now same b a =
    let e : source_side new m ≡ source_side old n = sym a ∙ same ∙ b in
    (ap (λ (s : SourceSide). s.stream) e, ap (λ (s : SourceSide). s.faults) e)
