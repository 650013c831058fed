use Rattle.std.proofs.Common.{ℕ, List, Option, Err, ap, sym, subst, ◌∙◌}
use Rattle.md_base.specs.Streams.{Stream}
use Rattle.md_base.specs.declared.failed.Failed.{Failed}
use Rattle.md_http.specs.Served.{IsDue, ends, early}
use Rattle.md_http.specs.Reading.{WasHeard}
use Rattle.md_http.proofs.Servings.{served_of, cause_of, written_since, same_held, same_stream}
use Rattle.md_http.proofs.link.serve_link.Goals as goal

pub returns-in-Ok-clause-served : goal.returns-in-Ok-clause-served
returns-in-Ok-clause-served g c = λ v is.
    let old = c.args.link.now in
    let heard = c.hear_link.new.link in
    let new = c.answer_link.new.link in
    let written = c.answer_link.ensures in
    let kept = same_held _ _ _ _ _ _ c.hear_link.ensures.beside (g.met.C.Link.reads_leave_the_sink old) (g.met.C.Link.reads_leave_the_sink heard) in
    let left = same_stream _ _ _ _ _ _ written.beside (g.met.C.Link.writes_leave_the_source heard) (g.met.C.Link.writes_leave_the_source new) in
    let due : IsDue v (g.C.Source.stream old) (g.C.Source.stream heard) c.deref.result.now =
    subst (λ (bytes : List ℕ). IsDue v (g.C.Source.stream old) (g.C.Source.stream heard) bytes) (sym c.deref.ensures.value) (c.in-Ok.ensures.due v is) in
    let before = ends (g.C.Source.stream old) (g.C.Sink.held old) (g.C.Source.read_faults old) (g.C.Sink.write_faults old) in
    let now = ends (g.C.Source.stream new) (g.C.Sink.held new) (g.C.Source.read_faults new) (g.C.Sink.write_faults new) in
    served_of v before now c.deref.result.now c.answer_link.result
    (subst (λ (told : Option Stream). IsDue v (g.C.Source.stream old) told c.deref.result.now) (sym left.0) due)
    (written_since c.deref.result.now before now _ _ c.answer_link.result kept.0 kept.1 (left.1 ∙ c.in-Ok.ensures.cause.kept (λ e. cc e)) written.whole written.part written.fault written.well written.read)

pub returns-in-Ok-clause-cause : goal.returns-in-Ok-clause-cause
returns-in-Ok-clause-cause g c =
    let old = c.args.link.now in
    let heard = c.hear_link.new.link in
    let new = c.answer_link.new.link in
    let written = c.answer_link.ensures in
    let kept = same_held _ _ _ _ _ _ c.hear_link.ensures.beside (g.met.C.Link.reads_leave_the_sink old) (g.met.C.Link.reads_leave_the_sink heard) in
    let left = same_stream _ _ _ _ _ _ written.beside (g.met.C.Link.writes_leave_the_source heard) (g.met.C.Link.writes_leave_the_source new) in
    let before = ends (g.C.Source.stream old) (g.C.Sink.held old) (g.C.Source.read_faults old) (g.C.Sink.write_faults old) in
    let now = ends (g.C.Source.stream new) (g.C.Sink.held new) (g.C.Source.read_faults new) (g.C.Sink.write_faults new) in
    cause_of before now c.deref.result.now c.answer_link.result
    (subst (λ (told : Option Stream). WasHeard (g.C.Source.stream old) told) (sym left.0) c.in-Ok.ensures.heard)
    (written_since c.deref.result.now before now _ _ c.answer_link.result kept.0 kept.1 (left.1 ∙ c.in-Ok.ensures.cause.kept (λ e. cc e)) written.whole written.part written.fault written.well written.read)

pub returns-in-Err-NoMemory-clause-served : goal.returns-in-Err-NoMemory-clause-served
returns-in-Err-NoMemory-clause-served g c = λ v is.
    let old = c.args.link.now in
    let heard = c.hear_link.new.link in
    let kept = same_held _ _ _ _ _ _ c.hear_link.ensures.beside (g.met.C.Link.reads_leave_the_sink old) (g.met.C.Link.reads_leave_the_sink heard) in
    early (record { some = c.in-Err-NoMemory.ensures.some; unwritten = kept.0 }) (c.in-Err-NoMemory.ensures.cause.kept (λ e. cc e), kept.1)

pub returns-in-Err-NoMemory-clause-cause : goal.returns-in-Err-NoMemory-clause-cause
returns-in-Err-NoMemory-clause-cause g c =
    let old = c.args.link.now in
    let heard = c.hear_link.new.link in
    let kept = same_held _ _ _ _ _ _ c.hear_link.ensures.beside (g.met.C.Link.reads_leave_the_sink old) (g.met.C.Link.reads_leave_the_sink heard) in
    (c.in-Err-NoMemory.ensures.some, (c.in-Err-NoMemory.ensures.cause.kept (λ e. cc e), kept.1))

pub returns-in-Err-Device-clause-served : goal.returns-in-Err-Device-clause-served
returns-in-Err-Device-clause-served g c = λ v is.
    let old = c.args.link.now in
    let heard = c.hear_link.new.link in
    let kept = same_held _ _ _ _ _ _ c.hear_link.ensures.beside (g.met.C.Link.reads_leave_the_sink old) (g.met.C.Link.reads_leave_the_sink heard) in
    record { waits = c.in-Err-Device.ensures.waits (ap (λ (f : Failed). Err f) c.in-Err-Device.field-0-is); unwritten = kept.0; counts = (c.in-Err-Device.ensures.cause.raised (ap (λ (f : Failed). Err f) c.in-Err-Device.field-0-is), kept.1) }

pub returns-in-Err-Device-clause-cause : goal.returns-in-Err-Device-clause-cause
returns-in-Err-Device-clause-cause g c =
    let old = c.args.link.now in
    let heard = c.hear_link.new.link in
    let kept = same_held _ _ _ _ _ _ c.hear_link.ensures.beside (g.met.C.Link.reads_leave_the_sink old) (g.met.C.Link.reads_leave_the_sink heard) in
    record { waits = c.in-Err-Device.ensures.waits (ap (λ (f : Failed). Err f) c.in-Err-Device.field-0-is); unwritten = kept.0; counts = (c.in-Err-Device.ensures.cause.raised (ap (λ (f : Failed). Err f) c.in-Err-Device.field-0-is), kept.1) }
