-- What a decoder knows of the bytes that it was fed stays true as more come.
use Rattle.std.proofs.Common.{◌≡◌, ℕ, ◌<◌, false, List, [], ◌++◌, get_or, Option, None, Some, Result, Ok, Err, OnOk, IfErr, refl, sym, ap, subst, ◌∙◌, append_assoc}
use Rattle.std.specs.List.{All}
use Rattle.std.proofs.lemmas.List.{append-nil}
use Rattle.std.proofs.lemmas.List.Elements.{All-append, All-from_get_or, All-nil, recursion_from_All}
use Rattle.md_dynamic.specs.Profile.{ProfileRows}
use Rattle.md_deepfile.specs.Decoding.{Decoding, StandsAt, HasTaken, Tells, FollowsBytes}
use Rattle.md_deepfile.specs.Fields.{Text, profile_file}
use Rattle.md_deepfile.specs.Format.{Damage, read, damage, ended, is_decided}
use Rattle.md_deepfile.specs.Rules.{orphan_back}
use Rattle.md_deepfile.specs.Spells.{Spells, IsFaultOf, Reads}
use Rattle.md_deepfile.specs.State.{State, form_at, form_of, width, IsReadyPart, IsReady, IsEnd}
use Rattle.md_deepfile.specs.declared.damage.DecodeFault.{DecodeFault}
use Rattle.md_deepfile.specs.declared.damage.DecodeFault.TheVariants.{Damage as Damaged, NoMemory}
use Rattle.md_deepfile.specs.declared.damage.Kind.{Kind}
use Rattle.md_deepfile.specs.declared.damage.Kind.TheVariants as kinds
use Rattle.md_deepfile.specs.declared.part.Part.{Part}
use Rattle.md_deepfile.specs.declared.part.Part.TheVariants as parts
use Rattle.md_deepfile.proofs.Reading.{short_at}
use Rattle.md_deepfile.proofs.Exact.{read_spells, spells_read}

abbrev IsByte : ℕ → Type 0
IsByte b = b < 256

-- the bytes of a piece
pub piece_bytes : (piece : List ℕ) → ((i : ℕ) → get_or piece i 0 < 256) → All (λ b. b < 256) piece
piece_bytes piece each = All-from_get_or IsByte piece 0 (λ i within. each i)

pub nothing_taken : (d : Decoding) (s : State) → record { stopped = None; state = s } ≡ d → form_of s ≡ profile_file → s.at ≡ 0 → HasTaken d []
nothing_taken d s is begins start =
    subst (λ (e : Decoding). HasTaken e []) is
    (record { bytes = All-nil IsByte; stands = λ rest. ap (λ (t : Text). read t 0 rest) (sym begins) ∙ ap (λ (p : ℕ). read (form_of s) p rest) (sym start) })

fed_stop : (fault : DecodeFault) (s now : State) (bs piece : List ℕ) → StandsAt None s bs → FollowsBytes (form_of s) piece s.at now (Err fault) → StandsAt (Some fault) now (bs ++ piece)
fed_stop (Damaged at kind) s now bs piece stands h = (h.0, λ rest. ap (read profile_file 0) (append_assoc bs piece rest) ∙ stands (piece ++ rest) ∙ h.1 rest)
fed_stop NoMemory s now bs piece stands h = tt

fed_still : (fault : DecodeFault) (s : State) (bs piece : List ℕ) → StandsAt (Some fault) s bs → StandsAt (Some fault) s (bs ++ piece)
fed_still (Damaged at kind) s bs piece h = (h.0, λ rest. ap (read profile_file 0) (append_assoc bs piece rest) ∙ h.1 (piece ++ rest))
fed_still NoMemory s bs piece h = tt

-- the decoder goes on
pub taken_on : (d : Decoding) (stopped : Option DecodeFault) (s now : State) (piece : List ℕ) → record { stopped = stopped; state = s } ≡ d → stopped ≡ None → ((i : ℕ) → get_or piece i 0 < 256)
    → FollowsBytes (form_of s) piece s.at now (Ok tt) → (bs : List ℕ) → HasTaken d bs → HasTaken (record { stopped = stopped; state = now }) (bs ++ piece)
taken_on d stopped s now piece is none each follows bs taken =
    let before : HasTaken (record { stopped = None; state = s }) bs = subst (λ (o : Option DecodeFault). HasTaken (record { stopped = o; state = s }) bs) none (subst (λ (e : Decoding). HasTaken e bs) (sym is) taken) in
    let after : HasTaken (record { stopped = None; state = now }) (bs ++ piece) = record {
      bytes = All-append IsByte bs piece before.bytes (piece_bytes piece each);
      stands = λ rest. ap (read profile_file 0) (append_assoc bs piece rest) ∙ before.stands (piece ++ rest) ∙ follows rest;
    } in
    subst (λ (o : Option DecodeFault). HasTaken (record { stopped = o; state = now }) (bs ++ piece)) (sym none) after

-- it stops here
pub taken_stop : (d : Decoding) (stopped : Option DecodeFault) (s now : State) (piece : List ℕ) (fault : DecodeFault) → record { stopped = stopped; state = s } ≡ d → stopped ≡ None → ((i : ℕ) → get_or piece i 0 < 256)
    → FollowsBytes (form_of s) piece s.at now (Err fault) → (bs : List ℕ) → HasTaken d bs → HasTaken (record { stopped = Some fault; state = now }) (bs ++ piece)
taken_stop d stopped s now piece fault is none each follows bs taken =
    let before : HasTaken (record { stopped = None; state = s }) bs = subst (λ (o : Option DecodeFault). HasTaken (record { stopped = o; state = s }) bs) none (subst (λ (e : Decoding). HasTaken e bs) (sym is) taken) in
    record { bytes = All-append IsByte bs piece before.bytes (piece_bytes piece each); stands = fed_stop fault s now bs piece before.stands follows }

-- it had stopped before
pub taken_still : (d : Decoding) (fault : DecodeFault) (piece : List ℕ) → d.stopped ≡ Some fault → ((i : ℕ) → get_or piece i 0 < 256) → (bs : List ℕ) → HasTaken d bs → HasTaken d (bs ++ piece)
taken_still d fault piece is each bs taken =
    let before : StandsAt (Some fault) d.state bs = subst (λ (o : Option DecodeFault). StandsAt o d.state bs) is taken.stands in
    record {
      bytes = All-append IsByte bs piece taken.bytes (piece_bytes piece each);
      stands = subst (λ (o : Option DecodeFault). StandsAt o d.state (bs ++ piece)) (sym is) (fed_still fault d.state bs piece before);
    }

no_ok : (d : Damage) (f : ProfileRows) → Ok f ≡ Err d → ⊥
no_ok d f e = cc e

same_damage : (at : ℕ) (kind : Kind) (d : Damage) → damage {F = ProfileRows} at kind ≡ Err d → is_decided kind ≡ false → is_decided d.kind ≡ false
same_damage at kind d e h = let same : record { at = at; kind = kind } ≡ d = cc e in subst (λ (x : Damage). is_decided x.kind ≡ false) same h

open_end : (orphan : Option ℕ) (f : ProfileRows) (at : ℕ) (d : Damage) → ended orphan f at ≡ Err d → is_decided d.kind ≡ false
open_end None f at d e = absurd (no_ok d f e)
open_end (Some back) f at d e = same_damage _ kinds.Orphan d e refl

-- where more may come only a short file or an orphan is told
open_at : (p : Part) (s : State) → IsReadyPart p s → (d : Damage) → read (form_at p s) s.at [] ≡ Err d → is_decided d.kind ≡ false
open_at (parts.Magic place) s ready d e = same_damage s.at kinds.Short d (sym (short_at (parts.Magic place) s ready (λ is. cc is)) ∙ e) refl
open_at parts.Flag s ready d e = same_damage s.at kinds.Short d e refl
open_at (parts.Number field) s ready d e = same_damage s.at kinds.Short d (sym (short_at (parts.Number field) s ready (λ is. cc is)) ∙ e) refl
open_at (parts.Length which) s ready d e = same_damage s.at kinds.Short d e refl
open_at (parts.Name which) s ready d e = same_damage s.at kinds.Short d (sym (short_at (parts.Name which) s ready (λ is. cc is)) ∙ e) refl
open_at (parts.Arity home) s ready d e = same_damage s.at kinds.Short d e refl
open_at parts.End s ready d e = open_end (orphan_back (width s.version) s.rows) s.rows s.at d e

pub tells_on : (d : Decoding) (bs : List ℕ) → d.stopped ≡ None → IsReady d.state → HasTaken d bs → Tells (Ok tt) bs
tells_on d bs none ready taken = λ fault e.
    let stands : StandsAt None d.state bs = subst (λ (o : Option DecodeFault). StandsAt o d.state bs) none taken.stands in
    open_at d.state.part d.state ready.part fault (sym (stands []) ∙ ap (read profile_file 0) (append-nil bs) ∙ e)

tells_fault : (fault : DecodeFault) (s : State) (bs : List ℕ) → StandsAt (Some fault) s bs → Tells (Err fault) bs
tells_fault (Damaged at kind) s bs h = (h.0, ap (read profile_file 0) (sym (append-nil bs)) ∙ h.1 [])
tells_fault NoMemory s bs h = tt

pub tells_stop : (d : Decoding) (fault : DecodeFault) (bs : List ℕ) → d.stopped ≡ Some fault → HasTaken d bs → Tells (Err fault) bs
tells_stop d fault bs is taken = tells_fault fault d.state bs (subst (λ (o : Option DecodeFault). StandsAt o d.state bs) is taken.stands)

pub fault_told : (fault : DecodeFault) (bs : List ℕ) → Tells (Err fault) bs → IsFaultOf bs fault
fault_told (Damaged at kind) bs h = h.1
fault_told NoMemory bs h = tt

-- what the end of the bytes tells
pub whole_told : (d : Decoding) (stopped : Option DecodeFault) (s : State) (result : Result (Unit {0}) DecodeFault) → record { stopped = stopped; state = s } ≡ d → stopped ≡ None → IsEnd (read (form_of s) s.at []) s.rows result
    → OnOk result ((bs : List ℕ) → HasTaken d bs → read profile_file 0 bs ≡ Ok d.state.rows)
whole_told d stopped s (Ok u) is none h = λ bs taken.
    let rows : s.rows ≡ d.state.rows = ap (λ (e : Decoding). e.state.rows) is in
    let stands : StandsAt None s bs = subst (λ (o : Option DecodeFault). StandsAt o s bs) none (subst (λ (e : Decoding). HasTaken e bs) (sym is) taken).stands in
    ap (read profile_file 0) (sym (append-nil bs)) ∙ stands [] ∙ h ∙ ap (λ (f : ProfileRows). Ok f) rows
whole_told d stopped s (Err fault) is none h = tt

pub damage_told : (d : Decoding) (stopped : Option DecodeFault) (s : State) (result : Result (Unit {0}) DecodeFault) → record { stopped = stopped; state = s } ≡ d → stopped ≡ None → IsEnd (read (form_of s) s.at []) s.rows result
    → IfErr result (λ fault. (bs : List ℕ) → HasTaken d bs → IsFaultOf bs fault)
damage_told d stopped s (Ok u) is none h = tt
damage_told d stopped s (Err (Damaged at kind)) is none h = λ bs taken.
    let stands : StandsAt None s bs = subst (λ (o : Option DecodeFault). StandsAt o s bs) none (subst (λ (e : Decoding). HasTaken e bs) (sym is) taken).stands in
    ap (read profile_file 0) (sym (append-nil bs)) ∙ stands [] ∙ h
damage_told d stopped s (Err NoMemory) is none h = absurd h

-- a whole file spells what was read
pub found_spells : (d : Decoding) (bs : List ℕ) (f : ProfileRows) → HasTaken d bs → read profile_file 0 bs ≡ Ok f → Spells bs f
found_spells d bs f taken is = read_spells bs f (recursion_from_All IsByte bs taken.bytes) is

pub only_read : (bs : List ℕ) (f g : ProfileRows) → read profile_file 0 bs ≡ Ok g → Spells bs f → g ≡ f
only_read bs f g is spells = cc (is, spells_read bs f spells)

pub never_damaged : (fault : DecodeFault) (bs : List ℕ) (f : ProfileRows) → IsFaultOf bs fault → Spells bs f → Reads f (Err fault)
never_damaged (Damaged at kind) bs f h spells = absurd (no_ok (record { at = at; kind = kind }) f (sym (spells_read bs f spells) ∙ h))
never_damaged NoMemory bs f h spells = tt
