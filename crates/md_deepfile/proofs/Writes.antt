-- Pieces that go to a file one after the other.
use Rattle.std.proofs.Common.{◌≡◌, ℕ, ◌+◌, ◌<◌, ◌≤◌, List, [], ◌∷◌, ◌++◌, length, get_or, take, drop, Option, Result, Ok, Err, OnOk, OnErr, is_err, IsErrOf, Bool, false, refl, sym, ap, subst, ◌∙◌, append_assoc, arith, inl, inr}
use Rattle.std.specs.List.{flat_map}
use Rattle.std.proofs.lemmas.Bool.{false≢true}
use Rattle.std.proofs.lemmas.List.{append-nil, take_all, take-append-drop, take-take, take_more, take_at, flat_map_more, length-append}
use Rattle.md_base.specs.Files.{Files, HoldsPart, holding, extended}
use Rattle.md_base.specs.Outside.{HasCause}
use Rattle.md_base.proofs.Told.{extended-holding, take_add}
use Rattle.md_static.specs.declared.entry.Proc.{Proc}
use Rattle.md_static.specs.declared.entry.Site.{Site}
use Rattle.md_dynamic.specs.Profile.{ProfileRows}
use Rattle.md_deepfile.specs.Bytes.{u32, name_bytes, proc_bytes, site_bytes, each, magic, flag_byte, file_bytes}
use Rattle.md_deepfile.specs.Pieces.{Written, HasFrontOf, WritesOn, StopsIn, table_bytes, row_bytes}

-- what a call does to a count that earlier calls left as it was
pub cause_since : {T F : Type 0} {fault : F} {before middle now : ℕ} {result : Result T F} → middle ≡ before → HasCause fault middle now result → HasCause fault before now result
cause_since {T} {F} {fault} {before} {middle} {now} {result} same cause = subst (λ (count : ℕ). HasCause fault count now result) same cause

-- and what one does that answers the error of a call of another kind
pub refused_since : {T U F : Type 0} {fault error : F} {before middle now : ℕ} → middle ≡ before → HasCause {T = T} fault middle now (Err error) → HasCause {T = U} fault before now (Err error)
refused_since {T} {U} {F} {fault} {error} {before} {middle} {now} same cause =
    let there : (error ≡ fault → IsErrOf {T = T} (Err error) fault) = λ is. ap (λ (e : F). Err e) is in
    let here : (error ≡ fault → IsErrOf {T = U} (Err error) fault) = λ is. ap (λ (e : F). Err e) is in
    let whole : HasCause {T = U} fault middle now (Err error) = record {
      later = cause.later;
      raised = λ is. cause.raised (there (cc is));
      kept = λ other. cause.kept (λ is. other (here (cc is)));
    } in
    cause_since same whole

-- one more piece of some bytes, behind what the file had
pub appended_on : (name bytes out : List ℕ) (done n m : ℕ) (told middle now : Option Files) → n ≤ m → middle ≡ holding name (out ++ take done bytes) told
    → now ≡ extended name (take n (take m (drop done bytes))) middle → now ≡ holding name (out ++ take (done + n) bytes) told
appended_on name bytes out done n m told middle now within so_far more =
    more ∙ ap (λ (piece : List ℕ). extended name piece middle) (take-take n m (drop done bytes) within)
    ∙ ap (λ (held : Option Files). extended name (take n (drop done bytes)) held) so_far
    ∙ extended-holding name (out ++ take done bytes) (take n (drop done bytes)) told
    ∙ ap (λ (front : List ℕ). holding name front told) (append_assoc out (take done bytes) (take n (drop done bytes)) ∙ ap (λ (xs : List ℕ). out ++ xs) (take_add done n bytes))

-- the buffer goes to the file
pub empties : (name : List ℕ) (old now : Option Files) (buffer after : List ℕ) → after ≡ [] → ((before : Option Files) (out : List ℕ) → old ≡ holding name out before → now ≡ holding name (out ++ buffer) before)
    → WritesOn name [] old buffer now after
empties name old now buffer after none whole = λ before done w. record {
  out = w.out ++ buffer;
  held = whole before w.out w.held;
  all = ap (λ (xs : List ℕ). (w.out ++ buffer) ++ xs) none ∙ append-nil (w.out ++ buffer) ∙ w.all ∙ sym (append-nil done);
}

pub empty_stops : (name : List ℕ) (old now : Option Files) (buffer : List ℕ)
    → ((before : Option Files) (out : List ℕ) → old ≡ holding name out before → (count : ℕ) × (now ≡ holding name (out ++ take count buffer) before)) → StopsIn name [] old buffer now
empty_stops name old now buffer part = λ before done w.
    let p = part before w.out w.held in
    record {
      out = w.out ++ take p.0 buffer;
      rest = drop p.0 buffer;
      held = p.1;
      parts = append_assoc w.out (take p.0 buffer) (drop p.0 buffer) ∙ ap (λ (xs : List ℕ). w.out ++ xs) (take-append-drop p.0 buffer) ∙ w.all ∙ sym (append-nil done);
    }

-- nothing was written
pub stays_on : (name : List ℕ) (old : Option Files) (buffer : List ℕ) → WritesOn name [] old buffer old buffer
stays_on name old buffer = λ before done w. record { out = w.out; held = w.held; all = w.all ∙ sym (append-nil done) }

-- a piece went to the buffer
pub put_on : (name piece x : List ℕ) (old now : Option Files) (buffer middle after : List ℕ) → WritesOn name piece old buffer now middle → after ≡ middle ++ x → WritesOn name (piece ++ x) old buffer now after
put_on name piece x old now buffer middle after h is = λ before done w.
    let v = h before done w in
    record {
      out = v.out;
      held = v.held;
      all = ap (λ (xs : List ℕ). v.out ++ xs) is ∙ sym (append_assoc v.out middle x) ∙ ap (λ (xs : List ℕ). xs ++ x) v.all ∙ append_assoc done piece x;
    }

pub put_first : (name x : List ℕ) (old : Option Files) (buffer after : List ℕ) → after ≡ buffer ++ x → WritesOn name x old buffer old after
put_first name x old buffer after is = put_on name [] x old old buffer buffer after (stays_on name old buffer) is

-- one piece after the other
pub then_on : (name p q : List ℕ) (old middle now : Option Files) (buffer between after : List ℕ) → WritesOn name p old buffer middle between → WritesOn name q middle between now after → WritesOn name (p ++ q) old buffer now after
then_on name p q old middle now buffer between after first second = λ before done w.
    let v = second before (done ++ p) (first before done w) in
    record { out = v.out; held = v.held; all = v.all ∙ append_assoc done p q }

-- the rest isn't written
pub stop_here : (name p rest q : List ℕ) (old now : Option Files) (buffer after : List ℕ) → WritesOn name p old buffer now after → p ++ rest ≡ q → StopsIn name q old buffer now
stop_here name p rest q old now buffer after h is = λ before done w.
    let v = h before done w in
    record {
      out = v.out;
      rest = after ++ rest;
      held = v.held;
      parts = sym (append_assoc v.out after rest) ∙ ap (λ (xs : List ℕ). xs ++ rest) v.all ∙ append_assoc done p rest ∙ ap (λ (xs : List ℕ). done ++ xs) is;
    }

-- nothing is written
pub stops_at_once : (name bytes : List ℕ) (old : Option Files) (buffer : List ℕ) → StopsIn name bytes old buffer old
stops_at_once name bytes old buffer = stop_here name [] bytes bytes old old buffer buffer (stays_on name old buffer) refl

pub stop_later : (name p x rest q : List ℕ) (old middle now : Option Files) (buffer between : List ℕ) → WritesOn name p old buffer middle between → StopsIn name x middle between now → (p ++ x) ++ rest ≡ q → StopsIn name q old buffer now
stop_later name p x rest q old middle now buffer between first second is = λ before done w.
    let v = second before (done ++ p) (first before done w) in
    record {
      out = v.out;
      rest = v.rest ++ rest;
      held = v.held;
      parts = sym (append_assoc v.out v.rest rest) ∙ ap (λ (xs : List ℕ). xs ++ rest) v.parts ∙ ap (λ (xs : List ℕ). xs ++ rest) (append_assoc done p x)
          ∙ append_assoc done (p ++ x) rest ∙ ap (λ (xs : List ℕ). done ++ xs) is;
    }

-- a list as far as it was put
abbrev pub each_so_far : {X : Type 0} → (X → List ℕ) → ℕ → List X → List ℕ
each_so_far spell i xs = u32 (length xs) ++ flat_map spell (take i xs)

flat_split : {X : Type 0} (spell : X → List ℕ) (xs ys : List X) → flat_map spell (xs ++ ys) ≡ flat_map spell xs ++ flat_map spell ys
flat_split {X} spell [] ys = refl
flat_split {X} spell (x ∷ xs) ys = ap (λ (t : List ℕ). spell x ++ t) (flat_split spell xs ys) ∙ sym (append_assoc (spell x) (flat_map spell xs) (flat_map spell ys))

pub each_rest : {X : Type 0} (spell : X → List ℕ) (i : ℕ) (xs : List X) → each_so_far spell i xs ++ flat_map spell (drop i xs) ≡ each spell xs
each_rest {X} spell i xs =
    append_assoc (u32 (length xs)) (flat_map spell (take i xs)) (flat_map spell (drop i xs))
    ∙ ap (λ (t : List ℕ). u32 (length xs) ++ t) (sym (flat_split spell (take i xs) (drop i xs)) ∙ ap (flat_map spell) (take-append-drop i xs))

pub each_more : {X : Type 0} (spell : X → List ℕ) (i : ℕ) (xs : List X) (x : X) → i < length xs → x ≡ get_or xs i x → each_so_far spell i xs ++ spell x ≡ each_so_far spell (i + 1) xs
each_more {X} spell i xs x within is =
    flat_map_more spell (u32 (length xs)) (take i xs) x
    ∙ ap (λ (y : X). u32 (length xs) ++ flat_map spell (take i xs ++ y ∷ [])) is
    ∙ ap (λ (ys : List X). u32 (length xs) ++ flat_map spell ys) (sym (take_more xs i x within))

-- all of the list is put
pub each_all : {X : Type 0} (spell : X → List ℕ) (i : ℕ) (xs : List X) → i ≡ length xs → each_so_far spell i xs ≡ each spell xs
each_all {X} spell i xs done = ap (λ (ys : List X). u32 (length xs) ++ flat_map spell ys) (take_all i xs (omega (arith, done)))

-- a front of the bytes is a part of them
pub front_part : (name : List ℕ) (before now : Option Files) (all : List ℕ) → HasFrontOf name before now all → HoldsPart name all before now
front_part name before now all h =
    let same : take (length h.out) all ≡ h.out = ap (take (length h.out)) (sym h.parts) ∙ take_at h.out h.rest (length h.out) refl in
    record {
      count = length h.out;
      within = omega (arith, ap length h.parts, length-append h.out h.rest);
      is_held = inr (h.held ∙ ap (λ (bytes : List ℕ). holding name bytes before) (sym same));
    }

pub nothing_part : (name all : List ℕ) (before now : Option Files) → now ≡ before → HoldsPart name all before now
nothing_part name all before now same = record { count = 0; within = omega arith; is_held = inl same }

pub all_written : (name all : List ℕ) (before now : Option Files) → Written name before now [] all → now ≡ holding name all before
all_written name all before now w = w.held ∙ ap (λ (bytes : List ℕ). holding name bytes before) (sym (append-nil w.out) ∙ w.all)

pub begun_written : (name : List ℕ) (before now : Option Files) (buffer : List ℕ) → now ≡ holding name [] before → buffer ≡ [] → Written name before now buffer []
begun_written name before now buffer is none = record { out = []; held = is; all = none }

-- what a call of the same result tells
pub ok_then : {A E : Type 0} (r : Result A E) (P Q : Type 0) → OnOk r P → (P → Q) → OnOk r Q
ok_then (Ok x) P Q h so = so h
ok_then (Err e) P Q h so = tt

pub ok_both : {A E : Type 0} (r : Result A E) (P R Q : Type 0) → OnOk r P → OnOk r R → (P → R → Q) → OnOk r Q
ok_both (Ok x) P R Q h k so = so h k
ok_both (Err e) P R Q h k so = tt

pub ok_unless_err : {A E : Type 0} (r : Result A E) (P : Type 0) → is_err r ≡ false → OnOk r P → P
ok_unless_err (Ok x) P good h = h
ok_unless_err (Err e) P good h = absurd (false≢true (sym good))

pub err_then : {A E : Type 0} (r : Result A E) (P Q : Type 0) → OnErr r P → (P → Q) → OnErr r Q
err_then (Ok x) P Q h so = tt
err_then (Err e) P Q h so = so h

-- a thing that was put, and then room was made
pub thing_on : (name x : List ℕ) (old now : Option Files) (buffer middle after : List ℕ) → middle ≡ buffer ++ x → WritesOn name [] old middle now after → WritesOn name x old buffer now after
thing_on name x old now buffer middle after put room = λ before done w.
    let v = then_on name x [] old old now buffer middle after (put_first name x old buffer middle put) room before done w in
    record { out = v.out; held = v.held; all = v.all ∙ ap (λ (xs : List ℕ). done ++ xs) (append-nil x) }

pub thing_stops : (name x : List ℕ) (old now : Option Files) (buffer middle : List ℕ) → middle ≡ buffer ++ x → StopsIn name [] old middle now → StopsIn name x old buffer now
thing_stops name x old now buffer middle put room = stop_later name x [] [] x old old now buffer middle (put_first name x old buffer middle put) room (append-nil (x ++ []) ∙ append-nil x)

-- a list stops within a thing
pub each_stops : {X : Type 0} (spell : X → List ℕ) (i : ℕ) (xs : List X) (x : X) (name : List ℕ) (old middle now : Option Files) (buffer between : List ℕ) → i < length xs → x ≡ get_or xs i x
    → WritesOn name (each_so_far spell i xs) old buffer middle between → StopsIn name (spell x) middle between now → StopsIn name (each spell xs) old buffer now
each_stops {X} spell i xs x name old middle now buffer between within is first second =
    stop_later name (each_so_far spell i xs) (spell x) (flat_map spell (drop (i + 1) xs)) (each spell xs) old middle now buffer between first second
    (ap (λ (t : List ℕ). t ++ flat_map spell (drop (i + 1) xs)) (each_more spell i xs x within is) ∙ each_rest spell (i + 1) xs)

pub each_goes : {X : Type 0} (spell : X → List ℕ) (i : ℕ) (xs : List X) (x : X) (name : List ℕ) (old middle now : Option Files) (buffer between after : List ℕ) → i < length xs → x ≡ get_or xs i x
    → WritesOn name (each_so_far spell i xs) old buffer middle between → WritesOn name (spell x) middle between now after → WritesOn name (each_so_far spell (i + 1) xs) old buffer now after
each_goes {X} spell i xs x name old middle now buffer between after within is first second =
    subst (λ (p : List ℕ). WritesOn name p old buffer now after) (each_more spell i xs x within is)
    (then_on name (each_so_far spell i xs) (spell x) old middle now buffer between after first second)

-- the first piece stops
pub stop_first : (name x rest q : List ℕ) (old now : Option Files) (buffer : List ℕ) → StopsIn name x old buffer now → x ++ rest ≡ q → StopsIn name q old buffer now
stop_first name x rest q old now buffer h is = λ before done w.
    let v = h before done w in
    record {
      out = v.out;
      rest = v.rest ++ rest;
      held = v.held;
      parts = sym (append_assoc v.out v.rest rest) ∙ ap (λ (xs : List ℕ). xs ++ rest) v.parts ∙ append_assoc done x rest ∙ ap (λ (xs : List ℕ). done ++ xs) is;
    }

-- a piece by another name
pub on_same : (name p q : List ℕ) (old now : Option Files) (buffer after : List ℕ) → p ≡ q → WritesOn name p old buffer now after → WritesOn name q old buffer now after
on_same name p q old now buffer after is h = subst (λ (xs : List ℕ). WritesOn name xs old buffer now after) is h

pub stop_same : (name p q : List ℕ) (old now : Option Files) (buffer : List ℕ) → p ≡ q → StopsIn name p old buffer now → StopsIn name q old buffer now
stop_same name p q old now buffer is h = subst (λ (xs : List ℕ). StopsIn name xs old buffer now) is h

-- four pieces, of which the first goes to the buffer at once
module _ (name A B C D : List ℕ) (old : Option Files) (b b1 : List ℕ) (put : b1 ≡ b ++ A) where
  second_grouped : ((A ++ B) ++ C) ++ D ≡ A ++ (B ++ (C ++ D))
  second_grouped = append_assoc (A ++ B) C D ∙ append_assoc A B (C ++ D)

  pub four_stop1 : (now : Option Files) → StopsIn name B old b1 now → StopsIn name (A ++ (B ++ (C ++ D))) old b now
  four_stop1 now stops = stop_later name A B (C ++ D) (A ++ (B ++ (C ++ D))) old old now b b1 (put_first name A old b b1 put) stops (append_assoc A B (C ++ D))

  pub four_stop2 : (m1 now : Option Files) (b2 : List ℕ) → WritesOn name B old b1 m1 b2 → StopsIn name C m1 b2 now → StopsIn name (A ++ (B ++ (C ++ D))) old b now
  four_stop2 m1 now b2 two stops =
      stop_later name (A ++ B) C D (A ++ (B ++ (C ++ D))) old m1 now b b2 (then_on name A B old old m1 b b1 b2 (put_first name A old b b1 put) two) stops second_grouped

  three_on : (m1 m2 : Option Files) (b2 b3 : List ℕ) → WritesOn name B old b1 m1 b2 → WritesOn name C m1 b2 m2 b3 → WritesOn name ((A ++ B) ++ C) old b m2 b3
  three_on m1 m2 b2 b3 two three = then_on name (A ++ B) C old m1 m2 b b2 b3 (then_on name A B old old m1 b b1 b2 (put_first name A old b b1 put) two) three

  pub four_stop3 : (m1 m2 now : Option Files) (b2 b3 : List ℕ) → WritesOn name B old b1 m1 b2 → WritesOn name C m1 b2 m2 b3 → StopsIn name D m2 b3 now → StopsIn name (A ++ (B ++ (C ++ D))) old b now
  four_stop3 m1 m2 now b2 b3 two three stops =
      stop_later name ((A ++ B) ++ C) D [] (A ++ (B ++ (C ++ D))) old m2 now b b3 (three_on m1 m2 b2 b3 two three) stops (append-nil (((A ++ B) ++ C) ++ D) ∙ second_grouped)

  pub four_on : (m1 m2 now : Option Files) (b2 b3 b4 : List ℕ) → WritesOn name B old b1 m1 b2 → WritesOn name C m1 b2 m2 b3 → WritesOn name D m2 b3 now b4 → WritesOn name (A ++ (B ++ (C ++ D))) old b now b4
  four_on m1 m2 now b2 b3 b4 two three four =
      on_same name (((A ++ B) ++ C) ++ D) (A ++ (B ++ (C ++ D))) old now b b4 second_grouped (then_on name ((A ++ B) ++ C) D old m2 now b b3 b4 (three_on m1 m2 b2 b3 two three) four)

abbrev pub front_of : Bool → List ℕ
front_of finished = magic ++ 50 ∷ flag_byte finished ∷ []

pub table_same : (f : ProfileRows) (finished : Bool) (ms : List (List ℕ)) (ps : List Proc) (xs : List Site) → finished ≡ f.finished → ms ≡ f.statics.modules → ps ≡ f.statics.procs → xs ≡ f.statics.sites
    → front_of finished ++ (each name_bytes ms ++ (each proc_bytes ps ++ each site_bytes xs)) ≡ table_bytes f
table_same f finished ms ps xs a b c d = λ i. front_of (a i) ++ (each name_bytes (b i) ++ (each proc_bytes (c i) ++ each site_bytes (d i)))

-- the whole file in two parts
pub file_parts : (f : ProfileRows) → table_bytes f ++ row_bytes f ≡ file_bytes f
file_parts f =
    let A = front_of f.finished in
    let B = each name_bytes f.statics.modules in
    let C = each proc_bytes f.statics.procs in
    let D = each site_bytes f.statics.sites in
    append_assoc A (B ++ (C ++ D)) (row_bytes f) ∙ ap (λ (t : List ℕ). A ++ t) (append_assoc B (C ++ D) (row_bytes f) ∙ ap (λ (t : List ℕ). B ++ t) (append_assoc C D (row_bytes f)))
