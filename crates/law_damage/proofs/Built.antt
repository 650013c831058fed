-- Whatever the bytes are, there are rows of which they are the file, or a front of the file, or which they go on behind.
use Rattle.std.proofs.Common.{◌≡◌, ℕ, zero, suc, List, [], ◌∷◌, ◌++◌, length, map, refl, sym, ap, subst}
use Rattle.std.specs.List.{AllByRecursion}
use Rattle.std.proofs.lemmas.List.Elements.{All-from_recursion}
use Rattle.md_static.specs.declared.entry.Proc.{Proc}
use Rattle.md_deepfile.specs.Bytes.{none, magic}
use Rattle.md_deepfile.proofs.Accepts.{AreBytes}
use Rattle.law_damage.specs.Rows.{SiteNumbers, LinkNumbers, FileRows, counts_in}
use Rattle.law_damage.specs.Fields.{Value, Byte, Number, Name, HasRoom, Field, MagicByte, Version, Finished, Count, SiteCount, ModuleName, ProcModule, ProcName, ProcArity, SiteOwner, SiteLine, SiteCallee, ContextProc, RootNumber, LinkCaller, LinkSite, LinkCallee, LinkCount, LinkFits, LinkIsNew, value, behind, magic_fields, module_fields, proc_fields, site_fields, context_fields, link_fields, header, module_list, proc_list, site_list, context_list, link_list, front, fields}
use Rattle.law_damage.specs.Damage.{CanBeWritten}
use Rattle.law_damage.proofs.Along.{AreRoomy}
use Rattle.law_damage.proofs.Meets.{Meets, whole, left, left_are, meets_on, Said, byte_said, number_said, name_said, nothing_said}

-- fields that have room, beside bytes
pub record Beside (bs : List ℕ) (xs : List Field) : Type 0 where
  pub room : AreRoomy xs
  pub meets : Meets bs xs

rooms_on : (xs ys : List Field) → AreRoomy xs → AreRoomy ys → AreRoomy (xs ++ ys)
rooms_on [] ys a b = b
rooms_on (x ∷ xs) ys a b = (a.0, rooms_on xs ys a.1 b)

rest : {bs : List ℕ} {xs : List Field} → Beside bs xs → List ℕ
rest b = left b.meets

rest_are : {bs : List ℕ} {xs : List Field} (b : Beside bs xs) → AreBytes (rest b)
unfolding rest
rest_are b = left_are b.meets

beside_on : (bs : List ℕ) (xs ys : List Field) (b : Beside bs xs) → Beside (rest b) ys → Beside bs (xs ++ ys)
unfolding rest
beside_on bs xs ys b c = record { room = rooms_on xs ys b.room c.room; meets = meets_on bs xs ys b.meets c.meets }

none_beside : (bs : List ℕ) → AreBytes bs → Beside bs []
none_beside bs are = record { room = tt; meets = whole bs are refl }

one : (bs : List ℕ) (v : Value) (x : Field) → value x ≡ v → Said bs v → Beside bs (x ∷ [])
one bs v x is said = record { room = (subst HasRoom (sym is) said.room, tt); meets = said.meets x is }

-- ---- each row

-- a row whose fields stand beside the bytes
record Row {X : Type 0} (fields_of : X → List Field) (P : X → Type 0) (bs : List ℕ) : Type 0 where
  pub row : X
  pub keeps : P row
  pub beside : Beside bs (fields_of row)

-- nothing is asked of a row
abbrev Any : {X : Type 0} → X → Type 0
Any {X} x = Unit {0}

module_row : (before : List (List ℕ)) (bs : List ℕ) → AreBytes bs → Row (module_fields before) Any bs
module_row before bs are =
    let n = name_said bs are in
    record { row = n.0; keeps = tt; beside = one bs (Name n.0) (ModuleName before n.0) refl n.1 }

proc_row : (modules : ℕ) (before : List Proc) (bs : List ℕ) → AreBytes bs → Row (proc_fields modules before) Any bs
proc_row modules before bs are =
    let m = number_said bs are in
    let a = one bs (Number m.0) (ProcModule modules m.0) refl m.1 in
    let n = name_said (rest a) (rest_are a) in
    let b = one (rest a) (Name n.0) (ProcName before m.0 n.0) refl n.1 in
    let k = byte_said (rest b) (rest_are b) in
    let c = one (rest b) (Byte k.0) (ProcArity k.0) refl k.1 in
    record {
      row = record { «module» = m.0; name = n.0; arity = k.0 };
      keeps = tt;
      beside = beside_on bs (ProcModule modules m.0 ∷ []) (ProcName before m.0 n.0 ∷ ProcArity k.0 ∷ []) a (beside_on (rest a) (ProcName before m.0 n.0 ∷ []) (ProcArity k.0 ∷ []) b c);
    }

site_row : (procs : ℕ) (before : List SiteNumbers) (bs : List ℕ) → AreBytes bs → Row (site_fields procs before) Any bs
site_row procs before bs are =
    let p = number_said bs are in
    let a = one bs (Number p.0) (SiteOwner procs before p.0) refl p.1 in
    let n = number_said (rest a) (rest_are a) in
    let b = one (rest a) (Number n.0) (SiteLine n.0) refl n.1 in
    let q = number_said (rest b) (rest_are b) in
    let c = one (rest b) (Number q.0) (SiteCallee procs q.0) refl q.1 in
    record {
      row = record { owner = p.0; line = n.0; callee = q.0 };
      keeps = tt;
      beside = beside_on bs (SiteOwner procs before p.0 ∷ []) (SiteLine n.0 ∷ SiteCallee procs q.0 ∷ []) a (beside_on (rest a) (SiteLine n.0 ∷ []) (SiteCallee procs q.0 ∷ []) b c);
    }

context_row : (procs : ℕ) (before : List ℕ) (bs : List ℕ) → AreBytes bs → Row (context_fields procs before) Any bs
context_row procs before bs are =
    let p = number_said bs are in
    record { row = p.0; keeps = tt; beside = one bs (Number p.0) (ContextProc procs p.0) refl p.1 }

counts_row : (k : ℕ) (bs : List ℕ) → AreBytes bs → Row (λ ns. map LinkCount ns) (λ ns. length ns ≡ k) bs
counts_row zero bs are = record { row = []; keeps = refl; beside = none_beside bs are }
counts_row (suc k) bs are =
    let n = number_said bs are in
    let a = one bs (Number n.0) (LinkCount n.0) refl n.1 in
    let more = counts_row k (rest a) (rest_are a) in
    record { row = n.0 ∷ more.row; keeps = ap (λ (j : ℕ). suc j) more.keeps; beside = beside_on bs (LinkCount n.0 ∷ []) (map LinkCount more.row) a more.beside }

-- three numbers and counts, whatever the fields of the numbers are about
record FourParts (k : ℕ) (one two three : ℕ → Field) (bs : List ℕ) : Type 0 where
  pub a : ℕ
  pub b : ℕ
  pub c : ℕ
  pub own : List ℕ
  pub size : length own ≡ k
  pub beside : Beside bs (one a ∷ two b ∷ three c ∷ map LinkCount own)

four_parts : (k : ℕ) (first second third : ℕ → Field) → ((n : ℕ) → value (first n) ≡ Number n) → ((n : ℕ) → value (second n) ≡ Number n) → ((n : ℕ) → value (third n) ≡ Number n) → (bs : List ℕ) → AreBytes bs → FourParts k first second third bs
four_parts k first second third is also too bs are =
    let v = number_said bs are in
    let a = one bs (Number v.0) (first v.0) (is v.0) v.1 in
    let s = number_said (rest a) (rest_are a) in
    let b = one (rest a) (Number s.0) (second s.0) (also s.0) s.1 in
    let w = number_said (rest b) (rest_are b) in
    let c = one (rest b) (Number w.0) (third w.0) (too w.0) w.1 in
    let own = counts_row k (rest c) (rest_are c) in
    record {
      a = v.0;
      b = s.0;
      c = w.0;
      own = own.row;
      size = own.keeps;
      beside = beside_on bs (first v.0 ∷ []) (second s.0 ∷ third w.0 ∷ map LinkCount own.row) a
          (beside_on (rest a) (second s.0 ∷ []) (third w.0 ∷ map LinkCount own.row) b
          (beside_on (rest b) (third w.0 ∷ []) (map LinkCount own.row) c own.beside));
    }

link_of_row : (k : ℕ) (sites : List SiteNumbers) (contexts : List ℕ) (before : List LinkNumbers) (bs : List ℕ) → AreBytes bs → Row (link_fields sites contexts before) (λ l. length l.own ≡ k) bs
link_of_row k sites contexts [] bs are =
    let f = four_parts k (λ n. RootNumber none n) (λ n. RootNumber none n) (λ n. RootNumber 0 n) (λ n. refl) (λ n. refl) (λ n. refl) bs are in
    record { row = record { caller = f.a; site = f.b; callee = f.c; own = f.own }; keeps = f.size; beside = f.beside }
link_of_row k sites contexts (root ∷ before) bs are =
    let f = four_parts k (λ n. LinkCaller (length contexts) n) (λ n. LinkSite (length sites) n) (λ n. LinkCallee (length contexts) n) (λ n. refl) (λ n. refl) (λ n. refl) bs are in
    let l : LinkNumbers = record { caller = f.a; site = f.b; callee = f.c; own = f.own } in
    let fits = nothing_said (rest f.beside) (rest_are f.beside) in
    let a = one (rest f.beside) _ (LinkFits sites contexts l) refl fits in
    let b = one (rest a) _ (LinkIsNew contexts before l) refl (nothing_said (rest a) (rest_are a)) in
    record {
      row = l;
      keeps = f.size;
      beside = beside_on bs (LinkCaller (length contexts) f.a ∷ LinkSite (length sites) f.b ∷ LinkCallee (length contexts) f.c ∷ map LinkCount f.own) (LinkFits sites contexts l ∷ LinkIsNew contexts before l ∷ []) f.beside
          (beside_on (rest f.beside) (LinkFits sites contexts l ∷ []) (LinkIsNew contexts before l ∷ []) a b);
    }

-- ---- each list

record RowsOf {X : Type 0} (fields_of : List X → X → List Field) (P : X → Type 0) (n : ℕ) (before : List X) (bs : List ℕ) : Type 0 where
  pub rows : List X
  pub size : length rows ≡ n
  pub keep : AllByRecursion P rows
  pub beside : Beside bs (behind fields_of before rows)

several_rows : {X : Type 0} (fields_of : List X → X → List Field) (P : X → Type 0) → ((before : List X) (bs : List ℕ) → AreBytes bs → Row (fields_of before) P bs) → (n : ℕ) (before : List X) (bs : List ℕ) → AreBytes bs → RowsOf fields_of P n before bs
several_rows {X} fields_of P row zero before bs are = record { rows = []; size = refl; keep = tt; beside = none_beside bs are }
several_rows {X} fields_of P row (suc n) before bs are =
    let x = row before bs are in
    let more = several_rows fields_of P row n (before ++ x.row ∷ []) (rest x.beside) (rest_are x.beside) in
    record {
      rows = x.row ∷ more.rows;
      size = ap (λ (k : ℕ). suc k) more.size;
      keep = (x.keeps, more.keep);
      beside = beside_on bs (fields_of before x.row) (behind fields_of (before ++ x.row ∷ []) more.rows) x.beside more.beside;
    }

-- a list behind its count
record Listed {X : Type 0} (count : ℕ → Field) (fields_of : List X → X → List Field) (P : X → Type 0) (bs : List ℕ) : Type 0 where
  pub rows : List X
  pub keep : AllByRecursion P rows
  pub beside : Beside bs (count (length rows) ∷ behind fields_of [] rows)

listed : {X : Type 0} (count : ℕ → Field) (fields_of : List X → X → List Field) (P : X → Type 0) → ((n : ℕ) → value (count n) ≡ Number n) → ((before : List X) (bs : List ℕ) → AreBytes bs → Row (fields_of before) P bs) → (bs : List ℕ) → AreBytes bs → Listed count fields_of P bs
listed {X} count fields_of P is row bs are =
    let n = number_said bs are in
    let a = one bs (Number n.0) (count n.0) (is n.0) n.1 in
    let t = several_rows fields_of P row n.0 [] (rest a) (rest_are a) in
    record {
      rows = t.rows;
      keep = t.keep;
      beside = subst (λ (k : ℕ). Beside bs (count k ∷ behind fields_of [] t.rows)) (sym t.size) (beside_on bs (count n.0 ∷ []) (behind fields_of [] t.rows) a t.beside);
    }

-- ---- the whole file

magic_row : (ms : List ℕ) (bs : List ℕ) → AreBytes bs → Row (magic_fields ms) (λ xs. length xs ≡ length ms) bs
magic_row [] bs are = record { row = []; keeps = refl; beside = none_beside bs are }
magic_row (m ∷ ms) bs are =
    let b = byte_said bs are in
    let a = one bs (Byte b.0) (MagicByte m b.0) refl b.1 in
    let more = magic_row ms (rest a) (rest_are a) in
    record { row = b.0 ∷ more.row; keeps = ap (λ (k : ℕ). suc k) more.keeps; beside = beside_on bs (MagicByte m b.0 ∷ []) (magic_fields ms more.row) a more.beside }

pub record Built (bs : List ℕ) : Type 0 where
  pub t : FileRows
  pub can : CanBeWritten t
  pub meets : Meets bs (fields t)

made : (t : FileRows) → length t.magic ≡ length magic → AllByRecursion (λ y. length y.own ≡ counts_in t.version) t.links → (bs : List ℕ) → Beside bs (fields t) → Built bs
made t size wide bs b = record {
  t = t;
  can = record {
    magic = size;
    counts = All-from_recursion (λ (y : LinkNumbers). length y.own ≡ counts_in t.version) t.links wide;
    room = All-from_recursion (λ (x : Field). HasRoom (value x)) (fields t) b.room;
  };
  meets = b.meets;
}

-- the bytes before the lists
record Head (bs : List ℕ) : Type 0 where
  pub magic_bytes : List ℕ
  pub version : ℕ
  pub finished : ℕ
  pub size : length magic_bytes ≡ length magic
  pub beside : Beside bs (magic_fields magic magic_bytes ++ Version version ∷ Finished finished ∷ [])

head : (bs : List ℕ) → AreBytes bs → Head bs
head bs are =
    let g = magic_row magic bs are in
    let v = byte_said (rest g.beside) (rest_are g.beside) in
    let a = one (rest g.beside) (Byte v.0) (Version v.0) refl v.1 in
    let d = byte_said (rest a) (rest_are a) in
    let b = one (rest a) (Byte d.0) (Finished d.0) refl d.1 in
    record {
      magic_bytes = g.row;
      version = v.0;
      finished = d.0;
      size = g.keeps;
      beside = beside_on bs (magic_fields magic g.row) (Version v.0 ∷ Finished d.0 ∷ []) g.beside (beside_on (rest g.beside) (Version v.0 ∷ []) (Finished d.0 ∷ []) a b);
    }

abbrev Modules : List ℕ → Type 0
Modules bs = Listed Count module_fields Any bs

abbrev Procs : ℕ → List ℕ → Type 0
Procs modules bs = Listed Count (proc_fields modules) Any bs

abbrev Sites : ℕ → List ℕ → Type 0
Sites procs bs = Listed SiteCount (site_fields procs) Any bs

abbrev Contexts : ℕ → List ℕ → Type 0
Contexts procs bs = Listed Count (context_fields procs) Any bs

abbrev Links : ℕ → List SiteNumbers → List ℕ → List ℕ → Type 0
Links k sites contexts bs = Listed Count (link_fields sites contexts) (λ y. length y.own ≡ k) bs

-- the fields before the contexts
record FrontBuilt (bs : List ℕ) : Type 0 where
  pub t : FileRows
  pub size : length t.magic ≡ length magic
  pub beside : Beside bs (front t)

front_of : (bs : List ℕ) (h : Head bs) (m : Modules (rest h.beside)) (p : Procs (length m.rows) (rest m.beside)) (s : Sites (length p.rows) (rest p.beside)) → FrontBuilt bs
front_of bs h m p s =
    let t : FileRows = record { magic = h.magic_bytes; version = h.version; finished = h.finished; modules = m.rows; procs = p.rows; sites = s.rows; contexts = []; links = [] } in
    record {
      t = t;
      size = h.size;
      beside = beside_on bs (header t) (module_list t ++ (proc_list t ++ site_list t)) h.beside
          (beside_on (rest h.beside) (module_list t) (proc_list t ++ site_list t) m.beside (beside_on (rest m.beside) (proc_list t) (site_list t) p.beside s.beside));
    }

sites_on : (bs : List ℕ) (h : Head bs) (m : Modules (rest h.beside)) (p : Procs (length m.rows) (rest m.beside)) → FrontBuilt bs
sites_on bs h m p = front_of bs h m p (listed SiteCount (site_fields (length p.rows)) Any (λ n. refl) (site_row (length p.rows)) (rest p.beside) (rest_are p.beside))

procs_on : (bs : List ℕ) (h : Head bs) (m : Modules (rest h.beside)) → FrontBuilt bs
procs_on bs h m = sites_on bs h m (listed Count (proc_fields (length m.rows)) Any (λ n. refl) (proc_row (length m.rows)) (rest m.beside) (rest_are m.beside))

modules_on : (bs : List ℕ) → Head bs → FrontBuilt bs
modules_on bs h = procs_on bs h (listed Count module_fields Any (λ n. refl) module_row (rest h.beside) (rest_are h.beside))

whole_of : (bs : List ℕ) (f : FrontBuilt bs) (c : Contexts (length f.t.procs) (rest f.beside)) (l : Links (counts_in f.t.version) f.t.sites c.rows (rest c.beside)) → Built bs
whole_of bs f c l =
    let t : FileRows = record { magic = f.t.magic; version = f.t.version; finished = f.t.finished; modules = f.t.modules; procs = f.t.procs; sites = f.t.sites; contexts = c.rows; links = l.rows } in
    made t f.size l.keep bs (beside_on bs (front t) (context_list t c.rows ++ link_list t) f.beside (beside_on (rest f.beside) (context_list t c.rows) (link_list t) c.beside l.beside))

links_on : (bs : List ℕ) (f : FrontBuilt bs) (c : Contexts (length f.t.procs) (rest f.beside)) → Built bs
links_on bs f c =
    let k = counts_in f.t.version in
    whole_of bs f c (listed Count (link_fields f.t.sites c.rows) (λ y. length y.own ≡ k) (λ n. refl) (link_of_row k f.t.sites c.rows) (rest c.beside) (rest_are c.beside))

contexts_on : (bs : List ℕ) → FrontBuilt bs → Built bs
contexts_on bs f = links_on bs f (listed Count (context_fields (length f.t.procs)) Any (λ n. refl) (context_row (length f.t.procs)) (rest f.beside) (rest_are f.beside))

pub built : (bs : List ℕ) → AreBytes bs → Built bs
built bs are = contexts_on bs (modules_on bs (head bs are))
