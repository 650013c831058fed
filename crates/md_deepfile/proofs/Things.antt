-- Each thing of the file, alone and in a row: what a reader takes is its spelling, and its spelling is taken again.
use Rattle.std.proofs.Common.{◌≡◌, ℕ, zero, suc, ◌<◌, ◌^◌, ◌⊎◌, inl, inr, Bool, true, false, cond, ◌==◌, nat_lt, nat_le, List, [], ◌∷◌, ◌++◌, length, take, None, Some, refl, sym, ap, subst, ◌∙◌, append_assoc, arith}
use Rattle.std.proofs.lemmas.Bool.{eqb-true}
use Rattle.std.specs.List.{flat_map}
use Rattle.md_base.specs.declared.measure.Counts.{Counts}
use Rattle.md_static.specs.declared.entry.Proc.{Proc}
use Rattle.md_static.specs.declared.entry.Site.{Site}
use Rattle.md_static.specs.declared.entry.SiteKind.{SiteKind}
use Rattle.md_static.specs.declared.entry.SiteKind.TheVariants.{Plain, HigherOrder}
use Rattle.md_static.specs.Tables.{callee_of}
use Rattle.md_dynamic.specs.declared.link.LinkRow.{LinkRow}
use Rattle.md_dynamic.specs.Profile.{ProfileRows}
use Rattle.md_deepfile.specs.Bytes.{u32, none, or_none, name_bytes, proc_bytes, site_bytes, numbers_of, link_bytes}
use Rattle.md_deepfile.specs.Fields.{Text, Next, module_told, module_field, proc_arity, proc_told, proc_module, proc_field, site_callee, site_line, site_owner, site_field, context_proc, context_field, root_own, root_callee, root_site, root_caller, root_field, link_own, link_callee, link_site, link_caller, link_field}
use Rattle.md_deepfile.specs.Format.{byte, numbers, several}
use Rattle.md_deepfile.specs.Rules.{with_module, with_proc, with_site, with_context, with_link, is_new_module, is_new_proc, proc_of, is_owner, is_callee, kind_of, counts_of, root_of, link_of, fits_site, is_new_link}
use Rattle.md_deepfile.specs.Spells.{AreSmall}
use Rattle.md_deepfile.proofs.Accepts.{AreBytes, AreWords, Accepts, number_takes, number_again, numbers_takes, numbers_again, text_takes, text_again}

-- what was taken of a thing, and what goes on behind it
pub record Taken {X : Type 0} (spell : X → List ℕ) (add : ProfileRows → X → ProfileRows) (Fine : ProfileRows → X → Type 0) (f : ProfileRows) (next : Next) (bs : List ℕ) (g : ProfileRows) : Type 0 where
  pub thing : X
  pub rest : List ℕ
  pub fine : Fine f thing
  pub parts : bs ≡ spell thing ++ rest
  pub goes : Accepts (next (add f thing)) rest g

pub record Thing {X : Type 0} (field : ProfileRows → Next → Text) (spell : X → List ℕ) (add : ProfileRows → X → ProfileRows) (Fine : ProfileRows → X → Type 0) : Type 0 where
  pub takes : (f : ProfileRows) (next : Next) (bs : List ℕ) (g : ProfileRows) → Accepts (field f next) bs g → Taken spell add Fine f next bs g
  pub again : (f : ProfileRows) (x : X) (next : Next) (rest : List ℕ) (g : ProfileRows) → Fine f x → Accepts (next (add f x)) rest g → Accepts (field f next) (spell x ++ rest) g

-- all in a row
abbrev pub adds : {X : Type 0} → (ProfileRows → X → ProfileRows) → ProfileRows → List X → ProfileRows
adds add f [] = f
adds add f (x ∷ xs) = adds add (add f x) xs

abbrev pub AllFine : {X : Type 0} → (ProfileRows → X → ProfileRows) → (ProfileRows → X → Type 0) → ProfileRows → List X → Type 0
AllFine add Fine f [] = Unit {0}
AllFine add Fine f (x ∷ xs) = Fine f x × AllFine add Fine (add f x) xs

pub record SeveralTaken {X : Type 0} (spell : X → List ℕ) (add : ProfileRows → X → ProfileRows) (Fine : ProfileRows → X → Type 0) (n : ℕ) (f : ProfileRows) (next : Next) (bs : List ℕ) (g : ProfileRows) : Type 0 where
  pub things : List X
  pub rest : List ℕ
  pub size : length things ≡ n
  pub fine : AllFine add Fine f things
  pub parts : bs ≡ flat_map spell things ++ rest
  pub goes : Accepts (next (adds add f things)) rest g

pub several_takes : {X : Type 0} (field : ProfileRows → Next → Text) (spell : X → List ℕ) (add : ProfileRows → X → ProfileRows) (Fine : ProfileRows → X → Type 0) (thing : Thing field spell add Fine)
    (n : ℕ) (f : ProfileRows) (next : Next) (bs : List ℕ) (g : ProfileRows) → Accepts (several field n f next) bs g → SeveralTaken spell add Fine n f next bs g
several_takes {X} field spell add Fine thing zero f next bs g h = record { things = []; rest = bs; size = refl; fine = tt; parts = refl; goes = h }
several_takes {X} field spell add Fine thing (suc n) f next bs g h =
    let one = thing.takes f (λ (e : ProfileRows). several field n e next) bs g h in
    let t = several_takes field spell add Fine thing n (add f one.thing) next one.rest g one.goes in
    record {
      things = one.thing ∷ t.things;
      rest = t.rest;
      size = ap (λ (k : ℕ). suc k) t.size;
      fine = (one.fine, t.fine);
      parts = one.parts ∙ ap (λ (xs : List ℕ). spell one.thing ++ xs) t.parts ∙ sym (append_assoc (spell one.thing) (flat_map spell t.things) t.rest);
      goes = t.goes;
    }

pub several_again : {X : Type 0} (field : ProfileRows → Next → Text) (spell : X → List ℕ) (add : ProfileRows → X → ProfileRows) (Fine : ProfileRows → X → Type 0) (thing : Thing field spell add Fine)
    (xs : List X) (f : ProfileRows) (next : Next) (rest : List ℕ) (g : ProfileRows) → AllFine add Fine f xs → Accepts (next (adds add f xs)) rest g → Accepts (several field (length xs) f next) (flat_map spell xs ++ rest) g
several_again {X} field spell add Fine thing [] f next rest g fine h = h
several_again {X} field spell add Fine thing (x ∷ xs) f next rest g fine h =
    let more = several_again field spell add Fine thing xs (add f x) next rest g fine.1 h in
    subst (λ (bs : List ℕ). Accepts (field f (λ (e : ProfileRows). several field (length xs) e next)) bs g) (sym (append_assoc (spell x) (flat_map spell xs) rest))
    (thing.again f x (λ (e : ProfileRows). several field (length xs) e next) (flat_map spell xs ++ rest) g fine.0 more)

-- two fields in a row
two : (a b c bs rest more : List ℕ) → bs ≡ a ++ rest → rest ≡ b ++ more → bs ≡ (a ++ b) ++ more
two a b c bs rest more first second = first ∙ ap (λ (xs : List ℕ). a ++ xs) second ∙ sym (append_assoc a b more)

-- modules
pub record IsFineModule (f : ProfileRows) (name : List ℕ) : Type 0 where
  pub is_new : is_new_module f name ≡ true
  pub short : length name < 256
  pub are : AreBytes name

pub module_thing : Thing module_field name_bytes with_module IsFineModule
module_thing = record {
  takes = λ f next bs g h.
      let t = text_takes (module_told f next) bs g h in
      record { thing = t.name; rest = t.rest; fine = record { is_new = t.goes.0; short = t.short; are = t.are }; parts = t.parts; goes = t.goes.1 };
  again = λ f name next rest g fine h. text_again name (module_told f next) rest g fine.short fine.are (fine.is_new, h);
}

-- procedures
pub record IsFineProc (f : ProfileRows) (p : Proc) : Type 0 where
  pub fits : p.module < 2 ^ 32
  pub is_there : nat_lt p.module (length f.statics.modules) ≡ true
  pub is_new : is_new_proc f p.module p.name ≡ true
  pub short : length p.name < 256
  pub are : AreBytes p.name
  pub arity : p.arity < 256

record ArityTaken (f : ProfileRows) (next : Next) (m : ℕ) (name : List ℕ) (bs : List ℕ) (g : ProfileRows) : Type 0 where
  pub arity : ℕ
  pub rest : List ℕ
  pub below : arity < 256
  pub parts : bs ≡ arity ∷ rest
  pub goes : Accepts (next (with_proc f (proc_of m name arity))) rest g

arity_takes : (f : ProfileRows) (next : Next) (m : ℕ) (name : List ℕ) (bs : List ℕ) (g : ProfileRows) → Accepts (byte (proc_arity f next m name)) bs g → ArityTaken f next m name bs g
arity_takes f next m name [] g h = absurd h
arity_takes f next m name (b ∷ bs) g h = record { arity = b; rest = bs; below = h.0; parts = refl; goes = h.1 }

proc_parts : (m name : List ℕ) (n a : ℕ) (bs rest more last : List ℕ) → bs ≡ m ++ rest → rest ≡ (n ∷ name) ++ more → more ≡ a ∷ last → bs ≡ (m ++ ((n ∷ name) ++ a ∷ [])) ++ last
proc_parts m name n a bs rest more last first second third =
    first ∙ ap (λ (xs : List ℕ). m ++ xs) (second ∙ ap (λ (xs : List ℕ). (n ∷ name) ++ xs) third ∙ sym (append_assoc (n ∷ name) (a ∷ []) last)) ∙ sym (append_assoc m ((n ∷ name) ++ a ∷ []) last)

pub proc_thing : Thing proc_field proc_bytes with_proc IsFineProc
proc_thing = record {
  takes = λ f next bs g h.
      let m = number_takes (proc_module f next) bs g h in
      let t = text_takes (proc_told f next m.n) m.rest g m.goes.1 in
      let a = arity_takes f next m.n t.name t.rest g t.goes.1 in
      record {
        thing = proc_of m.n t.name a.arity;
        rest = a.rest;
        fine = record { fits = m.below; is_there = m.goes.0; is_new = t.goes.0; short = t.short; are = t.are; arity = a.below };
        parts = proc_parts (u32 m.n) t.name (length t.name) a.arity bs m.rest t.rest a.rest m.parts t.parts a.parts;
        goes = a.goes;
      };
  again = λ f p next rest g fine h.
      let name = text_again p.name (proc_told f next p.module) (p.arity ∷ rest) g fine.short fine.are (fine.is_new, (fine.arity, h)) in
      let whole = number_again p.module (proc_module f next) ((length p.name ∷ p.name) ++ (p.arity ∷ rest)) g fine.fits (fine.is_there, name) in
      subst (λ (bs : List ℕ). Accepts (proc_field f next) bs g) (proc_parts (u32 p.module) p.name (length p.name) p.arity _ _ _ rest refl refl refl) whole;
}

-- call sites
pub record IsFineSite (f : ProfileRows) (x : Site) : Type 0 where
  pub owner_fits : x.owner < 2 ^ 32
  pub owner : is_owner f x.owner ≡ true
  pub line_fits : x.line < 2 ^ 32
  pub line : nat_le 1 x.line ≡ true
  pub callee_fits : or_none (callee_of x.kind) < 2 ^ 32
  pub callee : is_callee f (or_none (callee_of x.kind)) ≡ true
  pub kind : kind_of (or_none (callee_of x.kind)) ≡ x.kind

number_back : (b : Bool) (c : ℕ) → (b ≡ true → c ≡ none) → or_none (callee_of (cond b HigherOrder (Plain c))) ≡ c
number_back true c is = sym (is refl)
number_back false c is = refl

callee_back : (c : ℕ) → or_none (callee_of (kind_of c)) ≡ c
callee_back c = number_back (c == none) c (eqb-true c none)

three_parts : (a b c bs rest more last : List ℕ) → bs ≡ a ++ rest → rest ≡ b ++ more → more ≡ c ++ last → bs ≡ (a ++ (b ++ c)) ++ last
three_parts a b c bs rest more last first second third =
    first ∙ ap (λ (xs : List ℕ). a ++ xs) (second ∙ ap (λ (xs : List ℕ). b ++ xs) third ∙ sym (append_assoc b c last)) ∙ sym (append_assoc a (b ++ c) last)

pub site_thing : Thing site_field site_bytes with_site IsFineSite
site_thing = record {
  takes = λ f next bs g h.
      let o = number_takes (site_owner f next) bs g h in
      let l = number_takes (site_line f next o.n) o.rest g o.goes.1 in
      let c = number_takes (site_callee f next o.n l.n) l.rest g l.goes.1 in
      let back = callee_back c.n in
      record {
        thing = record { owner = o.n; line = l.n; kind = kind_of c.n };
        rest = c.rest;
        fine = record {
          owner_fits = o.below;
          owner = o.goes.0;
          line_fits = l.below;
          line = l.goes.0;
          callee_fits = subst (λ (k : ℕ). k < 2 ^ 32) (sym back) c.below;
          callee = ap (λ (k : ℕ). is_callee f k) back ∙ c.goes.0;
          kind = ap (λ (k : ℕ). kind_of k) back;
        };
        parts = three_parts (u32 o.n) (u32 l.n) (u32 (or_none (callee_of (kind_of c.n)))) bs o.rest l.rest c.rest o.parts l.parts (c.parts ∙ ap (λ (k : ℕ). u32 k ++ c.rest) (sym back));
        goes = c.goes.1;
      };
  again = λ f x next rest g fine h.
      let c = or_none (callee_of x.kind) in
      let goes = subst (λ (k : SiteKind). Accepts (next (with_site f (record { owner = x.owner; line = x.line; kind = k }))) rest g) (sym fine.kind) h in
      let callee = number_again c (site_callee f next x.owner x.line) rest g fine.callee_fits (fine.callee, goes) in
      let line = number_again x.line (site_line f next x.owner) (u32 c ++ rest) g fine.line_fits (fine.line, callee) in
      let whole = number_again x.owner (site_owner f next) (u32 x.line ++ (u32 c ++ rest)) g fine.owner_fits (fine.owner, line) in
      subst (λ (bs : List ℕ). Accepts (site_field f next) bs g) (three_parts (u32 x.owner) (u32 x.line) (u32 c) _ _ _ rest refl refl refl) whole;
}

-- contexts
pub record IsFineContext (f : ProfileRows) (p : ℕ) : Type 0 where
  pub fits : p < 2 ^ 32
  pub is_there : nat_lt p (length f.statics.procs) ≡ true

pub context_thing : Thing context_field u32 with_context IsFineContext
context_thing = record {
  takes = λ f next bs g h.
      let p = number_takes (context_proc f next) bs g h in
      record { thing = p.n; rest = p.rest; fine = record { fits = p.below; is_there = p.goes.0 }; parts = p.parts; goes = p.goes.1 };
  again = λ f p next rest g fine h. number_again p (context_proc f next) rest g fine.fits (fine.is_there, h);
}

-- how many counts a link has
abbrev pub IsWidth : ℕ → Type 0
IsWidth k = (k ≡ 6) ⊎ (k ≡ 7)

-- the counts that k numbers hold
pub record CountsFit (k : ℕ) (own : Counts) : Type 0 where
  pub small : AreSmall own
  pub whole : counts_of (take k (numbers_of own)) ≡ own
  pub size : length (take k (numbers_of own)) ≡ k
  pub words : AreWords (take k (numbers_of own))

-- numbers of a link as counts
record ReadCounts (k : ℕ) (ns : List ℕ) : Type 0 where
  pub fit : CountsFit k (counts_of ns)
  pub back : take k (numbers_of (counts_of ns)) ≡ ns

six_counts : (ns : List ℕ) → length ns ≡ 6 → AreWords ns → ReadCounts 6 ns
six_counts [] size below = absurd (omega (arith, size))
six_counts (a ∷ []) size below = absurd (omega (arith, size))
six_counts (a ∷ b ∷ []) size below = absurd (omega (arith, size))
six_counts (a ∷ b ∷ c ∷ []) size below = absurd (omega (arith, size))
six_counts (a ∷ b ∷ c ∷ d ∷ []) size below = absurd (omega (arith, size))
six_counts (a ∷ b ∷ c ∷ d ∷ e ∷ []) size below = absurd (omega (arith, size))
six_counts (a ∷ b ∷ c ∷ d ∷ e ∷ f ∷ []) size below = record {
  fit = record {
    small = record { calls = below.0; exits = below.1.0; fails = below.1.1.0; redos = below.1.1.1.0; allocs = below.1.1.1.1.0; words = below.1.1.1.1.1.0; excps = omega arith };
    whole = refl;
    size = refl;
    words = below;
  };
  back = refl;
}
six_counts (a ∷ b ∷ c ∷ d ∷ e ∷ f ∷ g ∷ ns) size below = absurd (omega (arith, size))

seven_counts : (ns : List ℕ) → length ns ≡ 7 → AreWords ns → ReadCounts 7 ns
seven_counts [] size below = absurd (omega (arith, size))
seven_counts (a ∷ []) size below = absurd (omega (arith, size))
seven_counts (a ∷ b ∷ []) size below = absurd (omega (arith, size))
seven_counts (a ∷ b ∷ c ∷ []) size below = absurd (omega (arith, size))
seven_counts (a ∷ b ∷ c ∷ d ∷ []) size below = absurd (omega (arith, size))
seven_counts (a ∷ b ∷ c ∷ d ∷ e ∷ []) size below = absurd (omega (arith, size))
seven_counts (a ∷ b ∷ c ∷ d ∷ e ∷ f ∷ []) size below = absurd (omega (arith, size))
seven_counts (a ∷ b ∷ c ∷ d ∷ e ∷ f ∷ g ∷ []) size below = record {
  fit = record {
    small = record { calls = below.0; exits = below.1.0; fails = below.1.1.0; redos = below.1.1.1.0; allocs = below.1.1.1.1.0; words = below.1.1.1.1.1.0; excps = below.1.1.1.1.1.1.0 };
    whole = refl;
    size = refl;
    words = below;
  };
  back = refl;
}
seven_counts (a ∷ b ∷ c ∷ d ∷ e ∷ f ∷ g ∷ h ∷ ns) size below = absurd (omega (arith, size))

read_counts : (k : ℕ) → IsWidth k → (ns : List ℕ) → length ns ≡ k → AreWords ns → ReadCounts k ns
read_counts k (inl six) ns size below = subst (λ (j : ℕ). ReadCounts j ns) (sym six) (six_counts ns (size ∙ six) below)
read_counts k (inr seven) ns size below = subst (λ (j : ℕ). ReadCounts j ns) (sym seven) (seven_counts ns (size ∙ seven) below)

-- a link's counts are read again behind its first three numbers
counts_again : (k : ℕ) (own : Counts) (next : List ℕ → Text) (rest : List ℕ) (g : ProfileRows) → CountsFit k own → Accepts (next (take k (numbers_of own))) rest g
    → Accepts (numbers k [] next) (flat_map u32 (take k (numbers_of own)) ++ rest) g
counts_again k own next rest g fit h =
    subst (λ (n : ℕ). Accepts (numbers n [] next) (flat_map u32 (take k (numbers_of own)) ++ rest) g) fit.size
    (numbers_again (take k (numbers_of own)) [] next rest g fit.words h)

four_parts : (a b c d bs rest more last end : List ℕ) → bs ≡ a ++ rest → rest ≡ b ++ more → more ≡ c ++ last → last ≡ d ++ end → bs ≡ (a ++ (b ++ (c ++ d))) ++ end
four_parts a b c d bs rest more last end first second third fourth =
    first ∙ ap (λ (xs : List ℕ). a ++ xs) (three_parts b c d rest more last end second third fourth) ∙ sym (append_assoc a (b ++ (c ++ d)) end)

-- the root link
pub record IsFineRoot (k : ℕ) (f : ProfileRows) (l : LinkRow) : Type 0 where
  pub caller : l.caller ≡ None
  pub site : l.site ≡ None
  pub callee : l.callee ≡ 0
  pub counts : CountsFit k l.own

pub root_thing : (k : ℕ) → IsWidth k → Thing (root_field k) (link_bytes k) with_link (IsFineRoot k)
root_thing k width = record {
  takes = λ f next bs g h.
      let v = number_takes (root_caller k f next) bs g h in
      let s = number_takes (root_site k f next) v.rest g v.goes.1 in
      let w = number_takes (root_callee k f next) s.rest g s.goes.1 in
      let c = numbers_takes k [] (root_own f next) w.rest g w.goes.1 in
      let own = read_counts k width c.ns c.size c.below in
      record {
        thing = root_of c.ns;
        rest = c.rest;
        fine = record { caller = refl; site = refl; callee = refl; counts = own.fit };
        parts = four_parts (u32 none) (u32 none) (u32 0) (flat_map u32 (take k (numbers_of (counts_of c.ns)))) bs v.rest s.rest w.rest c.rest
            (v.parts ∙ ap (λ (n : ℕ). u32 n ++ v.rest) (eqb-true v.n none v.goes.0))
            (s.parts ∙ ap (λ (n : ℕ). u32 n ++ s.rest) (eqb-true s.n none s.goes.0))
            (w.parts ∙ ap (λ (n : ℕ). u32 n ++ w.rest) (eqb-true w.n 0 w.goes.0))
            (c.parts ∙ ap (λ (ns : List ℕ). flat_map u32 ns ++ c.rest) (sym own.back));
        goes = c.goes;
      };
  again = λ f l next rest g fine h.
      let ns = take k (numbers_of l.own) in
      let same : root_of ns ≡ l = λ i. record { caller = sym fine.caller i; site = sym fine.site i; callee = sym fine.callee i; own = fine.counts.whole i } in
      let goes = subst (λ (x : LinkRow). Accepts (next (with_link f x)) rest g) (sym same) h in
      let counts = counts_again k l.own (root_own f next) rest g fine.counts goes in
      let callee = number_again 0 (root_callee k f next) (flat_map u32 ns ++ rest) g (omega arith) (refl, counts) in
      let site = number_again none (root_site k f next) (u32 0 ++ (flat_map u32 ns ++ rest)) g (omega arith) (refl, callee) in
      let whole = number_again none (root_caller k f next) (u32 none ++ (u32 0 ++ (flat_map u32 ns ++ rest))) g (omega arith) (refl, site) in
      subst (λ (bs : List ℕ). Accepts (root_field k f next) bs g)
      (four_parts (u32 none) (u32 none) (u32 0) (flat_map u32 ns) _ _ _ _ rest refl refl refl refl
      ∙ (λ i. (u32 (or_none (sym fine.caller i)) ++ (u32 (or_none (sym fine.site i)) ++ (u32 (sym fine.callee i) ++ flat_map u32 ns))) ++ rest)) whole;
}

-- each other link
pub record IsFineLink (k : ℕ) (f : ProfileRows) (l : LinkRow) : Type 0 where
  pub v : ℕ
  pub s : ℕ
  pub caller : l.caller ≡ Some v
  pub site : l.site ≡ Some s
  pub caller_fits : v < 2 ^ 32
  pub caller_there : nat_lt v (length f.nodes) ≡ true
  pub site_fits : s < 2 ^ 32
  pub site_there : nat_lt s (length f.statics.sites) ≡ true
  pub callee_fits : l.callee < 2 ^ 32
  pub callee_there : nat_lt l.callee (length f.nodes) ≡ true
  pub counts : CountsFit k l.own
  pub joins : fits_site f v s l.callee ≡ true
  pub is_new : is_new_link f v s l.callee ≡ true

pub link_thing : (k : ℕ) → IsWidth k → Thing (link_field k) (link_bytes k) with_link (IsFineLink k)
link_thing k width = record {
  takes = λ f next bs g h.
      let v = number_takes (link_caller k f next) bs g h in
      let s = number_takes (link_site k f next v.n) v.rest g v.goes.1 in
      let w = number_takes (link_callee k f next v.n s.n) s.rest g s.goes.1 in
      let c = numbers_takes k [] (link_own k f next v.n s.n w.n) w.rest g w.goes.1 in
      let own = read_counts k width c.ns c.size c.below in
      record {
        thing = link_of v.n s.n w.n c.ns;
        rest = c.rest;
        fine = record {
          v = v.n;
          s = s.n;
          caller = refl;
          site = refl;
          caller_fits = v.below;
          caller_there = v.goes.0;
          site_fits = s.below;
          site_there = s.goes.0;
          callee_fits = w.below;
          callee_there = w.goes.0;
          counts = own.fit;
          joins = c.goes.0;
          is_new = c.goes.1.0;
        };
        parts = four_parts (u32 v.n) (u32 s.n) (u32 w.n) (flat_map u32 (take k (numbers_of (counts_of c.ns)))) bs v.rest s.rest w.rest c.rest
            v.parts s.parts w.parts (c.parts ∙ ap (λ (ns : List ℕ). flat_map u32 ns ++ c.rest) (sym own.back));
        goes = c.goes.1.1;
      };
  again = λ f l next rest g fine h.
      let ns = take k (numbers_of l.own) in
      let same : link_of fine.v fine.s l.callee ns ≡ l = λ i. record { caller = sym fine.caller i; site = sym fine.site i; callee = l.callee; own = fine.counts.whole i } in
      let goes = subst (λ (x : LinkRow). Accepts (next (with_link f x)) rest g) (sym same) h in
      let counts = counts_again k l.own (link_own k f next fine.v fine.s l.callee) rest g fine.counts (fine.joins, (fine.is_new, goes)) in
      let callee = number_again l.callee (link_callee k f next fine.v fine.s) (flat_map u32 ns ++ rest) g fine.callee_fits (fine.callee_there, counts) in
      let site = number_again fine.s (link_site k f next fine.v) (u32 l.callee ++ (flat_map u32 ns ++ rest)) g fine.site_fits (fine.site_there, callee) in
      let whole = number_again fine.v (link_caller k f next) (u32 fine.s ++ (u32 l.callee ++ (flat_map u32 ns ++ rest))) g fine.caller_fits (fine.caller_there, site) in
      subst (λ (bs : List ℕ). Accepts (link_field k f next) bs g)
      (four_parts (u32 fine.v) (u32 fine.s) (u32 l.callee) (flat_map u32 ns) _ _ _ _ rest refl refl refl refl
      ∙ (λ i. (u32 (or_none (sym fine.caller i)) ++ (u32 (or_none (sym fine.site i)) ++ (u32 l.callee ++ flat_map u32 ns))) ++ rest)) whole;
}
