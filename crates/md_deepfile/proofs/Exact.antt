-- The bytes that are read as a profile are those that spell it.
use Rattle.std.proofs.Common.{◌≡◌, ◌≢◌, ℕ, ◌<◌, inl, inr, List, [], ◌∷◌, ◌++◌, length, drop, get_or, Ok, IsSomeAnd, refl, sym, ap, subst, ◌∙◌, arith}
use Rattle.std.specs.Prelude.{slice_get}
use Rattle.std.specs.List.{All, AllPairs}
use Rattle.std.proofs.lemmas.List.Elements.{All-head, All-tail, All-cons, All-weaker}
use Rattle.md_base.specs.declared.measure.Counts.{Counts}
use Rattle.md_static.specs.Sound.{IsSound}
use Rattle.md_dynamic.specs.declared.link.LinkRow.{LinkRow}
use Rattle.md_dynamic.specs.Profile.{ProfileRows}
use Rattle.md_dynamic.specs.Valid.{IsRoot, Fits, HasRows, IsValid, link_key}
use Rattle.md_deepfile.specs.Bytes.{magic, body_bytes, file_bytes, file_bytes1}
use Rattle.md_deepfile.specs.Fields.{profile_file}
use Rattle.md_deepfile.specs.Format.{read}
use Rattle.md_deepfile.specs.Spells.{AreSmall, HasRoom, Spells}
use Rattle.md_deepfile.proofs.Accepts.{AreBytes, read_accepts, accepts_read}
use Rattle.md_deepfile.proofs.Things.{CountsFit, IsFineRoot}
use Rattle.md_deepfile.proofs.Whole.{rows, AllFields, Version, first, second, file_takes, file_again}
use Rattle.md_deepfile.proofs.Rows.{modules_valid, modules_fine, procs_valid, procs_fine, sites_valid, sites_fine, contexts_valid, contexts_fine}
use Rattle.md_deepfile.proofs.LinkRows.{AreLinks, links_valid, links_fine, all_reached, reached_all}

pub record IsFineProfile (k : ℕ) (f : ProfileRows) : Type 0 where
  pub valid : IsValid f
  pub room : HasRoom f
  pub counts : All (λ l. CountsFit k l.own) f.links

fields_valid_at : (k : ℕ) (f : ProfileRows) (root : LinkRow) (others : List LinkRow) → f.links ≡ root ∷ others → AllFields k f → IsFineRoot k (rows f.statics.modules f.statics.procs f.statics.sites f.nodes [] f.finished) root
    → AreLinks k f.statics f.nodes others → IsFineProfile k f
fields_valid_at k f root others are fields fine links =
    let modules = modules_valid f.finished f.statics.modules fields.modules in
    let procs = procs_valid f.statics.modules f.finished f.statics.procs fields.procs in
    let sites = sites_valid f.statics.modules f.statics.procs f.finished f.statics.sites fields.sites in
    let counts : All (λ l. CountsFit k l.own) f.links = subst (λ (ls : List LinkRow). All (λ l. CountsFit k l.own) ls) (sym are) (All-cons (λ (l : LinkRow). CountsFit k l.own) root others fine.counts links.counts) in
    let sound : IsSound f.statics = record {
      some_modules = fields.some_modules;
      few_modules = fields.few_modules;
      some_procs = fields.some_procs;
      few_procs = fields.few_procs;
      few_sites = fields.few_sites;
      modules_are_names = modules.names;
      modules_differ = modules.differ;
      procs_have_names = procs.names;
      procs_differ = procs.differ;
      modules_there = procs.there;
      owners_there = sites.owners;
      callees_there = sites.callees;
      lines_from_one = sites.lines;
      owners_rise = sites.rise;
    } in
    let is_root : IsRoot root = record { caller = fine.caller; site = fine.site; callee = fine.callee } in
    let has : HasRows f.statics f.nodes f.links = record {
      some_nodes = fields.some_nodes;
      few_nodes = fields.few_nodes;
      some_links = subst (λ (ls : List LinkRow). 0 < length ls) (sym are) (omega arith);
      few_links = fields.few_links;
      nodes_there = contexts_valid f.statics.modules f.statics.procs f.statics.sites f.finished f.nodes fields.nodes;
      root = subst (λ (ls : List LinkRow). IsSomeAnd (slice_get ls 0) IsRoot) (sym are) is_root;
    } in
    record {
      valid = record {
        sound = sound;
        rows = has;
        links_fit = subst (λ (ls : List LinkRow). All (Fits f.statics f.nodes) (drop 1 ls)) (sym are) links.fit;
        links_differ = subst (λ (ls : List LinkRow). AllPairs (λ a b. link_key f.nodes a ≢ link_key f.nodes b) (drop 1 ls)) (sym are) links.differ;
        all_reached = all_reached k f fields.reached;
      };
      room = record { arities = procs.arities; lines = sites.short; counts = All-weaker (λ (l : LinkRow). CountsFit k l.own) (λ (l : LinkRow). AreSmall l.own) (λ l fit. fit.small) f.links counts };
      counts = counts;
    }

pub fields_valid : (k : ℕ) (f : ProfileRows) → AllFields k f → IsFineProfile k f
fields_valid k f fields =
    fields_valid_at k f fields.first fields.others fields.links_are fields fields.root
    (links_valid k f.statics.modules f.statics.procs f.statics.sites f.nodes fields.first f.finished fields.others fields.links)

valid_fields_at : (k : ℕ) (f : ProfileRows) (root : LinkRow) (others : List LinkRow) → f.links ≡ root ∷ others → IsFineProfile k f → AllFields k f
valid_fields_at k f root others are fine =
    let sound = fine.valid.sound in
    let has = fine.valid.rows in
    let is_root : IsRoot root = subst (λ (ls : List LinkRow). IsSomeAnd (slice_get ls 0) IsRoot) are has.root in
    let counts : All (λ l. CountsFit k l.own) (root ∷ others) = subst (λ (ls : List LinkRow). All (λ l. CountsFit k l.own) ls) are fine.counts in
    let links : AreLinks k f.statics f.nodes others = record {
      fit = subst (λ (ls : List LinkRow). All (Fits f.statics f.nodes) (drop 1 ls)) are fine.valid.links_fit;
      differ = subst (λ (ls : List LinkRow). AllPairs (λ a b. link_key f.nodes a ≢ link_key f.nodes b) (drop 1 ls)) are fine.valid.links_differ;
      counts = All-tail (λ (l : LinkRow). CountsFit k l.own) root others counts;
    } in
    record {
      some_modules = sound.some_modules;
      few_modules = sound.few_modules;
      modules = modules_fine f.finished f.statics.modules (record { names = sound.modules_are_names; differ = sound.modules_differ });
      some_procs = sound.some_procs;
      few_procs = sound.few_procs;
      procs = procs_fine f.statics.modules f.finished f.statics.procs sound.few_modules
          (record { names = sound.procs_have_names; differ = sound.procs_differ; there = sound.modules_there; arities = fine.room.arities });
      few_sites = sound.few_sites;
      sites = sites_fine f.statics.modules f.statics.procs f.finished f.statics.sites sound.few_procs
          (record { owners = sound.owners_there; callees = sound.callees_there; lines = sound.lines_from_one; short = fine.room.lines; rise = sound.owners_rise });
      some_nodes = has.some_nodes;
      few_nodes = has.few_nodes;
      nodes = contexts_fine f.statics.modules f.statics.procs f.statics.sites f.finished f.nodes sound.few_procs has.nodes_there;
      few_links = has.few_links;
      first = root;
      others = others;
      links_are = are;
      root = record { caller = is_root.caller; site = is_root.site; callee = is_root.callee; counts = All-head (λ (l : LinkRow). CountsFit k l.own) root others counts };
      links = links_fine k f.statics.modules f.statics.procs f.statics.sites f.nodes root f.finished others has.few_nodes sound.few_sites is_root.caller links;
      reached = reached_all k f fine.valid.all_reached;
    }

pub valid_fields_of : (k : ℕ) (f : ProfileRows) (links : List LinkRow) → f.links ≡ links → IsFineProfile k f → AllFields k f
valid_fields_of k f [] are fine = absurd (let some : 0 < length f.links = fine.valid.rows.some_links in omega (arith, some, ap length are))
valid_fields_of k f (root ∷ others) are fine = valid_fields_at k f root others are fine

-- six counts of a link hold all where there are no exceptions, and seven always
seven_fit : (own : Counts) → AreSmall own → CountsFit 7 own
seven_fit own small = record {
  small = small;
  whole = refl;
  size = refl;
  words = (small.calls, (small.exits, (small.fails, (small.redos, (small.allocs, (small.words, (small.excps, tt)))))));
}

six_fit : (own : Counts) → AreSmall own → own.excps ≡ 0 → CountsFit 6 own
six_fit own small none = record {
  small = small;
  whole = λ i. record { calls = own.calls; exits = own.exits; fails = own.fails; redos = own.redos; allocs = own.allocs; words = own.words; excps = sym none i };
  size = refl;
  words = (small.calls, (small.exits, (small.fails, (small.redos, (small.allocs, (small.words, tt))))));
}

six_none : (own : Counts) → CountsFit 6 own → own.excps ≡ 0
six_none own fit = sym (ap (λ (c : Counts). c.excps) fit.whole)

spells_as : (v k : ℕ) → Version v k → (bs : List ℕ) (f : ProfileRows) → bs ≡ magic ++ v ∷ body_bytes k f → IsFineProfile k f → Spells bs f
spells_as v k first bs f are fine = record {
  valid = fine.valid;
  room = fine.room;
  are = inr (are, All-weaker (λ (l : LinkRow). CountsFit 6 l.own) (λ (l : LinkRow). l.own.excps ≡ 0) (λ l fit. six_none l.own fit) f.links fine.counts);
}
spells_as v k second bs f are fine = record { valid = fine.valid; room = fine.room; are = inl are }

-- what is read is spelled so
pub read_spells : (bs : List ℕ) (f : ProfileRows) → AreBytes bs → read profile_file 0 bs ≡ Ok f → Spells bs f
read_spells bs f are is =
    let t = file_takes bs f (read_accepts profile_file 0 bs f are is) in
    spells_as t.version t.k t.is bs f t.parts (fields_valid t.k f t.fields)

pub fine_in_two : (f : ProfileRows) → IsValid f → HasRoom f → IsFineProfile 7 f
fine_in_two f valid room = record { valid = valid; room = room; counts = All-weaker (λ (l : LinkRow). AreSmall l.own) (λ (l : LinkRow). CountsFit 7 l.own) (λ l small. seven_fit l.own small) f.links room.counts }

fine_in_one : (f : ProfileRows) → IsValid f → HasRoom f → All (λ l. l.own.excps ≡ 0) f.links → IsFineProfile 6 f
fine_in_one f valid room none = record { valid = valid; room = room; counts = λ k d below. six_fit (get_or f.links k d).own (room.counts k d below) (none k d below) }

-- what is spelled so is read
pub spells_read : (bs : List ℕ) (f : ProfileRows) → Spells bs f → read profile_file 0 bs ≡ Ok f
spells_read bs f spells = elim spells.are [
  | inl two ↦
      let fields = valid_fields_of 7 f f.links refl (fine_in_two f spells.valid spells.room) in
      ap (read profile_file 0) two ∙ accepts_read profile_file 0 (file_bytes f) f (file_again 50 7 second f fields)
  | inr one ↦
      let fields = valid_fields_of 6 f f.links refl (fine_in_one f spells.valid spells.room one.1) in
      ap (read profile_file 0) one.0 ∙ accepts_read profile_file 0 (file_bytes1 f) f (file_again 49 6 first f fields)
]
