-- The format of a file expects the fields of rows, list by list.
use Rattle.std.proofs.Common.{◌≡◌, ℕ, suc, ◌+◌, ◌-◌, ◌*◌, ◌<◌, ◌≤◌, Bool, not, ◌&&◌, ◌||◌, ◌==◌, nat_lt, nat_le, List, [], ◌∷◌, ◌++◌, length, map, get_or, Option, None, Some, refl, sym, ap, subst, ◌∙◌, append_assoc, append-nil, arith}
use Rattle.std.specs.Prelude.{slice_get}
use Rattle.std.specs.List.{AllByRecursion, list_any}
use Rattle.std.proofs.lemmas.List.{length-map}
use Rattle.std.proofs.lemmas.Option.{slice_get-map, slice_get-get_or}
use Rattle.md_static.specs.declared.entry.Proc.{Proc}
use Rattle.md_static.specs.declared.entry.Site.{Site}
use Rattle.md_dynamic.specs.declared.link.LinkRow.{LinkRow}
use Rattle.md_dynamic.specs.Profile.{ProfileRows}
use Rattle.md_deepfile.specs.Bytes.{u32, none, magic}
use Rattle.md_deepfile.specs.Fields.{Text, Next, module_told, module_field, proc_arity, proc_told, proc_module, proc_field, site_callee, site_line, site_owner, site_field, context_proc, context_field, root_own, root_callee, root_site, root_caller, root_field, link_own, link_callee, link_site, link_caller, link_field, ending, links_counted, links_fields, contexts_counted, contexts_fields, sites_counted, sites_fields, procs_counted, procs_fields, modules_counted, modules_fields, flag_told, version_told, profile_file}
use Rattle.md_deepfile.specs.Format.{byte, must, number, numbers, text, exactly, several}
use Rattle.md_deepfile.specs.Rules.{begun, with_site, with_link, is_new_module, is_new_proc, is_owner, is_callee, fits, fits_site, is_new_link, last_owner, owner_or_zero, is_number, has_key, has_any_key, root_of, link_size}
use Rattle.md_deepfile.specs.declared.damage.Kind.TheVariants as kinds
use Rattle.md_deepfile.proofs.Whole.{rows}
use Rattle.md_trace.specs.Context.{same_option}
use Rattle.law_damage.specs.Rows.{SiteNumbers, LinkNumbers, FileRows, counts_in}
use Rattle.law_damage.specs.Fields.{Field, MagicByte, Version, Finished, Count, SiteCount, ModuleName, ProcModule, ProcName, ProcArity, SiteOwner, SiteLine, SiteCallee, ContextProc, RootNumber, LinkCaller, LinkSite, LinkCallee, LinkCount, LinkFits, LinkIsNew, last, behind, magic_fields, module_fields, proc_fields, site_fields, context_fields, link_fields, header, module_list, proc_list, site_list, context_list, link_list, front, fields}
use Rattle.law_damage.proofs.Tests.{fine, same_key, site_row, link_row, owner_or_zero as owner_of}
use Rattle.law_damage.proofs.Expected.{Reads, nothing_read, byte_read, number_read, text_read, tested, untested}
use Rattle.law_damage.proofs.Along.{Along, along_on, behind_along, anything}

pub four : (n : ℕ) → length (u32 n) ≡ 4
unfolding u32
four n = refl

four_back : (n : ℕ) → 4 ≡ length (u32 n) + 0
four_back n = omega (arith, four n)

-- modules
pub module_along : (finished : Bool) (before : List (List ℕ)) (name : List ℕ) (more : Next) → Unit {0}
    → Along (module_field (rows before [] [] [] [] finished) more) (module_fields before name) (more (rows (before ++ name ∷ []) [] [] [] [] finished))
module_along finished before name more u =
    let f = rows before [] [] [] [] finished in (
      more (rows (before ++ name ∷ []) [] [] [] [] finished),
      tested (module_field f more) (ModuleName before name) _ (is_new_module f name) (length name + 1) (λ room. text_read name (module_told f more)) refl (omega arith),
      λ keeps. refl,
    )

-- procedures
pub proc_along : (m : List (List ℕ)) (finished : Bool) (before : List Proc) (p : Proc) (more : Next) → Unit {0}
    → Along (proc_field (rows m before [] [] [] finished) more) (proc_fields (length m) before p) (more (rows m (before ++ p ∷ []) [] [] [] finished))
proc_along m finished before p more u =
    let f = rows m before [] [] [] finished in (
      text (proc_told f more p.module),
      tested (proc_field f more) (ProcModule (length m) p.module) _ (nat_lt p.module (length m)) 4 (λ room. number_read p.module (proc_module f more) room) refl (four_back p.module),
      λ there. (
        byte (proc_arity f more p.module p.name),
        tested (text (proc_told f more p.module)) (ProcName before p.module p.name) _ (is_new_proc f p.module p.name) (length p.name + 1) (λ room. text_read p.name (proc_told f more p.module)) refl (omega arith),
        λ named. (
          more (rows m (before ++ p ∷ []) [] [] [] finished),
          untested (byte (proc_arity f more p.module p.name)) (ProcArity p.arity) _ (λ room. byte_read p.arity (proc_arity f more p.module p.name)) refl,
          λ keeps. refl,
        ),
      ),
    )

-- call sites
map_push : {X Y : Type 0} (h : X → Y) (xs : List X) (x : X) → map h xs ++ h x ∷ [] ≡ map h (xs ++ x ∷ [])
map_push {X} {Y} h [] x = refl
map_push {X} {Y} h (y ∷ xs) x = ap (λ (ys : List Y). h y ∷ ys) (map_push h xs x)

last_site : (xs : List SiteNumbers) → last_owner (map site_row xs) ≡ owner_of (last xs)
last_site [] = refl
last_site (x ∷ xs) =
    let less : suc (length (map site_row xs)) - 1 ≡ length (map site_row xs) = omega arith in
    ap (λ (k : ℕ). owner_or_zero (slice_get (map site_row (x ∷ xs)) k)) less ∙ at_last x xs
  where
    at_last : (x : SiteNumbers) (xs : List SiteNumbers) → owner_or_zero (slice_get (map site_row (x ∷ xs)) (length (map site_row xs))) ≡ owner_of (last (x ∷ xs))
    at_last x [] = refl
    at_last x (y ∷ ys) = at_last y ys

pub site_along : (m : List (List ℕ)) (p : List Proc) (finished : Bool) (before : List SiteNumbers) (x : SiteNumbers) (more : Next) → Unit {0}
    → Along (site_field (rows m p (map site_row before) [] [] finished) more) (site_fields (length p) before x) (more (rows m p (map site_row (before ++ x ∷ [])) [] [] finished))
site_along m p finished before x more u =
    let f = rows m p (map site_row before) [] [] finished in (
      number (site_line f more x.owner),
      tested (site_field f more) (SiteOwner (length p) before x.owner) _ (is_owner f x.owner) 4 (λ room. number_read x.owner (site_owner f more) room)
          (ap (λ (k : ℕ). nat_lt x.owner (length p) && nat_le k x.owner) (last_site before)) (four_back x.owner),
      λ owned. (
        number (site_callee f more x.owner x.line),
        tested (number (site_line f more x.owner)) (SiteLine x.line) _ (nat_le 1 x.line) 4 (λ room. number_read x.line (site_line f more x.owner) room) refl (four_back x.line),
        λ lined. (
          more (with_site f (site_row x)),
          tested (number (site_callee f more x.owner x.line)) (SiteCallee (length p) x.callee) _ (is_callee f x.callee) 4 (λ room. number_read x.callee (site_callee f more x.owner x.line) room) refl (four_back x.callee),
          λ keeps. ap (λ (xs : List Site). more (rows m p xs [] [] finished)) (map_push site_row before x),
        ),
      ),
    )

-- contexts
pub context_along : (m : List (List ℕ)) (p : List Proc) (x : List Site) (finished : Bool) (before : List ℕ) (v : ℕ) (more : Next) → Unit {0}
    → Along (context_field (rows m p x before [] finished) more) (context_fields (length p) before v) (more (rows m p x (before ++ v ∷ []) [] finished))
context_along m p x finished before v more u =
    let f = rows m p x before [] finished in (
      more (rows m p x (before ++ v ∷ []) [] finished),
      tested (context_field f more) (ContextProc (length p) v) _ (nat_lt v (length p)) 4 (λ room. number_read v (context_proc f more) room) refl (four_back v),
      λ keeps. refl,
    )

-- the counts of a link
numbers_along : (ns before : List ℕ) (next : List ℕ → Text) → Along (numbers (length ns) before next) (map LinkCount ns) (next (before ++ ns))
numbers_along [] before next = ap next (sym (append-nil before))
numbers_along (n ∷ ns) before next =
    let told : ℕ → Text = λ m. numbers (length ns) (before ++ m ∷ []) next in (
      told n,
      untested (number told) (LinkCount n) (told n) (λ room. number_read n told room) refl,
      λ keeps. subst (λ (xs : List ℕ). Along (told n) (map LinkCount ns) (next xs)) (append_assoc before (n ∷ []) ns) (numbers_along ns (before ++ n ∷ []) next),
    )

counts_along : (k : ℕ) (ns : List ℕ) (next : List ℕ → Text) → length ns ≡ k → Along (numbers k [] next) (map LinkCount ns) (next ns)
counts_along k ns next size = subst (λ (j : ℕ). Along (numbers j [] next) (map LinkCount ns) (next ns)) size (numbers_along ns [] next)

-- the root link
pub root_along : (k : ℕ) (sites : List SiteNumbers) (contexts : List ℕ) (f : ProfileRows) (l : LinkNumbers) (more : Next) → length l.own ≡ k
    → Along (root_field k f more) (link_fields sites contexts [] l) (more (with_link f (root_of l.own)))
root_along k sites contexts f l more size = (
  number (root_site k f more),
  tested (root_field k f more) (RootNumber none l.caller) _ (l.caller == none) 4 (λ room. number_read l.caller (root_caller k f more) room) refl (four_back l.caller),
  λ first. (
    number (root_callee k f more),
    tested (number (root_site k f more)) (RootNumber none l.site) _ (l.site == none) 4 (λ room. number_read l.site (root_site k f more) room) refl (four_back l.site),
    λ second. (
      numbers k [] (root_own f more),
      tested (number (root_callee k f more)) (RootNumber 0 l.callee) _ (l.callee == 0) 4 (λ room. number_read l.callee (root_callee k f more) room) refl (four_back l.callee),
      λ third. counts_along k l.own (root_own f more) size,
    ),
  ),
)

-- each other link
same_fits : (contexts : List ℕ) (sites : List SiteNumbers) (m : List (List ℕ)) (p : List Proc) (links : List LinkRow) (finished : Bool) (l : LinkNumbers)
    → fits_site (rows m p (map site_row sites) contexts links finished) l.caller l.site l.callee ≡ fine (LinkFits sites contexts l)
same_fits contexts sites m p links finished l = ap (fits_of (slice_get contexts l.caller) (slice_get contexts l.callee)) (slice_get-map site_row sites l.site)
  where
    fits_of : Option ℕ → Option ℕ → Option Site → Bool
    fits_of o u s = fits o s u

number_same : (o : Option ℕ) (q : ℕ) → is_number o q ≡ same_option (Some q) o
number_same None q = refl
number_same (Some n) q = refl

any_key : (contexts : List ℕ) (l : LinkNumbers) (q : ℕ) → slice_get contexts l.callee ≡ Some q → (before : List LinkNumbers) → list_any (has_key contexts l.caller l.site q) (map link_row before) ≡ list_any (same_key contexts l) before
any_key contexts l q at [] = refl
any_key contexts l q at (x ∷ before) =
    let one : is_number (slice_get contexts x.callee) q ≡ same_option (slice_get contexts l.callee) (slice_get contexts x.callee)
    = number_same (slice_get contexts x.callee) q ∙ ap (λ (o : Option ℕ). same_option o (slice_get contexts x.callee)) (sym at) in
    ap (λ (b : Bool). (((l.caller == x.caller) && (l.site == x.site)) && b) || list_any (has_key contexts l.caller l.site q) (map link_row before)) one
    ∙ ap (λ (b : Bool). same_key contexts l x || b) (any_key contexts l q at before)

same_new : (contexts : List ℕ) (sites : List Site) (m : List (List ℕ)) (p : List Proc) (root : LinkNumbers) (finished : Bool) (before : List LinkNumbers) (l : LinkNumbers) → l.callee < length contexts
    → is_new_link (rows m p sites contexts (root_of root.own ∷ map link_row before) finished) l.caller l.site l.callee ≡ fine (LinkIsNew contexts before l)
same_new contexts sites m p root finished before l there =
    let q = get_or contexts l.callee 0 in
    let at : slice_get contexts l.callee ≡ Some q = slice_get-get_or contexts l.callee 0 there in
    ap (λ (o : Option ℕ). not (has_any_key contexts (root_of root.own ∷ map link_row before) l.caller l.site o)) at
    ∙ ap not (any_key contexts l q at before)

pub link_along : (k : ℕ) (m : List (List ℕ)) (p : List Proc) (sites : List SiteNumbers) (contexts : List ℕ) (root : LinkNumbers) (finished : Bool) (before : List LinkNumbers) (l : LinkNumbers) (more : Next) → length l.own ≡ k
    → Along (link_field k (rows m p (map site_row sites) contexts (root_of root.own ∷ map link_row before) finished) more) (link_fields sites contexts (root ∷ before) l)
    (more (rows m p (map site_row sites) contexts (root_of root.own ∷ map link_row (before ++ l ∷ [])) finished))
link_along k m p sites contexts root finished before l more size =
    let f = rows m p (map site_row sites) contexts (root_of root.own ∷ map link_row before) finished in
    let after = link_own k f more l.caller l.site l.callee l.own in
    let last = more (with_link f (link_row l)) in
    let end = more (rows m p (map site_row sites) contexts (root_of root.own ∷ map link_row (before ++ l ∷ [])) finished) in
    let double = must kinds.DoubleLink (link_size k) (is_new_link f l.caller l.site l.callee) last in
    let width : link_size k ≡ 0 + (12 + 4 * length l.own) = omega (arith, size) in
    let marks : l.callee < length contexts → Along after (LinkFits sites contexts l ∷ LinkIsNew contexts before l ∷ []) end = λ there. (
      double,
      tested after (LinkFits sites contexts l) double (fits_site f l.caller l.site l.callee) (link_size k) (λ room. nothing_read after) (same_fits contexts sites m p (root_of root.own ∷ map link_row before) finished l) width,
      λ fits. (
        last,
        tested double (LinkIsNew contexts before l) last (is_new_link f l.caller l.site l.callee) (link_size k) (λ room. nothing_read double) (same_new contexts (map site_row sites) m p root finished before l there) width,
        λ keeps. ap (λ (ls : List LinkRow). more (rows m p (map site_row sites) contexts (root_of root.own ∷ ls) finished)) (map_push link_row before l),
      ),
    ) in (
      number (link_site k f more l.caller),
      tested (link_field k f more) (LinkCaller (length contexts) l.caller) _ (nat_lt l.caller (length contexts)) 4 (λ room. number_read l.caller (link_caller k f more) room) refl (four_back l.caller),
      λ first. (
        number (link_callee k f more l.caller l.site),
        tested (number (link_site k f more l.caller)) (LinkSite (length sites) l.site) _ (nat_lt l.site (length (map site_row sites))) 4 (λ room. number_read l.site (link_site k f more l.caller) room)
            (ap (nat_lt l.site) (length-map sites site_row)) (four_back l.site),
        λ second. (
          numbers k [] (link_own k f more l.caller l.site l.callee),
          tested (number (link_callee k f more l.caller l.site)) (LinkCallee (length contexts) l.callee) _ (nat_lt l.callee (length contexts)) 4 (λ room. number_read l.callee (link_callee k f more l.caller l.site) room) refl (four_back l.callee),
          λ third. along_on (numbers k [] (link_own k f more l.caller l.site l.callee)) after end (map LinkCount l.own) (LinkFits sites contexts l ∷ LinkIsNew contexts before l ∷ [])
              (counts_along k l.own (link_own k f more l.caller l.site l.callee) size) (marks third),
        ),
      ),
    )

-- ---- the lists, each behind its count

-- a count that has to be at least 1, and one that hasn't
count_along : (n : ℕ) (told : ℕ → Text) (next end : Text) (xs : List Field) → told n ≡ must kinds.Range 4 (nat_le 1 n) next → (1 ≤ n → Along next xs end) → Along (number told) (Count n ∷ xs) end
count_along n told next end xs is along = (
  next,
  tested (number told) (Count n) next (nat_le 1 n) 4 (λ room. subst (λ (f : Text). Reads (number told) (u32 n) f) is (number_read n told room)) refl (four_back n),
  along,
)

any_count_along : (n : ℕ) (told : ℕ → Text) (end : Text) (xs : List Field) → Along (told n) xs end → Along (number told) (SiteCount n ∷ xs) end
any_count_along n told end xs along = (told n, untested (number told) (SiteCount n) (told n) (λ room. number_read n told room) refl, λ keeps. along)

pub modules_along : (k : ℕ) (finished : Bool) (m : List (List ℕ)) → Along (modules_fields k (rows [] [] [] [] [] finished)) (Count (length m) ∷ behind module_fields [] m) (procs_fields k (rows m [] [] [] [] finished))
modules_along k finished m =
    let f = rows [] [] [] [] [] finished in
    count_along (length m) (modules_counted k f) (several module_field (length m) f (procs_fields k)) (procs_fields k (rows m [] [] [] [] finished)) (behind module_fields [] m) refl
    (λ some. behind_along module_field module_fields (λ zs. rows zs [] [] [] [] finished) (λ x. Unit {0}) (procs_fields k) (module_along finished) [] m (anything m))

pub procs_along : (k : ℕ) (finished : Bool) (m : List (List ℕ)) (p : List Proc) → Along (procs_fields k (rows m [] [] [] [] finished)) (Count (length p) ∷ behind (proc_fields (length m)) [] p) (sites_fields k (rows m p [] [] [] finished))
procs_along k finished m p =
    let f = rows m [] [] [] [] finished in
    count_along (length p) (procs_counted k f) (several proc_field (length p) f (sites_fields k)) (sites_fields k (rows m p [] [] [] finished)) (behind (proc_fields (length m)) [] p) refl
    (λ some. behind_along proc_field (proc_fields (length m)) (λ zs. rows m zs [] [] [] finished) (λ x. Unit {0}) (sites_fields k) (proc_along m finished) [] p (anything p))

pub sites_along : (k : ℕ) (finished : Bool) (m : List (List ℕ)) (p : List Proc) (x : List SiteNumbers)
    → Along (sites_fields k (rows m p [] [] [] finished)) (SiteCount (length x) ∷ behind (site_fields (length p)) [] x) (contexts_fields k (rows m p (map site_row x) [] [] finished))
sites_along k finished m p x =
    let f = rows m p [] [] [] finished in
    any_count_along (length x) (sites_counted k f) (contexts_fields k (rows m p (map site_row x) [] [] finished)) (behind (site_fields (length p)) [] x)
    (behind_along site_field (site_fields (length p)) (λ zs. rows m p (map site_row zs) [] [] finished) (λ x. Unit {0}) (contexts_fields k) (site_along m p finished) [] x (anything x))

pub contexts_along : (k : ℕ) (finished : Bool) (m : List (List ℕ)) (p : List Proc) (x : List Site) (v : List ℕ)
    → Along (contexts_fields k (rows m p x [] [] finished)) (Count (length v) ∷ behind (context_fields (length p)) [] v) (links_fields k (rows m p x v [] finished))
contexts_along k finished m p x v =
    let f = rows m p x [] [] finished in
    count_along (length v) (contexts_counted k f) (several context_field (length v) f (links_fields k)) (links_fields k (rows m p x v [] finished)) (behind (context_fields (length p)) [] v) refl
    (λ some. behind_along context_field (context_fields (length p)) (λ zs. rows m p x zs [] finished) (λ x. Unit {0}) (links_fields k) (context_along m p x finished) [] v (anything v))

-- links as a reader keeps them
abbrev pub link_rows : List LinkNumbers → List LinkRow
link_rows [] = []
link_rows (root ∷ others) = root_of root.own ∷ map link_row others

behind_root : (sites : List SiteNumbers) (contexts : List ℕ) (root : LinkNumbers) (before xs : List LinkNumbers) → behind (λ zs. link_fields sites contexts (root ∷ zs)) before xs ≡ behind (link_fields sites contexts) (root ∷ before) xs
behind_root sites contexts root before [] = refl
behind_root sites contexts root before (x ∷ xs) = ap (λ (ys : List Field). link_fields sites contexts (root ∷ before) x ++ ys) (behind_root sites contexts root (before ++ x ∷ []) xs)

pub links_along : (k : ℕ) (finished : Bool) (m : List (List ℕ)) (p : List Proc) (x : List SiteNumbers) (v : List ℕ) (l : List LinkNumbers) → AllByRecursion (λ y. length y.own ≡ k) l
    → Along (links_fields k (rows m p (map site_row x) v [] finished)) (Count (length l) ∷ behind (link_fields x v) [] l) (ending k (rows m p (map site_row x) v (link_rows l) finished))
links_along k finished m p x v [] wide =
    let f = rows m p (map site_row x) v [] finished in
    count_along 0 (links_counted k f) _ (ending k f) [] refl (λ some. absurd (omega (arith, some)))
links_along k finished m p x v (root ∷ others) wide =
    let f = rows m p (map site_row x) v [] finished in
    let end = ending k (rows m p (map site_row x) v (root_of root.own ∷ map link_row others) finished) in
    let at : List LinkNumbers → ProfileRows = λ zs. rows m p (map site_row x) v (root_of root.own ∷ map link_row zs) finished in
    let less : length others ≡ suc (length others) - 1 = omega arith in
    let rest : Along (several (link_field k) (length others) (at []) (ending k)) (behind (λ zs. link_fields x v (root ∷ zs)) [] others) end
    = behind_along (link_field k) (λ zs. link_fields x v (root ∷ zs)) at (λ y. length y.own ≡ k) (ending k) (link_along k m p x v root finished) [] others wide.1 in
    let more : Along (several (link_field k) (suc (length others) - 1) (at []) (ending k)) (behind (link_fields x v) (root ∷ []) others) end
    = subst (λ (n : ℕ). Along (several (link_field k) n (at []) (ending k)) (behind (link_fields x v) (root ∷ []) others) end) less
    (subst (λ (xs : List Field). Along (several (link_field k) (length others) (at []) (ending k)) xs end) (behind_root x v root [] others) rest) in
    count_along (suc (length others)) (links_counted k f) (root_field k f (λ g. several (link_field k) (suc (length others) - 1) g (ending k))) end (behind (link_fields x v) [] (root ∷ others)) refl
    (λ some. along_on (root_field k f (λ g. several (link_field k) (suc (length others) - 1) g (ending k))) (several (link_field k) (suc (length others) - 1) (at []) (ending k)) end
    (link_fields x v [] root) (behind (link_fields x v) (root ∷ []) others)
    (root_along k x v f root (λ g. several (link_field k) (suc (length others) - 1) g (ending k)) wide.0) more)

-- ---- the whole file

magic_along : (ms bs : List ℕ) (next : Text) → length bs ≡ length ms → Along (exactly ms next) (magic_fields ms bs) next
magic_along [] bs next size = refl
magic_along (m ∷ ms) [] next size = absurd (omega (arith, size))
magic_along (m ∷ ms) (b ∷ bs) next size = (
  exactly ms next,
  tested (exactly (m ∷ ms) next) (MagicByte m b) (exactly ms next) (b == m) 1 (λ room. byte_read b (λ (c : ℕ). must kinds.Magic 1 (c == m) (exactly ms next))) refl (omega arith),
  λ keeps. magic_along ms bs next (omega (arith, size)),
)

-- the rows as a reader keeps them
abbrev pub profile_of : FileRows → ProfileRows
profile_of t = rows t.modules t.procs (map site_row t.sites) t.contexts (link_rows t.links) (t.finished == 1)

header_along : (t : FileRows) → length t.magic ≡ length magic → Along profile_file (header t) (modules_fields (counts_in t.version) (rows [] [] [] [] [] (t.finished == 1)))
header_along t size =
    let k = counts_in t.version in
    let next = modules_fields k (begun (t.finished == 1)) in
    along_on profile_file (byte version_told) next (magic_fields magic t.magic) (Version t.version ∷ Finished t.finished ∷ []) (magic_along magic t.magic (byte version_told) size) (
      byte (flag_told k),
      tested (byte version_told) (Version t.version) (byte (flag_told k)) ((t.version == 49) || (t.version == 50)) 1 (λ room. byte_read t.version version_told) refl (omega arith),
      λ keeps. (
        next,
        tested (byte (flag_told k)) (Finished t.finished) next (nat_le t.finished 1) 1 (λ room. byte_read t.finished (flag_told k)) refl (omega arith),
        λ told. refl,
      ),
    )

pub file_along : (t : FileRows) → length t.magic ≡ length magic → AllByRecursion (λ y. length y.own ≡ counts_in t.version) t.links → Along profile_file (fields t) (ending (counts_in t.version) (profile_of t))
file_along t size wide =
    let k = counts_in t.version in
    let finished = t.finished == 1 in
    let x = map site_row t.sites in
    let e1 = modules_fields k (rows [] [] [] [] [] finished) in
    let e2 = procs_fields k (rows t.modules [] [] [] [] finished) in
    let e3 = sites_fields k (rows t.modules t.procs [] [] [] finished) in
    let e4 = contexts_fields k (rows t.modules t.procs x [] [] finished) in
    let e5 = links_fields k (rows t.modules t.procs x t.contexts [] finished) in
    let end = ending k (profile_of t) in
    along_on profile_file e4 end (front t) (context_list t t.contexts ++ link_list t)
    (along_on profile_file e1 e4 (header t) (module_list t ++ (proc_list t ++ site_list t)) (header_along t size)
    (along_on e1 e2 e4 (module_list t) (proc_list t ++ site_list t) (modules_along k finished t.modules)
    (along_on e2 e3 e4 (proc_list t) (site_list t) (procs_along k finished t.modules t.procs) (sites_along k finished t.modules t.procs t.sites))))
    (along_on e4 e5 end (context_list t t.contexts) (link_list t) (contexts_along k finished t.modules t.procs x t.contexts) (links_along k finished t.modules t.procs t.sites t.contexts t.links wide))
