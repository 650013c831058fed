-- The recorder before a run, and the profile after it.
use Rattle.std.proofs.Common.{ℕ, zero, suc, ◌≡◌, ◌<◌, Bool, All, IfSome, List, [], ◌∷◌, length, map, replicate, Some, None, slice_get, refl, sym, ap, ◌∙◌, subst, arith}
use Rattle.std.specs.Option.{option_map}
use Rattle.std.proofs.lemmas.List.{length-map, length-replicate}
use Rattle.std.proofs.lemmas.Option.{slice_get-map, get_or_from_slice_get}
use Rattle.md_static.specs.Tables.{Static, call_site, site_table}
use Rattle.md_static.specs.Sound.{IsSound}
use Rattle.md_trace.specs.declared.event.Event.{Event}
use Rattle.md_trace.specs.PortHistory.{SiteTable, CallSite}
use Rattle.md_trace.specs.Links.{Leading, links}
use Rattle.md_trace.specs.Context.{placed_of}
use Rattle.md_trace.proofs.Lists.{get-within, get-there}
use Rattle.md_dynamic.specs.declared.link.LinkRow.{LinkRow}
use Rattle.md_dynamic.specs.Links.{root_row}
use Rattle.md_dynamic.specs.Profile.{ProfileRows}
use Rattle.md_dynamic.specs.Rows.{Rows, first_rows}
use Rattle.md_record.specs.Kept.{Kept, Stands}
use Rattle.md_dynamic.specs.OfHistory.{IsProfileOf, row_of}

all-map : {A B : Type 0} (P : B → Type 0) (f : A → B) (xs : List A) → All (λ x. P (f x)) xs → All P (map f xs)
all-map P f xs all = λ k d below.
    let x = get-there xs k (omega (arith, length-map xs f)) in
    let at : slice_get (map f xs) k ≡ Some (f x.0) = slice_get-map f xs k ∙ ap (option_map f) x.1 in
    let good = subst (λ z. P (f z)) (get_or_from_slice_get xs k x.0 x.0 x.1) (all k x.0 (get-within xs k x.0 x.1)) in
    subst P (sym (get_or_from_slice_get (map f xs) k (f x.0) d at)) good

get-replicate : {A : Type 0} (n k : ℕ) (x : A) → k < n → slice_get (replicate n x) k ≡ Some x
get-replicate zero k x h = absurd (omega arith)
get-replicate (suc n) zero x h = refl
get-replicate (suc n) (suc k) x h = get-replicate n k x (omega arith)

first-rows : (m j : ℕ) (x : Leading) → slice_get (links m []) j ≡ Some x → slice_get (root_row ∷ []) j ≡ Some (row_of m [] x)
first-rows m zero x is = (let e : record { link = record { caller = None; site = None; procedure = m }; to = 0 } ≡ x = cc in ap (λ (z : Leading). Some (row_of m [] z)) e)
first-rows m (suc j) x is = absurd (cc)

pub stands-new : (k : Kept) (s : Static) (m : ℕ) → IsSound s → m < length s.procs → k.rows ≡ first_rows s m → k.chain ≡ [] → Stands k (site_table s m) []
stands-new k s m sound main rows chain =
    let t = site_table s m in
    let P : Kept → Type 0 = λ z. Stands z t [] in
    let k0 : Kept = record { rows = first_rows s m; chain = []; room = k.room } in
    let made : Rows → List (ℕ × ℕ) → Kept = λ r c. record { rows = r; chain = c; room = k.room } in
    let same : k0 ≡ k = ap (λ r. made r []) (sym rows) ∙ ap (λ c. made k.rows c) (sym chain) in
    subst P same (record {
      history = record {
        main_is_one = main;
        owners_are = all-map (λ (x : CallSite). x.owner < length s.procs) call_site s.sites sound.owners_there;
        callees_are = all-map (λ (x : CallSite). IfSome x.callee (λ q. q < length s.procs)) call_site s.sites sound.callees_there;
      };
      sound = sound;
      table = refl;
      contexts_are = refl;
      rows_are = record { each = refl; right = λ j x is. first-rows m j x is };
      active_is = record { each = length-replicate (length s.procs) None; right = λ q below. get-replicate (length s.procs) q None below };
      chain_is = tt;
      room_is = omega arith;
    })

-- rows by number are a list
rows-map : (f : Leading → LinkRow) (ls : List Leading) (rows : List LinkRow) → length rows ≡ length ls → ((j : ℕ) (x : Leading) → slice_get ls j ≡ Some x → slice_get rows j ≡ Some (f x)) → rows ≡ map f ls
rows-map f [] [] len right = refl
rows-map f [] (r ∷ rs) len right = absurd (omega arith)
rows-map f (x ∷ xs) [] len right = absurd (omega arith)
rows-map f (x ∷ xs) (r ∷ rs) len right =
    let first : r ≡ f x = (let e = right 0 x refl in cc) in
    let rest = rows-map f xs rs (omega arith) (λ j y is. right (suc j) y is) in
    ap (λ z. z ∷ rs) first ∙ ap (λ zs. f x ∷ zs) rest

pub profile-of : (t : SiteTable) (h : List Event) (k : Kept) (finished : Bool) (p : ProfileRows) → Stands k t h → p ≡ record { statics = k.rows.statics; nodes = k.rows.nodes; links = k.rows.links; finished = finished } → IsProfileOf k.rows.statics t.main h finished p
profile-of t h k finished p st is =
    record {
      tables = ap (λ (z : ProfileRows). z.statics) is;
      contexts_are = ap (λ (z : ProfileRows). z.nodes) is ∙ st.contexts_are;
      links_are = ap (λ (z : ProfileRows). z.links) is ∙ rows-map (row_of t.main h) (links t.main (placed_of t.main h)) k.rows.links st.rows_are.each st.rows_are.right;
      finished_is = ap (λ (z : ProfileRows). z.finished) is;
    }
