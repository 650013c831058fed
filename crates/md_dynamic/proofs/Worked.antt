-- Which profiles are valid, and which are those of a history, computed on a program that counts down.
use Rattle.std.proofs.Common.{ℕ, zero, suc, ◌≡◌, ◌<◌, false, List, [], ◌∷◌, Some, None, ap, refl, sym, subst, rules, arith}
use Rattle.std.specs.Prelude.{IsTrue, slice_index_or}
use Rattle.std.proofs.lemmas.Bool.{false≢true}
use Rattle.md_base.specs.declared.measure.Counts.{Counts}
use Rattle.md_static.specs.declared.entry.Proc.{Proc}
use Rattle.md_static.specs.declared.entry.Site.{Site}
use Rattle.md_static.specs.declared.entry.SiteKind.TheVariants.{Plain}
use Rattle.md_static.specs.Tables.{Static}
use Rattle.md_trace.specs.declared.event.Event.TheVariants.{Call, Exit, Excp}
use Rattle.md_dynamic.specs.declared.link.LinkRow.{LinkRow}
use Rattle.md_dynamic.specs.OfHistory.{IsProfileOf}
use Rattle.md_dynamic.specs.Profile.{ProfileRows}
use Rattle.md_dynamic.specs.Valid.{AreValid, IsValid, AllReached, leads_down}

-- main/2 calls count/1 on line 3, which calls itself on line 5
abbrev main : Proc
main = record { «module» = 0; name = 109 ∷ 97 ∷ 105 ∷ 110 ∷ []; arity = 2 }

abbrev count : Proc
count = record { «module» = 0; name = 99 ∷ 111 ∷ 117 ∷ 110 ∷ 116 ∷ []; arity = 1 }

abbrev at_line : ℕ → ℕ → Site
at_line owner line = record { owner = owner; line = line; kind = Plain 1 }

abbrev counting : Static
counting = record { modules = (116 ∷ []) ∷ []; procs = main ∷ count ∷ []; sites = at_line 0 3 ∷ at_line 1 5 ∷ [] }

abbrev counts : ℕ → ℕ → ℕ → Counts
counts calls exits excps = record { calls = calls; exits = exits; fails = 0; redos = 0; allocs = 0; words = 0; excps = excps }

abbrev root : Counts → LinkRow
root own = record { caller = None; site = None; callee = 0; own = own }

abbrev link : ℕ → ℕ → ℕ → Counts → LinkRow
link from site to own = record { caller = Some from; site = Some site; callee = to; own = own }

-- of the run in which count calls itself once and an exception leaves all three
abbrev pub thrown : ProfileRows
thrown = record {
  statics = counting;
  nodes = 0 ∷ 1 ∷ [];
  links = root (counts 1 0 1) ∷ link 0 0 1 (counts 1 0 1) ∷ link 1 1 1 (counts 1 0 1) ∷ [];
  finished = false;
}

all_reached : AllReached 2 thrown.links
all_reached zero above below = absurd (omega arith)
all_reached (suc zero) above below = (1, link 0 0 1 (counts 1 0 1), omega arith, refl, refl)
all_reached (suc (suc v)) above below = absurd (omega arith)

thrown_is_valid : IsValid thrown
thrown_is_valid = record { sound = search rules; rows = search rules; links_fit = search rules; links_differ = search rules; all_reached = all_reached }

thrown_is_of_its_events : IsProfileOf counting 0 (Excp 0 ∷ Excp 1 ∷ Excp 2 ∷ Call 2 (Some 1) (Some 1) 1 ∷ Call 1 (Some 0) (Some 0) 1 ∷ Call 0 None None 0 ∷ []) false thrown
thrown_is_of_its_events = record { tables = refl; contexts_are = refl; links_are = refl; finished_is = refl }

-- with exits in the place of the exceptions it isn't
abbrev first_exits : List LinkRow → ℕ
first_exits [] = 0
first_exits (x ∷ xs) = x.own.exits

thrown_is_not_of_others : IsProfileOf counting 0 (Exit 0 ∷ Exit 1 ∷ Exit 2 ∷ Call 2 (Some 1) (Some 1) 1 ∷ Call 1 (Some 0) (Some 0) 1 ∷ Call 0 None None 0 ∷ []) false thrown → ⊥
thrown_is_not_of_others is = absurd (let e : 0 ≡ 1 = ap first_exits is.links_are in omega (arith, e))

-- a call at the site of another procedure
mismatched : AreValid counting (0 ∷ 1 ∷ []) (root (counts 1 1 0) ∷ link 0 0 1 (counts 1 1 0) ∷ link 1 0 1 (counts 1 1 0) ∷ []) → ⊥
mismatched valid = absurd (let fit = valid.links_fit 1 (root (counts 0 0 0)) (omega arith) in let owner : 0 ≡ 1 = fit.0 in omega (arith, owner))

-- a context that no link reaches from a lower one
orphan_at : (k : ℕ) (x : LinkRow) → k < 1 → slice_index_or (root (counts 1 1 0) ∷ []) k x ≡ x → IsTrue (leads_down 1 x) → ⊥
orphan_at zero x h at down = (let P : LinkRow → Type 0 = λ z. IsTrue (leads_down 1 z) in absurd (false≢true (subst P (sym at) down)))
orphan_at (suc k) x h at down = absurd (omega arith)

orphan : AreValid counting (0 ∷ 1 ∷ []) (root (counts 1 1 0) ∷ []) → ⊥
orphan valid = let reached = valid.all_reached 1 (omega arith) (omega arith) in orphan_at reached.0 reached.1 reached.2 reached.3 reached.4
