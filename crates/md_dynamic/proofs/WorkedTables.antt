-- How links are found, computed: main calls drive, which calls add and double by closures at one call site, and itself.
use Rattle.std.proofs.Common.{ℕ, ◌≡◌, List, [], ◌∷◌, Some, None, refl}
use Rattle.std.specs.Map.{lookup}
use Rattle.md_static.specs.declared.entry.Site.{Site}
use Rattle.md_static.specs.declared.entry.SiteKind.{SiteKind}
use Rattle.md_static.specs.declared.entry.SiteKind.TheVariants.{Plain, HigherOrder}
use Rattle.md_dynamic.specs.declared.slot.CalleeKey.{CalleeKey}
use Rattle.md_dynamic.specs.Links.{link_row, root_row}
use Rattle.md_dynamic.specs.Rows.{Rows, link_in, callee_in, place_in, HasCallees, AreCallees}
use Rattle.md_dynamic.specs.Slots.{slot_of, slot_link, slots_before, is_key}

abbrev site : ℕ → SiteKind → Site
site owner kind = record { owner = owner; line = 5; kind = kind }

-- site 0 is main's, sites 1 and 2 are drive's
abbrev sites : List Site
sites = site 0 (Plain 1) ∷ site 1 HigherOrder ∷ site 1 (Plain 1) ∷ []

abbrev driven : Rows
driven = record {
  statics = record { modules = []; procs = []; sites = sites };
  nodes = 0 ∷ 1 ∷ 2 ∷ 3 ∷ [];
  links = root_row ∷ link_row 0 0 1 1 ∷ link_row 1 1 2 1 ∷ link_row 1 2 1 1 ∷ link_row 1 1 3 1 ∷ [];
  active = [];
}

-- the plain sites
main_calls_drive : link_in driven 0 0 ≡ Some 1
main_calls_drive = refl

drive_calls_itself : link_in driven 1 2 ≡ Some 3
drive_calls_itself = refl

-- no other context has a link there
another_context_has_none : link_in driven 2 2 ≡ None
another_context_has_none = refl

-- the higher-order site has a link for each of its callees, and none for another procedure or another context
drive_calls_add : callee_in driven 1 1 2 ≡ Some 2
drive_calls_add = refl

drive_calls_double : callee_in driven 1 1 3 ≡ Some 4
drive_calls_double = refl

no_other_callee : callee_in driven 1 1 0 ≡ None
no_other_callee = refl

no_callee_of_another_context : callee_in driven 0 1 2 ≡ None
no_callee_of_another_context = refl

-- main's context has one slot and drive's has two, which begin behind it; add's and double's have none
slots_of_drive : slots_before sites driven.nodes 1 ≡ 1
slots_of_drive = refl

slots_of_add : slots_before sites driven.nodes 2 ≡ 3
slots_of_add = refl

slots_of_double : slots_before sites driven.nodes 3 ≡ 3
slots_of_double = refl

place_of_its_own_call : place_in driven 1 2 ≡ 2
place_of_its_own_call = refl

-- a slot tells its link, and the last number is none
a_slot_tells_its_link : slot_link (slot_of (Some 3)) ≡ Some 3
a_slot_tells_its_link = refl

an_empty_slot_tells_none : slot_link (slot_of None) ≡ None
an_empty_slot_tells_none = refl

-- a key of the map is that of one context, site and procedure
abbrev key : ℕ → ℕ → ℕ → CalleeKey
key v s q = record { node = v; site = s; callee = q }

found_by_its_key : lookup {X = ℕ} (is_key 1 1 3) ((key 1 1 2, 2) ∷ (key 1 1 3, 4) ∷ []) ≡ Some 4
found_by_its_key = refl

not_found_under_another_context : lookup {X = ℕ} (is_key 0 1 3) ((key 1 1 2, 2) ∷ (key 1 1 3, 4) ∷ []) ≡ None
not_found_under_another_context = refl

-- a key is of the higher-order site in a context of drive, and of no plain site, another's context or one that isn't there
has_callees : HasCallees sites driven.nodes 1 1
has_callees = (refl, refl)

plain_sites_have_none : HasCallees sites driven.nodes 1 2 → ⊥
plain_sites_have_none is = let kind : Some 1 ≡ None = is.0 in cc

other_contexts_have_none : HasCallees sites driven.nodes 0 1 → ⊥
other_contexts_have_none is = let owner : Some 0 ≡ Some 1 = is.1 in cc

missing_contexts_have_none : HasCallees sites driven.nodes 4 1 → ⊥
missing_contexts_have_none is = let owner : None ≡ Some 1 = is.1 in cc

missing_sites_have_none : HasCallees sites driven.nodes 1 3 → ⊥
missing_sites_have_none is = is

-- so a map that has the link of a plain site besides isn't the map of callees
a_plain_site_is_no_key : AreCallees sites driven.nodes ((key 1 2 1, 3) ∷ (key 1 1 2, 2) ∷ (key 1 1 3, 4) ∷ []) driven.links → ⊥
a_plain_site_is_no_key are = plain_sites_have_none (are.alone 1 2 1 3 refl)
