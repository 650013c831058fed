-- Calling contexts (Conway and Somogyi 2001, section 3): activations that are reached in the same way share one.
use Rattle.std.specs.Prelude.{ℕ, ◌==◌, ◌&&◌, Bool, true, false, List, [], ◌∷◌, ◌++◌, length, Option, Some, None, if◌then◌else◌, unwrap_or, find}
use Rattle.std.specs.Option.{option_map}
use Rattle.md_trace.specs.declared.event.Event.{Event}
use Rattle.md_trace.specs.Activation.{Activation, activations, numbered}
use Rattle.md_trace.specs.PortHistory.{current}

-- the link of an activation: the context of its caller, the call site, and its procedure
pub record Link : Type 0 where
  pub caller : Option ℕ
  pub site : Option ℕ
  pub procedure : ℕ

-- an activation in its context
pub record Placed : Type 0 where
  pub parent : Option ℕ
  pub link : Link
  pub context : ℕ

-- the two are one number, or both are none
abbrev pub same_option : Option ℕ → Option ℕ → Bool
same_option None None = true
same_option None (Some b) = false
same_option (Some a) None = false
same_option (Some a) (Some b) = a == b

-- the two links are one
abbrev pub same_link : Link → Link → Bool
same_link a b = same_option a.caller b.caller && same_option a.site b.site && a.procedure == b.procedure

-- the chain of an activation: itself, its parent, the parent's parent and so on; empty for none.
-- The list has the latest activation first, and a parent is earlier than the activation that it calls.
abbrev pub chain : List Placed → Option ℕ → List Placed
chain [] o = []
chain (x ∷ xs) None = []
chain (x ∷ xs) (Some a) = if a == length xs then x ∷ chain xs x.parent else chain xs (Some a)

-- the context of an activation's caller
abbrev pub context_of : List Placed → Option ℕ → Option ℕ
context_of before None = None
context_of before (Some a) = option_map (λ x. x.context) (numbered before a)

-- the procedures of the contexts, in the order of their numbers. Context 0 is main's, and is there from the start;
-- an activation that gets the next number makes a context of its procedure
abbrev pub contexts : ℕ → List Placed → List ℕ
contexts main [] = main ∷ []
contexts main (x ∷ xs) = let before = contexts main xs in if x.context == length before then before ++ x.link.procedure ∷ [] else before

-- an activation with this link
abbrev pub has_link : Link → Placed → Bool
has_link l x = same_link l x.link

-- an activation of this procedure
abbrev pub has_procedure : ℕ → Placed → Bool
has_procedure q x = q == x.link.procedure

-- The three rules for the context of an activation with this parent and link, after those before it.
-- 1. An earlier activation has the same link: it is that one's context.
-- 2. An activation of the caller's chain has the same procedure: it is the context of the nearest one.
-- 3. It is a new context, with the next number.
-- Activation 0, which has no parent, has context 0.
abbrev pub context_at : ℕ → List Placed → Option ℕ → Link → ℕ
context_at main before None l = 0
context_at main before (Some a) l =
    unwrap_or (option_map (λ x. x.context) (find (has_link l) before))
    (unwrap_or (option_map (λ x. x.context) (find (has_procedure l.procedure) (chain before (Some a)))) (length (contexts main before)))

-- the link of an activation, after those before it
abbrev pub link_of : List Placed → Activation → Link
link_of before x = record { caller = context_of before x.parent; site = x.site; procedure = x.procedure }

-- an activation with this link, in its context
abbrev pub place : ℕ → List Placed → Option ℕ → Link → Placed
place main before parent l = record { parent = parent; link = l; context = context_at main before parent l }

-- one more activation, in its context
abbrev pub with_placed : ℕ → Activation → List Placed → List Placed
with_placed main x before = place main before x.parent (link_of before x) ∷ before

-- activations in their contexts, the latest first
abbrev pub placed : ℕ → List Activation → List Placed
placed main [] = []
placed main (x ∷ xs) = with_placed main x (placed main xs)

-- the activations of a history in their contexts
abbrev pub placed_of : ℕ → List Event → List Placed
placed_of main h = placed main (activations h)

-- the chain of the activation that runs after a history
abbrev pub current_chain : ℕ → List Event → List Placed
current_chain main h = chain (placed_of main h) (current h)
