-- What holds at each moment of the search for the classes of mutual reachability. The trail has the open nodes, cut
-- into parts: `first` has the places at which they begin. Each open node reaches all that stand in its own part or a
-- later one. (Path-based search: Gabow, "Path-based depth-first search for strong and biconnected components", 2000.)
use Rattle.std.specs.Prelude.{ℕ, ◌≡◌, ◌≤◌, ◌<◌, ◌+◌, ◌-◌, ◌^◌, ◌⊎◌, Bool, true, false, List, length, Option, Some, None, set, slice_index, slice_index_or, count_by}
use Rattle.md_trace.specs.Reaches.{Reaches, ReachesBoth}
use Rattle.md_clique.specs.Links.{start_of, end_of}
use Rattle.md_clique.specs.declared.search.State.{State}
use Rattle.md_clique.specs.declared.search.State.TheVariants.{New, Open, Closed}
use Rattle.md_clique.specs.declared.adjacency.Adjacency.{Adjacency}
use Rattle.md_clique.specs.declared.search.Pending.{Pending}
use Rattle.md_clique.specs.declared.search.Move.{Move}
use Rattle.md_clique.specs.declared.search.Move.TheVariants.{Enter, Join, Pass, Skip, Close}

abbrev pub state_of : List State → ℕ → State
state_of states v = slice_index_or states v New

abbrev pub is_new : State → Bool
is_new New = true
is_new (Open i) = false
is_new (Closed c) = false

-- how many nodes no walk has come to
abbrev pub count_new : List State → ℕ
count_new states = count_by is_new states

-- where the last part begins
abbrev pub last_first : List ℕ → ℕ
last_first first = slice_index first (length first - 1)

-- no part begins above the one place and at or below the other: i stands in the part of j or in an earlier one
abbrev pub NotLater : List ℕ → ℕ → ℕ → Type 0
NotLater first i j = (k : ℕ) → k < length first → j < slice_index first k → i < slice_index first k

-- the open nodes are those of the trail, each at its place
pub record IsTrail (trail : List ℕ) (states : List State) : Type 0 where
  pub placed : (i : ℕ) → i < length trail → state_of states (slice_index trail i) ≡ Open i
  pub opened : (v i : ℕ) → state_of states v ≡ Open i → (i < length trail) × (slice_index trail i ≡ v)

-- parts of a trail of this length, which they cover
pub record AreParts (first : List ℕ) (size : ℕ) : Type 0 where
  pub covers : length first ≡ 0 → size ≡ 0
  pub bottom : slice_index first 0 ≡ 0
  pub rising : (a b : ℕ) → a < b → b < length first → slice_index first a < slice_index first b
  pub within : (a : ℕ) → a < length first → slice_index first a < size

-- a node with nothing left, where there is none
abbrev pub nothing_pending : Pending
nothing_pending = record { place = 0; from = 0; to = 0 }

abbrev pub pending_at : List Pending → ℕ → Pending
pending_at pending a = slice_index_or pending a nothing_pending

abbrev pub last_pending : List Pending → Pending
last_pending pending = pending_at pending (length pending - 1)

-- nodes of the trail, in its order, each with a front of the places of its links
pub record AreWaiting (starts : List ℕ) (pending : List Pending) (trail : List ℕ) : Type 0 where
  pub rising : (a b : ℕ) → a ≤ b → b < length pending → (pending_at pending a).place ≤ (pending_at pending b).place
  pub within : (a : ℕ) → a < length pending → (pending_at pending a).place < length trail
  pub begins : (a : ℕ) → a < length pending → (pending_at pending a).from ≡ slice_index starts (slice_index trail (pending_at pending a).place)
  pub some : (a : ℕ) → a < length pending → (pending_at pending a).from ≤ (pending_at pending a).to
  pub theirs : (a : ℕ) → a < length pending → (pending_at pending a).to ≤ slice_index starts (slice_index trail (pending_at pending a).place + 1)

-- the link at place p is left to look at, of the node at place i of the trail
abbrev pub IsLeft : List Pending → ℕ → ℕ → Type 0
IsLeft pending i p = (a : ℕ) × (a < length pending) × ((pending_at pending a).place ≡ i) × (p < (pending_at pending a).to)

-- each open node reaches those of its own part and of later ones
pub record AreWalked (links : List (ℕ × ℕ)) (first trail : List ℕ) : Type 0 where
  pub reaches : (i j : ℕ) → i < length trail → j < length trail → NotLater first i j → Reaches links (slice_index trail i) (slice_index trail j)

-- the node is closed, or open in a part that isn't before that of place i
abbrev pub IsSettled : List ℕ → List State → ℕ → ℕ → Type 0
IsSettled first states i v = ((c : ℕ) × (state_of states v ≡ Closed c)) ⊎ ((j : ℕ) × (state_of states v ≡ Open j) × NotLater first i j)

-- what the search keeps
pub record Kept : Type 0 where
  pub trail : List ℕ
  pub first : List ℕ
  pub pending : List Pending
  pub states : List State
  pub count : ℕ

-- an open node's links are left to look at, or they end at a settled node, or at this one, which will be entered
pub record AreSettled (lists : Adjacency) (but : Option ℕ) (k : Kept) : Type 0 where
  pub settled : (i p : ℕ) → i < length k.trail → slice_index lists.starts.items (slice_index k.trail i) ≤ p → p < slice_index lists.starts.items (slice_index k.trail i + 1)
      → IsLeft k.pending i p ⊎ (IsSettled k.first k.states i (slice_index lists.ends.items p) ⊎ (but ≡ Some (slice_index lists.ends.items p)))

-- closed nodes of one class reach each other, and a link from a closed node ends at a closed one of no higher class
pub record AreClosed (links : List (ℕ × ℕ)) (states : List State) (count : ℕ) : Type 0 where
  pub together : (u v c : ℕ) → state_of states u ≡ Closed c → state_of states v ≡ Closed c → Reaches links u v
  pub falls : (t c : ℕ) → t < length links → state_of states (start_of links t) ≡ Closed c → (d : ℕ) × (state_of states (end_of links t) ≡ Closed d) × (d ≤ c)
  pub below : (v c : ℕ) → state_of states v ≡ Closed c → c < count

-- there is room for each new node
pub record HasRoom (trail first : List ℕ) (states : List State) (count : ℕ) : Type 0 where
  pub on_trail : length trail + count_new states ≤ length states
  pub in_classes : count + length first + count_new states ≤ length states
  pub fits : length states < 2 ^ 32

-- all of it; between a link that is passed and the node where it ends, which is entered next, that node is excepted
pub record Stands (links : List (ℕ × ℕ)) (lists : Adjacency) (but : Option ℕ) (k : Kept) : Type 0 where
  pub trail : IsTrail k.trail k.states
  pub parts : AreParts k.first (length k.trail)
  pub waiting : AreWaiting lists.starts.items k.pending k.trail
  pub walked : AreWalked links k.first k.trail
  pub settled : AreSettled lists but k
  pub closed : AreClosed links k.states k.count
  pub room : HasRoom k.trail k.first k.states k.count

-- a node is new, and each open node reaches it
pub record MayEnter (links : List (ℕ × ℕ)) (k : Kept) (v : ℕ) : Type 0 where
  pub there : v < length k.states
  pub is_new : state_of k.states v ≡ New
  pub reached : (i : ℕ) → i < length k.trail → Reaches links (slice_index k.trail i) v

-- a link from the last part ends in an earlier part
pub record MayJoin (links : List (ℕ × ℕ)) (k : Kept) : Type 0 where
  pub i : ℕ
  pub j : ℕ
  pub in_last : last_first k.first ≤ i
  pub above : i < length k.trail
  pub earlier : j < last_first k.first
  pub reached : Reaches links (slice_index k.trail i) (slice_index k.trail j)

-- the last pending node has a link left, the last of which ends at a settled node or at the one that is excepted
pub record MayPass (lists : Adjacency) (but : Option ℕ) (k : Kept) : Type 0 where
  pub some : 0 < length k.pending
  pub left : (last_pending k.pending).from < (last_pending k.pending).to
  pub settled : IsSettled k.first k.states (last_pending k.pending).place (slice_index lists.ends.items ((last_pending k.pending).to - 1)) ⊎ (but ≡ Some (slice_index lists.ends.items ((last_pending k.pending).to - 1)))

-- the last pending node has no links left
pub record MaySkip (k : Kept) : Type 0 where
  pub some : 0 < length k.pending
  pub none_left : (last_pending k.pending).from ≡ (last_pending k.pending).to

-- nothing is pending in the last part
pub record MayClose (k : Kept) : Type 0 where
  pub some : 0 < length k.first
  pub none_pending : (a : ℕ) → a < length k.pending → (pending_at k.pending a).place < last_first k.first

abbrev pub May : List (ℕ × ℕ) → Adjacency → Kept → Move → Type 0
May links lists k (Enter v) = MayEnter links k v × MayPass lists (Some v) k
May links lists k Join = MayJoin links k
May links lists k Pass = MayPass lists None k
May links lists k Skip = MaySkip k
May links lists k Close = MayClose k

-- the last pending node with one link less
abbrev pub passed : Kept → Kept
passed k = record k { pending = set k.pending (length k.pending - 1) (record (last_pending k.pending) { to = (last_pending k.pending).to - 1 }) }

-- no node becomes new
pub record NoneRenewed (old new : List State) : Type 0 where
  pub each : length new ≡ length old
  pub seen : (v : ℕ) → state_of new v ≡ New → state_of old v ≡ New

-- the class of a closed node
abbrev pub class_of : State → ℕ
class_of New = 0
class_of (Open i) = 0
class_of (Closed c) = c

-- each node has a class below the count, and two nodes have one class if and only if each reaches the other
pub record AreClasses (links : List (ℕ × ℕ)) (nodes : ℕ) (states : List State) (count : ℕ) : Type 0 where
  pub each : length states ≡ nodes
  pub below : (v : ℕ) → v < nodes → class_of (state_of states v) < count
  pub apart : (a b : ℕ) → a < nodes → b < nodes → ReachesBoth links a b → class_of (state_of states a) ≡ class_of (state_of states b)
  pub together : (a b : ℕ) → a < nodes → b < nodes → class_of (state_of states a) ≡ class_of (state_of states b) → ReachesBoth links a b
