-- What the last column of a table for people names, as anchors: a procedure by its full name, a context and a clique by their numbers.
use Rattle.std.specs.Prelude.{ℕ, ◌≡◌, ◌<◌, ◌^◌, Bool, List, [], ◌++◌, length, codes, All, if◌then◌else◌}
use Rattle.std.specs.Fmt.{decimal}
use Rattle.md_static.specs.Tables.{Static}
use Rattle.percent_encoding.specs.Percent.{percent_encode}
use Rattle.percent_encoding.specs.declared.ascii_set.TheConstants.{NON_ALPHANUMERIC}
use Rattle.md_static.specs.declared.entry.Proc.{Proc}
use Rattle.md_table.specs.Anchors.{anchor, escaped, text_html}
use Rattle.md_table.specs.Cells.{indent_of}
use Rattle.md_people.specs.declared.led.Led.{Led}
use Rattle.md_people.specs.Words.{called_words, caller_words, from_words, full_name, led_words, line_at, line_words, owner_of, site_words, station_words}

-- a number of 64 bits
abbrev pub IsSmall : ℕ → Type 0
IsSmall n = n < 2 ^ 64

-- an anchor to what an address that begins so asks for by this word
abbrev pub asked_html : (front word : List ℕ) → List ℕ
asked_html front word = anchor (front ++ percent_encode NON_ALPHANUMERIC word) (escaped word)

abbrev pub proc_html : (by : List ℕ) → Static → (procedure : ℕ) → List ℕ
proc_html by s q = asked_html (codes "/callers?by=" ++ (by ++ codes "&amp;name=")) (full_name s q)

abbrev pub context_html : (by : List ℕ) (context : ℕ) → List ℕ
context_html by c = codes " context " ++ asked_html (codes "/context?by=" ++ (by ++ codes "&amp;id=")) (decimal c)

abbrev pub clique_html : (clique : ℕ) → List ℕ
clique_html k = codes " clique " ++ asked_html (codes "/clique?id=") (decimal k)

abbrev pub left_html : (leaves : Bool) (clique : ℕ) → List ℕ
left_html leaves k = if leaves then clique_html k else []

-- numbers of arguments are bytes
abbrev pub HaveArities : Static → Type 0
HaveArities s = All (λ (p : Proc). p.arity < 2 ^ 8) s.procs

-- the words of each kind of row, by procedures that are there and numbers of 64 bits: all else stays as it is
pub record AreAnchors (by : List ℕ) (s : Static) : Type 0 where
  pub procs : (q : ℕ) → q < length s.procs → text_html by (full_name s q) ≡ proc_html by s q
  pub callers : (x : ℕ) → owner_of s x < length s.procs → IsSmall (line_at s x) → IsSmall x
      → text_html by (caller_words s x) ≡ proc_html by s (owner_of s x) ++ (line_words s x ++ site_words x)
  pub callees : (x q : ℕ) → q < length s.procs → IsSmall (line_at s x) → IsSmall x → text_html by (called_words s x q) ≡ proc_html by s q ++ from_words s x
  pub stations : (level q c k : ℕ) → q < length s.procs → IsSmall c → IsSmall k
      → text_html by (indent_of level ++ station_words s q c k) ≡ indent_of level ++ (proc_html by s q ++ (context_html by c ++ clique_html k))
  pub led : (led : Led) (leaves : Bool) → led.proc < length s.procs → IsSmall (line_at s led.site) → IsSmall led.site → IsSmall led.callee → IsSmall led.clique
      → text_html by (led_words s led leaves) ≡ proc_html by s led.proc ++ (from_words s led.site ++ (context_html by led.callee ++ left_html leaves led.clique))
