-- Small queries, worked out by hand.
use Rattle.std.proofs.Common.{◌≡◌, [], Some, None, codes, refl}
use Rattle.std.specs.Prelude.{⊤}
use Rattle.std.specs.Str.{is_utf8, chars}
use Rattle.std.specs.Str.Lossy.{utf8_lossy, utf8_valid_len, utf8_error_len}
use lib.Utf8.{encode}
use Rattle.form_urlencoded.proofs.OnLiterals.{form_urlencoded_on_literals}
use Rattle.md_base.specs.declared.measure.Measure.TheVariants.{Calls, Fails, Words, Excps}
use Rattle.md_people.specs.declared.sort.Sort.TheVariants.{Total, Own}
use Rattle.md_token.specs.Literal.{number_of}
use Rattle.md_query.specs.Asked.{query_of, table_of, Menu, Root, Clique, Procs, Top, Proc, Modules, Module, Hot, Tree, Flame, Find, Context, Callers, CallersNamed, ProcNamed, CliqueNamed}

-- what is unfolded to compute a query on a literal
unfoldable on_literals : ⊤
unfolding query_of table_of form_urlencoded_on_literals utf8_lossy utf8_valid_len utf8_error_len is_utf8 chars encode number_of
on_literals = tt

-- a path alone
nothing-asks-for-the-menu : query_of [] [] ≡ Some Menu
unfolding on_literals
nothing-asks-for-the-menu = refl

other-paths-are-none : query_of (codes "cliques") (codes "id=1") ≡ None
unfolding on_literals
other-paths-are-none = refl

-- refuses a rule by which the menu is asked for by no path alone
the-menu-has-a-path-too : query_of (codes "menu") [] ≡ Some Menu
unfolding on_literals
the-menu-has-a-path-too = refl

-- refuses a rule by which the root is the clique of its number, and needs a pair for it
the-root-needs-no-pair : query_of (codes "root") [] ≡ Some Root
unfolding on_literals
the-root-needs-no-pair = refl

-- refuses a rule by which a pair that a path doesn't take spoils it, or is taken
the-root-takes-no-pair : query_of (codes "root") (codes "id=3") ≡ Some Root
unfolding on_literals
the-root-takes-no-pair = refl

-- refuses a rule by which `procs` with a number asks for what `proc` does
each-procedure : query_of (codes "procs") (codes "id=3") ≡ Some Procs
unfolding on_literals
each-procedure = refl

-- refuses a rule by which `modules` with a name asks for what `module` does
each-module : query_of (codes "modules") (codes "name=t") ≡ Some Modules
unfolding on_literals
each-module = refl

-- refuses a rule by which a path may be longer than its word
a-path-is-a-whole-word : query_of (codes "procs/") [] ≡ None
unfolding on_literals
a-path-is-a-whole-word = refl

-- refuses a rule by which great letters are as good as small ones
a-path-is-in-small-letters : query_of (codes "Modules") [] ≡ None
unfolding on_literals
a-path-is-in-small-letters = refl

-- a path with pairs
a-clique-has-its-number : query_of (codes "clique") (codes "id=17") ≡ Some (Clique 17)
unfolding on_literals
a-clique-has-its-number = refl

pairs-come-in-any-order : query_of (codes "top") (codes "n=3&by=excps") ≡ Some (Top Excps 3)
unfolding on_literals
pairs-come-in-any-order = refl

the-first-of-two-pairs-counts : query_of (codes "proc") (codes "id=1&id=2") ≡ Some (Proc 1)
unfolding on_literals
the-first-of-two-pairs-counts = refl

-- refuses a rule by which a sign may stand before a number
a-number-has-digits-alone : query_of (codes "clique") (codes "id=-1") ≡ None
unfolding on_literals
a-number-has-digits-alone = refl

-- refuses a rule by which no digits are the number 0
a-number-has-a-digit : query_of (codes "clique") (codes "id=") ≡ None
unfolding on_literals
a-number-has-a-digit = refl

-- refuses a rule by which the last number of 32 bits stands for none
the-last-number : query_of (codes "proc") (codes "id=4294967295") ≡ Some (Proc 4294967295)
unfolding on_literals
the-last-number = refl

-- refuses a rule by which a number of more than 32 bits is cut down to them
a-number-past-the-last : query_of (codes "proc") (codes "id=4294967296") ≡ None
unfolding on_literals
a-number-past-the-last = refl

-- refuses a rule that gives `top` the default number of `hot`
top-needs-both-pairs : query_of (codes "top") (codes "by=calls") ≡ None
unfolding on_literals
top-needs-both-pairs = refl

-- refuses a rule that gives `top` the default measure of `hot`
top-needs-a-measure : query_of (codes "top") (codes "n=3") ≡ None
unfolding on_literals
top-needs-a-measure = refl

-- `n` is 1 to 1000
none-are-too-few : query_of (codes "top") (codes "by=excps&n=0") ≡ None
unfolding on_literals
none-are-too-few = refl

more-than-a-thousand-are-too-many : query_of (codes "top") (codes "by=excps&n=1001") ≡ None
unfolding on_literals
more-than-a-thousand-are-too-many = refl

-- the name of a module is decoded
plus-is-a-space : query_of (codes "module") (codes "name=a+b%2Bc") ≡ Some (Module (codes "a b+c"))
unfolding on_literals
plus-is-a-space = refl

a-missing-pair-makes-no-query : query_of (codes "module") (codes "id=1") ≡ None
unfolding on_literals
a-missing-pair-makes-no-query = refl

-- a pair with a default may be missing
a-path-alone-asks-what-is-hot : query_of (codes "hot") [] ≡ Some (Hot Calls 30 Total)
unfolding on_literals
a-path-alone-asks-what-is-hot = refl

each-default-may-be-replaced : query_of (codes "hot") (codes "sort=own&n=1000&by=excps") ≡ Some (Hot Excps 1000 Own)
unfolding on_literals
each-default-may-be-replaced = refl

-- where it is there, its value counts, and the default doesn't take its place
another-value-makes-no-query : query_of (codes "hot") (codes "sort=Own") ≡ None
unfolding on_literals
another-value-makes-no-query = refl

nor-does-the-second-value-count : query_of (codes "hot") (codes "n=0&n=1") ≡ None
unfolding on_literals
nor-does-the-second-value-count = refl

-- a tree has five thousandths of the whole as its least, of which there may be none, and no more than there are
a-path-alone-asks-for-the-tree : query_of (codes "tree") [] ≡ Some (Tree Calls 5)
unfolding on_literals
a-path-alone-asks-for-the-tree = refl

nothing-may-be-enough : query_of (codes "tree") (codes "by=words&least=0") ≡ Some (Tree Words 0)
unfolding on_literals
nothing-may-be-enough = refl

no-more-than-the-whole-is-enough : query_of (codes "tree") (codes "least=1001") ≡ None
unfolding on_literals
no-more-than-the-whole-is-enough = refl

-- a flame graph has one thousandth as its least
a-path-alone-asks-for-a-flame-graph : query_of (codes "flame") (codes "n=7") ≡ Some (Flame Calls 1)
unfolding on_literals
a-path-alone-asks-for-a-flame-graph = refl

-- a text to look for is decoded, and isn't empty
a-text-is-looked-for : query_of (codes "find") (codes "name=a+b&by=words") ≡ Some (Find Words (codes "a b"))
unfolding on_literals
a-text-is-looked-for = refl

an-empty-text-is-none : query_of (codes "find") (codes "name=") ≡ None
unfolding on_literals
an-empty-text-is-none = refl

-- where there is a number, the name is no matter, even where it is no number
callers-by-name : query_of (codes "callers") (codes "name=t.q/1&by=fails") ≡ Some (CallersNamed Fails (codes "t.q/1"))
unfolding on_literals
callers-by-name = refl

callers-by-number : query_of (codes "callers") (codes "name=t.q/1&id=3") ≡ Some (Callers Calls 3)
unfolding on_literals
callers-by-number = refl

callers-by-no-number : query_of (codes "callers") (codes "name=t.q/1&id=x") ≡ None
unfolding on_literals
callers-by-no-number = refl

-- a context has no name, and no default
a-context-by-number : query_of (codes "context") (codes "id=0") ≡ Some (Context Calls 0)
unfolding on_literals
a-context-by-number = refl

no-context-by-name : query_of (codes "context") (codes "name=t.q/1") ≡ None
unfolding on_literals
no-context-by-name = refl

-- a name stands in place of a number
a-procedure-by-its-name : query_of (codes "proc") (codes "name=t.main%2F2") ≡ Some (ProcNamed (codes "t.main/2"))
unfolding on_literals
a-procedure-by-its-name = refl

-- where there is a number, the name is no matter, and it doesn't mend the number
a-number-comes-before-a-name : query_of (codes "clique") (codes "name=t.main/2&id=3") ≡ Some (Clique 3)
unfolding on_literals
a-number-comes-before-a-name = refl

a-name-mends-no-number : query_of (codes "clique") (codes "name=t.main/2&id=x") ≡ None
unfolding on_literals
a-name-mends-no-number = refl

any-text-may-be-a-name : query_of (codes "clique") (codes "name=") ≡ Some (CliqueNamed [])
unfolding on_literals
any-text-may-be-a-name = refl
