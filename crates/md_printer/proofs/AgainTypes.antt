-- Printed declarations are spelled by the grammar as they were.
use Rattle.std.specs.Prelude.{codes, nat_lt}
use Rattle.std.proofs.Common.{◌≡◌, ℕ, ◌+◌, Bool, true, false, cond, Option, Some, None, List, [], ◌∷◌, ◌++◌, length, refl, ap, sym, ◌∙◌, subst}
use Rattle.std.specs.Str.{bytes_eq}
use Rattle.md_hlds.specs.declared.types.Mode.{Mode}
use Rattle.md_hlds.specs.declared.types.Det.{Det}
use Rattle.md_hlds.specs.declared.goal.PredName.{PredName}
use Rattle.md_hlds.specs.Hlds.{HldsType, closure, gathered_types, HldsFunctor, HldsTypeDef}
use Rattle.md_hlds.proofs.Bridge.{listed_types-gathered}
use Rattle.md_hlds.specs.Words.{det_word}
use Rattle.md_token.specs.declared.kind.Kind.{Kind}
use Rattle.md_token.specs.declared.kind.Kind.TheVariants as kind
use Rattle.md_token.proofs.Spelled as spelled
use Rattle.md_token.proofs.Spelled.{Reads}
use Rattle.md_reader.specs.Input.{Input, name, token}
use Rattle.md_reader.specs.Rules as rule
use Rattle.md_reader.specs.Grammar as g
use Rattle.md_reader.specs.Grammar.{Is, Sign, Listed, Enclosed}
use Rattle.md_printer.specs.Layout.{Tokens, separated, further, arguments, in_parentheses}
use Rattle.md_printer.specs.Printed as print
use Rattle.md_printer.specs.Printed.{single}
use Rattle.md_printer.specs.Lines.{type_definition_on_line}
use Rattle.md_printer.proofs.Onto.{onto, onto-append, at, Good, most, known, few_at}
use Rattle.md_printer.proofs.Moves.{Still, sign_still, word_still, name_still, name_facts, simple_type_still, simple_type_facts, IsSimpleType, mode_still, ho_mode_still, word_facts, type_name_name, functor_still, argument_still, declared_name_facts, declared_name_still, enclosed_still}
use Rattle.md_printer.proofs.Takes.{IsHoMode, name_read, sign_takes, end_takes, name_takes, word_takes, simple_type_again, mode_takes, ho_mode_takes, ho_mode_facts, determinism_takes, type_name_takes, IsPrintable, printable, declared_name_takes}

-- in whatever state, the tokens of x are spelled as x
abbrev pub Again : {A : Type 0} → (A → Input → Input → Type 0) → (A → Tokens) → A → Type 0
Again R tokens x = (n : ℕ) (s : List ℕ) (i : Input) → R x (at n (onto (tokens x) s) i) (at n s i)

-- ---- lists

pub further_is : {A : Type 0} (item : A → Input → Input → Type 0) (k : Kind) (bt : List ℕ) (tokens : A → Tokens) (xs : List A) (i j : Input) → Listed item k xs i j → (s : List ℕ) → onto (further tokens bt xs) s ≡ bt ++ 32 ∷ onto (separated tokens bt xs) s
further_is item k bt tokens _ _ _ (g.Listed.last x i j h) s = refl
further_is item k bt tokens _ _ _ (g.Listed.also x xs i j m n h sg l) s = refl

pub listed_again : {A : Type 0} (item : A → Input → Input → Type 0) (k : Kind) (bt : List ℕ) (tokens : A → Tokens) → Reads k bt
    → ((x : A) (i j : Input) → item x i j → Good i → Again item tokens x) → ((x : A) (i j : Input) → item x i j → Still i j)
    → (xs : List A) (i j : Input) → Listed item k xs i j → Good i → Again (Listed item k) (separated tokens bt) xs
listed_again item k bt tokens r each still _ _ _ (g.Listed.last x i j h) a n s m =
    subst (λ (u : List ℕ). Listed item k (x ∷ []) (at n u m) (at n s m)) (sym (onto-append (tokens x) [] s)) (g.Listed.last x (at n (onto (tokens x) s) m) (at n s m) (each x i j h a n s m))
listed_again item k bt tokens r each still _ _ _ (g.Listed.also x xs i j o p h sg l) a n s m =
    let rest : List ℕ = onto (separated tokens bt xs) s in
    subst (λ (u : List ℕ). Listed item k (x ∷ xs) (at n u m) (at n s m)) (sym (onto-append (tokens x) (further tokens bt xs) s ∙ ap (onto (tokens x)) (further_is item k bt tokens xs o p l s)))
    (g.Listed.also x xs (at n (onto (tokens x) (bt ++ 32 ∷ rest)) m) (at n (bt ++ 32 ∷ rest) m) (at n rest m) (at n s m)
    (each x i j h a n (bt ++ 32 ∷ rest) m)
    (sign_takes k bt r n rest m)
    (listed_again item k bt tokens r each still xs o p l ((sign_still k j o sg).good ((still x i j h).good a)) n s m))

-- a list and its closing sign
abbrev pub closed : {A : Type 0} → (A → Tokens) → List ℕ → List A → Tokens
closed tokens ct xs = separated tokens (codes ",") xs ++ ct ∷ []

pub enclosed_again : {A : Type 0} (item : A → Input → Input → Type 0) (k : Kind) (ct : List ℕ) (tokens : A → Tokens) → Reads k ct
    → ((x : A) (i j : Input) → item x i j → Good i → Again item tokens x) → ((x : A) (i j : Input) → item x i j → Still i j)
    → (xs : List A) (i j : Input) → Enclosed item k xs i j → Good i → Again (Enclosed item k) (closed tokens ct) xs
enclosed_again item k ct tokens r each still _ _ _ (g.Enclosed.enclosed xs i j m l few sg) a n s p =
    subst (λ (u : List ℕ). Enclosed item k xs (at n u p) (at n s p)) (sym (onto-append (separated tokens (codes ",") xs) (ct ∷ []) s))
    (g.Enclosed.enclosed xs (at n (onto (separated tokens (codes ",") xs) (ct ++ 32 ∷ s)) p) (at n (ct ++ 32 ∷ s) p) (at n s p)
    (listed_again item kind.Comma (codes ",") tokens spelled.reads_comma each still xs i j l a n (ct ++ 32 ∷ s) p)
    (few_at (length xs) n (onto (separated tokens (codes ",") xs) (ct ++ 32 ∷ s)) i p a few)
    (sign_takes k ct r n s p))

pub arguments_are : {A : Type 0} (item : A → Input → Input → Type 0) (k : Kind) (tokens : A → Tokens) (xs : List A) (i j : Input) → Enclosed item k xs i j → arguments tokens xs ≡ codes "(" ∷ closed tokens (codes ")") xs
arguments_are item k tokens _ _ _ (g.Enclosed.enclosed _ a b m (g.Listed.last x i j h) few sg) = refl
arguments_are item k tokens _ _ _ (g.Enclosed.enclosed _ a b m (g.Listed.also x xs i j o p h sa l) few sg) = refl

-- ---- types

pub name_known : (f : List ℕ) (i j : Input) → Is name f i j → Good i → Reads kind.Name f × (nat_lt most (length f) ≡ false)
name_known f i j h a =
    let n = name_facts f i j h in
    (subst (Reads kind.Name) n.2 (name_read i a n.0), subst (λ (t : List ℕ). nat_lt most (length t) ≡ false) n.2 (known (λ l. l.items) i a (λ m. nat_lt m (length (token i).text) ≡ false) n.1))

abbrev type_words : List HldsType → Tokens
type_words ts = closed (single print.type_word) (codes ")") ts

simple_types_again : (ts : List HldsType) (i j : Input) → Enclosed (Is rule.simple_type) kind.Close ts i j → Good i → Again (Enclosed (Is rule.simple_type) kind.Close) type_words ts
simple_types_again ts i j e a = enclosed_again (Is rule.simple_type) kind.Close (codes ")") (single print.type_word) spelled.reads_close simple_type_again simple_type_still ts i j e a

functor_arguments_again : (ts : List HldsType) (i j : Input) → g.FunctorArguments ts i j → Good i → Again g.FunctorArguments (arguments (single print.type_word)) ts
functor_arguments_again _ _ _ (g.FunctorArguments.none i) a n s m = g.FunctorArguments.none (at n s m)
functor_arguments_again _ _ _ (g.FunctorArguments.some ts i j k sg e) a n s m =
    subst (λ (u : Tokens). g.FunctorArguments ts (at n (onto u s) m) (at n s m)) (sym (arguments_are (Is rule.simple_type) kind.Close (single print.type_word) ts j k e))
    (g.FunctorArguments.some ts (at n (codes "(" ++ 32 ∷ onto (type_words ts) s) m) (at n (onto (type_words ts) s) m) (at n s m)
    (sign_takes kind.Open (codes "(") spelled.reads_open n (onto (type_words ts) s) m)
    (simple_types_again ts j k e ((sign_still kind.Open i j sg).good a) n s m))

functor_again : (f : HldsFunctor) (i j : Input) → g.Functor f i j → Good i → Again g.Functor print.functor_tokens f
functor_again _ _ _ (g.Functor.functor f ts i j k h e) a n s m =
    let kn = name_known f i j h a in
    let u : List ℕ = onto (arguments (single print.type_word) ts) s in
    g.Functor.functor f ts (at n (f ++ 32 ∷ u) m) (at n u m) (at n s m) (name_takes f kn.0 kn.1 n u m) (functor_arguments_again ts j k e ((name_still f i j h).good a) n s m)

-- a type's declaration behind its `:-`
abbrev pub type_rest : HldsTypeDef → Tokens
type_rest t = codes "type" ∷ t.name ∷ codes "--->" ∷ separated print.functor_tokens (codes ";") t.functors

pub type_again : (line : ℕ) (t : HldsTypeDef) (i j : Input) → g.TypeDeclaration line t i j → Good i → (n : ℕ) (s : List ℕ) (m : Input)
    → g.TypeDeclaration n (type_definition_on_line n t) (at n (onto (type_rest t) (46 ∷ 10 ∷ s)) m) (at (n + 1) s m)
type_again line _ _ _ (g.TypeDeclaration.type_declaration t fs l i j k o p q w tn y fl e) a n s m =
    let own = type_name_name t j k tn in
    let b : Good j = (word_still (codes "type") l i j w).good a in
    let kn = name_known t j k own.1 b in
    let ow : rule.is_own_type t ≡ true = subst (λ (x : List ℕ). rule.is_own_type x ≡ true) (name_facts t j k own.1).2 own.0 in
    let c : Good o = (sign_still kind.Yields k o y).good ((name_still t j k own.1).good b) in
    let z : List ℕ = 46 ∷ 10 ∷ s in
    let u : List ℕ = onto (separated print.functor_tokens (codes ";") fs) z in
    g.TypeDeclaration.type_declaration t fs n (at n (codes "type" ++ 32 ∷ (t ++ 32 ∷ (codes "--->" ++ 32 ∷ u))) m) (at n (t ++ 32 ∷ (codes "--->" ++ 32 ∷ u)) m) (at n (codes "--->" ++ 32 ∷ u) m) (at n u m) (at n z m) (at (n + 1) s m)
    (word_takes (codes "type") spelled.reads_word_type n (t ++ 32 ∷ (codes "--->" ++ 32 ∷ u)) m)
    (type_name_takes t ow kn.0 kn.1 n (codes "--->" ++ 32 ∷ u) m)
    (sign_takes kind.Yields (codes "--->") spelled.reads_yields n u m)
    (listed_again g.Functor kind.Semicolon (codes ";") print.functor_tokens spelled.reads_semicolon functor_again functor_still fs o p fl c n z m)
    (end_takes n s m)

-- ---- predicates

modes_again : (ms : List Mode) (i j : Input) → Enclosed (Is rule.mode_word) kind.Close ms i j → Good i → Again (Enclosed (Is rule.mode_word) kind.Close) (closed (single print.mode_word) (codes ")")) ms
modes_again ms i j e a = enclosed_again (Is rule.mode_word) kind.Close (codes ")") (single print.mode_word) spelled.reads_close (λ x i j h a n s k. mode_takes x n s k) mode_still ms i j e a

abbrev mode_words : List Mode → Tokens
mode_words ms = closed (single print.mode_word) (codes ")") ms

inst_onto : (ms : List Mode) (d : Det) (s : List ℕ) → onto (print.inst_tokens ms d) s ≡ codes "(" ++ 32 ∷ (codes "pred" ++ 32 ∷ (codes "(" ++ 32 ∷ onto (mode_words ms) (codes "is" ++ 32 ∷ (det_word d ++ 32 ∷ (codes ")" ++ 32 ∷ s)))))
inst_onto ms d s =
    ap (λ (u : List ℕ). codes "(" ++ 32 ∷ (codes "pred" ++ 32 ∷ (codes "(" ++ 32 ∷ u)))
    (onto-append (mode_words ms ++ codes "is" ∷ det_word d ∷ []) (codes ")" ∷ []) s
    ∙ onto-append (mode_words ms) (codes "is" ∷ det_word d ∷ []) (codes ")" ++ 32 ∷ s))

inst_again : (ms : List Mode) (d : Det) (i j : Input) → g.Inst ms d i j → Good i → (n : ℕ) (s : List ℕ) (m : Input) → g.Inst ms d (at n (onto (print.inst_tokens ms d) s) m) (at n s m)
inst_again _ _ _ _ (g.Inst.inst ms d i j k l m n o p a b c e f h z) good q s w =
    let u1 : List ℕ = codes ")" ++ 32 ∷ s in
    let u2 : List ℕ = det_word d ++ 32 ∷ u1 in
    let u3 : List ℕ = codes "is" ++ 32 ∷ u2 in
    let u4 : List ℕ = onto (mode_words ms) u3 in
    let u5 : List ℕ = codes "(" ++ 32 ∷ u4 in
    let u6 : List ℕ = codes "pred" ++ 32 ∷ u5 in
    let gl : Good l = (sign_still kind.Open k l c).good ((sign_still kind.Pred j k b).good ((sign_still kind.Open i j a).good good)) in
    subst (λ (u : List ℕ). g.Inst ms d (at q u w) (at q s w)) (sym (inst_onto ms d s))
    (g.Inst.inst ms d (at q (codes "(" ++ 32 ∷ u6) w) (at q u6 w) (at q u5 w) (at q u4 w) (at q u3 w) (at q u2 w) (at q u1 w) (at q s w)
    (sign_takes kind.Open (codes "(") spelled.reads_open q u6 w)
    (sign_takes kind.Pred (codes "pred") spelled.reads_pred q u5 w)
    (sign_takes kind.Open (codes "(") spelled.reads_open q u4 w)
    (modes_again ms l m e gl q u3 w)
    (sign_takes kind.Is (codes "is") spelled.reads_is q u2 w)
    (determinism_takes d q u1 w)
    (sign_takes kind.Close (codes ")") spelled.reads_close q s w))

plain_tokens : (w : List ℕ) (t : HldsType) (i j : Input) (m : Mode) → IsSimpleType w i j t → print.argument_tokens (t, m) ≡ print.type_word t ∷ codes "::" ∷ print.mode_word m ∷ []
plain_tokens w _ i j m (IsSimpleType.int e) = refl
plain_tokens w _ i j m (IsSimpleType.string e) = refl
plain_tokens w _ i j m (IsSimpleType.io e) = refl
plain_tokens w _ i j m (IsSimpleType.other a b c d e) = refl

higher_onto : (ts : List HldsType) (m : Mode) (ms : List Mode) (d : Det) (s : List ℕ)
    → onto (print.argument_tokens (closure (gathered_types ts) ms d, m)) s ≡ codes "pred" ++ 32 ∷ (codes "(" ++ 32 ∷ onto (type_words ts) (codes "::" ++ 32 ∷ (print.mode_word m ++ 32 ∷ onto (print.inst_tokens ms d) s)))
higher_onto ts m ms d s =
    ap (λ (us : List HldsType). onto (codes "pred" ∷ (in_parentheses (separated (single print.type_word) (codes ",") us) ++ codes "::" ∷ print.mode_word m ∷ print.inst_tokens ms d)) s) (listed_types-gathered ts)
    ∙ ap (λ (u : List ℕ). codes "pred" ++ 32 ∷ (codes "(" ++ 32 ∷ u)) (onto-append (type_words ts) (codes "::" ∷ print.mode_word m ∷ print.inst_tokens ms d) s)

is_ho_mode : (m : Mode) (i j : Input) → Is rule.ho_mode m i j → IsHoMode m
unfolding rule.ho_mode
is_ho_mode m i j h = ho_mode_facts (token i).text m (word_facts (rule.ho_mode_named (token i).text) m i j h).0

argument_again : (x : HldsType × Mode) (i j : Input) → g.Argument x i j → Good i → Again g.Argument print.argument_tokens x
argument_again _ _ _ (g.Argument.plain t m i j k l a b c) good n s w =
    let u1 : List ℕ = print.mode_word m ++ 32 ∷ s in
    let u2 : List ℕ = codes "::" ++ 32 ∷ u1 in
    subst (λ (u : Tokens). g.Argument (t, m) (at n (onto u s) w) (at n s w)) (sym (plain_tokens (token i).text t i j m (simple_type_facts t i j a).1))
    (g.Argument.plain t m (at n (print.type_word t ++ 32 ∷ u2) w) (at n u2 w) (at n u1 w) (at n s w)
    (simple_type_again t i j a good n u2 w)
    (sign_takes kind.HasMode (codes "::") spelled.reads_has_mode n u1 w)
    (mode_takes m n s w))
argument_again _ _ _ (g.Argument.higher_order ts m ms d i j k l n o p a b c e f h) good q s w =
    let u1 : List ℕ = onto (print.inst_tokens ms d) s in
    let u2 : List ℕ = print.mode_word m ++ 32 ∷ u1 in
    let u3 : List ℕ = codes "::" ++ 32 ∷ u2 in
    let u4 : List ℕ = onto (type_words ts) u3 in
    let u5 : List ℕ = codes "(" ++ 32 ∷ u4 in
    let gk : Good k = (sign_still kind.Open j k b).good ((sign_still kind.Pred i j a).good good) in
    let gn : Good n = (sign_still kind.HasMode l n e).good ((enclosed_still (Is rule.simple_type) kind.Close simple_type_still ts k l c).good gk) in
    let go : Good o = (ho_mode_still m n o f).good gn in
    subst (λ (u : List ℕ). g.Argument (closure (gathered_types ts) ms d, m) (at q u w) (at q s w)) (sym (higher_onto ts m ms d s))
    (g.Argument.higher_order ts m ms d (at q (codes "pred" ++ 32 ∷ u5) w) (at q u5 w) (at q u4 w) (at q u3 w) (at q u2 w) (at q u1 w) (at q s w)
    (sign_takes kind.Pred (codes "pred") spelled.reads_pred q u5 w)
    (sign_takes kind.Open (codes "(") spelled.reads_open q u4 w)
    (simple_types_again ts k l c gk q u3 w)
    (sign_takes kind.HasMode (codes "::") spelled.reads_has_mode q u2 w)
    (ho_mode_takes m (is_ho_mode m n o f) q u1 w)
    (inst_again ms d o p h go q s w))

declared_arguments_again : (xs : List (HldsType × Mode)) (i j : Input) → g.DeclaredArguments xs i j → Good i → Again g.DeclaredArguments (arguments print.argument_tokens) xs
declared_arguments_again _ _ _ (g.DeclaredArguments.none i) a n s m = g.DeclaredArguments.none (at n s m)
declared_arguments_again _ _ _ (g.DeclaredArguments.some xs i j k sg e) a n s m =
    let u : List ℕ = onto (closed print.argument_tokens (codes ")") xs) s in
    subst (λ (t : Tokens). g.DeclaredArguments xs (at n (onto t s) m) (at n s m)) (sym (arguments_are g.Argument kind.Close print.argument_tokens xs j k e))
    (g.DeclaredArguments.some xs (at n (codes "(" ++ 32 ∷ u) m) (at n u m) (at n s m)
    (sign_takes kind.Open (codes "(") spelled.reads_open n u m)
    (enclosed_again g.Argument kind.Close (codes ")") print.argument_tokens spelled.reads_close argument_again argument_still xs j k e ((sign_still kind.Open i j sg).good a) n s m))

pub same_home : (i j : Input) → Still i j → i.home ≡ j.home
unfolding at
same_home i j s = ap (λ (k : Input). k.home) (s.same 0 [])

own_if : (b : Bool) (m : List ℕ) → rule.is_of_library (Some m) ≡ false → rule.is_of_library (cond b None (Some m)) ≡ false
own_if true m h = refl
own_if false m h = h

own_away : (home : List ℕ) (q : Option (List ℕ)) → rule.is_of_library q ≡ false → rule.is_of_library (rule.away_from home q) ≡ false
own_away home None h = refl
own_away home (Some m) h = own_if (bytes_eq m home) m h

own_name : (home : List ℕ) (w : rule.Written) (q : PredName) → rule.is_of_library w.qualifier ≡ false → rule.meant home w ≡ q → rule.is_of_library q.qualifier ≡ false
own_name home w q io e = subst (λ (q : PredName). rule.is_of_library q.qualifier ≡ false) e (own_away home w.qualifier io)

-- a predicate's declaration behind its `:-`
abbrev pub declaration_rest : rule.Declaration → Tokens
declaration_rest d = codes "pred" ∷ print.written_name d.name ∷ (arguments print.argument_tokens d.args ++ codes "is" ∷ det_word d.det ∷ [])

pub declared_printable : (d : rule.Declaration) (i j : Input) → g.PredDeclaration d i j → Good i → IsPrintable i.home d.name
declared_printable _ _ _ (g.PredDeclaration.pred_declaration q as' d i j k l m n o a b c e f h) good =
    let st = sign_still kind.Pred i j a in
    subst (λ (home : List ℕ). IsPrintable home q) (sym (same_home i j st)) (printable q j k (declared_name_facts q j k b).0 (st.good good))

pub declaration_again : (d : rule.Declaration) (i j : Input) → g.PredDeclaration d i j → Good i → (n : ℕ) (s : List ℕ)
    → g.PredDeclaration d (at n (onto (declaration_rest d) (46 ∷ 10 ∷ s)) i) (at (n + 1) s i)
declaration_again _ _ _ (g.PredDeclaration.pred_declaration q as' d i j k l m n o a b c e f h) good w s =
    let st = sign_still kind.Pred i j a in
    let nf = declared_name_facts q j k b in
    let io : rule.is_of_library q.qualifier ≡ false = own_name j.home nf.0.written q nf.1 nf.0.meant in
    let pr : IsPrintable i.home q = subst (λ (home : List ℕ). IsPrintable home q) (sym (same_home i j st)) (printable q j k nf.0 (st.good good)) in
    let gk : Good k = (declared_name_still q j k b).good (st.good good) in
    let z : List ℕ = 46 ∷ 10 ∷ s in
    let u1 : List ℕ = det_word d ++ 32 ∷ z in
    let u2 : List ℕ = codes "is" ++ 32 ∷ u1 in
    let u3 : List ℕ = onto (arguments print.argument_tokens as') u2 in
    let u4 : List ℕ = print.written_name q ++ 32 ∷ u3 in
    subst (λ (u : List ℕ). g.PredDeclaration (record { name = q; args = as'; det = d }) (at w (codes "pred" ++ 32 ∷ (print.written_name q ++ 32 ∷ u)) i) (at (w + 1) s i))
    (sym (onto-append (arguments print.argument_tokens as') (codes "is" ∷ det_word d ∷ []) z))
    (g.PredDeclaration.pred_declaration q as' d (at w (codes "pred" ++ 32 ∷ u4) i) (at w u4 i) (at w u3 i) (at w u2 i) (at w u1 i) (at w z i) (at (w + 1) s i)
    (sign_takes kind.Pred (codes "pred") spelled.reads_pred w u4 i)
    (declared_name_takes q i pr io w u3)
    (declared_arguments_again as' k l c gk w u2 i)
    (sign_takes kind.Is (codes "is") spelled.reads_is w u1 i)
    (determinism_takes d w z i)
    (end_takes w s i))
