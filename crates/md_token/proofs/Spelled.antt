-- A token that a space follows is read as itself: signs and words.
use Rattle.std.proofs.Common.{◌≡◌, ℕ, ◌+◌, List, [], ◌∷◌, ◌++◌, length, Some, refl, ap, sym, ◌∙◌, subst}
use Rattle.std.proofs.Math.Seq.{take-append_seam, drop-append_seam}
use Rattle.std.specs.Prelude.{codes}
use Rattle.md_token.specs.declared.kind.Kind.{Kind}
use Rattle.md_token.specs.declared.kind.Kind.TheVariants as kind
use Rattle.md_token.specs.declared.scan.Prefix.{Prefix}
use Rattle.md_token.specs.Token.{Lexeme, lexemes, prefix_at, prefix_of_token, token_at, name_at, sign_at, single_at, colon_at, dash_at, word_kind, put, more_of, line_past}
use Rattle.md_token.proofs.Scans.{skipped}

-- before a space, these bytes are a token of this kind
pub record Reads (k : Kind) (text : List ℕ) : Type 0 where
  pub head : ℕ
  pub tail : List ℕ
  pub whole : text ≡ head ∷ tail
  pub prefix : (rest : List ℕ) → prefix_at head (tail ++ 32 ∷ rest) ≡ prefix_of_token (Some (k, length tail))

abbrev pub lexeme : Kind → List ℕ → ℕ → Lexeme
lexeme k t line = record { kind = k; text = t; line = line }

at_space : (line : ℕ) (s : List ℕ) → lexemes 0 line (32 ∷ s) ≡ lexemes 0 line s
unfolding prefix_at
at_space line s = refl

-- the end sign and a line feed
pub at_end : (line : ℕ) (s : List ℕ) → lexemes 0 line (46 ∷ 10 ∷ s) ≡ lexeme kind.End (46 ∷ []) line ∷ lexemes 0 (line + 1) s
unfolding prefix_at token_at sign_at
at_end line s = refl

pub piece : (k : Kind) (line b : ℕ) (w rest : List ℕ) (f : Prefix) → f ≡ prefix_of_token (Some (k, length w))
    → put line b (w ++ rest) f (lexemes (more_of f) (line_past f b line) (w ++ rest)) ≡ lexeme k (b ∷ w) line ∷ lexemes 0 line rest
piece k line b w rest f e =
    rw (e, take-append_seam w rest, skipped (length w) line (w ++ rest), drop-append_seam w rest) refl

-- a token is told, and what follows its space is read on
pub token_read : (k : Kind) (t : List ℕ) (line : ℕ) (s : List ℕ) → Reads k t → lexemes 0 line (t ++ 32 ∷ s) ≡ lexeme k t line ∷ lexemes 0 line s
token_read k t line s r =
    subst (λ (t : List ℕ). lexemes 0 line (t ++ 32 ∷ s) ≡ lexeme k t line ∷ lexemes 0 line s) (sym r.whole)
    (piece k line r.head r.tail (32 ∷ s) (prefix_at r.head (r.tail ++ 32 ∷ s)) (r.prefix s)
    ∙ ap (λ (ts : List Lexeme). lexeme k (r.head ∷ r.tail) line ∷ ts) (at_space line s))

-- ---- signs and words

pub reads_declare : Reads kind.Declare (codes ":-")
unfolding prefix_at token_at sign_at colon_at
reads_declare = record { head = 58; tail = 45 ∷ []; whole = refl; prefix = λ rest. refl }

pub reads_yields : Reads kind.Yields (codes "--->")
unfolding prefix_at token_at sign_at dash_at
reads_yields = record { head = 45; tail = 45 ∷ 45 ∷ 62 ∷ []; whole = refl; prefix = λ rest. refl }

pub reads_then : Reads kind.Then (codes "->")
unfolding prefix_at token_at sign_at dash_at
reads_then = record { head = 45; tail = 62 ∷ []; whole = refl; prefix = λ rest. refl }

pub reads_has_mode : Reads kind.HasMode (codes "::")
unfolding prefix_at token_at sign_at colon_at
reads_has_mode = record { head = 58; tail = 58 ∷ []; whole = refl; prefix = λ rest. refl }

pub reads_semicolon : Reads kind.Semicolon (codes ";")
unfolding prefix_at token_at sign_at single_at
reads_semicolon = record { head = 59; tail = []; whole = refl; prefix = λ rest. refl }

pub reads_comma : Reads kind.Comma (codes ",")
unfolding prefix_at token_at sign_at single_at
reads_comma = record { head = 44; tail = []; whole = refl; prefix = λ rest. refl }

pub reads_open : Reads kind.Open (codes "(")
unfolding prefix_at token_at sign_at single_at
reads_open = record { head = 40; tail = []; whole = refl; prefix = λ rest. refl }

pub reads_close : Reads kind.Close (codes ")")
unfolding prefix_at token_at sign_at single_at
reads_close = record { head = 41; tail = []; whole = refl; prefix = λ rest. refl }

pub reads_open_list : Reads kind.OpenList (codes "[")
unfolding prefix_at token_at sign_at single_at
reads_open_list = record { head = 91; tail = []; whole = refl; prefix = λ rest. refl }

pub reads_close_list : Reads kind.CloseList (codes "]")
unfolding prefix_at token_at sign_at single_at
reads_close_list = record { head = 93; tail = []; whole = refl; prefix = λ rest. refl }

pub reads_equals : Reads kind.Equals (codes "=")
unfolding prefix_at token_at sign_at
reads_equals = record { head = 61; tail = []; whole = refl; prefix = λ rest. refl }

pub reads_at_most : Reads kind.AtMost (codes "=<")
unfolding prefix_at token_at sign_at
reads_at_most = record { head = 61; tail = 60 ∷ []; whole = refl; prefix = λ rest. refl }

pub reads_less : Reads kind.Less (codes "<")
unfolding prefix_at token_at sign_at single_at
reads_less = record { head = 60; tail = []; whole = refl; prefix = λ rest. refl }

pub reads_greater : Reads kind.Greater (codes ">")
unfolding prefix_at token_at sign_at
reads_greater = record { head = 62; tail = []; whole = refl; prefix = λ rest. refl }

pub reads_at_least : Reads kind.AtLeast (codes ">=")
unfolding prefix_at token_at sign_at
reads_at_least = record { head = 62; tail = 61 ∷ []; whole = refl; prefix = λ rest. refl }

pub reads_plus : Reads kind.Plus (codes "+")
unfolding prefix_at token_at sign_at single_at
reads_plus = record { head = 43; tail = []; whole = refl; prefix = λ rest. refl }

pub reads_minus : Reads kind.Minus (codes "-")
unfolding prefix_at token_at sign_at dash_at
reads_minus = record { head = 45; tail = []; whole = refl; prefix = λ rest. refl }

pub reads_times : Reads kind.Times (codes "*")
unfolding prefix_at token_at sign_at single_at
reads_times = record { head = 42; tail = []; whole = refl; prefix = λ rest. refl }

pub reads_true : Reads kind.True (codes "true")
unfolding prefix_at token_at name_at word_kind
reads_true = record { head = 116; tail = 114 ∷ 117 ∷ 101 ∷ []; whole = refl; prefix = λ rest. refl }

pub reads_fail : Reads kind.Fail (codes "fail")
unfolding prefix_at token_at name_at word_kind
reads_fail = record { head = 102; tail = 97 ∷ 105 ∷ 108 ∷ []; whole = refl; prefix = λ rest. refl }

pub reads_not : Reads kind.Not (codes "not")
unfolding prefix_at token_at name_at word_kind
reads_not = record { head = 110; tail = 111 ∷ 116 ∷ []; whole = refl; prefix = λ rest. refl }

pub reads_some : Reads kind.Some (codes "some")
unfolding prefix_at token_at name_at word_kind
reads_some = record { head = 115; tail = 111 ∷ 109 ∷ 101 ∷ []; whole = refl; prefix = λ rest. refl }

pub reads_call : Reads kind.Call (codes "call")
unfolding prefix_at token_at name_at word_kind
reads_call = record { head = 99; tail = 97 ∷ 108 ∷ 108 ∷ []; whole = refl; prefix = λ rest. refl }

pub reads_is : Reads kind.Is (codes "is")
unfolding prefix_at token_at name_at word_kind
reads_is = record { head = 105; tail = 115 ∷ []; whole = refl; prefix = λ rest. refl }

pub reads_pred : Reads kind.Pred (codes "pred")
unfolding prefix_at token_at name_at word_kind
reads_pred = record { head = 112; tail = 114 ∷ 101 ∷ 100 ∷ []; whole = refl; prefix = λ rest. refl }

pub reads_word_module : Reads kind.Name (codes "module")
unfolding prefix_at token_at name_at word_kind
reads_word_module = record { head = 109; tail = 111 ∷ 100 ∷ 117 ∷ 108 ∷ 101 ∷ []; whole = refl; prefix = λ rest. refl }

pub reads_word_type : Reads kind.Name (codes "type")
unfolding prefix_at token_at name_at word_kind
reads_word_type = record { head = 116; tail = 121 ∷ 112 ∷ 101 ∷ []; whole = refl; prefix = λ rest. refl }

pub reads_word_int : Reads kind.Name (codes "int")
unfolding prefix_at token_at name_at word_kind
reads_word_int = record { head = 105; tail = 110 ∷ 116 ∷ []; whole = refl; prefix = λ rest. refl }

pub reads_word_string : Reads kind.Name (codes "string")
unfolding prefix_at token_at name_at word_kind
reads_word_string = record { head = 115; tail = 116 ∷ 114 ∷ 105 ∷ 110 ∷ 103 ∷ []; whole = refl; prefix = λ rest. refl }

pub reads_word_io : Reads kind.Name (codes "io")
unfolding prefix_at token_at name_at word_kind
reads_word_io = record { head = 105; tail = 111 ∷ []; whole = refl; prefix = λ rest. refl }

pub reads_word_in : Reads kind.Name (codes "in")
unfolding prefix_at token_at name_at word_kind
reads_word_in = record { head = 105; tail = 110 ∷ []; whole = refl; prefix = λ rest. refl }

pub reads_word_out : Reads kind.Name (codes "out")
unfolding prefix_at token_at name_at word_kind
reads_word_out = record { head = 111; tail = 117 ∷ 116 ∷ []; whole = refl; prefix = λ rest. refl }

pub reads_word_di : Reads kind.Name (codes "di")
unfolding prefix_at token_at name_at word_kind
reads_word_di = record { head = 100; tail = 105 ∷ []; whole = refl; prefix = λ rest. refl }

pub reads_word_uo : Reads kind.Name (codes "uo")
unfolding prefix_at token_at name_at word_kind
reads_word_uo = record { head = 117; tail = 111 ∷ []; whole = refl; prefix = λ rest. refl }

pub reads_word_det : Reads kind.Name (codes "det")
unfolding prefix_at token_at name_at word_kind
reads_word_det = record { head = 100; tail = 101 ∷ 116 ∷ []; whole = refl; prefix = λ rest. refl }

pub reads_word_semidet : Reads kind.Name (codes "semidet")
unfolding prefix_at token_at name_at word_kind
reads_word_semidet = record { head = 115; tail = 101 ∷ 109 ∷ 105 ∷ 100 ∷ 101 ∷ 116 ∷ []; whole = refl; prefix = λ rest. refl }

pub reads_word_multi : Reads kind.Name (codes "multi")
unfolding prefix_at token_at name_at word_kind
reads_word_multi = record { head = 109; tail = 117 ∷ 108 ∷ 116 ∷ 105 ∷ []; whole = refl; prefix = λ rest. refl }

pub reads_word_nondet : Reads kind.Name (codes "nondet")
unfolding prefix_at token_at name_at word_kind
reads_word_nondet = record { head = 110; tail = 111 ∷ 110 ∷ 100 ∷ 101 ∷ 116 ∷ []; whole = refl; prefix = λ rest. refl }

pub reads_word_failure : Reads kind.Name (codes "failure")
unfolding prefix_at token_at name_at word_kind
reads_word_failure = record { head = 102; tail = 97 ∷ 105 ∷ 108 ∷ 117 ∷ 114 ∷ 101 ∷ []; whole = refl; prefix = λ rest. refl }
