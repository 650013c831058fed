-- The words of a text, one byte after the other.
use Rattle.std.proofs.Common.{◌≡◌, ℕ, List, [], ◌∷◌, ◌++◌, sym, ap, ◌∙◌, append_assoc, inl, inr, eqb, cond}
use Rattle.std.proofs.lemmas.Bool.{cases_Bool}
use Rattle.std.proofs.lemmas.List.{append-nil}
use Rattle.md_table.specs.Anchors.{behind_html, text_html, word_html, words_of}

-- the HTML of the rest of a text behind the first bytes of a word, before which another one stands
abbrev pub rest_html : (by before word : List ℕ) → List ℕ → List ℕ
rest_html by before word [] = word_html by before word
rest_html by before word (b ∷ bs) = cond (eqb b 32) (word_html by before word ++ 32 ∷ rest_html by word [] bs) (rest_html by before (word ++ b ∷ []) bs)

-- a word, and the words behind it
abbrev pub words_html : (by before word : List ℕ) → List (List ℕ) → List ℕ
words_html by before word words = word_html by before word ++ behind_html by word words

pub rest_is : (by before word text : List ℕ) → rest_html by before word text ≡ words_html by before (word ++ (words_of text).0) (words_of text).1
rest_is by before word [] =
    sym (append-nil (word_html by before word)) ∙ ap (λ (w : List ℕ). words_html by before w []) (sym (append-nil word))
rest_is by before word (b ∷ bs) =
    elim (cases_Bool (eqb b 32)) [
      | inl space ↦
          rw space
          (ap (λ (xs : List ℕ). word_html by before word ++ 32 ∷ xs) (rest_is by word [] bs)
          ∙ ap (λ (w : List ℕ). words_html by before w ((words_of bs).0 ∷ (words_of bs).1)) (sym (append-nil word)))
      | inr other ↦
          rw other
          (rest_is by before (word ++ b ∷ []) bs
          ∙ ap (λ (w : List ℕ). words_html by before w (words_of bs).1) (append_assoc word (b ∷ []) (words_of bs).0))
    ]

pub text_is : (by text : List ℕ) → rest_html by [] [] text ≡ text_html by text
text_is by text = rest_is by [] [] text
