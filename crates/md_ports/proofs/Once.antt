-- Lists of names without repetitions, built from the front or by adding at the end.
use Rattle.std.proofs.Common.{◌≡◌, refl, sym, ap, ◌∙◌, subst, arith, ℕ, suc, ◌≤◌, ◌<◌, Bool, true, false, cond, not, ◌||◌, List, [], ◌∷◌, ◌++◌, length, map, append-nil, append_assoc, length-append}
use Rattle.std.specs.List.{list_any}
use Rattle.std.proofs.lemmas.List.{length-map}
use Rattle.std.proofs.lemmas.List.Elements.{filter-append}
use Rattle.std.specs.Str.{bytes_eq}
use Rattle.md_hlds.specs.declared.program.Pred.{Pred}
use Rattle.md_hlds.specs.Hlds.{Procedure, procedures_of}
use Rattle.md_ports.specs.Modules.{without, each_once, with_module}
use Rattle.md_ports.proofs.Bytes.{bytes_same, bytes_is}

-- names added one after the other
abbrev pub with_modules : List (List ℕ) → List (List ℕ) → List (List ℕ)
with_modules ns [] = ns
with_modules ns (m ∷ ms) = with_modules (with_module m ns) ms

without_step : (m x : List ℕ) (ns : List (List ℕ)) (b : Bool) → bytes_eq m x ≡ b → without m (x ∷ ns) ≡ cond b (without m ns) (x ∷ without m ns)
without_step m x ns true is = rw is refl
without_step m x ns false is = rw is refl

-- a name that differs from the one that is left out stays as it was
pub any_without : (x m : List ℕ) (ns : List (List ℕ)) → bytes_eq x m ≡ false → list_any (bytes_eq x) (without m ns) ≡ list_any (bytes_eq x) ns
any_without x m [] other = refl
any_without x m (n ∷ ns) other = here (bytes_eq m n) refl (any_without x m ns other)
  where
    here : (b : Bool) → bytes_eq m n ≡ b → list_any (bytes_eq x) (without m ns) ≡ list_any (bytes_eq x) ns
        → list_any (bytes_eq x) (without m (n ∷ ns)) ≡ list_any (bytes_eq x) (n ∷ ns)
    here true is rest =
        let same : m ≡ n = bytes_is m n is in
        let apart : bytes_eq x n ≡ false = subst (λ (k : List ℕ). bytes_eq x k ≡ false) same other in
        ap (list_any (bytes_eq x)) (without_step m n ns true is)
        ∙ (rest ∙ sym (ap (λ (b : Bool). b || list_any (bytes_eq x) ns) apart))
    here false is rest =
        ap (list_any (bytes_eq x)) (without_step m n ns false is)
        ∙ ap (λ (b : Bool). bytes_eq x n || b) rest

without_append : (m : List ℕ) (ns ks : List (List ℕ)) → without m (ns ++ ks) ≡ without m ns ++ without m ks
without_append m ns ks = filter-append (λ (n : List ℕ). not (bytes_eq m n)) ns ks

without_added : (m x : List ℕ) (ns : List (List ℕ)) (b : Bool) → bytes_eq x m ≡ false → list_any (bytes_eq x) ns ≡ b
    → without m (with_module x ns) ≡ cond b (without m ns) (without m ns ++ x ∷ [])
without_added m x ns true other has = rw has refl
without_added m x ns false other has =
    let apart : bytes_eq m x ≡ false = differ m x other in
    rw has (without_append m ns (x ∷ []) ∙ ap (λ (xs : List (List ℕ)). without m ns ++ xs) (without_step m x [] false apart))
  where
    differ : (m x : List ℕ) → bytes_eq x m ≡ false → bytes_eq m x ≡ false
    differ m x other = turned (bytes_eq m x) refl
      where
        turned : (b : Bool) → bytes_eq m x ≡ b → b ≡ false
        turned false is = refl
        turned true is =
            let e : m ≡ x = bytes_is m x is in
            let same : bytes_eq x m ≡ true = subst (λ (k : List ℕ). bytes_eq x k ≡ true) (sym e) (bytes_same x) in
            absurd (cc)

dropped : (m x : List ℕ) (ns : List (List ℕ)) → m ≡ x → without m (with_module x ns) ≡ without m ns
dropped m x ns same = here (list_any (bytes_eq x) ns) refl
  where
    here : (b : Bool) → list_any (bytes_eq x) ns ≡ b → without m (with_module x ns) ≡ without m ns
    here true has = rw has refl
    here false has =
        let is : bytes_eq m x ≡ true = subst (λ (k : List ℕ). bytes_eq m k ≡ true) same (bytes_same m) in
        rw has
        (without_append m ns (x ∷ [])
        ∙ (ap (λ (xs : List (List ℕ)). without m ns ++ xs) (without_step m x [] true is) ∙ append-nil (without m ns)))

kept : (x m : List ℕ) (ns : List (List ℕ)) (c : Bool) → bytes_eq x m ≡ false → list_any (bytes_eq x) ns ≡ c
    → m ∷ without m (with_module x ns) ≡ with_module x (m ∷ without m ns)
kept x m ns true other has =
    let among : list_any (bytes_eq x) (without m ns) ≡ true = any_without x m ns other ∙ has in
    ap (λ (ks : List (List ℕ)). m ∷ ks) (without_added m x ns true other has) ∙ sym (rw (other, among) refl)
kept x m ns false other has =
    let among : list_any (bytes_eq x) (without m ns) ≡ false = any_without x m ns other ∙ has in
    ap (λ (ks : List (List ℕ)). m ∷ ks) (without_added m x ns false other has) ∙ sym (rw (other, among) refl)

-- a name added after another that stays once
beside : (x m : List ℕ) (ns : List (List ℕ)) (b : Bool) → bytes_eq x m ≡ b → m ∷ without m (with_module x ns) ≡ with_module x (m ∷ without m ns)
beside x m ns true is = ap (λ (ks : List (List ℕ)). m ∷ ks) (dropped m x ns (sym (bytes_is x m is))) ∙ sym (rw is refl)
beside x m ns false is = kept x m ns (list_any (bytes_eq x) ns) is refl

-- one name more at the end
pub once_more : (x : List ℕ) (ms : List (List ℕ)) → each_once (ms ++ x ∷ []) ≡ with_module x (each_once ms)
once_more x [] = refl
once_more x (m ∷ ms) =
    ap (λ (ns : List (List ℕ)). m ∷ without m ns) (once_more x ms) ∙ beside x m (each_once ms) (bytes_eq x m) refl

-- names added one after the other are those of the whole list
pub once_all : (ms ns : List (List ℕ)) → with_modules (each_once ms) ns ≡ each_once (ms ++ ns)
once_all ms [] = ap each_once (sym (append-nil ms))
once_all ms (n ∷ ns) =
    ap (λ (ks : List (List ℕ)). with_modules ks ns) (sym (once_more n ms))
    ∙ (once_all (ms ++ n ∷ []) ns ∙ ap each_once (append_assoc ms (n ∷ []) ns))

length_without : (m : List ℕ) (ns : List (List ℕ)) → length (without m ns) ≤ length ns
length_without m [] = omega arith
length_without m (n ∷ ns) = here (bytes_eq m n) refl (length_without m ns)
  where
    here : (b : Bool) → bytes_eq m n ≡ b → length (without m ns) ≤ length ns → length (without m (n ∷ ns)) ≤ suc (length ns)
    here true is le = rw is (omega (arith, le))
    here false is le = rw is (omega (arith, le))

pub length_once : (ms : List (List ℕ)) → length (each_once ms) ≤ length ms
length_once [] = omega arith
length_once (m ∷ ms) = omega (arith, length_without m (each_once ms), length_once ms)

-- a first name, and others added after it
pub once_first : (m : List ℕ) (ns first none : List (List ℕ)) → none ≡ [] → first ≡ with_module m none → with_modules first ns ≡ each_once (m ∷ ns)
once_first m ns first none empty is = rw (is, empty) (once_all (m ∷ []) ns)

length_with : (m : List ℕ) (ns : List (List ℕ)) → length ns ≤ length (with_module m ns)
length_with m ns = here (list_any (bytes_eq m) ns)
  where
    here : (b : Bool) → length ns ≤ length (cond b ns (ns ++ m ∷ []))
    here true = omega arith
    here false = omega (arith, length-append ns (m ∷ []))

grows : (ns ms : List (List ℕ)) → length ns ≤ length (with_modules ns ms)
grows ns [] = omega arith
grows ns (m ∷ ms) = omega (arith, length_with m ns, grows (with_module m ns) ms)

length_procedures : (ps : List Pred) → length (procedures_of ps) ≡ length ps
length_procedures [] = refl
length_procedures (p ∷ ps) = ap suc (length_procedures ps)

-- the modules of so many predicates are at most one more
pub few_modules : (m : List ℕ) (f : Procedure → List ℕ) (ps : List Pred) (ns ms : List (List ℕ)) → with_modules ns ms ≡ each_once (m ∷ map f (procedures_of ps))
    → length ps < 4294967296 → length ns ≤ 4294967296
few_modules m f ps ns ms are few =
    omega (
      arith,
      grows ns ms,
      ap length are,
      length_once (m ∷ map f (procedures_of ps)),
      length-map (procedures_of ps) f,
      length_procedures ps,
      few,
    )
