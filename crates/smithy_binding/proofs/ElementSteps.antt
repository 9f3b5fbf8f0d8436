-- The elements of a list, an element at a time.
use Rattle.smithy_binding.proofs.Common.{◌≡◌, refl, ap, sym, ◌∙◌, ℕ, ◌+◌, Bool, true, false, ◌==◌, List, [], ◌∷◌, ◌++◌, append_assoc, length, arith, Option, Some, None, option_map, option_and_then, eqb-true, append-nil, map-append, length-append, each, ShapeType, Schema, Table, fits, label_at, value_in, listed, Write, list_of, OneWrite, pairs_with, wrong_item_kind, element_fault, pair_text, queries}

-- an element further
module _ (t : Table) (m : Schema) (kind : ShapeType) (x : OneWrite) (rest more : List OneWrite) (steps : rest ≡ x ∷ more) where
  pub fault-more : fits kind (value_in t x.value) ≡ true → element_fault m kind (listed t rest) ≡ element_fault m kind (listed t more)
  fault-more fit = rw (steps, fit) refl

  pub fault-stop : fits kind (value_in t x.value) ≡ false → element_fault m kind (listed t rest) ≡ Some (wrong_item_kind m kind (value_in t x.value))
  fault-stop wrong = rw (steps, wrong) refl

pub fault-end : (t : Table) (m : Schema) (kind : ShapeType) (rest : List OneWrite) → rest ≡ [] → element_fault m kind (listed t rest) ≡ None
fault-end t m kind rest none = rw none refl

-- the writes of what is left of a list
abbrev pub left : Table → List OneWrite → List Write
left t rest = list_of (listed t rest)

-- the texts of all elements are these, and those of the elements that are left
abbrev pub AreTexts : (Write → Option (List ℕ)) → List Write → List Write → List (List ℕ) → Type 0
AreTexts f ws rest ts = each f ws ≡ option_map (λ us. ts ++ us) (each f rest)

pub AreTexts-none : (f : Write → Option (List ℕ)) (ws rest : List Write) → ws ≡ rest → AreTexts f ws rest []
AreTexts-none f ws rest e = ap (each f) e ∙ go (each f rest)
  where
    go : (o : Option (List (List ℕ))) → o ≡ option_map (λ us. [] ++ us) o
    go None = refl
    go (Some ts) = refl

-- one more
module _ (f : Write → Option (List ℕ)) (t : Table) (ws : List Write) (ts : List (List ℕ)) (x : OneWrite) (rest more : List OneWrite) (steps : rest ≡ x ∷ more) (all : AreTexts f ws (left t rest) ts) where
  abbrev here : Write
  here = record { label = label_at t x.node.0; value = value_in t x.value }

  abbrev with_here : Option (List ℕ) → Option (List (List ℕ))
  with_here o = option_map (λ us. ts ++ us) (option_and_then (λ y. option_map (λ ys. y ∷ ys) (each f (left t more))) o)

  so_far : each f ws ≡ with_here (f here)
  so_far = all ∙ ap (λ xs. option_map (λ us. ts ++ us) (each f (left t xs))) steps

  pub AreTexts-more : (text : List ℕ) → f here ≡ Some text → AreTexts f ws (left t more) (ts ++ text ∷ [])
  AreTexts-more text e = so_far ∙ ap with_here e ∙ go (each f (left t more))
    where
      go : (o : Option (List (List ℕ))) → option_map (λ us. ts ++ us) (option_map (λ ys. text ∷ ys) o) ≡ option_map (λ us. (ts ++ text ∷ []) ++ us) o
      go None = refl
      go (Some us) = ap (λ xs. Some xs) (sym (append_assoc ts (text ∷ []) us))

  pub AreTexts-stop : f here ≡ None → each f ws ≡ None
  AreTexts-stop e = so_far ∙ ap with_here e

pub AreTexts-end : (f : Write → Option (List ℕ)) (t : Table) (ws : List Write) (ts : List (List ℕ)) (rest : List OneWrite) → rest ≡ [] → AreTexts f ws (left t rest) ts → each f ws ≡ Some ts
AreTexts-end f t ws ts rest none all = all ∙ ap (λ xs. option_map (λ us. ts ++ us) (each f (left t xs))) none ∙ ap (λ xs. Some xs) (append-nil ts)

-- what is written of the texts so far
pub record HasWritten (f : Write → Option (List ℕ)) (ws rest : List Write) (made : List (List ℕ) → List ℕ) (out : List ℕ) : Type 0 where
  pub texts : List (List ℕ)
  pub are : AreTexts f ws rest texts
  pub written : out ≡ made texts

-- one more is written
abbrev pub written-more : {f : Write → Option (List ℕ)} {ws : List Write} {made : List (List ℕ) → List ℕ} {old new text : List ℕ} {x : OneWrite} {rest more : List OneWrite} (t : Table) → rest ≡ x ∷ more
    → (so_far : HasWritten f ws (left t rest) made old) → f (record { label = label_at t x.node.0; value = value_in t x.value }) ≡ Some text → new ≡ made (so_far.texts ++ text ∷ []) → HasWritten f ws (left t more) made new
written-more {f} {ws} {text = text} t steps so_far found e = record { texts = so_far.texts ++ text ∷ []; are = AreTexts-more f t ws so_far.texts _ _ _ steps so_far.are text found; written = e }

-- the first text is written no more
pub some_texts : (ts : List (List ℕ)) (t : List ℕ) → false ≡ (length (ts ++ t ∷ []) == 0)
some_texts ts t = go (length (ts ++ t ∷ []) == 0) refl
  where
    go : (b : Bool) → (length (ts ++ t ∷ []) == 0) ≡ b → false ≡ b
    go false e = refl
    go true e =
        let count : length (ts ++ t ∷ []) ≡ length ts + 1 = length-append ts (t ∷ []) in
        let none : length (ts ++ t ∷ []) ≡ 0 = eqb-true (length (ts ++ t ∷ [])) 0 e in
        absurd (omega (arith, count, none))

pub queries-append : (ps qs : List (List ℕ × List ℕ)) → queries (ps ++ qs) ≡ queries ps ++ queries qs
queries-append [] qs = refl
queries-append (p ∷ ps) qs =
    ap (λ xs. (38 ∷ []) ++ (pair_text p ++ xs)) (queries-append ps qs) ∙ ap (λ xs. (38 ∷ []) ++ xs) (sym (append_assoc (pair_text p) (queries ps) (queries qs)))

-- one more pair
pub queries-push : (old now new name t : List ℕ) (ts : List (List ℕ)) → now ≡ old ++ queries (pairs_with name ts) → new ≡ now ++ queries ((name, t) ∷ []) → new ≡ old ++ queries (pairs_with name (ts ++ t ∷ []))
queries-push old now new name t ts e f =
    f ∙ ap (λ xs. xs ++ queries ((name, t) ∷ [])) e
    ∙ append_assoc old (queries (pairs_with name ts)) (queries ((name, t) ∷ []))
    ∙ ap (λ xs. old ++ xs) (sym (queries-append (pairs_with name ts) ((name, t) ∷ [])))
    ∙ ap (λ ps. old ++ queries ps) (sym (map-append (λ (t : List ℕ). (name, t)) ts (t ∷ [])))
