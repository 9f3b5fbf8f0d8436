-- The texts of a label are those of its member's first write.
use Rattle.smithy_unambiguity.proofs.Common.{◌≡◌, ◌≢◌, refl, sym, ◌∙◌, ap, ℕ, Bool, false, cond, ◌&&◌, List, [], flat_map, Option, Some, None, unwrap_or, option_map_or, same_text, Schema, member_at, name_of, Binding, to_label, binding_of, Value, Write, Resolved, firsts, values_at, labels, labelled_at, texts, labelled, same_text_self, and_right, false_from_ne_true}
use Rattle.std.specs.Cmp.Lexicographic.{same_text as same_from_test}
use Rattle.smithy_unambiguity.proofs.ByMember.{at_member, first_value, first_texts, only_member, none_given}
use Rattle.smithy_unambiguity.proofs.ByName.{values_at-flat_map, under_name}
use Rattle.smithy_unambiguity.proofs.Members.{HasApartNames}
use Rattle.smithy_unambiguity.proofs.Traits.{stands_at}

-- what the labels of one write give at a name
abbrev spoken : List ℕ → Resolved → List (List ℕ)
spoken name r = values_at name (labelled r)

labels_at_name : (schema : Schema) (ws : List Write) (name : List ℕ) → values_at name (labels schema ws) ≡ flat_map (spoken name) (firsts schema ws)
unfolding labels
labels_at_name schema ws name = values_at-flat_map name labelled (firsts schema ws)

-- a label member of this name
abbrev pub is_label_named : List ℕ → Schema → Bool
is_label_named name m = stands_at to_label (binding_of m) && same_text (name_of m) name

spoken_is : (name : List ℕ) (b : Binding) (m : Schema) (v : Value) → values_at name (labelled_at b m v) ≡ cond (stands_at to_label b && same_text (name_of m) name) (unwrap_or (texts m v) []) []
spoken_is name to_label m v = under_name name (name_of m) (same_text (name_of m) name) (unwrap_or (texts m v) []) refl
spoken_is name _ m v = refl

nothing_spoken : (name : List ℕ) (r : Resolved) → is_label_named name r.member ≡ false → spoken name r ≡ []
nothing_spoken name r other = spoken_is name (binding_of r.member) r.member r.value ∙ ap (λ t. cond t (unwrap_or (texts r.member r.value) []) []) other

-- where no label has the name, nothing stands there
pub no_labels : (schema : Schema) (ws : List Write) (name : List ℕ) → ((i : ℕ) (m : Schema) → member_at schema i ≡ Some m → is_label_named name m ≡ false) → values_at name (labels schema ws) ≡ []
no_labels schema ws name none = labels_at_name schema ws name ∙ none_given (spoken name) schema ws (λ r at. nothing_spoken name r (none r.position r.member at))

-- the texts of a label are those of its member's first write
pub label_of_first : (schema : Schema) → HasApartNames schema → (ws : List Write) (i : ℕ) (m : Schema) → member_at schema i ≡ Some m → binding_of m ≡ to_label
    → values_at (name_of m) (labels schema ws) ≡ first_texts m (first_value schema ws i)
label_of_first schema apart ws i m at label = labels_at_name schema ws (name_of m) ∙ only_member (spoken (name_of m)) schema ws i m at others ∙ go (first_value schema ws i)
  where
    others : (r : Resolved) → member_at schema r.position ≡ Some r.member → r.position ≢ i → spoken (name_of m) r ≡ []
    others r at_r other =
        nothing_spoken (name_of m) r
        (and_right (stands_at to_label (binding_of r.member)) (same_text (name_of r.member) (name_of m))
        (false_from_ne_true (same_text (name_of r.member) (name_of m)) (λ e. other (apart r.position i r.member m at_r at (same_from_test (name_of r.member) (name_of m) (sym e))))))

    go : (o : Option Value) → option_map_or (λ v. spoken (name_of m) (at_member i m v)) o [] ≡ first_texts m o
    go None = refl
    go (Some v) =
        ap (λ b. values_at (name_of m) (labelled_at b m v)) label ∙ spoken_is (name_of m) to_label m v ∙ ap (λ t. cond t (unwrap_or (texts m v) []) []) (same_text_self (name_of m))
