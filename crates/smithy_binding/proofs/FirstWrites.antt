-- The fault of the first write of a member in a header, the query or a label.
use Rattle.smithy_binding.proofs.Common.{◌≡◌, refl, ap, ◌∙◌, ℕ, true, List, [], ◌∷◌, Option, Some, None, option_map, is_some, if◌then◌else◌, option_or, unless, Schema, Binding, to_header, to_query, to_label, binding_of, Value, list, texts, inserted_at, place_at, member_text, Fault, item_fault, key_fault, value_fault, pairs_fault, is_placed_at, is_text_binding, first_fault, IsSingle, no_year}
use Rattle.smithy_serde.specs.Values as value

pub text-placed : (b : Binding) → is_text_binding b ≡ true → is_placed_at b ≡ true
text-placed (to_header name) e = refl
text-placed (to_query name) e = refl
text-placed to_label e = refl
text-placed _ e = absurd (cc e)

-- the fault of a value comes first
pub first_fault-value : (m : Schema) (v : Value) (f : Fault) → is_placed_at (binding_of m) ≡ true → value_fault m v ≡ Some f → first_fault m v ≡ Some f
first_fault-value m v f placed some =
    ap (λ test. if test then option_or (value_fault m v) (pairs_fault m (inserted_at (binding_of m) m v)) else None) placed
    ∙ ap (λ o. option_or o (pairs_fault m (inserted_at (binding_of m) m v))) some

-- a value that is no list and no map has no parts

item_fault-single : (m : Schema) (v : Value) → IsSingle v → item_fault m v ≡ None
item_fault-single m (list ws) p = absurd p
item_fault-single m (value.map ws) p = absurd p
item_fault-single m _ p = refl

key_fault-single : (m : Schema) (v : Value) → IsSingle v → key_fault m v ≡ None
key_fault-single m (list ws) p = absurd p
key_fault-single m (value.map ws) p = absurd p
key_fault-single m _ p = refl

-- and one text or none
texts-single : (m : Schema) (v : Value) → IsSingle v → texts m v ≡ option_map (λ t. t ∷ []) (member_text (place_at (binding_of m)) m v)
texts-single m (list ws) p = absurd p
texts-single m (value.map ws) p = absurd p
texts-single m _ p = refl

faults : Option Fault → Option Fault → Option (List (List ℕ)) → Option Fault
faults item key ts = option_or item (option_or key (unless (is_some ts) no_year))

-- where it has none, that is its fault
pub single-no_year : (m : Schema) (v : Value) → IsSingle v → member_text (place_at (binding_of m)) m v ≡ None → value_fault m v ≡ Some no_year
unfolding faults
single-no_year m v p e =
    ap (λ o. faults o (key_fault m v) (texts m v)) (item_fault-single m v p)
    ∙ ap (λ o. faults None o (texts m v)) (key_fault-single m v p)
    ∙ ap (faults None None) (texts-single m v p ∙ ap (option_map (λ t. t ∷ [])) e)
