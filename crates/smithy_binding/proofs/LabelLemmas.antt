-- The map from names to texts, a label at a time.
use Rattle.smithy_binding.proofs.Common.{◌≡◌, ap, ◌∙◌, ℕ, ◌+◌, ◌<◌, Bool, true, false, cond, List, length, get_or, map, find, drop, Option, Some, option_map, Bor, drop_more, btree_map_updates_str, BTreeMap, UpdatesBy, get_by, slice_cmp, nat_cmp, bytes_eq, found, same_text, text_in_map, label_pair}
use Rattle.std.specs.Cow.{cow_str_bytes}
use Rattle.smithy_binding.specs.declared.labels.Label.{Label}

-- the label at p goes in before those behind it
pub text-more : (labels : List Label) (p q : ℕ) (label : Label) (old new : BTreeMap (Bor (List ℕ)) (Bor (List ℕ))) (text : Bor (List ℕ)) → p < length labels → q ≡ p + 1
    → label ≡ get_or labels p label → text.now ≡ cow_str_bytes label.text
    → UpdatesBy (λ x y. slice_cmp nat_cmp x.now y.now) (λ k. slice_cmp nat_cmp label.name.now k.now) old new (Some text)
    → ((name : List ℕ) → text_in_map old name ≡ found name (map label_pair (drop q labels)))
    → (name : List ℕ) → text_in_map new name ≡ found name (map label_pair (drop p labels))
unfolding text_in_map
text-more labels p q label old new text l e at same updates before name =
    rw (drop_more labels p label l, ← at, ← e)
    (ap (λ (o : Option (Bor (List ℕ))). option_map (λ t. t.now) o) (btree_map_updates_str label.name.now old new (Some text) updates name)
    ∙ go (bytes_eq label.name.now name) (before name))
  where
    go : (is_first : Bool) → text_in_map old name ≡ found name (map label_pair (drop q labels))
        → option_map (λ t. t.now) (cond is_first (Some text) (get_by (λ k. slice_cmp nat_cmp name k.now) old))
        ≡ option_map (λ p. p.1) (cond is_first (Some (label_pair label)) (find (λ p. same_text p.0 name) (map label_pair (drop q labels))))
    go true rest = ap (λ (t : List ℕ). Some t) same
    go false rest = rest
