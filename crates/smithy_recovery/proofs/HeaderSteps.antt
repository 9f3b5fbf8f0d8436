-- The value of a header, step by step.
use Rattle.std.proofs.Common.{◌≡◌, refl, sym, ap, cond, ℕ, Bool, true, false, ◌==◌, List, [], ◌∷◌, length, Some, None, option_map}
use Rattle.std.specs.Str.{is_utf8}
use Rattle.smithy_http.specs.HeaderValues.{text_of}
use Rattle.smithy_schema.specs.Nodes.{Schema}
use Rattle.smithy_strings.specs.declared.wire.Place.TheVariants.{Header}
use Rattle.smithy_ids.specs.declared.shape_type.ShapeType.TheVariants as kind
use Rattle.smithy_ids.specs.Kinds.{same_kind}
use Rattle.smithy_recovery.specs.QueryParts.{query_list, query_scalar, query_value, query_part}
use Rattle.smithy_recovery.specs.HeaderParts.{text_value, list_of_header, scalar_of_header, only_of, header_value, header_part}

pub scalar_some : (m : Schema) (bytes text : List ℕ) → Some text ≡ text_of bytes → text_value m Header text ≡ scalar_of_header m bytes
scalar_some m bytes text e = go (is_utf8 bytes) e
  where
    go : (t : Bool) → Some text ≡ cond t (Some bytes) None → text_value m Header text ≡ cond t (text_value m Header bytes) None
    go true h = let same : text ≡ bytes = cc h in ap (text_value m Header) same
    go false h = absurd (cc h)

pub scalar_none : (m : Schema) (bytes : List ℕ) → None ≡ text_of bytes → scalar_of_header m bytes ≡ None
scalar_none m bytes e = go (is_utf8 bytes) e
  where
    go : (t : Bool) → None ≡ cond t (Some bytes) None → cond t (text_value m Header bytes) None ≡ None
    go true h = absurd (cc h)
    go false h = refl

pub only_is : (values : List (List ℕ)) (v : List ℕ) → only_of values ≡ Some (Some v) → values ≡ v ∷ []
only_is [] v e = let none : None ≡ Some v = cc e in absurd (cc none)
only_is (w ∷ []) v e = let one : Some w ≡ Some v = cc e in let same : w ≡ v = cc one in ap (λ x. x ∷ []) same
only_is (w ∷ x ∷ more) v e = absurd (cc e)

pub part_of_one : (m : Schema) (values : List (List ℕ)) (v : List ℕ) → only_of values ≡ Some (Some v) → option_map (λ v. Some v) (header_value m v) ≡ header_part m values
part_of_one m values v e = ap (header_part m) (sym (only_is values v e))

pub part_of_none : (m : Schema) (values : List (List ℕ)) → only_of values ≡ Some None → header_part m values ≡ Some None
part_of_none m [] e = refl
part_of_none m (w ∷ []) e = let one : Some w ≡ None = cc e in absurd (cc one)
part_of_none m (w ∷ x ∷ more) e = absurd (cc e)

-- no list
pub value_of_other : (m : Schema) (bytes : List ℕ) → same_kind m.node.kind kind.List ≡ false → scalar_of_header m bytes ≡ header_value m bytes
value_of_other m bytes other = ap (λ b. cond b (list_of_header m bytes) (scalar_of_header m bytes)) (sym other)

pub query_of_other : (m : Schema) (texts : List (List ℕ)) → same_kind m.node.kind kind.List ≡ false → query_scalar m texts ≡ query_value m texts
query_of_other m texts other = ap (λ b. cond b (query_list m texts) (query_scalar m texts)) (sym other)

pub query_of_some : (m : Schema) (texts : List (List ℕ)) → (length texts == 0) ≡ false → option_map (λ v. Some v) (query_value m texts) ≡ query_part m texts
query_of_some m [] some = absurd (cc some)
query_of_some m (t ∷ ts) some = refl
