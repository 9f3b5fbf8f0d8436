-- Nodes of scalar kinds and of Blob take what was written as their own kind.
use Rattle.smithy_unambiguity.proofs.Common.{◌≡◌, sym, ap, Bool, true, false, ◌||◌, Option, Some, None, option_map, unwrap_or, ShapeType, is_scalar, same_kind, one_kind, kind_takes}
use Rattle.smithy_ids.specs.declared.shape_type.ShapeType.TheVariants as kind

abbrev pub is_flat : ShapeType → Bool
is_flat k = is_scalar k || same_kind k kind.Blob

takes_flat : (k written : ShapeType) → is_flat k ≡ true → kind_takes k written ≡ true → written ≡ k
takes_flat kind.Union written flat e = absurd (cc flat)
takes_flat k written flat e = sym (one_kind k written e)

pub taken : (k : ShapeType) (o : Option ShapeType) → is_flat k ≡ true → unwrap_or (option_map (kind_takes k) o) false ≡ true → o ≡ Some k
taken k None flat e = absurd (cc e)
taken k (Some written) flat e = ap Some (takes_flat k written flat e)
