-- Which values fit a member.
use Rattle.smithy_binding.proofs.Common.{◌≡◌, refl, Bool, true, false, ◌||◌, Some, ShapeType, Schema, Value, scalar, null, is_null, fits, fits_member, written_kind}

not_null : (v : Value) (k : ShapeType) → written_kind v ≡ Some k → is_null v ≡ false
not_null (scalar null) k e = absurd (cc e)
not_null _ k e = refl

or_false : (b : Bool) → (b || false) ≡ b
or_false true = refl
or_false false = refl

-- a value that a call with a kind wrote
pub fits-some : (m : Schema) (v : Value) (k : ShapeType) → written_kind v ≡ Some k → fits_member m v ≡ fits m.node.kind v
fits-some m v k e = rw (not_null v k e) (or_false (fits m.node.kind v))
