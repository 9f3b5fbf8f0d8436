-- Documents read as whole numbers in a range.
use Rattle.std.specs.Prelude.{ℤ, int_le, int_lt, Bool, ◌&&◌, Result, Ok, Err, if◌then◌else◌}
use Rattle.smithy_document.specs.Words.{ShapeType, Document, Number, integer_of_number, number_text, mismatch, document_word, SerdeError, NumericCoercionOverflow}
use Rattle.smithy_types.specs.Documents as doc

abbrev pub is_within : ℤ → ℤ → ℤ → Bool
is_within least limit z = int_le least z && int_lt z limit

-- a number that is out of the range of the kind
abbrev pub overflow : ShapeType → Number → SerdeError
overflow k n = NumericCoercionOverflow (document_word k) (number_text n)

abbrev pub whole_of_document : ShapeType → ℤ → ℤ → Document → Result ℤ SerdeError
whole_of_document k least limit (doc.number n) =
    if is_within least limit (integer_of_number n) then Ok (integer_of_number n) else Err (overflow k n)
whole_of_document k least limit d = Err (mismatch k d)
