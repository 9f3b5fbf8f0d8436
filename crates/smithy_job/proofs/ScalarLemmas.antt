-- Stored scalars.
use Rattle.std.proofs.Common.{◌≡◌, refl, ℕ, List, Bool, true, Some, option_map, cond, Ok, Err}
use Rattle.smithy_types.specs.BigNumbers.{is_big_integer_in_range, is_big_decimal_in_range}
use Rattle.std.specs.Option.{option_map_or}
use Rattle.base64.specs.Engines.{standard}
use Rattle.base64.specs.GeneralPurpose.{decode_of, decoded_of}
use Rattle.base64.specs.declared.decode.DecodeError.{DecodeError}
use Rattle.smithy_types.specs.DocumentView.{view as document_view}
use Rattle.smithy_types.specs.declared.document.Document.{Document as Stored}
use Rattle.serde_json.specs.Data.{Data}
use Rattle.smithy_serde.specs.Values.{text, big_integer, big_decimal, blob, boolean, null, document}
use Rattle.smithy_serde.specs.StoredValues.{value_in, IsDefined}
use Rattle.smithy_serde.specs.declared.value.ShapeValue.TheVariants as stored
use Rattle.smithy_json.specs.FromData.{of_data}
use Rattle.smithy_job.specs.views.Tables.{IsScalar, Has}
use Rattle.smithy_job.proofs.CanonicalLemmas.{of_data-canonical}

pub big_is : (n t : List ℕ) → n ≡ t → IsScalar (stored.BigInteger n) (big_integer t)
unfolding value_in IsDefined
big_is n t e = record { value = λ table. rw e refl; defined = λ table. tt }

pub text_is : (n t : List ℕ) → n ≡ t → IsScalar (stored.String n) (text t)
unfolding value_in IsDefined
text_is n t e = record { value = λ table. rw e refl; defined = λ table. tt }

pub blob_is : (n t : List ℕ) → n ≡ t → IsScalar (stored.Blob n) (blob t)
unfolding value_in IsDefined
blob_is n t e = record { value = λ table. rw e refl; defined = λ table. tt }

-- a text in base64, and one that is none

pub blob_read : (n bytes t : List ℕ) → decode_of standard t ≡ Ok bytes → n ≡ bytes → IsScalar (stored.Blob n) (option_map_or blob (decoded_of standard t) (text t))
unfolding decoded_of
blob_read n bytes t d e = rw d (blob_is n bytes e)

pub blob_unread : (t : List ℕ) (error : DecodeError) → decode_of standard t ≡ Err error → text t ≡ option_map_or blob (decoded_of standard t) (text t)
unfolding decoded_of
blob_unread t error d = rw d refl

pub integer_is : (n t : List ℕ) → n ≡ t → is_big_integer_in_range t ≡ true → IsScalar (stored.BigInteger n) (cond (is_big_integer_in_range t) (big_integer t) (text t))
integer_is n t e in_range = rw in_range (big_is n t e)

pub big_decimal_is : (n t : List ℕ) → n ≡ t → IsScalar (stored.BigDecimal n) (big_decimal t)
unfolding value_in IsDefined
big_decimal_is n t e = record { value = λ table. rw e refl; defined = λ table. tt }

pub decimal_is : (n t : List ℕ) → n ≡ t → is_big_decimal_in_range t ≡ true → IsScalar (stored.BigDecimal n) (cond (is_big_decimal_in_range t) (big_decimal t) (text t))
decimal_is n t e in_range = rw in_range (big_decimal_is n t e)

pub null_is : IsScalar stored.Null null
unfolding value_in IsDefined
null_is = record { value = λ table. refl; defined = λ table. tt }

pub boolean_is : (b : Bool) → IsScalar (stored.Boolean b) (boolean b)
unfolding value_in IsDefined
boolean_is b = record { value = λ table. refl; defined = λ table. tt }

-- a document that was read is canonical
pub document_is : (d : Data) (x : Stored) → of_data d ≡ Some (document_view x) → Has (option_map document (of_data d)) (IsScalar (stored.Document x))
unfolding value_in IsDefined
document_is d x e = rw e (record { value = λ table. refl; defined = λ table. rw e at (of_data-canonical d) })
