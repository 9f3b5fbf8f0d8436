-- What the document of a scalar gives to a read by a node that takes the scalar.
use Rattle.std.proofs.Common.{ltb-true, unwrap_or}
use Rattle.std.specs.Prelude.{int_le, int_lt, neg_ℤ}
use Rattle.smithy_document.proofs.Common.{◌≡◌, refl, sym, ap, ◌∙◌, ℕ, zero, suc, ◌^◌, arith, Bool, true, false, not, ◌&&◌, List, [], ◌∷◌, Some, option_map, Ok, ℤ, pos, negsuc, nat_lt, if◌then◌else◌, and_parts, Document, number_of, is_canonical, then_give, Schema, Scalar, Value, Width, byte, short, integer, long, scalar, is_in_range, is_in_width, is_signed_within, are_bytes, kind_takes, written_kind, width_kind, fits, fits_in_range, scalar_document, base64, integer_of_number, whole_of_number, or_document_refusal, Held, is_null_held, read_scalar, settled, is_shaped, value_read, value_by_kind, ReadsWhatFits, RefusesTheRest}
use Rattle.base64.specs.GeneralPurpose.{decoded_of, IsBytes}
use Rattle.base64.specs.Engines.{standard}
use Rattle.base64.proofs.EngineFacts.{decode_of-encode_of}
use Rattle.smithy_types.specs.Documents as doc
use Rattle.smithy_types.specs.Settings.{plain_blob, plain_number_timestamp}
use Rattle.smithy_ids.specs.Kinds.{same_kind}
use Rattle.smithy_ids.specs.declared.shape_type.ShapeType.{ShapeType}
use Rattle.smithy_ids.specs.declared.shape_type.ShapeType.TheVariants as kind
use Rattle.smithy_ids.proofs.KindLemmas.{one_kind}
use Rattle.smithy_serde.specs.Values as value
use Rattle.smithy_serde.specs.Held as held
use Rattle.smithy_serde.proofs.ReadLevels.{value_once}

-- what no structure is is taken by its own kind alone
takes_own : (k w : ShapeType) → same_kind w kind.Structure ≡ false → kind_takes k w ≡ true → k ≡ w
takes_own kind.Union w other e = absurd (cc (other, e))
takes_own k w other e = one_kind k w e

-- ---- reads by a node

-- what isn't read as a null is read by the node's kind
pub read_by_kind : (n : Schema) (k : ShapeType) (h : Held) → n.node.kind ≡ k → (is_null_held h && not (same_kind k kind.Document)) ≡ false → value_read n h ≡ value_by_kind value_read k n h
read_by_kind n k h is here =
    value_once n h ∙ ap (λ j. if is_null_held h && not (same_kind j kind.Document) then Ok (scalar value.null) else value_by_kind value_read j n h) is
    ∙ ap (λ t. if t then Ok (scalar value.null) else value_by_kind value_read k n h) here

-- the value of a node's kind is in range, and of a kind that the node takes
pub taken : (n : Schema) (v : Value) (w : ShapeType) → fits_in_range n.node.kind v ≡ true → written_kind v ≡ Some w → same_kind w kind.Structure ≡ false → n.node.kind ≡ w
taken n v w e is other =
    takes_own n.node.kind w other (ap (λ o. unwrap_or (option_map (kind_takes n.node.kind) o) false) (sym is) ∙ (and_parts (is_in_range v) (fits n.node.kind v) e).1)

in_range : (n : Schema) (v : Value) → fits_in_range n.node.kind v ≡ true → is_in_range v ≡ true
in_range n v e = (and_parts (is_in_range v) (fits n.node.kind v) e).0

-- ---- numbers, bytes and times

same_integer : (z : ℤ) → integer_of_number (number_of z) ≡ z
same_integer (pos n) = refl
same_integer (negsuc n) = refl

whole_back : (w : Width) (z : ℤ) → is_in_width w z ≡ true → whole_of_number w (number_of z) ≡ Ok (value.whole w z)
whole_back w z e = rw (same_integer z, e) refl

bytes_of : (bytes : List ℕ) → are_bytes bytes ≡ true → IsBytes bytes
bytes_of [] e i = omega arith
bytes_of (b ∷ bytes) e zero = ltb-true b 256 (and_parts (nat_lt b 256) (are_bytes bytes) e).0
bytes_of (b ∷ bytes) e (suc i) = bytes_of bytes (and_parts (nat_lt b 256) (are_bytes bytes) e).1 i

blob_back : (bytes : List ℕ) → are_bytes bytes ≡ true → or_document_refusal (plain_blob (base64 bytes)) (λ b. value.blob b) ≡ Ok (value.blob bytes)
unfolding plain_blob decoded_of
blob_back bytes e = rw (decode_of-encode_of standard bytes refl (bytes_of bytes e)) refl

time_back : (z : ℤ) → is_signed_within (2 ^ 63) z ≡ true → or_document_refusal (plain_number_timestamp (number_of z)) (λ s. value.timestamp s) ≡ Ok (value.timestamp z)
unfolding plain_number_timestamp
time_back (pos n) e =
    let small : nat_lt n (2 ^ 63) ≡ true = (and_parts (int_le (neg_ℤ (pos (2 ^ 63))) (pos n)) (int_lt (pos n) (pos (2 ^ 63))) e).1 in
    rw small refl
time_back (negsuc n) e = refl

-- ---- scalars

width_plain : (w : Width) → same_kind (width_kind w) kind.Structure ≡ false
width_plain byte = refl
width_plain short = refl
width_plain integer = refl
width_plain long = refl

number_read : (n : Schema) (w : Width) (z : ℤ) → is_in_width w z ≡ true → value_by_kind value_read (width_kind w) n (held.document (doc.number (number_of z))) ≡ Ok (scalar (value.whole w z))
unfolding read_scalar
number_read n byte z e = ap (λ r. then_give r scalar) (whole_back byte z e)
number_read n short z e = ap (λ r. then_give r scalar) (whole_back short z e)
number_read n integer z e = ap (λ r. then_give r scalar) (whole_back integer z e)
number_read n long z e = ap (λ r. then_give r scalar) (whole_back long z e)

document_read : (n : Schema) (d : Document) → n.node.kind ≡ kind.Document → value_read n (held.document d) ≡ Ok (scalar (value.document d))
unfolding read_scalar
document_read n d is = read_by_kind n kind.Document (held.document d) is (plain (is_null_held (held.document d)))
  where
    plain : (b : Bool) → (b && false) ≡ false
    plain true = refl
    plain false = refl

null_read : (n : Schema) → value_read n (held.document doc.null) ≡ Ok (settled (Some n) (scalar value.null))
null_read n = go (same_kind n.node.kind kind.Document) refl
  where
    go : (t : Bool) → same_kind n.node.kind kind.Document ≡ t → value_read n (held.document doc.null) ≡ Ok (if t then scalar (value.document doc.null) else scalar value.null)
    go true is = document_read n doc.null (one_kind n.node.kind kind.Document is)
    go false is = value_once n (held.document doc.null) ∙ ap (λ t. if not t then Ok (scalar value.null) else value_by_kind value_read n.node.kind n (held.document doc.null)) is

pub scalar_read : (n : Schema) (x : Scalar) → is_shaped (Some n) (scalar x) ≡ true → value_read n (held.document (scalar_document x)) ≡ Ok (settled (Some n) (scalar x))
unfolding read_scalar
scalar_read n (value.boolean b) e = read_by_kind n kind.Boolean (held.document (doc.boolean b)) (taken n (scalar (value.boolean b)) kind.Boolean e refl refl) refl
scalar_read n (value.whole w z) e =
    read_by_kind n (width_kind w) (held.document (doc.number (number_of z))) (taken n (scalar (value.whole w z)) (width_kind w) e refl (width_plain w)) refl
    ∙ number_read n w z (in_range n (scalar (value.whole w z)) e)
scalar_read n (value.big_integer t) e =
    read_by_kind n kind.BigInteger (held.document (doc.string t)) (taken n (scalar (value.big_integer t)) kind.BigInteger e refl refl) refl
    ∙ rw (in_range n (scalar (value.big_integer t)) e) refl
scalar_read n (value.big_decimal t) e =
    read_by_kind n kind.BigDecimal (held.document (doc.string t)) (taken n (scalar (value.big_decimal t)) kind.BigDecimal e refl refl) refl
    ∙ rw (in_range n (scalar (value.big_decimal t)) e) refl
scalar_read n (value.text t) e = read_by_kind n kind.String (held.document (doc.string t)) (taken n (scalar (value.text t)) kind.String e refl refl) refl
scalar_read n (value.blob bytes) e =
    read_by_kind n kind.Blob (held.document (doc.string (base64 bytes))) (taken n (scalar (value.blob bytes)) kind.Blob e refl refl) refl
    ∙ ap (λ r. then_give r scalar) (blob_back bytes (in_range n (scalar (value.blob bytes)) e))
scalar_read n (value.timestamp z) e =
    read_by_kind n kind.Timestamp (held.document (doc.number (number_of z))) (taken n (scalar (value.timestamp z)) kind.Timestamp e refl refl) refl
    ∙ ap (λ r. then_give r scalar) (time_back z (in_range n (scalar (value.timestamp z)) e))
scalar_read n (value.document d) e =
    document_read n d (taken n (scalar (value.document d)) kind.Document (and_parts (fits_in_range n.node.kind (scalar (value.document d))) (is_canonical d) e).0 refl refl)
scalar_read n value.null e = null_read n

-- ---- numbers that fit, and those that don't

pub number_fits : ReadsWhatFits
unfolding read_scalar
number_fits byte n x e = rw e refl
number_fits short n x e = rw e refl
number_fits integer n x e = rw e refl
number_fits long n x e = rw e refl

pub number_overflows : RefusesTheRest
unfolding read_scalar
number_overflows byte n x e = rw e refl
number_overflows short n x e = rw e refl
number_overflows integer n x e = rw e refl
number_overflows long n x e = rw e refl
