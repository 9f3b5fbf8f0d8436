-- The first sample job: labels, a query member and a header.
use Rattle.std.proofs.Common.{◌≡◌, refl, codes, true, [], ◌∷◌, Some, None, pos}
use Rattle.std.specs.Option.{option_map as mapped}
use Rattle.second_codec.proofs.OnLiterals.{second_codec_on_literals}
use Rattle.smithy_serde.specs.Values.{scalar, writes_of, whole, integer, structure}
use Rattle.smithy_serde.specs.DocumentOf.{doc_of}
use Rattle.smithy_binding.specs.Answer.{place}
use Rattle.smithy_binding.specs.Faults.{fault}
use Rattle.smithy_binding.specs.Checked.{checked_input}
use Rattle.smithy_binding.specs.NormalForm.{view}
use Rattle.smithy_schema.specs.WellMade.{is_well_made}
use Rattle.smithy_document.specs.JsonText.{json_text}
use Rattle.second_codec.proofs.Making.{to, json, keep_all}
use Rattle.second_codec.proofs.Samples.{get_object, bucket, key, get_object_input}

pub get_object_is_checked : checked_input get_object ≡ true
unfolding second_codec_on_literals
get_object_is_checked = refl

pub get_object_is_well_made : is_well_made get_object ≡ true
unfolding second_codec_on_literals
get_object_is_well_made = refl

pub get_object_has_no_fault : fault get_object get_object_input [] ≡ None
unfolding second_codec_on_literals
get_object_has_no_fault = refl

pub get_object_is_placed : place json get_object get_object_input [] keep_all ≡ Some (record { method = codes "GET"; target = codes "/b/x/y%20z?max=3"; headers = ((codes "x-id", codes "7") ∷ []); body = [] })
unfolding second_codec_on_literals
get_object_is_placed = refl

-- the document of the whole input, as an RPC protocol sends it
pub get_object_document : mapped json_text (doc_of (structure (writes_of get_object_input))) ≡ Some (codes "{\"Bucket\":\"b\",\"Id\":7,\"Key\":\"x/y z\",\"Max\":3}")
unfolding second_codec_on_literals
get_object_document = refl

-- the members in index order
pub get_object_normal_form : view get_object get_object_input ≡ bucket ∷ to get_object 1 (scalar (whole integer (pos 7))) ∷ key ∷ to get_object 3 (scalar (whole integer (pos 3))) ∷ []
unfolding second_codec_on_literals
get_object_normal_form = refl
