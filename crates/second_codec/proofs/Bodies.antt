-- Bodies: of the codec, raw, or none.
use Rattle.std.proofs.Common.{◌≡◌, refl, ℕ, codes, List, [], ◌∷◌, Option, Some, pos}
use Rattle.std.specs.Option.{option_map as mapped}
use Rattle.second_codec.proofs.OnLiterals.{second_codec_on_literals}
use Rattle.smithy_types.specs.Documents as doc
use Rattle.smithy_ids.specs.declared.shape_type.ShapeType.TheVariants as kind
use Rattle.smithy_schema.specs.Nodes.{Schema}
use Rattle.smithy_serde.specs.Values.{scalar, Write, no_writes, writes_of, whole, integer, text, blob, document, null, structure}
use Rattle.smithy_binding.specs.Answer.{place}
use Rattle.second_codec.proofs.Making.{to, named, elements, string_map, json, keep_all}
use Rattle.second_codec.proofs.Samples.{one_name, one_map, one_payload, list_payload, document_payload}

-- the body of a request
abbrev body_placed : Schema → List Write → Option (List ℕ)
body_placed schema ws = mapped (λ r. r.body) (place json schema ws [] keep_all)

pub unbound_text : place json one_name (to one_name 0 (scalar (text (codes "a"))) ∷ []) [] keep_all ≡ Some (record { method = codes "POST"; target = codes "/t"; headers = ((codes "content-type", codes "application/json") ∷ (codes "content-length", codes "12") ∷ []); body = codes "{\"name\":\"a\"}" })
unfolding second_codec_on_literals
unbound_text = refl

pub last_unbound_write_stands : body_placed one_name (to one_name 0 (scalar (text (codes "a"))) ∷ named (codes "name") (scalar null) ∷ []) ≡ Some (codes "{\"name\":null}")
unfolding second_codec_on_literals
last_unbound_write_stands = refl

pub nothing_unbound_is_written : body_placed one_name [] ≡ Some (codes "{}")
unfolding second_codec_on_literals
nothing_unbound_is_written = refl

pub structure_payload_unwritten : place json (one_payload kind.Structure) [] [] keep_all ≡ Some (record { method = codes "PUT"; target = codes "/p"; headers = ((codes "content-type", codes "application/json") ∷ (codes "content-length", codes "0") ∷ []); body = [] })
unfolding second_codec_on_literals
structure_payload_unwritten = refl

pub first_structure_payload_counts : body_placed (one_payload kind.Structure) (to (one_payload kind.Structure) 1 (structure (writes_of (named (codes "k") (scalar (text (codes "v"))) ∷ []))) ∷ to (one_payload kind.Structure) 1 (structure no_writes) ∷ []) ≡ Some (codes "{\"k\":\"v\"}")
unfolding second_codec_on_literals
first_structure_payload_counts = refl

pub raw_payload_keeps_its_content_type : place json (one_payload kind.Blob) (to (one_payload kind.Blob) 0 (scalar (text (codes "text/plain"))) ∷ to (one_payload kind.Blob) 1 (scalar (blob (codes "hi"))) ∷ []) [] keep_all ≡ Some (record { method = codes "PUT"; target = codes "/p"; headers = ((codes "content-type", codes "text/plain") ∷ (codes "content-length", codes "2") ∷ []); body = codes "hi" })
unfolding second_codec_on_literals
raw_payload_keeps_its_content_type = refl

pub raw_payload_has_no_default_type : place json (one_payload kind.String) (to (one_payload kind.String) 1 (scalar (text (codes "hi"))) ∷ []) [] keep_all ≡ Some (record { method = codes "PUT"; target = codes "/p"; headers = ((codes "content-length", codes "2") ∷ []); body = codes "hi" })
unfolding second_codec_on_literals
raw_payload_has_no_default_type = refl

pub raw_payload_unwritten : place json (one_payload kind.Blob) [] [] keep_all ≡ Some (record { method = codes "PUT"; target = codes "/p"; headers = []; body = [] })
unfolding second_codec_on_literals
raw_payload_unwritten = refl

pub map_keeps_the_last_value : body_placed one_map (to one_map 0 (string_map ((codes "k", codes "1") ∷ (codes "j", codes "2") ∷ (codes "k", codes "3") ∷ [])) ∷ []) ≡ Some (codes "{\"entries\":{\"j\":\"2\",\"k\":\"3\"}}")
unfolding second_codec_on_literals
map_keeps_the_last_value = refl

pub list_payload_is_the_root : place json list_payload (to list_payload 0 (elements (scalar (whole integer (pos 1)) ∷ scalar (whole integer (pos 2)) ∷ [])) ∷ []) [] keep_all ≡ Some (record { method = codes "PUT"; target = codes "/l"; headers = ((codes "content-type", codes "application/json") ∷ (codes "content-length", codes "5") ∷ []); body = codes "[1,2]" })
unfolding second_codec_on_literals
list_payload_is_the_root = refl

pub null_document_is_a_body : place json document_payload (to document_payload 0 (scalar (document doc.null)) ∷ []) [] keep_all ≡ Some (record { method = codes "PUT"; target = codes "/d"; headers = ((codes "content-type", codes "application/json") ∷ (codes "content-length", codes "4") ∷ []); body = codes "null" })
unfolding second_codec_on_literals
null_document_is_a_body = refl
