-- The default headers, and members that have their names.
use Rattle.std.proofs.Common.{◌≡◌, refl, codes, true, false, [], ◌∷◌, Some}
use Rattle.std.specs.List.{list_all}
use Rattle.std.specs.Option.{option_map as mapped}
use Rattle.second_codec.proofs.OnLiterals.{second_codec_on_literals}
use Rattle.smithy_schema.specs.Nodes.{members_of, binding_of}
use Rattle.smithy_serde.specs.Values.{scalar, text}
use Rattle.smithy_binding.specs.Bindings.{headers}
use Rattle.smithy_binding.specs.Bodies.{body}
use Rattle.smithy_binding.specs.Answer.{place}
use Rattle.smithy_binding.specs.Typed.{IsTyped, writes_default}
use Rattle.second_codec.proofs.Making.{to, json, keep_all}
use Rattle.second_codec.proofs.Samples.{one_name, own_content_type, every_header}

pub omitted_defaults : mapped (λ r. r.headers) (place json one_name (to one_name 0 (scalar (text (codes "a"))) ∷ []) [] (record { content_type = true; content_length = true })) ≡ Some []
unfolding second_codec_on_literals
omitted_defaults = refl

pub omitted_type_alone : mapped (λ r. r.headers) (place json one_name (to one_name 0 (scalar (text (codes "a"))) ∷ []) [] (record { content_type = true; content_length = false })) ≡ Some ((codes "content-length", codes "12") ∷ [])
unfolding second_codec_on_literals
omitted_type_alone = refl

pub unwritten_type_is_the_default : place json own_content_type (to own_content_type 1 (scalar (text (codes "a"))) ∷ []) [] keep_all ≡ place json one_name (to one_name 0 (scalar (text (codes "a"))) ∷ []) [] keep_all
unfolding second_codec_on_literals
unwritten_type_is_the_default = refl

pub written_type_is_the_same_request : place json own_content_type (to own_content_type 0 (scalar (text (codes "application/json"))) ∷ to own_content_type 1 (scalar (text (codes "a"))) ∷ []) [] keep_all ≡ place json one_name (to one_name 0 (scalar (text (codes "a"))) ∷ []) [] keep_all
unfolding second_codec_on_literals
written_type_is_the_same_request = refl

-- so that of these two inputs the second one is recovered
pub unwritten_type_is_not_typed : let ws = to own_content_type 1 (scalar (text (codes "a"))) ∷ [] in list_all (λ m. writes_default (body json.text_of own_content_type ws) keep_all (headers own_content_type ws) (binding_of m)) (members_of own_content_type) ≡ false
unfolding second_codec_on_literals
unwritten_type_is_not_typed = refl

pub written_type_is_typed : IsTyped json own_content_type [] keep_all (to own_content_type 0 (scalar (text (codes "application/json"))) ∷ to own_content_type 1 (scalar (text (codes "a"))) ∷ [])
unfolding second_codec_on_literals
written_type_is_typed = record {
  in_range = refl;
  conforming = refl;
  unbound_shaped = (refl, tt);
  payload_shaped = refl;
  placed_values = (refl, (refl, tt));
  defaults = refl;
  prefixed = (refl, (refl, tt));
  clear = refl;
  shallow = refl;
}

pub prefix_map_unwritten : place json every_header (to every_header 1 (scalar (text (codes "a"))) ∷ []) [] keep_all ≡ place json one_name (to one_name 0 (scalar (text (codes "a"))) ∷ []) [] keep_all
unfolding second_codec_on_literals
prefix_map_unwritten = refl

pub prefix_map_unwritten_is_typed : IsTyped json every_header [] keep_all (to every_header 1 (scalar (text (codes "a"))) ∷ [])
unfolding second_codec_on_literals
prefix_map_unwritten_is_typed = record {
  in_range = refl;
  conforming = refl;
  unbound_shaped = (refl, tt);
  payload_shaped = refl;
  placed_values = (refl, tt);
  defaults = refl;
  prefixed = (refl, tt);
  clear = refl;
  shallow = refl;
}
