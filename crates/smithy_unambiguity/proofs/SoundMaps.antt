-- What a checked schema says of its prefix maps and its query maps.
use Rattle.smithy_unambiguity.proofs.Common.{◌≡◌, true, ◌&&◌, is_some, list_all, and_parts, Schema, IsCheckedInput, has_at_most_one, members_with, is_text_map, is_query_map}

pub record HasSoundMaps (schema : Schema) : Type 0 where
  pub one_prefix_map : has_at_most_one (λ t. is_some t.http_prefix_headers) schema ≡ true
  pub one_query_map : has_at_most_one (λ t. t.http_query_params) schema ≡ true
  pub prefix_maps : list_all is_text_map (members_with (λ t. is_some t.http_prefix_headers) schema) ≡ true
  pub query_maps : list_all is_query_map (members_with (λ t. t.http_query_params) schema) ≡ true

pub sound_maps : (schema : Schema) → IsCheckedInput schema → HasSoundMaps schema
sound_maps schema checked =
    let one_prefix_map = has_at_most_one (λ t. is_some t.http_prefix_headers) schema in
    let one_query_map = has_at_most_one (λ t. t.http_query_params) schema in
    let prefix_maps = list_all is_text_map (members_with (λ t. is_some t.http_prefix_headers) schema) in
    let query_maps = list_all is_query_map (members_with (λ t. t.http_query_params) schema) in
    let a = and_parts (one_prefix_map && one_query_map && prefix_maps) query_maps checked.maps in
    let b = and_parts (one_prefix_map && one_query_map) prefix_maps a.0 in
    let c = and_parts one_prefix_map one_query_map b.0 in
    record { one_prefix_map = c.0; one_query_map = c.1; prefix_maps = b.1; query_maps = a.1 }
