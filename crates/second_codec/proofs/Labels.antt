-- Escapes, templates and labels.
use Rattle.std.proofs.Common.{◌≡◌, refl, ℕ, codes, true, false, List, [], ◌∷◌, Option, Some}
use Rattle.std.specs.Option.{option_map as mapped}
use Rattle.second_codec.proofs.OnLiterals.{second_codec_on_literals}
use Rattle.smithy_schema.specs.Nodes.{Schema}
use Rattle.smithy_schema.specs.Templates.{has_unclosed_brace}
use Rattle.smithy_serde.specs.Values.{scalar, Write, text}
use Rattle.smithy_strings.specs.Escapes.{escape}
use Rattle.smithy_binding.specs.Filling.{hole_text}
use Rattle.smithy_binding.specs.Answer.{place}
use Rattle.second_codec.proofs.Making.{to, json, keep_all}
use Rattle.second_codec.proofs.Samples.{endpoint_label, nothing_in, one_label}

-- the target of a request
abbrev target_placed : Schema → List Write → List ℕ → Option (List ℕ)
target_placed schema ws endpoint = mapped (λ r. r.target) (place json schema ws endpoint keep_all)

pub escape_of_a_space_a_slash_and_an_umlaut : escape (97 ∷ 32 ∷ 98 ∷ 47 ∷ 195 ∷ 188 ∷ []) ≡ codes "a%20b%2F%C3%BC"
unfolding second_codec_on_literals
escape_of_a_space_a_slash_and_an_umlaut = refl

pub slashes_of_a_greedy_hole_stand : hole_text (record { name = codes "Key"; greedy = true }) (codes "a b//c") ≡ codes "a%20b//c"
unfolding second_codec_on_literals
slashes_of_a_greedy_hole_stand = refl

pub slash_of_another_hole_is_escaped : target_placed one_label (to one_label 0 (scalar (text (codes "a/b"))) ∷ []) [] ≡ Some (codes "/a%2Fb")
unfolding second_codec_on_literals
slash_of_another_hole_is_escaped = refl

pub empty_endpoint_is_a_slash : target_placed nothing_in [] [] ≡ Some (codes "/")
unfolding second_codec_on_literals
empty_endpoint_is_a_slash = refl

pub endpoint_is_the_template : target_placed endpoint_label (to endpoint_label 0 (scalar (text (codes "b"))) ∷ []) (codes "/a/{Bucket}") ≡ Some (codes "/a/b")
unfolding second_codec_on_literals
endpoint_is_the_template = refl

pub unclosed_brace_is_literal : target_placed endpoint_label (to endpoint_label 0 (scalar (text (codes "b"))) ∷ []) (codes "/a/{Bucket") ≡ Some (codes "/a/{Bucket")
unfolding second_codec_on_literals
unclosed_brace_is_literal = refl

pub method_is_get_without_http : mapped (λ r. r.method) (place json nothing_in [] [] keep_all) ≡ Some (codes "GET")
unfolding second_codec_on_literals
method_is_get_without_http = refl

pub first_label_counts : target_placed one_label (to one_label 0 (scalar (text (codes "a"))) ∷ to one_label 0 (scalar (text (codes "b"))) ∷ []) [] ≡ Some (codes "/a")
unfolding second_codec_on_literals
first_label_counts = refl

pub brace_behind_the_last_close_is_open : has_unclosed_brace (codes "/{a}/{b") ≡ true
unfolding second_codec_on_literals
brace_behind_the_last_close_is_open = refl

pub no_brace_is_open : has_unclosed_brace (codes "/{a}/b") ≡ false
unfolding second_codec_on_literals
no_brace_is_open = refl
