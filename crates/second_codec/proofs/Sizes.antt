-- The longest target, and one byte more.
use Rattle.std.proofs.Common.{◌≡◌, refl, codes, true, false, [], ◌∷◌, Some, None, replicate, length}
use Rattle.std.specs.Option.{option_map as mapped}
use Rattle.second_codec.proofs.OnLiterals.{second_codec_on_literals}
use Rattle.smithy_types.specs.Grammars.{is_short_target}
use Rattle.smithy_serde.specs.Values.{scalar, text}
use Rattle.smithy_binding.specs.Answer.{place}
use Rattle.smithy_binding.specs.Faults.{fault, fault_line}
use Rattle.second_codec.proofs.Making.{to, json, keep_all}
use Rattle.second_codec.proofs.Samples.{one_label}

pub longest_label_has_no_fault : fault one_label (to one_label 0 (scalar (text (replicate 65533 97))) ∷ []) [] ≡ None
unfolding second_codec_on_literals
longest_label_has_no_fault = refl

pub longest_target : mapped (λ r. length r.target) (place json one_label (to one_label 0 (scalar (text (replicate 65533 97))) ∷ []) [] keep_all) ≡ Some 65534
unfolding second_codec_on_literals
longest_target = refl

pub one_byte_more : mapped fault_line (fault one_label (to one_label 0 (scalar (text (replicate 65534 97))) ∷ []) []) ≡ Some (codes "Custom: invalid endpoint URI: longer than 65534 bytes")
unfolding second_codec_on_literals
one_byte_more = refl

pub short_target : is_short_target (47 ∷ replicate 65533 97) ≡ true
short_target = refl

pub long_target : is_short_target (47 ∷ replicate 65534 97) ≡ false
long_target = refl
