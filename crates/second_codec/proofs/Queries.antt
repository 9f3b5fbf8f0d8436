-- Query members and the query map.
use Rattle.std.proofs.Common.{◌≡◌, refl, ℕ, codes, List, [], ◌∷◌, Option, Some, pos}
use Rattle.std.specs.Option.{option_map as mapped}
use Rattle.second_codec.proofs.OnLiterals.{second_codec_on_literals}
use Rattle.smithy_ids.specs.declared.shape_type.ShapeType.TheVariants as kind
use Rattle.smithy_schema.specs.Nodes.{Schema}
use Rattle.smithy_serde.specs.Values.{scalar, Write, text, timestamp}
use Rattle.smithy_binding.specs.Answer.{place}
use Rattle.second_codec.proofs.Making.{to, strings, string_map, list_map, json, keep_all}
use Rattle.second_codec.proofs.Samples.{search, list_search, tagged, one_query}

-- the target of a request
abbrev target_placed : Schema → List Write → List ℕ → Option (List ℕ)
target_placed schema ws endpoint = mapped (λ r. r.target) (place json schema ws endpoint keep_all)

-- a key of the map that is a query member's name is left out, also where that member is not written
pub query_member_wins_unwritten : target_placed search (to search 1 (string_map ((codes "max", codes "9") ∷ (codes "q", codes "x") ∷ [])) ∷ []) [] ≡ Some (codes "/q?q=x")
unfolding second_codec_on_literals
query_member_wins_unwritten = refl

pub pairs_stand_in_the_order_of_the_writes : target_placed search (to search 1 (string_map ((codes "b", codes "1") ∷ (codes "a", codes "2") ∷ [])) ∷ to search 0 (scalar (text (codes "3"))) ∷ []) [] ≡ Some (codes "/q?b=1&a=2&max=3")
unfolding second_codec_on_literals
pairs_stand_in_the_order_of_the_writes = refl

-- behind the literal query of the template
pub list_gives_a_pair_for_each : target_placed tagged (to tagged 0 (strings (codes "a b" ∷ codes "c=d" ∷ [])) ∷ []) [] ≡ Some (codes "/q?list=2&tag=a%20b&tag=c%3Dd")
unfolding second_codec_on_literals
list_gives_a_pair_for_each = refl

pub entry_gives_a_pair_for_each : target_placed list_search (to list_search 0 (list_map ((codes "q", scalar (text (codes "x")) ∷ scalar (text (codes "y")) ∷ []) ∷ (codes "z", []) ∷ [])) ∷ []) [] ≡ Some (codes "/q?q=x&q=y")
unfolding second_codec_on_literals
entry_gives_a_pair_for_each = refl

pub time_by_default : target_placed (one_query kind.Timestamp) (to (one_query kind.Timestamp) 0 (scalar (timestamp (pos 1515523620))) ∷ []) [] ≡ Some (codes "/q?when=2018-01-09T18%3A47%3A00Z")
unfolding second_codec_on_literals
time_by_default = refl

pub no_pair_no_question_mark : target_placed search [] [] ≡ Some (codes "/q")
unfolding second_codec_on_literals
no_pair_no_question_mark = refl
