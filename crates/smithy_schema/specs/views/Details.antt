-- What a node has beside its names, its kind and its index.
use Rattle.std.specs.Prelude.{ℕ, Bool, false, List, [], Option, None}
use Rattle.smithy_ids.specs.declared.payload_hint.PayloadHint.{PayloadHint}
use Rattle.smithy_ids.specs.declared.payload_hint.PayloadHint.TheVariants.{Unknown}
use Rattle.smithy_ids.specs.declared.traits.TimestampFormat.{TimestampFormat}
use Rattle.smithy_schema.specs.Nodes.{Node, Traits, no_traits}

pub record Details : Type 0 where
  pub original_name : Option (List ℕ)
  pub target : Option ℕ
  pub members : List ℕ
  pub element : Option ℕ
  pub key : Option ℕ
  pub value : Option ℕ
  pub traits : Traits
  pub has_no_body_members : Bool
  pub hint : PayloadHint

abbrev pub details_of : Node → Details
details_of n = record {
  original_name = n.original_name;
  target = n.target;
  members = n.members;
  element = n.element;
  key = n.key;
  value = n.value;
  traits = n.traits;
  has_no_body_members = n.has_no_body_members;
  hint = n.hint;
}

-- a time format at most
abbrev pub outlined : Option TimestampFormat → Details
outlined format = record {
  original_name = None;
  target = None;
  members = [];
  element = None;
  key = None;
  value = None;
  traits = record no_traits { timestamp_format = format };
  has_no_body_members = false;
  hint = Unknown;
}
