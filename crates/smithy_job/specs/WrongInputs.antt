-- The first place of an input or an output whose form is not as asked.
use Rattle.std.specs.Prelude.{ℕ, ◌+◌, codes, is_some, Option, Some, None}
use Rattle.std.specs.Option.{option_map_or}
use Rattle.serde_json.specs.Data as json
use Rattle.serde_json.specs.Data.{Data, Items, Members}
use Rattle.serde_json.specs.Find.{as_object}
use Rattle.smithy_json.specs.FromData.{number_of_data}
use Rattle.smithy_model.specs.Wrong.{Wrong, ◌or◌, asked_here, in_key, in_item, unless_here, first_item}
use Rattle.smithy_model.specs.Json.{items_in}
use Rattle.smithy_job.specs.Inputs.{pair_in}

-- the first float in a value
abbrev mutual
  pub wrong_value : Data → Option Wrong
  wrong_value json.null = None
  wrong_value (json.boolean b) = None
  wrong_value (json.number n) = unless_here (is_some (number_of_data n)) (codes "a whole number from -2^63 to 2^64 - 1 is asked: other numbers are floats, which are not read")
  wrong_value (json.string s) = None
  wrong_value (json.array ds) = wrong_items 0 ds
  wrong_value (json.object ms) = wrong_members ms

  -- in an item of an array, of which the first has this position
  pub wrong_items : ℕ → Items → Option Wrong
  wrong_items i json.no_items = None
  wrong_items i (json.item d ds) = in_item i (wrong_value d) or wrong_items (i + 1) ds

  pub wrong_members : Members → Option Wrong
  wrong_members json.no_members = None
  wrong_members (json.member k d ms) = in_key k (wrong_value d) or wrong_members ms

-- a name and a value
unfoldable pub wrong_pair : Data → Option Wrong
wrong_pair d = option_map_or (λ p. in_item 1 (wrong_value p.1)) (pair_in d) (Some (asked_here (codes "an array of a name and a value is asked")))

-- the writes of an input or an output
unfoldable pub wrong_writes : Data → Option Wrong
wrong_writes d =
    option_map_or (first_item wrong_pair 0) (items_in d)
    (option_map_or wrong_members (as_object d) (Some (asked_here (codes "an object from names to values is asked, or an array of pairs"))))

-- many inputs
unfoldable pub wrong_many : Data → Option Wrong
wrong_many d = option_map_or (first_item wrong_writes 0) (items_in d) (Some (asked_here (codes "an array of inputs is asked")))
