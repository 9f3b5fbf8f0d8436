-- The document that JSON's data is, where it has no float.
use Rattle.std.specs.Prelude.{ℕ, List, [], ◌∷◌, Option, Some, None, option_map, option_and_then}
use Rattle.serde_json.specs.Data as parsed
use Rattle.serde_json.specs.Data.{Num, Data}
use Rattle.smithy_types.specs.Documents as doc
use Rattle.smithy_types.specs.Documents.{Document, Number, number_of, members_of}

abbrev pub number_of_data : Num → Option Number
number_of_data (parsed.unsigned n) = Some (doc.positive n)
number_of_data (parsed.negative z) = Some (number_of z)
number_of_data (parsed.float x) = None

abbrev mutual
  pub of_data : Data → Option Document
  of_data parsed.null = Some doc.null
  of_data (parsed.boolean b) = Some (doc.boolean b)
  of_data (parsed.number n) = option_map doc.number (number_of_data n)
  of_data (parsed.string s) = Some (doc.string s)
  of_data (parsed.array ds) = option_map doc.array (items_of_data ds)
  of_data (parsed.object ms) = option_map (λ ps. doc.object (members_of ps)) (pairs_of_data ms)

  pub items_of_data : parsed.Items → Option doc.Items
  items_of_data parsed.no_items = Some doc.no_items
  items_of_data (parsed.item d ds) = option_and_then (λ x. option_map (doc.item x) (items_of_data ds)) (of_data d)

  pub pairs_of_data : parsed.Members → Option (List (List ℕ × Document))
  pairs_of_data parsed.no_members = Some []
  pairs_of_data (parsed.member k d ms) = option_and_then (λ x. option_map (λ ps. (k, x) ∷ ps) (pairs_of_data ms)) (of_data d)
