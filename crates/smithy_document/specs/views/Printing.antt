-- The tokens of a document's JSON text, as they are written one after another.
use Rattle.std.specs.Prelude.{◌≡◌, List, [], ◌∷◌, ◌++◌, Result, OnOk}
use Rattle.smithy_document.specs.Words.{Document, Number}
use Rattle.json.specs.Token as token
use Rattle.json.specs.Token.{Token}
use Rattle.json.specs.Tree.{json_tokens, items_tokens, members_tokens}
use Rattle.json.specs.Written.{Written}
use Rattle.serde_json.specs.Written.{number_text, outline, items_outline, members_outline}
use Rattle.smithy_types.specs.Documents as doc
use Rattle.smithy_document.specs.JsonText.{number_as_data, as_data, items_as_data, members_as_data}

abbrev pub number_tokens : Number → List Token
number_tokens n = token.number (number_text (number_as_data n)) ∷ []

abbrev pub document_tokens : Document → List Token
document_tokens d = json_tokens (outline (as_data d))

-- those of the items and of the members, with the closing bracket
abbrev pub item_tokens : doc.Items → List Token
item_tokens ds = items_tokens (items_outline (items_as_data ds))

abbrev pub member_tokens : doc.Members → List Token
member_tokens ms = members_tokens (members_outline (members_as_data ms))

-- where there was memory, these tokens were written behind the others
abbrev pub Prints : {A E : Type 0} → List Token → Written → Written → Result A E → Type 0
Prints ts old new result = OnOk result ((new.before ≡ old.before) × (new.tokens ≡ old.tokens ++ ts))
