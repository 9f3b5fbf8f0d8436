-- Borrowed names and values, seen.
use Rattle.std.specs.Borrow.{Bor}
use Rattle.std.specs.Prelude.{ℕ, List, Option, option_map}
use Rattle.serde_json.specs.Data.{Data}
use Rattle.smithy_json.specs.views.JsonView.{view}
use Rattle.smithy_json.specs.declared.value.JsonValue.{JsonValue}

abbrev pub seen : Bor (List ℕ) × Bor JsonValue → List ℕ × Data
seen p = (p.0.now, view p.1.now)

abbrev pub operation_seen : Bor JsonValue × Bor (List ℕ) → Data × List ℕ
operation_seen p = (view p.0.now, p.1.now)

abbrev pub given_seen : Option (Bor JsonValue × Bor (List ℕ)) → Option (Data × List ℕ)
given_seen given = option_map operation_seen given
