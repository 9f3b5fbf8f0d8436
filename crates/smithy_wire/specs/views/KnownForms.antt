-- What is known of the names in JSON at each place that a form leads to.
use Rattle.std.specs.Prelude.{◌≡◌, ⊤, Option, Some, None}
use Rattle.std.specs.Coded.{Unit-prop}
use Rattle.smithy_wire.specs.Words.{Bor, Table}
use Rattle.smithy_wire.specs.Forms.{Form}
use Rattle.smithy_wire.specs.Standing.{Each, each_prop}
use Rattle.smithy_wire.specs.declared.json_names.JsonNames.{JsonNames}
use Rattle.smithy_wire.specs.views.FieldNames.{Knows, Knows-prop}

-- the table that names are of
abbrev pub table_in : JsonNames → Table
table_in names = names.column.table

-- the names, if there are some, are of this table
abbrev pub AreOf : Table → Option (Bor JsonNames) → Type 0
AreOf t None = ⊤
AreOf t (Some names) = table_in names.now ≡ t

-- what they say of each node of the form's table is so
abbrev pub IsKnown : Option (Bor JsonNames) → Form → Type 0
IsKnown None f = ⊤
IsKnown (Some names) f = Each (λ side s. Knows names.now.column s.table) f

pub IsKnown-prop : (names : Option (Bor JsonNames)) (f : Form) → IsProp (IsKnown names f)
IsKnown-prop None f = Unit-prop
IsKnown-prop (Some names) f = each_prop (λ side s. Knows names.now.column s.table) (λ side s. Knows-prop names.now.column s.table) f
