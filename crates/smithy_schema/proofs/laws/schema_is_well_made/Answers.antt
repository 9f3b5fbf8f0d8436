use Rattle.std.proofs.Common.{◌≡◌, ℕ, true, List, subst}
use Rattle.std.proofs.lemmas.Str.{is_utf8-from_IsUtf8}
use Rattle.std.specs.Str.{is_utf8}
use Rattle.smithy_schema.proofs.WellMadeLemmas.{table-well_made, prelude-well_made}
use Rattle.smithy_schema.proofs.laws.schema_is_well_made.Goals as goal

pub returns-in-Table : goal.returns-in-Table
returns-in-Table c = table-well_made c.args.schema c.in-Table.place _ c.in-Table.is c.stored.ensures.sound c.stored.ensures.place

pub returns-in-Prelude : goal.returns-in-Prelude
returns-in-Prelude c =
    prelude-well_made c.args.schema c.in-Prelude.field-0 c.in-Prelude.is (subst (λ (t : List ℕ). is_utf8 t ≡ true) c.full_name.ensures.name (is_utf8-from_IsUtf8 _ c.full_name.utf8))
