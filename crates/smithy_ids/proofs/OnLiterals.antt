use Rattle.std.specs.Prelude.{⊤}

-- what a proof unfolds to compute this crate's definitions on a literal
unfoldable pub ids_on_literals : ⊤
ids_on_literals = tt
