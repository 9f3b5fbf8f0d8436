-- The pieces of a template, one behind the other.
use Rattle.std.specs.Prelude.{◌≡◌, List, [], ◌∷◌, ◌++◌, Option, option_map}
use Rattle.smithy_schema.specs.Nodes.{Schema}
use Rattle.smithy_schema.specs.Templates as templates
use Rattle.smithy_schema.specs.Templates.{pieces}
use Rattle.smithy_schema.specs.declared.first_hole.CutHole.{CutHole}
use Rattle.smithy_schema.specs.declared.piece.Piece.{Piece}
use Rattle.smithy_schema.specs.declared.piece.Piece.TheVariants.{Literal, Hole}

-- holes, each before its literal
abbrev pub holes_in_turn : List templates.Piece → List Piece
holes_in_turn [] = []
holes_in_turn (p ∷ ps) = Hole p.hole.name p.hole.greedy ∷ Literal p.literal ∷ holes_in_turn ps

-- literals and holes in turn, of which the first and the last are literals
abbrev pub in_turn : templates.Template → List Piece
in_turn t = Literal t.first ∷ holes_in_turn t.rest

-- those of a schema's template, where it has `@http`
abbrev pub pieces_of : Schema → Option (List Piece)
pieces_of schema = option_map (λ h. in_turn (pieces h.uri)) schema.node.traits.http

-- a hole behind its literal came behind the pieces so far
abbrev pub AddsHole : CutHole → (old new : List Piece) → Type 0
AddsHole h old new = new ≡ old ++ Literal h.literal.now ∷ Hole h.name.now h.is_greedy ∷ []
