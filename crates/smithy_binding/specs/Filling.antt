-- A template with its holes filled (Smithy, HTTP protocol bindings, httpLabel and http, greedy labels).
use Rattle.std.specs.Prelude.{ℕ, ◌==◌, List, [], ◌∷◌, ◌++◌, flat_map, Result, Ok, Err, Option, Some, None, if◌then◌else◌}
use Rattle.smithy_binding.specs.Words.{then_try, then_give, found, Hole, Piece, Template}
use Rattle.smithy_strings.specs.Escapes.{escape, escape_byte}

-- the escape of the text in which each `/` stands
abbrev pub keep_slashes : List ℕ → List ℕ
keep_slashes text = flat_map (λ b. if b == 47 then b ∷ [] else escape_byte b) text

-- what stands in a hole for a text: the segments of a greedy one keep their `/`
abbrev pub hole_text : Hole → List ℕ → List ℕ
hole_text hole text =
    if hole.greedy then keep_slashes text else escape text

-- the hole with the text that was found, or its name where there was none or an empty one
abbrev pub filled_hole : Hole → Option (List ℕ) → Result (List ℕ) (List ℕ)
filled_hole hole None = Err hole.name
filled_hole hole (Some []) = Err hole.name
filled_hole hole (Some (b ∷ text)) = Ok (hole_text hole (b ∷ text))

-- the holes and the literals behind them, in order, where `texts` gives the text of a label by its name
abbrev pub fill_rest : (List ℕ → Option (List ℕ)) → List Piece → Result (List ℕ) (List ℕ)
fill_rest texts [] = Ok []
fill_rest texts (p ∷ ps) = then_try (filled_hole p.hole (texts p.hole.name)) λ text. then_give (fill_rest texts ps) λ rest. text ++ p.literal ++ rest

-- The template with the text of each hole. The name of the first hole without a non-empty text is the error.
abbrev pub filled_by : (List ℕ → Option (List ℕ)) → Template → Result (List ℕ) (List ℕ)
filled_by texts template = then_give (fill_rest texts template.rest) λ rest. template.first ++ rest

-- the texts are those that the labels have under the names
abbrev pub fill : Template → List (List ℕ × List ℕ) → Result (List ℕ) (List ℕ)
fill template labels = filled_by (λ name. found name labels) template
