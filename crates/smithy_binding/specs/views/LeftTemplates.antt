-- What is left of a template: a text that is still to be cut, or pieces of one that was.
use Rattle.std.specs.Prelude.{◌≡◌, ◌<◌, ℕ, List, [], ◌∷◌, length, Option, MatchOption}
use Rattle.smithy_binding.specs.Words.{Bor, CutHole, Template, pieces}
use Rattle.smithy_binding.specs.views.CutTemplate.{behind_hole, hole_shown, literal_alone}
use Rattle.smithy_binding.specs.declared.template_rest.TemplateRest.{TemplateRest}
use Rattle.smithy_binding.specs.declared.template_rest.TemplateRest.TheVariants as left
use Rattle.smithy_schema.specs.declared.piece.Piece.{Piece}
use Rattle.smithy_schema.specs.declared.piece.Piece.TheVariants.{Literal, Hole}

-- the template of literals and holes in turn
abbrev pub template_in : List Piece → Template
template_in [] = literal_alone []
template_in (Literal text ∷ []) = literal_alone text
template_in (Literal text ∷ Literal next ∷ ps) = literal_alone text
template_in (Literal text ∷ Hole name greedy ∷ ps) = behind_hole text (record { name = name; greedy = greedy }) (template_in ps)
template_in (Hole name greedy ∷ ps) = literal_alone []

-- the literal before its first hole
abbrev pub last_of_pieces : List Piece → List ℕ
last_of_pieces [] = []
last_of_pieces (Literal text ∷ ps) = text
last_of_pieces (Hole name greedy ∷ ps) = []

abbrev pub template_left : TemplateRest → Template
template_left (left.Text text) = pieces text.now
template_left (left.Pieces ps) = template_in ps.now

abbrev pub last_left : TemplateRest → List ℕ
last_left (left.Text text) = text.now
last_left (left.Pieces ps) = last_of_pieces ps.now

-- how much there is of it
abbrev pub left_len : TemplateRest → ℕ
left_len (left.Text text) = length text.now
left_len (left.Pieces ps) = length ps.now

-- pieces are their first hole, if there is one, and pieces behind it, which are fewer
abbrev pub TakesPieces : List Piece → Option (CutHole × Bor (List Piece)) → Type 0
TakesPieces ps parts =
    MatchOption parts (template_in ps ≡ literal_alone (last_of_pieces ps))
    (λ x. (template_in ps ≡ behind_hole x.0.literal.now (hole_shown x.0) (template_in x.1.now)) × (length x.1.now < length ps))

-- so is what is left of a template
abbrev pub TakesHole : TemplateRest → Option (CutHole × TemplateRest) → Type 0
TakesHole rest parts =
    MatchOption parts (template_left rest ≡ literal_alone (last_left rest))
    (λ x. (template_left rest ≡ behind_hole x.0.literal.now (hole_shown x.0) (template_left x.1)) × (left_len x.1 < left_len rest))
