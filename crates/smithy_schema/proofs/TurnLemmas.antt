-- The pieces of a template, cut one hole at a time.
use Rattle.std.proofs.Common.{◌≡◌, sym, ap, ◌∙◌, List, [], ◌∷◌, ◌++◌, ℕ, append_assoc}
use Rattle.smithy_schema.specs.Templates.{Template, pieces}
use Rattle.smithy_schema.specs.declared.first_hole.CutHole.{CutHole}
use Rattle.smithy_schema.specs.declared.piece.Piece.{Piece}
use Rattle.smithy_schema.specs.declared.piece.Piece.TheVariants.{Literal, Hole}
use Rattle.smithy_schema.specs.views.CutHoles.{behind_hole, hole_shown, literal_alone}
use Rattle.smithy_schema.specs.views.Pieces.{in_turn, AddsHole}

-- one hole further
pub turn-more : (old new : List Piece) (h : CutHole) (t u : Template) → AddsHole h old new → u ≡ behind_hole h.literal.now (hole_shown h) t → new ++ in_turn t ≡ old ++ in_turn u
turn-more old new h t u adds e =
    ap (λ (ps : List Piece). ps ++ in_turn t) adds ∙ append_assoc old (Literal h.literal.now ∷ Hole h.name.now h.is_greedy ∷ []) (in_turn t)
    ∙ ap (λ (s : Template). old ++ in_turn s) (sym e)

-- no further hole
pub turn-end : (pieces : List Piece) (rest : List ℕ) (u : Template) → u ≡ literal_alone rest → pieces ++ in_turn u ≡ pieces ++ Literal rest ∷ []
turn-end pieces rest u e = ap (λ (s : Template). pieces ++ in_turn s) e

pub ruleset turns = (turn-more, turn-end)
