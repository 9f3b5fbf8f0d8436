-- A template as holes, each behind its literal, and as pieces.
use Rattle.smithy_binding.proofs.Common.{◌≡◌, refl, ap, ◌∙◌, List, [], ◌∷◌, ◌++◌, ℕ, Option, Some, None, option_map, option_map_or, Http, Template, pieces, CutHole, hole_shown, behind_hole, behind_holes}
use Rattle.smithy_schema.specs.Templates.{Piece as Part}
use Rattle.smithy_schema.specs.Pieces.{in_turn}
use Rattle.smithy_schema.specs.declared.piece.Piece.{Piece}
use Rattle.smithy_binding.specs.views.LeftTemplates.{template_in}

-- a further hole
pub behind_holes-more : (hs : List CutHole) (h : CutHole) (t : Template) → behind_holes (hs ++ h ∷ []) t ≡ behind_holes hs (behind_hole h.literal.now (hole_shown h) t)
behind_holes-more [] h t = refl
behind_holes-more (g ∷ hs) h t = ap (behind_hole g.literal.now (hole_shown g)) (behind_holes-more hs h t)

pub ruleset holing = (behind_holes-more)

-- the pieces of a template are that template
in_turn-literal : (first : List ℕ) (rest : List Part) → template_in (in_turn (record { first = first; rest = rest })) ≡ record { first = first; rest = rest }
in_turn-literal first [] = refl
in_turn-literal first (p ∷ ps) = ap (behind_hole first p.hole) (in_turn-literal p.literal ps)

pub in_turn-is : (t : Template) → template_in (in_turn t) ≡ t
in_turn-is t = in_turn-literal t.first t.rest

-- the pieces that a schema keeps are those of its own template
pub own-pieces : (http : Option Http) (kept : List Piece) (endpoint : List ℕ) → Some kept ≡ option_map (λ h. in_turn (pieces h.uri)) http → template_in kept ≡ pieces (option_map_or (λ h. h.uri) http endpoint)
own-pieces None kept endpoint e = absurd (cc e)
own-pieces (Some h) kept endpoint e = let is : kept ≡ in_turn (pieces h.uri) = cc e in ap template_in is ∙ in_turn-is (pieces h.uri)

-- without a template of its own it keeps none
pub no-pieces : (http : Option Http) (endpoint : List ℕ) → None ≡ option_map (λ h. in_turn (pieces h.uri)) http → pieces endpoint ≡ pieces (option_map_or (λ h. h.uri) http endpoint)
no-pieces None endpoint e = refl
no-pieces (Some h) endpoint e = absurd (cc e)
