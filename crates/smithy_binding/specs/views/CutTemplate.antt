-- A template as the code cuts it: holes, each behind its literal, and the last literal.
use Rattle.std.specs.Prelude.{List, [], ◌∷◌}
use Rattle.smithy_binding.specs.Words.{CutHole, Template}
use Rattle.smithy_binding.specs.declared.template.CutTemplate.{CutTemplate}
pub use Rattle.smithy_schema.specs.CutHoles.{hole_shown, behind_hole, literal_alone}

abbrev pub behind_holes : List CutHole → Template → Template
behind_holes [] t = t
behind_holes (h ∷ hs) t = behind_hole h.literal.now (hole_shown h) (behind_holes hs t)

abbrev pub template_shown : CutTemplate → Template
template_shown t = behind_holes t.holes.items (literal_alone t.last.now)
