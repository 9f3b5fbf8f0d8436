-- Templates cut into pieces.
use Rattle.std.proofs.Common.{◌≡◌, refl, codes, true, false, [], ◌∷◌}
use Rattle.smithy_schema.specs.Templates.{pieces}

pub two_holes : pieces (codes "/{Bucket}/{Key+}?x={y") ≡ record { first = codes "/"; rest = record { hole = record { name = codes "Bucket"; greedy = false }; literal = codes "/" } ∷ record { hole = record { name = codes "Key"; greedy = true }; literal = codes "?x={y" } ∷ [] }
unfolding pieces
two_holes = refl

pub odd_braces : pieces (codes "}a{b{c}") ≡ record { first = codes "}a"; rest = record { hole = record { name = codes "b{c"; greedy = false }; literal = [] } ∷ [] }
unfolding pieces
odd_braces = refl
