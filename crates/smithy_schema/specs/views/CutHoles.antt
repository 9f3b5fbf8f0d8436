-- A text cut at the first hole of the template that it is.
use Rattle.std.specs.Prelude.{◌≡◌, ◌<◌, ℕ, Bool, true, false, List, [], ◌∷◌, length, ◌==◌, Option, MatchOption}
use Rattle.std.specs.Borrow.{Bor}
use Rattle.std.specs.List.{slice_split, before_first, after_first}
use Rattle.smithy_types.specs.Texts.{has_byte}
use Rattle.smithy_schema.specs.Templates.{Hole, Template, pieces, hole_of}
use Rattle.smithy_schema.specs.declared.first_hole.CutHole.{CutHole}

-- a `}`
abbrev pub is_close : ℕ → Bool
is_close b = b == 125

-- a `{`
abbrev pub is_open : ℕ → Bool
is_open b = b == 123

abbrev pub hole_shown : CutHole → Hole
hole_shown h = record { name = h.name.now; greedy = h.is_greedy }

-- a literal and a hole before a template
abbrev pub behind_hole : List ℕ → Hole → Template → Template
behind_hole literal hole t = record { first = literal; rest = record { hole = hole; literal = t.first } ∷ t.rest }

-- a template without holes
abbrev pub literal_alone : List ℕ → Template
literal_alone text = record { first = text; rest = [] }

-- a text is cut at its first `}`, if it has one; what is behind is shorter
abbrev pub CutsAtClose : List ℕ → Option (Bor (List ℕ) × Bor (List ℕ)) → Type 0
CutsAtClose text parts =
    MatchOption parts (slice_split is_close text ≡ text ∷ [])
    (λ x. (slice_split is_close text ≡ x.0.now ∷ slice_split is_close x.1.now) × (length x.1.now < length text))

-- and at its first `{`
abbrev pub CutsAtOpen : List ℕ → Option (Bor (List ℕ) × Bor (List ℕ)) → Type 0
CutsAtOpen text parts =
    MatchOption parts (has_byte 123 text ≡ false)
    (λ x. (has_byte 123 text ≡ true) × (x.0.now ≡ before_first is_open text) × (x.1.now ≡ after_first is_open text) × (length x.1.now < length text))

-- the name of a hole that is greedy
abbrev pub IsGreedyName : List ℕ → Option (Bor (List ℕ)) → Type 0
IsGreedyName hole name =
    MatchOption name (hole_of hole ≡ record { name = hole; greedy = false }) (λ x. hole_of hole ≡ record { name = x.now; greedy = true })

-- a template is its first hole, if it has one, and a template behind it, which is shorter
abbrev pub CutsHole : List ℕ → Option (CutHole × Bor (List ℕ)) → Type 0
CutsHole text parts =
    MatchOption parts (pieces text ≡ literal_alone text)
    (λ x. (pieces text ≡ behind_hole x.0.literal.now (hole_shown x.0) (pieces x.1.now)) × (length x.1.now < length text))
