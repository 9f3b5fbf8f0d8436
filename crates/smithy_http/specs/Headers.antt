-- Header fields: pairs of a lower-case name and the bytes of a value, in order (RFC 7230, section 3.2).
use Rattle.std.specs.Prelude.{ℕ, List, [], ◌∷◌, filter, not, if◌then◌else◌}
use Rattle.std.specs.Str.{str_to_ascii_lowercase}
use Rattle.smithy_types.specs.Texts.{same_text}

-- a name, which is kept in lower case, and its value
abbrev pub field : List ℕ → List ℕ → List ℕ × List ℕ
field name value = (str_to_ascii_lowercase name, value)

-- the pairs of other names
abbrev pub without : List ℕ → List (List ℕ × List ℕ) → List (List ℕ × List ℕ)
without name pairs = filter (λ p. not (same_text p.0 name)) pairs

-- The value stands at the first place of its name and the other values of the name go, or the pair goes last.
abbrev pub put : List (List ℕ × List ℕ) → List ℕ × List ℕ → List (List ℕ × List ℕ)
put [] p = p ∷ []
put (q ∷ qs) p = if same_text q.0 p.0 then (q.0, p.1) ∷ without p.0 qs else q ∷ put qs p

-- each pair is put, in order
abbrev pub put_all : List (List ℕ × List ℕ) → List (List ℕ × List ℕ) → List (List ℕ × List ℕ)
put_all done [] = done
put_all done (p ∷ ps) = put_all (put done p) ps
