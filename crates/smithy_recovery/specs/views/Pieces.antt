-- The pieces of a query that are left, and those that are kept by their names.
use Rattle.std.specs.Prelude.{◌≡◌, ℕ, ◌==◌, List, [], ◌∷◌, ◌++◌, length, drop, map, Option, Some, None, String, Vec}
use Rattle.std.specs.Borrow.{Bor}
use Rattle.std.specs.BTreeMap.{BTreeMap, get_by_text}
use Rattle.std.specs.Global.{Global}
use Rattle.std.specs.List.{slice_split}
use Rattle.std.specs.Option.{option_map_or}
use Rattle.smithy_types.specs.Results.{each}
use Rattle.smithy_http.specs.Facts.{values_at, named_piece}
use Rattle.smithy_recovery.specs.QueryParts.{piece_text, pieces_named}

-- the pieces between `&`
abbrev pub pieces_of : List ℕ → List (List ℕ)
pieces_of query = slice_split (λ b. b == 38) query

-- the pieces of a query, by what its first `&` stands between
abbrev pub cut_pieces : List ℕ → Option (Bor (List ℕ) × Bor (List ℕ)) → List (List ℕ)
cut_pieces query None = query ∷ []
cut_pieces query (Some cut) = cut.0.now ∷ pieces_of cut.1.now

-- the pieces of a query that is left, if any is
abbrev pub pieces_left : Option (Bor (List ℕ)) → List (List ℕ)
pieces_left None = []
pieces_left (Some query) = pieces_of query.now

-- the same, by the first piece and what is left behind it
abbrev pub next_pieces : Option (Bor (List ℕ) × Option (Bor (List ℕ))) → List (List ℕ)
next_pieces None = []
next_pieces (Some next) = next.0.now ∷ pieces_left next.1

-- the pieces under a name
unfoldable pub pieces_under : BTreeMap (String Global) (Vec (Bor (List ℕ)) Global) → List ℕ → List (List ℕ)
pieces_under pieces name = option_map_or (λ v. map (λ p. p.now) v.items) (get_by_text pieces name) []

abbrev pub NamedPieces : Type 0
NamedPieces = BTreeMap (String Global) (Vec (Bor (List ℕ)) Global)

-- under each name stand the pieces of that name
abbrev pub HasPieces : List (List ℕ) → NamedPieces → Type 0
HasPieces ps pieces = (name : List ℕ) → pieces_under pieces name ≡ pieces_named name ps

-- a piece stands behind the others of its name
abbrev pub AddsPiece : List ℕ → (before after : NamedPieces) → Type 0
AddsPiece piece before after =
    (name : List ℕ) → pieces_under after name ≡ pieces_under before name ++ values_at name (named_piece piece ∷ [])

-- pieces, if there are any
abbrev pub shown_pieces : Option (Bor (List (Bor (List ℕ)))) → List (List ℕ)
shown_pieces None = []
shown_pieces (Some ps) = map (λ p. p.now) ps.now

-- the pieces under a name behind as many as a template has of it
abbrev pub named_left : (own pieces : NamedPieces) → (name : List ℕ) → List (List ℕ)
named_left own pieces name = drop (length (pieces_under own name)) (pieces_under pieces name)

-- They tell which pieces of a query are left under each name, behind as many as its own template has of it.
abbrev pub HasLeft : (owned ps : List (List ℕ)) → (own pieces : NamedPieces) → Type 0
HasLeft owned ps own pieces =
    (name : List ℕ) → named_left own pieces name ≡ drop (length (pieces_named name owned)) (pieces_named name ps)

-- their texts
abbrev pub texts_left : (own pieces : NamedPieces) → (name : List ℕ) → Option (List (List ℕ))
texts_left own pieces name = each piece_text (named_left own pieces name)
