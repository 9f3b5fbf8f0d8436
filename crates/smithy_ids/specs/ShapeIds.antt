-- What an identifier of a shape is (Smithy, shape ID): `namespace#shape`, and for a member `namespace#shape$member`.
use Rattle.std.specs.Prelude.{◌≡◌, ℕ, Bool, true, false, ◌==◌, List, [], ◌∷◌, ◌++◌, Option, Some, None, if◌then◌else◌, MatchOption}
use Rattle.std.specs.Borrow.{Bor}
use Rattle.std.specs.List.{list_any, before_first, after_first}

pub record Parts : Type 0 where
  pub full_name : List ℕ
  pub namespace : List ℕ
  pub shape_name : List ℕ
  pub member_name : Option (List ℕ)

-- the parts of this full name
abbrev pub parts_with : List ℕ → List ℕ → List ℕ → Option (List ℕ) → Parts
parts_with full namespace shape member =
    record { full_name = full; namespace = namespace; shape_name = shape; member_name = member }

abbrev pub is_hash : ℕ → Bool
is_hash b = b == 35

abbrev pub is_dollar : ℕ → Bool
is_dollar b = b == 36

abbrev pub has_hash : List ℕ → Bool
has_hash text = list_any is_hash text

abbrev pub has_dollar : List ℕ → Bool
has_dollar text = list_any is_dollar text

-- `$` and the member's name, where there is one
abbrev pub member_text : Option (List ℕ) → List ℕ
member_text None = []
member_text (Some name) = 36 ∷ name

-- the full name that the parts make
abbrev pub joined_name : List ℕ → List ℕ → Option (List ℕ) → List ℕ
joined_name namespace shape_name member_name = namespace ++ 35 ∷ (shape_name ++ member_text member_name)

-- the full name is made of these parts: no `#` in the namespace, no `$` in the shape's name
pub record AreParts (parts : Parts) : Type 0 where
  pub spelled : parts.full_name ≡ joined_name parts.namespace parts.shape_name parts.member_name
  pub no_hash : has_hash parts.namespace ≡ false
  pub no_dollar : has_dollar parts.shape_name ≡ false

-- the member's name in what follows the first `#`
abbrev pub member_in : List ℕ → Option (List ℕ)
member_in text = if has_dollar text then Some (after_first is_dollar text) else None

-- the parts of a full name, cut at its first `#` and then at the first `$`; none where it has no `#`
abbrev pub parts_in : List ℕ → Option Parts
parts_in name =
    if has_hash name
    then Some (record {
      full_name = name;
      namespace = before_first is_hash name;
      shape_name = before_first is_dollar (after_first is_hash name);
      member_name = member_in (after_first is_hash name);
    })
    else None

-- the full name is cut into these parts
abbrev pub HasParts : List ℕ → List ℕ → Option (List ℕ) → List ℕ → Type 0
HasParts namespace shape member full = parts_in full ≡ Some (parts_with full namespace shape member)

-- a text in two at its first byte b
pub record IsCutAt (b : ℕ) (text front back : List ℕ) : Type 0 where
  pub has : list_any (λ c. c == b) text ≡ true
  pub before : front ≡ before_first (λ c. c == b) text
  pub after : back ≡ after_first (λ c. c == b) text
  pub lacks : list_any (λ c. c == b) front ≡ false
  pub spelled : text ≡ front ++ b ∷ back

-- the parts of a text round its first byte b, none where it lacks b
abbrev pub CutsAt : ℕ → List ℕ → Option (Bor (List ℕ) × Bor (List ℕ)) → Type 0
CutsAt b text r = MatchOption r (list_any (λ c. c == b) text ≡ false) (λ x. IsCutAt b text x.0.now x.1.now)

-- equal full names have equal parts
abbrev pub NamesTellParts : Type 0
NamesTellParts = (a b : Parts) → AreParts a → AreParts b → a.full_name ≡ b.full_name → a ≡ b
