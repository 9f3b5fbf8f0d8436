-- The steps of a search for a member's text.
use Rattle.std.proofs.Common.{◌≡◌, sym, ap, ◌∙◌, ℕ, true, false, List, [], ◌∷◌, Option, None, if◌then◌else◌}
use Rattle.smithy_schema.specs.Nodes.{Table}
use Rattle.smithy_serde.specs.StoredValues.{label_at, value_in, listed}
use Rattle.smithy_serde.specs.declared.value.OneWrite.{OneWrite}
use Rattle.uses.specs.Members.{has_name, text_of, text_of_named}

-- what the writes that are left have
abbrev pub left_text : List ℕ → Table → List OneWrite → Option (List ℕ)
left_text name t ws = text_of_named name (listed t ws)

first : (name : List ℕ) (t : Table) (all rest : List OneWrite) (w : OneWrite) → all ≡ w ∷ rest
    → left_text name t all ≡ (if has_name name (label_at t w.node.0) then text_of (value_in t w.value) else left_text name t rest)
first name t all rest w is = ap (left_text name t) is

-- the first one isn't to the member
pub text_past : (name : List ℕ) (t : Table) (all rest : List OneWrite) (w : OneWrite) (found : Option (List ℕ)) → all ≡ w ∷ rest
    → has_name name (label_at t w.node.0) ≡ false → left_text name t all ≡ found → left_text name t rest ≡ found
text_past name t all rest w found is other h =
    sym (first name t all rest w is ∙ ap (λ b. if b then text_of (value_in t w.value) else left_text name t rest) other) ∙ h

-- the first one is
pub text_here : (name : List ℕ) (t : Table) (all rest : List OneWrite) (w : OneWrite) (found : Option (List ℕ)) → all ≡ w ∷ rest
    → has_name name (label_at t w.node.0) ≡ true → left_text name t all ≡ found → text_of (value_in t w.value) ≡ found
text_here name t all rest w found is here h =
    sym (first name t all rest w is ∙ ap (λ b. if b then text_of (value_in t w.value) else left_text name t rest) here) ∙ h

-- none is left
pub text_nowhere : (name : List ℕ) (t : Table) (all : List OneWrite) (found : Option (List ℕ)) → all ≡ [] → left_text name t all ≡ found → None ≡ found
text_nowhere name t all found is h = sym (ap (left_text name t) is) ∙ h
