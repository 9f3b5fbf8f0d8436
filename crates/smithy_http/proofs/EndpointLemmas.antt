-- What is read of an address, and how a path loses its last slash.
use Rattle.std.proofs.Common.{◌≡◌, ◌≢◌, refl, ap, sym, ◌∙◌, subst, ℕ, Bool, true, false, List, [], ◌∷◌, ◌++◌, Some, None, ◌⊎◌, inl, inr, eqb-true, ◌==◌}
use Rattle.http_uri.specs.Uri.{Spells, SpellsNone, uri_scheme, uri_authority, uri_path}
use Rattle.http_uri.specs.declared.uri.Uri.{Uri}
use Rattle.http_uri.proofs.Theorems.{Spells_unique}
use Rattle.smithy_http.specs.Endpoints.{Address, IsNoAddress, IsJoined, joined_target, without_last_slash}

pub without_last_slash-ends : (xs : List ℕ) → without_last_slash (xs ++ 47 ∷ []) ≡ xs
without_last_slash-ends [] = refl
without_last_slash-ends (x ∷ []) = refl
without_last_slash-ends (x ∷ y ∷ xs) = ap (λ (t : List ℕ). x ∷ t) (without_last_slash-ends (y ∷ xs))

pub without_last_slash-keeps : (xs : List ℕ) → ((front : List ℕ) → xs ≢ front ++ 47 ∷ []) → without_last_slash xs ≡ xs
without_last_slash-keeps [] h = refl
without_last_slash-keeps (x ∷ []) h = go (x == 47) refl
  where
    go : (b : Bool) → (x == 47) ≡ b → without_last_slash (x ∷ []) ≡ x ∷ []
    go true q = absurd (h [] (ap (λ (t : ℕ). t ∷ []) (eqb-true x 47 q)))
    go false q = rw q refl
without_last_slash-keeps (x ∷ y ∷ xs) h =
    ap (λ (t : List ℕ). x ∷ t) (without_last_slash-keeps (y ∷ xs) (λ front e. h (x ∷ front) (ap (λ (t : List ℕ). x ∷ t) e)))

pub no_address-none : (text : List ℕ) → SpellsNone text → IsNoAddress text
no_address-none text none address is = none _ _ _ is.spelled

-- a URI without a scheme or an authority is no address
pub no_address-part : (text : List ℕ) (uri : Uri) → Spells text uri → (uri_scheme uri ≡ None) ⊎ (uri_authority uri ≡ None) → IsNoAddress text
no_address-part text uri spelled (inl none) address is =
    let same = Spells_unique text uri is.uri spelled is.spelled in absurd (let e : None ≡ Some address.scheme = sym none ∙ same.0 ∙ is.scheme in cc e)
no_address-part text uri spelled (inr none) address is =
    let same = Spells_unique text uri is.uri spelled is.spelled in absurd (let e : None ≡ Some address.authority = sym none ∙ same.1 ∙ is.authority in cc e)

-- what is joined to the address that was read is joined to the URL
pub joined-read : (url text prefix shown target joined : List ℕ) (uri : Uri) (address : Address) → Spells text uri → text ≡ url
    → (uri_scheme uri ≡ Some address.scheme) × (uri_authority uri ≡ Some address.authority) × (uri_path uri ≡ address.path)
    → joined ≡ joined_target address shown target → shown ≡ prefix → IsJoined url prefix target joined
joined-read url text prefix shown target joined uri address spelled is_url parts is_joined is_prefix =
    record {
      address = address;
      is_address = record { uri = uri; spelled = subst (λ t. Spells t uri) is_url spelled; scheme = parts.0; authority = parts.1; path = parts.2 };
      is_joined = is_joined ∙ ap (λ p. joined_target address p target) is_prefix;
    }
