-- Escaped texts have no reserved byte.
use Rattle.smithy_unambiguity.proofs.Common.{◌≡◌, ◌≢◌, refl, sym, ◌∙◌, ap, ℕ, ◌⊎◌, inl, inr, arith, Bool, true, false, cond, ◌==◌, List, [], ◌∷◌, All, if◌then◌else◌, eqb-true, percent_encode_byte, Hole, is_unreserved, escape_byte, escape, hole_text, keep_slashes}
use Rattle.std.proofs.lemmas.List.Elements.{All-head, All-tail}
use Rattle.percent_encoding.proofs.PercentLemmas.{IsEscapeByte, All-percent_encode_byte}
use Rattle.smithy_unambiguity.proofs.Cuts.{HasNo, HasNo-append}

-- a byte that no escape has
pub record IsReserved (c : ℕ) : Type 0 where
  pub reserved : is_unreserved c ≡ false
  pub outside : (b : ℕ) → IsEscapeByte b → b ≢ c

outside_of : (c : ℕ) → (c ≡ 47) ⊎ ((c ≡ 63) ⊎ ((c ≡ 38) ⊎ (c ≡ 61))) → (b : ℕ) → IsEscapeByte b → b ≢ c
outside_of c is b (inl e) h = absurd (omega arith)
outside_of c is b (inr (inl e)) h = absurd (omega arith)
outside_of c is b (inr (inr e)) h = absurd (omega arith)

pub slash : IsReserved 47
slash = record { reserved = refl; outside = outside_of 47 (inl refl) }

pub question : IsReserved 63
question = record { reserved = refl; outside = outside_of 63 (inr (inl refl)) }

pub ampersand : IsReserved 38
ampersand = record { reserved = refl; outside = outside_of 38 (inr (inr (inl refl))) }

pub equals : IsReserved 61
equals = record { reserved = refl; outside = outside_of 61 (inr (inr (inr refl))) }

HasNo-escapes : (c : ℕ) → IsReserved c → (xs : List ℕ) → All IsEscapeByte xs → HasNo c xs
HasNo-escapes c is [] all = tt
HasNo-escapes c is (b ∷ xs) all = (is.outside b (All-head IsEscapeByte b xs all), HasNo-escapes c is xs (All-tail IsEscapeByte b xs all))

HasNo-escape_byte : (c : ℕ) → IsReserved c → (b : ℕ) → HasNo c (escape_byte b)
HasNo-escape_byte c is b = go (is_unreserved b) refl
  where
    go : (u : Bool) → is_unreserved b ≡ u → HasNo c (cond u (b ∷ []) (percent_encode_byte b))
    go true e = ((λ h. let q : true ≡ false = sym e ∙ ap is_unreserved h ∙ is.reserved in cc q), tt)
    go false e = HasNo-escapes c is (percent_encode_byte b) (All-percent_encode_byte b)

pub HasNo-escape : (c : ℕ) → IsReserved c → (text : List ℕ) → HasNo c (escape text)
unfolding escape
HasNo-escape c is [] = tt
HasNo-escape c is (b ∷ text) = HasNo-append c (escape_byte b) (escape text) (HasNo-escape_byte c is b) (HasNo-escape c is text)

-- where `/` is kept, it is the one reserved byte
HasNo-keep_slashes : (c : ℕ) → IsReserved c → c ≢ 47 → (text : List ℕ) → HasNo c (keep_slashes text)
HasNo-keep_slashes c is other [] = tt
HasNo-keep_slashes c is other (b ∷ text) = HasNo-append c (if b == 47 then b ∷ [] else escape_byte b) (keep_slashes text) (go (b == 47) refl) (HasNo-keep_slashes c is other text)
  where
    go : (t : Bool) → (b == 47) ≡ t → HasNo c (cond t (b ∷ []) (escape_byte b))
    go true e = ((λ h. other (sym h ∙ eqb-true b 47 e)), tt)
    go false e = HasNo-escape_byte c is b

pub HasNo-hole_text : (c : ℕ) → IsReserved c → c ≢ 47 → (hole : Hole) (text : List ℕ) → HasNo c (hole_text hole text)
HasNo-hole_text c is other hole text = go hole.greedy
  where
    go : (greedy : Bool) → HasNo c (cond greedy (keep_slashes text) (escape text))
    go true = HasNo-keep_slashes c is other text
    go false = HasNo-escape c is text
