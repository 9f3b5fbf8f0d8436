-- A default header changes nothing at a name under which none is added.
use Rattle.smithy_unambiguity.proofs.Common.{◌≡◌, refl, sym, ◌∙◌, ap, subst, ℕ, Bool, true, false, not, cond, ◌&&◌, ◌||◌, List, [], ◌∷◌, ◌++◌, map, length, codes, decimal, Option, Some, None, is_some, is_none, if◌then◌else◌, append-nil, found, same_text, is_one_of, values_at, Body, Protocol, OmitFlags, with_default, adds_content_type, adds_content_length, all_headers, leaves_default, default_names, same_text_back, or_left, or_right, and_from, wants_default}
use Rattle.std.specs.Cmp.Lexicographic.{same_text as same_from_test}
use Rattle.smithy_unambiguity.proofs.Queries.{values_at-append}
use Rattle.smithy_unambiguity.proofs.ByName.{front, found-front}

-- what is not added at a name changes nothing there
values_at-with_default : (wanted : Bool) (name value at : List ℕ) (pairs : List (List ℕ × List ℕ)) → (same_text name at ≡ true → wanted ≡ true → is_some (found name pairs) ≡ true)
    → values_at at (with_default wanted name value pairs) ≡ values_at at pairs
values_at-with_default wanted name value at pairs stands = go wanted (found name pairs) (same_text name at) refl stands
  where
    go : (w : Bool) (o : Option (List ℕ)) (t : Bool) → same_text name at ≡ t → (t ≡ true → w ≡ true → is_some o ≡ true)
        → values_at at (if w && is_none o then pairs ++ (name, value) ∷ [] else pairs) ≡ values_at at pairs
    go false o t e h = refl
    go true (Some x) t e h = refl
    go true None true e h = absurd (let q = h refl refl in cc q)
    go true None false e h = values_at-append at pairs ((name, value) ∷ []) ∙ ap (λ b. values_at at pairs ++ map (λ (q : List ℕ × List ℕ). q.1) (cond b ((name, value) ∷ []) [])) e ∙ append-nil (values_at at pairs)

-- what is wanted stands
then_stands : (w s : Bool) → (not w || s) ≡ true → w ≡ true → s ≡ true
then_stands true s h e = h
then_stands false s h e = absurd (cc e)

pub all_headers_at : (protocol : Protocol) (b : Body) (omit : OmitFlags) (pairs : List (List ℕ × List ℕ)) (name : List ℕ) → leaves_default b omit pairs name ≡ true
    → values_at name (all_headers protocol b omit pairs) ≡ values_at name pairs
all_headers_at protocol b omit pairs name leaves =
    values_at-with_default (adds_content_length b omit) (codes "content-length") (decimal (length b.bytes)) name typed long ∙ kept
  where
    typed : List (List ℕ × List ℕ)
    typed = with_default (adds_content_type b omit) (codes "content-type") protocol.content_type pairs

    stands : wants_default b omit name ≡ true → is_some (found name pairs) ≡ true
    stands wanted = then_stands (wants_default b omit name) (is_some (found name pairs)) leaves wanted

    kept : values_at name (with_default (adds_content_type b omit) (codes "content-type") protocol.content_type pairs) ≡ values_at name pairs
    kept = values_at-with_default (adds_content_type b omit) (codes "content-type") protocol.content_type name pairs
        (λ same wanted. subst (λ (n : List ℕ). is_some (found n pairs) ≡ true) (sym (same_from_test (codes "content-type") name (sym same))) (stands (or_left _ _ (and_from _ _ (same_text_back (codes "content-type") name same) wanted))))

    long : same_text (codes "content-length") name ≡ true → adds_content_length b omit ≡ true → is_some (found (codes "content-length") typed) ≡ true
    long same wanted =
        let here = stands (or_right _ _ (and_from _ _ (same_text_back (codes "content-length") name same) wanted)) in
        let there : is_some (found name typed) ≡ true = ap is_some (found-front name typed ∙ ap front kept ∙ sym (found-front name pairs)) ∙ here in
        subst (λ (n : List ℕ). is_some (found n typed) ≡ true) (sym (same_from_test (codes "content-length") name (sym same))) there

-- at another name than the two defaults' none is added
pub leaves-elsewhere : (b : Body) (omit : OmitFlags) (pairs : List (List ℕ × List ℕ)) (name : List ℕ) → is_one_of name default_names ≡ false → leaves_default b omit pairs name ≡ true
leaves-elsewhere b omit pairs name e = go (same_text name (codes "content-type")) (same_text name (codes "content-length")) e
  where
    go : (s t : Bool) → (s || (t || false)) ≡ false → (not ((s && adds_content_type b omit) || (t && adds_content_length b omit)) || is_some (found name pairs)) ≡ true
    go true t h = absurd (cc h)
    go false true h = absurd (cc h)
    go false false h = refl
