-- Traits under their names.
use Rattle.std.proofs.Common.{◌≡◌, refl, sym, ap, ◌∙◌, ℕ, Bool, true, false, cond, Option, Some, None, option_map, List, [], ◌∷◌, String, Bor, Ordering, Less, Equal, Greater, string_bytes, string_cmp, nat_cmp}
use Rattle.std.specs.Global.{Global}
use Rattle.std.specs.BTreeMap.{insert_entry, is_at}
use Rattle.std.specs.Cmp.Lexicographic.{slice_cmp}
use Rattle.std.specs.Map.{lookup}
use Rattle.std.specs.Option.{option_copied}
use Rattle.std.specs.Ordering.{is_eq, match_ordering}
use Rattle.std.proofs.lemmas.Map.Text.{is_eq-slice_cmp}
use Rattle.std.proofs.lemmas.Slice.Eq.{bytes_eq-Decides}
use Rattle.smithy_types.specs.Maps.{with_value}
use Rattle.smithy_types.specs.Texts.{same_text}
use Rattle.smithy_schema.specs.declared.owned_trait.Trait.{Trait}
use Rattle.smithy_schema.specs.views.OwnedTraits.{name_of, value_of, entry_of}
use Rattle.smithy_schema.specs.views.TraitMaps.{entry_named, entries_kept, AreUnderTheirNames}

abbrev Entry : Type 0
Entry = String Global × Trait

-- the trait that a look-up by the bytes of a name finds
abbrev found : List ℕ → List Entry → Option Trait
found q es = lookup (is_at (λ (k : String Global). slice_cmp nat_cmp q (string_bytes k))) es

-- the trait that is found under a name has that name
found_named : (q : List ℕ) (es : List Entry) → AreUnderTheirNames es → option_map entry_of (found q es) ≡ entry_named q (entries_kept es)
found_named q [] h = refl
found_named q (e ∷ es) h =
    ap (λ b. option_map entry_of (cond b (Some e.1) (found q es))) (is_eq-slice_cmp q (string_bytes e.0))
    ∙ go (found_named q es h.1) (same_text q (string_bytes e.0)) refl
  where
    go : option_map entry_of (found q es) ≡ entry_named q (entries_kept es)
        → (b : Bool) → same_text q (string_bytes e.0) ≡ b → option_map entry_of (cond b (Some e.1) (found q es)) ≡ option_map (λ v. (q, v)) (cond b (Some (value_of e.1)) (lookup (same_text q) (entries_kept es)))
    go later true s =
        let same : q ≡ string_bytes e.0 = (bytes_eq-Decides q (string_bytes e.0)).0 s in
        ap (λ (n : List ℕ). Some (n, value_of e.1)) (h.0 ∙ sym same)
    go later false s = later

lent : (r : Option (Bor Trait)) (o : Option Trait) → option_copied r ≡ o → option_map (λ t. entry_of t.now) r ≡ option_map entry_of o
lent None o e = ap (option_map entry_of) e
lent (Some t) o e = ap (option_map entry_of) e

-- what a look-up lends
pub lent_named : (q : List ℕ) (es : List Entry) (r : Option (Bor Trait)) → AreUnderTheirNames es → option_copied r ≡ found q es
    → option_map (λ t. entry_of t.now) r ≡ entry_named q (entries_kept es)
lent_named q es r h e = lent r _ e ∙ found_named q es h

kept-match_ordering : (o : Ordering) (a b c : List Entry) → entries_kept (match_ordering o a b c) ≡ match_ordering o (entries_kept a) (entries_kept b) (entries_kept c)
kept-match_ordering Less a b c = refl
kept-match_ordering Equal a b c = refl
kept-match_ordering Greater a b c = refl

pub kept-insert_entry : (es : List Entry) (k : String Global) (t : Trait) → entries_kept (insert_entry string_cmp es k t) ≡ with_value (string_bytes k) (value_of t) (entries_kept es)
kept-insert_entry [] k t = refl
kept-insert_entry (e ∷ es) k t = kept-match_ordering (string_cmp k e.0) _ _ _ ∙ rw (kept-insert_entry es k t)

-- a trait that is put under its name leaves each under its own
pub put_under_its_name : (es : List Entry) (k : String Global) (t : Trait) → name_of t ≡ string_bytes k → AreUnderTheirNames es → AreUnderTheirNames (insert_entry string_cmp es k t)
put_under_its_name [] k t own h = (own, tt)
put_under_its_name (e ∷ es) k t own h = go (put_under_its_name es k t own h.1) (string_cmp k e.0) refl
  where
    go : AreUnderTheirNames (insert_entry string_cmp es k t) → (o : Ordering) → string_cmp k e.0 ≡ o → AreUnderTheirNames (match_ordering o ((k, t) ∷ e ∷ es) ((e.0, t) ∷ es) (e ∷ insert_entry string_cmp es k t))
    go later Less s = (own, h)
    go later Equal s =
        let same : string_bytes k ≡ string_bytes e.0 = (bytes_eq-Decides (string_bytes k) (string_bytes e.0)).0 (sym (is_eq-slice_cmp (string_bytes k) (string_bytes e.0)) ∙ ap is_eq s) in
        (own ∙ same, h.1)
    go later Greater s = (h.0, later)
