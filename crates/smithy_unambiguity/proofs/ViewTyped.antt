-- The normal form is typed, from what is known of each of its writes and of its target.
use Rattle.smithy_unambiguity.proofs.Common.{◌≡◌, refl, sym, ◌∙◌, ap, ℕ, Bool, true, false, not, ◌&&◌, ◌||◌, ◌==◌, List, [], ◌∷◌, ◌++◌, filter, Some, None, option_to_list, is_some, IsTrue, if◌then◌else◌, AllByRecursion, list_all, list_any, enumerate_from, option_map_or, option_or, str_to_ascii_lowercase, values_at, unless, Schema, member_at, members_of, Binding, to_header, binding_of, is_bound, Value, Write, label_of, is_in_range, are_in_range, fits_member, Resolved, resolve, all_resolved, firsts, has_seen, headers, inserted_at, Body, body, IsCheckedInput, no_member, wrong_kind, resolved_fault, write_fault, writes_fault, bound_fault, value_fault, pairs_fault, is_placed_at, is_well_made, view, member_view, Protocol, OmitFlags, has_distinct_keys, has_own_formats, is_placed_typed, has_no_default_name, wants_default, writes_default, is_shaped_write, is_codec_payload, is_shaped_payload, is_shaped, list_all-same, not-true}
use Rattle.smithy_unambiguity.proofs.ByMember.{at_member}
use Rattle.smithy_unambiguity.proofs.ByName.{found-front, front}
use Rattle.smithy_unambiguity.proofs.Firsts.{all_firsts}
use Rattle.smithy_unambiguity.proofs.Lists.{all_apply, all_kept, all_made, test_from_all}
use Rattle.smithy_unambiguity.proofs.Positions.{members_placed}
use Rattle.smithy_unambiguity.proofs.BodyObject.{IsBodied}
use Rattle.smithy_unambiguity.proofs.ViewBody.{all_of_view}
use Rattle.smithy_unambiguity.proofs.ViewWrites.{own_is_resolved}

-- What the normal form has for a member: what is asked of a write of it, but for the document.
pub record IsViewed (m : Schema) (u : Value) : Type 0 where
  pub fits : fits_member m u ≡ true
  pub in_range : is_in_range u ≡ true
  pub fault : is_placed_at (binding_of m) ≡ true → option_or (value_fault m u) (pairs_fault m (inserted_at (binding_of m) m u)) ≡ None
  pub typed : (not (is_placed_at (binding_of m)) || (has_distinct_keys u && has_own_formats m u)) ≡ true
  pub unlike : has_no_default_name (binding_of m) (at_member 0 m u) ≡ true
  pub codec : (not (is_codec_payload m) || is_shaped (Some m) u) ≡ true

-- each member's part is so
abbrev pub HasViewed : Schema → List Write → Type 0
HasViewed schema ws = (i : ℕ) (m : Schema) (u : Value) → member_at schema i ≡ Some m → member_view schema ws i m ≡ Some u → IsViewed m u

-- The writes of the normal form have no fault.

pub writes_of_view : (P : Write → Type 0) (schema : Schema) (ws : List Write) → IsCheckedInput schema
    → ((i : ℕ) (m : Schema) (u : Value) → member_at schema i ≡ Some m → member_view schema ws i m ≡ Some u → P (record { label = label_of m; value = u })) → AllByRecursion P (view schema ws)
unfolding view
writes_of_view P schema ws checked has =
    all_made P (λ p u. record { label = label_of p.1; value = u }) (λ p. member_view schema ws p.0 p.1) (enumerate_from 0 (members_of schema))
    (all_apply (λ p. member_at schema p.0 ≡ Some p.1) (λ p. (u : Value) → member_view schema ws p.0 p.1 ≡ Some u → P (record { label = label_of p.1; value = u })) (enumerate_from 0 (members_of schema))
    (λ p at u e. has p.0 p.1 u at e) (members_placed schema checked))

no_write_fault : (schema : Schema) (ws : List Write) → AllByRecursion (λ w. (seen : List ℕ) → write_fault schema seen w ≡ None) ws → (seen : List ℕ) → writes_fault schema seen ws ≡ None
unfolding writes_fault
no_write_fault schema [] all seen = refl
no_write_fault schema (w ∷ ws) all seen =
    ap (λ o. option_or o (writes_fault schema (seen ++ option_to_list (resolve schema w.label)) ws)) (all.0 seen) ∙ no_write_fault schema ws all.1 (seen ++ option_to_list (resolve schema w.label))

viewed_fault : (schema : Schema) (i : ℕ) (m : Schema) (u : Value) → is_well_made schema ≡ true → member_at schema i ≡ Some m → IsViewed m u → (seen : List ℕ) → write_fault schema seen (record { label = label_of m; value = u }) ≡ None
viewed_fault schema i m u well_made at is seen =
    ap (λ o. option_map_or (resolved_fault seen) o (Some (no_member (label_of m)))) (own_is_resolved schema i m u well_made at)
    ∙ ap (λ t. option_or (unless t (wrong_kind m u)) (if is_placed_at (binding_of m) && not (has_seen seen i) then bound_fault (at_member i m u) else None)) is.fits
    ∙ go (is_placed_at (binding_of m)) refl
  where
    go : (t : Bool) → is_placed_at (binding_of m) ≡ t → (if is_placed_at (binding_of m) && not (has_seen seen i) then bound_fault (at_member i m u) else None) ≡ None
    go false e = ap (λ b. if b && not (list_any (λ j. j == i) seen) then bound_fault (at_member i m u) else None) e
    go true e = by (is_placed_at (binding_of m) && not (has_seen seen i))
      where
        by : (b : Bool) → (if b then bound_fault (at_member i m u) else None) ≡ None
        by true = is.fault e
        by false = refl

pub view_writes_conform : (schema : Schema) (ws : List Write) → IsCheckedInput schema → is_well_made schema ≡ true → HasViewed schema ws → writes_fault schema [] (view schema ws) ≡ None
view_writes_conform schema ws checked well_made viewed =
    no_write_fault schema (view schema ws) (writes_of_view (λ w. (seen : List ℕ) → write_fault schema seen w ≡ None) schema ws checked (λ i m u at e. viewed_fault schema i m u well_made at (viewed i m u at e))) []

pub view_in_range : (schema : Schema) (ws : List Write) → IsCheckedInput schema → HasViewed schema ws → are_in_range (view schema ws) ≡ true
view_in_range schema ws checked viewed =
    test_from_all (λ w. is_in_range w.value) (view schema ws) (writes_of_view (λ w. is_in_range w.value ≡ true) schema ws checked (λ i m u at e. (viewed i m u at e).in_range))

-- The tests of first writes.

pub view_placed_values : (schema : Schema) (ws : List Write) → IsCheckedInput schema → is_well_made schema ≡ true → HasViewed schema ws → AllByRecursion (λ r. IsTrue (is_placed_typed r)) (firsts schema (view schema ws))
view_placed_values schema ws checked well_made viewed =
    all_firsts (λ r. IsTrue (is_placed_typed r)) (all_resolved schema (view schema ws)) (all_of_view (λ r. IsTrue (is_placed_typed r)) schema ws checked well_made (λ i m u at e. (viewed i m u at e).typed))

pub view_prefixed : (schema : Schema) (ws : List Write) → IsCheckedInput schema → is_well_made schema ≡ true → HasViewed schema ws → AllByRecursion (λ r. IsTrue (has_no_default_name (binding_of r.member) r)) (firsts schema (view schema ws))
view_prefixed schema ws checked well_made viewed =
    all_firsts (λ r. IsTrue (has_no_default_name (binding_of r.member) r)) (all_resolved schema (view schema ws))
    (all_of_view (λ r. IsTrue (has_no_default_name (binding_of r.member) r)) schema ws checked well_made (λ i m u at e. any_position i m u (viewed i m u at e).unlike))
  where
    any_position : (i : ℕ) (m : Schema) (u : Value) → has_no_default_name (binding_of m) (at_member 0 m u) ≡ true → has_no_default_name (binding_of m) (at_member i m u) ≡ true
    any_position i m u = go (binding_of m)
      where
        go : (b : Binding) → has_no_default_name b (at_member 0 m u) ≡ true → has_no_default_name b (at_member i m u) ≡ true
        go (to_header n) h = h
        go _ h = h

pub view_payload_shaped : (schema : Schema) (ws : List Write) → IsCheckedInput schema → is_well_made schema ≡ true → HasViewed schema ws → is_shaped_payload schema (view schema ws) ≡ true
view_payload_shaped schema ws checked well_made viewed =
    test_from_all (λ r. not (is_codec_payload r.member) || is_shaped_write r) (firsts schema (view schema ws))
    (all_firsts (λ r. (not (is_codec_payload r.member) || is_shaped_write r) ≡ true) (all_resolved schema (view schema ws))
    (all_of_view (λ r. (not (is_codec_payload r.member) || is_shaped_write r) ≡ true) schema ws checked well_made (λ i m u at e. (viewed i m u at e).codec)))

-- The fields that speak of the whole input.

pub unbound_are_shaped : (schema : Schema) (rs : List Resolved) → AllByRecursion (IsBodied is_bound schema) rs → AllByRecursion (λ r. IsTrue (is_shaped_write r)) (filter (λ r. not (is_bound r.member)) rs)
unbound_are_shaped schema rs all = all_kept (IsBodied is_bound schema) (λ r. IsTrue (is_shaped_write r)) (λ r. not (is_bound r.member)) rs (λ r free bodied. bodied.shaped (not-true (is_bound r.member) free)) all

-- a default is left out beside the same body and the same headers
writes_default_same : (b : Body) (omit : OmitFlags) (ps qs : List (List ℕ × List ℕ)) (c : Binding) → ((name : List ℕ) → values_at name ps ≡ values_at name qs) → writes_default b omit ps c ≡ writes_default b omit qs c
writes_default_same b omit ps qs (to_header n) same =
    ap (λ o. not (wants_default b omit (str_to_ascii_lowercase n)) || is_some o) (found-front (str_to_ascii_lowercase n) ps ∙ ap front (same (str_to_ascii_lowercase n)) ∙ sym (found-front (str_to_ascii_lowercase n) qs))
writes_default_same b omit ps qs _ same = refl

pub view_defaults : (protocol : Protocol) (schema : Schema) (omit : OmitFlags) (ws : List Write) → body protocol.text_of schema (view schema ws) ≡ body protocol.text_of schema ws
    → ((name : List ℕ) → values_at name (headers schema (view schema ws)) ≡ values_at name (headers schema ws))
    → list_all (λ m. writes_default (body protocol.text_of schema ws) omit (headers schema ws) (binding_of m)) (members_of schema) ≡ true
    → list_all (λ m. writes_default (body protocol.text_of schema (view schema ws)) omit (headers schema (view schema ws)) (binding_of m)) (members_of schema) ≡ true
view_defaults protocol schema omit ws bodies same e =
    ap (λ b. list_all (λ m. writes_default b omit (headers schema (view schema ws)) (binding_of m)) (members_of schema)) bodies
    ∙ list_all-same (λ m. writes_default (body protocol.text_of schema ws) omit (headers schema (view schema ws)) (binding_of m)) (λ m. writes_default (body protocol.text_of schema ws) omit (headers schema ws) (binding_of m))
    (λ m. writes_default_same (body protocol.text_of schema ws) omit (headers schema (view schema ws)) (headers schema ws) (binding_of m) same) (members_of schema)
    ∙ e
