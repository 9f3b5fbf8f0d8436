-- A header member with the name of a default has what was read of it, so no default stands in its place.
use Rattle.std.proofs.Common.{◌≡◌, refl, sym, ◌∙◌, ap, subst, ℕ, zero, suc, ◌+◌, arith, slice_get, nat_lt, eqb-true, eq-eqb, ◌==◌, cond, Bool, true, false, not, ◌&&◌, ◌||◌, List, [], ◌∷◌, ◌++◌, map, find, codes, decimal, length, Option, Some, None, option_map, option_and_then, option_to_list, is_some, is_none, IsTrue, if◌then◌else◌}
use Rattle.std.specs.Cmp.Lexicographic.{same_text as same_from_test}
use Rattle.std.specs.List.{list_all, list_any, enumerate_from, cons_option}
use Rattle.std.specs.Option.{option_map_or}
use Rattle.std.specs.Str.{str_to_ascii_lowercase}
use Rattle.std.proofs.lemmas.Bool.{and_from, or_left, or_right}
use Rattle.std.proofs.lemmas.List.Folds.{list_any-append}
use Rattle.smithy_types.specs.Grammars.{before_query}
use Rattle.smithy_types.specs.Texts.{found, same_text}
use Rattle.smithy_http.specs.Facts.{values_at}
use Rattle.smithy_http.specs.Requests.{Request}
use Rattle.smithy_schema.specs.Nodes.{Schema, member_at, members_of, Binding, to_header, binding_of}
use Rattle.smithy_schema.specs.WellMade.{is_well_made}
use Rattle.smithy_serde.specs.IndexOrder.{put_by, position_of, in_order}
use Rattle.smithy_serde.specs.Values.{Value, Write}
use Rattle.smithy_serde.specs.ValueRead.{write_by}
use Rattle.smithy_serde.specs.Writes.{Resolved, resolve, all_resolved, is_of, position_in}
use Rattle.std.specs.Bool.{then_some}
use Rattle.smithy_binding.proofs.Tests.{same_text_self}
use Rattle.smithy_binding.specs.Bindings.{headers}
use Rattle.smithy_binding.specs.Bodies.{Body, body}
use Rattle.smithy_binding.specs.Checked.{IsCheckedInput}
use Rattle.smithy_binding.specs.Faults.{is_placed_at}
use Rattle.smithy_binding.specs.Placing.{Protocol, OmitFlags, with_default, adds_content_type, adds_content_length, all_headers}
use Rattle.smithy_binding.specs.Typed.{wants_default, leaves_default, writes_default}
use Rattle.smithy_unambiguity.proofs.ByMember.{at_member, first_value}
use Rattle.smithy_unambiguity.proofs.ByName.{front, found-front}
use Rattle.smithy_unambiguity.proofs.HeaderNames.{headers_apart}
use Rattle.smithy_unambiguity.proofs.Headers.{header_values, headers_of_member}
use Rattle.smithy_unambiguity.proofs.HeadersTold.{header_kinds, one_header_value}
use Rattle.smithy_unambiguity.proofs.LastTexts.{last_value}
use Rattle.smithy_unambiguity.proofs.Members.{member_in_place}
use Rattle.smithy_unambiguity.proofs.Placed.{HasTypedWrites, placed_value, kinds_at}
use Rattle.smithy_unambiguity.proofs.Positions.{members_by_position, sound_input}
use Rattle.smithy_unambiguity.proofs.Queries.{values_at-append}
use Rattle.smithy_unambiguity.proofs.Traits.{trait_of}
use Rattle.smithy_recovery.specs.HeaderParts.{header_value, header_part}
use Rattle.smithy_recovery.specs.MemberParts.{part_writes, with_body}
use Rattle.smithy_recovery.specs.PathParts.{path_texts}
use Rattle.smithy_recovery.specs.Recovered.{Reading, template, part_at, body_writes, read_writes, writes_defaults}

-- Where nothing stands under a default's name, it is not added.

front_none : (xs ys : List (List ℕ)) → xs ++ ys ≡ [] → xs ≡ []
front_none [] ys e = refl
front_none (x ∷ xs) ys e = absurd (cc e)

-- what stands before a default has nothing under a name where all has nothing
before_default : (wanted : Bool) (name value at : List ℕ) (pairs : List (List ℕ × List ℕ)) → values_at at (with_default wanted name value pairs) ≡ [] → values_at at pairs ≡ []
before_default wanted name value at pairs e = go (wanted && is_none (found name pairs)) e
  where
    go : (t : Bool) → values_at at (if t then pairs ++ (name, value) ∷ [] else pairs) ≡ [] → values_at at pairs ≡ []
    go true h = front_none (values_at at pairs) (values_at at ((name, value) ∷ [])) (sym (values_at-append at pairs ((name, value) ∷ [])) ∙ h)
    go false h = h

no_one : (xs : List (List ℕ)) (x : List ℕ) → xs ++ x ∷ [] ≡ [] → ⊥
no_one [] x e = cc e
no_one (y ∷ xs) x e = cc e

one_at : (name value : List ℕ) → values_at name ((name, value) ∷ []) ≡ value ∷ []
one_at name value = ap (λ t. map (λ (q : List ℕ × List ℕ). q.1) (cond t ((name, value) ∷ []) [])) (same_text_self name)

unwanted : (wanted : Bool) (name value : List ℕ) (pairs : List (List ℕ × List ℕ)) → values_at name (with_default wanted name value pairs) ≡ [] → wanted ≡ false
unwanted wanted name value pairs e = go wanted (found name pairs) refl e
  where
    go : (w : Bool) (o : Option (List ℕ)) → found name pairs ≡ o → values_at name (if w && is_none o then pairs ++ (name, value) ∷ [] else pairs) ≡ [] → w ≡ false
    go false o is h = refl
    go true None is h =
        absurd (no_one (values_at name pairs) value (ap (λ vs. values_at name pairs ++ vs) (sym (one_at name value)) ∙ sym (values_at-append name pairs ((name, value) ∷ [])) ∙ h))
    go true (Some x) is h = let q : None ≡ Some x = ap front (sym h) ∙ sym (found-front name pairs) ∙ is in absurd (cc q)

not_wanted : (s a t c x : Bool) → (s ≡ true → a ≡ false) → (t ≡ true → c ≡ false) → (not ((s && a) || (t && c)) || x) ≡ true
not_wanted s a t c x typed long = λ i. not (none s a typed i || none t c long i) || x
  where
    none : (s a : Bool) → (s ≡ true → a ≡ false) → (s && a) ≡ false
    none true a h = h refl
    none false a h = refl

pub leaves_nothing : (protocol : Protocol) (b : Body) (omit : OmitFlags) (pairs : List (List ℕ × List ℕ)) (name : List ℕ) → values_at name (all_headers protocol b omit pairs) ≡ [] → leaves_default b omit pairs name ≡ true
leaves_nothing protocol b omit pairs name e =
    not_wanted (same_text name (codes "content-type")) (adds_content_type b omit) (same_text name (codes "content-length")) (adds_content_length b omit) (is_some (found name pairs)) typed long
  where
    kept : List (List ℕ × List ℕ)
    kept = with_default (adds_content_type b omit) (codes "content-type") protocol.content_type pairs

    typed : same_text name (codes "content-type") ≡ true → adds_content_type b omit ≡ false
    typed same =
        unwanted (adds_content_type b omit) (codes "content-type") protocol.content_type pairs
        (subst (λ (n : List ℕ). values_at n kept ≡ []) (same_from_test name (codes "content-type") (sym same))
        (before_default (adds_content_length b omit) (codes "content-length") (decimal (length b.bytes)) name kept e))

    long : same_text name (codes "content-length") ≡ true → adds_content_length b omit ≡ false
    long same =
        unwanted (adds_content_length b omit) (codes "content-length") (decimal (length b.bytes)) kept
        (subst (λ (n : List ℕ). values_at n (all_headers protocol b omit pairs) ≡ []) (same_from_test name (codes "content-length") (sym same)) e)

-- What is read of a member stands among the writes.

abbrev HasWrite : (Write → Bool) → List Write → Type 0
HasWrite test ws = list_any test ws ≡ true

any_put : (test : Write → Bool) (w : Write) (ws : List Write) → list_any test (put_by position_of w ws) ≡ (test w || list_any test ws)
any_put test w [] = refl
any_put test w (u ∷ ws) = go (nat_lt (position_of u) (position_of w)) (any_put test w ws)
  where
    turned : (a b c : Bool) → (a || (b || c)) ≡ (b || (a || c))
    turned true true c = refl
    turned true false c = refl
    turned false true c = refl
    turned false false c = refl

    go : (t : Bool) → list_any test (put_by position_of w ws) ≡ (test w || list_any test ws) → list_any test (cond t (u ∷ put_by position_of w ws) (w ∷ u ∷ ws)) ≡ (test w || (test u || list_any test ws))
    go true rest = ap (λ b. test u || b) rest ∙ turned (test u) (test w) (list_any test ws)
    go false rest = refl

any_order : (test : Write → Bool) (ws : List Write) → list_any test (in_order ws) ≡ list_any test ws
any_order test [] = refl
any_order test (w ∷ ws) = any_put test w (in_order ws) ∙ ap (λ b. test w || b) (any_order test ws)

-- each member has a part, and what it is stands among the writes
record HasPart (part : ℕ × Schema → Option (Option Value)) (i : ℕ) (m : Schema) (ws : List Write) : Type 0 where
  pub has : Option Value
  pub is : part (i, m) ≡ Some has
  pub written : (test : Write → Bool) (v : Value) → has ≡ Some v → test (write_by m v) ≡ true → HasWrite test ws

has_more : (test : Write → Bool) (o : Option Write) (ws : List Write) → HasWrite test ws → HasWrite test (cons_option o ws)
has_more test None ws h = h
has_more test (Some w) ws h = or_right (test w) (list_any test ws) h

part_written : (part : ℕ × Schema → Option (Option Value)) (k : ℕ) (ms : List Schema) (ws : List Write) → part_writes part (enumerate_from k ms) ≡ Some ws → (j : ℕ) (m : Schema) → slice_get ms j ≡ Some m → HasPart part (k + j) m ws
part_written part k [] ws e j m at = absurd (cc at)
part_written part k (x ∷ ms) ws e j m at = go (part (k, x)) (part_writes part (enumerate_from (k + 1) ms)) refl refl e j at (λ us h l. part_written part (k + 1) ms us h l m)
  where
    none_more : (i : ℕ) → i + 0 ≡ i
    none_more i = omega arith

    one_more : (i l : ℕ) → i + 1 + l ≡ i + suc l
    one_more i l = omega arith

    go : (o : Option (Option Value)) (rest : Option (List Write)) → part (k, x) ≡ o → part_writes part (enumerate_from (k + 1) ms) ≡ rest → option_and_then (λ (p : Option Value). option_map (cons_option (option_map (write_by x) p)) rest) o ≡ Some ws
        → (j : ℕ) → slice_get (x ∷ ms) j ≡ Some m → ((us : List Write) → part_writes part (enumerate_from (k + 1) ms) ≡ Some us → (l : ℕ) → slice_get ms l ≡ Some m → HasPart part (k + 1 + l) m us) → HasPart part (k + j) m ws
    go None rest is read h j there more = absurd (cc h)
    go (Some p) None is read h j there more = absurd (cc h)
    go (Some p) (Some us) is read h zero there more =
        let same : x ≡ m = cc there in
        let all : cons_option (option_map (write_by x) p) us ≡ ws = cc h in
        subst (λ (n : Schema). HasPart part (k + 0) n ws) same (subst (HasPart part (k + 0) x) all (record {
          has = p;
          is = ap (λ i. part (i, x)) (none_more k) ∙ is;
          written = λ test v q passes. rw q (or_left (test (write_by x v)) (list_any test us) passes);
        }))
    go (Some p) (Some us) is read h (suc l) there more =
        let all : cons_option (option_map (write_by x) p) us ≡ ws = cc h in
        let deep = more us read l there in
        subst (HasPart part (k + suc l) m) all (subst (λ i. HasPart part i m (cons_option (option_map (write_by x) p) us)) (one_more k l) (record {
          has = deep.has;
          is = deep.is;
          written = λ test v q passes. has_more test (option_map (write_by x) p) us (deep.written test v q passes);
        }))

-- the same of all that was read
record IsRead (r : Reading) (q : Request) (ws : List Write) : Type 0 where
  pub texts : List (List ℕ × List ℕ)
  pub parts : (j : ℕ) (m : Schema) → slice_get (members_of r.schema) j ≡ Some m → HasPart (λ p. part_at r q texts (binding_of p.1) p.1) j m ws

body_behind : (part : ℕ × Schema → Option (Option Value)) (ms : List Schema) (unbound : Option (List Write)) (ws : List Write) → with_body (part_writes part (enumerate_from 0 ms)) unbound ≡ Some ws → (j : ℕ) (m : Schema) → slice_get ms j ≡ Some m → HasPart part j m ws
body_behind part ms unbound ws e j m at = go unbound (part_writes part (enumerate_from 0 ms)) refl e
  where
    start : 0 + j ≡ j
    start = omega arith

    go : (o bound : Option (List Write)) → part_writes part (enumerate_from 0 ms) ≡ bound → with_body bound o ≡ Some ws → HasPart part j m ws
    go None None read h = absurd (cc h)
    go None (Some bs) read h = absurd (cc h)
    go (Some us) None read h = absurd (cc h)
    go (Some us) (Some bs) read h =
        let all : in_order (us ++ bs) ≡ ws = cc h in
        let own = subst (λ i. HasPart part i m bs) start (part_written part 0 ms bs read j m at) in
        subst (HasPart part j m) all (record {
          has = own.has;
          is = own.is;
          written = λ test v q passes. any_order test (us ++ bs) ∙ list_any-append test us bs ∙ or_right (list_any test us) (list_any test bs) (own.written test v q passes);
        })

is_read : (r : Reading) (q : Request) (ws : List Write) → read_writes r q ≡ Some ws → IsRead r q ws
unfolding read_writes
is_read r q ws e = go (path_texts (template r) (before_query q.target)) e
  where
    go : (o : Option (List (List ℕ × List ℕ))) → option_and_then (λ texts. with_body (part_writes (λ p. part_at r q texts (binding_of p.1) p.1) (enumerate_from 0 (members_of r.schema))) (body_writes r q)) o ≡ Some ws → IsRead r q ws
    go None h = absurd (cc h)
    go (Some texts) h = record { texts = texts; parts = body_behind (λ p. part_at r q texts (binding_of p.1) p.1) (members_of r.schema) (body_writes r q) ws h }

-- A write to a member is its first one, or another stands before it.

-- the write is for the member at a position
abbrev is_for : Schema → ℕ → Write → Bool
is_for schema i w = option_map_or (λ p. p == i) (resolve schema w.label) false

first_there : (schema : Schema) (i : ℕ) (m : Schema) (ws : List Write) → member_at schema i ≡ Some m → HasWrite (is_for schema i) ws → (v : Value) × (first_value schema ws i ≡ Some v)
first_there schema i m [] at e = absurd (cc e)
first_there schema i m (w ∷ ws) at e = go (resolve schema w.label) e (first_there schema i m ws at)
  where
    found_in : (o : Option Resolved) → Option Value
    found_in o = option_map (λ (r : Resolved). r.value) (find (is_of i) (cons_option o (all_resolved schema ws)))

    member : (p : ℕ) → (p == i) ≡ true → found_in (option_map (λ n. at_member p n w.value) (member_at schema p)) ≡ Some w.value
    member p same =
        ap (λ o. found_in (option_map (λ n. at_member p n w.value) o)) (ap (member_at schema) (eqb-true p i same) ∙ at)
        ∙ ap (λ t. option_map (λ (r : Resolved). r.value) (cond t (Some (at_member p m w.value)) (find (is_of i) (all_resolved schema ws)))) same

    other : (p : ℕ) (o : Option Schema) (v : Value) → (p == i) ≡ false → first_value schema ws i ≡ Some v → found_in (option_map (λ n. at_member p n w.value) o) ≡ Some v
    other p None v apart rest = rest
    other p (Some n) v apart rest =
        ap (λ t. option_map (λ (r : Resolved). r.value) (cond t (Some (at_member p n w.value)) (find (is_of i) (all_resolved schema ws)))) apart ∙ rest

    go : (o : Option ℕ) → (option_map_or (λ p. p == i) o false || list_any (is_for schema i) ws) ≡ true → (HasWrite (is_for schema i) ws → (v : Value) × (first_value schema ws i ≡ Some v))
        → (v : Value) × (found_in (option_and_then (λ p. option_map (λ n. at_member p n w.value) (member_at schema p)) o) ≡ Some v)
    go None h more = more h
    go (Some p) h more = by (p == i) refl h
      where
        by : (t : Bool) → (p == i) ≡ t → (t || list_any (is_for schema i) ws) ≡ true → (v : Value) × (found_in (option_map (λ n. at_member p n w.value) (member_at schema p)) ≡ Some v)
        by true same k = (w.value, member p same)
        by false apart k = let rest = more k in (rest.0, other p (member_at schema p) rest.0 apart rest.1)

-- a write by a member's node is for it
own_write : (schema : Schema) (i : ℕ) (m : Schema) (v : Value) → member_at schema i ≡ Some m → m.node.member_index ≡ Some i → is_for schema i (write_by m v) ≡ true
own_write schema i m v at index =
    ap (λ o. option_map_or (λ p. p == i) (position_in schema o m.node.member_name) false) index
    ∙ ap (λ (o : Option Schema). option_map_or (λ p. p == i) (then_some (is_some o) i) false) at
    ∙ eq-eqb i i refl

-- A header that stands in the request is read.

part_there : (m : Schema) (x : List ℕ) (xs : List (List ℕ)) (o : Option Value) → header_part m (x ∷ xs) ≡ Some o → (v : Value) × (o ≡ Some v)
part_there m x (y ∷ xs) o e = absurd (cc e)
part_there m x [] o e = go (header_value m x) e
  where
    go : (h : Option Value) → option_map (λ v. Some v) h ≡ Some o → (v : Value) × (o ≡ Some v)
    go None q = absurd (cc q)
    go (Some v) q = let same : Some v ≡ o = cc q in (v, sym same)

-- a member that was read has a header
header_written : (schema : Schema) (ws : List Write) (i : ℕ) (m : Schema) (name : List ℕ) (u : Value) → IsCheckedInput schema → HasTypedWrites schema ws → member_at schema i ≡ Some m → binding_of m ≡ to_header name → first_value schema ws i ≡ Some u
    → (t : List ℕ) × (values_at (str_to_ascii_lowercase name) (headers schema ws) ≡ t ∷ [])
header_written schema ws i m name u checked typed at header e =
    let x = one_header_value m u (header_kinds m name (trait_of m (to_header name) header) (kinds_at schema checked i m at)) (placed_value schema ws i m u typed at (ap is_placed_at header) e) in (
      x.0,
      headers_of_member schema ws i m name (headers_apart schema (sound_input schema checked)) at header
          ∙ ap (λ (o : Option Value). option_to_list (last_value (option_map_or (header_values m) o []))) e ∙ ap (λ vs. option_to_list (last_value vs)) x.1,
    )

found_one : (name text : List ℕ) (pairs : List (List ℕ × List ℕ)) → values_at name pairs ≡ text ∷ [] → is_some (found name pairs) ≡ true
found_one name text pairs e = ap is_some (found-front name pairs ∙ ap front e)

-- each member passes
pub each_passes : (test : Schema → Bool) (ms : List Schema) → ((j : ℕ) (m : Schema) → slice_get ms j ≡ Some m → test m ≡ true) → list_all test ms ≡ true
each_passes test [] each = refl
each_passes test (m ∷ ms) each = and_from (test m) (list_all test ms) (each 0 m refl) (each_passes test ms (λ j n at. each (suc j) n at))

-- So of what was read a header member with a default's name is written where that default would be added.
pub defaults_written : (r : Reading) (omit : OmitFlags) (q : Request) (ws : List Write) → IsCheckedInput r.schema → IsTrue (is_well_made r.schema) → HasTypedWrites r.schema ws → read_writes r q ≡ Some ws
    → ((name : List ℕ) → values_at name (all_headers r.protocol (body r.protocol.text_of r.schema ws) omit (headers r.schema ws)) ≡ values_at name q.headers) → writes_defaults r.protocol r.schema omit ws ≡ true
defaults_written r omit q ws checked well_made typed read seen = each_passes (λ m. writes_default b omit pairs (binding_of m)) (members_of r.schema) member
  where
    b : Body
    b = body r.protocol.text_of r.schema ws

    pairs : List (List ℕ × List ℕ)
    pairs = headers r.schema ws

    all : IsRead r q ws
    all = is_read r q ws read

    leaves : (i : ℕ) (m : Schema) (name : List ℕ) → slice_get (members_of r.schema) i ≡ Some m → binding_of m ≡ to_header name → leaves_default b omit pairs (str_to_ascii_lowercase name) ≡ true
    leaves i m name at header = go (values_at (str_to_ascii_lowercase name) q.headers) refl
      where
        lower : List ℕ
        lower = str_to_ascii_lowercase name

        own : HasPart (λ p. part_at r q all.texts (binding_of p.1) p.1) i m ws
        own = all.parts i m at

        there : member_at r.schema i ≡ Some m
        there = sym (members_by_position r.schema checked.cited i) ∙ at

        is : part_at r q all.texts (to_header name) m ≡ Some own.has
        is = subst (λ c. part_at r q all.texts c m ≡ Some own.has) header own.is

        go : (vs : List (List ℕ)) → values_at lower q.headers ≡ vs → leaves_default b omit pairs lower ≡ true
        go [] e = leaves_nothing r.protocol b omit pairs lower (seen lower ∙ e)
        go (x ∷ xs) e =
            let part : header_part m (x ∷ xs) ≡ Some own.has = ap (header_part m) (sym e) ∙ is in
            let v = part_there m x xs own.has part in
            let first = first_there r.schema i m ws there (own.written (is_for r.schema i) v.0 v.1 (own_write r.schema i m v.0 there (member_in_place r.schema i m well_made there).index)) in
            let written = header_written r.schema ws i m name first.0 checked typed there header first.1 in
            or_right (not (wants_default b omit lower)) (is_some (found lower pairs)) (found_one lower written.0 pairs written.1)

    member : (j : ℕ) (m : Schema) → slice_get (members_of r.schema) j ≡ Some m → writes_default b omit pairs (binding_of m) ≡ true
    member j m at = go (binding_of m) refl
      where
        go : (c : Binding) → binding_of m ≡ c → writes_default b omit pairs c ≡ true
        go (to_header name) e = leaves j m name at e
        go _ e = refl
