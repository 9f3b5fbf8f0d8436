-- What a response has behind a prefix is read as the map that was written.
use Rattle.smithy_served.proofs.Common.{map_fault-in, has_prefix_kind, message_headers, as_output, keep_defaults, entry_of, keys_behind_lower, prefixed_in, values_named, handed_out, in_prefix, source_of, entries, read_scalar, all_read, entry_by, joined, map_by, value_by_kind, value_within, value_read, SerdeError, first_value, prefix_view, begins_no_default, is_trimmed, is_typed_at, AllByRecursion, Bool, Held, Label, List, None, Ok, Option, Protocol, Result, Scalar, Schema, Some, Value, Write, Writes, [], and_parts, ap, binding_of, body, cond, default_names, entries_of, entry_writes, false, false_from_ne_true, fits, has_at_most_one, has_distinct_keys, headers, in_key_order, in_lower_case, inserted_at, is_in_range, is_none, is_one_of, is_outside_body, is_placed_at, is_plain_string, is_some, is_text_map, is_utf8, item_fault, key_fault, key_of, list_all, list_any, map, map-append, map_entries, member-passes, members_of, members_with, nat_eq, not, no_year, one_kind, option_map_or, option_or, option_to_list, or_right, own_entries, pairs_fault, prefixes, refl, same_kind, same_text, starts_with, str_to_ascii_lowercase, subst, sym, text_of_key, texts, then_give, then_try, true, unless, unwrap_or, value_fault, value_of, values_at, writes_of, ℕ, ◌&&◌, ◌++◌, ◌||◌, ◌∙◌, ◌∷◌, ◌≡◌, no_first, all_headers_at, leaves-elsewhere, headers_apart, starts-self, given, map_pairs, last_at, last_value, lowered, values_all, all_from_test, at_name, members_by_position, IfSome, Prefixed}
use Rattle.std.specs.Cmp.Lexicographic.{same_text as same_from_test}
use Rattle.std.proofs.lemmas.Simd.{map-map}
use Rattle.smithy_types.specs.Maps.{all_put}
use Rattle.smithy_ids.specs.declared.shape_type.ShapeType.TheVariants as kind
use Rattle.smithy_http.proofs.ValueLemmas.{lower_twice}
use Rattle.smithy_serde.specs.Held as held
use Rattle.smithy_serde.specs.Values as value
use Rattle.smithy_binding.proofs.CheckedLaws.{prefix_kinds}
use Rattle.smithy_binding.specs.declared.direction.Direction.TheVariants as direction
use Rattle.smithy_unambiguity.proofs.EntriesTold.{as_text, in_order, lower_entries, ordered_told, own_text_entries}
use Rattle.smithy_unambiguity.proofs.MapsTold.{written_pairs, not_lower, headers_behind}
use Rattle.smithy_unambiguity.proofs.PairLemmas.{valued}
use Rattle.smithy_unambiguity.proofs.TextsBytes.{IsEntryInRange, map_in_range, text_utf8}
use Rattle.smithy_unambiguity.proofs.ViewValues.{ordered_last}
use Rattle.smithy_served.proofs.MemberHanded.{HandsSame}
use Rattle.smithy_served.proofs.Alike.{none_is, first_value-out}
use Rattle.smithy_served.proofs.Messages.{StandsIn, stands_in}
use Rattle.smithy_served.proofs.Conforming.{IsMember, at_out, message, fitting, fits_kind, unfaulted, typed_value}
use Rattle.smithy_served.proofs.Scalars.{text_read}
use Rattle.smithy_served.proofs.Behind.{has_value, is_behind, all_of, last_keyed}

-- a name with the front is none of these, where the front begins none of them
any_front : (low key : List ℕ) (names : List (List ℕ)) → is_one_of (low ++ key) names ≡ true → list_any (λ name. starts_with nat_eq name low) names ≡ true
any_front low key [] e = absurd (cc e)
any_front low key (n ∷ names) e = go (same_text (low ++ key) n) refl e (any_front low key names)
  where
    go : (t : Bool) → same_text (low ++ key) n ≡ t → (t || is_one_of (low ++ key) names) ≡ true → (is_one_of (low ++ key) names ≡ true → list_any (λ name. starts_with nat_eq name low) names ≡ true)
        → (starts_with nat_eq n low || list_any (λ name. starts_with nat_eq name low) names) ≡ true
    go true is h rest = ap (λ t. t || list_any (λ name. starts_with nat_eq name low) names) (ap (λ x. starts_with nat_eq x low) (sym (same_from_test (low ++ key) n (sym is))) ∙ starts-self low key)
    go false is h rest = or_right (starts_with nat_eq n low) (list_any (λ name. starts_with nat_eq name low) names) (rest h)

-- Texts that are read whole.

abbrev IsWhole : List ℕ → Type 0
IsWhole t = (is_utf8 t ≡ true) × (is_trimmed t ≡ true)

entries_whole : (es : List (List ℕ × Value)) → AllByRecursion IsEntryInRange es → list_all (λ e. is_trimmed (text_of_key e.1)) es ≡ true → AllByRecursion (λ p. IsWhole p.1) (lowered (valued text_of_key es))
entries_whole [] range trimmed = tt
entries_whole (e ∷ es) range trimmed =
    let parts = and_parts (is_trimmed (text_of_key e.1)) (list_all (λ e. is_trimmed (text_of_key e.1)) es) trimmed in
    ((text_utf8 e.1 range.0.1, parts.0), entries_whole es range.1 parts.1)

last_has : (P : List ℕ → Type 0) (vs : List (List ℕ)) → AllByRecursion P vs → IfSome (last_value vs) P
last_has P [] all = tt
last_has P (v ∷ vs) all = go (last_value vs) (last_has P vs all.1)
  where
    go : (o : Option (List ℕ)) → IfSome o P → IfSome (option_or o (Some v)) P
    go None rest = all.0
    go (Some x) rest = rest

-- The read of entries.

abbrev IsPlain : Schema → Type 0
IsPlain n = (n.node.kind ≡ kind.String) × (n.node.traits.media_type ≡ None)

plain_node : (o : Option Schema) → is_plain_string o ≡ true → (n : Schema) × (o ≡ Some n) × IsPlain n
plain_node None e = absurd (cc e)
plain_node (Some n) e =
    let parts = and_parts (same_kind n.node.kind kind.String) (is_none n.node.traits.media_type) e in
    (n, refl, (one_kind n.node.kind kind.String parts.0, none_is n.node.traits.media_type parts.1))

entry_read : (n : Schema) (name t : List ℕ) → IsPlain n → IsWhole t → value_within 2 n (held.header name (t ∷ [])) ≡ Ok (as_text t)
unfolding read_scalar
entry_read n name t is whole =
    ap (λ k. value_by_kind (value_within 1) k n (held.header name (t ∷ []))) is.0
    ∙ ap (λ (r : Result Scalar SerdeError). then_give r (λ x. value.scalar x)) (text_read n name t (value.text t) None is.1 refl refl whole.0 refl refl (λ plain. whole.1))

all_back : {K A B : Type 0} (read : A → Result B SerdeError) (g : K → A) (f : K → B) (ks : List K) → AllByRecursion (λ k. read (g k) ≡ Ok (f k)) ks → all_read read (map g ks) ≡ Ok (map f ks)
all_back read g f [] all = refl
all_back read g f (k ∷ ks) all = λ i. then_try (all.0 i) (λ y. then_give (all_back read g f ks all.1 i) (λ ys. y ∷ ys))

entries_of-read : (k n : Schema) (text : List ℕ → List ℕ) (keys : List (List ℕ)) → entries_of (writes_of (joined (map (λ key. entry_by k n key (as_text (text key))) keys))) ≡ valued as_text (map (λ key. (key, text key)) keys)
entries_of-read k n text [] = refl
entries_of-read k n text (key ∷ keys) = ap (λ es. (key, as_text (text key)) ∷ es) (entries_of-read k n text keys)

entries_of-written : (k v : Label) (es : List (List ℕ × Value)) → entries_of (entry_writes k v es) ≡ es
entries_of-written k v [] = refl
entries_of-written k v (e ∷ es) = ap (λ xs. e ∷ xs) (entries_of-written k v es)

map_form : (v : Value) → fits kind.Map v ≡ true → (ws : Writes) × (v ≡ value.map ws)
map_form (value.map ws) e = (ws, refl)
map_form (value.scalar (value.whole value.byte z)) e = absurd (cc e)
map_form (value.scalar (value.whole value.short z)) e = absurd (cc e)
map_form (value.scalar (value.whole value.integer z)) e = absurd (cc e)
map_form (value.scalar (value.whole value.long z)) e = absurd (cc e)
map_form _ e = absurd (cc e)

module _ (protocol : Protocol) (schema : Schema) (ws : List Write) (i : ℕ) (m : Schema) (is : IsMember protocol schema ws i m) (prefix : List ℕ) (prefix_is : source_of m ≡ in_prefix prefix) where
  abbrev out : Schema
  out = as_output schema

  abbrev low : List ℕ
  low = str_to_ascii_lowercase prefix

  abbrev pairs : List (List ℕ × List ℕ)
  pairs = message_headers protocol (as_output schema) ws keep_defaults

  abbrev written : List (List ℕ × List ℕ)
  written = lowered (written_pairs (first_value schema ws i))

  stands : StandsIn m (in_prefix prefix)
  stands = stands_in m (in_prefix prefix) prefix_is

  -- Behind the prefix stand the entries that were written.

  no_default : (key : List ℕ) → is_one_of (low ++ key) default_names ≡ false
  no_default key = false_from_ne_true (is_one_of (low ++ key) default_names) (λ e. let q : false ≡ true = sym (ap not (any_front low key default_names e)) ∙ alone in cc q)
    where
      alone : begins_no_default prefix ≡ true
      alone = at_name (λ p. begins_no_default p ≡ true) (λ m. m.node.traits.http_prefix_headers) (members_of schema) i m prefix (all_from_test begins_no_default (prefixes schema) is.typed.prefixed) (members_by_position schema is.checked.cited i ∙ is.at) stands.says.1

  told : (key : List ℕ) → values_at (low ++ key) pairs ≡ last_at key written
  unfolding message_headers
  told key =
      all_headers_at protocol (body protocol.text_of out ws) keep_defaults (headers out ws) (low ++ key) (leaves-elsewhere (body protocol.text_of out ws) keep_defaults (headers out ws) (low ++ key) (no_default key))
      ∙ headers_behind out ws i (as_output m) prefix (headers_apart out (message protocol schema ws i m is)) (at_out protocol schema ws i m is) stands.binding key
      ∙ ap (λ o. last_at key (lowered (written_pairs o))) (first_value-out schema ws i)

  -- the text of an entry
  abbrev text : List ℕ → List ℕ
  text key = unwrap_or (last_value (values_at (low ++ key) pairs)) []

  abbrev known : List (List ℕ)
  known = keys_behind_lower low pairs

  -- the last text under a key, by what is known
  last_known : (key : List ℕ) → cond (is_one_of key known) (Some (text key)) None ≡ last_value (values_at key written)
  last_known key =
      ap (λ b. cond b (Some (text key)) None) (is_behind low key pairs)
      ∙ ap (λ vs. cond (has_value vs) (Some (unwrap_or (last_value vs) [])) None) (told key) ∙ go (last_value (values_at key written))
    where
      go : (o : Option (List ℕ)) → cond (has_value (option_to_list o)) (Some (unwrap_or (last_value (option_to_list o)) [])) None ≡ o
      go None = refl
      go (Some t) = refl

  known_last : (key : List ℕ) → is_one_of key known ≡ true → last_value (values_at key written) ≡ Some (text key)
  known_last key e = sym (last_known key) ∙ ap (λ b. cond b (Some (text key)) None) e

  known_lower : (key : List ℕ) → is_one_of key known ≡ true → str_to_ascii_lowercase key ≡ key
  known_lower key e = go (same_text (str_to_ascii_lowercase key) key) refl
    where
      go : (t : Bool) → same_text (str_to_ascii_lowercase key) key ≡ t → str_to_ascii_lowercase key ≡ key
      go true h = same_from_test (str_to_ascii_lowercase key) key (sym h)
      go false h = let q : None ≡ Some (text key) = sym (ap last_value (not_lower key (written_pairs (first_value schema ws i)) h)) ∙ known_last key e in absurd (cc q)

  known_values : (key : List ℕ) → is_one_of key known ≡ true → values_named (low ++ key) pairs ≡ text key ∷ []
  known_values key e =
      ap (λ n. values_at n pairs) (map-append _ low key ∙ (λ j. lower_twice prefix j ++ known_lower key e j))
      ∙ told key ∙ ap option_to_list (known_last key e)

  -- The map that was written.

  maps : ((same_kind m.node.kind kind.Map && is_plain_string (key_of m)) ≡ true) × (is_plain_string (value_of m) ≡ true)
  maps =
      and_parts (same_kind m.node.kind kind.Map && is_plain_string (key_of m)) (is_plain_string (value_of m)) (ap (λ (o : Option (List ℕ)). not (is_some o) || is_text_map m) (sym stands.says.1)
      ∙ member-passes has_prefix_kind schema i m (sym (prefix_kinds schema) ∙ (and_parts (has_at_most_one (λ t. is_some t.http_prefix_headers) schema) (list_all is_text_map (members_with (λ t. is_some t.http_prefix_headers) schema)) is.checked.prefix_map).1) is.at)

  keys : (same_kind m.node.kind kind.Map ≡ true) × (is_plain_string (key_of m) ≡ true)
  keys = and_parts (same_kind m.node.kind kind.Map) (is_plain_string (key_of m)) maps.0

  map_kind : m.node.kind ≡ kind.Map
  map_kind = one_kind m.node.kind kind.Map keys.0

  -- its value is in range, has no faults, and its texts have no outer white space
  abbrev IsWrittenMap : Value → Type 0
  IsWrittenMap u = (is_in_range u ≡ true) × (item_fault m u ≡ None) × (list_all (λ e. is_trimmed (text_of_key e.1)) (map_entries u) ≡ true)

  written_map : (u : Value) → first_value schema ws i ≡ Some u → IsWrittenMap u
  written_map u e =
      let x = map_form u (ap (λ k. fits k u) (sym map_kind) ∙ fits_kind protocol schema ws i m is u e (ap is_outside_body stands.binding)) in
      let a = no_first (value_fault (as_output m) u) (pairs_fault (as_output m) (inserted_at (binding_of (as_output m)) (as_output m) u)) (unfaulted protocol schema ws i m is u e (ap is_placed_at stands.binding)).0 in
      let own : value_fault m u ≡ None = ap (value_fault m) x.1 ∙ sym (map_fault-in direction.Response m x.0) ∙ ap (value_fault (as_output m)) (sym x.1) ∙ a.0 in (
        (fitting protocol schema ws i m is u e).in_range,
        (no_first (item_fault m u) (option_or (key_fault m u) (unless (is_some (texts m u)) no_year)) own).0,
        (and_parts (list_all (λ e. is_trimmed (text_of_key e.1)) (map_entries u)) (has_distinct_keys u) (ap (λ s. is_typed_at s m u) (sym prefix_is) ∙ typed_value protocol schema ws i m is u e)).0,
      )

  written_whole : (o : Option Value) → first_value schema ws i ≡ o → AllByRecursion (λ p. IsWhole p.1) (lowered (written_pairs o))
  written_whole None e = tt
  written_whole (Some u) e = let x = written_map u e in entries_whole (map_entries u) (map_in_range u x.0) x.2

  known_whole : (key : List ℕ) → is_one_of key known ≡ true → IsWhole (text key)
  known_whole key e = subst (λ o. IfSome o IsWhole) (known_last key e) (last_has IsWhole (values_at key written) (values_all IsWhole key written (written_whole (first_value schema ws i) refl)))

  -- the normal form's entries
  viewed : (o : Option Value) → first_value schema ws i ≡ o → in_key_order (in_lower_case (option_map_or (own_entries m) o [])) ≡ valued as_text (all_put (lowered (written_pairs o)) [])
  viewed None e = refl
  viewed (Some u) e =
      ap (λ es. in_key_order (in_lower_case es)) (own_text_entries m u maps.1 (written_map u e).1)
      ∙ ap in_key_order (lower_entries (map_pairs u)) ∙ in_order as_text (lowered (map_pairs u))

  -- What is read has the same entries.
  pub prefix_handed : (h : Held) (given : List (List ℕ × List ℕ)) → given ≡ message_headers protocol (as_output schema) ws keep_defaults
      → HandsSame h (handed_out (held.prefixed (prefixed_in prefix given))) m (Some (prefix_view m (first_value schema ws i)))
  unfolding value_read entries
  prefix_handed h given same =
      subst (λ ps. HandsSame h (handed_out (held.prefixed (prefixed_in prefix ps))) m (Some (prefix_view m (first_value schema ws i)))) (sym same) (
        value.map (writes_of (joined (map read known))),
        ap (λ s. value_by_kind (value_within 2) s m from) map_kind
            ∙ (λ j. map_by (value_within 2) m (k.1 j) (n.1 j) from)
            ∙ ap (λ (r : Result (List (Write × Write)) SerdeError). then_give r (λ us. value.map (writes_of (joined us)))) (ap (all_read one) (map-map entry (entry_of prefix pairs) known) ∙ all_back one (λ key. entry (entry_of prefix pairs key)) read known all),
        ap in_key_order (entries_of-read k.0 n.0 text known)
            ∙ in_order as_text (map (λ key. (key, text key)) known)
            ∙ ap (valued as_text) (ordered_told (map (λ key. (key, text key)) known) (all_put written []) (λ name. last_keyed text known name ∙ last_known name ∙ sym (ordered_last name written)))
            ∙ sym (in_order as_text (all_put written []))
            ∙ sym (ap in_key_order (entries_of-written _ _ (in_key_order (in_lower_case (option_map_or (own_entries m) (first_value schema ws i) []))) ∙ viewed (first_value schema ws i) refl)),
      )
    where
      from : Held
      from = held.prefixed (prefixed_in prefix pairs)

      k : (k : Schema) × (key_of m ≡ Some k) × IsPlain k
      k = plain_node (key_of m) keys.1

      n : (n : Schema) × (value_of m ≡ Some n) × IsPlain n
      n = plain_node (value_of m) maps.1

      entry : Prefixed → List ℕ × Held
      entry p = (p.key, held.header p.name p.values)

      one : List ℕ × Held → Result (Write × Write) SerdeError
      one x = then_give (value_within 2 n.0 x.1) (entry_by k.0 n.0 x.0)

      read : List ℕ → Write × Write
      read key = entry_by k.0 n.0 key (as_text (text key))

      all : AllByRecursion (λ key. one (entry (entry_of prefix pairs key)) ≡ Ok (read key)) known
      all =
          all_of (λ key. one (entry (entry_of prefix pairs key)) ≡ Ok (read key)) known
          (λ key e. ap (λ (r : Result Value SerdeError). then_give r (entry_by k.0 n.0 key)) (ap (λ vs. value_within 2 n.0 (held.header (low ++ key) vs)) (known_values key e) ∙ entry_read n.0 (low ++ key) (text key) n.2 (known_whole key e)))
