-- What the tests that code runs say of what is recovered.
use Rattle.std.proofs.Common.{◌≡◌, refl, sym, ◌∙◌, ap, ℕ, ◌==◌, codes, length, Bool, true, false, not, ◌&&◌, ◌||◌, List, Some, None, Result, Ok, Err, option_map, option_and_then, is_some, is_none, IsTrue}
use Rattle.std.specs.Result.{result_ok, result_err}
use Rattle.std.specs.Str.{str_to_ascii_lowercase}
use Rattle.std.proofs.lemmas.Bool.{and_parts, and_from}
use Rattle.smithy_types.specs.Results.{then_give}
use Rattle.smithy_types.specs.Texts.{found, same_text}
use Rattle.smithy_http.specs.Facts.{Facts, facts, values_at}
use Rattle.smithy_http.specs.Requests.{Request}
use Rattle.smithy_schema.specs.Nodes.{Schema, members_of, Binding, to_header, binding_of}
use Rattle.smithy_schema.specs.WellMade.{is_well_made}
use Rattle.smithy_serde.specs.Lawful.{IsLawfulText}
use Rattle.smithy_serde.specs.Values.{Write}
use Rattle.std.specs.Bool.{then_some}
use Rattle.smithy_binding.specs.Answer.{answer, place, request_at}
use Rattle.smithy_binding.specs.Bindings.{headers, pairs}
use Rattle.smithy_binding.specs.Bodies.{Body, body, is_codec}
use Rattle.smithy_binding.specs.Checked.{IsCheckedInput, checked_input}
use Rattle.smithy_binding.specs.Faults.{Fault, legal_target, fault}
use Rattle.smithy_binding.specs.Placing.{Protocol, OmitFlags, with_query, all_headers}
use Rattle.smithy_binding.specs.Typed.{IsTyped, leaves_default, writes_default, has_clear_template}
use Rattle.smithy_binding.proofs.CheckedLaws.{IsCheckedInput-from_test}
use Rattle.smithy_unambiguity.proofs.HeadersTold.{typed_writes}
use Rattle.smithy_unambiguity.proofs.Requests.{placed_request}
use Rattle.smithy_recovery.specs.Recovered.{Reading, read_writes, is_body_told, writes_defaults, is_typed, is_placed_so, recovered}
use Rattle.smithy_recovery.specs.views.Stages.{are_typed}
use Rattle.smithy_recovery.specs.TypedWrites.{has_typed_writes}
use Rattle.smithy_recovery.proofs.TypedTold.{typed_is_told}
use Rattle.smithy_recovery.proofs.Deciding.{typed_from_test}
use Rattle.smithy_recovery.proofs.DefaultsRead.{defaults_written, each_passes}
use Rattle.smithy_recovery.proofs.FactsTested.{seen_from_test}
use Rattle.smithy_recovery.proofs.Untold.{untold_is_none}

-- what is known of a reading
pub record IsSoundReading (r : Reading) : Type 0 where
  pub checked : IsTrue (checked_input r.schema)
  pub well_made : IsTrue (is_well_made r.schema)
  pub lawful : IsLawfulText r.protocol.text_of r.holds

-- the request of an input that is placed, and that it has no fault
abbrev IsPlaced : Protocol → Schema → List Write → List ℕ → OmitFlags → Request → Type 0
IsPlaced protocol schema ws endpoint omit q = option_map facts (place protocol schema ws endpoint omit) ≡ Some (facts q)

given_has : (f : List ℕ → Request) (target : Result (List ℕ) Fault) (q : Request) → option_map facts (result_ok (then_give target f)) ≡ Some (facts q) → result_err target ≡ None
given_has f (Ok text) q e = refl
given_has f (Err bad) q e = absurd (cc e)

no_fault : (protocol : Protocol) (schema : Schema) (ws : List Write) (endpoint : List ℕ) (omit : OmitFlags) (q : Request) → IsPlaced protocol schema ws endpoint omit q → fault schema ws endpoint ≡ None
unfolding answer
no_fault protocol schema ws endpoint omit q e = given_has (request_at protocol schema ws omit) (legal_target schema ws endpoint) q e

-- what the request of an input has of it
record IsSeenOf (protocol : Protocol) (schema : Schema) (omit : OmitFlags) (ws : List Write) (q : Request) : Type 0 where
  pub headers : (name : List ℕ) → values_at name (all_headers protocol (body protocol.text_of schema ws) omit (headers schema ws)) ≡ values_at name q.headers
  pub body : (body protocol.text_of schema ws).bytes ≡ q.body

seen_of : (protocol : Protocol) (schema : Schema) (endpoint : List ℕ) (omit : OmitFlags) (ws : List Write) (q : Request) → IsPlaced protocol schema ws endpoint omit q → IsSeenOf protocol schema omit ws q
seen_of protocol schema endpoint omit ws q e =
    let x = placed_request protocol schema ws endpoint omit (no_fault protocol schema ws endpoint omit q e) in
    let both : Some (facts (request_at protocol schema ws omit (with_query x.path (pairs schema ws)))) ≡ Some (facts q) = ap (option_map facts) (sym x.is) ∙ e in
    let same : facts (request_at protocol schema ws omit (with_query x.path (pairs schema ws))) ≡ facts q = cc both in
    record { headers = λ name. ap (λ (f : Facts). f.headers name) same; body = ap (λ (f : Facts). f.body) same }

-- Where no default is added, each is written.

abbrev no_defaults : OmitFlags
no_defaults = record { content_type = true; content_length = true }

none_left : (b : Body) (pairs : List (List ℕ × List ℕ)) (name : List ℕ) → leaves_default b no_defaults pairs name ≡ true
none_left b pairs name =
    λ i. not (none (same_text name (codes "content-type")) (is_codec b.form) i || none (same_text name (codes "content-length")) (not (length b.bytes == 0) || is_codec b.form) i) || is_some (found name pairs)
  where
    none : (s c : Bool) → (s && (c && false)) ≡ false
    none true true = refl
    none true false = refl
    none false c = refl

typed_bare : (protocol : Protocol) (schema : Schema) (endpoint : List ℕ) (ws : List Write) → IsCheckedInput schema → are_typed schema endpoint ws ≡ true → fault schema ws endpoint ≡ None → IsTyped protocol schema endpoint no_defaults ws
typed_bare protocol schema endpoint ws checked typed conforming =
    let parts = and_parts (has_typed_writes schema ws) (has_clear_template schema endpoint) typed in
    typed_from_test protocol schema endpoint no_defaults ws checked
    (and_from (has_typed_writes schema ws) _ parts.0
    (and_from (is_none (fault schema ws endpoint)) _ (ap is_none conforming)
    (and_from (writes_defaults protocol schema no_defaults ws) (has_clear_template schema endpoint) (each_passes (λ m. writes_default (body protocol.text_of schema ws) no_defaults (headers schema ws) (binding_of m)) (members_of schema) (λ j m at. go (binding_of m))) parts.1)))
  where
    go : (b : Binding) → writes_default (body protocol.text_of schema ws) no_defaults (headers schema ws) b ≡ true
    go (to_header name) = none_left (body protocol.text_of schema ws) (headers schema ws) (str_to_ascii_lowercase name)
    go _ = refl

-- The tests, one after another.

abbrev passes : Reading → OmitFlags → Request → List Write → Bool
passes r omit q ws = is_typed r.protocol r.schema r.endpoint omit ws && is_placed_so r omit q ws

by_test : (r : Reading) (omit : OmitFlags) (q : Request) (ws : List Write) (b : Bool) → read_writes r q ≡ Some ws → passes r omit q ws ≡ b → recovered r omit q ≡ then_some b ws
unfolding recovered
by_test r omit q ws b read test = ap (option_and_then (λ us. then_some (passes r omit q us) us)) read ∙ ap (λ t. then_some t ws) test

-- of what passes as it is run
pub input_recovered : (r : Reading) (omit : OmitFlags) (q : Request) (ws : List Write) → IsSoundReading r → (IsTrue (is_body_told r q) → read_writes r q ≡ Some ws) → are_typed r.schema r.endpoint ws ≡ true → is_placed_so r omit q ws ≡ true
    → recovered r omit q ≡ Some ws
input_recovered r omit q ws sound read typed placed =
    let checked = IsCheckedInput-from_test r.schema sound.checked in
    let is = seen_from_test (place r.protocol r.schema ws r.endpoint omit) q placed in
    let conforming = no_fault r.protocol r.schema ws r.endpoint omit q is in
    let seen = seen_of r.protocol r.schema r.endpoint omit ws q is in
    let bare = typed_bare r.protocol r.schema r.endpoint ws checked typed conforming in
    let given = read (typed_is_told r no_defaults q ws sound.lawful checked sound.well_made bare seen.body) in
    let defaults = defaults_written r omit q ws checked sound.well_made (typed_writes r.protocol r.schema r.endpoint no_defaults ws bare) given seen.headers in
    let parts = and_parts (has_typed_writes r.schema ws) (has_clear_template r.schema r.endpoint) typed in
    by_test r omit q ws true given
    (and_from (is_typed r.protocol r.schema r.endpoint omit ws) (is_placed_so r omit q ws)
    (and_from (has_typed_writes r.schema ws) _ parts.0
    (and_from (is_none (fault r.schema ws r.endpoint)) _ (ap is_none conforming)
    (and_from (writes_defaults r.protocol r.schema omit ws) (has_clear_template r.schema r.endpoint) defaults parts.1)))
    placed)

-- nothing is recovered where nothing is where the body is told
none_untold : (r : Reading) (omit : OmitFlags) (q : Request) → (IsTrue (is_body_told r q) → recovered r omit q ≡ None) → recovered r omit q ≡ None
unfolding recovered
none_untold r omit q none = go (is_body_told r q) refl
  where
    go : (t : Bool) → is_body_told r q ≡ t → option_and_then (λ us. then_some (passes r omit q us) us) (read_writes r q) ≡ None
    go true told = none told
    go false untold = ap (option_and_then (λ us. then_some (passes r omit q us) us)) (untold_is_none r q untold)

-- so nothing is where nothing is read
pub none_read : (r : Reading) (omit : OmitFlags) (q : Request) → (IsTrue (is_body_told r q) → read_writes r q ≡ None) → recovered r omit q ≡ None
unfolding recovered
none_read r omit q none = none_untold r omit q (λ told. ap (option_and_then (λ us. then_some (passes r omit q us) us)) (none told))

-- nor where one of the tests fails
fails : (r : Reading) (omit : OmitFlags) (q : Request) (ws : List Write) → (IsTrue (is_body_told r q) → read_writes r q ≡ Some ws) → passes r omit q ws ≡ false → recovered r omit q ≡ None
fails r omit q ws read test = none_untold r omit q (λ told. by_test r omit q ws false (read told) test)

pub none_typed : (r : Reading) (omit : OmitFlags) (q : Request) (ws : List Write) → (IsTrue (is_body_told r q) → read_writes r q ≡ Some ws) → are_typed r.schema r.endpoint ws ≡ false → recovered r omit q ≡ None
none_typed r omit q ws read untyped =
    fails r omit q ws read
    (go (has_typed_writes r.schema ws) (is_none (fault r.schema ws r.endpoint)) (writes_defaults r.protocol r.schema omit ws) (has_clear_template r.schema r.endpoint) untyped)
  where
    go : (h f d c : Bool) → (h && c) ≡ false → ((h && (f && (d && c))) && is_placed_so r omit q ws) ≡ false
    go true true true c e = ap (λ t. t && is_placed_so r omit q ws) e
    go true true false c e = refl
    go true false d c e = refl
    go false f d c e = refl

pub none_placed : (r : Reading) (omit : OmitFlags) (q : Request) (ws : List Write) → (IsTrue (is_body_told r q) → read_writes r q ≡ Some ws) → is_placed_so r omit q ws ≡ false → recovered r omit q ≡ None
none_placed r omit q ws read test = fails r omit q ws read (go (is_typed r.protocol r.schema r.endpoint omit ws) test)
  where
    go : (t : Bool) → is_placed_so r omit q ws ≡ false → (t && is_placed_so r omit q ws) ≡ false
    go true e = e
    go false e = refl
