-- The requests of raw payloads, from those without a length.
use Rattle.std.proofs.Common.{◌≡◌, refl, sym, ap, ◌∙◌, ℕ, Bool, true, false, not, ◌&&◌, ◌||◌, ◌==◌, if◌then◌else◌, List, length, find, Option, Some, None, option_map, option_and_then, Result, Ok, Err}
use Rattle.std.specs.Bool.{then_some}
use Rattle.smithy_types.specs.Results.{then_give, then_try}
use Rattle.smithy_http.specs.Requests.{Request}
use Rattle.smithy_schema.specs.Nodes.{Schema, members_of}
use Rattle.smithy_serde.specs.Values.{Write}
use Rattle.smithy_serde.specs.declared.error.SerdeError.{SerdeError}
use Rattle.smithy_serde.specs.declared.header_omit_settings.OmitFlags.{OmitFlags}
use Rattle.smithy_binding.specs.Answer.{answer, request_at}
use Rattle.smithy_binding.specs.Bindings.{headers}
use Rattle.smithy_binding.specs.Bodies.{body, form_at, form_in, has_unbound_member, is_codec, is_raw_kind}
use Rattle.smithy_binding.specs.Faults.{Fault, legal_target}
use Rattle.smithy_binding.specs.Placing.{Protocol, with_defaults}
use Rattle.smithy_aws.specs.Added.{if_raw, raw_payload, with_type}
use Rattle.smithy_aws.specs.Payloads.{is_payload_member, payload_of}
use Rattle.smithy_aws.specs.Requests.{following}

-- the same flags, and no length
abbrev pub unmeasured : OmitFlags → OmitFlags
unmeasured omit = record { content_type = omit.content_type; content_length = true }

-- no codec writes a raw payload
by_kind : (raw : Bool) (n m : Schema) → then_some raw n ≡ Some m → raw ≡ true
by_kind true n m is = refl
by_kind false n m is = absurd (cc is)

raw_form : (o : Option Schema) (m : Schema) (beside : Bool) → option_and_then if_raw o ≡ Some m → is_codec (form_at (option_map (λ n. n.node.kind) o) beside) ≡ false
raw_form None m beside is = absurd (cc is)
raw_form (Some n) m beside is = rw (by_kind (is_raw_kind n.node.kind) n m is) refl

pub uncoded : (schema : Schema) (m : Schema) → raw_payload schema ≡ Some m → is_codec (form_in schema) ≡ false
uncoded schema m is = raw_form (payload_of schema) m (has_unbound_member schema) is

-- neither a type nor a length is added then
none_wanted : {A : Type 0} (wanted here : Bool) (x y : A) → (if (wanted && false) && here then x else y) ≡ y
none_wanted true here x y = refl
none_wanted false here x y = refl

untouched : (text : List ℕ) (n : ℕ) (omit : OmitFlags) (pairs : List (List ℕ × List ℕ)) → with_defaults text false n (unmeasured omit) pairs ≡ pairs
untouched text n omit pairs = none_wanted (not (n == 0) || false) _ _ pairs

members_headers : (p : Protocol) (schema m : Schema) (ws : List Write) (omit : OmitFlags) (target : List ℕ) → raw_payload schema ≡ Some m
    → (request_at p schema ws (unmeasured omit) target).headers ≡ headers schema ws
unfolding body
members_headers p schema m ws omit target is =
    ap (λ c. with_defaults p.content_type c (length (request_at p schema ws omit target).body) (unmeasured omit) (headers schema ws)) (uncoded schema m is)
    ∙ untouched p.content_type (length (request_at p schema ws omit target).body) omit (headers schema ws)

module _ (p : Protocol) (schema m : Schema) (ws : List Write) (endpoint : List ℕ) (omit : OmitFlags) (refusal : Option SerdeError) (is : raw_payload schema ≡ Some m) where
  abbrev pub made_by : OmitFlags → Result Request Fault
  made_by flags = then_try (answer p schema ws endpoint flags) (following refusal)

  abbrev pub with_type_of : Request → Request
  with_type_of r = with_type m omit (headers schema ws) r

  made : (o : Result (List ℕ) Fault) (refused : Option SerdeError) (r : Request) → then_try (then_give o (request_at p schema ws (unmeasured omit))) (following refused) ≡ Ok r
      → then_give (then_try (then_give o (request_at p schema ws omit)) (following refused)) with_type_of ≡ Ok (with_type m omit r.headers r)
  made (Err f) refused r same = absurd (cc same)
  made (Ok target) (Some e) r same = absurd (cc same)
  made (Ok target) None r same =
      let it : request_at p schema ws (unmeasured omit) target ≡ r = cc same in
      ap (λ hs. Ok (with_type m omit hs (request_at p schema ws omit target))) (sym (members_headers p schema m ws omit target is))
      ∙ ap (λ (q : Request). Ok (with_type m omit q.headers q)) it

  pub raw_made : (r : Request) → made_by (unmeasured omit) ≡ Ok r → then_give (made_by omit) with_type_of ≡ Ok (with_type m omit r.headers r)
  unfolding answer
  raw_made r same = made (legal_target schema ws endpoint) refusal r same

  refused_so : (o : Result (List ℕ) Fault) (refused : Option SerdeError) (f : Fault) → then_try (then_give o (request_at p schema ws (unmeasured omit))) (following refused) ≡ Err f
      → then_give (then_try (then_give o (request_at p schema ws omit)) (following refused)) with_type_of ≡ Err f
  refused_so (Err g) refused f same = let it : g ≡ f = cc same in ap (λ h. Err h) it
  refused_so (Ok target) (Some e) f same = let it : _ ≡ f = cc same in ap (λ h. Err h) it
  refused_so (Ok target) None f same = absurd (cc same)

  pub raw_refused : (f : Fault) → made_by (unmeasured omit) ≡ Err f → then_give (made_by omit) with_type_of ≡ Err f
  unfolding answer
  raw_refused f same = refused_so (legal_target schema ws endpoint) refusal f same
