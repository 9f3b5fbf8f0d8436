-- The requests that are due, and what the outcomes of code are of them.
use Rattle.smithy_unambiguity.proofs.Common.{IsLawfulText, Err, IsTrue, List, None, Ok, Option, Result, Some, [], ap, length, option_and_then, refl, subst, sym, true, ℕ, ◌∙◌, ◌≡◌}
use Rattle.std.proofs.Common.{IfOk, ◌↔◌}
use Rattle.std.proofs.lemmas.Option.{none-some, option_and_then_some}
use Rattle.smithy_gateway.specs.Words.{place, OmitFlags, endpoint_or_slash, with_defaults, Parts, rpc_answer, Request, Finds, Reading, reading_by, recovered, RecoverError, NotPlaced, OutOfMemory, Schema, Table, at_place, SchemaIndex, Write, Writes, list_of, is_legal_target, result_ok}
use Rattle.smithy_gateway.specs.Answers.{AtSchema, IsInput, PostsInput, PlacesCall, IsRpc, call_headers, NoInput, IsRest, NoCall}
use Rattle.smithy_gateway.specs.Calls.{Texts, Holds, Calling, calling_by, IsCall}
use Rattle.smithy_gateway.specs.Gateway.{rpc_place, rpc_of, called, rest_of}
use Rattle.smithy_gateway.proofs.CallExact.{document, own_request, call_request, call_answer, call_posted, bytes, called_exactly}
use Rattle.smithy_recovery.proofs.Decided.{IsSoundReading}
use Rattle.smithy_recovery.proofs.Joining.{writes_of-list_of}
use Rattle.smithy_recovery.proofs.Law.{recovered_is_exact}
use Rattle.smithy_recovery.proofs.Outcomes.{none_at}

module _ (r : Reading) (omit : OmitFlags) (calling : Calling) (q : Request) (sound : IsSoundReading r) where
  pub input_is : (ws : List Write) → (recovered r omit q ≡ Some ws) ↔ IsInput r.protocol r.schema r.endpoint omit q ws
  input_is ws =
      let exact = recovered_is_exact r sound.lawful omit q ws sound.checked sound.well_made in
      (λ e. (let is = exact.0 e in record { input = record { typed = is.typed; normal = is.normal }; seen = is.seen }), λ is. exact.1 (record { typed = is.input.typed; normal = is.input.normal; seen = is.seen }))

  -- To RPC.

  -- a request posts the input, to an endpoint with default headers
  record IsSentTo (endpoint : List ℕ) (flags : OmitFlags) (x : Request) : Type 0 where
    posts : PostsInput r.protocol r.schema r.endpoint omit q calling.protocol.text_of x
    target : x.target ≡ endpoint_or_slash endpoint
    headers : x.headers ≡ with_defaults calling.protocol.content_type true (length x.body) flags []

  module _ (endpoint : List ℕ) (flags : OmitFlags) (legal : IsTrue (is_legal_target (endpoint_or_slash endpoint))) where
    pub rpc_given : (ws : List Write) (is : IsInput r.protocol r.schema r.endpoint omit q ws) → rpc_of r omit calling endpoint flags q ≡ Some (call_request calling.protocol (document r omit ws sound is.input).doc endpoint flags)
    unfolding rpc_of
    rpc_given ws is = ap (option_and_then (λ us. rpc_place calling us endpoint flags)) ((input_is ws).1 is) ∙ ap result_ok (call_answer r omit ws sound is.input calling.protocol endpoint flags legal)

    rpc_is : (x : Request) → (rpc_of r omit calling endpoint flags q ≡ Some x) ↔ IsSentTo endpoint flags x
    unfolding rpc_of
    rpc_is x = (
      λ e.
          option_and_then_some (λ us. rpc_place calling us endpoint flags) (recovered r omit q) x e (λ ws recovers gives.
          let is = (input_is ws).0 recovers in
          let both : Some (call_request calling.protocol (document r omit ws sound is.input).doc endpoint flags) ≡ Some x = sym (rpc_given ws is) ∙ e in
          let same : call_request calling.protocol (document r omit ws sound is.input).doc endpoint flags ≡ x = cc both in
          subst (IsSentTo endpoint flags) same (record { posts = record { ws = ws; is = is; posted = call_posted r omit ws sound is.input calling.protocol endpoint flags }; target = refl; headers = refl })),
      λ sent.
          let is = sent.posts in
          let text = bytes r omit is.ws sound is.is.input calling.protocol x is.posted in
          let lines = ap (λ b. with_defaults calling.protocol.content_type true (length b) flags []) text ∙ sym sent.headers in
          rpc_given is.ws is.is ∙ (λ i. Some (record { method = sym is.posted.method i; target = sym sent.target i; headers = lines i; body = text i })),
    )

  -- what code posts of the input that it recovered
  pub posted_after : (ms : Writes) (endpoint : List ℕ) (flags : OmitFlags) (result : Result Request RecoverError) → recovered r omit q ≡ Some (list_of ms) → Finds (λ x. x) result (result_ok (rpc_answer calling.protocol ms endpoint flags))
      → Finds (λ x. x) result (rpc_of r omit calling endpoint flags q)
  unfolding rpc_of
  posted_after ms endpoint flags result recovers told =
      subst (Finds (λ x. x) result) (ap (λ us. result_ok (rpc_answer calling.protocol us endpoint flags)) (sym (writes_of-list_of ms)) ∙ sym (ap (option_and_then (λ us. rpc_place calling us endpoint flags)) recovers)) told

  -- To REST.

  module _ (lawful : IsLawfulText calling.protocol.text_of calling.holds) where
    pub rest_is : (x : Request) → (rest_of r omit calling q ≡ Some x) ↔ PlacesCall r.protocol r.schema r.endpoint omit calling.protocol.text_of q x
    unfolding rest_of
    rest_is x = (
      λ e. option_and_then_some (λ us. place r.protocol r.schema us r.endpoint omit) (called r omit calling q) x e (λ ws calls placed. record { ws = ws; is = (call_is ws).0 calls; placed = placed }),
      λ is. ap (option_and_then (λ us. place r.protocol r.schema us r.endpoint omit)) ((call_is is.ws).1 is.is) ∙ is.placed,
    )
      where
        call_is : (ws : List Write) → (called r omit calling q ≡ Some ws) ↔ IsCall r.protocol r.schema r.endpoint omit calling.protocol.text_of q ws
        call_is ws = called_exactly r calling sound.lawful lawful omit q ws sound.checked sound.well_made

    pub rest_given : (ws : List Write) (is : IsCall r.protocol r.schema r.endpoint omit calling.protocol.text_of q ws) → rest_of r omit calling q ≡ Some (own_request r omit ws sound is.input).0
    rest_given ws is = let own = own_request r omit ws sound is.input in (rest_is own.0).1 (record { ws = ws; is = is; placed = own.1 })

-- What the calls answer is what is due, and there is none where they refuse.

if_found : {A : Type 0} (P : A → Type 0) (result : Result A RecoverError) (due : Option A) → Finds (λ x. x) result due → ((x : A) → due ≡ Some x → P x) → IfOk result P
if_found P (Ok x) due is has = has x is
if_found P (Err e) due is has = tt

unless_given : {A : Type 0} (due : Option A) → ((x : A) → due ≡ Some x → ⊥) → due ≡ None
unless_given None none = refl
unless_given (Some x) none = absurd (none x refl)

module _ {C D : Type 0} (text : Texts C) (holds : Holds C) (call_text : Texts D) (call_holds : Holds D) (p : Parts C) (rpc : Parts D) (t : Table) (index : SchemaIndex) (schema : Schema) (endpoint : List ℕ) (omit : OmitFlags) (q : Request) (stands : at_place t index.0 ≡ Some schema)
    (sound : IsSoundReading (reading_by text holds p schema endpoint)) where
  abbrev r : Reading
  r = reading_by text holds p schema endpoint

  abbrev calling : Calling
  calling = calling_by call_text call_holds rpc

  at_own : (P : Schema → Type 0) → P schema → AtSchema t index P
  at_own P has other at = let both : Some schema ≡ Some other = sym stands ∙ at in let same : schema ≡ other = cc both in subst P same has

  module _ (rpc_endpoint : List ℕ) (rpc_omit : OmitFlags) (legal : IsTrue (is_legal_target (endpoint_or_slash rpc_endpoint))) where
    abbrev rpc_due : Option Request
    rpc_due = rpc_of r omit calling rpc_endpoint rpc_omit q

    is_due : (x : Request) → (rpc_due ≡ Some x) ↔ IsSentTo r omit calling q sound rpc_endpoint rpc_omit x
    is_due = rpc_is r omit calling q sound rpc_endpoint rpc_omit legal

    pub rpc_answered : (result : Result Request RecoverError) → Finds (λ x. x) result rpc_due
        → IsRpc text call_text p rpc t index endpoint omit q result × IfOk result (λ x. x.target ≡ endpoint_or_slash rpc_endpoint) × IfOk result (λ x. x.headers ≡ call_headers rpc rpc_omit x.body) × NoInput text p t index endpoint omit q result
    rpc_answered result told = (
      if_found _ result rpc_due told (λ x e. at_own (λ s. PostsInput r.protocol s endpoint omit q (call_text rpc.codec) x) ((is_due x).0 e).posts),
      if_found _ result rpc_due told (λ x e. ((is_due x).0 e).target),
      if_found _ result rpc_due told (λ x e. ((is_due x).0 e).headers),
      λ refused. at_own (λ s. (ws : List Write) → IsInput r.protocol s endpoint omit q ws → ⊥)
          (λ ws is. none-some _ (sym (none_at (λ x. x) result rpc_due told refused) ∙ rpc_given r omit calling q sound rpc_endpoint rpc_omit legal ws is)),
    )

    pub rpc_found : (result : Result Request RecoverError) → IsRpc text call_text p rpc t index endpoint omit q result
        → IfOk result (λ x. x.target ≡ endpoint_or_slash rpc_endpoint) → IfOk result (λ x. x.headers ≡ call_headers rpc rpc_omit x.body) → NoInput text p t index endpoint omit q result → Finds (λ x. x) result rpc_due
    rpc_found (Ok x) ok target headers none = (is_due x).1 (record { posts = ok schema stands; target = target; headers = headers })
    rpc_found (Err NotPlaced) ok target headers none = unless_given rpc_due (λ x e. (let is = ((is_due x).0 e).posts in none refl schema stands is.ws is.is))
    rpc_found (Err OutOfMemory) ok target headers none = tt

  module _ (lawful : IsLawfulText (call_text rpc.codec) (call_holds rpc.codec)) where
    abbrev rest_due : Option Request
    rest_due = rest_of r omit calling q

    pub rest_answered : (result : Result Request RecoverError) → Finds (λ x. x) result rest_due → IsRest text call_text p rpc t index endpoint omit q result × NoCall text call_text p rpc t index endpoint omit q result
    rest_answered result told = (
      if_found _ result rest_due told (λ x e. at_own (λ s. PlacesCall r.protocol s endpoint omit (call_text rpc.codec) q x) ((rest_is r omit calling q sound lawful x).0 e)),
      λ refused. at_own (λ s. (ws : List Write) → IsCall r.protocol s endpoint omit (call_text rpc.codec) q ws → ⊥)
          (λ ws is. none-some _ (sym (none_at (λ x. x) result rest_due told refused) ∙ rest_given r omit calling q sound lawful ws is)),
    )

    pub rest_found : (result : Result Request RecoverError) → IsRest text call_text p rpc t index endpoint omit q result → NoCall text call_text p rpc t index endpoint omit q result → Finds (λ x. x) result rest_due
    rest_found (Ok x) ok none = (rest_is r omit calling q sound lawful x).1 (ok schema stands)
    rest_found (Err NotPlaced) ok none = unless_given rest_due (λ x e. (let is = (rest_is r omit calling q sound lawful x).0 e in none refl schema stands is.ws is.is))
    rest_found (Err OutOfMemory) ok none = tt
