-- The request that posts a typed input in normal form, and what a posted request is read as: just that input.
use Rattle.smithy_unambiguity.proofs.Common.{IsCheckedInput-from_test, same_text_self, request_at, pairs, behind, custom, not_legal, too_long, with_query, DocumentFault, document_fault_text, IsLawfulText, nesting, is_short_target, is_target, then_give, unless, Bool, Err, IsTrue, List, None, Ok, Option, Result, Some, [], ap, codes, false, if◌then◌else◌, length, nat_le, option_and_then, option_map, refl, sym, true, unwrap_or, ℕ, ◌&&◌, ◌∙◌, ◌≡◌, and_parts, leb-true, option_or, result_err}
use Rattle.std.proofs.lemmas.Option.{none-some, option_and_then_some}
use Rattle.std.specs.Cmp.Lexicographic.{same_text as same_from_test}
use Rattle.smithy_http.specs.Requests.{request_of}
use Rattle.smithy_serde.specs.Held as held
use Rattle.smithy_serde.specs.StoredValues.{writes_in}
use Rattle.smithy_binding.specs.Rpc.{posted as posted_to}
use Rattle.smithy_gateway.specs.Words.{place, OmitFlags, Protocol, endpoint_or_slash, with_defaults, rpc_answer, is_shallow, facts, Request, held_writes, Finds, Reading, recovered, RecoverError, NotPlaced, OutOfMemory, KeepsMembers, Table, Held, max_nesting, Write, Writes, list_of, writes_of, WriteList, Document, is_legal_target, same_text, then_some, option_map_or, result_ok}
use Rattle.smithy_gateway.specs.Calls.{Calling, call_document, IsPosted, IsNormal, IsCall}
use Rattle.smithy_gateway.specs.Gateway.{normal_form, keep_all, posts_writes, posted_form, called}
use Rattle.smithy_gateway.specs.Laws.{CalledIsExact}
use Rattle.smithy_recovery.proofs.Decided.{IsSoundReading}
use Rattle.smithy_recovery.proofs.Exact.{kept}
use Rattle.smithy_recovery.proofs.Joining.{list_of-writes_of, writes_of-list_of}
use Rattle.smithy_recovery.proofs.Law.{recovered_is_exact}
use Rattle.smithy_recovery.proofs.WholeDocument.{HasWholeDocument, whole_document}
use Rattle.smithy_unambiguity.proofs.Requests.{placed_request}

-- the request that posts a document
abbrev pub call_request : Protocol → Document → List ℕ → OmitFlags → Request
call_request protocol doc endpoint omit =
    let body = protocol.text_of doc in
    request_of (codes "POST") (endpoint_or_slash endpoint) (with_defaults protocol.content_type true (length body) omit []) body

-- A typed input in normal form.
module _ (r : Reading) (omit : OmitFlags) (ws : List Write) (sound : IsSoundReading r) (is : IsNormal r.protocol r.schema r.endpoint omit ws) where
  pub document : HasWholeDocument r.schema ws
  document = whole_document r.protocol r.schema r.endpoint omit ws (IsCheckedInput-from_test r.schema sound.checked) sound.well_made is.typed is.normal

  doc : call_document ws ≡ Some document.doc
  doc = ap result_ok document.has

  -- its own request, of which it is recovered
  pub own_request : (p : Request) × (place r.protocol r.schema ws r.endpoint omit ≡ Some p) × (recovered r omit p ≡ Some ws)
  own_request =
      let x = placed_request r.protocol r.schema ws r.endpoint omit is.typed.conforming in
      let request = request_at r.protocol r.schema ws omit (with_query x.path (pairs r.schema ws)) in
      (request, x.is, (recovered_is_exact r sound.lawful omit request ws sound.checked sound.well_made).1 (record { typed = is.typed; normal = is.normal; seen = ap (option_map facts) x.is }))

  module _ (protocol : Protocol) where
    -- the request that posts it
    pub call_answer : (endpoint : List ℕ) (flags : OmitFlags) → IsTrue (is_legal_target (endpoint_or_slash endpoint)) → rpc_answer protocol (writes_of ws) endpoint flags ≡ Ok (call_request protocol document.doc endpoint flags)
    unfolding rpc_answer
    call_answer endpoint flags legal =
        let target = endpoint_or_slash endpoint in
        let tests = and_parts (is_short_target target) (is_target target) legal in
        ap (λ (r : Result Document DocumentFault). behind (option_map (λ f. custom (document_fault_text f)) (result_err r)) (posted_to protocol.content_type endpoint flags (unwrap_or (option_map protocol.text_of (result_ok r)) []))) document.has
        ∙ (λ i. then_give (behind (option_or (unless (tests.0 i) too_long) (unless (tests.1 i) not_legal)) (Ok target)) (λ t. request_of (codes "POST") t (with_defaults protocol.content_type true (length (protocol.text_of document.doc)) flags []) (protocol.text_of document.doc)))

    pub call_posted : (endpoint : List ℕ) (flags : OmitFlags) → IsPosted protocol.text_of ws (call_request protocol document.doc endpoint flags)
    call_posted endpoint flags = record { method = refl; body = ap (option_map protocol.text_of) doc }

    module _ (q : Request) where
      -- the test of its body is that of its document
      test_is : posts_writes protocol (writes_of ws) q ≡ (nat_le (nesting document.doc) max_nesting && same_text (protocol.text_of document.doc) q.body)
      test_is = λ i. nat_le (document.depth i) max_nesting && option_map_or (λ p. same_text p.body q.body) (result_ok (call_answer [] keep_all refl i)) false

      pub is_called : q.method ≡ codes "POST" → posts_writes protocol (writes_of ws) q ≡ true → IsCall r.protocol r.schema r.endpoint omit protocol.text_of q ws
      is_called method e =
          let tests = and_parts (nat_le (nesting document.doc) max_nesting) (same_text (protocol.text_of document.doc) q.body) (sym test_is ∙ e) in
          record {
            input = is;
            posted = record { method = method; body = ap (option_map protocol.text_of) doc ∙ ap Some (same_from_test (protocol.text_of document.doc) q.body (sym tests.1)) };
            shallow = ap is_shallow doc ∙ tests.0;
          }

      module _ (posted : IsPosted protocol.text_of ws q) where
        pub bytes : protocol.text_of document.doc ≡ q.body
        bytes = let both : Some (protocol.text_of document.doc) ≡ Some q.body = sym (ap (option_map protocol.text_of) doc) ∙ posted.body in cc both

        module _ (shallow : IsTrue (is_shallow (call_document ws))) where
          low : nat_le (nesting document.doc) max_nesting ≡ true
          low = sym (ap is_shallow doc) ∙ shallow

          pub passes : posts_writes protocol (writes_of ws) q ≡ true
          passes = let same = ap (λ b. same_text b q.body) bytes ∙ same_text_self q.body in test_is ∙ (λ i. low i && same i)

          pub body_held : (holds : List ℕ → Option Held) → IsLawfulText protocol.text_of holds → holds q.body ≡ Some (held.document document.doc)
          body_held holds lawful = ap holds (sym bytes) ∙ lawful.reads_back document.doc document.sound (leb-true (nesting document.doc) max_nesting low)

-- What is made of what was read: what is recovered of its request, posted again. It is such an input.

abbrev pub tested : Protocol → Request → Option (List Write) → Option (List Write)
tested protocol q o = option_and_then (λ ws. then_some (posts_writes protocol (writes_of ws) q) ws) o

pub form_is : (r : Reading) (omit : OmitFlags) (protocol : Protocol) (q : Request) (us ws : List Write) → IsSoundReading r → q.method ≡ codes "POST" → posted_form r omit protocol q us ≡ Some ws → IsCall r.protocol r.schema r.endpoint omit protocol.text_of q ws
form_is r omit protocol q us ws sound method e =
    option_and_then_some (λ vs. then_some (posts_writes protocol (writes_of vs) q) vs) (normal_form r omit us) ws e (λ vs is gives.
    let k = kept (posts_writes protocol (writes_of vs) q) vs ws gives in
    option_and_then_some (recovered r omit) (place r.protocol r.schema us r.endpoint omit) ws (is ∙ ap Some k.1) (λ p at recovers.
    let own = (recovered_is_exact r sound.lawful omit p ws sound.checked sound.well_made).0 recovers in
    is_called r omit ws sound (record { typed = own.typed; normal = own.normal }) protocol q method (ap (λ xs. posts_writes protocol (writes_of xs) q) (sym k.1) ∙ k.0)))

pub form_by : (r : Reading) (omit : OmitFlags) (protocol : Protocol) (q : Request) (us : List Write) (p : Request) (ms : Writes) (b : Bool) → place r.protocol r.schema us r.endpoint omit ≡ Some p → recovered r omit p ≡ Some (list_of ms) → posts_writes protocol ms q ≡ b
    → posted_form r omit protocol q us ≡ then_some b (list_of ms)
form_by r omit protocol q us p ms b placed recovers test =
    ap (λ o. tested protocol q (option_and_then (recovered r omit) o)) placed ∙ ap (tested protocol q) recovers
    ∙ ap (λ ws. then_some (posts_writes protocol ws q) (list_of ms)) (writes_of-list_of ms) ∙ ap (λ t. then_some t (list_of ms)) test

-- Of a post the whole is what is made of what was read, of another request it is nothing.
module _ (r : Reading) (omit : OmitFlags) (calling : Calling) (q : Request) where
  pub called_as : (t : Bool) → same_text q.method (codes "POST") ≡ t → called r omit calling q ≡ option_and_then (posted_form r omit calling.protocol q) (if t then option_and_then (held_writes r.schema) (calling.holds q.body) else None)
  unfolding called
  called_as t post = ap (λ b. option_and_then (posted_form r omit calling.protocol q) (if b then option_and_then (held_writes r.schema) (calling.holds q.body) else None)) post

  pub called_by : (us : List Write) → same_text q.method (codes "POST") ≡ true → IsSoundReading r → IsLawfulText calling.protocol.text_of calling.holds → ((h : Held) → calling.holds q.body ≡ Some h → held_writes r.schema h ≡ Some us)
      → posted_form r omit calling.protocol q us ≡ called r omit calling q
  called_by us post sound lawful read = go (calling.holds q.body) refl ∙ sym (called_as true post)
    where
      -- of a body of which nothing is told no input is called
      untold : calling.holds q.body ≡ None → (o : Option (List Write)) → posted_form r omit calling.protocol q us ≡ o → o ≡ None
      untold none None e = refl
      untold none (Some ws) e =
          let is = form_is r omit calling.protocol q us ws sound (same_from_test q.method (codes "POST") (sym post)) e in
          let both : None ≡ Some (held.document (document r omit ws sound is.input).doc) = sym none ∙ body_held r omit ws sound is.input calling.protocol q is.posted is.shallow calling.holds lawful in
          absurd (cc both)

      go : (o : Option Held) → calling.holds q.body ≡ o → posted_form r omit calling.protocol q us ≡ option_and_then (posted_form r omit calling.protocol q) (option_and_then (held_writes r.schema) o)
      go (Some h) told = sym (ap (option_and_then (posted_form r omit calling.protocol q)) (read h told))
      go None none = untold none (posted_form r omit calling.protocol q us) refl

pub called_exactly : (r : Reading) (calling : Calling) → IsLawfulText r.protocol.text_of r.holds → IsLawfulText calling.protocol.text_of calling.holds → CalledIsExact r calling
called_exactly r calling lawful call_lawful omit q ws checked well_made = (forth (same_text q.method (codes "POST")) refl, back)
  where
    sound : IsSoundReading r
    sound = record { checked = checked; well_made = well_made; lawful = lawful }

    forth : (t : Bool) → same_text q.method (codes "POST") ≡ t → called r omit calling q ≡ Some ws → IsCall r.protocol r.schema r.endpoint omit calling.protocol.text_of q ws
    forth false other e = absurd (none-some ws (sym (called_as r omit calling q false other) ∙ e))
    forth true post e =
        option_and_then_some (posted_form r omit calling.protocol q) (option_and_then (held_writes r.schema) (calling.holds q.body)) ws (sym (called_as r omit calling q true post) ∙ e)
        (λ us read gives. form_is r omit calling.protocol q us ws sound (same_from_test q.method (codes "POST") (sym post)) gives)

    back : IsCall r.protocol r.schema r.endpoint omit calling.protocol.text_of q ws → called r omit calling q ≡ Some ws
    back is =
        let own = own_request r omit ws sound is.input in
        let told = body_held r omit ws sound is.input calling.protocol q is.posted is.shallow calling.holds call_lawful in
        let same = list_of-writes_of ws in
        sym (called_by r omit calling q ws (ap (λ m. same_text m (codes "POST")) is.posted.method) sound call_lawful (λ h has. ap (option_and_then (held_writes r.schema)) (sym has ∙ told) ∙ (document r omit ws sound is.input).back))
        ∙ form_by r omit calling.protocol q ws own.0 (writes_of ws) true own.1 (own.2 ∙ ap Some (sym same)) (passes r omit ws sound is.input calling.protocol q is.posted is.shallow) ∙ ap Some same

-- What code reads of a body.

-- what the codec's reader refuses is refused of the whole, where it is told
pub refused_read : {X Y : Type 0} (see : X → Y) (t : Table) (told : Option Held) (read : Held → Option (List Write)) (e : RecoverError) (due : Option Y) (result : Result X RecoverError) → result ≡ Err e → KeepsMembers t told read (Err e)
    → (option_and_then read told ≡ None → due ≡ None) → Finds see result due
refused_read see t None read NotPlaced due result is kept none = rw is (none refl)
refused_read see t (Some h) read NotPlaced due result is kept none = rw is (none (kept.writes h refl))
refused_read see t told read OutOfMemory due result is kept none = rw is tt

-- and what was read is what there is to read
pub read_some : (t : Table) (told : Option Held) (read : Held → Option (List Write)) (ws : WriteList) (ms : Writes) → ms ≡ writes_in t ws → KeepsMembers t told read (Ok ws) → (h : Held) → told ≡ Some h → read h ≡ Some (list_of ms)
read_some t told read ws ms same kept h is = (kept.writes h is).writes ∙ ap (λ us. Some (list_of us)) (sym same)
