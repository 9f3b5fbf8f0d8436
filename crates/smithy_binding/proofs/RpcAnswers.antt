-- The answer of a remote procedure call, by the text of its document.
use Rattle.smithy_binding.proofs.Common.{◌≡◌, ap, sym, ◌∙◌, ℕ, List, Ok, Err, Some, Request, document_fault, IsTextOf, IsFaultRefusal, structure, Writes, SerdeError, text_of_document, Fault, behind, fault_of_document, Protocol, OmitFlags, Answers}
use Rattle.smithy_binding.specs.Rpc.{posted, rpc_answer}
use Rattle.smithy_binding.proofs.Refusals.{TellsFault-then}
use Rattle.smithy_binding.proofs.TellingUnbound.{refused-document, text-fault, text-bytes}

module _ (protocol : Protocol) (ws : Writes) (endpoint : List ℕ) (omit : OmitFlags) where
  rpc-fault : (f : Fault) → fault_of_document (Some (structure ws)) ≡ Some f → rpc_answer protocol ws endpoint omit ≡ Err f
  unfolding rpc_answer
  rpc-fault f e = ap (λ o. behind o (posted protocol.content_type endpoint omit (text_of_document protocol.text_of (Some (structure ws))))) e

  -- the document breaks a rule
  pub rpc-refused : (e : SerdeError) → IsFaultRefusal (document_fault (structure ws)) e → Answers {A = Request} (Err e) (rpc_answer protocol ws endpoint omit)
  rpc-refused e h = TellsFault-then e _ _ rpc-fault (refused-document {A = Request} (Err e) (structure ws) h)

  -- it has this text
  pub rpc-posted : (bytes : List ℕ) → IsTextOf protocol.text_of (structure ws) bytes → posted protocol.content_type endpoint omit bytes ≡ rpc_answer protocol ws endpoint omit
  unfolding rpc_answer
  rpc-posted bytes h =
      ap (posted protocol.content_type endpoint omit) (text-bytes {E = SerdeError} (Ok bytes) protocol.text_of (structure ws) h)
      ∙ sym (ap (λ o. behind o (posted protocol.content_type endpoint omit (text_of_document protocol.text_of (Some (structure ws))))) (text-fault {E = SerdeError} (Ok bytes) protocol.text_of (structure ws) h))
