-- The way over RPC keeps the input.
use Rattle.smithy_unambiguity.proofs.Common.{IsLawfulText, FactsDecideView, ViewIsTyped, ViewSettles, List, ap, option_map, sym, ◌∙◌}
use Rattle.smithy_gateway.specs.Words.{view, OmitFlags, facts, Request, Reading, HasFactsOf, Write}
use Rattle.smithy_gateway.specs.Answers.{IsInput}
use Rattle.smithy_gateway.specs.Calls.{Calling}
use Rattle.smithy_gateway.specs.Laws.{PostsView, PlacesView}
use Rattle.smithy_gateway.proofs.CallExact.{document, own_request, call_request, call_posted}
use Rattle.smithy_gateway.proofs.Sent.{input_is, rpc_given, rest_given}
use Rattle.smithy_recovery.proofs.Decided.{IsSoundReading}
use Rattle.smithy_recovery.proofs.Law.{recovered_is_exact}
use Rattle.smithy_recovery.proofs.Outcomes.{view_recovered}

module _ (r : Reading) (calling : Calling) (lawful : IsLawfulText r.protocol.text_of r.holds) (decide : FactsDecideView r.protocol) (settles : ViewSettles r.protocol) (typed : ViewIsTyped r.protocol) where
  -- the normal form is the input of the request
  view_input : (omit : OmitFlags) (v : List Write) (q : Request) (sound : IsSoundReading r) → HasFactsOf r omit q v → IsInput r.protocol r.schema r.endpoint omit q (view r.schema v)
  view_input omit v q sound has = (input_is r omit calling q sound (view r.schema v)).0 (view_recovered r omit q v (recovered_is_exact r lawful) decide settles typed sound has)

  pub posts_view : PostsView r calling
  posts_view omit v q rpc_endpoint rpc_omit checked well_made has legal =
      let sound : IsSoundReading r = record { checked = checked; well_made = well_made; lawful = lawful } in
      let input = view_input omit v q sound has in
      record {
        request = call_request calling.protocol (document r omit (view r.schema v) sound input.input).doc rpc_endpoint rpc_omit;
        gives = rpc_given r omit calling q sound rpc_endpoint rpc_omit legal (view r.schema v) input;
        posted = call_posted r omit (view r.schema v) sound input.input calling.protocol rpc_endpoint rpc_omit;
      }

  pub places_view : IsLawfulText calling.protocol.text_of calling.holds → PlacesView r calling
  places_view call_lawful omit v p q checked well_made has shallow posted =
      let sound : IsSoundReading r = record { checked = checked; well_made = well_made; lawful = lawful } in
      let input = view_input omit v q sound has in
      let own = own_request r omit (view r.schema v) sound input.input in
      let both = ap (option_map facts) (sym own.1) ∙ input.seen in
      record {
        request = own.0;
        gives = rest_given r omit calling p sound call_lawful (view r.schema v) (record { input = input.input; posted = posted; shallow = shallow });
        same = cc both;
        recovered = own.2;
      }
