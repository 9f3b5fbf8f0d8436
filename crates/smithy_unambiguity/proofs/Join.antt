-- The laws: what is seen tells the view, the view is typed, and it is seen the same.
use Rattle.smithy_unambiguity.proofs.Common.{sym, ◌∙◌, ap, ℕ, List, Option, option_map, Held, IsLawfulText, facts, place, Protocol, FactsDecideView, ViewSettles, ViewIsTyped}
use Rattle.smithy_unambiguity.proofs.Setting.{IsSetting}
use Rattle.smithy_unambiguity.proofs.ViewDocument.{view_typed}
use Rattle.smithy_unambiguity.proofs.ViewSeen.{seen_of_view}
use Rattle.smithy_unambiguity.proofs.ViewTold.{seen_tells_view}

-- Of a protocol with a lawful codec, facts are the same exactly if the normal forms are.
pub facts_decide : (protocol : Protocol) (holds : List ℕ → Option Held) → IsLawfulText protocol.text_of holds → FactsDecideView protocol
facts_decide protocol holds lawful schema endpoint omit v w checked well_made typed_v typed_w =
    let setting : IsSetting protocol schema = record { holds = holds; lawful = lawful; checked = checked; well_made = well_made } in (
      seen_tells_view protocol schema endpoint omit v w setting typed_v typed_w,
      λ same. sym (seen_of_view protocol schema endpoint omit v setting typed_v) ∙ ap (λ x. option_map facts (place protocol schema x endpoint omit)) same ∙ seen_of_view protocol schema endpoint omit w setting typed_w,
    )

-- The normal form of a normal form is itself,
pub settles : (protocol : Protocol) (holds : List ℕ → Option Held) → IsLawfulText protocol.text_of holds → ViewSettles protocol
settles protocol holds lawful schema endpoint omit ws checked well_made typed =
    let setting : IsSetting protocol schema = record { holds = holds; lawful = lawful; checked = checked; well_made = well_made } in
    seen_tells_view protocol schema endpoint omit _ ws setting (view_typed protocol schema endpoint omit ws setting typed) typed (seen_of_view protocol schema endpoint omit ws setting typed)

-- and is typed.
pub normal_form_typed : (protocol : Protocol) (holds : List ℕ → Option Held) → IsLawfulText protocol.text_of holds → ViewIsTyped protocol
normal_form_typed protocol holds lawful schema endpoint omit ws checked well_made =
    view_typed protocol schema endpoint omit ws (record { holds = holds; lawful = lawful; checked = checked; well_made = well_made })
