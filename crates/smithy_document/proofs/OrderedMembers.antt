-- The members of ordered data are an object's members as they stand.
use Rattle.smithy_document.proofs.Common.{◌≡◌, ℕ, List, [], ◌∷◌, IsTrue, Option, None, Some, refl, sym, ap, ◌∙◌, subst, IfSome, list_of_members, of_data, pairs_of_data}
use Rattle.serde_json.specs.Data as parsed
use Rattle.smithy_types.specs.Documents as doc
use Rattle.smithy_json.specs.Ordered.{is_before}
use Rattle.smithy_json.proofs.OptionLemmas.{joined}
use Rattle.smithy_json.proofs.OrderedData.{AreMembersOrdered, member_placed}
use Rattle.smithy_document.proofs.FromData.{Ascend, all_put}
use Rattle.smithy_document.proofs.SoundDocuments.{IsBefore, is_less}
use Rattle.smithy_document.proofs.ValueLemmas.{Pair, members_from}

-- the name stands before the first of them
abbrev StandsBefore : List ℕ → List Pair → Type 0
StandsBefore name ps = IsBefore name (members_from ps)

abbrev AscendInTurn : List Pair → Type 0
AscendInTurn ps = Ascend (members_from ps)

always : {X : Type 0} (o : Option X) → IfSome o (λ x. Unit {0})
always None = tt
always (Some x) = tt

before_pairs : (name : List ℕ) (ms : parsed.Members) → IsTrue (is_before name ms) → IfSome (pairs_of_data ms) (StandsBefore name)
before_pairs name parsed.no_members h = tt
before_pairs name (parsed.member k d ms) h =
    joined _ _ (StandsBefore name) (λ x ps. (k, x) ∷ ps) (λ x ps a b. is_less _ h) (of_data d) (pairs_of_data ms) (always (of_data d)) (always (pairs_of_data ms))

both : {X : Type 0} (P Q : X → Type 0) (o : Option X) → IfSome o P → IfSome o Q → IfSome o (λ x. P x × Q x)
both P Q None h j = tt
both P Q (Some x) h j = (h, j)

pairs_ascend : (ms : parsed.Members) → AreMembersOrdered ms → IfSome (pairs_of_data ms) AscendInTurn
pairs_ascend parsed.no_members h = tt
pairs_ascend (parsed.member k d ms) h =
    let p = member_placed k d ms h in
    joined (λ x. Unit {0}) (λ ps. StandsBefore k ps × AscendInTurn ps) AscendInTurn (λ x ps. (k, x) ∷ ps) (λ x ps a b. b) (of_data d) (pairs_of_data ms) (always (of_data d)) (both (StandsBefore k) AscendInTurn (pairs_of_data ms) (before_pairs k ms p.0) (pairs_ascend ms p.2))

pairs_back : (ps : List Pair) → list_of_members (members_from ps) ≡ ps
pairs_back [] = refl
pairs_back (p ∷ ps) = ap (λ qs. p ∷ qs) (pairs_back ps)

pub members_in_turn : (ms : parsed.Members) (ps : List Pair) → AreMembersOrdered ms → pairs_of_data ms ≡ Some ps → doc.members_of ps ≡ members_from ps
members_in_turn ms ps ordered is =
    ap (λ qs. doc.members_of qs) (sym (pairs_back ps)) ∙ all_put (members_from ps) (subst (λ o. IfSome o AscendInTurn) is (pairs_ascend ms ordered))
