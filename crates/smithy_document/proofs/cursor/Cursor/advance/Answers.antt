use Rattle.std.proofs.Common.{length-append}
use Rattle.smithy_document.proofs.Common.{◌≡◌, ◌++◌, ◌∷◌, [], ◌<◌, List, length, ◌+◌, Some, option_map, refl, sym, ap, ◌∙◌, subst, arith, view, Spot, spot_list, spots_in, ClosesAt, StepsTo, part_in, name_at, at_path}
use Rattle.smithy_document.specs.views.Paths.{opened_along}
use Rattle.smithy_document.proofs.CursorLemmas.{stepped, not_stepped, steps, closes, named_last}
use Rattle.smithy_document.proofs.cursor.Cursor.advance.Goals as goal

pub returns-in_default-position_behind : goal.returns-in_default-position_behind
returns-in_default-position_behind c =
    let root = view c.args.root.now in
    let outer : List Spot = c.pop.new.self.items in
    let spot : Spot = c.in-Some-pop.spot in
    let was : spot_list c.args.self.now ≡ outer ++ spot ∷ [] = ap spots_in c.in-Some.is ∙ c.in-Some-pop.ensures.items in
    let container : view c.document_at-container.result.now ≡ at_path root outer = c.document_at-container.ensures ∙ ap (at_path root) c.as_slice.ensures.value in
    let none = not_stepped (spot.next + 1) (part_in (at_path root outer) spot.names spot.next) (sym (c.position_behind.ensures ∙ ap (λ d. option_map (λ x. spot.next + 1) (part_in d spot.names spot.next)) container) ∙ c.in_default-position_behind.is) in
    subst (λ ps. ClosesAt (opened_along root ps) (at_path root outer) (opened_along root outer)) (sym was) (closes root outer spot none)

pub returns : goal.returns
returns c =
    let root = view c.args.root.now in
    let outer : List Spot = c.pop.new.self.items in
    let spot : Spot = c.in-Some-pop.spot in
    let was : spot_list c.args.self.now ≡ outer ++ spot ∷ [] = ap spots_in c.in-Some.is ∙ c.in-Some-pop.ensures.items in
    let container : view c.document_at-container.result.now ≡ at_path root outer = c.document_at-container.ensures ∙ ap (at_path root) c.as_slice.ensures.value in
    let s = stepped (spot.next + 1) c.in-Some-position_behind.next (part_in (at_path root outer) spot.names spot.next)
    (sym (c.position_behind.ensures ∙ ap (λ d. option_map (λ x. spot.next + 1) (part_in d spot.names spot.next)) container) ∙ c.in-Some-position_behind.is) in
    let next : Spot = record spot { next = spot.next + 1 } in
    let now_is : c.push_reserved.new.self.items ≡ outer ++ next ∷ [] = c.push_reserved.ensures.items ∙ ap (λ n. outer ++ record spot { next = n } ∷ []) (sym s.same) in
    let whole = steps root outer spot s.part s.there in
    let name = named_last (record { spots = Some c.push_reserved.new.self }) outer next spot.next now_is refl in (
      subst (λ ps. 0 < length ps) (sym now_is) (omega (arith, length-append outer (next ∷ []))),
      subst (λ n. StepsTo n (opened_along root (spot_list c.args.self.now)) (at_path root c.push_reserved.new.self.items) (opened_along root c.push_reserved.new.self.items)) (sym name)
          (subst (λ ps. StepsTo (name_at spot.names spot.next) (opened_along root ps) (at_path root c.push_reserved.new.self.items) (opened_along root c.push_reserved.new.self.items)) (sym was)
          (subst (λ ps. StepsTo (name_at spot.names spot.next) (opened_along root (outer ++ spot ∷ [])) (at_path root ps) (opened_along root ps)) (sym now_is) whole)),
    )
