use Rattle.std.proofs.Common.{◌≡◌, ◌∷◌, [], sym, ◌∙◌, ap, rules}
use Rattle.std.specs.Option.{option_map_or}
use Rattle.smithy_http.specs.DateLists.{cut_at_commas, dates_in}
use Rattle.smithy_http.proofs.DateLemmas.{dates_in-piece}
use Rattle.smithy_http.proofs.Gathering.{behind, behind-item}
use Rattle.smithy_http.proofs.date_list.push_pieces.Goals as goal

pub loop-rest-smaller : goal.loop-rest-smaller
loop-rest-smaller c = rw c.in-Some.is at c.cut_piece.ensures.shorter

pub loop-rest-preserved : goal.loop-rest-preserved
loop-rest-preserved c =
    let l = c.loop-rest in
    let own = c.has_comma-own_comma.result in
    let format = c.args.format in
    let piece = c.cut_piece.result.0.now in
    let pieces = cut_at_commas own own c.in-Some.rest.now in
    let read = c.in_ok-push_date.ensures.ok in
    let cut : cut_at_commas own own l.text.now ≡ piece ∷ pieces =
    c.cut_piece.ensures.pieces ∙ ap (λ o. piece ∷ option_map_or (λ rest. cut_at_commas own own rest.now) o []) c.in-Some.is in (
      search rules,
      behind-item l.seconds c.push_date.new.seconds read.date (dates_in format pieces) read.added
          ∙ sym (ap (behind l.seconds) (ap (dates_in format) cut ∙ dates_in-piece format piece pieces read.date read.is_read))
          ∙ l.invariant.1,
    )
