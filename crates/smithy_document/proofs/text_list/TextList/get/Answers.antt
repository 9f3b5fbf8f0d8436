use Rattle.smithy_document.proofs.Common.{ℕ, List, [], slice_range, string_bytes, Option, ap, unwrap_or, seen_at}
use Rattle.smithy_document.proofs.TextCuts.{IsCut, cut_at}
use Rattle.smithy_document.proofs.text_list.TextList.get.Goals as goal

-- the text may be cut where it is
is_cut : (c : goal.After-as_str) → IsCut c.as_str.result.now c.in-Some.cut.now
is_cut c = rw c.as_str.ensures.value (cut_at _ c.self.inside.cuts.items c.args.position _ c.self.invariant (rw c.deref.ensures.value at c.in-Some.ensures.lookup.3.0) (rw c.deref.ensures.value at c.in-Some.ensures.lookup.1))

pub range-requires-clause-start_le_end : goal.range-requires-clause-start_le_end
range-requires-clause-start_le_end c = (is_cut c).0

pub range-requires-clause-start_boundary : goal.range-requires-clause-start_boundary
range-requires-clause-start_boundary c = λ positive. (is_cut c).1

pub range-requires-clause-end_boundary : goal.range-requires-clause-end_boundary
range-requires-clause-end_boundary c = (is_cut c).2

pub returns-in-Some : goal.returns-in-Some
returns-in-Some c =
    let found = rw (c.in-Some.is, c.deref.ensures.value) at (seen_at (λ x. slice_range (string_bytes c.self.inside.bytes) x.0 x.1) c.deref.result.now c.args.position c.get.result c.get.ensures.lookup) in
    rw (c.range.ensures.value, c.as_str.ensures.value, ← c.self.view_is) (ap (λ (o : Option (List ℕ)). unwrap_or o []) found)

pub returns-in-None : goal.returns-in-None
returns-in-None c =
    let found = rw (c.in-None.is, c.deref.ensures.value) at (seen_at (λ x. slice_range (string_bytes c.self.inside.bytes) x.0 x.1) c.deref.result.now c.args.position c.get.result c.get.ensures.lookup) in
    rw (← c.self.view_is) (ap (λ (o : Option (List ℕ)). unwrap_or o []) found)
