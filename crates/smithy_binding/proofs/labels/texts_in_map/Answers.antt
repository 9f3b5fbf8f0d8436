use Rattle.smithy_binding.proofs.Common.{◌≡◌, ◌-◌, ℕ, List, map, arith, found, text_in_map, label_pair}
use Rattle.smithy_binding.proofs.LabelLemmas.{text-more}
use Rattle.smithy_binding.proofs.labels.texts_in_map.Goals as goal

pub returns : goal.returns
returns c =
    let first : c.loop-i.i ≡ 0 = omega arith in
    let all : (name : List ℕ) → text_in_map c.loop-i.texts name ≡ found name (map label_pair c.args.labels.now) = λ name. rw first at (c.loop-i.invariant.found name) in
    λ j name. all name j

pub loop-i-preserved : goal.loop-i-preserved
loop-i-preserved c = record {
  within = omega arith;
  found = text-more c.args.labels.now (c.loop-i.i - 1) c.loop-i.i c.index-labels-i.result c.loop-i.texts c.insert.new.self c.as_str.result (omega arith) (omega arith)
      c.index-labels-i.is c.as_str.ensures.value c.in_ok-insert.ensures.updates c.loop-i.invariant.found;
}
