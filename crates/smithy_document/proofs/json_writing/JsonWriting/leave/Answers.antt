use Rattle.smithy_document.proofs.Common.{length, sym, ap, ◌∙◌, length-append}
use Rattle.smithy_document.proofs.json_writing.JsonWriting.leave.Goals as goal

pub returns-in-None : goal.returns-in-None
returns-in-None c =
    record { frame = c.in-Some.around; rest = c.pop.new.self.items; before = c.in-Some.ensures.items; led = c.in-None.is; around = ap (λ w. w.around.items) c.settle.ensures; level = ap (λ w. w.level) c.settle.ensures; text = ap (λ w. w.text) c.settle.ensures; noted = ap (λ w. w.fields) c.settle.ensures }

pub returns-in-Some-refused : goal.returns-in-Some-refused
returns-in-Some-refused c = record {
  frame = c.in-Some.around;
  rest = c.pop.new.self.items;
  before = c.in-Some.ensures.items;
  refused = c.in-Some-refused.is;
  count = ap length c.push_reserved.ensures.items ∙ length-append c.pop.new.self.items _ ∙ sym (ap length c.in-Some.ensures.items ∙ length-append c.pop.new.self.items _);
}
