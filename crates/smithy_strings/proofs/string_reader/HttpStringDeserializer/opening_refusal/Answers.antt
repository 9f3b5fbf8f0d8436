use Rattle.std.proofs.Common.{sym, ◌∙◌}
use Rattle.smithy_strings.proofs.ReaderLemmas.{refused_opening, nested_opening, other_opening, unlisted_opening}
use Rattle.smithy_strings.proofs.string_reader.HttpStringDeserializer.opening_refusal.Goals as goal

pub returns-in_default : goal.returns-in_default
returns-in_default c = λ node. refused_opening c.args.group c.args.self.now.input c.args.self.now.is_read c.args.self.now.list node _ c.in_default.is c.not_utf8.ensures

pub returns-then-is_some : goal.returns-then-is_some
returns-then-is_some c =
    λ node. nested_opening c.args.group c.args.self.now.input c.in-Some.input c.args.self.now.is_read c.args.self.now.list node _ c.in-Some.is (sym c.is_some.ensures ∙ c.if-is_some.true) c.no_container.ensures

pub returns-in-Err : goal.returns-in-Err
returns-in-Err c =
    λ node. unlisted_opening c.args.group c.args.self.now.input c.in-Some.input c.args.self.now.is_read c.args.self.now.list c.in-Err.fault node _ c.in-List.is c.in-Some.is
    (sym c.is_some.ensures ∙ c.if-is_some.false) c.in-Err.ensures c.no_list.ensures

pub returns-in-Map : goal.returns-in-Map
returns-in-Map c =
    λ node. other_opening c.args.group c.args.self.now.input c.in-Some.input c.args.self.now.is_read c.args.self.now.list node _ (λ e. absurd (cc (c.in-Map.is, e))) c.in-Some.is
    (sym c.is_some.ensures ∙ c.if-is_some.false) c.no_container-in-Map.ensures

pub returns-in-Structure : goal.returns-in-Structure
returns-in-Structure c =
    λ node. other_opening c.args.group c.args.self.now.input c.in-Some.input c.args.self.now.is_read c.args.self.now.list node _ (λ e. absurd (cc (c.in-Structure.is, e))) c.in-Some.is
    (sym c.is_some.ensures ∙ c.if-is_some.false) c.no_container-in-Structure.ensures
