use Rattle.smithy_document.proofs.Common.{◌≡◌, refl, sym, ◌∙◌, subst, None, Ok, Err, adds, label, scalar_of, scalar_document}
use Rattle.smithy_document.specs.views.JsonStanding.{IsWritten}
use Rattle.smithy_document.proofs.StandingLemmas.{none_kept}
use Rattle.smithy_document.proofs.JsonCalls.{attempted, attempts_write}
use Rattle.smithy_document.proofs.json_codec.JsonSerializerShapeSerializer.write.Goals as goal

pub returns-in-Ok : goal.returns-in-Ok
returns-in-Ok c =
    let l = label c.args.schema in
    let x = scalar_of c.args.scalar in
    let old = c.args.self.now in
    let none : old.refusal ≡ None = none_kept _ (sym c.is_kept.ensures ∙ c.if-is_kept.false) in
    let written = subst (λ r. IsWritten l (scalar_document x) old.writing c.write.new.self r) c.in-Ok.is c.write.ensures.written in
    attempted {U = Unit {0}} (adds l x) old (record old { writing = c.write.new.self }) (Ok (tt {0})) (Ok (tt {0})) none (attempts_write {U = Unit {0}} l x _ _ _ (Ok (tt {0})) refl written c.write.ensures.around) (refl, none)

pub returns-in-Err : goal.returns-in-Err
returns-in-Err c =
    let l = label c.args.schema in
    let x = scalar_of c.args.scalar in
    let old = c.args.self.now in
    let none : old.refusal ≡ None = none_kept _ (sym c.is_kept.ensures ∙ c.if-is_kept.false) in
    let written = subst (λ r. IsWritten l (scalar_document x) old.writing c.write.new.self r) c.in-Err.is c.write.ensures.written in
    attempted {U = Unit {0}} (adds l x) old (record old { writing = c.write.new.self; refusal = c.refused.new.self }) (Err c.in-Err.error) c.refused.result none (attempts_write {U = Unit {0}} l x _ _ _ (Err c.in-Err.error) refl written c.write.ensures.around) c.refused.ensures
