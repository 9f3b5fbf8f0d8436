use Rattle.smithy_document.proofs.Common.{◌≡◌, ◌∷◌, [], subst, rules, to_z, of_z, FitsSigned, w64, to_z-of_z, number_text, Prints}
use Rattle.json.specs.Token as token
use Rattle.serde_json.specs.Find.{of_integer}
use Rattle.smithy_document.proofs.PrintLemmas.{printed, integer_text}
use Rattle.smithy_document.proofs.printing.print_number.Goals as goal

pub returns-in-PosInt : goal.returns-in-PosInt
returns-in-PosInt c = rw c.in-PosInt.is (printed _ _ _ _ c.u64.ensures)

pub returns-in-NegInt : goal.returns-in-NegInt
returns-in-NegInt c =
    let z = c.in-NegInt.value in
    let fits : FitsSigned w64 z = search rules in
    let back : to_z w64 (of_z w64 z) ≡ z = to_z-of_z w64 z fits in
    rw c.in-NegInt.is
    (subst (λ y. Prints (token.number (number_text (of_integer y)) ∷ []) c.args.writer.now c.i64.new.self c.i64.result) back
    (subst (λ s. Prints (token.number s ∷ []) c.args.writer.now c.i64.new.self c.i64.result) (integer_text (to_z w64 (of_z w64 z))) (printed c.i64.result c.args.writer.now c.i64.new.self _ c.i64.ensures)))
