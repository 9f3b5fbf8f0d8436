use Rattle.smithy_binding.proofs.Common.{ap, sym, ◌∙◌, directed_of, fits, value_in}
use Rattle.smithy_binding.proofs.FittingKinds.{fits-some}
use Rattle.smithy_binding.proofs.kinds.fits_member.Goals as goal

pub returns-in-Some : goal.returns-in-Some
returns-in-Some c t =
    let v = value_in t c.args.value.now in
    c.fits.ensures t ∙ ap (λ k. fits k v) c.shape_type.ensures
    ∙ sym (fits-some (directed_of c.args.member) v c.in-Some._kind (sym (c.in-Some.ensures t)))
