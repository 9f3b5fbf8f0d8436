use Rattle.smithy_document.proofs.ShapedReads.{has_no_fault, has_canonical, normal_form_document, tells_normal_form, tells_apart_normal_forms}
use Rattle.smithy_document.proofs.laws.documents_tell_normal_forms.Goals as goal

pub returns-clause-told : goal.returns-clause-told
returns-clause-told c = has_no_fault

pub returns-clause-canonical : goal.returns-clause-canonical
returns-clause-canonical c = has_canonical

pub returns-clause-same : goal.returns-clause-same
returns-clause-same c = normal_form_document

pub returns-clause-tells : goal.returns-clause-tells
returns-clause-tells c = tells_normal_form

pub returns-clause-apart : goal.returns-clause-apart
returns-clause-apart c = tells_apart_normal_forms
