use Rattle.std.proofs.Common.{◌++◌, ◌∷◌, ap, sym, ◌∙◌}
use Rattle.smithy_serde.specs.StoredValues.{listed}
use Rattle.smithy_serde.specs.Values.{keys_of}
use Rattle.smithy_recovery.proofs.FieldNames.{shown, one_more_name, key_next, keys_end}
use Rattle.smithy_recovery.proofs.shaped.keys_of.Goals as goal

pub entries-init : goal.entries-init
entries-init c = λ t. ap (λ names. shown names ++ keys_of (listed t c.iter-parts.result)) c.new-keys.ensures.items ∙ ap keys_of (sym (c.iter-parts.ensures.writes t))

pub entries-preserved : goal.entries-preserved
entries-preserved c = λ t.
    let first = key_next t (λ w. record { node = w.0; value = w.1.now }) _ _ _ _ c.next-value.result c.in-Some.ensures.steps c.next-value.ensures.steps in
    one_more_name _ _ c.text_or_empty.result _ _ _ c.in_ok-push.ensures.items
    (first ∙ ap (λ name. name ∷ keys_of (listed t c.next-value.new.self)) (sym (c.text_or_empty.ensures t))) (c.entries.invariant t)

pub returns : goal.returns
returns c = λ t. keys_end t _ _ _ c.in_default.ensures.steps.0 (c.entries.invariant t)
