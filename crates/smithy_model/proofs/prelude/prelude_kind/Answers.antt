use Rattle.std.proofs.Common.{sym, ap, option_map}
use Rattle.smithy_model.specs.Prelude.{prelude_kinds, prelude_kind}
use Rattle.smithy_model.proofs.NameLemmas.{none_named}
use Rattle.smithy_model.proofs.prelude.prelude_kind.Goals as goal

pub returns-in_default : goal.returns-in_default
unfolding prelude_kind
returns-in_default c = sym (ap (option_map (λ p. p.1)) (none_named prelude_kinds c.args.name.now (c.in_default.not-text, (c.in_default.not-text-2, (c.in_default.not-text-3, (c.in_default.not-text-5, (c.in_default.not-text-7, (c.in_default.not-text-9, (c.in_default.not-text-11, (c.in_default.not-text-13, (c.in_default.not-text-15, (c.in_default.not-text-17, (c.in_default.not-text-18, (c.in_default.not-text-19, (c.in_default.not-text-20, (c.in_default.not-text-21, (c.in_default.not-text-4, (c.in_default.not-text-6, (c.in_default.not-text-8, (c.in_default.not-text-10, (c.in_default.not-text-12, (c.in_default.not-text-14, (c.in_default.not-text-16, tt)))))))))))))))))))))))
