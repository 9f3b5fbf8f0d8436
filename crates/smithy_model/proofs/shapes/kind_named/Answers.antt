use Rattle.std.proofs.Common.{sym, ap, option_map}
use Rattle.smithy_model.specs.Shapes.{type_kinds, kind_named}
use Rattle.smithy_model.proofs.NameLemmas.{none_named}
use Rattle.smithy_model.proofs.shapes.kind_named.Goals as goal

pub returns-in_default : goal.returns-in_default
unfolding kind_named
returns-in_default c = sym (ap (option_map (λ p. p.1)) (none_named type_kinds c.args.name.now (c.in_default.not-byte, (c.in_default.not-short, (c.in_default.not-integer, (c.in_default.not-long, (c.in_default.not-float, (c.in_default.not-double, (c.in_default.not-bigInteger, (c.in_default.not-bigDecimal, (c.in_default.not-boolean, (c.in_default.not-string, (c.in_default.not-blob, (c.in_default.not-timestamp, (c.in_default.not-document, (c.in_default.not-enum, (c.in_default.not-intEnum, (c.in_default.not-list, (c.in_default.not-set, (c.in_default.not-map, (c.in_default.not-structure, (c.in_default.not-union, tt))))))))))))))))))))))
