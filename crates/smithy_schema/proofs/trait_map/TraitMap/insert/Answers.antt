use Rattle.std.proofs.Common.{sym, ap, ◌∙◌}
use Rattle.smithy_schema.specs.views.TraitMaps.{entries_kept}
use Rattle.smithy_schema.proofs.TraitMapLemmas.{kept-insert_entry, put_under_its_name}
use Rattle.smithy_schema.proofs.trait_map.TraitMap.insert.Goals as goal

pub returns-clause-ok : goal.returns-clause-ok
returns-clause-ok c =
    ap entries_kept c.in_ok-insert.ensures.entries
    ∙ kept-insert_entry c.self.inside.entries.entries c.in_ok-name.name c.args.value
    ∙ rw (c.in_ok-name.ensures.ok, c.name.ensures, c.self.view_is)

pub invariant_of-self-2 : goal.invariant_of-self-2
invariant_of-self-2 c =
    rw c.in_ok-insert.ensures.entries (put_under_its_name c.self.inside.entries.entries c.in_ok-name.name c.args.value (sym (c.in_ok-name.ensures.ok ∙ c.name.ensures)) c.self.invariant)
