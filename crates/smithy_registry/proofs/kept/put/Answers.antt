use Rattle.std.proofs.Common.{◌∙◌, sym, ap, subst, string_bytes}
use Rattle.smithy_registry.specs.Registries.{shape_name_in}
use Rattle.smithy_registry.specs.views.Kept.{entries_kept, IsToKeep, IsKept}
use Rattle.smithy_registry.proofs.KeptLemmas.{put_entry, put_kept, stays_least, becomes_least, undone, IsKept-same}
use Rattle.smithy_registry.proofs.kept.put.Goals as goal

pub returns-in_default-clause-ok : goal.returns-in_default-clause-ok
returns-in_default-clause-ok g c = put_entry c.args.entries.now.entries c.insert.new.self.entries c.args.name c.args.entry c.in_ok-insert.ensures.entries

pub returns-in_default-clause-kept : goal.returns-in_default-clause-kept
returns-in_default-clause-kept g c =
    let stays = stays_least c.args.names.now c.as_str.result.now (subst (IsToKeep c.args.names.now c.as_str.result.now) c.in_default.is c.in_ok-to_keep.ensures) in
    put_kept
    c.args.entries.now.entries c.insert.new.self.entries c.args.name c.args.entry c.as_str.result.now c.args.names.now c.args.names.now c.in_ok-insert.ensures.was_ordered c.requires.shape c.as_str.ensures.value c.in_ok-insert.ensures.entries stays c.requires.kept

pub returns-in-Err-clause-err : goal.returns-in-Err-clause-err
returns-in-Err-clause-err g c =
    let kept = subst (IsToKeep c.args.names.now c.as_str.result.now) c.in-Some.is c.in_ok-to_keep.ensures in
    let query = c.as_str-in-Err.ensures.value ∙ ap (λ p. string_bytes p.1) c.in-Err.ensures.value_returned ∙ kept.2 ∙ c.as_str.ensures.value in
    ap
    entries_kept
    (undone
    c.args.entries.now.entries c.insert.new.self.entries c.remove.new.self.entries c.args.names.now c.args.name c.in-Some.to_keep.0 c.args.entry c.as_str-in-Err.result.now (kept.1 ∙ ap shape_name_in c.as_str.ensures.value) query c.in-Err.ensures.absent c.requires.kept c.in_ok-insert.ensures.entries c.remove.ensures.entries)

pub returns-in-Err-clause-kept : goal.returns-in-Err-clause-kept
returns-in-Err-clause-kept g c =
    subst
    (λ es. IsKept es c.insert-2.new.self)
    (sym (returns-in-Err-clause-err g c))
    (IsKept-same (entries_kept c.args.entries.now.entries) c.args.names.now c.insert-2.new.self c.in-Err.ensures.err c.requires.kept)

pub returns-clause-ok : goal.returns-clause-ok
returns-clause-ok g c = put_entry c.args.entries.now.entries c.insert.new.self.entries c.args.name c.args.entry c.in_ok-insert.ensures.entries

pub returns-clause-kept : goal.returns-clause-kept
returns-clause-kept g c =
    let kept = subst (IsToKeep c.args.names.now c.as_str.result.now) c.in-Some.is c.in_ok-to_keep.ensures in
    let becomes = becomes_least c.args.names.now c.insert-2.new.self c.in-Some.to_keep.0 c.in-Some.to_keep.1 c.as_str.result.now kept.0 kept.1 kept.2 c.in_default-insert.ensures.updates in
    put_kept
    c.args.entries.now.entries c.insert.new.self.entries c.args.name c.args.entry c.as_str.result.now c.args.names.now c.insert-2.new.self c.in_ok-insert.ensures.was_ordered c.requires.shape c.as_str.ensures.value c.in_ok-insert.ensures.entries becomes c.requires.kept
