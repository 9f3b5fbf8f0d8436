use Rattle.std.proofs.Common.{rules, ◌≡◌, ap, ◌∙◌, sym, option_map, string_bytes, None}
use Rattle.std.specs.Option.{option_copied}
use Rattle.smithy_registry.specs.ErrorCodes.{sanitized}
use Rattle.smithy_registry.specs.Registries.{by_name, by_code}
use Rattle.smithy_registry.specs.views.Kept.{entries_kept, kept_name}
use Rattle.smithy_registry.proofs.KeptLemmas.{found_kept, at_least, none_least}
use Rattle.smithy_registry.proofs.type_registry.TypeRegistry.entry_for_error_code.Goals as goal

pub returns-in_err-name : goal.returns-in_err-name
returns-in_err-name g c =
    let none = ap (kept_name c.self.inside.names) (sym c.sanitize_error_code.ensures) ∙ ap (option_map string_bytes) (sym c.in_err-name.ensures.value) in
    let no_name = sym (c.self.invariant.least (sanitized c.args.wire_code.now)) ∙ none in
    let nothing : c.from_residual.result ≡ None = search rules in
    ap option_copied nothing ∙ sym (none_least (sanitized c.args.wire_code.now) (entries_kept c.self.inside.entries.entries) no_name) ∙ ap (by_code c.args.wire_code.now) c.self.view_is

pub returns : goal.returns
returns g c =
    let es = c.self.inside.entries.entries in
    let found = ap (kept_name c.self.inside.names) (sym c.sanitize_error_code.ensures) ∙ ap (option_map string_bytes) (sym c.in_ok-name.ensures.value) in
    let least = sym (c.self.invariant.least (sanitized c.args.wire_code.now)) ∙ found in
    c.get-2.ensures.value
    ∙ found_kept c.as_str.result.now es
    ∙ ap (λ n. by_name n (entries_kept es)) c.as_str.ensures.value
    ∙ at_least (sanitized c.args.wire_code.now) (string_bytes c.in_ok-name.name.now) (entries_kept es) least
    ∙ ap (by_code c.args.wire_code.now) c.self.view_is
