use Rattle.smithy_binding.proofs.Common.{rules, ◌≡◌, ap, sym, ◌∙◌, true, false, Some, Err, str_to_ascii_lowercase, is_token, is_header_value, schema_of}
use Rattle.std.specs.Cow.{cow_str_bytes}
use Rattle.smithy_binding.proofs.HeaderFaults.{true_unless, header-legal, header-name, header-value}
use Rattle.smithy_binding.proofs.LowerNames.{is_token-lower}
use Rattle.smithy_binding.proofs.Refusals.{TellsFault-then}
use Rattle.smithy_binding.proofs.member_header.put_header.Goals as goal

pub returns-in-Ok : goal.returns-in-Ok
returns-in-Ok c =
    let name : is_token c.args.name ≡ true = true_unless (is_token c.args.name) (λ e. let q = c.in-Ok.ensures.name.1 e in cc q) in
    let value : is_header_value (cow_str_bytes c.args.text) ≡ true = true_unless (is_header_value (cow_str_bytes c.args.text)) (λ e. let q = c.in-Ok.ensures.value.1 (name, e) in cc q) in
    record {
      ok = header-legal (schema_of c.args.member) (str_to_ascii_lowercase c.args.name) (cow_str_bytes c.args.text) (is_token-lower c.args.name ∙ name) value;
      put = search rules;
      err = search rules;
    }

pub returns-in-Err-Name : goal.returns-in-Err-Name
returns-in-Err-Name c =
    let name : is_token c.args.name ≡ false = c.in-Err-Name.ensures.name.0 (ap Err c.in-Err-Name.field-0-is) in
    record {
      ok = search rules;
      put = search rules;
      err = TellsFault-then c.wrong_header.result _ _
          (λ f e. header-name (schema_of c.args.member) (str_to_ascii_lowercase c.args.name) (cow_str_bytes c.args.text) (is_token-lower c.args.name ∙ name) ∙ ap Some (sym e)) c.wrong_header.ensures;
    }

pub returns-in-Err-Value : goal.returns-in-Err-Value
returns-in-Err-Value c =
    let both = c.in-Err-Value.ensures.value.0 (ap Err c.in-Err-Value.field-0-is) in
    record {
      ok = search rules;
      put = search rules;
      err = TellsFault-then c.wrong_header-in-Err-Value.result _ _
          (λ f e. header-value (schema_of c.args.member) (str_to_ascii_lowercase c.args.name) (cow_str_bytes c.args.text) (is_token-lower c.args.name ∙ both.0) both.1 ∙ ap Some (sym e)) c.wrong_header-in-Err-Value.ensures;
    }
