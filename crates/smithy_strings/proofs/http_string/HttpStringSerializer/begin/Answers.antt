use Rattle.std.proofs.Common.{◌+◌, refl, sym, ap, string_bytes}
use Rattle.smithy_strings.specs.StringWriting.{open_count_of}
use Rattle.smithy_strings.proofs.StandingLemmas.{list_begun}
use Rattle.smithy_strings.proofs.http_string.HttpStringSerializer.begin.Goals as goal

pub returns-in-Nothing : goal.returns-in-Nothing
returns-in-Nothing c =
    rw c.in-List.is
    (record {
      kept = refl;
      tried = λ l. record {
        right = rw c.in-Nothing.is refl;
        lists = ap (λ x. open_count_of x + 1) (sym c.in-Nothing.is);
        states = λ s stands. list_begun c.args.self.now.standing (string_bytes c.args.self.now.text) l s c.in-Nothing.is stands;
      };
    })
