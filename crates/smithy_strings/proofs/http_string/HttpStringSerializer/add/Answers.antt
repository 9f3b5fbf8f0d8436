use Rattle.std.proofs.Common.{refl, sym, ap, string_bytes}
use Rattle.smithy_serde.specs.Values.{scalar}
use Rattle.smithy_strings.specs.StringWriting.{open_count_of}
use Rattle.smithy_strings.proofs.StandingLemmas.{first_added, element_added, no_refusal}
use Rattle.smithy_strings.proofs.http_string.HttpStringSerializer.add.Goals as goal

pub returns-in_ok-push_str-in-Nothing : goal.returns-in_ok-push_str-in-Nothing
returns-in_ok-push_str-in-Nothing c = λ x is. record {
  kept = refl;
  tried = λ l. record {
    right = rw (c.in-Nothing.is, no_refusal x _ is) refl;
    lists = sym (ap open_count_of c.in-Nothing.is);
    states = λ s stands. first_added c.args.self.now.standing (string_bytes c.args.self.now.text) (string_bytes c.push_str.new.self) c.args.text.now l (scalar x) s c.in-Nothing.is c.in_ok-push_str-in-Nothing.ensures.bytes is stands;
  };
}

pub returns-in-Whole : goal.returns-in-Whole
returns-in-Whole c = λ x is. record {
  kept = refl;
  tried = λ l. record { wrong = rw (c.in-Whole.is, no_refusal x _ is) c.only_one.ensures; standing = refl; states = λ s h. h };
}

pub returns-in_ok-push_listed-in-Inside : goal.returns-in_ok-push_listed-in-Inside
returns-in_ok-push_listed-in-Inside c = λ x is. record {
  kept = refl;
  tried = λ l. record {
    right = rw (c.in-Inside.is, no_refusal x _ is) refl;
    lists = sym (ap open_count_of c.in-Inside.is);
    states = λ s stands. element_added c.args.self.now.standing c.in-Inside.is_empty (string_bytes c.args.self.now.text) (string_bytes c.push_listed.new.list) c.args.text.now l (scalar x) s c.in-Inside.is
        c.in_ok-push_listed-in-Inside.ensures.ok is stands;
  };
}
