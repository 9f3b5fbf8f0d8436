-- What is seen of a serializer of JSON.
use Rattle.std.specs.Prelude.{length}
use Rattle.smithy_document.specs.Words.{Seen, IsByRule}
use Rattle.smithy_document.specs.declared.json_codec.JsonSerializer.{JsonSerializer}
use Rattle.smithy_document.specs.JsonText.{json_text}
use Rattle.smithy_document.specs.views.Standing.{WrongInDocument}
use Rattle.smithy_document.specs.views.JsonStanding.{JsonStandsFor, as_many_around}

abbrev pub json_seen : JsonSerializer → Seen
json_seen r = record {
  refusal = r.refusal;
  lists = length r.writing.around.items;
  states = JsonStandsFor r;
  as_many = as_many_around r;
  wrong = WrongInDocument;
  like = JsonStandsFor r;
  alike = λ s h. h;
  text = json_text;
  lawful = IsByRule WrongInDocument;
  by_rule = λ h. h;
}
