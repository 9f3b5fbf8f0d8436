-- What a form of the code stands for.
use Rattle.std.specs.Prelude.{option_map}
use Rattle.smithy_wire.specs.Words.{schema_of}
use Rattle.smithy_wire.specs.declared.forms.Form.{Form}
use Rattle.smithy_wire.specs.declared.forms.Form.TheVariants as code
use Rattle.smithy_wire.specs.Forms as form

abbrev pub form_view : Form → form.Form
form_view code.Free = form.free
form_view (code.Fields side schema) = form.fields side (schema_of schema)
form_view (code.Items element) = form.items (option_map schema_of element)
form_view (code.Entries value) = form.entries (option_map schema_of value)
form_view code.DateTime = form.date_time
form_view code.HttpDate = form.http_date
form_view code.BigInteger = form.big_integer
form_view code.BigDecimal = form.big_decimal
form_view (code.Whole kind) = form.whole kind
form_view code.Document = form.document
form_view (code.Other kind) = form.other kind
