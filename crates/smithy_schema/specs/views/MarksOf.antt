-- The traits that hold nothing, as the code keeps them.
use Rattle.smithy_schema.specs.declared.parts.Marks.{Marks}
use Rattle.smithy_schema.specs.Nodes.{Traits}

abbrev pub marks_of : Traits → Marks
marks_of t = record {
  sensitive = t.sensitive;
  xml_attribute = t.xml_attribute;
  xml_flattened = t.xml_flattened;
  xml_unwrapped_output = t.xml_unwrapped_output;
  http_label = t.http_label;
  http_payload = t.http_payload;
  http_query_params = t.http_query_params;
  http_response_code = t.http_response_code;
  streaming = t.streaming;
  event_header = t.event_header;
  event_payload = t.event_payload;
  host_label = t.host_label;
}
