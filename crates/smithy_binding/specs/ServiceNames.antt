-- What the names of a service say.
use Rattle.std.specs.Prelude.{ℕ, List, Option, option_map, string_bytes}
use Rattle.smithy_binding.specs.declared.service_names.ServiceShapeName.{ServiceShapeName}
use Rattle.smithy_binding.specs.declared.service_names.ServiceShapeNamespace.{ServiceShapeNamespace}
use Rattle.smithy_binding.specs.declared.service_names.ServiceVersion.{ServiceVersion}
use Rattle.smithy_binding.specs.declared.service_names.ServiceXmlNamespace.{ServiceXmlNamespace}

abbrev pub shape_name : ServiceShapeName → List ℕ
shape_name name = string_bytes name.text

abbrev pub shape_namespace : ServiceShapeNamespace → List ℕ
shape_namespace namespace = string_bytes namespace.text

abbrev pub version_text : ServiceVersion → List ℕ
version_text version = string_bytes version.text

abbrev pub xml_uri : ServiceXmlNamespace → List ℕ
xml_uri namespace = string_bytes namespace.uri

abbrev pub xml_prefix : ServiceXmlNamespace → Option (List ℕ)
xml_prefix namespace = option_map string_bytes namespace.prefix
