-- What a method that is kept stands for.
use Rattle.std.specs.Prelude.{ℕ, codes, List}
use Rattle.smithy_http.specs.declared.method.Method.{Method}
use Rattle.smithy_http.specs.declared.method.Method.TheVariants as method

abbrev pub method_text : Method → List ℕ
method_text method.Get = codes "GET"
method_text method.Put = codes "PUT"
method_text method.Post = codes "POST"
method_text method.Delete = codes "DELETE"
method_text method.Head = codes "HEAD"
method_text method.Patch = codes "PATCH"
method_text (method.Named text) = text
