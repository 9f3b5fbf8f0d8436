-- What the traits with several parts hold.
use Rattle.std.specs.Prelude.{ℕ, List, Option}

-- `@http`: method, URI template and status code (Smithy, HTTP protocol bindings, http trait)
pub record Http : Type 0 where
  pub method : List ℕ
  pub uri : List ℕ
  pub code : ℕ

-- `@xmlNamespace` (Smithy, XML bindings, xmlNamespace trait)
pub record Namespace : Type 0 where
  pub uri : List ℕ
  pub prefix : Option (List ℕ)
