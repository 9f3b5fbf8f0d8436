-- Texts that are no big numbers.
use Rattle.std.specs.Prelude.{ℕ, codes, List, ◌++◌}
use Rattle.smithy_document.specs.Words.{SerdeError, InvalidInput}

-- with what stands behind the text in the message
abbrev pub not_parsed : List ℕ → List ℕ → SerdeError
not_parsed text ending = InvalidInput (codes "cannot parse " ++ text ++ ending)
