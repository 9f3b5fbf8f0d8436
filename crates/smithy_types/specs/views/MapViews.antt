-- What an entry of a map is seen as.
use Rattle.std.specs.Prelude.{ℕ, List, String, string_bytes}
use Rattle.std.specs.Global.{Global}

abbrev pub pair_of : String Global × List ℕ → List ℕ × List ℕ
pair_of entry = (string_bytes entry.0, entry.1)
