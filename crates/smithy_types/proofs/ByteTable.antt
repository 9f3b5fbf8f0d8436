-- The table of bytes has the flags of each class, by computing all of it.
use Rattle.std.proofs.Common.{◌≡◌, ℕ, ◌<◌, Bool, not, nat_eq, bit_and, get_or, map, refl, sym, ap, ◌∙◌, arith}
use Rattle.std.specs.List.{range_with_len}
use Rattle.std.proofs.lemmas.List.{get_or-map}
use Rattle.std.proofs.lemmas.List.FromFn.{get_or-map-range_with_len}
use Rattle.smithy_types.specs.declared.grammar.ByteClass.{ByteClass}
use Rattle.smithy_types.specs.declared.grammar.ByteClass.TheVariants.{Token, HeaderValue, Path, Query}
use Rattle.smithy_types.specs.declared.grammar.TheConstants.{CLASSES}
use Rattle.smithy_types.specs.views.ByteClasses.{bytes_of, flag_of}

abbrev has_flag : ByteClass → ℕ → Bool
has_flag class flags = not (nat_eq (bit_and flags (flag_of class)) 0)

flags_of : (class : ByteClass) → map (has_flag class) CLASSES ≡ map (bytes_of class) (range_with_len 0 256)
flags_of Token = refl
flags_of HeaderValue = refl
flags_of Path = refl
flags_of Query = refl

pub flag_tells : (class : ByteClass) (b : ℕ) → b < 256 → has_flag class (get_or CLASSES b 0) ≡ bytes_of class b
flag_tells class b lt =
    sym (get_or-map (has_flag class) CLASSES b 0 (bytes_of class b) lt)
    ∙ ap (λ tests. get_or tests b (bytes_of class b)) (flags_of class)
    ∙ get_or-map-range_with_len (bytes_of class) 0 256 b b (bytes_of class b) lt (omega arith)
