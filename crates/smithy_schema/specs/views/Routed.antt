-- What the code asks of each member for the routing word.
use Rattle.std.specs.Prelude.{Bool, true, false, not}

-- the member is bound, or, where that is asked, it is not
abbrev pub is_as : Bool → Bool → Bool
is_as true b = b
is_as false b = not b
