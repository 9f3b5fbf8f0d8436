-- The laws of the ranking: tests decide it over all methods and targets, and in a list without conflicts one route is best.
use Rattle.std.specs.Prelude.{◌≡◌, ℕ, List, IsTrue, ◌↔◌, ◌⊎◌}
use Rattle.smithy_router.specs.Routes.{Route, IsRoute}
use Rattle.smithy_router.specs.Ranking.{Covers, Escapes, Overlaps, Beats, Conflicts}
use Rattle.smithy_router.specs.Deciding.{covers, overlaps, beats, conflicts}
use Rattle.smithy_router.specs.Tables.{Entry, AreApart, NoneMatches, IsBest}

-- one route covers another exactly where the test says so; where it doesn't, some request tells
pub record DecidesCovers (a : Route) (b : Route) : Type 0 where
  pub exact : IsTrue (covers a b) ↔ Covers a b
  pub witness : Covers a b ⊎ Escapes a b

-- two routes match a common request, beat each other or conflict exactly where the tests say so
pub record DecidesRanks (a : Route) (b : Route) : Type 0 where
  pub overlap : IsTrue (overlaps a b) ↔ Overlaps a b
  pub beats : IsTrue (beats a b) ↔ Beats a b
  pub conflict : IsTrue (conflicts a b) ↔ Conflicts a b

-- of each two routes
abbrev pub TestsDecide : Type 0
TestsDecide = (a b : Route) → IsRoute a → IsRoute b → DecidesCovers a b × DecidesRanks a b

-- where no two routes of a list conflict, none matches, or one beats each other one that matches
abbrev pub SomeIsBest : Type 0
SomeIsBest =
    (method target : List ℕ) (entries : List Entry) → AreApart entries
    → NoneMatches method target entries ⊎ ((e : Entry) × IsBest method target entries e)

-- and it is the only one: two such entries stand at one place
abbrev pub BestIsOne : Type 0
BestIsOne =
    (method target : List ℕ) (entries : List Entry) (d e : Entry)
    (first : IsBest method target entries d) (second : IsBest method target entries e)
    → (first.before ≡ second.before) × (d ≡ e)
