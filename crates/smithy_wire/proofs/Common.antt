-- The names that this crate's proofs cite, from one place.
pub use Rattle.std.proofs.Common.{◌≡◌, ◌≢◌, refl, sym, ap, ap₂, ◌∙◌, subst, ℕ, zero, suc, ◌+◌, ◌-◌, ◌*◌, ◌^◌, ◌<◌, ◌≤◌, ◌==◌, max, arith, Bool, true, false, cond, not, ◌&&◌, ◌||◌, if◌then◌else◌, ◌⊎◌, inl, inr, List, [], ◌∷◌, ◌++◌, length, take, drop, map, find, filter, flat_map, Option, Some, None, option_map, option_and_then, ok_or, Result, Ok, Err, IsTrue, decimal, ℤ, pos, negsuc, append-nil, length-append}
pub use Rattle.std.proofs.lemmas.Bool.{and_parts, and_from}
pub use Rattle.std.specs.Prelude.{⊤}
pub use Rattle.jiff_core.proofs.SignedLemmas.{signed_arith}
