-- The example paths are made of segments.
use Rattle.smithy_router.proofs.Common.{◌≡◌, ◌≢◌, refl, ℕ, Bool, true, false, List, [], ◌∷◌, if◌then◌else◌, arith, AllByRecursion, Segment, Literal, Hole, fits_path, IsSegment, IsPath, segment_covers}
use Rattle.smithy_router.proofs.Examples.{letter, segment_example, path_example, common_segment, common_path, other_segment, other_length, other_rest, other_path}
use Rattle.smithy_router.proofs.Targets.{IsClean, HasNo-append}

letter_clean : IsClean letter
letter_clean = record { slash = ((λ h. absurd (omega arith)), tt); question = ((λ h. absurd (omega arith)), tt) }

example_clean : (p : Segment) → IsSegment p → IsClean (segment_example p)
example_clean (Literal text) h = record { slash = h.0; question = h.1 }
example_clean Hole h = letter_clean

pub path_example_clean : (g : Bool) (ps : List Segment) → AllByRecursion IsSegment ps → AllByRecursion IsClean (path_example g ps)
path_example_clean true [] h = (letter_clean, tt)
path_example_clean false [] h = tt
path_example_clean g (p ∷ ps) h = (example_clean p h.0, path_example_clean g ps h.1)

common_clean : (p q : Segment) → IsSegment p → IsSegment q → IsClean (common_segment p q)
common_clean (Literal text) q hp hq = record { slash = hp.0; question = hp.1 }
common_clean Hole q hp hq = example_clean q hq

pub common_path_clean : (g : Bool) (ps : List Segment) (h : Bool) (qs : List Segment) → AllByRecursion IsSegment ps → AllByRecursion IsSegment qs → AllByRecursion IsClean (common_path g ps h qs)
common_path_clean g [] h qs hp hq = path_example_clean h qs hq
common_path_clean g (p ∷ ps) h [] hp hq = path_example_clean g (p ∷ ps) hp
common_path_clean g (p ∷ ps) h (q ∷ qs) hp hq = (common_clean p q hp.0 hq.0, common_path_clean g ps h qs hp.1 hq.1)

other_clean : (p q : Segment) → IsSegment p → IsSegment q → IsClean (other_segment p q)
other_clean (Literal a) (Literal b) hp hq = record { slash = hq.0; question = hq.1 }
other_clean (Literal a) Hole hp hq = record { slash = HasNo-append 47 a letter hp.0 letter_clean.slash; question = HasNo-append 63 a letter hp.1 letter_clean.question }
other_clean Hole q hp hq = record { slash = tt; question = tt }

length_clean : (g : Bool) (ps : List Segment) → AllByRecursion IsClean (other_length g ps)
length_clean false [] = (letter_clean, (letter_clean, tt))
length_clean true [] = (letter_clean, tt)
length_clean g (p ∷ ps) = (letter_clean, tt)

rest_clean : (g : Bool) (ps : List Segment) (h : Bool) → AllByRecursion IsClean (other_rest g ps h)
rest_clean g ps true = length_clean g ps
rest_clean g ps false = tt

pub other_path_clean : (g : Bool) (ps : List Segment) (h : Bool) (qs : List Segment) → AllByRecursion IsSegment ps → AllByRecursion IsSegment qs → AllByRecursion IsClean (other_path g ps h qs)
other_path_clean g [] h qs hp hq = path_example_clean h qs hq
other_path_clean g (p ∷ ps) h [] hp hq = rest_clean g ps h
other_path_clean g (p ∷ ps) h (q ∷ qs) hp hq = go (segment_covers p q) (other_path_clean g ps h qs hp.1 hq.1)
  where
    go : (t : Bool) → AllByRecursion IsClean (other_path g ps h qs) → AllByRecursion IsClean (if t then segment_example q ∷ other_path g ps h qs else (other_segment p q ∷ path_example h qs))
    go true rest = (example_clean q hq.0, rest)
    go false rest = (other_clean p q hp.0 hq.0, path_example_clean h qs hq.1)

-- no path of a route is empty
pub some_path : (g : Bool) (ps : List Segment) (ss : List (List ℕ)) → IsPath g ps → fits_path g ps ss ≡ true → ss ≢ []
some_path true [] [] path fits e = cc fits
some_path false [] [] path fits e = let h = path refl in cc h
some_path g (p ∷ ps) [] path fits e = cc fits
some_path g ps (s ∷ ss) path fits e = cc e
