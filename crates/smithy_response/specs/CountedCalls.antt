-- The calls of a reader whose open containers are counted: those of the reader.
use Rattle.std.specs.Prelude.{Option, Result}
use Rattle.smithy_response.specs.Words.{Schema, SchemaRef, SerdeError, ScalarKind, ReadScalar, Group, Answer, AtHand, scalar_of_read, Reads, OpensAt, NextMember}
use Rattle.smithy_response.specs.views.Frames.{without_copies}
use Rattle.smithy_response.specs.views.Stages.{Counting}

abbrev pub CountedReads : {D : Type 0} → (D → AtHand) → ScalarKind → Schema → Counting D → Counting D → Result ReadScalar SerdeError → Type 0
CountedReads at k node old new result = Reads scalar_of_read k node (at old.reader) (at new.reader) result

abbrev pub CountedOpens : {D : Type 0} → (D → AtHand) → Group → Schema → Counting D → Counting D → Answer → Type 0
CountedOpens at g node old new result = OpensAt g node (at old.reader) (at new.reader) result

abbrev pub CountedNext : {D : Type 0} → (D → AtHand) → Schema → Counting D → Counting D → Result (Option SchemaRef) SerdeError → Type 0
CountedNext at node old new result = NextMember node (at old.reader) (at new.reader) result

-- the next member that is no copy of a bound one
abbrev pub NextUnbound : {D : Type 0} → (D → AtHand) → Schema → Counting D → Counting D → Result (Option SchemaRef) SerdeError → Type 0
NextUnbound at node old new result = NextMember node (without_copies (at old.reader)) (without_copies (at new.reader)) result
