-- What a mark for each of so many positions stands for.
use Rattle.std.specs.Prelude.{Bool, List, take}
use Rattle.smithy_binding.specs.declared.few_marks.FewMarks.{FewMarks}
use Rattle.smithy_binding.specs.declared.marks.Marks.{Marks}
use Rattle.smithy_binding.specs.declared.marks.Marks.TheVariants as marks

abbrev pub few_of : FewMarks → List Bool
few_of m = take m.count m.marks

-- the marks by position
abbrev pub marks_of : Marks → List Bool
marks_of (marks.Few m) = few_of m
marks_of (marks.Many v) = v.items
