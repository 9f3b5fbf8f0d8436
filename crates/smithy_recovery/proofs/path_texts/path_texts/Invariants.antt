use Rattle.std.proofs.Common.{◌≡◌, drop, map}
use denote.Shadow.{shadow}
use denote.Text.{Utf8}
use Rattle.smithy_binding.specs.views.CutTemplate.{behind_holes, literal_alone}
use Rattle.smithy_recovery.specs.views.Kept.{label_seen}
use Rattle.smithy_recovery.specs.PathParts.{path_texts}
use Rattle.smithy_recovery.proofs.Cutting.{behind_done}
use Rattle.smithy_recovery.proofs.path_texts.path_texts.Given as goal

abbrev pub invariant-loop-i : goal.invariant-loop-i
invariant-loop-i l =
    record {
      text : shadow (Utf8 l.path);
      read : behind_done (map label_seen l.texts.items) (path_texts (behind_holes (drop l.i l.holes) (literal_alone l.last)) l.path)
          ≡ path_texts (behind_holes l.holes (literal_alone l.last)) l.initial.path;
    }
