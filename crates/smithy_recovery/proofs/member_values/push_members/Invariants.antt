use Rattle.std.proofs.Common.{drop, map}
use Rattle.smithy_recovery.proofs.MembersAdded.{Going}
use Rattle.smithy_recovery.proofs.member_values.push_members.Given as goal

abbrev pub invariant-loop-place : goal.invariant-loop-place
invariant-loop-place g l = Going (g.C.Codec.holds l.codec) l.cut (map (λ p. p.0) l.places) (map (λ p. p.0) (drop l.place-index l.places)) l.initial.writes l.writes
