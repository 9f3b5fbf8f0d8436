use Rattle.smithy_response.proofs.Common.{rules, refl, schema_of, at_members}
use Rattle.smithy_response.proofs.WholeRead.{members_handed, none_handed}
use Rattle.smithy_response.proofs.whole_response.read_members.Goals as goal

pub returns-in_err-reader-clause-handed : goal.returns-in_err-reader-clause-handed
returns-in_err-reader-clause-handed g c = none_handed (at_members g.M.MemberConsumer.takes) _ _ _ _ refl (search rules)

pub returns : goal.returns
returns g c = record {
  handed = members_handed (at_members g.M.MemberConsumer.takes) (schema_of c.args.node) c.args.response.now c.args.policy _ _ _ g.D.ShapeDeserializer.at_hand c.args.is_error c.args.body _ c.in_ok-reader.ensures c.read_struct.ensures.handed;
  kept = c.read_struct.ensures.kept;
}
