use Rattle.smithy_job.proofs.PlacesLead.{places_lead}
use Rattle.smithy_job.proofs.laws.wrong_places_lead.Goals as goal

pub returns : goal.returns
returns c = places_lead
