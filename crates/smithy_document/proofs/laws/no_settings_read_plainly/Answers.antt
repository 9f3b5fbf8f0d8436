use Rattle.smithy_document.proofs.SettingsLemmas.{reads_plainly}
use Rattle.smithy_document.proofs.laws.no_settings_read_plainly.Goals as goal

pub returns : goal.returns
returns c = reads_plainly
