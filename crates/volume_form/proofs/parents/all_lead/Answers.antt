-- `volume_form::parents::all_lead` meets its contract.
-- Assumes nothing.
use Rattle.volume_form.specs.Code.Checks.{climbs_by, all_lead}
use Rattle.volume_form.proofs.parents.all_lead.Goals as goal

pub returns : goal.returns
unfolding all_lead
returns c = c.every.ensures (climbs_by c.args.n c.args.parents.now) (λ i r h e. cc)
