use Rattle.std.proofs.Common.{refl}
use Rattle.rx_fields.specs.Amount.{signed_text}
use Rattle.rx_fields.specs.Calendar.{date_text}
use Rattle.rx_fields.specs.Digits.{digits_text}
use Rattle.rx_d0_request.proofs.WrittenRequest.{billings_heard, reversals_heard}
use Rattle.rx_d0_request.proofs.law.written_is_heard.Goals as goal

pub returns-clause-billings : goal.returns-clause-billings
returns-clause-billings c = billings_heard

pub returns-clause-reversals : goal.returns-clause-reversals
returns-clause-reversals c = reversals_heard

pub returns-clause-base_claim : goal.returns-clause-base_claim
unfolding digits_text signed_text date_text
returns-clause-base_claim c = refl
