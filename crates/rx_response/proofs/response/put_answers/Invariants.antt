use Rattle.std.proofs.Common.{◌≡◌, ◌++◌, drop}
use Rattle.rx_response.specs.Pieces.{records_text}
use Rattle.rx_response.specs.Response.{response_details}
use Rattle.rx_response.proofs.response.put_answers.Given as goal

-- what is written, and the records that are left to write
abbrev pub invariant-loop-at : goal.invariant-loop-at
invariant-loop-at l =
    l.text.items ++ records_text (response_details (drop l.at l.details) (drop l.at l.replies))
    ≡ l.initial.text.items ++ records_text (response_details l.details l.replies)
