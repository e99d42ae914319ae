use Rattle.std.proofs.Common.{take}
use Rattle.std.specs.List.{AllZip}
use Rattle.rx_show.specs.Found.{IsFound}
use Rattle.rx_show.proofs.responses.found.find_replies.Given as goal

abbrev pub invariant-loop-detail : goal.invariant-loop-detail
invariant-loop-detail l = AllZip (λ d f. IsFound d.text f) (take l.detail-index l.details) l.found.items
