use Rattle.std.proofs.Common.{◌≡◌, vec_len}
use Rattle.rx_desk.proofs.making.blank_replies.Given as goal

abbrev pub invariant-records : goal.invariant-records
invariant-records l = vec_len l.replies ≡ l.transmission-index
