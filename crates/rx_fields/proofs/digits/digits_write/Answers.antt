-- Each step writes one digit, from the right; at the end all are written.
use Rattle.std.proofs.Common.{arith, length-set, ℕ}
use Rattle.rx_fields.proofs.DigitLaws.{write_step, write_done, digits_text-again}
use Rattle.rx_fields.proofs.digits.digits_write.Goals as goal

pub loop-i-preserved : goal.loop-i-preserved
loop-i-preserved g c = record {
  room = omega (arith, length-set {A = ℕ});
  text = write_step c.loop-i.i c.loop-i.rest c.loop-i.digits _ (omega arith) (omega arith) c.loop-i.invariant.text;
}

pub returns-clause-again : goal.returns-clause-again
returns-clause-again g c =
    let done = write_done c.loop-i.i c.loop-i.rest c.loop-i.digits _ (omega arith) c.loop-i.invariant.text in
    rw done (digits_text-again g.row.N c.args.number c.requires.some c.requires.fits)

pub returns-clause-text : goal.returns-clause-text
returns-clause-text g c = write_done c.loop-i.i c.loop-i.rest c.loop-i.digits _ (omega arith) c.loop-i.invariant.text
