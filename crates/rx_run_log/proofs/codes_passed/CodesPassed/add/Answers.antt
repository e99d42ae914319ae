use Rattle.std.proofs.Common.{◌∙◌, ◌++◌, ap, sym}
use Rattle.std.proofs.lemmas.Result.{on_ok_weaker}
use Rattle.rx_run_log.specs.CodesPassed.{codes_in, last_five}
use Rattle.rx_run_log.proofs.Codes.{codes-on, five-on}
use Rattle.rx_run_log.proofs.codes_passed.CodesPassed.add.Goals as goal

pub returns : goal.returns
returns c =
    let old = c.args.self.now in
    let piece = c.args.piece.now in
    on_ok_weaker c.pass.result
    (λ passed bytes before. record {
      five = passed.0 ∙ ap (λ n. last_five n piece) before.five ∙ sym (five-on 0 bytes piece);
      codes = passed.1 ∙ ap (λ l. l ++ codes_in old.five piece) before.codes
          ∙ ap (λ n. codes_in 0 bytes ++ codes_in n piece) before.five ∙ sym (codes-on 0 bytes piece);
    }) c.pass.ensures
