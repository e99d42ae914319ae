-- What is said of the batch that was replayed is said of the inputs.
use Rattle.std.proofs.lemmas.Result.{IfOk-weaker}
use Rattle.rx_commands.proofs.for_provider.explain_for.Goals as goal

pub returns-clause-printed : goal.returns-clause-printed
returns-clause-printed g c =
    IfOk-weaker c.printed_for.result _ _
    (λ result printed. record {
      retraced = c.in_ok-retraced.retraced;
      retraced_is = c.in_ok-retraced.ensures.retraced;
      printed = printed;
    }) c.printed_for.ensures.printed

pub returns-clause-refused : goal.returns-clause-refused
returns-clause-refused g c =
    c.printed_for.ensures.refused c.args.inputs.now.sheet.now c.args.inputs.now.books.now c.args.inputs.now.batch.now
