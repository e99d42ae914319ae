use Rattle.std.proofs.Common.{◌≡◌, subst, sym, rules}
use Rattle.rx_d0_values.specs.Echoed.{IsEcho}
use Rattle.rx_d0_reply.specs.Limits.{IsHeader}
use Rattle.rx_d0_reply.proofs.writing.put_header.Goals as goal

pub returns-clause-within : goal.returns-clause-within
returns-clause-within c =
    let same : c.parts-echo.result.now ≡ c.args.echo.now = c.parts-echo.ensures.value in
    let parts : IsHeader c.parts-echo.result.now =
    record {
      version = c.header_front.ensures.within.0;
      code = c.header_front.ensures.within.1;
      qualifier = c.put_field.ensures.within;
      provider = c.put_field-2.ensures.within;
      date = c.put_field-3.ensures.within;
      printable = subst IsEcho (sym same) c.parts-echo.ensures.printable;
    } in
    let header : IsHeader c.args.echo.now = subst IsHeader same parts in
    search rules
