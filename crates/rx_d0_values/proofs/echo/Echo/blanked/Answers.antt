use Rattle.std.proofs.Common.{refl}
use Rattle.rx_d0_values.proofs.Echoes.{blanked-printable}
use Rattle.rx_d0_values.proofs.echo.Echo.blanked.Goals as goal

pub invariant_of-result : goal.invariant_of-result
invariant_of-result c =
    let e = c.args.parts in
    rw (c.printable.ensures, c.printable-2.ensures, c.printable-3.ensures, c.printable-4.ensures, c.printable-5.ensures)
    (rw (
      blanked-printable e.version,
      blanked-printable e.code,
      blanked-printable e.qualifier,
      blanked-printable e.provider,
      blanked-printable e.date,
    ) refl)
