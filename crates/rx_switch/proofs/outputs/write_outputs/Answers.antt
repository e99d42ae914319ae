use Rattle.std.proofs.Common.{◌≡◌, ◌∙◌, refl, ap}
use Rattle.std.specs.List.{flat_map}
use Rattle.std.specs.Vec.{vec_items}
use Rattle.std.proofs.lemmas.List.{append-nil}
use Rattle.std.proofs.lemmas.Result.{err_from_is_err_and, on_ok_weaker}
use Rattle.rx_switch.specs.Devices.IsUnwritten.{response, books, settlement}
use Rattle.rx_io.specs.declared.device.Device.TheVariants as device
use Rattle.rx_switch.specs.declared.fault.IoFault.TheVariants as io
use Rattle.rx_switch.proofs.Unwritten.{at_only_fault}
use Rattle.rx_switch.proofs.outputs.write_outputs.Goals as goal

pub returns-in_err-write_text-clause-unwritten : goal.returns-in_err-write_text-clause-unwritten
returns-in_err-write_text-clause-unwritten g c =
    let p = err_from_is_err_and c.from_residual.result c.from_residual.ensures.1 in
    let front = rw c.deref.ensures.value at c.in_err-write_text.ensures.front in
    rw (p.1, p.2, c.in_err-write_text.ensures.fault) (response front refl refl)

pub returns-in_err-write_books-clause-unwritten : goal.returns-in_err-write_books-clause-unwritten
returns-in_err-write_books-clause-unwritten g c =
    let p = err_from_is_err_and c.from_residual-in_err-write_books.result c.from_residual-in_err-write_books.ensures.1 in
    let whole = rw c.deref.ensures.value at c.in_ok-write_text.ensures.whole in
    let front = rw c.deref-2.ensures.value at c.in_err-write_books.ensures.front in
    rw (p.1, p.2, c.in_err-write_books.ensures.fault) (books whole front refl)

pub returns-clause-unwritten : goal.returns-clause-unwritten
returns-clause-unwritten g c =
    let first = rw c.deref.ensures.value at c.in_ok-write_text.ensures.whole in
    let second = rw c.deref-2.ensures.value at c.in_ok-write_books.ensures.whole in
    let alone : flat_map vec_items c.from_ref.result.now ≡ c.args.output.now.settlement.items =
    ap (flat_map vec_items) c.from_ref.ensures.value ∙ append-nil c.args.output.now.settlement.items in
    let front = rw alone at c.write_text-2.ensures.front in
    at_only_fault c.write_text-2.result (io.Write device.Settlement) _ c.write_text-2.ensures.fault
    (settlement first second front)

pub returns-clause-done : goal.returns-clause-done
returns-clause-done g c =
    let first = rw c.deref.ensures.value at c.in_ok-write_text.ensures.whole in
    let second = rw c.deref-2.ensures.value at c.in_ok-write_books.ensures.whole in
    let alone : flat_map vec_items c.from_ref.result.now ≡ c.args.output.now.settlement.items =
    ap (flat_map vec_items) c.from_ref.ensures.value ∙ append-nil c.args.output.now.settlement.items in
    on_ok_weaker c.write_text-2.result (λ all. record {
      response_is = first;
      books_is = second;
      settlement_is = rw (← alone) all;
    }) c.write_text-2.ensures.whole
