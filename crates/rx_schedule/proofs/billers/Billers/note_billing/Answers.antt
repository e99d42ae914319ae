use Rattle.std.proofs.Common.{◌||◌, ap, sym, ◌∙◌}
use Rattle.std.specs.Prelude.{◌&&◌}
use Rattle.std.specs.Ordering.{is_eq}
use Rattle.rx_fields.specs.Order.{id_cmp, key_cmp}
use Rattle.rx_fields.specs.declared.key.Key.{Key}
use Rattle.rx_d0_values.specs.declared.bill.BillParts.{BillParts}
use Rattle.rx_ledger.specs.Named.{key_in}
use Rattle.rx_schedule.specs.Billed.{is_biller}
use Rattle.rx_schedule.proofs.Noted.{among_billed, on_ok}
use Rattle.rx_schedule.proofs.billers.Billers.note_billing.Goals as goal

pub returns-in-Bill : goal.returns-in-Bill
returns-in-Bill c =
    let h = c.args.heard.now in
    on_ok c.note_one.result c.note_one.ensures (λ noted k f.
    let old = is_biller c.args.self.now.families k f in
    noted k f
    ∙ ap (λ (key : Key). is_eq (key_cmp key k) && is_eq (id_cmp f c.parts-parts.result.now.family) || old) c.key.ensures
    ∙ ap (λ (b : BillParts). is_eq (key_cmp (key_in h b.reference) k) && is_eq (id_cmp f b.family) || old) c.parts-parts.ensures
    ∙ rw c.in-Bill.is (ap (λ b. b || old) (sym (among_billed h k c.in-Bill.bill f))))
