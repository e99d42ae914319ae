use Rattle.std.proofs.Common.{◌≡◌, true, length, refl, sym, ◌∙◌}
use Rattle.rx_text.specs.Bytes.{all_printable}
use Rattle.rx_sheet.proofs.Blanks.{all_printable-both, all_printable-drop}
use Rattle.rx_sheet.proofs.values.pcn.Goals as goal

pub returns-clause-within : goal.returns-clause-within
returns-clause-within c =
    let bytes = c.as_bytes-bytes.result.now in
    let printable : all_printable bytes ≡ true = sym c.all_printable.ensures ∙ c.if-not-all_printable.false in
    let copied : all_printable c.copy_from_slice.new.self ≡ true = rw c.copy_from_slice.ensures.after printable in
    all_printable-both c.copy_from_slice.new.self _ copied (all_printable-drop (length bytes) _ refl)
