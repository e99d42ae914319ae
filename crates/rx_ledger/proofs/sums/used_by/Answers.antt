-- Each row of the family and the period adds what it counts.
use Rattle.std.proofs.Common.{◌≡◌, ◌<◌, ◌+◌, length, true, false, sym, ◌∙◌, arith}
use Rattle.rx_fields.specs.Numbered.{is_within}
use Rattle.rx_ledger.specs.Members.{is_same}
use Rattle.rx_ledger.specs.Rows.{claimed_by}
use Rattle.rx_ledger.proofs.SameText.{same_text}
use Rattle.rx_ledger.proofs.Summed.{used_by-other, used_by-own}
use Rattle.rx_ledger.proofs.sums.used_by.Goals as goal
use Rattle.rx_ledger.proofs.sums.used_by.Goals.{then-eq, else-eq}

pub loop-row-preserved : goal.loop-row-preserved
loop-row-preserved c =
    let f = c.args.figures.now in
    let family = c.args.key.now.family in
    let person = c.args.key.now.person in
    let rows = c.args.rows.now in
    let r = c.row-item.result in
    let at = c.loop-row.row-index in
    let in_range : at < length rows = omega arith in
    let own : claimed_by family r ≡ true = cc in
    let within : is_within f.period r.key.date ≡ true = cc in
    let same = same_text r.person person in
    elim c.if-eq.branch [
      | then-eq w ↦
          let one : is_same r.person person ≡ true = sym same ∙ sym w.if-eq.ensures in
          let more = used_by-own family rows at r in_range c.row-item.is f person own within one in
          let deductible : c.if-eq.used.deductible ≡ c.loop-row.used.deductible + c.from-deductible.result = cc in
          let out_of_pocket : c.if-eq.used.out_of_pocket ≡ c.loop-row.used.out_of_pocket = cc in
          let family_deductible : c.if-eq.used.family_deductible ≡ c.loop-row.used.family_deductible = cc in
          record { so_far = cc; deductible = omega arith; out_of_pocket = omega arith; family_deductible = omega arith }
      | else-eq w ↦
          let other : is_same r.person person ≡ false = sym same ∙ sym w.if-eq.ensures in
          let more = used_by-other family rows at r in_range c.row-item.is f person own within other in
          let deductible : c.if-eq.used.deductible ≡ c.loop-row.used.deductible = cc in
          let out_of_pocket : c.if-eq.used.out_of_pocket ≡ c.loop-row.used.out_of_pocket = cc in
          let family_deductible : c.if-eq.used.family_deductible ≡ c.loop-row.used.family_deductible = cc in
          record { so_far = cc; deductible = omega arith; out_of_pocket = omega arith; family_deductible = omega arith }
    ]
