use Rattle.std.proofs.Common.{◌≡◌, ◌≤◌, length, take, get_or, false, ap, ◌∙◌, arith, refl}
use Rattle.std.proofs.lemmas.List.{length-take, take_all}
use Rattle.rx_fields.specs.declared.code.Code.TheVariants.{Bin}
use Rattle.std.proofs.Math.ListN.{length-set}
use Rattle.rx_d0_values.specs.CodeList.{codes_of}
use Rattle.rx_d0_request.specs.Codes.{first_five}
use Rattle.rx_d0_request.proofs.Faults.{first_five_codes, five_same, five_full, five_more, take_set}
use Rattle.rx_d0_request.proofs.codes.first_five.Goals as goal
use Rattle.rx_d0_request.proofs.codes.first_five.Goals.{then-row+then-count-lt5, else-row, else-row-via-then-row+else-count-lt5}
use Rattle.rx_d0_request.proofs.codes.first_five.Goals.{else-row-via-else-row}

pub loop-row-init : goal.loop-row-init
unfolding first_five
loop-row-init c = record { whole = refl; few = omega arith; kept = refl }

pub loop-row-preserved : goal.loop-row-preserved
loop-row-preserved c =
    let rows = c.args.rows.now in
    let i = c.loop-row.row-index in
    let codes = c.loop-row.codes in
    let count = c.loop-row.count in
    let so_far = c.loop-row.invariant.kept in
    let cut : length (take count codes) ≡ count = omega (
      arith,
      length-take count codes,
      c.loop-row.invariant.whole,
      c.loop-row.invariant.few,
    ) in
    elim c.if-row.branch [
      | then-row+then-count-lt5 w ↦
          let whole : length c.if-row.codes ≡ 5 = rw (w.codes-is, length-set) c.loop-row.invariant.whole in
          let few : c.if-row.count ≤ 5 = omega (arith, w.count-is, w.if-count-lt5.true) in
          let more = five_more rows (take count codes) i (Bin, false)
          (omega (arith, w.if-count-lt5.true)) c.loop-row-test.true w.if-row.true so_far in
          let pushed = take_set codes count (get_or rows i (Bin, false)).0
          (omega (arith, w.if-count-lt5.true, c.loop-row.invariant.whole)) in
          record { whole = whole; few = few; kept = rw (w.codes-is, w.count-is) (pushed ∙ more) }
      | else-row w ↦
          let whole : length c.if-row.codes ≡ 5 = rw w.codes-is c.loop-row.invariant.whole in
          let few : c.if-row.count ≤ 5 = omega (arith, w.count-is, c.loop-row.invariant.few) in
          elim w.else-row.branch [
            | else-row-via-then-row+else-count-lt5 w' ↦
                record {
                  whole = whole;
                  few = few;
                  kept = rw (w.codes-is, w.count-is)
                      (five_full rows (take count codes) i (omega (arith, w'.if-count-lt5.false)) c.loop-row-test.true so_far);
                }
            | else-row-via-else-row w' ↦
                record {
                  whole = whole;
                  few = few;
                  kept = rw (w.codes-is, w.count-is)
                      (five_same rows (take count codes) i (Bin, false) c.loop-row-test.true w'.if-row.false so_far);
                }
          ]
    ]

pub unreachable-requires : goal.unreachable-requires
unreachable-requires c =
    let rows = c.args.rows.now in
    let all : take c.loop-row.row-index rows ≡ rows = take_all c.loop-row.row-index rows (omega arith) in
    let kept : take c.loop-row.count c.loop-row.codes ≡ first_five rows = c.loop-row.invariant.kept ∙ ap first_five all in
    let some = ap codes_of kept ∙ first_five_codes rows c.requires in
    cc (c.in-None.ensures)

pub returns : goal.returns
returns c =
    let rows = c.args.rows.now in
    let all : take c.loop-row.row-index rows ≡ rows = take_all c.loop-row.row-index rows (omega arith) in
    let kept : take c.loop-row.count c.loop-row.codes ≡ first_five rows = c.loop-row.invariant.kept ∙ ap first_five all in
    let some = ap codes_of kept ∙ first_five_codes rows c.requires in
    cc (c.in-Some.ensures)
