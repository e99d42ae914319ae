use Rattle.std.proofs.Common.{ℕ, ◌<◌, if◌then◌else◌, get_or, length, arith}
use Rattle.std.proofs.lemmas.List.{get_or_default}
use Rattle.std.proofs.lemmas.List.Edits.{map_over_more}
use Rattle.rx_text.specs.Bytes.{is_printable}
use Rattle.rx_d0_values.proofs.echo.blank_unprintable.Goals as goal

pub loop-byte-preserved : goal.loop-byte-preserved
loop-byte-preserved c =
    let loop = c.loop-byte in
    let byte = get_or loop.bytes loop.byte-index 0 in
    let within : loop.byte-index < length loop.bytes = omega arith in
    rw c.printable_or_blank.ensures
    (map_over_more (λ (b : ℕ). if is_printable b then b else 32) c.args.bytes.now loop.bytes loop.byte-index byte
    c.loop-byte-test.true loop.invariant (get_or_default loop.bytes loop.byte-index 0 byte within))
