use Rattle.std.proofs.Common.{◌≡◌, [], refl, arith, rules}
use Rattle.rx_books_text.specs.declared.line.Line.TheVariants as line
use Rattle.rx_books_scan.proofs.Begins.{begin_none, begin_push, begin_shorter}
use Rattle.rx_books_scan.proofs.Lengths.{lengths_push}
use Rattle.rx_books_scan.proofs.run.claims_at.Goals as goal

pub loop-row-init : goal.loop-row-init
loop-row-init c =
    let no_rows : c.in_ok-rows.rows.items ≡ [] = search rules in
    let no_lengths : c.in_ok-lengths.lengths.items ≡ [] = search rules in
    rw (no_rows, no_lengths) (record { front = begin_none c.args.version c.args.bytes.now; each = refl })

pub length_before-requires : goal.length_before-requires
length_before-requires c =
    let shorter = begin_shorter c.args.version c.loop-row.rest.now c.in-Some.behind.now (line.Claim c.in-Some.row) c.in-Some.ensures in
    omega arith

pub loop-row-smaller : goal.loop-row-smaller
loop-row-smaller c =
    begin_shorter c.args.version c.loop-row.rest.now c.in-Some.behind.now (line.Claim c.in-Some.row) c.in-Some.ensures

pub loop-row-preserved : goal.loop-row-preserved
loop-row-preserved c =
    let row = c.in-Some.row in
    rw (c.in-Ok.ensures.items, c.in-Ok-push.ensures.items) (record {
      front = begin_push (λ r. line.Claim r) c.args.version c.args.bytes.now c.loop-row.rest.now
          c.in-Some.behind.now c.loop-row.rows.items row c.loop-row.invariant.front c.in-Some.ensures;
      each = lengths_push c.args.version c.loop-row.rest.now c.in-Some.behind.now c.loop-row.rows.items row
          c.loop-row.lengths.items c.in_ok-length.length c.loop-row.invariant.each c.in-Some.ensures c.in_ok-length.ensures;
    })

pub returns-clause-lines : goal.returns-clause-lines
returns-clause-lines c = c.loop-row.invariant.front

pub returns-clause-lengths : goal.returns-clause-lengths
returns-clause-lengths c = c.loop-row.invariant.each
