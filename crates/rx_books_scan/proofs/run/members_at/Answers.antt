use Rattle.std.proofs.Common.{◌∷◌, [], refl, arith, length-append}
use Rattle.rx_books_text.specs.Printed.{member_lines}
use Rattle.rx_books_text.specs.declared.line.Line.TheVariants as line
use Rattle.rx_books_scan.proofs.Begins.{begin_member, begin_none, begin_shorter}
use Rattle.rx_books_scan.proofs.Lengths.{begin_length, begin_taken}
use Rattle.rx_books_scan.proofs.run.members_at.Goals as goal

pub loop-line-init : goal.loop-line-init
loop-line-init c =
    rw (c.new-members.ensures.items, c.new-deductibles.ensures.items)
    (record { one_each = refl; front = begin_none c.args.version c.args.bytes.now })

pub loop-line-smaller : goal.loop-line-smaller
loop-line-smaller c =
    begin_shorter c.args.version c.loop-line.rest.now c.in-Some.behind.now (line.Member c.in-Some.line) c.in-Some.ensures

pub loop-line-preserved : goal.loop-line-preserved
loop-line-preserved c =
    rw (c.in-Ok.ensures.items, c.in-Ok-push.ensures.items) (record {
      one_each = omega (
        arith,
        c.loop-line.invariant.one_each,
        length-append c.loop-line.deductibles.items (c.in-Some.line.deductible ∷ []),
        length-append c.loop-line.members.items (c.in-Some.line.member ∷ []),
      );
      front = begin_member c.args.version c.args.bytes.now c.loop-line.rest.now c.in-Some.behind.now
          c.loop-line.members.items c.loop-line.deductibles.items c.in-Some.line.member c.in-Some.line.deductible
          c.loop-line.invariant.one_each c.loop-line.invariant.front c.in-Some.ensures;
    })

pub overflow_sub-members : goal.overflow_sub-members
overflow_sub-members c =
    let lines = member_lines c.loop-line.members.items c.loop-line.deductibles.items in
    omega (arith, begin_length c.args.version c.args.bytes.now c.loop-line.rest.now lines c.loop-line.invariant.front)

pub invariant_of-members : goal.invariant_of-members
invariant_of-members c = record { one_each = c.loop-line.invariant.one_each }

pub returns-clause-lines : goal.returns-clause-lines
returns-clause-lines c = c.loop-line.invariant.front

pub returns-clause-bytes : goal.returns-clause-bytes
returns-clause-bytes c =
    let lines = member_lines c.loop-line.members.items c.loop-line.deductibles.items in
    begin_taken c.args.version c.args.bytes.now c.loop-line.rest.now lines c.loop-line.invariant.front
