use Rattle.std.proofs.Common.{[], ℕ, List, subst}
use Rattle.std.specs.List.{flat_map}
use Rattle.rx_books_scan.specs.Lists.{AreLists, BeginWith}
use Rattle.rx_books_scan.specs.Parts.{printed_lists, IsMadeOf, part_lines}
use Rattle.rx_books_scan.proofs.Begins.{begin_pieces, if_some}
use Rattle.rx_books_scan.proofs.Counted.{are_lists}
use Rattle.rx_books_scan.proofs.Lengths.{head_before, head_length, part_fronts, part_lengths}
use Rattle.rx_books_scan.proofs.reader.read_lists_cut.Goals as goal

pub overflow_sub-text : goal.overflow_sub-text
overflow_sub-text g c = head_before c.args.text.now c.in-Some.lines.now c.in-Some.head c.in-Some.ensures.1

pub lists_of-requires-clause-head : goal.lists_of-requires-clause-head
lists_of-requires-clause-head g c =
    head_length c.args.text.now c.in-Some.lines.now c.in-Some.head c.in-Some.ensures.1

pub lists_of-requires-clause-parts : goal.lists_of-requires-clause-parts
lists_of-requires-clause-parts g c =
    part_lengths c.in-Some.head.version (λ piece. piece.now) c.in_ok-pieces.pieces.items c.in_ok-parts.parts.items
    (rw c.deref.ensures.value at c.in_ok-parts.ensures)

pub returns-clause-lists : goal.returns-clause-lists
returns-clause-lists g c =
    let text = c.args.text.now in
    let head = c.in-Some.head in
    let lines = c.in-Some.lines.now in
    let parts = c.in_ok-parts.parts.items in
    let each = rw c.deref.ensures.value at c.in_ok-parts.ensures in
    let front = subst (λ (bytes : List ℕ). BeginWith head.version bytes (flat_map part_lines parts) []) c.in_ok-pieces.ensures
    (begin_pieces head.version (λ piece. piece.now) part_lines c.in_ok-pieces.pieces.items parts
    (part_fronts head.version (λ piece. piece.now) c.in_ok-pieces.pieces.items parts each)) in
    if_some c.lists_of.result (IsMadeOf head parts) (λ lists. AreLists text (printed_lists lists)) c.lists_of.ensures.made
    (λ l made. are_lists text lines head parts l c.in-Some.ensures.0 c.in-Some.ensures.1 front made)

pub returns-clause-measured : goal.returns-clause-measured
returns-clause-measured g c = c.lists_of.ensures.measured
