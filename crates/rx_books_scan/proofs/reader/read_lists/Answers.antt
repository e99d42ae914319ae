use Rattle.std.proofs.Common.{[], ◌∷◌, ◌++◌, List, ap, subst, sym, ◌∙◌}
use Rattle.std.specs.List.{All, flat_map}
use Rattle.std.proofs.lemmas.List.Elements.{All-cons, All-nil}
use Rattle.rx_books_scan.specs.declared.part.Part.{Part}
use Rattle.rx_books_scan.specs.Lists.{AreLists, BeginWith}
use Rattle.rx_books_scan.specs.Parts.{printed_lists, IsMadeOf, IsPartMeasured, part_lines}
use Rattle.rx_books_scan.proofs.Begins.{begin_alone, if_some}
use Rattle.rx_books_scan.proofs.Counted.{are_lists}
use Rattle.rx_books_scan.proofs.Lengths.{head_before, head_length}
use Rattle.rx_books_scan.proofs.reader.read_lists.Goals as goal

pub overflow_sub-text : goal.overflow_sub-text
overflow_sub-text c = head_before c.args.text.now c.in-Some.lines.now c.in-Some.head c.in-Some.ensures.1

pub lists_of-requires-clause-head : goal.lists_of-requires-clause-head
lists_of-requires-clause-head c =
    head_length c.args.text.now c.in-Some.lines.now c.in-Some.head c.in-Some.ensures.1

pub lists_of-requires-clause-parts : goal.lists_of-requires-clause-parts
lists_of-requires-clause-parts c =
    let P = IsPartMeasured c.in-Some.head.version in
    let part = c.in_ok-part.part in
    let one = c.in-Ok.ensures.items ∙ ap (λ (ps : List Part). ps ++ part ∷ []) c.new-parts.ensures.items in
    subst (All P) (sym one) (All-cons P part [] c.in_ok-part.ensures.measured (All-nil P))

pub returns-clause-lists : goal.returns-clause-lists
returns-clause-lists c =
    let text = c.args.text.now in
    let head = c.in-Some.head in
    let lines = c.in-Some.lines.now in
    let part = c.in_ok-part.part in
    let parts = c.push.new.self.items in
    let one = c.in-Ok.ensures.items ∙ ap (λ (ps : List Part). ps ++ part ∷ []) c.new-parts.ensures.items in
    let front = subst (λ (ps : List Part). BeginWith head.version lines (flat_map part_lines ps) []) (sym one)
    (begin_alone head.version lines (part_lines part) c.in_ok-part.ensures.lines) in
    if_some c.lists_of.result (IsMadeOf head parts) (λ lists. AreLists text (printed_lists lists)) c.lists_of.ensures.made
    (λ l made. are_lists text lines head parts l c.in-Some.ensures.0 c.in-Some.ensures.1 front made)

pub returns-clause-measured : goal.returns-clause-measured
returns-clause-measured c = c.lists_of.ensures.measured
