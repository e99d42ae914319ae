use Rattle.std.proofs.Common.{◌≡◌, true, length, sym, ap, ◌∙◌, arith}
use Rattle.std.specs.List.{list_all}
use Rattle.std.proofs.lemmas.Bool.{eqb-false}
use Rattle.rx_books_scan.specs.Fields.{is_letter}
use Rattle.rx_books_scan.proofs.Ids.{letters_id}
use Rattle.rx_books_scan.proofs.field.id_at.Goals as goal

pub returns-clause-id : goal.returns-clause-id
returns-clause-id c =
    let text = c.in_ok-text.text.now in
    let letters : list_all is_letter text ≡ true = ap (list_all is_letter) c.in_ok-text.ensures.front ∙ c.in_ok-at.ensures in
    let some = eqb-false (length text) 0 (sym c.is_empty.ensures ∙ c.if-is_empty.false) in
    letters_id c.args.max text (omega (arith, some)) c.if-text-max.false letters c.if-text-eq32.false
