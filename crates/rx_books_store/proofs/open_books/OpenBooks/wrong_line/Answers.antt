use Rattle.std.proofs.Common.{arith, ◌≡◌, ◌+◌, ℕ, List, length, not, Option, Some, sym, ap, ◌∙◌}
use Rattle.std.specs.List.{list_all, position}
use Rattle.rx_ledger.specs.declared.member.Member.{Member}
use Rattle.rx_ledger.specs.Ledger.{Ledger}
use Rattle.rx_books_text.specs.declared.line.Line.TheVariants as line
use Rattle.rx_books_text.specs.declared.line.TotalLine.{TotalLine}
use Rattle.rx_books_text.specs.Printed.{PrintedParts, member_lines}
use Rattle.rx_books_store.specs.BooksText.{families_of}
use Rattle.rx_books_store.specs.Figures.{are_sums, has_all_totals, has_total, unsummed}
use Rattle.rx_books_store.specs.LedgerBooks.{LedgerBooks}
use Rattle.rx_books_store.proofs.Wrong.{none-wrong, one-missing, wrong-member, wrong-total}
use Rattle.rx_books_store.proofs.open_books.OpenBooks.wrong_line.Goals as goal

-- what the search among the member lines and among the total lines answered, in the file's own words
module _ (p : PrintedParts) (b : LedgerBooks) (own : b ≡ unsummed p) where
  members_said : (ms : List Member) (ds : List ℕ) (r : Option ℕ) → r ≡ position (λ l. not (are_sums b l)) (member_lines ms ds)
      → ms ≡ p.ledger.members → ds ≡ p.deductibles
      → position (λ l. not (are_sums (unsummed p) l)) (member_lines p.ledger.members p.deductibles) ≡ r
  members_said ms ds r said same figures =
      sym (said ∙ ap (λ (x : LedgerBooks). position (λ l. not (are_sums x l)) (member_lines ms ds)) own
      ∙ ap (λ xs. position (λ l. not (are_sums (unsummed p) l)) (member_lines xs ds)) same
      ∙ ap (λ xs. position (λ l. not (are_sums (unsummed p) l)) (member_lines p.ledger.members xs)) figures)

  totals_said : (ts : List TotalLine) (r : Option ℕ) → r ≡ position (λ t. not (are_sums b (line.Total t))) ts → ts ≡ p.totals
      → position (λ t. not (are_sums (unsummed p) (line.Total t))) p.totals ≡ r
  totals_said ts r said same =
      sym (said ∙ ap (λ (x : LedgerBooks). position (λ t. not (are_sums x (line.Total t))) ts) own
      ∙ ap (position (λ t. not (are_sums (unsummed p) (line.Total t)))) same)

pub returns-in-Some : goal.returns-in-Some
returns-in-Some c =
    let p = c.args.printed.now in
    let ms = c.members-members.ensures.value ∙ ap (λ (L : Ledger). L.members) c.ledger.ensures in
    let first = members_said p c.args.self.now.books c.requires.own _ _ _ c.wrong_member.ensures ms c.deductibles.ensures in
    sym (wrong-member p c.requires.one_each c.in-Some.at (first ∙ c.in-Some.is))

pub returns-in-Some-wrong_total : goal.returns-in-Some-wrong_total
returns-in-Some-wrong_total c =
    let p = c.args.printed.now in
    let ms = c.members-members.ensures.value ∙ ap (λ (L : Ledger). L.members) c.ledger.ensures in
    let none = members_said p c.args.self.now.books c.requires.own _ _ _ c.wrong_member.ensures ms c.deductibles.ensures
    ∙ c.in_default.is in
    let second = totals_said p c.args.self.now.books c.requires.own _ _ c.wrong_total.ensures c.totals.ensures.value in
    let lm = ap length ms in
    let lr = ap length (c.rows-rows.ensures.value ∙ ap (λ (L : Ledger). L.rows) c.ledger-2.ensures) in
    let found = wrong-total p c.requires.one_each none c.in-Some-wrong_total.at (second ∙ c.in-Some-wrong_total.is) in
    let place : length c.members-members.result.now + length c.rows-rows.result.now + 2 + c.in-Some-wrong_total.at
    ≡ length p.ledger.members + length p.ledger.rows + 2 + c.in-Some-wrong_total.at = omega arith in
    ap Some place ∙ sym found

pub returns-then-all_have_totals : goal.returns-then-all_have_totals
returns-then-all_have_totals c =
    let p = c.args.printed.now in
    let ms = c.members-members.ensures.value ∙ ap (λ (L : Ledger). L.members) c.ledger.ensures in
    let none = members_said p c.args.self.now.books c.requires.own _ _ _ c.wrong_member.ensures ms c.deductibles.ensures
    ∙ c.in_default.is in
    let second = totals_said p c.args.self.now.books c.requires.own _ _ c.wrong_total.ensures c.totals.ensures.value in
    let own : c.args.self.now.books.ledger ≡ p.ledger = ap (λ (b : LedgerBooks). b.ledger) c.requires.own in
    let has : c.all_have_totals.result ≡ has_all_totals p = c.all_have_totals.ensures
    ∙ ap (λ ts. list_all (has_total ts) (families_of c.args.self.now.books.ledger.members)) c.totals-2.ensures.value
    ∙ ap (λ (L : Ledger). list_all (has_total p.totals) (families_of L.members)) own in
    sym (none-wrong p c.requires.one_each none (second ∙ c.in_default-wrong_total.is)
    (sym has ∙ c.if-all_have_totals.true))

pub returns : goal.returns
returns c =
    let p = c.args.printed.now in
    let ms = c.members-members.ensures.value ∙ ap (λ (L : Ledger). L.members) c.ledger.ensures in
    let none = members_said p c.args.self.now.books c.requires.own _ _ _ c.wrong_member.ensures ms c.deductibles.ensures
    ∙ c.in_default.is in
    let second = totals_said p c.args.self.now.books c.requires.own _ _ c.wrong_total.ensures c.totals.ensures.value in
    let lm = ap length ms in
    let lr = ap length (c.rows-rows.ensures.value ∙ ap (λ (L : Ledger). L.rows) c.ledger-2.ensures) in
    let own : c.args.self.now.books.ledger ≡ p.ledger = ap (λ (b : LedgerBooks). b.ledger) c.requires.own in
    let has : c.all_have_totals.result ≡ has_all_totals p = c.all_have_totals.ensures
    ∙ ap (λ ts. list_all (has_total ts) (families_of c.args.self.now.books.ledger.members)) c.totals-2.ensures.value
    ∙ ap (λ (L : Ledger). list_all (has_total p.totals) (families_of L.members)) own in
    let missing = one-missing p c.requires.one_each none (second ∙ c.in_default-wrong_total.is)
    (sym has ∙ c.if-all_have_totals.false) in
    let lt = ap length c.totals-3.ensures.value in
    let place : length c.members-members.result.now + length c.rows-rows.result.now + 2 + length c.totals-3.result.now
    ≡ length p.ledger.members + length p.ledger.rows + 2 + length p.totals = omega arith in
    ap Some place ∙ sym missing
