use Rattle.std.proofs.Common.{◌≡◌, ◌≤◌, ◌∷◌, [], List, true, map, refl, sym, ap, subst, ◌∙◌}
use Rattle.std.specs.List.{All}
use Rattle.std.proofs.lemmas.List.Elements.{All-head, All-tail}
use Rattle.std.proofs.lemmas.List.Sums.{AllPass-from_list_all}
use Rattle.rx_fields.specs.declared.limits.TheConstants.{MOST_CENTS}
use Rattle.rx_fields.specs.Order.{id_cmp, key_cmp}
use Rattle.rx_sorted.specs.Ascending.{IsAscending}
use Rattle.rx_ledger.specs.declared.row.Row.{Row}
use Rattle.rx_ledger.specs.Ledger.{Ledger, is_listed}
use Rattle.rx_ledger.specs.Rows.{member_of_row, row_key}
use Rattle.rx_ledger.specs.Sums.{paid_by_patient}
use Rattle.rx_books_family.specs.FamilyBook.{FamilyBook, family_of}
use Rattle.rx_books_shelf.specs.Gathered.{with_own_row}
use Rattle.rx_books_shelf.proofs.PutBooks.{HasMembers, PastRows, all_rows_past, all_rows_past_kept, listed_first, row_past_first}
use Rattle.rx_books_shelf.proofs.PutBooks.{members_stay, rise_with_row, rows_put, rows_put_all}
use Rattle.rx_books_shelf.proofs.gathering.put_rows.Goals as goal

pub rows-init : goal.rows-init
rows-init c =
    let L = c.args.open.now.books.ledger in
    let value : c.standing-standing.result ≡ L = c.standing-standing.ensures.value in
    let within = c.standing-standing.ensures.within in
    record {
      put = refl;
      rise = c.requires.rise;
      past = all_rows_past c.standing-standing.result.rows c.args.books.now.items c.requires.none;
      members = c.requires.members;
      listed = subst (λ (M : Ledger). All (λ (r : Row). is_listed L (member_of_row r) ≡ true) M.rows) (sym value)
          (AllPass-from_list_all (λ (r : Row). is_listed L (member_of_row r)) L.rows within.whole);
      small = subst (λ (M : Ledger). All (λ (r : Row). paid_by_patient r ≤ MOST_CENTS) M.rows) (sym value)
          c.standing-standing.ensures.small;
      in_order = subst (λ (M : Ledger). IsAscending key_cmp row_key M.rows) (sym value) within.rows_rise;
    }

pub put_row-requires-clause-past : goal.put_row-requires-clause-past
put_row-requires-clause-past c =
    let r : Row = c.in-Some.row.now in
    let rest : List Row = c.next_row.new.self.rows in
    let here : c.rows.standing.rows ≡ r ∷ rest = c.in-Some.ensures.row in
    row_past_first r rest c.rows.books.items (subst (λ rs. All (PastRows rs) c.rows.books.items) here c.rows.invariant.past)

pub put_row-requires-clause-listed : goal.put_row-requires-clause-listed
put_row-requires-clause-listed c =
    let L = c.args.open.now.books.ledger in
    let r : Row = c.in-Some.row.now in
    let rest : List Row = c.next_row.new.self.rows in
    let here : c.rows.standing.rows ≡ r ∷ rest = c.in-Some.ensures.row in
    let P : Row → Type 0 = λ x. is_listed L (member_of_row x) ≡ true in
    listed_first L c.standing-standing.ensures.within.members_rise r (All-head P r rest (subst (All P) here c.rows.invariant.listed))
    c.rows.books.items c.rows.invariant.members

pub put_row-requires-clause-small : goal.put_row-requires-clause-small
put_row-requires-clause-small c =
    let r : Row = c.in-Some.row.now in
    let rest : List Row = c.next_row.new.self.rows in
    let here : c.rows.standing.rows ≡ r ∷ rest = c.in-Some.ensures.row in
    let Q : Row → Type 0 = λ x. paid_by_patient x ≤ MOST_CENTS in
    All-head Q r rest (subst (All Q) here c.rows.invariant.small)

pub rows-preserved : goal.rows-preserved
rows-preserved c =
    let L = c.args.open.now.books.ledger in
    let r : Row = c.in-Some.row.now in
    let rest : List Row = c.next_row.new.self.rows in
    let bs : List FamilyBook = c.rows.books.items in
    let here : c.rows.standing.rows ≡ r ∷ rest = c.in-Some.ensures.row in
    let P : Row → Type 0 = λ x. is_listed L (member_of_row x) ≡ true in
    let Q : Row → Type 0 = λ x. paid_by_patient x ≤ MOST_CENTS in
    let left : IsAscending key_cmp row_key (r ∷ rest) = subst (IsAscending key_cmp row_key) here c.rows.invariant.in_order in
    let new : c.put_row.new.books.items ≡ map (with_own_row r) bs = c.in_ok-put_row.ensures in
    let past = subst (λ rs. All (PastRows rs) bs) here c.rows.invariant.past in
    record {
      put = ap (rows_put rest) new ∙ ap (λ rs. rows_put rs bs) (sym here) ∙ c.rows.invariant.put;
      rise = subst (IsAscending id_cmp family_of) (sym new) (rise_with_row r bs c.rows.invariant.rise);
      past = subst (All (PastRows rest)) (sym new) (all_rows_past_kept r rest left.0 bs past);
      members = subst (All (HasMembers L)) (sym new) (members_stay L r bs c.rows.invariant.members);
      listed = All-tail P r rest (subst (All P) here c.rows.invariant.listed);
      small = All-tail Q r rest (subst (All Q) here c.rows.invariant.small);
      in_order = left.1;
    }

pub returns : goal.returns
returns c =
    let L = c.args.open.now.books.ledger in
    let none : c.rows.standing.rows ≡ [] = c.in_default.ensures.none in
    sym (ap (λ rs. rows_put rs c.rows.books.items) none) ∙ c.rows.invariant.put
    ∙ ap (λ (M : Ledger). rows_put M.rows c.args.books.now.items) c.standing-standing.ensures.value
    ∙ rows_put_all L c.standing-standing.ensures.within.rows_rise c.args.books.now.items c.requires.none
