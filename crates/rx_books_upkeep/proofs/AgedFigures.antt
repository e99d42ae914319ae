-- The text of aged books has the figures of the books, where no total of the period counts a claim that leaves.
use Rattle.std.proofs.Common.{◌≡◌, ℕ, List, [], ◌∷◌, ◌++◌, Bool, true, false, map, Some, refl, sym, ap, ◌∙◌}
use Rattle.std.specs.Prelude.{not, sum_by}
use Rattle.std.specs.Ordering.{is_gt, is_le}
use Rattle.std.specs.declared.cmp.Ordering.{Ordering}
use Rattle.std.specs.declared.cmp.Ordering.TheVariants.{Less, Equal, Greater}
use Rattle.rx_fields.specs.Calendar.{Civil, day_cmp}
use Rattle.rx_fields.specs.Numbered.{Span, is_within}
use Rattle.rx_sorted.proofs.Filters.{filter_swap}
use Rattle.rx_ledger.specs.declared.member.Member.{Member}
use Rattle.rx_ledger.specs.declared.row.Row.{Row}
use Rattle.rx_ledger.specs.Ledger.{Ledger, rows_of}
use Rattle.rx_ledger.specs.Rows.{claimed_by}
use Rattle.rx_ledger.specs.Sums.{counted, deductible, deductible_paid, paid_by_patient, persons_deductible_paid}
use Rattle.rx_books_text.specs.declared.line.Line.TheVariants as line
use Rattle.rx_books_text.specs.declared.version.Version.TheVariants.{Three}
use Rattle.rx_books_text.specs.LineText.{ended, head_text}
use Rattle.rx_books_text.specs.Printed.{member_lines}
use Rattle.rx_books_store.specs.BooksText.{above_text, below_text, books_text, claims_text, families_of, lines_text, total_of}
use Rattle.rx_books_store.proofs.KeptText.{books_text-parts}
use Rattle.rx_books_upkeep.specs.Ageing.{aged, is_before}
use Rattle.rx_books_upkeep.proofs.Ages.{outside}
use Rattle.rx_books_upkeep.proofs.Loads.{every}
use Rattle.rx_books_upkeep.proofs.Thinned.{sum_thinned, true-not}

not_greater : (o : Ordering) → is_gt o ≡ false → is_le o ≡ true
not_greater Less h = refl
not_greater Equal h = refl
not_greater Greater h = cc

module _ (before : Civil) (p : Span) (L : Ledger) (early : is_gt (day_cmp before p.first) ≡ false) where
  abbrev stands_on : Row → Bool
  stands_on r = not (is_before before r)

  same_sum : (figure : Row → ℕ) (family : List ℕ)
      → sum_by (counted p figure) (rows_of (aged before L) family) ≡ sum_by (counted p figure) (rows_of L family)
  same_sum figure family =
      let le = not_greater (day_cmp before p.first) early in
      ap (sum_by (counted p figure)) (filter_swap (claimed_by family) stands_on L.rows)
      ∙ sum_thinned stands_on (counted p figure) (rows_of L family)
      (every (λ r. stands_on r ≡ false → counted p figure r ≡ 0)
      (λ r out. let no : is_within p r.key.date ≡ false = outside p before r le (true-not _ out) in rw no refl)
      (rows_of L family))

  deductibles : (ms : List Member) → map (λ m. deductible p (aged before L) m.key.family m.key.person) ms
      ≡ map (λ m. deductible p L m.key.family m.key.person) ms
  deductibles [] = refl
  deductibles (m ∷ ms) =
      let one : deductible p (aged before L) m.key.family m.key.person ≡ deductible p L m.key.family m.key.person =
      same_sum (persons_deductible_paid m.key.person) m.key.family in
      λ i. one i ∷ deductibles ms i

  totals : (fs : List (List ℕ)) → map (total_of Three p (aged before L)) fs ≡ map (total_of Three p L) fs
  totals [] = refl
  totals (f ∷ fs) =
      let pocket = same_sum paid_by_patient f in
      let paid = same_sum deductible_paid f in
      λ i. record { family = f; out_of_pocket = pocket i; deductible = Some (paid i) } ∷ totals fs i

  above_aged : above_text p (aged before L) ≡ above_text p L
  unfolding above_text
  above_aged =
      ap (λ ds. ended (head_text (record { version = Three; period = p })) ++ lines_text (member_lines L.members ds))
      (deductibles L.members)

  below_aged : below_text p (aged before L) ≡ below_text p L
  unfolding below_text
  below_aged = ap (λ ts. lines_text (map (λ t. line.Total t) ts)) (totals (families_of L.members))

  -- the claims that stay, between what stands above and below those of the books
  aged_is : (claims : List ℕ) → claims ≡ claims_text (aged before L).rows
      → above_text p L ++ (claims ++ below_text p L) ≡ books_text Three p (aged before L)
  aged_is claims is =
      (λ i. sym above_aged i ++ (is i ++ sym below_aged i)) ∙ books_text-parts p (aged before L)

  -- the text of the claims that stay
  pub aged_between : (above claims below : List ℕ) → above ≡ above_text p L → claims ≡ claims_text (aged before L).rows
      → below ≡ below_text p L → above ++ (claims ++ below) ≡ books_text Three p (aged before L)
  aged_between above claims below is_above are is_below = (λ i. is_above i ++ (claims ++ is_below i)) ∙ aged_is claims are
