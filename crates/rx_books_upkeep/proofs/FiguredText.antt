-- What stands above and below the claims of books with other members is made of figures of the ledger as it was.
use Rattle.std.proofs.Common.{append_assoc, get_or, take, true, false, ◌≡◌, ℕ, ◌+◌, ◌-◌, ◌<◌, ◌≤◌, ◌^◌, min, List, [], ◌∷◌, ◌++◌, length, cond, map, refl, sym, ap, ◌∙◌, inl, inr, arith}
use Rattle.std.specs.Prelude.{◌==◌, Err, Ok, nat_lt}
use Rattle.std.proofs.lemmas.Bool.{cases_lt, le-ltb, lt-ltb}
use Rattle.std.proofs.lemmas.Grind.{flat_map-append}
use Rattle.std.proofs.lemmas.List.{append-nil, take_more}
use Rattle.std.proofs.lemmas.List.Sums.{sum_by-append}
use Rattle.rx_fields.specs.Numbered.{Span}
use Rattle.rx_ledger.specs.declared.member.Member.{Member}
use Rattle.rx_ledger.specs.Ledger.{Ledger}
use Rattle.rx_ledger.specs.Sums.{deductible}
use Rattle.rx_books_text.specs.declared.line.Line.TheVariants as line
use Rattle.rx_books_text.specs.declared.version.Version.TheVariants.{Three}
use Rattle.rx_books_text.specs.LineText.{ended, head_text, line_text}
use Rattle.rx_books_text.specs.Printed.{line_feeds, member_lines}
use Rattle.rx_books_store.specs.BooksText.{above_text, below_text, books_text, claims_text, families_of, lines_text, total_of}
use Rattle.rx_books_store.specs.LedgerBooks.{LedgerBooks}
use Rattle.rx_books_store.proofs.KeptText.{books_text-parts}
use Rattle.rx_fields.specs.declared.limits.TheConstants.{MOST_LINES}
use Rattle.rx_books_upkeep.specs.declared.change.Loaded.{Loaded}
use Rattle.rx_books_upkeep.specs.declared.families.Family.{Family}
use Rattle.rx_books_upkeep.specs.declared.text_fault.UpkeepFault.TheVariants as fault
use Rattle.rx_books_upkeep.specs.ChangeKinds.{counts_in}
use Rattle.rx_books_upkeep.specs.Figured.{family_lines, ids_of, of_members, person_line, person_lines}
use Rattle.rx_books_upkeep.specs.Loading.{changes_of, counts_of, loaded}
use Rattle.rx_books_upkeep.specs.Texts.{readable, with_members}
use Rattle.rx_books_upkeep.proofs.CountedChanges.{counted}

module _ (b : LedgerBooks) where
  -- the lines of members, each with the deductible so far
  persons : (ms : List Member)
      → person_lines b ms ≡ lines_text (member_lines ms (map (λ m. deductible b.period b.ledger m.key.family m.key.person) ms))
  persons [] = refl
  persons (m ∷ ms) = ap (λ t. ended (line_text Three (person_line b m)) ++ t) (persons ms)

  -- one member's line more
  pub person_more : (before old new : List ℕ) (ms : List Member) (i : ℕ) (m : Member) (d : ℕ) → i < length ms → m ≡ get_or ms i m
      → d ≡ deductible b.period b.ledger m.key.family m.key.person → old ≡ before ++ person_lines b (take i ms)
      → new ≡ old ++ ended (line_text Three (line.Member (record { member = m; deductible = d })))
      → new ≡ before ++ person_lines b (take (i + 1) ms)
  person_more before old new ms i m d lt is_m is_d is_old is_new =
      let one : List ℕ = ended (line_text Three (person_line b m)) in
      let same : ended (line_text Three (line.Member (record { member = m; deductible = d }))) ≡ one =
      ap (λ n. ended (line_text Three (line.Member (record { member = m; deductible = n })))) is_d in
      let whole : person_lines b (take (i + 1) ms) ≡ person_lines b (take i ms) ++ one =
      ap (person_lines b) (take_more ms i m lt ∙ ap (λ x. take i ms ++ x ∷ []) (sym is_m))
      ∙ flat_map-append (λ n. ended (line_text Three (person_line b n))) (take i ms) (m ∷ [])
      ∙ ap (λ t. person_lines b (take i ms) ++ t) (append-nil one) in
      is_new ∙ (λ j. is_old j ++ same j) ∙ append_assoc before (person_lines b (take i ms)) one
      ∙ ap (λ t. before ++ t) (sym whole)

  pub above_is : (ms : List Member) → ended (head_text (record { version = Three; period = b.period })) ++ person_lines b ms
      ≡ above_text b.period (of_members ms b.ledger)
  unfolding above_text
  above_is ms = ap (λ t. ended (head_text (record { version = Three; period = b.period })) ++ t) (persons ms)

  -- the total lines of families
  families : (fs : List Family)
      → family_lines b fs ≡ lines_text (map (λ t. line.Total t) (map (total_of Three b.period b.ledger) (ids_of fs)))
  families [] = refl
  families (f ∷ fs) =
      ap (λ t. ended (line_text Three (line.Total (total_of Three b.period b.ledger f.id))) ++ t) (families fs)

  pub below_is : (fs : List Family) (ms : List Member) → ids_of fs ≡ families_of ms
      → family_lines b fs ≡ below_text b.period (of_members ms b.ledger)
  unfolding below_text
  below_is fs ms all =
      families fs ∙ ap (λ gs. lines_text (map (λ t. line.Total t) (map (total_of Three b.period b.ledger) gs))) all

-- how many lines there are in all
feeds-append : (xs ys : List ℕ) → line_feeds (xs ++ ys) ≡ line_feeds xs + line_feeds ys
feeds-append xs ys = sum_by-append (λ b. cond (b == 10) 1 0) xs ys

feeds_between : (above claims below : List ℕ)
    → line_feeds (above ++ (claims ++ below)) ≡ line_feeds above + (line_feeds claims + line_feeds below)
feeds_between above claims below =
    feeds-append above (claims ++ below) ∙ ap (λ n. line_feeds above + n) (feeds-append claims below)

pub lines_of_text : (p : Span) (L : Ledger) (above claims below : List ℕ) → above ≡ above_text p L → below ≡ below_text p L
    → claims ≡ claims_text L.rows
    → line_feeds (books_text Three p L) ≡ line_feeds above + line_feeds below + line_feeds claims
lines_of_text p L above claims below is_above is_below are =
    omega (
      arith,
      ap line_feeds (sym (books_text-parts p L)),
      feeds_between (above_text p L) (claims_text L.rows) (below_text p L),
      ap line_feeds is_above,
      ap line_feeds is_below,
      ap line_feeds are,
    )

-- the text of books between what stands above and below the claims
pub text_between : (p : Span) (L : Ledger) (above claims below : List ℕ) → above ≡ above_text p L → below ≡ below_text p L
    → claims ≡ claims_text L.rows → above ++ (claims ++ below) ≡ books_text Three p L
text_between p L above claims below is_above is_below are =
    (λ i. is_above i ++ (are i ++ is_below i)) ∙ books_text-parts p L

-- what is tested of the sum that may have been cut
pub same_test : (m a b c x y : ℕ) → x ≡ min (a + b) (2 ^ 64 - 1) → y ≡ min (x + c) (2 ^ 64 - 1) → m < 2 ^ 64 - 1
    → nat_lt m y ≡ nat_lt m (a + b + c)
same_test m a b c x y is_x is_y small = elim (cases_lt m (a + b + c)) [
  | inl lt ↦ let past : m < y = omega (arith, is_x, is_y, small, lt) in lt-ltb m y past ∙ sym (lt-ltb m (a + b + c) lt)
  | inr ge ↦ let not_past : y ≤ m = omega (arith, is_x, is_y, ge) in le-ltb m y not_past ∙ sym (le-ltb m (a + b + c) ge)
]

-- ---- a table loaded

module _ (b : LedgerBooks) (table : List Member) (above below : List ℕ) (lines : ℕ)
    (is_above : above ≡ above_text b.period (loaded b.ledger table)) (is_below : below ≡ below_text b.period (loaded b.ledger table))
    (is_lines : lines ≡ line_feeds (claims_text b.ledger.rows)) where
  abbrev made : List ℕ
  made = books_text Three b.period (loaded b.ledger table)

  all_lines : line_feeds made ≡ line_feeds above + line_feeds below + lines
  all_lines =
      lines_of_text b.period (loaded b.ledger table) above (claims_text b.ledger.rows) below is_above is_below refl
      ∙ ap (λ n. line_feeds above + line_feeds below + n) (sym is_lines)

  pub too_long : nat_lt MOST_LINES (line_feeds above + line_feeds below + lines) ≡ true
      → readable (with_members b table) ≡ Err fault.TooMuch
  too_long past =
      let test : nat_lt MOST_LINES (line_feeds made) ≡ true = ap (nat_lt MOST_LINES) all_lines ∙ past in
      rw test refl

  pub not_long : nat_lt MOST_LINES (line_feeds above + line_feeds below + lines) ≡ false
      → (claims text : List ℕ) (counts : Loaded) → claims ≡ claims_text b.ledger.rows → text ≡ above ++ (claims ++ below)
      → counts ≡ counts_in (changes_of b.ledger table) → readable (with_members b table) ≡ Ok (text, counts)
  not_long few claims text counts are is is_counts =
      let test : nat_lt MOST_LINES (line_feeds made) ≡ false = ap (nat_lt MOST_LINES) all_lines ∙ few in
      let same : text ≡ made = is ∙ text_between b.period (loaded b.ledger table) above claims below is_above is_below are in
      let all : counts ≡ counts_of b.ledger table = is_counts ∙ counted b.ledger table in
      rw test (λ i. Ok (sym same i, sym all i))
