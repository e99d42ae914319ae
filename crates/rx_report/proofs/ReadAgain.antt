-- A table of tabs reads back: no cell holds a tab or a line feed.
use Rattle.std.proofs.Common.{◌≡◌, ℕ, zero, suc, ◌+◌, ◌/◌, ◌%◌, Bool, true, false, ◌&&◌, eqb, leb, ltb, List, [], ◌∷◌}
use Rattle.std.proofs.Common.{◌++◌, map, length, codes, drop, take, refl, ap, ◌∙◌, inl, inr, arith, append_assoc, Option, Some, None}
use Rattle.std.specs.Fmt.{decimal, digit_glyph, digits, digits_onto, signed_decimal}
use Rattle.std.specs.List.{All, flat_map, list_all, list_any, slice_split}
use Rattle.std.specs.Prelude.{ℤ, pos, negsuc}
use Rattle.std.proofs.lemmas.Bool.{cases_Bool}
use Rattle.std.proofs.lemmas.Bool.Decides.{nat_tests}
use Rattle.std.proofs.lemmas.List.Elements.{All-append, All-cons, All-head, All-nil, All-tail}
use Rattle.std.proofs.lemmas.List.Splits.{slice_split_at, slice_split_none}
use Rattle.rx_d0_values.specs.declared.reply.Answer.TheVariants as answer
use Rattle.rx_d0_values.specs.declared.reply.Answer.{Answer}
use Rattle.rx_fields.specs.Codes.{code_text}
use Rattle.rx_fields.specs.Calendar.{Civil, date_text}
use Rattle.rx_fields.specs.Clock.{stamp_text, time_text}
use Rattle.rx_fields.specs.Digits.{digits_text}
use Rattle.rx_fields.specs.Numbered.{LotParts}
use Rattle.rx_fields.specs.Text.{is_bar, trimmed}
use Rattle.rx_fields.specs.TimeOfDay.{Clock}
use Rattle.rx_fields.specs.declared.code.Code.{Code}
use Rattle.rx_fields.specs.declared.code.Code.TheVariants as code
use Rattle.rx_fields.specs.declared.stamp.Stamp.{Stamp}
use Rattle.rx_print.specs.CodeList.{after_comma, code_list}
use Rattle.rx_print.specs.Dates.{dashed}
use Rattle.rx_report.specs.Cells.{authorization_cell, cell, cents_cell, cents_of, codes_cell, days_of, family_cell, known_cell, name_of}
use Rattle.rx_report.specs.Cells.{others, person_cell, product_cell, quantity_of, reference_of, status_of}
use Rattle.rx_report.specs.ReadBack.{ReadsBack, but_last, cells_in, cells_of, columns, is_plain, is_plain_line}
use Rattle.rx_report.specs.ReadBack.{table_in}
use Rattle.rx_report.specs.Texts.{batch_cells, batch_names, row, stamp_cell, tab_cell, tab_name, three_cells, tsv_text}
use Rattle.rx_report.specs.declared.column.Column.{Column}
use Rattle.rx_report.specs.declared.column.Column.TheVariants as column
use Rattle.rx_report.specs.declared.line.Line.{Line}
use Rattle.rx_settle.specs.Providers.{named}

-- ---- texts without control bytes

abbrev IsPlain : List ℕ → Type 0
IsPlain xs = is_plain xs ≡ true

both : (a b : Bool) → a ≡ true → b ≡ true → (a && b) ≡ true
both a b x y = rw (x, y) refl

left_of : (a b : Bool) → (a && b) ≡ true → a ≡ true
left_of true b e = refl
left_of false b e = e

right_of : (a b : Bool) → (a && b) ≡ true → b ≡ true
right_of true b e = e
right_of false b e = absurd cc

plain_append : (xs ys : List ℕ) → IsPlain xs → IsPlain ys → IsPlain (xs ++ ys)
plain_append [] ys p q = q
plain_append (x ∷ xs) ys p q =
    both (leb 32 x) (is_plain (xs ++ ys)) (left_of (leb 32 x) (is_plain xs) p)
    (plain_append xs ys (right_of (leb 32 x) (is_plain xs) p) q)

-- none of them is a tab or a line feed
free_of : (m : ℕ) → leb 32 m ≡ false → (xs : List ℕ) → IsPlain xs → All (λ x. eqb x m ≡ false) xs
free_of m low [] p = All-nil (λ x. eqb x m ≡ false)
free_of m low (x ∷ xs) p =
    let own : leb 32 x ≡ true = left_of (leb 32 x) (is_plain xs) p in
    let other : eqb x m ≡ false = grind (arith, nat_tests) in
    All-cons (λ x. eqb x m ≡ false) x xs other (free_of m low xs (right_of (leb 32 x) (is_plain xs) p))

-- ---- cells

glyph_plain : (d : ℕ) → leb 32 (digit_glyph false d) ≡ true
glyph_plain d = elim (cases_Bool (ltb d 10)) [
  | inl small ↦ rw small (grind (arith, nat_tests))
  | inr large ↦ rw large (grind (arith, nat_tests))
]

digits_plain : (k n : ℕ) (acc : List ℕ) → IsPlain acc → IsPlain (digits_onto k 10 false n acc)
digits_plain zero n acc p = p
digits_plain (suc k) n acc p =
    let more : IsPlain (digit_glyph false (n % 10) ∷ acc) = both (leb 32 (digit_glyph false (n % 10))) (is_plain acc)
    (glyph_plain (n % 10)) p in
    elim (cases_Bool (eqb (n / 10) 0)) [
      | inl last ↦ rw last more
      | inr other ↦ rw other (digits_plain k (n / 10) (digit_glyph false (n % 10) ∷ acc) more)
    ]

decimal_plain : (n : ℕ) → IsPlain (decimal n)
unfolding digits
decimal_plain n = digits_plain 64 n [] refl

signed_plain : (z : ℤ) → IsPlain (signed_decimal z)
signed_plain (pos n) = decimal_plain n
signed_plain (negsuc n) = decimal_plain (suc n)

code_plain : (c : Code) → IsPlain (code_text c)
code_plain code.Bin = refl
code_plain other = refl

codes_after : (cs : List Code) → IsPlain (flat_map after_comma cs)
codes_after [] = refl
codes_after (c ∷ cs) = plain_append (code_text c) (flat_map after_comma cs) (code_plain c) (codes_after cs)

code_list_plain : (cs : List Code) → IsPlain (code_list cs)
code_list_plain [] = refl
code_list_plain (c ∷ cs) = plain_append (code_text c) (flat_map after_comma cs) (code_plain c) (codes_after cs)

-- printable ASCII
abbrev is_printable : ℕ → Bool
is_printable b = leb 32 b && leb b 126

printable_plain : (xs : List ℕ) → list_all is_printable xs ≡ true → IsPlain xs
printable_plain [] e = refl
printable_plain (x ∷ xs) e =
    let own = left_of (is_printable x) (list_all is_printable xs) e in
    both (leb 32 x) (is_plain xs) (left_of (leb 32 x) (leb x 126) own)
    (printable_plain xs (right_of (is_printable x) (list_all is_printable xs) e))

named_plain : (f : List ℕ) → IsPlain (named f)
named_plain f = elim (cases_Bool (eqb (length (trimmed f)) 0)) [
  | inl h ↦ rw h refl
  | inr h ↦ rw h (elim (cases_Bool (ltb 15 (length (trimmed f)))) [
    | inl h1 ↦ rw h1 refl
    | inr h1 ↦ rw h1 (elim (cases_Bool (list_all is_printable (trimmed f))) [
      | inr h2 ↦ rw h2 refl
      | inl h2 ↦ rw h2 (elim (cases_Bool (list_any is_bar (trimmed f))) [
        | inl h3 ↦ rw h3 refl
        | inr h3 ↦ rw h3 (printable_plain (trimmed f) h2)
      ])
    ])
  ])
]

known_plain : (o : Option ℕ) → IsPlain (known_cell o)
known_plain None = refl
known_plain (Some n) = decimal_plain n

cents_plain : (o : Option ℤ) → IsPlain (cents_cell o)
cents_plain None = refl
cents_plain (Some z) = signed_plain z

status_plain : (a : Answer) → IsPlain (status_of a ∷ [])
status_plain (answer.Paid p) = refl
status_plain (answer.Twice p) = refl
status_plain (answer.Approved p) = refl
status_plain (answer.Refused r) = refl

codes_plain : (a : Answer) → IsPlain (codes_cell a)
codes_plain (answer.Paid p) = refl
codes_plain (answer.Twice p) = refl
codes_plain (answer.Approved p) = refl
codes_plain (answer.Refused r) = code_list_plain r.codes

written_plain : (n x : ℕ) → IsPlain (digits_text n x)
unfolding digits_text
written_plain zero x = refl
written_plain (suc n) x =
    plain_append (digits_text n (x / 10)) ((48 + x % 10) ∷ []) (written_plain n (x / 10))
    (both (leb 32 (48 + x % 10)) true (grind (arith, nat_tests)) refl)

authorization_plain : (a : Answer) → IsPlain (authorization_cell a)
authorization_plain (answer.Paid p) = written_plain 15 p.number
authorization_plain (answer.Twice p) = written_plain 15 p.number
authorization_plain (answer.Approved p) = written_plain 15 p.number
authorization_plain (answer.Refused r) = refl

product_plain : (o : Option ℕ) → IsPlain (product_cell o)
product_plain None = refl
product_plain (Some product) = written_plain 11 product

cell_plain : (l : Line) → is_plain_line l ≡ true → (c : Column) → IsPlain (cell c l)
cell_plain l p column.Place = decimal_plain l.place
cell_plain l p column.Nth = decimal_plain l.nth
cell_plain l p column.Status = status_plain l.answer
cell_plain l p column.Codes = codes_plain l.answer
cell_plain l p column.Provider = named_plain l.provider
cell_plain l p column.Prescription = known_plain (reference_of l.answer)
cell_plain l p column.Date = left_of (is_plain l.date) (is_plain (family_cell l.member) && is_plain (person_cell l.member)) p
cell_plain l p column.Family = left_of (is_plain (family_cell l.member)) (is_plain (person_cell l.member))
    (right_of (is_plain l.date) (is_plain (family_cell l.member) && is_plain (person_cell l.member)) p)
cell_plain l p column.Person = right_of (is_plain (family_cell l.member)) (is_plain (person_cell l.member))
    (right_of (is_plain l.date) (is_plain (family_cell l.member) && is_plain (person_cell l.member)) p)
cell_plain l p column.Allowed = cents_plain (cents_of column.Allowed l.answer)
cell_plain l p column.Deductible = cents_plain (cents_of column.Deductible l.answer)
cell_plain l p column.Copay = cents_plain (cents_of column.Copay l.answer)
cell_plain l p column.Coinsurance = cents_plain (cents_of column.Coinsurance l.answer)
cell_plain l p column.Member = cents_plain (cents_of column.Member l.answer)
cell_plain l p column.Plan = cents_plain (cents_of column.Plan l.answer)
cell_plain l p column.Authorization = authorization_plain l.answer
cell_plain l p column.Product = product_plain l.product
cell_plain l p column.Quantity = known_plain (quantity_of l.dispensed)
cell_plain l p column.Days = known_plain (days_of l.dispensed)

name_plain : (c : Column) → IsPlain (name_of c)
name_plain column.Place = refl
name_plain other = refl

-- ---- days and stamps

plain_take : (n : ℕ) (xs : List ℕ) → IsPlain xs → IsPlain (take n xs)
plain_take zero xs p = refl
plain_take (suc n) [] p = refl
plain_take (suc n) (x ∷ xs) p =
    both (leb 32 x) (is_plain (take n xs)) (left_of (leb 32 x) (is_plain xs) p)
    (plain_take n xs (right_of (leb 32 x) (is_plain xs) p))

plain_drop : (n : ℕ) (xs : List ℕ) → IsPlain xs → IsPlain (drop n xs)
plain_drop zero xs p = p
plain_drop (suc n) [] p = refl
plain_drop (suc n) (x ∷ xs) p = plain_drop n xs (right_of (leb 32 x) (is_plain xs) p)

date_plain : (day : Civil) → IsPlain (date_text day)
unfolding date_text
date_plain day =
    plain_append (digits_text 4 day.year) (digits_text 2 day.month ++ digits_text 2 day.day) (written_plain 4 day.year)
    (plain_append (digits_text 2 day.month) (digits_text 2 day.day) (written_plain 2 day.month) (written_plain 2 day.day))

dashed_plain : (day : Civil) → IsPlain (dashed day)
dashed_plain day =
    let date = date_text day in
    let rest : IsPlain (drop 4 date) = plain_drop 4 date (date_plain day) in
    let after_year : IsPlain (45 ∷ drop 2 (drop 4 date)) = plain_drop 2 (drop 4 date) rest in
    plain_append (take 4 date) (45 ∷ (take 2 (drop 4 date) ++ (45 ∷ drop 2 (drop 4 date)))) (plain_take 4 date (date_plain day))
    (plain_append (take 2 (drop 4 date)) (45 ∷ drop 2 (drop 4 date)) (plain_take 2 (drop 4 date) rest) after_year)

time_plain : (t : Clock) → IsPlain (time_text t)
unfolding time_text
time_plain t = plain_append (digits_text 2 t.hour) (digits_text 2 t.minute) (written_plain 2 t.hour) (written_plain 2 t.minute)

stamp_plain : (stamp : Option Stamp) → IsPlain (stamp_cell stamp)
unfolding stamp_text
stamp_plain None = refl
stamp_plain (Some s) = plain_append (date_text s.date) (time_text s.time) (date_plain s.date) (time_plain s.time)

-- ---- rows

-- pieces in front of a text, the last of them with a line feed
apart : (p f m rest : List ℕ) → (p ++ (f ++ (m ++ 10 ∷ []))) ++ rest ≡ (p ++ (f ++ m)) ++ 10 ∷ rest
apart p f m rest = simp append_assoc refl

module _ (text : Column → List ℕ) (plain : (c : Column) → IsPlain (text c)) (x y z : List ℕ)
    (px : IsPlain x) (py : IsPlain y) (pz : IsPlain z) where
  -- each cell after a tab
  abbrev after_tab : Column → List ℕ
  after_tab c = 9 ∷ text c

  -- and three more
  abbrev three : List ℕ
  three = three_cells x y z

  three_apart : (first : List ℕ) → IsPlain first → cells_in (first ++ three) ≡ first ∷ x ∷ y ∷ z ∷ []
  three_apart first p =
      slice_split_at (λ b. eqb b 9) first 9 (x ++ 9 ∷ (y ++ 9 ∷ z)) (free_of 9 refl first p) refl
      ∙ ap (λ xs. first ∷ xs) (slice_split_at (λ b. eqb b 9) x 9 (y ++ 9 ∷ z) (free_of 9 refl x px) refl
      ∙ ap (λ xs. x ∷ xs) (slice_split_at (λ b. eqb b 9) y 9 z (free_of 9 refl y py) refl
      ∙ ap (λ xs. y ∷ xs) (slice_split_none (λ b. eqb b 9) z (free_of 9 refl z pz))))

  cells_apart : (cs : List Column) (first : List ℕ) → IsPlain first
      → cells_in (first ++ (flat_map after_tab cs ++ three)) ≡ first ∷ (map text cs ++ x ∷ y ∷ z ∷ [])
  cells_apart [] first p = three_apart first p
  cells_apart (c ∷ cs) first p =
      ap (λ xs. cells_in (first ++ 9 ∷ xs)) (append_assoc (text c) (flat_map after_tab cs) three)
      ∙ slice_split_at (λ b. eqb b 9) first 9 (text c ++ (flat_map after_tab cs ++ three)) (free_of 9 refl first p) refl
      ∙ ap (λ xs. first ∷ xs) (cells_apart cs (text c) (plain c))

  feedless : (cs : List Column) → All (λ x. eqb x 10 ≡ false) (flat_map after_tab cs)
  feedless [] = All-nil (λ x. eqb x 10 ≡ false)
  feedless (c ∷ cs) = All-cons (λ x. eqb x 10 ≡ false) 9 (text c ++ flat_map after_tab cs) refl
      (All-append (λ x. eqb x 10 ≡ false) (text c) (flat_map after_tab cs) (free_of 10 refl (text c) (plain c)) (feedless cs))

  three_feedless : All (λ x. eqb x 10 ≡ false) three
  three_feedless = All-cons (λ x. eqb x 10 ≡ false) 9 (x ++ 9 ∷ (y ++ 9 ∷ z)) refl
      (All-append (λ x. eqb x 10 ≡ false) x (9 ∷ (y ++ 9 ∷ z)) (free_of 10 refl x px)
      (All-cons (λ x. eqb x 10 ≡ false) 9 (y ++ 9 ∷ z) refl
      (All-append (λ x. eqb x 10 ≡ false) y (9 ∷ z) (free_of 10 refl y py)
      (All-cons (λ x. eqb x 10 ≡ false) 9 z refl (free_of 10 refl z pz)))))

  -- a row without its line feed
  abbrev row_text : List ℕ
  row_text = text column.Place ++ (flat_map after_tab others ++ three)

  row_cells : cells_in row_text ≡ map text columns ++ x ∷ y ∷ z ∷ []
  row_cells = cells_apart others (text column.Place) (plain column.Place)

  -- the row in front of a text is cut off at its line feed
  row_first : (rest : List ℕ)
      → slice_split (λ b. eqb b 10) ((text column.Place ++ (flat_map after_tab others ++ (three ++ 10 ∷ []))) ++ rest)
      ≡ row_text ∷ slice_split (λ b. eqb b 10) rest
  row_first rest =
      ap (slice_split (λ b. eqb b 10)) (apart (text column.Place) (flat_map after_tab others) three rest)
      ∙ slice_split_at (λ b. eqb b 10) row_text 10 rest
      (All-append (λ x. eqb x 10 ≡ false) (text column.Place) (flat_map after_tab others ++ three)
      (free_of 10 refl (text column.Place) (plain column.Place))
      (All-append (λ x. eqb x 10 ≡ false) (flat_map after_tab others) three (feedless others) three_feedless)) refl

-- ---- tables

module _ (lot : LotParts) (stamp : Option Stamp) where
  abbrev line_text : Line → List ℕ
  line_text l = cell column.Place l ++ (flat_map (tab_cell l) others ++ batch_cells lot stamp)

  abbrev number : List ℕ
  number = digits_text 7 lot.number

  abbrev created : List ℕ
  created = dashed lot.created

  rows_cut : (ls : List Line) → All (λ l. is_plain_line l ≡ true) ls
      → slice_split (λ b. eqb b 10) (flat_map (row lot stamp) ls) ≡ map line_text ls ++ [] ∷ []
  rows_cut [] all = refl
  rows_cut (l ∷ ls) all =
      row_first (λ c. cell c l) (cell_plain l (All-head (λ l. is_plain_line l ≡ true) l ls all)) number created
      (stamp_cell stamp) (written_plain 7 lot.number) (dashed_plain lot.created) (stamp_plain stamp) (flat_map (row lot stamp) ls)
      ∙ ap (λ rs. line_text l ∷ rs) (rows_cut ls (All-tail (λ l. is_plain_line l ≡ true) l ls all))

  lines_read : (ls : List Line) → All (λ l. is_plain_line l ≡ true) ls
      → map cells_in (map line_text ls) ≡ map (cells_of lot stamp) ls
  lines_read [] all = refl
  lines_read (l ∷ ls) all =
      λ j. row_cells (λ c. cell c l) (cell_plain l (All-head (λ l. is_plain_line l ≡ true) l ls all)) number created
      (stamp_cell stamp) (written_plain 7 lot.number) (dashed_plain lot.created) (stamp_plain stamp) j
      ∷ lines_read ls (All-tail (λ l. is_plain_line l ≡ true) l ls all) j

last_dropped : (rs : List (List ℕ)) (last : List ℕ) → but_last (rs ++ last ∷ []) ≡ rs
last_dropped [] last = refl
last_dropped (r ∷ []) last = refl
last_dropped (r ∷ s ∷ rs) last = ap (λ xs. r ∷ xs) (last_dropped (s ∷ rs) last)

abbrev heading_text : List ℕ
heading_text = name_of column.Place ++ (flat_map tab_name others ++ batch_names)

pub reads_back : (lot : LotParts) (stamp : Option Stamp) (ls : List Line) (text : List ℕ) → text ≡ tsv_text lot stamp ls
    → ReadsBack lot stamp ls text
reads_back lot stamp ls text is all =
    let lot_word = codes "lot" in
    let created_word = codes "created" in
    let stamp_word = codes "stamp" in
    let cut : slice_split (λ b. eqb b 10) (tsv_text lot stamp ls) ≡ (heading_text ∷ map (line_text lot stamp) ls) ++ [] ∷ [] =
    row_first name_of name_plain lot_word created_word stamp_word refl refl refl (flat_map (row lot stamp) ls)
    ∙ ap (λ rs. heading_text ∷ rs) (rows_cut lot stamp ls all) in
    ap table_in is ∙ ap (λ rs. map cells_in (but_last rs)) cut
    ∙ ap (map cells_in) (last_dropped (heading_text ∷ map (line_text lot stamp) ls) [])
    ∙ (λ j. row_cells name_of name_plain lot_word created_word stamp_word refl refl refl j ∷ lines_read lot stamp ls all j)
