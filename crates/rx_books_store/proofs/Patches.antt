-- Runs of lines in the text that holds them, and the pass over the slots by which they are lent.
use Rattle.std.proofs.Common.{◌≡◌, ℕ, zero, suc, ◌+◌, ◌-◌, ◌<◌, ◌≤◌, List, [], ◌∷◌, ◌++◌, length, get_or, take, drop, sum}
use Rattle.std.proofs.Common.{Option, Some, None, refl, sym, subst, ap, ◌∙◌, inl, inr, arith, append_assoc, append-nil, length-append}
use Rattle.std.specs.Prelude.{slice_get}
use Rattle.std.specs.List.{All, slice_range}
use Rattle.std.specs.declared.cmp.Ordering.TheVariants.{Less, Equal, Greater}
use Rattle.std.proofs.lemmas.Bool.{cases_lt}
use Rattle.std.proofs.lemmas.Grind.{flat_map-append}
use Rattle.std.proofs.lemmas.List.{drop-append-le, drop-drop, drop_more, get_or-drop, length-drop, take-append-drop}
use Rattle.std.proofs.lemmas.List.{take-append-le, take-map}
use Rattle.std.proofs.lemmas.List.Elements.{All-cons, All-drop, All-head, All-nil}
use Rattle.std.proofs.lemmas.List.Sums.{sum_by-cons}
use Rattle.std.proofs.lemmas.Option.{get_or_from_slice_get}
use Rattle.rx_fields.specs.Order.{key_cmp}
use Rattle.rx_fields.specs.declared.key.Key.{Key}
use Rattle.rx_sorted.specs.Ascending.{IsAscending, IsAt, IsBelow, IsGap}
use Rattle.rx_sorted.specs.Near.{AreBefore}
use Rattle.rx_sorted.proofs.Kept.{IsAscending-at, IsAscending-drop}
use Rattle.rx_ledger.specs.declared.row.Row.{Row}
use Rattle.rx_ledger.specs.Rows.{row_key}
use Rattle.rx_ledger.proofs.Orders.{key_exact, key_total}
use Rattle.rx_books_text.specs.declared.line.Line.TheVariants as line
use Rattle.rx_books_text.specs.declared.version.Version.TheVariants.{Three}
use Rattle.rx_books_text.specs.LineText.{ended, line_text}
use Rattle.rx_books_scan.specs.Lists.{claim_length, claim_lengths}
use Rattle.rx_books_store.specs.declared.slot.KeySlot.{KeySlot}
use Rattle.rx_books_store.specs.BooksText.{claims_text}
use Rattle.rx_books_store.specs.Kept.{HoldsLines}
use Rattle.rx_books_store.specs.Patching.{IsRun, begin_of, held_rows}
use Rattle.rx_books_store.specs.Store.{held, slot_key, standing_rows}
use Rattle.rx_books_store.proofs.Joined.{begin_more, begin_within, joined_between, joined_join}
use Rattle.rx_books_store.proofs.Passes.{Own}
use Rattle.rx_books_store.proofs.Runs.{after, run_at, run_gap}

abbrev pub line_of : Row → List ℕ
line_of r = ended (line_text Three (line.Claim r))

-- ---- where lines are

pub sum_lengths : (rows : List Row) → sum (claim_lengths Three rows) ≡ length (claims_text rows)
sum_lengths [] = refl
sum_lengths (r ∷ rows) =
    sum_by-cons (λ (n : ℕ). n) (claim_length Three r) (claim_lengths Three rows)
    ∙ ap (λ (n : ℕ). claim_length Three r + n) (sum_lengths rows) ∙ sym (length-append (line_of r) (claims_text rows))

drop-map : (n : ℕ) (rows : List Row) → drop n (claim_lengths Three rows) ≡ claim_lengths Three (drop n rows)
drop-map zero rows = refl
drop-map (suc n) [] = refl
drop-map (suc n) (r ∷ rows) = drop-map n rows

slice_lengths : (rows : List Row) (first last : ℕ)
    → slice_range (claim_lengths Three rows) first last ≡ claim_lengths Three (take (last - first) (drop first rows))
slice_lengths rows first last =
    ap (take (last - first)) (drop-map first rows) ∙ take-map (claim_length Three) (last - first) (drop first rows)

module _ (text lengths : List ℕ) (above : ℕ) (rows : List Row) (held : HoldsLines text above lengths rows) (first last : ℕ)
    (order : first ≤ last) (within : last ≤ length rows) where
  -- the lines of the rows from one place to another are so long
  pub end_is : begin_of above rows first + sum (slice_range lengths first last) ≡ begin_of above rows last
  end_is =
      let run = take (last - first) (drop first rows) in
      let long : sum (slice_range lengths first last) ≡ length (claims_text run) =
      ap (λ (ls : List ℕ). sum (slice_range ls first last)) held.each
      ∙ ap sum (slice_lengths rows first last) ∙ sum_lengths run in
      let there : first + (last - first) ≡ last = omega arith in
      let more = begin_more line_of rows first (last - first) in
      omega (arith, long, more, ap (λ (n : ℕ). length (claims_text (take n rows))) there)

  pub end_within : begin_of above rows last ≤ length text
  end_within = omega (arith, held.within, begin_within line_of rows last)

  -- and stand there
  pub lent_is : slice_range text (begin_of above rows first) (begin_of above rows last)
      ≡ claims_text (take (last - first) (drop first rows))
  lent_is =
      let all = claims_text rows in
      let a = length (claims_text (take first rows)) in
      let b = length (claims_text (take last rows)) in
      let below = drop above text in
      let rest = drop (length all) below in
      let split : below ≡ all ++ rest =
      sym (take-append-drop (length all) below) ∙ ap (λ (t : List ℕ). t ++ rest) held.whole in
      let a_within : a ≤ length all = begin_within line_of rows first in
      let b_within : b ≤ length all = begin_within line_of rows last in
      let less : (above + b) - (above + a) ≡ b - a = omega arith in
      ap (λ (n : ℕ). take n (drop (above + a) text)) less
      ∙ ap (take (b - a)) (sym (drop-drop a above text) ∙ ap (drop a) split ∙ drop-append-le a all rest a_within)
      ∙ take-append-le (b - a) (drop a all) rest (omega (arith, b_within, length-drop a all))
      ∙ joined_between line_of rows first last order

  -- the same, by places
  module _ (place end : ℕ) (place_is : place ≡ begin_of above rows first)
      (end_adds : end ≡ place + sum (slice_range lengths first last)) where
    pub end_at : end ≡ begin_of above rows last
    end_at = end_adds ∙ ap (λ (n : ℕ). n + sum (slice_range lengths first last)) place_is ∙ end_is

    pub lent_at : (lender : List ℕ) → lender ≡ text → slice_range lender place end ≡ claims_text (take (last - first) (drop first rows))
    lent_at lender lender_is = (λ i. slice_range (lender_is i) (place_is i) (end_at i)) ∙ lent_is

-- ---- the run before a slot

abbrev Before : List Row → Key → ℕ → Type 0
Before rows k row = AreBefore key_cmp row_key rows k row

pub dropped : (rows : List Row) (row place : ℕ) (d : Row) → row ≤ place → get_or (drop row rows) (place - row) d ≡ get_or rows place d
dropped rows row place d le =
    let there : row + (place - row) ≡ place = omega arith in
    get_or-drop row rows (place - row) d ∙ ap (λ (n : ℕ). get_or rows n d) there

at_behind : (rows : List Row) (row : ℕ) (k : Key) (at : ℕ) → Before rows k row → IsAt key_cmp row_key rows k at → row ≤ at
at_behind [] row k at before found = absurd (omega (arith, found.in_range))
at_behind (r ∷ rows) row k at before found = elim (cases_lt at row) [
  | inl lt ↦ absurd (let e : Less ≡ Equal = sym (before.less at r lt) ∙ found.has_it r in cc)
  | inr le ↦ le
]

gap_behind : (rows : List Row) (row : ℕ) (k : Key) (at : ℕ) → Before rows k row → IsGap key_cmp row_key rows k at → row ≤ at
gap_behind [] row k at before gap = omega (arith, before.in_range)
gap_behind (r ∷ rows) row k at before gap = elim (cases_lt at row) [
  | inl lt ↦
      let there : at < length (r ∷ rows) = omega (arith, lt, before.in_range) in
      absurd (let e : Less ≡ Greater = sym (before.less at r lt) ∙ gap.after at r (omega arith) there in cc)
  | inr le ↦ le
]

-- the row has the key
pub run_found : (rows : List Row) (row : ℕ) (k : Key) (at : ℕ) → Before rows k row → IsAt key_cmp row_key rows k at
    → IsRun rows row k at (at + 1)
run_found rows row k at before found =
    let le = at_behind rows row k at before found in
    record {
      order = le;
      some = omega arith;
      one = omega arith;
      next_within = omega (arith, found.in_range);
      met = inl (
        record {
          in_range = omega (arith, found.in_range, length-drop row rows);
          has_it = λ d. subst (λ (r : Row). key_cmp r.key k ≡ Equal) (sym (dropped rows row at d le)) (found.has_it d);
        },
        refl,
      );
    }

-- none has it
pub run_missed : (rows : List Row) (row : ℕ) (k : Key) (at : ℕ) → Before rows k row → IsGap key_cmp row_key rows k at
    → IsRun rows row k at at
run_missed rows row k at before gap =
    let le = gap_behind rows row k at before gap in
    record {
      order = le;
      some = omega arith;
      one = omega arith;
      next_within = gap.in_range;
      met = inr (
        record {
          in_range = omega (arith, gap.in_range, length-drop row rows);
          before = λ j d lt.
              subst (λ (r : Row). key_cmp r.key k ≡ Less) (sym (get_or-drop row rows j d)) (gap.before (row + j) d (omega arith));
          after = λ j d past lt.
              subst (λ (r : Row). key_cmp r.key k ≡ Greater) (sym (get_or-drop row rows j d))
              (gap.after (row + j) d (omega arith) (omega (arith, lt, length-drop row rows)));
        },
        refl,
      );
    }

-- the rows that a run passes have lesser keys than those of later slots
run_passed : (rows : List Row) (row : ℕ) (k later : Key) (last next : ℕ) → IsAscending key_cmp row_key rows → Before rows k row
    → IsRun rows row k last next → key_cmp k later ≡ Less → Before rows later next
run_passed rows row k later last next rise before run less = record {
  in_range = run.next_within;
  less = λ j d lt.
      elim (cases_lt j row) [
        | inl first ↦ key_total.trans (get_or rows j d).key k later (before.less j d first) less
        | inr behind ↦ elim run.met [
          | inl at ↦
              let tied : key_cmp (get_or rows last d).key k ≡ Equal =
              subst (λ (r : Row). key_cmp r.key k ≡ Equal) (dropped rows row last d run.order) (at.0.has_it d) in
              let same : (get_or rows last d).key ≡ k = key_exact (get_or rows last d).key k tied in
              let here : key_cmp (get_or rows last d).key later ≡ Less = ap (λ (x : Key). key_cmp x later) same ∙ less in
              let there : last < length rows = omega (arith, at.1, run.next_within) in
              elim (cases_lt j last) [
                | inl lower ↦ key_total.trans (get_or rows j d).key (get_or rows last d).key later
                    (IsAscending-at key_cmp key_total row_key rows j last d rise lower there) here
                | inr upper ↦
                    let is : j ≡ last = omega (arith, at.1) in
                    subst (λ (n : ℕ). key_cmp (get_or rows n d).key later ≡ Less) (sym is) here
              ]
          | inr gap ↦
              let lower : j < last = omega (arith, gap.1) in
              let first : key_cmp (get_or rows j d).key k ≡ Less =
              subst (λ (r : Row). key_cmp r.key k ≡ Less) (dropped rows row j d behind)
              (gap.0.before (j - row) d (omega arith)) in
              key_total.trans (get_or rows j d).key k later first less
        ]
      ];
}

pub all_passed : (rows : List Row) (row : ℕ) (k : Key) (last next : ℕ) (slots : List KeySlot) → IsAscending key_cmp row_key rows
    → Before rows k row → IsRun rows row k last next → IsBelow key_cmp slot_key k slots
    → All (λ s. Before rows s.key next) slots
all_passed rows row k last next [] rise before run below = All-nil (λ (s : KeySlot). Before rows s.key next)
all_passed rows row k last next (s ∷ slots) rise before run below =
    All-cons (λ (t : KeySlot). Before rows t.key next) s slots
    (run_passed rows row k s.key last next rise before run below.0)
    (all_passed rows row k last next slots rise before run below.1)

-- ---- what stands, run by run

-- the run before a slot, and what the slot holds
run_step : (rows : List Row) (row last next : ℕ) (s : KeySlot) (slots : List KeySlot) → IsAscending key_cmp row_key rows
    → IsAscending key_cmp slot_key (s ∷ slots) → All Own (s ∷ slots) → IsRun rows row s.key last next
    → standing_rows (drop row rows) (s ∷ slots)
    ≡ take (last - row) (drop row rows) ++ after s.held (standing_rows (drop next rows) slots)
run_step rows row last next s slots up rise own run =
    let xs = drop row rows in
    let p = last - row in
    elim run.met [
      | inl at ↦
          let e : row + suc p ≡ next = omega (arith, at.1, run.order) in
          run_at key_cmp key_total key_exact row_key slot_key held xs s slots p
          (IsAscending-drop key_cmp key_total row_key row rows up) rise own at.0
          ∙ ap (λ (ys : List Row). take p xs ++ after s.held (standing_rows ys slots))
          (drop-drop (suc p) row rows ∙ ap (λ (n : ℕ). drop n rows) e)
      | inr gap ↦
          let e : row + p ≡ next = omega (arith, gap.1, run.order) in
          run_gap key_cmp key_total key_exact row_key slot_key held xs s slots p rise own gap.0
          ∙ ap (λ (ys : List Row). take p xs ++ after s.held (standing_rows ys slots))
          (drop-drop p row rows ∙ ap (λ (n : ℕ). drop n rows) e)
    ]

text_after : (h : Option Row) (xs : List Row) → claims_text (after h xs) ≡ claims_text (held_rows h) ++ claims_text xs
text_after None xs = refl
text_after (Some r) xs = ap (λ (t : List ℕ). t ++ claims_text xs) (sym (append-nil (line_of r)))

module _ (rows : List Row) (all : List KeySlot) (up : IsAscending key_cmp row_key rows) (rise : IsAscending key_cmp slot_key all)
    (own : All Own all) (row i : ℕ) (s : KeySlot) (lt : i < length all) (is : s ≡ get_or all i s) where
  here : drop i all ≡ s ∷ drop (i + 1) all
  here = drop_more all i s lt ∙ ap (λ (t : KeySlot). t ∷ drop (i + 1) all) (sym is)

  -- the rows before the slot's
  pub slot_before : All (λ t. Before rows t.key row) (drop i all) → Before rows s.key row
  slot_before before =
      let P : KeySlot → Type 0 = λ t. Before rows t.key row in
      All-head P s (drop (i + 1) all) (subst (All P) here before)

  module _ (last next : ℕ) (run : IsRun rows row s.key last next) where
    -- the rows before the slots after it
    pub slots_before : All (λ t. Before rows t.key row) (drop i all) → All (λ t. Before rows t.key next) (drop (i + 1) all)
    slots_before before =
        let rise_here = subst (IsAscending key_cmp slot_key) here (IsAscending-drop key_cmp key_total slot_key i all rise) in
        all_passed rows row s.key last next (drop (i + 1) all) up (slot_before before) run rise_here.0

    -- the text of the run, of what the slot holds, and of what stands after it
    pub text_step : claims_text (standing_rows (drop row rows) (drop i all))
        ≡ claims_text (take (last - row) (drop row rows))
        ++ (claims_text (held_rows s.held) ++ claims_text (standing_rows (drop next rows) (drop (i + 1) all)))
    text_step =
        let rest = drop (i + 1) all in
        let rise_here = subst (IsAscending key_cmp slot_key) here (IsAscending-drop key_cmp key_total slot_key i all rise) in
        let own_here = subst (All Own) here (All-drop Own i all own) in
        ap (λ (ss : List KeySlot). claims_text (standing_rows (drop row rows) ss)) here
        ∙ ap claims_text (run_step rows row last next s rest up rise_here own_here run)
        ∙ flat_map-append line_of (take (last - row) (drop row rows)) (after s.held (standing_rows (drop next rows) rest))
        ∙ ap (λ (t : List ℕ). claims_text (take (last - row) (drop row rows)) ++ t)
        (text_after s.held (standing_rows (drop next rows) rest))

-- the row that was read under a slot's key
pub held_read : (rows : List Row) (last next : ℕ) (r : Row) → last < next → next ≤ last + 1 → next ≤ length rows
    → slice_get rows last ≡ Some r → r ∷ [] ≡ take (next - last) (drop last rows)
held_read rows last next r some one within there =
    let n : next - last ≡ 1 = omega arith in
    sym (ap (λ (k : ℕ). take k (drop last rows)) n
    ∙ ap (take 1) (drop_more rows last r (omega arith))
    ∙ ap (λ (q : Row). q ∷ []) (get_or_from_slice_get rows last r r there))

-- rows from one place to another, and on to a third
pub text_join : (rows : List Row) (i j k : ℕ) → i ≤ j → j ≤ k
    → claims_text (take (k - i) (drop i rows))
    ≡ claims_text (take (j - i) (drop i rows)) ++ claims_text (take (k - j) (drop j rows))
text_join rows i j k one two = joined_join line_of rows i j k one two

-- the text so far, the run that is still to be lent and what is still to come: where a slot holds what was read, the run goes on
pub run_longer : (done before run held_text behind all rest longer : List ℕ) → (done ++ before) ++ rest ≡ all
    → rest ≡ run ++ (held_text ++ behind) → longer ≡ before ++ (run ++ held_text) → (done ++ longer) ++ behind ≡ all
run_longer done before run held_text behind all rest longer whole split is =
    ap (λ (t : List ℕ). (done ++ t) ++ behind) is
    ∙ regroup done before run held_text behind
    ∙ ap (λ (t : List ℕ). (done ++ before) ++ t) (sym split) ∙ whole
  where
    regroup : (a b c d e : List ℕ) → (a ++ (b ++ (c ++ d))) ++ e ≡ (a ++ b) ++ (c ++ (d ++ e))
    regroup a b c d e = simp append_assoc

-- elsewhere it is lent, and what the slot holds is put after it
pub run_lent : (done before run held_text behind all rest longer lent put : List ℕ) → (done ++ before) ++ rest ≡ all
    → rest ≡ run ++ (held_text ++ behind) → longer ≡ before ++ run → lent ≡ done ++ longer → put ≡ lent ++ held_text
    → (put ++ []) ++ behind ≡ all
run_lent done before run held_text behind all rest longer lent put whole split is one two =
    ap (λ (t : List ℕ). (t ++ []) ++ behind)
    (two ∙ ap (λ (t : List ℕ). t ++ held_text) (one ∙ ap (λ (t : List ℕ). done ++ t) is))
    ∙ regroup done before run held_text behind
    ∙ ap (λ (t : List ℕ). (done ++ before) ++ t) (sym split) ∙ whole
  where
    regroup : (a b c d e : List ℕ) → (((a ++ (b ++ c)) ++ d) ++ []) ++ e ≡ (a ++ b) ++ (c ++ (d ++ e))
    regroup a b c d e = simp append_assoc
