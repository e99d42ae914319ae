-- Spans of rows and slots, and the lines of the rows that stand in them.
use Rattle.std.proofs.Common.{◌≡◌, ℕ, zero, suc, ◌+◌, ◌-◌, ◌<◌, ◌≤◌, List, [], ◌∷◌, ◌++◌, length, get_or, take, drop}
use Rattle.std.proofs.Common.{Err, Ok, Result, refl, sym, subst, ap, ◌∙◌, inl, inr, arith, append_assoc}
use Rattle.std.specs.Prelude.{IfOk, MatchResult}
use Rattle.std.specs.List.{All, AllZip, flat_map}
use Rattle.std.specs.declared.cmp.Ordering.TheVariants.{Less, Equal, Greater}
use Rattle.std.proofs.lemmas.Bool.{cases_lt}
use Rattle.std.proofs.lemmas.Grind.{flat_map-append}
use Rattle.std.proofs.lemmas.List.{drop-drop, drop_all, get_or-drop, length-drop}
use Rattle.std.proofs.lemmas.List.Elements.{All-drop}
use Rattle.rx_fields.specs.Order.{key_cmp}
use Rattle.rx_fields.specs.declared.key.Key.{Key}
use Rattle.rx_io.specs.Patches.{Patch}
use Rattle.rx_sorted.specs.Ascending.{IsAscending, IsAt, IsGap}
use Rattle.rx_sorted.specs.Near.{AreBefore}
use Rattle.rx_sorted.proofs.Kept.{IsAscending-at}
use Rattle.rx_sorted.proofs.Keys.{Greater-from_Less, IsBelow-from_places, Less-from_Greater}
use Rattle.rx_ledger.specs.declared.row.Row.{Row}
use Rattle.rx_ledger.specs.Rows.{row_key}
use Rattle.rx_ledger.proofs.Orders.{key_exact, key_total}
use Rattle.rx_books_store.specs.declared.patching.Cut.{Cut}
use Rattle.rx_books_store.specs.declared.patching.Span.{Span}
use Rattle.rx_books_store.specs.declared.slot.KeySlot.{KeySlot}
use Rattle.rx_books_store.specs.BooksText.{claims_text}
use Rattle.rx_books_store.specs.Patching.{AreInTurn, FillsStretch, IsCut, IsRun, IsSpan, StretchTexts, end_of, rest_text, start}
use Rattle.rx_books_store.specs.Store.{slot_key, standing_rows}
use Rattle.rx_books_store.proofs.Passes.{Own, row_front}
use Rattle.rx_books_store.proofs.Patches.{dropped, line_of}

-- an item of a list that has one
some_of : {X : Type 0} (xs : List X) → 0 < length xs → X
some_of [] lt = absurd (omega arith)
some_of (x ∷ xs) lt = x

-- what follows where a result is Ok
pub IfOk-matched : {X E : Type 0} (r : Result X E) (P Q : X → Type 0) (S : E → Type 0) → MatchResult r P S
    → ((x : X) → P x → Q x) → IfOk r Q
IfOk-matched (Ok x) P Q S h f = f x h
IfOk-matched (Err e) P Q S h f = tt

-- ---- cuts

pub start_cut : (rows : List Row) (slots : List KeySlot) → IsCut rows slots start
start_cut rows slots = record {
  row_within = omega arith;
  slot_within = omega arith;
  less = λ i j r s low past within. absurd (omega arith);
  greater = λ i j r s past within low. absurd (omega arith);
}

pub end_cut : (rows : List Row) (slots : List KeySlot) → IsCut rows slots (end_of rows slots)
end_cut rows slots = record {
  row_within = omega arith;
  slot_within = omega arith;
  less = λ i j r s low past within. absurd (omega arith);
  greater = λ i j r s past within low. absurd (omega arith);
}

module _ (rows : List Row) (slots : List KeySlot) (rise : IsAscending key_cmp slot_key slots) (row slot : ℕ) (k : Key)
    (within : slot < length slots) (is : (s : KeySlot) → (get_or slots slot s).key ≡ k) where
  -- lesser keys stand before the row, and none that is less from it on
  by_sides : row ≤ length rows → ((i : ℕ) (r : Row) → i < row → key_cmp (get_or rows i r).key k ≡ Less)
      → ((i : ℕ) (r : Row) (low : Key) → row ≤ i → i < length rows → key_cmp low k ≡ Less → key_cmp low (get_or rows i r).key ≡ Less)
      → IsCut rows slots (record { row = row; slot = slot })
  by_sides row_within before after = record {
    row_within = row_within;
    slot_within = omega arith;
    less = λ i j r s low past there. elim (cases_lt slot j) [
      | inl later ↦
          let here : key_cmp k (get_or slots j s).key ≡ Less =
          subst (λ (x : Key). key_cmp x (get_or slots j s).key ≡ Less) (is s)
          (IsAscending-at key_cmp key_total slot_key slots slot j s rise later there) in
          key_total.trans (get_or rows i r).key k (get_or slots j s).key (before i r low) here
      | inr first ↦
          let same : j ≡ slot = omega arith in
          subst (λ (x : Key). key_cmp (get_or rows i r).key x ≡ Less)
          (sym (ap (λ (n : ℕ). (get_or slots n s).key) same ∙ is s)) (before i r low)
    ];
    greater = λ i j r s past there low.
        let here : key_cmp (get_or slots j s).key k ≡ Less =
        subst (λ (x : Key). key_cmp (get_or slots j s).key x ≡ Less) (is s)
        (IsAscending-at key_cmp key_total slot_key slots j slot s rise low within) in
        Greater-from_Less key_cmp key_total slot_key (get_or slots j s).key (get_or rows i r).key
        (after i r (get_or slots j s).key past there here);
  }

-- the key of an item doesn't rest on the default
key_of : (slots : List KeySlot) (slot : ℕ) (s t : KeySlot) → slot < length slots → (get_or slots slot t).key ≡ (get_or slots slot s).key
key_of [] slot s t lt = absurd (omega arith)
key_of (x ∷ slots) zero s t lt = refl
key_of (x ∷ slots) (suc slot) s t lt = key_of slots slot s t (omega arith)

module _ (rows : List Row) (slots : List KeySlot) (rise : IsAscending key_cmp slot_key slots) (row slot : ℕ) (s : KeySlot)
    (within : slot < length slots) (is : s ≡ get_or slots slot s) where
  same_key : (t : KeySlot) → (get_or slots slot t).key ≡ s.key
  same_key t = key_of slots slot s t within ∙ ap (λ (x : KeySlot). x.key) (sym is)

  -- the cut before a slot, where a row has its key
  pub cut_found : IsAscending key_cmp row_key rows → IsAt key_cmp row_key rows s.key row
      → IsCut rows slots (record { row = row; slot = slot })
  cut_found up found =
      let k = s.key in
      let there = found.in_range in
      let same : (r : Row) → (get_or rows row r).key ≡ k = λ r. key_exact (get_or rows row r).key k (found.has_it r) in
      by_sides rows slots rise row slot k within same_key (omega (arith, there))
      (λ i r low. subst (λ (x : Key). key_cmp (get_or rows i r).key x ≡ Less) (same r)
      (IsAscending-at key_cmp key_total row_key rows i row r up low there))
      (λ i r low past here less. elim (cases_lt row i) [
        | inl later ↦ key_total.trans low k (get_or rows i r).key less
            (subst (λ (x : Key). key_cmp x (get_or rows i r).key ≡ Less) (same r)
            (IsAscending-at key_cmp key_total row_key rows row i r up later here))
        | inr first ↦
            let e : i ≡ row = omega arith in
            subst (λ (x : Key). key_cmp low x ≡ Less) (sym (ap (λ (n : ℕ). (get_or rows n r).key) e ∙ same r)) less
      ])

  -- the same where none has it
  pub cut_missed : IsGap key_cmp row_key rows s.key row → IsCut rows slots (record { row = row; slot = slot })
  cut_missed gap =
      by_sides rows slots rise row slot s.key within same_key gap.in_range gap.before
      (λ i r low past here less. key_total.trans low s.key (get_or rows i r).key less
      (Less-from_Greater key_cmp key_total row_key (get_or rows i r).key s.key (gap.after i r past here)))

-- of two cuts the one with more slots has no fewer rows
pub rows_in_order : (rows : List Row) (slots : List KeySlot) (from to : Cut) → IsCut rows slots from → IsCut rows slots to
    → from.slot < to.slot → from.row ≤ to.row
rows_in_order rows slots from to one two less = elim (cases_lt to.row from.row) [
  | inl back ↦
      let there : to.row < length rows = omega (arith, one.row_within) in
      let slot_there : from.slot < length slots = omega (arith, two.slot_within) in
      let r : Row = some_of rows (omega arith) in
      let s : KeySlot = some_of slots (omega arith) in
      absurd (let e : Less ≡ Greater =
      sym (one.less to.row from.slot r s back (omega arith) slot_there) ∙ two.greater to.row from.slot r s (omega arith) there less in cc)
  | inr order ↦ order
]

-- ---- stretches

abbrev pub text_made : Patch → List ℕ
text_made p = p.text

pub turn_more : (whole mid after : List ℕ) (stretches : List StretchTexts) (s : StretchTexts) → AreInTurn whole stretches mid
    → s.whole ≡ mid → s.after ≡ after → AreInTurn whole (stretches ++ s ∷ []) after
turn_more whole mid after [] s so_far one two = (one ∙ sym so_far, two)
turn_more whole mid after (t ∷ stretches) s so_far one two =
    (so_far.0, turn_more t.after mid after stretches s so_far.1 one two)

-- the texts of stretches, one after another
pub texts_in_turn : (whole after : List ℕ) (stretches : List StretchTexts) (texts : List Patch) → AreInTurn whole stretches after
    → AllZip FillsStretch stretches texts → flat_map text_made texts ++ after ≡ whole
texts_in_turn whole after [] [] turn all = sym turn
texts_in_turn whole after [] (t ∷ texts) turn all = absurd all
texts_in_turn whole after (s ∷ stretches) [] turn all = absurd all
texts_in_turn whole after (s ∷ stretches) (t ∷ texts) turn all =
    append_assoc t.text (flat_map text_made texts) after
    ∙ ap (λ (x : List ℕ). t.text ++ x) (texts_in_turn s.after after stretches texts turn.1 all.1)
    ∙ all.0 ∙ turn.0

-- nothing stands after all rows and slots
pub rest_none : (rows : List Row) (slots : List KeySlot) → rest_text rows slots (end_of rows slots) ≡ []
rest_none rows slots =
    ap (λ (xs : List Row). claims_text (standing_rows xs (drop (length slots) slots))) (drop_all (length rows) rows (omega arith))
    ∙ ap (λ (ss : List KeySlot). claims_text (standing_rows [] ss)) (drop_all (length slots) slots (omega arith))

-- the span of all rows and slots
pub whole_span : (rows : List Row) (slots : List KeySlot) → IsSpan rows slots (record { from = start; to = end_of rows slots })
whole_span rows slots =
    record { begins = start_cut rows slots; ends = end_cut rows slots; row_order = omega arith; slot_order = omega arith }

-- ---- rows before slots

-- rows with lesser keys than all slots stand before what these leave
rows_pass : (n : ℕ) (xs : List Row) (slots : List KeySlot) → All Own slots
    → ((i j : ℕ) (r : Row) (s : KeySlot) → i < n → j < length slots → key_cmp (get_or xs i r).key (get_or slots j s).key ≡ Less)
    → n ≤ length xs → standing_rows xs slots ≡ take n xs ++ standing_rows (drop n xs) slots
rows_pass zero xs slots own less within = refl
rows_pass (suc n) [] slots own less within = absurd (omega arith)
rows_pass (suc n) (x ∷ xs) slots own less within =
    row_front x xs slots
    (IsBelow-from_places key_cmp key_total slot_key x.key slots (λ j s lt. less 0 j x s (omega arith) lt)) own
    ∙ ap (λ (rs : List Row). x ∷ rs)
    (rows_pass n xs slots own (λ i j r s lt there. less (suc i) j r s (omega arith) there) (omega arith))

module _ (rows : List Row) (slots : List KeySlot) (cut : Cut) (is : IsCut rows slots cut) where
  -- the rows before a cut have lesser keys than the slots after it
  pub before_slots : All (λ s. AreBefore key_cmp row_key rows s.key cut.row) (drop cut.slot slots)
  before_slots = λ k d lt. record {
    in_range = is.row_within;
    less = λ i r low.
        subst (λ (s : KeySlot). key_cmp (get_or rows i r).key s.key ≡ Less) (sym (get_or-drop cut.slot slots k d))
        (is.less i (cut.slot + k) r d low (omega arith) (omega (arith, lt, length-drop cut.slot slots)));
  }

  -- the lines of the rows from a place up to the cut, and of what stands after it
  pub text_up_to : (row : ℕ) → All Own slots → row ≤ cut.row
      → claims_text (standing_rows (drop row rows) (drop cut.slot slots))
      ≡ claims_text (take (cut.row - row) (drop row rows)) ++ rest_text rows slots cut
  text_up_to row own order =
      let n = cut.row - row in
      let ss = drop cut.slot slots in
      let there : row + n ≡ cut.row = omega arith in
      ap claims_text (rows_pass n (drop row rows) ss (All-drop Own cut.slot slots own)
      (λ i j r s low lt.
      subst (λ (t : KeySlot). key_cmp (get_or (drop row rows) i r).key t.key ≡ Less) (sym (get_or-drop cut.slot slots j s))
      (subst (λ (q : Row). key_cmp q.key (get_or slots (cut.slot + j) s).key ≡ Less) (sym (get_or-drop row rows i r))
      (is.less (row + i) (cut.slot + j) r s (omega arith) (omega arith) (omega (arith, lt, length-drop cut.slot slots)))))
      (omega (arith, is.row_within, length-drop row rows)))
      ∙ flat_map-append line_of (take n (drop row rows)) (standing_rows (drop n (drop row rows)) ss)
      ∙ ap (λ (xs : List Row). claims_text (take n (drop row rows)) ++ claims_text (standing_rows xs ss))
      (drop-drop n row rows ∙ ap (λ (m : ℕ). drop m rows) there)

  -- the run before a slot that is before the cut ends before it
  pub run_within : (row last next j : ℕ) (s : KeySlot) → IsAscending key_cmp row_key rows → row ≤ cut.row
      → IsRun rows row s.key last next → j < cut.slot → s ≡ get_or slots j s → next ≤ cut.row
  run_within row last next j s up order run low same = elim (cases_lt cut.row next) [
    | inl past ↦
        let there : cut.row < length rows = omega (arith, run.next_within) in
        let r : Row = some_of rows (omega arith) in
        let greater : key_cmp (get_or rows cut.row r).key s.key ≡ Greater =
        subst (λ (t : KeySlot). key_cmp (get_or rows cut.row r).key t.key ≡ Greater) (sym same)
        (is.greater cut.row j r s (omega arith) there low) in
        absurd (elim run.met [
          | inl at ↦
              let tied : key_cmp (get_or rows last r).key s.key ≡ Equal =
              subst (λ (q : Row). key_cmp q.key s.key ≡ Equal) (dropped rows row last r run.order) (at.0.has_it r) in
              elim (cases_lt cut.row last) [
                | inl lower ↦
                    let less : key_cmp (get_or rows cut.row r).key s.key ≡ Less =
                    subst (λ (x : Key). key_cmp (get_or rows cut.row r).key x ≡ Less) (key_exact (get_or rows last r).key s.key tied)
                    (IsAscending-at key_cmp key_total row_key rows cut.row last r up lower (omega (arith, at.1, run.next_within))) in
                    let e : Less ≡ Greater = sym less ∙ greater in cc
                | inr upper ↦
                    let one : cut.row ≡ last = omega (arith, at.1) in
                    let e : Equal ≡ Greater =
                    sym tied ∙ ap (λ (n : ℕ). key_cmp (get_or rows n r).key s.key) (sym one) ∙ greater in cc
              ]
          | inr gap ↦
              let less : key_cmp (get_or rows cut.row r).key s.key ≡ Less =
              subst (λ (q : Row). key_cmp q.key s.key ≡ Less) (dropped rows row cut.row r order)
              (gap.0.before (cut.row - row) r (omega (arith, gap.1))) in
              let e : Less ≡ Greater = sym less ∙ greater in cc
        ])
    | inr within ↦ within
  ]

-- what was put, the run that is lent last, and what stands after the span
pub span_ends : (done before mid rest left longer lent all : List ℕ) → lent ≡ longer → longer ≡ before ++ mid
    → left ≡ mid ++ rest → (done ++ before) ++ left ≡ all → (done ++ lent) ++ rest ≡ all
span_ends done before mid rest left longer lent all one two three whole =
    ap (λ (t : List ℕ). (done ++ t) ++ rest) (one ∙ two)
    ∙ regroup done before mid rest
    ∙ ap (λ (t : List ℕ). (done ++ before) ++ t) (sym three) ∙ whole
  where
    regroup : (a b c d : List ℕ) → (a ++ (b ++ c)) ++ d ≡ (a ++ b) ++ (c ++ d)
    regroup a b c d = simp append_assoc
