-- Plumbing: a pass over the slots, by which the lines of rows that stand as they were read are lent.
use Rattle.std.specs.Prelude.{◌≡◌, ℕ, ◌+◌, ◌-◌, ◌<◌, ◌≤◌, ◌⊎◌, List, [], ◌∷◌, ◌++◌, Option, Some, None}
use Rattle.std.specs.Prelude.{drop, length, slice_index_or, take}
use Rattle.std.specs.List.{All}
use Rattle.std.specs.declared.cmp.Ordering.TheVariants.{Greater, Less}
use Rattle.rx_fields.specs.Order.{key_cmp}
use Rattle.rx_fields.specs.declared.key.Key.{Key}
use Rattle.rx_io.specs.Patches.{Patch}
use Rattle.rx_sorted.specs.Ascending.{IsAscending, IsAt, IsGap}
use Rattle.rx_ledger.specs.declared.row.Row.{Row}
use Rattle.rx_ledger.specs.Ledger.{Ledger}
use Rattle.rx_ledger.specs.Rows.{row_key}
use Rattle.rx_books_store.specs.declared.patching.Cut.{Cut}
use Rattle.rx_books_store.specs.declared.kept.Kept.{Kept}
use Rattle.rx_books_store.specs.declared.patching.Span.{Span}
use Rattle.rx_books_store.specs.declared.slot.KeySlot.{KeySlot}
use Rattle.rx_books_store.specs.BooksText.{claims_text}
use Rattle.rx_books_store.specs.Kept.{IsKept}
use Rattle.rx_books_store.specs.Store.{IsSlot, slot_key, standing_rows}

-- the row that a slot holds, if it holds one
abbrev pub held_rows : Option Row → List Row
held_rows None = []
held_rows (Some r) = r ∷ []

-- from a row on, those before `last` have lesser keys, and those from `next` on greater ones: the row between has the key
pub record IsRun (rows : List Row) (row : ℕ) (key : Key) (last next : ℕ) : Type 0 where
  pub order : row ≤ last
  pub some : last ≤ next
  pub one : next ≤ last + 1
  pub next_within : next ≤ length rows
  pub met : (IsAt key_cmp row_key (drop row rows) key (last - row) × (next ≡ last + 1))
      ⊎ (IsGap key_cmp row_key (drop row rows) key (last - row) × (next ≡ last))

-- where the line of a row begins, where this many bytes stand above the first
abbrev pub begin_of : ℕ → List Row → ℕ → ℕ
begin_of above rows i = above + length (claims_text (take i rows))

-- ---- spans of rows and slots

-- rows before the cut have lesser keys than slots after it, and rows after it greater ones than slots before it
pub record IsCut (rows : List Row) (slots : List KeySlot) (cut : Cut) : Type 0 where
  pub row_within : cut.row ≤ length rows
  pub slot_within : cut.slot ≤ length slots
  pub less : (i j : ℕ) (r : Row) (s : KeySlot) → i < cut.row → cut.slot ≤ j → j < length slots
      → key_cmp (slice_index_or rows i r).key (slice_index_or slots j s).key ≡ Less
  pub greater : (i j : ℕ) (r : Row) (s : KeySlot) → cut.row ≤ i → i < length rows → j < cut.slot
      → key_cmp (slice_index_or rows i r).key (slice_index_or slots j s).key ≡ Greater

pub record IsSpan (rows : List Row) (slots : List KeySlot) (span : Span) : Type 0 where
  pub begins : IsCut rows slots span.from
  pub ends : IsCut rows slots span.to
  pub row_order : span.from.row ≤ span.to.row
  pub slot_order : span.from.slot ≤ span.to.slot

-- before all rows and slots, and after them
abbrev pub start : Cut
start = record { row = 0; slot = 0 }

abbrev pub end_of : List Row → List KeySlot → Cut
end_of rows slots = record { row = length rows; slot = length slots }

-- the lines of the rows that stand after a cut
abbrev pub rest_text : List Row → List KeySlot → Cut → List ℕ
rest_text rows slots cut = claims_text (standing_rows (drop cut.row rows) (drop cut.slot slots))

-- the lines of the rows that stand from the beginning of a span on, and those of the rows after it
pub record StretchTexts : Type 0 where
  pub whole : List ℕ
  pub after : List ℕ

pub record IsStretch (kept : Kept) (opening : Ledger) (slots : List KeySlot) (span : Span) : Type 0 where
  pub lines : IsKept kept opening.rows
  pub rise : IsAscending key_cmp slot_key slots
  pub own : All (IsSlot opening.members) slots
  pub within : IsSpan opening.rows slots span

-- the text has the lines of the stretch
abbrev pub FillsStretch : StretchTexts → Patch → Type 0
FillsStretch stretch made = made.text ++ stretch.after ≡ stretch.whole

-- stretches of a text, each from where the one before it ends, up to what stands after them
abbrev pub AreInTurn : List ℕ → List StretchTexts → List ℕ → Type 0
AreInTurn whole [] after = whole ≡ after
AreInTurn whole (s ∷ stretches) after = (s.whole ≡ whole) × AreInTurn s.after stretches after
