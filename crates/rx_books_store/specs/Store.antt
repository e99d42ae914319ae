-- Plumbing: how books are kept: the lists that they were made from, what stands now under a fill key, and the figures next to
-- them.
use Rattle.std.specs.Prelude.{◌≡◌, ℕ, ◌+◌, ◌<◌, ◌≤◌, ◌^◌, List, Option, Some, IfSome, length, map, slice_get, slice_index}
use Rattle.std.specs.List.{All}
use Rattle.rx_fields.specs.declared.limits.TheConstants.{MOST_CENTS}
use Rattle.rx_fields.specs.Numbered.{Span}
use Rattle.rx_fields.specs.Order.{key_cmp}
use Rattle.rx_fields.specs.declared.key.Key.{Key}
use Rattle.rx_sorted.specs.Ascending.{IsAscending, IsAt}
use Rattle.rx_sorted.specs.Overlaid.{HoldsOwn, overlaid}
use Rattle.rx_ledger.specs.declared.member.Member.{Member}
use Rattle.rx_ledger.specs.declared.row.Row.{Row}
use Rattle.rx_ledger.specs.Ledger.{Ledger, IsLedger}
use Rattle.rx_ledger.specs.Members.{member_cmp, member_key}
use Rattle.rx_ledger.specs.Rows.{member_of_row, row_key}
use Rattle.rx_ledger.specs.Sums.{family_deductible, out_of_pocket, paid_by_patient}
use Rattle.rx_books_store.specs.declared.slot.KeySlot.{KeySlot}
use Rattle.rx_books_store.specs.BooksText.{deductibles_of, families_of}

-- ---- slots

-- the fill key that a slot is for, and what it holds
abbrev pub slot_key : KeySlot → Key
slot_key s = s.key

abbrev pub held : KeySlot → Option Row
held s = s.held

abbrev pub slot_keys : List KeySlot → List Key
slot_keys slots = map slot_key slots

-- the rows with what each of these slots holds
abbrev pub standing_rows : List Row → List KeySlot → List Row
standing_rows rows slots = overlaid key_cmp row_key slot_key held rows slots

-- the ledger that stands: the opening one, with what the slots hold
abbrev pub standing : Ledger → List KeySlot → Ledger
standing opening slots = record { members = opening.members; rows = standing_rows opening.rows slots }

-- what the slot holds is under its fill key, and of the member at its place
pub record IsSlot (members : List Member) (s : KeySlot) : Type 0 where
  pub under : HoldsOwn key_cmp row_key slot_key held s
  pub holder : IfSome s.held (λ r. IsAt member_cmp member_key members (member_of_row r) s.holder)

-- ---- the lists that books were made from

-- for each member the place of its family
pub record AreHomes (members : List Member) (families : List (List ℕ)) (homes : List ℕ) : Type 0 where
  pub one_each : length homes ≡ length members
  pub each : (i : ℕ) (m : Member) → slice_get members i ≡ Some m
      → slice_get families (slice_index homes i) ≡ Some m.key.family

-- for each row the place of its member
pub record AreHolders (members : List Member) (rows : List Row) (holders : List ℕ) : Type 0 where
  pub one_each : length holders ≡ length rows
  pub each : (i : ℕ) (r : Row) → slice_get rows i ≡ Some r
      → IsAt member_cmp member_key members (member_of_row r) (slice_index holders i)

-- a ledger, with its families in order, and each place
pub record AreLists (L : Ledger) (families : List (List ℕ)) (homes holders : List ℕ) : Type 0 where
  pub in_order : IsLedger L
  pub all_families : families ≡ families_of L.members
  pub at_home : AreHomes L.members families homes
  pub held_by : AreHolders L.members L.rows holders
  pub few : length L.members < 2 ^ 32

-- ---- figures

-- each family's out of pocket and deductible in a period
abbrev pub out_of_pockets_of : Span → Ledger → List ℕ
out_of_pockets_of period L = map (out_of_pocket period L) (families_of L.members)

abbrev pub family_deductibles_of : Span → Ledger → List ℕ
family_deductibles_of period L = map (family_deductible period L) (families_of L.members)

-- the figures of the members and of the families are the sums over the rows of a ledger
pub record AreFigures (period : Span) (L : Ledger) (deductibles out_of_pockets family_deductibles : List ℕ) : Type 0 where
  pub of_members : deductibles ≡ deductibles_of period L
  pub of_pockets : out_of_pockets ≡ out_of_pockets_of period L
  pub of_families : family_deductibles ≡ family_deductibles_of period L

-- what books keep: slots in order, each with its own row or none, and the figures of the ledger that stands
pub record IsStore (period : Span) (opening : Ledger) (slots : List KeySlot)
    (deductibles out_of_pockets family_deductibles : List ℕ) : Type 0 where
  pub opened : IsLedger opening
  pub in_order : IsLedger (standing opening slots)
  pub slots_rise : IsAscending key_cmp slot_key slots
  pub slots_own : All (IsSlot opening.members) slots
  pub figures : AreFigures period (standing opening slots) deductibles out_of_pockets family_deductibles
  pub small : All (λ r. paid_by_patient r ≤ MOST_CENTS) (standing_rows opening.rows slots)
  pub few : length opening.rows + length slots < 2 ^ 64
