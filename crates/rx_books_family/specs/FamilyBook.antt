-- Meaning: the book of a family: its members and its standing claims, with the totals over those of a benefit period.
use Rattle.std.specs.Prelude.{◌≡◌, ℕ, ◌<◌, ◌≤◌, ◌^◌, Bool, List, [], Option, Some, None, if◌then◌else◌, length, map}
use Rattle.std.specs.List.{All}
use Rattle.rx_fields.specs.declared.limits.TheConstants.{MOST_CENTS}
use Rattle.rx_fields.specs.Numbered.{Span}
use Rattle.rx_fields.specs.Order.{key_cmp}
use Rattle.rx_fields.specs.declared.key.Key.{Key}
use Rattle.rx_sorted.specs.Ascending.{put, without}
use Rattle.rx_ledger.specs.declared.member.Member.{Member}
use Rattle.rx_ledger.specs.declared.row.Row.{Row}
use Rattle.rx_ledger.specs.Ledger.{Ledger, IsLedger, empty, is_listed}
use Rattle.rx_ledger.specs.Members.{member_cmp, member_key}
use Rattle.rx_ledger.specs.Rows.{row_key}
use Rattle.rx_ledger.specs.Sums.{deductible_in, family_deductible_in, out_of_pocket_in, paid_by_patient}

-- a family's members and rows, and the period that its totals are of
pub record FamilyBook : Type 0 where
  pub family : List ℕ
  pub period : Span
  pub members : List Member
  pub rows : List Row

-- what the book is found by
abbrev pub family_of : FamilyBook → List ℕ
family_of b = b.family

-- a book without members and rows
abbrev pub empty_book : Span → List ℕ → FamilyBook
empty_book period family = record { family = family; period = period; members = []; rows = [] }

-- its members and rows, as a ledger of their own
abbrev pub own_ledger : FamilyBook → Ledger
own_ledger b = record { members = b.members; rows = b.rows }

-- the book's ledger; a book that isn't held is empty
abbrev pub ledger_of_family : Option FamilyBook → Ledger
ledger_of_family None = empty
ledger_of_family (Some b) = own_ledger b

-- the book with one more member, with one more row, and without the row under a fill key
abbrev pub book_with_member : FamilyBook → Member → FamilyBook
book_with_member b m = record b { members = put member_cmp member_key b.members m }

abbrev pub book_with_row : FamilyBook → Row → FamilyBook
book_with_row b r = record b { rows = put key_cmp row_key b.rows r }

abbrev pub book_without_row : FamilyBook → Key → FamilyBook
book_without_row b key = record b { rows = without key_cmp row_key b.rows key }

-- the person is a member
abbrev pub has_person : FamilyBook → List ℕ → Bool
has_person b person = is_listed (own_ledger b) (record { family = b.family; person = person })

-- the deductible of a person, where the person is a member
abbrev pub deductible_at : FamilyBook → List ℕ → Option ℕ
deductible_at b person = if has_person b person then Some (deductible_in b.period b.rows person) else None

-- the deductible of each member, over these rows
abbrev pub deductibles_over : Span → List Row → List Member → List ℕ
deductibles_over period rows members = map (λ m. deductible_in period rows m.key.person) members

-- what a book keeps of its members and rows: they are in order, of the family, and within the limits of a claim
pub record IsOwn (b : FamilyBook) : Type 0 where
  pub in_order : IsLedger (own_ledger b)
  pub members_own : All (λ m. m.key.family ≡ b.family) b.members
  pub small : All (λ r. paid_by_patient r ≤ MOST_CENTS) b.rows
  pub few : length b.rows < 2 ^ 63

-- each stored total is the sum over the book's own rows
pub record AreTotals (b : FamilyBook) (deductibles : List ℕ) (out_of_pocket deductible : ℕ) : Type 0 where
  pub of_members : deductibles ≡ deductibles_over b.period b.rows b.members
  pub of_pocket : out_of_pocket ≡ out_of_pocket_in b.period b.rows
  pub of_family : deductible ≡ family_deductible_in b.period b.rows

-- what a family's book keeps
pub record IsFamilyBook (b : FamilyBook) (deductibles : List ℕ) (out_of_pocket deductible : ℕ) : Type 0 where
  pub own : IsOwn b
  pub totals : AreTotals b deductibles out_of_pocket deductible
