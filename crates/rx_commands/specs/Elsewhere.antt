-- Meaning: two jobs that differ only in names, products, prescriptions and pharmacies of other pharmacies' claims.
use Rattle.std.specs.Prelude.{◌≡◌, ℕ, ◌||◌, Bool, true, false, List, Option, Some, None, Ok}
use Rattle.rx_batch.specs.Grammar.{IsFile}
use Rattle.rx_batch.specs.declared.detail.Detail.{Detail}
use Rattle.rx_batch.specs.declared.head.Head.{Head}
use Rattle.rx_books_store.specs.BooksFile.{IsBooksText}
use Rattle.rx_d0_values.specs.declared.transmission.Body.{Body}
use Rattle.rx_d0_values.specs.declared.transmission.Body.TheVariants.{Rejected, Heard}
use Rattle.rx_d0_values.specs.declared.transmission.Transmission.{Transmission}
use Rattle.rx_explain.specs.Names.{DifferInNames}
use Rattle.rx_explain.specs.Spots.{item}
use Rattle.rx_fields.specs.Numbered.{Span}
use Rattle.rx_fields.specs.Text.{id_of}
use Rattle.rx_ledger.specs.Ledger.{Ledger}
use Rattle.rx_ledger.specs.Members.{is_same}
use Rattle.rx_ledger.specs.Plan.{Plan}
use Rattle.rx_sheet.specs.SheetText.{sheet_of_text}
use Rattle.rx_wave.specs.Decoding.{transmissions_of}
use Rattle.rx_commands.specs.ForProvider.{is_id_of}
use Rattle.rx_commands.specs.declared.printed.Printed.{Printed}

-- the three texts of a job are accepted: they are a plan, opening books, and the head and records of a batch
pub record Job (sheet books batch : List ℕ) (plan : Plan) : Type 0 where
  pub period : Span
  pub opening : Ledger
  pub head : Head
  pub details : List Detail
  pub sheet_is : sheet_of_text sheet ≡ Ok plan
  pub books_are : IsBooksText books period opening
  pub batch_is : IsFile batch head details

-- what records ask at a plan's door
abbrev pub asked_of : Plan → List Detail → List Transmission
asked_of plan details = transmissions_of plan.figures.door details

-- a record is the pharmacy's: its transactions are; or its header is rejected, and names it
abbrev pub is_own_body : List ℕ → List ℕ → Body → Bool
is_own_body own field (Heard h) = is_same h.provider own
is_own_body own field (Rejected r) = is_id_of own (id_of 15 field)

abbrev pub is_own_record : List ℕ → Option Transmission → Bool
is_own_record own None = false
is_own_record own (Some t) = is_own_body own t.echo.provider t.body

-- two jobs of one plan sheet, batch number and date: what they ask and their books differ only in names of others, the pharmacy
-- keeps its own, and a record that is the pharmacy's in either job is the same in both, byte for byte
pub record DifferElsewhere (own sheet books batch other_books other_batch : List ℕ) : Type 0 where
  pub plan : Plan
  pub one : Job sheet books batch plan
  pub other : Job sheet other_books other_batch plan
  pub same_lot : other.head.lot ≡ one.head.lot
  pub differ : DifferInNames own plan (asked_of plan one.details) (asked_of plan other.details) one.opening other.opening
  pub own_name : differ.names.pharmacy own ≡ own
  pub own_records : (place : ℕ)
      → (is_own_record own (item (asked_of plan one.details) place)
      || is_own_record own (item (asked_of plan other.details) place)) ≡ true
      → item other.details place ≡ item one.details place

-- one text is printed, and one outcome
pub record IsSamePrinted (p q : Printed) : Type 0 where
  pub text_is : p.text.items ≡ q.text.items
  pub outcome_is : p.outcome ≡ q.outcome
