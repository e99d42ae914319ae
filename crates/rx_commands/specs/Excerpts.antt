-- Meaning: an excerpt of a job: what one record of its batch hangs on, as inputs of a run of their own.
use Rattle.std.specs.Prelude.{◌≡◌, ℕ, ◌==◌, if◌then◌else◌, List, Option, Some, None, Ok}
use Rattle.rx_batch.specs.Grammar.{IsFile}
use Rattle.rx_batch.specs.declared.batch.Batch.{Batch}
use Rattle.rx_batch.specs.declared.detail.Detail.{Detail}
use Rattle.rx_batch.specs.declared.head.Head.{Head}
use Rattle.rx_books_store.specs.BooksFile.{IsBooksText}
use Rattle.rx_books_store.specs.BooksText.{books_text}
use Rattle.rx_books_text.specs.declared.version.Version.TheVariants.{Three}
use Rattle.rx_d0_reply.specs.Text.{reply_text}
use Rattle.rx_d0_request.specs.Request.{transmission_of}
use Rattle.rx_d0_values.specs.declared.reply.Reply.{Reply}
use Rattle.rx_d0_values.specs.declared.transmission.Body.{Body}
use Rattle.rx_d0_values.specs.declared.transmission.Body.TheVariants as body
use Rattle.rx_d0_values.specs.declared.transmission.Heard.{Heard}
use Rattle.rx_d0_values.specs.declared.transmission.Rejected.{Rejected}
use Rattle.rx_d0_values.specs.declared.transmission.Transmission.{Transmission}
use Rattle.rx_explain.specs.Before.{ledger_at}
use Rattle.rx_explain.specs.Spots.{item}
use Rattle.rx_explain_text.specs.declared.compared.Compared.{Compared}
use Rattle.rx_explain_text.specs.declared.compared.Compared.TheVariants.{OtherBatch}
use Rattle.rx_fields.specs.Numbered.{LotParts, Span}
use Rattle.rx_fields.specs.declared.stamp.Stamp.{Stamp}
use Rattle.rx_ledger.specs.Fold.{reply_to}
use Rattle.rx_ledger.specs.Ledger.{Ledger}
use Rattle.rx_ledger.specs.Plan.{Plan}
use Rattle.rx_response.specs.Response.{response_details}
use Rattle.rx_sheet.specs.SheetText.{sheet_of_text}
use Rattle.rx_switch.specs.Job.{given_read}
use Rattle.rx_switch.specs.Output.{Accepted, StandFor, replies, stamp_for}
use Rattle.rx_switch.specs.declared.fault.SwitchFault.TheVariants as fault
use Rattle.rx_wave.specs.Decoding.{transmissions_of}
use Rattle.rx_commands.specs.Compared.{compared_with}
use Rattle.rx_commands.specs.ExcerptParts.{excerpt_details, excerpt_ledger, excerpt_plan}
use Rattle.rx_commands.specs.ExcerptReadme.{readme_text}
use Rattle.rx_commands.specs.Explaining.{IsFileOf, IsNotExplained}
use Rattle.rx_commands.specs.declared.excerpts.Excerpt.{Excerpt}
use Rattle.rx_commands.specs.declared.excerpts.fault.ExcerptFault.{ExcerptFault}
use Rattle.rx_commands.specs.declared.excerpts.fault.ExcerptFault.TheVariants as excerpt
use Rattle.rx_commands.specs.declared.explain_fault.ExplainFault.TheVariants as explain

-- ---- the record

-- a record of a batch, with the plan, and the ledger before it
pub record Disputed : Type 0 where
  pub plan : Plan
  pub head : Head
  pub detail : Detail
  pub before : Ledger

-- the header is accepted
abbrev pub IsHeard : Body → Type 0
IsHeard b = (h : Heard) × (b ≡ body.Heard h)

-- what it asks at the plan's door
abbrev pub request_of : Disputed → Transmission
request_of d = transmission_of d.plan.figures.door d.detail.text

-- sheet, books and batch are accepted; it is the record at this place of the batch, and its ledger is that after the records
-- before it, one after another on the opening books
pub record IsDisputed (sheet books batch : List ℕ) (place : ℕ) (d : Disputed) : Type 0 where
  pub period : Span
  pub opening : Ledger
  pub details : List Detail
  pub sheet_is : sheet_of_text sheet ≡ Ok d.plan
  pub books_are : IsBooksText books period opening
  pub batch_is : IsFile batch d.head details
  pub detail_is : item details place ≡ Some d.detail
  pub before_is : d.before ≡ ledger_at d.head.lot d.plan (transmissions_of d.plan.figures.door details) opening place

-- the reply to it
abbrev pub reply_of : ℕ → Disputed → Reply
reply_of place d = reply_to d.head.lot d.plan place (request_of d) d.before

-- ---- its excerpt

-- a sheet of the drugs that it bills; books of the families that it names, as they stood before it; and a batch in which it
-- stands at its place, after empty details
pub record AreTexts (place : ℕ) (d : Disputed) (sheet books batch : List ℕ) : Type 0 where
  pub sheet_is : sheet_of_text sheet ≡ Ok (excerpt_plan (request_of d).body d.plan)
  pub books_are : IsBooksText books d.plan.figures.period (excerpt_ledger (request_of d).body d.before)
  pub batch_is : IsFile batch d.head (excerpt_details place d.detail)

-- what a response file has at a place, next to a reply with this reference and this text; a file of another batch number
-- answers another batch
abbrev pub compared_in_file : LotParts → ℕ → List ℕ → List ℕ → Batch → Compared
compared_in_file lot place reference text file =
    if file.head.lot.number == lot.number then compared_with reference text (item file.details place)
    else OtherBatch file.head.lot

abbrev pub compared_next_to : LotParts → ℕ → List ℕ → List ℕ → Option Batch → Option Compared
compared_next_to lot place reference text None = None
compared_next_to lot place reference text (Some file) = Some (compared_in_file lot place reference text file)

abbrev pub compared_if_given : ℕ → Disputed → Option Batch → Option Compared
compared_if_given place d file =
    compared_next_to d.head.lot place d.detail.reference (reply_text (reply_of place d)) file

-- the excerpt of a record that has transactions, next to a response file, if there is one
pub record IsExcerptOf (place : ℕ) (d : Disputed) (file : Option Batch) (e : Excerpt) : Type 0 where
  pub heard : Heard
  pub heard_is : (request_of d).body ≡ body.Heard heard
  pub texts_are : AreTexts place d e.sheet.items e.books.items e.batch.items
  pub compared_is : e.compared ≡ compared_if_given place d file
  pub readme_is : e.readme.items ≡ readme_text d.head.lot place (reply_text (reply_of place d)) e.compared

-- the excerpt of the record at a place of a job, next to the response file of these bytes, where they are given
pub record IsExcerpt (sheet books batch : List ℕ) (place : ℕ) (response : Option (List ℕ)) (e : Excerpt) : Type 0 where
  pub disputed : Disputed
  pub disputed_is : IsDisputed sheet books batch place disputed
  pub file : Option Batch
  pub file_is : IsFileOf response file
  pub excerpt_is : IsExcerptOf place disputed file e

-- ---- what runs answer

-- a run on these texts isn't refused, whatever stamp and number of workers it is given that a run takes
abbrev pub AreAccepted : (sheet books batch : List ℕ) → Type 0
AreAccepted sheet books batch =
    (words : List ℕ) → (workers : ℕ) → (stamp : Stamp) → stamp_for workers words ≡ Ok stamp
    → (x : Accepted) × StandFor (given_read words workers sheet books batch) x

-- the detail of the response file of a run at a place
abbrev pub answer_at : Accepted → ℕ → Option Detail
answer_at x place = item (response_details x.details (replies x)) place

-- a run on the first three texts and one on the others, each with any stamp and workers, answer the record at a place with
-- one and the same detail, byte for byte
abbrev pub AnswerAlike : (sheet books batch : List ℕ) → (sheet' books' batch' : List ℕ) → ℕ → Type 0
AnswerAlike sheet books batch sheet' books' batch' place =
    (stamp stamp' : List ℕ) → (workers workers' : ℕ) → (x y : Accepted)
    → StandFor (given_read stamp workers sheet books batch) x → StandFor (given_read stamp' workers' sheet' books' batch') y
    → (answer : Detail) × (answer_at x place ≡ Some answer) × (answer_at y place ≡ Some answer)

-- ---- why there is none

-- the text of these books isn't a books file
abbrev pub IsNotBooks : Span → Ledger → Type 0
IsNotBooks period L = ¬ IsBooksText (books_text Three period L) period L

-- memory ran out
abbrev pub no_memory : ExcerptFault
no_memory = excerpt.Input (explain.Refused fault.Memory)

-- the books of a ledger aren't written
abbrev pub IsNotWritten : Span → Ledger → ExcerptFault → Type 0
IsNotWritten period L (excerpt.Input f) = f ≡ explain.Refused fault.Memory
IsNotWritten period L excerpt.TooLong = IsNotBooks period L
IsNotWritten period L other = ⊥

-- why the record at a place of a batch has no excerpt: there is none, its header is rejected, or its books are too long. Of a
-- sheet that isn't written only this is said, that it is one of a record with transactions
pub record HasNoTransaction (d : Disputed) : Type 0 where
  pub rejected : Rejected
  pub rejected_is : (request_of d).body ≡ body.Rejected rejected

abbrev pub HasTransactions : Disputed → Type 0
HasTransactions d = IsHeard (request_of d).body

abbrev pub HasLongBooks : Disputed → Type 0
HasLongBooks d = IsNotBooks d.plan.figures.period (excerpt_ledger (request_of d).body d.before)

-- a record of which this holds is at a place of a job
pub record IsAtPlace (sheet books batch : List ℕ) (place : ℕ) (P : Disputed → Type 0) : Type 0 where
  pub disputed : Disputed
  pub disputed_is : IsDisputed sheet books batch place disputed
  pub holds : P disputed

-- a batch without a record at a place
pub record HasNoRecord (sheet books batch : List ℕ) (place : ℕ) : Type 0 where
  pub plan : Plan
  pub period : Span
  pub opening : Ledger
  pub head : Head
  pub details : List Detail
  pub sheet_is : sheet_of_text sheet ≡ Ok plan
  pub books_are : IsBooksText books period opening
  pub batch_is : IsFile batch head details
  pub none : item details place ≡ None

-- the bytes, where they are given, are a response file
abbrev pub HasFile : Option (List ℕ) → Type 0
HasFile response = (file : Option Batch) × IsFileOf response file

-- an input is refused, or else the response file; or all are accepted, and the record has no excerpt
abbrev pub IsNoExcerpt : (sheet books batch : List ℕ) → ℕ → Option (List ℕ) → ExcerptFault → Type 0
IsNoExcerpt sheet books batch place response (excerpt.Input f) = IsNotExplained sheet books batch response f
IsNoExcerpt sheet books batch place response excerpt.NoRecord = HasFile response × HasNoRecord sheet books batch place
IsNoExcerpt sheet books batch place response excerpt.NoTransaction =
    HasFile response × IsAtPlace sheet books batch place HasNoTransaction
IsNoExcerpt sheet books batch place response excerpt.TooLong =
    HasFile response × IsAtPlace sheet books batch place HasLongBooks
IsNoExcerpt sheet books batch place response excerpt.Unwritten =
    HasFile response × IsAtPlace sheet books batch place HasTransactions

-- ---- a job that was read

-- the batch was read from some bytes
abbrev pub IsFileSomewhere : Batch → Type 0
IsFileSomewhere b = (bytes : List ℕ) × IsFile bytes b.head b.details

-- a record with this detail, on a ledger
abbrev pub disputed_on : Plan → Head → Detail → Ledger → Disputed
disputed_on plan head detail before = record { plan = plan; head = head; detail = detail; before = before }

-- the record with this detail of a batch on opening books, at a place
abbrev pub disputed_at : Plan → Head → List Detail → Ledger → ℕ → Detail → Disputed
disputed_at plan head details opening place detail =
    disputed_on plan head detail (ledger_at head.lot plan (transmissions_of plan.figures.door details) opening place)

-- the record at a place of this batch has the excerpt
pub record IsExcerptIn (plan : Plan) (head : Head) (details : List Detail) (opening : Ledger) (place : ℕ) (file : Option Batch)
    (e : Excerpt) : Type 0 where
  pub detail : Detail
  pub detail_is : item details place ≡ Some detail
  pub excerpt_is : IsExcerptOf place (disputed_at plan head details opening place detail) file e

-- a record of this batch is at a place, and this holds of it
pub record IsThere (plan : Plan) (head : Head) (details : List Detail) (opening : Ledger) (place : ℕ) (P : Disputed → Type 0)
    : Type 0 where
  pub detail : Detail
  pub detail_is : item details place ≡ Some detail
  pub holds : P (disputed_at plan head details opening place detail)

-- why the record at a place of this batch has none; out of memory may stand in the place of any answer
abbrev pub HasNone : Plan → Head → List Detail → Ledger → ℕ → ExcerptFault → Type 0
HasNone plan head details opening place (excerpt.Input f) = f ≡ explain.Refused fault.Memory
HasNone plan head details opening place excerpt.NoRecord = item details place ≡ None
HasNone plan head details opening place excerpt.NoTransaction = IsThere plan head details opening place HasNoTransaction
HasNone plan head details opening place excerpt.TooLong = IsThere plan head details opening place HasLongBooks
HasNone plan head details opening place excerpt.Unwritten = IsThere plan head details opening place HasTransactions

-- why a record with transactions has none
abbrev pub HasNoneOf : Disputed → ExcerptFault → Type 0
HasNoneOf d (excerpt.Input f) = f ≡ explain.Refused fault.Memory
HasNoneOf d excerpt.TooLong = HasLongBooks d
HasNoneOf d excerpt.Unwritten = HasTransactions d
HasNoneOf d other = ⊥

-- a sheet isn't written: memory ran out, or no more is said than this
abbrev pub IsNoSheet : ExcerptFault → Type 0
IsNoSheet (excerpt.Input f) = f ≡ explain.Refused fault.Memory
IsNoSheet excerpt.Unwritten = Unit {0}
IsNoSheet other = ⊥

-- the three texts aren't made: memory ran out, the books are too long, or the sheet isn't written
abbrev pub IsNotMade : Span → Ledger → ExcerptFault → Type 0
IsNotMade period L (excerpt.Input f) = f ≡ explain.Refused fault.Memory
IsNotMade period L excerpt.TooLong = IsNotBooks period L
IsNotMade period L excerpt.Unwritten = Unit {0}
IsNotMade period L other = ⊥
