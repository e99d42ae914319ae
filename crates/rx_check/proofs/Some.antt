-- What is found of some of the inputs of a run says how the run looks at them.
use Rattle.std.proofs.Common.{◌≡◌, List, ℕ, Ok, Err, Result, Some, None, Option, MatchOption, ap, inl, inr, refl, subst}
use Rattle.std.specs.Prelude.{IfSome}
use Rattle.std.specs.Result.{result_err}
use Rattle.std.specs.Option.{option_map}
use Rattle.rx_batch.specs.Reading.{batch_of}
use Rattle.rx_batch.specs.declared.batch.Batch.{Batch}
use Rattle.rx_batch.specs.declared.fault.BatchFault.{BatchFault}
use Rattle.rx_batch.proofs.Readings.{batch_is_file, fault_is_there}
use Rattle.rx_books_store.specs.Figures.{books_of}
use Rattle.rx_books_store.specs.LedgerBooks.{LedgerBooks}
use Rattle.rx_books_store.proofs.BooksFile.{says}
use Rattle.rx_books_text.specs.declared.fault.BooksFault.{BooksFault}
use Rattle.rx_fields.specs.declared.stamp.Stamp.{Stamp}
use Rattle.rx_ledger.specs.Plan.{Plan}
use Rattle.rx_sheet.specs.SheetText.{sheet_of_text}
use Rattle.rx_sheet.specs.declared.fault.SheetFault.{SheetFault}
use Rattle.rx_switch.specs.Output.{Given, IsRefused, stamp_for}
use Rattle.rx_switch.specs.Output.IsRefused.{sheet as refused_sheet, books as refused_books, batch as refused_batch}
use Rattle.rx_switch.specs.declared.fault.SwitchFault.{SwitchFault}
use Rattle.rx_switch.specs.declared.fault.SwitchFault.TheVariants as fault
use Rattle.rx_check.specs.Found.{batch_fault, books_fault, first_fault}
use Rattle.rx_check.specs.Refusals.{AreAccepted, IsRefusedUnless, as_refusal}
use Rattle.rx_check.proofs.Runs.{Says}

-- the fault of an input that is looked at
abbrev pub if_given : {F : Type 0} → Option (List ℕ) → Option F → Option F
if_given None f = None
if_given (Some text) f = f

refused_so : (books : Option (List ℕ)) (g : Given) (f : SwitchFault) → IsRefused g f → IsRefusedUnless books g f
refused_so (Some text) g f is = is
refused_so None g f is = inl is

-- the first fault with which the inputs that are looked at are read is the run's; if there is none it accepts them
some_run : (books batch : Option (List ℕ)) (g : Given) (s : Stamp) → stamp_for g.workers g.stamp ≡ Ok s
    → (a : Result Plan SheetFault) → sheet_of_text g.sheet ≡ a
    → (b : Result LedgerBooks BooksFault) → books_of g.books ≡ b
    → (c : Result Batch BatchFault) → batch_of g.batch ≡ c
    → MatchOption
    (option_map as_refusal (first_fault (result_err a) (if_given books (result_err b)) (if_given batch (result_err c))))
    (AreAccepted books batch g) (IsRefusedUnless books g)
some_run books batch g s stamp (Err f) sheet b is c has =
    refused_so books g (fault.Sheet f) (refused_sheet s f stamp sheet)
some_run (Some text) batch g s stamp (Ok plan) sheet (Err f) is c has =
    refused_books s plan f stamp sheet (subst (Says g.books) is (says g.books))
some_run (Some text) (Some file) g s stamp (Ok plan) sheet (Ok b) is (Err f) has =
    refused_batch s plan b.period b.ledger f stamp sheet (subst (Says g.books) is (says g.books))
    (fault_is_there g.batch f has)
some_run (Some text) (Some file) g s stamp (Ok plan) sheet (Ok b) is (Ok c) has =
    record {
      sheet = (plan, sheet);
      books_are = (b.period, b.ledger, subst (Says g.books) is (says g.books));
      batch_is = (c.head, c.details, batch_is_file g.batch c has);
    }
some_run (Some text) None g s stamp (Ok plan) sheet (Ok b) is c has =
    record {
      sheet = (plan, sheet);
      books_are = (b.period, b.ledger, subst (Says g.books) is (says g.books));
      batch_is = tt;
    }
some_run None (Some file) g s stamp (Ok plan) sheet (Err e) is (Err f) has =
    inr (e, refused_books s plan e stamp sheet (subst (Says g.books) is (says g.books)))
some_run None (Some file) g s stamp (Ok plan) sheet (Ok b) is (Err f) has =
    inl
    (refused_batch s plan b.period b.ledger f stamp sheet (subst (Says g.books) is (says g.books))
    (fault_is_there g.batch f has))
some_run None (Some file) g s stamp (Ok plan) sheet b is (Ok c) has =
    record { sheet = (plan, sheet); books_are = tt; batch_is = (c.head, c.details, batch_is_file g.batch c has) }
some_run None None g s stamp (Ok plan) sheet b is c has =
    record { sheet = (plan, sheet); books_are = tt; batch_is = tt }

-- the same of faults that are those with which the inputs are read
pub found_runs_of_some : (books batch : Option (List ℕ)) (g : Given) (s : Stamp) → stamp_for g.workers g.stamp ≡ Ok s
    → (a : Option SheetFault) (b : Option BooksFault) (c : Option BatchFault)
    → a ≡ result_err (sheet_of_text g.sheet) → b ≡ if_given books (result_err (books_of g.books))
    → c ≡ if_given batch (result_err (batch_of g.batch))
    → MatchOption (option_map as_refusal (first_fault a b c)) (AreAccepted books batch g) (IsRefusedUnless books g)
found_runs_of_some books batch g s stamp a b c of_sheet of_books of_batch =
    rw (of_sheet, of_books, of_batch)
    (some_run books batch g s stamp (sheet_of_text g.sheet) refl (books_of g.books) refl (batch_of g.batch) refl)

pub books_are_given : (books : Option (List ℕ)) (text : List ℕ) → IfSome books (λ t. t ≡ text)
    → books_fault books ≡ if_given books (result_err (books_of text))
books_are_given None text is = refl
books_are_given (Some given) text is = ap (λ (t : List ℕ). result_err (books_of t)) is

pub batch_is_given : (batch : Option (List ℕ)) (text : List ℕ) → IfSome batch (λ t. t ≡ text)
    → batch_fault batch ≡ if_given batch (result_err (batch_of text))
batch_is_given None text is = refl
batch_is_given (Some given) text is = ap (λ (t : List ℕ). result_err (batch_of t)) is
