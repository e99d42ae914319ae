-- Meaning: a job as what it gives a run, and an output as its texts.
use Rattle.std.specs.Prelude.{◌≡◌, ℕ, List}
use Rattle.std.specs.List.{flat_map}
use Rattle.std.specs.Vec.{vec_items}
use Rattle.std.specs.declared.vec.Vec.{Vec}
use Rattle.rx_batch.specs.Pieces.{StandsFor}
use Rattle.rx_io.specs.Pieces.{text_of}
use Rattle.rx_io.specs.declared.files.Outputs.{Outputs}
use Rattle.rx_io.specs.declared.pieces.Pieces.{Pieces}
use Rattle.rx_switch.specs.declared.accepting.Accepted.{Accepted as AcceptedInputs}
use Rattle.rx_switch.specs.declared.accepting.BatchFile.{BatchFile}
use Rattle.rx_switch.specs.declared.accepting.BatchFile.TheVariants as file
use Rattle.rx_switch.specs.declared.accepting.BooksFile.{BooksFile}
use Rattle.rx_switch.specs.declared.accepting.BooksFile.TheVariants as opening
use Rattle.rx_switch.specs.declared.job.Job.{Job}
use Rattle.rx_switch.specs.declared.job.Output.{Output}
use Rattle.rx_switch.specs.Output.{Accepted, Given, Texts}

abbrev pub given_by : Job → Given
given_by job =
    record {
      sheet = job.sheet.now;
      books = job.books.now;
      batch = job.batch.now;
      stamp = job.stamp.now;
      workers = job.workers;
    }

-- the same of texts that were read
abbrev pub given_read : List ℕ → ℕ → List ℕ → List ℕ → List ℕ → Given
given_read stamp workers sheet books batch =
    record { sheet = sheet; books = books; batch = batch; stamp = stamp; workers = workers }

abbrev pub texts_in : Output → Texts
texts_in output =
    record {
      response = output.response.items;
      books = output.books.items;
      settlement = output.settlement.items;
    }

-- the same of an output in pieces
abbrev pub texts_in_pieces : {W X Y Z : Type 0} → Outputs (Vec (Vec ℕ X) Y) (Vec Pieces W) (Vec ℕ Z) → Texts
texts_in_pieces output =
    record {
      response = flat_map vec_items output.response.items;
      books = flat_map text_of output.books.items;
      settlement = output.settlement.items;
    }

-- the bytes of a batch file that is here, or was fed to pieces
abbrev pub HasBytes : BatchFile → List ℕ → Type 0
HasBytes (file.Bytes bytes) text = bytes.now ≡ text
HasBytes (file.Fed pieces) text = StandsFor pieces text

-- the bytes of the opening books, which are lent or given away
abbrev pub books_bytes : BooksFile → List ℕ
books_bytes (opening.Lent text) = text.now
books_bytes (opening.Given text) = text.items

-- what the inputs stand for, once they are read
abbrev pub accepted_of : AcceptedInputs → Accepted
accepted_of accepted =
    record {
      stamp = accepted.stamp;
      plan = accepted.sheet;
      period = accepted.books.period;
      opening = accepted.books.ledger;
      head = accepted.batch.head;
      details = accepted.batch.details;
    }
