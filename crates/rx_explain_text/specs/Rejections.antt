-- Text: what is said of a record whose header is rejected.
use Rattle.std.specs.Prelude.{ℕ, List, [], ◌++◌, Option, Some, None, codes}
use Rattle.std.specs.Fmt.{decimal}
use Rattle.rx_d0_values.specs.declared.transmission.Rejected.{Rejected}
use Rattle.rx_explain_text.specs.Codes.{code_lines, shown}
use Rattle.rx_explain_text.specs.RequestField.{field_bytes}
use Rattle.rx_explain_text.specs.Said.{said, say}
use Rattle.rx_explain_text.specs.declared.compared.Compared.{Compared}
use Rattle.rx_explain_text.specs.declared.compared.Compared.TheVariants.{Same, Differs, Absent, OtherBatch}
use Rattle.rx_fields.specs.Digits.{digits_text}
use Rattle.rx_fields.specs.Text.{trimmed}
use Rattle.rx_fields.specs.declared.code.Code.{Code}
use Rattle.rx_fields.specs.declared.code.Code.TheVariants as code
use Rattle.rx_fields.specs.declared.door.Door.{Door}

-- the batch that a response file answers, by the seven digits of its number
unfoldable pub other_batch_text : ℕ → List ℕ
other_batch_text number =
    say " isn't this reply: the response file ANSWERS batch " ++ (digits_text 7 number ++ say "\n")

-- what a response file has at the place of the record
abbrev pub compared_words : Compared → List ℕ
compared_words Same = said (codes " of the response file is this reply, byte for byte\n")
compared_words Differs = said (codes " of the response file DIFFERS from this reply\n")
compared_words Absent = said (codes " isn't there in the response file\n")
compared_words (OtherBatch lot) = other_batch_text lot.number

-- nothing where no file was looked at
abbrev pub compared_line : ℕ → Option Compared → List ℕ
compared_line place None = []
compared_line place (Some c) = say "  record " ++ (decimal place ++ compared_words c)

-- a field as it was sent, without its trailing blanks; nothing if there is none
abbrev pub trimmed_text : Option (List ℕ) → List ℕ
trimmed_text None = []
trimmed_text (Some bytes) = shown (trimmed bytes)

-- a field of the header
unfoldable pub sent_text : List ℕ → Code → List ℕ
sent_text request c = trimmed_text (field_bytes request 0 c)

-- the record with its pharmacy and its date as they were sent
unfoldable pub rejected_line : ℕ → List ℕ → List ℕ
rejected_line place request =
    say "record " ++ (decimal place ++ (say "  HEADER REJECTED, and with it each transaction  pharmacy "
    ++ (sent_text request code.Provider ++ (say "  date "
    ++ (sent_text request code.DateOfService ++ say "\n")))))

-- that line, one for each code, and what the response file has
abbrev pub rejection_words : Door → ℕ → Rejected → List ℕ → Option Compared → List ℕ
rejection_words door place r request c =
    rejected_line place request ++ (code_lines door request 0 r.codes ++ compared_line place c)
