-- Meaning: what goes with an excerpt, for people.
use Rattle.std.specs.Prelude.{ℕ, List, [], ◌++◌, Option, Some, None}
use Rattle.std.specs.Fmt.{decimal}
use Rattle.rx_explain_text.specs.declared.compared.Compared.{Compared}
use Rattle.rx_explain_text.specs.declared.compared.Compared.TheVariants.{Same, Differs, Absent, OtherBatch}
use Rattle.rx_fields.specs.Digits.{digits_text}
use Rattle.rx_fields.specs.Numbered.{LotParts}
use Rattle.rx_print.specs.Escape.{escaped}
use Rattle.rx_print.specs.Said.{say}
use Rattle.rx_print.specs.declared.style.Style.TheVariants.{Terminal}

unfoldable pub front_words : LotParts → ℕ → List ℕ
front_words lot place =
    say "Record " ++ (decimal place ++ (say " of batch " ++ (digits_text 7 lot.number
    ++ (say ", with the members and claims of the families that it names, as they stood before it.\n"
    ++ say "The records before it are empty: each is rejected and changes nothing.\n\n"))))

unfoldable pub commands_words : ℕ → List ℕ
commands_words place =
    say "rxbatch run --sheet sheet.toml --books books.txt --batch batch.bin --response response.bin"
    ++ (say " --books-out books-after.txt --settlement settlement.txt\n"
    ++ (say "rxbatch explain --sheet sheet.toml --books books.txt --batch batch.bin --record "
    ++ (decimal place ++ say "\n\n")))

unfoldable pub answer_words : List ℕ → List ℕ
answer_words text =
    say "The answer to the record in response.bin has to be, after its reference:\n" ++ (escaped Terminal text ++ say "\n")

unfoldable pub compared_words : Option Compared → List ℕ
compared_words None = []
compared_words (Some Same) = say "\nThe response file has this very answer.\n"
compared_words (Some Differs) = say "\nThe response file has another answer.\n"
compared_words (Some Absent) = say "\nThe response file has no such record.\n"
compared_words (Some (OtherBatch lot)) = say "\nThe response file answers another batch.\n"

-- which record it is, how it is run, the answer that has to come out, and what the response file has there
abbrev pub readme_text : LotParts → ℕ → List ℕ → Option Compared → List ℕ
readme_text lot place text compared =
    front_words lot place ++ (commands_words place ++ (answer_words text ++ compared_words compared))
