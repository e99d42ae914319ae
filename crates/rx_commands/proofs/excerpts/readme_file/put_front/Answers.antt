use Rattle.std.proofs.Common.{◌≡◌, ◌∙◌, ap, arith}
use Rattle.std.specs.Fmt.{decimal}
use Rattle.rx_commands.specs.ExcerptReadme.{front_words}
use Rattle.rx_fields.specs.Digits.{digits_text}
use Rattle.rx_print.specs.Said.{say}
use Rattle.rx_print.proofs.Written.{as_text, six}
use Rattle.rx_commands.proofs.excerpts.readme_file.put_front.Goals as goal

pub returns : goal.returns
unfolding front_words
returns c =
    let place : c.from-2.result ≡ c.args.place = omega arith in
    let batch : c.from.result ≡ c.args.lot.number = omega arith in
    six c.args.page.now c.say.new.self c.number-2.new.self c.say-2.new.self c.put.new.self c.say-3.new.self c.say-4.new.self
    (say "Record ")
    (decimal c.args.place)
    (say " of batch ")
    (digits_text 7 c.args.lot.number)
    (say ", with the members and claims of the families that it names, as they stood before it.\n")
    (say "The records before it are empty: each is rejected and changes nothing.\n\n")
    c.say.ensures
    (as_text c.say.new.self c.number-2.new.self (ap decimal place) c.number-2.ensures)
    c.say-2.ensures
    (as_text c.say-2.new.self c.put.new.self (c.digits_write-number.ensures.text ∙ ap (digits_text 7) batch) c.put.ensures)
    c.say-3.ensures
    c.say-4.ensures
