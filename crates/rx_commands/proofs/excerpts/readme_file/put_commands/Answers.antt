use Rattle.std.proofs.Common.{◌≡◌, ap, arith}
use Rattle.std.specs.Fmt.{decimal}
use Rattle.rx_commands.specs.ExcerptReadme.{commands_words}
use Rattle.rx_print.specs.Said.{say}
use Rattle.rx_print.proofs.Written.{as_text, five}
use Rattle.rx_commands.proofs.excerpts.readme_file.put_commands.Goals as goal

pub returns : goal.returns
unfolding commands_words
returns c =
    let place : c.from.result ≡ c.args.place = omega arith in
    five c.args.page.now c.say.new.self c.say-2.new.self c.say-3.new.self c.number.new.self c.say-4.new.self
    (say "rxbatch run --sheet sheet.toml --books books.txt --batch batch.bin --response response.bin")
    (say " --books-out books-after.txt --settlement settlement.txt\n")
    (say "rxbatch explain --sheet sheet.toml --books books.txt --batch batch.bin --record ")
    (decimal c.args.place)
    (say "\n\n")
    c.say.ensures
    c.say-2.ensures
    c.say-3.ensures
    (as_text c.say-3.new.self c.number.new.self (ap decimal place) c.number.ensures)
    c.say-4.ensures
