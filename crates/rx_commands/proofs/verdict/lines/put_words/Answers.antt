use Rattle.std.proofs.Common.{◌+◌, ap, codes}
use Rattle.std.specs.Fmt.{decimal}
use Rattle.rx_print.proofs.Written.{as_text, eight}
use Rattle.rx_commands.specs.Verdict.{first_of, word_of}
use Rattle.rx_commands.proofs.verdict.lines.put_words.Goals as goal

pub returns : goal.returns
returns c =
    eight c.args.page.now c.put.new.self c.put-2.new.self c.put-3.new.self c.put-4.new.self c.number.new.self
    c.put-5.new.self c.number-2.new.self c.put-6.new.self
    c.args.name.now
    (codes ": ")
    (word_of c.args.cut)
    (codes " ")
    (decimal (c.args.number + first_of c.args.cut))
    (codes " differs from byte ")
    (decimal c.args.at)
    (codes ": file ")
    c.put.ensures
    c.put-2.ensures
    (as_text c.put-2.new.self c.put-3.new.self c.word.ensures c.put-3.ensures)
    c.put-4.ensures
    (as_text c.put-4.new.self c.number.new.self (ap (λ n. decimal (c.args.number + n)) c.first.ensures.value) c.number.ensures)
    c.put-5.ensures
    c.number-2.ensures
    c.put-6.ensures
