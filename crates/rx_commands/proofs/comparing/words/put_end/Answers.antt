use Rattle.std.proofs.Common.{codes, ◌∷◌, []}
use Rattle.std.specs.Fmt.{decimal}
use Rattle.rx_print.specs.Money.{signed_dollars}
use Rattle.rx_print.proofs.Written.{six}
use Rattle.rx_commands.specs.Changes.{cents_of}
use Rattle.rx_commands.specs.ComparedText.{nets_words, words_end}
use Rattle.rx_commands.proofs.comparing.words.put_end.Goals as goal

pub returns : goal.returns
unfolding words_end
returns c =
    six c.args.page.now c.number.new.self c.put.new.self c.put_nets.new.page c.put-2.new.self
    c.put_difference.new.page c.put-3.new.self
    (decimal c.args.change.now.count)
    (codes " differ; net ")
    (nets_words c.args.given.now c.args.changed.now)
    (codes ", difference ")
    (signed_dollars (cents_of c.args.change.now))
    (10 ∷ [])
    c.number.ensures
    c.put.ensures
    c.put_nets.ensures
    c.put-2.ensures
    c.put_difference.ensures
    c.put-3.ensures
