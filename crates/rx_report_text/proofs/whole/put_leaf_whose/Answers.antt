use Rattle.std.proofs.Common.{codes}
use Rattle.rx_report_text.specs.Pages.{provider_text}
use Rattle.rx_report_text.specs.Whole.{leaf_portion_text}
use Rattle.rx_print.proofs.Written.{three}
use Rattle.rx_report_text.proofs.whole.put_leaf_whose.Goals as goal

pub returns : goal.returns
returns c =
    three c.args.page.now c.markup.new.self c.put_provider_text.new.page c.put_leaf_portion.new.page
    (codes ", only provider ")
    (provider_text c.args.provider.now)
    (leaf_portion_text c.args.portion)
    c.markup.ensures
    c.put_provider_text.ensures
    c.put_leaf_portion.ensures
