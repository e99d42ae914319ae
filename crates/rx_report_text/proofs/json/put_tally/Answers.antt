use Rattle.std.specs.Fmt.{signed_decimal}
use Rattle.rx_print.proofs.Written.{two}
use Rattle.rx_settle.specs.Settlement.{net}
use Rattle.rx_report_text.specs.Json.{counts_json, tally_json}
use Rattle.rx_report_text.proofs.json.put_tally.Goals as goal

pub returns : goal.returns
unfolding tally_json
returns c =
    two c.args.page.now c.put_counts.new.page c.put_net_cents.new.page
    (counts_json c.args.tally.now)
    (signed_decimal (net c.args.tally.now))
    c.put_counts.ensures
    c.put_net_cents.ensures
