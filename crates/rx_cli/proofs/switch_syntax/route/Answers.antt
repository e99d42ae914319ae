use Rattle.rx_cli.proofs.switch_syntax.route.Goals as goal

pub returns : goal.returns
returns c =
    c.takes_switch_watch.ensures _ (c.flag.ensures _ (c.takes_switch_outputs.ensures _ (c.takes_route_options-options.ensures _
    (c.takes_switch_inputs.ensures _ c.draft-route.ensures))))
