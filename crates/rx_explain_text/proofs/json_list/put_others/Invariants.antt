-- The items so far.
use Rattle.std.proofs.Common.{take}
use Rattle.std.specs.List.{flat_map}
use Rattle.rx_explain_text.specs.Json.{after_comma}
use Rattle.rx_print.specs.Page.{Writes}
use Rattle.rx_explain_text.proofs.json_list.put_others.Given as goal

abbrev pub invariant-loop-item : goal.invariant-loop-item
invariant-loop-item g l =
    Writes l.fn.page l.page (flat_map (after_comma (g.W.Teller.json l.teller)) (take l.item-index l.items))
