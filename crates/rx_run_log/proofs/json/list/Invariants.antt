use Rattle.std.proofs.Common.{◌≡◌, map, take}
use Rattle.serde_json.specs.View.{view}
use Rattle.rx_run_log.specs.Log.{code_data}
use Rattle.rx_run_log.proofs.json.list.Given as goal

abbrev pub invariant-loop-code : goal.invariant-loop-code
invariant-loop-code l = map view l.list.items ≡ map code_data (take l.code-index l.codes)
