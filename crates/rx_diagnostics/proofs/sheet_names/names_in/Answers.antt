use Rattle.std.proofs.Common.{◌++◌, ap, append_assoc, string_bytes, sym, ◌∙◌}
use Rattle.toml.specs.View.{members_view}
use Rattle.rx_diagnostics.specs.KnownKeys.{texts_of}
use Rattle.rx_diagnostics.specs.SheetNames.{names_in, unless_known}
use Rattle.rx_diagnostics.proofs.sheet_names.names_in.Goals as goal

pub loop-name-preserved : goal.loop-name-preserved
loop-name-preserved c =
    let known = texts_of c.args.known.now in
    let before = texts_of c.loop-name.names.items in
    let own = unless_known known (string_bytes c.in-Some.name.now) in
    let rest = names_in known (members_view c.next.new.self) in
    let turn = ap (λ es. before ++ names_in known (members_view es)) c.in-Some.ensures.steps in
    let put = rw c.as_str.ensures.value at c.in_ok-put_unknown.ensures in
    ap (λ names. names ++ rest) put ∙ append_assoc before own rest ∙ sym turn ∙ c.loop-name.invariant
