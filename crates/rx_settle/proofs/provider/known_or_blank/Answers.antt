-- a field that names a provider is its name and blanks
use Rattle.std.proofs.Common.{rules, ◌≡◌, length, sym, ap, ◌∙◌}
use Rattle.std.specs.Result.{is_ok}
use Rattle.rx_settle.proofs.Names.{field_known}
use Rattle.rx_settle.proofs.provider.known_or_blank.Goals as goal

pub returns-then-is_ok : goal.returns-then-is_ok
returns-then-is_ok c =
    let whole : length c.args.field ≡ 15 = search rules in
    field_known c.args.field whole (sym (ap is_ok c.new.ensures) ∙ sym c.is_ok.ensures.value ∙ c.if-is_ok.true)
