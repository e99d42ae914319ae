use Rattle.std.proofs.Common.{ap, ◌∙◌}
use Rattle.rx_fields.specs.Numbered.{Span}
use Rattle.rx_ledger.specs.Ledger.{rows_of}
use Rattle.rx_ledger.specs.Sums.{deductible_in, family_deductible_in, out_of_pocket_in}
use Rattle.rx_ledger.specs.declared.member.MemberKey.{MemberKey}
use Rattle.rx_ledger.specs.declared.share.Used.{Used}
use Rattle.rx_serial.proofs.Places.{member_at_key}
use Rattle.rx_serial.proofs.in_order.InOrderBasis.used.Goals as goal

pub returns : goal.returns
returns c =
    let kept = c.self.inside.books.books in
    let L = kept.ledger in
    let at = rw (← c.self.view_is) at c.in-Some.ensures.found in
    let listed = member_at_key L.members c.args.key.now c.in-Some.holder at in
    let told = rw listed.at at c.used_at.ensures in
    let used : Span → MemberKey → Used = λ period k.
    record {
      deductible = deductible_in period (rows_of L k.family) k.person;
      out_of_pocket = out_of_pocket_in period (rows_of L k.family);
      family_deductible = family_deductible_in period (rows_of L k.family);
    } in
    let own = rw (← c.self.view_is) at c.requires.period in
    rw (← c.self.view_is) (told ∙ ap (used kept.period) listed.keyed ∙ ap (λ p. used p c.args.key.now) own)
