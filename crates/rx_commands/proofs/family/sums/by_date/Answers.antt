use Rattle.std.proofs.Common.{◌≡◌, ap, map, rules, subst, sym, ◌∙◌}
use Rattle.std.proofs.lemmas.List.Sorted.{answers_always}
use Rattle.rx_commands.specs.FamilySums.{IsByDate, claim_row, claims_of, row_date}
use Rattle.rx_commands.proofs.FamilyClaims.{claims_rows}
use Rattle.rx_commands.proofs.family.sums.by_date.Goals as goal

pub returns : goal.returns
returns c =
    let limits = c.args.limits in
    let period = c.args.period in
    let sorted = c.sort_by_key.new.self.items in
    let is : c.in_ok-claims.claims.items ≡ claims_of limits period sorted = c.in_ok-claims.ensures ∙ ap (claims_of limits period) c.deref.ensures.value in
    let rows : map claim_row c.in_ok-claims.claims.items ≡ sorted = ap (map claim_row) is ∙ claims_rows limits period sorted in
    let by_date : IsByDate c.args.rows.items sorted =
    record {
      all = c.sort_by_key.ensures.permutation;
      dates = c.in_ok-sort_by_key.ensures.sorted row_date (answers_always _ _ _ (λ f a r g h. search rules));
      days = c.sort_by_key.ensures.stable row_date (answers_always _ _ _ (λ f a r g h. search rules));
    } in
    record {
      by_date = subst (IsByDate c.args.rows.items) (sym rows) by_date;
      sums = is ∙ ap (claims_of limits period) (sym rows);
    }
