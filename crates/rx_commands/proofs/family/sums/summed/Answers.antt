use Rattle.std.proofs.Common.{◌≡◌, ◌≤◌, ◌<◌, ◌+◌, ◌*◌, ◌^◌, ◌++◌, ◌∷◌, [], length, take, ap, sym, subst, ◌∙◌, arith}
use Rattle.std.proofs.lemmas.List.{take_more}
use Rattle.rx_ledger.specs.Sums.{counted, deductible_in, deductible_paid, family_deductible_in, out_of_pocket_in, paid_by_patient}
use Rattle.rx_commands.specs.declared.family.sums.Claim.{Claim}
use Rattle.rx_commands.specs.FamilySums.{claim_after, claims_of}
use Rattle.rx_commands.proofs.FamilyClaims.{claim_built, claims_more, family_more, persons_more, persons_small, pocket_more}
use Rattle.rx_commands.proofs.family.sums.summed.Goals as goal

pub loop-row-preserved : goal.loop-row-preserved
loop-row-preserved c =
    let limits = c.args.limits in
    let period = c.args.period in
    let rows = c.args.rows.now in
    let r = c.row-item.result in
    let at = c.loop-row.row-index in
    let so_far = c.loop-row.invariant in
    let in_range : at < length rows = omega arith in
    let before = take at rows in
    let more : before ++ r ∷ [] ≡ take (at + 1) rows =
    sym (take_more rows at r in_range ∙ ap (λ x. before ++ x ∷ []) (sym c.row-item.is)) in
    let counts : c.from-cents.result ≡ counted period deductible_paid r = c.from-cents.ensures ∙ c.counted_deductible.ensures in
    let pays : c.from-paid.result ≡ counted period paid_by_patient r = c.from-paid.ensures ∙ c.counted_out_of_pocket.ensures in
    let own : c.of-own.result ≡ deductible_in period before r.person = c.of-own.ensures ∙ so_far.persons r.person in
    let small : c.from-cents.result ≤ 2 ^ 64 = omega arith in
    let own_small : c.of-own.result ≤ at * 2 ^ 64 = subst (λ n. n ≤ at * 2 ^ 64) (sym c.of-own.ensures) (so_far.persons_small r.person) in
    let built = claim_built period before r limits c.of-own.result c.from-cents.result c.from-paid.result
    c.loop-row.family_deductible c.loop-row.out_of_pocket own counts pays so_far.family so_far.pays in
    let claim : Claim = record {
      row = r;
      deductible = c.running_of.result;
      family_deductible = c.running_of-in-loop-row.result;
      out_of_pocket = c.running_of-in-loop-row-2.result;
    } in
    let is_built : claim ≡ claim_after limits period before r =
    (λ i. record {
      row = r;
      deductible = c.running_of.ensures i;
      family_deductible = c.running_of-in-loop-row.ensures i;
      out_of_pocket = c.running_of-in-loop-row-2.ensures i;
    }) ∙ built in
    record {
      claims =
          c.in_ok-push.ensures.items
          ∙ ap (λ list. list ++ claim ∷ []) so_far.claims
          ∙ ap (λ x. claims_of limits period before ++ x ∷ []) is_built
          ∙ sym (claims_more limits period before r) ∙ ap (claims_of limits period) more;
      persons = λ p.
          c.in_ok-set.ensures p
          ∙ persons_more period before r c.of-own.result c.from-cents.result _ own counts p (so_far.persons p)
          ∙ ap (λ list. deductible_in period list p) more;
      family = ap (λ n. n + c.from-cents.result) so_far.family ∙ ap (λ n. family_deductible_in period before + n) counts
          ∙ sym (family_more period before r) ∙ ap (family_deductible_in period) more;
      pays = ap (λ n. n + c.from-paid.result) so_far.pays ∙ ap (λ n. out_of_pocket_in period before + n) pays
          ∙ sym (pocket_more period before r) ∙ ap (out_of_pocket_in period) more;
      persons_small = λ p.
          subst (λ n. n ≤ (at + 1) * 2 ^ 64) (sym (c.in_ok-set.ensures p))
          (persons_small period before r c.of-own.result c.from-cents.result _ ((at + 1) * 2 ^ 64) (omega (arith, own_small, small))
          (omega (arith, so_far.persons_small p)) p);
      family_small = omega arith;
      pays_small = omega arith;
    }
