use Rattle.std.proofs.Common.{◌≡◌, ℕ, ◌+◌, length, refl, sym, ap, ap₂, subst, ◌∙◌, arith, rules}
use Rattle.rx_sorted.specs.Ascending.{IsAscending}
use Rattle.rx_fields.specs.Order.{id_cmp, key_cmp}
use Rattle.rx_ledger.specs.Members.{member_cmp, member_key}
use Rattle.rx_ledger.specs.Rows.{row_key}
use Rattle.rx_books_text.specs.LineText.{ended, head_text}
use Rattle.rx_books_text.specs.Printed.{member_lines, total_family}
use Rattle.rx_books_scan.specs.Lists.{claim_lengths, lines_in, lines_text}
use Rattle.rx_books_scan.proofs.lists.lists_of.Goals as goal

pub returns-clause-made : goal.returns-clause-made
returns-clause-made c =
    let w = c.in_ok-members.field-0 in
    record {
      head = refl;
      lines = (λ j. lines_in (c.in-Ok.ensures.value j) w.members.deductibles.items (c.in-Ok-from_runs.ensures.value j)
          (c.in-Ok-from_vec.ensures.value j))
          ∙ c.in_ok-members.ensures.lines;
      one_each = w.members.one_each ∙ ap length (sym c.in-Ok.ensures.value);
      members_rise = subst (IsAscending member_cmp member_key) c.members.view_is c.members.invariant;
      rows_rise = subst (IsAscending key_cmp row_key) c.rows.view_is c.rows.invariant.ascending;
      totals_rise = subst (IsAscending id_cmp total_family) c.totals.view_is c.totals.invariant;
      few = omega arith;
    }

pub returns-clause-measured : goal.returns-clause-measured
returns-clause-measured c =
    let w = c.in_ok-members.field-0 in
    let long = c.in_ok-members.ensures.measured c.args.head.version c.requires.parts in
    let v = c.args.head.version in
    let sum : c.in_ok-above.above ≡ c.args.head_bytes + w.members.bytes = search rules in
    record {
      begin = sum ∙ ap₂ (λ (a b : ℕ). a + b) c.requires.head long.members
          ∙ ap (λ ms. length (ended (head_text c.args.head)) + length (lines_text v (member_lines ms w.members.deductibles.items)))
          (sym c.in-Ok.ensures.value);
      each = long.claims ∙ ap (claim_lengths v) (sym c.in-Ok-from_runs.ensures.value);
    }
