-- The text of the lines that are kept, with the account of just these.
use Rattle.std.proofs.Common.{◌≡◌, ◌∙◌, ◌==◌, IfOk, List, ap, length, map, not, subst}
use Rattle.std.specs.List.{filter}
use Rattle.std.proofs.lemmas.Result.{IfOk-weaker}
use Rattle.rx_report.specs.Accounts.{IsAccount, is_in, parts_of}
use Rattle.rx_report.specs.Groups.{grouped}
use Rattle.rx_report.specs.declared.line.Line.{Line}
use Rattle.rx_commands.proofs.Accounted.{counted_up}
use Rattle.rx_commands.specs.Tiers.{table_of_text}
use Rattle.rx_commands.specs.Forms.{IsText, kept_of}
use Rattle.rx_commands.proofs.report_forms.text_in_form.Goals as goal

pub returns : goal.returns
returns c =
    let p = c.args.portion in
    let r = c.args.report.now in
    let account = c.in_ok-account.account in
    let groups = c.in_ok-groups.groups in
    let sections = map parts_of account.sections.items in
    let lines : c.in_ok-kept.kept.items ≡ kept_of p r = c.in_ok-kept.ensures ∙ ap (filter (is_in p)) c.deref.ensures.value in
    let grouped_so : groups ≡ grouped (kept_of p r) = c.in_ok-groups.ensures ∙ ap grouped (c.deref-2.ensures.value ∙ lines) in
    let of_lines = subst (λ (ls : List Line). IsAccount p r.settled ls groups sections account.total)
    (c.deref-3.ensures.value ∙ lines) c.in_ok-account.ensures in
    let of_groups = subst (λ gs. IsAccount p r.settled (kept_of p r) gs sections account.total) grouped_so of_lines in
    let sums = counted_up p r sections account.total c.requires.counted of_groups in
    IfOk-weaker c.with_lines.result _ _
    (λ printed h. record {
      in_form = record {
        account = account;
        account_is = of_groups;
        adds_up = sums;
        text_is = subst (λ (ls : List Line). IsText p c.args.form (table_of_text c.args.sheet.now) r ls account
            printed.text.items)
            (c.deref-4.ensures.value ∙ lines)
            (subst (λ text. IfOk text (λ t. IsText p c.args.form (table_of_text c.args.sheet.now) r
            c.deref-4.result.now account t.items)) h.1 c.text_of_account-text.ensures);
      };
      lines_are = h.0 ∙ ap (λ (ls : List Line). not (length ls == 0)) (c.deref-5.ensures.value ∙ lines);
    }) c.with_lines.ensures
