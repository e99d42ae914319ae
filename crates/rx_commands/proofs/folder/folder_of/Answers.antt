-- The pages of the lines that are kept, with the account of just these in the order of nets.
use Rattle.std.proofs.Common.{◌≡◌, ◌∙◌, List, ap, map, subst, sym}
use Rattle.std.specs.List.{filter}
use Rattle.std.proofs.lemmas.List.Sorted.{All-permutation, IsPermutation-map}
use Rattle.std.proofs.lemmas.Result.{IfOk-weaker}
use Rattle.rx_report.proofs.OwnLines.{sections_have_own_lines}
use Rattle.rx_report.specs.Accounts.{IsAccount, is_in, parts_of}
use Rattle.rx_report.specs.Groups.{grouped, provider_of}
use Rattle.rx_report.specs.declared.line.Line.{Line}
use Rattle.rx_settle.specs.Providers.{is_same}
use Rattle.rx_commands.proofs.Accounted.{adds_up}
use Rattle.rx_commands.specs.Folder.{ArePages}
use Rattle.rx_commands.specs.Forms.{kept_of}
use Rattle.rx_commands.specs.Tiers.{table_of_text}
use Rattle.rx_commands.proofs.folder.folder_of.Goals as goal

pub returns : goal.returns
returns c =
    let p = c.args.portion in
    let r = c.args.report.now in
    let first = c.in_ok-account.account in
    let account = c.in_ok-account-2.account in
    let groups = c.in_ok-groups.groups in
    let sections = map parts_of first.sections.items in
    let lines : c.in_ok-kept.kept.items ≡ kept_of p r = c.in_ok-kept.ensures ∙ ap (filter (is_in p)) c.deref.ensures.value in
    let grouped_so : groups ≡ grouped (kept_of p r) = c.in_ok-groups.ensures ∙ ap grouped (c.deref-2.ensures.value ∙ lines) in
    let of_lines = subst (λ (ls : List Line). IsAccount p r.settled ls groups sections first.total)
    (c.deref-3.ensures.value ∙ lines) c.in_ok-account.ensures in
    let of_groups = subst (λ gs. IsAccount p r.settled (kept_of p r) gs sections first.total) grouped_so of_lines in
    let total_so = c.in_ok-account-2.ensures.total in
    let of_total = subst (λ total. IsAccount p r.settled (kept_of p r) (grouped (kept_of p r)) sections total) (sym total_so)
    of_groups in
    let moved = IsPermutation-map parts_of first.sections.items account.sections.items c.in_ok-account-2.ensures.moved in
    let own = sections_have_own_lines p r.settled (kept_of p r) sections account.total of_total in
    IfOk-weaker c.pages_of.result _ _
    (λ printed h. record {
      account = account;
      sorted = record {
        sections = sections;
        account_is = of_total;
        adds_up = adds_up p r sections account.total c.requires.adjudicated c.requires.counted of_total;
        moved = moved;
        nets_fall = c.in_ok-account-2.ensures.order;
      };
      own_lines = All-permutation (λ s. s.1.1 ≡ filter (λ l. is_same s.0 (provider_of l)) (kept_of p r)) _ _ moved own;
      are_pages = subst (λ (ls : List Line). ArePages p c.args.origin (table_of_text c.args.sheet.now) r ls account printed)
          (c.deref-4.ensures.value ∙ lines) h;
    }) c.pages_of.ensures
