use Rattle.std.proofs.Common.{◌≡◌, ◌++◌, string_bytes, ap, ◌∙◌}
use Rattle.rx_check.proofs.Reports.{four_joined}
use Rattle.rx_check.proofs.report_lines.report.Goals as goal

pub returns : goal.returns
returns c =
    let sheet = string_bytes c.in_ok-text.text in
    let with_books : string_bytes c.push_str.new.self ≡ sheet ++ string_bytes c.in_ok-books.books =
    c.in_ok-push_str.ensures.bytes ∙ ap (λ t. sheet ++ t) c.as_str.ensures.value in
    let with_batch : string_bytes c.push_str-2.new.self ≡ string_bytes c.push_str.new.self ++ string_bytes c.in_ok-batch.batch =
    c.in_ok-push_str-2.ensures.bytes ∙ ap (λ t. string_bytes c.push_str.new.self ++ t) c.as_str-2.ensures.value in
    record {
      sheet = sheet;
      books = string_bytes c.in_ok-books.books;
      batch = string_bytes c.in_ok-batch.batch;
      sheet_is = c.in_ok-text.ensures;
      books_are = c.in_ok-books.ensures;
      batch_is = c.in_ok-batch.ensures;
      text_is = four_joined sheet _ _ _ _ _ _ with_books with_batch c.in_ok-put_warnings.ensures;
    }
