use Rattle.std.proofs.Common.{codes}
use Rattle.rx_report_text.specs.Origin.{file_text, files_text}
use Rattle.rx_print.proofs.Written.{three}
use Rattle.rx_report_text.proofs.origin.put_files.Goals as goal

pub returns : goal.returns
unfolding files_text
returns c =
    three c.args.page.now c.put_file.new.page c.put_file-2.new.page c.put_file-3.new.page
    (file_text (codes "Sheet") c.args.origin.now.sheet)
    (file_text (codes "Books") c.args.origin.now.books)
    (file_text (codes "Batch file") c.args.origin.now.batch)
    c.put_file.ensures
    c.put_file-2.ensures
    c.put_file-3.ensures
