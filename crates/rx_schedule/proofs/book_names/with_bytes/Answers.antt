use Rattle.std.proofs.Common.{◌≡◌, take, ap, sym, ◌∙◌}
use Rattle.std.specs.Int.{from_be_bytes, w64}
use Rattle.rx_schedule.specs.Mentions.{with_bytes, with_number}
use Rattle.rx_schedule.proofs.BookNames.{no_word, word_first}
use Rattle.rx_schedule.proofs.book_names.with_bytes.Goals as goal

pub words-preserved : goal.words-preserved
words-preserved c =
    let front = c.in-Some.ensures.cases in
    let named = c.words.named in
    let rest = c.words.rest.now in
    let word : c.with_number-named.result ≡ with_number named (from_be_bytes w64 (take 8 rest)) =
    c.with_number-named.ensures ∙ ap (with_number named) (c.from_be_bytes.ensures ∙ ap (from_be_bytes w64) front.0) in
    ap (λ n. with_bytes n c.in-Some.others.now) word
    ∙ sym (word_first named rest c.in-Some.others.now front.2 front.1) ∙ c.words.invariant

pub returns : goal.returns
returns c = c.with_each.ensures ∙ sym (no_word c.words.named c.words.rest.now c.in_default.ensures.cases) ∙ c.words.invariant
