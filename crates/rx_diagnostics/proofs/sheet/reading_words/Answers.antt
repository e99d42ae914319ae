use Rattle.std.proofs.Common.{List, ℕ, inl, inr, subst}
use Rattle.std.specs.Str.{is_utf8}
use Rattle.std.proofs.lemmas.Bool.{cases_Bool}
use Rattle.std.proofs.lemmas.Result.{IfOk-weaker}
use Rattle.std.proofs.lemmas.Str.{IsUtf8-from_is_utf8, is_utf8-from_IsUtf8}
use Rattle.toml.specs.Parse.{parse_document}
use Rattle.rx_diagnostics.specs.SheetWords.{TellsOfReading}
use Rattle.rx_diagnostics.proofs.sheet.reading_words.Goals as goal

pub returns-in-Ok : goal.returns-in-Ok
returns-in-Ok c =
    let read = c.in-Ok.ensures.cases in
    IfOk-weaker c.parse_words.result _ _
    (λ words says. rw (is_utf8-from_IsUtf8 c.args.text.now read.1)
    (subst (λ (t : List ℕ). TellsOfReading t (parse_document t) words) read.0 says)) c.parse_words.ensures

pub returns-in-Err : goal.returns-in-Err
returns-in-Err c = elim (cases_Bool (is_utf8 c.args.text.now)) [
  | inl utf8 ↦ absurd (c.in-Err.ensures.cases.0 (IsUtf8-from_is_utf8 c.args.text.now utf8))
  | inr other ↦ IfOk-weaker c.encoding_words.result _ _ (λ words says. rw other says) c.encoding_words.ensures
]
