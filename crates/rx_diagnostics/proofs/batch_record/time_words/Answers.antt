use Rattle.std.proofs.Common.{◌≡◌, ◌∙◌, true, false, ap, sym}
use Rattle.std.specs.Prelude.{is_none, is_some, not, slice_range}
use Rattle.rx_batch.specs.declared.layout.TheConstants.{CREATION_TIME_AT}
use Rattle.rx_fields.specs.Clock.{time_of}
use Rattle.rx_diagnostics.specs.BatchTexts.{time_text}
use Rattle.rx_diagnostics.proofs.batch_record.time_words.Goals as goal

pub returns-then-is_none : goal.returns-then-is_none
unfolding time_text
returns-then-is_none c =
    let none : is_none (time_of (slice_range c.args.body.now CREATION_TIME_AT 46)) ≡ true =
    ap not (ap is_some (sym (c.new.ensures ∙ ap time_of c.part.ensures)) ∙ c.is_none.ensures ∙ ap not c.if-is_none.true) in
    rw none c.field_words.ensures

pub returns-else-is_none : goal.returns-else-is_none
unfolding time_text
returns-else-is_none c =
    let some : is_none (time_of (slice_range c.args.body.now CREATION_TIME_AT 46)) ≡ false =
    ap not (ap is_some (sym (c.new.ensures ∙ ap time_of c.part.ensures)) ∙ c.is_none.ensures ∙ ap not c.if-is_none.false) in
    rw some c.file_type_words.ensures
