-- The details are few, and none has an STX or an ETX.
use Rattle.std.proofs.Common.{◌≡◌, ◌+◌, ◌-◌, ◌∷◌, [], ◌∙◌, List, ap, arith, length, length-append, replicate, subst, sym}
use Rattle.std.specs.Prelude.{IfOk}
use Rattle.std.proofs.lemmas.List.{length-replicate}
use Rattle.rx_batch.specs.Grammar.{IsFile}
use Rattle.rx_batch.specs.Writing.{IsPlain}
use Rattle.rx_batch.specs.declared.detail.Detail.{Detail}
use Rattle.rx_commands.specs.ExcerptParts.{empty_detail, excerpt_details}
use Rattle.rx_commands.proofs.PlainParts.{plain_excerpt}
use Rattle.rx_commands.proofs.excerpts.batch_file.batch_text.Goals as goal

pub write_batch-text-requires : goal.write_batch-text-requires
write_batch-text-requires c =
    let place = c.args.place in
    let d = c.args.detail.now in
    let is : c.deref.result.now ≡ excerpt_details place d = c.deref.ensures.value ∙ c.in_ok-details.ensures in
    let count : length (excerpt_details place d) ≡ place - 1 + 1 =
    length-append (replicate (place - 1) empty_detail) (d ∷ []) ∙ ap (λ n. n + 1) (length-replicate (place - 1) empty_detail) in
    rw is (rw count (omega arith))

pub returns : goal.returns
returns c =
    let place = c.args.place in
    let d = c.args.detail.now in
    let head = c.args.head.now in
    let is : c.deref.result.now ≡ excerpt_details place d = c.deref.ensures.value ∙ c.in_ok-details.ensures in
    subst (λ (ds : List Detail). IfOk c.write_batch-text.result (λ text. IsFile text.items head ds)) is
    (c.write_batch-text.ensures.again (subst (IsPlain head) (sym is) (plain_excerpt head place d c.requires.plain)))
