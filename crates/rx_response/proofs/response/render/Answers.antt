use Rattle.std.proofs.Common.{◌≡◌, ◌≤◌, min, map, take, length, length-take, ap, ◌∙◌, subst, arith, Bor}
use Rattle.std.specs.Prelude.{zip}
use Rattle.std.specs.List.{AllZip, flat_map}
use Rattle.std.proofs.lemmas.List.{length-map}
use Rattle.rayon.proofs.ToStd.{slice-zip}
use Rattle.rx_batch.specs.declared.detail.Detail.{Detail}
use Rattle.rx_d0_values.specs.declared.reply.Reply.{Reply}
use Rattle.rx_fields.specs.declared.memory.Memory.{Memory}
use Rattle.rx_response.specs.Pieces.{answer_text, records_text}
use Rattle.rx_response.specs.Response.{response_detail}
use Rattle.rx_response.proofs.Joined.{joined, ok_of, shown_records}
use Rattle.rx_response.proofs.response.render.Goals as goal

pub returns : goal.returns
returns g c =
    let cut = c.zip.ensures in
    let collected = c.in_ok-collect.ensures in
    let details = c.args.details.now in
    let replies = c.args.replies.now in
    let n = min (length details) (length replies) in
    let detail = λ (z : Bor Detail). z.now in
    let reply = λ (z : Bor Reply). z.now in
    let both : Bor Detail × Bor Reply → Detail × Reply = λ p. (p.0.now, p.1.now) in
    let chain = rw (c.fold.ensures.base, c.with_min_len.ensures.base) at collected.1 in
    let pairs = chain.1 in
    let left : map detail pairs.0 ≡ take n details = pairs.2 ∙ rw (c.par_iter.ensures, cut.right) at cut.left in
    let right : map reply pairs.1 ≡ take (length pairs.1) replies = rw (cut.right, cut.at) at pairs.3 in
    let long : n ≤ length pairs.1 =
    omega (arith, pairs.4, ap length left, length-map pairs.0 detail, length-take n details, ap length cut.right, cut.at) in
    let paired : map both (zip pairs.0 pairs.1) ≡ zip details replies =
    slice-zip pairs.0 pairs.1 details replies n _ left right (omega arith) long in
    ok_of c.in_ok-collect.field-0 _ _ _ collected.2 (λ v k. ap (λ l. flat_map (λ piece. piece.items) l) k.2
    ∙ joined Memory (λ (p : Bor Detail × Bor Reply). answer_text p.0.now p.1.now) chain.0 k.0 (subst (AllZip _ chain.0) k.1 chain.2)
    ∙ ap (flat_map (λ (p : Bor Detail × Bor Reply). answer_text p.0.now p.1.now)) pairs.5
    ∙ shown_records both (zip pairs.0 pairs.1)
    ∙ ap (λ l. records_text (map (λ (p : Detail × Reply). response_detail p.0 p.1) l)) paired)
