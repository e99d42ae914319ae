use Rattle.std.proofs.Common.{◌≡◌, ℕ, List, [], ◌∷◌, ◌++◌, ◌+◌, length, sym, ap, ◌∙◌}
use Rattle.std.specs.List.{flat_map}
use Rattle.std.specs.Vec.{vec_items}
use Rattle.rx_batch.specs.Grammar.{record_text}
use Rattle.rx_batch.specs.Writing.{header_text, trailer_text}
use Rattle.rx_response.specs.Pieces.{records_text}
use Rattle.rx_response.specs.Response.{response_details, response_head}
use Rattle.rx_response.proofs.Joined.{as_many, pieces-between}
use Rattle.rx_response.proofs.response.in_pieces.Goals as goal

-- The header stands above the records, and the trailer below.
pub returns : goal.returns
returns g c =
    let head = c.args.head.now in
    let details = c.args.details.now in
    let replies = c.args.replies.now in
    let pieces = c.in_ok-pieces.pieces.items in
    let above = record_text (header_text (response_head head c.args.stamp.now)) in
    let records = records_text (response_details details replies) in
    let below : ℕ → List ℕ = λ count. record_text (trailer_text head.lot.number (count + 2)) in
    let header : c.put_header.new.text.items ≡ above =
    c.in_ok-put_header.ensures.text ∙ ap (λ t. t ++ record_text (header_text c.sent_back.result)) c.new-header.ensures.items
    ∙ ap (λ h. record_text (header_text h)) c.sent_back.ensures in
    let trailer : c.put_end.new.text.items ≡ below (length details) =
    c.in_ok-put_end.ensures ∙ ap (λ t. t ++ below (length details)) c.new-trailer.ensures.items in
    ap (flat_map vec_items) (c.in_ok-push.ensures.items ∙ ap (λ l. l ++ c.put_end.new.text ∷ []) c.in_ok-insert.ensures.items)
    ∙ pieces-between c.put_header.new.text c.put_end.new.text pieces
    ∙ ap (λ t. t ++ (flat_map vec_items pieces ++ c.put_end.new.text.items)) header
    ∙ ap (λ t. above ++ (t ++ c.put_end.new.text.items)) c.in_ok-pieces.ensures
    ∙ ap (λ t. above ++ (records ++ t)) trailer
    ∙ ap (λ count. above ++ (records ++ below count)) (sym (as_many details replies c.requires.equally_many))
