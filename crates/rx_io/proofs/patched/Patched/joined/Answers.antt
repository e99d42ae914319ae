use Rattle.std.proofs.Common.{ap, sym, ◌++◌, length, take, List, ℕ, ◌∙◌, arith}
use Rattle.std.specs.Arc.{arc_value}
use Rattle.std.specs.List.{slice_range}
use Rattle.rx_io.specs.declared.patched.Piece.TheVariants.{Lent}
use Rattle.rx_io.specs.Patches.{pieces_text}
use Rattle.rx_io.proofs.Patching.{patch_is, pieces_all, pieces_more}
use Rattle.rx_io.proofs.patched.Patched.joined.Goals as goal

pub returns : goal.returns
returns c =
    let s = c.self.inside in
    let lender = c.as_slice-lender.result.now in
    let own = c.as_slice-own.result.now in
    let pieces = c.deref-piece-items.result.now in
    let begun = s.begun in
    let whole = patch_is lender (arc_value s.lender).items own s.own.items pieces s.pieces.items begun c.args.self.now
    (cc (c.as_slice-lender.ensures.value, c.deref.ensures)) c.as_slice-own.ensures.value c.deref-piece-items.ensures.value
    c.self.view_is in
    c.in_ok-extend_from_slice-2.ensures.items
    ∙ ap (λ (t : List ℕ). t ++ slice_range own begun (length own)) c.loop-piece.invariant
    ∙ pieces_all lender own pieces begun c.loop-piece.piece-index (omega arith) ∙ whole

pub loop-piece-preserved : goal.loop-piece-preserved
loop-piece-preserved c =
    let lender = c.as_slice-lender.result.now in
    let own = c.as_slice-own.result.now in
    let pieces = c.deref-piece-items.result.now in
    let i = c.loop-piece.piece-index in
    c.in_ok-extend_from_slice.ensures.items ∙ ap (λ (t : List ℕ). t ++ c.bytes_of.result.now) c.loop-piece.invariant
    ∙ ap (λ (t : List ℕ). pieces_text lender own (take i pieces) ++ t) c.bytes_of.ensures
    ∙ sym (pieces_more lender own pieces i (Lent 0 0) (omega arith))
