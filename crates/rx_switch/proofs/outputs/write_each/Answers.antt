-- The pieces before those at which a write failed are written, and of these a front.
use Rattle.std.proofs.Common.{◌≡◌, ◌+◌, ◌++◌, ◌∷◌, take, drop, sym, ap, subst, ◌∙◌}
use Rattle.std.specs.List.{flat_map}
use Rattle.std.proofs.lemmas.Grind.{flat_map-append}
use Rattle.std.proofs.lemmas.List.{drop_more, take-append-drop}
use Rattle.rx_io.specs.Pieces.{text_of}
use Rattle.rx_io.specs.Writing.{AppendsFront}
use Rattle.rx_io.proofs.Passing.{AppendsFront-on}
use Rattle.rx_switch.proofs.outputs.write_each.Goals as goal

pub returns-in_err-write_to-clause-front : goal.returns-in_err-write_to-clause-front
returns-in_err-write_to-clause-front g c =
    let i = c.loop-pieces.pieces-index in
    let list = c.args.list.now in
    let one = c.pieces-item.result in
    let before = g.S.Sink.written c.args.sink.now in
    let between = g.S.Sink.written c.loop-pieces.sink in
    let after = g.S.Sink.written c.write_to.new.sink in
    let on : drop i list ≡ one ∷ drop (i + 1) list =
    drop_more list i one c.loop-pieces-test.true ∙ ap (λ x. x ∷ drop (i + 1) list) (sym c.pieces-item.is) in
    let all : flat_map text_of list ≡ flat_map text_of (take i list) ++ (text_of one ++ flat_map text_of (drop (i + 1) list)) =
    ap (flat_map text_of) (sym (take-append-drop i list)) ∙ flat_map-append text_of (take i list) (drop i list)
    ∙ ap (λ l. flat_map text_of (take i list) ++ flat_map text_of l) on in
    subst (AppendsFront before after) (sym all)
    (AppendsFront-on before between after (flat_map text_of (take i list)) (text_of one) (flat_map text_of (drop (i + 1) list))
    c.loop-pieces.invariant.0 c.in_err-write_to.ensures.front)
