use Rattle.std.proofs.Common.{◌≡◌, ℕ, List, [], ◌∷◌, ◌++◌, get_or, ap, ◌∙◌, arith}
use Rattle.rx_fields.specs.Digits.{digits_text}
use Rattle.rx_d0_reply.proofs.DigitJoins.{pair_of}
use Rattle.rx_d0_reply.proofs.writing.header_front.Goals as goal

pub returns-clause-text : goal.returns-clause-text
unfolding digits_text
returns-clause-text c =
    let version = c.args.echo.now.version in
    let code = c.args.echo.now.code in
    let behind = digits_text 1 c.args.count ++ c.args.status ∷ [] in
    let first = get_or version 0 0 ∷ get_or version 1 0 ∷ [] in
    let second = get_or code 0 0 ∷ get_or code 1 0 ∷ [] in
    let joined : first ++ (second ++ behind) ≡ version ++ (code ++ behind) =
    ap (λ (l : List ℕ). l ++ (second ++ behind)) (pair_of version (omega arith))
    ∙ ap (λ (l : List ℕ). version ++ (l ++ behind)) (pair_of code (omega arith)) in
    rw c.digits_write.ensures.text joined
