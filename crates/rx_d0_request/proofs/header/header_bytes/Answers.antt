use Rattle.std.proofs.Common.{◌≡◌, ◌-◌, ◌++◌, length, take, replicate, ap, ◌∙◌, sym, arith, ℕ}
use Rattle.std.proofs.lemmas.List.{take_all, length-take}
use Rattle.rx_d0_request.specs.Headers.{header_bytes}
use Rattle.rx_d0_request.proofs.header.header_bytes.Goals as goal

pub returns-then-bytes-lt-HEADER_LENGTH : goal.returns-then-bytes-lt-HEADER_LENGTH
unfolding header_bytes
returns-then-bytes-lt-HEADER_LENGTH c =
    let bytes = c.args.bytes.now in
    c.padded.ensures ∙ sym (ap (λ whole. whole ++ replicate (56 - length bytes) 32) (take_all 56 bytes (omega arith)))

pub returns-else-bytes-lt-HEADER_LENGTH : goal.returns-else-bytes-lt-HEADER_LENGTH
unfolding header_bytes
returns-else-bytes-lt-HEADER_LENGTH c =
    let bytes = c.args.bytes.now in
    let missing : 56 - length (take 56 bytes) ≡ 56 - length bytes = omega (arith, length-take 56 bytes) in
    c.padded-else-bytes-lt-HEADER_LENGTH.ensures ∙ ap (λ (n : ℕ). take 56 bytes ++ replicate n 32) missing
