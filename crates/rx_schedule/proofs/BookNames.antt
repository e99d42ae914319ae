-- The name of bytes: that of its first eight, and then that of the rest.
use Rattle.std.proofs.Common.{◌≡◌, ℕ, suc, ◌+◌, ◌<◌, ◌/◌, List, length, drop, take, ap, sym, ◌∙◌, arith}
use Rattle.std.specs.Int.{from_be_bytes, w64}
use Rattle.std.specs.List.{fold}
use Rattle.rx_schedule.specs.Mentions.{with_bytes, with_number, with_words}

pub word_first : (name : ℕ) (bytes rest : List ℕ) → length rest + 8 ≡ length bytes → rest ≡ drop 8 bytes
    → with_bytes name bytes ≡ with_bytes (with_number name (from_be_bytes w64 (take 8 bytes))) rest
word_first name bytes rest long is =
    let words : length bytes / 8 ≡ suc (length rest / 8) = omega arith in
    ap (λ n. with_words n name bytes) words
    ∙ ap (with_words (length rest / 8) (with_number name (from_be_bytes w64 (take 8 bytes)))) (sym is)

pub no_word : (name : ℕ) (bytes : List ℕ) → length bytes < 8 → with_bytes name bytes ≡ fold with_number name bytes
no_word name bytes short =
    let none : length bytes / 8 ≡ 0 = omega arith in
    ap (λ n. with_words n name bytes) none
