-- Meaning: what a sum is made of, and whose it is.
use Rattle.std.specs.Prelude.{◌≡◌, ℕ, List}
use Rattle.sha2.specs.Hashers.{Holds256}
use Rattle.sha2.specs.Sha256.{sha256}
use Rattle.rx_run_log.specs.declared.sum.Sum.{Sum}
use Rattle.rx_run_log.specs.declared.sum.Sum.TheVariants.{Made, Kept}
use Rattle.rx_run_log.specs.declared.summing.Summing.{Summing}
use Rattle.rx_run_log.specs.declared.summing.Summing.TheVariants.{Apart, Done}

-- these bytes were summed, or are kept
abbrev pub IsSumOf : Sum → List ℕ → Type 0
IsSumOf (Made sum) bytes = Holds256 sum bytes
IsSumOf (Kept text) bytes = text.items ≡ bytes

-- a thread sums these bytes, or their digest is there
abbrev pub IsSumming : Summing → List ℕ → Type 0
IsSumming (Apart thread) bytes = thread.promise.0.value.items ≡ bytes
IsSumming (Done digest) bytes = digest ≡ sha256 bytes
