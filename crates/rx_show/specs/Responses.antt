-- Meaning: what `replies` prints of a text, or refuses.
use Rattle.std.specs.Prelude.{◌≡◌, ℕ, List, Ok}
use Rattle.std.specs.List.{AllZip}
use Rattle.rx_batch.specs.declared.batch.Batch.{Batch}
use Rattle.rx_show.specs.declared.responses.found.Found.{Found}
use Rattle.rx_show.specs.ResponseFile.{response_of}
use Rattle.rx_show.specs.Found.{IsFound}
use Rattle.rx_show.specs.ReplyLines.{reply_lines}

-- the bytes are a response file, and the text has the lines of what its details hold
pub record AreLinesOf (bytes text : List ℕ) : Type 0 where
  pub batch : Batch
  pub found : List Found
  pub file_is : response_of bytes ≡ Ok batch
  pub found_are : AllZip (λ d f. IsFound d.text f) batch.details found
  pub text_is : text ≡ reply_lines found
