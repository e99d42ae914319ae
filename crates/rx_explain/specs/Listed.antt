-- Meaning: what is said of the answers of a batch, one after another.
use Rattle.std.specs.Prelude.{ℕ, ◌+◌, List, [], ◌∷◌, ◌++◌}
use Rattle.rx_d0_values.specs.declared.reply.Answer.{Answer}
use Rattle.rx_d0_values.specs.declared.reply.Outcome.{Outcome}
use Rattle.rx_d0_values.specs.declared.reply.Outcome.TheVariants as outcome
use Rattle.rx_d0_values.specs.declared.reply.Reply.{Reply}
use Rattle.rx_d0_values.specs.declared.transmission.Body.{Body}
use Rattle.rx_d0_values.specs.declared.transmission.Body.TheVariants.{Rejected, Heard}
use Rattle.rx_d0_values.specs.declared.transmission.Heard.{Heard as HeardRecord}
use Rattle.rx_d0_values.specs.declared.transmission.Transmission.{Transmission}
use Rattle.rx_explain.specs.declared.at.At.{At}

-- what is said of the answer to a transaction of a record that is accepted, at its place
module _ {X : Type 0} (listed : HeardRecord → At → Answer → List X) where
  -- of those to the record at this place, from the nth on
  abbrev pub of_answers : ℕ → HeardRecord → ℕ → List Answer → List X
  of_answers place h nth [] = []
  of_answers place h nth (a ∷ more) =
      listed h (record { place = place; nth = nth }) a ++ of_answers place h (nth + 1) more

  abbrev pub of_record : ℕ → Body → Outcome → List X
  of_record place (Rejected r) (outcome.Rejected s) = []
  of_record place (Rejected r) (outcome.Heard answers) = []
  of_record place (Heard h) (outcome.Rejected s) = []
  of_record place (Heard h) (outcome.Heard answers) = of_answers place h 1 answers

  -- of records with their replies, the first of them at this place
  abbrev pub of_batch : ℕ → List Transmission → List Reply → List X
  of_batch place [] rs = []
  of_batch place (t ∷ ts) [] = []
  of_batch place (t ∷ ts) (r ∷ rs) = of_record place t.body r.outcome ++ of_batch (place + 1) ts rs
