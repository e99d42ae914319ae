use Rattle.std.proofs.Common.{◌≡◌, true, false, refl, rules, sym, ap, ◌∙◌, ◌&&◌}
use Rattle.std.specs.Prelude.{is_none, is_some}
use Rattle.std.proofs.Math.Bool.{and-false}
use Rattle.rx_d0_request.specs.Codes.{is_faulty, header_conditions}
use Rattle.rx_d0_request.specs.Steps.{opening_parts}
use Rattle.rx_d0_request.specs.Values.{date_in, provider_in}
use Rattle.rx_d0_request.proofs.Faults.{header_heard, header_unsound, header_elsewhere, header_miscounted}
use Rattle.rx_d0_request.proofs.request.opening_read.Goals as goal
use Rattle.rx_d0_request.proofs.request.opening_read.Goals.{then-not-is_clean-via-then-not-is_clean}
use Rattle.rx_d0_request.proofs.request.opening_read.Goals.{then-not-is_clean-via-else-not-is_clean+then-not-is_addressed}
use Rattle.rx_d0_request.proofs.request.opening_read.Goals.{then-not-is_clean-via-else-not-is_clean+else-not-is_addressed+then-not-is_count}

pub returns-in_err-common : goal.returns-in_err-common
returns-in_err-common c =
    let unsound : (c.args.is_clean && is_some c.args.common) ≡ false = rw c.in_err-common.was (and-false c.args.is_clean) in
    let faulty : is_faulty (header_conditions c.args.door.now c.args.header.now
    (c.args.is_clean && is_some c.args.common) c.args.groups) ≡ true =
    header_unsound c.args.door.now c.args.header.now (c.args.is_clean && is_some c.args.common) c.args.groups unsound in
    rw (c.from_residual-in_err-common.ensures, faulty) refl

pub returns-then-not-is_clean : goal.returns-then-not-is_clean
returns-then-not-is_clean c =
    let door = c.args.door.now in
    let header = c.args.header.now in
    let is_sound = c.args.is_clean && is_some c.args.common in
    let faulty : is_faulty (header_conditions door header is_sound c.args.groups) ≡ true = elim c.then-not-is_clean.branch [
      | then-not-is_clean-via-then-not-is_clean w ↦
          header_unsound door header is_sound c.args.groups (rw w.if-not-is_clean.true refl)
      | then-not-is_clean-via-else-not-is_clean+then-not-is_addressed w ↦
          header_elsewhere door header is_sound c.args.groups (sym w.is_addressed.ensures ∙ w.if-not-is_addressed.true)
      | then-not-is_clean-via-else-not-is_clean+else-not-is_addressed+then-not-is_count w ↦
          header_miscounted door header is_sound c.args.groups (sym w.is_count.ensures ∙ w.if-not-is_count.true)
    ] in
    rw faulty refl

pub returns : goal.returns
unfolding opening_parts
returns c =
    let header = c.args.header.now in
    let is_sound = c.args.is_clean && is_some c.args.common in
    let provider : is_none (provider_in header.provider) ≡ false = ap is_none (sym c.in_ok-provider.ensures) in
    let date : is_none (date_in header.date) ≡ false = ap is_none (sym c.in_ok-date.ensures) in
    let sound : is_sound ≡ true = rw (c.if-not-is_clean.false, c.in_ok-common.was) refl in
    let heard : is_faulty (header_conditions c.args.door.now header is_sound c.args.groups) ≡ false =
    header_heard c.args.door.now header is_sound c.args.groups
    (sym c.is_addressed.ensures ∙ c.if-not-is_addressed.false) (sym c.is_count.ensures ∙ c.if-not-is_count.false)
    provider date sound in
    rw heard (rw (← c.in_ok-provider.ensures, ← c.in_ok-date.ensures, c.in_ok-common.was) (search rules))
