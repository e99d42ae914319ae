-- How writing breaks off at a device, and which devices failed then.
use Rattle.std.proofs.Common.{◌≡◌, ◌==◌, false, Result, Ok, Err, IfErr, refl, sym, subst}
use Rattle.rx_io.specs.declared.device.Device.{Device}
use Rattle.rx_switch.specs.declared.fault.IoFault.{IoFault}
use Rattle.rx_switch.specs.declared.fault.IoFault.TheVariants as io
use Rattle.rx_switch.specs.declared.fault.SwitchFault.TheVariants as fault
use Rattle.rx_switch.specs.Devices.{IsUnwritten, Written, has_failed}
use Rattle.rx_switch.specs.Devices.IsUnwritten.{response, books, settlement}
use Rattle.rx_io.specs.Files.{device_number}
use Rattle.rx_switch.specs.Output.{Texts}

-- what holds of the only fault that an answer can have, holds where it has a fault
pub at_only_fault : {X : Type 0} (r : Result X IoFault) (only : IoFault) (P : IoFault → Type 0)
    → IfErr r (λ f. f ≡ only) → P only → IfErr r P
at_only_fault (Ok x) only P is h = tt
at_only_fault (Err f) only P is h = subst P (sym is) h

-- lack of a thread breaks off no writing
pub unwritten_without_thread : {before after : Written} {t : Texts} {f : IoFault} → IsUnwritten before after t f
    → f ≡ io.Switch fault.Thread → ⊥
unwritten_without_thread (response one two three) e = cc
unwritten_without_thread (books one two three) e = cc
unwritten_without_thread (settlement one two three) e = cc

-- where writing breaks off, no device failed but the outputs, whose numbers are 4 to 6
abbrev answer : IoFault → Result Unit IoFault
answer f = Err f

module _ (d : Device)
    (a : (4 == device_number d) ≡ false) (b : (5 == device_number d) ≡ false) (c : (6 == device_number d) ≡ false) where
  at_fault : {before after : Written} {t : Texts} {f : IoFault} → IsUnwritten before after t f
      → has_failed d (answer f) ≡ false
  at_fault (response one two three) = a
  at_fault (books one two three) = b
  at_fault (settlement one two three) = c

  pub only_outputs : (before after : Written) (t : Texts) (r : Result Unit IoFault)
      → IfErr r (IsUnwritten before after t) → has_failed d r ≡ false
  only_outputs before after t (Ok x) h = refl
  only_outputs before after t (Err f) h = at_fault h
