-- How reading an input breaks off, and which devices failed then.
use Rattle.std.proofs.Common.{◌≡◌, ◌≤◌, ℕ, List, length, Option, IfSome, Result, Err, refl}
use Rattle.rx_batch.specs.Pieces.{Fed}
use Rattle.rx_io.specs.Reading.{most_reads}
use Rattle.rx_io.specs.declared.fault.ReadFault.{ReadFault}
use Rattle.rx_io.specs.declared.fault.ReadFault.TheVariants as reading
use Rattle.rx_io.specs.declared.device.Device.{Device}
use Rattle.rx_switch.specs.declared.fault.IoFault.{IoFault}
use Rattle.rx_switch.specs.declared.fault.IoFault.TheVariants as io
use Rattle.rx_switch.specs.declared.fault.SwitchFault.TheVariants as fault
use Rattle.rx_switch.specs.Devices.{AreRead, IsGiven, IsUnread, IsUnreadAt, Left, of_reading}
use Rattle.rx_switch.specs.Devices.IsUnread.{sheet, books, batch}
use Rattle.rx_switch.specs.Devices.IsUnreadAt.{failed, long, memory}
use Rattle.rx_switch.specs.Job.{given_read}

abbrev fault_of : {X : Type 0} → ReadFault → Result X ReadFault
fault_of f = Err f

-- the reader's fault, as the run says it
pub unread_at : {X : Type 0} (d : Device) (bytes : Option (List ℕ)) (f : ReadFault)
    → (fault_of {X = X} f ≡ Err reading.Long → IfSome bytes (λ bytes. most_reads ≤ length bytes))
    → IsUnreadAt d bytes (of_reading d f)
unread_at d bytes reading.Failed is_long = failed
unread_at d bytes reading.Long is_long = long (is_long refl)
unread_at d bytes reading.Memory is_long = memory

-- lack of a thread breaks off no reading
no_thread_at : {d : Device} {bytes : Option (List ℕ)} {f : IoFault} → IsUnreadAt d bytes f
    → f ≡ io.Switch fault.Thread → ⊥
no_thread_at failed e = cc
no_thread_at (long is_long) e = cc
no_thread_at memory e = cc

pub unread_without_thread : {before after : Left} {f : IoFault} → IsUnread before after f
    → f ≡ io.Switch fault.Thread → ⊥
unread_without_thread (sheet h later last) e = no_thread_at h e
unread_without_thread (books s first h last) e = no_thread_at h e
unread_without_thread (batch s b first second h) e = no_thread_at h e

-- what was read is what the run is given
pub given_is : (stamp : List ℕ) (workers : ℕ) (before after : Left) (s b : List ℕ) (fed : Fed)
    → (r : AreRead before after s b fed)
    → IsGiven stamp workers before after (given_read stamp workers s b r.batch_is.bytes)
given_is stamp workers before after s b fed r =
    record {
      stamp_is = refl;
      workers_are = refl;
      sheet_is = r.sheet_is;
      books_is = r.books_is;
      batch_is = r.batch_is.is_read;
    }
