-- A derived `==` answers true exactly where the two values are one.
use Rattle.std.proofs.Common.{◌≡◌, List, Decides, refl}
use Rattle.std.specs.Cmp.Lexicographic.{bytes_decides}
use Rattle.std.proofs.lemmas.Bool.Decides.{Decides-eqb, Decides-and, Decides-like}
use Rattle.rx_batch.specs.declared.head.FileType.{FileType}
use Rattle.rx_batch.specs.declared.head.FileType.TheVariants.{Production, Test}
use Rattle.rx_batch.specs.declared.head.Head.{Head}
use Rattle.rx_batch.specs.declared.head.Kind.{Kind}
use Rattle.rx_batch.specs.declared.head.Kind.TheVariants.{Response, Transmission}
use Rattle.rx_batch.specs.contracts.head.FileTypePartialEq.TheImpl.{ghosts as file}
use Rattle.rx_batch.specs.contracts.head.HeadPartialEq.TheImpl.{ghosts as head}
use Rattle.rx_batch.specs.contracts.head.KindPartialEq.TheImpl.{ghosts as kind}
use Rattle.rx_d0_values.specs.declared.transmission.Rejected.{Rejected}
use Rattle.rx_d0_values.specs.contracts.codes.CodesPartialEq.TheImpl.{ghosts as codes}
use Rattle.rx_d0_values.specs.contracts.transmission.RejectedPartialEq.TheImpl.{ghosts as rejected}
use Rattle.rx_d0_values.proofs.Decided.{codes_decides, rejected_decides}
use Rattle.rx_fields.specs.TimeOfDay.{Clock}
use Rattle.rx_fields.specs.declared.code.Code.{Code}
use Rattle.rx_fields.specs.declared.stamp.Stamp.{Stamp}
use Rattle.rx_fields.specs.contracts.stamp.StampPartialEq.TheImpl.{ghosts as stamp}
use Rattle.rx_fields.specs.contracts.time.TimePartialEq.TheImpl.{ghosts as time}
use Rattle.rx_ledger.proofs.Decided.{day_decides, lot_decides}

pub same_codes : (a b : List Code) → Decides (codes.eq a b) (a ≡ b)
same_codes a b = codes_decides a b

pub same_rejected : (a b : Rejected) → Decides (rejected.eq a b) (a ≡ b)
same_rejected a b = rejected_decides a b

time_decides : (a b : Clock) → Decides (time.eq a b) (a ≡ b)
time_decides a b =
    Decides-like
    (time.eq a b)
    (λ h i. record { hour = h.0 i; minute = h.1 i })
    (λ e. (cc, cc))
    (Decides-and _ _ (Decides-eqb a.hour b.hour) (Decides-eqb a.minute b.minute))

pub stamp_decides : (a b : Stamp) → Decides (stamp.eq a b) (a ≡ b)
stamp_decides a b =
    Decides-like
    (stamp.eq a b)
    (λ h i. record { date = h.0 i; time = h.1 i })
    (λ e. (cc, cc))
    (Decides-and _ _ (day_decides a.date b.date) (time_decides a.time b.time))

kind_decides : (a b : Kind) → Decides (kind.eq a b) (a ≡ b)
kind_decides Transmission Transmission = (λ e. refl, λ e. refl)
kind_decides Transmission Response = (λ e. cc, λ e. cc)
kind_decides Response Transmission = (λ e. cc, λ e. cc)
kind_decides Response Response = (λ e. refl, λ e. refl)

file_decides : (a b : FileType) → Decides (file.eq a b) (a ≡ b)
file_decides Production Production = (λ e. refl, λ e. refl)
file_decides Production Test = (λ e. cc, λ e. cc)
file_decides Test Production = (λ e. cc, λ e. cc)
file_decides Test Test = (λ e. refl, λ e. refl)

pub head_decides : (a b : Head) → Decides (head.eq a b) (a ≡ b)
head_decides a b =
    Decides-like
    (head.eq a b)
    (λ (kind, (sender, (lot, (time, (file, receiver))))) i. record {
      kind = kind i;
      sender = sender i;
      lot = lot i;
      time = time i;
      file = file i;
      receiver = receiver i;
    })
    (λ e. (cc, (cc, (cc, (cc, (cc, cc))))))
    (Decides-and _ _ (kind_decides a.kind b.kind)
    (Decides-and _ _ (bytes_decides a.sender b.sender)
    (Decides-and _ _ (lot_decides a.lot b.lot)
    (Decides-and _ _ (time_decides a.time b.time)
    (Decides-and _ _ (file_decides a.file b.file) (bytes_decides a.receiver b.receiver))))))
