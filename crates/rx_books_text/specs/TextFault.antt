-- Meaning: the first fault of a text that isn't a books file (docs/FORMATS.md, "Books file").
use Rattle.std.specs.Prelude.{◌≡◌, ℕ, ◌+◌, ◌<◌, ◌≤◌, Bool, true, false, ◌&&◌, ◌==◌, List, [], ◌∷◌, ◌++◌, length}
use Rattle.rx_sorted.specs.Ascending.{is_past}
use Rattle.rx_fields.specs.Order.{id_cmp, key_cmp}
use Rattle.rx_fields.specs.declared.limits.TheConstants.{MOST_LINES}
use Rattle.rx_ledger.specs.Ledger.{empty, is_listed, with_member, with_row}
use Rattle.rx_ledger.specs.Members.{member_cmp, member_key}
use Rattle.rx_ledger.specs.Rows.{member_of_row, row_key}
use Rattle.rx_books_text.specs.declared.fault.BooksFault.{BooksFault}
use Rattle.rx_books_text.specs.declared.fault.BooksFault.TheVariants as fault
use Rattle.rx_books_text.specs.declared.head.Head.{Head}
use Rattle.rx_books_text.specs.declared.line.Line.{Line}
use Rattle.rx_books_text.specs.declared.line.Line.TheVariants as line
use Rattle.rx_books_text.specs.LineFits.{IsPeriod, IsLine}
use Rattle.rx_books_text.specs.LineText.{head_text, line_text, ended}
use Rattle.rx_books_text.specs.Printed.{PrintedParts, line_feeds, has_member, total_family}

abbrev pub is_nil : {A : Type 0} → List A → Bool
is_nil xs = length xs == 0

-- the line may follow these: no line of a later kind was there, and its key is past those of its kind
abbrev pub is_next : PrintedParts → Line → Bool
is_next p (line.Member m) =
    is_nil p.ledger.rows && is_nil p.totals && is_past member_cmp member_key p.ledger.members m.member.key
is_next p (line.Claim r) = is_nil p.totals && is_past key_cmp row_key p.ledger.rows r.key
is_next p (line.Total t) = is_past id_cmp total_family p.totals t.family

-- a claim's member is listed, a total's family has a member
abbrev pub is_known : PrintedParts → Line → Bool
is_known p (line.Member m) = true
is_known p (line.Claim r) = is_listed p.ledger (member_of_row r)
is_known p (line.Total t) = has_member p.ledger t.family

-- one more line
abbrev pub with_line : PrintedParts → Line → PrintedParts
with_line p (line.Member m) =
    record p { ledger = with_member p.ledger m.member; deductibles = p.deductibles ++ m.deductible ∷ [] }
with_line p (line.Claim r) = record p { ledger = with_row p.ledger r }
with_line p (line.Total t) = record p { totals = p.totals ++ t ∷ [] }

-- the head only
abbrev pub no_lines : Head → PrintedParts
no_lines h = record { head = h; ledger = empty; deductibles = []; totals = [] }

-- the bytes are a head line and lines in order, of known members: these parts, in this many lines
pub data IsFront : List ℕ → PrintedParts → ℕ → Type 0 where
  headed : (h : Head) → IsPeriod h.period → IsFront (ended (head_text h)) (no_lines h) 1
  longer : {bytes : List ℕ} {p : PrintedParts} {n : ℕ} (l : Line)
      → IsFront bytes p n → IsLine p.head.version l → is_next p l ≡ true → is_known p l ≡ true
      → IsFront (bytes ++ ended (line_text p.head.version l)) (with_line p l) (n + 1)

-- the bytes begin with the line
abbrev pub BeginsWith : List ℕ → List ℕ → Type 0
BeginsWith bytes text = (rest : List ℕ) × (bytes ≡ ended text ++ rest)

-- the first fault of the bytes after a front: they begin with no line, or with one out of order or of an unknown member
pub data FaultBehind (p : PrintedParts) (n : ℕ) (bytes : List ℕ) : BooksFault → Type 0 where
  no_line : 0 < length bytes → ((l : Line) → IsLine p.head.version l → ¬ BeginsWith bytes (line_text p.head.version l))
      → FaultBehind p n bytes (fault.Line (n + 1))
  out_of_order : (l : Line) → IsLine p.head.version l → BeginsWith bytes (line_text p.head.version l)
      → is_next p l ≡ false → FaultBehind p n bytes (fault.Order (n + 1))
  unknown : (l : Line) → IsLine p.head.version l → BeginsWith bytes (line_text p.head.version l)
      → is_next p l ≡ true → is_known p l ≡ false → FaultBehind p n bytes (fault.UnknownMember (n + 1))

-- the text isn't a books file, and has this fault: too many line feeds, no head line, or the first fault of its lines
pub data HasFault (text : List ℕ) : BooksFault → Type 0 where
  too_much : MOST_LINES < line_feeds text → HasFault text fault.TooMuch
  no_head : line_feeds text ≤ MOST_LINES → ((h : Head) → IsPeriod h.period → ¬ BeginsWith text (head_text h))
      → HasFault text fault.Head
  behind : (front rest : List ℕ) (p : PrintedParts) (n : ℕ) (f : BooksFault) → line_feeds text ≤ MOST_LINES
      → text ≡ front ++ rest → IsFront front p n → FaultBehind p n rest f → HasFault text f
