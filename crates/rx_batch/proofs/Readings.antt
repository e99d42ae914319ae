-- Each text is the file of one batch, or has one fault.
use Rattle.std.proofs.Common.{◌≡◌, ◌⊎◌, ℕ, Bool, true, false, cond, eqb, List, [], ◌∷◌, ◌++◌, append_assoc, append-nil, refl}
use Rattle.std.proofs.Common.{sym, ap, ◌∙◌, subst, arith, inl, inr, Result, Ok, Err, Option, Some, None}
use Rattle.std.specs.Result.{IfOk, IfErr}
use Rattle.std.proofs.lemmas.Bool.{cases_Bool}
use Rattle.std.proofs.lemmas.Bool.Decides.{nat_tests}
use Rattle.std.proofs.lemmas.List.Elements.{All-nil, All-cons}
use Rattle.rx_batch.specs.declared.batch.Batch.{Batch}
use Rattle.rx_batch.specs.declared.detail.Detail.{Detail}
use Rattle.rx_batch.specs.declared.fault.BatchFault.{BatchFault}
use Rattle.rx_batch.specs.declared.fault.BatchFault.TheVariants as fault
use Rattle.rx_batch.specs.declared.front.Front.{Front}
use Rattle.rx_batch.specs.declared.front.Stage.{Stage}
use Rattle.rx_batch.specs.declared.front.Stage.TheVariants.{Start, Headed, Whole}
use Rattle.rx_batch.specs.declared.head.Head.{Head}
use Rattle.rx_text.specs.Results.{◌>>=◌}
use Rattle.rx_batch.specs.Fault.{Gives, UnlessMemory}
use Rattle.rx_batch.specs.Grammar.{is_skipped, is_mark, past, record_of, no_front, IsFile}
use Rattle.rx_batch.specs.Grammar.IsFront.{empty}
use Rattle.rx_batch.specs.Reading.{is_whole, stray, begins, batch_from, batch_of, FaultAfter, HasFault}
use Rattle.rx_batch.specs.Reading.FaultAfter.{no_header, no_trailer, no_record, no_end, second_start, bad_record}
use Rattle.rx_batch.specs.Pieces.{begun_text, IsReadUpTo}
use Rattle.rx_batch.proofs.Following.{front_of, from_record, from_stray, from_second, from_begun, from_end}
use Rattle.rx_batch.proofs.Steps.{unless_so, between, within, one_skipped, begun_read, more_read, closed_read}
use Rattle.rx_batch.proofs.Files.{file_reached, shape_of, Shape}

abbrev pub batch_ok : Batch → Result Batch BatchFault
batch_ok b = Ok b

abbrev pub failed : BatchFault → Result Batch BatchFault
failed e = Err e

-- ---- what the grammar says is what is read

-- the file of a batch is read as that batch
pub file_is_read : (bytes : List ℕ) (head : Head) (details : List Detail) → IsFile bytes head details
    → batch_of bytes ≡ batch_ok (record { head = head; details = details })
file_is_read bytes head details file =
    let front = file_reached bytes head details file in
    ap batch_of (sym (append-nil bytes)) ∙ front_of front.1 []
    ∙ from_end (record { stage = Whole head; details = details; length = front.0 })

-- what follows the longest good front has the fault that is read
after_is_read : (f : Front) {rest : List ℕ} {e : BatchFault} → FaultAfter f rest e → batch_from f rest ≡ failed e
after_is_read f (no_header at) = from_end f ∙ rw at refl
after_is_read f (no_trailer head at) = from_end f ∙ rw at refl
after_is_read f (no_record b rest other early) = from_stray f b rest other early
after_is_read f (no_end body early inside) = from_begun f body early inside
after_is_read f (second_start body rest early inside) = from_second f body rest early inside
after_is_read f (bad_record body rest e early inside is) =
    from_record f body rest early inside ∙ ap (λ (r : Result Front BatchFault). r >>= λ g. batch_from g rest) is

pub fault_is_read : (bytes : List ℕ) (e : BatchFault) → HasFault bytes e → batch_of bytes ≡ failed e
fault_is_read bytes e h = ap batch_of h.whole ∙ front_of h.good h.rest ∙ after_is_read h.read h.fault_is

-- ---- each text is a file or has a fault

abbrev State : List ℕ → Type 0
State text = ((head : Head) × (details : List Detail) × IsFile text head details) ⊎ ((e : BatchFault) × HasFault text e)

fault_read : (f : Front) (o : Option (List ℕ)) (text rest : List ℕ) (e : BatchFault)
    → IsReadUpTo (record { front = f; begun = o }) text rest → FaultAfter f (begun_text o ++ rest) e → State text
fault_read f o text rest e h is = inr (
  e,
  record {
    front = h.is_read.bytes;
    rest = begun_text o ++ rest;
    read = f;
    whole = h.whole ∙ ap (λ (bs : List ℕ). bs ++ rest) h.is_read.whole ∙ append_assoc h.is_read.bytes (begun_text o) rest;
    good = h.is_read.good;
    fault_is = is;
  },
)

-- the end between records
ended_state : (f : Front) (s : Stage) (text : List ℕ) → f.stage ≡ s → IsReadUpTo (between f) text [] → State text
ended_state f Start text at h = fault_read f None text [] (fault.NoHeader f.length) h (no_header at)
ended_state f (Headed head) text at h = fault_read f None text [] (fault.NoTrailer f.length) h (no_trailer head at)
ended_state f (Whole head) text at h =
    let same : h.is_read.bytes ≡ text = sym (h.whole ∙ append-nil h.before ∙ h.is_read.whole ∙ append-nil h.is_read.bytes) in
    inl (
      head,
      f.details,
      subst (λ (bs : List ℕ). IsFile bs head f.details) same
          (subst (λ (s : Stage). Shape s h.is_read.bytes f.details) at (shape_of h.is_read.good)),
    )

-- STX, where no trailer was read
begun_by : (whole : Bool) (b : ℕ) → cond whole false (eqb b 2) ≡ true → (whole ≡ false) × (b ≡ 2)
begun_by true b is = absurd cc
begun_by false b is = (refl, let stx : b ≡ 2 = grind (arith, nat_tests) in stx)

-- ETX, by what the record is
closed_state : (f : Front) (body text rest : List ℕ) (r : Result Front BatchFault) → record_of f body ≡ r
    → IsReadUpTo (within f body) text (3 ∷ rest) → ((g : Front) → IsReadUpTo (between g) text rest → State text) → State text
closed_state f body text rest (Ok g) is h go_on = go_on g (closed_read f g text body rest is h)
closed_state f body text rest (Err e) is h go_on =
    fault_read f (Some body) text (3 ∷ rest) e h (bad_record body rest e h.is_read.can_begin.1 h.is_read.can_begin.0 is)

-- STX or ETX within a record
marked_state : (f : Front) (body text rest : List ℕ) (b : ℕ) → is_mark b ≡ true
    → IsReadUpTo (within f body) text (b ∷ rest) → ((g : Front) → IsReadUpTo (between g) text rest → State text) → State text
marked_state f body text rest b is h go_on = elim (cases_Bool (eqb b 2)) [
  | inl stx ↦ (
      let here : b ≡ 2 = grind (arith, nat_tests) in
      fault_read f (Some body) text (2 ∷ rest) (fault.Unclosed f.length)
      (subst (λ (x : ℕ). IsReadUpTo (within f body) text (x ∷ rest)) here h)
      (second_start body rest h.is_read.can_begin.1 h.is_read.can_begin.0))
  | inr other ↦ (
      let here : b ≡ 3 = grind (arith, nat_tests) in
      closed_state f body text rest (record_of f body) refl (subst (λ (x : ℕ). IsReadUpTo (within f body) text (x ∷ rest)) here h) go_on)
]

state_of : (rest : List ℕ) (f : Front) (o : Option (List ℕ)) (text : List ℕ)
    → IsReadUpTo (record { front = f; begun = o }) text rest → State text
state_of [] f None text h = ended_state f f.stage text refl h
state_of [] f (Some body) text h =
    fault_read f (Some body) text [] (fault.Unclosed f.length) h
    (subst (λ (bs : List ℕ). FaultAfter f (2 ∷ bs) (fault.Unclosed f.length)) (sym (append-nil body))
    (no_end body h.is_read.can_begin.1 h.is_read.can_begin.0))
state_of (b ∷ rest) f None text h = elim (cases_Bool (is_skipped b)) [
  | inl is ↦ state_of rest (past 1 f) None text (one_skipped f text rest b is h)
  | inr other ↦ elim (cases_Bool (begins f b)) [
    | inl is ↦ (
        let begun = begun_by (is_whole f.stage) b is in
        state_of rest f (Some []) text
        (begun_read f text rest begun.0 (subst (λ (x : ℕ). IsReadUpTo (between f) text (x ∷ rest)) begun.1 h)))
    | inr early ↦ fault_read f None text (b ∷ rest) (stray f) h (no_record b rest other early)
  ]
]
state_of (b ∷ rest) f (Some body) text h = elim (cases_Bool (is_mark b)) [
  | inl is ↦ marked_state f body text rest b is h (λ g after. state_of rest g None text after)
  | inr other ↦ state_of rest f (Some (body ++ b ∷ [])) text
      (more_read f text body (b ∷ []) rest
      (All-cons (λ (x : ℕ). is_mark x ≡ false) b [] other (All-nil (λ (x : ℕ). is_mark x ≡ false))) h)
]

start_read : (text : List ℕ) → IsReadUpTo (between no_front) text text
start_read text = record { before = []; whole = refl; is_read = record { bytes = []; good = empty; whole = refl; can_begin = tt } }

text_state : (text : List ℕ) → State text
text_state text = state_of text no_front None text (start_read text)

same_batch : (a b : Batch) → batch_ok a ≡ batch_ok b → a ≡ b
same_batch a b e = cc

same_fault : (a b : BatchFault) → failed a ≡ failed b → a ≡ b
same_fault a b e = cc

apart : {P : Type 0} (b : Batch) (e : BatchFault) → batch_ok b ≡ failed e → P
apart b e h = absurd cc

-- ---- what is read is what the grammar says

file_by : (text : List ℕ) (batch : Batch) → State text → batch_of text ≡ batch_ok batch → IsFile text batch.head batch.details
file_by text batch (inl (head, details, file)) is =
    subst (λ (b : Batch). IsFile text b.head b.details)
    (same_batch (record { head = head; details = details }) batch (sym (file_is_read text head details file) ∙ is)) file
file_by text batch (inr (e, h)) is = apart batch e (sym is ∙ fault_is_read text e h)

-- what is read as a batch is its file
pub batch_is_file : (text : List ℕ) (batch : Batch) → batch_of text ≡ batch_ok batch → IsFile text batch.head batch.details
batch_is_file text batch is = file_by text batch (text_state text) is

fault_by : (text : List ℕ) (e : BatchFault) → State text → batch_of text ≡ failed e → HasFault text e
fault_by text e (inl (head, details, file)) is =
    apart (record { head = head; details = details }) e (sym (file_is_read text head details file) ∙ is)
fault_by text e (inr (d, h)) is = subst (λ (x : BatchFault). HasFault text x) (same_fault d e (sym (fault_is_read text d h) ∙ is)) h

-- what is read as a fault is that of what follows the longest good front
pub fault_is_there : (text : List ℕ) (e : BatchFault) → batch_of text ≡ failed e → HasFault text e
fault_is_there text e is = fault_by text e (text_state text) is

-- ---- what a call says that gives what is read

pub gives_file : (text : List ℕ) (result : Result Batch BatchFault) → Gives result (batch_of text)
    → IfOk result (λ batch. IsFile text batch.head batch.details)
gives_file text (Ok batch) is = batch_is_file text batch is
gives_file text (Err e) is = tt

pub gives_batch : (text : List ℕ) (result : Result Batch BatchFault) (batch : Batch) → Gives result (batch_of text)
    → IsFile text batch.head batch.details → Gives result (batch_ok batch)
gives_batch text result batch is file =
    subst (λ (meant : Result Batch BatchFault). Gives result meant) (file_is_read text batch.head batch.details file) is

pub gives_fault : (text : List ℕ) (result : Result Batch BatchFault) → Gives result (batch_of text)
    → IfErr result (λ e. UnlessMemory e (HasFault text e))
gives_fault text (Ok batch) is = tt
gives_fault text (Err e) is = unless_so e (fault_is_there text e) is
