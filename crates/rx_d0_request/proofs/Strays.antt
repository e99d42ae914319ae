-- A request is read at the door of the plan that it names; one that names none, at a door that it misses by just one thing.
use Rattle.std.proofs.Common.{◌≡◌, ℕ, suc, ◌<◌, ◌≤◌, Bool, true, false, not, ◌||◌, ◌&&◌, List, [], ◌∷◌, get_or, length, refl, sym, ap, ◌∙◌, inl, inr, arith}
use Rattle.std.specs.Prelude.{codes, is_none, is_some, max, min, nat_eq, set}
use Rattle.std.specs.List.{list_any}
use Rattle.std.proofs.lemmas.Bool.{cases_Bool}
use Rattle.std.proofs.lemmas.Cmp.{nat_list_eq_equiv}
use Rattle.rx_fields.specs.declared.code.Code.{Code}
use Rattle.rx_fields.specs.declared.code.Code.TheVariants as code
use Rattle.rx_fields.specs.declared.door.Door.{Door}
use Rattle.rx_d0_values.specs.declared.transmission.Body.{Body}
use Rattle.rx_d0_values.specs.declared.transmission.Body.TheVariants.{Rejected}
use Rattle.rx_d0_values.specs.declared.transmission.Transmission.{Transmission}
use Rattle.rx_d0_request.specs.Codes.{first_five, header_conditions, is_count, is_faulty}
use Rattle.rx_d0_request.specs.Cut.{same}
use Rattle.rx_d0_request.specs.Doors.{door_in, echo_of, has_bin, names_plan, plan_at, routed, routed_among, stray, stray_conditions, stray_rejected}
use Rattle.rx_d0_request.specs.Headers.{header_bytes, header_of, is_clean}
use Rattle.rx_d0_request.specs.declared.header.Header.{Header}
use Rattle.rx_d0_request.proofs.Bodies.{body_rejected}
use Rattle.rx_d0_request.specs.Request.{common, conditions, groups, transmission_of}
use Rattle.rx_d0_request.specs.Values.{date_in, provider_in}

-- ---- the plan that is named

pub routed_named : (all doors : List Door) (bytes : List ℕ) (d : Door) → plan_at (door_in bytes) doors < length doors
    → transmission_of (get_or doors (plan_at (door_in bytes) doors) d) bytes ≡ routed_among all doors bytes
routed_named all [] bytes d low = absurd (omega arith)
routed_named all (door ∷ doors) bytes d low = elim (cases_Bool (names_plan (door_in bytes) door)) [
  | inl named ↦ rw named refl
  | inr other ↦
      let fewer = rw other at low in
      rw other (routed_named all doors bytes d (omega (arith, fewer)))
]

pub routed_none : (all doors : List Door) (bytes : List ℕ) → length doors ≤ plan_at (door_in bytes) doors
    → routed_among all doors bytes ≡ stray all bytes
routed_none all [] bytes high = refl
routed_none all (door ∷ doors) bytes high = elim (cases_Bool (names_plan (door_in bytes) door)) [
  | inl named ↦ let bad = rw named at high in absurd (omega (arith, bad))
  | inr other ↦
      let more = rw other at high in
      rw other (routed_none all doors bytes (omega (arith, more)))
]

-- ---- rejected headers

-- the codes of a header, by whether 01 and 04 hold
abbrev rows : Header → Bool → ℕ → Bool → Bool → List (Code × Bool)
rows h is_sound groups no_bin no_number =
    (code.Bin, no_bin)
    ∷ (code.Version, not (same h.version (codes "D0")))
    ∷ (code.TransactionCode, not (same h.code (codes "B1") || same h.code (codes "B2")))
    ∷ (code.ProcessorControlNumber, no_number)
    ∷ (code.TransactionCount, not (is_count h.count groups))
    ∷ (code.Provider, is_none (provider_in h.provider))
    ∷ (code.DateOfService, is_none (date_in h.date))
    ∷ (code.Syntax, not is_sound)
    ∷ []

or_true : (a b c : Bool) → (a || (b || (true || c))) ≡ true
or_true true b c = refl
or_true false true c = refl
or_true false false c = refl

-- where one of the two holds the header is rejected
faulty_with_bin : (h : Header) (is_sound : Bool) (groups : ℕ) (no_number : Bool)
    → is_faulty (rows h is_sound groups true no_number) ≡ true
unfolding is_faulty
faulty_with_bin h is_sound groups no_number = refl

faulty_with_number : (h : Header) (is_sound : Bool) (groups : ℕ) → is_faulty (rows h is_sound groups false true) ≡ true
unfolding is_faulty
faulty_with_number h is_sound groups =
    or_true (not (same h.version (codes "D0"))) (not (same h.code (codes "B1") || same h.code (codes "B2"))) false

abbrev answers : List ℕ → ℕ
answers bytes = max 1 (min (length (groups bytes)) 4)

-- a rejected header, by its codes
abbrev rejected : List ℕ → List (Code × Bool) → Transmission
rejected bytes found =
    record { echo = echo_of bytes; body = Rejected (record { codes = first_five found; groups = answers bytes }) }

rejected_at : (door : Door) (bytes : List ℕ) → is_faulty (conditions door bytes) ≡ true
    → transmission_of door bytes ≡ rejected bytes (conditions door bytes)
unfolding transmission_of echo_of
rejected_at door bytes faulty =
    ap (λ (b : Body). record { echo = echo_of bytes; body = b })
    (sym (body_rejected door bytes (conditions door bytes) (length (groups bytes)) refl refl faulty))

module _ (bytes : List ℕ) where
  abbrev found : Bool → Bool → List (Code × Bool)
  found no_bin no_number =
      rows (header_of (header_bytes bytes)) (is_clean bytes && is_some (common bytes)) (length (groups bytes)) no_bin no_number

  conditions_are : (door : Door) → conditions door bytes
      ≡ found (not (same (door_in bytes).bin door.bin)) (not (same (door_in bytes).pcn door.pcn))
  unfolding door_in
  conditions_are door = refl

  stray_is : (doors : List Door) → stray doors bytes
      ≡ rejected bytes (found (not (list_any (has_bin (door_in bytes)) doors)) (list_any (has_bin (door_in bytes)) doors))
  unfolding stray_rejected door_in
  stray_is doors = refl

  -- a header of these two codes, one of which holds
  with_codes : (door : Door) (no_bin no_number : Bool) → not (same (door_in bytes).bin door.bin) ≡ no_bin
      → not (same (door_in bytes).pcn door.pcn) ≡ no_number → is_faulty (found no_bin no_number) ≡ true
      → transmission_of door bytes ≡ rejected bytes (found no_bin no_number)
  with_codes door no_bin no_number bin pcn faulty =
      let are : conditions door bytes ≡ found no_bin no_number =
      conditions_are door ∙ ap (λ b. found b (not (same (door_in bytes).pcn door.pcn))) bin ∙ ap (found no_bin) pcn in
      rejected_at door bytes (ap is_faulty are ∙ faulty) ∙ ap (rejected bytes) are

  -- another plan's record, or nobody's: one of the two codes holds
  pub missed_rejected : (door : Door) → names_plan (door_in bytes) door ≡ false
      → transmission_of door bytes ≡ rejected bytes (conditions door bytes)
  missed_rejected door missed = elim (cases_Bool (same (door_in bytes).bin door.bin)) [
    | inl has ↦
        let other = rw has at missed in
        rejected_at door bytes (ap is_faulty (conditions_are door
        ∙ ap (λ b. found (not b) (not (same (door_in bytes).pcn door.pcn))) has
        ∙ ap (λ b. found false (not b)) other)
        ∙ faulty_with_number (header_of (header_bytes bytes)) (is_clean bytes && is_some (common bytes)) (length (groups bytes)))
    | inr none ↦
        rejected_at door bytes (ap is_faulty (conditions_are door
        ∙ ap (λ b. found (not b) (not (same (door_in bytes).pcn door.pcn))) none)
        ∙ faulty_with_bin (header_of (header_bytes bytes)) (is_clean bytes && is_some (common bytes)) (length (groups bytes))
        (not (same (door_in bytes).pcn door.pcn)))
  ]

-- ---- the doors at which requests are read

same_self : (text : List ℕ) → same text text ≡ true
same_self text = nat_list_eq_equiv.refl text

-- texts whose first bytes differ
pub differs : (text : List ℕ) (x : ℕ) → 1 ≤ length text → nat_eq (get_or text 0 0) x ≡ false → same text (set text 0 x) ≡ false
differs [] x some other = absurd (omega arith)
differs (b ∷ text) x some other = rw other refl

module _ (doors : List Door) (asked : Door) where
  pub read_named : (bytes : List ℕ) (door d : Door) → plan_at asked doors < length doors
      → door ≡ get_or doors (plan_at asked doors) d → door_in bytes ≡ asked
      → transmission_of door bytes ≡ routed doors bytes
  read_named bytes door d low is asks =
      ap (λ (e : Door). transmission_of e bytes) (is ∙ ap (λ (a : Door). get_or doors (plan_at a doors) d) (sym asks))
      ∙ routed_named doors doors bytes d (rw asks low)

  module _ (high : length doors ≤ plan_at asked doors) (bytes : List ℕ) (asks : door_in bytes ≡ asked) where
    read_stray : (has : Bool) → list_any (has_bin asked) doors ≡ has
        → rejected bytes (found bytes (not has) has) ≡ routed doors bytes
    read_stray has is =
        let all : list_any (has_bin (door_in bytes)) doors ≡ has =
        ap (λ (a : Door). list_any (has_bin a) doors) asks ∙ is in
        sym (routed_none doors doors bytes (rw asks high) ∙ stray_is bytes doors
        ∙ ap (λ b. rejected bytes (found bytes (not b) b)) all)

    pub read_by_number : (pcn : List ℕ) → list_any (has_bin asked) doors ≡ true → same asked.pcn pcn ≡ false
        → transmission_of (record { bin = asked.bin; pcn = pcn }) bytes ≡ routed doors bytes
    read_by_number pcn has other =
        with_codes bytes (record { bin = asked.bin; pcn = pcn }) false true
        (ap (λ (a : Door). not (same a.bin asked.bin)) asks ∙ ap not (same_self asked.bin))
        (ap (λ (a : Door). not (same a.pcn pcn)) asks ∙ ap not other)
        (faulty_with_number (header_of (header_bytes bytes)) (is_clean bytes && is_some (common bytes)) (length (groups bytes)))
        ∙ read_stray true has

    pub read_by_bin : (bin : List ℕ) → list_any (has_bin asked) doors ≡ false → same asked.bin bin ≡ false
        → transmission_of (record { bin = bin; pcn = asked.pcn }) bytes ≡ routed doors bytes
    read_by_bin bin none other =
        with_codes bytes (record { bin = bin; pcn = asked.pcn }) true false
        (ap (λ (a : Door). not (same a.bin bin)) asks ∙ ap not other)
        (ap (λ (a : Door). not (same a.pcn asked.pcn)) asks ∙ ap not (same_self asked.pcn))
        (faulty_with_bin (header_of (header_bytes bytes)) (is_clean bytes && is_some (common bytes)) (length (groups bytes)) false)
        ∙ read_stray false none
