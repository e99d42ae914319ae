-- A header that names a pharmacy is that of a record of the pharmacy.
use Rattle.std.specs.Prelude.{slice_range, ◌&&◌, nat_le, is_some, if◌then◌else◌}
use Rattle.std.proofs.Common.{◌≡◌, ℕ, List, [], ◌∷◌, drop, length, take, Bool, true, false, Some, Result, Ok, Err}
use Rattle.std.proofs.Common.{refl, sym, ap, ◌∙◌, inl, inr}
use Rattle.std.specs.List.{list_all}
use Rattle.std.specs.Option.{unwrap_or}
use Rattle.std.specs.Result.{result_ok}
use Rattle.std.proofs.lemmas.Bool.{cases_Bool}
use Rattle.std.proofs.lemmas.List.{take-append-drop}
use Rattle.std.proofs.lemmas.List.Folds.{list_all-append}
use Rattle.rx_commands.specs.Elsewhere.{is_own_body, is_own_record}
use Rattle.rx_commands.specs.ForProvider.{is_id_of}
use Rattle.rx_d0_request.specs.Codes.{is_faulty}
use Rattle.rx_d0_request.specs.Headers.{header_bytes, header_of, is_clean}
use Rattle.rx_d0_request.specs.Request.{body, common, conditions, groups, transmission_of}
use Rattle.rx_d0_request.specs.declared.header.TheConstants.{HEADER_LENGTH}
use Rattle.rx_d0_request.proofs.Faults.{header_unsound}
use Rattle.rx_d0_values.specs.Echoed.{blanked}
use Rattle.rx_d0_values.specs.declared.transmission.Body.{Body}
use Rattle.rx_d0_values.specs.declared.transmission.Body.TheVariants.{Rejected, Heard}
use Rattle.rx_d0_values.specs.declared.transmission.Heard.{Heard as HeardRecord}
use Rattle.rx_d0_values.specs.declared.transmission.Rejected.{Rejected as RejectedHeader}
use Rattle.rx_fields.specs.Text.{id_of}
use Rattle.rx_fields.specs.declared.door.Door.{Door}
use Rattle.rx_fields.specs.declared.fault.IdFault.{IdFault}
use Rattle.rx_ledger.specs.Members as members
use Rattle.rx_ledger.proofs.SameText as ledger
use Rattle.rx_report.specs.Accounts.{names_provider}
use Rattle.rx_report.proofs.Parted.{same_text}
use Rattle.rx_settle.specs.Providers.{is_same, named}
use Rattle.rx_text.specs.Bytes.{is_printable}

-- ---- printable bytes

and-parts : (b c : Bool) → (b && c) ≡ true → (b ≡ true) × (c ≡ true)
and-parts true c is = (refl, is)
and-parts false c is = absurd (let e : false ≡ true = is in cc)

printable-kept : (bytes : List ℕ) → list_all is_printable bytes ≡ true → blanked bytes ≡ bytes
printable-kept [] all = refl
printable-kept (b ∷ bytes) all =
    let parts = and-parts (is_printable b) (list_all is_printable bytes) all in
    rw parts.0 (ap (λ rest. b ∷ rest) (printable-kept bytes parts.1))

printable-parts : (n : ℕ) (bytes : List ℕ) → list_all is_printable bytes ≡ true
    → (list_all is_printable (take n bytes) ≡ true) × (list_all is_printable (drop n bytes) ≡ true)
printable-parts n bytes all =
    and-parts (list_all is_printable (take n bytes)) (list_all is_printable (drop n bytes))
    (sym (list_all-append is_printable (take n bytes) (drop n bytes)) ∙ ap (list_all is_printable) (take-append-drop n bytes) ∙ all)

-- ---- the header of a record that is accepted

heard-if : (b : Bool) (j : RejectedHeader) (k h : HeardRecord) → (if b then Rejected j else Heard k) ≡ Heard h → (b ≡ false) × (k ≡ h)
heard-if true j k h is = absurd (let e : Rejected j ≡ Heard h = is in cc)
heard-if false j k h is = (refl, let e : Heard k ≡ Heard h = is in cc)

clean-printable : (bytes : List ℕ) → is_clean bytes ≡ true → list_all is_printable (header_bytes bytes) ≡ true
unfolding is_clean
clean-printable bytes is =
    (and-parts (nat_le HEADER_LENGTH (length bytes)) (list_all is_printable (header_bytes bytes)) is).1

sound-clean : (door : Door) (bytes : List ℕ) → is_faulty (conditions door bytes) ≡ false → is_clean bytes ≡ true
sound-clean door bytes fine = elim (cases_Bool (is_clean bytes && is_some (common bytes))) [
  | inl sound ↦ (and-parts (is_clean bytes) (is_some (common bytes)) sound).0
  | inr unsound ↦
      let faulty : is_faulty (conditions door bytes) ≡ true =
      header_unsound door (header_of (header_bytes bytes)) (is_clean bytes && is_some (common bytes)) (length (groups bytes)) unsound in
      absurd (let e : true ≡ false = sym faulty ∙ fine in cc)
]

header-named : (door : Door) (bytes : List ℕ) (h : HeardRecord) → (transmission_of door bytes).body ≡ Heard h
    → named (transmission_of door bytes).echo.provider ≡ h.provider
unfolding transmission_of body header_of
header-named door bytes h is =
    let parts = heard-if (is_faulty (conditions door bytes)) _ _ h is in
    let whole = clean-printable bytes (sound-clean door bytes parts.0) in
    let field : List ℕ = slice_range (header_bytes bytes) 23 38 in
    let printable : list_all is_printable field ≡ true =
    (printable-parts 15 (drop 23 (header_bytes bytes)) (printable-parts 23 (header_bytes bytes) whole).1).0 in
    ap named (printable-kept field printable) ∙ ap (λ (k : HeardRecord). k.provider) parts.1

-- ---- the pharmacy that it names

module _ (own : List ℕ) (some : ¬ (own ≡ [])) where
  turned : (id : List ℕ) → is_same own id ≡ true → members.is_same id own ≡ true
  turned id is =
      let same : own ≡ id = same_text own id is in
      ap (λ x. members.is_same x own) (sym same) ∙ ap (members.is_same own) same ∙ sym (ledger.same_text own id) ∙ is

  by-id : (o : Result (List ℕ) IdFault) → is_same own (unwrap_or (result_ok o) []) ≡ true → is_id_of own o ≡ true
  by-id (Ok id) is = turned id is
  by-id (Err f) is = absurd (some (same_text own [] is))

  by-body : (field : List ℕ) (b : Body) → ((h : HeardRecord) → b ≡ Heard h → named field ≡ h.provider)
      → names_provider own field ≡ true → is_own_body own field b ≡ true
  by-body field (Rejected r) names is = by-id (id_of 15 field) is
  by-body field (Heard h) names is = turned h.provider (ap (is_same own) (sym (names h refl)) ∙ is)

  pub not-named : (door : Door) (bytes : List ℕ) → is_own_record own (Some (transmission_of door bytes)) ≡ false
      → names_provider own (transmission_of door bytes).echo.provider ≡ false
  not-named door bytes other = elim (cases_Bool (names_provider own (transmission_of door bytes).echo.provider)) [
    | inl is ↦
        let owned = by-body (transmission_of door bytes).echo.provider (transmission_of door bytes).body (header-named door bytes) is in
        absurd (let e : true ≡ false = sym owned ∙ other in cc)
    | inr strange ↦ strange
  ]
