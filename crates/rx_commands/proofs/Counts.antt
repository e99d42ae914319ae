-- Two adjudications of the same details have as many answers to each, and repeat the same of it.
use Rattle.std.proofs.Common.{◌≡◌, ◌≤◌, ℕ, suc, ◌+◌, max, min, nat_le, Bool, true, false, ◌==◌, ◌&&◌, ◌||◌, not, is_none, is_some, codes, List, [], ◌∷◌, length, refl, ap}
use Rattle.std.proofs.Common.{sym, ◌∙◌, inl, inr, subst}
use Rattle.std.specs.List.{AllZip}
use Rattle.std.proofs.Math.Nat.{le-max_left, max-eq_right, min-eq_left}
use Rattle.std.proofs.lemmas.Bool.{and_parts, cases_Bool, leb-true, or_parts}
use Rattle.std.proofs.lemmas.List.{length-map, length-replicate}
use Rattle.rx_batch.specs.declared.detail.Detail.{Detail}
use Rattle.rx_d0_values.specs.Listed.{is_few}
use Rattle.rx_d0_values.specs.declared.reply.Reply.{Reply}
use Rattle.rx_d0_values.specs.declared.transaction.Transaction.{Transaction}
use Rattle.rx_d0_values.specs.declared.transmission.Body.{Body}
use Rattle.rx_d0_values.specs.declared.transmission.Body.TheVariants.{Rejected, Heard}
use Rattle.rx_d0_values.specs.declared.transmission.Heard.{Heard as HeardRecord}
use Rattle.rx_d0_request.specs.Codes.{is_count, is_faulty}
use Rattle.rx_d0_request.specs.Cut.{same}
use Rattle.rx_d0_request.specs.Headers.{header_bytes, header_of, is_clean}
use Rattle.rx_d0_request.specs.Request.{body, common, conditions, groups, transmission_of}
use Rattle.rx_d0_request.specs.Values.{date_in, provider_in}
use Rattle.rx_fields.specs.Numbered.{LotParts}
use Rattle.rx_fields.specs.declared.door.Door.{Door}
use Rattle.rx_ledger.specs.Fold.{answers_from, asked, fold_replies, ledger_after, outcome_of}
use Rattle.rx_ledger.specs.Answers.{after, answer}
use Rattle.rx_ledger.specs.Ledger.{Ledger}
use Rattle.rx_ledger.specs.Plan.{Plan}
use Rattle.rx_settle.specs.Answers.{answers_in}
use Rattle.rx_wave.specs.Decoding.{transmissions_of}

-- they repeat the same, and have as many answers, of which there is one
pub record Alike (r s : Reply) : Type 0 where
  pub echo : r.echo ≡ s.echo
  pub count : length (answers_in r.outcome) ≡ length (answers_in s.outcome)
  pub some : 1 ≤ length (answers_in r.outcome)

-- how many answers there are to these bytes
count_to : List ℕ → ℕ
count_to bytes = max 1 (min (length (groups bytes)) 4)

one_each : (lot : LotParts) (plan : Plan) (place : ℕ) (h : HeardRecord) (nth : ℕ) (ts : List Transaction) (L : Ledger)
    → length (answers_from lot plan place h nth ts L) ≡ length ts
one_each lot plan place h nth [] L = refl
one_each lot plan place h nth (t ∷ ts) L =
    let a = asked lot plan place h nth in
    ap suc (one_each lot plan place h (nth + 1) ts (after a L t (answer a L t)))

few_is_itself : (n : ℕ) → is_few n ≡ true → n ≡ max 1 (min n 4)
few_is_itself n few =
    let both = and_parts (nat_le 1 n) (nat_le n 4) few in
    sym (ap (max 1) (min-eq_left (leb-true n 4 both.1)) ∙ max-eq_right (leb-true 1 n both.0))

unnot : (b : Bool) → not b ≡ false → b ≡ true
unnot true e = refl
unnot false e = sym e

fifth_fails : (a b c d e rest : Bool) → (a || (b || (c || (d || (e || rest))))) ≡ false → e ≡ false
fifth_fails a b c d e rest none =
    let one = or_parts a (b || (c || (d || (e || rest)))) none in
    let two = or_parts b (c || (d || (e || rest))) one.1 in
    let three = or_parts c (d || (e || rest)) two.1 in
    let four = or_parts d (e || rest) three.1 in
    (or_parts e rest four.1).0

-- a header whose conditions don't hold has the count of its groups
count_held : (door : Door) (bytes : List ℕ) → is_faulty (conditions door bytes) ≡ false
    → is_few (length (groups bytes)) ≡ true
unfolding is_faulty
count_held door bytes sound =
    let h = header_of (header_bytes bytes) in
    let many = length (groups bytes) in
    let fails : not (is_count h.count many) ≡ false =
    fifth_fails (not (same h.bin door.bin)) (not (same h.version (codes "D0")))
    (not (same h.code (codes "B1") || same h.code (codes "B2"))) (not (same h.pcn door.pcn)) (not (is_count h.count many))
    (is_none (provider_in h.provider) || (is_none (date_in h.date)
    || (not (is_clean bytes && is_some (common bytes)) || false))) sound in
    (and_parts (is_few many) (h.count == 48 + many) (unnot (is_count h.count many) fails)).0

-- how many answers there are to a body
answers_to : Body → ℕ
answers_to (Rejected r) = r.groups
answers_to (Heard h) = length h.list

by_body : (lot : LotParts) (plan : Plan) (place : ℕ) (L : Ledger) (b : Body)
    → length (answers_in (outcome_of lot plan place L b)) ≡ answers_to b
unfolding answers_to
by_body lot plan place L (Rejected r) = length-replicate r.groups _
by_body lot plan place L (Heard h) = one_each lot plan place h 1 h.list L

body_counted : (door : Door) (bytes : List ℕ) → answers_to (body door bytes) ≡ count_to bytes
unfolding body count_to answers_to
body_counted door bytes = elim (cases_Bool (is_faulty (conditions door bytes))) [
  | inl faulty ↦ rw faulty refl
  | inr sound ↦ rw sound (
      length-map (groups bytes) _ ∙ few_is_itself (length (groups bytes)) (count_held door bytes sound))
]

counted : (lot : LotParts) (plan : Plan) (place : ℕ) (L : Ledger) (door : Door) (bytes : List ℕ)
    → length (answers_in (outcome_of lot plan place L (body door bytes))) ≡ count_to bytes
counted lot plan place L door bytes = by_body lot plan place L (body door bytes) ∙ body_counted door bytes

some_count : (bytes : List ℕ) → 1 ≤ count_to bytes
unfolding count_to
some_count bytes = le-max_left 1 (min (length (groups bytes)) 4)

module _ (lot mot : LotParts) (plan other : Plan) (door gate : Door) where
  alike : (place : ℕ) (d : Detail) (L M : Ledger)
      → Alike
      (record { echo = (transmission_of door d.text).echo; outcome = outcome_of lot plan place L (transmission_of door d.text).body })
      (record { echo = (transmission_of gate d.text).echo; outcome = outcome_of mot other place M (transmission_of gate d.text).body })
  unfolding transmission_of
  alike place d L M =
      let one = counted lot plan place L door d.text in
      let two = counted mot other place M gate d.text in
      record {
        echo = refl;
        count = one ∙ sym two;
        some = subst (λ (n : ℕ). 1 ≤ n) (sym one) (some_count d.text);
      }

  pub all_alike : (place : ℕ) (ds : List Detail) (L M : Ledger)
      → AllZip Alike (fold_replies lot plan place (transmissions_of door ds) L)
      (fold_replies mot other place (transmissions_of gate ds) M)
  all_alike place [] L M = tt
  all_alike place (d ∷ ds) L M = (
    alike place d L M,
    all_alike (place + 1) ds (ledger_after lot plan place (transmission_of door d.text) L)
        (ledger_after mot other place (transmission_of gate d.text) M),
  )
