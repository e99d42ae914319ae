-- Replies are read as they are written.
use Rattle.std.proofs.Common.{◌≡◌, ℕ, zero, suc, ◌-◌, ◌≤◌, true, cond, eqb, List, [], ◌∷◌, ◌++◌, length, take, replicate, Option}
use Rattle.std.proofs.Common.{Some, None, refl, sym, ap, subst, ◌∙◌, append_assoc, arith, codes, inl, inr, lit<, length-append}
use Rattle.std.specs.Prelude.{nat_le}
use Rattle.std.specs.List.{flat_map, AllByRecursion}
use Rattle.std.proofs.lemmas.Bool.{and_parts, leb-true, le-leb, eqb-true}
use Rattle.std.proofs.lemmas.List.{append-nil, nil_from_length, take_at, length-replicate}
use Rattle.std.proofs.lemmas.List.Concat.{flat_map-cons}
use Rattle.rx_fields.specs.declared.code.Code.{Code}
use Rattle.rx_fields.specs.Digits.{digits_text}
use Rattle.rx_d0_values.specs.declared.echo.EchoParts.{EchoParts}
use Rattle.rx_d0_values.specs.declared.reply.Answer.{Answer}
use Rattle.rx_d0_values.specs.declared.reply.Answer.TheVariants as answer
use Rattle.rx_d0_values.specs.declared.reply.Outcome.{Outcome}
use Rattle.rx_d0_values.specs.declared.reply.Outcome.TheVariants as outcome
use Rattle.rx_d0_values.specs.declared.reply.Reply.{Reply}
use Rattle.rx_d0_values.specs.Echoed.{echo_of, is_echo}
use Rattle.rx_d0_values.specs.Listed.{is_few}
use Rattle.rx_d0_reply.specs.declared.reading.header.Front.{Front}
use Rattle.rx_d0_reply.specs.declared.reading.header.Back.{Back}
use Rattle.rx_d0_reply.specs.declared.reading.header.Header.{Header}
use Rattle.rx_d0_reply.specs.declared.reading.header.Status.{Status}
use Rattle.rx_d0_reply.specs.declared.reading.header.Status.TheVariants as status
use Rattle.rx_d0_reply.specs.Text.{group_text, answers_of, status_of, header_text, reply_text}
use Rattle.rx_d0_reply.specs.Limits.{IsHeader, AreCodes, IsAnswer, IsOutcome, IsReply}
use Rattle.rx_text.specs.Options.{◌>>=◌}
use Rattle.rx_d0_reply.specs.Readers.{after, times, behind}
use Rattle.rx_d0_reply.specs.Reading.{group_at, status_at, front_at, back_at, header_of, header_at, alone, heard_of, heard_in}
use Rattle.rx_d0_reply.specs.Reading.{refusal_label, refusal_at, is_nothing, are_copies, rejected_in, outcome_in, reply_in}
use Rattle.rx_text.proofs.Steps.{bind_some, guarded, some_same, chain}
use Rattle.rx_d0_reply.proofs.Laws.{after_takes, after_again, Reads, Always}
use Rattle.rx_d0_reply.proofs.Laws.{labelled-reads, pair-reads, made-reads, shaped-reads, times-reads}
use Rattle.rx_d0_reply.proofs.FieldLaws.{bytes-reads, number-reads}
use Rattle.rx_d0_reply.proofs.AnswerLaws.{Ends, group-reads, codes_body, codes-reads, chosen, regrouped}

-- ---- the header

abbrev status_text : Status → List ℕ
status_text status.Heard = codes "A"
status_text status.Rejected = codes "R"

abbrev AnyStatus : Status → Type 0
AnyStatus s = Unit {0}

abbrev IsStatus : List ℕ → Status × List ℕ → Type 0
IsStatus bs x = (bs ≡ status_text x.0 ++ x.1) × Unit {0}

status_takes : (bs : List ℕ) (x : Status × List ℕ) → status_at bs ≡ Some x → IsStatus bs x
unfolding status_at
status_takes [] x e = absurd cc
status_takes (b ∷ bs) x e = elim (chosen (eqb b 65) _ _ x e) [
  | inl p ↦ subst (IsStatus (b ∷ bs)) (some_same p.1) (ap (λ (c : ℕ). c ∷ bs) (eqb-true b 65 p.0), tt)
  | inr q ↦ elim (chosen (eqb b 82) _ _ x q.1) [
    | inl p ↦ subst (IsStatus (b ∷ bs)) (some_same p.1) (ap (λ (c : ℕ). c ∷ bs) (eqb-true b 82 p.0), tt)
    | inr q ↦ absurd (let none = q.1 in cc)
  ]
]

status_again : (s : Status) (rest : List ℕ) → status_at (status_text s ++ rest) ≡ Some (s, rest)
unfolding status_at
status_again status.Heard rest = refl
status_again status.Rejected rest = refl

status-reads : Reads status_at status_text AnyStatus Always
status-reads = record { takes = status_takes; again = λ s rest fits ends. status_again s rest }

abbrev front_text : Front → List ℕ
front_text f = ((f.version ++ f.code) ++ digits_text 1 f.count) ++ status_text f.status

abbrev IsFront : Front → Type 0
IsFront f = (((length f.version ≡ 2) × (length f.code ≡ 2)) × ((1 ≤ f.count) × (f.count ≤ 4))) × Unit {0}

front-reads : Reads front_at front_text IsFront Always
unfolding front_at
front-reads =
    shaped-reads (λ x. record { version = x.0.0.0; code = x.0.0.1; count = x.0.1; status = x.1 })
    (λ f. (((f.version, f.code), f.count), f.status)) front_text IsFront
    (pair-reads
    (pair-reads (pair-reads (bytes-reads 2) (bytes-reads 2)) (number-reads 1 4 1 (lit< tt)))
    status-reads)
    (λ a fits. (refl, fits)) (λ f fits. (refl, fits, refl))

abbrev back_text : Back → List ℕ
back_text b = (b.qualifier ++ b.provider) ++ b.date

abbrev IsBack : Back → Type 0
IsBack b = ((length b.qualifier ≡ 2) × (length b.provider ≡ 15)) × (length b.date ≡ 8)

back-reads : Reads back_at back_text IsBack Always
unfolding back_at
back-reads =
    shaped-reads (λ x. record { qualifier = x.0.0; provider = x.0.1; date = x.1 })
    (λ b. ((b.qualifier, b.provider), b.date)) back_text IsBack
    (pair-reads (pair-reads (bytes-reads 2) (bytes-reads 15)) (bytes-reads 8))
    (λ a fits. (refl, fits)) (λ b fits. (refl, fits, refl))

abbrev spelt_header : Header → List ℕ
spelt_header h = header_text h.echo h.count (status_text h.status)

-- a header of a reply with that many answers
record IsCounted (h : Header) : Type 0 where
  echo : IsHeader h.echo
  some : 1 ≤ h.count
  few : h.count ≤ 4

abbrev parts_of : Front × Back → EchoParts
parts_of x =
    record { version = x.0.version; code = x.0.code; qualifier = x.1.qualifier; provider = x.1.provider; date = x.1.date }

header_is : (x : Front × Back) (h : Header) → IsFront x.0 × IsBack x.1 → header_of x ≡ Some h
    → (front_text x.0 ++ back_text x.1 ≡ spelt_header h) × IsCounted h
header_is x h fits e =
    let echo = bind_some (echo_of (parts_of x))
    (λ echo. Some (record { echo = echo; count = x.0.count; status = x.0.status })) h e in
    let printable = guarded (is_echo (parts_of x)) (Some (parts_of x)) echo.0 echo.1 in
    let same : record { echo = parts_of x; count = x.0.count; status = x.0.status } ≡ h =
    ap (λ (p : EchoParts). record { echo = p; count = x.0.count; status = x.0.status }) (some_same printable.1)
    ∙ some_same echo.2 in
    subst (λ (k : Header). (front_text x.0 ++ back_text x.1 ≡ spelt_header k) × IsCounted k) same (
      regrouped (front_text x.0) x.1.qualifier x.1.provider x.1.date,
      record {
        echo = record {
          version = fits.0.0.0.0;
          code = fits.0.0.0.1;
          qualifier = fits.1.0.0;
          provider = fits.1.0.1;
          date = fits.1.1;
          printable = printable.0;
        };
        some = fits.0.0.1.0;
        few = fits.0.0.1.1;
      },
    )

abbrev header_back : Header → Front × Back
header_back h = (
  record { version = h.echo.version; code = h.echo.code; count = h.count; status = h.status },
  record { qualifier = h.echo.qualifier; provider = h.echo.provider; date = h.echo.date },
)

header_again : (h : Header) → IsCounted h → header_of (header_back h) ≡ Some h
header_again h fits =
    chain (echo_of h.echo) (λ echo. Some (record { echo = echo; count = h.count; status = h.status })) h.echo
    (rw fits.echo.printable refl) refl

header-reads : Reads header_at spelt_header IsCounted Always
unfolding header_at
header-reads =
    made-reads header_of header_back spelt_header IsCounted (pair-reads front-reads back-reads) header_is
    (λ h fits. (
      header_again h fits,
      (
        (((fits.echo.version, fits.echo.code), (fits.some, fits.few)), tt),
        ((fits.echo.qualifier, fits.echo.provider), fits.echo.date),
      ),
      sym (regrouped (front_text (header_back h).0) h.echo.qualifier h.echo.provider h.echo.date),
    ))

-- ---- what is answered

-- the bytes are the groups of that many answers, under that status
record IsIn (o : Outcome) (status : List ℕ) (count : ℕ) (bs : List ℕ) : Type 0 where
  text : bs ≡ flat_map group_text (answers_of o)
  as_many : length (answers_of o) ≡ count
  under : status_of o ≡ status
  within : IsOutcome o

is_alone : {A : Type 0} (x : A × List ℕ) (y : A) → alone x ≡ Some y → (x.0 ≡ y) × (x.1 ≡ [])
is_alone x y e =
    let g = guarded (eqb (length x.1) 0) (Some x.0) y e in
    (some_same g.1, nil_from_length x.1 (eqb-true (length x.1) 0 g.0))

groups-reads : (n : ℕ) → Reads (times group_at n) (flat_map group_text)
    (λ answers. (length answers ≡ n) × AllByRecursion IsAnswer answers) Ends
groups-reads n = times-reads group-reads (λ a rest. refl) n

heard_is : (n : ℕ) (bs : List ℕ) (o : Outcome) → heard_in n bs ≡ Some o → IsIn o (codes "A") n bs
unfolding heard_in
heard_is n bs o e =
    let all = bind_some (times group_at n bs >>= alone) heard_of o e in
    let read = bind_some (times group_at n bs) alone all.0 all.1 in
    let last = is_alone read.0 all.0 read.2 in
    let few = guarded (is_few (length all.0)) (Some (outcome.Heard all.0)) o all.2 in
    let taken = (groups-reads n).takes bs read.0 read.1 in
    let text : bs ≡ flat_map group_text all.0 =
    taken.0 ∙ (ap (λ (t : List ℕ). flat_map group_text read.0.0 ++ t) last.1
    ∙ (append-nil (flat_map group_text read.0.0) ∙ ap (flat_map group_text) last.0)) in
    subst (λ (x : Outcome). IsIn x (codes "A") n bs) (some_same few.1)
    (record {
      text = text;
      as_many = ap length (sym last.0) ∙ taken.1.0;
      under = refl;
      within = (few.0, subst (AllByRecursion IsAnswer) last.0 taken.1.1);
    })

heard_again : (answers : List Answer) → IsOutcome (outcome.Heard answers)
    → heard_in (length answers) (flat_map group_text answers) ≡ Some (outcome.Heard answers)
unfolding heard_in
heard_again answers fits =
    let read : times group_at (length answers) (flat_map group_text answers) ≡ Some (answers, []) =
    ap (times group_at (length answers)) (sym (append-nil (flat_map group_text answers)))
    ∙ (groups-reads (length answers)).again answers [] (refl, fits.1) tt in
    chain (times group_at (length answers) (flat_map group_text answers) >>= alone) heard_of answers
    (chain (times group_at (length answers) (flat_map group_text answers)) alone (answers, []) read refl)
    (rw fits.0 refl)

-- ---- a rejected header

refusal-reads : Reads refusal_at (λ cs. refusal_label ++ codes_body cs) AreCodes Always
unfolding refusal_at
refusal-reads = labelled-reads refusal_label codes-reads

abbrev refusal_of : List Code → Answer
refusal_of cs = answer.Refused (record { codes = cs; reference = None })

refusal_text : (cs : List Code) → refusal_label ++ codes_body cs ≡ group_text (refusal_of cs)
refusal_text cs = ap (λ (t : List ℕ). refusal_label ++ t) (sym (append-nil (codes_body cs)))

behind_takes : (a : Answer) (n : ℕ) (bs rest : List ℕ) → behind n (group_text a) bs ≡ Some rest
    → bs ≡ flat_map group_text (replicate n a) ++ rest
unfolding behind
behind_takes a zero bs rest e = some_same e
behind_takes a (suc n) bs rest e =
    let first = bind_some (after (group_text a) bs) (behind n (group_text a)) rest e in
    after_takes (group_text a) bs first.0 first.1
    ∙ (ap (λ (t : List ℕ). group_text a ++ t) (behind_takes a n first.0 rest first.2)
    ∙ (sym (append_assoc (group_text a) (flat_map group_text (replicate n a)) rest)
    ∙ ap (λ (t : List ℕ). t ++ rest) (sym (flat_map-cons group_text a (replicate n a)))))

behind_again : (a : Answer) (n : ℕ) (rest : List ℕ)
    → behind n (group_text a) (flat_map group_text (replicate n a) ++ rest) ≡ Some rest
unfolding behind
behind_again a zero rest = refl
behind_again a (suc n) rest =
    ap (behind (suc n) (group_text a)) (ap (λ (t : List ℕ). t ++ rest) (flat_map-cons group_text a (replicate n a))
    ∙ append_assoc (group_text a) (flat_map group_text (replicate n a)) rest)
    ∙ chain (after (group_text a) (group_text a ++ (flat_map group_text (replicate n a) ++ rest)))
    (behind n (group_text a))
    (flat_map group_text (replicate n a) ++ rest)
    (after_again (group_text a) (flat_map group_text (replicate n a) ++ rest))
    (behind_again a n rest)

nothing_is : (o : Option (List ℕ)) → is_nothing o ≡ true → o ≡ Some []
nothing_is None e = absurd cc
nothing_is (Some rest) e = ap (λ (t : List ℕ). Some t) (nil_from_length rest (eqb-true (length rest) 0 e))

copies_are : (a : Answer) (n : ℕ) (text bs : List ℕ) → text ≡ group_text a → are_copies n text bs ≡ true
    → bs ≡ flat_map group_text (replicate n a)
unfolding are_copies
copies_are a n text bs is e =
    let copies : behind n (group_text a) bs ≡ Some [] = ap (λ (t : List ℕ). behind n t bs) (sym is)
    ∙ nothing_is (behind n text bs) e in
    behind_takes a n bs [] copies ∙ append-nil (flat_map group_text (replicate n a))

copies_again : (a : Answer) (n : ℕ) (text : List ℕ) → text ≡ group_text a
    → are_copies n text (flat_map group_text (replicate n a)) ≡ true
unfolding are_copies
copies_again a n text is =
    let copies : behind n text (flat_map group_text (replicate n a)) ≡ Some [] =
    ap (λ (t : List ℕ). behind n t (flat_map group_text (replicate n a))) is
    ∙ (ap (behind n (group_text a)) (sym (append-nil (flat_map group_text (replicate n a)))) ∙ behind_again a n []) in
    ap is_nothing copies

-- what stands before the rest
front_of : (bs text rest : List ℕ) → bs ≡ text ++ rest → take (length bs - length rest) bs ≡ text
front_of bs text rest is =
    ap (λ (t : List ℕ). take (length bs - length rest) t) is
    ∙ take_at text rest (length bs - length rest) (omega (arith, ap length is, length-append text rest))

few_is : (n : ℕ) → is_few n ≡ true → (1 ≤ n) × (n ≤ 4)
few_is n e = let parts = and_parts (nat_le 1 n) (nat_le n 4) e in (leb-true 1 n parts.0, leb-true n 4 parts.1)

few_again : (n : ℕ) → 1 ≤ n → n ≤ 4 → is_few n ≡ true
few_again n some few = rw (le-leb 1 n some, le-leb n 4 few) refl

abbrev rejected : List Code → ℕ → Outcome
rejected cs n = outcome.Rejected (record { codes = cs; groups = n })

rejected_is : (n : ℕ) (bs : List ℕ) (o : Outcome) → 1 ≤ n → n ≤ 4 → rejected_in n bs ≡ Some o → IsIn o (codes "R") n bs
unfolding rejected_in
rejected_is zero bs o some few e = absurd (omega arith)
rejected_is (suc n) bs o some few e =
    let x = bind_some (refusal_at bs)
    (λ x. cond (are_copies (suc n - 1) (take (length bs - length x.1) bs) x.1)
    (Some (rejected x.0 (suc n))) None) o e in
    let g = guarded (are_copies (suc n - 1) (take (length bs - length x.0.1) bs) x.0.1)
    (Some (rejected x.0.0 (suc n))) o x.2 in
    let less : suc n - 1 ≡ n = omega arith in
    let a = refusal_of x.0.0 in
    let taken = refusal-reads.takes bs x.0 x.1 in
    let front : take (length bs - length x.0.1) bs ≡ group_text a =
    front_of bs (refusal_label ++ codes_body x.0.0) x.0.1 taken.0 ∙ refusal_text x.0.0 in
    let copies : are_copies n (take (length bs - length x.0.1) bs) x.0.1 ≡ true =
    ap (λ (k : ℕ). are_copies k (take (length bs - length x.0.1) bs) x.0.1) (sym less) ∙ g.0 in
    let others : x.0.1 ≡ flat_map group_text (replicate n a) = copies_are a n
    (take (length bs - length x.0.1) bs) x.0.1 front copies in
    let text : bs ≡ flat_map group_text (replicate (suc n) a) =
    taken.0 ∙ (ap (λ (t : List ℕ). t ++ x.0.1) (refusal_text x.0.0)
    ∙ (ap (λ (t : List ℕ). group_text a ++ t) others ∙ sym (flat_map-cons group_text a (replicate n a)))) in
    subst (λ (y : Outcome). IsIn y (codes "R") (suc n) bs) (some_same g.1)
    (record {
      text = text;
      as_many = length-replicate (suc n) a;
      under = refl;
      within = (few_again (suc n) some few, taken.1);
    })

rejected_again : (cs : List Code) (n : ℕ) → 1 ≤ n → AreCodes cs
    → rejected_in n (flat_map group_text (replicate n (refusal_of cs))) ≡ Some (rejected cs n)
unfolding rejected_in
rejected_again cs zero some fits = absurd (omega arith)
rejected_again cs (suc n) some fits =
    let a = refusal_of cs in
    let rest = flat_map group_text (replicate n a) in
    let bs = flat_map group_text (replicate (suc n) a) in
    let text : bs ≡ (refusal_label ++ codes_body cs) ++ rest =
    flat_map-cons group_text a (replicate n a) ∙ ap (λ (t : List ℕ). t ++ rest) (sym (refusal_text cs)) in
    let less : suc n - 1 ≡ n = omega arith in
    let front : take (length bs - length rest) bs ≡ group_text a = front_of bs
    (refusal_label ++ codes_body cs) rest text ∙ refusal_text cs in
    let copies : are_copies (suc n - 1) (take (length bs - length rest) bs) rest ≡ true =
    ap (λ (k : ℕ). are_copies k (take (length bs - length rest) bs) rest) less
    ∙ copies_again a n (take (length bs - length rest) bs) front in
    chain (refusal_at bs) (λ x. cond (are_copies (suc n - 1) (take (length bs - length x.1) bs) x.1)
    (Some (rejected x.0 (suc n))) None) (cs, rest)
    (ap refusal_at text ∙ refusal-reads.again cs rest fits tt) (rw copies refl)

-- ---- the reply

outcome_is : (s : Status) (n : ℕ) (bs : List ℕ) (o : Outcome) → 1 ≤ n → n ≤ 4 → outcome_in s n bs ≡ Some o
    → IsIn o (status_text s) n bs
outcome_is status.Heard n bs o some few e = heard_is n bs o e
outcome_is status.Rejected n bs o some few e = rejected_is n bs o some few e

abbrev status_in : Outcome → Status
status_in (outcome.Rejected r) = status.Rejected
status_in (outcome.Heard answers) = status.Heard

outcome_again : (o : Outcome) → IsOutcome o
    → (outcome_in (status_in o) (length (answers_of o)) (flat_map group_text (answers_of o)) ≡ Some o) ×
    (status_text (status_in o) ≡ status_of o)
    × ((1 ≤ length (answers_of o)) × (length (answers_of o) ≤ 4))
outcome_again (outcome.Rejected r) fits =
    let few = few_is r.groups fits.0 in
    let len : length (replicate r.groups (refusal_of r.codes)) ≡ r.groups = length-replicate r.groups
    (refusal_of r.codes) in (
      ap (λ (k : ℕ). rejected_in k (flat_map group_text (replicate r.groups (refusal_of r.codes)))) len
          ∙ rejected_again r.codes r.groups few.0 fits.1,
      refl,
      (omega (arith, len, few.0), omega (arith, len, few.1)),
    )
outcome_again (outcome.Heard answers) fits = (heard_again answers fits, refl, few_is (length answers) fits.0)

abbrev made_reply : EchoParts → Outcome → Reply
made_reply echo o = record { echo = echo; outcome = o }

-- the header's text, and then the groups' text
text_is : (bs : List ℕ) (h : Header) (o : Outcome) (rest : List ℕ) → bs ≡ spelt_header h ++ rest
    → IsIn o (status_text h.status) h.count rest → bs ≡ reply_text (made_reply h.echo o)
text_is bs h o rest header all =
    let groups = flat_map group_text (answers_of o) in
    let behind : bs ≡ spelt_header h ++ groups = header ∙ ap (λ (t : List ℕ). spelt_header h ++ t) all.text in
    let counted : bs ≡ header_text h.echo (length (answers_of o)) (status_text h.status) ++ groups =
    behind ∙ ap (λ (k : ℕ). header_text h.echo k (status_text h.status) ++ groups) (sym all.as_many) in
    counted ∙ ap (λ (t : List ℕ). header_text h.echo (length (answers_of o)) t ++ groups) (sym all.under)

-- what is read is a reply within the limits, and the bytes are its text
pub reply_is : (bs : List ℕ) (r : Reply) → reply_in bs ≡ Some r → IsReply r × (bs ≡ reply_text r)
unfolding reply_in
reply_is bs r e =
    let h = bind_some (header_at bs)
    (λ h. outcome_in h.0.status h.0.count h.1 >>= λ o. Some (made_reply h.0.echo o)) r e in
    let o = bind_some (outcome_in h.0.0.status h.0.0.count h.0.1) (λ o. Some (made_reply h.0.0.echo o)) r h.2 in
    let header = header-reads.takes bs h.0 h.1 in
    let outcome = outcome_is h.0.0.status h.0.0.count h.0.1 o.0 header.1.some header.1.few o.1 in
    subst (λ (x : Reply). IsReply x × (bs ≡ reply_text x)) (some_same o.2)
    (record { echo = header.1.echo; outcome = outcome.within }, text_is bs h.0.0 o.0 h.0.1 header.0 outcome)

-- a reply within the limits is read back
pub reply_again : (r : Reply) → IsReply r → reply_in (reply_text r) ≡ Some r
unfolding reply_in
reply_again r fits =
    let o = outcome_again r.outcome fits.outcome in
    let count = length (answers_of r.outcome) in
    let rest = flat_map group_text (answers_of r.outcome) in
    let header : Header = record { echo = r.echo; count = count; status = status_in r.outcome } in
    let is_counted : IsCounted header = record { echo = fits.echo; some = o.2.0; few = o.2.1 } in
    let text : reply_text r ≡ spelt_header header ++ rest = ap (λ (t : List ℕ). header_text r.echo count t ++ rest)
    (sym o.1) in
    chain (header_at (reply_text r))
    (λ h. outcome_in h.0.status h.0.count h.1 >>= λ o. Some (made_reply h.0.echo o)) (header, rest)
    (ap header_at text ∙ header-reads.again header rest is_counted tt)
    (chain (outcome_in (status_in r.outcome) count rest) (λ o. Some (made_reply r.echo o)) r.outcome o.0 refl)
