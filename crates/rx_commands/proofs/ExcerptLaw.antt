-- A run on an excerpt answers the record as one on the whole job.
use Rattle.std.proofs.Common.{◌≡◌, ℕ, zero, suc, ◌+◌, ◌-◌, ◌++◌, List, [], ◌∷◌, map, take, replicate, Some, None, Ok, Result, sym, ap, subst, ◌∙◌, arith}
use Rattle.std.specs.Prelude.{slice_get, zip}
use Rattle.std.specs.Option.{option_map}
use Rattle.std.proofs.lemmas.Option.{slice_get-map}
use Rattle.rx_batch.specs.Grammar.{IsFile}
use Rattle.rx_batch.specs.declared.batch.Batch.{Batch}
use Rattle.rx_batch.specs.declared.detail.Detail.{Detail}
use Rattle.rx_batch.specs.declared.head.Head.{Head}
use Rattle.rx_batch.proofs.Readings.{file_is_read}
use Rattle.rx_books_family.specs.Books.{IsInOrder}
use Rattle.rx_books_store.specs.BooksFile.{IsBooksText}
use Rattle.rx_books_store.specs.LedgerBooks.{LedgerBooks}
use Rattle.rx_books_store.proofs.BooksFile.{read_as}
use Rattle.rx_d0_request.specs.Request.{transmission_of}
use Rattle.rx_d0_values.specs.declared.reply.Reply.{Reply}
use Rattle.rx_d0_values.specs.declared.transmission.Transmission.{Transmission}
use Rattle.rx_explain.specs.Before.{ledger_at}
use Rattle.rx_explain.specs.Spots.{item}
use Rattle.rx_fields.specs.Numbered.{Span}
use Rattle.rx_ledger.specs.Fold.{fold_ledger, fold_replies, reply_to}
use Rattle.rx_ledger.specs.Ledger.{IsLedger, Ledger}
use Rattle.rx_ledger.specs.Plan.{Plan}
use Rattle.rx_response.specs.Response.{response_detail, response_details}
use Rattle.rx_switch.specs.Output.{Accepted}
use Rattle.rx_wave.specs.Decoding.{transmissions_of}
use Rattle.rx_commands.specs.ExcerptParts.{empty_detail, excerpt_details, excerpt_ledger, excerpt_plan}
use Rattle.rx_commands.specs.Excerpts.{AnswerAlike, AreAccepted, AreTexts, Disputed, IsDisputed, answer_at, request_of}
use Rattle.rx_commands.proofs.EmptyRecords.{last_of, replicated, reply_at, reply_past}
use Rattle.rx_commands.proofs.ExcerptLedgers.{fold_in_order, reply_on_excerpt}
use Rattle.rx_commands.proofs.ExcerptPlans.{reply_under_excerpt}
use Rattle.rx_commands.proofs.Items.{item_of}

-- ---- each text stands for one thing

ok_same : {A E : Type 0} (r : Result A E) (x y : A) → r ≡ Ok x → r ≡ Ok y → x ≡ y
ok_same r x y one other = let both : Ok x ≡ Ok y = sym one ∙ other in cc

books_same : (text : List ℕ) (p q : Span) (L M : Ledger) → IsBooksText text p L → IsBooksText text q M → L ≡ M
books_same text p q L M one other =
    let a : LedgerBooks = record { period = p; ledger = L } in
    let b : LedgerBooks = record { period = q; ledger = M } in
    ap (λ (books : LedgerBooks). books.ledger) (ok_same _ a b (read_as text p L one) (read_as text q M other))

batch_same : (text : List ℕ) (h k : Head) (ds es : List Detail) → IsFile text h ds → IsFile text k es → (h ≡ k) × (ds ≡ es)
batch_same text h k ds es one other =
    let a : Batch = record { head = h; details = ds } in
    let b : Batch = record { head = k; details = es } in
    let same : a ≡ b = ok_same _ a b (file_is_read text h ds one) (file_is_read text k es other) in
    (ap (λ (batch : Batch). batch.head) same, ap (λ (batch : Batch). batch.details) same)

-- ---- the answer at a place

zipped : {X Y : Type 0} (xs : List X) (ys : List Y) (i : ℕ) (x : X) (y : Y) → slice_get xs i ≡ Some x → slice_get ys i ≡ Some y
    → slice_get (zip xs ys) i ≡ Some (x, y)
zipped [] ys i x y one other = absurd (let e : None ≡ Some x = one in cc)
zipped (a ∷ xs) [] i x y one other = absurd (let e : None ≡ Some y = other in cc)
zipped (a ∷ xs) (b ∷ ys) zero x y one other =
    let first : Some a ≡ Some x = one in
    let second : Some b ≡ Some y = other in
    cc
zipped (a ∷ xs) (b ∷ ys) (suc i) x y one other = zipped xs ys i x y one other

answered : (ds : List Detail) (rs : List Reply) (i : ℕ) (d : Detail) (r : Reply) → slice_get ds i ≡ Some d
    → slice_get rs i ≡ Some r → item (response_details ds rs) (suc i) ≡ Some (response_detail d r)
answered ds rs i d r one other =
    item_of (response_details ds rs) i ∙ slice_get-map (λ p. response_detail p.0 p.1) (zip ds rs) i
    ∙ ap (option_map (λ (p : Detail × Reply). response_detail p.0 p.1)) (zipped ds rs i d r one other)

before_it : (i : ℕ) → suc i - 1 ≡ i
before_it i = omega arith

from_one : (i : ℕ) → 1 + i ≡ suc i
from_one i = omega arith

-- ---- the whole

module _ (plan : Plan) (head : Head) (details : List Detail) (opening : Ledger) (i : ℕ) (d : Detail)
    (there : slice_get details i ≡ Some d) where
  abbrev t : Transmission
  t = transmission_of plan.figures.door d.text

  abbrev asked : List Transmission
  asked = transmissions_of plan.figures.door details

  abbrev before : Ledger
  before = ledger_at head.lot plan asked opening (suc i)

  asked_there : slice_get asked i ≡ Some t
  asked_there = slice_get-map (λ (e : Detail). transmission_of plan.figures.door e.text) details i
      ∙ ap (option_map (λ (e : Detail). transmission_of plan.figures.door e.text)) there

  whole_reply : slice_get (fold_replies head.lot plan 1 asked opening) i ≡ Some (reply_to head.lot plan (suc i) t before)
  whole_reply = reply_at head.lot plan asked 1 i t opening asked_there
      ∙ ap (λ n. Some (reply_to head.lot plan n t (fold_ledger head.lot plan 1 (take i asked) opening))) (from_one i)
      ∙ ap (λ n. Some (reply_to head.lot plan (suc i) t (fold_ledger head.lot plan 1 (take n asked) opening))) (sym (before_it i))

  -- ---- the excerpt

  abbrev own_plan : Plan
  own_plan = excerpt_plan t.body plan

  own_asked : transmissions_of own_plan.figures.door (excerpt_details (suc i) d)
      ≡ replicate i (transmission_of plan.figures.door []) ++ t ∷ []
  own_asked =
      ap (λ n. map (λ (e : Detail). transmission_of plan.figures.door e.text) (replicate n empty_detail ++ d ∷ [])) (before_it i)
      ∙ replicated (λ (e : Detail). transmission_of plan.figures.door e.text) i empty_detail d

  own_reply : IsInOrder before
      → slice_get (fold_replies head.lot own_plan 1 (transmissions_of own_plan.figures.door (excerpt_details (suc i) d))
      (excerpt_ledger t.body before)) i ≡ Some (reply_to head.lot plan (suc i) t before)
  own_reply order =
      ap (λ ts. slice_get (fold_replies head.lot own_plan 1 ts (excerpt_ledger t.body before)) i) own_asked
      ∙ reply_past head.lot own_plan plan.figures.door i 1 t (excerpt_ledger t.body before)
      ∙ ap (λ n. Some (reply_to head.lot own_plan n t (excerpt_ledger t.body before))) (from_one i)
      ∙ ap Some (reply_under_excerpt head.lot plan (suc i) t (excerpt_ledger t.body before)
      ∙ reply_on_excerpt head.lot plan (suc i) t before order)

  own_there : slice_get (excerpt_details (suc i) d) i ≡ Some d
  own_there = ap (λ n. slice_get (replicate n empty_detail ++ d ∷ []) i) (before_it i) ∙ last_of i empty_detail d

-- ---- an excerpt is accepted

pub accepted : (place : ℕ) (d : Disputed) (sheet books batch : List ℕ) → AreTexts place d sheet books batch
    → AreAccepted sheet books batch
accepted place d sheet books batch own words workers stamp is = (
  record {
    stamp = stamp;
    plan = excerpt_plan (request_of d).body d.plan;
    period = d.plan.figures.period;
    opening = excerpt_ledger (request_of d).body d.before;
    head = d.head;
    details = excerpt_details place d.detail;
  },
  record { stamp = is; sheet = own.sheet_is; books = own.books_are; batch = own.batch_is },
)

-- ---- the law

module _ (sheet books batch : List ℕ) (own_sheet own_books own_batch : List ℕ) where
  at_place : (i : ℕ) (d : Disputed) → IsDisputed sheet books batch (suc i) d → AreTexts (suc i) d own_sheet own_books own_batch
      → AnswerAlike sheet books batch own_sheet own_books own_batch (suc i)
  at_place i d is own stamp own_stamp workers own_workers x y stands own_stands =
      let there : slice_get is.details i ≡ Some d.detail = sym (item_of is.details i) ∙ is.detail_is in
      let before : d.before ≡ ledger_at d.head.lot d.plan (transmissions_of d.plan.figures.door is.details) is.opening (suc i) =
      is.before_is in
      let answer = response_detail d.detail (reply_to d.head.lot d.plan (suc i) (request_of d) d.before) in
      let plan : x.plan ≡ d.plan = ok_same _ x.plan d.plan stands.sheet is.sheet_is in
      let opening : x.opening ≡ is.opening = books_same books x.period is.period x.opening is.opening stands.books is.books_are in
      let file = batch_same batch x.head d.head x.details is.details stands.batch is.batch_is in
      let own_plan : y.plan ≡ excerpt_plan (request_of d).body d.plan = ok_same _ y.plan _ own_stands.sheet own.sheet_is in
      let own_opening : y.opening ≡ excerpt_ledger (request_of d).body d.before =
      books_same own_books y.period d.plan.figures.period y.opening _ own_stands.books own.books_are in
      let own_file = batch_same own_batch y.head d.head y.details (excerpt_details (suc i) d.detail) own_stands.batch own.batch_is in
      let order : IsInOrder is.opening = in_order is.books_are.printed.ledger in
      let whole : answer_at x (suc i) ≡ Some answer =
      ap (λ (z : Accepted). answer_at z (suc i)) (made_of x d.plan is.opening d.head is.details plan opening file.0 file.1)
      ∙ answered is.details (fold_replies d.head.lot d.plan 1 (transmissions_of d.plan.figures.door is.details) is.opening) i d.detail
      (reply_to d.head.lot d.plan (suc i) (request_of d) d.before) there
      (whole_reply d.plan d.head is.details is.opening i d.detail there
      ∙ ap (λ M. Some (reply_to d.head.lot d.plan (suc i) (request_of d) M)) (sym before)) in
      let part : answer_at y (suc i) ≡ Some answer =
      ap (λ (z : Accepted). answer_at z (suc i))
      (made_of y (excerpt_plan (request_of d).body d.plan) (excerpt_ledger (request_of d).body d.before) d.head
      (excerpt_details (suc i) d.detail) own_plan own_opening own_file.0 own_file.1)
      ∙ answered (excerpt_details (suc i) d.detail) _ i d.detail
      (reply_to d.head.lot d.plan (suc i) (request_of d) d.before)
      (own_there d.plan d.head is.details is.opening i d.detail there)
      (own_part d is order before there) in
      (answer, whole, part)
    where
      in_order : {L : Ledger} → IsLedger L → IsInOrder L
      in_order l = record { members_rise = l.members_rise; rows_rise = l.rows_rise }

      -- what was accepted, with other names for its parts
      made_of : (z : Accepted) (plan : Plan) (opening : Ledger) (head : Head) (details : List Detail) → z.plan ≡ plan
          → z.opening ≡ opening → z.head ≡ head → z.details ≡ details
          → z ≡ record { stamp = z.stamp; plan = plan; period = z.period; opening = opening; head = head; details = details }
      made_of z plan opening head details p o h e =
          λ j. record { stamp = z.stamp; plan = p j; period = z.period; opening = o j; head = h j; details = e j }

      own_part : (d : Disputed) (is : IsDisputed sheet books batch (suc i) d) → IsInOrder is.opening
          → d.before ≡ ledger_at d.head.lot d.plan (transmissions_of d.plan.figures.door is.details) is.opening (suc i)
          → slice_get is.details i ≡ Some d.detail
          → slice_get (fold_replies d.head.lot (excerpt_plan (request_of d).body d.plan) 1
          (transmissions_of (excerpt_plan (request_of d).body d.plan).figures.door (excerpt_details (suc i) d.detail))
          (excerpt_ledger (request_of d).body d.before)) i
          ≡ Some (reply_to d.head.lot d.plan (suc i) (request_of d) d.before)
      own_part d is order before there =
          subst (λ M. slice_get (fold_replies d.head.lot (excerpt_plan (request_of d).body d.plan) 1
          (transmissions_of (excerpt_plan (request_of d).body d.plan).figures.door (excerpt_details (suc i) d.detail))
          (excerpt_ledger (request_of d).body M)) i ≡ Some (reply_to d.head.lot d.plan (suc i) (request_of d) M)) (sym before)
          (own_reply d.plan d.head is.details is.opening i d.detail there
          (fold_in_order d.head.lot d.plan 1 (take (suc i - 1) (transmissions_of d.plan.figures.door is.details)) is.opening order))

  pub answer_alike : (place : ℕ) (d : Disputed) → IsDisputed sheet books batch place d
      → AreTexts place d own_sheet own_books own_batch → AnswerAlike sheet books batch own_sheet own_books own_batch place
  answer_alike zero d is own = absurd (let e : None ≡ Some d.detail = is.detail_is in cc)
  answer_alike (suc i) d is own = at_place i d is own
