-- The excerpt of a record of a job that was read, and why there is none.
use Rattle.std.proofs.Common.{◌≡◌, ◌≤◌, ◌<◌, ℕ, zero, suc, List, length, map, Option, Some, None, Ok, refl, ap, subst, sym, ◌∙◌, arith}
use Rattle.std.specs.Option.{option_map}
use Rattle.std.proofs.lemmas.List.{length-map}
use Rattle.std.proofs.lemmas.Option.{slice_get-map, slice_get_within}
use Rattle.rx_batch.specs.Grammar.{IsFile}
use Rattle.rx_batch.specs.declared.batch.Batch.{Batch}
use Rattle.rx_batch.specs.declared.detail.Detail.{Detail}
use Rattle.rx_batch.specs.declared.head.Head.{Head}
use Rattle.rx_books_store.specs.BooksFile.{IsBooksText}
use Rattle.rx_d0_reply.specs.Text.{reply_text}
use Rattle.rx_d0_request.specs.Request.{transmission_of}
use Rattle.rx_d0_values.specs.declared.transmission.Body.TheVariants as body
use Rattle.rx_d0_values.specs.declared.transmission.Rejected.{Rejected}
use Rattle.rx_d0_values.specs.declared.transmission.Transmission.{Transmission}
use Rattle.rx_books_family.specs.Books.{IsInOrder}
use Rattle.rx_explain.specs.Before.{ledger_at}
use Rattle.rx_explain.specs.Spots.{item}
use Rattle.rx_fields.specs.Numbered.{Span}
use Rattle.rx_ledger.specs.Fold.{reply_to}
use Rattle.rx_ledger.specs.Ledger.{Ledger}
use Rattle.rx_ledger.specs.Plan.{Plan}
use Rattle.rx_sheet.specs.SheetText.{sheet_of_text}
use Rattle.rx_switch.specs.Planned.IsNotPlanned.{memory}
use Rattle.rx_wave.specs.Decoding.{transmissions_of}
use Rattle.rx_commands.specs.ExcerptParts.{excerpt_details, excerpt_ledger, excerpt_plan}
use Rattle.rx_commands.specs.ExcerptReadme.{readme_text}
use Rattle.rx_commands.specs.Explaining.{IsFileOf}
use Rattle.rx_commands.specs.Excerpts.{AnswerAlike, AreAccepted, Disputed, HasNoTransaction, HasNone, HasNoneOf, IsAtPlace, IsDisputed, IsExcerpt, IsExcerptIn, IsExcerptOf, IsHeard, IsNoExcerpt}
use Rattle.rx_commands.specs.Excerpts.{IsNoSheet, IsNotBooks, IsNotMade, IsNotWritten, IsThere, request_of}
use Rattle.rx_commands.specs.Excerpts.{compared_next_to, disputed_at, disputed_on}
use Rattle.rx_commands.specs.declared.excerpts.Excerpt.{Excerpt}
use Rattle.rx_commands.specs.declared.excerpts.fault.ExcerptFault.{ExcerptFault}
use Rattle.rx_commands.specs.declared.excerpts.fault.ExcerptFault.TheVariants as excerpt
use Rattle.rx_commands.proofs.ExcerptLaw.{accepted, answer_alike}
use Rattle.rx_commands.proofs.ExcerptLedgers.{reply_on_excerpt}
use Rattle.rx_commands.proofs.Items.{item_of}

module _ (sheet books batch : List ℕ) (plan : Plan) (period : Span) (opening : Ledger) (head : Head) (details : List Detail)
    (sheet_is : sheet_of_text sheet ≡ Ok plan) (books_are : IsBooksText books period opening) (batch_is : IsFile batch head details) where
  pub is_disputed : (place : ℕ) (d : Detail) → item details place ≡ Some d
      → IsDisputed sheet books batch place (disputed_at plan head details opening place d)
  is_disputed place d there = record {
    period = period;
    opening = opening;
    details = details;
    sheet_is = sheet_is;
    books_are = books_are;
    batch_is = batch_is;
    detail_is = there;
    before_is = refl;
  }

  pub is_excerpt : (place : ℕ) (response : Option (List ℕ)) (file : Option Batch) (e : Excerpt) → IsFileOf response file
      → IsExcerptIn plan head details opening place file e → IsExcerpt sheet books batch place response e
  is_excerpt place response file e file_is is = record {
    disputed = disputed_at plan head details opening place is.detail;
    disputed_is = is_disputed place is.detail is.detail_is;
    file = file;
    file_is = file_is;
    excerpt_is = is.excerpt_is;
  }

  pub is_alike : (place : ℕ) (file : Option Batch) (e : Excerpt) → IsExcerptIn plan head details opening place file e
      → AnswerAlike sheet books batch e.sheet.items e.books.items e.batch.items place
  is_alike place file e is =
      answer_alike sheet books batch e.sheet.items e.books.items e.batch.items place
      (disputed_at plan head details opening place is.detail) (is_disputed place is.detail is.detail_is) is.excerpt_is.texts_are

  pub are_accepted : (place : ℕ) (file : Option Batch) (e : Excerpt) → IsExcerptIn plan head details opening place file e
      → AreAccepted e.sheet.items e.books.items e.batch.items
  are_accepted place file e is =
      accepted place (disputed_at plan head details opening place is.detail) e.sheet.items e.books.items e.batch.items
      is.excerpt_is.texts_are

  at_place : (place : ℕ) (P : Disputed → Type 0) → IsThere plan head details opening place P → IsAtPlace sheet books batch place P
  at_place place P there = record {
    disputed = disputed_at plan head details opening place there.detail;
    disputed_is = is_disputed place there.detail there.detail_is;
    holds = there.holds;
  }

  pub is_none : (place : ℕ) (response : Option (List ℕ)) (file : Option Batch) (f : ExcerptFault) → IsFileOf response file
      → HasNone plan head details opening place f → IsNoExcerpt sheet books batch place response f
  is_none place response file (excerpt.Input f) file_is none = rw none memory
  is_none place response file excerpt.NoRecord file_is none = (
    (file, file_is),
    record {
      plan = plan;
      period = period;
      opening = opening;
      head = head;
      details = details;
      sheet_is = sheet_is;
      books_are = books_are;
      batch_is = batch_is;
      none = none;
    },
  )
  is_none place response file excerpt.NoTransaction file_is none = ((file, file_is), at_place place _ none)
  is_none place response file excerpt.TooLong file_is none = ((file, file_is), at_place place _ none)
  is_none place response file excerpt.Unwritten file_is none = ((file, file_is), at_place place _ none)

-- ---- a record of a batch

-- the request at a place is that of the detail there
pub request_there : (plan : Plan) (details : List Detail) (place : ℕ) (d : Detail) → item details place ≡ Some d
    → item (transmissions_of plan.figures.door details) place ≡ Some (transmission_of plan.figures.door d.text)
request_there plan details zero d there = absurd (let e : None ≡ Some d = there in cc)
request_there plan details (suc i) d there =
    let f : Detail → Transmission = λ e. transmission_of plan.figures.door e.text in
    item_of (map f details) i ∙ slice_get-map f details i ∙ ap (option_map f) (sym (item_of details i) ∙ there)

-- without a request there is no detail
pub no_detail : (plan : Plan) (details : List Detail) (place : ℕ) (o : Option Detail) → item details place ≡ o
    → item (transmissions_of plan.figures.door details) place ≡ None → item details place ≡ None
no_detail plan details place None is none = is
no_detail plan details place (Some d) is none =
    absurd (let e : None ≡ Some (transmission_of plan.figures.door d.text) = sym none ∙ request_there plan details place d is in cc)

-- a place that has an item is one of the list's, from 1
pub place_within : {X : Type 0} (xs : List X) (place : ℕ) (x : X) → item xs place ≡ Some x → (1 ≤ place) × (place ≤ length xs)
place_within xs zero x there = absurd (let e : None ≡ Some x = there in cc)
place_within xs (suc i) x there =
    let within : i < length xs = slice_get_within xs i x (sym (item_of xs i) ∙ there) in (omega arith, omega arith)

-- what the record at a place asks
pub asks_there : (plan : Plan) (details : List Detail) (asked : List Transmission) (place : ℕ) (d : Detail) (t : Transmission)
    → asked ≡ transmissions_of plan.figures.door details → item details place ≡ Some d → item asked place ≡ Some t
    → t ≡ transmission_of plan.figures.door d.text
asks_there plan details asked place d t asks there is =
    let own : Some t ≡ Some (transmission_of plan.figures.door d.text) =
    sym is ∙ ap (λ ts. item ts place) asks ∙ request_there plan details place d there in
    cc

-- a batch has as many requests as details
pub asked_few : (plan : Plan) (details : List Detail) (asked : List Transmission) (most : ℕ)
    → asked ≡ transmissions_of plan.figures.door details → length details ≤ most → length asked ≤ most
asked_few plan details asked most asks few =
    subst (λ n. n ≤ most)
    (sym (ap length asks ∙ length-map details (λ (e : Detail). transmission_of plan.figures.door e.text))) few

-- a record whose header is rejected
pub rejected_there : (plan : Plan) (head : Head) (details : List Detail) (opening : Ledger) (asked : List Transmission) (place : ℕ)
    (d : Detail) (t : Transmission) (r : Rejected) → asked ≡ transmissions_of plan.figures.door details
    → item details place ≡ Some d → item asked place ≡ Some t → t.body ≡ body.Rejected r
    → IsThere plan head details opening place HasNoTransaction
rejected_there plan head details opening asked place d t r asks there is rejected = record {
  detail = d;
  detail_is = there;
  holds = record {
    rejected = r;
    rejected_is = ap (λ (v : Transmission). v.body) (sym (asks_there plan details asked place d t asks there is)) ∙ rejected;
  };
}

-- the texts that were made are the excerpt
pub made : (place : ℕ) (plan : Plan) (head : Head) (d : Detail) (before L : Ledger) (t : Transmission) (file : Option Batch)
    (text : List ℕ) (e : Excerpt) → t ≡ transmission_of plan.figures.door d.text → IsHeard t.body → IsInOrder before
    → L ≡ excerpt_ledger t.body before → sheet_of_text e.sheet.items ≡ Ok (excerpt_plan t.body plan)
    → IsBooksText e.books.items plan.figures.period L → IsFile e.batch.items head (excerpt_details place d)
    → text ≡ reply_text (reply_to head.lot plan place t L) → e.compared ≡ compared_next_to head.lot place d.reference text file
    → e.readme.items ≡ readme_text head.lot place text e.compared
    → IsExcerptOf place (disputed_on plan head d before) file e
made place plan head d before L t file text e asked heard order named sheet books batch replied compared read =
    let u = transmission_of plan.figures.door d.text in
    let ledger : L ≡ excerpt_ledger u.body before = named ∙ ap (λ (v : Transmission). excerpt_ledger v.body before) asked in
    let own : text ≡ reply_text (reply_to head.lot plan place u before) =
    replied ∙ ap (λ (v : Transmission). reply_text (reply_to head.lot plan place v L)) asked
    ∙ ap (λ M. reply_text (reply_to head.lot plan place u M)) ledger
    ∙ ap reply_text (reply_on_excerpt head.lot plan place u before order) in
    record {
      heard = heard.0;
      heard_is = ap (λ (v : Transmission). v.body) (sym asked) ∙ heard.1;
      texts_are = record {
        sheet_is = sheet ∙ ap (λ (v : Transmission). Ok (excerpt_plan v.body plan)) asked;
        books_are = subst (λ M. IsBooksText e.books.items plan.figures.period M) ledger books;
        batch_is = batch;
      };
      compared_is = compared ∙ ap (λ x. compared_next_to head.lot place d.reference x file) own;
      readme_is = read ∙ ap (λ x. readme_text head.lot place x e.compared) own;
    }

-- ---- in a batch

module _ (plan : Plan) (head : Head) (details : List Detail) (opening : Ledger) (place : ℕ) (d : Detail) (asked : List Transmission)
    (before : Ledger) (there : item details place ≡ Some d) (asks : asked ≡ transmissions_of plan.figures.door details)
    (is : before ≡ ledger_at head.lot plan asked opening place) where
  same_record : disputed_on plan head d before ≡ disputed_at plan head details opening place d
  same_record = ap (disputed_on plan head d) (is ∙ ap (λ ts. ledger_at head.lot plan ts opening place) asks)

  -- the excerpt of a record on the books before it
  pub excerpt_in_batch : (file : Option Batch) (e : Excerpt) → IsExcerptOf place (disputed_on plan head d before) file e
      → IsExcerptIn plan head details opening place file e
  excerpt_in_batch file e own = record {
    detail = d;
    detail_is = there;
    excerpt_is = subst (λ x. IsExcerptOf place x file e) same_record own;
  }

  there_in_batch : (P : Disputed → Type 0) → P (disputed_on plan head d before) → IsThere plan head details opening place P
  there_in_batch P own = record { detail = d; detail_is = there; holds = subst P same_record own }

  -- why it has none
  pub none_in_batch : (f : ExcerptFault) → HasNoneOf (disputed_on plan head d before) f
      → HasNone plan head details opening place f
  none_in_batch (excerpt.Input f) none = none
  none_in_batch excerpt.NoRecord none = absurd none
  none_in_batch excerpt.NoTransaction none = absurd none
  none_in_batch excerpt.TooLong none = there_in_batch _ none
  none_in_batch excerpt.Unwritten none = there_in_batch _ none

-- what isn't written isn't made
pub no_sheet : (period : Span) (L : Ledger) (f : ExcerptFault) → IsNoSheet f → IsNotMade period L f
no_sheet period L (excerpt.Input f) none = none
no_sheet period L excerpt.NoRecord none = absurd none
no_sheet period L excerpt.NoTransaction none = absurd none
no_sheet period L excerpt.TooLong none = absurd none
no_sheet period L excerpt.Unwritten none = none

pub no_books : (period : Span) (L : Ledger) (f : ExcerptFault) → IsNotWritten period L f → IsNotMade period L f
no_books period L (excerpt.Input f) none = none
no_books period L excerpt.NoRecord none = absurd none
no_books period L excerpt.NoTransaction none = absurd none
no_books period L excerpt.TooLong none = none
no_books period L excerpt.Unwritten none = absurd none

-- a record whose texts aren't made has no excerpt
pub not_made : (d : Disputed) (L : Ledger) (f : ExcerptFault) → IsHeard (request_of d).body
    → L ≡ excerpt_ledger (request_of d).body d.before → IsNotMade d.plan.figures.period L f → HasNoneOf d f
not_made d L (excerpt.Input f) heard same none = none
not_made d L excerpt.NoRecord heard same none = absurd none
not_made d L excerpt.NoTransaction heard same none = absurd none
not_made d L excerpt.TooLong heard same none = subst (λ M. IsNotBooks d.plan.figures.period M) same none
not_made d L excerpt.Unwritten heard same none = heard
