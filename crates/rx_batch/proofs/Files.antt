-- A file of the grammar is a good front with the trailer, and the other way round.
use Rattle.std.proofs.Common.{◌≡◌, ◌≤◌, ◌<◌, ◌⊎◌, ℕ, ◌+◌, Bool, true, false, not, ◌||◌, cond, eqb, leb, ltb, List, [], ◌∷◌}
use Rattle.std.proofs.Common.{◌++◌, codes, length, append_assoc, append-nil, length-append, refl, sym, ap, ◌∙◌, subst, arith}
use Rattle.std.proofs.Common.{inl, inr, Result, Ok, Err, Option, Some, None}
use Rattle.std.specs.List.{AllZip, flat_map}
use Rattle.std.specs.Option.{ok_or}
use Rattle.std.proofs.lemmas.Bool.{cases_Bool}
use Rattle.std.proofs.lemmas.Bool.Decides.{nat_tests}
use Rattle.std.proofs.lemmas.List.Concat.{flat_map-append}
use Rattle.std.proofs.lemmas.List.Elements.{All-nil, All-head, All-tail, All-push}
use Rattle.rx_batch.specs.declared.detail.Detail.{Detail}
use Rattle.rx_batch.specs.declared.fault.BatchFault.{BatchFault}
use Rattle.rx_batch.specs.declared.fault.BatchFault.TheVariants as fault
use Rattle.rx_batch.specs.declared.front.Front.{Front}
use Rattle.rx_batch.specs.declared.front.Stage.{Stage}
use Rattle.rx_batch.specs.declared.front.Stage.TheVariants.{Start, Headed, Whole}
use Rattle.rx_batch.specs.declared.head.Head.{Head}
use Rattle.rx_batch.specs.declared.trailer.Trailer.{Trailer}
use Rattle.rx_text.specs.Results.{◌>>=◌}
use Rattle.rx_batch.specs.Header.{is_kind, head_of, trailer_of}
use Rattle.rx_batch.specs.Grammar.{is_skipped, IsInside, record_text, with_record, header, detail, agreeing, trailer}
use Rattle.rx_batch.specs.Grammar.{with_detail, with_trailer, record_of, record_at, IsFront, Spaced, spaced_text, IsGap}
use Rattle.rx_batch.specs.Grammar.{IsSpaced, IsHeader, IsDetail, IsTrailer, IsFile}
use Rattle.rx_batch.specs.Grammar.IsFront.{empty, skipped, good}

-- ---- from the grammar to good fronts

-- the bytes are a good front at this stage, with these details
abbrev pub Reached : List ℕ → Stage → List Detail → Type 0
Reached bytes stage details = (n : ℕ) × IsFront bytes (record { stage = stage; details = details; length = n })

gap_reached : (gap bytes : List ℕ) (s : Stage) (ds : List Detail) → IsGap gap → Reached bytes s ds → Reached (bytes ++ gap) s ds
gap_reached [] bytes s ds is h = subst (λ (bs : List ℕ). Reached bs s ds) (sym (append-nil bytes)) h
gap_reached (b ∷ gap) bytes s ds is h =
    let one : Reached (bytes ++ b ∷ []) s ds = (h.0 + 1, skipped b h.1 (All-head (λ (x : ℕ). is_skipped x ≡ true) b gap is)) in
    subst (λ (bs : List ℕ). Reached bs s ds) (append_assoc bytes (b ∷ []) gap)
    (gap_reached gap (bytes ++ b ∷ []) s ds (All-tail (λ (x : ℕ). is_skipped x ≡ true) b gap is) one)

-- a record that is good wherever it stands makes the front longer
record_reached : (r : Spaced) (bytes : List ℕ) (s t : Stage) (ds es : List Detail) → IsSpaced r
    → ((n : ℕ) → record_of (record { stage = s; details = ds; length = n }) r.body
    ≡ Ok (record { stage = t; details = es; length = n + (length r.body + 2) })) → Reached bytes s ds
    → Reached (bytes ++ spaced_text r) t es
record_reached r bytes s t ds es is read h =
    let gap = gap_reached r.gap bytes s ds is.0 h in
    let body : Reached ((bytes ++ r.gap) ++ record_text r.body) t es =
    (gap.0 + (length r.body + 2), good r.body _ gap.1 is.1 (read gap.0)) in
    subst (λ (bs : List ℕ). Reached bs t es) (append_assoc bytes r.gap (record_text r.body)) body

header_good : (body : List ℕ) (head : Head) → IsHeader body head → (n : ℕ)
    → record_of (record { stage = Start; details = []; length = n }) body
    ≡ Ok (record { stage = Headed head; details = []; length = n + (length body + 2) })
header_good body head is n = rw (is.0, is.1) refl

detail_good : (body : List ℕ) (head : Head) (ds : List Detail) (d : Detail) → length ds < 100000 → IsDetail body d
    → (n : ℕ) → record_of (record { stage = Headed head; details = ds; length = n }) body
    ≡ Ok (record { stage = Headed head; details = ds ++ d ∷ []; length = n + (length body + 2) })
detail_good body head ds d few is n =
    let long : ltb (length body) 12 ≡ false = grind (arith, nat_tests, is.1) in
    let room : leb 100000 (length ds) ≡ false = grind (arith, nat_tests) in
    rw (is.0, long, room, is.2) refl

details_reached : (records : List Spaced) (head : Head) (bytes : List ℕ) (before details : List Detail)
    → AllZip (λ r d. IsSpaced r × IsDetail r.body d) records details → length before + length details ≤ 100000
    → Reached bytes (Headed head) before → Reached (bytes ++ flat_map spaced_text records) (Headed head) (before ++ details)
details_reached [] head bytes before [] are few h = rw (append-nil bytes, append-nil before) h
details_reached [] head bytes before (d ∷ details) are few h = absurd are
details_reached (r ∷ records) head bytes before [] are few h = absurd are
details_reached (r ∷ records) head bytes before (d ∷ details) are few h =
    let one = record_reached r bytes (Headed head) (Headed head) before (before ++ d ∷ []) are.0.0
    (detail_good r.body head before d (omega arith) are.0.1) h in
    let room : length (before ++ d ∷ []) + length details ≤ 100000 = omega (arith, length-append before (d ∷ [])) in
    let all = details_reached records head (bytes ++ spaced_text r) (before ++ d ∷ []) details are.1 room one in
    subst (λ (ds : List Detail). Reached (bytes ++ flat_map spaced_text (r ∷ records)) (Headed head) ds)
    (append_assoc before (d ∷ []) details)
    (subst (λ (bs : List ℕ). Reached bs (Headed head) ((before ++ d ∷ []) ++ details))
    (append_assoc bytes (spaced_text r) (flat_map spaced_text records)) all)

-- a record of one kind is of no other
kinds_differ : (x y : ℕ) (rest : List ℕ) → is_kind (codes "99") (x ∷ y ∷ rest) ≡ true → is_kind (codes "G1") (x ∷ y ∷ rest) ≡ false
kinds_differ x y rest is = grind (arith, nat_tests)

one_byte : (x : ℕ) → is_kind (codes "99") (x ∷ []) ≡ true → ⊥
one_byte x is = grind (arith, nat_tests)

other_kind : (body : List ℕ) → is_kind (codes "99") body ≡ true → is_kind (codes "G1") body ≡ false
other_kind [] is = refl
other_kind (x ∷ []) is = absurd (one_byte x is)
other_kind (x ∷ y ∷ rest) is = kinds_differ x y rest is

count_agrees : (count n : ℕ) → (count ≡ n) ⊎ (count ≡ n + 2) → not (eqb count n || eqb count (n + 2)) ≡ false
count_agrees count n (inl e) = grind (arith, nat_tests)
count_agrees count n (inr e) = grind (arith, nat_tests)

trailer_good : (body : List ℕ) (head : Head) (ds : List Detail) → IsTrailer body head ds → (n : ℕ)
    → record_of (record { stage = Headed head; details = ds; length = n }) body
    ≡ Ok (record { stage = Whole head; details = ds; length = n + (length body + 2) })
trailer_good body head ds is n =
    let other : is_kind (codes "G1") body ≡ false = other_kind body is.kind in
    let number : not (eqb is.trailer.number head.lot.number) ≡ false = let e = is.number in grind (arith, nat_tests) in
    rw (other, is.kind, is.is, number, count_agrees is.trailer.count (length ds) is.count) refl

-- a file is a good front up to its end, with the trailer
pub file_reached : (bytes : List ℕ) (head : Head) (details : List Detail) → IsFile bytes head details → Reached bytes (Whole head) details
file_reached bytes head details file =
    let one = record_reached file.header [] Start (Headed head) [] [] file.header_is.0
    (header_good file.header.body head file.header_is.1) (0, empty) in
    let all = details_reached file.records head (spaced_text file.header) [] details file.details_are
    (let few : 0 + length details ≤ 100000 = let le = file.few in omega arith in few) one in
    let two = record_reached file.trailer (spaced_text file.header ++ flat_map spaced_text file.records)
    (Headed head) (Whole head) details details file.trailer_is.0
    (trailer_good file.trailer.body head details file.trailer_is.1) all in
    let end = gap_reached file.gap
    ((spaced_text file.header ++ flat_map spaced_text file.records) ++ spaced_text file.trailer) (Whole head)
    details file.gap_is two in
    let joined : ((spaced_text file.header ++ flat_map spaced_text file.records) ++ spaced_text file.trailer) ++ file.gap ≡ bytes =
    append_assoc (spaced_text file.header ++ flat_map spaced_text file.records) (spaced_text file.trailer) file.gap
    ∙ append_assoc (spaced_text file.header) (flat_map spaced_text file.records) (spaced_text file.trailer ++ file.gap) ∙ sym file.whole in
    subst (λ (bs : List ℕ). Reached bs (Whole head) details) joined end

-- ---- from good fronts to the grammar

-- the bytes are a header, details and skipped bytes
pub record IsBegun (bytes : List ℕ) (head : Head) (details : List Detail) : Type 0 where
  pub header : Spaced
  pub records : List Spaced
  pub gap : List ℕ
  pub whole : bytes ≡ spaced_text header ++ (flat_map spaced_text records ++ gap)
  pub header_is : IsSpaced header × IsHeader header.body head
  pub details_are : AllZip (λ r d. IsSpaced r × IsDetail r.body d) records details
  pub few : length details ≤ 100000
  pub gap_is : IsGap gap

-- what the bytes of a good front are at each stage
abbrev pub Shape : Stage → List ℕ → List Detail → Type 0
Shape Start bytes details = IsGap bytes × (details ≡ [])
Shape (Headed head) bytes details = IsBegun bytes head details
Shape (Whole head) bytes details = IsFile bytes head details

gap_more : (gap : List ℕ) (b : ℕ) → IsGap gap → is_skipped b ≡ true → IsGap (gap ++ b ∷ [])
gap_more gap b is one = All-push (λ (x : ℕ). is_skipped x ≡ true) gap b is one

gap_shape : (s : Stage) (bytes : List ℕ) (ds : List Detail) (b : ℕ) → Shape s bytes ds → is_skipped b ≡ true → Shape s (bytes ++ b ∷ []) ds
gap_shape Start bytes ds b h is = (gap_more bytes b h.0 is, h.1)
gap_shape (Headed head) bytes ds b h is = record {
  header = h.header;
  records = h.records;
  gap = h.gap ++ b ∷ [];
  whole = ap (λ (bs : List ℕ). bs ++ b ∷ []) h.whole
      ∙ append_assoc (spaced_text h.header) (flat_map spaced_text h.records ++ h.gap) (b ∷ [])
      ∙ ap (λ (bs : List ℕ). spaced_text h.header ++ bs) (append_assoc (flat_map spaced_text h.records) h.gap (b ∷ []));
  header_is = h.header_is;
  details_are = h.details_are;
  few = h.few;
  gap_is = gap_more h.gap b h.gap_is is;
}
gap_shape (Whole head) bytes ds b h is = record {
  header = h.header;
  records = h.records;
  trailer = h.trailer;
  gap = h.gap ++ b ∷ [];
  whole = ap (λ (bs : List ℕ). bs ++ b ∷ []) h.whole
      ∙ append_assoc (spaced_text h.header) (flat_map spaced_text h.records ++ (spaced_text h.trailer ++ h.gap))
      (b ∷ []) ∙ ap (λ (bs : List ℕ). spaced_text h.header ++ bs)
      (append_assoc (flat_map spaced_text h.records) (spaced_text h.trailer ++ h.gap) (b ∷ [])
      ∙ ap (λ (bs : List ℕ). flat_map spaced_text h.records ++ bs) (append_assoc (spaced_text h.trailer) h.gap (b ∷ [])));
  header_is = h.header_is;
  details_are = h.details_are;
  few = h.few;
  trailer_is = h.trailer_is;
  gap_is = gap_more h.gap b h.gap_is is;
}

-- ---- what a good record says

refused : {A : Type 0} (b : Bool) (e : BatchFault) (r : Result A BatchFault) (v : A) → cond b (Err e) r ≡ Ok v → (b ≡ false) × (r ≡ Ok v)
refused true e r v is = absurd cc
refused false e r v is = (refl, is)

granted : {A : Type 0} (b : Bool) (e : BatchFault) (r : Result A BatchFault) (v : A) → cond b r (Err e) ≡ Ok v → (b ≡ true) × (r ≡ Ok v)
granted true e r v is = (refl, is)
granted false e r v is = absurd cc

both_ok : {A B : Type 0} (r : Result A BatchFault) (f : A → Result B BatchFault) (y : B) → (r >>= f) ≡ Ok y
    → (x : A) × (r ≡ Ok x) × (f x ≡ Ok y)
both_ok (Ok x) f y is = (x, refl, is)
both_ok (Err e) f y is = absurd cc

there : {A : Type 0} (o : Option A) (e : BatchFault) (x : A) → ok_or o e ≡ Ok x → o ≡ Some x
there None e x is = absurd cc
there (Some y) e x is = cc

abbrev front_ok : Front → Result Front BatchFault
front_ok f = Ok f

abbrev detail_ok : Detail → Result Detail BatchFault
detail_ok d = Ok d

abbrev trailer_ok : Trailer → Result Trailer BatchFault
trailer_ok t = Ok t

same_front : (f g : Front) → front_ok f ≡ front_ok g → f ≡ g
same_front f g e = cc

same_detail : (d e : Detail) → detail_ok d ≡ detail_ok e → d ≡ e
same_detail d e is = cc

same_trailer : (t u : Trailer) → trailer_ok t ≡ trailer_ok u → t ≡ u
same_trailer t u is = cc

header_is : (n : ℕ) (body : List ℕ) (head : Head) → header n body ≡ Ok head → IsHeader body head
header_is n body head is =
    let kind = granted (is_kind (codes "00") body) (fault.NoHeader n) (ok_or (head_of body) (fault.HeaderShape n)) head is in
    (kind.0, there (head_of body) (fault.HeaderShape n) head kind.1)

detail_is : (n : ℕ) (ds : List Detail) (body : List ℕ) (d : Detail) → is_kind (codes "G1") body ≡ true
    → detail n ds body ≡ Ok d → IsDetail body d × (length ds < 100000)
detail_is n ds body d kind is =
    let long = refused (ltb (length body) 12) (fault.DetailShape n) _ d is in
    let room = refused (leb 100000 (length ds)) (fault.TooMuch n) _ d long.1 in
    let enough : 12 ≤ length body = let few = long.0 in grind (arith, nat_tests) in
    let less : length ds < 100000 = let few = room.0 in grind (arith, nat_tests) in
    ((kind, enough, sym (same_detail _ d room.1)), less)

counted : (count n : ℕ) → not (eqb count n || eqb count (n + 2)) ≡ false → (count ≡ n) ⊎ (count ≡ n + 2)
counted count n is = elim (cases_Bool (eqb count n)) [
  | inl e ↦ inl (let same : count ≡ n = grind (arith, nat_tests) in same)
  | inr ne ↦ inr (let same : count ≡ n + 2 = grind (arith, nat_tests) in same)
]

trailer_is : (n : ℕ) (head : Head) (ds : List Detail) (body : List ℕ) (t : Trailer)
    → is_kind (codes "99") body ≡ true → trailer n head ds body ≡ Ok t → IsTrailer body head ds
trailer_is n head ds body t kind is =
    let shape = both_ok (ok_or (trailer_of body) (fault.TrailerShape n)) (agreeing n head ds) t is in
    let number = refused (not (eqb shape.0.number head.lot.number)) (fault.NumberDiffers n) _ t shape.2 in
    let count = refused (not (eqb shape.0.count (length ds) || eqb shape.0.count (length ds + 2))) (fault.CountDiffers n) _ t number.1 in
    record {
      kind = kind;
      trailer = shape.0;
      is = there (trailer_of body) (fault.TrailerShape n) shape.0 shape.1;
      number = let same : shape.0.number ≡ head.lot.number = (let e = number.0 in grind (arith, nat_tests)) in same;
      count = counted shape.0.count (length ds) count.0;
    }

-- ---- the shape with one more record

header_shape : (bytes body : List ℕ) (head : Head) (ds : List Detail) → IsGap bytes → ds ≡ [] → IsInside body
    → IsHeader body head → IsBegun (bytes ++ record_text body) head ds
header_shape bytes body head ds gap none inside is =
    let begun : IsBegun (bytes ++ record_text body) head [] = record {
      header = record { gap = bytes; body = body };
      records = [];
      gap = [];
      whole = sym (append-nil (bytes ++ record_text body));
      header_is = ((gap, inside), is);
      details_are = tt;
      few = omega arith;
      gap_is = All-nil (λ (b : ℕ). is_skipped b ≡ true);
    } in
    subst (λ (es : List Detail). IsBegun (bytes ++ record_text body) head es) (sym none) begun

details_push : (records : List Spaced) (ds : List Detail) (r : Spaced) (d : Detail)
    → AllZip (λ r d. IsSpaced r × IsDetail r.body d) records ds → IsSpaced r × IsDetail r.body d
    → AllZip (λ r d. IsSpaced r × IsDetail r.body d) (records ++ r ∷ []) (ds ++ d ∷ [])
details_push [] [] r d are is = (is, tt)
details_push [] (e ∷ ds) r d are is = absurd are
details_push (q ∷ records) [] r d are is = absurd are
details_push (q ∷ records) (e ∷ ds) r d are is = (are.0, details_push records ds r d are.1 is)

-- a list of records with their gaps, and one more after the last gap
one_more : (front gap body : List ℕ) (records : List Spaced)
    → (front ++ (flat_map spaced_text records ++ gap)) ++ record_text body ≡ front
    ++ (flat_map spaced_text records ++ (gap ++ record_text body))
one_more front gap body records =
    append_assoc front (flat_map spaced_text records ++ gap) (record_text body)
    ∙ ap (λ (bs : List ℕ). front ++ bs) (append_assoc (flat_map spaced_text records) gap (record_text body))

detail_shape : (bytes body : List ℕ) (head : Head) (ds : List Detail) (d : Detail) → IsBegun bytes head ds
    → IsInside body → IsDetail body d → length ds < 100000 → IsBegun (bytes ++ record_text body) head (ds ++ d ∷ [])
detail_shape bytes body head ds d h inside is few =
    let r : Spaced = record { gap = h.gap; body = body } in
    record {
      header = h.header;
      records = h.records ++ r ∷ [];
      gap = [];
      whole = ap (λ (bs : List ℕ). bs ++ record_text body) h.whole ∙ one_more (spaced_text h.header) h.gap body h.records
          ∙ ap (λ (bs : List ℕ). spaced_text h.header ++ (flat_map spaced_text h.records ++ bs)) (sym (append-nil (spaced_text r)))
          ∙ ap (λ (bs : List ℕ). spaced_text h.header ++ bs)
          (sym (flat_map-append spaced_text h.records (r ∷ [])) ∙ sym (append-nil (flat_map spaced_text (h.records ++ r ∷ []))));
      header_is = h.header_is;
      details_are = details_push h.records ds r d h.details_are ((h.gap_is, inside), is);
      few = omega (arith, length-append ds (d ∷ []));
      gap_is = All-nil (λ (b : ℕ). is_skipped b ≡ true);
    }

trailer_shape : (bytes body : List ℕ) (head : Head) (ds : List Detail) → IsBegun bytes head ds → IsInside body
    → IsTrailer body head ds → IsFile (bytes ++ record_text body) head ds
trailer_shape bytes body head ds h inside is = record {
  header = h.header;
  records = h.records;
  trailer = record { gap = h.gap; body = body };
  gap = [];
  whole = ap (λ (bs : List ℕ). bs ++ record_text body) h.whole ∙ one_more (spaced_text h.header) h.gap body h.records
      ∙ ap (λ (bs : List ℕ). spaced_text h.header ++ (flat_map spaced_text h.records ++ bs)) (sym (append-nil (h.gap ++ record_text body)));
  header_is = h.header_is;
  details_are = h.details_are;
  few = h.few;
  trailer_is = ((h.gap_is, inside), is);
  gap_is = All-nil (λ (b : ℕ). is_skipped b ≡ true);
}

chosen : {A : Type 0} (b : Bool) (x y z : A) → cond b x y ≡ z → ((b ≡ true) × (x ≡ z)) ⊎ ((b ≡ false) × (y ≡ z))
chosen true x y z e = inl (refl, e)
chosen false x y z e = inr (refl, e)

abbrev pub ShapeOf : Front → List ℕ → Type 0
ShapeOf f bytes = Shape f.stage bytes f.details

with_record_shape : (f g : Front) (body bytes : List ℕ) (s : Stage) (ds : List Detail)
    → front_ok (with_record f body s ds) ≡ front_ok g → Shape s bytes ds → ShapeOf g bytes
with_record_shape f g body bytes s ds e h = subst (λ (x : Front). ShapeOf x bytes) (same_front (with_record f body s ds) g e) h

record_shape : (f g : Front) (s : Stage) (bytes body : List ℕ) → f.stage ≡ s → Shape s bytes f.details
    → IsInside body → record_at s f body ≡ Ok g → ShapeOf g (bytes ++ record_text body)
record_shape f g Start bytes body at h inside is =
    let read = both_ok (header f.length body) (λ (head : Head). front_ok (with_record f body (Headed head) f.details)) g is in
    with_record_shape f g body (bytes ++ record_text body) (Headed read.0) f.details read.2
    (header_shape bytes body read.0 f.details h.0 h.1 inside (header_is f.length body read.0 read.1))
record_shape f g (Headed head) bytes body at h inside is =
    elim (chosen (is_kind (codes "G1") body) (with_detail f body) _ (front_ok g) is) [
      | inl detail_is_read ↦ (
          let read = both_ok (detail f.length f.details body)
          (λ (d : Detail). front_ok (with_record f body f.stage (f.details ++ d ∷ []))) g detail_is_read.1 in
          let is_good = detail_is f.length f.details body read.0 detail_is_read.0 read.1 in
          with_record_shape f g body (bytes ++ record_text body) f.stage (f.details ++ read.0 ∷ []) read.2
          (subst (λ (s : Stage). Shape s (bytes ++ record_text body) (f.details ++ read.0 ∷ [])) (sym at)
          (detail_shape bytes body head f.details read.0 h inside is_good.0 is_good.1)))
      | inr other ↦ (
          let kind = granted (is_kind (codes "99") body) (fault.RecordKind f.length) (with_trailer f head body) g other.1 in
          let read = both_ok (trailer f.length head f.details body)
          (λ (t : Trailer). front_ok (with_record f body (Whole head) f.details)) g kind.1 in
          with_record_shape f g body (bytes ++ record_text body) (Whole head) f.details read.2
          (trailer_shape bytes body head f.details h inside (trailer_is f.length head f.details body read.0 kind.0 read.1)))
    ]
record_shape f g (Whole head) bytes body at h inside is = absurd cc

-- the bytes of a good front have the shape of its stage
pub shape_of : {bytes : List ℕ} {f : Front} → IsFront bytes f → ShapeOf f bytes
shape_of empty = (All-nil (λ (b : ℕ). is_skipped b ≡ true), refl)
shape_of (skipped {bytes} {f} b h is) = gap_shape f.stage bytes f.details b (shape_of h) is
shape_of (good {bytes} {f} body g h inside is) = record_shape f g f.stage bytes body refl (shape_of h) inside is
