-- What is written is cut into the parts, segments and fields that it was written of.
use Rattle.std.proofs.Common.{◌≡◌, ℕ, ◌<◌, ◌≤◌, true, false, eqb, List, [], ◌∷◌, ◌++◌}
use Rattle.std.proofs.Common.{length, map, drop, refl, ap, ◌∙◌, inl, inr, arith}
use Rattle.std.specs.Prelude.{filter}
use Rattle.std.specs.List.{All, list_all}
use Rattle.std.proofs.Math.Seq.{drop-append_seam}
use Rattle.std.proofs.lemmas.Bool.{and_parts, cases_Bool, eqb-true, leb-true}
use Rattle.std.proofs.lemmas.Bool.Decides.{nat_tests}
use Rattle.std.proofs.lemmas.List.{append-nil}
use Rattle.std.proofs.lemmas.List.Elements.{All-append, All-cons, All-head, All-map, All-nil, All-tail, All-weaker}
use Rattle.std.proofs.lemmas.List.Splits.{slice_split_none, slice_split_at}
use Rattle.rx_text.specs.declared.separators.TheConstants.{FIELD, SEGMENT}
use Rattle.rx_text.specs.Bytes.{is_printable, cut}
use Rattle.rx_fields.specs.Text.{trimmed}
use Rattle.rx_d0_request.specs.Cut.{Field, field_of, fields, filled, first, further}
use Rattle.rx_d0_request.specs.Cut.{has_id, is_named, is_nonempty, is_part, is_segment, segments}
use Rattle.rx_d0_request.specs.Request.{groups, parts}
use Rattle.rx_d0_request.specs.Written.{IsWritten, IsWrittenPart, IsWrittenSegment, behind, field_text, part_text, parts_text, segment_text}

-- ---- pieces after a separator

-- no byte is the separator
abbrev pub Lacks : ℕ → List ℕ → Type 0
Lacks separator bytes = All (λ b. eqb b separator ≡ false) bytes

cut_behind : (s : ℕ) (front : List ℕ) (pieces : List (List ℕ)) → Lacks s front → All (Lacks s) pieces
    → cut s (front ++ behind s pieces) ≡ front ∷ pieces
cut_behind s front [] lacks all = ap (cut s) (append-nil front) ∙ slice_split_none (λ b. eqb b s) front lacks
cut_behind s front (p ∷ ps) lacks all =
    let itself : eqb s s ≡ true = grind (arith, nat_tests) in
    slice_split_at (λ b. eqb b s) front s (p ++ behind s ps) lacks itself
    ∙ ap (λ (rest : List (List ℕ)). front ∷ rest)
    (cut_behind s p ps (All-head (Lacks s) p ps all) (All-tail (Lacks s) p ps all))

-- pieces after one separator lack another that each of them lacks
lacks_behind : (s t : ℕ) (pieces : List (List ℕ)) → eqb t s ≡ false → All (Lacks s) pieces → Lacks s (behind t pieces)
lacks_behind s t [] other all = All-nil (λ b. eqb b s ≡ false)
lacks_behind s t (p ∷ ps) other all =
    All-cons (λ b. eqb b s ≡ false) t (p ++ behind t ps) other
    (All-append (λ b. eqb b s ≡ false) p (behind t ps) (All-head (Lacks s) p ps all)
    (lacks_behind s t ps other (All-tail (Lacks s) p ps all)))

not_separator : (s b : ℕ) → s < 32 → is_printable b ≡ true → eqb b s ≡ false
not_separator s b low is =
    let least : 32 ≤ b = leb-true 32 b (and_parts _ _ is).0 in
    elim (cases_Bool (eqb b s)) [
      | inl t ↦ absurd (omega (arith, eqb-true b s t))
      | inr f ↦ f
    ]

printable_lacks : (s : ℕ) → s < 32 → (bytes : List ℕ) → list_all is_printable bytes ≡ true → Lacks s bytes
printable_lacks s low [] is = All-nil (λ b. eqb b s ≡ false)
printable_lacks s low (b ∷ bytes) is =
    let here = and_parts (is_printable b) (list_all is_printable bytes) is in
    All-cons (λ c. eqb c s ≡ false) b bytes (not_separator s b low here.0) (printable_lacks s low bytes here.1)

-- ---- fields

text_long : (id value : List ℕ) → length id ≡ 2 → has_id (id ++ value) ≡ true
text_long [] value two = absurd (omega arith)
text_long (a ∷ []) value two = absurd (omega arith)
text_long (a ∷ b ∷ more) value two = grind (arith, nat_tests)

text_nonempty : (id value : List ℕ) → length id ≡ 2 → is_nonempty (id ++ value) ≡ true
text_nonempty [] value two = absurd (omega arith)
text_nonempty (a ∷ more) value two = grind (arith, nat_tests)

field_back : (id value : List ℕ) → length id ≡ 2 → trimmed value ≡ value
    → field_of (id ++ value) ≡ record { id = id; value = value }
field_back [] value two whole = absurd (omega arith)
field_back (a ∷ []) value two whole = absurd (omega arith)
field_back (a ∷ b ∷ []) value two whole = λ i. record { id = a ∷ b ∷ []; value = whole i }
field_back (a ∷ b ∷ c ∷ more) value two whole = absurd (omega arith)

all_long : (fs : List Field) → All IsWritten fs → list_all has_id (map field_text fs) ≡ true
all_long [] all = refl
all_long (f ∷ fs) all =
    rw (text_long f.id f.value (All-head IsWritten f fs all).two) (all_long fs (All-tail IsWritten f fs all))

all_nonempty : (fs : List Field) → All IsWritten fs → filter is_nonempty (map field_text fs) ≡ map field_text fs
all_nonempty [] all = refl
all_nonempty (f ∷ fs) all =
    rw (text_nonempty f.id f.value (All-head IsWritten f fs all).two)
    (ap (λ (rest : List (List ℕ)). field_text f ∷ rest) (all_nonempty fs (All-tail IsWritten f fs all)))

all_back : (fs : List Field) → All IsWritten fs → map field_of (map field_text fs) ≡ fs
all_back [] all = refl
all_back (f ∷ fs) all =
    let here = All-head IsWritten f fs all in
    let first = field_back f.id f.value here.two here.whole in
    let rest = all_back fs (All-tail IsWritten f fs all) in
    λ i. first i ∷ rest i

texts_lack : (s : ℕ) → s < 32 → (fs : List Field) → All IsWritten fs → All (Lacks s) (map field_text fs)
texts_lack s low fs all = All-map (Lacks s) field_text fs
    (All-weaker IsWritten (λ f. Lacks s (field_text f)) (λ f is. printable_lacks s low (field_text f) is.printable) fs all)

-- ---- a segment

module _ (fs : List Field) (all : All IsWritten fs) where
  segment_cut : cut FIELD (segment_text fs) ≡ [] ∷ map field_text fs
  segment_cut = cut_behind 28 [] (map field_text fs) (All-nil (λ b. eqb b 28 ≡ false))
      (texts_lack 28 (omega arith) fs all)

  segment_filled : filled (segment_text fs) ≡ map field_text fs
  segment_filled = ap (λ (pieces : List (List ℕ)). filter is_nonempty (further pieces)) segment_cut ∙ all_nonempty fs all

  pub fields_back : fields (segment_text fs) ≡ fs
  unfolding fields
  fields_back = ap (map field_of) segment_filled ∙ all_back fs all

  pub is_cut : is_named fs ≡ true → is_segment (segment_text fs) ≡ true
  unfolding is_segment
  is_cut named = rw (segment_cut, all_nonempty fs all, all_long fs all, fields_back, named) refl

-- ---- a part

segments_lack : (s : ℕ) → s < 32 → eqb 28 s ≡ false → (segs : List (List Field)) → IsWrittenPart segs
    → All (Lacks s) (map segment_text segs)
segments_lack s low other segs all = All-map (Lacks s) segment_text segs
    (All-weaker IsWrittenSegment (λ fs. Lacks s (segment_text fs))
    (λ fs is. lacks_behind s 28 (map field_text fs) other (texts_lack s low fs is.fields)) segs all)

all_cut : (segs : List (List Field)) → IsWrittenPart segs → list_all is_segment (map segment_text segs) ≡ true
all_cut [] all = refl
all_cut (fs ∷ segs) all =
    let here = All-head IsWrittenSegment fs segs all in
    rw (is_cut fs here.fields here.named) (all_cut segs (All-tail IsWrittenSegment fs segs all))

module _ (segs : List (List Field)) (all : IsWrittenPart segs) where
  part_cut : cut SEGMENT (part_text segs) ≡ [] ∷ map segment_text segs
  part_cut = cut_behind 30 [] (map segment_text segs) (All-nil (λ b. eqb b 30 ≡ false))
      (segments_lack 30 (omega arith) refl segs all)

  pub segments_back : segments (part_text segs) ≡ map segment_text segs
  unfolding segments
  segments_back = ap further part_cut

  pub part_is_cut : is_part (part_text segs) ≡ true
  unfolding is_part
  part_is_cut = rw (part_cut, segments_back, all_cut segs all) refl

  part_lacks : Lacks 29 (part_text segs)
  part_lacks = lacks_behind 29 30 (map segment_text segs) refl (segments_lack 29 (omega arith) refl segs all)

-- ---- all parts

module _ (header : List ℕ) (common : List (List Field)) (gs : List (List (List Field))) where
  module _ (whole : length header ≡ 56) (is_common : IsWrittenPart common) (are_groups : All IsWrittenPart gs) where
    parts_back : parts (header ++ parts_text common gs) ≡ part_text common ∷ map part_text gs
    unfolding parts
    parts_back =
        let rest : drop 56 (header ++ parts_text common gs) ≡ parts_text common gs =
        rw (← whole) (drop-append_seam header (parts_text common gs)) in
        ap (cut 29) rest
        ∙ cut_behind 29 (part_text common) (map part_text gs) (part_lacks common is_common)
        (All-map (Lacks 29) part_text gs (All-weaker IsWrittenPart (λ g. Lacks 29 (part_text g)) part_lacks gs are_groups))

    pub common_back : first (parts (header ++ parts_text common gs)) ≡ part_text common
    common_back = ap first parts_back

    pub groups_back : groups (header ++ parts_text common gs) ≡ map part_text gs
    unfolding groups
    groups_back = ap further parts_back
