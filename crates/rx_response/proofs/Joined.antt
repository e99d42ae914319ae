-- Pieces that are rendered in parallel, and joined.
use Rattle.std.proofs.Common.{◌≡◌, List, [], ◌∷◌, ◌++◌, map, ℕ, ◌+◌, ◌<◌, ◌≤◌, Result, Ok, Err, length, get_or, drop}
use Rattle.std.proofs.Common.{append_assoc, refl, sym, ap, ◌∙◌, arith}
use Rattle.std.specs.Prelude.{IfOk, IsOkAnd, MatchResult, zip}
use Rattle.std.specs.List.{AllZip, flat_map}
use Rattle.std.specs.Vec.{vec_items}
use Rattle.std.specs.declared.vec.Vec.{Vec}
use Rattle.std.proofs.lemmas.List.{append-nil, length-map, drop_more, drop_all}
use Rattle.std.proofs.lemmas.Slice.Zip.{length-zip}
use Rattle.std.proofs.lemmas.Grind.{flat_map-append}
use Rattle.rayon.specs.Lists.{Folds}
use Rattle.rayon.proofs.Reducing.{Folds-elim}
use Rattle.rx_batch.specs.declared.detail.Detail.{Detail}
use Rattle.rx_d0_values.specs.declared.reply.Reply.{Reply}
use Rattle.rx_response.specs.Pieces.{answer_text, records_text}
use Rattle.rx_response.specs.Response.{response_detail, response_details}

-- what holds of a result's value, where it is said of both outcomes
pub ok_of : {X E : Type 0} (r : Result X E) (P Q : X → Type 0) (S : E → Type 0)
    → MatchResult r P S → ((x : X) → P x → Q x) → IfOk r Q
ok_of (Ok x) P Q S h f = f x h
ok_of (Err e) P Q S h f = tt

module _ {X Z : Type 0} (E : Type 0) (record_of : X → List ℕ) where
  -- a piece has the records of these items, where it was made
  abbrev IsPiece : List X → Result (Vec ℕ Z) E → Type 0
  IsPiece xs r = IfOk r (λ (t : Vec ℕ Z). t.items ≡ flat_map record_of xs)

  -- one record more
  abbrev pub AddsOne : Result (Vec ℕ Z) E → X → Result (Vec ℕ Z) E → Type 0
  AddsOne a x r = IfOk r (λ (new : Vec ℕ Z). IsOkAnd a (λ (old : Vec ℕ Z). new.items ≡ old.items ++ record_of x))

  one_more : (xs : List X) (a : Result (Vec ℕ Z) E) (x : X) (r : Result (Vec ℕ Z) E)
      → IsPiece xs a → AddsOne a x r → IsPiece (xs ++ x ∷ []) r
  one_more xs (Ok old) x (Ok new) m h =
      h ∙ ap (λ l. l ++ record_of x) m ∙ ap (λ l. flat_map record_of xs ++ l) (sym (append-nil (record_of x)))
      ∙ sym (flat_map-append record_of xs (x ∷ []))
  one_more xs (Err e) x (Ok new) m h = absurd h
  one_more xs a x (Err e) m h = tt

  piece : (xs : List X) (e r : Result (Vec ℕ Z) E) → IfOk e (λ (t : Vec ℕ Z). t.items ≡ []) → Folds AddsOne e xs r → IsPiece xs r
  piece xs e r start folds = Folds-elim AddsOne IsPiece one_more xs e r start folds

  -- the pieces that a fold gives, where each was made, have the records of all items
  pub joined : (pieces : List (List X)) (ys : List (Vec ℕ Z))
      → AllZip (λ xs (r : Result (Vec ℕ Z) E). (e : Result (Vec ℕ Z) E) × IfOk e (λ (t : Vec ℕ Z). t.items ≡ [])
      × Folds AddsOne e xs r) pieces (map Ok ys)
      → flat_map vec_items ys ≡ flat_map record_of (flat_map (λ l. l) pieces)
  joined [] [] h = refl
  joined [] (y ∷ ys) h = absurd h
  joined (xs ∷ rest) [] h = absurd h
  joined (xs ∷ rest) (y ∷ ys) h =
      (λ j. piece xs h.0.0 (Ok y) h.0.1 h.0.2 j ++ joined rest ys h.1 j)
      ∙ sym (flat_map-append record_of xs (flat_map (λ l. l) rest))

-- the text of pieces that stand between two
pub pieces-between : {Z : Type 0} (above below : Vec ℕ Z) (pieces : List (Vec ℕ Z))
    → flat_map vec_items ((above ∷ pieces) ++ below ∷ []) ≡ above.items ++ (flat_map vec_items pieces ++ below.items)
pieces-between above below pieces =
    ap (λ t. above.items ++ t) (flat_map-append vec_items pieces (below ∷ [])
    ∙ ap (λ t. flat_map vec_items pieces ++ t) (append-nil below.items))

-- there is an answer for each detail
pub as_many : (details : List Detail) (replies : List Reply) → length details ≡ length replies
    → length (response_details details replies) ≡ length details
as_many details replies same =
    omega (arith, length-map (zip details replies) (λ p. response_detail p.0 p.1), length-zip details replies, same)

-- the records of a list are those of what its items show
pub shown_records : {A : Type 0} (show : A → Detail × Reply) (xs : List A)
    → flat_map (λ x. answer_text (show x).0 (show x).1) xs
    ≡ records_text (map (λ (p : Detail × Reply). response_detail p.0 p.1) (map show xs))
shown_records show [] = refl
shown_records show (x ∷ xs) = ap (λ l. answer_text (show x).0 (show x).1 ++ l) (shown_records show xs)

-- ---- the records of one part, one after another

-- one record more is written
pub records_step : (details : List Detail) (replies : List Reply) (at : ℕ) (d : Detail) (r : Reply) (before after total : List ℕ)
    → at < length details → at < length replies → d ≡ get_or details at d → r ≡ get_or replies at r
    → after ≡ before ++ answer_text d r
    → before ++ records_text (response_details (drop at details) (drop at replies)) ≡ total
    → after ++ records_text (response_details (drop (at + 1) details) (drop (at + 1) replies)) ≡ total
records_step details replies at d r before after total in_details in_replies is_d is_r written so_far =
    let rest = records_text (response_details (drop (at + 1) details) (drop (at + 1) replies)) in
    let details_on : drop at details ≡ d ∷ drop (at + 1) details = drop_more details at d in_details
    ∙ ap (λ x. x ∷ drop (at + 1) details) (sym is_d) in
    let replies_on : drop at replies ≡ r ∷ drop (at + 1) replies = drop_more replies at r in_replies
    ∙ ap (λ x. x ∷ drop (at + 1) replies) (sym is_r) in
    let next : records_text (response_details (drop at details) (drop at replies)) ≡ answer_text d r ++ rest =
    (λ j. records_text (response_details (details_on j) (replies_on j))) in
    ap (λ (text : List ℕ). text ++ rest) written ∙ (append_assoc before (answer_text d r) rest
    ∙ (ap (λ (text : List ℕ). before ++ text) (sym next) ∙ so_far))

-- all records are written
pub records_done : (details : List Detail) (replies : List Reply) (at : ℕ) (before total : List ℕ) → length details ≤ at
    → before ++ records_text (response_details (drop at details) (drop at replies)) ≡ total → before ≡ total
records_done details replies at before total le so_far =
    let none : drop at details ≡ [] = drop_all at details le in
    sym (append-nil before)
    ∙ (ap (λ (left : List Detail). before ++ records_text (response_details left (drop at replies))) (sym none) ∙ so_far)
