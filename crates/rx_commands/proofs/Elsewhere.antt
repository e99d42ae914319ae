-- What is printed for a pharmacy of two jobs that differ only in names of other pharmacies' claims.
use Rattle.std.specs.Prelude.{◌||◌, ◌⊎◌, if◌then◌else◌, is_some}
use Rattle.std.proofs.Common.{◌≡◌, ℕ, ◌-◌, List, [], ◌∷◌, ◌++◌, map, Bool, true, false, Option, Some, None}
use Rattle.std.proofs.Common.{refl, sym, ap, subst, ◌∙◌, inl, inr}
use Rattle.std.specs.Option.{option_map}
use Rattle.std.specs.List.{All, AllZip, filter, flat_map, list_any}
use Rattle.std.proofs.lemmas.Bool.{cases_Bool}
use Rattle.rx_batch.specs.declared.batch.Batch.{Batch}
use Rattle.rx_batch.specs.declared.detail.Detail.{Detail}
use Rattle.rx_commands.specs.Elsewhere.{is_own_body, is_own_record}
use Rattle.rx_commands.specs.Explaining.{is_any_other, is_found, option_is_other, option_text, place_asked}
use Rattle.rx_commands.specs.Explaining.{rejected_at, rejected_if_other, rejected_in, rejected_is_found, rejected_is_other, rejected_of}
use Rattle.rx_commands.specs.Explaining.{rejected_part, rejected_text_if, shown_text}
use Rattle.rx_commands.specs.ForProvider.{IsSeenBy, is_own_in, own_asked}
use Rattle.rx_commands.specs.Retraced.{AreExplained}
use Rattle.rx_commands.specs.declared.manner.Manner.{Manner}
use Rattle.rx_commands.specs.declared.retraced.Retraced.{Retraced}
use Rattle.rx_commands.proofs.Beside.{AreBeside, AreOne, AreSameAt, any-same, others-same, rejected-other, rejected-same, texts-same}
use Rattle.rx_commands.proofs.Items.{no_item}
use Rattle.rx_commands.proofs.Shown.{IsShown, all-texts, any-other, any-some, are-shown, somes}
use Rattle.rx_d0_values.specs.declared.transmission.Body.{Body}
use Rattle.rx_d0_values.specs.declared.transmission.Body.TheVariants.{Rejected, Heard}
use Rattle.rx_d0_values.specs.declared.transmission.Heard.{Heard as HeardRecord}
use Rattle.rx_d0_values.specs.declared.transmission.Rejected.{Rejected as RejectedHeader}
use Rattle.rx_d0_values.specs.declared.transmission.Transmission.{Transmission}
use Rattle.rx_explain.specs.Explained.{IsExplained}
use Rattle.rx_explain.specs.Found.{found_in}
use Rattle.rx_explain.specs.Names.{AgreesBody, AgreesRow, AreNames, DifferInNames, KeepsBody, KeepsRow, Names, body_named, heard_named}
use Rattle.rx_explain.specs.Names.{ledger_named}
use Rattle.rx_explain.specs.Spots.{Spot, item}
use Rattle.rx_explain.specs.declared.at.At.{At}
use Rattle.rx_explain.specs.declared.explanation.Explanation.{Explanation}
use Rattle.rx_explain.specs.declared.finding.Query.{Query}
use Rattle.rx_explain.proofs.NamesApart.{All-item, at-place, explained-alike, item-some, there-too}
use Rattle.rx_explain.proofs.NamesFolded.{InOrder}
use Rattle.rx_commands.proofs.NamesFound.{found-alike, is_own_at, item-mapped}
use Rattle.rx_commands.proofs.NamesReplies.{reply-kept}
use Rattle.rx_explain.proofs.Unnamed.{unnamed}
use Rattle.rx_fields.specs.Numbered.{LotParts}
use Rattle.rx_ledger.specs.Fold.{fold_replies}
use Rattle.rx_ledger.specs.Ledger.{Ledger}
use Rattle.rx_ledger.specs.Plan.{Plan}

same-of-some : {X : Type 0} (x y : X) → Some x ≡ Some y → x ≡ y
same-of-some x y same = cc

either-first : (b c : Bool) → b ≡ true → (b || c) ≡ true
either-first true c is = refl
either-first false c is = absurd (let e : false ≡ true = is in cc)

either-second : (b c : Bool) → c ≡ true → (b || c) ≡ true
either-second true c is = refl
either-second false c is = is

-- ---- the records of two jobs

module _ (asks : Detail → Transmission) (own : List ℕ) (plan : Plan) (details others : List Detail) (L : Ledger) (n : Names)
    (are : AreNames n)
    (records-are : map (λ (u : Transmission). u.body) (map asks others)
    ≡ map (λ (t : Transmission). body_named n t.body) (map asks details))
    (claims-agree : All (AgreesRow n) L.rows) (records-agree : All (λ t. AgreesBody n plan t.body) (map asks details))
    (own-name : n.pharmacy own ≡ own) (own-claims : All (KeepsRow n own) L.rows)
    (keeps-own : All (λ t. KeepsBody n own t.body) (map asks details))
    (own-records : (place : ℕ)
    → (is_own_record own (item (map asks details) place) || is_own_record own (item (map asks others) place)) ≡ true
    → item others place ≡ item details place)
    (is : InOrder n L) where
  abbrev ts : List Transmission
  ts = map asks details

  abbrev us : List Transmission
  us = map asks others

  abbrev M : Ledger
  M = ledger_named n L

  -- a record of the pharmacy
  abbrev mine : ℕ → Bool
  mine place = is_own_record own (item ts place)

  detail-same : (place : ℕ) → mine place ≡ true → item others place ≡ item details place
  detail-same place own-one =
      own-records place (either-first (mine place) (is_own_record own (item us place)) own-one)

  same-if : (place : ℕ) → item others place ≡ item details place → item us place ≡ item ts place
  same-if place same =
      item-mapped asks others place ∙ ap (option_map asks) same ∙ sym (item-mapped asks details place)

  record-same : (place : ℕ) → mine place ≡ true → item us place ≡ item ts place
  record-same place own-one = same-if place (detail-same place own-one)

  both-bodies : (place : ℕ) → option_map (λ (u : Transmission). u.body) (item us place)
      ≡ option_map (λ (t : Transmission). body_named n t.body) (item ts place)
  both-bodies place =
      sym (item-mapped (λ (u : Transmission). u.body) us place)
      ∙ ap (λ bs. item bs place) records-are
      ∙ item-mapped (λ (t : Transmission). body_named n t.body) ts place

  body-kept : (place : ℕ) (t : Transmission) → mine place ≡ true → item ts place ≡ Some t → body_named n t.body ≡ t.body
  body-kept place t own-one there =
      let both : Some t.body ≡ Some (body_named n t.body) =
      ap (option_map (λ (u : Transmission). u.body)) (sym (record-same place own-one ∙ there)) ∙ both-bodies place
      ∙ ap (option_map (λ (u : Transmission). body_named n u.body)) there in
      sym (same-of-some t.body (body_named n t.body) both)

  abbrev pub differ : DifferInNames own plan ts us L M
  differ =
      record {
        names = n;
        are_names = are;
        books_are = refl;
        records_are = records-are;
        claims_agree = claims-agree;
        records_agree = records-agree;
        own_claims = own-claims;
        own_records = keeps-own;
      }

  -- ---- replies

  reply-same-at : (lot : LotParts) (place : ℕ) (o : Option Transmission) → item ts place ≡ o → is_own_record own o ≡ true
      → item (fold_replies lot plan 1 us M) place ≡ item (fold_replies lot plan 1 ts L) place
  reply-same-at lot place None there own-one = absurd (let e : false ≡ true = own-one in cc)
  reply-same-at lot place (Some t) there own-one =
      let own-there : mine place ≡ true = ap (is_own_record own) there ∙ own-one in
      let found = item-some ts place t there in
      let too = item-some us place t (record-same place own-there ∙ there) in
      let kept = body-kept place t own-there there in
      let agrees : AgreesBody n plan t.body = All-item (λ u. AgreesBody n plan u.body) ts (place - 1) t records-agree found.1 in
      rw found.0 (reply-kept lot plan n are ts us L (place - 1) t records-are records-agree agrees is found.1 too.1 kept)

  pub reply-same : (lot : LotParts) (place : ℕ) → mine place ≡ true
      → item (fold_replies lot plan 1 us M) place ≡ item (fold_replies lot plan 1 ts L) place
  reply-same lot place own-one = reply-same-at lot place (item ts place) refl own-one

  -- ---- rejected headers

  abbrev shown-header : Option Transmission → ℕ → Option RejectedHeader
  shown-header o nth = rejected_of (if is_own_in own o then o else None) nth

  header-if : (at : At) (xs : List Transmission) (b : Bool)
      → rejected_of (item (if b then xs else []) at.place) at.nth ≡ rejected_of (if b then item xs at.place else None) at.nth
  header-if at xs true = refl
  header-if at xs false = ap (λ o. rejected_of o at.nth) (no_item {X = Transmission} at.place)

  header-is : (at : At) (xs : List Transmission) → rejected_at (own_asked own (Some at) xs) at ≡ shown-header (item xs at.place) at.nth
  header-is at xs = header-if at xs (is_own_in own (item xs at.place))

  none-if : (t : Transmission) (h : HeardRecord) (nth : ℕ) (b : Bool) → t.body ≡ Heard h
      → rejected_of (if b then Some t else None) nth ≡ None
  none-if t h nth true body = ap (λ c. rejected_in c nth) body
  none-if t h nth false body = refl

  no-header : (h : HeardRecord) (t : Transmission) (nth : ℕ) → t.body ≡ Heard h → shown-header (Some t) nth ≡ None
  no-header h t nth body = none-if t h nth (is_own_in own (Some t)) body

  -- both have none; or both have this one, in a record of the pharmacy
  abbrev AreHeaders : ℕ → Option RejectedHeader → Option RejectedHeader → Type 0
  AreHeaders place o p = ((o ≡ None) × (p ≡ None)) ⊎ ((p ≡ o) × (mine place ≡ true))

  by-body : (place nth : ℕ) (t u : Transmission) (b : Body) → item ts place ≡ Some t → item us place ≡ Some u → t.body ≡ b
      → u.body ≡ body_named n b → AreHeaders place (shown-header (Some t) nth) (shown-header (Some u) nth)
  by-body place nth t u (Heard h) here there body other =
      inl (no-header h t nth body, no-header (heard_named n h) u nth other)
  by-body place nth t u (Rejected r) here there body other =
      let own-t : is_own_record own (Some t) ≡ is_own_in own (Some t) = ap (is_own_body own t.echo.provider) body in
      let own-u : is_own_record own (Some u) ≡ is_own_in own (Some u) = ap (is_own_body own u.echo.provider) other in
      elim (cases_Bool (is_own_record own (Some t))) [
        | inl owned ↦
            let own-one : mine place ≡ true = ap (is_own_record own) here ∙ owned in
            let same : u ≡ t = same-of-some u t (sym there ∙ record-same place own-one ∙ here) in
            inr (ap (λ v. shown-header (Some v) nth) same, own-one)
        | inr not-t ↦ elim (cases_Bool (is_own_record own (Some u))) [
          | inl owned ↦
              let same-detail : item others place ≡ item details place =
              own-records place (either-second (mine place) (is_own_record own (item us place)) (ap (is_own_record own) there ∙ owned)) in
              let same : u ≡ t = same-of-some u t (sym there ∙ same-if place same-detail ∙ here) in
              absurd (let e : true ≡ false = sym owned ∙ ap (λ v. is_own_record own (Some v)) same ∙ not-t in cc)
          | inr not-u ↦
              let no-t : is_own_in own (Some t) ≡ false = sym own-t ∙ not-t in
              let no-u : is_own_in own (Some u) ≡ false = sym own-u ∙ not-u in
              inl (ap (λ b. rejected_of (if b then Some t else None) nth) no-t, ap (λ b. rejected_of (if b then Some u else None) nth) no-u)
        ]
      ]

  by-records : (place nth : ℕ) (o p : Option Transmission) → item ts place ≡ o → item us place ≡ p
      → option_map (λ (u : Transmission). u.body) p ≡ option_map (λ (t : Transmission). body_named n t.body) o
      → AreHeaders place (shown-header o nth) (shown-header p nth)
  by-records place nth None None here there same = inl (refl, refl)
  by-records place nth None (Some u) here there same = absurd (let e : Some u.body ≡ None = same in cc)
  by-records place nth (Some t) None here there same = absurd (let e : None ≡ Some (body_named n t.body) = same in cc)
  by-records place nth (Some t) (Some u) here there same =
      by-body place nth t u t.body here there refl (same-of-some u.body (body_named n t.body) same)

  pub headers : (at : At) → AreHeaders at.place (rejected_at (own_asked own (Some at) ts) at) (rejected_at (own_asked own (Some at) us) at)
  headers at =
      subst (λ o. AreHeaders at.place o (rejected_at (own_asked own (Some at) us) at)) (sym (header-is at ts))
      (subst (λ p. AreHeaders at.place (shown-header (item ts at.place) at.nth) p) (sym (header-is at us))
      (by-records at.place at.nth (item ts at.place) (item us at.place) refl refl (both-bodies at.place)))

  -- ---- two batches that were replayed, as far as the pharmacy may see them

  module _ (lot : LotParts) (w : Query) (r s : Retraced) (beside : AreBeside r s)
      (r-details : r.details ≡ details) (s-details : s.details ≡ others)
      (r-replies : r.replies.items ≡ fold_replies lot plan 1 ts L) (s-replies : s.replies.items ≡ fold_replies lot plan 1 us M)
      (r-asked : r.asked.items ≡ own_asked own (place_asked w) ts) (s-asked : s.asked.items ≡ own_asked own (place_asked w) us)
      (xs ys : List (Option Explanation))
      (r-explained : AreExplained lot plan ts L w (fold_replies lot plan 1 ts L) xs)
      (s-explained : AreExplained lot plan us M w (fold_replies lot plan 1 us M) ys)
      (r-seen : AllZip (IsSeenBy own) xs r.explanations.items) (s-seen : AllZip (IsSeenBy own) ys s.explanations.items)
      (m : Manner) (file : Option Batch) where
    pub same-at : (place : ℕ) → mine place ≡ true → AreSameAt r s place
    same-at place own-one =
        record {
          record_is = ap (λ ds. item ds place) r-details ∙ sym (detail-same place own-one) ∙ ap (λ ds. item ds place) (sym s-details);
          reply_is = ap (λ rs. item rs place) r-replies ∙ sym (reply-same lot place own-one) ∙ ap (λ rs. item rs place) (sym s-replies);
        }

    -- the explanations of one transaction
    one-alike : (at : At) (x y : Explanation) → IsShown own lot plan ts L at x → IsShown own lot plan us M at y → AreOne r s beside file x y
    one-alike at x y one other =
        let there = there-too own plan ts us L M differ is at one.spot one.there one.mine in
        let spots : other.spot ≡ one.spot = same-of-some other.spot one.spot (sym other.there ∙ there) in
        let explained : IsExplained lot plan us M at (Some one.spot) (Some other.whole) =
        subst (λ (p : Spot). IsExplained lot plan us M at (Some p) (Some other.whole)) spots other.explained in
        let alike = explained-alike own lot plan ts us L M differ is at one.spot one.there one.mine one.whole other.whole one.explained
        explained in
        let place = at-place ts at one.spot one.there in
        let here : item ts at.place ≡ Some place.transmission = rw place.counts place.is_there in
        let own-one : mine at.place ≡ true =
        ap (is_own_record own) here ∙ ap (is_own_body own place.transmission.echo.provider) place.body_is ∙ one.mine in
        let at-is : x.at ≡ at = one.seen.at_is ∙ one.explained.at_is in (
          unnamed one.whole other.whole x y alike one.seen other.seen,
          subst (λ (p : At). AreSameAt r s p.place) (sym at-is) (same-at at.place own-one),
        )

    each-alike : (ats : List At) (es bs : List Explanation) → AllZip (IsShown own lot plan ts L) ats es
        → AllZip (IsShown own lot plan us M) ats bs → AllZip (AreOne r s beside file) es bs
    each-alike [] [] [] one other = tt
    each-alike [] [] (b ∷ bs) one other = absurd other
    each-alike [] (a ∷ es) bs one other = absurd one
    each-alike (at ∷ ats) [] bs one other = absurd one
    each-alike (at ∷ ats) (a ∷ es) [] one other = absurd other
    each-alike (at ∷ ats) (a ∷ es) (b ∷ bs) one other =
        (one-alike at a b one.0 other.0, each-alike ats es bs one.1 other.1)

    pub explanations-alike : AllZip (AreOne r s beside file) (somes r.explanations.items) (somes s.explanations.items)
    explanations-alike =
        let ats : List At = filter (is_own_at own ts) (found_in w 1 ts (fold_replies lot plan 1 ts L)) in
        let one : AllZip (IsShown own lot plan ts L) ats (somes r.explanations.items) =
        are-shown own lot plan ts L (found_in w 1 ts (fold_replies lot plan 1 ts L)) xs r.explanations.items r-explained r-seen in
        let other : AllZip (IsShown own lot plan us M) ats (somes s.explanations.items) =
        subst (λ places. AllZip (IsShown own lot plan us M) places (somes s.explanations.items))
        (found-alike own plan ts us L M differ own-name lot w is)
        (are-shown own lot plan us M (found_in w 1 us (fold_replies lot plan 1 us M)) ys s.explanations.items s-explained s-seen) in
        each-alike ats (somes r.explanations.items) (somes s.explanations.items) one other

    -- ---- the text

    abbrev RejectedAlike : Option At → Type 0
    RejectedAlike at = (rejected_part m r file at ≡ rejected_part m s file at)
        × (rejected_is_other r file at ≡ rejected_is_other s file at) × (rejected_is_found r at ≡ rejected_is_found s at)

    by-headers : (at : At) (o p : Option RejectedHeader) → rejected_at r.asked.items at ≡ o → rejected_at s.asked.items at ≡ p
        → AreHeaders at.place o p → RejectedAlike (Some at)
    by-headers at o p here there (inl (none, too)) = (
      ap (rejected_text_if m r file at.place) (here ∙ none) ∙ ap (rejected_text_if m s file at.place) (sym (there ∙ too)),
      ap (rejected_if_other r file at.place) (here ∙ none) ∙ ap (rejected_if_other s file at.place) (sym (there ∙ too)),
      ap is_some (here ∙ none) ∙ ap is_some (sym (there ∙ too)),
    )
    by-headers at o p here there (inr (same, own-one)) =
        let both = same-at at.place own-one in (
          ap (rejected_text_if m r file at.place) here ∙ rejected-same r s beside file at.place both m o
              ∙ ap (rejected_text_if m s file at.place) (sym (there ∙ same)),
          ap (rejected_if_other r file at.place) here ∙ rejected-other r s beside file at.place both o
              ∙ ap (rejected_if_other s file at.place) (sym (there ∙ same)),
          ap is_some here ∙ ap is_some (sym (there ∙ same)),
        )

    rejected-alike : (at : Option At) → r.asked.items ≡ own_asked own at ts → s.asked.items ≡ own_asked own at us → RejectedAlike at
    rejected-alike None here there = (refl, refl, refl)
    rejected-alike (Some at) here there =
        by-headers at (rejected_at (own_asked own (Some at) ts) at) (rejected_at (own_asked own (Some at) us) at)
        (ap (λ list. rejected_at list at) here) (ap (λ list. rejected_at list at) there) (headers at)

    header : RejectedAlike (place_asked w)
    header = rejected-alike (place_asked w) r-asked s-asked

    pub shown-same : shown_text m r w file ≡ shown_text m s w file
    shown-same =
        ap (λ t. t ++ flat_map (option_text m r file) r.explanations.items) header.0
        ∙ ap (λ t. rejected_part m s file (place_asked w) ++ t)
        (all-texts m r file r.explanations.items
        ∙ texts-same r s beside file m (somes r.explanations.items) (somes s.explanations.items) explanations-alike
        ∙ sym (all-texts m s file s.explanations.items))

    pub other-same : is_any_other r w file ≡ is_any_other s w file
    other-same =
        ap (λ b. b || list_any (option_is_other r file) r.explanations.items) header.1
        ∙ ap (λ b. rejected_is_other s file (place_asked w) || b)
        (any-other m r file r.explanations.items
        ∙ others-same r s beside file m (somes r.explanations.items) (somes s.explanations.items) explanations-alike
        ∙ sym (any-other m s file s.explanations.items))

    pub found-same : is_found r w ≡ is_found s w
    found-same =
        ap (λ b. b || list_any is_some r.explanations.items) header.2
        ∙ ap (λ b. rejected_is_found s (place_asked w) || b)
        (any-some r.explanations.items
        ∙ any-same r s beside file (somes r.explanations.items) (somes s.explanations.items) explanations-alike
        ∙ sym (any-some s.explanations.items))

    pub all-same : (shown_text m r w file ≡ shown_text m s w file) × (is_any_other r w file ≡ is_any_other s w file)
        × (is_found r w ≡ is_found s w)
    all-same = (shown-same, other-same, found-same)
