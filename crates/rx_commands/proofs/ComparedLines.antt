-- The answers that differ up to a place: what is written of them, and what they come to.
use Rattle.std.proofs.Common.{◌≡◌, ◌≤◌, ◌<◌, ℕ, ◌+◌, min, pos, ◌-ℤ◌, get_or, take, zip, flat_map, List, [], ◌∷◌, ◌++◌, length}
use Rattle.std.proofs.Common.{refl, ap, sym, ◌∙◌, arith, append_assoc, append-nil}
use Rattle.std.specs.List.{sum_by}
use Rattle.std.proofs.lemmas.Grind.{flat_map-append}
use Rattle.std.proofs.lemmas.List.{get_or-map, length-map, take_all, take_more}
use Rattle.std.proofs.lemmas.List.Sums.{sum_by-cons}
use Rattle.std.proofs.lemmas.Slice.Zip.{get_or-zip, length-zip}
use Rattle.rx_d0_values.specs.declared.reply.Reply.{Reply}
use Rattle.rx_fields.specs.Numbered.{LotParts}
use Rattle.rx_report.specs.declared.line.Line.{Line}
use Rattle.rx_settle.specs.declared.tally.Tally.{Tally}
use Rattle.rx_commands.proofs.Differences.{sums_apart}
use Rattle.rx_commands.specs.Changes.{added, after, cents_of, no_change}
use Rattle.rx_commands.specs.ComparedText.{end_text, front_text, line_after, lines_after}
use Rattle.rx_commands.specs.Differing.{Differing, Entry, change, differing_in, differing_of, entries_of, entry_in, less, more}
use Rattle.rx_commands.specs.declared.comparing.change.Change.{Change}
use Rattle.rx_commands.specs.declared.comparing.form.CompareForm.{CompareForm}

-- ---- among the first answers of both sides

module _ (replies : List Reply) (lines : List Line) (with_replies : List Reply) (with_lines : List Line) where
  abbrev pairs : List (Entry × Entry)
  pairs = zip (entries_of replies lines) (entries_of with_replies with_lines)

  abbrev pub so_far : ℕ → List Differing
  so_far n = flat_map (λ (e : Entry × Entry). differing_in e.0 e.1) (take n pairs)

  long : length pairs ≡ min (length lines) (length with_lines)
  long =
      length-zip (entries_of replies lines) (entries_of with_replies with_lines)
      ∙ (λ j. min (length-map lines (entry_in replies) j) (length-map with_lines (entry_in with_replies) j))

  pair_at : (i : ℕ) (l m : Line) → i < length lines → i < length with_lines → l ≡ get_or lines i l → m ≡ get_or with_lines i m
      → get_or pairs i (entry_in replies l, entry_in with_replies m) ≡ (entry_in replies l, entry_in with_replies m)
  pair_at i l m left right l_is m_is =
      let t : Entry = entry_in replies l in
      let u : Entry = entry_in with_replies m in
      let one : i < length (entries_of replies lines) = omega (arith, length-map lines (entry_in replies)) in
      let other : i < length (entries_of with_replies with_lines) = omega (arith, length-map with_lines (entry_in with_replies)) in
      let given : get_or (entries_of replies lines) i t ≡ t =
      get_or-map (entry_in replies) lines i l t left ∙ ap (entry_in replies) (sym l_is) in
      let changed : get_or (entries_of with_replies with_lines) i u ≡ u =
      get_or-map (entry_in with_replies) with_lines i m u right ∙ ap (entry_in with_replies) (sym m_is) in
      get_or-zip (entries_of replies lines) (entries_of with_replies with_lines) i (t, u) one other
      ∙ (λ j. (given j, changed j))

  -- one more of either side
  pub so_more : (i : ℕ) (l m : Line) → i < min (length lines) (length with_lines) → l ≡ get_or lines i l
      → m ≡ get_or with_lines i m → so_far (i + 1) ≡ so_far i ++ differing_in (entry_in replies l) (entry_in with_replies m)
  so_more i l m lt l_is m_is =
      let left : i < length lines = omega arith in
      let right : i < length with_lines = omega arith in
      let all = long in
      let here : i < length pairs = omega arith in
      let t : Entry = entry_in replies l in
      let u : Entry = entry_in with_replies m in
      let found : Entry × Entry → List Differing = λ e. differing_in e.0 e.1 in
      ap (flat_map found) (take_more pairs i (t, u) here
      ∙ ap (λ (e : Entry × Entry). take i pairs ++ e ∷ []) (pair_at i l m left right l_is m_is))
      ∙ flat_map-append found (take i pairs) ((t, u) ∷ [])
      ∙ ap (λ (ds : List Differing). so_far i ++ ds) (append-nil (differing_in t u))

  -- all of them
  pub so_all : (n : ℕ) → min (length lines) (length with_lines) ≤ n
      → so_far n ≡ differing_of (entries_of replies lines) (entries_of with_replies with_lines)
  so_all n past =
      let all = long in
      let end : length pairs ≤ n = omega arith in
      ap (flat_map (λ (e : Entry × Entry). differing_in e.0 e.1)) (take_all n pairs end)

-- ---- what is written

-- these lines, and those after them
lines-append : (form : CompareForm) (n : ℕ) (ds es : List Differing)
    → lines_after form n (ds ++ es) ≡ lines_after form n ds ++ lines_after form (n + length ds) es
lines-append form n [] es = let same : n ≡ n + 0 = omega arith in ap (λ k. lines_after form k es) same
lines-append form n (d ∷ ds) es =
    let on : n + 1 + length ds ≡ n + length (d ∷ ds) = omega arith in
    ap (λ (t : List ℕ). line_after form n d ++ t) (lines-append form (n + 1) ds es
    ∙ ap (λ k. lines_after form (n + 1) ds ++ lines_after form k es) on)
    ∙ sym (append_assoc (line_after form n d) (lines_after form (n + 1) ds) (lines_after form (n + length (d ∷ ds)) es))

-- ---- what they come to

after-append : (c : Change) (ds es : List Differing) → after c (ds ++ es) ≡ after (after c ds) es
after-append c [] es = refl
after-append c (d ∷ ds) es = after-append (added c d) ds es

after_is : (c : Change) (ds : List Differing)
    → ((after c ds).count ≡ c.count + length ds) × ((after c ds).more ≡ c.more + sum_by more ds)
    × ((after c ds).less ≡ c.less + sum_by less ds)
after_is c [] = (omega arith, omega arith, omega arith)
after_is c (d ∷ ds) =
    let rest = after_is (added c d) ds in
    let p = sum_by-cons more d ds in
    let q = sum_by-cons less d ds in
    (omega (arith, rest.0), omega (arith, rest.1, p), omega (arith, rest.2, q))

pub counted : (ds : List Differing) → (after no_change ds).count ≡ length ds
counted ds = let is = after_is no_change ds in omega (arith, is.0)

pub cents-after : (ds : List Differing) → cents_of (after no_change ds) ≡ change ds
cents-after ds =
    let is = after_is no_change ds in
    let gained : (after no_change ds).more ≡ sum_by more ds = omega (arith, is.1) in
    let lost : (after no_change ds).less ≡ sum_by less ds = omega (arith, is.2) in
    (λ j. pos (gained j) -ℤ pos (lost j)) ∙ sums_apart ds

-- ---- one more answer is written and counted

module _ (form : CompareForm) (old text new : List ℕ) (before ds after_it : List Differing) (c next : Change)
    (is : c ≡ after no_change before) (longer : after_it ≡ before ++ ds) where
  pub written : text ≡ old ++ lines_after form 0 before → new ≡ text ++ lines_after form c.count ds
      → new ≡ old ++ lines_after form 0 after_it
  written so more_is =
      let many : c.count ≡ 0 + length before = ap (λ (d : Change). d.count) is ∙ counted before ∙ omega arith in
      let lines = lines_after form 0 before in
      more_is ∙ (λ j. so j ++ lines_after form (many j) ds)
      ∙ append_assoc old lines (lines_after form (0 + length before) ds)
      ∙ ap (λ (t : List ℕ). old ++ t) (sym (lines-append form 0 before ds) ∙ ap (lines_after form 0) (sym longer))

  pub counted_too : next ≡ after c ds → next ≡ after no_change after_it
  counted_too next_is =
      next_is ∙ ap (λ (d : Change). after d ds) is ∙ sym (after-append no_change before ds)
      ∙ ap (after no_change) (sym longer)

-- ---- the whole text

pub compared_text : (form : CompareForm) (lot : LotParts) (one other : Tally) (ds : List Differing) (c : Change)
    (empty front lines text : List ℕ)
    → empty ≡ [] → front ≡ empty ++ front_text form → lines ≡ front ++ lines_after form 0 ds → c ≡ after no_change ds
    → text ≡ lines ++ end_text form lot one other c.count (cents_of c)
    → text ≡ front_text form ++ (lines_after form 0 ds ++ end_text form lot one other (length ds) (change ds))
compared_text form lot one other ds c empty front lines text empty_is front_is lines_are is text_is =
    let many : c.count ≡ length ds = ap (λ (d : Change). d.count) is ∙ counted ds in
    let cents : cents_of c ≡ change ds = ap cents_of is ∙ cents-after ds in
    let begun : front ≡ front_text form = front_is ∙ ap (λ (t : List ℕ). t ++ front_text form) empty_is in
    let rest = lines_after form 0 ds ++ end_text form lot one other (length ds) (change ds) in
    text_is ∙ (λ j. lines_are j ++ end_text form lot one other (many j) (cents j))
    ∙ append_assoc front (lines_after form 0 ds) (end_text form lot one other (length ds) (change ds))
    ∙ ap (λ (t : List ℕ). t ++ rest) begun
