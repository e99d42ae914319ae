-- Accounts add up: the lines of a settlement, by provider, come to its tallies.
use Rattle.std.proofs.Common.{◌≡◌, ℕ, Bool, true, false, not, ◌||◌, cond, List, [], ◌∷◌, ◌++◌, map, refl, sym, ap, ◌∙◌}
use Rattle.std.proofs.Common.{get_or, inl, inr, subst}
use Rattle.std.specs.List.{All, filter, flat_map}
use Rattle.std.specs.List.Sorted.{IsPermutation}
use Rattle.std.proofs.lemmas.Bool.{cases_Bool}
use Rattle.std.proofs.lemmas.List.{append-nil, map-append}
use Rattle.std.proofs.lemmas.List.Elements.{All-append, All-cons, All-filter, All-head, All-map, All-nil, All-tail, All-weaker}
use Rattle.std.proofs.lemmas.List.Elements.{filter-append, filter_agree, filter_passes}
use Rattle.std.proofs.lemmas.List.Sorted.{IsPermutation-map, sum_by-IsPermutation}
use Rattle.rx_d0_values.specs.declared.reply.Answer.{Answer}
use Rattle.rx_d0_values.specs.declared.reply.Reply.{Reply}
use Rattle.rx_report.specs.declared.line.Line.{Line}
use Rattle.rx_report.specs.declared.portion.Portion.TheVariants as portion
use Rattle.rx_report.specs.Accounts.{first_tally, is_in, is_of, with_lines, with_tally}
use Rattle.rx_report.specs.AddsUp.{AccountsAddUp, AreLinesOf, entries_of, entry_of}
use Rattle.rx_report.specs.Groups.{group, grouped, provider_of, providers}
use Rattle.rx_report.specs.Lines.{answer_of}
use Rattle.rx_report.proofs.Parted.{among, and_false, filter_all, filter_twice, is_at, laws, lines_at_key, parted}
use Rattle.rx_report.proofs.Parted.{providers_are, same_text, seen_firsts}
use Rattle.rx_settle.proofs.Firsts.{firsts, seen, Distinct, Distinct-firsts}
use Rattle.rx_settle.proofs.Names.{named_again, same_fields}
use Rattle.rx_settle.specs.Answers.{answers_in, answers_of, tally}
use Rattle.rx_settle.specs.Answers.{is_paid, is_duplicate, is_approved, is_rejected, paid_out, taken_back}
use Rattle.rx_settle.specs.Counting.{field_text, tallies_of, tally_for}
use Rattle.rx_settle.specs.Providers.{is_same, named, replies_to, without}
use Rattle.rx_settle.specs.Providers as settled
use Rattle.rx_settle.specs.declared.tally.Tally.{Tally}

-- the parts of a section
abbrev Part : Type 0
Part = List ℕ × (Tally × List Line)

-- ---- tallies of lines in another order

pub tally_moved : (ks ls : List Line) → IsPermutation ks ls → tally (map answer_of ls) ≡ tally (map answer_of ks)
tally_moved ks ls moved =
    let answers = IsPermutation-map answer_of ks ls moved in
    λ j. record {
      paid = sum_by-IsPermutation (λ a. cond (is_paid a) 1 0) _ _ answers j;
      duplicate = sum_by-IsPermutation (λ a. cond (is_duplicate a) 1 0) _ _ answers j;
      approved = sum_by-IsPermutation (λ a. cond (is_approved a) 1 0) _ _ answers j;
      rejected = sum_by-IsPermutation (λ a. cond (is_rejected a) 1 0) _ _ answers j;
      paid_out = sum_by-IsPermutation paid_out _ _ answers j;
      taken_back = sum_by-IsPermutation taken_back _ _ answers j;
    }

-- ---- providers that fields name

abbrev IsNamed : List ℕ → Type 0
IsNamed p = named (field_text p) ≡ p

providers_named : (rs : List Reply) → All IsNamed (settled.providers rs)
providers_named [] = All-nil IsNamed
providers_named (r ∷ rs) = All-cons IsNamed _ _ (named_again r.echo.provider)
    (All-filter (λ b. not (is_same (settled.provider_of r) b)) IsNamed (settled.providers rs) (providers_named rs))

settled_firsts : (rs : List Reply) → settled.providers rs ≡ firsts is_same (map settled.provider_of rs)
settled_firsts [] = refl
settled_firsts (r ∷ rs) = ap (λ ps. settled.provider_of r ∷ without (settled.provider_of r) ps) (settled_firsts rs)

same_key : (f p : List ℕ) → IsNamed p → is_same (field_text (named f)) (field_text p) ≡ is_same (named f) p
same_key f p n =
    subst (λ q. is_same (field_text (named f)) (field_text q) ≡ is_same (named f) q) n (same_fields f (field_text p))

seen_keys : (f : List ℕ) (ps : List (List ℕ)) → All IsNamed ps
    → seen is_same (field_text (named f)) (map field_text ps) ≡ seen is_same (named f) ps
seen_keys f [] all = refl
seen_keys f (p ∷ ps) all =
    λ j. same_key f p (All-head IsNamed p ps all) j || seen_keys f ps (All-tail IsNamed p ps all) j

distinct_keys : (ps : List (List ℕ)) → All IsNamed ps → Distinct is_same ps → Distinct is_same (map field_text ps)
distinct_keys [] all d = tt
distinct_keys (p ∷ ps) all d =
    let n = All-head IsNamed p ps all in
    let rest = All-tail IsNamed p ps all in
    let head : seen is_same (field_text p) (map field_text ps) ≡ seen is_same p ps =
    subst (λ q. seen is_same (field_text q) (map field_text ps) ≡ seen is_same q ps) n (seen_keys (field_text p) ps rest) in
    (head ∙ d.0, distinct_keys ps rest d.1)

-- ---- keys that pass a test

seen_passing : (test : List ℕ → Bool) (x : List ℕ) (ks : List (List ℕ)) → test x ≡ true
    → seen is_same x (filter test ks) ≡ seen is_same x ks
seen_passing test x [] e = refl
seen_passing test x (k ∷ ks) e = elim (cases_Bool (is_same x k)) [
  | inl here ↦
      let passes : test k ≡ true = ap test (sym (same_text x k here)) ∙ e in
      rw (passes, here) refl
  | inr other ↦ elim (cases_Bool (test k)) [
    | inl passes ↦ rw (passes, other) (seen_passing test x ks e)
    | inr fails ↦ rw (fails, other) (seen_passing test x ks e)
  ]
]

none_passing : (test : List ℕ → Bool) (x : List ℕ) (ks : List (List ℕ)) → seen is_same x ks ≡ false
    → seen is_same x (filter test ks) ≡ false
none_passing test x [] e = e
none_passing test x (k ∷ ks) e = elim (cases_Bool (is_same x k)) [
  | inl here ↦ absurd (let h = rw here at e in cc)
  | inr other ↦ elim (cases_Bool (test k)) [
    | inl passes ↦ rw passes (rw other (none_passing test x ks (rw other at e)))
    | inr fails ↦ rw fails (none_passing test x ks (rw other at e))
  ]
]

distinct_passing : (test : List ℕ → Bool) (ks : List (List ℕ)) → Distinct is_same ks → Distinct is_same (filter test ks)
distinct_passing test [] d = d
distinct_passing test (k ∷ ks) d = elim (cases_Bool (test k)) [
  | inl passes ↦ rw passes (none_passing test k ks d.0, distinct_passing test ks d.1)
  | inr fails ↦ rw fails (distinct_passing test ks d.1)
]

-- ---- lines and their entries

entries_kept : (test : List ℕ → Bool) (ls : List Line)
    → map entry_of (filter (λ l. test l.provider) ls) ≡ filter (λ e. test e.0) (map entry_of ls)
entries_kept test [] = refl
entries_kept test (l ∷ ls) = elim (cases_Bool (test l.provider)) [
  | inl passes ↦ rw passes (ap (λ es. entry_of l ∷ es) (entries_kept test ls))
  | inr fails ↦ rw fails (entries_kept test ls)
]

all_entries : (P : List ℕ × Answer → Type 0) (ls : List Line) → All P (map entry_of ls) → All (λ l. P (entry_of l)) ls
all_entries P [] all = All-nil (λ l. P (entry_of l))
all_entries P (l ∷ ls) all = All-cons (λ l. P (entry_of l)) l ls (All-head P _ _ all) (all_entries P ls (All-tail P _ _ all))

entry_answers : (ls : List Line) → map (λ e. e.1) (map entry_of ls) ≡ map answer_of ls
entry_answers [] = refl
entry_answers (l ∷ ls) = ap (λ rest. l.answer ∷ rest) (entry_answers ls)

-- the answers of one reply
abbrev pairs : List ℕ → List Answer → List (List ℕ × Answer)
pairs f answers = map (λ a. (f, a)) answers

pair_answers : (f : List ℕ) (answers : List Answer) → map (λ e. e.1) (pairs f answers) ≡ answers
pair_answers f [] = refl
pair_answers f (a ∷ more) = ap (λ rest. a ∷ rest) (pair_answers f more)

pairs_kept : (test : List ℕ → Bool) (f : List ℕ) (answers : List Answer)
    → filter (λ e. test e.0) (pairs f answers) ≡ cond (test f) (pairs f answers) []
pairs_kept test f [] = elim (cases_Bool (test f)) [ inl passes ↦ rw passes refl | inr fails ↦ rw fails refl ]
pairs_kept test f (a ∷ more) = elim (cases_Bool (test f)) [
  | inl passes ↦ rw passes (ap (λ es. (f, a) ∷ es) (pairs_kept test f more ∙ rw passes refl))
  | inr fails ↦ rw fails (pairs_kept test f more ∙ rw fails refl)
]

all_answers : (rs : List Reply) → map (λ e. e.1) (entries_of rs) ≡ answers_of rs
all_answers [] = refl
all_answers (r ∷ rs) = map-append (λ (e : List ℕ × Answer). e.1) (pairs r.echo.provider (answers_in r.outcome)) (entries_of rs)
    ∙ (λ j. pair_answers r.echo.provider (answers_in r.outcome) j ++ all_answers rs j)

-- the answers under a provider are those of the replies to it
abbrev is_under : List ℕ → List ℕ → Bool
is_under p f = is_same (field_text p) (field_text (named f))

under_one : (p : List ℕ) (r : Reply) → IsNamed p → is_under p r.echo.provider ≡ is_same p (settled.provider_of r)
under_one p r n = laws.symm (field_text p) (field_text (named r.echo.provider)) ∙ same_key r.echo.provider p n
    ∙ laws.symm (named r.echo.provider) p

answers_under : (p : List ℕ) (rs : List Reply) → IsNamed p
    → map (λ e. e.1) (filter (λ e. is_under p e.0) (entries_of rs)) ≡ answers_of (replies_to p rs)
answers_under p [] n = refl
answers_under p (r ∷ rs) n =
    let own = pairs r.echo.provider (answers_in r.outcome) in
    let split : filter (λ e. is_under p e.0) (own ++ entries_of rs)
    ≡ cond (is_same p (settled.provider_of r)) own [] ++ filter (λ e. is_under p e.0) (entries_of rs) =
    filter-append (λ (e : List ℕ × Answer). is_under p e.0) own (entries_of rs)
    ∙ ap (λ es. es ++ filter (λ (e : List ℕ × Answer). is_under p e.0) (entries_of rs))
    (pairs_kept (is_under p) r.echo.provider (answers_in r.outcome) ∙ ap (λ b. cond b own []) (under_one p r n)) in
    ap (map (λ e. e.1)) split ∙ elim (cases_Bool (is_same p (settled.provider_of r))) [
      | inl here ↦ rw here (
          map-append (λ (e : List ℕ × Answer). e.1) own (filter (λ e. is_under p e.0) (entries_of rs))
          ∙ (λ j. pair_answers r.echo.provider (answers_in r.outcome) j ++ answers_under p rs n j))
      | inr other ↦ rw other (answers_under p rs n)
    ]

-- ---- each line's provider has a tally

seen_more : (x y : List ℕ) (ys : List (List ℕ)) → seen is_same x ys ≡ true → seen is_same x (y ∷ ys) ≡ true
seen_more x y ys e = elim (cases_Bool (is_same x y)) [ inl here ↦ rw here refl | inr other ↦ rw other e ]

abbrev IsSeenIn : List (List ℕ) → List ℕ × Answer → Type 0
IsSeenIn ps e = seen is_same (named e.0) ps ≡ true

all_seen : (rs : List Reply) → All (IsSeenIn (map settled.provider_of rs)) (entries_of rs)
all_seen [] = All-nil (IsSeenIn [])
all_seen (r ∷ rs) =
    let ps = map settled.provider_of (r ∷ rs) in
    let first : seen is_same (settled.provider_of r) ps ≡ true = rw (laws.refl (settled.provider_of r)) refl in
    All-append (IsSeenIn ps) (pairs r.echo.provider (answers_in r.outcome)) (entries_of rs)
    (All-map (IsSeenIn ps) (λ a. (r.echo.provider, a)) (answers_in r.outcome) (λ k d h. first))
    (All-weaker (IsSeenIn (map settled.provider_of rs)) (IsSeenIn ps)
    (λ e there. seen_more (named e.0) (settled.provider_of r) (map settled.provider_of rs) there) (entries_of rs) (all_seen rs))

-- ---- the sections of a settlement's providers that pass a test

module _ (test : List ℕ → Bool) (lines : List Line) (rs : List Reply) (are : AreLinesOf lines rs) where
  -- a field of a provider that passes
  abbrev passes : List ℕ → Bool
  passes f = test (named f)

  abbrev pub kept : List Line
  kept = filter (λ l. passes l.provider) lines

  abbrev pub tallies : List (List ℕ × Tally)
  tallies = filter (λ e. passes e.0) (tallies_of rs)

  abbrev pub sections : List Part
  sections = map (with_lines (grouped kept)) tallies

  all_keys : List (List ℕ)
  all_keys = map field_text (settled.providers rs)

  abbrev keys : List (List ℕ)
  keys = filter passes (map field_text (settled.providers rs))

  distinct_providers : Distinct is_same (settled.providers rs)
  distinct_providers = subst (Distinct is_same) (sym (settled_firsts rs))
      (Distinct-firsts is_same laws (map settled.provider_of rs))

  pub distinct : Distinct is_same keys
  distinct = distinct_passing passes (map field_text (settled.providers rs))
      (distinct_keys (settled.providers rs) (providers_named rs) distinct_providers)

  -- each line that is kept is of a key
  seen_line : (l : Line) → seen is_same (named l.provider) (map settled.provider_of rs) ≡ true → passes l.provider ≡ true
      → among keys l ≡ true
  seen_line l there pass =
      seen_passing passes (provider_of l) (map field_text (settled.providers rs)) (ap test (named_again l.provider) ∙ pass)
      ∙ seen_keys l.provider (settled.providers rs) (providers_named rs)
      ∙ ap (seen is_same (named l.provider)) (settled_firsts rs)
      ∙ seen_firsts (named l.provider) (map settled.provider_of rs) ∙ there

  seen_lines : All (λ l. seen is_same (named l.provider) (map settled.provider_of rs) ≡ true) lines
  seen_lines = all_entries (IsSeenIn (map settled.provider_of rs)) lines
      (subst (All (IsSeenIn (map settled.provider_of rs))) (sym are) (all_seen rs))

  covered : All (λ l. among keys l ≡ true) kept
  covered =
      let there = All-filter (λ l. passes l.provider)
      (λ l. seen is_same (named l.provider) (map settled.provider_of rs) ≡ true) lines seen_lines in
      let pass = filter_passes (λ l. passes l.provider) lines in
      λ k d h. seen_line (get_or kept k d) (there k d h) (pass k d h)

  -- the lines of a key that passes
  key_kept : (k : List ℕ) → passes k ≡ true → filter (is_at k) kept ≡ filter (is_at k) lines
  key_kept k pass = filter_twice (is_at k) (λ l. passes l.provider) lines
      ∙ filter_agree _ (is_at k) (λ l. elim (cases_Bool (is_at k l)) [
        | inl here ↦
            let same : passes l.provider ≡ true =
            ap test (sym (ap named (same_text k (provider_of l) here) ∙ named_again l.provider)) ∙ pass in
            rw (same, here) refl
        | inr other ↦ rw other (and_false (passes l.provider))
      ]) lines

  -- the answers under a key are those that its tally counts
  key_answers : (p : List ℕ) → IsNamed p → map answer_of (filter (is_at (field_text p)) lines) ≡ answers_of (replies_to p rs)
  key_answers p n = sym (entry_answers (filter (is_at (field_text p)) lines))
      ∙ ap (map (λ e. e.1)) (entries_kept (is_under p) lines ∙ ap (filter (λ e. is_under p e.0)) are)
      ∙ answers_under p rs n

  abbrev IsTallied : List ℕ × Tally → Type 0
  IsTallied e = e.1 ≡ tally (map answer_of (filter (is_at e.0) lines))

  all_tallied : (ps : List (List ℕ)) → All IsNamed ps → All IsTallied (map (tally_for rs) ps)
  all_tallied ps all = All-map IsTallied (tally_for rs) ps (All-weaker IsNamed (λ p. IsTallied (tally_for rs p))
      (λ p n. ap tally (sym (key_answers p n))) ps all)

  abbrev IsOwn : Part → Type 0
  IsOwn s = s.1.0 ≡ tally (map answer_of s.1.1)

  pub own : All IsOwn sections
  own =
      let there = All-filter (λ e. passes e.0) IsTallied (tallies_of rs)
      (all_tallied (settled.providers rs) (providers_named rs)) in
      let pass = filter_passes (λ e. passes e.0) (tallies_of rs) in
      All-map IsOwn (with_lines (grouped kept)) tallies (λ k d h.
      there k d h ∙ ap (λ ls. tally (map answer_of ls)) (sym (lines_at_key _ kept ∙ key_kept _ (pass k d h))))

  -- the keys of the sections
  keys_kept : (ps : List (List ℕ)) → map (λ e. e.0) (filter (λ e. passes e.0) (map (tally_for rs) ps))
      ≡ filter passes (map field_text ps)
  keys_kept [] = refl
  keys_kept (p ∷ ps) = elim (cases_Bool (passes (field_text p))) [
    | inl pass ↦ rw pass (ap (λ ks. field_text p ∷ ks) (keys_kept ps))
    | inr fail ↦ rw fail (keys_kept ps)
  ]

  parts_of_keys : (es : List (List ℕ × Tally)) → flat_map (λ s. s.1.1) (map (with_lines (grouped kept)) es)
      ≡ flat_map (λ k. filter (is_at k) kept) (map (λ e. e.0) es)
  parts_of_keys [] = refl
  parts_of_keys (e ∷ es) = λ j. lines_at_key e.0 kept j ++ parts_of_keys es j

  pub each_once : IsPermutation kept (flat_map (λ s. s.1.1) sections)
  each_once =
      let parts = parted keys kept distinct in
      let whole = subst (λ ls. IsPermutation ls (flat_map (λ k. filter (is_at k) kept) keys))
      (filter_all (among keys) kept covered) parts in
      subst (IsPermutation kept) (sym (parts_of_keys tallies
      ∙ ap (flat_map (λ k. filter (is_at k) kept)) (keys_kept (settled.providers rs)))) whole

  -- the sections' keys are different, and each is the field of a provider that passes
  same_keys : (es : List (List ℕ × Tally))
      → map (λ (s : Part). s.0) (map (with_lines (grouped kept)) es) ≡ map (λ e. e.0) es
  same_keys [] = refl
  same_keys (e ∷ es) = ap (λ ks. e.0 ∷ ks) (same_keys es)

  pub section_keys_distinct : Distinct is_same (map (λ (s : Part). s.0) sections)
  section_keys_distinct =
      subst (Distinct is_same) (sym (same_keys tallies ∙ keys_kept (settled.providers rs))) distinct

  pub section_fields : All (λ (s : Part). field_text (named s.0) ≡ s.0) sections
  section_fields =
      let IsField : List ℕ × Tally → Type 0 = λ e. field_text (named e.0) ≡ e.0 in
      let all = All-map IsField (tally_for rs) (settled.providers rs) (All-weaker IsNamed (λ p. IsField (tally_for rs p))
      (λ p n. ap field_text n) (settled.providers rs) (providers_named rs)) in
      All-map (λ (s : Part). field_text (named s.0) ≡ s.0) (with_lines (grouped kept)) tallies
      (All-filter (λ e. passes e.0) IsField (tallies_of rs) all)

  pub section_names : All (λ (s : Part). test (named s.0) ≡ true) sections
  section_names = All-map (λ (s : Part). test (named s.0) ≡ true) (with_lines (grouped kept)) tallies
      (filter_passes (λ (e : List ℕ × Tally). passes e.0) (tallies_of rs))

-- ---- the total of one provider

abbrev IsOwnPart : Part → Type 0
IsOwnPart s = s.1.0 ≡ tally (map answer_of s.1.1)

-- the providers of two fields that name one are the same
two_of : (id k l : List ℕ) → field_text (named k) ≡ k → field_text (named l) ≡ l → is_same id (named k) ≡ true
    → is_same id (named l) ≡ true → is_same k l ≡ true
two_of id k l field_k field_l names_k names_l =
    let same : k ≡ l = sym field_k ∙ ap field_text (sym (same_text id (named k) names_k) ∙ same_text id (named l) names_l)
    ∙ field_l in
    subst (λ m. is_same k m ≡ true) same (laws.refl k)

single : (id : List ℕ) (ls : List Line) (ss : List Part) → All IsOwnPart ss → IsPermutation ls (flat_map (λ s. s.1.1) ss)
    → Distinct is_same (map (λ s. s.0) ss) → All (λ s. field_text (named s.0) ≡ s.0) ss
    → All (λ s. is_same id (named s.0) ≡ true) ss → first_tally ss ≡ tally (map answer_of ls)
single id ls [] own moved d fields names = tally_moved ls [] moved
single id ls (s ∷ []) own moved d fields names =
    All-head IsOwnPart s [] own ∙ ap (λ ks. tally (map answer_of ks)) (sym (append-nil s.1.1))
    ∙ tally_moved ls (s.1.1 ++ []) moved
single id ls (s ∷ (t ∷ more)) own moved d fields names =
    let same = two_of id s.0 t.0 (All-head (λ (u : Part). field_text (named u.0) ≡ u.0) s (t ∷ more) fields)
    (All-head (λ (u : Part). field_text (named u.0) ≡ u.0) t more
    (All-tail (λ (u : Part). field_text (named u.0) ≡ u.0) s (t ∷ more) fields))
    (All-head (λ (u : Part). is_same id (named u.0) ≡ true) s (t ∷ more) names)
    (All-head (λ (u : Part). is_same id (named u.0) ≡ true) t more
    (All-tail (λ (u : Part). is_same id (named u.0) ≡ true) s (t ∷ more) names)) in
    absurd (let h = rw same at d.0 in cc)

-- ---- the groups of a family's lines

all_grouped : (ls : List Line) → All (λ l. seen is_same (provider_of l) (map provider_of ls) ≡ true) ls
all_grouped [] = All-nil (λ l. seen is_same (provider_of l) [] ≡ true)
all_grouped (l ∷ ls) =
    let ps = map provider_of (l ∷ ls) in
    All-cons (λ k. seen is_same (provider_of k) ps ≡ true) l ls (rw (laws.refl (provider_of l)) refl)
    (All-weaker (λ k. seen is_same (provider_of k) (map provider_of ls) ≡ true) (λ k. seen is_same (provider_of k) ps ≡ true)
    (λ k there. seen_more (provider_of k) (provider_of l) (map provider_of ls) there) ls (all_grouped ls))

group_parts : (ls : List Line) (ps : List (List ℕ))
    → flat_map (λ s. s.1.1) (map with_tally (map (group ls) ps)) ≡ flat_map (λ k. filter (is_at k) ls) ps
group_parts ls [] = refl
group_parts ls (p ∷ ps) = ap (λ ks. filter (is_at p) ls ++ ks) (group_parts ls ps)

grouped_once : (ls : List Line) → IsPermutation ls (flat_map (λ s. s.1.1) (map with_tally (grouped ls)))
grouped_once ls =
    let different = subst (Distinct is_same) (sym (providers_are ls)) (Distinct-firsts is_same laws (map provider_of ls)) in
    let covered = All-weaker (λ l. seen is_same (provider_of l) (map provider_of ls) ≡ true)
    (λ l. among (providers ls) l ≡ true) (λ l there. ap (seen is_same (provider_of l)) (providers_are ls)
    ∙ seen_firsts (provider_of l) (map provider_of ls) ∙ there) ls (all_grouped ls) in
    let parts = parted (providers ls) ls different in
    subst (IsPermutation ls) (sym (group_parts ls (providers ls)))
    (subst (λ ks. IsPermutation ks (flat_map (λ k. filter (is_at k) ls) (providers ls)))
    (filter_all (among (providers ls)) ls covered) parts)

grouped_own : (gs : List (List ℕ × List Line)) → All IsOwnPart (map with_tally gs)
grouped_own gs = All-map IsOwnPart with_tally gs (λ k d h. refl)

-- ---- accounts

pub accounts_add_up : AccountsAddUp
accounts_add_up portion.Whole t rs lines ss total settled_so are account =
    let test : List ℕ → Bool = λ p. true in
    let kept_all : filter (is_in portion.Whole) lines ≡ lines = filter_all (is_in portion.Whole) lines (λ k d h. refl) in
    let all : filter (λ (e : List ℕ × Tally). true) (tallies_of rs) ≡ tallies_of rs =
    filter_all (λ e. true) (tallies_of rs) (λ k d h. refl) in
    let same : sections test lines rs are ≡ ss =
    ap (map (with_lines (grouped (filter (is_in portion.Whole) lines)))) (all ∙ sym settled_so.providers_are)
    ∙ sym account.0 in
    record {
      own = subst (All IsOwnPart) same (own test lines rs are);
      each_once = subst (λ us. IsPermutation (filter (is_in portion.Whole) lines) (flat_map (λ (s : Part). s.1.1) us)) same
          (each_once test lines rs are);
      total_is = account.1 ∙ settled_so.total_is ∙ ap tally (sym (all_answers rs) ∙ ap (map (λ e. e.1)) (sym are)
          ∙ entry_answers lines ∙ ap (map answer_of) (sym kept_all));
    }
accounts_add_up (portion.Provider id) t rs lines ss total settled_so are account =
    let test : List ℕ → Bool = is_same id.now in
    let same : sections test lines rs are ≡ ss =
    ap (λ es. map (with_lines (grouped (filter (is_in (portion.Provider id)) lines))) (filter (is_of id.now) es))
    (sym settled_so.providers_are) ∙ sym account.0 in
    let own_so = own test lines rs are in
    let once_so = each_once test lines rs are in
    let total_so = single id.now (kept test lines rs are) (sections test lines rs are) own_so once_so
    (section_keys_distinct test lines rs are) (section_fields test lines rs are) (section_names test lines rs are) in
    record {
      own = subst (All IsOwnPart) same own_so;
      each_once = subst (λ us. IsPermutation (filter (is_in (portion.Provider id)) lines) (flat_map (λ (s : Part). s.1.1) us))
          same once_so;
      total_is = account.1 ∙ ap first_tally (sym same) ∙ total_so;
    }
accounts_add_up (portion.Family id) t rs lines ss total settled_so are account =
    let ls = filter (is_in (portion.Family id)) lines in
    record {
      own = subst (All IsOwnPart) (sym account.0) (grouped_own (grouped ls));
      each_once = subst (λ us. IsPermutation ls (flat_map (λ (s : Part). s.1.1) us)) (sym account.0) (grouped_once ls);
      total_is = account.1;
    }
