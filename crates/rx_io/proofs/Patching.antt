-- How a patched text grows, and how it is written.
use Rattle.std.proofs.Common.{◌≡◌, ◌≤◌, ◌<◌, ◌+◌, ◌-◌, ℕ, List, [], ◌∷◌, ◌++◌, length, get_or, take, drop, Option, Ok, Err, Result}
use Rattle.std.proofs.Common.{refl, sym, ◌∙◌, ap, ap₂, subst, append_assoc, arith}
use Rattle.std.specs.Prelude.{OnOk}
use Rattle.std.specs.List.{All, slice_range}
use Rattle.std.proofs.lemmas.Grind.{flat_map-append}
use Rattle.std.proofs.lemmas.List.{append-nil, drop-append-le, drop_all, drop_more, length-drop, take-append-drop, take-append-le, take_all, take_more, take_rest}
use Rattle.std.proofs.lemmas.List.Elements.{All-head, All-tail}
use Rattle.std.specs.Io.KnownBytes.{Appends}
use Rattle.rx_io.specs.declared.patched.Piece.{Piece}
use Rattle.rx_io.specs.declared.patched.Piece.TheVariants.{Lent, Own}
use Rattle.rx_io.specs.Patches.{IsWithin, Patch, patched_text, piece_text, pieces_text}
use Rattle.rx_io.specs.Writing.{AppendsFront, Gathers}
use Rattle.rx_io.proofs.Passing.{Appends-nothing, Appends-then, AppendsFront-on}

-- what follows where it went well
pub on_ok : {X E P Q : Type 0} (r : Result X E) → OnOk r P → (P → Q) → OnOk r Q
on_ok (Ok x) p f = f p
on_ok (Err e) p f = tt

-- ---- more own bytes

range_same : (own bytes : List ℕ) (first last : ℕ) → first ≤ last → last ≤ length own
    → slice_range (own ++ bytes) first last ≡ slice_range own first last
range_same own bytes first last order within =
    ap (take (last - first)) (drop-append-le first own bytes (omega arith))
    ∙ take-append-le (last - first) (drop first own) bytes (omega (arith, length-drop first own))

piece_same : (lender own bytes : List ℕ) (p : Piece) → IsWithin lender own p
    → piece_text lender (own ++ bytes) p ≡ piece_text lender own p
piece_same lender own bytes (Lent first last) within = refl
piece_same lender own bytes (Own first last) within = range_same own bytes first last within.0 within.1

pieces_same : (lender own bytes : List ℕ) (ps : List Piece) → All (IsWithin lender own) ps
    → pieces_text lender (own ++ bytes) ps ≡ pieces_text lender own ps
pieces_same lender own bytes [] within = refl
pieces_same lender own bytes (p ∷ ps) within =
    ap₂ (λ (a b : List ℕ). a ++ b) (piece_same lender own bytes p (All-head (IsWithin lender own) p ps within))
    (pieces_same lender own bytes ps (All-tail (IsWithin lender own) p ps within))

-- own bytes stand after the text
pub text_put : (lender own bytes : List ℕ) (ps : List Piece) (begun : ℕ) → All (IsWithin lender own) ps → begun ≤ length own
    → patched_text lender (own ++ bytes) ps begun ≡ patched_text lender own ps begun ++ bytes
text_put lender own bytes ps begun within last =
    ap₂ (λ (a b : List ℕ). a ++ b) (pieces_same lender own bytes ps within) (drop-append-le begun own bytes last)
    ∙ sym (append_assoc (pieces_text lender own ps) (drop begun own) bytes)

-- ---- a part that is lent

-- it stands after the text, where the own bytes so far are in pieces
pub text_lent : (lender own : List ℕ) (before between after : List Piece) (begun end all first last : ℕ)
    → end ≡ length own → all ≡ length own
    → pieces_text lender own between ≡ pieces_text lender own before ++ slice_range own begun end
    → after ≡ between ++ Lent first last ∷ []
    → patched_text lender own after all ≡ patched_text lender own before begun ++ slice_range lender first last
text_lent lender own before between after begun end all first last end_is all_is own_too pushed =
    let part = slice_range lender first last in
    let own_part : slice_range own begun end ≡ drop begun own =
    ap (slice_range own begun) end_is ∙ take_rest own begun in
    ap₂ (λ (a b : List ℕ). a ++ b) (ap (pieces_text lender own) pushed
    ∙ flat_map-append (piece_text lender own) between (Lent first last ∷ [])
    ∙ ap₂ (λ (a b : List ℕ). a ++ b) (own_too ∙ ap (λ (t : List ℕ). pieces_text lender own before ++ t) own_part)
    (append-nil part))
    (drop_all all own (omega (arith, all_is)))
    ∙ append-nil (patched_text lender own before begun ++ part)

-- ---- the pieces in order

-- the text of the pieces: those before one, that one, and those after it
pieces_at : (lender own : List ℕ) (ps : List Piece) (i : ℕ) (d : Piece) → i < length ps
    → pieces_text lender own ps
    ≡ pieces_text lender own (take i ps) ++ (piece_text lender own (get_or ps i d) ++ pieces_text lender own (drop (i + 1) ps))
pieces_at lender own ps i d within =
    ap (pieces_text lender own) (sym (take-append-drop i ps)) ∙ flat_map-append (piece_text lender own) (take i ps) (drop i ps)
    ∙ ap (λ l. pieces_text lender own (take i ps) ++ pieces_text lender own l) (drop_more ps i d within)

-- one more of them
pub pieces_more : (lender own : List ℕ) (ps : List Piece) (i : ℕ) (d : Piece) → i < length ps
    → pieces_text lender own (take (i + 1) ps)
    ≡ pieces_text lender own (take i ps) ++ piece_text lender own (get_or ps i d)
pieces_more lender own ps i d within =
    ap (pieces_text lender own) (take_more ps i d within)
    ∙ flat_map-append (piece_text lender own) (take i ps) (get_or ps i d ∷ [])
    ∙ ap (λ t. pieces_text lender own (take i ps) ++ t) (append-nil (piece_text lender own (get_or ps i d)))

-- all of them, and the own bytes after them
pub pieces_all : (lender own : List ℕ) (ps : List Piece) (begun i : ℕ) → length ps ≤ i
    → pieces_text lender own (take i ps) ++ slice_range own begun (length own) ≡ patched_text lender own ps begun
pieces_all lender own ps begun i all =
    ap₂ (λ (a b : List ℕ). a ++ b) (ap (pieces_text lender own) (take_all i ps all)) (take_rest own begun)

-- no byte was written yet
pub none_written : (written : Option (List ℕ)) (text : List ℕ) → AppendsFront written written text
none_written written text = record { count = 0; within = omega arith; appended = Appends-nothing written }

-- a front of a text was written, and none of what follows
pub front_before : (before after : Option (List ℕ)) (first second : List ℕ) → AppendsFront before after first
    → AppendsFront before after (first ++ second)
front_before before after first second one = AppendsFront-on before before after [] first second (Appends-nothing before) one

-- a text was written, and then a front of another
pub front_behind : (before between after : Option (List ℕ)) (first second : List ℕ) → Appends before between first
    → AppendsFront between after second → AppendsFront before after (first ++ second)
front_behind before between after first second one two =
    subst (λ (t : List ℕ). AppendsFront before after (first ++ t)) (append-nil second)
    (AppendsFront-on before between after first second [] one two)

-- ---- what is gathered

pub Gathers-nothing : (written : Option (List ℕ)) → Gathers written written [] []
Gathers-nothing written = record { front = []; appended = Appends-nothing written; whole = refl }

-- a piece was gathered
pub Gathers-more : (written : Option (List ℕ)) (gathered more text : List ℕ) → more ≡ text → Gathers written written more text
Gathers-more written gathered more text is = record { front = []; appended = Appends-nothing written; whole = is }

-- what was gathered was written, and then a piece
pub Gathers-written : (before between after : Option (List ℕ)) (gathered piece none : List ℕ) → Appends before between gathered
    → Appends between after piece → none ≡ [] → Gathers before after none (gathered ++ piece)
Gathers-written before between after gathered piece none one two is = record {
  front = gathered ++ piece;
  appended = Appends-then before between after gathered piece one two;
  whole = ap (λ (t : List ℕ). (gathered ++ piece) ++ t) is ∙ append-nil (gathered ++ piece);
}

-- a text, and then a piece
pub Gathers-on : (before between after : Option (List ℕ)) (old new text piece : List ℕ) → Gathers before between old text
    → Gathers between after new (old ++ piece) → Gathers before after new (text ++ piece)
Gathers-on before between after old new text piece one two = record {
  front = one.front ++ two.front;
  appended = Appends-then before between after one.front two.front one.appended two.appended;
  whole = append_assoc one.front two.front new ∙ ap (λ (t : List ℕ). one.front ++ t) two.whole
      ∙ sym (append_assoc one.front old piece) ∙ ap (λ (t : List ℕ). t ++ piece) one.whole;
}

-- a text, and then a front of a piece
pub Gathers-front : (before between after : Option (List ℕ)) (old text piece rest : List ℕ) → Gathers before between old text
    → AppendsFront between after (old ++ piece) → AppendsFront before after (text ++ (piece ++ rest))
Gathers-front before between after old text piece rest one two =
    let whole : one.front ++ ((old ++ piece) ++ rest) ≡ text ++ (piece ++ rest) =
    ap (λ (t : List ℕ). one.front ++ t) (append_assoc old piece rest) ∙ sym (append_assoc one.front old (piece ++ rest))
    ∙ ap (λ (t : List ℕ). t ++ (piece ++ rest)) one.whole in
    subst (AppendsFront before after) whole
    (AppendsFront-on before between after one.front (old ++ piece) rest one.appended two)

-- a text, and then what is gathered of it
pub Gathers-all : (before between after : Option (List ℕ)) (old text : List ℕ) → Gathers before between old text
    → Appends between after old → Appends before after text
Gathers-all before between after old text one two =
    subst (Appends before after) one.whole (Appends-then before between after one.front old one.appended two)

-- the text of the parts of a patched text
pub patch_is : (lender lender' own own' : List ℕ) (ps ps' : List Piece) (begun : ℕ) (value : Patch) → lender ≡ lender'
    → own ≡ own' → ps ≡ ps' → record { lender = lender'; text = patched_text lender' own' ps' begun } ≡ value
    → patched_text lender own ps begun ≡ value.text
patch_is lender lender' own own' ps ps' begun value lender_is own_is ps_are view_is =
    (λ i. patched_text (lender_is i) (own_is i) (ps_are i) begun) ∙ ap (λ (p : Patch). p.text) view_is

-- ---- the pieces, written

module _ (lender own : List ℕ) (ps : List Piece) (begun : ℕ) (before between after : Option (List ℕ)) (old bytes : List ℕ) (i : ℕ)
    (so_far : Gathers before between old (pieces_text lender own (take i ps))) where
  -- the next piece
  pub piece_gathered : (d : Piece) (new : List ℕ) → i < length ps → bytes ≡ piece_text lender own (get_or ps i d)
      → Gathers between after new (old ++ bytes) → Gathers before after new (pieces_text lender own (take (i + 1) ps))
  piece_gathered d new within is more =
      subst (Gathers before after new)
      (ap (λ (t : List ℕ). pieces_text lender own (take i ps) ++ t) is ∙ sym (pieces_more lender own ps i d within))
      (Gathers-on before between after old new (pieces_text lender own (take i ps)) bytes so_far more)

  -- a front of it
  pub piece_front : (d : Piece) (text : List ℕ) → patched_text lender own ps begun ≡ text → i < length ps
      → bytes ≡ piece_text lender own (get_or ps i d) → AppendsFront between after (old ++ bytes) → AppendsFront before after text
  piece_front d text whole within is more =
      let front = pieces_text lender own (take i ps) in
      let rest = pieces_text lender own (drop (i + 1) ps) in
      let all : front ++ (bytes ++ (rest ++ drop begun own)) ≡ text =
      ap (λ (t : List ℕ). front ++ (t ++ (rest ++ drop begun own))) is
      ∙ sym (ap (λ (t : List ℕ). t ++ drop begun own) (pieces_at lender own ps i d within)
      ∙ append_assoc front (piece_text lender own (get_or ps i d) ++ rest) (drop begun own)
      ∙ ap (λ (t : List ℕ). front ++ t) (append_assoc (piece_text lender own (get_or ps i d)) rest (drop begun own)))
      ∙ whole in
      subst (AppendsFront before after) all
      (Gathers-front before between after old front bytes (rest ++ drop begun own) so_far more)

  -- the own bytes after all pieces
  pub last_gathered : (new text : List ℕ) → patched_text lender own ps begun ≡ text → length ps ≤ i
      → bytes ≡ slice_range own begun (length own) → Gathers between after new (old ++ bytes) → Gathers before after new text
  last_gathered new text whole all is more =
      subst (Gathers before after new)
      (ap (λ (t : List ℕ). pieces_text lender own (take i ps) ++ t) is ∙ pieces_all lender own ps begun i all ∙ whole)
      (Gathers-on before between after old new (pieces_text lender own (take i ps)) bytes so_far more)

  -- a front of them
  pub last_front : (text : List ℕ) → patched_text lender own ps begun ≡ text → length ps ≤ i
      → bytes ≡ slice_range own begun (length own) → AppendsFront between after (old ++ bytes) → AppendsFront before after text
  last_front text whole all is more =
      let front = pieces_text lender own (take i ps) in
      subst (AppendsFront before after)
      (ap (λ (t : List ℕ). front ++ t) (append-nil bytes ∙ is) ∙ pieces_all lender own ps begun i all ∙ whole)
      (Gathers-front before between after old front bytes [] so_far more)

-- a front of what is gathered of a text
pub gathered_front : (before between after : Option (List ℕ)) (old text : List ℕ) → Gathers before between old text
    → AppendsFront between after old → AppendsFront before after text
gathered_front before between after old text one two =
    subst (AppendsFront before after) one.whole (front_behind before between after one.front old one.appended two)
