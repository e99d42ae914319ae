-- What a run over fields, or over segments, leaves in the slots.
use Rattle.std.proofs.Common.{◌≡◌, ℕ, Bool, true, false, ◌&&◌, cond, List, [], ◌∷◌, ◌++◌}
use Rattle.std.proofs.Common.{length, map, Option, Some, None, refl, sym, ap, ◌∙◌}
use Rattle.std.specs.Prelude.{filter}
use Rattle.std.specs.List.{list_all}
use Rattle.std.specs.Option.{option_to_list}
use Rattle.rx_text.specs.declared.separators.TheConstants.{FIELD, SEGMENT}
use Rattle.rx_text.specs.Bytes.{cut}
use Rattle.rx_d0_request.specs.Cut.{same, is_nonempty, Field, field_of, fields, is_segment, is_part, segments, begins_empty, further}
use Rattle.rx_text.specs.Options.{◌>>=◌}
use Rattle.rx_d0_request.specs.Known.{only, values, has_name, is_called, field, segment}
use Rattle.rx_d0_request.specs.Slots.{all_of, filled_slot, each_slot, put, name_of, put_field, put_named, put_segment}
use Rattle.std.proofs.lemmas.List.{length-map}
use Rattle.std.specs.Borrow.{Bor}
use Rattle.rx_d0_request.specs.Slots.{text_of, texts_of}
use Rattle.rx_d0_request.proofs.Fields.{nonempty_cons}

abbrev Slot : Type 0
Slot = Option (List ℕ)

abbrev Keys : Type 0
Keys = List (List ℕ)

-- what is in a slot, and what is found besides
abbrev pub join : Slot → List (List ℕ) → Option Slot
join slot found = only (option_to_list slot ++ found)

-- a text comes into a slot, or passes by
join_one : (is_key : Bool) (slot : Slot) (text : List ℕ) (found : List (List ℕ))
    → (filled_slot is_key slot text >>= λ s. join s found) ≡ join slot (cond is_key (text ∷ found) found)
join_one true None text found = refl
join_one true (Some u) text found = refl
join_one false slot text found = refl

join_nothing : (slot : Slot) → join slot [] ≡ Some slot
join_nothing None = refl
join_nothing (Some u) = refl

-- ---- each slot

same_slots : (f g : List ℕ → Slot → Option Slot) → ((k : List ℕ) (s : Slot) → f k s ≡ g k s) → (keys : Keys) (slots : List Slot)
    → each_slot f keys slots ≡ each_slot g keys slots
same_slots f g e keys [] = refl
same_slots f g e [] (s ∷ slots) = refl
same_slots f g e (k ∷ keys) (s ∷ slots) = rw (e k s, same_slots f g e keys slots) refl

unchanged : (f : List ℕ → Slot → Option Slot) → ((k : List ℕ) (s : Slot) → f k s ≡ Some s) → (keys : Keys) (slots : List Slot)
    → each_slot f keys slots ≡ Some slots
unchanged f e keys [] = refl
unchanged f e [] (s ∷ slots) = refl
unchanged f e (k ∷ keys) (s ∷ slots) = rw (e k s, unchanged f e keys slots) refl

two_steps : (y : Slot) (z : Option Slot) (front : Option (List Slot)) (rest : List Slot → Option (List Slot))
    → (front >>= λ ys. z >>= λ w. rest ys >>= λ zs. Some (w ∷ zs)) ≡ (z >>= λ w. (front >>= rest) >>= λ zs. Some (w ∷ zs))
two_steps y None None rest = refl
two_steps y None (Some ys) rest = refl
two_steps y (Some w) None rest = refl
two_steps y (Some w) (Some ys) rest = refl

into : (y : Slot) (front : Option (List Slot)) (h : List Slot → Option (List Slot))
    → ((front >>= λ ys. Some (y ∷ ys)) >>= h) ≡ (front >>= λ ys. h (y ∷ ys))
into y None h = refl
into y (Some ys) h = refl

twice_one : (f g : List ℕ → Slot → Option Slot) (k : List ℕ) (keys : Keys) (o : Option Slot) (front : Option (List Slot))
    → ((o >>= λ y. front >>= λ ys. Some (y ∷ ys)) >>= each_slot g (k ∷ keys))
    ≡ ((o >>= g k) >>= λ w. (front >>= each_slot g keys) >>= λ zs. Some (w ∷ zs))
twice_one f g k keys None front = refl
twice_one f g k keys (Some y) front = into y front (each_slot g (k ∷ keys)) ∙ two_steps y (g k y) front (each_slot g keys)

-- two steps in every slot
pub twice : (f g : List ℕ → Slot → Option Slot) (keys : Keys) (slots : List Slot)
    → (each_slot f keys slots >>= each_slot g keys) ≡ each_slot (λ k s. f k s >>= g k) keys slots
twice f g keys [] = refl
twice f g [] (s ∷ slots) = refl
twice f g (k ∷ keys) (s ∷ slots) =
    twice_one f g k keys (f k s) (each_slot f keys slots) ∙ ap (λ (front : Option (List Slot)). (f k s >>= g k) >>= λ w. front >>=
    λ zs. Some (w ∷ zs)) (twice f g keys slots)

from_empty : (found : List ℕ → List (List ℕ)) (keys : Keys) → each_slot (λ k s. join s (found k)) keys (map (λ _. None) keys)
    ≡ all_of (λ k. only (found k)) keys
from_empty found [] = refl
from_empty found (k ∷ keys) = rw (from_empty found keys) refl

-- the same thing, whatever was read
ap_then : {A B : Type 0} (read : Option A) (f g : A → Option B) → ((x : A) → f x ≡ g x) → (read >>= f) ≡ (read >>= g)
ap_then None f g e = refl
ap_then (Some x) f g e = e x

same_all : (f g : List ℕ → Option Slot) → ((k : List ℕ) → f k ≡ g k) → (keys : Keys) → all_of f keys ≡ all_of g keys
same_all f g e [] = refl
same_all f g e (k ∷ keys) = rw (e k, same_all f g e keys) refl

-- ---- fields

abbrev pub run_fields : Keys → List Slot → List Field → Option (List Slot)
run_fields keys slots [] = Some slots
run_fields keys slots (f ∷ fs) = put_field keys f slots >>= λ ys. run_fields keys ys fs

values_cons : (k : List ℕ) (f : Field) (fs : List Field) (is_key has_value : Bool) → same f.id k ≡ is_key → is_nonempty f.value ≡ has_value
    → values k (f ∷ fs) ≡ cond has_value (cond is_key (f.value ∷ values k fs) (values k fs)) (values k fs)
values_cons k f fs true true e h = rw (e, h) refl
values_cons k f fs true false e h = rw (e, h) refl
values_cons k f fs false true e h = rw e refl
values_cons k f fs false false e h = rw e refl

ap_values : (k : List ℕ) (f : Field) (fs gs : List Field) → values k fs ≡ values k gs → values k (f ∷ fs) ≡ values k (f ∷ gs)
ap_values k f fs gs e =
    values_cons k f fs (same f.id k) (is_nonempty f.value) refl refl
    ∙ (ap (λ (vs : List (List ℕ)). cond (is_nonempty f.value) (cond (same f.id k) (f.value ∷ vs) vs) vs) e
    ∙ sym (values_cons k f gs (same f.id k) (is_nonempty f.value) refl refl))

abbrev pub joined_values : List Field → List ℕ → Slot → Option Slot
joined_values fs k s = join s (values k fs)

field_step : (keys : Keys) (slots : List Slot) (f : Field) (fs : List Field) (has_value : Bool) → is_nonempty f.value ≡ has_value
    → (cond has_value (put keys f.id f.value slots) (Some slots) >>= each_slot (joined_values fs) keys)
    ≡ each_slot (joined_values (f ∷ fs)) keys slots
field_step keys slots f fs true h =
    twice (λ k s. filled_slot (same f.id k) s f.value) (λ k s. join s (values k fs)) keys slots
    ∙ same_slots _ _ (λ k s. rw (values_cons k f fs (same f.id k) true refl h) (join_one (same f.id k) s f.value (values k fs))) keys slots
field_step keys slots f fs false h =
    same_slots _ _ (λ k s. rw (values_cons k f fs (same f.id k) false refl h) refl) keys slots

pub run_fields_is : (keys : Keys) (slots : List Slot) (fs : List Field) → run_fields keys slots fs ≡ each_slot (joined_values fs) keys slots
run_fields_is keys slots [] = sym (unchanged _ (λ k s. join_nothing s) keys slots)
run_fields_is keys slots (f ∷ fs) =
    ap_then (put_field keys f slots) _ _ (λ ys. run_fields_is keys ys fs) ∙ field_step keys slots f fs (is_nonempty f.value) refl

-- from empty slots, each key has its one value
pub run_fields_empty : (keys : Keys) (fs : List Field) → run_fields keys (map (λ _. None) keys) fs ≡ all_of (λ k. only (values k fs)) keys
run_fields_empty keys fs = run_fields_is keys (map (λ _. None) keys) fs ∙ from_empty (λ k. values k fs) keys

-- pieces that are skipped have no value
pub values_filled : (k : List ℕ) (pieces : List (List ℕ)) → values k (map field_of (filter is_nonempty pieces))
    ≡ values k (map field_of pieces)
values_filled k [] = refl
values_filled k ([] ∷ pieces) =
    values_filled k pieces ∙ sym (values_cons k (field_of []) (map field_of pieces) (same [] k) false refl refl)
values_filled k ((b ∷ bs) ∷ pieces) = rw (nonempty_cons b bs) (ap_values k (field_of (b ∷ bs)) (map field_of (filter is_nonempty pieces))
    (map field_of pieces) (values_filled k pieces))

-- ---- segments

abbrev pub run_segments : Keys → List Slot → List (List ℕ) → Option (List Slot)
run_segments names slots [] = Some slots
run_segments names slots (text ∷ texts) = put_segment names text slots >>= λ ys. run_segments names ys texts

abbrev pub named_segments : List (List ℕ) → List ℕ → Slot → Option Slot
named_segments texts k s = join s (filter (has_name k) texts)

filter_cons : (k : List ℕ) (text : List ℕ) (texts : List (List ℕ)) (is_named : Bool) → has_name k text ≡ is_named
    → filter (has_name k) (text ∷ texts) ≡ cond is_named (text ∷ filter (has_name k) texts) (filter (has_name k) texts)
filter_cons k text texts true e = rw e refl
filter_cons k text texts false e = rw e refl

segment_step : (names : Keys) (slots : List Slot) (text : List ℕ) (texts : List (List ℕ)) (fs : List Field) → fields text ≡ fs
    → (put_named names (name_of fs) text slots >>= each_slot (named_segments texts) names)
    ≡ each_slot (named_segments (text ∷ texts)) names slots
segment_step names slots text texts [] e =
    same_slots _ _ (λ k s. rw (filter_cons k text texts false (ap (is_called k) e)) refl) names slots
segment_step names slots text texts (f ∷ fs) e =
    twice (λ k s. filled_slot (same f.value k) s text) (λ k s. join s (filter (has_name k) texts)) names slots
    ∙ same_slots _ _ (λ k s. rw (filter_cons k text texts (same f.value k) (ap (is_called k) e))
    (join_one (same f.value k) s text (filter (has_name k) texts))) names slots

abbrev no_slots : Option (List Slot)
no_slots = None

none_then : (read : Option (List Slot)) → (read >>= λ x. no_slots) ≡ no_slots
none_then None = refl
none_then (Some x) = refl

run_segments_cons : (names : Keys) (slots : List Slot) (text : List ℕ) (texts : List (List ℕ)) (is_cut are_cut : Bool)
    → (cond is_cut (put_named names (name_of (fields text)) text slots) None >>= λ ys. cond are_cut
    (each_slot (named_segments texts) names ys) None)
    ≡ cond (is_cut && are_cut) (each_slot (named_segments (text ∷ texts)) names slots) None
run_segments_cons names slots text texts false are_cut = refl
run_segments_cons names slots text texts true false = none_then (put_named names (name_of (fields text)) text slots)
run_segments_cons names slots text texts true true = segment_step names slots text texts (fields text) refl

pub run_segments_is : (names : Keys) (slots : List Slot) (texts : List (List ℕ))
    → run_segments names slots texts ≡ cond (list_all is_segment texts) (each_slot (named_segments texts) names slots) None
run_segments_is names slots [] = sym (unchanged _ (λ k s. join_nothing s) names slots)
run_segments_is names slots (text ∷ texts) =
    ap_then (put_segment names text slots) _ _ (λ ys. run_segments_is names ys texts)
    ∙ run_segments_cons names slots text texts (is_segment text) (list_all is_segment texts)

-- from empty slots, each name has its one segment
pub run_segments_empty : (names : Keys) (texts : List (List ℕ))
    → run_segments names (map (λ _. None) names) texts ≡ cond (list_all is_segment texts)
    (all_of (λ k. only (filter (has_name k) texts)) names) None
run_segments_empty names texts = run_segments_is names (map (λ _. None) names) texts
    ∙ ap (λ (o : Option (List Slot)). cond (list_all is_segment texts) o None) (from_empty (λ k. filter (has_name k) texts) names)

-- ---- a run over the fields of a segment, and over the segments of a part

pub run_on : (keys : Keys) (before after : List Slot) (pieces left : List (List ℕ)) (piece : List ℕ) (total : Option (List Slot))
    → pieces ≡ piece ∷ left → put_field keys (field_of piece) before ≡ Some after
    → run_fields keys before (map field_of pieces) ≡ total → run_fields keys after (map field_of left) ≡ total
run_on keys before after pieces left piece total e put so_far =
    let one : run_fields keys before (map field_of pieces) ≡ run_fields keys after (map field_of left) = rw (e, put) refl in
    sym one ∙ so_far

pub run_off : (keys : Keys) (before : List Slot) (pieces left : List (List ℕ)) (piece : List ℕ) (total : Option (List Slot))
    → pieces ≡ piece ∷ left → put_field keys (field_of piece) before ≡ None
    → run_fields keys before (map field_of pieces) ≡ total → total ≡ None
run_off keys before pieces left piece total e put so_far =
    let one : run_fields keys before (map field_of pieces) ≡ None = rw (e, put) refl in
    sym so_far ∙ one

-- the slots have the values of the segment's fields
pub fields_total : (ids : Keys) (slots : List Slot) (segment : List ℕ) → slots ≡ map (λ _. None) ids
    → run_fields ids slots (map field_of (further (cut FIELD segment))) ≡ all_of (λ id. field id (Some segment)) ids
unfolding field fields
fields_total ids slots segment e =
    let pieces = further (cut FIELD segment) in
    ap (λ (from : List Slot). run_fields ids from (map field_of pieces)) e
    ∙ (run_fields_empty ids (map field_of pieces) ∙ same_all (λ id. only (values id (map field_of pieces))) (λ id. field id (Some segment))
    (λ id. ap only (sym (values_filled id pieces))) ids)

pub absent_values : (ids : Keys) → all_of (λ id. field id None) ids ≡ Some (map (λ _. None) ids)
unfolding field
absent_values [] = refl
absent_values (id ∷ ids) = rw (absent_values ids) refl

pub empty_length : (keys : Keys) (slots : List (Option (Bor (List ℕ)))) → texts_of slots ≡ map (λ _. None) keys → length slots ≡ length keys
empty_length keys slots e = sym (length-map slots text_of) ∙ (ap length e ∙ length-map keys (λ _. None))

-- ---- the slots of a part

pub segments_on : (names : Keys) (before after : List Slot) (texts left : List (List ℕ)) (text : List ℕ) (total : Option (List Slot))
    → texts ≡ text ∷ left → put_segment names text before ≡ Some after
    → run_segments names before texts ≡ total → run_segments names after left ≡ total
segments_on names before after texts left text total e put so_far =
    let one : run_segments names before texts ≡ run_segments names after left = rw (e, put) refl in
    sym one ∙ so_far

pub segments_off : (names : Keys) (before : List Slot) (texts left : List (List ℕ)) (text : List ℕ) (total : Option (List Slot))
    → texts ≡ text ∷ left → put_segment names text before ≡ None
    → run_segments names before texts ≡ total → total ≡ None
segments_off names before texts left text total e put so_far =
    let one : run_segments names before texts ≡ None = rw (e, put) refl in
    sym so_far ∙ one

both : {A : Type 0} (a b : Bool) (o : Option A) → cond a (cond b o None) None ≡ cond (a && b) o None
both true b o = refl
both false b o = refl

-- the slots have the part's segments, where it begins empty
pub segments_total : (names : Keys) (slots : List Slot) (part : List ℕ) → slots ≡ map (λ _. None) names
    → cond (begins_empty (cut SEGMENT part)) (run_segments names slots (further (cut SEGMENT part))) None
    ≡ cond (is_part part) (all_of (λ name. segment name part) names) None
unfolding is_part segment segments
segments_total names slots part e =
    let texts = further (cut SEGMENT part) in
    let all : run_segments names slots texts ≡ cond (list_all is_segment texts)
    (all_of (λ k. only (filter (has_name k) texts)) names) None =
    ap (λ (from : List Slot). run_segments names from texts) e ∙ run_segments_empty names texts in
    rw all (both (begins_empty (cut SEGMENT part)) (list_all is_segment texts) (all_of (λ k. only (filter (has_name k) texts)) names))
