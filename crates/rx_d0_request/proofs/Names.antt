-- The name of a segment, read off its pieces.
use Rattle.std.proofs.Common.{◌≡◌, ℕ, Bool, true, false, ◌&&◌, cond, List, ◌∷◌, map, Option, Some, None, refl, sym, ap, ◌∙◌}
use Rattle.std.specs.Prelude.{filter}
use Rattle.std.specs.List.{list_all}
use Rattle.rx_text.specs.declared.separators.TheConstants.{FIELD}
use Rattle.rx_text.specs.Bytes.{cut}
use Rattle.rx_d0_request.specs.Cut.{is_nonempty, has_id, is_name, is_named, field_of, fields, filled, is_segment, begins_empty, further}
use Rattle.rx_d0_request.specs.Slots.{name_of, put_named}

-- what pieces that follow the empty one say
abbrev pub named_by : List (List ℕ) → Option (Option (List ℕ))
named_by pieces =
    cond (list_all has_id (filter is_nonempty pieces) && is_named (map field_of (filter is_nonempty pieces)))
    (Some (name_of (map field_of (filter is_nonempty pieces)))) None

both : {A : Type 0} (a b c : Bool) (o : Option A) → cond a (cond (b && c) o None) None ≡ cond (a && b && c) o None
both true b c o = refl
both false b c o = refl

pub named_total : (segment : List ℕ) → cond (begins_empty (cut FIELD segment)) (named_by (further (cut FIELD segment))) None
    ≡ cond (is_segment segment) (Some (name_of (fields segment))) None
unfolding is_segment fields
named_total segment = both (begins_empty (cut FIELD segment)) (list_all has_id (filled segment)) (is_named (map field_of (filled segment)))
    (Some (name_of (map field_of (filled segment))))

-- an empty piece is skipped
pub named_on : (pieces left : List (List ℕ)) (piece : List ℕ) (total : Option (Option (List ℕ))) → pieces ≡ piece ∷ left
    → is_nonempty piece ≡ false → named_by pieces ≡ total → named_by left ≡ total
named_on pieces left piece total e empty so_far =
    let one : named_by pieces ≡ named_by left = rw (e, empty) refl in
    sym one ∙ so_far

abbrev pub name_known : Option (List ℕ) → Option (Option (List ℕ))
name_known None = None
name_known (Some name) = Some (Some name)

three : (id all named : Bool) (value : List ℕ) → cond (id && all && named) (Some (Some value)) None
    ≡ cond all (name_known (cond (id && named) (Some value) None)) None
three true true true value = refl
three true true false value = refl
three true false named value = refl
three false true named value = refl
three false false named value = refl

-- the first piece that isn't empty gives the name
pub named_first : (left : List (List ℕ)) (piece : List ℕ) (name : Option (List ℕ)) (are_fields : Bool) → is_nonempty piece ≡ true
    → name ≡ cond (has_id piece && is_name (field_of piece)) (Some (field_of piece).value) None
    → are_fields ≡ list_all has_id (filter is_nonempty left)
    → named_by (piece ∷ left) ≡ cond are_fields (name_known name) None
named_first left piece name are_fields full name_is all = rw (full, name_is, all)
    (three (has_id piece) (list_all has_id (filter is_nonempty left)) (is_name (field_of piece)) (field_of piece).value)

-- what a segment's name does to the slots
pub put_unnamed : (is_cut : Bool) (name : Option (List ℕ)) (names : List (List ℕ)) (text : List ℕ) (slots : List (Option (List ℕ)))
    → None ≡ cond is_cut (Some name) None
    → cond is_cut (put_named names name text slots) None ≡ None
put_unnamed true name names text slots e = absurd cc
put_unnamed false name names text slots e = refl

pub put_by_name : (is_cut : Bool) (name given : Option (List ℕ)) (names : List (List ℕ)) (text : List ℕ) (slots : List (Option (List ℕ)))
    → Some given ≡ cond is_cut (Some name) None
    → cond is_cut (put_named names name text slots) None ≡ put_named names given text slots
put_by_name true name given names text slots e = let same_name : name ≡ given = cc in ap (λ n. put_named names n text slots) same_name
put_by_name false name given names text slots e = absurd cc

-- ---- a segment that was opened, or that has bytes in front

pub closed : {A : Type 0} (begins : Bool) (rest : List (List ℕ)) (o : Option A) → None ≡ cond begins (Some rest) None
    → None ≡ cond begins o None
closed true rest o e = absurd cc
closed false rest o e = refl

pub opened : {A : Type 0} (begins : Bool) (rest pieces : List (List ℕ)) (o : Option A) → Some pieces ≡ cond begins (Some rest) None
    → o ≡ cond begins o None
opened true rest pieces o e = refl
opened false rest pieces o e = absurd cc

pub opened_rest : (begins : Bool) (rest pieces : List (List ℕ)) → Some pieces ≡ cond begins (Some rest) None → pieces ≡ rest
opened_rest true rest pieces e = cc
opened_rest false rest pieces e = absurd cc

none_either : (b : Bool) (name : Option (List ℕ)) → name ≡ None → cond b (name_known name) None ≡ None
none_either true name e = rw e refl
none_either false name e = refl

-- the first piece that isn't empty gives no name
pub named_nothing : (left pieces : List (List ℕ)) (piece : List ℕ) (total : Option (Option (List ℕ))) → pieces ≡ piece ∷ left
    → is_nonempty piece ≡ true
    → None ≡ cond (has_id piece && is_name (field_of piece)) (Some (field_of piece).value) None
    → named_by pieces ≡ total → None ≡ total
named_nothing left pieces piece total e full name_is so_far =
    let first = named_first left piece None (list_all has_id (filter is_nonempty left)) full name_is refl in
    sym (none_either (list_all has_id (filter is_nonempty left)) None refl) ∙ (sym first ∙ (ap named_by (sym e) ∙ so_far))

-- the first piece that isn't empty gives this name
pub named_name : (left pieces : List (List ℕ)) (piece name : List ℕ) (are_fields : Bool) (total : Option (Option (List ℕ)))
    → pieces ≡ piece ∷ left → is_nonempty piece ≡ true
    → Some name ≡ cond (has_id piece && is_name (field_of piece)) (Some (field_of piece).value) None
    → are_fields ≡ list_all has_id (filter is_nonempty left)
    → named_by pieces ≡ total → cond are_fields (Some (Some name)) None ≡ total
named_name left pieces piece name are_fields total e full name_is all so_far =
    let first = named_first left piece (Some name) are_fields full name_is all in
    sym first ∙ (ap named_by (sym e) ∙ so_far)
