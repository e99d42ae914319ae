-- How pieces that were read, or written, make up the whole.
use Rattle.std.proofs.Common.{◌≡◌, ◌≤◌, ◌<◌, ◌+◌, ◌-◌, ℕ, Bool, List, [], ◌∷◌, ◌++◌, length, get_or, take, drop, Option}
use Rattle.std.proofs.Common.{Some, None, IfSome, refl, sym, ◌∙◌, ap, subst, append_assoc, arith}
use Rattle.std.specs.List.{flat_map}
use Rattle.std.specs.Vec.{vec_items}
use Rattle.std.specs.declared.vec.Vec.{Vec}
use Rattle.std.proofs.lemmas.Grind.{flat_map-append}
use Rattle.std.proofs.lemmas.List.{append-nil, drop_more, length-append, length-drop, length-take, length-take-le}
use Rattle.std.proofs.lemmas.List.{take-append-drop, take-append-le, take_all, take_more}
use Rattle.std.proofs.Math.Seq.{take-add, take-append-add}
use Rattle.std.specs.Io.KnownBytes.{Appends, Consumes, IsAtEnd}
use Rattle.rx_io.specs.Reading.{AreFewReads, IsFrontOf, IsRead, IsWhole, PassesAll, PassesFront, PassesPiece, TakesNothing}
use Rattle.rx_io.specs.Reading.{most_bytes, most_reads}
use Rattle.rx_io.specs.Writing.{AppendsFront}

-- no byte was read yet
pub Consumes-nothing : (left : Option (List ℕ)) → Consumes left left []
Consumes-nothing None = tt
Consumes-nothing (Some bytes) = refl

-- a piece, and then the next
pub Consumes-on : (left between rest : Option (List ℕ)) (xs ys : List ℕ) → Consumes left between xs
    → Consumes between rest ys → Consumes left rest (xs ++ ys)
Consumes-on None between rest xs ys p q = tt
Consumes-on (Some first) None rest xs ys p q = absurd p
Consumes-on (Some first) (Some second) None xs ys p q = absurd q
Consumes-on (Some first) (Some second) (Some third) xs ys p q = p ∙ ap (λ l. xs ++ l) q ∙ sym (append_assoc xs ys third)

-- a front of a list was read, and what follows it was read in place
pub Consumes-after : (left between rest : Option (List ℕ)) (old new : List ℕ) (at count : ℕ) → take at new ≡ take at old
    → Consumes left between (take at old) → Consumes between rest (take count (drop at new)) → Consumes left rest (take (at + count) new)
Consumes-after left between rest old new at count same p q =
    subst (Consumes left rest) (sym (take-add at count new ∙ ap (λ l. l ++ take count (drop at new)) same))
    (Consumes-on left between rest (take at old) (take count (drop at new)) p q)

-- what was read to the end is whole
pub Consumes-whole : (left rest : Option (List ℕ)) (bytes : List ℕ) → Consumes left rest bytes → IsAtEnd rest → IsWhole left rest bytes
Consumes-whole None rest bytes p end = tt
Consumes-whole (Some first) None bytes p end = absurd p
Consumes-whole (Some first) (Some second) bytes p end = (sym (p ∙ ap (λ l. bytes ++ l) end ∙ append-nil bytes), ap Some end)

-- the piece that ends the input is empty, so the text is what was read before
pub IsRead-end : (left between rest : Option (List ℕ)) (old new : List ℕ) (n count : ℕ) → take n new ≡ take n old
    → Consumes left between (take n old) → Consumes between rest (take count (drop n new)) → count ≡ 0 → IsAtEnd rest
    → n ≤ most_bytes → IsRead left rest (take n new)
IsRead-end left between rest old new n count same p q none end few =
    let all = Consumes-after left between rest old new n count same p q in
    let no_more : n + count ≡ n = omega (arith, none) in
    let whole = subst (λ k. Consumes left rest (take k new)) no_more all in
    record {
      whole = Consumes-whole left rest (take n new) whole end;
      within = (let len = length-take n new in omega arith);
    }

-- what was read was there
pub Consumes-long : (left rest : Option (List ℕ)) (bytes : List ℕ) → Consumes left rest bytes
    → most_reads ≤ length bytes → IfSome left (λ all. most_reads ≤ length all)
Consumes-long None rest bytes p long = tt
Consumes-long (Some first) None bytes p long = absurd p
Consumes-long (Some first) (Some second) bytes p long = let sum = ap length p ∙ length-append bytes second in omega arith

-- with more to come than an input may have, the input is long
pub Consumes-over : (left rest : Option (List ℕ)) (bytes : List ℕ) → Consumes left rest bytes
    → IfSome rest (λ more. most_bytes < length bytes + length more) → IfSome left (λ all. most_reads ≤ length all)
Consumes-over None rest bytes p over = tt
Consumes-over (Some first) None bytes p over = absurd p
Consumes-over (Some first) (Some second) bytes p over = let sum = ap length p ∙ length-append bytes second in omega arith

-- with more to come after the text than an input may have, the input is long
pub Consumes-long_after : (left rest : Option (List ℕ)) (text : List ℕ) (n : ℕ) → n ≤ length text
    → Consumes left rest (take n text) → IfSome rest (λ more. most_bytes < n + length more)
    → IfSome left (λ all. most_reads ≤ length all)
Consumes-long_after left rest text n within p over = Consumes-over left rest (take n text) p
    (subst (λ k. IfSome rest (λ more. most_bytes < k + length more)) (sym (length-take-le n text within)) over)

-- nothing passed yet
pub PassesPiece-nothing : (left : Option (List ℕ)) (before : List ℕ → Type 0) → PassesPiece left left before before 0
PassesPiece-nothing left before = record {
  bytes = [];
  length_is = refl;
  given = Consumes-nothing left;
  taken = λ text h. subst before (sym (append-nil text)) h;
}

-- a piece passed, and then the next
pub PassesPiece-on : (left between rest : Option (List ℕ)) (before during after : List ℕ → Type 0) (m n : ℕ)
    → PassesPiece left between before during m → PassesPiece between rest during after n → PassesPiece left rest before after (m + n)
PassesPiece-on left between rest before during after m n p q = record {
  bytes = p.bytes ++ q.bytes;
  length_is = length-append p.bytes q.bytes ∙ ap (λ k. k + length q.bytes) p.length_is ∙ ap (λ k. m + k) q.length_is;
  given = Consumes-on left between rest p.bytes q.bytes p.given q.given;
  taken = λ text h. subst after (append_assoc text p.bytes q.bytes) (q.taken (text ++ p.bytes) (p.taken text h));
}

-- at the end all passed
pub PassesPiece-all : (left rest : Option (List ℕ)) (before after : List ℕ → Type 0) (n : ℕ)
    → PassesPiece left rest before after n → n ≤ most_bytes → IsAtEnd rest → PassesAll left rest before after
PassesPiece-all left rest before after n p few end = record {
  bytes = p.bytes;
  is_read = record {
    whole = Consumes-whole left rest p.bytes p.given end;
    within = subst (λ k. k ≤ most_bytes) (sym p.length_is) few;
  };
  taken = p.taken;
}

-- what was read is a front of what was left
pub Consumes-front : (left rest : Option (List ℕ)) (bytes : List ℕ) → Consumes left rest bytes → IsFrontOf bytes left
Consumes-front None rest bytes p = tt
Consumes-front (Some first) None bytes p = absurd p
Consumes-front (Some first) (Some second) bytes p = (second, p)

-- nothing passed at all
pub PassesFront-nothing : (left : Option (List ℕ)) (before : List ℕ → Type 0) → PassesFront left before before
unfolding PassesPiece-nothing
PassesFront-nothing left before =
    let none = PassesPiece-nothing left before in
    record { bytes = []; is_front = Consumes-front left left [] none.given; taken = none.taken }

-- pieces passed, and then no further one
pub PassesPiece-front : (left rest : Option (List ℕ)) (before during after : List ℕ → Type 0) (n : ℕ)
    → PassesPiece left rest before during n → TakesNothing during after → PassesFront left before after
PassesPiece-front left rest before during after n p none = record {
  bytes = p.bytes;
  is_front = Consumes-front left rest p.bytes p.given;
  taken = λ text h. none (text ++ p.bytes) (p.taken text h);
}

-- no read was made
pub none_made : {S : Type 0} (reads : S → ℕ) (cramped : S → Bool) (s : S) → AreFewReads reads cramped s s
none_made reads cramped s = record { few = omega arith; roomy = λ h. h }

-- after this many reads the input is long
pub PassesPiece-long : (left rest : Option (List ℕ)) (before after : List ℕ → Type 0) (n : ℕ)
    → PassesPiece left rest before after n → most_reads ≤ n → IfSome left (λ all. most_reads ≤ length all)
PassesPiece-long left rest before after n p long =
    Consumes-long left rest p.bytes p.given (subst (λ k. most_reads ≤ k) (sym p.length_is) long)

-- with more to come than an input may have, the input is long
pub PassesPiece-over : (left rest : Option (List ℕ)) (before after : List ℕ → Type 0) (n : ℕ)
    → PassesPiece left rest before after n → IfSome rest (λ more. most_bytes < n + length more)
    → IfSome left (λ all. most_reads ≤ length all)
PassesPiece-over left rest before after n p over =
    Consumes-over left rest p.bytes p.given
    (subst (λ k. IfSome rest (λ more. most_bytes < k + length more)) (sym p.length_is) over)

-- what a text has after its first bytes
pub rest-is : (n : ℕ) (text : List ℕ) → take (length text - n) (drop n text) ≡ drop n text
rest-is n text = take_all (length text - n) (drop n text) (let len = length-drop n text in omega arith)

-- no byte was written yet
pub Appends-nothing : (written : Option (List ℕ)) → Appends written written []
Appends-nothing None = tt
Appends-nothing (Some bytes) = sym (append-nil bytes)

-- a front of the text was written, and then a front of what is left
pub Appends-on : (before between after : Option (List ℕ)) (text : List ℕ) (m n : ℕ)
    → Appends before between (take m text) → Appends between after (take n (drop m text)) → Appends before after (take (m + n) text)
Appends-on None between after text m n p q = tt
Appends-on (Some first) None after text m n p q = absurd p
Appends-on (Some first) (Some second) None text m n p q = absurd q
Appends-on (Some first) (Some second) (Some third) text m n p q = q ∙ ap (λ l. l ++ take n (drop m text)) p
    ∙ append_assoc first (take m text) (take n (drop m text)) ∙ ap (λ l. first ++ l) (sym (take-add m n text))

-- ---- a text in pieces

-- a front was written, and then what follows
pub Appends-then : (before between after : Option (List ℕ)) (xs ys : List ℕ) → Appends before between xs
    → Appends between after ys → Appends before after (xs ++ ys)
Appends-then None between after xs ys p q = tt
Appends-then (Some first) None after xs ys p q = absurd p
Appends-then (Some first) (Some second) None xs ys p q = absurd q
Appends-then (Some first) (Some second) (Some third) xs ys p q = q ∙ ap (λ l. l ++ ys) p ∙ append_assoc first xs ys

-- the text of the pieces: those before one, that one, and those after it
pub pieces-at : {Z : Type 0} (pieces : List (Vec ℕ Z)) (i : ℕ) (piece : Vec ℕ Z) → i < length pieces → piece ≡ get_or pieces i piece
    → flat_map vec_items pieces
    ≡ flat_map vec_items (take i pieces) ++ (piece.items ++ flat_map vec_items (drop (i + 1) pieces))
pieces-at pieces i piece within is =
    let on : drop i pieces ≡ piece ∷ drop (i + 1) pieces =
    drop_more pieces i piece within ∙ ap (λ x. x ∷ drop (i + 1) pieces) (sym is) in
    ap (flat_map vec_items) (sym (take-append-drop i pieces)) ∙ flat_map-append vec_items (take i pieces) (drop i pieces)
    ∙ ap (λ l. flat_map vec_items (take i pieces) ++ flat_map vec_items l) on

-- one more of them
pub pieces-more : {Z : Type 0} (pieces : List (Vec ℕ Z)) (i : ℕ) (piece : Vec ℕ Z) → i < length pieces → piece ≡ get_or pieces i piece
    → flat_map vec_items (take (i + 1) pieces) ≡ flat_map vec_items (take i pieces) ++ piece.items
pieces-more pieces i piece within is =
    ap (flat_map vec_items) (take_more pieces i piece within ∙ ap (λ x. take i pieces ++ x ∷ []) (sym is))
    ∙ flat_map-append vec_items (take i pieces) (piece ∷ [])
    ∙ ap (λ l. flat_map vec_items (take i pieces) ++ l) (append-nil piece.items)

-- a whole text is a front of it
pub AppendsFront-whole : (before after : Option (List ℕ)) (text : List ℕ) → Appends before after text
    → AppendsFront before after text
AppendsFront-whole before after text whole = record {
  count = length text;
  within = omega arith;
  appended = subst (Appends before after) (sym (take_all (length text) text (omega arith))) whole;
}

-- of the piece after what was written a front was written, and so of the whole
pub AppendsFront-on : (before between after : Option (List ℕ)) (front piece rest : List ℕ) → Appends before between front
    → AppendsFront between after piece → AppendsFront before after (front ++ (piece ++ rest))
AppendsFront-on before between after front piece rest one two = record {
  count = length front + two.count;
  within = (let here = two.within in let all = length-append front (piece ++ rest) in let behind = length-append piece rest in omega arith);
  appended = subst (λ text. Appends before after text)
      (sym (take-append-add front (piece ++ rest) two.count ∙ ap (λ l. front ++ l) (take-append-le two.count piece rest two.within)))
      (Appends-then before between after front (take two.count piece) one two.appended);
}
