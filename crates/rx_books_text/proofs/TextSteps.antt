-- A text's lines are read one after another.
use Rattle.std.proofs.Common.{◌≡◌, ℕ, ◌+◌, ◌≤◌, ltb, Option, false, cond, eqb, List, [], ◌∷◌, length, Ok, Err, refl, sym, ap, ◌∙◌, inl, inr}
use Rattle.std.specs.List.{onto_first}
use Rattle.std.proofs.lemmas.Bool.{cases_Bool, le-ltb}
use Rattle.rx_books_text.specs.declared.fault.BooksFault.{BooksFault}
use Rattle.rx_books_text.specs.declared.fault.BooksFault.TheVariants as fault
use Rattle.rx_books_text.specs.Fault.{UnlessMemory}
use Rattle.rx_books_text.specs.declared.head.Head.{Head}
use Rattle.rx_books_text.specs.LineReading.{head_of}
use Rattle.rx_books_text.specs.Printed.{PrintedParts, line_feeds}
use Rattle.rx_books_text.specs.TextReading.{behind_head, lines, line_read, lines_read, printed_of, text_read}

-- there is a first line
pub lines_cons : (bytes : List ℕ) → (x : List ℕ) × (xs : List (List ℕ)) × (lines bytes ≡ x ∷ xs)
lines_cons [] = ([], [], refl)
lines_cons (b ∷ bytes) =
    let more = lines_cons bytes in
    elim (cases_Bool (eqb b 10)) [
      | inl feed ↦ ([], lines bytes, rw feed refl)
      | inr other ↦ (b ∷ more.0, more.1, rw other (ap (onto_first b) more.2))
    ]

-- after a line that is read come the others
pub lines_step : (n : ℕ) (p q : PrintedParts) (text rest : List ℕ) → line_read n p text ≡ Ok q
    → lines_read n p (text ∷ lines rest) ≡ lines_read (n + 1) q (lines rest)
unfolding lines_read
lines_step n p q text rest read =
    let more = lines_cons rest in
    rw (more.2, read) refl

-- a line's fault is that of the lines
pub lines_fault : (n : ℕ) (p : PrintedParts) (text rest : List ℕ) (f : BooksFault) → line_read n p text ≡ Err f
    → lines_read n p (text ∷ lines rest) ≡ Err f
unfolding lines_read
lines_fault n p text rest f read =
    let more = lines_cons rest in
    rw (more.2, read) refl

-- the end of the text
pub lines_over : (n : ℕ) (p : PrintedParts) (rest : List ℕ)
    → lines_read n p (rest ∷ []) ≡ cond (eqb (length rest) 0) (Ok p) (Err (fault.Line n))
unfolding lines_read
lines_over n p rest = refl

pub unless : {P : Type 0} (f : BooksFault) → P → UnlessMemory f P
unless fault.Memory h = tt
unless f h = h

pub unless_so : {P Q : Type 0} (f : BooksFault) → (P → Q) → UnlessMemory f P → UnlessMemory f Q
unless_so fault.Memory h p = tt
unless_so f h p = h p

-- ---- the head line

pub few_read : (text : List ℕ) → line_feeds text ≤ 1_000_000 → printed_of text ≡ text_read (lines text)
few_read text few =
    let small : ltb 1_000_000 (line_feeds text) ≡ false = le-ltb _ _ few in
    rw small refl

pub headless : (text : List ℕ) → line_feeds text ≤ 1_000_000 → lines text ≡ text ∷ [] → printed_of text ≡ Err fault.Head
unfolding text_read
headless text few one = few_read text few ∙ ap text_read one

pub head_step : (text rest : List ℕ) → text_read (text ∷ lines rest) ≡ behind_head (head_of text) (lines rest)
unfolding text_read
head_step text rest =
    let more = lines_cons rest in
    rw more.2 refl

pub read_behind : (text front rest : List ℕ) (o : Option Head) → line_feeds text ≤ 1_000_000
    → lines text ≡ front ∷ lines rest → o ≡ head_of front → printed_of text ≡ behind_head o (lines rest)
read_behind text front rest o few cut is =
    few_read text few ∙ ap text_read cut ∙ head_step front rest
    ∙ ap (λ (h : Option Head). behind_head h (lines rest)) (sym is)
