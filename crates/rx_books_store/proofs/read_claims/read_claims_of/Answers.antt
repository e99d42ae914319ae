use Rattle.std.proofs.Common.{◌≡◌, ◌+◌, ◌++◌, List, ap, arith, drop, length, subst, sum, sym, take, ◌∙◌}
use Rattle.std.specs.List.{flat_map}
use Rattle.std.proofs.lemmas.List.{length-drop}
use Rattle.rx_sorted.specs.Runs.{items_of}
use Rattle.rx_ledger.specs.declared.row.Row.{Row}
use Rattle.rx_books_store.specs.BooksText.{claims_text}
use Rattle.rx_books_store.specs.Kept.{kept_text}
use Rattle.rx_books_store.specs.ReadClaims.{AreRead}
use Rattle.rx_books_store.proofs.ReadLines.{all_read, all_within, lines_within, next_run, one_part_more, one_run_more, others_read, own_bytes, own_read}
use Rattle.rx_books_store.proofs.read_claims.read_claims_of.Goals as goal

pub lines-requires : goal.lines-requires
lines-requires c =
    let kept = c.args.kept.now in
    all_within (kept_text kept) kept.lengths.items kept.above c.args.opening.now.rows c.requires

pub loop-run-init : goal.loop-run-init
loop-run-init c =
    let kept = c.args.kept.now in
    record {
      rows = ap (flat_map (λ (part : List Row). part)) c.in_ok-parts.ensures.items;
      rest = subst (λ (rs : List Row). AreRead rs c.lines.result.0.now c.lines.result.1.now)
          (sym (c.runs-runs.ensures.value ∙ c.rows.ensures.value))
          (all_read (kept_text kept) kept.lengths.items kept.above c.args.opening.now.rows c.requires c.lines.result.0.now
          c.lines.result.1.now c.lines.ensures.lines c.lines.ensures.lengths);
      few = c.lines.ensures.few;
    }

pub bytes_of-requires : goal.bytes_of-requires
bytes_of-requires c =
    let runs = c.runs-runs.result.now in
    let i = c.loop-run.run-index in
    let run = c.run-item.result in
    let lines = c.loop-run.lines.now in
    let lengths = c.loop-run.lengths.now in
    let others = items_of (drop (i + 1) runs) in
    let are = subst (λ (rs : List Row). AreRead rs lines lengths) (next_run runs i run (omega arith) c.run-item.is) c.loop-run.invariant.rest in
    let long : c.len.result ≡ length run.items = omega arith in
    let bytes : sum c.split_at.result.0.now ≡ length (claims_text run.items) =
    ap sum c.split_at.ensures.front ∙ ap (λ k. sum (take k lengths)) long ∙ own_bytes run.items others lines lengths are in
    let within = lines_within run.items others lines lengths are (sum c.split_at.result.0.now) bytes in
    omega (arith, within, c.loop-run.invariant.few)

pub split_at-requires-in-loop-run : goal.split_at-requires-in-loop-run
split_at-requires-in-loop-run c =
    let runs = c.runs-runs.result.now in
    let i = c.loop-run.run-index in
    let run = c.run-item.result in
    let lines = c.loop-run.lines.now in
    let lengths = c.loop-run.lengths.now in
    let others = items_of (drop (i + 1) runs) in
    let are = subst (λ (rs : List Row). AreRead rs lines lengths) (next_run runs i run (omega arith) c.run-item.is) c.loop-run.invariant.rest in
    let long : c.len.result ≡ length run.items = omega arith in
    let bytes : c.bytes_of.result ≡ length (claims_text run.items) =
    c.bytes_of.ensures ∙ ap sum c.split_at.ensures.front ∙ ap (λ k. sum (take k lengths)) long
    ∙ own_bytes run.items others lines lengths are in
    lines_within run.items others lines lengths are c.bytes_of.result bytes

pub invariant_of-push : goal.invariant_of-push
invariant_of-push c =
    let runs = c.runs-runs.result.now in
    let i = c.loop-run.run-index in
    let run = c.run-item.result in
    let lines = c.loop-run.lines.now in
    let lengths = c.loop-run.lengths.now in
    let others = items_of (drop (i + 1) runs) in
    let are = subst (λ (rs : List Row). AreRead rs lines lengths) (next_run runs i run (omega arith) c.run-item.is) c.loop-run.invariant.rest in
    let long : c.len.result ≡ length run.items = omega arith in
    let bytes : c.bytes_of.result ≡ length (claims_text run.items) =
    c.bytes_of.ensures ∙ ap sum c.split_at.ensures.front ∙ ap (λ k. sum (take k lengths)) long
    ∙ own_bytes run.items others lines lengths are in
    rw (c.deref.ensures.value, c.split_at-in-loop-run.ensures.front, c.split_at.ensures.front, long)
    (own_read run.items others lines lengths are c.bytes_of.result bytes)

pub loop-run-preserved : goal.loop-run-preserved
loop-run-preserved c =
    let runs = c.runs-runs.result.now in
    let i = c.loop-run.run-index in
    let run = c.run-item.result in
    let lines = c.loop-run.lines.now in
    let lengths = c.loop-run.lengths.now in
    let others = items_of (drop (i + 1) runs) in
    let so_far : List Row = items_of (take i runs) in
    let are = subst (λ (rs : List Row). AreRead rs lines lengths) (next_run runs i run (omega arith) c.run-item.is) c.loop-run.invariant.rest in
    let long : c.len.result ≡ length run.items = omega arith in
    let bytes : c.bytes_of.result ≡ length (claims_text run.items) =
    c.bytes_of.ensures ∙ ap sum c.split_at.ensures.front ∙ ap (λ k. sum (take k lengths)) long
    ∙ own_bytes run.items others lines lengths are in
    record {
      rows = one_part_more c.loop-run.parts.items c.push.new.self.items c.deref.result.now so_far (items_of (take (i + 1) runs))
          c.in_ok-push.ensures.items c.loop-run.invariant.rows
          (one_run_more runs i run (omega arith) c.run-item.is ∙ ap (λ (rs : List Row). so_far ++ rs) (sym c.deref.ensures.value));
      rest = rw (c.split_at-in-loop-run.ensures.back, c.split_at.ensures.back, long)
          (others_read run.items others lines lengths are c.bytes_of.result bytes);
      few = omega (arith, ap length c.split_at-in-loop-run.ensures.back, length-drop c.bytes_of.result lines, c.loop-run.invariant.few);
    }
