-- Each shard's keys have slots, and what it leaves there stands from then on: no later shard names its keys.
use Rattle.std.proofs.Common.{◌≡◌, ◌<◌, List, Some, get_or, length, refl, sym, ap, subst, ◌∙◌, inl, inr, arith}
use Rattle.std.specs.List.{All, Contains, slice_get}
use Rattle.std.proofs.lemmas.Bool.{cases_lt}
use Rattle.std.proofs.lemmas.List.Elements.{Contains-get_or}
use Rattle.std.proofs.lemmas.Option.{same_Some, slice_get_read}
use Rattle.rx_fields.specs.declared.key.Key.{Key}
use Rattle.rx_ledger.specs.Fold.{fold_ledger}
use Rattle.rx_ledger.specs.Ledger.{Ledger, row_under}
use Rattle.rx_books_family.specs.Books.{IsInOrder}
use Rattle.rx_books_store.specs.LedgerBooks.{LedgerBooks}
use Rattle.rx_schedule.specs.Shards.{is_of, places_of}
use Rattle.rx_schedule.specs.Waves.{number_in}
use Rattle.rx_wave.specs.declared.shard.Ended.{Ended}
use Rattle.rx_wave.proofs.Joining.{all_joined, apart, books_path, low_of, rises_of}
use Rattle.rx_wave.proofs.Keys.{named_of_all}
use Rattle.rx_wave.proofs.RunOn.{members_kept}
use Rattle.rx_wave.proofs.joined.joined_books.Goals as goal

pub loop-shard-init : goal.loop-shard-init
loop-shard-init c =
    let same = c.requires.opened.same in
    record {
      period = ap (λ (b : LedgerBooks). b.period) same;
      slots = c.requires.opened.slots;
      members = ap (λ (b : LedgerBooks). b.ledger.members) same;
      taken = λ k end lt. absurd (omega arith);
      kept = λ key none. ap (λ (b : LedgerBooks). row_under b.ledger key) same;
    }

pub take_over-requires-clause-members : goal.take_over-requires-clause-members
take_over-requires-clause-members c =
    let job = c.args.job.now in
    let at = c.loop-shard.shard in
    let is : slice_get c.args.ended.now at ≡ Some c.index-ended-shard.result =
    slice_get_read c.args.ended.now (length c.args.ended.now) at c.index-ended-shard.result refl (omega arith) c.index-ended-shard.is in
    let ran = c.requires.run.1.each at c.index-ended-shard.result is in
    ap (λ (N : Ledger). N.members) ran.ledger
    ∙ members_kept job.lot job.sheet.now job.transmissions.now
    (places_of (is_of (number_in c.requires.run.0) at) (length job.transmissions.now)) job.books.now.ledger
    ∙ sym c.loop-shard.invariant.members

pub take_over-requires-clause-slots : goal.take_over-requires-clause-slots
take_over-requires-clause-slots c =
    let job = c.args.job.now in
    let at = c.loop-shard.shard in
    let end = c.index-ended-shard.result in
    let is : slice_get c.args.ended.now at ≡ Some end =
    slice_get_read c.args.ended.now (length c.args.ended.now) at end refl (omega arith) c.index-ended-shard.is in
    let ran = c.requires.run.1.each at end is in
    subst (All (Contains c.loop-shard.books.slots)) (sym c.deref.ensures.value) (λ k d lt.
    let key : Key = get_or end.keys.items k d in
    c.loop-shard.invariant.slots key (named_of_all job.transmissions.now (is_of (number_in c.requires.run.0) at) key
    ((ran.keys key).0 (Contains-get_or end.keys.items k d lt))))

pub loop-shard-preserved : goal.loop-shard-preserved
loop-shard-preserved c =
    let job = c.args.job.now in
    let ended = c.args.ended.now in
    let at = c.loop-shard.shard in
    let item = c.index-ended-shard.result in
    let inv = c.loop-shard.invariant in
    let h = c.take_over.ensures in
    let E = c.deref.ensures.value in
    let is_at : slice_get ended at ≡ Some item =
    slice_get_read ended (length ended) at item refl (omega arith) c.index-ended-shard.is in
    record {
      period = h.period ∙ inv.period;
      slots = λ key named. subst (λ (s : List Key). Contains s key) (sym h.slots) (inv.slots key named);
      members = h.members ∙ inv.members;
      taken = λ k end lt is key in_end. elim (cases_lt k at) [
        | inl low ↦ h.kept key (λ in_at.
            let e : k ≡ at = apart job c.requires.run.0 ended c.requires.run.1 k at end item key is is_at in_end
            (subst (λ (ks : List Key). Contains ks key) E in_at) in absurd (omega arith))
            ∙ inv.taken k end low is key in_end
        | inr high ↦
            let same : k ≡ at = omega arith in
            let one : end ≡ item = same_Some _ _ (sym is ∙ ap (slice_get ended) same ∙ is_at) in
            h.taken key (subst (λ (ks : List Key). Contains ks key) (sym E)
            (subst (λ (e : Ended). Contains e.keys.items key) one in_end))
            ∙ ap (λ (e : Ended). row_under e.books.books.ledger key) (sym one)
      ];
      kept = λ key none.
          h.kept key (λ in_at. none at item (omega arith) is_at (subst (λ (ks : List Key). Contains ks key) E in_at))
          ∙ inv.kept key (λ k end lt is. none k end (omega arith) is);
    }

pub returns : goal.returns
returns c =
    let job = c.args.job.now in
    let ended = c.args.ended.now in
    let inv = c.loop-shard.invariant in
    let M = c.loop-shard.books.books.ledger in
    let closed = c.close-books.ensures in
    let rises = subst (λ (b : LedgerBooks). IsInOrder b.ledger) closed
    (rises_of c.close-books.result.ledger c.period.ensures.within) in
    let all : M ≡ fold_ledger job.lot job.sheet.now 1 job.transmissions.now job.books.now.ledger =
    all_joined job c.requires.run.0 ended c.requires.run.1 M rises inv.members
    (λ k end is. let low = low_of ended k end is in inv.taken k end (omega arith) is)
    (λ key none. inv.kept key (λ k end lt is. none k end is)) in
    closed ∙ books_path c.loop-shard.books.books _ _ inv.period all
