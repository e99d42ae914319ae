-- The next row is found where its fill is counted, and is none that matters where not.
use Rattle.std.proofs.Common.{◌≡◌, ◌+◌, false, true, subst, sym, ap, ◌∙◌, List, arith}
use Rattle.std.proofs.lemmas.List.Sums.{sum_by_push}
use Rattle.rx_sorted.specs.Ascending.{IsAt}
use Rattle.rx_ledger.specs.declared.member.Member.{Member}
use Rattle.rx_ledger.specs.Ledger.{Ledger}
use Rattle.rx_ledger.specs.Members.{member_cmp, member_key}
use Rattle.rx_ledger.specs.Rows.{member_of_row}
use Rattle.rx_serial.specs.declared.fill.Entry.{Entry}
use Rattle.rx_serial.specs.declared.fill.FillKey.{FillKey}
use Rattle.rx_serial.specs.Fills.{count_among, count_of, fill_of, fills_in, is_counted, one_of}
use Rattle.rx_serial.proofs.Counting.{count_among-none, finding-pushed, finding-skipped}
use Rattle.rx_serial.proofs.Holders.{at_row}
use Rattle.rx_serial.proofs.Marked.{marked}
use Rattle.rx_serial.proofs.counted.found.Goals as goal

pub loop-row-init : goal.loop-row-init
loop-row-init c =
    let L = c.args.books.now.books.ledger in
    record {
      finding = λ k own.
          let none = count_among-none c.args.own.items c.requires k in
          let same = ap (λ (l : Ledger). fills_in L.members l.rows k) c.standing-standing.ensures.value in
          omega (arith, none, same);
      members = ap (λ (l : Ledger). l.members) c.standing-standing.ensures.value;
    }

pub loop-row-preserved-in-Continue-1 : goal.loop-row-preserved-in-Continue-1
loop-row-preserved-in-Continue-1 c =
    let L = c.args.books.now.books.ledger in
    let r = c.in-Some.row.now in
    let all = λ (k : FillKey). fills_in L.members L.rows k in
    let next : (k : FillKey) → is_counted c.args.marks.now c.args.first_day k ≡ true → fills_in L.members c.loop-row.standing.rows k
    ≡ one_of L.members k r + fills_in L.members c.next_of_marked.new.standing.rows k =
    λ k own. subst (λ (ms : List Member). fills_in ms c.loop-row.standing.rows k
    ≡ one_of ms k r + fills_in ms c.next_of_marked.new.standing.rows k)
    c.loop-row.invariant.members (c.in-Some.ensures.row k (marked c.args.marks.now c.args.first_day k own)) in
    let at = subst (λ (ms : List Member). IsAt member_cmp member_key ms (member_of_row r) c.in-Some.holder)
    c.loop-row.invariant.members c.in-Some.ensures.holder in
    let key : c.in-Some-counted_fill.key ≡ fill_of L.members r =
    c.in-Some-counted_fill.ensures.some
    ∙ at_row L.members r c.in-Some.holder c.standing-standing.ensures.within.members_rise at in
    let made : FillKey → Entry = λ k. record { fill = record { key = k; count = 1 }; transaction = 18446744073709551615 } in
    record {
      finding = finding-pushed L.members (is_counted c.args.marks.now c.args.first_day) c.loop-row.found.items all c.loop-row.standing.rows
          c.next_of_marked.new.standing.rows r next c.loop-row.invariant.finding c.push.new.self.items
          (λ k. ap (λ fills. count_among fills k) c.in_ok-push.ensures.items
          ∙ sum_by_push (λ (e : Entry). count_of k e.fill) c.loop-row.found.items (made c.in-Some-counted_fill.key)
          ∙ ap (λ j. count_among c.loop-row.found.items k + count_of k (made j).fill) key);
      members = c.next_of_marked.ensures.members ∙ c.loop-row.invariant.members;
    }

pub loop-row-preserved : goal.loop-row-preserved
loop-row-preserved c =
    let L = c.args.books.now.books.ledger in
    let r = c.in-Some.row.now in
    let all = λ (k : FillKey). fills_in L.members L.rows k in
    let next : (k : FillKey) → is_counted c.args.marks.now c.args.first_day k ≡ true → fills_in L.members c.loop-row.standing.rows k
    ≡ one_of L.members k r + fills_in L.members c.next_of_marked.new.standing.rows k =
    λ k own. subst (λ (ms : List Member). fills_in ms c.loop-row.standing.rows k
    ≡ one_of ms k r + fills_in ms c.next_of_marked.new.standing.rows k)
    c.loop-row.invariant.members (c.in-Some.ensures.row k (marked c.args.marks.now c.args.first_day k own)) in
    let at = subst (λ (ms : List Member). IsAt member_cmp member_key ms (member_of_row r) c.in-Some.holder)
    c.loop-row.invariant.members c.in-Some.ensures.holder in
    let key = at_row L.members r c.in-Some.holder c.standing-standing.ensures.within.members_rise at in
    let stranger : is_counted c.args.marks.now c.args.first_day (fill_of L.members r) ≡ false =
    ap (is_counted c.args.marks.now c.args.first_day) (sym key) ∙ c.in_default-counted_fill.ensures.none in
    record {
      finding = finding-skipped L.members (is_counted c.args.marks.now c.args.first_day) c.loop-row.found.items all c.loop-row.standing.rows
          c.next_of_marked.new.standing.rows r next c.loop-row.invariant.finding stranger;
      members = c.next_of_marked.ensures.members ∙ c.loop-row.invariant.members;
    }
