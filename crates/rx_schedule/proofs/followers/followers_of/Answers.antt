use Rattle.std.proofs.Common.{◌≡◌, ◌≤◌, ◌-◌, get_or, ◌∙◌, refl, arith}
use Rattle.std.proofs.lemmas.List.{get_or_default, length-map}
use Rattle.rx_schedule.specs.declared.links.Link.{Link}
use Rattle.rx_schedule.specs.Links.{number_at}
use Rattle.rx_schedule.proofs.Followed.{counted_begins, few_begins, link_more, linked-at, rows_begin}
use Rattle.rx_schedule.proofs.followers.followers_of.Goals as goal

pub links-init : goal.links-init
links-init c =
    let zeros = c.in_ok-waiting.ensures.items_if_clones_equal (λ y e. e) in
    rw (c.in_ok-rows.ensures, zeros)
    record { rows = rows_begin c.args.count; counted = counted_begins c.args.count; few = few_begins c.args.count }

pub overflow_sub-link : goal.overflow_sub-link
overflow_sub-link c =
    let no_link : Link = record { from = 0; to = 0 } in
    let link = get_or c.args.links.now c.links.link-index no_link in
    let there = c.requires link.from link.to (linked-at c.args.links.now c.links.link-index link no_link c.links-test.true refl) in
    there.0

pub index_mut-requires : goal.index_mut-requires
index_mut-requires c =
    let no_link : Link = record { from = 0; to = 0 } in
    let link = get_or c.args.links.now c.links.link-index no_link in
    let there = c.requires link.from link.to (linked-at c.args.links.now c.links.link-index link no_link c.links-test.true refl) in
    let many = c.links.invariant.rows.as_many in
    let same = length-map c.links.rows.items (λ v. v.items) in
    let own = c.links.rows.ok in
    let one : 1 ≤ link.from = there.0 in
    let to : link.from ≤ c.args.count = there.1 in
    omega (arith, many, same, own)

pub overflow_sub-link-in-links : goal.overflow_sub-link-in-links
overflow_sub-link-in-links c =
    let no_link : Link = record { from = 0; to = 0 } in
    let link = get_or c.args.links.now c.links.link-index no_link in
    let there = c.requires link.from link.to (linked-at c.args.links.now c.links.link-index link no_link c.links-test.true refl) in
    there.2

pub index_mut-requires-in-links : goal.index_mut-requires-in-links
index_mut-requires-in-links c =
    let no_link : Link = record { from = 0; to = 0 } in
    let link = get_or c.args.links.now c.links.link-index no_link in
    let there = c.requires link.from link.to (linked-at c.args.links.now c.links.link-index link no_link c.links-test.true refl) in
    let many = c.links.invariant.counted.as_many in
    let own = c.links.waiting.ok in
    let one : 1 ≤ link.to = there.2 in
    let to : link.to ≤ c.args.count = there.3 in
    omega (arith, many, own)

pub overflow_add-index_mut : goal.overflow_add-index_mut
overflow_add-index_mut c =
    let no_link : Link = record { from = 0; to = 0 } in
    let link = get_or c.args.links.now c.links.link-index no_link in
    let there = c.requires link.from link.to (linked-at c.args.links.now c.links.link-index link no_link c.links-test.true refl) in
    let many = c.links.invariant.counted.as_many in
    let one : 1 ≤ link.to = there.2 in
    let to : link.to ≤ c.args.count = there.3 in
    let is : c.index_mut-in-links.result.now ≡ number_at c.links.waiting.items link.to =
    c.index_mut-in-links.ensures.value ∙ get_or_default c.links.waiting.items (link.to - 1)
    c.index_mut-in-links.result.now 0 (omega (arith, many)) in
    let few : number_at c.links.waiting.items link.to ≤ c.links.link-index = c.links.invariant.few link.to in
    omega arith

pub links-preserved : goal.links-preserved
links-preserved c =
    let no_link : Link = record { from = 0; to = 0 } in
    let links = c.args.links.now in
    let i = c.links.link-index in
    let link = get_or links i no_link in
    let there = c.requires link.from link.to (linked-at links i link no_link c.links-test.true refl) in
    link_more (λ v. v.items) c.args.count links i c.links.rows.items c.links.waiting.items link
    c.index_mut.result.now c.push.new.self c.index_mut-in-links.result.now c.links.invariant.rows c.links.invariant.counted
    c.links.invariant.few c.links-test.true (get_or_default links i no_link link c.links-test.true)
    there.0 there.1 there.2 there.3 c.index_mut.ensures.value c.in_ok-push.ensures.items c.index_mut-in-links.ensures.value
