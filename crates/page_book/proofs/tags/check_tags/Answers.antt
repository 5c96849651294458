-- The loop looks for the lowest record whose tag stands in an earlier one.
use Rattle.std.proofs.Common.{◌≡◌, ◌/◌, length, Some, sym, ap, ◌∙◌, arith}
use Rattle.page_book.specs.LowestFacts.{lowest_found, lowest_more, lowest_none, named}
use Rattle.page_book.proofs.Records.{free_once, used_once, used_twice}
use Rattle.page_book.proofs.tags.check_tags.Goals as goal
use Rattle.page_book.proofs.tags.check_tags.Goals.{else-tag-ne-FREE-via-then-tag-ne-FREE+else-stands_in, else-tag-ne-FREE-via-else-tag-ne-FREE}
use Rattle.books.specs.declared.faults.PageFault.TheVariants.{Twice}
use Rattle.page_book.specs.Layout.{records_in}
use Rattle.refusals.specs.Faults.{passed}
use Rattle.page_book.specs.Refused.{twice_at, twice_fault}

pub loop-k-init : goal.loop-k-init
loop-k-init c = lowest_none (twice_at c.args.page.now)

pub returns-then-stands_in : goal.returns-then-stands_in
unfolding twice_fault
returns-then-stands_in c =
    named (λ n. Some (Twice n)) passed _ c.loop-k.k _ (omega arith)
    (lowest_found (twice_at c.args.page.now) c.loop-k.k (records_in c.args.page.now) _ c.loop-k.invariant
    (used_twice c.args.page.now _ c.loop-k.k c.tag-tag.result c.records-records.ensures.each (omega arith) c.tag-tag.ensures c.if-tag-ne-FREE.true (sym c.if-stands_in.true ∙ c.stands_in.ensures)) (omega arith))

pub loop-k-preserved : goal.loop-k-preserved
loop-k-preserved c =
    lowest_more _ c.loop-k.k c.loop-k.invariant
    (elim c.else-tag-ne-FREE.branch [
      | else-tag-ne-FREE-via-then-tag-ne-FREE+else-stands_in w ↦ used_once c.args.page.now _ c.loop-k.k c.tag-tag.result c.records-records.ensures.each (omega arith) c.tag-tag.ensures w.if-tag-ne-FREE.true (sym w.if-stands_in.false ∙ w.stands_in.ensures)
      | else-tag-ne-FREE-via-else-tag-ne-FREE w ↦ free_once c.args.page.now _ c.loop-k.k c.tag-tag.result c.records-records.ensures.each (omega arith) c.tag-tag.ensures w.if-tag-ne-FREE.false
    ])

pub returns : goal.returns
unfolding twice_fault
returns c =
    let e : c.loop-k.k ≡ length c.args.page.now / 32 = omega arith in
    sym (ap passed (rw e at c.loop-k.invariant))
