-- The loop looks for the lowest record with a wrong byte.
use Rattle.std.proofs.Common.{◌≡◌, ◌/◌, length, Some, sym, ap, ◌∙◌, arith}
use Rattle.page_book.specs.LowestFacts.{lowest_found, lowest_more, lowest_none, named}
use Rattle.page_book.proofs.Records.{wrong_found}
use Rattle.page_book.proofs.checks.check_layout.Goals as goal
use Rattle.books.specs.declared.faults.PageFault.TheVariants.{Layout}
use Rattle.page_book.specs.Layout.{records_in}
use Rattle.refusals.specs.Faults.{passed}
use Rattle.page_book.specs.Refused.{layout_at, layout_fault, layout_of}

pub loop-k-init : goal.loop-k-init
loop-k-init c = lowest_none (layout_at c.args.page.now c.args.width)

pub returns-in-Some : goal.returns-in-Some
unfolding layout_fault
returns-in-Some c =
    named (λ n. Some (Layout n c.in-Some.at)) passed _ c.loop-k.k _ (omega arith)
    (lowest_found (layout_at c.args.page.now c.args.width) c.loop-k.k (records_in c.args.page.now) _ c.loop-k.invariant
    (ap (layout_of c.loop-k.k) (sym (c.in-Some.ensures.first ∙ wrong_found c.args.page.now _ c.args.width c.loop-k.k c.records-record-items.ensures.each (omega arith)))) (omega arith))

pub loop-k-preserved : goal.loop-k-preserved
loop-k-preserved c =
    lowest_more _ c.loop-k.k c.loop-k.invariant (ap (layout_of c.loop-k.k) (sym (c.in_default.ensures.first ∙ wrong_found c.args.page.now _ c.args.width c.loop-k.k c.records-record-items.ensures.each (omega arith))))

pub returns : goal.returns
unfolding layout_fault
returns c =
    let e : c.loop-k.k ≡ length c.args.page.now / 32 = omega arith in
    sym (ap passed (rw e at c.loop-k.invariant))
