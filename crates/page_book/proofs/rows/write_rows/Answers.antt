-- The rows of one more record follow those of the records before it.
use Rattle.std.proofs.Common.{◌≡◌, ◌+◌, ◌/◌, length, refl, ap, ◌∙◌, arith}
use Rattle.page_book.proofs.Matrix.{matrix_below, matrix_fits, matrix_more, matrix_room, written_more}
use Rattle.page_book.proofs.Pairs.{rows_found}
use Rattle.page_book.proofs.Words.{is_matrix}
use Rattle.page_book.proofs.rows.write_rows.Goals as goal
use Rattle.page_book.specs.Rows.{matrix_to}
use Rattle.std.proofs.lemmas.List.{length-take-le}
use lib.Seq.{sets}

pub loop-k-init : goal.loop-k-init
unfolding matrix_to
loop-k-init c = (refl, refl)

pub rows_with-count-requires : goal.rows_with-count-requires
rows_with-count-requires c =
    omega (arith, matrix_room c.args.page.now c.loop-k.k (omega arith), length-take-le c.loop-k.k c.records-records.result.now (omega arith))

pub loop-k-preserved : goal.loop-k-preserved
loop-k-preserved c =
    let rows = rows_found c.args.page.now c.records-records.result.now c.loop-k.k c.records-records.ensures.each (omega arith) in
    let e = matrix_more c.args.page.now c.loop-k.k in
    let n : c.loop-k.count ≡ 0 + length (matrix_to c.args.page.now c.loop-k.k) = omega arith in
    let p = written_more c.args.rows.now c.loop-k.rows _ _ _ 0 c.loop-k.count n c.loop-k.invariant.1 e in
    (omega (arith, p.0, ap length rows), c.rows_with-count.ensures.after ∙ ap (sets c.loop-k.rows c.loop-k.count) rows ∙ p.1)

pub returns : goal.returns
returns c =
    let e : c.loop-k.k ≡ length c.args.page.now / 32 = omega arith in
    record {
      count = rw e at c.loop-k.invariant.0;
      after = rw e at c.loop-k.invariant.1;
      means = is_matrix c.args.page.now;
      fits = omega (arith, matrix_fits c.args.page.now c.loop-k.k (omega arith));
      below = matrix_below c.args.page.now (length c.args.page.now / 32);
    }
