-- A tag that is not held has no rows; the others have those with all held records.
use Rattle.books.specs.Questions.{find}
use Rattle.matrix.proofs.Single.{none_counts, none_written, one_means, one_narrow, some_counts, some_written}
use Rattle.matrix.proofs.Writes.{rows_of_few}
use Rattle.matrix.proofs.rows.write_rows.Goals as goal
use Rattle.std.proofs.Common.{◌∙◌, arith, rules}

pub returns-in_err-part : goal.returns-in_err-part
returns-in_err-part g c =
    let kind = g.B.Reading.Reading.kind in
    let m = g.B.Shown.means c.args.book.now in
    let s = g.met.B.Shown.sound c.args.book.now in
    record {
      answer = c.from_residual.ensures ∙ none_counts kind m s (find c.args.tag m.held) c.in_err-part.ensures;
      after = none_written kind m s (find c.args.tag m.held) c.args.rows.now c.in_err-part.ensures;
      few = search rules;
      means = one_means kind m s (find c.args.tag m.held);
      narrow = one_narrow kind m s c.args.tag;
    }

pub returns : goal.returns
returns g c =
    let kind = g.B.Reading.Reading.kind in
    let m = g.B.Shown.means c.args.book.now in
    let s = g.met.B.Shown.sound c.args.book.now in
    record {
      answer = some_counts kind m s (find c.args.tag m.held) c.in_ok-part.field-0 c.rows_above.result c.in_ok-part.ensures c.rows_above.ensures.count;
      after = some_written kind m s (find c.args.tag m.held) c.args.rows.now c.rows_above.new.rows c.rows_above.ensures.after;
      few = omega (arith, c.rows_above.ensures.count, rows_of_few kind m s 0 (find c.args.tag m.held));
      means = one_means kind m s (find c.args.tag m.held);
      narrow = one_narrow kind m s c.args.tag;
    }
