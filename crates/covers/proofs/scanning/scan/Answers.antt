use Rattle.covers.proofs.Scans.{covers_all, owned_all}
use Rattle.covers.proofs.scanning.scan.Goals as goal

pub returns : goal.returns
returns c =
    let rows = c.args.rows.now in
    let i = c.loop-row.row-index in
    let l = c.loop-row-test.false in
    record {
      can = covers_all rows i l _ _ _ c.loop-row.invariant.0;
      does = covers_all rows i l _ _ _ c.loop-row.invariant.1;
      own_rows = owned_all rows i l _ _ _ c.loop-row.invariant.2;
    }
