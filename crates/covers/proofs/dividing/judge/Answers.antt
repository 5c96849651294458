use Rattle.covers.proofs.Divisions.{halves, none_coverable, none_owned, one_covered, some_undecided}
use Rattle.covers.proofs.dividing.judge.Goals as goal
use Rattle.std.proofs.lemmas.Bool.{not-false, not-true}
use Rattle.std.proofs.Common.{sym, ◌∙◌, ⊎_elim}

pub returns-then-not-seen : goal.returns-then-not-seen
returns-then-not-seen c =
    ⊎_elim
    (λ h. none_coverable c.args.rows.now c.args.chosen c.args.undecided c.requires
    (sym c.scan-seen.ensures.can ∙ not-true c.scan-seen.result.coverable h))
    (λ h. none_owned c.args.rows.now c.args.chosen c.args.undecided c.requires (λ e. h.1 (c.scan-seen.ensures.own_rows ∙ e)))
    c.then-not-seen.either

pub returns-then-seen : goal.returns-then-seen
returns-then-seen c =
    one_covered c.args.rows.now c.args.chosen c.args.undecided c.requires
    (sym c.scan-seen.ensures.does ∙ c.if-seen.true)
    (sym c.scan-seen.ensures.own_rows ∙ c.if-seen-chosen.false)

pub returns : goal.returns
returns c =
    halves c.args.rows.now c.args.chosen c.args.undecided c.requires
    (some_undecided c.args.rows.now c.args.chosen c.args.undecided c.requires
    (sym c.scan-seen.ensures.does ∙ c.if-seen.false)
    (sym c.scan-seen.ensures.can ∙ not-false c.scan-seen.result.coverable c.if-not-seen.false))
