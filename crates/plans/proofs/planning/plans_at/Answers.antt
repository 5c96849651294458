-- What is covered is the page's matrix, which has the plans of the book.
use Rattle.bench.specs.Promise.{plans_by}
use Rattle.books.specs.declared.faults.BookFault.{BookFault}
use Rattle.covers.specs.Answers.{listed, told}
use Rattle.covers.specs.Plans.{plans_of}
use Rattle.covers.specs.Theorems.{Lists}
use Rattle.page_book.specs.Places.{page_meaning}
use Rattle.page_book.specs.Refused.{refused_page}
use Rattle.page_book.specs.Rows.{matrix_of}
use Rattle.plans.proofs.Pages.{book_plans, page_fair, page_narrow, page_plans, page_rows}
use Rattle.plans.proofs.planning.plans_at.Goals as goal
use Rattle.readings.specs.Codes.{codes}
use Rattle.refusals.proofs.Answered.{answered_ok}
use Rattle.refusals.specs.Faults.{answered, leaves}
use Rattle.sets.proofs.Runs.{sets_taken}
use Rattle.std.proofs.Common.{◌≡◌, ℕ, ◌^◌, ◌<◌, ◌≤◌, List, length, take, replicate, None, Ok, Option, rules, sym, ap, ◌∙◌, subst}
use Rattle.std.specs.List.{AllByRecursion as Every}
use lib.Seq.{sets}

zeros : List ℕ
zeros = replicate 2016 0

-- an accepted page, and the rows that are covered: the page's matrix
handed : (page rows : List ℕ) (width count : ℕ) → Ok count ≡ answered (refused_page page width) (length (matrix_of page)) → count ≤ 2016
    → rows ≡ leaves (refused_page page width) zeros (sets zeros 0 (matrix_of page)) → (refused_page page width ≡ None) × (take count rows ≡ matrix_of page)
unfolding zeros
handed page rows width count answer few after =
    let p = answered_ok (refused_page page width) count (length (matrix_of page)) answer in (
      p.0,
      ap (take count) (after ∙ ap (λ (o : Option BookFault). leaves o zeros (sets zeros 0 (matrix_of page))) p.0)
          ∙ sets_taken zeros (matrix_of page) count p.1 few,
    )

pub returns-in_err-count-clause-rows : goal.returns-in_err-count-clause-rows
returns-in_err-count-clause-rows c width none = page_rows c.args.page.now width none (search rules)

pub cover_rows-requires : goal.cover_rows-requires
unfolding zeros
cover_rows-requires c =
    let known = c.in_ok-count.ensures in
    let page = c.args.page.now in
    let h = handed page c.matrix.new.rows c.args.width c.in_ok-count.count known.answer known.fits known.after in (
      page_fair page (matrix_of page) c.args.width h.0 (search rules) known.means,
      subst (Every (λ s. s < 2 ^ c.args.width)) (sym h.1) (page_narrow page (matrix_of page) c.args.width h.0 (search rules) known.means),
    )

pub returns-clause-page_plans : goal.returns-clause-page_plans
unfolding zeros
returns-clause-page_plans c =
    let known = c.in_ok-count.ensures in
    let h = handed c.args.page.now c.matrix.new.rows c.args.width c.in_ok-count.count known.answer known.fits known.after in
    subst (λ (rows : List ℕ). Lists rows (plans_of rows c.args.width)) h.1 c.cover_rows.ensures.plans

pub returns-clause-same : goal.returns-clause-same
returns-clause-same c none =
    let page = c.args.page.now in
    book_plans page (matrix_of page) c.args.width none (search rules) c.in_ok-count.ensures.means
    (plans_of (matrix_of page) c.args.width) (returns-clause-page_plans c)

pub returns-clause-answer : goal.returns-clause-answer
unfolding zeros
returns-clause-answer c =
    let known = c.in_ok-count.ensures in
    let page = c.args.page.now in
    let width = c.args.width in
    let n = length c.args.list.now in
    let h = handed page c.matrix.new.rows width c.in_ok-count.count known.answer known.fits known.after in
    ap Ok (c.cover_rows.ensures.answer ∙ ap (λ (rows : List ℕ). told n (plans_of rows width)) h.1 ∙ ap (told n) (sym (returns-clause-same c h.0)))
    ∙ sym (ap (λ (o : Option BookFault). answered o (told n (plans_by codes (page_meaning page width)))) h.0)

pub returns-clause-after : goal.returns-clause-after
unfolding zeros
returns-clause-after c =
    let known = c.in_ok-count.ensures in
    let page = c.args.page.now in
    let width = c.args.width in
    let list = c.args.list.now in
    let h = handed page c.matrix.new.rows width c.in_ok-count.count known.answer known.fits known.after in
    c.cover_rows.ensures.after
    ∙ ap (λ (rows : List ℕ). listed (length list) (plans_of rows width)) h.1
    ∙ ap (listed (length list)) (sym (returns-clause-same c h.0))
    ∙ sym (ap (λ (o : Option BookFault). leaves o list (listed (length list) (plans_by codes (page_meaning page width)))) h.0)

pub returns-clause-rows : goal.returns-clause-rows
returns-clause-rows c width none = page_rows c.args.page.now width none (search rules)

pub returns-clause-plans : goal.returns-clause-plans
returns-clause-plans c none = page_plans c.args.page.now c.args.width none (search rules)
