use Rattle.page_book.proofs.Records.{wrong_place}
use Rattle.page_book.proofs.layout.wrong_byte.Goals as goal
use Rattle.page_book.specs.Refused.{right_byte}
use Rattle.std.proofs.Common.{ℕ, Bool, not, tests, rules}
use Rattle.std.proofs.lemmas.Iterator.{YieldsList-from_slice}
use Rattle.std.proofs.lemmas.Iterator.Consumers.{YieldsList-from_enumerate}
use Rattle.std.proofs.lemmas.Iterator.Search.{position_from_yields_List}

pub returns-clause-first : goal.returns-clause-first
returns-clause-first c =
    let test : ℕ × ℕ → Bool = λ p. not (right_byte c.tag-tag.result c.args.width p.0 p.1) in
    wrong_place c.args.bytes.now c.args.width c.tag-tag.result c.position.result (search rules) c.tag-tag.ensures
    (position_from_yields_List test _ _ c.position.result c.position.ensures.ran
    (YieldsList-from_enumerate (YieldsList-from_slice c.args.bytes.now (search rules)) c.enumerate.ensures.count) (λ x b q k. search (rules, tests)))
