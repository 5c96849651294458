use Rattle.page_book.proofs.Writing.{entered_from}
use Rattle.page_book.proofs.book.written.entered.Goals as goal
use Rattle.page_book.specs.Valid.{bytes_from}
use Rattle.std.proofs.Common.{rules}

pub returns-clause-bytes : goal.returns-clause-bytes
returns-clause-bytes c = entered_from c.args.tag c.args.part c.args.readings.now _ (search rules) (λ b l. search rules)

pub returns-clause-small : goal.returns-clause-small
returns-clause-small c = bytes_from _ (λ i l. search rules)
