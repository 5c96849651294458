use Rattle.page_book.proofs.Asked.{used_record}
use Rattle.page_book.proofs.book.shown.record_of.Goals as goal
use Rattle.page_book.specs.Layout.{has_tag, records_of}
use Rattle.std.proofs.lemmas.Iterator.Search.{find_from_yields_List}
use Rattle.std.proofs.lemmas.Iterator.{YieldsList-from_slice}
use Rattle.std.proofs.Common.{rules}

pub returns : goal.returns
returns c =
    used_record c.args.page.now c.args.tag _ c.if-tag-eq-FREE.false
    (find_from_yields_List (has_tag c.args.tag) _ _ c.find.result c.find.ensures.ran
    (YieldsList-from_slice (records_of c.args.page.now) (search rules)) (λ x b q k. search rules))
