-- A record cleared: the page is valid, and means what the change says.
use Rattle.std.proofs.Common.{◌≡◌, ℕ, true, ◌≢◌, List, set, Some, sym, ap, ◌∙◌, arith}
use Rattle.books.proofs.Gathering.{gathered_withdraw}
use Rattle.books.specs.Changes.{after, held_after, remove, withdraw}
use Rattle.books.specs.Gathered.{gathered, standing}
use Rattle.page_book.proofs.Amending.{meaning_is}
use Rattle.page_book.specs.Paged.{distinct_places, length_places, place_found, place_free, place_is, place_used, standing_places}
use Rattle.page_book.proofs.Rewriting.{places_set, same_count, still_valid}
use Rattle.page_book.specs.Valid.{valid_formed}
use Rattle.page_book.specs.Layout.{RightRecord, records_in, tag_at}
use Rattle.page_book.specs.Places.{page_meaning, place_of, places, record_at, valid}
use Rattle.page_book.specs.Rewrites.{Rewritten}

module _ (old new : List ℕ) (width tag k : ℕ) (ok : valid old width ≡ true) (found : place_of old tag ≡ Some k) (w : Rewritten old new k (λ _. 0)) where
  free : tag_at new k ≡ 0
  free = let a = w.here 0 (omega arith) in let b = w.here 1 (omega arith) in omega arith

  tag_at_lem : tag_at old k ≡ tag
  tag_at_lem = (place_found old width tag k found).2

  used : tag_at old k ≢ 0
  used z = (place_found old width tag k found).0 (sym tag_at_lem ∙ z)

  right : RightRecord new width k
  right b l = ((λ _. w.here b l), (λ n. absurd (n free)))

  pub withdraw_valid : valid new width ≡ true
  withdraw_valid = still_valid old new width k (λ _. 0) ok w (λ b l. omega arith) right (λ n. absurd (n free))

  pub withdraw_means : page_meaning new width ≡ after (page_meaning old width) (withdraw tag)
  unfolding held_after
  withdraw_means =
      meaning_is width (records_in new) (records_in old) (gathered (places new width)) (remove tag (gathered (places old width)))
      (same_count old new width k (λ _. 0) ok w)
      (ap gathered (places_set old new width k (λ _. 0) ok w ∙ ap (set (places old width) k) (place_free new width k free))
      ∙ (gathered_withdraw (record_at old width k) (places old width) k
      (omega (arith, length_places old width, (place_found old width tag k found).1))
      (place_is old width k (place_found old width tag k found).1 ∙ place_used old width k used)
      (ap (λ t. standing t (places old width)) tag_at_lem ∙ standing_places old width (valid_formed old width ok) tag k found)
      (distinct_places old width (valid_formed old width ok))).0
      ∙ ap (λ t. remove t (gathered (places old width))) tag_at_lem)
