-- Histories run on a new bench: the work memory lent and given back, and the promise after every call.
use Rattle.std.proofs.Common.{◌≡◌, ℕ, ◌+◌, ◌<◌, ◌≤◌, min, false, List, [], ◌∷◌, ◌++◌, map, length, get_or, take, drop, set, Some, None, Option, Result, sym, refl, ap, ◌∙◌, subst, arith}
use Rattle.bench.specs.Histories.{History, Moment, Replayed, StandsAt, StepTo, asked, begun, call_with, number_in, onward, run, wanted}
use Rattle.bench.specs.Ledger.{Call, accepted, fault, ledger_after, number, refusals_of, work_of}
use Rattle.bench.specs.Promise.{Stands}
use Rattle.bench.specs.Steps.{Stepped}
use Rattle.bench.specs.declared.bench.Bench.{Bench}
use Rattle.bench.specs.declared.faults.BenchFault.{BenchFault}
use Rattle.bench.specs.declared.histories.Call.TheVariants.{Amend, Enter, Shelve, Withdraw}
use Rattle.bench.specs.declared.histories.Call.{Call as Asked}
use Rattle.books.specs.Changes.{Change}
use Rattle.books.specs.Meanings.{Meaning}
use Rattle.readings.specs.Kinds.{Kind}
use Rattle.refusals.specs.Faults.{answered}
use Rattle.std.proofs.lemmas.List.{drop-drop, drop-set-lt, length-take-le, map_push, take_more, take_more_set}
use Rattle.std.proofs.lemmas.Bool.{both_ways}
use lib.ListN.{length-map}
use lib.Seq.{drop-append_seam, take-append_seam}

-- what comes after the place that is written stays
pub rest_stays : (told old : List ℕ) (i x : ℕ) → i < length told → drop i told ≡ drop i old → drop (i + 1) (set told i x) ≡ drop (i + 1) old
rest_stays told old i x l e = drop-set-lt (i + 1) told i x (omega arith) ∙ sym (drop-drop 1 i told) ∙ ap (drop 1) e ∙ drop-drop 1 i old

module _ {R B : Type 0} (kind : Kind R) (means : B → Meaning R) (rewrites : B → Change R → B → Type 0) where
  -- ---- work memory lent

  work_with : (n : ℕ) (call : Asked R) → work_of (call_with n call) ≡ n
  work_with n (Shelve work) = refl
  work_with n (Enter work tag part readings) = refl
  work_with n (Withdraw work tag) = refl
  work_with n (Amend work tag test reading) = refl

  pub lent_step : (call : Asked R) (b b' : Bench B) (list list' work work' : List ℕ) (lent : ℕ) (r : Result (ℕ × ℕ) BenchFault) (told : ℕ)
      → lent ≡ min (wanted call) (length work)
      → Stepped kind means rewrites (call_with (length (take lent work)) call) b b' list list' (take lent work) work' r
      → length work' ≡ length (take lent work) → told ≡ number_in r
      → StepTo kind means rewrites (asked (length work) call) told (record { bench = b; list = list; work = work })
      (record { bench = b'; list = list'; work = work' ++ drop lent work })
  lent_step call b b' list list' work work' lent r told e s kept t = record {
    result = r;
    stepped =
        subst (λ (l : List ℕ). Stepped kind means rewrites (call_with n call) b b' list list' (take w work) l r) (sym first)
        (subst (λ (l : List ℕ). Stepped kind means rewrites (call_with n call) b b' list list' l work' r) (ap (λ (k : ℕ). take k work) at)
        (subst (λ (k : ℕ). Stepped kind means rewrites (call_with k call) b b' list list' (take lent work) work' r) long s));
    beyond = ap (λ (k : ℕ). drop k (work' ++ rest)) size ∙ drop-append_seam work' rest ∙ ap (λ (k : ℕ). drop k work) at;
    numbered = t;
  }
    where
      n : ℕ
      n = min (wanted call) (length work)

      w : ℕ
      w = work_of (call_with n call)

      rest : List ℕ
      rest = drop lent work

      lent_is : lent ≡ n
      lent_is = let h = e in omega (arith, h)

      at : lent ≡ w
      at = lent_is ∙ sym (work_with n call)

      within : lent ≤ length work
      within = let h = e in omega (arith, h)

      long : length (take lent work) ≡ n
      long = length-take-le lent work within ∙ lent_is

      size : w ≡ length work'
      size = work_with n call ∙ sym (kept ∙ long)

      first : take w (work' ++ rest) ≡ work'
      first = ap (λ (k : ℕ). take k (work' ++ rest)) size ∙ take-append_seam work' rest

  -- ---- the promise at the start, and after one call more

  pub stands_new : (b : B) (list : List ℕ) → Stands kind (means b) [] [] (means b) 0 0 list
  unfolding ledger_after refusals_of accepted
  stands_new b list = record { book = refl; refusals = refl; unshelved = λ h. (refl, refl); shelved = λ h. absurd (both_ways false refl h) }

  number_answered : (o : Option BenchFault) (x : ℕ × ℕ) → number_in (answered o x) ≡ number o
  number_answered None x = refl
  number_answered (Some f) x = refl

  module _ (start : Meaning R) (first : Moment B) where
    pub history_stands : (calls : List (Call R)) (numbers : List ℕ) (m : Moment B) → History kind means rewrites start first calls numbers m
        → StandsAt kind means start calls numbers m
    history_stands calls numbers m (begun s) = s
    history_stands calls numbers m (onward cs ns l call n next h step s) = s

    pub history_onward : (calls : List (Call R)) (numbers : List ℕ) (last next : Moment B) (call : Call R) (told : ℕ)
        → History kind means rewrites start first calls numbers last → StepTo kind means rewrites call told last next
        → History kind means rewrites start first (calls ++ call ∷ []) (numbers ++ told ∷ []) next
    history_onward calls numbers last next call told h step =
        onward calls numbers last call told next h step
        (subst (λ (k : ℕ). StandsAt kind means start (calls ++ call ∷ []) (numbers ++ k ∷ []) next) (sym same)
        (step.stepped.carries start calls numbers (history_stands calls numbers last h)))
      where
        same : told ≡ number (fault kind (means last.bench.book) call)
        same = step.numbered ∙ ap number_in step.stepped.answer ∙ number_answered (fault kind (means last.bench.book) call) _

  -- ---- a list of calls, one after another

  pub history_new : (b : Bench B) (book : B) (list work : List ℕ) → b ≡ record { book = book; count = 0; over = 0 }
      → History kind means rewrites (means b.book) (record { bench = b; list = list; work = work }) [] [] (record { bench = b; list = list; work = work })
  history_new b book list work e =
      begun (subst (λ (x : Bench B). Stands kind (means x.book) [] [] (means x.book) x.count x.over list) (sym e) (stands_new book list))

  pub history_more : (start : Meaning R) (first last next : Moment B) (calls : List (Asked R)) (told : List ℕ) (i places told-now : ℕ) (call : Asked R)
      → History kind means rewrites start first (map (asked places) (take i calls)) (take i told) last
      → StepTo kind means rewrites (asked (length last.work) call) told-now last next
      → length last.work ≡ places → i < length calls → i < length told → call ≡ get_or calls i call
      → History kind means rewrites start first (map (asked places) (take (i + 1) calls)) (take (i + 1) (set told i told-now)) next
  history_more start first last next calls told i places told-now call h step long l k e =
      subst (λ (cs : List (Call R)). History kind means rewrites start first cs (take (i + 1) (set told i told-now)) next) (sym grown)
      (subst (λ (ns : List ℕ). History kind means rewrites start first (map (asked places) (take i calls) ++ asked places call ∷ []) ns next)
      (sym (take_more_set told i told-now k))
      (history_onward start first (map (asked places) (take i calls)) (take i told) last next (asked places call) told-now h
      (subst (λ (n : ℕ). StepTo kind means rewrites (asked n call) told-now last next) long step)))
    where
      grown : map (asked places) (take (i + 1) calls) ≡ map (asked places) (take i calls) ++ asked places call ∷ []
      grown =
          ap (map (asked places)) (take_more calls i call l ∙ ap (λ (x : Asked R). take i calls ++ x ∷ []) (sym e))
          ∙ map_push (asked places) (take i calls) call

  -- all calls, from the new bench on
  pub replayed : (b : Bench B) (book : B) (list work told list' work' told' : List ℕ) (r : Bench B) (calls : List (Asked R)) (i : ℕ)
      → b ≡ record { book = book; count = 0; over = 0 } → i ≡ min (length calls) (length told)
      → History kind means rewrites (means b.book) (record { bench = b; list = list; work = work })
      (map (asked (length work)) (take i calls)) (take i told') (record { bench = r; list = list'; work = work' })
      → drop i told' ≡ drop i told
      → Replayed kind means rewrites book (run calls work told) list work told r list' work' told'
  replayed b book list work told list' work' told' r calls i e end h rest = record {
    stands = history_stands (means book) (record { bench = record { book = book; count = 0; over = 0 }; list = list; work = work }) (run calls work told)
        (take (length (run calls work told)) told') (record { bench = r; list = list'; work = work' }) whole;
    history = whole;
    beyond = subst (λ (k : ℕ). drop k told' ≡ drop k told) (end ∙ sym long) rest;
  }
    where
      n : ℕ
      n = min (length calls) (length told)

      long : length (run calls work told) ≡ n
      long = length-map (take n calls) (asked (length work)) ∙ length-take-le n calls (omega arith)

      whole : History kind means rewrites (means book) (record { bench = record { book = book; count = 0; over = 0 }; list = list; work = work })
          (run calls work told) (take (length (run calls work told)) told') (record { bench = r; list = list'; work = work' })
      whole =
          subst (λ (k : ℕ). History kind means rewrites (means book) (record { bench = record { book = book; count = 0; over = 0 }; list = list; work = work })
          (run calls work told) (take k told') (record { bench = r; list = list'; work = work' })) (sym long)
          (subst (λ (x : Bench B). History kind means rewrites (means x.book) (record { bench = x; list = list; work = work })
          (map (asked (length work)) (take n calls)) (take n told') (record { bench = r; list = list'; work = work' })) e
          (subst (λ (k : ℕ). History kind means rewrites (means b.book) (record { bench = b; list = list; work = work })
          (map (asked (length work)) (take k calls)) (take k told') (record { bench = r; list = list'; work = work' })) end h))
