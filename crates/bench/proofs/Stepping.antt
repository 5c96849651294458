-- One call of a bench, refused or accepted: its answer, what it leaves, and every history carried on by it.
use Rattle.std.proofs.Common.{◌≡◌, ℕ, ◌≤◌, Bool, List, length, replicate, Some, None, Ok, Err, Option, Result, sym, refl, ap, ◌∙◌, subst}
use Rattle.bench.proofs.Ledgers.{next_accepted, stands_accepted, stands_refused}
use Rattle.bench.proofs.Shelving.{listing}
use Rattle.bench.specs.Ledger.{Call, change, entered, fault, in_book, next, shelve, short_of, work_of}
use Rattle.bench.specs.Promise.{Shelved, plans_by}
use Rattle.bench.specs.Steps.{Listed, Stepped, Turned}
use Rattle.bench.specs.declared.bench.Bench.{Bench}
use Rattle.bench.specs.declared.faults.BenchFault.TheVariants.{InBook, Work}
use Rattle.bench.specs.declared.faults.BenchFault.{BenchFault}
use Rattle.books.specs.Changes.{Change, refused}
use Rattle.books.specs.Meanings.{Meaning}
use Rattle.books.specs.Promises.{Changed, Left}
use Rattle.books.specs.declared.faults.BookFault.{BookFault}
use Rattle.covers.specs.Answers.{listed, over, told}
use Rattle.covers.specs.Theorems.{Lists}
use Rattle.matrix.specs.Apart.{Different}
use Rattle.matrix.specs.Rows.{matrix_of}
use Rattle.matrix.specs.Theorems.{IsMatrix}
use Rattle.readings.specs.Kinds.{Kind}
use Rattle.refusals.proofs.Answered.{answered_err, answered_ok}
use Rattle.refusals.specs.Faults.{answered, or_else, passed, when}
use Rattle.std.proofs.lemmas.Bool.{le-ltb}

module _ {R B : Type 0} (kind : Kind R) (means : B → Meaning R) (rewrites : B → Change R → B → Type 0) (call : Call R) where
  pub stepped_refused : (b : Bench B) (list work : List ℕ) (f : BenchFault) → fault kind (means b.book) call ≡ Some f
      → Stepped kind means rewrites call b b list list work work (Err f)
  stepped_refused b list work f e = record {
    answer = ap (λ (o : Option BenchFault). answered o (told (length list) (plans_by kind (next kind (means b.book) call)))) (sym e);
    left = (refl, refl, refl);
    carries = λ start calls numbers s. stands_refused kind start calls numbers call (means b.book) b.count b.over list s f e;
  }

  -- what a turned book means
  turned_means : (a b : B) → Turned means rewrites call a b → means b ≡ entered (means a) call
  turned_means a b t = go call t
    where
      go : (c : Call R) → Turned means rewrites c a b → means b ≡ entered (means a) c
      go (shelve work) e = ap means e
      go (change work c) (e, w) = e

  module _ (old new : Bench B) (list list' work work' : List ℕ)
      (lists : Lists (matrix_of kind (means new.book).held) (plans_by kind (means new.book)))
      (is : IsMatrix kind (Different (means new.book).held) (matrix_of kind (means new.book).held))
      (none : fault kind (means old.book) call ≡ None)
      (turned : Turned means rewrites call old.book new.book)
      (counts : new.count ≡ length (plans_by kind (means new.book)))
      (overs : new.over ≡ over (length list) (plans_by kind (means new.book)))
      (lists-all : list' ≡ listed (length list) (plans_by kind (means new.book)))
      (clears : work' ≡ replicate (length work) 0) where
    meant : means new.book ≡ entered (means old.book) call
    meant = turned_means old.book new.book turned

    is_shelved : Shelved kind (means new.book) new.count new.over list'
    is_shelved =
        subst (λ (c : ℕ). Shelved kind (means new.book) c new.over list') (sym counts)
        (subst (λ (o : ℕ). Shelved kind (means new.book) (length (plans_by kind (means new.book))) o list') (sym overs)
        (subst (Shelved kind (means new.book) (length (plans_by kind (means new.book))) (over (length list) (plans_by kind (means new.book)))) (sym lists-all)
        (listing kind (Different (means new.book).held) (matrix_of kind (means new.book).held) (means new.book).width lists is (length list))))

    pub stepped_accepted : Stepped kind means rewrites call old new list list' work work' (Ok (told (length list) (plans_by kind (means new.book))))
    stepped_accepted = record {
      answer = ap Ok (ap (λ (m : Meaning R). told (length list) (plans_by kind m)) (meant ∙ sym (next_accepted kind (means old.book) call none)))
          ∙ ap (λ (o : Option BenchFault). answered o (told (length list) (plans_by kind (next kind (means old.book) call)))) (sym none);
      left = (turned, counts, overs, lists-all, clears);
      carries = λ start calls numbers s.
          stands_accepted kind start calls numbers call (means old.book) old.count old.over list s
          (means new.book) new.count new.over list' none meant is_shelved;
    }

-- a call that turned the book and then listed
listed_step : {R B : Type 0} (kind : Kind R) (means : B → Meaning R) (rewrites : B → Change R → B → Type 0) (call : Call R)
    (old mid new : Bench B) (list list' work work' : List ℕ) (answer : ℕ × ℕ)
    → Lists (matrix_of kind (means mid.book).held) (plans_by kind (means mid.book))
    → IsMatrix kind (Different (means mid.book).held) (matrix_of kind (means mid.book).held)
    → fault kind (means old.book) call ≡ None → Turned means rewrites call old.book mid.book
    → Listed kind means mid new list list' work work' answer
    → Stepped kind means rewrites call old new list list' work work' (Ok answer)
listed_step {R} {B} kind means rewrites call old mid new list list' work work' answer lists is none turned listing =
    subst (λ (b : Bench B). Stepped kind means rewrites call old b list list' work work' (Ok answer)) (sym listing.bench)
    (subst (λ (a : ℕ × ℕ). Stepped kind means rewrites call old (noted answer) list list' work work' (Ok a)) (sym listing.answer)
    (stepped_accepted kind means rewrites call old (noted answer) list list' work work' lists is none turned
    (ap (λ (a : ℕ × ℕ). a.0) listing.answer) (ap (λ (a : ℕ × ℕ). a.1) listing.answer) listing.list_is listing.cleared))
  where
    noted : ℕ × ℕ → Bench B
    noted a = record { book = mid.book; count = a.0; over = a.1 }

-- ---- the ways out of a call

-- work memory that is not too short passes
pub roomy : (n : ℕ) → 2016 ≤ n → Ok tt ≡ passed (short_of n)
roomy n h = ap (λ (b : Bool). passed (when b Work)) (sym (le-ltb n 2016 h))

module _ {R B : Type 0} (kind : Kind R) (means : B → Meaning R) (rewrites : B → Change R → B → Type 0) where
  -- work memory that is too short is refused first, whatever is asked
  pub exit_short : (call : Call R) (b : Bench B) (list work : List ℕ) (r : Result (ℕ × ℕ) BenchFault) (f : BenchFault)
      → work_of call ≡ length work → Err f ≡ passed (short_of (length work)) → r ≡ Err f
      → Stepped kind means rewrites call b b list list work work r
  exit_short call b list work r f w short e =
      subst (Stepped kind means rewrites call b b list list work work) (sym e)
      (stepped_refused kind means rewrites call b list work f (first call (ap short_of w ∙ answered_err (short_of (length work)) f tt short)))
    where
      first : (c : Call R) → short_of (work_of c) ≡ Some f → fault kind (means b.book) c ≡ Some f
      first (shelve n) h = h
      first (change n c) h = ap (λ (o : Option BenchFault). or_else o (in_book (refused kind (means b.book) c))) h

  module _ (c : Change R) (old new : Bench B) (list list' work work' : List ℕ) (enough : Ok tt ≡ passed (short_of (length work))) where
    -- with work memory enough, the book's table decides
    by_book : (o : Option BookFault) → refused kind (means old.book) c ≡ o → fault kind (means old.book) (change (length work) c) ≡ in_book o
    by_book o e = ap (λ (s : Option BenchFault). or_else s (in_book (refused kind (means old.book) c))) (answered_ok (short_of (length work)) tt tt enough).0 ∙ ap in_book e

    -- a book that refuses is as it was, and so is all else
    pub exit_book : (changed : Result (Unit {0}) BookFault) (f : BookFault) → Changed kind means rewrites c old.book new.book changed → changed ≡ Err f
        → new ≡ record { book = new.book; count = old.count; over = old.over } → list' ≡ list → work' ≡ work
        → (r : Result (ℕ × ℕ) BenchFault) → r ≡ Err (InBook f)
        → Stepped kind means rewrites (change (length work) c) old new list list' work work' r
    exit_book changed f promise e same l w r h =
        subst (λ (b : Bench B). Stepped kind means rewrites (change (length work) c) old b list list' work work' r) (sym kept)
        (subst (λ (m : List ℕ). Stepped kind means rewrites (change (length work) c) old old list m work work' r) (sym l)
        (subst (λ (m : List ℕ). Stepped kind means rewrites (change (length work) c) old old list list work m r) (sym w)
        (subst (Stepped kind means rewrites (change (length work) c) old old list list work work) (sym h)
        (stepped_refused kind means rewrites (change (length work) c) old list work (InBook f) (by_book (Some f) found)))))
      where
        found : refused kind (means old.book) c ≡ Some f
        found = answered_err (refused kind (means old.book) c) f tt (sym e ∙ promise.answer)

        stays : new.book ≡ old.book
        stays = subst (Left means rewrites c old.book new.book) e promise.left

        kept : new ≡ old
        kept = same ∙ ap (λ (b : B). record { book = b; count = old.count; over = old.over }) stays

    -- a book that is changed has its plans listed
    pub exit_listed : (mid : Bench B) (changed : Result (Unit {0}) BookFault) (answer : ℕ × ℕ)
        → Lists (matrix_of kind (means mid.book).held) (plans_by kind (means mid.book))
        → IsMatrix kind (Different (means mid.book).held) (matrix_of kind (means mid.book).held)
        → Changed kind means rewrites c old.book mid.book changed → changed ≡ Ok tt
        → Listed kind means mid new list list' work work' answer
        → Stepped kind means rewrites (change (length work) c) old new list list' work work' (Ok answer)
    exit_listed mid changed answer lists is promise e listing =
        listed_step kind means rewrites (change (length work) c) old mid new list list' work work' answer lists is
        (by_book None (answered_ok (refused kind (means old.book) c) tt tt (sym e ∙ promise.answer)).0)
        (subst (Left means rewrites c old.book mid.book) e promise.left) listing

  -- shelving lists the plans of the book as it is
  pub exit_shelved : (old new : Bench B) (list list' work work' : List ℕ) (answer : ℕ × ℕ)
      → Lists (matrix_of kind (means old.book).held) (plans_by kind (means old.book))
      → IsMatrix kind (Different (means old.book).held) (matrix_of kind (means old.book).held)
      → Ok tt ≡ passed (short_of (length work)) → Listed kind means old new list list' work work' answer
      → Stepped kind means rewrites (shelve (length work)) old new list list' work work' (Ok answer)
  exit_shelved old new list list' work work' answer lists is enough listing =
      listed_step kind means rewrites (shelve (length work)) old old new list list' work work' answer lists is
      (answered_ok (short_of (length work)) tt tt enough).0 refl listing
