-- A layer hands down what its own table accepts: the book below then accepts it too.
use Rattle.std.specs.Prelude.{◌≡◌, ℕ, ◌+◌, Bool, true, false, cond, not, ◌&&◌, List, [], ◌∷◌, length, is_some, Some, None, Ok, Err, Option, Result, ◌==◌, ◌≢◌, nat_eq, refl}
use Rattle.books.specs.Changes.{Change, after, amend, amend_fault, closed_reading, enter, enter_arguments, enter_closed, enter_held, not_held, refused, withdraw}
use Rattle.books.specs.Meanings.{Meaning, is_part, is_test}
use Rattle.books.specs.Promises.{Changed, Left}
use Rattle.books.specs.Questions.{find}
use Rattle.books.specs.declared.faults.BookFault.TheVariants.{ClosedPart, ClosedTest, Full, Held, NoTag, NotHeld, Part, Readings, Test}
use Rattle.books.specs.declared.faults.BookFault.{BookFault}
use Rattle.readings.specs.Kinds.{Kind}
use Rattle.refusals.specs.Faults.{or_else, passed, when}
use Rattle.std.proofs.lemmas.Bool.{false≢true, not-false, not_from_true}
use Rattle.std.proofs.Common.{ap, sym, ◌∙◌}

-- ---- no fault

pub some_none : {X : Type 0} {x : X} → Some x ≢ None
some_none e = cc

err_ok : {X E : Type 0} {x : X} {fault : E} → Err fault ≢ Ok x
err_ok e = cc

-- neither of two faults is there
neither : {E : Type 0} (a b : Option E) → or_else a b ≡ None → (a ≡ None) × (b ≡ None)
neither None b h = (refl, h)
neither (Some e) b h = absurd (some_none h)

none_of : {E : Type 0} (a b : Option E) → a ≡ None → b ≡ None → or_else a b ≡ None
none_of None b p q = q
none_of (Some e) b p q = absurd (some_none p)

unless : {E : Type 0} (t : Bool) (fault : E) → when t fault ≡ None → t ≡ false
unless false fault h = refl
unless true fault h = absurd (some_none h)

not_when : {E : Type 0} (t : Bool) (fault : E) → t ≡ false → when t fault ≡ None
not_when t fault h = ap (λ (b : Bool). when b fault) h

-- ---- the lines of the table, taken apart

-- a record may be entered: by its arguments, by what is closed, by what is held
pub record Enters {R : Type 0} (kind : Kind R) (n : Meaning R) (tag part : ℕ) (readings : List R) : Type 0 where
  pub formed : enter_arguments n tag part readings ≡ None
  pub free : n.closed_part part ≡ false
  pub blank : closed_reading kind n.closed_test 1 readings ≡ None
  pub room : enter_held n tag ≡ None

-- a reading may be amended: the tag is one, the test is one and not closed, the tag is held
pub record Amends {R : Type 0} (n : Meaning R) (tag test : ℕ) : Type 0 where
  pub tagged : nat_eq tag 0 ≡ false
  pub within : is_test n.width test ≡ true
  pub free : n.closed_test test ≡ false
  pub present : not_held n tag ≡ None

module _ {R : Type 0} (kind : Kind R) (n : Meaning R) where
  pub enters : (tag part : ℕ) (readings : List R) → refused kind n (enter tag part readings) ≡ None → Enters kind n tag part readings
  enters tag part readings h =
      let p = neither (enter_arguments n tag part readings) (or_else (enter_closed kind n part readings) (enter_held n tag)) h in
      let q = neither (enter_closed kind n part readings) (enter_held n tag) p.1 in
      let s = neither (when (n.closed_part part) (ClosedPart part)) (closed_reading kind n.closed_test 1 readings) q.0 in
      record { formed = p.0; free = unless (n.closed_part part) (ClosedPart part) s.0; blank = s.1; room = q.1 }

  enters_none : (tag part : ℕ) (readings : List R) → Enters kind n tag part readings → refused kind n (enter tag part readings) ≡ None
  enters_none tag part readings e =
      let free = not_when (n.closed_part part) (ClosedPart part) e.free in
      let closed = none_of (when (n.closed_part part) (ClosedPart part)) (closed_reading kind n.closed_test 1 readings) free e.blank in
      none_of (enter_arguments n tag part readings) (or_else (enter_closed kind n part readings) (enter_held n tag)) e.formed
      (none_of (enter_closed kind n part readings) (enter_held n tag) closed e.room)

  pub amends : (tag test : ℕ) (r : R) → refused kind n (amend tag test r) ≡ None → Amends n tag test
  amends tag test r h =
      let outside = not (is_test n.width test) in
      let third = or_else (when (n.closed_test test) (ClosedTest test)) (not_held n tag) in
      let p = neither (when (tag == 0) NoTag) (or_else (when outside (Test test)) third) h in
      let q = neither (when outside (Test test)) third p.1 in
      let s = neither (when (n.closed_test test) (ClosedTest test)) (not_held n tag) q.1 in
      record {
        tagged = unless (tag == 0) NoTag p.0;
        within = not-false (is_test n.width test) (unless outside (Test test) q.0);
        free = unless (n.closed_test test) (ClosedTest test) s.0;
        present = s.1;
      }

  amends_none : (tag test : ℕ) → Amends n tag test → amend_fault n tag test ≡ None
  amends_none tag test a =
      let outside = not (is_test n.width test) in
      let third = or_else (when (n.closed_test test) (ClosedTest test)) (not_held n tag) in
      let free = not_when (n.closed_test test) (ClosedTest test) a.free in
      none_of (when (tag == 0) NoTag) (or_else (when outside (Test test)) third) (not_when (tag == 0) NoTag a.tagged)
      (none_of (when outside (Test test)) third (not_when outside (Test test) (not_from_true (is_test n.width test) a.within))
      (none_of (when (n.closed_test test) (ClosedTest test)) (not_held n tag) free a.present))

-- ---- a layer over a book

-- n shows the book m: as wide, with as much room, the same tags, and at least what m closes closed
pub record Over {R : Type 0} (n m : Meaning R) : Type 0 where
  pub wide : n.width ≡ m.width
  pub roomy : n.capacity ≡ m.capacity
  pub tests : (test : ℕ) → m.closed_test test ≡ true → n.closed_test test ≡ true
  pub parts : (part : ℕ) → m.closed_part part ≡ true → n.closed_part part ≡ true
  pub tags : (tag : ℕ) → is_some (find tag n.held) ≡ is_some (find tag m.held)
  pub count : length n.held ≡ length m.held

-- what is open above is open below
open_below : (above below : Bool) → (below ≡ true → above ≡ true) → above ≡ false → below ≡ false
open_below above true f h = sym (f refl) ∙ h
open_below above false f h = refl

-- readings that pass above pass below
closed_down : {R : Type 0} (kind : Kind R) (above below : ℕ → Bool) → ((test : ℕ) → below test ≡ true → above test ≡ true)
    → (test : ℕ) (xs : List R) → closed_reading kind above test xs ≡ None → closed_reading kind below test xs ≡ None
unfolding closed_reading
closed_down kind above below f test [] h = refl
closed_down {R = R} kind above below f test (x ∷ xs) h =
    go (above test) (below test) (kind.is_blank x) (f test) (closed_reading kind above (test + 1) xs) _ h
    (closed_down kind above below f (test + 1) xs)
  where
    go : (a b c : Bool) → (b ≡ true → a ≡ true) → (o p : Option BookFault)
        → cond (a && not c) (Some (ClosedTest test)) o ≡ None → (o ≡ None → p ≡ None) → cond (b && not c) (Some (ClosedTest test)) p ≡ None
    go true false true k o p z rest = rest z
    go true false false k o p z rest = absurd (some_none z)
    go true true true k o p z rest = rest z
    go true true false k o p z rest = absurd (some_none z)
    go false false c k o p z rest = rest z
    go false true c k o p z rest = absurd (false≢true (k refl))

module _ {R : Type 0} (kind : Kind R) (n m : Meaning R) (over : Over n m) where
  formed_down : (tag part : ℕ) (readings : List R) → enter_arguments n tag part readings ≡ None → enter_arguments m tag part readings ≡ None
  formed_down tag part readings h =
      ap
      (λ (w : ℕ). or_else (when (tag == 0) NoTag)
      (or_else (when (not (is_part part)) (Part part)) (when (not (length readings == w)) Readings))) (sym over.wide)
      ∙ h

  absent_down : (tag : ℕ) → not_held n tag ≡ None → not_held m tag ≡ None
  absent_down tag h = ap (λ (b : Bool). when (not b) (NotHeld tag)) (sym (over.tags tag)) ∙ h

  room_down : (tag : ℕ) → enter_held n tag ≡ None → enter_held m tag ≡ None
  room_down tag h =
      ap (λ (b : Bool). or_else (when b (Held tag)) (when (length m.held == m.capacity) Full)) (sym (over.tags tag))
      ∙ ap (λ (k : ℕ). or_else (when (is_some (find tag n.held)) (Held tag)) (when (k == m.capacity) Full)) (sym over.count)
      ∙ ap (λ (k : ℕ). or_else (when (is_some (find tag n.held)) (Held tag)) (when (length n.held == k) Full)) (sym over.roomy)
      ∙ h

  refused_down : (change : Change R) → refused kind n change ≡ None → refused kind m change ≡ None
  refused_down (enter tag part readings) h =
      let e = enters kind n tag part readings h in
      enters_none kind m tag part readings (record {
        formed = formed_down tag part readings e.formed;
        free = open_below (n.closed_part part) (m.closed_part part) (over.parts part) e.free;
        blank = closed_down kind n.closed_test m.closed_test over.tests 1 readings e.blank;
        room = room_down tag e.room;
      })
  refused_down (withdraw tag) h =
      let p = neither (when (tag == 0) NoTag) (not_held n tag) h in
      none_of (when (tag == 0) NoTag) (not_held m tag) p.0 (absent_down tag p.1)
  refused_down (amend tag test r) h =
      let a = amends kind n tag test r h in
      amends_none kind m tag test (record {
        tagged = a.tagged;
        within = ap (λ (w : ℕ). is_test w test) (sym over.wide) ∙ a.within;
        free = open_below (n.closed_test test) (m.closed_test test) (over.tests test) a.free;
        present = absent_down tag a.present;
      })

-- what the layer's table accepts is accepted below, and what is left below is left as the layer says
pub changed_up : {R B L : Type 0} (kind : Kind R) (means : B → Meaning R) (rewrites : B → Change R → B → Type 0)
    (shown : L → Meaning R) (layered : L → Change R → L → Type 0) (change : Change R)
    (old new : B) (before later : L) (r : Result (Unit {0}) BookFault)
    → Over (shown before) (means old) → refused kind (shown before) change ≡ None → Changed kind means rewrites change old new r
    → (means new ≡ after (means old) change → shown later ≡ after (shown before) change)
    → (rewrites old change new → layered before change later)
    → Changed kind shown layered change before later r
changed_up kind means rewrites shown layered change old new before later r over none done meant written =
    go r (done.answer ∙ ap passed (refused_down kind (shown before) (means old) over change none)) done.left
  where
    go : (q : Result (Unit {0}) BookFault) → q ≡ Ok tt → Left means rewrites change old new q
        → Changed kind shown layered change before later q
    go (Ok u) e left = record { answer = e ∙ sym (ap passed none); left = (meant left.0, written left.1) }
    go (Err fault) e left = absurd (err_ok e)
