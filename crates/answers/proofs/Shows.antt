-- How a function's returns meet its call: what a proof shows of the tests is linear, so that `omega` proves it from the tests that the code
-- passed. Assumes nothing.
use mathlib.Core.Path.{◌≡◌, refl, sym, ap, ap₂, subst, ◌∙◌}
use mathlib.Core.Bool.{Bool, true, false, not, ◌&&◌, ◌||◌, true≢false, false≢true}
use mathlib.Core.List.{List, [], ◌∷◌}
use Prim.Native.Nat.{ℕ}
use native.Mathlib.Omega.{arith}
use borrow.Author.Tests.{ltb-true, ltb-false, lt-ltb, le-ltb, leb-true, leb-false, le-leb, lt-leb, eqb-true, eqb-false, eq-eqb, ne_eqb, not-true, not-false}
use Rattle.laws.specs.Choice.{◌=?◌}
use Rattle.std.specs.Prelude.{Ok, Err}
use Rattle.answers.specs.Refusals.{Answer, given, refusal, number_of, detail_of, told, after, Verdict}
use Rattle.answers.specs.Tests.{Test, over, under, reaches, is, differs, either, both, unless, somewhere, Says, holds, first_of}
use Rattle.answers.specs.Calls.{Line, ◌then◌, first, Call, answer}
use Rattle.answers.specs.Right.{If, Denies, choose, Right, Refuses, Accepts, Given, Passes, Told}
use Rattle.answers.specs.Promised.{Meets, Replies, Judges, Tells}
use Rattle.answers.specs.declared.Refusal.{Refusal}
use Rattle.answers.proofs.Words.{says, first_before, first_none}

or_false : (s : Bool) {t : Bool} → (s || t) ≡ false → (s ≡ false) × (t ≡ false)
or_false true e = absurd (false≢true (sym e))
or_false false e = (refl, e)

and_true : (s : Bool) {t : Bool} → (s && t) ≡ true → (s ≡ true) × (t ≡ true)
and_true true e = (refl, e)
and_true false e = absurd (false≢true e)

or_right : (s : Bool) {t : Bool} → t ≡ true → (s || t) ≡ true
or_right true e = refl
or_right false e = e

and_right : (s : Bool) {t : Bool} → t ≡ false → (s && t) ≡ false
and_right true e = e
and_right false e = refl

cases : {Q : Type 0} (s : Bool) → (s ≡ true → Q) → (s ≡ false → Q) → Q
cases true h g = h refl
cases false h g = g refl

one_of : {s : Bool} {Q : Type 0} → s ≡ true → s ≡ false → Q
one_of e f = absurd (false≢true (sym f ∙ e))

if_so : (b : Bool) (t : Test) {Q : Type 0} → If b t Q → holds t ≡ b → Q
if_so true (over x most) h e = h (ltb-true most x e)
if_so false (over x most) h e = h (ltb-false most x e)
if_so true (under x least) h e = h (ltb-true x least e)
if_so false (under x least) h e = h (ltb-false x least e)
if_so true (reaches x limit) h e = h (leb-true limit x e)
if_so false (reaches x limit) h e = h (leb-false limit x e)
if_so true (is x y) h e = h (eqb-true x y e)
if_so false (is x y) h e = h (eqb-false x y e)
if_so true (differs x y) h e = h (eqb-false x y (not-true (x =? y) e))
if_so false (differs x y) h e = h (eqb-true x y (not-false (x =? y) e))
if_so true (either t u) h e = cases (holds t) (if_so true t h.0) (λ f. if_so true u h.1 (sym (ap (λ (s : Bool). s || holds u) f) ∙ e))
if_so false (either t u) h e = let s = or_false (holds t) e in if_so false u (if_so false t h s.0) s.1
if_so true (both t u) h e = let s = and_true (holds t) e in if_so true u (if_so true t h s.0) s.1
if_so false (both t u) h e = cases (holds t) (λ f. if_so false u h.1 (sym (ap (λ (s : Bool). s && holds u) f) ∙ e)) (if_so false t h.0)
if_so true (unless t) h e = if_so false t h (not-true (holds t) e)
if_so false (unless t) h e = if_so true t h (not-false (holds t) e)
if_so true (somewhere n t) h e = h (ltb-true (first_of n t) n e)
if_so false (somewhere n t) h e = h (ltb-false (first_of n t) n e)

-- what shows that a test holds, or does not: from the contrary, nothing
abbrev pub Shows : Bool → Test → Type 0
Shows b t = If (not b) t ⊥

pub shows : (b : Bool) (t : Test) → Shows b t → holds t ≡ b
shows true t h = cases {Q = holds t ≡ true} (holds t) (λ e. e) (λ e. absurd (if_so false t h e))
shows false t h = cases {Q = holds t ≡ false} (holds t) (λ e. absurd (if_so true t h e)) (λ e. e)

-- and the other way round, for a test that a function told
if_from : (b : Bool) (t : Test) {Q : Type 0} → (holds t ≡ b → Q) → If b t Q
if_from true (over x most) h = λ l. h (lt-ltb most x l)
if_from false (over x most) h = λ l. h (le-ltb most x l)
if_from true (under x least) h = λ l. h (lt-ltb x least l)
if_from false (under x least) h = λ l. h (le-ltb x least l)
if_from true (reaches x limit) h = λ l. h (le-leb limit x l)
if_from false (reaches x limit) h = λ l. h (lt-leb limit x l)
if_from true (is x y) h = λ e. h (eq-eqb x y e)
if_from false (is x y) h = λ n. h (ne_eqb x y n)
if_from true (differs x y) h = λ n. h (ap not (ne_eqb x y n))
if_from false (differs x y) h = λ e. h (ap not (eq-eqb x y e))
if_from true (either t u) h = (if_from true t (λ e. h (ap (λ (s : Bool). s || holds u) e)), if_from true u (λ e. h (or_right (holds t) e)))
if_from false (either t u) h = if_from false t (λ e. if_from false u (λ g. h (ap₂ ◌||◌ e g)))
if_from true (both t u) h = if_from true t (λ e. if_from true u (λ g. h (ap₂ ◌&&◌ e g)))
if_from false (both t u) h = (if_from false t (λ e. h (ap (λ (s : Bool). s && holds u) e)), if_from false u (λ e. h (and_right (holds t) e)))
if_from true (unless t) h = if_from false t (λ e. h (ap not e))
if_from false (unless t) h = if_from true t (λ e. h (ap not e))
if_from true (somewhere n t) h = λ l. h (lt-ltb (first_of n t) n l)
if_from false (somewhere n t) h = λ l. h (le-ltb (first_of n t) n l)

module _ {t : Test} {b : Bool} where
  -- what a function that tests returned, as its caller shows it
  pub held : Tells t b → b ≡ true → Shows true t
  held r e = subst (λ (b : Bool). Told t b) e r.bool_right

  pub failed : Tells t b → b ≡ false → Shows false t
  failed r e = subst (λ (b : Bool). Told t b) e r.bool_right

  pub tells_is : Tells t b → b ≡ holds t
  tells_is r = cases b (λ e. e ∙ sym (shows true t (held r e))) (λ e. e ∙ sym (shows false t (failed r e)))

pub tells : (t : Test) (b : Bool) → b ≡ holds t → Tells t b
tells t true e = record { bool_right = if_from false t (λ f. true≢false (e ∙ f)) }
tells t false e = record { bool_right = if_from true t (λ f. false≢true (e ∙ f)) }

-- one of two tests, by the first where it held, and else by the second; and the second of two, where the first says so
module _ {t u : Test} where
  pub one_held : {a : Bool} → Tells t a → a ≡ true → Tells (either t u) true
  one_held r e = tells (either t u) true (sym (ap (λ (s : Bool). s || holds u) (sym (tells_is r) ∙ e)))

  pub other_tells : {a b : Bool} → Tells t a → a ≡ false → Tells u b → Tells (either t u) b
  other_tells {a} {b} r e q = tells (either t u) b (tells_is q ∙ sym (ap (λ (s : Bool). s || holds u) (sym (tells_is r) ∙ e)))

  pub also_tells : {b : Bool} → Says t → Tells u b → Tells (both t u) b
  also_tells {b} p q = tells (both t u) b (tells_is q ∙ sym (ap (λ (s : Bool). s && holds u) ((says t).1 p)))

-- what a test says, as it came out
pub denied : (t : Test) → holds t ≡ false → Denies t
denied (over x most) e = ltb-false most x e
denied (under x least) e = ltb-false x least e
denied (reaches x limit) e = leb-false limit x e
denied (is x y) e = eqb-false x y e
denied (differs x y) e = eqb-true x y (not-false (x =? y) e)
denied (either t u) e = let s = or_false (holds t) e in (denied t s.0, denied u s.1)
denied (both t u) e = λ p. denied u (sym (ap (λ (s : Bool). s && holds u) ((says t).1 p)) ∙ e)
denied (unless t) e = (says t).0 (not-false (holds t) e)
denied (somewhere n t) e = λ i l. denied (t i) (first_before n (λ k. holds (t k)) i (omega (arith, ltb-false (first_of n t) n e)))

-- and where it is denied, it does not hold
pub deny : (t : Test) → Denies t → holds t ≡ false
deny (over x most) d = le-ltb most x d
deny (under x least) d = le-ltb x least d
deny (reaches x limit) d = lt-leb limit x d
deny (is x y) d = ne_eqb x y d
deny (differs x y) d = ap not (eq-eqb x y d)
deny (either t u) d = ap₂ ◌||◌ (deny t d.0) (deny u d.1)
deny (both t u) d = cases (holds t) (λ e. ap₂ ◌&&◌ e (deny u (d ((says t).0 e)))) (λ e. ap (λ (s : Bool). s && holds u) e)
deny (unless t) d = ap not ((says t).1 d)
deny (somewhere n t) d = le-ltb (first_of n t) n (omega (arith, first_none n (λ k. holds (t k)) (λ j l. deny (t j) (d j l))))

module _ {X : Type 0} where
  pub never : {n d : ℕ} {x : X} → refusal n d ≡ given x → ⊥
  never {n} {d} {x} e = let z : ◌≡◌ {A = ℕ} 0 1 = cc in omega arith

  -- An answer is right exactly when it is the first refusal that applies, or what is given where none does.
  refusal_first : (ls : List Line) (x : X) (n d : ℕ) → Refuses ls n d → refusal n d ≡ first ls x
  refusal_first [] x n d r = absurd r
  refusal_first (l ∷ ls) x n d r = step (refusal_first ls x n d) (l.number =? n) refl r
    where
      step : (Refuses ls n d → refusal n d ≡ first ls x) → (b : Bool) → (l.number =? n) ≡ b
          → choose b (If true l.test (l.detail ≡ d) × If false l.test (Refuses ls n d)) (If true l.test ⊥ × Refuses ls n d)
          → refusal n d ≡ first (l ∷ ls) x
      step rec true e r =
          cases (holds l.test) (λ h. rw (h, eqb-true l.number n e, if_so true l.test r.0 h) refl)
          (λ h. rw h (rec (if_so false l.test r.1 h)))
      step rec false e r = rw (shows false l.test r.0) (rec r.1)

  given_first : (ls : List Line) (x : X) → Accepts ls → given x ≡ first ls x
  given_first [] x r = refl
  given_first (l ∷ ls) x r = rw (shows false l.test r.0) (given_first ls x r.1)

  pub to_first : (ls : List Line) (x : X) (q : Answer X) → Right ls q → Given q x → q ≡ first ls x
  to_first ls x (given y) r g = ap given g ∙ given_first ls x r
  to_first ls x (refusal n d) r g = refusal_first ls x n d r

  first_refusal : (ls : List Line) (x : X) (n d : ℕ) → refusal n d ≡ first ls x → Refuses ls n d
  first_refusal [] x n d e = absurd (never e)
  first_refusal (l ∷ ls) x n d e = step (first_refusal ls x n d) (l.number =? n) refl
    where
      same : holds l.test ≡ true → (n ≡ l.number) × (d ≡ l.detail)
      same h = let f : ◌≡◌ {A = Answer X} (refusal n d) (refusal l.number l.detail) = rw h at e in (cc, cc)

      step : (refusal n d ≡ first ls x → Refuses ls n d) → (b : Bool) → (l.number =? n) ≡ b
          → choose b (If true l.test (l.detail ≡ d) × If false l.test (Refuses ls n d)) (If true l.test ⊥ × Refuses ls n d)
      step rec true f = (if_from true l.test (λ h. sym (same h).1), if_from false l.test (λ h. rec (rw h at e)))
      step rec false f =
          let other : holds l.test ≡ true → ⊥ = λ h. eqb-false l.number n f (sym (same h).0) in
          (if_from true l.test other, cases (holds l.test) (λ h. absurd (other h)) (λ h. rec (rw h at e)))

  first_given : (ls : List Line) (x : X) {y : X} → given y ≡ first ls x → Accepts ls
  first_given [] x e = tt
  first_given (l ∷ ls) x e = (
    if_from true l.test (λ h. never (sym (rw h at e))),
    cases (holds l.test) (λ h. absurd (never (sym (rw h at e)))) (λ h. first_given ls x (rw h at e)),
  )

  pub from_first : (ls : List Line) (x : X) (q : Answer X) → q ≡ first ls x → Right ls q
  from_first ls x (given y) e = first_given ls x e
  from_first ls x (refusal n d) e = first_refusal ls x n d e

-- what was accepted passed every line
pub passed : (ls : List Line) → Accepts ls → Passes ls
passed [] r = tt
passed (l ∷ ls) r = (denied l.test (shows false l.test r.0), passed ls r.1)

given_told : (v : Verdict) → Given (told v) tt
given_told (Ok tt) = refl
given_told (Err f) = tt

-- a right verdict is the first refusal that applies, as an equation
pub told_is : (ls : List Line) (v : Verdict) → Right ls (told v) → told v ≡ first ls tt
told_is ls v r = to_first ls tt (told v) r (given_told v)

module _ {refusals : List Line} {verdict : Verdict} where
  pub judge_is : Judges refusals verdict → told verdict ≡ first refusals tt
  judge_is j = told_is refusals verdict j.verdict_right

  pub admitted : Judges refusals verdict → verdict ≡ (Ok tt) → Passes refusals
  admitted j e = passed refusals (subst (λ (v : Verdict). Right refusals (told v)) e j.verdict_right)

-- A line whose test another function made: it held, and refuses, or it failed, and the rest decides.
module _ {l : Line} {ls : List Line} where
  pub stops : {f : Refusal} → Shows true l.test → l.number ≡ number_of f → l.detail ≡ detail_of f
      → Judges (l ∷ ls) (Err f)
  stops {f} h n d = record { verdict_right = from_first (l ∷ ls) (tt {0}) (told {X = Unit {0}} (Err f)) (rw (shows true l.test h, n, d) refl) }

  pub skips : {verdict : Verdict} → Shows false l.test → Judges ls verdict → Judges (l ∷ ls) verdict
  skips {verdict} h j = record { verdict_right = from_first (l ∷ ls) tt (told verdict) (rw (shows false l.test h) (judge_is j)) }

-- Lines that another function judged, before the rest: its refusal stands, and where it accepted, the rest decides.
pub handed_on : {X Y : Type 0} (ls rest : List Line) (x : X) (y : Y) (n d : ℕ) → refusal n d ≡ first ls x
    → refusal n d ≡ first (ls then rest) y
handed_on [] rest x y n d e = absurd (never e)
handed_on (l ∷ ls) rest x y n d e =
    cases (holds l.test) (λ h. rw h (again (rw h at e))) (λ h. rw h (handed_on ls rest x y n d (rw h at e)))
  where
    again : {X Y : Type 0} {m c n d : ℕ} → ◌≡◌ {A = Answer X} (refusal n d) (refusal m c)
        → ◌≡◌ {A = Answer Y} (refusal n d) (refusal m c)
    again {X} {Y} {m} {c} {n} {d} e =
        let a : n ≡ m = cc in
        let b : d ≡ c = cc in
        ap₂ refusal a b

pub went_on : {X Y : Type 0} (ls rest : List Line) (x : X) (y : Y) {z : X} (q : Answer Y) → given z ≡ first ls x
    → q ≡ first rest y → q ≡ first (ls then rest) y
went_on [] rest x y q e r = r
went_on (l ∷ ls) rest x y q e r =
    cases (holds l.test) (λ h. absurd (never (sym (rw h at e)))) (λ h. rw h (went_on ls rest x y q (rw h at e) r))

-- What was given passed every line; what passes every line is given; and lines that are passed leave the answer to the rest.
module _ {X : Type 0} where
  pub passes : (ls : List Line) (x : X) {y : X} → first ls x ≡ given y → Passes ls
  passes [] x e = tt
  passes (l ∷ ls) x e =
      cases (holds l.test) (λ h. absurd (never (rw h at e))) (λ h. (denied l.test h, passes ls x (rw h at e)))

  pub passing : (ls : List Line) (x : X) → Passes ls → first ls x ≡ given x
  passing [] x p = refl
  passing (l ∷ ls) x p = rw (deny l.test p.0) (passing ls x p.1)

  pub goes_on : (ls rest : List Line) (x : X) → Passes ls → first (ls then rest) x ≡ first rest x
  goes_on [] rest x p = refl
  goes_on (l ∷ ls) rest x p = rw (deny l.test p.0) (goes_on ls rest x p.1)

  pub came_on : (ls rest : List Line) (x : X) {y : X} → first (ls then rest) x ≡ given y
      → Passes ls × (first rest x ≡ given y)
  came_on [] rest x e = (tt, e)
  came_on (l ∷ ls) rest x {y} e = cases (holds l.test) (λ h. absurd (never (rw h at e))) (λ h. on h (came_on ls rest x (rw h at e)))
    where
      on : holds l.test ≡ false → Passes ls × (first rest x ≡ given y) → Passes (l ∷ ls) × (first rest x ≡ given y)
      on h r = ((denied l.test h, r.0), r.1)

-- What shows a test, by what it says where it does not hold.
pub shown : (t : Test) → ¬ Denies t → Shows true t
shown t h = if_from false t (λ e. h (denied t e))

pub hidden : (t : Test) → Denies t → Shows false t
hidden t d = if_from true t (λ e. one_of e (deny t d))

-- Two judges, one after the other: the first one's refusal stands, and where it accepts, the second one decides. Where there are no lines more, it is
-- accepted.
pub accepts : {verdict : Verdict} → verdict ≡ (Ok tt) → Judges [] verdict
accepts {verdict} e = record { verdict_right = from_first [] tt (told verdict) (ap told e) }

module _ {ls : List Line} {verdict : Verdict} where
  pub stands : {f : Refusal} (rest : List Line) → Judges ls verdict → verdict ≡ Err f
      → Judges (ls then rest) verdict
  stands {f} rest j e = record {
    verdict_right = from_first (ls then rest) tt (told verdict) (ap told e ∙ handed_on ls rest tt tt (number_of f) (detail_of f) (sym (ap told e) ∙ judge_is j));
  }

  pub not_passed : {f : Refusal} → Judges ls verdict → verdict ≡ Err f → ¬ Passes ls
  not_passed j e p = never (sym (ap told e) ∙ judge_is j ∙ passing ls tt p)

  module _ (j : Judges ls verdict) (e : verdict ≡ (Ok tt)) where
    pub continues : {rest : List Line} {last : Verdict} → Judges rest last → Judges (ls then rest) last
    continues {rest} {last} k = record { verdict_right = from_first (ls then rest) tt (told last) (judge_is k ∙ sym (goes_on ls rest tt (admitted j e))) }

    -- and so of a whole call
    pub called_on : {X : Type 0} {call : Call X} {old left : X} {last : Verdict} → Meets call old last left
        → Meets (record { refusals = ls then call.refusals; gives = call.gives }) old last left
    called_on {X} {call} {old} {left} {last} m = record { verdict_right = (continues {rest = call.refusals} {last = last} (record { verdict_right = m.verdict_right })).verdict_right; left_is = m.left_is }

-- A call that was judged first: where the judge admits, the work is done, and where it rejects, nothing is.
module _ {X : Type 0} {call : Call X} {old : X} {verdict : Verdict} where
  pub worked : {left : X} → Judges call.refusals verdict → verdict ≡ (Ok tt) → left ≡ call.gives
      → Meets call old verdict left
  worked j e l = record { verdict_right = j.verdict_right; left_is = l ∙ sym (ap (λ (v : Verdict). after (told v) call.gives old) e) }

  pub kept : {f : Refusal} → Judges call.refusals verdict → verdict ≡ Err f → Meets call old verdict old
  kept j e = record { verdict_right = j.verdict_right; left_is = sym (ap (λ (v : Verdict). after (told v) call.gives old) e) }

  -- a call whose judgement and whose leavings are known as equations
  pub meets : {left : X} → told verdict ≡ first call.refusals tt → left ≡ after (told verdict) call.gives old
      → Meets call old verdict left
  meets e l = record { verdict_right = from_first call.refusals tt (told verdict) e; left_is = l }

-- A call that gives something back, its answer known as an equation.
module _ {X : Type 0} where
  pub first_gives : (ls : List Line) (x : X) {y : X} → given y ≡ first ls x → y ≡ x
  first_gives [] x e = cc
  first_gives (l ∷ ls) x e = cases (holds l.test) (λ h. absurd (never (sym (rw h at e)))) (λ h. first_gives ls x (rw h at e))

  gives_it : (ls : List Line) (x : X) (q : Answer X) → q ≡ first ls x → Given q x
  gives_it ls x (given y) e = first_gives ls x e
  gives_it ls x (refusal n d) e = tt

  pub replies : {call : Call X} {reply : Answer X} → reply ≡ answer call → Replies call reply
  replies {call} {reply} e = record { reply_right = from_first call.refusals call.gives reply e; reply_is = gives_it call.refusals call.gives reply e }
