-- Demand 1, once for every call. Assumes nothing.
use Rattle.std.proofs.Common.{if◌then◌else◌}
use mathlib.Core.Path.{◌≡◌, refl, sym, ap, ap₂, subst, ◌∙◌}
use mathlib.Core.Bool.{Bool, true, false, not, ◌&&◌, false≢true}
use mathlib.Core.Logic.{◌↔◌, ◌⊎◌, inl, inr}
use mathlib.Core.List.{List, [], ◌∷◌}
use Prim.Native.Nat.{ℕ}
use lib.Dec.{T, T_not, eqb_refl}
use Rattle.laws.specs.Choice.{◌=?◌}
use Rattle.laws.proofs.Every.{left, right}
use Rattle.answers.specs.Tests.{holds}
use Rattle.std.specs.Prelude.{Ok, Err}
use Rattle.answers.specs.Refusals.{Answer, given, refusal, told, after, Verdict}
use Rattle.answers.specs.Calls.{Line, ◌then◌, first, Call, answer, judgement, left_by, Gives, NoneSays}
use Rattle.answers.specs.Right.{Passes}
use Rattle.answers.specs.Promised.{Meets, Replies, Coded}
use Rattle.answers.specs.declared.Refusal.{Refusal}
use Rattle.answers.proofs.Refusals.{one_verdict}
use Rattle.answers.proofs.Words.{says, says_not}
use Rattle.answers.proofs.Shows.{never, to_first, told_is, denied, deny, admitted, passing}

-- one line before the rest
module _ {X : Type 0} {P G : Type 0} (m c n d : ℕ) (rest : Answer X) where
  pub line_refused : (t : Bool) → (t ≡ true) ↔ P → (rest ≡ refusal n d) ↔ G
      → ((if t then refusal m c else rest) ≡ refusal n d) ↔ ((P × (m ≡ n) × (c ≡ d)) ⊎ ((¬ P) × G))
  line_refused true h g = (there, back)
    where
      there : ◌≡◌ {A = Answer X} (refusal m c) (refusal n d) → (P × (m ≡ n) × (c ≡ d)) ⊎ ((¬ P) × G)
      there e = inl (h.0 refl, cc, cc)

      back : (P × (m ≡ n) × (c ≡ d)) ⊎ ((¬ P) × G) → ◌≡◌ {A = Answer X} (refusal m c) (refusal n d)
      back (inl x) = ap₂ refusal x.1 x.2
      back (inr x) = absurd (x.0 (h.0 refl))
  line_refused false h g = (λ e. inr (λ p. false≢true (h.1 p), g.0 e), back)
    where
      back : (P × (m ≡ n) × (c ≡ d)) ⊎ ((¬ P) × G) → rest ≡ refusal n d
      back (inl x) = absurd (false≢true (h.1 x.0))
      back (inr x) = g.1 x.1

module _ {X : Type 0} {P G : Type 0} (m c : ℕ) (x : X) (rest : Answer X) where
  pub line_given : (t : Bool) → (t ≡ true) ↔ P → (rest ≡ given x) ↔ G
      → ((if t then refusal m c else rest) ≡ given x) ↔ ((¬ P) × G)
  line_given true h g = (λ e. absurd (never e), λ z. absurd (z.0 (h.0 refl)))
  line_given false h g = (λ e. (λ p. false≢true (h.1 p), g.0 e), λ z. g.1 z.1)

module _ {X : Type 0} (x : X) where
  refused_by : (ls : List Line) (n d : ℕ) → (first ls x ≡ refusal n d) ↔ Gives ls n d
  refused_by [] n d = (λ e. never (sym e), λ z. absurd z)
  refused_by (l ∷ ls) n d = line_refused l.number l.detail n d (first ls x) (holds l.test) (says l.test) (refused_by ls n d)

  given_by : (ls : List Line) → (first ls x ≡ given x) ↔ NoneSays ls
  given_by [] = (λ e. tt, λ z. refl)
  given_by (l ∷ ls) = line_given l.number l.detail x (first ls x) (holds l.test) (says l.test) (given_by ls)

-- no line has this number
abbrev pub lacks : (n : ℕ) → List Line → Bool
lacks n [] = true
lacks n (l ∷ ls) = not (l.number =? n) && lacks n ls

-- After lines of other numbers, a number is given exactly when these are passed and the rest gives it.
module _ (rest : List Line) (n d : ℕ) where
  line_after : (l : Line) (ls : List Line) → T (not (l.number =? n)) → Gives (ls then rest) n d ↔ (Passes ls × Gives rest n d)
      → Gives (l ∷ (ls then rest)) n d ↔ (Passes (l ∷ ls) × Gives rest n d)
  line_after l ls h later = (there, λ g. inr ((says_not l.test).0 (deny l.test g.0.0), later.1 (g.0.1, g.1)))
    where
      there : Gives (l ∷ (ls then rest)) n d → Passes (l ∷ ls) × Gives rest n d
      there (inl x) = absurd (T_not (l.number =? n) h (subst (λ (k : ℕ). T (l.number =? k)) x.1 (eqb_refl l.number)))
      there (inr x) = let g = later.0 x.1 in ((denied l.test ((says_not l.test).1 x.0), g.0), g.1)

  pub gives_after : (ls : List Line) → T (lacks n ls) → Gives (ls then rest) n d ↔ (Passes ls × Gives rest n d)
  gives_after [] h = (λ g. (tt, g), λ g. g.1)
  gives_after (l ∷ ls) h = line_after l ls (left (not (l.number =? n)) (lacks n ls) h) (gives_after ls (right (not (l.number =? n)) (lacks n ls) h))

module _ {X : Type 0} (call : Call X) where
  -- A call is refused with a number and a detail exactly when the first of its lines that says so has them,
  pub refused_when : (n d : ℕ) → (answer call ≡ refusal n d) ↔ Gives call.refusals n d
  refused_when = refused_by call.gives call.refusals

  -- and gives what it defines exactly when none says so.
  pub given_when : (answer call ≡ given call.gives) ↔ NoneSays call.refusals
  given_when = given_by call.gives call.refusals

module _ {X : Type 0} {call : Call X} {old : X} {verdict : Verdict} {left : X} (m : Meets call old verdict left) where
  -- Whatever meets a call tells its judgement, and leaves what it leaves.
  pub verdict_is : told verdict ≡ judgement call
  verdict_is = told_is call.refusals verdict m.verdict_right

  pub leaves : left ≡ left_by call old
  leaves = m.left_is ∙ ap (λ (q : Answer (Unit {0})). after q call.gives old) verdict_is

  -- It is refused with a number and a detail exactly when the first line that says so has them,
  pub verdict_refused_when : (n d : ℕ) → (told verdict ≡ refusal n d) ↔ Gives call.refusals n d
  verdict_refused_when n d = (λ e. (refused_by tt call.refusals n d).0 (sym verdict_is ∙ e), λ g. verdict_is ∙ (refused_by tt call.refusals n d).1 g)

  -- and accepted exactly when none says so.
  pub accepted_when : (verdict ≡ (Ok tt)) ↔ NoneSays call.refusals
  accepted_when = (
    λ e. (given_by tt call.refusals).0 (sym verdict_is ∙ ap told e),
    λ g. one_verdict verdict (Ok tt) (given tt) (verdict_is ∙ (given_by tt call.refusals).1 g) refl,
  )

  -- In other words: exactly when every line is passed.
  pub accepted_passing : (verdict ≡ (Ok tt)) ↔ Passes call.refusals
  accepted_passing = (
    admitted (record { verdict_right = m.verdict_right }),
    λ p. one_verdict verdict (Ok tt) (given tt) (verdict_is ∙ passing call.refusals tt p) refl,
  )

  -- A refused one leaves what was there,
  pub refused_leaves : {f : Refusal} → verdict ≡ Err f → left ≡ old
  refused_leaves e = m.left_is ∙ ap (λ (v : Verdict). after (told v) call.gives old) e

  -- and an accepted one leaves what the definitions make.
  pub accepted_leaves : verdict ≡ (Ok tt) → left ≡ call.gives
  accepted_leaves e = m.left_is ∙ ap (λ (v : Verdict). after (told v) call.gives old) e

module _ {X : Type 0} {call : Call X} where
  -- A reply is the answer.
  pub reply_is : {reply : Answer X} → Replies call reply → reply ≡ answer call
  reply_is {reply} r = to_first call.refusals call.gives reply r.reply_right r.reply_is

  -- It is refused with a number and a detail exactly when the first line that says so has them, and given exactly when none says so.
  module _ {reply : Answer X} (r : Replies call reply) where
    pub reply_refused_when : (n d : ℕ) → (reply ≡ refusal n d) ↔ Gives call.refusals n d
    reply_refused_when n d = (λ e. (refused_when call n d).0 (sym (reply_is r) ∙ e), λ g. reply_is r ∙ (refused_when call n d).1 g)

    pub reply_given_when : (reply ≡ given call.gives) ↔ NoneSays call.refusals
    reply_given_when = (λ e. (given_when call).0 (sym (reply_is r) ∙ e), λ g. reply_is r ∙ (given_when call).1 g)

  -- Two that meet a contract are equal: of a call that gives something back,
  pub no_second_reply : {a b : Answer X} → Replies call a → Replies call b → a ≡ b
  no_second_reply m n = reply_is m ∙ sym (reply_is n)

  -- of one that leaves something,
  module _ {old : X} where
    pub no_second : {a b : Verdict} {x y : X} → Meets call old a x → Meets call old b y → (a ≡ b) × (x ≡ y)
    no_second {a} {b} m n = (one_verdict a b (judgement call) (verdict_is m) (verdict_is n), leaves m ∙ sym (leaves n))

    -- and in C, of the word and the buffer.
    pub no_second_code : {a b : ℕ} {x y : X} → Coded call old a x → Coded call old b y → (a ≡ b) × (x ≡ y)
    no_second_code m n = (m.code_is ∙ sym n.code_is, m.left_is ∙ sym n.left_is)
