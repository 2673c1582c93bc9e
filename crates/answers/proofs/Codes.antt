-- The C interface: the word of a call is that of its judgement, and what is left is what the call leaves. Assumes nothing.
use mathlib.Core.Path.{◌≡◌, refl, sym, ap, subst, ◌∙◌}
use Prim.Native.Nat.{ℕ, ◌+◌, ◌*◌, ◌^◌}
use Rattle.answers.specs.Refusals.{Answer, given, refusal, told, after, Verdict}
use Rattle.answers.specs.Calls.{Call, judgement, giving}
use Rattle.answers.specs.Promised.{Meets, Replies, code_of, Coded}
use Rattle.answers.proofs.Shows.{to_first, from_first, first_gives}
use Rattle.answers.proofs.Demand1.{verdict_is, leaves, reply_is}

made : {X Y : Type 0} (f : X → Y) (q : Answer (Unit {0})) (new old : X) → f (after q new old) ≡ after q (f new) (f old)
made f (given x) new old = refl
made f (refusal n d) new old = refl

module _ {X : Type 0} {call : Call X} where
  -- a call that is passed on as it is
  pub coded : {old : X} {verdict : Verdict} {left : X} {code : ℕ} → Meets call old verdict left
      → code ≡ code_of (told verdict) → Coded call old code left
  coded m e = record { code_is = e ∙ ap code_of (verdict_is m); left_is = leaves m }

  -- and one that leaves what f makes of what it gives, and of what it was given
  module _ {Y : Type 0} (f : X → Y) where
    pub coded_as : {old : X} {verdict : Verdict} {out : X} {left : Y} {code : ℕ}
        → Meets call old verdict out → code ≡ code_of (told verdict) → left ≡ f out
        → Coded (giving f call) (f old) code left
    coded_as {old} m e l = record { code_is = e ∙ ap code_of (verdict_is m); left_is = l ∙ ap f (leaves m) ∙ made f (judgement call) call.gives old }

    module _ {old : Y} where
      -- a judgement that is known
      by_given : given tt ≡ judgement call → {left : Y} → left ≡ f call.gives → Coded (giving f call) old 0 left
      by_given q e = record { code_is = ap code_of q; left_is = e ∙ ap (λ (q : Answer (Unit {0})). after q (f call.gives) old) q }

      by_refused : {n d code : ℕ} → refusal n d ≡ judgement call → code ≡ n + d * 2 ^ 32
          → Coded (giving f call) old code old
      by_refused q e = record { code_is = e ∙ ap code_of q; left_is = ap (λ (q : Answer (Unit {0})). after q (f call.gives) old) q }

      -- a call that gave x, of which f x is written, or refused, where nothing is
      pub reply_given : {q : Answer X} {x : X} {left : Y} → Replies call q → q ≡ given x → left ≡ f x
          → Coded (giving f call) old 0 left
      reply_given {x = x} r g e =
          let is = sym g ∙ reply_is r in
          by_given (to_first call.refusals tt (given tt) (from_first call.refusals call.gives (given x) is) refl)
          (e ∙ ap f (first_gives call.refusals call.gives is))

      pub reply_refused : {q : Answer X} {n d code : ℕ} → Replies call q → q ≡ refusal n d → code ≡ n + d * 2 ^ 32
          → Coded (giving f call) old code old
      reply_refused {n = n} {d = d} r g e =
          by_refused (to_first call.refusals tt (refusal n d) (from_first call.refusals call.gives (refusal n d) (sym g ∙ reply_is r)) tt) e

      -- the same of a call with a verdict
      pub left_after : {was : X} {verdict : Verdict} {out : X} {left : Y} {code : ℕ}
          → Meets call was verdict out → code ≡ code_of (told verdict) → left ≡ after (told verdict) (f out) old
          → Coded (giving f call) old code left
      left_after {was} {verdict} {out} m e l = record {
        code_is = e ∙ ap code_of (verdict_is m);
        left_is = l ∙ same (told verdict) m.left_is ∙ ap (λ (q : Answer (Unit {0})). after q (f call.gives) old) (verdict_is m);
      }
        where
          same : (q : Answer (Unit {0})) → out ≡ after q call.gives was → after q (f out) old ≡ after q (f call.gives) old
          same (given x) e = ap f e
          same (refusal n d) e = refl

-- a call on what was taken out of words is the call on what is in them
pub on_same : {X Y : Type 0} (call : Y → Call X) (old : Y → X) {y z : Y} {verdict : Verdict} {left : X} → y ≡ z
    → Meets (call y) (old y) verdict left → Meets (call z) (old z) verdict left
on_same {Y = Y} call old {verdict = verdict} {left = left} e m = subst (λ (y : Y). Meets (call y) (old y) verdict left) e m
