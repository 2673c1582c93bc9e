-- The marks of a run whose selectors were judged: one past its sums is stray, and where there is none the run passes. Assumes nothing.
use Rattle.std.proofs.Common.{◌≡◌, ℕ, List, refl, sym, ap, ap₂, subst, ◌∙◌}
use mathlib.Core.Bool.{true≢false}
use mathlib.Core.List.{[], ◌∷◌}
use Rattle.std.specs.Prelude.{Ok, Err}
use Rattle.answers.specs.declared.Refusal.TheVariants.{BadRun}
use Rattle.answers.specs.Calls.{◌when◌}
use Rattle.answers.specs.Promised.{Tells, Judges}
use Rattle.answers.proofs.Shows.{shown, hidden, stops, skips, accepts, tells_is, deny, denied}
use Rattle.kinds.specs.Kinds.{entry_of}
use Rattle.kinds.specs.declared.Kind.{Kind}
use Rattle.kinds.specs.declared.Mode.{Mode}
use Rattle.kinds.specs.declared.Signs.{Signs}
use Rattle.step_work.specs.declared.Selected.{Selected}
use Rattle.step_work.specs.Workers.{Ready}
use Rattle.run.specs.RunCalls.{bad_run}
use Rattle.run.specs.Workers.{markable, mark_from}
use Rattle.run.proofs.Laws.{sound, sound_back, none_from, none_stray}
use Rattle.run.proofs.Run.judge.Goals as goal
use Rattle.run.proofs.Run.judge.Goals.{After-marked_from}

-- selectors that are the run's
own_ready : (s : Selected) (kind : Kind) (signs : Signs) (mode : Mode) → s.kind ≡ kind → s.signs ≡ signs → s.mode ≡ mode → Ready kind.0 signs.0 mode.0
own_ready s kind signs mode ek es em = rw (← ek, ← es, ← em) s.ready

module _ (c : After-marked_from) where
  abbrev k : ℕ
  k = c.args.self.now.kind.0

  abbrev m : ℕ
  m = c.args.self.now.mode.0

  abbrev marks : List ℕ
  marks = c.args.self.now.marks

  ready : Ready k c.args.self.now.signs.0 m
  ready = let own = c.in-Ok.ensures.asked in own_ready c.in-Ok.s _ _ _ own.0 own.1 own.2

  told : Tells (mark_from marks (markable k m)) c.marked_from.result
  told =
      let own = c.in-Ok.ensures.asked in
      subst (λ (n : ℕ). Tells (mark_from marks n) c.marked_from.result) (c.markable.ensures.1 ∙ ap₂ (λ (k : Kind) (m : Mode). markable k.0 m.0) own.0 own.2) c.marked_from.ensures

pub returns-then-marked_from : goal.returns-then-marked_from
returns-then-marked_from c =
    let f = (goal.at.returns-then-marked_from c).After-marked_from in
    let self = c.args.self.now in
    let t = mark_from (marks f) (markable (k f) (m f)) in
    let j : Judges (10 when bad_run self ∷ []) (Err BadRun) = stops (shown (bad_run self) (λ d. true≢false (sym c.if-marked_from.true ∙ tells_is (told f) ∙ deny t (none_from (k f) (m f) (marks f) (sound self d).2)))) refl refl in
    record { run = record { reply_right = j.verdict_right; reply_is = tt }; own = tt }

pub returns : goal.returns
returns c =
    let f = (goal.at.returns c).After-marked_from in
    let self = c.args.self.now in
    let t = mark_from (marks f) (markable (k f) (m f)) in
    let own = c.in-Ok.ensures.asked in
    let j : Judges (10 when bad_run self ∷ []) (Ok tt) = skips (hidden (bad_run self) (sound_back self (ready f) c.if-self-gt-MAX_BLOCKS.false (none_stray (k f) (m f) (marks f) (denied t (sym (tells_is (told f)) ∙ c.if-marked_from.false))))) (accepts refl) in
    record {
      run = record { reply_right = j.verdict_right; reply_is = c.in-Ok.s.line_is ∙ ap (λ (k : Kind). entry_of k.0) own.0 };
      own = own;
    }
