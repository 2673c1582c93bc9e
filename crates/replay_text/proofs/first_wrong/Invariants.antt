-- Until a place differs all before it agree, by their words. The measure is the places that are left. Assumes nothing.
use Rattle.std.proofs.Common.{ℕ, ◌≡◌, ◌-◌, ◌<◌, ◌≤◌, get_or}
use Rattle.replay_text.specs.Workers.{word_no}
use Rattle.replay_text.proofs.first_wrong.Given as goal

abbrev pub invariant-loop-place : goal.invariant-loop-place
invariant-loop-place l =
    (l.place ≤ l.places) × ((j : ℕ) → j < l.place → get_or l.log (word_no l.words l.halves j) 0 ≡ get_or l.right (word_no l.words l.halves j) 0)

abbrev pub decreases-loop-place : goal.decreases-loop-place
decreases-loop-place l = l.places - l.place
