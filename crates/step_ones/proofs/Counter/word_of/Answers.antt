-- The lane and the word are the rule's, and lie within the buffer. Assumes nothing.
use Rattle.std.proofs.Common.{◌≡◌, ℕ, ◌+◌, ◌*◌, ◌<◌, sym, ap₂, subst, arith}
use Rattle.kinds.specs.Kinds.{lanes}
use Rattle.step_ones.specs.Combined.{word_at}
use Rattle.step_ones.proofs.Counts.{word_in}
use Rattle.step_ones.proofs.Counter.word_of.Goals as goal

pub bounds-words-lane : goal.bounds-words-lane
bounds-words-lane g c =
    let s = c.args in
    let each = g.row.SPANS * g.row.HALVES in
    let k = c.lane_at-lane.result * each + c.element_at-word.result in
    let k_is : k ≡ word_at g.row.SPANS g.row.HALVES s.x s.q = ap₂ (λ (l w : ℕ). l * each + w) c.lane_at-lane.ensures.is c.element_at-word.ensures.is in
    let inside : k < lanes * each = subst (λ (n : ℕ). n < lanes * each) (sym k_is) (word_in _ _ _ _ s.self.halves_in_range.0 c.requires.1 c.requires.2) in
    omega (arith, inside, c.requires.0)
