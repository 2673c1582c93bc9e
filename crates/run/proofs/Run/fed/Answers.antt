-- The step's D stands at the front of the old sums, of which the front was its C. Assumes nothing.
use Rattle.std.proofs.Common.{◌≡◌, ◌≤◌, length, sym, ◌∙◌, arith, rules}
use lib.Seq.{length-take-le}
use Rattle.run.proofs.Laws.{used_le, fed_is}
use Rattle.run.proofs.Run.fed.Goals as goal
use Rattle.run.proofs.Run.fed.Goals.{After-lengths-n}

-- the used ones are among the 128 sums
module _ (c : After-lengths-n) where
  inside : (c.lengths-n.result.c ≤ 128) × (length c.args.self.now.sums ≡ 128)
  inside = (omega (arith, used_le c.args.s.kind.0 c.args.s.ready.of, c.lengths-n.ensures.2), search rules)

pub slice_bounds-c-end : goal.slice_bounds-c-end
slice_bounds-c-end c = omega (arith, inside (goal.at.slice_bounds-c-end c).After-lengths-n)

pub slice_bounds-work-end : goal.slice_bounds-work-end
slice_bounds-work-end c = sym (length-take-le _ _ (omega (arith, inside (goal.at.slice_bounds-work-end c).After-lengths-n)))

pub slice_bounds-d-end : goal.slice_bounds-d-end
slice_bounds-d-end c = omega (arith, inside (goal.at.slice_bounds-d-end c).After-lengths-n)

pub slice_bounds-work-end-2 : goal.slice_bounds-work-end-2
slice_bounds-work-end-2 c = sym (length-take-le _ _ (omega (arith, inside (goal.at.slice_bounds-work-end-2 c).After-lengths-n)))

-- C and D each by words of its own, so that other words for one of them are refused for what they hold
pub work-requires-clause-sized : goal.work-requires-clause-sized
work-requires-clause-sized c =
    let among = inside (goal.at.work-requires-clause-sized c).After-lengths-n in
    record {
      of_a = c.requires.a_len.0;
      of_b = c.requires.a_len.1;
      of_c = length-take-le _ _ (omega (arith, among)) ∙ c.lengths-n.ensures.2;
      of_d = length-take-le _ _ (omega (arith, among)) ∙ c.lengths-n.ensures.2;
    }

pub returns : goal.returns
returns c =
    let n = c.lengths-n in
    let own = c.requires.own in
    let long = length-take-le _ _ (omega (arith, inside (goal.at.returns c).After-lengths-n)) in
    fed_is c.args.self.now n.result.c _ _ _ _ (c.work.auto.d ∙ long) (rw (← own.0) n.ensures.2)
    (rw (← own.0, ← own.1, ← own.2) c.work.ensures.words) (rw (← own.0, ← own.1, ← own.2) c.work.ensures.marks)
