-- C's words, at most 128, stand at the front of the zeros. Assumes nothing.
use Rattle.std.proofs.Common.{ℕ, List, ◌++◌, length, drop, ap, sym, arith, ◌≤◌}
use lib.Seq.{length-take-le}
use Rattle.laws.specs.Lists.{tab}
use Rattle.run.specs.Runs.{run_of, zeros, no_marks, with_used, opened_run}
use Rattle.run.proofs.Laws.{used_le}
use Rattle.run.proofs.Run.opened.Goals as goal
use Rattle.run.proofs.Run.opened.Goals.{Start}

module _ (c : Start) where
  inside : length c.args.c.now ≤ 128
  inside = omega (arith, used_le c.args.s.kind.0 c.args.s.ready.of, c.requires)

pub slice_bounds-sums-end : goal.slice_bounds-sums-end
slice_bounds-sums-end c = inside (goal.at.slice_bounds-sums-end c).Start

pub slice_bounds-copy_from_slice-end : goal.slice_bounds-copy_from_slice-end
slice_bounds-copy_from_slice-end c = sym (length-take-le _ _ (inside (goal.at.slice_bounds-copy_from_slice-end c).Start))

pub copy_from_slice-requires : goal.copy_from_slice-requires
copy_from_slice-requires c = length-take-le _ _ (inside (goal.at.copy_from_slice-requires c).Start)

pub returns : goal.returns
unfolding opened_run with_used zeros no_marks tab
returns c =
    let s = c.args.s in
    ap (λ (xs : List ℕ). run_of s.kind.0 s.signs.0 s.mode.0 0 (xs ++ drop (length c.args.c.now) zeros) no_marks) c.copy_from_slice.ensures.after
