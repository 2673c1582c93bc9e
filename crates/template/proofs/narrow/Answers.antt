-- Filled from the front by the matrix's entries: whole, it is the matrix. Assumes nothing.
use Rattle.std.proofs.Common.{ℕ, ◌≡◌, ◌∙◌, refl, ap, List, set, length, get_or, arith}
use Rattle.laws.specs.Lists.{fills}
use Rattle.laws.proofs.Lists.{fills_front}
use Rattle.template.proofs.Records.{copied}
use Rattle.template.proofs.narrow.Goals as goal

pub loop-x-init : goal.loop-x-init
unfolding fills
loop-x-init c = (omega arith, refl)

pub loop-x-preserved : goal.loop-x-preserved
loop-x-preserved c =
    let xs = c.args.matrix.now in
    let x = c.loop-x.x in (
      omega arith,
      ap (λ (ys : List ℕ). set ys x (get_or xs x 0)) c.loop-x.invariant.1 ∙ fills_front x (λ k. get_or xs k 0) c.args.«record».now,
    )

pub returns : goal.returns
returns c =
    let xs = c.args.matrix.now in
    let e : c.loop-x.x ≡ length xs = omega arith in
    c.loop-x.invariant.1 ∙ ap (λ (n : ℕ). fills 0 n (λ k. get_or xs k 0) c.args.«record».now) e ∙ copied xs c.args.«record».now c.requires.1
