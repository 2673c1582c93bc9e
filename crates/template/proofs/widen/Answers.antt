-- Filled from the front by the record's bytes: whole, it is the record. Assumes nothing.
use Rattle.std.proofs.Common.{ℕ, ◌≡◌, ◌∙◌, refl, ap, ap₂, List, set, length, get_or, arith}
use Rattle.laws.specs.Lists.{fills}
use Rattle.laws.proofs.Lists.{fills_front}
use Rattle.template.proofs.Records.{copied}
use Rattle.template.proofs.widen.Goals as goal

pub loop-x-init : goal.loop-x-init
unfolding fills
loop-x-init c = (omega arith, refl)

pub loop-x-preserved : goal.loop-x-preserved
loop-x-preserved c =
    let x = c.loop-x.x in (
      omega arith,
      ap₂ (λ (ys : List ℕ) (v : ℕ). set ys x v) c.loop-x.invariant.1 c.wide.ensures ∙ fills_front x (λ k. get_or c.args.«record».now k 0) c.args.matrix.now,
    )

pub returns : goal.returns
returns c =
    let xs = c.args.«record».now in
    let e : c.loop-x.x ≡ length xs = omega arith in
    c.loop-x.invariant.1 ∙ ap (λ (n : ℕ). fills 0 n (λ k. get_or xs k 0) c.args.matrix.now) e ∙ copied xs c.args.matrix.now c.requires
