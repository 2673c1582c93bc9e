-- The masked matrix, with the offset in every field of the mask, has the digits. Assumes nothing.
use Rattle.step_products.proofs.Masked.{known_digits}
use Rattle.step_nibbles.proofs.digits.Goals as goal

pub returns : goal.returns
returns c =
    let m = c.mask_of-mask in
    known_digits c.args.side 4 c.args.words.now c.args.out.now c.requires.0 c.requires.2 m.result c.args.offset _ m.ensures c.requires.1 c.put_digits.ensures
