-- What is copied is the word's bytes from byte-id on. Assumes nothing.
use Rattle.std.proofs.Common.{ℕ, ◌≡◌, ◌+◌, ◌∙◌, ap, List, ◌++◌, take, length, arith}
use Rattle.std.proofs.lemmas.Slice.{take-put_mid}
use Rattle.laws.specs.Lists.{tab}
use Rattle.laws.proofs.Lists.{length_tab}
use Rattle.scale.specs.Bytes.{byte_of}
use Rattle.scale.proofs.Laws.{take_tab}
use Rattle.scale.proofs.selectors.put_bytes.Goals as goal

pub returns : goal.returns
returns g c =
    let a = c.args in
    let n = g.row.COUNT in
    let byte : ℕ → ℕ = λ j. byte_of a.word (a.byte_id.0 + j) in
    let copied : c.copy_from_slice.new.self ≡ tab n byte = c.copy_from_slice.ensures.after ∙ ap (take n) c.bytes_from.ensures ∙ take_tab n 4 byte (omega arith) in
    let long : a.at + n ≡ a.at + length c.copy_from_slice.new.self = omega (arith, ap length copied, length_tab n byte) in
    take-put_mid a.at _ a.chosen.now _ (a.at + n) long (omega arith) ∙ ap (λ (bytes : List ℕ). take a.at a.chosen.now ++ bytes) copied
