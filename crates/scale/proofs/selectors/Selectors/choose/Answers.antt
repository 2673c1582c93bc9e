-- A turn puts the next chosen lane's bytes behind those of the lanes before. Assumes nothing.
use Rattle.std.proofs.Common.{ℕ, ◌≡◌, ◌<◌, ◌∙◌, sym, ap, length, take, ◌*◌, arith, zero-mul}
use Rattle.std.proofs.lemmas.List.{take_all}
use Rattle.scale.specs.Bytes.{chosen_lanes, chosen_bytes, bytes_from, output_length}
use Rattle.scale.specs.Workers.{size_of, side_of}
use Rattle.scale.proofs.Legal.{thread_legal}
use Rattle.scale.proofs.Laws.{by_one, lane_more, lanes_length}
use Rattle.scale.proofs.selectors.Selectors.choose.Goals as goal

pub loop-k-init : goal.loop-k-init
loop-k-init c = ap (λ (n : ℕ). take n c.args.chosen.now) (zero-mul (size_of c.args.self.width))

pub loop-k-preserved : goal.loop-k-preserved
loop-k-preserved c =
    let s = c.args.self in
    let lanes = chosen_lanes (side_of s.operand) s.thread_id.0 in
    let count = lanes_length (side_of s.operand) s.thread_id.0 (thread_legal s.operand s.thread_id.0 s.in_quad) in
    let k : c.loop-k.k < length lanes = omega (arith, c.lanes-k-end.ensures, count) in
    lane_more (size_of s.width) s.byte_id.0 c.args.metadata.now lanes c.loop-k.k c.loop-k.chosen c.put_lane.new.chosen k c.lane_at-lane.ensures.is c.loop-k.invariant (rw c.bytes.ensures at c.put_lane.ensures)

pub returns : goal.returns
unfolding chosen_bytes
returns c =
    let s = c.args.self in
    let n = size_of s.width in
    let lanes = chosen_lanes (side_of s.operand) s.thread_id.0 in
    let count = lanes_length (side_of s.operand) s.thread_id.0 (thread_legal s.operand s.thread_id.0 s.in_quad) in
    let last : c.loop-k.k ≡ output_length 1 (side_of s.operand) = omega (arith, c.lanes-k-end.ensures) in
    let all : length c.loop-k.chosen ≡ c.loop-k.k * n = c.loop-k.auto.chosen ∙ c.requires.room ∙ by_one n (side_of s.operand) ∙ ap (λ (k : ℕ). k * n) (sym last) in
    sym (take_all (c.loop-k.k * n) c.loop-k.chosen (omega (arith, all)))
    ∙ c.loop-k.invariant
    ∙ ap (bytes_from n s.byte_id.0 c.args.metadata.now) (take_all c.loop-k.k lanes (omega (arith, last, count)))
