-- A, B and C as the record has them, and the step's words. Assumes nothing.
use Rattle.std.proofs.Common.{ℕ, ◌∙◌, sym, ap, ap₂, List, length, take, rules, arith}
use Rattle.std.proofs.Math.Seq.{length-take-le}
use Rattle.step_work.specs.Step.{stepped}
use Rattle.records.specs.Records.{part_a, part_b, part_c, bytes_of, words_in}
use Rattle.records.proofs.Laws.{room_A, room_B, room_C}
use Rattle.replay_text.specs.Workers.{part_words}
use Rattle.replay_text.proofs.Compared.{part_length}
use Rattle.replay_text.proofs.work.Goals as goal

pub words_of-a-requires : goal.words_of-a-requires
words_of-a-requires c = let room = room_A _ c.args.s.ready.of in search rules

pub words_of-b-requires : goal.words_of-b-requires
words_of-b-requires c = let room = room_B _ c.args.s.ready.of in search rules

pub words_of-c-requires : goal.words_of-c-requires
words_of-c-requires c = let room = room_C _ c.args.s.ready.of in search rules

pub slice_bounds-a-end : goal.slice_bounds-a-end
slice_bounds-a-end c = omega (arith, room_A _ c.args.s.ready.of, c.lengths-n.ensures.0, c.words_of-a.ensures.0)

pub slice_bounds-work-end : goal.slice_bounds-work-end
slice_bounds-work-end c = sym (length-take-le _ _ (omega (arith, room_A _ c.args.s.ready.of, c.lengths-n.ensures.0, c.words_of-a.ensures.0)))

pub slice_bounds-b-end : goal.slice_bounds-b-end
slice_bounds-b-end c = omega (arith, room_B _ c.args.s.ready.of, c.lengths-n.ensures.1, c.words_of-b.ensures.0)

pub slice_bounds-work-end-2 : goal.slice_bounds-work-end-2
slice_bounds-work-end-2 c = sym (length-take-le _ _ (omega (arith, room_B _ c.args.s.ready.of, c.lengths-n.ensures.1, c.words_of-b.ensures.0)))

pub slice_bounds-c-end : goal.slice_bounds-c-end
slice_bounds-c-end c = omega (arith, room_C _ c.args.s.ready.of, c.lengths-n.ensures.2, c.words_of-c.ensures.0)

pub slice_bounds-work-end-3 : goal.slice_bounds-work-end-3
slice_bounds-work-end-3 c = sym (length-take-le _ _ (omega (arith, room_C _ c.args.s.ready.of, c.lengths-n.ensures.2, c.words_of-c.ensures.0)))

pub work-requires-clause-sized : goal.work-requires-clause-sized
work-requires-clause-sized c =
    let k = c.args.s.kind.0 in
    let bytes = c.args.«record».now in
    let n = c.lengths-n.ensures in
    record {
      of_a = ap length (c.words_of-a.ensures.1 ∙ ap (λ (m : ℕ). words_in m (bytes_of part_a bytes)) n.0) ∙ part_length k part_a bytes;
      of_b = ap length (c.words_of-b.ensures.1 ∙ ap (λ (m : ℕ). words_in m (bytes_of part_b bytes)) n.1) ∙ part_length k part_b bytes;
      of_c = ap length (c.words_of-c.ensures.1 ∙ ap (λ (m : ℕ). words_in m (bytes_of part_c bytes)) n.2) ∙ part_length k part_c bytes;
      of_d = c.requires.1;
    }

pub returns : goal.returns
returns c =
    let k = c.args.s.kind.0 in
    let bytes = c.args.«record».now in
    let n = c.lengths-n.ensures in
    let stepped_by : (a b c : List ℕ) → List ℕ = stepped k c.args.s.signs.0 c.args.s.mode.0 in
    c.work.ensures.words
    ∙ ap₂ (λ (a b : List ℕ). stepped_by a b (take c.lengths-n.result.c c.words_of-c.result))
    (c.words_of-a.ensures.1 ∙ ap (λ (m : ℕ). words_in m (bytes_of part_a bytes)) n.0)
    (c.words_of-b.ensures.1 ∙ ap (λ (m : ℕ). words_in m (bytes_of part_b bytes)) n.1)
    ∙ ap (stepped_by (part_words k part_a bytes) (part_words k part_b bytes)) (c.words_of-c.ensures.1 ∙ ap (λ (m : ℕ). words_in m (bytes_of part_c bytes)) n.2)
