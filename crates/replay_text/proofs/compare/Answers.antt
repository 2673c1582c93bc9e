-- D as it was logged, beside the step's words. Assumes nothing.
use Rattle.std.proofs.Common.{ℕ, ◌≡◌, ◌∙◌, ◌≤◌, ◌++◌, refl, sym, ap, ap₂, subst, List, length, take, drop, length-append, length-drop, rules, arith}
use Rattle.std.proofs.Math.Seq.{length-take-le, take_at}
use Rattle.step_work.proofs.Matrices.{stepped_length}
use Rattle.records.specs.Records.{part_d, bytes_of, words_in}
use Rattle.records.proofs.Laws.{room_C}
use Rattle.replay_text.specs.Verdicts.{compared}
use Rattle.replay_text.proofs.Compared.{part_length}
use Rattle.replay_text.proofs.compare.Goals as goal

-- words at the start of an array, before the zeros that are left
module _ (n : ℕ) (room : n ≤ 128) (words : List ℕ) (long : length words ≡ n) (zeros : List ℕ) (all : length zeros ≡ 128) where
  whole : n ≤ length (words ++ drop n zeros)
  whole = subst (λ (m : ℕ). n ≤ m) (sym (length-append words (drop n zeros) ∙ omega (arith, long, length-drop n zeros, all, room))) room

  front : take n (words ++ drop n zeros) ≡ words
  front = take_at words (drop n zeros) n long

pub words_of-log-requires : goal.words_of-log-requires
words_of-log-requires c = let room = room_C _ c.args.s.ready.of in search rules

pub slice_bounds-right-end : goal.slice_bounds-right-end
slice_bounds-right-end c = omega (arith, room_C _ c.args.s.ready.of, c.lengths-n.ensures.2)

pub slice_bounds-work-end : goal.slice_bounds-work-end
slice_bounds-work-end c = let room = room_C _ c.args.s.ready.of in sym (length-take-le _ _ (search rules))

pub work-requires : goal.work-requires
work-requires c =
    let room = room_C _ c.args.s.ready.of in
    (c.requires, length-take-le _ _ (omega (arith, c.lengths-n.ensures.2, room)) ∙ c.lengths-n.ensures.2)

pub slice_bounds-log-end : goal.slice_bounds-log-end
slice_bounds-log-end c = omega (arith, room_C _ c.args.s.ready.of, c.lengths-n.ensures.2, c.words_of-log.ensures.0)

pub slice_bounds-first_wrong-end : goal.slice_bounds-first_wrong-end
slice_bounds-first_wrong-end c = sym (length-take-le _ _ (omega (arith, room_C _ c.args.s.ready.of, c.lengths-n.ensures.2, c.words_of-log.ensures.0)))

pub slice_bounds-right-end-2 : goal.slice_bounds-right-end-2
slice_bounds-right-end-2 c =
    let room : c.lengths-n.result.c ≤ 128 = omega (arith, room_C _ c.args.s.ready.of, c.lengths-n.ensures.2) in
    whole c.lengths-n.result.c room c.work.new.d (ap length c.work.ensures ∙ stepped_length _ c.args.s.ready.of _ _ _ _ _ ∙ sym c.lengths-n.ensures.2) _ refl

pub slice_bounds-first_wrong-end-2 : goal.slice_bounds-first_wrong-end-2
slice_bounds-first_wrong-end-2 c =
    let room : c.lengths-n.result.c ≤ 128 = omega (arith, room_C _ c.args.s.ready.of, c.lengths-n.ensures.2) in
    sym (length-take-le _ _ (whole c.lengths-n.result.c room c.work.new.d (ap length c.work.ensures ∙ stepped_length _ c.args.s.ready.of _ _ _ _ _ ∙ sym c.lengths-n.ensures.2) _ refl))

pub first_wrong-requires : goal.first_wrong-requires
first_wrong-requires c =
    let k = c.args.s.kind.0 in
    let bytes = c.args.«record».now in
    let room : c.lengths-n.result.c ≤ 128 = omega (arith, room_C _ c.args.s.ready.of, c.lengths-n.ensures.2) in
    let long : length c.work.new.d ≡ c.lengths-n.result.c = ap length c.work.ensures ∙ stepped_length _ c.args.s.ready.of _ _ _ _ _ ∙ sym c.lengths-n.ensures.2 in (
      ap length (c.words_of-log.ensures.1 ∙ ap (λ (m : ℕ). words_in m (bytes_of part_d bytes)) c.lengths-n.ensures.2) ∙ part_length k part_d bytes,
      ap length (front c.lengths-n.result.c room c.work.new.d long _ refl) ∙ long ∙ c.lengths-n.ensures.2,
    )

pub returns : goal.returns
returns c =
    let bytes = c.args.«record».now in
    let room : c.lengths-n.result.c ≤ 128 = omega (arith, room_C _ c.args.s.ready.of, c.lengths-n.ensures.2) in
    let long : length c.work.new.d ≡ c.lengths-n.result.c = ap length c.work.ensures ∙ stepped_length _ c.args.s.ready.of _ _ _ _ _ ∙ sym c.lengths-n.ensures.2 in
    c.first_wrong.ensures
    ∙ ap₂ (compared c.args.s.kind.0)
    (c.words_of-log.ensures.1 ∙ ap (λ (m : ℕ). words_in m (bytes_of part_d bytes)) c.lengths-n.ensures.2)
    (front c.lengths-n.result.c room c.work.new.d long _ refl ∙ c.work.ensures)
