-- A narrow stretch makes one word of its entries, and a wide one is an entry; the words of that number stand where they belong, in the lane's own part of
-- the buffer. Assumes nothing.
use borrow.Rule.Slice.PartMut.{put_mid}
use Rattle.std.proofs.Common.{ℕ, sym, ap, subst, ◌∙◌, ◌+◌, ◌*◌, ◌-◌, ◌<◌, ◌≤◌, List, length, get_or, rules}
use Rattle.laws.specs.Fields.{joined}
use Rattle.kinds.proofs.Table.{by_fields}
use Rattle.buffers.proofs.Round.{packed_length}
use Rattle.pack_lanes.proofs.Written.{entry_in, narrow_number, whole_in, wide_number, lent_in, lane_written}
use Rattle.pack_lanes.proofs.PackingFilling.fill_lane.Goals as goal

pub gather-number-requires-clause-by_index : goal.gather-number-requires-clause-by_index
gather-number-requires-clause-by_index c j hj =
    let a = c.args in
    let m = a.self.now.matrix.now in
    let f = by_fields c.f.inside in
    let within = rw (← c.f.view_is) at c.requires.0 in
    let fitting = rw (← c.f.view_is) at a.self.now.fitting in
    let whole = rw (← c.f.view_is) at a.self.now.whole in
    let first = rw (← c.f.view_is) at c.base-base.ensures.is in
    let step = rw (← c.f.view_is) at c.step.ensures.is in
    subst (λ (n : ℕ). c.base-base.result + j * n < length m) (sym step)
    (entry_in f c.f.invariant m fitting whole a.stretch.0 a.lane.0 c.base-base.result within c.requires.1 first c.if-f-lt32.true j hj)

pub slice_bounds-put-end : goal.slice_bounds-put-end
slice_bounds-put-end c =
    let a = c.args in
    let m = a.self.now.matrix.now in
    let f = by_fields c.f.inside in
    let within = rw (← c.f.view_is) at c.requires.0 in
    let long = rw (← c.f.view_is) at (c.requires.2 ∙ packed_length a.self.now.layout.now m) in
    let word = rw (← c.f.view_is) at c.word-k.ensures.is in
    let lent : a.lane.0 * c.f.inside.words + c.f.inside.words ≤ length a.words.now = (lent_in f c.f.invariant m a.words.now long a.stretch.0 a.lane.0 c.word-k.result within c.requires.1 word).2 in
    search rules

pub returns-then-f-lt32 : goal.returns-then-f-lt32
returns-then-f-lt32 c =
    let a = c.args in
    let m = a.self.now.matrix.now in
    let f = by_fields c.f.inside in
    let within = rw (← c.f.view_is) at c.requires.0 in
    let fitting = rw (← c.f.view_is) at a.self.now.fitting in
    let whole = rw (← c.f.view_is) at a.self.now.whole in
    let first = rw (← c.f.view_is) at c.base-base.ensures.is in
    let step = rw (← c.f.view_is) at c.step.ensures.is in
    let long = rw (← c.f.view_is) at (c.requires.2 ∙ packed_length a.self.now.layout.now m) in
    let word = rw (← c.f.view_is) at c.word-k.ensures.is in
    let at = a.lane.0 * c.f.inside.words in
    let number =
    narrow_number f c.f.invariant m fitting whole a.stretch.0 a.lane.0 c.base-base.result within c.requires.1 first c.if-f-lt32.true c.gather-number.result
    (c.gather-number.ensures.is ∙ ap (λ (n : ℕ). joined f.bits f.side (λ (j : ℕ). get_or m (c.base-base.result + j * n) 0)) step) c.gather-number.ensures.small in
    rw (← c.f.view_is)
    (lane_written f c.f.invariant m a.words.now long a.stretch.0 a.lane.0 c.word-k.result within c.requires.1 word c.gather-number.result _
    (ap (λ (ys : List ℕ). put_mid at (at + c.f.inside.words - at) a.words.now ys) c.put.ensures) number)

pub bounds-self-base : goal.bounds-self-base
bounds-self-base c =
    let a = c.args in
    let m = a.self.now.matrix.now in
    let f = by_fields c.f.inside in
    let within = rw (← c.f.view_is) at c.requires.0 in
    let fitting = rw (← c.f.view_is) at a.self.now.fitting in
    let whole = rw (← c.f.view_is) at a.self.now.whole in
    let first = rw (← c.f.view_is) at c.base-base.ensures.is in
    whole_in f c.f.invariant m fitting whole a.stretch.0 a.lane.0 c.base-base.result within c.requires.1 first c.if-f-lt32.false

pub slice_bounds-put-end-2 : goal.slice_bounds-put-end-2
slice_bounds-put-end-2 c =
    let a = c.args in
    let m = a.self.now.matrix.now in
    let f = by_fields c.f.inside in
    let within = rw (← c.f.view_is) at c.requires.0 in
    let long = rw (← c.f.view_is) at (c.requires.2 ∙ packed_length a.self.now.layout.now m) in
    let word = rw (← c.f.view_is) at c.word-k.ensures.is in
    let lent : a.lane.0 * c.f.inside.words + c.f.inside.words ≤ length a.words.now = (lent_in f c.f.invariant m a.words.now long a.stretch.0 a.lane.0 c.word-k.result within c.requires.1 word).2 in
    search rules

pub returns : goal.returns
returns c =
    let a = c.args in
    let m = a.self.now.matrix.now in
    let f = by_fields c.f.inside in
    let within = rw (← c.f.view_is) at c.requires.0 in
    let fitting = rw (← c.f.view_is) at a.self.now.fitting in
    let whole = rw (← c.f.view_is) at a.self.now.whole in
    let first = rw (← c.f.view_is) at c.base-base.ensures.is in
    let long = rw (← c.f.view_is) at (c.requires.2 ∙ packed_length a.self.now.layout.now m) in
    let word = rw (← c.f.view_is) at c.word-k.ensures.is in
    let at = a.lane.0 * c.f.inside.words in
    let number = wide_number f c.f.invariant m fitting whole a.stretch.0 a.lane.0 c.base-base.result within c.requires.1 first c.if-f-lt32.false in
    rw (← c.f.view_is)
    (lane_written f c.f.invariant m a.words.now long a.stretch.0 a.lane.0 c.word-k.result within c.requires.1 word (get_or m c.base-base.result 0) _
    (ap (λ (ys : List ℕ). put_mid at (at + c.f.inside.words - at) a.words.now ys) c.put-2.ensures) number)
