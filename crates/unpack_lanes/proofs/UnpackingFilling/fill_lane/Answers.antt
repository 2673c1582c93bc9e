-- A narrow stretch is the fields of one word, a wide one an element. Assumes nothing.
use Rattle.std.proofs.Common.{ℕ, sym, ap, subst, ◌∙◌, ◌+◌, ◌*◌, ◌<◌, List, length}
use Rattle.laws.specs.Fields.{field}
use Rattle.laws.specs.Toward.{Brings, stores}
use Rattle.kinds.proofs.Table.{by_fields}
use Rattle.buffers.specs.Buffers.{unpacked}
use Rattle.buffers.specs.Stretches.{OfLane}
use Rattle.buffers.proofs.Round.{unpacked_length}
use Rattle.buffers.proofs.Stretches.{narrow_size, wide_size}
use Rattle.unpack_lanes.proofs.Stored.{field_in, fields_stored, whole_in, whole_stored}
use Rattle.unpack_lanes.proofs.UnpackingFilling.fill_lane.Goals as goal

pub scatter-requires-clause-by_index : goal.scatter-requires-clause-by_index
scatter-requires-clause-by_index c j hj =
    let a = c.args in
    let ws = a.self.now.words.now in
    let f = by_fields c.f.inside in
    let long = rw (← c.f.view_is) at (c.requires.2 ∙ unpacked_length a.self.now.layout.now ws) in
    let within = rw (← c.f.view_is) at c.requires.0 in
    let first = rw (← c.f.view_is) at c.base-base.ensures.is in
    let word = rw (← c.f.view_is) at c.word.ensures.is in
    let step = rw (← c.f.view_is) at c.step-step.ensures.is in
    subst (λ (n : ℕ). c.base-base.result + j * n < length a.matrix.now) (sym step)
    (field_in f c.f.invariant ws a.matrix.now long a.stretch.0 a.lane.0 c.base-base.result within c.requires.1 first c.word.result word c.if-f-lt32.true j hj)

pub returns-then-f-lt32 : goal.returns-then-f-lt32
returns-then-f-lt32 c =
    let a = c.args in
    let ws = a.self.now.words.now in
    let f = by_fields c.f.inside in
    let long = rw (← c.f.view_is) at (c.requires.2 ∙ unpacked_length a.self.now.layout.now ws) in
    let within = rw (← c.f.view_is) at c.requires.0 in
    let first = rw (← c.f.view_is) at c.base-base.ensures.is in
    let word = rw (← c.f.view_is) at c.word.ensures.is in
    let step = rw (← c.f.view_is) at c.step-step.ensures.is in
    let v = c.word-then-f-lt32 in
    let h = c.if-f-lt32.true in
    let stored = fields_stored f c.f.invariant ws a.matrix.now long a.stretch.0 a.lane.0 c.base-base.result within c.requires.1 first c.word.result word h v.result v.ensures.0 in
    let e = c.scatter.ensures ∙ ap (λ (n : ℕ). stores c.base-base.result n f.side (λ (j : ℕ). field f.bits j v.result) a.matrix.now) step in
    rw (← c.f.view_is, narrow_size f h) (subst (λ (m : List ℕ). Brings (unpacked f ws) (OfLane f f.side a.stretch.0 a.lane.0) a.matrix.now m) (sym e) stored)

pub bounds-matrix-base : goal.bounds-matrix-base
bounds-matrix-base c =
    let a = c.args in
    let ws = a.self.now.words.now in
    let f = by_fields c.f.inside in
    let whole = rw (← c.f.view_is) at a.self.now.whole in
    let long = rw (← c.f.view_is) at (c.requires.2 ∙ unpacked_length a.self.now.layout.now ws) in
    let within = rw (← c.f.view_is) at c.requires.0 in
    let first = rw (← c.f.view_is) at c.base-base.ensures.is in
    let word = rw (← c.f.view_is) at c.word.ensures.is in
    whole_in f c.f.invariant ws a.matrix.now long a.stretch.0 a.lane.0 c.base-base.result within c.requires.1 first c.word.result word whole a.self.now.fitting c.if-f-lt32.false

pub returns : goal.returns
returns c =
    let a = c.args in
    let ws = a.self.now.words.now in
    let f = by_fields c.f.inside in
    let whole = rw (← c.f.view_is) at a.self.now.whole in
    let long = rw (← c.f.view_is) at (c.requires.2 ∙ unpacked_length a.self.now.layout.now ws) in
    let within = rw (← c.f.view_is) at c.requires.0 in
    let first = rw (← c.f.view_is) at c.base-base.ensures.is in
    let word = rw (← c.f.view_is) at c.word.ensures.is in
    let h = c.if-f-lt32.false in
    rw (← c.f.view_is, wide_size f h)
    (whole_stored f c.f.invariant ws a.matrix.now long a.stretch.0 a.lane.0 c.base-base.result within c.requires.1 first c.word.result word whole a.self.now.fitting h c.element.result c.element.ensures)
