-- No entry was too wide, so that all of them fit. Assumes nothing.
use Rattle.std.proofs.Common.{false, ap₂, ◌∙◌, ◌*◌, length, arith}
use Rattle.answers.specs.Tests.{somewhere}
use Rattle.answers.proofs.Shows.{shows, denied}
use Rattle.kinds.proofs.Table.{by_fields}
use Rattle.pack.specs.PackCall.{too_wide}
use Rattle.pack.proofs.pack_in.Goals as goal

pub fill_words-requires : goal.fill_words-requires
fill_words-requires c =
    let f = by_fields c.f.inside in
    let m = c.args.matrix.now in
    let t = somewhere (length m) (too_wide f.bits m) in (
      rw (← c.f.view_is) (denied t (shows false t (λ l. omega (arith, l, c.first_wide-wide.ensures, c.if-wide-matrix.false)))),
      c.if-matrix-rows.false ∙ ap₂ ◌*◌ c.rows.ensures.is c.columns.ensures.is,
      rw (← c.f.view_is) c.if-words-f.false,
    )
