-- The entries that were unpacked fit a byte, and are as many as the record's bytes. Assumes nothing.
use Rattle.kinds.specs.Rule.{Layout}
use Rattle.std.proofs.Common.{sym, ap, subst, ◌∙◌, length}
use Rattle.kinds.proofs.Table.{layout_at}
use Rattle.buffers.specs.Buffers.{Fitting, unpacked}
use Rattle.buffers.proofs.Round.{unpacked_fits, unpacked_length}
use Rattle.template.specs.Templates.{template_kind, template_role}
use Rattle.template.proofs.Records.{template_laid}
use Rattle.template.proofs.write.Goals as goal

pub narrow-requires : goal.narrow-requires
narrow-requires c =
    let ws = c.args.words.now in
    let f = layout_at template_kind template_role in
    let e = c.fill.ensures ∙ ap (λ (f : Layout). unpacked f ws) c.of-f.ensures.is in
    (subst (Fitting 8) (sym e) (unpacked_fits f template_laid ws), c.if-record-ne-BYTES.false ∙ sym (ap length e ∙ unpacked_length f ws))
