-- The numbers of the rule, by ones or by twos. Assumes nothing.
use Rattle.std.proofs.Common.{◌≡◌, ℕ, ◌+◌, ◌*◌, ◌/◌, ◌%◌, ap, ap₂, ◌∙◌}
use Rattle.step_products.proofs.Rows.{stands_at}
use Rattle.step_products.proofs.word_at.Goals as goal

pub returns : goal.returns
returns c =
    let s = c.args in
    let major : c.quotient-major.result ≡ s.t / 4 / s.spans = c.quotient-major.ensures in
    ap₂ ◌+◌
    (c.multiple-2.ensures.0 ∙ ap₂ (λ (n m : ℕ). (n + m) * s.halves) (c.multiple.ensures.0 ∙ ap (λ (n : ℕ). (n % 8 * 4 + s.t % 4) * s.spans) major) c.remainder-span.ensures)
    (ap (λ (n : ℕ). n / 8) major)
    ∙ stands_at s.spans s.halves s.t c.requires.0
